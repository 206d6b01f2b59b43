use denote.Param.Send.{param_send, param_sync, arg_send, arg_sync}
use Rattle.swift_ast.proofs.CrossingLemmas.{file_tree_send, file_tree_sync}
use Rattle.swift_ast.proofs.threads.file_tree_crosses_threads.Goals as goal

pub crosses_threads-requires-send-T : goal.crosses_threads-requires-send-T
crosses_threads-requires-send-T c κs = search (file_tree_send, param_send, arg_send)

pub crosses_threads-requires-sync-T : goal.crosses_threads-requires-sync-T
crosses_threads-requires-sync-T c κs = search (file_tree_sync, param_sync, arg_sync)
