-- What the files of a module come to, each by what its keys mean.
use Rattle.std.specs.Prelude.{ℕ, ◌==◌, List, map, length, if◌then◌else◌}
use Rattle.dep_key.specs.declared.key.Key.{Key}
use Rattle.dep_key.specs.declared.graph.FileGraph.{FileGraph}
use Rattle.diag_text.specs.declared.diag.Diag.{Diag}
use Rattle.type_rules.specs.declared.meaning.Meaning.{Meaning}
use Rattle.type_infer.specs.Meanings.{meaning_in}
use Rattle.swift_ast.specs.declared.declarations.FileTree.{FileTree}
use Rattle.typed_code.specs.declared.units.Unit.{Unit as CodeUnit}
use Rattle.expr_check.specs.declared.line.Line.{Line}
use Rattle.body_check.specs.Files.{file_errors, file_units, file_uses}
use Rattle.file_nodes.specs.Graphs.{graph_of}
use Rattle.iface_print.specs.Partials.{partial_text}
use Rattle.object_emit.specs.Objects.{object_text}
use Rattle.module_compile.specs.declared.compiled.CompiledFile.{CompiledFile}
use Rattle.module_compile.specs.declared.compiled.FileTexts.{FileTexts}
use Rattle.module_compile.specs.declared.compiled.Outcome.{Outcome}
use Rattle.module_compile.specs.declared.compiled.Outcome.TheVariants.{Texts, Errors}

abbrev pub error_in : List ℕ → Line → Diag
error_in path l = record { path = path; line = l.line; column = l.column; text = l.text }

-- the object text of units of code at a path, and the partial text of a file
abbrev pub texts_as : (Key → Meaning) → List ℕ → List CodeUnit → FileTree → FileTexts
texts_as meanings path units file = record { object = object_text meanings path units; partial = partial_text meanings file }

-- the texts of checked units, or the errors where there are any
abbrev pub outcome_as : (Key → Meaning) → List ℕ → List Line → List CodeUnit → FileTree → Outcome
outcome_as meanings path errors units file = if (length errors == 0) then Texts (texts_as meanings path units file) else Errors (map (error_in path) errors)

-- the outcome of a file, where keys have these meanings
abbrev pub outcome_with : (Key → Meaning) → FileTree → Outcome
outcome_with meanings file = outcome_as meanings file.path (file_errors meanings file) (file_units meanings file) file

-- the graph of a file: its implementation uses what checking it uses
abbrev pub graph_with : (Key → Meaning) → FileTree → FileGraph
graph_with meanings file = graph_of meanings (file_uses meanings file) file

abbrev pub compiled_with : (Key → Meaning) → FileTree → CompiledFile
compiled_with meanings file = record { outcome = outcome_with meanings file; graph = graph_with meanings file }

-- A file of a module, compiled: keys mean what they mean in the module.
unfoldable pub compiled_in : List FileTree → FileTree → CompiledFile
compiled_in files file = compiled_with (meaning_in files) file
