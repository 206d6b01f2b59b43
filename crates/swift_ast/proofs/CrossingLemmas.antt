-- Trees may cross threads: what they hold does, and a cycle of types does where what it holds does.
use mathlib.Core.List.{[], ◌∷◌}
use denote.RattleType.{RattleType}
use denote.Struct.Tuple.{Tuple, tuple_type}
use denote.Struct.Declared.{shape}
use denote.Struct.Field.{row_field}
use denote.Param.Send.{IsSend, IsSync, struct_send, struct_sync}
use denote.Param.SendFields.{as_row_send, as_row_sync, declared_send, declared_sync, variants_send, variants_sync}
use Rattle.std.proofs.option.Option.TheSendSync as option
use Rattle.sqlite_items.proofs.items.Items.TheSendSync as items
use Rattle.sqlite_items.proofs.boxed.Boxed.TheSendSync as boxed
use Rattle.swift_ast.proofs.tokens.Leaf.TheSendSync as leaf
use Rattle.swift_ast.proofs.expressions.CmpOperator.TheSendSync as cmp_operator
use Rattle.swift_ast.proofs.expressions.SumOperator.TheSendSync as sum_operator
use Rattle.swift_ast.proofs.expressions.ProductOperator.TheSendSync as product_operator
use Rattle.swift_ast.proofs.statements.TypeName.TheSendSync as type_name
use Rattle.swift_ast.proofs.statements.Target.TheSendSync as target
use Rattle.swift_ast.proofs.statements.BindingSpecifier.TheSendSync as specifier
use Rattle.swift_ast.proofs.expressions.Atom.TheLaws.TheKnot as expressions
use Rattle.swift_ast.proofs.statements.Stmt.TheLaws.TheKnot as statements
use Rattle.swift_ast.specs.contracts.tokens.Leaf as LeafRow
use Rattle.std.specs.contracts.option.Option.{the_row as option_row}
use Rattle.sqlite_items.specs.contracts.items.Items.{the_row as items_row}
use Rattle.swift_ast.specs.contracts.expressions.Arg as argument
use Rattle.swift_ast.specs.contracts.expressions.Expr as expr
use Rattle.swift_ast.specs.contracts.expressions.Postfix as postfix
use Rattle.swift_ast.specs.contracts.statements.Call as call
use Rattle.swift_ast.specs.contracts.statements.Block as block
use Rattle.swift_ast.specs.contracts.declarations.Global as global
use Rattle.swift_ast.specs.contracts.declarations.Func as func
use Rattle.swift_ast.specs.contracts.declarations.StoredValue as stored_value
use Rattle.swift_ast.specs.contracts.declarations.Stored as stored
use Rattle.swift_ast.specs.contracts.declarations.Computed as computed
use Rattle.swift_ast.specs.contracts.declarations.StructMember as struct_member
use Rattle.swift_ast.specs.contracts.declarations.Struct as struct_
use Rattle.swift_ast.specs.contracts.declarations.ExtensionMember as extension_member
use Rattle.swift_ast.specs.contracts.declarations.Extension as extension
use Rattle.swift_ast.specs.contracts.declarations.NamedDecl as named
use Rattle.swift_ast.specs.contracts.declarations.Decl as decl
use Rattle.swift_ast.specs.contracts.declarations.FileTree as file_tree
use Rattle.swift_ast.proofs.declarations.Param.TheSendSync as param
use Rattle.swift_ast.proofs.declarations.Access.TheSendSync as access
use Rattle.swift_ast.proofs.declarations.Alias.TheSendSync as alias
use Rattle.swift_ast.proofs.text.Text.TheSendSync as text

pair_send : (A B : RattleType) → IsSend A → IsSend B → IsSend (Tuple (A ∷ B ∷ []))
pair_send A B a b = declared_send (tuple_type (A ∷ B ∷ [])) (as_row_send (row_field A) a, (as_row_send (row_field B) b, tt))

triple_send : (A B C : RattleType) → IsSend A → IsSend B → IsSend C → IsSend (Tuple (A ∷ B ∷ C ∷ []))
triple_send A B C a b c = declared_send (tuple_type (A ∷ B ∷ C ∷ [])) (as_row_send (row_field A) a, (as_row_send (row_field B) b, (as_row_send (row_field C) c, tt)))

pub marked_send : (h : RattleType) → IsSend h → IsSend (Tuple (LeafRow.the_row ∷ h ∷ []))
marked_send h s = pair_send LeafRow.the_row h leaf.the_send s

pub row_send : (h : RattleType) → IsSend h → IsSend (option_row (Tuple (h ∷ items_row (Tuple (LeafRow.the_row ∷ h ∷ [])) ∷ [])))
row_send h s = option.the_send _ (pair_send h _ s (items.the_send _ (marked_send h s)))

pub expr_field_send : IsSend (expr.the_field).row
expr_field_send = expressions.send-Expr leaf.the_field_send (λ h s. boxed.the_send _ (triple_send _ _ _ leaf.the_send s leaf.the_send)) (λ h s. boxed.the_send h s) (λ h s. items.the_send _ (marked_send h s))
    (option.the_field_send _ (marked_send _ leaf.the_send)) (λ h s. row_send h s) (λ arg. option.the_field_send _ (pair_send _ _ (as_row_send argument.the_field arg) (items.the_send _ (marked_send _ (as_row_send argument.the_field arg)))))
    (λ h s. option.the_send _ (boxed.the_send _ (pair_send _ _ cmp_operator.the_send s))) (λ h s. items.the_send h s) (option.the_field_send _ (boxed.the_send _ leaf.the_send))
    (λ h s. items.the_send _ (pair_send _ _ product_operator.the_send s)) (λ h s. items.the_send _ (pair_send _ _ sum_operator.the_send s))

pub expr_send : IsSend expr.the_row
expr_send = as_row_send expr.the_field expr_field_send

pub postfix_field_send : IsSend (postfix.the_field).row
postfix_field_send = expressions.send-Postfix leaf.the_field_send (λ h s. boxed.the_send _ (triple_send _ _ _ leaf.the_send s leaf.the_send)) (λ h s. boxed.the_send h s) (λ h s. items.the_send _ (marked_send h s))
    (option.the_field_send _ (marked_send _ leaf.the_send)) (λ h s. row_send h s) (λ arg. option.the_field_send _ (pair_send _ _ (as_row_send argument.the_field arg) (items.the_send _ (marked_send _ (as_row_send argument.the_field arg)))))
    (λ h s. option.the_send _ (boxed.the_send _ (pair_send _ _ cmp_operator.the_send s))) (λ h s. items.the_send h s) (option.the_field_send _ (boxed.the_send _ leaf.the_send))
    (λ h s. items.the_send _ (pair_send _ _ product_operator.the_send s)) (λ h s. items.the_send _ (pair_send _ _ sum_operator.the_send s))

pub postfix_send : IsSend postfix.the_row
postfix_send = as_row_send postfix.the_field postfix_field_send

pub block_field_send : IsSend (block.the_field).row
block_field_send = statements.send-Block specifier.the_field_send leaf.the_field_send (option.the_field_send _ (marked_send _ type_name.the_send)) expr_field_send target.the_field_send
    (option.the_field_send _ expr_send) (struct_send (shape call.the_type) (postfix_field_send, tt)) (λ h s. items.the_send h s) (λ h s. option.the_send _ (marked_send h s)) (λ b. option.the_field_send _ (marked_send _ (as_row_send block.the_field b)))

pub block_send : IsSend block.the_row
block_send = as_row_send block.the_field block_field_send

pair_sync : (A B : RattleType) → IsSync A → IsSync B → IsSync (Tuple (A ∷ B ∷ []))
pair_sync A B a b = declared_sync (tuple_type (A ∷ B ∷ [])) (as_row_sync (row_field A) a, (as_row_sync (row_field B) b, tt))

triple_sync : (A B C : RattleType) → IsSync A → IsSync B → IsSync C → IsSync (Tuple (A ∷ B ∷ C ∷ []))
triple_sync A B C a b c = declared_sync (tuple_type (A ∷ B ∷ C ∷ [])) (as_row_sync (row_field A) a, (as_row_sync (row_field B) b, (as_row_sync (row_field C) c, tt)))

pub marked_sync : (h : RattleType) → IsSync h → IsSync (Tuple (LeafRow.the_row ∷ h ∷ []))
marked_sync h s = pair_sync LeafRow.the_row h leaf.the_sync s

pub row_sync : (h : RattleType) → IsSync h → IsSync (option_row (Tuple (h ∷ items_row (Tuple (LeafRow.the_row ∷ h ∷ [])) ∷ [])))
row_sync h s = option.the_sync _ (pair_sync h _ s (items.the_sync _ (marked_sync h s)))

pub expr_field_sync : IsSync (expr.the_field).row
expr_field_sync = expressions.sync-Expr leaf.the_field_sync (λ h s. boxed.the_sync _ (triple_sync _ _ _ leaf.the_sync s leaf.the_sync)) (λ h s. boxed.the_sync h s) (λ h s. items.the_sync _ (marked_sync h s))
    (option.the_field_sync _ (marked_sync _ leaf.the_sync)) (λ h s. row_sync h s) (λ arg. option.the_field_sync _ (pair_sync _ _ (as_row_sync argument.the_field arg) (items.the_sync _ (marked_sync _ (as_row_sync argument.the_field arg)))))
    (λ h s. option.the_sync _ (boxed.the_sync _ (pair_sync _ _ cmp_operator.the_sync s))) (λ h s. items.the_sync h s) (option.the_field_sync _ (boxed.the_sync _ leaf.the_sync))
    (λ h s. items.the_sync _ (pair_sync _ _ product_operator.the_sync s)) (λ h s. items.the_sync _ (pair_sync _ _ sum_operator.the_sync s))

pub expr_sync : IsSync expr.the_row
expr_sync = as_row_sync expr.the_field expr_field_sync

pub postfix_field_sync : IsSync (postfix.the_field).row
postfix_field_sync = expressions.sync-Postfix leaf.the_field_sync (λ h s. boxed.the_sync _ (triple_sync _ _ _ leaf.the_sync s leaf.the_sync)) (λ h s. boxed.the_sync h s) (λ h s. items.the_sync _ (marked_sync h s))
    (option.the_field_sync _ (marked_sync _ leaf.the_sync)) (λ h s. row_sync h s) (λ arg. option.the_field_sync _ (pair_sync _ _ (as_row_sync argument.the_field arg) (items.the_sync _ (marked_sync _ (as_row_sync argument.the_field arg)))))
    (λ h s. option.the_sync _ (boxed.the_sync _ (pair_sync _ _ cmp_operator.the_sync s))) (λ h s. items.the_sync h s) (option.the_field_sync _ (boxed.the_sync _ leaf.the_sync))
    (λ h s. items.the_sync _ (pair_sync _ _ product_operator.the_sync s)) (λ h s. items.the_sync _ (pair_sync _ _ sum_operator.the_sync s))

pub postfix_sync : IsSync postfix.the_row
postfix_sync = as_row_sync postfix.the_field postfix_field_sync

pub block_field_sync : IsSync (block.the_field).row
block_field_sync = statements.sync-Block specifier.the_field_sync leaf.the_field_sync (option.the_field_sync _ (marked_sync _ type_name.the_sync)) expr_field_sync target.the_field_sync
    (option.the_field_sync _ expr_sync) (struct_sync (shape call.the_type) (postfix_field_sync, tt)) (λ h s. items.the_sync h s) (λ h s. option.the_sync _ (marked_sync h s)) (λ b. option.the_field_sync _ (marked_sync _ (as_row_sync block.the_field b)))

pub block_sync : IsSync block.the_row
block_sync = as_row_sync block.the_field block_field_sync

pub global_send : IsSend global.the_row
global_send = declared_send global.the_type (specifier.the_send, (leaf.the_send, (option.the_send _ (marked_send _ type_name.the_send), (leaf.the_send, (expr_send, tt)))))

pub func_send : IsSend func.the_row
func_send = declared_send func.the_type (leaf.the_send, (leaf.the_send, (leaf.the_send, (row_send _ param.the_send, (leaf.the_send, (option.the_send _ (marked_send _ type_name.the_send), (block_send, tt)))))))

pub stored_value_send : IsSend stored_value.the_row
stored_value_send = variants_send stored_value.enum ((leaf.the_send, (type_name.the_send, (option.the_send _ (marked_send _ expr_send), tt))), ((leaf.the_send, (expr_send, tt)), tt))

pub stored_send : IsSend stored.the_row
stored_send = declared_send stored.the_type (specifier.the_send, (leaf.the_send, (stored_value_send, tt)))

pub computed_send : IsSend computed.the_row
computed_send = declared_send computed.the_type (leaf.the_send, (leaf.the_send, (leaf.the_send, (type_name.the_send, (block_send, tt)))))

pub struct_member_send : IsSend struct_member.the_row
struct_member_send = variants_send struct_member.enum ((stored_send, tt), ((computed_send, tt), ((func_send, tt), tt)))

pub struct__send : IsSend struct_.the_row
struct__send = declared_send struct_.the_type (leaf.the_send, (leaf.the_send, (leaf.the_send, (as_row_send (row_field _) (items.the_send _ (pair_send _ _ (option.the_send _ access.the_send) struct_member_send)), (leaf.the_send, tt)))))

pub extension_member_send : IsSend extension_member.the_row
extension_member_send = variants_send extension_member.enum ((computed_send, tt), ((func_send, tt), tt))

pub extension_send : IsSend extension.the_row
extension_send = declared_send extension.the_type (leaf.the_send, (leaf.the_send, (leaf.the_send, (as_row_send (row_field _) (items.the_send _ (pair_send _ _ (option.the_send _ access.the_send) extension_member_send)), (leaf.the_send, tt)))))

pub named_send : IsSend named.the_row
named_send = variants_send named.enum ((global_send, tt), ((func_send, tt), ((struct__send, tt), ((alias.the_send, tt), tt))))

pub decl_send : IsSend decl.the_row
decl_send = variants_send decl.enum ((option.the_send _ access.the_send, (named_send, tt)), ((extension_send, tt), tt))

pub file_tree_send : IsSend file_tree.the_row
file_tree_send = declared_send file_tree.the_type (text.the_send, (as_row_send (row_field _) (items.the_send _ (decl_send)), tt))

pub global_sync : IsSync global.the_row
global_sync = declared_sync global.the_type (specifier.the_sync, (leaf.the_sync, (option.the_sync _ (marked_sync _ type_name.the_sync), (leaf.the_sync, (expr_sync, tt)))))

pub func_sync : IsSync func.the_row
func_sync = declared_sync func.the_type (leaf.the_sync, (leaf.the_sync, (leaf.the_sync, (row_sync _ param.the_sync, (leaf.the_sync, (option.the_sync _ (marked_sync _ type_name.the_sync), (block_sync, tt)))))))

pub stored_value_sync : IsSync stored_value.the_row
stored_value_sync = variants_sync stored_value.enum ((leaf.the_sync, (type_name.the_sync, (option.the_sync _ (marked_sync _ expr_sync), tt))), ((leaf.the_sync, (expr_sync, tt)), tt))

pub stored_sync : IsSync stored.the_row
stored_sync = declared_sync stored.the_type (specifier.the_sync, (leaf.the_sync, (stored_value_sync, tt)))

pub computed_sync : IsSync computed.the_row
computed_sync = declared_sync computed.the_type (leaf.the_sync, (leaf.the_sync, (leaf.the_sync, (type_name.the_sync, (block_sync, tt)))))

pub struct_member_sync : IsSync struct_member.the_row
struct_member_sync = variants_sync struct_member.enum ((stored_sync, tt), ((computed_sync, tt), ((func_sync, tt), tt)))

pub struct__sync : IsSync struct_.the_row
struct__sync = declared_sync struct_.the_type (leaf.the_sync, (leaf.the_sync, (leaf.the_sync, (as_row_sync (row_field _) (items.the_sync _ (pair_sync _ _ (option.the_sync _ access.the_sync) struct_member_sync)), (leaf.the_sync, tt)))))

pub extension_member_sync : IsSync extension_member.the_row
extension_member_sync = variants_sync extension_member.enum ((computed_sync, tt), ((func_sync, tt), tt))

pub extension_sync : IsSync extension.the_row
extension_sync = declared_sync extension.the_type (leaf.the_sync, (leaf.the_sync, (leaf.the_sync, (as_row_sync (row_field _) (items.the_sync _ (pair_sync _ _ (option.the_sync _ access.the_sync) extension_member_sync)), (leaf.the_sync, tt)))))

pub named_sync : IsSync named.the_row
named_sync = variants_sync named.enum ((global_sync, tt), ((func_sync, tt), ((struct__sync, tt), ((alias.the_sync, tt), tt))))

pub decl_sync : IsSync decl.the_row
decl_sync = variants_sync decl.enum ((option.the_sync _ access.the_sync, (named_sync, tt)), ((extension_sync, tt), tt))

pub file_tree_sync : IsSync file_tree.the_row
file_tree_sync = declared_sync file_tree.the_type (text.the_sync, (as_row_sync (row_field _) (items.the_sync _ (decl_sync)), tt))
