use Rattle.std.proofs.Common.{[], ◌∷◌, ◌++◌, sym, ◌∙◌, ap, subst, arith}
use Rattle.grammar.specs.Faults.{Parsed}
use Rattle.grammar.proofs.Basics.{not_begins, taken_shorter}
use Rattle.grammar.proofs.Lines.{LinesTaken, lines_none, lines_first, lines_begun, lines_later, lines_pushed, lines_done}
use Rattle.swift_ast.specs.Tests.{on, begins_struct_member, on_new_line}
use Rattle.swift_ast.proofs.DeclarationLaws.{struct_members_form, struct_line_form, struct_line_begun, struct_lines}
use Rattle.swift_parser.proofs.Exits.{passes}
use Rattle.swift_parser.proofs.declarations.struct_members.Goals as goal

pub returns-then-not-sees-clause-reads : goal.returns-then-not-sees-clause-reads
returns-then-not-sees-clause-reads c = subst (λ xs. Parsed struct_members_form xs (struct_members_form.continues xs) c.args.tokens.now c.args.tokens.now) (sym c.new-all.ensures)
    (lines_none (on begins_struct_member) (on (on_new_line begins_struct_member)) struct_line_form c.args.tokens.now (not_begins (on begins_struct_member) c.args.tokens.now (sym c.sees.ensures ∙ c.if-not-sees.true)))

pub returns-in_err-first-clause-reads : goal.returns-in_err-first-clause-reads
returns-in_err-first-clause-reads c = passes struct_line_form struct_members_form c.from_residual.result c.in_err-first.field-0.0 c.args.tokens.now c.struct_member_with_access.new.tokens c.args.tokens.now c.struct_member_with_access.new.tokens c.from_residual.ensures.1 c.in_err-first.ensures.reads
    (λ r. lines_first struct_lines (sym c.sees.ensures ∙ c.if-not-sees.false) r)

pub loop-alloc-init : goal.loop-alloc-init
loop-alloc-init c = (
  subst (λ xs. LinesTaken (on begins_struct_member) (on (on_new_line begins_struct_member)) struct_line_form xs c.args.tokens.now c.struct_member_with_access.new.tokens) (sym (c.in_ok-push.ensures.ok ∙ ap (λ xs. xs ++ (c.in_ok-first.first ∷ [])) c.new-all.ensures)) (lines_begun (on begins_struct_member) (on (on_new_line begins_struct_member)) struct_line_form c.in_ok-first.ensures.reads),
  c.in_ok-first.ensures.shrinks,
)

pub returns-in_err-later-clause-reads : goal.returns-in_err-later-clause-reads
returns-in_err-later-clause-reads c = passes struct_line_form struct_members_form c.from_residual-in_err-later.result c.in_err-later.field-0.0 c.loop-alloc.tokens c.struct_member_with_access-in-loop-alloc.new.tokens c.args.tokens.now c.struct_member_with_access-in-loop-alloc.new.tokens c.from_residual-in_err-later.ensures.1 c.in_err-later.ensures.reads
    (λ r. lines_later struct_lines c.loop-alloc.invariant.0 (sym c.sees-in-loop-alloc.ensures ∙ c.loop-alloc-test.true) r)

pub loop-alloc-preserved : goal.loop-alloc-preserved
loop-alloc-preserved c = (
  subst (λ xs. LinesTaken (on begins_struct_member) (on (on_new_line begins_struct_member)) struct_line_form xs c.args.tokens.now c.struct_member_with_access-in-loop-alloc.new.tokens) (sym c.in_ok-push-2.ensures.ok) (lines_pushed struct_lines c.loop-alloc.invariant.0 (sym c.sees-in-loop-alloc.ensures ∙ c.loop-alloc-test.true) c.in_ok-later.ensures.reads),
  omega (arith, c.loop-alloc.invariant.1, c.in_ok-later.ensures.shrinks),
)

pub loop-alloc-smaller : goal.loop-alloc-smaller
loop-alloc-smaller c = taken_shorter (on begins_struct_member) struct_line_begun c.in_ok-later.ensures.reads

pub returns-clause-reads : goal.returns-clause-reads
returns-clause-reads c = lines_done c.loop-alloc.invariant.0 (not_begins (on (on_new_line begins_struct_member)) c.loop-alloc.tokens (sym c.sees-in-loop-alloc.ensures ∙ c.loop-alloc-test.false))
