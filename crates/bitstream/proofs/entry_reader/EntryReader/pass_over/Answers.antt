use Rattle.std.proofs.Common.{◌∙◌, ◌∷◌, [], ap, sym, subst}
use Rattle.std.proofs.lemmas.Bool.{eq-eqb}
use Rattle.bitstream.specs.Cursor.{here}
use Rattle.bitstream.specs.Sparse.{filled}
use Rattle.bitstream.specs.Reading.{EntryGives, context}
use Rattle.bitstream.proofs.SparseLaws.{passed-named}
use Rattle.bitstream.proofs.entry_reader.EntryReader.pass_over.Goals as goal

pub returns-in-Some-next : goal.returns-in-Some-next
returns-in-Some-next c = λ blob.
    let numbers = sym c.new-left.ensures ∙ c.in-Some.ensures.some ∙ ap (λ rest. c.in-Some.code ∷ rest) c.in-Some-next.ensures.some in
    let named = eq-eqb c.in-Some.code 1 c.if-code-ne-BLOCKINFO_CODE_SETBID.false in
    subst (λ r. EntryGives (context c.name_block.new.self) (here c.name_block.new.self.cursor) c.name_block.result r)
    (sym (passed-named c.args.at c.in-Some.code c.in-Some-next.block (filled c.args.ops.now c.args.in_bits.now) _ blob (context c.args.self.now) (here c.args.self.now.cursor) c.requires named numbers))
    (c.name_block.ensures [])
