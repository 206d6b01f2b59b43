use Rattle.std.proofs.Common.{◌∙◌, ap, sym, subst, drop, Ok, Some}
use Rattle.std.proofs.lemmas.Bool.{ne_eqb}
use Rattle.bitstream.specs.Cursor.{here}
use Rattle.bitstream.specs.Sparse.{filled}
use Rattle.bitstream.specs.Stream.{slice_seen}
use Rattle.bitstream.specs.Reading.{EntryGives, Record, context}
use Rattle.bitstream.proofs.SparseLaws.{sparse-err, sparse-is, item-is, nothing-is, many-numbers}
use Rattle.bitstream.proofs.entry_reader.EntryReader.sparse.Goals as goal

pub returns-in-Err : goal.returns-in-Err
returns-in-Err c = λ fault. sparse-err c.args.at c.args.definition c.in_bits.result.now (context c.args.self.now) (here c.args.self.now.cursor) c.new-in_bits.result.items c.in-Err.fault
    c.in_bits.ensures.ops c.new-in_bits.ensures.items (c.in-Err.ensures fault)

pub returns-then-self-eq-BLOCKINFO_BLOCK_ID : goal.returns-then-self-eq-BLOCKINFO_BLOCK_ID
returns-then-self-eq-BLOCKINFO_BLOCK_ID c =
    subst (λ r. EntryGives (context c.pass_over.new.self) (here c.pass_over.new.self.cursor) c.pass_over.result r)
    (sym (sparse-is c.args.at c.args.definition c.in_bits.result.now c.as_slice.result.now (context c.args.self.now) (here c.args.self.now.cursor) (here c.values.new.self)
    c.new-in_bits.result.items c.values.new.values.items c.as_slice-then-self-eq-BLOCKINFO_BLOCK_ID.result.now (slice_seen c.in-Ok.blob) c.in_bits.ensures.ops c.new-in_bits.ensures.items c.in-Ok.ensures
    c.as_slice.ensures.ops c.as_slice-then-self-eq-BLOCKINFO_BLOCK_ID.ensures.value)) (c.pass_over.ensures (slice_seen c.in-Ok.blob))

pub from_shared-requires : goal.from_shared-requires
from_shared-requires c = many-numbers c.args.definition c.in_bits.result.now (here c.args.self.now.cursor) (here c.values.new.self)
    c.new-in_bits.result.items c.values.new.values.items (slice_seen c.in-Ok.blob) c.in_bits.ensures.ops c.new-in_bits.ensures.items c.in-Ok.ensures c.requires

pub returns-in-Some : goal.returns-in-Some
returns-in-Some c =
    let whole = sparse-is c.args.at c.args.definition c.in_bits.result.now c.as_slice-2.result.now (context c.args.self.now) (here c.args.self.now.cursor) (here c.values.new.self)
    c.new-in_bits.result.items c.values.new.values.items c.as_slice-3.result.now (slice_seen c.in-Ok.blob) c.in_bits.ensures.ops c.new-in_bits.ensures.items c.in-Ok.ensures
    c.as_slice-2.ensures.ops c.as_slice-3.ensures.value in
    let item = item-is c.args.at c.in-Some.code (filled c.as_slice-2.result.now c.as_slice-3.result.now) _ (slice_seen c.in-Ok.blob) (context c.args.self.now) (here c.values.new.self)
    (ne_eqb c.args.self.now.scope.block 0 c.if-self-eq-BLOCKINFO_BLOCK_ID.false) (sym c.new.ensures ∙ c.in-Some.ensures.some) in
    let operands = ap (λ ops. drop 1 (filled ops c.as_slice-3.result.now)) c.as_slice-2.ensures.ops ∙ ap (λ numbers. drop 1 (filled c.args.definition numbers)) c.as_slice-3.ensures.value
    ∙ sym c.from_shared.ensures in
    whole ∙ item ∙ ap (λ numbers. Ok ((Some (Record c.in-Some.code numbers (slice_seen c.in-Ok.blob)), context c.args.self.now), here c.values.new.self)) operands

pub returns : goal.returns
returns c =
    let whole = sparse-is c.args.at c.args.definition c.in_bits.result.now c.as_slice-2.result.now (context c.args.self.now) (here c.args.self.now.cursor) (here c.values.new.self)
    c.new-in_bits.result.items c.values.new.values.items c.as_slice-3.result.now (slice_seen c.in-Ok.blob) c.in_bits.ensures.ops c.new-in_bits.ensures.items c.in-Ok.ensures
    c.as_slice-2.ensures.ops c.as_slice-3.ensures.value in
    let none = nothing-is c.args.at (filled c.as_slice-2.result.now c.as_slice-3.result.now) c.new-in-None.result.items (slice_seen c.in-Ok.blob) (context c.args.self.now) (here c.values.new.self)
    (sym c.new.ensures ∙ c.in-None.ensures.none) c.new-in-None.ensures.items in
    subst (λ r. EntryGives (context c.record.new.self) (here c.record.new.self.cursor) c.record.result r) (sym (whole ∙ none)) c.record.ensures
