use Rattle.std.proofs.Common.{subst, ◌∙◌, sym, [], ◌∷◌, length, None, ap}
use Rattle.bitstream.specs.Items.{items_in}
use Rattle.bitstream.specs.Reading.{Record, LeaveBlock}
use Rattle.bitstream.specs.Bits.{bits_of}
use Rattle.bitstream.specs.Writer.{writing}
use Rattle.swiftdeps.proofs.ShownLaws.{also_one, block_shown}
use Rattle.std.specs.List.{AllByRecursion}
use Rattle.swiftdeps.specs.Written.{IsByte}
use Rattle.swiftdeps.proofs.WriteLaws.{block_written}
use Rattle.swiftdeps.proofs.writing.write_block.Goals as goal

pub returns-clause-written : goal.returns-clause-written
returns-clause-written c = record {
  bytes = subst (λ bs. AllByRecursion IsByte bs) c.deref.ensures.value c.are_bytes.ensures;
  names = c.in_ok-names.names;
  are_names = c.in_ok-names.ensures;
  ended = writing c.leave.new.self;
  block = block_written c.args.version c.in_ok-names.names c.args.files.now (writing c.in_ok-writer.writer) (writing c.put_rec.new.self) (writing c.put_identifiers.new.writer) (writing c.put_files.new.writer) (writing c.leave.new.self)
      c.in_ok-writer.ensures.written c.in_ok-put_rec.ensures.ok
      c.in_ok-put_identifiers.ensures.written c.in_ok-put_files.ensures.written
      c.in_ok-leave.ensures.ok;
  bits = ap bits_of c.into_vec-stream.ensures ∙ c.into_bytes.ensures.bits;
}

pub returns-clause-stands : goal.returns-clause-stands
returns-clause-stands c =
    let names = c.in_ok-names.names in
    let files = c.args.files.now in
    let a = writing c.in_ok-writer.writer in
    let b = writing c.put_rec.new.self in
    let d = writing c.put_identifiers.new.writer in
    let e = writing c.put_files.new.writer in
    let f = writing c.leave.new.self in
    let header = also_one (length a.bits) (Record 1 (c.args.version ∷ []) None) a b c.in_ok-put_rec.ensures.wrote in
    let left = also_one (length e.bits) LeaveBlock e f c.in_ok-leave.ensures.wrote in
    let all = block_shown c.args.version names files a b d e f c.in_ok-writer.ensures.shown header c.in_ok-put_identifiers.ensures.shown c.in_ok-put_files.ensures.shown left in
    record {
      names = names;
      are_names = c.in_ok-names.ensures;
      items = all.0;
      read = ap items_in c.into_vec-stream.ensures ∙ c.into_bytes.ensures.read_back all.0 all.1;
      spelled = all.2;
    }
