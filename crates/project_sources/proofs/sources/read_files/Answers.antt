use Rattle.std.proofs.Common.{refl, sym, ◌≡◌, ◌∙◌, ◌+◌, ◌<◌, [], ◌∷◌, ◌++◌, drop, arith}
use Rattle.std.specs.Prelude.{IfSome}
use Rattle.drv_outside.specs.TreeState.{bytes_at}
use Rattle.frontend.specs.Parsing.{IsParsed}
use Rattle.project_sources.specs.declared.listing.TheConstants.{MOST_SOURCE_BYTES}
use Rattle.drv_outside.specs.Reads.{reads_then}
use Rattle.project_sources.proofs.CallLemmas.{pass_nothing, pass_then}
use Rattle.project_sources.proofs.ParsedLemmas.{no_files, no_bytes, sources_stay, item_first, next_file, next_path, next_bytes, too_large, all_read, was_read}
use Rattle.std.proofs.lemmas.List.{drop_all}
use Rattle.project_sources.proofs.sources.read_files.Goals as goal

pub loop-entry-init : goal.loop-entry-init
loop-entry-init g c = record { passed = pass_nothing _; files = no_files _ _ _ c.new-files.ensures.items; paths = rw c.new-files.ensures.items refl; few = omega arith; bytes = no_bytes c.args.entries.now (g.T.Tree.observed c.args.tree.now); count = refl }

pub returns-in_err-read-clause-reads : goal.returns-in_err-read-clause-reads
returns-in_err-read-clause-reads g c = reads_then _ _ _ c.loop-entry.invariant.passed.reads c.in_err-read.ensures.reads

pub returns-in_err-push-clause-reads : goal.returns-in_err-push-clause-reads
returns-in_err-push-clause-reads g c = reads_then _ _ _ c.loop-entry.invariant.passed.reads c.in_ok-read.ensures.reads

pub loop-entry-preserved : goal.loop-entry-preserved
loop-entry-preserved g c =
    let observed = g.T.Tree.observed in
    let here : drop c.loop-entry.entry-index c.args.entries.now ≡ c.entry-item.result ∷ drop (c.loop-entry.entry-index + 1) c.args.entries.now = item_first _ _ c.entry-item.result c.loop-entry-test.true (sym c.entry-item.is) in
    let pushed : c.push.new.self.items ≡ c.loop-entry.files.items ++ c.in_ok-read.read.file ∷ [] = c.in_ok-push.ensures.items in
    let parsed : IfSome (observed c.args.tree.now) (λ t. IsParsed c.entry-item.result.path (bytes_at c.entry-item.result.path t.sources) c.in_ok-read.read.file) =
    sources_stay (λ sources. IsParsed c.entry-item.result.path (bytes_at c.entry-item.result.path sources) c.in_ok-read.read.file) _ _ c.loop-entry.invariant.passed.reads c.in_ok-read.ensures.file in
    record {
      passed = pass_then _ _ _ c.loop-entry.invariant.passed c.in_ok-read.ensures.passed;
      files = next_file c.args.entries.now c.loop-entry.entry-index c.entry-item.result c.loop-entry.files.items c.in_ok-read.read.file c.push.new.self.items (observed c.args.tree.now) here pushed c.loop-entry.invariant.files parsed;
      paths = next_path c.args.entries.now c.loop-entry.entry-index c.entry-item.result c.loop-entry.files.items c.in_ok-read.read.file c.push.new.self.items here pushed c.in_ok-read.ensures.path c.loop-entry.invariant.paths;
      few = omega arith;
      bytes = next_bytes c.args.entries.now c.loop-entry.entry-index c.entry-item.result c.loop-entry.bytes c.in_ok-read.read.bytes (observed c.args.tree.now) here
          (was_read c.entry-item.result c.in_ok-read.read.bytes _ _ c.loop-entry.invariant.passed.reads c.in_ok-read.ensures.bytes) c.loop-entry.invariant.bytes;
      count = c.in_ok-read.ensures.ok_count ∙ c.loop-entry.invariant.count;
    }

pub returns-clause-files : goal.returns-clause-files
returns-clause-files g c = all_read c.args.entries.now c.loop-entry.entry-index c.loop-entry.bytes c.loop-entry.files (g.T.Tree.observed c.args.tree.now) (drop_all _ _ c.loop-entry-test.false) c.loop-entry.invariant.few c.loop-entry.invariant.files c.loop-entry.invariant.bytes

pub returns-clause-reads : goal.returns-clause-reads
returns-clause-reads g c = c.loop-entry.invariant.passed.reads

pub returns-then-read-bytes-clause-passed : goal.returns-then-read-bytes-clause-passed
returns-then-read-bytes-clause-passed g c = pass_then _ _ _ c.loop-entry.invariant.passed c.in_ok-read.ensures.passed

pub returns-then-read-bytes-clause-reads : goal.returns-then-read-bytes-clause-reads
returns-then-read-bytes-clause-reads g c = reads_then _ _ _ c.loop-entry.invariant.passed.reads c.in_ok-read.ensures.reads

pub returns-then-read-bytes-clause-files : goal.returns-then-read-bytes-clause-files
returns-then-read-bytes-clause-files g c =
    let here : drop c.loop-entry.entry-index c.args.entries.now ≡ c.entry-item.result ∷ drop (c.loop-entry.entry-index + 1) c.args.entries.now = item_first _ _ c.entry-item.result c.loop-entry-test.true (sym c.entry-item.is) in
    let large : MOST_SOURCE_BYTES < c.loop-entry.bytes + c.in_ok-read.read.bytes = omega (arith, c.if-read-bytes.true, c.loop-entry.invariant.few) in
    too_large c.args.entries.now c.loop-entry.entry-index c.entry-item.result c.loop-entry.bytes c.in_ok-read.read.bytes (g.T.Tree.observed c.args.tree.now) here large
    (was_read c.entry-item.result c.in_ok-read.read.bytes _ _ c.loop-entry.invariant.passed.reads c.in_ok-read.ensures.bytes) c.loop-entry.invariant.bytes
