use Rattle.std.proofs.Common.{◌≡◌, ◌+◌, ◌≤◌, ◌++◌, List, drop, map}
use Rattle.std.specs.Prelude.{IfSome}
use Rattle.frontend.specs.Parsing.{parsed_path}
use Rattle.frontend.specs.declared.parsed.Parsed.{Parsed}
use Rattle.project_sources.specs.Calls.{ReadsPass}
use Rattle.project_sources.specs.Parsed.{AreParsed, entry_paths, source_bytes}
use Rattle.project_sources.specs.declared.listing.TheConstants.{MOST_SOURCE_BYTES}
use Rattle.project_sources.proofs.sources.read_files.Given as goal

-- The files and the bytes so far, with those of the entries that are left, are those of all entries.
abbrev pub invariant-loop-entry : goal.invariant-loop-entry
invariant-loop-entry g l =
    let observed = g.T.Tree.observed in
    record {
      passed : ReadsPass (observed l.fn.tree) (observed l.tree);
      files : IfSome (observed l.fn.tree) (λ t. (rest : List Parsed) → AreParsed t.sources (entry_paths (drop l.entry-index l.entries)) rest → AreParsed t.sources (entry_paths l.entries) (l.files.items ++ rest));
      paths : map parsed_path l.files.items ++ entry_paths (drop l.entry-index l.entries) ≡ entry_paths l.entries;
      few : l.bytes ≤ MOST_SOURCE_BYTES;
      bytes : IfSome (observed l.fn.tree) (λ t. l.bytes + source_bytes t.sources (entry_paths (drop l.entry-index l.entries)) ≡ source_bytes t.sources (entry_paths l.entries));
      count : g.T.Tree.faults l.tree ≡ g.T.Tree.faults l.fn.tree;
    }
