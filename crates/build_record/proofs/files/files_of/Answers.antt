use Rattle.std.proofs.Common.{rules, ◌≡◌, [], Ok}
use Rattle.serde_json.specs.View.{members_view}
use Rattle.build_record.specs.Reading.{files_after}
use Rattle.build_record.proofs.SourcesLemmas.{sources_of}
use Rattle.build_record.proofs.files.files_of.Goals as goal

pub returns-clause-sources : goal.returns-clause-sources
returns-clause-sources c =
    let read : files_after [] (members_view c.args.members.now.entries) ≡ Ok c.loop-path.files = search rules in
    sources_of c.args.members.now.entries c.loop-path.files c.iter-path-items.ensures.ordered read
