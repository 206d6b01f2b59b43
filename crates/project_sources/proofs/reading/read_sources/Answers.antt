use Rattle.std.proofs.Common.{◌≡◌, subst, map}
use Rattle.frontend.specs.Parsing.{parsed_path}
use Rattle.project_sources.specs.Parsed.{entry_paths}
use Rattle.project_sources.specs.Reading.{HavePaths}
use Rattle.project_sources.proofs.SourceLemmas.{stand_at}
use Rattle.project_sources.proofs.reading.read_sources.Goals as goal

pub returns-in_ok-sources-in-Parsed-clause-paths : goal.returns-in_ok-sources-in-Parsed-clause-paths
returns-in_ok-sources-in-Parsed-clause-paths g c =
    let paths = entry_paths c.args.entries.now in
    let same : map parsed_path c.in-Parsed.files.items ≡ paths = subst (λ fs. HavePaths paths fs) c.in-Parsed.is c.in_ok-read_files.ensures.paths in
    stand_at paths c.in-Parsed.files.items c.in_ok-sources-in-Parsed.sources same c.in_ok-sources-in-Parsed.ensures
