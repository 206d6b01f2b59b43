-- What a plan says.
use Rattle.std.specs.Prelude.{◌≡◌, ℕ, ◌==◌, ◌&&◌, not, Bool, false, List, [], map, filter, find, length, nat_eq, Option, option_map, Err, IsOkAnd}
use Rattle.std.specs.List.{list_all}
use Rattle.std.specs.Cmp.Lexicographic.{pointwise}
use Rattle.dep_key.specs.declared.graph.Node.{Node}
use Rattle.dep_key.specs.declared.graph.FileGraph.{FileGraph}
use Rattle.dep_graph.specs.Arcs.{nodes_in}
use Rattle.drv_outside.specs.declared.types.Entry.{Entry}
use Rattle.file_map.specs.Assigned.{all_names}
use Rattle.ordered_lists.specs.Among.{is_among}
use Rattle.swiftdeps.specs.declared.fault.TheConstants.{DEPENDENCIES_VERSION}
use Rattle.wave_plan.specs.declared.plan.Seen.{Seen}
use Rattle.wave_plan.specs.declared.plan.Asked.{Asked}
use Rattle.wave_plan.specs.declared.plan.Plan.{Plan}
use Rattle.wave_plan.specs.declared.plan.PriorsWhy.{PriorsWhy}
use Rattle.wave_plan.specs.Validity.{LastBuild}
use Rattle.wave_plan.specs.Reasons.{recorded_at, reasons, first_files, all_files}

-- The nodes that the recorded graph has of the file at a path.
abbrev pub nodes_of : List FileGraph → List ℕ → Option (List Node)
nodes_of graph path = option_map (λ file. file.nodes) (find (λ file. pointwise nat_eq file.path path) graph)

abbrev pub listed_paths : List Entry → List (List ℕ)
listed_paths listed = map (λ entry. entry.path) listed

abbrev pub recorded_paths : List FileGraph → List (List ℕ)
recorded_paths graph = map (λ file. file.path) graph

-- The files of the recorded graph that aren't listed.
abbrev pub removed_files : (List ℕ → Bool) → List FileGraph → List (List ℕ)
removed_files is_listed graph = filter (λ path. not (is_listed path)) (recorded_paths graph)

-- Each of the names is one of the others.
abbrev pub have_all : (List ℕ → Bool) → List (List ℕ) → Bool
have_all has names = list_all has names

-- Two lists have the same names.
abbrev pub have_same_names : List (List ℕ) → List (List ℕ) → Bool
have_same_names names others = list_all (is_among others) names && list_all (is_among names) others

-- Each file is compiled, since the priors aren't valid.
pub record IsFullBuild (asked : Asked) (why : PriorsWhy) (plan : Plan) : Type 0 where
  pub priors : plan.priors ≡ Err why
  pub first : plan.first.items ≡ all_files asked.listed.items
  pub removed : plan.removed.items ≡ []
  pub idle : plan.idle ≡ false
  pub migrates : plan.migrates ≡ false

-- The build goes on from the build before.
pub record IsIncremental (seen : Seen) (asked : Asked) (last : LastBuild) (plan : Plan) : Type 0 where
  -- The graph is the recorded one.
  pub graph : IsOkAnd plan.priors (λ graph. (path : List ℕ) → nodes_in graph path ≡ nodes_of last.graph path)
  -- In the first wave is each listed file with a reason.
  pub first : plan.first.items ≡ first_files 0 (reasons (recorded_at last.build_record.files) (is_among seen.names.items) asked.listed.items asked.names.files)
  pub removed : plan.removed.items ≡ removed_files (is_among (listed_paths asked.listed.items)) last.graph
  -- Nothing is to do where no file is in the first wave, none is removed, the folder has the names that it should have,
  -- and the priors have the present version.
  pub idle : plan.idle ≡ (((length plan.first.items == 0) && (length plan.removed.items == 0)) && have_same_names seen.names.items (all_names asked.names)) && not plan.migrates
  pub migrates : plan.migrates ≡ (last.version == DEPENDENCIES_VERSION)
