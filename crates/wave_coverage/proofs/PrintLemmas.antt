-- Where the recorded prints of a key at a path are the same in two modules, so are the prints.
use Rattle.std.proofs.Common.{◌≡◌, ℕ, true, false, List, [], map, Option, Some, None, refl, sym, ap, ◌∙◌}
use Rattle.std.specs.Prelude.{option_map}
use Rattle.std.specs.List.{filter}
use Rattle.std.specs.Cmp.Lexicographic.{bytes_decides}
use Rattle.queries.specs.Queries.{Among}
use Rattle.dep_key.specs.declared.key.Key.{Key}
use Rattle.dep_key.specs.Digests.{digested_node}
use Rattle.dep_key.specs.Moved.{print_of}
use Rattle.dep_graph.specs.Moves.{node_reading}
use Rattle.swift_ast.specs.declared.declarations.FileTree.{FileTree}
use Rattle.decl_index.specs.Declarations.{Declaration}
use Rattle.type_infer.specs.Meanings.{having, meaning_in}
use Rattle.type_infer.specs.Sound.{is_asked_kind}
use Rattle.type_infer.proofs.ListFacts.{filter-none}
use Rattle.iface_print.specs.Prints.{print_of as printed_by, lines_of, is_in, print_in}
use Rattle.iface_print.proofs.Covering.{file-path, in-file}
use Rattle.body_check.specs.Files.{file_uses}
use Rattle.file_nodes.specs.Laws.{AreByPath}
use Rattle.file_nodes.proofs.NodeLemmas.{prints}
use Rattle.module_compile.specs.Compiled.{graph_with}
use Rattle.module_coverage.specs.Laws.{DigestsTell}
use Rattle.module_coverage.proofs.Told.{told}
use Rattle.waves.specs.Builds.{print_in as read_in}
use Rattle.wave_coverage.specs.Modules.{recorded_at}
use Rattle.wave_coverage.specs.Laws.{nodes_or_none, printed_at}
use Rattle.wave_coverage.proofs.PathLemmas.{file_at, recorded_of, recorded, printed, found, missing}

not-in : (path : List ℕ) (d : Declaration) → (d.path ≡ path → ⊥) → is_in path d ≡ false
not-in path d apart = (elim (is_in path d) as (λ v. is_in path d ≡ v → v ≡ false) [ true ↦ λ e. absurd (apart ((bytes_decides d.path path).0 e)) | false ↦ λ e. refl ]) refl

-- a path without a file has no prints
no-print : (trees : List FileTree) (path : List ℕ) (key : Key) → ((f : FileTree) → Among trees f → f.path ≡ path → ⊥) → print_in trees path key ≡ None
unfolding print_in
no-print trees path key apart =
    let none : filter (is_in path) (having trees key) ≡ [] =
    filter-none (is_in path) (having trees key) (λ d m. (let r = in-file trees key d m in not-in path d (λ e. apart r.0 r.1 (sym (file-path r.0 d r.2) ∙ e)))) in
    ap (λ l. lines_of (map (printed_by key (meaning_in trees key)) l)) none

-- The prints of the nodes at a path are those of the path.
prints-at : (trees : List FileTree) → AreByPath trees → (path : List ℕ) (key : Key) → is_asked_kind key.kind ≡ true → print_of (printed_at trees path) key ≡ print_in trees path key
prints-at trees up path key asked =
    ap (λ nodes. print_of nodes key) (printed trees path)
    ∙ (elim (file_at trees path) as (λ o. file_at trees path ≡ o → print_of (nodes_or_none (option_map (graph_with (meaning_in trees)) o)) key ≡ print_in trees path key) [
      | None ↦ λ e. sym (no-print trees path key (missing trees path e))
      | Some f ↦ λ e. (let r = found trees path f e in prints trees up f r.0 (file_uses (meaning_in trees) f) key asked ∙ ap (λ (p : List ℕ). print_in trees p key) r.1)
    ]) refl

read-of : (trees : List FileTree) (key : Key) (o : Option FileTree) → read_in node_reading (option_map (recorded_of trees) o) key ≡ print_of (map digested_node (nodes_or_none (option_map (graph_with (meaning_in trees)) o))) key
read-of trees key None = refl
read-of trees key (Some f) = refl

-- the recorded print at a path is that of its nodes with digests
read-at : (trees : List FileTree) (path : List ℕ) (key : Key) → read_in node_reading (recorded_at trees path) key ≡ print_of (map digested_node (printed_at trees path)) key
read-at trees path key =
    ap (λ o. read_in node_reading o key) (recorded trees path) ∙ read-of trees key (file_at trees path) ∙ ap (λ nodes. print_of (map digested_node nodes) key) (sym (printed trees path))

pub same-print : (was now : List FileTree) → AreByPath was → AreByPath now → (path : List ℕ) (key : Key) → is_asked_kind key.kind ≡ true → DigestsTell (printed_at was path) (printed_at now path) key →
    read_in node_reading (recorded_at was path) key ≡ read_in node_reading (recorded_at now path) key → print_in was path key ≡ print_in now path key
same-print was now up rise path key asked tell same =
    sym (prints-at was up path key asked)
    ∙ told (printed_at was path) (printed_at now path) key tell (sym (read-at was path key) ∙ same ∙ read-at now path key)
    ∙ prints-at now rise path key asked
