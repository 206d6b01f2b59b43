-- Each item that is taken goes on with what is spelled.
use Rattle.std.proofs.Common.{◌≡◌, ℕ, ◌==◌, Bool, true, false, ◌&&◌, List, [], ◌∷◌, ◌++◌, length, Option, Some, None, Ok, append_assoc, refl, sym, ap, ◌∙◌, subst}
use Rattle.std.specs.Prelude.{is_none, slice_index}
use Rattle.std.specs.List.Sorted.{IsStrictlySortedBy}
use Rattle.std.specs.Str.{is_utf8}
use Rattle.std.proofs.lemmas.Bool.{eqb-true}
use Rattle.std.proofs.lemmas.List.{append-nil, map-append}
use Rattle.std.proofs.lemmas.Str.{IsUtf8-from_is_utf8}
use Rattle.bitstream.specs.Reading.{Seen, Enters, LeaveBlock, Record}
use Rattle.dep_key.specs.declared.key.Key.{Key}
use Rattle.dep_key.specs.declared.graph.Node.{Node}
use Rattle.dep_key.specs.declared.graph.FileGraph.{FileGraph}
use Rattle.dep_key.specs.KeyShapes.{is_filled}
use Rattle.dep_key.specs.GraphOrder.{AreAscending, AreInOrder, keys_of}
use Rattle.swiftdeps.specs.declared.fault.DepsFault.TheVariants as faults
use Rattle.swiftdeps.specs.declared.stage.Stage.{Stage}
use Rattle.swiftdeps.specs.declared.stage.Stage.TheVariants.{Start, Version, Names, Nodes, Print, Uses, Behind}
use Rattle.swiftdeps.specs.Stages.{takes_block, takes_version, takes_identifier, takes_node, takes_print, takes_use, takes_file, may_end, is_version}
use Rattle.swiftdeps.specs.Judging.{State, nothing_read, text_of, key_in, blob_alone, utf8_text, is_above_text, is_above_key, is_same_text, last, last_node, last_file, nodes_of, files_of, begun, with_node, block_at, version_at, identifier_of, identifier_at, file_at, node_at, print_at, use_at, leave_at}
use Rattle.swiftdeps.specs.Spelling.{number_of, key_numbers, use_item, print_item, identifier_item, AreIdentifiers, IsIdentifier, IsSpelledKey, IsSpelledNode, IsSpelledFile, AreSpelledFiles, paths_of}
use Rattle.swiftdeps.proofs.TextLaws.{number_again, has_number}
use Rattle.swiftdeps.proofs.Taking.{bind_ok, guard_ok, guard_not, ok_is, both, none_is, one_op, text_read, key_in_read, blob_read}
use Rattle.swiftdeps.proofs.Lists.{last_push, all_push, all_last, texts_push, keys_push, all_swap, nodes_push, nodes_swap, files_push, files_swap}
use Rattle.swiftdeps.proofs.Reached.{front, body, up_to_key, Fine, One, Reached, file-begun, print-push, use-push, key-push}

-- ---- stages by their tests

at_start : (g : Stage) → takes_block g ≡ true → g ≡ Start
at_start Start e = refl
at_start Version e = absurd cc
at_start Names e = absurd cc
at_start Nodes e = absurd cc
at_start Print e = absurd cc
at_start Uses e = absurd cc
at_start Behind e = absurd cc

at_version : (g : Stage) → takes_version g ≡ true → g ≡ Version
at_version Start e = absurd cc
at_version Version e = refl
at_version Names e = absurd cc
at_version Nodes e = absurd cc
at_version Print e = absurd cc
at_version Uses e = absurd cc
at_version Behind e = absurd cc

at_names : (g : Stage) → takes_identifier g ≡ true → g ≡ Names
at_names Start e = absurd cc
at_names Version e = absurd cc
at_names Names e = refl
at_names Nodes e = absurd cc
at_names Print e = absurd cc
at_names Uses e = absurd cc
at_names Behind e = absurd cc

at_print : (g : Stage) → takes_print g ≡ true → g ≡ Print
at_print Start e = absurd cc
at_print Version e = absurd cc
at_print Names e = absurd cc
at_print Nodes e = absurd cc
at_print Print e = refl
at_print Uses e = absurd cc
at_print Behind e = absurd cc

at_uses : (g : Stage) → takes_use g ≡ true → g ≡ Uses
at_uses Start e = absurd cc
at_uses Version e = absurd cc
at_uses Names e = absurd cc
at_uses Nodes e = absurd cc
at_uses Print e = absurd cc
at_uses Uses e = refl
at_uses Behind e = absurd cc

-- ---- the block and the version

pub block_step : (one : Bool) (at block : ℕ) (s t : State) (before : List Seen) → Reached one s.stage s before → block_at at block s ≡ Ok t → Reached one t.stage t (before ++ Enters block ∷ [])
unfolding block_at
block_step one at block s t before r e =
    let g = guard_ok (takes_block s.stage && (block == 8)) _ (faults.RecordOrder at) t e in
    let b = both (takes_block s.stage) (block == 8) g.0 in
    let start : Reached one Start s before = subst (λ (x : Stage). Reached one x s before) (at_start s.stage b.0) r in
    let state = ap (λ (x : State). record x { stage = Version }) start.0 in
    let items : before ++ Enters block ∷ [] ≡ Enters 8 ∷ [] = ap (λ (x : List Seen). x ++ Enters block ∷ []) start.1 ∙ ap (λ (n : ℕ). Enters n ∷ []) (eqb-true block 8 b.1) in
    subst (λ (x : State). Reached one x.stage x (before ++ Enters block ∷ [])) (ok_is (record s { stage = Version }) t g.1) (state, items)

no_identifiers : AreIdentifiers []
unfolding IsStrictlySortedBy
no_identifiers = (tt, tt)

no_files : (names : List (List ℕ)) → AreSpelledFiles names []
unfolding IsStrictlySortedBy
no_files names = (tt, tt)

pub version_step : (one : Bool) (at : ℕ) (ops : List ℕ) (blob : Option (List ℕ)) (s t : State) (before : List Seen) → Reached one s.stage s before → version_at one at ops blob s ≡ Ok t → Reached one t.stage t (before ++ Record 1 ops blob ∷ [])
unfolding version_at
version_step one at ops blob s t before r e =
    let v = slice_index ops 0 in
    let g = guard_ok (takes_version s.stage && (is_none blob && (length ops == 1))) _ (faults.RecordOrder at) t e in
    let b = both (takes_version s.stage) (is_none blob && (length ops == 1)) g.0 in
    let d = both (is_none blob) (length ops == 1) b.1 in
    let h = guard_ok (is_version one v) (Ok (record s { stage = Names; version = v })) (faults.Version v) t g.1 in
    let due : Reached one Version s before = subst (λ (x : Stage). Reached one x s before) (at_version s.stage b.0) r in
    let all = before ++ Record 1 ops blob ∷ [] in
    let ops_is = one_op ops (eqb-true _ _ d.1) in
    let items : all ≡ front v [] = ap (λ (x : List Seen). x ++ Record 1 ops blob ∷ []) due.1 ∙ (λ i. Enters 8 ∷ Record 1 (ops_is i) (none_is blob d.0 i) ∷ []) in
    let made : Reached one Names (record nothing_read { stage = Names; version = v }) all
    = (record { version = h.0; names = no_identifiers; files = no_files [] }, refl, refl, refl, refl, items) in
    let here : Reached one Names (record s { stage = Names; version = v }) all = subst (λ (x : State). Reached one Names (record x { stage = Names; version = v }) all) (sym due.0) made in
    subst (λ (x : State). Reached one x.stage x all) (ok_is (record s { stage = Names; version = v }) t h.1) here

-- ---- the identifiers

idle : (s : State) → s.files ≡ [] → s.path ≡ None → files_of s ≡ []
idle s f p = ap (λ (x : List FileGraph). x ++ last_file s.path (nodes_of s)) f ∙ ap (λ (x : Option (List ℕ)). last_file x (nodes_of s)) p

pub identifier_step : (one : Bool) (at : ℕ) (ops : List ℕ) (blob : Option (List ℕ)) (s t : State) (before : List Seen) → Reached one s.stage s before → identifier_at at ops blob s ≡ Ok t → Reached one t.stage t (before ++ Record 5 ops blob ∷ [])
unfolding identifier_at identifier_of
identifier_step one at ops blob s t before r e =
    let g = guard_ok (takes_identifier s.stage) _ (faults.RecordOrder at) t e in
    let p = bind_ok (blob_alone at ops blob) _ t g.1 in
    let q = bind_ok (utf8_text at p.0) _ t p.2 in
    let text = q.0 in
    let u = guard_ok (is_utf8 p.0) (Ok p.0) (faults.NotUtf8 at) text q.1 in
    let same = ok_is p.0 text u.1 in
    let new : State = record s { names = s.names ++ text ∷ [] } in
    let h = guard_ok (is_filled text && is_above_text (last s.names) text) (Ok new) (faults.NotCanonicalOrder at) t q.2 in
    let b = both (is_filled text) (is_above_text (last s.names) text) h.0 in
    let known = blob_read at ops blob p.0 p.1 in
    let stage = at_names s.stage g.0 in
    let here : Reached one Names s before = subst (λ (x : Stage). Reached one x s before) stage r in
    let fine = here.0 in
    let utf8 = IsUtf8-from_is_utf8 text (ap is_utf8 (sym same) ∙ u.0) in
    let all = before ++ Record 5 ops blob ∷ [] in
    let names : AreIdentifiers (s.names ++ text ∷ []) = (texts_push s.names text fine.names.0 b.1, all_push IsIdentifier s.names text fine.names.1 (b.0, utf8)) in
    let files : AreSpelledFiles (s.names ++ text ∷ []) (files_of s) = subst (AreSpelledFiles (s.names ++ text ∷ [])) (sym (idle s here.1 here.2)) (no_files (s.names ++ text ∷ [])) in
    let item : Record 5 ops blob ≡ identifier_item text = (λ i. Record 5 (known.0 i) (known.1 i)) ∙ ap identifier_item same in
    let items : all ≡ front s.version (s.names ++ text ∷ []) = (λ i. here.5 i ++ item i ∷ []) ∙ ap (λ (x : List Seen). Enters 8 ∷ Record 1 (s.version ∷ []) None ∷ x) (sym (map-append identifier_item s.names (text ∷ []))) in
    let made : Reached one Names new all = (record { version = fine.version; names = names; files = files }, here.1, here.2, here.3, here.4, items) in
    let placed : Reached one new.stage new all = subst (λ (x : Stage). Reached one x new all) (sym stage) made in
    subst (λ (x : State). Reached one x.stage x all) (ok_is new t h.1) placed

-- ---- the files

-- Where a file or a node may follow, or the block may end, the items are the front and the files so far.
pub record Closed (one : Bool) (s : State) (before : List Seen) : Type 0 where
  pub fine : Fine one s
  pub items : before ≡ front s.version s.names ++ body s.names (files_of s)
  pub last_path : last (paths_of (files_of s)) ≡ s.path

last_of_paths : (files : List FileGraph) (path : List ℕ) (nodes : List Node) → last (paths_of (files ++ last_file (Some path) nodes)) ≡ Some path
last_of_paths files path nodes = ap last (map-append (λ (f : FileGraph). f.path) files (last_file (Some path) nodes)) ∙ last_push (paths_of files) path

with_path : (s : State) (path : List ℕ) → s.path ≡ Some path → last (paths_of (files_of s)) ≡ s.path
with_path s path e = ap (λ (p : Option (List ℕ)). last (paths_of (s.files ++ last_file p (nodes_of s)))) e ∙ last_of_paths s.files path (nodes_of s) ∙ sym e

closed_names : (one : Bool) (s : State) (before : List Seen) → Reached one Names s before → Closed one s before
closed_names one s before r =
    let nothing = idle s r.1 r.2 in
    let items : before ≡ front s.version s.names ++ body s.names (files_of s) = r.5 ∙ sym (append-nil (front s.version s.names)) ∙ ap (λ (x : List FileGraph). front s.version s.names ++ body s.names x) (sym nothing) in
    record { fine = r.0; items = items; last_path = ap (λ (x : List FileGraph). last (paths_of x)) nothing ∙ sym r.2 }

closed_nodes : (one : Bool) (s : State) (before : List Seen) → Reached one Nodes s before → Closed one s before
closed_nodes one s before r = record { fine = r.0; items = r.5; last_path = with_path s r.1.at r.1.path }

closed_uses : (one : Bool) (s : State) (before : List Seen) → Reached one Uses s before → Closed one s before
closed_uses one s before r = record { fine = r.0; items = r.3; last_path = with_path s r.2.at r.2.path }

-- What one file alone allows before a file: no file was read.
abbrev None_yet : Bool → State → Type 0
None_yet one s = one ≡ true → files_of s ≡ []

file_due : (one : Bool) (g : Stage) (s : State) (before : List Seen) → Reached one g s before → takes_file one g ≡ true → Closed one s before × None_yet one s
file_due one Start s before r e = absurd (not_due one e)
  where
    not_due : (one : Bool) → takes_file one Start ≡ true → ⊥
    not_due true e = cc
    not_due false e = cc
file_due one Version s before r e = absurd (not_due one e)
  where
    not_due : (one : Bool) → takes_file one Version ≡ true → ⊥
    not_due true e = cc
    not_due false e = cc
file_due one Names s before r e = (closed_names one s before r, λ h. idle s r.1 r.2)
file_due one Nodes s before r e = (closed_nodes one s before r, λ h. absurd (not_due one h e))
  where
    not_due : (one : Bool) → one ≡ true → takes_file one Nodes ≡ true → ⊥
    not_due true h e = cc
    not_due false h e = cc
file_due one Print s before r e = absurd (not_due one e)
  where
    not_due : (one : Bool) → takes_file one Print ≡ true → ⊥
    not_due true e = cc
    not_due false e = cc
file_due one Uses s before r e = (closed_uses one s before r, λ h. absurd (not_due one h e))
  where
    not_due : (one : Bool) → one ≡ true → takes_file one Uses ≡ true → ⊥
    not_due true h e = cc
    not_due false h e = cc
file_due one Behind s before r e = absurd (not_due one e)
  where
    not_due : (one : Bool) → takes_file one Behind ≡ true → ⊥
    not_due true e = cc
    not_due false e = cc

no_nodes : AreInOrder []
unfolding IsStrictlySortedBy
no_nodes = (tt, tt)

pub file_step : (one : Bool) (at : ℕ) (ops : List ℕ) (blob : Option (List ℕ)) (s t : State) (before : List Seen) → Reached one s.stage s before → file_at one at ops blob s ≡ Ok t → Reached one t.stage t (before ++ Record 6 ops blob ∷ [])
unfolding file_at
file_step one at ops blob s t before r e =
    let g = guard_ok (takes_file one s.stage && (is_none blob && (length ops == 1))) _ (faults.RecordOrder at) t e in
    let b = both (takes_file one s.stage) (is_none blob && (length ops == 1)) g.0 in
    let d = both (is_none blob) (length ops == 1) b.1 in
    let n = slice_index ops 0 in
    let p = bind_ok (text_of s.names at n) _ t g.1 in
    let path = p.0 in
    let u = guard_not (is_same_text s.path path) _ (faults.FileRepeated path) t p.2 in
    let h = guard_ok (is_filled path && is_above_text s.path path) (Ok (begun path s)) (faults.NotCanonicalOrder at) t u.1 in
    let f = both (is_filled path) (is_above_text s.path path) h.0 in
    let due = file_due one s.stage s before r b.0 in
    let closed = due.0 in
    let fine = closed.fine in
    let got = text_read s.names at n path p.1 in
    let number = number_again s.names n path fine.names got in
    let file : FileGraph = record { path = path; nodes = [] } in
    let spelled : IsSpelledFile s.names file = record { filled = f.0; path = has_number s.names n path fine.names got; order = no_nodes; nodes = tt } in
    let above : is_above_text (last (paths_of (files_of s))) path ≡ true = ap (λ (x : Option (List ℕ)). is_above_text x path) closed.last_path ∙ f.1 in
    let files : AreSpelledFiles s.names (files_of s ++ file ∷ []) = files_push s.names (files_of s) file fine.files above spelled in
    let all = before ++ Record 6 ops blob ∷ [] in
    let ops_are : ops ≡ number_of s.names path ∷ [] = one_op ops (eqb-true _ _ d.1) ∙ ap (λ (k : ℕ). k ∷ []) (sym number) in
    let item : Record 6 ops blob ≡ Record 6 (number_of s.names path ∷ []) None = λ i. Record 6 (ops_are i) (none_is blob d.0 i) in
    let items : all ≡ front s.version s.names ++ body s.names (files_of s ++ file ∷ []) =
    (λ i. closed.items i ++ item i ∷ []) ∙ append_assoc (front s.version s.names) (body s.names (files_of s)) (Record 6 (number_of s.names path ∷ []) None ∷ [])
    ∙ ap (λ (x : List Seen). front s.version s.names ++ x) (sym (file-begun s.names (files_of s) path)) in
    let made : Reached one Nodes (begun path s) all = (record { version = fine.version; names = fine.names; files = files }, record { at = path; path = refl }, due.1, refl, refl, items) in
    subst (λ (x : State). Reached one x.stage x all) (ok_is (begun path s) t h.1) made

-- ---- the nodes

-- Where a node may follow: a file is open, and the last key is that of the last node.
pub record Filed (one : Bool) (s : State) (before : List Seen) : Type 0 where
  pub fine : Fine one s
  pub at : List ℕ
  pub path : s.path ≡ Some at
  pub none_before : One one s
  pub items : before ≡ front s.version s.names ++ body s.names (files_of s)
  pub last_key : last (keys_of (nodes_of s)) ≡ s.key

last_of_keys : (nodes : List Node) (node : Node) → last (keys_of (nodes ++ node ∷ [])) ≡ Some node.key
last_of_keys nodes node = ap last (map-append (λ (n : Node). n.key) nodes (node ∷ [])) ∙ last_push (keys_of nodes) node.key

node_due : (one : Bool) (g : Stage) (s : State) (before : List Seen) → Reached one g s before → takes_node g ≡ true → Filed one s before
node_due one Start s before r e = absurd cc
node_due one Version s before r e = absurd cc
node_due one Names s before r e = absurd cc
node_due one Nodes s before r e =
    let nothing : nodes_of s ≡ [] = (λ i. r.3 i ++ last_node (r.4 i) s.print s.uses) in
    record { fine = r.0; at = r.1.at; path = r.1.path; none_before = r.2; items = r.5; last_key = ap (λ (x : List Node). last (keys_of x)) nothing ∙ sym r.4 }
node_due one Print s before r e = absurd cc
node_due one Uses s before r e =
    let open_node : Node = record { key = r.2.own; print = s.print; uses = s.uses } in
    let nodes : nodes_of s ≡ s.nodes ++ open_node ∷ [] = ap (λ (x : Option Key). s.nodes ++ last_node x s.print s.uses) r.2.key in
    record { fine = r.0; at = r.2.at; path = r.2.path; none_before = r.1; items = r.3; last_key = ap (λ (x : List Node). last (keys_of x)) nodes ∙ last_of_keys s.nodes open_node ∙ sym r.2.key }
node_due one Behind s before r e = absurd cc

-- what the last file is known to be
last_is : (one : Bool) (s : State) (path : List ℕ) → s.path ≡ Some path → Fine one s → IsSpelledFile s.names (record { path = path; nodes = nodes_of s })
last_is one s path e fine =
    all_last (IsSpelledFile s.names) s.files (record { path = path; nodes = nodes_of s }) (subst (λ (p : Option (List ℕ)). AreSpelledFiles s.names (s.files ++ last_file p (nodes_of s))) e fine.files).1

-- the last file with other nodes
with_nodes : (one : Bool) (s : State) (path : List ℕ) (nodes : List Node) → s.path ≡ Some path → Fine one s → IsSpelledFile s.names (record { path = path; nodes = nodes }) → AreSpelledFiles s.names (s.files ++ last_file s.path nodes)
with_nodes one s path nodes e fine spelled =
    let old : AreSpelledFiles s.names (s.files ++ last_file (Some path) (nodes_of s)) = subst (λ (p : Option (List ℕ)). AreSpelledFiles s.names (s.files ++ last_file p (nodes_of s))) e fine.files in
    let new = files_swap s.names s.files (record { path = path; nodes = nodes_of s }) (record { path = path; nodes = nodes }) refl old spelled in
    subst (λ (p : Option (List ℕ)). AreSpelledFiles s.names (s.files ++ last_file p nodes)) (sym e) new

no_keys : AreAscending []
unfolding IsStrictlySortedBy
no_keys = tt

pub node_step : (one : Bool) (at : ℕ) (ops : List ℕ) (blob : Option (List ℕ)) (s t : State) (before : List Seen) → Reached one s.stage s before → node_at at ops blob s ≡ Ok t → Reached one t.stage t (before ++ Record 2 ops blob ∷ [])
unfolding node_at
node_step one at ops blob s t before r e =
    let g = guard_ok (takes_node s.stage) _ (faults.RecordOrder at) t e in
    let p = bind_ok (key_in s.names at ops blob) _ t g.1 in
    let key = p.0 in
    let h = guard_ok (is_above_key s.key key) (Ok (with_node key s)) (faults.NotCanonicalOrder at) t p.2 in
    let due = node_due one s.stage s before r g.0 in
    let fine = due.fine in
    let known = key_in_read s.names at ops blob key fine.names p.1 in
    let node : Node = record { key = key; print = []; uses = [] } in
    let old = last_is one s due.at due.path fine in
    let above : is_above_key (last (keys_of (nodes_of s))) key ≡ true = ap (λ (x : Option Key). is_above_key x key) due.last_key ∙ h.0 in
    let file : IsSpelledFile s.names (record { path = due.at; nodes = nodes_of s ++ node ∷ [] }) = record {
      filled = old.filled;
      path = old.path;
      order = nodes_push (nodes_of s) node old.order above no_keys;
      nodes = all_push (IsSpelledNode s.names) (nodes_of s) node old.nodes (record { key = known.1.1; uses = tt });
    } in
    let files = with_nodes one s due.at (nodes_of s ++ node ∷ []) due.path fine file in
    let all = before ++ Record 2 ops blob ∷ [] in
    let item : Record 2 ops blob ≡ Record 2 (key_numbers s.names key) None = λ i. Record 2 (known.1.0 i) (known.0 i) in
    let items : all ≡ front s.version s.names ++ up_to_key s.names s.files due.at (nodes_of s) key =
    (λ i. due.items i ++ item i ∷ []) ∙ append_assoc (front s.version s.names) (body s.names (files_of s)) (Record 2 (key_numbers s.names key) None ∷ [])
    ∙ ap (λ (p : Option (List ℕ)). front s.version s.names ++ (body s.names (s.files ++ last_file p (nodes_of s)) ++ Record 2 (key_numbers s.names key) None ∷ [])) due.path
    ∙ ap (λ (x : List Seen). front s.version s.names ++ x) (key-push s.names s.files due.at (nodes_of s) key) in
    let made : Reached one Print (with_node key s) all =
    (record { version = fine.version; names = fine.names; files = files }, due.none_before, record { at = due.at; path = due.path; own = key; key = refl }, refl, refl, items) in
    subst (λ (x : State). Reached one x.stage x all) (ok_is (with_node key s) t h.1) made

-- ---- the fingerprint and the uses

-- the last node with another fingerprint or other uses
node_swap : (one : Bool) (s : State) (path : List ℕ) (key : Key) (print : List ℕ) (uses : List Key) → s.path ≡ Some path → s.key ≡ Some key → Fine one s → AreAscending uses → IsSpelledNode s.names (record { key = key; print = print; uses = uses })
    → AreSpelledFiles s.names (s.files ++ last_file s.path (s.nodes ++ last_node s.key print uses))
node_swap one s path key print uses e k fine ascending spelled =
    let old : Node = record { key = key; print = s.print; uses = s.uses } in
    let new : Node = record { key = key; print = print; uses = uses } in
    let file = subst (λ (x : Option Key). IsSpelledFile s.names (record { path = path; nodes = s.nodes ++ last_node x s.print s.uses })) k (last_is one s path e fine) in
    let nodes : IsSpelledFile s.names (record { path = path; nodes = s.nodes ++ new ∷ [] }) = record {
      filled = file.filled;
      path = file.path;
      order = nodes_swap s.nodes old new refl file.order ascending;
      nodes = all_swap (IsSpelledNode s.names) s.nodes old new file.nodes spelled;
    } in
    subst (λ (x : Option Key). AreSpelledFiles s.names (s.files ++ last_file s.path (s.nodes ++ last_node x print uses))) (sym k) (with_nodes one s path (s.nodes ++ new ∷ []) e fine nodes)

-- what the last node is known to be
node_is : (one : Bool) (s : State) (path : List ℕ) (key : Key) → s.path ≡ Some path → s.key ≡ Some key → Fine one s → IsSpelledNode s.names (record { key = key; print = s.print; uses = s.uses }) × AreAscending s.uses
node_is one s path key e k fine =
    let old : Node = record { key = key; print = s.print; uses = s.uses } in
    let file = subst (λ (x : Option Key). IsSpelledFile s.names (record { path = path; nodes = s.nodes ++ last_node x s.print s.uses })) k (last_is one s path e fine) in
    (all_last (IsSpelledNode s.names) s.nodes old file.nodes, all_last (λ (n : Node). AreAscending n.uses) s.nodes old file.order.1)

pub print_step : (one : Bool) (at : ℕ) (ops : List ℕ) (blob : Option (List ℕ)) (s t : State) (before : List Seen) → Reached one s.stage s before → print_at at ops blob s ≡ Ok t → Reached one t.stage t (before ++ Record 3 ops blob ∷ [])
unfolding print_at
print_step one at ops blob s t before r e =
    let g = guard_ok (takes_print s.stage) _ (faults.RecordOrder at) t e in
    let p = bind_ok (blob_alone at ops blob) _ t g.1 in
    let print = p.0 in
    let known = blob_read at ops blob print p.1 in
    let here : Reached one Print s before = subst (λ (x : Stage). Reached one x s before) (at_print s.stage g.0) r in
    let opened = here.2 in
    let fine = here.0 in
    let node = node_is one s opened.at opened.own opened.path opened.key fine in
    let new : State = record s { stage = Uses; print = print } in
    let files = node_swap one s opened.at opened.own print s.uses opened.path opened.key fine node.1 (record { key = node.0.key; uses = node.0.uses }) in
    let all = before ++ Record 3 ops blob ∷ [] in
    let item : Record 3 ops blob ≡ print_item print = λ i. Record 3 (known.0 i) (known.1 i) in
    let items : all ≡ front s.version s.names ++ body s.names (files_of new) =
    (λ i. here.5 i ++ item i ∷ []) ∙ append_assoc (front s.version s.names) (up_to_key s.names s.files opened.at s.nodes opened.own) (print_item print ∷ [])
    ∙ ap (λ (x : List Seen). front s.version s.names ++ x) (print-push s.names s.files opened.at s.nodes opened.own print)
    ∙ (λ i. front s.version s.names ++ body s.names (s.files ++ last_file (sym opened.path i) (s.nodes ++ last_node (sym opened.key i) print (sym here.4 i)))) in
    let made : Reached one Uses new all = (record { version = fine.version; names = fine.names; files = files }, here.1, record { at = opened.at; path = opened.path; own = opened.own; key = opened.key }, items) in
    subst (λ (x : State). Reached one x.stage x all) (ok_is new t p.2) made

pub use_step : (one : Bool) (at : ℕ) (ops : List ℕ) (blob : Option (List ℕ)) (s t : State) (before : List Seen) → Reached one s.stage s before → use_at at ops blob s ≡ Ok t → Reached one t.stage t (before ++ Record 4 ops blob ∷ [])
unfolding use_at
use_step one at ops blob s t before r e =
    let g = guard_ok (takes_use s.stage) _ (faults.RecordOrder at) t e in
    let p = bind_ok (key_in s.names at ops blob) _ t g.1 in
    let key = p.0 in
    let new : State = record s { uses = s.uses ++ key ∷ [] } in
    let h = guard_ok (is_above_key (last s.uses) key) (Ok new) (faults.NotCanonicalOrder at) t p.2 in
    let stage = at_uses s.stage g.0 in
    let here : Reached one Uses s before = subst (λ (x : Stage). Reached one x s before) stage r in
    let opened = here.2 in
    let fine = here.0 in
    let known = key_in_read s.names at ops blob key fine.names p.1 in
    let node = node_is one s opened.at opened.own opened.path opened.key fine in
    let spelled : IsSpelledNode s.names (record { key = opened.own; print = s.print; uses = s.uses ++ key ∷ [] }) = record { key = node.0.key; uses = all_push (IsSpelledKey s.names) s.uses key node.0.uses known.1.1 } in
    let files = node_swap one s opened.at opened.own s.print (s.uses ++ key ∷ []) opened.path opened.key fine (keys_push s.uses key node.1 h.0) spelled in
    let all = before ++ Record 4 ops blob ∷ [] in
    let item : Record 4 ops blob ≡ use_item s.names key = λ i. Record 4 (known.1.0 i) (known.0 i) in
    let items : all ≡ front s.version s.names ++ body s.names (files_of new) =
    (λ i. here.3 i ++ item i ∷ []) ∙ append_assoc (front s.version s.names) (body s.names (files_of s)) (use_item s.names key ∷ [])
    ∙ (λ i. front s.version s.names ++ (body s.names (s.files ++ last_file (opened.path i) (s.nodes ++ last_node (opened.key i) s.print s.uses)) ++ use_item s.names key ∷ []))
    ∙ ap (λ (x : List Seen). front s.version s.names ++ x) (use-push s.names s.files opened.at s.nodes opened.own s.print s.uses key)
    ∙ (λ i. front s.version s.names ++ body s.names (s.files ++ last_file (sym opened.path i) (s.nodes ++ last_node (sym opened.key i) s.print (s.uses ++ key ∷ [])))) in
    let made : Reached one Uses new all = (record { version = fine.version; names = fine.names; files = files }, here.1, record { at = opened.at; path = opened.path; own = opened.own; key = opened.key }, items) in
    let placed : Reached one new.stage new all = subst (λ (x : Stage). Reached one x new all) (sym stage) made in
    subst (λ (x : State). Reached one x.stage x all) (ok_is new t h.1) placed

-- ---- the end of the block

abbrev Ending : Bool → State → List Seen → Type 0
Ending one s before = Fine one s × (one ≡ true → length (files_of s) ≡ 1) × (before ≡ front s.version s.names ++ body s.names (files_of s))

one_file : (s : State) (path : List ℕ) → s.path ≡ Some path → s.files ≡ [] → length (files_of s) ≡ 1
one_file s path e f = ap length (λ i. f i ++ last_file (e i) (nodes_of s))

end_due : (one : Bool) (g : Stage) (s : State) (before : List Seen) → Reached one g s before → may_end one g ≡ true → Ending one s before
end_due one Start s before r e = absurd (not_due one e)
  where
    not_due : (one : Bool) → may_end one Start ≡ true → ⊥
    not_due true e = cc
    not_due false e = cc
end_due one Version s before r e = absurd (not_due one e)
  where
    not_due : (one : Bool) → may_end one Version ≡ true → ⊥
    not_due true e = cc
    not_due false e = cc
end_due one Names s before r e = let c = closed_names one s before r in (c.fine, λ h. absurd (not_due one h e), c.items)
  where
    not_due : (one : Bool) → one ≡ true → may_end one Names ≡ true → ⊥
    not_due true h e = cc
    not_due false h e = cc
end_due one Nodes s before r e = (r.0, λ h. one_file s r.1.at r.1.path (r.2 h), r.5)
end_due one Print s before r e = absurd (not_due one e)
  where
    not_due : (one : Bool) → may_end one Print ≡ true → ⊥
    not_due true e = cc
    not_due false e = cc
end_due one Uses s before r e = (r.0, λ h. one_file s r.2.at r.2.path (r.1 h), r.3)
end_due one Behind s before r e = absurd (not_due one e)
  where
    not_due : (one : Bool) → may_end one Behind ≡ true → ⊥
    not_due true e = cc
    not_due false e = cc

pub leave_step : (one : Bool) (at : ℕ) (s t : State) (before : List Seen) → Reached one s.stage s before → leave_at one at s ≡ Ok t → Reached one t.stage t (before ++ LeaveBlock ∷ [])
unfolding leave_at
leave_step one at s t before r e =
    let new : State = record s { stage = Behind } in
    let g = guard_ok (may_end one s.stage) (Ok new) (faults.RecordOrder at) t e in
    let due = end_due one s.stage s before r g.0 in
    let made : Reached one Behind new (before ++ LeaveBlock ∷ []) = (record { version = due.0.version; names = due.0.names; files = due.0.files }, due.1, ap (λ (x : List Seen). x ++ LeaveBlock ∷ []) due.2) in
    subst (λ (x : State). Reached one x.stage x (before ++ LeaveBlock ∷ [])) (ok_is new t g.1) made
