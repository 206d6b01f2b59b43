-- What the items so far spell, for each place that reading comes to.
use Rattle.std.proofs.Common.{◌≡◌, ℕ, Bool, true, List, [], ◌∷◌, ◌++◌, map, Some, None, append_assoc, sym, ap, ◌∙◌}
use Rattle.std.specs.Prelude.{IsTrue, length}
use Rattle.std.specs.List.{flat_map}
use Rattle.std.proofs.lemmas.List.{append-nil, map-append}
use Rattle.std.proofs.lemmas.List.Concat.{flat_map-cons}
use Rattle.std.proofs.lemmas.Grind.{flat_map-append}
use Rattle.bitstream.specs.Reading.{Seen, Enters, LeaveBlock, Record}
use Rattle.dep_key.specs.declared.key.Key.{Key}
use Rattle.dep_key.specs.declared.graph.Node.{Node}
use Rattle.dep_key.specs.declared.graph.FileGraph.{FileGraph}
use Rattle.swiftdeps.specs.declared.stage.Stage.{Stage}
use Rattle.swiftdeps.specs.declared.stage.Stage.TheVariants.{Start, Version, Names, Nodes, Print, Uses, Behind}
use Rattle.swiftdeps.specs.Stages.{is_version}
use Rattle.swiftdeps.specs.Judging.{State, nothing_read, files_of, last_node, last_file}
use Rattle.swiftdeps.specs.Spelling.{number_of, key_numbers, use_item, print_item, node_items, file_items, identifier_item, AreIdentifiers, AreSpelledFiles}

-- the block, the version and the identifiers
abbrev pub front : ℕ → List (List ℕ) → List Seen
front version names = Enters 8 ∷ Record 1 (version ∷ []) None ∷ map identifier_item names

abbrev pub body : List (List ℕ) → List FileGraph → List Seen
body names files = flat_map (file_items names) files

-- the last file up to the key of its last node
abbrev pub up_to_key : List (List ℕ) → List FileGraph → List ℕ → List Node → Key → List Seen
up_to_key names files path nodes key = body names files ++ (Record 6 (number_of names path ∷ []) None ∷ (flat_map (node_items names) nodes ++ (Record 2 (key_numbers names key) None ∷ [])))

-- what was read can be part of what is spelled
pub record Fine (is_single : Bool) (s : State) : Type 0 where
  pub version : IsTrue (is_version is_single s.version)
  pub names : AreIdentifiers s.names
  pub files : AreSpelledFiles s.names (files_of s)

-- a file is open, and maybe a node
pub record Opened (s : State) : Type 0 where
  pub at : List ℕ
  pub path : s.path ≡ Some at

pub record OpenedNode (s : State) : Type 0 where
  pub at : List ℕ
  pub path : s.path ≡ Some at
  pub own : Key
  pub key : s.key ≡ Some own

-- what one file alone allows: at most one, and one where the block has ended
abbrev pub One : Bool → State → Type 0
One is_single s = is_single ≡ true → s.files ≡ []

abbrev pub Reached : Bool → Stage → State → List Seen → Type 0
Reached is_single Start s items = (s ≡ nothing_read) × (items ≡ [])
Reached is_single Version s items = (s ≡ record nothing_read { stage = Version }) × (items ≡ Enters 8 ∷ [])
Reached is_single Names s items = Fine is_single s × (s.files ≡ []) × (s.path ≡ None) × (s.nodes ≡ []) × (s.key ≡ None) × (items ≡ front s.version s.names)
Reached is_single Nodes s items = Fine is_single s × Opened s × One is_single s × (s.nodes ≡ []) × (s.key ≡ None) × (items ≡ front s.version s.names ++ body s.names (files_of s))
Reached is_single Print s items = Fine is_single s × One is_single s × (opened : OpenedNode s) × (s.print ≡ []) × (s.uses ≡ []) × (items ≡ front s.version s.names ++ up_to_key s.names s.files opened.at s.nodes opened.own)
Reached is_single Uses s items = Fine is_single s × One is_single s × OpenedNode s × (items ≡ front s.version s.names ++ body s.names (files_of s))
Reached is_single Behind s items = Fine is_single s × (is_single ≡ true → length (files_of s) ≡ 1) × (items ≡ (front s.version s.names ++ body s.names (files_of s)) ++ LeaveBlock ∷ [])

-- ---- lists of items that grow by one

body-push : (names : List (List ℕ)) (files : List FileGraph) (file : FileGraph) → body names (files ++ file ∷ []) ≡ body names files ++ file_items names file
body-push names files file = flat_map-append (file_items names) files (file ∷ []) ∙ ap (λ (x : List Seen). body names files ++ x) (flat_map-cons (file_items names) file [] ∙ append-nil (file_items names file))

nodes-push : (names : List (List ℕ)) (nodes : List Node) (node : Node) → flat_map (node_items names) (nodes ++ node ∷ []) ≡ flat_map (node_items names) nodes ++ node_items names node
nodes-push names nodes node = flat_map-append (node_items names) nodes (node ∷ []) ∙ ap (λ (x : List Seen). flat_map (node_items names) nodes ++ x) (flat_map-cons (node_items names) node [] ∙ append-nil (node_items names node))

-- a file that has no node yet
pub file-begun : (names : List (List ℕ)) (files : List FileGraph) (path : List ℕ) → body names (files ++ last_file (Some path) []) ≡ body names files ++ Record 6 (number_of names path ∷ []) None ∷ []
file-begun names files path = body-push names files (record { path = path; nodes = [] })

-- the last file with its nodes
pub file-open : (names : List (List ℕ)) (files : List FileGraph) (path : List ℕ) (nodes : List Node)
    → body names (files ++ last_file (Some path) nodes) ≡ body names files ++ (Record 6 (number_of names path ∷ []) None ∷ flat_map (node_items names) nodes)
file-open names files path nodes = body-push names files (record { path = path; nodes = nodes })

-- a fingerprint behind the key of a node
pub print-push : (names : List (List ℕ)) (files : List FileGraph) (path : List ℕ) (nodes : List Node) (key : Key) (print : List ℕ)
    → up_to_key names files path nodes key ++ print_item print ∷ [] ≡ body names (files ++ last_file (Some path) (nodes ++ last_node (Some key) print []))
print-push names files path nodes key print =
    let file = Record 6 (number_of names path ∷ []) None in
    let own = Record 2 (key_numbers names key) None in
    let those = flat_map (node_items names) nodes in
    let inner : (those ++ (own ∷ [])) ++ print_item print ∷ [] ≡ flat_map (node_items names) (nodes ++ last_node (Some key) print []) = append_assoc those (own ∷ []) (print_item print ∷ []) ∙ sym (nodes-push names nodes (record { key = key; print = print; uses = [] })) in
    append_assoc (body names files) (file ∷ (those ++ (own ∷ []))) (print_item print ∷ [])
    ∙ ap (λ (x : List Seen). body names files ++ (file ∷ x)) inner
    ∙ sym (file-open names files path (nodes ++ last_node (Some key) print []))

-- a use behind the others of a node
pub use-push : (names : List (List ℕ)) (files : List FileGraph) (path : List ℕ) (nodes : List Node) (key : Key) (print : List ℕ) (uses : List Key) (added : Key)
    → body names (files ++ last_file (Some path) (nodes ++ last_node (Some key) print uses)) ++ use_item names added ∷ [] ≡ body names (files ++ last_file (Some path) (nodes ++ last_node (Some key) print (uses ++ added ∷ [])))
use-push names files path nodes key print uses added =
    let file = Record 6 (number_of names path ∷ []) None in
    let those = flat_map (node_items names) nodes in
    let old : Node = record { key = key; print = print; uses = uses } in
    let new : Node = record { key = key; print = print; uses = uses ++ added ∷ [] } in
    let more : node_items names old ++ use_item names added ∷ [] ≡ node_items names new = ap (λ (x : List Seen). Record 2 (key_numbers names key) None ∷ print_item print ∷ x) (sym (map-append (use_item names) uses (added ∷ []))) in
    let inner : flat_map (node_items names) (nodes ++ old ∷ []) ++ use_item names added ∷ [] ≡ flat_map (node_items names) (nodes ++ new ∷ [])
    = ap (λ (x : List Seen). x ++ use_item names added ∷ []) (nodes-push names nodes old) ∙ append_assoc those (node_items names old) (use_item names added ∷ []) ∙ ap (λ (x : List Seen). those ++ x) more ∙ sym (nodes-push names nodes new) in
    ap (λ (x : List Seen). x ++ use_item names added ∷ []) (file-open names files path (nodes ++ old ∷ []))
    ∙ append_assoc (body names files) (file ∷ flat_map (node_items names) (nodes ++ old ∷ [])) (use_item names added ∷ [])
    ∙ ap (λ (x : List Seen). body names files ++ (file ∷ x)) inner
    ∙ sym (file-open names files path (nodes ++ new ∷ []))

-- the key of a node behind the other nodes
pub key-push : (names : List (List ℕ)) (files : List FileGraph) (path : List ℕ) (nodes : List Node) (key : Key)
    → body names (files ++ last_file (Some path) nodes) ++ Record 2 (key_numbers names key) None ∷ [] ≡ up_to_key names files path nodes key
key-push names files path nodes key =
    let file = Record 6 (number_of names path ∷ []) None in
    ap (λ (x : List Seen). x ++ Record 2 (key_numbers names key) None ∷ []) (file-open names files path nodes)
    ∙ append_assoc (body names files) (file ∷ flat_map (node_items names) nodes) (Record 2 (key_numbers names key) None ∷ [])
