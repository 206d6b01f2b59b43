-- What is spelled is read.
use Rattle.std.proofs.Common.{◌≡◌, ℕ, suc, ◌*◌, ◌<◌, ◌≤◌, Bool, true, false, ◌&&◌, ◌||◌, ◌⊎◌, inl, inr, List, [], ◌∷◌, ◌++◌, length, map, Option, Some, None, Result, Ok, Err, append_assoc, length-append, refl, sym, ap, ◌∙◌, subst, arith}
use Rattle.std.specs.Prelude.{codes, not}
use Rattle.std.specs.List.{flat_map, AllByRecursion}
use Rattle.std.specs.Cmp.Lexicographic.{slice_cmp, nat_list_cmp_total}
use Rattle.std.specs.Ordering.{nat_cmp}
use Rattle.std.proofs.lemmas.List.{append-nil, map-append}
use Rattle.std.proofs.lemmas.Bool.{le-ltb}
use Rattle.std.proofs.lemmas.List.Concat.{flat_map-cons}
use Rattle.std.proofs.lemmas.Str.{is_utf8-from_IsUtf8}
use Rattle.bitstream.specs.Reading.{Seen, Enters, LeaveBlock, Record}
use Rattle.bitstream.specs.Items.{items_in}
use Rattle.bitstream.specs.declared.item.BitFault.{BitFault}
use Rattle.dep_key.specs.declared.kind.Kind.{Kind}
use Rattle.dep_key.specs.declared.kind.Kind.TheVariants.{TopLevel, Nominal, PotentialMember, Member, DynamicLookup, ExternalDepend, SourceFileProvide}
use Rattle.dep_key.specs.declared.kind.Aspect.{Aspect}
use Rattle.dep_key.specs.declared.kind.Aspect.TheVariants.{Interface, Implementation}
use Rattle.dep_key.specs.declared.key.Key.{Key}
use Rattle.dep_key.specs.declared.graph.Node.{Node}
use Rattle.dep_key.specs.declared.graph.FileGraph.{FileGraph}
use Rattle.dep_key.specs.KeyOrder.{kind_at, kind_number, aspect_at, aspect_number, key_order_total}
use Rattle.dep_key.specs.KeyShapes.{is_filled}
use Rattle.dep_key.specs.GraphOrder.{AreAscending, keys_of}
use Rattle.swiftdeps.specs.declared.fault.DepsFault.{DepsFault}
use Rattle.swiftdeps.specs.declared.stage.Stage.{Stage}
use Rattle.swiftdeps.specs.declared.stage.Stage.TheVariants.{Version, Names, Print, Uses, Behind}
use Rattle.swiftdeps.specs.Stages.{takes_identifier, takes_node, takes_file, may_end, is_version}
use Rattle.swiftdeps.specs.Judging.{State, nothing_read, ◌>>=◌, text_of, key_of, key_in, is_above_text, is_above_key, is_same_text, last, last_file, nodes_of, files_of, begun, with_node, block_at, version_at, identifier_of, identifier_at, file_at, node_at, print_at, use_at, leave_at, record_at, item_at, items_judged}
use Rattle.swiftdeps.specs.Spelling.{number_of, key_numbers, use_item, print_item, node_items, file_items, identifier_item, spelling, AreAscendingTexts, IsIdentifier, IsSpelledKey, IsSpelledNode, IsSpelledFile, paths_of, seen_items, Spell, BytesSpell}
use Rattle.swiftdeps.specs.Streams.{stream_of, stream_judged, signed_judged, bytes_judged}
use Rattle.swiftdeps.proofs.TextLaws.{text_again, sorted_above, other_text, lt_is}
use Rattle.swiftdeps.proofs.Lists.{last_push, above_text_is, above_key_is}

-- ---- items that pass from a state to another

-- These items bring reading from one state to another, whatever follows them.
abbrev pub Passes : Bool → ℕ → Option BitFault → List Seen → State → State → Type 0
Passes one bits fault front s t = (items : List (ℕ × Seen)) (behind : List Seen) → seen_items items ≡ front ++ behind → (rest : List (ℕ × Seen)) × (seen_items rest ≡ behind) × (items_judged one bits items fault s ≡ items_judged one bits rest fault t)

pass_none : (one : Bool) (bits : ℕ) (fault : Option BitFault) (s : State) → Passes one bits fault [] s s
pass_none one bits fault s items behind e = (items, e, refl)

pass_one : (one : Bool) (bits : ℕ) (fault : Option BitFault) (item : Seen) (s t : State) → ((at : ℕ) → item_at one at item s ≡ Ok t) → Passes one bits fault (item ∷ []) s t
pass_one one bits fault item s t h [] behind e = absurd cc
pass_one one bits fault item s t h (i ∷ items) behind e =
    let same : i.1 ≡ item = head_is i.1 item (seen_items items) behind e in
    let step : item_at one i.0 i.1 s ≡ Ok t = ap (λ (x : Seen). item_at one i.0 x s) same ∙ h i.0 in
    (items, tail_is i.1 item (seen_items items) behind e, ap (λ (x : Result State DepsFault). x >>= items_judged one bits items fault) step)
  where
    head_is : (x y : Seen) (xs ys : List Seen) → x ∷ xs ≡ y ∷ ys → x ≡ y
    head_is x y xs ys e = cc

    tail_is : (x y : Seen) (xs ys : List Seen) → x ∷ xs ≡ y ∷ ys → xs ≡ ys
    tail_is x y xs ys e = cc

pass_both : (one : Bool) (bits : ℕ) (fault : Option BitFault) (a b : List Seen) (s t u : State) → Passes one bits fault a s t → Passes one bits fault b t u → Passes one bits fault (a ++ b) s u
pass_both one bits fault a b s t u f g items behind e =
    let p = f items (b ++ behind) (e ∙ append_assoc a b behind) in
    let q = g p.0 behind p.1 in
    (q.0, q.1, p.2 ∙ q.2)

-- ---- keys again

kind_again : (k : Kind) → kind_at (kind_number k) ≡ Some k
kind_again TopLevel = refl
kind_again Nominal = refl
kind_again PotentialMember = refl
kind_again Member = refl
kind_again DynamicLookup = refl
kind_again ExternalDepend = refl
kind_again SourceFileProvide = refl

aspect_again : (a : Aspect) → aspect_at (aspect_number a) ≡ Some a
aspect_again Interface = refl
aspect_again Implementation = refl

text_of_again : (names : List (List ℕ)) (at : ℕ) (text : List ℕ) → number_of names text ≤ length names → text_of names at (number_of names text) ≡ Ok text
unfolding text_of
text_of_again names at text h = rw (text_again names text h) refl

key_again : (names : List (List ℕ)) (at : ℕ) (key : Key) → IsSpelledKey names key → key_in names at (key_numbers names key) None ≡ Ok key
unfolding key_in key_of
key_again names at key h =
    rw (kind_again key.kind, aspect_again key.aspect, text_of_again names at key.context h.context, text_of_again names at key.name h.name, h.shape) refl

key_above : (keys : List Key) (key : Key) (more : List Key) → AreAscending (keys ++ key ∷ more) → is_above_key (last keys) key ≡ true
key_above keys key more s = above_key_is (last keys) key ∙ sorted_above key_order_total keys key more s

text_above : (texts : List (List ℕ)) (text : List ℕ) (more : List (List ℕ)) → AreAscendingTexts (texts ++ text ∷ more) → is_above_text (last texts) text ≡ true
text_above texts text more s = above_text_is (last texts) text ∙ sorted_above nat_list_cmp_total texts text more s

-- ---- the uses of a node

use_again : (one : Bool) (at : ℕ) (s : State) (key : Key) → s.stage ≡ Uses → IsSpelledKey s.names key → is_above_key (last s.uses) key ≡ true → item_at one at (use_item s.names key) s ≡ Ok (record s { uses = s.uses ++ key ∷ [] })
unfolding record_at use_at
use_again one at s key g h a = rw (g, key_again s.names at key h, a) refl

uses_pass : (one : Bool) (bits : ℕ) (fault : Option BitFault) (uses : List Key) (s : State) → s.stage ≡ Uses → AllByRecursion (IsSpelledKey s.names) uses → AreAscending (s.uses ++ uses) → Passes one bits fault (map (use_item s.names) uses) s (record s { uses = s.uses ++ uses })
uses_pass one bits fault [] s g all a = subst (λ (x : List Key). Passes one bits fault [] s (record s { uses = x })) (sym (append-nil s.uses)) (pass_none one bits fault s)
uses_pass one bits fault (key ∷ uses) s g all a =
    let next : State = record s { uses = s.uses ++ key ∷ [] } in
    let first = pass_one one bits fault (use_item s.names key) s next (λ at. use_again one at s key g all.0 (key_above s.uses key uses a)) in
    let regrouped = append_assoc s.uses (key ∷ []) uses in
    let others = uses_pass one bits fault uses next g all.1 (subst AreAscending (sym regrouped) a) in
    subst (λ (x : List Key). Passes one bits fault (map (use_item s.names) (key ∷ uses)) s (record s { uses = x })) regrouped (pass_both one bits fault (use_item s.names key ∷ []) (map (use_item s.names) uses) s next (record next { uses = next.uses ++ uses }) first others)

-- ---- the nodes of a file

node_again : (one : Bool) (at : ℕ) (s : State) (key : Key) → takes_node s.stage ≡ true → IsSpelledKey s.names key → is_above_key s.key key ≡ true → item_at one at (Record 2 (key_numbers s.names key) None) s ≡ Ok (with_node key s)
unfolding record_at node_at
node_again one at s key g h a = rw (g, key_again s.names at key h, a) refl

print_again : (one : Bool) (at : ℕ) (s : State) (print : List ℕ) → s.stage ≡ Print → item_at one at (print_item print) s ≡ Ok (record s { stage = Uses; print = print })
unfolding record_at print_at
print_again one at s print g = rw g refl

-- reading stands in a file, behind these nodes
record InFile (s : State) (version : ℕ) (names : List (List ℕ)) (files : List FileGraph) (path : List ℕ) (nodes : List Node) : Type 0 where
  stage : takes_node s.stage ≡ true
  version_is : s.version ≡ version
  names_are : s.names ≡ names
  files_are : s.files ≡ files
  path_is : s.path ≡ Some path
  nodes_are : nodes_of s ≡ nodes
  last_is : last (keys_of nodes) ≡ s.key

record NodesPass (one : Bool) (bits : ℕ) (fault : Option BitFault) (items : List Seen) (s : State) (version : ℕ) (names : List (List ℕ)) (files : List FileGraph) (path : List ℕ) (nodes : List Node) : Type 0 where
  to : State
  passes : Passes one bits fault items s to
  there : InFile to version names files path nodes

last_key_of : (nodes : List Node) (node : Node) → last (keys_of (nodes ++ node ∷ [])) ≡ Some node.key
last_key_of nodes node = ap last (map-append (λ (n : Node). n.key) nodes (node ∷ [])) ∙ last_push (keys_of nodes) node.key

node_pass : (one : Bool) (bits : ℕ) (fault : Option BitFault) (s : State) (version : ℕ) (names : List (List ℕ)) (files : List FileGraph) (path : List ℕ) (done : List Node) (node : Node) (more : List Node)
    → InFile s version names files path done → IsSpelledNode names node → AreAscending node.uses → AreAscending (keys_of (done ++ node ∷ more))
    → NodesPass one bits fault (node_items names node) s version names files path (done ++ node ∷ [])
node_pass one bits fault s version names files path done node more h spelled uses keys =
    let own : IsSpelledNode s.names node = subst (λ (x : List (List ℕ)). IsSpelledNode x node) (sym h.names_are) spelled in
    let regrouped : keys_of (done ++ node ∷ more) ≡ keys_of done ++ node.key ∷ keys_of more = map-append (λ (n : Node). n.key) done (node ∷ more) in
    let above : is_above_key s.key node.key ≡ true = ap (λ (x : Option Key). is_above_key x node.key) (sym h.last_is) ∙ key_above (keys_of done) node.key (keys_of more) (subst AreAscending regrouped keys) in
    let t1 : State = with_node node.key s in
    let t2 : State = record t1 { stage = Uses; print = node.print } in
    let t3 : State = record t2 { uses = [] ++ node.uses } in
    let p1 = pass_one one bits fault (Record 2 (key_numbers s.names node.key) None) s t1 (λ at. node_again one at s node.key h.stage own.key above) in
    let p2 = pass_one one bits fault (print_item node.print) t1 t2 (λ at. print_again one at t1 node.print refl) in
    let p3 = uses_pass one bits fault node.uses t2 refl own.uses uses in
    let all = pass_both one bits fault (Record 2 (key_numbers s.names node.key) None ∷ []) (print_item node.print ∷ map (use_item s.names) node.uses) s t1 t3 p1 (pass_both one bits fault (print_item node.print ∷ []) (map (use_item s.names) node.uses) t1 t2 t3 p2 p3) in
    record {
      to = t3;
      passes = subst (λ (x : List (List ℕ)). Passes one bits fault (node_items x node) s t3) h.names_are all;
      there = record {
        stage = refl;
        version_is = h.version_is;
        names_are = h.names_are;
        files_are = h.files_are;
        path_is = h.path_is;
        nodes_are = ap (λ (x : List Node). x ++ node ∷ []) h.nodes_are;
        last_is = last_key_of done node;
      };
    }

nodes_pass : (one : Bool) (bits : ℕ) (fault : Option BitFault) (s : State) (version : ℕ) (names : List (List ℕ)) (files : List FileGraph) (path : List ℕ) (done nodes : List Node)
    → InFile s version names files path done → AllByRecursion (IsSpelledNode names) nodes → AllByRecursion (λ node. AreAscending node.uses) nodes → AreAscending (keys_of (done ++ nodes))
    → NodesPass one bits fault (flat_map (node_items names) nodes) s version names files path (done ++ nodes)
nodes_pass one bits fault s version names files path done [] h all uses keys =
    record { to = s; passes = pass_none one bits fault s; there = subst (InFile s version names files path) (sym (append-nil done)) h }
nodes_pass one bits fault s version names files path done (node ∷ nodes) h all uses keys =
    let first = node_pass one bits fault s version names files path done node nodes h all.0 uses.0 keys in
    let regrouped = append_assoc done (node ∷ []) nodes in
    let others = nodes_pass one bits fault first.to version names files path (done ++ node ∷ []) nodes first.there all.1 uses.1 (subst (λ (x : List Node). AreAscending (keys_of x)) (sym regrouped) keys) in
    record {
      to = others.to;
      passes = subst (λ (x : List Seen). Passes one bits fault x s others.to) (sym (flat_map-cons (node_items names) node nodes)) (pass_both one bits fault (node_items names node) (flat_map (node_items names) nodes) s first.to others.to first.passes others.passes);
      there = subst (InFile others.to version names files path) regrouped others.there;
    }

-- ---- the files

-- reading stands behind these files
record Between (s : State) (version : ℕ) (names : List (List ℕ)) (done : List FileGraph) : Type 0 where
  stage : ((takes_identifier s.stage ≡ true) × (done ≡ [])) ⊎ ((takes_node s.stage ≡ true) × (0 < length done))
  version_is : s.version ≡ version
  names_are : s.names ≡ names
  files_are : files_of s ≡ done
  last_is : last (paths_of done) ≡ s.path

record FilesPass (one : Bool) (bits : ℕ) (fault : Option BitFault) (items : List Seen) (s : State) (version : ℕ) (names : List (List ℕ)) (done : List FileGraph) : Type 0 where
  to : State
  passes : Passes one bits fault items s to
  there : Between to version names done

not_same : (before : Option (List ℕ)) (text : List ℕ) → is_above_text before text ≡ true → is_same_text before text ≡ false
not_same None text e = refl
not_same (Some b) text e = other_text b text (lt_is (slice_cmp nat_cmp b text) e)

file_again : (one : Bool) (at : ℕ) (s : State) (path : List ℕ) → takes_file one s.stage ≡ true → number_of s.names path ≤ length s.names → is_filled path ≡ true → is_above_text s.path path ≡ true
    → item_at one at (Record 6 (number_of s.names path ∷ []) None) s ≡ Ok (begun path s)
unfolding record_at file_at
file_again one at s path g h f a = rw (g, text_of_again s.names at path h, not_same s.path path a, f, a) refl

or_true : (b : Bool) → b || true ≡ true
or_true true = refl
or_true false = refl

takes_by_names : (one : Bool) (g : Stage) → takes_identifier g ≡ true → takes_file one g ≡ true
takes_by_names one g e = ap (λ (x : Bool). x || (not one && takes_node g)) e

takes_by_nodes : (one : Bool) (g : Stage) → one ≡ false → takes_node g ≡ true → takes_file one g ≡ true
takes_by_nodes one g o e = (λ i. takes_identifier g || (not (o i) && e i)) ∙ or_true (takes_identifier g)

several : (one : Bool) (done more : List FileGraph) (file : FileGraph) → 0 < length done → (one ≡ true → length (done ++ file ∷ more) ≡ 1) → one ≡ false
several false done more file h f = refl
several true done more file h f = absurd (omega (arith, h, length-append done (file ∷ more), f refl))

file_is_due : (one : Bool) (s : State) (version : ℕ) (names : List (List ℕ)) (done more : List FileGraph) (file : FileGraph) → Between s version names done → (one ≡ true → length (done ++ file ∷ more) ≡ 1) → takes_file one s.stage ≡ true
file_is_due one s version names done more file h f = by h.stage
  where
    by : ((takes_identifier s.stage ≡ true) × (done ≡ [])) ⊎ ((takes_node s.stage ≡ true) × (0 < length done)) → takes_file one s.stage ≡ true
    by (inl x) = takes_by_names one s.stage x.0
    by (inr x) = takes_by_nodes one s.stage (several one done more file x.1 f) x.0

last_path_of : (files : List FileGraph) (file : FileGraph) → last (paths_of (files ++ file ∷ [])) ≡ Some file.path
last_path_of files file = ap last (map-append (λ (f : FileGraph). f.path) files (file ∷ [])) ∙ last_push (paths_of files) file.path

file_pass : (one : Bool) (bits : ℕ) (fault : Option BitFault) (s : State) (version : ℕ) (names : List (List ℕ)) (done : List FileGraph) (file : FileGraph) (more : List FileGraph)
    → Between s version names done → (one ≡ true → length (done ++ file ∷ more) ≡ 1) → IsSpelledFile names file → AreAscendingTexts (paths_of (done ++ file ∷ more))
    → FilesPass one bits fault (file_items names file) s version names (done ++ file ∷ [])
file_pass one bits fault s version names done file more h f spelled paths =
    let due = file_is_due one s version names done more file h f in
    let own : IsSpelledFile s.names file = subst (λ (x : List (List ℕ)). IsSpelledFile x file) (sym h.names_are) spelled in
    let regrouped : paths_of (done ++ file ∷ more) ≡ paths_of done ++ file.path ∷ paths_of more = map-append (λ (x : FileGraph). x.path) done (file ∷ more) in
    let above : is_above_text s.path file.path ≡ true = ap (λ (x : Option (List ℕ)). is_above_text x file.path) (sym h.last_is) ∙ text_above (paths_of done) file.path (paths_of more) (subst AreAscendingTexts regrouped paths) in
    let start : State = begun file.path s in
    let p1 = pass_one one bits fault (Record 6 (number_of s.names file.path ∷ []) None) s start (λ at. file_again one at s file.path due own.path own.filled above) in
    let inside : InFile start version names done file.path [] = record { stage = refl; version_is = h.version_is; names_are = h.names_are; files_are = h.files_are; path_is = refl; nodes_are = refl; last_is = refl } in
    let p2 = nodes_pass one bits fault start version names done file.path [] file.nodes inside spelled.nodes spelled.order.1 spelled.order.0 in
    let numbers = subst (λ (x : List (List ℕ)). Passes one bits fault (Record 6 (number_of x file.path ∷ []) None ∷ []) s start) h.names_are p1 in
    let t = p2.there in
    record {
      to = p2.to;
      passes = pass_both one bits fault (Record 6 (number_of names file.path ∷ []) None ∷ []) (flat_map (node_items names) file.nodes) s start p2.to numbers p2.passes;
      there = record {
        stage = inr (t.stage, omega (arith, length-append done (file ∷ [])));
        version_is = t.version_is;
        names_are = t.names_are;
        files_are = λ i. t.files_are i ++ last_file (t.path_is i) (t.nodes_are i);
        last_is = last_path_of done file ∙ sym t.path_is;
      };
    }

files_pass : (one : Bool) (bits : ℕ) (fault : Option BitFault) (s : State) (version : ℕ) (names : List (List ℕ)) (done files : List FileGraph)
    → Between s version names done → (one ≡ true → length (done ++ files) ≡ 1) → AllByRecursion (IsSpelledFile names) files → AreAscendingTexts (paths_of (done ++ files))
    → FilesPass one bits fault (flat_map (file_items names) files) s version names (done ++ files)
files_pass one bits fault s version names done [] h f all paths =
    record { to = s; passes = pass_none one bits fault s; there = subst (Between s version names) (sym (append-nil done)) h }
files_pass one bits fault s version names done (file ∷ files) h f all paths =
    let first = file_pass one bits fault s version names done file files h f all.0 paths in
    let regrouped = append_assoc done (file ∷ []) files in
    let others = files_pass one bits fault first.to version names (done ++ file ∷ []) files first.there (λ e. ap length regrouped ∙ f e) all.1 (subst (λ (x : List FileGraph). AreAscendingTexts (paths_of x)) (sym regrouped) paths) in
    record {
      to = others.to;
      passes = subst (λ (x : List Seen). Passes one bits fault x s others.to) (sym (flat_map-cons (file_items names) file files)) (pass_both one bits fault (file_items names file) (flat_map (file_items names) files) s first.to others.to first.passes others.passes);
      there = subst (Between others.to version names) regrouped others.there;
    }

-- ---- the identifiers

pub identifier_again : (one : Bool) (at : ℕ) (s : State) (text : List ℕ) → s.stage ≡ Names → IsIdentifier text → is_above_text (last s.names) text ≡ true → item_at one at (identifier_item text) s ≡ Ok (record s { names = s.names ++ text ∷ [] })
unfolding record_at identifier_at identifier_of
identifier_again one at s text g h a = rw (g, is_utf8-from_IsUtf8 text h.1, h.0, a) refl

identifiers_pass : (one : Bool) (bits : ℕ) (fault : Option BitFault) (names : List (List ℕ)) (s : State) → s.stage ≡ Names → AllByRecursion IsIdentifier names → AreAscendingTexts (s.names ++ names) → Passes one bits fault (map identifier_item names) s (record s { names = s.names ++ names })
identifiers_pass one bits fault [] s g all a = subst (λ (x : List (List ℕ)). Passes one bits fault [] s (record s { names = x })) (sym (append-nil s.names)) (pass_none one bits fault s)
identifiers_pass one bits fault (text ∷ names) s g all a =
    let next : State = record s { names = s.names ++ text ∷ [] } in
    let first = pass_one one bits fault (identifier_item text) s next (λ at. identifier_again one at s text g all.0 (text_above s.names text names a)) in
    let regrouped = append_assoc s.names (text ∷ []) names in
    let others = identifiers_pass one bits fault names next g all.1 (subst AreAscendingTexts (sym regrouped) a) in
    subst (λ (x : List (List ℕ)). Passes one bits fault (map identifier_item (text ∷ names)) s (record s { names = x })) regrouped (pass_both one bits fault (identifier_item text ∷ []) (map identifier_item names) s next (record next { names = next.names ++ names }) first others)

-- ---- the whole

pub block_again : (one : Bool) (at : ℕ) → item_at one at (Enters 8) nothing_read ≡ Ok (record nothing_read { stage = Version })
unfolding block_at
block_again one at = refl

pub version_again : (one : Bool) (at version : ℕ) → is_version one version ≡ true → item_at one at (Record 1 (version ∷ []) None) (record nothing_read { stage = Version }) ≡ Ok (record nothing_read { stage = Names; version = version })
unfolding record_at version_at
version_again one at version v = rw v refl

pub leave_again : (one : Bool) (at : ℕ) (s : State) → may_end one s.stage ≡ true → item_at one at LeaveBlock s ≡ Ok (record s { stage = Behind })
unfolding leave_at
leave_again one at s h = rw h refl

end_is_due : (one : Bool) (s : State) (version : ℕ) (names : List (List ℕ)) (files : List FileGraph) → Between s version names files → (one ≡ true → length files ≡ 1) → may_end one s.stage ≡ true
end_is_due one s version names files h f = by h.stage
  where
    none : (one : Bool) → files ≡ [] → (one ≡ true → length files ≡ 1) → one ≡ false
    none false e f = refl
    none true e f = absurd (omega (arith, ap length e, f refl))

    by : ((takes_identifier s.stage ≡ true) × (files ≡ [])) ⊎ ((takes_node s.stage ≡ true) × (0 < length files)) → may_end one s.stage ≡ true
    by (inl x) = (λ i. takes_node s.stage || (not (none one x.1 f i) && x.0 i)) ∙ or_true (takes_node s.stage)
    by (inr x) = ap (λ (b : Bool). b || (not one && takes_identifier s.stage)) x.0

pub items_again : (one : Bool) (bits version : ℕ) (files : List FileGraph) (items : List (ℕ × Seen)) → is_version one version ≡ true → (one ≡ true → length files ≡ 1) → Spell version files (seen_items items) → items_judged one bits items None nothing_read ≡ Ok (version, files)
items_again one bits version files items v f h =
    let s1 : State = record nothing_read { stage = Version } in
    let s2 : State = record nothing_read { stage = Names; version = version } in
    let s3 : State = record s2 { names = [] ++ h.names } in
    let p1 = pass_one one bits None (Enters 8) nothing_read s1 (λ at. block_again one at) in
    let p2 = pass_one one bits None (Record 1 (version ∷ []) None) s1 s2 (λ at. version_again one at version v) in
    let p3 = identifiers_pass one bits None h.names s2 refl h.are_identifiers.1 h.are_identifiers.0 in
    let before : Between s3 version h.names [] = record { stage = inl (refl, refl); version_is = refl; names_are = refl; files_are = refl; last_is = refl } in
    let p4 = files_pass one bits None s3 version h.names [] files before f h.are_files.1 h.are_files.0 in
    let s5 : State = record p4.to { stage = Behind } in
    let p5 = pass_one one bits None LeaveBlock p4.to s5 (λ at. leave_again one at p4.to (end_is_due one p4.to version h.names files p4.there f)) in
    let front = pass_both one bits None (Enters 8 ∷ []) (Record 1 (version ∷ []) None ∷ map identifier_item h.names) nothing_read s1 s3 p1 (pass_both one bits None (Record 1 (version ∷ []) None ∷ []) (map identifier_item h.names) s1 s2 s3 p2 p3) in
    let all = pass_both one bits None (Enters 8 ∷ Record 1 (version ∷ []) None ∷ map identifier_item h.names) (flat_map (file_items h.names) files ++ LeaveBlock ∷ []) nothing_read s3 s5 front (pass_both one bits None (flat_map (file_items h.names) files) (LeaveBlock ∷ []) s3 p4.to s5 p4.passes p5) in
    let done = all items [] (h.spelled ∙ sym (append-nil (spelling version h.names files))) in
    let nothing : done.0 ≡ [] = nil_of done.0 done.1 in
    done.2 ∙ ap (λ (x : List (ℕ × Seen)). items_judged one bits x None s5) nothing ∙ (λ i. Ok (p4.there.version_is i, p4.there.files_are i))
  where
    nil_of : (xs : List (ℕ × Seen)) → seen_items xs ≡ [] → xs ≡ []
    nil_of [] e = refl
    nil_of (x ∷ xs) e = absurd cc

pub stream_again : (stream : List ℕ) → stream_of (codes "DEPS" ++ stream) ≡ Some stream
stream_again stream = rw (le-ltb (suc (suc (suc (suc (length stream))))) 4 (omega arith)) refl

pub bytes_again : (one : Bool) (version : ℕ) (files : List FileGraph) (bytes : List ℕ) → is_version one version ≡ true → (one ≡ true → length files ≡ 1) → BytesSpell version files bytes → bytes_judged one bytes ≡ Ok (version, files)
unfolding bytes_judged stream_judged
bytes_again one version files bytes v f h =
    let signed = ap (λ (x : List ℕ). signed_judged one (stream_of x)) h.signed ∙ ap (signed_judged one) (stream_again h.stream) in
    signed ∙ ap (λ (x : Option BitFault). items_judged one (8 * length h.stream) (items_in h.stream).0 x nothing_read) h.whole ∙ items_again one (8 * length h.stream) version files (items_in h.stream).0 v f h.items

-- what is read has no fault
pub is_no_fault : {A : Type 0} {r : Result A DepsFault} {x : A} {e : DepsFault} → r ≡ Ok x → r ≡ Err e → ⊥
is_no_fault h g = cc
