use Rattle.std.proofs.Common.{◌≡◌, ◌+◌, ◌≤◌, ◌<◌, ℕ, List, [], ◌∷◌, ◌++◌, length, take, Option, Some, None, refl, sym, ap, subst, ◌∙◌, arith, drop, append_assoc, append-nil, suc, get_or, add-one, map, true, false, not, cond, ◌&&◌}
use Rattle.std.proofs.Math.Seq.{drop-cons}
use Rattle.std.proofs.lemmas.Bool.{and_parts}
use Rattle.std.proofs.lemmas.List.{map-append}
use Rattle.std.specs.Prelude.{IfSome}
use Rattle.std.specs.Prelude.{nat_le}
use Rattle.std.specs.List.{All, list_all, filter}
use Rattle.std.proofs.lemmas.List.Elements.{All-nil, All-cons}
use Rattle.std.proofs.lemmas.List.Sums.{sum_by-cons}
use Rattle.drv_outside.specs.Plain.{is_plain_path}
use Rattle.drv_outside.specs.TreeState.{TreeState, bytes_at}
use Rattle.drv_outside.specs.Reads.{OnlyReads}
use Rattle.drv_outside.specs.declared.types.Entry.{Entry}
use Rattle.drv_outside.specs.declared.types.Source.{Source}
use Rattle.std.specs.declared.alloc.Global.{Global}
use Rattle.std.specs.declared.vec.Vec.{Vec}
use Rattle.frontend.specs.Parsing.{IsParsed, parsed_path}
use Rattle.frontend.specs.declared.parsed.Parsed.{Parsed}
use Rattle.frontend.specs.declared.parsed.Parsed.TheVariants.{Tree, NoTree}
use Rattle.frontend.proofs.ParsingLemmas.{parsed_whole}
use Rattle.swift_ast.specs.declared.declarations.FileTree.{FileTree}
use Rattle.project_sources.specs.Refusals.{not_plain_error, not_plain_errors, too_many_error, listing_errors, trees_of}
use Rattle.project_sources.specs.Parsed.{AreParsed, entry_paths, source_bytes}
use Rattle.project_sources.specs.Reading.{AreRead}
use Rattle.project_sources.specs.declared.listing.TheConstants.{MOST_SOURCES, MOST_SOURCE_BYTES}
use Rattle.project_sources.specs.declared.sources.TheConstants.{MOST_READ}
use Rattle.project_sources.specs.declared.sources.Files.TheVariants as files

-- what the first bytes are read to is what the text is read to
parsed_text : (path text : List ℕ) (file : Parsed) → IsParsed path (take MOST_READ text) file → IsParsed path text file
parsed_text path text file p = parsed_whole MOST_READ path text file (omega arith) p

-- calls that read leave the sources
pub sources_stay : (Q : List Source → Type 0) (before after : Option TreeState) → OnlyReads before after → IfSome after (λ t. Q t.sources) → IfSome before (λ t. Q t.sources)
sources_stay Q None after reads so = tt
sources_stay Q (Some t) after reads so = subst (λ o. IfSome o (λ u. Q u.sources)) reads.is so

-- nothing is read yet
pub no_files : (entries : List Entry) (files : List Parsed) (observed : Option TreeState) → files ≡ []
    → IfSome observed (λ t. (rest : List Parsed) → AreParsed t.sources (entry_paths entries) rest → AreParsed t.sources (entry_paths entries) (files ++ rest))
no_files entries files None none = tt
no_files entries files (Some t) none = λ rest is. rw none is

-- what a source was read to
pub parsed_source : (path asked copy text bytes : List ℕ) (file : Parsed) (observed : Option TreeState) → asked ≡ path → copy ≡ path → bytes ≡ text
    → IfSome observed (λ t. text ≡ take MOST_READ (bytes_at asked t.sources)) → IsParsed copy bytes file
    → IfSome observed (λ t. IsParsed path (bytes_at path t.sources) file)
parsed_source path asked copy text bytes file None was same is read parsed = tt
parsed_source path asked copy text bytes file (Some t) was same is read parsed =
    let whole_text : bytes ≡ take MOST_READ (bytes_at path t.sources) = is ∙ read ∙ ap (λ p. take MOST_READ (bytes_at p t.sources)) was in
    parsed_text path (bytes_at path t.sources) file (subst (λ b. IsParsed path b file) whole_text (subst (λ p. IsParsed p bytes file) same parsed))

-- what is left at a place is the item there and what is left behind it
pub item_first : {X : Type 0} (xs : List X) (i : ℕ) (x : X) → i < length xs → get_or xs i x ≡ x → drop i xs ≡ x ∷ drop (i + 1) xs
item_first xs i x h is = rw add-one (drop-cons xs i x h ∙ ap (λ y. y ∷ drop (suc i) xs) is)

-- one entry more is read
pub next_file : (entries : List Entry) (i : ℕ) (entry : Entry) (files : List Parsed) (file : Parsed) (more : List Parsed) (observed : Option TreeState)
    → drop i entries ≡ entry ∷ drop (i + 1) entries → more ≡ files ++ file ∷ []
    → IfSome observed (λ t. (rest : List Parsed) → AreParsed t.sources (entry_paths (drop i entries)) rest → AreParsed t.sources (entry_paths entries) (files ++ rest))
    → IfSome observed (λ t. IsParsed entry.path (bytes_at entry.path t.sources) file)
    → IfSome observed (λ t. (rest : List Parsed) → AreParsed t.sources (entry_paths (drop (i + 1) entries)) rest → AreParsed t.sources (entry_paths entries) (more ++ rest))
next_file entries i entry files file more None here pushed so_far parsed = tt
next_file entries i entry files file more (Some t) here pushed so_far parsed = λ rest after.
    let whole : AreParsed t.sources (entry_paths (drop i entries)) (file ∷ rest) = subst (λ es. AreParsed t.sources (entry_paths es) (file ∷ rest)) (sym here) (parsed, after) in
    let same : more ++ rest ≡ files ++ file ∷ rest = ap (λ fs. fs ++ rest) pushed ∙ append_assoc files (file ∷ []) rest in
    subst (λ fs. AreParsed t.sources (entry_paths entries) fs) (sym same) (so_far (file ∷ rest) whole)

pub next_path : (entries : List Entry) (i : ℕ) (entry : Entry) (files : List Parsed) (file : Parsed) (more : List Parsed)
    → drop i entries ≡ entry ∷ drop (i + 1) entries → more ≡ files ++ file ∷ [] → parsed_path file ≡ entry.path
    → map parsed_path files ++ entry_paths (drop i entries) ≡ entry_paths entries → map parsed_path more ++ entry_paths (drop (i + 1) entries) ≡ entry_paths entries
next_path entries i entry files file more here pushed path so_far =
    let rest = entry_paths (drop (i + 1) entries) in
    ap (λ fs. map parsed_path fs ++ rest) pushed
    ∙ ap (λ ps. ps ++ rest) (map-append parsed_path files (file ∷ []))
    ∙ append_assoc (map parsed_path files) (parsed_path file ∷ []) rest
    ∙ ap (λ p. map parsed_path files ++ p ∷ rest) path
    ∙ ap (λ es. map parsed_path files ++ entry_paths es) (sym here)
    ∙ so_far

-- nothing is left to read
pub all_files : (entries : List Entry) (i : ℕ) (files : List Parsed) (observed : Option TreeState) → drop i entries ≡ []
    → IfSome observed (λ t. (rest : List Parsed) → AreParsed t.sources (entry_paths (drop i entries)) rest → AreParsed t.sources (entry_paths entries) (files ++ rest))
    → IfSome observed (λ t. AreParsed t.sources (entry_paths entries) files)
all_files entries i files None done so_far = tt
all_files entries i files (Some t) done so_far =
    subst (λ fs. AreParsed t.sources (entry_paths entries) fs) (append-nil files) (so_far [] (subst (λ es. AreParsed t.sources (entry_paths es) []) (sym done) tt))

-- where no path is refused, each is plain
pub all_plain : (paths : List (List ℕ)) → not_plain_errors paths ≡ [] → list_all is_plain_path paths ≡ true
all_plain [] none = refl
all_plain (path ∷ paths) none =
    (elim (is_plain_path path) as (λ b. map not_plain_error (cond (not b) (path ∷ filter (λ p. not (is_plain_path p)) paths) (filter (λ p. not (is_plain_path p)) paths)) ≡ [] → b && list_all is_plain_path paths ≡ true)
    [ true ↦ λ none. all_plain paths none | false ↦ λ none. cc ]) none

-- where the list of paths has no errors, each path is plain
pub listed_plain : (paths : List (List ℕ)) → listing_errors paths ≡ [] → list_all is_plain_path paths ≡ true
listed_plain paths none =
    (elim (nat_le (length paths) MOST_SOURCES) as (λ b. cond b (not_plain_errors paths) (too_many_error (length paths) ∷ []) ≡ [] → list_all is_plain_path paths ≡ true)
    [ true ↦ λ none. all_plain paths none | false ↦ λ none. cc ]) none

-- trees of files at plain paths stand at plain paths
pub trees_plain : (files : List Parsed) → list_all is_plain_path (map parsed_path files) ≡ true → All (λ (file : FileTree). is_plain_path file.path ≡ true) (trees_of files)
trees_plain [] plain = All-nil (λ (file : FileTree). is_plain_path file.path ≡ true)
trees_plain (Tree file ∷ files) plain =
    All-cons (λ (f : FileTree). is_plain_path f.path ≡ true) file (trees_of files) (and_parts (is_plain_path file.path) _ plain).0 (trees_plain files (and_parts (is_plain_path file.path) _ plain).1)
trees_plain (NoTree error ∷ files) plain = trees_plain files (and_parts (is_plain_path error.path) _ plain).1

-- as many bytes as were read of the sources so far, and of those that are left, are read of all
pub bytes_step : (sources : List Source) (entries : List Entry) (i : ℕ) (entry : Entry) (bytes more all : ℕ) → drop i entries ≡ entry ∷ drop (i + 1) entries
    → more ≡ length (take MOST_READ (bytes_at entry.path sources)) → bytes + source_bytes sources (entry_paths (drop i entries)) ≡ all
    → (bytes + more) + source_bytes sources (entry_paths (drop (i + 1) entries)) ≡ all
bytes_step sources entries i entry bytes more all here read so_far =
    let split : source_bytes sources (entry_paths (drop i entries)) ≡ length (take MOST_READ (bytes_at entry.path sources)) + source_bytes sources (entry_paths (drop (i + 1) entries)) =
    ap (λ es. source_bytes sources (entry_paths es)) here ∙ sum_by-cons (λ path. length (take MOST_READ (bytes_at path sources))) entry.path (entry_paths (drop (i + 1) entries)) in
    omega (arith, split, read, so_far)

-- one entry more is counted
pub next_bytes : (entries : List Entry) (i : ℕ) (entry : Entry) (bytes more : ℕ) (observed : Option TreeState)
    → drop i entries ≡ entry ∷ drop (i + 1) entries
    → IfSome observed (λ t. more ≡ length (take MOST_READ (bytes_at entry.path t.sources)))
    → IfSome observed (λ t. bytes + source_bytes t.sources (entry_paths (drop i entries)) ≡ source_bytes t.sources (entry_paths entries))
    → IfSome observed (λ t. (bytes + more) + source_bytes t.sources (entry_paths (drop (i + 1) entries)) ≡ source_bytes t.sources (entry_paths entries))
next_bytes entries i entry bytes more None here read so_far = tt
next_bytes entries i entry bytes more (Some t) here read so_far = bytes_step t.sources entries i entry bytes more _ here read so_far

-- the sources hold too many bytes as soon as the first of them do
pub too_large : (entries : List Entry) (i : ℕ) (entry : Entry) (bytes more : ℕ) (observed : Option TreeState)
    → drop i entries ≡ entry ∷ drop (i + 1) entries → MOST_SOURCE_BYTES < bytes + more
    → IfSome observed (λ t. more ≡ length (take MOST_READ (bytes_at entry.path t.sources)))
    → IfSome observed (λ t. bytes + source_bytes t.sources (entry_paths (drop i entries)) ≡ source_bytes t.sources (entry_paths entries))
    → IfSome observed (λ t. AreRead t.sources (entry_paths entries) files.TooLarge)
too_large entries i entry bytes more None here large read so_far = tt
too_large entries i entry bytes more (Some t) here large read so_far =
    let all : (bytes + more) + source_bytes t.sources (entry_paths (drop (i + 1) entries)) ≡ source_bytes t.sources (entry_paths entries) = bytes_step t.sources entries i entry bytes more _ here read so_far in
    omega (arith, all, large)

-- all files are read, and hold no more bytes than they may
pub all_read : (entries : List Entry) (i bytes : ℕ) (read : Vec Parsed Global) (observed : Option TreeState) → drop i entries ≡ [] → bytes ≤ MOST_SOURCE_BYTES
    → IfSome observed (λ t. (rest : List Parsed) → AreParsed t.sources (entry_paths (drop i entries)) rest → AreParsed t.sources (entry_paths entries) (read.items ++ rest))
    → IfSome observed (λ t. bytes + source_bytes t.sources (entry_paths (drop i entries)) ≡ source_bytes t.sources (entry_paths entries))
    → IfSome observed (λ t. AreRead t.sources (entry_paths entries) (files.Parsed read))
all_read entries i bytes read None done few so_far count = tt
all_read entries i bytes read (Some t) done few so_far count =
    let none : source_bytes t.sources (entry_paths (drop i entries)) ≡ 0 = ap (λ es. source_bytes t.sources (entry_paths es)) done in
    let same : bytes ≡ source_bytes t.sources (entry_paths entries) = omega (arith, none, count) in
    (all_files entries i read.items (Some t) done so_far, subst (λ n. n ≤ MOST_SOURCE_BYTES) same few)

-- how many bytes were read of a source
pub read_length : (path asked text bytes : List ℕ) (n : ℕ) (observed : Option TreeState) → asked ≡ path → bytes ≡ text → n ≡ length bytes
    → IfSome observed (λ t. text ≡ take MOST_READ (bytes_at asked t.sources)) → IfSome observed (λ t. n ≡ length (take MOST_READ (bytes_at path t.sources)))
read_length path asked text bytes n None was is counted read = tt
read_length path asked text bytes n (Some t) was is counted read = counted ∙ ap length (is ∙ read ∙ ap (λ p. take MOST_READ (bytes_at p t.sources)) was)

zero_plus : (n : ℕ) → 0 + n ≡ n
zero_plus n = omega arith

-- nothing is counted yet
pub no_bytes : (entries : List Entry) (observed : Option TreeState) → IfSome observed (λ t. 0 + source_bytes t.sources (entry_paths entries) ≡ source_bytes t.sources (entry_paths entries))
no_bytes entries None = tt
no_bytes entries (Some t) = zero_plus (source_bytes t.sources (entry_paths entries))

-- what was read of a source, behind calls that read
pub was_read : (entry : Entry) (n : ℕ) (before after : Option TreeState) → OnlyReads before after → IfSome after (λ t. n ≡ length (take MOST_READ (bytes_at entry.path t.sources)))
    → IfSome before (λ t. n ≡ length (take MOST_READ (bytes_at entry.path t.sources)))
was_read entry n before after reads so = sources_stay (λ sources. n ≡ length (take MOST_READ (bytes_at entry.path sources))) before after reads so
