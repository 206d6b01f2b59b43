-- What a file's tokens give, up to the first bracket that is too deep.
use Rattle.std.proofs.Common.{◌≡◌, ℕ, zero, suc, ◌+◌, ◌<◌, ◌==◌, true, false, List, [], ◌∷◌, ◌++◌, length, map, take, drop, Some, Err, refl, sym, ◌∙◌, ap, subst, arith}
use Rattle.std.proofs.lemmas.Bool.{true≢false, eqb-true}
use Rattle.std.proofs.lemmas.List.{length-append, length-drop}
use Rattle.grammar.specs.Faults.{Parsed, FailsAt}
use Rattle.grammar.specs.Whole.{IsFirstFault}
use Rattle.grammar.proofs.Wholes.{whole_left, whole_refused, whole_taken}
use Rattle.grammar.proofs.Cuts.{Split, deep_split, cut_no_whole, cut_end, cut_unexpected}
use Rattle.swift_ast.specs.declared.tokens.Token.{Token}
use Rattle.swift_ast.specs.declared.declarations.Decl.{Decl}
use Rattle.swift_ast.specs.Leaves.{Leaf, leaf_of}
use Rattle.swift_ast.specs.Tests.{on, opens_level, closes_level}
use Rattle.swift_ast.specs.Declarations.{decls_form}
use Rattle.swift_ast.proofs.DeclarationLaws.{decls_one}
use Rattle.swift_ast.proofs.DeclarationLevels.{decls_balanced}
use Rattle.token_cursor.specs.declared.stop.Stop.{Stop}
use Rattle.token_cursor.specs.declared.stop.Stop.TheVariants as stop
use Rattle.swift_parser.specs.declared.faults.ParseFault.{ParseFault}
use Rattle.swift_parser.specs.declared.faults.ParseFault.TheVariants as fault
use Rattle.token_cursor.specs.Reading.{Parses}
use Rattle.swift_parser.specs.Whole.{DeepAt, DeclsGive, IsTooDeepHere, IsUnexpectedHere}

-- tokens are left behind the last declaration
pub left_over : (all : List Decl) (ts old new : List Leaf) (rest : List Token) → old ≡ ts → map leaf_of rest ≡ new → (length rest == 0) ≡ false → Parsed decls_form all (decls_form.continues all) old new → IsFirstFault decls_form ts (map leaf_of rest)
left_over all ts old new [] o n e t = absurd (true≢false e)
left_over all ts old new (r ∷ rest) o n e t =
    whole_left decls_form all ts (leaf_of r) (map leaf_of rest) decls_one
    (subst (λ us. Parsed decls_form all (decls_form.continues all) us (map leaf_of (r ∷ rest))) o (subst (λ us. Parsed decls_form all (decls_form.continues all) old us) (sym n) t))

-- a declaration was refused
pub stopped : (e : Stop) (ts old new : List Leaf) (rest : List Token) → e ≡ stop.Unexpected → old ≡ ts → map leaf_of rest ≡ new → Parses decls_form (Err e) old new → IsFirstFault decls_form ts (map leaf_of rest)
stopped e ts old new rest is o n r =
    let refused : FailsAt decls_form old new = subst (λ z. Parses decls_form (Err z) old new) is r in
    whole_refused decls_form ts (map leaf_of rest) (subst (λ us. FailsAt decls_form us (map leaf_of rest)) o (subst (λ us. FailsAt decls_form old us) (sym n) refused))

map_take : (n : ℕ) (tokens : List Token) → map leaf_of (take n tokens) ≡ take n (map leaf_of tokens)
map_take zero tokens = refl
map_take (suc n) [] = refl
map_take (suc n) (t ∷ tokens) = ap (λ us. leaf_of t ∷ us) (map_take n tokens)

pub map_drop : (n : ℕ) (tokens : List Token) → map leaf_of (drop n tokens) ≡ drop n (map leaf_of tokens)
map_drop zero tokens = refl
map_drop (suc n) [] = refl
map_drop (suc n) (t ∷ tokens) = map_drop n tokens

take_through : (a : List Leaf) (x : Leaf) (b : List Leaf) → take (suc (length a)) (a ++ (x ∷ b)) ≡ a ++ (x ∷ [])
take_through [] x b = refl
take_through (y ∷ a) x b = ap (λ us. y ∷ us) (take_through a x b)

abbrev pub CutAt : List Leaf → ℕ → Type 0
CutAt ts at = Split (on opens_level) (on closes_level) 100 0 ts (drop at ts)

before_is : (ts : List Leaf) (at : ℕ) → at < length ts → (s : CutAt ts at) → length s.before ≡ at
before_is ts at l s =
    let e : length ts ≡ length s.before + length (drop at ts) = ap length s.spelled ∙ length-append s.before (drop at ts) in
    omega (arith, l, e, length-drop at ts)

front_is : (ts : List Leaf) (at : ℕ) (l : at < length ts) (s : CutAt ts at) → take (suc at) ts ≡ s.before ++ (s.bracket ∷ [])
front_is ts at l s =
    ap (λ n. take (suc n) ts) (sym (before_is ts at l s))
    ∙ ap (λ us. take (suc (length s.before)) us) (s.spelled ∙ ap (λ us. s.before ++ us) s.is)
    ∙ take_through s.before s.bracket s.more

-- the tokens up to the bracket and with it
pub cut_is : (tokens cut : List Token) (at : ℕ) (l : at < length (map leaf_of tokens)) (s : CutAt (map leaf_of tokens) at) → cut ≡ take (at + 1) tokens → map leaf_of cut ≡ s.before ++ (s.bracket ∷ [])
cut_is tokens cut at l s e = let n : at + 1 ≡ suc at = omega arith in ap (map leaf_of) (e ∙ ap (λ m. take m tokens) n) ∙ map_take (suc at) tokens ∙ front_is (map leaf_of tokens) at l s

split_of : (ts : List Leaf) (at : ℕ) → DeepAt (Some at) ts → CutAt ts at
split_of ts at d = deep_split (on opens_level) (on closes_level) 100 0 ts (drop at ts) d.0

-- they are no file
pub cut_tree : (tokens cut : List Token) (at : ℕ) (all : List Decl) → DeepAt (Some at) (map leaf_of tokens) → cut ≡ take (at + 1) tokens → Parsed decls_form all (decls_form.continues all) (map leaf_of cut) [] → ⊥
cut_tree tokens cut at all d e t =
    let s = split_of (map leaf_of tokens) at d in
    cut_no_whole (on opens_level) (on closes_level) decls_form 100 (map leaf_of tokens) (drop at (map leaf_of tokens)) decls_balanced s
    (whole_taken decls_form all (s.before ++ (s.bracket ∷ [])) (subst (λ us. Parsed decls_form all (decls_form.continues all) us []) (cut_is tokens cut at d.1 s e) t))

cut_fault : (tokens cut : List Token) (at : ℕ) (rest : List Leaf) (d : DeepAt (Some at) (map leaf_of tokens)) → cut ≡ take (at + 1) tokens → IsFirstFault decls_form (map leaf_of cut) rest
    → IsFirstFault decls_form ((split_of (map leaf_of tokens) at d).before ++ ((split_of (map leaf_of tokens) at d).bracket ∷ [])) rest
cut_fault tokens cut at rest d e r = subst (λ us. IsFirstFault decls_form us rest) (cut_is tokens cut at d.1 (split_of (map leaf_of tokens) at d) e) r

-- the first fault is the bracket
pub deep_gives : (bytes : List ℕ) (tokens cut deep rest : List Token) (at : ℕ) (f : ParseFault) → DeepAt (Some at) (map leaf_of tokens) → cut ≡ take (at + 1) tokens → deep ≡ drop at tokens
    → IsFirstFault decls_form (map leaf_of cut) (map leaf_of rest) → (length rest == 0) ≡ true → IsTooDeepHere bytes (map leaf_of deep) f → DeclsGive bytes (map leaf_of tokens) (Err f)
deep_gives bytes tokens cut deep (r ∷ rest) at f d e g first none here = absurd (omega (arith, eqb-true (length (r ∷ rest)) 0 none))
deep_gives bytes tokens cut deep [] at (fault.TooDeep line column) d e g first none here =
    let s = split_of (map leaf_of tokens) at d in
    let place : map leaf_of deep ≡ drop at (map leaf_of tokens) = ap (map leaf_of) g ∙ map_drop at tokens in (
      drop at (map leaf_of tokens),
      here.0,
      cut_end (on opens_level) (on closes_level) decls_form 100 (map leaf_of tokens) (drop at (map leaf_of tokens)) d.0 s (cut_fault tokens cut at [] d e first),
      subst (λ us. Rattle.swift_parser.specs.Whole.IsAt bytes us line column here.0) place here.1,
    )
deep_gives bytes tokens cut deep [] at fault.TooLarge d e g first none here = absurd here
deep_gives bytes tokens cut deep [] at fault.NotUtf8 d e g first none here = absurd here
deep_gives bytes tokens cut deep [] at (fault.Lex x) d e g first none here = absurd here
deep_gives bytes tokens cut deep [] at (fault.Unexpected line column text) d e g first none here = absurd here
deep_gives bytes tokens cut deep [] at fault.NoMemory d e g first none here = absurd here

-- it stands before the bracket, or is not expected there
pub cut_gives : (bytes : List ℕ) (tokens cut rest : List Token) (at : ℕ) (f : ParseFault) → DeepAt (Some at) (map leaf_of tokens) → cut ≡ take (at + 1) tokens
    → IsFirstFault decls_form (map leaf_of cut) (map leaf_of rest) → (length rest == 0) ≡ false → IsUnexpectedHere bytes (map leaf_of rest) f → DeclsGive bytes (map leaf_of tokens) (Err f)
cut_gives bytes tokens cut [] at f d e first some here = absurd (true≢false some)
cut_gives bytes tokens cut (r ∷ rest) at (fault.Unexpected line column text) d e first some here =
    let s = split_of (map leaf_of tokens) at d in (
      leaf_of r ∷ (map leaf_of rest ++ s.more),
      cut_unexpected (on opens_level) (on closes_level) decls_form 100 (map leaf_of tokens) (drop at (map leaf_of tokens)) (leaf_of r) (map leaf_of rest) d.0 s (cut_fault tokens cut at (leaf_of r ∷ map leaf_of rest) d e first),
      here,
    )
cut_gives bytes tokens cut (r ∷ rest) at fault.TooLarge d e first some here = absurd here
cut_gives bytes tokens cut (r ∷ rest) at fault.NotUtf8 d e first some here = absurd here
cut_gives bytes tokens cut (r ∷ rest) at (fault.Lex x) d e first some here = absurd here
cut_gives bytes tokens cut (r ∷ rest) at (fault.TooDeep line column) d e first some here = absurd here
cut_gives bytes tokens cut (r ∷ rest) at fault.NoMemory d e first some here = tt
