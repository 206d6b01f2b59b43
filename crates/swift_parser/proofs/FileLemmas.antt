-- What a file is: exactly its tree, or exactly its first fault.
use Rattle.std.proofs.Common.{◌≡◌, ℕ, ◌<◌, ◌≤◌, ◌↔◌, List, [], ◌∷◌, length, refl, sym, ◌∙◌, ap, subst, arith, Ok, Err}
use Rattle.std.specs.Str.{IsUtf8}
use Rattle.grammar.specs.Faults.{IsUnambiguous}
use Rattle.swift_ast.specs.declared.declarations.FileTree.{FileTree}
use Rattle.swift_ast.specs.declared.declarations.Decl.{Decl}
use Rattle.swift_ast.specs.Leaves.{Leaf}
use Rattle.swift_ast.specs.Tests.{on, opens_level, closes_level}
use Rattle.swift_ast.specs.Declarations.{decls_form}
use Rattle.swift_token.specs.declared.faults.LexFault.{LexFault}
use Rattle.swift_token.specs.Faults.{Spells, HasFault}
use Rattle.swift_parser.specs.declared.faults.ParseFault.{ParseFault}
use Rattle.swift_parser.specs.declared.faults.ParseFault.TheVariants as fault
use Rattle.swift_parser.specs.Whole.{IsReadable, AreOf, IsTreeOf, IsAt, IsUnexpectedAt, IsTooDeepAt, IsFaultOf, IsOneFault, ParsesFile, DeclsGive, TellsTokens}
use Rattle.swift_parser.proofs.AnswerLemmas.{tree_one, tree_expected, tree_shallow, unexpected_one, too_deep_one, deep_expected}

too_long : (n : ℕ) → n ≤ 262144 → 262144 < n → ⊥
too_long n l g = omega (arith, l, g)

tree_is : (a b : FileTree) → a.path ≡ b.path → a.decls ≡ b.decls → a ≡ b
tree_is a b e f = ap (λ z. record { path = z; decls = a.decls }) e ∙ ap (λ z. record { path = b.path; decls = z }) f

unexpected_is : (line column : ℕ) (text : List ℕ) (l c : ℕ) (t : List ℕ) → line ≡ l → column ≡ c → text ≡ t → fault.Unexpected line column text ≡ fault.Unexpected l c t
unexpected_is line column text l c t e f g = ap (λ z. fault.Unexpected z column text) e ∙ ap (λ z. fault.Unexpected l z text) f ∙ ap (λ z. fault.Unexpected l c z) g

too_deep_is : (line column l c : ℕ) → line ≡ l → column ≡ c → fault.TooDeep line column ≡ fault.TooDeep l c
too_deep_is line column l c e f = ap (λ z. fault.TooDeep z column) e ∙ ap (λ z. fault.TooDeep l z) f

-- a list begins at one place
at_one : (bytes : List ℕ) (rest : List Leaf) (line column : ℕ) (text : List ℕ) (l c : ℕ) (t : List ℕ) → IsAt bytes rest line column text → IsAt bytes rest l c t → (line ≡ l) × (column ≡ c) × (text ≡ t)
at_one bytes [] line column text l c t a b = (a.0 ∙ sym b.0, a.1 ∙ sym b.1, a.2 ∙ sym b.2)
at_one bytes (u ∷ rest) line column text l c t a b = (a.0 ∙ sym b.0, a.1 ∙ sym b.1, a.2 ∙ sym b.2)

-- ---- a file that is read by its tokens

-- the tokens of a file are one list
same_tokens : (bytes : List ℕ) (ts others : List Leaf) → TellsTokens bytes ts → Spells others bytes → ts ≡ others
same_tokens bytes ts others tells s = (tells.0 others).1 s

spelled : (bytes : List ℕ) (ts : List Leaf) → TellsTokens bytes ts → Spells ts bytes
spelled bytes ts tells = (tells.0 ts).0 refl

tree_no_fault : (bytes : List ℕ) (ts : List Leaf) (decls : List Decl) → IsReadable bytes → TellsTokens bytes ts → AreOf ts decls → (f : ParseFault) → IsFaultOf bytes f → ⊥
tree_no_fault bytes ts decls r tells a fault.TooLarge g = too_long (length bytes) r.0 g
tree_no_fault bytes ts decls r tells a fault.NotUtf8 g = g.1 r.1
tree_no_fault bytes ts decls r tells a (fault.Lex f) g = tells.1 f g.1
tree_no_fault bytes ts decls r tells a (fault.Unexpected line column text) g =
    tree_expected (on opens_level) (on closes_level) 100 decls_form ts g.1.1 decls a (subst (λ us. IsUnexpectedAt us g.1.1) (sym (same_tokens bytes ts g.1.0 tells g.1.2)) g.1.3)
tree_no_fault bytes ts decls r tells a (fault.TooDeep line column) g =
    tree_shallow (on opens_level) (on closes_level) 100 decls_form ts g.1.1 decls a (subst (λ us. IsTooDeepAt us g.1.1) (sym (same_tokens bytes ts g.1.0 tells g.1.3)) g.1.4)
tree_no_fault bytes ts decls r tells a fault.NoMemory g = g

pub parsed : (one : IsUnambiguous decls_form) (path bytes : List ℕ) (ts : List Leaf) (found : FileTree) → IsReadable bytes → TellsTokens bytes ts → AreOf ts found.decls → found.path ≡ path → ParsesFile path bytes (Ok found)
parsed one path bytes ts found r tells a p = (
  λ tree. (
    λ e. subst (λ z. IsTreeOf path bytes z) e (r, (ts, spelled bytes ts tells, a), p),
    λ t. tree_is found tree (p ∙ sym t.2) (tree_one (on opens_level) (on closes_level) 100 decls_form ts found.decls tree.decls one a (subst (λ us. AreOf us tree.decls) (sym (same_tokens bytes ts t.1.0 tells t.1.1)) t.1.2)),
  ),
  tree_no_fault bytes ts found.decls r tells a,
)

unexpected_same : (bytes : List ℕ) (ts rest : List Leaf) (line column : ℕ) (text : List ℕ) → IsReadable bytes → TellsTokens bytes ts → IsUnexpectedAt ts rest → IsAt bytes rest line column text
    → (f : ParseFault) → IsFaultOf bytes f → fault.Unexpected line column text ≡ f
unexpected_same bytes ts rest line column text r tells u at fault.TooLarge g = absurd (too_long (length bytes) r.0 g)
unexpected_same bytes ts rest line column text r tells u at fault.NotUtf8 g = absurd (g.1 r.1)
unexpected_same bytes ts rest line column text r tells u at (fault.Lex f) g = absurd (tells.1 f g.1)
unexpected_same bytes ts rest line column text r tells u at (fault.Unexpected l c t) g =
    let same = unexpected_one (on opens_level) (on closes_level) 100 decls_form ts g.1.1 rest (subst (λ us. IsUnexpectedAt us g.1.1) (sym (same_tokens bytes ts g.1.0 tells g.1.2)) g.1.3) u in
    let e = at_one bytes rest line column text l c t at (subst (λ us. IsAt bytes us l c t) same g.1.4) in
    unexpected_is line column text l c t e.0 e.1 e.2
unexpected_same bytes ts rest line column text r tells u at (fault.TooDeep l c) g =
    absurd (deep_expected (on opens_level) (on closes_level) 100 decls_form ts g.1.1 rest (subst (λ us. IsTooDeepAt us g.1.1) (sym (same_tokens bytes ts g.1.0 tells g.1.3)) g.1.4) u)
unexpected_same bytes ts rest line column text r tells u at fault.NoMemory g = absurd g

unexpected_found : (path bytes : List ℕ) (ts rest : List Leaf) (line column : ℕ) (text : List ℕ) → IsReadable bytes → TellsTokens bytes ts → IsUnexpectedAt ts rest → IsAt bytes rest line column text
    → IsOneFault path bytes (fault.Unexpected line column text)
unexpected_found path bytes ts rest line column text r tells u at = (
  λ f. (λ e. subst (λ z. IsFaultOf bytes z) e (r, (ts, rest, spelled bytes ts tells, u, at)), unexpected_same bytes ts rest line column text r tells u at f),
  λ tree t. tree_expected (on opens_level) (on closes_level) 100 decls_form ts rest tree.decls (subst (λ us. AreOf us tree.decls) (sym (same_tokens bytes ts t.1.0 tells t.1.1)) t.1.2) u,
)

too_deep_same : (bytes : List ℕ) (ts rest : List Leaf) (line column : ℕ) (text : List ℕ) → IsReadable bytes → TellsTokens bytes ts → IsTooDeepAt ts rest → IsAt bytes rest line column text
    → (f : ParseFault) → IsFaultOf bytes f → fault.TooDeep line column ≡ f
too_deep_same bytes ts rest line column text r tells d at fault.TooLarge g = absurd (too_long (length bytes) r.0 g)
too_deep_same bytes ts rest line column text r tells d at fault.NotUtf8 g = absurd (g.1 r.1)
too_deep_same bytes ts rest line column text r tells d at (fault.Lex f) g = absurd (tells.1 f g.1)
too_deep_same bytes ts rest line column text r tells d at (fault.Unexpected l c t) g =
    absurd (deep_expected (on opens_level) (on closes_level) 100 decls_form ts rest g.1.1 d (subst (λ us. IsUnexpectedAt us g.1.1) (sym (same_tokens bytes ts g.1.0 tells g.1.2)) g.1.3))
too_deep_same bytes ts rest line column text r tells d at (fault.TooDeep l c) g =
    let same = too_deep_one (on opens_level) (on closes_level) 100 decls_form ts g.1.1 rest (subst (λ us. IsTooDeepAt us g.1.1) (sym (same_tokens bytes ts g.1.0 tells g.1.3)) g.1.4) d in
    let e = at_one bytes rest line column text l c g.1.2 at (subst (λ us. IsAt bytes us l c g.1.2) same g.1.5) in
    too_deep_is line column l c e.0 e.1
too_deep_same bytes ts rest line column text r tells d at fault.NoMemory g = absurd g

too_deep_found : (path bytes : List ℕ) (ts rest : List Leaf) (line column : ℕ) (text : List ℕ) → IsReadable bytes → TellsTokens bytes ts → IsTooDeepAt ts rest → IsAt bytes rest line column text
    → IsOneFault path bytes (fault.TooDeep line column)
too_deep_found path bytes ts rest line column text r tells d at = (
  λ f. (λ e. subst (λ z. IsFaultOf bytes z) e (r, (ts, rest, text, spelled bytes ts tells, d, at)), too_deep_same bytes ts rest line column text r tells d at f),
  λ tree t. tree_shallow (on opens_level) (on closes_level) 100 decls_form ts rest tree.decls (subst (λ us. AreOf us tree.decls) (sym (same_tokens bytes ts t.1.0 tells t.1.1)) t.1.2) d,
)

pub refused : (path bytes : List ℕ) (ts : List Leaf) (found : ParseFault) → IsReadable bytes → TellsTokens bytes ts → DeclsGive bytes ts (Err found) → ParsesFile path bytes (Err found)
refused path bytes ts fault.TooLarge r tells g = absurd g
refused path bytes ts fault.NotUtf8 r tells g = absurd g
refused path bytes ts (fault.Lex f) r tells g = absurd g
refused path bytes ts (fault.Unexpected line column text) r tells g = unexpected_found path bytes ts g.0 line column text r tells g.1 g.2
refused path bytes ts (fault.TooDeep line column) r tells g = too_deep_found path bytes ts g.0 line column g.1 r tells g.2 g.3
refused path bytes ts fault.NoMemory r tells g = tt

-- ---- a file that has no tokens

large_same : (bytes : List ℕ) → 262144 < length bytes → (f : ParseFault) → IsFaultOf bytes f → fault.TooLarge ≡ f
large_same bytes l fault.TooLarge g = refl
large_same bytes l fault.NotUtf8 g = absurd (too_long (length bytes) g.0 l)
large_same bytes l (fault.Lex f) g = absurd (too_long (length bytes) g.0.0 l)
large_same bytes l (fault.Unexpected line column text) g = absurd (too_long (length bytes) g.0.0 l)
large_same bytes l (fault.TooDeep line column) g = absurd (too_long (length bytes) g.0.0 l)
large_same bytes l fault.NoMemory g = absurd g

pub too_large : (path bytes : List ℕ) → 262144 < length bytes → ParsesFile path bytes (Err fault.TooLarge)
too_large path bytes l = (λ f. (λ e. subst (λ z. IsFaultOf bytes z) e l, large_same bytes l f), λ tree t. too_long (length bytes) t.0.0 l)

coded_same : (bytes : List ℕ) → length bytes ≤ 262144 → (IsUtf8 bytes → ⊥) → (f : ParseFault) → IsFaultOf bytes f → fault.NotUtf8 ≡ f
coded_same bytes l u fault.TooLarge g = absurd (too_long (length bytes) l g)
coded_same bytes l u fault.NotUtf8 g = refl
coded_same bytes l u (fault.Lex f) g = absurd (u g.0.1)
coded_same bytes l u (fault.Unexpected line column text) g = absurd (u g.0.1)
coded_same bytes l u (fault.TooDeep line column) g = absurd (u g.0.1)
coded_same bytes l u fault.NoMemory g = absurd g

pub not_utf8 : (path bytes : List ℕ) → length bytes ≤ 262144 → (IsUtf8 bytes → ⊥) → ParsesFile path bytes (Err fault.NotUtf8)
not_utf8 path bytes l u = (λ f. (λ e. subst (λ z. IsFaultOf bytes z) e (l, u), coded_same bytes l u f), λ tree t. u t.0.1)

-- the tokens of a file are told by its one lexical fault
abbrev pub TellsFault : LexFault → List ℕ → Type 0
TellsFault found bytes = ((f : LexFault) → (found ≡ f) ↔ HasFault f bytes) × ((ts : List Leaf) → Spells ts bytes → ⊥)

lexed_same : (bytes : List ℕ) (found : LexFault) → IsReadable bytes → TellsFault found bytes → (f : ParseFault) → IsFaultOf bytes f → fault.Lex found ≡ f
lexed_same bytes found r tells fault.TooLarge g = absurd (too_long (length bytes) r.0 g)
lexed_same bytes found r tells fault.NotUtf8 g = absurd (g.1 r.1)
lexed_same bytes found r tells (fault.Lex f) g = ap (λ z. fault.Lex z) ((tells.0 f).1 g.1)
lexed_same bytes found r tells (fault.Unexpected line column text) g = absurd (tells.1 g.1.0 g.1.2)
lexed_same bytes found r tells (fault.TooDeep line column) g = absurd (tells.1 g.1.0 g.1.3)
lexed_same bytes found r tells fault.NoMemory g = absurd g

pub lexed : (path bytes : List ℕ) (found : LexFault) → IsReadable bytes → TellsFault found bytes → ParsesFile path bytes (Err (fault.Lex found))
lexed path bytes found r tells = (
  λ f. (λ e. subst (λ z. IsFaultOf bytes z) e (r, (tells.0 found).0 refl), lexed_same bytes found r tells f),
  λ tree t. tells.1 t.1.0 t.1.1,
)
