-- A text that is lexed up to a place.
use Rattle.std.proofs.Common.{◌≡◌, ℕ, ◌+◌, ◌<◌, ◌≤◌, ◌^◌, ◌-◌, ◌↔◌, Bool, true, false, ◌||◌, Option, Some, None, List, [], ◌∷◌, ◌++◌, length, take, drop, map, eqb, ltb, sym, ap, ◌∙◌, refl, arith, subst}
use Rattle.std.specs.List.{list_any}
use Rattle.std.proofs.lemmas.Bool.{ne_eqb}
use Rattle.std.proofs.lemmas.List.{append_assoc, append-nil, length-append, take-append-drop, take_at, map_push}
use Rattle.swift_ast.specs.declared.TokenKind.{TokenKind}
use Rattle.swift_ast.specs.declared.Token.{Token as TokenOf}
use Rattle.swift_ast.specs.Leaves.{Leaf, leaf_of}
use Rattle.swift_token.specs.declared.faults.LexFault.{LexFault}
use Rattle.swift_token.specs.declared.faults.LexWhat.{LexWhat}
use Rattle.swift_token.specs.declared.positions.Position.{Position}
use Rattle.swift_token.specs.declared.next_lexeme.NextLexeme.{NextLexeme}
use Rattle.swift_token.specs.declared.next_lexeme.NextLexeme.TheVariants.{End, Token, Fault}
use Rattle.swift_token.specs.Texts.{is_token_text}
use Rattle.swift_token.specs.Spelling.{IsTokenIn, IsPlaced, is_line_feed, line_behind, column_behind}
use Rattle.swift_token.specs.Trivia.{IsTrivia, IsLastTrivia, NoTriviaPiece, is_last_line}
use Rattle.swift_token.specs.Faults.{SpellsTo, Spells, IsFault, HasFault}
use Rattle.swift_token.specs.Positions.{IsPositionBehind}
use Rattle.swift_token.specs.NextLexeme.{next_lexeme}
use Rattle.swift_token.proofs.Places.{trivia_feeds, line_bound, column_bound}
use Rattle.swift_token.proofs.Words.{token_some}
use Rattle.swift_token.proofs.Fronts.{same_split}
use Rattle.swift_token.proofs.NextLexemeLemmas.{token_stands}
use Rattle.swift_token.proofs.Soundness.{IsStanding, stands_sound}
use Rattle.swift_token.proofs.Completeness.{fault_stands, token_no_piece, last_stands, last_no_piece}
use Rattle.swift_token.proofs.TriviaLemmas.{one_trivia}

-- What stands behind the last token: nothing more, or the fault.
abbrev pub ends : Option LexFault → List ℕ → List ℕ → Type 0
ends None before rest = IsLastTrivia rest
ends (Some f) before rest = IsFault f before rest

pub record LeftTo (ending : Option LexFault) (before rest : List ℕ) (done ts : List Leaf) : Type 0 where
  pub more : List Leaf
  pub joined : ts ≡ done ++ more
  pub spelled : SpellsTo (ends ending) before more rest

-- The tokens that were found spell `before`, the text through the last of them, and all others begin with them.
pub record Lexed (text before rest : List ℕ) (done : List Leaf) : Type 0 where
  pub whole : text ≡ before ++ rest
  pub sound : (ending : Option LexFault) (ts : List Leaf) → SpellsTo (ends ending) before ts rest → SpellsTo (ends ending) [] (done ++ ts) text
  pub complete : (ending : Option LexFault) (ts : List Leaf) → SpellsTo (ends ending) [] ts text → LeftTo ending before rest done ts
  pub begun : eqb (length done) 0 ≡ eqb (length before) 0

pub lexed_start : (text : List ℕ) → Lexed text [] text []
lexed_start text = record { whole = refl; sound = λ ending ts s. s; complete = λ ending ts s. record { more = ts; joined = refl; spelled = s }; begun = refl }

-- What is spelled next stands first behind the trivia.
abbrev pub Next : Option LexFault → List ℕ → List ℕ → List ℕ → List Leaf → Type 0
Next None before trivia behind [] = next_lexeme behind ≡ End
Next (Some f) before trivia behind [] =
    (front : List ℕ) × (after : List ℕ) × (behind ≡ front ++ after) × (next_lexeme behind ≡ Fault f.what (length front)) × (f.line ≡ line_behind (before ++ (trivia ++ front))) × (f.column ≡ column_behind (before ++ (trivia ++ front)))
Next ending before trivia behind (u ∷ us) =
    (after : List ℕ) × (behind ≡ u.text ++ after) × (next_lexeme behind ≡ Token u.kind (length u.text)) × IsPlaced before trivia u × SpellsTo (ends ending) (before ++ (trivia ++ u.text)) us after

next_token : (ending : Option LexFault) (before trivia behind : List ℕ) (u : Leaf) (us : List Leaf) → IsTrivia trivia → NoTriviaPiece behind → SpellsTo (ends ending) before (u ∷ us) (trivia ++ behind)
    → (after : List ℕ) × (behind ≡ u.text ++ after) × (next_lexeme behind ≡ Token u.kind (length u.text)) × IsPlaced before trivia u × SpellsTo (ends ending) (before ++ (trivia ++ u.text)) us after
next_token ending before trivia behind u us g n s =
    let one = one_trivia trivia s.0 behind (u.text ++ s.1) g s.2 n (token_no_piece u.kind u.text s.1 s.4) s.3 in
    let trivia_is : s.0 ≡ trivia = sym one.0 in (
      s.1,
      one.1,
      ap next_lexeme one.1 ∙ token_stands u.kind u.text s.1 s.4,
      subst (λ (x : List ℕ). IsPlaced before x u) trivia_is s.5,
      subst (λ (x : List ℕ). SpellsTo (ends ending) (before ++ (x ++ u.text)) us s.1) trivia_is s.6,
    )

next : (ending : Option LexFault) (before trivia behind : List ℕ) (more : List Leaf) → IsTrivia trivia → NoTriviaPiece behind → SpellsTo (ends ending) before more (trivia ++ behind) → Next ending before trivia behind more
next None before trivia behind [] g n s =
    let one = one_trivia trivia s.0 behind s.1 g s.2 n (last_no_piece s.1 s.4) s.3 in
    ap next_lexeme one.1 ∙ last_stands s.1 s.4
next (Some f) before trivia behind [] g n s =
    let fault = fault_stands f.what s.1 s.2 s.5 in
    let one = one_trivia trivia s.0 behind (s.1 ++ s.2) g s.3 n fault.no_piece s.4 in
    (s.1, s.2, one.1, ap next_lexeme one.1 ∙ fault.found, s.6 ∙ ap (λ (x : List ℕ). line_behind (before ++ (x ++ s.1))) (sym one.0), s.7 ∙ ap (λ (x : List ℕ). column_behind (before ++ (x ++ s.1))) (sym one.0))
next None before trivia behind (u ∷ us) g n s = next_token None before trivia behind u us g n s
next (Some f) before trivia behind (u ∷ us) g n s = next_token (Some f) before trivia behind u us g n s

-- One token more.
token_parts : (k l : TokenKind) (m n : ℕ) → Token k m ≡ Token l n → (k ≡ l) × (m ≡ n)
token_parts k l m n e = (cc, cc)

end_token : (k : TokenKind) (n : ℕ) → End ≡ Token k n → ⊥
end_token k n e = cc

end_fault : (w : LexWhat) (n : ℕ) → End ≡ Fault w n → ⊥
end_fault w n e = cc

token_fault : (k : TokenKind) (m : ℕ) (w : LexWhat) (n : ℕ) → Token k m ≡ Fault w n → ⊥
token_fault k m w n e = cc

fault_parts : (v w : LexWhat) (m n : ℕ) → Fault v m ≡ Fault w n → (v ≡ w) × (m ≡ n)
fault_parts v w m n e = (cc, cc)

same_leaf : (t u : Leaf) → t.kind ≡ u.kind → t.text ≡ u.text → t.first_on_line ≡ u.first_on_line → t.line ≡ u.line → t.column ≡ u.column → t ≡ u
same_leaf t u kind text first line column =
    let by_kind : TokenKind → Leaf = λ a. record { kind = a; text = t.text; first_on_line = t.first_on_line; line = t.line; column = t.column } in
    let by_text : List ℕ → Leaf = λ a. record { kind = u.kind; text = a; first_on_line = t.first_on_line; line = t.line; column = t.column } in
    let by_first : Bool → Leaf = λ a. record { kind = u.kind; text = u.text; first_on_line = a; line = t.line; column = t.column } in
    let by_line : ℕ → Leaf = λ a. record { kind = u.kind; text = u.text; first_on_line = u.first_on_line; line = a; column = t.column } in
    let by_column : ℕ → Leaf = λ a. record { kind = u.kind; text = u.text; first_on_line = u.first_on_line; line = u.line; column = a } in
    ap by_kind kind ∙ ap by_text text ∙ ap by_first first ∙ ap by_line line ∙ ap by_column column

left_token : (ending : Option LexFault) (before trivia after : List ℕ) (t : Leaf) (done ts : List Leaf) (u : Leaf) (us : List Leaf) → IsTrivia trivia → IsTokenIn t.kind t.text after → IsPlaced before trivia t → ts ≡ done ++ (u ∷ us)
    → SpellsTo (ends ending) before (u ∷ us) (trivia ++ (t.text ++ after)) → LeftTo ending (before ++ (trivia ++ t.text)) after (done ++ (t ∷ [])) ts
left_token ending before trivia after t done ts u us g tok placed joined s =
    let found = next_token ending before trivia (t.text ++ after) u us g (token_no_piece t.kind t.text after tok) s in
    let parts = token_parts t.kind u.kind (length t.text) (length u.text) (sym (token_stands t.kind t.text after tok) ∙ found.2) in
    let split = same_split t.text after u.text found.0 parts.1 found.1 in
    let text_is : t.text ≡ u.text = split.0 in
    let after_is : after ≡ found.0 = split.1 in
    let leaf : t ≡ u = same_leaf t u parts.0 text_is (placed.first_on_line ∙ sym found.3.first_on_line) (placed.line ∙ sym found.3.line) (placed.column ∙ sym found.3.column) in
    record {
      more = us;
      joined = joined ∙ ap (λ (x : Leaf). done ++ (x ∷ us)) (sym leaf) ∙ sym (append_assoc done (t ∷ []) us);
      spelled = subst (λ (x : List ℕ). SpellsTo (ends ending) (before ++ (trivia ++ x)) us after) (sym text_is) (subst (λ (x : List ℕ). SpellsTo (ends ending) (before ++ (trivia ++ u.text)) us x) (sym after_is) found.4);
    }

left_on : (ending : Option LexFault) (before trivia after : List ℕ) (t : Leaf) (done ts more : List Leaf) → IsTrivia trivia → IsTokenIn t.kind t.text after → IsPlaced before trivia t → ts ≡ done ++ more
    → SpellsTo (ends ending) before more (trivia ++ (t.text ++ after)) → LeftTo ending (before ++ (trivia ++ t.text)) after (done ++ (t ∷ [])) ts
left_on None before trivia after t done ts [] g tok placed joined s =
    absurd (end_token t.kind (length t.text) (sym (next None before trivia (t.text ++ after) [] g (token_no_piece t.kind t.text after tok) s) ∙ token_stands t.kind t.text after tok))
left_on (Some f) before trivia after t done ts [] g tok placed joined s =
    let found = next (Some f) before trivia (t.text ++ after) [] g (token_no_piece t.kind t.text after tok) s in
    absurd (token_fault t.kind (length t.text) f.what (length found.0) (sym (token_stands t.kind t.text after tok) ∙ found.3))
left_on None before trivia after t done ts (u ∷ us) g tok placed joined s = left_token None before trivia after t done ts u us g tok placed joined s
left_on (Some f) before trivia after t done ts (u ∷ us) g tok placed joined s = left_token (Some f) before trivia after t done ts u us g tok placed joined s

not_empty : (done : List Leaf) (t : Leaf) → eqb (length (done ++ (t ∷ []))) 0 ≡ false
not_empty done t = ne_eqb (length (done ++ (t ∷ []))) 0 (λ e. omega (arith, e, length-append done (t ∷ [])))

some_length : (text : List ℕ) → (text ≡ [] → ⊥) → 0 < length text
some_length [] some = absurd (some refl)
some_length (c ∷ cs) some = omega arith

not_empty_text : (before trivia text : List ℕ) → (text ≡ [] → ⊥) → eqb (length (before ++ (trivia ++ text))) 0 ≡ false
not_empty_text before trivia text some = ne_eqb (length (before ++ (trivia ++ text))) 0 (λ e. omega (arith, e, length-append before (trivia ++ text), length-append trivia text, some_length text some))

pub lexed_more : (text before trivia after : List ℕ) (t : Leaf) (done : List Leaf) → Lexed text before (trivia ++ (t.text ++ after)) done → IsTrivia trivia → IsTokenIn t.kind t.text after → IsPlaced before trivia t
    → Lexed text (before ++ (trivia ++ t.text)) after (done ++ (t ∷ []))
lexed_more text before trivia after t done l g tok placed = record {
  whole = l.whole ∙ ap (λ (x : List ℕ). before ++ x) (sym (append_assoc trivia t.text after)) ∙ sym (append_assoc before (trivia ++ t.text) after);
  sound = λ ending ts s. subst (λ (x : List Leaf). SpellsTo (ends ending) [] x text) (sym (append_assoc done (t ∷ []) ts)) (l.sound ending (t ∷ ts) (trivia, after, g, refl, tok, placed, s));
  complete = λ ending ts s. let left = l.complete ending ts s in left_on ending before trivia after t done ts left.more g tok placed left.joined left.spelled;
  begun = not_empty done t ∙ sym (not_empty_text before trivia t.text (token_some t.kind t.text tok.spelled));
}

end_only : (before trivia behind : List ℕ) (done ts more : List Leaf) → IsTrivia trivia → NoTriviaPiece behind → next_lexeme behind ≡ End → ts ≡ done ++ more → SpellsTo (ends None) before more (trivia ++ behind) → done ≡ ts
end_only before trivia behind done ts [] g n st joined s = sym (joined ∙ append-nil done)
end_only before trivia behind done ts (u ∷ us) g n st joined s = absurd (end_token u.kind (length u.text) (sym st ∙ (next_token None before trivia behind u us g n s).2))

end_no_fault : (f : LexFault) (before trivia behind : List ℕ) (more : List Leaf) → IsTrivia trivia → NoTriviaPiece behind → next_lexeme behind ≡ End → SpellsTo (ends (Some f)) before more (trivia ++ behind) → ⊥
end_no_fault f before trivia behind [] g n st s = let found = next (Some f) before trivia behind [] g n s in end_fault f.what (length found.0) (sym st ∙ found.3)
end_no_fault f before trivia behind (u ∷ us) g n st s = end_token u.kind (length u.text) (sym st ∙ (next_token (Some f) before trivia behind u us g n s).2)

-- Nothing but trivia is left: exactly the tokens that were found spell the text.
pub lexed_end : (text before trivia behind : List ℕ) (done : List Leaf) → Lexed text before (trivia ++ behind) done → IsTrivia trivia → NoTriviaPiece behind → next_lexeme behind ≡ End
    → ((ts : List Leaf) → (done ≡ ts) ↔ Spells ts text) × ((f : LexFault) → HasFault f text → ⊥)
lexed_end text before trivia behind done l g n st =
    let last : is_last_line behind ≡ true = subst (λ (s : NextLexeme). IsStanding s behind) st (stands_sound behind n) in
    let whole : Spells done text = subst (λ (x : List Leaf). Spells x text) (append-nil done) (l.sound None [] (trivia, behind, g, refl, last)) in (
      (λ ts. ((λ e. subst (λ (x : List Leaf). Spells x text) e whole), (λ s. let left = l.complete None ts s in end_only before trivia behind done ts left.more g n st left.joined left.spelled))),
      (λ f h. let left = l.complete (Some f) h.0 h.1 in end_no_fault f before trivia behind left.more g n st left.spelled),
    )

same_fault : (f h : LexFault) → f.line ≡ h.line → f.column ≡ h.column → f.what ≡ h.what → f ≡ h
same_fault f h line column what =
    let by_line : ℕ → LexFault = λ a. record { line = a; column = f.column; what = f.what } in
    let by_column : ℕ → LexFault = λ a. record { line = h.line; column = a; what = f.what } in
    let by_what : LexWhat → LexFault = λ a. record { line = h.line; column = h.column; what = a } in
    ap by_line line ∙ ap by_column column ∙ ap by_what what

-- What the lexer says of a fault behind trivia.
pub record IsAt (f : LexFault) (before trivia behind : List ℕ) (n : ℕ) : Type 0 where
  pub found : next_lexeme behind ≡ Fault f.what n
  pub line : f.line ≡ line_behind (before ++ (trivia ++ take n behind))
  pub column : f.column ≡ column_behind (before ++ (trivia ++ take n behind))

fault_only : (f h : LexFault) (before trivia behind : List ℕ) (n : ℕ) (more : List Leaf) → IsTrivia trivia → NoTriviaPiece behind → IsAt f before trivia behind n → SpellsTo (ends (Some h)) before more (trivia ++ behind) → f ≡ h
fault_only f h before trivia behind n [] g none at s =
    let found = next (Some h) before trivia behind [] g none s in
    let parts = fault_parts f.what h.what n (length found.0) (sym at.found ∙ found.3) in
    let front : take n behind ≡ found.0 = ap (take n) found.2 ∙ take_at found.0 found.1 n (sym parts.1) in
    same_fault f h (at.line ∙ ap (λ (x : List ℕ). line_behind (before ++ (trivia ++ x))) front ∙ sym found.4) (at.column ∙ ap (λ (x : List ℕ). column_behind (before ++ (trivia ++ x))) front ∙ sym found.5) parts.0
fault_only f h before trivia behind n (u ∷ us) g none at s = absurd (token_fault u.kind (length u.text) f.what n (sym (next_token (Some h) before trivia behind u us g none s).2 ∙ at.found))

fault_no_end : (f : LexFault) (before trivia behind : List ℕ) (n : ℕ) (more : List Leaf) → IsTrivia trivia → NoTriviaPiece behind → IsAt f before trivia behind n → SpellsTo (ends None) before more (trivia ++ behind) → ⊥
fault_no_end f before trivia behind n [] g none at s = end_fault f.what n (sym (next None before trivia behind [] g none s) ∙ at.found)
fault_no_end f before trivia behind n (u ∷ us) g none at s = token_fault u.kind (length u.text) f.what n (sym (next_token None before trivia behind u us g none s).2 ∙ at.found)

-- A fault stands behind the trivia: it is the text's, and nothing spells the text.
pub lexed_fault : (text before trivia behind : List ℕ) (done : List Leaf) (f : LexFault) (n : ℕ) → Lexed text before (trivia ++ behind) done → IsTrivia trivia → NoTriviaPiece behind → IsAt f before trivia behind n
    → ((h : LexFault) → (f ≡ h) ↔ HasFault h text) × ((ts : List Leaf) → Spells ts text → ⊥)
lexed_fault text before trivia behind done f n l g none at =
    let lexeme : IsStanding (Fault f.what n) behind = subst (λ (s : NextLexeme). IsStanding s behind) at.found (stands_sound behind none) in
    let here : IsFault f before (trivia ++ behind) =
    (trivia, take n behind, drop n behind, g, ap (λ (x : List ℕ). trivia ++ x) (sym (take-append-drop n behind)), lexeme.1, at.line, at.column) in
    let has : HasFault f text = (done ++ [], l.sound (Some f) [] here) in (
      (λ h. ((λ e. subst (λ (x : LexFault). HasFault x text) e has), (λ s. let left = l.complete (Some h) s.0 s.1 in fault_only f h before trivia behind n left.more g none at left.spelled))),
      (λ ts s. let left = l.complete None ts s in fault_no_end f before trivia behind n left.more g none at left.spelled),
    )

abbrev pub leaf_at : TokenKind → List ℕ → Bool → Position → Leaf
leaf_at kind text first start = record { kind = kind; text = text; first_on_line = first; line = start.line; column = start.column }

-- A token stands behind the trivia.
pub lexed_step : (text before trivia behind t after : List ℕ) (kind : TokenKind) (n : ℕ) (done : List Leaf) (first : Bool) (place start : Position) → Lexed text before (trivia ++ behind) done → IsTrivia trivia → NoTriviaPiece behind
    → next_lexeme behind ≡ Token kind n → t ≡ take n behind → after ≡ drop n behind → IsPositionBehind place before → IsPositionBehind start (before ++ trivia) → first ≡ (eqb (length done) 0 || ltb place.line start.line)
    → Lexed text (before ++ (trivia ++ t)) after (done ++ (leaf_at kind t first start ∷ []))
lexed_step text before trivia behind t after kind n done first place start l g none st front back at from is_first =
    let lexeme : IsStanding (Token kind n) behind = subst (λ (s : NextLexeme). IsStanding s behind) st (stands_sound behind none) in
    let tok : IsTokenIn kind t after = subst (λ (x : List ℕ). IsTokenIn kind x after) (sym front) (subst (λ (x : List ℕ). IsTokenIn kind (take n behind) x) (sym back) lexeme.1) in
    let whole : behind ≡ t ++ after = sym (take-append-drop n behind) ∙ ap (λ (x : List ℕ). x ++ drop n behind) (sym front) ∙ ap (λ (x : List ℕ). t ++ x) (sym back) in
    let feeds : list_any is_line_feed trivia ≡ ltb place.line start.line =
    trivia_feeds before trivia ∙ ap (λ (m : ℕ). ltb m (line_behind (before ++ trivia))) (sym at.line) ∙ ap (λ (m : ℕ). ltb place.line m) (sym from.line) in
    lexed_more text before trivia after (leaf_at kind t first start) done (subst (λ (x : List ℕ). Lexed text before (trivia ++ x) done) whole l) g tok
    (record { line = from.line; column = from.column; first_on_line = is_first ∙ ap (λ (b : Bool). b || ltb place.line start.line) l.begun ∙ ap (λ (b : Bool). eqb (length before) 0 || b) (sym feeds) })

-- how much of the text a token or a fault takes
pub standing_within : (behind : List ℕ) (kind : TokenKind) (n : ℕ) → NoTriviaPiece behind → next_lexeme behind ≡ Token kind n → (n ≤ length behind) × (is_token_text kind (take n behind) ≡ true)
standing_within behind kind n none st =
    let lexeme : IsStanding (Token kind n) behind = subst (λ (s : NextLexeme). IsStanding s behind) st (stands_sound behind none) in
    (lexeme.0, lexeme.1.spelled)

pub fault_within : (behind : List ℕ) (what : LexWhat) (n : ℕ) → NoTriviaPiece behind → next_lexeme behind ≡ Fault what n → n ≤ length behind
fault_within behind what n none st = let lexeme : IsStanding (Fault what n) behind = subst (λ (s : NextLexeme). IsStanding s behind) st (stands_sound behind none) in lexeme.0

pub pushed : (tokens more : List TokenOf) (t : TokenOf) → more ≡ tokens ++ (t ∷ []) → map leaf_of tokens ++ (leaf_of t ∷ []) ≡ map leaf_of more
pushed tokens more t e = sym (ap (map leaf_of) e ∙ map_push leaf_of tokens t)

pub place_fits : (p : Position) (before : List ℕ) (n : ℕ) → IsPositionBehind p before → length before + n < 2 ^ 32 - 1 → (p.line + n < 2 ^ 32) × (p.column + n < 2 ^ 32)
place_fits p before n at short = (omega (arith, at.line, line_bound before), omega (arith, at.column, column_bound before))
