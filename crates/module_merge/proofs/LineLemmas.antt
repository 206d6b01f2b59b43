-- Where each line of a text ends with a line feed, its lines after the first, each ended by a line
-- feed, are what stands after the first line feed.
use Rattle.std.proofs.Common.{◌≡◌, ◌∙◌, ◌&&◌, ◌++◌, ◌+◌, ◌-◌, ℕ, Bool, true, false, not, cond, List, [], ◌∷◌, length, take, drop, refl, sym, ap, subst, suc, arith, codes, IsTrue}
use Rattle.std.specs.List.{after_first, onto_first, position_or_len}
use Rattle.std.proofs.lemmas.Bool.{and_parts}
use Rattle.std.proofs.lemmas.Bool.Decides.{Decides-eqb}
use Rattle.std.proofs.lemmas.Slice.Eq.{ends_is}
use Rattle.module_merge.specs.Lines.{is_line_feed, has_ended_lines, lines_of, text_of, all_but_first}

pub ends : (text : List ℕ) → has_ended_lines text ≡ true → text ≡ take (length text - 1) text ++ 10 ∷ []
ends text e = (ends_is Decides-eqb text (codes "\n") (has_ended_lines text) refl).0 e

filled : (front : List ℕ) → front ++ 10 ∷ [] ≡ [] → ⊥
filled [] e = cc
filled (b ∷ front) e = cc

onto_text : (b : ℕ) (lines : List (List ℕ)) (rest : List ℕ) → text_of lines ≡ rest → (rest ≡ [] → ⊥) → text_of (onto_first b lines) ≡ b ∷ rest
onto_text b [] rest e h = absurd (h (sym e))
onto_text b (line ∷ lines) rest e h = ap (λ t. b ∷ t) e

pub feed_is : (b : ℕ) → is_line_feed b ≡ true → b ≡ 10
feed_is b e = grind arith

text_step : (b : ℕ) (feed : Bool) (rest : List ℕ) → is_line_feed b ≡ feed → text_of (lines_of rest) ≡ rest → (rest ≡ [] → ⊥) → text_of (cond feed ([] ∷ lines_of rest) (onto_first b (lines_of rest))) ≡ b ∷ rest
text_step b true rest e f h = ap (λ t. 10 ∷ t) f ∙ ap (λ x. x ∷ rest) (sym (feed_is b e))
text_step b false rest e f h = onto_text b (lines_of rest) rest f h

text_of_lines : (front : List ℕ) → text_of (lines_of (front ++ 10 ∷ [])) ≡ front ++ 10 ∷ []
text_of_lines [] = refl
text_of_lines (b ∷ front) = text_step b (is_line_feed b) (front ++ 10 ∷ []) refl (text_of_lines front) (filled front)

after_step : (feed : Bool) (b n : ℕ) (rest : List ℕ) → drop (cond (not feed) (1 + n) 0 + 1) (b ∷ rest) ≡ cond feed rest (drop (n + 1) rest)
after_step true b n rest = refl
after_step false b n rest = let e : (1 + n) + 1 ≡ suc (n + 1) = omega arith in rw e refl

onto_rest : (b : ℕ) (lines : List (List ℕ)) → all_but_first (onto_first b lines) ≡ all_but_first lines
onto_rest b [] = refl
onto_rest b (line ∷ lines) = refl

rest_step : (b : ℕ) (feed : Bool) (rest : List ℕ) → is_line_feed b ≡ feed → text_of (lines_of rest) ≡ rest → text_of (all_but_first (lines_of rest)) ≡ after_first is_line_feed rest
    → text_of (all_but_first (cond feed ([] ∷ lines_of rest) (onto_first b (lines_of rest)))) ≡ cond feed rest (after_first is_line_feed rest)
rest_step b true rest e f g = f
rest_step b false rest e f g = ap text_of (onto_rest b (lines_of rest)) ∙ g

rest_of_lines : (front : List ℕ) → text_of (all_but_first (lines_of (front ++ 10 ∷ []))) ≡ after_first is_line_feed (front ++ 10 ∷ [])
rest_of_lines [] = refl
rest_of_lines (b ∷ front) =
    let rest = front ++ 10 ∷ [] in
    rest_step b (is_line_feed b) rest refl (text_of_lines front) (rest_of_lines front) ∙ sym (after_step (is_line_feed b) b (position_or_len is_line_feed rest) rest)

pub lines_after_first : (text : List ℕ) → has_ended_lines text ≡ true → text_of (all_but_first (lines_of text)) ≡ after_first is_line_feed text
lines_after_first text h =
    let P : List ℕ → Type 0 = λ t. text_of (all_but_first (lines_of t)) ≡ after_first is_line_feed t in
    subst P (sym (ends text h)) (rest_of_lines (take (length text - 1) text))

-- the same of a text that passes a test of which this is the first part
pub lines_after_first_where : (text : List ℕ) (b : Bool) → IsTrue (has_ended_lines text && b) → text_of (all_but_first (lines_of text)) ≡ after_first is_line_feed text
lines_after_first_where text b e = lines_after_first text (and_parts (has_ended_lines text) b e).0
