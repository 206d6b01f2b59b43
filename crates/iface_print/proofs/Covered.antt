-- Prints of modules with plain names are lines and fix meanings, and so coverage holds of them.
use Rattle.std.proofs.Common.{◌≡◌, ℕ, Bool, true, false, List, [], ◌∷◌, ◌++◌, refl, sym, ◌∙◌, subst}
use Rattle.std.specs.Prelude.{not, ◌==◌, decimal}
use Rattle.std.proofs.lemmas.Bool.{eqb-true}
use Rattle.dep_key.specs.declared.kind.Kind.{Kind}
use Rattle.dep_key.specs.declared.kind.Kind.TheVariants.{TopLevel, Nominal, PotentialMember, Member, DynamicLookup, ExternalDepend, SourceFileProvide}
use Rattle.swift_ast.specs.declared.declarations.FileTree.{FileTree}
use Rattle.decl_index.specs.Declarations.{Declaration}
use Rattle.type_rules.specs.declared.meaning.Meaning.{Meaning}
use Rattle.type_rules.specs.declared.meaning.Meaning.TheVariants as means
use Rattle.type_rules.specs.declared.meaning.Parameter.{Parameter}
use Rattle.type_rules.specs.declared.meaning.Field.{Field}
use Rattle.type_infer.specs.Meanings.{meaning_in}
use Rattle.type_infer.specs.Plain.{is_separator, is_word, IsPlain, HasPlainNames, blank}
use Rattle.type_infer.specs.Sound.{is_asked_kind}
use Rattle.type_infer.proofs.ListFacts.{both-true}
use Rattle.type_infer.proofs.PlainMeanings.{meanings-plain, may-mean, plain-having, readings-ask}
use Rattle.iface_print.specs.Prints.{access_text, item_text, mutable_text, type_text, more_params_text, params_text, value_mark, fields_text, meaning_text, declaration_text, text_for_kind, is_one_line, PrintsFixMeanings, PrintsAreLines}
use Rattle.iface_print.specs.Coverage.{KeptKeysMeanTheSame, UsedKeysMeanTheSame, QueriesAgree, NodesAgree, PrintsAgree, Covers}
use Rattle.iface_print.proofs.PrintTypes.{type-word, PlainParameters}
use Rattle.iface_print.proofs.PrintLaws.{same-meaning, small, number-word, keyword-word, access-word, item-word, IsSmall, PlainFields, SmallFields}
use Rattle.iface_print.proofs.FileNodes.{prints-agree}
use Rattle.iface_print.proofs.Covering.{kept-means, asked-same, queries-agree, nodes-agree}

kind-text : (kind : Kind) → is_asked_kind kind ≡ true → (d : Declaration) (m : Meaning) → text_for_kind kind d m ≡ declaration_text d m
kind-text TopLevel a d m = refl
kind-text Nominal a d m = refl
kind-text Member a d m = refl
kind-text PotentialMember a d m = absurd cc
kind-text DynamicLookup a d m = absurd cc
kind-text ExternalDepend a d m = absurd cc
kind-text SourceFileProvide a d m = absurd cc

-- A print fixes the meaning of its key.
pub prints-fix : (p s : List FileTree) → HasPlainNames p → HasPlainNames s → PrintsFixMeanings p s
prints-fix p s hp hs = record {
  at = λ key a d e md me h.
      same-meaning key d e (meaning_in p key) (meaning_in s key) a (plain-having p hp key d md).0.name (plain-having s hs key e me).0.name
      (may-mean p key d md) (may-mean s key e me) (meanings-plain p hp key) (meanings-plain s hs key)
      (sym (kind-text key.kind a d (meaning_in p key)) ∙ h ∙ kind-text key.kind a e (meaning_in s key));
}

no-feed : (b : ℕ) → not (is_separator b) ≡ true → not (b == 10) ≡ true
no-feed b h = (elim (b == 10) as (λ v. (b == 10) ≡ v → not v ≡ true) [
  | true ↦ λ e. (let feed : b ≡ 10 = eqb-true b 10 e in let no : not (is_separator 10) ≡ true = subst (λ x. not (is_separator x) ≡ true) feed h in absurd cc)
  | false ↦ λ e. refl
]) refl

-- a word, and a line after it
word-then : (w r : List ℕ) → is_word w ≡ true → is_one_line r ≡ true → is_one_line (w ++ r) ≡ true
word-then [] r h g = g
word-then (b ∷ w) r h g =
    let here : not (b == 10) ≡ true = no-feed b (both-true _ _ h).0 in
    rw here (word-then w r (both-true _ _ h).1 g)

more-line : (ps : List Parameter) (after : List ℕ) → PlainParameters ps → is_one_line after ≡ true → is_one_line (more_params_text ps after) ≡ true
more-line [] after h g = g
more-line (p ∷ ps) after h g = word-then p.label _ h.0.0 (word-then (type_text p.ty) _ (type-word p.ty h.0.1) (more-line ps after h.1 g))

params-line : (ps : List Parameter) (after : List ℕ) → PlainParameters ps → is_one_line after ≡ true → is_one_line (params_text ps after) ≡ true
params-line [] after h g = g
params-line (p ∷ ps) after h g = word-then p.label _ h.0.0 (word-then (type_text p.ty) _ (type-word p.ty h.0.1) (more-line ps after h.1 g))

mark-line : (b : Bool) (r : List ℕ) → is_one_line r ≡ true → is_one_line (value_mark b r) ≡ true
mark-line true r h = h
mark-line false r h = h

fields-line : (fs : List Field) → PlainFields fs → SmallFields fs → is_one_line (fields_text fs) ≡ true
fields-line [] h s = refl
fields-line (f ∷ fs) h s =
    word-then (mutable_text f.mutable) _ (keyword-word f.mutable) (word-then f.name _ h.0.0 (word-then (type_text f.ty) _ (type-word f.ty h.0.1)
    (word-then (decimal f.offset) _ (number-word f.offset s.0) (mark-line f.has_value (fields_text fs) (fields-line fs h.1 s.1)))))

word-line : (w : List ℕ) → is_word w ≡ true → is_one_line w ≡ true
word-line [] h = refl
word-line (b ∷ w) h =
    let here : not (b == 10) ≡ true = no-feed b (both-true _ _ h).0 in
    rw here (word-line w (both-true _ _ h).1)

meaning-line : (m : Meaning) → IsPlain m → IsSmall m → is_one_line (meaning_text m) ≡ true
meaning-line (means.Value mu of) h s = word-line (type_text of) (type-word of h)
meaning-line (means.Function ps r) h s = params-line ps (blank ∷ type_text r) h.0 (word-line (type_text r) (type-word r h.1))
meaning-line (means.Alias of) h s = word-line (type_text of) (type-word of h)
meaning-line (means.Struct c) h s = refl
meaning-line (means.Fields fs w) h s = word-then (decimal w) _ (number-word w s.0) (fields-line fs h s.1)
meaning-line means.Broken h s = refl
meaning-line means.Circular h s = refl
meaning-line means.Ambiguous h s = refl
meaning-line means.NoProvider h s = refl

-- A print is one line.
pub prints-lines : (files : List FileTree) → HasPlainNames files → PrintsAreLines files
prints-lines files h = record {
  at = λ key a d md.
      let m = meaning_in files key in
      subst (λ t. is_one_line t ≡ true) (sym (kind-text key.kind a d m))
      (word-then (access_text d.access) _ (access-word d.access) (word-then (item_text d.item) _ (item-word d.item) (word-then d.name _ (plain-having files h key d md).0.name
      (meaning-line m (meanings-plain files h key) (small key d.item m a (may-mean files key d md))))));
}

pub kept : Covers (λ implementation. KeptKeysMeanTheSame)
kept implementation changed p s hp hs c = kept-means implementation changed p s (meanings-plain p hp) readings-ask (prints-fix p s hp hs) (prints-lines p hp) (prints-lines s hs) c

pub used : Covers UsedKeysMeanTheSame
used implementation changed p s hp hs c f m free key a u =
    asked-same implementation changed p s (meanings-plain p hp) readings-ask (prints-fix p s hp hs) (prints-lines p hp) (prints-lines s hs) c key a (c.traced f m free key u)

pub queries : {X : Type 0} → Covers (QueriesAgree X)
queries {X} implementation changed p s hp hs c = queries-agree X implementation changed p s (meanings-plain p hp) readings-ask (prints-fix p s hp hs) (prints-lines p hp) (prints-lines s hs) c

pub nodes : Covers (λ implementation. NodesAgree)
nodes implementation changed p s hp hs c = nodes-agree implementation changed p s (meanings-plain p hp) readings-ask (prints-fix p s hp hs) (prints-lines p hp) (prints-lines s hs) c

pub prints : Covers (λ implementation. PrintsAgree)
prints implementation changed p s hp hs c = prints-agree implementation changed p s c (nodes implementation changed p s hp hs c)
