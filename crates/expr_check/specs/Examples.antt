-- Expressions of a small module, worked out: what is said of each, its code, and the keys that are asked.
--
--     struct S { let n: Int }
--     let a = S(n: 1)
--     func f(x: Int) -> S { return S(n: x) }
use Rattle.std.specs.Prelude.{◌≡◌, ℕ, Bool, true, false, List, [], ◌∷◌, codes, Some, None, if◌then◌else◌}
use Rattle.std.specs.Ordering.{eq_by_cmp}
use Rattle.queries.specs.Queries.{value_with, dependencies}
use Rattle.dep_key.specs.declared.key.Key.{Key}
use Rattle.dep_key.specs.KeyOrder.{key_order}
use Rattle.dep_key.specs.KeyBuilders.{top_level, nominal, member}
use Rattle.type_rules.specs.declared.ty.Ty.{Ty}
use Rattle.type_rules.specs.declared.ty.Ty.TheVariants as ty
use Rattle.type_rules.specs.declared.meaning.Meaning.{Meaning}
use Rattle.type_rules.specs.declared.meaning.Meaning.TheVariants as means
use Rattle.swift_ast.specs.declared.tokens.TokenKind.TheVariants.{Identifier}
use Rattle.swift_ast.specs.Leaves.{Leaf}
use Rattle.typed_code.specs.declared.step.Step.{Step}
use Rattle.typed_code.specs.declared.step.Step.TheVariants as step
use Rattle.checks.specs.Checks.{Checked}
use Rattle.expr_check.specs.declared.line.Line.{Line}
use Rattle.expr_check.specs.declared.typed.Typed.{Typed}
use Rattle.expr_check.specs.declared.scope.Scope.{Scope}
use Rattle.expr_check.specs.Messages.{place_of}
use Rattle.expr_check.specs.Expressions.{typed}
use Rattle.expr_check.specs.Phrases.{Phrase, Opening, Name, Part, Member, Call, Argument, chain, postfix, literal, opening_with}

-- a token of the first line, whose kind doesn't count here
abbrev pub token : ℕ → List ℕ → Leaf
token column text = record { kind = Identifier; text = text; first_on_line = false; line = 1; column = column }

abbrev pub is_key : Key → Key → Bool
is_key = eq_by_cmp key_order

abbrev pub the_struct : Ty
the_struct = ty.Struct (codes "S")

abbrev pub meanings : Key → Meaning
meanings key =
    if is_key key (top_level (codes "S")) then means.Struct (codes "S") else
    if is_key key (nominal (codes "S")) then means.Fields (record { name = codes "n"; ty = ty.Int; mutable = false; has_value = false; offset = 0 } ∷ []) 1 else
    if is_key key (member (codes "S") (codes "n")) then means.Value false ty.Int else
    if is_key key (top_level (codes "a")) then means.Value false the_struct else
    if is_key key (top_level (codes "f")) then means.Function (record { label = codes "x"; ty = ty.Int } ∷ []) the_struct else means.NoProvider

-- outside structs, in the file `p`
abbrev pub scope : Scope
scope = record { path = codes "p"; context = None; self_type = None; blocks = []; types = []; result = None; emits = true }

abbrev pub named : ℕ → List ℕ → List Part → Phrase
named column text parts = postfix (record { first = token column text; front = λ s. Name (token column text) }) parts

abbrev pub integer : ℕ → List ℕ → Phrase
integer column text = postfix (literal (token column text) (typed ty.Int (step.Integer text ∷ []))) []

abbrev pub truth : ℕ → Phrase
truth column = postfix (literal (token column (codes "true")) (typed ty.Bool (step.Truth true ∷ []))) []

abbrev pub in_brackets : ℕ → Phrase → Phrase
in_brackets column inner = postfix (opening_with (token column (codes "(")) inner.check) []

abbrev pub argument : List ℕ → Phrase → Argument
argument label value = record { label = label; value = value }

abbrev pub checked : Phrase → Checked Line Typed
checked p = value_with meanings (p.check scope)

abbrev pub asked : Phrase → List Key
asked p = dependencies meanings (p.check scope)

abbrev pub said : ℕ → List ℕ → Line
said column text = record { line = 1; column = column; text = text }

-- m + (1 + true)
abbrev pub two_errors : Phrase
two_errors = chain (named 1 (codes "m") []) ((token 3 (codes "+"), in_brackets 5 (chain (integer 6 (codes "1")) ((token 8 (codes "+"), truth 10) ∷ []))) ∷ [])

-- f(y: 1)
abbrev pub wrong_label : Phrase
wrong_label = named 1 (codes "f") (Call (argument (codes "y") (integer 6 (codes "1")) ∷ []) ∷ [])

-- f(x: a.n).n
abbrev pub members : Phrase
members = named 1 (codes "f") (Call (argument (codes "x") (named 6 (codes "a") (Member (token 8 (codes "n")) ∷ [])) ∷ []) ∷ Member (token 11 (codes "n")) ∷ [])

-- What is said, given and asked of the three.
pub record Worked : Type 0 where
  pub both_are_told : (checked two_errors).errors ≡ said 1 (codes "cannot find 'm' in scope") ∷ said 8 (codes "binary operator '+' cannot be applied to 'Int' and 'Bool'") ∷ []
  pub labels_are_told : (checked wrong_label).errors ≡ said 1 (codes "wrong arguments in call to 'f'") ∷ []
  pub a_call_is_steps :
      checked members ≡
      record {
        errors = [];
        value =
            Some
            (typed ty.Int
            (step.Global (codes "a") the_struct ∷ step.Property (codes "S") (codes "n") ty.Int ∷ step.Call (codes "f") (ty.Int ∷ []) the_struct ∷ step.Property (codes "S") (codes "n") ty.Int ∷ []));
      }
  pub all_look_ups_are_asked :
      asked members ≡
      top_level (codes "f@p") ∷ top_level (codes "f") ∷ top_level (codes "a@p") ∷ top_level (codes "a") ∷ nominal (codes "S") ∷ member (codes "S") (codes "n@p") ∷ member (codes "S") (codes "n") ∷
      nominal (codes "S") ∷ member (codes "S") (codes "n@p") ∷ member (codes "S") (codes "n") ∷ []
