-- What names of types mean, and the layouts that values need.
use Rattle.std.specs.Prelude.{ℕ, List, [], ◌∷◌, codes, true, false, Option, Some, None, if◌then◌else◌}
use Rattle.queries.specs.Queries.{Fetch}
use Rattle.dep_key.specs.declared.key.Key.{Key}
use Rattle.dep_key.specs.KeyBuilders.{top_level, nominal, member, key_name}
use Rattle.type_rules.specs.declared.ty.Ty.{Ty}
use Rattle.type_rules.specs.declared.ty.Ty.TheVariants as ty
use Rattle.type_rules.specs.declared.meaning.Meaning.{Meaning}
use Rattle.type_rules.specs.declared.meaning.Meaning.TheVariants as means
use Rattle.type_rules.specs.Shown.{before_path}
use Rattle.swift_ast.specs.Leaves.{Leaf}
use Rattle.checks.specs.Checks.{Check, sure, error, ◌>>=◌, noting}
use Rattle.expr_check.specs.declared.line.Line.{Line}
use Rattle.expr_check.specs.declared.place.Place.{Place}
use Rattle.expr_check.specs.Message.{Message}
use Rattle.expr_check.specs.Message as is
use Rattle.expr_check.specs.declared.scope.Scope.{Scope}
use Rattle.expr_check.specs.Messages.{line, place_of}
use Rattle.expr_check.specs.Scopes.{same_text}

-- A check of a part of a file: it asks what keys mean, and says errors.
abbrev pub CheckOf : Type 0 → Type 0
CheckOf X = Check Key Meaning Line X

-- one error at a place, and no value
abbrev pub wrong : {X : Type 0} → Place → Message → CheckOf X
wrong at what = error (line at what)

-- one error at a token, with its text
abbrev pub wrong_name : {X : Type 0} → Leaf → (List ℕ → Message) → CheckOf X
wrong_name t what = wrong (place_of t) (what t.text)

-- ---- look-up

-- a key that has a provider, and what it means
abbrev pub Found : Type 0
Found = Key × Meaning

abbrev pub provided : Key → Meaning → CheckOf (Option Found) → CheckOf (Option Found)
provided key means.NoProvider others = others
provided key meaning others = sure (Some (key, meaning))

-- The first of the keys that has a provider. The keys before it are asked, too.
unfoldable pub look_up : List Key → CheckOf (Option Found)
look_up [] = sure None
look_up (key ∷ keys) = Fetch key (λ meaning. provided key meaning (look_up keys))

-- the keys of a name outside structs and extensions: as its file keeps it to itself, and as the module has it
abbrev pub top_keys : List ℕ → List ℕ → List Key
top_keys path name = top_level (key_name path true name) ∷ top_level (key_name path false name) ∷ []

-- the keys of a member of a context, in the same order
abbrev pub member_keys : List ℕ → List ℕ → List ℕ → List Key
member_keys path context name = member context (key_name path true name) ∷ member context (key_name path false name) ∷ []

-- What a name was found to mean, where it can be used.
abbrev pub usable : Leaf → Meaning → CheckOf Meaning
usable t means.Ambiguous = wrong_name t (λ name. is.Ambiguous name)
usable t means.Broken = wrong_name t (λ name. is.HasErrors name)
usable t means.Circular = wrong_name t (λ name. is.HasErrors name)
usable t meaning = sure meaning

-- ---- types

abbrev pub built_in_type : List ℕ → Option Ty
built_in_type name =
    if same_text name (codes "Int") then Some ty.Int else
    if same_text name (codes "String") then Some ty.String else
    if same_text name (codes "Bool") then Some ty.Bool else
    if same_text name (codes "Void") then Some ty.Void else None

abbrev pub built_in_as : Leaf → Option Ty → CheckOf Ty
built_in_as t None = wrong_name t (λ name. is.TypeNotFound name)
built_in_as t (Some of) = sure of

-- a type that no declaration gives
abbrev pub built_in : Leaf → CheckOf Ty
built_in t = built_in_as t (built_in_type t.text)

-- the type that a declaration gives
abbrev pub type_meant : Leaf → Meaning → CheckOf Ty
type_meant t (means.Struct context) = sure (ty.Struct context)
type_meant t (means.Alias of) = sure of
type_meant t _ = wrong_name t (λ name. is.NotAType name)

abbrev pub type_found : Leaf → Option Found → CheckOf Ty
type_found t None = built_in t
type_found t (Some found) = do
  meaning ← usable t found.1
  type_meant t meaning

-- The type that a name means in the file of a path.
abbrev pub type_named : List ℕ → Leaf → CheckOf Ty
type_named path t = do
  found ← look_up (top_keys path t.text)
  type_found t found

-- ---- layouts

abbrev pub laid_out_as : Place → List ℕ → Meaning → CheckOf Ty
laid_out_as at context means.Broken = wrong at (is.HasErrors (before_path context))
laid_out_as at context means.Circular = wrong at (is.HasErrors (before_path context))
laid_out_as at context _ = sure (ty.Struct context)

-- A type whose values can be laid out: the stored parts of a struct are asked for.
abbrev pub laid_out : Place → Ty → CheckOf Ty
laid_out at (ty.Struct context) = Fetch (nominal context) (λ meaning. laid_out_as at context meaning)
laid_out at of = sure of

-- The type of a value in an expression or a target that begins at a place. Its layout is needed where the value is emitted.
abbrev pub valued : Scope → Place → Ty → CheckOf Ty
valued s at of = if s.emits then laid_out at of else sure of

-- A written type of a parameter, a local, a result or a property. It stays the type where it can't be laid out.
abbrev pub type_written : Scope → Leaf → CheckOf Ty
type_written s t = do
  of ← type_named s.path t
  noting (valued s (place_of t) of) (sure of)
