-- Which parts of a key are filled.
use Rattle.std.specs.Prelude.{ℕ, Bool, true, false, not, ◌&&◌, ◌==◌, List, length}
use Rattle.dep_key.specs.declared.kind.Kind.{Kind}
use Rattle.dep_key.specs.declared.kind.Kind.TheVariants.{TopLevel, Nominal, PotentialMember, Member, DynamicLookup, ExternalDepend, SourceFileProvide}
use Rattle.dep_key.specs.declared.key.Key.{Key}

abbrev pub is_filled : List ℕ → Bool
is_filled text = not (length text == 0)

-- which parts a key has
pub record Shape : Type 0 where
  pub context : Bool
  pub name : Bool

-- A member has both parts, the stored parts of a type and that it may have members have its context alone, and all others have a name alone.
abbrev pub shape_of : Kind → Shape
shape_of TopLevel = record { context = false; name = true }
shape_of Nominal = record { context = true; name = false }
shape_of PotentialMember = record { context = true; name = false }
shape_of Member = record { context = true; name = true }
shape_of DynamicLookup = record { context = false; name = true }
shape_of ExternalDepend = record { context = false; name = true }
shape_of SourceFileProvide = record { context = false; name = true }

abbrev pub is_same : Bool → Bool → Bool
is_same true b = b
is_same false b = not b

-- The context and the name are filled where the kind has them, and else empty.
abbrev pub has_shape : Key → Bool
has_shape key = is_same (shape_of key.kind).context (is_filled key.context) && is_same (shape_of key.kind).name (is_filled key.name)
