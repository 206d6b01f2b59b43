-- The order of keys.
use Rattle.std.specs.Prelude.{ℕ, ◌==◌, if◌then◌else◌, Option, Some, None}
use Rattle.std.specs.declared.cmp.Ordering.{Ordering}
use Rattle.std.specs.Ordering.{nat_cmp, on, then_cmp}
use Rattle.std.specs.Cmp.{IsTotalOrder, then_total, on_total, nat_cmp_total}
use Rattle.std.specs.Cmp.Lexicographic.{slice_cmp, nat_list_cmp_total}
use Rattle.dep_key.specs.declared.kind.Kind.{Kind}
use Rattle.dep_key.specs.declared.kind.Kind.TheVariants.{TopLevel, Nominal, PotentialMember, Member, DynamicLookup, ExternalDepend, SourceFileProvide}
use Rattle.dep_key.specs.declared.kind.Aspect.{Aspect}
use Rattle.dep_key.specs.declared.kind.Aspect.TheVariants.{Interface, Implementation}
use Rattle.dep_key.specs.declared.key.Key.{Key}

-- the number of a kind, in the order of the type
abbrev pub kind_number : Kind → ℕ
kind_number TopLevel = 0
kind_number Nominal = 1
kind_number PotentialMember = 2
kind_number Member = 3
kind_number DynamicLookup = 4
kind_number ExternalDepend = 5
kind_number SourceFileProvide = 6

abbrev pub aspect_number : Aspect → ℕ
aspect_number Interface = 0
aspect_number Implementation = 1

-- the kind of a number, and none from 7 on
abbrev pub kind_at : ℕ → Option Kind
kind_at n =
    if n == 0 then Some TopLevel else if n == 1 then Some Nominal else if n == 2 then Some PotentialMember else if n == 3 then Some Member
    else if n == 4 then Some DynamicLookup else if n == 5 then Some ExternalDepend else if n == 6 then Some SourceFileProvide else None

-- the aspect of a number, and none from 2 on
abbrev pub aspect_at : ℕ → Option Aspect
aspect_at n = if n == 0 then Some Interface else if n == 1 then Some Implementation else None

-- Keys are ordered by kind, then by aspect, then by the bytes of the context, then by those of the name.
abbrev pub key_order : Key → Key → Ordering
key_order =
    then_cmp (on (λ k. kind_number k.kind) nat_cmp)
    (then_cmp (on (λ k. aspect_number k.aspect) nat_cmp)
    (then_cmp (on (λ k. k.context) (slice_cmp nat_cmp)) (on (λ k. k.name) (slice_cmp nat_cmp))))

-- The order is total, and so no two keys lie on both sides of each other.
pub key_order_total : IsTotalOrder key_order
key_order_total =
    then_total (on_total (λ (k : Key). kind_number k.kind) nat_cmp_total)
    (then_total (on_total (λ (k : Key). aspect_number k.aspect) nat_cmp_total)
    (then_total (on_total (λ (k : Key). k.context) nat_list_cmp_total) (on_total (λ (k : Key). k.name) nat_list_cmp_total)))
