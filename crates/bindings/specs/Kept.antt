-- How bindings are kept that were made by rising numbers: under their numbers, and listed under what they are looked up by.
use Rattle.std.specs.BTreeMap.{get_by_text}
use Rattle.std.specs.BTreeSet.{contains}
use Rattle.std.specs.List.{AllByRecursion}
use Rattle.std.specs.Map.{values_of}
use Rattle.std.specs.Option.{IfSome, IsSomeAnd}
use Rattle.std.specs.Ordering.{nat_cmp, ordering_then}
use Rattle.std.specs.Prelude.{Bool, List, [], ◌∷◌, None, Option, Some, map, nat_eq, true, ℕ, ⊤, ◌&&◌, ◌+◌, ◌-◌, ◌<◌, ◌≤◌, ◌≡◌, ◌^◌}
use Rattle.std.specs.declared.cmp.Ordering.{Ordering}
use Rattle.ui_machine.specs.State.Bindings.{Binding, is_bidirectional}
use Rattle.bindings.specs.declared.listing.Listing.{Listing}
use Rattle.bindings.specs.declared.listings.Listings.{Listings}
use Rattle.bindings.specs.declared.names.Names.{Names}

-- ** numbers under keys

abbrev pub Key : Type 0
Key = ℕ × ℕ × ℕ

abbrev pub key_cmp : Key → Key → Ordering
key_cmp x y = ordering_then (ordering_then (nat_cmp x.0 y.0) (nat_cmp x.1 y.1)) (nat_cmp x.2 y.2)

-- whether a number is listed under two others
abbrev pub is_listed : Listing → (first second number : ℕ) → Bool
is_listed l first second number = contains key_cmp l.keys (first, second, number)

-- what is listed stays so
abbrev pub Stays : Listing → Listing → Type 0
Stays old new = (a b n : ℕ) → is_listed old a b n ≡ true → is_listed new a b n ≡ true

-- what is listed with another number stays so
abbrev pub StaysBeside : ℕ → Listing → Listing → Type 0
StaysBeside number old new = (a b n : ℕ) → (n ≡ number → ⊥) → is_listed old a b n ≡ true → is_listed new a b n ≡ true

-- a previous number is below another one
abbrev pub IsBelow : (limit : ℕ) → Option ℕ → Type 0
IsBelow limit None = ⊤
IsBelow limit (Some previous) = previous < limit

-- a number is not between the two
abbrev pub NotAfter : (limit : ℕ) → Option ℕ → ℕ → Type 0
NotAfter limit None n = n < limit → ⊥
NotAfter limit (Some previous) n = n < limit → previous < n → ⊥

-- it is the last number below another one that is listed under two, or there is none
abbrev pub IsPrevious : Listing → (first second limit : ℕ) → Option ℕ → Type 0
IsPrevious l first second limit previous = IsBelow limit previous × ((n : ℕ) → is_listed l first second n ≡ true → NotAfter limit previous n)

-- a next number is not below another one
abbrev pub IsFrom : (from : ℕ) → Option ℕ → Type 0
IsFrom from None = ⊤
IsFrom from (Some next) = from ≤ next

-- a number is not from the one on and before the other
abbrev pub NotBefore : (from : ℕ) → Option ℕ → ℕ → Type 0
NotBefore from None n = from ≤ n → n < 2 ^ 64 → ⊥
NotBefore from (Some next) n = from ≤ n → n < next → ⊥

-- it is the first number from another one on that is listed under two, or there is none
abbrev pub IsNext : Listing → (first second from : ℕ) → Option ℕ → Type 0
IsNext l first second from next = IsFrom from next × ((n : ℕ) → is_listed l first second n ≡ true → NotBefore from next n)

-- ** names

abbrev pub name_number : Names → List ℕ → Option ℕ
name_number n bytes = get_by_text n.numbers bytes

-- ** bindings

-- a binding is listed under each property that it listens at, each of its ends, and its name
abbrev pub IsListed : Listings → Binding → Type 0
IsListed l b =
    (is_listed l.by_property b.source b.source_slot b.number ≡ true)
    × (is_bidirectional b ≡ true → is_listed l.by_property b.target b.target_slot b.number ≡ true)
    × (is_listed l.by_end b.source 0 b.number ≡ true)
    × (is_listed l.by_end b.target 0 b.number ≡ true)
    × IfSome b.name (λ name. IsSomeAnd (name_number l.names name) (λ number. is_listed l.by_name number 0 b.number ≡ true))

-- it is a number below another one from which on no binding that is listed is one of these, or there is none of these below at all
abbrev pub IsPreviousAmong : Listings → (Binding → Bool) → (limit : ℕ) → Option ℕ → Type 0
IsPreviousAmong l p limit previous = IsBelow limit previous × ((b : Binding) → IsListed l b → p b ≡ true → NotAfter limit previous b.number)

-- it is a number from another one on up to which no binding that is listed is one of these, or there is none of these from it on
abbrev pub IsNextAmong : Listings → (Binding → Bool) → (from : ℕ) → Option ℕ → Type 0
IsNextAmong l p from next = IsFrom from next × ((b : Binding) → IsListed l b → p b ≡ true → NotBefore from next b.number)

-- numbers rise, from this one on and below the end
abbrev pub Numbered : (from : ℕ) → List Binding → (limit : ℕ) → Type 0
Numbered from [] limit = from ≤ limit
Numbered from (b ∷ bs) limit = (from ≤ b.number) × Numbered (b.number + 1) bs limit

-- each binding under its number
abbrev pub numbered : List Binding → List (ℕ × Binding)
numbered bs = map (λ b. (b.number, b)) bs

-- bindings by rising numbers, each under its own; all of them are listed
pub record IsKept (entries : List (ℕ × Binding)) (l : Listings) : Type 0 where
  pub rising : Numbered 0 (values_of entries) (2 ^ 64 - 1)
  pub keyed : entries ≡ numbered (values_of entries)
  pub listed : AllByRecursion (IsListed l) (values_of entries)

-- ** looking for a binding

-- it is a number below another one from which on no binding is one of these, or there is none of these below at all
abbrev pub IsPreviousOf : (Binding → Bool) → (limit : ℕ) → List Binding → Option ℕ → Type 0
IsPreviousOf p limit bs None = AllByRecursion (λ b. p b ≡ true → b.number < limit → ⊥) bs
IsPreviousOf p limit bs (Some previous) = (previous < limit) × AllByRecursion (λ b. p b ≡ true → b.number < limit → previous < b.number → ⊥) bs

-- it is a number from another one on up to which no binding is one of these, or there is none of these from it on
abbrev pub IsNextOf : (Binding → Bool) → (from : ℕ) → List Binding → Option ℕ → Type 0
IsNextOf p from bs None = AllByRecursion (λ b. p b ≡ true → from ≤ b.number → ⊥) bs
IsNextOf p from bs (Some next) = (from ≤ next) × AllByRecursion (λ b. p b ≡ true → from ≤ b.number → b.number < next → ⊥) bs

-- whether a binding has a number, and is one of these
abbrev pub is_numbered : (Binding → Bool) → ℕ → Binding → Bool
is_numbered p number b = nat_eq b.number number && p b
