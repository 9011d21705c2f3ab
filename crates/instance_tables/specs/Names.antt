-- Who names whom, as an index of it says, and objects that forget one.
use Rattle.std.specs.Prelude.{◌≡◌, ℕ, ◌<◌, ◌^◌, ◌||◌, Bool, true, false, List, Option, Some, None}
use Rattle.std.specs.List.{list_any}
use Rattle.std.specs.BTreeSet.{contains}
use Rattle.std.specs.declared.cmp.Ordering.{Ordering}
use Rattle.std.specs.Ordering.{nat_cmp, ordering_then}
use Rattle.ui_machine.specs.Definition.Values.{Value}
use Rattle.ui_machine.specs.Rules.Disposal.{names_object}
use Rattle.instance_tables.specs.Weak.{Marks, forgetting}
use Rattle.instance_tables.specs.View.{Lookup}
use Rattle.instance_tables.specs.declared.instance.Instance.{Instance}
use Rattle.instance_tables.specs.declared.namers.Namers.{Namers}

-- by the first of a pair, then by the second
abbrev pub pair_cmp : ℕ × ℕ → ℕ × ℕ → Ordering
pair_cmp x y = ordering_then (nat_cmp x.0 y.0) (nat_cmp x.1 y.1)

-- whether some value names an object
abbrev pub names_any : ℕ → List Value → Bool
names_any id vs = list_any (names_object id) vs

-- one object may be named by another: by an index that was given up each may be
abbrev pub MayName : Namers → (target holder : ℕ) → Type 0
MayName n target holder = (n.is_given_up || contains pair_cmp n.pairs (target, holder)) ≡ true

-- what an object names it may name
abbrev pub NamersKnow : Namers → Lookup → Type 0
NamersKnow n at = (h t : ℕ) (x : Instance) → at h ≡ Some x → names_any t x.object.values ≡ true → MayName n t h

-- an index has all the pairs that another one has
abbrev pub Stays : Namers → Namers → Type 0
Stays old new = (t h : ℕ) → MayName old t h → MayName new t h

-- it has those that are not of one object
abbrev pub StaysBeside : (holder : ℕ) → Namers → Namers → Type 0
StaysBeside holder old new = (t h : ℕ) → (h ≡ holder → ⊥) → MayName old t h → MayName new t h

-- the next identity is above another
abbrev pub IsAbove : (given : ℕ) → Option ℕ → Type 0
IsAbove given None = Unit {0}
IsAbove given (Some next) = given < next

-- an identity is not between the two
abbrev pub NotBefore : (given : ℕ) → Option ℕ → ℕ → Type 0
NotBefore given None h = given < h → h < 2 ^ 64 → ⊥
NotBefore given (Some next) h = given < h → h < next → ⊥

-- it is the next one after another that may name an object, or there is none; of an index that was given up it says nothing
abbrev pub IsNext : Namers → (target given : ℕ) → Option ℕ → Type 0
IsNext n target given next =
    IsAbove given next × ((h : ℕ) → n.is_given_up ≡ false → MayName n target h → NotBefore given next h)

-- one instance whose weak values no longer name an object
abbrev pub forgotten_in : Marks → ℕ → Instance → Instance
forgotten_in weak id x = record { object = forgetting weak id x.object; mentions = x.mentions }
