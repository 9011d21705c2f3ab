-- Instances under their identities, seen as a store.
use Rattle.std.specs.Prelude.{◌≡◌, ◌≢◌, ℕ, suc, ◌<◌, ◌≤◌, cond, min, nat_eq, List, [], ◌∷◌, Option, Some, None, IsSome}
use Rattle.std.specs.BTreeMap.{is_at}
use Rattle.std.specs.Map.{lookup}
use Rattle.std.specs.Option.{option_map}
use Rattle.std.specs.Ordering.{nat_cmp}
use Rattle.ui_machine.specs.State.Objects.{Object, Objects}
use Rattle.ui_machine.specs.State.References.{same}
use Rattle.ui_machine.specs.Rules.Disposal.{children_of}
use Rattle.ui_machine.specs.Seq.{listed, total}
use Rattle.ui_machine.specs.declared.ids.ObjectId.{ObjectId}
use Rattle.instance_tables.specs.Store.{Store, ids_of}
use Rattle.instance_tables.specs.Family.{parent_in}
use Rattle.instance_tables.specs.declared.instance.Instance.{Instance}

-- what each identity has
abbrev pub Lookup : Type 0
Lookup = ℕ → Option Instance

-- what instances under these identities are at one
abbrev pub instances_at : List (ℕ × Instance) → Lookup
instances_at es q = lookup (is_at (nat_cmp q)) es

abbrev pub object_in : Option Instance → Option Object
object_in None = None
object_in (Some x) = Some x.object

abbrev pub count_in : Option Instance → ℕ
count_in None = 0
count_in (Some x) = x.mentions

-- the objects and the counts of the identities 1 to n
abbrev pub objects_of : Lookup → ℕ → Objects
objects_of at n = listed (λ i. object_in (at (suc i))) n

abbrev pub counts_of : Lookup → ℕ → List ℕ
counts_of at n = listed (λ i. count_in (at (suc i))) n

abbrev pub store_of : Lookup → ℕ → ℕ → List ObjectId → Store
store_of at made limit floats = record {
  objects = objects_of at made;
  counts = counts_of at made;
  limit = limit;
  floating = ids_of floats;
}

-- each identity with an instance was given
abbrev pub InRange : Lookup → ℕ → Type 0
InRange at made = (id : ℕ) → IsSome (at id) → (0 < id) × (id ≤ made)

-- how often each identity that lives is held
abbrev pub held_in : Lookup → ℕ → Option ℕ
held_in at q = option_map (λ (x : Instance). x.mentions) (at q)

-- each one of a lower identity is held
abbrev pub AreHeldBelow : (ℕ → Option ℕ) → ℕ → Type 0
AreHeldBelow held from = (id : ℕ) → id < from → held id ≡ Some 0 → ⊥

-- it is the lowest one that lives and that nothing holds, or there is none
pub record IsLowestUnheld (held : ℕ → Option ℕ) (lowest : Option ℕ) : Type 0 where
  pub unheld : (i : ℕ) → lowest ≡ Some i → held i ≡ Some 0
  pub least : (id : ℕ) → held id ≡ Some 0 → (i : ℕ) × (lowest ≡ Some i) × (i ≤ id)

-- one is held now or does not live any more, and each other is held as often as before
pub record IsHeldOrGone (old new : ℕ → Option ℕ) (id : ℕ) : Type 0 where
  pub gone : new id ≡ Some 0 → ⊥
  pub others : (q : ℕ) → q ≢ id → new q ≡ old q

-- the lower one of an identity, if there is one, and another
abbrev pub lower_of : Option ℕ → ℕ → ℕ
lower_of None id = id
lower_of (Some i) id = min i id

-- each child and each parent was given
abbrev pub KinInRange : Lookup → ℕ → Type 0
KinInRange at made =
    ((id child : ℕ) → 0 < total (same child) (children_of (object_in (at id))) → child ≤ made)
    × ((id parent : ℕ) → parent_in (object_in (at id)) ≡ Some parent → parent ≤ made)

-- one identity has this instance, or none, and each other has what it had
pub record Replaces (at new : Lookup) (id : ℕ) (instance : Option Instance) : Type 0 where
  pub changed : new id ≡ instance
  pub others : (q : ℕ) → q ≢ id → new q ≡ at q

-- the first key whose instance nothing holds
abbrev pub first_unheld : List (ℕ × Instance) → Option ℕ
first_unheld [] = None
first_unheld (e ∷ es) = cond (nat_eq e.1.mentions 0) (Some e.0) (first_unheld es)

-- the first key
abbrev pub first_identity : List (ℕ × Instance) → Option ℕ
first_identity [] = None
first_identity (e ∷ es) = Some e.0
