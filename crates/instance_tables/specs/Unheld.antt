-- The objects that nothing holds, as a table knows them.
use Rattle.std.specs.BTreeMap.Range.{entries_between}
use Rattle.std.specs.BTreeSet.{contains}
use Rattle.std.specs.List.Sorted.{IsStrictlySortedBy}
use Rattle.std.specs.Map.{keys_of}
use Rattle.std.specs.Ordering.{nat_cmp}
use Rattle.std.specs.Prelude.{◌≡◌, ◌≢◌, ℕ, ◌<◌, ◌≤◌, Bool, true, false, cond, nat_eq, List, Option, Some, None}
use Rattle.std.specs.declared.ops.Bound.TheVariants.{Included, Unbounded}
use Rattle.instance_tables.specs.Store.{id_of}
use Rattle.instance_tables.specs.View.{IsLowestUnheld, first_unheld}
use Rattle.instance_tables.specs.declared.instance.Instance.{Instance}
use Rattle.instance_tables.specs.declared.unheld.Unheld.{Unheld}

-- whether an identity is among the others
abbrev pub has : Unheld → ℕ → Bool
has u q = contains nat_cmp u.others q

-- these are all that nothing holds, but for the lowest one
pub record AreOthers (held : ℕ → Option ℕ) (lowest : Option ℕ) (has : ℕ → Bool) : Type 0 where
  pub unheld : (q : ℕ) → has q ≡ true → (held q ≡ Some 0) × (lowest ≡ Some q → ⊥)
  pub all : (q : ℕ) → held q ≡ Some 0 → (lowest ≡ Some q → ⊥) → has q ≡ true

-- the lowest one is noted, and all others unless memory ran out
pub record KnowsUnheld (held : ℕ → Option ℕ) (u : Unheld) : Type 0 where
  pub lowest : IsLowestUnheld held (id_of u.lowest)
  pub others : u.is_whole ≡ true → AreOthers held (id_of u.lowest) (has u)

-- one is held so often now, and no more often than before, and each other is held as often as before
pub record IsLetGo (held new : ℕ → Option ℕ) (id mentions : ℕ) : Type 0 where
  pub here : new id ≡ Some mentions
  pub less : 0 < mentions → held id ≡ Some 0 → ⊥
  pub others : (q : ℕ) → q ≢ id → new q ≡ held q

-- all others were there, and one more is now
abbrev pub Adds : Unheld → Unheld → ℕ → Type 0
Adds old new id = (old.is_whole ≡ true) × ((q : ℕ) → has new q ≡ cond (nat_eq q id) true (has old q))

-- it was the lowest of the others, which has left them
pub record IsTaken (old new : ℕ → Bool) (k : ℕ) : Type 0 where
  pub was : old k ≡ true
  pub least : (q : ℕ) → old q ≡ true → k ≤ q
  pub gone : (q : ℕ) → new q ≡ cond (nat_eq q k) false (old q)

-- there was no other
pub record AreNone (old new : ℕ → Bool) : Type 0 where
  pub were : (q : ℕ) → old q ≡ false
  pub are : (q : ℕ) → new q ≡ false

-- what was taken of the others, if there was one
abbrev pub Takes : (ℕ → Bool) → (ℕ → Bool) → Option ℕ → Type 0
Takes old new None = AreNone old new
Takes old new (Some k) = IsTaken old new k

-- the next of the others was taken, or else it is the first from an identity on
pub record LeavesNext (es : List (ℕ × Instance)) (id : ℕ) (old new : Unheld) (next : Option ℕ) : Type 0 where
  pub lowest : new.lowest ≡ old.lowest
  pub whole : new.is_whole ≡ old.is_whole
  pub taken : old.is_whole ≡ true → Takes (has old) (has new) next
  pub searched : old.is_whole ≡ false → (next ≡ first_unheld (entries_between nat_cmp (Included id) Unbounded es)) × IsStrictlySortedBy nat_cmp (keys_of es)
