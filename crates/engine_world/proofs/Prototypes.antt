-- The prototypes of a definition come after its objects: the builder makes, sets and connects nothing for them.
use Rattle.std.proofs.Common.{◌≡◌, ℕ, zero, suc, ◌<◌, ◌≤◌, nat_le, true, false, cond, List, [], ◌∷◌, ◌++◌, drop, Option, None, Some, slice_get, refl, sym, ap, ◌∙◌, arith}
use Rattle.std.specs.List.{flat_map}
use Rattle.std.proofs.lemmas.Bool.Decides.{nat_tests}
use Rattle.ui_machine.specs.Definition.{Definition}
use Rattle.ui_machine.specs.Definition.Lookups.{place_at}
use Rattle.ui_machine.specs.Definition.Places.{Attached, Place}
use Rattle.ui_machine.specs.Rules.Build.{adopts_if, connected_items, forward_items, forward_of, made_items, numbered}
use Rattle.ui_machine.specs.State.Tasks.{connects, makes}
use Rattle.definition_format.specs.Meaning.{IsBasic, object_count}
use Rattle.engine_stack.specs.TaskView.{signals_of}

-- what comes after a place is at a place of its own
behind : {A : Type 0} (xs : List A) (k i : ℕ) (x : A) → slice_get (drop k xs) i ≡ Some x → (n : ℕ) × (k ≤ n) × (slice_get xs n ≡ Some x)
behind xs zero i x at = (i, omega arith, at)
behind [] (suc k) i x at = cc at
behind (y ∷ ys) (suc k) i x at = let there = behind ys k i x at in (suc there.0, let l = there.1 in omega (arith, l), there.2)

-- ** a list of prototypes

abbrev AllPrototypes : List Place → Type 0
AllPrototypes ps = (i : ℕ) (p : Place) → slice_get ps i ≡ Some p → p.is_prototype ≡ true

none_made : (k : ℕ) (ps : List Place) → AllPrototypes ps → made_items k ps ≡ []
none_made k [] all = refl
none_made k (p ∷ ps) all =
    ap (λ b. cond b [] (makes k ∷ adopts_if k p.parent) ++ made_items (suc k) ps) (all 0 p refl)
    ∙ none_made (suc k) ps (λ i q at. all (suc i) q at)

no_forwards : (k : ℕ) (ps : List Place) → AllPrototypes ps → forward_items k ps ≡ []
no_forwards k [] all = refl
no_forwards k (p ∷ ps) all =
    ap (λ b. cond b [] (flat_map (forward_of k) p.given) ++ forward_items (suc k) ps) (all 0 p refl)
    ∙ no_forwards (suc k) ps (λ i q at. all (suc i) q at)

none_connected : (k : ℕ) (ps : List Place) → ((i : ℕ) (p : Place) → slice_get ps i ≡ Some p → p.signals ≡ []) → connected_items k ps ≡ []
none_connected k [] silent = refl
none_connected k (p ∷ ps) silent =
    ap (λ (signals : List Attached). numbered (connects k) 0 signals ++ connected_items (suc k) ps) (silent 0 p refl)
    ∙ none_connected (suc k) ps (λ i q at. silent (suc i) q at)

-- ** a definition

module _ (d : Definition) (basic : IsBasic d) where
  -- where a prototype is, no objects are left
  pub past_objects : (place : ℕ) (p : Place) → slice_get d.places place ≡ Some p → p.is_prototype ≡ true → object_count d ≤ place
  past_objects place p at is = let e : nat_le (object_count d) place ≡ true = sym (basic.prototypes place p at) ∙ is in grind (arith, nat_tests)

  -- what comes before is an object
  pub object_there : (place : ℕ) (p : Place) → slice_get d.places place ≡ Some p → place < object_count d → p.is_prototype ≡ false
  object_there place p at small = let e : nat_le (object_count d) place ≡ false = grind (arith, nat_tests) in basic.prototypes place p at ∙ e

  module _ (place : ℕ) (past : object_count d ≤ place) where
    prototype_there : (n : ℕ) (p : Place) → place ≤ n → slice_get d.places n ≡ Some p → p.is_prototype ≡ true
    prototype_there n p later at = let e : nat_le (object_count d) n ≡ true = grind (arith, nat_tests) in basic.prototypes n p at ∙ e

    all_prototypes : (i : ℕ) (p : Place) → slice_get (drop place d.places) i ≡ Some p → p.is_prototype ≡ true
    all_prototypes i p at = let there = behind d.places place i p at in prototype_there there.0 p there.1 there.2

    all_silent : (i : ℕ) (p : Place) → slice_get (drop place d.places) i ≡ Some p → p.signals ≡ []
    all_silent i p at = let there = behind d.places place i p at in basic.silent there.0 p there.2 (prototype_there there.0 p there.1 there.2)

    pub made_past : made_items place (drop place d.places) ≡ []
    made_past = none_made place (drop place d.places) all_prototypes

    pub forwards_past : forward_items place (drop place d.places) ≡ []
    forwards_past = no_forwards place (drop place d.places) all_prototypes

    pub connected_past : connected_items place (drop place d.places) ≡ []
    connected_past = none_connected place (drop place d.places) all_silent

    signals_there : (found : Option Place) → place_at d place ≡ found → signals_of found ≡ []
    signals_there None at = refl
    signals_there (Some p) at = basic.silent place p at (prototype_there place p (omega arith) at)

    pub signals_past : signals_of (place_at d place) ≡ []
    signals_past = signals_there (place_at d place) refl

    pub parentless : (p : Place) → place_at d place ≡ Some p → p.parent ≡ None
    parentless p at = basic.no_parents place p at (prototype_there place p (omega arith) at)
