-- What the items of a whole build take.
use Rattle.std.proofs.Common.{◌≡◌, refl, ℕ, suc, ◌+◌, Bool, true, false, cond, List, [], ◌∷◌, ◌++◌, length, arith}
use Rattle.std.specs.List.{flat_map}
use Rattle.std.specs.Prelude.{nat_le}
use Rattle.ui_machine.specs.Definition.{Definition}
use Rattle.ui_machine.specs.Definition.Places.{Given, GivenProperty, Place, named, value}
use Rattle.ui_machine.specs.Rules.Build.{build_items, connected_items, forward_given, forward_items, forward_of, made_items, numbered}
use Rattle.ui_machine.specs.Seq.{total}
use Rattle.ui_machine.specs.State.Tasks.{Item, binds, forwards}
use Rattle.law_runs.proofs.NumberStartProofs.{total_append}

module _ (takes : Item → ℕ) where
  -- where no item of a list takes any, and where each takes one
  pub numbered_none : {A : Type 0} (item : ℕ → Item) → ((n : ℕ) → takes (item n) ≡ 0) → (n : ℕ) (xs : List A) → total takes (numbered item n xs) ≡ 0
  numbered_none item none n [] = refl
  numbered_none item none n (x ∷ xs) = let here = none n in let rest = numbered_none item none (suc n) xs in omega (arith, here, rest)

  pub numbered_each : {A : Type 0} (item : ℕ → Item) → ((n : ℕ) → takes (item n) ≡ 1) → (n : ℕ) (xs : List A) → total takes (numbered item n xs) ≡ length xs
  numbered_each item one n [] = refl
  numbered_each item one n (x ∷ xs) = let here = one n in let rest = numbered_each item one (suc n) xs in omega (arith, here, rest)

  module _ (none : (place slot to : ℕ) → takes (forwards place slot to) ≡ 0) where
    forwards_none : (place : ℕ) (given : List GivenProperty) → total takes (flat_map (forward_of place) given) ≡ 0
    forwards_none place [] = refl
    forwards_none place (g ∷ gs) =
        let all = total_append takes (forward_of place g) (flat_map (forward_of place) gs) in
        let one = by g.slot g.given in
        let rest = forwards_none place gs in
        omega (arith, all, one, rest)
      where
        either : (slot to : ℕ) (b : Bool) → total takes (cond b (forwards place slot to ∷ []) []) ≡ 0
        either slot to true = let here = none place slot to in omega (arith, here)
        either slot to false = refl

        by : (slot : ℕ) (given : Given) → total takes (forward_given place slot given) ≡ 0
        by slot (value v) = refl
        by slot (named to) = either slot to (nat_le place to)

    all_forwards_none : (place : ℕ) (ps : List Place) → total takes (forward_items place ps) ≡ 0
    all_forwards_none place [] = refl
    all_forwards_none place (p ∷ ps) =
        let all = total_append takes (cond p.is_prototype [] (flat_map (forward_of place) p.given)) (forward_items (suc place) ps) in
        let one = by p.is_prototype (forwards_none place p.given) in
        let rest = all_forwards_none (suc place) ps in
        omega (arith, all, one, rest)
      where
        by : (b : Bool) → total takes (flat_map (forward_of place) p.given) ≡ 0 → total takes (cond b [] (flat_map (forward_of place) p.given)) ≡ 0
        by true none = refl
        by false none = none

    -- where forward references and bindings take none, only objects and signals do
    pub parts_taken : ((number : ℕ) → takes (binds number) ≡ 0) → (d : Definition)
        → total takes (build_items d) ≡ total takes (made_items 0 d.places) + total takes (connected_items 0 d.places)
    parts_taken unbound d =
        let a = total_append takes (made_items 0 d.places) (forward_items 0 d.places ++ (numbered binds 0 d.bindings ++ connected_items 0 d.places)) in
        let b = total_append takes (forward_items 0 d.places) (numbered binds 0 d.bindings ++ connected_items 0 d.places) in
        let c = total_append takes (numbered binds 0 d.bindings) (connected_items 0 d.places) in
        let f = all_forwards_none 0 d.places in
        let n = numbered_none binds unbound 0 d.bindings in
        omega (arith, a, b, c, f, n)
