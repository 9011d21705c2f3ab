-- The property that a detail of a notification names.
use Rattle.std.proofs.Common.{◌≡◌, ℕ, zero, suc, ◌+◌, Bool, true, false, cond, nat_eq, List, [], ◌∷◌, Option, Some, None, is_some, ◌&&◌, Ok, Err, slice_get, refl, ap, ◌∙◌, arith}
use Rattle.std.proofs.lemmas.Bool.Decides.{nat_tests}
use Rattle.ui_machine.specs.Definition.{Definition}
use Rattle.ui_machine.specs.Definition.Lookups.{slot_of, spec_of, specs_of}
use Rattle.ui_machine.specs.Definition.Names.{canonical, place_from, same_name}
use Rattle.ui_machine.specs.Definition.Properties.{Spec, has_flags}
use Rattle.ui_machine.specs.declared.arm.Arm.{Arm}
use Rattle.ui_machine.specs.declared.arm.Arm.TheVariants as arms
use Rattle.ui_machine.specs.Definition.Signals.{Signal}
use Rattle.ui_machine.specs.Outcome.{Answer, known, only_if, ◌>>=◌}
use Rattle.ui_machine.specs.Rules.Connections.{detail_at, detail_for, detail_in, may_stand}
use Rattle.ui_machine.specs.Rules.EmissionPlan.{signal_at}
use Rattle.ui_machine.specs.State.Config.{World}
use Rattle.ui_machine.specs.State.Objects.{Object, asked, living}
use Rattle.engine_world.specs.GivenView.{detail_named}
use Rattle.engine_world.specs.Able.{Able}
use Rattle.engine_world.proofs.Ableness.{tested}

pub same_names : (xs ys : List ℕ) → same_name xs ys ≡ true → xs ≡ ys
same_names [] [] h = refl
same_names [] (y ∷ ys) h = cc h
same_names (x ∷ xs) [] h = cc h
same_names (x ∷ xs) (y ∷ ys) h = by (nat_eq x y) refl (same_names xs ys) h
  where
    by : (b : Bool) → nat_eq x y ≡ b → (same_name xs ys ≡ true → xs ≡ ys) → cond b (same_name xs ys) false ≡ true → (x ∷ xs) ≡ (y ∷ ys)
    by true e others f =
        let head : x ≡ y = grind (arith, nat_tests) in
        ap (λ n. n ∷ xs) head ∙ ap (λ ns. y ∷ ns) (others f)
    by false e others f = cc f

-- what is found is there, and is called so
Found : List Spec → ℕ → List ℕ → ℕ → Type 0
Found specs i name place = (slot : ℕ) × (place ≡ i + slot) × (s : Spec) × (slice_get specs slot ≡ Some s) × (s.name ≡ name)

place_found : (specs : List Spec) (i : ℕ) (name : List ℕ) (place : ℕ) → place_from (λ (s : Spec). s.name) i specs name ≡ Some place → Found specs i name place
unfolding Found
place_found [] i name place h = cc h
place_found (s ∷ specs) i name place h = by (same_name s.name name) refl (place_found specs (suc i) name place) h
  where
    by : (b : Bool) → same_name s.name name ≡ b → (place_from (λ (s : Spec). s.name) (suc i) specs name ≡ Some place → Found specs (suc i) name place)
        → cond b (Some i) (place_from (λ (s : Spec). s.name) (suc i) specs name) ≡ Some place → Found (s ∷ specs) i name place
    by true e others f = let here : i ≡ place = cc f in (zero, omega (arith, here), s, refl, same_names s.name name e)
    by false e others f =
        let found = others f in
        (suc found.0, omega (arith, found.1), found.2, found.3, found.4)

pub slot_named : (d : Definition) (class : ℕ) (name : List ℕ) (slot : ℕ) → slot_of d class name ≡ Some slot
    → (s : Spec) × (spec_of d class slot ≡ Some s) × (s.name ≡ canonical name)
unfolding Found
slot_named d class name slot h =
    let found = place_found (specs_of d class) 0 (canonical name) slot h in
    let same : slot ≡ found.0 = omega (arith, found.1) in
    (found.2, ap (λ (i : ℕ). slice_get (specs_of d class) i) same ∙ found.3, found.4)

-- ** a detail as a signal takes it

module _ (d : Definition) (class n : ℕ) (detail : Option (List ℕ)) where
  abbrev if_stands : Signal → Answer (Option (List ℕ))
  if_stands s = only_if (may_stand d class n s detail) arms.Code (Ok (detail_for n detail))

  stands : (b : Bool) → Able (only_if b arms.Code (Ok (detail_for n detail))) → only_if b arms.Code (Ok (detail_for n detail)) ≡ Ok (detail_for n detail)
  stands true able = refl
  stands false able = absurd able

  -- where the machine is not stuck it is as the signal keeps it
  pub stands_so : Able (detail_at d class n detail) → detail_at d class n detail ≡ Ok (detail_for n detail)
  unfolding detail_at
  stands_so able = by (signal_at d class n) able
    where
      by : (found : Answer Signal) → Able (found >>= if_stands) → (found >>= if_stands) ≡ Ok (detail_for n detail)
      by (Ok s) may = stands (may_stand d class n s detail) may
      by (Err arm) may = absurd may

  -- and it may be there
  stands_at : Able (detail_at d class n detail) → (s : Signal) × (may_stand d class n s detail ≡ true)
  unfolding detail_at
  stands_at able = by (signal_at d class n) able
    where
      by : (found : Answer Signal) → Able (found >>= if_stands) → (s : Signal) × (may_stand d class n s detail ≡ true)
      by (Ok s) may = (s, tested (may_stand d class n s detail) arms.Code (Ok (detail_for n detail)) may)
      by (Err arm) may = absurd may

-- none stays none
pub stands_none : (n : ℕ) → detail_for n None ≡ None
stands_none n = by (nat_eq n 0)
  where
    by : (b : Bool) → ◌≡◌ {A = Option (List ℕ)} (cond b None None) None
    by true = refl
    by false = refl

-- one of another signal than `notify` stays as it is
pub stands_other : (n : ℕ) (detail : Option (List ℕ)) → nat_eq n 0 ≡ false → detail_for n detail ≡ detail
stands_other n detail other = rw other refl

-- one of `notify` becomes the name of the property
pub stands_notify : (d : Definition) (class n : ℕ) (x name : List ℕ) → nat_eq n 0 ≡ true → detail_named d class x ≡ Ok name → detail_for n (Some x) ≡ Some name
stands_notify d class n x name first named = rw first (by (is_some (slot_of d class x)) named)
  where
    by : (b : Bool) → only_if b arms.Code (Ok (canonical x)) ≡ Ok name → Some (canonical x) ≡ Some name
    by true is = let same : canonical x ≡ name = cc is in ap (λ text. Some text) same
    by false is = absurd (cc is)

-- at `notify` it names a property
pub names_property : (d : Definition) (class n : ℕ) (x : List ℕ) → nat_eq n 0 ≡ true → Able (detail_at d class n (Some x)) → Able (detail_named d class x)
names_property d class n x first able = by (is_some (slot_of d class x)) refl (stands_at d class n (Some x) able).0 (stands_at d class n (Some x) able).1
  where
    none : (b : Bool) → (b && false) ≡ true → ⊥
    none true e = cc e
    none false e = cc e

    by : (b : Bool) → is_some (slot_of d class x) ≡ b → (s : Signal) → may_stand d class n s (Some x) ≡ true → Able (only_if b arms.Code (Ok (canonical x)))
    by true so s may = tt
    by false so s may = none (has_flags 16 s.flags) (rw (first, so) at may)

-- ** by the class of the object

module _ (d : Definition) (w : World) (id n : ℕ) (detail : Option (List ℕ)) where
  detail_by : (r : Answer ℕ) → asked w.objects id (λ o. Ok o.class) ≡ r → detail_in d w id n detail ≡ (r >>= λ class. detail_at d class n detail)
  unfolding asked detail_in
  detail_by r h = by (living w.objects id) ∙ ap (λ (a : Answer ℕ). a >>= λ class. detail_at d class n detail) h
    where
      by : (o : Option Object) → (known arms.Operand o >>= λ x. detail_at d x.class n detail) ≡ ((known arms.Operand o >>= λ x. Ok x.class) >>= λ class. detail_at d class n detail)
      by None = refl
      by (Some x) = refl

  pub detail_unheard : (arm : Arm) → asked w.objects id (λ o. Ok o.class) ≡ Err arm → detail_in d w id n detail ≡ Err arm
  detail_unheard arm h = detail_by (Err arm) h

  pub detail_heard : (class : ℕ) → asked w.objects id (λ o. Ok o.class) ≡ Ok class → detail_in d w id n detail ≡ detail_at d class n detail
  detail_heard class of = detail_by (Ok class) of
