-- Lists of specs, one of which is written.
use Rattle.std.proofs.Common.{◌≡◌, ℕ, zero, suc, ◌+◌, ◌<◌, Bool, true, false, nat_eq, if◌then◌else◌, List, [], ◌∷◌, ◌++◌, length, map, get_or, slice_set, Option, Some, Result, Ok, Err, OnErr, ◌≤◌, subst, length-append, refl, sym, ap, ◌∙◌, arith}
use Rattle.std.proofs.lemmas.Bool.Decides.{nat_tests}
use Rattle.std.proofs.lemmas.List.{map-append}
use Rattle.ui_machine.specs.Definition.Properties as properties
use Rattle.param_specs.specs.declared.spec.Spec.{Spec}
use Rattle.param_specs.specs.View.{Entry, spec_view, lists_of, AreNamed, AllNamed}
use Rattle.param_specs.specs.Table.{AddsSpec, SameSpecs, IsTable, Installs, own_of}
use Rattle.param_specs.specs.declared.error.SpecFault.{SpecFault}
use Rattle.param_specs.specs.declared.error.SpecError.TheVariants.{Refused}

zero_suc : (i : ℕ) → nat_eq 0 (suc i) ≡ false
zero_suc i = grind (arith, nat_tests)

suc_zero : (i : ℕ) → nat_eq (suc i) 0 ≡ false
suc_zero i = grind (arith, nat_tests)

suc_suc : (u i : ℕ) → nat_eq u i ≡ nat_eq (suc u) (suc i)
suc_suc u i = grind (arith, nat_tests)

module _ {V : Type 0} (items : V → List Spec) where
  -- at the place that is written is one spec more
  pub AddsSpec-set : (xs : List V) (i : ℕ) (w d : V) (s : Spec) → i < length xs → items w ≡ items (get_or xs i d) ++ s ∷ []
      → AddsSpec (lists_of items xs) (lists_of items (slice_set xs i w)) i (spec_view s)
  AddsSpec-set [] i w d s h e u = absurd (omega arith)
  AddsSpec-set (x ∷ xs) zero w d s h e zero = ap (map spec_view) e ∙ map-append spec_view (items x) (s ∷ [])
  AddsSpec-set (x ∷ xs) zero w d s h e (suc u) =
      sym (ap (λ b. if b then own_of (lists_of items xs) u ++ spec_view s ∷ [] else own_of (lists_of items xs) u) (suc_zero u))
  AddsSpec-set (x ∷ xs) (suc i) w d s h e zero =
      sym (ap (λ b. if b then map spec_view (items x) ++ spec_view s ∷ [] else map spec_view (items x)) (zero_suc i))
  AddsSpec-set (x ∷ xs) (suc i) w d s h e (suc u) =
      AddsSpec-set xs i w d s (omega arith) e u
      ∙ ap (λ b. if b then own_of (lists_of items xs) u ++ spec_view s ∷ [] else own_of (lists_of items xs) u) (suc_suc u i)

  -- or the same
  pub SameSpecs-set : (xs : List V) (i : ℕ) (w d : V) → i < length xs → items w ≡ items (get_or xs i d) → SameSpecs (lists_of items xs) (lists_of items (slice_set xs i w))
  SameSpecs-set [] i w d h e u = absurd (omega arith)
  SameSpecs-set (x ∷ xs) zero w d h e zero = ap (map spec_view) e
  SameSpecs-set (x ∷ xs) zero w d h e (suc u) = refl
  SameSpecs-set (x ∷ xs) (suc i) w d h e zero = refl
  SameSpecs-set (x ∷ xs) (suc i) w d h e (suc u) = SameSpecs-set xs i w d (omega arith) e u

  -- an empty list at the end changes nothing that is read
  pub SameSpecs-grown : (xs : List V) (w : V) → items w ≡ [] → SameSpecs (lists_of items xs) (lists_of items (xs ++ w ∷ []))
  SameSpecs-grown [] w e zero = ap (map spec_view) e
  SameSpecs-grown [] w e (suc u) = refl
  SameSpecs-grown (x ∷ xs) w e zero = refl
  SameSpecs-grown (x ∷ xs) w e (suc u) = SameSpecs-grown xs w e u

-- ** names

module _ {V : Type 0} (entries : V → List Entry) where
  pub AllNamed-set : (xs : List V) (i : ℕ) (w : V) → AreNamed (entries w) → AllNamed entries xs → AllNamed entries (slice_set xs i w)
  AllNamed-set [] i w n all = tt
  AllNamed-set (x ∷ xs) zero w n all = (n, all.1)
  AllNamed-set (x ∷ xs) (suc i) w n all = (all.0, AllNamed-set xs i w n all.1)

  pub AllNamed-grown : (xs : List V) (w : V) → entries w ≡ [] → AllNamed entries xs → AllNamed entries (xs ++ w ∷ [])
  AllNamed-grown [] w e all = (subst AreNamed (sym e) tt, tt)
  AllNamed-grown (x ∷ xs) w e all = (all.0, AllNamed-grown xs w e all.1)

  pub AllNamed-at : (xs : List V) (i : ℕ) (d : V) → i < length xs → AllNamed entries xs → AreNamed (entries (get_or xs i d))
  AllNamed-at [] i d h all = absurd (omega arith)
  AllNamed-at (x ∷ xs) zero d h all = all.0
  AllNamed-at (x ∷ xs) (suc i) d h all = AllNamed-at xs i d (omega arith) all.1

pub on_err_if : {A E : Type 0} {P : Type 0} (r : Result A E) → P → OnErr r P
on_err_if (Ok x) p = tt
on_err_if (Err e) p = p

-- a table stays one, where its lists stay
pub IsTable-same : (old new : List (List properties.Spec)) → SameSpecs old new → IsTable old → IsTable new
IsTable-same old new same table t = subst (λ l. length l ≤ 64) (sym (same t)) (table t)

-- or one of them that had room gets one spec more
pub IsTable-more : (old new : List (List properties.Spec)) (t : ℕ) (s : properties.Spec) → length (own_of old t) < 64 → AddsSpec old new t s → IsTable old → IsTable new
IsTable-more old new t s room adds table u = subst (λ l. length l ≤ 64) (sym (adds u)) (by (nat_eq u t) refl)
  where
    at : u ≡ t → length (own_of old u ++ s ∷ []) ≤ 64
    at e = rw (length-append (own_of old u) (s ∷ [])) (subst (λ v. length (own_of old v) + 1 ≤ 64) (sym e) (omega arith))

    by : (b : Bool) → nat_eq u t ≡ b → length (if b then own_of old u ++ s ∷ [] else own_of old u) ≤ 64
    by true e = at (grind (arith, nat_tests))
    by false e = table u

pub AddsSpec-after : (old mid new : List (List properties.Spec)) (t : ℕ) (s : properties.Spec) → SameSpecs old mid → AddsSpec mid new t s → AddsSpec old new t s
AddsSpec-after old mid new t s same adds u = adds u ∙ ap (λ l. if nat_eq u t then l ++ s ∷ [] else l) (same u)

pub SameSpecs-after : (old mid new : List (List properties.Spec)) → SameSpecs old mid → SameSpecs mid new → SameSpecs old new
SameSpecs-after old mid new a b u = b u ∙ a u

-- a fault refuses
pub Installs-refused : (cause : SpecFault) (fault : Option SpecFault) (specs : List properties.Spec) (t : ℕ) (s : properties.Spec) (table : List (List properties.Spec))
    → fault ≡ Some cause → Installs (Err (Refused cause)) fault specs t s table table
Installs-refused cause fault specs t s table h = (h, λ u. refl)
