-- How much the entries of a list have that were looked at.
use Rattle.std.proofs.Common.{◌≡◌, ◌<◌, ◌≤◌, ◌+◌, ℕ, Bool, true, false, nat_lt, List, [], ◌∷◌, length, reverse, Option, None, Some, sym, refl, subst, arith, ⊎_elim}
use Rattle.std.specs.Prelude.{IfSome, slice_get}
use Rattle.std.proofs.lemmas.Bool.Decides.{nat_tests}
use Rattle.std.proofs.lemmas.List.{length-append, length-reverse}
use Rattle.std.proofs.lemmas.Option.{slice_get_cases, slice_get_past}
use Rattle.std.specs.List.{flat_map}
use Rattle.ui_machine.specs.Definition.{Definition}
use Rattle.ui_machine.specs.Definition.Lookups.{class_of, no_class}
use Rattle.ui_machine.specs.Rules.Ancestry.{depth, lineage}
use Rattle.ui_machine.specs.Rules.Construction.{constructed_runs, run_of}
use Rattle.ui_machine.specs.State.Tasks.{ConstructStep}
use Rattle.type_tree.proofs.Entries.{read-past}
use Rattle.ui_engine.specs.Widths.{HoldsParams, HoldsSignals}

module _ {A : Type 0} (weight : A → ℕ) where
  -- one has so much at most
  abbrev pub IsAtMost : ℕ → Option A → Type 0
  IsAtMost most found = IfSome found (λ x. weight x ≤ most)

  -- and so have those before a number
  abbrev pub AreAtMost : List A → ℕ → ℕ → Type 0
  AreAtMost xs count most = (number : ℕ) → number < count → IsAtMost most (slice_get xs number)

  larger : (o : Option A) (most more : ℕ) → most ≤ more → IsAtMost most o → IsAtMost more o
  larger None most more le is = tt
  larger (Some x) most more le is = omega (arith, le, is)

  pub one_more : (xs : List A) (count most more : ℕ) (x : A) → slice_get xs count ≡ Some x → most ≤ more → weight x ≤ more → AreAtMost xs count most
      → AreAtMost xs (count + 1) more
  one_more xs count most more x at le holds are number within = by (nat_lt number count) refl
    where
      by : (b : Bool) → nat_lt number count ≡ b → IsAtMost more (slice_get xs number)
      by true e = larger (slice_get xs number) most more le (are number (grind (arith, nat_tests, e)))
      by false e =
          let same : count ≡ number = grind (arith, nat_tests, e, within) in
          subst (λ n. IsAtMost more (slice_get xs n)) same (subst (IsAtMost more) (sym at) holds)

  -- all have, where there is none of a number
  pub all_of : (xs : List A) (count most : ℕ) → slice_get xs count ≡ None → AreAtMost xs count most → (number : ℕ) → IsAtMost most (slice_get xs number)
  all_of xs count most none are number = by (nat_lt number count) refl
    where
      past : length xs ≤ count
      past = ⊎_elim (λ l. absurd (cc (l.2, none))) (λ r. r.0) (slice_get_cases xs count).1

      by : (b : Bool) → nat_lt number count ≡ b → IsAtMost most (slice_get xs number)
      by true e = are number (grind (arith, nat_tests, e))
      by false e = let over : length xs ≤ number = grind (arith, nat_tests, e, past) in subst (IsAtMost most) (sym (slice_get_past xs number over)) tt

-- ** the signals of all classes

pub all_held : (d : Definition) (count most : ℕ) → length d.classes ≤ count → ((class : ℕ) → class < count → HoldsParams d class most) → HoldsSignals d most
all_held d count most all held class = by (nat_lt class count) refl
  where
    by : (b : Bool) → nat_lt class count ≡ b → HoldsParams d class most
    by true e = held class (grind (arith, nat_tests, e))
    by false e = λ number. (let past : length d.classes ≤ class = grind (arith, nat_tests, e, all) in rw (read-past no_class d.classes class past) tt)

-- ** the programs of a construction

few_of : (f : ℕ → List ConstructStep) → ((t : ℕ) → length (f t) ≤ 1) → (ts : List ℕ) → length (flat_map f ts) ≤ length ts
few_of f one [] = omega arith
few_of f one (t ∷ ts) = omega (arith, one t, few_of f one ts, length-append (f t) (flat_map f ts))

one_run : (o : Option ℕ) → length (run_of o) ≤ 1
one_run None = omega arith
one_run (Some program) = omega arith

-- no more than there are classes from the root down
pub few_runs : (d : Definition) (class : ℕ) → length (constructed_runs d class) ≤ depth d.types class
few_runs d class =
    let few = few_of (λ c. run_of (class_of d c).constructed) (λ c. one_run (class_of d c).constructed) (reverse (lineage d.types class)) in
    omega (arith, few, length-reverse (lineage d.types class))
