-- A set of what may be set, where no arm stops it.
use Rattle.std.proofs.Common.{◌≡◌, ℕ, Bool, true, false, not, Ok, Err, refl}
use Rattle.ui_machine.specs.declared.arm.Arm.TheVariants as arms
use Rattle.ui_machine.specs.Definition.Properties.{Spec, is_construct_only, is_writable}
use Rattle.ui_machine.specs.Outcome.{Answer, only_if, ◌>>=◌}
use Rattle.ui_machine.specs.Rules.Sets.{if_settable}
use Rattle.engine_world.specs.Able.{Able}

-- it is made
pub sets_on : {X : Type 0} (held : Answer ℕ) (spec : ℕ → Answer Spec) (set : ℕ → Answer X) (id : ℕ) → held ≡ Ok id
    → Able (held >>= λ id. spec id >>= λ s. if_settable s (set id)) → (held >>= λ id. spec id >>= λ s. if_settable s (set id)) ≡ set id
sets_on {X} (Err arm) spec set id is able = cc is
sets_on {X} (Ok x) spec set id is able =
    let same : x ≡ id = cc is in
    rw (← same) (of_spec (spec x) able)
  where
    of_tests : (writable only : Bool) (a : Answer X) → Able (only_if writable arms.Flags (only_if (not only) arms.ConstructOnly a))
        → only_if writable arms.Flags (only_if (not only) arms.ConstructOnly a) ≡ a
    of_tests true false a able = refl
    of_tests true true a able = absurd able
    of_tests false only a able = absurd able

    of_spec : (s : Answer Spec) → Able (s >>= λ s. if_settable s (set x)) → (s >>= λ s. if_settable s (set x)) ≡ set x
    of_spec (Ok s) able = of_tests (is_writable s) (is_construct_only s) (set x) able
    of_spec (Err arm) able = absurd able
