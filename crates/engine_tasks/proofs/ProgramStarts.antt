-- How programs begin, by what fits their parameters.
use Rattle.std.proofs.Common.{◌≡◌, ◌∙◌, refl, ap, ℕ, Bool, true, List, [], ◌∷◌, ◌++◌, append_assoc, Option, None, Some, Ok, Err}
use Rattle.ui_machine.specs.declared.arm.Arm.TheVariants as arms
use Rattle.ui_machine.specs.Definition.{Definition}
use Rattle.ui_machine.specs.Definition.Lookups.{program_at}
use Rattle.ui_machine.specs.Definition.Programs.{Program}
use Rattle.ui_machine.specs.Definition.Values.{Value}
use Rattle.ui_machine.specs.Outcome.{Answer, known, only_if, ◌>>=◌}
use Rattle.ui_machine.specs.Output.Lines as lines
use Rattle.ui_machine.specs.Rules.Programs.{all_fit, beginning_program, first_frame, fits_register, program_before}
use Rattle.ui_machine.specs.State.Config.{Started, World, said, starts}
use Rattle.ui_machine.specs.State.Tasks.{Running, Task}
use Rattle.ui_machine.specs.Steps.{uncounted}
use Rattle.engine_world.specs.Able.{Able}
use Rattle.engine_world.proofs.Ableness.{able_as, tested}

-- ** how one begins

module _ (d : Definition) (w : World) (number : ℕ) (args : List Value) where
  abbrev begun : Program → Answer Started
  begun p = only_if (all_fit (fits_register d w.objects) args p.params) arms.Parameters (starts (said d w (lines.run p.name)) (Running (first_frame number p args) ∷ []))

  pub begins_unknown : program_at d number ≡ None → beginning_program d w number args ≡ Err arms.Code
  unfolding beginning_program
  begins_unknown none = ap (λ (o : Option Program). known arms.Code o >>= begun) none

  module _ (p : Program) (is : program_at d number ≡ Some p) where
    -- where no arm stops it, its arguments fit
    pub begins_fit : Able (beginning_program d w number args) → all_fit (fits_register d w.objects) args p.params ≡ true
    unfolding beginning_program
    begins_fit able =
        tested (all_fit (fits_register d w.objects) args p.params) arms.Parameters (starts (said d w (lines.run p.name)) (Running (first_frame number p args) ∷ []))
        (able_as (ap (λ (o : Option Program). known arms.Code o >>= begun) is) able)

    pub begins_program : all_fit (fits_register d w.objects) args p.params ≡ true
        → beginning_program d w number args ≡ starts (said d w (lines.run p.name)) (Running (first_frame number p args) ∷ [])
    unfolding beginning_program
    begins_program fit =
        ap (λ (o : Option Program). known arms.Code o >>= begun) is
        ∙ ap (λ (b : Bool). only_if b arms.Parameters (starts (said d w (lines.run p.name)) (Running (first_frame number p args) ∷ []))) fit

  -- in front of other tasks
  pub begins_before : (tasks rest : List Task) (n : ℕ) → uncounted rest n (program_before d w number args tasks) ≡ uncounted (tasks ++ rest) n (beginning_program d w number args)
  unfolding program_before
  begins_before tasks rest n = by (beginning_program d w number args)
    where
      by : (a : Answer Started) → uncounted rest n (a >>= λ begun. starts begun.world (begun.tasks ++ tasks)) ≡ uncounted (tasks ++ rest) n a
      by (Ok s) = ap (λ (l : List Task). Ok (record { world = s.world; agenda = l; counted = n })) (append_assoc s.tasks tasks rest)
      by (Err arm) = refl
