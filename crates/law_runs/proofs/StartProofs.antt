-- Which tasks a part of a step begins with.
use Rattle.std.proofs.Common.{ℕ, suc, Bool, true, false, cond, not, List, [], ◌∷◌, Option}
use Rattle.std.specs.List.{list_all}
use Rattle.std.specs.Prelude.{IfOk, length}
use Rattle.ui_machine.specs.declared.arm.Arm.TheVariants as arms
use Rattle.ui_machine.specs.Definition.{Definition}
use Rattle.ui_machine.specs.Definition.Lookups.{place_at, program_at, specs_of, type_of}
use Rattle.ui_machine.specs.Definition.Places.{Place}
use Rattle.ui_machine.specs.Definition.Values.{Value}
use Rattle.ui_machine.specs.Outcome.{Answer, known, only_if}
use Rattle.ui_machine.specs.Output.Lines as lines
use Rattle.ui_machine.specs.Rules.Accumulation.{stopped}
use Rattle.ui_machine.specs.Rules.Construction.{construction, has_valid_default, making, new_object, with_object}
use Rattle.ui_machine.specs.Rules.NotifyQueue.{raised}
use Rattle.ui_machine.specs.Rules.Programs.{all_fit, beginning_program, fits_register, first_frame}
use Rattle.ui_machine.specs.Rules.Sets.{raising}
use Rattle.ui_machine.specs.State.Config.{Started, World, said, starts}
use Rattle.ui_machine.specs.State.Objects.{changed}
use Rattle.ui_machine.specs.State.Tasks.{Beginning, Calling, Constructing, ConstructStep, Due, Emitting, Frame, Handling, Notifying, Running, Setting, Task, Transferring}
use Rattle.machine_laws.proofs.KeptProofs.{bind_keeps, only_keeps}
use Rattle.law_runs.specs.Stacks.{IsStacked, LieBelow}

-- tasks that lie below another are an agenda
pub are_stacked : (tasks : List Task) → LieBelow tasks → IsStacked tasks
are_stacked (Setting id slot v ∷ tasks) low = absurd low
are_stacked (Notifying id slot ∷ tasks) low = absurd low
are_stacked (Beginning e ∷ tasks) low = absurd low
are_stacked (Transferring number back ∷ tasks) low = absurd low
are_stacked (Calling call ∷ tasks) low = absurd low
are_stacked (Handling request ∷ tasks) low = absurd low
are_stacked (Due source ∷ tasks) low = absurd low
are_stacked tasks low = low

-- so are those that a stop leaves
pub stopped_lie : (tasks : List Task) → LieBelow tasks → LieBelow (stopped tasks)
stopped_lie [] low = tt
stopped_lie (Emitting e entries ∷ tasks) low = low
stopped_lie (task ∷ tasks) low = low

-- ** beginnings

module _ (Fits : List Task → Type 0) (d : Definition) (w : World) where
  -- a program begins with its frame
  pub begins_running : ((f : Frame) → Fits (Running f ∷ [])) → (number : ℕ) (args : List Value) → IfOk (beginning_program d w number args) (λ s. Fits s.tasks)
  unfolding beginning_program
  begins_running fits number args = bind_keeps (known arms.Code (program_at d number)) _ _ (λ p _.
      only_keeps (all_fit (fits_register d w.objects) args p.params) arms.Parameters (starts (said d w (lines.run p.name)) (Running (first_frame number p args) ∷ [])) _
      (fits (first_frame number p args)))

  -- an object's construction begins with its steps
  pub begins_constructing : ((id : ℕ) (steps : List ConstructStep) (held : Bool) → Fits (Constructing id steps held ∷ [])) → (place : ℕ) (peer : Option ℕ) (held : Bool)
      → IfOk (making d w place peer held) (λ s. Fits s.tasks)
  unfolding making
  begins_constructing fits place peer held = bind_keeps (known arms.Code (place_at d place)) _ _ (λ p _.
      only_keeps (not (type_of d p.class).is_abstract) arms.Abstract (only_if (list_all (has_valid_default d) (specs_of d p.class)) arms.Value (begun p)) _
      (only_keeps (list_all (has_valid_default d) (specs_of d p.class)) arms.Value (begun p) _
      (fits (suc (length w.objects)) (construction d w place p) held)))
    where
      begun : Place → Answer Started
      begun p = starts (said d (with_object d w (new_object d place p peer)) (lines.construct (suc (length w.objects)) (type_of d p.class).name))
          (Constructing (suc (length w.objects)) (construction d w place p) held ∷ [])

-- a notification is raised with one task, or none
pub raises : (Fits : List Task → Type 0) (w : World) (id slot : ℕ) → Fits [] → Fits (Notifying id slot ∷ []) → IfOk (raising w id slot) (λ s. Fits s.tasks)
unfolding raising
raises Fits w id slot none one = bind_keeps (changed w.objects id (raised slot)) _ _ (λ r _. by r.answer)
  where
    by : (b : Bool) → Fits (cond b (Notifying id slot ∷ []) [])
    by true = one
    by false = none
