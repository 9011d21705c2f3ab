use Rattle.std.proofs.Common.{◌≡◌, refl, sym, ◌∙◌, ap, ◌-◌}
use Rattle.ui_machine.specs.Rules.Build.{is_making, of_items}
use Rattle.engine_stack.specs.TaskView.{task_of}
use Rattle.engine_stack.specs.declared.task.Task.{Task}
use Rattle.engine_stack.specs.declared.task.Task.TheVariants as tasks
use Rattle.engine_instructions.proofs.Creating.{making_behind, making_bound, making_from, making_none}
use Rattle.engine_instructions.proofs.new_objects.made_by.Goals as goal

pub returns-in-Building : goal.returns-in-Building
returns-in-Building c hs =
    rw c.in-Building.is (c.objects_from.ensures ∙ sym (making_from c.args.definition.now c.types-types.ensures.basic c.in-Building.place.0 c.in-Building.forwards))

pub returns-in-Adopting : goal.returns-in-Adopting
returns-in-Adopting c hs =
    rw c.in-Adopting.is
    (c.saturating_sub.ensures ∙ ap (λ n. n - 1) c.objects_from-in-Adopting.ensures
    ∙ sym (making_behind c.args.definition.now c.types-types.ensures.basic c.in-Adopting.place.0 c.in-Adopting.forwards))

pub returns-in_default : goal.returns-in_default
returns-in_default c hs = by c.args.task.now refl
  where
    by : (t : Task) → c.args.task.now ≡ t → 0 ≡ of_items is_making (task_of c.args.definition.now hs t)
    by (tasks.Building place fs) is = absurd (c.in_default.not-Building place fs is)
    by (tasks.Adopting place fs) is = absurd (c.in_default.not-Adopting place fs is)
    by (tasks.Connecting place number) is = sym (making_none c.args.definition.now place.0 number)
    by (tasks.Setting object slot value) is = refl
    by (tasks.Notifying object slot) is = refl
    by (tasks.Beginning e) is = refl
    by (tasks.Emitting emission) is = refl
    by (tasks.Transferring number back) is = refl
    by (tasks.Unsetting number) is = refl
    by (tasks.Binding number) is = sym (making_bound c.args.definition.now number)
    by (tasks.Running frame) is = refl
    by (tasks.Thawing object slots) is = refl
    by (tasks.Constructing construction) is = refl
    by (tasks.Answering source) is = refl
    by (tasks.Calling call) is = refl
    by (tasks.Due source) is = refl
    by (tasks.Handling event) is = refl
