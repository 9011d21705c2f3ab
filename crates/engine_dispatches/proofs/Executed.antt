-- What a task leads to that was taken off, from what its function says.
use Rattle.std.proofs.Common.{◌≡◌, ℕ, Result, subst, sym}
use Rattle.std.specs.declared.alloc.AllocError.{AllocError}
use Rattle.ui_machine.specs.Definition.{Definition}
use Rattle.ui_machine.specs.State.References.{in_task}
use Rattle.engine_world.specs.Counting.{Counts, KeepsCounts}
use Rattle.engine_stack.specs.HeldByTasks.{in_subject}
use Rattle.engine_world.specs.Executions.{Acts, ExecutesHolding, ExecutesWithoutGone}
use Rattle.engine_world.specs.TaskView.{task_in}
use Rattle.engine_world.specs.declared.engine.Engine.{Engine}
use Rattle.engine_stack.specs.declared.task.Task as code
use Rattle.engine_world.proofs.Counts.{taken_alike}
use Rattle.engine_world.proofs.Registers.{on_ok}
use Rattle.engine_instructions.proofs.Whole.{leads_whole}
use Rattle.engine_dispatches.specs.Acted.{acted}

-- the task that was taken off has been carried out
abbrev Executed : {X : Type 0} → Result X AllocError → Definition → (e new : Engine) → code.Task → Type 0
Executed r d e new task = ExecutesWithoutGone r d e new (λ o. in_subject o (task_in d e task)) (acted d e task)

-- one that holds nothing but its subject
pub acts_plainly : {X : Type 0} (d : Definition) (e new : Engine) (task known : code.Task) (r : Result X AllocError) → task ≡ known
    → ((o : ℕ) → in_task o (task_in d e known) ≡ in_subject o (task_in d e known)) → Acts r d e new (acted d e known) → Counts d (λ o. in_task o (task_in d e task)) e → Executed r d e new task
acts_plainly d e new task known r is alike acts counts =
    subst (λ (t : code.Task). Executed r d e new t) (sym is) (record {
      step = leads_whole d new r (acted d e known) acts.step;
      quiet = acts.quiet;
      counted =
          on_ok r (λ (k : KeepsCounts d e new). taken_alike d new (λ o. in_task o (task_in d e known)) (λ o. in_subject o (task_in d e known)) alike
          (k.at _ (subst (λ (t : code.Task). Counts d (λ o. in_task o (task_in d e t)) e) is counts))) acts.counted;
      room = acts.room;
    })

-- one of which its subject was held throughout
pub executes_held : {X : Type 0} (d : Definition) (e new : Engine) (task known : code.Task) (r : Result X AllocError) → task ≡ known
    → ExecutesHolding r d e new (λ o. in_subject o (task_in d e known)) (acted d e known) → Executed r d e new task
executes_held d e new task known r is executes =
    subst (λ (t : code.Task). Executed r d e new t) (sym is)
    (record { step = leads_whole d new r (acted d e known) executes.step; quiet = executes.quiet; counted = executes.counted; room = executes.room })
