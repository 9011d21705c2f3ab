use Rattle.std.proofs.Common.{◌∙◌, ap, refl, sym}
use Rattle.engine_stack.specs.declared.emission_frames.EmissionFrame.{EmissionFrame}
use Rattle.engine_stack.specs.declared.task.Task.TheVariants as tasks
use Rattle.engine_stack.proofs.FirstPrograms.{ending}
use Rattle.engine_stack.proofs.StopsBelow.{last_set, stop_other}
use Rattle.engine_stack.proofs.first_emissions.stop_last.Goals as goal

pub returns-in-Emitting-clause-stopped : goal.returns-in-Emitting-clause-stopped
returns-in-Emitting-clause-stopped c =
    let v = c.args.tasks.now in
    let was = c.in-Emitting.emission in
    let e = ending v.len v.items (tasks.Emitting was) (tasks.Emitting was) v.ok.0 c.in-Some.ensures.item.3.0 (sym c.in-Emitting.is ∙ c.in-Some.ensures.item.3.1 (tasks.Emitting was)) in
    last_set v.len v.items (tasks.Emitting was) (tasks.Emitting c.stop.new.self) e (ap (λ (f : EmissionFrame). tasks.Emitting f) (sym c.stop.ensures))

pub returns-in_default-task : goal.returns-in_default-task
returns-in_default-task c =
    let v = c.args.tasks.now in
    let t = c.in-Some.task.now in
    let e = ending v.len v.items t t v.ok.0 c.in-Some.ensures.item.3.0 (c.in-Some.ensures.item.3.1 t) in
    record { stopped = last_set v.len v.items t t e (stop_other t c.in_default-task.not-Emitting); room = (refl, refl) }
