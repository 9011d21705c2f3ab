use Rattle.std.proofs.Common.{List, ◌∷◌, refl, ap, ◌∙◌, rules}
use Rattle.ui_machine.specs.State.Tasks.{Task, Transferring}
use Rattle.engine_world.specs.Counting.{nothing}
use Rattle.engine_world.specs.FirstEmissions.{first_emitted}
use Rattle.engine_stack.specs.FirstEmissions.{emission_view, entries_left}
use Rattle.engine_world.specs.FirstPrograms.{rest_of}
use Rattle.engine_world.specs.View.{world_of}
use Rattle.engine_world.proofs.FirstEmissions.{begins}
use Rattle.engine_tasks.proofs.TurnTaking.{takes_due}
use Rattle.engine_tasks.proofs.emission.take_transfer.Goals as goal

pub returns : goal.returns
returns c = record {
  step =
      let d = c.args.definition.now in
      let e = c.args.engine.now in
      let t = c.args.due in
      let own = first_emitted e in
      let agenda = c.push_task.ensures.agenda d ∙ ap (λ (ts : List Task). Transferring t.number t.back ∷ ts) (begins d e c.requires.first) in
      let world = c.push_task.ensures.world in
      let count = c.push_task.ensures.same in
      takes_due d (world_of e.world) (rest_of d e) e.counted (emission_view own) t (entries_left own e.world.handlers.handlers) c.requires.free ∙ rw (world, agenda, count) refl;
  quiet = search rules;
  counted = (c.push_task.ensures.counted c.args.definition.now).at nothing c.requires.counted;
  room = search rules;
}
