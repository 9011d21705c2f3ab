use Rattle.std.proofs.Common.{◌∷◌, string_bytes, ap, ◌∙◌, arith}
use Rattle.ui_machine.specs.State.Config.{World}
use Rattle.ui_machine.specs.State.References.{in_register}
use Rattle.ui_machine.specs.State.Tasks.{Emitting}
use Rattle.signal_core.specs.Connected.{Connected}
use Rattle.signal_core.specs.Emission.{Walk}
use Rattle.engine_world.specs.View.{with_line}
use Rattle.engine_world.specs.TaskView.{agenda_of}
use Rattle.engine_stack.specs.TaskView.{emission_of, entries_to_come, tasks_of}
use Rattle.engine_world.proofs.Counts.{keeps_said, taken_alike}
use Rattle.engine_tasks.proofs.emission.start_emission.Goals as goal

pub returns-clause-agenda : goal.returns-clause-agenda
returns-clause-agenda c d =
    let e = c.args.engine.now in
    let a = c.args.args.items in
    ap (λ (h : Connected). tasks_of d h.handlers c.push_emission.new.engine.stack) c.say.ensures.handlers
    ∙ c.push_emission.ensures.agenda d
    ∙ ap (λ (v : Walk). Emitting (emission_of v a c.args.by_event) (entries_to_come v e.world.handlers.handlers c.args.transfers) ∷ agenda_of d e) c.begin_emission-cursor.ensures

pub returns-clause-world : goal.returns-clause-world
returns-clause-world c = c.in_ok-say.ensures.ok ∙ ap (λ (w : World). with_line (string_bytes c.args.line) w) c.push_emission.ensures.world

pub returns-clause-counted : goal.returns-clause-counted
returns-clause-counted c d taken h =
    let e = c.args.engine.now in
    (keeps_said d c.push_emission.new.engine c.say.new.self c.say.ensures.beside).at taken
    (c.push_emission.ensures.counted d taken
    (taken_alike d e _ _ (λ o. omega (arith, ap (λ (v : Walk). in_register o v.value) c.begin_emission-cursor.ensures)) h))
