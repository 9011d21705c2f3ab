use Rattle.std.proofs.Common.{◌≡◌, List, Some, None, ap, sym, ◌∙◌, rules}
use Rattle.ui_machine.specs.State.References.{mentions, next_unheld}
use Rattle.ui_machine.specs.State.Tasks.{Task}
use Rattle.instance_tables.specs.Store.{id_of, count_of}
use Rattle.engine_world.specs.Counting.{nothing}
use Rattle.engine_world.specs.EngineView.{config_of}
use Rattle.engine_world.specs.TaskView.{agenda_of}
use Rattle.engine_world.specs.View.{world_of}
use Rattle.engine_world.proofs.Counts.{finds_mentioned}
use Rattle.ui_machine.specs.Steps.{asked_after}
use Rattle.std.proofs.lemmas.Result.{err_from_is_err_and}
use Rattle.engine_world.proofs.Ableness.{none_stops}
use Rattle.engine_dispatches.proofs.LeftClosings.{finalised_known}
use Rattle.engine_dispatches.proofs.Stepping.{finalise_can, finalise_stepped}
use Rattle.engine_dispatches.proofs.quiet_steps.step_quietly.Goals as goal

pub first_task-requires-clause-none : goal.first_task-requires-clause-none
first_task-requires-clause-none c =
    let d = c.args.definition.now in
    let e = c.args.engine.now in
    let none : next_unheld (count_of e.world.table.counts) e.world.table.objects ≡ None = sym c.next_unheld.ensures.found ∙ ap id_of c.in_default.is in
    sym (finds_mentioned d e c.requires.counted) ∙ none

pub returns : goal.returns
returns c = record {
  counted = c.in_ok-finalise.ensures.counted.at nothing c.requires.counted;
  stepped =
      let d = c.args.definition.now in
      let e = c.args.engine.now in
      let new = c.finalise.new.engine in
      let id = c.in-Some.object.0 in
      let one : next_unheld (count_of e.world.table.counts) e.world.table.objects ≡ Some id = sym c.next_unheld.ensures.found ∙ ap id_of c.in-Some.is in
      let unheld : next_unheld (mentions d (config_of d e)) e.world.table.objects ≡ Some id = sym (finds_mentioned d e c.requires.counted) ∙ one in
      let rest = agenda_of d e in
      finalise_stepped d (config_of d e) id unheld (config_of d new) (record { world = world_of new.world; agenda = rest; counted = new.counted }) (c.in_ok-finalise.ensures.step rest)
      (ap (λ (ts : List Task). record (config_of d new) { agenda = ts }) (sym c.in_ok-finalise.ensures.agenda)) c.in_ok-finalise.ensures.counts;
  known =
      let d = c.args.definition.now in
      let w = world_of c.args.engine.now.world in
      let new = c.finalise.new.engine in
      let rest = agenda_of d c.args.engine.now in
      finalised_known d w c.in-Some.object.0 rest c.args.engine.now.counted (record { world = world_of new.world; agenda = rest; counted = new.counted }) c.args.engine.now.closing new.closing
      (c.in_ok-finalise.ensures.step rest) c.in_ok-finalise.ensures.closing;
  grows = search rules;
  room = search rules;
}

pub returns-in_err-finalise : goal.returns-in_err-finalise
returns-in_err-finalise c = record {
  counted = search rules;
  stepped =
      let p = err_from_is_err_and c.from_residual.result c.from_residual.ensures.1 in
      rw p.1 c.in_err-finalise.ensures.quiet;
  known = search rules;
  grows = search rules;
  room = search rules;
}

pub finalise-requires-clause-able : goal.finalise-requires-clause-able
finalise-requires-clause-able c =
    let d = c.args.definition.now in
    let e = c.args.engine.now in
    let id = c.in-Some.object.0 in
    let one : next_unheld (count_of e.world.table.counts) e.world.table.objects ≡ Some id = sym c.next_unheld.ensures.found ∙ ap id_of c.in-Some.is in
    let unheld : next_unheld (mentions d (config_of d e)) e.world.table.objects ≡ Some id = sym (finds_mentioned d e c.requires.counted) ∙ one in
    none_stops _ (finalise_can d (config_of d e) id unheld c.requires.safe)

pub first_task-requires-clause-quiet : goal.first_task-requires-clause-quiet
first_task-requires-clause-quiet c =
    let d = c.args.definition.now in
    let e = c.args.engine.now in
    let none : next_unheld (count_of e.world.table.counts) e.world.table.objects ≡ None = sym c.next_unheld.ensures.found ∙ ap id_of c.in_default.is in
    ap (asked_after (config_of d e)) (sym (sym (finds_mentioned d e c.requires.counted) ∙ none)) ∙ c.requires.quiet
