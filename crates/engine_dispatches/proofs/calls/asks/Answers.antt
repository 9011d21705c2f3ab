use Rattle.std.proofs.Common.{◌≡◌, None, ap, sym, ◌∙◌}
use Rattle.std.specs.Prelude.{is_some}
use Rattle.ui_machine.specs.State.References.{next_unheld}
use Rattle.ui_machine.specs.Steps.{asked_after}
use Rattle.instance_tables.specs.Store.{count_of, id_of}
use Rattle.engine_tasks.specs.CallView.{question_view}
use Rattle.engine_world.specs.EngineView.{config_of}
use Rattle.engine_world.specs.View.{world_of}
use Rattle.engine_world.proofs.Counts.{finds_mentioned}
use Rattle.engine_dispatches.proofs.FirstCalls.{mapped_some}
use Rattle.engine_dispatches.proofs.calls.asks.Goals as goal

pub returns-in-Some : goal.returns-in-Some
returns-in-Some c =
    let d = c.args.definition.now in
    let e = c.args.engine.now in
    let one = sym c.next_unheld.ensures.found ∙ ap id_of c.in-Some.is in
    sym (ap (λ o. is_some (asked_after (config_of d e) o)) (sym (finds_mentioned d e c.requires.counted) ∙ one))

pub returns-in-None : goal.returns-in-None
returns-in-None c =
    let d = c.args.definition.now in
    let e = c.args.engine.now in
    let none : next_unheld (count_of e.world.table.counts) e.world.table.objects ≡ None = sym c.next_unheld.ensures.found ∙ ap id_of c.in-None.is in
    c.is_some.ensures
    ∙ mapped_some (question_view (world_of e.world)) c.question.result
    ∙ ap (λ q. is_some q) (c.question.ensures d)
    ∙ sym (ap (λ o. is_some (asked_after (config_of d e) o)) (sym (finds_mentioned d e c.requires.counted) ∙ none))
