use Rattle.std.proofs.Common.{◌∙◌, Some, option_map, ap}
use Rattle.ui_machine.specs.Definition.Signals.{ClassHandler}
use Rattle.ui_machine.specs.Rules.EmissionPlan.{handler_in}
use Rattle.signal_core.proofs.Walks.{handler-found}
use Rattle.signal_core.proofs.table.SignalTable.own_handler.Goals as goal

pub returns-in_err-handler : goal.returns-in_err-handler
returns-in_err-handler c =
    c.from_residual.ensures ∙ ap (option_map (λ (h : ClassHandler). h.program)) c.in_err-handler.ensures ∙ handler-found c.own_handlers.result.now c.args.name.now
    ∙ ap (λ hs. handler_in hs c.args.name.now) c.own_handlers.ensures

pub returns : goal.returns
returns c =
    ap Some c.program.ensures ∙ ap (option_map (λ (h : ClassHandler). h.program)) c.in_ok-handler.ensures ∙ handler-found c.own_handlers.result.now c.args.name.now
    ∙ ap (λ hs. handler_in hs c.args.name.now) c.own_handlers.ensures
