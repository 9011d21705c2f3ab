use Rattle.std.proofs.Common.{◌∙◌, ap}
use Rattle.ui_machine.specs.Definition.Names.{canonical}
use Rattle.signal_core.specs.Table.{is_handled}
use Rattle.signal_core.proofs.Naming.{any_handled}
use Rattle.signal_core.proofs.table.SignalTable.has_class_handler.Goals as goal

pub returns : goal.returns
returns c =
    c.any_for.ensures ∙ any_handled c.own_handlers.result.now (canonical c.args.signal.now)
    ∙ ap (λ hs. is_handled hs c.args.signal.now) c.own_handlers.ensures
