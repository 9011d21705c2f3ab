use Rattle.std.proofs.Common.{◌∙◌, false, sym}
use Rattle.ui_machine.specs.Words.{notify}
use Rattle.g_values.proofs.Texts.{same_bytes}
use Rattle.signal_core.proofs.Owned.{beside_notify}
use Rattle.signal_core.proofs.table.SignalTable.has.Goals as goal

pub returns-else-eq : goal.returns-else-eq
returns-else-eq c =
    c.inherits.ensures
    ∙ beside_notify c.args.tree.now c.args.self.now.signals c.args.t c.args.name.now false (sym c.if-eq.false ∙ c.eq.ensures ∙ sym (same_bytes notify.name c.args.name.now))
