use Rattle.std.proofs.Common.{subst, arith}
use Rattle.std.proofs.lemmas.Option.{slice_get_within}
use Rattle.signal_core.specs.SignalView.{signal_view}
use Rattle.signal_core.specs.Sources.{declared_of}
use Rattle.signal_core.specs.Table.{IsTable}
use Rattle.signal_core.proofs.Walks.{declared_few}
use Rattle.signal_core.proofs.table.SignalTable.signal_count.Goals as goal

pub unreachable-requires : goal.unreachable-requires
unreachable-requires c =
    let signals = declared_of c.args.tree.now c.args.self.now.signals c.args.t in
    let few = declared_few c.args.tree.now c.args.self.now.signals (subst (λ d. IsTable d.signals) c.self.view_is c.self.invariant.0) c.args.t in
    let within = slice_get_within signals 16384 (signal_view c.in-Ok.field-0.now) c.in-Ok.ensures.found in
    absurd (omega (arith, few, within))
