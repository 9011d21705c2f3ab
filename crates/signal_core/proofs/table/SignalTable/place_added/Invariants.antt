use Rattle.std.proofs.Common.{◌≡◌, None, length}
use Rattle.ui_machine.specs.Definition.Names.{canonical, place_named}
use Rattle.signal_core.specs.Sources.{AreMarked, brought_until, declared_until}
use Rattle.signal_core.proofs.table.SignalTable.place_added.Given as goal

abbrev pub invariant-loop-at : goal.invariant-loop-at
invariant-loop-at l =
    (place_named (λ s. s.name) (declared_until l.tree l.self.signals l.t l.at) (canonical l.name) ≡ None)
    × (l.count ≡ length (declared_until l.tree l.self.signals l.t l.at))
    × AreMarked l.marks (brought_until l.tree l.t l.at)
