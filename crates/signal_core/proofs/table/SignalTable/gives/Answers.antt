use Rattle.std.proofs.Common.{◌∙◌, ◌&&◌, sym, ap}
use Rattle.signal_core.specs.Owners.{has_signal}
use Rattle.signal_core.specs.Sources.{own_of}
use Rattle.signal_core.proofs.Owned.{named_in_code}
use Rattle.signal_core.proofs.table.SignalTable.gives.Goals as goal

pub returns-then-is_a : goal.returns-then-is_a
returns-then-is_a c =
    c.has_own.ensures ∙ named_in_code c.own.result.now c.args.name.now ∙ ap (λ l. has_signal l c.args.name.now) c.own.ensures.own
    ∙ ap (λ b. b && has_signal (own_of c.args.self.now.signals c.args.owner) c.args.name.now) (sym c.if-is_a.true ∙ c.is_a.ensures)
