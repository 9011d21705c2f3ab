use Rattle.std.proofs.Common.{◌≡◌, ◌-◌, ◌^◌, ◌<◌, true}
use Rattle.std.specs.List.{AllByRecursion}
use Rattle.signal_core.specs.Connected.{Numbered}
use Rattle.signal_core.specs.Emission.{has_next_turn}
use Rattle.signal_core.proofs.handlers.Handlers.next_handler.Given as goal

abbrev pub invariant-handlers : goal.invariant-handlers
invariant-handlers l =
    record {
      later : AllByRecursion (λ h. has_next_turn l.cursor l.given l.after h ≡ true → l.at < h.number) l.self.handlers;
      rising : Numbered 0 l.self.handlers l.self.last;
    }

abbrev pub decreases-handlers : goal.decreases-handlers
decreases-handlers l = 2 ^ 64 - l.at
