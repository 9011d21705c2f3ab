use Rattle.std.proofs.Common.{◌≡◌, ◌-◌, ◌^◌, cond, count_by, map}
use Rattle.ui_machine.specs.Rules.Connections.{blocked, is_on}
use Rattle.signal_core.specs.Connected.{Numbered}
use Rattle.signal_core.proofs.Stepping.{up_to}
use Rattle.signal_core.proofs.handlers.Handlers.block_matched.Given as goal

abbrev pub invariant-handlers : goal.invariant-handlers
invariant-handlers l =
    record {
      done : l.self ≡ record l.fn.self { handlers = map (λ h. cond (up_to (is_on l.fn.object.0 l.fn.program) l.at h) (blocked h) h) l.fn.self.handlers };
      counted : l.count ≡ count_by (up_to (is_on l.fn.object.0 l.fn.program) l.at) l.fn.self.handlers;
      rising : Numbered 0 l.fn.self.handlers l.fn.self.last;
    }

abbrev pub decreases-handlers : goal.decreases-handlers
decreases-handlers l = 2 ^ 64 - l.at
