use Rattle.std.proofs.Common.{◌≡◌, ◌<◌, ◌^◌, ◌||◌, ℕ, drop}
use Rattle.std.specs.List.{list_any}
use Rattle.ui_machine.specs.Rules.MainLoop.{is_ready}
use Rattle.main_context.specs.Moments.{is_from}
use Rattle.main_context.proofs.context.Context.next_ready.Given as goal

abbrev pub invariant-sources : goal.invariant-sources
invariant-sources l = (moment : ℕ) → moment < 2 ^ 64 → (is_from l.first moment || list_any (is_ready moment) (drop l.source-index l.self.sources)) ≡ list_any (is_ready moment) l.self.sources
