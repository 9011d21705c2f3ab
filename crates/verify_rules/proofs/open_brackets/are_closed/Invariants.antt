use Rattle.std.proofs.Common.{◌≡◌, ◌<◌, ℕ}
use Rattle.ui_machine.specs.Seq.{read}
use Rattle.verify_rules.proofs.open_brackets.are_closed.Given as goal

abbrev pub invariant-loop-number : goal.invariant-loop-number
invariant-loop-number l = (k : ℕ) → k < l.number → read 0 l.counts k ≡ 0
