use Rattle.std.proofs.Common.{◌≡◌, length}
use Rattle.main_context.specs.Attached.{next_source, numbers_after}
use Rattle.main_context.proofs.context.Context.next_of.Given as goal

abbrev pub invariant-loop-number : goal.invariant-loop-number
invariant-loop-number l = record {
  given : next_source l.self.sources l.batch ≡ next_source l.self.sources l.initial.batch;
  left : numbers_after l.self.sources l.batch ≡ numbers_after l.self.sources l.initial.batch;
}

abbrev pub decreases-loop-number : goal.decreases-loop-number
decreases-loop-number l = length l.batch
