use Rattle.std.proofs.Common.{◌≡◌, take}
use Rattle.main_context.specs.Places.{by_priority}
use Rattle.main_context.proofs.batch.by_priority.Given as goal

abbrev pub invariant-loop-place : goal.invariant-loop-place
invariant-loop-place l = l.found.items ≡ by_priority l.sources (take l.place-index l.places)
