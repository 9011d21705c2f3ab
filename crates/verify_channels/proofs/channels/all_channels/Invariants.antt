use Rattle.std.proofs.Common.{◌≡◌, ℕ, Some, length, map, slice_get}
use Rattle.verify_sketches.specs.Sketches.{SketchedChannel}
use Rattle.verify_sketches.specs.View.{channel_view}
use Rattle.verify_channels.specs.Raised.{IsRaised}
use Rattle.verify_channels.proofs.channels.all_channels.Given as goal

abbrev pub invariant-loop-number : goal.invariant-loop-number
invariant-loop-number l = record {
  count : length l.channels.items ≡ l.number;
  each : (n : ℕ) (k : SketchedChannel) → slice_get (map channel_view l.channels.items) n ≡ Some k → IsRaised l.lookups l.numbers l.paired l.parts n k;
}
