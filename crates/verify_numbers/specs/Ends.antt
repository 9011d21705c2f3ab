-- The other ends of pairs.
use Rattle.std.specs.Prelude.{◌≡◌, ◌<◌, ℕ, length, Some, slice_get}
use Rattle.verify_sketches.specs.Sketches.{Sketch, SketchedChannel}

-- the other end of each channel that has one is a channel of the sketch
abbrev pub EndsAreThere : Sketch → Type 0
EndsAreThere s = (number other : ℕ) (k : SketchedChannel) → slice_get s.channels number ≡ Some k → k.other ≡ Some other → other < length s.channels
