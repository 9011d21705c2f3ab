-- Sketches that are small enough for their nodes to be numbered by 32 bits.
use Rattle.std.specs.List.{AllByRecursion}
use Rattle.std.specs.Prelude.{◌≤◌, List, length}
use Rattle.verify_sketches.specs.Sketches.{Sketch, SketchedBlock}

-- No more of anything than a definition may have: 2^25 channels, of which at most 16,811,008 come about; 512 places; 256 programs of 64 blocks
-- and of 512 instructions, each of which may start something of its own or connect a group of its own, beside the start that is nothing.
pub record IsSmall (s : Sketch) : Type 0 where
  pub channels : length s.channels ≤ 33_554_432
  pub groups : length s.groups ≤ 131_072
  pub programs : length s.programs ≤ 256
  pub blocks : AllByRecursion (λ (bs : List SketchedBlock). length bs ≤ 64) s.programs
  pub instructions : AllByRecursion (λ (bs : List SketchedBlock). AllByRecursion (λ (b : SketchedBlock). length b.starts ≤ 512) bs) s.programs
  pub starts : length s.starts ≤ 131_073
  pub places : length s.paired ≤ 512
