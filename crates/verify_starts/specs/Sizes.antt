-- How much the programs of a definition have.
use Rattle.std.specs.List.{AllByRecursion}
use Rattle.std.specs.Prelude.{◌≤◌, List, length}
use Rattle.ui_machine.specs.Definition.Programs.{Program}
use Rattle.bytecode.specs.Shape.{instructions_in}
use Rattle.verify_sketches.specs.Sketches.{SketchedBlock, SketchedStart}

-- at most 64 blocks, and at most 512 instructions in all of them
pub record IsShortProgram (p : Program) : Type 0 where
  pub blocks : length p.blocks ≤ 64
  pub instructions : instructions_in p.blocks ≤ 512

-- no more starts and programs than a definition may have: each instruction may start something of its own, beside the start that is nothing
pub record AreSmall (kept : List SketchedStart) (sketched : List (List SketchedBlock)) : Type 0 where
  pub starts : length kept ≤ 131_073
  pub programs : length sketched ≤ 256
  pub blocks : AllByRecursion (λ (bs : List SketchedBlock). length bs ≤ 64) sketched
  pub instructions : AllByRecursion (λ (bs : List SketchedBlock). AllByRecursion (λ (b : SketchedBlock). length b.starts ≤ 512) bs) sketched
