-- Where the nodes of a sketch are: those of one sort behind those of another.
use Rattle.std.specs.Prelude.{ℕ, ◌+◌, ◌*◌, List, [], ◌∷◌, length, slice_index_or}
use Rattle.verify_sketches.specs.Sketches.{Sketch, SketchedBlock}
use Rattle.verify_sketches.specs.Numbered.{Part, whole, own, stages, connected, group, program, blocks, place, start, block, passes, next}

-- how many there are of each sort, and of each program how many blocks come before its own
pub record Counts : Type 0 where
  pub channels : ℕ
  pub groups : ℕ
  pub programs : ℕ
  pub places : ℕ
  pub starts : ℕ
  pub blocks : ℕ
  pub befores : List ℕ

-- the blocks before those of each of some programs, where so many come before the first one
abbrev pub befores_from : ℕ → List (List SketchedBlock) → List ℕ
befores_from before [] = []
befores_from before (bs ∷ more) = before ∷ befores_from (before + length bs) more

-- how many blocks some programs have
abbrev pub block_count : List (List SketchedBlock) → ℕ
block_count [] = 0
block_count (bs ∷ more) = length bs + block_count more

abbrev pub counts_of : Sketch → Counts
counts_of s = record {
  channels = length s.channels;
  groups = length s.groups;
  programs = length s.programs;
  places = length s.paired;
  starts = length s.starts;
  blocks = block_count s.programs;
  befores = befores_from 0 s.programs;
}

-- ** where each sort begins

abbrev pub groups_begin : Counts → ℕ
groups_begin c = 4 * c.channels

abbrev pub programs_begin : Counts → ℕ
programs_begin c = groups_begin c + c.groups

abbrev pub places_begin : Counts → ℕ
places_begin c = programs_begin c + 2 * c.programs

abbrev pub starts_begin : Counts → ℕ
starts_begin c = places_begin c + c.places

abbrev pub blocks_begin : Counts → ℕ
blocks_begin c = starts_begin c + c.starts

-- the number of a block among all blocks
abbrev pub block_number : Counts → (program block : ℕ) → ℕ
block_number c p b = slice_index_or c.befores p 0 + b

-- the number of a part's node
abbrev pub at : Counts → Part → ℕ
at c (whole i) = i
at c (own i) = c.channels + i
at c (stages i) = 2 * c.channels + i
at c (connected i) = 3 * c.channels + i
at c (group i) = groups_begin c + i
at c (program i) = programs_begin c + i
at c (blocks i) = programs_begin c + c.programs + i
at c (place i) = places_begin c + i
at c (start i) = starts_begin c + i
at c (block p b) = blocks_begin c + block_number c p b
at c (passes p b) = blocks_begin c + c.blocks + block_number c p b
at c (next p b) = blocks_begin c + 2 * c.blocks + block_number c p b

-- the number of a part's node in a sketch
abbrev pub at_in : Sketch → Part → ℕ
at_in s x = at (counts_of s) x
