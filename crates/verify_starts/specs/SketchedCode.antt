-- Blocks and programs as they are sketched.
use Rattle.std.specs.Prelude.{◌≡◌, ℕ, List, [], ◌∷◌, Some, slice_get}
use Rattle.std.specs.List.{flat_map}
use Rattle.ui_machine.specs.Definition.{Definition}
use Rattle.ui_machine.specs.Definition.Programs.{Block, Instruction, Program, passes_in}
use Rattle.law_typing.specs.Graph.{next_of}
use Rattle.law_typing.specs.Graph.Channels.{Channel}
use Rattle.law_typing.specs.Rules.RegisterKinds.{Kinds}
use Rattle.law_typing.specs.Rules.Typing.{after}
use Rattle.verify_sketches.specs.Pointwise.{Pointwise}
use Rattle.verify_sketches.specs.Sketches.{SketchedBlock, SketchedStart}
use Rattle.verify_starts.specs.Triggers.{start_for, trigger_of}

-- what each of some instructions may start, from these kinds on
abbrev pub sketched_code : Definition → List Channel → Program → Kinds → List Instruction → List SketchedStart
sketched_code d all p ks [] = []
sketched_code d all p ks (i ∷ rest) = start_for d all (trigger_of d ks i) ∷ sketched_code d all p (after d p ks i) rest

-- a number is that of a start
abbrev pub IsNumberOf : List SketchedStart → ℕ → SketchedStart → Type 0
IsNumberOf starts n start = slice_get starts n ≡ Some start

-- numbers are those of starts
abbrev pub AreNumbersOf : List SketchedStart → List ℕ → List SketchedStart → Type 0
AreNumbersOf starts numbers xs = Pointwise (IsNumberOf starts) numbers xs

-- a block is sketched, where starts have these numbers
pub record IsBlock (d : Definition) (all : List Channel) (starts : List SketchedStart) (p : Program) (s : SketchedBlock) (b : Block) : Type 0 where
  pub starts_are : AreNumbersOf starts s.starts (sketched_code d all p b.entry b.code)
  pub passes : s.passes ≡ passes_in b
  pub next : s.next ≡ flat_map next_of b.code

-- the blocks of a program are
abbrev pub AreBlocks : Definition → List Channel → List SketchedStart → List SketchedBlock → Program → Type 0
AreBlocks d all starts blocks p = Pointwise (IsBlock d all starts p) blocks p.blocks

-- all programs are
abbrev pub ArePrograms : Definition → List Channel → List SketchedStart → List (List SketchedBlock) → List Program → Type 0
ArePrograms d all starts sketched programs = Pointwise (AreBlocks d all starts) sketched programs
