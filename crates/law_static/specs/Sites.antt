-- What is known at the place of an instruction of an accepted definition.
use Rattle.std.specs.Prelude.{◌≡◌, ℕ, suc, true, Ok, Some, slice_get}
use Rattle.ui_machine.specs.Definition.{Definition}
use Rattle.ui_machine.specs.Definition.Programs.{Instruction, Block, Program}
use Rattle.ui_machine.specs.Definition.Lookups.{program_at}
use Rattle.law_typing.specs.Rules.RegisterKinds.{Kinds}
use Rattle.law_typing.specs.Rules.Sites.{Site, sites}
use Rattle.law_typing.specs.Rules.Typing as typing
use Rattle.law_typing.specs.Rules.Typing.{WellTypedBlock}
use Rattle.law_typing.specs.Rules.Brackets.{is_balanced}
use Rattle.law_typing.specs.Graph.{start_of, stretch_of}
use Rattle.law_typing.specs.Verdict.Accepted.{Accepted}
use Rattle.law_typing.specs.Laws.{IsIn}
use Rattle.law_typing.specs.Good.Programs.{kinds_before}

-- the block of this number of a program
pub record BlockIs (d : Definition) (program number : ℕ) (p : Program) (b : Block) : Type 0 where
  pub is : program_at d program ≡ Some p
  pub has : slice_get p.blocks number ≡ Some b

-- a block keeps its rules, and its brackets match
pub record BlockKept (d : Definition) (p : Program) (b : Block) : Type 0 where
  pub typed : WellTypedBlock d p b
  pub balanced : is_balanced b.code ≡ true

-- each block of an accepted definition does
abbrev pub BlocksKeep : Type 0
BlocksKeep =
    (d : Definition) → Accepted d → (program number : ℕ) (p : Program) (b : Block) → BlockIs d program number p b →
    BlockKept d p b

-- the kinds in front of an instruction of a block
abbrev pub kinds_at : Definition → Program → Block → ℕ → Kinds
kinds_at d p b at = kinds_before d p b.entry at b.code

-- an instruction of a block, with the kinds before it
abbrev pub site : Definition → (program number : ℕ) → Program → Block → ℕ → Instruction → Site
site d program number p b at i = record { program = program; block = number; at = at; kinds = kinds_at d p b at; instruction = i }

-- what is known of an instruction at its place
pub record SiteKept (d : Definition) (program number at : ℕ) (p : Program) (b : Block) (i : Instruction) : Type 0 where
  -- it keeps its rule, and the kinds after it are those in front of the next one
  pub typed : typing.typed d p (kinds_at d p b at) i ≡ Ok (kinds_at d p b (suc at))
  -- it is one of the sites, so that the graph knows what it connects and attaches
  pub known : IsIn (site d program number p b at i) (sites d)
  -- what it may start is among what its block may
  pub starts : IsIn (start_of d (kinds_at d p b at) i) (stretch_of d p b).starts

abbrev pub SitesKeep : Type 0
SitesKeep =
    (d : Definition) → Accepted d → (program number at : ℕ) (p : Program) (b : Block) (i : Instruction) → BlockIs d program number p b →
    slice_get b.code at ≡ Some i → SiteKept d program number at p b i
