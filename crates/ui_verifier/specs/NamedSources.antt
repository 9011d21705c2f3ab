-- The programs that instructions make sources of.
use Rattle.std.specs.Prelude.{ℕ, List}
use Rattle.std.specs.List.{flat_map}
use Rattle.ui_machine.specs.Definition.{Definition}
use Rattle.ui_machine.specs.Definition.Programs.{Block, Instruction, Program}
use Rattle.law_typing.specs.Graph.{listed_if, source_named}

-- those that some instructions name, in their order
abbrev pub named_in : Definition → List Instruction → List ℕ
named_in d code = flat_map (λ (i : Instruction). listed_if (source_named d i)) code

-- those of some blocks
abbrev pub named_in_blocks : Definition → List Block → List ℕ
named_in_blocks d blocks = flat_map (λ (b : Block). named_in d b.code) blocks

-- and of some programs
abbrev pub named_in_programs : Definition → List Program → List ℕ
named_in_programs d programs = flat_map (λ (p : Program). named_in_blocks d p.blocks) programs
