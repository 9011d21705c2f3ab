-- The graph in the first format: a thaw starts nothing, and each block is passed once. All else is as it is now.
use Rattle.std.specs.Prelude.{List, [], ◌∷◌, map}
use Rattle.std.specs.List.{flat_map}
use Rattle.ui_machine.specs.Definition.{Definition}
use Rattle.ui_machine.specs.Definition.Programs.{Instruction, Block, Program}
use Rattle.ui_machine.specs.Definition.Programs as words
use Rattle.law_typing.specs.Rules.RegisterKinds.{Kinds}
use Rattle.law_typing.specs.Rules.Typing.{after}
use Rattle.law_typing.specs.Graph.{Graph, Start, nothing, Stretch, next_of}
use Rattle.law_typing.specs.Graph as now

-- what an instruction may start
abbrev pub start_of : Definition → Kinds → Instruction → Start
start_of d ks (words.thaw object) = nothing
start_of d ks i = now.start_of d ks i

-- what each of some instructions may start, from these kinds on
abbrev pub starts_of : Definition → Program → Kinds → List Instruction → List Start
starts_of d p ks [] = []
starts_of d p ks (i ∷ rest) = start_of d ks i ∷ starts_of d p (after d p ks i) rest

-- a block's stretch
abbrev pub stretch_of : Definition → Program → Block → Stretch
stretch_of d p b = record { starts = starts_of d p b.entry b.code; passes = 1; next = flat_map next_of b.code }

-- a program's stretches
abbrev pub stretches_of : Definition → Program → List Stretch
stretches_of d p = map (stretch_of d p) p.blocks

-- the graph of a definition
abbrev pub graph : Definition → Graph
graph d = record (now.graph d) { programs = map (stretches_of d) d.programs }
