-- The connections that code may make, in document order.
use Rattle.std.specs.Prelude.{List, [], ◌∷◌, ◌++◌, cond, nat_lt}
use Rattle.ui_machine.specs.Definition.{Definition}
use Rattle.ui_machine.specs.Definition.Programs.{Block, Instruction, Program}
use Rattle.law_typing.specs.Graph.{Connection, connection_of, connections, listed_if}
use Rattle.law_typing.specs.Rules.RegisterKinds.{Kinds}
use Rattle.law_typing.specs.Rules.Sites.{sites}
use Rattle.law_typing.specs.Rules.Typing.{after}

-- of some instructions, from these kinds on
abbrev pub code_connections : Definition → Program → Kinds → List Instruction → List Connection
code_connections d p ks [] = []
code_connections d p ks (i ∷ rest) = listed_if (connection_of d ks i) ++ code_connections d p (after d p ks i) rest

-- of some blocks
abbrev pub blocks_connections : Definition → Program → List Block → List Connection
blocks_connections d p [] = []
blocks_connections d p (b ∷ blocks) = code_connections d p b.entry b.code ++ blocks_connections d p blocks

-- of a program
abbrev pub program_connections : Definition → Program → List Connection
program_connections d p = blocks_connections d p p.blocks

-- of some programs
abbrev pub programs_connections : Definition → List Program → List Connection
programs_connections d [] = []
programs_connections d (p ∷ programs) = program_connections d p ++ programs_connections d programs

-- those of a definition whose programs may connect handlers; else none
abbrev pub connections_if : Definition → List Connection
connections_if d = cond (nat_lt 0 d.most_handlers) (connections d (sites d)) []
