-- Kinds and accumulators in the words of the format.
use Rattle.std.specs.Prelude.{ℕ, List, ◌++◌, codes}
use Rattle.ui_machine.specs.Definition.{Definition}
use Rattle.ui_machine.specs.Definition.Kinds.{Kind, int, uint, int64, uint64}
use Rattle.ui_machine.specs.Definition.Kinds as kinds
use Rattle.ui_machine.specs.Definition.Lookups.{type_of}
use Rattle.ui_machine.specs.Definition.Signals.{Accumulator, first_wins, true_handled}

-- a kind as a definition names it
abbrev pub kind_word : Definition → Kind → List ℕ
kind_word d kinds.bool = codes "bool"
kind_word d (kinds.whole int) = codes "int"
kind_word d (kinds.whole uint) = codes "uint"
kind_word d (kinds.whole int64) = codes "int64"
kind_word d (kinds.whole uint64) = codes "uint64"
kind_word d kinds.text = codes "text"
kind_word d (kinds.enum type) = codes "enum:" ++ (type_of d type).name
kind_word d (kinds.flags type) = codes "flags:" ++ (type_of d type).name
kind_word d (kinds.object type) = codes "object:" ++ (type_of d type).name

-- the word of an accumulator
abbrev pub accumulator_word : Accumulator → List ℕ
accumulator_word true_handled = codes "true-handled"
accumulator_word first_wins = codes "first-wins"
