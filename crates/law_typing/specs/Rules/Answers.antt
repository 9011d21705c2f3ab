-- The rules that an instruction may break, and what a rule's test answers.
use Rattle.std.specs.Prelude.{Result}

pub data Rule : Type 0 where
  unset : Rule  -- a register that is read holds nothing
  kind : Rule  -- it holds something else, or there are too many or too few arguments
  null : Rule  -- an object is wanted that may be null
  unknown : Rule  -- a property, signal, program, id, method or binding that is not there
  flags : Rule  -- a property that is not readable or not writable
  construct_only : Rule
  detail : Rule
  signature : Rule  -- a program that does not take what it is given
  result : Rule  -- of an emission that has none, or another result than the program's
  block : Rule  -- a register that does not fit the next block

-- what a test leads to, or the rule that is broken
abbrev pub Typing : Type 0 → Type 0
Typing A = Result A Rule
