-- What a definition may be refused for, with the place of the fault, all by number.
use Rattle.std.specs.Prelude.{ℕ, List}
use Rattle.law_typing.specs.Rules.Answers.{Rule}
use Rattle.law_typing.specs.Graph.Channels.{Entry, Link}

-- who runs a program that does not take what it is given
pub data Handling : Type 0 where
  class_handler : (class number : ℕ) → Handling  -- of a class, by its number in the class's own list
  constructed : (class : ℕ) → Handling
  attached : (place number : ℕ) → Handling  -- an object's signal, by its number in the object's list

-- the rules of a binding; the first one that a binding breaks is reported
pub data BindingWord : Type 0 where
  same : BindingWord  -- both ends are one property
  readable : BindingWord  -- the source is not
  writable : BindingWord  -- the target is not
  construct_only : BindingWord  -- the target is
  kinds : BindingWord  -- the kinds have no transformation
  invert : BindingWord  -- an inversion of something else than truth values

-- the phases in their order
pub data Fault : Type 0 where
  ill_typed : (program block at : ℕ) (rule : Rule) → Fault
  handler_signature : Handling → Fault
  binding_rule : (binding : ℕ) (word : BindingWord) → Fault
  second_pair : (binding : ℕ) → Fault
  unbalanced : (program block : ℕ) → Fault
  cycle : List Link → Fault
  bound_too_large : Entry → Fault
