-- What a step does, as price lists tell it apart, and what a price list is.
use Rattle.std.specs.Prelude.{ℕ}
use Rattle.ui_machine.specs.State.Tasks.{Item}
use Rattle.law_prices.specs.Asked.{Asked}

-- What a step is or does, by what is known of it before: places and slots, signals by number, programs, bindings, shapes and methods. The
-- signal of a notification is 0.
pub data Deed : Type 0 where
  instruction : (program block at : ℕ) → Deed
  set : (place slot : ℕ) → Deed  -- a due set: the value is written or refused
  notify : (place slot : ℕ) → Deed  -- a notification begins
  emit : (place signal : ℕ) → Deed  -- another emission begins
  turn : (place signal : ℕ) → Deed  -- an emission takes a turn, or passes over it
  end : (place signal : ℕ) → Deed  -- an emission ends
  tell : (place signal : ℕ) → Deed  -- and an event is told its result
  run : (program : ℕ) → Deed  -- a program begins
  transfer : (binding : ℕ) → Deed  -- a binding carries a value over
  free : (binding : ℕ) → Deed  -- and no longer sets
  name : (place slot : ℕ) → Deed  -- a thaw comes to a notification that waited
  thawed : Deed  -- a thaw ends
  answer : (shape method : ℕ) → Deed  -- a peer answers, or is closed
  make : (place : ℕ) → Deed  -- an object is made
  construct : (place : ℕ) → Deed  -- a construction takes a step, or ends
  item : Item → Deed  -- the build takes an item
  built : Deed  -- the build ends
  begin : Asked → Deed  -- a request or a source begins
  dispose : (place : ℕ) → Deed  -- an object is disposed that was not
  final : (place : ℕ) → Deed  -- an object is finalised
  settle : (place : ℕ) → Deed  -- an object that floats is let go
  finish : Deed  -- the dispatch ends

-- a price for each of them
abbrev pub PriceList : Type 0
PriceList = Deed → ℕ
