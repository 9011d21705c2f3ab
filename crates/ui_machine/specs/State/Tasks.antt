-- What there is to do: the tasks of the agenda, and what they are made of.
use Rattle.std.specs.Prelude.{Bool, List, Option, ℕ}
use Rattle.ui_machine.specs.Definition.Places.{Given}
use Rattle.ui_machine.specs.Definition.Values.{Value}

-- an entry of an emission's plan
pub data PlanEntry : Type 0 where
  class_handler : (program : ℕ) (cleanup : Bool) → PlanEntry
  handler : (number : ℕ) → PlanEntry
  transfer : (number : ℕ) (back : Bool) → PlanEntry

-- an emission, from before its beginning to its end
pub record Emission : Type 0 where
  pub object : ℕ
  pub signal : ℕ
  pub detail : Option (List ℕ)
  pub args : List Value
  pub by_event : Bool
  pub value : Option Value  -- what it has accumulated
  pub cleanup : Bool  -- whether its cleanup stage has begun

-- a step of a construction that is to come
pub data ConstructStep : Type 0 where
  sets : (slot : ℕ) (value : Value) → ConstructStep
  runs : (program : ℕ) → ConstructStep
  thaws : ConstructStep

-- a step of the build that is to come
pub data Item : Type 0 where
  makes : (place : ℕ) → Item
  adopts : (place : ℕ) → Item  -- by the place of its parent
  forwards : (place slot to : ℕ) → Item
  binds : (number : ℕ) → Item
  connects : (place number : ℕ) → Item

-- what is asked of an object of the builder, by its place
pub data Request : Type 0 where
  set : (place slot : ℕ) (given : Given) → Request
  get : (place slot : ℕ) → Request
  emit : (place signal : ℕ) (args : List Given) (detail : Option (List ℕ)) → Request
  release : (place : ℕ) → Request

-- what comes from outside: a request, which is carried out in one dispatch, or a turn of the main loop, which has a dispatch for each
-- ready source
pub data Event : Type 0 where
  request : (request : Request) → Event
  turn : (moment : ℕ) → Event

-- the registers of a program; one may be unset
abbrev pub Registers : Type 0
Registers = List (Option Value)

-- a program that runs: the instruction that it has come to, the passes that are left of its block, the register that waits for an
-- emission's result, and its registers
pub record Frame : Type 0 where
  pub program : ℕ
  pub block : ℕ
  pub at : ℕ
  pub passes : ℕ
  pub into : Option ℕ
  pub registers : Registers

-- a call of a peer that is due: whose peer it is, what is asked, and the register for the answer
pub record Call : Type 0 where
  pub object : ℕ
  pub peer : ℕ
  pub method : ℕ
  pub args : List Value
  pub to : ℕ

-- What there is to do is a list of tasks. What comes down from a task goes to the one below it: a program's result to its emission or
-- source, an emission's to the program that waits for it.
pub data Task : Type 0 where
  Setting : (object slot : ℕ) (value : Value) → Task
  Notifying : (object slot : ℕ) → Task  -- a notification is to begin
  Beginning : (emission : Emission) → Task  -- an emission is to begin
  Emitting : (emission : Emission) (entries : List PlanEntry) → Task  -- the rest of an emission
  Transferring : (number : ℕ) (back : Bool) → Task
  Unsetting : (number : ℕ) → Task  -- the binding stops setting
  Thawing : (object : ℕ) (slots : List ℕ) → Task  -- the notifications that are left of a thaw
  Running : (frame : Frame) → Task  -- the rest of a program
  Answering : (source : ℕ) → Task  -- a source whose program runs
  Calling : (call : Call) → Task  -- a peer is to answer
  Constructing : (object : ℕ) (steps : List ConstructStep) (held : Bool) → Task  -- held: by the builder, once it has ended
  Building : (items : List Item) → Task
  Handling : (request : Request) → Task
  Due : (source : ℕ) → Task  -- a ready source is to run
