-- Programs: blocks of instructions over registers.
use Rattle.std.specs.Prelude.{Bool, List, None, Option, Some, ℕ, ℤ}
use Rattle.ui_machine.specs.Definition.Kinds.{Kind, RegisterKind}
use Rattle.ui_machine.specs.Definition.Values.{Value}

pub data Arithmetic : Type 0 where
  add : Arithmetic
  sub : Arithmetic
  mul : Arithmetic

pub data Comparison : Type 0 where
  eq : Comparison
  lt : Comparison
  le : Comparison

-- what `connect` says beside the object and the register that it writes
pub record Connect : Type 0 where
  pub signal : List ℕ
  pub detail : Option (List ℕ)
  pub program : List ℕ
  pub after : Bool
  pub swapped : Bool
  pub with : Option ℕ

-- Registers are numbers; properties, signals, programs, methods and bindings go by name, ids by place.
pub data Instruction : Type 0 where
  const : (to : ℕ) (kind : Kind) (value : Value) → Instruction
  move : (to from : ℕ) → Instruction
  clear : (to : ℕ) → Instruction
  arithmetic : (operation : Arithmetic) (to a b : ℕ) → Instruction
  compare : (comparison : Comparison) (to a b : ℕ) → Instruction
  same : (to a b : ℕ) → Instruction
  negate : (to a : ℕ) → Instruction
  both : (to a b : ℕ) → Instruction
  either : (to a b : ℕ) → Instruction
  join : (to a b : ℕ) → Instruction
  convert : (to a : ℕ) (kind : Kind) → Instruction
  get : (to object : ℕ) (property : List ℕ) → Instruction
  set : (object : ℕ) (property : List ℕ) (from : ℕ) → Instruction
  object : (to : ℕ) (id : List ℕ) → Instruction
  new : (to : ℕ) (id : List ℕ) → Instruction
  sink : (object : ℕ) → Instruction
  orphan : (object : ℕ) → Instruction
  dispose : (object : ℕ) → Instruction
  adopt : (to parent child : ℕ) → Instruction
  freeze : (object : ℕ) → Instruction
  thaw : (object : ℕ) → Instruction
  emit : (into : Option ℕ) (object : ℕ) (signal : List ℕ) (detail : Option (List ℕ)) (args : List ℕ) → Instruction
  notify : (object : ℕ) (property : List ℕ) → Instruction
  connect : (to object : ℕ) (c : Connect) → Instruction
  disconnect : (object : ℕ) (program : List ℕ) → Instruction
  block : (object : ℕ) (program : List ℕ) → Instruction
  unblock : (object : ℕ) (program : List ℕ) → Instruction
  stop : Instruction
  unbind : (name : List ℕ) → Instruction
  idle : (to : ℕ) (program : List ℕ) (priority : ℤ) (with : Option ℕ) → Instruction
  timeout : (to : ℕ) (program : List ℕ) (priority : ℤ) (interval : ℕ) (with : Option ℕ) → Instruction
  remove : (program : List ℕ) → Instruction
  call : (to object : ℕ) (method : List ℕ) (args : List ℕ) → Instruction
  jump : (to : ℕ) → Instruction
  branch : (on then_to else_to : ℕ) → Instruction
  branch_null : (on then_to else_to : ℕ) → Instruction
  return : (from : Option ℕ) → Instruction

pub record Block : Type 0 where
  pub entry : List RegisterKind  -- of every register
  pub repeat : Option ℕ  -- how often the instructions before the last are taken, where it says so
  pub code : List Instruction

-- that many, or once where nothing is said
abbrev pub said_or_once : Option ℕ → ℕ
said_or_once None = 1
said_or_once (Some n) = n

-- how often a block's instructions before the last are taken
abbrev pub passes_in : Block → ℕ
passes_in b = said_or_once b.repeat

pub record Program : Type 0 where
  pub name : List ℕ
  pub params : List RegisterKind
  pub registers : ℕ
  pub result : Option Kind
  pub blocks : List Block
