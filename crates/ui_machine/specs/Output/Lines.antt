-- The lines of a transcript, as data. They are this runtime's own.
use Rattle.std.specs.Prelude.{ℕ, List, Option}
use Rattle.ui_machine.specs.Definition.Values.{Value}

-- Objects go by identity; properties, signals, classes, programs, peers, methods and ids by name.
pub data Line : Type 0 where
  build : Line
  construct : (object : ℕ) (class : List ℕ) → Line
  set : (object : ℕ) (property : List ℕ) (value : Value) → Line
  refused : (object : ℕ) (property : List ℕ) (value : Value) → Line
  notify : (object : ℕ) (property : List ℕ) → Line
  emit : (object : ℕ) (signal : List ℕ) (detail : Option (List ℕ)) (args : List Value) → Line
  run : (program : List ℕ) → Line
  call : (peer method : List ℕ) (args : List Value) (answer : Value) → Line
  fault : (peer method : List ℕ) (args : List Value) → Line
  closed : (peer method : List ℕ) (args : List Value) → Line
  limit : (word : List ℕ) → Line
  adopt : (parent child : ℕ) → Line
  orphan : (child : ℕ) → Line
  dispose : (object : ℕ) → Line
  close : (peer : List ℕ) → Line
  final : (object : ℕ) → Line
  get : (object : ℕ) (property : List ℕ) (value : Value) → Line
  release : (id : List ℕ) → Line
  turn : (moment : ℕ) → Line
  result : (value : Value) → Line
  end : (steps : ℕ) → Line
