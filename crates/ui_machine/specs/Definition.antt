-- A definition: what the bytes of an interface's description say, and its parts in this folder.
pub mod Names
pub mod Kinds
pub mod Values
pub mod Types
pub mod Properties
pub mod Signals
pub mod Places
pub mod Programs
pub mod Lookups
use Rattle.std.specs.Prelude.{List, Option, ℕ}
use Rattle.ui_machine.specs.Definition.Places.{Bind, Place}
use Rattle.ui_machine.specs.Definition.Programs.{Program}
use Rattle.ui_machine.specs.Definition.Properties.{Spec}
use Rattle.ui_machine.specs.Definition.Signals.{ClassHandler, Shape, Signal}
use Rattle.ui_machine.specs.Definition.Types.{GType}

-- ** signals and shapes

-- what a type has beside its entry in the tree; specs and signals inherited first
pub record Class : Type 0 where
  pub specs : List Spec
  pub signals : List Signal  -- `notify` first
  pub handlers : List ClassHandler  -- its own
  pub constructed : Option ℕ  -- its own program
  pub shape : Option ℕ

-- ** objects

pub record Definition : Type 0 where
  pub types : List GType
  pub classes : List Class  -- by type
  pub shapes : List Shape
  pub programs : List Program
  pub places : List Place
  pub bindings : List Bind  -- in document order
  pub most_objects : ℕ  -- that live at a time
  pub most_handlers : ℕ  -- that bytecode connects to one object and signal
