-- Two configurations that a run must not come to: a program with fewer registers than it writes, and one whose registers are not of the
-- kinds
-- of its place in the code. Neither is good.
use Rattle.std.specs.Prelude.{ℕ, pos, false, List, [], ◌∷◌, codes, Option, None, Some}
use Rattle.ui_machine.specs.Definition.Kinds as kinds
use Rattle.ui_machine.specs.Definition.Values.{Value}
use Rattle.ui_machine.specs.Definition.Values as values
use Rattle.ui_machine.specs.Definition.Types.{plain_class}
use Rattle.ui_machine.specs.Definition.{Definition}
use Rattle.ui_machine.specs.Definition.Programs as words
use Rattle.ui_machine.specs.State.Objects.{Object}
use Rattle.ui_machine.specs.State.Config.{built, Config}
use Rattle.ui_machine.specs.State.Tasks.{Running}
use Rattle.ui_machine.specs.Runs.{first_world}
use Rattle.law_typing.specs.Graph.Tables.{Tables}
use Rattle.law_typing.specs.Good.{Good}
use Rattle.ui_machine.specs.Words.{class_type, property, notify, class_with, block, program, object}

-- two classes that have nothing to do with each other, and a program that is for things of the first
abbrev pub definition : Definition
definition = record {
  types = plain_class (codes "GObject") None [] ∷ class_type (codes "One") 0 false false []
      ∷ class_type (codes "Two") 0 false false [] ∷ [];
  classes =
      class_with [] (notify ∷ []) [] None None
      ∷ class_with (property (codes "on") kinds.bool 3 (values.bool false) (pos 0) (pos 0) false ∷ []) (notify ∷ []) [] None None
      ∷ class_with (property (codes "on") kinds.bool 3 (values.bool false) (pos 0) (pos 0) false ∷ []) (notify ∷ []) [] None None
      ∷ [];
  shapes = [];
  programs =
      program (codes "p") (kinds.some 1 ∷ kinds.plain kinds.bool ∷ []) 2 None
      (block (kinds.some 1 ∷ kinds.plain kinds.bool ∷ []) None (words.set 0 (codes "on") 1 ∷ words.return None ∷ [])
      ∷ [])
      ∷ [];
  places = object (codes "a") 2 None [] [] [] ∷ [];
  bindings = [];
  most_objects = 1;
  most_handlers = 0;
}

-- an object of the second
abbrev pub two : Object
two = record {
  class = 2;
  place = 0;
  values = values.bool false ∷ [];
  freezes = 0;
  queue = [];
  children = [];
  parent = None;
  disposed = false;
  peer = None;
}

-- the program is at its first instruction, with these registers
abbrev pub running : List (Option Value) → Config
running registers = record {
  world = record (first_world definition []) { objects = Some two ∷ []; builder = built 1 ∷ [] };
  agenda = Running (record { program = 0; block = 0; at = 0; passes = 1; into = None; registers = registers }) ∷ [];
  counted = 0;
}

-- whatever the costs, the depths, the bound and the frames are
abbrev pub IsNeverGood : Config → Type 0
IsNeverGood c = (costs depths : Tables) (most_counted most : ℕ) → Good definition costs depths most_counted most c → ⊥

pub record NotGood : Type 0 where
  -- it has too few registers
  pub short : IsNeverGood (running [])
  -- its first register holds an object of the second class
  pub astray : IsNeverGood (running (Some (values.object (Some 1)) ∷ Some (values.bool false) ∷ []))
