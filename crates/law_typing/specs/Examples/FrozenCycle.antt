-- A handler of a paired property whose thaw may notify it again.
use Rattle.std.specs.Prelude.{◌≡◌, pos, true, false, [], ◌∷◌, codes, None, Some}
use Rattle.ui_machine.specs.Definition.Types.{plain_class}
use Rattle.ui_machine.specs.Definition.{Definition}
use Rattle.ui_machine.specs.Words.{class_type, property, notify, class_with, block, program, attached, object, bind}
use Rattle.law_typing.specs.Verdict.{verdict, refused, has_cycle}
use Rattle.law_typing.specs.Graph.{graph}
use Rattle.law_typing.specs.Graph.Ranks.{is_cycle}
use Rattle.ui_machine.specs.Definition.Kinds as kinds
use Rattle.ui_machine.specs.Definition.Values as values
use Rattle.ui_machine.specs.Definition.Programs as words
use Rattle.law_typing.specs.Graph.Channels as channels

abbrev pub definition : Definition
definition = record {
  types =
      plain_class (codes "GObject") None []
      ∷ class_type (codes "GInitiallyUnowned") 0 false false []
      ∷ class_type (codes "Switch") 0 false false []
      ∷ [];
  classes =
      class_with [] (notify ∷ []) [] None None
      ∷ class_with [] (notify ∷ []) [] None None
      ∷ class_with (property (codes "on") kinds.bool 3 (values.bool false) (pos 0) (pos 0) false ∷ []) (notify ∷ []) [] None None
      ∷ [];
  shapes =
      [];
  programs =
      program (codes "f") ((kinds.some 2) ∷ []) 1 None
      (block ((kinds.some 2) ∷ []) None (words.freeze 0 ∷ words.thaw 0 ∷ words.return None ∷ [])
      ∷ [])
      ∷ [];
  places =
      object (codes "a") 2 None [] [] (attached (codes "notify") (Some (codes "on")) 0 false false None ∷ [])
      ∷ object (codes "b") 2 None [] [] []
      ∷ [];
  bindings =
      bind None 0 0 1 0 7 0
      ∷ [];
  most_objects = 64;
  most_handlers = 0;
}

-- the definition is refused for a cycle, and this is one
abbrev pub Holds : Type 0
Holds = (verdict definition ≡ has_cycle) × (is_cycle (graph definition) (record { from = (channels.property 0 0); by = (channels.program 0) } ∷ []) ≡ true)
