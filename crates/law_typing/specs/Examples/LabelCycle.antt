-- Two labels that set each other.
use Rattle.std.specs.Prelude.{◌≡◌, pos, true, false, [], ◌∷◌, codes, None, Some}
use Rattle.ui_machine.specs.Definition.Kinds as kinds
use Rattle.ui_machine.specs.Definition.Values as values
use Rattle.ui_machine.specs.Definition.Types.{plain_class}
use Rattle.ui_machine.specs.Definition.{Definition}
use Rattle.ui_machine.specs.Definition.Programs as words
use Rattle.law_typing.specs.Graph.Channels as channels
use Rattle.law_typing.specs.Verdict.{verdict, has_cycle}
use Rattle.law_typing.specs.Graph.{graph}
use Rattle.law_typing.specs.Graph.Ranks.{is_cycle}
use Rattle.ui_machine.specs.Words.{class_type, property, notify, class_with, block, program, attached, object}

abbrev pub definition : Definition
definition = record {
  types =
      plain_class (codes "GObject") None []
      ∷ class_type (codes "GInitiallyUnowned") 0 false false []
      ∷ class_type (codes "Label") 0 false false []
      ∷ [];
  classes =
      class_with [] (notify ∷ []) [] None None
      ∷ class_with [] (notify ∷ []) [] None None
      ∷ class_with (property (codes "text") kinds.text 3 (values.text None) (pos 0) (pos 0) false ∷ []) (notify ∷ []) [] None None
      ∷ [];
  shapes =
      [];
  programs =
      program (codes "up") ((kinds.at 0) ∷ []) 3 None
      (block ((kinds.at 0) ∷ kinds.unset ∷ kinds.unset ∷ []) None (words.object 1 (codes "l2") ∷ words.branch_null 1 1 2 ∷ [])
      ∷ block (kinds.unset ∷ kinds.unset ∷ kinds.unset ∷ []) None (words.return None ∷ [])
      ∷ block ((kinds.at 0) ∷ (kinds.at 1) ∷ kinds.unset ∷ []) None (words.get 2 0 (codes "text") ∷ words.set 1 (codes "text") 2
      ∷ words.return None ∷ [])
      ∷ [])
      ∷ program (codes "down") ((kinds.at 1) ∷ []) 3 None
      (block ((kinds.at 1) ∷ kinds.unset ∷ kinds.unset ∷ []) None (words.object 1 (codes "l1") ∷ words.branch_null 1 1 2 ∷ [])
      ∷ block (kinds.unset ∷ kinds.unset ∷ kinds.unset ∷ []) None (words.return None ∷ [])
      ∷ block ((kinds.at 1) ∷ (kinds.at 0) ∷ kinds.unset ∷ []) None (words.get 2 0 (codes "text") ∷ words.set 1 (codes "text") 2
      ∷ words.return None ∷ [])
      ∷ [])
      ∷ [];
  places =
      object (codes "l1") 2 None [] [] (attached (codes "notify") (Some (codes "text")) 0 false false None ∷ [])
      ∷ object (codes "l2") 2 None [] [] (attached (codes "notify") (Some (codes "text")) 1 false false None ∷ [])
      ∷ [];
  bindings =
      [];
  most_objects = 2;
  most_handlers = 0;
}

-- the definition is refused for a cycle, and this is one
abbrev pub Holds : Type 0
Holds = (verdict definition ≡ has_cycle) × (is_cycle (graph definition)
    (record { from = (channels.property 0 0); by = (channels.program 0) }
    ∷ record { from = (channels.property 1 0); by = (channels.program 1) } ∷ []) ≡ true)
