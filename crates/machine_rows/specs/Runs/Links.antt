-- A strong and a weak reference.
use Rattle.std.specs.Prelude.{◌≡◌, ℕ, pos, true, false, List, [], ◌∷◌, codes, None, Ok}
use Rattle.ui_machine.specs.Definition.Kinds as kinds
use Rattle.ui_machine.specs.Definition.Values as values
use Rattle.ui_machine.specs.Definition.Types.{plain_class}
use Rattle.ui_machine.specs.Definition.{Definition}
use Rattle.ui_machine.specs.Definition.Places.{value, named}
use Rattle.ui_machine.specs.State.Tasks.{Event}
use Rattle.ui_machine.specs.State.Peers.{Peer}
use Rattle.ui_machine.specs.State.Tasks as config
use Rattle.machine_rows.specs.Play.{Scripted, shown}
use Rattle.ui_machine.specs.Words.{class_type, property, notify, class_with, gives, object}

abbrev pub definition : Definition
definition = record {
  types =
      plain_class (codes "GObject") None []
      ∷ class_type (codes "GInitiallyUnowned") 0 false false []
      ∷ class_type (codes "Link") 0 false false []
      ∷ [];
  classes =
      class_with [] (notify ∷ []) [] None None
      ∷ class_with [] (notify ∷ []) [] None None
      ∷ class_with (property (codes "to") (kinds.object 2) 3 (values.object None) (pos 0) (pos 0) false
      ∷ property (codes "w") (kinds.object 2) 3 (values.object None) (pos 0) (pos 0) true ∷ []) (notify ∷ []) [] None None
      ∷ [];
  shapes =
      [];
  programs =
      [];
  places =
      object (codes "a") 2 None (gives 0 (named 1) ∷ gives 1 (named 1) ∷ []) [] []
      ∷ object (codes "z") 2 None [] [] []
      ∷ [];
  bindings =
      [];
  most_objects = 64;
  most_handlers = 0;
}

abbrev pub peers : List Peer
peers =
    []

abbrev pub events : List Event
events =
    config.request (config.release 1)
    ∷ config.request (config.set 0 0 (value (values.object None)))
    ∷ config.request (config.get 0 1)
    ∷ []

abbrev pub replies : List Scripted
replies =
    []

abbrev pub lines : List (List ℕ)
lines =
    (codes "build")
    ∷ (codes "construct #1 Link")
    ∷ (codes "construct #2 Link")
    ∷ (codes "set #1.to #2")
    ∷ (codes "notify #1.to")
    ∷ (codes "set #1.w #2")
    ∷ (codes "notify #1.w")
    ∷ (codes "end 2")
    ∷ (codes "release z")
    ∷ (codes "end 0")
    ∷ (codes "set #1.to null")
    ∷ (codes "dispose #2")
    ∷ (codes "final #2")
    ∷ (codes "notify #1.to")
    ∷ (codes "end 2")
    ∷ (codes "get #1.w null")
    ∷ (codes "end 0")
    ∷ []

-- the machine shows these lines
abbrev pub Holds : Type 0
Holds = shown definition peers events replies ≡ Ok lines
