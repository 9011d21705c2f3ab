-- A child that its parent holds.
use Rattle.std.specs.Prelude.{◌≡◌, ℕ, false, List, [], ◌∷◌, codes, None, Some, Ok}
use Rattle.ui_machine.specs.Definition.Types.{plain_class}
use Rattle.ui_machine.specs.Definition.{Definition}
use Rattle.ui_machine.specs.State.Tasks.{Event}
use Rattle.ui_machine.specs.State.Peers.{Peer}
use Rattle.ui_machine.specs.State.Tasks as config
use Rattle.machine_rows.specs.Play.{Scripted, shown}
use Rattle.ui_machine.specs.Words.{class_type, notify, class_with, object}

abbrev pub definition : Definition
definition = record {
  types =
      plain_class (codes "GObject") None []
      ∷ class_type (codes "GInitiallyUnowned") 0 false false []
      ∷ [];
  classes =
      class_with [] (notify ∷ []) [] None None
      ∷ class_with [] (notify ∷ []) [] None None
      ∷ [];
  shapes =
      [];
  programs =
      [];
  places =
      object (codes "p") 0 None [] [] []
      ∷ object (codes "k") 1 (Some 0) [] [] []
      ∷ [];
  bindings =
      [];
  most_objects = 64;
  most_handlers = 0;
}

abbrev pub peers : List Peer
peers =
    []

abbrev pub events : List Event
events =
    config.request (config.release 1)
    ∷ config.request (config.release 0)
    ∷ []

abbrev pub replies : List Scripted
replies =
    []

abbrev pub lines : List (List ℕ)
lines =
    (codes "build")
    ∷ (codes "construct #1 GObject")
    ∷ (codes "construct #2 GInitiallyUnowned")
    ∷ (codes "adopt #1 #2")
    ∷ (codes "end 0")
    ∷ (codes "release k")
    ∷ (codes "end 0")
    ∷ (codes "release p")
    ∷ (codes "dispose #1")
    ∷ (codes "final #1")
    ∷ (codes "dispose #2")
    ∷ (codes "final #2")
    ∷ (codes "end 2")
    ∷ []

-- the machine shows these lines
abbrev pub Holds : Type 0
Holds = shown definition peers events replies ≡ Ok lines
