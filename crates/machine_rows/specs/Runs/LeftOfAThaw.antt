-- An object that is made and then not kept: its construction's thaw notifies, the last one first, and then the object goes. While
-- notifications of the thaw are left the construction holds the object too, so that the run does not show whether they do.
use Rattle.std.specs.Prelude.{◌≡◌, ℕ, pos, negsuc, false, List, [], ◌∷◌, codes, None, Ok}
use Rattle.ui_machine.specs.Definition.Kinds as kinds
use Rattle.ui_machine.specs.Definition.Values as values
use Rattle.ui_machine.specs.Definition.Types.{plain_class}
use Rattle.ui_machine.specs.Definition.{Definition}
use Rattle.ui_machine.specs.Definition.Programs as words
use Rattle.ui_machine.specs.State.Tasks.{Event}
use Rattle.ui_machine.specs.State.Peers.{Peer}
use Rattle.ui_machine.specs.State.Tasks as config
use Rattle.machine_rows.specs.Play.{Scripted, shown}
use Rattle.ui_machine.specs.Words.{class_type, property, signal, notify, class_handler, class_with, block, program, attached, object, prototype}

abbrev pub definition : Definition
definition = record {
  types =
      plain_class (codes "GObject") None []
      ∷ class_type (codes "GInitiallyUnowned") 0 false false []
      ∷ class_type (codes "Box") 0 false false []
      ∷ class_type (codes "Item") 0 false false []
      ∷ [];
  classes =
      class_with [] (notify ∷ []) [] None None
      ∷ class_with [] (notify ∷ []) [] None None
      ∷ class_with (property (codes "cur") (kinds.object 3) 3 (values.object None) (pos 0) (pos 0) false ∷ []) (notify
      ∷ signal (codes "go") [] None 2 None ∷ []) [] None None
      ∷ class_with (property (codes "x") (kinds.whole kinds.int) 7 (values.whole kinds.int (pos 0)) (negsuc 2147483647)
      (pos 2147483647) false
      ∷ property (codes "y") (kinds.whole kinds.int) 7 (values.whole kinds.int (pos 0)) (negsuc 2147483647)
      (pos 2147483647) false ∷ []) (notify ∷ []) (class_handler (codes "notify") 0 ∷ []) None None
      ∷ [];
  shapes =
      [];
  programs =
      program (codes "say") ((kinds.some 3) ∷ []) 1 None
      (block ((kinds.some 3) ∷ []) None (words.return None ∷ [])
      ∷ [])
      ∷ program (codes "f") ((kinds.some 2) ∷ []) 2 None
      (block ((kinds.some 2) ∷ kinds.unset ∷ []) None (words.new 1 (codes "it") ∷ words.return None ∷ [])
      ∷ [])
      ∷ [];
  places =
      object (codes "b") 2 None [] [] (attached (codes "go") None 1 false false None ∷ [])
      ∷ prototype (codes "it") 3 [] []
      ∷ [];
  bindings =
      [];
  most_objects = 64;
  most_handlers = 0;
}

abbrev pub peers : List Peer
peers =
    []

abbrev pub events : List Event
events =
    config.request (config.emit 0 1 [] None)
    ∷ []

abbrev pub replies : List Scripted
replies =
    []

abbrev pub lines : List (List ℕ)
lines =
    (codes "build")
    ∷ (codes "construct #1 Box")
    ∷ (codes "end 0")
    ∷ (codes "emit #1.go()")
    ∷ (codes "run f")
    ∷ (codes "construct #2 Item")
    ∷ (codes "set #2.x 0")
    ∷ (codes "set #2.y 0")
    ∷ (codes "notify #2.y")
    ∷ (codes "run say")
    ∷ (codes "notify #2.x")
    ∷ (codes "run say")
    ∷ (codes "dispose #2")
    ∷ (codes "final #2")
    ∷ (codes "end 8")
    ∷ []

-- the machine shows these lines
abbrev pub Holds : Type 0
Holds = shown definition peers events replies ≡ Ok lines
