-- Calls of a screen, before and after it is closed.
use Rattle.std.specs.Prelude.{◌≡◌, ℕ, pos, false, List, [], ◌∷◌, codes, None, Some, Ok}
use Rattle.ui_machine.specs.Definition.Kinds as kinds
use Rattle.ui_machine.specs.Definition.Values as values
use Rattle.ui_machine.specs.Definition.Types.{plain_class}
use Rattle.ui_machine.specs.Definition.{Definition}
use Rattle.ui_machine.specs.Definition.Programs as words
use Rattle.ui_machine.specs.State.Tasks.{Event}
use Rattle.ui_machine.specs.State.Peers.{Peer}
use Rattle.ui_machine.specs.State.Tasks as config
use Rattle.machine_rows.specs.Play.{Scripted, shown, scripted}
use Rattle.ui_machine.specs.Words.{class_type, signal, notify, class_with, method, shape, block, program, attached, object, peer}

abbrev pub definition : Definition
definition = record {
  types =
      plain_class (codes "GObject") None []
      ∷ class_type (codes "GInitiallyUnowned") 0 false false []
      ∷ class_type (codes "Panel") 0 false false []
      ∷ [];
  classes =
      class_with [] (notify ∷ []) [] None None
      ∷ class_with [] (notify ∷ []) [] None None
      ∷ class_with [] (notify ∷ signal (codes "go") [] None 2 None ∷ signal (codes "bye") [] None 2 None ∷ []) [] None (Some 0)
      ∷ [];
  shapes =
      shape (codes "Screen") (method (codes "show") (kinds.text ∷ []) (kinds.whole kinds.uint)
      ∷ method (codes "line") ((kinds.whole kinds.uint) ∷ []) kinds.text ∷ [])
      ∷ [];
  programs =
      program (codes "p") ((kinds.some 2) ∷ []) 4 None
      (block ((kinds.some 2) ∷ kinds.unset ∷ kinds.unset
      ∷ kinds.unset ∷ []) None (words.const 1 kinds.text (values.text (Some (codes "hi"))) ∷ words.call 2 0 (codes "show") (1 ∷ [])
      ∷ words.const 3 (kinds.whole kinds.uint) (values.whole kinds.uint (pos 0)) ∷ words.call 1 0 (codes "line") (3 ∷ [])
      ∷ words.return None ∷ [])
      ∷ [])
      ∷ program (codes "q") ((kinds.some 2) ∷ []) 3 None
      (block ((kinds.some 2) ∷ kinds.unset ∷ kinds.unset ∷ []) None (words.const 1 kinds.text (values.text (Some (codes "hi")))
      ∷ words.dispose 0 ∷ words.call 2 0 (codes "show") (1 ∷ []) ∷ words.return None ∷ [])
      ∷ [])
      ∷ [];
  places =
      object (codes "o") 2 None [] ((codes "scr") ∷ []) (attached (codes "go") None 0 false false None
      ∷ attached (codes "bye") None 1 false false None ∷ [])
      ∷ [];
  bindings =
      [];
  most_objects = 64;
  most_handlers = 0;
}

abbrev pub peers : List Peer
peers =
    peer (codes "scr") (method (codes "show") (kinds.text ∷ []) (kinds.whole kinds.uint)
    ∷ method (codes "line") ((kinds.whole kinds.uint) ∷ []) kinds.text ∷ []) []
    ∷ []

abbrev pub events : List Event
events =
    config.request (config.emit 0 1 [] None)
    ∷ config.request (config.emit 0 2 [] None)
    ∷ []

abbrev pub replies : List Scripted
replies =
    scripted (Some (values.whole kinds.uint (pos 1))) (values.text (Some (codes "hi")) ∷ [])
    ∷ scripted (Some (values.text (Some (codes "hi")))) (values.text (Some (codes "hi")) ∷ [])
    ∷ []

abbrev pub lines : List (List ℕ)
lines =
    (codes "build")
    ∷ (codes "construct #1 Panel")
    ∷ (codes "end 0")
    ∷ (codes "emit #1.go()")
    ∷ (codes "run p")
    ∷ (codes "call scr.show(\"hi\") = 1")
    ∷ (codes "call scr.line(0) = \"hi\"")
    ∷ (codes "end 6")
    ∷ (codes "emit #1.bye()")
    ∷ (codes "run q")
    ∷ (codes "dispose #1")
    ∷ (codes "close scr")
    ∷ (codes "closed scr.show(\"hi\")")
    ∷ (codes "end 5")
    ∷ []

-- the machine shows these lines
abbrev pub Holds : Type 0
Holds = shown definition peers events replies ≡ Ok lines
