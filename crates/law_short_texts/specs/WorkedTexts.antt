-- What the laws of short texts ask is met: by a definition with texts in each of their places, and events that bring some.
use Rattle.std.specs.Prelude.{pos, false, List, [], ◌∷◌, codes, None, Some}
use Rattle.ui_machine.specs.Definition.{Definition}
use Rattle.ui_machine.specs.Definition.Kinds as kinds
use Rattle.ui_machine.specs.Definition.Places.{value}
use Rattle.ui_machine.specs.Definition.Programs as words
use Rattle.ui_machine.specs.Definition.Types.{plain_class}
use Rattle.ui_machine.specs.Definition.Values as values
use Rattle.ui_machine.specs.State.Tasks.{Event, emit, get, request, set, turn}
use Rattle.ui_machine.specs.Words.{attached, block, class_type, class_with, gives, notify, object, program, property, signal}
use Rattle.law_typing.specs.Verdict.Accepted.{Each}
use Rattle.law_short_texts.specs.ShortValues.{HasShortTexts, IsShortEvent}

-- a label whose text is `none` unless one is given; where it is told one, it shows it with a mark
abbrev pub definition : Definition
definition = record {
  types =
      plain_class (codes "GObject") None []
      ∷ class_type (codes "GInitiallyUnowned") 0 false false []
      ∷ class_type (codes "Label") 0 false false []
      ∷ [];
  classes =
      class_with [] (notify ∷ []) [] None None
      ∷ class_with [] (notify ∷ []) [] None None
      ∷ class_with (property (codes "text") kinds.text 3 (values.text (Some (codes "none"))) (pos 0) (pos 0) false ∷ [])
      (notify ∷ signal (codes "tell") (kinds.text ∷ []) None 2 None ∷ []) [] None None
      ∷ [];
  shapes =
      [];
  programs =
      program (codes "show") ((kinds.at 0) ∷ (kinds.plain kinds.text) ∷ []) 3 None
      (block ((kinds.at 0) ∷ (kinds.plain kinds.text) ∷ kinds.unset ∷ []) None
      (words.const 2 kinds.text (values.text (Some (codes "> ")))
      ∷ words.join 2 2 1
      ∷ words.set 0 (codes "text") 2
      ∷ words.return None
      ∷ [])
      ∷ [])
      ∷ [];
  places =
      object (codes "l1") 2 None (gives 0 (value (values.text (Some (codes "hello")))) ∷ []) []
      (attached (codes "tell") None 0 false false None ∷ [])
      ∷ [];
  bindings =
      [];
  most_objects = 1;
  most_handlers = 0;
}

abbrev pub events : List Event
events =
    request (set 0 0 (value (values.text (Some (codes "good morning")))))
    ∷ request (emit 0 1 (value (values.text (Some (codes "good night"))) ∷ []) None)
    ∷ request (get 0 0)
    ∷ turn 5
    ∷ []

pub record TextsMet : Type 0 where
  pub texts : HasShortTexts definition
  pub events : Each IsShortEvent events
