-- The labels under other names.
use Rattle.std.specs.Prelude.{◌≡◌, ℕ, pos, false, List, [], ◌∷◌, codes, None, Some}
use Rattle.ui_machine.specs.Definition.Kinds as kinds
use Rattle.ui_machine.specs.Definition.Values as values
use Rattle.ui_machine.specs.Definition.Types.{plain_class}
use Rattle.ui_machine.specs.Definition.{Definition}
use Rattle.ui_machine.specs.Definition.Programs as words
use Rattle.law_typing.specs.Verdict.{verdict, accepted}
use Rattle.ui_machine.specs.Words.{class_type, property, notify, class_with, block, program, attached, object}

abbrev pub definition : Definition
definition = record {
  types =
      plain_class (codes "GObject") None []
      ∷ class_type (codes "GInitiallyUnowned") 0 false false []
      ∷ class_type (codes "Sticker") 0 false false []
      ∷ [];
  classes =
      class_with [] (notify ∷ []) [] None None
      ∷ class_with [] (notify ∷ []) [] None None
      ∷ class_with (property (codes "title") kinds.text 3 (values.text None) (pos 0) (pos 0) false ∷ []) (notify ∷ []) [] None None
      ∷ [];
  shapes =
      [];
  programs =
      program (codes "copy-over") ((kinds.at 0) ∷ []) 3 None
      (block ((kinds.at 0) ∷ kinds.unset ∷ kinds.unset ∷ []) None (words.object 1 (codes "right") ∷ words.branch_null 1 1 2 ∷ [])
      ∷ block (kinds.unset ∷ kinds.unset ∷ kinds.unset ∷ []) None (words.return None ∷ [])
      ∷ block ((kinds.at 0) ∷ (kinds.at 1) ∷ kinds.unset ∷ []) None (words.get 2 0 (codes "title") ∷ words.set 1 (codes "title") 2
      ∷ words.return None ∷ [])
      ∷ [])
      ∷ [];
  places =
      object (codes "left") 2 None [] [] (attached (codes "notify") (Some (codes "title")) 0 false false None ∷ [])
      ∷ object (codes "right") 2 None [] [] []
      ∷ [];
  bindings =
      [];
  most_objects = 2;
  most_handlers = 0;
}

abbrev pub lines : List (List ℕ)
lines =
    (codes "depth 3")
    ∷ (codes "build bound 2")
    ∷ (codes "property left.title rank 0 bound 9")
    ∷ (codes "property right.title rank 1 bound 3")
    ∷ []

-- the definition is accepted, with this report
abbrev pub Holds : Type 0
Holds = verdict definition ≡ accepted lines
