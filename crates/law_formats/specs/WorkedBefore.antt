-- A worked definition that was accepted in the first format: a program that sets a property of a frozen object, a binding that leads on, a
-- pair elsewhere, and a prototype.
use Rattle.std.specs.Prelude.{◌≡◌, ℕ, pos, List, [], ◌∷◌, codes, None}
use Rattle.ui_machine.specs.Definition.Kinds as kinds
use Rattle.ui_machine.specs.Definition.Values as values
use Rattle.ui_machine.specs.Definition.{Definition}
use Rattle.ui_machine.specs.Definition.Programs as words
use Rattle.ui_machine.specs.Words.{block, program}
use Rattle.law_typing.specs.Verdict.{verdict, accepted}
use Rattle.law_typing.specs.Examples.AllParts as parts
use Rattle.law_formats.specs.FirstFormat as first

-- `copy` is as it was; `make` makes a knob, and sets one twice that it has frozen
abbrev pub definition : Definition
definition = record parts.definition {
  programs =
      program (codes "copy") ((kinds.at 0) ∷ []) 3 None
      (block ((kinds.at 0) ∷ kinds.unset ∷ kinds.unset ∷ []) None (words.object 1 (codes "b") ∷ words.branch_null 1 1 2 ∷ [])
      ∷ block (kinds.unset ∷ kinds.unset ∷ kinds.unset ∷ []) None (words.return None ∷ [])
      ∷ block ((kinds.at 0) ∷ (kinds.at 1) ∷ kinds.unset ∷ []) None (words.get 2 0 (codes "value") ∷ words.set 1 (codes "value") 2
      ∷ words.return None ∷ [])
      ∷ [])
      ∷ program (codes "make") ((kinds.at 0) ∷ []) 3 None
      (block ((kinds.at 0) ∷ kinds.unset ∷ kinds.unset ∷ []) None (words.new 1 (codes "spare") ∷ words.object 1 (codes "c") ∷ words.branch_null 1 1 2 ∷ [])
      ∷ block (kinds.unset ∷ kinds.unset ∷ kinds.unset ∷ []) None (words.return None ∷ [])
      ∷ block ((kinds.at 0) ∷ (kinds.at 2) ∷ kinds.unset ∷ []) None (words.const 2 (kinds.whole kinds.int) (values.whole kinds.int (pos 1))
      ∷ words.freeze 1 ∷ words.set 1 (codes "value") 2 ∷ words.set 1 (codes "value") 2 ∷ words.thaw 1 ∷ words.return None ∷ [])
      ∷ [])
      ∷ [];
}

abbrev pub lines : List (List ℕ)
lines =
    (codes "depth 4")
    ∷ (codes "build bound 8")
    ∷ (codes "property a.value rank 0 bound 13")
    ∷ (codes "property a.on rank 0 bound 7")
    ∷ (codes "signal a.turned rank 0 bound 18")
    ∷ (codes "property b.value rank 1 bound 7")
    ∷ (codes "property b.on rank 0 bound 7")
    ∷ (codes "signal b.turned rank 0 bound 5")
    ∷ (codes "property c.value rank 2 bound 5")
    ∷ (codes "property c.on rank 0 bound 5")
    ∷ (codes "signal c.turned rank 0 bound 5")
    ∷ (codes "property spare.value rank 1 bound 5")
    ∷ (codes "property spare.on rank 0 bound 5")
    ∷ (codes "signal spare.turned rank 0 bound 5")
    ∷ []

-- it was accepted, and is, with this report
pub record PremiseMet : Type 0 where
  pub before : first.Accepted definition
  pub now : verdict definition ≡ accepted lines
