-- The line of each refusal, of worked definitions; and that a verifier has one answer only, apart from which cycle it reports.
use Rattle.std.specs.Prelude.{◌≡◌, ◌⊎◌, ℕ, List, [], ◌∷◌, codes, Option}
use Rattle.ui_machine.specs.Definition.{Definition}
use Rattle.law_typing.specs.Rules.Answers as rules
use Rattle.law_typing.specs.Rules.Faults.{Fault}
use Rattle.law_typing.specs.Rules.Faults as faults
use Rattle.law_typing.specs.Graph.Channels.{Link}
use Rattle.law_typing.specs.Graph.Channels as channels
use Rattle.law_typing.specs.Graph.{graph}
use Rattle.law_typing.specs.Verdict.{verdict, has_cycle}
use Rattle.law_typing.specs.Verdict.FaultText.{refused_line}
use Rattle.law_typing.specs.Verdict.Judges.{IsToldCycle, Judges}
use Rattle.law_typing.specs.Examples.SetConstructOnly as set_construct_only
use Rattle.law_typing.specs.Examples.UnfitPass as unfit_pass
use Rattle.law_typing.specs.Examples.UnfitHandler as unfit_handler
use Rattle.law_typing.specs.Examples.UnfitChild as unfit_child
use Rattle.law_typing.specs.Examples.UnfitClassHandler as unfit_class_handler
use Rattle.law_typing.specs.Examples.UnfitBinding as unfit_binding
use Rattle.law_typing.specs.Examples.SecondPair as second_pair
use Rattle.law_typing.specs.Examples.OpenFreeze as open_freeze
use Rattle.law_typing.specs.Examples.LabelCycle as label_cycle
use Rattle.law_typing.specs.Examples.TooLarge as too_large

-- the nodes of the cycle of two labels
abbrev pub two_labels : List Link
two_labels = record { from = channels.property 0 0; by = channels.program 0 } ∷ record { from = channels.property 1 0; by = channels.program 1 } ∷ []

pub record FaultTexts : Type 0 where
  pub set_construct_only :
      refused_line set_construct_only.definition (faults.ill_typed 0 0 1 rules.construct_only) ≡ codes "refused: IllTyped p 0 1 construct-only"
  pub unfit_pass : refused_line unfit_pass.definition (faults.ill_typed 0 1 3 rules.block) ≡ codes "refused: IllTyped f 1 3 block"
  pub unfit_handler :
      refused_line unfit_handler.definition (faults.handler_signature (faults.attached 0 0)) ≡ codes "refused: HandlerSignature /objects/0/signals/0"
  pub unfit_child :
      refused_line unfit_child.definition (faults.handler_signature (faults.attached 4 0))
      ≡ codes "refused: HandlerSignature /objects/1/children/1/children/0/signals/0"
  pub unfit_class_handler :
      refused_line unfit_class_handler.definition (faults.handler_signature (faults.class_handler 4 0))
      ≡ codes "refused: HandlerSignature /classes/1/class-handlers/0"
  pub unfit_binding :
      refused_line unfit_binding.definition (faults.binding_rule 0 faults.invert)
      ≡ codes "refused: BindingRule /objects/1/properties/0/bind invert"
  pub second_pair : refused_line second_pair.definition (faults.second_pair 1) ≡ codes "refused: SecondPair /objects/2/properties/0/bind"
  pub open_freeze : refused_line open_freeze.definition (faults.unbalanced 0 0) ≡ codes "refused: Unbalanced f 0"
  pub cycle :
      refused_line label_cycle.definition (faults.cycle two_labels)
      ≡ codes "refused: Cycle property l1.text by up, property l2.text by down"
  pub told : IsToldCycle (graph label_cycle.definition) two_labels
  pub too_large :
      refused_line too_large.definition (faults.bound_too_large (channels.at (channels.property 0 0)))
      ≡ codes "refused: BoundTooLarge property b.p0"

-- two answers of a verifier are the same, unless both report a cycle
abbrev pub JudgesOnce : Type 0
JudgesOnce = (d : Definition) (a b : Option Fault) → Judges d a → Judges d b → (a ≡ b) ⊎ (verdict d ≡ has_cycle)

-- and there is one
abbrev pub JudgesIsThere : Type 0
JudgesIsThere = (d : Definition) → (answer : Option Fault) × Judges d answer
