-- Faults of the code in the words of the rules.
use Rattle.std.specs.Prelude.{Option}
use Rattle.ui_machine.specs.Definition.{Definition}
use Rattle.law_typing.specs.Rules.Faults.{Fault}
use Rattle.law_typing.specs.Rules.BindingRules.{binding_faults, pair_faults}
use Rattle.law_typing.specs.Rules.Brackets.{bracket_faults}
use Rattle.law_judging.specs.FirstFaults.{first_of, or_else}
use Rattle.verify_instructions.specs.Faults as typing
use Rattle.verify_rules.specs.Faults.{broken_fault, handling_fault, second_fault, unbalanced_view}
use Rattle.verify_rules.specs.declared.faults.RuleFault.{RuleFault}
use Rattle.verify_rules.specs.declared.faults.RuleFault.TheVariants as of_fault

abbrev pub fault_view : RuleFault → Fault
fault_view (of_fault.IllTyped f) = typing.fault_view f
fault_view (of_fault.HandlerSignature h) = handling_fault h
fault_view (of_fault.BindingRule b) = broken_fault b
fault_view (of_fault.SecondPair s) = second_fault s
fault_view (of_fault.Unbalanced u) = unbalanced_view u

-- the first fault of bindings, pairs, and freezes and thaws
abbrev pub later_fault : Definition → Option Fault
later_fault d = or_else (first_of (binding_faults d)) (or_else (first_of (pair_faults d)) (first_of (bracket_faults d)))
