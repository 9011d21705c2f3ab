-- What the faults of the code are in the words of the rules.
use Rattle.law_typing.specs.Rules.Faults.{Fault, binding_rule, handler_signature, second_pair, unbalanced}
use Rattle.law_typing.specs.Rules.Faults as faults
use Rattle.verify_rules.specs.declared.binding_rules.BindingRule.{BindingRule}
use Rattle.verify_rules.specs.declared.binding_rules.BindingRule.TheVariants as rules
use Rattle.verify_rules.specs.declared.binding_rules.BrokenBinding.{BrokenBinding}
use Rattle.verify_rules.specs.declared.brackets.Unbalanced.{Unbalanced}
use Rattle.verify_rules.specs.declared.handlers.Handling.{Handling}
use Rattle.verify_rules.specs.declared.handlers.Handling.TheVariants as handlings
use Rattle.verify_rules.specs.declared.pairs.SecondPair.{SecondPair}

abbrev pub handling_view : Handling → faults.Handling
handling_view (handlings.ClassHandler class number) = faults.class_handler class number
handling_view (handlings.Constructed class) = faults.constructed class
handling_view (handlings.Attached place number) = faults.attached place.0 number

abbrev pub handling_fault : Handling → Fault
handling_fault h = handler_signature (handling_view h)

abbrev pub word_view : BindingRule → faults.BindingWord
word_view rules.Same = faults.same
word_view rules.Readable = faults.readable
word_view rules.Writable = faults.writable
word_view rules.ConstructOnly = faults.construct_only
word_view rules.Kinds = faults.kinds
word_view rules.Invert = faults.invert

abbrev pub broken_fault : BrokenBinding → Fault
broken_fault b = binding_rule b.binding (word_view b.rule)

abbrev pub second_fault : SecondPair → Fault
second_fault s = second_pair s.binding

abbrev pub unbalanced_view : Unbalanced → Fault
unbalanced_view u = unbalanced u.program u.block.0
