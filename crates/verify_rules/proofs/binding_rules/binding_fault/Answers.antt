use Rattle.std.proofs.Common.{◌≡◌, ◌∙◌, refl, Some, sym, ap, ◌+◌, drop, option_map, slice_get}
use Rattle.ui_machine.specs.Definition.{Definition}
use Rattle.definition_format.specs.Meaning.{bind_view}
use Rattle.law_typing.specs.Rules.BindingRules.{binding_faults, fault_of, faults_from, word_of}
use Rattle.verify_rules.specs.Faults.{broken_fault, word_view}
use Rattle.verify_rules.proofs.FirstFaults.{stops, goes_on, from_got}
use Rattle.verify_rules.proofs.binding_rules.binding_fault.Goals as goal

pub returns-in-Some : goal.returns-in-Some
returns-in-Some c =
    let d = c.args.lookups.now in
    let n = c.loop-number.number in
    let b = bind_view c.in_ok-binding.binding.now in
    let got : Some b ≡ slice_get d.bindings n = c.in_ok-binding.ensures ∙ ap (λ (e : Definition). slice_get e.bindings n) c.definition-definition.ensures in
    sym (stops (λ m x. fault_of m (word_of d x)) (faults_from d) (λ m x xs. refl) n b (drop n d.bindings) (drop (n + 1) d.bindings)
    (broken_fault (record { binding = n; rule = c.in-Some.rule })) (slice_get (binding_faults d) 0) c.loop-number.invariant (from_got d.bindings n b got)
    (ap (λ w. slice_get (fault_of n w) 0) (sym c.rule_of.ensures ∙ ap (option_map word_view) c.in-Some.is)))

pub loop-number-preserved : goal.loop-number-preserved
loop-number-preserved c =
    let d = c.args.lookups.now in
    let n = c.loop-number.number in
    let b = bind_view c.in_ok-binding.binding.now in
    let got : Some b ≡ slice_get d.bindings n = c.in_ok-binding.ensures ∙ ap (λ (e : Definition). slice_get e.bindings n) c.definition-definition.ensures in
    goes_on (λ m x. fault_of m (word_of d x)) (faults_from d) (λ m x xs. refl) n b (drop n d.bindings) (drop (n + 1) d.bindings)
    (slice_get (binding_faults d) 0) c.loop-number.invariant (from_got d.bindings n b got)
    (ap (λ w. slice_get (fault_of n w) 0) (sym c.rule_of.ensures ∙ ap (option_map word_view) c.in_default.is))
