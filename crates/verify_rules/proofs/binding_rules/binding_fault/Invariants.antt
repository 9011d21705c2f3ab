use Rattle.std.proofs.Common.{◌≡◌, drop, slice_get}
use Rattle.law_typing.specs.Rules.BindingRules.{binding_faults, faults_from}
use Rattle.verify_rules.proofs.binding_rules.binding_fault.Given as goal

abbrev pub invariant-loop-number : goal.invariant-loop-number
invariant-loop-number l =
    slice_get (binding_faults l.lookups) 0 ≡ slice_get (faults_from l.lookups l.number (drop l.number l.lookups.bindings)) 0
