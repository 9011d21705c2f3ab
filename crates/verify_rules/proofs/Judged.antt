-- What the judgement is by the first fault.
use Rattle.std.proofs.Common.{◌≡◌, sym, Option, None, Some, Result, IfOk, IfSome, option_map}
use Rattle.std.proofs.lemmas.Result.{IfOk-weaker}
use Rattle.ui_machine.specs.Definition.{Definition}
use Rattle.law_typing.specs.Verdict.Judges.{Judges}
use Rattle.law_judging.specs.FirstFaults.{first_fault}
use Rattle.law_judging.proofs.FaultProofs.{first_is_told}
use Rattle.verify_rules.specs.declared.faults.RuleFault.{RuleFault}
use Rattle.verify_rules.specs.RuleFaults.{fault_view}

one_told : (d : Definition) (o : Option RuleFault) → option_map fault_view o ≡ first_fault d → IfSome o (λ fault. Judges d (Some (fault_view fault)))
one_told d None is = tt
one_told d (Some fault) is = first_is_told d (fault_view fault) (sym is)

pub told : {E : Type 0} → (d : Definition) (r : Result (Option RuleFault) E) → IfOk r (λ o. option_map fault_view o ≡ first_fault d) →
    IfOk r (λ o. IfSome o (λ fault. Judges d (Some (fault_view fault))))
told d r is =
    IfOk-weaker r (λ o. option_map fault_view o ≡ first_fault d) (λ o. IfSome o (λ fault. Judges d (Some (fault_view fault)))) (λ o h. one_told d o h) is
