use Rattle.std.proofs.Common.{◌≡◌, subst, IfOk, option_map}
use Rattle.ui_machine.specs.Definition.{Definition}
use Rattle.law_judging.specs.FirstFaults.{first_fault}
use Rattle.verify_rules.specs.RuleFaults.{fault_view}
use Rattle.verify_rules.proofs.Judged.{told}
use Rattle.verify_rules.proofs.faults.rule_fault.Goals as goal

pub returns-clause-judged : goal.returns-clause-judged
returns-clause-judged c =
    told c.args.definition.now c.first_fault.result
    (subst (λ (d : Definition). IfOk c.first_fault.result (λ o. option_map fault_view o ≡ first_fault d)) c.in_ok-lookups.ensures c.first_fault.ensures)
