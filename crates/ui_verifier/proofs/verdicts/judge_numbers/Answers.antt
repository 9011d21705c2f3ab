use Rattle.std.proofs.Common.{◌∙◌, ◌≤◌, sym, ap, subst, Some, option_map, arith}
use Rattle.ui_machine.specs.Definition.{Definition}
use Rattle.law_typing.specs.Rules.Faults.{bound_too_large}
use Rattle.law_typing.specs.Verdict.Judges.{Judges}
use Rattle.law_judging.proofs.ReckonProofs.{large_is_told}
use Rattle.law_reading.proofs.Held.{held_well}
use Rattle.verified.specs.Entries.{entry_of}
use Rattle.ui_verifier.specs.Verdicts.{IsRefusal}
use Rattle.ui_verifier.proofs.JudgeProofs.{accepted, added}
use Rattle.ui_verifier.proofs.verdicts.judge_numbers.Goals as goal

pub bound_refusal-requires : goal.bound_refusal-requires
bound_refusal-requires c =
    let d = c.args.lookups.now in
    let objects = c.limits-limits.ensures.objects ∙ ap (λ (x : Definition). x.most_objects) c.definition.ensures in
    let few : d.most_objects ≤ 4096 = omega (arith, objects, c.limits-limits.ensures.checked.most_objects) in
    let a = added d c.args.numbers c.requires.lawful c.requires.told few in
    subst (λ (x : Definition). Judges x (Some (bound_too_large (entry_of c.in-Some.entry)))) (sym c.definition-in-Some.ensures)
    (large_is_told d a.by_rank a.by_cost a.by_depth (entry_of c.in-Some.entry) a.reckoned
    (sym (c.too_large.ensures d a.by_rank a.by_cost a.by_depth a.capped c.requires.busy) ∙ ap (option_map entry_of) c.in-Some.is))

pub returns-in_ok-refusal-in-Some : goal.returns-in_ok-refusal-in-Some
returns-in_ok-refusal-in-Some c =
    subst (λ (x : Definition). IsRefusal x c.in_ok-refusal-in-Some.refusal) c.definition-in-Some.ensures c.in_ok-refusal-in-Some.ensures

pub returns-in-None : goal.returns-in-None
returns-in-None c =
    let d = c.args.lookups.now in
    let objects = c.limits-limits.ensures.objects ∙ ap (λ (x : Definition). x.most_objects) c.definition.ensures in
    let few : d.most_objects ≤ 4096 = omega (arith, objects, c.limits-limits.ensures.checked.most_objects) in
    let a = added d c.args.numbers c.requires.lawful c.requires.told few in
    accepted d c.args.numbers a.by_rank a.by_cost a.by_depth a.reckoned a.capped
    (sym (c.too_large.ensures d a.by_rank a.by_cost a.by_depth a.capped c.requires.busy) ∙ ap (option_map entry_of) c.in-None.is)
    (held_well d c.requires.read).types.inherits
