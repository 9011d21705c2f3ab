use Rattle.std.proofs.Common.{◌∙◌, refl, sym, ap, ◌+◌, drop, option_map, slice_get}
use Rattle.bytecode.specs.View.{program_view}
use Rattle.law_typing.specs.Rules.Brackets.{balance_faults, bracket_faults, unbalanced_from}
use Rattle.verify_rules.specs.Faults.{unbalanced_view}
use Rattle.verify_rules.proofs.FirstFaults.{stops, goes_on, from_got, none_got}
use Rattle.verify_rules.proofs.brackets.bracket_fault.Goals as goal

pub returns-in_default : goal.returns-in_default
returns-in_default c =
    let d = c.args.lookups.now in
    let n = c.loop-number.number in
    sym (c.loop-number.invariant ∙ ap (λ programs. slice_get (unbalanced_from n programs) 0) (none_got d.programs n c.in_default.ensures))

pub returns-in-Some-2 : goal.returns-in-Some-2
returns-in-Some-2 c =
    let d = c.args.lookups.now in
    let n = c.loop-number.number in
    let p = program_view c.in-Some.program.now in
    sym (stops (λ m p. balance_faults m 0 p.blocks) unbalanced_from (λ m x xs. refl) n p (drop n d.programs) (drop (n + 1) d.programs)
    (unbalanced_view c.in-Some-2.fault) (slice_get (bracket_faults d) 0) c.loop-number.invariant (from_got d.programs n p c.in-Some.ensures)
    (sym c.in_ok-fault.ensures ∙ ap (option_map unbalanced_view) c.in-Some-2.is))

pub loop-number-preserved : goal.loop-number-preserved
loop-number-preserved c =
    let d = c.args.lookups.now in
    let n = c.loop-number.number in
    let p = program_view c.in-Some.program.now in
    goes_on (λ m p. balance_faults m 0 p.blocks) unbalanced_from (λ m x xs. refl) n p (drop n d.programs) (drop (n + 1) d.programs)
    (slice_get (bracket_faults d) 0) c.loop-number.invariant (from_got d.programs n p c.in-Some.ensures)
    (sym c.in_ok-fault.ensures ∙ ap (option_map unbalanced_view) c.in_default-2.is)
