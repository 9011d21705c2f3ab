use Rattle.std.proofs.Common.{◌∙◌, sym, ap, subst, ◌+◌, ◌<◌, length, drop, map, arith}
use Rattle.bytecode.specs.View.{block_view, instruction_view, program_view}
use Rattle.law_typing.specs.Rules.Typing.{again, block_broken, first_broken, typed_in}
use Rattle.verify_instructions.specs.CodeSteps.{Goes}
use Rattle.verify_operands.specs.Views.{kinds_of, rule_view}
use Rattle.verify_instructions.proofs.CodeSteps.{stops, goes_on}
use Rattle.verify_operands.proofs.MappedLists.{from_entry}
use Rattle.verify_instructions.proofs.blocks.block_fault.Goals as goal

pub returns-in-Some : goal.returns-in-Some
returns-in-Some c =
    let d = c.args.lookups.now in
    let p = program_view c.args.program.now in
    let b = block_view c.args.block.now in
    let code = c.args.block.now.code.items in
    let at = c.loop-at.at in
    let i = c.index.result.now in
    let ks = kinds_of c.loop-at.kinds.items in
    let within : at < length code = omega (arith, c.loop-at-test.true, c.len-at-end.ensures, c.args.block.now.code.ok.0) in
    sym (stops d p (again b) at ks (instruction_view i) (drop (at + 1) (map instruction_view code)) (rule_view c.in-Some.rule) (block_broken d p b)
    (c.loop-at.invariant ∙ ap (λ rest. first_broken d p (again b) at ks rest) (from_entry instruction_view code at i within c.index.ensures))
    (subst (λ r. Goes r (kinds_of c.go_through.new.kinds.items) (typed_in d p (again b) ks (instruction_view i))) c.in-Some.is c.in_ok-rule.ensures))

pub loop-at-preserved : goal.loop-at-preserved
loop-at-preserved c =
    let d = c.args.lookups.now in
    let p = program_view c.args.program.now in
    let b = block_view c.args.block.now in
    let code = c.args.block.now.code.items in
    let at = c.loop-at.at in
    let i = c.index.result.now in
    let ks = kinds_of c.loop-at.kinds.items in
    let after = kinds_of c.go_through.new.kinds.items in
    let within : at < length code = omega (arith, c.loop-at-test.true, c.len-at-end.ensures, c.args.block.now.code.ok.0) in
    goes_on d p (again b) at ks after (instruction_view i) (drop (at + 1) (map instruction_view code)) (block_broken d p b)
    (c.loop-at.invariant ∙ ap (λ rest. first_broken d p (again b) at ks rest) (from_entry instruction_view code at i within c.index.ensures))
    (subst (λ r. Goes r after (typed_in d p (again b) ks (instruction_view i))) c.in_default.is c.in_ok-rule.ensures)
