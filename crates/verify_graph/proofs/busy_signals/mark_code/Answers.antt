use Rattle.std.proofs.Common.{ap, subst, ◌+◌, ◌<◌, List, length, map, take, arith}
use Rattle.ui_machine.specs.Definition.Programs.{Instruction}
use Rattle.bytecode.specs.View.{instruction_view}
use Rattle.law_typing.specs.Graph.{listed_if}
use Rattle.law_idle.specs.Idle.{named_in, signal_named}
use Rattle.verify_graph.specs.Busy.{Marks}
use Rattle.verify_graph.proofs.BusySignals.{code_more, more_marked, none_marked}
use Rattle.verify_graph.proofs.Prefixes.{mapped_last, take_all, take_entry}
use Rattle.verify_graph.proofs.busy_signals.mark_code.Goals as goal

pub loop-number-init : goal.loop-number-init
loop-number-init c = none_marked c.args.lookups.now c.args.class c.args.marks.now.items

pub loop-number-preserved : goal.loop-number-preserved
loop-number-preserved c =
    let xs = c.args.code.now in
    let n = c.loop-number.number in
    let x = c.index-code-number.result in
    let within : n < length xs = omega (arith, c.loop-number-test.true) in
    more_marked c.args.lookups.now c.args.class (named_in (map instruction_view (take n xs))) (listed_if (signal_named (instruction_view x)))
    (named_in (map instruction_view (take (n + 1) xs))) c.args.marks.now.items c.loop-number.marks.items c.mark_instruction.new.marks.items c.loop-number.invariant
    c.in_ok-mark_instruction.ensures
    (code_more (map instruction_view (take n xs)) (instruction_view x) (map instruction_view (take (n + 1) xs))
    (mapped_last instruction_view (take n xs) (take (n + 1) xs) x (take_entry xs n x within c.index-code-number.is)))

pub returns : goal.returns
returns c =
    let xs = c.args.code.now in
    subst (λ ys. Marks c.args.lookups.now c.args.class (named_in (map instruction_view ys)) c.args.marks.now.items c.loop-number.marks.items)
    (take_all xs c.loop-number.number (omega (arith, c.loop-number-test.false))) c.loop-number.invariant
