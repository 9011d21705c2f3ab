use Rattle.std.proofs.Common.{ap, subst, ◌+◌, ◌<◌, List, length, map, take, arith}
use Rattle.ui_machine.specs.Definition.Programs.{Block}
use Rattle.bytecode.specs.View.{block_view, instruction_view}
use Rattle.law_idle.specs.Idle.{named_in, named_in_blocks}
use Rattle.verify_graph.specs.Busy.{Marks}
use Rattle.verify_graph.proofs.BusySignals.{more_marked, none_marked, parts_more}
use Rattle.verify_graph.proofs.Prefixes.{mapped_last, take_all, take_entry}
use Rattle.verify_graph.proofs.busy_signals.mark_blocks.Goals as goal

pub loop-number-init : goal.loop-number-init
loop-number-init c = none_marked c.args.lookups.now c.args.class c.args.marks.now.items

pub loop-number-preserved : goal.loop-number-preserved
loop-number-preserved c =
    let d = c.args.lookups.now in
    let xs = c.args.blocks.now in
    let n = c.loop-number.number in
    let x = c.index-blocks-number.result in
    let within : n < length xs = omega (arith, c.loop-number-test.true) in
    more_marked d c.args.class (named_in_blocks (map block_view (take n xs))) (named_in (block_view x).code)
    (named_in_blocks (map block_view (take (n + 1) xs))) c.args.marks.now.items c.loop-number.marks.items c.mark_code.new.marks.items c.loop-number.invariant
    (subst (λ is. Marks d c.args.class (named_in (map instruction_view is)) c.loop-number.marks.items c.mark_code.new.marks.items) c.as_slice.ensures.value c.in_ok-mark_code.ensures)
    (parts_more (λ (b : Block). named_in b.code) (map block_view (take n xs)) (block_view x) (map block_view (take (n + 1) xs))
    (mapped_last block_view (take n xs) (take (n + 1) xs) x (take_entry xs n x within c.index-blocks-number.is)))

pub returns : goal.returns
returns c =
    let xs = c.args.blocks.now in
    subst (λ ys. Marks c.args.lookups.now c.args.class (named_in_blocks (map block_view ys)) c.args.marks.now.items c.loop-number.marks.items)
    (take_all xs c.loop-number.number (omega (arith, c.loop-number-test.false))) c.loop-number.invariant
