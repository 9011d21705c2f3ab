use Rattle.std.proofs.Common.{sym, ap, subst, ◌≤◌, ◌+◌, List, length, map, take, arith}
use Rattle.std.specs.List.{flat_map}
use Rattle.ui_machine.specs.Definition.Programs.{Program}
use Rattle.bytecode.specs.View.{block_view, program_view}
use Rattle.law_idle.specs.Idle.{named_in_blocks}
use Rattle.verify_graph.specs.Busy.{Marks}
use Rattle.verify_graph.proofs.BusySignals.{more_marked, none_marked, parts_more, take_none}
use Rattle.verify_graph.proofs.Prefixes.{take_all, take_last}
use Rattle.verify_graph.proofs.busy_signals.mark_programs.Goals as goal

pub loop-number-init : goal.loop-number-init
loop-number-init c = none_marked c.args.lookups.now c.args.class c.args.marks.now.items

pub loop-number-preserved : goal.loop-number-preserved
loop-number-preserved c =
    let d = c.args.lookups.now in
    let n = c.loop-number.number in
    let p = program_view c.in-Some.program.now in
    more_marked d c.args.class (flat_map (λ (p : Program). named_in_blocks p.blocks) (take n d.programs)) (named_in_blocks p.blocks)
    (flat_map (λ (p : Program). named_in_blocks p.blocks) (take (n + 1) d.programs)) c.args.marks.now.items c.loop-number.marks.items c.mark_blocks.new.marks.items
    c.loop-number.invariant
    (subst (λ bs. Marks d c.args.class (named_in_blocks (map block_view bs)) c.loop-number.marks.items c.mark_blocks.new.marks.items) c.as_slice.ensures.value c.in_ok-mark_blocks.ensures)
    (parts_more (λ (p : Program). named_in_blocks p.blocks) (take n d.programs) p (take (n + 1) d.programs) (take_last d.programs n p c.in-Some.ensures))

pub returns-in_default : goal.returns-in_default
returns-in_default c =
    let d = c.args.lookups.now in
    subst (λ ps. Marks d c.args.class (flat_map (λ (p : Program). named_in_blocks p.blocks) ps) c.args.marks.now.items c.loop-number.marks.items)
    (take_none d.programs c.loop-number.number (sym c.in_default.ensures)) c.loop-number.invariant

pub returns : goal.returns
returns c =
    let d = c.args.lookups.now in
    let behind : length d.programs ≤ c.loop-number.number = omega (arith, c.most_programs-number-end.ensures, c.loop-number-test.false) in
    subst (λ ps. Marks d c.args.class (flat_map (λ (p : Program). named_in_blocks p.blocks) ps) c.args.marks.now.items c.loop-number.marks.items)
    (take_all d.programs c.loop-number.number behind) c.loop-number.invariant
