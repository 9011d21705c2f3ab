use Rattle.std.proofs.Common.{◌≡◌, ◌∙◌, sym, ap, ◌≤◌, ◌+◌, ◌++◌, drop, length, map, arith}
use Rattle.ui_machine.specs.Definition.Programs.{Program}
use Rattle.bytecode.specs.View.{block_view, program_view}
use Rattle.ui_verifier.specs.NamedSources.{named_in_blocks, named_in_programs}
use Rattle.ui_verifier.proofs.Sums.{flat_ends, flat_goes_on, from_got, none_got}
use Rattle.ui_verifier.proofs.BuiltPlaces.{past}
use Rattle.ui_verifier.proofs.sources.named_sources.Goals as goal

pub returns-in_default : goal.returns-in_default
returns-in_default c =
    let d = c.args.lookups.now in
    flat_ends (λ (p : Program). named_in_blocks d p.blocks) c.loop-number.named.items (drop c.loop-number.number d.programs) (named_in_programs d d.programs)
    (none_got d.programs c.loop-number.number (sym c.in_default.ensures)) c.loop-number.invariant

pub loop-number-preserved : goal.loop-number-preserved
loop-number-preserved c =
    let d = c.args.lookups.now in
    let n = c.loop-number.number in
    let p = program_view c.in-Some.program.now in
    flat_goes_on (λ (q : Program). named_in_blocks d q.blocks) c.loop-number.named.items c.add_blocks.new.named.items p (drop n d.programs) (drop (n + 1) d.programs)
    (named_in_programs d d.programs)
    (c.in_ok-add_blocks.ensures ∙ ap (λ bs. c.loop-number.named.items ++ named_in_blocks d (map block_view bs)) c.as_slice.ensures.value)
    (from_got d.programs n p (sym c.in-Some.ensures)) c.loop-number.invariant

pub returns : goal.returns
returns c =
    let d = c.args.lookups.now in
    let behind : length d.programs ≤ c.loop-number.number = omega (arith, c.most_programs-number-end.ensures, c.loop-number-test.false) in
    flat_ends (λ (p : Program). named_in_blocks d p.blocks) c.loop-number.named.items (drop c.loop-number.number d.programs) (named_in_programs d d.programs)
    (past d.programs c.loop-number.number behind) c.loop-number.invariant
