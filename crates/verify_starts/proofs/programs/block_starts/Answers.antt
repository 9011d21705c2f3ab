use Rattle.std.proofs.Common.{◌≡◌, ◌∙◌, sym, ap, subst, ℕ, ◌+◌, ◌<◌, [], List, Some, length, map, drop, arith}
use Rattle.bytecode.specs.declared.programs.RegisterKind.{RegisterKind}
use Rattle.bytecode.specs.View.{block_view, instruction_view, program_view}
use Rattle.verify_operands.proofs.MappedLists.{from_end, from_entry}
use Rattle.verify_operands.specs.Views.{kinds_of}
use Rattle.verify_starts.specs.SketchedCode.{sketched_code}
use Rattle.verify_starts.specs.Tables.{starts_in}
use Rattle.verify_starts.specs.Triggers.{start_for, trigger_of}
use Rattle.verify_starts.proofs.CodeSteps.{SoFar, all_so_far, none_so_far, one_so_far}
use Rattle.verify_starts.proofs.StartTables.{goes_on_both, goes_on_not}
use Rattle.verify_starts.proofs.programs.block_starts.Goals as goal

pub loop-at-init : goal.loop-at-init
loop-at-init c =
    let d = c.args.lookups.now in
    let all = c.args.numbers.now in
    let p = program_view c.args.program.now in
    let starts = starts_in c.args.starts.now in
    let entry = c.args.block.now.entry.items in
    let code = map instruction_view c.args.block.now.code.items in
    let whole = sketched_code d all p (kinds_of entry) code in
    let e : c.in_ok-kinds.kinds.items ≡ entry = c.in_ok-kinds.ensures ∙ c.as_slice.ensures.value in
    record {
      goes_on = goes_on_not d all c.args.starts.now c.requires.table;
      few = omega arith;
      so_far =
          subst (λ (ns : List ℕ). SoFar d all p starts ns (kinds_of c.in_ok-kinds.kinds.items) code whole) (sym c.new-found.ensures.items)
          (subst (λ (ks : List RegisterKind). SoFar d all p starts [] (kinds_of ks) code whole) (sym e) (none_so_far d all p starts (kinds_of entry) code));
    }

pub loop-at-preserved : goal.loop-at-preserved
loop-at-preserved c =
    let d = c.args.lookups.now in
    let all = c.args.numbers.now in
    let p = program_view c.args.program.now in
    let code = c.args.block.now.code.items in
    let at = c.loop-at.at in
    let i = c.index-instruction.result.now in
    let ks = kinds_of c.loop-at.kinds.items in
    let within : at < length code = omega (arith, c.loop-at-test.true, c.len-at-end.ensures, c.args.block.now.code.ok.0) in
    let trigger = c.trigger_of-trigger.ensures ∙ ap (λ (xs : List RegisterKind). trigger_of d (kinds_of xs) (instruction_view i)) c.as_slice-in-loop-at.ensures.value in
    record {
      goes_on =
          goes_on_both d all c.args.starts.now c.loop-at.starts c.number.new.self c.loop-at.invariant.goes_on c.in_ok-number.ensures.goes_on;
      few = omega (arith, c.in_ok-number.ensures.few);
      so_far =
          one_so_far d all p (starts_in c.loop-at.starts) (starts_in c.number.new.self) c.loop-at.found.items c.push.new.self.items c.in_ok-number.number ks
          (kinds_of c.go_after.new.kinds.items) (drop at (map instruction_view code)) (drop (at + 1) (map instruction_view code)) (instruction_view i)
          (sketched_code d all p (block_view c.args.block.now).entry (block_view c.args.block.now).code) c.loop-at.invariant.so_far
          (from_entry instruction_view code at i within c.index-instruction.ensures) c.in_ok-number.ensures.goes_on.more
          (c.in_ok-number.ensures.start ∙ ap (λ t. Some (start_for d all t)) trigger) c.in_ok-push.ensures.items c.in_ok-go_after.ensures;
    }

pub returns : goal.returns
returns c =
    let d = c.args.lookups.now in
    let all = c.args.numbers.now in
    let p = program_view c.args.program.now in
    let code = c.args.block.now.code.items in
    let at = c.loop-at.at in
    record {
      goes_on = c.loop-at.invariant.goes_on;
      few = omega (arith, c.len-at-end.ensures, c.args.block.now.code.ok.0);
      starts =
          all_so_far d all p (starts_in c.loop-at.starts) c.loop-at.found.items (kinds_of c.loop-at.kinds.items) (drop at (map instruction_view code))
          (sketched_code d all p (block_view c.args.block.now).entry (block_view c.args.block.now).code) c.loop-at.invariant.so_far
          (from_end instruction_view code at (omega (arith, c.loop-at-test.false, c.len-at-end.ensures, c.args.block.now.code.ok.0)));
    }
