use Rattle.std.proofs.Common.{◌+◌, ◌≤◌, length, List, Vec, map, subst, take, arith}
use Rattle.std.specs.Global.{Global}
use Rattle.std.proofs.lemmas.List.{length-map}
use Rattle.bytecode.specs.View.{program_view}
use Rattle.definition_format.specs.Meaning.{IsBasic}
use Rattle.verify_sketches.specs.Sketches.{SketchedBlock}
use Rattle.verify_sketches.specs.View.{block_view as sketched_view, start_view}
use Rattle.verify_sketches.specs.declared.programs.SketchedBlock.{SketchedBlock as CodeBlock}
use Rattle.verify_graph.proofs.Prefixes.{mapped_last, take_last}
use Rattle.verify_starts.specs.Tables.{starts_in}
use Rattle.verify_starts.proofs.CodeSteps.{programs_last}
use Rattle.verify_starts.proofs.Sizes.{each_below, each_short, few_programs}
use Rattle.verify_starts.proofs.programs.all_programs.Goals as goal

pub sketched_blocks-requires-clause-few : goal.sketched_blocks-requires-clause-few
sketched_blocks-requires-clause-few c =
    let d = c.args.lookups.now in
    let n = c.loop-number.number in
    let p = program_view c.in-Some.program.now in
    let basic = subst IsBasic c.definition.ensures c.types-types.ensures.basic in
    let short = each_short d n p basic c.in-Some.ensures in
    let below = each_below d n p basic c.in-Some.ensures in
    omega (arith, short.instructions, below, c.loop-number.invariant.few)

pub returns-in_default-clause-few : goal.returns-in_default-clause-few
returns-in_default-clause-few c =
    let d = c.args.lookups.now in
    let seen : Vec CodeBlock Global → List SketchedBlock = λ v. map sketched_view v.items in
    let basic = subst IsBasic c.definition.ensures c.types-types.ensures.basic in
    let kept = starts_in c.loop-number.starts in
    let few : length kept ≤ 131073 = omega (arith, length-map c.loop-number.starts.starts.items start_view, c.loop-number.invariant.few, c.loop-number.invariant.within) in
    few_programs d c.args.numbers.now kept c.loop-number.number (map seen c.loop-number.programs.items) basic few c.loop-number.invariant.programs

pub returns-clause-few : goal.returns-clause-few
returns-clause-few c =
    let d = c.args.lookups.now in
    let seen : Vec CodeBlock Global → List SketchedBlock = λ v. map sketched_view v.items in
    let basic = subst IsBasic c.definition.ensures c.types-types.ensures.basic in
    let kept = starts_in c.loop-number.starts in
    let few : length kept ≤ 131073 = omega (arith, length-map c.loop-number.starts.starts.items start_view, c.loop-number.invariant.few, c.loop-number.invariant.within) in
    few_programs d c.args.numbers.now kept c.loop-number.number (map seen c.loop-number.programs.items) basic few c.loop-number.invariant.programs

pub loop-number-preserved : goal.loop-number-preserved
loop-number-preserved c =
    let d = c.args.lookups.now in
    let all = c.args.numbers.now in
    let n = c.loop-number.number in
    let p = program_view c.in-Some.program.now in
    let seen : Vec CodeBlock Global → List SketchedBlock = λ v. map sketched_view v.items in
    let basic = subst IsBasic c.definition.ensures c.types-types.ensures.basic in
    let short = each_short d n p basic c.in-Some.ensures in
    let below = each_below d n p basic c.in-Some.ensures in
    record {
      table = c.in_ok-sketched.ensures.goes_on.table;
      few = omega (arith, short.instructions, c.in_ok-sketched.ensures.few, c.loop-number.invariant.few);
      within = omega (arith, below);
      programs =
          programs_last d all (starts_in c.loop-number.starts) (starts_in c.sketched_blocks.new.starts) (map seen c.loop-number.programs.items) (map seen c.push.new.self.items)
          (take n d.programs) (take (n + 1) d.programs) (seen c.in_ok-sketched.sketched) p c.in_ok-sketched.ensures.goes_on.more c.loop-number.invariant.programs
          c.in_ok-sketched.ensures.sketched (mapped_last seen c.loop-number.programs.items c.push.new.self.items c.in_ok-sketched.sketched c.in_ok-push.ensures.items)
          (take_last d.programs n p c.in-Some.ensures);
    }
