use Rattle.std.proofs.Common.{◌+◌, ◌<◌, drop, length, map, take, arith}
use Rattle.std.proofs.lemmas.List.{length-map}
use Rattle.bytecode.specs.View.{block_view, instruction_view, program_view}
use Rattle.verify_sketches.specs.View.{block_view as sketched_view}
use Rattle.verify_graph.proofs.Prefixes.{mapped_last, take_entry}
use Rattle.verify_operands.proofs.MappedLists.{from_entry}
use Rattle.verify_starts.specs.Tables.{starts_in}
use Rattle.verify_starts.proofs.CodeSteps.{blocks_last}
use Rattle.verify_starts.proofs.Sizes.{next_instructions}
use Rattle.verify_starts.proofs.StartTables.{goes_on_both}
use Rattle.verify_starts.proofs.programs.sketched_blocks.Goals as goal

pub sketched_block-requires-clause-few : goal.sketched_block-requires-clause-few
sketched_block-requires-clause-few c =
    let blocks = c.args.program.now.blocks.items in
    let n = c.loop-number.number in
    let b = c.index.result.now in
    let within : n < length blocks = omega (arith, c.loop-number-test.true, c.len-number-end.ensures, c.args.program.now.blocks.ok.0) in
    let next = next_instructions (drop n (map block_view blocks)) (drop (n + 1) (map block_view blocks)) (block_view b) (from_entry block_view blocks n b within c.index.ensures) in
    let code = length-map b.code.items instruction_view in
    omega (arith, next, code, c.requires.few, c.loop-number.invariant.few)

pub loop-number-preserved : goal.loop-number-preserved
loop-number-preserved c =
    let d = c.args.lookups.now in
    let all = c.args.numbers.now in
    let p = program_view c.args.program.now in
    let blocks = c.args.program.now.blocks.items in
    let n = c.loop-number.number in
    let b = c.index.result.now in
    let within : n < length blocks = omega (arith, c.loop-number-test.true, c.len-number-end.ensures, c.args.program.now.blocks.ok.0) in
    record {
      goes_on = goes_on_both d all c.args.starts.now c.loop-number.starts c.sketched_block.new.starts c.loop-number.invariant.goes_on c.in_ok-block.ensures.goes_on;
      few =
          (let next = next_instructions (drop n (map block_view blocks)) (drop (n + 1) (map block_view blocks)) (block_view b) (from_entry block_view blocks n b within c.index.ensures) in
          let code = length-map b.code.items instruction_view in
          omega (arith, next, code, c.in_ok-block.ensures.few, c.loop-number.invariant.few));
      blocks =
          blocks_last d all p (starts_in c.loop-number.starts) (starts_in c.sketched_block.new.starts) (map sketched_view c.loop-number.blocks.items)
          (map sketched_view c.push.new.self.items) (map block_view (take n blocks)) (map block_view (take (n + 1) blocks)) (sketched_view c.in_ok-block.block)
          (block_view b) c.in_ok-block.ensures.goes_on.more c.loop-number.invariant.blocks c.in_ok-block.ensures.block
          (mapped_last sketched_view c.loop-number.blocks.items c.push.new.self.items c.in_ok-block.block c.in_ok-push.ensures.items)
          (mapped_last block_view (take n blocks) (take (n + 1) blocks) b (take_entry blocks n b within c.index.ensures));
    }
