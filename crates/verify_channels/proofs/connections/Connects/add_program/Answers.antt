use Rattle.std.proofs.Common.{ap, ◌+◌, ◌<◌, length, map, drop, arith}
use Rattle.std.proofs.lemmas.List.{length-map}
use Rattle.bytecode.specs.View.{block_view, instruction_view, program_view}
use Rattle.verify_operands.proofs.MappedLists.{from_end, from_entry}
use Rattle.verify_channels.specs.ConnectedCode.{blocks_connections, code_connections}
use Rattle.verify_channels.proofs.ConnectedCodes.{all_so_far, one_so_far}
use Rattle.verify_starts.proofs.Sizes.{next_instructions}
use Rattle.verify_channels.proofs.connections.Connects.add_program.Goals as goal

pub add_block-requires-clause-few : goal.add_block-requires-clause-few
add_block-requires-clause-few c =
    let blocks = c.args.program.now.blocks.items in
    let n = c.loop-number.number in
    let b = c.index.result.now in
    let within : n < length blocks = omega (arith, c.loop-number-test.true, c.len-number-end.ensures, c.args.program.now.blocks.ok.0) in
    let next = next_instructions (drop n (map block_view blocks)) (drop (n + 1) (map block_view blocks)) (block_view b) (from_entry block_view blocks n b within c.index.ensures) in
    let code = length-map b.code.items instruction_view in
    omega (arith, next, code, c.requires.few, c.loop-number.invariant.few)

pub loop-number-preserved : goal.loop-number-preserved
loop-number-preserved c =
    let d = c.args.lookups.now in
    let p = program_view c.args.program.now in
    let blocks = c.args.program.now.blocks.items in
    let n = c.loop-number.number in
    let b = c.index.result.now in
    let within : n < length blocks = omega (arith, c.loop-number-test.true, c.len-number-end.ensures, c.args.program.now.blocks.ok.0) in
    record {
      places = c.in_ok-add_block.ensures.places;
      few =
          (let next = next_instructions (drop n (map block_view blocks)) (drop (n + 1) (map block_view blocks)) (block_view b) (from_entry block_view blocks n b within c.index.ensures) in
          let code = length-map b.code.items instruction_view in
          omega (arith, next, code, c.in_ok-add_block.ensures.few, c.loop-number.invariant.few));
      so_far =
          one_so_far d c.args.self.now c.loop-number.self c.add_block.new.self (blocks_connections d p (drop n (map block_view blocks)))
          (blocks_connections d p (drop (n + 1) (map block_view blocks))) (blocks_connections d p (program_view c.args.program.now).blocks)
          (code_connections d p (block_view b).entry (block_view b).code) c.loop-number.invariant.so_far c.in_ok-add_block.ensures.more
          (ap (blocks_connections d p) (from_entry block_view blocks n b within c.index.ensures));
    }

pub returns-clause-more : goal.returns-clause-more
returns-clause-more c =
    let d = c.args.lookups.now in
    let p = program_view c.args.program.now in
    let blocks = c.args.program.now.blocks.items in
    let n = c.loop-number.number in
    all_so_far d c.args.self.now c.loop-number.self (blocks_connections d p (drop n (map block_view blocks)))
    (blocks_connections d p (program_view c.args.program.now).blocks) c.loop-number.invariant.so_far
    (ap (blocks_connections d p) (from_end block_view blocks n (omega (arith, c.loop-number-test.false, c.len-number-end.ensures, c.args.program.now.blocks.ok.0))))
