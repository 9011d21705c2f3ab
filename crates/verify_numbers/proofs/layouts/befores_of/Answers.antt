use Rattle.std.proofs.Common.{◌≡◌, refl, ap, ◌+◌, ◌<◌, map, length, drop, arith}
use Rattle.verify_sketches.specs.View.{block_view}
use Rattle.verify_numbers.specs.Counts.{befores_from, block_count}
use Rattle.verify_numbers.proofs.Lists.{befores_go_on, counts_go_on, from_entry, mapped_length}
use Rattle.verify_numbers.proofs.layouts.befores_of.Goals as goal

pub overflow_add-blocks : goal.overflow_add-blocks
overflow_add-blocks c =
    let n = c.loop-number.number in
    let x = c.index-programs-number.result in
    let ps = map (λ v. map block_view v.items) c.args.programs.now in
    let within : n < length c.args.programs.now = omega (arith, c.loop-number-test.true) in
    let parts = ap block_count (from_entry (λ v. map block_view v.items) c.args.programs.now n x within c.index-programs-number.is) in
    let m = mapped_length block_view x.items in
    let known = c.loop-number.invariant.blocks in
    let most = c.requires.few in
    omega (arith, c.len-blocks.ensures, m, x.ok.0, parts, known, most)

pub loop-number-preserved : goal.loop-number-preserved
loop-number-preserved c =
    let n = c.loop-number.number in
    let x = c.index-programs-number.result in
    let ps = map (λ v. map block_view v.items) c.args.programs.now in
    let within : n < length c.args.programs.now = omega (arith, c.loop-number-test.true) in
    let parts = from_entry (λ v. map block_view v.items) c.args.programs.now n x within c.index-programs-number.is in
    let m = mapped_length block_view x.items in
    let is : c.len-blocks.result ≡ length (map block_view x.items) = omega (arith, c.len-blocks.ensures, m, x.ok.0) in
    record {
      befores = befores_go_on c.loop-number.befores.items c.push.new.self.items c.loop-number.blocks (c.loop-number.blocks + c.len-blocks.result) c.len-blocks.result
          (drop n ps) (drop (n + 1) ps) (map block_view x.items) (befores_from 0 ps) c.in_ok-push.ensures.items refl is parts c.loop-number.invariant.befores;
      blocks = counts_go_on c.loop-number.blocks (c.loop-number.blocks + c.len-blocks.result) c.len-blocks.result (block_count ps) (drop n ps) (drop (n + 1) ps)
          (map block_view x.items) refl is parts c.loop-number.invariant.blocks;
    }
