use Rattle.std.proofs.Common.{◌≡◌, ◌<◌, ◌+◌, ◌-◌, ap, ◌∙◌, cond, nat_lt, suc, drop, length, slice_index_or, ◌∷◌, [], sym, subst, ◌≤◌, arith}
use Rattle.verify_sketches.specs.Numbered.{block, next_blocks}
use Rattle.verify_numbers.specs.Columns.{linked}
use Rattle.verify_numbers.specs.Counts.{Counts, at}
use Rattle.verify_numbers.proofs.Edges.{all_linked, goes_on, next_seen, there_is}
use Rattle.verify_numbers.proofs.Lists.{past_end}
use Rattle.std.proofs.lemmas.Bool.{ltb-true}
use Rattle.verify_sketches.specs.View.{sketch_view}
use Rattle.verify_numbers.proofs.Small.{block_fits, few}
use Rattle.verify_numbers.proofs.links.link_next.Goals as goal

pub later-to-requires : goal.later-to-requires
later-to-requires c = omega (arith, c.requires.there, c.ranges.count)

pub link_if-requires-clause-node : goal.link_if-requires-clause-node
link_if-requires-clause-node c = c.loop-number.invariant.there

pub link_if-requires-clause-fits : goal.link_if-requires-clause-fits
link_if-requires-clause-fits c = λ there.
    let low = ltb-true c.later-to.result c.args.count there in
    subst (λ n. n ≤ 4_294_967_295) (sym c.block.ensures)
    (block_fits c.args.layout.now (few c.args.layout.now (sketch_view c.args.sketch.now) c.requires.counted c.requires.small) c.args.program c.later-to.result (omega (arith, c.requires.few, low)))

pub loop-number-preserved : goal.loop-number-preserved
loop-number-preserved c =
    let xs = c.args.next.now in
    let n = c.loop-number.number in
    let l = c.args.layout.now in
    let p = c.args.program in
    let count = c.args.count in
    let after = c.args.after in
    let x = suc after + (slice_index_or xs n 0 - suc after) in
    let within : n < length xs = omega (arith, c.loop-number-test.true) in
    let here = cond (nat_lt x count) (at l (block p x) ∷ []) [] in
    let is : c.link_if.new.nodes ≡ linked c.loop-number.nodes here =
    c.in_ok-link_if.ensures
    ∙ (ap (λ y. linked c.loop-number.nodes (cond (nat_lt c.later-to.result count) (y ∷ []) [])) c.block.ensures
    ∙ ap (λ y. linked c.loop-number.nodes (cond (nat_lt y count) (at l (block p y) ∷ []) [])) c.later-to.ensures) in
    record {
      there = there_is c.loop-number.nodes c.link_if.new.nodes here is c.loop-number.invariant.there;
      so_far = goes_on c.loop-number.nodes c.link_if.new.nodes here (next_blocks (at l) p count after (drop (n + 1) xs)) (next_blocks (at l) p count after (drop n xs))
          (linked c.args.nodes.now (next_blocks (at l) p count after xs)) is
          (next_seen (λ y. at l (block p y)) (λ b. suc after + (b - suc after)) count n xs within) c.loop-number.invariant.so_far;
    }

pub returns : goal.returns
returns c =
    let xs = c.args.next.now in
    let l = c.args.layout.now in
    all_linked c.loop-number.nodes (linked c.args.nodes.now (next_blocks (at l) c.args.program c.args.count c.args.after xs))
    (next_blocks (at l) c.args.program c.args.count c.args.after (drop c.loop-number.number xs))
    (ap (next_blocks (at l) c.args.program c.args.count c.args.after) (past_end xs c.loop-number.number c.loop-number-test.false)) c.loop-number.invariant.so_far
    ∙ ap (λ (k : Counts). linked c.args.nodes.now (next_blocks (at k) c.args.program c.args.count c.args.after xs)) c.requires.counted
