use Rattle.std.proofs.Common.{◌≡◌, ◌<◌, ◌+◌, ◌-◌, ap, ◌∙◌, ◌∷◌, [], sym, subst, ◌≤◌, arith}
use Rattle.ui_machine.specs.Seq.{listed}
use Rattle.verify_sketches.specs.Numbered.{block}
use Rattle.verify_numbers.specs.Columns.{linked}
use Rattle.verify_numbers.specs.Counts.{Counts, at}
use Rattle.verify_numbers.proofs.Edges.{all_linked, goes_on, listed_all, next_listed, none_listed, there_is}
use Rattle.verify_sketches.specs.View.{sketch_view}
use Rattle.verify_numbers.proofs.Small.{block_fits, few}
use Rattle.verify_numbers.proofs.links.link_blocks.Goals as goal

pub link-requires-clause-node : goal.link-requires-clause-node
link-requires-clause-node c = c.loop-number.invariant.there

pub link-requires-clause-fits : goal.link-requires-clause-fits
link-requires-clause-fits c =
    subst (λ n. n ≤ 4_294_967_295) (sym c.block.ensures)
    (block_fits c.args.layout.now (few c.args.layout.now (sketch_view c.args.sketch.now) c.requires.counted c.requires.small) c.args.program c.loop-number.number (omega (arith, c.requires.few, c.loop-number-test.true)))

pub loop-number-preserved : goal.loop-number-preserved
loop-number-preserved c =
    let n = c.loop-number.number in
    let l = c.args.layout.now in
    let p = c.args.program in
    let count = c.args.count in
    let within : n < count = omega (arith, c.loop-number-test.true) in
    let here = at l (block p n) ∷ [] in
    let is : c.link.new.self ≡ linked c.loop-number.nodes here =
    c.in_ok-link.ensures ∙ ap (λ y. linked c.loop-number.nodes (y ∷ [])) c.block.ensures in
    record {
      there = there_is c.loop-number.nodes c.link.new.self here is c.loop-number.invariant.there;
      so_far = goes_on c.loop-number.nodes c.link.new.self here (listed (λ i. at l (block p (n + 1 + i))) (count - (n + 1)))
          (listed (λ i. at l (block p (n + i))) (count - n)) (linked c.args.nodes.now (listed (λ i. at l (block p (0 + i))) (count - 0))) is
          (next_listed (λ y. at l (block p y)) n count within) c.loop-number.invariant.so_far;
    }

pub returns : goal.returns
returns c =
    let l = c.args.layout.now in
    let p = c.args.program in
    let count = c.args.count in
    all_linked c.loop-number.nodes (linked c.args.nodes.now (listed (λ i. at l (block p (0 + i))) (count - 0)))
    (listed (λ i. at l (block p (c.loop-number.number + i))) (count - c.loop-number.number))
    (none_listed (λ y. at l (block p y)) c.loop-number.number count c.loop-number-test.false) c.loop-number.invariant.so_far
    ∙ (ap (linked c.args.nodes.now) (listed_all (λ y. at l (block p y)) count)
    ∙ ap (λ (k : Counts). linked c.args.nodes.now (listed (λ y. at k (block p y)) count)) c.requires.counted)
