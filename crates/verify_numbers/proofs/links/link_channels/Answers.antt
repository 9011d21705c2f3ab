use Rattle.std.proofs.Common.{◌≡◌, ◌<◌, ◌+◌, ap, ◌∙◌, drop, length, slice_get, slice_index_or, ◌∷◌, [], arith}
use Rattle.verify_sketches.specs.Numbered.{first_of, nodes_of}
use Rattle.verify_sketches.specs.View.{sketch_view}
use Rattle.verify_numbers.specs.Columns.{linked}
use Rattle.verify_numbers.specs.Counts.{at_in}
use Rattle.verify_numbers.proofs.Edges.{all_linked, goes_on, next_mapped, there_is}
use Rattle.verify_numbers.proofs.Lists.{past_end}
use Rattle.verify_numbers.proofs.links.link_channels.Goals as goal

pub link-requires-clause-node : goal.link-requires-clause-node
link-requires-clause-node c = c.loop-number.invariant.there

pub loop-number-preserved : goal.loop-number-preserved
loop-number-preserved c =
    let xs = c.args.channels.now in
    let n = c.loop-number.number in
    let s = sketch_view c.args.sketch.now in
    let x = slice_index_or xs n 0 in
    let within : n < length xs = omega (arith, c.loop-number-test.true) in
    let here = first_of (slice_get s.channels x) x ∷ [] in
    let is : c.link.new.self ≡ linked c.loop-number.nodes here =
    c.in_ok-link.ensures
    ∙ (ap (λ y. linked c.loop-number.nodes (y ∷ [])) c.whole.ensures ∙ ap (λ y. linked c.loop-number.nodes (y ∷ [])) c.first_of-first.ensures.first) in
    record {
      there = there_is c.loop-number.nodes c.link.new.self here is c.loop-number.invariant.there;
      so_far = goes_on c.loop-number.nodes c.link.new.self here (nodes_of s (at_in s) (drop (n + 1) xs)) (nodes_of s (at_in s) (drop n xs))
          (linked c.args.nodes.now (nodes_of s (at_in s) xs)) is (next_mapped (λ y. first_of (slice_get s.channels y) y) n xs within) c.loop-number.invariant.so_far;
    }

pub returns : goal.returns
returns c =
    let xs = c.args.channels.now in
    let s = sketch_view c.args.sketch.now in
    all_linked c.loop-number.nodes (linked c.args.nodes.now (nodes_of s (at_in s) xs)) (nodes_of s (at_in s) (drop c.loop-number.number xs))
    (ap (nodes_of s (at_in s)) (past_end xs c.loop-number.number c.loop-number-test.false)) c.loop-number.invariant.so_far
