use Rattle.std.proofs.Common.{◌≡◌, ◌<◌, ◌+◌, ap, ◌∙◌, cond, nat_lt, drop, length, map, slice_index_or, ◌∷◌, [], sym, subst, ◌≤◌, arith}
use Rattle.verify_sketches.specs.Numbered.{program}
use Rattle.verify_sketches.specs.Pointwise.{inside}
use Rattle.verify_numbers.specs.Columns.{linked}
use Rattle.verify_numbers.specs.Counts.{Counts, at}
use Rattle.verify_numbers.proofs.Edges.{all_linked, goes_on, next_inside, there_is}
use Rattle.verify_numbers.proofs.Lists.{past_end}
use Rattle.std.proofs.lemmas.Bool.{ltb-true}
use Rattle.verify_sketches.specs.View.{sketch_view}
use Rattle.verify_numbers.proofs.Small.{few, program_fits}
use Rattle.verify_numbers.proofs.links.link_programs.Goals as goal

pub link_if-requires-clause-node : goal.link_if-requires-clause-node
link_if-requires-clause-node c = c.loop-number.invariant.there

pub link_if-requires-clause-fits : goal.link_if-requires-clause-fits
link_if-requires-clause-fits c = λ there.
    let l = c.args.layout.now in
    let x = slice_index_or c.args.programs.now c.loop-number.number 0 in
    let low = ltb-true x c.program_count.result there in
    subst (λ n. n ≤ 4_294_967_295) (sym c.program.ensures)
    (program_fits l (few c.args.layout.now (sketch_view c.args.sketch.now) c.requires.counted c.requires.small) x (omega (arith, low, c.program_count.ensures)))

pub loop-number-preserved : goal.loop-number-preserved
loop-number-preserved c =
    let xs = c.args.programs.now in
    let n = c.loop-number.number in
    let l = c.args.layout.now in
    let x = slice_index_or xs n 0 in
    let within : n < length xs = omega (arith, c.loop-number-test.true) in
    let here = cond (nat_lt x l.programs) (at l (program x) ∷ []) [] in
    let is : c.link_if.new.nodes ≡ linked c.loop-number.nodes here =
    c.in_ok-link_if.ensures
    ∙ (ap (λ m. linked c.loop-number.nodes (cond (nat_lt x m) (c.program.result ∷ []) [])) c.program_count.ensures
    ∙ ap (λ y. linked c.loop-number.nodes (cond (nat_lt x l.programs) (y ∷ []) [])) c.program.ensures) in
    record {
      there = there_is c.loop-number.nodes c.link_if.new.nodes here is c.loop-number.invariant.there;
      so_far = goes_on c.loop-number.nodes c.link_if.new.nodes here (map (λ y. at l (program y)) (inside l.programs (drop (n + 1) xs))) (map (λ y. at l (program y)) (inside l.programs (drop n xs)))
          (linked c.args.nodes.now (map (λ y. at l (program y)) (inside l.programs xs))) is (next_inside (λ y. at l (program y)) l.programs n xs within) c.loop-number.invariant.so_far;
    }

pub returns : goal.returns
returns c =
    let xs = c.args.programs.now in
    let l = c.args.layout.now in
    (all_linked c.loop-number.nodes (linked c.args.nodes.now (map (λ y. at l (program y)) (inside l.programs xs))) (map (λ y. at l (program y)) (inside l.programs (drop c.loop-number.number xs)))
    (ap (λ ys. map (λ y. at l (program y)) (inside l.programs ys)) (past_end xs c.loop-number.number c.loop-number-test.false)) c.loop-number.invariant.so_far)
    ∙ ap (λ (k : Counts). linked c.args.nodes.now (map (λ y. at k (program y)) (inside k.programs xs))) c.requires.counted
