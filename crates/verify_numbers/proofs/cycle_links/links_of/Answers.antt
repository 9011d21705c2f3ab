use Rattle.std.proofs.Common.{◌≡◌, ◌∙◌, sym, ap, ◌<◌, ◌+◌, ◌++◌, [], drop, length, slice_index_or, append-nil, ℕ, arith}
use Rattle.verify_numbers.specs.Cycles.{links_after, links_of}
use Rattle.verify_numbers.specs.Laid.{laid}
use Rattle.verify_numbers.specs.Links.{link_view, links_view, part_at, parts_at}
use Rattle.verify_numbers.proofs.CycleParts.{more_links}
use Rattle.verify_numbers.proofs.Lists.{from_number, past_end}
use Rattle.law_typing.specs.Graph.{Graph}
use Rattle.verify_sketches.specs.Sketches.{Sketch}
use Rattle.verify_numbers.specs.Counts.{counts_of}
use Rattle.verify_numbers.proofs.cycle_links.links_of.Goals as goal

pub loop-number-preserved : goal.loop-number-preserved
loop-number-preserved c =
    let programs = c.args.layout.now.programs in
    let more = c.in_ok-last.ensures.few programs c.loop-number.invariant.few c.loop-number.invariant.last c.part_of.ensures.few in
    record { few = more.0; last = more.1; so_far = so_far }
  where
    so_far : (g : Graph) (s : Sketch) (handlers : ℕ) → c.args.layout.now ≡ counts_of s →
        links_view g c.next_link.new.links.items ++ links_after g (link_view g c.in_ok-last.last) (parts_at (laid s handlers) (drop (c.loop-number.number + 1) c.args.nodes.now))
        ≡ links_of g c.args.channel (parts_at (laid s handlers) c.args.nodes.now)
    so_far g s handlers counted =
        let n = c.loop-number.number in
        let xs = c.args.nodes.now in
        let within : n < length xs = omega (arith, c.loop-number-test.true) in
        let x = part_at (laid s handlers) (slice_index_or xs n 0) in
        let more = parts_at (laid s handlers) (drop (n + 1) xs) in
        c.in_ok-last.ensures.linked g x more (c.part_of.ensures.described s handlers counted)
        ∙ (ap (λ ys. links_view g c.loop-number.links.items ++ links_after g (link_view g c.loop-number.last) (parts_at (laid s handlers) ys)) (sym (from_number xs n within))
        ∙ c.loop-number.invariant.so_far g s handlers counted)

pub returns-clause-linked : goal.returns-clause-linked
returns-clause-linked c = λ g s handlers counted.
    sym (append-nil (links_view g c.push.new.self.items))
    ∙ (more_links g c.loop-number.links.items c.push.new.self.items c.loop-number.last [] c.in_ok-push.ensures.items
    ∙ (ap (λ ys. links_view g c.loop-number.links.items ++ links_after g (link_view g c.loop-number.last) (parts_at (laid s handlers) ys))
    (sym (past_end c.args.nodes.now c.loop-number.number c.loop-number-test.false))
    ∙ c.loop-number.invariant.so_far g s handlers counted))
