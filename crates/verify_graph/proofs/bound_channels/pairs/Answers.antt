use Rattle.std.proofs.Common.{◌∙◌, sym, ap, ◌+◌, ◌++◌, ◌≤◌, [], ◌∷◌, length, drop, arith}
use Rattle.law_typing.specs.Graph.Channels.{is_pair, source_of, target_of}
use Rattle.definition_format.specs.Meaning.{bind_view}
use Rattle.law_typing.specs.Graph.{pairs_of, in_order}
use Rattle.verify_graph.specs.Pairs.{pairs_view}
use Rattle.verify_graph.proofs.BoundLists.{all_kept, next_kept, none_kept}
use Rattle.verify_graph.proofs.ChannelLists.{added, adds}
use Rattle.verify_graph.proofs.bound_channels.pairs.Goals as goal

pub returns-in_default : goal.returns-in_default
returns-in_default c =
    let bs = c.args.definition.now.bindings in
    let n = c.loop-number.number in
    added [] (pairs_view c.loop-number.pairs.items) (pairs_of (drop n bs)) (pairs_of bs) (none_kept is_pair (λ b. in_order (source_of b) (target_of b)) bs n c.in_default.ensures) c.loop-number.invariant

pub loop-number-preserved : goal.loop-number-preserved
loop-number-preserved c =
    let bs = c.args.definition.now.bindings in
    let n = c.loop-number.number in
    let b = bind_view c.in-Some.binding.now in
    let so_far = pairs_view c.loop-number.pairs.items in
    adds [] so_far (pairs_view c.add_pair.new.pairs.items) (pairs_of (b ∷ [])) (pairs_of (drop (n + 1) bs)) (pairs_of bs) c.in_ok-add_pair.ensures
    (ap (λ xs. so_far ++ xs) (sym (next_kept is_pair (λ b. in_order (source_of b) (target_of b)) bs n b c.in-Some.ensures)) ∙ c.loop-number.invariant)

pub returns : goal.returns
returns c =
    let bs = c.args.definition.now.bindings in
    let n = c.loop-number.number in
    let behind : length bs ≤ n = omega (arith, c.loop-number-test.false, c.binding_count-number-end.ensures) in
    added [] (pairs_view c.loop-number.pairs.items) (pairs_of (drop n bs)) (pairs_of bs) (all_kept is_pair (λ b. in_order (source_of b) (target_of b)) bs n behind) c.loop-number.invariant
