use Rattle.std.proofs.Common.{◌∙◌, sym, ap, ◌+◌, ◌++◌, ◌≤◌, [], ◌∷◌, length, drop, arith}
use Rattle.ui_machine.specs.Definition.Places.{Bind}
use Rattle.ui_machine.specs.Definition.Properties.{has_flags}
use Rattle.law_typing.specs.Graph.Channels.{target_of}
use Rattle.definition_format.specs.Meaning.{bind_view}
use Rattle.law_typing.specs.Graph.{created_by}
use Rattle.verify_graph.specs.ChannelView.{channels_of}
use Rattle.verify_graph.proofs.BoundLists.{all_kept, next_kept, none_kept}
use Rattle.verify_graph.proofs.ChannelLists.{added, adds}
use Rattle.verify_graph.proofs.bound_channels.created.Goals as goal

pub returns-in_default : goal.returns-in_default
returns-in_default c =
    let bs = c.args.definition.now.bindings in
    let n = c.loop-number.number in
    added [] (channels_of c.loop-number.channels.items) (created_by (drop n bs)) (created_by bs) (none_kept (λ (b : Bind). has_flags 2 b.flags) target_of bs n c.in_default.ensures) c.loop-number.invariant

pub loop-number-preserved : goal.loop-number-preserved
loop-number-preserved c =
    let bs = c.args.definition.now.bindings in
    let n = c.loop-number.number in
    let b = bind_view c.in-Some.binding.now in
    let so_far = channels_of c.loop-number.channels.items in
    adds [] so_far (channels_of c.add_created.new.channels.items) (created_by (b ∷ [])) (created_by (drop (n + 1) bs)) (created_by bs) c.in_ok-add_created.ensures
    (ap (λ xs. so_far ++ xs) (sym (next_kept (λ (b : Bind). has_flags 2 b.flags) target_of bs n b c.in-Some.ensures)) ∙ c.loop-number.invariant)

pub returns : goal.returns
returns c =
    let bs = c.args.definition.now.bindings in
    let n = c.loop-number.number in
    let behind : length bs ≤ n = omega (arith, c.loop-number-test.false, c.binding_count-number-end.ensures) in
    added [] (channels_of c.loop-number.channels.items) (created_by (drop n bs)) (created_by bs) (all_kept (λ (b : Bind). has_flags 2 b.flags) target_of bs n behind) c.loop-number.invariant
