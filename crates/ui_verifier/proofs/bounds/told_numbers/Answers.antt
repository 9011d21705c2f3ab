use Rattle.std.proofs.Common.{◌∙◌, sym, ap, subst, ℕ, ◌+◌, max, map, length}
use Rattle.ui_machine.specs.Definition.{Definition}
use Rattle.ui_machine.specs.Seq.{listed}
use Rattle.law_typing.specs.Graph.Channels.{Channel}
use Rattle.law_idle.specs.Idle.{busy_channels, busy_graph}
use Rattle.law_typing.specs.Graph.Costs.{node_cost}
use Rattle.law_typing.specs.Graph.Tables.{entry, greatest}
use Rattle.law_typing.specs.Laws.Capped.{capped}
use Rattle.verify_numbers.specs.Tables.{value_of}
use Rattle.verify_order.specs.Numbers.{AreWithin, of_node}
use Rattle.verify_sketches.specs.Numbered.{program}
use Rattle.verify_sketches.specs.View.{channel_view, sketch_view}
use Rattle.verify_numbers.specs.Counts.{Counts, at, at_in}
use Rattle.verify_numbers.proofs.Lists.{mapped_length}
use Rattle.ui_verifier.specs.ByChannel.{Gives, GivesCapped, build_cost, makings_depth}
use Rattle.ui_verifier.specs.Bounds.{with_objects}
use Rattle.ui_verifier.proofs.FewNumbers.{within_listed}
use Rattle.ui_verifier.proofs.ToldNumbers.{bounds_are, by_cost, by_depth, cost_list, costs_are, depth_is, depth_list, depths_are, gives_costs, gives_depths, ranks_are, sources_are}
use Rattle.ui_verifier.proofs.bounds.told_numbers.Goals as goal

pub build_bound-requires : goal.build_bound-requires
build_bound-requires c =
    let d = c.args.lookups.now in
    let s = sketch_view c.args.sketch.now in
    let n = c.args.nodes.now in
    let f = value_of s (at_in s) n.costs.items in
    let costs = c.as_slice-7.ensures.value ∙ (c.in_ok-costs.ensures
    ∙ (ap (λ vs. listed (value_of s (at_in s) vs) (length c.args.sketch.now.channels.items)) c.as_slice.ensures.value
    ∙ ap (listed f) (sym (mapped_length channel_view c.args.sketch.now.channels.items)))) in
    ap (λ xs. length xs) (costs ∙ costs_are d s n c.requires.sketched c.requires.reckoned)
    ∙ (mapped_length (λ (x : Channel). capped (node_cost (busy_graph d) (by_cost d s n c.requires.sketched c.requires.reckoned) x)) (busy_channels d)
    ∙ ap (λ cs. length cs) (sym c.requires.known))

pub ranks_of-requires : goal.ranks_of-requires
ranks_of-requires c =
    let s = sketch_view c.args.sketch.now in
    let n = c.args.nodes.now in
    let count = length c.args.sketch.now.channels.items in
    subst (λ xs. AreWithin xs 4_294_967_294)
    (sym (c.as_slice-5.ensures.value ∙ (c.in_ok-ranks.ensures ∙ ap (λ vs. listed (value_of s (at_in s) vs) count) c.as_slice-2.ensures.value)))
    (within_listed (value_of s (at_in s) n.ranks.items) count 4_294_967_294 (λ i. c.requires.few.ranks _))

pub depth_of-requires-clause-few : goal.depth_of-requires-clause-few
depth_of-requires-clause-few c =
    let s = sketch_view c.args.sketch.now in
    let n = c.args.nodes.now in
    let count = length c.args.sketch.now.channels.items in
    subst (λ xs. AreWithin xs 2_147_483_648)
    (sym (c.as_slice-10.ensures.value ∙ (c.in_ok-depths.ensures ∙ ap (λ vs. listed (value_of s (at_in s) vs) count) c.as_slice-3.ensures.value)))
    (within_listed (value_of s (at_in s) n.depths.items) count 2_147_483_648 (λ i. c.requires.few.depths _))

pub depth_of-requires-clause-programs : goal.depth_of-requires-clause-programs
depth_of-requires-clause-programs c =
    let l = c.args.layout.now in
    let n = c.args.nodes.now in
    let count = length c.args.lookups.now.programs in
    subst (λ xs. AreWithin xs 2_147_483_648)
    (sym (c.as_slice-11.ensures.value ∙ (c.in_ok-programs.ensures ∙ ap (λ vs. listed (λ p. of_node vs (at l (program p))) count) c.as_slice-4.ensures.value)))
    (within_listed (λ p. of_node n.depths.items (at l (program p))) count 2_147_483_648 (λ p. c.requires.few.depths (at l (program p))))

pub depth_of-requires-clause-count : goal.depth_of-requires-clause-count
depth_of-requires-clause-count c =
    let d = c.args.lookups.now in
    let s = sketch_view c.args.sketch.now in
    let n = c.args.nodes.now in
    let f = value_of s (at_in s) n.depths.items in
    let depths = c.as_slice-10.ensures.value ∙ (c.in_ok-depths.ensures
    ∙ (ap (λ vs. listed (value_of s (at_in s) vs) (length c.args.sketch.now.channels.items)) c.as_slice-3.ensures.value
    ∙ ap (listed f) (sym (mapped_length channel_view c.args.sketch.now.channels.items)))) in
    ap (λ xs. length xs) (depths ∙ depths_are d s n c.requires.sketched c.requires.reckoned)
    ∙ (mapped_length (λ (x : Channel). entry (by_depth d s n c.requires.sketched c.requires.reckoned).channels x) (busy_channels d)
    ∙ ap (λ cs. length cs) (sym c.requires.known))

pub returns-clause-idle : goal.returns-clause-idle
returns-clause-idle c =
    let objects = c.limits-objects.ensures.objects ∙ ap (λ (x : Definition). x.most_objects) c.definition.ensures in
    c.capped_sum.ensures ∙ (ap (λ k. capped (1 + k)) c.from.ensures ∙ ap (λ k. capped (1 + k)) objects)

pub returns-clause-capped : goal.returns-clause-capped
returns-clause-capped c =
    let d = c.args.lookups.now in
    let s = sketch_view c.args.sketch.now in
    let n = c.args.nodes.now in
    let count = mapped_length channel_view c.args.sketch.now.channels.items in
    let is_costs = c.in_ok-costs.ensures
    ∙ (ap (λ vs. listed (value_of s (at_in s) vs) (length c.args.sketch.now.channels.items)) c.as_slice.ensures.value
    ∙ ap (listed (value_of s (at_in s) n.costs.items)) (sym count)) in
    let is_ranks = c.in_ok-ranks.ensures
    ∙ (ap (λ vs. listed (value_of s (at_in s) vs) (length c.args.sketch.now.channels.items)) c.as_slice-2.ensures.value
    ∙ ap (listed (value_of s (at_in s) n.ranks.items)) (sym count)) in
    let is_depths = c.in_ok-depths.ensures
    ∙ (ap (λ vs. listed (value_of s (at_in s) vs) (length c.args.sketch.now.channels.items)) c.as_slice-3.ensures.value
    ∙ ap (listed (value_of s (at_in s) n.depths.items)) (sym count)) in
    let objects = c.limits-objects.ensures.objects ∙ ap (λ (x : Definition). x.most_objects) c.definition.ensures in
    let costs_given = subst (λ cs. GivesCapped cs c.as_slice-7.result.now (node_cost (busy_graph d) (by_cost d s n c.requires.sketched c.requires.reckoned))) (sym c.requires.known)
    (subst (λ vs. GivesCapped (busy_channels d) vs (node_cost (busy_graph d) (by_cost d s n c.requires.sketched c.requires.reckoned))) (sym (c.as_slice-7.ensures.value ∙ is_costs))
    (gives_costs d s n c.requires.sketched c.requires.reckoned)) in
    let depths_given = subst (λ cs. Gives cs c.as_slice-10.result.now (entry (by_depth d s n c.requires.sketched c.requires.reckoned).channels)) (sym c.requires.known)
    (subst (λ vs. Gives (busy_channels d) vs (entry (by_depth d s n c.requires.sketched c.requires.reckoned).channels)) (sym (c.as_slice-10.ensures.value ∙ is_depths))
    (gives_depths d s n c.requires.sketched c.requires.reckoned)) in
    record {
      ranks = c.in_ok-ranks-2.ensures ∙ (c.as_slice-5.ensures.value ∙ (is_ranks ∙ ranks_are d s n c.requires.sketched c.requires.reckoned));
      bounds = c.in_ok-bounds.ensures
          ∙ (ap (with_objects c.limits-objects.result.objects) (c.as_slice-6.ensures.value ∙ is_costs)
          ∙ (ap (λ k. with_objects k (cost_list d s n c.requires.sketched c.requires.reckoned)) objects ∙ bounds_are d s n c.requires.sketched c.requires.reckoned));
      build = c.in_ok-build.ensures (node_cost (busy_graph d) (by_cost d s n c.requires.sketched c.requires.reckoned)) costs_given
          ∙ ap (λ k. capped (build_cost d (node_cost (busy_graph d) (by_cost d s n c.requires.sketched c.requires.reckoned)) + k)) objects;
      sources = c.in_ok-sources.ensures
          ∙ (ap (map (λ (p : ℕ). (p, capped (of_node c.as_slice-8.result.now (at c.args.layout.now (program p)) + c.limits-objects.result.objects)))) (c.as_slice-9.ensures.value ∙ c.in_ok-named.ensures)
          ∙ (ap (λ vs. map {B = ℕ × ℕ} (λ (p : ℕ). (p, capped (of_node vs (at c.args.layout.now (program p)) + c.limits-objects.result.objects))) (busy_graph d).sources) c.as_slice-8.ensures.value
          ∙ (ap (λ (k : Counts). map {B = ℕ × ℕ} (λ (p : ℕ). (p, capped (of_node n.costs.items (at k (program p)) + c.limits-objects.result.objects))) (busy_graph d).sources) c.requires.counted
          ∙ (ap (λ k. map {B = ℕ × ℕ} (λ (p : ℕ). (p, capped (of_node n.costs.items (at_in s (program p)) + k))) (busy_graph d).sources) objects
          ∙ sources_are d s n c.requires.sketched c.requires.reckoned))));
      depth = c.in_ok-depth.ensures (entry (by_depth d s n c.requires.sketched c.requires.reckoned).channels) depths_given
          ∙ (ap (λ vs. max (greatest (λ (k : ℕ). k) vs) (max (greatest (λ (k : ℕ). k) c.as_slice-11.result.now) (makings_depth d (entry (by_depth d s n c.requires.sketched c.requires.reckoned).channels)))) (c.as_slice-10.ensures.value ∙ is_depths)
          ∙ (ap (λ vs. max (greatest (λ (k : ℕ). k) (depth_list d s n c.requires.sketched c.requires.reckoned)) (max (greatest (λ (k : ℕ). k) vs) (makings_depth d (entry (by_depth d s n c.requires.sketched c.requires.reckoned).channels)))) (c.as_slice-11.ensures.value ∙ c.in_ok-programs.ensures)
          ∙ (ap (λ vs. max (greatest (λ (k : ℕ). k) (depth_list d s n c.requires.sketched c.requires.reckoned)) (max (greatest (λ (k : ℕ). k) (listed (λ p. of_node vs (at c.args.layout.now (program p))) (length d.programs))) (makings_depth d (entry (by_depth d s n c.requires.sketched c.requires.reckoned).channels)))) c.as_slice-4.ensures.value
          ∙ (ap (λ (k : Counts). max (greatest (λ (k : ℕ). k) (depth_list d s n c.requires.sketched c.requires.reckoned)) (max (greatest (λ (k : ℕ). k) (listed (λ p. of_node n.depths.items (at k (program p))) (length d.programs))) (makings_depth d (entry (by_depth d s n c.requires.sketched c.requires.reckoned).channels)))) c.requires.counted
          ∙ depth_is d s n c.requires.sketched c.requires.reckoned))));
    }
