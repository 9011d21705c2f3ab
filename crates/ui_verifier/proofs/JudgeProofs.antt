-- A definition that breaks no rule is judged by the numbers that are reported of it.
use Rattle.std.proofs.Common.{◌≡◌, inl, inr, refl, sym, ap, subst, ◌∙◌, ℕ, ◌+◌, ◌≤◌, min, true, List, length, map, None, arith}
use Rattle.std.proofs.lemmas.List.{length-map}
use Rattle.ui_machine.specs.Definition.{Definition}
use Rattle.law_typing.specs.Graph.{Raised, connections, graph}
use Rattle.law_typing.specs.Graph.Channels.{Channel, Entry, channels}
use Rattle.law_typing.specs.Graph.Channels as entries
use Rattle.law_typing.specs.Graph.Costs.{bound}
use Rattle.law_typing.specs.Graph.Depths.{depth}
use Rattle.law_typing.specs.Graph.Ranks.{node}
use Rattle.law_typing.specs.Graph.Tables.{Table, Tables, entry}
use Rattle.law_typing.specs.Laws.{IsIn}
use Rattle.law_typing.specs.Laws.Capped.{capped}
use Rattle.law_typing.specs.Rules.Sites.{sites}
use Rattle.law_typing.specs.Verdict.{most_bound, told, too_large}
use Rattle.law_typing.specs.Verdict.Accepted.{Accepted}
use Rattle.law_typing.specs.Verdict.Inherits.{inherits}
use Rattle.law_typing.proofs.EdgeProofs.{append_left, append_right}
use Rattle.law_typing.proofs.Lists.{each_in, map_in}
use Rattle.law_typing.proofs.OneSolutionProofs.{map_same}
use Rattle.law_judging.specs.CappedNumbers.{AreNumbers, IsReckoned}
use Rattle.law_judging.specs.FirstFaults.{first_fault}
use Rattle.law_judging.proofs.ReckonProofs.{reckoned_is_accepted, reckoned_is_judged}
use Rattle.law_idle.specs.Idle.{busy_channels, busy_graph, is_busy}
use Rattle.law_idle.proofs.IdleProofs.{others_are_idle}
use Rattle.law_idle.proofs.Resting.{costs_are_added, depths_are_added, ranks_are_added}
use Rattle.verified.specs.Told.{AreNumbersOf}
use Rattle.verified.specs.declared.numbers.Numbers.{Numbers}
use Rattle.ui_verifier.specs.Bounds.{AreBusyNumbers, AreCapped}
use Rattle.ui_verifier.specs.Verdicts.{AreAccepted}
use Rattle.ui_verifier.proofs.IdleNumbers.{idle_added, small_idle}
use Rattle.ui_verifier.proofs.LargeProofs.{raised_entries}

-- the numbers of a definition by those of its busy channels
pub record IsAdded (d : Definition) (n : Numbers) : Type 0 where
  pub by_rank : Table
  pub by_cost : Tables
  pub by_depth : Tables
  pub reckoned : IsReckoned d by_rank by_cost by_depth
  pub capped : AreCapped d n by_rank by_cost by_depth

pub added : (d : Definition) (n : Numbers) → first_fault d ≡ None → AreBusyNumbers d n → d.most_objects ≤ 4096 → IsAdded d n
added d n lawful are few =
    let ranks = ranks_are_added (graph d) (is_busy d) are.by_rank (others_are_idle d) are.ranking in
    let costs = costs_are_added (graph d) (is_busy d) are.by_cost (others_are_idle d) are.solves_costs in
    let depths = depths_are_added (graph d) (is_busy d) are.by_depth (others_are_idle d) are.solves_depths in
    let adds = idle_added d n are.idle (small_idle n.idle d.most_objects are.idle few) in
    record {
      by_rank = ranks.0;
      by_cost = costs.0;
      by_depth = depths.0;
      reckoned = record { lawful = lawful; ranking = ranks.1.solves; solves_costs = costs.1.solves; solves_depths = depths.1.solves };
      capped = adds are.by_rank ranks.0 are.by_cost costs.0 are.by_depth depths.0 are.capped ranks.1 costs.1 depths.1;
    }

small_capped : (b m : ℕ) → b ≤ m → min b (1 + m) ≡ b
small_capped b m low = omega (arith, low)

module _ (d : Definition) (n : Numbers) (r : Table) (t p : Tables) (known : IsReckoned d r t p) (are : AreCapped d n r t p)
    (none : too_large (graph d) t ≡ None) (inherited : inherits d ≡ true) where
  abbrev a : Accepted d
  a = (reckoned_is_accepted d r t p inherited known none).0

  same : AreNumbers d r t p a
  same = (reckoned_is_accepted d r t p inherited known none).1

  same_bound : (e : Entry) → IsIn e (told (graph d)) → capped (bound (graph d) t e) ≡ bound (graph d) a.weighed.costs e
  same_bound e there =
      let low = each_in (λ (x : Entry). bound (graph d) a.weighed.costs x ≤ most_bound) (told (graph d)) a.weighed.bounded e there in
      ap capped (sym (same.same_bounds e there)) ∙ small_capped (bound (graph d) a.weighed.costs e) most_bound low

  channel_told : (c : Channel) → IsIn c (channels d) → IsIn (entries.at c) (told (graph d))
  channel_told c there =
      inr (append_left (map (λ (x : Raised). entries.at x.channel) (graph d).raised) (map entries.source (graph d).sources) (entries.at c)
      (subst (IsIn (entries.at c)) (sym (raised_entries d (connections d (sites d)) (channels d))) (map_in entries.at (channels d) c there)))

  source_told : (program : ℕ) → IsIn program (graph d).sources → IsIn (entries.source program) (told (graph d))
  source_told program there =
      inr (append_right (map (λ (x : Raised). entries.at x.channel) (graph d).raised) (map entries.source (graph d).sources) (entries.source program)
      (map_in entries.source (graph d).sources program there))

  numbers_told : AreNumbersOf d n a
  numbers_told = record {
    ranks = are.ranks ∙ ap (λ (x : Table). map (λ (c : Channel). entry x (node (graph d) c)) (channels d)) (sym same.same_ranks);
    bounds = are.bounds
        ∙ map_same (λ (c : Channel). capped (bound (graph d) t (entries.at c))) (λ (c : Channel). bound (graph d) a.weighed.costs (entries.at c)) (channels d)
        (λ c there. same_bound (entries.at c) (channel_told c there));
    build = are.build ∙ same_bound entries.build (inl refl);
    sources = are.sources
        ∙ map_same {B = ℕ × ℕ} (λ (q : ℕ). (q, capped (bound (graph d) t (entries.source q)))) (λ (q : ℕ). (q, bound (graph d) a.weighed.costs (entries.source q)))
        (graph d).sources
        (λ q there. ap (λ k. (q, k)) (same_bound (entries.source q) (source_told q there)));
    depth = are.depth ∙ ap (depth (graph d)) (sym same.same_depths);
  }

  pub accepted : AreAccepted d n
  accepted = ((a, numbers_told), reckoned_is_judged d r t p known none)
