-- An accepted definition is judged to be accepted.
use Rattle.std.proofs.Common.{◌≡◌, refl, sym, ap, true, ◌∙◌, ℕ, ◌≤◌, cond, List, [], ◌∷◌, ◌++◌, Option, None, Some}
use Rattle.std.specs.Prelude.{nat_lt}
use Rattle.std.specs.List.{find}
use Rattle.std.proofs.lemmas.Bool.{le-ltb}
use Rattle.ui_machine.specs.Definition.{Definition}
use Rattle.law_typing.specs.Graph.Channels.{Entry, Link}
use Rattle.law_typing.specs.Rules.Sites.{typing_faults}
use Rattle.law_typing.specs.Rules.Handlers.{handler_faults}
use Rattle.law_typing.specs.Rules.BindingRules.{binding_faults, pair_faults}
use Rattle.law_typing.specs.Rules.Brackets.{bracket_faults}
use Rattle.law_typing.specs.Graph.{Graph, graph}
use Rattle.law_typing.specs.Graph.Tables.{Table, Tables}
use Rattle.law_typing.specs.Graph.Ranks.{ranks, IsRanking, is_cycle}
use Rattle.law_typing.specs.Graph.Costs.{SolvesCosts, costs, no_tables, bound, program_cost, channel_cost}
use Rattle.law_typing.specs.Graph.Depths.{SolvesDepths, depths, program_depth, channel_depth}
use Rattle.law_typing.specs.Verdict.Report.{report}
use Rattle.law_typing.specs.Verdict.{accepted, local_faults, most_bound, told, too_large, unless_too_large, by_tables, by_ranks, by_graph, by_faults, has_cycle}
use Rattle.law_typing.specs.Verdict.Accepted.{Each, Accepted}
use Rattle.law_typing.specs.Laws.OneSolution.{IsPaired}
use Rattle.law_typing.specs.Rules.Faults.{Fault}
use Rattle.law_typing.specs.Laws.{AcceptedIsJudged, CycleIsReal}
use Rattle.law_typing.proofs.Lists.{both_empty}
use Rattle.law_typing.proofs.SettledProofs.{ranks_are, costs_are, depths_are}
use Rattle.law_typing.proofs.OneSolutionProofs.{program_cost_same, cost_at_same, program_depth_same, depth_at_same, one_ranking, one_cost, one_depth}
use Rattle.law_typing.proofs.CycleProofs.{unranked_has_cycle}
use Rattle.law_typing.proofs.PairProofs.{accepted_is_paired, paired_by}
use Rattle.law_typing.proofs.SettlesProofs.{Ends, has_ranks}
use Rattle.law_typing.proofs.SettlesTables.{has_tables}

-- ** what is reckoned is the solution

module _ (g : Graph) (r : Table) (solved : IsRanking g r) (paired : IsPaired g) where
  pub ranks_found : ranks g ≡ Some r
  ranks_found =
      let e = has_ranks g r solved in
      e.is ∙ ap (λ (x : Table). Some x) (one_ranking g e.at r (ranks_are g e.at e.is) solved)

  pub costs_end : Ends (costs g)
  costs_end =
      has_tables g r solved paired (channel_cost g) (program_cost g) (program_cost_same g) (λ a b x same others. cost_at_same g a b x x.channel same)
      (no_tables g) (λ x. 0) refl

  pub costs_found : (t : Tables) → SolvesCosts g t → costs g ≡ Some t
  costs_found t solves =
      let e = costs_end in
      e.is ∙ ap (λ (x : Tables). Some x) (one_cost g r solved paired e.at t (costs_are g e.at e.is) solves)

  pub depths_end : Ends (depths g)
  depths_end =
      has_tables g r solved paired (channel_depth g) program_depth (program_depth_same g) (λ a b x same others. depth_at_same g a b x x.channel same others)
      (no_tables g) (λ x. 0) refl

  pub depths_found : (t : Tables) → SolvesDepths g t → depths g ≡ Some t
  depths_found t solves =
      let e = depths_end in
      e.is ∙ ap (λ (x : Tables). Some x) (one_depth g r solved paired e.at t (depths_are g e.at e.is) solves)

-- ** no bound is too large

none_found : (g : Graph) (t : Tables) (es : List Entry) → Each (λ e. bound g t e ≤ most_bound) es → find (λ e. nat_lt most_bound (bound g t e)) es ≡ None
none_found g t [] all = refl
none_found g t (e ∷ es) all =
    ap (λ b. cond b (Some e) (find (λ e. nat_lt most_bound (bound g t e)) es)) (le-ltb most_bound (bound g t e) all.0) ∙ none_found g t es all.1

-- ** no fault

no_two : {A : Type 0} (xs ys : List A) → xs ≡ [] → ys ≡ [] → xs ++ ys ≡ []
no_two xs ys e f = ap (λ zs. zs ++ ys) e ∙ f

no_faults : (d : Definition) → Accepted d → local_faults d ≡ []
no_faults d a =
    no_two (typing_faults d) (handler_faults d ++ (binding_faults d ++ (pair_faults d ++ bracket_faults d))) a.typed
    (no_two (handler_faults d) (binding_faults d ++ (pair_faults d ++ bracket_faults d)) a.handlers
    (no_two (binding_faults d) (pair_faults d ++ bracket_faults d) a.bindings
    (no_two (pair_faults d) (bracket_faults d) a.pairs a.brackets)))

module _ (d : Definition) (g : Graph) (r : Table) (c p : Tables) where
  judged_by : ranks g ≡ Some r → costs g ≡ Some c → depths g ≡ Some p → too_large g c ≡ None → by_graph d g ≡ accepted (report d g r c p)
  judged_by is_r is_c is_p none =
      ap (by_ranks d g) is_r
      ∙ (ap (λ x. by_tables d g (Some r) x (depths g)) is_c
      ∙ (ap (by_tables d g (Some r) (Some c)) is_p ∙ ap (unless_too_large (report d g r c p)) none))

pub accepted_is_judged : AcceptedIsJudged
accepted_is_judged d a =
    let w = a.weighed in
    let paired = accepted_is_paired d a in
    ap (by_faults d) (no_faults d a)
    ∙ judged_by d (graph d) w.ranks w.costs w.depths (ranks_found (graph d) w.ranks w.ranking paired)
    (costs_found (graph d) w.ranks w.ranking paired w.costs w.solves_costs) (depths_found (graph d) w.ranks w.ranking paired w.depths w.solves_depths)
    (none_found (graph d) w.costs (told (graph d)) w.bounded)

-- ** cycles

no_fault : (d : Definition) (faults : List Fault) → by_faults d faults ≡ has_cycle → (faults ≡ []) × (by_graph d (graph d) ≡ has_cycle)
no_fault d [] e = (refl, e)
no_fault d (f ∷ fs) e = absurd (cc)

small_or_refused : (lines : List (List ℕ)) (o : Option Entry) → unless_too_large lines o ≡ has_cycle → ⊥
small_or_refused lines None e = absurd (cc)
small_or_refused lines (Some x) e = absurd (cc)

module _ (d : Definition) (g : Graph) (paired : IsPaired g) where
  -- with ranks there are costs and depths, and no cycle is reported
  no_cycle_told : (r : Table) → ranks g ≡ Some r → by_ranks d g (Some r) ≡ has_cycle → ⊥
  no_cycle_told r is e =
      let solved = ranks_are g r is in
      let c = costs_end g r solved paired in
      let p = depths_end g r solved paired in
      small_or_refused (report d g r c.at p.at) (too_large g c.at)
      (sym (ap (λ x. by_tables d g (Some r) x (depths g)) c.is ∙ ap (by_tables d g (Some r) (Some c.at)) p.is) ∙ e)

  cycle_by : (o : Option Table) → ranks g ≡ o → by_ranks d g o ≡ has_cycle → (links : List Link) × (is_cycle g links ≡ true)
  cycle_by None is e = unranked_has_cycle g is
  cycle_by (Some r) is e = absurd (no_cycle_told r is e)

pub cycle_is_real : CycleIsReal
cycle_is_real d e =
    let n = no_fault d (local_faults d) e in
    let a = both_empty (typing_faults d) (handler_faults d ++ (binding_faults d ++ (pair_faults d ++ bracket_faults d))) n.0 in
    let b = both_empty (handler_faults d) (binding_faults d ++ (pair_faults d ++ bracket_faults d)) a.1 in
    let c = both_empty (binding_faults d) (pair_faults d ++ bracket_faults d) b.1 in
    let p = both_empty (pair_faults d) (bracket_faults d) c.1 in
    cycle_by d (graph d) (paired_by d c.0 p.0) (ranks (graph d)) refl n.1
