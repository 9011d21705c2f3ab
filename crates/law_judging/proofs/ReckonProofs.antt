-- What is judged by ranks, capped costs and depths.
use Rattle.std.proofs.Common.{◌≡◌, refl, sym, ap, subst, ◌∙◌, ℕ, suc, ◌+◌, ◌-◌, ◌≤◌, ◌<◌, Bool, true, false, cond, List, [], ◌∷◌, ◌++◌, Option, None, Some, arith}
use Rattle.std.specs.Prelude.{nat_lt}
use Rattle.std.specs.List.{find}
use Rattle.std.proofs.lemmas.Bool.{ltb-false}
use Rattle.std.proofs.lemmas.Bool.Decides.{nat_tests}
use Rattle.ui_machine.specs.Definition.{Definition}
use Rattle.law_typing.specs.Graph.Channels.{Entry}
use Rattle.law_typing.specs.Graph.Channels as entries
use Rattle.law_typing.specs.Rules.Faults.{bound_too_large}
use Rattle.law_typing.specs.Rules.Sites.{typing_faults}
use Rattle.law_typing.specs.Rules.Handlers.{handler_faults}
use Rattle.law_typing.specs.Rules.BindingRules.{binding_faults, pair_faults}
use Rattle.law_typing.specs.Rules.Brackets.{bracket_faults}
use Rattle.law_typing.specs.Graph.{Graph, graph}
use Rattle.law_typing.specs.Graph.Tables.{Table, Tables}
use Rattle.law_typing.specs.Graph.Costs.{SolvesCosts, bound, cost, costs}
use Rattle.law_typing.specs.Graph.Depths.{depths}
use Rattle.law_typing.specs.Laws.Capped.{capped_tables}
use Rattle.law_typing.specs.Laws.OneSolution.{IsPaired}
use Rattle.law_typing.specs.Verdict.{by_ranks, by_tables, most_bound, told, too_large, unless_too_large, verdict}
use Rattle.law_typing.specs.Verdict.Accepted.{Each}
use Rattle.law_typing.specs.Verdict.Judges.{Answers}
use Rattle.law_typing.specs.Verdict.Report.{report}
use Rattle.law_typing.proofs.Lists.{both_empty, each_in}
use Rattle.law_typing.proofs.RankProofs.{ranked_is_acyclic}
use Rattle.law_typing.proofs.SettledProofs.{costs_are}
use Rattle.law_typing.proofs.CappedProofs.{costs_capped}
use Rattle.law_typing.proofs.PairProofs.{paired_by}
use Rattle.law_typing.proofs.ExactProofs.{ranks_found, costs_end, depths_found}
use Rattle.law_judging.specs.CappedNumbers.{IsReckoned, LargeIsTold, ReckonedIsAccepted, ReckonedIsJudged}
use Rattle.law_judging.proofs.FaultProofs.{by_graph_alone, lawful}
use Rattle.law_judging.proofs.CapProofs.{capped_is_solved}

-- ** bounds

same_test : (m a b : ℕ) → (m < a → m < b) → (m < b → m < a) → nat_lt m a ≡ nat_lt m b
same_test m a b there back = grind (arith, nat_tests)

found_same : {A : Type 0} (f h : A → Bool) (xs : List A) → ((x : A) → f x ≡ h x) → find f xs ≡ find h xs
found_same f h [] same = refl
found_same f h (x ∷ xs) same = ap (λ b. cond b (Some x) (find f xs)) (same x) ∙ ap (cond (h x) (Some x)) (found_same f h xs same)

-- the same bounds are too large
pub large_same : (g : Graph) (u : Tables) → too_large g (capped_tables u) ≡ too_large g u
large_same g u =
    let like = costs_capped g u in
    found_same (λ e. nat_lt most_bound (bound g (capped_tables u) e)) (λ e. nat_lt most_bound (bound g u e)) (told g)
    (λ e. same_test most_bound (bound g (capped_tables u) e) (bound g u e) (like.2 e) (like.3 e))

none_large : (g : Graph) (t : Tables) (es : List Entry) → find (λ e. nat_lt most_bound (bound g t e)) es ≡ None → Each (λ e. bound g t e ≤ most_bound) es
none_large g t [] none = tt
none_large g t (e ∷ es) none = by (nat_lt most_bound (bound g t e)) refl (none_large g t es) none
  where
    by : (b : Bool) → nat_lt most_bound (bound g t e) ≡ b →
        (find (λ e. nat_lt most_bound (bound g t e)) es ≡ None → Each (λ e. bound g t e ≤ most_bound) es) →
        cond b (Some e) (find (λ e. nat_lt most_bound (bound g t e)) es) ≡ None → Each (λ e. bound g t e ≤ most_bound) (e ∷ es)
    by true is later h = absurd (cc)
    by false is later h = (ltb-false most_bound (bound g t e) is, later h)

-- a cost does not go by how many objects may live
module _ (g : Graph) where
  abbrev with_objects : ℕ → Graph
  with_objects m = record g { most_objects = m }

  cost_alike : (m : ℕ) (t : Tables) (e : Entry) → cost (with_objects m) t e ≡ cost g t e
  cost_alike m t entries.build = refl
  cost_alike m t (entries.at c) = refl
  cost_alike m t (entries.source program) = refl
  cost_alike m t entries.plain = refl

  -- so a bound that is small enough is the same by the capped costs
  between : (b c k m : ℕ) → k ≤ b → m ≡ b - k → (b < c + m → b < k + m) → (b < k + suc m → b < c + suc m) → c ≡ k
  between b c k m small is there back = grind arith

  pub bound_same : (u : Tables) (e : Entry) → bound g u e ≤ most_bound → bound g u e ≡ bound g (capped_tables u) e
  bound_same u e small =
      let k = cost g u e in
      let c = cost g (capped_tables u) e in
      let m : ℕ = most_bound - k in
      let low : k ≤ most_bound = omega (arith, small) in
      let there : most_bound < c + m → most_bound < k + m =
      λ h. subst (λ n. most_bound < n + m) (cost_alike m u e)
      ((costs_capped (with_objects m) u).2 e (subst (λ n. most_bound < n + m) (sym (cost_alike m (capped_tables u) e)) h)) in
      let back : most_bound < k + suc m → most_bound < c + suc m =
      λ h. subst (λ n. most_bound < n + suc m) (cost_alike (suc m) (capped_tables u) e)
      ((costs_capped (with_objects (suc m)) u).3 e (subst (λ n. most_bound < n + suc m) (sym (cost_alike (suc m) u e)) h)) in
      sym (ap (λ n. n + g.most_objects) (between most_bound c k m low refl there back))

-- ** a definition that breaks no rule

module _ (d : Definition) (r : Table) (t p : Tables) (known : IsReckoned d r t p) where
  abbrev g : Graph
  g = graph d

  record BreaksNone : Type 0 where
    pub typed : typing_faults d ≡ []
    pub handlers : handler_faults d ≡ []
    pub bindings : binding_faults d ≡ []
    pub pairs : pair_faults d ≡ []
    pub brackets : bracket_faults d ≡ []

  breaks_none : BreaksNone
  breaks_none =
      let a = both_empty (typing_faults d) (handler_faults d ++ (binding_faults d ++ (pair_faults d ++ bracket_faults d))) (lawful d known.lawful) in
      let b = both_empty (handler_faults d) (binding_faults d ++ (pair_faults d ++ bracket_faults d)) a.1 in
      let c = both_empty (binding_faults d) (pair_faults d ++ bracket_faults d) b.1 in
      let e = both_empty (pair_faults d) (bracket_faults d) c.1 in
      record { typed = a.0; handlers = b.0; bindings = c.0; pairs = e.0; brackets = e.1 }

  paired : IsPaired (graph d)
  paired = paired_by d breaks_none.bindings breaks_none.pairs

  -- its costs
  record HasCosts : Type 0 where
    pub found : Tables
    pub is : costs (graph d) ≡ Some found
    pub solves : SolvesCosts (graph d) found
    pub capped : t ≡ capped_tables found

  has_costs : HasCosts
  has_costs =
      let e = costs_end (graph d) r known.ranking paired in
      let solves = costs_are (graph d) e.at e.is in
      record { found = e.at; is = e.is; solves = solves; capped = capped_is_solved (graph d) r t e.at known.ranking paired known.solves_costs solves }

  judged : verdict d ≡ unless_too_large (report d (graph d) r has_costs.found p) (too_large (graph d) has_costs.found)
  judged =
      by_graph_alone d known.lawful
      ∙ (ap (by_ranks d (graph d)) (ranks_found (graph d) r known.ranking paired)
      ∙ (ap (λ x. by_tables d (graph d) (Some r) x (depths (graph d))) has_costs.is
      ∙ ap (by_tables d (graph d) (Some r) (Some has_costs.found)) (depths_found (graph d) r known.ranking paired p known.solves_depths)))

  large_by : too_large (graph d) has_costs.found ≡ too_large (graph d) t
  large_by = sym (large_same (graph d) has_costs.found) ∙ sym (ap (too_large (graph d)) has_costs.capped)

  judged_by : (o : Option Entry) → too_large (graph d) t ≡ o → verdict d ≡ unless_too_large (report d (graph d) r has_costs.found p) o
  judged_by o is = judged ∙ ap (unless_too_large (report d (graph d) r has_costs.found p)) (large_by ∙ is)

  bounded : too_large (graph d) t ≡ None → Each (λ e. bound (graph d) has_costs.found e ≤ most_bound) (told (graph d))
  bounded none = none_large (graph d) has_costs.found (told (graph d)) (large_by ∙ none)

pub large_is_told : LargeIsTold
large_is_told d r t p e known large =
    subst (λ w. Answers (graph d) w (Some (bound_too_large e))) (sym (judged_by d r t p known (Some e) large)) refl

pub reckoned_is_judged : ReckonedIsJudged
reckoned_is_judged d r t p known none = subst (λ w. Answers (graph d) w None) (sym (judged_by d r t p known None none)) refl

pub reckoned_is_accepted : ReckonedIsAccepted
reckoned_is_accepted d r t p inherits known none =
    let rules = breaks_none d r t p known in
    let c = has_costs d r t p known in
    let small = bounded d r t p known none in (
      record {
        typed = rules.typed;
        handlers = rules.handlers;
        bindings = rules.bindings;
        pairs = rules.pairs;
        brackets = rules.brackets;
        acyclic = ranked_is_acyclic (graph d) r known.ranking;
        weighed = record {
          ranks = r;
          costs = c.found;
          depths = p;
          ranking = known.ranking;
          solves_costs = c.solves;
          solves_depths = known.solves_depths;
          bounded = small;
        };
        inherits = inherits;
      },
      record {
        same_ranks = refl;
        same_costs = sym c.capped;
        same_depths = refl;
        same_bounds = λ e h.
            bound_same (graph d) c.found e (each_in (λ x. bound (graph d) c.found x ≤ most_bound) (told (graph d)) small e h)
            ∙ sym (ap (λ x. bound (graph d) x e) c.capped);
      },
    )
