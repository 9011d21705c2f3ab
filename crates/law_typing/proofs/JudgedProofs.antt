-- What is judged to be accepted is accepted.
use Rattle.std.proofs.Common.{◌≡◌, refl, sym, ap, ℕ, ◌≤◌, Bool, true, false, cond, List, [], ◌∷◌, ◌++◌, Option, None, Some}
use Rattle.std.specs.Prelude.{nat_lt}
use Rattle.std.specs.List.{find}
use Rattle.std.proofs.lemmas.Bool.{ltb-false}
use Rattle.ui_machine.specs.Definition.{Definition}
use Rattle.law_typing.specs.Graph.Channels.{Entry}
use Rattle.law_typing.specs.Rules.Faults.{Fault}
use Rattle.law_typing.specs.Rules.Sites.{typing_faults}
use Rattle.law_typing.specs.Rules.Handlers.{handler_faults}
use Rattle.law_typing.specs.Rules.BindingRules.{binding_faults, pair_faults}
use Rattle.law_typing.specs.Rules.Brackets.{bracket_faults}
use Rattle.law_typing.specs.Graph.{Graph, graph}
use Rattle.law_typing.specs.Graph.Tables.{Table, Tables}
use Rattle.law_typing.specs.Graph.Ranks.{ranks}
use Rattle.law_typing.specs.Graph.Costs.{costs, bound}
use Rattle.law_typing.specs.Graph.Depths.{depths}
use Rattle.law_typing.specs.Verdict.Inherits.{inherits}
use Rattle.law_typing.specs.Verdict.Report.{report}
use Rattle.law_typing.specs.Verdict.{Verdict, accepted, local_faults, most_bound, told, too_large, unless_too_large, by_tables, by_ranks, by_graph, by_faults}
use Rattle.law_typing.specs.Verdict.Accepted.{Each, Weighed}
use Rattle.law_typing.specs.Laws.{JudgedIsAccepted}
use Rattle.law_typing.proofs.Lists.{both_empty}
use Rattle.law_typing.proofs.RankProofs.{ranked_is_acyclic}
use Rattle.law_typing.proofs.SettledProofs.{ranks_are, costs_are, depths_are}

-- ** bounds

-- where the first large one is not there, none is
module _ (g : Graph) (t : Tables) where
  found_none : (large : Bool) (e : Entry) (es : List Entry) → nat_lt most_bound (bound g t e) ≡ large →
      (find (λ e. nat_lt most_bound (bound g t e)) es ≡ None → Each (λ e. bound g t e ≤ most_bound) es) →
      cond large (Some e) (find (λ e. nat_lt most_bound (bound g t e)) es) ≡ None → Each (λ e. bound g t e ≤ most_bound) (e ∷ es)
  found_none true e es is later none = absurd (cc)
  found_none false e es is later none = (ltb-false most_bound (bound g t e) is, later none)

  none_large : (es : List Entry) → find (λ e. nat_lt most_bound (bound g t e)) es ≡ None → Each (λ e. bound g t e ≤ most_bound) es
  none_large [] none = tt
  none_large (e ∷ es) none = found_none (nat_lt most_bound (bound g t e)) e es refl (none_large es) none

-- ** phases

-- a report, and what it says
record Told (d : Definition) (g : Graph) (lines : List (List ℕ)) : Type 0 where
  pub weighed : Weighed g
  pub is : lines ≡ report d g weighed.ranks weighed.costs weighed.depths

same_lines : (lines more : List (List ℕ)) → accepted lines ≡ accepted more → lines ≡ more
same_lines lines more e = ap lines_of e
  where
    lines_of : Verdict → List (List ℕ)
    lines_of (accepted ls) = ls
    lines_of _ = []

module _ (d : Definition) (g : Graph) (lines : List (List ℕ)) where
  by_bounds : (r : Table) (c p : Tables) (large : Option Entry) → too_large g c ≡ large → ranks g ≡ Some r → costs g ≡ Some c → depths g ≡ Some p →
      unless_too_large (report d g r c p) large ≡ accepted lines → Told d g lines
  by_bounds r c p None none is_r is_c is_p e = record {
    weighed = record {
      ranks = r;
      costs = c;
      depths = p;
      ranking = ranks_are g r is_r;
      solves_costs = costs_are g c is_c;
      solves_depths = depths_are g p is_p;
      bounded = none_large g c (told g) none;
    };
    is = sym (same_lines (report d g r c p) lines e);
  }
  by_bounds r c p (Some entry) some is_r is_c is_p e = absurd (cc)

  by_all : (r : Table) (c p : Option Tables) → ranks g ≡ Some r → costs g ≡ c → depths g ≡ p → by_tables d g (Some r) c p ≡ accepted lines → Told d g lines
  by_all r None None is_r is_c is_p e = absurd (cc)
  by_all r None (Some p) is_r is_c is_p e = absurd (cc)
  by_all r (Some c) None is_r is_c is_p e = absurd (cc)
  by_all r (Some c) (Some p) is_r is_c is_p e = by_bounds r c p (too_large g c) refl is_r is_c is_p e

  by_ranking : (r : Option Table) → ranks g ≡ r → by_ranks d g r ≡ accepted lines → Told d g lines
  by_ranking None is_r e = absurd (cc)
  by_ranking (Some r) is_r e = by_all r (costs g) (depths g) is_r refl refl e

no_faults : (d : Definition) (lines : List (List ℕ)) (faults : List Fault) → by_faults d faults ≡ accepted lines → (faults ≡ []) × (by_graph d (graph d) ≡ accepted lines)
no_faults d lines [] e = (refl, e)
no_faults d lines (f ∷ fs) e = absurd (cc)

pub judged_is_accepted : JudgedIsAccepted
judged_is_accepted d lines inherits e =
    let n = no_faults d lines (local_faults d) e in
    let g = graph d in
    let told = by_ranking d g lines (ranks g) refl n.1 in
    let a = both_empty (typing_faults d) (handler_faults d ++ (binding_faults d ++ (pair_faults d ++ bracket_faults d))) n.0 in
    let b = both_empty (handler_faults d) (binding_faults d ++ (pair_faults d ++ bracket_faults d)) a.1 in
    let c = both_empty (binding_faults d) (pair_faults d ++ bracket_faults d) b.1 in
    let p = both_empty (pair_faults d) (bracket_faults d) c.1 in (
      record {
        typed = a.0;
        handlers = b.0;
        bindings = c.0;
        pairs = p.0;
        brackets = p.1;
        acyclic = ranked_is_acyclic g told.weighed.ranks told.weighed.ranking;
        weighed = told.weighed;
        inherits = inherits;
      },
      told.is,
    )
