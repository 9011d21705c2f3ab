-- Numbers that are reckoned from a definition that is judged to be accepted are its own.
use Rattle.std.proofs.Common.{◌≡◌, refl, sym, ap, subst, ◌∙◌, ℕ, true, List, [], ◌∷◌, map, Option, None, Some}
use Rattle.std.specs.Fmt.{digits}
use Rattle.std.proofs.lemmas.Option.{same_Some}
use Rattle.ui_machine.specs.Definition.{Definition}
use Rattle.law_typing.specs.Rules.Typing.{data_in, passing, two_numbers, two_passing, moving, reckoning, comparing, sameness, negating, combining, joining, converting, property_of, get_property, changing_none, set_property, place_for, look_up_object, adopting, arguments, emitting, program_named, connecting, on_handlers, attaching, methods_for, method_named, calling, entering, branching, branching_null, returning}
use Rattle.law_typing.specs.Graph.{graph}
use Rattle.law_typing.specs.Graph.Tables.{Table, Tables}
use Rattle.law_typing.specs.Graph.Ranks.{ranks}
use Rattle.law_typing.specs.Graph.Costs.{costs}
use Rattle.law_typing.specs.Graph.Depths.{depths}
use Rattle.law_typing.specs.Verdict.{verdict, accepted}
use Rattle.law_typing.specs.Verdict.Accepted.{Accepted}
use Rattle.law_typing.specs.Verdict.Inherits.{inherits}
use Rattle.law_typing.specs.Examples.AllParts as knobs
use Rattle.law_typing.specs.Examples.MainLoop as main_loop
use Rattle.law_typing.proofs.ExactProofs.{ranks_found, costs_found, depths_found}
use Rattle.law_typing.proofs.JudgedProofs.{judged_is_accepted}
use Rattle.law_typing.proofs.JudgedRows.{knobs_holds, mainloop_holds}
use Rattle.law_typing.proofs.PairProofs.{accepted_is_paired}
use Rattle.verified.specs.declared.numbers.Numbers.{Numbers}
use Rattle.law_typing.specs.Graph.Channels.{channels}
use Rattle.law_idle.specs.Idle.{busy_channels}
use Rattle.verified.specs.Told.{AreNumbersOf, AreTold, source_view, value_among}

-- what is reckoned, where something is
abbrev or_none : Option Table → Table
or_none None = []
or_none (Some t) = t

abbrev or_nothing : Option Tables → Tables
or_nothing None = record { channels = []; programs = [] }
or_nothing (Some t) = t

-- the tables of a definition are reckoned
record AreReckoned (d : Definition) (by_rank : Table) (by_cost by_depth : Tables) : Type 0 where
  pub ranks : ranks (graph d) ≡ Some by_rank
  pub costs : costs (graph d) ≡ Some by_cost
  pub depths : depths (graph d) ≡ Some by_depth

reckoned_meet : (d : Definition) (lines : List (List ℕ)) → inherits d ≡ true → verdict d ≡ accepted lines → (by_rank : Table) (by_cost by_depth : Tables) →
    AreReckoned d by_rank by_cost by_depth → (n : Numbers) → AreTold d n by_rank by_cost by_depth → (a : Accepted d) × AreNumbersOf d n a
reckoned_meet d lines well judged by_rank by_cost by_depth are n told =
    let a = (judged_is_accepted d lines well judged).0 in
    let w = a.weighed in
    let paired = accepted_is_paired d a in
    let r : by_rank ≡ w.ranks = same_Some by_rank w.ranks (sym are.ranks ∙ ranks_found (graph d) w.ranks w.ranking paired) in
    let c : by_cost ≡ w.costs = same_Some by_cost w.costs (sym are.costs ∙ costs_found (graph d) w.ranks w.ranking paired w.costs w.solves_costs) in
    let t : by_depth ≡ w.depths = same_Some by_depth w.depths (sym are.depths ∙ depths_found (graph d) w.ranks w.ranking paired w.depths w.solves_depths) in
    (a, subst (AreTold d n w.ranks w.costs) t (subst (λ (x : Tables). AreTold d n w.ranks x by_depth) c (subst (λ (x : Table). AreTold d n x by_cost by_depth) r told)))

-- the tables of a definition, as they are reckoned
abbrev ranks_of : Definition → Table
ranks_of d = or_none (ranks (graph d))

abbrev costs_of : Definition → Tables
costs_of d = or_nothing (costs (graph d))

abbrev depths_of : Definition → Tables
depths_of d = or_nothing (depths (graph d))

-- the ranks of all channels, by those of the busy ones
abbrev rank_list : Definition → List ℕ → List ℕ
rank_list d ranks = map (value_among (busy_channels d) ranks 0) (channels d)

-- and their bounds
abbrev bound_list : Definition → List ℕ → (idle : ℕ) → List ℕ
bound_list d bounds idle = map (value_among (busy_channels d) bounds idle) (channels d)

-- numbers that are those of the knobs
pub knobs_meet : (n : Numbers) → n.ranks.items ≡ 0 ∷ 0 ∷ 0 ∷ 1 ∷ 0 ∷ 2 ∷ 0 ∷ 1 ∷ 0 ∷ [] →
    n.bounds.items ≡ 13 ∷ 7 ∷ 9 ∷ 7 ∷ 7 ∷ 5 ∷ 5 ∷ 5 ∷ 5 ∷ [] → n.idle ≡ 5 → n.build ≡ 8 → n.sources.items ≡ [] → n.depth ≡ 4 →
    (a : Accepted knobs.definition) × AreNumbersOf knobs.definition n a
unfolding digits data_in passing two_numbers two_passing moving reckoning comparing sameness negating combining joining converting property_of get_property changing_none set_property place_for look_up_object adopting arguments emitting program_named connecting on_handlers attaching methods_for method_named calling entering branching branching_null returning
knobs_meet n by_channel bounded idle build sources deep =
    let d = knobs.definition in
    reckoned_meet d knobs.lines refl knobs_holds (ranks_of d) (costs_of d) (depths_of d) (record { ranks = refl; costs = refl; depths = refl }) n
    (record { ranks = ap (rank_list d) by_channel; bounds = ap (bound_list d n.bounds.items) idle ∙ ap (λ bounds. bound_list d bounds 5) bounded; build = build; sources = ap (map source_view) sources; depth = deep })

-- and those of the main loop
pub loop_meets : (n : Numbers) → n.ranks.items ≡ 0 ∷ [] → n.bounds.items ≡ 68 ∷ [] → n.idle ≡ 65 → n.build ≡ 64 →
    n.sources.items ≡ record { program = 1; bound = 66 } ∷ record { program = 2; bound = 66 } ∷ [] → n.depth ≡ 2 →
    (a : Accepted main_loop.definition) × AreNumbersOf main_loop.definition n a
unfolding digits data_in passing two_numbers two_passing moving reckoning comparing sameness negating combining joining converting property_of get_property changing_none set_property place_for look_up_object adopting arguments emitting program_named connecting on_handlers attaching methods_for method_named calling entering branching branching_null returning
loop_meets n by_channel bounded idle build sources deep =
    let d = main_loop.definition in
    reckoned_meet d main_loop.lines refl mainloop_holds (ranks_of d) (costs_of d) (depths_of d) (record { ranks = refl; costs = refl; depths = refl }) n
    (record { ranks = ap (rank_list d) by_channel; bounds = ap (bound_list d n.bounds.items) idle ∙ ap (λ bounds. bound_list d bounds 65) bounded; build = build; sources = ap (map source_view) sources; depth = deep })
