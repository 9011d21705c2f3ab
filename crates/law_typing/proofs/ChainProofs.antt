-- The costs of a chain double with each link.
use Rattle.std.proofs.Common.{◌≡◌, refl, ap, ℕ, zero, suc, ◌+◌, ◌*◌, ◌<◌, [], ◌∷◌, Some, slice_get, arith}
use Rattle.std.proofs.Math.Nat.{pow-suc}
use Rattle.law_typing.specs.Rules.Typing.{data_in, passing, two_numbers, two_passing, moving, reckoning, comparing, sameness, negating, combining, joining, converting, property_of, get_property, changing_none, set_property, place_for, look_up_object, adopting, arguments, emitting, program_named, connecting, on_handlers, attaching, methods_for, method_named, calling, entering, branching, branching_null, returning}
use Rattle.law_typing.specs.Graph.Channels.{property}
use Rattle.law_typing.specs.Graph.{Graph, graph}
use Rattle.law_typing.specs.Graph.Tables.{entry, Tables}
use Rattle.law_typing.specs.Graph.Costs.{SolvesCosts, other_end_in, node_cost, with_other}
use Rattle.law_typing.specs.Graph.Depths.{raised_of}
use Rattle.law_typing.specs.Examples.Chain as chain
use Rattle.law_typing.specs.Laws.Chain.{at_property, sets_next, IsChain, ChainsDouble, ThreeLinks}
use Rattle.law_typing.proofs.CostProofs.{costs_solved}

no_times : (n : ℕ) → n * 0 ≡ 0
no_times n = grind arith

module _ (g : Graph) (t : Tables) (links : ℕ) (is : IsChain g links) (solves : SolvesCosts g t) where
  -- no property is in a pair
  alone : (slot : ℕ) → node_cost g t (property 0 slot) ≡ entry t.channels (property 0 slot)
  alone slot = ap (λ ps. with_other t (entry t.channels (property 0 slot)) (other_end_in ps (property 0 slot))) is.pairs

  last_costs : entry t.channels (property 0 links) ≡ 1
  last_costs =
      let e = (costs_solved g t solves).0 (property 0 links) (at_property links []) is.last in
      let n = no_times g.most_handlers in
      omega (arith, e, n)

  link_costs : (slot : ℕ) → slot < links → entry t.channels (property 0 slot) ≡ 5 + 2 * entry t.channels (property 0 (suc slot))
  link_costs slot h =
      let e = (costs_solved g t solves).0 (property 0 slot) (at_property slot (slot ∷ [])) (is.handlers slot h) in
      let p = (costs_solved g t solves).1 slot (sets_next slot) (is.programs slot h) in
      let a = alone (suc slot) in
      let n = no_times g.most_handlers in
      omega (arith, e, p, a, n)

pub chains_double : ChainsDouble
chains_double g t links is solves zero slot e =
    let s : slot ≡ links = omega (arith, e) in
    let c = last_costs g t links is solves in
    let f = ap (λ n. entry t.channels (property 0 n)) s in
    omega (arith, c, f)
chains_double g t links is solves (suc left) slot e =
    let ih = chains_double g t links is solves left (suc slot) (omega (arith, e)) in
    let h : slot < links = omega (arith, e) in
    let c = link_costs g t links is solves slot h in
    let p = pow-suc 2 left in
    omega (arith, ih, c, p)

abbrev three : Graph
three = graph chain.definition

three_handlers : (slot : ℕ) → slot < 3 → raised_of three (property 0 slot) ≡ Some (at_property slot (slot ∷ []))
unfolding data_in passing two_numbers two_passing moving reckoning comparing sameness negating combining joining converting property_of get_property changing_none set_property place_for look_up_object adopting arguments emitting program_named connecting on_handlers attaching methods_for method_named calling entering branching branching_null returning
three_handlers zero h = refl
three_handlers (suc zero) h = refl
three_handlers (suc (suc zero)) h = refl
three_handlers (suc (suc (suc n))) h = absurd (omega (arith, h))

three_programs : (slot : ℕ) → slot < 3 → slice_get three.programs slot ≡ Some (sets_next slot)
unfolding data_in passing two_numbers two_passing moving reckoning comparing sameness negating combining joining converting property_of get_property changing_none set_property place_for look_up_object adopting arguments emitting program_named connecting on_handlers attaching methods_for method_named calling entering branching branching_null returning
three_programs zero h = refl
three_programs (suc zero) h = refl
three_programs (suc (suc zero)) h = refl
three_programs (suc (suc (suc n))) h = absurd (omega (arith, h))

pub three_links : ThreeLinks
unfolding data_in passing two_numbers two_passing moving reckoning comparing sameness negating combining joining converting property_of get_property changing_none set_property place_for look_up_object adopting arguments emitting program_named connecting on_handlers attaching methods_for method_named calling entering branching branching_null returning
three_links = record { handlers = three_handlers; last = refl; programs = three_programs; pairs = refl }
