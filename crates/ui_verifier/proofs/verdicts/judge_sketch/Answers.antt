use Rattle.std.proofs.Common.{◌∙◌, sym, ap, subst, All}
use Rattle.ui_machine.specs.Definition.{Definition}
use Rattle.law_idle.specs.Idle.{busy_graph}
use Rattle.verify_sketches.specs.View.{sketch_view}
use Rattle.verify_numbers.specs.Links.{NamesBelow, links_view}
use Rattle.verify_numbers.specs.Reckonings.{AreFewNumbers, AreGraphNumbers, IsCycleOnce, Reckons}
use Rattle.ui_verifier.proofs.ToldNumbers.{by_cost, by_depth, by_rank}
use Rattle.ui_verifier.proofs.verdicts.judge_sketch.Goals as goal

pub told_numbers-requires-clause-reckoned : goal.told_numbers-requires-clause-reckoned
told_numbers-requires-clause-reckoned c =
    let d = c.args.lookups.now in
    let handlers = sym (c.limits.ensures.handlers ∙ ap (λ (x : Definition). x.most_handlers) c.definition-definition.ensures) in
    subst (Reckons (busy_graph d) (sketch_view c.args.sketch.now)) c.in-Numbers.is (c.in_ok-nodes.ensures.reckoned (busy_graph d) c.requires.sketched handlers)

pub told_numbers-requires-clause-few : goal.told_numbers-requires-clause-few
told_numbers-requires-clause-few c = subst AreFewNumbers c.in-Numbers.is c.in_ok-nodes.ensures.few

pub judge_numbers-requires-clause-told : goal.judge_numbers-requires-clause-told
judge_numbers-requires-clause-told c =
    let d = c.args.lookups.now in
    let s = sketch_view c.args.sketch.now in
    let n = c.in-Numbers.nodes in
    let handlers = sym (c.limits.ensures.handlers ∙ ap (λ (x : Definition). x.most_handlers) c.definition-definition.ensures) in
    let numbers : AreGraphNumbers (busy_graph d) s n =
    subst (Reckons (busy_graph d) s) c.in-Numbers.is (c.in_ok-nodes.ensures.reckoned (busy_graph d) c.requires.sketched handlers) in
    record {
      by_rank = by_rank d s n c.requires.sketched numbers;
      by_cost = by_cost d s n c.requires.sketched numbers;
      by_depth = by_depth d s n c.requires.sketched numbers;
      ranking = numbers.ranks;
      solves_costs = numbers.costs;
      solves_depths = numbers.depths;
      capped = c.in_ok-told-in-Numbers.ensures.capped;
      idle = c.in_ok-told-in-Numbers.ensures.idle;
    }

pub cycle_refusal-requires-clause-few : goal.cycle_refusal-requires-clause-few
cycle_refusal-requires-clause-few c =
    subst (λ ls. All (NamesBelow 256) ls) (sym c.as_slice.ensures.value) (subst AreFewNumbers c.in-Cycle.is c.in_ok-nodes.ensures.few)

pub cycle_refusal-requires-clause-cycle : goal.cycle_refusal-requires-clause-cycle
cycle_refusal-requires-clause-cycle c =
    let d = c.args.lookups.now in
    let handlers = sym (c.limits.ensures.handlers ∙ ap (λ (x : Definition). x.most_handlers) c.definition-definition.ensures) in
    let once : IsCycleOnce (busy_graph d) (links_view (busy_graph d) c.in-Cycle.links.items) =
    subst (Reckons (busy_graph d) (sketch_view c.args.sketch.now)) c.in-Cycle.is (c.in_ok-nodes.ensures.reckoned (busy_graph d) c.requires.sketched handlers) in
    subst (λ ls. IsCycleOnce (busy_graph d) (links_view (busy_graph d) ls)) (sym c.as_slice.ensures.value) once
