use Rattle.std.proofs.Common.{◌∙◌, sym, ap, subst, map}
use Rattle.ui_machine.specs.Definition.{Definition}
use Rattle.law_typing.specs.Graph.{graph}
use Rattle.law_typing.specs.Rules.Faults.{cycle}
use Rattle.law_typing.specs.Verdict.FaultText.{fault_text}
use Rattle.law_judging.proofs.TurnProofs.{cycle_is_told}
use Rattle.law_idle.specs.Idle.{busy_graph, is_busy}
use Rattle.law_idle.proofs.IdleProofs.{others_are_idle}
use Rattle.law_idle.proofs.Resting.{cycles_are_same}
use Rattle.verify_numbers.specs.Links.{links_view}
use Rattle.ui_verifier.specs.Verdicts.{link_view}
use Rattle.ui_verifier.proofs.ToldNumbers.{all_channels, same_channels}
use Rattle.ui_verifier.proofs.verdicts.cycle_refusal.Goals as goal

pub returns : goal.returns
returns c =
    let d = c.args.lookups.now in
    let links = c.in_ok-links.links.items in
    let found = links_view (busy_graph d) c.args.links.now in
    let same = cycles_are_same (graph d) (is_busy d) found (others_are_idle d) in (
      cycle_is_told d (map link_view links) c.requires.lawful
          (c.in_ok-links.ensures (graph d) (busy_graph d) (c.in_ok-channels.ensures ∙ sym (all_channels d)) (c.requires.busy ∙ sym (same_channels d))
          (record { cycle = sym same ∙ c.requires.cycle.cycle; once = c.requires.cycle.once })),
      c.in_ok-text.ensures
          ∙ (ap (λ (x : Definition). fault_text x (cycle (map link_view c.as_slice.result.now))) c.definition.ensures ∙ ap (λ xs. fault_text d (cycle (map link_view xs))) c.as_slice.ensures.value),
    )
