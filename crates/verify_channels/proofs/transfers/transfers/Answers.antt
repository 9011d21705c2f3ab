use Rattle.std.proofs.Common.{◌≡◌, ◌∙◌, sym, ap, subst, List, Some, take, slice_get}
use Rattle.ui_machine.specs.Definition.{Definition}
use Rattle.ui_machine.specs.Definition.Places.{Bind}
use Rattle.definition_format.specs.Meaning.{bind_view}
use Rattle.verify_graph.proofs.Prefixes.{take_last}
use Rattle.verify_channels.specs.Transfers.{AreTargets}
use Rattle.verify_channels.proofs.transfers.transfers.Goals as goal

pub loop-number-preserved : goal.loop-number-preserved
loop-number-preserved c =
    let d = c.args.lookups.now in
    let all = c.args.numbers.now in
    let n = c.loop-number.number in
    let b = bind_view c.in-Some.binding.now in
    let got : Some b ≡ slice_get d.bindings n = c.in-Some.ensures ∙ ap (λ (e : Definition). slice_get e.bindings n) c.definition-definition.ensures in
    record {
      count = c.in_ok-add_binding.ensures.count ∙ c.loop-number.invariant.count;
      targets =
          subst (λ (bs : List Bind). AreTargets all c.add_binding.new.lists.items bs) (sym (take_last d.bindings n b got))
          (c.in_ok-add_binding.ensures.added (take n d.bindings) c.loop-number.invariant.targets);
    }
