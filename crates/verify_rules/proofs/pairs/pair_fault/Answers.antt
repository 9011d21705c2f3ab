use Rattle.std.proofs.Common.{◌≡◌, ◌∙◌, refl, Some, sym, ap, ◌+◌, drop, slice_get}
use Rattle.ui_machine.specs.Definition.{Definition}
use Rattle.definition_format.specs.Meaning.{bind_view}
use Rattle.verify_rules.proofs.FirstFaults.{from_got}
use Rattle.verify_rules.proofs.PairedEnds.{stops, goes_on}
use Rattle.verify_rules.proofs.pairs.pair_fault.Goals as goal

pub returns-then-is_second : goal.returns-then-is_second
returns-then-is_second c =
    let d = c.args.lookups.now in
    let n = c.loop-number.number in
    let b = bind_view c.in-Some.binding.now in
    let got : Some b ≡ slice_get d.bindings n = c.in-Some.ensures ∙ ap (λ (e : Definition). slice_get e.bindings n) c.definition-definition.ensures in
    sym (stops c.loop-number.ends n d.bindings (drop (n + 1) d.bindings) b c.is_second.result c.loop-number.invariant (from_got d.bindings n b got)
    c.is_second.ensures c.if-is_second.true)

pub loop-number-preserved : goal.loop-number-preserved
loop-number-preserved c =
    let d = c.args.lookups.now in
    let n = c.loop-number.number in
    let b = bind_view c.in-Some.binding.now in
    let got : Some b ≡ slice_get d.bindings n = c.in-Some.ensures ∙ ap (λ (e : Definition). slice_get e.bindings n) c.definition-definition.ensures in
    goes_on c.loop-number.ends c.add_ends.new.ends n d.bindings (drop (n + 1) d.bindings) b c.is_second.result c.loop-number.invariant
    (from_got d.bindings n b got) refl c.is_second.ensures c.if-is_second.false c.in_ok-add_ends.ensures
