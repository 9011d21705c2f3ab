use Rattle.std.proofs.Common.{◌≡◌, ◌∙◌, refl, Some, sym, ap, ◌+◌, drop, option_map, slice_get}
use Rattle.ui_machine.specs.Definition.{Definition}
use Rattle.law_typing.specs.Rules.Handlers.{attached_faults, place_faults}
use Rattle.verify_rules.specs.Faults.{handling_fault}
use Rattle.definitions.specs.EntryView.{entry_view}
use Rattle.verify_rules.proofs.FirstFaults.{stops, goes_on, from_got}
use Rattle.verify_rules.proofs.handlers.place_fault.Goals as goal

pub returns-in-Some-2 : goal.returns-in-Some-2
returns-in-Some-2 c =
    let d = c.args.lookups.now in
    let n = c.loop-number.number in
    let p = entry_view c.in-Some.entry in
    let got : Some p ≡ slice_get d.places n = c.in-Some.ensures ∙ ap (λ (e : Definition). slice_get e.places n) c.definition-definition.ensures in
    sym (stops (λ m x. attached_faults d m x 0 x.signals) (place_faults d) (λ m x xs. refl) n p (drop n d.places) (drop (n + 1) d.places)
    (handling_fault c.in-Some-2.handling) (slice_get (place_faults d 0 d.places) 0) c.loop-number.invariant (from_got d.places n p got)
    (sym c.in_ok-handling.ensures ∙ ap (option_map handling_fault) c.in-Some-2.is))

pub loop-number-preserved : goal.loop-number-preserved
loop-number-preserved c =
    let d = c.args.lookups.now in
    let n = c.loop-number.number in
    let p = entry_view c.in-Some.entry in
    let got : Some p ≡ slice_get d.places n = c.in-Some.ensures ∙ ap (λ (e : Definition). slice_get e.places n) c.definition-definition.ensures in
    goes_on (λ m x. attached_faults d m x 0 x.signals) (place_faults d) (λ m x xs. refl) n p (drop n d.places) (drop (n + 1) d.places)
    (slice_get (place_faults d 0 d.places) 0) c.loop-number.invariant (from_got d.places n p got)
    (sym c.in_ok-handling.ensures ∙ ap (option_map handling_fault) c.in_default-2.is)
