use Rattle.std.proofs.Common.{◌∙◌, refl, sym, ap, ◌+◌, ◌<◌, length, drop, map, slice_get, arith}
use Rattle.definition_format.specs.Meaning.{attached_view}
use Rattle.law_typing.specs.Rules.Faults.{handler_signature}
use Rattle.law_typing.specs.Rules.Faults as faults
use Rattle.law_typing.specs.Rules.Handlers.{attached_faults, attached_fits, unless}
use Rattle.verify_operands.proofs.MappedLists.{from_entry}
use Rattle.definitions.specs.EntryView.{entry_view}
use Rattle.verify_rules.proofs.FirstFaults.{stops, goes_on}
use Rattle.verify_rules.proofs.handlers.attached_fault.Goals as goal

pub returns-then-not-branch : goal.returns-then-not-branch
returns-then-not-branch c =
    let d = c.args.lookups.now in
    let place = c.args.place.0 in
    let p = entry_view c.args.entry.now in
    let signals = c.args.entry.now.signals.now in
    let n = c.loop-number.number in
    let a = c.index-entry-number.result in
    let within : n < length signals = omega (arith, c.loop-number-test.true) in
    sym (stops (λ m x. unless (attached_fits d place p x) (handler_signature (faults.attached place m))) (attached_faults d place p) (λ m x xs. refl)
    n (attached_view a) (drop n (map attached_view signals)) (drop (n + 1) (map attached_view signals)) (handler_signature (faults.attached place n))
    (slice_get (attached_faults d place p 0 (map attached_view signals)) 0) c.loop-number.invariant
    (from_entry attached_view signals n a within c.index-entry-number.is)
    (ap (λ t. slice_get (unless t (handler_signature (faults.attached place n))) 0) (ap (λ x. attached_fits d place p (attached_view x)) c.index-entry-number.is ∙ (sym c.in_ok-attached_fits.ensures ∙ c.if-not-branch.true))))

pub loop-number-preserved : goal.loop-number-preserved
loop-number-preserved c =
    let d = c.args.lookups.now in
    let place = c.args.place.0 in
    let p = entry_view c.args.entry.now in
    let signals = c.args.entry.now.signals.now in
    let n = c.loop-number.number in
    let a = c.index-entry-number.result in
    let within : n < length signals = omega (arith, c.loop-number-test.true) in
    goes_on (λ m x. unless (attached_fits d place p x) (handler_signature (faults.attached place m))) (attached_faults d place p) (λ m x xs. refl)
    n (attached_view a) (drop n (map attached_view signals)) (drop (n + 1) (map attached_view signals))
    (slice_get (attached_faults d place p 0 (map attached_view signals)) 0) c.loop-number.invariant
    (from_entry attached_view signals n a within c.index-entry-number.is)
    (ap (λ t. slice_get (unless t (handler_signature (faults.attached place n))) 0) (ap (λ x. attached_fits d place p (attached_view x)) c.index-entry-number.is ∙ (sym c.in_ok-attached_fits.ensures ∙ c.if-not-branch.false)))
