use Rattle.std.proofs.Common.{◌≡◌, ◌∙◌, sym, ap, ◌++◌, ◌∷◌, [], ℕ, List, length, arith}
use Rattle.ui_machine.specs.Seq.{listed}
use Rattle.ui_machine.specs.Definition.{Definition}
use Rattle.verify_graph.proofs.Prefixes.{listed_last, mapped_last}
use Rattle.verify_channels.specs.Attached.{handlers_for}
use Rattle.verify_channels.specs.Meanings.{Meant, attached_meanings, of_signal}
use Rattle.verify_channels.specs.declared.attached_handlers.AttachedHandler.{AttachedHandler}
use Rattle.verify_channels.specs.declared.signal_lists.SignalLists.{SignalLists}
use Rattle.verify_channels.proofs.attached_handlers.attached_handlers.Goals as goal

pub loop-place-preserved : goal.loop-place-preserved
loop-place-preserved c number =
    let own : ℕ → List Meant = λ place. of_signal number (attached_meanings c.args.lookups.now place) in
    let n = c.loop-place.place in
    let seen : SignalLists AttachedHandler → List Meant = λ s. handlers_for s number in
    mapped_last seen c.loop-place.lists.items c.push.new.self.items c.in_ok-handlers.handlers c.in_ok-push.ensures.items
    ∙ (ap (λ xs. xs ++ seen c.in_ok-handlers.handlers ∷ []) (c.loop-place.invariant number)
    ∙ (ap (λ x. listed own n ++ x ∷ []) (c.in_ok-handlers.ensures number) ∙ sym (listed_last own n)))

pub returns : goal.returns
returns c number =
    let d = c.args.lookups.now in
    let count = ap (λ (e : Definition). length e.places) c.definition.ensures in
    let whole : c.loop-place.place ≡ length d.places = omega (arith, count) in
    c.loop-place.invariant number ∙ ap (listed (λ place. of_signal number (attached_meanings d place))) whole
