use Rattle.std.proofs.Common.{◌≡◌, ◌∙◌, ◌++◌, ◌∷◌, [], sym, ap, append_assoc, append-nil, arith}
use Rattle.ui_machine.specs.Seq.{listed}
use Rattle.signal_core.specs.SignalRows.{own_place}
use Rattle.signal_core.proofs.PlacesOfSignals.{listed_more}
use Rattle.signal_core.proofs.signal_rows.add_places.Goals as goal

pub loop-at-init : goal.loop-at-init
loop-at-init c = sym (append-nil c.args.places.now.items)

pub loop-at-preserved : goal.loop-at-preserved
loop-at-preserved c =
    let before = c.args.places.now.items in
    let place = own_place c.args.t in
    c.in_ok-push.ensures.items
    ∙ ap (λ l. l ++ place c.loop-at.at ∷ []) c.loop-at.invariant
    ∙ append_assoc before (listed place c.loop-at.at) (place c.loop-at.at ∷ [])
    ∙ ap (λ l. before ++ l) (sym (listed_more place c.loop-at.at))

pub returns : goal.returns
returns c =
    let end : c.loop-at.at ≡ c.args.count = omega (arith, c.loop-at-test.false, c.loop-at.auto.at-end) in
    c.loop-at.invariant ∙ ap (λ n. c.args.places.now.items ++ listed (own_place c.args.t) n) end
