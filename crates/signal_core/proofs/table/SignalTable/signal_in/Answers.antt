use Rattle.std.proofs.Common.{◌∙◌, ◌<◌, ◌-◌, [], Some, length, option_map, slice_get, sym, ap, arith}
use Rattle.std.proofs.lemmas.List.{length-map}
use Rattle.ui_machine.specs.Seq.{read}
use Rattle.signal_core.specs.SignalView.{declared_view, signal_view}
use Rattle.signal_core.specs.Sources.{declared_of, signals_of}
use Rattle.signal_core.proofs.PlacesOfSignals.{a_signal, at_there, no_signal}
use Rattle.signal_core.proofs.table.SignalTable.signal_in.Goals as goal

pub returns-then-number-eq0 : goal.returns-then-number-eq0
returns-then-number-eq0 c = ap Some c.notify.ensures ∙ ap (slice_get (signals_of c.args.tree.now c.args.self.now.signals c.args.t)) (sym c.if-number-eq0.true)

pub returns-in_err-place : goal.returns-in_err-place
returns-in_err-place c =
    let known : c.args.t < length c.args.rows.now = omega (arith, c.requires.known, c.requires.rows.all) in
    ap (option_map declared_view) c.from_residual.ensures
    ∙ no_signal c.args.self.now.signals (read [] c.args.rows.now c.args.t) (declared_of c.args.tree.now c.args.self.now.signals c.args.t) (c.requires.rows.each c.args.t known)
    c.args.number (λ none. c.if-number-eq0.false none) c.in_err-place.ensures

pub returns : goal.returns
returns c =
    let known : c.args.t < length c.args.rows.now = omega (arith, c.requires.known, c.requires.rows.all) in
    let own = c.args.self.now.signals in
    let places = read [] c.args.rows.now c.args.t in
    let placed = c.requires.rows.each c.args.t known in
    let there = at_there own places (c.args.number - 1) c.in_ok-place.place placed.0 (sym c.in_ok-place.ensures) in
    let long = length-map c.own.result.now signal_view in
    let seen = ap length c.own.ensures.own in
    ap Some c.declared.ensures
    ∙ a_signal own places (declared_of c.args.tree.now own c.args.t) placed c.args.number (λ none. c.if-number-eq0.false none) c.in_ok-place.place c.own.result.now c.index-own-place.result
    c.in_ok-place.ensures c.own.ensures.own (omega (arith, there, long, seen)) c.index-own-place.is
