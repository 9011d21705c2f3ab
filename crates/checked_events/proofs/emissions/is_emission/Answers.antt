use Rattle.std.proofs.Common.{◌<◌, map, sym, arith}
use Rattle.std.specs.Rc.{rc_str_bytes}
use Rattle.signal_core.specs.SignalView.{declared_view}
use Rattle.definition_format.specs.Meaning.{given_view}
use Rattle.checked_events.proofs.Emitting.{is_asked}
use Rattle.checked_events.proofs.emissions.is_emission.Goals as goal

pub are_given_of_kinds-requires : goal.are_given_of_kinds-requires
are_given_of_kinds-requires c = record {
  known = (c.types-types.ensures.basic.signal_kinds c.in-Some.class c.args.number (declared_view c.in-Some-signal.signal) (sym c.in-Some-signal.ensures)).params;
}

pub returns : goal.returns
returns c =
    let above : 0 < c.args.number = omega (arith, c.if-number-eq-NOTIFY.false) in
    is_asked c.args.definition.now c.args.place.0 c.args.number c.in-Some.class (declared_view c.in-Some-signal.signal) c.in-Some.ensures.1 (sym c.in-Some-signal.ensures)
    (λ text. rc_str_bytes text) (map given_view c.args.args.now) c.args.detail.now c.are_given_of_kinds.result c.in-Some.ensures.0 above (sym c.if-not-takes_detail.ensures)
    c.are_given_of_kinds.ensures
