use Rattle.std.proofs.Common.{◌∙◌, List, refl, sym, ap}
use Rattle.std.specs.Option.{option_map}
use Rattle.std.proofs.lemmas.Option.{slice_get_within}
use Rattle.ui_machine.specs.Definition.Types.{GType}
use Rattle.ui_machine.specs.Output.Lines as lines
use Rattle.ui_machine.specs.Output.Text.{text_of_line}
use Rattle.engine_world.specs.SeatView.{lent_view}
use Rattle.engine_world.specs.View.{world_of}
use Rattle.engine_world.proofs.Ableness.{no_arm}
use Rattle.engine_world.proofs.ClosedPeers.{closes, closes_none, closes_not, closes_nowhere}
use Rattle.engine_world.proofs.closings.closing_with.Goals as goal

pub returns-in_default-clause-closes : goal.returns-in_default-clause-closes
returns-in_default-clause-closes c w same =
    closes_none c.args.definition.now c.args.engine.now.world.seats _ w same (sym c.peer_of.ensures ∙ c.in_default.is)

pub unreachable-requires : goal.unreachable-requires
unreachable-requires c =
    let w = world_of c.args.engine.now.world in
    no_arm _ _ c.requires.able
    (closes_nowhere c.args.definition.now c.args.engine.now.world.seats _ w refl c.in-Some.peer (sym c.peer_of.ensures ∙ c.in-Some.is)
    (ap (option_map lent_view) (sym c.in_default-seat.is) ∙ c.seat.ensures.found))

pub returns-then-not-seat-clause-closes : goal.returns-then-not-seat-clause-closes
returns-then-not-seat-clause-closes c w same =
    closes_not c.args.definition.now c.args.engine.now.world.seats _ w same c.in-Some.peer (sym c.peer_of.ensures ∙ c.in-Some.is)
    (lent_view c.in-Some-seat.seat) c.in-Some-seat.ensures.found c.if-not-seat.true

pub returns-clause-closes : goal.returns-clause-closes
returns-clause-closes c w same =
    let told = c.in_ok-line.ensures ∙ ap (λ (types : List GType). text_of_line types (lines.close c.in-Some-seat.seat.name.now)) c.types.ensures.types in
    closes c.args.definition.now c.args.engine.now.world.seats _ w same c.in-Some.peer (sym c.peer_of.ensures ∙ c.in-Some.is)
    (lent_view c.in-Some-seat.seat) c.in-Some-seat.ensures.found _ c.if-not-seat.false told

pub returns-clause-there : goal.returns-clause-there
returns-clause-there c =
    slice_get_within c.args.engine.now.world.seats c.in-Some.peer (lent_view c.in-Some-seat.seat) (sym c.in-Some-seat.ensures.found)
