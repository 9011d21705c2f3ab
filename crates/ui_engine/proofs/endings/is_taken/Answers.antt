use Rattle.std.proofs.Common.{refl, sym, ◌∙◌}
use Rattle.engine_world.specs.SeatView.{lent_view}
use Rattle.ui_engine.proofs.TakenProofs.{none_taken, taken_there}
use Rattle.ui_engine.proofs.endings.is_taken.Goals as goal

pub returns-in-Some : goal.returns-in-Some
returns-in-Some c = c.is_some.ensures ∙ taken_there (λ id. id.0) c.in-Some.seat.holder c.args.seats.now c.args.number (lent_view c.in-Some.seat) (sym c.in-Some.ensures.found) refl

pub returns-in-None : goal.returns-in-None
returns-in-None c = none_taken c.args.seats.now c.args.number (sym c.in-None.ensures.found)
