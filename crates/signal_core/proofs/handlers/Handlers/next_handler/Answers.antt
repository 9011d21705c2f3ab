use Rattle.std.proofs.Common.{◌∙◌, ap, option_map, sym}
use Rattle.signal_core.proofs.Stepping.{found_first, later_begin, later_step, none_later}
use Rattle.signal_core.proofs.handlers.Handlers.next_handler.Goals as goal

pub handlers-init : goal.handlers-init
handlers-init c = record {
  later = later_begin c.args.cursor.now c.args.given c.args.after c.args.self.now.handlers;
  rising = c.last.ensures.rises;
}

pub handlers-preserved : goal.handlers-preserved
handlers-preserved c = record {
  later = later_step c.args.cursor.now c.args.given c.args.after c.handlers.at c.in-Some.number c.args.self.now.handlers
      c.handlers.invariant.later c.in-Some.ensures.1 (sym (ap (option_map (λ h. h.now)) c.in_default-with_next_turn.is) ∙ c.with_next_turn.ensures);
  rising = c.last.ensures.rises;
}

pub returns : goal.returns
returns c =
    none_later c.args.cursor.now c.args.given c.args.after c.handlers.at c.args.self.now.handlers
    c.handlers.invariant.later (rw c.in_default.is at c.next_to.ensures)

pub returns-in-Some-with_next_turn : goal.returns-in-Some-with_next_turn
returns-in-Some-with_next_turn c =
    found_first c.args.cursor.now c.args.given c.args.after c.handlers.at c.in-Some.number c.args.self.now.handlers
    c.handlers.invariant.later c.in-Some.ensures.1 c.in-Some-with_next_turn.handler.now c.args.self.now.last c.last.ensures.rises
    (sym (ap (option_map (λ h. h.now)) c.in-Some-with_next_turn.is) ∙ c.with_next_turn.ensures)
