use Rattle.std.proofs.Common.{◌∙◌, sym}
use Rattle.signal_core.specs.Emission.{has_next_turn}
use Rattle.signal_core.proofs.Keeping.{found_one, none_numbered, other_numbered, skip_find}
use Rattle.signal_core.proofs.handlers.Handlers.with_next_turn.Goals as goal

pub returns-in_err-handler : goal.returns-in_err-handler
returns-in_err-handler c =
    let p = has_next_turn c.args.cursor.now c.args.given c.args.after in
    rw c.from_residual.ensures
    (skip_find p c.args.number c.args.self.now.handlers (none_numbered p c.args.number c.args.self.now.handlers (sym c.in_err-handler.ensures.found)))

pub returns-then-has_next_turn : goal.returns-then-has_next_turn
returns-then-has_next_turn c =
    let p = has_next_turn c.args.cursor.now c.args.given c.args.after in
    found_one p c.args.number c.in_ok-handler.handler.now c.args.self.now.handlers (sym c.in_ok-handler.ensures.found) (sym c.has_next_turn.ensures ∙ c.if-has_next_turn.true)

pub returns-else-has_next_turn : goal.returns-else-has_next_turn
returns-else-has_next_turn c =
    let p = has_next_turn c.args.cursor.now c.args.given c.args.after in
    skip_find p c.args.number c.args.self.now.handlers
    (other_numbered p c.args.number c.args.self.now.handlers c.in_ok-handler.handler.now c.args.self.now.last c.handler.ensures.rises (sym c.in_ok-handler.ensures.found)
    (sym c.has_next_turn.ensures ∙ c.if-has_next_turn.false))
