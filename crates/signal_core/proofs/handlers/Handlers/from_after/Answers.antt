use Rattle.std.proofs.Common.{◌≡◌, ◌∙◌, ap, true, None, Some, option_map, sym}
use Rattle.std.specs.List.{find}
use Rattle.signal_core.specs.Emission.{has_next_turn, from_cleanup}
use Rattle.signal_core.specs.declared.stage.Stage.TheVariants as stages
use Rattle.signal_core.proofs.Steps.{next_is, none_is}
use Rattle.signal_core.proofs.handlers.Handlers.from_after.Goals as goal

pub returns-in-Some : goal.returns-in-Some
returns-in-Some c =
    let found : find (has_next_turn c.args.cursor.now c.args.given true) c.args.self.now.handlers ≡ Some c.in-Some.handler.now = sym c.next_handler.ensures ∙ ap (option_map (λ h. h.now)) c.in-Some.is in
    let same = next_is c.args.cursor.now c.args.given true stages.After (from_cleanup c.args.cursor.now) c.args.self.now.handlers c.in-Some.handler.now found in
    rw (c.step.ensures, c.number.ensures) (sym same)

pub returns-in-None : goal.returns-in-None
returns-in-None c =
    let none : find (has_next_turn c.args.cursor.now c.args.given true) c.args.self.now.handlers ≡ None = sym c.next_handler.ensures ∙ ap (option_map (λ h. h.now)) c.in-None.is in
    c.from_cleanup.ensures ∙ sym (none_is c.args.cursor.now c.args.given true stages.After (from_cleanup c.args.cursor.now) c.args.self.now.handlers none)
