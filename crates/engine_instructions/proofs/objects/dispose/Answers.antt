use Rattle.engine_world.proofs.Counts.{only_list}
use Rattle.std.proofs.Common.{Ok, ℕ, Option, ap, sym, subst, ◌∙◌}
use Rattle.ui_machine.specs.State.Config as config
use Rattle.engine_world.specs.ClosingView.{or_number}
use Rattle.engine_world.specs.Counting.{KeepsCounts}
use Rattle.engine_world.specs.Standing.{gone_handlers}
use Rattle.signal_core.specs.Connected.{Connected, without_object}
use Rattle.engine_stack.specs.TaskView.{tasks_of}
use Rattle.engine_world.specs.View.{world_of}
use Rattle.engine_world.specs.declared.engine.Engine.{Engine}
use Rattle.engine_stack.specs.declared.stacks.Frames.{Frames}
use Rattle.engine_world.specs.declared.world.World.{World}
use Rattle.engine_instructions.proofs.Disposing.{keeps_disposed}
use Rattle.engine_world.proofs.Finalising.{code_gone, closing_able, disposed_so, finalised_agenda}
use Rattle.engine_instructions.proofs.objects.dispose.Goals as goal

pub closing_with-requires : goal.closing_with-requires
closing_with-requires c = record { able = closing_able c.args.definition.now c.args.engine.now.world c.args.object.0 c.requires.able }

pub returns-clause-step : goal.returns-clause-step
returns-clause-step c =
    let d = c.args.definition.now in
    let v = c.args.engine.now.world in
    let id = c.args.object.0 in
    let closed = c.in_ok-closed.closed in
    let first = c.in_ok-line.line in
    disposed_so d v id closed first c.in_ok-closed.ensures.closes c.in_ok-line.ensures
    ∙ ap (λ (w : config.World). Ok w) (sym (code_gone d v c.dispose.new.self c.disconnect_object.new.self c.end_of.new.self id closed first (c.dispose.ensures.disposes d c.requires.knows) c.disconnect_object.ensures.left c.end_of.ensures.left)
    ∙ sym c.in_ok-say_and_close.ensures.ok)

pub returns-clause-agenda : goal.returns-clause-agenda
returns-clause-agenda c =
    let d = c.args.definition.now in
    let new = c.say_and_close.new.engine in
    let beside = c.say_and_close.ensures.beside in
    let handlers = ap (λ (g : Engine). g.world.handlers) beside in
    ap (λ (s : Frames). tasks_of d new.world.handlers.handlers s) (ap (λ (g : Engine). g.stack) beside)
    ∙ finalised_agenda d c.args.engine.now c.disconnect_object.new.self new.world c.args.object.0 c.disconnect_object.ensures.left handlers c.last-last.ensures.rises

pub returns-clause-counted : goal.returns-clause-counted
returns-clause-counted c =
    let d = c.args.definition.now in
    let e = c.args.engine.now in
    let new = c.say_and_close.new.engine in
    let beside = c.say_and_close.ensures.beside in
    let world = ap (λ (g : Engine). g.world) beside in
    let handlers = ap (λ (w : World). w.handlers) world in
    let left = finalised_agenda d e c.disconnect_object.new.self new.world c.args.object.0 c.disconnect_object.ensures.left handlers c.last-last.ensures.rises in
    let whole = beside ∙ ap (λ (w : World). record e { world = w; closing = new.closing }) (sym world) in
    subst (λ (g : Engine). KeepsCounts d e g) (sym whole)
    (keeps_disposed d e c.dispose.new.self c.disconnect_object.new.self c.end_of.new.self new.world (gone_handlers (world_of new.world)) c.args.object.0 new.closing (c.dispose.ensures.disposes d) c.say_and_close.ensures.left
    (only_list c.disconnect_object.new.self e.world.handlers (without_object c.args.object.0 e.world.handlers.handlers) c.disconnect_object.ensures.left)
    world (ap (λ (h : Connected). tasks_of d h.handlers e.stack) (sym handlers) ∙ left))

pub returns-clause-closing : goal.returns-clause-closing
returns-clause-closing c =
    c.in_ok-say_and_close.ensures.closing ∙ ap (λ (k : Option ℕ). or_number k c.args.engine.now.closing) c.in_ok-closed.ensures.number
