use Rattle.std.proofs.Common.{suc, ℕ, List, [], map, IsSome, Ok, Option, sym, ap, subst, ◌∙◌}
use Rattle.ui_machine.specs.Definition.Types.{GType}
use Rattle.ui_machine.specs.Output.Lines as lines
use Rattle.ui_machine.specs.Output.Text.{text_of_line}
use Rattle.ui_machine.specs.State.Config as config
use Rattle.ui_machine.specs.State.Config.{starts}
use Rattle.ui_machine.specs.State.Objects.{living}
use Rattle.ui_machine.specs.Steps.{uncounted, finalising}
use Rattle.instance_tables.specs.Weak.{Knows}
use Rattle.engine_world.specs.ClosingView.{closed_with, or_number}
use Rattle.engine_world.specs.Counting.{KeepsCounts, PassesGot}
use Rattle.engine_world.specs.declared.engine.Engine.{Engine}
use Rattle.engine_stack.specs.declared.stacks.Frames.{Frames}
use Rattle.engine_world.specs.declared.world.World.{World}
use Rattle.engine_world.specs.View.{world_of}
use Rattle.engine_world.specs.TaskView.{agenda_of}
use Rattle.engine_stack.specs.TaskView.{tasks_of}
use Rattle.signal_core.specs.Connected.{Connected, without_object}
use Rattle.engine_world.proofs.Counts.{keeps_on, keeps_same, keeps_finalised, only_list}
use Rattle.machine_laws.specs.GoneLaws.{pruned}
use Rattle.engine_world.specs.Standing.{gone_handlers}
use Rattle.engine_world.proofs.Finalising.{code_taken_out, finalised_agenda, finalised_so, finalising_able}
use Rattle.engine_world.proofs.Notified.{counted_on}
use Rattle.engine_world.proofs.Ableness.{able_as, in_counted}
use Rattle.engine_tasks.proofs.finalisation.finalise.Goals as goal

pub count-requires : goal.count-requires
count-requires c = record { few = (in_counted (agenda_of c.args.definition.now c.args.engine.now) c.args.engine.now.counted _ c.requires.able).0 }

pub dispose_line-requires : goal.dispose_line-requires
dispose_line-requires c = record { live = subst (λ (f : Engine). IsSome (living f.world.table.objects c.args.object.0)) (sym c.count.ensures) c.requires.live }

pub closing_with-requires : goal.closing_with-requires
closing_with-requires c =
    let d = c.args.definition.now in
    let e = c.args.engine.now in
    let id = c.args.object.0 in
    let same = ap (λ (f : Engine). finalising d (world_of f.world) id) c.count.ensures in
    record { able = finalising_able d c.count.new.engine.world id (able_as (sym same) (in_counted (agenda_of d e) e.counted _ c.requires.able).1) }

pub returns-clause-step : goal.returns-clause-step
returns-clause-step c rest =
    let d = c.args.definition.now in
    let e = c.args.engine.now in
    let id = c.args.object.0 in
    let n = e.counted in
    let is = c.count.ensures in
    let world = ap (λ (f : Engine). f.world) is in
    let w = c.count.new.engine.world in
    let knows = subst (λ (v : World). Knows d v.weak) (sym world) c.requires.knows in
    let closed = c.in_ok-closed.closed in
    let first = c.in_ok-disposed.disposed in
    let told = c.in_ok-finalised.ensures ∙ ap (λ (types : List GType). text_of_line types (lines.final id)) c.types.ensures.types in
    let left = code_taken_out d w c.finalise.new.self c.disconnect_object.new.self c.end_of.new.self id closed first c.in_ok-finalised.finalised
    (c.finalise.ensures.finalises d knows) c.disconnect_object.ensures.left c.end_of.ensures.left told in
    counted_on rest n _ (in_counted (agenda_of d e) n _ c.requires.able).0
    ∙ ap (λ (v : World). uncounted rest (suc n) (finalising d (world_of v) id)) (sym world)
    ∙ ap (uncounted rest (suc n)) (finalised_so d w id closed first c.in_ok-closed.ensures.closes c.in_ok-disposed.ensures)
    ∙ ap (λ (u : config.World). uncounted rest (suc n) (starts u [])) (sym left ∙ sym c.in_ok-say_and_close.ensures.ok)
    ∙ ap (λ m. Ok (record { world = world_of c.say_and_close.new.engine.world; agenda = rest; counted = m })) (sym (ap (λ (f : Engine). f.counted) c.say_and_close.ensures.beside ∙ ap (λ (f : Engine). f.counted) is))

-- the tasks as they are left
pub returns-clause-agenda : goal.returns-clause-agenda
returns-clause-agenda c =
    let d = c.args.definition.now in
    let f = c.count.new.engine in
    let new = c.say_and_close.new.engine in
    let beside = c.say_and_close.ensures.beside in
    let handlers = ap (λ (g : Engine). g.world.handlers) beside in
    ap (λ (s : Frames). tasks_of d new.world.handlers.handlers s) (ap (λ (g : Engine). g.stack) beside)
    ∙ finalised_agenda d f c.disconnect_object.new.self new.world c.args.object.0 c.disconnect_object.ensures.left handlers c.last-last.ensures.rises
    ∙ ap (λ (g : Engine). map (pruned (gone_handlers (world_of new.world))) (agenda_of d g)) c.count.ensures

pub returns-clause-counted : goal.returns-clause-counted
returns-clause-counted c =
    let d = c.args.definition.now in
    let e = c.args.engine.now in
    let f = c.count.new.engine in
    let new = c.say_and_close.new.engine in
    let is = c.count.ensures in
    let beside = c.say_and_close.ensures.beside in
    let world = ap (λ (g : Engine). g.world) beside in
    let handlers = ap (λ (w : World). w.handlers) world in
    let same = keeps_same d e f (ap (λ (g : Engine). g.world.table) is) (ap (λ (g : Engine). g.world.weak) is) (ap (λ (g : Engine). g.links) is) (subst (λ (g : Engine). PassesGot d g) (sym is)) (ap (λ (g : Engine). g.world.context) is) (ap (λ (g : Engine). g.world.builder) is) (ap (λ (g : Engine). g.stack) is) (ap (λ (g : Engine). g.world.handlers) is) in
    let left = finalised_agenda d f c.disconnect_object.new.self new.world c.args.object.0 c.disconnect_object.ensures.left handlers c.last-last.ensures.rises in
    let whole = beside ∙ ap (λ (w : World). record f { world = w; closing = new.closing }) (sym world) in
    keeps_on d _ _ _ same
    (subst (λ (g : Engine). KeepsCounts d f g) (sym whole)
    (keeps_finalised d f c.finalise.new.self c.disconnect_object.new.self c.end_of.new.self new.world (gone_handlers (world_of new.world)) c.args.object.0 f.counted new.closing (c.finalise.ensures.finalises d) c.say_and_close.ensures.left
    (only_list c.disconnect_object.new.self f.world.handlers (without_object c.args.object.0 f.world.handlers.handlers) c.disconnect_object.ensures.left)
    world (ap (λ (h : Connected). tasks_of d h.handlers f.stack) (sym handlers) ∙ left)))

pub returns-clause-closing : goal.returns-clause-closing
returns-clause-closing c =
    let f = c.count.new.engine in
    c.in_ok-say_and_close.ensures.closing
    ∙ ap (λ (k : Option ℕ). or_number k f.closing) c.in_ok-closed.ensures.number
    ∙ ap (λ (g : Engine). or_number (closed_with (world_of g.world) c.args.object.0) g.closing) c.count.ensures
