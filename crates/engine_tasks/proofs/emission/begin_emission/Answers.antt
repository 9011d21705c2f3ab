use Rattle.std.proofs.Common.{[], ℕ, suc, List, ◌∷◌, IsSome, option_map, sym, ap, subst, ◌∙◌, arith, rules}
use Rattle.ui_machine.specs.Definition.Types.{GType}
use Rattle.ui_machine.specs.Definition.Signals.{Signal}
use Rattle.ui_machine.specs.Output.Lines as lines
use Rattle.ui_machine.specs.Output.Text.{text_of_line}
use Rattle.ui_machine.specs.Rules.EmissionPlan.{beginning_emission}
use Rattle.ui_machine.specs.State.Objects.{living}
use Rattle.ui_machine.specs.State.References.{same}
use Rattle.ui_machine.specs.State.Tasks.{Emitting, Task}
use Rattle.ui_machine.specs.Steps.{counted}
use Rattle.signal_core.specs.Connected.{Numbered}
use Rattle.signal_core.specs.Emission.{Walk, begun}
use Rattle.signal_core.specs.Laws.{walk_for}
use Rattle.signal_core.specs.SignalView.{declared_view}
use Rattle.signal_core.specs.declared.emission.Emission.{Emission}
use Rattle.definition_format.specs.Meaning.{planned}
use Rattle.engine_world.specs.Counting.{PassesGot}
use Rattle.engine_world.specs.View.{with_line, world_of}
use Rattle.engine_world.specs.TaskView.{agenda_of}
use Rattle.engine_stack.specs.TaskView.{emission_of, entries_to_come, new_of}
use Rattle.engine_world.specs.declared.engine.Engine.{Engine}
use Rattle.engine_stack.specs.declared.task.Transfers.{Transfers}
use Rattle.engine_stack.specs.declared.task.Transfers.TheVariants as at
use Rattle.engine_world.proofs.Counts.{keeps_same, taken_alike}
use Rattle.engine_tasks.proofs.Emitted.{beginning_starts, begun_as, begin_unheard, begin_fit, begun_none, begin_unknown}
use Rattle.engine_world.proofs.Left.{left_with}
use Rattle.engine_world.proofs.Notified.{counted_on}
use Rattle.engine_world.proofs.Ableness.{in_counted, able_as, no_arm}
use Rattle.engine_stack.specs.declared.task.Task.TheVariants as tasks
use Rattle.engine_world.proofs.Held.{may_on}
use Rattle.engine_world.proofs.LivingObjects.{lives_where}
use Rattle.engine_world.proofs.Rooms.{task_counted}
use Rattle.engine_tasks.proofs.emission.begin_emission.Goals as goal

pub count-requires : goal.count-requires
count-requires c = record { few = (in_counted (agenda_of c.args.definition.now c.args.engine.now) c.args.engine.now.counted _ c.requires.able).0 }

pub class_of-class-requires : goal.class_of-class-requires
class_of-class-requires c = record {
  live =
      let d = c.args.definition.now in
      let w = world_of c.args.engine.now.world in
      let m = c.args.emission in
      let able = (in_counted (agenda_of d c.args.engine.now) c.args.engine.now.counted _ c.requires.able).1 in
      rw c.count.ensures (lives_where w.objects m.object.0 _ (λ arm is. no_arm (beginning_emission d w (new_of m)) arm able (begin_unheard d w (new_of m) arm is)));
}

pub unreachable-requires : goal.unreachable-requires
unreachable-requires c =
    let d = c.args.definition.now in
    let w = world_of c.args.engine.now.world in
    let m = c.args.emission in
    let able = (in_counted (agenda_of d c.args.engine.now) c.args.engine.now.counted _ c.requires.able).1 in
    let none = sym c.signal.ensures ∙ ap (option_map declared_view) c.in_default.is in
    no_arm (beginning_emission d w (new_of m)) _ able (begin_unknown d w (new_of m) _ (rw c.count.ensures at c.class_of-class.ensures) none)

pub emission-requires : goal.emission-requires
emission-requires c = rw c.count.ensures c.requires.counted.links

pub unreachable-requires-in_default-emission : goal.unreachable-requires-in_default-emission
unreachable-requires-in_default-emission c =
    let d = c.args.definition.now in
    let w = world_of c.args.engine.now.world in
    let m = c.args.emission in
    let able = (in_counted (agenda_of d c.args.engine.now) c.args.engine.now.counted _ c.requires.able).1 in
    let g = λ (s : Signal). walk_for 0 s.accumulator (planned d c.class_of-class.result m.object.0 m.signal (new_of m).detail s) in
    let none = begun_none (λ (x : Emission). begun x 0) g _ (ap (option_map (λ (x : Emission). begun x 0)) (sym c.in_default-emission.is) ∙ c.emission.ensures 0) in
    no_arm (beginning_emission d w (new_of m)) _ able (begin_unknown d w (new_of m) _ (rw c.count.ensures at c.class_of-class.ensures) none)

pub start_emission-requires : goal.start_emission-requires
start_emission-requires c =
    let d = c.args.definition.now in
    let e = c.args.engine.now in
    let is = c.count.ensures in
    let m = c.args.emission in
    let able = (in_counted (agenda_of d e) e.counted _ c.requires.able).1 in
    let lives = lives_where (world_of e.world).objects m.object.0 _ (λ arm never. no_arm (beginning_emission d (world_of e.world) (new_of m)) arm able (begin_unheard d (world_of e.world) (new_of m) arm never)) in
    let declared = sym c.signal.ensures ∙ ap (option_map declared_view) c.in-Some.is in
    let g = λ (s : Signal). walk_for 0 s.accumulator (planned d c.class_of-class.result m.object.0 m.signal (new_of m).detail s) in
    let found = ap (option_map (λ (x : Emission). begun x 0)) (sym c.in-Some-emission.is) ∙ c.emission.ensures 0 in
    let same_object = ap (λ (v : Walk). v.object) (begun_as (λ (x : Emission). begun x 0) g c.in-Some-emission.planned _ (declared_view c.in-Some.declared) found declared) in
    let kept = keeps_same d e c.count.new.engine (ap (λ (f : Engine). f.world.table) is) (ap (λ (f : Engine). f.world.weak) is) (ap (λ (f : Engine). f.links) is) (subst (λ (f : Engine). PassesGot d f) (sym is)) (ap (λ (f : Engine). f.world.context) is) (ap (λ (f : Engine). f.world.builder) is) (ap (λ (f : Engine). f.stack) is)
    (ap (λ (f : Engine). f.world.handlers) is) in
    record {
      room = rw is c.requires.room;
      may = may_on d e c.count.new.engine c.in-Some-emission.planned.object.0 (task_counted d e (tasks.Beginning m) c.requires.counted) kept
          (subst (λ (f : Engine). IsSome (living f.world.table.objects c.in-Some-emission.planned.object.0)) (sym is)
          (subst (λ i. IsSome (living e.world.table.objects i)) (sym same_object) lives));
    }

pub returns : goal.returns
returns c = record {
  step =
      let d = c.args.definition.now in
      let e = c.args.engine.now in
      let f = c.count.new.engine in
      let m = c.args.emission in
      let is = c.count.ensures in
      let w = world_of f.world in
      let class = c.class_of-class.result in
      let rest = agenda_of d e in
      let n = e.counted in
      let last = f.world.handlers.last in
      let s = declared_view c.in-Some.declared in
      let declared = sym c.signal.ensures ∙ ap (option_map declared_view) c.in-Some.is in
      let able = able_as (ap (λ (h : Engine). beginning_emission d (world_of h.world) (new_of m)) (sym is)) (in_counted rest n _ c.requires.able).1 in
      let fit = begin_fit d w (new_of m) class c.class_of-class.ensures s declared able in
      let g = λ (s : Signal). walk_for last s.accumulator (planned d class m.object.0 m.signal (new_of m).detail s) in
      let found = ap (option_map (λ (x : Emission). begun x last)) (sym c.in-Some-emission.is) ∙ c.emission.ensures last in
      let walk = begun_as (λ (x : Emission). begun x last) g c.in-Some-emission.planned _ s found declared in
      let rises = subst (λ (h : Engine). Numbered 0 h.world.handlers.handlers h.world.handlers.last) (sym is) c.last-last.ensures.rises in
      let starts_so = beginning_starts d w rises m class c.class_of-class.ensures s declared fit (begun c.in-Some-emission.planned last) walk in
      let line = c.in_ok-line.ensures ∙ ap (λ (types : List GType). text_of_line types (lines.emit m.object.0 s.name (new_of m).detail (new_of m).args)) c.types-types.ensures.types in
      let world = c.in_ok-start_emission.ensures.world ∙ ap (λ (text : List ℕ). with_line text w) line in
      let agenda = c.in_ok-start_emission.ensures.agenda d
      ∙ ap (λ (ts : Transfers). Emitting (emission_of (begun c.in-Some-emission.planned last) m.args.items m.by_event) (entries_to_come (begun c.in-Some-emission.planned last) f.world.handlers.handlers ts) ∷ agenda_of d f) c.new-transfers.ensures
      ∙ ap (λ (ts : List Task). Emitting (emission_of (begun c.in-Some-emission.planned last) m.args.items m.by_event) (entries_to_come (begun c.in-Some-emission.planned last) f.world.handlers.handlers (at.Due [])) ∷ ts) (ap (λ (h : Engine). agenda_of d h) is) in
      ap (λ (h : Engine). counted rest n (beginning_emission d (world_of h.world) (new_of m))) (sym is)
      ∙ counted_on rest n _ (in_counted rest n _ c.requires.able).0
      ∙ left_with (world_of c.start_emission.new.engine.world) (agenda_of d c.start_emission.new.engine) (suc n) c.start_emission.new.engine.counted rest (beginning_emission d w (new_of m)) _ _ starts_so world agenda
      (c.start_emission.ensures.same ∙ ap (λ (h : Engine). h.counted) is);
  quiet = search rules;
  counted =
      let d = c.args.definition.now in
      let e = c.args.engine.now in
      let is = c.count.ensures in
      let kept = keeps_same d e c.count.new.engine (ap (λ (f : Engine). f.world.table) is) (ap (λ (f : Engine). f.world.weak) is) (ap (λ (f : Engine). f.links) is) (subst (λ (f : Engine). PassesGot d f) (sym is)) (ap (λ (f : Engine). f.world.context) is) (ap (λ (f : Engine). f.world.builder) is) (ap (λ (f : Engine). f.stack) is)
      (ap (λ (f : Engine). f.world.handlers) is) in
      c.in_ok-start_emission.ensures.counted d (λ o. same o c.args.emission.object.0) (taken_alike d c.count.new.engine _ _ (λ o. omega arith) (kept.at _ c.requires.counted));
  room = search rules;
}
