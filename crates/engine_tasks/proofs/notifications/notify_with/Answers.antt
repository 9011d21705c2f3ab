use Rattle.std.proofs.Common.{◌≡◌, ℕ, suc, List, [], ◌∷◌, map, false, Some, IsSome, Bor, option_map, sym, ap, subst, ◌∙◌, arith, rules}
use Rattle.std.specs.Rc.{rc_str_bytes}
use Rattle.ui_machine.specs.Definition.Types.{GType}
use Rattle.ui_machine.specs.Definition.Signals.{Signal}
use Rattle.ui_machine.specs.Output.Lines as lines
use Rattle.ui_machine.specs.Output.Text.{text_of_line}
use Rattle.ui_machine.specs.Rules.EmissionPlan.{notifying}
use Rattle.ui_machine.specs.State.Tasks.{Emitting, Task}
use Rattle.ui_machine.specs.Steps.{counted}
use Rattle.ui_machine.specs.Seq.{total}
use Rattle.ui_machine.specs.State.Bindings.{transfers}
use Rattle.ui_machine.specs.State.Objects.{living}
use Rattle.ui_machine.specs.State.References.{in_value}
use Rattle.g_values.specs.View.{value_view}
use Rattle.g_values.specs.declared.value.Value.{Value}
use Rattle.param_specs.specs.declared.spec.Spec.{Spec}
use Rattle.param_specs.specs.View.{spec_view}
use Rattle.signal_core.specs.Connected.{Numbered}
use Rattle.signal_core.specs.Emission.{Walk, begun}
use Rattle.signal_core.specs.Laws.{walk_for}
use Rattle.signal_core.specs.declared.emission.Emission.{Emission}
use Rattle.definition_format.specs.Meaning.{planned}
use Rattle.bindings.specs.Due.{entry_of}
use Rattle.engine_world.specs.Counting.{PassesGot}
use Rattle.engine_world.specs.View.{with_line, world_of}
use Rattle.engine_world.specs.TaskView.{agenda_of}
use Rattle.engine_stack.specs.TaskView.{emission_of, entries_to_come}
use Rattle.engine_world.specs.declared.engine.Engine.{Engine}
use Rattle.engine_stack.specs.declared.task.Transfers.TheVariants as at
use Rattle.engine_world.proofs.Counts.{keeps_same, taken_alike}
use Rattle.engine_tasks.proofs.Emitted.{begun_as, begun_some, notifying_starts, begun_none}
use Rattle.engine_world.proofs.Left.{left_with}
use Rattle.engine_world.proofs.Notified.{counted_on, unnamed, unknown, unheard}
use Rattle.engine_world.proofs.Ableness.{in_counted, no_arm}
use Rattle.engine_world.proofs.Held.{may_on}
use Rattle.engine_world.proofs.LivingObjects.{lives_where}
use Rattle.engine_tasks.proofs.notifications.notify_with.Goals as goal

pub count-requires : goal.count-requires
count-requires c = record { few = (in_counted (agenda_of c.args.definition.now c.args.engine.now) c.args.engine.now.counted _ c.requires.able).0 }

pub class_of-class-requires : goal.class_of-class-requires
class_of-class-requires c = record {
  live =
      let d = c.args.definition.now in
      let w = world_of c.args.engine.now.world in
      let id = c.args.object.0 in
      let able = (in_counted (agenda_of d c.args.engine.now) c.args.engine.now.counted _ c.requires.able).1 in
      rw c.count.ensures (lives_where w.objects id _ (λ arm is. no_arm (notifying d w id c.args.slot) arm able (unheard d w id c.args.slot arm is)));
}

pub unreachable-requires : goal.unreachable-requires
unreachable-requires c =
    let d = c.args.definition.now in
    let w = world_of c.args.engine.now.world in
    let id = c.args.object.0 in
    let able = (in_counted (agenda_of d c.args.engine.now) c.args.engine.now.counted _ c.requires.able).1 in
    let none = sym c.spec.ensures ∙ ap (option_map (λ (s : Bor Spec). spec_view s.now)) c.in_default.is in
    no_arm (notifying d w id c.args.slot) _ able (unnamed d w id c.args.slot _ (rw c.count.ensures at c.class_of-class.ensures) none)

pub emission-requires : goal.emission-requires
emission-requires c = rw c.count.ensures c.requires.counted.counts.links

pub unreachable-requires-in_default-emission : goal.unreachable-requires-in_default-emission
unreachable-requires-in_default-emission c =
    let d = c.args.definition.now in
    let w = world_of c.args.engine.now.world in
    let id = c.args.object.0 in
    let able = (in_counted (agenda_of d c.args.engine.now) c.args.engine.now.counted _ c.requires.able).1 in
    let some = sym c.spec.ensures ∙ ap (option_map (λ (s : Bor Spec). spec_view s.now)) c.in-Some.is in
    let g = λ (s : Signal). walk_for 0 s.accumulator (planned d c.class_of-class.result id 0 (Some (rc_str_bytes c.in_ok-name.name)) s) in
    let none = begun_none (λ (m : Emission). begun m 0) g _ (ap (option_map (λ (m : Emission). begun m 0)) (sym c.in_default-emission.is) ∙ c.emission.ensures 0) in
    no_arm (notifying d w id c.args.slot) _ able (unknown d w id c.args.slot _ (rw c.count.ensures at c.class_of-class.ensures) _ some none)

pub start_emission-requires : goal.start_emission-requires
start_emission-requires c =
    let d = c.args.definition.now in
    let e = c.args.engine.now in
    let is = c.count.ensures in
    let id = c.args.object.0 in
    let name = rc_str_bytes c.in_ok-name.name in
    let able = (in_counted (agenda_of d e) e.counted _ c.requires.able).1 in
    let lives = lives_where (world_of e.world).objects id _ (λ arm never. no_arm (notifying d (world_of e.world) id c.args.slot) arm able (unheard d (world_of e.world) id c.args.slot arm never)) in
    let g = λ (s : Signal). walk_for 0 s.accumulator (planned d c.class_of-class.result id 0 (Some name) s) in
    let found = ap (option_map (λ (m : Emission). begun m 0)) (sym c.in-Some-emission.is) ∙ c.emission.ensures 0 in
    let declared = begun_some (λ (m : Emission). begun m 0) g c.in-Some-emission.emission _ found in
    let same_object = ap (λ (v : Walk). v.object) (begun_as (λ (m : Emission). begun m 0) g c.in-Some-emission.emission _ declared.0 found declared.1) in
    let same = keeps_same d e c.count.new.engine (ap (λ (f : Engine). f.world.table) is) (ap (λ (f : Engine). f.world.weak) is) (ap (λ (f : Engine). f.links) is) (subst (λ (f : Engine). PassesGot d f) (sym is)) (ap (λ (f : Engine). f.world.context) is) (ap (λ (f : Engine). f.world.builder) is) (ap (λ (f : Engine). f.stack) is)
    (ap (λ (f : Engine). f.world.handlers) is) in
    record {
      room = rw is c.requires.room;
      may = may_on d e c.count.new.engine c.in-Some-emission.emission.object.0 c.requires.counted same
          (subst (λ (f : Engine). IsSome (living f.world.table.objects c.in-Some-emission.emission.object.0)) (sym is)
          (subst (λ i. IsSome (living e.world.table.objects i)) (sym same_object) lives));
    }

pub returns : goal.returns
returns c = record {
  step =
      let d = c.args.definition.now in
      let e = c.args.engine.now in
      let f = c.count.new.engine in
      let is = c.count.ensures in
      let w = world_of f.world in
      let id = c.args.object.0 in
      let class = c.class_of-class.result in
      let rest = agenda_of d e in
      let n = e.counted in
      let p = spec_view c.in-Some.spec.now in
      let last = f.world.handlers.last in
      let some = sym c.spec.ensures ∙ ap (option_map (λ (s : Bor Spec). spec_view s.now)) c.in-Some.is in
      let name = c.in_ok-name.ensures.cases in
      let g = λ (detail : List ℕ) (s : Signal). walk_for last s.accumulator (planned d class id 0 (Some detail) s) in
      let found = ap (option_map (λ (m : Emission). begun m last)) (sym c.in-Some-emission.is) ∙ c.emission.ensures last in
      let declared = begun_some (λ (m : Emission). begun m last) (g (rc_str_bytes c.in_ok-name.name)) c.in-Some-emission.emission _ found in
      let walk = begun_as (λ (m : Emission). begun m last) (g (rc_str_bytes c.in_ok-name.name)) c.in-Some-emission.emission _ declared.0 found declared.1 ∙ ap (λ (detail : List ℕ). g detail declared.0) name in
      let rises = subst (λ (h : Engine). Numbered 0 h.world.handlers.handlers h.world.handlers.last) (sym is) c.last-last.ensures.rises in
      let due = subst (λ (h : Engine). map entry_of c.args.due ≡ transfers id c.args.slot (world_of h.world).bindings) (sym is) c.requires.due in
      let starts_so = notifying_starts d w rises id c.args.slot class c.args.due due c.class_of-class.ensures p some declared.0 declared.1 (begun c.in-Some-emission.emission last) walk in
      let line = (rw c.as_str.ensures.value at c.in_ok-line.ensures) ∙ ap (λ (types : List GType). text_of_line types (lines.notify id p.name)) c.types.ensures.types in
      let world = c.in_ok-start_emission.ensures.world ∙ ap (λ (text : List ℕ). with_line text w) line in
      let agenda = c.in_ok-start_emission.ensures.agenda d
      ∙ ap (λ (vs : List Value). Emitting (emission_of (begun c.in-Some-emission.emission last) vs false) (entries_to_come (begun c.in-Some-emission.emission last) f.world.handlers.handlers (at.Ahead c.args.due)) ∷ agenda_of d f) c.take-args.ensures
      ∙ ap (λ (ts : List Task). Emitting (emission_of (begun c.in-Some-emission.emission last) [] false) (entries_to_come (begun c.in-Some-emission.emission last) f.world.handlers.handlers (at.Ahead c.args.due)) ∷ ts) (ap (λ (h : Engine). agenda_of d h) is) in
      ap (λ (h : Engine). counted rest n (notifying d (world_of h.world) id c.args.slot)) (sym is)
      ∙ counted_on rest n _ (in_counted rest n _ c.requires.able).0
      ∙ left_with (world_of c.start_emission.new.engine.world) (agenda_of d c.start_emission.new.engine) (suc n) c.start_emission.new.engine.counted rest (notifying d w id c.args.slot) _ _ starts_so world agenda
      (c.start_emission.ensures.same ∙ ap (λ (h : Engine). h.counted) is);
  quiet = search rules;
  counted =
      let d = c.args.definition.now in
      let e = c.args.engine.now in
      let is = c.count.ensures in
      let same = keeps_same d e c.count.new.engine (ap (λ (f : Engine). f.world.table) is) (ap (λ (f : Engine). f.world.weak) is) (ap (λ (f : Engine). f.links) is) (subst (λ (f : Engine). PassesGot d f) (sym is)) (ap (λ (f : Engine). f.world.context) is) (ap (λ (f : Engine). f.world.builder) is) (ap (λ (f : Engine). f.stack) is)
      (ap (λ (f : Engine). f.world.handlers) is) in
      record { at = λ taken h. c.in_ok-start_emission.ensures.counted d taken (taken_alike d c.count.new.engine _ _ (λ o. omega (arith, ap (λ (vs : List Value). total (in_value o) (map value_view vs)) c.take-args.ensures)) (same.at taken h)) };
  room = search rules;
}
