use Rattle.std.proofs.Common.{suc, List, arith, ap, ℕ, Ok, subst, sym, ◌≡◌, ◌∙◌, ◌∷◌, ◌<◌, ◌≤◌, rules}
use Rattle.ui_machine.specs.Rules.Build.{building_child}
use Rattle.ui_machine.specs.State.Config.{World}
use Rattle.ui_machine.specs.State.Tasks.{Item, Building, Task}
use Rattle.engine_world.specs.KinView.{kin_at, Kin, kin_of, joined}
use Rattle.engine_world.specs.View.{world_of}
use Rattle.engine_world.specs.TaskView.{agenda_of}
use Rattle.engine_stack.specs.TaskView.{build_from}
use Rattle.engine_world.proofs.Kin.{no_kin, no_object_there, joins_not, joins_then}
use Rattle.ui_machine.specs.declared.arm.Arm.TheVariants as arms
use Rattle.ui_machine.specs.Definition.{Definition}
use Rattle.engine_world.specs.Able.{Able, Leads}
use Rattle.definition_format.specs.Meaning.{IsBasic, object_count}
use Rattle.engine_world.proofs.Ableness.{in_uncounted, no_arm, none_stops}
use Rattle.engine_world.proofs.Counts.{keeps_on, still_counted}
use Rattle.engine_world.proofs.Left.{same_agenda}
use Rattle.ui_machine.specs.Steps.{uncounted}
use Rattle.engine_world.proofs.Registers.{on_ok}
use Rattle.std.specs.Prelude.{OnErr}
use Rattle.engine_world.specs.Quiet.{IsQuiet}
use Rattle.engine_tasks.proofs.children.adopt_from_build.Goals as goal

module _ (d : Definition) (w : World) (place : ℕ) (items : List Item) (able : Able (building_child d w place items)) where
  able_kin : Able (kin_at d w place)
  able_kin = none_stops (kin_at d w place) (λ arm is. no_arm (building_child d w place items) arm able (no_kin d w place items arm is))

  within : IsBasic d → place < object_count d
  within basic =
      let never : object_count d ≤ place → ⊥ = λ past. no_arm (building_child d w place items) arms.Code able (no_object_there d w place items basic past) in
      omega arith

  -- where the builder holds both, no arm stops that they are joined
  able_joined : (kin : Kin) → kin_at d w place ≡ Ok kin → Able (joined d w kin.parent kin.child)
  able_joined kin is =
      none_stops (joined d w kin.parent kin.child)
      (λ arm stuck. no_arm (building_child d w place items) arm able (joins_not d w place items kin arm is stuck))

pub kin_at-kin-requires : goal.kin_at-kin-requires
kin_at-kin-requires c =
    let d = c.args.definition.now in
    let place = c.args.place.0 in
    record { able = able_kin d (world_of c.args.engine.now.world) place (build_from d (suc place) c.args.forwards) (in_uncounted _ _ _ c.requires.able) }

pub next_place-requires : goal.next_place-requires
next_place-requires c =
    let d = c.args.definition.now in
    let place = c.args.place.0 in
    within d (world_of c.args.engine.now.world) place (build_from d (suc place) c.args.forwards) (in_uncounted _ _ _ c.requires.able) c.types-types.ensures.basic

pub join-requires : goal.join-requires
join-requires c =
    let d = c.args.definition.now in
    let w = world_of c.args.engine.now.world in
    let place = c.args.place.0 in
    let items = build_from d (suc place) c.args.forwards in
    let kin = kin_of c.kin_at-kin.result in
    record {
      able = rw c.push_task.ensures.world (able_joined d w place items (in_uncounted _ _ _ c.requires.able) kin c.kin_at-kin.ensures);
      counted = still_counted d c.args.engine.now c.push_task.new.engine (c.push_task.ensures.counted d) c.requires.counted;
    }

pub returns : goal.returns
returns c = record {
  step =
      let d = c.args.definition.now in
      let e = c.args.engine.now in
      let w = world_of e.world in
      let rest = agenda_of d e in
      let n = e.counted in
      let new = world_of c.join.new.engine.world in
      let kin = kin_of c.kin_at-kin.result in
      let items = build_from d (suc c.args.place.0) c.args.forwards in
      let one : c.next_place.result.0 ≡ suc c.args.place.0 = c.next_place.ensures in
      let pushed = c.push_task.ensures.agenda d ∙ ap (λ place. Building (build_from d place c.args.forwards) ∷ rest) one in
      let agenda = same_agenda d c.push_task.new.engine c.join.new.engine c.join.ensures.same.0 c.join.ensures.handlers ∙ pushed in
      let counted = c.join.ensures.same.1 ∙ c.push_task.ensures.same in
      let goes = subst (λ (v : World). Leads c.join.result (joined d v kin.parent kin.child) new) c.push_task.ensures.world c.join.ensures.joins in
      let a = uncounted rest n (building_child d w c.args.place.0 items) in
      subst (λ (ts : List Task). Leads c.join.result a (record { world = new; agenda = ts; counted = c.join.new.engine.counted })) (sym agenda)
      (subst (λ k. Leads c.join.result a (record { world = new; agenda = Building items ∷ rest; counted = k })) (sym counted)
      (joins_then d w c.args.place.0 items rest n kin c.join.result new c.kin_at-kin.ensures goes));
  quiet = subst (λ (v : World). OnErr c.join.result (IsQuiet v (world_of c.join.new.engine.world))) c.push_task.ensures.world c.join.ensures.quiet;
  counted =
      let d = c.args.definition.now in
      on_ok c.join.result (λ k. keeps_on d _ _ _ (c.push_task.ensures.counted d) k) c.join.ensures.counted;
  room = search rules;
}
