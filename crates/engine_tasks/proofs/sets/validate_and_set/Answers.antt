use Rattle.std.proofs.Common.{◌≡◌, true, sym, ap, subst, ◌∙◌, rules}
use Rattle.ui_machine.specs.Definition.Values.{Value}
use Rattle.ui_machine.specs.State.Objects.{class_in}
use Rattle.ui_machine.specs.Rules.Sets.{lives, without_disposed, setting, spec_at}
use Rattle.ui_machine.specs.Steps.{uncounted}
use Rattle.g_values.specs.View.{value_view}
use Rattle.param_specs.specs.View.{spec_view}
use Rattle.param_specs.specs.Validation.{Takes}
use Rattle.engine_world.specs.View.{world_of}
use Rattle.engine_world.specs.TaskView.{agenda_of}
use Rattle.engine_tasks.proofs.PlainSets.{no_spec_set, set_fits, written_so, refused_so, taken_so}
use Rattle.engine_tasks.proofs.WrittenValues.{written_lives}
use Rattle.engine_world.proofs.Left.{left_alone}
use Rattle.engine_world.proofs.Ableness.{able_as, in_uncounted, no_arm, none_stops}
use Rattle.engine_tasks.proofs.sets.validate_and_set.Goals as goal

pub spec_of-spec-requires : goal.spec_of-spec-requires
spec_of-spec-requires c =
    let d = c.args.definition.now in
    let w = world_of c.args.engine.now.world in
    record {
      able = none_stops (spec_at d w.objects c.args.object.0 c.args.slot) (λ arm none.
          no_arm (setting d w c.args.object.0 c.args.slot (value_view c.args.value)) arm (in_uncounted _ _ _ c.requires.able)
          (no_spec_set d w c.args.object.0 c.args.slot (value_view c.args.value) arm none));
    }

pub with_own_class-known-requires : goal.with_own_class-known-requires
with_own_class-known-requires c = record {
  lives =
      let d = c.args.definition.now in
      let w = world_of c.args.engine.now.world in
      (set_fits d w c.args.object.0 c.args.slot (value_view c.args.value) (spec_view c.spec_of-spec.result.now) c.spec_of-spec.ensures.spec (in_uncounted _ _ _ c.requires.able)).1;
}

pub write_and_notify-requires : goal.write_and_notify-requires
write_and_notify-requires c =
    let d = c.args.definition.now in
    let w = world_of c.args.engine.now.world in
    let id = c.args.object.0 in
    let slot = c.args.slot in
    let s = c.spec_of-spec.result.now in
    let is = c.spec_of-spec.ensures.spec in
    let plain = c.spec_of-spec.ensures.plain in
    let x = c.with_own_class-known.result in
    let knows = c.with_own_class-known.ensures.class in
    let same = c.with_own_class-known.ensures.value in
    let able = able_as (ap (setting d w id slot) (sym same)) (in_uncounted _ _ _ c.requires.able) in
    let taken : Takes c.types.result.now s x = rw c.types.ensures.types (taken_so d w id slot s is plain x able) in
    let valid = c.without_disposed-without_disposed.ensures ∙ ap (without_disposed w.objects (spec_view s)) (rw c.types.ensures.types at (c.validate-valid.ensures.value taken (class_in w.objects) knows)) in
    let told = written_so d w id slot s is plain x able _ (value_view c.without_disposed-without_disposed.result) c.if-refuses.ensures (rw c.types.ensures.types at (c.validate-valid.ensures.changed taken (class_in w.objects) knows)) valid in
    let alive = (set_fits d w id slot (value_view x) (spec_view s) is able).1 in
    record {
      able = able_as (ap (uncounted (agenda_of d c.args.engine.now) c.args.engine.now.counted) (ap (setting d w id slot) (sym same) ∙ told)) c.requires.able;
      lives = subst (λ (v : Value). lives w.objects v ≡ true) (sym valid) (written_lives w.objects d.types (spec_view s) plain (value_view x) alive);
      counted = c.requires.counted;
      room = c.requires.room;
    }

pub returns-then-refuses : goal.returns-then-refuses
returns-then-refuses c = record {
  step =
      let d = c.args.definition.now in
      let w = world_of c.args.engine.now.world in
      let id = c.args.object.0 in
      let slot = c.args.slot in
      let s = c.spec_of-spec.result.now in
      let is = c.spec_of-spec.ensures.spec in
      let plain = c.spec_of-spec.ensures.plain in
      let x = c.with_own_class-known.result in
      let knows = c.with_own_class-known.ensures.class in
      let same = c.with_own_class-known.ensures.value in
      let able = able_as (ap (setting d w id slot) (sym same)) (in_uncounted _ _ _ c.requires.able) in
      let taken : Takes c.types.result.now s x = rw c.types.ensures.types (taken_so d w id slot s is plain x able) in
      let told = refused_so d w id slot s is plain x able _ (value_view c.in_ok-original.original) c.if-refuses.ensures (rw c.types.ensures.types at (c.validate-valid.ensures.changed taken (class_in w.objects) knows)) c.in_ok-original.ensures.value in
      rw (← same) (left_alone d c.args.engine.now c.refuse.new.engine _ _ told (rw c.as_str.ensures.value at c.in_ok-refuse.ensures.ok) c.in_ok-refuse.ensures.same.0 c.in_ok-refuse.ensures.same.1 c.in_ok-refuse.ensures.handlers);
  quiet = search rules;
  counted = search rules;
  room = search rules;
}

pub returns : goal.returns
returns c = record {
  step =
      let d = c.args.definition.now in
      let w = world_of c.args.engine.now.world in
      let id = c.args.object.0 in
      let slot = c.args.slot in
      let s = c.spec_of-spec.result.now in
      let is = c.spec_of-spec.ensures.spec in
      let plain = c.spec_of-spec.ensures.plain in
      let x = c.with_own_class-known.result in
      let knows = c.with_own_class-known.ensures.class in
      let same = c.with_own_class-known.ensures.value in
      let able = able_as (ap (setting d w id slot) (sym same)) (in_uncounted _ _ _ c.requires.able) in
      let taken : Takes c.types.result.now s x = rw c.types.ensures.types (taken_so d w id slot s is plain x able) in
      let valid = c.without_disposed-without_disposed.ensures ∙ ap (without_disposed w.objects (spec_view s)) (rw c.types.ensures.types at (c.validate-valid.ensures.value taken (class_in w.objects) knows)) in
      let told = written_so d w id slot s is plain x able _ (value_view c.without_disposed-without_disposed.result) c.if-refuses.ensures (rw c.types.ensures.types at (c.validate-valid.ensures.changed taken (class_in w.objects) knows)) valid in
      rw (← same) (ap (uncounted (agenda_of d c.args.engine.now) c.args.engine.now.counted) told ∙ c.in_ok-write_and_notify.ensures.step);
  quiet = search rules;
  counted = search rules;
  room = search rules;
}
