use Rattle.std.proofs.Common.{◌∙◌, [], ◌∷◌, sym, ap, subst, rules}
use Rattle.ui_machine.specs.Outcome.{Answer}
use Rattle.ui_machine.specs.State.Config.{Config}
use Rattle.engine_world.specs.Able.{Leads}
use Rattle.engine_world.specs.EngineView.{config_of}
use Rattle.engine_stack.specs.FirstConstructions.{stack_construction}
use Rattle.engine_stack.specs.MakingView.{making_of_code}
use Rattle.engine_stack.specs.declared.task.ConstructStep.{ConstructStep}
use Rattle.engine_world.proofs.Ableness.{able_as}
use Rattle.engine_tasks.proofs.ConstructionPlaces.{counts_past, goes_on, lives_past}
use Rattle.engine_world.proofs.RoomLeft.{places_kept}
use Rattle.engine_tasks.proofs.builds.construct.Goals as goal

-- no step is left

pub end_first-requires : goal.end_first-requires
end_first-requires c =
    let d = c.args.definition.now in
    let e = c.args.engine.now in
    let s = c.next_construct_step.new.self in
    let n = c.next_construct_step.ensures in
    let on = goes_on d e c.requires.first s n.constructs n.construction [] c.in_default.ensures.step.0 in
    record {
      first = n.constructs.first;
      able = able_as on c.requires.able;
      counted = counts_past d e c.requires.first s n.constructs n.construction c.requires.counted;
    }

pub returns-in_default : goal.returns-in_default
returns-in_default c = record {
  step =
      let d = c.args.definition.now in
      let e = c.args.engine.now in
      let s = c.next_construct_step.new.self in
      let n = c.next_construct_step.ensures in
      let on = goes_on d e c.requires.first s n.constructs n.construction [] c.in_default.ensures.step.0 in
      subst (λ (a : Answer Config). Leads c.end_first.result a (config_of d c.end_first.new.engine)) (sym on) c.end_first.ensures.step;
  quiet = search rules;
  counted = search rules;
  room = search rules;
}

-- a property is set

pub apply_construct_property-requires : goal.apply_construct_property-requires
apply_construct_property-requires c =
    let d = c.args.definition.now in
    let e = c.args.engine.now in
    let s = c.next_construct_step.new.self in
    let n = c.next_construct_step.ensures in
    let on = goes_on d e c.requires.first s n.constructs n.construction _ (c.in-Some.ensures.step ∙ ap (λ (t : ConstructStep). making_of_code t ∷ (stack_construction s).steps) c.in-Set.is) in
    record {
      first = n.constructs.first;
      able = able_as on c.requires.able;
      live = lives_past d e c.requires.first s n.constructs n.construction c.never_full.ensures.dead c.requires.counted;
      counted = counts_past d e c.requires.first s n.constructs n.construction c.requires.counted;
      room = places_kept 1 e.stack.tasks s.tasks n.room n.frames c.requires.room;
    }

pub returns-in-Set : goal.returns-in-Set
returns-in-Set c = record {
  step =
      let d = c.args.definition.now in
      let e = c.args.engine.now in
      let s = c.next_construct_step.new.self in
      let n = c.next_construct_step.ensures in
      let on = goes_on d e c.requires.first s n.constructs n.construction _ (c.in-Some.ensures.step ∙ ap (λ (t : ConstructStep). making_of_code t ∷ (stack_construction s).steps) c.in-Set.is) in
      on ∙ c.apply_construct_property.ensures.step;
  quiet = search rules;
  counted = search rules;
  room = search rules;
}

-- a program runs

pub run_constructed-requires : goal.run_constructed-requires
run_constructed-requires c =
    let d = c.args.definition.now in
    let e = c.args.engine.now in
    let s = c.next_construct_step.new.self in
    let n = c.next_construct_step.ensures in
    let on = goes_on d e c.requires.first s n.constructs n.construction _ (c.in-Some.ensures.step ∙ ap (λ (t : ConstructStep). making_of_code t ∷ (stack_construction s).steps) c.in-Run.is) in
    record {
      first = n.constructs.first;
      able = able_as on c.requires.able;
      live = lives_past d e c.requires.first s n.constructs n.construction c.never_full.ensures.dead c.requires.counted;
      counted = counts_past d e c.requires.first s n.constructs n.construction c.requires.counted;
      room = places_kept 1 e.stack.tasks s.tasks n.room n.frames c.requires.room;
    }

pub returns-in-Run : goal.returns-in-Run
returns-in-Run c = record {
  step =
      let d = c.args.definition.now in
      let e = c.args.engine.now in
      let s = c.next_construct_step.new.self in
      let n = c.next_construct_step.ensures in
      let on = goes_on d e c.requires.first s n.constructs n.construction _ (c.in-Some.ensures.step ∙ ap (λ (t : ConstructStep). making_of_code t ∷ (stack_construction s).steps) c.in-Run.is) in
      subst (λ (a : Answer Config). Leads c.run_constructed.result a (config_of d c.run_constructed.new.engine)) (sym on) c.run_constructed.ensures.step;
  quiet = search rules;
  counted = search rules;
  room = search rules;
}

-- the object is thawed

pub thaw_constructed-requires : goal.thaw_constructed-requires
thaw_constructed-requires c =
    let d = c.args.definition.now in
    let e = c.args.engine.now in
    let s = c.next_construct_step.new.self in
    let n = c.next_construct_step.ensures in
    let on = goes_on d e c.requires.first s n.constructs n.construction _ (c.in-Some.ensures.step ∙ ap (λ (t : ConstructStep). making_of_code t ∷ (stack_construction s).steps) c.in-Thaw.is) in
    record {
      first = n.constructs.first;
      able = able_as on c.requires.able;
      counted = counts_past d e c.requires.first s n.constructs n.construction c.requires.counted;
      room = places_kept 1 e.stack.tasks s.tasks n.room n.frames c.requires.room;
    }

pub returns-in-Thaw : goal.returns-in-Thaw
returns-in-Thaw c = record {
  step =
      let d = c.args.definition.now in
      let e = c.args.engine.now in
      let s = c.next_construct_step.new.self in
      let n = c.next_construct_step.ensures in
      let on = goes_on d e c.requires.first s n.constructs n.construction _ (c.in-Some.ensures.step ∙ ap (λ (t : ConstructStep). making_of_code t ∷ (stack_construction s).steps) c.in-Thaw.is) in
      on ∙ c.thaw_constructed.ensures.step;
  quiet = search rules;
  counted = search rules;
  room = search rules;
}
