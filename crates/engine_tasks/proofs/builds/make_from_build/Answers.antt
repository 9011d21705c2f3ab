use Rattle.std.proofs.Common.{true, List, ◌∷◌, ap, ◌∙◌, rules}
use Rattle.ui_machine.specs.State.Tasks.{Constructing, Task}
use Rattle.engine_world.specs.View.{world_of}
use Rattle.engine_world.specs.TaskView.{agenda_of}
use Rattle.engine_world.proofs.Counts.{keeps_on}
use Rattle.engine_world.proofs.Left.{left_with, same_agenda}
use Rattle.engine_world.proofs.Ableness.{in_uncounted}
use Rattle.engine_world.proofs.Building.{makes_any}
use Rattle.engine_world.proofs.Held.{may_on}
use Rattle.engine_tasks.proofs.builds.make_from_build.Goals as goal

pub make-requires : goal.make-requires
make-requires c = record {
  identity = c.requires.identity;
  able = λ held. makes_any c.args.definition.now (world_of c.args.engine.now.world) c.args.place.0 c.args.peer true held (in_uncounted _ _ _ c.requires.able);
}

pub begin_construction-requires-clause-may : goal.begin_construction-requires-clause-may
begin_construction-requires-clause-may c =
    may_on c.args.definition.now c.args.engine.now c.make.new.engine c.in_ok-new.new.object.0 c.requires.counted c.in_ok-new.ensures.counted c.in_ok-new.ensures.live

pub returns : goal.returns
returns c = record {
  step =
      let d = c.args.definition.now in
      let e = c.args.engine.now in
      let m = c.make.new.engine in
      let new = c.begin_construction.new.engine in
      let task = Constructing c.in_ok-new.new.object.0 c.in_ok-new.new.steps true in
      left_with (world_of new.world) (agenda_of d new) e.counted new.counted (agenda_of d e) _ _ task (c.in_ok-new.ensures.made true) c.in_ok-begin_construction.ensures.world
      (c.in_ok-begin_construction.ensures.agenda d ∙ ap (λ (ts : List Task). task ∷ ts) (same_agenda d e m c.make.ensures.same.0 c.make.ensures.handlers))
      (c.begin_construction.ensures.same ∙ c.make.ensures.same.1);
  quiet = search rules;
  counted =
      let d = c.args.definition.now in
      keeps_on d _ _ _ c.in_ok-new.ensures.counted (c.in_ok-begin_construction.ensures.counted d);
  room = search rules;
}
