use Rattle.std.proofs.Common.{◌≡◌, true, List, ◌∷◌, sym, ap, subst, ◌∙◌, arith, rules}
use Rattle.std.specs.Prelude.{◌<◌, IfSome, length}
use Rattle.ui_machine.specs.State.Objects.{most_identities}
use Rattle.ui_machine.specs.State.Peers.{Peer}
use Rattle.ui_machine.specs.State.Tasks.{Task, Item}
use Rattle.ui_machine.specs.State.Config.{World, Config}
use Rattle.ui_machine.specs.Outcome.{Answer}
use Rattle.ui_machine.specs.Rules.Construction.{making}
use Rattle.ui_machine.specs.Rules.Build.{building}
use Rattle.engine_world.specs.PeerPlaces.{own_peer}
use Rattle.ui_machine.specs.Steps.{uncounted}
use Rattle.engine_world.specs.View.{world_of}
use Rattle.engine_world.specs.TaskView.{agenda_of}
use Rattle.engine_stack.specs.TaskView.{build_from}
use Rattle.engine_world.specs.EngineView.{config_of}
use Rattle.engine_world.proofs.Building.{object_within, builds_next, builds_stuck, only_forwards}
use Rattle.engine_world.proofs.Counts.{keeps_on, still_counted}
use Rattle.ui_machine.specs.State.References.{in_task}
use Rattle.engine_world.proofs.Held.{pushes_nothing}
use Rattle.engine_world.proofs.Named.{names_as}
use Rattle.engine_world.proofs.Parts.{task_alike}
use Rattle.engine_world.specs.Able.{Leads}
use Rattle.engine_world.proofs.Registers.{on_ok}
use Rattle.engine_world.proofs.Ableness.{able_as, no_arm, none_stops}
use Rattle.engine_world.proofs.RoomLeft.{room_for_next}
use Rattle.engine_tasks.proofs.builds.build.Goals as goal

pub push_task-requires : goal.push_task-requires
push_task-requires c = record {
  frameless = c.behind.ensures.frameless;
  begun = c.behind.ensures.begun c.args.engine.now.world.handlers.last;
  room = let has = c.requires.room in omega (arith, has.0);
  may =
      let d = c.args.definition.now in
      let e = c.args.engine.now in
      let hs = e.world.handlers.handlers in
      pushes_nothing e c.behind.result (λ any o. task_alike any d hs hs c.behind.result o ∙ ap (in_task o) (c.behind.ensures.task hs));
}

pub returns : goal.returns
returns c = record {
  step =
      let d = c.args.definition.now in
      let w = world_of c.args.engine.now.world in
      let rest = agenda_of d c.args.engine.now in
      let n = c.args.engine.now.counted in
      let fs = c.args.forwards in
      let there = object_within d c.types-types.ensures.basic c.args.place.0 (c.is_object.ensures.within c.if-not-is_object.false) in
      let next = builds_next d c.types-types.ensures.basic w c.args.place.0 there.0 there.1 there.2 fs rest n c.own_peer-peer.result c.own_peer-peer.ensures.own in
      let pushed = c.push_task.ensures.agenda d ∙ ap (λ (t : Task). t ∷ rest) (c.behind.ensures.task c.args.engine.now.world.handlers.handlers) in
      let world : world_of c.push_task.new.engine.world ≡ w = c.push_task.ensures.world in
      let same : c.push_task.new.engine.counted ≡ n = c.push_task.ensures.same in
      let made =
      subst (λ (a : List Task). Leads c.make_from_build.result (uncounted a n (making d w c.args.place.0 c.own_peer-peer.result true)) (config_of d c.make_from_build.new.engine)) pushed
      (subst (λ (v : World). Leads c.make_from_build.result (uncounted (agenda_of d c.push_task.new.engine) n (making d v c.args.place.0 c.own_peer-peer.result true)) (config_of d c.make_from_build.new.engine)) world
      (subst (λ k. Leads c.make_from_build.result (uncounted (agenda_of d c.push_task.new.engine) k (making d (world_of c.push_task.new.engine.world) c.args.place.0 c.own_peer-peer.result true)) (config_of d c.make_from_build.new.engine)) same c.make_from_build.ensures.step)) in
      subst (λ (a : Answer Config). Leads c.make_from_build.result a (config_of d c.make_from_build.new.engine)) (sym next) made;
  quiet = search rules;
  counted =
      let d = c.args.definition.now in
      on_ok c.make_from_build.result (λ k. keeps_on d _ _ _ (c.push_task.ensures.counted d) k) c.make_from_build.ensures.counted;
  room = search rules;
}

pub own_peer-peer-requires : goal.own_peer-peer-requires
own_peer-peer-requires c =
    let d = c.args.definition.now in
    let w = world_of c.args.engine.now.world in
    let rest = agenda_of d c.args.engine.now in
    let n = c.args.engine.now.counted in
    let there = object_within d c.types-types.ensures.basic c.args.place.0 (c.is_object.ensures.within c.if-not-is_object.false) in
    record {
      able = none_stops (own_peer d w c.args.place.0) (λ arm none.
          no_arm (uncounted rest n (building d w (build_from d c.args.place.0 c.args.forwards))) arm c.requires.able
          (builds_stuck d c.types-types.ensures.basic w c.args.place.0 there.0 there.1 there.2 c.args.forwards rest n arm none));
      numbered = c.requires.counted.counts.passes.numbered;
    }

pub make_from_build-requires : goal.make_from_build-requires
make_from_build-requires c = record {
  able =
      let d = c.args.definition.now in
      let w = world_of c.args.engine.now.world in
      let rest = agenda_of d c.args.engine.now in
      let n = c.args.engine.now.counted in
      let there = object_within d c.types-types.ensures.basic c.args.place.0 (c.is_object.ensures.within c.if-not-is_object.false) in
      let next = builds_next d c.types-types.ensures.basic w c.args.place.0 there.0 there.1 there.2 c.args.forwards rest n c.own_peer-peer.result c.own_peer-peer.ensures.own in
      let pushed = c.push_task.ensures.agenda d ∙ ap (λ (t : Task). t ∷ rest) (c.behind.ensures.task c.args.engine.now.world.handlers.handlers) in
      rw (pushed, c.push_task.ensures.world, c.push_task.ensures.same) (able_as next c.requires.able);
  peer =
      subst (λ (peers : List Peer). IfSome c.own_peer-peer.result (λ number. number < length peers)) (sym (ap (λ (w : World). w.peers) c.push_task.ensures.world)) c.own_peer-peer.ensures.within;
  identity =
      subst (λ (w : World). length w.objects < most_identities) (sym c.push_task.ensures.world) (c.requires.identity (c.is_object.ensures.within c.if-not-is_object.false));
  counted = still_counted c.args.definition.now c.args.engine.now c.push_task.new.engine (c.push_task.ensures.counted c.args.definition.now) c.requires.counted;
  room = room_for_next c.args.engine.now c.push_task.new.engine c.push_task.ensures.room c.requires.room;
}

pub set_forward_reference-requires-clause-names : goal.set_forward_reference-requires-clause-names
set_forward_reference-requires-clause-names c =
    let d = c.args.definition.now in
    let w = world_of c.args.engine.now.world in
    let rest = agenda_of d c.args.engine.now in
    let n = c.args.engine.now.counted in
    let left = only_forwards d c.types-types.ensures.basic c.args.place.0 c.args.forwards (c.is_object.ensures.past c.if-not-is_object.true) in
    names_as (ap (λ (items : List Item). uncounted rest n (building d w items)) left) c.requires.names

pub set_forward_reference-requires-clause-able : goal.set_forward_reference-requires-clause-able
set_forward_reference-requires-clause-able c =
    let d = c.args.definition.now in
    let w = world_of c.args.engine.now.world in
    let rest = agenda_of d c.args.engine.now in
    let n = c.args.engine.now.counted in
    let left = only_forwards d c.types-types.ensures.basic c.args.place.0 c.args.forwards (c.is_object.ensures.past c.if-not-is_object.true) in
    able_as (ap (λ (items : List Item). uncounted rest n (building d w items)) left) c.requires.able

pub returns-then-not-is_object : goal.returns-then-not-is_object
returns-then-not-is_object c = record {
  step =
      let d = c.args.definition.now in
      let w = world_of c.args.engine.now.world in
      let rest = agenda_of d c.args.engine.now in
      let n = c.args.engine.now.counted in
      let left = only_forwards d c.types-types.ensures.basic c.args.place.0 c.args.forwards (c.is_object.ensures.past c.if-not-is_object.true) in
      subst (λ (items : List Item). Leads c.set_forward_reference.result (uncounted rest n (building d w items)) (config_of d c.set_forward_reference.new.engine)) (sym left) c.set_forward_reference.ensures.step;
  quiet = search rules;
  counted = search rules;
  room = search rules;
}
