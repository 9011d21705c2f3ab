use Rattle.engine_stack.specs.declared.stacks.Frames.{Frames}
use Rattle.std.proofs.Common.{◌≡◌, ◌<◌, ℕ, IfSome, IsSome, List, Option, length, false, ap, subst, sym, ◌∙◌, rules}
use Rattle.std.proofs.lemmas.Result.{err_from_is_err_and}
use Rattle.ui_machine.specs.Definition.Values as values
use Rattle.ui_machine.specs.Definition.Values.{Value}
use Rattle.std.specs.Prelude.{Some}
use Rattle.ui_machine.specs.State.Config.{World}
use Rattle.ui_machine.specs.State.Objects.{living}
use Rattle.ui_machine.specs.State.Peers.{Peer}
use Rattle.ui_machine.specs.State.Tasks.{Constructing}
use Rattle.law_typing.specs.Good.Living.{NamesLiving}
use Rattle.g_values.specs.View.{value_view}
use Rattle.engine_world.specs.Counting.{nothing}
use Rattle.engine_world.specs.NewObjects.{begun}
use Rattle.engine_stack.specs.TaskFrames.{HasPlaces}
use Rattle.engine_world.specs.View.{world_of}
use Rattle.engine_instructions.proofs.Creating.{create_world, create_written, made_able, write_able}
use Rattle.engine_instructions.proofs.Holding.{lives_held}
use Rattle.engine_world.proofs.Ableness.{able_as, instructed}
use Rattle.engine_world.proofs.Building.{makes_any}
use Rattle.engine_world.proofs.Quiets.{quiet_on, quiet_same}
use Rattle.engine_world.specs.FirstPrograms.{first_frame, rest_of}
use Rattle.engine_instructions.proofs.Pushed.{program_kept, rest_kept, written_by}
use Rattle.engine_world.proofs.RoomLeft.{room_still}
use Rattle.engine_instructions.proofs.new_objects.create_at.Goals as goal

pub make-requires : goal.make-requires
make-requires c =
    let d = c.args.definition.now in
    let e = c.args.engine.now in
    let w = world_of e.world in
    let able = made_able d w (first_frame c.args.engine.now) c.args.to.0 c.args.place.0 c.args.peer (instructed e.counted (rest_of d e) _ c.requires.able) in
    record { able = λ held. makes_any d w c.args.place.0 c.args.peer false held able; identity = c.requires.identity }

pub write_register-requires : goal.write_register-requires
write_register-requires c =
    let d = c.args.definition.now in
    let e = c.args.engine.now in
    let m = c.make.new.engine in
    let new = c.in_ok-new.new in
    record {
      first = program_kept e m c.make.ensures.same.0 c.requires.first;
      able =
          able_as (written_by e m c.make.ensures.same.0 d (world_of m.world) c.args.to.0 (Some (value_view c.object_value.result)))
          (write_able d e m (first_frame c.args.engine.now) c.args.to.0 c.args.place.0 c.args.peer (begun new (world_of m.world)) (Constructing new.object.0 new.steps false) (value_view c.object_value.result)
          (c.in_ok-new.ensures.made false) (rest_kept e m c.make.ensures.same.0 d c.make.ensures.handlers) c.make.ensures.same.1
          (c.object_value.ensures ∙ ap (λ n. values.object (Some n)) c.in_ok-new.ensures.identity) c.requires.able);
      names = subst (λ (v : Value). NamesLiving (world_of m.world) v) (sym c.object_value.ensures) c.in_ok-new.ensures.live;
      counted = c.in_ok-new.ensures.counted.at _ c.requires.counted;
    }

pub begin_construction-requires : goal.begin_construction-requires
begin_construction-requires c =
    let d = c.args.definition.now in
    let e = c.args.engine.now in
    let m = c.make.new.engine in
    let new = c.in_ok-new.new in
    let world = create_world d e m (first_frame c.args.engine.now) c.args.to.0 c.args.place.0 c.args.peer (begun new (world_of m.world)) (Constructing new.object.0 new.steps false)
    (value_view c.object_value.result) (c.in_ok-new.ensures.made false) (rest_kept e m c.make.ensures.same.0 d c.make.ensures.handlers) c.make.ensures.same.1
    (c.object_value.ensures ∙ ap (λ n. values.object (Some n)) c.in_ok-new.ensures.identity) c.write_register.new.engine (written_by e m c.make.ensures.same.0 d (world_of m.world) c.args.to.0 (Some (value_view c.object_value.result)) ∙ c.write_register.ensures.executes.step) in
    let seats : (world_of c.write_register.new.engine.world).peers ≡ (world_of e.world).peers = ap (λ (w : World). w.peers) world ∙ c.make.ensures.seats in
    record {
      peer =
          subst (λ (peer : Option ℕ). IfSome peer (λ number. number < length (world_of c.write_register.new.engine.world).peers)) (sym c.in_ok-new.ensures.peer)
          (subst (λ (ps : List Peer). IfSome c.args.peer (λ number. number < length ps)) (sym seats) c.requires.peer);
      room =
          room_still 1 m c.write_register.new.engine c.write_register.ensures.room
          (subst (λ (s : Frames). HasPlaces 1 s.tasks) (sym c.make.ensures.same.0) c.requires.room);
      may = lives_held d c.write_register.new.engine new.object.0 c.write_register.ensures.executes.counted (subst (λ (w : World). IsSome (living w.objects new.object.0)) (sym world) c.in_ok-new.ensures.live);
    }

pub returns : goal.returns
returns c = record {
  step =
      let d = c.args.definition.now in
      let e = c.args.engine.now in
      let m = c.make.new.engine in
      let mid = c.write_register.new.engine in
      let new = c.in_ok-new.new in
      let f = first_frame c.args.engine.now in
      let v = value_view c.object_value.result in
      let u = begun new (world_of m.world) in
      let t = Constructing new.object.0 new.steps false in
      let agenda = rest_kept e m c.make.ensures.same.0 d c.make.ensures.handlers in
      let names = c.object_value.ensures ∙ ap (λ n. values.object (Some n)) c.in_ok-new.ensures.identity in
      let world = create_world d e m f c.args.to.0 c.args.place.0 c.args.peer u t v (c.in_ok-new.ensures.made false) agenda c.make.ensures.same.1 names mid (written_by e m c.make.ensures.same.0 d (world_of m.world) c.args.to.0 (Some (value_view c.object_value.result)) ∙ c.write_register.ensures.executes.step) in
      create_written d e m f c.args.to.0 c.args.place.0 c.args.peer u t v (c.in_ok-new.ensures.made false) agenda c.make.ensures.same.1 names mid (written_by e m c.make.ensures.same.0 d (world_of m.world) c.args.to.0 (Some (value_view c.object_value.result)) ∙ c.write_register.ensures.executes.step)
      c.begin_construction.new.engine (c.in_ok-begin_construction.ensures.world ∙ ap (λ (w : World). begun new w) world) (c.in_ok-begin_construction.ensures.agenda d) c.begin_construction.ensures.same;
  quiet = search rules;
  counted = (c.in_ok-begin_construction.ensures.counted c.args.definition.now).at nothing c.write_register.ensures.executes.counted;
  room = search rules;
}

pub returns-in_err-begin_construction : goal.returns-in_err-begin_construction
returns-in_err-begin_construction c = record {
  step = search rules;
  quiet =
      let d = c.args.definition.now in
      let e = c.args.engine.now in
      let m = c.make.new.engine in
      let new = c.in_ok-new.new in
      let world = create_world d e m (first_frame c.args.engine.now) c.args.to.0 c.args.place.0 c.args.peer (begun new (world_of m.world)) (Constructing new.object.0 new.steps false)
      (value_view c.object_value.result) (c.in_ok-new.ensures.made false) (rest_kept e m c.make.ensures.same.0 d c.make.ensures.handlers) c.make.ensures.same.1
      (c.object_value.ensures ∙ ap (λ n. values.object (Some n)) c.in_ok-new.ensures.identity) c.write_register.new.engine (written_by e m c.make.ensures.same.0 d (world_of m.world) c.args.to.0 (Some (value_view c.object_value.result)) ∙ c.write_register.ensures.executes.step) in
      let p = err_from_is_err_and c.from_residual-in_err-begin_construction.result c.from_residual-in_err-begin_construction.ensures.1 in
      rw p.1
      (quiet_on (world_of e.world) (world_of m.world) (world_of c.begin_construction.new.engine.world) c.make.ensures.quiet
      (quiet_on (world_of m.world) (world_of c.write_register.new.engine.world) (world_of c.begin_construction.new.engine.world)
      (quiet_same (world_of m.world) (world_of c.write_register.new.engine.world) world) c.in_err-begin_construction.ensures.quiet));
  counted = search rules;
  room = search rules;
}
