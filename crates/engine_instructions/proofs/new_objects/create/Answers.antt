use Rattle.std.proofs.Common.{◌≡◌, ◌<◌, ◌&&◌, ℕ, Option, length, true, false, ap, subst, sym, ◌∙◌, rules}
use Rattle.std.specs.Prelude.{IfSome, codes}
use Rattle.ui_machine.specs.declared.arm.Arm.TheVariants as arms
use Rattle.ui_machine.specs.Definition.Values.{Value}
use Rattle.ui_machine.specs.Instructions.{in_front}
use Rattle.ui_machine.specs.Instructions.Objects.{creating}
use Rattle.ui_machine.specs.Instructions.Registers.{gives}
use Rattle.ui_machine.specs.Outcome.{Answer}
use Rattle.ui_machine.specs.Output.Lines as lines
use Rattle.ui_machine.specs.Rules.Build.{to_make}
use Rattle.ui_machine.specs.State.Config.{Started, said}
use Rattle.ui_machine.specs.Steps.{left}
use Rattle.engine_instructions.specs.CreateView.{created, has_room, prototype_of}
use Rattle.engine_world.specs.PeerPlaces.{is_there, taken}
use Rattle.engine_world.specs.View.{world_of}
use Rattle.engine_world.proofs.Ableness.{able_as, instructed, no_arm}
use Rattle.engine_instructions.proofs.Creating.{creates, creates_none, identity_left}
use Rattle.engine_world.specs.FirstPrograms.{first_frame, rest_of}
use Rattle.engine_instructions.proofs.Pushed.{makes_behind}
use Rattle.engine_instructions.proofs.new_objects.create.Goals as goal

pub unreachable-requires : goal.unreachable-requires
unreachable-requires c =
    let d = c.args.definition.now in
    let e = c.args.engine.now in
    let w = world_of e.world in
    let f = first_frame c.args.engine.now in
    no_arm _ _ (instructed e.counted (rest_of d e) (creating d w (rest_of d e) f c.args.to.0 c.args.id.now) c.requires.able)
    (creates_none d w (rest_of d e) f c.args.to.0 c.args.id.now arms.Code (sym c.in_default.ensures.named))

pub write_null_and_say_limit-requires-clause-able : goal.write_null_and_say_limit-requires-clause-able
write_null_and_say_limit-requires-clause-able c =
    let d = c.args.definition.now in
    let e = c.args.engine.now in
    let w = world_of e.world in
    let f = first_frame c.args.engine.now in
    let q = prototype_of c.in-Some.prototype in
    let there = is_there c.new_peer-peer.result in
    let full : (has_room d w (to_make (rest_of d e)) && there) ≡ false = ap (λ n. has_room d w n && there) (sym (makes_behind d e c.requires.first)) ∙ sym c.if-not-may_create.ensures in
    let refused = creates d w (rest_of d e) f c.args.to.0 c.args.id.now q false there (taken c.new_peer-peer.result) (sym c.in-Some.ensures.named) full c.new_peer-peer.ensures.there c.new_peer-peer.ensures.taken
    ∙ ap (λ (v : Value). gives (said d w (lines.limit (codes "new"))) c.args.to.0 v f) (sym c.object_or_null.ensures) in
    able_as (ap (λ (a : Answer Started). left e.counted (in_front (rest_of d e) a)) refused) c.requires.able

pub returns-then-not-may_create : goal.returns-then-not-may_create
returns-then-not-may_create c = record {
  step =
      let d = c.args.definition.now in
      let e = c.args.engine.now in
      let w = world_of e.world in
      let f = first_frame c.args.engine.now in
      let q = prototype_of c.in-Some.prototype in
      let there = is_there c.new_peer-peer.result in
      let full : (has_room d w (to_make (rest_of d e)) && there) ≡ false = ap (λ n. has_room d w n && there) (sym (makes_behind d e c.requires.first)) ∙ sym c.if-not-may_create.ensures in
      let refused = creates d w (rest_of d e) f c.args.to.0 c.args.id.now q false there (taken c.new_peer-peer.result) (sym c.in-Some.ensures.named) full c.new_peer-peer.ensures.there c.new_peer-peer.ensures.taken
      ∙ ap (λ (v : Value). gives (said d w (lines.limit (codes "new"))) c.args.to.0 v f) (sym c.object_or_null.ensures) in
      rw refused c.write_null_and_say_limit.ensures.step;
  quiet = search rules;
  counted = search rules;
  room = search rules;
}

pub create_at-requires : goal.create_at-requires
create_at-requires c =
    let d = c.args.definition.now in
    let e = c.args.engine.now in
    let w = world_of e.world in
    let f = first_frame c.args.engine.now in
    let q = prototype_of c.in-Some.prototype in
    let there = is_there c.new_peer-peer.result in
    let room : (has_room d w (to_make (rest_of d e)) && there) ≡ true = ap (λ n. has_room d w n && there) (sym (makes_behind d e c.requires.first)) ∙ sym c.if-not-may_create.ensures in
    let made = creates d w (rest_of d e) f c.args.to.0 c.args.id.now q true there (taken c.new_peer-peer.result) (sym c.in-Some.ensures.named) room c.new_peer-peer.ensures.there c.new_peer-peer.ensures.taken
    ∙ ap (λ (p : Option ℕ). created d w f c.args.to.0 q.number p) (sym c.number.ensures) in
    record {
      first = c.requires.first;
      able = able_as (ap (λ (a : Answer Started). left e.counted (in_front (rest_of d e) a)) made) c.requires.able;
      peer = subst (λ (p : Option ℕ). IfSome p (λ number. number < length c.args.engine.now.world.seats)) (sym c.number.ensures) c.new_peer-peer.ensures.within;
      identity = identity_left d w (to_make (rest_of d e)) there room;
      counted = c.requires.counted;
      room = c.requires.room;
    }

pub returns : goal.returns
returns c = record {
  step =
      let d = c.args.definition.now in
      let e = c.args.engine.now in
      let w = world_of e.world in
      let f = first_frame c.args.engine.now in
      let q = prototype_of c.in-Some.prototype in
      let there = is_there c.new_peer-peer.result in
      let room : (has_room d w (to_make (rest_of d e)) && there) ≡ true = ap (λ n. has_room d w n && there) (sym (makes_behind d e c.requires.first)) ∙ sym c.if-not-may_create.ensures in
      let made = creates d w (rest_of d e) f c.args.to.0 c.args.id.now q true there (taken c.new_peer-peer.result) (sym c.in-Some.ensures.named) room c.new_peer-peer.ensures.there c.new_peer-peer.ensures.taken
      ∙ ap (λ (p : Option ℕ). created d w f c.args.to.0 q.number p) (sym c.number.ensures) in
      rw made c.create_at.ensures.step;
  quiet = search rules;
  counted = search rules;
  room = search rules;
}
