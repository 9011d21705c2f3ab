use Rattle.std.proofs.Common.{◌≡◌, Option, Some, true, false, refl, subst, sym, ◌∙◌, Ok, rules}
use Rattle.ui_machine.specs.Instructions.Sources.{with_source}
use Rattle.ui_machine.specs.State.References.{in_option}
use Rattle.ui_machine.specs.State.Sources.{has_room}
use Rattle.ui_machine.specs.declared.ids.ObjectId.{ObjectId}
use Rattle.instance_tables.specs.Store.{id_of}
use Rattle.engine_world.specs.Counting.{MayHold}
use Rattle.engine_world.specs.EngineView.{config_of}
use Rattle.engine_world.specs.View.{world_of}
use Rattle.engine_world.proofs.Ableness.{able_as, instructed}
use Rattle.engine_instructions.specs.AttachView.{attach_of}
use Rattle.engine_instructions.proofs.Holding.{data_may}
use Rattle.engine_instructions.proofs.ObjectSteps.{data_lives}
use Rattle.engine_instructions.proofs.SourceSteps.{attach_held, attach_known, attached_left, unattached_left}
use Rattle.engine_instructions.proofs.Starting.{leads_as}
use Rattle.engine_world.specs.FirstPrograms.{first_frame, rest_of}
use Rattle.engine_instructions.proofs.Pushed.{program_kept, rest_kept, written_by}
use Rattle.ui_machine.specs.Definition.Values as values
use Rattle.ui_machine.specs.State.Config.{said}
use Rattle.ui_machine.specs.Output.Lines as lines
use Rattle.engine_instructions.proofs.sources.attach_from_program.Goals as goal

pub program_named-program-requires : goal.program_named-program-requires
program_named-program-requires c =
    let d = c.args.definition.now in
    let e = c.args.engine.now in
    record { able = attach_known d (world_of e.world) (first_frame c.args.engine.now) c.args.to.0 (attach_of c.args.attach) (instructed e.counted (rest_of d e) _ c.requires.able); link = c.requires.link }

pub data_in-arg-requires : goal.data_in-arg-requires
data_in-arg-requires c =
    let d = c.args.definition.now in
    let e = c.args.engine.now in
    record {
      first = c.requires.first;
      able = attach_held d (world_of e.world) (first_frame c.args.engine.now) c.args.to.0 (attach_of c.args.attach) c.program_named-program.result c.program_named-program.ensures
          (instructed e.counted (rest_of d e) _ c.requires.able);
    }

pub attach_source-requires : goal.attach_source-requires
attach_source-requires c = record {
  may =
      let d = c.args.definition.now in
      let e = c.args.engine.now in
      let arg = c.data_in-arg.result in
      let lives = data_lives (world_of e.world) (first_frame e) _ (id_of arg) c.data_in-arg.ensures in
      subst (λ (i : Option ObjectId). MayHold e.world.table (λ o. in_option o (id_of i))) (sym c.source-source.ensures.arg) (data_may d e c.never_full.ensures.room c.requires.counted (id_of arg) lives);
}

pub write_register-requires : goal.write_register-requires
write_register-requires c =
    let d = c.args.definition.now in
    let e = c.args.engine.now in
    let m = c.attach_source.new.engine in
    let w = world_of e.world in
    let f = first_frame c.args.engine.now in
    let a = attach_of c.args.attach in
    let room : has_room w.sources w.last_source ≡ true = sym c.in_ok-attach_source.ensures.room ∙ c.if-branch.true in
    let world : world_of m.world ≡ with_source w a c.program_named-program.result (id_of c.data_in-arg.result) = c.in_ok-attach_source.ensures.world ∙ rw c.if-branch.true (c.source-source.ensures.attached w) in
    let same = attached_left d e m f c.args.to.0 a c.program_named-program.result c.program_named-program.ensures (id_of c.data_in-arg.result) c.data_in-arg.ensures
    (rest_kept e m c.attach_source.ensures.same.0 d c.attach_source.ensures.handlers) c.attach_source.ensures.same.1 room world
    ∙ written_by e m c.attach_source.ensures.same.0 d (world_of m.world) c.args.to.0 (Some (values.bool true)) in
    record { first = program_kept e m c.attach_source.ensures.same.0 c.requires.first; able = able_as same c.requires.able; names = refl; counted = (c.in_ok-attach_source.ensures.counted d).at _ c.requires.counted }

pub write_null_and_say_limit-requires : goal.write_null_and_say_limit-requires
write_null_and_say_limit-requires c =
    let d = c.args.definition.now in
    let e = c.args.engine.now in
    let m = c.attach_source.new.engine in
    let w = world_of e.world in
    let f = first_frame c.args.engine.now in
    let a = attach_of c.args.attach in
    let full : has_room w.sources w.last_source ≡ false = sym c.in_ok-attach_source.ensures.room ∙ c.if-branch.false in
    let world : world_of m.world ≡ w = c.in_ok-attach_source.ensures.world ∙ rw c.if-branch.false refl in
    let same = unattached_left d e m f c.args.to.0 a c.program_named-program.result c.program_named-program.ensures (id_of c.data_in-arg.result) c.data_in-arg.ensures
    (rest_kept e m c.attach_source.ensures.same.0 d c.attach_source.ensures.handlers) c.attach_source.ensures.same.1 full world
    ∙ written_by e m c.attach_source.ensures.same.0 d (said d (world_of m.world) (lines.limit a.word)) c.args.to.0 (Some (values.bool false)) in
    record { first = program_kept e m c.attach_source.ensures.same.0 c.requires.first; able = able_as same c.requires.able; names = refl; counted = (c.in_ok-attach_source.ensures.counted d).at _ c.requires.counted }

pub returns-then-branch : goal.returns-then-branch
returns-then-branch c = record {
  step =
      let d = c.args.definition.now in
      let e = c.args.engine.now in
      let m = c.attach_source.new.engine in
      let w = world_of e.world in
      let f = first_frame c.args.engine.now in
      let a = attach_of c.args.attach in
      let room : has_room w.sources w.last_source ≡ true = sym c.in_ok-attach_source.ensures.room ∙ c.if-branch.true in
      let world : world_of m.world ≡ with_source w a c.program_named-program.result (id_of c.data_in-arg.result) = c.in_ok-attach_source.ensures.world ∙ rw c.if-branch.true (c.source-source.ensures.attached w) in
      let same = attached_left d e m f c.args.to.0 a c.program_named-program.result c.program_named-program.ensures (id_of c.data_in-arg.result) c.data_in-arg.ensures
      (rest_kept e m c.attach_source.ensures.same.0 d c.attach_source.ensures.handlers) c.attach_source.ensures.same.1 room world
      ∙ written_by e m c.attach_source.ensures.same.0 d (world_of m.world) c.args.to.0 (Some (values.bool true)) in
      leads_as {X = Unit {0}} (Ok tt) (config_of d c.write_register.new.engine) same c.write_register.ensures.executes.step;
  quiet = search rules;
  counted = search rules;
  room = search rules;
}

pub returns : goal.returns
returns c = record {
  step =
      let d = c.args.definition.now in
      let e = c.args.engine.now in
      let m = c.attach_source.new.engine in
      let w = world_of e.world in
      let f = first_frame c.args.engine.now in
      let a = attach_of c.args.attach in
      let full : has_room w.sources w.last_source ≡ false = sym c.in_ok-attach_source.ensures.room ∙ c.if-branch.false in
      let world : world_of m.world ≡ w = c.in_ok-attach_source.ensures.world ∙ rw c.if-branch.false refl in
      let same = unattached_left d e m f c.args.to.0 a c.program_named-program.result c.program_named-program.ensures (id_of c.data_in-arg.result) c.data_in-arg.ensures
      (rest_kept e m c.attach_source.ensures.same.0 d c.attach_source.ensures.handlers) c.attach_source.ensures.same.1 full world
      ∙ written_by e m c.attach_source.ensures.same.0 d (said d (world_of m.world) (lines.limit a.word)) c.args.to.0 (Some (values.bool false)) in
      leads_as c.write_null_and_say_limit.result (config_of d c.write_null_and_say_limit.new.engine) same c.write_null_and_say_limit.ensures.step;
  quiet = search rules;
  counted = search rules;
  room = search rules;
}
