use Rattle.std.proofs.Common.{◌≡◌, Some, List, drop, true, false, refl, ap, subst, sym, ◌∙◌, rules}
use Rattle.std.specs.Prelude.{codes}
use Rattle.std.proofs.lemmas.Result.{err_from_is_err_and}
use Rattle.ui_machine.specs.Output.Lines as lines
use Rattle.ui_machine.specs.State.Config.{World, said}
use Rattle.bytecode.specs.View.{connect_view}
use Rattle.signal_core.specs.Connected.{connection_of}
use Rattle.engine_world.specs.ConnectView.{is_full}
use Rattle.engine_world.specs.Counting.{nothing}
use Rattle.engine_world.specs.Quiet.{IsQuiet}
use Rattle.engine_world.specs.View.{world_of}
use Rattle.engine_instructions.proofs.ConnectSteps.{connect_world_behind, connect_written, connection_able, left_quiet, told_full, told_quietly, written_able}
use Rattle.engine_world.proofs.Left.{same_agenda}
use Rattle.engine_world.specs.FirstPrograms.{first_frame, rest_of}
use Rattle.ui_machine.specs.Definition.Values as values
use Rattle.ui_machine.specs.Rules.Connections.{connected}
use Rattle.ui_machine.specs.State.Tasks.{Task}
use Rattle.engine_world.proofs.Ableness.{able_as}
use Rattle.engine_instructions.proofs.Pushed.{connects_behind, program_kept, written_by}
use Rattle.engine_instructions.proofs.connects.connect_from_program.Goals as goal

pub new_connection-requires : goal.new_connection-requires
new_connection-requires c =
    let d = c.args.definition.now in
    let e = c.args.engine.now in
    record {
      first = c.requires.first;
      able = connection_able d (world_of e.world) (rest_of d e) (first_frame c.args.engine.now) c.args.to.0 c.args.object.0 (connect_view c.args.connect.now) e.counted (rest_of d e) c.requires.able;
      link = c.requires.link;
    }

pub write_register-requires : goal.write_register-requires
write_register-requires c =
    let d = c.args.definition.now in
    let e = c.args.engine.now in
    record {
      first = program_kept e c.connect_handler.new.engine c.connect_handler.ensures.stack c.requires.first;
      able =
          able_as (written_by e c.connect_handler.new.engine c.connect_handler.ensures.stack d (world_of c.connect_handler.new.engine.world) c.args.to.0 (Some (values.bool c.is_connected-is_connected.result)))
          (written_able d e c.connect_handler.new.engine (first_frame c.args.engine.now) c.args.to.0 c.args.object.0 (connect_view c.args.connect.now) (connection_of c.in_ok-connection.connection) c.in_ok-outcome.outcome
          c.in_ok-connection.ensures.connection (ap (λ n. connected d (world_of e.world) n (connection_of c.in_ok-connection.connection)) (sym (connects_behind d e c.requires.first)) ∙ c.in_ok-outcome.ensures.outcome) (ap (λ (ts : List Task). drop 1 ts) c.in_ok-outcome.ensures.agenda) c.connect_handler.ensures.same
          c.is_connected-is_connected.result c.is_connected-is_connected.ensures c.requires.able);
      names = refl;
      counted = c.in_ok-outcome.ensures.counted.at _ c.requires.counted;
    }

pub returns-then-not-is_full : goal.returns-then-not-is_full
returns-then-not-is_full c = record {
  step =
      let d = c.args.definition.now in
      let e = c.args.engine.now in
      let m = c.connect_handler.new.engine in
      let f = first_frame c.args.engine.now in
      let k = connect_view c.args.connect.now in
      let x = connection_of c.in_ok-connection.connection in
      let o = c.in_ok-outcome.outcome in
      let quiet : is_full o ≡ false = sym c.if-not-is_full.ensures in
      let world = connect_world_behind d e m f c.args.to.0 c.args.object.0 k x o c.in_ok-connection.ensures.connection (ap (λ n. connected d (world_of e.world) n (connection_of c.in_ok-connection.connection)) (sym (connects_behind d e c.requires.first)) ∙ c.in_ok-outcome.ensures.outcome) (ap (λ (ts : List Task). drop 1 ts) c.in_ok-outcome.ensures.agenda) c.connect_handler.ensures.same
      c.is_connected-is_connected.result c.is_connected-is_connected.ensures c.write_register.new.engine (written_by e c.connect_handler.new.engine c.connect_handler.ensures.stack d (world_of c.connect_handler.new.engine.world) c.args.to.0 (Some (values.bool c.is_connected-is_connected.result)) ∙ c.write_register.ensures.executes.step) in
      connect_written d e m f c.args.to.0 c.args.object.0 k x o c.in_ok-connection.ensures.connection (ap (λ n. connected d (world_of e.world) n (connection_of c.in_ok-connection.connection)) (sym (connects_behind d e c.requires.first)) ∙ c.in_ok-outcome.ensures.outcome) (ap (λ (ts : List Task). drop 1 ts) c.in_ok-outcome.ensures.agenda) c.connect_handler.ensures.same
      c.is_connected-is_connected.result c.is_connected-is_connected.ensures c.write_register.new.engine c.write_register.new.engine (written_by e c.connect_handler.new.engine c.connect_handler.ensures.stack d (world_of c.connect_handler.new.engine.world) c.args.to.0 (Some (values.bool c.is_connected-is_connected.result)) ∙ c.write_register.ensures.executes.step)
      (world ∙ c.in_ok-outcome.ensures.world ∙ sym (told_quietly d o (world_of e.world) x quiet)) refl refl;
  quiet = search rules;
  counted = search rules;
  room = search rules;
}

pub returns : goal.returns
returns c = record {
  step =
      let d = c.args.definition.now in
      let e = c.args.engine.now in
      let m = c.connect_handler.new.engine in
      let f = first_frame c.args.engine.now in
      let k = connect_view c.args.connect.now in
      let x = connection_of c.in_ok-connection.connection in
      let o = c.in_ok-outcome.outcome in
      let full : is_full o ≡ true = sym c.if-not-is_full.ensures in
      let world = connect_world_behind d e m f c.args.to.0 c.args.object.0 k x o c.in_ok-connection.ensures.connection (ap (λ n. connected d (world_of e.world) n (connection_of c.in_ok-connection.connection)) (sym (connects_behind d e c.requires.first)) ∙ c.in_ok-outcome.ensures.outcome) (ap (λ (ts : List Task). drop 1 ts) c.in_ok-outcome.ensures.agenda) c.connect_handler.ensures.same
      c.is_connected-is_connected.result c.is_connected-is_connected.ensures c.write_register.new.engine (written_by e c.connect_handler.new.engine c.connect_handler.ensures.stack d (world_of c.connect_handler.new.engine.world) c.args.to.0 (Some (values.bool c.is_connected-is_connected.result)) ∙ c.write_register.ensures.executes.step) in
      connect_written d e m f c.args.to.0 c.args.object.0 k x o c.in_ok-connection.ensures.connection (ap (λ n. connected d (world_of e.world) n (connection_of c.in_ok-connection.connection)) (sym (connects_behind d e c.requires.first)) ∙ c.in_ok-outcome.ensures.outcome) (ap (λ (ts : List Task). drop 1 ts) c.in_ok-outcome.ensures.agenda) c.connect_handler.ensures.same
      c.is_connected-is_connected.result c.is_connected-is_connected.ensures c.write_register.new.engine c.say_limit.new.engine (written_by e c.connect_handler.new.engine c.connect_handler.ensures.stack d (world_of c.connect_handler.new.engine.world) c.args.to.0 (Some (values.bool c.is_connected-is_connected.result)) ∙ c.write_register.ensures.executes.step)
      (c.in_ok-say_limit.ensures.ok ∙ ap (λ (w : World). said d w (lines.limit (codes "connect"))) (world ∙ c.in_ok-outcome.ensures.world) ∙ sym (told_full d o (world_of e.world) x full))
      (same_agenda d c.write_register.new.engine c.say_limit.new.engine c.say_limit.ensures.same.0 c.say_limit.ensures.handlers) c.say_limit.ensures.same.1;
  quiet = search rules;
  counted = c.in_ok-say_limit.ensures.counted.at nothing c.write_register.ensures.executes.counted;
  room = search rules;
}

pub returns-in_err-say_limit : goal.returns-in_err-say_limit
returns-in_err-say_limit c = record {
  step = search rules;
  quiet =
      let d = c.args.definition.now in
      let e = c.args.engine.now in
      let k = connect_view c.args.connect.now in
      let x = connection_of c.in_ok-connection.connection in
      let o = c.in_ok-outcome.outcome in
      let world = connect_world_behind d e c.connect_handler.new.engine (first_frame c.args.engine.now) c.args.to.0 c.args.object.0 k x o c.in_ok-connection.ensures.connection (ap (λ n. connected d (world_of e.world) n (connection_of c.in_ok-connection.connection)) (sym (connects_behind d e c.requires.first)) ∙ c.in_ok-outcome.ensures.outcome) (ap (λ (ts : List Task). drop 1 ts) c.in_ok-outcome.ensures.agenda) c.connect_handler.ensures.same
      c.is_connected-is_connected.result c.is_connected-is_connected.ensures c.write_register.new.engine (written_by e c.connect_handler.new.engine c.connect_handler.ensures.stack d (world_of c.connect_handler.new.engine.world) c.args.to.0 (Some (values.bool c.is_connected-is_connected.result)) ∙ c.write_register.ensures.executes.step) in
      let p = err_from_is_err_and c.from_residual-in_err-say_limit.result c.from_residual-in_err-say_limit.ensures.1 in
      rw p.1
      (subst (λ (v : World). IsQuiet (world_of e.world) v) (sym (c.in_err-say_limit.ensures.err ∙ world ∙ c.in_ok-outcome.ensures.world)) (left_quiet o (world_of e.world) x));
  counted = search rules;
  room = search rules;
}
