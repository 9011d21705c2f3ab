use Rattle.std.proofs.Common.{◌∙◌, ◌∷◌, List, Option, None, option_map, ap, refl, arith}
use Rattle.ui_machine.specs.Definition.Values.{Value}
use Rattle.ui_machine.specs.Seq.{total, write}
use Rattle.ui_machine.specs.State.References.{in_register, in_task}
use Rattle.ui_machine.specs.State.Tasks as config
use Rattle.g_values.specs.View.{value_view}
use Rattle.engine_world.specs.FirstPrograms.{first_frame, rest_of}
use Rattle.engine_world.proofs.Counts.{both_only}
use Rattle.engine_world.proofs.FirstPrograms.{begins, put_in_place}
use Rattle.engine_world.proofs.Held.{may_less}
use Rattle.engine_stack.proofs.Lists.{read-within}
use Rattle.engine_world.proofs.Registers.{is_there, total_written}
use Rattle.engine_world.proofs.program_frames.put.Goals as goal

pub hold_any-requires : goal.hold_any-requires
hold_any-requires c = record { may = may_less c.args.engine.now.world.table _ _ (λ o. omega (arith, c.register_named.ensures o)) c.requires.may }

pub put_first-held-requires-clause-register : goal.put_first-held-requires-clause-register
put_first-held-requires-clause-register c = is_there c.args.to.0 (option_map value_view c.args.value) (first_frame c.args.engine.now).registers c.requires.able

pub let_go_any-requires : goal.let_go_any-requires
let_go_any-requires c = record {
  held = λ o.
      let d = c.args.definition.now in
      let e = c.args.engine.now in
      let held = ap (λ (v : Option Value). in_register o v) c.put_first-held.ensures.held in
      let within = read-within (in_register o) None (first_frame e).registers c.args.to.0 refl in
      let before = ap (λ (ts : List config.Task). total (in_task o) ts) (begins d e c.requires.first) in
      omega (arith, c.register_named-2.ensures o, held, within, c.requires.held.at o, before, c.hold_any.ensures.counts o);
}

pub returns-clause-agenda : goal.returns-clause-agenda
returns-clause-agenda c =
    let d = c.args.definition.now in
    let e = c.args.engine.now in
    c.put_first-held.ensures.rewritten.tasks d e.world.handlers.handlers
    ∙ ap (λ (g : config.Frame). config.Running g ∷ rest_of d e) c.put_first-held.ensures.written

pub returns-clause-counted : goal.returns-clause-counted
returns-clause-counted c =
    let d = c.args.definition.now in
    let e = c.args.engine.now in
    let to = c.args.to.0 in
    let v = option_map value_view c.args.value in
    let f = first_frame e in
    record {
      at = put_in_place d e c.let_go_any.new.table c.put_first-held.new.self f (record f { registers = write None f.registers to v }) (rest_of d e)
          (both_only e.world.table c.hold_any.new.table c.let_go_any.new.table c.hold_any.ensures.only c.let_go_any.ensures.only)
          (λ o.
          let held = ap (λ (v : Option Value). in_register o v) c.put_first-held.ensures.held in
          omega (arith, c.hold_any.ensures.counts o, c.register_named.ensures o, c.let_go_any.ensures.counts o, c.register_named-2.ensures o, held, total_written (in_register o) refl f.registers to v))
          (begins d e c.requires.first)
          (c.put_first-held.ensures.rewritten.tasks d e.world.handlers.handlers
          ∙ ap (λ (g : config.Frame). config.Running g ∷ rest_of d e) c.put_first-held.ensures.written)
          c.put_first-held.ensures.begun;
    }
