use Rattle.std.proofs.Common.{◌∙◌, ◌∷◌, List, None, Some, Ok, ap, drop, sym, subst, arith}
use Rattle.ui_machine.specs.Seq.{total, write}
use Rattle.ui_machine.specs.State.References.{in_task}
use Rattle.ui_machine.specs.State.Tasks as config
use Rattle.g_values.specs.View.{value_view}
use Rattle.engine_world.specs.Able.{Able}
use Rattle.ui_machine.specs.Instructions.Registers.{with_register}
use Rattle.engine_world.specs.FirstPrograms.{first_frame, rest_of}
use Rattle.engine_stack.specs.FirstPrograms.{stack_frame}
use Rattle.engine_world.proofs.FirstPrograms.{begins}
use Rattle.engine_world.proofs.Registers.{receives, stack_same_held, writes_there}
use Rattle.engine_world.proofs.program_frames.receive.Goals as goal

pub put-requires : goal.put-requires
put-requires c = record {
  first = c.wait_first.ensures.rewritten.first;
  able = subst (λ (g : config.Frame). Able (with_register c.args.to.0 (Some (value_view c.args.value)) g.registers)) (sym c.wait_first.ensures.waits) c.requires.able;
  held = record {
    at = λ o.
        let d = c.args.definition.now in
        let e = c.args.engine.now in
        let hs = e.world.handlers.handlers in
        let before = ap (λ (ts : List config.Task). total (in_task o) ts) (begins d e c.requires.first) in
        let after = ap (λ (ts : List config.Task). total (in_task o) ts)
        (c.wait_first.ensures.rewritten.tasks d hs ∙ ap (λ (g : config.Frame). config.Running g ∷ rest_of d e) c.wait_first.ensures.waits) in
        omega (arith, c.requires.held.at o, before, after);
  };
  may = c.requires.may;
}

pub returns-clause-agenda : goal.returns-clause-agenda
returns-clause-agenda c =
    let d = c.args.definition.now in
    let e = c.args.engine.now in
    let hs = e.world.handlers.handlers in
    let v = value_view c.args.value in
    let f = first_frame e in
    let behind = ap (λ (ts : List config.Task). drop 1 ts) (c.wait_first.ensures.rewritten.tasks d hs) in
    receives f (rest_of d e) c.args.to.0 (Some v) _ (writes_there c.args.to.0 (Some v) f.registers c.requires.able)
    ∙ ap (λ (g : config.Frame). Ok (config.Running (record g { registers = write None g.registers c.args.to.0 (Some v) }) ∷ rest_of d e)) (sym c.wait_first.ensures.waits)
    ∙ ap (λ (ts : List config.Task). Ok (config.Running (record (stack_frame c.wait_first.new.self) { registers = write None (stack_frame c.wait_first.new.self).registers c.args.to.0 (Some v) }) ∷ ts)) (sym behind)
    ∙ ap (λ (ts : List config.Task). Ok ts) (sym c.put.ensures.agenda)

pub returns-clause-counted : goal.returns-clause-counted
returns-clause-counted c =
    let d = c.args.definition.now in
    let e = c.args.engine.now in
    let hs = e.world.handlers.handlers in
    record {
      at = λ taken h. c.put.ensures.counted.at taken
          (stack_same_held d e c.wait_first.new.self
          (λ o.
          let before = ap (λ (ts : List config.Task). total (in_task o) ts) (begins d e c.requires.first) in
          let after = ap (λ (ts : List config.Task). total (in_task o) ts)
          (c.wait_first.ensures.rewritten.tasks d hs ∙ ap (λ (g : config.Frame). config.Running g ∷ rest_of d e) c.wait_first.ensures.waits) in
          omega (arith, before, after))
          c.wait_first.ensures.begun taken h);
    }
