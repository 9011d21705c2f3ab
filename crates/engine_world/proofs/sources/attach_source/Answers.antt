use Rattle.std.proofs.Common.{◌+◌, [], ◌∷◌, ap, arith}
use Rattle.ui_machine.specs.Seq.{total}
use Rattle.ui_machine.specs.State.References.{in_source}
use Rattle.ui_machine.specs.State.Sources.{new_source}
use Rattle.main_context.specs.Attached.{Attached}
use Rattle.main_context.specs.Dues.{identity_of}
use Rattle.engine_stack.proofs.Lists.{total-append}
use Rattle.engine_world.proofs.SourceCounts.{context_moves}
use Rattle.engine_world.proofs.sources.attach_source.Goals as goal

pub returns-clause-counted : goal.returns-clause-counted
returns-clause-counted c d =
    let e = c.args.engine.now in
    let x = c.args.source in
    let s = new_source (e.world.context.last + 1) e.world.context.moment x.program x.priority x.interval (identity_of x.arg) in
    context_moves d e c.hold_any.new.table c.attach_to.new.context c.hold_any.ensures.only (λ o.
    omega (
      arith,
      c.hold_any.ensures.counts o,
      ap (λ (a : Attached). total (in_source o) a.sources) c.in-Ok.ensures.ok,
      total-append (in_source o) e.world.context.sources (s ∷ []),
    ))
