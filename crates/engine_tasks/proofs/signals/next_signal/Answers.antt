use Rattle.std.proofs.Common.{◌≡◌, ◌≤◌, suc, ◌+◌, length, ap, ◌∙◌, arith}
use Rattle.ui_machine.specs.Definition.Lookups.{place_at}
use Rattle.engine_stack.specs.TaskView.{connects_from, signals_of}
use Rattle.engine_world.proofs.Signals.{next_place, next_there, none_left}
use Rattle.engine_tasks.proofs.signals.next_signal.Goals as goal

pub loop-at-preserved : goal.loop-at-preserved
loop-at-preserved c =
    let d = c.args.definition.now in
    let at = c.loop-at.at in
    let past : length (signals_of (place_at d at)) ≤ c.loop-at.first = omega (arith, c.signal_count.ensures, c.if-first-signal_count.false) in
    c.loop-at.invariant ∙ next_place d at c.loop-at.first past ∙ ap (λ k. connects_from d k 0) (let e : suc at ≡ at + 1 = omega arith in e)

pub returns-then-first-signal_count-clause-next : goal.returns-then-first-signal_count-clause-next
returns-then-first-signal_count-clause-next c =
    rw c.place_numbered.ensures (
    c.loop-at.invariant
    ∙ next_there c.args.definition.now c.loop-at.at c.loop-at.first (omega (arith, c.signal_count.ensures, c.if-first-signal_count.true)))

pub returns-clause-next : goal.returns-clause-next
returns-clause-next c =
    c.loop-at.invariant
    ∙ none_left c.args.definition.now c.types-types.ensures.basic c.loop-at.at c.loop-at.first (omega (arith, c.object_count-at-end.ensures.count, c.loop-at-test.false))
