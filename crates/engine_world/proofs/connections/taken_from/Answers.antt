use Rattle.std.proofs.Common.{◌≡◌, suc, ◌+◌, ◌-◌, nat_lt, length, ap, sym, ◌∙◌, arith}
use Rattle.ui_machine.specs.Definition.Lookups.{place_at}
use Rattle.ui_machine.specs.Rules.Build.{is_connecting}
use Rattle.ui_machine.specs.Rules.Connections.{greatest_handler}
use Rattle.ui_machine.specs.Seq.{total}
use Rattle.engine_stack.specs.TaskView.{connects_from, signals_of}
use Rattle.engine_world.proofs.Signals.{count_from, none_left, taken_step}
use Rattle.engine_world.proofs.connections.taken_from.Goals as goal

pub loop-at-preserved : goal.loop-at-preserved
loop-at-preserved c more =
    let d = c.args.definition.now in
    let at = c.loop-at.at in
    let count = c.saturating_sub-count.result in
    let rest = total is_connecting (connects_from d (at + 1) 0) in
    let next : at + 1 ≡ suc at = omega arith in
    let counted : count ≡ length (signals_of (place_at d at)) - c.loop-at.first =
    c.saturating_sub-count.ensures ∙ ap (λ n. n - c.loop-at.first) c.signal_count.ensures in
    let here : total is_connecting (connects_from d at c.loop-at.first) ≡ count + rest =
    count_from d at c.loop-at.first ∙ ap (λ n. n + total is_connecting (connects_from d (suc at) 0)) (sym counted)
    ∙ ap (λ k. count + total is_connecting (connects_from d k 0)) (sym next) in
    taken_step c.loop-at.taken count rest c.saturating_add-taken.result c.saturating_add-taken.ensures more
    ∙ ap (λ n. nat_lt (c.loop-at.taken + n + more) greatest_handler) (sym here)
    ∙ c.loop-at.invariant more

pub returns : goal.returns
returns c more =
    let d = c.args.definition.now in
    let none : total is_connecting (connects_from d c.loop-at.at c.loop-at.first) ≡ 0 =
    ap (total is_connecting) (none_left d c.types-types.ensures.basic c.loop-at.at c.loop-at.first (omega (arith, c.object_count-at-end.ensures.count, c.loop-at-test.false))) in
    ap (λ n. nat_lt n greatest_handler) (let e : c.loop-at.taken + more ≡ c.loop-at.taken + total is_connecting (connects_from d c.loop-at.at c.loop-at.first) + more = omega (arith, none) in e)
    ∙ c.loop-at.invariant more
