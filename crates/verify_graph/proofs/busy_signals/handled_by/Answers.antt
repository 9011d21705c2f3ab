use Rattle.std.proofs.Common.{◌∙◌, sym, ap, ◌≤◌, ◌++◌, ◌∷◌, [], is_some, length, arith}
use Rattle.ui_machine.specs.Seq.{listed}
use Rattle.ui_machine.specs.Definition.{Definition}
use Rattle.ui_machine.specs.Definition.Lookups.{class_of}
use Rattle.law_idle.specs.Idle.{is_handled}
use Rattle.verify_graph.proofs.BusySignals.{handled_all}
use Rattle.verify_graph.proofs.Prefixes.{listed_last}
use Rattle.verify_graph.proofs.busy_signals.handled_by.Goals as goal

pub loop-number-preserved : goal.loop-number-preserved
loop-number-preserved c =
    let d = c.args.lookups.now in
    let n = c.loop-number.number in
    let handled = c.is_some.ensures ∙ (ap is_some c.class_handler-handler.ensures ∙ ap (λ (x : Definition). is_handled x c.args.class n) c.definition-definition.ensures) in
    c.in_ok-push.ensures.items
    ∙ (ap (λ xs. xs ++ c.is_some.result ∷ []) c.loop-number.invariant
    ∙ (ap (λ b. listed (is_handled d c.args.class) n ++ b ∷ []) handled ∙ sym (listed_last (is_handled d c.args.class) n)))

pub returns : goal.returns
returns c n =
    let d = c.args.lookups.now in
    let count = ap (λ (x : Definition). length (class_of x c.args.class).signals) c.definition-definition.ensures in
    handled_all d c.args.class c.loop-number.number n c.loop-number.marks.items c.loop-number.invariant
    (omega (arith, c.loop-number-test.false, c.signal_count-number-end.ensures.count, count))
