use Rattle.std.proofs.Common.{◌≡◌, ◌+◌, List, suc, length, take, slice_get, refl, sym, ap, subst, ◌∙◌, arith}
use Rattle.std.proofs.lemmas.Option.{slice_get_read}
use Rattle.ui_machine.specs.Definition.Names.{same_name}
use Rattle.ui_machine.specs.Definition.Signals.{ClassHandler}
use Rattle.ui_machine.specs.Rules.EmissionPlan.{handler_in}
use Rattle.signal_core.specs.Table.{named_of}
use Rattle.name_tables.specs.Names.{number_of, with_number}
use Rattle.name_tables.specs.Steps.{AddsAll}
use Rattle.name_tables.proofs.Adding.{adds_more, take_past}
use Rattle.definitions.proofs.HandlerNames.{handler_in-more}
use Rattle.definitions.proofs.handler_names.add_handlers.Goals as goal

pub loop-at-preserved : goal.loop-at-preserved
loop-at-preserved c =
    let handlers = named_of c.args.signals.now.handlers c.args.class in
    let at = c.loop-at.at in
    let h = c.index-handlers-at.result in
    let next : at + 1 ≡ suc at = omega arith in
    let got = ap (λ l. slice_get l at) (sym c.own_handlers-handlers.ensures) ∙ slice_get_read c.own_handlers-handlers.result.now (length c.own_handlers-handlers.result.now) at h refl c.loop-at-test.true c.index-handlers-at.is in
    adds_more (number_of c.args.names.now) (number_of c.loop-at.names) (number_of c.add.new.self) c.args.class c.program.result c.signal.result.now (handler_in (take at handlers)) (handler_in (take (at + 1) handlers)) c.loop-at.invariant
    c.in_ok-add.ensures.ok
    (λ n.
    ap (λ k. handler_in (take k handlers) n) next
    ∙ handler_in-more n handlers at h got
    ∙ ap (λ name. with_number (same_name name n) h.program (handler_in (take at handlers) n)) (sym c.signal.ensures)
    ∙ ap (λ p. with_number (same_name c.signal.result.now n) p (handler_in (take at handlers) n)) (sym c.program.ensures))

pub returns : goal.returns
returns c =
    let handlers = named_of c.args.signals.now.handlers c.args.class in
    let long = ap length c.own_handlers-handlers.ensures in
    subst (λ (hs : List ClassHandler). AddsAll (number_of c.args.names.now) (number_of c.loop-at.names) c.args.class (handler_in hs)) (take_past handlers c.loop-at.at (omega (arith, long, c.loop-at-test.false))) c.loop-at.invariant
