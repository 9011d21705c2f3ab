use Rattle.std.proofs.Common.{◌∙◌, is_some, sym, ap, subst}
use Rattle.ui_machine.specs.Rules.EmissionPlan.{handler_in}
use Rattle.ui_machine.specs.Words.{notify}
use Rattle.type_tree.proofs.Entries.{read-slice_get}
use Rattle.signal_core.specs.SignalView.{declared_view}
use Rattle.signal_core.specs.Sources.{signals_of}
use Rattle.signal_core.specs.Table.{AddsHandler, Names, RenamesHandlers, named_of}
use Rattle.signal_core.proofs.Lists.{on_ok-map}
use Rattle.signal_core.proofs.Naming.{names-added, names-renamed}
use Rattle.signal_core.proofs.table.SignalTable.set_class_handler.Goals as goal

pub returns-then-is_some-clause-ok : goal.returns-then-is_some-clause-ok
returns-then-is_some-clause-ok c =
    let s = c.in-Some.signal in
    let signal = read-slice_get notify (signals_of c.args.tree.now c.args.self.now.signals c.args.t) c.args.number (declared_view s) (sym c.in-Some.ensures) in
    let first = c.as_str.ensures.value ∙ c.in_ok-name.ensures.ok in
    let name = c.as_str-then-is_some.ensures.value ∙ c.in_ok-name.ensures.ok in
    let there = ap (λ n. is_some (handler_in (named_of c.args.self.now.handlers c.args.t) n)) (sym first) ∙ ap is_some (sym c.own_handler.ensures) ∙ sym c.is_some.ensures ∙ c.if-is_some.true in
    subst (λ n. Names c.args.self.now.handlers c.replace_program.new.self.handlers c.args.t n c.args.program) (sym (ap (λ x. x.name) signal))
    (names-renamed c.args.self.now.handlers c.replace_program.new.self.handlers c.args.t s.name.now c.args.program there
    (subst (λ n. RenamesHandlers c.args.self.now.handlers c.replace_program.new.self.handlers c.args.t n c.args.program) name c.replace_program.ensures.handlers))

pub returns-clause-ok : goal.returns-clause-ok
returns-clause-ok c =
    let s = c.in-Some.signal in
    let signal = read-slice_get notify (signals_of c.args.tree.now c.args.self.now.signals c.args.t) c.args.number (declared_view s) (sym c.in-Some.ensures) in
    let first = c.as_str.ensures.value ∙ c.in_ok-name.ensures.ok in
    let none = ap (λ n. is_some (handler_in (named_of c.args.self.now.handlers c.args.t) n)) (sym first) ∙ ap is_some (sym c.own_handler.ensures) ∙ sym c.is_some.ensures ∙ c.if-is_some.false in
    let made = c.new.ensures ∙ ap (λ n. record { signal = n; program = c.args.program }) c.in_ok-name.ensures.ok in
    on_ok-map c.add_handler.result
    (λ adds. subst (λ n. Names c.args.self.now.handlers c.add_handler.new.self.handlers c.args.t n c.args.program) (sym (ap (λ x. x.name) signal))
    (names-added c.args.self.now.handlers c.add_handler.new.self.handlers c.args.t s.name.now c.args.program none
    (subst (AddsHandler c.args.self.now.handlers c.add_handler.new.self.handlers c.args.t) made adds)))
    c.add_handler.ensures.ok
