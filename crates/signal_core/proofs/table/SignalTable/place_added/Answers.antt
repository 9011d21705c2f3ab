use Rattle.std.proofs.Common.{◌≡◌, ◌∙◌, ◌+◌, ◌<◌, length, ap, sym, subst, arith}
use Rattle.std.proofs.lemmas.List.{length-map}
use Rattle.ui_machine.specs.Definition.Names.{canonical, place_named}
use Rattle.ui_machine.specs.Definition.Signals.{Signal}
use Rattle.signal_core.specs.SignalView.{signal_view}
use Rattle.signal_core.specs.Sources.{brought_by}
use Rattle.signal_core.specs.Table.{IsTable}
use Rattle.signal_core.proofs.Places.{place-position}
use Rattle.signal_core.proofs.Walks.{count_next, found_next, none_next, until_end, until_few}
use Rattle.signal_core.proofs.table.SignalTable.place_added.Goals as goal

pub overflow_add-result : goal.overflow_add-result
overflow_add-result c =
    let lt : c.loop-at.at < length (brought_by c.args.tree.now c.args.t) = omega (arith, c.loop-at-test.true, c.source_count-at-end.ensures) in
    let long = sym (length-map c.added-added.result.now signal_view) ∙ ap length c.added-added.ensures in
    let next = count_next c.args.tree.now c.args.self.now.signals c.args.t c.loop-at.at c.loop-at.count (length c.added-added.result.now) lt c.loop-at.invariant.1 long in
    let few = until_few c.args.tree.now c.args.self.now.signals (subst (λ d. IsTable d.signals) c.self.view_is c.self.invariant.0) c.args.t (c.loop-at.at + 1) in
    omega (arith, next, few, c.in-Some.ensures.within)

pub overflow_add-count : goal.overflow_add-count
overflow_add-count c =
    let lt : c.loop-at.at < length (brought_by c.args.tree.now c.args.t) = omega (arith, c.loop-at-test.true, c.source_count-at-end.ensures) in
    let long = sym (length-map c.added-added.result.now signal_view) ∙ ap length c.added-added.ensures in
    let next = count_next c.args.tree.now c.args.self.now.signals c.args.t c.loop-at.at c.loop-at.count (length c.added-added.result.now) lt c.loop-at.invariant.1 long in
    let few = until_few c.args.tree.now c.args.self.now.signals (subst (λ d. IsTable d.signals) c.self.view_is c.self.invariant.0) c.args.t (c.loop-at.at + 1) in
    omega (arith, next, few)

pub returns-in-Some-clause-found : goal.returns-in-Some-clause-found
returns-in-Some-clause-found c =
    let lt : c.loop-at.at < length (brought_by c.args.tree.now c.args.t) = omega (arith, c.loop-at-test.true, c.source_count-at-end.ensures) in
    let here = ap (λ l. place_named (λ (s : Signal). s.name) l (canonical c.args.name.now)) (sym c.added-added.ensures)
    ∙ sym (place-position c.added-added.result.now c.args.name.now) ∙ sym c.in-Some.ensures.place in
    found_next c.args.tree.now c.args.self.now.signals (canonical c.args.name.now) c.args.t c.loop-at.at c.loop-at.count c.in-Some.place lt c.loop-at.invariant.0 c.loop-at.invariant.1 here

pub loop-at-preserved : goal.loop-at-preserved
loop-at-preserved c =
    let lt : c.loop-at.at < length (brought_by c.args.tree.now c.args.t) = omega (arith, c.loop-at-test.true, c.source_count-at-end.ensures) in
    let long = sym (length-map c.added-added.result.now signal_view) ∙ ap length c.added-added.ensures in
    let here = ap (λ l. place_named (λ (s : Signal). s.name) l (canonical c.args.name.now)) (sym c.added-added.ensures)
    ∙ sym (place-position c.added-added.result.now c.args.name.now) ∙ sym c.position_of.ensures.place ∙ c.in_default.is in (
      none_next c.args.tree.now c.args.self.now.signals (canonical c.args.name.now) c.args.t c.loop-at.at lt c.loop-at.invariant.0 here,
      count_next c.args.tree.now c.args.self.now.signals c.args.t c.loop-at.at c.loop-at.count (length c.added-added.result.now) lt c.loop-at.invariant.1 long,
      c.mark.ensures,
    )

pub returns-clause-none : goal.returns-clause-none
returns-clause-none c =
    let end : c.loop-at.at ≡ length (brought_by c.args.tree.now c.args.t) = omega (arith, c.loop-at-test.false, c.loop-at.auto.at-end, c.source_count-at-end.ensures) in
    ap (λ l. place_named (λ (s : Signal). s.name) l (canonical c.args.name.now)) (sym (until_end c.args.tree.now c.args.self.now.signals c.args.t c.loop-at.at end)) ∙ c.loop-at.invariant.0

pub returns-clause-count : goal.returns-clause-count
returns-clause-count c =
    let end : c.loop-at.at ≡ length (brought_by c.args.tree.now c.args.t) = omega (arith, c.loop-at-test.false, c.loop-at.auto.at-end, c.source_count-at-end.ensures) in
    c.loop-at.invariant.1 ∙ ap length (until_end c.args.tree.now c.args.self.now.signals c.args.t c.loop-at.at end)
