use Rattle.std.proofs.Common.{◌∙◌, ◌++◌, length, sym, ap, subst, append-nil}
use Rattle.std.proofs.lemmas.List.{length-map}
use Rattle.signal_core.specs.SignalRows.{ArePlaces}
use Rattle.signal_core.specs.SignalView.{signal_view}
use Rattle.signal_core.specs.Sources.{own_of}
use Rattle.signal_core.proofs.PlacesOfSignals.{places_more}
use Rattle.signal_core.proofs.Walks.{added-before, added-first}
use Rattle.signal_core.proofs.table.SignalTable.add_source.Goals as goal

pub returns-then-came_before : goal.returns-then-came_before
returns-then-came_before c before have =
    let signals = c.args.self.now.signals in
    subst (ArePlaces signals c.args.places.now.items)
    (sym (append-nil before) ∙ ap (λ l. before ++ l) (added-before c.args.tree.now signals c.args.t c.args.at (sym c.came_before.ensures ∙ c.if-came_before.true)))
    have

pub returns : goal.returns
returns c before have =
    let signals = c.args.self.now.signals in
    let source = c.source_at-source.result in
    subst (λ l. ArePlaces signals c.add_places.new.places.items (before ++ l))
    (ap (own_of signals) c.source_at-source.ensures ∙ added-first c.args.tree.now signals c.args.t c.args.at (sym c.came_before.ensures ∙ c.if-came_before.false))
    (places_more signals source (length c.own.result.now) c.args.places.now.items c.add_places.new.places.items before
    (sym (length-map c.own.result.now signal_view) ∙ ap length c.own.ensures.own) have c.in_ok-add_places.ensures)
