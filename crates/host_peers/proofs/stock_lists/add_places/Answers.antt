use Rattle.std.proofs.Common.{◌∙◌, sym, ap, map}
use Rattle.definitions.specs.EntryView.{entry_view}
use Rattle.host_peers.specs.Stock.{stock_view}
use Rattle.host_peers.proofs.Places.{of_kind, of_other}
use Rattle.host_peers.proofs.stock_lists.add_places.Goals as goal
use Rattle.host_peers.proofs.stock_lists.add_places.Goals.{then-entry-is_prototype+in_ok-add_place, else-entry-is_prototype}

pub places-preserved : goal.places-preserved
places-preserved c =
    let d = c.args.definition.now in
    elim c.if-entry-is_prototype.branch [
      | then-entry-is_prototype+in_ok-add_place w ↦
          of_kind d c.args.is_prototype c.places.place (entry_view c.in-Some.entry) (sym c.in-Some.ensures) (map stock_view c.args.stock.now.items) (map stock_view c.places.stock.items) c.places.invariant
          (map stock_view c.if-entry-is_prototype.stock.items) w.if-entry-is_prototype.true (ap (λ v. map stock_view v.items) w.stock-is ∙ w.in_ok-add_place.ensures)
      | else-entry-is_prototype w ↦
          ap (λ v. map stock_view v.items) w.stock-is
          ∙ of_other d c.args.is_prototype c.places.place (entry_view c.in-Some.entry) (sym c.in-Some.ensures) (map stock_view c.args.stock.now.items) (map stock_view c.places.stock.items) c.places.invariant
          w.if-entry-is_prototype.false
    ]
