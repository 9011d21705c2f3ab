use Rattle.std.proofs.Common.{◌∙◌, sym, ap, map}
use Rattle.definitions.specs.EntryView.{entry_view}
use Rattle.native_peers.specs.Matching.{need_view}
use Rattle.needed_peers.proofs.Places.{of_kind, of_other}
use Rattle.needed_peers.proofs.needs.add_places.Goals as goal
use Rattle.needed_peers.proofs.needs.add_places.Goals.{then-entry-is_prototype+in_ok-add_place, else-entry-is_prototype}

pub places-preserved : goal.places-preserved
places-preserved c =
    let d = c.args.definition.now in
    elim c.if-entry-is_prototype.branch [
      | then-entry-is_prototype+in_ok-add_place w ↦
          of_kind d c.args.is_prototype c.places.place (entry_view c.in-Some.entry) (sym c.in-Some.ensures) (map need_view c.args.needs.now.items) (map need_view c.places.needs.items) c.places.invariant
          (map need_view c.if-entry-is_prototype.needs.items) w.if-entry-is_prototype.true (ap (λ v. map need_view v.items) w.needs-is ∙ w.in_ok-add_place.ensures)
      | else-entry-is_prototype w ↦
          ap (λ v. map need_view v.items) w.needs-is
          ∙ of_other d c.args.is_prototype c.places.place (entry_view c.in-Some.entry) (sym c.in-Some.ensures) (map need_view c.args.needs.now.items) (map need_view c.places.needs.items) c.places.invariant
          w.if-entry-is_prototype.false
    ]
