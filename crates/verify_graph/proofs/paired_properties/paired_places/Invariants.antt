use Rattle.std.proofs.Common.{◌≡◌, length, map}
use Rattle.ui_machine.specs.Seq.{listed}
use Rattle.verify_graph.specs.Paired.{paired_at}
use Rattle.verify_graph.proofs.paired_properties.paired_places.Given as goal

abbrev pub invariant-loop-place : goal.invariant-loop-place
invariant-loop-place l = record {
  places : map (λ v. v.items) l.places.items ≡ listed (paired_at l.lookups l.numbers l.others) l.place;
  count : length l.places.items ≡ l.place;
}
