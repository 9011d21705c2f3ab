use Rattle.std.proofs.Common.{◌≡◌, take}
use Rattle.main_context.specs.Places.{IsAscending, all_added}
use Rattle.main_context.proofs.places.add_all.Given as goal

abbrev pub invariant-loop-place : goal.invariant-loop-place
invariant-loop-place l = record {
  added : l.places.items ≡ all_added (take l.place-index l.more) l.initial.places.items;
  ascending : IsAscending l.places.items;
}
