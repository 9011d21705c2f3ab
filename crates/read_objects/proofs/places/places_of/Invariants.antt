use Rattle.std.proofs.Common.{◌≡◌, ◌≤◌, ℕ, List, codes, drop, length, map, option_map}
use Rattle.std.specs.BTreeMap.{get_by_text}
use Rattle.bytecode.specs.Reading.RegisterKinds.{number_of_place}
use Rattle.read_parts.specs.EntryViews.{views}
use Rattle.definition_format.specs.Denoted.Entries.{at_most, name_under, number_from}
use Rattle.read_objects.proofs.places.places_of.Given as goal

abbrev pub invariant-entries : goal.invariant-entries
invariant-entries l = record {
  within : l.left ≤ length l.entries;
  numbers : (id : List ℕ) → number_of_place (get_by_text l.places id) ≡ option_map (at_most 512) (number_from l.left (drop l.left (map (name_under (codes "id")) (views l.entries))) id);
}

abbrev pub decreases-entries : goal.decreases-entries
decreases-entries l = l.left
