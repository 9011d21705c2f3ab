use Rattle.std.proofs.Common.{◌≡◌, ◌≤◌, ℕ, List, drop, length, map}
use Rattle.std.specs.BTreeMap.{get_by_text}
use Rattle.read_parts.specs.EntryViews.{views}
use Rattle.definition_format.specs.Denoted.Entries.{name_under, number_from}
use Rattle.read_parts.proofs.entries.numbers_of.Given as goal

abbrev pub invariant-entries : goal.invariant-entries
invariant-entries l = record {
  within : l.left ≤ length l.entries;
  numbers : (name : List ℕ) → get_by_text l.numbers name ≡ number_from l.left (drop l.left (map (name_under l.key) (views l.entries))) name;
}

abbrev pub decreases-entries : goal.decreases-entries
decreases-entries l = l.left
