use Rattle.std.proofs.Common.{◌≡◌, ◌≤◌, ℕ, List, drop, length, map}
use Rattle.std.specs.Option.{option_or}
use Rattle.type_tree.specs.Words.{place_at, place_from}
use Rattle.type_tree.proofs.words.add_words.Given as goal

abbrev pub invariant-words : goal.invariant-words
invariant-words l = record {
  within : l.left ≤ length l.words;
  kept : (word : List ℕ) → place_at l.places word ≡ option_or (place_from l.left (drop l.left (map (λ w. w.now) l.words)) word) (place_at l.fn.places word);
}

abbrev pub decreases-words : goal.decreases-words
decreases-words l = l.left
