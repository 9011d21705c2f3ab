use Rattle.std.proofs.Common.{◌≡◌, ◌++◌, length, map, string_bytes}
use Rattle.object_texts.specs.ObjectTexts.{quoted}
use Rattle.class_texts.specs.Flags.{word_text}
use Rattle.class_texts.specs.Lists.{joined}
use Rattle.class_texts.proofs.flags.push_words.Given as goal

abbrev pub invariant-words : goal.invariant-words
invariant-words l =
    string_bytes l.text ++ joined (map quoted (map word_text l.left))
    ≡ string_bytes l.fn.text ++ joined (map quoted (map word_text l.words))

abbrev pub decreases-words : goal.decreases-words
decreases-words l = length l.left
