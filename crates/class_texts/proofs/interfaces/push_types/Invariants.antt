use Rattle.std.proofs.Common.{◌≡◌, ◌++◌, length, map, string_bytes}
use Rattle.class_texts.specs.ClassTexts.{type_text}
use Rattle.class_texts.specs.Lists.{joined}
use Rattle.class_texts.proofs.interfaces.push_types.Given as goal

abbrev pub invariant-types : goal.invariant-types
invariant-types l =
    string_bytes l.text ++ joined (map (type_text l.definition) l.left)
    ≡ string_bytes l.fn.text ++ joined (map (type_text l.definition) l.types)

abbrev pub decreases-types : goal.decreases-types
decreases-types l = length l.left
