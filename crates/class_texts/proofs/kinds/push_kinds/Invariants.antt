use Rattle.std.proofs.Common.{◌≡◌, ◌++◌, length, map, string_bytes}
use Rattle.g_values.specs.View.{kind_view}
use Rattle.class_texts.specs.ClassTexts.{kind_text}
use Rattle.class_texts.specs.Lists.{joined}
use Rattle.class_texts.proofs.kinds.push_kinds.Given as goal

abbrev pub invariant-kinds : goal.invariant-kinds
invariant-kinds l =
    string_bytes l.text ++ joined (map (kind_text l.definition) (map kind_view l.left))
    ≡ string_bytes l.fn.text ++ joined (map (kind_text l.definition) (map kind_view l.kinds))

abbrev pub decreases-kinds : goal.decreases-kinds
decreases-kinds l = length l.left
