use Rattle.std.proofs.Common.{◌≡◌}
use Rattle.std.specs.List.{filter, range_with_len}
use Rattle.class_texts.specs.ClassTexts.{implements}
use Rattle.class_texts.proofs.interfaces.interfaces.Given as goal

abbrev pub invariant-loop-at : goal.invariant-loop-at
invariant-loop-at l = l.interfaces.items ≡ filter (implements l.types l.class) (range_with_len 0 l.at)
