use Rattle.std.proofs.Common.{◌≡◌, ◌++◌, map, take, string_bytes}
use Rattle.ui_machine.specs.Definition.Lookups.{class_of}
use Rattle.class_texts.specs.ClassTexts.{signal_text}
use Rattle.class_texts.specs.Lists.{joined}
use Rattle.class_texts.proofs.signals.push_signals.Given as goal

abbrev pub invariant-loop-number : goal.invariant-loop-number
invariant-loop-number l =
    string_bytes l.text
    ≡ string_bytes l.fn.text ++ joined (map (signal_text l.definition l.class) (take l.number (class_of l.definition l.class).signals))
