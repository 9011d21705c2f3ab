use Rattle.std.proofs.Common.{◌≡◌, ◌++◌, map, take, string_bytes}
use Rattle.ui_machine.specs.Definition.Lookups.{specs_of}
use Rattle.class_texts.specs.ClassTexts.{property_text}
use Rattle.class_texts.specs.Lists.{joined}
use Rattle.class_texts.proofs.properties.push_properties.Given as goal

abbrev pub invariant-loop-slot : goal.invariant-loop-slot
invariant-loop-slot l =
    string_bytes l.text
    ≡ string_bytes l.fn.text ++ joined (map (property_text l.definition l.class) (take l.slot (specs_of l.definition l.class)))
