use Rattle.std.proofs.Common.{◌∙◌, string_bytes, sym}
use Rattle.ui_machine.specs.Definition.Lookups.{specs_of}
use Rattle.param_specs.specs.View.{spec_view}
use Rattle.class_texts.specs.ClassTexts.{property_text}
use Rattle.class_texts.proofs.Lists.{entry_written}
use Rattle.class_texts.proofs.properties.push_properties.Goals as goal

pub loop-slot-preserved : goal.loop-slot-preserved
loop-slot-preserved c =
    let d = c.args.definition.now in
    entry_written (property_text d c.args.class) (specs_of d c.args.class) c.loop-slot.slot (spec_view c.in-Some.spec.now)
    (string_bytes c.args.text.now) (string_bytes c.loop-slot.text)
    (string_bytes c.push_separator.new.text) c.as_str.result.now (string_bytes c.push_str.new.self)
    (sym c.in-Some.ensures) c.loop-slot.invariant c.in_ok-push_separator.ensures
    (c.as_str.ensures.value ∙ c.in_ok-property.ensures) c.in_ok-push_str.ensures.bytes
