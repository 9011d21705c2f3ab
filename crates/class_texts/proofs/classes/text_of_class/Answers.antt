use Rattle.std.proofs.Common.{◌∙◌, ◌++◌, codes, map, refl, string_bytes}
use Rattle.ui_machine.specs.Definition.Lookups.{class_of, specs_of, type_of}
use Rattle.class_texts.specs.ClassTexts.{class_origin, interfaces_of, property_text, signal_text, type_text}
use Rattle.class_texts.specs.Lists.{list_text}
use Rattle.class_texts.proofs.Lists.{written_behind}
use Rattle.class_texts.proofs.classes.text_of_class.Goals as goal

pub returns : goal.returns
returns c =
    let d = c.args.definition.now in
    let class = c.args.class in
    let origin = class_origin d (type_of d class) in
    let with_interfaces = origin ++ codes ",\"interfaces\":" in
    let interfaces = with_interfaces ++ list_text (map (type_text d) (interfaces_of d.types class)) in
    let with_properties = interfaces ++ codes ",\"properties\":" in
    let properties = with_properties ++ list_text (map (property_text d class) (specs_of d class)) in
    let with_signals = properties ++ codes ",\"signals\":" in
    let signals = with_signals ++ list_text (map (signal_text d class) (class_of d class).signals) in
    written_behind signals (codes "}") (string_bytes c.push_str-6.new.self) (codes "}") (string_bytes c.push_str-7.new.self)
    (written_behind with_signals (list_text (map (signal_text d class) (class_of d class).signals))
    (string_bytes c.push_str-5.new.self) c.as_str-3.result.now (string_bytes c.push_str-6.new.self)
    (written_behind properties (codes ",\"signals\":") (string_bytes c.push_str-4.new.self)
    (codes ",\"signals\":") (string_bytes c.push_str-5.new.self)
    (written_behind with_properties (list_text (map (property_text d class) (specs_of d class)))
    (string_bytes c.push_str-3.new.self) c.as_str-2.result.now (string_bytes c.push_str-4.new.self)
    (written_behind interfaces (codes ",\"properties\":") (string_bytes c.push_str-2.new.self)
    (codes ",\"properties\":") (string_bytes c.push_str-3.new.self)
    (written_behind with_interfaces (list_text (map (type_text d) (interfaces_of d.types class)))
    (string_bytes c.push_str.new.self) c.as_str.result.now (string_bytes c.push_str-2.new.self)
    (written_behind origin (codes ",\"interfaces\":") (string_bytes c.in_ok-text.text)
    (codes ",\"interfaces\":") (string_bytes c.push_str.new.self)
    c.in_ok-text.ensures refl c.in_ok-push_str.ensures.bytes)
    (c.as_str.ensures.value ∙ c.in_ok-interfaces.ensures) c.in_ok-push_str-2.ensures.bytes)
    refl c.in_ok-push_str-3.ensures.bytes)
    (c.as_str-2.ensures.value ∙ c.in_ok-properties.ensures) c.in_ok-push_str-4.ensures.bytes)
    refl c.in_ok-push_str-5.ensures.bytes)
    (c.as_str-3.ensures.value ∙ c.in_ok-signals.ensures) c.in_ok-push_str-6.ensures.bytes)
    refl c.in_ok-push_str-7.ensures.bytes
