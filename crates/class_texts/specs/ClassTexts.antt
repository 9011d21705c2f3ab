-- Classes as JSON, with all that they have, inherited too.
use Rattle.std.specs.Fmt.{signed_decimal}
use Rattle.std.specs.List.{filter, range_with_len}
use Rattle.std.specs.Prelude.{ℕ, Bool, ◌&&◌, List, [], ◌++◌, codes, length, map, Option, None, Some, option_map}
use Rattle.ui_machine.specs.Definition.{Definition}
use Rattle.ui_machine.specs.Definition.Kinds as kinds
use Rattle.ui_machine.specs.Definition.Lookups.{class_of, specs_of, type_of}
use Rattle.ui_machine.specs.Definition.Properties.{Spec}
use Rattle.ui_machine.specs.Definition.Signals.{Accumulator, Signal}
use Rattle.ui_machine.specs.Definition.Types.{GType}
use Rattle.ui_machine.specs.Rules.Ancestry.{is_a}
use Rattle.type_tree.specs.Adding.{class_named, is_interface, sort_of}
use Rattle.object_texts.specs.ObjectTexts.{quoted, truth_text, value_text}
use Rattle.class_texts.specs.Flags.{property_words, signal_words, word_text}
use Rattle.class_texts.specs.Kinds.{accumulator_word, kind_word}
use Rattle.class_texts.specs.Lists.{list_text}
use Rattle.class_texts.specs.Owners.{property_owner, signal_owner}

-- ** types

-- the name of a type
abbrev pub type_text : Definition → ℕ → List ℕ
type_text d t = quoted (type_of d t).name

-- the name of a type, or null
abbrev pub type_or_null : Definition → Option ℕ → List ℕ
type_or_null d None = codes "null"
type_or_null d (Some t) = type_text d t

-- a kind as a definition names it
abbrev pub kind_text : Definition → kinds.Kind → List ℕ
kind_text d kind = quoted (kind_word d kind)

-- whether a class implements an interface, itself or by an ancestor
abbrev pub implements : List GType → (class type : ℕ) → Bool
implements types class t = is_interface (sort_of types t) && is_a types class t

-- the interfaces that a class implements, itself or by an ancestor, in the order in which they are declared
abbrev pub interfaces_of : List GType → ℕ → List ℕ
interfaces_of types class = filter (implements types class) (range_with_len 0 (length types))

-- ** properties

-- what its kind lets a property have beside: the ends of a range, or whether it is weak
abbrev pub range_text : kinds.Kind → Spec → List ℕ
range_text kinds.bool s = []
range_text (kinds.whole k) s = codes ",\"min\":" ++ signed_decimal s.low ++ codes ",\"max\":" ++ signed_decimal s.high
range_text kinds.text s = []
range_text (kinds.enum t) s = []
range_text (kinds.flags t) s = []
range_text (kinds.object t) s = codes ",\"weak\":" ++ truth_text s.weak

-- what a property is called, who declares it and what it holds
abbrev pub property_origin : Definition → (class : ℕ) → Spec → List ℕ
property_origin d class s =
    codes "{\"name\":" ++ quoted s.name ++ codes ",\"owner\":" ++ type_text d (property_owner d class s.name)
    ++ codes ",\"kind\":" ++ kind_text d s.kind

-- a property of a class: the members of the format, and its owner
abbrev pub property_text : Definition → (class : ℕ) → Spec → List ℕ
property_text d class s =
    property_origin d class s ++ codes ",\"flags\":" ++ list_text (map quoted (map word_text (property_words s.flags)))
    ++ range_text s.kind s ++ codes ",\"default\":" ++ value_text d.types s.default ++ codes "}"

-- ** signals

-- the kind of a result, or that there is none
abbrev pub result_text : Definition → Option kinds.Kind → List ℕ
result_text d None = codes "\"none\""
result_text d (Some kind) = kind_text d kind

-- the accumulator, if there is one
abbrev pub accumulator_text : Option Accumulator → List ℕ
accumulator_text None = []
accumulator_text (Some a) = codes ",\"accumulator\":" ++ quoted (accumulator_word a)

-- what a signal is called, and who declares it
abbrev pub signal_origin : Definition → (class : ℕ) → (name : List ℕ) → List ℕ
signal_origin d class name = codes "{\"name\":" ++ quoted name ++ codes ",\"owner\":" ++ type_text d (signal_owner d class name)

-- a signal of a class: the members of the format, and its owner
abbrev pub signal_text : Definition → (class : ℕ) → Signal → List ℕ
signal_text d class s =
    signal_origin d class s.name ++ codes ",\"params\":" ++ list_text (map (kind_text d) s.params)
    ++ codes ",\"result\":" ++ result_text d s.result
    ++ codes ",\"flags\":" ++ list_text (map quoted (map word_text (signal_words s.flags)))
    ++ accumulator_text s.accumulator ++ codes "}"

-- ** classes

-- what a class is called and derived from, and how it may be used
abbrev pub class_origin : Definition → GType → List ℕ
class_origin d type =
    codes "{\"name\":" ++ quoted type.name ++ codes ",\"parent\":" ++ type_or_null d type.parent
    ++ codes ",\"abstract\":" ++ truth_text type.is_abstract ++ codes ",\"final\":" ++ truth_text type.is_final

-- a class: which it is, the interfaces that it implements, its properties by slot, and its signals by number, `notify` first
abbrev pub text_of_class : Definition → ℕ → List ℕ
text_of_class d class =
    class_origin d (type_of d class)
    ++ codes ",\"interfaces\":" ++ list_text (map (type_text d) (interfaces_of d.types class))
    ++ codes ",\"properties\":" ++ list_text (map (property_text d class) (specs_of d class))
    ++ codes ",\"signals\":" ++ list_text (map (signal_text d class) (class_of d class).signals) ++ codes "}"

-- the class of this name, if there is one
abbrev pub class_text : Definition → (name : List ℕ) → Option (List ℕ)
class_text d name = option_map (text_of_class d) (class_named d.types name)
