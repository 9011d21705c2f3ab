-- The formats of definitions. What is written in the first format denotes what it does where there is no other, and the same in the second.
use Rattle.std.specs.Prelude.{◌≡◌, ℕ, List, codes, Ok}
use Rattle.serde_json.specs.Data.{Data, object, number, unsigned, put}
use Rattle.ui_machine.specs.Definition.{Definition}
use Rattle.bytecode.specs.declared.formats.Format.TheVariants as formats
use Rattle.definition_format.specs.Document.{document}
use Rattle.law_reading.specs.FirstReading as before
use Rattle.definition_format.specs.Denoted.{format_number, format_of, definition_in, denoted}

-- the value, where its member `format` is this number
abbrev pub in_format : ℕ → Data → Data
in_format n (object ms) = object (put (codes "format") (number (unsigned n)) ms)
in_format n d = d

-- it is written in the first format
abbrev pub IsOfFirst : Data → Type 0
IsOfFirst value = format_of (format_number value) ≡ Ok formats.First

-- A value of the first format denotes what it denotes where there is no other, or is refused as it is there.
abbrev pub FirstIsAsBefore : Type 0
FirstIsAsBefore = (value : Data) → IsOfFirst value → definition_in value ≡ before.definition_in value

-- A value of the first format that denotes a definition denotes the same one where its format is 2.
abbrev pub FirstIsSecond : Type 0
FirstIsSecond = (value : Data) (d : Definition) → IsOfFirst value → definition_in value ≡ Ok d → definition_in (in_format 2 value) ≡ Ok d

-- So bytes of the first format and those that differ from them in the format alone denote one definition.
abbrev pub BytesAgree : Type 0
BytesAgree = (first second : List ℕ) (value : Data) (d : Definition) → document first ≡ Ok value → document second ≡ Ok (in_format 2 value) →
    IsOfFirst value → denoted first ≡ Ok d → denoted second ≡ Ok d
