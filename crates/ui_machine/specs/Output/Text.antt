-- How values and lines are printed, as lists of bytes (a flags or enum value as GObject manual, GEnumValue).
use Rattle.std.specs.Fmt.{digit_glyph, signed_decimal}
use Rattle.std.specs.Prelude.{ℕ, ℤ, ◌/◌, ◌%◌, true, false, cond, decimal, nat_eq, nat_lt, List, [], ◌∷◌, ◌++◌, codes, Option, Some, None}
use Rattle.std.specs.Ordering.{int_eq}
use Rattle.ui_machine.specs.Seq.{read}
use Rattle.ui_machine.specs.Definition.Values.{Value}
use Rattle.ui_machine.specs.Definition.Values as values
use Rattle.ui_machine.specs.Definition.Types.{GType, Member, plain_class}
use Rattle.ui_machine.specs.Output.Lines.{Line}
use Rattle.ui_machine.specs.Output.Lines as lines

-- ** texts as compact JSON

-- a byte with an escape of its own, and what denotes it
pub record Escape : Type 0 where
  pub byte : ℕ
  pub text : List ℕ

-- the escape of this byte, with this text
abbrev pub escape : ℕ → List ℕ → Escape
escape byte text = record { byte = byte; text = text }

-- the bytes with an escape of their own: the quote, the backslash, and BS, HT, LF, FF and CR
abbrev pub short_escapes : List Escape
short_escapes =
    escape 34 (codes "\\\"") ∷ escape 92 (codes "\\\\") ∷ escape 8 (codes "\\b") ∷ escape 9 (codes "\\t") ∷ escape 10 (codes "\\n")
    ∷ escape 12 (codes "\\f") ∷ escape 13 (codes "\\r") ∷ []

-- what denotes a byte without one: `\u` with four digits for a control character, and else itself
abbrev pub plain_or_control : ℕ → List ℕ
plain_or_control x = cond (nat_lt x 32) (codes "\\u00" ++ (digit_glyph false (x / 16) ∷ digit_glyph false (x % 16) ∷ [])) (x ∷ [])

-- what denotes a byte in a JSON string
abbrev pub escaped_byte : ℕ → List ℕ
escaped_byte x = escape_in short_escapes
  where
    escape_in : List Escape → List ℕ
    escape_in [] = plain_or_control x
    escape_in (entry ∷ entries) = cond (nat_eq x entry.byte) entry.text (escape_in entries)

-- a text with its escapes
abbrev pub escaped : List ℕ → List ℕ
escaped [] = []
escaped (x ∷ xs) = escaped_byte x ++ escaped xs

-- a text as a compact JSON string
abbrev pub json_string : List ℕ → List ℕ
json_string s = 34 ∷ (escaped s ++ 34 ∷ [])

-- ** values

-- the nick of the first member with this number, and nothing where none has it
abbrev pub nick_of : List Member → ℤ → List ℕ
nick_of [] n = []
nick_of (m ∷ ms) n = cond (int_eq m.number n) m.nick (nick_of ms n)

-- the default where a type is not there
abbrev pub no_type : GType
no_type = plain_class [] None []

-- the members of a type
abbrev pub members_of : List GType → ℕ → List Member
members_of types t = (read no_type types t).members

-- an identity, with its `#`
abbrev pub text_of_identity : ℕ → List ℕ
text_of_identity id = codes "#" ++ decimal id

-- a value as it is printed
abbrev pub text_of_value : List GType → Value → List ℕ
text_of_value types (values.bool true) = codes "TRUE"
text_of_value types (values.bool false) = codes "FALSE"
text_of_value types (values.whole kind n) = signed_decimal n
text_of_value types (values.text None) = codes "null"
text_of_value types (values.text (Some s)) = json_string s
text_of_value types (values.enum type n) = nick_of (members_of types type) n
text_of_value types (values.flags type bits) = decimal bits
text_of_value types (values.object None) = codes "null"
text_of_value types (values.object (Some id)) = text_of_identity id

-- values, joined by commas
abbrev pub text_of_values : List GType → List Value → List ℕ
text_of_values types [] = []
text_of_values types (v ∷ []) = text_of_value types v
text_of_values types (v ∷ w ∷ vs) = text_of_value types v ++ (codes "," ++ text_of_values types (w ∷ vs))

-- ** lines

-- a detail, if there is one
abbrev pub detail_text : Option (List ℕ) → List ℕ
detail_text None = []
detail_text (Some detail) = codes "::" ++ detail

-- `peer.method(values)`
abbrev pub call_text : List GType → List ℕ → List ℕ → List Value → List ℕ
call_text types peer method args = peer ++ (codes "." ++ (method ++ (codes "(" ++ (text_of_values types args ++ codes ")"))))

-- a line without its LF
abbrev pub text_of_line : List GType → Line → List ℕ
text_of_line types lines.build = codes "build"
text_of_line types (lines.construct id class) = codes "construct #" ++ (decimal id ++ (codes " " ++ class))
text_of_line types (lines.set id name v) = codes "set #" ++ (decimal id ++ (codes "." ++ (name ++ (codes " " ++ text_of_value types v))))
text_of_line types (lines.refused id name v) =
    codes "refused #" ++ (decimal id ++ (codes "." ++ (name ++ (codes " " ++ text_of_value types v))))
text_of_line types (lines.notify id name) = codes "notify #" ++ (decimal id ++ (codes "." ++ name))
text_of_line types (lines.emit id name detail args) =
    codes "emit #" ++
    (decimal id ++ (codes "." ++ (name ++ (detail_text detail ++ (codes "(" ++ (text_of_values types args ++ codes ")"))))))
text_of_line types (lines.run program) = codes "run " ++ program
text_of_line types (lines.call peer method args answer) =
    codes "call " ++ (call_text types peer method args ++ (codes " = " ++ text_of_value types answer))
text_of_line types (lines.fault peer method args) = codes "fault " ++ call_text types peer method args
text_of_line types (lines.closed peer method args) = codes "closed " ++ call_text types peer method args
text_of_line types (lines.limit word) = codes "limit " ++ word
text_of_line types (lines.adopt parent child) = codes "adopt #" ++ (decimal parent ++ (codes " #" ++ decimal child))
text_of_line types (lines.orphan child) = codes "orphan #" ++ decimal child
text_of_line types (lines.dispose id) = codes "dispose #" ++ decimal id
text_of_line types (lines.close peer) = codes "close " ++ peer
text_of_line types (lines.final id) = codes "final #" ++ decimal id
text_of_line types (lines.get id name v) = codes "get #" ++ (decimal id ++ (codes "." ++ (name ++ (codes " " ++ text_of_value types v))))
text_of_line types (lines.release id) = codes "release " ++ id
text_of_line types (lines.turn moment) = codes "turn " ++ decimal moment
text_of_line types (lines.result v) = codes "result " ++ text_of_value types v
text_of_line types (lines.end n) = codes "end " ++ decimal n
