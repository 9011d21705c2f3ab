-- The operands of instructions, as JSON gives them. The entry 0 of an instruction is its word.
use Rattle.std.specs.Prelude.{◌≡◌, ℕ, ℤ, List, [], ◌∷◌, codes, length, Bool, true, false, ◌||◌, ◌&&◌, nat_eq, nat_lt, if◌then◌else◌, Option, None, Some, is_some, option_map, option_and_then, Result, Ok, Err}
use Rattle.std.specs.List.{list_all}
use Rattle.std.specs.Str.{bytes_eq}
use Rattle.serde_json.specs.Data.{Data, Items, no_items, item}
use Rattle.serde_json.specs.Find.{at, as_null, as_str, as_number, as_array, as_u64}
use Rattle.ui_machine.specs.Outcome.{◌>>=◌}
use Rattle.ui_machine.specs.Definition.Kinds.{Kind, int}
use Rattle.ui_machine.specs.Definition.Values.{Value}
use Rattle.ui_machine.specs.Definition.Types.{GType}
use Rattle.ui_machine.specs.Rules.Transform.{least, greatest, is_between}
use Rattle.type_tree.specs.TypeName.{is_within}
use Rattle.g_values.specs.Reading.{whole_number, json_value}
use Rattle.bytecode.specs.declared.errors.InstructionError.{InstructionError}
use Rattle.bytecode.specs.declared.errors.InstructionError.TheVariants as errors
use Rattle.bytecode.specs.Reading.KindWords.{kind_by, parted}

-- why a value is no instruction
pub data Refusal : Type 0 where
  bad_instruction : Refusal

-- What a function returned, seen by view, is what reading gives, unless memory ran out.
abbrev pub Fails : {Y : Type 0} → InstructionError → Result Y Refusal → Type 0
Fails errors.OutOfMemory read = Unit {0}
Fails errors.BadInstruction read = read ≡ Err bad_instruction

abbrev pub Gives : {X Y : Type 0} → (X → Y) → Result X InstructionError → Result Y Refusal → Type 0
Gives view (Ok x) read = read ≡ Ok (view x)
Gives view (Err e) read = Fails e read

-- what is there, or no instruction
abbrev pub expected : {A : Type 0} → Option A → Result A Refusal
expected None = Err bad_instruction
expected (Some x) = Ok x

-- the entry of a number
abbrev pub operand : Data → ℕ → Result Data Refusal
operand d n = expected (at n d)

-- there is no entry of the number
abbrev pub no_operand : Data → ℕ → Result (Unit {0}) Refusal
no_operand d n = if is_some (at n d) then Err bad_instruction else Ok tt

-- ** numbers

abbrev pub below : ℕ → Option ℕ → Option ℕ
below bound None = None
below bound (Some n) = if nat_lt n bound then Some n else None

-- a whole number below a bound
abbrev pub number_below : ℕ → Data → Option ℕ
number_below bound d = below bound (option_and_then as_u64 (as_number d))

-- a register or a block, by its number, where there are so many
abbrev pub number_at : ℕ → Data → ℕ → Result ℕ Refusal
number_at bound d n = do
  v ← operand d n
  expected (number_below bound v)

-- a register, or None for null
abbrev pub register_or_null : ℕ → Data → Option (Option ℕ)
register_or_null bound d = if is_some (as_null d) then Some None else option_map Some (number_below bound d)

abbrev pub register_or_null_at : ℕ → Data → ℕ → Result (Option ℕ) Refusal
register_or_null_at bound d n = do
  v ← operand d n
  expected (register_or_null bound v)

abbrev pub between : ℤ → ℤ → Option ℤ → Option ℤ
between low high None = None
between low high (Some n) = if is_between low high n then Some n else None

-- a signed number of 32 bits
abbrev pub priority_at : Data → ℕ → Result ℤ Refusal
priority_at d n = do
  v ← operand d n
  expected (between (least int) (greatest int) (whole_number v))

-- so many milliseconds, in 32 bits
abbrev pub interval_at : Data → ℕ → Result ℕ Refusal
interval_at d n = do
  v ← operand d n
  expected (number_below 4294967296 v)

-- ** names

abbrev pub name_at : Data → ℕ → Result (List ℕ) Refusal
name_at d n = do
  v ← operand d n
  expected (as_str v)

-- an ASCII letter, a digit, `-` or `_`
abbrev pub is_name_byte : ℕ → Bool
is_name_byte x = is_within 97 122 x || is_within 65 90 x || is_within 48 57 x || nat_eq x 45 || nat_eq x 95

-- 1 to 64 of them
abbrev pub is_name : List ℕ → Bool
is_name id = is_within 1 64 (length id) && list_all is_name_byte id

abbrev pub named : Option (List ℕ) → Option (List ℕ)
named None = None
named (Some word) = if is_name word then Some word else None

-- a detail, or None for null
abbrev pub detail_or_null : Data → Option (Option (List ℕ))
detail_or_null d = if is_some (as_null d) then Some None else option_map Some (named (as_str d))

abbrev pub detail_at : Data → ℕ → Result (Option (List ℕ)) Refusal
detail_at d n = do
  v ← operand d n
  expected (detail_or_null v)

-- ** lists

-- each entry of a list is a register
abbrev pub registers_of : ℕ → Items → Option (List ℕ)
registers_of bound no_items = Some []
registers_of bound (item d ds) = option_and_then (λ r. option_map (λ rs. r ∷ rs) (registers_of bound ds)) (number_below bound d)

-- the entries of the list at an entry
abbrev pub items_at : Data → ℕ → Result Items Refusal
items_at d n = do
  v ← operand d n
  expected (as_array v)

abbrev pub registers_at : ℕ → Data → ℕ → Result (List ℕ) Refusal
registers_at bound d n = do
  items ← items_at d n
  expected (registers_of bound items)

-- ** kinds and values

abbrev pub taken : {A E : Type 0} → Result A E → Result A Refusal
taken (Ok x) = Ok x
taken (Err cause) = Err bad_instruction

abbrev pub kind_at : List GType → Data → ℕ → Result Kind Refusal
kind_at types d n = do
  word ← name_at d n
  taken (kind_by types word (parted word))

abbrev pub value_at : List GType → Kind → Data → ℕ → Result Value Refusal
value_at types kind d n = do
  v ← operand d n
  taken (json_value types kind v)

-- ** options

pub record Options : Type 0 where
  pub after : Bool
  pub swapped : Bool

abbrev pub is_word : List ℕ → Option (List ℕ) → Bool
is_word word None = false
is_word word (Some s) = bytes_eq s word

-- whether a list has a word
abbrev pub has_word : List ℕ → Items → Bool
has_word word no_items = false
has_word word (item d ds) = is_word word (as_str d) || has_word word ds

abbrev pub is_option : Data → Bool
is_option d = is_word (codes "after") (as_str d) || is_word (codes "swapped") (as_str d)

-- whether each entry of a list is an option
abbrev pub are_options : Items → Bool
are_options no_items = true
are_options (item d ds) = is_option d && are_options ds

-- the options that a list names; a word may come twice
abbrev pub options_of : Items → Result Options Refusal
options_of ds = if are_options ds then Ok (record { after = has_word (codes "after") ds; swapped = has_word (codes "swapped") ds }) else Err bad_instruction

abbrev pub options_at : Data → ℕ → Result Options Refusal
options_at d n = do
  items ← items_at d n
  options_of items
