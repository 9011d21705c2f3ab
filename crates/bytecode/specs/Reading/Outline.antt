-- What a program's value says beside its instructions, or the first fault in document order: a shape that the format does not give, or a
-- name that nothing has. Such a value denotes no program and has no bad instruction.
use Rattle.std.specs.Prelude.{◌≡◌, ℕ, ℤ, pos, unsigned_abs, List, [], ◌∷◌, ◌++◌, length, codes, Bool, true, false, nat_eq, nat_lt, if◌then◌else◌, Option, None, Some, option_map, option_and_then, Result, Ok, Err}
use Rattle.std.specs.List.{list_any}
use Rattle.std.specs.Str.{bytes_eq}
use Rattle.serde_json.specs.Data.{Data, Members, no_members, member}
use Rattle.serde_json.specs.Find.{get, as_str, as_number, as_u64, as_array, as_object}
use Rattle.ui_machine.specs.Outcome.{◌>>=◌}
use Rattle.ui_machine.specs.Definition.Kinds.{Kind, RegisterKind}
use Rattle.ui_machine.specs.Definition.Types.{GType}
use Rattle.ui_machine.specs.Rules.Transform.{is_between}
use Rattle.g_values.specs.Reading.{whole_number}
use Rattle.bytecode.specs.declared.formats.Format.{Format}
use Rattle.bytecode.specs.declared.formats.Format.TheVariants as formats
use Rattle.bytecode.specs.Reading.KindWords.{KindFault, no_kind, kind_by, parted}
use Rattle.bytecode.specs.Reading.Operands.{named}
use Rattle.bytecode.specs.Reading.Each.{entries_of, each}
use Rattle.bytecode.specs.Reading.RegisterKinds.{Names, register_kind_in}
use Rattle.bytecode.specs.Reading.OutlineFaults.{Part, OutlineFault, bad_shape, all_of, member_of, entry_of, shaped, kind_there}

-- what a block says: the kinds of the first registers as it begins, how often it is passed, and its instructions as JSON has them
pub record BlockOutline : Type 0 where
  pub entry : List RegisterKind
  pub repeat : Option ℕ
  pub code : List Data

pub record Outline : Type 0 where
  pub name : List ℕ
  pub params : List RegisterKind
  pub registers : ℕ
  pub result : Option Kind
  pub blocks : List BlockOutline

-- ** lists

-- the entries of a list, which may be absent
abbrev pub entries_or_none : Part → Option Data → Result (List Data) OutlineFault
entries_or_none part None = Ok []
entries_or_none part (Some d) = shaped part (option_map entries_of (as_array d))

-- no more entries than registers, if it is known how many there are
abbrev pub fit_registers : Part → Option ℕ → List Data → Result (Unit {0}) OutlineFault
fit_registers part None ds = Ok tt
fit_registers part (Some registers) ds = if nat_lt registers (length ds) then Err (bad_shape part) else Ok tt

-- the kinds of registers, with that of an entry
abbrev pub kind_step : Names → Bool → Part → ℕ → List RegisterKind → Data → Result (List RegisterKind) OutlineFault
kind_step names may_be_unset part i kinds d = do
  kind ← kind_there (entry_of part i) (register_kind_in names may_be_unset (as_str d))
  Ok (kinds ++ kind ∷ [])

-- the kinds of registers that a list gives
unfoldable pub kinds_at : Names → Bool → Part → Option ℕ → Option Data → Result (List RegisterKind) OutlineFault
kinds_at names may_be_unset part registers d = do
  ds ← entries_or_none part d
  fit ← fit_registers part registers ds
  each (kind_step names may_be_unset part) 0 [] ds

-- ** other members

-- how many registers there are
abbrev pub registers_of : Data → Option ℕ
registers_of d = option_and_then as_u64 (option_and_then as_number (get (codes "registers") d))

-- the kind of a result: none, or a kind of values
abbrev pub result_word : List GType → List ℕ → Result (Option Kind) KindFault
result_word types word = if bytes_eq word (codes "none") then Ok None else (kind_by types word (parted word) >>= λ kind. Ok (Some kind))

abbrev pub result_text : List GType → Option (List ℕ) → Result (Option Kind) KindFault
result_text types None = Err no_kind
result_text types (Some word) = result_word types word

abbrev pub result_of : List GType → Option Data → Result (Option Kind) KindFault
result_of types None = Ok None
result_of types (Some d) = result_text types (as_str d)

abbrev pub result_at : List GType → Data → Result (Option Kind) OutlineFault
result_at types d = kind_there (member_of None (codes "result")) (result_of types (get (codes "result") d))

-- the least key that is none of these
abbrev pub first_other : List (List ℕ) → Members → Option (List ℕ)
first_other keys no_members = None
first_other keys (member key d ms) = if list_any (λ k. bytes_eq k key) keys then first_other keys ms else Some key

abbrev pub refused_member : Option ℕ → Option (List ℕ) → Result (Unit {0}) OutlineFault
refused_member block None = Ok tt
refused_member block (Some key) = Err (bad_shape (member_of block key))

-- all members have these keys
abbrev pub only_at : Option ℕ → Members → List (List ℕ) → Result (Unit {0}) OutlineFault
only_at block ms keys = refused_member block (first_other keys ms)

-- ** blocks

-- the first block begins with the parameters and has no kinds of its own
abbrev pub first_entry : List RegisterKind → Option Data → Result (List RegisterKind) OutlineFault
first_entry params None = Ok params
first_entry params (Some d) = Err (bad_shape (member_of (Some 0) (codes "in")))

abbrev pub entry_at : Names → List RegisterKind → ℕ → ℕ → Data → Result (List RegisterKind) OutlineFault
entry_at names params registers block d =
    if nat_eq block 0 then first_entry params (get (codes "in") d) else kinds_at names true (member_of (Some block) (codes "in")) (Some registers) (get (codes "in") d)

-- as often as a whole number says; 0 for each that is none from 1 to 65,535, which no block may say
abbrev pub passes_of : ℤ → ℕ
passes_of n = if is_between (pos 1) (pos 65535) n then unsigned_abs n else 0

abbrev pub passes_said : Data → Option ℕ
passes_said d = option_map passes_of (whole_number d)

abbrev pub repeat_said : ℕ → Option Data → Result (Option ℕ) OutlineFault
repeat_said block None = Ok None
repeat_said block (Some d) = shaped (member_of (Some block) (codes "repeat")) (option_map Some (passes_said d))

-- how often a block is passed, which it may say in the second format
abbrev pub repeat_at : Format → ℕ → Data → Result (Option ℕ) OutlineFault
repeat_at formats.First block d = Ok None
repeat_at formats.Second block d = repeat_said block (get (codes "repeat") d)

-- the members that a block may have
abbrev pub keys_of_block : Format → List (List ℕ)
keys_of_block formats.First = codes "in" ∷ codes "code" ∷ []
keys_of_block formats.Second = codes "in" ∷ codes "repeat" ∷ codes "code" ∷ []

unfoldable pub block_at : Names → List RegisterKind → ℕ → ℕ → Data → Result BlockOutline OutlineFault
block_at names params registers block d = do
  members ← shaped (all_of (Some block)) (as_object d)
  entry ← entry_at names params registers block d
  repeat ← repeat_at names.format block d
  code ← shaped (member_of (Some block) (codes "code")) (option_map entries_of (option_and_then as_array (get (codes "code") d)))
  only ← only_at (Some block) members (keys_of_block names.format)
  Ok (record { entry = entry; repeat = repeat; code = code })

-- the blocks, with the one that an entry gives
abbrev pub block_step : Names → List RegisterKind → ℕ → ℕ → List BlockOutline → Data → Result (List BlockOutline) OutlineFault
block_step names params registers i blocks d = do
  block ← block_at names params registers i d
  Ok (blocks ++ block ∷ [])

abbrev pub some_entries : List Data → Option (List Data)
some_entries [] = None
some_entries (d ∷ ds) = Some (d ∷ ds)

-- a list that has an entry at least
abbrev pub some_entries_at : Data → List ℕ → Result (List Data) OutlineFault
some_entries_at d key = shaped (member_of None key) (option_and_then some_entries (option_map entries_of (option_and_then as_array (get key d))))

unfoldable pub blocks_at : Names → List RegisterKind → ℕ → Data → Result (List BlockOutline) OutlineFault
blocks_at names params registers d = do
  ds ← some_entries_at d (codes "blocks")
  each (block_step names params registers) 0 [] ds

-- ** the whole

abbrev pub keys_of_program : List (List ℕ)
keys_of_program = codes "name" ∷ codes "params" ∷ codes "registers" ∷ codes "result" ∷ codes "blocks" ∷ []

unfoldable pub outline_in : Names → Data → Result Outline OutlineFault
outline_in names d = do
  members ← shaped (all_of None) (as_object d)
  name ← shaped (member_of None (codes "name")) (named (option_and_then as_str (get (codes "name") d)))
  params ← kinds_at names false (member_of None (codes "params")) (registers_of d) (get (codes "params") d)
  registers ← shaped (member_of None (codes "registers")) (registers_of d)
  result ← result_at names.types d
  blocks ← blocks_at names params registers d
  only ← only_at None members keys_of_program
  Ok (record { name = name; params = params; registers = registers; result = result; blocks = blocks })

-- whether the format refuses anything of the value, its instructions apart
abbrev pub tested : Names → Data → Result (Unit {0}) OutlineFault
tested names d = do
  outline ← outline_in names d
  Ok tt

-- it refuses nothing
abbrev pub IsWellFormed : Names → Data → Type 0
IsWellFormed names d = (o : Outline) × (outline_in names d ≡ Ok o)
