-- The signals of a class or an interface (GObject manual, signals: g_signal_newv).
use Rattle.std.specs.Prelude.{ℕ, List, [], ◌∷◌, ◌++◌, length, codes, bit_or, nat_eq, nat_le, if◌then◌else◌, Option, None, Some, is_some, Result, Ok, Err}
use Rattle.std.specs.List.{flat_map}
use Rattle.std.specs.Str.{bytes_eq}
use Rattle.serde_json.specs.Data.{Data}
use Rattle.serde_json.specs.Find.{get, as_str, as_array}
use Rattle.ui_machine.specs.Outcome.{◌>>=◌}
use Rattle.ui_machine.specs.Seq.{total}
use Rattle.ui_machine.specs.Definition.Kinds.{Kind}
use Rattle.ui_machine.specs.Definition.Signals.{Accumulator, Signal, first_wins, true_handled}
use Rattle.ui_machine.specs.Definition.Types.{GType, Sort}
use Rattle.ui_machine.specs.Definition.Types as sorts
use Rattle.ui_machine.specs.Rules.Ancestry.{lineage}
use Rattle.ui_machine.specs.Words.{notify}
use Rattle.type_tree.specs.Adding.{sort_of}
use Rattle.type_tree.specs.PropertyName.{is_property_name}
use Rattle.signal_core.specs.Sources.{sources_of, number_named}
use Rattle.signal_core.specs.Table.{canonical_signal, takes_result}
use Rattle.signal_core.specs.declared.fault.SignalFault.TheVariants.{AccumulatorKind, BadName, Duplicate}
use Rattle.definition_format.specs.declared.faults.DefinitionLimit.TheVariants.{Signals}
use Rattle.definition_format.specs.Refusals.{Refusal, shape, duplicate, not_declared, limit, or_refused}
use Rattle.definition_format.specs.Document.{under, members_at, text_at, entries_at, only_at, each, at_entry}
use Rattle.definition_format.specs.Denoted.Entries.{TypeNames}
use Rattle.definition_format.specs.Denoted.Kinds.{kind_by, parted}

-- the signals of a type, where each type has these of its own: `notify`, then those of each class from the root down and of its interfaces
abbrev pub signals_by : List GType → (ℕ → List Signal) → ℕ → List Signal
signals_by types own t = notify ∷ flat_map own (sources_of types t)

-- how many signals a type and its ancestors have of their own
abbrev pub count_by : List GType → (ℕ → List Signal) → ℕ → ℕ
count_by types own t = total (λ c. length (own c)) (lineage types t)

-- ** the parts of a signal

-- the kinds so far, with the one that an entry names
unfoldable pub param_at : List ℕ → List GType → TypeNames → List Kind → Data → Result (List Kind) Refusal
param_at path types names kinds d = do
  word ← or_refused (shape path) (as_str d)
  kind ← kind_by path types names word (parted word)
  Ok (kinds ++ kind ∷ [])

-- the kinds of the arguments
unfoldable pub params_at : List ℕ → List GType → TypeNames → Data → Result (List Kind) Refusal
params_at path types names d = do
  list ← entries_at path d (codes "params")
  each (at_entry (λ entry. param_at entry types names) (under path (codes "params"))) 0 [] list

-- a result of this kind
unfoldable pub some_kind : List ℕ → List GType → TypeNames → List ℕ → Result (Option Kind) Refusal
some_kind path types names word = do
  kind ← kind_by path types names word (parted word)
  Ok (Some kind)

-- the result of a word, `none` for none
unfoldable pub result_called : List ℕ → List GType → TypeNames → Data → Result (Option Kind) Refusal
result_called path types names d = do
  word ← or_refused (shape path) (as_str d)
  if bytes_eq word (codes "none") then Ok None else some_kind path types names word

abbrev pub result_or : List ℕ → List GType → TypeNames → Option Data → Result (Option Kind) Refusal
result_or path types names None = Ok None
result_or path types names (Some d) = result_called path types names d

-- the kind of the result, if it has one
abbrev pub result_at : List ℕ → List GType → TypeNames → Data → Result (Option Kind) Refusal
result_at path types names d = result_or (under path (codes "result")) types names (get (codes "result") d)

-- a flag by its word
abbrev pub flag_named : List ℕ → Option ℕ
flag_named word =
    if bytes_eq word (codes "run-first") then Some 1 else
    (if bytes_eq word (codes "run-last") then Some 2 else
    (if bytes_eq word (codes "run-cleanup") then Some 4 else
    (if bytes_eq word (codes "detailed") then Some 16 else None)))

-- the flag of a word that may be none
abbrev pub flag_if : Option (List ℕ) → Option ℕ
flag_if None = None
flag_if (Some word) = flag_named word

-- these flags, with the one that an entry names
unfoldable pub flag_at : List ℕ → ℕ → Data → Result ℕ Refusal
flag_at path flags d = do
  flag ← or_refused (shape path) (flag_if (as_str d))
  Ok (bit_or flags flag)

-- the flags of a list of words; a word may come twice
unfoldable pub listed_flags : List ℕ → Data → Result ℕ Refusal
listed_flags path d = do
  list ← or_refused (shape path) (as_array d)
  each (at_entry flag_at path) 0 0 list

-- the class handler runs last, where nothing is said
abbrev pub flags_or : List ℕ → Option Data → Result ℕ Refusal
flags_or path None = Ok 2
flags_or path (Some d) = listed_flags path d

abbrev pub flags_at : List ℕ → Data → Result ℕ Refusal
flags_at path d = flags_or (under path (codes "flags")) (get (codes "flags") d)

-- an accumulator by its word
abbrev pub accumulator_named : List ℕ → Option Accumulator
accumulator_named word =
    if bytes_eq word (codes "true-handled") then Some true_handled else (if bytes_eq word (codes "first-wins") then Some first_wins else None)

-- an accumulator puts results of this kind together
abbrev pub fitting : List ℕ → Option Kind → Accumulator → Result (Option Accumulator) Refusal
fitting path result accumulator = if takes_result (Some accumulator) result then Ok (Some accumulator) else Err (not_declared path AccumulatorKind)

-- the accumulator of a word
unfoldable pub accumulator_called : List ℕ → Option Kind → Data → Result (Option Accumulator) Refusal
accumulator_called path result d = do
  word ← or_refused (shape path) (as_str d)
  accumulator ← or_refused (shape path) (accumulator_named word)
  fitting path result accumulator

abbrev pub accumulator_or : List ℕ → Option Kind → Option Data → Result (Option Accumulator) Refusal
accumulator_or path result None = Ok None
accumulator_or path result (Some d) = accumulator_called path result d

-- the accumulator of a signal with this result, if it has one
abbrev pub accumulator_at : List ℕ → Option Kind → Data → Result (Option Accumulator) Refusal
accumulator_at path result d = accumulator_or (under path (codes "accumulator")) result (get (codes "accumulator") d)

-- ** a signal

-- a type has room for one more, where it and its ancestors have so many of their own
abbrev pub room_for_signal : ℕ → Result (Unit {0}) Refusal
room_for_signal count = if nat_le 64 count then Err (limit Signals) else Ok tt

-- how a name is reported that a type of this sort has already
abbrev pub told_twice : List ℕ → Sort → Refusal
told_twice path sorts.class = duplicate path
told_twice path sorts.interface = not_declared path Duplicate
told_twice path sorts.enum = not_declared path Duplicate
told_twice path sorts.flags = not_declared path Duplicate

-- the name of a signal, where a type of this sort has all of these
abbrev pub new_signal : List ℕ → Sort → List Signal → List ℕ → Result (Unit {0}) Refusal
new_signal path sort has name =
    if is_property_name name then (if is_some (number_named has name) then Err (told_twice path sort) else Ok tt) else Err (not_declared path BadName)

abbrev pub keys_of_signal : List (List ℕ)
keys_of_signal = codes "name" ∷ codes "params" ∷ codes "result" ∷ codes "flags" ∷ codes "accumulator" ∷ []

-- the signal of an entry, under the name as it is written, of a type that has all of these; it and its ancestors have so many of their own
unfoldable pub signal_of_entry : List ℕ → List GType → TypeNames → (t count : ℕ) → List Signal → Data → Result Signal Refusal
signal_of_entry path types names t count has d = do
  members ← members_at path d
  room ← room_for_signal count
  name ← text_at path d (codes "name")
  new ← new_signal (under path (codes "name")) (sort_of types t) has name
  params ← params_at path types names d
  result ← result_at path types names d
  flags ← flags_at path d
  accumulator ← accumulator_at path result d
  only ← only_at path members keys_of_signal
  Ok (record { name = name; params = params; result = result; flags = flags; accumulator = accumulator })

-- each type's own signals, with one more
abbrev pub add_signal : (ℕ → List Signal) → ℕ → Signal → ℕ → List Signal
add_signal own t signal u = if nat_eq u t then own u ++ signal ∷ [] else own u

-- each type's own signals, with the one that an entry declares for a type
unfoldable pub signal_at : List ℕ → List GType → TypeNames → ℕ → (ℕ → List Signal) → Data → Result (ℕ → List Signal) Refusal
signal_at path types names t own d = do
  signal ← signal_of_entry path types names t (count_by types own t) (signals_by types own t) d
  Ok (add_signal own t (canonical_signal signal))

-- and with all of an entry
unfoldable pub signals_at : List ℕ → List GType → TypeNames → ℕ → (ℕ → List Signal) → Data → Result (ℕ → List Signal) Refusal
signals_at path types names t own d = do
  list ← entries_at path d (codes "signals")
  each (at_entry (λ entry. signal_at entry types names t) (under path (codes "signals"))) 0 own list
