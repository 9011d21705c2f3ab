-- The class handlers of all classes while those of one are read, with the names of the signals that these are for.
use Rattle.std.specs.Prelude.{ℕ, Bool, true, List, if◌then◌else◌, is_some, Result, Ok}
use Rattle.std.specs.BTreeSet.{contains_text}
use Rattle.std.specs.Str.{bytes_eq}
use Rattle.serde_json.specs.Data.{Data}
use Rattle.serde_json.specs.Find.{as_str}
use Rattle.ui_machine.specs.Outcome.{◌>>=◌}
use Rattle.ui_machine.specs.Definition.Names.{canonical}
use Rattle.ui_machine.specs.Definition.Signals.{ClassHandler}
use Rattle.ui_machine.specs.Rules.EmissionPlan.{handler_in}
use Rattle.signal_core.specs.Table.{named_of}
use Rattle.definition_format.specs.Refusals.{Refusal, shape, or_refused}
use Rattle.definition_format.specs.Document.{nth}
use Rattle.definition_format.specs.Denoted.Entries.{ProgramNames}
use Rattle.definition_format.specs.Denoted.Enums.{unless_there}
use Rattle.definition_format.specs.Denoted.ClassHandlers.{pair_at, program_at, handler_for, add_handler}
use Rattle.read_types.specs.declared.handler_drafts.HandlerDraft.{HandlerDraft}

pub record HandlerParts : Type 0 where
  pub handlers : ℕ → List ClassHandler
  pub has : List ℕ → Bool  -- whether the class has one for the signal of a canonical name

-- each type's own class handlers, with the names of those of a class
abbrev pub parts_of : ℕ → (ℕ → List ClassHandler) → HandlerParts
parts_of t own = record { handlers = own; has = λ name. is_some (handler_in (own t) name) }

-- one class handler of the class more
abbrev pub with_handler : HandlerParts → ℕ → ClassHandler → HandlerParts
with_handler p t h = record { handlers = add_handler p.handlers t h; has = λ name. if bytes_eq h.signal name then true else p.has name }

-- the class handler of an entry, whose name is looked up among those of the others
unfoldable pub handler_part_in : List ℕ → ProgramNames → (List ℕ → Bool) → Data → Result ClassHandler Refusal
handler_part_in path programs has d = do
  parts ← pair_at path d
  signal ← or_refused (shape (nth path 0)) (as_str parts.0)
  new ← unless_there (nth path 0) (has (canonical signal))
  program ← program_at (nth path 1) programs parts.1
  Ok (handler_for signal program)

-- the class handlers with the one that an entry gives to a class
unfoldable pub handler_part_at : List ℕ → ProgramNames → ℕ → HandlerParts → Data → Result HandlerParts Refusal
handler_part_at path programs t p d = do
  handler ← handler_part_in path programs p.has d
  Ok (with_handler p t handler)

-- what the code keeps
abbrev pub parts_seen : HandlerDraft → HandlerParts
parts_seen d = record { handlers = named_of d.signals.handlers; has = λ name. contains_text d.named name }
