-- Handlers: connected, disconnected, blocked (GObject manual, signals: g_signal_connect_data, g_signal_handler_block).
use Rattle.std.specs.Prelude.{ℕ, suc, ◌-◌, ◌+◌, Bool, true, false, cond, not, ◌&&◌, ◌||◌, nat_eq, nat_lt, min, List, [], ◌∷◌, ◌++◌, length, map, codes, Option, None, Some, option_map, Ok, is_some}
use Rattle.std.specs.List.{filter}
use Rattle.ui_machine.specs.declared.arm.Arm.TheVariants as arms
use Rattle.ui_machine.specs.Definition.Names.{canonical, place_named}
use Rattle.ui_machine.specs.Definition.Properties.{has_flags}
use Rattle.ui_machine.specs.Definition.{Definition}
use Rattle.ui_machine.specs.Definition.Signals.{Signal}
use Rattle.ui_machine.specs.Definition.Lookups.{class_of, slot_of}
use Rattle.ui_machine.specs.Output.Lines as lines
use Rattle.ui_machine.specs.State.Objects.{Objects, living, object_at}
use Rattle.ui_machine.specs.State.Handlers.{Handler}
use Rattle.ui_machine.specs.State.Config.{World, said}
use Rattle.ui_machine.specs.Outcome.{After, Answer, ◌>>=◌, only_if}
use Rattle.ui_machine.specs.Rules.EmissionPlan.{signal_at}
use Rattle.ui_machine.specs.Rules.Sets.{is_disposed}

-- the number of the signal that a name names, in either spelling
abbrev pub signal_number : Definition → ℕ → List ℕ → Option ℕ
signal_number d class name = place_named (λ (s : Signal). s.name) (class_of d class).signals (canonical name)

-- ** details (g_signal_connect with `signal::detail`)

-- whether a signal takes a detail: the signal is detailed, and a detail of `notify` names a property
abbrev pub may_stand : Definition → (class number : ℕ) → Signal → Option (List ℕ) → Bool
may_stand d class number s None = true
may_stand d class number s (Some detail) = has_flags 16 s.flags && (not (nat_eq number 0) || is_some (slot_of d class detail))

-- a detail of `notify` is a property's name, in its canonical spelling; another is kept as it is written
abbrev pub detail_for : ℕ → Option (List ℕ) → Option (List ℕ)
detail_for signal detail = cond (nat_eq signal 0) (option_map canonical detail) detail

-- a detail as a signal of a class keeps it, by the signal's number
unfoldable pub detail_at : Definition → (class number : ℕ) → Option (List ℕ) → Answer (Option (List ℕ))
detail_at d class number detail = do
  s ← signal_at d class number
  only_if (may_stand d class number s detail) arms.Code (Ok (detail_for number detail))

-- a detail as a signal of an object keeps it
unfoldable pub detail_in : Definition → World → (id number : ℕ) → Option (List ℕ) → Answer (Option (List ℕ))
detail_in d w id number detail = do
  o ← object_at w.objects id
  detail_at d o.class number detail

-- ** connecting

-- the greatest number of a handler
abbrev pub greatest_handler : ℕ
greatest_handler = 18446744073709551615

-- whether the data object is disposed
abbrev pub is_disposed_data : Objects → Option ℕ → Bool
is_disposed_data os None = false
is_disposed_data os (Some id) = is_disposed (living os id)

-- whether a connection would be to, or with data of, a disposed object
abbrev pub is_too_late : Objects → ℕ → Option ℕ → Bool
is_too_late os id arg = is_disposed (living os id) || is_disposed_data os arg

-- what a handler is connected with: an object and its signal by number, the detail as the signal keeps it, and the data object
pub record Connection : Type 0 where
  pub object : ℕ
  pub signal : ℕ
  pub detail : Option (List ℕ)
  pub program : ℕ
  pub after : Bool
  pub swapped : Bool
  pub arg : Option ℕ
  pub by_code : Bool

-- the handler of a connection, which nothing blocks
abbrev pub new_handler : ℕ → Connection → Handler
new_handler number c = record {
  number = number;
  object = c.object;
  signal = c.signal;
  detail = c.detail;
  program = c.program;
  after = c.after;
  swapped = c.swapped;
  arg = c.arg;
  blocks = 0;
  by_code = c.by_code;
}

-- the world with one more handler, under the next number
abbrev pub with_handler : World → Connection → World
with_handler w c = record w { handlers = w.handlers ++ new_handler (suc w.last_handler) c ∷ []; last_handler = suc w.last_handler }

-- the handlers that bytecode connected to a signal of an object
abbrev pub by_code_to : ℕ → ℕ → Handler → Bool
by_code_to id signal h = h.by_code && (nat_eq h.object id && nat_eq h.signal signal)

-- whether bytecode may connect one more handler, where so many are still to be connected by the builder
abbrev pub has_room_for_handler : Definition → World → ℕ → ℕ → ℕ → Bool
has_room_for_handler d w to_come id signal =
    nat_lt (length (filter (by_code_to id signal) w.handlers)) d.most_handlers && nat_lt (w.last_handler + to_come) greatest_handler

-- a connection by bytecode: on a disposed object none, past the limit none with its line
abbrev pub connected : Definition → World → ℕ → Connection → After World Bool
connected d w to_come c =
    cond (is_too_late w.objects c.object c.arg) (record { state = w; answer = false })
    (cond (has_room_for_handler d w to_come c.object c.signal) (record { state = with_handler w c; answer = true })
    (record { state = said d w (lines.limit (codes "connect")); answer = false }))

-- ** all handlers of a program on an object

-- whether a handler is on the object and runs the program
abbrev pub is_on : ℕ → ℕ → Handler → Bool
is_on id program h = nat_eq h.object id && nat_eq h.program program

-- they are disconnected
abbrev pub disconnected : World → ℕ → ℕ → World
disconnected w id program = record w { handlers = filter (λ h. not (is_on id program h)) w.handlers }

-- the greatest count of blocks
abbrev pub most_blocks : ℕ
most_blocks = 18446744073709551615

-- a handler with one more block
abbrev pub blocked : Handler → Handler
blocked h = record h { blocks = min (suc h.blocks) most_blocks }

-- a handler that is not blocked stays as it is
abbrev pub unblocked : Handler → Handler
unblocked h = record h { blocks = h.blocks - 1 }

-- each handler on the object that runs the program is changed
abbrev pub with_handlers_on : (Handler → Handler) → World → ℕ → ℕ → World
with_handlers_on change w id program = record w { handlers = map (λ h. cond (is_on id program h) (change h) h) w.handlers }
