-- What a list of handlers denotes, and what its calls do.
use Rattle.std.specs.List.{filter}
use Rattle.std.specs.Prelude.{Bool, List, [], cond, count_by, map, nat_lt, not, option_map, string_bytes, suc, ℕ, ◌&&◌, ◌+◌, ◌++◌, ◌-◌, ◌<◌, ◌≤◌, ◌∷◌}
use Rattle.ui_machine.specs.Rules.Connections.{blocked, by_code_to, greatest_handler, is_on, new_handler, unblocked}
use Rattle.ui_machine.specs.Rules.Connections as machine
use Rattle.ui_machine.specs.Rules.Disposal.{is_of_object}
use Rattle.ui_machine.specs.State.Handlers.{Handler}
use Rattle.ui_machine.specs.declared.ids.ObjectId.{ObjectId}
use Rattle.signal_core.specs.declared.connection.Connection.{Connection}

pub record Connected : Type 0 where
  pub handlers : List Handler  -- in order of connection
  pub last : ℕ  -- the number of the last one connected; the first is 1
  pub to_come : ℕ  -- how many the builder is still to connect
  pub most : ℕ  -- how many bytecode may connect to one signal of an object

-- what a handler is connected with, as the machine has it
abbrev pub connection_of : Connection → machine.Connection
connection_of c = record {
  object = c.object.0;
  signal = c.signal;
  detail = option_map (λ detail. string_bytes detail) c.detail;
  program = c.program;
  after = c.after;
  swapped = c.swapped;
  arg = option_map (λ (id : ObjectId). id.0) c.data;
  by_code = c.by_code;
}

-- a handler under its number, with so many blocks
abbrev pub handler_of : (number blocks : ℕ) → Connection → Handler
handler_of number blocks c = record (new_handler number (connection_of c)) { blocks = blocks }

-- numbers rise, from above this one up to the last at most
abbrev pub Numbered : (above : ℕ) → List Handler → (last : ℕ) → Type 0
Numbered above [] last = above ≤ last
Numbered above (h ∷ hs) last = (above < h.number) × Numbered h.number hs last

-- no handlers
abbrev pub none_connected : (most to_come : ℕ) → Connected
none_connected most to_come = record { handlers = []; last = 0; to_come = to_come; most = most }

-- ** connecting

-- the numbers that the builder's handlers are to get are there
abbrev pub HasNumbers : (last to_come : ℕ) → Type 0
HasNumbers last to_come = last + to_come ≤ greatest_handler

-- whether bytecode may connect one more to a signal of an object: fewer than the most are there, and a number is left that the builder
-- does not need
abbrev pub has_room_for_code : Connected → (object signal : ℕ) → Bool
has_room_for_code h object signal =
    nat_lt (count_by (by_code_to object signal) h.handlers) h.most && nat_lt (h.last + h.to_come) greatest_handler

-- whether one more may be connected; the builder only needs a number
abbrev pub has_room : Connected → machine.Connection → Bool
has_room h c = cond c.by_code (has_room_for_code h c.object c.signal) (nat_lt h.last greatest_handler)

-- the list with one more, under the next number
abbrev pub with_connection : Connected → machine.Connection → Connected
with_connection h c = record h {
  handlers = h.handlers ++ new_handler (suc h.last) c ∷ [];
  last = suc h.last;
  to_come = cond c.by_code h.to_come (h.to_come - 1);
}

-- ** all handlers of a program on an object

-- they are disconnected
abbrev pub without_matched : (object program : ℕ) → List Handler → List Handler
without_matched object program hs = filter (λ h. not (is_on object program h)) hs

-- each of them is blocked once more
abbrev pub with_blocked : (object program : ℕ) → List Handler → List Handler
with_blocked object program hs = map (λ h. cond (is_on object program h) (blocked h) h) hs

-- each of them is blocked once less
abbrev pub with_unblocked : (object program : ℕ) → List Handler → List Handler
with_unblocked object program hs = map (λ h. cond (is_on object program h) (unblocked h) h) hs

-- ** an object that goes

-- what is on the object or has it as data is disconnected
abbrev pub without_object : ℕ → List Handler → List Handler
without_object object hs = filter (λ h. not (is_of_object object h)) hs
