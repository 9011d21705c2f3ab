-- What is due may cost so many counted steps, and go so deep.
use Rattle.std.specs.Prelude.{ℕ, suc, ◌+◌, Bool, true, false, cond, ◌&&◌, nat_eq, List, [], ◌∷◌, Option, None, Some, slice_get}
use Rattle.ui_machine.specs.Seq.{total}
use Rattle.ui_machine.specs.Definition.{Definition}
use Rattle.ui_machine.specs.Definition.Places.{Bind}
use Rattle.ui_machine.specs.State.Handlers.{Handler, handler_of}
use Rattle.ui_machine.specs.State.Tasks.{PlanEntry, class_handler, handler, Task, Unsetting}
use Rattle.ui_machine.specs.State.Tasks as config
use Rattle.law_typing.specs.Graph.Channels.{Channel, property, same_channel, is_pair, source_of, target_of}
use Rattle.law_typing.specs.Graph.{graph}
use Rattle.law_typing.specs.Graph.Tables.{Tables, entry, of_program}
use Rattle.law_typing.specs.Graph.Costs.{other_end, node_cost}
use Rattle.law_typing.specs.Graph.Depths.{raised_of, depth_within_if}
use Rattle.law_typing.specs.Good.Standing.{View}

-- the rest of a transfer sets its binding free
abbrev pub unsets : ℕ → Task → ℕ
unsets number (Unsetting n) = cond (nat_eq n number) 1 0
unsets number _ = 0

-- whether a binding has the channel as an end
abbrev pub has_end : Channel → Bind → Bool
has_end c b = cond (same_channel (source_of b) c) true (same_channel (target_of b) c)

-- whether the binding of this number is of a pair with the channel, and is still to be set free below
abbrev pub is_setting_at : List Task → Channel → ℕ → Bind → Bool
is_setting_at below c number b = (is_pair b && has_end c b) && cond (nat_eq (total (unsets number) below) 0) false true

-- whether one of these bindings is so, where the first has this number
abbrev pub is_setting_from : List Task → Channel → ℕ → List Bind → Bool
is_setting_from below c number [] = false
is_setting_from below c number (b ∷ bindings) = cond (is_setting_at below c number b) true (is_setting_from below c (suc number) bindings)

-- whether a binding of a pair is still to be set free below: then nothing comes back over it
abbrev pub is_setting_below : Definition → List Task → Channel → Bool
is_setting_below d below c = is_setting_from below c 0 d.bindings

-- the way over to the other end of a pair, and the other end
abbrev pub over_cost : Tables → Option Channel → ℕ
over_cost costs None = 0
over_cost costs (Some other) = 1 + entry costs.channels other

-- What a set or a notification that is due may cost: the channel's own part, and where it is in a pair the way over and the other end,
-- but for a pair that is setting below. The whole node would be too much: a transfer pays for the other end alone.
abbrev pub due_cost : Definition → Tables → List Task → Channel → ℕ
due_cost d costs below c = entry costs.channels c + cond (is_setting_below d below c) 0 (over_cost costs (other_end (graph d) c))

-- what a transfer may cost that is due: for a pair its step and the other end, unless the pair is setting below
abbrev pub transfer_cost : Definition → Tables → List Task → Bool → Option Bind → ℕ
transfer_cost d costs below back None = 0
transfer_cost d costs below back (Some b) =
    cond (is_pair b)
    (cond (is_setting_below d below (source_of b)) 0 (1 + entry costs.channels (cond back (source_of b) (target_of b))))
    (1 + node_cost (graph d) costs (target_of b))

-- How deep what is due at a channel may go: in a pair that is setting below only the emission here and what runs in it.
abbrev pub due_depth : Definition → Tables → List Task → Channel → ℕ
due_depth d depths below c =
    cond (is_setting_below d below c) (1 + depth_within_if depths (raised_of (graph d) c)) (entry depths.channels c)

-- how deep a transfer that is due may go: over a pair it goes no further than the other end
abbrev pub transfer_depth : Definition → Tables → List Task → Bool → Option Bind → ℕ
transfer_depth d depths below back None = 0
transfer_depth d depths below back (Some b) =
    cond (is_pair b)
    (cond (is_setting_below d below (source_of b)) 0
    (1 + depth_within_if depths (raised_of (graph d) (cond back (source_of b) (target_of b)))))
    (entry depths.channels (target_of b))

-- what a turn of an emission may cost; a handler that is gone costs nothing
abbrev pub turn_cost : Definition → Tables → View → List Task → PlanEntry → ℕ
turn_cost d costs w below (class_handler program cleanup) = of_program costs program
turn_cost d costs w below (handler number) = of (handler_of number w.handlers)
  where
    of : Option Handler → ℕ
    of None = 0
    of (Some h) = of_program costs h.program
turn_cost d costs w below (config.transfer number back) = transfer_cost d costs below back (slice_get d.bindings number)

-- how deep a turn is: a program's frames, or those of what a transfer sets
abbrev pub turn_depth : Definition → Tables → View → List Task → PlanEntry → ℕ
turn_depth d depths w below (class_handler program cleanup) = of_program depths program
turn_depth d depths w below (handler number) = of (handler_of number w.handlers)
  where
    of : Option Handler → ℕ
    of None = 0
    of (Some h) = of_program depths h.program
turn_depth d depths w below (config.transfer number back) = transfer_depth d depths below back (slice_get d.bindings number)

-- What a queued notification carries of what it may cost, where the builder is making so many objects. While it makes one the whole node:
-- then nothing goes over a pair. Later the channel's own part alone: the thaw pays for the node of each paired property.
abbrev pub queued_cost : Definition → Tables → (making : ℕ) → (place slot : ℕ) → ℕ
queued_cost d costs making place slot =
    cond (nat_eq making 0) (entry costs.channels (property place slot)) (node_cost (graph d) costs (property place slot))
