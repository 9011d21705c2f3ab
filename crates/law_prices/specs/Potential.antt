-- The potential: what the steps to come may cost at most, as a sum over the agenda and the objects.
use Rattle.std.specs.Prelude.{ℕ, ◌+◌, ◌-◌, ◌*◌, Bool, cond, nat_eq, List, [], ◌∷◌, drop, Option, None, Some, slice_get}
use Rattle.std.specs.List.{flat_map}
use Rattle.ui_machine.specs.Definition.{Definition}
use Rattle.ui_machine.specs.Definition.Lookups.{program_at}
use Rattle.ui_machine.specs.Definition.Places.{Bind}
use Rattle.ui_machine.specs.Definition.Programs.{Block, Program}
use Rattle.ui_machine.specs.Seq.{read, total}
use Rattle.ui_machine.specs.State.Config.{Config, World}
use Rattle.ui_machine.specs.State.Handlers.{Handler, handler_of}
use Rattle.ui_machine.specs.State.Objects.{Object}
use Rattle.ui_machine.specs.State.Sources.{Source, source_of}
use Rattle.ui_machine.specs.State.Tasks.{Answering, Beginning, Building, Calling, Constructing, ConstructStep, Due, Emission, Emitting, Frame, Handling, Item, Notifying, PlanEntry, Running, Setting, Task, Thawing, Transferring, Unsetting, class_handler, handler, makes, adopts, forwards, binds, connects, runs, sets, thaws}
use Rattle.ui_machine.specs.State.Tasks as config
use Rattle.law_typing.specs.Good.Builds.{is_for_builder}
use Rattle.law_typing.specs.Good.DueCosts.{unsets}
use Rattle.law_typing.specs.Good.Standing.{Standing, standing}
use Rattle.law_typing.specs.Graph.{graph, next_of}
use Rattle.law_typing.specs.Graph.Channels.{Channel, is_pair, property, signal, target_of}
use Rattle.law_typing.specs.Graph.Channels as channels
use Rattle.law_typing.specs.Graph.Costs.{before_last}
use Rattle.law_typing.specs.Graph.Tables.{Tables, entry, greatest}
use Rattle.law_prices.specs.Asked.{asked_by}
use Rattle.law_prices.specs.Asked as asked
use Rattle.law_prices.specs.Deeds.{PriceList}
use Rattle.law_prices.specs.Deeds as deeds
use Rattle.law_prices.specs.Prices.{answer_price, begun_price, block_prices, by_number, carry_price, ending_price, first_price, from_block, handled_price, item_toll, late_price, node_price, over_price, pair_price, price, price_of, put_price, sum}

-- what the agenda reads of a world
pub record Seen : Type 0 where
  pub stands : Standing  -- which object is at which place
  pub handlers : List Handler
  pub sources : List Source

abbrev pub seen : World → Seen
seen w = record { stands = standing w.objects; handlers = w.handlers; sources = w.sources }

-- ** what is due

-- whether the binding of this number is not to be set free below, so that something may go over it
abbrev pub is_free : List Task → ℕ → Bool
is_free below n = nat_eq (total (unsets n) below) 0

-- over a pair that is free
abbrev pub due_pair : Definition → PriceList → Tables → List Task → Channel → ℕ → Bind → ℕ
due_pair d P t below c n b = cond (is_free below n) (pair_price d P t c n b) 0

-- a set or a notification that is due at a channel: the channel by itself, and over its pair where that is free
abbrev pub due_price : Definition → PriceList → Tables → List Task → Channel → ℕ
due_price d P t below c = entry t.channels c + by_number (due_pair d P t below c) 0 d.bindings

-- a transfer over a pair ends at the other end
abbrev pub transfer_over : Definition → PriceList → Tables → List Task → ℕ → Channel → ℕ
transfer_over d P t below n to = cond (is_free below n) (carry_price d P n to + entry t.channels to) 0

-- a transfer that is due
abbrev pub transfer_price : Definition → PriceList → Tables → List Task → ℕ → Bool → Bind → ℕ
transfer_price d P t below n back b =
    cond (is_pair b) (transfer_over d P t below n (cond back (channels.source_of b) (target_of b)))
    (carry_price d P n (target_of b) + node_price d P t (target_of b))

-- that of a binding by its number; one of no binding is a step all the same
abbrev pub transfer_by : Definition → PriceList → Tables → List Task → ℕ → Bool → Option Bind → ℕ
transfer_by d P t below n back None = P (deeds.transfer n)
transfer_by d P t below n back (Some b) = transfer_price d P t below n back b

-- ** emissions

-- a turn: a handler that is gone costs no program
abbrev pub turn_price : Definition → PriceList → Tables → Seen → List Task → (place signal : ℕ) → PlanEntry → ℕ
turn_price d P t w below place number (class_handler program cleanup) = handled_price P t place number program
turn_price d P t w below place number (handler n) =
    P (deeds.turn place number) + price_of (λ (h : Handler). begun_price P t h.program) (handler_of n w.handlers)
turn_price d P t w below place number (config.transfer n back) =
    P (deeds.turn place number) + transfer_by d P t below n back (slice_get d.bindings n)

-- the end of an emission, of which an event may be told
abbrev pub told_price : PriceList → Emission → ℕ → ℕ
told_price P e place = cond e.by_event (P (deeds.tell place e.signal)) 0

-- ** programs

-- the passes that are left of a block, the instructions that are left, and the dearest of the next blocks
abbrev pub block_left : Definition → PriceList → Tables → Frame → Program → Block → ℕ
block_left d P t f p b =
    (f.passes - 1) * sum (before_last (block_prices d P t p f.program f.block b))
    + sum (drop f.at (block_prices d P t p f.program f.block b))
    + greatest (from_block d P t p f.program) (flat_map next_of b.code)

-- the rest of a program
abbrev pub running_price : Definition → PriceList → Tables → Frame → ℕ
running_price d P t f =
    price_of (λ (p : Program). price_of (block_left d P t f p) (slice_get p.blocks f.block)) (program_at d f.program)

-- ** constructions and the build

-- a step of a construction; what it sets waits for the thaw
abbrev pub construct_price : Definition → PriceList → Tables → (place : ℕ) → ConstructStep → ℕ
construct_price d P t place (sets slot v) =
    P (deeds.construct place) + (put_price d P (property place slot) + node_price d P t (property place slot))
construct_price d P t place (runs program) = P (deeds.construct place) + begun_price P t program
construct_price d P t place thaws = P (deeds.construct place) + P deeds.thawed

-- what an item raises and carries over, and the end of the object that it makes
abbrev pub item_raises : Definition → PriceList → Tables → Item → ℕ
item_raises d P t (makes place) = total (node_price d P t) (read [] (graph d).makings place) + ending_price P place
item_raises d P t (adopts place) = 0
item_raises d P t (forwards place slot to) = node_price d P t (property place slot)
item_raises d P t (binds number) = price_of (first_price d P t number) (slice_get d.bindings number)
item_raises d P t (connects place number) = 0

-- ** tasks

-- a task above these
abbrev pub task_price : Definition → PriceList → Tables → Seen → (below : List Task) → Task → ℕ
task_price d P t w below (Setting id slot v) =
    price_of (λ place. put_price d P (property place slot) + due_price d P t below (property place slot)) (w.stands id)
task_price d P t w below (Notifying id slot) = price_of (λ place. due_price d P t below (property place slot)) (w.stands id)
task_price d P t w below (Beginning e) =
    price_of (λ place. entry t.channels (signal place e.signal) + told_price P e place) (w.stands e.object)
task_price d P t w below (Emitting e turns) =
    price_of (λ place. total (turn_price d P t w below place e.signal) turns + (P (deeds.end place e.signal) + told_price P e place))
    (w.stands e.object)
task_price d P t w below (Transferring number back) = transfer_by d P t below number back (slice_get d.bindings number)
task_price d P t w below (Unsetting number) = P (deeds.free number)
task_price d P t w below (Thawing id slots) =
    price_of (λ place. total (λ slot. late_price d P (property place slot) + due_price d P t below (property place slot)) slots) (w.stands id)
    + P deeds.thawed
task_price d P t w below (Running frame) = running_price d P t frame
task_price d P t w below (Answering number) = 0
task_price d P t w below (Calling call) = price_of (λ place. answer_price d P place call.method) (w.stands call.object)
task_price d P t w below (Constructing id steps held) =
    price_of (λ place. total (construct_price d P t place) steps + P (deeds.construct place)) (w.stands id)
task_price d P t w below (Building items) = total (λ i. item_toll d P i + item_raises d P t i) items + P deeds.built
task_price d P t w below (Handling request) = price d P t (asked_by request)
task_price d P t w below (Due number) = price_of (λ (s : Source). price d P t (asked.source s.program)) (source_of number w.sources)

abbrev pub agenda_price : Definition → PriceList → Tables → Seen → List Task → ℕ
agenda_price d P t w [] = 0
agenda_price d P t w (task ∷ below) = task_price d P t w below task + agenda_price d P t w below

-- ** objects

-- A notification that waits, where the builder is making so many objects. While it makes one nothing goes over a pair, and all of it is
-- paid; later the thaw pays for the way over.
abbrev pub queued_price : Definition → PriceList → Tables → (making place slot : ℕ) → ℕ
queued_price d P t making place slot =
    late_price d P (property place slot)
    + (entry t.channels (property place slot) + cond (nat_eq making 0) 0 (over_price d P t (property place slot)))

-- an object: what waits in its queue, its dispose if it is not disposed, and its end
abbrev pub object_price : Definition → PriceList → Tables → (making : ℕ) → Object → ℕ
object_price d P t making o =
    total (queued_price d P t making o.place) o.queue + (cond o.disposed 0 (P (deeds.dispose o.place)) + P (deeds.final o.place))

-- what floats is let go
abbrev pub floating_price : Definition → PriceList → Standing → List ℕ → ℕ
floating_price d P s floating = total (λ id. price_of (λ place. P (deeds.settle place)) (s id)) floating

-- ** the whole

abbrev pub potential : Definition → PriceList → Tables → Config → ℕ
potential d P t c =
    agenda_price d P t (seen c.world) c.agenda
    + total (price_of (object_price d P t (total is_for_builder c.agenda))) c.world.objects
    + floating_price d P (standing c.world.objects) c.world.floating
