-- What a dispatch may cost at most by a price list. The equations are those of costs, with other constants: each node of the graph has the
-- edges that it has there.
use Rattle.std.specs.Prelude.{◌≡◌, ℕ, suc, ◌+◌, ◌-◌, ◌*◌, Bool, cond, ◌&&◌, ◌||◌, not, List, [], ◌∷◌, length, map, Option, None, Some, option_and_then, slice_get}
use Rattle.std.specs.List.{filter_map, flat_map}
use Rattle.ui_machine.specs.Seq.{read, total, listed}
use Rattle.ui_machine.specs.Definition.{Definition}
use Rattle.ui_machine.specs.Definition.Lookups.{place_at, place_of, slot_of, specs_of}
use Rattle.ui_machine.specs.Definition.Names.{place_named}
use Rattle.ui_machine.specs.Definition.Places.{Bind, Place}
use Rattle.ui_machine.specs.Definition.Properties.{has_flags}
use Rattle.ui_machine.specs.Definition.Programs.{Block, Instruction, Program, passes_in}
use Rattle.ui_machine.specs.Definition.Programs as words
use Rattle.ui_machine.specs.Definition.Signals.{Method, Shape}
use Rattle.ui_machine.specs.Rules.Ancestry.{is_a}
use Rattle.ui_machine.specs.Rules.Build.{build_items}
use Rattle.ui_machine.specs.Rules.Construction.{initially_unowned, nearest_shape}
use Rattle.ui_machine.specs.State.Tasks.{Item, makes, adopts, forwards, binds, connects}
use Rattle.law_typing.specs.Graph.{Raised, Start, channel_over, graph, next_of, nothing, raises, set_from, start_of, thaws}
use Rattle.law_typing.specs.Graph as graphs
use Rattle.law_typing.specs.Graph.Channels.{Channel, constructed, constructed_at, is_channel, is_pair, property, same_channel, signal, source_of, target_of}
use Rattle.law_typing.specs.Graph.Costs.{before_last, no_tables, only_last}
use Rattle.law_typing.specs.Graph.Tables.{Tables, entry, greatest, of_program, same_tables, settled}
use Rattle.law_typing.specs.Rules.RegisterKinds.{Kinds, class_at, kind_in, places}
use Rattle.law_typing.specs.Rules.Typing.{after}
use Rattle.law_prices.specs.Asked.{Asked}
use Rattle.law_prices.specs.Asked as asked
use Rattle.law_prices.specs.Deeds.{PriceList}
use Rattle.law_prices.specs.Deeds as deeds

-- the sum over the bindings of f, which is given the number of each, where the first has this one
abbrev pub by_number : (ℕ → Bind → ℕ) → ℕ → List Bind → ℕ
by_number f n [] = 0
by_number f n (b ∷ bindings) = f n b + by_number f (suc n) bindings

-- the price of something, 0 of nothing
abbrev pub price_of : {A : Type 0} → (A → ℕ) → Option A → ℕ
price_of f None = 0
price_of f (Some x) = f x

-- ** sets and what they raise

-- the price of a due set, whatever comes of it
abbrev pub set_price : PriceList → Channel → ℕ
set_price P (property place slot) = P (deeds.set place slot)
set_price P c = 0

-- the price of a name that waits for a thaw
abbrev pub name_price : PriceList → Channel → ℕ
name_price P (property place slot) = P (deeds.name place slot)
name_price P c = 0

-- what a notification costs more that waits for a thaw; there is none of what is no channel
abbrev pub late_price : Definition → PriceList → Channel → ℕ
late_price d P c = cond (is_channel d c) (name_price P c) 0

-- a due set, and that its notification waits, without the notification
abbrev pub put_price : Definition → PriceList → Channel → ℕ
put_price d P c = set_price P c + late_price d P c

-- a binding carries a value over to a property, sets it, and no longer sets; without the notification
abbrev pub carry_price : Definition → PriceList → (binding : ℕ) → (to : Channel) → ℕ
carry_price d P n to = P (deeds.transfer n) + P (deeds.free n) + put_price d P to

-- ** nodes

-- over the binding from one end to the other, and what runs there, if the channel is that end
abbrev pub way_price : Definition → PriceList → Tables → Channel → ℕ → (from to : Channel) → ℕ
way_price d P t c n from to = cond (same_channel from c) (carry_price d P n to + entry t.channels to) 0

-- over a pair, if the channel is an end of it
abbrev pub pair_price : Definition → PriceList → Tables → Channel → ℕ → Bind → ℕ
pair_price d P t c n b =
    cond (is_pair b) (way_price d P t c n (source_of b) (target_of b) + way_price d P t c n (target_of b) (source_of b)) 0

-- over the pairs that a channel is in
abbrev pub over_price : Definition → PriceList → Tables → Channel → ℕ
over_price d P t c = by_number (pair_price d P t c) 0 d.bindings

-- what is raised at a channel: it by itself, and over its pair
abbrev pub node_price : Definition → PriceList → Tables → Channel → ℕ
node_price d P t c = entry t.channels c + over_price d P t c

-- a channel that waited for a thaw
abbrev pub waited_price : Definition → PriceList → Tables → Channel → ℕ
waited_price d P t c = late_price d P c + node_price d P t c

-- ** objects

-- an object that floats is let go in the end
abbrev pub settle_price : Definition → PriceList → ℕ → ℕ
settle_price d P place = price_of (λ class. cond (is_a d.types class initially_unowned) (P (deeds.settle place)) 0) (class_at d place)

-- the end of an object, with its dispose
abbrev pub ending_price : PriceList → ℕ → ℕ
ending_price P place = P (deeds.final place) + P (deeds.dispose place)

-- the steps of a construction: its sets, its programs, the thaw, and its end
abbrev pub construction_toll : Definition → PriceList → ℕ → Place → ℕ
construction_toll d P place p =
    total (λ c. P (deeds.construct place) + put_price d P c) (set_from place p.given 0 (specs_of d p.class))
    + total (λ q. P (deeds.construct place)) (constructed_at d place)
    + (P (deeds.construct place) + P deeds.thawed + P (deeds.construct place))

-- an object of a place is made, without what its construction raises
abbrev pub making_toll : Definition → PriceList → ℕ → ℕ
making_toll d P place =
    price_of (λ (p : Place). P (deeds.make place) + (construction_toll d P place p + settle_price d P place)) (place_at d place)

-- and it ends, too; the number after the last one stands for an object of no place
abbrev pub new_toll : Definition → PriceList → Option ℕ → ℕ
new_toll d P None = ending_price P (length d.places)
new_toll d P (Some place) = making_toll d P place + ending_price P place

-- ** programs

-- the channels over some places, also those that are not there
abbrev pub all_over : Definition → (ℕ → Option ℕ) → (ℕ → ℕ → Channel) → List ℕ → List Channel
all_over d number_in channel ps = filter_map (channel_over d number_in channel) ps

-- the shape of the objects of a place
abbrev pub shape_at : Definition → ℕ → Option ℕ
shape_at d place = option_and_then (nearest_shape d) (class_at d place)

-- the number of a shape's method of this name
abbrev pub method_named : Definition → List ℕ → ℕ → Option ℕ
method_named d name shape =
    option_and_then (λ (s : Shape). place_named (λ (m : Method). m.name) s.methods name) (slice_get d.shapes shape)

-- the number of a shape; that after the last one stands for none
abbrev pub shape_number : Definition → Option ℕ → ℕ
shape_number d None = length d.shapes
shape_number d (Some shape) = shape

-- what the peer of a place's object is asked for by a method's number
abbrev pub answer_price : Definition → PriceList → (place method : ℕ) → ℕ
answer_price d P place method = P (deeds.answer (shape_number d (shape_at d place)) method)

-- and by its name
abbrev pub call_price : Definition → PriceList → List ℕ → ℕ → ℕ
call_price d P name place =
    price_of (λ shape. price_of (λ method. P (deeds.answer shape method)) (method_named d name shape)) (shape_at d place)

-- what an instruction costs beside itself and what it may raise
abbrev pub toll : Definition → PriceList → Kinds → Instruction → ℕ
toll d P ks (words.set object name from) =
    greatest (put_price d P) (all_over d (λ class. slot_of d class name) property (places d (kind_in ks object)))
toll d P ks (words.notify object name) =
    greatest (late_price d P) (all_over d (λ class. slot_of d class name) property (places d (kind_in ks object)))
toll d P ks (words.new to id) = new_toll d P (place_of d id)
toll d P ks (words.thaw object) = P deeds.thawed
toll d P ks (words.call to object name args) = greatest (call_price d P name) (places d (kind_in ks object))
toll d P ks _ = 0

-- what an instruction may raise
abbrev pub start_price : Definition → PriceList → Tables → Start → ℕ
start_price d P t nothing = 0
start_price d P t (raises cs) = greatest (node_price d P t) cs
start_price d P t (graphs.makes cs) = total (node_price d P t) cs
start_price d P t (thaws css) = greatest (λ cs. total (waited_price d P t) cs) css

-- an instruction, where its registers have these kinds
abbrev pub instruction_price : Definition → PriceList → Tables → (program block at : ℕ) → Kinds → Instruction → ℕ
instruction_price d P t program block at ks i =
    P (deeds.instruction program block at) + (toll d P ks i + start_price d P t (start_of d ks i))

-- each of the instructions from this one on
abbrev pub code_prices : Definition → PriceList → Tables → Program → (program block at : ℕ) → Kinds → List Instruction → List ℕ
code_prices d P t p program block at ks [] = []
code_prices d P t p program block at ks (i ∷ code) =
    instruction_price d P t program block at ks i ∷ code_prices d P t p program block (suc at) (after d p ks i) code

-- the sum of some numbers
abbrev pub sum : List ℕ → ℕ
sum xs = total (λ n. n) xs

-- the prices of a block's instructions
abbrev pub block_prices : Definition → PriceList → Tables → Program → (program block : ℕ) → Block → List ℕ
block_prices d P t p program block b = code_prices d P t p program block 0 b.entry b.code

-- a block: its instructions before the last as often as it is passed, and the last one
abbrev pub block_price : Definition → PriceList → Tables → Program → (program block : ℕ) → Block → ℕ
block_price d P t p program block b =
    passes_in b * sum (before_last (block_prices d P t p program block b)) + sum (only_last (block_prices d P t p program block b))

-- a block and the dearest of the next ones, in front of the blocks after it
abbrev pub with_next : Definition → PriceList → Tables → Program → (program block : ℕ) → Block → List ℕ → List ℕ
with_next d P t p program n b later =
    (block_price d P t p program n b + greatest (λ to. read 0 later (to - suc n)) (flat_map next_of b.code)) ∷ later

-- from each of some blocks to a return, where the first has the number n
abbrev pub path_prices : Definition → PriceList → Tables → Program → (program n : ℕ) → List Block → List ℕ
path_prices d P t p program n [] = []
path_prices d P t p program n (b ∷ blocks) = with_next d P t p program n b (path_prices d P t p program (suc n) blocks)

-- from the beginning of a block to a return
abbrev pub from_block : Definition → PriceList → Tables → Program → (program block : ℕ) → ℕ
from_block d P t p program block = read 0 (path_prices d P t p program 0 p.blocks) block

-- the programs from a number on, each from its first block on
abbrev pub program_prices : Definition → PriceList → Tables → ℕ → List Program → List ℕ
program_prices d P t n [] = []
program_prices d P t n (p ∷ programs) = from_block d P t p n 0 ∷ program_prices d P t (suc n) programs

-- a program that is to begin
abbrev pub begun_price : PriceList → Tables → ℕ → ℕ
begun_price P t q = P (deeds.run q) + of_program t q

-- ** channels

-- a turn that begins a program
abbrev pub handled_price : PriceList → Tables → (place signal : ℕ) → ℕ → ℕ
handled_price P t place number q = P (deeds.turn place number) + begun_price P t q

-- whether a notification of the channel has a turn for the binding
abbrev pub is_heard : Channel → Bind → Bool
is_heard c b = same_channel (source_of b) c || (is_pair b && same_channel (target_of b) c)

-- whether the binding leads from the channel one way
abbrev pub leads_on : Channel → Bind → Bool
leads_on c b = not (is_pair b) && same_channel (source_of b) c

-- the turn for a binding; where it leads on one way, what it raises there as well
abbrev pub turn_over : Definition → PriceList → Tables → (place signal : ℕ) → Channel → ℕ → Bind → ℕ
turn_over d P t place number c n b =
    cond (is_heard c b) (P (deeds.turn place number)) 0
    + cond (leads_on c b) (carry_price d P n (target_of b) + node_price d P t (target_of b)) 0

-- the turns of an emission, and its end
abbrev pub emission_price : Definition → PriceList → Tables → (place signal : ℕ) → Raised → ℕ
emission_price d P t place number r =
    r.stages * total (handled_price P t place number) r.class_handler
    + total (handled_price P t place number) r.handlers
    + d.most_handlers * greatest (handled_price P t place number) r.connectable
    + by_number (turn_over d P t place number r.channel) 0 d.bindings
    + P (deeds.end place number)

-- a construction runs its programs
abbrev pub price_at : Definition → PriceList → Tables → Raised → Channel → ℕ
price_at d P t r (constructed place) = total (begun_price P t) r.handlers
price_at d P t r (property place slot) = P (deeds.notify place slot) + emission_price d P t place 0 r
price_at d P t r (signal place number) = P (deeds.emit place number) + emission_price d P t place number r

-- what is raised at a channel, without the other end of its pair
abbrev pub channel_price : Definition → PriceList → Tables → Raised → ℕ
channel_price d P t r = price_at d P t r r.channel

-- ** the equations

-- the prices of all programs, by those of the channels
abbrev pub programs_by : Definition → PriceList → Tables → Tables
programs_by d P t = record t { programs = program_prices d P t 0 d.programs }

-- the prices of all channels, by those of the programs and of the other channels
abbrev pub channels_by : Definition → PriceList → Tables → Tables
channels_by d P t = record t { channels = map (λ (r : Raised). (r.channel, channel_price d P t r)) (graph d).raised }

-- the tables are the prices: each channel and each program costs what its parts do
pub record SolvesPrices (d : Definition) (P : PriceList) (t : Tables) : Type 0 where
  pub channels : t.channels ≡ (channels_by d P t).channels
  pub programs : t.programs ≡ (programs_by d P t).programs

-- the prices, where the graph has no cycle
abbrev pub prices : Definition → PriceList → Option Tables
prices d P =
    settled same_tables (3 + length (graph d).raised) (λ t. channels_by d P (programs_by d P t)) (no_tables (graph d))

-- ** what a dispatch is asked for

-- an item of the build, without what it raises and carries over
abbrev pub item_toll : Definition → PriceList → Item → ℕ
item_toll d P (makes place) = P (deeds.item (makes place)) + making_toll d P place
item_toll d P (adopts place) = P (deeds.item (adopts place))
item_toll d P (forwards place slot to) = P (deeds.item (forwards place slot to)) + put_price d P (property place slot)
item_toll d P (binds number) = P (deeds.item (binds number))
item_toll d P (connects place number) = P (deeds.item (connects place number))

-- a binding that is carried out as it is made
abbrev pub first_price : Definition → PriceList → Tables → ℕ → Bind → ℕ
first_price d P t n b = cond (has_flags 2 b.flags) (carry_price d P n (target_of b) + node_price d P t (target_of b)) 0

-- the build
abbrev pub build_price : Definition → PriceList → Tables → ℕ
build_price d P t =
    total (item_toll d P) (build_items d)
    + (total (λ cs. total (node_price d P t) cs) (graph d).built
    + total (node_price d P t) (graph d).forwards
    + by_number (first_price d P t) 0 d.bindings)
    + P deeds.built

-- what is asked for, without the end of objects and of the dispatch
abbrev pub price : Definition → PriceList → Tables → Asked → ℕ
price d P t asked.build = build_price d P t
price d P t (asked.set place slot) =
    P (deeds.begin (asked.set place slot)) + (put_price d P (property place slot) + node_price d P t (property place slot))
price d P t (asked.get place slot) = P (deeds.begin (asked.get place slot))
price d P t (asked.emit place number) =
    P (deeds.begin (asked.emit place number)) + (P (deeds.tell place number) + entry t.channels (signal place number))
price d P t (asked.release place) = P (deeds.begin (asked.release place))
price d P t (asked.source program) = P (deeds.begin (asked.source program)) + begun_price P t program

-- the end of an object of the dearest place, or of none
abbrev pub dearest_end : Definition → PriceList → ℕ
dearest_end d P = greatest (ending_price P) (listed (λ place. place) (suc (length d.places)))

-- the ends of the objects that may live
abbrev pub store : Definition → PriceList → ℕ
store d P = d.most_objects * dearest_end d P

-- what a dispatch may cost at most
abbrev pub price_bound : Definition → PriceList → Tables → Asked → ℕ
price_bound d P t e = price d P t e + (store d P + P deeds.finish)
