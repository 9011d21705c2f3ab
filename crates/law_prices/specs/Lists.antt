-- Ready price lists.
use Rattle.std.specs.Prelude.{ℕ, ◌+◌, cond, nat_eq, ◌&&◌, Option, None, Some, option_and_then, slice_get}
use Rattle.ui_machine.specs.Definition.{Definition}
use Rattle.ui_machine.specs.Definition.Lookups.{program_at}
use Rattle.ui_machine.specs.Definition.Programs.{Block, Instruction, Program}
use Rattle.ui_machine.specs.Definition.Programs as words
use Rattle.ui_machine.specs.Definition.Signals.{Signal}
use Rattle.ui_machine.specs.Rules.Construction.{nearest_shape}
use Rattle.ui_machine.specs.Rules.EmissionPlan.{signal_of}
use Rattle.ui_machine.specs.State.Tasks as config
use Rattle.law_typing.specs.Graph.Channels.{Channel, same_channel}
use Rattle.law_typing.specs.Graph.Channels as channels
use Rattle.law_typing.specs.Rules.RegisterKinds.{class_at}
use Rattle.law_prices.specs.Deeds.{PriceList, instruction, set, notify, emit, turn, end, tell, run, transfer, free, name, thawed, answer, make, construct, item, built, begin, dispose, final, settle, finish}
use Rattle.law_prices.specs.Asked as asked

-- the four counted steps: an instruction, the beginning of an emission, a transfer and a finalisation
abbrev pub counted : PriceList
counted (instruction program block at) = 1
counted (notify place slot) = 1
counted (emit place signal) = 1
counted (transfer binding) = 1
counted (final place) = 1
counted _ = 0

-- Each step. A dispose, a program and an object begin with the step that leads to them, and a result is told as an emission ends, so that
-- these are no steps of their own.
abbrev pub steps : PriceList
steps (tell place signal) = 0
steps (run program) = 0
steps (make place) = 0
steps (dispose place) = 0
steps _ = 1

-- the objects that are made
abbrev pub objects : PriceList
objects (make place) = 1
objects _ = 0

-- the objects that are made of a place
abbrev pub objects_at : ℕ → PriceList
objects_at place (make p) = cond (nat_eq p place) 1 0
objects_at place _ = 0

-- what a peer of the shape is asked for by the method
abbrev pub calls : (shape method : ℕ) → PriceList
calls shape method (answer s m) = cond (nat_eq s shape && nat_eq m method) 1 0
calls shape method _ = 0

-- what any peer is asked for
abbrev pub any_call : PriceList
any_call (answer shape method) = 1
any_call _ = 0

-- the beginnings of emissions at a channel
abbrev pub emissions : Channel → PriceList
emissions c (notify place slot) = cond (same_channel c (channels.property place slot)) 1 0
emissions c (emit place signal) = cond (same_channel c (channels.signal place signal)) 1 0
emissions c _ = 0

-- the runs of a program
abbrev pub runs : (program : ℕ) → PriceList
runs program (run q) = cond (nat_eq q program) 1 0
runs program _ = 0

-- the instructions that are taken
abbrev pub instructions : PriceList
instructions (instruction program block at) = 1
instructions _ = 0

-- ** lines

-- the instruction at its place in a program
abbrev pub instruction_at : Definition → (program block at : ℕ) → Option Instruction
instruction_at d program block at = option_and_then (λ (b : Block). slice_get b.code at) (option_and_then (λ (p : Program). slice_get p.blocks block) (program_at d program))

-- the lines that an instruction says at most by itself: of a limit, of an adoption or an orphan; `new` says those of the making
abbrev pub lines_of : Option Instruction → ℕ
lines_of (Some (words.join to a b)) = 1
lines_of (Some (words.adopt to parent child)) = 1
lines_of (Some (words.orphan object)) = 1
lines_of (Some (words.connect to object c)) = 1
lines_of (Some (words.idle to program priority with)) = 1
lines_of (Some (words.timeout to program priority interval with)) = 1
lines_of _ = 0

-- 1 where there is something
abbrev pub one_where : {A : Type 0} → Option A → ℕ
one_where None = 0
one_where (Some x) = 1

-- 1 where a signal of a place has a result
abbrev pub has_result : Definition → (place number : ℕ) → ℕ
has_result d place number =
    one_where (option_and_then (λ (s : Signal). s.result) (option_and_then (λ class. signal_of d class number) (class_at d place)))

-- 1 where the objects of a place have a peer
abbrev pub has_peer : Definition → ℕ → ℕ
has_peer d place = one_where (option_and_then (nearest_shape d) (class_at d place))

-- the lines that are said at most
abbrev pub lines : Definition → PriceList
lines d (instruction program block at) = lines_of (instruction_at d program block at)
lines d (set place slot) = 1
lines d (notify place slot) = 1
lines d (emit place number) = 1
lines d (turn place number) = 0
lines d (end place number) = 0
lines d (tell place number) = has_result d place number
lines d (run program) = 1
lines d (transfer binding) = 0
lines d (free binding) = 0
lines d (name place slot) = 0
lines d thawed = 0
lines d (answer shape method) = 1
lines d (make place) = 1
lines d (construct place) = 0
lines d (item (config.adopts place)) = 1
lines d (item _) = 0
lines d built = 0
lines d (begin (asked.get place slot)) = 1
lines d (begin (asked.release place)) = 1
lines d (begin _) = 0
lines d (dispose place) = 1 + has_peer d place
lines d (final place) = 1
lines d (settle place) = 0
lines d finish = 1
