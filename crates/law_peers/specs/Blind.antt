-- A step that asks, takes and closes no peer does the same whatever the peers are.
use Rattle.std.specs.Prelude.{◌≡◌, ℕ, Bool, true, false, Err, List, [], None, Ok, Option, Some, is_some, slice_get, ◌||◌, ◌∷◌}
use Rattle.ui_machine.specs.Definition.{Definition}
use Rattle.ui_machine.specs.Definition.Lookups.{place_at, place_of}
use Rattle.ui_machine.specs.Definition.Places.{Place}
use Rattle.ui_machine.specs.Definition.Programs.{Block, Instruction}
use Rattle.ui_machine.specs.Definition.Programs as words
use Rattle.ui_machine.specs.Instructions.{instruction_step}
use Rattle.ui_machine.specs.Instructions.Jumps.{block_in, in_pass, past}
use Rattle.ui_machine.specs.Instructions.Registers.{operand_in}
use Rattle.ui_machine.specs.Outcome.{Answer}
use Rattle.ui_machine.specs.Rules.Construction.{has_shape}
use Rattle.ui_machine.specs.Rules.Disposal.{peer_of}
use Rattle.ui_machine.specs.State.Config.{Config, Left, World}
use Rattle.ui_machine.specs.State.Objects.{living}
use Rattle.ui_machine.specs.State.Peers.{Peer, Reply}
use Rattle.ui_machine.specs.State.References.{mentions, next_unheld}
use Rattle.ui_machine.specs.State.Tasks.{Building, Calling, Frame, Item, Running, Task, makes}
use Rattle.ui_machine.specs.Steps.{act, question, step}
use Rattle.machine_laws.specs.FrontLaws.{mapped}
use Rattle.law_peers.specs.PeerLines.{peer_lines}

-- the world with other peers
abbrev pub with_peers : List Peer → World → World
with_peers peers w = record w { peers = peers }

-- the configuration with other peers
abbrev pub with_peers_at : List Peer → Config → Config
with_peers_at peers c = record c { world = with_peers peers c.world }

-- ** what is about peers

-- whether an object has a peer
abbrev pub has_peer : World → ℕ → Bool
has_peer w id = is_some (peer_of (living w.objects id))

-- whether a prototype's objects take a peer: their class has a shape
abbrev pub takes_peer : Definition → Option Place → Bool
takes_peer d None = false
takes_peer d (Some p) = has_shape d p.class

-- whether there are names of peers
abbrev pub are_named : List (List ℕ) → Bool
are_named [] = false
are_named (name ∷ names) = true

-- whether the object of a place has a peer, or the place names one
abbrev pub wants_peer : Definition → Option Place → Bool
wants_peer d None = false
wants_peer d (Some p) = has_shape d p.class || are_named p.peers

-- the place of this number, if there is one
abbrev pub place_numbered : Definition → Option ℕ → Option Place
place_numbered d None = None
place_numbered d (Some number) = place_at d number

-- whether the object in a register has a peer
abbrev pub is_of_peer : World → Answer ℕ → Bool
is_of_peer w (Ok id) = has_peer w id
is_of_peer w (Err arm) = false

-- whether an instruction is about a peer: a `new` that takes one, a `dispose` of an object that has one, and each `call`
abbrev pub instruction_meets_peers : Definition → World → Frame → Instruction → Bool
instruction_meets_peers d w f (words.new to id) = takes_peer d (place_numbered d (place_of d id))
instruction_meets_peers d w f (words.dispose object) = is_of_peer w (operand_in w f object)
instruction_meets_peers d w f (words.call to object name args) = true
instruction_meets_peers d w f _ = false

-- whether the instruction that comes next is
abbrev pub next_meets_peers : Definition → World → Frame → Option Instruction → Bool
next_meets_peers d w f None = false
next_meets_peers d w f (Some i) = instruction_meets_peers d w f i

-- where a program is not in a block there is no next instruction
abbrev pub block_meets_peers : Definition → World → Frame → Answer Block → Bool
block_meets_peers d w f (Err arm) = false
block_meets_peers d w f (Ok b) = next_meets_peers d w (past (in_pass b f)) (slice_get b.code (in_pass b f).at)

-- whether an item of the build makes an object with a peer
abbrev pub items_meet_peers : Definition → List Item → Bool
items_meet_peers d (makes place ∷ items) = wants_peer d (place_at d place)
items_meet_peers d _ = false

-- whether the first task is about a peer
abbrev pub tasks_meet_peers : Definition → World → List Task → Bool
tasks_meet_peers d w (Running f ∷ rest) = block_meets_peers d w f (block_in d f)
tasks_meet_peers d w (Calling call ∷ rest) = true
tasks_meet_peers d w (Building items ∷ rest) = items_meet_peers d items
tasks_meet_peers d w _ = false

-- whether a step is: the finalisation of an object that has one, or its first task
abbrev pub first_meets_peers : Definition → Config → Option ℕ → Bool
first_meets_peers d c (Some id) = has_peer c.world id
first_meets_peers d c None = tasks_meet_peers d c.world c.agenda

-- whether the step from a configuration asks, takes or closes a peer, or reads which there are
abbrev pub meets_peers : Definition → Config → Bool
meets_peers d c = first_meets_peers d c (next_unheld (mentions d c) c.world.objects)

-- ** the law

-- with other peers such a step leads to the same with these other peers, or is stuck by the same arm
abbrev pub StepIsBlind : Type 0
StepIsBlind =
    (d : Definition) (reply : Option Reply) (c : Config) (peers : List Peer) → meets_peers d c ≡ false →
    step d reply (with_peers_at peers c) ≡ mapped (with_peers_at peers) (step d reply c)

-- with other peers what the first task does leads to the same with these other peers
abbrev pub TaskIsBlind : Type 0
TaskIsBlind =
    (d : Definition) (reply : Option Reply) (w : World) (tasks : List Task) (counted : ℕ) (peers : List Peer) →
    tasks_meet_peers d w tasks ≡ false →
    act d (with_peers peers w) reply tasks counted ≡ mapped (with_peers_at peers) (act d w reply tasks counted)

-- what an instruction leaves, with other peers
abbrev pub left_with_peers : List Peer → Left → Left
left_with_peers peers l = record l { world = with_peers peers l.world }

-- with other peers an instruction leaves the same with these other peers
abbrev pub InstructionIsBlind : Type 0
InstructionIsBlind =
    (d : Definition) (w : World) (rest : List Task) (f : Frame) (i : Instruction) (peers : List Peer) →
    instruction_meets_peers d w f i ≡ false →
    instruction_step d (with_peers peers w) rest f i ≡ mapped (left_with_peers peers) (instruction_step d w rest f i)

-- such a step leaves the peers as they are, and says nothing of them
abbrev pub LeavesPeers : Type 0
LeavesPeers =
    (d : Definition) (reply : Option Reply) (c e : Config) → meets_peers d c ≡ false → step d reply c ≡ Ok e →
    (e.world.peers ≡ c.world.peers) × (peer_lines e.world.transcript ≡ peer_lines c.world.transcript)

-- and neither step asks anything
abbrev pub AsksNothing : Type 0
AsksNothing =
    (d : Definition) (c : Config) (peers : List Peer) → meets_peers d c ≡ false →
    (question d c ≡ None) × (question d (with_peers_at peers c) ≡ None)
