-- The graph of a definition by numbers, as code keeps it: channels go by their numbers in the report, and what instructions may start is kept
-- once for all instructions that may start the same.
use Rattle.std.specs.Prelude.{◌≡◌, ◌⊎◌, ℕ, Bool, true, false, List, [], ◌∷◌, length, map, Option, None, Some, slice_get}
use Rattle.std.specs.List.{filter, flat_map}
use Rattle.ui_machine.specs.Seq.{read}
use Rattle.law_typing.specs.Graph.Channels.{Channel, constructed, property, signal}
use Rattle.law_typing.specs.Graph.{Graph, Raised, Start, Stretch}
use Rattle.law_typing.specs.Graph as starts
use Rattle.law_typing.specs.Graph.Ranks.{is_raised, node}
use Rattle.law_typing.specs.Graph.Costs.{other_end}
use Rattle.law_typing.specs.Laws.{IsIn}
use Rattle.verify_sketches.specs.Pointwise.{Pointwise}

-- ** what is kept

-- what an instruction may start
pub data SketchedStart : Type 0 where
  nothing : SketchedStart
  raises : (channels : List ℕ) → SketchedStart  -- one of these
  makes : (channels : List ℕ) → SketchedStart  -- all of these, as an object is made
  thaws : (places : List ℕ) → SketchedStart  -- all paired properties of one of these places

-- a block: of each instruction the number of what it may start
pub record SketchedBlock : Type 0 where
  pub starts : List ℕ
  pub passes : ℕ
  pub next : List ℕ

-- what runs at a channel
pub record SketchedChannel : Type 0 where
  pub emits : Bool  -- whether an emission begins there; none does at a construction
  pub class_handler : List ℕ
  pub stages : ℕ
  pub handlers : List ℕ
  pub groups : List ℕ  -- of the programs that bytecode may connect
  pub transfers : ℕ  -- of the bindings that lead from here one way
  pub targets : List ℕ  -- of those the targets that are channels
  pub first : ℕ  -- of a pair the end that is first in the report, else the channel itself
  pub other : Option ℕ  -- the other end of a pair

pub record Sketch : Type 0 where
  pub channels : List SketchedChannel
  pub groups : List (List ℕ)  -- programs that bytecode may connect alike
  pub programs : List (List SketchedBlock)
  pub starts : List SketchedStart
  pub paired : List (List ℕ)  -- by place: its paired properties

-- ** channels by number

-- the channels, in the order of the report
abbrev pub channels_in : Graph → List Channel
channels_in g = map (λ (r : Raised). r.channel) g.raised

-- a number is that of a channel
abbrev pub Names : Graph → ℕ → Channel → Type 0
Names g number c = slice_get (channels_in g) number ≡ Some c

-- some numbers are those of some channels
abbrev pub AreNamed : Graph → List ℕ → List Channel → Type 0
AreNamed g numbers cs = Pointwise (Names g) numbers cs

-- a number, if there is one, is that of a channel, if there is one
abbrev pub NamesIf : Graph → Option ℕ → Option Channel → Type 0
NamesIf g None None = Unit {0}
NamesIf g None (Some c) = ⊥
NamesIf g (Some number) None = ⊥
NamesIf g (Some number) (Some c) = Names g number c

-- no channel has two numbers
abbrev pub AreOnce : Graph → Type 0
AreOnce g = (i j : ℕ) (c : Channel) → Names g i c → Names g j c → i ≡ j

-- ** which sketches are right

-- whether an emission begins as a channel is raised
abbrev pub emits_at : Channel → Bool
emits_at (constructed place) = false
emits_at (property place slot) = true
emits_at (signal place number) = true

-- nothing but its programs runs at a construction
abbrev pub IsQuiet : Channel → Raised → Type 0
IsQuiet (constructed place) r = (r.class_handler ≡ []) × (r.connectable ≡ []) × (r.targets ≡ [])
IsQuiet (property place slot) r = Unit {0}
IsQuiet (signal place number) r = Unit {0}

-- the same programs are in both lists
pub record SamePrograms (programs others : List ℕ) : Type 0 where
  pub there : (p : ℕ) → IsIn p programs → IsIn p others
  pub back : (p : ℕ) → IsIn p others → IsIn p programs

-- what runs at a channel is sketched
pub record IsSketchedChannel (g : Graph) (groups : List (List ℕ)) (k : SketchedChannel) (r : Raised) : Type 0 where
  pub emits : k.emits ≡ emits_at r.channel
  pub quiet : IsQuiet r.channel r
  pub class_handler : k.class_handler ≡ r.class_handler
  pub stages : k.stages ≡ r.stages
  pub handlers : k.handlers ≡ r.handlers
  pub connectable : SamePrograms (flat_map (read [] groups) k.groups) r.connectable
  pub transfers : k.transfers ≡ length r.targets
  pub targets : AreNamed g k.targets (filter (is_raised g) r.targets)
  pub first : Names g k.first (node g r.channel)
  pub other : NamesIf g k.other (other_end g r.channel)

-- what an instruction may start is sketched, where these are the paired properties of places
abbrev pub IsSketchedStart : Graph → List (List ℕ) → SketchedStart → Start → Type 0
IsSketchedStart g paired nothing starts.nothing = Unit {0}
IsSketchedStart g paired (raises numbers) (starts.raises cs) = AreNamed g numbers cs
IsSketchedStart g paired (makes numbers) (starts.makes cs) = AreNamed g numbers cs
IsSketchedStart g paired (thaws places) (starts.thaws css) = Pointwise (AreNamed g) (map (read [] paired) places) css
IsSketchedStart g paired _ _ = ⊥

-- the start of a number
abbrev pub IsStartOf : Graph → Sketch → ℕ → Start → Type 0
IsStartOf g s number start = IsSketchedStart g s.paired (read nothing s.starts number) start

-- a block is sketched
pub record IsSketchedBlock (g : Graph) (s : Sketch) (b : SketchedBlock) (stretch : Stretch) : Type 0 where
  pub starts : Pointwise (IsStartOf g s) b.starts stretch.starts
  pub passes : b.passes ≡ stretch.passes
  pub next : b.next ≡ stretch.next

-- the ends of a pair name each other, and agree on the first of them; any other channel is its own first
pub record IsPairedIn (channels : List SketchedChannel) (number : ℕ) (k : SketchedChannel) : Type 0 where
  pub alone : k.other ≡ None → k.first ≡ number
  pub both : (other : ℕ) → k.other ≡ Some other →
      (e : SketchedChannel) × (slice_get channels other ≡ Some e) × (e.other ≡ Some number) × (e.first ≡ k.first)
      × ((k.first ≡ number) ⊎ (k.first ≡ other))

-- a property that is raised
abbrev pub IsRaisedProperty : Graph → Channel → Type 0
IsRaisedProperty g (constructed place) = ⊥
IsRaisedProperty g (property place slot) = is_raised g (property place slot) ≡ true
IsRaisedProperty g (signal place number) = ⊥

-- A graph is sketched. Only properties that are raised are in pairs, and what is kept of starts and places is that of some, used or not.
pub record IsSketch (g : Graph) (s : Sketch) : Type 0 where
  pub once : AreOnce g
  pub channels : Pointwise (IsSketchedChannel g s.groups) s.channels g.raised
  pub paired : (number : ℕ) (k : SketchedChannel) → slice_get s.channels number ≡ Some k → IsPairedIn s.channels number k
  pub programs : Pointwise (Pointwise (IsSketchedBlock g s)) s.programs g.programs
  pub ends : (c e : Channel) → other_end g c ≡ Some e → IsRaisedProperty g c
  pub starts : (number : ℕ) (k : SketchedStart) → slice_get s.starts number ≡ Some k → (start : Start) × IsSketchedStart g s.paired k start
  pub places : (place : ℕ) (numbers : List ℕ) → slice_get s.paired place ≡ Some numbers → (cs : List Channel) × AreNamed g numbers cs
