-- How the frames of an agenda lie on one another: what lies higher needs fewer frames. So no program is in two frames at a time, no property is
-- notified and no signal emitted twice at a time, and no object of a place is made within the making of another.
use Rattle.std.specs.Prelude.{◌≡◌, ◌⊎◌, ℕ, ◌+◌, ◌<◌, ◌≤◌, ⊤, Bool, true, false, cond, ◌&&◌, nat_eq, List, [], ◌∷◌, Option, None, Some, slice_get}
use Rattle.ui_machine.specs.Seq.{read, total}
use Rattle.ui_machine.specs.Definition.{Definition}
use Rattle.ui_machine.specs.Definition.Lookups.{specs_of}
use Rattle.ui_machine.specs.Definition.Names.{place_from}
use Rattle.ui_machine.specs.Definition.Places.{Bind}
use Rattle.ui_machine.specs.Definition.Properties.{Spec}
use Rattle.ui_machine.specs.Rules.Programs.{is_number}
use Rattle.ui_machine.specs.State.Config.{Config}
use Rattle.ui_machine.specs.State.Handlers.{Handler}
use Rattle.ui_machine.specs.State.Objects.{Object, Objects, living}
use Rattle.ui_machine.specs.State.Tasks.{ConstructStep, sets, runs, thaws, PlanEntry, class_handler, handler, Emission, Task, Setting, Notifying, Beginning, Emitting, Transferring, Unsetting, Thawing, Running, Answering, Calling, Constructing, Building, Handling, Due}
use Rattle.ui_machine.specs.State.Tasks as config
use Rattle.law_typing.specs.Graph.{graph, channel_for}
use Rattle.law_typing.specs.Graph.Channels.{Channel, is_channel, property, signal, same_channel, is_pair, source_of, target_of}
use Rattle.law_typing.specs.Graph.Depths.{depth_within_if, making_depth, raised_of}
use Rattle.law_typing.specs.Graph.Tables.{Tables, entry, of_program}
use Rattle.law_typing.specs.Good.DueCosts.{has_end}
use Rattle.law_typing.specs.Good.Freezes.{frozen_by}
use Rattle.law_typing.specs.Good.Standing.{Standing, standing}
use Rattle.law_typing.specs.Laws.{IsIn}
use Rattle.law_typing.specs.Rules.RegisterKinds.{class_at}
use Rattle.law_typing.specs.Verdict.Accepted.{Each}

-- ** channels of emissions

-- the property of a place that a detail names
abbrev pub named_at : Definition → (place : ℕ) → Option ℕ → Option (List ℕ) → Option Channel
named_at d place None name = None
named_at d place (Some class) None = None
named_at d place (Some class) (Some name) = channel_for (property place) (place_from (λ (s : Spec). s.name) 0 (specs_of d class) name)

-- the channel at which an emission of an object of a place is
abbrev pub channel_at : Definition → Emission → Option ℕ → Option Channel
channel_at d e None = None
channel_at d e (Some place) = cond (nat_eq e.signal 0) (named_at d place (class_at d place) e.detail) (Some (signal place e.signal))

abbrev pub channel_of : Definition → Standing → Emission → Option Channel
channel_of d s e = channel_at d e (s e.object)

-- whether an emission is at the channel
abbrev pub is_at : Channel → Option Channel → Bool
is_at c None = false
is_at c (Some e) = same_channel e c

-- ** heights: how many frames may be needed

-- whether a binding is of a pair with the channel
abbrev pub is_pair_of : Channel → Option Bind → Bool
is_pair_of c None = false
is_pair_of c (Some b) = is_pair b && has_end c b

-- whether what is at the channel was begun by its pair, whose binding is set free right below
abbrev pub is_over : Definition → List Task → Channel → Bool
is_over d (Unsetting number ∷ below) c = is_pair_of c (slice_get d.bindings number)
is_over d below c = false

-- the end to which a transfer leads, and that from which it comes
abbrev pub to_end : Bool → Bind → Channel
to_end back b = cond back (source_of b) (target_of b)

abbrev pub from_end : Bool → Bind → Channel
from_end back b = cond back (target_of b) (source_of b)

-- what a pair began is not at the channel of the emission that it came from
abbrev pub IsApart : Definition → Standing → List Task → Channel → Type 0
IsApart d s (Unsetting number ∷ Emitting e turns ∷ below) c = channel_of d s e ≡ Some c → ⊥
IsApart d s below c = ⊤

module _ (d : Definition) (depths : Tables) where
  -- the frames of what runs at a channel
  abbrev pub within : Channel → ℕ
  within c = depth_within_if depths (raised_of (graph d) c)

  -- those of what is at a channel, above these tasks; where a pair began it, nothing goes back over the pair
  abbrev pub height : List Task → Channel → ℕ
  height below c = cond (is_over d below c) (1 + within c) (entry depths.channels c)

  abbrev pub height_if : List Task → Option Channel → ℕ
  height_if below None = 0
  height_if below (Some c) = height below c

  -- of an emission
  abbrev pub emission_height : Standing → List Task → Emission → ℕ
  emission_height s below e = height_if below (channel_of d s e)

  -- of a set or a notification of a property
  abbrev pub due_height : List Task → (slot : ℕ) → Option ℕ → ℕ
  due_height below slot None = 0
  due_height below slot (Some place) = height below (property place slot)

  -- of a notification that waited
  abbrev pub waited_height : (slot : ℕ) → Option ℕ → ℕ
  waited_height slot None = 0
  waited_height slot (Some place) = entry depths.channels (property place slot)

  -- of a construction
  abbrev pub making_height : Option ℕ → ℕ
  making_height None = 0
  making_height (Some place) = making_depth depths (read [] (graph d).makings place)

  -- of a transfer
  abbrev pub transfer_height : Bool → Option Bind → ℕ
  transfer_height back None = 0
  transfer_height back (Some b) = cond (is_pair b) (1 + within (to_end back b)) (entry depths.channels (to_end back b))

  -- ** falling

  -- so many are fewer than the next frame below may need
  abbrev pub Under : Standing → ℕ → List Task → Type 0
  Under s n [] = ⊤
  Under s n (Running frame ∷ below) = n < of_program depths frame.program
  Under s n (Emitting e turns ∷ below) = n < emission_height s below e
  Under s n (Constructing id steps held ∷ below) = n < making_height (s id)
  Under s n (task ∷ below) = Under s n below

  -- a turn is of what runs at the channel
  abbrev pub TurnFalls : List Handler → Channel → PlanEntry → Type 0
  TurnFalls hs c (class_handler program cleanup) = of_program depths program ≤ within c
  TurnFalls hs c (handler number) = (h : Handler) → IsIn h hs → h.number ≡ number → of_program depths h.program ≤ within c
  TurnFalls hs c (config.transfer number back) = (b : Bind) → slice_get d.bindings number ≡ Some b → from_end back b ≡ c

  -- the rest of an emission is at a channel
  pub record EmittingFalls (s : Standing) (hs : List Handler) (below : List Task) (e : Emission) (turns : List PlanEntry) : Type 0 where
    pub channel : Channel
    pub is : channel_of d s e ≡ Some channel
    pub there : is_channel d channel ≡ true
    pub more : within channel < entry depths.channels channel
    pub under : Under s (height below channel) below
    pub turns_fall : Each (TurnFalls hs channel) turns

  -- a pair's transfer lies on the emission that it came from, or on the build
  abbrev pub LiesOnEnd : Standing → Bind → List Task → Type 0
  LiesOnEnd s b (Emitting e turns ∷ below) =
      (entry depths.channels (source_of b) ≤ emission_height s below e) × (entry depths.channels (target_of b) ≤ emission_height s below e)
  LiesOnEnd s b (Building items ∷ []) = ⊤
  LiesOnEnd s b below = ⊥

  abbrev pub IsOnEnd : Standing → (number : ℕ) → List Task → Type 0
  IsOnEnd s number below = (b : Bind) → slice_get d.bindings number ≡ Some b → is_pair b ≡ true → LiesOnEnd s b below

  -- a set or a notification that is due
  pub record DueFalls (s : Standing) (below : List Task) (id slot : ℕ) : Type 0 where
    pub place : ℕ
    pub is : s id ≡ Some place
    pub under : Under s (height below (property place slot)) below
    pub apart : IsApart d s below (property place slot)

  -- a step of a construction
  abbrev pub StepFalls : (height place : ℕ) → ConstructStep → Type 0
  StepFalls height place (sets slot v) = entry depths.channels (property place slot) < height
  StepFalls height place (runs program) = of_program depths program < height
  StepFalls height place thaws = ⊤

  pub record ConstructingFalls (s : Standing) (below : List Task) (id : ℕ) (steps : List ConstructStep) : Type 0 where
    pub place : ℕ
    pub is : s id ≡ Some place
    pub under : Under s (making_height (Some place)) below
    pub steps_fall : Each (StepFalls (making_height (Some place)) place) steps

  abbrev pub TaskFalls : Standing → List Handler → List Task → Task → Type 0
  TaskFalls s hs below (Setting id slot v) = DueFalls s below id slot
  TaskFalls s hs below (Notifying id slot) = DueFalls s below id slot
  TaskFalls s hs below (Beginning e) = Under s (emission_height s below e) below
      × ((c : Channel) → channel_of d s e ≡ Some c → IsApart d s below c)
  TaskFalls s hs below (Emitting e turns) = EmittingFalls s hs below e turns
      × ((c : Channel) → channel_of d s e ≡ Some c → IsApart d s below c)
  TaskFalls s hs below (Transferring number back) =
      Under s (transfer_height back (slice_get d.bindings number)) below × IsOnEnd s number below
      × ((b : Bind) → slice_get d.bindings number ≡ Some b → IsApart d s (Unsetting number ∷ below) (to_end back b))
  TaskFalls s hs below (Unsetting number) = IsOnEnd s number below
  TaskFalls s hs below (Thawing id slots) = Each (λ slot. Under s (waited_height slot (s id)) below) slots
  TaskFalls s hs below (Running frame) = Under s (of_program depths frame.program) below
  TaskFalls s hs below (Constructing id steps held) = ConstructingFalls s below id steps
  TaskFalls s hs below task = ⊤

  abbrev pub Falls : Standing → List Handler → List Task → Type 0
  Falls s hs [] = ⊤
  Falls s hs (task ∷ below) = TaskFalls s hs below task × Falls s hs below

  -- a task that holds the object frozen may need more
  abbrev pub IsHeld : Standing → (id n : ℕ) → List Task → Type 0
  IsHeld s id n [] = ⊥
  IsHeld s id n (task ∷ below) = ((0 < frozen_by d id task) × Under s n (task ∷ below)) ⊎ IsHeld s id n below

  -- what waits in the queues is notified above such a task
  abbrev pub QueuesFall : Objects → Standing → List Task → Type 0
  QueuesFall os s agenda = (id : ℕ) (o : Object) → living os id ≡ Some o →
      Each (λ slot. IsHeld s id (entry depths.channels (property o.place slot)) agenda) o.queue

  pub record FallsAt (c : Config) : Type 0 where
    pub agenda : Falls (standing c.world.objects) c.world.handlers c.agenda
    pub queues : QueuesFall c.world.objects (standing c.world.objects) c.agenda

-- ** the law

-- 1 where a task is the rest of the program
abbrev pub runs_it : ℕ → Task → ℕ
runs_it program (Running frame) = cond (nat_eq frame.program program) 1 0
runs_it program _ = 0

-- 1 where a task is the rest of an emission at the channel
abbrev pub emits_at : Definition → Standing → Channel → Task → ℕ
emits_at d s c (Emitting e turns) = cond (is_at c (channel_of d s e)) 1 0
emits_at d s c _ = 0

-- 1 where a task is the rest of the construction of an object of the place
abbrev pub makes_at : Standing → ℕ → Task → ℕ
makes_at s place (Constructing id steps held) = cond (is_number place (s id)) 1 0
makes_at s place _ = 0

-- no program is in two frames, nothing is notified or emitted twice at a time, and no place's object is made in the making of another
pub record EachOnce (d : Definition) (c : Config) : Type 0 where
  pub programs : (program : ℕ) → total (runs_it program) c.agenda ≤ 1
  pub emissions : (channel : Channel) → total (emits_at d (standing c.world.objects) channel) c.agenda ≤ 1
  pub makings : (place : ℕ) → total (makes_at (standing c.world.objects) place) c.agenda ≤ 1
