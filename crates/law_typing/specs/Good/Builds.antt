-- Constructions and the build, each within so many steps and frames.
use Rattle.std.specs.Prelude.{◌≡◌, ℕ, ◌+◌, ◌≤◌, ⊤, Bool, true, false, cond, List, [], ◌∷◌, ◌++◌, length, Option, None, Some, slice_get}
use Rattle.ui_machine.specs.Seq.{read, total}
use Rattle.ui_machine.specs.Definition.Kinds as kinds
use Rattle.ui_machine.specs.Definition.Values.{Value}
use Rattle.ui_machine.specs.Definition.Values as values
use Rattle.ui_machine.specs.Definition.Properties.{Spec, has_flags, is_writable}
use Rattle.ui_machine.specs.Definition.{Definition}
use Rattle.ui_machine.specs.Definition.Places.{Bind}
use Rattle.ui_machine.specs.Definition.Lookups.{program_at}
use Rattle.ui_machine.specs.State.Config.{BuilderEntry, unbuilt, built}
use Rattle.ui_machine.specs.State.Tasks.{ConstructStep, sets, runs, thaws, Item, makes, adopts, forwards, binds, connects, Task, Constructing, Building}
use Rattle.ui_machine.specs.Rules.Sets.{has_kind}
use Rattle.ui_machine.specs.Rules.Build.{is_making, build_items}
use Rattle.law_typing.specs.Rules.Signatures.{is_taken_by}
use Rattle.law_typing.specs.Rules.Brackets.{has_pair}
use Rattle.law_typing.specs.Graph.Channels.{property, spec_at}
use Rattle.law_typing.specs.Graph.{graph}
use Rattle.law_typing.specs.Graph.Tables.{Tables, entry, of_program}
use Rattle.law_typing.specs.Graph.Costs.{node_cost, making_cost}
use Rattle.law_typing.specs.Graph.Depths.{making_depth}
use Rattle.law_typing.specs.Verdict.Accepted.{Each}
use Rattle.law_typing.specs.Good.Standing.{Standing, lives_by, View}
use Rattle.law_typing.specs.Good.DueCosts.{transfer_cost, transfer_depth}
use Rattle.law_typing.specs.Good.Bindings.{DocumentGood}

-- an object that a construction is given is held by the builder
abbrev pub HeldIf : List BuilderEntry → Value → Type 0
HeldIf builder (values.object (Some id)) = (place : ℕ) × (read unbuilt builder place ≡ built id)
HeldIf builder v = ⊤

-- a step of a construction, what it may cost and how deep it is; a notification of it waits in the queue and is paid there
abbrev pub MakingGood : Definition → Standing → List BuilderEntry → (place : ℕ) → ConstructStep → Type 0
MakingGood d s builder place (sets slot v) = (spec : Spec) × (spec_at d place slot ≡ Some spec) × (has_kind v spec.kind ≡ true)
    × (lives_by s v ≡ true) × HeldIf builder v × (is_writable spec ≡ true)
MakingGood d s builder place (runs program) = is_taken_by d (program_at d program) (kinds.at place ∷ []) None ≡ true
MakingGood d s builder place thaws = ⊤

abbrev pub step_cost : Definition → Tables → (place : ℕ) → ConstructStep → ℕ
step_cost d costs place (sets slot v) = node_cost (graph d) costs (property place slot)
step_cost d costs place (runs program) = of_program costs program
step_cost d costs place thaws = 0

abbrev pub step_depth : Tables → (place : ℕ) → ConstructStep → ℕ
step_depth depths place (sets slot v) = entry depths.channels (property place slot)
step_depth depths place (runs program) = of_program depths program
step_depth depths place thaws = 0

pub record ConstructingGood (d : Definition) (costs depths : Tables) (w : View) (id : ℕ) (todo : List ConstructStep) (held : Bool)
    (steps frames : ℕ) : Type 0 where
  pub place : ℕ
  pub is : w.stands id ≡ Some place
  -- what the builder makes is of the place that it comes to next
  pub for_builder : held ≡ true → place ≡ length w.builder
  -- what a program makes has no paired property
  pub for_program : held ≡ false → has_pair d place ≡ false
  pub fits : Each (MakingGood d w.stands w.builder place) todo
  pub cheap : total (step_cost d costs place) todo ≤ steps
  pub shallow : Each (λ m. 1 + step_depth depths place m ≤ frames) todo
  pub one : 1 ≤ frames

-- ** the build

-- what an item of the build costs; a binding does only where it is carried out as it is made
abbrev pub item_cost : Definition → Tables → Item → ℕ
item_cost d costs (makes place) = making_cost (graph d) costs (read [] (graph d).makings place)
item_cost d costs (adopts place) = 0
item_cost d costs (forwards place slot to) = node_cost (graph d) costs (property place slot)
item_cost d costs (binds number) = of (slice_get d.bindings number)
  where
    of : Option Bind → ℕ
    of None = 0
    of (Some b) = cond (has_flags 2 b.flags) (transfer_cost d costs [] false (Some b)) 0
item_cost d costs (connects place number) = 0

-- how deep an item goes
abbrev pub item_depth : Definition → Tables → Item → ℕ
item_depth d depths (makes place) = making_depth depths (read [] (graph d).makings place)
item_depth d depths (adopts place) = 0
item_depth d depths (forwards place slot to) = entry depths.channels (property place slot)
item_depth d depths (binds number) = of (slice_get d.bindings number)
  where
    of : Option Bind → ℕ
    of None = 0
    of (Some b) = cond (has_flags 2 b.flags) (transfer_depth d depths [] false (Some b)) 0
item_depth d depths (connects place number) = 0

-- 1 where a construction's object is the builder's
abbrev pub is_for_builder : Task → ℕ
is_for_builder (Constructing id todo held) = cond held 1 0
is_for_builder _ = 0

-- The rest of the build is the end of all of it. Up to there each object was made: the builder holds it, or it is under construction. Where
-- nothing of the build is left, each place of the document is built or released, and no construction is for the builder.
abbrev pub BuildGood : Definition → List BuilderEntry → (agenda : List Task) → List Task → Type 0
BuildGood d builder agenda [] = DocumentGood d builder × (total is_for_builder agenda ≡ 0)
BuildGood d builder agenda (Building items ∷ tasks) =
    (done : List Item) × (build_items d ≡ done ++ items) × (total is_making done ≡ length builder + total is_for_builder agenda)
    × Each (λ (h : BuilderEntry). (id : ℕ) × (h ≡ built id)) builder
BuildGood d builder agenda (task ∷ tasks) = BuildGood d builder agenda tasks
