-- What is due at a channel, and emissions, each within so many steps and frames.
use Rattle.std.specs.Prelude.{◌≡◌, ℕ, ◌+◌, ◌≤◌, ◌<◌, ⊤, Bool, true, false, List, [], ◌∷◌, None, Some, slice_get}
use Rattle.ui_machine.specs.Seq.{total}
use Rattle.ui_machine.specs.Definition.Kinds.{Kind}
use Rattle.ui_machine.specs.Definition.Values.{Value}
use Rattle.ui_machine.specs.Rules.Transform.{kind_fits}
use Rattle.ui_machine.specs.Definition.Properties.{Spec, is_readable}
use Rattle.ui_machine.specs.Definition.{Definition}
use Rattle.ui_machine.specs.Definition.Signals.{Signal}
use Rattle.ui_machine.specs.Definition.Places.{Bind}
use Rattle.ui_machine.specs.Rules.EmissionPlan.{signal_of}
use Rattle.ui_machine.specs.State.Handlers.{Handler, handler_of}
use Rattle.ui_machine.specs.State.Bindings.{Binding, binding_of, listens}
use Rattle.ui_machine.specs.State.Tasks.{PlanEntry, class_handler, handler, Emission, Task}
use Rattle.ui_machine.specs.State.Tasks as config
use Rattle.ui_machine.specs.Rules.Programs.{all_fit}
use Rattle.ui_machine.specs.Rules.Sets.{has_kind}
use Rattle.law_typing.specs.Rules.RegisterKinds.{class_at}
use Rattle.law_typing.specs.Graph.Channels.{property, signal, spec_at, is_pair}
use Rattle.law_typing.specs.Graph.Tables.{Tables, entry}
use Rattle.law_typing.specs.Verdict.Accepted.{Each}
use Rattle.law_typing.specs.Good.Standing.{Standing, Stands, class_by, lives_by, View}
use Rattle.law_typing.specs.Good.DueCosts.{unsets, due_cost, transfer_cost, due_depth, transfer_depth, turn_cost, turn_depth}
use Rattle.law_typing.specs.Good.Handlers.{Takes}
use Rattle.law_typing.specs.Good.ComingDown.{Down, Suits}

-- what is due at a channel of a living object
pub record DueGood (d : Definition) (costs depths : Tables) (s : Standing) (below : List Task) (id slot steps frames : ℕ) : Type 0 where
  pub place : ℕ
  pub is : s id ≡ Some place
  pub spec : Spec
  pub has : spec_at d place slot ≡ Some spec
  pub cheap : due_cost d costs below (property place slot) ≤ steps
  pub shallow : due_depth d depths below (property place slot) ≤ frames

-- a due set: its value is of the property's kind, and lives; whether it is in range is looked at as it is set
pub record SettingGood (d : Definition) (costs depths : Tables) (s : Standing) (below : List Task) (id slot : ℕ) (v : Value)
    (steps frames : ℕ) : Type 0 where
  pub due : DueGood d costs depths s below id slot steps frames
  pub kind : has_kind v due.spec.kind ≡ true
  pub lives : lives_by s v ≡ true

-- a due notification: its property is readable
pub record NotifyingGood (d : Definition) (costs depths : Tables) (s : Standing) (below : List Task)
    (id slot steps frames : ℕ) : Type 0 where
  pub due : DueGood d costs depths s below id slot steps frames
  pub readable : is_readable due.spec ≡ true

-- only a pair's transfer goes back
abbrev pub GoesBack : Definition → (number : ℕ) → (back : Bool) → Type 0
GoesBack d number back = back ≡ true → (b : Bind) → slice_get d.bindings number ≡ Some b → is_pair b ≡ true

-- a due transfer: its binding is not to be set free below, so that it does not set; it is a counted step, also where the binding has ended
-- by then
pub record TransferringGood (d : Definition) (costs depths : Tables) (w : View) (below : List Task) (number : ℕ) (back : Bool)
    (steps frames : ℕ) : Type 0 where
  pub free : total (unsets number) below ≡ 0
  pub goes_back : GoesBack d number back
  pub cheap : transfer_cost d costs below back (slice_get d.bindings number) ≤ steps
  pub shallow : transfer_depth d depths below back (slice_get d.bindings number) ≤ frames
  pub one : 1 ≤ steps

-- the arguments and the value of an emission are of its signal's kinds
pub record EmissionFits (d : Definition) (s : Standing) (e : Emission) : Type 0 where
  pub place : ℕ
  pub class : ℕ
  pub sig : Signal
  pub is : s e.object ≡ Some place
  pub of_class : class_at d place ≡ Some class
  pub has : signal_of d class e.signal ≡ Some sig
  pub args : all_fit (kind_fits (class_by d s) d.types) e.args sig.params ≡ true
  pub value : (v : Value) → e.value ≡ Some v → (kind : Kind) × (sig.result ≡ Some kind) × (kind_fits (class_by d s) d.types v kind ≡ true)

-- a turn: a class handler takes what it is given, a connected handler is of the emission's object and signal, a transfer's binding
-- listens to the property, and only a pair's goes back
abbrev pub TurnGood : Definition → View → Emission → PlanEntry → Type 0
TurnGood d w e (class_handler program cleanup) = Stands (w.stands) e.object (λ place. Takes d place e.signal program false None)
TurnGood d w e (handler number) = (number ≤ w.last_handler) × ((h : Handler) → handler_of number w.handlers ≡ Some h →
    (h.object ≡ e.object) × (h.signal ≡ e.signal))
TurnGood d w e (config.transfer number back) =
    GoesBack d number back × ((b : Binding) → binding_of number w.bindings ≡ Some b → (slot : ℕ) × (listens e.object slot b ≡ true))

-- the rest of an emission; its program's result, if one comes down, is what the signal wants
pub record EmittingGood (d : Definition) (costs depths : Tables) (w : View) (up : Down) (below : List Task) (e : Emission)
    (turns : List PlanEntry) (steps frames : ℕ) : Type 0 where
  pub fits : EmissionFits d (w.stands) e
  pub suits : Suits d fits.sig.result up
  pub turns_fit : Each (TurnGood d w e) turns
  pub cheap : total (turn_cost d costs w below) turns ≤ steps
  pub shallow : Each (λ turn. 1 + turn_depth d depths w below turn ≤ frames) turns
  pub one : 1 ≤ frames

-- an emission that is to begin
pub record BeginningGood (d : Definition) (costs depths : Tables) (s : Standing) (e : Emission) (steps frames : ℕ) : Type 0 where
  pub fits : EmissionFits d s e
  pub not_notify : 0 < e.signal
  pub cheap : entry costs.channels (signal fits.place e.signal) ≤ steps
  pub shallow : entry depths.channels (signal fits.place e.signal) ≤ frames

-- the notifications that are left of a thaw; an object without any may be gone
abbrev pub ThawingGood : Definition → Tables → Tables → Standing → List Task → ℕ → List ℕ → ℕ → ℕ → Type 0
ThawingGood d costs depths s below id [] steps frames = ⊤
ThawingGood d costs depths s below id (slot ∷ slots) steps frames =
    (place : ℕ) × (s id ≡ Some place)
    × (total (λ slot. due_cost d costs below (property place slot)) (slot ∷ slots) ≤ steps)
    × Each (λ slot. (due_depth d depths below (property place slot) ≤ frames) × (spec : Spec) × (spec_at d place slot ≡ Some spec)
    × (is_readable spec ≡ true)) (slot ∷ slots)
