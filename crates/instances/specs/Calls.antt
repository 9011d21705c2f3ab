-- What calls on a living object say and change.
use Rattle.std.specs.Prelude.{◌≡◌, ◌+◌, ◌-◌, ◌<◌, ℕ, cond, length, Bool, false, List, Option, None, Some, Ok, option_and_then, slice_get}
use Rattle.ui_machine.specs.Definition.Values.{Value}
use Rattle.ui_machine.specs.Outcome.{After, Answer}
use Rattle.ui_machine.specs.Rules.Disposal.{peer_of}
use Rattle.ui_machine.specs.State.Objects.{Object, changed, living, with_value}
use Rattle.ui_machine.specs.State.References.{in_value}
use Rattle.native_peers.specs.Seen.{Asks, Relations, Seen}
use Rattle.instance_tables.specs.Store.{Store, count_of, may_hold_any, named_by, with_objects}
use Rattle.instance_tables.specs.Weak.{Marks, strong_in}
use Rattle.instance_tables.specs.Release.{values_in}

-- an object that lives has a property in this slot
abbrev pub HasSlot : Store → ℕ → ℕ → Type 0
HasSlot s id slot = slot < length (values_in (living s.objects id))

-- how often a value that is written holds an object from then on: a strong slot holds what lives and may be held once more
abbrev pub newly_held : Store → Bool → Value → ℕ → ℕ
newly_held s strong v o = cond strong (cond (may_hold_any s (named_by v)) (in_value o v) 0) 0

-- A property has this value, where it had another. Where it is strong, it holds the new one's object, and the old one's no more.
pub record Writes (weak : Marks) (id slot : ℕ) (was v : Value) (old new : Store) : Type 0 where
  pub objects : changed old.objects id (with_value slot v) ≡ Ok (record { state = new.objects; answer = was })
  pub beside : new ≡ record old { objects = new.objects; counts = new.counts }
  pub counts : let strong = strong_in weak slot (living old.objects id) in
      (o : ℕ) → count_of new.counts o ≡ count_of old.counts o + newly_held old strong v o - cond strong (in_value o was) 0

-- ** peers

-- what is seen of the peer of an object, if it has one
abbrev pub peer_seen : List Seen → Option Object → Option Seen
peer_seen pool o = option_and_then (slice_get pool) (peer_of o)

-- whether it may be called: not without a peer
abbrev pub is_callable : Option Seen → Bool
is_callable None = false
is_callable (Some p) = p.state.is_open

-- the peer of an object was asked, and gave this answer
abbrev pub AsksOf : Option Object → List Seen → List Seen → Relations → ℕ → List Value → Option Value → Type 0
AsksOf o old new relations method args answer = (number : ℕ) × (peer_of o ≡ Some number) × Asks number old new relations method args answer

-- ** one object

-- One object was changed so, with this answer. Each is held as often as before.
pub record Changes {X : Type 0} (id : ℕ) (change : Object → Answer (After Object X)) (answer : X) (old new : Store) : Type 0 where
  pub objects : changed old.objects id change ≡ Ok (record { state = new.objects; answer = answer })
  pub beside : new ≡ with_objects old new.objects
