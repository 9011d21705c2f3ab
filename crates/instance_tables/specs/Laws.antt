-- How mentions move where objects are written, disposed and finalised.
use Rattle.std.specs.Prelude.{◌≡◌, ℕ, ◌+◌, ◌-◌, ◌<◌, ◌++◌, ◌∷◌, [], cond, true, List, Option, Some, None, slice_get, slice_set, IsSome}
use Rattle.std.specs.List.{list_all}
use Rattle.ui_machine.specs.Seq.{total}
use Rattle.ui_machine.specs.Definition.{Definition}
use Rattle.ui_machine.specs.Definition.Lookups.{specs_of}
use Rattle.ui_machine.specs.Definition.Places.{Place}
use Rattle.ui_machine.specs.Definition.Properties.{Spec}
use Rattle.ui_machine.specs.Definition.Values.{Value}
use Rattle.ui_machine.specs.State.Objects.{Object, Objects, living, put}
use Rattle.ui_machine.specs.State.References.{in_object, in_value, in_values, next_unheld, same}
use Rattle.ui_machine.specs.Rules.Construction.{has_valid_default, new_object}
use Rattle.ui_machine.specs.Rules.Disposal.{all_forget, objects_disposed}
use Rattle.instance_tables.specs.Store.{Store, count_of, with_count, with_object, with_objects}
use Rattle.instance_tables.specs.Weak.{Marks, Knows, is_strong}
use Rattle.instance_tables.specs.Release.{Disposes, Finalises}
use Rattle.instance_tables.specs.Family.{Joins, Leaves, Sinks}

-- a strong property that is written lets its old value go and holds the new one, and a weak one moves nothing
abbrev pub WritesMove : Type 0
WritesMove =
    (specs : List Spec) (vs : List Value) (slot : ℕ) (s : Spec) (old v : Value) (o : ℕ)
    → slice_get specs slot ≡ Some s → slice_get vs slot ≡ Some old
    → in_values o specs (slice_set vs slot v) + cond s.weak 0 (in_value o old) ≡ in_values o specs vs + cond s.weak 0 (in_value o v)

-- a disposed object holds nothing any more, and what the others hold stays
abbrev pub DisposeMoves : Type 0
DisposeMoves =
    (d : Definition) (os : Objects) (id o : ℕ)
    → total (in_object d o) (objects_disposed d id os) + in_object d o (living os id) ≡ total (in_object d o) os

-- finalising takes off what the object held, and nothing else
abbrev pub FinaliseMoves : Type 0
FinaliseMoves =
    (d : Definition) (os : Objects) (id o : ℕ)
    → total (in_object d o) (put (objects_disposed d id os) id None) + in_object d o (living os id) ≡ total (in_object d o) os

-- counts that are the mentions wherever an object lives find the same one to finalise
abbrev pub CountsFind : Type 0
CountsFind =
    (os : Objects) (counts mentions : ℕ → ℕ) → ((id : ℕ) → IsSome (living os id) → counts id ≡ mentions id)
    → next_unheld counts os ≡ next_unheld mentions os

-- each count is what the objects and what floats hold of it, and what is held beside them
abbrev pub Counted : Definition → (ℕ → ℕ) → Store → Type 0
Counted d beside s = (o : ℕ) → count_of s.counts o ≡ total (in_object d o) s.objects + (total (same o) s.floating + beside o)

-- where the counts are exact and what does not live is not held, all that is held lives
abbrev pub HeldLives : Type 0
HeldLives =
    (d : Definition) (beside : ℕ → ℕ) (s : Store) (o : ℕ) → Counted d beside s
    → ((i : ℕ) → living s.objects i ≡ None → count_of s.counts i ≡ 0)
    → 0 < total (in_object d o) s.objects + (total (same o) s.floating + beside o) → IsSome (living s.objects o)

-- where nothing is, nothing is held
abbrev pub NoneCounts : Type 0
NoneCounts = (d : Definition) (limit : ℕ) → Counted d (λ o. 0) (record { objects = []; counts = []; limit = limit; floating = [] })

-- what a new object holds was held beside the others
abbrev pub CreateCounts : Type 0
CreateCounts =
    (d : Definition) (beside : ℕ → ℕ) (s : Store) (x : Object) → Counted d (λ o. beside o + in_object d o (Some x)) s
    → Counted d beside (with_object x s)

-- as the machine makes an object, it holds nothing
abbrev pub MadeHoldsNothing : Type 0
MadeHoldsNothing =
    (d : Definition) (place : ℕ) (p : Place) (peer : Option ℕ) (o : ℕ) → list_all (has_valid_default d) (specs_of d p.class) ≡ true
    → in_object d o (Some (new_object d place p peer)) ≡ 0

-- what begins floating is held once more
abbrev pub FloatCounts : Type 0
FloatCounts =
    (d : Definition) (beside : ℕ → ℕ) (s : Store) (id : ℕ) → IsSome (living s.objects id) → Counted d beside s
    → Counted d beside (with_count (record s { floating = s.floating ++ id ∷ [] }) id (count_of s.counts id + 1))

-- whatever is marked, there is a definition with these marks
abbrev pub MarksKnown : Type 0
MarksKnown = (weak : Marks) → (d : Definition) × Knows d weak

-- what is held once more is held so beside them
abbrev pub HoldCounts : Type 0
HoldCounts =
    (d : Definition) (beside : ℕ → ℕ) (s : Store) (id : ℕ) → IsSome (living s.objects id) → Counted d beside s
    → Counted d (λ o. beside o + same o id) (with_count s id (count_of s.counts id + 1))

-- and what is let go of was held beside them
abbrev pub LetGoCounts : Type 0
LetGoCounts =
    (d : Definition) (beside : ℕ → ℕ) (s : Store) (id : ℕ) → 0 < id → Counted d (λ o. beside o + same o id) s
    → Counted d beside (with_count s id (count_of s.counts id - 1))

-- what no longer floats is held so much less, and nothing else is
abbrev pub SinkCounts : Type 0
SinkCounts = (d : Definition) (beside : ℕ → ℕ) (s n : Store) (id : ℕ) → Sinks id s n → Counted d beside s → Counted d beside n

-- nothing is held more or less where all forget one
abbrev pub ForgetCounts : Type 0
ForgetCounts =
    (d : Definition) (beside : ℕ → ℕ) (s : Store) (id : ℕ) → Counted d beside s
    → Counted d beside (with_objects s (all_forget d id s.objects))

-- a child is held once more, by its parent, and no longer as a floating one
abbrev pub JoinCounts : Type 0
JoinCounts =
    (d : Definition) (beside : ℕ → ℕ) (s n : Store) (parent child : ℕ) → IsSome (living s.objects parent)
    → Joins parent child s n → Counted d beside s → Counted d beside n

-- a child that leaves its parent is held by it no more
abbrev pub LeaveCounts : Type 0
LeaveCounts =
    (d : Definition) (beside : ℕ → ℕ) (s n : Store) (parent child : ℕ) → Leaves parent child s n → Counted d beside s
    → Counted d beside n

-- what is disposed holds nothing any more, and the counts say so
abbrev pub DisposeCounts : Type 0
DisposeCounts =
    (d : Definition) (beside : ℕ → ℕ) (s n : Store) (id : ℕ) → Disposes d id s n → Counted d beside s → Counted d beside n

-- and neither does what is finalised
abbrev pub FinaliseCounts : Type 0
FinaliseCounts =
    (d : Definition) (beside : ℕ → ℕ) (s n : Store) (id : ℕ) → Finalises d id s n → Counted d beside s → Counted d beside n

-- a written property moves just the counts that it moves
abbrev pub WriteCounts : Type 0
WriteCounts =
    (d : Definition) (weak : Marks) (beside : ℕ → ℕ) (s n : Store) (id slot : ℕ) (x : Object) (was v : Value)
    → Knows d weak → living s.objects id ≡ Some x → slice_get x.values slot ≡ Some was
    → n.objects ≡ put s.objects id (Some (record x { values = slice_set x.values slot v })) → n.floating ≡ s.floating
    → ((o : ℕ) → count_of n.counts o
    ≡ count_of s.counts o + cond (is_strong weak x.class slot) (in_value o v) 0 - cond (is_strong weak x.class slot) (in_value o was) 0)
    → Counted d beside s → Counted d beside n

-- where the counts are exact, the object that is found is the lowest that nothing holds
abbrev pub CountedFinds : Type 0
CountedFinds =
    (d : Definition) (beside : ℕ → ℕ) (s : Store) → Counted d beside s
    → next_unheld (count_of s.counts) s.objects
    ≡ next_unheld (λ o. total (in_object d o) s.objects + (total (same o) s.floating + beside o)) s.objects
