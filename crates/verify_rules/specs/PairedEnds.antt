-- The ends of the bindings that go both ways.
use Rattle.std.specs.Prelude.{◌≡◌, ◌||◌, ◌&&◌, ℕ, Bool, List}
use Rattle.std.specs.List.{list_any}
use Rattle.std.specs.BTreeSet.{BTreeSet, contains}
use Rattle.std.specs.declared.cmp.Ordering.{Ordering}
use Rattle.std.specs.Ordering.{nat_cmp, ordering_then}
use Rattle.ui_machine.specs.Definition.Places.{Bind}
use Rattle.law_typing.specs.Graph.Channels.{Channel, is_pair, property, same_channel, source_of, target_of}

-- a property of a place, by the place's number and its slot
abbrev pub End : Type 0
End = ℕ × ℕ

-- by place, then by slot
abbrev pub compared : End → End → Ordering
compared x y = ordering_then (nat_cmp x.0 y.0) (nat_cmp x.1 y.1)

-- whether a property is among some
abbrev pub has : BTreeSet End → (place slot : ℕ) → Bool
has ends place slot = contains compared ends (place, slot)

-- whether an end of a binding is
abbrev pub is_taken : BTreeSet End → Bind → Bool
is_taken ends b = has ends b.source b.source_slot || has ends b.target b.target_slot

-- whether a property is an end of a binding that goes both ways
abbrev pub is_end : Channel → Bind → Bool
is_end c b = is_pair b && (same_channel (source_of b) c || same_channel (target_of b) c)

-- the ends of a binding that goes both ways are put to some
abbrev pub AddsEnds : BTreeSet End → BTreeSet End → Bind → Type 0
AddsEnds old new b = (place slot : ℕ) → has new place slot ≡ (is_end (property place slot) b || has old place slot)

-- some are the ends of these bindings
abbrev pub AreEnds : BTreeSet End → List Bind → Type 0
AreEnds ends bindings = (place slot : ℕ) → has ends place slot ≡ list_any (is_end (property place slot)) bindings
