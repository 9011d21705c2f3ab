-- Channels with their numbers.
use Rattle.std.specs.Prelude.{◌≡◌, ◌<◌, ℕ, List, Option, Some, slice_get}
use Rattle.std.specs.BTreeMap.{BTreeMap, get}
use Rattle.std.specs.declared.cmp.Ordering.{Ordering}
use Rattle.std.specs.Ordering.{nat_cmp, ordering_then}
use Rattle.law_typing.specs.Graph.Channels.{Channel, constructed, property, signal}

-- a place, what sort of channel it is, and its slot or number there
abbrev pub Key : Type 0
Key = ℕ × ℕ × ℕ

-- what no two channels share
abbrev pub key_of : Channel → Key
key_of (constructed place) = (place, 0, 0)
key_of (property place slot) = (place, 1, slot)
key_of (signal place number) = (place, 2, number)

abbrev pub compared : Key → Key → Ordering
compared x y = ordering_then (ordering_then (nat_cmp x.0 y.0) (nat_cmp x.1 y.1)) (nat_cmp x.2 y.2)

-- the number that is kept for a channel
abbrev pub keyed : BTreeMap Key ℕ → Channel → Option ℕ
keyed numbers c = get compared numbers (key_of c)

-- the first of some channels, as many as this, have numbers, and each number is that of its channel
pub record AreNumbered (channels : List Channel) (numbers : BTreeMap Key ℕ) (count : ℕ) : Type 0 where
  pub right : (c : Channel) (n : ℕ) → keyed numbers c ≡ Some n → slice_get channels n ≡ Some c
  pub all : (n : ℕ) (c : Channel) → n < count → slice_get channels n ≡ Some c → (i : ℕ) × (keyed numbers c ≡ Some i)
