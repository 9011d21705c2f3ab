-- The numbers of channels among others.
use Rattle.std.specs.Prelude.{◌≡◌, ◌≤◌, ℕ, suc, cond, List, [], ◌∷◌, length, Option, None, Some, slice_get}
use Rattle.std.specs.List.{filter_map}
use Rattle.law_typing.specs.Graph.Channels.{Channel, same_channel}

-- the number of a channel among some, where the first of them has this number
abbrev pub number_from : ℕ → List Channel → Channel → Option ℕ
number_from n [] c = None
number_from n (e ∷ es) c = cond (same_channel e c) (Some n) (number_from (suc n) es c)

-- the number of a channel, if it is there
abbrev pub number_of : List Channel → Channel → Option ℕ
number_of all c = number_from 0 all c

-- the numbers of those of some channels that are there
abbrev pub numbers_of : List Channel → List Channel → List ℕ
numbers_of all cs = filter_map (number_of all) cs

-- no channel is there twice
abbrev pub IsOnce : List Channel → Type 0
IsOnce all = (i j : ℕ) (c : Channel) → slice_get all i ≡ Some c → slice_get all j ≡ Some c → i ≡ j

-- channels that can be numbered: none is there twice, and there are no more than 512 places may have
pub record AreCountable (all : List Channel) : Type 0 where
  pub once : IsOnce all
  pub few : length all ≤ 33554432
