-- Pairs of channels by numbers.
use Rattle.std.specs.Prelude.{◌≡◌, ℕ, true, cond, List, [], ◌∷◌, length, Option, None, Some, is_some, option_and_then, slice_get}
use Rattle.std.specs.List.{flat_map}
use Rattle.ui_machine.specs.Seq.{listed, read}
use Rattle.ui_machine.specs.Definition.{Definition}
use Rattle.ui_machine.specs.Definition.Lookups.{specs_of}
use Rattle.law_typing.specs.Rules.RegisterKinds.{class_at}
use Rattle.law_typing.specs.Graph.Channels.{Channel, of_class, property}
use Rattle.law_typing.specs.Graph.Costs.{other_end_in}
use Rattle.law_typing.specs.Graph.Ranks.{node_in}
use Rattle.verify_graph.specs.Numbers.{number_of}

-- both ends of each pair are among some channels
abbrev pub HaveNumbers : List Channel → List (Channel × Channel) → Type 0
HaveNumbers all [] = Unit {0}
HaveNumbers all (p ∷ ps) = (is_some (number_of all p.0) ≡ true) × (is_some (number_of all p.1) ≡ true) × HaveNumbers all ps

-- the number of the other end of a channel's pair
abbrev pub other_number : List Channel → List (Channel × Channel) → Channel → Option ℕ
other_number all pairs c = option_and_then (number_of all) (other_end_in pairs c)

-- Of each channel the number of the first end of its pair, or its own, and that of the other end. So it is where both ends of each pair are there.
pub record ArePaired (all : List Channel) (pairs : List (Channel × Channel)) (firsts : List ℕ) (others : List (Option ℕ)) : Type 0 where
  pub firsts_length : length firsts ≡ length all
  pub others_length : length others ≡ length all
  pub first : HaveNumbers all pairs → (n : ℕ) (c : Channel) → slice_get all n ≡ Some c → number_of all (node_in pairs c) ≡ slice_get firsts n
  pub other : HaveNumbers all pairs → (n : ℕ) (c : Channel) → slice_get all n ≡ Some c → slice_get others n ≡ Some (other_number all pairs c)

-- a number, if the channel of it is in a pair
abbrev pub if_paired : List (Option ℕ) → Option ℕ → List ℕ
if_paired others None = []
if_paired others (Some n) = cond (is_some (read None others n)) (n ∷ []) []

-- how many properties a place has
abbrev pub slots_at : Definition → ℕ → ℕ
slots_at d place = length (of_class (specs_of d) (class_at d place))

-- the paired properties of a place, by number
abbrev pub paired_at : Definition → List Channel → List (Option ℕ) → ℕ → List ℕ
paired_at d all others place = flat_map (λ slot. if_paired others (number_of all (property place slot))) (listed (λ slot. slot) (slots_at d place))
