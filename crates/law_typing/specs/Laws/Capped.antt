-- Costs past the greatest bound need not be kept apart. Capped one above it, sums, greatest values and products come out as without,
-- and so do the equations of costs.
use Rattle.std.specs.Prelude.{◌≡◌, ℕ, max, min, ◌+◌, ◌*◌, ◌<◌, List, map}
use Rattle.law_typing.specs.Graph.Channels.{Channel, Entry}
use Rattle.law_typing.specs.Graph.{Graph, Raised, Stretch}
use Rattle.law_typing.specs.Graph.Tables.{Tables}
use Rattle.law_typing.specs.Graph.Costs.{program_cost, channel_cost, bound}
use Rattle.law_typing.specs.Verdict.{most_bound}

-- a number, or one more than the greatest bound where it is above that
abbrev pub capped : ℕ → ℕ
capped n = min n (1 + most_bound)

pub record CappedLaws : Type 0 where
  pub again : (a : ℕ) → capped (capped a) ≡ capped a
  pub sum : (a b : ℕ) → capped (capped a + capped b) ≡ capped (a + b)
  pub greatest : (a b : ℕ) → max (capped a) (capped b) ≡ capped (max a b)
  pub times : (n a : ℕ) → capped (n * capped a) ≡ capped (n * a)
  -- what is above the greatest bound stays above it, and what is not is not changed
  pub above : (a : ℕ) → most_bound < a → most_bound < capped a
  pub within : (a : ℕ) → most_bound < capped a → most_bound < a

-- tables with each number capped
abbrev pub capped_tables : Tables → Tables
capped_tables t = record {
  channels = map (λ (x : Channel × ℕ). (x.0, capped x.1)) t.channels;
  programs = map capped t.programs;
}

-- with capped tables each equation gives the same number, capped, and the same bounds are too large
abbrev pub CostsCapped : Type 0
CostsCapped =
    (g : Graph) (t : Tables) →
    ((r : Raised) → capped (channel_cost g (capped_tables t) r) ≡ capped (channel_cost g t r))
    × ((stretches : List Stretch) → capped (program_cost g (capped_tables t) stretches) ≡ capped (program_cost g t stretches))
    × ((e : Entry) → most_bound < bound g (capped_tables t) e → most_bound < bound g t e)
    × ((e : Entry) → most_bound < bound g t e → most_bound < bound g (capped_tables t) e)
