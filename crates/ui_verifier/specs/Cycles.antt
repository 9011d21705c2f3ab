-- The first channel of a cycle in the report.
use Rattle.std.specs.Prelude.{◌≡◌, ◌≤◌, ◌<◌, ℕ, suc, cond, List, [], ◌∷◌, length, map, Some, slice_get, get_or}
use Rattle.law_typing.specs.Graph.Channels.{Channel, same_channel}
use Rattle.verify_graph.specs.ChannelView.{channel_of}
use Rattle.ui_verifier.specs.declared.faults.CycleLink.{CycleLink}

-- how many channels are before this one, all of them where it is not there
abbrev pub line_among : List Channel → Channel → ℕ
line_among [] c = 0
line_among (e ∷ es) c = cond (same_channel e c) 0 (suc (line_among es c))

-- those of links
abbrev pub lines : List Channel → List CycleLink → List ℕ
lines all links = map (λ (l : CycleLink). line_among all (channel_of l.from)) links

-- the number of one of the least of some numbers
pub record IsFirst (values : List ℕ) (first : ℕ) : Type 0 where
  pub within : first ≤ length values
  pub least : (k n : ℕ) → slice_get values k ≡ Some n → (first < length values) × (get_or values first 0 ≤ n)
