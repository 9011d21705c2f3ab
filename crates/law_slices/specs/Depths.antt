-- Parts of dispatches, by the depth of the report.
use Rattle.std.specs.Prelude.{◌≡◌, ℕ, ◌+◌, ◌-◌, ◌*◌, ◌≤◌, Option, Some, option_map}
use Rattle.ui_machine.specs.Definition.{Definition}
use Rattle.law_typing.specs.Graph.{graph}
use Rattle.law_typing.specs.Graph.Depths.{depth, depths}
use Rattle.law_typing.specs.Graph.Tables.{Tables}
use Rattle.law_typing.specs.Verdict.Accepted.{Accepted}
use Rattle.law_prices.specs.Bounds.{Within}
use Rattle.law_prices.specs.Dispatches.{NoneHasEnded}
use Rattle.law_slices.specs.Lists.{extra}
use Rattle.law_slices.specs.Parts.{OfParts}

-- the depth of the report: the most frames of any configuration
abbrev pub most_frames : Definition → Option ℕ
most_frames d = option_map (λ (t : Tables). depth (graph d) t) (depths (graph d))

-- an accepted definition has one
abbrev pub DepthIsFound : Type 0
DepthIsFound = (d : Definition) → Accepted d → (frames : ℕ) × (most_frames d ≡ Some frames)

-- the most tasks of an agenda with so many frames
abbrev pub most_tasks : ℕ → ℕ
most_tasks frames = 2 * frames + 3

-- Until the dispatch has ended, a part in which at most k steps are counted has no more steps than these, for each of them and once more the
-- most tasks, and the dispatch's bound by the list of extra steps.
abbrev pub PartsAreWithinDepth : Type 0
PartsAreWithinDepth =
    OfParts
    (λ d e n replies c at s. NoneHasEnded d n replies c at s → (frames : ℕ) → most_frames d ≡ Some frames → (k : ℕ) →
    at.counted ≤ c.counted + k → Within d extra e (n - (k + (k + 1) * most_tasks frames)))

-- So a run of uncounted steps has no more than the most tasks, and that bound.
abbrev pub QuietPartsAreWithinDepth : Type 0
QuietPartsAreWithinDepth =
    OfParts
    (λ d e n replies c at s. NoneHasEnded d n replies c at s → (frames : ℕ) → most_frames d ≡ Some frames → at.counted ≡ c.counted →
    Within d extra e (n - most_tasks frames))
