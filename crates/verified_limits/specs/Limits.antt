-- A limit on the counted steps of each dispatch of a definition.
use Rattle.std.specs.List.{list_all}
use Rattle.std.specs.Prelude.{Bool, List, false, map, nat_le, true, ℕ, ◌++◌, ◌<◌, ◌≡◌, ◌≤◌, ◌∷◌}
use Rattle.ui_machine.specs.Definition.{Definition}
use Rattle.law_typing.specs.Graph.{graph}
use Rattle.law_typing.specs.Graph.Channels.{Entry, channels}
use Rattle.law_typing.specs.Graph.Channels as entries
use Rattle.law_typing.specs.Laws.{IsIn}
use Rattle.law_typing.specs.Verdict.Accepted.{Accepted}
use Rattle.verified.specs.Entries.{is_entry}
use Rattle.verified.specs.Told.{bound_of}

-- what a dispatch may begin with: the build, an event that runs nothing, a source, a channel
abbrev pub ways_in : Definition → List Entry
ways_in d = entries.build ∷ entries.plain ∷ (map entries.source (graph d).sources ++ map entries.at (channels d))

-- whether a dispatch that begins so counts at most so many steps
abbrev pub is_entry_within : (d : Definition) → Accepted d → (most : ℕ) → Entry → Bool
is_entry_within d a most e = nat_le (bound_of d a e) most

-- whether each dispatch does
abbrev pub is_within : (d : Definition) → Accepted d → (most : ℕ) → Bool
is_within d a most = list_all (is_entry_within d a most) (ways_in d)

-- So then no dispatch counts more, whatever it begins with.
abbrev pub NoneCountsMore : Type 0
NoneCountsMore = (d : Definition) (a : Accepted d) (most : ℕ) → is_within d a most ≡ true → (e : Entry) → is_entry d e ≡ true → bound_of d a e ≤ most

-- And else there is one whose bound is greater.
abbrev pub OneIsGreater : Type 0
OneIsGreater = (d : Definition) (a : Accepted d) (most : ℕ) → is_within d a most ≡ false → (e : Entry) × IsIn e (ways_in d) × (most < bound_of d a e)
