-- The lines of the report, part by part.
use Rattle.std.specs.Prelude.{ℕ, List, [], ◌∷◌, ◌++◌, codes, map}
use Rattle.ui_machine.specs.Definition.{Definition}
use Rattle.ui_machine.specs.Definition.Lookups.{program_at}
use Rattle.law_typing.specs.Graph.{graph}
use Rattle.law_typing.specs.Graph.Channels.{Channel, channels, channels_at}
use Rattle.law_typing.specs.Graph.Channels as entries
use Rattle.law_typing.specs.Verdict.Accepted.{Accepted}
use Rattle.law_typing.specs.Verdict.Report.{channel_line, name_of_program, numbered, report, source_line, text_of_channel}
use Rattle.verified.specs.Told.{bound_of, depth_of}

-- the report, however the definition is accepted
abbrev pub report_of : (d : Definition) → Accepted d → List (List ℕ)
report_of d a = report d (graph d) a.weighed.ranks a.weighed.costs a.weighed.depths

-- a channel's line, by its rank and its bound
abbrev pub line_of_channel : Definition → Channel → (rank bound : ℕ) → List ℕ
line_of_channel d c rank bound = text_of_channel d c ++ (numbered (codes " rank ") rank ++ numbered (codes " bound ") bound)

-- the line of a source's program, by its bound
abbrev pub line_of_source : Definition → (program bound : ℕ) → List ℕ
line_of_source d program bound = codes "source " ++ (name_of_program (program_at d program) ++ numbered (codes " bound ") bound)

-- the lines of the depth and of the build
abbrev pub total_lines : (d : Definition) → Accepted d → List (List ℕ)
total_lines d a = numbered (codes "depth ") (depth_of d a) ∷ numbered (codes "build bound ") (bound_of d a entries.build) ∷ []

-- a channel's line, however the definition is accepted
abbrev pub line_in : (d : Definition) → Accepted d → Channel → List ℕ
line_in d a c = channel_line d (graph d) a.weighed.ranks a.weighed.costs c

-- the lines of the channels
abbrev pub channel_lines : (d : Definition) → Accepted d → List (List ℕ)
channel_lines d a = map (line_in d a) (channels d)

-- those of the channels of a place
abbrev pub place_lines : (d : Definition) → Accepted d → ℕ → List (List ℕ)
place_lines d a place = map (line_in d a) (channels_at d place)

-- the lines of the sources
abbrev pub source_lines : (d : Definition) → Accepted d → List (List ℕ)
source_lines d a = map (source_line d (graph d) a.weighed.costs) (graph d).sources
