-- What is written of a line.
use Rattle.std.specs.Prelude.{ℕ, List, [], ◌∷◌, ◌++◌, flat_map, codes, decimal}
use Rattle.ui_machine.specs.Rules.Events as machine
use Rattle.law_peers.specs.Needs.{Mismatch, missing, closed, misshapen, unused}
use Rattle.builder_defs.specs.Refusals.{Refusal}
use Rattle.builder_defs.specs.FaultText.{printed, refusal_text}
use Rattle.builder_defs.specs.EventMeaning.{EventRefusal, too_long, not_json, shape, unknown, not_readable, not_writable, construct_only, value_fault}
use Rattle.event_lines.specs.declared.refusal.LineRefusal.{LineRefusal}
use Rattle.event_lines.specs.declared.refusal.LineRefusal.TheVariants as refusals

-- the refusal of a line that denotes no event
abbrev pub line_refusal : EventRefusal → LineRefusal
line_refusal too_long = refusals.TooLong
line_refusal not_json = refusals.NotJson
line_refusal shape = refusals.Shape
line_refusal (unknown name) = refusals.Unknown
line_refusal not_readable = refusals.NotReadable
line_refusal not_writable = refusals.NotWritable
line_refusal construct_only = refusals.ConstructOnly
line_refusal value_fault = refusals.ValueFault

-- that of an event which the machine refuses: it names an object that was let go, or is a turn of a moment before the latest one
abbrev pub refusal_of_event : machine.Refusal → LineRefusal
refusal_of_event machine.gone = refusals.Released
refusal_of_event machine.clock_back = refusals.ClockBack

abbrev pub name_of : LineRefusal → List ℕ
name_of refusals.TooLong = codes "TooLong"
name_of refusals.TooMany = codes "TooMany"
name_of refusals.NotJson = codes "NotJson"
name_of refusals.Shape = codes "Shape"
name_of refusals.Unknown = codes "Unknown"
name_of refusals.NotReadable = codes "NotReadable"
name_of refusals.NotWritable = codes "NotWritable"
name_of refusals.ConstructOnly = codes "ConstructOnly"
name_of refusals.ValueFault = codes "ValueFault"
name_of refusals.ClockBack = codes "ClockBack"
name_of refusals.Released = codes "Released"

abbrev pub joined : List (List ℕ) → List ℕ
joined parts = flat_map (λ part. part) parts

-- whole lines, each with its LF
abbrev pub lines_text : List (List ℕ) → List ℕ
lines_text lines = flat_map (λ line. joined (line ∷ codes "\n" ∷ [])) lines

abbrev pub refused_line : ℕ → LineRefusal → List ℕ
refused_line n refusal = joined (codes "line " ∷ decimal n ∷ codes " refused: " ∷ name_of refusal ∷ codes "\n" ∷ [])

-- no memory was found for the line numbered n
abbrev pub stopped_line : ℕ → List ℕ
stopped_line n = joined (codes "line " ∷ decimal n ∷ codes " stopped: OutOfMemory\n" ∷ [])

-- ** before the events

-- a definition's bytes are refused
abbrev pub definition_refused : Refusal → List ℕ
definition_refused refusal = joined (codes "refused: " ∷ refusal_text refusal ∷ codes "\n" ∷ [])

-- how a pool fails to match a definition
abbrev pub mismatch_text : Mismatch → List ℕ
mismatch_text (missing name) = codes "PeerMissing " ++ printed name
mismatch_text (closed name) = codes "PeerClosed " ++ printed name
mismatch_text (misshapen name) = codes "PeerShape " ++ printed name
mismatch_text (unused name) = codes "PeerUnused " ++ printed name

-- a definition does not match the pool
abbrev pub definition_mismatched : Mismatch → List ℕ
definition_mismatched mismatch = joined (codes "refused: " ∷ mismatch_text mismatch ∷ codes "\n" ∷ [])

-- no memory was found before the build
abbrev pub nothing_begun : List ℕ
nothing_begun = codes "refused: OutOfMemory\n"

-- no memory was found in the build
abbrev pub build_stopped : List ℕ
build_stopped = codes "build stopped: OutOfMemory\n"
