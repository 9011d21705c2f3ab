-- What a session's peers may do stays as it is from line to line.
use Rattle.std.proofs.Common.{ℕ, ◌+◌, Bool, List, [], ◌∷◌, Option, inl, inr}
use Rattle.native_peers.specs.Seen.{Relations, SameRelations}
use Rattle.engine_dispatches.proofs.Points.{replied_before}
use Rattle.engine_dispatches.proofs.UnderWay.{cut_before}
use Rattle.ui_engine.specs.SessionView.{SessionState, without_lines}
use Rattle.event_lines.specs.EventFileRun as file_run
use Rattle.event_lines.specs.EventFileRun.{EventFileRun, LineComesTo, LinesComeTo, LineSort, Meets, Outcome, said, refused, cut_off, stopped, too_many, too_long, skipped, sort_of_line}
use Rattle.event_lines.specs.Events.{event_replies}

module _ {may later : Relations} (same : SameRelations may later) where
  -- what a session answers
  pub event_before : (old new : SessionState) (line : List ℕ) (outcome : Outcome) → event_replies later old line outcome new → event_replies may old line outcome new
  event_before old new line (said lines) says = record {
    event = says.event;
    tally = says.tally;
    denotes = says.denotes;
    serves = replied_before same (λ replies serves. serves) says.serves;
    shows = says.shows;
    definition = says.definition;
    goes_on = says.goes_on;
  }
  event_before old new line (refused r) is = is
  event_before old new line (cut_off r) never = never
  event_before old new line (stopped lines) (inl h) = inl (record {
    event = h.event;
    denotes = h.denotes;
    breaks_off = replied_before same (λ replies cut. cut_before old.definition same cut) h.breaks_off;
    shows = h.shows;
    definition = h.definition;
    stops = h.stops;
  })
  event_before old new line (stopped lines) (inr wants) = inr wants

  met_before : (f : LineSort) (old new : SessionState) (line : List ℕ) (outcome : Outcome) → Meets (event_replies later) f old line outcome new → Meets (event_replies may) f old line outcome new
  met_before too_many old new line outcome m = m
  met_before too_long old new line outcome m = m
  met_before skipped old new line outcome m = m
  met_before file_run.event old new line outcome m = event_before old new line outcome m

  -- what a line comes to
  pub line_before : (old new : SessionState) (n : ℕ) (line : List ℕ) (outcome : Outcome) → LineComesTo (event_replies later) old n line outcome new → LineComesTo (event_replies may) old n line outcome new
  line_before old new n line outcome (inl m) = inl (met_before (sort_of_line n line) old new line outcome m)
  line_before old new n line outcome (inr wants) = inr wants

  lines_before : (outcomes : List Outcome) (lines : List (List ℕ)) (n : ℕ) (old new : SessionState) → LinesComeTo (event_replies later) without_lines old n lines outcomes new → LinesComeTo (event_replies may) without_lines old n lines outcomes new
  lines_before [] lines n old new told = told
  lines_before (o ∷ outcomes) [] n old new told = absurd told
  lines_before (o ∷ outcomes) (line ∷ lines) n old new told = (told.0, line_before old told.0 n line o told.1, told.2, lines_before outcomes lines (n + 1) (without_lines told.0) new told.3)

  -- and all of them
  pub told_before : {old new : SessionState} {before : List ℕ} {lines : List (List ℕ)} {status : ℕ} {torn : Bool} {unread : Type 0} {first last : Option (List ℕ)} {text : List ℕ}
      → EventFileRun (event_replies later) without_lines old before lines status torn unread first last text new → EventFileRun (event_replies may) without_lines old before lines status torn unread first last text new
  told_before {old} {new} {lines = lines} run = record {
    outcomes = run.outcomes;
    told = lines_before run.outcomes lines 1 old new run.told;
    broke = run.broke;
    whole = run.whole;
    over = run.over;
    answer = run.answer;
    order = run.order;
    heard = run.heard;
  }
