-- A turn of the main loop: which sources are to run, and how each goes on (GLib manual, g_main_context_iteration).
use Rattle.std.specs.List.{filter, list_all}
use Rattle.std.specs.Prelude.{Bool, Err, List, None, Ok, Option, Some, [], cond, false, int_le, map, nat_le, nat_lt, not, true, ℕ, ◌&&◌, ◌||◌, ◌∷◌}
use Rattle.ui_machine.specs.declared.arm.Arm.TheVariants as arms
use Rattle.ui_machine.specs.Definition.{Definition}
use Rattle.ui_machine.specs.Definition.Values.{Value}
use Rattle.ui_machine.specs.Definition.Values as values
use Rattle.ui_machine.specs.Outcome.{Answer, known, ◌>>=◌}
use Rattle.ui_machine.specs.Output.Lines as lines
use Rattle.ui_machine.specs.Rules.Programs.{program_before}
use Rattle.ui_machine.specs.State.Config.{Started, World, said, untold}
use Rattle.ui_machine.specs.State.Sources.{Source, due_after, is_numbered, source_of, without_source}
use Rattle.ui_machine.specs.State.Tasks.{Answering}

-- ** which are to run

-- an idle is always ready, a timeout from its due moment on
abbrev pub is_ready : ℕ → Source → Bool
is_ready moment s = is_due s.interval
  where
    is_due : Option ℕ → Bool
    is_due None = true
    is_due (Some interval) = nat_le s.due moment

-- whether no ready source has a lower priority number
abbrev pub is_foremost : ℕ → List Source → Source → Bool
is_foremost moment sources s = list_all (λ t. not (is_ready moment t) || int_le s.priority t.priority) sources

-- the ready sources with the least priority number among the ready ones, in order of attachment
abbrev pub ready : ℕ → List Source → List Source
ready moment sources = filter (λ s. is_ready moment s && is_foremost moment sources s) sources

-- ** what a source's program answers

-- the sources where the one of the number is due one interval after the moment
abbrev pub rescheduled : (moment number : ℕ) → List Source → List Source
rescheduled moment number sources = map (λ s. cond (is_numbered number s) (record s { due = due_after moment s.interval }) s) sources

-- the sources after the program of one has answered: FALSE removes it, TRUE keeps it
abbrev pub answered : (moment number : ℕ) → Bool → List Source → List Source
answered moment number false sources = without_source number sources
answered moment number true sources = rescheduled moment number sources

-- a source's program says whether the source stays (GLib manual, GSourceFunc)
abbrev pub kept_source : World → ℕ → Option Value → Answer World
kept_source w source (Some (values.bool keep)) = Ok (record w { sources = answered w.moment source keep w.sources })
kept_source w source _ = Err arms.Result

-- ** requests

-- the program of a ready source begins, with its data
abbrev pub source_data : Option ℕ → List Value
source_data None = []
source_data (Some id) = values.object (Some id) ∷ []

-- a due source runs
unfoldable pub sourcing : Definition → World → ℕ → Answer Started
sourcing d w source = do
  s ← known arms.Code (source_of source w.sources)
  program_before d w s.program (source_data s.arg) (Answering source ∷ [])

-- ** a turn

-- whether a moment lies before the latest one
abbrev pub is_back : World → ℕ → Bool
is_back w moment = nat_lt moment w.moment

-- the world as a turn begins
abbrev pub turned : Definition → World → ℕ → World
turned d w moment = record (said d (untold w) (lines.turn moment)) { moment = moment }

-- the numbers of the sources that a turn is to run
abbrev pub ready_at : World → ℕ → List ℕ
ready_at w moment = map (λ (s : Source). s.number) (ready moment w.sources)
