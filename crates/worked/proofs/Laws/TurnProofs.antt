-- What the law asks of a dispatch in a turn is met.
use Rattle.std.proofs.Common.{◌≡◌, refl, sym, subst, [], ◌∷◌, None, arith}
use Rattle.ui_machine.specs.Output.Lines as output
use Rattle.ui_machine.specs.State.Tasks.{Due, emit, request, turn}
use Rattle.ui_machine.specs.State.Config.{World, Config, said}
use Rattle.ui_machine.specs.Rules.MainLoop.{turned}
use Rattle.ui_machine.specs.Runs.{Dispatches, beginning, no_dispatch, one_dispatch}
use Rattle.law_typing.specs.Verdict.Accepted.{Each}
use Rattle.law_typing.proofs.WellReadProofs.{well_read}
use Rattle.law_steps.specs.Served.Sessions.{EventRead, Serves, Runs}
use Rattle.law_reading.specs.ReadRuns.{events_in}
use Rattle.law_reading.proofs.RunProofs.{read_never_stuck}
use Rattle.worked.specs.Laws.WorkedSources.{bytes, definition, lines, events}
use Rattle.worked.specs.Laws.WorkedTurn.{TurnMet, TurnKeeps, dispatch, second}
use Rattle.worked.proofs.Laws.Machine.{machine}
use Rattle.worked.proofs.Laws.Silent.{steps_of}
use Rattle.worked.proofs.Laws.Begun.{pool_ready, served, world_after, config_after}
use Rattle.worked.proofs.Laws.SourceReads.{premises_met}

-- the world after the two requests, and that in which the turn begins
abbrev world : World
world = world_after definition [] (request (emit 0 1 [] None) ∷ request (emit 0 1 [] None) ∷ [])

abbrev begun : World
begun = turned definition world 100

-- where the dispatch of the first timeout begins, where it has ended, and the world that it leaves
abbrev first : Config
first = beginning begun (Due 1)

abbrev last : Config
last = config_after 3 definition first

abbrev mid : World
mid = said definition last.world (output.end last.counted)

-- they are the events of the lines
of_lines : events ≡ events_in definition lines
of_lines = sym premises_met.events

serves : Serves definition [] events (turn 100) world
unfolding machine
serves = served definition [] (request (emit 0 1 [] None) ∷ request (emit 0 1 [] None) ∷ []) _ (turn 100) world refl refl

first_ends : Dispatches definition [] first 2 mid
unfolding machine
first_ends = record {
  at = last;
  reached = record { count = 3; steps = steps_of 3 definition first last refl refl };
  ended = record { agenda = refl; floating = refl; held = refl };
  counts = refl;
  leaves = refl;
}

runs : Runs definition world 100 3 mid second
unfolding machine
runs = record {
  before = 1 ∷ [];
  later = [];
  is = refl;
  replies = [];
  fit = tt;
  tally = one_dispatch 2;
  run = record {
    first = [];
    later = [];
    mid = mid;
    first_tally = one_dispatch 2;
    later_tally = no_dispatch;
    replied = refl;
    counts = refl;
    begins = record { steps = 2; counts = refl; dispatches = first_ends };
    goes_on = record { replied = refl; counts = refl; same = refl };
  };
  stands = refl;
}

read : Each (EventRead definition) events
read = (
  ((_, refl, refl), 2, _, refl, refl, omega arith, tt, refl),
  (((_, refl, refl), 2, _, refl, refl, omega arith, tt, refl), (tt, (((_, refl, refl), _, refl, refl, refl, refl), (tt, tt)))),
)

turn_met : TurnMet
unfolding machine runs
turn_met = record {
  well = well_read _ refl;
  accepted = premises_met.accepted;
  ready = pool_ready definition refl;
  read = subst (Each (EventRead definition)) of_lines read;
  world = world;
  serves = subst (λ es. Serves definition [] es (turn 100) world) of_lines serves;
  waiting = refl;
  mid = mid;
  runs = runs;
  after_one = refl;
}

pub turn_keeps : TurnKeeps
unfolding turn_met
turn_keeps = record {
  met = turn_met;
  keeps = read_never_stuck bytes definition premises_met.read turn_met.accepted [] turn_met.ready lines (dispatch turn_met);
}
