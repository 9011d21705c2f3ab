-- A session in a turn.
use Rattle.std.proofs.Common.{◌≡◌, refl, [], ◌∷◌, Some, length, true, arith}
use Rattle.std.proofs.lemmas.Bool.Decides.{nat_tests}
use Rattle.ui_machine.specs.State.Tasks.{Due, Event, emit, request, turn}
use Rattle.ui_machine.specs.State.Config.{Config, World}
use Rattle.ui_machine.specs.Rules.MainLoop.{turned}
use Rattle.ui_machine.specs.Runs.{Reaches, beginning}
use Rattle.ui_machine.specs.State.Sources.{Source}
use Rattle.std.specs.Prelude.{List, None, nat_le}
use Rattle.law_typing.specs.Verdict.Accepted.{Each}
use Rattle.law_typing.specs.Laws.WellRead.{WellRead}
use Rattle.law_typing.proofs.WellReadProofs.{well_read}
use Rattle.law_steps.specs.Served.Sessions.{EventRead}
use Rattle.law_steps.proofs.Served.SessionProofs.{runs_rest}
use Rattle.worked.specs.Laws.WorkedSources.{definition}
use Rattle.worked.specs.Laws.WorkedTurn.{second}
use Rattle.worked.proofs.Laws.Machine.{machine}
use Rattle.worked.proofs.Laws.Silent.{none_replied, steps_of}
use Rattle.machine_rows.proofs.PlayLaw.{played_is_run}
use Rattle.worked.proofs.Laws.Begun.{config_after, pool_ready, world_after}
use Rattle.engine_dispatches.specs.Courses.{IsUnderWay, MayBegin, SourceStarts}
use Rattle.engine_dispatches.specs.Promises.{Rests}
use Rattle.engine_dispatches.specs.Ways.{tally_of}
use Rattle.ui_engine.specs.SessionView.{InCourse, point_in}
use Rattle.worked.specs.Sessions.InTurn.{MetInTurn, course, none_may, session_at}

-- the requests before the turn, and the world that they leave
abbrev before : List Event
before = request (emit 0 1 [] None) ∷ request (emit 0 1 [] None) ∷ []

abbrev world : World
world = world_after definition [] before

abbrev begun : World
begun = turned definition world 100

-- the dispatch of the first timeout, in which a step is counted
abbrev start : Config
start = beginning begun (Due 1)

abbrev at : Config
at = config_after 2 definition start

-- the first timeout is like the second, and was attached before it
abbrev first : Source
first = record second { number = 1 }

well : WellRead definition
well = well_read _ refl

read : Each (EventRead definition) before
read = (((_, refl, refl), 2, _, refl, refl, omega arith, tt, refl), (((_, refl, refl), 2, _, refl, refl, omega arith, tt, refl), tt))

rests : Rests definition world
unfolding machine
rests a =
    let run = played_is_run definition [] before [] (record { at = world; script = [] }) refl in
    let few : nat_le (length world.objects) 512 ≡ true = refl in (
      runs_rest definition well a [] (pool_ready definition refl) before read run.replies (none_replied definition run.replies run.given) run.tally world run.run,
      grind (arith, nat_tests, few),
    )

begins : MayBegin definition (turn 100) world
unfolding machine
begins = record { read = tt; goes = refl; rests = rests }

starts : SourceStarts definition 100 (3 ∷ []) [] world (tally_of course.so_far) start
unfolding machine
starts = record {
  done = [];
  number = 1;
  sources = refl;
  mid = begun;
  runs = record { replied = refl; counts = refl; same = refl };
  source = first;
  stands = refl;
  is = refl;
}

reached : Reaches definition [] start at
unfolding machine
reached = record { count = 2; steps = steps_of 2 definition start at refl refl }

counts : at.counted ≡ 1
unfolding machine
counts = refl

no_peers : at.world.peers ≡ []
unfolding machine
no_peers = refl

under_way : IsUnderWay definition none_may (turn 100) world [] course (point_in [] (session_at definition at))
under_way = record {
  may_begin = begins;
  first = [];
  given_first = tt;
  start = start;
  starts = starts;
  later = [];
  given_later = tt;
  at = at;
  reached = reached;
  stands = record { view = refl; peers = rw no_peers refl };
  dispatches = omega arith;
  steps = omega arith;
  counted = (let one = counts in omega (arith, one));
}

in_course : InCourse none_may definition (turn 100) world [] course [] (session_at definition at)
in_course = record { definition = refl; under_way = refl; stops = refl; so_far = under_way }

pub met : MetInTurn
met = record {
  world = world;
  at = at;
  counted = counts;
  in_course = in_course;
  has = record { event = turn 100; from = world; front = []; in_course = in_course };
}
