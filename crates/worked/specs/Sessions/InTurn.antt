-- What going on with an event asks is met by a session that is in a turn: of two sources the first is running, and the second is left.
use Rattle.std.specs.Prelude.{◌≡◌, true, [], ◌∷◌, None, Some}
use Rattle.ui_machine.specs.Definition.{Definition}
use Rattle.ui_machine.specs.State.Config.{Config, World}
use Rattle.ui_machine.specs.State.Tasks.{turn}
use Rattle.law_peers.specs.Forgetting.{forgotten_at}
use Rattle.worked.specs.Laws.WorkedSources.{definition}
use Rattle.native_peers.specs.Seen.{Relations}
use Rattle.engine_world.specs.Standing.{without_gone}
use Rattle.engine_dispatches.specs.declared.courses.Course.{Course}
use Rattle.engine_dispatches.specs.Courses.{nothing_yet}
use Rattle.ui_engine.specs.SessionView.{HasCourse, InCourse, SessionState}

-- a session without peers that is where the machine is, in an event
abbrev pub session_at : Definition → Config → SessionState
session_at d c = record {
  definition = d;
  world = (without_gone (forgotten_at c)).world;
  agenda = (without_gone (forgotten_at c)).agenda;
  counted = (without_gone (forgotten_at c)).counted;
  stopped = true;
  under_way = true;
}

-- no dispatch has ended, and behind that of the first source the second one is left
abbrev pub course : Course
course = record { left = Some (3 ∷ []); so_far = nothing_yet; asked = None }

-- there are no peers, so none may do anything
abbrev pub none_may : Relations
none_may k before method args answer after = ⊥

pub record MetInTurn : Type 0 where
  -- the world in which the turn begins, and where the machine has come to: one step of the first source is counted
  pub world : World
  pub at : Config
  pub counted : at.counted ≡ 1
  pub in_course : InCourse none_may definition (turn 100) world [] course [] (session_at definition at)
  pub has : HasCourse none_may course [] (session_at definition at)
