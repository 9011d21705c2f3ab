-- Each dispatch of a run asks by shape, since those before it left the world at rest; and so does what is left of it after a step.
use Rattle.std.proofs.Common.{◌≡◌, refl, subst, ℕ, suc, List, [], ◌∷◌, ◌++◌, Option, None, Some}
use Rattle.std.specs.Prelude.{IfSome}
use Rattle.ui_machine.specs.Definition.{Definition}
use Rattle.ui_machine.specs.Rules.MainLoop.{turned}
use Rattle.ui_machine.specs.Runs.{Fits, RunsSources, Step, Tally, listed}
use Rattle.ui_machine.specs.State.Config.{Config, World}
use Rattle.ui_machine.specs.State.Peers.{Peer, Question, Reply}
use Rattle.ui_machine.specs.State.Tasks.{Event}
use Rattle.ui_machine.specs.State.Tasks as config
use Rattle.ui_machine.specs.Steps.{question}
use Rattle.law_typing.specs.Laws.StepsKeepGood.{IsResting, PoolReady}
use Rattle.law_typing.specs.Laws.WellRead.{WellRead}
use Rattle.law_typing.specs.Verdict.Accepted.{Accepted, Each}
use Rattle.law_typing.proofs.Lists.{each_append}
use Rattle.law_steps.specs.Served.Sessions as sessions
use Rattle.law_steps.specs.Served.Sessions.{Dispatch, EventRead, beginning_of, building, serving, turning}
use Rattle.law_steps.proofs.Served.DispatchProofs.{both_fit}
use Rattle.law_steps.proofs.Served.SessionProofs.{not_released, runs_rest, runs_source, turns}
use Rattle.law_steps.proofs.Tasked.StepsProofs.{steps_keep_good}
use Rattle.law_held_peers.specs.Questions.{AsksByShape, IsOfShape}
use Rattle.law_held_peers.proofs.QuestionProofs.{builds_ask_by_shape, requests_ask_by_shape, sources_ask_by_shape}

-- ** steps

-- what is asked first is of its shape
pub asks_first : (d : Definition) (c : Config) → AsksByShape d c → (q : Question) → question d c ≡ Some q → IsOfShape d c q
asks_first d c asks = asks [] tt c (record { count = 0; steps = (refl, refl) })

listed_fits : (d : Definition) (reply : Option Reply) → IfSome reply (Fits d) → Each (Fits d) (listed reply)
listed_fits d None fit = tt
listed_fits d (Some r) fit = (fit, tt)

-- and after a step all is so that was so before
pub asks_later : (d : Definition) (c e : Config) (reply : Option Reply) → IfSome reply (Fits d) → Step d reply c e → AsksByShape d c → AsksByShape d e
asks_later d c e reply fit s asks replies fits at reached =
    asks (listed reply ++ replies) (each_append (Fits d) (listed reply) replies (listed_fits d reply fit) fits) at
    (record {
      count = suc reached.count;
      steps = record { reply = reply; later = replies; mid = e; replied = refl; step = s; follows = reached.steps };
    })

-- ** dispatches

module _ (d : Definition) (well : WellRead d) (a : Accepted d) where
  -- the sources of a turn leave the world at rest
  sources_rest : (numbers : List ℕ) (replies : List Reply) → Each (Fits d) replies → (w : World) (tally : Tally) (new : World) → IsResting d a w →
      RunsSources d numbers replies w tally new → IsResting d a new
  sources_rest [] replies fit w tally new rest h = subst (IsResting d a) h.same rest
  sources_rest (number ∷ more) replies fit w tally new rest h =
      let parts = both_fit d h.first h.later (subst (Each (Fits d)) h.replied fit) in
      let next = runs_source steps_keep_good d well a number h.first parts.0 w h.first_tally h.mid rest h.begins in
      sources_rest more h.later parts.1 h.mid h.later_tally new next h.goes_on

  earlier : (before later : List Event) (event : Event) → Each (EventRead d) (before ++ event ∷ later) → Each (EventRead d) before × EventRead d event
  earlier [] later event all = (tt, all.0)
  earlier (e ∷ before) later event all = let parts = earlier before later event all.1 in ((all.0, parts.0), parts.1)

  module _ (peers : List Peer) (ready : PoolReady d peers) (events : List Event) (read : Each (EventRead d) events) where
    parts_read : (event : Event) (w : World) (s : sessions.Serves d peers events event w) → Each (EventRead d) s.before × EventRead d event
    parts_read event w s = earlier s.before s.later event (subst (Each (EventRead d)) s.is read)

    before_rests : (event : Event) (w : World) → sessions.Serves d peers events event w → IsResting d a w
    before_rests event w s = runs_rest d well a peers ready s.before (parts_read event w s).0 s.replies s.fit s.tally w s.run

    pub dispatch_asks_by_shape : (x : Dispatch d peers events) → AsksByShape d (beginning_of x)
    dispatch_asks_by_shape building = builds_ask_by_shape d well a peers ready
    dispatch_asks_by_shape (serving r w s) =
        requests_ask_by_shape d well a w (before_rests (config.request r) w s) r (parts_read (config.request r) w s).1
        (not_released steps_keep_good d well a w r s.accepted)
    dispatch_asks_by_shape (turning moment w s number v source runs) =
        sources_ask_by_shape d well a v
        (sources_rest runs.before runs.replies runs.fit (turned d w moment) runs.tally v
        (turns steps_keep_good d well a w moment (before_rests (config.turn moment) w s)) runs.run) number source runs.stands
