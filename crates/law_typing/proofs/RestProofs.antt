-- What is good is within the bound and the depth, a dispatch that has ended is at rest, and a turn leaves that as it is.
use Rattle.std.proofs.Common.{◌≡◌, subst, ℕ, ◌+◌, ◌≤◌, List, [], ◌∷◌, length, Option, None, arith}
use Rattle.ui_machine.specs.Definition.Values.{Value}
use Rattle.ui_machine.specs.Seq.{total}
use Rattle.ui_machine.specs.Definition.{Definition}
use Rattle.ui_machine.specs.State.Tasks.{Task, Emitting, Running, Constructing}
use Rattle.ui_machine.specs.State.Config.{World, Config}
use Rattle.ui_machine.specs.Rules.Build.{to_make}
use Rattle.ui_machine.specs.State.Objects.{live}
use Rattle.ui_machine.specs.Runs.{HasEnded}
use Rattle.law_typing.specs.Graph.Tables.{Tables}
use Rattle.law_typing.specs.Good.Standing.{View, standing}
use Rattle.law_typing.specs.Good.Objects.{PeersGood}
use Rattle.law_typing.specs.Good.Handlers.{HandlersGood}
use Rattle.law_typing.specs.Good.Bindings.{BindingsGood}
use Rattle.law_typing.specs.Good.Builds.{is_for_builder, BuildGood}
use Rattle.law_typing.specs.Good.ComingDown.{Down}
use Rattle.law_typing.specs.Good.Agenda.{TaskGood, AgendaGood, is_frame, frames}
use Rattle.law_typing.specs.Good.Freezes.{frozen_by}
use Rattle.law_typing.specs.Good.{Good, Resting}
use Rattle.law_typing.specs.Laws.StepsKeepGood.{GoodIsWithin, EndsRest, TurnsRest}

-- ** bounds

-- a task's own frame is one of those that it has
own_frame : (d : Definition) (costs depths : Tables) (w : View) (up : Down) (below : List Task) (task : Task) (steps deep : ℕ) →
    TaskGood d costs depths w up below task steps deep → is_frame task ≤ deep
own_frame d costs depths w up below (Emitting e turns) steps deep g = g.one
own_frame d costs depths w up below (Running frame) steps deep g = let s = g.1.shallow in omega (arith, s)
own_frame d costs depths w up below (Constructing id todo held) steps deep g = g.1.one
own_frame d costs depths w up below _ steps deep g = omega arith

frames_within : (d : Definition) (costs depths : Tables) (w : View) (most : ℕ) (up : Down) (agenda : List Task) (budget : ℕ) →
    AgendaGood d costs depths w most up agenda budget → frames agenda ≤ most
frames_within d costs depths w most up [] budget g = omega arith
frames_within d costs depths w most up (task ∷ below) budget g =
    let own = own_frame d costs depths w up below task g.0 g.1 g.3 in
    let all = g.4 in
    omega (arith, own, all)

pub good_is_within : GoodIsWithin
good_is_within d costs depths most_counted most c g =
    ((let s = g.spent in omega (arith, s)), frames_within d costs depths _ most _ c.agenda g.budget g.agenda)

-- ** rest

-- what is shown, the moment and the event's value do not matter
resting_as : (d : Definition) (costs depths : Tables) (w : World) (moment : ℕ) (transcript : List (List ℕ)) (result : Option Value) →
    Resting d costs depths w → Resting d costs depths (record w { moment = moment; transcript = transcript; result = result })
resting_as d costs depths w moment transcript result r = record {
  objects = λ id o e. (let g = r.objects id o e in record {
    place = g.place;
    is = g.is;
    class = g.class;
    values = g.values;
    children = g.children;
    parent = g.parent;
    queue = g.queue;
    apart = g.apart;
    peer = g.peer;
  });
  handlers = r.handlers;
  bindings = r.bindings;
  sources = r.sources;
  peers = r.peers;
  document = r.document;
  held = r.held;
  floating = r.floating;
  thawed = r.thawed;
  few = r.few;
}

-- where the agenda is empty and nothing floats
rests : (d : Definition) (costs depths : Tables) (most_counted most : ℕ) (c : Config) → Good d costs depths most_counted most c → HasEnded d c →
    Resting d costs depths c.world
rests d costs depths most_counted most c g ended =
    let w = c.world in
    let none = ended.agenda in
    record {
      objects = g.objects;
      handlers = subst (λ ts. HandlersGood d costs depths (standing w.objects) ts w.last_handler w.handlers) none g.handlers;
      bindings = subst (λ ts. BindingsGood d (standing w.objects) ts w.bindings) none g.bindings;
      sources = g.sources;
      peers = (let all : length w.builder + total is_for_builder [] ≡ length w.builder = omega arith in
          subst (PeersGood d w.peers) all (subst (λ ts. PeersGood d w.peers (length w.builder + total is_for_builder ts)) none g.peers));
      document = (subst (λ ts. BuildGood d w.builder ts ts) none g.build).0;
      held = g.held;
      floating = ended.floating;
      thawed = λ id o e. (let q = g.queues id o e in
          let count = subst (λ ts. o.freezes ≡ total (frozen_by d id) ts) none q.count in (count, q.none count));
      few = (let few = subst (λ ts. live w.objects + to_make ts ≤ d.most_objects) none g.few in omega (arith, few));
    }

pub ends_rest : EndsRest
ends_rest d costs depths most_counted most c g ended =
    resting_as d costs depths c.world c.world.moment _ c.world.result (rests d costs depths most_counted most c g ended)

pub turns_rest : TurnsRest
turns_rest d costs depths w moment r = resting_as d costs depths w moment _ None r
