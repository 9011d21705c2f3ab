-- What a dispatch of an accepted definition asks, it asks of the called object's own peer.
use Rattle.std.proofs.Common.{◌≡◌, refl, ap, sym, subst, ◌∙◌, ℕ, zero, suc, Bool, true, false, cond, List, [], ◌∷◌, Option, None, Some, slice_get, option_map}
use Rattle.std.specs.Prelude.{IfOk}
use Rattle.ui_machine.specs.Definition.{Definition}
use Rattle.ui_machine.specs.Definition.Signals.{Method, Shape}
use Rattle.ui_machine.specs.Instructions.Peers.{question_of}
use Rattle.ui_machine.specs.Rules.Programs.{place_in}
use Rattle.ui_machine.specs.Runs.{Step, Steps, beginning, of_build, of_request}
use Rattle.ui_machine.specs.State.Config.{Config, World, is_asked, peer_state}
use Rattle.ui_machine.specs.State.Objects.{Object, Objects, living}
use Rattle.ui_machine.specs.State.Peers.{Peer, Question, Reply, method_of}
use Rattle.ui_machine.specs.State.References.{mentions, next_unheld}
use Rattle.ui_machine.specs.State.Tasks.{Answering, Beginning, Building, Call, Calling, Constructing, Due, Emitting, Handling, Notifying, Running, Setting, Task, Thawing, Transferring, Unsetting}
use Rattle.ui_machine.specs.Steps.{asked_after, asked_first, first_of, question, step}
use Rattle.machine_laws.proofs.KeptProofs.{kept_at}
use Rattle.law_typing.specs.Good.{Good}
use Rattle.law_typing.specs.Good.Agenda.{AgendaGood}
use Rattle.law_typing.specs.Good.ComingDown.{none}
use Rattle.law_typing.specs.Good.Objects.{ObjectsGood}
use Rattle.law_typing.specs.Good.Standing.{view}
use Rattle.law_typing.specs.Graph.Tables.{Tables}
use Rattle.law_typing.specs.Rules.Typing.{methods_of}
use Rattle.law_steps.proofs.Served.ThroughoutProofs.{throughout_build, throughout_request, throughout_source}
use Rattle.law_steps.specs.Served.Dispatches.{Throughout}
use Rattle.law_untaken_peers.proofs.StepProofs.{read_there}
use Rattle.law_held_peers.specs.Questions.{AsksByShape, BuildsAskByShape, IsOfShape, RequestsAskByShape, SourcesAskByShape}
use Rattle.law_held_peers.proofs.HeldProofs.{OwnPeer, own_peer}
use Rattle.law_held_peers.proofs.OwnProofs.{Owns, owning}
use Rattle.law_held_peers.proofs.Seats.{IsSeated}
use Rattle.law_held_peers.proofs.SeatTaskProofs.{AtSeat, acts_seated, finalises_seated}
use Rattle.law_held_peers.proofs.TaskProofs.{step_keeps}

-- ** seats

-- an agenda that is seated stays so where what objects own stays so
moved : (w v : World) → ((id number : ℕ) → Owns id number w.objects → Owns id number v.objects) → (tasks : List Task) → IsSeated w tasks → IsSeated v tasks
moved w v so (Calling call ∷ tasks) seated = (so call.object call.peer seated.0, seated.1)
moved w v so [] seated = seated
moved w v so (Setting id slot x ∷ tasks) seated = seated
moved w v so (Notifying id slot ∷ tasks) seated = seated
moved w v so (Beginning e ∷ tasks) seated = seated
moved w v so (Emitting e turns ∷ tasks) seated = seated
moved w v so (Transferring number back ∷ tasks) seated = seated
moved w v so (Unsetting number ∷ tasks) seated = seated
moved w v so (Thawing id slots ∷ tasks) seated = seated
moved w v so (Running frame ∷ tasks) seated = seated
moved w v so (Answering source ∷ tasks) seated = seated
moved w v so (Constructing id steps held ∷ tasks) seated = seated
moved w v so (Building items ∷ []) seated = seated
moved w v so (Building items ∷ task ∷ tasks) seated = seated
moved w v so (Handling request ∷ tasks) seated = seated
moved w v so (Due source ∷ tasks) seated = seated

step_seated : (d : Definition) (reply : Option Reply) (c : Config) → IsSeated c.world c.agenda → IfOk (step d reply c) (AtSeat c.world)
step_seated d reply c seated = first (next_unheld (mentions d c) c.world.objects)
  where
    first : (o : Option ℕ) → IfOk (first_of d reply c o) (AtSeat c.world)
    first None = acts_seated d c.world reply c.agenda c.counted seated
    first (Some id) = finalises_seated d c.world c.agenda seated c.counted id

stays_seated : (d : Definition) (reply : Option Reply) (c e : Config) → IsSeated c.world c.agenda → Step d reply c e → IsSeated e.world e.agenda
stays_seated d reply c e seated s =
    moved c.world e.world (λ id number owns. step_keeps (owning id number) d reply c e s owns) e.agenda
    (kept_at (AtSeat c.world) (step d reply c) e (step_seated d reply c seated) s.leads)

steps_seated : (d : Definition) (n : ℕ) (replies : List Reply) (c e : Config) → IsSeated c.world c.agenda → Steps d n replies c e → IsSeated e.world e.agenda
steps_seated d zero replies c e seated s = subst (λ (x : Config). IsSeated x.world x.agenda) s.1 seated
steps_seated d (suc n) replies c e seated s = steps_seated d n s.later s.mid e (stays_seated d s.reply c s.mid seated s.step) s.follows

-- ** questions

-- what a call asks where its peer is open
abbrev asked_by : World → Call → Question
asked_by w call = record { peer = call.peer; state = peer_state w call.peer; method = call.method; args = call.args }

-- a question is that of a call which is due first
record IsDue (c : Config) (q : Question) : Type 0 where
  call : Call
  rest : List Task
  due : c.agenda ≡ Calling call ∷ rest
  is : asked_by c.world call ≡ q

of_call : (w : World) (call : Call) (q : Question) → question_of w call ≡ Some q → asked_by w call ≡ q
of_call w call q e = by (is_asked w call.peer) e
  where
    by : (b : Bool) → cond b (Some (asked_by w call)) None ≡ Some q → asked_by w call ≡ q
    by true e = cc e
    by false e = absurd (cc e)

module _ (c : Config) (q : Question) where
  due_first : (tasks : List Task) → c.agenda ≡ tasks → asked_first c.world tasks ≡ Some q → IsDue c q
  due_first (Calling call ∷ rest) is e = record { call = call; rest = rest; due = is; is = of_call c.world call q e }
  due_first [] is e = absurd (cc e)
  due_first (Setting object slot x ∷ rest) is e = absurd (cc e)
  due_first (Notifying object slot ∷ rest) is e = absurd (cc e)
  due_first (Beginning emission ∷ rest) is e = absurd (cc e)
  due_first (Emitting emission turns ∷ rest) is e = absurd (cc e)
  due_first (Transferring number back ∷ rest) is e = absurd (cc e)
  due_first (Unsetting number ∷ rest) is e = absurd (cc e)
  due_first (Thawing object slots ∷ rest) is e = absurd (cc e)
  due_first (Running frame ∷ rest) is e = absurd (cc e)
  due_first (Answering source ∷ rest) is e = absurd (cc e)
  due_first (Constructing object steps held ∷ rest) is e = absurd (cc e)
  due_first (Building items ∷ rest) is e = absurd (cc e)
  due_first (Handling request ∷ rest) is e = absurd (cc e)
  due_first (Due source ∷ rest) is e = absurd (cc e)

  is_due : (d : Definition) → question d c ≡ Some q → IsDue c q
  is_due d e = by (next_unheld (mentions d c) c.world.objects) e
    where
      by : (id : Option ℕ) → asked_after c id ≡ Some q → IsDue c q
      by None e = due_first c.agenda refl e
      by (Some id) e = absurd (cc e)

-- ** what is good of a call

-- the called object lives, and the peer has the method
record CallGood (w : World) (call : Call) : Type 0 where
  object : Object
  lives : living w.objects call.object ≡ Some object
  peer : Peer
  there : slice_get w.peers call.peer ≡ Some peer
  m : Method
  has : method_of peer call.method ≡ Some m

-- of each call that is due first
record CallsGood (d : Definition) (c : Config) : Type 0 where
  objects : ObjectsGood d c.world
  calls : (call : Call) (rest : List Task) → c.agenda ≡ Calling call ∷ rest → CallGood c.world call

at_place : (os : Objects) (id place : ℕ) → place_in os id ≡ Some place → (o : Object) × (living os id ≡ Some o)
at_place os id place is = by (living os id) refl is
  where
    by : (x : Option Object) → living os id ≡ x → option_map (λ (o : Object). o.place) x ≡ Some place → (o : Object) × (living os id ≡ Some o)
    by None e h = absurd (cc h)
    by (Some o) e h = (o, e)

calls_good : (d : Definition) (costs depths : Tables) (most_counted most : ℕ) (c : Config) → Good d costs depths most_counted most c → CallsGood d c
calls_good d costs depths most_counted most c good = record { objects = good.objects; calls = calls }
  where
    calls : (call : Call) (rest : List Task) → c.agenda ≡ Calling call ∷ rest → CallGood c.world call
    calls call rest is =
        let agenda = subst (λ tasks. AgendaGood d costs depths (view c.world) most none tasks good.budget) is good.agenda in
        let g = agenda.3.1 in
        let o = at_place c.world.objects call.object g.lives.place g.lives.is in
        record { object = o.0; lives = o.1; peer = g.p; there = g.is; m = g.m; has = g.has }

-- a call's question is of its shape
of_shape : (d : Definition) (c : Config) → CallsGood d c → (call : Call) (rest : List Task) → c.agenda ≡ Calling call ∷ rest → Owns call.object call.peer c.world.objects →
    IsOfShape d c (asked_by c.world call)
of_shape d c good call rest due owns = by (slice_get d.shapes x.shape) refl
  where
    g : CallGood c.world call
    g = good.calls call rest due

    own : g.object.peer ≡ Some call.peer
    own = owns.peer g.object g.lives

    x : OwnPeer d c.world.peers call.object call.peer g.object
    x = own_peer d c.world good.objects call.object call.peer g.object g.lives own

    -- the peer has a method, so that there are methods of the shape
    method : slice_get (methods_of (slice_get d.shapes x.shape)) call.method ≡ Some g.m
    method =
        ap (λ ms. slice_get ms call.method) (sym x.shaped)
        ∙ (ap (λ (p : Peer). slice_get p.state.shape call.method) (read_there c.world.peers call.peer g.peer g.there) ∙ g.has)

    by : (s : Option Shape) → slice_get d.shapes x.shape ≡ s → IsOfShape d c (asked_by c.world call)
    by None e = absurd (let f : ◌≡◌ {A = Option Method} None (Some g.m) = ap (λ s. slice_get (methods_of s) call.method) (sym e) ∙ method in cc f)
    by (Some s) e = record {
      call = call;
      rest = rest;
      due = due;
      object = g.object;
      lives = g.lives;
      own = own;
      holder = x.holder;
      method = refl;
      state = refl;
      shape = x.shape;
      methods = s;
      of_class = x.of_class;
      is = e;
      shaped = x.shaped ∙ ap methods_of e;
    }

-- ** dispatches

asks_by_shape : (d : Definition) (c : Config) → Throughout d c (CallsGood d) → IsSeated c.world c.agenda → AsksByShape d c
asks_by_shape d c good seated replies fit at r q e =
    let due = is_due at q d e in
    let seats = subst (IsSeated at.world) due.due (steps_seated d r.count replies c at seated r.steps) in
    subst (IsOfShape d at) due.is (of_shape d at (good replies fit at r) due.call due.rest due.due seats.0)

pub builds_ask_by_shape : BuildsAskByShape
builds_ask_by_shape d well a peers ready = asks_by_shape d (of_build d peers) (throughout_build d (CallsGood d) (calls_good d) well a peers ready) tt

pub requests_ask_by_shape : RequestsAskByShape
requests_ask_by_shape d well a w rest r fits kept = asks_by_shape d (of_request w r) (throughout_request d (CallsGood d) (calls_good d) well a w rest r fits kept) tt

pub sources_ask_by_shape : SourcesAskByShape
sources_ask_by_shape d well a w rest number s is = asks_by_shape d (beginning w (Due number)) (throughout_source d (CallsGood d) (calls_good d) well a w rest number s is) (tt, tt)
