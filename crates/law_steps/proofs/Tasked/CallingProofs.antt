-- A due call: the program that called is given what the peer answers, or the zero value.
use Rattle.std.proofs.Common.{◌≡◌, refl, sym, ap, subst, ◌∙◌, ℕ, zero, suc, ◌<◌, Bool, true, false, cond, List, [], ◌∷◌, ◌++◌, length, Option, None, Some, Ok, slice_get, arith}
use Rattle.std.specs.Prelude.{IfSome}
use Rattle.ui_machine.specs.Seq.{read, write}
use Rattle.ui_machine.specs.Definition.{Definition}
use Rattle.ui_machine.specs.Definition.Kinds.{Kind}
use Rattle.ui_machine.specs.Definition.Kinds as kinds
use Rattle.ui_machine.specs.Definition.Signals.{Method}
use Rattle.ui_machine.specs.Definition.Values.{Value}
use Rattle.ui_machine.specs.Instructions.Peers.{call_line, with_method, left_with, called, uncalled, replied, question_of}
use Rattle.ui_machine.specs.Output.Lines as lines
use Rattle.ui_machine.specs.Output.Text.{text_of_line}
use Rattle.ui_machine.specs.Rules.Accumulation.{or_zero}
use Rattle.ui_machine.specs.Rules.Build.{is_making}
use Rattle.ui_machine.specs.Rules.Transform.{kind_fits, zero_value}
use Rattle.ui_machine.specs.Runs.{Fits, AnswerFits, question_in}
use Rattle.ui_machine.specs.State.Config.{World, Config, said, is_asked, peer_state, with_peer_state}
use Rattle.ui_machine.specs.State.Peers.{PeerState, Peer, Question, Reply, no_peer, method_of}
use Rattle.ui_machine.specs.State.Tasks.{Call, Frame, Task, Running, Calling}
use Rattle.ui_machine.specs.Steps.{act, left, asked_after}
use Rattle.law_typing.specs.Rules.RegisterKinds.{Kinds}
use Rattle.law_typing.specs.Rules.Brackets.{opened, keeps}
use Rattle.law_typing.specs.Laws.WellRead.{has_values}
use Rattle.law_typing.specs.Laws.StepsKeepGood.{IsGood, Fine}
use Rattle.law_typing.specs.Good.Standing.{Standing, standing, view, View, class_by}
use Rattle.law_typing.specs.Good.ComingDown.{Down, none, answers, down, awaited, Comes}
use Rattle.law_typing.specs.Good.Programs.{CallingGood, RunningGood, code_left}
use Rattle.law_typing.specs.Good.Freezes.{frozen_by}
use Rattle.law_steps.specs.Kept.Alike.{Alike}
use Rattle.law_steps.proofs.Kept.AgendaProofs.{agenda_served}
use Rattle.law_steps.proofs.Kept.AlikeProofs.{whole_stays}
use Rattle.law_steps.proofs.Instructed.Converted.{or_zero_fits}
use Rattle.law_steps.proofs.Instructed.RegisterProofs.{fits_anywhere}
use Rattle.law_steps.proofs.Tasked.Answered as answered
use Rattle.law_steps.proofs.Tasked.Changed.{AsFrozen, no_sets, queue_moved, changed_well}
use Rattle.law_steps.proofs.Tasked.First.{First, StepIsFine, fine_of, pool_alike, build_alike, costs, depths, most}
use Rattle.law_steps.proofs.Tasked.Lowest.{lowest_above}
use Rattle.law_steps.proofs.Tasked.Received.{Above, first, fine_above_these, after_value, goes_on, frozen_still, receives, received}
use Rattle.law_steps.specs.Tasked.Calling.{DueCallsAreFine}

-- ** what the machine does

uncalled_leads : (d : Definition) (w : World) (call : Call) (f : Frame) (tasks : List Task) (n : ℕ) (p : Peer) (m : Method) → slice_get w.peers call.peer ≡ Some p → method_of p call.method ≡ Some m →
    call.to < length f.registers →
    left n (uncalled d w call (Running f ∷ tasks))
    ≡ Ok (record { world = said d w (lines.closed p.name m.name call.args); agenda = Running (after_value f call.to (zero_value d.types m.result)) ∷ tasks; counted = n })
unfolding uncalled with_method left_with left
uncalled_leads d w call f tasks n p m is has low = let goes = goes_on f tasks call.to (zero_value d.types m.result) low in rw (is, has, goes) refl

called_leads : (d : Definition) (w : World) (call : Call) (f : Frame) (tasks : List Task) (n : ℕ) (reply : Reply) (p : Peer) (m : Method) → slice_get w.peers call.peer ≡ Some p →
    method_of p call.method ≡ Some m → call.to < length f.registers →
    left n (called d w call (Running f ∷ tasks) reply)
    ≡ Ok (record {
      world = said d (with_peer_state w call.peer p reply.state) (call_line p m call.args reply.answer);
      agenda = Running (after_value f call.to (or_zero d m.result reply.answer)) ∷ tasks;
      counted = n;
    })
unfolding called with_method left_with left
called_leads d w call f tasks n reply p m is has low = let goes = goes_on f tasks call.to (or_zero d m.result reply.answer) low in rw (is, has, goes) refl

-- ** what comes down

answer_is : (d : Definition) (v : View) (call : Call) (p : Peer) (m : Method) → slice_get v.peers call.peer ≡ Some p → method_of p call.method ≡ Some m → down d v (Calling call) ≡ answers call.to m.result
answer_is d v call p m is has = rw (is, has) refl

awaits_answer : (ks : Kinds) (into : Option ℕ) (to : ℕ) (kind : Kind) (up : Down) → Comes into up → up ≡ answers to kind → awaited ks into up ≡ write kinds.unset ks to (kinds.plain kind)
awaits_answer ks None to kind up c e = rw e refl
awaits_answer ks (Some r) to kind up c e = absurd (let f = c.1 in let g = sym f ∙ e in cc)

read_there : (peers : List Peer) (n : ℕ) (p : Peer) → slice_get peers n ≡ Some p → read no_peer peers n ≡ p
read_there [] n p e = absurd (cc)
read_there (x ∷ peers) zero p e = cc
read_there (x ∷ peers) (suc n) p e = read_there peers n p e

-- a peer that is there is written over, whatever would fill up the pool
write_there : (a b : Peer) (peers : List Peer) (n : ℕ) (p q : Peer) → slice_get peers n ≡ Some p → write a peers n q ≡ write b peers n q
write_there a b [] n p q e = absurd (cc)
write_there a b (x ∷ peers) zero p q e = refl
write_there a b (x ∷ peers) (suc n) p q e = ap (λ peers. x ∷ peers) (write_there a b peers n p q e)

-- the answer of a peer, or the zero value, is of the kind that the method answers
answer_fits : (d : Definition) (f : ℕ → Option ℕ) (m : Method) (answer : Option Value) → has_values d m.result ≡ true → AnswerFits d (Some m) answer →
    kind_fits f d.types (or_zero d m.result answer) m.result ≡ true
answer_fits d f m answer some fit =
    or_zero_fits f d.types d refl m.result answer (λ u is. fits_anywhere f d.types u m.result (at answer fit u is)) (λ t of_kind. subst (λ k. has_values d k ≡ true) of_kind some)
  where
    at : (answer : Option Value) → AnswerFits d (Some m) answer → (u : Value) → answer ≡ Some u → kind_fits (λ id. None) d.types u m.result ≡ true
    at None fit u is = absurd (cc)
    at (Some v) fit u is = let same : v ≡ u = cc in subst (λ v. kind_fits (λ id. None) d.types v m.result ≡ true) same fit.0

-- ** the step

module _ {d : Definition} (call : Call) (f : Frame) (tasks : List Task) (x : Above d (Calling call) (Running f ∷ tasks)) (low : call.to < length f.registers)
    (closed : keeps (opened (code_left d f)) (Some call.to) ≡ true) where
  open x use {well, a, w, n, g}

  abbrev s : Standing
  s = standing w.objects

  abbrev c : CallingGood d (view w) (Running f ∷ tasks) call
  c = g.agenda.3.1

  abbrev later : Value → List Task
  later v = Running (after_value f call.to v) ∷ tasks

  kept : (v : Value) (id : ℕ) → frozen_by d id (Running (after_value f call.to v)) ≡ frozen_by d id (Running f)
  kept v id = let below = g.agenda.6 in frozen_still d (costs (first x)) (depths (first x)) s (down d (view w) (Calling call)) f below.0 below.1 below.3.1 call.to v id closed

  goes_well : (v : Value) → kind_fits (class_by d s) d.types v c.m.result ≡ true → RunningGood d (costs (first x)) (depths (first x)) s none (after_value f call.to v) g.agenda.6.0 g.agenda.6.1
  goes_well v fit =
      let below = g.agenda.6 in
      let r = below.3.1 in
      let comes = awaits_answer r.ks f.into call.to c.m.result (down d (view w) (Calling call)) r.comes (answer_is d (view w) call c.p c.m c.is c.has) in
      receives d (costs (first x)) (depths (first x)) s (down d (view w) (Calling call)) f below.0 below.1 r call.to c.m.result v comes low fit

  alike : (v : Value) → Alike (Calling call ∷ Running f ∷ tasks) (later v)
  alike v = record { items = λ f. omega arith; unset = λ number. omega arith; request_step = omega arith; makes = omega arith }

  as_later : (v : Value) → AsFrozen d (Calling call ∷ Running f ∷ tasks) (later v)
  as_later v = record {
    frozen = λ id. (let same = kept v id in omega (arith, same));
    lowest = λ id some. (let same = kept v id in let above = lowest_above d id (Calling call) (Running f ∷ tasks) (omega (arith, same, some)) in omega (arith, above));
  }

  -- ** the peer is closed

  uncalled_good : (lines : List (List ℕ)) → IsGood d a x.most_counted (record { world = record w { transcript = lines; result = w.result }; agenda = later (zero_value d.types c.m.result); counted = n })
  uncalled_good lines =
      let v = zero_value d.types c.m.result in
      received x call.to v lines w.result
      (record {
        alike = alike v;
        unfrozen = λ id. refl;
        build = λ build. build;
        kept = kept v;
        good = goes_well v (answer_fits d (class_by d s) c.m None c.value tt);
      })

  -- ** the peer answers

  module _ (reply : Reply) (asked : reply.question ≡ record { peer = call.peer; state = peer_state w call.peer; method = call.method; args = call.args }) (fits : Fits d reply) where
    abbrev value : Value
    value = or_zero d c.m.result reply.answer

    state_is : reply.question.state ≡ c.p.state
    state_is = ap (λ (q : Question). q.state) asked ∙ ap (λ (p : Peer). p.state) (read_there w.peers call.peer c.p c.is)

    shape : reply.state.shape ≡ c.p.state.shape
    shape = fits.shape ∙ ap (λ (st : PeerState). st.shape) state_is

    openness : reply.state.is_open ≡ c.p.state.is_open
    openness = fits.openness ∙ ap (λ (st : PeerState). st.is_open) state_is

    method_is : slice_get reply.question.state.shape reply.question.method ≡ Some c.m
    method_is =
        ap (λ (st : PeerState). slice_get st.shape reply.question.method) state_is
        ∙ (ap (λ (q : Question). slice_get c.p.state.shape q.method) asked ∙ c.has)

    abbrev next : List (List ℕ) → World
    next lines = record w { peers = answered.pool d w call.peer c.p c.is reply.state shape openness; transcript = lines; result = w.result }

    called_good : (lines : List (List ℕ)) → IsGood d a x.most_counted (record { world = next lines; agenda = later value; counted = n })
    called_good lines =
        let below = g.agenda.6 in
        let served = answered.pool_serves d w call.peer c.p c.is reply.state shape openness lines w.result tasks in
        changed_well (first x) (next lines) (later value) n
        (record {
          whole = whole_stays d (costs (first x)) (depths (first x)) (Calling call ∷ Running f ∷ tasks) (later value) (next lines) (alike value)
              (record {
                objects = answered.objects_good d w call.peer c.p c.is reply.state shape openness lines w.result g.objects;
                handlers = g.handlers;
                bindings = g.bindings;
                sources = g.sources;
                held = g.held;
                floating = g.floating;
                objects_first = g.objects_first;
              });
          pool = answered.pool_good d w call.peer c.p c.is reply.state shape openness _ (pool_alike (first x) (later value) (alike value));
          build = build_alike (first x) (later value) (alike value);
          sets = no_sets d (record { world = next lines; agenda = later value; counted = n }) (let unset = g.sets.first in omega (arith, unset)) (let alone = g.sets.alone in omega (arith, alone));
          queues = λ id o is. queue_moved d (depths (first x)) (most (first x)) (Calling call ∷ Running f ∷ tasks) (later value) n n id o (as_later value) (omega arith) (g.queues id o is);
          alive = refl;
          to_make = (alike value).items is_making;
          makes = (let same = (alike value).makes in omega (arith, same));
          budget = g.agenda.2;
          good = (
            below.0,
            below.1,
            below.2,
            (tt, goes_well value (answer_fits d (class_by d s) c.m reply.answer c.value (subst (λ m. AnswerFits d m reply.answer) method_is fits.answer))),
            below.4,
            below.5,
            agenda_served d (costs (first x)) (depths (first x)) (most (first x)) (down d (view w) (Running f)) tasks below.2 (view w) (view (next lines)) served below.6,
          );
          spent = omega arith;
        })

  -- ** what is asked

  abbrev FineWith : Option Reply → Type 0
  FineWith reply = Fine d (costs (first x)) (depths (first x)) x.most_counted (most (first x)) (act d w reply (Calling call ∷ Running f ∷ tasks) n)

  ends : (reply : Option Reply) (e : Config) → act d w reply (Calling call ∷ Running f ∷ tasks) n ≡ Ok e → IsGood d a x.most_counted e → FineWith reply
  ends reply e leads good = subst (Fine d (costs (first x)) (depths (first x)) x.most_counted (most (first x))) (sym leads) good

  with_reply : (reply : Option Reply) → question_in reply ≡ question_of w call → IfSome reply (Fits d) → (b : Bool) → is_asked w call.peer ≡ b → FineWith reply
  with_reply reply asks fits false e =
      let line = w.transcript ++ text_of_line d.types (lines.closed c.p.name c.m.name call.args) ∷ [] in
      ends reply (record { world = record w { transcript = line; result = w.result }; agenda = later (zero_value d.types c.m.result); counted = n })
      (ap (λ b. left n (cond b (replied d w call (Running f ∷ tasks) reply) (uncalled d w call (Running f ∷ tasks)))) e ∙ uncalled_leads d w call f tasks n c.p c.m c.is c.has low)
      (uncalled_good line)
  with_reply None asks fits true e =
      absurd (let asked = asks ∙ ap (λ b. cond b (Some (record { peer = call.peer; state = peer_state w call.peer; method = call.method; args = call.args })) None) e in cc)
  with_reply (Some reply) asks fits true e =
      let both = asks ∙ ap (λ b. cond b (Some (record { peer = call.peer; state = peer_state w call.peer; method = call.method; args = call.args })) None) e in
      let asked : reply.question ≡ record { peer = call.peer; state = peer_state w call.peer; method = call.method; args = call.args } = some_same _ _ both in
      let line = w.transcript ++ text_of_line d.types (call_line c.p c.m call.args reply.answer) ∷ [] in
      ends (Some reply) (record { world = next reply asked fits line; agenda = later (or_zero d c.m.result reply.answer); counted = n })
      (ap (λ b. left n (cond b (replied d w call (Running f ∷ tasks) (Some reply)) (uncalled d w call (Running f ∷ tasks)))) e
      ∙ (called_leads d w call f tasks n reply c.p c.m c.is c.has low
      ∙ ap (λ peers. Ok (record { world = record w { peers = peers; transcript = line; result = w.result }; agenda = later (or_zero d c.m.result reply.answer); counted = n }))
      (write_there c.p no_peer w.peers call.peer c.p (record c.p { state = reply.state }) c.is)))
      (called_good reply asked fits line)
    where
      some_same : (p q : Question) → Some p ≡ Some q → p ≡ q
      some_same p q e = cc

  call_fine : StepIsFine (first x)
  call_fine = with_reply x.reply (sym x.replies.asks ∙ ap (asked_after (record { world = w; agenda = Calling call ∷ Running f ∷ tasks; counted = n })) x.settled) x.replies.fits (is_asked w call.peer) refl

pub due_calls_are_fine : DueCallsAreFine
due_calls_are_fine call = fine_of (λ d t. good d t)
  where
    good : (d : Definition) (t : First d (Calling call)) → StepIsFine t
    good d t =
        let waits = t.g.agenda.3.1.waits in
        fine_above_these t (Running waits.0 ∷ waits.1) waits.2 (λ x. call_fine call waits.0 waits.1 x waits.3 waits.4)
