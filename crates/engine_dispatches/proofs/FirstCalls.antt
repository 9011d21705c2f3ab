-- A call that comes first, and what the engine knows of its reply.
use Rattle.std.proofs.Common.{◌≡◌, refl, ap, sym, ◌∙◌, subst, ℕ, Bool, true, false, cond, List, [], ◌∷◌, ◌++◌, map, reverse, Option, None, Some}
use Rattle.std.specs.Prelude.{IsSome, IsSomeAnd, IsTrue, is_some, option_map, slice_get}
use Rattle.ui_machine.specs.Definition.{Definition}
use Rattle.ui_machine.specs.Definition.Signals.{Method}
use Rattle.ui_machine.specs.Definition.Values.{Value}
use Rattle.ui_machine.specs.Seq.{read}
use Rattle.ui_machine.specs.State.Config.{Config, World, is_asked, peer_state}
use Rattle.ui_machine.specs.State.Handlers.{Handler}
use Rattle.ui_machine.specs.State.Peers.{PeerState, Question, Reply}
use Rattle.ui_machine.specs.State.Tasks.{Call, Calling, Task}
use Rattle.ui_machine.specs.State.References.{mentions, next_unheld}
use Rattle.ui_machine.specs.Steps.{asked_after, asked_first, question}
use Rattle.law_peers.specs.Forgetting.{forgotten_reply, forgotten_state}
use Rattle.native_peers.specs.Seen.{Asks, Relations, Seen}
use Rattle.engine_stack.specs.TaskFrames.{IsFrameless}
use Rattle.engine_stack.specs.TaskView.{task_of}
use Rattle.engine_stack.specs.declared.task.Task as code
use Rattle.engine_stack.specs.declared.task.Task.TheVariants as tasks
use Rattle.engine_stack.proofs.FirstPrograms.{first_of_last}
use Rattle.engine_world.proofs.OtherFirst.{IsOther, other_last}
use Rattle.engine_stack.proofs.StopsBelow.{Lasts, has_last, lasts, no_last}
use Rattle.engine_dispatches.specs.Safety.{NoneUnheld}
use Rattle.engine_dispatches.specs.PoolView.{Knows, MayBeAsked, Takes, forgotten_seen}
use Rattle.engine_dispatches.proofs.Living.{map_read, no_seen, read_at, seen_at}

-- a call that asks is of an open peer
pub asks_open : (w : World) (call : Call) (rest : List Task) → IsSome (asked_first w (Calling call ∷ rest)) → is_asked w call.peer ≡ true
asks_open w call rest asked = by (is_asked w call.peer) asked
  where
    by : (b : Bool) → IsSome {T = Question} (cond b (Some (record { peer = call.peer; state = peer_state w call.peer; method = call.method; args = call.args })) None) → b ≡ true
    by true asked = refl
    by false asked = absurd (cc asked)

-- no other task asks
pub calls_only : (d : Definition) (hs : List Handler) (w : World) (task : code.Task) (rest : List Task) → IsSome (asked_first w (task_of d hs task ∷ rest)) → (call : _) × (task ≡ tasks.Calling call)
calls_only d hs w (tasks.Calling call) rest asked = (call, refl)
calls_only d hs w (tasks.Setting id slot v) rest asked = absurd (cc asked)
calls_only d hs w (tasks.Notifying id slot) rest asked = absurd (cc asked)
calls_only d hs w (tasks.Beginning emission) rest asked = absurd (cc asked)
calls_only d hs w (tasks.Emitting emission) rest asked = absurd (cc asked)
calls_only d hs w (tasks.Running frame) rest asked = absurd (cc asked)
calls_only d hs w (tasks.Thawing id slots) rest asked = absurd (cc asked)
calls_only d hs w (tasks.Constructing construction) rest asked = absurd (cc asked)
calls_only d hs w (tasks.Building place forwards) rest asked = absurd (cc asked)
calls_only d hs w (tasks.Adopting place forwards) rest asked = absurd (cc asked)
calls_only d hs w (tasks.Transferring number back) rest asked = absurd (cc asked)
calls_only d hs w (tasks.Unsetting number) rest asked = absurd (cc asked)
calls_only d hs w (tasks.Binding number) rest asked = absurd (cc asked)
calls_only d hs w (tasks.Connecting place number) rest asked = absurd (cc asked)
calls_only d hs w (tasks.Answering source) rest asked = absurd (cc asked)
calls_only d hs w (tasks.Due source) rest asked = absurd (cc asked)
calls_only d hs w (tasks.Handling event) rest asked = absurd (cc asked)

-- what is known of the state of a peer in the pool
pub known_state : (w : World) (pool : List Seen) (k : ℕ) (s : Seen) → Knows w pool → slice_get pool k ≡ Some s → forgotten_state s.state ≡ peer_state w k
known_state w pool k s knows at =
    ap (λ (x : Seen). forgotten_state x.state) (sym (read_at no_seen s pool k at))
    ∙ ap (λ (x : Seen). x.state) (sym (map_read forgotten_seen no_seen pool k))
    ∙ ap (λ (l : List Seen). (read no_seen l k).state) knows
    ∙ ap (λ (x : Seen). x.state) (seen_at w.peers k)

-- it may be asked
pub may_be_asked : (d : Definition) (pool : List Seen) (k method : ℕ) (args : List Value) (s : Seen) → slice_get pool k ≡ Some s → s.state.is_open ≡ true
    → Takes d (slice_get s.state.shape method) args → MayBeAsked d pool k method args
may_be_asked d pool k method args s at is_open takes =
    subst (λ (o : Option Seen). IsSomeAnd o (λ x. IsTrue x.state.is_open × Takes d (slice_get x.state.shape method) args)) (sym at) (is_open, takes)

-- the reply as the engine knows it
pub reply_known : (w : World) (call : Call) (old new : List Seen) (may : Relations) (answer : Option Value) → Knows w old → (asked : Asks call.peer old new may call.method call.args answer)
    → ◌≡◌ {A = Reply} (forgotten_reply (record { question = record { peer = call.peer; state = asked.peer.state; method = call.method; args = call.args }; answer = answer; state = asked.after }))
    (record { question = record { peer = call.peer; state = peer_state w call.peer; method = call.method; args = call.args }; answer = answer; state = peer_state w call.peer })
reply_known w call old new may answer knows asked =
    let known = known_state w old call.peer asked.peer knows asked.at in
    let after : forgotten_state asked.after ≡ forgotten_state asked.peer.state =
    ap (λ (shape : List Method). record { shape = shape; is_open = asked.after.is_open; calls = 0; faults = 0; values = [] }) asked.keeps.shape
    ∙ ap (λ b. record { shape = asked.peer.state.shape; is_open = b; calls = 0; faults = 0; values = [] }) asked.keeps.openness in
    ap (λ (s : PeerState). record {
      question = record { peer = call.peer; state = forgotten_state asked.peer.state; method = call.method; args = call.args };
      answer = answer;
      state = s;
    }) (after ∙ known)
    ∙ ap (λ (s : PeerState). record { question = record { peer = call.peer; state = s; method = call.method; args = call.args }; answer = answer; state = peer_state w call.peer }) known

-- a step that asks is of the first task, where nothing is to be finalised
pub asked_first_so : (d : Definition) (c : Config) → is_some (question d c) ≡ true → NoneUnheld d c × IsSome (asked_first c.world c.agenda)
asked_first_so d c asks = by (next_unheld (mentions d c) c.world.objects) refl asks
  where
    some : (q : Option Question) → is_some q ≡ true → IsSome q
    some None is = absurd (cc is)
    some (Some q) is = refl

    by : (o : Option ℕ) → next_unheld (mentions d c) c.world.objects ≡ o → is_some (asked_after c o) ≡ true → NoneUnheld d c × IsSome (asked_first c.world c.agenda)
    by None is asks = (is, some (asked_first c.world c.agenda) asks)
    by (Some id) is asks = absurd (cc asks)

pub mapped_some : {A B : Type 0} (f : A → B) (o : Option A) → is_some o ≡ is_some (option_map f o)
mapped_some f None = refl
mapped_some f (Some x) = refl

pub none_asked : (q : Option Question) → false ≡ is_some q → q ≡ None
none_asked None is = refl
none_asked (Some x) is = absurd (cc is)

-- so a stack from which a peer is asked begins with no frame
pub asked_other : (d : Definition) (hs : List Handler) (w : World) (items : List code.Task) → IsSome (asked_first w (reverse (map (task_of d hs) items))) → IsOther items
asked_other d hs w items some = by (lasts items) some
  where
    by : {xs : List code.Task} → Lasts xs → IsSome (asked_first w (reverse (map (task_of d hs) xs))) → IsOther xs
    by no_last none = absurd (cc none)
    by (has_last front x) some =
        let calls = calls_only d hs w x (reverse (map (task_of d hs) front)) (subst (λ (ts : List Task). IsSome (asked_first w ts)) (first_of_last d hs front x) some) in
        other_last front (front ++ x ∷ []) x refl (subst (λ (t : code.Task). IsFrameless t) (sym calls.1) (record { program = refl; emission = refl }))
