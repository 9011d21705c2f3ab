-- What a due call comes to: what is asked, and what the answer leads to.
use Rattle.std.proofs.Common.{◌≡◌, ◌∙◌, refl, sym, ap, ℕ, zero, suc, Bool, true, false, cond, List, [], ◌∷◌, map, Option, None, Some, Ok, Err, slice_get, option_and_then}
use Rattle.ui_machine.specs.declared.arm.Arm.TheVariants as arms
use Rattle.ui_machine.specs.Definition.{Definition}
use Rattle.ui_machine.specs.Definition.Signals.{Method}
use Rattle.ui_machine.specs.Definition.Values.{Value}
use Rattle.ui_machine.specs.Instructions.Peers.{call_line, called, calling_on, left_with, replied, uncalled, with_method}
use Rattle.ui_machine.specs.Rules.Transform.{zero_value}
use Rattle.ui_machine.specs.Outcome.{Answer, known, ◌>>=◌}
use Rattle.ui_machine.specs.Output.Lines as lines
use Rattle.ui_machine.specs.Output.Text.{text_of_line}
use Rattle.ui_machine.specs.Rules.Accumulation.{or_zero, received}
use Rattle.ui_machine.specs.Seq.{write}
use Rattle.ui_machine.specs.State.Config.{Left, World, is_asked, peer_at, peer_state, said, with_peer_state}
use Rattle.ui_machine.specs.State.Peers.{Peer, PeerState, Reply, method_of, no_peer}
use Rattle.ui_machine.specs.State.Tasks.{Call, Task}
use Rattle.ui_machine.specs.State.Handlers.{Handler}
use Rattle.ui_machine.specs.Steps.{asked_first, left}
use Rattle.g_values.specs.View.{value_view}
use Rattle.engine_stack.specs.TaskView.{task_of}
use Rattle.engine_stack.specs.declared.task.DueCall.{DueCall}
use Rattle.engine_stack.specs.declared.task.Task as code
use Rattle.engine_stack.specs.declared.task.Task.TheVariants as tasks
use Rattle.engine_world.specs.View.{with_line}
use Rattle.engine_world.proofs.MakingSteps.{read_there}
use Rattle.engine_world.proofs.Ableness.{able_as, first, in_left, no_arm}
use Rattle.engine_world.specs.Able.{Able}
use Rattle.engine_tasks.specs.CallView.{Conclusion, Named, answered, line_of, method_called, reply_of, unanswered}

-- ** what a call names

module _ (w : World) (call : Call) where
  pub no_peer_called : None ≡ slice_get w.peers call.peer → Err arms.Call ≡ method_called w call
  unfolding with_method
  no_peer_called none = ap (λ (o : Option Peer). known arms.Call o >>= λ p. known arms.Call (method_of p call.method) >>= λ (m : Method). Ok (record { peer = p.name; method = m })) none

  module _ (p : Peer) (at : Some p ≡ slice_get w.peers call.peer) where
    called_by : (known arms.Call (method_of p call.method) >>= λ (m : Method). Ok (record { peer = p.name; method = m })) ≡ method_called w call
    unfolding with_method
    called_by = ap (λ (o : Option Peer). known arms.Call o >>= λ p. known arms.Call (method_of p call.method) >>= λ (m : Method). Ok (record { peer = p.name; method = m })) at

    of_peer : (m : Option Method) → m ≡ option_and_then (λ (q : Peer). method_of q call.method) (slice_get w.peers call.peer) → m ≡ method_of p call.method
    of_peer m is = is ∙ ap (option_and_then (λ (q : Peer). method_of q call.method)) (sym at)

    pub no_method_called : None ≡ option_and_then (λ (q : Peer). method_of q call.method) (slice_get w.peers call.peer) → Err arms.Call ≡ method_called w call
    no_method_called none = ap (λ (o : Option Method). known arms.Call o >>= λ (m : Method). Ok (record { peer = p.name; method = m })) (of_peer None none) ∙ called_by

    pub method_named : (m : Method) → Some m ≡ option_and_then (λ (q : Peer). method_of q call.method) (slice_get w.peers call.peer) → Ok (record { peer = p.name; method = m }) ≡ method_called w call
    method_named m some = ap (λ (o : Option Method). known arms.Call o >>= λ (m : Method). Ok (record { peer = p.name; method = m })) (of_peer (Some m) some) ∙ called_by

-- ** what the first task asks

module _ (d : Definition) (hs : List Handler) (w : World) (rest : List Task) where
  pub asks_nothing : (t : code.Task) → ((call : DueCall) → t ≡ tasks.Calling call → ⊥) → None ≡ asked_first w (task_of d hs t ∷ rest)
  asks_nothing (tasks.Calling call) other = absurd (other call refl)
  asks_nothing (tasks.Setting id slot x) other = refl
  asks_nothing (tasks.Notifying id slot) other = refl
  asks_nothing (tasks.Beginning emission) other = refl
  asks_nothing (tasks.Emitting emission) other = refl
  asks_nothing (tasks.Running frame) other = refl
  asks_nothing (tasks.Thawing id slots) other = refl
  asks_nothing (tasks.Constructing construction) other = refl
  asks_nothing (tasks.Building place forwards) other = refl
  asks_nothing (tasks.Adopting place forwards) other = refl
  asks_nothing (tasks.Transferring number back) other = refl
  asks_nothing (tasks.Unsetting number) other = refl
  asks_nothing (tasks.Binding number) other = refl
  asks_nothing (tasks.Connecting place number) other = refl
  asks_nothing (tasks.Answering source) other = refl
  asks_nothing (tasks.Due source) other = refl
  asks_nothing (tasks.Handling event) other = refl

  pub asks_if : (t : code.Task) (call : DueCall) (b : Bool) → t ≡ tasks.Calling call → b ≡ is_asked w call.peer
      → cond b (Some (record { peer = call.peer; state = peer_state w call.peer; method = call.method; args = map value_view call.args.items })) None ≡ asked_first w (task_of d hs t ∷ rest)
  asks_if t call b is so =
      ap (λ c. cond c (Some (record { peer = call.peer; state = peer_state w call.peer; method = call.method; args = map value_view call.args.items })) None) so
      ∙ ap (λ (x : code.Task). asked_first w (task_of d hs x ∷ rest)) (sym is)

-- ** replies

-- what is written over itself is as it was
written_back : {A : Type 0} (none x : A) (xs : List A) (i : ℕ) → slice_get xs i ≡ Some x → write x xs i x ≡ xs
written_back none x [] i at = cc at
written_back none x (y ∷ xs) zero at = let here : y ≡ x = cc at in ap (λ z. z ∷ xs) (sym here)
written_back none x (y ∷ xs) (suc i) at = ap (λ zs. y ∷ zs) (written_back none x xs i at)

module _ (d : Definition) (w : World) (call : Call) (rest : List Task) where
  -- the program goes on with a value, and a line reports the call
  abbrev pub goes_on_so : Conclusion → Answer Left
  goes_on_so c = left_with (with_line c.line w) rest call.to c.value

  pub by_answer : (answer : Option Value) → called d w call rest (reply_of w call answer) ≡ (answered d w call answer >>= goes_on_so)
  unfolding called with_method
  by_answer answer = by_peer (peer_at w call.peer) refl
    where
      line_so : (p : Peer) (m : Method) (a : Option Value) → text_of_line d.types (line_of (record { peer = p.name; method = m }) call a) ≡ text_of_line d.types (call_line p m call.args a)
      line_so p m None = refl
      line_so p m (Some v) = refl

      by_method : (p : Peer) → peer_at w call.peer ≡ Some p → (m : Option Method)
          → (known arms.Call m >>= λ (m : Method). left_with (said d (with_peer_state w call.peer p (peer_state w call.peer)) (call_line p m call.args answer)) rest call.to (or_zero d m.result answer))
          ≡ (((known arms.Call m >>= λ (m : Method). Ok (record { peer = p.name; method = m })) >>= λ (n : Named).
          Ok (record { line = text_of_line d.types (line_of n call answer); value = or_zero d n.method.result answer })) >>= goes_on_so)
      by_method p at None = refl
      by_method p at (Some m) =
          let stays : with_peer_state w call.peer p (peer_state w call.peer) ≡ w =
          ap (λ (s : PeerState). with_peer_state w call.peer p s) (ap (λ (q : Peer). q.state) (read_there no_peer w.peers call.peer p at))
          ∙ ap (λ (ps : List Peer). record w { peers = ps }) (written_back no_peer p w.peers call.peer at) in
          ap (λ (v : World). left_with (said d v (call_line p m call.args answer)) rest call.to (or_zero d m.result answer)) stays
          ∙ ap (λ (t : List ℕ). left_with (with_line t w) rest call.to (or_zero d m.result answer)) (sym (line_so p m answer))

      by_peer : (o : Option Peer) → peer_at w call.peer ≡ o
          → (known arms.Call o >>= λ p. known arms.Call (method_of p call.method) >>= λ (m : Method).
          left_with (said d (with_peer_state w call.peer p (peer_state w call.peer)) (call_line p m call.args answer)) rest call.to (or_zero d m.result answer))
          ≡ (((known arms.Call o >>= λ p. known arms.Call (method_of p call.method) >>= λ (m : Method). Ok (record { peer = p.name; method = m })) >>= λ (n : Named).
          Ok (record { line = text_of_line d.types (line_of n call answer); value = or_zero d n.method.result answer })) >>= goes_on_so)
      by_peer None at = refl
      by_peer (Some p) at = by_method p at (method_of p call.method)

  pub by_close : uncalled d w call rest ≡ (unanswered d w call >>= goes_on_so)
  unfolding uncalled with_method
  by_close = by_peer (peer_at w call.peer)
    where
      by_method : (p : Peer) (m : Option Method)
          → (known arms.Call m >>= λ (m : Method). left_with (said d w (lines.closed p.name m.name call.args)) rest call.to (zero_value d.types m.result))
          ≡ (((known arms.Call m >>= λ (m : Method). Ok (record { peer = p.name; method = m })) >>= λ (n : Named).
          Ok (record { line = text_of_line d.types (lines.closed n.peer n.method.name call.args); value = zero_value d.types n.method.result })) >>= goes_on_so)
      by_method p None = refl
      by_method p (Some m) = refl

      by_peer : (o : Option Peer)
          → (known arms.Call o >>= λ p. known arms.Call (method_of p call.method) >>= λ (m : Method).
          left_with (said d w (lines.closed p.name m.name call.args)) rest call.to (zero_value d.types m.result))
          ≡ (((known arms.Call o >>= λ p. known arms.Call (method_of p call.method) >>= λ (m : Method). Ok (record { peer = p.name; method = m })) >>= λ (n : Named).
          Ok (record { line = text_of_line d.types (lines.closed n.peer n.method.name call.args); value = zero_value d.types n.method.result })) >>= goes_on_so)
      by_peer None = refl
      by_peer (Some p) = by_method p (method_of p call.method)

  -- where it asks
  pub asks : (answer : Option Value) → is_asked w call.peer ≡ true → calling_on d w call rest (Some (reply_of w call answer)) ≡ (answered d w call answer >>= goes_on_so)
  asks answer so = ap (λ b. cond b (replied d w call rest (Some (reply_of w call answer))) (uncalled d w call rest)) so ∙ by_answer answer

  asks_none : is_asked w call.peer ≡ true → calling_on d w call rest None ≡ Err arms.Call
  asks_none so = ap (λ b. cond b (replied d w call rest None) (uncalled d w call rest)) so

  -- without a reply no call is asked
  pub not_asked : Able (calling_on d w call rest None) → is_asked w call.peer ≡ false
  not_asked able = by (is_asked w call.peer) refl
    where
      by : (b : Bool) → is_asked w call.peer ≡ b → is_asked w call.peer ≡ false
      by true so = absurd (no_arm (calling_on d w call rest None) arms.Call able (asks_none so))
      by false so = so

  -- where the peer is closed
  pub is_closed : (reply : Option Reply) → is_asked w call.peer ≡ false → calling_on d w call rest reply ≡ (unanswered d w call >>= goes_on_so)
  is_closed reply so = ap (λ b. cond b (replied d w call rest reply) (uncalled d w call rest)) so ∙ by_close

  -- where no arm stops the call, none stops what it comes to, nor what follows
  module _ (n : ℕ) (a : Answer Left) (k : Answer Conclusion) (is : a ≡ (k >>= goes_on_so)) (able : Able (left n a)) where
    pub able_to_conclude : Able k
    able_to_conclude = first k goes_on_so (able_as is (in_left n a able))

    pub able_to_go_on : (c : Conclusion) → k ≡ Ok c → Able (left n (goes_on_so c))
    able_to_go_on c at = able_as (ap (left n) (is ∙ ap (λ x. x >>= goes_on_so) at)) able

-- the program that called is given the value
module _ (n : ℕ) (w : World) (rest : List Task) (to : ℕ) (v : Value) where
  pub concludes : (u : World) (a : List Task) (m : ℕ) → received rest to (Some v) ≡ Ok a → u ≡ w → m ≡ n → left n (left_with w rest to v) ≡ Ok (record { world = u; agenda = a; counted = m })
  unfolding left left_with
  concludes u a m is world count =
      ap (λ (x : Answer (List Task)). (x >>= λ agenda. Ok (record { world = w; agenda = agenda })) >>= λ (l : Left). Ok (record { world = l.world; agenda = l.agenda; counted = n })) is
      ∙ rw (world, count) refl

  pub able_to_receive : Able (left n (left_with w rest to v)) → Able (received rest to (Some v))
  unfolding left_with
  able_to_receive able = first (received rest to (Some v)) (λ agenda. Ok (record { world = w; agenda = agenda })) (in_left n _ able)
