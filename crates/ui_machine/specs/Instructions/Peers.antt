-- `call`: what a peer is asked, and what its answer or fault leads to.
use Rattle.std.specs.Prelude.{Err, List, None, Ok, Option, Some, [], cond, length, nat_lt, ℕ, ◌∷◌}
use Rattle.ui_machine.specs.declared.arm.Arm.TheVariants as arms
use Rattle.ui_machine.specs.Definition.{Definition}
use Rattle.ui_machine.specs.Definition.Signals.{Method}
use Rattle.ui_machine.specs.Definition.Values.{Value}
use Rattle.ui_machine.specs.Instructions.Registers.{goes_on, operand_in, values_in}
use Rattle.ui_machine.specs.Outcome.{Answer, known, only_if, ◌>>=◌}
use Rattle.ui_machine.specs.Output.Lines.{Line}
use Rattle.ui_machine.specs.Output.Lines as lines
use Rattle.ui_machine.specs.Rules.Accumulation.{or_zero, received}
use Rattle.ui_machine.specs.Rules.Programs.{all_fit}
use Rattle.ui_machine.specs.Rules.Transform.{kind_fits, zero_value}
use Rattle.ui_machine.specs.State.Config.{Left, Started, World, is_asked, peer_at, peer_state, said, with_peer_state}
use Rattle.ui_machine.specs.State.Objects.{class_in, object_at}
use Rattle.ui_machine.specs.State.Peers.{Peer, Question, Reply, method_number, method_of}
use Rattle.ui_machine.specs.State.Tasks.{Call, Calling, Frame, Task}

-- ** calls

-- the line of a call, by what the peer answered: a value, or a fault
abbrev pub call_line : Peer → Method → List Value → Option Value → Line
call_line p m args None = lines.fault p.name m.name args
call_line p m args (Some v) = lines.call p.name m.name args v

-- a task that starts from a peer and one of its methods
unfoldable pub with_method : {X : Type 0} → World → (peer method : ℕ) → (Peer → Method → Answer X) → Answer X
with_method w peer method f = do
  p ← known arms.Call (peer_at w peer)
  m ← known arms.Call (method_of p method)
  f p m

-- the agenda after an answer has come to the program that waits for it
unfoldable pub left_with : World → List Task → ℕ → Value → Answer Left
left_with w rest to v = do
  agenda ← received rest to (Some v)
  Ok (record { world = w; agenda = agenda })

-- a peer gave this reply; after a fault the program is given the zero value
unfoldable pub called : Definition → World → Call → List Task → Reply → Answer Left
called d w call rest reply =
    with_method w call.peer call.method (λ p m.
    left_with (said d (with_peer_state w call.peer p reply.state) (call_line p m call.args reply.answer)) rest call.to
    (or_zero d m.result reply.answer))

-- a peer that is closed is not called, and the program is given the zero value
unfoldable pub uncalled : Definition → World → Call → List Task → Answer Left
uncalled d w call rest =
    with_method w call.peer call.method (λ p m.
    left_with (said d w (lines.closed p.name m.name call.args)) rest call.to (zero_value d.types m.result))

-- a peer that is asked gives the reply; there is no step without one
abbrev pub replied : Definition → World → Call → List Task → Option Reply → Answer Left
replied d w call rest None = Err arms.Call
replied d w call rest (Some reply) = called d w call rest reply

-- a due call of a peer
abbrev pub calling_on : Definition → World → Call → List Task → Option Reply → Answer Left
calling_on d w call rest reply = cond (is_asked w call.peer) (replied d w call rest reply) (uncalled d w call rest)

-- what a due call asks, if it asks
abbrev pub question_of : World → Call → Option Question
question_of w call =
    cond (is_asked w call.peer)
    (Some (record { peer = call.peer; state = peer_state w call.peer; method = call.method; args = call.args })) None

-- ** peers

-- `call d o m [a..]`: the peer of the object is to answer
unfoldable pub calling : Definition → World → Frame → (to object : ℕ) → List ℕ → List ℕ → Answer Started
calling d w f to object name args = do
  id ← operand_in w f object
  o ← object_at w.objects id
  peer ← known arms.Call o.peer
  p ← known arms.Call (peer_at w peer)
  number ← known arms.Call (method_number p name)
  m ← known arms.Call (method_of p number)
  given ← values_in f args
  only_if (all_fit (kind_fits (class_in w.objects) d.types) given m.params) arms.Call
      (only_if (nat_lt to (length f.registers)) arms.Code
      (goes_on w (Calling (record { object = id; peer = peer; method = number; args = given; to = to }) ∷ []) f))
