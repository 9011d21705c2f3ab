-- What a `call` of a program finds: the method of an object's peer, and the call that is due.
use Rattle.std.specs.Prelude.{ℕ, List, Ok, length, nat_lt}
use Rattle.ui_machine.specs.declared.arm.Arm.TheVariants as arms
use Rattle.ui_machine.specs.Definition.{Definition}
use Rattle.ui_machine.specs.Definition.Signals.{Method}
use Rattle.ui_machine.specs.Instructions.Registers.{operand_in, values_in}
use Rattle.ui_machine.specs.Outcome.{Answer, known, only_if, ◌>>=◌}
use Rattle.ui_machine.specs.Rules.Programs.{all_fit}
use Rattle.ui_machine.specs.Rules.Transform.{kind_fits}
use Rattle.ui_machine.specs.State.Config.{World, peer_at}
use Rattle.ui_machine.specs.State.Objects.{class_in, object_at}
use Rattle.ui_machine.specs.State.Peers.{method_number, method_of}
use Rattle.ui_machine.specs.State.Tasks.{Call, Frame}
use Rattle.peer_shapes.specs.MethodViews.{lent_view}
use Rattle.engine_instructions.specs.declared.calls.CalledMethod.{CalledMethod}

-- a method of a peer, by the numbers of both
pub record Called : Type 0 where
  pub peer : ℕ
  pub number : ℕ
  pub method : Method

abbrev pub called_view : CalledMethod → Called
called_view c = record { peer = c.peer; number = c.number; method = lent_view c.method }

-- the method of a name of an object's peer
abbrev pub called_in : World → (object : ℕ) → List ℕ → Answer Called
called_in w object name =
    object_at w.objects object >>= λ o. known arms.Call o.peer >>= λ peer. known arms.Call (peer_at w peer) >>= λ p.
    known arms.Call (method_number p name) >>= λ number. known arms.Call (method_of p number) >>= λ m. Ok (record { peer = peer; number = number; method = m })

-- the call that is due
abbrev pub due_call : Definition → World → Frame → (to object : ℕ) → List ℕ → List ℕ → Answer Call
due_call d w f to object name args =
    operand_in w f object >>= λ id. called_in w id name >>= λ c. values_in f args >>= λ given.
    only_if (all_fit (kind_fits (class_in w.objects) d.types) given c.method.params) arms.Call
    (only_if (nat_lt to (length f.registers)) arms.Code (Ok (record { object = id; peer = c.peer; method = c.number; args = given; to = to })))
