-- What is known of a peer's calls, whatever peer it is.
use Rattle.std.specs.Prelude.{◌≡◌, ◌↔◌, IsTrue, List, None, Ok, Err, Option, Result, Some, [], false, slice_get, ℕ}
use Rattle.ui_machine.specs.Definition.Signals.{Method}
use Rattle.ui_machine.specs.Definition.Values.{Value}
use Rattle.ui_machine.specs.Rules.Programs.{all_fit}
use Rattle.ui_machine.specs.Rules.Transform.{kind_fits}
use Rattle.ui_machine.specs.Runs.{IsShort, faults_after, one_more}
use Rattle.ui_machine.specs.State.Peers.{PeerState}
use Rattle.g_values.specs.View.{value_view}
use Rattle.g_values.specs.declared.value.Value as code
use Rattle.native_peers.specs.declared.faults.PeerFault.{PeerFault}

-- from a state, by a method and its arguments, to an answer (none is a fault) and a state
abbrev pub Relation : Type 1
Relation = PeerState → ℕ → List Value → Option Value → PeerState → Type 0

-- what a peer answered
abbrev pub answer_of : Result code.Value PeerFault → Option Value
answer_of (Ok v) = Some (value_view v)
answer_of (Err fault) = None

-- a method takes these arguments: it is there, and they are of its kinds; kinds of a shape are plain, so that no type matters
abbrev pub MethodTakes : Option Method → List Value → Type 0
MethodTakes None args = ⊥
MethodTakes (Some m) args = IsTrue (all_fit (kind_fits (λ _. None) []) args m.params)

abbrev pub ArgsFit : PeerState → ℕ → List Value → Type 0
ArgsFit s method args = MethodTakes (slice_get s.shape method) args

-- an answer is of the method's result kind, and a text of it is short enough
abbrev pub Answers : Option Method → Option Value → Type 0
Answers m None = Unit {0}
Answers None (Some v) = ⊥
Answers (Some m) (Some v) = IsTrue (kind_fits (λ _. None) [] v m.result) × IsShort v

-- a call keeps shape and openness, and counts itself and its fault
pub record Keeps (method : ℕ) (answer : Option Value) (old new : PeerState) : Type 0 where
  pub shape : new.shape ≡ old.shape
  pub openness : new.is_open ≡ old.is_open
  pub calls : new.calls ≡ one_more old.calls
  pub faults : new.faults ≡ faults_after answer old.faults
  pub value : Answers (slice_get old.shape method) answer

-- two relations that allow the same
abbrev pub SameMoves : Relation → Relation → Type 0
SameMoves old new = (s : PeerState) (m : ℕ) (args : List Value) (answer : Option Value) (t : PeerState) → old s m args answer t ↔ new s m args answer t

-- a call goes by the relation, which stays as it is
pub record Invokes (old new : Relation) (s : PeerState) (method : ℕ) (args : List Value) (answer : Option Value) (t : PeerState) : Type 0 where
  pub moved : old s method args answer t
  pub same_moves : SameMoves old new
  pub keeps : Keeps method answer s t

-- the same peer, closed
abbrev pub closed : PeerState → PeerState
closed s = record s { is_open = false }
