-- Of which peers a dispatch asks.
use Rattle.std.specs.Prelude.{◌≡◌, ℕ, false, List, ◌∷◌, Some, slice_get}
use Rattle.ui_machine.specs.Definition.{Definition}
use Rattle.ui_machine.specs.Definition.Signals.{Shape}
use Rattle.ui_machine.specs.Rules.Construction.{nearest_shape}
use Rattle.ui_machine.specs.Rules.Events.{names_released}
use Rattle.ui_machine.specs.Runs.{beginning, of_build, of_request}
use Rattle.ui_machine.specs.State.Config.{Config, World}
use Rattle.ui_machine.specs.State.Objects.{Object, living}
use Rattle.ui_machine.specs.State.Peers.{Peer, Question}
use Rattle.ui_machine.specs.State.Sources.{Source, source_of}
use Rattle.ui_machine.specs.State.Tasks.{Call, Calling, Due, Request, Task}
use Rattle.ui_machine.specs.Steps.{question}
use Rattle.law_typing.specs.Good.Requests.{RequestRead}
use Rattle.law_typing.specs.Laws.StepsKeepGood.{IsResting, PoolReady}
use Rattle.law_typing.specs.Laws.WellRead.{WellRead}
use Rattle.law_typing.specs.Verdict.Accepted.{Accepted}
use Rattle.law_steps.specs.Served.Dispatches.{Throughout}
use Rattle.law_peers.specs.PeerLaws.{peer_in}

-- A question is that of the call which is due first. It is asked of the called object's own peer, in the state that this has, whose methods are
-- those of the shape that the object's class names.
pub record IsOfShape (d : Definition) (c : Config) (q : Question) : Type 0 where
  pub call : Call
  pub rest : List Task
  pub due : c.agenda ≡ Calling call ∷ rest
  pub object : Object
  pub lives : living c.world.objects call.object ≡ Some object
  pub own : object.peer ≡ Some q.peer
  pub holder : (peer_in c.world.peers q.peer).holder ≡ Some call.object
  pub method : q.method ≡ call.method
  pub state : q.state ≡ (peer_in c.world.peers q.peer).state
  pub shape : ℕ
  pub methods : Shape
  pub of_class : nearest_shape d object.class ≡ Some shape
  pub is : slice_get d.shapes shape ≡ Some methods
  pub shaped : q.state.shape ≡ methods.methods

-- wherever a dispatch comes to, so is what it asks next
abbrev pub AsksByShape : Definition → Config → Type 0
AsksByShape d c = Throughout d c (λ at. (q : Question) → question d at ≡ Some q → IsOfShape d at q)

abbrev pub BuildsAskByShape : Type 0
BuildsAskByShape =
    (d : Definition) → WellRead d → Accepted d → (peers : List Peer) → PoolReady d peers → AsksByShape d (of_build d peers)

abbrev pub RequestsAskByShape : Type 0
RequestsAskByShape =
    (d : Definition) → WellRead d → (a : Accepted d) → (w : World) → IsResting d a w → (r : Request) → RequestRead d r → names_released w r ≡ false →
    AsksByShape d (of_request w r)

abbrev pub SourcesAskByShape : Type 0
SourcesAskByShape =
    (d : Definition) → WellRead d → (a : Accepted d) → (w : World) → IsResting d a w → (number : ℕ) (s : Source) → source_of number w.sources ≡ Some s →
    AsksByShape d (beginning w (Due number))
