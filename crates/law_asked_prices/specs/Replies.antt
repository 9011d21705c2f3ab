-- The replies that a dispatch takes, told apart by the methods of the peers that give them.
use Rattle.std.specs.Prelude.{◌≡◌, ℕ, Bool, cond, nat_eq, ◌&&◌, List, [], ◌∷◌, length, Some, slice_get}
use Rattle.std.specs.List.{filter}
use Rattle.ui_machine.specs.Seq.{listed, total}
use Rattle.ui_machine.specs.Definition.{Definition}
use Rattle.ui_machine.specs.Definition.Signals.{Method, Shape}
use Rattle.ui_machine.specs.State.Peers.{Reply}
use Rattle.law_typing.specs.Examples.LastReference.{definition}
use Rattle.law_typing.specs.Laws.Beginnings.{tally}
use Rattle.law_typing.specs.Rules.Typing.{methods_of}
use Rattle.law_typing.specs.Verdict.Accepted.{Each}
use Rattle.law_steps.specs.Served.WorkedSession.{PremisesMet}
use Rattle.law_peers.specs.Needs.{same_shape}
use Rattle.law_peers.specs.PeerLaws.{peer_in}
use Rattle.law_prices.specs.Bounds.{Within}
use Rattle.law_prices.specs.Calls.{replies_to}
use Rattle.law_prices.specs.Deeds.{PriceList, answer}
use Rattle.law_prices.specs.Dispatches.{OfDispatches}
use Rattle.law_prices.specs.Lists.{calls}
use Rattle.law_prices.specs.Worked.{bounds}
use Rattle.law_prices.specs.Worked.LastReference.{asked}

-- ** shapes

-- the peer that gave a reply has the methods of the shape of this number
pub record IsGivenByShape (d : Definition) (shape : ℕ) (r : Reply) : Type 0 where
  pub methods : Shape
  pub is : slice_get d.shapes shape ≡ Some methods
  pub shaped : r.question.state.shape ≡ methods.methods

-- each reply that a dispatch takes to a method of a shape was given by a peer that has the methods of the shape
abbrev pub EachIsGivenByShape : Type 0
EachIsGivenByShape =
    OfDispatches
    (λ d e n replies c at s. (shape method : ℕ) → Each (IsGivenByShape d shape) (replies_to d shape method n replies c at s))

-- whether a shape has just these methods
abbrev pub has_just : Definition → List Method → ℕ → Bool
has_just d methods shape = same_shape methods (methods_of (slice_get d.shapes shape))

-- the numbers of the shapes that have just these
abbrev pub shapes_with : Definition → List Method → List ℕ
shapes_with d methods = filter (has_just d methods) (listed (λ shape. shape) (length d.shapes))

-- ** methods

-- the replies that peers with just these methods give to the one of this number
abbrev pub replies_by : List Method → ℕ → List Reply → List Reply
replies_by methods method replies = filter (λ (r : Reply). same_shape methods r.question.state.shape && nat_eq r.question.method method) replies

-- they are as many as the replies to this method of all shapes that have just these
abbrev pub ShapesGiveAll : Type 0
ShapesGiveAll =
    OfDispatches
    (λ d e n replies c at s. (methods : List Method) (method : ℕ) →
    length (replies_by methods method replies) ≡ total (λ shape. length (replies_to d shape method n replies c at s)) (shapes_with d methods))

-- the list of the calls to the method of this number of each shape that has just these
abbrev pub calls_by : Definition → List Method → ℕ → PriceList
calls_by d methods method (answer shape m) = cond (has_just d methods shape && nat_eq m method) 1 0
calls_by d methods method _ = 0

-- peers with just these methods give no more replies to one of them than the bound by the list of these calls says
abbrev pub AlikePeersAreWithin : Type 0
AlikePeersAreWithin =
    OfDispatches
    (λ d e n replies c at s. (methods : List Method) (method : ℕ) →
    Within d (calls_by d methods method) e (length (replies_by methods method replies)))

-- and where just one shape has them, no more than the bound by the list of the calls to the method of this shape says
abbrev pub OneShapeIsWithin : Type 0
OneShapeIsWithin =
    OfDispatches
    (λ d e n replies c at s. (methods : List Method) (method shape : ℕ) → shapes_with d methods ≡ shape ∷ [] →
    Within d (calls shape method) e (length (replies_by methods method replies)))

-- what that asks is met, by a session whose definition has just one shape; with the bounds by the list of the calls to its method `add`
pub record PremisesMetAlone : Type 0 where
  pub session : PremisesMet
  pub alone : shapes_with definition tally.state.shape ≡ 0 ∷ []
  pub add : bounds definition (calls_by definition tally.state.shape 0) asked ≡ Some (0 ∷ 0 ∷ 0 ∷ 2 ∷ [])

-- ** peers

-- the replies that the peer of this number gives to the method of this number
abbrev pub replies_from : (peer method : ℕ) → List Reply → List Reply
replies_from peer method replies = filter (λ (r : Reply). nat_eq r.question.peer peer && nat_eq r.question.method method) replies

-- a peer of the pool, by itself, gives no more replies to a method than the bound of peers with the methods that it has as the dispatch begins
abbrev pub EachPeerIsWithin : Type 0
EachPeerIsWithin =
    OfDispatches
    (λ d e n replies c at s. (peer method : ℕ) →
    Within d (calls_by d (peer_in c.world.peers peer).state.shape method) e (length (replies_from peer method replies)))
