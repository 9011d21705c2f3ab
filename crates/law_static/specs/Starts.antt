-- What is raised at the place of an operand's object is within what the instruction may start; and what is due at a property is within its
-- node.
use Rattle.std.specs.Prelude.{◌≡◌, ℕ, ◌≤◌, true, nat_eq, List, Option, Some}
use Rattle.ui_machine.specs.Seq.{total}
use Rattle.ui_machine.specs.Definition.{Definition}
use Rattle.ui_machine.specs.Definition.Programs as words
use Rattle.ui_machine.specs.State.Tasks.{Task}
use Rattle.law_typing.specs.Rules.RegisterKinds.{Kinds, kind_in, class_at, covers, places}
use Rattle.law_typing.specs.Graph.Channels.{Channel, property}
use Rattle.law_typing.specs.Graph.{graph, raises, over, paired_at, start_of}
use Rattle.law_typing.specs.Graph.Tables.{Tables, entry}
use Rattle.law_typing.specs.Graph.Costs.{other_end, node_cost, start_cost}
use Rattle.law_typing.specs.Graph.Depths.{start_depth}
use Rattle.law_typing.specs.Verdict.Accepted.{Accepted}
use Rattle.law_typing.specs.Laws.{IsIn}
use Rattle.law_typing.specs.Laws.WellRead.{no_two}
use Rattle.law_typing.specs.Good.DueCosts.{over_cost, due_cost, due_depth}

-- what a name finds in the class of a covered place costs no more, and is no deeper, than what may be raised over all of them; it need not
-- be a channel
abbrev pub StartsReach : Type 0
StartsReach =
    (d : Definition) (a : Accepted d) (number_in : ℕ → Option ℕ) (channel : ℕ → ℕ → Channel) (ks : Kinds)
    (object place class number : ℕ) →
    covers d (kind_in ks object) place ≡ true → class_at d place ≡ Some class → number_in class ≡ Some number →
    (node_cost (graph d) a.weighed.costs (channel place number)
    ≤ start_cost (graph d) a.weighed.costs (raises (over d number_in channel (places d (kind_in ks object)))))
    × (entry a.weighed.depths.channels (channel place number)
    ≤ start_depth a.weighed.depths (raises (over d number_in channel (places d (kind_in ks object)))))

-- a thaw of an object at a covered place costs no less than the nodes of its paired properties, all together, and is no less deep than each
abbrev pub ThawsReach : Type 0
ThawsReach =
    (d : Definition) (t : Tables) (ks : Kinds) (object place class : ℕ) → covers d (kind_in ks object) place ≡ true →
    class_at d place ≡ Some class →
    (total (node_cost (graph d) t) (paired_at d place) ≤ start_cost (graph d) t (start_of d ks (words.thaw object)))
    × ((c : Channel) → IsIn c (paired_at d place) → entry t.channels c ≤ start_depth t (start_of d ks (words.thaw object)))

-- some properties of a place, each once, cost no more beyond their own parts than the nodes of its paired properties
abbrev pub PairsPay : Type 0
PairsPay =
    (d : Definition) → Accepted d → (t : Tables) (place : ℕ) (slots : List ℕ) → no_two nat_eq slots ≡ true →
    total (λ slot. over_cost t (other_end (graph d) (property place slot))) slots ≤ total (node_cost (graph d) t) (paired_at d place)

-- whatever lies below, what is due at a property costs no more than its node, and is no deeper than its channel
abbrev pub DueWithin : Type 0
DueWithin =
    (d : Definition) (a : Accepted d) (below : List Task) (place slot : ℕ) →
    (due_cost d a.weighed.costs below (property place slot) ≤ node_cost (graph d) a.weighed.costs (property place slot))
    × (due_depth d a.weighed.depths below (property place slot) ≤ entry a.weighed.depths.channels (property place slot))
