-- A worked step: a peer is asked that has counted before, and counts once more.
use Rattle.std.specs.Prelude.{◌≡◌, ℕ, pos, true, [], ◌∷◌, codes, None, Some, Ok}
use Rattle.ui_machine.specs.Definition.Kinds as kinds
use Rattle.ui_machine.specs.Definition.Values as values
use Rattle.ui_machine.specs.Runs.{first_world}
use Rattle.ui_machine.specs.State.Config.{Config}
use Rattle.ui_machine.specs.State.Peers.{PeerState, Reply}
use Rattle.ui_machine.specs.State.Tasks.{Calling, Running}
use Rattle.ui_machine.specs.Steps.{question, step}
use Rattle.ui_machine.specs.Words.{method}
use Rattle.machine_rows.specs.Runs.LastReference.{definition}
use Rattle.law_peers.specs.Forgetting.{forgotten_at, forgotten_question, forgotten_reply}
use Rattle.law_peers.specs.PeerLaws.{peer_in}

-- a state of a tally after so many calls, one of them a fault, with its sum
abbrev pub tallied : (calls sum : ℕ) → PeerState
tallied calls sum = record {
  shape =
      method (codes "add") (kinds.whole kinds.int64 ∷ []) (kinds.whole kinds.int64)
      ∷ method (codes "read") [] (kinds.whole kinds.int64) ∷ [];
  is_open = true;
  calls = calls;
  faults = 1;
  values = values.whole kinds.int64 (pos sum) ∷ [];
}

-- a program of an object waits for its tally to add 2 to 5
abbrev pub due : Config
due = record {
  world = first_world definition (record { name = codes "t"; state = tallied 3 5; holder = Some 1 } ∷ []);
  agenda =
      Calling (record { object = 1; peer = 0; method = 0; args = values.whole kinds.int64 (pos 2) ∷ []; to = 2 })
      ∷ Running (record { program = 2; block = 0; at = 2; passes = 0; into = None; registers = None ∷ None ∷ None ∷ [] })
      ∷ [];
  counted = 9;
}

-- which it does
abbrev pub reply : Reply
reply = record {
  question = record { peer = 0; state = tallied 3 5; method = 0; args = values.whole kinds.int64 (pos 2) ∷ [] };
  answer = Some (values.whole kinds.int64 (pos 7));
  state = tallied 4 7;
}

-- the step takes the reply, and leads to the same without what the tally has counted and kept
pub record WorkedForgetting : Type 0 where
  pub asks : question definition due ≡ Some reply.question
  pub new : Config
  pub leads : step definition (Some reply) due ≡ Ok new
  pub counts : (peer_in new.world.peers 0).state ≡ tallied 4 7
  pub says : new.world.transcript ≡ codes "call t.add(2) = 7" ∷ []
  pub asks_the_same : question definition (forgotten_at due) ≡ Some (forgotten_question reply.question)
  pub leads_to_the_same : step definition (Some (forgotten_reply reply)) (forgotten_at due) ≡ Ok (forgotten_at new)
  pub counts_no_more : (peer_in (forgotten_at new).world.peers 0).state.calls ≡ 0
