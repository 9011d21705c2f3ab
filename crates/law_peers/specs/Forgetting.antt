-- What a peer counts and keeps plays no part in what the machine does: where it is forgotten, a step leads to the same with it forgotten.
use Rattle.std.specs.Prelude.{◌≡◌, [], map, Option, option_map}
use Rattle.ui_machine.specs.Definition.{Definition}
use Rattle.ui_machine.specs.State.Config.{Config, World}
use Rattle.ui_machine.specs.State.Peers.{Peer, PeerState, Question, Reply}
use Rattle.ui_machine.specs.Steps.{question, step}
use Rattle.machine_laws.specs.FrontLaws.{mapped}

-- ** what is forgotten

-- a state without what its peer has counted and kept: its methods, and whether it is open
abbrev pub forgotten_state : PeerState → PeerState
forgotten_state s = record s { calls = 0; faults = 0; values = [] }

-- a peer in such a state
abbrev pub forgotten : Peer → Peer
forgotten p = record p { state = forgotten_state p.state }

-- the world with each of its peers so
abbrev pub forgotten_in : World → World
forgotten_in w = record w { peers = map forgotten w.peers }

-- the configuration with each of its world's peers so
abbrev pub forgotten_at : Config → Config
forgotten_at c = record c { world = forgotten_in c.world }

-- a question to a peer in such a state
abbrev pub forgotten_question : Question → Question
forgotten_question q = record q { state = forgotten_state q.state }

-- a reply to such a question, which leaves the peer so
abbrev pub forgotten_reply : Reply → Reply
forgotten_reply r = record r { question = forgotten_question r.question; state = forgotten_state r.state }

-- ** the law

-- where that is forgotten, also in the reply, a step leads to the same with it forgotten, or is stuck by the same arm
abbrev pub StepForgets : Type 0
StepForgets =
    (d : Definition) (reply : Option Reply) (c : Config) →
    step d (option_map forgotten_reply reply) (forgotten_at c) ≡ mapped forgotten_at (step d reply c)

-- and it asks the same, in the state that is left of the peer's
abbrev pub QuestionForgets : Type 0
QuestionForgets = (d : Definition) (c : Config) → question d (forgotten_at c) ≡ option_map forgotten_question (question d c)
