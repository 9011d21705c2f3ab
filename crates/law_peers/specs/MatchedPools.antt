-- A pool that matches is ready, and one that is ready matches, if nothing in it is unneeded.
use Rattle.std.specs.Prelude.{◌≡◌, true, List, None}
use Rattle.ui_machine.specs.Definition.{Definition}
use Rattle.ui_machine.specs.State.Peers.{Peer}
use Rattle.law_typing.specs.Verdict.Accepted.{Each}
use Rattle.law_typing.specs.Laws.StepsKeepGood.{PoolReady}
use Rattle.law_peers.specs.Needs.{needs_of, is_needed, mismatch}

-- no object has got any of these peers
abbrev pub AllFree : List Peer → Type 0
AllFree pool = Each (λ (p : Peer). p.holder ≡ None) pool

-- a pool that matches, and of which no object has got any peer, is ready
abbrev pub MatchedIsReady : Type 0
MatchedIsReady = (d : Definition) (pool : List Peer) → mismatch d pool ≡ None → AllFree pool → PoolReady d pool

-- and one that is ready, each of whose peers is needed, matches
abbrev pub ReadyMatches : Type 0
ReadyMatches = (d : Definition) (pool : List Peer) → PoolReady d pool → Each (λ p. is_needed (needs_of d) p ≡ true) pool → mismatch d pool ≡ None
