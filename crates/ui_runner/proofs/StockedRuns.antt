-- Runs with the peers that the host makes.
use Rattle.std.proofs.Common.{◌≡◌, ℕ, List, subst}
use Rattle.ui_machine.specs.Definition.{Definition}
use Rattle.native_peers.specs.Seen.{Relations, SameRelations, Seen}
use Rattle.event_lines.proofs.SameRuns.{ran_same}
use Rattle.host_peers.specs.Stock.{stocked_pool, stocked_relations}
use Rattle.ui_runner.specs.StockedRuns.{RunsWith}

-- a run with peers that may do the same
pub runs_same : (a b : Relations) (pool other : List Seen) (bytes : List ℕ) (status : ℕ) → SameRelations a b → pool ≡ other → RunsWith a pool bytes status → RunsWith b other bytes status
runs_same a b pool other bytes status same is r =
    subst (λ (p : List Seen). RunsWith b p bytes status) is
    (r.0, r.1, r.2, r.3, r.4, r.5, ran_same a b same _ r.0 _ status r.2 _ _ (λ x. x) r.3 r.4 r.5 bytes r.6)
