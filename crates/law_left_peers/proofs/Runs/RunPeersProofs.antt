-- What a run of the program leaves of each peer of the pool that it is lent.
use Rattle.std.proofs.Common.{◌≡◌, ◌<◌, ◌⊎◌, refl, ap, subst, ◌∙◌, ℕ, List, [], ◌∷◌, ◌++◌, true, inl, inr, length, map}
use Rattle.ui_machine.specs.Definition.{Definition}
use Rattle.ui_machine.specs.Definition.Names.{same_name}
use Rattle.ui_machine.specs.State.Peers.{Peer}
use Rattle.machine_laws.specs.FrontLaws.{fronted}
use Rattle.law_peers.specs.PeerLaws.{IsNamedApart}
use Rattle.law_peers.proofs.ApartProofs.{matched_is_apart}
use Rattle.law_left_peers.proofs.Names.PlainPlaces.{names_peers_plainly}
use Rattle.law_typing.specs.Laws.WellRead.{no_two}
use Rattle.native_peers.specs.Matching.{as_peers}
use Rattle.native_peers.specs.Seen.{Relations, Seen}
use Rattle.ui_engine.specs.Endings.{is_taken}
use Rattle.law_left_peers.specs.Sessions.LeftPeers.{BreaksOff, state_in}
use Rattle.law_left_peers.proofs.Sessions.LeftProofs.{run_leaves}
use Rattle.law_left_peers.proofs.Sessions.BrokenProofs.{build_breaks_off, run_breaks_off}
use Rattle.event_lines.specs.Opening.{IsTaken, left_by}
use Rattle.event_lines.specs.RunOver.{BreaksOffNext, events_served, said_in}
use Rattle.law_left_peers.specs.Runs.RunPeers.{Left, RunsLeave, StopsLeave}

-- no two have one name
abbrev AreApart : List Peer → Type 0
AreApart peers = no_two same_name (map (λ (p : Peer). p.name) peers) ≡ true

-- the names of the peers of a pool
names_so : (xs : List Seen) → map (λ (p : Peer). p.name) (as_peers xs) ≡ map (λ (x : Seen). x.name) xs
names_so [] = refl
names_so (x ∷ xs) = ap (λ names. x.name ∷ names) (names_so xs)

-- so no two of those of a pool have
pub seen_apart : (xs : List Seen) → no_two same_name (map (λ (x : Seen). x.name) xs) ≡ true → AreApart (as_peers xs)
seen_apart xs apart = ap (no_two same_name) (names_so xs) ∙ apart

-- the peer of a number is kept apart by its name
is_apart : (bytes : List ℕ) (d : Definition) (peers : List Peer) → IsTaken bytes d peers → AreApart peers → (k : ℕ) → k < length peers → IsNamedApart peers k
is_apart bytes d peers taken apart k inside = matched_is_apart d peers k (names_peers_plainly bytes d taken.denoted) apart taken.matches inside

pub runs_leave : (may : Relations) (peers : List Peer) → AreApart peers → RunsLeave may peers
runs_leave may peers apart bytes s lines outcomes new taken run k inside = by run.after
  where
    shown : List (List ℕ)
    shown = s.world.transcript ++ said_in outcomes

    own : IsNamedApart peers k
    own = is_apart bytes s.definition peers taken apart k inside

    by : (run.last ≡ fronted run.front new.world) ⊎ BreaksOffNext s.definition may run.last (fronted run.front new.world) → Left peers s shown new k
    by (inl e) =
        inl (run_leaves s.definition peers (events_served s.definition 1 lines outcomes) run.replies run.tally run.last new.world run.front shown run.run e run.shows k own)
    by (inr b) =
        inr (subst (λ (l : List (List ℕ)). BreaksOff s.definition peers k l (is_taken new.world.peers k) (state_in (left_by new.world) k)) run.shows
        (run_breaks_off may s.definition peers (events_served s.definition 1 lines outcomes) run.replies b.breaks_off.replies run.tally run.last b.event
        new.world.peers (run.front ++ new.world.transcript) run.run b.breaks_off.so k own))

pub stops_leave : (may : Relations) (peers : List Peer) → AreApart peers → StopsLeave may peers
stops_leave may peers apart bytes s taken off k inside =
    build_breaks_off may s.definition peers off.breaks_off.replies s.world.peers s.world.transcript off.breaks_off.so k
    (is_apart bytes s.definition peers taken apart k inside)
