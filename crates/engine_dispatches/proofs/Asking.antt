-- How the machine follows where a peer is asked.
use Rattle.std.proofs.Common.{◌≡◌, refl, ap, sym, ◌∙◌, subst, ℕ, zero, suc, Bool, true, false, cond, List, [], ◌∷◌, map, Option, None, Some, Ok, Err, arith}
use Rattle.std.specs.Prelude.{IfSome, nat_eq, slice_get, slice_set}
use Rattle.std.proofs.lemmas.Bool.Decides.{nat_tests}
use Rattle.ui_machine.specs.declared.arm.Arm.{Arm}
use Rattle.ui_machine.specs.Definition.{Definition}
use Rattle.ui_machine.specs.Definition.Values.{Value}
use Rattle.ui_machine.specs.Outcome.{Answer}
use Rattle.ui_machine.specs.Runs.{Reaches, Step}
use Rattle.ui_machine.specs.Seq.{read, write}
use Rattle.ui_machine.specs.State.Config.{Config, World}
use Rattle.ui_machine.specs.State.Peers.{Peer, PeerState, Reply, no_peer}
use Rattle.ui_machine.specs.State.References.{mentions, next_unheld}
use Rattle.ui_machine.specs.State.Tasks.{Call, Calling, Task}
use Rattle.ui_machine.specs.Steps.{act, asked_after, asked_first, first_of, question, step}
use Rattle.law_peers.specs.Forgetting.{forgotten_at, forgotten_reply}
use Rattle.law_peers.specs.PeerLaws.{peer_in, replied_in, shut}
use Rattle.law_peers.proofs.ForgettingProofs.{step_forgets}
use Rattle.law_peers.proofs.RunLives.{reaches_lives}
use Rattle.machine_laws.specs.GoneLaws.{Gone, is_next, pruned, pruned_at}
use Rattle.engine_world.specs.Able.{LeadsToLiving}
use Rattle.engine_world.specs.Quiet.{IsQuiet, holders}
use Rattle.engine_world.specs.Standing.{gone_handlers, without_gone}
use Rattle.native_peers.specs.Seen.{Relations, Seen}
use Rattle.engine_dispatches.specs.Following.{Arrives, Breaks, Follows, Point, Stands}
use Rattle.engine_dispatches.specs.PoolView.{GivenBy, Knows, Takes, one_more, seen_of, with_seen}
use Rattle.engine_dispatches.specs.Safety.{ComesOfSafe, IsApt, NoneUnheld}
use Rattle.engine_dispatches.proofs.Lifting.{lift_step}
use Rattle.engine_dispatches.proofs.Living.{map_read, no_seen, one_replies, read_at, read_set, read_unset, seen_at, shut_seen}
use Rattle.engine_dispatches.proofs.Named.{names_alike}
use Rattle.engine_dispatches.proofs.Points.{held_there, left_as, seen_by}
use Rattle.engine_dispatches.proofs.Reaching.{reaches_here}
use Rattle.engine_dispatches.proofs.Standing.{IsApart, comes_by, steps_so, stuck, unheld_so}

-- turns that are left out leave a call as it is
call_stays : (gone : Gone) (call : Call) (rest ts : List Task) → map (pruned gone) ts ≡ Calling call ∷ rest → (below : List Task) × (ts ≡ Calling call ∷ below)
call_stays gone call rest [] is = absurd (cc is)
call_stays gone call rest (Calling c ∷ ts) is = let same : c ≡ call = cc is in (ts, ap (λ x. Calling x ∷ ts) same)
call_stays gone call rest (t ∷ ts) is = absurd (cc is)

write_seen : (ps : List Peer) (k : ℕ) (y : Peer) (s : Seen) → slice_get (map seen_of ps) k ≡ Some s → map seen_of (write no_peer ps k y) ≡ slice_set (map seen_of ps) k (seen_of y)
write_seen [] k y s at = absurd (cc at)
write_seen (p ∷ ps) zero y s at = refl
write_seen (p ∷ ps) (suc k) y s at = ap (λ (l : List Seen). seen_of p ∷ l) (write_seen ps k y s at)

-- a peer in another state is whose it was
held_written : (ps : List Peer) (k : ℕ) (after : PeerState) (s : Seen) → slice_get (map seen_of ps) k ≡ Some s
    → holders (write no_peer ps k (record (peer_in ps k) { state = after })) ≡ holders ps
held_written [] k after s at = absurd (cc at)
held_written (p ∷ ps) zero after s at = refl
held_written (p ∷ ps) (suc k) after s at = ap (λ (l : List (Option ℕ)). p.holder ∷ l) (held_written ps k after s at)

same_number : (j k : ℕ) → nat_eq j k ≡ true → j ≡ k
same_number j k is = grind (arith, nat_tests)

-- a peer that is seen to be open is there
pub open_there : (pool : List Seen) (k : ℕ) → (read no_seen pool k).state.is_open ≡ true → (s : Seen) × (slice_get pool k ≡ Some s) × (s.state.is_open ≡ true)
open_there [] k is = absurd (cc is)
open_there (s ∷ pool) zero is = (s, refl, is)
open_there (s ∷ pool) (suc k) is = open_there pool k is

module _ (d : Definition) (may : Relations) (p : Point) (call : Call) (rest : List Task) (s : Seen) (answer : Option Value) (after : PeerState)
    (none : NoneUnheld d p.view) (first : p.view.agenda ≡ Calling call ∷ rest) (at : slice_get p.pool call.peer ≡ Some s) (is_open : s.state.is_open ≡ true) where
  abbrev pub reply : Reply
  reply = record { question = record { peer = call.peer; state = s.state; method = call.method; args = call.args }; answer = answer; state = after }

  -- what is seen of the peer then
  abbrev pub new_seen : Seen
  new_seen = record s { state = after }

  calling_there : (c : Config) → Stands p c → (below : List Task) × (c.agenda ≡ Calling call ∷ below)
  calling_there c stands = call_stays (gone_handlers c.world) call rest c.agenda (ap (λ (x : Config). x.agenda) stands.view ∙ first)

  unheld_there : (c : Config) → Stands p c → next_unheld (mentions d c) c.world.objects ≡ None
  unheld_there c stands = unheld_so d p.view (forgotten_at c) stands.view ∙ none

  seen_there : (c : Config) → Stands p c → slice_get (map seen_of c.world.peers) call.peer ≡ Some s
  seen_there c stands = ap (λ (l : List Seen). slice_get l call.peer) stands.peers ∙ at

  peer_there : (c : Config) → Stands p c → seen_of (peer_in c.world.peers call.peer) ≡ s
  peer_there c stands = sym (seen_at c.world.peers call.peer) ∙ read_at no_seen s (map seen_of c.world.peers) call.peer (seen_there c stands)

  -- the machine asks the same
  pub asks_there : (c : Config) → Stands p c → question d c ≡ Some reply.question
  asks_there c stands =
      ap (asked_after c) (unheld_there c stands)
      ∙ ap (λ (ts : List Task). asked_first c.world ts) (calling_there c stands).1
      ∙ ap (λ (x : Seen). cond x.state.is_open (Some (record { peer = call.peer; state = x.state; method = call.method; args = call.args })) None) (peer_there c stands)
      ∙ ap (λ b. cond b (Some reply.question) None) is_open

  -- its method takes the arguments
  pub asked_aptly : {room : ℕ} → ComesOfSafe d room p → Takes d (slice_get s.state.shape call.method) call.args
  asked_aptly safe = (subst (λ q. IfSome q (IsApt d safe.at)) (asks_there safe.at safe.stands) (safe.safe.asks [] tt safe.at (reaches_here d safe.at))).args

  -- no memory was found for the line of the call
  pub breaks_asked : GivenBy may reply → (pool : List Seen) (w : World) → pool ≡ slice_set p.pool call.peer new_seen → IsQuiet p.view.world w → Breaks d may p (with_seen pool w.peers) w.transcript
  breaks_asked given pool w is quiet = record {
    replies = [];
    given = tt;
    breaks = λ c stands. record {
      halts = record { at = c; reached = reaches_here d c; stops = tt; lines = ap (λ (x : Config). x.world.transcript) stands.view ∙ sym quiet.0 };
      leaves = one_more (record {
        reply = reply;
        given = given;
        asks = asks_there c stands;
        peers =
            left_as (replied_in c.world.peers reply) w.peers pool
            (write_seen c.world.peers call.peer (record (peer_in c.world.peers call.peer) { state = after }) s (seen_there c stands)
            ∙ ap (λ (x : Seen). slice_set (map seen_of c.world.peers) call.peer (record x { state = after })) (peer_there c stands)
            ∙ ap (λ (l : List Seen). slice_set l call.peer new_seen) stands.peers
            ∙ sym is)
            (quiet.1 ∙ held_there d p c stands ∙ sym (held_written c.world.peers call.peer after s (seen_there c stands)));
      });
    };
  }

  apart : (c : Config) → (stands : Stands p c) → IsApart d p.view (forgotten_at c) stands.view
  apart c stands _ = ap (is_next (gone_handlers c.world)) (calling_there c stands).1

  steps : (reply : Option Reply) → step d reply p.view ≡ act d p.view.world reply p.view.agenda p.view.counted
  steps reply = ap (first_of d reply p.view) none

  -- it is not stuck
  pub asked_acts : {room : ℕ} → ComesOfSafe d room p → GivenBy may reply → (arm : Arm) → act d p.view.world (Some (forgotten_reply reply)) p.view.agenda p.view.counted ≡ Err arm → ⊥
  asked_acts safe given arm is =
      let c = safe.at in
      let here = safe.stands in
      safe.safe.safe.unstuck [] tt c (reaches_here d c) arm (record {
        reply = Some reply;
        asks = asks_there c here;
        stuck =
            stuck forgotten_at (step d (Some reply) c) arm (sym (step_forgets d (Some reply) c)
            ∙ stuck (pruned_at (gone_handlers c.world)) (step d (Some (forgotten_reply reply)) (forgotten_at c)) arm (sym (steps_so d p.view (forgotten_at c) here.view (Some (forgotten_reply reply)) (apart c here))
            ∙ steps (Some (forgotten_reply reply)) ∙ is));
      }) (given.fits d)

  reaches_replied : (c e : Config) → Step d (Some reply) c e → Reaches d (reply ∷ []) c e
  reaches_replied c e s = record { count = suc zero; steps = record { reply = Some reply; later = []; mid = e; replied = refl; step = s; follows = (refl, refl) } }

  -- and what it leaves names what lives
  pub asked_names : {room : ℕ} → ComesOfSafe d room p → GivenBy may reply → LeadsToLiving (act d p.view.world (Some (forgotten_reply reply)) p.view.agenda p.view.counted)
  asked_names safe given = by (act d p.view.world (Some (forgotten_reply reply)) p.view.agenda p.view.counted) refl
    where
      by : (a : Answer Config) → act d p.view.world (Some (forgotten_reply reply)) p.view.agenda p.view.counted ≡ a → LeadsToLiving a
      by (Err arm) is = tt
      by (Ok x) is =
          let c = safe.at in
          let here = safe.stands in
          let to = comes_by d p.view (forgotten_at c) here.view (Some (forgotten_reply reply)) x (apart c here) (steps (Some (forgotten_reply reply)) ∙ is) in
          let y = lift_step d (Some reply) c to.0 to.1 in
          names_alike y.0 x (ap without_gone y.2 ∙ to.2)
          (safe.safe.names (reply ∷ []) (given.fits d, tt) y.0 (reaches_replied c y.0 (record { asks = asks_there c here; leads = y.1 }))).tasks

  seen_after : (ps : List Peer) → map seen_of ps ≡ p.pool → (pool : List Seen) → map shut_seen pool ≡ map shut_seen (slice_set p.pool call.peer new_seen) → (k : ℕ)
      → cond (nat_eq call.peer k) (record { name = (peer_in ps k).name; state = shut after }) (shut_seen (seen_of (peer_in ps k))) ≡ shut_seen (read no_seen pool k)
  seen_after ps seen pool same k =
      by (nat_eq call.peer k) refl
      ∙ sym (map_read shut_seen no_seen (slice_set p.pool call.peer new_seen) k)
      ∙ ap (λ (l : List Seen). read no_seen l k) (sym same)
      ∙ map_read shut_seen no_seen pool k
    where
      here : seen_of (peer_in ps call.peer) ≡ s
      here = sym (seen_at ps call.peer) ∙ ap (λ (l : List Seen). read no_seen l call.peer) seen ∙ read_at no_seen s p.pool call.peer at

      by : (b : Bool) → nat_eq call.peer k ≡ b
          → cond b (record { name = (peer_in ps k).name; state = shut after }) (shut_seen (seen_of (peer_in ps k))) ≡ shut_seen (read no_seen (slice_set p.pool call.peer new_seen) k)
      by true is =
          let j = same_number call.peer k is in
          subst (λ i. ◌≡◌ {A = Seen} (record { name = (peer_in ps i).name; state = shut after }) (shut_seen (read no_seen (slice_set p.pool call.peer new_seen) i))) j
          (ap (λ (x : Seen). record { name = x.name; state = shut after }) here ∙ ap shut_seen (sym (read_set no_seen new_seen s p.pool call.peer at)))
      by false is =
          ap shut_seen (sym (seen_at ps k) ∙ ap (λ (l : List Seen). read no_seen l k) seen ∙ sym (read_unset no_seen new_seen p.pool call.peer k is))

  -- the machine follows
  pub follows_asked : GivenBy may reply → (x : Config) → act d p.view.world (Some (forgotten_reply reply)) p.view.agenda p.view.counted ≡ Ok x → (q : Point) → without_gone x ≡ q.view
      → Knows q.view.world q.pool → map shut_seen q.pool ≡ map shut_seen (slice_set p.pool call.peer new_seen) → Follows d may p q
  follows_asked given x is q shows knows same = record { replies = reply ∷ []; given = (given, tt); arrives = there }
    where
      there : (c : Config) → Stands p c → Arrives d (reply ∷ []) c q
      there c stands =
          let to = comes_by d p.view (forgotten_at c) stands.view (Some (forgotten_reply reply)) x (apart c stands) (steps (Some (forgotten_reply reply)) ∙ is) in
          let y = lift_step d (Some reply) c to.0 to.1 in
          let reached = reaches_replied c y.0 (record { asks = asks_there c stands; leads = y.1 }) in
          let view = ap without_gone y.2 ∙ to.2 ∙ shows in
          let lives = reaches_lives d (reply ∷ []) c y.0 reached in
          record {
            at = y.0;
            reached = reached;
            stands = record {
              view = view;
              peers = seen_by q.view.world y.0.world.peers q.pool (ap (λ (z : Config). z.world.peers) view) knows (λ k.
                  one_replies d c.world.peers y.0.world.peers lives.lines reply lives.lives k ∙ seen_after c.world.peers stands.peers q.pool same k);
            };
          }
