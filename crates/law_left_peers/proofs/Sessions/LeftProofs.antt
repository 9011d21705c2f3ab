-- What a run leaves of each peer, beside the lines that it shows.
use Rattle.std.proofs.Common.{◌≡◌, ◌⊎◌, refl, ap, sym, subst, ◌∙◌, ℕ, zero, suc, Bool, true, false, cond, List, [], ◌∷◌, ◌++◌, ◌||◌, map, nat_eq, is_some, inl, inr, codes, Option, None, Some}
use native.Mathlib.Omega.{arith}
use Rattle.std.specs.List.{filter}
use Rattle.std.proofs.lemmas.Bool.{eqb-true, false≢true}
use Rattle.std.proofs.lemmas.List.{append-nil}
use Rattle.std.proofs.lemmas.List.Elements.{filter-append}
use Rattle.ui_machine.specs.Definition.{Definition}
use Rattle.ui_machine.specs.Definition.Names.{same_name}
use Rattle.ui_machine.specs.Instructions.Peers.{question_of}
use Rattle.ui_machine.specs.State.Config.{Config, World, is_asked, peer_state}
use Rattle.ui_machine.specs.State.Peers.{Peer, PeerState, Question, Reply, no_peer}
use Rattle.ui_machine.specs.State.References.{mentions, next_unheld}
use Rattle.ui_machine.specs.State.Tasks.{Answering, Beginning, Building, Call, Calling, Constructing, Due, Emitting, Handling, Notifying, Running, Setting, Task, Thawing, Transferring, Unsetting}
use Rattle.ui_machine.specs.Steps.{asked_after, asked_first, question}
use Rattle.law_peers.specs.PeerLaws.{Ends, IsAmong, IsNamedApart, LeadsTo, Lives, close_line, is_shut, peer_in, replied_in, replies_of, reply_line, stays}
use Rattle.law_peers.specs.PeerLines.{begins_with, is_peer_line, is_reply_line_of, peer_lines}
use Rattle.law_peers.proofs.CloseProofs.{closes_once}
use Rattle.law_peers.proofs.LifeProofs.{each_lives, read_other, read_same}
use Rattle.law_peers.proofs.NameProofs.{is_same, lines_by_name}
use Rattle.law_peers.proofs.WorkedProofs.{worked_life}
use Rattle.law_peers.specs.WorkedPeers as worked
use Rattle.machine_rows.specs.Runs.LastReference.{definition, events}
use Rattle.law_peers.proofs.RunLives.{event_lives, run_lives}
use Rattle.native_peers.specs.Moves.{closed}
use Rattle.native_peers.specs.Seen.{Relations, Seen}
use Rattle.engine_dispatches.specs.PoolView.{as_shown, one_more, seen_of}
use Rattle.engine_dispatches.specs.PoolView as pools
use Rattle.ui_engine.specs.Endings.{closed_if, is_taken, taken_closed}
use Rattle.law_left_peers.specs.Sessions.LeftPeers.{BreaksOff, Comes, BuildLeaves, EventLeaves, IsLeft, OnceAtMost, RunLeaves, WorkedLeft, as_it_was, at_the_end, by_a_line, finished, state_in}

-- ** lines

-- what is of one sort is so among those of another, where each of the one is of the other
within : (p q : List ℕ → Bool) → ((l : List ℕ) → p l ≡ true → q l ≡ true) → (ls : List (List ℕ)) → filter p (filter q ls) ≡ filter p ls
within p q so [] = refl
within p q so (l ∷ ls) = by (q l) (p l) refl refl (within p q so ls)
  where
    by : (a b : Bool) → q l ≡ a → p l ≡ b → filter p (filter q ls) ≡ filter p ls →
        filter p (cond a (l ∷ filter q ls) (filter q ls)) ≡ cond b (l ∷ filter p ls) (filter p ls)
    by true true e f rest = ap (λ t. cond t (l ∷ filter p (filter q ls)) (filter p (filter q ls))) f ∙ ap (λ t. l ∷ t) rest
    by true false e f rest = ap (λ t. cond t (l ∷ filter p (filter q ls)) (filter p (filter q ls))) f ∙ rest
    by false true e f rest = absurd (false≢true (sym e ∙ so l f))
    by false false e f rest = rest

-- what is among some of the lines is among them all
among : (q : List ℕ → Bool) (line : List ℕ) (ls : List (List ℕ)) → IsAmong line (filter q ls) → IsAmong line ls
among q line [] h = h
among q line (l ∷ ls) h = by (q l) (among q line ls) h
  where
    by : (a : Bool) → (IsAmong line (filter q ls) → IsAmong line ls) → IsAmong line (cond a (l ∷ filter q ls) (filter q ls)) → IsAmong line (l ∷ ls)
    by true rest (inl e) = inl e
    by true rest (inr h) = inr (rest h)
    by false rest h = inr (rest h)

-- what begins with a longer text begins with its front
begins : (front more line : List ℕ) → begins_with (front ++ more) line ≡ true → begins_with front line ≡ true
begins [] more line e = refl
begins (x ∷ front) more [] e = e
begins (x ∷ front) more (y ∷ line) e = by (nat_eq x y) (begins front more line) e
  where
    by : (b : Bool) → (begins_with (front ++ more) line ≡ true → begins_with front line ≡ true) → cond b (begins_with (front ++ more) line) false ≡ true
        → cond b (begins_with front line) false ≡ true
    by true rest e = rest e
    by false rest e = e

either : (a b : Bool) → a || b ≡ true → (a ≡ true) ⊎ (b ≡ true)
either true b e = inl refl
either false b e = inr e

or_left : (a b : Bool) → a ≡ true → a || b ≡ true
or_left true b e = refl
or_left false b e = absurd (false≢true e)

or_right : (a b : Bool) → b ≡ true → a || b ≡ true
or_right true b e = refl
or_right false b e = e

-- a line of the replies of a name is about a peer
reply_is_about : (name l : List ℕ) → is_reply_line_of name l ≡ true → is_peer_line l ≡ true
reply_is_about name l e = or_left (begins_with (codes "call ") l || begins_with (codes "fault ") l) (begins_with (codes "close ") l) (by (either _ _ e))
  where
    by : (begins_with (codes "call " ++ (name ++ codes ".")) l ≡ true) ⊎ (begins_with (codes "fault " ++ (name ++ codes ".")) l ≡ true)
        → begins_with (codes "call ") l || begins_with (codes "fault ") l ≡ true
    by (inl h) = or_left (begins_with (codes "call ") l) (begins_with (codes "fault ") l) (begins (codes "call ") (name ++ codes ".") l h)
    by (inr h) = or_right (begins_with (codes "call ") l) (begins_with (codes "fault ") l) (begins (codes "fault ") (name ++ codes ".") l h)

-- so is that of a close
close_is_about : (d : Definition) (peers : List Peer) (k : ℕ) (l : List ℕ) → same_name (close_line d peers k) l ≡ true → is_peer_line l ≡ true
close_is_about d peers k l e = subst (λ t. is_peer_line t ≡ true) (is_same (close_line d peers k) l e) refl

-- ** one peer

module _ (d : Definition) (peers : List Peer) (k : ℕ) (apart : IsNamedApart peers k) where
  told_of : (shown : List (List ℕ)) (replies : List Reply) (new : List Peer) → Lives d peers replies (peer_lines shown) new →
      filter (is_reply_line_of (peer_in peers k).name) shown ≡ map (reply_line d peers) (replies_of k replies)
  told_of shown replies new lives =
      sym (within (is_reply_line_of (peer_in peers k).name) is_peer_line (reply_is_about (peer_in peers k).name) shown)
      ∙ lines_by_name d k peers replies (peer_lines shown) new lives apart

  once_of : (shown : List (List ℕ)) (replies : List Reply) (new : List Peer) → Lives d peers replies (peer_lines shown) new →
      OnceAtMost (close_line d peers k) shown
  once_of shown replies new lives =
      subst (λ (t : List (List ℕ)). (t ≡ []) ⊎ (t ≡ close_line d peers k ∷ [])) (within (same_name (close_line d peers k)) is_peer_line (close_is_about d peers k) shown)
      (closes_once d k peers replies (peer_lines shown) new lives apart)

  -- what it comes to where it is left as it ends, or closed if so
  comes : (shown : List (List ℕ)) (replies : List Reply) (new : List Peer) (got : Bool) (left : PeerState) → Lives d peers replies (peer_lines shown) new
      → left ≡ cond got (closed (peer_in new k).state) (peer_in new k).state → Comes d peers k shown got left
  comes shown replies new got left lives is =
      let x = each_lives d k peers replies (peer_lines shown) new lives in
      record {
        replies = replies_of k replies;
        last = x.last;
        asked = x.asked;
        told = told_of shown replies new lives;
        once = once_of shown replies new lives;
        left = subst (IsLeft shown (close_line d peers k) got x.last) (sym is) (by got x.ended);
      }
    where
      by : (b : Bool) {last state : PeerState} → Ends (close_line d peers k) (peer_lines shown) last state
          → IsLeft shown (close_line d peers k) b last (cond b (closed state) state)
      by true stays = at_the_end refl
      by false stays = as_it_was refl
      by true (is_shut opened h) = by_a_line opened (among is_peer_line (close_line d peers k) shown h)
      by false (is_shut opened h) = by_a_line opened (among is_peer_line (close_line d peers k) shown h)

-- ** what is left

-- a peer that an object has got is closed as the session is finished, and each other one is left
left_at : (ps : List Peer) (k : ℕ) → state_in (taken_closed ps (map seen_of ps)) k ≡ cond (is_taken ps k) (closed (peer_in ps k).state) (peer_in ps k).state
left_at [] k = refl
left_at (p ∷ ps) zero = by (is_some p.holder)
  where
    by : (b : Bool) → (closed_if b (seen_of p)).state ≡ cond b (closed p.state) p.state
    by true = refl
    by false = refl
left_at (p ∷ ps) (suc k) = left_at ps k

pub run_leaves : RunLeaves
run_leaves d peers events replies tally last new front shown run fronts shows k apart =
    comes d peers k apart shown replies new.peers (is_taken new.peers k) (state_in (finished new) k) lives (left_at new.peers k)
  where
    all : last.transcript ≡ shown
    all = ap (λ (w : World). w.transcript) fronts ∙ shows

    lives : Lives d peers replies (peer_lines shown) new.peers
    lives =
        subst (λ (t : List (List ℕ)). Lives d peers replies (peer_lines t) new.peers) all
        (subst (λ (ps : List Peer). Lives d peers replies (peer_lines last.transcript) ps) (ap (λ (w : World). w.peers) fronts) (run_lives d peers events replies tally last run))

-- ** a build

pub build_leaves : BuildLeaves
build_leaves d peers replies tally built run k apart =
    comes d peers k apart built.transcript replies built.peers false (peer_in built.peers k).state (run_lives d peers [] replies tally built run) refl

-- ** one event

pub front_off : (xs ys zs : List (List ℕ)) → xs ++ ys ≡ xs ++ zs → ys ≡ zs
front_off [] ys zs e = e
front_off (x ∷ xs) ys zs e = front_off xs ys zs (cc e)

pub event_leaves : EventLeaves
event_leaves d event replies tally w new added serves adds k apart =
    comes d w.peers k apart added replies new.peers false (peer_in new.peers k).state lives refl
  where
    lives : Lives d w.peers replies (peer_lines added) new.peers
    lives =
        let x = event_lives d event replies w tally new serves in
        subst (λ (t : List (List ℕ)). Lives d w.peers replies t new.peers)
        (front_off (peer_lines w.transcript) x.lines (peer_lines added)
        (sym x.shown ∙ (ap peer_lines adds ∙ filter-append is_peer_line w.transcript added)))
        x.lives

-- ** where no memory was found

-- a configuration asks an open peer, in its state
record AsksOpen (w : World) (q : Question) : Type 0 where
  state : q.state ≡ (peer_in w.peers q.peer).state
  opened : (peer_in w.peers q.peer).state.is_open ≡ true

asks_call : (w : World) (call : Call) (q : Question) → question_of w call ≡ Some q → AsksOpen w q
asks_call w call q e = by (is_asked w call.peer) refl e
  where
    by : (b : Bool) → is_asked w call.peer ≡ b
        → cond b (Some (record { peer = call.peer; state = peer_state w call.peer; method = call.method; args = call.args })) None ≡ Some q → AsksOpen w q
    by true opened e =
        let asked : Question = record { peer = call.peer; state = peer_state w call.peer; method = call.method; args = call.args } in
        let same : asked ≡ q = cc e in
        subst (AsksOpen w) same (record { state = refl; opened = opened })
    by false opened e = absurd (cc e)

asks_first : (w : World) (tasks : List Task) (q : Question) → asked_first w tasks ≡ Some q → AsksOpen w q
asks_first w (Calling call ∷ rest) q e = asks_call w call q e
asks_first w [] q e = absurd (cc e)
asks_first w (Setting object slot x ∷ rest) q e = absurd (cc e)
asks_first w (Notifying object slot ∷ rest) q e = absurd (cc e)
asks_first w (Beginning emission ∷ rest) q e = absurd (cc e)
asks_first w (Emitting emission turns ∷ rest) q e = absurd (cc e)
asks_first w (Transferring number back ∷ rest) q e = absurd (cc e)
asks_first w (Unsetting number ∷ rest) q e = absurd (cc e)
asks_first w (Thawing object slots ∷ rest) q e = absurd (cc e)
asks_first w (Running frame ∷ rest) q e = absurd (cc e)
asks_first w (Answering source ∷ rest) q e = absurd (cc e)
asks_first w (Constructing object steps held ∷ rest) q e = absurd (cc e)
asks_first w (Building items ∷ rest) q e = absurd (cc e)
asks_first w (Handling request ∷ rest) q e = absurd (cc e)
asks_first w (Due source ∷ rest) q e = absurd (cc e)

asks_open : (d : Definition) (c : Config) (q : Question) → question d c ≡ Some q → AsksOpen c.world q
asks_open d c q e = by (next_unheld (mentions d c) c.world.objects) e
  where
    by : (id : Option ℕ) → asked_after c id ≡ Some q → AsksOpen c.world q
    by None e = asks_first c.world c.agenda q e
    by (Some id) e = absurd (cc e)

-- a reply more
leads_more : (rs : List Reply) (r : Reply) (first last : PeerState) → LeadsTo rs first last → r.question.state ≡ last → last.is_open ≡ true
    → LeadsTo (rs ++ r ∷ []) first r.state
leads_more [] r first last same state opened = (state ∙ sym same, ap (λ (s : PeerState). s.is_open) same ∙ opened, refl)
leads_more (x ∷ rs) r first last leads state opened = (leads.0, leads.1, leads_more rs r x.state last leads.2 state opened)

-- a pool, with the peers closed that these have got
pub closed_at : (holders : List Peer) (pool : List Seen) (k : ℕ) → state_in (taken_closed holders pool) k ≡ cond (is_taken holders k) (closed (state_in pool k)) (state_in pool k)
closed_at [] pool k = refl
closed_at (p ∷ holders) [] k = by (is_taken (p ∷ holders) k)
  where
    by : (b : Bool) → no_peer.state ≡ cond b (closed no_peer.state) no_peer.state
    by true = refl
    by false = refl
closed_at (p ∷ holders) (s ∷ pool) zero = by (is_some p.holder)
  where
    by : (b : Bool) → (closed_if b s).state ≡ cond b (closed s.state) s.state
    by true = refl
    by false = refl
closed_at (p ∷ holders) (s ∷ pool) (suc k) = closed_at holders pool k

module _ (d : Definition) (peers : List Peer) (k : ℕ) (apart : IsNamedApart peers k) (shown : List (List ℕ)) (replies : List Reply) (new : List Peer)
    (lives : Lives d peers replies (peer_lines shown) new) where
  -- with no reply more
  pub so_far : (got : Bool) (state : PeerState) → state ≡ cond got (closed (peer_in new k).state) (peer_in new k).state → BreaksOff d peers k shown got state
  so_far got state is =
      let x = comes d peers k apart shown replies new got state lives is in
      record {
        replies = x.replies;
        more = [];
        one = omega arith;
        last = x.last;
        asked = subst (λ (rs : List Reply). LeadsTo rs (peer_in peers k).state x.last) (sym (append-nil x.replies)) x.asked;
        told = x.told;
        once = x.once;
        left = x.left;
      }

  -- with a reply more of this peer
  once_more : (r : Reply) → r.question.state ≡ (peer_in new k).state → (peer_in new k).state.is_open ≡ true → (got : Bool) (state : PeerState)
      → state ≡ cond got (closed r.state) r.state → BreaksOff d peers k shown got state
  once_more r asked opened got state is =
      let x = each_lives d k peers replies (peer_lines shown) new lives in
      record {
        replies = replies_of k replies;
        more = r ∷ [];
        one = omega arith;
        last = r.state;
        asked = leads_more (replies_of k replies) r (peer_in peers k).state x.last x.asked (asked ∙ stayed x.ended opened) (ap (λ (s : PeerState). s.is_open) (sym (stayed x.ended opened)) ∙ opened);
        told = told_of d peers k apart shown replies new lives;
        once = once_of d peers k apart shown replies new lives;
        left = subst (IsLeft shown (close_line d peers k) got r.state) (sym is) (by got);
      }
    where
      stayed : {line : List ℕ} {ls : List (List ℕ)} {last now : PeerState} → Ends line ls last now → now.is_open ≡ true → now ≡ last
      stayed stays opened = refl
      stayed (is_shut was h) opened = absurd (false≢true opened)

      by : (b : Bool) → IsLeft shown (close_line d peers k) b r.state (cond b (closed r.state) r.state)
      by true = at_the_end refl
      by false = as_it_was refl

-- the peers that are left where no memory was found at a configuration
pub breaks : (may : Relations) (d : Definition) (peers : List Peer) (k : ℕ) → IsNamedApart peers k → (shown : List (List ℕ)) (replies : List Reply) (at : Config)
    → Lives d peers replies (peer_lines shown) at.world.peers → (left : List Peer) → pools.IsLeft d may at left
    → (got : Bool) (state : PeerState) → state ≡ cond got (closed (peer_in left k).state) (peer_in left k).state → BreaksOff d peers k shown got state
breaks may d peers k apart shown replies at lives left (as_shown e) got state is =
    so_far d peers k apart shown replies at.world.peers lives got state
    (is ∙ ap (λ (s : PeerState). cond got (closed s) s) (ap (λ (l : List Peer). (peer_in l k).state) (sym e)))
breaks may d peers k apart shown replies at lives left (one_more o) got state is = by (nat_eq o.reply.question.peer k) refl
  where
    ps : List Peer
    ps = at.world.peers

    now : (peer_in left k).state ≡ (peer_in (replied_in ps o.reply) k).state
    now = ap (λ (l : List Peer). (peer_in l k).state) (sym o.peers)

    by : (b : Bool) → nat_eq o.reply.question.peer k ≡ b → BreaksOff d peers k shown got state
    by true e =
        let same = eqb-true o.reply.question.peer k e in
        let asks = asks_open d at o.reply.question o.asks in
        let replied = ap (λ n. (peer_in (replied_in ps o.reply) n).state) (sym same) ∙ ap (λ (p : Peer). p.state) (read_same ps o.reply.question.peer (record (peer_in ps o.reply.question.peer) { state = o.reply.state })) in
        once_more d peers k apart shown replies ps lives o.reply
        (asks.state ∙ ap (λ n. (peer_in ps n).state) same)
        (ap (λ n. (peer_in ps n).state.is_open) (sym same) ∙ asks.opened)
        got state (is ∙ ap (λ (s : PeerState). cond got (closed s) s) (now ∙ replied))
    by false e =
        so_far d peers k apart shown replies ps lives got state
        (is ∙ ap (λ (s : PeerState). cond got (closed s) s) (now ∙ ap (λ (p : Peer). p.state) (read_other ps o.reply.question.peer k (record (peer_in ps o.reply.question.peer) { state = o.reply.state }) e)))

-- ** a worked run

pub worked_left : WorkedLeft
worked_left =
    let x = worked_life in
    record { new = x.new; comes = run_leaves definition worked.pool events x.replies x.tally x.new x.new [] x.new.transcript x.run refl refl 0 x.apart }
