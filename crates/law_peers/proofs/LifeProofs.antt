-- Lives of peers, joined; and what they say of each peer.
use Rattle.std.proofs.Common.{◌≡◌, refl, ap, sym, subst, ◌∙◌, ℕ, zero, suc, Bool, true, false, cond, List, [], ◌∷◌, ◌++◌, map, nat_eq, Option, None, Some, inl, inr, append_assoc, arith}
use Rattle.std.specs.List.{filter}
use Rattle.std.proofs.lemmas.Bool.Decides.{nat_tests}
use Rattle.std.proofs.lemmas.Bool.{eqb-true, false≢true}
use Rattle.ui_machine.specs.Definition.{Definition}
use Rattle.ui_machine.specs.Definition.Signals.{Method}
use Rattle.ui_machine.specs.Definition.Values.{Value}
use Rattle.ui_machine.specs.Instructions.Peers.{call_line}
use Rattle.ui_machine.specs.Output.Lines as lines
use Rattle.ui_machine.specs.Output.Text.{text_of_line}
use Rattle.ui_machine.specs.Rules.Construction.{lent}
use Rattle.ui_machine.specs.Seq.{read, write}
use Rattle.ui_machine.specs.State.Config.{World}
use Rattle.ui_machine.specs.State.Peers.{Peer, PeerState, Reply, closed_peer, no_peer}
use Rattle.law_peers.specs.PeerLines.{is_reply_line, peer_lines}
use Rattle.law_peers.specs.PeerLaws.{peer_in, replied_in, shut_in, no_method, reply_line, close_line, Lives, nothing, was_got, has_replied, was_closed, PeersLive, replies_of, LeadsTo, shut, IsAmong, Ends, stays, is_shut, LivesBy, EachLives, LinesOfReplies, UntouchedStays}

-- ** pools

-- what a write leaves of a peer that it replaces, it leaves of all
pub kept : {B : Type 0} (f : Peer → B) (peers : List Peer) (number k : ℕ) (y : Peer) → f y ≡ f (read no_peer peers number) →
    f (read no_peer (write no_peer peers number y) k) ≡ f (read no_peer peers k)
kept f [] zero zero y e = e
kept f [] zero (suc k) y e = refl
kept f [] (suc number) zero y e = refl
kept f [] (suc number) (suc k) y e = kept f [] number k y e
kept f (x ∷ peers) zero zero y e = e
kept f (x ∷ peers) zero (suc k) y e = refl
kept f (x ∷ peers) (suc number) zero y e = refl
kept f (x ∷ peers) (suc number) (suc k) y e = kept f peers number k y e

pub read_same : (peers : List Peer) (number : ℕ) (y : Peer) → read no_peer (write no_peer peers number y) number ≡ y
read_same [] zero y = refl
read_same [] (suc number) y = read_same [] number y
read_same (x ∷ peers) zero y = refl
read_same (x ∷ peers) (suc number) y = read_same peers number y

one_less : (number k : ℕ) → nat_eq (suc number) (suc k) ≡ false → nat_eq number k ≡ false
one_less number k e = grind (arith, nat_tests)

pub read_other : (peers : List Peer) (number k : ℕ) (y : Peer) → nat_eq number k ≡ false → read no_peer (write no_peer peers number y) k ≡ read no_peer peers k
read_other [] zero zero y e = absurd (cc)
read_other [] zero (suc k) y e = refl
read_other [] (suc number) zero y e = refl
read_other [] (suc number) (suc k) y e = read_other [] number k y (one_less number k e)
read_other (x ∷ peers) zero zero y e = absurd (cc)
read_other (x ∷ peers) zero (suc k) y e = refl
read_other (x ∷ peers) (suc number) zero y e = refl
read_other (x ∷ peers) (suc number) (suc k) y e = read_other peers number k y (one_less number k e)

-- ** joined

pub joined : {d : Definition} {a b c : List Peer} {r s : List Reply} {l m : List (List ℕ)} → Lives d a r l b → Lives d b s m c → Lives d a (r ++ s) (l ++ m) c
joined nothing y = y
joined (was_got number object x) y = was_got number object (joined x y)
joined (has_replied asked is_open line x) y = has_replied asked is_open line (joined x y)
joined (was_closed number is_open line x) y = was_closed number is_open line (joined x y)

pub then_live : (d : Definition) (r s : List Reply) (a b c : World) → PeersLive d r a b → PeersLive d s b c → PeersLive d (r ++ s) a c
then_live d r s a b c x y = record {
  lines = x.lines ++ y.lines;
  shown = y.shown ∙ (ap (λ t. t ++ y.lines) x.shown ∙ append_assoc (peer_lines a.transcript) x.lines y.lines);
  lives = joined x.lives y.lives;
}

-- ** names and lines

names_kept : {d : Definition} {a b : List Peer} {r : List Reply} {l : List (List ℕ)} (k : ℕ) → Lives d a r l b → (peer_in b k).name ≡ (peer_in a k).name
names_kept k nothing = refl
names_kept {a = a} k (was_got number object x) = names_kept k x ∙ kept (λ (p : Peer). p.name) a number k (record (peer_in a number) { holder = Some object }) refl
names_kept {a = a} k (has_replied {reply = r} asked is_open line x) = names_kept k x ∙ kept (λ (p : Peer). p.name) a r.question.peer k (record (peer_in a r.question.peer) { state = r.state }) refl
names_kept {a = a} k (was_closed number is_open line x) = names_kept k x ∙ kept (λ (p : Peer). p.name) a number k (closed_peer (peer_in a number)) refl

-- a line by the names of its peer and method
abbrev said_by : Definition → Method → List Value → Option Value → List ℕ → List ℕ
said_by d m args answer name = text_of_line d.types (call_line (record no_peer { name = name }) m args answer)

by_name : (d : Definition) (p : Peer) (m : Method) (args : List Value) (answer : Option Value) → text_of_line d.types (call_line p m args answer) ≡ said_by d m args answer p.name
by_name d p m args None = refl
by_name d p m args (Some v) = refl

line_by_name : (d : Definition) (a b : List Peer) (r : Reply) → (peer_in b r.question.peer).name ≡ (peer_in a r.question.peer).name → reply_line d b r ≡ reply_line d a r
line_by_name d a b r same =
    let m = read no_method r.question.state.shape r.question.method in
    by_name d (peer_in b r.question.peer) m r.question.args r.answer
    ∙ (ap (said_by d m r.question.args r.answer) same ∙ sym (by_name d (peer_in a r.question.peer) m r.question.args r.answer))

lines_by_name : (d : Definition) (a b : List Peer) (rs : List Reply) → ((k : ℕ) → (peer_in b k).name ≡ (peer_in a k).name) → map (reply_line d b) rs ≡ map (reply_line d a) rs
lines_by_name d a b [] same = refl
lines_by_name d a b (r ∷ rs) same = let h = line_by_name d a b r (same r.question.peer) in let t = lines_by_name d a b rs same in cc

pub says_reply : (d : Definition) (p : Peer) (m : Method) (args : List Value) (answer : Option Value) → is_reply_line (text_of_line d.types (call_line p m args answer)) ≡ true
says_reply d p m args None = refl
says_reply d p m args (Some v) = refl

filtered : (line : List ℕ) (ls : List (List ℕ)) (b : Bool) → is_reply_line line ≡ b → filter is_reply_line (line ∷ ls) ≡ cond b (line ∷ filter is_reply_line ls) (filter is_reply_line ls)
filtered line ls b e = ap (λ c. cond c (line ∷ filter is_reply_line ls) (filter is_reply_line ls)) e

pub lines_of_replies : LinesOfReplies
lines_of_replies d a rs ls b nothing = refl
lines_of_replies d a rs ls b (was_got number object x) =
    lines_of_replies d (lent (Some number) object a) rs ls b x
    ∙ lines_by_name d a (lent (Some number) object a) rs (λ k. kept (λ (p : Peer). p.name) a number k (record (peer_in a number) { holder = Some object }) refl)
lines_of_replies d a (r ∷ rs) (line ∷ ls) b (has_replied asked is_open said x) =
    filtered line ls true (ap is_reply_line said ∙ says_reply d (peer_in a r.question.peer) (read no_method r.question.state.shape r.question.method) r.question.args r.answer)
    ∙ (ap (λ l. l ∷ filter is_reply_line ls) said
    ∙ ap (λ t. reply_line d a r ∷ t) (lines_of_replies d (replied_in a r) rs ls b x
    ∙ lines_by_name d a (replied_in a r) rs (λ k. kept (λ (p : Peer). p.name) a r.question.peer k (record (peer_in a r.question.peer) { state = r.state }) refl)))
lines_of_replies d a rs (line ∷ ls) b (was_closed number is_open said x) =
    filtered line ls false (ap is_reply_line said)
    ∙ (lines_of_replies d (shut_in a number) rs ls b x
    ∙ lines_by_name d a (shut_in a number) rs (λ k. kept (λ (p : Peer). p.name) a number k (closed_peer (peer_in a number)) refl))

-- ** each peer

-- the line of a close by the name
close_by_name : (d : Definition) (a b : List Peer) (k : ℕ) → (peer_in b k).name ≡ (peer_in a k).name → close_line d b k ≡ close_line d a k
close_by_name d a b k same = ap (λ name. text_of_line d.types (lines.close name)) same

-- with more lines, and the name under another pool
ends_more : {line same : List ℕ} {ls : List (List ℕ)} {first last : PeerState} (l : List ℕ) → same ≡ line → Ends same ls first last → Ends line (l ∷ ls) first last
ends_more l e stays = stays
ends_more {ls = ls} l e (is_shut opened among) = is_shut opened (inr (subst (λ n. IsAmong n ls) e among))

ends_same : {line same : List ℕ} {ls : List (List ℕ)} {first last : PeerState} → same ≡ line → Ends same ls first last → Ends line ls first last
ends_same e stays = stays
ends_same {ls = ls} e (is_shut opened among) = is_shut opened (subst (λ n. IsAmong n ls) e among)

-- a closed peer is asked no more
pub closed_asks_none : (rs : List Reply) (first last : PeerState) → first.is_open ≡ false → LeadsTo rs first last → (rs ≡ []) × (first ≡ last)
closed_asks_none [] first last closed leads = (refl, leads)
closed_asks_none (r ∷ rs) first last closed leads = absurd (false≢true (sym closed ∙ leads.1))

closed_stays : {line : List ℕ} {ls : List (List ℕ)} {first last : PeerState} → first.is_open ≡ false → Ends line ls first last → first ≡ last
closed_stays closed stays = refl
closed_stays closed (is_shut opened among) = absurd (false≢true (sym closed ∙ opened))

module _ (d : Definition) (k : ℕ) where
  -- before a change that leaves the peer's state
  alike : (a c b : List Peer) (rs : List Reply) (ls : List (List ℕ)) → (peer_in c k).state ≡ (peer_in a k).state → (peer_in c k).name ≡ (peer_in a k).name →
      LivesBy d k c rs ls b → LivesBy d k a rs ls b
  alike a c b rs ls state name x = record {
    last = x.last;
    asked = subst (λ (s : PeerState). LeadsTo (replies_of k rs) s x.last) state x.asked;
    ended = ends_same (close_by_name d a c k name) x.ended;
    named = x.named ∙ name;
  }

  more_lines : (a b : List Peer) (rs : List Reply) (l : List ℕ) (ls : List (List ℕ)) → LivesBy d k a rs ls b → LivesBy d k a rs (l ∷ ls) b
  more_lines a b rs l ls x = record { last = x.last; asked = x.asked; ended = ends_more l refl x.ended; named = x.named }

  of_one : (r : Reply) (rs : List Reply) (b : Bool) → nat_eq r.question.peer k ≡ b → replies_of k (r ∷ rs) ≡ cond b (r ∷ replies_of k rs) (replies_of k rs)
  of_one r rs b e = ap (λ c. cond c (r ∷ replies_of k rs) (replies_of k rs)) e

  replied_else : (a b : List Peer) (r : Reply) (rs : List Reply) (ls : List (List ℕ)) → nat_eq r.question.peer k ≡ false →
      LivesBy d k (replied_in a r) rs ls b → LivesBy d k a (r ∷ rs) ls b
  replied_else a b r rs ls e x =
      let off : peer_in (replied_in a r) k ≡ peer_in a k = read_other a r.question.peer k (record (peer_in a r.question.peer) { state = r.state }) e in
      let y = alike a (replied_in a r) b rs ls (ap (λ (p : Peer). p.state) off) (ap (λ (p : Peer). p.name) off) x in
      record {
        last = y.last;
        asked = subst (λ (q : List Reply). LeadsTo q (peer_in a k).state y.last) (sym (of_one r rs false e)) y.asked;
        ended = y.ended;
        named = y.named;
      }

  replied_here : (a b : List Peer) (r : Reply) (rs : List Reply) (ls : List (List ℕ)) → r.question.peer ≡ k → nat_eq r.question.peer k ≡ true →
      r.question.state ≡ (peer_in a r.question.peer).state → r.question.state.is_open ≡ true →
      LivesBy d k (replied_in a r) rs ls b → LivesBy d k a (r ∷ rs) ls b
  replied_here a b r rs ls here e asked opened x =
      let on : peer_in (replied_in a r) k ≡ record (peer_in a r.question.peer) { state = r.state } =
      ap (λ n. peer_in (replied_in a r) n) (sym here) ∙ read_same a r.question.peer (record (peer_in a r.question.peer) { state = r.state }) in
      let state : (peer_in (replied_in a r) k).state ≡ r.state = ap (λ (p : Peer). p.state) on in
      let name : (peer_in (replied_in a r) k).name ≡ (peer_in a k).name = ap (λ (p : Peer). p.name) on ∙ ap (λ n. (peer_in a n).name) here in
      let first : r.question.state ≡ (peer_in a k).state = asked ∙ ap (λ n. (peer_in a n).state) here in
      record {
        last = x.last;
        asked = subst (λ (q : List Reply). LeadsTo q (peer_in a k).state x.last) (sym (of_one r rs true e))
            (first, ap (λ (s : PeerState). s.is_open) (sym first) ∙ opened, subst (λ (s : PeerState). LeadsTo (replies_of k rs) s x.last) state x.asked);
        ended = ends_same (close_by_name d a (replied_in a r) k name) x.ended;
        named = x.named ∙ name;
      }

  closed_here : (a b : List Peer) (number : ℕ) (rs : List Reply) (line : List ℕ) (ls : List (List ℕ)) → number ≡ k →
      (peer_in a number).state.is_open ≡ true → line ≡ close_line d a number → LivesBy d k (shut_in a number) rs ls b → LivesBy d k a rs (line ∷ ls) b
  closed_here a b number rs line ls here opened said x =
      let on : peer_in (shut_in a number) k ≡ closed_peer (peer_in a k) =
      ap (λ n. peer_in (shut_in a number) n) (sym here) ∙ (read_same a number (closed_peer (peer_in a number)) ∙ ap (λ n. closed_peer (peer_in a n)) here) in
      let closed : (peer_in (shut_in a number) k).state.is_open ≡ false = ap (λ (p : Peer). p.state.is_open) on in
      let none = closed_asks_none (replies_of k rs) (peer_in (shut_in a number) k).state x.last closed x.asked in
      let end : (peer_in b k).state ≡ shut (peer_in a k).state =
      sym (closed_stays (ap (λ (s : PeerState). s.is_open) (sym none.1) ∙ closed) x.ended) ∙ (sym none.1 ∙ ap (λ (p : Peer). p.state) on) in
      record {
        last = (peer_in a k).state;
        asked = subst (λ (q : List Reply). LeadsTo q (peer_in a k).state (peer_in a k).state) (sym none.0) refl;
        ended = subst (λ (s : PeerState). Ends (close_line d a k) (line ∷ ls) (peer_in a k).state s) (sym end)
            (is_shut (ap (λ n. (peer_in a n).state.is_open) (sym here) ∙ opened) (inl (said ∙ ap (λ n. close_line d a n) here)));
        named = x.named ∙ ap (λ (p : Peer). p.name) on;
      }

  closed_else : (a b : List Peer) (number : ℕ) (rs : List Reply) (line : List ℕ) (ls : List (List ℕ)) → nat_eq number k ≡ false →
      LivesBy d k (shut_in a number) rs ls b → LivesBy d k a rs (line ∷ ls) b
  closed_else a b number rs line ls e x =
      let off : peer_in (shut_in a number) k ≡ peer_in a k = read_other a number k (closed_peer (peer_in a number)) e in
      more_lines a b rs line ls (alike a (shut_in a number) b rs ls (ap (λ (p : Peer). p.state) off) (ap (λ (p : Peer). p.name) off) x)

  each : (a : List Peer) (rs : List Reply) (ls : List (List ℕ)) (b : List Peer) → Lives d a rs ls b → LivesBy d k a rs ls b
  each a rs ls b nothing = record { last = (peer_in a k).state; asked = refl; ended = stays; named = refl }
  each a rs ls b (was_got number object x) =
      let q = record (peer_in a number) { holder = Some object } in
      alike a (lent (Some number) object a) b rs ls (kept (λ (p : Peer). p.state) a number k q refl) (kept (λ (p : Peer). p.name) a number k q refl)
      (each (lent (Some number) object a) rs ls b x)
  each a (r ∷ rs) (line ∷ ls) b (has_replied asked opened said x) = by (each (replied_in a r) rs ls b x) (nat_eq r.question.peer k) refl
    where
      by : LivesBy d k (replied_in a r) rs ls b → (t : Bool) → nat_eq r.question.peer k ≡ t → LivesBy d k a (r ∷ rs) (line ∷ ls) b
      by y true e = more_lines a b (r ∷ rs) line ls (replied_here a b r rs ls (eqb-true r.question.peer k e) e asked opened y)
      by y false e = more_lines a b (r ∷ rs) line ls (replied_else a b r rs ls e y)
  each a rs (line ∷ ls) b (was_closed number opened said x) = by (each (shut_in a number) rs ls b x) (nat_eq number k) refl
    where
      by : LivesBy d k (shut_in a number) rs ls b → (t : Bool) → nat_eq number k ≡ t → LivesBy d k a rs (line ∷ ls) b
      by y true e = closed_here a b number rs line ls (eqb-true number k e) opened said y
      by y false e = closed_else a b number rs line ls e y

pub each_lives : EachLives
each_lives d k a rs ls b x = each d k a rs ls b x

unshut : {line : List ℕ} {ls : List (List ℕ)} {first last : PeerState} → (IsAmong line ls → ⊥) → Ends line ls first last → last ≡ first
unshut none stays = refl
unshut none (is_shut opened among) = absurd (none among)

pub untouched_stays : UntouchedStays
untouched_stays d k a rs ls b x none unsaid =
    let y = each d k a rs ls b x in
    let same : (peer_in a k).state ≡ y.last = subst (λ (q : List Reply). LeadsTo q (peer_in a k).state y.last) none y.asked in
    unshut unsaid y.ended ∙ sym same
