-- A peer's holder has it, and lives and is not disposed while the peer is open: each change keeps that.
use Rattle.std.proofs.Common.{◌≡◌, refl, ap, sym, subst, ◌∙◌, ℕ, zero, suc, Bool, true, false, nat_eq, List, [], ◌∷◌, ◌++◌, length, Option, None, Some, arith}
use Rattle.std.specs.Prelude.{slice_get}
use Rattle.std.proofs.lemmas.Bool.{eqb-true, false≢true}
use Rattle.std.proofs.lemmas.Bool.Decides.{nat_tests}
use Rattle.std.proofs.lemmas.List.{length-append}
use Rattle.ui_machine.specs.Definition.{Definition}
use Rattle.ui_machine.specs.Rules.Construction.{lent}
use Rattle.ui_machine.specs.Rules.Disposal.{objects_disposed, peer_of}
use Rattle.ui_machine.specs.Seq.{read, write}
use Rattle.ui_machine.specs.State.Objects.{Object, Objects, living, put}
use Rattle.ui_machine.specs.State.Peers.{Peer, PeerState, closed_peer, no_peer}
use Rattle.law_peers.specs.PeerLaws.{peer_in}
use Rattle.law_peers.proofs.LifeProofs.{kept, read_other, read_same}
use Rattle.law_held_peers.specs.Holders.{HasPeer, HolderStands}
use Rattle.law_held_peers.proofs.Changes.{SamePeers, disposed_same, disposed_seen, peer_seen, put_other}
use Rattle.law_held_peers.proofs.OwnProofs.{Owns, disposed_owns, more_owns, removed_owns, same_owns}
use Rattle.law_held_peers.proofs.Keeping.{AfterDispose, Keeping, closes, has_none, was_closed}

-- ** an object that has a peer

-- while a peer is open its holder has it
pub record OpenStands (os : Objects) (ps : List Peer) (k : ℕ) : Type 0 where
  pub stands : (id : ℕ) → (peer_in ps k).holder ≡ Some id → (peer_in ps k).state.is_open ≡ true → HasPeer os id k

seen_has : (os : Objects) (id k : ℕ) → peer_seen (living os id) ≡ Some (Some k) → disposed_seen (living os id) ≡ Some false → HasPeer os id k
seen_has os id k p q = by (living os id) refl p q
  where
    by : (x : Option Object) → living os id ≡ x → peer_seen x ≡ Some (Some k) → disposed_seen x ≡ Some false → HasPeer os id k
    by None is p q = absurd (cc p)
    by (Some o) is p q = record { object = o; lives = is; peer = cc p; in_use = cc q }

has_peer : (os : Objects) (id k : ℕ) → HasPeer os id k → peer_seen (living os id) ≡ Some (Some k)
has_peer os id k h = ap peer_seen h.lives ∙ ap (λ p. Some p) h.peer

has_in_use : (os : Objects) (id k : ℕ) → HasPeer os id k → disposed_seen (living os id) ≡ Some false
has_in_use os id k h = ap disposed_seen h.lives ∙ ap (λ b. Some b) h.in_use

has_same : (os new : Objects) → SamePeers os new → (id k : ℕ) → HasPeer os id k → HasPeer new id k
has_same os new same id k h = seen_has new id k (same.peer id ∙ has_peer os id k h) (same.disposed id ∙ has_in_use os id k h)

pub stands_same : (os new : Objects) (ps : List Peer) (k : ℕ) → SamePeers os new → OpenStands os ps k → OpenStands new ps k
stands_same os new ps k same h = record { stands = λ id is opened. has_same os new same id k (h.stands id is opened) }

-- ** peers

-- where a peer's holder and openness are those of before
moved : (os : Objects) (ps qs : List Peer) (k : ℕ) → (peer_in qs k).holder ≡ (peer_in ps k).holder →
    ((peer_in qs k).state.is_open ≡ true → (peer_in ps k).state.is_open ≡ true) → OpenStands os ps k → OpenStands os qs k
moved os ps qs k holder opens h = record { stands = λ id is opened. h.stands id (sym holder ∙ is) (opens opened) }

-- a peer that is there
pub read_there : (ps : List Peer) (n : ℕ) (x : Peer) → slice_get ps n ≡ Some x → read no_peer ps n ≡ x
read_there [] n p e = absurd (cc)
read_there (x ∷ ps) zero p e = cc
read_there (x ∷ ps) (suc n) p e = read_there ps n p e

write_there : (a b : Peer) (ps : List Peer) (n : ℕ) (p q : Peer) → slice_get ps n ≡ Some p → write a ps n q ≡ write b ps n q
write_there a b [] n p q e = absurd (cc)
write_there a b (x ∷ ps) zero p q e = refl
write_there a b (x ∷ ps) (suc n) p q e = ap (λ ps. x ∷ ps) (write_there a b ps n p q e)

-- a peer that was open is in another state
pub replied_stands : (os : Objects) (ps : List Peer) (k n : ℕ) (p : Peer) (s : PeerState) → slice_get ps n ≡ Some p → (peer_in ps n).state.is_open ≡ true →
    OpenStands os ps k → OpenStands os (write p ps n (record p { state = s })) k
replied_stands os ps k n p s there opened h =
    subst (λ qs. OpenStands os qs k) (write_there no_peer p ps n p (record p { state = s }) there) (by (nat_eq n k) refl)
  where
    new : List Peer
    new = write no_peer ps n (record p { state = s })

    by : (b : Bool) → nat_eq n k ≡ b → OpenStands os new k
    by true e =
        let same = eqb-true n k e in
        let here : peer_in new k ≡ record p { state = s } = ap (peer_in new) (sym same) ∙ read_same ps n (record p { state = s }) in
        let was : peer_in ps k ≡ p = ap (peer_in ps) (sym same) ∙ read_there ps n p there in
        moved os ps new k (ap (λ (q : Peer). q.holder) here ∙ ap (λ (q : Peer). q.holder) (sym was))
        (λ _. ap (λ j. (peer_in ps j).state.is_open) (sym same) ∙ opened) h
    by false e =
        let off = read_other ps n k (record p { state = s }) e in
        moved os ps new k (ap (λ (q : Peer). q.holder) off) (λ o. ap (λ (q : Peer). q.state.is_open) (sym off) ∙ o) h

-- ** where an object is disposed

-- an object that is not the one, and has the peer
pub record OtherHas (id : ℕ) (os : Objects) (at k : ℕ) : Type 0 where
  pub apart : nat_eq id at ≡ false
  pub has : HasPeer os at k

-- while a peer is open its holder is not the one, and has it
pub record OtherStands (id : ℕ) (os : Objects) (ps : List Peer) (k : ℕ) : Type 0 where
  pub stands : (at : ℕ) → (peer_in ps k).holder ≡ Some at → (peer_in ps k).state.is_open ≡ true → OtherHas id os at k

pub other_stands : (id : ℕ) (os : Objects) (ps : List Peer) (k : ℕ) → OtherStands id os ps k → OpenStands os ps k
other_stands id os ps k h = record { stands = λ at is opened. (h.stands at is opened).has }

-- it stays so where the one is taken out
pub removed_stands : (id : ℕ) (os : Objects) (ps : List Peer) (k : ℕ) → OtherStands id os ps k → OpenStands (put os id None) ps k
removed_stands id os ps k h = record { stands = λ at is opened. out at (h.stands at is opened) }
  where
    out : (at : ℕ) → OtherHas id os at k → HasPeer (put os id None) at k
    out at x = record { object = x.has.object; lives = put_other os id at None x.apart ∙ x.has.lives; peer = x.has.peer; in_use = x.has.in_use }

module _ (d : Definition) (os : Objects) (ps : List Peer) (k id : ℕ) (h : OpenStands os ps k) where
  -- the peer of the one is this one, if the one holds it
  is_peer : (at : ℕ) → nat_eq id at ≡ true → HasPeer os at k → peer_of (living os id) ≡ Some k
  is_peer at e x = ap (λ i. peer_of (living os i)) (eqb-true id at e) ∙ (ap peer_of x.lives ∙ x.peer)

  still_has : (at : ℕ) → nat_eq id at ≡ false → HasPeer os at k → HasPeer (objects_disposed d id os) at k
  still_has at apart x =
      let same = disposed_same d os id in
      seen_has (objects_disposed d id os) at k (same.peer at ∙ has_peer os at k x) (same.disposed at apart ∙ has_in_use os at k x)

  -- another has it, unless it is the peer of the one
  other_has : (at : ℕ) → (peer_of (living os id) ≡ Some k → ⊥) → HasPeer os at k → OtherHas id (objects_disposed d id os) at k
  other_has at not x = by (nat_eq id at) refl
    where
      by : (b : Bool) → nat_eq id at ≡ b → OtherHas id (objects_disposed d id os) at k
      by true e = absurd (not (is_peer at e x))
      by false e = record { apart = e; has = still_has at e x }

  -- where the one has no peer
  disposed_without : peer_of (living os id) ≡ None → OtherStands id (objects_disposed d id os) ps k
  disposed_without none = record { stands = λ at is opened. other_has at (λ has. absurd (let e = sym none ∙ has in cc)) (h.stands at is opened) }

  -- where its peer is closed
  disposed_closed : (n : ℕ) (p : Peer) → peer_of (living os id) ≡ Some n → slice_get ps n ≡ Some p → p.state.is_open ≡ false → OtherStands id (objects_disposed d id os) ps k
  disposed_closed n p own there closed = record { stands = λ at is opened. other_has at (λ has. not opened (let e : ◌≡◌ {A = Option ℕ} (Some n) (Some k) = sym own ∙ has in cc e)) (h.stands at is opened) }
    where
      not : (peer_in ps k).state.is_open ≡ true → n ≡ k → ⊥
      not opened same = false≢true (sym closed ∙ (ap (λ (q : Peer). q.state.is_open) (sym (read_there ps n p there)) ∙ (ap (λ j. (peer_in ps j).state.is_open) same ∙ opened)))

  -- and where it is closed with it
  disposed_closing : (n : ℕ) (p : Peer) → peer_of (living os id) ≡ Some n → slice_get ps n ≡ Some p → OtherStands id (objects_disposed d id os) (write no_peer ps n (closed_peer p)) k
  disposed_closing n p own there = by (nat_eq n k) refl
    where
      new : List Peer
      new = write no_peer ps n (closed_peer p)

      apart : nat_eq n k ≡ false → n ≡ k → ⊥
      apart e same = grind (arith, nat_tests)

      by : (b : Bool) → nat_eq n k ≡ b → OtherStands id (objects_disposed d id os) new k
      by true e =
          let shut : (peer_in new k).state.is_open ≡ false =
          ap (λ j. (peer_in new j).state.is_open) (sym (eqb-true n k e)) ∙ ap (λ (q : Peer). q.state.is_open) (read_same ps n (closed_peer p)) in
          record { stands = λ at is opened. absurd (false≢true (sym shut ∙ opened)) }
      by false e =
          let off = read_other ps n k (closed_peer p) e in
          record {
            stands = λ at is opened. other_has at (λ has. apart e (let f : ◌≡◌ {A = Option ℕ} (Some n) (Some k) = sym own ∙ has in cc f))
                (h.stands at (ap (λ (q : Peer). q.holder) (sym off) ∙ is) (ap (λ (q : Peer). q.state.is_open) (sym off) ∙ opened));
          }

-- ** where an object is made

-- what lives is found among more
more_living : (os more : Objects) (id : ℕ) (o : Object) → living os id ≡ Some o → living (os ++ more) id ≡ Some o
more_living os more zero o is = absurd (cc is)
more_living os more (suc i) o is = among os i is
  where
    among : (xs : Objects) (i : ℕ) → read None xs i ≡ Some o → read None (xs ++ more) i ≡ Some o
    among [] i is = absurd (cc is)
    among (x ∷ xs) zero is = is
    among (x ∷ xs) (suc i) is = among xs i is

-- the next one is found under the next identity
last_living : (os : Objects) (o : Object) → living (os ++ Some o ∷ []) (suc (length os)) ≡ Some o
last_living [] o = refl
last_living (x ∷ os) o = last_living os o

-- the new one has what it is lent
pub made_stands : (os : Objects) (ps : List Peer) (k : ℕ) (o : Object) → o.disposed ≡ false → (peer : Option ℕ) → o.peer ≡ peer → OpenStands os ps k →
    OpenStands (os ++ Some o ∷ []) (lent peer (suc (length os)) ps) k
made_stands os ps k o in_use None own h = record { stands = λ id is opened. among id (h.stands id is opened) }
  where
    among : (id : ℕ) → HasPeer os id k → HasPeer (os ++ Some o ∷ []) id k
    among id x = record { object = x.object; lives = more_living os (Some o ∷ []) id x.object x.lives; peer = x.peer; in_use = x.in_use }
made_stands os ps k o in_use (Some n) own h = by (nat_eq n k) refl
  where
    lender : Peer
    lender = record (read no_peer ps n) { holder = Some (suc (length os)) }

    new : List Peer
    new = write no_peer ps n lender

    among : (id : ℕ) → HasPeer os id k → HasPeer (os ++ Some o ∷ []) id k
    among id x = record { object = x.object; lives = more_living os (Some o ∷ []) id x.object x.lives; peer = x.peer; in_use = x.in_use }

    by : (b : Bool) → nat_eq n k ≡ b → OpenStands (os ++ Some o ∷ []) new k
    by true e =
        let same = eqb-true n k e in
        let here : (peer_in new k).holder ≡ Some (suc (length os)) = ap (λ j. (peer_in new j).holder) (sym same) ∙ ap (λ (q : Peer). q.holder) (read_same ps n lender) in
        record { stands = λ id is opened. this id (let f : ◌≡◌ {A = Option ℕ} (Some (suc (length os))) (Some id) = sym here ∙ is in cc f) (own ∙ ap (λ j. Some j) same) }
      where
        this : (id : ℕ) → suc (length os) ≡ id → o.peer ≡ Some k → HasPeer (os ++ Some o ∷ []) id k
        this id e has = record { object = o; lives = ap (living (os ++ Some o ∷ [])) (sym e) ∙ last_living os o; peer = has; in_use = in_use }
    by false e =
        let off = read_other ps n k lender e in
        record { stands = λ id is opened. among id (h.stands id (ap (λ (q : Peer). q.holder) (sym off) ∙ is) (ap (λ (q : Peer). q.state.is_open) (sym off) ∙ opened)) }

pub others_stand : (d : Definition) (os : Objects) (ps qs : List Peer) (k id : ℕ) → OpenStands os ps k → AfterDispose os ps id qs → OtherStands id (objects_disposed d id os) qs k
others_stand d os ps qs k id h (has_none none same) = subst (λ rs. OtherStands id (objects_disposed d id os) rs k) (sym same) (disposed_without d os ps k id h none)
others_stand d os ps qs k id h (was_closed n p own there shut same) = subst (λ rs. OtherStands id (objects_disposed d id os) rs k) (sym same) (disposed_closed d os ps k id h n p own there shut)
others_stand d os ps qs k id h (closes n p own there same) = subst (λ rs. OtherStands id (objects_disposed d id os) rs k) (sym same) (disposed_closing d os ps k id h n p own there)

-- ** open or not

-- a peer's holder was made, and has it if it lives
pub record Tied (os : Objects) (ps : List Peer) (k : ℕ) : Type 0 where
  pub tied : (id : ℕ) → (peer_in ps k).holder ≡ Some id → Owns id k os

-- where the holder is that of before
tied_with : (os : Objects) (ps qs : List Peer) (k : ℕ) → (peer_in qs k).holder ≡ (peer_in ps k).holder → Tied os ps k → Tied os qs k
tied_with os ps qs k same h = record { tied = λ id is. h.tied id (sym same ∙ is) }

-- a write of a peer with its holder leaves each peer's
same_holder : (ps : List Peer) (n k : ℕ) (p q : Peer) → slice_get ps n ≡ Some p → q.holder ≡ p.holder → (peer_in (write no_peer ps n q) k).holder ≡ (peer_in ps k).holder
same_holder ps n k p q there same = kept (λ (x : Peer). x.holder) ps n k q (same ∙ ap (λ (x : Peer). x.holder) (sym (read_there ps n p there)))

after_holder : (os : Objects) (ps qs : List Peer) (k id : ℕ) → AfterDispose os ps id qs → (peer_in qs k).holder ≡ (peer_in ps k).holder
after_holder os ps qs k id (has_none none same) = ap (λ rs. (peer_in rs k).holder) same
after_holder os ps qs k id (was_closed n p own there shut same) = ap (λ rs. (peer_in rs k).holder) same
after_holder os ps qs k id (closes n p own there same) = ap (λ rs. (peer_in rs k).holder) same ∙ same_holder ps n k p (closed_peer p) there refl

made_tied : (os : Objects) (ps : List Peer) (k : ℕ) (o : Object) (peer : Option ℕ) → o.peer ≡ peer → Tied os ps k → Tied (os ++ Some o ∷ []) (lent peer (suc (length os)) ps) k
made_tied os ps k o None own h = record { tied = λ id is. more_owns id k os (Some o ∷ []) (h.tied id is) }
made_tied os ps k o (Some n) own h = by (nat_eq n k) refl
  where
    lender : Peer
    lender = record (read no_peer ps n) { holder = Some (suc (length os)) }

    new : List Peer
    new = write no_peer ps n lender

    last : o.peer ≡ Some k → Owns (suc (length os)) k (os ++ Some o ∷ [])
    last has = record {
      made = (let all = length-append os (Some o ∷ []) in omega (arith, all));
      peer = λ x is. let e : ◌≡◌ {A = Option Object} (Some x) (Some o) = sym is ∙ last_living os o in let one : x ≡ o = cc e in ap (λ (y : Object). y.peer) one ∙ has;
    }

    by : (b : Bool) → nat_eq n k ≡ b → Tied (os ++ Some o ∷ []) new k
    by true e =
        let same = eqb-true n k e in
        let here : (peer_in new k).holder ≡ Some (suc (length os)) = ap (λ j. (peer_in new j).holder) (sym same) ∙ ap (λ (q : Peer). q.holder) (read_same ps n lender) in
        record { tied = λ id is. subst (λ i. Owns i k (os ++ Some o ∷ [])) (let f : ◌≡◌ {A = Option ℕ} (Some (suc (length os))) (Some id) = sym here ∙ is in cc f) (last (own ∙ ap (λ j. Some j) same)) }
    by false e =
        let off = read_other ps n k lender e in
        record { tied = λ id is. more_owns id k os (Some o ∷ []) (h.tied id (ap (λ (q : Peer). q.holder) (sym off) ∙ is)) }

pub replied_tied : (os : Objects) (ps : List Peer) (k n : ℕ) (p : Peer) (s : PeerState) → slice_get ps n ≡ Some p → Tied os ps k → Tied os (write p ps n (record p { state = s })) k
replied_tied os ps k n p s there h =
    subst (λ qs. Tied os qs k) (write_there no_peer p ps n p (record p { state = s }) there)
    (tied_with os ps (write no_peer ps n (record p { state = s })) k (same_holder ps n k p (record p { state = s }) there refl) h)

-- ** both

pub open_of : (os : Objects) (ps : List Peer) (k : ℕ) → HolderStands os ps k → OpenStands os ps k
open_of os ps k h = record { stands = h.stands }

pub tied_of : (os : Objects) (ps : List Peer) (k : ℕ) → HolderStands os ps k → Tied os ps k
tied_of os ps k h = record { tied = λ id is. record { made = h.made id is; peer = λ o there. h.has id o is there } }

pub both_of : (os : Objects) (ps : List Peer) (k : ℕ) → Tied os ps k → OpenStands os ps k → HolderStands os ps k
both_of os ps k t h = record { made = λ id is. (t.tied id is).made; has = λ id o is there. (t.tied id is).peer o there; stands = h.stands }

pub same_both : (os new : Objects) (ps : List Peer) (k : ℕ) → SamePeers os new → HolderStands os ps k → HolderStands new ps k
same_both os new ps k same h =
    both_of new ps k (record { tied = λ id is. same_owns id k os new same.more (same.peer id) ((tied_of os ps k h).tied id is) })
    (stands_same os new ps k same (open_of os ps k h))

pub disposed_both : (d : Definition) (os : Objects) (ps qs : List Peer) (k id : ℕ) → AfterDispose os ps id qs → HolderStands os ps k → HolderStands (objects_disposed d id os) qs k
disposed_both d os ps qs k id after h =
    let t = tied_with os ps qs k (after_holder os ps qs k id after) (tied_of os ps k h) in
    both_of (objects_disposed d id os) qs k (record { tied = λ i is. disposed_owns i k d os id (t.tied i is) })
    (other_stands id (objects_disposed d id os) qs k (others_stand d os ps qs k id (open_of os ps k h) after))

pub finalised_both : (d : Definition) (os : Objects) (ps qs : List Peer) (k id : ℕ) → AfterDispose os ps id qs → HolderStands os ps k →
    HolderStands (put (objects_disposed d id os) id None) qs k
finalised_both d os ps qs k id after h =
    let t = tied_with os ps qs k (after_holder os ps qs k id after) (tied_of os ps k h) in
    both_of (put (objects_disposed d id os) id None) qs k
    (record { tied = λ i is. removed_owns i k (objects_disposed d id os) id (disposed_owns i k d os id (t.tied i is)) })
    (removed_stands id (objects_disposed d id os) qs k (others_stand d os ps qs k id (open_of os ps k h) after))

pub replied_both : (os : Objects) (ps : List Peer) (k n : ℕ) (p : Peer) (s : PeerState) → slice_get ps n ≡ Some p → (peer_in ps n).state.is_open ≡ true →
    HolderStands os ps k → HolderStands os (write p ps n (record p { state = s })) k
replied_both os ps k n p s there opened h =
    both_of os (write p ps n (record p { state = s })) k (replied_tied os ps k n p s there (tied_of os ps k h)) (replied_stands os ps k n p s there opened (open_of os ps k h))

pub made_both : (os : Objects) (ps : List Peer) (k : ℕ) (o : Object) → o.disposed ≡ false → (peer : Option ℕ) → o.peer ≡ peer → HolderStands os ps k →
    HolderStands (os ++ Some o ∷ []) (lent peer (suc (length os)) ps) k
made_both os ps k o in_use peer own h =
    both_of (os ++ Some o ∷ []) (lent peer (suc (length os)) ps) k (made_tied os ps k o peer own (tied_of os ps k h)) (made_stands os ps k o in_use peer own (open_of os ps k h))

abbrev pub holding : ℕ → Keeping
holding k = record {
  Holds = λ os ps. HolderStands os ps k;
  changes = λ os new ps same h. same_both os new ps k same h;
  disposes = λ d os ps id qs after h. disposed_both d os ps qs k id after h;
  finalises = λ d os ps id qs after h. finalised_both d os ps qs k id after h;
  replies = λ os ps n p s there opened h. replied_both os ps k n p s there opened h;
  makes = λ os ps o in_use peer own h. made_both os ps k o in_use peer own h;
}
