-- An object that was made has the peer of a number, if it lives: each change keeps that.
use Rattle.std.proofs.Common.{◌≡◌, refl, ap, sym, ◌∙◌, ℕ, zero, suc, ◌≤◌, ◌<◌, [], ◌∷◌, ◌++◌, length, Option, None, Some, arith}
use Rattle.std.proofs.lemmas.List.{length-append}
use Rattle.ui_machine.specs.Definition.{Definition}
use Rattle.ui_machine.specs.Rules.Disposal.{objects_disposed}
use Rattle.ui_machine.specs.Seq.{read}
use Rattle.ui_machine.specs.State.Objects.{Object, Objects, living, put}
use Rattle.law_held_peers.proofs.Changes.{disposed_same, peer_seen, put_more, put_none}
use Rattle.law_held_peers.proofs.Keeping.{Keeping}

-- an object was made, and has the peer of this number if it lives
pub record Owns (id number : ℕ) (os : Objects) : Type 0 where
  pub made : id ≤ length os
  pub peer : (o : Object) → living os id ≡ Some o → o.peer ≡ Some number

module _ (id number : ℕ) where
  -- where the peer that is seen is that of before
  seen_own : (x y : Option Object) → peer_seen y ≡ peer_seen x → ((o : Object) → x ≡ Some o → o.peer ≡ Some number) → (o : Object) → y ≡ Some o → o.peer ≡ Some number
  seen_own x y same so o is = by x refl
    where
      seen : Some o.peer ≡ peer_seen x
      seen = sym (ap peer_seen is) ∙ same

      by : (z : Option Object) → x ≡ z → o.peer ≡ Some number
      by None e = absurd (let f : ◌≡◌ {A = Option (Option ℕ)} (Some o.peer) None = seen ∙ ap peer_seen e in cc f)
      by (Some z) e =
          let f : ◌≡◌ {A = Option (Option ℕ)} (Some o.peer) (Some z.peer) = seen ∙ ap peer_seen e in
          let one : o.peer ≡ z.peer = cc f in
          one ∙ so z e

  pub same_owns : (os new : Objects) → length os ≤ length new → peer_seen (living new id) ≡ peer_seen (living os id) → Owns id number os → Owns id number new
  same_owns os new more same h = record {
    made = (let low = h.made in omega (arith, low, more));
    peer = seen_own (living os id) (living new id) same h.peer;
  }

  pub disposed_owns : (d : Definition) (os : Objects) (at : ℕ) → Owns id number os → Owns id number (objects_disposed d at os)
  disposed_owns d os at h = same_owns os (objects_disposed d at os) (disposed_same d os at).more ((disposed_same d os at).peer id) h

  pub removed_owns : (os : Objects) (at : ℕ) → Owns id number os → Owns id number (put os at None)
  removed_owns os at h = record {
    made = (let low = h.made in let more = put_more os at None in omega (arith, low, more));
    peer = λ o is. h.peer o (put_none os at id o is);
  }

  -- what was made is found as before among more
  read_front : (os more : Objects) (i : ℕ) → i < length os → read None (os ++ more) i ≡ read None os i
  read_front [] more i low = absurd (omega arith)
  read_front (x ∷ os) more zero low = refl
  read_front (x ∷ os) more (suc i) low = read_front os more i (omega arith)

  living_front : (os more : Objects) (i : ℕ) → i ≤ length os → living (os ++ more) i ≡ living os i
  living_front os more zero low = refl
  living_front os more (suc i) low = read_front os more i (omega arith)

  pub more_owns : (os more : Objects) → Owns id number os → Owns id number (os ++ more)
  more_owns os more h = record {
    made = (let low = h.made in let all = length-append os more in omega (arith, low, all));
    peer = λ o is. h.peer o (sym (living_front os more id h.made) ∙ is);
  }

  abbrev pub owning : Keeping
  owning = record {
    Holds = λ os ps. Owns id number os;
    changes = λ os new ps same h. same_owns os new same.more (same.peer id) h;
    disposes = λ d os ps at qs after h. disposed_owns d os at h;
    finalises = λ d os ps at qs after h. removed_owns (objects_disposed d at os) at (disposed_owns d os at h);
    replies = λ os ps n p s there opened h. h;
    makes = λ os ps o in_use peer own h. more_owns os (Some o ∷ []) h;
  }
