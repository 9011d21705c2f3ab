-- What is seen of peers as they live on: all but whether they are open stays, unless one replies.
use Rattle.std.proofs.Common.{◌≡◌, refl, ap, sym, ◌∙◌, ℕ, zero, suc, Bool, true, false, cond, List, [], ◌∷◌, map, length, Some, arith}
use Rattle.std.specs.Prelude.{nat_eq, slice_get, slice_set}
use Rattle.std.proofs.lemmas.Bool.Decides.{nat_tests}
use Rattle.ui_machine.specs.Definition.{Definition}
use Rattle.ui_machine.specs.Seq.{read}
use Rattle.ui_machine.specs.State.Peers.{Peer, PeerState, Reply, no_peer}
use Rattle.law_peers.specs.PeerLaws.{Ends, LeadsTo, Lives, LivesBy, is_shut, peer_in, shut, stays}
use Rattle.law_peers.proofs.LifeProofs.{each_lives}
use Rattle.native_peers.specs.Seen.{Seen}
use Rattle.engine_dispatches.specs.PoolView.{seen_of}

-- ** lists

pub map_read : {A B : Type 0} (f : A → B) (d : A) (xs : List A) (k : ℕ) → read (f d) (map f xs) k ≡ f (read d xs k)
map_read f d [] k = refl
map_read f d (x ∷ xs) zero = refl
map_read f d (x ∷ xs) (suc k) = map_read f d xs k

-- two lists of one length with the same at each place
pub same_lists : {A : Type 0} (d : A) (xs ys : List A) → length xs ≡ length ys → ((k : ℕ) → read d xs k ≡ read d ys k) → xs ≡ ys
same_lists d [] [] long same = refl
same_lists d [] (y ∷ ys) long same = absurd (omega (arith, long))
same_lists d (x ∷ xs) [] long same = absurd (omega (arith, long))
same_lists d (x ∷ xs) (y ∷ ys) long same =
    ap (λ z. z ∷ xs) (same zero) ∙ ap (λ zs. y ∷ zs) (same_lists d xs ys (omega (arith, long)) (λ k. same (suc k)))

pub read_set : {A : Type 0} (d x y : A) (xs : List A) (k : ℕ) → slice_get xs k ≡ Some y → read d (slice_set xs k x) k ≡ x
read_set d x y [] k at = absurd (cc at)
read_set d x y (z ∷ xs) zero at = refl
read_set d x y (z ∷ xs) (suc k) at = read_set d x y xs k at

one_less : (k j : ℕ) → nat_eq (suc k) (suc j) ≡ false → nat_eq k j ≡ false
one_less k j e = grind (arith, nat_tests)

pub read_unset : {A : Type 0} (d x : A) (xs : List A) (k j : ℕ) → nat_eq k j ≡ false → read d (slice_set xs k x) j ≡ read d xs j
read_unset d x [] k j e = refl
read_unset d x (z ∷ xs) zero zero e = absurd (cc e)
read_unset d x (z ∷ xs) zero (suc j) e = refl
read_unset d x (z ∷ xs) (suc k) zero e = refl
read_unset d x (z ∷ xs) (suc k) (suc j) e = read_unset d x xs k j (one_less k j e)

pub read_at : {A : Type 0} (d y : A) (xs : List A) (k : ℕ) → slice_get xs k ≡ Some y → read d xs k ≡ y
read_at d y [] k at = absurd (cc at)
read_at d y (z ∷ xs) zero at = cc at
read_at d y (z ∷ xs) (suc k) at = read_at d y xs k at

-- ** what is seen

-- what is seen of a peer but whether it is open
abbrev pub shut_seen : Seen → Seen
shut_seen s = record s { state = shut s.state }

abbrev pub no_seen : Seen
no_seen = seen_of no_peer

pub seen_at : (ps : List Peer) (k : ℕ) → read no_seen (map seen_of ps) k ≡ seen_of (peer_in ps k)
seen_at ps k = map_read seen_of no_peer ps k

-- with that, and whether it is open, all is known
pub all_seen : (a b : Seen) → shut_seen a ≡ shut_seen b → a.state.is_open ≡ b.state.is_open → a ≡ b
all_seen a b rest is_open =
    ap (λ (s : Seen). record s { state = record s.state { is_open = a.state.is_open } }) rest
    ∙ ap (λ o. record b { state = record b.state { is_open = o } }) is_open

-- ** peers that live on

ends_shut : {line : List ℕ} {ls : List (List ℕ)} {s t : PeerState} → Ends line ls s t → shut t ≡ shut s
ends_shut stays = refl
ends_shut (is_shut was among) = refl

module _ (d : Definition) (ps qs : List Peer) (ls : List (List ℕ)) where
  -- where no peer replies
  pub none_replies : Lives d ps [] ls qs → (k : ℕ) → shut_seen (seen_of (peer_in qs k)) ≡ shut_seen (seen_of (peer_in ps k))
  none_replies lives k =
      let l = each_lives d k ps [] ls qs lives in
      ap (λ (n : List ℕ). record { name = n; state = shut (peer_in qs k).state }) l.named
      ∙ ap (λ (s : PeerState). record { name = (peer_in ps k).name; state = s }) (ends_shut l.ended ∙ ap shut (sym l.asked))

  -- where one does
  pub one_replies : (r : Reply) → Lives d ps (r ∷ []) ls qs → (k : ℕ)
      → shut_seen (seen_of (peer_in qs k)) ≡ cond (nat_eq r.question.peer k) (record { name = (peer_in ps k).name; state = shut r.state }) (shut_seen (seen_of (peer_in ps k)))
  one_replies r lives k = by (nat_eq r.question.peer k) l.asked
    where
      l : LivesBy d k ps (r ∷ []) ls qs
      l = each_lives d k ps (r ∷ []) ls qs lives

      named : (s : PeerState) → shut (peer_in qs k).state ≡ s → shut_seen (seen_of (peer_in qs k)) ≡ record { name = (peer_in ps k).name; state = s }
      named s is = ap (λ (n : List ℕ). record { name = n; state = shut (peer_in qs k).state }) l.named ∙ ap (λ (t : PeerState). record { name = (peer_in ps k).name; state = t }) is

      by : (b : Bool) → LeadsTo (cond b (r ∷ []) []) (peer_in ps k).state l.last
          → shut_seen (seen_of (peer_in qs k)) ≡ cond b (record { name = (peer_in ps k).name; state = shut r.state }) (shut_seen (seen_of (peer_in ps k)))
      by true asked = named (shut r.state) (ends_shut l.ended ∙ ap shut (sym asked.2))
      by false asked = named (shut (peer_in ps k).state) (ends_shut l.ended ∙ ap shut (sym asked))
