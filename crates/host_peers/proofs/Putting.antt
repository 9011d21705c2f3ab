-- What is seen of a pool into which a peer is put, and what its peers may do.
use Rattle.std.proofs.Common.{◌≡◌, refl, ap, sym, subst, ◌∙◌, ℕ, zero, suc, Bool, true, false, cond, List, [], ◌∷◌, ◌++◌, length, map, Option, None, Some, arith}
use Rattle.std.specs.Prelude.{IsSome, is_some}
use Rattle.std.proofs.lemmas.List.{length-map, map-append}
use Rattle.std.proofs.lemmas.Option.{none-some}
use Rattle.ui_machine.specs.Definition.{Definition}
use Rattle.ui_machine.specs.State.Peers.{PeerState}
use Rattle.native_peers.specs.Moves.{Relation, SameMoves}
use Rattle.native_peers.specs.Pool.{AppendsOne, number_of, relations, seen, seen_one}
use Rattle.native_peers.specs.Seen.{Relations, SameRelations}
use Rattle.native_peers.specs.declared.entries.NamedPeer.{NamedPeer}
use Rattle.ui_machine.specs.Definition.Names.{place_from, place_named, same_name}
use Rattle.native_peers.specs.Seen.{Seen}
use Rattle.host_peers.specs.Stock.{Stocked, kept_after, moves_of, new_peer, relations_of, stock_of, stock_view, stocked_relations, with_peer, with_stocked}
use Rattle.host_peers.specs.StockedPools.{AreStocked}
use Rattle.host_peers.specs.declared.stock_lists.StockKind.{StockKind}
use Rattle.host_peers.specs.declared.stock_lists.StockPeer.{StockPeer}

module _ {N : Type 0} (see : N → Seen) where
  places : (i : ℕ) (xs : List N) (name : List ℕ) → place_from (λ (q : Seen). q.name) i (map see xs) name ≡ place_from (λ x. (see x).name) i xs name
  places i [] name = refl
  places i (x ∷ xs) name = ap (cond (same_name (see x).name name) (Some i)) (places (suc i) xs name)

  -- no peer of its name was there
  pub put_new : (xs new : List N) (x : N) (p : Seen) → place_named (λ x. (see x).name) xs p.name ≡ None → new ≡ xs ++ x ∷ [] → see x ≡ p → map see new ≡ with_peer (map see xs) p
  put_new xs new x p none is same =
      ap (map see) is
      ∙ map-append see xs (x ∷ [])
      ∙ ap (λ q. map see xs ++ q ∷ []) same
      ∙ sym (ap (λ (o : Option ℕ). cond (is_some o) (map see xs) (map see xs ++ p ∷ [])) (places 0 xs p.name ∙ none))

  -- one was there
  pub put_known : (xs new : List N) (p : Seen) → IsSome (place_named (λ x. (see x).name) xs p.name) → new ≡ xs → map see new ≡ with_peer (map see xs) p
  put_known xs new p some is =
      ap (map see) is ∙ sym (ap (λ b. cond b (map see xs) (map see xs ++ p ∷ [])) (ap is_some (places 0 xs p.name) ∙ some))

-- ** what peers may do

module _ {N M : Type 0} (f : N → Relation) (g : M → Relation) (x : N) (y : M) (one : SameMoves (f x) (g y)) where
  -- one more, of which both may do the same
  pub appended : (xs : List N) (ys : List M) → length xs ≡ length ys → SameRelations (relations f xs) (relations g ys)
      → SameRelations (relations f (xs ++ x ∷ [])) (relations g (ys ++ y ∷ []))
  appended [] [] long same zero = λ s m args answer t. (
    λ h. let here : x ≡ h.0 = cc h.1 in (y, refl, (one s m args answer t).0 (subst (λ z. f z s m args answer t) (sym here) h.2)),
    λ h. let here : y ≡ h.0 = cc h.1 in (x, refl, (one s m args answer t).1 (subst (λ z. g z s m args answer t) (sym here) h.2)),
  )
  appended [] [] long same (suc k) = λ s m args answer t. (λ h. absurd (none-some h.0 h.1), λ h. absurd (none-some h.0 h.1))
  appended [] (z ∷ ys) long same k = absurd (omega (arith, long))
  appended (z ∷ xs) [] long same k = absurd (omega (arith, long))
  appended (z ∷ xs) (w ∷ ys) long same zero = same zero
  appended (z ∷ xs) (w ∷ ys) long same (suc k) = appended xs ys (omega (arith, long)) (λ n. same (suc n)) k

-- each may do what another may that may do what a third may
pub same_through : (a b c : Relations) → SameRelations a b → SameRelations b c → SameRelations a c
same_through a b c first second k s m args answer t =
    let one = first k s m args answer t in
    let two = second k s m args answer t in
    (λ h. two.0 (one.0 h), λ h. one.1 (two.1 h))

-- ** the stock

-- what is seen of one more
pub seen_more : (kept : List Stocked) (s : Stocked) → with_peer (map new_peer kept) (new_peer s) ≡ map new_peer (with_stocked kept s)
seen_more kept s =
    ap (λ (o : Option ℕ). cond (is_some o) (map new_peer kept) (map new_peer kept ++ new_peer s ∷ [])) (places new_peer 0 kept s.name)
    ∙ by (is_some (place_named (λ (t : Stocked). t.name) kept s.name))
  where
    by : (b : Bool) → cond b (map new_peer kept) (map new_peer kept ++ new_peer s ∷ []) ≡ map new_peer (cond b kept (kept ++ s ∷ []))
    by true = refl
    by false = sym (map-append new_peer kept (s ∷ []))

module _ {I : Type 0} {Held : I → Type 0} (state_of : NamedPeer I Held → PeerState) (may : NamedPeer I Held → Relation) where
  -- a pool without peers
  pub none_stocked : AreStocked state_of may [] []
  none_stocked = record {
    seen_so = refl;
    same = λ k s m args answer t. (λ h. absurd (none-some h.0 h.1), λ h. absurd (none-some h.0 h.1));
  }

  module _ (xs new : List (NamedPeer I Held)) (s : Stocked) (P : NamedPeer I Held → Type 0) (like : (p : NamedPeer I Held) → P p → SameMoves (may p) (moves_of s.kind))
      (adds : number_of xs s.name ≡ None → AppendsOne P xs new) (passes : IsSome (number_of xs s.name) → new ≡ xs)
      (sees : seen state_of new ≡ with_peer (seen state_of xs) (new_peer s)) (kept : List Stocked) (are : AreStocked state_of may xs kept) where
    found : number_of xs s.name ≡ place_named (λ (t : Stocked). t.name) kept s.name
    found =
        sym (places (λ p. seen_one (state_of p) p) 0 xs s.name)
        ∙ (ap (λ ps. place_named (λ (q : Seen). q.name) ps s.name) are.seen_so ∙ places new_peer 0 kept s.name)

    long : length xs ≡ length kept
    long = sym (length-map xs (λ p. seen_one (state_of p) p)) ∙ (ap length are.seen_so ∙ length-map kept new_peer)

    abbrev Same : List (NamedPeer I Held) → List Stocked → Type 0
    Same ps ks = SameRelations (relations may ps) (relations_of ks)

    by : (o : Option ℕ) → number_of xs s.name ≡ o → Same new (with_stocked kept s)
    by None none =
        let one = adds none in
        let ks : with_stocked kept s ≡ kept ++ s ∷ [] = ap (λ (o : Option ℕ). cond (is_some o) kept (kept ++ s ∷ [])) (sym found ∙ none) in
        subst (λ ps. Same ps (with_stocked kept s)) (sym one.1)
        (subst (Same (xs ++ one.0 ∷ [])) (sym ks) (appended may (λ (t : Stocked). moves_of t.kind) one.0 s (like one.0 one.2) xs kept long are.same))
    by (Some k) some =
        let ks : with_stocked kept s ≡ kept = ap (λ (o : Option ℕ). cond (is_some o) kept (kept ++ s ∷ [])) (sym found ∙ some) in
        subst (λ ps. Same ps (with_stocked kept s)) (sym (passes (subst IsSome (sym some) refl))) (subst (Same xs) (sym ks) are.same)

    -- one more peer was put
    pub put_stocked : AreStocked state_of may new (with_stocked kept s)
    put_stocked = record {
      seen_so = sees ∙ (ap (λ ps. with_peer ps (new_peer s)) are.seen_so ∙ seen_more kept s);
      same = by (number_of xs s.name) refl;
    }

-- one more of the stock
kept_more : (kept stock : List Stocked) (s : Stocked) → kept_after kept (stock ++ s ∷ []) ≡ with_stocked (kept_after kept stock) s
kept_more kept [] s = refl
kept_more kept (t ∷ stock) s = kept_more (with_stocked kept t) stock s

pub stocked_more : (yielded : List StockPeer) (p : StockPeer) (kind : StockKind) → p.kind ≡ kind
    → with_stocked (kept_after [] (map stock_view yielded)) (record { name = p.name.now; kind = kind }) ≡ kept_after [] (map stock_view (yielded ++ p ∷ []))
stocked_more yielded p kind is =
    ap (λ (k : StockKind). with_stocked (kept_after [] (map stock_view yielded)) (record { name = p.name.now; kind = k })) (sym is)
    ∙ (sym (kept_more [] (map stock_view yielded) (stock_view p))
    ∙ ap (λ (ss : List Stocked). kept_after [] ss) (sym (map-append stock_view yielded (p ∷ []))))

-- as all of the stock is put, what peers may do is as it is expected
pub expected_end : (d : Definition) (yielded : List StockPeer) (now wanted : Relations) → map stock_view yielded ≡ stock_of d
    → SameRelations now (relations_of (kept_after [] (map stock_view yielded))) → SameRelations (stocked_relations d) wanted → SameRelations now wanted
expected_end d yielded now wanted is same expected =
    same_through now (relations_of (kept_after [] (map stock_view yielded))) wanted same
    (subst (λ (ss : List Stocked). SameRelations (relations_of (kept_after [] ss)) wanted) (sym is) expected)
