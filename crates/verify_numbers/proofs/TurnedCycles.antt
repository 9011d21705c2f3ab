-- Cycles from another of their nodes on.
use Rattle.std.proofs.Common.{◌≡◌, inl, inr, ◌⊎◌, refl, sym, ap, subst, ◌∙◌, ℕ, zero, suc, ◌+◌, ◌<◌, ◌≤◌, List, [], ◌∷◌, ◌++◌, length, drop, take, Some, slice_get, slice_index_or, append_assoc, append-nil, arith}
use Rattle.std.proofs.lemmas.Option.{none-some, same_Some}
use Rattle.verify_order.specs.Graphs.{Edge, Graph, IsCycle, IsOnce, LeadRound, LeadsRound}
use Rattle.verify_numbers.proofs.Lists.{from_number, more}
use Rattle.verify_numbers.proofs.Regions.{InRest, splits}

module _ (g : Graph) where
  -- the first node behind the others, which lead to it
  lead_end : (y : ℕ) (ys : List ℕ) (x z : ℕ) → LeadRound g x (y ∷ ys) → Edge g x z → LeadRound g z (y ∷ (ys ++ x ∷ []))
  lead_end y [] x z round edge = (round, edge)
  lead_end y (w ∷ ws) x z round edge = (round.0, lead_end w ws x z round.1 edge)

  round_once : (x : ℕ) (xs : List ℕ) → LeadsRound g (x ∷ xs) → LeadsRound g (xs ++ x ∷ [])
  round_once x [] round = round
  round_once x (y ∷ ys) round = lead_end y ys x y round.1 round.0

  once_behind : (x : ℕ) (xs : List ℕ) → IsOnce (x ∷ xs) → IsOnce (xs ++ x ∷ [])
  once_behind x xs once j k node at_j at_k = by (splits xs (x ∷ []) j node at_j) (splits xs (x ∷ []) k node at_k)
    where
      last : (i : ℕ) → slice_get (x ∷ []) i ≡ Some node → (i ≡ 0) × (slice_get (x ∷ xs) 0 ≡ Some node)
      last zero is = (refl, is)
      last (suc i) is = absurd (none-some _ is)

      by : (slice_get xs j ≡ Some node) ⊎ InRest xs (x ∷ []) j node → (slice_get xs k ≡ Some node) ⊎ InRest xs (x ∷ []) k node → j ≡ k
      by (inl p) (inl q) = let e = once (suc j) (suc k) node p q in omega (arith, e)
      by (inl p) (inr (i, at, q)) = let l = last i q in absurd (let e = once (suc j) 0 node p l.1 in omega (arith, e))
      by (inr (i, at, p)) (inl q) = let l = last i p in absurd (let e = once 0 (suc k) node l.1 q in omega (arith, e))
      by (inr (i, at, p)) (inr (h, to, q)) = let l = last i p in let m = last h q in omega (arith, at, to, l.0, m.0)

  turned_once : (x : ℕ) (xs : List ℕ) → IsCycle g (x ∷ xs) → IsCycle g (xs ++ x ∷ [])
  turned_once x xs cycle = record { round = round_once x xs cycle.round; once = once_behind x xs cycle.once }

  -- one more of the first ones
  take_more : (xs : List ℕ) (n : ℕ) → n < length xs → take (n + 1) xs ≡ take n xs ++ slice_index_or xs n 0 ∷ []
  take_more [] n low = absurd (omega (arith, low))
  take_more (x ∷ xs) zero low = refl
  take_more (x ∷ xs) (suc n) low =
      ap (λ m. take m (x ∷ xs)) (more n) ∙ ap (λ ys. x ∷ ys) (take_more xs n (omega (arith, low)))

  turn_more : (xs : List ℕ) (n : ℕ) → n < length xs → IsCycle g (drop n xs ++ take n xs) → IsCycle g (drop (n + 1) xs ++ take (n + 1) xs)
  turn_more xs n low cycle =
      let x = slice_index_or xs n 0 in
      let begins = subst (λ ys. IsCycle g (ys ++ take n xs)) (from_number xs n low) cycle in
      subst (IsCycle g) (append_assoc (drop (n + 1) xs) (take n xs) (x ∷ []) ∙ ap (λ ys. drop (n + 1) xs ++ ys) (sym (take_more xs n low)))
      (turned_once x (drop (n + 1) xs ++ take n xs) begins)

  pub turned_cycle : (xs : List ℕ) (n : ℕ) → n ≤ length xs → IsCycle g xs → IsCycle g (drop n xs ++ take n xs)
  turned_cycle xs zero low cycle = subst (IsCycle g) (sym (append-nil xs)) cycle
  turned_cycle xs (suc n) low cycle =
      let e : n + 1 ≡ suc n = omega arith in
      subst (λ m. IsCycle g (drop m xs ++ take m xs)) e (turn_more xs n (omega (arith, low)) (turned_cycle xs n (omega (arith, low)) cycle))

  -- each node of a cycle has an edge
  pub edge_of : (first : ℕ) (xs : List ℕ) (i node : ℕ) → LeadRound g first xs → slice_get xs i ≡ Some node → (to : ℕ) × Edge g node to
  edge_of first [] i node round is = absurd (none-some _ is)
  edge_of first (x ∷ []) zero node round is = (first, subst (λ n. Edge g n first) (same_Some _ _ is) round)
  edge_of first (x ∷ []) (suc i) node round is = absurd (none-some _ is)
  edge_of first (x ∷ y ∷ ys) zero node round is = (y, subst (λ n. Edge g n y) (same_Some _ _ is) round.0)
  edge_of first (x ∷ y ∷ ys) (suc i) node round is = edge_of first (y ∷ ys) i node round.1 is
