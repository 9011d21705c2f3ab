-- Where there are ranks, going on comes to an end.
use Rattle.std.proofs.Common.{◌≡◌, inl, inr, ◌⊎◌, refl, sym, ap, subst, ◌∙◌, ℕ, zero, suc, ◌+◌, ◌≤◌, ◌<◌, Bool, true, false, List, [], ◌∷◌, length, map, Option, Some, arith}
use Rattle.std.specs.Prelude.{min, eqb, ◌≢◌, nat_eq}
use Rattle.std.specs.List.{filter}
use Rattle.std.proofs.lemmas.Bool.{eq-eqb, and_from}
use Rattle.std.proofs.lemmas.Bool.Decides.{eqb_tells}
use Rattle.law_typing.specs.Graph.Channels.{Channel, same_channel}
use Rattle.law_typing.specs.Graph.{Graph}
use Rattle.law_typing.specs.Graph.Tables.{Table, entry, greatest, same_numbers, numbers_of, same_table, goes_on, settled}
use Rattle.law_typing.specs.Graph.Ranks.{Arrow, arrows, nodes, leads, above, rank_by, ranked, ranks, IsRanking}
use Rattle.law_typing.specs.Laws.{IsIn}
use Rattle.law_typing.proofs.Lists.{same_channel_refl, any_true, filter_in, each_in, entry_of}
use Rattle.law_typing.proofs.RankProofs.{begins}
use Rattle.law_typing.proofs.OneSolutionProofs.{map_same, filtered_kept}

-- ** counting

-- a list without one entry
pub record Without {A : Type 0} (x : A) (xs : List A) : Type 0 where
  pub rest : List A
  pub shorter : length xs ≡ suc (length rest)
  pub kept : (y : A) → IsIn y xs → (y ≡ x) ⊎ IsIn y rest

pub without : {A : Type 0} (x : A) (xs : List A) → IsIn x xs → Without x xs
without x [] h = absurd h
without x (y ∷ ys) (inl e) = record { rest = ys; shorter = omega arith; kept = λ z k. by z k }
  where
    by : (z : _) → (z ≡ y) ⊎ IsIn z ys → (z ≡ x) ⊎ IsIn z ys
    by z (inl s) = inl (s ∙ sym e)
    by z (inr k) = inr k
without {A} x (y ∷ ys) (inr h) = by (without x ys h)
  where
    split : (w : Without x ys) → (z : A) → (z ≡ y) ⊎ IsIn z ys → (z ≡ x) ⊎ IsIn z (y ∷ w.rest)
    split w z (inl s) = inr (inl s)
    split w z (inr k) = later (w.kept z k)
      where
        later : (z ≡ x) ⊎ IsIn z w.rest → (z ≡ x) ⊎ IsIn z (y ∷ w.rest)
        later (inl s) = inl s
        later (inr k) = inr (inr k)

    by : Without x ys → Without x (y ∷ ys)
    by w = let s = w.shorter in record { rest = y ∷ w.rest; shorter = omega (arith, s); kept = split w }

-- a list that has something of each number below m has m entries
counted : {A : Type 0} (f : A → ℕ) (m : ℕ) (xs : List A) → ((j : ℕ) → j < m → (x : A) × IsIn x xs × (f x ≡ j)) → m ≤ length xs
counted f zero xs each = omega arith
counted {A} f (suc m) xs each =
    let last = each m (omega arith) in
    let w = without last.0 xs last.1 in
    let ih = counted f m w.rest (λ j low. still j low (each j (omega (arith, low))) w last.2) in
    let s = w.shorter in
    omega (arith, ih, s)
  where
    still : (j : ℕ) → j < m → ((x : A) × IsIn x xs × (f x ≡ j)) → {y : A} → (w : Without y xs) → f y ≡ m → (x : A) × IsIn x w.rest × (f x ≡ j)
    still j low found {y} w is = by (w.kept found.0 found.1)
      where
        by : (found.0 ≡ y) ⊎ IsIn found.0 w.rest → (x : A) × IsIn x w.rest × (f x ≡ j)
        by (inl s) = absurd (let e = ap f s in let k = found.2 in omega (arith, low, e, k, is))
        by (inr h) = (found.0, h, found.2)

-- ** a chain has nodes of each rank

-- what is greatest is some entry, if it is anything
pub attained : {A : Type 0} (f : A → ℕ) (xs : List A) (m : ℕ) → greatest f xs ≡ suc m → (x : A) × IsIn x xs × (f x ≡ suc m)
attained f [] m e = absurd (omega (arith, e))
attained {A} f (x ∷ xs) m e = by (eqb_tells (f x) (suc m)) (attained f xs m)
  where
    later : ((y : A) × IsIn y xs × (f y ≡ suc m)) → (y : A) × IsIn y (x ∷ xs) × (f y ≡ suc m)
    later k = (k.0, inr k.1, k.2)

    by : ((eqb (f x) (suc m) ≡ true) × (f x ≡ suc m)) ⊎ ((eqb (f x) (suc m) ≡ false) × (f x ≢ suc m)) →
        (greatest f xs ≡ suc m → (y : A) × IsIn y xs × (f y ≡ suc m)) → (y : A) × IsIn y (x ∷ xs) × (f y ≡ suc m)
    by (inl k) more = (x, inl refl, k.1)
    by (inr k) more = let other = k.1 in later (more (omega (arith, e, other)))

module _ (g : Graph) (r : Table) (solved : IsRanking g r) where
  pub entry_is : (n : Channel) → IsIn n (nodes g) → entry r n ≡ rank_by (arrows g) r n
  entry_is n h = ap (λ t. entry t n) solved ∙ entry_of (rank_by (arrows g) r) (nodes g) n h

  -- below a node of some rank there is, for each lower one, a node of it that leads on
  lower : (m : ℕ) (n : Channel) → IsIn n (nodes g) → entry r n ≡ m → (j : ℕ) → j < m →
      (x : Channel) × IsIn x (filter (leads (arrows g)) (nodes g)) × (entry r x ≡ j)
  lower zero n there is j low = absurd (omega (arith, low))
  lower (suc m) n there is j low =
      let found = attained (above r) (filter (λ (a : Arrow). same_channel a.to n) (arrows g)) m (sym (entry_is n there) ∙ is) in
      let edge = filtered_kept (λ (a : Arrow). same_channel a.to n) (arrows g) found.0 found.1 in
      let from = each_in (λ (b : Arrow). IsIn b.from (nodes g)) (arrows g) (begins g) found.0 edge.1 in
      let on = any_true (λ (a : Arrow). same_channel a.from found.0.from) (arrows g) found.0 edge.1 (same_channel_refl found.0.from) in
      let rank : entry r found.0.from ≡ m = let k = found.2 in omega (arith, k) in
      by (eqb_tells j m) found.0.from from on rank (lower m found.0.from from rank j)
    where
      by : ((eqb j m ≡ true) × (j ≡ m)) ⊎ ((eqb j m ≡ false) × (j ≢ m)) → (x : Channel) → IsIn x (nodes g) → leads (arrows g) x ≡ true → entry r x ≡ m →
          (j < m → (x : Channel) × IsIn x (filter (leads (arrows g)) (nodes g)) × (entry r x ≡ j)) →
          (x : Channel) × IsIn x (filter (leads (arrows g)) (nodes g)) × (entry r x ≡ j)
      by (inl k) x from on rank more = (x, filter_in (leads (arrows g)) (nodes g) x on from, rank ∙ sym k.1)
      by (inr k) x from on rank more = let other = k.1 in more (omega (arith, low, other))

  -- no rank is above the number of nodes that lead on
  pub few_ranks : (n : Channel) → IsIn n (nodes g) → entry r n ≤ length (filter (leads (arrows g)) (nodes g))
  few_ranks n there = counted (entry r) (entry r n) (filter (leads (arrows g)) (nodes g)) (lower (entry r n) n there refl)

-- ** ranks

pub same_numbers_refl : (xs : List ℕ) → same_numbers xs xs ≡ true
same_numbers_refl [] = refl
same_numbers_refl (x ∷ xs) = and_from (nat_eq x x) (same_numbers xs xs) (eq-eqb x x refl) (same_numbers_refl xs)

-- a greatest number of some that are cut off at k
greatest_cut : {A : Type 0} (f h : A → ℕ) (k : ℕ) (xs : List A) → ((x : A) → IsIn x xs → h x ≡ min (f x) k) →
    greatest (λ x. suc (h x)) xs ≡ min (greatest (λ x. suc (f x)) xs) (suc k)
greatest_cut f h k [] cut = omega arith
greatest_cut f h k (x ∷ xs) cut =
    let a = cut x (inl refl) in
    let b = greatest_cut f h k xs (λ y j. cut y (inr j)) in
    omega (arith, a, b)

-- going on ends where it changes nothing, and else goes on
pub by_end : {T : Type 0} (same : T → T → Bool) (n : ℕ) (next : T → T) (at : T) → same at (next at) ≡ true → settled same (suc n) next at ≡ Some (next at)
by_end same n next at e = ap (λ b. goes_on b (settled same n next) (next at)) e

pub by_more : {T : Type 0} (same : T → T → Bool) (n : ℕ) (next : T → T) (at u : T) → same at (next at) ≡ false → settled same n next (next at) ≡ Some u →
    settled same (suc n) next at ≡ Some u
by_more same n next at u e f = ap (λ b. goes_on b (settled same n next) (next at)) e ∙ f

-- what is reached
pub record Ends {T : Type 0} (o : Option T) : Type 0 where
  pub at : T
  pub is : o ≡ Some at

-- after k goes the ranks are right as far as k
record Near (g : Graph) (r : Table) (k : ℕ) (t : Table) : Type 0 where
  pub number : Channel → ℕ
  pub is : t ≡ map (λ n. (n, number n)) (nodes g)
  pub close : (n : Channel) → IsIn n (nodes g) → number n ≡ min (entry r n) k

module _ (g : Graph) (r : Table) (solved : IsRanking g r) where
  abbrev next_ranks : Table → Table
  next_ranks t = ranked (arrows g) (nodes g) t

  near_entry : (k : ℕ) (t : Table) → Near g r k t → (n : Channel) → IsIn n (nodes g) → entry t n ≡ min (entry r n) k
  near_entry k t near n there = ap (λ x. entry x n) near.is ∙ (entry_of near.number (nodes g) n there ∙ near.close n there)

  near_close : (k : ℕ) (t : Table) → Near g r k t → (n : Channel) → IsIn n (nodes g) → rank_by (arrows g) t n ≡ min (entry r n) (suc k)
  near_close k t near n there =
      let cut =
      greatest_cut (λ (a : Arrow). entry r a.from) (λ (a : Arrow). entry t a.from) k (filter (λ (a : Arrow). same_channel a.to n) (arrows g))
      (λ a h.
      let edge = filtered_kept (λ (a : Arrow). same_channel a.to n) (arrows g) a h in
      near_entry k t near a.from (each_in (λ (b : Arrow). IsIn b.from (nodes g)) (arrows g) (begins g) a edge.1)) in
      let e = entry_is g r solved n there in
      omega (arith, cut, e)

  near_next : (k : ℕ) (t : Table) → Near g r k t → Near g r (suc k) (next_ranks t)
  near_next k t near = record { number = rank_by (arrows g) t; is = refl; close = near_close k t near }

  -- once all ranks are right, going on changes nothing
  near_stays : (k : ℕ) (t : Table) → Near g r k t → ((n : Channel) → IsIn n (nodes g) → entry r n ≤ k) → same_table t (next_ranks t) ≡ true
  near_stays k t near all =
      let same : t ≡ next_ranks t =
      near.is
      ∙ map_same (λ n. (n, near.number n)) (λ n. (n, rank_by (arrows g) t n)) (nodes g)
      (λ n there.
      let a = near.close n there in
      let b = near_close k t near n there in
      let low = all n there in
      let e : near.number n ≡ rank_by (arrows g) t n = omega (arith, a, b, low) in
      ap (λ k. (n, k)) e) in
      subst (λ x. same_table t x ≡ true) same (same_numbers_refl (numbers_of t))

  ranks_end : (n k : ℕ) (t : Table) → Near g r k t → ((x : Channel) → IsIn x (nodes g) → entry r x ≤ k + n) → Ends (settled same_table (suc n) next_ranks t)
  ranks_end zero k t near all =
      record { at = next_ranks t; is = by_end same_table zero next_ranks t (near_stays k t near (λ x there. let a = all x there in omega (arith, a))) }
  ranks_end (suc n) k t near all = by (same_table t (next_ranks t)) refl (ranks_end n (suc k) (next_ranks t) (near_next k t near) (λ x there. let a = all x there in omega (arith, a)))
    where
      by : (b : Bool) → same_table t (next_ranks t) ≡ b → Ends (settled same_table (suc n) next_ranks (next_ranks t)) → Ends (settled same_table (suc (suc n)) next_ranks t)
      by true e more = record { at = next_ranks t; is = by_end same_table (suc n) next_ranks t e }
      by false e more = record { at = more.at; is = by_more same_table (suc n) next_ranks t more.at e more.is }

  pub has_ranks : Ends (ranks g)
  has_ranks =
      ranks_end (length (filter (leads (arrows g)) (nodes g))) 0 (map (λ n. (n, 0)) (nodes g))
      (record { number = λ n. 0; is = refl; close = λ n there. omega arith })
      (λ n there. let few = few_ranks g r solved n there in omega (arith, few))
