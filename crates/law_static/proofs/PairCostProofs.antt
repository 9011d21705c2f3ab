-- What the pair of a channel costs: no other pair shares an end with it.
use Rattle.std.proofs.Common.{◌≡◌, inl, inr, ◌⊎◌, refl, sym, ap, subst, ◌∙◌, ℕ, zero, suc, ◌+◌, ◌≤◌, Bool, true, false, cond, List, [], ◌∷◌, map, Option, None, Some, slice_get, arith}
use Rattle.std.specs.Prelude.{◌&&◌, ◌||◌}
use Rattle.std.specs.List.{filter}
use Rattle.ui_machine.specs.Seq.{total}
use Rattle.ui_machine.specs.Definition.{Definition}
use Rattle.ui_machine.specs.Definition.Places.{Bind}
use Rattle.ui_machine.specs.State.Tasks.{Task}
use Rattle.law_typing.specs.Rules.BindingRules.{word_of, shares_end}
use Rattle.law_typing.specs.Graph.Channels.{Channel, same_channel, is_pair, source_of, target_of}
use Rattle.law_typing.specs.Graph.{is_before, in_order, pairs_of}
use Rattle.law_typing.specs.Graph.Tables.{Tables, entry}
use Rattle.law_typing.specs.Graph.Costs.{other_end_in}
use Rattle.law_typing.specs.Verdict.Accepted.{Each}
use Rattle.law_typing.specs.Laws.{IsIn}
use Rattle.law_typing.specs.Good.DueCosts.{has_end, is_setting_at, is_setting_from, is_setting_below, over_cost}
use Rattle.law_typing.proofs.Lists.{both_parts, each_in, same_channel_true, same_channel_refl}
use Rattle.law_typing.proofs.PairProofs.{Differ, NoSecond, later_apart, pair_read}

-- the end of a pair that is not this one
abbrev pub other_of : Channel → Bind → Channel
other_of c x = cond (same_channel (source_of x) c) (target_of x) (source_of x)

-- two pairs that have a channel as an end share it
share_one : (a b c : Channel) → same_channel a c ≡ true → same_channel b c ≡ true → same_channel a b ≡ true
share_one a b c e f =
    let s = same_channel_true a c e in
    let t = same_channel_true b c f in
    subst (λ x. same_channel a x ≡ true) (sym t) (subst (λ x. same_channel x c ≡ true) (sym s) (same_channel_refl c))

left_or : (a b : Bool) → a ≡ true → (a || b) ≡ true
left_or a b e = ap (λ x. x || b) e

right_or : (a b : Bool) → b ≡ true → (a || b) ≡ true
right_or true b e = refl
right_or false b e = e

end_of : (c : Channel) (x : Bind) → has_end c x ≡ true → (same_channel (source_of x) c ≡ true) ⊎ (same_channel (target_of x) c ≡ true)
end_of c x e = go (same_channel (source_of x) c) refl e
  where
    go : (b : Bool) → same_channel (source_of x) c ≡ b → cond b true (same_channel (target_of x) c) ≡ true → (same_channel (source_of x) c ≡ true) ⊎ (same_channel (target_of x) c ≡ true)
    go true t f = inl t
    go false t f = inr f

pub sharing : (c : Channel) (x y : Bind) → has_end c x ≡ true → has_end c y ≡ true → shares_end x y ≡ true
sharing c x y e f = go (end_of c x e) (end_of c y f)
  where
    go : (same_channel (source_of x) c ≡ true) ⊎ (same_channel (target_of x) c ≡ true) → (same_channel (source_of y) c ≡ true) ⊎ (same_channel (target_of y) c ≡ true) → shares_end x y ≡ true
    go (inl a) (inl b) = left_or _ _ (left_or _ _ (share_one (source_of x) (source_of y) c a b))
    go (inl a) (inr b) = left_or _ _ (right_or _ _ (share_one (source_of x) (target_of y) c a b))
    go (inr a) (inl b) = right_or _ _ (left_or _ _ (share_one (target_of x) (source_of y) c a b))
    go (inr a) (inr b) = right_or _ _ (right_or _ _ (share_one (target_of x) (target_of y) c a b))

module _ (d : Definition) (costs : Tables) (below : List Task) (c : Channel) where
  -- what a binding's transfer from the channel costs, if it is of a pair
  abbrev pub pair_part : Bind → ℕ
  pair_part x = cond (is_pair x) (cond (has_end c x) (cond (is_setting_below d below (source_of x)) 0 (1 + entry costs.channels (other_of c x))) 0) 0

  part_of_other : (x : Bind) → is_pair x ≡ true → has_end c x ≡ false → pair_part x ≡ 0
  part_of_other x pair e = rw (pair, e)

  part_of_one : (x : Bind) → is_pair x ≡ false → pair_part x ≡ 0
  part_of_one x e = rw e

  -- a pair that shares no end with one of the channel is not of the channel
  not_end : (x y : Bind) → has_end c x ≡ true → shares_end x y ≡ false → has_end c y ≡ false
  not_end x y e f = go (has_end c y) refl
    where
      go : (b : Bool) → has_end c y ≡ b → has_end c y ≡ false
      go true t = absurd (let s = sharing c x y e t in cc)
      go false t = t

  none_later : (x : Bind) (xs : List Bind) → has_end c x ≡ true → Each (λ y. is_pair y ≡ true → shares_end x y ≡ false) xs → total pair_part xs ≡ 0
  none_later x [] e all = refl
  none_later x (y ∷ ys) e all =
      let h = none_later x ys e all.1 in let z = go (is_pair y) refl in omega (arith, h, z)
    where
      go : (b : Bool) → is_pair y ≡ b → pair_part y ≡ 0
      go true t = part_of_other y t (not_end x y e (all.0 t))
      go false t = part_of_one y t

  -- ** the pair costs no more than the way over

  pub ordered : (x : Bind) (a b : Bool) (rest : Option Channel) → same_channel (source_of x) c ≡ a → same_channel (target_of x) c ≡ b → Differ (source_of x) (target_of x) → cond a true b ≡ true →
      cond (same_channel (in_order (source_of x) (target_of x)).0 c) (Some (in_order (source_of x) (target_of x)).1)
      (cond (same_channel (in_order (source_of x) (target_of x)).1 c) (Some (in_order (source_of x) (target_of x)).0) rest) ≡ Some (cond a (target_of x) (source_of x))
  ordered x a b rest e f differ some = go (is_before (target_of x) (source_of x))
    where
      apart : same_channel (source_of x) c ≡ true → same_channel (target_of x) c ≡ true → ⊥
      apart s t = let h = share_one (source_of x) (target_of x) c s t in let k = sym differ ∙ h in cc

      plain : (a b : Bool) → same_channel (source_of x) c ≡ a → same_channel (target_of x) c ≡ b → cond a true b ≡ true →
          cond a (Some (target_of x)) (cond b (Some (source_of x)) rest) ≡ Some (cond a (target_of x) (source_of x))
      plain true b e f some = refl
      plain false true e f some = refl
      plain false false e f some = absurd (cc)

      turned : (a b : Bool) → same_channel (source_of x) c ≡ a → same_channel (target_of x) c ≡ b → cond a true b ≡ true →
          cond b (Some (source_of x)) (cond a (Some (target_of x)) rest) ≡ Some (cond a (target_of x) (source_of x))
      turned true true e f some = absurd (apart e f)
      turned true false e f some = refl
      turned false true e f some = refl
      turned false false e f some = absurd (cc)

      go : (t : Bool) → cond (same_channel (cond {A = Channel × Channel} t (target_of x, source_of x) (source_of x, target_of x)).0 c) (Some (cond {A = Channel × Channel} t (target_of x, source_of x) (source_of x, target_of x)).1)
          (cond (same_channel (cond {A = Channel × Channel} t (target_of x, source_of x) (source_of x, target_of x)).1 c) (Some (cond {A = Channel × Channel} t (target_of x, source_of x) (source_of x, target_of x)).0) rest) ≡ Some (cond a (target_of x) (source_of x))
      go true = ap (λ b. cond b (Some (source_of x)) (cond (same_channel (source_of x) c) (Some (target_of x)) rest)) f ∙ (ap (λ a. cond b (Some (source_of x)) (cond a (Some (target_of x)) rest)) e ∙ turned a b e f some)
      go false = ap (λ a. cond a (Some (target_of x)) (cond (same_channel (target_of x) c) (Some (source_of x)) rest)) e ∙ (ap (λ b. cond a (Some (target_of x)) (cond b (Some (source_of x)) rest)) f ∙ plain a b e f some)

  pub passed : (x : Bind) (rest : Option Channel) → same_channel (source_of x) c ≡ false → same_channel (target_of x) c ≡ false →
      cond (same_channel (in_order (source_of x) (target_of x)).0 c) (Some (in_order (source_of x) (target_of x)).1)
      (cond (same_channel (in_order (source_of x) (target_of x)).1 c) (Some (in_order (source_of x) (target_of x)).0) rest) ≡ rest
  passed x rest e f = go (is_before (target_of x) (source_of x))
    where
      go : (t : Bool) → cond (same_channel (cond {A = Channel × Channel} t (target_of x, source_of x) (source_of x, target_of x)).0 c) (Some (cond {A = Channel × Channel} t (target_of x, source_of x) (source_of x, target_of x)).1)
          (cond (same_channel (cond {A = Channel × Channel} t (target_of x, source_of x) (source_of x, target_of x)).1 c) (Some (cond {A = Channel × Channel} t (target_of x, source_of x) (source_of x, target_of x)).0) rest) ≡ rest
      go true = ap (λ b. cond b (Some (source_of x)) (cond (same_channel (source_of x) c) (Some (target_of x)) rest)) f ∙ ap (λ a. cond a (Some (target_of x)) rest) e
      go false = ap (λ a. cond a (Some (target_of x)) (cond (same_channel (target_of x) c) (Some (source_of x)) rest)) e ∙ ap (λ b. cond b (Some (source_of x)) rest) f

  less_set : (b : Bool) (n : ℕ) → cond b 0 n ≤ n
  less_set true n = omega arith
  less_set false n = omega arith

  -- the first of some pairs, which has the channel as an end
  first_part : (x : Bind) → is_pair x ≡ true → has_end c x ≡ true → pair_part x ≤ 1 + entry costs.channels (other_of c x)
  first_part x pair e = let l = less_set (is_setting_below d below (source_of x)) (1 + entry costs.channels (other_of c x)) in let f = part in omega (arith, l, f)
    where
      part : pair_part x ≡ cond (is_setting_below d below (source_of x)) 0 (1 + entry costs.channels (other_of c x))
      part = rw (pair, e)

  pub no_end : (x : Bind) → has_end c x ≡ false → (same_channel (source_of x) c ≡ false) × (same_channel (target_of x) c ≡ false)
  no_end x e = go (same_channel (source_of x) c) refl e
    where
      go : (b : Bool) → same_channel (source_of x) c ≡ b → cond b true (same_channel (target_of x) c) ≡ false → (same_channel (source_of x) c ≡ false) × (same_channel (target_of x) c ≡ false)
      go true t f = absurd (cc)
      go false t f = (t, f)

  pub pairs_cost : (earlier xs : List Bind) → Each (λ b. word_of d b ≡ None) xs → NoSecond earlier xs → total pair_part xs ≤ over_cost costs (other_end_in (pairs_of xs) c)
  pairs_cost earlier [] words none = omega arith
  pairs_cost earlier (x ∷ xs) words none = go (is_pair x) (has_end c x) refl refl (pairs_cost (x ∷ earlier) xs words.1 none.1)
    where
      Rest : Type 0
      Rest = total pair_part xs ≤ over_cost costs (other_end_in (pairs_of xs) c)

      Goal : Bool → Type 0
      Goal p = total pair_part (x ∷ xs) ≤ over_cost costs (other_end_in (map (λ b. in_order (source_of b) (target_of b)) (cond p (x ∷ filter is_pair xs) (filter is_pair xs))) c)

      go : (p e : Bool) → is_pair x ≡ p → has_end c x ≡ e → Rest → Goal p
      go false e pair end rest = let z = part_of_one x pair in omega (arith, z, rest)
      go true true pair end rest =
          let later = none_later x xs end (later_apart x (x ∷ earlier) xs pair (inl refl) none.1) in
          let part = first_part x pair end in
          let found = ap (over_cost costs) (ordered x (same_channel (source_of x) c) (same_channel (target_of x) c) (other_end_in (pairs_of xs) c) refl refl (pair_read d x pair words.0).two end) in
          omega (arith, later, part, found)
      go true false pair end rest =
          let z = part_of_other x pair end in
          let apart = no_end x end in
          let found = ap (over_cost costs) (passed x (other_end_in (pairs_of xs) c) apart.0 apart.1) in
          omega (arith, z, rest, found)

  -- ** while the pair sets below

  pub is_set_at : (xs : List Bind) (n : ℕ) → is_setting_from below c n xs ≡ true → (k : ℕ) × (y : Bind) × (slice_get xs k ≡ Some y) × (is_setting_at below c (n + k) y ≡ true)
  is_set_at [] n e = absurd (cc)
  is_set_at (x ∷ xs) n e = go (is_setting_at below c n x) refl (λ f. is_set_at xs (suc n) f) e
    where
      Found : Type 0
      Found = (k : ℕ) × (y : Bind) × (slice_get (x ∷ xs) k ≡ Some y) × (is_setting_at below c (n + k) y ≡ true)

      later : ((k : ℕ) × (y : Bind) × (slice_get xs k ≡ Some y) × (is_setting_at below c (suc n + k) y ≡ true)) → Found
      later h = (suc h.0, h.1, h.2, (let same : n + suc h.0 ≡ suc n + h.0 = omega arith in subst (λ m. is_setting_at below c m h.1 ≡ true) (sym same) h.3))

      go : (b : Bool) → is_setting_at below c n x ≡ b → (is_setting_from below c (suc n) xs ≡ true → (k : ℕ) × (y : Bind) × (slice_get xs k ≡ Some y) × (is_setting_at below c (suc n + k) y ≡ true)) →
          cond b true (is_setting_from below c (suc n) xs) ≡ true → Found
      go true t rec f = (0, x, refl, (let same : n + 0 ≡ n = omega arith in subst (λ m. is_setting_at below c m x ≡ true) (sym same) t))
      go false t rec f = later (rec f)

pub set_from : (below : List Task) (c : Channel) (xs : List Bind) (n k m : ℕ) (y : Bind) → m ≡ n + k → slice_get xs k ≡ Some y → is_setting_at below c m y ≡ true → is_setting_from below c n xs ≡ true
set_from below c [] n k m y at e f = absurd (cc)
set_from below c (x ∷ xs) n zero m y at e f =
    let s : y ≡ x = cc in
    let same : m ≡ n = omega (arith, at) in
    let here = subst (λ m. is_setting_at below c m x ≡ true) same (subst (λ y. is_setting_at below c m y ≡ true) s f) in
    ap (λ b. cond b true (is_setting_from below c (suc n) xs)) here
set_from below c (x ∷ xs) n (suc k) m y at e f = go (is_setting_at below c n x) (set_from below c xs (suc n) k m y (omega (arith, at)) e f)
  where
    go : (b : Bool) → is_setting_from below c (suc n) xs ≡ true → cond b true (is_setting_from below c (suc n) xs) ≡ true
    go true h = refl
    go false h = h

get_in : {A : Type 0} (xs : List A) (i : ℕ) (x : A) → slice_get xs i ≡ Some x → IsIn x xs
get_in [] i x e = absurd (cc)
get_in (y ∷ ys) zero x e = inl (let s : x ≡ y = cc in s)
get_in (y ∷ ys) (suc i) x e = inr (get_in ys i x e)

both : (a b : Bool) → a ≡ true → b ≡ true → (a && b) ≡ true
both a b p q = ap (λ x. x && b) p ∙ q

module _ (d : Definition) (costs : Tables) (below : List Task) (c : Channel) where
  none_set : (earlier xs : List Bind) (k : ℕ) (y : Bind) → slice_get xs k ≡ Some y → is_pair y ≡ true → has_end c y ≡ true → is_setting_below d below (source_of y) ≡ true →
      NoSecond earlier xs → total (pair_part d costs below c) xs ≡ 0
  none_set earlier [] k y e pair end sets none = refl
  none_set earlier (x ∷ xs) zero y e pair end sets none =
      let s : y ≡ x = cc in
      let part : pair_part d costs below c y ≡ 0 = rw (pair, end, sets) in
      let here = ap (pair_part d costs below c) s in
      let x_pair = ap is_pair (sym s) ∙ pair in
      let x_end = ap (has_end c) (sym s) ∙ end in
      let later = none_later d costs below c x xs x_end (later_apart x (x ∷ earlier) xs x_pair (inl refl) none.1) in
      omega (arith, part, here, later)
  none_set earlier (x ∷ xs) (suc k) y e pair end sets none =
      let later = none_set (x ∷ earlier) xs k y e pair end sets none.1 in
      let z = go (is_pair x) (has_end c x) refl refl in
      omega (arith, later, z)
    where
      go : (p b : Bool) → is_pair x ≡ p → has_end c x ≡ b → pair_part d costs below c x ≡ 0
      go false b x_pair x_end = part_of_one d costs below c x x_pair
      go true false x_pair x_end = part_of_other d costs below c x x_pair x_end
      go true true x_pair x_end =
          absurd (let apart = each_in (λ y. is_pair y ≡ true → shares_end x y ≡ false) xs (later_apart x (x ∷ earlier) xs x_pair (inl refl) none.1) y (get_in xs k y e) pair in
          let s = sharing c x y x_end end in cc)

  pub pair_costs : Each (λ b. word_of d b ≡ None) d.bindings → NoSecond [] d.bindings →
      total (pair_part d costs below c) d.bindings ≤ cond (is_setting_below d below c) 0 (over_cost costs (other_end_in (pairs_of d.bindings) c))
  pair_costs words none = go (is_setting_below d below c) refl
    where
      go : (b : Bool) → is_setting_below d below c ≡ b → total (pair_part d costs below c) d.bindings ≤ cond b 0 (over_cost costs (other_end_in (pairs_of d.bindings) c))
      go false e = pairs_cost d costs below c [] d.bindings words none
      go true e =
          let found = is_set_at d costs below c d.bindings 0 e in
          let parts = both_parts (is_pair found.1 && has_end c found.1) _ found.3 in
          let of = both_parts (is_pair found.1) (has_end c found.1) parts.0 in
          let own : has_end (source_of found.1) found.1 ≡ true = ap (λ b. cond b true (same_channel (target_of found.1) (source_of found.1))) (same_channel_refl (source_of found.1)) in
          let at : is_setting_at below (source_of found.1) (0 + found.0) found.1 ≡ true = both _ _ (both _ _ of.0 own) parts.1 in
          let sets = set_from below (source_of found.1) d.bindings 0 found.0 (0 + found.0) found.1 refl found.2 at in
          let zero = none_set [] d.bindings found.0 found.1 found.2 of.0 of.1 sets none in
          omega (arith, zero)
