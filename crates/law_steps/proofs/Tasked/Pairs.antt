-- A property is in one pair at most: that one binding decides whether its pair is setting below.
use Rattle.std.proofs.Common.{◌≡◌, inl, refl, ap, ◌∙◌, ℕ, zero, suc, ◌+◌, ◌<◌, Bool, true, false, cond, List, [], ◌∷◌, Some, slice_get, arith}
use Rattle.std.specs.Prelude.{nat_eq, ◌&&◌}
use Rattle.std.proofs.lemmas.Bool.{eqb-true}
use Rattle.ui_machine.specs.Seq.{total}
use Rattle.ui_machine.specs.Definition.{Definition}
use Rattle.ui_machine.specs.Definition.Places.{Bind}
use Rattle.ui_machine.specs.State.Tasks.{Task}
use Rattle.law_typing.specs.Rules.BindingRules.{shares_end}
use Rattle.law_typing.specs.Graph.Channels.{Channel, is_pair, source_of, target_of, same_channel}
use Rattle.law_typing.specs.Verdict.Accepted.{Accepted}
use Rattle.law_typing.specs.Good.DueCosts.{unsets, has_end, is_setting_below}
use Rattle.law_typing.proofs.Lists.{both_parts, each_in, same_channel_refl}
use Rattle.law_typing.proofs.PairProofs.{NoSecond, no_second, later_apart}
use Rattle.law_static.proofs.SubclassProofs.{get_in}
use Rattle.law_static.proofs.PairCostProofs.{sharing, is_set_at, set_from}

-- each end is one
pub source_end : (x : Bind) → has_end (source_of x) x ≡ true
source_end x = ap (λ b. cond b true (same_channel (target_of x) (source_of x))) (same_channel_refl (source_of x))

pub target_end : (x : Bind) → has_end (target_of x) x ≡ true
target_end x = go (same_channel (source_of x) (target_of x))
  where
    go : (b : Bool) → cond b true (same_channel (target_of x) (target_of x)) ≡ true
    go true = refl
    go false = same_channel_refl (target_of x)

-- the binding of this number is a pair
pub record PairIs (d : Definition) (number : ℕ) (x : Bind) : Type 0 where
  pub is : slice_get d.bindings number ≡ Some x
  pub pair : is_pair x ≡ true

-- two pairs with one end are one
one_pair : (earlier xs : List Bind) (c : Channel) (k m : ℕ) (x y : Bind) → slice_get xs k ≡ Some x → slice_get xs m ≡ Some y → is_pair x ≡ true → is_pair y ≡ true → has_end c x ≡ true →
    has_end c y ≡ true → NoSecond earlier xs → k ≡ m
one_pair earlier [] c k m x y e f p q s t none = absurd (cc)
one_pair earlier (z ∷ zs) c zero zero x y e f p q s t none = refl
one_pair earlier (z ∷ zs) c zero (suc m) x y e f p q s t none =
    let same : z ≡ x = cc in
    let apart = each_in (λ y. is_pair y ≡ true → shares_end z y ≡ false) zs (later_apart z (z ∷ earlier) zs (ap is_pair same ∙ p) (inl refl) none.1) y (get_in zs m y f) q in
    let share = sharing c z y (ap (has_end c) same ∙ s) t in
    absurd (cc)
one_pair earlier (z ∷ zs) c (suc k) zero x y e f p q s t none =
    let same : z ≡ y = cc in
    let apart = each_in (λ x. is_pair x ≡ true → shares_end z x ≡ false) zs (later_apart z (z ∷ earlier) zs (ap is_pair same ∙ q) (inl refl) none.1) x (get_in zs k x e) p in
    let share = sharing c z x (ap (has_end c) same ∙ t) s in
    absurd (cc)
one_pair earlier (z ∷ zs) c (suc k) (suc m) x y e f p q s t none = ap suc (one_pair (z ∷ earlier) zs c k m x y e f p q s t none.1)

module _ (d : Definition) (a : Accepted d) (below : List Task) (number : ℕ) (x : Bind) (p : PairIs d number x) (c : Channel) (end : has_end c x ≡ true) where
  -- the pair does not set where its binding is not to be set free
  pub not_setting : total (unsets number) below ≡ 0 → is_setting_below d below c ≡ false
  not_setting free = go (is_setting_below d below c) refl
    where
      go : (b : Bool) → is_setting_below d below c ≡ b → is_setting_below d below c ≡ false
      go false e = e
      go true e =
          let found = is_set_at d a.weighed.costs below c d.bindings 0 e in
          let parts = both_parts (is_pair found.1 && has_end c found.1) _ found.3 in
          let of = both_parts (is_pair found.1) (has_end c found.1) parts.0 in
          let same = one_pair [] d.bindings c found.0 number found.1 x found.2 p.is of.0 p.pair of.1 end (no_second [] 0 d.bindings a.pairs) in
          let at : 0 + found.0 ≡ number = omega (arith, same) in
          let none : total (unsets (0 + found.0)) below ≡ 0 = ap (λ n. total (unsets n) below) at ∙ free in
          absurd (let t = ap (λ n. cond (nat_eq n 0) false true) none in let f = parts.1 in cc)

  -- it does where it is
  pub is_setting : 0 < total (unsets number) below → is_setting_below d below c ≡ true
  is_setting some = set_from below c d.bindings 0 number number x (omega arith) p.is (rw (p.pair, end) (go (nat_eq (total (unsets number) below) 0) refl))
    where
      go : (b : Bool) → nat_eq (total (unsets number) below) 0 ≡ b → cond b false true ≡ true
      go true e = absurd (let none = eqb-true (total (unsets number) below) 0 e in omega (arith, none, some))
      go false e = refl
