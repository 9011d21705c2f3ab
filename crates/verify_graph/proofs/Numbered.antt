-- Channels that get numbers one after the other.
use Rattle.std.proofs.Common.{◌≡◌, inl, inr, ◌⊎◌, refl, sym, ap, ◌∙◌, subst, ℕ, ◌+◌, ◌<◌, Bool, true, false, cond, nat_eq, List, [], None, Some, slice_get, arith}
use Rattle.std.specs.Prelude.{◌&&◌, eqb, ◌≢◌}
use Rattle.std.specs.BTreeMap.{BTreeMap, get, is_at}
use Rattle.std.specs.Map.{lookup}
use Rattle.std.specs.declared.cmp.Ordering.{Ordering}
use Rattle.std.specs.declared.cmp.Ordering.TheVariants.{Less, Equal, Greater}
use Rattle.std.specs.Ordering.{nat_cmp, ordering_then, is_eq}
use Rattle.std.proofs.lemmas.Bool.{eqb-true, eq-eqb}
use Rattle.std.proofs.lemmas.Bool.Decides.{eqb_tells, nat_tests}
use Rattle.std.proofs.lemmas.Option.{none-some, same_Some}
use Rattle.law_typing.specs.Graph.Channels.{Channel, constructed, property, signal}
use Rattle.law_typing.proofs.Lists.{both_parts}
use Rattle.verify_graph.specs.Numbering.{AreNumbered, Key, compared, key_of, keyed}

-- ** keys

is_eq-then : (x y : Ordering) → is_eq (ordering_then x y) ≡ (is_eq x && is_eq y)
is_eq-then Less y = refl
is_eq-then Equal y = refl
is_eq-then Greater y = refl

is_eq-cmp : (x y : ℕ) → is_eq (nat_cmp x y) ≡ nat_eq x y
is_eq-cmp x y = grind (arith, nat_tests)

at_key : (x y : Key) → is_at (compared x) y ≡ ((nat_eq x.0 y.0 && nat_eq x.1 y.1) && nat_eq x.2 y.2)
at_key x y =
    is_eq-then (ordering_then (nat_cmp x.0 y.0) (nat_cmp x.1 y.1)) (nat_cmp x.2 y.2)
    ∙ (ap (λ b. b && is_eq (nat_cmp x.2 y.2)) (is_eq-then (nat_cmp x.0 y.0) (nat_cmp x.1 y.1))
    ∙ (ap (λ b. (b && is_eq (nat_cmp x.1 y.1)) && is_eq (nat_cmp x.2 y.2)) (is_eq-cmp x.0 y.0)
    ∙ (ap (λ b. (nat_eq x.0 y.0 && b) && is_eq (nat_cmp x.2 y.2)) (is_eq-cmp x.1 y.1)
    ∙ ap (λ b. (nat_eq x.0 y.0 && nat_eq x.1 y.1) && b) (is_eq-cmp x.2 y.2))))

pub record SameKey (x y : Key) : Type 0 where
  pub place : x.0 ≡ y.0
  pub sort : x.1 ≡ y.1
  pub number : x.2 ≡ y.2

pub same_key : (x y : Key) → is_at (compared x) y ≡ true → SameKey x y
same_key x y e =
    let f = both_parts (nat_eq x.0 y.0 && nat_eq x.1 y.1) (nat_eq x.2 y.2) (sym (at_key x y) ∙ e) in
    let g = both_parts (nat_eq x.0 y.0) (nat_eq x.1 y.1) f.0 in
    record { place = eqb-true x.0 y.0 g.0; sort = eqb-true x.1 y.1 g.1; number = eqb-true x.2 y.2 f.1 }

same_channel : (c e : Channel) → SameKey (key_of c) (key_of e) → c ≡ e
same_channel (constructed p) (constructed q) k = let h = k.place in cc
same_channel (property p s) (property q t) k = let h = k.place in let i = k.number in cc
same_channel (signal p s) (signal q t) k = let h = k.place in let i = k.number in cc
same_channel (constructed p) (property q t) k = absurd (let h = k.sort in omega (arith, h))
same_channel (constructed p) (signal q t) k = absurd (let h = k.sort in omega (arith, h))
same_channel (property p s) (constructed q) k = absurd (let h = k.sort in omega (arith, h))
same_channel (property p s) (signal q t) k = absurd (let h = k.sort in omega (arith, h))
same_channel (signal p s) (constructed q) k = absurd (let h = k.sort in omega (arith, h))
same_channel (signal p s) (property q t) k = absurd (let h = k.sort in omega (arith, h))

and_true : (a b : Bool) → a ≡ true → b ≡ true → (a && b) ≡ true
and_true a b p q = ap (λ x. x && b) p ∙ q

own_key : (x : Key) → is_at (compared x) x ≡ true
own_key x =
    at_key x x
    ∙ and_true (nat_eq x.0 x.0 && nat_eq x.1 x.1) (nat_eq x.2 x.2)
    (and_true (nat_eq x.0 x.0) (nat_eq x.1 x.1) (eq-eqb x.0 x.0 refl) (eq-eqb x.1 x.1 refl)) (eq-eqb x.2 x.2 refl)

-- ** one after the other

pub none_numbered : (channels : List Channel) (numbers : BTreeMap Key ℕ) → numbers.entries ≡ [] → AreNumbered channels numbers 0
none_numbered channels numbers none = record {
  right = λ c n is. absurd (none-some n (sym (absent c) ∙ is));
  all = λ n c below. absurd (omega (arith, below));
}
  where
    absent : (c : Channel) → keyed numbers c ≡ None
    absent c = ap (λ es. lookup (is_at (compared (key_of c))) es) none

-- one more has its number
pub one_numbered : (channels : List Channel) (old new : BTreeMap Key ℕ) (count : ℕ) (c : Channel) → AreNumbered channels old count →
    slice_get channels count ≡ Some c → ((k : Key) → get compared new k ≡ cond (is_at (compared (key_of c)) k) (Some count) (get compared old k)) →
    AreNumbered channels new (count + 1)
one_numbered channels old new count c known here updates = record { right = right; all = all }
  where
    right : (e : Channel) (n : ℕ) → keyed new e ≡ Some n → slice_get channels n ≡ Some e
    right e n is = by (is_at (compared (key_of c)) (key_of e)) refl (sym (updates (key_of e)) ∙ is)
      where
        by : (b : Bool) → is_at (compared (key_of c)) (key_of e) ≡ b → cond b (Some count) (keyed old e) ≡ Some n → slice_get channels n ≡ Some e
        by true at h =
            let m : count ≡ n = same_Some _ _ h in
            let same = same_channel c e (same_key (key_of c) (key_of e) at) in
            ap (slice_get channels) (sym m) ∙ (here ∙ ap Some same)
        by false at h = known.right e n h

    all : (n : ℕ) (e : Channel) → n < count + 1 → slice_get channels n ≡ Some e → (i : ℕ) × (keyed new e ≡ Some i)
    all n e below there = by (is_at (compared (key_of c)) (key_of e)) refl (eqb_tells n count)
      where
        by : (b : Bool) → is_at (compared (key_of c)) (key_of e) ≡ b → ((eqb n count ≡ true) × (n ≡ count)) ⊎ ((eqb n count ≡ false) × (n ≢ count)) → (i : ℕ) × (keyed new e ≡ Some i)
        by true at which = (count, updates (key_of e) ∙ ap (λ b. cond b (Some count) (keyed old e)) at)
        by false at (inl k) =
            let same : c ≡ e = same_Some _ _ (sym here ∙ (ap (slice_get channels) (sym k.1) ∙ there)) in
            let own = subst (λ x. is_at (compared (key_of c)) (key_of x) ≡ true) same (own_key (key_of c)) in
            absurd (cc)
        by false at (inr k) =
            let other = k.1 in
            let was = known.all n e (omega (arith, below, other)) there in
            (was.0, updates (key_of e) ∙ (ap (λ b. cond b (Some count) (keyed old e)) at ∙ was.1))
