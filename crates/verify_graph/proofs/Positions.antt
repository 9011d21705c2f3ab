-- Where channels are among others.
use Rattle.std.proofs.Common.{◌≡◌, ◌∙◌, refl, sym, ap, subst, ℕ, zero, suc, ◌+◌, Bool, true, false, cond, List, [], ◌∷◌, Option, None, Some, slice_get, arith}
use Rattle.std.proofs.lemmas.Option.{none-some, same_Some}
use Rattle.law_typing.specs.Graph.Channels.{Channel, same_channel}
use Rattle.law_typing.proofs.Lists.{same_channel_refl, same_channel_true}
use Rattle.verify_graph.specs.Numbers.{IsOnce, number_from, number_of}

-- a number that is found is that of the channel
pub found_from : (n : ℕ) (all : List Channel) (c : Channel) (m : ℕ) → number_from n all c ≡ Some m → (i : ℕ) × (m ≡ n + i) × (slice_get all i ≡ Some c)
found_from n [] c m is = absurd (none-some m is)
found_from n (e ∷ es) c m is = by (same_channel e c) refl is (found_from (suc n) es c m)
  where
    by : (b : Bool) → same_channel e c ≡ b → cond b (Some n) (number_from (suc n) es c) ≡ Some m →
        (number_from (suc n) es c ≡ Some m → (i : ℕ) × (m ≡ suc n + i) × (slice_get es i ≡ Some c)) →
        (i : ℕ) × (m ≡ n + i) × (slice_get (e ∷ es) i ≡ Some c)
    by true same h later = let k : n ≡ m = same_Some _ _ h in (0, omega (arith, k), ap Some (same_channel_true e c same))
    by false same h later = let f = later h in let k = f.1 in (suc f.0, omega (arith, k), f.2)

pub found_is : (all : List Channel) (c : Channel) (m : ℕ) → number_of all c ≡ Some m → slice_get all m ≡ Some c
found_is all c m is = let f = found_from 0 all c m is in let k = f.1 in let e : f.0 ≡ m = omega (arith, k) in ap (slice_get all) (sym e) ∙ f.2

-- a channel that is there is found
pub is_found : (n : ℕ) (all : List Channel) (c : Channel) (i : ℕ) → slice_get all i ≡ Some c → (m : ℕ) × (number_from n all c ≡ Some m)
is_found n [] c i is = absurd (none-some c is)
is_found n (e ∷ es) c zero is =
    let same : e ≡ c = same_Some _ _ is in
    (n, subst (λ x. cond (same_channel e x) (Some n) (number_from (suc n) es x) ≡ Some n) same (ap (λ b. cond b (Some n) (number_from (suc n) es e)) (same_channel_refl e)))
is_found n (e ∷ es) c (suc i) is = by (same_channel e c) (is_found (suc n) es c i is)
  where
    by : (b : Bool) → (m : ℕ) × (number_from (suc n) es c ≡ Some m) → (m : ℕ) × (cond b (Some n) (number_from (suc n) es c) ≡ Some m)
    by true later = (n, refl)
    by false later = later

-- where no channel is there twice, the number of one is its own
pub number_is : (all : List Channel) → IsOnce all → (c : Channel) (n : ℕ) → slice_get all n ≡ Some c → Some n ≡ number_of all c
number_is all once c n is =
    let f = is_found 0 all c n is in
    ap Some (once n f.0 c is (found_is all c f.0 f.1)) ∙ sym f.1

pub number_none : (all : List Channel) (c : Channel) → ((n : ℕ) → slice_get all n ≡ Some c → ⊥) → None ≡ number_of all c
number_none all c none = by (number_of all c) refl
  where
    by : (o : Option ℕ) → number_of all c ≡ o → None ≡ o
    by None is = refl
    by (Some n) is = absurd (none n (found_is all c n is))
