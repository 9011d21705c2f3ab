-- Lists by the numbers of signals, of which one gets one more.
use Rattle.std.proofs.Common.{◌≡◌, ◌∙◌, ℕ, Bool, true, false, cond, List, [], ◌∷◌, ◌++◌, Vec, Option, Some, nat_eq, refl, sym, ap, arith}
use Rattle.std.proofs.lemmas.Bool.{eqb-true}
use Rattle.std.proofs.lemmas.Bool.Decides.{nat_tests}
use Rattle.std.specs.Global.{Global}
use Rattle.std.specs.BTreeMap.{get, is_at}
use Rattle.std.specs.Ordering.{nat_cmp}
use Rattle.verify_channels.specs.SignalLists.{items_of}

at_test : (n k : ℕ) → is_at (nat_cmp n) k ≡ nat_eq n k
at_test n k = grind (arith, nat_tests)

-- the list under a number is another one, which has one more
pub list_more : {T : Type 0} (old new : ℕ → Option (Vec T Global)) (number : ℕ) (w : Vec T Global) (item : T) → ((n : ℕ) → new n ≡ cond (is_at (nat_cmp number) n) (Some w) (old n))
    → w.items ≡ items_of (old number) ++ item ∷ [] → (n : ℕ) → items_of (new n) ≡ cond (nat_eq number n) (items_of (old n) ++ item ∷ []) (items_of (old n))
list_more old new number w item is more n = ap items_of (is n ∙ ap (λ b. cond b (Some w) (old n)) (at_test number n)) ∙ by (nat_eq number n) refl
  where
    by : (b : Bool) → nat_eq number n ≡ b → items_of (cond b (Some w) (old n)) ≡ cond b (items_of (old n) ++ item ∷ []) (items_of (old n))
    by true e = more ∙ ap (λ k. items_of (old k) ++ item ∷ []) (eqb-true number n e)
    by false e = refl
