-- The canonical spelling of a name, byte by byte.
use Rattle.std.proofs.Common.{◌≡◌, ◌∙◌, ◌+◌, ◌<◌, ◌++◌, ◌∷◌, ◌&&◌, [], ℕ, zero, suc, Bool, true, false, cond, nat_eq, not, List, length, take, get_or, refl, sym, ap, arith}
use Rattle.std.specs.List.{list_all}
use Rattle.std.proofs.lemmas.Bool.{false≢true}
use Rattle.ui_machine.specs.Definition.Names.{canonical}
use Rattle.definitions.specs.ClassNames.{dashed}

-- one byte more
canonical_more : (xs : List ℕ) (b : ℕ) → canonical (xs ++ b ∷ []) ≡ canonical xs ++ dashed b ∷ []
canonical_more [] b = refl
canonical_more (x ∷ xs) b = ap (λ l. cond (nat_eq x 95) 45 x ∷ l) (canonical_more xs b)

take_next : (xs : List ℕ) (at b : ℕ) → at < length xs → b ≡ get_or xs at b → take (suc at) xs ≡ take at xs ++ b ∷ []
take_next [] at b small is = absurd (omega (arith, small))
take_next (x ∷ xs) zero b small is = ap (λ y. y ∷ []) (sym is)
take_next (x ∷ xs) (suc at) b small is = ap (λ l. x ∷ l) (take_next xs at b (omega (arith, small)) is)

pub spelled_more : (name : List ℕ) (at b : ℕ) → at < length name → b ≡ get_or name at b → canonical (take (suc at) name) ≡ canonical (take at name) ++ dashed b ∷ []
spelled_more name at b small is = ap canonical (take_next name at b small is) ∙ canonical_more (take at name) b

-- a name without `_` is in canonical spelling
pub spelled_so : (name : List ℕ) → list_all (λ b. not (nat_eq b 95)) name ≡ true → canonical name ≡ name
spelled_so [] all = refl
spelled_so (x ∷ xs) all = by (nat_eq x 95) all (spelled_so xs)
  where
    by : (b : Bool) → (not b && list_all (λ b. not (nat_eq b 95)) xs) ≡ true → (list_all (λ b. not (nat_eq b 95)) xs ≡ true → canonical xs ≡ xs)
        → cond b 45 x ∷ canonical xs ≡ x ∷ xs
    by true all rest = absurd (false≢true all)
    by false all rest = ap (λ l. x ∷ l) (rest all)
