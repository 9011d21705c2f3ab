-- The links of lists of instructions.
use Rattle.std.proofs.Common.{◌≡◌, ℕ, zero, suc, ◌+◌, ◌<◌, List, [], ◌∷◌, ◌++◌, length, map, take, get_or, Some, option_map, slice_get, IfSome, refl, sym, ap, subst, ◌∙◌, arith}
use Rattle.std.proofs.lemmas.List.{map-append}
use Rattle.std.proofs.lemmas.Option.{slice_get-map, slice_get_read}
use Rattle.ui_machine.specs.Seq.{read}
use Rattle.engine_links.specs.Steps.{ArePairwise}

-- ** one more of a list

module _ {A B : Type 0} (R : A → B → Type 0) where
  pushed : (xs : List A) (n : ℕ) (x : A) (ys : List B) (y : B) → slice_get xs n ≡ Some x → R x y
      → ArePairwise R (take n xs) ys → ArePairwise R (take (suc n) xs) (ys ++ y ∷ [])
  pushed [] n x ys y at is so = cc
  pushed (z ∷ xs) zero x [] y at is so = let e : x ≡ z = cc in (subst (λ w. R w y) e is, tt)
  pushed (z ∷ xs) zero x (w ∷ ys) y at is so = absurd so
  pushed (z ∷ xs) (suc n) x [] y at is so = absurd so
  pushed (z ∷ xs) (suc n) x (w ∷ ys) y at is so = (so.0, pushed xs n x ys y at is so.1)

  -- one more of each
  pub pairwise_more : (xs : List A) (n : ℕ) (x : A) (ys new : List B) (y : B) → slice_get xs n ≡ Some x → new ≡ ys ++ y ∷ [] → R x y
      → ArePairwise R (take n xs) ys → ArePairwise R (take (n + 1) xs) new
  pairwise_more xs n x ys new y at more is so =
      let next : suc n ≡ n + 1 = omega arith in
      subst (λ k. ArePairwise R (take k xs) new) next (subst (ArePairwise R (take (suc n) xs)) (sym more) (pushed xs n x ys y at is so))

  -- at each place
  pub pairwise_at : (xs : List A) (ys : List B) (none : B) → ArePairwise R xs ys → (i : ℕ) → IfSome (slice_get xs i) (λ x. R x (read none ys i))
  pairwise_at [] ys none so i = tt
  pairwise_at (x ∷ xs) [] none so i = absurd so
  pairwise_at (x ∷ xs) (y ∷ ys) none so zero = so.0
  pairwise_at (x ∷ xs) (y ∷ ys) none so (suc i) = pairwise_at xs ys none so.1 i

-- what an iteration has of a list, as it is seen
pub item_seen : {X A : Type 0} (view : X → A) (xs items : List X) (i : ℕ) (x : X) → items ≡ xs → i < length items → x ≡ get_or items i x
    → slice_get (map view xs) i ≡ Some (view x)
item_seen view xs items i x all within is =
    ap (λ l. slice_get (map view l) i) (sym all) ∙ slice_get-map view items i ∙ ap (option_map view) (slice_get_read items (length items) i x refl within is)

-- what an index gives, where another list is meant
pub got_read : {A : Type 0} (xs ys : List A) (i : ℕ) (x : A) → xs ≡ ys → i < length xs → x ≡ get_or xs i x → slice_get ys i ≡ Some x
got_read xs ys i x same small is = ap (λ l. slice_get l i) (sym same) ∙ slice_get_read xs (length xs) i x refl small is

-- one more of what is seen
pub seen_more : {X A : Type 0} (view : X → A) (xs new : List X) (x : X) → new ≡ xs ++ x ∷ [] → map view new ≡ map view xs ++ view x ∷ []
seen_more view xs new x more = ap (map view) more ∙ map-append view xs (x ∷ [])
