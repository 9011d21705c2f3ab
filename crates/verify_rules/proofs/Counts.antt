-- Entries of lists, counted one after the other.
use Rattle.std.proofs.Common.{◌≡◌, refl, sym, ap, ◌∙◌, ℕ, zero, suc, ◌+◌, ◌<◌, ◌≤◌, Bool, true, false, cond, List, [], ◌∷◌, length, take, Some, slice_get, arith}
use Rattle.std.specs.List.{filter}
use Rattle.std.proofs.lemmas.Option.{none-some, same_Some}
use Rattle.ui_machine.specs.Seq.{read}

more : (n : ℕ) → suc n + 1 ≡ suc (n + 1)
more n = omega arith

-- 1 for what passes a test
abbrev pub one_if : Bool → ℕ
one_if true = 1
one_if false = 0

counted : {A : Type 0} → (b : Bool) (x : A) (xs : List A) → length (cond b (x ∷ xs) xs) ≡ length xs + one_if b
counted true x xs = omega arith
counted false x xs = omega arith

-- one entry more
pub next_count : {A : Type 0} → (test : A → Bool) (xs : List A) (n : ℕ) (x : A) → Some x ≡ slice_get xs n →
    length (filter test (take (n + 1) xs)) ≡ length (filter test (take n xs)) + one_if (test x)
next_count test [] n x is = absurd (none-some _ (sym is))
next_count {A} test (y ∷ ys) zero x is =
    let same : y ≡ x = same_Some _ _ (sym is) in
    let one : length (filter test (take 1 (y ∷ ys))) ≡ 0 + one_if (test y) = counted (test y) y [] in
    one ∙ ap (λ z. 0 + one_if (test z)) same
next_count {A} test (y ∷ ys) (suc n) x is =
    let e = next_count test ys n x is in
    let whole : length (filter test (take (suc n + 1) (y ∷ ys))) ≡ length (filter test (take (n + 1) ys)) + one_if (test y) =
    ap (λ m. length (filter test (take m (y ∷ ys)))) (more n) ∙ counted (test y) y (filter test (take (n + 1) ys)) in
    let before : length (filter test (take (suc n) (y ∷ ys))) ≡ length (filter test (take n ys)) + one_if (test y) = counted (test y) y (filter test (take n ys)) in
    omega (arith, e, whole, before)

-- behind the last one there are no more
take_all : {A : Type 0} → (n : ℕ) (xs : List A) → length xs ≤ n → take n xs ≡ xs
take_all zero [] behind = refl
take_all (suc n) [] behind = refl
take_all zero (x ∷ xs) behind = absurd (omega (arith, behind))
take_all (suc n) (x ∷ xs) behind = ap (λ ys. x ∷ ys) (take_all n xs (omega (arith, behind)))

pub all_counted : {A : Type 0} → (test : A → Bool) (xs : List A) (n m : ℕ) → length xs ≤ n → length xs ≤ m →
    length (filter test (take n xs)) ≡ length (filter test (take m xs))
all_counted test xs n m first second = ap (λ ys. length (filter test ys)) (take_all n xs first ∙ sym (take_all m xs second))

pub got_read : {A : Type 0} → (none : A) (xs : List A) (n : ℕ) → n < length xs → Some (read none xs n) ≡ slice_get xs n
got_read none [] n within = absurd (omega (arith, within))
got_read none (x ∷ xs) zero within = refl
got_read none (x ∷ xs) (suc n) within = got_read none xs n (omega (arith, within))
