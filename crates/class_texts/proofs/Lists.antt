-- Lists that grow by an entry.
use Rattle.std.proofs.Common.{◌≡◌, ℕ, zero, suc, ◌+◌, List, [], ◌∷◌, ◌++◌, cond, map, take, Bool, Some, append_assoc, refl, sym, ap, ◌∙◌, arith}
use Rattle.std.specs.List.{filter, range_with_len}
use Rattle.std.specs.Prelude.{codes, slice_get}
use Rattle.std.proofs.lemmas.List.FromFn.{filter_of_map_range_with_len_more}
use Rattle.class_texts.specs.Lists.{joined, separator}

-- one more entry, parted from those before
joined_more : {A : Type 0} (f : A → List ℕ) (xs : List A) (place : ℕ) (x : A) → slice_get xs place ≡ Some x
    → joined (map f (take (suc place) xs)) ≡ joined (map f (take place xs)) ++ (separator place ++ f x)
joined_more f [] place x h = cc
joined_more f (y ∷ ys) zero x h = cc
joined_more f (y ∷ []) (suc place) x h = cc
joined_more f (y ∷ z ∷ zs) (suc zero) x h = cc
joined_more f (y ∷ z ∷ zs) (suc (suc place)) x h =
    ap (λ t. f y ++ (codes "," ++ t)) (joined_more f (z ∷ zs) (suc place) x h)
    ∙ sym (append_assoc (f y) (codes "," ++ joined (map f (take (suc place) (z ∷ zs)))) (codes "," ++ f x))

-- a text to which one more entry is written
pub entry_written : {A : Type 0} (f : A → List ℕ) (xs : List A) (place : ℕ) (x : A) (before text parted entry after : List ℕ)
    → slice_get xs place ≡ Some x → text ≡ before ++ joined (map f (take place xs))
    → parted ≡ text ++ separator place → entry ≡ f x → after ≡ parted ++ entry
    → after ≡ before ++ joined (map f (take (place + 1) xs))
entry_written f xs place x before text parted entry after h t s e a =
    let next : suc place ≡ place + 1 = omega arith in
    let so_far = joined (map f (take place xs)) in
    a
    ∙ ap (λ l. parted ++ l) e
    ∙ ap (λ l. l ++ f x) (s ∙ ap (λ l. l ++ separator place) t)
    ∙ append_assoc (before ++ so_far) (separator place) (f x)
    ∙ append_assoc before so_far (separator place ++ f x)
    ∙ ap (λ l. before ++ l) (sym (joined_more f xs place x h) ∙ ap (λ n. joined (map f (take n xs))) next)

map_same : (xs : List ℕ) → map (λ (n : ℕ). n) xs ≡ xs
map_same [] = refl
map_same (x ∷ xs) = ap (λ l. x ∷ l) (map_same xs)

-- one more number that is among those of a filter or not
filtered_more : (p : ℕ → Bool) (n : ℕ) → filter p (range_with_len 0 (n + 1)) ≡ filter p (range_with_len 0 n) ++ cond (p n) (n ∷ []) []
filtered_more p n =
    ap (filter p) (sym (map_same (range_with_len 0 (n + 1))))
    ∙ filter_of_map_range_with_len_more p (λ (k : ℕ). k) 0 n n (omega arith)
    ∙ ap (λ l. filter p l ++ cond (p n) (n ∷ []) []) (map_same (range_with_len 0 n))

-- a text to which a known one is written, behind what is known of it
pub written_behind : (known more text written after : List ℕ)
    → text ≡ known → written ≡ more → after ≡ text ++ written → after ≡ known ++ more
written_behind known more text written after t w a = cc

-- a number that was pushed, if it was wanted
pub filtered_pushed : (p : ℕ → Bool) (n x : ℕ) (wanted : Bool) (before after : List ℕ) → x ≡ n → wanted ≡ p x
    → before ≡ filter p (range_with_len 0 n) → after ≡ before ++ cond wanted (x ∷ []) []
    → after ≡ filter p (range_with_len 0 (n + 1))
filtered_pushed p n x wanted before after e w b a =
    a
    ∙ ap (λ l. l ++ cond wanted (x ∷ []) []) b
    ∙ ap (λ t. filter p (range_with_len 0 n) ++ cond t (x ∷ []) []) w
    ∙ ap (λ k. filter p (range_with_len 0 n) ++ cond (p k) (k ∷ []) []) e
    ∙ sym (filtered_more p n)
