-- Values that change where they are marked, one after the other.
use Rattle.std.proofs.Common.{◌≡◌, ℕ, zero, suc, ◌<◌, ◌≤◌, List, [], ◌∷◌, length, map, take, get_or, slice_set, min, Bool, true, false, ◌||◌, ◌++◌, refl, sym, ap, ◌∙◌, arith}
use Rattle.std.specs.List.{list_any}
use Rattle.ui_machine.specs.Seq.{read}
use Rattle.ui_machine.specs.Definition.Values.{Value}
use Rattle.instance_tables.specs.Weak.{has_weak, masked}

pub masked_next : {A : Type 0} (change : Bool → Value → Value) (f : A → Value) (bs : List Bool) (ws xs : List A) (i k : ℕ) (b : Bool) (x y : A)
    → k ≡ suc i → i < length bs → i < length ws → map f xs ≡ masked change (take i bs) (map f ws)
    → f y ≡ change (get_or bs i b) (f (get_or xs i x)) → map f (slice_set xs i y) ≡ masked change (take k bs) (map f ws)
masked_next {A} change f bs ws xs i k b x y next short few is new = rw next (by bs ws xs i short few is new)
  where
    by : (bs : List Bool) (ws xs : List A) (i : ℕ) → i < length bs → i < length ws
        → map f xs ≡ masked change (take i bs) (map f ws) → f y ≡ change (get_or bs i b) (f (get_or xs i x))
        → map f (slice_set xs i y) ≡ masked change (take (suc i) bs) (map f ws)
    by [] ws xs i short few is new = absurd (omega arith)
    by (c ∷ bs) [] xs i short few is new = absurd (omega arith)
    by (c ∷ bs) (w ∷ ws) [] zero short few is new = absurd (cc)
    by (c ∷ bs) (w ∷ ws) [] (suc i) short few is new = absurd (cc)
    by (c ∷ bs) (w ∷ ws) (z ∷ xs) zero short few is new = let first : f z ≡ f w = cc in let rest : map f xs ≡ map f ws = cc in rw (new, first, rest) refl
    by (c ∷ bs) (w ∷ ws) (z ∷ xs) (suc i) short few is new = let first : f z ≡ change c (f w) = cc in let rest : map f xs ≡ masked change (take i bs) (map f ws) = cc in rw first (ap (λ vs. change c (f w) ∷ vs) (by bs ws xs i (omega arith) (omega arith) rest new))

pub masked_all : {A : Type 0} (change : Bool → Value → Value) (f : A → Value) (bs : List Bool) (ws : List A) (i n : ℕ) → n ≤ i
    → n ≡ min (length ws) (length bs) → masked change (take i bs) (map f ws) ≡ masked change bs (map f ws)
masked_all change f [] ws zero n le e = refl
masked_all change f [] ws (suc i) n le e = refl
masked_all change f (b ∷ bs) [] zero n le e = refl
masked_all change f (b ∷ bs) [] (suc i) n le e = refl
masked_all change f (b ∷ bs) (w ∷ ws) zero n le e = absurd (omega (arith, e))
masked_all change f (b ∷ bs) (w ∷ ws) (suc i) n le e = ap (λ vs. change b (f w) ∷ vs) (masked_all change f bs ws i (min (length ws) (length bs)) (omega (arith, e)) refl)

pub read_mapped : {A : Type 0} (f : A → List Bool) (xs : List A) (i : ℕ) (d : A) → i < length xs → read [] (map f xs) i ≡ f (get_or xs i d)
read_mapped f [] i d short = absurd (omega arith)
read_mapped f (x ∷ xs) zero d short = refl
read_mapped f (x ∷ xs) (suc i) d short = read_mapped f xs i d (omega arith)

pub read_past : {A : Type 0} (f : A → List Bool) (xs : List A) (i : ℕ) → length xs ≤ i → read [] (map f xs) i ≡ []
read_past f [] i past = refl
read_past f (x ∷ xs) zero past = absurd (omega arith)
read_past f (x ∷ xs) (suc i) past = read_past f xs i (omega arith)

-- ** whether one is weak

one_more : {A : Type 0} (f : A → List Bool) (xs : List A) (y : A)
    → has_weak (map f (xs ++ y ∷ [])) ≡ (has_weak (map f xs) || list_any (λ b. b) (f y))
one_more f [] y = by (list_any (λ b. b) (f y))
  where
    by : (b : Bool) → (b || false) ≡ b
    by true = refl
    by false = refl
one_more f (x ∷ xs) y = by (list_any (λ b. b) (f x)) (one_more f xs y)
  where
    by : (b : Bool) → has_weak (map f (xs ++ y ∷ [])) ≡ (has_weak (map f xs) || list_any (λ b. b) (f y))
        → (b || has_weak (map f (xs ++ y ∷ []))) ≡ ((b || has_weak (map f xs)) || list_any (λ b. b) (f y))
    by true rest = refl
    by false rest = rest

-- what is said of slots with those of one class more
pub said_more : {A : Type 0} (f : A → List Bool) (said one : Bool) (xs ys : List A) (y : A) → said ≡ has_weak (map f xs)
    → one ≡ list_any (λ b. b) (f y) → ys ≡ xs ++ y ∷ [] → (said || one) ≡ has_weak (map f ys)
said_more f said one xs ys y before last is =
    ap (λ b. b || one) before ∙ ap (λ b. has_weak (map f xs) || b) last ∙ sym (one_more f xs y) ∙ ap (λ zs. has_weak (map f zs)) (sym is)
