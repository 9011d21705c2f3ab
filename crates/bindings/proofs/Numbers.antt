-- The numbers of bindings stay below the next one.
use Rattle.std.proofs.Common.{◌≡◌, ◌∙◌, ℕ, ◌+◌, ◌<◌, ◌^◌, ◌++◌, Bool, true, false, cond, ◌||◌, nat_eq, nat_lt, count_by, max, List, [], ◌∷◌, Option, Some, None, option_map, refl, sym, ap, arith}
use Rattle.std.proofs.lemmas.Bool.Decides.{nat_tests}
use Rattle.std.specs.List.{All, AllByRecursion, filter, find, list_any}
use Rattle.std.specs.Option.{IfSome}
use Rattle.std.proofs.lemmas.List.Elements.{All-filter, All-map, All-push, All-weaker, All-from_recursion, filter-append, recursion_from_All}
use Rattle.std.proofs.lemmas.List.{map-append}
use Rattle.std.proofs.lemmas.List.Sums.{sum_by-cons}
use Rattle.ui_machine.specs.State.Bindings.{Binding, with_busy}

pub left_below : (p : Binding → Bool) (xs ys : List Binding) (next : ℕ) → All (λ b. b.number < next) xs → ys ≡ filter p xs → All (λ b. b.number < next) ys
left_below p xs ys next h e = rw e (All-filter p (λ b. b.number < next) xs h)

marked_below : (number next : ℕ) (setting : Bool) (b : Binding) → b.number < next → (cond (nat_eq b.number number) (record b { busy = setting }) b).number < next
marked_below number next setting b h =
    elim (nat_eq b.number number) as (λ t. (cond t (record b { busy = setting }) b).number < next) [ true ↦ h | false ↦ h ]

pub set_below : (number next : ℕ) (setting : Bool) (xs ys : List Binding) → All (λ b. b.number < next) xs → ys ≡ with_busy number setting xs → All (λ b. b.number < next) ys
set_below number next setting xs ys h e =
    rw e (All-map (λ b. b.number < next) (λ b. cond (nat_eq b.number number) (record b { busy = setting }) b) xs (All-weaker (λ b. b.number < next) (λ b. (cond (nat_eq b.number number) (record b { busy = setting }) b).number < next) (λ b below. marked_below number next setting b below) xs h))

-- with one more, where the next number is above its own
pub put_below : (bs : List Binding) (b : Binding) (next after : ℕ) → All (λ b. b.number < next) bs → after ≡ max next (b.number + 1) → All (λ b. b.number < after) (bs ++ b ∷ [])
put_below bs b next after h e =
    All-push (λ b. b.number < after) bs b (All-weaker (λ b. b.number < next) (λ b. b.number < after) (λ b low. omega (arith, low, e)) bs h) (omega (arith, e))

-- ** bindings in two parts

-- those of the first part
pub front_below : (xs ys : List Binding) (next : ℕ) → All (λ b. b.number < next) (xs ++ ys) → All (λ b. b.number < next) xs
front_below xs ys next h = All-from_recursion (λ b. b.number < next) xs (front xs (recursion_from_All (λ b. b.number < next) (xs ++ ys) h))
  where
    front : (xs : List Binding) → AllByRecursion (λ b. b.number < next) (xs ++ ys) → AllByRecursion (λ b. b.number < next) xs
    front [] all = tt
    front (x ∷ xs) all = (all.0, front xs all.1)

pub both_left : (p : Binding → Bool) (xs ys us ws : List Binding) → us ≡ filter p xs → ws ≡ filter p ys → us ++ ws ≡ filter p (xs ++ ys)
both_left p xs ys us ws e f = ap (λ (l : List Binding). l ++ ws) e ∙ ap (λ (l : List Binding). filter p xs ++ l) f ∙ sym (filter-append p xs ys)

pub both_set : (number : ℕ) (setting : Bool) (xs ys us ws : List Binding) → us ≡ with_busy number setting xs → ws ≡ with_busy number setting ys → us ++ ws ≡ with_busy number setting (xs ++ ys)
both_set number setting xs ys us ws e f =
    ap (λ (l : List Binding). l ++ ws) e ∙ ap (λ (l : List Binding). with_busy number setting xs ++ l) f
    ∙ sym (map-append (λ (b : Binding). cond (nat_eq b.number number) (record b { busy = setting }) b) xs ys)

-- the first one of a kind is in the first part
pub found_front : (p : Binding → Bool) (xs ys : List Binding) (b : Binding) → Some b ≡ find p xs → Some b ≡ find p (xs ++ ys)
found_front p [] ys b e = absurd (cc)
found_front p (x ∷ xs) ys b e = by (p x) e (found_front p xs ys b)
  where
    by : (t : Bool) → Some b ≡ cond t (Some x) (find p xs) → (Some b ≡ find p xs → Some b ≡ find p (xs ++ ys)) → Some b ≡ cond t (Some x) (find p (xs ++ ys))
    by true e rec = e
    by false e rec = rec e

-- or there is none there
pub found_back : (p : Binding → Bool) (xs ys : List Binding) → None ≡ find p xs → find p ys ≡ find p (xs ++ ys)
found_back p [] ys e = refl
found_back p (x ∷ xs) ys e = by (p x) e (found_back p xs ys)
  where
    by : (t : Bool) → None ≡ cond t (Some x) (find p xs) → (None ≡ find p xs → find p ys ≡ find p (xs ++ ys)) → find p ys ≡ cond t (Some x) (find p (xs ++ ys))
    by true e rec = absurd (cc)
    by false e rec = rec e

-- one of a kind is in the first part, where it counts, or in the second
pub any_is : (p : Binding → Bool) (xs ys : List Binding) → list_any p (xs ++ ys) ≡ (nat_lt 0 (count_by p xs) || list_any p ys)
any_is p [] ys = refl
any_is p (x ∷ xs) ys = by (p x) (sum_by-cons (λ b. cond (p b) 1 0) x xs) (any_is p xs ys)
  where
    some : (n : ℕ) → true ≡ nat_lt 0 (1 + n)
    some n = grind (arith, nat_tests)

    by : (t : Bool) → count_by p (x ∷ xs) ≡ cond t 1 0 + count_by p xs → list_any p (xs ++ ys) ≡ (nat_lt 0 (count_by p xs) || list_any p ys)
        → (t || list_any p (xs ++ ys)) ≡ (nat_lt 0 (count_by p (x ∷ xs)) || list_any p ys)
    by true e rec = ap (λ t. t || list_any p ys) (some (count_by p xs) ∙ ap (nat_lt 0) (sym e))
    by false e rec = rec ∙ ap (λ n. nat_lt 0 n || list_any p ys) (sym (e ∙ omega arith))

-- one that is found has a low number too
pub found_low : (p : Binding → Bool) (bs : List Binding) (next : ℕ) (b : Binding) → All (λ b. b.number < next) bs → Some b ≡ find p bs → b.number < next
found_low p bs next b h e = each bs (recursion_from_All (λ b. b.number < next) bs h) e
  where
    each : (bs : List Binding) → AllByRecursion (λ b. b.number < next) bs → Some b ≡ find p bs → b.number < next
    each [] all e = absurd (cc)
    each (x ∷ bs) all e = by (p x) e (each bs all.1)
      where
        by : (t : Bool) → Some b ≡ cond t (Some x) (find p bs) → (Some b ≡ find p bs → b.number < next) → b.number < next
        by true e rec = let is : x ≡ b = cc in rw (← is) all.0
        by false e rec = rec e

pub found_few : {X : Type 0} (view : X → Binding) (o : Option X) (p : Binding → Bool) (bs : List Binding) (next : ℕ) → All (λ b. b.number < next) bs → next < 2 ^ 64 → option_map view o ≡ find p bs
    → IfSome o (λ x. (view x).number + 1 < 2 ^ 64)
found_few view None p bs next h few e = tt
found_few view (Some x) p bs next h few e = omega (arith, found_low p bs next (view x) h e)
