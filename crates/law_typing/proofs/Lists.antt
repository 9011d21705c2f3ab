-- Members of lists, and tests of truth.
use Rattle.std.proofs.Common.{◌≡◌, inl, inr, ◌⊎◌, refl, sym, ap, subst, ◌∙◌, ℕ, ◌≤◌, Bool, true, false, cond, List, [], ◌∷◌, ◌++◌, map, arith}
use Rattle.std.specs.Prelude.{◌&&◌, ◌||◌, nat_eq}
use Rattle.std.specs.List.{filter, flat_map, list_any}
use Rattle.std.proofs.lemmas.Bool.{eqb-true, eq-eqb, or_left, or_right}
use Rattle.ui_machine.specs.Seq.{total}
use Rattle.law_typing.specs.Graph.Channels.{Channel, constructed, property, signal, same_channel}
use Rattle.law_typing.specs.Graph.Tables.{entry, greatest}
use Rattle.law_typing.specs.Verdict.Accepted.{Each}
use Rattle.law_typing.specs.Laws.{IsIn}

-- ** truth

pub both_parts : (a b : Bool) → (a && b) ≡ true → (a ≡ true) × (b ≡ true)
both_parts true b e = (refl, e)
both_parts false b e = absurd (cc)

pub either_part : (a b : Bool) → (a || b) ≡ true → (a ≡ true) ⊎ (b ≡ true)
either_part true b e = inl refl
either_part false b e = inr e

-- ** channels

pub same_channel_true : (c e : Channel) → same_channel c e ≡ true → c ≡ e
same_channel_true (constructed p) (constructed q) e = let h = eqb-true p q e in cc
same_channel_true (property p s) (property q t) e =
    let b = both_parts (nat_eq p q) (nat_eq s t) e in
    let h = eqb-true p q b.0 in
    let k = eqb-true s t b.1 in
    cc
same_channel_true (signal p s) (signal q t) e =
    let b = both_parts (nat_eq p q) (nat_eq s t) e in
    let h = eqb-true p q b.0 in
    let k = eqb-true s t b.1 in
    cc
same_channel_true (constructed p) (property q t) e = absurd (cc)
same_channel_true (constructed p) (signal q t) e = absurd (cc)
same_channel_true (property p s) (constructed q) e = absurd (cc)
same_channel_true (property p s) (signal q t) e = absurd (cc)
same_channel_true (signal p s) (constructed q) e = absurd (cc)
same_channel_true (signal p s) (property q t) e = absurd (cc)

both_true : (a b : Bool) → a ≡ true → b ≡ true → (a && b) ≡ true
both_true a b p q = ap (λ x. x && b) p ∙ q

pub same_channel_refl : (c : Channel) → same_channel c c ≡ true
same_channel_refl (constructed p) = eq-eqb p p refl
same_channel_refl (property p s) = both_true (nat_eq p p) (nat_eq s s) (eq-eqb p p refl) (eq-eqb s s refl)
same_channel_refl (signal p s) = both_true (nat_eq p p) (nat_eq s s) (eq-eqb p p refl) (eq-eqb s s refl)

-- ** members

pub map_in : {A B : Type 0} (f : A → B) (xs : List A) (x : A) → IsIn x xs → IsIn (f x) (map f xs)
map_in f [] x h = h
map_in f (y ∷ ys) x (inl e) = inl (ap f e)
map_in f (y ∷ ys) x (inr h) = inr (map_in f ys x h)

filtered : {A : Type 0} (x y : A) (ys : List A) (kept : Bool) (test : A → Bool) → test y ≡ kept → test x ≡ true → (x ≡ y) ⊎ IsIn x ys → IsIn x (cond kept (y ∷ ys) ys)
filtered x y ys true test e h (inl s) = inl s
filtered x y ys true test e h (inr s) = inr s
filtered x y ys false test e h (inl s) = absurd (let t = ap test s in cc)
filtered x y ys false test e h (inr s) = s

pub filter_in : {A : Type 0} (test : A → Bool) (xs : List A) (x : A) → test x ≡ true → IsIn x xs → IsIn x (filter test xs)
filter_in test [] x t h = h
filter_in test (y ∷ ys) x t (inl e) = filtered x y (filter test ys) (test y) test refl t (inl e)
filter_in test (y ∷ ys) x t (inr h) = filtered x y (filter test ys) (test y) test refl t (inr (filter_in test ys x t h))

-- what a test finds
pub any_in : {A : Type 0} (test : A → Bool) (xs : List A) → list_any test xs ≡ true → (x : A) × IsIn x xs × (test x ≡ true)
any_in test [] e = absurd (cc)
any_in test (x ∷ xs) e = at (any_in test xs) (either_part (test x) (list_any test xs) e)
  where
    later : ((y : _) × IsIn y xs × (test y ≡ true)) → (y : _) × IsIn y (x ∷ xs) × (test y ≡ true)
    later h = (h.0, inr h.1, h.2)

    at : (list_any test xs ≡ true → (y : _) × IsIn y xs × (test y ≡ true)) → (test x ≡ true) ⊎ (list_any test xs ≡ true) → (y : _) × IsIn y (x ∷ xs) × (test y ≡ true)
    at more (inl t) = (x, inl refl, t)
    at more (inr t) = later (more t)

-- what is there is found
pub any_true : {A : Type 0} (test : A → Bool) (xs : List A) (x : A) → IsIn x xs → test x ≡ true → list_any test xs ≡ true
any_true test [] x h e = absurd h
any_true test (y ∷ ys) x (inl s) e = or_left (test y) (list_any test ys) (ap test (sym s) ∙ e)
any_true test (y ∷ ys) x (inr h) e = or_right (test y) (list_any test ys) (any_true test ys x h e)

pub each_in : {A : Type 0} (P : A → Type 0) (xs : List A) → Each P xs → (x : A) → IsIn x xs → P x
each_in P [] all x h = absurd h
each_in P (y ∷ ys) all x (inl e) = subst P (sym e) all.0
each_in P (y ∷ ys) all x (inr h) = each_in P ys all.1 x h

pub each_append : {A : Type 0} (P : A → Type 0) (xs ys : List A) → Each P xs → Each P ys → Each P (xs ++ ys)
each_append P [] ys a b = b
each_append P (x ∷ xs) ys a b = (a.0, each_append P xs ys a.1 b)

pub each_map : {A B : Type 0} (P : B → Type 0) (f : A → B) (xs : List A) → ((x : A) → P (f x)) → Each P (map f xs)
each_map P f [] all = tt
each_map P f (x ∷ xs) all = (all x, each_map P f xs all)

pub each_flat : {A B : Type 0} (P : B → Type 0) (f : A → List B) (xs : List A) → ((x : A) → IsIn x xs → Each P (f x)) → Each P (flat_map f xs)
each_flat P f [] all = tt
each_flat P f (x ∷ xs) all = each_append P (f x) (flat_map f xs) (all x (inl refl)) (each_flat P f xs (λ y h. all y (inr h)))

-- two lists without entries
pub both_empty : {A : Type 0} (xs ys : List A) → xs ++ ys ≡ [] → (xs ≡ []) × (ys ≡ [])
both_empty [] ys e = (refl, e)
both_empty (x ∷ xs) ys e = absurd (cc)

-- ** numbers

pub greatest_in : {A : Type 0} (f : A → ℕ) (xs : List A) (x : A) → IsIn x xs → f x ≤ greatest f xs
greatest_in f [] x h = absurd h
greatest_in f (y ∷ ys) x (inl e) = let s = ap f e in omega (arith, s)
greatest_in f (y ∷ ys) x (inr h) = let s = greatest_in f ys x h in omega (arith, s)

pub total_in : {A : Type 0} (f : A → ℕ) (xs : List A) (x : A) → IsIn x xs → f x ≤ total f xs
total_in f [] x h = absurd h
total_in f (y ∷ ys) x (inl e) = let s = ap f e in omega (arith, s)
total_in f (y ∷ ys) x (inr h) = let s = total_in f ys x h in omega (arith, s)

entry_here : (f : Channel → ℕ) (m n : Channel) (rest : ℕ) (b : Bool) (Later : Type 0) → same_channel m n ≡ b → (Later → rest ≡ f n) → (n ≡ m) ⊎ Later → cond b (f m) rest ≡ f n
entry_here f m n rest true Later e ih h = ap f (same_channel_true m n e)
entry_here f m n rest false Later e ih (inl s) = absurd (let r = same_channel_refl n in let t = ap (λ x. same_channel x n) s in cc)
entry_here f m n rest false Later e ih (inr h) = ih h

-- a table's number of a channel that is in it
pub entry_of : (f : Channel → ℕ) (ns : List Channel) (n : Channel) → IsIn n ns → entry (map (λ (m : Channel). (m, f m)) ns) n ≡ f n
entry_of f [] n h = absurd h
entry_of f (m ∷ ns) n h = entry_here f m n (entry (map (λ (m : Channel). (m, f m)) ns) n) (same_channel m n) (IsIn n ns) refl (entry_of f ns n) h
