-- Lists of channels that are put together one after the other.
use Rattle.std.proofs.Common.{◌≡◌, ◌∙◌, refl, sym, ap, ℕ, zero, suc, ◌+◌, ◌<◌, ◌≤◌, cond, List, [], ◌∷◌, ◌++◌, length, map, drop, Option, None, Some, slice_get, append_assoc, append-nil, arith}
use Rattle.std.specs.List.{flat_map}
use Rattle.ui_machine.specs.Seq.{listed}
use Rattle.ui_machine.specs.Definition.{Definition}
use Rattle.ui_machine.specs.Definition.Lookups.{class_of, specs_of}
use Rattle.ui_machine.specs.Definition.Properties.{Spec}
use Rattle.ui_machine.specs.Definition.Signals.{Signal}
use Rattle.law_typing.specs.Graph.Channels.{Channel, constructed, signal, channels_at, emitted_at, of_class, programs_of, readable_from, is_filled, signals_from}
use Rattle.law_typing.specs.Rules.RegisterKinds.{class_at}
use Rattle.ui_machine.specs.Rules.Construction.{constructed_runs}
use Rattle.verify_graph.specs.ChannelView.{constructed_if, readable_one}

more : (n : ℕ) → suc n + 1 ≡ suc (n + 1)
more n = omega arith

one_more : (n : ℕ) → suc n ≡ n + 1
one_more n = omega arith

-- ** one after the other

-- what comes next is added
pub adds : {A : Type 0} → (old so_far new next rest whole : List A) → new ≡ so_far ++ next → so_far ++ (next ++ rest) ≡ old ++ whole → new ++ rest ≡ old ++ whole
adds old so_far new next rest whole is known = ap (λ xs. xs ++ rest) is ∙ (append_assoc so_far next rest ∙ known)

-- one more of a list that is seen by a view
pub seen_last : {A B : Type 0} (view : A → B) (xs ys : List A) (x : A) → ys ≡ xs ++ x ∷ [] → map view ys ≡ map view xs ++ view x ∷ []
seen_last {A} view xs ys x is = ap (map view) is ∙ by xs
  where
    by : (zs : List A) → map view (zs ++ x ∷ []) ≡ map view zs ++ view x ∷ []
    by [] = refl
    by (z ∷ zs) = ap (λ vs. view z ∷ vs) (by zs)

-- and where nothing is left all are there
pub added : {A : Type 0} → (old so_far rest whole : List A) → rest ≡ [] → so_far ++ rest ≡ old ++ whole → so_far ≡ old ++ whole
added old so_far rest whole none known = sym (append-nil so_far) ∙ (ap (λ xs. so_far ++ xs) (sym none) ∙ known)

-- ** properties

pub next_property : (place slot : ℕ) (specs : List Spec) → slot < length specs →
    readable_from place slot (drop slot specs) ≡ readable_one place slot (slice_get specs slot) ++ readable_from place (slot + 1) (drop (slot + 1) specs)
next_property place slot specs within = by slot specs slot within ∙ ap (λ n. readable_one place slot (slice_get specs slot) ++ readable_from place n (drop (slot + 1) specs)) (one_more slot)
  where
    by : (n : ℕ) (ss : List Spec) (at : ℕ) → n < length ss →
        readable_from place at (drop n ss) ≡ readable_one place at (slice_get ss n) ++ readable_from place (suc at) (drop (n + 1) ss)
    by n [] at low = absurd (omega (arith, low))
    by zero (s ∷ ss) at low = refl
    by (suc n) (s ∷ ss) at low =
        by n ss at (omega (arith, low)) ∙ ap (λ m. readable_one place at (slice_get ss n) ++ readable_from place (suc at) (drop m (s ∷ ss))) (sym (more n))

pub no_property : (place slot n : ℕ) (specs : List Spec) → length specs ≤ n → readable_from place slot (drop n specs) ≡ []
no_property place slot zero [] behind = refl
no_property place slot (suc n) [] behind = refl
no_property place slot zero (s ∷ ss) behind = absurd (omega (arith, behind))
no_property place slot (suc n) (s ∷ ss) behind = no_property place slot n ss (omega (arith, behind))

-- ** signals

pub first_signal : (place : ℕ) (signals : List Signal) → signals_from place 1 (drop 1 signals) ≡ emitted_at place signals
first_signal place [] = refl
first_signal place (s ∷ ss) = refl

pub next_signal : (place number : ℕ) (signals : List Signal) → number < length signals →
    signals_from place number (drop number signals) ≡ signal place number ∷ signals_from place (number + 1) (drop (number + 1) signals)
next_signal place number signals within = by number signals number within ∙ ap (λ n. signal place number ∷ signals_from place n (drop (number + 1) signals)) (one_more number)
  where
    by : (n : ℕ) (ss : List Signal) (at : ℕ) → n < length ss →
        signals_from place at (drop n ss) ≡ signal place at ∷ signals_from place (suc at) (drop (n + 1) ss)
    by n [] at low = absurd (omega (arith, low))
    by zero (s ∷ ss) at low = refl
    by (suc n) (s ∷ ss) at low = by n ss at (omega (arith, low)) ∙ ap (λ m. signal place at ∷ signals_from place (suc at) (drop m (s ∷ ss))) (sym (more n))

pub no_signal : (place number n : ℕ) (signals : List Signal) → length signals ≤ n → signals_from place number (drop n signals) ≡ []
no_signal place number zero [] behind = refl
no_signal place number (suc n) [] behind = refl
no_signal place number zero (s ∷ ss) behind = absurd (omega (arith, behind))
no_signal place number (suc n) (s ∷ ss) behind = no_signal place number n ss (omega (arith, behind))

-- ** places

-- the channels of a place that may have a class
abbrev at_option : Definition → ℕ → Option ℕ → List Channel
at_option d place o =
    cond (is_filled (of_class (λ class. programs_of (constructed_runs d class)) o)) (constructed place ∷ []) []
    ++ (readable_from place 0 (of_class (specs_of d) o) ++ emitted_at place (of_class (λ class. (class_of d class).signals) o))

-- the channels of a place of a class
pub at_class : (d : Definition) (place class : ℕ) → Some class ≡ class_at d place →
    constructed_if d place class ++ (readable_from place 0 (specs_of d class) ++ emitted_at place (class_of d class).signals) ≡ channels_at d place
at_class d place class is = ap (λ o. at_option d place o) is

pub nowhere : (d : Definition) (place : ℕ) → None ≡ class_at d place → channels_at d place ≡ []
nowhere d place is = sym (ap (λ o. at_option d place o) is)

-- all that is added at a place
pub three : {A : Type 0} → (old one two new a b c whole : List A) → one ≡ old ++ a → two ≡ one ++ b → new ≡ two ++ c → a ++ (b ++ c) ≡ whole → new ≡ old ++ whole
three old one two new a b c whole first second third is =
    third ∙ (ap (λ xs. xs ++ c) (second ∙ ap (λ xs. xs ++ b) first)
    ∙ (append_assoc (old ++ a) b c ∙ (append_assoc old a (b ++ c) ∙ ap (λ xs. old ++ xs) is)))

pub next_place : {A : Type 0} → (f : ℕ → List A) (n count : ℕ) → n < count →
    flat_map f (drop n (listed (λ p. p) count)) ≡ f n ++ flat_map f (drop (n + 1) (listed (λ p. p) count))
next_place {A} f n count within = by (λ p. p) n count within
  where
    by : (h : ℕ → ℕ) (m c : ℕ) → m < c → flat_map f (drop m (listed h c)) ≡ f (h m) ++ flat_map f (drop (m + 1) (listed h c))
    by h m zero low = absurd (omega (arith, low))
    by h zero (suc c) low = refl
    by h (suc m) (suc c) low =
        by (λ p. h (suc p)) m c (omega (arith, low)) ∙ ap (λ k. f (h (suc m)) ++ flat_map f (drop k (listed h (suc c)))) (sym (more m))

pub no_place : {A : Type 0} → (f : ℕ → List A) (h : ℕ → ℕ) (n count : ℕ) → count ≤ n → flat_map f (drop n (listed h count)) ≡ []
no_place f h zero zero behind = refl
no_place f h (suc n) zero behind = refl
no_place f h zero (suc c) behind = absurd (omega (arith, behind))
no_place f h (suc n) (suc c) behind = no_place f (λ p. h (suc p)) n c (omega (arith, behind))
