-- No channel of a definition is there twice.
use Rattle.std.proofs.Common.{◌≡◌, ◌∙◌, inl, inr, ◌⊎◌, refl, sym, ap, subst, ℕ, zero, suc, ◌+◌, ◌<◌, ◌≤◌, Bool, true, false, cond, List, [], ◌∷◌, ◌++◌, length, Some, slice_get, arith}
use Rattle.std.specs.List.{filter, flat_map}
use Rattle.std.proofs.lemmas.Option.{none-some, same_Some}
use Rattle.ui_machine.specs.Seq.{listed}
use Rattle.ui_machine.specs.Definition.{Definition}
use Rattle.ui_machine.specs.Definition.Lookups.{specs_of}
use Rattle.ui_machine.specs.Definition.Properties.{Spec, is_readable}
use Rattle.ui_machine.specs.Definition.Signals.{Signal}
use Rattle.law_typing.specs.Graph.Channels.{Channel, constructed, property, signal, channels, channels_at, constructed_at, emitted_at, is_filled, of_class, readable_at, readable_from, signals_at, signals_from}
use Rattle.law_typing.specs.Graph.{place_of_channel}
use Rattle.law_typing.specs.Rules.RegisterKinds.{class_at}
use Rattle.law_idle.specs.Idle.{busy_channels, is_busy}
use Rattle.verify_graph.specs.Numbers.{IsOnce}

-- ** lists that rise

-- what channels go by within a place: what sort they are, and their slots or numbers
abbrev sort_of : Channel → ℕ
sort_of (constructed p) = 0
sort_of (property p s) = 1
sort_of (signal p n) = 2

abbrev member_of : Channel → ℕ
member_of (constructed p) = 0
member_of (property p s) = s
member_of (signal p n) = n

-- a channel is before another in the report
abbrev Before : Channel → Channel → Type 0
Before c e =
    (place_of_channel c < place_of_channel e)
    ⊎ ((place_of_channel c ≡ place_of_channel e) × ((sort_of c < sort_of e) ⊎ ((sort_of c ≡ sort_of e) × (member_of c < member_of e))))

not_before : (c : Channel) → Before c c → ⊥
not_before c (inl h) = omega (arith, h)
not_before c (inr (same, inl h)) = omega (arith, h)
not_before c (inr (same, inr (e, h))) = omega (arith, h)

abbrev All : (Channel → Type 0) → List Channel → Type 0
All P [] = Unit {0}
All P (x ∷ xs) = P x × All P xs

abbrev Rises : List Channel → Type 0
Rises [] = Unit {0}
Rises (c ∷ cs) = All (Before c) cs × Rises cs

all_at : (P : Channel → Type 0) (cs : List Channel) (i : ℕ) (c : Channel) → All P cs → slice_get cs i ≡ Some c → P c
all_at P [] i c all is = absurd (none-some c is)
all_at P (x ∷ xs) zero c all is = subst P (same_Some _ _ is) all.0
all_at P (x ∷ xs) (suc i) c all is = all_at P xs i c all.1 is

once_of : (cs : List Channel) → Rises cs → IsOnce cs
once_of [] rises i j c p q = absurd (none-some c p)
once_of (x ∷ xs) rises zero zero c p q = refl
once_of (x ∷ xs) rises zero (suc j) c p q =
    absurd (not_before c (subst (λ y. Before y c) (same_Some _ _ p) (all_at (Before x) xs j c rises.0 q)))
once_of (x ∷ xs) rises (suc i) zero c p q =
    absurd (not_before c (subst (λ y. Before y c) (same_Some _ _ q) (all_at (Before x) xs i c rises.0 p)))
once_of (x ∷ xs) rises (suc i) (suc j) c p q = ap suc (once_of xs rises.1 i j c p q)

all_both : (P : Channel → Type 0) (xs ys : List Channel) → All P xs → All P ys → All P (xs ++ ys)
all_both P [] ys a b = b
all_both P (x ∷ xs) ys a b = (a.0, all_both P xs ys a.1 b)

all_to : (P Q : Channel → Type 0) (xs : List Channel) → ((x : Channel) → P x → Q x) → All P xs → All Q xs
all_to P Q [] f all = tt
all_to P Q (x ∷ xs) f all = (f x all.0, all_to P Q xs f all.1)

-- each of some is before each of others
rises_both : (xs ys : List Channel) → Rises xs → Rises ys → All (λ x. All (Before x) ys) xs → Rises (xs ++ ys)
rises_both [] ys a b apart = b
rises_both (x ∷ xs) ys a b apart = (all_both (Before x) xs ys a.0 apart.0, rises_both xs ys a.1 b apart.1)

all_kept : (P : Channel → Type 0) (test : Channel → Bool) (xs : List Channel) → All P xs → All P (filter test xs)
all_kept P test [] all = tt
all_kept P test (x ∷ xs) all = by (test x) (all_kept P test xs all.1)
  where
    by : (b : Bool) → All P (filter test xs) → All P (cond b (x ∷ filter test xs) (filter test xs))
    by true later = (all.0, later)
    by false later = later

-- what is kept of a list that rises rises
rises_kept : (test : Channel → Bool) (xs : List Channel) → Rises xs → Rises (filter test xs)
rises_kept test [] rises = tt
rises_kept test (x ∷ xs) rises = by (test x) (rises_kept test xs rises.1)
  where
    by : (b : Bool) → Rises (filter test xs) → Rises (cond b (x ∷ filter test xs) (filter test xs))
    by true later = (all_kept (Before x) test xs rises.0, later)
    by false later = later

-- ** at a place

-- a channel of a place, of a sort, with a slot or number from this on
abbrev From : (place sort n : ℕ) → Channel → Type 0
From place sort n c = (place_of_channel c ≡ place) × (sort_of c ≡ sort) × (n ≤ member_of c)

from_later : (place sort n : ℕ) (c : Channel) → From place sort (suc n) c → From place sort n c
from_later place sort n c h = let k = h.2 in (h.0, h.1, omega (arith, k))

readable_after : (place n : ℕ) (specs : List Spec) → All (From place 1 n) (readable_from place n specs)
readable_after place n [] = tt
readable_after place n (s ∷ specs) =
    all_both (From place 1 n) (cond (is_readable s) (property place n ∷ []) []) (readable_from place (suc n) specs) (by (is_readable s))
    (all_to (From place 1 (suc n)) (From place 1 n) (readable_from place (suc n) specs) (from_later place 1 n) (readable_after place (suc n) specs))
  where
    by : (b : Bool) → All (From place 1 n) (cond b (property place n ∷ []) [])
    by true = ((refl, refl, omega arith), tt)
    by false = tt

readable_rises : (place n : ℕ) (specs : List Spec) → Rises (readable_from place n specs)
readable_rises place n [] = tt
readable_rises place n (s ∷ specs) = by (is_readable s) (readable_rises place (suc n) specs)
  where
    by : (b : Bool) → Rises (readable_from place (suc n) specs) → Rises (cond b (property place n ∷ []) [] ++ readable_from place (suc n) specs)
    by true later = (
      all_to (From place 1 (suc n)) (Before (property place n)) (readable_from place (suc n) specs)
          (λ c h. inr (sym h.0, inr (sym h.1, (let k = h.2 in omega (arith, k))))) (readable_after place (suc n) specs),
      later,
    )
    by false later = later

signals_after : (place n : ℕ) (signals : List Signal) → All (From place 2 n) (signals_from place n signals)
signals_after place n [] = tt
signals_after place n (s ∷ signals) = (
  (refl, refl, omega arith),
  all_to (From place 2 (suc n)) (From place 2 n) (signals_from place (suc n) signals) (from_later place 2 n) (signals_after place (suc n) signals),
)

signals_rise : (place n : ℕ) (signals : List Signal) → Rises (signals_from place n signals)
signals_rise place n [] = tt
signals_rise place n (s ∷ signals) = (
  all_to (From place 2 (suc n)) (Before (signal place n)) (signals_from place (suc n) signals)
      (λ c h. inr (sym h.0, inr (sym h.1, (let k = h.2 in omega (arith, k))))) (signals_after place (suc n) signals),
  signals_rise place (suc n) signals,
)

emitted_after : (place : ℕ) (signals : List Signal) → All (From place 2 1) (emitted_at place signals)
emitted_after place [] = tt
emitted_after place (s ∷ signals) = signals_after place 1 signals

emitted_rises : (place : ℕ) (signals : List Signal) → Rises (emitted_at place signals)
emitted_rises place [] = tt
emitted_rises place (s ∷ signals) = signals_rise place 1 signals

module _ (d : Definition) (place : ℕ) where
  members_rise : Rises (readable_at d place ++ emitted_at place (signals_at d place))
  members_rise =
      rises_both (readable_at d place) (emitted_at place (signals_at d place)) (readable_rises place 0 (of_class (specs_of d) (class_at d place)))
      (emitted_rises place (signals_at d place))
      (all_to (From place 1 0) (λ c. All (Before c) (emitted_at place (signals_at d place))) (readable_at d place)
      (λ c h. all_to (From place 2 1) (Before c) (emitted_at place (signals_at d place))
      (λ e k. inr (h.0 ∙ sym k.0, inl (let x = h.1 in let y = k.1 in omega (arith, x, y)))) (emitted_after place (signals_at d place)))
      (readable_after place 0 (of_class (specs_of d) (class_at d place))))

  abbrev Here : Channel → Type 0
  Here c = place_of_channel c ≡ place

  members_after : All (λ c. (place_of_channel c ≡ place) × (1 ≤ sort_of c)) (readable_at d place ++ emitted_at place (signals_at d place))
  members_after =
      all_both (λ c. (place_of_channel c ≡ place) × (1 ≤ sort_of c)) (readable_at d place) (emitted_at place (signals_at d place))
      (all_to (From place 1 0) (λ c. (place_of_channel c ≡ place) × (1 ≤ sort_of c)) (readable_at d place)
      (λ c h. (h.0, (let x = h.1 in omega (arith, x)))) (readable_after place 0 (of_class (specs_of d) (class_at d place))))
      (all_to (From place 2 1) (λ c. (place_of_channel c ≡ place) × (1 ≤ sort_of c)) (emitted_at place (signals_at d place))
      (λ c h. (h.0, (let x = h.1 in omega (arith, x)))) (emitted_after place (signals_at d place)))

  here_rises : (b : Bool) → Rises (cond b (constructed place ∷ []) [] ++ (readable_at d place ++ emitted_at place (signals_at d place)))
  here_rises true = (
    all_to (λ c. (place_of_channel c ≡ place) × (1 ≤ sort_of c)) (Before (constructed place)) (readable_at d place ++ emitted_at place (signals_at d place))
        (λ c h. inr (sym h.0, inl (let x = h.1 in omega (arith, x)))) members_after,
    members_rise,
  )
  here_rises false = members_rise

  all_here : (b : Bool) → All (λ c. place_of_channel c ≡ place) (cond b (constructed place ∷ []) [] ++ (readable_at d place ++ emitted_at place (signals_at d place)))
  all_here true = (
    refl,
    all_to (λ c. (place_of_channel c ≡ place) × (1 ≤ sort_of c)) (λ c. place_of_channel c ≡ place) (readable_at d place ++ emitted_at place (signals_at d place))
        (λ c h. h.0) members_after,
  )
  all_here false =
      all_to (λ c. (place_of_channel c ≡ place) × (1 ≤ sort_of c)) (λ c. place_of_channel c ≡ place) (readable_at d place ++ emitted_at place (signals_at d place))
      (λ c h. h.0) members_after

-- ** all places

module _ (d : Definition) where
  places_after : (f : ℕ → ℕ) (count least : ℕ) → ((i : ℕ) → least ≤ f i) → All (λ c. least ≤ place_of_channel c) (flat_map (channels_at d) (listed f count))
  places_after f zero least above = tt
  places_after f (suc count) least above =
      all_both (λ c. least ≤ place_of_channel c) (channels_at d (f 0)) (flat_map (channels_at d) (listed (λ i. f (suc i)) count))
      (all_to (λ c. place_of_channel c ≡ f 0) (λ c. least ≤ place_of_channel c) (channels_at d (f 0))
      (λ c h. (let k = above 0 in omega (arith, h, k))) (all_here d (f 0) (is_filled (constructed_at d (f 0)))))
      (places_after (λ i. f (suc i)) count least (λ i. above (suc i)))

  places_rise : (n count : ℕ) → Rises (flat_map (channels_at d) (listed (λ i. n + i) count))
  places_rise n zero = tt
  places_rise n (suc count) =
      rises_both (channels_at d (n + 0)) (flat_map (channels_at d) (listed (λ i. n + suc i) count)) (here_rises d (n + 0) (is_filled (constructed_at d (n + 0))))
      (later (places_rise (suc n) count))
      (all_to (λ c. place_of_channel c ≡ n + 0) (λ c. All (Before c) (flat_map (channels_at d) (listed (λ i. n + suc i) count))) (channels_at d (n + 0))
      (λ c h. all_to (λ e. suc n ≤ place_of_channel e) (Before c) (flat_map (channels_at d) (listed (λ i. n + suc i) count)) (λ e k. inl (omega (arith, h, k)))
      (places_after (λ i. n + suc i) count (suc n) (λ i. omega arith))) (all_here d (n + 0) (is_filled (constructed_at d (n + 0)))))
    where
      later : Rises (flat_map (channels_at d) (listed (λ i. suc n + i) count)) → Rises (flat_map (channels_at d) (listed (λ i. n + suc i) count))
      later h = subst (λ xs. Rises (flat_map (channels_at d) xs)) (same count (λ i. suc n + i) (λ i. n + suc i) (λ i. omega arith)) h
        where
          same : (k : ℕ) (f g : ℕ → ℕ) → ((i : ℕ) → f i ≡ g i) → listed f k ≡ listed g k
          same zero f g e = refl
          same (suc k) f g e = ap (λ x. x ∷ listed (λ i. f (suc i)) k) (e 0) ∙ ap (λ xs. g 0 ∷ xs) (same k (λ i. f (suc i)) (λ i. g (suc i)) (λ i. e (suc i)))

  same : (k : ℕ) (f g : ℕ → ℕ) → ((i : ℕ) → f i ≡ g i) → listed f k ≡ listed g k
  same zero f g e = refl
  same (suc k) f g e = ap (λ x. x ∷ listed (λ i. f (suc i)) k) (e 0) ∙ ap (λ xs. g 0 ∷ xs) (same k (λ i. f (suc i)) (λ i. g (suc i)) (λ i. e (suc i)))

  channels_rise : Rises (channels d)
  channels_rise = subst (λ xs. Rises (flat_map (channels_at d) xs)) (same (length d.places) (λ i. 0 + i) (λ i. i) (λ i. omega arith)) (places_rise 0 (length d.places))

  -- no channel of a definition is there twice
  pub channels_once : IsOnce (channels d)
  channels_once = once_of (channels d) channels_rise

  -- and no busy one
  pub busy_once : IsOnce (busy_channels d)
  busy_once = once_of (busy_channels d) (rises_kept (is_busy d) (channels d) channels_rise)
