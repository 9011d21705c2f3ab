-- Where the signals of types are.
use Rattle.std.proofs.Common.{◌≡◌, ◌<◌, ◌≤◌, ◌+◌, ◌-◌, ◌∙◌, ◌++◌, ◌∷◌, ℕ, zero, suc, add-one, List, [], None, Some, length, map, slice_get, get_or, option_map, refl, sym, ap, subst, arith}
use Rattle.std.proofs.lemmas.List.{map-append}
use Rattle.std.proofs.lemmas.Option.{slice_get-map}
use Rattle.ui_machine.specs.Definition.Signals.{Signal}
use Rattle.ui_machine.specs.Definition.Types.{GType}
use Rattle.ui_machine.specs.Seq.{listed, read}
use Rattle.ui_machine.specs.Words.{notify}
use Rattle.signal_core.specs.SignalRows.{AreFew, AreThere, ArePlaces, own_place, signal_at, signals_at}
use Rattle.signal_core.specs.SignalView.{signal_view}
use Rattle.signal_core.specs.Sources.{declared_of, own_of}
use Rattle.signal_core.specs.declared.signal_rows.SignalPlace.{SignalPlace}
use Rattle.signal_core.specs.declared.signal.Signal as declarations

listed_suc : {A : Type 0} (f : ℕ → A) (n : ℕ) → listed f (suc n) ≡ listed f n ++ f n ∷ []
listed_suc f zero = refl
listed_suc f (suc n) = ap (λ l. f 0 ∷ l) (listed_suc (λ i. f (suc i)) n)

-- one more
pub listed_more : {A : Type 0} (f : ℕ → A) (n : ℕ) → listed f (n + 1) ≡ listed f n ++ f n ∷ []
listed_more f n = ap (listed f) (add-one n) ∙ listed_suc f n

each_listed : (own : List (List Signal)) (place : ℕ → SignalPlace) (xs : List Signal) → ((i : ℕ) → signal_at own (place i) ≡ read notify xs i)
    → signals_at own (listed place (length xs)) ≡ xs
each_listed own place [] is = refl
each_listed own place (x ∷ xs) is =
    ap (λ s. s ∷ signals_at own (listed (λ i. place (suc i)) (length xs))) (is 0)
    ∙ ap (λ l. x ∷ l) (each_listed own (λ i. place (suc i)) xs (λ i. is (suc i)))

each_there : (own : List (List Signal)) (place : ℕ → SignalPlace) (n : ℕ) → ((i : ℕ) → i < n → (place i).at < length (own_of own (place i).owner)) → AreThere own (listed place n)
each_there own place zero small = tt
each_there own place (suc n) small = (small 0 (omega arith), each_there own (λ i. place (suc i)) n (λ i lt. small (suc i) (omega (arith, lt))))

all_both : (own : List (List Signal)) (xs ys : List SignalPlace) → AreThere own xs → AreThere own ys → AreThere own (xs ++ ys)
all_both own [] ys a b = b
all_both own (x ∷ xs) ys a b = (a.0, all_both own xs ys a.1 b)

-- with a type's own signals
pub places_more : (own : List (List Signal)) (t count : ℕ) (old new : List SignalPlace) (before : List Signal) → count ≡ length (own_of own t) → ArePlaces own old before
    → new ≡ old ++ listed (own_place t) count → ArePlaces own new (before ++ own_of own t)
places_more own t count old new before long have is =
    let places : new ≡ old ++ listed (own_place t) (length (own_of own t)) = is ∙ ap (λ n. old ++ listed (own_place t) n) long in (
      subst (AreThere own) (sym places) (all_both own old _ have.0 (each_there own (own_place t) (length (own_of own t)) (λ i lt. lt))),
      ap (signals_at own) places
          ∙ map-append (signal_at own) old (listed (own_place t) (length (own_of own t)))
          ∙ ap (λ l. l ++ signals_at own (listed (own_place t) (length (own_of own t)))) have.1
          ∙ ap (λ l. before ++ l) (each_listed own (own_place t) (own_of own t) (λ i. refl)),
    )

-- no places
pub no_places : (own : List (List Signal)) (places : List SignalPlace) → places ≡ [] → ArePlaces own places []
no_places own places none = (subst (AreThere own) (sym none) tt, ap (signals_at own) none)

-- ** reading one

seen_there : (items : List declarations.Signal) (i : ℕ) (s : declarations.Signal) → i < length items → s ≡ get_or items i s
    → read notify (map signal_view items) i ≡ signal_view s
seen_there [] i s small is = absurd (omega arith)
seen_there (x ∷ xs) zero s small is = ap signal_view (sym is)
seen_there (x ∷ xs) (suc i) s small is = seen_there xs i s (omega (arith, small)) is

got_suc : (xs : List Signal) (number : ℕ) → (number ≡ 0 → ⊥) → slice_get (notify ∷ xs) number ≡ slice_get xs (number - 1)
got_suc xs zero some = absurd (some refl)
got_suc xs (suc n) some = ap (slice_get xs) (let same : n ≡ suc n - 1 = omega arith in same)

module _ (own : List (List Signal)) (places : List SignalPlace) (declared : List Signal) (placed : ArePlaces own places declared) (number : ℕ) (some : number ≡ 0 → ⊥) where
  got_placed : slice_get (notify ∷ declared) number ≡ option_map (signal_at own) (slice_get places (number - 1))
  got_placed = got_suc declared number some ∙ ap (λ l. slice_get l (number - 1)) (sym placed.1) ∙ slice_get-map (signal_at own) places (number - 1)

  pub no_signal : None ≡ slice_get places (number - 1) → None ≡ slice_get (notify ∷ declared) number
  no_signal none = sym (got_placed ∙ ap (option_map (signal_at own)) (sym none))

  pub a_signal : (place : SignalPlace) (items : List declarations.Signal) (s : declarations.Signal) → Some place ≡ slice_get places (number - 1)
      → map signal_view items ≡ own_of own place.owner → place.at < length items → s ≡ get_or items place.at s → Some (signal_view s) ≡ slice_get (notify ∷ declared) number
  a_signal place items s at seen small is =
      sym
      (got_placed
      ∙ ap (option_map (signal_at own)) (sym at)
      ∙ ap (λ l. Some (read notify l place.at)) (sym seen)
      ∙ ap Some (seen_there items place.at s small is))

-- there is a signal at each place
pub at_there : (own : List (List Signal)) (places : List SignalPlace) (i : ℕ) (place : SignalPlace) → AreThere own places → slice_get places i ≡ Some place
    → place.at < length (own_of own place.owner)
at_there own [] i place all at = absurd (cc)
at_there own (p ∷ places) zero place all at = let same : p ≡ place = cc in subst (λ q. q.at < length (own_of own q.owner)) same all.0
at_there own (p ∷ places) (suc i) place all at = at_there own places i place all.1 at

-- ** rows

-- each row has the places of a type's signals
abbrev pub EachPlaced : List GType → List (List Signal) → List (List SignalPlace) → Type 0
EachPlaced types own rows = (t : ℕ) → t < length rows → ArePlaces own (read [] rows t) (declared_of types own t)

pub rows_more : (types : List GType) (own : List (List Signal)) (rows : List (List SignalPlace)) (row : List SignalPlace)
    → EachPlaced types own rows → ArePlaces own row (declared_of types own (length rows)) → EachPlaced types own (rows ++ row ∷ [])
rows_more types own rows row all last t small = by_place rows t (all t) (λ e. subst (λ u. ArePlaces own row (declared_of types own u)) (sym e) last) small
  where
    by_place : (rs : List (List SignalPlace)) (i : ℕ) → (i < length rs → ArePlaces own (read [] rs i) (declared_of types own t)) → (i ≡ length rs → ArePlaces own row (declared_of types own t))
        → i < length (rs ++ row ∷ []) → ArePlaces own (read [] (rs ++ row ∷ []) i) (declared_of types own t)
    by_place [] zero here end small = end refl
    by_place [] (suc i) here end small = absurd (omega arith)
    by_place (r ∷ rs) zero here end small = here (omega arith)
    by_place (r ∷ rs) (suc i) here end small = by_place rs i (λ lt. here (omega (arith, lt))) (λ e. end (ap suc e)) (omega (arith, small))

pub few_more : (rows : List (List SignalPlace)) (row : List SignalPlace) → AreFew rows → length row ≤ 16384 → AreFew (rows ++ row ∷ [])
few_more [] row few one = (one, tt)
few_more (r ∷ rows) row few one = (few.0, few_more rows row few.1 one)

pub few_at_most : (rows : List (List SignalPlace)) → AreFew rows → (t : ℕ) → length (read [] rows t) ≤ 16384
few_at_most [] few t = omega arith
few_at_most (r ∷ rows) few zero = few.0
few_at_most (r ∷ rows) few (suc t) = few_at_most rows few.1 t
