-- Lists by type, one of which is written.
use Rattle.std.proofs.Common.{◌≡◌, ◌∙◌, ℕ, zero, suc, ◌+◌, ◌<◌, ◌≤◌, nat_eq, Bool, true, false, if◌then◌else◌, List, [], ◌∷◌, ◌++◌, length, map, get_or, slice_set, Result, Ok, Err, OnErr, OnOk, refl, sym, ap, subst, arith, length-append}
use Rattle.std.proofs.lemmas.Bool.Decides.{nat_tests}
use Rattle.std.proofs.lemmas.List.{length-map, map-append}
use Rattle.type_tree.proofs.Entries.{read-past}
use Rattle.ui_machine.specs.Seq.{read}
use Rattle.ui_machine.specs.Definition.Signals as machine
use Rattle.signal_core.specs.Growing.{AddsItem, SameItems, items_of}
use Rattle.signal_core.specs.SignalView.{signal_view, signals_in}
use Rattle.signal_core.specs.Sources.{own_of}
use Rattle.signal_core.specs.Table.{AddsSignal, IsTable, SameSignals}
use Rattle.signal_core.specs.declared.signal.Signal.{Signal}

zero_suc : (i : ℕ) → nat_eq 0 (suc i) ≡ false
zero_suc i = grind (arith, nat_tests)

suc_zero : (i : ℕ) → nat_eq (suc i) 0 ≡ false
suc_zero i = grind (arith, nat_tests)

suc_suc : (u i : ℕ) → nat_eq u i ≡ nat_eq (suc u) (suc i)
suc_suc u i = grind (arith, nat_tests)

module _ {V T : Type 0} (items : V → List T) where
  -- at the place that is written is one item more
  pub AddsItem-set : (xs : List V) (i : ℕ) (w d : V) (x : T) → i < length xs → items w ≡ items (get_or xs i d) ++ x ∷ [] → AddsItem items xs (slice_set xs i w) i x
  AddsItem-set [] i w d x h e u = absurd (omega arith)
  AddsItem-set (v ∷ xs) zero w d x h e zero = e
  AddsItem-set (v ∷ xs) zero w d x h e (suc u) = sym (ap (λ b. if b then items_of items xs u ++ x ∷ [] else items_of items xs u) (suc_zero u))
  AddsItem-set (v ∷ xs) (suc i) w d x h e zero = sym (ap (λ b. if b then items v ++ x ∷ [] else items v) (zero_suc i))
  AddsItem-set (v ∷ xs) (suc i) w d x h e (suc u) =
      AddsItem-set xs i w d x (omega arith) e u ∙ ap (λ b. if b then items_of items xs u ++ x ∷ [] else items_of items xs u) (suc_suc u i)

  -- or the same
  pub SameItems-set : (xs : List V) (i : ℕ) (w d : V) → i < length xs → items w ≡ items (get_or xs i d) → SameItems items xs (slice_set xs i w)
  SameItems-set [] i w d h e u = absurd (omega arith)
  SameItems-set (v ∷ xs) zero w d h e zero = e
  SameItems-set (v ∷ xs) zero w d h e (suc u) = refl
  SameItems-set (v ∷ xs) (suc i) w d h e zero = refl
  SameItems-set (v ∷ xs) (suc i) w d h e (suc u) = SameItems-set xs i w d (omega arith) e u

  -- an empty list at the end changes nothing that is read
  pub SameItems-grown : (xs : List V) (w : V) → items w ≡ [] → SameItems items xs (xs ++ w ∷ [])
  SameItems-grown [] w e zero = e
  SameItems-grown [] w e (suc u) = refl
  SameItems-grown (v ∷ xs) w e zero = refl
  SameItems-grown (v ∷ xs) w e (suc u) = SameItems-grown xs w e u

  pub AddsItem-after : (old mid new : List V) (t : ℕ) (x : T) → SameItems items old mid → AddsItem items mid new t x → AddsItem items old new t x
  AddsItem-after old mid new t x same adds u = adds u ∙ ap (λ l. if nat_eq u t then l ++ x ∷ [] else l) (same u)

  pub SameItems-after : (old mid new : List V) → SameItems items old mid → SameItems items mid new → SameItems items old new
  SameItems-after old mid new a b u = b u ∙ a u

pub on_err_if : {A E : Type 0} {P : Type 0} (r : Result A E) → P → OnErr r P
on_err_if (Ok x) p = tt
on_err_if (Err e) p = p

-- ** lists that are read mapped

pub read-map : {A B : Type 0} (f : A → B) (d : B) (e : A) (xs : List A) (i : ℕ) → i < length xs → read d (map f xs) i ≡ f (get_or xs i e)
read-map f d e [] i h = absurd (omega arith)
read-map f d e (x ∷ xs) zero h = refl
read-map f d e (x ∷ xs) (suc i) h = read-map f d e xs i (omega arith)

pub read-map-past : {A B : Type 0} (f : A → B) (d : B) (xs : List A) (i : ℕ) → length xs ≤ i → read d (map f xs) i ≡ d
read-map-past f d xs i h = read-past d (map f xs) i (rw (length-map xs f) h)

-- ** lists of signals by type

pub own-items : {V : Type 0} (items : V → List Signal) (vs : List V) (u : ℕ) → own_of (signals_in items vs) u ≡ map signal_view (items_of items vs u)
own-items items [] u = refl
own-items items (v ∷ vs) zero = refl
own-items items (v ∷ vs) (suc u) = own-items items vs u

module _ {V : Type 0} (items : V → List Signal) (old new : List V) where
  pub signals-added : (t : ℕ) (s : Signal) → AddsItem items old new t s → AddsSignal (signals_in items old) (signals_in items new) t (signal_view s)
  signals-added t s adds u =
      own-items items new u ∙ ap (map signal_view) (adds u) ∙ by (nat_eq u t)
      ∙ ap (λ own. if nat_eq u t then own ++ signal_view s ∷ [] else own) (sym (own-items items old u))
    where
      by : (b : Bool) → map signal_view (if b then items_of items old u ++ s ∷ [] else items_of items old u)
          ≡ (if b then map signal_view (items_of items old u) ++ signal_view s ∷ [] else map signal_view (items_of items old u))
      by true = map-append signal_view (items_of items old u) (s ∷ [])
      by false = refl

  pub signals-same : SameItems items old new → SameSignals (signals_in items old) (signals_in items new)
  signals-same same u = own-items items new u ∙ ap (map signal_view) (same u) ∙ sym (own-items items old u)

-- a table stays one, where its lists stay
IsTable-same : (old new : List (List machine.Signal)) → SameSignals old new → length new ≤ 256 → IsTable old → IsTable new
IsTable-same old new same few table = record { own = λ t. subst (λ l. length l ≤ 64) (sym (same t)) (table.own t); few = few }

-- or one of them that had room gets one signal more
IsTable-more : (old new : List (List machine.Signal)) (t : ℕ) (s : machine.Signal) → length (own_of old t) < 64 → AddsSignal old new t s → length new ≤ 256
    → IsTable old → IsTable new
IsTable-more old new t s room adds few table = record { own = λ u. subst (λ l. length l ≤ 64) (sym (adds u)) (by u (nat_eq u t) refl); few = few }
  where
    at : (u : ℕ) → u ≡ t → length (own_of old u ++ s ∷ []) ≤ 64
    at u e = rw (length-append (own_of old u) (s ∷ [])) (subst (λ v. length (own_of old v) + 1 ≤ 64) (sym e) (omega arith))

    by : (u : ℕ) (b : Bool) → nat_eq u t ≡ b → length (if b then own_of old u ++ s ∷ [] else own_of old u) ≤ 64
    by u true e = at u (grind (arith, nat_tests))
    by u false e = table.own u

pub IsTable-after : {E : Type 0} (r : Result (Unit {0}) E) (old new : List (List machine.Signal)) (t : ℕ) (s : machine.Signal) → length (own_of old t) < 64
    → OnOk r (AddsSignal old new t s) → OnErr r (SameSignals old new) → length new ≤ 256 → IsTable old → IsTable new
IsTable-after (Ok done) old new t s room ok err few table = IsTable-more old new t s room ok few table
IsTable-after (Err e) old new t s room ok err few table = IsTable-same old new err few table

pub on_ok-map : {A E : Type 0} {P Q : Type 0} (r : Result A E) → (P → Q) → OnOk r P → OnOk r Q
on_ok-map (Ok x) f p = f p
on_ok-map (Err e) f p = tt

pub on_err-map : {A E : Type 0} {P Q : Type 0} (r : Result A E) → (P → Q) → OnErr r P → OnErr r Q
on_err-map (Ok x) f p = tt
on_err-map (Err e) f p = f p
