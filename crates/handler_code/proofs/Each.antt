-- Reading the entries of a list one after the other, as a loop does.
use Rattle.std.proofs.Common.{◌≡◌, ℕ, suc, ◌+◌, ◌≤◌, ◌<◌, List, [], ◌∷◌, ◌++◌, map, length, drop, get_or, Result, Ok, Err, refl, sym, ap, ◌∙◌, arith, add-one}
use Rattle.std.proofs.Math.Seq.{drop-cons}
use Rattle.std.proofs.lemmas.List.{nil_from_length, length-drop, map-append}
use Rattle.json_trees.specs.declared.value.Value.{Value}
use Rattle.serde_json.specs.Data.{Data}
use Rattle.serde_json.specs.View.{items_of}
use Rattle.json_trees.specs.View.{view, items_view}
use Rattle.ui_machine.specs.Outcome.{◌>>=◌}
use Rattle.bytecode.specs.Reading.Each.{entries_of, each}

listed : (ds : List Data) → entries_of (items_of ds) ≡ ds
listed [] = refl
listed (d ∷ ds) = ap (λ es. d ∷ es) (listed ds)

pub entries_viewed : (vs : List Value) → entries_of (items_view vs) ≡ map view vs
entries_viewed vs = listed (map view vs)

module _ {S X E V : Type 0} (step : ℕ → S → X → Result S E) (view : V → X) (vs : List V) (i : ℕ) (s : S) (total : Result S E) where
  abbrev rest : ℕ → S → Result S E
  rest j t = each step j t (map view (drop j vs))

  one_more : (v : V) → i < length vs → v ≡ get_or vs i v → map view (drop i vs) ≡ view v ∷ map view (drop (i + 1) vs)
  one_more v lt is = let e : drop i vs ≡ get_or vs i v ∷ drop (suc i) vs = drop-cons vs i v lt in rw (add-one, e, ← is) refl

  turn : (v : V) → i < length vs → v ≡ get_or vs i v → rest i s ≡ (step i s (view v) >>= λ t. rest (i + 1) t)
  unfolding each
  turn v lt is = rw (one_more v lt is) refl

  pub goes_on : (v : V) (t : S) → i < length vs → v ≡ get_or vs i v → step i s (view v) ≡ Ok t → rest i s ≡ total → rest (i + 1) t ≡ total
  goes_on v t lt is h so = sym (turn v lt is ∙ ap (λ r. r >>= λ u. rest (i + 1) u) h) ∙ so

  pub fails : (v : V) (e : E) → i < length vs → v ≡ get_or vs i v → step i s (view v) ≡ Err e → rest i s ≡ total → total ≡ Err e
  fails v e lt is h so = sym so ∙ turn v lt is ∙ ap (λ r. r >>= λ u. rest (i + 1) u) h

  pub is_done : length vs ≤ i → rest i s ≡ total → total ≡ Ok s
  unfolding each
  is_done le so =
      let none : drop i vs ≡ [] = nil_from_length (drop i vs) (omega (arith, length-drop i vs)) in
      let one : rest i s ≡ Ok s = rw none refl in
      sym so ∙ one

  -- a step that adds to the state what it read first
  pub adds : {A : Type 0} (v : V) (x : A) (first : Result A E) (add : A → S) → i < length vs → v ≡ get_or vs i v
      → step i s (view v) ≡ (first >>= λ a. Ok (add a)) → first ≡ Ok x → rest i s ≡ total → rest (i + 1) (add x) ≡ total
  adds v x first add lt is by h so = goes_on v (add x) lt is (by ∙ ap (λ r. r >>= λ a. Ok (add a)) h) so

  pub stops : {A : Type 0} (v : V) (e : E) (first : Result A E) (add : A → S) → i < length vs → v ≡ get_or vs i v
      → step i s (view v) ≡ (first >>= λ a. Ok (add a)) → first ≡ Err e → rest i s ≡ total → total ≡ Err e
  stops v e first add lt is by h so = fails v e lt is (by ∙ ap (λ r. r >>= λ a. Ok (add a)) h) so

-- a list that was pushed to, seen by a view
pub pushed : {A B : Type 0} (view : A → B) (xs ys : List A) (x : A) → ys ≡ xs ++ x ∷ [] → map view ys ≡ map view xs ++ view x ∷ []
pushed view xs ys x is = ap (map view) is ∙ map-append view xs (x ∷ [])
