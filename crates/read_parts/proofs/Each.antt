-- Reading the entries of a list one after the other, as a loop does.
use Rattle.std.proofs.Common.{◌≡◌, ℕ, suc, ◌+◌, ◌≤◌, ◌<◌, List, [], ◌∷◌, length, drop, get_or, Result, Ok, refl, sym, ap, ◌∙◌, arith, add-one}
use Rattle.std.proofs.Math.Seq.{drop-cons}
use Rattle.std.proofs.lemmas.List.{nil_from_length, length-drop}
use Rattle.json_trees.specs.declared.value.Value.{Value}
use Rattle.serde_json.specs.Data.{Data, item}
use Rattle.json_trees.specs.View.{view, items_view}
use Rattle.definition_format.specs.declared.faults.ReadError.{ReadError}
use Rattle.definition_format.specs.declared.faults.ReadError.TheVariants as errors
use Rattle.ui_machine.specs.Outcome.{◌>>=◌}
use Rattle.definition_format.specs.Refusals.{Refusal, Fails}
use Rattle.definition_format.specs.Document.{each}

pub one_more : (vs : List Value) (i : ℕ) (v : Value) → i < length vs → v ≡ get_or vs i v → items_view (drop i vs) ≡ item (view v) (items_view (drop (i + 1) vs))
one_more vs i v lt is = let e : drop i vs ≡ get_or vs i v ∷ drop (suc i) vs = drop-cons vs i v lt in rw (add-one, e, ← is) refl

module _ {S : Type 0} (step : ℕ → S → Data → Result S Refusal) (vs : List Value) (i : ℕ) (s : S) (total : Result S Refusal) where
  turn : (v : Value) → i < length vs → v ≡ get_or vs i v
      → each step i s (items_view (drop i vs)) ≡ (step i s (view v) >>= λ t. each step (i + 1) t (items_view (drop (i + 1) vs)))
  unfolding each
  turn v lt is = rw (one_more vs i v lt is) refl

  pub goes_on : (v : Value) (t : S) → i < length vs → v ≡ get_or vs i v → step i s (view v) ≡ Ok t
      → each step i s (items_view (drop i vs)) ≡ total → each step (i + 1) t (items_view (drop (i + 1) vs)) ≡ total
  goes_on v t lt is h so = sym (turn v lt is ∙ ap (λ r. r >>= λ u. each step (i + 1) u (items_view (drop (i + 1) vs))) h) ∙ so

  pub ends : (e : ReadError) (v : Value) → i < length vs → v ≡ get_or vs i v → Fails e (step i s (view v))
      → each step i s (items_view (drop i vs)) ≡ total → Fails e total
  ends errors.OutOfMemory v lt is h so = tt
  ends (errors.Refused f) v lt is h so = sym so ∙ turn v lt is ∙ ap (λ r. r >>= λ u. each step (i + 1) u (items_view (drop (i + 1) vs))) h

  pub is_done : length vs ≤ i → each step i s (items_view (drop i vs)) ≡ total → total ≡ Ok s
  unfolding each
  is_done le so =
      let none : drop i vs ≡ [] = nil_from_length (drop i vs) (omega (arith, length-drop i vs)) in
      let one : each step i s (items_view (drop i vs)) ≡ Ok s = rw none refl in
      sym so ∙ one
