-- The objects of a list in document order, one entry after the other.
use Rattle.std.proofs.Common.{◌≡◌, ℕ, suc, ◌+◌, ◌≤◌, ◌<◌, List, [], ◌∷◌, ◌++◌, codes, length, drop, get_or, sym, ap, ◌∙◌, arith}
use Rattle.std.proofs.lemmas.List.{append_assoc, append-nil, nil_from_length, length-drop}
use Rattle.json_trees.specs.declared.value.Value.{Value}
use Rattle.serde_json.specs.Data.{Data, Items}
use Rattle.json_trees.specs.View.{view, items_view}
use Rattle.definition_format.specs.Denoted.Entries.{section, with_all, in_order}
use Rattle.read_parts.proofs.Each.{one_more}

-- what comes after an entry
abbrev pub below : ℕ → Data → List Data
below levels d = in_order levels (section (codes "children") d)

pub one_level : (levels k : ℕ) (list : Items) → levels ≡ suc k → in_order levels list ≡ with_all (below k) list
one_level levels k list e = ap (λ n. in_order n list) e

module _ (k : ℕ) (vs : List Value) (i : ℕ) (old total : List Data) where
  pub more : (v : Value) (pushed new : List Data) → i < length vs → v ≡ get_or vs i v → pushed ≡ old ++ view v ∷ [] → new ≡ pushed ++ below k (view v)
      → old ++ with_all (below k) (items_view (drop i vs)) ≡ total → new ++ with_all (below k) (items_view (drop (i + 1) vs)) ≡ total
  more v pushed new lt is push grown so =
      let rest = with_all (below k) (items_view (drop (i + 1) vs)) in
      ap (λ ds. ds ++ rest) (grown ∙ ap (λ ds. ds ++ below k (view v)) push ∙ append_assoc old (view v ∷ []) (below k (view v)))
      ∙ append_assoc old (view v ∷ below k (view v)) rest
      ∙ sym (ap (λ list. old ++ with_all (below k) list) (one_more vs i v lt is))
      ∙ so

  pub all_done : length vs ≤ i → old ++ with_all (below k) (items_view (drop i vs)) ≡ total → old ≡ total
  all_done le so =
      let none : drop i vs ≡ [] = nil_from_length (drop i vs) (omega (arith, length-drop i vs)) in
      sym (append-nil old) ∙ sym (ap (λ (ws : List Value). old ++ with_all (below k) (items_view ws)) none) ∙ so
