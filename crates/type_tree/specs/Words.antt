-- Words by their places in a list.
use Rattle.std.specs.Prelude.{◌≡◌, ℕ, ℤ, suc, Vec, cond, List, [], ◌∷◌, bytes_eq, map, Option, None, Some, option_and_then, option_map, slice_get}
use Rattle.std.specs.Global.{Global}
use Rattle.std.specs.BTreeMap.{BTreeMap, get_by}
use Rattle.std.specs.Ordering.{nat_cmp}
use Rattle.std.specs.Cmp.Lexicographic.{slice_cmp}
use Rattle.ui_machine.specs.Definition.Types.{Member}
use Rattle.type_tree.specs.Naming.{number_called}

-- the place that is kept of a word
abbrev pub place_at : BTreeMap (Vec ℕ Global) ℕ → List ℕ → Option ℕ
place_at places word = get_by (λ k. slice_cmp nat_cmp word k.items) places

-- the place of the first word that is this one, counted from i on
abbrev pub place_from : ℕ → List (List ℕ) → List ℕ → Option ℕ
place_from i [] word = None
place_from i (own ∷ words) word = cond (bytes_eq own word) (Some i) (place_from (suc i) words word)

module _ {A : Type 0} (seen : A → Member) where
  -- the number of the member at a place, if there is one
  abbrev pub number_at : List A → Option ℕ → Option ℤ
  number_at members place = option_map (λ m. (seen m).number) (option_and_then (λ i. slice_get members i) place)

  -- what is kept of each word is the place of the member that is called so
  abbrev pub FindCalled : BTreeMap (Vec ℕ Global) ℕ → List A → Type 0
  FindCalled places members = (word : List ℕ) → number_at members (place_at places word) ≡ number_called (map seen members) word
