-- Names, as lists of bytes (GObject manual, GParamSpec: canonical parameter names).
use Rattle.std.specs.Prelude.{ℕ, suc, Bool, true, false, cond, nat_eq, List, [], ◌∷◌, Option, Some, None}

-- whether two names are one, byte by byte
abbrev pub same_name : List ℕ → List ℕ → Bool
same_name [] [] = true
same_name [] (y ∷ ys) = false
same_name (x ∷ xs) [] = false
same_name (x ∷ xs) (y ∷ ys) = cond (nat_eq x y) (same_name xs ys) false

-- the canonical spelling of a property's or signal's name, with `-` for `_`
abbrev pub canonical : List ℕ → List ℕ
canonical [] = []
canonical (x ∷ xs) = cond (nat_eq x 95) 45 x ∷ canonical xs

-- the place of the first entry that is called so, where the first of the list has the place i
abbrev pub place_from : {A : Type 0} → (A → List ℕ) → ℕ → List A → List ℕ → Option ℕ
place_from name_of i [] name = None
place_from name_of i (x ∷ xs) name = cond (same_name (name_of x) name) (Some i) (place_from name_of (suc i) xs name)

-- the place in a list of the first entry that is called so
abbrev pub place_named : {A : Type 0} → (A → List ℕ) → List A → List ℕ → Option ℕ
place_named name_of xs name = place_from name_of 0 xs name
