-- Names with a row each: what there is of the name.
use Rattle.std.specs.Prelude.{◌≡◌, ℕ, cond, is_some, List, [], ◌∷◌, ◌++◌, length, Option, None, Some}
use Rattle.ui_machine.specs.Seq.{read}
use Rattle.name_tables.specs.Names.{Named, place_of}
use Rattle.engine_links.specs.Linked.{method_by, numbers_by}

-- names, and the row of each at its place
pub record NamedRows (A : Type 0) : Type 0 where
  pub names : List Named
  pub rows : List A

-- each name has a row
abbrev pub AreLevel : {A : Type 0} → List Named → List A → Type 0
AreLevel names rows = length rows ≡ length names

-- the row at a place, if it is one, and an empty one otherwise
abbrev pub row_by : {A : Type 0} → A → List A → Option ℕ → A
row_by empty rows None = empty
row_by empty rows (Some at) = read empty rows at

-- the row of a name
abbrev pub row_of : {A : Type 0} → A → List Named → List A → List ℕ → A
row_of empty names rows name = row_by empty rows (place_of names name)

-- the rows with one more, an empty one, where a name is new
abbrev pub with_row : {A : Type 0} → List Named → List ℕ → List A → A → List A
with_row names name rows empty = cond (is_some (place_of names name)) rows (rows ++ empty ∷ [])

-- ** what the rows of methods and of bindings say

-- the number of the method of a shape that is called so
abbrev pub method_of : NamedRows (List (ℕ × ℕ)) → (shape : ℕ) → List ℕ → Option ℕ
method_of methods shape name = method_by methods.rows shape (place_of methods.names name)

-- the numbers of the bindings that are called so
abbrev pub numbers_of : NamedRows (List ℕ) → List ℕ → List ℕ
numbers_of bindings name = numbers_by bindings.rows (place_of bindings.names name)
