-- Lists that begin another list.
use Rattle.std.specs.Prelude.{◌≡◌, List, ◌++◌}

-- the second list is the first with more at its end
pub record IsPrefix {A : Type 0} (xs ys : List A) : Type 0 where
  pub more : List A
  pub whole : ys ≡ xs ++ more
