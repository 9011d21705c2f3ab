-- What a queue of notifications denotes.
use Rattle.std.specs.Prelude.{ℕ, List}

-- how often the object is frozen, and the slots that wait, each once, in order of first queueing
pub record Waiting : Type 0 where
  pub freezes : ℕ
  pub queue : List ℕ
