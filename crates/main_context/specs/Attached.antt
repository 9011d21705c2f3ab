-- What a context denotes.
use Rattle.std.specs.Prelude.{◌≡◌, ℕ, ◌+◌, ℤ, Bool, List, [], ◌∷◌, Option, None, cond, is_some}
use Rattle.std.specs.Option.{option_or}
use Rattle.ui_machine.specs.State.Sources.{Source, attached, new_source, source_of}
use Rattle.main_context.specs.Order.{AreInOrder}
use Rattle.main_context.specs.Places.{idle_rank, program_rank, ranked, timeout_rank}
use Rattle.main_context.specs.declared.places.Place.{Place}

-- the sources in order of attachment, the number of the last one attached and the latest moment; each 0 before any
pub record Attached : Type 0 where
  pub sources : List Source
  pub last : ℕ
  pub moment : ℕ

-- the context with one source more, of the next number and from the latest moment on
abbrev pub with_source : Attached → (program : ℕ) → ℤ → Option ℕ → Option ℕ → Attached
with_source context program priority interval arg = record context {
  sources = attached context.sources (new_source (context.last + 1) context.moment program priority interval arg);
  last = context.last + 1;
}

-- what a context keeps: sources in order, and the places of all, of the idles and of the timeouts
pub record IsKept (sources : List Source) (programs idles timeouts : List Place) (last : ℕ) : Type 0 where
  pub order : AreInOrder sources last
  pub by_program : programs ≡ ranked program_rank sources
  pub by_priority : idles ≡ ranked idle_rank sources
  pub by_due : timeouts ≡ ranked timeout_rank sources

abbrev pub is_attached : List Source → ℕ → Bool
is_attached sources number = is_some (source_of number sources)

-- the source of the first number that is still attached
abbrev pub next_source : List Source → List ℕ → Option Source
next_source sources [] = None
next_source sources (number ∷ numbers) = option_or (source_of number sources) (next_source sources numbers)

-- the numbers after that one
abbrev pub numbers_after : List Source → List ℕ → List ℕ
numbers_after sources [] = []
numbers_after sources (number ∷ numbers) = cond (is_attached sources number) numbers (numbers_after sources numbers)
