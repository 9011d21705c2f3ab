-- Sources that are attached to the main context (GLib manual, The Main Event Loop: g_source_attach).
use Rattle.std.specs.List.{filter, find}
use Rattle.std.specs.Prelude.{Bool, List, None, Option, Some, [], cond, length, nat_eq, nat_lt, not, ℕ, ℤ, ◌&&◌, ◌++◌, ◌+◌, ◌-◌, ◌^◌, ◌∷◌}

-- an idle has no interval; `due` is looked at in a timeout alone
pub record Source : Type 0 where
  pub number : ℕ
  pub program : ℕ
  pub priority : ℤ
  pub interval : Option ℕ
  pub due : ℕ
  pub arg : Option ℕ

-- ** attaching

-- how many sources may be attached at a time
abbrev pub most_sources : ℕ
most_sources = 256

-- whether one more may be attached, after the last number given: the numbers end at 2^64 - 1
abbrev pub has_room : List Source → ℕ → Bool
has_room sources last = nat_lt (length sources) most_sources && nat_lt last (2 ^ 64 - 1)

-- one interval after the moment; an idle is due at any time
abbrev pub due_after : ℕ → Option ℕ → ℕ
due_after moment None = 0
due_after moment (Some interval) = moment + interval

-- a source of the number that is attached at the moment
abbrev pub new_source : (number moment program : ℕ) → ℤ → Option ℕ → Option ℕ → Source
new_source number moment program priority interval arg = record {
  number = number;
  program = program;
  priority = priority;
  interval = interval;
  due = due_after moment interval;
  arg = arg;
}

-- the sources with one more
abbrev pub attached : List Source → Source → List Source
attached sources s = sources ++ s ∷ []

-- ** finding and removing

-- the list without the first that passes
abbrev pub without_first : {A : Type 0} → (A → Bool) → List A → List A
without_first p [] = []
without_first p (x ∷ xs) = cond (p x) xs (x ∷ without_first p xs)

-- whether this is the source of the number
abbrev pub is_numbered : ℕ → Source → Bool
is_numbered number s = nat_eq s.number number

-- whether the source runs the program
abbrev pub runs_program : ℕ → Source → Bool
runs_program program s = nat_eq s.program program

-- the source of the number, if it is attached
abbrev pub source_of : ℕ → List Source → Option Source
source_of number sources = find (is_numbered number) sources

-- the sources without the one of the number
abbrev pub without_source : ℕ → List Source → List Source
without_source number sources = without_first (is_numbered number) sources

-- the sources without those of the program
abbrev pub without_program : ℕ → List Source → List Source
without_program program sources = filter (λ s. not (runs_program program s)) sources
