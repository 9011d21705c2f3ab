-- Places of sources in order of a rank.
use Rattle.std.specs.Prelude.{◌≡◌, ◌<◌, ℕ, ℤ, pos, Bool, false, cond, nat_le, ◌&&◌, ◌||◌, nat_lt, int_le, int_lt, List, [], ◌∷◌, length, Option, Some, None, option_map}
use Rattle.std.specs.List.{AllByRecursion, filter, prefix_len, remove}
use Rattle.std.specs.Int.{int_min}
use Rattle.std.specs.Ordering.{int_eq}
use Rattle.ui_machine.specs.State.Sources.{Source, source_of}
use Rattle.main_context.specs.declared.places.Place.{Place}

-- whether a place has the lower rank, or the same rank and the lower number
unfoldable pub is_before : Place → Place → Bool
is_before p q = int_lt p.rank q.rank || (int_eq p.rank q.rank && nat_lt p.number q.number)

-- no place is before one that precedes it
abbrev pub IsAscending : List Place → Type 0
IsAscending [] = Unit {0}
IsAscending (p ∷ places) = AllByRecursion (λ q. is_before q p ≡ false) places × IsAscending places

-- how many of the first places are before this one, so the index at which it belongs
abbrev pub index_from : Place → List Place → ℕ
index_from p places = prefix_len (λ q. is_before q p) places

-- the places with one more
abbrev pub with_place : Place → List Place → List Place
with_place p [] = p ∷ []
with_place p (q ∷ places) = cond (is_before q p) (q ∷ with_place p places) (p ∷ q ∷ places)

-- the places without this one, which is there
abbrev pub without_place : Place → List Place → List Place
without_place p places = remove places (index_from p places)

abbrev pub has_rank : ℤ → Place → Bool
has_rank rank p = int_eq p.rank rank

-- whether a place is there, if there is one at all
abbrev pub IsThere : Option Place → List Place → Type 0
IsThere None places = Unit {0}
IsThere (Some p) places = index_from p places < length places

abbrev pub with_any : Option Place → List Place → List Place
with_any None places = places
with_any (Some p) places = with_place p places

abbrev pub without_any : Option Place → List Place → List Place
without_any None places = places
without_any (Some p) places = without_place p places

-- whether the rank of a place is at most this
abbrev pub is_up_to : ℤ → Place → Bool
is_up_to rank p = int_le p.rank rank

-- the places of at most this rank
abbrev pub up_to : ℤ → List Place → List Place
up_to rank places = filter (is_up_to rank) places

-- the least rank of two places, if there is one
abbrev pub least_rank : Option Place → Option Place → Option ℤ
least_rank None None = None
least_rank (Some p) None = Some p.rank
least_rank None (Some q) = Some q.rank
least_rank (Some p) (Some q) = Some (int_min p.rank q.rank)

-- the places with more
abbrev pub all_added : List Place → List Place → List Place
all_added [] places = places
all_added (p ∷ more) places = with_place p (all_added more places)

-- ** the places of sources

-- the place of a source, if it has a rank
abbrev pub place_by : (Source → Option ℤ) → Source → Option Place
place_by rank s = option_map (λ r. record { rank = r; number = s.number }) (rank s)

-- the places of the sources that have a rank
abbrev pub ranked : (Source → Option ℤ) → List Source → List Place
ranked rank [] = []
ranked rank (s ∷ sources) = with_any (place_by rank s) (ranked rank sources)

-- the rank of each source is its program
abbrev pub program_rank : Source → Option ℤ
program_rank s = Some (pos s.program)

abbrev pub program_place : Source → Place
program_place s = record { rank = pos s.program; number = s.number }

-- the rank of an idle is its priority
abbrev pub idle_rank : Source → Option ℤ
idle_rank s = of_interval s.interval
  where
    of_interval : Option ℕ → Option ℤ
    of_interval None = Some s.priority
    of_interval (Some interval) = None

-- the rank of a timeout is the moment at which it is due
abbrev pub timeout_rank : Source → Option ℤ
timeout_rank s = of_interval s.interval
  where
    of_interval : Option ℕ → Option ℤ
    of_interval None = None
    of_interval (Some interval) = Some (pos s.due)

-- the place among the ready ones, ranked by priority, of the source of a number
abbrev pub priority_place : List Source → ℕ → Option Place
priority_place sources number = option_map (λ s. record { rank = s.priority; number = s.number }) (source_of number sources)

-- the places of those sources by priority
abbrev pub by_priority : List Source → List Place → List Place
by_priority sources [] = []
by_priority sources (p ∷ places) = with_any (priority_place sources p.number) (by_priority sources places)

-- the rank of a timeout that is ready is its priority
abbrev pub ready_rank : (moment : ℕ) → Source → Option ℤ
ready_rank moment s = of_interval s.interval
  where
    of_interval : Option ℕ → Option ℤ
    of_interval None = None
    of_interval (Some interval) = cond (nat_le s.due moment) (Some s.priority) None
