-- Which signals the types of a tree have: those of each class from the root down, and those of the interfaces that it names (GObject
-- manual, signals: g_signal_lookup, which looks at ancestors and interfaces).
use Rattle.std.specs.List.{filter, flat_map, list_any}
use Rattle.std.specs.Prelude.{Bool, List, Option, Some, [], cond, false, get_or, length, nat_eq, not, option_and_then, reverse, suc, take, zero, ℕ, ◌++◌, ◌<◌, ◌≡◌, ◌∷◌}
use Rattle.ui_machine.specs.Definition.Names.{canonical, place_named}
use Rattle.ui_machine.specs.Definition.Signals.{Signal}
use Rattle.ui_machine.specs.Definition.Types.{GType}
use Rattle.ui_machine.specs.Rules.Ancestry.{implemented_by, line_from, lineage, parent_of}
use Rattle.ui_machine.specs.Seq.{read}
use Rattle.ui_machine.specs.Words.{notify}

-- the signals that were declared for a type itself
abbrev pub own_of : List (List Signal) → ℕ → List Signal
own_of signals t = read [] signals t

-- each of them once, where it comes first
abbrev pub each_once : List ℕ → List ℕ
each_once [] = []
each_once (x ∷ xs) = x ∷ filter (λ y. not (nat_eq x y)) (each_once xs)

-- a class, and the interfaces that it names itself
abbrev pub brought_by : List GType → ℕ → List ℕ
brought_by types class = class ∷ implemented_by types class

-- the types whose signals a type has: from the root down, each class and then the interfaces that it is the first to name
unfoldable pub sources_of : List GType → ℕ → List ℕ
sources_of types t = each_once (flat_map (brought_by types) (reverse (lineage types t)))

-- the signals that a type has by declarations
unfoldable pub declared_of : List GType → List (List Signal) → ℕ → List Signal
declared_of types signals t = flat_map (own_of signals) (sources_of types t)

-- all its signals; number 0 is `notify`
abbrev pub signals_of : List GType → List (List Signal) → ℕ → List Signal
signals_of types signals t = notify ∷ declared_of types signals t

-- the number of a name, in either spelling
abbrev pub number_named : List Signal → List ℕ → Option ℕ
number_named signals name = place_named (λ s. s.name) signals (canonical name)

-- ** in the order of the walk

-- the type so far above a type
abbrev pub ancestor_of : List GType → (t height : ℕ) → Option ℕ
ancestor_of types t zero = Some t
ancestor_of types t (suc height) = option_and_then (parent_of types) (ancestor_of types t height)

-- what the ancestors of a type bring
abbrev pub brought_above : List GType → ℕ → List ℕ
brought_above types t = flat_map (brought_by types) (reverse (line_from (length types) types (parent_of types t)))

-- and as much more as the first of what the type brings itself
abbrev pub brought_until : List GType → (t count : ℕ) → List ℕ
brought_until types t count = brought_above types t ++ take count (brought_by types t)

-- the signals of these
unfoldable pub declared_until : List GType → List (List Signal) → (t count : ℕ) → List Signal
declared_until types signals t count = flat_map (own_of signals) (each_once (brought_until types t count))

-- what a type brings at a place
abbrev pub brought_at : List GType → (t place : ℕ) → ℕ
brought_at types t place = get_or (brought_by types t) place 0

-- whether that came before
abbrev pub came_before : List GType → (t place : ℕ) → Bool
came_before types t place = list_any (nat_eq (brought_at types t place)) (brought_until types t place)

-- the signals that come with it
unfoldable pub added_at : List GType → List (List Signal) → (t place : ℕ) → List Signal
added_at types signals t place = cond (came_before types t place) [] (own_of signals (brought_at types t place))

-- each type that is among some has a mark under its number, and the others have none
abbrev pub AreMarked : List Bool → List ℕ → Type 0
AreMarked marks brought = (u : ℕ) → u < length marks → get_or marks u false ≡ list_any (nat_eq u) brought
