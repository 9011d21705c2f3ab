-- Tables of starts.
use Rattle.std.specs.Prelude.{◌≡◌, ◌++◌, ℕ, List, map, Some, slice_get}
use Rattle.std.specs.BTreeMap.{get}
use Rattle.ui_machine.specs.Definition.{Definition}
use Rattle.law_typing.specs.Graph.Channels.{Channel}
use Rattle.verify_sketches.specs.Sketches.{SketchedStart, nothing}
use Rattle.verify_sketches.specs.View.{start_view}
use Rattle.verify_graph.specs.Numbering.{Key, compared}
use Rattle.verify_starts.specs.Triggers.{Trigger, key_for, start_for}
use Rattle.verify_starts.specs.declared.sketched_starts.SketchedStarts.{SketchedStarts}

-- the starts of a table
abbrev pub starts_in : SketchedStarts → List SketchedStart
starts_in s = map start_view s.starts.items

-- a start is what some trigger may start
abbrev pub IsOfSome : Definition → List Channel → SketchedStart → Type 0
IsOfSome d all k = (t : Trigger) × (k ≡ start_for d all t)

-- each of some starts is
abbrev pub AreOfSome : Definition → List Channel → List SketchedStart → Type 0
AreOfSome d all starts = (n : ℕ) (k : SketchedStart) → slice_get starts n ≡ Some k → IsOfSome d all k

-- The first is that of triggers that start nothing, each is what some trigger may start, and each number that is kept for a key is that of what
-- the triggers with the key start.
pub record IsTable (d : Definition) (all : List Channel) (s : SketchedStarts) : Type 0 where
  pub first : slice_get (starts_in s) 0 ≡ Some nothing
  pub each : AreOfSome d all (starts_in s)
  pub kept : (t : Trigger) (k : Key) (n : ℕ) → key_for d t ≡ Some k → get compared s.numbers k ≡ Some n → slice_get (starts_in s) n ≡ Some (start_for d all t)

-- a table has all starts of another at their places, and maybe more
abbrev pub Extends : (old new : List SketchedStart) → Type 0
Extends old new = (more : List SketchedStart) × (new ≡ old ++ more)

-- a table goes on, and is one still
pub record GoesOn (d : Definition) (all : List Channel) (old new : SketchedStarts) : Type 0 where
  pub more : Extends (starts_in old) (starts_in new)
  pub table : IsTable d all new
