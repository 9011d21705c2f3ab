-- Bindings and sources that are there, and what the builder holds.
use Rattle.std.specs.Prelude.{⊤, ◌≡◌, ℕ, ◌+◌, ◌<◌, true, cond, List, length, Some, slice_get}
use Rattle.ui_machine.specs.Seq.{read, total}
use Rattle.ui_machine.specs.Definition.Kinds as kinds
use Rattle.ui_machine.specs.Definition.{Definition}
use Rattle.ui_machine.specs.Definition.Places.{Bind}
use Rattle.ui_machine.specs.Definition.Lookups.{program_at}
use Rattle.ui_machine.specs.State.Bindings.{Binding}
use Rattle.ui_machine.specs.State.Sources.{Source}
use Rattle.ui_machine.specs.State.Config.{BuilderEntry, unbuilt, built}
use Rattle.ui_machine.specs.State.Tasks.{Item, binds, Task}
use Rattle.ui_machine.specs.Rules.Build.{of_items}
use Rattle.law_typing.specs.Rules.Signatures.{is_taken_by, data_kinds}
use Rattle.law_typing.specs.Graph.{graph}
use Rattle.law_typing.specs.Verdict.Accepted.{Each}
use Rattle.law_typing.specs.Laws.{IsIn}
use Rattle.law_typing.specs.Laws.WellRead.{objects_of}
use Rattle.law_typing.specs.Good.Standing.{Standing, LivesIf, Rising}
use Rattle.law_typing.specs.Good.DueCosts.{unsets}
use Rattle.law_typing.specs.Good.Handlers.{data_kind}

-- a binding that is there: it is the definition's of that number, and called so, its ends live at their places, and it is setting just
-- while it is to be set free
pub record BindingGood (d : Definition) (s : Standing) (agenda : List Task) (b : Binding) : Type 0 where
  pub bind : Bind
  pub is : slice_get d.bindings b.number ≡ Some bind
  pub name : b.name ≡ bind.name
  pub slots : (b.source_slot ≡ bind.source_slot) × (b.target_slot ≡ bind.target_slot) × (b.flags ≡ bind.flags)
  pub source : s b.source ≡ Some bind.source
  pub target : s b.target ≡ Some bind.target
  pub setting : total (unsets b.number) agenda ≡ cond b.busy 1 0

-- 1 where an item makes a binding
abbrev pub is_binding : Item → ℕ
is_binding (binds number) = 1
is_binding item = 0

-- the bindings of a world
pub record BindingsGood (d : Definition) (s : Standing) (agenda : List Task) (bs : List Binding) : Type 0 where
  -- each is the definition's, between two objects of its places
  pub each : Each (BindingGood d s agenda) bs
  -- their numbers rise
  pub rising : Rising (λ (b : Binding). b.number) 0 bs
  -- and are below the number of those that the build has made
  pub made : Each (λ (b : Binding). b.number + total (of_items is_binding) agenda < length d.bindings) bs

-- a source: its data lives, and its program takes it, says whether the source stays, and is one of those that the report lists
pub record SourceGood (d : Definition) (s : Standing) (source : Source) : Type 0 where
  pub arg : LivesIf s source.arg
  pub takes : is_taken_by d (program_at d source.program) (data_kinds (data_kind s source.arg)) (Some kinds.bool) ≡ true
  pub told : IsIn source.program (graph d).sources

-- what the builder holds of a place lives there
abbrev pub HeldGood : Standing → List BuilderEntry → Type 0
HeldGood s builder = (place id : ℕ) → read unbuilt builder place ≡ built id → s id ≡ Some place

-- what the builder has of a place is built or released
abbrev pub IsBuilt : BuilderEntry → Type 0
IsBuilt unbuilt = ⊥
IsBuilt held = ⊤

-- each place of the document is built or released
pub record DocumentGood (d : Definition) (builder : List BuilderEntry) : Type 0 where
  pub all : length builder ≡ objects_of d
  pub each : Each IsBuilt builder
