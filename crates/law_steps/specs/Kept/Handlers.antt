-- Handlers that are disconnected, blocked and unblocked, wherever the objects that the others name keep their places.
use Rattle.std.specs.Prelude.{◌≡◌, ℕ, Bool, true, List, map, Some}
use Rattle.std.specs.List.{filter}
use Rattle.ui_machine.specs.Definition.{Definition}
use Rattle.ui_machine.specs.State.Handlers.{Handler, handler_of}
use Rattle.ui_machine.specs.State.Tasks.{Task}
use Rattle.law_typing.specs.Graph.Tables.{Tables}
use Rattle.law_typing.specs.Good.Standing.{Standing}
use Rattle.law_typing.specs.Good.Handlers.{HandlersGood}
use Rattle.law_steps.specs.Kept.Agenda.{Stays}

-- no identity has a place that had none
abbrev pub NoMore : Standing → Standing → Type 0
NoMore s z = (id place : ℕ) → z id ≡ Some place → s id ≡ Some place

-- those that are left stay good, where what they name keeps its place
abbrev pub HandlersLeft : Type 0
HandlersLeft =
    (d : Definition) (costs depths : Tables) (s z : Standing) (agenda : List Task) (last : ℕ) (hs : List Handler) (test : Handler → Bool) →
    NoMore s z → ((h : Handler) → test h ≡ true → Stays s z h.object × ((id : ℕ) → h.arg ≡ Some id → Stays s z id)) →
    HandlersGood d costs depths s agenda last hs → HandlersGood d costs depths z agenda last (filter test hs)

-- a change of how often handlers are blocked, and of nothing else
pub record OnlyBlocks (change : Handler → Handler) : Type 0 where
  pub number : (h : Handler) → (change h).number ≡ h.number
  pub object : (h : Handler) → (change h).object ≡ h.object
  pub signal : (h : Handler) → (change h).signal ≡ h.signal
  pub detail : (h : Handler) → (change h).detail ≡ h.detail
  pub program : (h : Handler) → (change h).program ≡ h.program
  pub swapped : (h : Handler) → (change h).swapped ≡ h.swapped
  pub arg : (h : Handler) → (change h).arg ≡ h.arg
  pub by_code : (h : Handler) → (change h).by_code ≡ h.by_code

-- so changed they stay good, and under each number the same one is found
abbrev pub HandlersChanged : Type 0
HandlersChanged =
    (d : Definition) (costs depths : Tables) (s : Standing) (agenda : List Task) (last : ℕ) (hs : List Handler)
    (change : Handler → Handler) →
    OnlyBlocks change → HandlersGood d costs depths s agenda last hs → HandlersGood d costs depths s agenda last (map change hs)

-- among those that are left a number finds what it found, if it finds something
abbrev pub LeftAreFound : Type 0
LeftAreFound =
    (d : Definition) (costs depths : Tables) (s : Standing) (agenda : List Task) (last : ℕ) (hs : List Handler) (test : Handler → Bool) →
    HandlersGood d costs depths s agenda last hs → (number : ℕ) (h : Handler) → handler_of number (filter test hs) ≡ Some h →
    handler_of number hs ≡ Some h
