-- What is promised of a dispatch of an accepted definition.
use Rattle.std.specs.Prelude.{◌⊎◌, ◌≡◌, ℕ, ◌≤◌, ⊤, List, IfSome}
use Rattle.ui_machine.specs.declared.arm.Arm.{Arm}
use Rattle.ui_machine.specs.declared.arm.Halt.{Halt}
use Rattle.ui_machine.specs.declared.arm.Halt.TheVariants as halts
use Rattle.ui_machine.specs.Definition.{Definition}
use Rattle.ui_machine.specs.State.Peers.{Reply}
use Rattle.ui_machine.specs.State.Config.{World, Config}
use Rattle.ui_machine.specs.Runs.{Fits, Reaches, Dispatches, IsStuck, HaltsAt, Halts}
use Rattle.law_typing.specs.Graph.Channels.{Entry}
use Rattle.law_typing.specs.Graph.{graph}
use Rattle.law_typing.specs.Graph.Depths.{depth}
use Rattle.law_typing.specs.Verdict.{told}
use Rattle.law_typing.specs.Verdict.Accepted.{Each, Accepted}
use Rattle.law_typing.specs.Good.Agenda.{frames}
use Rattle.law_typing.specs.Laws.{IsIn}
use Rattle.law_typing.specs.Laws.StepsKeepGood.{IsResting, bound_of}
use Rattle.law_steps.specs.Served.Replies.{GoesOn}
use Rattle.law_steps.specs.Served.Endings.{ComesToEnd}

-- no arm stops the next step, whatever reply that fits it takes
abbrev pub IsUnstuck : Definition → Config → Type 0
IsUnstuck d c = (arm : Arm) (stuck : IsStuck d c arm) → IfSome stuck.reply (Fits d) → ⊥

-- P holds of each configuration that the dispatch from this one comes to, where all replies fit
abbrev pub Throughout : Definition → Config → (Config → Type 0) → Type 0
Throughout d c P = (replies : List Reply) → Each (Fits d) replies → (at : Config) → Reaches d replies c at → P at

-- the reply that a stuck step takes, if it takes one, fits
abbrev pub LastFits : (d : Definition) (c : Config) (halt : Halt) → HaltsAt d c halt → Type 0
LastFits d c halts.OutOfMemory stops = ⊤
LastFits d c (halts.Stuck arm) stops = IfSome stops.reply (Fits d)

-- a dispatch that begins at this configuration, by this entry, keeps what is promised
pub record Keeps (d : Definition) (a : Accepted d) (e : Entry) (c : Config) : Type 0 where
  -- it is never stuck, and a next step is always there
  pub never_stuck : Throughout d c (IsUnstuck d)
  pub goes_on : Throughout d c (GoesOn d)
  -- so it halts nowhere but where no memory is found
  pub halts : (replies : List Reply) → Each (Fits d) replies → (halt : Halt) (shown : List (List ℕ)) →
      (h : Halts d replies c halt shown) → LastFits d h.at halt h.stops → halt ≡ halts.OutOfMemory
  -- it never has counted more steps than the bound of its entry, and never has more frames than the depth
  pub counted : Throughout d c (λ at. at.counted ≤ bound_of d a e)
  pub shallow : Throughout d c (λ at. frames at.agenda ≤ depth (graph d) a.weighed.depths)
  -- it comes to its end, whatever its peers reply
  pub comes_to_end : ComesToEnd d c
  -- there its `end` line says no more steps than the bound, and it leaves the world at rest
  pub ends : (replies : List Reply) → Each (Fits d) replies → (count : ℕ) (new : World) → Dispatches d replies c count new →
      (count ≤ bound_of d a e) × IsResting d a new
  -- the bound is that of a line of the report; where the report has none for the entry, it is the limit of objects
  pub printed : IsIn e (told (graph d)) ⊎ (bound_of d a e ≡ d.most_objects)
