-- When a turn has something to run.
use Rattle.std.specs.Prelude.{◌≡◌, ℕ, ◌<◌, ◌≤◌, ◌^◌, Bool, true, false, nat_le, ⊤}
use Rattle.std.specs.List.{list_any}
use Rattle.ui_machine.specs.Rules.MainLoop.{is_ready}
use Rattle.ui_machine.specs.State.Config.{World}
use Rattle.ui_engine.specs.declared.next_due.NextDue.{NextDue}
use Rattle.ui_engine.specs.declared.next_due.NextDue.TheVariants as due

-- whether a turn of a moment runs something
abbrev pub is_due : NextDue → ℕ → Bool
is_due due.Now moment = true
is_due (due.At first) moment = nat_le first moment
is_due due.Never moment = false

-- a moment that is named is after this one
abbrev pub IsAfter : ℕ → NextDue → Type 0
IsAfter latest due.Now = ⊤
IsAfter latest (due.At first) = latest < first
IsAfter latest due.Never = ⊤

-- at each moment from the latest one on, some source of a world is ready just where it says so; a moment that it names is still to come
pub record IsNextDue (w : World) (next : NextDue) : Type 0 where
  pub due : (moment : ℕ) → w.moment ≤ moment → moment < 2 ^ 64 → list_any (is_ready moment) w.sources ≡ is_due next moment
  pub later : IsAfter w.moment next
