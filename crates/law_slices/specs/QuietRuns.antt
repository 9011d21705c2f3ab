-- Runs of uncounted steps, and how many steps there are at most where each such run is short.
use Rattle.std.specs.Prelude.{◌≡◌, ◌⊎◌, ℕ, suc, ◌+◌, ◌*◌, ◌<◌, ◌≤◌, List, ◌++◌, Option, Ok}
use Rattle.ui_machine.specs.Definition.{Definition}
use Rattle.ui_machine.specs.Runs.{Steps}
use Rattle.ui_machine.specs.State.Config.{Config}
use Rattle.ui_machine.specs.State.Peers.{Reply}
use Rattle.ui_machine.specs.Steps.{step}

-- each step of the machine is uncounted, or counts one
abbrev pub CountsRiseByOne : Type 0
CountsRiseByOne =
    (d : Definition) (reply : Option Reply) (c e : Config) → step d reply c ≡ Ok e →
    (e.counted ≡ c.counted) ⊎ (e.counted ≡ suc c.counted)

-- so many of some steps, one after the other, that leave the count as it was: a run of uncounted steps
pub record QuietRun (d : Definition) (n : ℕ) (replies : List Reply) (c e : Config) (length : ℕ) : Type 0 where
  pub before : ℕ
  pub after : ℕ
  pub is : n ≡ before + (length + after)
  pub early : List Reply
  pub during : List Reply
  pub late : List Reply
  pub replied : replies ≡ early ++ (during ++ late)
  pub from : Config
  pub to : Config
  pub comes : Steps d before early c from
  pub goes : Steps d length during from to
  pub ends : Steps d after late to e
  pub quiet : to.counted ≡ from.counted

-- each run of uncounted steps among some steps has at most so many
abbrev pub QuietWithin : (most : ℕ) → Definition → (n : ℕ) → List Reply → (c e : Config) → Type 0
QuietWithin most d n replies c e = (length : ℕ) → QuietRun d n replies c e length → length ≤ most

-- Of any steps of the machine at most k are counted, and each run of uncounted ones has at most so many. Then there are fewer of them than
-- k + 1 times one more than that.
abbrev pub QuietRunsBound : Type 0
QuietRunsBound =
    (d : Definition) (n : ℕ) (replies : List Reply) (c e : Config) → Steps d n replies c e → (k : ℕ) → e.counted ≤ c.counted + k →
    (most : ℕ) → QuietWithin most d n replies c e → n < (k + 1) * (most + 1)
