-- The objects that a dispatch makes, by their places.
use Rattle.std.specs.Prelude.{ℕ, zero, suc, ◌+◌, cond, nat_eq, List, drop, length, Option, None, Some}
use Rattle.ui_machine.specs.Seq.{total}
use Rattle.ui_machine.specs.Definition.{Definition}
use Rattle.ui_machine.specs.Runs.{Steps}
use Rattle.ui_machine.specs.State.Config.{Config}
use Rattle.ui_machine.specs.State.Objects.{Object, Objects}
use Rattle.ui_machine.specs.State.Peers.{Reply}
use Rattle.law_prices.specs.Bounds.{Within}
use Rattle.law_prices.specs.Dispatches.{OfDispatches}
use Rattle.law_prices.specs.Lists.{objects_at}

-- 1 where an object lives and is of the place
abbrev pub of_place : ℕ → Option Object → ℕ
of_place place None = 0
of_place place (Some o) = cond (nat_eq o.place place) 1 0

-- how many objects of the place are new: their identities come after all that there were before
abbrev pub new_of_place : ℕ → (before after : Objects) → ℕ
new_of_place place before after = total (of_place place) (drop (length before) after)

-- how many of them some steps make
abbrev pub made_of_place : (place : ℕ) (d : Definition) (n : ℕ) (replies : List Reply) (c e : Config) → Steps d n replies c e → ℕ
made_of_place place d zero replies c e s = 0
made_of_place place d (suc n) replies c e s =
    new_of_place place c.world.objects s.mid.world.objects + made_of_place place d n s.later s.mid e s.follows

-- a dispatch makes no more objects of a place than its bound by the list of these says
abbrev pub PlacesAreWithin : Type 0
PlacesAreWithin =
    OfDispatches (λ d e n replies c at s. (place : ℕ) → Within d (objects_at place) e (made_of_place place d n replies c at s))
