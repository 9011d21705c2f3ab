-- A signal of the definition that the build connects: what was reckoned for the item is the new handler's.
use Rattle.std.specs.Prelude.{◌≡◌, ℕ, suc, ◌≤◌, true, false, List, [], ◌∷◌, ◌++◌, Some}
use Rattle.ui_machine.specs.Seq.{total}
use Rattle.ui_machine.specs.Definition.{Definition}
use Rattle.ui_machine.specs.State.Handlers.{Handler}
use Rattle.ui_machine.specs.State.Tasks.{Item, connects, Task, Building}
use Rattle.ui_machine.specs.Rules.Build.{of_items}
use Rattle.law_typing.specs.Graph.{Raised, graph, place_of_channel}
use Rattle.law_typing.specs.Graph.Tables.{Tables, of_program}
use Rattle.law_typing.specs.Laws.{IsIn}
use Rattle.law_typing.specs.Good.Standing.{Standing}
use Rattle.law_typing.specs.Good.Handlers.{HandlerGood, runs_at, connecting_cost, HandlersGood}

-- it has the next number, names what lives, and where it runs its program is paid for by the item and among the channel's handlers
pub record MayAttach (d : Definition) (costs : Tables) (s : Standing) (last place number : ℕ) (h : Handler) : Type 0 where
  pub next : h.number ≡ suc last
  pub by_definition : h.by_code ≡ false
  pub good : HandlerGood d s h
  pub at : s h.object ≡ Some place
  pub paid : (r : Raised) → IsIn r (graph d).raised → place_of_channel r.channel ≡ place → runs_at d h r.channel ≡ true →
      (of_program costs h.program ≤ connecting_cost d costs r.channel (connects place number)) × IsIn h.program r.handlers

-- then the handlers with it are good where the item is done
abbrev pub HandlerAttaches : Type 0
HandlerAttaches =
    (d : Definition) (costs depths : Tables) (s : Standing) (items : List Item) (rest : List Task) (last place number : ℕ)
    (hs : List Handler) (h : Handler) → MayAttach d costs s last place number h →
    HandlersGood d costs depths s (Building (connects place number ∷ items) ∷ rest) last hs →
    HandlersGood d costs depths s (Building items ∷ rest) (suc last) (hs ++ h ∷ [])

-- and without it they are good where less is to be connected
abbrev pub HandlersWaitLess : Type 0
HandlersWaitLess =
    (d : Definition) (costs depths : Tables) (s : Standing) (a b : List Task) (last : ℕ) (hs : List Handler) →
    ((f : Item → ℕ) → total (of_items f) b ≤ total (of_items f) a) → HandlersGood d costs depths s a last hs →
    HandlersGood d costs depths s b last hs
