-- A handler that bytecode connects.
use Rattle.std.specs.Prelude.{◌≡◌, ℕ, suc, ◌<◌, true, List, [], ◌∷◌, ◌++◌, length, Some}
use Rattle.std.specs.List.{filter}
use Rattle.ui_machine.specs.Definition.{Definition}
use Rattle.ui_machine.specs.State.Handlers.{Handler}
use Rattle.ui_machine.specs.State.Tasks.{Task}
use Rattle.law_typing.specs.Graph.{Raised, graph, place_of_channel}
use Rattle.law_typing.specs.Graph.Tables.{Tables}
use Rattle.law_typing.specs.Laws.{IsIn}
use Rattle.law_typing.specs.Good.Standing.{Standing}
use Rattle.law_typing.specs.Good.Handlers.{HandlerGood, runs_at, is_connected, HandlersGood}

-- it has the next number, names what lives, finds room, and its program is connectable at each channel for which it runs
pub record MayConnect (d : Definition) (s : Standing) (last : ℕ) (hs : List Handler) (h : Handler) : Type 0 where
  pub number : h.number ≡ suc last
  pub by_code : h.by_code ≡ true
  pub good : HandlerGood d s h
  pub room : length (filter (is_connected h.object h.signal) hs) < d.most_handlers
  pub connectable : (place : ℕ) → s h.object ≡ Some place → (r : Raised) → IsIn r (graph d).raised → place_of_channel r.channel ≡ place →
      runs_at d h r.channel ≡ true → IsIn h.program r.connectable

-- then the handlers with it are good
abbrev pub HandlerConnects : Type 0
HandlerConnects =
    (d : Definition) (costs depths : Tables) (s : Standing) (agenda : List Task) (last : ℕ) (hs : List Handler) (h : Handler) →
    MayConnect d s last hs h → HandlersGood d costs depths s agenda last hs → HandlersGood d costs depths s agenda (suc last) (hs ++ h ∷ [])
