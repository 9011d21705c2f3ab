-- What a price list says of the dispatches of an accepted definition.
use Rattle.std.specs.Prelude.{◌≡◌, ⊤, ◌⊎◌, ℕ, zero, suc, ◌+◌, ◌<◌, ◌≤◌, List, length}
use Rattle.ui_machine.specs.Definition.{Definition}
use Rattle.ui_machine.specs.Runs.{Fits, HasEnded, Steps}
use Rattle.ui_machine.specs.State.Config.{Config}
use Rattle.ui_machine.specs.State.Peers.{Peer, Reply}
use Rattle.ui_machine.specs.State.Tasks.{Event}
use Rattle.law_typing.specs.Graph.Tables.{Tables}
use Rattle.law_typing.specs.Laws.{IsIn}
use Rattle.law_typing.specs.Laws.StepsKeepGood.{PoolReady}
use Rattle.law_typing.specs.Laws.WellRead.{WellRead}
use Rattle.law_typing.specs.Verdict.Accepted.{Accepted, Each}
use Rattle.law_steps.specs.Served.Sessions.{Dispatch, EventRead, beginning_of, building, serving, turning}
use Rattle.law_prices.specs.Asked.{Asked, asked_by}
use Rattle.law_prices.specs.Asked as asked
use Rattle.law_prices.specs.Deeds.{Deed, PriceList}
use Rattle.law_prices.specs.Deeds as deeds
use Rattle.law_prices.specs.Lists.{any_call, lines, objects, steps}
use Rattle.law_prices.specs.Prices.{SolvesPrices, price_bound}
use Rattle.law_prices.specs.Steps.{step_deeds, step_price}

-- what some steps cost
abbrev pub steps_price : (d : Definition) → PriceList → (n : ℕ) (replies : List Reply) (c e : Config) → Steps d n replies c e → ℕ
steps_price d P zero replies c e s = 0
steps_price d P (suc n) replies c e s = step_price d P c + steps_price d P n s.later s.mid e s.follows

-- what a dispatch of a run is asked for
abbrev pub asked_for : {d : Definition} {peers : List Peer} {events : List Event} → Dispatch d peers events → Asked
asked_for building = asked.build
asked_for (serving r w serves) = asked_by r
asked_for (turning moment w serves number v s runs) = asked.source s.program

-- Q holds of each list of steps from the beginning of each dispatch of each run of an accepted definition, where all replies fit
abbrev pub OfDispatches : ((d : Definition) (e : Asked) (n : ℕ) (replies : List Reply) (c at : Config) → Steps d n replies c at → Type 0) → Type 0
OfDispatches Q =
    (d : Definition) → WellRead d → Accepted d → (peers : List Peer) → PoolReady d peers → (events : List Event) →
    Each (EventRead d) events → (x : Dispatch d peers events) → (replies : List Reply) → Each (Fits d) replies → (n : ℕ) (at : Config)
    (s : Steps d n replies (beginning_of x) at) → Q d (asked_for x) n replies (beginning_of x) at s

-- By any price list a dispatch costs no more than its bound: its steps so far, and its end.
abbrev pub DispatchesPay : Type 0
DispatchesPay =
    OfDispatches
    (λ d e n replies c at s. (P : PriceList) (t : Tables) → SolvesPrices d P t →
    steps_price d P n replies c at s + P deeds.finish ≤ price_bound d P t e)

-- ** what never happens

-- one of some steps does this
abbrev pub Happens : (d : Definition) → Deed → (n : ℕ) (replies : List Reply) (c e : Config) → Steps d n replies c e → Type 0
Happens d deed zero replies c e s = ⊥
Happens d deed (suc n) replies c e s = IsIn deed (step_deeds d c) ⊎ Happens d deed n s.later s.mid e s.follows

-- what has a price never happens where the bound is 0
abbrev pub FreeIsNever : Type 0
FreeIsNever =
    OfDispatches
    (λ d e n replies c at s. (P : PriceList) (t : Tables) → SolvesPrices d P t → price_bound d P t e ≡ 0 → (deed : Deed) → 0 < P deed →
    Happens d deed n replies c at s → ⊥)

-- ** steps in all

-- none of the configurations from which these steps are taken has ended
abbrev pub NoneHasEnded : (d : Definition) (n : ℕ) (replies : List Reply) (c e : Config) → Steps d n replies c e → Type 0
NoneHasEnded d zero replies c e s = ⊤
NoneHasEnded d (suc n) replies c e s = (HasEnded d c → ⊥) × NoneHasEnded d n s.later s.mid e s.follows

-- until it has ended a dispatch takes no more steps, counted or not, than its bound by the list of all steps says, its end among them
abbrev pub StepsAreFew : Type 0
StepsAreFew =
    OfDispatches
    (λ d e n replies c at s. NoneHasEnded d n replies c at s → (t : Tables) → SolvesPrices d steps t → suc n ≤ price_bound d steps t e)

-- ** peers

-- its peers are asked no more often than its bound by the list of all calls says
abbrev pub RepliesAreFew : Type 0
RepliesAreFew =
    OfDispatches (λ d e n replies c at s. (t : Tables) → SolvesPrices d any_call t → length replies ≤ price_bound d any_call t e)

-- ** lines

-- the transcript grows by no more lines than the bound by the list of lines says, the line of the end among them
abbrev pub LinesAreFew : Type 0
LinesAreFew =
    OfDispatches
    (λ d e n replies c at s. (t : Tables) → SolvesPrices d (lines d) t →
    suc (length at.world.transcript) ≤ length c.world.transcript + price_bound d (lines d) t e)

-- ** objects

-- no more objects are made than the bound by the list of objects says
abbrev pub ObjectsAreFew : Type 0
ObjectsAreFew =
    OfDispatches
    (λ d e n replies c at s. (t : Tables) → SolvesPrices d objects t →
    length at.world.objects ≤ length c.world.objects + price_bound d objects t e)
