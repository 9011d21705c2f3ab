-- An agenda costs no more in a world where what it names keeps its place or is gone, and the same handlers are found, or none.
use Rattle.std.proofs.Common.{◌≡◌, inl, inr, ◌⊎◌, refl, sym, ap, ◌∙◌, ℕ, ◌+◌, ◌≤◌, List, [], ◌∷◌, Option, None, Some, arith}
use Rattle.ui_machine.specs.Seq.{total}
use Rattle.ui_machine.specs.Definition.{Definition}
use Rattle.ui_machine.specs.State.Handlers.{Handler, handler_of}
use Rattle.ui_machine.specs.State.Sources.{Source, source_of}
use Rattle.ui_machine.specs.State.Tasks.{Answering, Beginning, Building, Calling, Constructing, Due, Emission, Emitting, Handling, Notifying, PlanEntry, Running, Setting, Task, Thawing, Transferring, Unsetting, class_handler, handler}
use Rattle.ui_machine.specs.State.Tasks as config
use Rattle.law_typing.specs.Good.Agenda.{AgendaGood, TaskGood}
use Rattle.law_typing.specs.Good.ComingDown.{Down, down}
use Rattle.law_typing.specs.Good.Emissions.{TurnGood}
use Rattle.law_typing.specs.Good.Freezes.{is_due_source}
use Rattle.law_typing.specs.Good.Standing.{Standing, View}
use Rattle.law_typing.specs.Graph.Channels.{property, signal}
use Rattle.law_typing.specs.Graph.Tables.{Tables, entry}
use Rattle.law_typing.specs.Verdict.Accepted.{Each}
use Rattle.law_prices.specs.Asked as asked
use Rattle.law_prices.specs.Deeds.{PriceList}
use Rattle.law_prices.specs.Deeds as deeds
use Rattle.law_prices.specs.Potential.{Seen, agenda_price, construct_price, due_price, task_price, told_price, turn_price}
use Rattle.law_prices.specs.Prices.{answer_price, begun_price, late_price, price, price_of, put_price}

-- a program of a handler
abbrev pub handler_price : PriceList → Tables → Handler → ℕ
handler_price P t h = begun_price P t h.program

-- a world where an agenda costs no more
pub record Less (P : PriceList) (t : Tables) (last : ℕ) (agenda : List Task) (s z : Seen) : Type 0 where
  pub stands : (id place : ℕ) → s.stands id ≡ Some place → (z.stands id ≡ Some place) ⊎ (z.stands id ≡ None)
  pub handlers : (number : ℕ) → number ≤ last → price_of (handler_price P t) (handler_of number z.handlers) ≤ price_of (handler_price P t) (handler_of number s.handlers)
  pub sources : (total is_due_source agenda ≡ 0) ⊎ (z.sources ≡ s.sources)

module _ (d : Definition) (P : PriceList) (t : Tables) where
  -- what is priced at the place of an identity
  at_place : (f : ℕ → ℕ) (s z : Option ℕ) (place : ℕ) → s ≡ Some place → (z ≡ Some place) ⊎ (z ≡ None) → price_of f z ≤ price_of f s
  at_place f s z place is (inl e) = let x = ap (price_of f) (e ∙ sym is) in omega (arith, x)
  at_place f s z place is (inr e) = let x = ap (price_of f) e in omega (arith, x)

  -- and what is priced there by what is seen
  at_place_less : (f g : ℕ → ℕ) (s z : Option ℕ) (place : ℕ) → s ≡ Some place → (z ≡ Some place) ⊎ (z ≡ None) → ((place : ℕ) → f place ≤ g place) → price_of f z ≤ price_of g s
  at_place_less f g s z place is (inl e) less = let x = ap (price_of f) e in let y = ap (price_of g) is in let l = less place in omega (arith, x, y, l)
  at_place_less f g s z place is (inr e) less = let x = ap (price_of f) e in omega (arith, x)

  module _ (last : ℕ) (s z : Seen) where
    turns_less : (handlers : (number : ℕ) → number ≤ last → price_of (handler_price P t) (handler_of number z.handlers) ≤ price_of (handler_price P t) (handler_of number s.handlers)) →
        (v : View) → v.last_handler ≡ last → (e : Emission) (below : List Task) (place number : ℕ) (turns : List PlanEntry) → Each (TurnGood d v e) turns →
        total (turn_price d P t z below place number) turns ≤ total (turn_price d P t s below place number) turns
    turns_less handlers v same e below place number [] all = omega arith
    turns_less handlers v same e below place number (class_handler program cleanup ∷ turns) all =
        let h = turns_less handlers v same e below place number turns all.1 in omega (arith, h)
    turns_less handlers v same e below place number (handler n ∷ turns) all =
        let h = turns_less handlers v same e below place number turns all.1 in
        let low = all.0.0 in
        let x = handlers n (omega (arith, low, same)) in
        omega (arith, h, x)
    turns_less handlers v same e below place number (config.transfer n back ∷ turns) all =
        let h = turns_less handlers v same e below place number turns all.1 in omega (arith, h)

    task_less : (costs depths : Tables) (v : View) → v.stands ≡ s.stands → v.last_handler ≡ last → (up : Down) (below : List Task) (task : Task) (steps frames : ℕ) →
        Less P t last (task ∷ below) s z → TaskGood d costs depths v up below task steps frames → task_price d P t z below task ≤ task_price d P t s below task
    task_less costs depths v same number up below (Setting id slot x) steps frames less good =
        let is = ap (λ (s : Standing). s id) (sym same) ∙ good.1.due.is in
        at_place (λ place. put_price d P (property place slot) + due_price d P t below (property place slot)) (s.stands id) (z.stands id) good.1.due.place is (less.stands id good.1.due.place is)
    task_less costs depths v same number up below (Notifying id slot) steps frames less good =
        let is = ap (λ (s : Standing). s id) (sym same) ∙ good.1.due.is in
        at_place (λ place. due_price d P t below (property place slot)) (s.stands id) (z.stands id) good.1.due.place is (less.stands id good.1.due.place is)
    task_less costs depths v same number up below (Beginning e) steps frames less good =
        let is = ap (λ (s : Standing). s e.object) (sym same) ∙ good.1.fits.is in
        at_place (λ place. entry t.channels (signal place e.signal) + told_price P e place) (s.stands e.object) (z.stands e.object) good.1.fits.place is (less.stands e.object good.1.fits.place is)
    task_less costs depths v same number up below (Emitting e turns) steps frames less good =
        let is = ap (λ (s : Standing). s e.object) (sym same) ∙ good.fits.is in
        at_place_less (λ place. total (turn_price d P t z below place e.signal) turns + (P (deeds.end place e.signal) + told_price P e place))
        (λ place. total (turn_price d P t s below place e.signal) turns + (P (deeds.end place e.signal) + told_price P e place)) (s.stands e.object) (z.stands e.object) good.fits.place is (less.stands e.object good.fits.place is)
        (λ place. (let h = turns_less less.handlers v number e below place e.signal turns good.turns_fit in omega (arith, h)))
    task_less costs depths v same number up below (Transferring n back) steps frames less good = omega arith
    task_less costs depths v same number up below (Unsetting n) steps frames less good = omega arith
    task_less costs depths v same number up below (Thawing id []) steps frames less good =
        let x = nothing (s.stands id) in let y = nothing (z.stands id) in omega (arith, x, y)
      where
        nothing : (o : Option ℕ) → price_of (λ (place : ℕ). 0) o ≡ 0
        nothing None = refl
        nothing (Some place) = refl
    task_less costs depths v same number up below (Thawing id (slot ∷ slots)) steps frames less good =
        let is = ap (λ (s : Standing). s id) (sym same) ∙ good.1.1 in
        let h = at_place (λ place. total (λ slot. late_price d P (property place slot) + due_price d P t below (property place slot)) (slot ∷ slots)) (s.stands id) (z.stands id) good.1.0 is (less.stands id good.1.0 is) in
        omega (arith, h)
    task_less costs depths v same number up below (Running frame) steps frames less good = omega arith
    task_less costs depths v same number up below (Answering n) steps frames less good = omega arith
    task_less costs depths v same number up below (Calling call) steps frames less good =
        let lives = good.1.lives in
        let is = ap (λ (s : Standing). s call.object) (sym same) ∙ lives.is in
        at_place (λ place. answer_price d P place call.method) (s.stands call.object) (z.stands call.object) lives.place is (less.stands call.object lives.place is)
    task_less costs depths v same number up below (Constructing id steps held) most frames less good =
        let is = ap (λ (s : Standing). s id) (sym same) ∙ good.1.is in
        at_place (λ place. total (construct_price d P t place) steps + P (deeds.construct place)) (s.stands id) (z.stands id) good.1.place is (less.stands id good.1.place is)
    task_less costs depths v same number up below (Building items) steps frames less good = omega arith
    task_less costs depths v same number up below (Handling request) steps frames less good = omega arith
    task_less costs depths v same number up below (Due n) steps frames less good = go less.sources
      where
        go : (total is_due_source (Due n ∷ below) ≡ 0) ⊎ (z.sources ≡ s.sources) → task_price d P t z below (Due n) ≤ task_price d P t s below (Due n)
        go (inl e) = absurd (omega (arith, e))
        go (inr e) = let x = ap (λ (xs : List Source). price_of (λ (s : Source). price d P t (asked.source s.program)) (source_of n xs)) e in omega (arith, x)

    less_below : (task : Task) (below : List Task) → Less P t last (task ∷ below) s z → Less P t last below s z
    less_below task below less = record { stands = less.stands; handlers = less.handlers; sources = go less.sources }
      where
        go : (total is_due_source (task ∷ below) ≡ 0) ⊎ (z.sources ≡ s.sources) → (total is_due_source below ≡ 0) ⊎ (z.sources ≡ s.sources)
        go (inl e) = inl (omega (arith, e))
        go (inr e) = inr e

    pub agenda_less : (costs depths : Tables) (v : View) → v.stands ≡ s.stands → v.last_handler ≡ last → (most : ℕ) (up : Down) (agenda : List Task) (budget : ℕ) → Less P t last agenda s z →
        AgendaGood d costs depths v most up agenda budget → agenda_price d P t z agenda ≤ agenda_price d P t s agenda
    agenda_less costs depths v same number most up [] budget less good = omega arith
    agenda_less costs depths v same number most up (task ∷ below) budget less good =
        let first = task_less costs depths v same number up below task good.0 good.1 less good.3 in
        let later = agenda_less costs depths v same number most (down d v task) below good.2 (less_below task below less) good.6 in
        omega (arith, first, later)
