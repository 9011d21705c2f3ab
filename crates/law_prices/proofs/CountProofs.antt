-- What follows of it: what has a price never happens where the bound is 0; steps in all; and how often peers are asked.
use Rattle.std.proofs.Common.{◌≡◌, inl, inr, refl, sym, ap, subst, ◌∙◌, ℕ, zero, suc, ◌+◌, ◌≤◌, List, [], ◌∷◌, ◌++◌, length, Option, None, Some, Ok, slice_get, arith}
use Rattle.std.specs.Prelude.{nat_lt, option_map}
use Rattle.ui_machine.specs.declared.arm.Arm.TheVariants as arms
use Rattle.ui_machine.specs.Seq.{total}
use Rattle.ui_machine.specs.Definition.{Definition}
use Rattle.ui_machine.specs.Instructions.{running}
use Rattle.ui_machine.specs.Instructions.Jumps.{block_in, in_pass}
use Rattle.ui_machine.specs.Outcome.{known}
use Rattle.ui_machine.specs.Rules.Construction.{nearest_shape}
use Rattle.ui_machine.specs.Runs.{Fits, HasEnded, Steps, listed, question_in}
use Rattle.ui_machine.specs.State.Config.{Config, Left, World}
use Rattle.ui_machine.specs.State.Objects.{Object, class_in, living}
use Rattle.ui_machine.specs.State.Peers.{Reply}
use Rattle.ui_machine.specs.State.References.{mentions, next_unheld}
use Rattle.ui_machine.specs.State.Sources.{Source, source_of}
use Rattle.ui_machine.specs.State.Tasks.{Answering, Beginning, Building, Call, Calling, Constructing, Due, Emitting, Frame, Handling, Item, Notifying, Running, Setting, Task, Thawing, Transferring, Unsetting, adopts, binds, class_handler, connects, forwards, handler, makes, runs, sets, thaws}
use Rattle.ui_machine.specs.State.Tasks as config
use Rattle.ui_machine.specs.Steps.{act, asked_after, asked_first, first_of, left, most_steps, question, step}
use Rattle.law_typing.specs.Good.Standing.{Lives, standing}
use Rattle.law_typing.specs.Graph.Tables.{Tables}
use Rattle.law_typing.specs.Laws.{IsIn}
use Rattle.law_typing.specs.Laws.StepsKeepGood.{IsGood}
use Rattle.law_typing.specs.Laws.WellRead.{WellRead}
use Rattle.law_typing.specs.Verdict.Accepted.{Accepted, Each}
use Rattle.law_steps.specs.Tasked.First.{at_first}
use Rattle.law_steps.specs.Served.Sessions.{beginning_of}
use Rattle.law_steps.proofs.Instructed.Inverse.{bound, known_is, only}
use Rattle.law_steps.proofs.Kept.NewProofs.{at_place}
use Rattle.law_steps.proofs.Served.DispatchProofs.{one_step}
use Rattle.law_steps.proofs.Tasked.StepsProofs.{steps_keep_good}
use Rattle.law_prices.specs.Asked as asked
use Rattle.law_prices.specs.Deeds.{Deed, PriceList}
use Rattle.law_prices.specs.Deeds as deeds
use Rattle.law_prices.specs.Dispatches.{FreeIsNever, Happens, NoneHasEnded, RepliesAreFew, StepsAreFew, steps_price}
use Rattle.law_prices.specs.Lists.{any_call, steps}
use Rattle.law_prices.specs.Prices.{shape_number}
use Rattle.law_prices.specs.Steps.{agenda_deeds, construct_deeds, end_deeds, final_deeds, first_deeds, instruction_deeds, item_deeds, running_deeds, settle_deeds, step_deeds, step_price, task_deeds, turn_deeds}
use Rattle.law_prices.proofs.DispatchPays.{begins_at, dispatches_pay, first_fits}
use Rattle.law_prices.proofs.StepFalls.{unheld_lives}
use Rattle.law_prices.proofs.TaskFalls.{done_is, left_is}

-- ** what never happens

price_in : (P : PriceList) (deed : Deed) (xs : List Deed) → IsIn deed xs → P deed ≤ total P xs
price_in P deed [] h = absurd h
price_in P deed (x ∷ xs) (inl same) = let s = ap P same in omega (arith, s)
price_in P deed (x ∷ xs) (inr h) = let r = price_in P deed xs h in omega (arith, r)

happens_paid : (d : Definition) (P : PriceList) (deed : Deed) (n : ℕ) (replies : List Reply) (c e : Config) (s : Steps d n replies c e) → Happens d deed n replies c e s → P deed ≤ steps_price d P n replies c e s
happens_paid d P deed zero replies c e s h = absurd h
happens_paid d P deed (suc n) replies c e s (inl h) = let one = price_in P deed (step_deeds d c) h in omega (arith, one)
happens_paid d P deed (suc n) replies c e s (inr h) = let rest = happens_paid d P deed n s.later s.mid e s.follows h in omega (arith, rest)

pub free_is_never : FreeIsNever
free_is_never d well a peers ready events read x replies fit n at s P t solves none deed some h =
    let pays = dispatches_pay d well a peers ready events read x replies fit n at s P t solves in
    let one = happens_paid d P deed n replies (beginning_of x) at s h in
    absurd (omega (arith, pays, one, none, some))

-- ** each step does something

-- an object that lives has its class
pub class_found : (w : World) (id : ℕ) → Lives (standing w.objects) id → (class : ℕ) × (class_in w.objects id ≡ Some class)
class_found w id l = let o = at_place w.objects id l.place l.is in (o.0.class, ap (option_map (λ (o : Object). o.class)) o.1)

module _ (d : Definition) (a : Accepted d) (most : ℕ) where
  -- where a program takes an instruction there is one
  unfolding_done : (w : World) (rest : List Task) (f : Frame) (l : Left) → running d w rest f ≡ Ok l → 1 ≤ total steps (running_deeds d w f (block_in d f))
  unfolding running
  unfolding_done w rest f l e =
      let b = bound (block_in d f) _ l e in
      let i = bound (known arms.Code (slice_get b.0.code (in_pass b.0 f).at)) _ l b.2 in
      let is = known_is arms.Code (slice_get b.0.code (in_pass b.0 f).at) i.0 i.1 in
      let block = ap (λ x. total steps (running_deeds d w f x)) b.1 in
      let deed = ap (λ o. total steps (instruction_deeds d w (in_pass b.0 f) o)) is in
      omega (arith, block, deed)

  turn_counts : (w : World) (place number : ℕ) (entry : _) → 1 ≤ total steps (turn_deeds w place number entry)
  turn_counts w place number (class_handler program cleanup) = omega arith
  turn_counts w place number (handler n) = omega arith
  turn_counts w place number (config.transfer n back) = omega arith

  item_counts : (i : Item) → 1 ≤ total steps (item_deeds i)
  item_counts (makes place) = omega arith
  item_counts (adopts place) = omega arith
  item_counts (forwards place slot to) = omega arith
  item_counts (binds number) = omega arith
  item_counts (connects place number) = omega arith

  construct_counts : (place : ℕ) (s : _) → 1 ≤ total steps (construct_deeds place s)
  construct_counts place (sets slot v) = omega arith
  construct_counts place (runs program) = omega arith
  construct_counts place thaws = omega arith

  module _ (t : Tables) where
    task_counts : (task : Task) (w : World) (rest : List Task) (n : ℕ) → IsGood d a most (at_first w task rest n) → (reply : Option Reply) (e : Config) → act d w reply (task ∷ rest) n ≡ Ok e → 1 ≤ total steps (task_deeds d w task)
    task_counts (Setting id slot v) w rest n g reply e h = let is = done_is d steps t (λ place. deeds.set place slot ∷ []) (standing w.objects id) g.agenda.3.1.due.place g.agenda.3.1.due.is in omega (arith, is)
    task_counts (Notifying id slot) w rest n g reply e h = let is = done_is d steps t (λ place. deeds.notify place slot ∷ []) (standing w.objects id) g.agenda.3.1.due.place g.agenda.3.1.due.is in omega (arith, is)
    task_counts (Beginning em) w rest n g reply e h = let is = done_is d steps t (λ place. deeds.emit place em.signal ∷ []) (standing w.objects em.object) g.agenda.3.1.fits.place g.agenda.3.1.fits.is in omega (arith, is)
    task_counts (Emitting em []) w rest n g reply e h = let is = done_is d steps t (end_deeds em) (standing w.objects em.object) g.agenda.3.fits.place g.agenda.3.fits.is in omega (arith, is)
    task_counts (Emitting em (entry ∷ entries)) w rest n g reply e h =
        let is = done_is d steps t (λ place. turn_deeds w place em.signal entry) (standing w.objects em.object) g.agenda.3.fits.place g.agenda.3.fits.is in
        let one = turn_counts w g.agenda.3.fits.place em.signal entry in
        omega (arith, is, one)
    task_counts (Transferring number back) w rest n g reply e h = omega arith
    task_counts (Unsetting number) w rest n g reply e h = omega arith
    task_counts (Thawing id []) w rest n g reply e h = omega arith
    task_counts (Thawing id (slot ∷ slots)) w rest n g reply e h = let is = done_is d steps t (λ place. deeds.name place slot ∷ []) (standing w.objects id) g.agenda.3.1.0 g.agenda.3.1.1 in omega (arith, is)
    task_counts (Running f) w rest n g reply e h =
        let k = only (nat_lt n most_steps) arms.Steps (left (suc n) (running d w rest f)) e h in
        let l = left_is (suc n) (running d w rest f) e k.1 in
        unfolding_done w rest f l.0 l.1
    task_counts (Answering source) w rest n g reply e h = absurd (cc)
    task_counts (Calling call) w rest n g reply e h =
        let class = class_found w call.object g.agenda.3.1.lives in
        let is = done_is d steps t (λ class. deeds.answer (shape_number d (nearest_shape d class)) call.method ∷ []) (class_in w.objects call.object) class.0 class.1 in
        omega (arith, is)
    task_counts (Constructing id [] held) w rest n g reply e h = let is = done_is d steps t (λ place. deeds.construct place ∷ []) (standing w.objects id) g.agenda.3.1.place g.agenda.3.1.is in omega (arith, is)
    task_counts (Constructing id (s ∷ todo) held) w rest n g reply e h =
        let is = done_is d steps t (λ place. construct_deeds place s) (standing w.objects id) g.agenda.3.1.place g.agenda.3.1.is in
        let one = construct_counts g.agenda.3.1.place s in
        omega (arith, is, one)
    task_counts (Building []) w rest n g reply e h = omega arith
    task_counts (Building (i ∷ items)) w rest n g reply e h = item_counts i
    task_counts (Handling request) w rest n g reply e h = omega arith
    task_counts (Due number) w rest n g reply e h =
        let s = g.agenda.3.2.0 in
        let is = done_is d steps t (λ (s : Source). deeds.begin (asked.source s.program) ∷ deeds.run s.program ∷ []) (source_of number w.sources) s g.agenda.3.2.1 in
        omega (arith, is)

    -- unless it has ended
    step_counts : (c : Config) → IsGood d a most c → (reply : Option Reply) (e : Config) → step d reply c ≡ Ok e → (HasEnded d c → ⊥) → 1 ≤ step_price d steps c
    step_counts c g reply e h goes_on = go (next_unheld (mentions d c) c.world.objects) refl
      where
        first : (o : Option ℕ) → next_unheld (mentions d c) c.world.objects ≡ o → 1 ≤ total steps (first_deeds d c o) → 1 ≤ step_price d steps c
        first o is low = let price = ap (λ o. total steps (first_deeds d c o)) is in omega (arith, price, low)

        at_end : (ids : List ℕ) → c.world.floating ≡ ids → c.agenda ≡ [] → next_unheld (mentions d c) c.world.objects ≡ None → 1 ≤ total steps (settle_deeds c.world c.world.floating)
        at_end [] e none held = absurd (goes_on (record { agenda = none; floating = e; held = held }))
        at_end (id ∷ ids) e none held =
            let l : Lives (standing c.world.objects) id = (subst (Each (Lives (standing c.world.objects))) e g.floating).0 in
            let is = done_is d steps t (λ place. deeds.settle place ∷ []) (standing c.world.objects id) l.place l.is in
            let all = ap (λ ids. total steps (settle_deeds c.world ids)) e in
            omega (arith, is, all)

        by : (tasks : List Task) → c.agenda ≡ tasks → IsGood d a most (record { world = c.world; agenda = tasks; counted = c.counted }) → next_unheld (mentions d c) c.world.objects ≡ None → act d c.world reply tasks c.counted ≡ Ok e →
            1 ≤ total steps (agenda_deeds d c.world tasks)
        by [] is g held h = at_end c.world.floating refl is held
        by (task ∷ rest) is g held h = task_counts task c.world rest c.counted g reply e h

        go : (o : Option ℕ) → next_unheld (mentions d c) c.world.objects ≡ o → 1 ≤ step_price d steps c
        go None is = first None is (by c.agenda refl g is (ap (first_of d reply c) (sym is) ∙ h))
        go (Some id) is =
            let u = unheld_lives (mentions d c) 1 c.world.objects id is in
            let at : id ≡ suc u.0 = (let e = u.1 in omega (arith, e)) in
            let there = ap (living c.world.objects) at ∙ u.3 in
            let deed = done_is d steps t final_deeds (living c.world.objects id) u.2 there in
            first (Some id) is (omega (arith, deed))

  -- ** peers

  -- a step that takes a reply is a call
  asks_by_call : (t : Tables) (c : Config) → IsGood d a most c → (reply : Option Reply) → question d c ≡ question_in reply → length (listed reply) ≤ step_price d any_call c
  asks_by_call t c g None e = omega arith
  asks_by_call t c g (Some r) e = go (next_unheld (mentions d c) c.world.objects) refl
    where
      by : (tasks : List Task) → IsGood d a most (record { world = c.world; agenda = tasks; counted = c.counted }) → asked_first c.world tasks ≡ Some r.question → 1 ≤ total any_call (agenda_deeds d c.world tasks)
      by [] g e = absurd (cc)
      by (Setting id slot v ∷ rest) g e = absurd (cc)
      by (Notifying id slot ∷ rest) g e = absurd (cc)
      by (Beginning em ∷ rest) g e = absurd (cc)
      by (Emitting em entries ∷ rest) g e = absurd (cc)
      by (Transferring number back ∷ rest) g e = absurd (cc)
      by (Unsetting number ∷ rest) g e = absurd (cc)
      by (Thawing id slots ∷ rest) g e = absurd (cc)
      by (Running f ∷ rest) g e = absurd (cc)
      by (Answering source ∷ rest) g e = absurd (cc)
      by (Calling call ∷ rest) g e =
          let class = class_found c.world call.object g.agenda.3.1.lives in
          let is = done_is d any_call t (λ class. deeds.answer (shape_number d (nearest_shape d class)) call.method ∷ []) (class_in c.world.objects call.object) class.0 class.1 in
          omega (arith, is)
      by (Constructing id steps held ∷ rest) g e = absurd (cc)
      by (Building items ∷ rest) g e = absurd (cc)
      by (Handling request ∷ rest) g e = absurd (cc)
      by (Due source ∷ rest) g e = absurd (cc)

      go : (o : Option ℕ) → next_unheld (mentions d c) c.world.objects ≡ o → 1 ≤ step_price d any_call c
      go None is =
          let price = ap (λ o. total any_call (first_deeds d c o)) is in
          let one = by c.agenda g (ap (asked_after c) (sym is) ∙ e) in
          omega (arith, price, one)
      go (Some id) is = absurd (let f = ap (asked_after c) (sym is) ∙ e in cc)

  -- ** along some steps

  module _ (well : WellRead d) (few : most ≤ most_steps) where
    pub all_count : (t : Tables) (n : ℕ) (replies : List Reply) → Each (Fits d) replies → (c e : Config) → IsGood d a most c → (s : Steps d n replies c e) → NoneHasEnded d n replies c e s → n ≤ steps_price d steps n replies c e s
    all_count t zero replies fit c e good s none = omega arith
    all_count t (suc n) replies fit c e good s none =
        let both = first_fits d s.reply s.later (subst (Each (Fits d)) s.replied fit) in
        let next = one_step steps_keep_good d well a most few c s.mid good s.reply both.0 s.step in
        let one = step_counts t c good s.reply s.mid s.step.leads none.0 in
        let rest = all_count t n s.later both.1 s.mid e next s.follows none.1 in
        omega (arith, one, rest)

    all_ask : (t : Tables) (n : ℕ) (replies : List Reply) → Each (Fits d) replies → (c e : Config) → IsGood d a most c → (s : Steps d n replies c e) → length replies ≤ steps_price d any_call n replies c e s
    all_ask t zero replies fit c e good s = let none = ap (λ (rs : List Reply). length rs) s.0 in omega (arith, none)
    all_ask t (suc n) replies fit c e good s =
        let both = first_fits d s.reply s.later (subst (Each (Fits d)) s.replied fit) in
        let next = one_step steps_keep_good d well a most few c s.mid good s.reply both.0 s.step in
        let one = asks_by_call t c good s.reply s.step.asks in
        let rest = all_ask t n s.later both.1 s.mid e next s.follows in
        let split = ap (λ (rs : List Reply). length rs) s.replied ∙ length_both (listed s.reply) s.later in
        omega (arith, one, rest, split)
      where
        length_both : (xs ys : List Reply) → length (xs ++ ys) ≡ length xs + length ys
        length_both [] ys = omega arith
        length_both (x ∷ xs) ys = let h = length_both xs ys in omega (arith, h)

pub steps_are_few : StepsAreFew
steps_are_few d well a peers ready events read x replies fit n at s none t solves =
    let b = begins_at d well a steps t solves peers ready events read x in
    let pays = dispatches_pay d well a peers ready events read x replies fit n at s steps t solves in
    let low = all_count d a b.most well b.few t n replies fit (beginning_of x) at b.good s none in
    omega (arith, pays, low)

pub replies_are_few : RepliesAreFew
replies_are_few d well a peers ready events read x replies fit n at s t solves =
    let b = begins_at d well a any_call t solves peers ready events read x in
    let pays = dispatches_pay d well a peers ready events read x replies fit n at s any_call t solves in
    let low = all_ask d a b.most well b.few t n replies fit (beginning_of x) at b.good s in
    omega (arith, pays, low)
