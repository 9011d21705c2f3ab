-- What falls still falls in the world that a step leaves.
use Rattle.std.proofs.Common.{◌≡◌, refl, sym, ap, subst, ◌∙◌, ℕ, zero, suc, ◌<◌, ◌≤◌, inl, inr, List, [], ◌∷◌, ◌++◌, Some, arith}
use Rattle.std.specs.Prelude.{⊤}
use Rattle.ui_machine.specs.Seq.{total}
use Rattle.ui_machine.specs.Definition.{Definition}
use Rattle.ui_machine.specs.Definition.Places.{Bind}
use Rattle.ui_machine.specs.State.Config.{World}
use Rattle.ui_machine.specs.State.Handlers.{Handler}
use Rattle.ui_machine.specs.State.Objects.{Objects}
use Rattle.ui_machine.specs.State.Tasks.{ConstructStep, Emission, PlanEntry, class_handler, handler, Task, Setting, Notifying, Beginning, Emitting, Transferring, Unsetting, Thawing, Running, Answering, Calling, Constructing, Building, Handling, Due}
use Rattle.ui_machine.specs.State.Tasks as config
use Rattle.law_typing.specs.Good.Agenda.{AgendaGood}
use Rattle.law_typing.specs.Good.ComingDown.{Down}
use Rattle.law_typing.specs.Good.Emissions.{TurnGood}
use Rattle.law_typing.specs.Good.Freezes.{frozen_by}
use Rattle.law_typing.specs.Good.Standing.{Standing, standing, view}
use Rattle.law_typing.specs.Graph.Channels.{Channel, property}
use Rattle.law_typing.specs.Graph.Tables.{Tables, of_program}
use Rattle.law_typing.specs.Laws.{IsIn}
use Rattle.law_typing.specs.Verdict.Accepted.{Each}
use Rattle.law_steps.proofs.Kept.NewProofs.{at_place}
use Rattle.law_frames.specs.Frames.{DueFalls, EmittingFalls, Falls, IsApart, IsHeld, IsOnEnd, LiesOnEnd, TurnFalls, Under, channel_at, emission_height, height, height_if, making_height, waited_height, within}
use Rattle.law_frames.proofs.Going.{FromThose, PlacesStay}
use Rattle.law_frames.proofs.OnceProofs.{under_below}

-- the objects of these tasks are at the same places
abbrev pub SameAt : Standing → Standing → List Task → Type 0
SameAt s z [] = ⊤
SameAt s z (Setting id slot v ∷ tasks) = (z id ≡ s id) × SameAt s z tasks
SameAt s z (Notifying id slot ∷ tasks) = (z id ≡ s id) × SameAt s z tasks
SameAt s z (Beginning e ∷ tasks) = (z e.object ≡ s e.object) × SameAt s z tasks
SameAt s z (Emitting e turns ∷ tasks) = (z e.object ≡ s e.object) × SameAt s z tasks
SameAt s z (Thawing id (slot ∷ slots) ∷ tasks) = (z id ≡ s id) × SameAt s z tasks
SameAt s z (Constructing id steps held ∷ tasks) = (z id ≡ s id) × SameAt s z tasks
SameAt s z (task ∷ tasks) = SameAt s z tasks

-- a handler's turn is of an earlier number
abbrev pub IsLow : ℕ → PlanEntry → Type 0
IsLow last (handler number) = number ≤ last
IsLow last turn = ⊤

abbrev pub LowAt : ℕ → List Task → Type 0
LowAt last [] = ⊤
LowAt last (Emitting e turns ∷ tasks) = Each (IsLow last) turns × LowAt last tasks
LowAt last (task ∷ tasks) = LowAt last tasks

module _ (d : Definition) (depths : Tables) (s z : Standing) where
  pub height_stays : (below : List Task) (e : Emission) → z e.object ≡ s e.object → emission_height d depths z below e ≡ emission_height d depths s below e
  height_stays below e same = ap (λ o. height_if d depths below (channel_at d e o)) same

  pub under_stays : (n : ℕ) (tasks : List Task) → SameAt s z tasks → Under d depths s n tasks → Under d depths z n tasks
  under_stays n [] same u = tt
  under_stays n (Running frame ∷ below) same u = u
  under_stays n (Emitting e turns ∷ below) same u = let is = height_stays below e same.0 in omega (arith, u, is)
  under_stays n (Constructing id steps held ∷ below) same u = let is = ap (making_height d depths) same.0 in omega (arith, u, is)
  under_stays n (Setting id slot v ∷ below) same u = under_stays n below same.1 u
  under_stays n (Notifying id slot ∷ below) same u = under_stays n below same.1 u
  under_stays n (Beginning e ∷ below) same u = under_stays n below same.1 u
  under_stays n (Transferring number back ∷ below) same u = under_stays n below same u
  under_stays n (Unsetting number ∷ below) same u = under_stays n below same u
  under_stays n (Thawing id [] ∷ below) same u = under_stays n below same u
  under_stays n (Thawing id (slot ∷ slots) ∷ below) same u = under_stays n below same.1 u
  under_stays n (Answering source ∷ below) same u = under_stays n below same u
  under_stays n (Calling call ∷ below) same u = under_stays n below same u
  under_stays n (Building items ∷ below) same u = under_stays n below same u
  under_stays n (Handling request ∷ below) same u = under_stays n below same u
  under_stays n (Due source ∷ below) same u = under_stays n below same u

  pub apart_stays : (c : Channel) (below : List Task) → SameAt s z below → IsApart d s below c → IsApart d z below c
  apart_stays c (Unsetting number ∷ Emitting e turns ∷ below) same apart = λ is. apart (ap (channel_at d e) (sym same.0) ∙ is)
  apart_stays c _ same apart = apart

  lies_stays : (b : Bind) (below : List Task) → SameAt s z below → LiesOnEnd d depths s b below → LiesOnEnd d depths z b below
  lies_stays b (Emitting e turns ∷ below) same lies =
      let is = height_stays below e same.0 in
      let x = lies.0 in
      let y = lies.1 in
      (omega (arith, x, is), omega (arith, y, is))
  lies_stays b _ same lies = lies

  pub end_stays : (number : ℕ) (below : List Task) → SameAt s z below → IsOnEnd d depths s number below → IsOnEnd d depths z number below
  end_stays number below same on b is pair = lies_stays b below same (on b is pair)

  due_stays : (below : List Task) (id slot : ℕ) → z id ≡ s id → SameAt s z below → DueFalls d depths s below id slot → DueFalls d depths z below id slot
  due_stays below id slot at same due = record {
    place = due.place;
    is = at ∙ due.is;
    under = under_stays (height d depths below (property due.place slot)) below same due.under;
    apart = apart_stays (property due.place slot) below same due.apart;
  }

  each_map : {A : Type 0} (P Q : A → Type 0) → ((x : A) → P x → Q x) → (xs : List A) → Each P xs → Each Q xs
  each_map P Q f [] h = tt
  each_map P Q f (x ∷ xs) h = (f x h.0, each_map P Q f xs h.1)

  turns_stay : (last : ℕ) (hs zs : List Handler) → FromThose last hs zs → (c : Channel) (turns : List PlanEntry) → Each (IsLow last) turns → Each (TurnFalls d depths hs c) turns → Each (TurnFalls d depths zs c) turns
  turns_stay last hs zs from c [] low falls = tt
  turns_stay last hs zs from c (class_handler program cleanup ∷ turns) low falls = (falls.0, turns_stay last hs zs from c turns low.1 falls.1)
  turns_stay last hs zs from c (config.transfer number back ∷ turns) low falls = (falls.0, turns_stay last hs zs from c turns low.1 falls.1)
  turns_stay last hs zs from c (handler number ∷ turns) low falls = (one, turns_stay last hs zs from c turns low.1 falls.1)
    where
      one : (h : Handler) → IsIn h zs → h.number ≡ number → of_program depths h.program ≤ within d depths c
      one h there is =
          let early = low.0 in
          let g = from h there (omega (arith, early, is)) in
          let was = falls.0 g.0 g.1 (g.2 ∙ is) in
          let same = ap (of_program depths) g.3 in
          omega (arith, was, same)

  emitting_stays : (last : ℕ) (hs zs : List Handler) → FromThose last hs zs → (below : List Task) (e : Emission) (turns : List PlanEntry) → z e.object ≡ s e.object → SameAt s z below → Each (IsLow last) turns →
      EmittingFalls d depths s hs below e turns → EmittingFalls d depths z zs below e turns
  emitting_stays last hs zs from below e turns at same low falls = record {
    channel = falls.channel;
    is = ap (channel_at d e) at ∙ falls.is;
    there = falls.there;
    more = falls.more;
    under = under_stays (height d depths below falls.channel) below same falls.under;
    turns_fall = turns_stay last hs zs from falls.channel turns low falls.turns_fall;
  }

  pub falls_stay : (last : ℕ) (hs zs : List Handler) → FromThose last hs zs → (tasks : List Task) → SameAt s z tasks → LowAt last tasks → Falls d depths s hs tasks → Falls d depths z zs tasks
  falls_stay last hs zs from [] same low falls = tt
  falls_stay last hs zs from (Setting id slot v ∷ below) same low falls = (due_stays below id slot same.0 same.1 falls.0, falls_stay last hs zs from below same.1 low falls.1)
  falls_stay last hs zs from (Notifying id slot ∷ below) same low falls = (due_stays below id slot same.0 same.1 falls.0, falls_stay last hs zs from below same.1 low falls.1)
  falls_stay last hs zs from (Beginning e ∷ below) same low falls =
      let is = height_stays below e same.0 in (
        (
          under_stays (emission_height d depths z below e) below same.1 (subst (λ n. Under d depths s n below) (sym is) falls.0.0),
          λ c at. apart_stays c below same.1 (falls.0.1 c (ap (channel_at d e) (sym same.0) ∙ at)),
        ),
        falls_stay last hs zs from below same.1 low falls.1,
      )
  falls_stay last hs zs from (Emitting e turns ∷ below) same low falls = (
    (
      emitting_stays last hs zs from below e turns same.0 same.1 low.0 falls.0.0,
      λ c is. apart_stays c below same.1 (falls.0.1 c (ap (channel_at d e) (sym same.0) ∙ is)),
    ),
    falls_stay last hs zs from below same.1 low.1 falls.1,
  )
  falls_stay last hs zs from (Transferring number back ∷ below) same low falls = (
    (
      under_stays _ below same falls.0.0,
      end_stays number below same falls.0.1,
      λ b is. apart_stays _ (Unsetting number ∷ below) same (falls.0.2 b is),
    ),
    falls_stay last hs zs from below same low falls.1,
  )
  falls_stay last hs zs from (Unsetting number ∷ below) same low falls = (end_stays number below same falls.0, falls_stay last hs zs from below same low falls.1)
  falls_stay last hs zs from (Thawing id [] ∷ below) same low falls = (tt, falls_stay last hs zs from below same low falls.1)
  falls_stay last hs zs from (Thawing id (slot ∷ slots) ∷ below) same low falls = (
    each_map (λ slot. Under d depths s (waited_height d depths slot (s id)) below) (λ slot. Under d depths z (waited_height d depths slot (z id)) below)
        (λ slot u. under_stays (waited_height d depths slot (z id)) below same.1 (subst (λ o. Under d depths s (waited_height d depths slot o) below) (sym same.0) u)) (slot ∷ slots) falls.0,
    falls_stay last hs zs from below same.1 low falls.1,
  )
  falls_stay last hs zs from (Running frame ∷ below) same low falls = (under_stays (of_program depths frame.program) below same falls.0, falls_stay last hs zs from below same low falls.1)
  falls_stay last hs zs from (Constructing id steps held ∷ below) same low falls = (
    record {
      place = falls.0.place;
      is = same.0 ∙ falls.0.is;
      under = under_stays (making_height d depths (Some falls.0.place)) below same.1 falls.0.under;
      steps_fall = falls.0.steps_fall;
    },
    falls_stay last hs zs from below same.1 low falls.1,
  )
  falls_stay last hs zs from (Answering source ∷ below) same low falls = (tt, falls_stay last hs zs from below same low falls.1)
  falls_stay last hs zs from (Calling call ∷ below) same low falls = (tt, falls_stay last hs zs from below same low falls.1)
  falls_stay last hs zs from (Building items ∷ below) same low falls = (tt, falls_stay last hs zs from below same low falls.1)
  falls_stay last hs zs from (Handling request ∷ below) same low falls = (tt, falls_stay last hs zs from below same low falls.1)
  falls_stay last hs zs from (Due source ∷ below) same low falls = (tt, falls_stay last hs zs from below same low falls.1)

  pub held_stays : (id n : ℕ) (tasks : List Task) → SameAt s z tasks → IsHeld d depths s id n tasks → IsHeld d depths z id n tasks
  held_stays id n [] same held = held
  held_stays id n (task ∷ below) same (inl x) = inl (x.0, under_stays n (task ∷ below) same x.1)
  held_stays id n (task ∷ below) same (inr held) = inr (held_stays id n below (later task below same) held)
    where
      later : (task : Task) (below : List Task) → SameAt s z (task ∷ below) → SameAt s z below
      later (Setting id slot v) below same = same.1
      later (Notifying id slot) below same = same.1
      later (Beginning e) below same = same.1
      later (Emitting e turns) below same = same.1
      later (Constructing id steps held) below same = same.1
      later (Thawing id (slot ∷ slots)) below same = same.1
      later _ below same = same

-- a task that holds the object frozen is under, where there is one
pub held_again : (d : Definition) (depths : Tables) (s : Standing) (hs : List Handler) (id n : ℕ) (tasks : List Task) → Falls d depths s hs tasks → Under d depths s n tasks → 0 < total (frozen_by d id) tasks →
    IsHeld d depths s id n tasks
held_again d depths s hs id n [] falls u some = absurd (omega (arith, some))
held_again d depths s hs id n (task ∷ below) falls u some =
    by (frozen_by d id task) refl (λ more. held_again d depths s hs id n below falls.1 (under_below d depths s hs n task below falls.0 u) more)
  where
    by : (k : ℕ) → frozen_by d id task ≡ k → (0 < total (frozen_by d id) below → IsHeld d depths s id n below) → IsHeld d depths s id n (task ∷ below)
    by zero is later = inr (later (omega (arith, some, is)))
    by (suc k) is later = inl (omega (arith, is), u)

-- ** what is good of both

pub same_place : (os zs : Objects) → PlacesStay os zs → (id p q : ℕ) → standing os id ≡ Some p → standing zs id ≡ Some q → standing zs id ≡ standing os id
same_place os zs stay id p q was is =
    let x = at_place os id p was in
    let y = at_place zs id q is in
    let same = stay id x.0 y.0 x.1 y.1 in
    is ∙ (ap (λ (p : ℕ). Some p) (sym y.2 ∙ (same ∙ x.2)) ∙ sym was)

module _ (d : Definition) (costs depths : Tables) (most : ℕ) (w v : World) (stay : PlacesStay w.objects v.objects) where
  pub same_at : (tasks : List Task) (up now : Down) (budget left : ℕ) → AgendaGood d costs depths (view w) most up tasks budget → AgendaGood d costs depths (view v) most now tasks left →
      SameAt (standing w.objects) (standing v.objects) tasks
  same_at [] up now budget left g h = tt
  same_at (Setting id slot x ∷ tasks) up now budget left g h = (same_place w.objects v.objects stay id g.3.1.due.place h.3.1.due.place g.3.1.due.is h.3.1.due.is, same_at tasks _ _ g.2 h.2 g.6 h.6)
  same_at (Notifying id slot ∷ tasks) up now budget left g h = (same_place w.objects v.objects stay id g.3.1.due.place h.3.1.due.place g.3.1.due.is h.3.1.due.is, same_at tasks _ _ g.2 h.2 g.6 h.6)
  same_at (Beginning e ∷ tasks) up now budget left g h = (same_place w.objects v.objects stay e.object g.3.1.fits.place h.3.1.fits.place g.3.1.fits.is h.3.1.fits.is, same_at tasks _ _ g.2 h.2 g.6 h.6)
  same_at (Emitting e turns ∷ tasks) up now budget left g h = (same_place w.objects v.objects stay e.object g.3.fits.place h.3.fits.place g.3.fits.is h.3.fits.is, same_at tasks _ _ g.2 h.2 g.6 h.6)
  same_at (Thawing id [] ∷ tasks) up now budget left g h = same_at tasks _ _ g.2 h.2 g.6 h.6
  same_at (Thawing id (slot ∷ slots) ∷ tasks) up now budget left g h = (same_place w.objects v.objects stay id g.3.1.0 h.3.1.0 g.3.1.1 h.3.1.1, same_at tasks _ _ g.2 h.2 g.6 h.6)
  same_at (Constructing id steps held ∷ tasks) up now budget left g h = (same_place w.objects v.objects stay id g.3.1.place h.3.1.place g.3.1.is h.3.1.is, same_at tasks _ _ g.2 h.2 g.6 h.6)
  same_at (Transferring number back ∷ tasks) up now budget left g h = same_at tasks _ _ g.2 h.2 g.6 h.6
  same_at (Unsetting number ∷ tasks) up now budget left g h = same_at tasks _ _ g.2 h.2 g.6 h.6
  same_at (Running frame ∷ tasks) up now budget left g h = same_at tasks _ _ g.2 h.2 g.6 h.6
  same_at (Answering source ∷ tasks) up now budget left g h = same_at tasks _ _ g.2 h.2 g.6 h.6
  same_at (Calling call ∷ tasks) up now budget left g h = same_at tasks _ _ g.2 h.2 g.6 h.6
  same_at (Building items ∷ tasks) up now budget left g h = same_at tasks _ _ g.2 h.2 g.6 h.6
  same_at (Handling request ∷ tasks) up now budget left g h = same_at tasks _ _ g.2 h.2 g.6 h.6
  same_at (Due source ∷ tasks) up now budget left g h = same_at tasks _ _ g.2 h.2 g.6 h.6

-- the turns of what is good are of earlier numbers
module _ (d : Definition) (costs depths : Tables) (most : ℕ) (w : World) where
  pub low_turns : (e : Emission) (turns : List PlanEntry) → Each (TurnGood d (view w) e) turns → Each (IsLow w.last_handler) turns
  low_turns e [] good = tt
  low_turns e (class_handler program cleanup ∷ turns) good = (tt, low_turns e turns good.1)
  low_turns e (handler number ∷ turns) good = (good.0.0, low_turns e turns good.1)
  low_turns e (config.transfer number back ∷ turns) good = (tt, low_turns e turns good.1)

  pub low_at : (tasks : List Task) (up : Down) (budget : ℕ) → AgendaGood d costs depths (view w) most up tasks budget → LowAt w.last_handler tasks
  low_at [] up budget g = tt
  low_at (Emitting e turns ∷ tasks) up budget g = (low_turns e turns g.3.turns_fit, low_at tasks _ g.2 g.6)
  low_at (Setting id slot x ∷ tasks) up budget g = low_at tasks _ g.2 g.6
  low_at (Notifying id slot ∷ tasks) up budget g = low_at tasks _ g.2 g.6
  low_at (Beginning e ∷ tasks) up budget g = low_at tasks _ g.2 g.6
  low_at (Transferring number back ∷ tasks) up budget g = low_at tasks _ g.2 g.6
  low_at (Unsetting number ∷ tasks) up budget g = low_at tasks _ g.2 g.6
  low_at (Thawing id slots ∷ tasks) up budget g = low_at tasks _ g.2 g.6
  low_at (Running frame ∷ tasks) up budget g = low_at tasks _ g.2 g.6
  low_at (Answering source ∷ tasks) up budget g = low_at tasks _ g.2 g.6
  low_at (Calling call ∷ tasks) up budget g = low_at tasks _ g.2 g.6
  low_at (Constructing id steps held ∷ tasks) up budget g = low_at tasks _ g.2 g.6
  low_at (Building items ∷ tasks) up budget g = low_at tasks _ g.2 g.6
  low_at (Handling request ∷ tasks) up budget g = low_at tasks _ g.2 g.6
  low_at (Due source ∷ tasks) up budget g = low_at tasks _ g.2 g.6

  -- the agenda from some task on is good
  pub good_from : (front tasks : List Task) (up : Down) (budget : ℕ) → AgendaGood d costs depths (view w) most up (front ++ tasks) budget →
      (now : Down) × (left : ℕ) × AgendaGood d costs depths (view w) most now tasks left
  good_from [] tasks up budget g = (up, budget, g)
  good_from (task ∷ front) tasks up budget g = good_from front tasks _ g.2 g.6
