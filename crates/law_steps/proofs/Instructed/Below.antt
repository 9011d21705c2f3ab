-- What lies below a program takes its result: an emission, a source, or none.
use Rattle.std.proofs.Common.{◌≡◌, inl, inr, refl, sym, ap, subst, ◌∙◌, ℕ, ◌+◌, ◌≤◌, Bool, true, false, cond, List, [], ◌∷◌, Option, None, Some, Ok, arith}
use Rattle.std.specs.Prelude.{option_map}
use Rattle.std.specs.List.{filter}
use Rattle.ui_machine.specs.Seq.{total}
use Rattle.ui_machine.specs.Definition.Kinds.{Kind}
use Rattle.ui_machine.specs.Definition.Kinds as kinds
use Rattle.ui_machine.specs.Definition.Values.{Value}
use Rattle.ui_machine.specs.Definition.{Definition}
use Rattle.ui_machine.specs.Definition.Signals.{Signal}
use Rattle.ui_machine.specs.Definition.Places.{Place}
use Rattle.ui_machine.specs.State.Objects.{Object, living, class_in}
use Rattle.ui_machine.specs.State.Tasks.{PlanEntry, class_handler, handler, Emission, Frame, Task, Emitting, Running}
use Rattle.ui_machine.specs.State.Tasks as config
use Rattle.ui_machine.specs.State.Config.{World}
use Rattle.ui_machine.specs.Rules.Transform.{kind_fits}
use Rattle.ui_machine.specs.Rules.Accumulation.{suits, is_last, is_of_cleanup, left_by_stop, entries_after, collected, collecting}
use Rattle.ui_machine.specs.Rules.EmissionPlan.{signal_of, signal_at}
use Rattle.law_typing.specs.Rules.RegisterKinds.{Kinds, class_at}
use Rattle.law_typing.specs.Rules.Signatures.{result_fits}
use Rattle.law_typing.specs.Graph.Tables.{Tables}
use Rattle.law_typing.specs.Verdict.Accepted.{Each}
use Rattle.law_typing.specs.Laws.WellRead.{TypesRead}
use Rattle.law_typing.specs.Good.Standing.{Standing, standing, view, class_by}
use Rattle.law_typing.specs.Good.Objects.{ObjectsGood}
use Rattle.law_typing.specs.Good.DueCosts.{turn_cost}
use Rattle.law_typing.specs.Good.ComingDown.{none, given, awaited, Comes}
use Rattle.law_typing.specs.Good.Programs.{RunningGood}
use Rattle.law_typing.specs.Good.Emissions.{TurnGood, EmittingGood}
use Rattle.law_static.proofs.FitsProofs.{holds_fits, classes_agree}
use Rattle.law_typing.specs.Laws.{IsIn}
use Rattle.law_typing.proofs.Lists.{each_in}
use Rattle.law_steps.proofs.Kept.NewProofs.{at_place}

-- ** values

-- what suits a program's result suits what the program fits
pub suits_further : (d : Definition) → TypesRead d → (s : Standing) (v : Option Value) (own wanted : Option Kind) → suits (kind_fits (class_by d s) d.types) v own ≡ true →
    result_fits d own wanted ≡ true → suits (kind_fits (class_by d s) d.types) v wanted ≡ true
suits_further d types s None None None e f = refl
suits_further d types s None None (Some k) e f = absurd (cc)
suits_further d types s None (Some k) wanted e f = absurd (cc)
suits_further d types s (Some v) None wanted e f = absurd (cc)
suits_further d types s (Some v) (Some k) None e f = absurd (cc)
suits_further d types s (Some v) (Some k) (Some l) e f = holds_fits d types s (kinds.plain k) (kinds.plain l) (Some v) f e

-- ** programs

awaited_given : (ks : Kinds) (into : Option ℕ) (k : Option Kind) → awaited ks into (given k) ≡ awaited ks into none
awaited_given ks None k = refl
awaited_given ks (Some to) k = refl

comes_none : (into : Option ℕ) (k : Option Kind) → Comes into (given k) → Comes into none
comes_none None k c = tt
comes_none (Some to) k c = absurd (let e = c.1 in cc)

-- a program for which nothing comes
pub running_none : (d : Definition) (costs depths : Tables) (s : Standing) (k : Option Kind) (f : Frame) (steps frames : ℕ) → RunningGood d costs depths s (given k) f steps frames →
    RunningGood d costs depths s none f steps frames
running_none d costs depths s k f steps frames g = record {
  p = g.p;
  is = g.is;
  b = g.b;
  in_block = g.in_block;
  inside = g.inside;
  few = g.few;
  counted = g.counted;
  ks = g.ks;
  fit = g.fit;
  comes = comes_none f.into k g.comes;
  kept = g.kept;
  at_site = sym (awaited_given g.ks f.into k) ∙ g.at_site;
  typed = rw (sym (awaited_given g.ks f.into k)) g.typed;
  bracketed = g.bracketed;
  cheap = rw (sym (awaited_given g.ks f.into k)) g.cheap;
  shallow = g.shallow;
}

-- ** emissions

total_filter : {A : Type 0} (f : A → ℕ) (test : A → Bool) (xs : List A) → total f (filter test xs) ≤ total f xs
total_filter f test [] = omega arith
total_filter f test (x ∷ xs) = go (test x) (total_filter f test xs)
  where
    go : (b : Bool) → total f (filter test xs) ≤ total f xs → total f (cond b (x ∷ filter test xs) (filter test xs)) ≤ f x + total f xs
    go true less = omega (arith, less)
    go false less = omega (arith, less)

-- some of the turns are left
pub record Fewer (turns left : List PlanEntry) : Type 0 where
  pub cheaper : (f : PlanEntry → ℕ) → total f left ≤ total f turns
  pub inside : (turn : PlanEntry) → IsIn turn left → IsIn turn turns

all_left : (turns : List PlanEntry) → Fewer turns turns
all_left turns = record { cheaper = λ f. omega arith; inside = λ turn h. h }

filter_inside : {A : Type 0} (test : A → Bool) (xs : List A) (x : A) → IsIn x (filter test xs) → IsIn x xs
filter_inside test [] x h = h
filter_inside {A} test (y ∷ ys) x h = go (test y) h (λ h. filter_inside test ys x h)
  where
    go : (b : Bool) → IsIn x (cond b (y ∷ filter test ys) (filter test ys)) → (IsIn x (filter test ys) → IsIn x ys) → IsIn x (y ∷ ys)
    go true (inl e) later = inl e
    go true (inr h) later = inr (later h)
    go false h later = inr (later h)

each_of : {A : Type 0} (P : A → Type 0) (xs : List A) → ((x : A) → IsIn x xs → P x) → Each P xs
each_of P [] f = tt
each_of P (x ∷ xs) f = (f x (inl refl), each_of P xs (λ y h. f y (inr h)))

pub each_fewer : (P : PlanEntry → Type 0) (turns left : List PlanEntry) → Fewer turns left → Each P turns → Each P left
each_fewer P turns left fewer all = each_of P left (λ x h. each_in P turns all x (fewer.inside x h))

pub stop_leaves : (e : Emission) (turns : List PlanEntry) → Fewer turns (left_by_stop e turns)
stop_leaves e turns = go e.cleanup
  where
    go : (b : Bool) → Fewer turns (cond b turns (filter is_of_cleanup turns))
    go true = all_left turns
    go false = record { cheaper = λ f. total_filter f is_of_cleanup turns; inside = λ turn h. filter_inside is_of_cleanup turns turn h }

after_leaves : (b : Bool) (e : Emission) (turns : List PlanEntry) → Fewer turns (entries_after b e turns)
after_leaves true e turns = stop_leaves e turns
after_leaves false e turns = all_left turns

module _ (d : Definition) (types : TypesRead d) (costs depths : Tables) (w : World) (objects : ObjectsGood d w) (below : List Task) (steps frames : ℕ) where
  -- with fewer turns, where nothing comes down
  abbrev pub fewer_good : (own : Option Kind) (e : Emission) (turns left : List PlanEntry) → Fewer turns left → EmittingGood d costs depths (view w) (given own) below e turns steps frames →
      EmittingGood d costs depths (view w) none below e left steps frames
  fewer_good own e turns left fewer g = record {
    fits = g.fits;
    suits = tt;
    turns_fit = each_fewer (TurnGood d (view w) e) turns left fewer g.turns_fit;
    cheap = (let less = fewer.cheaper (turn_cost d costs (view w) below) in let old = g.cheap in omega (arith, less, old));
    shallow = each_fewer _ turns left fewer g.shallow;
    one = g.one;
  }

  turn_valued : (e : Emission) (v : Option Value) (turn : PlanEntry) → TurnGood d (view w) e turn → TurnGood d (view w) (record e { value = v }) turn
  turn_valued e v (class_handler program cleanup) g = g
  turn_valued e v (handler number) g = g
  turn_valued e v (config.transfer number back) g = g

  turns_valued : (e : Emission) (v : Option Value) (turns : List PlanEntry) → Each (TurnGood d (view w) e) turns → Each (TurnGood d (view w) (record e { value = v })) turns
  turns_valued e v [] all = tt
  turns_valued e v (turn ∷ turns) all = (turn_valued e v turn all.0, turns_valued e v turns all.1)

  -- with another value of its signal's kind
  valued_good : (e : Emission) (turns : List PlanEntry) (v : Value) (g : EmittingGood d costs depths (view w) none below e turns steps frames) →
      suits (kind_fits (class_by d (standing w.objects)) d.types) (Some v) g.fits.sig.result ≡ true → EmittingGood d costs depths (view w) none below (record e { value = Some v }) turns steps frames
  valued_good e turns v g fit = record {
    fits = record {
      place = g.fits.place;
      class = g.fits.class;
      sig = g.fits.sig;
      is = g.fits.is;
      of_class = g.fits.of_class;
      has = g.fits.has;
      args = g.fits.args;
      value = λ x is. (let same : v ≡ x = cc in subst (λ v. (kind : Kind) × (g.fits.sig.result ≡ Some kind) × (kind_fits (class_by d (standing w.objects)) d.types v kind ≡ true)) same (kind_of g.fits.sig.result fit));
    };
    suits = tt;
    turns_fit = turns_valued e (Some v) turns g.turns_fit;
    cheap = g.cheap;
    shallow = g.shallow;
    one = g.one;
  }
    where
      kind_of : (wanted : Option Kind) → suits (kind_fits (class_by d (standing w.objects)) d.types) (Some v) wanted ≡ true →
          (kind : Kind) × (wanted ≡ Some kind) × (kind_fits (class_by d (standing w.objects)) d.types v kind ≡ true)
      kind_of None e = absurd (cc)
      kind_of (Some kind) e = (kind, refl, e)

  -- the emission that a value is collected in
  pub record Collected (e : Emission) (turns : List PlanEntry) (v : Option Value) : Type 0 where
    pub emission : Emission
    pub left : List PlanEntry
    pub is : collecting d w e turns v ≡ Ok (Emitting emission left)
    pub good : EmittingGood d costs depths (view w) none below emission left steps frames
    pub object : emission.object ≡ e.object
    pub signal : emission.signal ≡ e.signal

  collects : (e : Emission) (turns : List PlanEntry) (v : Option Value) (o : Object) (sig : Signal) → living w.objects e.object ≡ Some o → signal_of d o.class e.signal ≡ Some sig →
      suits (kind_fits (class_in w.objects) d.types) v sig.result ≡ true → collecting d w e turns v ≡ Ok (collected sig e turns v)
  unfolding collecting signal_at
  collects e turns v o sig a b c = rw (a, b, c) refl

  pub collect : (own : Option Kind) (e : Emission) (turns : List PlanEntry) (v : Option Value) → EmittingGood d costs depths (view w) (given own) below e turns steps frames →
      suits (kind_fits (class_by d (standing w.objects)) d.types) v own ≡ true → Collected e turns v
  collect own e turns v g fit = of v suited does
    where
      sig : Signal
      sig = g.fits.sig

      suited : suits (kind_fits (class_by d (standing w.objects)) d.types) v g.fits.sig.result ≡ true
      suited = suits_further d types (standing w.objects) v own g.fits.sig.result fit g.suits

      does : collecting d w e turns v ≡ Ok (collected g.fits.sig e turns v)
      does =
          let x = at_place w.objects e.object g.fits.place g.fits.is in
          let o = objects e.object x.0 x.1 in
          let class : x.0.class ≡ g.fits.class = (
          let at : class_at d x.0.place ≡ Some o.place.class = ap (option_map (λ (p : Place). p.class)) o.is in
          let f : class_at d x.0.place ≡ Some g.fits.class = ap (class_at d) x.2 ∙ g.fits.of_class in
          let c = o.class in
          cc) in
          collects e turns v x.0 g.fits.sig x.1 (ap (λ c. signal_of d c e.signal) class ∙ g.fits.has)
          (ap (λ f. suits (kind_fits f d.types) v g.fits.sig.result) (classes_agree d w objects) ∙ suited)

      valued : (v : Value) (cleanup : Bool) → suits (kind_fits (class_by d (standing w.objects)) d.types) (Some v) g.fits.sig.result ≡ true →
          collecting d w e turns (Some v) ≡ Ok (cond cleanup (Emitting e turns) (Emitting (record e { value = Some v }) (entries_after (is_last g.fits.sig.accumulator v) e turns))) →
          Collected e turns (Some v)
      valued v true fit is = record { emission = e; left = turns; is = is; good = fewer_good own e turns turns (all_left turns) g; object = refl; signal = refl }
      valued v false fit is = record {
        emission = record e { value = Some v };
        left = entries_after (is_last g.fits.sig.accumulator v) e turns;
        is = is;
        good =
            valued_good e (entries_after (is_last g.fits.sig.accumulator v) e turns) v
            (fewer_good own e turns (entries_after (is_last g.fits.sig.accumulator v) e turns) (after_leaves (is_last g.fits.sig.accumulator v) e turns) g) fit;
        object = refl;
        signal = refl;
      }

      of : (v : Option Value) → suits (kind_fits (class_by d (standing w.objects)) d.types) v g.fits.sig.result ≡ true → collecting d w e turns v ≡ Ok (collected g.fits.sig e turns v) →
          Collected e turns v
      of None fit is = record { emission = e; left = turns; is = is; good = fewer_good own e turns turns (all_left turns) g; object = refl; signal = refl }
      of (Some v) fit is = valued v e.cleanup fit is
