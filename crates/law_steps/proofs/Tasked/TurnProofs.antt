-- The turns of an emission that begin programs, and those that are passed over.
use Rattle.std.proofs.Common.{◌≡◌, refl, sym, ap, subst, ◌∙◌, ℕ, ◌+◌, ◌≤◌, Bool, true, false, cond, List, [], ◌∷◌, ◌++◌, map, Option, None, Some, arith}
use Rattle.std.specs.Prelude.{nat_eq, nat_lt, option_map, ◌||◌}
use Rattle.ui_machine.specs.Seq.{total}
use Rattle.ui_machine.specs.Definition.{Definition}
use Rattle.ui_machine.specs.Definition.Kinds.{Kind}
use Rattle.ui_machine.specs.Definition.Kinds as kinds
use Rattle.ui_machine.specs.Definition.Values.{Value}
use Rattle.ui_machine.specs.Definition.Signals.{Signal}
use Rattle.ui_machine.specs.Output.Lines as lines
use Rattle.ui_machine.specs.Rules.Accumulation.{instance_of, data_of, given_to, in_stage, running_handler}
use Rattle.ui_machine.specs.Rules.EmissionPlan.{signal_of}
use Rattle.ui_machine.specs.Rules.Programs.{all_fit, first_frame}
use Rattle.ui_machine.specs.Rules.Transform.{kind_fits}
use Rattle.ui_machine.specs.State.Config.{said}
use Rattle.ui_machine.specs.State.Handlers.{Handler, handler_of}
use Rattle.ui_machine.specs.State.Tasks as config
use Rattle.ui_machine.specs.State.Tasks.{PlanEntry, class_handler, handler, Emission, Task, Emitting, Running}
use Rattle.ui_machine.specs.Steps.{uncounted}
use Rattle.law_typing.specs.Rules.RegisterKinds.{Kinds, class_at}
use Rattle.law_typing.specs.Rules.Signatures.{given_kinds, data_kinds, result_fits}
use Rattle.law_typing.specs.Graph.Tables.{of_program}
use Rattle.law_typing.specs.Verdict.Accepted.{Each}
use Rattle.law_typing.specs.Laws.StepsKeepGood.{IsGood}
use Rattle.law_typing.specs.Good.Standing.{Standing, standing, view, class_by, LivesIf}
use Rattle.law_typing.specs.Good.ComingDown.{given}
use Rattle.law_typing.specs.Good.DueCosts.{turn_cost, turn_depth}
use Rattle.law_typing.specs.Good.Handlers.{HandlerGood, data_kind}
use Rattle.law_typing.specs.Good.Emissions.{EmissionFits, TurnGood, EmittingGood}
use Rattle.law_steps.specs.Kept.Alike.{Alike}
use Rattle.law_static.specs.Fits.{AllHold}
use Rattle.law_steps.proofs.Tasked.First.{First, good_of, fine_where, StepIsFine, fine_of, whole_told, pool_alike, build_alike, costs, depths}
use Rattle.law_steps.proofs.Tasked.Above.{later, begins_above}
use Rattle.law_steps.proofs.Tasked.Begun.{Begun, begun, hold_both, args_hold, stands_hold, each_found}
use Rattle.law_steps.specs.Tasked.Turns.{ClassHandlersAreFine, HandlersAreFine}

some_same : {A : Type 0} (x y : A) → Some x ≡ Some y → x ≡ y
some_same x y e = cc

-- the signal of an emission is the one that a program takes it for
same_signal : (d : Definition) (s : Standing) (e : Emission) (fits : EmissionFits d s e) (place class : ℕ) (sig : Signal) → s e.object ≡ Some place → class_at d place ≡ Some class →
    signal_of d class e.signal ≡ Some sig → sig ≡ fits.sig
same_signal d s e fits place class sig is of_class has =
    let p = some_same place fits.place (sym is ∙ fits.is) in
    let c = some_same class fits.class (sym of_class ∙ (ap (class_at d) p ∙ fits.of_class)) in
    some_same sig fits.sig (sym has ∙ (ap (λ c. signal_of d c e.signal) c ∙ fits.has))

-- the data of a handler
data_hold : (d : Definition) (s : Standing) (h : Handler) → LivesIf s h.arg → AllHold d s (data_of h) (data_kinds (data_kind s h.arg))
data_hold d s h lives = go h.arg lives
  where
    go : (arg : Option ℕ) → LivesIf s arg → AllHold d s (data_of (record h { arg = arg })) (data_kinds (data_kind s arg))
    go None lives = tt
    go (Some id) lives =
        let kind : data_kind s (Some id) ≡ Some (kinds.at lives.place) = ap (λ o. option_map kinds.at o) lives.is in
        subst (λ k. AllHold d s (data_of (record h { arg = Some id })) (data_kinds k)) (sym kind) (stands_hold d s id lives.place lives.is, tt)

-- what a handler is given holds what it is said to
given_holds : (d : Definition) (s : Standing) (e : Emission) (h : Handler) (place : ℕ) (params : List Kind) → s e.object ≡ Some place →
    all_fit (kind_fits (class_by d s) d.types) e.args params ≡ true → LivesIf s h.arg →
    AllHold d s (given_to e h) (given_kinds h.swapped (kinds.at place) params (data_kind s h.arg))
given_holds d s e h place params is args lives = go h.swapped
  where
    go : (b : Bool) → AllHold d s (cond b (data_of h ++ (e.args ++ instance_of e ∷ [])) (instance_of e ∷ (e.args ++ data_of h))) (given_kinds b (kinds.at place) params (data_kind s h.arg))
    go true =
        hold_both d s (data_of h) (e.args ++ instance_of e ∷ []) (data_kinds (data_kind s h.arg)) (map kinds.plain params ++ kinds.at place ∷ []) (data_hold d s h lives)
        (hold_both d s e.args (instance_of e ∷ []) (map kinds.plain params) (kinds.at place ∷ []) (args_hold d s e.args params args) (stands_hold d s e.object place is, tt))
    go false =
        (stands_hold d s e.object place is, hold_both d s e.args (data_of h) (map kinds.plain params) (data_kinds (data_kind s h.arg)) (args_hold d s e.args params args) (data_hold d s h lives))

-- values that hold go on to hold with no kinds behind theirs: a class handler has no data
hold_end : (d : Definition) (s : Standing) (vs : List Value) (ks : Kinds) → AllHold d s vs ks → AllHold d s vs (ks ++ [])
hold_end d s [] [] all = tt
hold_end d s [] (k ∷ ks) all = absurd all
hold_end d s (v ∷ vs) [] all = absurd all
hold_end d s (v ∷ vs) (k ∷ ks) all = (all.0, hold_end d s vs ks all.1)

module _ {d : Definition} {e : Emission} {turn : PlanEntry} {turns : List PlanEntry} (t : First d (Emitting e (turn ∷ turns))) where
  open t use {well, a, w, rest, n, g}

  -- ** the turn is passed over

  past_alike : Alike (Emitting e (turn ∷ turns) ∷ rest) (Emitting e turns ∷ rest)
  past_alike = record { items = λ f. refl; unset = λ number. refl; request_step = refl; makes = refl }

  pub passed_over : IsGood d a t.most_counted (record { world = w; agenda = Emitting e turns ∷ rest; counted = n })
  passed_over =
      let old = g.agenda.3 in
      good_of t w (Emitting e turns ∷ rest)
      (record {
        objects = refl;
        whole = whole_told t (Emitting e turns ∷ rest) w.transcript w.result past_alike;
        pool = pool_alike t (Emitting e turns ∷ rest) past_alike;
        to_make = refl;
        makes = omega arith;
        build = build_alike t (Emitting e turns ∷ rest) past_alike;
        frozen = λ id. refl;
        lowest = λ id some. omega arith;
        no_set = (let none = g.sets.first in omega (arith, none));
        no_source = g.sets.alone;
        budget = g.agenda.0 + g.agenda.2;
        less = omega arith;
        good = (
          g.agenda.0,
          g.agenda.1,
          g.agenda.2,
          record { fits = old.fits; suits = old.suits; turns_fit = old.turns_fit.1; cheap = (let c = old.cheap in omega (arith, c)); shallow = old.shallow.1; one = old.one },
          g.agenda.4,
          omega arith,
          g.agenda.6,
        );
      })

  -- ** the turn begins a program

  -- the emission, perhaps in its cleanup stage
  abbrev staged : Bool → Emission
  staged cleanup = record e { cleanup = cleanup }

  turn_staged : (cleanup : Bool) (x : PlanEntry) → TurnGood d (view w) e x → TurnGood d (view w) (staged cleanup) x
  turn_staged cleanup (class_handler program c) h = h
  turn_staged cleanup (handler number) h = h
  turn_staged cleanup (config.transfer number back) h = h

  turns_staged : (cleanup : Bool) (xs : List PlanEntry) → Each (TurnGood d (view w) e) xs → Each (TurnGood d (view w) (staged cleanup)) xs
  turns_staged cleanup [] all = tt
  turns_staged cleanup (x ∷ xs) all = (turn_staged cleanup x all.0, turns_staged cleanup xs all.1)

  emitting_left : (cleanup : Bool) (own : Option Kind) → result_fits d own g.agenda.3.fits.sig.result ≡ true →
      EmittingGood d (costs t) (depths t) (view w) (given own) rest (staged cleanup) turns (total (turn_cost d (costs t) (view w) rest) turns) g.agenda.1
  emitting_left cleanup own fit =
      let old = g.agenda.3 in
      record {
        fits = record {
          place = old.fits.place;
          class = old.fits.class;
          sig = old.fits.sig;
          is = old.fits.is;
          of_class = old.fits.of_class;
          has = old.fits.has;
          args = old.fits.args;
          value = old.fits.value;
        };
        suits = fit;
        turns_fit = turns_staged cleanup turns old.turns_fit.1;
        cheap = omega arith;
        shallow = old.shallow.1;
        one = old.one;
      }

  module _ (cleanup : Bool) (program : ℕ) (args : List Value) (b : Begun d well a w g.objects program args g.agenda.3.fits.sig.result)
      (cheap : of_program (costs t) program ≤ turn_cost d (costs t) (view w) rest turn) (shallow : of_program (depths t) program ≤ turn_depth d (depths t) (view w) rest turn) where
    pub begins_well : IsGood d a t.most_counted (record { world = said d w (lines.run b.p.name); agenda = later t program args g.agenda.3.fits.sig.result b (Emitting (staged cleanup) turns); counted = n })
    begins_well =
        begins_above t program args g.agenda.3.fits.sig.result b (Emitting (staged cleanup) turns)
        (record {
          alike = record { items = λ f. refl; unset = λ number. refl; request_step = refl; makes = refl };
          frozen = λ id. refl;
          no_set = refl;
          no_source = refl;
          build = λ build. build;
          left = total (turn_cost d (costs t) (view w) rest) turns + g.agenda.2;
          cheap = (let c = g.agenda.3.cheap in omega (arith, c, cheap));
          shallow = (let deep = g.agenda.3.shallow.0 in let low = g.agenda.4 in omega (arith, deep, low, shallow));
          good = (
            total (turn_cost d (costs t) (view w) rest) turns,
            g.agenda.1,
            g.agenda.2,
            emitting_left cleanup b.p.result b.gives,
            g.agenda.4,
            omega arith,
            g.agenda.6,
          );
        })

-- ** the steps

module _ {d : Definition} (e : Emission) (program : ℕ) (cleanup : Bool) (turns : List PlanEntry) (t : First d (Emitting e (class_handler program cleanup ∷ turns))) where
  open t use {well, a, w, rest, n, g}

  class_begun : Begun d well a w g.objects program (instance_of e ∷ e.args) g.agenda.3.fits.sig.result
  class_begun =
      let fits = g.agenda.3.fits in
      let x = g.agenda.3.turns_fit.0 in
      let takes = x.allowed in
      let same = same_signal d (standing w.objects) e fits x.place takes.0 takes.1 x.is takes.2 takes.3 in
      let args = subst (λ (sig : Signal). all_fit (kind_fits (class_by d (standing w.objects)) d.types) e.args sig.params ≡ true) (sym same) fits.args in
      let held : AllHold d (standing w.objects) (instance_of e ∷ e.args) (given_kinds false (kinds.at x.place) takes.1.params None) = (stands_hold d (standing w.objects) e.object x.place x.is, hold_end d (standing w.objects) e.args (map kinds.plain takes.1.params) (args_hold d (standing w.objects) e.args takes.1.params args)) in
      subst (λ (sig : Signal). Begun d well a w g.objects program (instance_of e ∷ e.args) sig.result) same
      (begun d well a w g.objects program (instance_of e ∷ e.args) (given_kinds false (kinds.at x.place) takes.1.params None) takes.1.result takes.4 held)

  class_fine : StepIsFine t
  class_fine =
      let b = class_begun in
      fine_where t (record { world = said d w (lines.run b.p.name); agenda = Running (first_frame program b.p (instance_of e ∷ e.args)) ∷ Emitting (in_stage cleanup e) turns ∷ rest; counted = n })
      (ap (uncounted rest n) (b.leads (Emitting (in_stage cleanup e) turns ∷ [])))
      (begins_well t (e.cleanup || cleanup) program (instance_of e ∷ e.args) b (omega arith) (omega arith))

pub class_handlers_are_fine : ClassHandlersAreFine
class_handlers_are_fine e program cleanup turns = fine_of (λ d t. class_fine e program cleanup turns t)

module _ {d : Definition} (e : Emission) (number : ℕ) (turns : List PlanEntry) (t : First d (Emitting e (handler number ∷ turns))) where
  open t use {well, a, w, rest, n, g}

  handler_begun : (h : Handler) → handler_of number w.handlers ≡ Some h → Begun d well a w g.objects h.program (given_to e h) g.agenda.3.fits.sig.result
  handler_begun h is =
      let fits = g.agenda.3.fits in
      let turn = g.agenda.3.turns_fit.0.1 h is in
      let good = each_found (HandlerGood d (standing w.objects)) (λ (h : Handler). nat_eq h.number number) w.handlers h g.handlers.each is in
      let takes = good.at.allowed in
      let here : standing w.objects e.object ≡ Some good.at.place = ap (standing w.objects) (sym turn.0) ∙ good.at.is in
      let has : signal_of d takes.0 e.signal ≡ Some takes.1 = ap (signal_of d takes.0) (sym turn.1) ∙ takes.3 in
      let same = same_signal d (standing w.objects) e fits good.at.place takes.0 takes.1 here takes.2 has in
      let args = subst (λ (sig : Signal). all_fit (kind_fits (class_by d (standing w.objects)) d.types) e.args sig.params ≡ true) (sym same) fits.args in
      let held = given_holds d (standing w.objects) e h good.at.place takes.1.params here args good.arg in
      subst (λ (sig : Signal). Begun d well a w g.objects h.program (given_to e h) sig.result) same
      (begun d well a w g.objects h.program (given_to e h) (given_kinds h.swapped (kinds.at good.at.place) takes.1.params (data_kind (standing w.objects) h.arg)) takes.1.result takes.4 held)

  does : (o : Option Handler) → handler_of number w.handlers ≡ o → uncounted rest n (running_handler d w e turns (handler_of number w.handlers)) ≡ uncounted rest n (running_handler d w e turns o)
  does o is = ap (λ o. uncounted rest n (running_handler d w e turns o)) is

  handler_fine : (o : Option Handler) → handler_of number w.handlers ≡ o → StepIsFine t
  handler_fine None is = fine_where t (record { world = w; agenda = Emitting e turns ∷ rest; counted = n }) (does None is) (passed_over t)
  handler_fine (Some h) is = go (nat_lt 0 h.blocks) refl
    where
      go : (b : Bool) → nat_lt 0 h.blocks ≡ b → StepIsFine t
      go true blocked =
          fine_where t (record { world = w; agenda = Emitting e turns ∷ rest; counted = n })
          (does (Some h) is ∙ rw blocked refl)
          (passed_over t)
      go false runs =
          let b = handler_begun h is in
          fine_where t (record { world = said d w (lines.run b.p.name); agenda = Running (first_frame h.program b.p (given_to e h)) ∷ Emitting e turns ∷ rest; counted = n })
          (does (Some h) is ∙ (rw runs refl ∙ ap (uncounted rest n) (b.leads (Emitting e turns ∷ []))))
          (begins_well t e.cleanup h.program (given_to e h) b (rw is (omega arith)) (rw is (omega arith)))

pub handlers_are_fine : HandlersAreFine
handlers_are_fine e number turns = fine_of (λ d t. handler_fine e number turns t (handler_of number t.w.handlers) refl)
