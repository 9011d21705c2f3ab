-- A program ends: what it gives is of the kind that it says, and goes to what lies below it.
use Rattle.std.proofs.Common.{◌≡◌, inl, refl, sym, ap, subst, ◌∙◌, ℕ, suc, ◌≤◌, Bool, true, List, [], ◌∷◌, Option, None, Some, Ok, arith}
use Rattle.std.specs.Prelude.{is_none}
use Rattle.ui_machine.specs.Seq.{read, total}
use Rattle.ui_machine.specs.Definition.Kinds.{Kind, RegisterKind}
use Rattle.ui_machine.specs.Definition.Kinds as kinds
use Rattle.ui_machine.specs.Definition.Values.{Value}
use Rattle.ui_machine.specs.Definition.Values as values
use Rattle.ui_machine.specs.Definition.{Definition}
use Rattle.ui_machine.specs.Definition.Lookups.{program_at}
use Rattle.ui_machine.specs.Definition.Programs.{Instruction, Program}
use Rattle.ui_machine.specs.Definition.Programs as words
use Rattle.ui_machine.specs.State.Objects.{class_in}
use Rattle.ui_machine.specs.State.Tasks.{PlanEntry, Emission, Frame, Task, Setting, Notifying, Beginning, Emitting, Transferring, Unsetting, Thawing, Running, Answering, Calling, Constructing, Building, Handling, Due}
use Rattle.ui_machine.specs.State.Config.{BuilderEntry, World, leaves}
use Rattle.ui_machine.specs.Rules.Accumulation.{suits, given_down, down_to_emission, down_to_source, collecting}
use Rattle.ui_machine.specs.Rules.MainLoop.{answered}
use Rattle.ui_machine.specs.Rules.Transform.{kind_fits}
use Rattle.ui_machine.specs.Instructions.Jumps.{given_by, returned, returning, past}
use Rattle.ui_machine.specs.Steps.{left}
use Rattle.law_typing.specs.Rules.RegisterKinds.{kind_in, fits}
use Rattle.law_typing.specs.Rules.Typing.{is_result}
use Rattle.law_typing.specs.Graph.Tables.{Tables}
use Rattle.law_typing.specs.Good.Standing.{standing, view, class_by, holds}
use Rattle.law_typing.specs.Good.ComingDown.{none, given, down, result_of_program}
use Rattle.law_typing.specs.Good.Agenda.{AgendaGood}
use Rattle.ui_machine.specs.State.Sources.{Source}
use Rattle.law_typing.specs.Verdict.Accepted.{Each}
use Rattle.law_typing.specs.Laws.WellRead.{TypesRead}
use Rattle.law_typing.specs.Graph.{graph}
use Rattle.law_typing.specs.Graph.Depths.{depth}
use Rattle.law_typing.specs.Good.Objects.{ObjectsGood}
use Rattle.law_typing.specs.Good.Bindings.{SourceGood}
use Rattle.law_typing.specs.Good.Builds.{BuildGood}
use Rattle.law_typing.specs.Good.Freezes.{frozen_by, below_lowest, is_due_set, is_due_source}
use Rattle.law_steps.specs.Kept.Agenda.{Serves}
use Rattle.law_steps.proofs.Kept.AgendaProofs.{agenda_served}
use Rattle.law_steps.proofs.Kept.SourcesProofs.{sources_answered}
use Rattle.law_steps.proofs.Instructed.Inverse.{truth_at}
use Rattle.law_static.proofs.FitsProofs.{holds_set, holds_kind, classes_agree}
use Rattle.law_steps.specs.Kept.Alike.{Alike}
use Rattle.law_steps.proofs.Instructed.Around.{r, taken, fine_where, StepIsFine, fine_of}
use Rattle.law_steps.proofs.Instructed.Around as around
use Rattle.law_steps.proofs.Instructed.Lists.{lists_of}
use Rattle.law_steps.proofs.Instructed.Typed.{returning_is}
use Rattle.law_steps.proofs.Instructed.Below.{suits_further, running_none, collect}
use Rattle.law_steps.proofs.Instructed.Ended.{ended_well, lowest_falls}
use Rattle.law_steps.specs.Instructed.Returning.{ReturnsAreFine}

-- ** where it goes

-- what is left, with the sources that there are then
pub record Lands (d : Definition) (costs depths : Tables) (most : ℕ) (w : World) (rest : List Task) (budget : ℕ) (v : Option Value) : Type 0 where
  pub agenda : List Task
  pub sources : List Source
  pub is : given_down d w rest v ≡ Ok (record { world = record w { sources = sources }; agenda = agenda })
  pub good_sources : Each (SourceGood d (standing w.objects)) sources
  pub alike : Alike rest agenda
  pub frozen : (id : ℕ) → total (frozen_by d id) agenda ≡ total (frozen_by d id) rest
  pub lowest : (id : ℕ) → below_lowest d id agenda ≤ below_lowest d id rest
  pub no_set : total is_due_set agenda ≡ 0
  pub no_source : total is_due_source agenda ≡ 0
  pub build : (builder : List BuilderEntry) → BuildGood d builder agenda rest → BuildGood d builder agenda agenda
  pub left : ℕ
  pub less : left ≤ budget
  pub good : AgendaGood d costs depths (view (record w { sources = sources })) most none agenda left

emission_goes : (d : Definition) (w : World) (e : Emission) (turns : List PlanEntry) (tasks : List Task) (v : Option Value) (x : Emission) (more : List PlanEntry) →
    collecting d w e turns v ≡ Ok (Emitting x more) → given_down d w (Emitting e turns ∷ tasks) v ≡ Ok (record { world = w; agenda = Emitting x more ∷ tasks })
unfolding down_to_emission
emission_goes d w e turns tasks v x more is = rw is refl

source_goes : (d : Definition) (w : World) (source : ℕ) (tasks : List Task) (v : Option Value) (b : Bool) → v ≡ Some (values.bool b) →
    given_down d w (Answering source ∷ tasks) v ≡ Ok (record { world = record w { sources = answered w.moment source b w.sources }; agenda = tasks })
unfolding down_to_source
source_goes d w source tasks v b e = rw e refl

module _ (d : Definition) (types : TypesRead d) (costs depths : Tables) (most : ℕ) (w : World) (objects : ObjectsGood d w)
    (sources : Each (SourceGood d (standing w.objects)) w.sources) (own : Option Kind) (v : Option Value)
    (fit : suits (kind_fits (class_by d (standing w.objects)) d.types) v own ≡ true) where
  none_given : own ≡ None → v ≡ None
  none_given e = go v (subst (λ k. suits (kind_fits (class_by d (standing w.objects)) d.types) v k ≡ true) e fit)
    where
      go : (v : Option Value) → suits (kind_fits (class_by d (standing w.objects)) d.types) v None ≡ true → v ≡ None
      go None e = refl
      go (Some x) e = absurd (cc)

  -- what takes no result stays as it is
  same : (rest : List Task) (left : ℕ) → own ≡ None → given_down d w rest None ≡ leaves w rest → AgendaGood d costs depths (view w) most none rest left →
      ((builder : List BuilderEntry) → BuildGood d builder rest rest → BuildGood d builder rest rest) → total is_due_set rest ≡ 0 → total is_due_source rest ≡ 0 → Lands d costs depths most w rest left v
  same rest left no_own is good build no_set no_source = record {
    agenda = rest;
    sources = w.sources;
    is = ap (given_down d w rest) (none_given no_own) ∙ is;
    good_sources = sources;
    alike = record { items = λ f. refl; unset = λ number. refl; request_step = refl; makes = refl };
    frozen = λ id. refl;
    lowest = λ id. omega arith;
    no_set = no_set;
    no_source = no_source;
    build = build;
    left = left;
    less = omega arith;
    good = good;
  }

  -- an emission collects it
  emission_takes : (e : Emission) (turns : List PlanEntry) (tasks : List Task) (left : ℕ) → AgendaGood d costs depths (view w) most (given own) (Emitting e turns ∷ tasks) left →
      total is_due_set tasks ≡ 0 → total is_due_source tasks ≡ 0 → Lands d costs depths most w (Emitting e turns ∷ tasks) left v
  emission_takes e turns tasks left g no_set no_source =
      let c = collect d types costs depths w objects tasks g.0 g.1 own e turns v g.3 fit in
      record {
        agenda = Emitting c.emission c.left ∷ tasks;
        sources = w.sources;
        is = emission_goes d w e turns tasks v c.emission c.left c.is;
        good_sources = sources;
        alike = record { items = λ f. refl; unset = λ number. refl; request_step = refl; makes = refl };
        frozen = λ id. refl;
        lowest = λ id. omega arith;
        no_set = omega (arith, no_set);
        no_source = omega (arith, no_source);
        build = λ builder b. b;
        left = left;
        less = omega arith;
        good = (g.0, g.1, g.2, c.good, g.4, g.5, subst (λ up. AgendaGood d costs depths (view w) most up tasks g.2) (sym (passes c.emission c.left c.object c.signal)) g.6);
      }
    where
      passes : (x : Emission) (more : List PlanEntry) → x.object ≡ e.object → x.signal ≡ e.signal → down d (view w) (Emitting x more) ≡ down d (view w) (Emitting e turns)
      passes x more a b = rw (a, b) refl

  -- a source stays or ends by it
  source_takes : (source : ℕ) (tasks : List Task) (left : ℕ) → AgendaGood d costs depths (view w) most (given own) (Answering source ∷ tasks) left →
      total is_due_set tasks ≡ 0 → total is_due_source tasks ≡ 0 → Lands d costs depths most w (Answering source ∷ tasks) left v
  source_takes source tasks left g no_set no_source =
      let b = truth v (suits_further d types (standing w.objects) v own (Some kinds.bool) fit g.3) in
      let next = answered w.moment source b.0 w.sources in
      record {
        agenda = tasks;
        sources = next;
        is = source_goes d w source tasks v b.0 b.1;
        good_sources = sources_answered d (standing w.objects) w.sources w.moment source b.0 sources;
        alike = record { items = λ f. omega arith; unset = λ number. omega arith; request_step = omega arith; makes = omega arith };
        frozen = λ id. omega arith;
        lowest = λ id. lowest_falls d id (Answering source) tasks;
        no_set = no_set;
        no_source = no_source;
        build = λ builder b. b;
        left = g.2;
        less = (let split = g.5 in omega (arith, split));
        good = agenda_served d costs depths most none tasks g.2 (view w) (view (record w { sources = next })) (serves next) g.6;
      }
    where
      truth : (v : Option Value) → suits (kind_fits (class_by d (standing w.objects)) d.types) v (Some kinds.bool) ≡ true → (b : Bool) × (v ≡ Some (values.bool b))
      truth None e = absurd (cc)
      truth (Some x) e = truth_at d (standing w.objects) (kinds.plain kinds.bool) (Some x) refl e

      serves : (next : List Source) → Serves d tasks (view w) (view (record w { sources = next }))
      serves next = record {
        stands = λ id some place is. is;
        held = λ place id at here is. is;
        builder = refl;
        last = omega arith;
        handlers = λ number low h is. (h, is, refl, refl, refl);
        bindings = λ number b is. is;
        sources = inl no_source;
        peers = λ number p is. (p, is, refl);
      }

  pub lands : (rest : List Task) (left : ℕ) → AgendaGood d costs depths (view w) most (given own) rest left → total is_due_set rest ≡ 0 → total is_due_source rest ≡ 0 →
      Lands d costs depths most w rest left v
  lands [] left g s q = same [] left g refl tt (λ builder b. b) s q
  lands (Setting id slot x ∷ tasks) left g s q = same (Setting id slot x ∷ tasks) left g.3.0 refl (g.0, g.1, g.2, (tt, g.3.1), g.4, g.5, g.6) (λ builder b. b) s q
  lands (Notifying id slot ∷ tasks) left g s q = same (Notifying id slot ∷ tasks) left g.3.0 refl (g.0, g.1, g.2, (tt, g.3.1), g.4, g.5, g.6) (λ builder b. b) s q
  lands (Beginning e ∷ tasks) left g s q = same (Beginning e ∷ tasks) left g.3.0 refl (g.0, g.1, g.2, (tt, g.3.1), g.4, g.5, g.6) (λ builder b. b) s q
  lands (Emitting e turns ∷ tasks) left g s q = emission_takes e turns tasks left g (omega (arith, s)) (omega (arith, q))
  lands (Transferring number back ∷ tasks) left g s q = same (Transferring number back ∷ tasks) left g.3.0 refl (g.0, g.1, g.2, (tt, g.3.1), g.4, g.5, g.6) (λ builder b. b) s q
  lands (Unsetting number ∷ tasks) left g s q = same (Unsetting number ∷ tasks) left g.3 refl (g.0, g.1, g.2, tt, g.4, g.5, g.6) (λ builder b. b) s q
  lands (Thawing id slots ∷ tasks) left g s q = same (Thawing id slots ∷ tasks) left g.3.0 refl (g.0, g.1, g.2, (tt, g.3.1), g.4, g.5, g.6) (λ builder b. b) s q
  lands (Running frame ∷ tasks) left g s q =
      same (Running frame ∷ tasks) left g.3.0 refl
      (g.0, g.1, g.2, (tt, running_none d costs depths (standing w.objects) own frame g.0 g.1 g.3.1), g.4, g.5, g.6) (λ builder b. b) s q
  lands (Answering source ∷ tasks) left g s q = source_takes source tasks left g (omega (arith, s)) (omega (arith, q))
  lands (Calling call ∷ tasks) left g s q = same (Calling call ∷ tasks) left g.3.0 refl (g.0, g.1, g.2, (tt, g.3.1), g.4, g.5, g.6) (λ builder b. b) s q
  lands (Constructing id todo held ∷ tasks) left g s q = same (Constructing id todo held ∷ tasks) left g.3.0 refl (g.0, g.1, g.2, (tt, g.3.1, g.3.2), g.4, g.5, g.6) (λ builder b. b) s q
  lands (Building items ∷ tasks) left g s q = same (Building items ∷ tasks) left g.3.0 refl (g.0, g.1, g.2, (tt, g.3.1, g.3.2, g.3.3), g.4, g.5, g.6) (λ builder b. b) s q
  lands (Handling request ∷ tasks) left g s q = same (Handling request ∷ tasks) left g.3.0 refl (g.0, g.1, g.2, (tt, g.3.1, g.3.2), g.4, g.5, g.6) (λ builder b. b) s q
  lands (Due source ∷ tasks) left g s q = absurd (omega (arith, q))

-- ** what is given

module _ {d : Definition} (from : Option ℕ) (t : around.Due d (words.return from)) where
  open t use {well, a, w, f, rest, n, g}

  pub record Given : Type 0 where
    pub v : Option Value
    pub is : returned d w (past f) from ≡ Ok v
    pub fits : suits (kind_fits (class_by d (standing w.objects)) d.types) v (r t).p.result ≡ true

gives_none : (d : Definition) (w : World) (f : Frame) (p : Program) → program_at d f.program ≡ Some p → suits (kind_fits (class_in w.objects) d.types) None p.result ≡ true →
    returned d w f None ≡ Ok None
unfolding returned given_by
gives_none d w f p is fit = rw (is, fit) refl

gives_some : (d : Definition) (w : World) (f : Frame) (p : Program) (from : ℕ) (v : Value) → program_at d f.program ≡ Some p → read None f.registers from ≡ Some v →
    suits (kind_fits (class_in w.objects) d.types) (Some v) p.result ≡ true → returned d w f (Some from) ≡ Ok (Some v)
unfolding returned given_by
gives_some d w f p from v is has fit = rw (is, has, fit) refl

none_suits : (fits : Value → Kind → Bool) (result : Option Kind) → is_none result ≡ true → suits fits None result ≡ true
none_suits fits None e = refl
none_suits fits (Some k) e = absurd (cc)

return_leads : (d : Definition) (w : World) (rest : List Task) (f : Frame) (n : ℕ) (from : Option ℕ) (v : Option Value) (next : World) (agenda : List Task) → returned d w f from ≡ Ok v →
    given_down d w rest v ≡ Ok (record { world = next; agenda = agenda }) → left n (returning d w f rest from) ≡ Ok (record { world = next; agenda = agenda; counted = n })
unfolding returning left
return_leads d w rest f n from v next agenda e is = rw (e, is) refl

module _ {d : Definition} where
  fits_in : {i : Instruction} (t : around.Due d i) (v : Option Value) (result : Option Kind) → suits (kind_fits (class_by d (standing t.w.objects)) d.types) v result ≡ true →
      suits (kind_fits (class_in t.w.objects) d.types) v result ≡ true
  fits_in t v result e = ap (λ f. suits (kind_fits f d.types) v result) (classes_agree d t.w t.g.objects) ∙ e

  gives : (from : Option ℕ) (t : around.Due d (words.return from)) → Given from t
  gives None t =
      let e = returning_is d (r t).p (r t).ks None _ (taken t).typed in
      let fit = none_suits (kind_fits (class_by d (standing t.w.objects)) d.types) (r t).p.result e in
      record { v = None; is = gives_none d t.w (past t.f) (r t).p (r t).is (fits_in t None (r t).p.result fit); fits = fit }
  gives (Some from) t =
      let e = returning_is d (r t).p (r t).ks (Some from) _ (taken t).typed in
      let v = holds_set d (standing t.w.objects) (kind_in (r t).ks from) (read None t.f.registers from) e.0 ((r t).fit from) in
      let held = subst (λ x. holds d (standing t.w.objects) (kind_in (r t).ks from) x ≡ true) v.1 ((r t).fit from) in
      let fit = result_suits (kind_in (r t).ks from) v.0 (r t).p.result e.1 held in
      record { v = Some v.0; is = gives_some d t.w (past t.f) (r t).p from v.0 (r t).is v.1 (fits_in t (Some v.0) (r t).p.result fit); fits = fit }
    where
      result_suits : (k : RegisterKind) (v : Value) (result : Option Kind) → is_result d k result ≡ true → holds d (standing t.w.objects) k (Some v) ≡ true →
          suits (kind_fits (class_by d (standing t.w.objects)) d.types) (Some v) result ≡ true
      result_suits k v None e h = absurd (cc)
      result_suits k v (Some kind) e h = (holds_kind d t.well.types (standing t.w.objects) k kind v e h).0

  return_fine : (from : Option ℕ) (t : around.Due d (words.return from)) → StepIsFine t
  return_fine from t within =
      let v = gives from t in
      let below = subst (λ k. AgendaGood d t.a.weighed.costs t.a.weighed.depths (view t.w) (depth (graph d) t.a.weighed.depths) (given k) t.rest t.g.agenda.2) (ap result_of_program (r t).is) t.g.agenda.6 in
      let x = lands d t.well.types t.a.weighed.costs t.a.weighed.depths (depth (graph d) t.a.weighed.depths) t.w t.g.objects t.g.sources (r t).p.result v.v v.fits t.rest t.g.agenda.2 below t.g.sets.first t.g.sets.alone in
      fine_where t within (record { world = record t.w { sources = x.sources }; agenda = x.agenda; counted = suc t.n })
      (return_leads d t.w t.rest (past t.f) (suc t.n) from v.v (record t.w { sources = x.sources }) x.agenda v.is x.is)
      (ended_well t refl refl (record (lists_of t.w) { sources = x.sources }) x.agenda
      (record {
        lists = record {
          handlers = t.g.handlers;
          bindings = t.g.bindings;
          sources = x.good_sources;
          floating = t.g.floating;
          none = λ e. e;
          last = omega arith;
          handlers_were = λ number low h is. (h, is, refl, refl, refl);
          bindings_were = λ number b is. is;
        };
        alike = x.alike;
        frozen = x.frozen;
        lowest = x.lowest;
        no_set = x.no_set;
        no_source = x.no_source;
        build = x.build;
        budget = x.left;
        less = x.less;
        good = x.good;
      }))

pub returns_are_fine : ReturnsAreFine
returns_are_fine from = fine_of (λ d t. return_fine from t)
