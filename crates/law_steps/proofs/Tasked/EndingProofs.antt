-- An emission ends: the program that waits for its result takes it. And a construction ends that is not the builder's.
use Rattle.std.proofs.Common.{◌≡◌, refl, sym, ap, subst, ◌∙◌, ℕ, zero, suc, Bool, true, false, cond, List, [], ◌∷◌, ◌++◌, Option, None, Some, Ok, slice_get, arith}
use Rattle.std.specs.Prelude.{nat_eq, option_map, is_some}
use Rattle.std.specs.List.{list_all}
use Rattle.ui_machine.specs.Seq.{read, write}
use Rattle.ui_machine.specs.Definition.{Definition, Class}
use Rattle.ui_machine.specs.Definition.Lookups.{no_class}
use Rattle.ui_machine.specs.Definition.Kinds as kinds
use Rattle.ui_machine.specs.Definition.Kinds.{Kind}
use Rattle.ui_machine.specs.Definition.Places.{Place}
use Rattle.ui_machine.specs.Definition.Signals.{Signal}
use Rattle.ui_machine.specs.Definition.Values.{Value}
use Rattle.ui_machine.specs.Output.Lines as lines
use Rattle.ui_machine.specs.Output.Text.{text_of_line}
use Rattle.ui_machine.specs.Rules.Accumulation.{resulting, or_zero, result_of, taken, passed_down, told, ending}
use Rattle.ui_machine.specs.Rules.Transform.{kind_fits}
use Rattle.ui_machine.specs.Rules.EmissionPlan.{signal_of, signal_at}
use Rattle.ui_machine.specs.State.Config.{World}
use Rattle.ui_machine.specs.State.Objects.{Object, living}
use Rattle.ui_machine.specs.State.Tasks.{Emission, Frame, Task, Setting, Notifying, Beginning, Emitting, Transferring, Unsetting, Thawing, Running, Answering, Calling, Constructing, Building, Handling, Due}
use Rattle.ui_machine.specs.Rules.Construction.{constructed}
use Rattle.ui_machine.specs.Steps.{left, uncounted}
use Rattle.law_typing.specs.Rules.RegisterKinds.{Kinds, class_at}
use Rattle.law_typing.specs.Graph.Tables.{Tables}
use Rattle.law_typing.specs.Laws.WellRead.{WellRead, result_has_values, has_values}
use Rattle.law_typing.specs.Good.Standing.{Standing, standing, view, View, class_by}
use Rattle.law_typing.specs.Good.Objects.{ObjectsGood}
use Rattle.law_typing.specs.Good.ComingDown.{none, results, result_of_emission, awaited, Comes}
use Rattle.law_typing.specs.Good.Programs.{RunningGood}
use Rattle.law_typing.specs.Good.Emissions.{EmissionFits}
use Rattle.law_typing.specs.Good.Agenda.{AgendaGood}
use Rattle.law_steps.proofs.Kept.NewProofs.{at_place}
use Rattle.law_typing.proofs.Lists.{both_parts}
use Rattle.law_typing.proofs.Numbered.{all_get}
use Rattle.law_steps.proofs.Instructed.Converted.{or_zero_fits}
use Rattle.law_steps.proofs.Tasked.First.{First, fine_where, StepIsFine, fine_of, costs, depths, most}
use Rattle.law_steps.proofs.Tasked.Received.{Above, first, fine_above_these, after_value, goes_on, register_is, kept_of, frozen_still, receives, received}
use Rattle.law_steps.proofs.Tasked.Done.{done}
use Rattle.law_steps.specs.Tasked.Ending.{EmissionsEnd, ConstructionsEnd}

-- whether the first of these is a program that waits for an emission's result
abbrev waits : List Task → Bool
waits (Running f ∷ rest) = is_some f.into
waits rest = false

-- ** what an emission results in

-- the object of an emission and its signal
pub record Emits (d : Definition) (w : World) (e : Emission) (sig : Signal) : Type 0 where
  pub o : Object
  pub lives : living w.objects e.object ≡ Some o
  pub has : signal_of d o.class e.signal ≡ Some sig

pub emits : (d : Definition) (w : World) → ObjectsGood d w → (e : Emission) (fits : EmissionFits d (standing w.objects) e) → Emits d w e fits.sig
emits d w objects e fits =
    let x = at_place w.objects e.object fits.place fits.is in
    let o = objects e.object x.0 x.1 in
    let class : x.0.class ≡ fits.class = (
    let at : class_at d x.0.place ≡ Some o.place.class = ap (option_map (λ (p : Place). p.class)) o.is in
    let f : class_at d x.0.place ≡ Some fits.class = ap (class_at d) x.2 ∙ fits.of_class in
    let c = o.class in
    cc) in
    record { o = x.0; lives = x.1; has = ap (λ c. signal_of d c e.signal) class ∙ fits.has }

results_in : (d : Definition) (w : World) (e : Emission) (sig : Signal) → Emits d w e sig → resulting d w e ≡ Ok (result_of d sig.result e.value)
unfolding resulting signal_at
results_in d w e sig x = let a = x.lives in let b = x.has in rw (a, b) refl

-- ** what is reported of it

-- a line is perhaps said, and a value reported
record Told (d : Definition) (w : World) (by_event : Bool) (v : Option Value) : Type 0 where
  pub lines : List (List ℕ)
  pub value : Option Value
  pub is : told d w by_event v ≡ record w { transcript = lines; result = value }

tells : (d : Definition) (w : World) (by_event : Bool) (v : Option Value) → Told d w by_event v
tells d w by_event None = record { lines = w.transcript; value = w.result; is = refl }
tells d w false (Some v) = record { lines = w.transcript; value = w.result; is = refl }
tells d w true (Some v) = record { lines = w.transcript ++ text_of_line d.types (lines.result v) ∷ []; value = Some v; is = refl }

-- ** where it goes

not_waiting : (f : Frame) → is_some f.into ≡ false → f.into ≡ None
not_waiting f e = go f.into e
  where
    go : (into : Option ℕ) → is_some into ≡ false → into ≡ None
    go None e = refl
    go (Some to) e = absurd (cc)

passes : (rest : List Task) (v : Option Value) → waits rest ≡ false → passed_down rest v ≡ Ok rest
passes (Running f ∷ rest) v e = let none = not_waiting f e in rw none refl
passes [] v e = refl
passes (Setting id slot x ∷ rest) v e = refl
passes (Notifying id slot ∷ rest) v e = refl
passes (Beginning x ∷ rest) v e = refl
passes (Emitting x turns ∷ rest) v e = refl
passes (Transferring number back ∷ rest) v e = refl
passes (Unsetting number ∷ rest) v e = refl
passes (Thawing id slots ∷ rest) v e = refl
passes (Answering source ∷ rest) v e = refl
passes (Calling call ∷ rest) v e = refl
passes (Constructing id todo held ∷ rest) v e = refl
passes (Building items ∷ rest) v e = refl
passes (Handling request ∷ rest) v e = refl
passes (Due source ∷ rest) v e = refl

-- ** the agenda below

awaits_none : (ks : Kinds) (into : Option ℕ) (k : Option Kind) → into ≡ None → awaited ks into (results k) ≡ awaited ks into none
awaits_none ks None k e = refl
awaits_none ks (Some to) k e = absurd (cc)

nothing_comes : (into : Option ℕ) → into ≡ None → Comes into none
nothing_comes None e = tt
nothing_comes (Some to) e = absurd (cc)

running_alone : (d : Definition) (costs depths : Tables) (s : Standing) (k : Option Kind) (f : Frame) (steps frames : ℕ) → f.into ≡ None →
    RunningGood d costs depths s (results k) f steps frames → RunningGood d costs depths s none f steps frames
running_alone d costs depths s k f steps frames e g =
    let same = awaits_none g.ks f.into k e in
    record {
      p = g.p;
      is = g.is;
      b = g.b;
      in_block = g.in_block;
      inside = g.inside;
      few = g.few;
      counted = g.counted;
      ks = g.ks;
      fit = g.fit;
      comes = nothing_comes f.into e;
      kept = g.kept;
      at_site = sym same ∙ g.at_site;
      typed = rw (sym same) g.typed;
      bracketed = g.bracketed;
      cheap = rw (sym same) g.cheap;
      shallow = g.shallow;
    }

-- what does not wait is as good where nothing comes
not_awaited : (d : Definition) (costs depths : Tables) (v : View) (most : ℕ) (k : Option Kind) (rest : List Task) (budget : ℕ) → waits rest ≡ false →
    AgendaGood d costs depths v most (results k) rest budget → AgendaGood d costs depths v most none rest budget
not_awaited d costs depths v most k (Running f ∷ rest) budget e g =
    (g.0, g.1, g.2, (tt, running_alone d costs depths v.stands k f g.0 g.1 (not_waiting f e) g.3.1), g.4, g.5, g.6)
not_awaited d costs depths v most k (Emitting x turns ∷ rest) budget e g =
    let old = g.3 in
    (g.0, g.1, g.2, record { fits = old.fits; suits = tt; turns_fit = old.turns_fit; cheap = old.cheap; shallow = old.shallow; one = old.one }, g.4, g.5, g.6)
not_awaited d costs depths v most k [] budget e g = tt
not_awaited d costs depths v most k (Setting id slot x ∷ rest) budget e g = g
not_awaited d costs depths v most k (Notifying id slot ∷ rest) budget e g = g
not_awaited d costs depths v most k (Beginning x ∷ rest) budget e g = g
not_awaited d costs depths v most k (Transferring number back ∷ rest) budget e g = g
not_awaited d costs depths v most k (Unsetting number ∷ rest) budget e g = g
not_awaited d costs depths v most k (Thawing id slots ∷ rest) budget e g = g
not_awaited d costs depths v most k (Answering source ∷ rest) budget e g = g
not_awaited d costs depths v most k (Calling call ∷ rest) budget e g = g
not_awaited d costs depths v most k (Constructing id todo held ∷ rest) budget e g = g
not_awaited d costs depths v most k (Building items ∷ rest) budget e g = g
not_awaited d costs depths v most k (Handling request ∷ rest) budget e g = g
not_awaited d costs depths v most k (Due source ∷ rest) budget e g = g

-- ** the steps

leads : (d : Definition) (w : World) (e : Emission) (rest : List Task) (n : ℕ) (v : Option Value) (agenda : List Task) → resulting d w e ≡ Ok v → passed_down rest v ≡ Ok agenda →
    left n (ending d w e rest) ≡ Ok (record { world = told d w e.by_event v; agenda = agenda; counted = n })
unfolding ending left
leads d w e rest n v agenda is goes = rw (is, goes) refl

module _ {d : Definition} (e : Emission) (t : First d (Emitting e [])) where
  open t use {a, w, rest, n, g}

  emission_fine : waits rest ≡ false → StepIsFine t
  emission_fine none_waits =
      let fits = g.agenda.3.fits in
      let v = result_of d fits.sig.result e.value in
      let does = leads d w e rest n v rest (results_in d w e fits.sig (emits d w g.objects e fits)) (passes rest v none_waits) in
      let said = tells d w e.by_event v in
      fine_where t (record { world = record w { transcript = said.lines; result = said.value }; agenda = rest; counted = n })
      (does ∙ ap (λ world. Ok (record { world = world; agenda = rest; counted = n })) said.is)
      (done t said.lines said.value
      (record {
        alike = record { items = λ f. omega arith; unset = λ number. omega arith; request_step = omega arith; makes = omega arith };
        frozen = λ id. refl;
        build = λ build. build;
        good = not_awaited d (costs t) (depths t) (view w) (most t) (result_of_emission d (standing w.objects) e) rest g.agenda.2 none_waits g.agenda.6;
      }))

-- ** a program waits for the result

-- whether one does, and which register is to get it
record Waiting (rest : List Task) : Type 0 where
  pub f : Frame
  pub tasks : List Task
  pub is : rest ≡ Running f ∷ tasks
  pub to : ℕ
  pub into : f.into ≡ Some to

waiting : (rest : List Task) → waits rest ≡ true → Waiting rest
waiting (Running f ∷ tasks) e = go f.into refl e
  where
    go : (into : Option ℕ) → f.into ≡ into → is_some into ≡ true → Waiting (Running f ∷ tasks)
    go None is e = absurd (cc)
    go (Some to) is e = record { f = f; tasks = tasks; is = refl; to = to; into = is }
waiting _ e = absurd (cc)

result_is : (d : Definition) (s : Standing) (e : Emission) (fits : EmissionFits d s e) → result_of_emission d s e ≡ fits.sig.result
result_is d s e fits = rw (fits.is, fits.of_class, fits.has) refl

what_comes : (into : Option ℕ) (to : ℕ) (k : Option Kind) → into ≡ Some to → Comes into (results k) → (kind : Kind) × (k ≡ Some kind)
what_comes None to k e c = absurd (cc)
what_comes (Some r) to k e c = (c.0, (let f = c.1 in let s : k ≡ Some c.0 = cc in s))

awaits : (ks : Kinds) (into : Option ℕ) (to : ℕ) (k : Option Kind) (kind : Kind) → into ≡ Some to → k ≡ Some kind → awaited ks into (results k) ≡ write kinds.unset ks to (kinds.plain kind)
awaits ks into to k kind e is = rw (e, is) refl

-- the zero value of a signal's result is of its kind
signal_read : (test : Signal → Bool) (cs : List Class) (class number : ℕ) (s : Signal) → list_all (λ (c : Class). list_all test c.signals) cs ≡ true →
    slice_get (read no_class cs class).signals number ≡ Some s → test s ≡ true
signal_read test [] class number s all e = absurd (cc)
signal_read test (c ∷ cs) zero number s all e = all_get test c.signals number s (both_parts (list_all test c.signals) _ all).0 e
signal_read test (c ∷ cs) (suc class) number s all e = signal_read test cs class number s (both_parts (list_all test c.signals) _ all).1 e

value_fits : (d : Definition) → WellRead d → (s : Standing) (e : Emission) (fits : EmissionFits d s e) (kind : Kind) → fits.sig.result ≡ Some kind →
    kind_fits (class_by d s) d.types (or_zero d kind e.value) kind ≡ true
value_fits d well s e fits kind is =
    let read = signal_read (result_has_values d) d.classes fits.class e.signal fits.sig well.types.results fits.has in
    let some : has_values d kind ≡ true = rw is at read in
    or_zero_fits (class_by d s) d.types d refl kind e.value
    (λ v has. (let x = fits.value v has in let same : x.0 ≡ kind = (let f = sym x.1 ∙ is in cc) in subst (λ kind. kind_fits (class_by d s) d.types v kind ≡ true) same x.2))
    (λ t of_kind. subst (λ k. has_values d k ≡ true) of_kind some)

module _ {d : Definition} (e : Emission) (f : Frame) (tasks : List Task) (x : Above d (Emitting e []) (Running f ∷ tasks)) (to : ℕ) (into : f.into ≡ Some to) where
  open x use {well, w, n, g}

  abbrev s : Standing
  s = standing w.objects

  awaited_fine : StepIsFine (first x)
  awaited_fine =
      let fits = g.agenda.3.fits in
      let below = g.agenda.6 in
      let kind = what_comes f.into to (result_of_emission d s e) into below.3.1.comes in
      let is : fits.sig.result ≡ Some kind.0 = sym (result_is d s e fits) ∙ kind.1 in
      let v = or_zero d kind.0 e.value in
      let up = results (result_of_emission d s e) in
      let r = below.3.1 in
      let comes = awaits r.ks f.into to (result_of_emission d s e) kind.0 into kind.1 in
      let low = register_is d (costs (first x)) (depths (first x)) s up f below.0 below.1 r to well kind.0 comes in
      let kept = kept_of d (costs (first x)) (depths (first x)) s up f below.0 below.1 r to into in
      let gives : result_of d fits.sig.result e.value ≡ Some v = ap (λ k. result_of d k e.value) is in
      let takes : passed_down (Running f ∷ tasks) (Some v) ≡ Ok (Running (after_value f to v) ∷ tasks) = ap (λ into. taken into f tasks (Some v)) into ∙ goes_on f tasks to v low in
      let does = leads d w e (Running f ∷ tasks) n (Some v) (Running (after_value f to v) ∷ tasks) (results_in d w e fits.sig (emits d w g.objects e fits) ∙ ap (λ v. Ok v) gives) takes in
      let said = tells d w e.by_event (Some v) in
      fine_where (first x) (record { world = record w { transcript = said.lines; result = said.value }; agenda = Running (after_value f to v) ∷ tasks; counted = n })
      (does ∙ ap (λ world. Ok (record { world = world; agenda = Running (after_value f to v) ∷ tasks; counted = n })) said.is)
      (received x to v said.lines said.value
      (record {
        alike = record { items = λ f. omega arith; unset = λ number. omega arith; request_step = omega arith; makes = omega arith };
        unfrozen = λ id. refl;
        build = λ build. build;
        kept = λ id. frozen_still d (costs (first x)) (depths (first x)) s up f below.0 below.1 r to v id kept;
        good = receives d (costs (first x)) (depths (first x)) s up f below.0 below.1 r to kind.0 v comes low (value_fits d well s e fits kind.0 is);
      }))

pub emissions_end : EmissionsEnd
emissions_end e = fine_of (λ d t. ends d t (waits t.rest) refl)
  where
    ends : (d : Definition) (t : First d (Emitting e [])) (b : Bool) → waits t.rest ≡ b → StepIsFine t
    ends d t false none_waits = emission_fine e t none_waits
    ends d t true waits = let p = waiting t.rest waits in fine_above_these t (Running p.f ∷ p.tasks) p.is (λ x. awaited_fine e p.f p.tasks x p.to p.into)

-- ** a construction

no_more : (b : Bool) → ◌≡◌ {A = ℕ} (cond b 0 0) 0
no_more true = refl
no_more false = refl

made : (w : World) (id : ℕ) (rest : List Task) (n : ℕ) → uncounted rest n (constructed w id false) ≡ Ok (record { world = w; agenda = rest; counted = n })
unfolding constructed
made w id rest n = refl

pub constructions_end : ConstructionsEnd
constructions_end id = fine_of (λ d t. good d t)
  where
    good : (d : Definition) (t : First d (Constructing id [] false)) → StepIsFine t
    good d t =
        fine_where t (record { world = t.w; agenda = t.rest; counted = t.n }) (made t.w id t.rest t.n)
        (done t t.w.transcript t.w.result
        (record {
          alike = record { items = λ f. omega arith; unset = λ number. omega arith; request_step = omega arith; makes = omega arith };
          frozen = λ x. no_more (nat_eq id x);
          build = λ build. build;
          good = t.g.agenda.6;
        }))
