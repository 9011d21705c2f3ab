-- What is good names what lives.
use Rattle.std.proofs.Common.{◌≡◌, ℕ, suc, ◌≤◌, Bool, true, false, ◌&&◌, List, [], ◌∷◌, Option, Some, None, IfSome, IsSome, is_some, option_map, slice_get, refl, sym, ◌∙◌, subst, zero}
use Rattle.ui_machine.specs.Definition.{Definition}
use Rattle.ui_machine.specs.Definition.Kinds.{Kind, RegisterKind}
use Rattle.ui_machine.specs.Definition.Kinds as kinds
use Rattle.ui_machine.specs.Definition.Lookups.{spec_of}
use Rattle.ui_machine.specs.Definition.Properties.{Spec}
use Rattle.ui_machine.specs.Definition.Values.{Value}
use Rattle.ui_machine.specs.Definition.Values as values
use Rattle.ui_machine.specs.Rules.Programs.{all_fit, place_in}
use Rattle.ui_machine.specs.Rules.Sets.{lives}
use Rattle.ui_machine.specs.Rules.Transform.{kind_fits, same_value}
use Rattle.ui_machine.specs.Rules.Validation.{clamp}
use Rattle.ui_machine.specs.Seq.{read}
use Rattle.ui_machine.specs.State.Bindings.{Binding}
use Rattle.ui_machine.specs.State.Config.{Config, World, built, unbuilt}
use Rattle.ui_machine.specs.State.Handlers.{Handler}
use Rattle.ui_machine.specs.State.Objects.{Object, Objects, living}
use Rattle.ui_machine.specs.State.Sources.{Source}
use Rattle.ui_machine.specs.State.Tasks.{Answering, Beginning, Building, Calling, Constructing, Due, Emission, Emitting, Handling, Notifying, Registers, Running, Setting, Task, Thawing, Transferring, Unsetting}
use Rattle.ui_machine.specs.Steps.{most_steps}
use Rattle.law_typing.specs.Good.{Good, Resting}
use Rattle.law_typing.specs.Good.Agenda.{AgendaGood, TaskGood}
use Rattle.law_typing.specs.Good.Bindings.{BindingGood, HeldGood, SourceGood}
use Rattle.law_typing.specs.Good.ComingDown.{Down, down, none}
use Rattle.law_typing.specs.Good.Emissions.{EmissionFits}
use Rattle.law_typing.specs.Good.Handlers.{HandlerGood}
use Rattle.law_typing.specs.Good.Living.{AllNamesLiving, EmissionNamesLiving, IsLiving, NamesLiving, TaskNamesLiving, WorldNamesLiving}
use Rattle.law_typing.specs.Good.Objects.{ObjectsGood}
use Rattle.law_typing.specs.Good.Standing.{Lives, LivesIf, Standing, class_by, holds, lives_by, standing, view}
use Rattle.law_typing.specs.Graph.{graph}
use Rattle.law_typing.specs.Graph.Channels as entries
use Rattle.law_typing.specs.Graph.Depths.{depth}
use Rattle.law_typing.specs.Graph.Tables.{Tables}
use Rattle.law_typing.specs.Laws.StepsKeepGood.{IsGood, IsResting, bound_of}
use Rattle.law_typing.specs.Laws.WellRead.{WellRead}
use Rattle.law_typing.specs.Verdict.Accepted.{Accepted, Each}
use Rattle.law_typing.proofs.Lists.{each_in}
use Rattle.law_typing.proofs.OneSolutionProofs.{find_in}
use Rattle.law_static.proofs.FitsProofs.{holds_live}
use Rattle.law_steps.proofs.Served.ThroughoutProofs.{throughout_build, throughout_request, throughout_source}
use Rattle.law_runs.specs.Living.{BuildsNameLiving, RequestsNameLiving, RestsNameLiving, SourcesNameLiving}

-- each of a list by what is so of each
each_so : {A : Type 0} (P Q : A → Type 0) → ((x : A) → P x → Q x) → (xs : List A) → Each P xs → Each Q xs
each_so P Q so [] h = tt
each_so P Q so (x ∷ xs) h = (so x h.0, each_so P Q so xs h.1)

first_holds : (a b : Bool) → (a && b) ≡ true → a ≡ true
first_holds true b h = refl
first_holds false b h = absurd (cc h)

both_hold : (a b : Bool) → (a && b) ≡ true → (a ≡ true) × (b ≡ true)
both_hold true b h = (refl, h)
both_hold false b h = absurd (cc h)

-- ** identities and values

-- an identity that has a place is one of an object
at_place : (os : Objects) (id place : ℕ) → place_in os id ≡ Some place → IsSome (living os id)
at_place os id place is = by (living os id) is
  where
    by : (o : Option Object) → option_map (λ (o : Object). o.place) o ≡ Some place → IsSome o
    by None h = absurd (cc h)
    by (Some o) h = refl

-- so is one of which this is told
is_there : (os : Objects) (id : ℕ) → is_some (place_in os id) ≡ true → is_some (living os id) ≡ true
is_there os id = by (living os id)
  where
    by : (o : Option Object) → is_some (option_map (λ (o : Object). o.place) o) ≡ true → is_some o ≡ true
    by None h = h
    by (Some o) h = refl

value_lives : (os : Objects) (v : Value) → lives_by (standing os) v ≡ true → lives os v ≡ true
value_lives os (values.bool b) h = refl
value_lives os (values.whole k n) h = refl
value_lives os (values.text s) h = refl
value_lives os (values.enum t n) h = refl
value_lives os (values.flags t n) h = refl
value_lives os (values.object None) h = refl
value_lives os (values.object (Some id)) h = is_there os id h

module _ (d : Definition) (w : World) where
  if_lives : (arg : Option ℕ) → LivesIf (standing w.objects) arg → IfSome arg (IsLiving w)
  if_lives None h = tt
  if_lives (Some id) h = at_place w.objects id h.place h.is

  -- a value of a kind
  fitting : (kind : Kind) (v : Value) → kind_fits (class_by d (standing w.objects)) d.types v kind ≡ true → NamesLiving w v
  fitting kind v h = value_lives w.objects v (holds_live d (standing w.objects) (kinds.plain kind) v h)

  all_fitting : (args : List Value) (params : List Kind) → all_fit (kind_fits (class_by d (standing w.objects)) d.types) args params ≡ true
      → Each (NamesLiving w) args
  all_fitting [] params h = tt
  all_fitting (v ∷ vs) [] h = absurd (cc h)
  all_fitting (v ∷ vs) (k ∷ ks) h =
      let fits = both_hold (kind_fits (class_by d (standing w.objects)) d.types v k) (all_fit (kind_fits (class_by d (standing w.objects)) d.types) vs ks) h in
      (fitting k v fits.0, all_fitting vs ks fits.1)

  -- ** what a world has

  values_living : ObjectsGood d w → (id slot : ℕ) (o : Object) (spec : Spec) (v : Value) → living w.objects id ≡ Some o → spec_of d o.class slot ≡ Some spec
      → slice_get o.values slot ≡ Some v → NamesLiving w v
  values_living good id slot o spec v there has at =
      let g = (good id o there).values slot spec has in
      let same : ◌≡◌ {A = Option Value} (Some g.value) (Some v) = sym g.is ∙ at in
      let one : g.value ≡ v = cc same in
      subst (NamesLiving w) one
      (fitting spec.kind g.value
      (first_holds (kind_fits (class_by d (standing w.objects)) d.types g.value spec.kind) (same_value (clamp (class_by d (standing w.objects)) d.types spec g.value) g.value) g.valid))

  alive : (id : ℕ) → Lives (standing w.objects) id → IsLiving w id
  alive id h = at_place w.objects id h.place h.is

  pub children_living : ObjectsGood d w → (id : ℕ) (o : Object) → living w.objects id ≡ Some o → Each (IsLiving w) o.children
  children_living good id o there = each_so (Lives (standing w.objects)) (IsLiving w) alive o.children (good id o there).children

  handler_living : (h : Handler) → HandlerGood d (standing w.objects) h → IsLiving w h.object × IfSome h.arg (IsLiving w)
  handler_living h good = (at_place w.objects h.object good.at.place good.at.is, if_lives h.arg good.arg)

  binding_living : (agenda : List Task) (b : Binding) → BindingGood d (standing w.objects) agenda b → IsLiving w b.source × IsLiving w b.target
  binding_living agenda b good = (at_place w.objects b.source good.bind.source good.source, at_place w.objects b.target good.bind.target good.target)

  source_living : (x : Source) → SourceGood d (standing w.objects) x → IfSome x.arg (IsLiving w)
  source_living x good = if_lives x.arg good.arg

  held_living : HeldGood (standing w.objects) w.builder → (place id : ℕ) → read unbuilt w.builder place ≡ built id → IsLiving w id
  held_living good place id is = at_place w.objects id place (good place id is)

  -- ** tasks

  emission_living : (e : Emission) → EmissionFits d (standing w.objects) e → EmissionNamesLiving w e
  emission_living e fits = (at_place w.objects e.object fits.place fits.is, all_fitting e.args fits.sig.params fits.args, by e.value fits.value)
    where
      by : (o : Option Value) → ((v : Value) → o ≡ Some v → (kind : Kind) × (fits.sig.result ≡ Some kind) × (kind_fits (class_by d (standing w.objects)) d.types v kind ≡ true))
          → IfSome o (NamesLiving w)
      by None fit = tt
      by (Some v) fit = let f = fit v refl in fitting f.0 v f.2

  registers_living : (rs : Registers) (ks : ℕ → RegisterKind) → ((r : ℕ) → holds d (standing w.objects) (ks r) (read None rs r) ≡ true)
      → Each (λ r. IfSome r (NamesLiving w)) rs
  registers_living [] ks h = tt
  registers_living (None ∷ rs) ks h = (tt, registers_living rs (λ r. ks (suc r)) (λ r. h (suc r)))
  registers_living (Some v ∷ rs) ks h =
      (value_lives w.objects v (holds_live d (standing w.objects) (ks 0) v (h 0)), registers_living rs (λ r. ks (suc r)) (λ r. h (suc r)))

  module _ (costs depths : Tables) where
    task_living : (up : Down) (below : List Task) (task : Task) (steps frames : ℕ) → TaskGood d costs depths (view w) up below task steps frames → TaskNamesLiving w task
    task_living up below (Setting id slot v) steps frames good =
        (at_place w.objects id good.1.due.place good.1.due.is, value_lives w.objects v good.1.lives)
    task_living up below (Notifying id slot) steps frames good = at_place w.objects id good.1.due.place good.1.due.is
    task_living up below (Beginning e) steps frames good = emission_living e good.1.fits
    task_living up below (Emitting e turns) steps frames good = emission_living e good.fits
    task_living up below (Transferring number back) steps frames good = tt
    task_living up below (Unsetting number) steps frames good = tt
    task_living up below (Thawing id []) steps frames good = tt
    task_living up below (Thawing id (slot ∷ slots)) steps frames good = at_place w.objects id good.1.0 good.1.1
    task_living up below (Running frame) steps frames good = registers_living frame.registers _ good.1.fit
    task_living up below (Answering source) steps frames good = tt
    task_living up below (Calling call) steps frames good =
        (at_place w.objects call.object good.1.lives.place good.1.lives.is, all_fitting call.args good.1.m.params good.1.args_fit)
    task_living up below (Constructing id steps_left held) steps frames good = at_place w.objects id good.1.place good.1.is
    task_living up below (Building items) steps frames good = tt
    task_living up below (Handling request) steps frames good = tt
    task_living up below (Due source) steps frames good = tt

    agenda_living : (most : ℕ) (up : Down) (agenda : List Task) (budget : ℕ) → AgendaGood d costs depths (view w) most up agenda budget → Each (TaskNamesLiving w) agenda
    agenda_living most up [] budget good = tt
    agenda_living most up (task ∷ below) budget good =
        (task_living up below task good.0 good.1 good.3, agenda_living most (down d (view w) task) below good.2 good.6)

-- ** configurations

pub all_living : (d : Definition) (costs depths : Tables) (most_counted most : ℕ) (c : Config) → Good d costs depths most_counted most c → AllNamesLiving d c
all_living d costs depths most_counted most c good = record {
  world = record {
    values = values_living d c.world good.objects;
    children = children_living d c.world good.objects;
    handlers = each_so _ _ (handler_living d c.world) c.world.handlers good.handlers.each;
    bindings = each_so _ _ (binding_living d c.world c.agenda) c.world.bindings good.bindings.each;
    sources = each_so _ _ (source_living d c.world) c.world.sources good.sources;
    builder = held_living d c.world good.held;
    floating = each_so _ _ (alive d c.world) c.world.floating good.floating;
  };
  tasks = agenda_living d c.world costs depths most none c.agenda good.budget good.agenda;
  room = good.few;
}

pub rests_name_living : RestsNameLiving
rests_name_living d a w rest = record {
  values = values_living d w rest.objects;
  children = children_living d w rest.objects;
  handlers = each_so _ _ (handler_living d w) w.handlers rest.handlers.each;
  bindings = each_so _ _ (binding_living d w []) w.bindings rest.bindings.each;
  sources = each_so _ _ (source_living d w) w.sources rest.sources;
  builder = held_living d w rest.held;
  floating = subst (Each (IsLiving w)) (sym rest.floating) tt;
}

pub builds_name_living : BuildsNameLiving
builds_name_living d well a = throughout_build d (AllNamesLiving d) (all_living d) well a

pub requests_name_living : RequestsNameLiving
requests_name_living d well a = throughout_request d (AllNamesLiving d) (all_living d) well a

pub sources_name_living : SourcesNameLiving
sources_name_living d well a = throughout_source d (AllNamesLiving d) (all_living d) well a
