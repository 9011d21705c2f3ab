-- The finalisation of an object that nothing holds.
use Rattle.std.proofs.Common.{◌≡◌, inl, inr, ◌⊎◌, refl, sym, ap, subst, ◌∙◌, ℕ, zero, suc, ◌+◌, ◌<◌, ◌≤◌, Bool, true, false, cond, List, [], ◌∷◌, length, Option, None, Some, Ok, slice_get, arith, lt-ltb}
use Rattle.std.specs.Prelude.{not, ◌||◌, nat_eq, option_map}
use Rattle.std.specs.List.{filter}
use Rattle.std.proofs.lemmas.Bool.{eqb-true, eqb-false, eq-eqb}
use Rattle.ui_machine.specs.declared.arm.Arm.TheVariants as arms
use Rattle.ui_machine.specs.Seq.{read, total}
use Rattle.ui_machine.specs.Definition.Values.{Value}
use Rattle.ui_machine.specs.Definition.Values as values
use Rattle.ui_machine.specs.Definition.Properties.{Spec}
use Rattle.ui_machine.specs.Definition.{Definition}
use Rattle.ui_machine.specs.Definition.Places.{Place}
use Rattle.ui_machine.specs.Definition.Lookups.{specs_of, spec_of}
use Rattle.ui_machine.specs.Outcome.{only_if}
use Rattle.ui_machine.specs.Output.Lines as lines
use Rattle.ui_machine.specs.State.Objects.{Object, Objects, living, put, live, one_if}
use Rattle.ui_machine.specs.State.Handlers.{handler_of}
use Rattle.ui_machine.specs.State.Bindings.{binding_of, is_end}
use Rattle.ui_machine.specs.State.Peers.{Peer}
use Rattle.ui_machine.specs.State.Tasks.{Task, Setting, Notifying, Beginning, Emitting, Transferring, Unsetting, Thawing, Running, Answering, Calling, Constructing, Building, Handling, Due}
use Rattle.ui_machine.specs.State.Config.{BuilderEntry, unbuilt, built, World, Config, said, with_objects}
use Rattle.ui_machine.specs.State.References.{same, in_option, in_value, in_values, in_object, in_held, in_source, in_task, mentions, unheld_from, next_unheld}
use Rattle.ui_machine.specs.Rules.Disposal.{names_object, is_identity, is_of_object, disposed, finalised}
use Rattle.ui_machine.specs.Steps.{most_steps, counted, uncounted, finalising}
use Rattle.law_typing.specs.Graph.Channels.{property}
use Rattle.law_typing.specs.Graph.Tables.{Tables, entry}
use Rattle.law_typing.specs.Good.DueCosts.{queued_cost}
use Rattle.law_typing.specs.Verdict.Accepted.{Each}
use Rattle.law_typing.specs.Laws.{IsIn}
use Rattle.law_typing.specs.Laws.StepsKeepGood.{Fine}
use Rattle.law_typing.specs.Good.Standing.{Standing, standing, view, Lives}
use Rattle.law_typing.specs.Good.Objects.{FamilyGood, ObjectGood, ObjectsGood, PoolGood, PeersGood}
use Rattle.law_typing.specs.Good.Handlers.{HandlersGood}
use Rattle.law_typing.specs.Good.Bindings.{BindingsGood, SourceGood, HeldGood}
use Rattle.law_typing.specs.Good.ComingDown as downs
use Rattle.law_typing.specs.Good.Builds.{is_for_builder, BuildGood}
use Rattle.law_typing.specs.Good.Freezes.{below_lowest, QueuesGood, carried, ObjectsFirst, SetsGood, is_due_set}
use Rattle.law_typing.specs.Good.{Good}
use Rattle.law_steps.specs.Kept.Agenda.{Stays, needed, Serves}
use Rattle.law_steps.specs.Kept.Dispose.{Shed, DisposedKept}
use Rattle.law_steps.specs.Kept.Finalise.{FinalisationIsFine}
use Rattle.law_steps.proofs.Kept.ServedProofs.{same_itself}
use Rattle.law_steps.proofs.Kept.AgendaProofs.{agenda_served}
use Rattle.law_steps.proofs.Kept.Left.{each_to}
use Rattle.law_steps.proofs.Kept.HandlersProofs.{handlers_left, left_are_found}
use Rattle.law_steps.proofs.Kept.BindingsProofs.{bindings_left, left_bindings_found}
use Rattle.law_steps.proofs.Kept.SourcesProofs.{source_stays}
use Rattle.law_steps.proofs.Kept.NewProofs.{at_place, valid_kept}
use Rattle.law_steps.proofs.Kept.DisposeProofs.{put_apart, sum_put}
use Rattle.law_steps.proofs.Kept.DisposedProofs.{dispose_keeps}
use Rattle.law_steps.proofs.Kept.WriteProofs.{read_here}

-- ** what is found without a mention

record Unheld (m : ℕ → ℕ) (i : ℕ) (os : Objects) (id : ℕ) : Type 0 where
  pub k : ℕ
  pub at : id ≡ i + k
  pub o : Object
  pub is : read None os k ≡ Some o
  pub none : m id ≡ 0

unheld : (m : ℕ → ℕ) (i : ℕ) (os : Objects) (id : ℕ) → unheld_from m i os ≡ Some id → Unheld m i os id
unheld m i [] id e = absurd (cc)
unheld m i (None ∷ os) id e =
    let h = unheld m (suc i) os id e in record { k = suc h.k; at = (let a = h.at in omega (arith, a)); o = h.o; is = h.is; none = h.none }
unheld m i (Some x ∷ os) id e = go (nat_eq (m i) 0) refl (λ e. unheld m (suc i) os id e) e
  where
    go : (b : Bool) → nat_eq (m i) 0 ≡ b → (unheld_from m (suc i) os ≡ Some id → Unheld m (suc i) os id) → cond b (Some i) (unheld_from m (suc i) os) ≡ Some id → Unheld m i (Some x ∷ os) id
    go true t rec f =
        let s : i ≡ id = cc in
        record { k = 0; at = omega (arith, s); o = x; is = refl; none = ap m (sym s) ∙ eqb-true (m i) 0 t }
    go false t rec f = let h = rec f in record { k = suc h.k; at = (let a = h.at in omega (arith, a)); o = h.o; is = h.is; none = h.none }

-- ** nothing holds it

total_zero : {A : Type 0} (f : A → ℕ) (xs : List A) → total f xs ≡ 0 → Each (λ x. f x ≡ 0) xs
total_zero f [] e = tt
total_zero f (x ∷ xs) e = (omega (arith, e), total_zero f xs (omega (arith, e)))

same_apart : (o i : ℕ) → same o i ≡ 0 → i ≡ o → ⊥
same_apart o i e s = let h = same_itself o in let f = ap (same o) s in omega (arith, e, h, f)

option_apart : (o : ℕ) (arg : Option ℕ) (i : ℕ) → in_option o arg ≡ 0 → arg ≡ Some i → i ≡ o → ⊥
option_apart o arg i e is = same_apart o i (sym (ap (in_option o) is) ∙ e)

in_all : {A : Type 0} (f : A → ℕ) (xs : List A) (x : A) → total f xs ≡ 0 → IsIn x xs → f x ≡ 0
in_all f [] x e h = absurd h
in_all f (y ∷ ys) x e (inl s) = ap f s ∙ omega (arith, e)
in_all f (y ∷ ys) x e (inr h) = in_all f ys x (omega (arith, e)) h

read_zero : (f : BuilderEntry → ℕ) → f unbuilt ≡ 0 → (xs : List BuilderEntry) (i : ℕ) → total f xs ≡ 0 → f (read unbuilt xs i) ≡ 0
read_zero f none [] i e = none
read_zero f none (x ∷ xs) zero e = omega (arith, e)
read_zero f none (x ∷ xs) (suc i) e = read_zero f none xs i (omega (arith, e))

object_zero : (f : Option Object → ℕ) → f None ≡ 0 → (os : Objects) (i : ℕ) → total f os ≡ 0 → f (read None os i) ≡ 0
object_zero f none [] i e = none
object_zero f none (x ∷ os) zero e = omega (arith, e)
object_zero f none (x ∷ os) (suc i) e = object_zero f none os i (omega (arith, e))

living_zero : (f : Option Object → ℕ) → f None ≡ 0 → (os : Objects) (id : ℕ) → total f os ≡ 0 → f (living os id) ≡ 0
living_zero f none os zero e = none
living_zero f none os (suc i) e = object_zero f none os i e

-- a strong value counts
strong_value : (o : ℕ) (specs : List Spec) (vs : List Value) (slot : ℕ) (spec : Spec) (v : Value) → slice_get specs slot ≡ Some spec → slice_get vs slot ≡ Some v → spec.weak ≡ false →
    in_value o v ≤ in_values o specs vs
strong_value o [] vs slot spec v e f weak = absurd (cc)
strong_value o (x ∷ specs) [] slot spec v e f weak = absurd (cc)
strong_value o (x ∷ specs) (y ∷ vs) zero spec v e f weak =
    let a : x ≡ spec = cc in
    let b : y ≡ v = cc in
    let c = ap (λ (x : Spec). cond x.weak 0 (in_value o y)) a in
    let w = ap (λ b. cond b 0 (in_value o y)) weak in
    let n = ap (in_value o) b in
    omega (arith, c, w, n)
strong_value o (x ∷ specs) (y ∷ vs) (suc slot) spec v e f weak =
    let h = strong_value o specs vs slot spec v e f weak in omega (arith, h)

unnamed_zero : (o : ℕ) (v : Value) → names_object o v ≡ false → in_value o v ≡ 0
unnamed_zero o (values.object (Some i)) e = ap (λ b. cond b 1 0) e
unnamed_zero o (values.object None) e = refl
unnamed_zero o (values.bool b) e = refl
unnamed_zero o (values.whole k n) e = refl
unnamed_zero o (values.text t) e = refl
unnamed_zero o (values.enum t n) e = refl
unnamed_zero o (values.flags t n) e = refl

-- a value that does not name it names what is another
named_other : (o i : ℕ) (v : Value) → in_value o v ≡ 0 → 0 < in_value i v → i ≡ o → ⊥
named_other o i v none some e = let f = ap (λ n. in_value n v) e in omega (arith, none, some, f)

-- no set is due, so that tasks need what they hold
needs_held : (o : ℕ) (task : Task) → is_due_set task ≡ 0 → needed o task ≡ in_task o task
needs_held o (Setting object slot v) e = absurd (let f : ◌≡◌ {A = ℕ} 1 0 = e in omega (arith, f))
needs_held o (Notifying object slot) e = refl
needs_held o (Beginning emission) e = refl
needs_held o (Emitting emission entries) e = refl
needs_held o (Transferring number back) e = refl
needs_held o (Unsetting number) e = refl
needs_held o (Thawing object slots) e = refl
needs_held o (Running frame) e = refl
needs_held o (Answering source) e = refl
needs_held o (Calling call) e = refl
needs_held o (Constructing object steps held) e = refl
needs_held o (Building items) e = refl
needs_held o (Handling request) e = refl
needs_held o (Due source) e = refl

all_need_held : (o : ℕ) (tasks : List Task) → total is_due_set tasks ≡ 0 → total (needed o) tasks ≡ total (in_task o) tasks
all_need_held o [] e = refl
all_need_held o (task ∷ tasks) e =
    let a = needs_held o task (omega (arith, e)) in
    let b = all_need_held o tasks (omega (arith, e)) in
    omega (arith, a, b)

-- a handler that is left is not of the object
not_either : (a b : Bool) → not (a || b) ≡ true → (a ≡ false) × (b ≡ false)
not_either false false e = (refl, refl)
not_either true b e = absurd (cc)
not_either false true e = absurd (cc)

not_equal : (i o : ℕ) → nat_eq i o ≡ false → i ≡ o → ⊥
not_equal i o e s = let f = eq-eqb i o s in let g = sym e ∙ f in cc

not_identity : (o : ℕ) (arg : Option ℕ) (i : ℕ) → is_identity o arg ≡ false → arg ≡ Some i → i ≡ o → ⊥
not_identity o arg i e is = not_equal i o (sym (ap (is_identity o) is) ∙ e)

-- ** the world afterwards

module _ (d : Definition) (costs depths : Tables) (most_counted most : ℕ) (c : Config) (g : Good d costs depths most_counted most c) (n : ℕ) (o : Object)
    (there : read None c.world.objects n ≡ Some o) (free : mentions d c (suc n) ≡ 0) (no_set : total is_due_set c.agenda ≡ 0)
    (v0 : World) (k : DisposedKept d (suc n) c.world v0) where
  abbrev id : ℕ
  id = suc n

  abbrev w : World
  w = c.world

  abbrev v : World
  v = said d (with_objects v0 (put v0.objects id None)) (lines.final id)

  abbrev s : Standing
  s = standing w.objects

  abbrev z : Standing
  z = standing v.objects

  objects_free : total (in_object d id) w.objects ≡ 0
  objects_free = let f = free in omega (arith, f)

  builder_free : total (in_held id) w.builder ≡ 0
  builder_free = let f = free in omega (arith, f)

  floating_free : total (same id) w.floating ≡ 0
  floating_free = let f = free in omega (arith, f)

  sources_free : total (in_source id) w.sources ≡ 0
  sources_free = let f = free in omega (arith, f)

  agenda_free : total (in_task id) c.agenda ≡ 0
  agenda_free = let f = free in omega (arith, f)

  -- who is still at a place
  gone : living v.objects id ≡ None
  gone = read_here None v0.objects n None

  other : (j : ℕ) → (j ≡ id → ⊥) → living v.objects j ≡ living v0.objects j
  other j apart = put_apart None id j v0.objects (λ e. apart (sym e))

  stands_other : (j : ℕ) → (j ≡ id → ⊥) → z j ≡ s j
  stands_other j apart = ap (option_map (λ (o : Object). o.place)) (other j apart) ∙ ap (λ (s : Standing). s j) k.stands

  stays : (j : ℕ) → (j ≡ id → ⊥) → Stays s z j
  stays j apart place e = stands_other j apart ∙ e

  no_more : (j place : ℕ) → z j ≡ Some place → s j ≡ Some place
  no_more j place e = go (nat_eq j id) refl
    where
      go : (b : Bool) → nat_eq j id ≡ b → s j ≡ Some place
      go true t = absurd (let same = eqb-true j id t in let f = sym (ap (λ j. living v.objects j) same ∙ gone) in let h = ap (option_map (λ (o : Object). o.place)) f in let p = h ∙ e in cc)
      go false t = sym (stands_other j (eqb-false j id t)) ∙ e

  -- what is found is another
  found : (j : ℕ) (x : Object) → living v.objects j ≡ Some x → (j ≡ id → ⊥) × (living v0.objects j ≡ Some x)
  found j x e = go (nat_eq j id) refl
    where
      go : (b : Bool) → nat_eq j id ≡ b → (j ≡ id → ⊥) × (living v0.objects j ≡ Some x)
      go true t = absurd (let same = eqb-true j id t in let f = sym gone ∙ (ap (λ j. living v.objects j) (sym same) ∙ e) in cc)
      go false t = let apart = eqb-false j id t in (apart, sym (other j apart) ∙ e)

  -- ** objects

  held_zero : (j : ℕ) (y : Object) → living w.objects j ≡ Some y → in_object d id (Some y) ≡ 0
  held_zero j y e = sym (ap (in_object d id) e) ∙ living_zero (in_object d id) refl w.objects j objects_free

  value_unnamed : (j : ℕ) (y x : Object) → living w.objects j ≡ Some y → Shed d id y x → (slot : ℕ) (spec : Spec) (u : Value) → spec_of d x.class slot ≡ Some spec →
      slice_get x.values slot ≡ Some u → in_value id u ≡ 0
  value_unnamed j y x e h slot spec u has is = go spec.weak refl
    where
      strong : spec.weak ≡ false → (u ≡ values.object None) ⊎ (slice_get y.values slot ≡ Some u) → in_value id u ≡ 0
      strong weak (inl e) = ap (in_value id) e
      strong weak (inr f) =
          let own : spec_of d y.class slot ≡ Some spec = sym (ap (λ c. spec_of d c slot) h.class) ∙ has in
          let low = strong_value id (specs_of d y.class) y.values slot spec u own f weak in
          let none = held_zero j y e in
          omega (arith, low, none)

      go : (b : Bool) → spec.weak ≡ b → in_value id u ≡ 0
      go true weak = unnamed_zero id u (h.unnamed slot spec u has is weak)
      go false weak = strong weak (h.came slot spec u has is)

  family : (j : ℕ) (p : Option ℕ) → FamilyGood v0.objects j p → FamilyGood v.objects j p
  family j None f = tt
  family j (Some above) f = go (nat_eq above id) refl
    where
      go : (b : Bool) → nat_eq above id ≡ b → FamilyGood v.objects j (Some above)
      go true t = absurd (let same = eqb-true above id t in let e = sym (ap (living v0.objects) same) ∙ f.1 in let none = k.childless f.0 e in subst (IsIn j) none f.2)
      go false t = (f.0, other above (eqb-false above id t) ∙ f.1, f.2)

  child_stays : (y x : Object) (j : ℕ) → living w.objects j ≡ Some y → Shed d id y x → (child : ℕ) → IsIn child x.children → child ≡ id → ⊥
  child_stays y x j e h child is_child =
      same_apart id child (in_all (same id) y.children child (let none = held_zero j y e in omega (arith, none)) (h.children child is_child))

  each_inside : {A : Type 0} (P Q : A → Type 0) (xs : List A) → ((x : A) → IsIn x xs → P x → Q x) → Each P xs → Each Q xs
  each_inside P Q [] f all = tt
  each_inside P Q (x ∷ xs) f all = (f x (inl refl) all.0, each_inside P Q xs (λ y h. f y (inr h)) all.1)

  lives_other : (j : ℕ) → (j ≡ id → ⊥) → Lives s j → Lives z j
  lives_other j apart l = record { place = l.place; is = stays j apart l.place l.is; allowed = tt }

  object_good : (j : ℕ) (x : Object) → living v0.objects j ≡ Some x → ObjectGood d v0 s j x → ObjectGood d v z j x
  object_good j x e old =
      let h = k.shed j x e in record {
        place = old.place;
        is = old.is;
        class = old.class;
        values = λ slot spec has. (let u = old.values slot spec has in record {
          value = u.value;
          is = u.is;
          valid = valid_kept d s z spec u.value (λ i some. stays i (named_other id i u.value (value_unnamed j h.0 x h.1 h.2 slot spec u.value has u.is) some)) u.valid;
        });
        children = each_inside (Lives s) (Lives z) x.children (λ child inside l. lives_other child (child_stays h.0 x j h.1 h.2 child inside) l) old.children;
        parent = family j x.parent old.parent;
        queue = old.queue;
        apart = old.apart;
        peer = old.peer;
      }

  objects_good : ObjectsGood d v
  objects_good j x e = let f = found j x e in object_good j x f.1 (subst (λ s. ObjectGood d v0 s j x) k.stands (k.objects j x f.1))

  -- ** handlers, bindings and sources

  left_handlers : HandlersGood d costs depths z c.agenda v.last_handler v.handlers
  left_handlers =
      subst (λ hs. HandlersGood d costs depths z c.agenda v.last_handler hs) (sym k.handlers)
      (subst (λ last. HandlersGood d costs depths z c.agenda last (filter (λ h. not (is_of_object id h)) w.handlers)) (sym k.last)
      (handlers_left d costs depths s z c.agenda w.last_handler w.handlers (λ h. not (is_of_object id h)) no_more
      (λ h passes. (let p = not_either (nat_eq h.object id) (is_identity id h.arg) passes in (stays h.object (not_equal h.object id p.0), λ i is. stays i (not_identity id h.arg i p.1 is))))
      g.handlers))

  left_bindings : BindingsGood d z c.agenda v.bindings
  left_bindings =
      subst (λ bs. BindingsGood d z c.agenda bs) (sym k.bindings)
      (bindings_left d s z c.agenda w.bindings (λ b. not (is_end id b))
      (λ b passes. (let p = not_either (nat_eq b.source id) (nat_eq b.target id) passes in (stays b.source (not_equal b.source id p.0), stays b.target (not_equal b.target id p.1))))
      g.bindings)

  left_sources : Each (SourceGood d z) v.sources
  left_sources =
      subst (Each (SourceGood d z)) (sym k.sources)
      (each_inside (SourceGood d s) (SourceGood d z) w.sources
      (λ source inside good. source_stays d s z source (λ i is. stays i (option_apart id source.arg i (in_all (in_source id) w.sources source sources_free inside) is)) good) g.sources)

  held_other : (place i : ℕ) → read unbuilt w.builder place ≡ built i → i ≡ id → ⊥
  held_other place i e = same_apart id i (sym (ap (in_held id) e) ∙ read_zero (in_held id) refl w.builder place builder_free)

  left_held : HeldGood z v.builder
  left_held = subst (HeldGood z) (sym k.builder) (λ place i e. stays i (held_other place i e) place (g.held place i e))

  left_floating : Each (Lives z) v.floating
  left_floating =
      subst (Each (Lives z)) (sym k.floating)
      (each_inside (Lives s) (Lives z) w.floating (λ i inside l. lives_other i (same_apart id i (in_all (same id) w.floating i floating_free inside)) l) g.floating)

  -- ** the agenda

  served : Serves d c.agenda (view w) (view v)
  served = record {
    stands = λ i some. stays i (λ e. (let a = all_need_held i c.agenda no_set in let b = ap (λ i. total (in_task i) c.agenda) e in let f = agenda_free in omega (arith, some, a, b, f)));
    held = λ place i e. stays i (held_other place i e);
    builder = k.builder;
    last = (let e = k.last in omega (arith, e));
    handlers = λ number low h is.
        (h, left_are_found d costs depths s c.agenda w.last_handler w.handlers (λ h. not (is_of_object id h)) g.handlers number h (subst (λ hs. handler_of number hs ≡ Some h) k.handlers is), refl, refl, refl);
    bindings = λ number b is.
        left_bindings_found d s c.agenda w.bindings (λ b. not (is_end id b)) g.bindings number b (ap (λ bs. binding_of number bs) (sym k.bindings) ∙ is);
    sources = inr k.sources;
    peers = λ number p is. (let q = k.peers number p is in (q.0, q.1, q.2));
  }

  -- ** queues and pairs

  queues : QueuesGood d depths most c.agenda (suc c.counted) v.objects
  queues j x e =
      let f = found j x e in
      let h = k.shed j x f.1 in
      let q = g.queues j h.0 h.1 in
      record {
        count = h.2.freezes ∙ q.count;
        few = (let a = q.few in let b = h.2.freezes in omega (arith, a, b));
        none = λ z. h.2.queue ∙ q.none (sym h.2.freezes ∙ z);
        deep = subst (λ place. Each (λ slot. suc (below_lowest d j c.agenda) + entry depths.channels (property place slot) ≤ most) x.queue) (sym h.2.place)
            (subst (Each (λ slot. suc (below_lowest d j c.agenda) + entry depths.channels (property h.0.place slot) ≤ most)) (sym h.2.queue) q.deep);
      }

  objects_first_left : ObjectsFirst c.agenda v.bindings
  objects_first_left = record {
    before = λ some. (let b = g.objects_first.before some in (k.bindings ∙ ap (filter (λ b. not (is_end id b))) b.0, b.1));
    one = g.objects_first.one;
  }

  -- ** the pool

  pool : PeersGood d v.peers (length v.builder + total is_for_builder c.agenda)
  pool =
      subst (λ (b : List BuilderEntry). PeersGood d v.peers (length b + total is_for_builder c.agenda)) (sym k.builder)
      (λ place p is. each_to _ _ p.peers (λ name old. peer_there place p name old) (g.peers place p is))
    where
      abbrev_made : ℕ
      abbrev_made = length w.builder + total is_for_builder c.agenda

      peer_there : (place : ℕ) (p : Place) (name : List ℕ) → PoolGood d w.peers (length w.builder + total is_for_builder c.agenda) place p name →
          PoolGood d v.peers (length w.builder + total is_for_builder c.agenda) place p name
      peer_there place p name old =
          let q = k.peers old.number old.peer old.has in
          record {
            number = old.number;
            peer = q.0;
            shape = old.shape;
            methods = old.methods;
            is = k.names name ∙ old.is;
            has = q.1;
            of_class = old.of_class;
            shaped = (old.shaped.0, q.2 ∙ old.shaped.1);
            is_open = λ free. (let same = q.4 free in ap (λ (p : Peer). p.state.is_open) same ∙ old.is_open (sym q.3 ∙ free));
            left = λ object made. q.3 ∙ old.left object made;
          }

  -- ** how many live

  live_less : suc (live v.objects) ≡ live w.objects
  live_less =
      let there0 = alive in
      let h = sum_put one_if refl None v0.objects n in
      let m = k.sums one_if refl (λ x y p q. refl) in
      let one = ap one_if there0.1 in
      omega (arith, h, m, one)
    where
      alive : (x : Object) × (living v0.objects id ≡ Some x)
      alive =
          let e = at_place v0.objects id o.place (ap (λ (s : Standing). s id) k.stands ∙ ap (option_map (λ (o : Object). o.place)) there) in (e.0, e.1)

  abbrev making : ℕ
  making = total is_for_builder c.agenda

  carried_less : total (carried d costs making) v.objects ≤ total (carried d costs making) w.objects
  carried_less =
      let h = sum_put (carried d costs making) refl None v0.objects n in
      let m = k.sums (carried d costs making) refl (λ x y p q. ap (λ slots. total (λ slot. queued_cost d costs making x.place slot) slots) q ∙ ap (λ place. total (λ slot. queued_cost d costs making place slot) y.queue) p) in
      omega (arith, h, m)

  good : Good d costs depths most_counted most (record { world = v; agenda = c.agenda; counted = suc c.counted })
  good = record {
    objects = objects_good;
    handlers = left_handlers;
    bindings = left_bindings;
    sources = left_sources;
    peers = pool;
    build = subst (λ b. BuildGood d b c.agenda c.agenda) (sym k.builder) g.build;
    held = left_held;
    floating = left_floating;
    sets = record { alone = g.sets.alone; first = g.sets.first; held = λ some. absurd (let none = no_set in omega (arith, some, none)) };
    objects_first = objects_first_left;
    budget = g.budget;
    agenda = agenda_served d costs depths most downs.none c.agenda g.budget (view w) (view v) served g.agenda;
    queues = queues;
    few = (let a = g.few in let b = live_less in omega (arith, a, b));
    spent = (let a = g.spent in let b = live_less in let e = carried_less in omega (arith, a, b, e));
  }

-- ** the step

finalises : (d : Definition) (w v : World) (id : ℕ) → disposed d w id ≡ Ok v → finalising d w id ≡ Ok (record { world = said d (with_objects v (put v.objects id None)) (lines.final id); tasks = [] })
unfolding finalising finalised
finalises d w v id e = rw e

no_due_set : (d : Definition) (c : Config) (id : ℕ) → SetsGood d c → next_unheld (mentions d c) c.world.objects ≡ Some id → total is_due_set c.agenda ≡ 0
no_due_set d c id g e = go (total is_due_set c.agenda) refl
  where
    go : (n : ℕ) → total is_due_set c.agenda ≡ n → total is_due_set c.agenda ≡ 0
    go zero f = f
    go (suc n) f = absurd (let none = g.held (omega (arith, f)) in let h = sym none ∙ e in cc)

pub finalisation_is_fine : FinalisationIsFine
finalisation_is_fine d costs depths most_counted most within c g id e =
    let u = unheld (mentions d c) 1 c.world.objects id e in
    let at : id ≡ suc u.k = (let a = u.at in omega (arith, a)) in
    let free : mentions d c (suc u.k) ≡ 0 = subst (λ id. mentions d c id ≡ 0) at u.none in
    let no_set = no_due_set d c id g.sets e in
    let after = dispose_keeps d c.world (suc u.k) u.o u.is g.objects in
    let fine = good d costs depths most_counted most c g u.k u.o u.is free no_set after.0 after.2 in
    let less = live_less d costs depths most_counted most c g u.k u.o u.is free no_set after.0 after.2 in
    let room : c.counted < most_steps = (let a = g.spent in omega (arith, a, less, within)) in
    subst (λ id. Fine d costs depths most_counted most (counted c.agenda c.counted (finalising d c.world id))) (sym at)
    (subst (λ b. Fine d costs depths most_counted most (only_if b arms.Steps (uncounted c.agenda (suc c.counted) (finalising d c.world (suc u.k))))) (sym (lt-ltb c.counted most_steps room))
    (subst (λ answer. Fine d costs depths most_counted most (uncounted c.agenda (suc c.counted) answer)) (sym (finalises d c.world after.0 (suc u.k) after.1)) fine))
