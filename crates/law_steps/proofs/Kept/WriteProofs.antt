-- A write keeps the rest: what is found afterwards is the new object, or what was found before.
use Rattle.std.proofs.Common.{◌≡◌, inl, inr, ◌⊎◌, refl, sym, ap, subst, ◌∙◌, ℕ, zero, suc, Bool, true, false, List, [], ◌∷◌, Option, None, Some, slice_get, arith}
use Rattle.std.specs.Prelude.{◌&&◌, nat_eq, option_map}
use Rattle.std.specs.List.{list_any}
use Rattle.std.proofs.Math.Path.{fun_ext}
use Rattle.std.proofs.lemmas.Bool.{eqb-true, eqb-false, eq-eqb, or_left, or_right}
use Rattle.ui_machine.specs.Seq.{read, write, total}
use Rattle.ui_machine.specs.Definition.Properties.{Spec, is_readable}
use Rattle.ui_machine.specs.Definition.{Definition}
use Rattle.ui_machine.specs.Definition.Lookups.{place_at, spec_of}
use Rattle.ui_machine.specs.State.Objects.{Object, Objects, living, put, live, one_if}
use Rattle.ui_machine.specs.State.Tasks.{Task}
use Rattle.ui_machine.specs.State.Bindings.{Binding}
use Rattle.ui_machine.specs.State.Config.{World, with_objects}
use Rattle.ui_machine.specs.Rules.Programs.{place_in}
use Rattle.law_typing.specs.Graph.Channels.{is_pair}
use Rattle.law_typing.specs.Graph.Tables.{Tables}
use Rattle.law_typing.specs.Verdict.Accepted.{Each}
use Rattle.law_typing.specs.Laws.{IsIn}
use Rattle.law_typing.specs.Rules.Brackets.{is_among, has_pair}
use Rattle.law_typing.proofs.Lists.{any_true}
use Rattle.ui_machine.specs.Definition.Places.{Bind}
use Rattle.law_typing.specs.Good.Standing.{Standing, standing, view, Lives}
use Rattle.law_typing.specs.Good.Objects.{ValueGood, FamilyGood, PeerGood, ObjectGood, ObjectsGood}
use Rattle.law_typing.specs.Good.Handlers.{HandlersGood}
use Rattle.law_typing.specs.Good.Bindings.{BindingGood, BindingsGood, SourceGood, HeldGood}
use Rattle.law_steps.specs.Kept.Write.{Like, Whole, WriteKeeps}

pub read_here : {A : Type 0} (n : A) (xs : List A) (i : ℕ) (y : A) → read n (write n xs i y) i ≡ y
read_here n [] zero y = refl
read_here n [] (suc i) y = read_here n [] i y
read_here n (x ∷ xs) zero y = refl
read_here n (x ∷ xs) (suc i) y = read_here n xs i y

pub read_apart : {A : Type 0} (n : A) (xs : List A) (i : ℕ) (y : A) (j : ℕ) → (i ≡ j → ⊥) → read n (write n xs i y) j ≡ read n xs j
read_apart n [] zero y zero h = absurd (h refl)
read_apart n [] zero y (suc j) h = refl
read_apart n [] (suc i) y zero h = refl
read_apart n [] (suc i) y (suc j) h = read_apart n [] i y j (λ e. h (ap suc e))
read_apart n (x ∷ xs) zero y zero h = absurd (h refl)
read_apart n (x ∷ xs) zero y (suc j) h = refl
read_apart n (x ∷ xs) (suc i) y zero h = refl
read_apart n (x ∷ xs) (suc i) y (suc j) h = read_apart n xs i y j (λ e. h (ap suc e))

pub find_here : (os : Objects) (id : ℕ) (o new : Object) → living os id ≡ Some o → living (put os id (Some new)) id ≡ Some new
find_here os zero o new e = absurd (cc)
find_here os (suc i) o new e = read_here None os i (Some new)

pub find_apart : (os : Objects) (id : ℕ) (new : Object) (other : ℕ) → (id ≡ other → ⊥) → living (put os id (Some new)) other ≡ living os other
find_apart os zero new other h = refl
find_apart os (suc i) new zero h = refl
find_apart os (suc i) new (suc j) h = read_apart None os i (Some new) j (λ e. h (ap suc e))

live_write : (os : Objects) (i : ℕ) (o new : Object) → read None os i ≡ Some o → total one_if (write None os i (Some new)) ≡ total one_if os
live_write [] i o new e = absurd (cc)
live_write (x ∷ os) zero o new e = let h = ap one_if e in omega (arith, h)
live_write (x ∷ os) (suc i) o new e = let h = live_write os i o new e in omega (arith, h)

live_put : (os : Objects) (id : ℕ) (o new : Object) → living os id ≡ Some o → live (put os id (Some new)) ≡ live os
live_put os zero o new e = absurd (cc)
live_put os (suc i) o new e = live_write os i o new e

-- what is found afterwards: the new object, or the old one elsewhere
after : (os : Objects) (id : ℕ) (o new : Object) → living os id ≡ Some o → (other : ℕ) (x : Object) → living (put os id (Some new)) other ≡ Some x →
    ((id ≡ other) × (x ≡ new)) ⊎ (living os other ≡ Some x)
after os id o new is other x e = go (nat_eq id other) refl
  where
    go : (b : Bool) → nat_eq id other ≡ b → ((id ≡ other) × (x ≡ new)) ⊎ (living os other ≡ Some x)
    go true t = let s = eqb-true id other t in let f = subst (λ i. living (put os id (Some new)) i ≡ Some new) s (find_here os id o new is) in inl (s, (let g = sym e ∙ f in cc))
    go false t = inr (sym (find_apart os id new other (eqb-false id other t)) ∙ e)

-- what was found before is there still, or is the old one
before : (os : Objects) (id : ℕ) (o new : Object) → living os id ≡ Some o → (other : ℕ) (x : Object) → living os other ≡ Some x →
    ((x ≡ o) × (living (put os id (Some new)) other ≡ Some new)) ⊎ (living (put os id (Some new)) other ≡ Some x)
before os id o new is other x e = go (nat_eq id other) refl
  where
    go : (b : Bool) → nat_eq id other ≡ b → ((x ≡ o) × (living (put os id (Some new)) other ≡ Some new)) ⊎ (living (put os id (Some new)) other ≡ Some x)
    go true t =
        let s = eqb-true id other t in
        let f = subst (λ i. living os i ≡ Some o) s is in
        inl ((let g = sym e ∙ f in cc), subst (λ i. living (put os id (Some new)) i ≡ Some new) s (find_here os id o new is))
    go false t = inr (find_apart os id new other (eqb-false id other t) ∙ e)

-- each identity keeps its place
stands_same : (os : Objects) (id : ℕ) (o new : Object) → living os id ≡ Some o → new.place ≡ o.place → (other : ℕ) → place_in (put os id (Some new)) other ≡ place_in os other
stands_same os id o new is same other = go (nat_eq id other) refl
  where
    place_of : Option Object → Option ℕ
    place_of x = option_map (λ (o : Object). o.place) x

    go : (b : Bool) → nat_eq id other ≡ b → place_of (living (put os id (Some new)) other) ≡ place_of (living os other)
    go true t =
        let s = eqb-true id other t in
        let f = subst (λ i. living (put os id (Some new)) i ≡ Some new) s (find_here os id o new is) in
        let g = subst (λ i. living os i ≡ Some o) s is in
        ap place_of f ∙ (ap Some same ∙ sym (ap place_of g))
    go false t = ap place_of (find_apart os id new other (eqb-false id other t))

family_put : (os : Objects) (id : ℕ) (o new : Object) → living os id ≡ Some o → new.children ≡ o.children → (child : ℕ) (above : Option ℕ) → FamilyGood os child above → FamilyGood (put os id (Some new)) child above
family_put os id o new is same child None f = tt
family_put os id o new is same child (Some above) f = go (before os id o new is above f.0 f.1)
  where
    go : ((f.0 ≡ o) × (living (put os id (Some new)) above ≡ Some new)) ⊎ (living (put os id (Some new)) above ≡ Some f.0) → FamilyGood (put os id (Some new)) child (Some above)
    go (inl h) = (new, h.1, subst (IsIn child) (ap (λ (x : Object). x.children) h.0 ∙ sym same) f.2)
    go (inr h) = (f.0, h, f.2)

each_to : {A : Type 0} (P Q : A → Type 0) (xs : List A) → ((x : A) → P x → Q x) → Each P xs → Each Q xs
each_to P Q [] f all = tt
each_to P Q (x ∷ xs) f all = (f x all.0, each_to P Q xs f all.1)

get_in : {A : Type 0} (xs : List A) (i : ℕ) (x : A) → slice_get xs i ≡ Some x → IsIn x xs
get_in [] i x e = absurd (cc)
get_in (y ∷ ys) zero x e = inl (let s : x ≡ y = cc in s)
get_in (y ∷ ys) (suc i) x e = inr (get_in ys i x e)

-- an end of a pair is a place with a paired property
pub pair_has : (d : Definition) (number : ℕ) (b : Bind) (place : ℕ) → slice_get d.bindings number ≡ Some b → is_pair b ≡ true → (place ≡ b.source) ⊎ (place ≡ b.target) →
    has_pair d place ≡ true
pair_has d number b place is pair end =
    any_true (λ (b : Bind). is_pair b && is_among (b.source ∷ b.target ∷ []) place) d.bindings b (get_in d.bindings number b is)
    (ap (λ x. x && is_among (b.source ∷ b.target ∷ []) place) pair ∙ among end)
  where
    among : (place ≡ b.source) ⊎ (place ≡ b.target) → is_among (b.source ∷ b.target ∷ []) place ≡ true
    among (inl e) = or_left (nat_eq place b.source) (list_any (nat_eq place) (b.target ∷ [])) (eq-eqb place b.source e)
    among (inr e) =
        or_right (nat_eq place b.source) (list_any (nat_eq place) (b.target ∷ []))
        (or_left (nat_eq place b.target) (list_any (nat_eq place) []) (eq-eqb place b.target e))

module _ (d : Definition) (w : World) (id : ℕ) (o new : Object) (is : living w.objects id ≡ Some o) (like : Like d w o new) where
  abbrev os : Objects
  os = put w.objects id (Some new)

  abbrev next : World
  next = with_objects w os

  same : standing os ≡ standing w.objects
  same = fun_ext (λ i. stands_same w.objects id o new is like.place i)

  -- an object that was good and is there still
  other_good : (i : ℕ) (x : Object) → ObjectGood d w (standing w.objects) i x → ObjectGood d next (standing os) i x
  other_good i x g = record {
    place = g.place;
    is = g.is;
    class = g.class;
    values = λ slot spec e. subst (λ s. ValueGood d s spec (slice_get x.values slot)) (sym same) (g.values slot spec e);
    children = subst (λ s. Each (Lives s) x.children) (sym same) g.children;
    parent = family_put w.objects id o new is like.children i x.parent g.parent;
    queue = g.queue;
    apart = g.apart;
    peer = g.peer;
  }

  new_good : ObjectGood d w (standing w.objects) id o → ObjectGood d next (standing os) id new
  new_good g = record {
    place = g.place;
    is = ap (place_at d) like.place ∙ g.is;
    class = like.class ∙ g.class;
    values = λ slot spec e. subst (λ s. ValueGood d s spec (slice_get new.values slot)) (sym same) (like.values slot spec (ap (λ c. spec_of d c slot) (sym like.class) ∙ e));
    children = subst (λ s. Each (Lives s) new.children) (sym same) (subst (Each (Lives (standing w.objects))) (sym like.children) g.children);
    parent = family_put w.objects id o new is like.children id new.parent (subst (FamilyGood w.objects id) (sym like.parent) g.parent);
    queue = subst (λ c. Each (λ slot. (spec : Spec) × (spec_of d c slot ≡ Some spec) × (is_readable spec ≡ true)) new.queue) (sym like.class) like.queue;
    apart = like.apart;
    peer = peer_of g.peer;
  }
    where
      peer_of : PeerGood d w.peers id o → PeerGood d w.peers id new
      peer_of p =
          subst (λ c. PeerGood d w.peers id (record o { class = c; peer = new.peer; disposed = new.disposed })) (sym like.class)
          (subst (λ n. PeerGood d w.peers id (record o { peer = n; disposed = new.disposed })) (sym like.peer)
          (subst (λ b. PeerGood d w.peers id (record o { disposed = b })) (sym like.disposed) p))

  objects_good : ObjectsGood d w → ObjectsGood d next
  objects_good all i x e = go (after w.objects id o new is i x e)
    where
      go : ((id ≡ i) × (x ≡ new)) ⊎ (living w.objects i ≡ Some x) → ObjectGood d next (standing os) i x
      go (inl h) = subst (λ i. ObjectGood d next (standing os) i x) h.0 (subst (ObjectGood d next (standing os) id) (sym h.1) (new_good (all id o is)))
      go (inr h) = other_good i x (all i x h)

  binding_good : (agenda : List Task) (b : Binding) → BindingGood d (standing w.objects) agenda b → BindingGood d (standing os) agenda b
  binding_good agenda b g = record {
    bind = g.bind;
    is = g.is;
    name = g.name;
    slots = g.slots;
    source = ap (λ s. s b.source) same ∙ g.source;
    target = ap (λ s. s b.target) same ∙ g.target;
    setting = g.setting;
  }

  bindings_good : (agenda : List Task) → BindingsGood d (standing w.objects) agenda w.bindings → BindingsGood d (standing os) agenda w.bindings
  bindings_good agenda g = record { each = each_to _ _ w.bindings (binding_good agenda) g.each; rising = g.rising; made = g.made }

  -- the agenda reads the same
  seen : view next ≡ view w
  seen = ap (λ (s : Standing). record (view w) { stands = s }) same

  whole : (costs depths : Tables) (agenda : List Task) → Whole d costs depths agenda w → Whole d costs depths agenda next
  whole costs depths agenda g = record {
    objects = objects_good g.objects;
    handlers = subst (λ s. HandlersGood d costs depths s agenda w.last_handler w.handlers) (sym same) g.handlers;
    bindings = bindings_good agenda g.bindings;
    sources = subst (λ s. Each (SourceGood d s) w.sources) (sym same) g.sources;
    held = subst (λ s. HeldGood s w.builder) (sym same) g.held;
    floating = subst (λ s. Each (Lives s) w.floating) (sym same) g.floating;
    objects_first = g.objects_first;
  }

pub write_keeps : WriteKeeps
write_keeps d costs depths agenda w id o new is like g = record {
  alive = live_put w.objects id o new is;
  seen = seen d w id o new is like;
  whole = whole d w id o new is like costs depths agenda g;
}
