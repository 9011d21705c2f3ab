-- An object that is disposed and finalised: what is left of it, and counts that stay exact.
use Rattle.std.proofs.Common.{◌≡◌, ℕ, zero, suc, ◌+◌, ◌-◌, List, [], ◌∷◌, map, Bool, true, false, cond, Option, Some, None, is_some, IsSome, refl, sym, ap, ◌∙◌, arith}
use Rattle.std.specs.Option.{option_map}
use Rattle.ui_machine.specs.Seq.{read, total}
use Rattle.ui_machine.specs.Definition.{Class, Definition}
use Rattle.ui_machine.specs.Definition.Lookups.{no_class, specs_of}
use Rattle.ui_machine.specs.Definition.Properties.{Spec}
use Rattle.ui_machine.specs.Definition.Values.{Value}
use Rattle.ui_machine.specs.State.Objects.{Object, Objects, living, put}
use Rattle.ui_machine.specs.State.References.{in_object, in_value, in_values, same}
use Rattle.ui_machine.specs.Rules.Children.{updated}
use Rattle.ui_machine.specs.Rules.Construction.{no_spec}
use Rattle.ui_machine.specs.Rules.Disposal.{all_forget, children_of, forgets, is_object, lets_go, nulled, objects_disposed, one_lets_go, orphans, without_parent}
use Rattle.instance_tables.specs.Store.{Store, count_of, with_objects}
use Rattle.instance_tables.specs.Weak.{Marks, Knows, masked, dropped_value}
use Rattle.instance_tables.specs.Release.{emptied, in_strong, marks_in, values_in, Disposes}
use Rattle.instance_tables.specs.Laws.{MarksKnown, DisposeCounts, FinaliseCounts}
use Rattle.instance_tables.proofs.Families.{still_live}
use Rattle.instance_tables.proofs.Held.{dispose_moves, finalise_moves, find_mapped, forgets_nothing}

-- ** marks

abbrev marked_class : List Bool → Class
marked_class bs = record no_class { specs = map (λ b. record no_spec { weak = b }) bs }

marks_of : (bs : List Bool) → map (λ (s : Spec). s.weak) (marked_class bs).specs ≡ bs
marks_of [] = refl
marks_of (b ∷ bs) = ap (λ (cs : List Bool). b ∷ cs) (marks_of bs)

marked_classes : (weak : Marks) (class : ℕ)
    → map (λ (s : Spec). s.weak) (read no_class (map marked_class weak) class).specs ≡ read [] weak class
marked_classes [] class = refl
marked_classes (bs ∷ weak) zero = marks_of bs
marked_classes (bs ∷ weak) (suc class) = marked_classes weak class

pub known_by : MarksKnown
known_by weak = (
  record {
    types = [];
    classes = map marked_class weak;
    shapes = [];
    programs = [];
    places = [];
    bindings = [];
    most_objects = 0;
    most_handlers = 0;
  },
  marked_classes weak,
)

-- ** in the machine's words

marked_dropped : (specs : List Spec) (vs : List Value)
    → masked dropped_value (map (λ (s : Spec). s.weak) specs) vs ≡ nulled (λ s v. cond s.weak false (is_object v)) specs vs
marked_dropped [] vs = refl
marked_dropped (s ∷ specs) [] = refl
marked_dropped (s ∷ specs) (v ∷ vs) = ap (λ (ws : List Value). dropped_value s.weak v ∷ ws) (marked_dropped specs vs)

one_empties : (d : Definition) (weak : Marks) → Knows d weak → (o : Object) → emptied weak o ≡ lets_go d o
one_empties d weak knows o =
    ap (λ (bs : List Bool). record o { values = masked dropped_value bs o.values; children = []; disposed = true }) (sym (knows o.class))
    ∙ ap (λ (vs : List Value). record o { values = vs; children = []; disposed = true }) (marked_dropped (specs_of d o.class) o.values)

empties : (d : Definition) (weak : Marks) → Knows d weak → (o : Option Object) → option_map (emptied weak) o ≡ option_map (lets_go d) o
empties d weak knows None = refl
empties d weak knows (Some o) = ap Some (one_empties d weak knows o)

marked_strong : (o : ℕ) (specs : List Spec) (vs : List Value) → in_strong o (map (λ (s : Spec). s.weak) specs) vs ≡ in_values o specs vs
marked_strong o [] vs = refl
marked_strong o (s ∷ specs) [] = refl
marked_strong o (s ∷ specs) (v ∷ vs) = ap (λ n. cond s.weak 0 (in_value o v) + n) (marked_strong o specs vs)

-- what an object holds, by the marks
held_by_marks : (d : Definition) (weak : Marks) → Knows d weak → (o : ℕ) (x : Option Object)
    → in_strong o (marks_in weak x) (values_in x) + total (same o) (children_of x) ≡ in_object d o x
held_by_marks d weak knows o None = refl
held_by_marks d weak knows o (Some x) =
    ap (λ n. n + total (same o) x.children)
    (ap (λ (bs : List Bool). in_strong o bs x.values) (sym (knows x.class)) ∙ marked_strong o (specs_of d x.class) x.values)

-- ** what is left

forgotten_in : (d : Definition) (os : Objects) (id i : ℕ) → living (all_forget d id os) i ≡ option_map (forgets d id) (living os i)
forgotten_in d os id zero = refl
forgotten_in d os id (suc i) = find_mapped (forgets d id) os i

children_stay : (d : Definition) (id : ℕ) (x : Option Object) → children_of (option_map (forgets d id) x) ≡ children_of x
children_stay d id None = refl
children_stay d id (Some x) = refl

mapped_some : (f : Object → Object) (x : Option Object) → is_some (option_map f x) ≡ is_some x
mapped_some f None = refl
mapped_some f (Some x) = refl

orphans_live : (ids : List ℕ) (os : Objects) (id : ℕ) → IsSome (living os id) → IsSome (living (orphans ids os) id)
orphans_live [] os id some = some
orphans_live (i ∷ ids) os id some = orphans_live ids (updated without_parent i os) id (still_live without_parent os i id some)

pub forgotten_lives : (d : Definition) (os : Objects) (id i : ℕ) → IsSome (living os i) → IsSome (living (all_forget d id os) i)
forgotten_lives d os id i some = ap is_some (forgotten_in d os id i) ∙ mapped_some (forgets d id) (living os i) ∙ some

-- what was disposed still lives
pub disposed_lives : (d : Definition) (os : Objects) (id : ℕ) → IsSome (living os id) → IsSome (living (objects_disposed d id os) id)
disposed_lives d os id some =
    orphans_live (children_of (living os id)) (one_lets_go d id (all_forget d id os)) id
    (still_live (lets_go d) (all_forget d id os) id id (forgotten_lives d os id id some))

-- ** the steps of a dispose

module _ (d : Definition) (weak : Marks) (knows : Knows d weak) (s f r e n : Store) (id : ℕ) (children : List ℕ)
    (forgot : f ≡ with_objects s (all_forget d id s.objects))
    (let_go : (i : ℕ) → count_of r.counts i
    ≡ count_of f.counts i - in_strong i (marks_in weak (living f.objects id)) (values_in (living f.objects id)))
    (counted : r ≡ record f { counts = r.counts })
    (emptied_one : e.objects ≡ updated (emptied weak) id r.objects) (same_rest : e ≡ with_objects r e.objects)
    (were : children ≡ children_of (living r.objects id))
    (orphaned : n.objects ≡ orphans children e.objects)
    (released : (i : ℕ) → count_of n.counts i ≡ count_of e.counts i - total (same i) children)
    (stays : n ≡ record e { objects = n.objects; counts = n.counts }) where
  objects_then : r.objects ≡ all_forget d id s.objects
  objects_then = ap (λ (t : Store). t.objects) counted ∙ ap (λ (t : Store). t.objects) forgot

  lives_then : living r.objects id ≡ option_map (forgets d id) (living s.objects id)
  lives_then = ap (λ (os : Objects). living os id) objects_then ∙ forgotten_in d s.objects id id

  children_then : children ≡ children_of (living s.objects id)
  children_then = were ∙ ap children_of lives_then ∙ children_stay d id (living s.objects id)

  objects_now : n.objects ≡ objects_disposed d id s.objects
  objects_now =
      orphaned
      ∙ ap (orphans children)
      (emptied_one ∙ ap (put r.objects id) (empties d weak knows (living r.objects id)) ∙ ap (one_lets_go d id) objects_then)
      ∙ ap (λ is. orphans is (one_lets_go d id (all_forget d id s.objects))) children_then

  counts_now : (i : ℕ) → count_of n.counts i ≡ count_of s.counts i - in_object d i (living s.objects id)
  counts_now i =
      let was : living f.objects id ≡ option_map (forgets d id) (living s.objects id) =
      ap (λ (t : Store). living t.objects id) forgot ∙ forgotten_in d s.objects id id in
      let held : in_strong i (marks_in weak (living f.objects id)) (values_in (living f.objects id)) + total (same i) children
      ≡ in_object d i (living s.objects id) =
      ap (λ is. in_strong i (marks_in weak (living f.objects id)) (values_in (living f.objects id)) + total (same i) is)
      (children_then ∙ sym (children_stay d id (living s.objects id)) ∙ sym (ap children_of was))
      ∙ held_by_marks d weak knows i (living f.objects id) ∙ ap (in_object d i) was
      ∙ forgets_nothing d id i (living s.objects id) in
      let first : count_of f.counts i ≡ count_of s.counts i = ap (λ (t : Store). count_of t.counts i) forgot in
      let then : count_of e.counts i ≡ count_of r.counts i = ap (λ (t : Store). count_of t.counts i) same_rest in
      omega (arith, let_go i, released i, first, then, held)

  pub disposes : Disposes d id s n
  disposes = record {
    objects = objects_now;
    floating = ap (λ (t : Store). t.floating) stays ∙ ap (λ (t : Store). t.floating) same_rest
        ∙ ap (λ (t : Store). t.floating) counted ∙ ap (λ (t : Store). t.floating) forgot;
    limit = ap (λ (t : Store). t.limit) stays ∙ ap (λ (t : Store). t.limit) same_rest
        ∙ ap (λ (t : Store). t.limit) counted ∙ ap (λ (t : Store). t.limit) forgot;
    counts = counts_now;
  }

-- ** counts that stay exact

pub dispose_exact : DisposeCounts
dispose_exact d beside s n id disposed counted o =
    let objects : total (in_object d o) n.objects ≡ total (in_object d o) (objects_disposed d id s.objects) =
    ap (λ (os : Objects). total (in_object d o) os) disposed.objects in
    let floats : total (same o) n.floating ≡ total (same o) s.floating = ap (λ (is : List ℕ). total (same o) is) disposed.floating in
    omega (arith, objects, floats, counted o, disposed.counts o, dispose_moves d s.objects id o)

pub finalise_exact : FinaliseCounts
finalise_exact d beside s n id finalised counted o =
    let objects : total (in_object d o) n.objects ≡ total (in_object d o) (put (objects_disposed d id s.objects) id None) =
    ap (λ (os : Objects). total (in_object d o) os) finalised.objects in
    let floats : total (same o) n.floating ≡ total (same o) s.floating = ap (λ (is : List ℕ). total (same o) is) finalised.floating in
    omega (arith, objects, floats, counted o, finalised.counts o, finalise_moves d s.objects id o)
