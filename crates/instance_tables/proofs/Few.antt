-- How often objects can hold one.
use Rattle.std.proofs.Common.{◌≡◌, ℕ, suc, ◌+◌, ◌*◌, ◌<◌, ◌≤◌, ◌^◌, List, [], ◌∷◌, Bool, true, false, cond, length, nat_eq, Option, Some, None, refl, sym, ap, subst, ◌∙◌, arith}
use Rattle.std.specs.Ordering.{nat_cmp}
use Rattle.std.specs.List.Sorted.{IsStrictlySortedBy}
use Rattle.std.specs.Map.{keys_of}
use Rattle.ui_machine.specs.Seq.{read, total}
use Rattle.ui_machine.specs.Definition.{Definition}
use Rattle.ui_machine.specs.Definition.Lookups.{specs_of}
use Rattle.ui_machine.specs.Definition.Properties.{Spec}
use Rattle.ui_machine.specs.Definition.Values.{Value}
use Rattle.ui_machine.specs.Definition.Values as values
use Rattle.ui_machine.specs.State.Objects.{Object, Objects, live}
use Rattle.ui_machine.specs.State.References.{in_object, in_option, in_value, in_values, same}
use Rattle.ui_machine.specs.declared.ids.ObjectId.{ObjectId}
use Rattle.instance_tables.specs.Bounds.{AllHoldFew, HoldsFew}
use Rattle.instance_tables.specs.Store.{Store, ids_of}
use Rattle.instance_tables.specs.View.{InRange, object_in, store_of, instances_at}
use Rattle.instance_tables.specs.declared.instance.Instance.{Instance}
use Rattle.instance_tables.proofs.Maps.{live_len}
use Rattle.instance_tables.proofs.Shown.{found_in}
use Rattle.instance_tables.proofs.Without.{length_ids}

-- ** one is held at most once by each

pub same_most : (o i : ℕ) → same o i ≤ 1
same_most o i = by (nat_eq i o)
  where
    by : (b : Bool) → cond b 1 0 ≤ 1
    by true = omega arith
    by false = omega arith

pub option_most : (o : ℕ) (i : Option ℕ) → in_option o i ≤ 1
option_most o None = omega arith
option_most o (Some i) = same_most o i

pub value_most : (o : ℕ) (v : Value) → in_value o v ≤ 1
value_most o (values.bool b) = omega arith
value_most o (values.whole kind n) = omega arith
value_most o (values.text s) = omega arith
value_most o (values.enum type n) = omega arith
value_most o (values.flags type bits) = omega arith
value_most o (values.object i) = option_most o i

pub ids_most : (o : ℕ) (is : List ℕ) → total (same o) is ≤ length is
ids_most o [] = omega arith
ids_most o (i ∷ is) = omega (arith, same_most o i, ids_most o is)

strong_most : (o : ℕ) (weak : Bool) (v : Value) → cond weak 0 (in_value o v) ≤ 1
strong_most o true v = omega arith
strong_most o false v = value_most o v

values_most : (o : ℕ) (specs : List Spec) (vs : List Value) → in_values o specs vs ≤ length vs
values_most o [] vs = omega arith
values_most o (s ∷ specs) [] = omega arith
values_most o (s ∷ specs) (v ∷ vs) = omega (arith, strong_most o s.weak v, values_most o specs vs)

-- ** what objects hold

object_most : (d : Definition) (o : ℕ) (x : Object) → HoldsFew x → in_object d o (Some x) ≤ 18446744073709551614
object_most d o x few = omega (arith, few.0, few.1, values_most o (specs_of d x.class) x.values, ids_most o x.children)

objects_most : (d : Definition) (o : ℕ) (os : Objects) → ((i : ℕ) (x : Object) → read None os i ≡ Some x → HoldsFew x)
    → total (in_object d o) os ≤ live os * 18446744073709551614
objects_most d o [] few = omega arith
objects_most d o (None ∷ os) few = omega (arith, objects_most d o os (λ i x e. few (suc i) x e))
objects_most d o (Some x ∷ os) few =
    omega (arith, object_most d o x (few 0 x refl), objects_most d o os (λ i y e. few (suc i) y e))

-- what is seen of an instance holds as few
object_few : (o : Option Instance) → ((w : Instance) → o ≡ Some w → HoldsFew w.object) → (x : Object) → object_in o ≡ Some x → HoldsFew x
object_few None all x e = absurd (cc)
object_few (Some w) all x e = let same : w.object ≡ x = cc in subst HoldsFew same (all w refl)

module _ (m : List (ℕ × Instance)) (made limit : ℕ) (floats : List ObjectId) (old : Store) (range : InRange (instances_at m) made)
    (is : store_of (instances_at m) made limit floats ≡ old) (ordered : IsStrictlySortedBy nat_cmp (keys_of m)) (few : AllHoldFew (instances_at m)) where
  lives_few : (i : ℕ) (x : Object) → read None old.objects i ≡ Some x → HoldsFew x
  lives_few i x e = object_few (instances_at m (suc i)) (λ w here. few (suc i) w here) x (sym (found_in (instances_at m) made limit floats old range is (suc i)) ∙ e)

  -- fewer than 2^63 objects and floating ones
  pub all_few : length m < 2 ^ 63 → length floats < 2 ^ 63 → (d : Definition) (o : ℕ)
      → total (in_object d o) old.objects + total (same o) old.floating ≤ 2 ^ 127
  all_few small short d o =
      let floating : total (same o) old.floating ≡ total (same o) (ids_of floats) = ap (λ (s : Store). total (same o) s.floating) (sym is) in
      omega (
        arith,
        objects_most d o old.objects lives_few,
        live_len m made limit floats old range is ordered,
        small,
        floating,
        ids_most o (ids_of floats),
        length_ids floats,
        short,
      )
