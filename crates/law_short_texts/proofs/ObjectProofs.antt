-- Objects whose properties are short stay so where one is read, written, made, disposed or finalised, or moves in its family.
use Rattle.std.proofs.Common.{ℕ, zero, suc, Bool, true, false, cond, nat_eq, List, [], ◌∷◌, ◌++◌, Option, None, Some}
use Rattle.std.specs.Prelude.{IfOk, IfSome, nat_lt, option_map, slice_get}
use Rattle.ui_machine.specs.declared.arm.Arm.TheVariants as arms
use Rattle.ui_machine.specs.Definition.{Class, Definition}
use Rattle.ui_machine.specs.Definition.Lookups.{no_class, spec_of, specs_of}
use Rattle.ui_machine.specs.Definition.Places.{Place}
use Rattle.ui_machine.specs.Definition.Properties.{Spec}
use Rattle.ui_machine.specs.Definition.Values.{Value}
use Rattle.ui_machine.specs.Outcome.{After, Answer}
use Rattle.ui_machine.specs.Rules.Children.{updated, with_child, with_parent, without_child}
use Rattle.ui_machine.specs.Rules.Construction.{new_object}
use Rattle.ui_machine.specs.Rules.Disposal.{all_forget, children_of, forgets, is_object, lets_go, names_object, objects_disposed, one_lets_go, orphans, without_parent}
use Rattle.ui_machine.specs.Rules.NotifyQueue.{frozen_less, frozen_more, less_frozen, most_freezes, queued, raised}
use Rattle.ui_machine.specs.Rules.Sets.{spec_at}
use Rattle.ui_machine.specs.Runs.{IsShort}
use Rattle.ui_machine.specs.State.Objects.{Object, Objects, asked, changed, living, object_at, put, value_at, with_value}
use Rattle.machine_laws.proofs.KeptProofs.{bind_keeps, only_keeps}
use Rattle.law_typing.specs.Verdict.Accepted.{Each}
use Rattle.law_typing.proofs.Lists.{each_append}
use Rattle.law_short_texts.specs.ShortValues.{HasShortTexts, IsShortObject}
use Rattle.law_short_texts.proofs.Entries.{bind_with, each_changed, each_get, each_read, each_set, each_write, known_with}
use Rattle.law_short_texts.proofs.ValueProofs.{nulled_short}

-- an object, if there is one, is short
abbrev pub IsShortEntry : Option Object → Type 0
IsShortEntry o = IfSome o IsShortObject

abbrev pub AreShortObjects : Objects → Type 0
AreShortObjects os = Each IsShortEntry os

-- ** one object

pub living_short : (os : Objects) → AreShortObjects os → (id : ℕ) → IsShortEntry (living os id)
living_short os short zero = tt
living_short os short (suc i) = each_read IsShortEntry None tt os short i

pub put_short : (os : Objects) → AreShortObjects os → (id : ℕ) (o : Option Object) → IsShortEntry o → AreShortObjects (put os id o)
put_short os short zero o one = short
put_short os short (suc i) o one = each_write IsShortEntry None tt os short i o one

mapped_short : (change : Object → Object) → ((o : Object) → IsShortObject o → IsShortObject (change o)) → (o : Option Object) → IsShortEntry o → IsShortEntry (option_map change o)
mapped_short change so None short = tt
mapped_short change so (Some o) short = so o short

pub object_short : (os : Objects) → AreShortObjects os → (id : ℕ) → IfOk (object_at os id) IsShortObject
object_short os short id = known_with arms.Operand (living os id) IsShortObject (living_short os short id)

-- the value of a property
pub asked_short : (os : Objects) → AreShortObjects os → (id slot : ℕ) → IfOk (asked os id (value_at slot)) IsShort
unfolding asked
asked_short os short id slot = bind_with (object_at os id) (value_at slot) IsShortObject IsShort (object_short os short id) (λ o one.
    known_with arms.Code (slice_get o.values slot) IsShort (each_get IsShort o.values one slot))

-- ** changes of one

pub changed_short : {X : Type 0} (os : Objects) → AreShortObjects os → (id : ℕ) (change : Object → Answer (After Object X))
    → ((o : Object) → IsShortObject o → IfOk (change o) (λ a. IsShortObject a.state)) → IfOk (changed os id change) (λ a. AreShortObjects a.state)
unfolding changed
changed_short os short id change so = bind_with (object_at os id) _ IsShortObject (λ a. AreShortObjects a.state) (object_short os short id) (λ o one.
    bind_with (change o) _ (λ a. IsShortObject a.state) (λ a. AreShortObjects a.state) (so o one) (λ new now. put_short os short id (Some new.state) now))

pub raised_short : (slot : ℕ) (o : Object) → IsShortObject o → IfOk (raised slot o) (λ a. IsShortObject a.state)
raised_short slot o short = by (nat_eq o.freezes 0)
  where
    by : (b : Bool) → IsShortObject (cond {A = After Object Bool} b (record { state = o; answer = true }) (record { state = record o { queue = queued o.queue slot }; answer = false })).state
    by true = short
    by false = short

pub more_short : (o : Object) → IsShortObject o → IfOk (frozen_more o) (λ a. IsShortObject a.state)
more_short o short = only_keeps (nat_lt o.freezes most_freezes) arms.Freeze _ (λ a. IsShortObject a.state) short

pub less_short : (o : Object) → IsShortObject o → IfOk (frozen_less o) (λ a. IsShortObject a.state)
less_short o short = only_keeps (nat_lt 0 o.freezes) arms.Freeze _ (λ a. IsShortObject a.state) (by _)
  where
    by : (n : ℕ) → IsShortObject (less_frozen n o).state
    by zero = short
    by (suc n) = short

pub value_short : (slot : ℕ) (v : Value) → IsShort v → (o : Object) → IsShortObject o → IfOk (with_value slot v o) (λ a. IsShortObject a.state)
unfolding with_value
value_short slot v one o short = bind_keeps (value_at slot o) _ (λ a. IsShortObject a.state) (λ old _. each_set IsShort o.values short slot v one)

-- ** families

updated_short : (change : Object → Object) → ((o : Object) → IsShortObject o → IsShortObject (change o)) → (id : ℕ) (os : Objects) → AreShortObjects os
    → AreShortObjects (updated change id os)
updated_short change so id os short = put_short os short id _ (mapped_short change so (living os id) (living_short os short id))

pub family_short : (os : Objects) → AreShortObjects os → (parent child : ℕ) → AreShortObjects (updated (with_parent (Some parent)) child (updated (with_child child) parent os))
family_short os short parent child = updated_short (with_parent (Some parent)) (λ o one. one) child _ (updated_short (with_child child) (λ o one. one) parent os short)

pub orphan_short : (os : Objects) → AreShortObjects os → (parent child : ℕ) → AreShortObjects (updated (with_parent None) child (updated (without_child child) parent os))
orphan_short os short parent child = updated_short (with_parent None) (λ o one. one) child _ (updated_short (without_child child) (λ o one. one) parent os short)

-- ** disposal

orphans_short : (ids : List ℕ) (os : Objects) → AreShortObjects os → AreShortObjects (orphans ids os)
orphans_short [] os short = short
orphans_short (id ∷ ids) os short =
    orphans_short ids _ (put_short os short id _ (mapped_short without_parent (λ o one. one) (living os id) (living_short os short id)))

forgets_short : (d : Definition) (id : ℕ) (o : Object) → IsShortObject o → IsShortObject (forgets d id o)
forgets_short d id o short = nulled_short (λ s v. cond s.weak (names_object id v) false) (specs_of d o.class) o.values short

lets_go_short : (d : Definition) (o : Object) → IsShortObject o → IsShortObject (lets_go d o)
lets_go_short d o short = nulled_short (λ s v. cond s.weak false (is_object v)) (specs_of d o.class) o.values short

pub disposed_short : (d : Definition) (id : ℕ) (os : Objects) → AreShortObjects os → AreShortObjects (objects_disposed d id os)
disposed_short d id os short =
    let forgot : AreShortObjects (all_forget d id os) = each_changed IsShortEntry IsShortEntry _ os (mapped_short (forgets d id) (forgets_short d id)) short in
    let went : AreShortObjects (one_lets_go d id (all_forget d id os)) =
    put_short (all_forget d id os) forgot id _ (mapped_short (lets_go d) (lets_go_short d) (living (all_forget d id os) id) (living_short (all_forget d id os) forgot id)) in
    orphans_short (children_of (living os id)) (one_lets_go d id (all_forget d id os)) went

-- ** what a definition gives

abbrev pub HasShortDefault : Spec → Type 0
HasShortDefault s = IsShort s.default

module _ (d : Definition) (texts : HasShortTexts d) where
  -- each default of a class
  pub specs_short : (class : ℕ) → Each HasShortDefault (specs_of d class)
  specs_short class = each_read (λ (c : Class). Each HasShortDefault c.specs) no_class tt d.classes texts.defaults class

  pub spec_short : (os : Objects) (id slot : ℕ) → IfOk (spec_at d os id slot) HasShortDefault
  unfolding spec_at
  spec_short os id slot = bind_keeps (object_at os id) _ HasShortDefault (λ o _.
      known_with arms.Code (spec_of d o.class slot) HasShortDefault (each_get HasShortDefault (specs_of d o.class) (specs_short o.class) slot))

  -- an object as it is made
  pub new_short : (place : ℕ) (p : Place) (peer : Option ℕ) → IsShortObject (new_object d place p peer)
  new_short place p peer = each_changed HasShortDefault IsShort (λ (s : Spec). s.default) (specs_of d p.class) (λ s one. one) (specs_short p.class)

  pub made_short : (os : Objects) → AreShortObjects os → (place : ℕ) (p : Place) (peer : Option ℕ) → AreShortObjects (os ++ Some (new_object d place p peer) ∷ [])
  made_short os short place p peer = each_append IsShortEntry os _ short (new_short place p peer, tt)
