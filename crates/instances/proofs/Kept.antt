-- Classes, numbers of properties and peers that objects keep as the objects change.
use Rattle.std.proofs.Common.{◌≡◌, refl, sym, ap, ◌∙◌, ℕ, zero, suc, ◌<◌, max, length, List, [], ◌∷◌, ◌++◌, Bool, true, false, map, nat_lt, nat_eq, cond, Option, None, Some, Result, Ok, Err, slice_get, slice_set, length-set, subst, ◌-◌, ◌⊎◌, inl, inr, IfOk, OnErr, arith}
use Rattle.std.specs.Option.{ForSome, option_map}
use Rattle.std.proofs.lemmas.List.{length-map}
use Rattle.ui_machine.specs.declared.arm.Arm.TheVariants as arms
use Rattle.ui_machine.specs.Definition.{Definition}
use Rattle.ui_machine.specs.Definition.Lookups as machine
use Rattle.ui_machine.specs.Definition.Properties.{Spec}
use Rattle.ui_machine.specs.Definition.Types.{GType}
use Rattle.ui_machine.specs.Definition.Values.{Value}
use Rattle.ui_machine.specs.Outcome.{After, Answer, known, only_if, ◌>>=◌}
use Rattle.ui_machine.specs.Seq.{read, write}
use Rattle.ui_machine.specs.State.Objects.{Object, Objects, changed, living, put, with_value}
use Rattle.ui_machine.specs.Rules.Children.{updated, with_child, with_parent, without_child}
use Rattle.ui_machine.specs.Rules.Disposal.{all_forget, children_of, forgets, is_object, lets_go, names_object, nulled, objects_disposed, one_lets_go, orphans, peer_of, without_parent}
use Rattle.ui_machine.specs.Rules.NotifyQueue.{frozen_less, frozen_more, less_frozen, queued, raised}
use Rattle.param_specs.specs.Table.{specs_of}
use Rattle.instance_tables.specs.Store.{Store, has_room, with_floating, with_object}
use Rattle.instance_tables.specs.Release.{Disposes, Finalises}
use Rattle.instance_tables.specs.Weak.{Knows, Marks}
use Rattle.instance_tables.proofs.Disposed.{known_by}
use Rattle.instance_tables.specs.Family.{Adopts, Leaves, parent_in}
use Rattle.instance_tables.specs.declared.error.AdoptError.{AdoptError}
use Rattle.instance_tables.specs.declared.error.AdoptError.TheVariants.{NotLiving, HasParent, ChildLimit, OutOfMemory}
use Rattle.instances.specs.Lent.{AreApart, AreLent, IsFree, peer_at}
use Rattle.instances.specs.Making.{born}
use Rattle.instances.specs.Slotted.{AreSlotted}

-- ** what an object keeps

-- its class, how many properties it has, and its peer
pub record Lasting : Type 0 where
  pub class : ℕ
  pub slots : ℕ
  pub peer : Option ℕ

abbrev pub lasting : ℕ → ℕ → Option ℕ → Lasting
lasting class slots peer = record { class = class; slots = slots; peer = peer }

abbrev pub lasting_of : Object → Lasting
lasting_of o = lasting o.class (length o.values) o.peer

abbrev pub lasting_in : Option Object → Option Lasting
lasting_in o = option_map lasting_of o

abbrev pub lasting_at : Objects → ℕ → Option Lasting
lasting_at os id = lasting_in (living os id)

-- what lives now lived before, and has kept this
abbrev pub NoMore : Objects → Objects → Type 0
NoMore old new = (id : ℕ) (k : Lasting) → lasting_at new id ≡ Some k → lasting_at old id ≡ Some k

-- the same live, and each has kept this
abbrev pub SameLasting : Objects → Objects → Type 0
SameLasting old new = (id : ℕ) → lasting_at new id ≡ lasting_at old id

pub no_more : (old new : Objects) → SameLasting old new → NoMore old new
no_more old new same id k at = sym (same id) ∙ at

pub same_objects : (old new : Objects) → new ≡ old → NoMore old new
same_objects old new is id k at = sym (ap (λ os. lasting_at os id) is) ∙ at

-- what has a peer now had it before
had_peer : (old new : Objects) → NoMore old new → (id number : ℕ) → peer_at new id ≡ Some number → peer_at old id ≡ Some number
had_peer old new fewer id number at = from (living new id) refl at
  where
    into : (x : Option Object) (o : Object) → o.peer ≡ Some number → lasting_in x ≡ Some (lasting_of o) → peer_of x ≡ Some number
    into None o has e = absurd (cc e)
    into (Some was) o has e = let same : lasting_of was ≡ lasting_of o = cc e in ap (λ (k : Lasting). k.peer) same ∙ has

    from : (x : Option Object) → living new id ≡ x → peer_of x ≡ Some number → peer_at old id ≡ Some number
    from None here has = absurd (cc has)
    from (Some o) here has = into (living old id) o has (fewer id (lasting_of o) (ap lasting_in here))

pub lent_on : (last count : ℕ) (old new : Objects) → NoMore old new → AreLent last count old → AreLent last count new
lent_on last count old new fewer are id number at = are id number (had_peer old new fewer id number at)

pub apart_on : (old new : Objects) → NoMore old new → AreApart old → AreApart new
apart_on old new fewer are i j number at_i at_j = are i j number (had_peer old new fewer i number at_i) (had_peer old new fewer j number at_j)

-- what lives now has as many properties as before, of the same class
pub slotted_on : (types : List GType) (specs : List (List Spec)) (old new : Objects) → NoMore old new → AreSlotted types specs old → AreSlotted types specs new
slotted_on types specs old new fewer are id o here = into (living old id) refl (fewer id (lasting_of o) (ap lasting_in here))
  where
    into : (x : Option Object) → living old id ≡ x → lasting_in x ≡ Some (lasting_of o) → length o.values ≡ length (specs_of types specs o.class)
    into None was e = absurd (cc e)
    into (Some was) before e =
        let same : lasting_of was ≡ lasting_of o = cc e in
        sym (ap (λ (k : Lasting). k.slots) same) ∙ are id was before ∙ ap (λ (k : Lasting). length (specs_of types specs k.class)) same

-- ** objects that are changed

abbrev Keeps : (Object → Object) → Type 0
Keeps change = (o : Object) → lasting_of (change o) ≡ lasting_of o

kept : (change : Object → Object) → Keeps change → (x : Option Object) → lasting_in (option_map change x) ≡ lasting_in x
kept change keeps None = refl
kept change keeps (Some o) = ap Some (keeps o)

-- where one is changed that may live
pub same_updated : (change : Object → Object) → Keeps change → (id : ℕ) (os : Objects) → SameLasting os (updated change id os)
same_updated change keeps zero os j = refl
same_updated change keeps (suc i) os zero = refl
same_updated change keeps (suc i) os (suc j) = by os i j
  where
    by : (xs : Objects) (i j : ℕ) → lasting_in (read None (write None xs i (option_map change (read None xs i))) j) ≡ lasting_in (read None xs j)
    by [] zero zero = refl
    by [] zero (suc j) = refl
    by [] (suc i) zero = refl
    by [] (suc i) (suc j) = by [] i j
    by (x ∷ xs) zero zero = kept change keeps x
    by (x ∷ xs) zero (suc j) = refl
    by (x ∷ xs) (suc i) zero = refl
    by (x ∷ xs) (suc i) (suc j) = by xs i j

-- where one that lives is put anew
pub same_put : (os : Objects) (id : ℕ) (o new : Object) → living os id ≡ Some o → lasting_of new ≡ lasting_of o → SameLasting os (put os id (Some new))
same_put os zero o new here keeps j = refl
same_put os (suc i) o new here keeps zero = refl
same_put os (suc i) o new here keeps (suc j) = by os i j here
  where
    by : (xs : Objects) (i j : ℕ) → read None xs i ≡ Some o → lasting_in (read None (write None xs i (Some new)) j) ≡ lasting_in (read None xs j)
    by [] i j at = absurd (cc at)
    by (x ∷ xs) zero zero at = ap Some keeps ∙ sym (ap lasting_in at)
    by (x ∷ xs) zero (suc j) at = refl
    by (x ∷ xs) (suc i) zero at = refl
    by (x ∷ xs) (suc i) (suc j) at = by xs i j at

-- where one is taken out
pub fewer_without : (os : Objects) (id : ℕ) → NoMore os (put os id None)
fewer_without os zero j k at = at
fewer_without os (suc i) zero k at = at
fewer_without os (suc i) (suc j) k at = by os i j at
  where
    by : (xs : Objects) (i j : ℕ) → lasting_in (read None (write None xs i None) j) ≡ Some k → lasting_in (read None xs j) ≡ Some k
    by [] zero zero h = h
    by [] zero (suc j) h = h
    by [] (suc i) zero h = h
    by [] (suc i) (suc j) h = by [] i j h
    by (x ∷ xs) zero zero h = absurd (cc h)
    by (x ∷ xs) zero (suc j) h = h
    by (x ∷ xs) (suc i) zero h = h
    by (x ∷ xs) (suc i) (suc j) h = by xs i j h

-- ** disposed

as_many_nulled : (test : Spec → Value → Bool) (specs : List Spec) (vs : List Value) → length (nulled test specs vs) ≡ length vs
as_many_nulled test [] vs = refl
as_many_nulled test (s ∷ specs) [] = refl
as_many_nulled test (s ∷ specs) (v ∷ vs) = ap suc (as_many_nulled test specs vs)

forgetting_keeps : (d : Definition) (id : ℕ) → Keeps (forgets d id)
forgetting_keeps d id o =
    ap (λ n. lasting o.class n o.peer) (as_many_nulled (λ s v. cond s.weak (names_object id v) false) (machine.specs_of d o.class) o.values)

letting_go_keeps : (d : Definition) → Keeps (lets_go d)
letting_go_keeps d o =
    ap (λ n. lasting o.class n o.peer) (as_many_nulled (λ s v. cond s.weak false (is_object v)) (machine.specs_of d o.class) o.values)

same_forgotten : (d : Definition) (id : ℕ) (os : Objects) → SameLasting os (all_forget d id os)
same_forgotten d id os zero = refl
same_forgotten d id os (suc j) = by os j
  where
    by : (xs : Objects) (j : ℕ) → lasting_in (read None (map (option_map (forgets d id)) xs) j) ≡ lasting_in (read None xs j)
    by [] j = refl
    by (x ∷ xs) zero = kept (forgets d id) (forgetting_keeps d id) x
    by (x ∷ xs) (suc j) = by xs j

same_orphans : (ids : List ℕ) (os : Objects) → SameLasting os (orphans ids os)
same_orphans [] os j = refl
same_orphans (id ∷ ids) os j = same_orphans ids (updated without_parent id os) j ∙ same_updated without_parent (λ o. refl) id os j

pub same_disposed : (d : Definition) (id : ℕ) (os : Objects) → SameLasting os (objects_disposed d id os)
same_disposed d id os j =
    same_orphans (children_of (living os id)) (one_lets_go d id (all_forget d id os)) j
    ∙ same_updated (lets_go d) (letting_go_keeps d) id (all_forget d id os) j
    ∙ same_forgotten d id os j

pub fewer_finalised : (d : Definition) (id : ℕ) (os : Objects) → NoMore os (put (objects_disposed d id os) id None)
fewer_finalised d id os j k at =
    no_more os (objects_disposed d id os) (same_disposed d id os) j k (fewer_without (objects_disposed d id os) id j k at)

-- ** families

pub fewer_adopted : (result : Result (Unit {0}) AdoptError) (parent child : ℕ) (s n : Store) → Adopts result parent child s n → NoMore s.objects n.objects
fewer_adopted (Ok x) parent child s n adopts =
    let joined : SameLasting s.objects (updated (with_parent (Some parent)) child (updated (with_child child) parent s.objects)) =
    λ j. same_updated (with_parent (Some parent)) (λ o. refl) child (updated (with_child child) parent s.objects) j
    ∙ same_updated (with_child child) (λ o. refl) parent s.objects j in
    λ j k at. sym (joined j) ∙ sym (ap (λ os. lasting_at os j) adopts.1.objects) ∙ at
fewer_adopted (Err OutOfMemory) parent child s n adopts = same_objects s.objects n.objects (ap (λ (x : Store). x.objects) adopts.1)
fewer_adopted (Err NotLiving) parent child s n adopts = same_objects s.objects n.objects (ap (λ (x : Store). x.objects) adopts.1)
fewer_adopted (Err HasParent) parent child s n adopts = same_objects s.objects n.objects (ap (λ (x : Store). x.objects) adopts.1)
fewer_adopted (Err ChildLimit) parent child s n adopts = same_objects s.objects n.objects (ap (λ (x : Store). x.objects) adopts.1)

pub fewer_orphaned : (child : ℕ) (s n : Store) → (parent_in (living s.objects child) ≡ None → n ≡ s)
    → ((parent : ℕ) → parent_in (living s.objects child) ≡ Some parent → Leaves parent child s n) → NoMore s.objects n.objects
fewer_orphaned child s n alone leaves = by (parent_in (living s.objects child)) refl
  where
    by : (p : Option ℕ) → parent_in (living s.objects child) ≡ p → NoMore s.objects n.objects
    by None is = same_objects s.objects n.objects (ap (λ (x : Store). x.objects) (alone is))
    by (Some parent) is =
        let left = leaves parent is in
        let same : SameLasting s.objects (updated (with_parent None) child (updated (without_child child) parent s.objects)) =
        λ j. same_updated (with_parent None) (λ o. refl) child (updated (without_child child) parent s.objects) j
        ∙ same_updated (without_child child) (λ o. refl) parent s.objects j in
        λ j k at. sym (same j) ∙ sym (ap (λ os. lasting_at os j) left.objects) ∙ at

-- ** one object, asked to change

abbrev pub KeepsLasting : {X : Type 0} → (Object → Answer (After Object X)) → Type 0
KeepsLasting {X} change = (o : Object) (a : After Object X) → change o ≡ Ok a → lasting_of a.state ≡ lasting_of o

pub fewer_changed : {X : Type 0} (os new : Objects) (id : ℕ) (change : Object → Answer (After Object X)) (x : X) → KeepsLasting change
    → changed os id change ≡ Ok (record { state = new; answer = x }) → NoMore os new
unfolding changed
fewer_changed {X} os new id change x keeps is = by (living os id) refl is
  where
    put_in : After Object X → Answer (After Objects X)
    put_in w = Ok (record { state = put os id (Some w.state); answer = w.answer })

    of_one : (o : Object) → living os id ≡ Some o → (r : Answer (After Object X)) → change o ≡ r → (r >>= put_in) ≡ Ok (record { state = new; answer = x }) → NoMore os new
    of_one o here (Err arm) at e = absurd (cc e)
    of_one o here (Ok w) at e =
        let left : record { state = put os id (Some w.state); answer = w.answer } ≡ record { state = new; answer = x } = cc e in
        let put_is : put os id (Some w.state) ≡ new = ap (λ (r : After Objects X). r.state) left in
        λ j k has. sym (same_put os id o w.state here (keeps o w at) j) ∙ ap (λ y. lasting_at y j) put_is ∙ has

    by : (o : Option Object) → living os id ≡ o → (known arms.Operand o >>= λ y. (change y >>= put_in)) ≡ Ok (record { state = new; answer = x }) → NoMore os new
    by None here e = absurd (cc e)
    by (Some o) here e = of_one o here (change o) refl e

pub writing_keeps : (slot : ℕ) (v : Value) → KeepsLasting (with_value slot v)
unfolding with_value
writing_keeps slot v o a e = by (slice_get o.values slot) e
  where
    write_in : Value → Answer (After Object Value)
    write_in old = Ok (record { state = record o { values = slice_set o.values slot v }; answer = old })

    by : (x : Option Value) → (known arms.Code x >>= write_in) ≡ Ok a → lasting_of a.state ≡ lasting_of o
    by None h = absurd (cc h)
    by (Some old) h = let is : record { state = record o { values = slice_set o.values slot v }; answer = old } ≡ a = cc h in
        sym (ap (λ (w : After Object Value). lasting_of w.state) is) ∙ ap (λ n. lasting o.class n o.peer) (length-set o.values slot v)

pub freezing_keeps : KeepsLasting frozen_more
freezing_keeps o a e = by (nat_lt o.freezes 18446744073709551615) (record { state = record o { freezes = suc o.freezes }; answer = tt }) refl e
  where
    by : (b : Bool) (w : After Object (Unit {0})) → lasting_of w.state ≡ lasting_of o → only_if b arms.Freeze (Ok w) ≡ Ok a → lasting_of a.state ≡ lasting_of o
    by false w same h = absurd (cc h)
    by true w same h = let is : w ≡ a = cc h in sym (ap (λ (x : After Object (Unit {0})). lasting_of x.state) is) ∙ same

less_keeps : (n : ℕ) (o : Object) → lasting_of (less_frozen n o).state ≡ lasting_of o
less_keeps zero o = refl
less_keeps (suc n) o = refl

pub thawing_keeps : KeepsLasting frozen_less
thawing_keeps o a e = by (nat_lt 0 o.freezes) (less_frozen (o.freezes - 1) o) (less_keeps (o.freezes - 1) o) e
  where
    by : (b : Bool) (w : After Object (List ℕ)) → lasting_of w.state ≡ lasting_of o → only_if b arms.Freeze (Ok w) ≡ Ok a → lasting_of a.state ≡ lasting_of o
    by false w same h = absurd (cc h)
    by true w same h = let is : w ≡ a = cc h in sym (ap (λ (x : After Object (List ℕ)). lasting_of x.state) is) ∙ same

pub raising_keeps : (slot : ℕ) → KeepsLasting (raised slot)
raising_keeps slot o a e = by (nat_eq o.freezes 0) (record { state = o; answer = true }) (record { state = record o { queue = queued o.queue slot }; answer = false }) refl refl e
  where
    by : (b : Bool) (w v : After Object Bool) → lasting_of w.state ≡ lasting_of o → lasting_of v.state ≡ lasting_of o → ◌≡◌ {A = Answer (After Object Bool)} (Ok (cond b w v)) (Ok a) → lasting_of a.state ≡ lasting_of o
    by true w v same_w same_v h = let is : w ≡ a = cc h in sym (ap (λ (x : After Object Bool). lasting_of x.state) is) ∙ same_w
    by false w v same_w same_v h = let is : v ≡ a = cc h in sym (ap (λ (x : After Object Bool). lasting_of x.state) is) ∙ same_v

-- where memory may be refused
pub fewer_follows : {Y E : Type 0} (r : Result Y E) (s n : Store) (id : ℕ) (change : Object → Answer (After Object Y)) → KeepsLasting change
    → IfOk r (λ a. changed s.objects id change ≡ Ok (record { state = n.objects; answer = a })) → OnErr r (n ≡ s) → NoMore s.objects n.objects
fewer_follows (Ok a) s n id change keeps is same = fewer_changed s.objects n.objects id change a keeps is
fewer_follows (Err why) s n id change keeps is same = same_objects s.objects n.objects (ap (λ (y : Store). y.objects) same)

-- ** disposed and finalised in a table

pub fewer_disposing : (weak : Marks) (id : ℕ) (s n : Store) → ((d : Definition) → Knows d weak → Disposes d id s n) → NoMore s.objects n.objects
fewer_disposing weak id s n disposes =
    let some = known_by weak in
    λ j k at. sym (same_disposed some.0 id s.objects j) ∙ sym (ap (λ os. lasting_at os j) (disposes some.0 some.1).objects) ∙ at

pub fewer_finalising : (weak : Marks) (id : ℕ) (s n : Store) → ((d : Definition) → Knows d weak → Finalises d id s n) → NoMore s.objects n.objects
fewer_finalising weak id s n finalises =
    let some = known_by weak in
    λ j k at. fewer_finalised some.0 id s.objects j k (sym (ap (λ os. lasting_at os j) (finalises some.0 some.1).objects) ∙ at)

-- as many peers stay in the pool
pub lent_among : (last count new_count : ℕ) (os : Objects) → new_count ≡ count → AreLent last count os → AreLent last new_count os
lent_among last count new_count os is are id number at = let lent = are id number at in (lent.0, omega (arith, is, lent.1))

-- ** one object more

born_at : (os : Objects) (o : Object) (j number : ℕ) → peer_at (os ++ Some o ∷ []) j ≡ Some number
    → (peer_at os j ≡ Some number) ⊎ ((j ≡ suc (length os)) × (o.peer ≡ Some number))
born_at os o zero number at = inl at
born_at [] o (suc zero) number at = inr (refl, at)
born_at [] o (suc (suc j)) number at = inl at
born_at (x ∷ os) o (suc zero) number at = inl at
born_at (x ∷ os) o (suc (suc j)) number at = elim (born_at os o (suc j) number at) [ inl h ↦ inl h | inr h ↦ inr (ap suc h.0, h.1) ]

pub lent_born : (last id count : ℕ) (s n : Store) (o : Object) → AreLent last count s.objects → ForSome o.peer (λ number. number < count)
    → (has_room 0 s ≡ true) × (id ≡ suc (length s.objects)) × (n ≡ with_object o s) → AreLent (max last id) count n.objects
lent_born last id count s n o are small created j number at =
    let there : peer_at (s.objects ++ Some o ∷ []) j ≡ Some number = sym (ap (λ (x : Store). peer_at x.objects j) created.2) ∙ at in
    elim (born_at s.objects o j number there) [
      | inl h ↦ let lent = are j number h in (omega (arith, lent.0), lent.1)
      | inr h ↦ (omega (arith, h.0, created.1), small number h.1)
    ]

pub apart_born : (id : ℕ) (s n : Store) (o : Object) → AreApart s.objects → ForSome o.peer (IsFree s.objects)
    → (has_room 0 s ≡ true) × (id ≡ suc (length s.objects)) × (n ≡ with_object o s) → AreApart n.objects
apart_born id s n o are free created i j number at_i at_j =
    let there_i : peer_at (s.objects ++ Some o ∷ []) i ≡ Some number = sym (ap (λ (x : Store). peer_at x.objects i) created.2) ∙ at_i in
    let there_j : peer_at (s.objects ++ Some o ∷ []) j ≡ Some number = sym (ap (λ (x : Store). peer_at x.objects j) created.2) ∙ at_j in
    elim (born_at s.objects o i number there_i) [
      | inl h ↦ elim (born_at s.objects o j number there_j) [
        | inl k ↦ are i j number h k
        | inr k ↦ absurd (free number k.1 i h)
      ]
      | inr h ↦ elim (born_at s.objects o j number there_j) [
        | inl k ↦ absurd (free number h.1 j k)
        | inr k ↦ h.0 ∙ sym k.0
      ]
    ]

-- what lives with one object more lived before, or is it
lived_or_born : (os : Objects) (o : Object) (j : ℕ) (x : Object) → living (os ++ Some o ∷ []) j ≡ Some x → (living os j ≡ Some x) ⊎ (o ≡ x)
lived_or_born os o zero x at = inl at
lived_or_born [] o (suc zero) x at = let is : o ≡ x = cc at in inr is
lived_or_born [] o (suc (suc j)) x at = inl at
lived_or_born (y ∷ os) o (suc zero) x at = inl at
lived_or_born (y ∷ os) o (suc (suc j)) x at = lived_or_born os o (suc j) x at

pub slotted_born : (types : List GType) (specs : List (List Spec)) (id : ℕ) (s n : Store) (o : Object) → AreSlotted types specs s.objects
    → length o.values ≡ length (specs_of types specs o.class)
    → (has_room 0 s ≡ true) × (id ≡ suc (length s.objects)) × (n ≡ with_object o s) → AreSlotted types specs n.objects
slotted_born types specs id s n o are full created j x here =
    let there : living (s.objects ++ Some o ∷ []) j ≡ Some x = sym (ap (λ (y : Store). living y.objects j) created.2) ∙ here in
    let P : Object → Type 0 = λ y. length y.values ≡ length (specs_of types specs y.class) in
    elim (lived_or_born s.objects o j x there) [
      | inl h ↦ are j x h
      | inr h ↦ subst P h full
    ]

-- an object has as many values as its class has defaults
pub born_full : (types : List GType) (specs : List (List Spec)) (place class : ℕ) (peer : Option ℕ) (o : Object) → o ≡ born types specs place class peer
    → length o.values ≡ length (specs_of types specs o.class)
born_full types specs place class peer o is =
    let P : Object → Type 0 = λ y. length y.values ≡ length (specs_of types specs y.class) in
    subst P (sym is) (length-map (specs_of types specs class) (λ (s : Spec). s.default))

-- so it is of one that floats
pub lent_floating : (last id count : ℕ) (s n : Store) (o : Object) → AreLent last count s.objects → ForSome o.peer (λ number. number < count)
    → (has_room 0 s ≡ true) × (id ≡ suc (length s.objects)) × (n ≡ with_floating id (with_object o s)) → AreLent (max last id) count n.objects
lent_floating last id count s n o are small created =
    subst (AreLent (max last id) count) (sym (ap (λ (x : Store). x.objects) created.2)) (lent_born last id count s (with_object o s) o are small (created.0, created.1, refl))

pub apart_floating : (id : ℕ) (s n : Store) (o : Object) → AreApart s.objects → ForSome o.peer (IsFree s.objects)
    → (has_room 0 s ≡ true) × (id ≡ suc (length s.objects)) × (n ≡ with_floating id (with_object o s)) → AreApart n.objects
apart_floating id s n o are free created =
    subst AreApart (sym (ap (λ (x : Store). x.objects) created.2)) (apart_born id s (with_object o s) o are free (created.0, created.1, refl))

pub slotted_floating : (types : List GType) (specs : List (List Spec)) (id : ℕ) (s n : Store) (o : Object) → AreSlotted types specs s.objects
    → length o.values ≡ length (specs_of types specs o.class)
    → (has_room 0 s ≡ true) × (id ≡ suc (length s.objects)) × (n ≡ with_floating id (with_object o s)) → AreSlotted types specs n.objects
slotted_floating types specs id s n o are full created =
    subst (AreSlotted types specs) (sym (ap (λ (x : Store). x.objects) created.2)) (slotted_born types specs id s (with_object o s) o are full (created.0, created.1, refl))
