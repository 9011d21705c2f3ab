-- What one change of a look-up is to the store that it is seen as.
use Rattle.std.proofs.Common.{◌≡◌, ℕ, zero, suc, ◌+◌, ◌<◌, ◌≤◌, List, [], ◌∷◌, ◌++◌, length, Option, Some, None, Bool, ◌&&◌, nat_lt, is_some, IsSome, true, false, inl, inr, Result, Ok, Err, IsOk, IfOk, refl, sym, ap, subst, ◌∙◌, arith}
use Rattle.std.proofs.lemmas.Bool.{cases_eq}
use Rattle.std.proofs.lemmas.Bool.Decides.{nat_tests}
use Rattle.ui_machine.specs.declared.arm.Arm.TheVariants as arms
use Rattle.ui_machine.specs.Outcome.{After, Answer, ◌>>=◌, known}
use Rattle.ui_machine.specs.Seq.{listed}
use Rattle.ui_machine.specs.State.Objects.{Object, Objects, living, put, live, most_identities, asked, changed}
use Rattle.ui_machine.proofs.Listed.{read-listed, listed-same, listed-write, listed-more, length-listed}
use Rattle.ui_machine.specs.declared.ids.ObjectId.{ObjectId}
use Rattle.instance_tables.specs.Store.{ids_of, Store, count_of, counts_with, with_count, with_objects, with_object, has_room}
use Rattle.std.specs.Option.{option_map}
use Rattle.ui_machine.specs.Rules.Children.{updated}
use Rattle.instance_tables.specs.View.{Lookup, object_in, count_in, objects_of, counts_of, store_of, InRange, Replaces}
use Rattle.instance_tables.specs.declared.instance.Instance.{Instance}

-- ** one instance, found

-- a look-up past the identities that were given finds nothing
nothing : (at : Lookup) (made id : ℕ) → InRange at made → ((0 < id) × (id ≤ made) → ⊥) → at id ≡ None
nothing at made id range out = by (at id) refl
  where
    by : (o : Option Instance) → at id ≡ o → at id ≡ None
    by None e = e
    by (Some x) e = absurd (out (range id (ap is_some e)))

found : (at : Lookup) (made id : ℕ) → InRange at made → living (objects_of at made) id ≡ object_in (at id)
found at made zero range = sym (ap object_in (nothing at made 0 range (λ h. omega (arith, h.0))))
found at made (suc i) range =
    read-listed None (λ j. object_in (at (suc j))) made i
    (λ le. ap object_in (nothing at made (suc i) range (λ h. omega (arith, h.1, le))))

counted : (at : Lookup) (made id : ℕ) → InRange at made → count_of (counts_of at made) id ≡ count_in (at id)
counted at made zero range = sym (ap count_in (nothing at made 0 range (λ h. omega (arith, h.0))))
counted at made (suc i) range =
    read-listed 0 (λ j. count_in (at (suc j))) made i
    (λ le. ap count_in (nothing at made (suc i) range (λ h. omega (arith, h.1, le))))

pub some_object : (o : Option Instance) → is_some (object_in o) ≡ is_some o
some_object None = refl
some_object (Some x) = refl

put_none : (os : Objects) (id : ℕ) → id ≤ length os → living os id ≡ None → os ≡ put os id None
put_none os zero small none = refl
put_none [] (suc i) small none = absurd (omega (arith, small))
put_none (o ∷ os) (suc zero) small none = ap (λ (p : Option Object). p ∷ os) none
put_none (o ∷ os) (suc (suc i)) small none = ap (λ (ps : Objects). o ∷ ps) (put_none os (suc i) (omega (arith, small)) none)

module _ (at : Lookup) (made limit : ℕ) (floats : List ObjectId) (old : Store) (range : InRange at made) (is : store_of at made limit floats ≡ old) (id : ℕ) where
  pub found_in : living old.objects id ≡ object_in (at id)
  found_in = ap (λ (s : Store). living s.objects id) (sym is) ∙ found at made id range

  pub counted_in : count_of old.counts id ≡ count_in (at id)
  counted_in = ap (λ (s : Store). count_of s.counts id) (sym is) ∙ counted at made id range

  pub lives : is_some (at id) ≡ is_some (living old.objects id)
  lives = sym (ap is_some found_in ∙ some_object (at id))

  -- what lives is there, and so is what is held
  pub not_absent : at id ≡ None → IsSome (living old.objects id) → ⊥
  not_absent none some = let gone : is_some (living old.objects id) ≡ false = ap is_some (found_in ∙ ap object_in none) in absurd (cc)

  pub not_held : at id ≡ None → 0 < count_of old.counts id → ⊥
  not_held none some = let no : count_of old.counts id ≡ 0 = counted_in ∙ ap count_in none in omega arith

  -- and what does not live is not held
  pub dead_unheld : living old.objects id ≡ None → ◌≡◌ {A = ℕ} (count_of old.counts id) 0
  dead_unheld gone = by (at id) refl
    where
      by : (o : Option Instance) → at id ≡ o → ◌≡◌ {A = ℕ} (count_of old.counts id) 0
      by None e = counted_in ∙ ap count_in e
      by (Some x) e = let here : Some x.object ≡ None = sym (found_in ∙ ap object_in e) ∙ gone in absurd (cc)

  pub count_is : (x : Instance) → at id ≡ Some x → count_of old.counts id ≡ x.mentions
  count_is x here = counted_in ∙ ap count_in here

  -- a change of what does not live changes nothing
  pub absent_updated : (change : Object → Object) → at id ≡ None → id ≤ length old.objects
      → old.objects ≡ updated change id old.objects
  absent_updated change none small = put_none old.objects id small (found_in ∙ ap object_in none)
      ∙ ap (λ (o : Option Object). put old.objects id (option_map change o)) (sym (found_in ∙ ap object_in none))

  -- what can be asked lives
  pub never_asked : {X : Type 0} (question : Object → Answer X) → at id ≡ None → IsOk (asked old.objects id question) → ⊥
  unfolding asked
  never_asked question none ok =
      let no : false ≡ true = subst (λ (o : Option Object). IsOk (known arms.Operand o >>= question)) (found_in ∙ ap object_in none) ok in
      absurd (cc)

  pub present_asked : {X : Type 0} (x : Instance) (question : Object → Answer X) → at id ≡ Some x
      → asked old.objects id question ≡ question x.object
  unfolding asked
  present_asked x question here = ap (λ (o : Option Object). known arms.Operand o >>= question) (found_in ∙ ap object_in here)

  -- and so does what can be changed, and its own object can be changed
  pub never_changed : {X : Type 0} (change : Object → Answer (After Object X)) → at id ≡ None → IsOk (changed old.objects id change) → ⊥
  unfolding changed
  never_changed {X} change none ok =
      let no : false ≡ true = subst (λ (o : Option Object). IsOk (known arms.Operand o >>= λ o. change o >>= put_in)) (found_in ∙ ap object_in none) ok in
      absurd (cc)
    where
      put_in : After Object X → Answer (After Objects X)
      put_in w = Ok (record { state = put old.objects id (Some w.state); answer = w.answer })

  pub able : {X : Type 0} (x : Instance) (change : Object → Answer (After Object X)) → at id ≡ Some x
      → IsOk (changed old.objects id change) → IsOk (change x.object)
  unfolding changed
  able {X} x change here ok = by (change x.object) (subst (λ (o : Option Object). IsOk (known arms.Operand o >>= λ o. change o >>= put_in)) (found_in ∙ ap object_in here) ok)
    where
      put_in : After Object X → Answer (After Objects X)
      put_in w = Ok (record { state = put old.objects id (Some w.state); answer = w.answer })

      by : (a : Answer (After Object X)) → IsOk (a >>= put_in) → IsOk a
      by (Ok w) h = refl
      by (Err arm) h = h

-- ** one instance, replaced

abbrev Given : Lookup → ℕ → ℕ → Type 0
Given at made id = (0 < id) × (id ≤ made)

module _ (at new : Lookup) (made : ℕ) (y : Option Instance) where
  put_back : (id : ℕ) → Given at made id → Replaces at new id y → objects_of new made ≡ put (objects_of at made) id (object_in y)
  put_back zero given r = absurd (omega (arith, given.0))
  put_back (suc i) given r =
      listed-write None (λ j. object_in (at (suc j))) (λ j. object_in (new (suc j))) made i (object_in y) (omega (arith, given.1))
      (ap object_in r.changed) (λ j ne. ap object_in (r.others (suc j) (λ e. ne (omega arith))))

  count_back : (id : ℕ) → Given at made id → Replaces at new id y → counts_of new made ≡ counts_with (counts_of at made) id (count_in y)
  count_back zero given r = absurd (omega (arith, given.0))
  count_back (suc i) given r =
      listed-write 0 (λ j. count_in (at (suc j))) (λ j. count_in (new (suc j))) made i (count_in y) (omega (arith, given.1))
      (ap count_in r.changed) (λ j ne. ap count_in (r.others (suc j) (λ e. ne (omega arith))))

  -- what is read of the instances and stays of the one stays of all
  same_listed : {A : Type 0} (f : Option Instance → A) (id : ℕ) → Replaces at new id y → f y ≡ f (at id)
      → listed (λ i. f (new (suc i))) made ≡ listed (λ i. f (at (suc i))) made
  same_listed f id r e =
      listed-same (λ j. f (at (suc j))) (λ j. f (new (suc j))) made
      (λ j _. elim (cases_eq (suc j) id) [
        | inl is ↦ rw (is, r.changed) e
        | inr ne ↦ ap f (r.others (suc j) ne)
      ])

module _ (at new : Lookup) (made limit : ℕ) (floats : List ObjectId) (old : Store) (range : InRange at made) (is : store_of at made limit floats ≡ old) (id : ℕ) where
  -- one that lives and is not held, taken out
  pub removed : IsSome (living old.objects id) → Replaces at new id None → count_of old.counts id ≡ 0
      → store_of new made limit floats ≡ with_objects old (put old.objects id None)
  removed some r unheld =
      ap (λ (cs : List ℕ). record { objects = objects_of new made; counts = cs; limit = limit; floating = ids_of floats })
      (same_listed at new made None count_in id r (sym unheld ∙ counted_in at made limit floats old range is id))
      ∙ ap (λ (os : Objects). record { objects = os; counts = counts_of at made; limit = limit; floating = ids_of floats })
      (put_back at new made None id (range id (lives at made limit floats old range is id ∙ some)) r)
      ∙ ap (λ (s : Store). with_objects s (put s.objects id None)) is

module _ (at new : Lookup) (made limit : ℕ) (floats : List ObjectId) (old : Store) (range : InRange at made) (is : store_of at made limit floats ≡ old) (id : ℕ)
    (was y : Instance) (here : at id ≡ Some was) (replaces : Replaces at new id (Some y)) where
  given : Given at made id
  given = range id (ap is_some here)

  -- what a change of the one object's does to all
  pub changes : {Y : Type 0} (change : Object → Answer (After Object Y)) (a : Y)
      → change was.object ≡ Ok (record { state = y.object; answer = a })
      → changed old.objects id change ≡ Ok (record { state = objects_of new made; answer = a })
  unfolding changed
  changes {Y} change a e =
      to_one ∙ ap put_in e
      ∙ ap (λ (os : Objects). Ok (record { state = os; answer = a }))
      (ap (λ (s : Store). put s.objects id (Some y.object)) (sym is) ∙ sym (put_back at new made (Some y) id given replaces))
    where
      put_in : Answer (After Object Y) → Answer (After Objects Y)
      put_in a = a >>= λ w. Ok (record { state = put old.objects id (Some w.state); answer = w.answer })

      to_one : changed old.objects id change ≡ put_in (change was.object)
      to_one =
          ap (λ (o : Option Object). known arms.Operand o >>= λ o. put_in (change o))
          (found_in at made limit floats old range is id ∙ ap object_in here)

  -- and where the change cannot be refused
  pub updates : (change : Object → Object) → y.object ≡ change was.object → objects_of new made ≡ updated change id old.objects
  updates change e =
      put_back at new made (Some y) id given replaces
      ∙ ap (λ (s : Store). put s.objects id (Some y.object)) is
      ∙ ap (put old.objects id)
      (ap Some e ∙ sym (ap (option_map change) (found_in at made limit floats old range is id ∙ ap object_in here)))

  -- and where memory may be refused
  pub follows : {Y E : Type 0} (change : Object → Answer (After Object Y)) (r : Result Y E)
      → IfOk r (λ a. change was.object ≡ Ok (record { state = y.object; answer = a }))
      → IfOk r (λ a. changed old.objects id change ≡ Ok (record { state = objects_of new made; answer = a }))
  follows change (Ok a) h = changes change a h
  follows change (Err why) h = tt

  -- and where it keeps the count, the rest is as it was
  pub beside : y.mentions ≡ was.mentions → store_of new made limit floats ≡ with_objects old (objects_of new made)
  beside e =
      ap (λ (cs : List ℕ). record { objects = objects_of new made; counts = cs; limit = limit; floating = ids_of floats })
      (same_listed at new made (Some y) count_in id replaces (e ∙ sym (ap count_in here)))
      ∙ ap (λ (s : Store). with_objects s (objects_of new made)) is

  -- and where it keeps the object too, all is as it was
  pub kept : y.object ≡ was.object → y.mentions ≡ was.mentions → store_of new made limit floats ≡ old
  kept same e =
      ap (λ (cs : List ℕ). record { objects = objects_of new made; counts = cs; limit = limit; floating = ids_of floats })
      (same_listed at new made (Some y) count_in id replaces (e ∙ sym (ap count_in here)))
      ∙ ap (λ (os : Objects). record { objects = os; counts = counts_of at made; limit = limit; floating = ids_of floats })
      (same_listed at new made (Some y) object_in id replaces (ap Some same ∙ sym (ap object_in here)))
      ∙ is

  -- one that keeps its object and has another count
  pub recounted : (n : ℕ) → y.object ≡ was.object → y.mentions ≡ n → store_of new made limit floats ≡ with_count old id n
  recounted n same e =
      ap (λ (os : Objects). record { objects = os; counts = counts_of new made; limit = limit; floating = ids_of floats })
      (same_listed at new made (Some y) object_in id replaces (ap Some same ∙ sym (ap object_in here)))
      ∙ ap (λ (cs : List ℕ). record { objects = objects_of at made; counts = cs; limit = limit; floating = ids_of floats })
      (count_back at new made (Some y) id given replaces ∙ ap (counts_with (counts_of at made) id) e)
      ∙ ap (λ (s : Store). with_count s id n) is

-- ** one more

pub given_out : (at : Lookup) (made limit : ℕ) (floats : List ObjectId) (old : Store) → store_of at made limit floats ≡ old
    → length old.objects ≡ made
given_out at made limit floats old is = ap (λ (s : Store). length s.objects) (sym is) ∙ length-listed (λ i. object_in (at (suc i))) made

module _ (at new : Lookup) (made limit : ℕ) (floats : List ObjectId) (old : Store) (is : store_of at made limit floats ≡ old) (id : ℕ) (y : Instance)
    (next : id ≡ suc made) (replaces : Replaces at new id (Some y)) where
  more : {A : Type 0} (f : Option Instance → A)
      → listed (λ i. f (new (suc i))) id ≡ listed (λ i. f (at (suc i))) made ++ f (Some y) ∷ []
  more f =
      ap (listed (λ i. f (new (suc i)))) next ∙ listed-more (λ i. f (new (suc i))) made
      ∙ ap (λ xs. xs ++ f (new (suc made)) ∷ [])
      (listed-same (λ i. f (at (suc i))) (λ i. f (new (suc i))) made
      (λ i small. ap f (replaces.others (suc i) (λ e. omega arith))))
      ∙ ap (λ o. listed (λ i. f (at (suc i))) made ++ f o ∷ []) (ap new (sym next) ∙ replaces.changed)

  added : y.mentions ≡ 0 → store_of new id limit floats ≡ with_object y.object old
  added none =
      ap (λ (os : Objects). record { objects = os; counts = counts_of new id; limit = limit; floating = ids_of floats }) (more object_in)
      ∙ ap (λ (cs : List ℕ). record { objects = objects_of at made ++ Some y.object ∷ []; counts = cs; limit = limit; floating = ids_of floats })
      (more count_in ∙ ap (λ k. counts_of at made ++ k ∷ []) none)
      ∙ ap (with_object y.object) is

  pub created_next : y.mentions ≡ 0 → (id ≡ suc (length old.objects)) × (store_of new id limit floats ≡ with_object y.object old)
  created_next none =
      let many : length old.objects ≡ made = given_out at made limit floats old is in
      (omega (arith, many, next), added none)

-- ** whether there is room

module _ (at : Lookup) (made limit : ℕ) (floats : List ObjectId) (old : Store) (is : store_of at made limit floats ≡ old) (n : ℕ) where
  either : (b : Bool) → (b && false) ≡ false
  either true = refl
  either false = refl

  pub at_limit : limit ≤ live old.objects + n → has_room n old ≡ false
  at_limit full =
      let same : limit ≡ old.limit = ap (λ (s : Store). s.limit) is in
      let no : nat_lt (live old.objects + n) old.limit ≡ false = grind (arith, nat_tests) in
      rw no refl

  pub at_end : most_identities ≤ made + n → has_room n old ≡ false
  at_end full =
      let many : length old.objects ≡ made = given_out at made limit floats old is in
      let no : nat_lt (length old.objects + n) most_identities ≡ false = grind (arith, nat_tests) in
      rw no (either (nat_lt (live old.objects + n) old.limit))

  -- below the limit the identities decide
  pub by_identities : (room : ℕ) → live old.objects + n < limit → made + room ≡ most_identities → nat_lt n room ≡ has_room n old
  by_identities room few left =
      let many : length old.objects ≡ made = given_out at made limit floats old is in
      let same : limit ≡ old.limit = ap (λ (s : Store). s.limit) is in
      let fits : nat_lt (live old.objects + n) old.limit ≡ true = grind (arith, nat_tests) in
      let ids : nat_lt n room ≡ nat_lt (length old.objects + n) most_identities = grind (arith, nat_tests) in
      rw fits ids
