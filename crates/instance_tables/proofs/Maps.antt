-- Changes of instances as changes of a look-up.
use Rattle.std.proofs.Common.{◌≡◌, ◌≢◌, ℕ, suc, [], ◌∷◌, IsSome, None, inl, inr, refl, subst, ◌+◌, ◌<◌, ◌≤◌, List, length, false, true, nat_lt, Option, Some, is_some, Result, Ok, Err, IfOk, OnErr, sym, ap, ◌∙◌, arith}
use Rattle.std.proofs.lemmas.Bool.{cases_eq}
use Rattle.std.specs.Ordering.{nat_cmp}
use Rattle.std.specs.BTreeMap.{is_at}
use Rattle.std.specs.List.Sorted.{IsStrictlySortedBy}
use Rattle.std.specs.Map.{keys_of}
use Rattle.ui_machine.specs.Outcome.{After, Answer}
use Rattle.ui_machine.specs.State.Objects.{Object, changed, live, most_identities}
use Rattle.ui_machine.specs.declared.ids.ObjectId.{ObjectId}
use Rattle.instance_tables.specs.Store.{Store, with_objects, with_count, with_object, has_room}
use Rattle.ui_machine.specs.Rules.Children.{updated}
use Rattle.instance_tables.specs.Lent.{with_instance}
use Rattle.instance_tables.specs.View.{object_in, objects_of, store_of, InRange, Replaces, instances_at}
use Rattle.instance_tables.specs.declared.instance.Instance.{Instance}
use Rattle.instance_tables.proofs.Scan.{is_at_other, is_at_self, look, look_other, look_self, sorted_scanned}
use Rattle.instance_tables.proofs.Counts.{live_entries}
use Rattle.instance_tables.proofs.Shown.{given_out, some_object, at_limit, by_identities, created_next, changes, updates, follows, beside, kept, recounted}

-- ** another instance under an identity

module _ (id : ℕ) (y : Instance) where
  is_first : (e : ℕ × Instance) (es : List (ℕ × Instance)) → id ≡ e.0 → with_instance (e ∷ es) id y ≡ (e.0, y) ∷ es
  is_first e es is = let test : is_at (nat_cmp id) e.0 ≡ true = ap (λ k. is_at (nat_cmp k) e.0) is ∙ is_at_self e.0 in rw test refl

  is_later : (e : ℕ × Instance) (es : List (ℕ × Instance)) → id ≢ e.0 → with_instance (e ∷ es) id y ≡ e ∷ with_instance es id y
  is_later e es ne = let test : is_at (nat_cmp id) e.0 ≡ false = is_at_other id e.0 ne in rw test refl

  written_here : (es : List (ℕ × Instance)) → IsSome (instances_at es id) → instances_at (with_instance es id y) id ≡ Some y
  written_here [] some = let no : false ≡ true = some in absurd (cc)
  written_here (e ∷ es) some =
      elim (cases_eq id e.0) [
        | inl is ↦ ap (λ fs. instances_at fs id) (is_first e es is) ∙ ap (look ((e.0, y) ∷ es)) is ∙ look_self (e.0, y) es
        | inr ne ↦
            ap (λ fs. instances_at fs id) (is_later e es ne) ∙ look_other e (with_instance es id y) id ne
            ∙ written_here es (subst IsSome (look_other e es id ne) some)
      ]

  written_others : (es : List (ℕ × Instance)) (q : ℕ) → q ≢ id → instances_at (with_instance es id y) q ≡ instances_at es q
  written_others [] q other = refl
  written_others (e ∷ es) q other =
      elim (cases_eq id e.0) [
        | inl is ↦
            let differs : q ≢ e.0 = λ same. other (same ∙ sym is) in
            ap (λ fs. instances_at fs q) (is_first e es is) ∙ look_other (e.0, y) es q differs ∙ sym (look_other e es q differs)
        | inr ne ↦
            ap (λ fs. instances_at fs q) (is_later e es ne)
            ∙ elim (cases_eq q e.0) [
              | inl same ↦
                  ap (look (e ∷ with_instance es id y)) same ∙ look_self e (with_instance es id y) ∙ sym (ap (look (e ∷ es)) same ∙ look_self e es)
              | inr differs ↦ look_other e (with_instance es id y) q differs ∙ written_others es q other ∙ sym (look_other e es q differs)
            ]
      ]

-- the new instance of an identity that had one
pub written : (m : List (ℕ × Instance)) (id : ℕ) (was y : Instance) → instances_at m id ≡ Some was
    → Replaces (instances_at m) (instances_at (with_instance m id y)) id (Some y)
written m id was y here = record { changed = written_here id y m (ap is_some here); others = λ q ne. written_others id y m q ne }

-- ** what is written

module _ (m : List (ℕ × Instance)) (made limit : ℕ) (floats : List ObjectId) (old : Store) (range : InRange (instances_at m) made)
    (is : store_of (instances_at m) made limit floats ≡ old) (id : ℕ) (was y : Instance) (here : instances_at m id ≡ Some was) where
  pub written_changes : {Y : Type 0} (change : Object → Answer (After Object Y)) (a : Y)
      → change was.object ≡ Ok (record { state = y.object; answer = a })
      → changed old.objects id change ≡ Ok (record { state = objects_of (instances_at (with_instance m id y)) made; answer = a })
  written_changes =
      changes (instances_at m) (instances_at (with_instance m id y)) made limit floats old range is id was y here (written m id was y here)

  pub written_follows : {Y E : Type 0} (change : Object → Answer (After Object Y)) (r : Result Y E)
      → IfOk r (λ a. change was.object ≡ Ok (record { state = y.object; answer = a }))
      → IfOk r (λ a. changed old.objects id change ≡ Ok (record { state = objects_of (instances_at (with_instance m id y)) made; answer = a }))
  written_follows =
      follows (instances_at m) (instances_at (with_instance m id y)) made limit floats old range is id was y here (written m id was y here)

  pub written_beside : y.mentions ≡ was.mentions
      → store_of (instances_at (with_instance m id y)) made limit floats ≡ with_objects old (objects_of (instances_at (with_instance m id y)) made)
  written_beside = beside (instances_at m) (instances_at (with_instance m id y)) made limit floats old range is id was y here (written m id was y here)

  -- the same object, as often held, leaves all as it was
  pub written_kept : y.object ≡ was.object → y.mentions ≡ was.mentions → store_of (instances_at (with_instance m id y)) made limit floats ≡ old
  written_kept =
      kept (instances_at m) (instances_at (with_instance m id y)) made limit floats old range is id was y here (written m id was y here)

  -- so does what is refused, if it left the object
  pub written_refused : {X E : Type 0} (r : Result X E) → OnErr r (y.object ≡ was.object) → y.mentions ≡ was.mentions
      → OnErr r (store_of (instances_at (with_instance m id y)) made limit floats ≡ old)
  written_refused (Ok x) same e = tt
  written_refused (Err why) same e = written_kept same e

  pub written_updates : (change : Object → Object) → y.object ≡ change was.object
      → objects_of (instances_at (with_instance m id y)) made ≡ updated change id old.objects
  written_updates =
      updates (instances_at m) (instances_at (with_instance m id y)) made limit floats old range is id was y here (written m id was y here)

  pub written_recounted : (k : ℕ) → y.object ≡ was.object → y.mentions ≡ k
      → store_of (instances_at (with_instance m id y)) made limit floats ≡ with_count old id k
  written_recounted =
      recounted (instances_at m) (instances_at (with_instance m id y)) made limit floats old range is id was y here (written m id was y here)

-- ** the order of the instances

module _ (m : List (ℕ × Instance)) (made limit : ℕ) (floats : List ObjectId) (old : Store) (range : InRange (instances_at m) made)
    (is : store_of (instances_at m) made limit floats ≡ old) (ordered : IsStrictlySortedBy nat_cmp (keys_of m)) where
  pub live_len : live old.objects ≡ length m
  live_len =
      ap (λ (s : Store). live s.objects) (sym is)
      ∙ live_entries (λ j. object_in (instances_at m (suc j))) (λ j. instances_at m (suc j)) made 1
      (λ j. some_object (instances_at m (suc j)))
      ∙ ap length (sorted_scanned m made ordered range)

  pub full : (n : ℕ) → limit ≤ length m + n → has_room n old ≡ false
  full n h = at_limit (instances_at m) made limit floats old is n (omega (arith, live_len))

  pub below_limit : (n room : ℕ) → length m + n < limit → made + room ≡ most_identities → nat_lt n room ≡ has_room n old
  below_limit n room few left = by_identities (instances_at m) made limit floats old is n room (omega (arith, live_len)) left

  -- the next identity has nothing yet
  pub next_absent : (id : ℕ) → id ≡ made + 1 → instances_at m id ≡ None
  next_absent id next = by (instances_at m id) refl
    where
      by : (o : Option Instance) → instances_at m id ≡ o → instances_at m id ≡ None
      by None e = e
      by (Some x) e = let small : id ≤ made = (range id (ap is_some e)).1 in absurd (omega (arith, small, next))

  pub stored : (n : List (ℕ × Instance)) (id : ℕ) (y : Instance) → Replaces (instances_at m) (instances_at n) id (Some y) → id ≡ made + 1 → y.mentions ≡ 0
      → (id ≡ suc (length old.objects)) × (store_of (instances_at n) id limit floats ≡ with_object y.object old)
  stored n id y h next none = created_next (instances_at m) (instances_at n) made limit floats old is id y (omega (arith, next)) h none

  -- an identity is left for it
  pub identity_left : length old.objects < most_identities → made < most_identities
  identity_left few = let many : length old.objects ≡ made = given_out (instances_at m) made limit floats old is in omega (arith, many, few)
