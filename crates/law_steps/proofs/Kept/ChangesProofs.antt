-- What a step writes into one object is like what was there.
use Rattle.std.proofs.Common.{◌≡◌, refl, sym, ap, subst, ◌∙◌, ℕ, zero, suc, Bool, true, false, cond, List, [], ◌∷◌, ◌++◌, Some, slice_get}
use Rattle.std.specs.Prelude.{nat_eq, not, ◌||◌, slice_set}
use Rattle.std.specs.List.{list_any}
use Rattle.std.proofs.lemmas.Bool.{and_from, eqb-true, eqb-false}
use Rattle.std.proofs.lemmas.List.Folds.{list_any-append}
use Rattle.ui_machine.specs.Definition.Properties.{Spec, is_readable}
use Rattle.ui_machine.specs.Definition.Lookups.{spec_of}
use Rattle.ui_machine.specs.Rules.Validation.{is_valid}
use Rattle.ui_machine.specs.Rules.NotifyQueue.{queued}
use Rattle.law_typing.specs.Verdict.Accepted.{Each}
use Rattle.law_typing.specs.Laws.WellRead.{no_two}
use Rattle.law_typing.proofs.Lists.{both_parts}
use Rattle.law_typing.specs.Good.Standing.{standing, class_by}
use Rattle.law_typing.specs.Good.Objects.{ValueGood}
use Rattle.law_steps.specs.Kept.Changes.{ValueIsLike, QueueIsLike, FreezeIsLike, ThawIsLike}

-- what is there is written over, and the others stay
get_set_here : {A : Type 0} (xs : List A) (i : ℕ) (old x : A) → slice_get xs i ≡ Some old → slice_get (slice_set xs i x) i ≡ Some x
get_set_here [] i old x e = absurd (cc)
get_set_here (y ∷ ys) zero old x e = refl
get_set_here (y ∷ ys) (suc i) old x e = get_set_here ys i old x e

get_set_apart : {A : Type 0} (xs : List A) (i j : ℕ) (x : A) → (i ≡ j → ⊥) → slice_get (slice_set xs i x) j ≡ slice_get xs j
get_set_apart [] i j x h = refl
get_set_apart (y ∷ ys) zero zero x h = absurd (h refl)
get_set_apart (y ∷ ys) zero (suc j) x h = refl
get_set_apart (y ∷ ys) (suc i) zero x h = refl
get_set_apart (y ∷ ys) (suc i) (suc j) x h = get_set_apart ys i j x (λ e. h (ap suc e))

pub value_is_like : ValueIsLike
value_is_like d w id slot o spec v g is valid = record {
  place = refl;
  class = refl;
  children = refl;
  parent = refl;
  disposed = refl;
  peer = refl;
  values = λ other own has. at other own has (nat_eq slot other) refl;
  queue = g.queue;
  apart = g.apart;
}
  where
    at : (other : ℕ) (own : Spec) → spec_of d o.class other ≡ Some own → (b : Bool) → nat_eq slot other ≡ b →
        ValueGood d (standing w.objects) own (slice_get (slice_set o.values slot v) other)
    at other own has true t =
        let same = eqb-true slot other t in
        let old = g.values slot spec is in
        let spec_same : spec ≡ own = (let e = ap (spec_of d o.class) same in let f = sym is ∙ (e ∙ has) in cc) in
        record {
          value = v;
          is = subst (λ n. slice_get (slice_set o.values slot v) n ≡ Some v) same (get_set_here o.values slot old.value v old.is);
          valid = subst (λ s. is_valid (class_by d (standing w.objects)) d.types s v ≡ true) spec_same valid;
        }
    at other own has false t =
        let old = g.values other own has in
        record { value = old.value; is = get_set_apart o.values slot other v (eqb-false slot other t) ∙ old.is; valid = old.valid }

pub each_queued : (P : ℕ → Type 0) (queue : List ℕ) (slot : ℕ) → Each P queue → P slot → Each P (queued queue slot)
each_queued P queue slot all here = go (list_any (λ s. nat_eq s slot) queue)
  where
    last : (xs : List ℕ) → Each P xs → Each P (xs ++ slot ∷ [])
    last [] all = (here, tt)
    last (x ∷ xs) all = (all.0, last xs all.1)

    go : (b : Bool) → Each P (cond b queue (queue ++ slot ∷ []))
    go true = all
    go false = last queue all

-- each slot is in the queue once, where one that is not there yet comes last
apart_last : (queue : List ℕ) (slot : ℕ) → list_any (λ s. nat_eq s slot) queue ≡ false → no_two nat_eq queue ≡ true → no_two nat_eq (queue ++ slot ∷ []) ≡ true
apart_last [] slot none apart = refl
apart_last (x ∷ xs) slot none apart =
    let here = neither (nat_eq x slot) (list_any (λ s. nat_eq s slot) xs) none in
    let parts = both_parts (not (list_any (nat_eq x) xs)) (no_two nat_eq xs) apart in
    and_from (not (list_any (nat_eq x) (xs ++ slot ∷ []))) (no_two nat_eq (xs ++ slot ∷ []))
    (ap not (list_any-append (nat_eq x) xs (slot ∷ []) ∙ (ap (λ b. list_any (nat_eq x) xs || (b || false)) here.0 ∙ nothing_more (list_any (nat_eq x) xs) parts.0)))
    (apart_last xs slot here.1 parts.1)
  where
    neither : (a b : Bool) → (a || b) ≡ false → (a ≡ false) × (b ≡ false)
    neither false b e = (refl, e)
    neither true b e = absurd (cc)

    nothing_more : (b : Bool) → not b ≡ true → (b || (false || false)) ≡ false
    nothing_more false e = refl
    nothing_more true e = absurd (cc)

apart_queued : (queue : List ℕ) (slot : ℕ) → no_two nat_eq queue ≡ true → no_two nat_eq (queued queue slot) ≡ true
apart_queued queue slot apart = go (list_any (λ s. nat_eq s slot) queue) refl
  where
    go : (b : Bool) → list_any (λ s. nat_eq s slot) queue ≡ b → no_two nat_eq (cond b queue (queue ++ slot ∷ [])) ≡ true
    go true e = apart
    go false e = apart_last queue slot e apart

pub queue_is_like : QueueIsLike
queue_is_like d w id slot o spec g is readable = record {
  place = refl;
  class = refl;
  children = refl;
  parent = refl;
  disposed = refl;
  peer = refl;
  values = g.values;
  queue =
      each_queued (λ slot. (spec : Spec) × (spec_of d o.class slot ≡ Some spec) × (is_readable spec ≡ true)) o.queue slot g.queue
      (spec, is, readable);
  apart = apart_queued o.queue slot g.apart;
}

pub freeze_is_like : FreezeIsLike
freeze_is_like d w id o g = record {
  place = refl;
  class = refl;
  children = refl;
  parent = refl;
  disposed = refl;
  peer = refl;
  values = g.values;
  queue = g.queue;
  apart = g.apart;
}

pub thaw_is_like : ThawIsLike
thaw_is_like d w id zero o g count = record {
  place = refl;
  class = refl;
  children = refl;
  parent = refl;
  disposed = refl;
  peer = refl;
  values = g.values;
  queue = tt;
  apart = refl;
}
thaw_is_like d w id (suc left) o g count = record {
  place = refl;
  class = refl;
  children = refl;
  parent = refl;
  disposed = refl;
  peer = refl;
  values = g.values;
  queue = g.queue;
  apart = g.apart;
}
