-- How many objects were made, and that their kin are among them, as objects change.
use Rattle.std.proofs.Common.{◌≡◌, refl, ap, sym, subst, ◌∙◌, ℕ, zero, suc, ◌≤◌, ◌⊎◌, inl, inr, Bool, true, false, cond, nat_eq, List, [], ◌∷◌, ◌++◌, length, map, option_map, Option, None, Some, arith}
use Rattle.std.specs.List.{AllByRecursion}
use Rattle.std.specs.Option.{IfSome}
use Rattle.std.specs.Prelude.{IfOk}
use Rattle.std.proofs.lemmas.List.{length-append, length-map}
use Rattle.ui_machine.specs.Definition.{Definition}
use Rattle.ui_machine.specs.Outcome.{After, Answer}
use Rattle.ui_machine.specs.Rules.Children.{updated, with_child, with_parent, without_child}
use Rattle.ui_machine.specs.Rules.Disposal.{all_forget, children_of, forgets, lets_go, objects_disposed, orphans, without_parent}
use Rattle.ui_machine.specs.Seq.{read, write}
use Rattle.ui_machine.specs.State.Config.{without}
use Rattle.ui_machine.specs.State.Objects.{Object, Objects, changed, living, object_at, put}
use Rattle.machine_laws.proofs.KeptProofs.{bind_keeps, kept_at}
use Rattle.law_runs.specs.Kin.{KinMade}
use Rattle.law_runs.proofs.Counting.{SameKin, found}

-- ** kin

abbrev pub AllMade : ℕ → List ℕ → Type 0
AllMade n ids = AllByRecursion (λ id. id ≤ n) ids

-- one more is among them
more_made : (n id : ℕ) (ids : List ℕ) → AllMade n ids → id ≤ n → AllMade n (ids ++ id ∷ [])
more_made n id [] all at = (at, tt)
more_made n id (i ∷ is) all at = (all.0, more_made n id is all.1 at)

-- one less is too
less_made : (n id : ℕ) (ids : List ℕ) → AllMade n ids → AllMade n (without id ids)
less_made n id [] all = tt
less_made n id (i ∷ is) all = by (nat_eq i id) (less_made n id is all.1)
  where
    by : (b : Bool) → AllMade n (without id is) → AllMade n (cond b (without id is) (i ∷ without id is))
    by true rest = rest
    by false rest = (all.0, rest)

all_later : (n : ℕ) (ids : List ℕ) → AllMade n ids → AllMade (suc n) ids
all_later n [] all = tt
all_later n (i ∷ is) all = (let low = all.0 in omega (arith, low), all_later n is all.1)

one_later : (n : ℕ) (id : Option ℕ) → IfSome id (λ i. i ≤ n) → IfSome id (λ i. i ≤ suc n)
one_later n None low = tt
one_later n (Some i) low = omega (arith, low)

-- where more were made
later : (n : ℕ) (o : Object) → KinMade n o → KinMade (suc n) o
later n o kin = record { children = all_later n o.children kin.children; parent = one_later n o.parent kin.parent }

-- ** objects

-- so many were made, and the kin of those that live are among them
pub record Made (n : ℕ) (os : Objects) : Type 0 where
  pub all : length os ≡ n
  pub kin : (id : ℕ) (o : Object) → living os id ≡ Some o → KinMade n o

-- what lives was made
pub was_made : (os : Objects) (id : ℕ) (o : Object) → living os id ≡ Some o → id ≤ length os
was_made os zero o is = absurd (cc is)
was_made [] (suc i) o is = absurd (cc is)
was_made (x ∷ os) (suc zero) o is = omega arith
was_made (x ∷ os) (suc (suc i)) o is = let low = was_made os (suc i) o is in omega (arith, low)

length_put : (os : Objects) (id : ℕ) (x : Option Object) → id ≤ length os → length (put os id x) ≡ length os
length_put os zero x low = refl
length_put [] (suc i) x low = absurd (omega (arith, low))
length_put (o ∷ os) (suc zero) x low = refl
length_put (o ∷ os) (suc (suc i)) x low = ap suc (length_put os (suc i) x (omega (arith, low)))

-- what is found after a write was written, or was there
read_written : (os : Objects) (i j : ℕ) (x : Option Object) (o : Object) → read None (write None os i x) j ≡ Some o → (x ≡ Some o) ⊎ (read None os j ≡ Some o)
read_written [] zero zero x o is = inl is
read_written [] zero (suc j) x o is = absurd (cc is)
read_written [] (suc i) zero x o is = absurd (cc is)
read_written [] (suc i) (suc j) x o is = read_written [] i j x o is
read_written (y ∷ os) zero zero x o is = inl is
read_written (y ∷ os) zero (suc j) x o is = inr is
read_written (y ∷ os) (suc i) zero x o is = inr is
read_written (y ∷ os) (suc i) (suc j) x o is = read_written os i j x o is

living_put : (os : Objects) (id at : ℕ) (x : Option Object) (o : Object) → living (put os id x) at ≡ Some o → (x ≡ Some o) ⊎ (living os at ≡ Some o)
living_put os zero at x o is = inr is
living_put os (suc i) zero x o is = inr is
living_put os (suc i) (suc j) x o is = read_written os i j x o is

module _ (n : ℕ) where
  pub put_made : (os : Objects) → Made n os → (id : ℕ) (x : Option Object) → id ≤ n → IfSome x (KinMade n) → Made n (put os id x)
  put_made os made id x low kin = record {
    all = length_put os id x (subst (λ m. id ≤ m) (sym made.all) low) ∙ made.all;
    kin = λ at o is. by at o (living_put os id at x o is);
  }
    where
      by : (at : ℕ) (o : Object) → (x ≡ Some o) ⊎ (living os at ≡ Some o) → KinMade n o
      by at o (inl is) = subst (λ y. IfSome y (KinMade n)) is kin
      by at o (inr is) = made.kin at o is

  -- whose kin are those of one that was there, or of its change
  abbrev Keeps : (Object → Object) → Type 0
  Keeps change = (o : Object) → KinMade n o → KinMade n (change o)

  mapped_kin : (change : Object → Object) → Keeps change → (x : Option Object) → ((o : Object) → x ≡ Some o → KinMade n o) → IfSome (option_map change x) (KinMade n)
  mapped_kin change keeps None kin = tt
  mapped_kin change keeps (Some o) kin = keeps o (kin o refl)

  updated_made : (change : Object → Object) → Keeps change → (os : Objects) → Made n os → (id : ℕ) → id ≤ n → Made n (updated change id os)
  updated_made change keeps os made id low = put_made os made id (option_map change (living os id)) low (mapped_kin change keeps (living os id) (made.kin id))

  -- one is changed, and keeps its kin
  pub changed_made : {X : Type 0} (os : Objects) → Made n os → (id : ℕ) (change : Object → Answer (After Object X))
      → ((o : Object) → IfOk (change o) (λ r. SameKin o r.state)) → IfOk (changed os id change) (λ r. Made n r.state)
  unfolding changed
  changed_made os made id change same = bind_keeps (object_at os id) _ _ (λ o is. bind_keeps (change o) _ _ (λ r at.
      let alive = found (living os id) o is in
      put_made os made id (Some r.state) (subst (λ m. id ≤ m) made.all (was_made os id o alive)) (same_kin o r.state (kept_at _ (change o) r (same o) at) (made.kin id o alive))))
    where
      same_kin : (o new : Object) → SameKin o new → KinMade n o → KinMade n new
      same_kin o new same kin = record { children = subst (AllMade n) (sym same.children) kin.children; parent = subst (λ x. IfSome x (λ above. above ≤ n)) (sym same.parent) kin.parent }

  -- ** families

  -- an object that lives gets a child that lives
  pub family_made : (os : Objects) → Made n os → (parent child : ℕ) → parent ≤ n → child ≤ n
      → Made n (updated (with_parent (Some parent)) child (updated (with_child child) parent os))
  family_made os made parent child high low =
      updated_made (with_parent (Some parent)) (λ o kin. record { children = kin.children; parent = high })
      _ (updated_made (with_child child) (λ o kin. record { children = more_made n child o.children kin.children low; parent = kin.parent }) os made parent high) child low

  -- one leaves its parent
  pub left_made : (os : Objects) → Made n os → (parent child : ℕ) → parent ≤ n → child ≤ n
      → Made n (updated (with_parent None) child (updated (without_child child) parent os))
  left_made os made parent child high low =
      updated_made (with_parent None) (λ o kin. record { children = kin.children; parent = tt })
      _ (updated_made (without_child child) (λ o kin. record { children = less_made n child o.children kin.children; parent = kin.parent }) os made parent high) child low

  -- ** what is disposed

  -- an object that is found after each was changed was there, and was changed
  each_made : (change : Object → Object) → Keeps change → (os : Objects) → Made n os → Made n (map (option_map change) os)
  each_made change keeps os made = record {
    all = length-map os (option_map change) ∙ made.all;
    kin = λ id o is. by o (living os id) (made.kin id) (sym (living_map os id) ∙ is);
  }
    where
      read_map : (xs : Objects) (i : ℕ) → read None (map (option_map change) xs) i ≡ option_map change (read None xs i)
      read_map [] i = refl
      read_map (x ∷ xs) zero = refl
      read_map (x ∷ xs) (suc i) = read_map xs i

      living_map : (xs : Objects) (id : ℕ) → living (map (option_map change) xs) id ≡ option_map change (living xs id)
      living_map xs zero = refl
      living_map xs (suc i) = read_map xs i

      by : (o : Object) (x : Option Object) → ((y : Object) → x ≡ Some y → KinMade n y) → option_map change x ≡ Some o → KinMade n o
      by o x kin is = subst (λ y. IfSome y (KinMade n)) is (mapped_kin change keeps x kin)

  orphans_made : (ids : List ℕ) → AllMade n ids → (os : Objects) → Made n os → Made n (orphans ids os)
  orphans_made [] all os made = made
  orphans_made (id ∷ ids) all os made =
      orphans_made ids all.1 _ (updated_made without_parent (λ o kin. record { children = kin.children; parent = tt }) os made id all.0)

  their_children : (x : Option Object) → ((o : Object) → x ≡ Some o → KinMade n o) → AllMade n (children_of x)
  their_children None kin = tt
  their_children (Some o) kin = (kin o refl).children

  -- its children, which were made, have no parent
  pub disposed_kin : (d : Definition) (os : Objects) → Made n os → (id : ℕ) → id ≤ n → Made n (objects_disposed d id os)
  disposed_kin d os made id low =
      orphans_made (children_of (living os id)) (their_children (living os id) (made.kin id)) _
      (updated_made (lets_go d) (λ o kin. record { children = tt; parent = kin.parent }) (all_forget d id os) forgot id low)
    where
      forgot : Made n (all_forget d id os)
      forgot = each_made (forgets d id) (λ o kin. record { children = kin.children; parent = kin.parent }) os made

  -- ** a new object

  -- one more was made, which has no kin
  pub one_more_made : (os : Objects) → Made n os → (o : Object) → KinMade n o → Made (suc n) (os ++ Some o ∷ [])
  one_more_made os made o kin = record {
    all = (let both = length-append os (Some o ∷ []) in let all = made.all in omega (arith, both, all));
    kin = λ id x is. by id x (living_more os id x is);
  }
    where
      read_more : (xs : Objects) (i : ℕ) (x : Object) → read None (xs ++ Some o ∷ []) i ≡ Some x → (Some o ≡ Some x) ⊎ (read None xs i ≡ Some x)
      read_more [] zero x is = inl is
      read_more [] (suc i) x is = absurd (cc is)
      read_more (y ∷ xs) zero x is = inr is
      read_more (y ∷ xs) (suc i) x is = read_more xs i x is

      living_more : (xs : Objects) (id : ℕ) (x : Object) → living (xs ++ Some o ∷ []) id ≡ Some x → (Some o ≡ Some x) ⊎ (living xs id ≡ Some x)
      living_more xs zero x is = inr is
      living_more xs (suc i) x is = read_more xs i x is

      by : (id : ℕ) (x : Object) → (Some o ≡ Some x) ⊎ (living os id ≡ Some x) → KinMade (suc n) x
      by id x (inl is) = later n x (subst (λ y. IfSome y (KinMade n)) is kin)
      by id x (inr is) = later n x (made.kin id x is)
