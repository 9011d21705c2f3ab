-- What is known of the objects that nothing holds, as objects are made, held, let go and taken out.
use Rattle.std.proofs.Common.{◌≡◌, ◌≢◌, ℕ, ◌<◌, ◌≤◌, Bool, true, false, cond, max, min, nat_eq, List, Option, Some, None, inl, inr, refl, sym, ap, subst, ◌∙◌, true≢false, arith}
use Rattle.std.proofs.lemmas.Bool.{cases_eq}
use Rattle.std.proofs.lemmas.Bool.Decides.{nat_tests}
use Rattle.std.specs.Option.{option_map}
use Rattle.instance_tables.specs.Store.{id_of}
use Rattle.instance_tables.specs.Unheld.{AreNone, AreOthers, IsLetGo, IsTaken, KnowsUnheld, LeavesNext, Takes, has}
use Rattle.instance_tables.specs.View.{IsHeldOrGone, IsLowestUnheld, Lookup, Replaces, held_in, instances_at}
use Rattle.instance_tables.specs.declared.instance.Instance.{Instance}
use Rattle.instance_tables.specs.declared.unheld.Unheld.{Unheld}
use Rattle.ui_machine.specs.declared.ids.ObjectId.{ObjectId}
use Rattle.instance_tables.proofs.Lowest.{found_beside, lowest_kept, lowest_let_go}

some_eq : (a b : ℕ) → Some a ≡ Some b → a ≡ b
some_eq a b e = cc

is_it : (q k : ℕ) → q ≡ k → nat_eq q k ≡ true
is_it q k e = grind (arith, nat_tests)

is_not : (q k : ℕ) → q ≢ k → nat_eq q k ≡ false
is_not q k ne = grind (arith, nat_tests)

-- ** the same ones

-- those that nothing holds are the same
abbrev pub HasSameUnheld : (ℕ → Option ℕ) → (ℕ → Option ℕ) → Type 0
HasSameUnheld held new = (q : ℕ) → (held q ≡ Some 0 → new q ≡ Some 0) × (new q ≡ Some 0 → held q ≡ Some 0)

same_lowest : (held new : ℕ → Option ℕ) (low : Option ℕ) → HasSameUnheld held new → IsLowestUnheld held low → IsLowestUnheld new low
same_lowest held new low same is = record {
  unheld = λ i e. (same i).0 (is.unheld i e);
  least = λ q e. is.least q ((same q).1 e);
}

same_others : (held new : ℕ → Option ℕ) (low : Option ℕ) (has : ℕ → Bool) → HasSameUnheld held new → AreOthers held low has → AreOthers new low has
same_others held new low has same are = record {
  unheld = λ q e. ((same q).0 (are.unheld q e).0, (are.unheld q e).1);
  all = λ q none. are.all q ((same q).1 none);
}

same_known : (held new : ℕ → Option ℕ) (u : Unheld) → HasSameUnheld held new → KnowsUnheld held u → KnowsUnheld new u
same_known held new u same knows = record {
  lowest = same_lowest held new (id_of u.lowest) same knows.lowest;
  others = λ whole. same_others held new (id_of u.lowest) (has u) same (knows.others whole);
}

-- each is held as often as before
pub known_same : (held new : ℕ → Option ℕ) (u : Unheld) → ((q : ℕ) → new q ≡ held q) → KnowsUnheld held u → KnowsUnheld new u
known_same held new u same = same_known held new u (λ q. (λ none. same q ∙ none, λ none. sym (same q) ∙ none))

-- one is let go and still held
pub known_held : (held new : ℕ → Option ℕ) (u : Unheld) (id mentions : ℕ) → 0 < mentions → IsLetGo held new id mentions → KnowsUnheld held u
    → KnowsUnheld new u
known_held held new u id mentions more gone = same_known held new u same
  where
    same : HasSameUnheld held new
    same q =
        elim (cases_eq q id) [
          | inl is ↦ (
            λ none. absurd (gone.less more (ap held (sym is) ∙ none)),
            λ none.
                let zero : mentions ≡ 0 = some_eq mentions 0 (sym gone.here ∙ ap new (sym is) ∙ none) in
                absurd (omega (arith, more, zero)),
          )
          | inr ne ↦ (λ none. gone.others q ne ∙ none, λ none. sym (gone.others q ne) ∙ none)
        ]

-- ** one more

-- it is the only one
pub first_lowest : (held new : ℕ → Option ℕ) (id : ℕ) → IsLetGo held new id 0 → IsLowestUnheld held None → IsLowestUnheld new (Some id)
first_lowest held new id gone is = lowest_let_go held new None id gone.others is gone.here

none_unheld : (held : ℕ → Option ℕ) → IsLowestUnheld held None → (q : ℕ) → held q ≡ Some 0 → ⊥
none_unheld held is q none = let least = is.least q none in let no : None ≡ Some least.0 = least.1 in absurd (cc)

pub first_others : (held new : ℕ → Option ℕ) (id : ℕ) (has : ℕ → Bool) → IsLetGo held new id 0 → IsLowestUnheld held None → AreOthers held None has
    → AreOthers new (Some id) has
first_others held new id has gone is are = record {
  unheld = λ q e. absurd (none_unheld held is q (are.unheld q e).0);
  all = λ q none other.
      absurd (none_unheld held is q (sym (gone.others q (λ e. other (ap Some (sym e)))) ∙ none));
}

-- it is the lowest one already
pub known_again : (held new : ℕ → Option ℕ) (u : Unheld) (id : ℕ) → id_of u.lowest ≡ Some id → IsLetGo held new id 0 → KnowsUnheld held u → KnowsUnheld new u
known_again held new u id here gone knows = same_known held new u same knows
  where
    same : HasSameUnheld held new
    same q =
        elim (cases_eq q id) [
          | inl is ↦ (λ none. ap new is ∙ gone.here, λ none. ap held is ∙ knows.lowest.unheld id here)
          | inr ne ↦ (λ none. gone.others q ne ∙ none, λ none. sym (gone.others q ne) ∙ none)
        ]

-- the lower one is the lowest now, and the higher one is among the others
module _ (held new : ℕ → Option ℕ) (low id : ℕ) (old now : ℕ → Bool) (gone : IsLetGo held new id 0) (is : IsLowestUnheld held (Some low)) (ne : low ≢ id)
    (adds : (q : ℕ) → now q ≡ cond (nat_eq q (max low id)) true (old q)) (are : AreOthers held (Some low) old) where
  low_unheld : held low ≡ Some 0
  low_unheld = is.unheld low refl

  high_unheld : new (max low id) ≡ Some 0
  high_unheld =
      elim (cases_eq (max low id) id) [
        | inl here ↦ ap new here ∙ gone.here
        | inr other ↦
            let it : max low id ≡ low = omega (arith, other) in
            ap new it ∙ gone.others low ne ∙ low_unheld
      ]

  -- one that was among the others is not the new lowest
  above_low : (q : ℕ) → old q ≡ true → min low id ≡ q → ⊥
  above_low q e same =
      let was = are.unheld q e in
      let least = is.least q was.0 in
      let at : low ≡ least.0 = some_eq low least.0 least.1 in
      let other : low ≢ q = λ it. was.1 (ap Some it) in
      omega (arith, same, least.2, at, other)

  added_unheld : (q : ℕ) → now q ≡ true → (new q ≡ Some 0) × (Some (min low id) ≡ Some q → ⊥)
  added_unheld q e =
      elim (cases_eq q (max low id)) [
        | inl here ↦ (
          ap new here ∙ high_unheld,
          λ same. let at : min low id ≡ q = some_eq (min low id) q same in omega (arith, at, here, ne),
        )
        | inr other ↦
            let was : old q ≡ true = ap (λ b. cond b true (old q)) (sym (is_not q (max low id) other)) ∙ sym (adds q) ∙ e in (
              elim (cases_eq q id) [
                | inl it ↦ ap new it ∙ gone.here
                | inr beside ↦ gone.others q beside ∙ (are.unheld q was).0
              ],
              λ same. above_low q was (some_eq (min low id) q same),
            )
      ]

  added_all : (q : ℕ) → new q ≡ Some 0 → (Some (min low id) ≡ Some q → ⊥) → now q ≡ true
  added_all q none other =
      elim (cases_eq q (max low id)) [
        | inl here ↦ adds q ∙ ap (λ b. cond b true (old q)) (is_it q (max low id) here)
        | inr beside ↦
            let not_low : min low id ≢ q = λ e. other (ap Some e) in
            let not_id : q ≢ id = λ e. omega (arith, e, beside, not_low) in
            let not_it : low ≢ q = λ e. omega (arith, e, beside, not_low) in
            adds q ∙ ap (λ b. cond b true (old q)) (is_not q (max low id) beside)
            ∙ are.all q (sym (gone.others q not_id) ∙ none) (λ e. not_it (some_eq low q e))
      ]

  pub added_others : AreOthers new (Some (min low id)) now
  added_others = record { unheld = added_unheld; all = added_all }

pub added_lowest : (held new : ℕ → Option ℕ) (low id : ℕ) → IsLetGo held new id 0 → IsLowestUnheld held (Some low) → IsLowestUnheld new (Some (min low id))
added_lowest held new low id gone is = lowest_let_go held new (Some low) id gone.others is gone.here

-- ** one less

module _ (held new : ℕ → Option ℕ) (low : Option ℕ) (id : ℕ) (old now : ℕ → Bool) (change : IsHeldOrGone held new id) (is : IsLowestUnheld held low)
    (are : AreOthers held low old) where
  not_it : (q : ℕ) → new q ≡ Some 0 → q ≢ id
  not_it q none e = change.gone (ap new (sym e) ∙ none)

  was_unheld : (q : ℕ) → new q ≡ Some 0 → held q ≡ Some 0
  was_unheld q none = sym (change.others q (not_it q none)) ∙ none

  -- it was not the lowest
  pub left_others : (low ≡ Some id → ⊥) → ((q : ℕ) → now q ≡ cond (nat_eq q id) false (old q)) → AreOthers new low now
  left_others other removes = record {
    unheld = λ q e.
        elim (cases_eq q id) [
          | inl here ↦
              absurd (true≢false (sym e ∙ removes q ∙ ap (λ b. cond b false (old q)) (is_it q id here)))
          | inr ne ↦
              let was : old q ≡ true = ap (λ b. cond b false (old q)) (sym (is_not q id ne)) ∙ sym (removes q) ∙ e in
              (change.others q ne ∙ (are.unheld q was).0, (are.unheld q was).1)
        ];
    all = λ q none beside.
        removes q ∙ ap (λ b. cond b false (old q)) (is_not q id (not_it q none)) ∙ are.all q (was_unheld q none) beside;
  }

  module _ (here : low ≡ Some id) where
    -- one that nothing holds now was among the others
    was_other : (q : ℕ) → new q ≡ Some 0 → old q ≡ true
    was_other q none = are.all q (was_unheld q none) (λ e. not_it q none (some_eq q id (sym e ∙ here)))

    still_unheld : (q : ℕ) → old q ≡ true → new q ≡ Some 0
    still_unheld q e =
        let was = are.unheld q e in
        change.others q (λ it. was.1 (here ∙ ap Some (sym it))) ∙ was.0

    -- the first of the others is the lowest now
    pub next_lowest : (next : Option ℕ) → Takes old now next → IsLowestUnheld new next
    next_lowest None none = record {
      unheld = λ i e. absurd (cc);
      least = λ q e. absurd (true≢false (sym (was_other q e) ∙ none.were q));
    }
    next_lowest (Some k) taken = record {
      unheld = λ i e. ap new (sym (some_eq k i e)) ∙ still_unheld k taken.was;
      least = λ q e. (k, refl, taken.least q (was_other q e));
    }

    pub next_others : (next : Option ℕ) → Takes old now next → AreOthers new next now
    next_others None none = record {
      unheld = λ q e. absurd (true≢false (sym e ∙ none.are q));
      all = λ q e beside. absurd (true≢false (sym (was_other q e) ∙ none.were q));
    }
    next_others (Some k) taken = record {
      unheld = λ q e.
          elim (cases_eq q k) [
            | inl it ↦ absurd (true≢false (sym e ∙ taken.gone q ∙ ap (λ b. cond b false (old q)) (is_it q k it)))
            | inr ne ↦
                let was : old q ≡ true = ap (λ b. cond b false (old q)) (sym (is_not q k ne)) ∙ sym (taken.gone q) ∙ e in
                (still_unheld q was, λ same. ne (some_eq q k (sym same)))
          ];
      all = λ q e beside.
          taken.gone q ∙ ap (λ b. cond b false (old q)) (is_not q k (λ it. beside (ap Some (sym it)))) ∙ was_other q e;
    }

-- the lowest one is held now or gone, and the next one takes its place
pub known_next : (es : List (ℕ × Instance)) (held : ℕ → Option ℕ) (old now : Unheld) (id : ℕ) (next : Option ObjectId) → id_of old.lowest ≡ Some id
    → KnowsUnheld held old → IsHeldOrGone held (held_in (instances_at es)) id → LeavesNext es id old now (id_of next)
    → KnowsUnheld (held_in (instances_at es)) (record now { lowest = next })
known_next es held old now id next here knows change leaves = by old.is_whole refl
  where
    by : (b : Bool) → old.is_whole ≡ b → KnowsUnheld (held_in (instances_at es)) (record now { lowest = next })
    by true whole =
        let taken = leaves.taken whole in
        let are = knows.others whole in
        record {
          lowest = next_lowest held (held_in (instances_at es)) (id_of old.lowest) id (has old) (has now) change knows.lowest are here (id_of next) taken;
          others = λ _. next_others held (held_in (instances_at es)) (id_of old.lowest) id (has old) (has now) change knows.lowest are here (id_of next) taken;
        }
    by false part =
        let found = leaves.searched part in
        record {
          lowest = found_beside es found.1 held (id_of old.lowest) id knows.lowest change here (id_of next) found.0;
          others = λ whole. absurd (true≢false (sym whole ∙ leaves.whole ∙ part));
        }

-- one that is made, and that nothing holds yet
pub is_born : (at new : Lookup) (id : ℕ) (y : Instance) → y.mentions ≡ 0 → Replaces at new id (Some y) → IsLetGo (held_in at) (held_in new) id 0
is_born at new id y zero replaces = record {
  here = ap (option_map (λ (x : Instance). x.mentions)) replaces.changed ∙ ap Some zero;
  less = λ more. absurd (omega (arith, more));
  others = λ q ne. ap (option_map (λ (x : Instance). x.mentions)) (replaces.others q ne);
}
