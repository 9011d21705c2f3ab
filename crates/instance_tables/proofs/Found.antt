-- Which object is found that nothing holds.
use Rattle.std.proofs.Common.{◌≡◌, ℕ, zero, suc, ◌+◌, ◌<◌, List, [], ◌∷◌, Bool, true, false, cond, nat_eq, Option, Some, None, is_some, IfSome, IsSome, inl, inr, refl, sym, ap, subst, ◌∙◌, arith}
use Rattle.std.proofs.lemmas.Bool.{cases_eq}
use Rattle.std.proofs.lemmas.Bool.Decides.{nat_tests}
use Rattle.std.specs.Option.{option_map}
use Rattle.ui_machine.specs.Seq.{read}
use Rattle.ui_machine.specs.State.Objects.{Object, Objects, living}
use Rattle.ui_machine.specs.State.References.{unheld_from, next_unheld}
use Rattle.ui_machine.specs.declared.ids.ObjectId.{ObjectId}
use Rattle.instance_tables.specs.Store.{Store, count_of, id_of}
use Rattle.instance_tables.specs.View.{InRange, IsLowestUnheld, Lookup, held_in, object_in, store_of}
use Rattle.instance_tables.specs.declared.instance.Instance.{Instance}
use Rattle.instance_tables.proofs.Shown.{count_is, found_in, not_absent}

-- what lives below the first one found is held, and all are where none is
held_until : (m : ℕ → ℕ) (i : ℕ) (os : Objects) (r : Option ℕ) → unheld_from m i os ≡ r → (k : ℕ) → IsSome (read None os k)
    → ((id : ℕ) → r ≡ Some id → i + k < id) → 0 < m (i + k)
held_until m i [] r e k some lower =
    let no : is_some {T = Object} (read None [] k) ≡ true = some in
    absurd (cc)
held_until m i (None ∷ os) r e zero some lower = absurd (cc)
held_until m i (None ∷ os) r e (suc k) some lower =
    let next : suc i + k ≡ i + suc k = omega arith in
    subst (λ j. 0 < m j) next (held_until m (suc i) os r e k some (λ id is. omega (arith, lower id is)))
held_until m i (Some o ∷ os) r e k some lower = by (held_until m (suc i) os r) (nat_eq (m i) 0) refl e k some lower
  where
    by : (unheld_from m (suc i) os ≡ r → (k : ℕ) → IsSome (read None os k) → ((id : ℕ) → r ≡ Some id → suc i + k < id)
        → 0 < m (suc i + k)) → (b : Bool) → nat_eq (m i) 0 ≡ b → cond b (Some i) (unheld_from m (suc i) os) ≡ r → (k : ℕ)
        → IsSome (read None (Some o ∷ os) k) → ((id : ℕ) → r ≡ Some id → i + k < id) → 0 < m (i + k)
    by rest true is f k some lower = absurd (omega (arith, lower i (sym f)))
    by rest false is f zero some lower =
        let here : 0 < m i = grind (arith, nat_tests) in
        let first : i ≡ i + 0 = omega arith in
        subst (λ j. 0 < m j) first here
    by rest false is f (suc k) some lower =
        let next : suc i + k ≡ i + suc k = omega arith in
        subst (λ j. 0 < m j) next (rest f k some (λ id at. omega (arith, lower id at)))

-- ** what is found

pub found_lives : (m : ℕ → ℕ) (i : ℕ) (os : Objects) (id : ℕ) → unheld_from m i os ≡ Some id
    → (j : ℕ) × (id ≡ i + j) × IsSome (read None os j) × (m id ≡ 0)
found_lives m i [] id e = absurd (cc)
found_lives m i (None ∷ os) id e =
    let rest = found_lives m (suc i) os id e in
    (suc rest.0, omega (arith, rest.1), rest.2, rest.3)
found_lives m i (Some o ∷ os) id e = by (found_lives m (suc i) os id) (nat_eq (m i) 0) refl e
  where
    by : (unheld_from m (suc i) os ≡ Some id → (j : ℕ) × (id ≡ suc i + j) × IsSome (read None os j) × (m id ≡ 0)) → (b : Bool)
        → nat_eq (m i) 0 ≡ b → cond b (Some i) (unheld_from m (suc i) os) ≡ Some id
        → (j : ℕ) × (id ≡ i + j) × IsSome (read None (Some o ∷ os) j) × (m id ≡ 0)
    by rest true none f =
        let is : i ≡ id = cc in
        let no : m i ≡ 0 = grind (arith, nat_tests) in
        (0, omega (arith, is), refl, ap m (sym is) ∙ no)
    by rest false more f =
        let later = rest f in
        (suc later.0, omega (arith, later.1), later.2, later.3)

-- the object that is found lives, and nothing holds it
pub next_ready : (m : ℕ → ℕ) (os : Objects) (id : ℕ) → next_unheld m os ≡ Some id → IsSome (living os id) × (m id ≡ 0)
next_ready m os id e =
    let found = found_lives m 1 os id e in
    let is : suc found.0 ≡ id = omega (arith, found.1) in
    (subst (λ k. IsSome (living os k)) is found.2, found.3)

-- ** what is noted

module _ (at : Lookup) (made limit : ℕ) (floats : List ObjectId) (old : Store) (range : InRange at made) (is : store_of at made limit floats ≡ old) where
  -- how often an identity is held that lives
  held_here : (id : ℕ) (n : ℕ) → held_in at id ≡ Some n → count_of old.counts id ≡ n
  held_here id n e = by (at id) refl
    where
      by : (o : Option Instance) → at id ≡ o → count_of old.counts id ≡ n
      by None none =
          let no : held_in at id ≡ None = ap (option_map (λ (x : Instance). x.mentions)) none in
          absurd (cc)
      by (Some x) some =
          let here : held_in at id ≡ Some x.mentions = ap (option_map (λ (x : Instance). x.mentions)) some in
          let same : x.mentions ≡ n = cc in
          count_is at made limit floats old range is id x some ∙ same

  -- one that lives and that nothing holds is so among the instances
  lives_unheld : (id : ℕ) → IsSome (living old.objects id) → count_of old.counts id ≡ 0 → held_in at id ≡ Some 0
  lives_unheld id some none = by (at id) refl
    where
      by : (o : Option Instance) → at id ≡ o → held_in at id ≡ Some 0
      by None gone = absurd (not_absent at made limit floats old range is id gone some)
      by (Some x) here =
          let zero : x.mentions ≡ 0 = sym (count_is at made limit floats old range is id x here) ∙ none in
          ap (option_map (λ (x : Instance). x.mentions)) here ∙ ap Some zero

  -- each of a lower identity than the one found is held
  below_held : (i : ℕ) → ((id : ℕ) → next_unheld (count_of old.counts) old.objects ≡ Some id → i < id) → held_in at i ≡ Some 0 → ⊥
  below_held zero lower none = by (at 0) refl
    where
      by : (o : Option Instance) → at 0 ≡ o → ⊥
      by None gone = let no : held_in at 0 ≡ None = ap (option_map (λ (x : Instance). x.mentions)) gone in absurd (cc)
      by (Some x) here = absurd (omega (arith, (range 0 (ap is_some here)).0))
  below_held (suc k) lower none = by (at (suc k)) refl
    where
      by : (o : Option Instance) → at (suc k) ≡ o → ⊥
      by None gone = let no : held_in at (suc k) ≡ None = ap (option_map (λ (x : Instance). x.mentions)) gone in absurd (cc)
      by (Some x) here =
          let some : IsSome (read None old.objects k) = ap is_some (found_in at made limit floats old range is (suc k) ∙ ap object_in here) in
          let next : 1 + k ≡ suc k = omega arith in
          let more : 0 < count_of old.counts (1 + k) =
          held_until (count_of old.counts) 1 old.objects (next_unheld (count_of old.counts) old.objects) refl k some
          (λ id e. omega (arith, lower id e)) in
          let zero : count_of old.counts (suc k) ≡ 0 = held_here (suc k) 0 none in
          omega (arith, subst (λ j. 0 < count_of old.counts j) next more, zero)

  -- what is noted as the lowest one is the machine's
  pub noted_is : (low : Option ℕ) → IsLowestUnheld (held_in at) low → low ≡ next_unheld (count_of old.counts) old.objects
  noted_is low noted = by (next_unheld (count_of old.counts) old.objects) refl low noted
    where
      by : (r : Option ℕ) → next_unheld (count_of old.counts) old.objects ≡ r → (low : Option ℕ) → IsLowestUnheld (held_in at) low → low ≡ r
      by None e None noted = refl
      by None e (Some i) noted =
          absurd (below_held i (λ id is_id. let no : Some id ≡ None = sym is_id ∙ e in absurd (cc)) (noted.unheld i refl))
      by (Some id) e low noted =
          let ready = next_ready (count_of old.counts) old.objects id e in
          let least = noted.least id (lives_unheld id ready.0 ready.1) in
          let no_lower : least.0 < id → ⊥ =
          λ small.
          below_held least.0 (λ j f. let same : Some id ≡ Some j = sym e ∙ f in let at_id : id ≡ j = cc in omega (arith, small, at_id))
          (noted.unheld least.0 least.1) in
          elim (cases_eq least.0 id) [
            | inl same ↦ least.1 ∙ ap Some same
            | inr ne ↦ absurd (no_lower (omega (arith, least.2, ne)))
          ]

-- what is found lives, and nothing holds it
pub found_ready : (s : Store) (found : Option ObjectId) → id_of found ≡ next_unheld (count_of s.counts) s.objects
    → IfSome found (λ id. IsSome (living s.objects id.0)) × IfSome found (λ id. count_of s.counts id.0 ≡ 0)
found_ready s None e = (tt, tt)
found_ready s (Some id) e = next_ready (count_of s.counts) s.objects id.0 (sym e)
