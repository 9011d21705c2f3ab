-- An index of who names whom beside instances that change.
use Rattle.std.proofs.Common.{◌≡◌, ◌∙◌, ℕ, zero, suc, List, [], ◌∷◌, Bool, true, false, cond, ◌||◌, ◌-◌, nat_eq, nat_lt, Option, Some, None, slice_get, slice_set, inl, inr, ◌⊎◌, Result, Ok, Err, IfOk, OnErr, refl, sym, ap, subst}
use Rattle.std.proofs.lemmas.Bool.{cases_eq}
use Rattle.std.specs.Option.{option_map}
use Rattle.ui_machine.specs.declared.arm.Arm.TheVariants as arms
use Rattle.ui_machine.specs.Definition.Values.{Value}
use Rattle.ui_machine.specs.Definition.Values as values
use Rattle.ui_machine.specs.Outcome.{After, Answer, ◌>>=◌, known, only_if}
use Rattle.ui_machine.specs.Rules.Disposal.{names_object}
use Rattle.ui_machine.specs.Rules.NotifyQueue.{frozen_less, frozen_more, less_frozen, most_freezes, queued, raised}
use Rattle.ui_machine.specs.State.Objects.{Object, with_value}
use Rattle.instance_tables.specs.Names.{forgotten_in, names_any, MayName, NamersKnow, StaysBeside}
use Rattle.instance_tables.specs.Store.{named_by}
use Rattle.instance_tables.specs.View.{Lookup, Replaces}
use Rattle.instance_tables.specs.Weak.{Marks, forgotten_value, masked}
use Rattle.instance_tables.specs.declared.instance.Instance.{Instance}
use Rattle.instance_tables.specs.declared.namers.Namers.{Namers}
use Rattle.instance_tables.proofs.Names.{by_name, or_else}
use Rattle.ui_machine.specs.Seq.{read}

-- ** what a change keeps

-- of an index that was given up
pub all_known : (names : Namers) (at : Lookup) → names.is_given_up ≡ true → NamersKnow names at
all_known names at up h t x here named = rw up refl

module _ (at new : Lookup) (id : ℕ) (names now : Namers) (known : NamersKnow names at) (beside : StaysBeside id names now) where
  -- one instance with other values
  pub known_replaced : (y : Instance) → Replaces at new id (Some y) → ((t : ℕ) → names_any t y.object.values ≡ true → MayName now t id)
      → NamersKnow now new
  known_replaced y replaces own h t x here named =
      elim (cases_eq h id) [
        | inl is ↦
            let both : Some x ≡ Some y = sym here ∙ ap new is ∙ replaces.changed in
            let same : x ≡ y = cc in
            subst (λ k. MayName now t k) (sym is) (own t (subst (λ (z : Instance). names_any t z.object.values ≡ true) same named))
        | inr ne ↦ beside t h ne (known h t x (sym (replaces.others h ne) ∙ here) named)
      ]

  -- and one that is taken out
  pub known_gone : Replaces at new id None → NamersKnow now new
  known_gone replaces h t x here named =
      elim (cases_eq h id) [
        | inl is ↦ let no : Some x ≡ None = sym here ∙ ap new is ∙ replaces.changed in absurd (cc)
        | inr ne ↦ beside t h ne (known h t x (sym (replaces.others h ne) ∙ here) named)
      ]

-- one instance with the same values
pub known_same : (at new : Lookup) (id : ℕ) (names : Namers) (was y : Instance) → NamersKnow names at → at id ≡ Some was
    → Replaces at new id (Some y) → y.object.values ≡ was.object.values → NamersKnow names new
known_same at new id names was y known here replaces same =
    known_replaced at new id names names known (λ t h ne m. m) y replaces
    (λ t named. known id t was here (ap (names_any t) (sym same) ∙ named))

-- ** values that are forgotten

neither : (a b : Bool) → (a || b) ≡ false → (a ≡ false) × (b ≡ false)
neither true b e = absurd (cc)
neither false b e = (refl, e)

or_first : (a b : Bool) → a ≡ true → (a || b) ≡ true
or_first true b e = refl
or_first false b e = absurd (cc)

or_second : (a b : Bool) → b ≡ true → (a || b) ≡ true
or_second true b e = refl
or_second false b e = e

unnamed_value : (t : ℕ) (b : Bool) (v : Value) → names_object t v ≡ false → forgotten_value t b v ≡ v
unnamed_value t true v none = rw none refl
unnamed_value t false v none = refl

-- where none names it all stay
unnamed_same : (t : ℕ) (bs : List Bool) (vs : List Value) → names_any t vs ≡ false → masked (forgotten_value t) bs vs ≡ vs
unnamed_same t [] vs none = refl
unnamed_same t (b ∷ bs) [] none = refl
unnamed_same t (b ∷ bs) (v ∷ vs) none =
    let no = neither (names_object t v) (names_any t vs) none in
    ap (λ (w : Value). w ∷ masked (forgotten_value t) bs vs) (unnamed_value t b v no.0)
    ∙ ap (λ (ws : List Value). v ∷ ws) (unnamed_same t bs vs no.1)

value_names : (id t : ℕ) (b : Bool) (v : Value) → names_object t (forgotten_value id b v) ≡ true → names_object t v ≡ true
value_names id t b v = by (cond b (names_object id v) false)
  where
    by : (n : Bool) → names_object t (cond n (values.object None) v) ≡ true → names_object t v ≡ true
    by true e = let no : false ≡ true = e in absurd (cc)
    by false e = e

-- what is named still was named before
pub forgotten_names : (id t : ℕ) (bs : List Bool) (vs : List Value) → names_any t (masked (forgotten_value id) bs vs) ≡ true
    → names_any t vs ≡ true
forgotten_names id t [] vs e = e
forgotten_names id t (b ∷ bs) [] e = e
forgotten_names id t (b ∷ bs) (v ∷ vs) e =
    elim (or_else (names_object t (forgotten_value id b v)) (names_any t (masked (forgotten_value id) bs vs)) e) [
      | inl here ↦ or_first (names_object t v) (names_any t vs) (value_names id t b v here)
      | inr later ↦ or_second (names_object t v) (names_any t vs) (forgotten_names id t bs vs later)
    ]

forgotten_same : (weak : Marks) (id : ℕ) (x : Instance) → names_any id x.object.values ≡ false → forgotten_in weak id x ≡ x
forgotten_same weak id x none =
    ap (λ (vs : List Value). record { object = record x.object { values = vs }; mentions = x.mentions })
    (unnamed_same id (read [] weak x.object.class) x.object.values none)

-- so one that may not name it stays
pub unnamed_stays : (weak : Marks) (names : Namers) (at : Lookup) (t q : ℕ) → NamersKnow names at → (MayName names t q → ⊥)
    → at q ≡ option_map (forgotten_in weak t) (at q)
unnamed_stays weak names at t q known free = by (at q) refl
  where
    of : (x : Instance) (b : Bool) → names_any t x.object.values ≡ b → at q ≡ Some x → Some x ≡ Some (forgotten_in weak t x)
    of x true named here = absurd (free (known q t x here named))
    of x false none here = ap Some (sym (forgotten_same weak t x none))

    by : (o : Option Instance) → at q ≡ o → o ≡ option_map (forgotten_in weak t) o
    by None here = refl
    by (Some x) here = of x (names_any t x.object.values) refl here

-- ** a value that is written

written_names : (t slot : ℕ) (v : Value) (vs : List Value) → names_any t (slice_set vs slot v) ≡ true
    → (names_any t vs ≡ true) ⊎ (named_by v ≡ Some t)
written_names t slot v [] e = inl e
written_names t zero v (w ∷ vs) e =
    elim (or_else (names_object t v) (names_any t vs) e) [
      | inl here ↦ inr (by_name t v here)
      | inr later ↦ inl (or_second (names_object t w) (names_any t vs) later)
    ]
written_names t (suc slot) v (w ∷ vs) e =
    elim (or_else (names_object t w) (names_any t (slice_set vs slot v)) e) [
      | inl here ↦ inl (or_first (names_object t w) (names_any t vs) here)
      | inr later ↦
          elim (written_names t slot v vs later) [
            | inl old ↦ inl (or_second (names_object t w) (names_any t vs) old)
            | inr new ↦ inr new
          ]
    ]

-- what an object names once a value was written
pub names_after : (slot t : ℕ) (v old : Value) (o n : Object) → with_value slot v o ≡ Ok (record { state = n; answer = old })
    → names_any t n.values ≡ true → (names_any t o.values ≡ true) ⊎ (named_by v ≡ Some t)
unfolding with_value
names_after slot t v old o n e named = by (slice_get o.values slot) e
  where
    write_in : Value → Answer (After Object Value)
    write_in w = Ok (record { state = record o { values = slice_set o.values slot v }; answer = w })

    by : (was : Option Value) → (known arms.Code was >>= write_in) ≡ Ok (record { state = n; answer = old })
        → (names_any t o.values ≡ true) ⊎ (named_by v ≡ Some t)
    by None e = absurd (cc)
    by (Some w) e =
        let now : After Object Value = record { state = record o { values = slice_set o.values slot v }; answer = w } in
        let is : now ≡ record { state = n; answer = old } = cc in
        written_names t slot v o.values (ap (λ (a : After Object Value). names_any t a.state.values) is ∙ named)

-- ** freezes keep values

pub frozen_values : (o n : Object) (x : Unit {0}) → frozen_more o ≡ Ok (record { state = n; answer = x }) → n.values ≡ o.values
frozen_values o n x e = by (nat_lt o.freezes most_freezes) (record { state = n; answer = x }) e
  where
    by : (b : Bool) (w : After Object (Unit {0}))
        → only_if b arms.Freeze (Ok (record { state = record o { freezes = suc o.freezes }; answer = tt })) ≡ Ok w
        → w.state.values ≡ o.values
    by true w e =
        let more : After Object (Unit {0}) = record { state = record o { freezes = suc o.freezes }; answer = tt } in
        let is : more ≡ w = cc in
        ap (λ (a : After Object (Unit {0})). a.state.values) (sym is)
    by false w e = absurd (cc)

pub thawed_values : (o n : Object) (slots : List ℕ) → frozen_less o ≡ Ok (record { state = n; answer = slots }) → n.values ≡ o.values
thawed_values o n slots e = by (nat_lt 0 o.freezes) (o.freezes - 1) (record { state = n; answer = slots }) e
  where
    by : (b : Bool) (k : ℕ) (w : After Object (List ℕ)) → only_if b arms.Freeze (Ok (less_frozen k o)) ≡ Ok w → w.state.values ≡ o.values
    by true zero w e =
        let is : less_frozen zero o ≡ w = cc in
        ap (λ (a : After Object (List ℕ)). a.state.values) (sym is)
    by true (suc k) w e =
        let is : less_frozen (suc k) o ≡ w = cc in
        ap (λ (a : After Object (List ℕ)). a.state.values) (sym is)
    by false k w e = absurd (cc)

pub raised_values : {E : Type 0} (r : Result Bool E) (slot : ℕ) (o n : Object)
    → IfOk r (λ now. raised slot o ≡ Ok (record { state = n; answer = now })) → OnErr r (n ≡ o) → n.values ≡ o.values
raised_values (Err why) slot o n e same = ap (λ (x : Object). x.values) same
raised_values (Ok x) slot o n e same = by (nat_eq o.freezes 0) e
  where
    raised_by : Bool → Answer (After Object Bool)
    raised_by b = Ok (cond b (record { state = o; answer = true }) (record { state = record o { queue = queued o.queue slot }; answer = false }))

    by : (b : Bool) → raised_by b ≡ Ok (record { state = n; answer = x }) → n.values ≡ o.values
    by true e =
        let now : After Object Bool = record { state = o; answer = true } in
        let is : now ≡ record { state = n; answer = x } = cc in
        ap (λ (a : After Object Bool). a.state.values) (sym is)
    by false e =
        let now : After Object Bool = record { state = record o { queue = queued o.queue slot }; answer = false } in
        let is : now ≡ record { state = n; answer = x } = cc in
        ap (λ (a : After Object Bool). a.state.values) (sym is)
