-- The build's items for adoptions, forward values and bindings.
use Rattle.std.proofs.Common.{◌≡◌, inl, inr, ◌⊎◌, refl, sym, ap, subst, ◌∙◌, ℕ, suc, ◌+◌, Bool, true, false, cond, List, [], ◌∷◌, ◌++◌, length, Option, None, Some, slice_get, arith}
use Rattle.std.specs.Prelude.{nat_le}
use Rattle.std.specs.List.{flat_map}
use Rattle.ui_machine.specs.Seq.{total}
use Rattle.ui_machine.specs.Definition.{Definition}
use Rattle.ui_machine.specs.Definition.Places.{Given, value, named, GivenProperty, Bind, Place}
use Rattle.ui_machine.specs.State.Tasks.{Item, makes, adopts, forwards, binds, connects}
use Rattle.ui_machine.specs.Rules.Build.{adopts_if, made_items, forward_given, forward_of, forward_items, numbered, connected_items, is_making, build_items}
use Rattle.law_typing.specs.Verdict.Accepted.{Each, Accepted}
use Rattle.law_typing.specs.Laws.{IsIn}
use Rattle.law_typing.specs.Laws.WellRead.{objects_of}
use Rattle.law_typing.specs.Good.Bindings.{is_binding}
use Rattle.law_typing.proofs.Lists.{each_append, each_in}
use Rattle.law_typing.proofs.EdgeProofs.{append_right}
use Rattle.law_static.specs.Items.{AdoptsFollow, ForwardsFollow, BindingsFollow}
use Rattle.law_static.proofs.BuildCostProofs.{made_count}
use Rattle.law_static.proofs.ItemsProofs.{parts_in}
use Rattle.law_static.proofs.MakingsProofs.{each_made, each_forward, each_numbered, each_connected, all_zero, late_items, late_make_none, InOrder, bind_count}
use Rattle.law_static.proofs.PlanCostProofs.{total_append}

-- ** where an item is that is none of the early ones

-- what comes before it is all early ones, and some of the late
pub record After (early late before items : List Item) (i : Item) : Type 0 where
  pub more : List Item
  pub before_is : before ≡ early ++ more
  pub late_is : late ≡ more ++ i ∷ items

after_early : (test : Item → Bool) (early late before items : List Item) (i : Item) → Each (λ x. test x ≡ false) early → test i ≡ true → early ++ late ≡ before ++ i ∷ items → After early late before items i
after_early test [] late before items i none is e = record { more = before; before_is = refl; late_is = e }
after_early test (x ∷ xs) late [] items i none is e = absurd (let same : x ≡ i = cc in let f = sym is ∙ (ap test (sym same) ∙ none.0) in cc)
after_early test (x ∷ xs) late (y ∷ before) items i none is e =
    let rest = after_early test xs late before items i none.1 is (cc) in
    let same : x ≡ y = cc in
    record { more = rest.more; before_is = (let f = rest.before_is in cc); late_is = rest.late_is }

-- whether an item is done once all objects are made
abbrev is_late : Item → Bool
is_late (makes place) = false
is_late (adopts place) = false
is_late item = true

-- before such an item all objects are made
late_made : (d : Definition) → Accepted d → (before items : List Item) (i : Item) → is_late i ≡ true → build_items d ≡ before ++ i ∷ items →
    After (made_items 0 d.places) (late_items d) before items i × (total is_making before ≡ objects_of d)
late_made d a before items i is e =
    let x = after_early is_late (made_items 0 d.places) (late_items d) before items i (each_made (λ i. is_late i ≡ false) (λ n. refl) (λ n. refl) 0 d.places) is e in
    let split = total_append is_making (made_items 0 d.places) x.more in
    let late = all_zero is_making (late_items d) (late_make_none d) in
    let parts = total_append is_making x.more (i ∷ items) in
    let whole = ap (total is_making) x.late_is in
    let own = ap (total is_making) x.before_is in
    let count = made_count d a 0 d.places in
    (x, omega (arith, split, late, parts, whole, own, count))

-- ** forward values

abbrev forwarding : Item → Bool
forwarding (forwards place slot to) = true
forwarding item = false

-- the object and the property that a forward value is of
pub record Of (ps : List Place) (n place slot to : ℕ) : Type 0 where
  pub k : ℕ
  pub at : place ≡ n + k
  pub p : Place
  pub here : slice_get ps k ≡ Some p
  pub object : p.is_prototype ≡ false
  pub given : GivenProperty
  pub is_given : IsIn given p.given
  pub slot_is : given.slot ≡ slot
  pub names : given.given ≡ named to
  pub later : nat_le place to ≡ true

pub record OfGiven (n : ℕ) (gs : List GivenProperty) (place slot to : ℕ) : Type 0 where
  pub place_is : place ≡ n
  pub given : GivenProperty
  pub is_given : IsIn given gs
  pub slot_is : given.slot ≡ slot
  pub names : given.given ≡ named to
  pub later : nat_le place to ≡ true

of_one : (n slot to place s : ℕ) (g : Given) → IsIn (forwards place slot to) (forward_given n s g) → (place ≡ n) × (s ≡ slot) × (g ≡ named to) × (nat_le place to ≡ true)
of_one n slot to place s (value v) h = absurd h
of_one n slot to place s (named t) h = go (nat_le n t) refl h
  where
    go : (b : Bool) → nat_le n t ≡ b → IsIn (forwards place slot to) (cond b (forwards n s t ∷ []) []) → (place ≡ n) × (s ≡ slot) × (named t ≡ named to) × (nat_le place to ≡ true)
    go false e h = absurd h
    go true e (inr h) = absurd h
    go true e (inl same) =
        let a : place ≡ n = cc in
        let b : slot ≡ s = cc in
        let c : to ≡ t = cc in
        (a, sym b, ap named (sym c), rw (a, c) e)

of_given : (n : ℕ) (gs : List GivenProperty) (place slot to : ℕ) → IsIn (forwards place slot to) (flat_map (forward_of n) gs) → OfGiven n gs place slot to
of_given n [] place slot to h = absurd h
of_given n (g ∷ gs) place slot to h = go (parts_in (forward_of n g) (flat_map (forward_of n) gs) (forwards place slot to) h) (λ h. of_given n gs place slot to h)
  where
    go : IsIn (forwards place slot to) (forward_of n g) ⊎ IsIn (forwards place slot to) (flat_map (forward_of n) gs) → (IsIn (forwards place slot to) (flat_map (forward_of n) gs) → OfGiven n gs place slot to) →
        OfGiven n (g ∷ gs) place slot to
    go (inl h) later =
        let x = of_one n slot to place g.slot g.given h in
        record { place_is = x.0; given = g; is_given = inl refl; slot_is = x.1; names = x.2; later = x.3 }
    go (inr h) later =
        let o = later h in
        record { place_is = o.place_is; given = o.given; is_given = inr o.is_given; slot_is = o.slot_is; names = o.names; later = o.later }

of_forward : (n : ℕ) (ps : List Place) (place slot to : ℕ) → IsIn (forwards place slot to) (forward_items n ps) → Of ps n place slot to
of_forward n [] place slot to h = absurd h
of_forward n (p ∷ ps) place slot to h =
    go (parts_in (cond p.is_prototype [] (flat_map (forward_of n) p.given)) (forward_items (suc n) ps) (forwards place slot to) h) (λ h. of_forward (suc n) ps place slot to h)
  where
    here : (b : Bool) → p.is_prototype ≡ b → IsIn (forwards place slot to) (cond b [] (flat_map (forward_of n) p.given)) → Of (p ∷ ps) n place slot to
    here true e h = absurd h
    here false e h =
        let x = of_given n p.given place slot to h in
        record {
          k = 0;
          at = (let s = x.place_is in omega (arith, s));
          p = p;
          here = refl;
          object = e;
          given = x.given;
          is_given = x.is_given;
          slot_is = x.slot_is;
          names = x.names;
          later = x.later;
        }

    go : IsIn (forwards place slot to) (cond p.is_prototype [] (flat_map (forward_of n) p.given)) ⊎ IsIn (forwards place slot to) (forward_items (suc n) ps) →
        (IsIn (forwards place slot to) (forward_items (suc n) ps) → Of ps (suc n) place slot to) → Of (p ∷ ps) n place slot to
    go (inl h) later = here p.is_prototype refl h
    go (inr h) later =
        let o = later h in
        record {
          k = suc o.k;
          at = (let e = o.at in omega (arith, e));
          p = o.p;
          here = o.here;
          object = o.object;
          given = o.given;
          is_given = o.is_given;
          slot_is = o.slot_is;
          names = o.names;
          later = o.later;
        }

pub forwards_follow : ForwardsFollow
forwards_follow d a before items place slot to e =
    let x = late_made d a before items (forwards place slot to) refl e in
    let there : IsIn (forwards place slot to) (late_items d) = subst (IsIn (forwards place slot to)) (sym x.0.late_is) (append_right x.0.more (forwards place slot to ∷ items) (forwards place slot to) (inl refl)) in
    let o = go (parts_in (forward_items 0 d.places) (numbered binds 0 d.bindings ++ connected_items 0 d.places) (forwards place slot to) there) in
    let at = o.at in
    let same : o.k ≡ place = omega (arith, at) in
    record {
      p = o.p;
      at = ap (slice_get d.places) (sym same) ∙ o.here;
      object = o.object;
      given = o.given;
      is_given = o.is_given;
      slot_is = o.slot_is;
      names = o.names;
      later = o.later;
      made = x.1;
    }
  where
    none_later : Each (λ i. forwarding i ≡ false) (numbered binds 0 d.bindings ++ connected_items 0 d.places)
    none_later =
        each_append (λ i. forwarding i ≡ false) (numbered binds 0 d.bindings) (connected_items 0 d.places) (each_numbered (λ i. forwarding i ≡ false) binds (λ n. refl) 0 d.bindings)
        (each_connected (λ i. forwarding i ≡ false) (λ place n. refl) 0 d.places)

    go : IsIn (forwards place slot to) (forward_items 0 d.places) ⊎ IsIn (forwards place slot to) (numbered binds 0 d.bindings ++ connected_items 0 d.places) → Of d.places 0 place slot to
    go (inl h) = of_forward 0 d.places place slot to h
    go (inr h) = absurd (let f = each_in (λ i. forwarding i ≡ false) (numbered binds 0 d.bindings ++ connected_items 0 d.places) none_later (forwards place slot to) h in cc)

-- ** bindings

abbrev binding : Item → Bool
binding (binds number) = true
binding item = false

abbrev Unbinding : Item → Type 0
Unbinding item = binding item ≡ false

unbinding_none : (i : Item) → binding i ≡ false → is_binding i ≡ 0
unbinding_none (makes place) e = refl
unbinding_none (adopts place) e = refl
unbinding_none (forwards place slot to) e = refl
unbinding_none (binds number) e = absurd (cc)
unbinding_none (connects place number) e = refl

pub record OfBind (n : ℕ) (bs : List Bind) (number : ℕ) (items : List Item) : Type 0 where
  pub k : ℕ
  pub at : number ≡ n + k
  pub bind : Bind
  pub is : slice_get bs k ≡ Some bind
  pub left : k + suc (total is_binding items) ≡ length bs

of_bind : (late : List Item) → Each Unbinding late → (n : ℕ) (bs : List Bind) (more items : List Item) (number : ℕ) → numbered binds n bs ++ late ≡ more ++ binds number ∷ items → OfBind n bs number items
of_bind late none n [] more items number e =
    absurd (let there = subst (IsIn (binds number)) (sym e) (append_right more (binds number ∷ items) (binds number) (inl refl)) in
    let f = each_in Unbinding late none (binds number) there in
    cc)
of_bind late none n (b ∷ bs) [] items number e =
    record {
      k = 0;
      at = (let same : number ≡ n = cc in omega (arith, same));
      bind = b;
      is = refl;
      left = (let rest : numbered binds (suc n) bs ++ late ≡ items = cc in
          let sum = ap (total is_binding) rest in
          let split = total_append is_binding (numbered binds (suc n) bs) late in
          let count = bind_count (suc n) bs in
          let zero = all_zero is_binding late (none_each late none) in
          omega (arith, sum, split, count, zero));
    }
  where
    none_each : (xs : List Item) → Each Unbinding xs → Each (λ i. is_binding i ≡ 0) xs
    none_each [] all = tt
    none_each (x ∷ xs) all = (unbinding_none x all.0, none_each xs all.1)
of_bind late none n (b ∷ bs) (m ∷ more) items number e =
    let o = of_bind late none (suc n) bs more items number (cc) in
    record { k = suc o.k; at = (let at = o.at in omega (arith, at)); bind = o.bind; is = o.is; left = (let left = o.left in omega (arith, left)) }

pub bindings_follow : BindingsFollow
bindings_follow d a before items number e =
    let x = late_made d a before items (binds number) refl e in
    let y = after_early binding (forward_items 0 d.places) (numbered binds 0 d.bindings ++ connected_items 0 d.places) x.0.more items (binds number) (each_forward Unbinding (λ n slot to. refl) 0 d.places) refl x.0.late_is in
    let o = of_bind (connected_items 0 d.places) (each_connected Unbinding (λ place n. refl) 0 d.places) 0 d.bindings y.more items number y.late_is in
    let at = o.at in
    let same : o.k ≡ number = omega (arith, at) in
    record { bind = o.bind; is = ap (slice_get d.bindings) (sym same) ∙ o.is; next = (let left = o.left in omega (arith, left, same)); made = x.1 }

-- ** adoptions

abbrev adopting : Item → Bool
adopting (adopts place) = true
adopting item = false

abbrev Unadopting : Item → Type 0
Unadopting item = adopting item ≡ false

pub record OfAdopt (ps : List Place) (n place : ℕ) (before : List Item) : Type 0 where
  pub k : ℕ
  pub p : Place
  pub is : slice_get ps k ≡ Some p
  pub object : p.is_prototype ≡ false
  pub above : ℕ
  pub parent : p.parent ≡ Some above
  pub at : place ≡ n + k
  pub count : total is_making before ≡ suc k

of_adopt : (late : List Item) → Each Unadopting late → (n : ℕ) (ps : List Place) → InOrder ps → (before items : List Item) (place : ℕ) → made_items n ps ++ late ≡ before ++ adopts place ∷ items → OfAdopt ps n place before
of_adopt late all n [] order before items place e =
    absurd (let there = subst (IsIn (adopts place)) (sym e) (append_right before (adopts place ∷ items) (adopts place) (inl refl)) in
    let f = each_in Unadopting late all (adopts place) there in
    cc)
of_adopt late all n (p ∷ ps) order before items place e =
    go p.is_prototype p.parent refl refl before e (of_adopt late all (suc n) ps (λ j k x y a b u v. (let h = order (suc j) (suc k) x y a b u v in omega (arith, h))))
  where
    Rec : Type 0
    Rec = (before items : List Item) (place : ℕ) → made_items (suc n) ps ++ late ≡ before ++ adopts place ∷ items → OfAdopt ps (suc n) place before

    -- one further on, behind what is counted here
    further : (before more : List Item) (count : total is_making before ≡ suc (total is_making more)) → OfAdopt ps (suc n) place more → OfAdopt (p ∷ ps) n place before
    further before more count h = record {
      k = suc h.k;
      p = h.p;
      is = h.is;
      object = h.object;
      above = h.above;
      parent = h.parent;
      at = (let at = h.at in omega (arith, at));
      count = (let old = h.count in omega (arith, count, old));
    }

    behind : (o : Option ℕ) → p.is_prototype ≡ false → p.parent ≡ o → (before : List Item) → adopts_if n o ++ (made_items (suc n) ps ++ late) ≡ before ++ adopts place ∷ items → Rec → (first : Item) →
        is_making first ≡ 1 → OfAdopt (p ∷ ps) n place (first ∷ before)
    behind None object parent before e rec first one = further (first ∷ before) before (omega (arith, one)) (rec before items place e)
    behind (Some above) object parent [] e rec first one = record {
      k = 0;
      p = p;
      is = refl;
      object = object;
      above = above;
      parent = parent;
      at = (let same : n ≡ place = cc in omega (arith, same));
      count = omega (arith, one);
    }
    behind (Some above) object parent (z ∷ before) e rec first one =
        let same : adopts n ≡ z = cc in
        let none = ap is_making same in
        further (first ∷ z ∷ before) before (omega (arith, one, none)) (rec before items place (cc))

    go : (b : Bool) (o : Option ℕ) → p.is_prototype ≡ b → p.parent ≡ o → (before : List Item) → (cond b [] (makes n ∷ adopts_if n o) ++ made_items (suc n) ps) ++ late ≡ before ++ adopts place ∷ items → Rec →
        OfAdopt (p ∷ ps) n place before
    go true o proto parent before e rec =
        let h = rec before items place e in
        absurd (let low = order 0 (suc h.k) p h.p refl h.is proto h.object in omega (arith, low))
    go false o proto parent [] e rec = absurd (let same : makes n ≡ adopts place = cc in let f = ap adopting same in cc)
    go false o proto parent (y ∷ before) e rec =
        let same : makes n ≡ y = cc in
        let one = ap is_making same in
        behind o proto parent before (let f : (adopts_if n o ++ made_items (suc n) ps) ++ late ≡ before ++ adopts place ∷ items = cc in sym (grouped (adopts_if n o) (made_items (suc n) ps) late) ∙ f) rec y (sym one)
      where
        grouped : (xs ys zs : List Item) → (xs ++ ys) ++ zs ≡ xs ++ (ys ++ zs)
        grouped [] ys zs = refl
        grouped (x ∷ xs) ys zs = ap (λ (ws : List Item). x ∷ ws) (grouped xs ys zs)

pub adopts_follow : AdoptsFollow
adopts_follow d well before items place e =
    let o = of_adopt (late_items d) none_late 0 d.places (λ j k p q a b u v. well.order j k p q a b u v) before items place e in
    let at = o.at in
    let same : o.k ≡ place = omega (arith, at) in
    record {
      p = o.p;
      at = ap (slice_get d.places) (sym same) ∙ o.is;
      object = o.object;
      above = o.above;
      parent = o.parent;
      made = (let count = o.count in omega (arith, count, same));
    }
  where
    none_late : Each Unadopting (late_items d)
    none_late =
        each_append Unadopting (forward_items 0 d.places) (numbered binds 0 d.bindings ++ connected_items 0 d.places) (each_forward Unadopting (λ n slot to. refl) 0 d.places)
        (each_append Unadopting (numbered binds 0 d.bindings) (connected_items 0 d.places) (each_numbered Unadopting binds (λ n. refl) 0 d.bindings) (each_connected Unadopting (λ place n. refl) 0 d.places))
