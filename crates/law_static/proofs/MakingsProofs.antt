-- The build's items for objects.
use Rattle.std.proofs.Common.{◌≡◌, inl, refl, sym, ap, subst, ◌∙◌, ℕ, suc, ◌+◌, ◌<◌, ◌≤◌, Bool, true, false, cond, List, [], ◌∷◌, ◌++◌, length, map, Option, None, Some, slice_get, arith}
use Rattle.std.specs.Prelude.{nat_eq, nat_le, option_map}
use Rattle.std.specs.List.{filter, flat_map}
use Rattle.std.proofs.lemmas.Bool.{eqb-true}
use Rattle.ui_machine.specs.Seq.{total}
use Rattle.ui_machine.specs.Definition.{Definition}
use Rattle.ui_machine.specs.Definition.Places.{Given, value, named, Attached, Place}
use Rattle.ui_machine.specs.Definition.Lookups.{place_at}
use Rattle.ui_machine.specs.State.Tasks.{Item, makes, adopts, forwards, binds, connects}
use Rattle.ui_machine.specs.Rules.Build.{adopts_if, made_items, forward_given, forward_of, forward_items, numbered, connected_items, is_making}
use Rattle.law_typing.specs.Rules.RegisterKinds.{class_at}
use Rattle.law_typing.specs.Graph.Channels.{Channel, constructed, property, signal, of_class}
use Rattle.law_typing.specs.Graph.{Raised, place_of_channel, can_mean, signals_of, attached_to, attached_for, handlers_for}
use Rattle.law_typing.specs.Graph.Tables.{Tables, of_program}
use Rattle.law_typing.specs.Graph.Costs.{programs_cost}
use Rattle.law_typing.specs.Verdict.Accepted.{Each}
use Rattle.law_typing.specs.Laws.{IsIn}
use Rattle.law_typing.specs.Good.Bindings.{is_binding}
use Rattle.law_typing.specs.Good.Handlers.{connecting_cost}
use Rattle.law_typing.proofs.Lists.{each_append, each_flat, each_in}
use Rattle.law_typing.proofs.EdgeProofs.{append_right}
use Rattle.law_static.specs.Makings.{ObjectsComeFirst, ItemsCostLess, AllAreMade}
use Rattle.law_static.proofs.BuildCostProofs.{made_count}
use Rattle.law_static.proofs.MeansProofs.{raised_known}
use Rattle.law_static.proofs.PlanCostProofs.{total_append}

-- ** what holds of each item

module _ (P : Item → Type 0) where
  pub each_made : ((n : ℕ) → P (makes n)) → ((n : ℕ) → P (adopts n)) → (n : ℕ) (ps : List Place) → Each P (made_items n ps)
  each_made mk ad n [] = tt
  each_made mk ad n (p ∷ ps) = each_append P (cond p.is_prototype [] (makes n ∷ adopts_if n p.parent)) (made_items (suc n) ps) (go p.is_prototype p.parent) (each_made mk ad (suc n) ps)
    where
      go : (b : Bool) (o : Option ℕ) → Each P (cond b [] (makes n ∷ adopts_if n o))
      go true o = tt
      go false None = (mk n, tt)
      go false (Some above) = (mk n, (ad n, tt))

  pub each_forward : ((n slot to : ℕ) → P (forwards n slot to)) → (n : ℕ) (ps : List Place) → Each P (forward_items n ps)
  each_forward fw n [] = tt
  each_forward fw n (p ∷ ps) = each_append P (cond p.is_prototype [] (flat_map (forward_of n) p.given)) (forward_items (suc n) ps) (go p.is_prototype) (each_forward fw (suc n) ps)
    where
      one : (slot : ℕ) (g : Given) → Each P (forward_given n slot g)
      one slot (value v) = tt
      one slot (named to) = by (nat_le n to)
        where
          by : (b : Bool) → Each P (cond b (forwards n slot to ∷ []) [])
          by true = (fw n slot to, tt)
          by false = tt

      go : (b : Bool) → Each P (cond b [] (flat_map (forward_of n) p.given))
      go true = tt
      go false = each_flat P (forward_of n) p.given (λ g h. one g.slot g.given)

  pub each_numbered : {A : Type 0} (item : ℕ → Item) → ((n : ℕ) → P (item n)) → (n : ℕ) (xs : List A) → Each P (numbered item n xs)
  each_numbered item h n [] = tt
  each_numbered item h n (x ∷ xs) = (h n, each_numbered item h (suc n) xs)

  pub each_connected : ((place n : ℕ) → P (connects place n)) → (n : ℕ) (ps : List Place) → Each P (connected_items n ps)
  each_connected h n [] = tt
  each_connected h n (p ∷ ps) = each_append P (numbered (connects n) 0 p.signals) (connected_items (suc n) ps) (each_numbered (connects n) (h n) 0 p.signals) (each_connected h (suc n) ps)

pub all_zero : (f : Item → ℕ) (xs : List Item) → Each (λ i. f i ≡ 0) xs → total f xs ≡ 0
all_zero f [] all = refl
all_zero f (x ∷ xs) all = let h = all_zero f xs all.1 in let z = all.0 in omega (arith, h, z)

abbrev pub Later : Item → Type 0
Later item = is_making item ≡ 0

abbrev pub late_items : Definition → List Item
late_items d = forward_items 0 d.places ++ (numbered binds 0 d.bindings ++ connected_items 0 d.places)

-- after the objects no object is made
pub late_make_none : (d : Definition) → Each Later (late_items d)
late_make_none d =
    each_append Later (forward_items 0 d.places) (numbered binds 0 d.bindings ++ connected_items 0 d.places) (each_forward Later (λ n slot to. refl) 0 d.places)
    (each_append Later (numbered binds 0 d.bindings) (connected_items 0 d.places) (each_numbered Later binds (λ n. refl) 0 d.bindings) (each_connected Later (λ place n. refl) 0 d.places))

not_late : (late before items : List Item) (place : ℕ) → Each Later late → late ≡ before ++ makes place ∷ items → ⊥
not_late late before items place all e =
    let there = subst (IsIn (makes place)) (sym e) (append_right before (makes place ∷ items) (makes place) (inl refl)) in
    let f = each_in Later late all (makes place) there in
    cc

-- what comes before it is among the items of the objects
less_before : (f : Item → ℕ) (early late before items : List Item) (place : ℕ) → Each Later late → early ++ late ≡ before ++ makes place ∷ items → total f before ≤ total f early
less_before f [] late before items place all e = absurd (not_late late before items place all e)
less_before f (x ∷ xs) late [] items place all e = omega arith
less_before f (x ∷ xs) late (y ∷ before) items place all e =
    let rest = less_before f xs late before items place all (cc) in
    let same : x ≡ y = cc in
    let own = ap f same in
    omega (arith, rest, own)

-- ** the order of objects

pub record Among (ps : List Place) (n place : ℕ) (before : List Item) : Type 0 where
  pub k : ℕ
  pub p : Place
  pub is : slice_get ps k ≡ Some p
  pub object : p.is_prototype ≡ false
  pub at : place ≡ n + k
  pub count : total is_making before ≡ k

abbrev pub InOrder : List Place → Type 0
InOrder ps = (j k : ℕ) (p q : Place) → slice_get ps j ≡ Some p → slice_get ps k ≡ Some q → p.is_prototype ≡ true → q.is_prototype ≡ false → k < j

among : (late : List Item) → Each Later late → (n : ℕ) (ps : List Place) → InOrder ps → (before items : List Item) (place : ℕ) → made_items n ps ++ late ≡ before ++ makes place ∷ items → Among ps n place before
among late all n [] order before items place e = absurd (not_late late before items place all e)
among late all n (p ∷ ps) order before items place e = go p.is_prototype p.parent refl before e (among late all (suc n) ps (λ j k x y a b u v. (let h = order (suc j) (suc k) x y a b u v in omega (arith, h))))
  where
    Rec : Type 0
    Rec = (before items : List Item) (place : ℕ) → made_items (suc n) ps ++ late ≡ before ++ makes place ∷ items → Among ps (suc n) place before

    -- one further on, behind what is counted here
    further : (before more : List Item) (count : total is_making before ≡ suc (total is_making more)) → Among ps (suc n) place more → Among (p ∷ ps) n place before
    further before more count h = record {
      k = suc h.k;
      p = h.p;
      is = h.is;
      object = h.object;
      at = (let at = h.at in omega (arith, at));
      count = (let old = h.count in omega (arith, count, old));
    }

    behind : (o : Option ℕ) (before : List Item) → adopts_if n o ++ (made_items (suc n) ps ++ late) ≡ before ++ makes place ∷ items → Rec → (first : Item) → is_making first ≡ 1 → Among (p ∷ ps) n place (first ∷ before)
    behind None before e rec first one = further (first ∷ before) before (omega (arith, one)) (rec before items place e)
    behind (Some above) [] e rec first one = absurd (let same : adopts n ≡ makes place = cc in let f = ap is_making same in cc)
    behind (Some above) (z ∷ before) e rec first one =
        let same : adopts n ≡ z = cc in
        let none = ap is_making same in
        further (first ∷ z ∷ before) before (omega (arith, one, none)) (rec before items place (cc))

    go : (b : Bool) (o : Option ℕ) → p.is_prototype ≡ b → (before : List Item) → (cond b [] (makes n ∷ adopts_if n o) ++ made_items (suc n) ps) ++ late ≡ before ++ makes place ∷ items → Rec → Among (p ∷ ps) n place before
    go true o proto before e rec =
        let h = rec before items place e in
        absurd (let low = order 0 (suc h.k) p h.p refl h.is proto h.object in omega (arith, low))
    go false o proto [] e rec =
        record { k = 0; p = p; is = refl; object = proto; at = (let same : makes n ≡ makes place = cc in let f : n ≡ place = ap place_of same in omega (arith, f)); count = refl }
      where
        place_of : Item → ℕ
        place_of (makes q) = q
        place_of _ = 0
    go false o proto (y ∷ before) e rec =
        let same : makes n ≡ y = cc in
        let one = ap is_making same in
        behind o before (let f : (adopts_if n o ++ made_items (suc n) ps) ++ late ≡ before ++ makes place ∷ items = cc in sym (grouped (adopts_if n o) (made_items (suc n) ps) late) ∙ f) rec y (sym one)
      where
        grouped : (xs ys zs : List Item) → (xs ++ ys) ++ zs ≡ xs ++ (ys ++ zs)
        grouped [] ys zs = refl
        grouped (x ∷ xs) ys zs = ap (λ (ws : List Item). x ∷ ws) (grouped xs ys zs)

pub bind_count : {A : Type 0} (n : ℕ) (xs : List A) → total is_binding (numbered binds n xs) ≡ length xs
bind_count n [] = refl
bind_count n (x ∷ xs) = let h = bind_count (suc n) xs in omega (arith, h)

pub objects_come_first : ObjectsComeFirst
objects_come_first d well before items place e =
    let l1 = made_items 0 d.places in
    let l2 = forward_items 0 d.places in
    let l3 = numbered binds 0 d.bindings in
    let l4 = connected_items 0 d.places in
    let m = among (late_items d) (late_make_none d) 0 d.places (λ j k p q a b u v. well.order j k p q a b u v) before items place e in
    let at = m.at in
    let same : m.k ≡ place = omega (arith, at) in
    let less = less_before is_binding l1 (late_items d) before items place (late_make_none d) e in
    let z1 = all_zero is_binding l1 (each_made (λ i. is_binding i ≡ 0) (λ n. refl) (λ n. refl) 0 d.places) in
    let z2 = all_zero is_binding l2 (each_forward (λ i. is_binding i ≡ 0) (λ n slot to. refl) 0 d.places) in
    let z4 = all_zero is_binding l4 (each_connected (λ i. is_binding i ≡ 0) (λ place n. refl) 0 d.places) in
    let count = bind_count 0 d.bindings in
    let u1 = total_append is_binding l1 (l2 ++ (l3 ++ l4)) in
    let u2 = total_append is_binding l2 (l3 ++ l4) in
    let u3 = total_append is_binding l3 l4 in
    let split = total_append is_binding before (makes place ∷ items) in
    let whole = ap (total is_binding) e in
    record {
      object = (m.p, ap (slice_get d.places) (sym same) ∙ m.is, m.object);
      order = (let c = m.count in omega (arith, c, same));
      bindings = omega (arith, less, z1, z2, z4, count, u1, u2, u3, split, whole);
    }

-- ** what is connected later

module _ (d : Definition) (costs : Tables) (c : Channel) where
  abbrev f : Item → ℕ
  f item = connecting_cost d costs c item

  apart : (q m : ℕ) → nat_eq (place_of_channel c) q ≡ false → f (connects q m) ≡ 0
  apart q m e = rw e refl

  own : (q m : ℕ) (p : Place) (x : Attached) → nat_eq (place_of_channel c) q ≡ true → place_at d q ≡ Some p → slice_get p.signals m ≡ Some x →
      f (connects q m) ≡ cond (can_mean d p.class c x.signal x.detail) (of_program costs x.program) 0
  own q m p x e at is = rw (e, at, is) refl

  none_apart : (q n : ℕ) (xs : List Attached) → nat_eq (place_of_channel c) q ≡ false → total f (numbered (connects q) n xs) ≡ 0
  none_apart q n xs e = all_zero f (numbered (connects q) n xs) (each_numbered (λ i. f i ≡ 0) (connects q) (λ m. apart q m e) n xs)

  all_own : (q : ℕ) (p : Place) → nat_eq (place_of_channel c) q ≡ true → place_at d q ≡ Some p → (n : ℕ) (xs : List Attached) → ((i : ℕ) (x : Attached) → slice_get xs i ≡ Some x → slice_get p.signals (n + i) ≡ Some x) →
      total f (numbered (connects q) n xs) ≡ programs_cost costs (map (λ (a : Attached). a.program) (filter (λ (a : Attached). can_mean d p.class c a.signal a.detail) xs))
  all_own q p e at n [] same = refl
  all_own q p e at n (x ∷ xs) same =
      let here : slice_get p.signals n ≡ Some x = (let s : n ≡ n + 0 = omega arith in ap (slice_get p.signals) s ∙ same 0 x refl) in
      let first = own q n p x e at here in
      let rest = all_own q p e at (suc n) xs (λ i y is. (let s : suc n + i ≡ n + suc i = omega arith in ap (slice_get p.signals) s ∙ same (suc i) y is)) in
      let split = go (can_mean d p.class c x.signal x.detail) in
      omega (arith, first, rest, split)
    where
      passing : List Attached
      passing = filter (λ (a : Attached). can_mean d p.class c a.signal a.detail) xs

      go : (b : Bool) → programs_cost costs (map (λ (a : Attached). a.program) (cond b (x ∷ passing) passing)) ≡ cond b (of_program costs x.program) 0 + programs_cost costs (map (λ (a : Attached). a.program) passing)
      go true = refl
      go false = omega arith

  none_above : (n : ℕ) (ps : List Place) → place_of_channel c < n → total f (connected_items n ps) ≡ 0
  none_above n [] low = refl
  none_above n (p ∷ ps) low =
      let rest = none_above (suc n) ps (omega (arith, low)) in
      let first = none_apart n 0 p.signals (by (nat_eq (place_of_channel c) n) refl) in
      let split = total_append f (numbered (connects n) 0 p.signals) (connected_items (suc n) ps) in
      omega (arith, rest, first, split)
    where
      by : (b : Bool) → nat_eq (place_of_channel c) n ≡ b → nat_eq (place_of_channel c) n ≡ false
      by true e = absurd (let s = eqb-true (place_of_channel c) n e in omega (arith, s, low))
      by false e = e

  -- what an object's signals cost is part of what runs there
  of_class_less : (e : Channel) (class : ℕ) → class_at d (place_of_channel e) ≡ Some class → programs_cost costs (attached_for d e class) ≤ programs_cost costs (handlers_for d e)
  of_class_less (property q slot) class is = let same = ap (λ o. programs_cost costs (of_class (attached_for d (property q slot)) o)) is in omega (arith, same)
  of_class_less (signal q n) class is = let same = ap (λ o. programs_cost costs (of_class (attached_for d (signal q n)) o)) is in omega (arith, same)
  of_class_less (constructed q) class is = let none = nothing (attached_to d q) in omega (arith, none)
    where
      nothing : (xs : List Attached) → programs_cost costs (map (λ (a : Attached). a.program) (filter (λ (a : Attached). can_mean d class (constructed q) a.signal a.detail) xs)) ≡ 0
      nothing [] = refl
      nothing (x ∷ xs) = nothing xs

  all_places : (n : ℕ) (ps : List Place) → ((i : ℕ) (p : Place) → slice_get ps i ≡ Some p → place_at d (n + i) ≡ Some p) → total f (connected_items n ps) ≤ programs_cost costs (handlers_for d c)
  all_places n [] at = omega arith
  all_places n (p ∷ ps) at =
      go (nat_eq (place_of_channel c) n) refl (all_places (suc n) ps (λ i q is. (let s : suc n + i ≡ n + suc i = omega arith in ap (place_at d) s ∙ at (suc i) q is)))
    where
      here : place_at d n ≡ Some p
      here = let s : n ≡ n + 0 = omega arith in ap (place_at d) s ∙ at 0 p refl

      go : (b : Bool) → nat_eq (place_of_channel c) n ≡ b → total f (connected_items (suc n) ps) ≤ programs_cost costs (handlers_for d c) →
          total f (numbered (connects n) 0 p.signals ++ connected_items (suc n) ps) ≤ programs_cost costs (handlers_for d c)
      go false e rest =
          let first = none_apart n 0 p.signals e in
          let split = total_append f (numbered (connects n) 0 p.signals) (connected_items (suc n) ps) in
          omega (arith, first, split, rest)
      go true e rest =
          let same = eqb-true (place_of_channel c) n e in
          let first = all_own n p e here 0 p.signals (λ i x is. (let s : i ≡ 0 + i = omega arith in sym (ap (slice_get p.signals) s) ∙ is)) in
          let none = none_above (suc n) ps (omega (arith, same)) in
          let split = total_append f (numbered (connects n) 0 p.signals) (connected_items (suc n) ps) in
          let there : place_at d (place_of_channel c) ≡ Some p = ap (place_at d) same ∙ here in
          let class = ap (option_map (λ (p : Place). p.class)) there in
          let own_signals = ap (λ o. programs_cost costs (map (λ (a : Attached). a.program) (filter (λ (a : Attached). can_mean d p.class c a.signal a.detail) (signals_of o)))) there in
          let less = of_class_less c p.class class in
          omega (arith, first, none, split, own_signals, less)

pub items_cost_less : ItemsCostLess
items_cost_less d costs before items e r there =
    let known = raised_known d r there in
    let c = r.channel in
    let l1 = made_items 0 d.places in
    let l2 = forward_items 0 d.places in
    let l3 = numbered binds 0 d.bindings in
    let l4 = connected_items 0 d.places in
    let g = connecting_cost d costs c in
    let z1 = all_zero g l1 (each_made (λ i. g i ≡ 0) (λ n. refl) (λ n. refl) 0 d.places) in
    let z2 = all_zero g l2 (each_forward (λ i. g i ≡ 0) (λ n slot to. refl) 0 d.places) in
    let z3 = all_zero g l3 (each_numbered (λ i. g i ≡ 0) binds (λ n. refl) 0 d.bindings) in
    let most = all_places d costs c 0 d.places (λ i p is. (let s : 0 + i ≡ i = omega arith in ap (place_at d) s ∙ is)) in
    let u1 = total_append g l1 (l2 ++ (l3 ++ l4)) in
    let u2 = total_append g l2 (l3 ++ l4) in
    let u3 = total_append g l3 l4 in
    let split = total_append g before items in
    let whole = ap (total g) e in
    let own = ap (λ (y : Raised). programs_cost costs y.handlers) known.0 in
    omega (arith, z1, z2, z3, most, u1, u2, u3, split, whole, own)

pub all_are_made : AllAreMade
all_are_made d a =
    let l1 = made_items 0 d.places in
    let l2 = forward_items 0 d.places in
    let l3 = numbered binds 0 d.bindings in
    let l4 = connected_items 0 d.places in
    let count = made_count d a 0 d.places in
    let late = all_zero is_making (late_items d) (late_make_none d) in
    let u1 = total_append is_making l1 (late_items d) in
    omega (arith, count, late, u1)
