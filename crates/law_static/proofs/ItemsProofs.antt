-- The build's items for signals.
use Rattle.std.proofs.Common.{◌≡◌, inl, inr, ◌⊎◌, refl, sym, ap, subst, ◌∙◌, ℕ, suc, ◌+◌, Bool, true, false, cond, List, [], ◌∷◌, ◌++◌, Option, None, Some, slice_get, arith}
use Rattle.std.specs.Prelude.{nat_le}
use Rattle.std.specs.List.{flat_map}
use Rattle.ui_machine.specs.Seq.{total}
use Rattle.ui_machine.specs.Definition.Places.{Given, value, named, Attached, Place}
use Rattle.ui_machine.specs.State.Tasks.{Item, makes, forwards, binds, connects}
use Rattle.ui_machine.specs.Rules.Build.{adopts_if, made_items, forward_given, forward_of, forward_items, numbered, connected_items, is_making, build_items}
use Rattle.law_typing.specs.Verdict.Accepted.{Each}
use Rattle.law_typing.specs.Laws.{IsIn}
use Rattle.law_typing.proofs.Lists.{each_append, each_flat}
use Rattle.law_typing.proofs.EdgeProofs.{append_right}
use Rattle.law_static.specs.Items.{SignalsComeLast}
use Rattle.law_static.proofs.BuildCostProofs.{made_count, forwarded, bound, connected_none, from_first}
use Rattle.law_static.proofs.PlanCostProofs.{total_append}

-- ** which items connect

abbrev connecting : Item → Bool
connecting (connects place number) = true
connecting item = false

abbrev Plain : Item → Type 0
Plain item = connecting item ≡ false

made_plain : (n : ℕ) (ps : List Place) → Each Plain (made_items n ps)
made_plain n [] = tt
made_plain n (p ∷ ps) = each_append Plain (cond p.is_prototype [] (makes n ∷ adopts_if n p.parent)) (made_items (suc n) ps) (go p.is_prototype p.parent) (made_plain (suc n) ps)
  where
    go : (b : Bool) (o : Option ℕ) → Each Plain (cond b [] (makes n ∷ adopts_if n o))
    go true o = tt
    go false None = (refl, tt)
    go false (Some above) = (refl, (refl, tt))

forward_plain : (n : ℕ) (ps : List Place) → Each Plain (forward_items n ps)
forward_plain n [] = tt
forward_plain n (p ∷ ps) = each_append Plain (cond p.is_prototype [] (flat_map (forward_of n) p.given)) (forward_items (suc n) ps) (go p.is_prototype) (forward_plain (suc n) ps)
  where
    one : (slot : ℕ) (g : Given) → Each Plain (forward_given n slot g)
    one slot (value v) = tt
    one slot (named to) = by (nat_le n to)
      where
        by : (b : Bool) → Each Plain (cond b (forwards n slot to ∷ []) [])
        by true = (refl, tt)
        by false = tt

    go : (b : Bool) → Each Plain (cond b [] (flat_map (forward_of n) p.given))
    go true = tt
    go false = each_flat Plain (forward_of n) p.given (λ g h. one g.slot g.given)

bound_plain : {A : Type 0} (n : ℕ) (xs : List A) → Each Plain (numbered binds n xs)
bound_plain n [] = tt
bound_plain n (x ∷ xs) = (refl, bound_plain (suc n) xs)

-- ** where such an item is

later_in : (early late : List Item) (i : Item) → Each Plain early → connecting i ≡ true → IsIn i (early ++ late) → IsIn i late
later_in [] late i plain is h = h
later_in (x ∷ xs) late i plain is (inl e) = absurd (let f = sym is ∙ (ap connecting e ∙ plain.0) in cc)
later_in (x ∷ xs) late i plain is (inr h) = later_in xs late i plain.1 is h

-- what comes after it is among the late ones
nothing_after : (f : Item → ℕ) (early late before items : List Item) (i : Item) → early ++ late ≡ before ++ i ∷ items → Each Plain early → connecting i ≡ true → total f late ≡ 0 → total f items ≡ 0
nothing_after f [] late before items i e plain is none =
    let split = total_append f before (i ∷ items) in
    let same = ap (total f) e in
    omega (arith, split, same, none)
nothing_after f (x ∷ xs) late [] items i e plain is none = absurd (let same : x ≡ i = cc in let g = sym is ∙ (ap connecting (sym same) ∙ plain.0) in cc)
nothing_after f (x ∷ xs) late (y ∷ before) items i e plain is none = nothing_after f xs late before items i (cc) plain.1 is none

of_signals : (q : ℕ) (n : ℕ) (xs : List Attached) (place number : ℕ) → IsIn (connects place number) (numbered (connects q) n xs) → (place ≡ q) × (k : ℕ) × (number ≡ n + k) × (x : Attached) × (slice_get xs k ≡ Some x)
of_signals q n [] place number h = absurd h
of_signals q n (x ∷ xs) place number (inl e) = ((let s : place ≡ q = cc in s), 0, (let s : number ≡ n = cc in omega (arith, s)), x, refl)
of_signals q n (x ∷ xs) place number (inr h) =
    let k = of_signals q (suc n) xs place number h in
    (k.0, suc k.1, (let m = k.2 in omega (arith, m)), k.3, k.4)

pub parts_in : (xs ys : List Item) (i : Item) → IsIn i (xs ++ ys) → IsIn i xs ⊎ IsIn i ys
parts_in [] ys i h = inr h
parts_in (x ∷ xs) ys i (inl e) = inl (inl e)
parts_in (x ∷ xs) ys i (inr h) = go (parts_in xs ys i h)
  where
    go : IsIn i xs ⊎ IsIn i ys → IsIn i (x ∷ xs) ⊎ IsIn i ys
    go (inl k) = inl (inr k)
    go (inr k) = inr k

-- the place and the signal of an item
pub record Of (ps : List Place) (n place number : ℕ) : Type 0 where
  pub k : ℕ
  pub at : place ≡ n + k
  pub p : Place
  pub here : slice_get ps k ≡ Some p
  pub x : Attached
  pub is : slice_get p.signals number ≡ Some x

of_connected : (n : ℕ) (ps : List Place) (place number : ℕ) → IsIn (connects place number) (connected_items n ps) → Of ps n place number
of_connected n [] place number h = absurd h
of_connected n (p ∷ ps) place number h = go (parts_in (numbered (connects n) 0 p.signals) (connected_items (suc n) ps) (connects place number) h) (λ h. of_connected (suc n) ps place number h)
  where
    go : IsIn (connects place number) (numbered (connects n) 0 p.signals) ⊎ IsIn (connects place number) (connected_items (suc n) ps) →
        (IsIn (connects place number) (connected_items (suc n) ps) → Of ps (suc n) place number) → Of (p ∷ ps) n place number
    go (inl h) later =
        let x = of_signals n 0 p.signals place number h in
        let m = x.2 in
        let same : x.1 ≡ number = omega (arith, m) in
        record { k = 0; at = (let e = x.0 in omega (arith, e)); p = p; here = refl; x = x.3; is = ap (slice_get p.signals) (sym same) ∙ x.4 }
    go (inr h) later =
        let o = later h in
        record { k = suc o.k; at = (let e = o.at in omega (arith, e)); p = o.p; here = o.here; x = o.x; is = o.is }

pub signals_come_last : SignalsComeLast
signals_come_last d a before items place number e =
    let l1 = made_items 0 d.places in
    let l2 = forward_items 0 d.places in
    let l3 = numbered binds 0 d.bindings in
    let l4 = connected_items 0 d.places in
    let there : IsIn (connects place number) (build_items d) = subst (IsIn (connects place number)) (sym e) (append_right before (connects place number ∷ items) (connects place number) (inl refl)) in
    let late = later_in l3 l4 (connects place number) (bound_plain 0 d.bindings) refl (later_in l2 (l3 ++ l4) (connects place number) (forward_plain 0 d.places) refl (later_in l1 (l2 ++ (l3 ++ l4)) (connects place number) (made_plain 0 d.places) refl there)) in
    let o = of_connected 0 d.places place number late in
    let at = o.at in
    let same : o.k ≡ place = omega (arith, at) in
    let mc = made_count d a 0 d.places in
    let f1 = (forwarded d a 0 d.places).1 in
    let b1 = (bound d a 0 d.bindings (from_first d a d.bindings)).1 in
    let k1 = (connected_none d a 0 d.places).1 in
    let u1 = total_append is_making l1 (l2 ++ (l3 ++ l4)) in
    let u2 = total_append is_making l2 (l3 ++ l4) in
    let u3 = total_append is_making l3 l4 in
    let rest : total is_making items ≡ 0 = nothing_after is_making l1 (l2 ++ (l3 ++ l4)) before items (connects place number) e (made_plain 0 d.places) refl (omega (arith, f1, b1, k1, u2, u3)) in
    let split = total_append is_making before (connects place number ∷ items) in
    let whole = ap (total is_making) e in
    record {
      p = o.p;
      x = o.x;
      attached = record { at = ap (slice_get d.places) (sym same) ∙ o.here; is = o.is };
      made = omega (arith, mc, f1, b1, k1, u1, u2, u3, rest, split, whole);
    }
