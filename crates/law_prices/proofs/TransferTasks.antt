-- A due transfer: nothing is set, or the value is due at the other end, over which nothing comes back.
use Rattle.std.proofs.Common.{◌≡◌, inl, inr, refl, sym, ap, ◌∙◌, ℕ, zero, suc, ◌+◌, ◌≤◌, Bool, true, false, cond, List, [], ◌∷◌, ◌++◌, Option, None, Some, Ok, slice_get, arith}
use Rattle.std.specs.Prelude.{nat_eq, not}
use Rattle.std.proofs.lemmas.Bool.{eq-eqb, eqb-true}
use Rattle.ui_machine.specs.declared.arm.Arm.{Arm}
use Rattle.ui_machine.specs.declared.arm.Arm.TheVariants as arms
use Rattle.ui_machine.specs.Seq.{total}
use Rattle.ui_machine.specs.Definition.{Definition}
use Rattle.ui_machine.specs.Definition.Places.{Bind}
use Rattle.ui_machine.specs.Definition.Properties.{is_construct_only, is_readable, is_writable}
use Rattle.ui_machine.specs.Definition.Values.{Value}
use Rattle.ui_machine.specs.Outcome.{only_if}
use Rattle.ui_machine.specs.Rules.Sets.{spec_at}
use Rattle.ui_machine.specs.Rules.Transfers.{End, carried, carried_by, inverted, inverts, set_by, source_end, target_end, transferring}
use Rattle.ui_machine.specs.Rules.Transform.{transformed}
use Rattle.ui_machine.specs.State.Bindings.{Binding, binding_of, with_busy}
use Rattle.ui_machine.specs.State.Config.{Started}
use Rattle.ui_machine.specs.State.Objects.{asked, value_at}
use Rattle.ui_machine.specs.State.Tasks.{Setting, Task, Transferring, Unsetting}
use Rattle.ui_machine.specs.Steps.{counted}
use Rattle.law_typing.specs.Good.Bindings.{BindingGood}
use Rattle.law_typing.specs.Good.DueCosts.{has_end, unsets}
use Rattle.law_typing.specs.Good.Standing.{standing}
use Rattle.law_typing.specs.Graph.Channels.{Channel, is_pair, property, source_of, target_of}
use Rattle.law_typing.specs.Graph.Tables.{Tables, entry}
use Rattle.law_typing.specs.Laws.{IsIn}
use Rattle.law_typing.specs.Rules.BindingRules.{shares_end}
use Rattle.law_typing.specs.Verdict.Accepted.{Accepted, Each}
use Rattle.law_typing.proofs.Lists.{each_in}
use Rattle.law_typing.proofs.PairProofs.{NoSecond, later_apart, no_second}
use Rattle.law_static.proofs.PairCostProofs.{no_end, sharing}
use Rattle.law_static.proofs.SubclassProofs.{get_in}
use Rattle.law_steps.proofs.Instructed.Inverse.{bound, only}
use Rattle.law_steps.proofs.Tasked.First.{First}
use Rattle.law_steps.proofs.Tasked.Pairs as pairs
use Rattle.law_prices.specs.Deeds.{PriceList}
use Rattle.law_prices.specs.Deeds as deeds
use Rattle.law_prices.specs.Potential.{due_pair, due_price, is_free, transfer_by, transfer_price}
use Rattle.law_prices.specs.Prices.{by_number, carry_price, node_price, pair_price, price_of, put_price}
use Rattle.law_prices.proofs.EasyTasks.{StepPays}
use Rattle.law_prices.proofs.Nodes.{due_within, no_pair, no_way}
use Rattle.law_prices.proofs.Pays.{ok_is}
use Rattle.law_prices.proofs.Sums.{cond_zero}
use Rattle.law_prices.proofs.TaskFalls.{Falls, PaidHere, counted_is, leads_to, starts_to, steady}

-- what a number finds among bindings
found_in : (number : ℕ) (bs : List Binding) (b : Binding) → binding_of number bs ≡ Some b → IsIn b bs × (b.number ≡ number)
found_in number [] b e = absurd (cc)
found_in number (x ∷ bs) b e = go (nat_eq x.number number) refl e (λ e. found_in number bs b e)
  where
    go : (t : Bool) → nat_eq x.number number ≡ t → cond t (Some x) (binding_of number bs) ≡ Some b → (binding_of number bs ≡ Some b → IsIn b bs × (b.number ≡ number)) → IsIn b (x ∷ bs) × (b.number ≡ number)
    go true f e rec = let same : x ≡ b = cc in (inl (sym same), ap (λ (b : Binding). b.number) (sym same) ∙ eqb-true x.number number f)
    go false f e rec = let h = rec e in (inr h.0, h.1)

module _ (d : Definition) (P : PriceList) (t : Tables) where
  -- ** the pair that sets

  module _ (below : List Task) (c : Channel) where
    -- a pair that shares no end costs nothing
    other_free : (n : ℕ) (y : Bind) → has_end c y ≡ false → due_pair d P t below c n y ≡ 0
    other_free n y e = let p = no_end d t [] c y e in cond_zero (is_free below n) (pair_price d P t c n y) (no_way d P t c n y p.0 p.1)

    plain_free : (n : ℕ) (y : Bind) → is_pair y ≡ false → due_pair d P t below c n y ≡ 0
    plain_free n y e = cond_zero (is_free below n) (pair_price d P t c n y) (no_pair d P t c n y e)

    later_free : (x : Bind) (n : ℕ) (ys : List Bind) → has_end c x ≡ true → Each (λ y. is_pair y ≡ true → shares_end x y ≡ false) ys → by_number (due_pair d P t below c) n ys ≡ 0
    later_free x n [] e all = refl
    later_free x n (y ∷ ys) e all = let h = later_free x (suc n) ys e all.1 in let z = go (is_pair y) (has_end c y) refl refl in omega (arith, h, z)
      where
        go : (p b : Bool) → is_pair y ≡ p → has_end c y ≡ b → due_pair d P t below c n y ≡ 0
        go false b pair end = plain_free n y pair
        go true false pair end = other_free n y end
        go true true pair end = absurd (let s = sharing c x y e end in let f = all.0 pair in cc)

    -- where the pair of the channel is to be set free below nothing is due over a pair
    none_due : (earlier xs : List Bind) (k i : ℕ) (x : Bind) → slice_get xs i ≡ Some x → is_pair x ≡ true → has_end c x ≡ true → is_free below (k + i) ≡ false → NoSecond earlier xs → by_number (due_pair d P t below c) k xs ≡ 0
    none_due earlier [] k i x e pair end sets none = refl
    none_due earlier (z ∷ zs) k zero x e pair end sets none =
        let s : z ≡ x = cc in
        let same : k + 0 ≡ k = omega arith in
        let not_free = ap (is_free below) (sym same) ∙ sets in
        let first : due_pair d P t below c k z ≡ 0 = ap (λ f. cond f (pair_price d P t c k z) 0) not_free in
        let z_pair = ap is_pair s ∙ pair in
        let z_end = ap (has_end c) s ∙ end in
        let rest = later_free z (suc k) zs z_end (later_apart z (z ∷ earlier) zs z_pair (inl refl) none.1) in
        omega (arith, first, rest)
    none_due earlier (z ∷ zs) k (suc i) x e pair end sets none =
        let same : k + suc i ≡ suc k + i = omega arith in
        let rest = none_due (z ∷ earlier) zs (suc k) i x e pair end (ap (is_free below) (sym same) ∙ sets) none.1 in
        let first = go (is_pair z) (has_end c z) refl refl in
        omega (arith, first, rest)
      where
        go : (p b : Bool) → is_pair z ≡ p → has_end c z ≡ b → due_pair d P t below c k z ≡ 0
        go false b z_pair z_end = plain_free k z z_pair
        go true false z_pair z_end = other_free k z z_end
        go true true z_pair z_end =
            absurd (let apart = each_in (λ y. is_pair y ≡ true → shares_end z y ≡ false) zs (later_apart z (z ∷ earlier) zs z_pair (inl refl) none.1) x (get_in zs i x e) pair in
            let s = sharing c z x z_end end in cc)

  -- what is set over a binding is within its transfer
  module _ (a : Accepted d) (rest : List Task) (number : ℕ) (back : Bool) (x : Bind) (is : slice_get d.bindings number ≡ Some x) (free : total (unsets number) rest ≡ 0) (pair_back : back ≡ true → is_pair x ≡ true) where
    abbrev pub there : Channel
    there = cond back (source_of x) (target_of x)

    one_end : (back : Bool) → has_end (cond back (source_of x) (target_of x)) x ≡ true
    one_end true = pairs.source_end x
    one_end false = pairs.target_end x

    not_free : is_free (Unsetting number ∷ rest) (0 + number) ≡ false
    not_free = go (nat_eq (total (unsets number) (Unsetting number ∷ rest)) 0) refl
      where
        same : 0 + number ≡ number
        same = omega arith

        go : (b : Bool) → is_free (Unsetting number ∷ rest) number ≡ b → is_free (Unsetting number ∷ rest) (0 + number) ≡ false
        go false e = ap (is_free (Unsetting number ∷ rest)) same ∙ e
        go true e =
            absurd (let z = eqb-true (total (unsets number) (Unsetting number ∷ rest)) 0 e in
            let one : cond (nat_eq number number) 1 0 ≡ 1 = ap {B = ℕ} (λ b. cond b 1 0) (eq-eqb number number refl) in
            omega (arith, z, one))

    forwards : is_pair x ≡ false → back ≡ false
    forwards one = go back pair_back
      where
        go : (back : Bool) → (back ≡ true → is_pair x ≡ true) → back ≡ false
        go false f = refl
        go true f = absurd (let pair = f refl in cc)

    pub within_transfer : P (deeds.transfer number) + (put_price d P there + due_price d P t (Unsetting number ∷ rest) there + P (deeds.free number)) ≤ transfer_price d P t rest number back x
    within_transfer = go (is_pair x) refl
      where
        go : (p : Bool) → is_pair x ≡ p → P (deeds.transfer number) + (put_price d P there + due_price d P t (Unsetting number ∷ rest) there + P (deeds.free number)) ≤ transfer_price d P t rest number back x
        go true pair =
            let none = none_due (Unsetting number ∷ rest) there [] d.bindings 0 number x is pair (one_end back) not_free (no_second [] 0 d.bindings a.pairs) in
            let is_it : is_free rest number ≡ true = eq-eqb (total (unsets number) rest) 0 free in
            let whole : transfer_price d P t rest number back x ≡ carry_price d P number there + entry t.channels there = rw (pair, is_it) in
            omega (arith, none, whole)
        go false one =
            let way = forwards one in
            let due = due_within d P t (Unsetting number ∷ rest) (target_of x) in
            let at : there ≡ target_of x = ap (λ b. cond b (source_of x) (target_of x)) way in
            let put = ap (put_price d P) at in
            let dues = ap (due_price d P t (Unsetting number ∷ rest)) at in
            let whole : transfer_price d P t rest number back x ≡ carry_price d P number (target_of x) + node_price d P t (target_of x) = rw one in
            omega (arith, due, put, dues, whole)

  -- ** the step

  module _ (number : ℕ) (back : Bool) (x : First d (Transferring number back)) (paid : PaidHere d P t x) where
    open x use {a, w, rest, n, g}

    -- nothing is set
    idle : Falls d P t x w rest
    idle =
        let low = least (slice_get d.bindings number) refl in
        steady d P t x w rest (record { objects = refl; handlers = refl; last = refl; sources = refl; floating = omega arith; makes = omega arith; items = λ f. omega arith }) (omega (arith, low)) paid
      where
        least : (o : Option Bind) → slice_get d.bindings number ≡ o → P (deeds.transfer number) ≤ transfer_by d P t rest number back o
        least None e = omega arith
        least (Some b) e = let h = within_transfer a rest number back b e g.agenda.3.1.free (λ f. g.agenda.3.1.goes_back f b e) in omega (arith, h)

    -- a value is set at the other end
    set_falls : (b : Binding) (good : BindingGood d (standing w.objects) (Transferring number back ∷ rest) b) → b.number ≡ number → (end : End) (place : ℕ) → standing w.objects end.object ≡ Some place →
        property place end.slot ≡ cond back (source_of good.bind) (target_of good.bind) → (u : Value) →
        Falls d P t x (record w { bindings = with_busy b.number true w.bindings }) (Setting end.object end.slot u ∷ Unsetting b.number ∷ rest)
    set_falls b good same end place stands at u =
        let is : slice_get d.bindings number ≡ Some good.bind = ap (slice_get d.bindings) (sym same) ∙ good.is in
        let h = within_transfer a rest number back good.bind is g.agenda.3.1.free (λ f. g.agenda.3.1.goes_back f good.bind is) in
        let was = ap (transfer_by d P t rest number back) is in
        let set = ap (price_of (λ place. put_price d P (property place end.slot) + due_price d P t (Unsetting b.number ∷ rest) (property place end.slot))) stands in
        let put = ap (put_price d P) at in
        let due = ap (due_price d P t (Unsetting b.number ∷ rest)) at in
        let due2 = ap (λ m. due_price d P t (Unsetting m ∷ rest) (cond back (source_of good.bind) (target_of good.bind))) same in
        let free = ap (λ m. P (deeds.free m)) same in
        steady d P t x (record w { bindings = with_busy b.number true w.bindings }) (Setting end.object end.slot u ∷ Unsetting b.number ∷ rest)
        (record { objects = refl; handlers = refl; last = refl; sources = refl; floating = omega arith; makes = omega arith; items = λ f. omega arith }) (omega (arith, h, was, set, put, due, due2, free)) paid

    by_value : (b : Binding) (good : BindingGood d (standing w.objects) (Transferring number back ∷ rest) b) → b.number ≡ number → (end : End) (place : ℕ) → standing w.objects end.object ≡ Some place →
        property place end.slot ≡ cond back (source_of good.bind) (target_of good.bind) → (o : Option Value) (s : Started) → set_by w b.number end o ≡ Ok s → Falls d P t x s.world (s.tasks ++ rest)
    by_value b good same end place stands at None s e = starts_to d P t x s w [] (ok_is {E = Arm} _ s e) idle
    by_value b good same end place stands at (Some u) s e =
        starts_to d P t x s _ (Setting end.object end.slot u ∷ Unsetting b.number ∷ []) (ok_is {E = Arm} _ s e) (set_falls b good same end place stands at u)

    carried_is : (b : Binding) (good : BindingGood d (standing w.objects) (Transferring number back ∷ rest) b) → b.number ≡ number → (from end : End) (place : ℕ) → standing w.objects end.object ≡ Some place →
        property place end.slot ≡ cond back (source_of good.bind) (target_of good.bind) → (s : Started) → carried d w b from end ≡ Ok s → Falls d P t x s.world (s.tasks ++ rest)
    unfolding carried
    carried_is b good same from end place stands at s e =
        let one = bound (spec_at d w.objects from.object from.slot) _ s e in
        let two = bound (spec_at d w.objects end.object end.slot) _ s one.2 in
        let v = bound (asked w.objects from.object (value_at from.slot)) _ s two.2 in
        let u = inverted (inverts b) (transformed d.types one.0.kind two.0.kind v.0) in
        let last = set_by w b.number end u in
        let k = only (is_readable one.0) arms.Flags (only_if (is_writable two.0) arms.Flags (only_if (not (is_construct_only two.0)) arms.ConstructOnly last)) s v.2 in
        let m = only (is_writable two.0) arms.Flags (only_if (not (is_construct_only two.0)) arms.ConstructOnly last) s k.1 in
        let l = only (not (is_construct_only two.0)) arms.ConstructOnly last s m.1 in
        by_value b good same end place stands at u s l.1

    by_binding : (o : Option Binding) → binding_of number w.bindings ≡ o → (s : Started) → carried_by d w back o ≡ Ok s → Falls d P t x s.world (s.tasks ++ rest)
    by_binding None is s e = starts_to d P t x s w [] (ok_is {E = Arm} _ s e) idle
    by_binding (Some b) is s e = go back refl e
      where
        found : IsIn b w.bindings × (b.number ≡ number)
        found = found_in number w.bindings b is

        good : BindingGood d (standing w.objects) (Transferring number back ∷ rest) b
        good = each_in (BindingGood d (standing w.objects) (Transferring number back ∷ rest)) w.bindings g.bindings.each b found.0

        go : (way : Bool) → back ≡ way → carried_by d w way (Some b) ≡ Ok s → Falls d P t x s.world (s.tasks ++ rest)
        go false f e =
            let good = good in
            carried_is b good found.1 (source_end b) (target_end b) good.bind.target good.target
            (ap (property good.bind.target) good.slots.1 ∙ sym (ap (λ b. cond b (source_of good.bind) (target_of good.bind)) f)) s e
        go true f e =
            let good = good in
            carried_is b good found.1 (target_end b) (source_end b) good.bind.source good.source
            (ap (property good.bind.source) good.slots.0 ∙ sym (ap (λ b. cond b (source_of good.bind) (target_of good.bind)) f)) s e

  pub transferring_pays : (number : ℕ) (back : Bool) (x : First d (Transferring number back)) → StepPays d P t x (counted x.rest x.n (transferring d x.w number back))
  transferring_pays number back x paid e h =
      let s = counted_is x.rest x.n _ e h in
      leads_to d P t x s.0 (suc x.n) e s.2 (by_binding number back x paid (binding_of number x.w.bindings) refl s.0 s.1)
