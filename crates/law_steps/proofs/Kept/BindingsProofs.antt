-- Bindings that end, begin and end to set, and are made.
use Rattle.std.proofs.Common.{◌≡◌, refl, sym, ap, ◌∙◌, ℕ, suc, ◌+◌, ◌<◌, ◌≤◌, Bool, true, false, cond, List, [], ◌∷◌, ◌++◌, length, arith}
use Rattle.std.specs.Prelude.{nat_eq}
use Rattle.std.proofs.lemmas.Bool.{eqb-true, eqb-false, eq-eqb}
use Rattle.ui_machine.specs.Seq.{total}
use Rattle.ui_machine.specs.Definition.{Definition}
use Rattle.ui_machine.specs.State.Bindings.{Binding, with_busy}
use Rattle.ui_machine.specs.State.Tasks.{Task}
use Rattle.ui_machine.specs.Rules.Build.{of_items, new_binding}
use Rattle.law_typing.specs.Verdict.Accepted.{Each}
use Rattle.law_typing.specs.Good.Standing.{Standing, Rising}
use Rattle.law_typing.specs.Good.DueCosts.{unsets}
use Rattle.law_typing.specs.Good.Bindings.{is_binding, BindingGood}
use Rattle.law_steps.specs.Kept.Agenda.{Stays}
use Rattle.law_steps.specs.Kept.Bindings.{BindingsLeft, LeftBindingsFound, BindingSets, BindingUnset, BindingMade}
use Rattle.law_steps.proofs.Kept.Left.{each_to, each_left, rising_left, left_found, rising_changed}

abbrev number_of : Binding → ℕ
number_of b = b.number

-- ** those that are left

pub binding_kept : (d : Definition) (s z : Standing) (agenda : List Task) (b : Binding) → Stays s z b.source → Stays s z b.target → BindingGood d s agenda b → BindingGood d z agenda b
binding_kept d s z agenda b source target g = record {
  bind = g.bind;
  is = g.is;
  name = g.name;
  slots = g.slots;
  source = source g.bind.source g.source;
  target = target g.bind.target g.target;
  setting = g.setting;
}

pub bindings_left : BindingsLeft
bindings_left d s z agenda bs test stays g = record {
  each = each_left (BindingGood d s agenda) (BindingGood d z agenda) test bs
      (λ b passes good. (let k = stays b passes in binding_kept d s z agenda b k.0 k.1 good)) g.each;
  rising = rising_left number_of test 0 bs g.rising;
  made = each_left (λ (b : Binding). b.number + total (of_items is_binding) agenda < length d.bindings)
      (λ (b : Binding). b.number + total (of_items is_binding) agenda < length d.bindings) test bs (λ b passes low. low) g.made;
}

pub left_bindings_found : LeftBindingsFound
left_bindings_found d s agenda bs test g number b is = left_found number_of test 0 number bs b g.rising is

-- ** those that set

abbrev busy : ℕ → Bool → Binding → Binding
busy number value b = cond (nat_eq b.number number) (record b { busy = value }) b

same_number : (number : ℕ) (value : Bool) (b : Binding) → (busy number value b).number ≡ b.number
same_number number value b = go (nat_eq b.number number)
  where
    go : (t : Bool) → (cond t (record b { busy = value }) b).number ≡ b.number
    go true = refl
    go false = refl

module _ (d : Definition) (s : Standing) (agenda rest : List Task) (number : ℕ) (value : Bool) where
  -- another binding, and the one of the number
  other : (b : Binding) → total (unsets b.number) rest ≡ total (unsets b.number) agenda → BindingGood d s agenda b → BindingGood d s rest b
  other b same g =
      record { bind = g.bind; is = g.is; name = g.name; slots = g.slots; source = g.source; target = g.target; setting = same ∙ g.setting }

  this : (b : Binding) → total (unsets b.number) rest ≡ cond value 1 0 → BindingGood d s agenda b → BindingGood d s rest (record b { busy = value })
  this b sets g =
      record { bind = g.bind; is = g.is; name = g.name; slots = g.slots; source = g.source; target = g.target; setting = sets }

  one_busy : (b : Binding) → ((b.number ≡ number → ⊥) → total (unsets b.number) rest ≡ total (unsets b.number) agenda) →
      (b.number ≡ number → total (unsets b.number) rest ≡ cond value 1 0) → BindingGood d s agenda b → BindingGood d s rest (busy number value b)
  one_busy b apart here g = go (nat_eq b.number number) refl
    where
      go : (t : Bool) → nat_eq b.number number ≡ t → BindingGood d s rest (cond t (record b { busy = value }) b)
      go true t = this b (here (eqb-true b.number number t)) g
      go false t = other b (apart (eqb-false b.number number t)) g

  all_busy : (bs : List Binding) → ((b : Binding) → (b.number ≡ number → ⊥) → total (unsets b.number) rest ≡ total (unsets b.number) agenda) →
      ((b : Binding) → b.number ≡ number → BindingGood d s agenda b → total (unsets b.number) rest ≡ cond value 1 0) →
      Each (BindingGood d s agenda) bs → Each (BindingGood d s rest) (with_busy number value bs)
  all_busy [] apart here all = tt
  all_busy (b ∷ bs) apart here all = (one_busy b (apart b) (λ e. here b e all.0) all.0, all_busy bs apart here all.1)

  made_busy : (bs : List Binding) → total (of_items is_binding) rest ≡ total (of_items is_binding) agenda →
      Each (λ (b : Binding). b.number + total (of_items is_binding) agenda < length d.bindings) bs →
      Each (λ (b : Binding). b.number + total (of_items is_binding) rest < length d.bindings) (with_busy number value bs)
  made_busy [] same all = tt
  made_busy (b ∷ bs) same all = ((let low = all.0 in let e = same_number number value b in omega (arith, low, e, same)), made_busy bs same all.1)

no_other : (number n : ℕ) → (n ≡ number → ⊥) → ◌≡◌ {A = ℕ} (cond (nat_eq number n) 1 0) 0
no_other number n apart = go (nat_eq number n) refl
  where
    go : (b : Bool) → nat_eq number n ≡ b → ◌≡◌ {A = ℕ} (cond b 1 0) 0
    go true t = absurd (apart (sym (eqb-true number n t)))
    go false t = refl

this_one : (number n : ℕ) → n ≡ number → ◌≡◌ {A = ℕ} (cond (nat_eq number n) 1 0) 1
this_one number n e = ap (λ b. cond b 1 0) (eq-eqb number n (sym e))

pub binding_sets : BindingSets
binding_sets d s agenda more bs number one free g = record {
  each =
      all_busy d s agenda more number true bs
      (λ b apart. (let u = one.unset b.number in let z = no_other number b.number apart in omega (arith, u, z)))
      (λ b e old. (let u = one.unset b.number in let z = this_one number b.number e in let f = ap (λ n. total (unsets n) agenda) e ∙ free in omega (arith, u, z, f)))
      g.each;
  rising = rising_changed number_of (busy number true) 0 bs (same_number number true) g.rising;
  made = made_busy d s agenda more number true bs one.items g.made;
}

at_most_one : (b : Bool) → cond b 1 0 ≤ 1
at_most_one true = omega arith
at_most_one false = omega arith

pub binding_unset : BindingUnset
binding_unset d s agenda more bs number one g = record {
  each =
      all_busy d s more agenda number false bs
      (λ b apart. (let u = one.unset b.number in let z = no_other number b.number apart in omega (arith, u, z)))
      (λ b e old. (let u = one.unset b.number in let z = this_one number b.number e in let f = old.setting in let l = at_most_one b.busy in omega (arith, u, z, f, l)))
      g.each;
  rising = rising_changed number_of (busy number false) 0 bs (same_number number false) g.rising;
  made = made_busy d s more agenda number false bs (sym one.items) g.made;
}

-- ** those that are made

each_last : {A : Type 0} (P : A → Type 0) (xs : List A) (x : A) → Each P xs → P x → Each P (xs ++ x ∷ [])
each_last P [] x all here = (here, tt)
each_last P (y ∷ ys) x all here = (all.0, each_last P ys x all.1 here)

rising_last : {A : Type 0} (number : A → ℕ) (k : ℕ) (xs : List A) (x : A) → Rising number k xs → Each (λ y. number y < number x) xs → k ≤ number x → Rising number k (xs ++ x ∷ [])
rising_last number k [] x r low least = (least, tt)
rising_last number k (y ∷ ys) x r low least = (r.0, rising_last number (suc (number y)) ys x r.1 low.1 low.0)

pub binding_made : BindingMade
binding_made d s agenda rest bs number b source target next g = record {
  each =
      each_last (BindingGood d s rest) bs (new_binding number b source target)
      (each_to (BindingGood d s agenda) (BindingGood d s rest) bs (λ x good. other d s agenda rest number false x (next.unset x.number) good) g.each)
      (record { bind = b; is = next.is; name = refl; slots = (refl, refl, refl); source = next.from; target = next.to; setting = next.unset number ∙ next.free });
  rising =
      rising_last number_of 0 bs (new_binding number b source target) g.rising
      (each_to (λ (x : Binding). x.number + total (of_items is_binding) agenda < length d.bindings) (λ (x : Binding). x.number < number) bs
      (λ x low. (let n = next.next in omega (arith, low, n))) g.made)
      (omega arith);
  made =
      each_last (λ (x : Binding). x.number + total (of_items is_binding) rest < length d.bindings) bs (new_binding number b source target)
      (each_to (λ (x : Binding). x.number + total (of_items is_binding) agenda < length d.bindings) (λ (x : Binding). x.number + total (of_items is_binding) rest < length d.bindings) bs
      (λ x low. (let i = next.items in omega (arith, low, i))) g.made)
      (let n = next.next in let i = next.items in omega (arith, n, i));
}
