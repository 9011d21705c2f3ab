-- Bindings that lead from channels one way, one after the other.
use Rattle.std.proofs.Common.{◌≡◌, ◌∙◌, refl, sym, ap, subst, ℕ, zero, suc, ◌≤◌, Bool, true, false, cond, List, [], ◌∷◌, ◌++◌, length, map, Vec, Option, Some, slice_get, slice_set, append-nil, arith}
use Rattle.std.specs.Prelude.{not, ◌&&◌, nat_eq}
use Rattle.std.specs.Global.{Global}
use Rattle.std.specs.List.{filter, filter_map, cons_option}
use Rattle.std.proofs.lemmas.Bool.{eqb-true, eq-eqb}
use Rattle.std.proofs.lemmas.List.Elements.{filter-append}
use Rattle.std.proofs.lemmas.List.{length-map, map-append}
use Rattle.std.proofs.lemmas.Option.{none-some, same_Some}
use Rattle.ui_machine.specs.Seq.{read}
use Rattle.ui_machine.specs.Definition.Places.{Bind}
use Rattle.law_typing.specs.Graph.Channels.{Channel, is_pair, same_channel, source_of, target_of}
use Rattle.law_typing.proofs.Lists.{same_channel_refl, same_channel_true}
use Rattle.verify_graph.specs.Numbers.{IsOnce, number_of, numbers_of}
use Rattle.verify_channels.specs.Transfers.{AreTargets, list_at, target_numbers, targets_in}

-- ** a list that gets more

module _ {A B : Type 0} (f : A → List B) where
  set_here : (lists : List A) (at : ℕ) (v w : A) (more : List B) → slice_get lists at ≡ Some v → f w ≡ f v ++ more →
      read [] (map f (slice_set lists at w)) at ≡ read [] (map f lists) at ++ more
  set_here [] at v w more is new = absurd (none-some v is)
  set_here (u ∷ us) zero v w more is new = new ∙ ap (λ (x : A). f x ++ more) (sym (same_Some _ _ is))
  set_here (u ∷ us) (suc at) v w more is new = set_here us at v w more is new

  set_there : (lists : List A) (at n : ℕ) (w : A) → (at ≡ n → ⊥) → read [] (map f (slice_set lists at w)) n ≡ read [] (map f lists) n
  set_there [] at n w apart = refl
  set_there (u ∷ us) zero zero w apart = absurd (apart refl)
  set_there (u ∷ us) zero (suc n) w apart = refl
  set_there (u ∷ us) (suc at) zero w apart = refl
  set_there (u ∷ us) (suc at) (suc n) w apart = set_there us at n w (λ e. apart (ap suc e))

  -- where one list gets more, seen by a view
  pub set_by : (lists : List A) (at n : ℕ) (v w : A) (more : List B) → slice_get lists at ≡ Some v → f w ≡ f v ++ more →
      read [] (map f (slice_set lists at w)) n ≡ cond (nat_eq at n) (read [] (map f lists) n ++ more) (read [] (map f lists) n)
  set_by lists at n v w more is new = by (nat_eq at n) refl
    where
      by : (b : Bool) → nat_eq at n ≡ b → read [] (map f (slice_set lists at w)) n ≡ cond b (read [] (map f lists) n ++ more) (read [] (map f lists) n)
      by true e =
          let same = eqb-true at n e in
          subst (λ m. read [] (map f (slice_set lists at w)) m ≡ read [] (map f lists) m ++ more) same (set_here lists at v w more is new)
      by false e = set_there lists at n w (λ same. (let t = eq-eqb at n same in differ (nat_eq at n) t e))
        where
          differ : (b : Bool) → b ≡ true → b ≡ false → ⊥
          differ true p q = absurd (cc)
          differ false p q = absurd (cc)

pub pushed : {A : Type 0} → (lists : List (Vec A Global)) (at n : ℕ) (v w : Vec A Global) (item : A) → slice_get lists at ≡ Some v → w.items ≡ v.items ++ item ∷ [] →
    list_at (slice_set lists at w) n ≡ cond (nat_eq at n) (list_at lists n ++ item ∷ []) (list_at lists n)
pushed {A} lists at n v w item is new = set_by (λ (x : Vec A Global). x.items) lists at n v w (item ∷ []) is new

-- one more empty list
pub none_more : {A B : Type 0} (f : A → List B) (lists : List A) (v : A) → f v ≡ [] → ((n : ℕ) → read [] (map f lists) n ≡ []) →
    (n : ℕ) → read [] (map f (lists ++ v ∷ [])) n ≡ []
none_more f [] v none all zero = none
none_more f [] v none all (suc n) = refl
none_more f (u ∷ us) v none all zero = all 0
none_more f (u ∷ us) v none all (suc n) = none_more f us v none (λ m. all (suc m)) n

-- ** one more binding

targets_both : (c : Channel) (bs : List Bind) (b : Bind) (all : List Channel) → target_numbers all c (bs ++ b ∷ []) ≡ target_numbers all c bs ++ target_numbers all c (b ∷ [])
targets_both c bs b all =
    ap (λ xs. map (number_of all) (map target_of xs)) (filter-append (λ x. not (is_pair x) && same_channel (source_of x) c) bs (b ∷ []))
    ∙ (ap (map (number_of all)) (map-append target_of (filter (λ x. not (is_pair x) && same_channel (source_of x) c) bs) (filter (λ x. not (is_pair x) && same_channel (source_of x) c) (b ∷ [])))
    ∙ map-append (number_of all) (targets_in c bs) (targets_in c (b ∷ [])))

-- one that leads from no channel adds nothing
pub adds_none : (all : List Channel) (lists : List (Vec (Option ℕ) Global)) (bs : List Bind) (b : Bind) →
    ((n : ℕ) (c : Channel) → slice_get all n ≡ Some c → (not (is_pair b) && same_channel (source_of b) c) ≡ false) → AreTargets all lists bs → AreTargets all lists (bs ++ b ∷ [])
adds_none all lists bs b none are n c at =
    are n c at
    ∙ (sym (append-nil (target_numbers all c bs))
    ∙ (ap (λ xs. target_numbers all c bs ++ xs) (sym (ap (λ x. map (number_of all) (map target_of (cond x (b ∷ []) []))) (none n c at))) ∙ sym (targets_both c bs b all)))

pub no_pair : (all : List Channel) (b : Bind) → true ≡ is_pair b → (n : ℕ) (c : Channel) → slice_get all n ≡ Some c → (not (is_pair b) && same_channel (source_of b) c) ≡ false
no_pair all b pair n c at = ap (λ p. not p && same_channel (source_of b) c) (sym pair)

pub no_source : (all : List Channel) (b : Bind) → ((n : ℕ) → slice_get all n ≡ Some (source_of b) → ⊥) → (n : ℕ) (c : Channel) → slice_get all n ≡ Some c →
    (not (is_pair b) && same_channel (source_of b) c) ≡ false
no_source all b none n c at = by (not (is_pair b)) (same_channel (source_of b) c) refl
  where
    by : (p q : Bool) → same_channel (source_of b) c ≡ q → (p && q) ≡ false
    by true true same = absurd (none n (at ∙ ap Some (sym (same_channel_true (source_of b) c same))))
    by true false same = refl
    by false q same = refl

-- one that leads one way from the channel of a number is put to its list
pub adds_one : (all : List Channel) → IsOnce all → (old new : List (Vec (Option ℕ) Global)) (bs : List Bind) (b : Bind) (s : ℕ) → is_pair b ≡ false →
    slice_get all s ≡ Some (source_of b) →
    ((n : ℕ) → list_at new n ≡ cond (nat_eq s n) (list_at old n ++ number_of all (target_of b) ∷ []) (list_at old n)) → AreTargets all old bs → AreTargets all new (bs ++ b ∷ [])
adds_one all once old new bs b s way source puts are n c at =
    puts n ∙ (by (same_channel (source_of b) c) refl ∙ sym (targets_both c bs b all))
  where
    here : (q : Bool) → same_channel (source_of b) c ≡ q → target_numbers all c (b ∷ []) ≡ map (number_of all) (map target_of (cond q (b ∷ []) []))
    here q same =
        ap (λ p. map (number_of all) (map target_of (cond (not p && same_channel (source_of b) c) (b ∷ []) []))) way
        ∙ ap (λ x. map (number_of all) (map target_of (cond x (b ∷ []) []))) same

    by : (q : Bool) → same_channel (source_of b) c ≡ q →
        cond (nat_eq s n) (list_at old n ++ number_of all (target_of b) ∷ []) (list_at old n) ≡ target_numbers all c bs ++ target_numbers all c (b ∷ [])
    by true same =
        let e = same_channel_true (source_of b) c same in
        let same_number : s ≡ n = once s n c (source ∙ ap Some e) at in
        ap (λ x. cond x (list_at old n ++ number_of all (target_of b) ∷ []) (list_at old n)) (eq-eqb s n same_number)
        ∙ (ap (λ xs. xs ++ number_of all (target_of b) ∷ []) (are n c at) ∙ ap (λ xs. target_numbers all c bs ++ xs) (sym (here true same)))
    by false same =
        ap (λ x. cond x (list_at old n ++ number_of all (target_of b) ∷ []) (list_at old n)) (apart (nat_eq s n) refl)
        ∙ (are n c at ∙ (sym (append-nil (target_numbers all c bs)) ∙ ap (λ xs. target_numbers all c bs ++ xs) (sym (here false same))))
      where
        apart : (x : Bool) → nat_eq s n ≡ x → nat_eq s n ≡ false
        apart false e = e
        apart true e =
            let same_number = eqb-true s n e in
            let both : source_of b ≡ c = same_Some _ _ (sym source ∙ (ap (slice_get all) same_number ∙ at)) in
            let r = same_channel_refl c in
            let t = ap (λ x. same_channel x c) both in
            absurd (cc)

-- the numbers that are there are those of the targets that are channels
pub known_targets : (all : List Channel) (cs : List Channel) → filter_map (λ (o : Option ℕ). o) (map (number_of all) cs) ≡ numbers_of all cs
known_targets all [] = refl
known_targets all (c ∷ cs) = ap (cons_option (number_of all c)) (known_targets all cs)

-- ** how many there are

few_kept : {A : Type 0} → (test : A → Bool) (xs : List A) → length (filter test xs) ≤ length xs
few_kept test [] = omega arith
few_kept {A} test (x ∷ xs) = by (test x) (few_kept test xs)
  where
    by : (b : Bool) → length (filter test xs) ≤ length xs → length (cond b (x ∷ filter test xs) (filter test xs)) ≤ suc (length xs)
    by true few = omega (arith, few)
    by false few = omega (arith, few)

-- no more targets than bindings
pub few_targets : (all : List Channel) (c : Channel) (bs : List Bind) → length (target_numbers all c bs) ≤ length bs
few_targets all c bs =
    let kept = few_kept (λ b. not (is_pair b) && same_channel (source_of b) c) bs in
    let targets = length-map (filter (λ b. not (is_pair b) && same_channel (source_of b) c) bs) target_of in
    let numbers = length-map (targets_in c bs) (number_of all) in
    omega (arith, kept, targets, numbers)
