-- What the construction of an object costs: each set is one of those that its making raises, and no property is set twice.
use Rattle.std.proofs.Common.{◌≡◌, refl, sym, ap, ◌∙◌, ℕ, zero, suc, ◌+◌, ◌≤◌, Bool, true, false, cond, List, [], ◌∷◌, ◌++◌, map, Option, None, Some, slice_get, arith}
use Rattle.std.specs.Prelude.{not, ◌&&◌, ◌||◌, nat_eq, option_map, reverse}
use Rattle.std.specs.List.{filter, list_any}
use Rattle.std.proofs.lemmas.Bool.{eqb-true, eq-eqb, or_parts}
use Rattle.ui_machine.specs.Seq.{read, total}
use Rattle.ui_machine.specs.Definition.Properties.{Spec}
use Rattle.ui_machine.specs.Definition.{Definition}
use Rattle.ui_machine.specs.Definition.Values.{Value}
use Rattle.ui_machine.specs.Definition.Places.{GivenProperty, Place}
use Rattle.ui_machine.specs.Definition.Lookups.{class_of, place_at, specs_of}
use Rattle.ui_machine.specs.Rules.Ancestry.{lineage}
use Rattle.ui_machine.specs.State.Config.{World}
use Rattle.ui_machine.specs.State.Tasks.{ConstructStep, sets, runs, thaws}
use Rattle.ui_machine.specs.Rules.Construction.{construction, is_forward, given_at, given_value, not_forward, is_at_construction, construct_sets, or_default, set_of, no_spec, given_sets, run_of, constructed_runs}
use Rattle.law_typing.specs.Graph.Channels.{Channel, constructed, property, programs_of, of_class, constructed_at, is_filled, is_channel, present}
use Rattle.law_typing.specs.Graph.{is_given, raised_by_making, set_from}
use Rattle.law_typing.specs.Graph.Tables.{Tables}
use Rattle.law_typing.specs.Verdict.Accepted.{Each, Accepted}
use Rattle.law_typing.specs.Laws.WellRead.{no_two, GivenRead, PlaceRead}
use Rattle.law_typing.proofs.Lists.{both_parts, each_flat}
use Rattle.law_prices.specs.Deeds.{PriceList}
use Rattle.law_prices.specs.Deeds as deeds
use Rattle.law_prices.specs.Potential.{construct_price}
use Rattle.law_prices.specs.Prices.{SolvesPrices, begun_price, construction_toll, node_price, put_price}
use Rattle.law_prices.proofs.Equations.{channel_is}
use Rattle.law_prices.proofs.Nodes.{absent_node}
use Rattle.law_prices.proofs.Sums.{total_both, total_plus}

total_first : {A : Type 0} (f : A → ℕ) (test : A → Bool) (x : A) (xs : List A) → total f (filter test (x ∷ xs)) ≡ cond (test x) (f x) 0 + total f (filter test xs)
total_first f test x xs = go (test x)
  where
    go : (b : Bool) → total f (cond b (x ∷ filter test xs) (filter test xs)) ≡ cond b (f x) 0 + total f (filter test xs)
    go true = refl
    go false = omega arith

-- ** sums of what is set

module _ (f : ℕ → ℕ) (place : ℕ) where
  -- the properties that are set as the object is made, and those that are given beside them
  abbrev made_sum : ℕ → List Spec → ℕ
  made_sum n [] = 0
  made_sum n (s ∷ specs) = cond (is_at_construction s) (f n) 0 + made_sum (suc n) specs

  abbrev set_sum : List GivenProperty → ℕ → List Spec → ℕ
  set_sum gs n [] = 0
  set_sum gs n (s ∷ specs) = cond (is_at_construction s || list_any (is_given place n) gs) (f n) 0 + set_sum gs (suc n) specs

  abbrev given_sum : List Spec → List GivenProperty → ℕ
  given_sum specs [] = 0
  given_sum specs (g ∷ gs) = cond (is_at_construction (read no_spec specs g.slot)) 0 (f g.slot) + given_sum specs gs

  none_given : (n : ℕ) (specs : List Spec) → set_sum [] n specs ≡ made_sum n specs
  none_given n [] = refl
  none_given n (s ∷ specs) = let h = none_given (suc n) specs in let e = go (is_at_construction s) in omega (arith, h, e)
    where
      go : (b : Bool) → cond (b || false) (f n) 0 ≡ cond b (f n) 0
      go true = refl
      go false = refl

  more_true : (a x b : Bool) (v : ℕ) → cond (a || b) v 0 ≤ cond (a || (x || b)) v 0
  more_true true x b v = omega arith
  more_true false true true v = omega arith
  more_true false true false v = omega arith
  more_true false false b v = omega arith

  one_more : (g : GivenProperty) (gs : List GivenProperty) (n : ℕ) (specs : List Spec) → set_sum gs n specs ≤ set_sum (g ∷ gs) n specs
  one_more g gs n [] = omega arith
  one_more g gs n (s ∷ specs) =
      let h = one_more g gs (suc n) specs in
      let e = more_true (is_at_construction s) (is_given place n g) (list_any (is_given place n) gs) (f n) in
      omega (arith, h, e)

  -- one that is given beside them, and that no other gives, adds its own
  adds : (g : GivenProperty) (gs : List GivenProperty) (n k : ℕ) (specs : List Spec) (s : Spec) → slice_get specs k ≡ Some s → g.slot ≡ n + k → is_at_construction s ≡ false →
      is_forward place g.given ≡ false → list_any (is_given place g.slot) gs ≡ false → set_sum gs n specs + f g.slot ≤ set_sum (g ∷ gs) n specs
  adds g gs n k [] s e at plain here none = absurd (cc)
  adds g gs n zero (x ∷ specs) s e at plain here none =
      let same : x ≡ s = cc in
      let slot : n ≡ g.slot = omega (arith, at) in
      let x_plain = ap is_at_construction same ∙ plain in
      let others = ap (λ n. list_any (is_given place n) gs) slot ∙ none in
      let own : is_given place n g ≡ true = both (nat_eq g.slot n) (not (is_forward place g.given)) (eq-eqb g.slot n (sym slot)) (ap not here) in
      let before : cond (is_at_construction x || list_any (is_given place n) gs) (f n) 0 ≡ 0 = rw (x_plain, others) in
      let after : cond (is_at_construction x || (is_given place n g || list_any (is_given place n) gs)) (f n) 0 ≡ f n = rw (x_plain, own) in
      let rest = one_more g gs (suc n) specs in
      let value = ap f slot in
      omega (arith, before, after, rest, value)
    where
      both : (a b : Bool) → a ≡ true → b ≡ true → (a && b) ≡ true
      both a b p q = ap (λ x. x && b) p ∙ q
  adds g gs n (suc k) (x ∷ specs) s e at plain here none =
      let h = adds g gs (suc n) k specs s e (omega (arith, at)) plain here none in
      let m = more_true (is_at_construction x) (is_given place n g) (list_any (is_given place n) gs) (f n) in
      omega (arith, h, m)

  read_get : (specs : List Spec) (n : ℕ) (s : Spec) → slice_get specs n ≡ Some s → read no_spec specs n ≡ s
  read_get [] n s e = absurd (cc)
  read_get (x ∷ specs) zero s e = let h : x ≡ s = cc in h
  read_get (x ∷ specs) (suc n) s e = read_get specs n s e

  not_given : (m : ℕ) (gs : List GivenProperty) → list_any (nat_eq m) (map (λ (g : GivenProperty). g.slot) gs) ≡ false → list_any (is_given place m) gs ≡ false
  not_given m [] e = refl
  not_given m (g ∷ gs) e =
      let p = or_parts (nat_eq m g.slot) (list_any (nat_eq m) (map (λ (g : GivenProperty). g.slot) gs)) e in
      ap (λ b. (b && not (is_forward place g.given)) || list_any (is_given place m) gs) (apart p.0) ∙ not_given m gs p.1
    where
      apart : nat_eq m g.slot ≡ false → nat_eq g.slot m ≡ false
      apart h = go (nat_eq g.slot m) refl
        where
          go : (b : Bool) → nat_eq g.slot m ≡ b → nat_eq g.slot m ≡ false
          go true t = absurd (let s = eq-eqb m g.slot (sym (eqb-true g.slot m t)) in let k = sym h ∙ s in cc)
          go false t = t

  not_true : (b : Bool) → not b ≡ true → b ≡ false
  not_true true e = absurd (cc)
  not_true false e = refl

  all_sets : (specs : List Spec) (gs : List GivenProperty) → Each (λ (g : GivenProperty). (s : Spec) × (slice_get specs g.slot ≡ Some s)) gs →
      no_two nat_eq (map (λ (g : GivenProperty). g.slot) gs) ≡ true → made_sum 0 specs + given_sum specs (not_forward place gs) ≤ set_sum gs 0 specs
  all_sets specs [] all once = let h = none_given 0 specs in omega (arith, h)
  all_sets specs (g ∷ gs) all once =
      let p = both_parts (not (list_any (nat_eq g.slot) (map (λ (g : GivenProperty). g.slot) gs))) (no_two nat_eq (map (λ (g : GivenProperty). g.slot) gs)) once in
      go (is_forward place g.given) (is_at_construction all.0.0) refl refl (not_true _ p.0) (all_sets specs gs all.1 p.1)
    where
      Rest : Type 0
      Rest = made_sum 0 specs + given_sum specs (not_forward place gs) ≤ set_sum gs 0 specs

      go : (b m : Bool) → is_forward place g.given ≡ b → is_at_construction all.0.0 ≡ m → list_any (nat_eq g.slot) (map (λ (g : GivenProperty). g.slot) gs) ≡ false → Rest →
          made_sum 0 specs + given_sum specs (cond (not b) (g ∷ not_forward place gs) (not_forward place gs)) ≤ set_sum (g ∷ gs) 0 specs
      go true m forward at alone rest = let h = one_more g gs 0 specs in omega (arith, h, rest)
      go false true forward at alone rest =
          let own : cond (is_at_construction (read no_spec specs g.slot)) 0 (f g.slot) ≡ 0 = ap (λ s. cond (is_at_construction s) 0 (f g.slot)) (read_get specs g.slot all.0.0 all.0.1) ∙ ap (λ b. cond b 0 (f g.slot)) at in
          let h = one_more g gs 0 specs in
          omega (arith, h, rest, own)
      go false false forward at alone rest =
          let own : cond (is_at_construction (read no_spec specs g.slot)) 0 (f g.slot) ≡ f g.slot = ap (λ s. cond (is_at_construction s) 0 (f g.slot)) (read_get specs g.slot all.0.0 all.0.1) ∙ ap (λ b. cond b 0 (f g.slot)) at in
          let h = adds g gs 0 g.slot specs all.0.0 all.0.1 (omega arith) at forward (not_given g.slot gs alone) in
          omega (arith, h, rest, own)

-- ** the steps of a construction

specs_given : (d : Definition) (place : ℕ) (p : Place) (gs : List GivenProperty) → Each (GivenRead d place p) gs →
    Each (λ (g : GivenProperty). (s : Spec) × (slice_get (specs_of d p.class) g.slot ≡ Some s)) gs
specs_given d place p [] all = tt
specs_given d place p (g ∷ gs) all = ((all.0.spec, all.0.is), specs_given d place p gs all.1)

module _ (d : Definition) (a : Accepted d) (P : PriceList) (t : Tables) (solves : SolvesPrices d P t) (w : World) (place : ℕ) where
  abbrev of_channel : Channel → ℕ
  of_channel c = P (deeds.construct place) + (put_price d P c + node_price d P t c)

  abbrev of_slot : ℕ → ℕ
  of_slot slot = of_channel (property place slot)

  abbrev of_step : ConstructStep → ℕ
  of_step m = construct_price d P t place m

  abbrev of_run : ℕ → ℕ
  of_run q = P (deeds.construct place) + begun_price P t q

  made_steps : (gs : List GivenProperty) (n : ℕ) (specs : List Spec) → total of_step (construct_sets w gs n specs) ≡ made_sum of_slot place n specs
  made_steps gs n [] = refl
  made_steps gs n (s ∷ specs) =
      let t = total_both of_step (cond (is_at_construction s) (sets n (or_default (given_at w gs n) s.default) ∷ []) []) (construct_sets w gs (suc n) specs) in
      let h = made_steps gs (suc n) specs in
      let e = go (is_at_construction s) in
      omega (arith, t, h, e)
    where
      go : (b : Bool) → total of_step (cond b (sets n (or_default (given_at w gs n) s.default) ∷ []) []) ≡ cond b (of_slot n) 0
      go true = omega arith
      go false = refl

  given_steps : (specs : List Spec) (gs : List GivenProperty) → total of_step (given_sets w specs gs) ≤ given_sum of_slot place specs gs
  given_steps specs [] = omega arith
  given_steps specs (g ∷ gs) =
      let t = total_both of_step (cond (is_at_construction (read no_spec specs g.slot)) [] (set_of (given_value w g.given) g.slot)) (given_sets w specs gs) in
      let h = given_steps specs gs in
      let e = go (is_at_construction (read no_spec specs g.slot)) (given_value w g.given) in
      omega (arith, t, h, e)
    where
      go : (b : Bool) (o : Option Value) → total of_step (cond b [] (set_of o g.slot)) ≤ cond b 0 (of_slot g.slot)
      go true o = omega arith
      go false None = omega arith
      go false (Some v) = omega arith

  run_steps : (ms : List ConstructStep) → Each (λ m. of_step m ≡ total of_run (programs_of (m ∷ []))) ms → total of_step ms ≡ total of_run (programs_of ms)
  run_steps [] all = refl
  run_steps (sets slot v ∷ ms) all = let h = run_steps ms all.1 in let e = all.0 in omega (arith, h, e)
  run_steps (runs program ∷ ms) all = let h = run_steps ms all.1 in omega (arith, h)
  run_steps (thaws ∷ ms) all = let h = run_steps ms all.1 in let e = all.0 in omega (arith, h, e)

  each_run : (class : ℕ) → Each (λ m. of_step m ≡ total of_run (programs_of (m ∷ []))) (constructed_runs d class)
  each_run class =
      each_flat (λ m. of_step m ≡ total of_run (programs_of (m ∷ []))) (λ c. run_of (class_of d c).constructed) (reverse (lineage d.types class))
      (λ c h. one (class_of d c).constructed)
    where
      one : (o : Option ℕ) → Each (λ m. of_step m ≡ total of_run (programs_of (m ∷ []))) (run_of o)
      one None = tt
      one (Some program) = (omega arith, tt)

  -- ** what the making raises

  all_set : (gs : List GivenProperty) (n : ℕ) (specs : List Spec) → total of_channel (set_from place gs n specs) ≡ set_sum of_slot place gs n specs
  all_set gs n [] = refl
  all_set gs n (s ∷ specs) =
      let t = total_both of_channel (cond (is_at_construction s || list_any (is_given place n) gs) (property place n ∷ []) []) (set_from place gs (suc n) specs) in
      let h = all_set gs (suc n) specs in
      let e = go (is_at_construction s || list_any (is_given place n) gs) in
      omega (arith, t, h, e)
    where
      go : (b : Bool) → total of_channel (cond b (property place n ∷ []) []) ≡ cond b (of_slot n) 0
      go true = omega arith
      go false = refl

  -- those that are not there cost nothing
  all_present : (cs : List Channel) → total (node_price d P t) cs ≡ total (node_price d P t) (present d cs)
  all_present [] = refl
  all_present (c ∷ cs) =
      let h = all_present cs in
      let t = total_first (node_price d P t) (is_channel d) c cs in
      let e = go (is_channel d c) refl in
      omega (arith, h, t, e)
    where
      go : (b : Bool) → is_channel d c ≡ b → cond b (node_price d P t c) 0 ≡ node_price d P t c
      go true e = refl
      go false e = sym (absent_node d P t a solves c e)

  -- the programs of a construction are within its node
  programs_cheap : total (begun_price P t) (constructed_at d place) ≤ node_price d P t (constructed place)
  programs_cheap = go (is_filled (constructed_at d place)) refl
    where
      none : (xs : List ℕ) → is_filled xs ≡ false → total (begun_price P t) xs ≡ 0
      none [] e = refl
      none (x ∷ xs) e = absurd (cc)

      go : (b : Bool) → is_filled (constructed_at d place) ≡ b → total (begun_price P t) (constructed_at d place) ≤ node_price d P t (constructed place)
      go true e = let k = channel_is d P t solves a (constructed place) e in omega (arith, k)
      go false e = let z = none (constructed_at d place) e in omega (arith, z)

  pub construction_price : (p : Place) → place_at d place ≡ Some p → PlaceRead d place p →
      total of_step (construction d w place p) + P (deeds.construct place) ≤ construction_toll d P place p + total (node_price d P t) (raised_by_making d place p)
  construction_price p is well =
      let specs = specs_of d p.class in
      let given = not_forward place p.given in
      let l1 = construct_sets w given 0 specs in
      let l2 = constructed_runs d p.class in
      let l3 = given_sets w specs given in
      let t1 = total_both of_step l1 (l2 ++ (l3 ++ thaws ∷ [])) in
      let t2 = total_both of_step l2 (l3 ++ thaws ∷ []) in
      let t3 = total_both of_step l3 (thaws ∷ []) in
      let m = made_steps given 0 specs in
      let r = run_steps l2 (each_run p.class) in
      let g = given_steps specs given in
      let all = all_sets of_slot place specs p.given (specs_given d place p p.given well.given) well.slots in
      let programs : total of_run (constructed_at d place) ≡ total of_run (programs_of l2) =
      ap (λ o. total of_run (of_class (λ class. programs_of (constructed_runs d class)) (option_map (λ (p : Place). p.class) o))) is in
      let cheap = programs_cheap in
      let raised = all_present (constructed place ∷ set_from place p.given 0 specs) in
      let set = all_set p.given 0 specs in
      let split = split_channels (set_from place p.given 0 specs) in
      let split_runs = total_plus (λ (q : ℕ). P (deeds.construct place)) (begun_price P t) (constructed_at d place) in
      omega (arith, t1, t2, t3, m, r, g, all, programs, cheap, raised, set, split, split_runs)
    where
      split_channels : (cs : List Channel) → total of_channel cs ≡ total (λ c. P (deeds.construct place) + put_price d P c) cs + total (node_price d P t) cs
      split_channels [] = omega arith
      split_channels (c ∷ cs) = let h = split_channels cs in omega (arith, h)
