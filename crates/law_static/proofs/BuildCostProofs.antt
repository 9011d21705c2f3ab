-- The build of an accepted definition begins well: its items cost no more than the report says, and go no deeper.
use Rattle.std.proofs.Common.{◌≡◌, refl, sym, ap, ◌∙◌, ℕ, zero, suc, ◌+◌, ◌<◌, ◌≤◌, Bool, true, false, cond, List, [], ◌∷◌, ◌++◌, length, map, Option, None, Some, slice_get, arith}
use Rattle.std.specs.Prelude.{◌&&◌, nat_le}
use Rattle.std.specs.List.{list_all, filter, flat_map}
use Rattle.std.proofs.lemmas.Bool.{le-leb}
use Rattle.ui_machine.specs.Seq.{read, total}
use Rattle.ui_machine.specs.Definition.Properties.{has_flags}
use Rattle.ui_machine.specs.Definition.{Definition}
use Rattle.ui_machine.specs.Definition.Places.{Given, value, named, GivenProperty, Attached, Place, Bind}
use Rattle.ui_machine.specs.State.Tasks.{Item, makes, adopts, forwards, binds, connects}
use Rattle.ui_machine.specs.Rules.Build.{adopts_if, made_items, forward_given, forward_of, forward_items, numbered, connected_items, is_making}
use Rattle.ui_machine.specs.Rules.Construction.{is_forward}
use Rattle.law_typing.specs.Rules.BindingRules.{word_of}
use Rattle.law_typing.specs.Graph.Channels.{Channel, property, is_channel, present, is_pair, source_of, target_of}
use Rattle.law_typing.specs.Graph.{graph, raised_by_making, makings_from, forwards_of, forwards_from, built_objects}
use Rattle.law_typing.specs.Graph.Tables.{Tables, entry, greatest}
use Rattle.law_typing.specs.Graph.Costs.{with_other, other_end, node_cost, making_cost}
use Rattle.law_typing.specs.Graph.Depths.{depth_within, depth_within_if, raised_of, property_depth, making_depth, depth}
use Rattle.law_typing.specs.Verdict.Accepted.{Accepted}
use Rattle.law_typing.specs.Laws.WellRead.{is_object}
use Rattle.law_typing.specs.Laws.StepsKeepGood.{BuildBegins}
use Rattle.law_typing.specs.Good.Builds.{item_cost, item_depth}
use Rattle.law_typing.specs.Good.DueCosts.{is_setting_below, transfer_cost, transfer_depth}
use Rattle.law_typing.proofs.Lists.{each_in}
use Rattle.law_typing.proofs.OneSolutionProofs.{entry_below}
use Rattle.law_typing.proofs.PairProofs.{no_words, pair_read}
use Rattle.law_typing.proofs.BuildBegins.{begins}
use Rattle.law_static.specs.Raises.{raised_there}
use Rattle.law_static.proofs.AbsentProofs.{absent_costs_nothing}
use Rattle.law_static.proofs.RaisesProofs.{channels_known}
use Rattle.law_static.proofs.SubclassProofs.{get_in}
use Rattle.law_static.proofs.PlanCostProofs.{total_append, total_first, mapped_first}

-- ** what is made

pub read_making : (d : Definition) (n m i : ℕ) (ps : List Place) (p : Place) → m ≡ n + i → slice_get ps i ≡ Some p →
    (read [] (makings_from d n ps) i ≡ raised_by_making d m p) × (i < length (makings_from d n ps))
read_making d n m i [] p at e = absurd (cc)
read_making d n m zero (x ∷ ps) p at e =
    let s : x ≡ p = cc in
    let k : n ≡ m = omega (arith, at) in
    (ap (λ n. raised_by_making d n x) k ∙ ap (raised_by_making d m) s, omega arith)
read_making d n m (suc i) (x ∷ ps) p at e = let h = read_making d (suc n) m i ps p (omega (arith, at)) e in (h.0, (let l = h.1 in omega (arith, l)))

read_greatest : (f : List Channel → ℕ) (xs : List (List Channel)) (i : ℕ) → i < length xs → f (read [] xs i) ≤ greatest f xs
read_greatest f [] i h = absurd (omega (arith, h))
read_greatest f (x ∷ xs) zero h = omega arith
read_greatest f (x ∷ xs) (suc i) h = let k = read_greatest f xs i (omega (arith, h)) in omega (arith, k)

all_both : {A : Type 0} (test : A → Bool) (xs ys : List A) → list_all test xs ≡ true → list_all test ys ≡ true → list_all test (xs ++ ys) ≡ true
all_both test [] ys a b = b
all_both test (x ∷ xs) ys a b = go (λ h. all_both test xs ys h b) (test x) a
  where
    go : (list_all test xs ≡ true → list_all test (xs ++ ys) ≡ true) → (t : Bool) → (t && list_all test xs) ≡ true → (t && list_all test (xs ++ ys)) ≡ true
    go rec true a = rec a
    go rec false a = absurd (cc)

both : (a b : Bool) → a ≡ true → b ≡ true → (a && b) ≡ true
both a b p q = ap (λ x. x && b) p ∙ q

module _ (d : Definition) (a : Accepted d) where
  abbrev costs : Tables
  costs = a.weighed.costs

  abbrev depths : Tables
  depths = a.weighed.depths

  abbrev most : ℕ
  most = depth (graph d) depths

  abbrev node : Channel → ℕ
  node c = node_cost (graph d) costs c

  abbrev price : Item → ℕ
  price item = item_cost d costs item

  -- the places after the first from a number on
  later : (n : ℕ) (x : Place) (ps : List Place) → ((i : ℕ) (p : Place) → slice_get (x ∷ ps) i ≡ Some p → slice_get d.places (n + i) ≡ Some p) →
      (i : ℕ) (p : Place) → slice_get ps i ≡ Some p → slice_get d.places (suc n + i) ≡ Some p
  later n x ps at i p e = let s : suc n + i ≡ n + suc i = omega arith in ap (slice_get d.places) s ∙ at (suc i) p e

  here : (n : ℕ) (x : Place) (ps : List Place) → ((i : ℕ) (p : Place) → slice_get (x ∷ ps) i ≡ Some p → slice_get d.places (n + i) ≡ Some p) → slice_get d.places n ≡ Some x
  here n x ps at = let s : n ≡ n + 0 = omega arith in ap (slice_get d.places) s ∙ at 0 x refl

  adopted : (n : ℕ) (o : Option ℕ) → (total price (adopts_if n o) ≡ 0) × (total is_making (adopts_if n o) ≡ 0)
  adopted n None = (refl, refl)
  adopted n (Some above) = (omega arith, omega arith)

  made : (n : ℕ) (ps : List Place) → ((i : ℕ) (p : Place) → slice_get ps i ≡ Some p → slice_get d.places (n + i) ≡ Some p) →
      total price (made_items n ps) ≡ total (making_cost (graph d) costs) (built_objects d n ps)
  made n [] at = refl
  made n (x ∷ ps) at =
      let h = made (suc n) ps (later n x ps at) in
      let t = total_append price (cond x.is_prototype [] (makes n ∷ adopts_if n x.parent)) (made_items (suc n) ps) in
      let u = total_append (making_cost (graph d) costs) (cond x.is_prototype [] (raised_by_making d n x ∷ [])) (built_objects d (suc n) ps) in
      let e = go x.is_prototype in
      omega (arith, h, t, u, e)
    where
      go : (b : Bool) → total price (cond b [] (makes n ∷ adopts_if n x.parent)) ≡ total (making_cost (graph d) costs) (cond b [] (raised_by_making d n x ∷ []))
      go true = refl
      go false =
          let r = read_making d 0 n n d.places x (omega arith) (here n x ps at) in
          let same = ap (making_cost (graph d) costs) r.0 in
          let z = (adopted n x.parent).0 in
          omega (arith, same, z)

  pub made_count : (n : ℕ) (ps : List Place) → total is_making (made_items n ps) ≡ total is_object ps
  made_count n [] = refl
  made_count n (x ∷ ps) =
      let h = made_count (suc n) ps in
      let t = total_append is_making (cond x.is_prototype [] (makes n ∷ adopts_if n x.parent)) (made_items (suc n) ps) in
      let e = go x.is_prototype in
      omega (arith, h, t, e)
    where
      go : (b : Bool) → total is_making (cond b [] (makes n ∷ adopts_if n x.parent)) ≡ cond b 0 1
      go true = refl
      go false = let z = (adopted n x.parent).1 in omega (arith, z)

  -- ** forward values

  present_same : (cs : List Channel) → total node cs ≡ total node (present d cs)
  present_same [] = refl
  present_same (c ∷ cs) =
      let h = present_same cs in
      let t = total_first node (is_channel d) c cs in
      let e = go (is_channel d c) refl in
      omega (arith, h, t, e)
    where
      go : (b : Bool) → is_channel d c ≡ b → cond b (node c) 0 ≡ node c
      go true e = refl
      go false e = sym (absent_costs_nothing d a c e)

  forward_one : (n : ℕ) (g : GivenProperty) → (total price (forward_of n g) ≡ cond (is_forward n g.given) (node (property n g.slot)) 0) × (total is_making (forward_of n g) ≡ 0)
  forward_one n g = go g.given
    where
      at : (to : ℕ) (b : Bool) → (total price (cond b (forwards n g.slot to ∷ []) []) ≡ cond b (node (property n g.slot)) 0) × (total is_making (cond b (forwards n g.slot to ∷ []) []) ≡ 0)
      at to true = (omega arith, omega arith)
      at to false = (refl, refl)

      go : (x : Given) → (total price (forward_given n g.slot x) ≡ cond (is_forward n x) (node (property n g.slot)) 0) × (total is_making (forward_given n g.slot x) ≡ 0)
      go (value v) = (refl, refl)
      go (named to) = at to (nat_le n to)

  forward_values : (n : ℕ) (gs : List GivenProperty) →
      (total price (flat_map (forward_of n) gs) ≡ total node (map (λ (g : GivenProperty). property n g.slot) (filter (λ (g : GivenProperty). is_forward n g.given) gs)))
      × (total is_making (flat_map (forward_of n) gs) ≡ 0)
  forward_values n [] = (refl, refl)
  forward_values n (g ∷ gs) =
      let h = forward_values n gs in
      let p = h.0 in
      let q = h.1 in
      let one = forward_one n g in
      let o = one.0 in
      let z = one.1 in
      let t = total_append price (forward_of n g) (flat_map (forward_of n) gs) in
      let u = total_append is_making (forward_of n g) (flat_map (forward_of n) gs) in
      let m = mapped_first node (λ (g : GivenProperty). property n g.slot) (λ (g : GivenProperty). is_forward n g.given) g gs in
      (omega (arith, p, o, t, m), omega (arith, q, z, u))

  pub forwarded : (n : ℕ) (ps : List Place) → (total price (forward_items n ps) ≡ total node (forwards_from d n ps)) × (total is_making (forward_items n ps) ≡ 0)
  forwarded n [] = (refl, refl)
  forwarded n (x ∷ ps) =
      let h = forwarded (suc n) ps in
      let p = h.0 in
      let q = h.1 in
      let t = total_append price (cond x.is_prototype [] (flat_map (forward_of n) x.given)) (forward_items (suc n) ps) in
      let u = total_append node (cond x.is_prototype [] (forwards_of d n x)) (forwards_from d (suc n) ps) in
      let m = total_append is_making (cond x.is_prototype [] (flat_map (forward_of n) x.given)) (forward_items (suc n) ps) in
      let e = go x.is_prototype in
      let e0 = e.0 in
      let e1 = e.1 in
      (omega (arith, p, t, u, e0), omega (arith, q, m, e1))
    where
      go : (b : Bool) → (total price (cond b [] (flat_map (forward_of n) x.given)) ≡ total node (cond b [] (forwards_of d n x))) × (total is_making (cond b [] (flat_map (forward_of n) x.given)) ≡ 0)
      go true = (refl, refl)
      go false =
          let h = forward_values n x.given in
          (h.0 ∙ present_same (map (λ (g : GivenProperty). property n g.slot) (filter (λ (g : GivenProperty). is_forward n g.given) x.given)), h.1)

  -- ** bindings

  less_set : (b : Bool) (n : ℕ) → cond b 0 n ≤ n
  less_set true n = omega arith
  less_set false n = omega arith

  own_less : (c : Channel) → entry costs.channels c ≤ node c
  own_less c = by (other_end (graph d) c)
    where
      by : (o : Option Channel) → entry costs.channels c ≤ with_other costs (entry costs.channels c) o
      by None = omega arith
      by (Some other) = omega arith

  first_cost : (b : Bind) → transfer_cost d costs [] false (Some b) ≤ 1 + node (target_of b)
  first_cost b = go (is_pair b)
    where
      go : (p : Bool) → cond p (cond (is_setting_below d [] (source_of b)) 0 (1 + entry costs.channels (target_of b))) (1 + node (target_of b)) ≤ 1 + node (target_of b)
      go true = let l = less_set (is_setting_below d [] (source_of b)) (1 + entry costs.channels (target_of b)) in let o = own_less (target_of b) in omega (arith, l, o)
      go false = omega arith

  pub bound : (n : ℕ) (xs : List Bind) → ((i : ℕ) (b : Bind) → slice_get xs i ≡ Some b → slice_get d.bindings (n + i) ≡ Some b) →
      (total price (numbered binds n xs) ≤ total (λ c. 1 + node c) (map target_of (filter (λ (b : Bind). has_flags 2 b.flags) xs))) × (total is_making (numbered binds n xs) ≡ 0)
  bound n [] at = (omega arith, refl)
  bound n (x ∷ xs) at =
      let h = bound (suc n) xs (λ i b e. (let s : suc n + i ≡ n + suc i = omega arith in ap (slice_get d.bindings) s ∙ at (suc i) b e)) in
      let p = h.0 in
      let q = h.1 in
      let m = mapped_first (λ c. 1 + node c) target_of (λ (b : Bind). has_flags 2 b.flags) x xs in
      let own : slice_get d.bindings n ≡ Some x = (let s : n ≡ n + 0 = omega arith in ap (slice_get d.bindings) s ∙ at 0 x refl) in
      let is : price (binds n) ≡ cond (has_flags 2 x.flags) (transfer_cost d costs [] false (Some x)) 0 = rw own in
      let e = go (has_flags 2 x.flags) in
      (omega (arith, p, m, is, e), omega (arith, q))
    where
      go : (b : Bool) → cond b (transfer_cost d costs [] false (Some x)) 0 ≤ cond b (1 + node (target_of x)) 0
      go true = first_cost x
      go false = omega arith

  -- ** signals

  attached_none : (place n : ℕ) (xs : List Attached) → (total price (numbered (connects place) n xs) ≡ 0) × (total is_making (numbered (connects place) n xs) ≡ 0)
  attached_none place n [] = (refl, refl)
  attached_none place n (x ∷ xs) = let h = attached_none place (suc n) xs in let p = h.0 in let q = h.1 in (omega (arith, p), omega (arith, q))

  pub connected_none : (n : ℕ) (ps : List Place) → (total price (connected_items n ps) ≡ 0) × (total is_making (connected_items n ps) ≡ 0)
  connected_none n [] = (refl, refl)
  connected_none n (x ∷ ps) =
      let h = connected_none (suc n) ps in
      let p = h.0 in
      let q = h.1 in
      let o = attached_none n 0 x.signals in
      let o0 = o.0 in
      let o1 = o.1 in
      let t = total_append price (numbered (connects n) 0 x.signals) (connected_items (suc n) ps) in
      let u = total_append is_making (numbered (connects n) 0 x.signals) (connected_items (suc n) ps) in
      (omega (arith, p, o0, t), omega (arith, q, o1, u))

  -- ** frames

  abbrev is_shallow : Item → Bool
  is_shallow item = nat_le (item_depth d depths item) most

  entry_less : (c : Channel) → entry depths.channels c ≤ most
  entry_less c = let h = entry_below depths.channels c in omega (arith, h)

  made_shallow : (n : ℕ) (ps : List Place) → ((i : ℕ) (p : Place) → slice_get ps i ≡ Some p → slice_get d.places (n + i) ≡ Some p) → list_all is_shallow (made_items n ps) ≡ true
  made_shallow n [] at = refl
  made_shallow n (x ∷ ps) at = all_both is_shallow (cond x.is_prototype [] (makes n ∷ adopts_if n x.parent)) (made_items (suc n) ps) (go x.is_prototype) (made_shallow (suc n) ps (later n x ps at))
    where
      adopting : (o : Option ℕ) → list_all is_shallow (adopts_if n o) ≡ true
      adopting None = refl
      adopting (Some above) = both (is_shallow (adopts n)) true (le-leb 0 most (omega arith)) refl

      go : (b : Bool) → list_all is_shallow (cond b [] (makes n ∷ adopts_if n x.parent)) ≡ true
      go true = refl
      go false =
          let r = read_making d 0 n n d.places x (omega arith) (here n x ps at) in
          let g = read_greatest (making_depth depths) (graph d).makings n r.1 in
          both (is_shallow (makes n)) (list_all is_shallow (adopts_if n x.parent)) (le-leb (item_depth d depths (makes n)) most (omega (arith, g))) (adopting x.parent)

  forward_shallow : (n : ℕ) (gs : List GivenProperty) → list_all is_shallow (flat_map (forward_of n) gs) ≡ true
  forward_shallow n [] = refl
  forward_shallow n (g ∷ gs) = all_both is_shallow (forward_of n g) (flat_map (forward_of n) gs) (go g.given) (forward_shallow n gs)
    where
      at : (to : ℕ) (b : Bool) → list_all is_shallow (cond b (forwards n g.slot to ∷ []) []) ≡ true
      at to true = both (is_shallow (forwards n g.slot to)) true (le-leb (item_depth d depths (forwards n g.slot to)) most (entry_less (property n g.slot))) refl
      at to false = refl

      go : (x : Given) → list_all is_shallow (forward_given n g.slot x) ≡ true
      go (value v) = refl
      go (named to) = at to (nat_le n to)

  forwards_shallow : (n : ℕ) (ps : List Place) → list_all is_shallow (forward_items n ps) ≡ true
  forwards_shallow n [] = refl
  forwards_shallow n (x ∷ ps) = all_both is_shallow (cond x.is_prototype [] (flat_map (forward_of n) x.given)) (forward_items (suc n) ps) (go x.is_prototype) (forwards_shallow (suc n) ps)
    where
      go : (b : Bool) → list_all is_shallow (cond b [] (flat_map (forward_of n) x.given)) ≡ true
      go true = refl
      go false = forward_shallow n x.given

  within_less : (b : Bind) → is_channel d (target_of b) ≡ true → 1 + depth_within_if depths (raised_of (graph d) (target_of b)) ≤ most
  within_less b there =
      let k = channels_known d a (target_of b) there in
      let found = ap (depth_within_if depths) k.found in
      let deep = k.deep in
      let low = entry_less (target_of b) in
      let part = by (other_end (graph d) (target_of b)) in
      omega (arith, found, deep, low, part)
    where
      by : (o : Option Channel) → 1 + depth_within depths (raised_there d (target_of b)) ≤ property_depth (graph d) depths (raised_there d (target_of b)) o
      by None = omega arith
      by (Some other) = omega arith

  first_depth : (b : Bind) → word_of d b ≡ None → transfer_depth d depths [] false (Some b) ≤ most
  first_depth b word = go (is_pair b) refl
    where
      go : (p : Bool) → is_pair b ≡ p → cond p (cond (is_setting_below d [] (source_of b)) 0 (1 + depth_within_if depths (raised_of (graph d) (target_of b)))) (entry depths.channels (target_of b)) ≤ most
      go true e =
          let l = less_set (is_setting_below d [] (source_of b)) (1 + depth_within_if depths (raised_of (graph d) (target_of b))) in
          let w = within_less b (pair_read d b e word).target in
          omega (arith, l, w)
      go false e = entry_less (target_of b)

  bound_shallow : (n : ℕ) (xs : List Bind) → ((i : ℕ) (b : Bind) → slice_get xs i ≡ Some b → slice_get d.bindings (n + i) ≡ Some b) → list_all is_shallow (numbered binds n xs) ≡ true
  bound_shallow n [] at = refl
  bound_shallow n (x ∷ xs) at =
      both (is_shallow (binds n)) (list_all is_shallow (numbered binds (suc n) xs)) (le-leb (item_depth d depths (binds n)) most low)
      (bound_shallow (suc n) xs (λ i b e. (let s : suc n + i ≡ n + suc i = omega arith in ap (slice_get d.bindings) s ∙ at (suc i) b e)))
    where
      own : slice_get d.bindings n ≡ Some x
      own = let s : n ≡ n + 0 = omega arith in ap (slice_get d.bindings) s ∙ at 0 x refl

      word : word_of d x ≡ None
      word = each_in (λ b. word_of d b ≡ None) d.bindings (no_words d 0 d.bindings a.bindings) x (get_in d.bindings n x own)

      go : (b : Bool) → cond b (transfer_depth d depths [] false (Some x)) 0 ≤ most
      go true = first_depth x word
      go false = omega arith

      low : item_depth d depths (binds n) ≤ most
      low =
          let is : item_depth d depths (binds n) ≡ cond (has_flags 2 x.flags) (transfer_depth d depths [] false (Some x)) 0 = rw own in
          let g = go (has_flags 2 x.flags) in
          omega (arith, is, g)

  attached_shallow : (place n : ℕ) (xs : List Attached) → list_all is_shallow (numbered (connects place) n xs) ≡ true
  attached_shallow place n [] = refl
  attached_shallow place n (x ∷ xs) = both (is_shallow (connects place n)) (list_all is_shallow (numbered (connects place) (suc n) xs)) (le-leb 0 most (omega arith)) (attached_shallow place (suc n) xs)

  connected_shallow : (n : ℕ) (ps : List Place) → list_all is_shallow (connected_items n ps) ≡ true
  connected_shallow n [] = refl
  connected_shallow n (x ∷ ps) = all_both is_shallow (numbered (connects n) 0 x.signals) (connected_items (suc n) ps) (attached_shallow n 0 x.signals) (connected_shallow (suc n) ps)

  -- from the first on
  pub from_first : {A : Type 0} (xs : List A) (i : ℕ) (x : A) → slice_get xs i ≡ Some x → slice_get xs (0 + i) ≡ Some x
  from_first xs i x e = let s : 0 + i ≡ i = omega arith in ap (slice_get xs) s ∙ e

pub build_begins : BuildBegins
build_begins d well a peers ready =
    let m = made d a 0 d.places (from_first d a d.places) in
    let mc = made_count d a 0 d.places in
    let f = forwarded d a 0 d.places in
    let f0 = f.0 in
    let f1 = f.1 in
    let b = bound d a 0 d.bindings (from_first d a d.bindings) in
    let b0 = b.0 in
    let b1 = b.1 in
    let k = connected_none d a 0 d.places in
    let k0 = k.0 in
    let k1 = k.1 in
    let p = price d a in
    let l1 = made_items 0 d.places in
    let l2 = forward_items 0 d.places in
    let l3 = numbered binds 0 d.bindings in
    let l4 = connected_items 0 d.places in
    let t1 = total_append p l1 (l2 ++ (l3 ++ l4)) in
    let t2 = total_append p l2 (l3 ++ l4) in
    let t3 = total_append p l3 l4 in
    let u1 = total_append is_making l1 (l2 ++ (l3 ++ l4)) in
    let u2 = total_append is_making l2 (l3 ++ l4) in
    let u3 = total_append is_making l3 l4 in
    let objects = well.objects in
    begins d a.weighed.costs a.weighed.depths _ _ peers ready (record {
      cheap = le-leb _ _ (omega (arith, m, mc, f0, f1, b0, b1, k0, k1, t1, t2, t3, u1, u2, u3, objects));
      few = le-leb _ _ (omega (arith, mc, f1, b1, k1, u1, u2, u3, objects));
      shallow =
          all_both (is_shallow d a) l1 (l2 ++ (l3 ++ l4)) (made_shallow d a 0 d.places (from_first d a d.places))
          (all_both (is_shallow d a) l2 (l3 ++ l4) (forwards_shallow d a 0 d.places)
          (all_both (is_shallow d a) l3 l4 (bound_shallow d a 0 d.bindings (from_first d a d.bindings)) (connected_shallow d a 0 d.places)));
    })
