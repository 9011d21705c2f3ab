-- Where a dispatch begins the potential is within what it is asked for and the ends of the objects that may live.
use Rattle.std.proofs.Common.{◌≡◌, refl, sym, ap, ◌∙◌, ℕ, zero, suc, ◌+◌, ◌*◌, ◌≤◌, ◌<◌, Bool, true, false, cond, List, [], ◌∷◌, ◌++◌, length, map, Option, None, Some, slice_get, arith}
use Rattle.std.specs.Prelude.{nat_le}
use Rattle.std.specs.List.{filter, flat_map}
use Rattle.ui_machine.specs.Seq.{listed, read, total}
use Rattle.ui_machine.specs.Definition.{Definition}
use Rattle.ui_machine.specs.Definition.Lookups.{place_at}
use Rattle.ui_machine.specs.Definition.Places.{Attached, Bind, Given, GivenProperty, Place, named, value}
use Rattle.ui_machine.specs.Rules.Build.{adopts_if, build_items, connected_items, forward_given, forward_items, forward_of, is_making, made_items, numbered}
use Rattle.ui_machine.specs.Rules.Construction.{is_forward}
use Rattle.ui_machine.specs.Runs.{beginning, of_build, of_request}
use Rattle.ui_machine.specs.State.Config.{World}
use Rattle.ui_machine.specs.State.Objects.{Object, Objects, live, one_if}
use Rattle.ui_machine.specs.State.Peers.{Peer}
use Rattle.ui_machine.specs.State.Sources.{Source, source_of}
use Rattle.ui_machine.specs.State.Tasks.{Due, Item, Request, binds, connects, forwards, makes}
use Rattle.law_typing.specs.Good.Standing.{standing}
use Rattle.law_typing.specs.Graph.{built_objects, forwards_from, forwards_of, raised_by_making}
use Rattle.law_typing.specs.Graph.Channels.{Channel, is_channel, present, property}
use Rattle.law_typing.specs.Graph.Tables.{Tables}
use Rattle.law_typing.specs.Laws.StepsKeepGood.{IsGood, IsResting}
use Rattle.law_typing.specs.Verdict.Accepted.{Accepted}
use Rattle.law_typing.proofs.CostProofs.{listed_in}
use Rattle.law_typing.proofs.Lists.{greatest_in}
use Rattle.law_static.proofs.BuildCostProofs.{from_first, read_making}
use Rattle.law_static.proofs.PlanCostProofs.{mapped_first, total_first}
use Rattle.law_prices.specs.Asked.{Asked, asked_by}
use Rattle.law_prices.specs.Asked as asked
use Rattle.law_prices.specs.Deeds.{PriceList}
use Rattle.law_prices.specs.Deeds as deeds
use Rattle.law_prices.specs.Potential.{floating_price, item_raises, potential, queued_price}
use Rattle.law_prices.specs.Prices.{SolvesPrices, by_number, dearest_end, ending_price, first_price, item_toll, node_price, price, price_of, store}
use Rattle.law_prices.proofs.Nodes.{absent_node}
use Rattle.law_prices.proofs.Sums.{total_both, total_plus}
use Rattle.law_prices.proofs.Whole.{objects_price}

-- ** products and lists

one_more : (n k : ℕ) → suc n * k ≡ n * k + k
one_more n k = grind arith

pub times_less : (n m k : ℕ) → n ≤ m → n * k ≤ m * k
times_less zero m k h = omega arith
times_less (suc n) zero k h = absurd (omega (arith, h))
times_less (suc n) (suc m) k h = let r = times_less n m k (omega (arith, h)) in let a = one_more n k in let b = one_more m k in omega (arith, r, a, b)

within_length : {A : Type 0} (xs : List A) (i : ℕ) (x : A) → slice_get xs i ≡ Some x → i < length xs
within_length [] i x e = absurd (cc)
within_length (y ∷ xs) zero x e = omega arith
within_length (y ∷ xs) (suc i) x e = let h = within_length xs i x e in omega (arith, h)

module _ (d : Definition) (a : Accepted d) (P : PriceList) (t : Tables) (solves : SolvesPrices d P t) where
  abbrev dearest : ℕ
  dearest = dearest_end d P

  -- the end of an object of a place is no dearer than the dearest
  end_within : (place : ℕ) (p : Place) → place_at d place ≡ Some p → ending_price P place ≤ dearest
  end_within place p is =
      let low = within_length d.places place p is in
      greatest_in (ending_price P) (listed (λ place. place) (suc (length d.places))) place (listed_in (λ place. place) (suc (length d.places)) place (omega (arith, low)))

  -- ** objects at rest

  -- where nothing waits the objects are within the ends of as many
  at_rest : (os : Objects) → ((i : ℕ) (o : Object) → read None os i ≡ Some o → (o.queue ≡ []) × (p : Place) × (place_at d o.place ≡ Some p)) → objects_price d P t 0 os ≤ total one_if os * dearest
  at_rest [] good = omega arith
  at_rest (None ∷ os) good = let h = at_rest os (λ i o e. good (suc i) o e) in omega (arith, h)
  at_rest (Some o ∷ os) good =
      let h = at_rest os (λ i o e. good (suc i) o e) in
      let this = good 0 o refl in
      let empty = ap (λ q. total (queued_price d P t 0 o.place) q) this.0 in
      let end = end_within o.place this.1 this.2 in
      let more = one_more (total one_if os) dearest in
      let dispose = go o.disposed in
      omega (arith, h, empty, end, more, dispose)
    where
      go : (b : Bool) → cond b 0 (P (deeds.dispose o.place)) ≤ P (deeds.dispose o.place)
      go true = omega arith
      go false = omega arith

  module _ (w : World) (rest : IsResting d a w) where
    objects_rest : objects_price d P t 0 w.objects ≤ store d P
    objects_rest =
        let low = at_rest w.objects (λ i o e. ((rest.thawed (suc i) o e).1, (rest.objects (suc i) o e).place, (rest.objects (suc i) o e).is)) in
        let few = times_less (live w.objects) d.most_objects dearest rest.few in
        omega (arith, low, few)

    pub request_begins : (r : Request) → potential d P t (of_request w r) ≤ price d P t (asked_by r) + store d P
    request_begins r =
        let os = objects_rest in
        let none = ap (λ xs. floating_price d P (standing w.objects) xs) rest.floating in
        omega (arith, os, none)

    pub source_begins : (number : ℕ) (s : Source) → source_of number w.sources ≡ Some s → potential d P t (beginning w (Due number)) ≤ price d P t (asked.source s.program) + store d P
    source_begins number s is =
        let os = objects_rest in
        let none = ap (λ xs. floating_price d P (standing w.objects) xs) rest.floating in
        let due = ap (price_of (λ (s : Source). price d P t (asked.source s.program))) is in
        omega (arith, os, none, due)

  -- ** the build

  abbrev node : Channel → ℕ
  node c = node_price d P t c

  abbrev raises : Item → ℕ
  raises i = item_raises d P t i

  -- the places after the first from a number on
  later : {A : Type 0} (all : List A) (n : ℕ) (x : A) (xs : List A) → ((i : ℕ) (y : A) → slice_get (x ∷ xs) i ≡ Some y → slice_get all (n + i) ≡ Some y) → (i : ℕ) (y : A) → slice_get xs i ≡ Some y → slice_get all (suc n + i) ≡ Some y
  later all n x xs at i y e = let s : suc n + i ≡ n + suc i = omega arith in ap (slice_get all) s ∙ at (suc i) y e

  here : {A : Type 0} (all : List A) (n : ℕ) (x : A) (xs : List A) → ((i : ℕ) (y : A) → slice_get (x ∷ xs) i ≡ Some y → slice_get all (n + i) ≡ Some y) → slice_get all n ≡ Some x
  here all n x xs at = let s : n ≡ n + 0 = omega arith in ap (slice_get all) s ∙ at 0 x refl

  adopted : (n : ℕ) (o : Option ℕ) → (total raises (adopts_if n o) ≡ 0) × (total is_making (adopts_if n o) ≡ 0)
  adopted n None = (refl, refl)
  adopted n (Some above) = (omega arith, omega arith)

  made : (n : ℕ) (ps : List Place) → ((i : ℕ) (p : Place) → slice_get ps i ≡ Some p → slice_get d.places (n + i) ≡ Some p) →
      total raises (made_items n ps) ≤ total (λ cs. total node cs) (built_objects d n ps) + total is_making (made_items n ps) * dearest
  made n [] at = omega arith
  made n (x ∷ ps) at =
      let h = made (suc n) ps (later d.places n x ps at) in
      let first = cond x.is_prototype [] (makes n ∷ adopts_if n x.parent) in
      let one = total_both raises first (made_items (suc n) ps) in
      let two = total_both (λ cs. total node cs) (cond x.is_prototype [] (raised_by_making d n x ∷ [])) (built_objects d (suc n) ps) in
      let three = total_both is_making first (made_items (suc n) ps) in
      go x.is_prototype refl h one two three
    where
      own : slice_get d.places n ≡ Some x
      own = here d.places n x ps at

      go : (b : Bool) → x.is_prototype ≡ b → total raises (made_items (suc n) ps) ≤ total (λ cs. total node cs) (built_objects d (suc n) ps) + total is_making (made_items (suc n) ps) * dearest →
          total raises (cond b [] (makes n ∷ adopts_if n x.parent) ++ made_items (suc n) ps) ≡ total raises (cond b [] (makes n ∷ adopts_if n x.parent)) + total raises (made_items (suc n) ps) →
          total (λ cs. total node cs) (cond b [] (raised_by_making d n x ∷ []) ++ built_objects d (suc n) ps) ≡ total (λ cs. total node cs) (cond b [] (raised_by_making d n x ∷ [])) + total (λ cs. total node cs) (built_objects d (suc n) ps) →
          total is_making (cond b [] (makes n ∷ adopts_if n x.parent) ++ made_items (suc n) ps) ≡ total is_making (cond b [] (makes n ∷ adopts_if n x.parent)) + total is_making (made_items (suc n) ps) →
          total raises (cond b [] (makes n ∷ adopts_if n x.parent) ++ made_items (suc n) ps)
          ≤ total (λ cs. total node cs) (cond b [] (raised_by_making d n x ∷ []) ++ built_objects d (suc n) ps) + total is_making (cond b [] (makes n ∷ adopts_if n x.parent) ++ made_items (suc n) ps) * dearest
      go true f h one two three = h
      go false f h one two three =
          let r = ap (total node) (read_making d 0 n n d.places x (omega arith) own).0 in
          let none = adopted n x.parent in
          let z = none.0 in
          let count : total is_making (makes n ∷ adopts_if n x.parent ++ made_items (suc n) ps) ≡ suc (total is_making (made_items (suc n) ps)) = (let y = none.1 in omega (arith, y, three)) in
          let times = ap (λ m. m * dearest) count ∙ one_more (total is_making (made_items (suc n) ps)) dearest in
          let end = end_within n x own in
          omega (arith, h, one, two, r, z, times, end)

  -- forward values; what is not there raises nothing
  present_same : (cs : List Channel) → total node cs ≡ total node (present d cs)
  present_same [] = refl
  present_same (c ∷ cs) =
      let h = present_same cs in
      let first = total_first node (is_channel d) c cs in
      let e = go (is_channel d c) refl in
      omega (arith, h, first, e)
    where
      go : (b : Bool) → is_channel d c ≡ b → cond b (node c) 0 ≡ node c
      go true e = refl
      go false e = sym (absent_node d P t a solves c e)

  forward_one : (n : ℕ) (g : GivenProperty) → total raises (forward_of n g) ≡ cond (is_forward n g.given) (node (property n g.slot)) 0
  forward_one n g = go g.given
    where
      at : (to : ℕ) (b : Bool) → total raises (cond b (forwards n g.slot to ∷ []) []) ≡ cond b (node (property n g.slot)) 0
      at to true = omega arith
      at to false = refl

      go : (x : Given) → total raises (forward_given n g.slot x) ≡ cond (is_forward n x) (node (property n g.slot)) 0
      go (value v) = refl
      go (named to) = at to (nat_le n to)

  forward_values : (n : ℕ) (gs : List GivenProperty) → total raises (flat_map (forward_of n) gs) ≡ total node (map (λ (g : GivenProperty). property n g.slot) (filter (λ (g : GivenProperty). is_forward n g.given) gs))
  forward_values n [] = refl
  forward_values n (g ∷ gs) =
      let h = forward_values n gs in
      let one = forward_one n g in
      let both = total_both raises (forward_of n g) (flat_map (forward_of n) gs) in
      let m = mapped_first node (λ (g : GivenProperty). property n g.slot) (λ (g : GivenProperty). is_forward n g.given) g gs in
      omega (arith, h, one, both, m)

  forwarded : (n : ℕ) (ps : List Place) → total raises (forward_items n ps) ≡ total node (forwards_from d n ps)
  forwarded n [] = refl
  forwarded n (x ∷ ps) =
      let h = forwarded (suc n) ps in
      let one = total_both raises (cond x.is_prototype [] (flat_map (forward_of n) x.given)) (forward_items (suc n) ps) in
      let two = total_both node (cond x.is_prototype [] (forwards_of d n x)) (forwards_from d (suc n) ps) in
      let e = go x.is_prototype in
      omega (arith, h, one, two, e)
    where
      go : (b : Bool) → total raises (cond b [] (flat_map (forward_of n) x.given)) ≡ total node (cond b [] (forwards_of d n x))
      go true = refl
      go false = forward_values n x.given ∙ present_same (map (λ (g : GivenProperty). property n g.slot) (filter (λ (g : GivenProperty). is_forward n g.given) x.given))

  bound_first : (n : ℕ) (xs : List Bind) → ((i : ℕ) (b : Bind) → slice_get xs i ≡ Some b → slice_get d.bindings (n + i) ≡ Some b) → total raises (numbered binds n xs) ≡ by_number (first_price d P t) n xs
  bound_first n [] at = refl
  bound_first n (x ∷ xs) at =
      let h = bound_first (suc n) xs (later d.bindings n x xs at) in
      let own = ap (price_of (first_price d P t n)) (here d.bindings n x xs at) in
      omega (arith, h, own)

  attached : (place n : ℕ) (xs : List Attached) → total raises (numbered (connects place) n xs) ≡ 0
  attached place n [] = refl
  attached place n (x ∷ xs) = let h = attached place (suc n) xs in omega (arith, h)

  connected : (n : ℕ) (ps : List Place) → total raises (connected_items n ps) ≡ 0
  connected n [] = refl
  connected n (x ∷ ps) =
      let h = connected (suc n) ps in
      let own = attached n 0 x.signals in
      let both = total_both raises (numbered (connects n) 0 x.signals) (connected_items (suc n) ps) in
      omega (arith, h, own, both)

  pub build_begins : (most_counted : ℕ) (peers : List Peer) → IsGood d a most_counted (of_build d peers) → potential d P t (of_build d peers) ≤ price d P t asked.build + store d P
  build_begins most_counted peers good =
      let m = made 0 d.places (from_first d a d.places) in
      let f = forwarded 0 d.places in
      let b = bound_first 0 d.bindings (from_first d a d.bindings) in
      let k = connected 0 d.places in
      let l1 = made_items 0 d.places in
      let l2 = forward_items 0 d.places in
      let l3 = numbered binds 0 d.bindings in
      let l4 = connected_items 0 d.places in
      let r1 = total_both raises l1 (l2 ++ (l3 ++ l4)) in
      let r2 = total_both raises l2 (l3 ++ l4) in
      let r3 = total_both raises l3 l4 in
      let c1 = total_both is_making l1 (l2 ++ (l3 ++ l4)) in
      let few = good.few in
      let count : total is_making l1 ≤ d.most_objects = omega (arith, c1, few) in
      let ends = times_less (total is_making l1) d.most_objects dearest count in
      let split = total_plus (item_toll d P) raises (build_items d) in
      omega (arith, m, f, b, k, r1, r2, r3, ends, split)
