-- The parts of costs and depths are at most the whole.
use Rattle.std.proofs.Common.{◌≡◌, inl, inr, refl, sym, ap, subst, ◌∙◌, ℕ, zero, suc, ◌+◌, ◌-◌, ◌*◌, ◌≤◌, ◌<◌, Bool, true, false, cond, List, [], ◌∷◌, length, map, Option, None, Some, slice_get, arith}
use Rattle.std.specs.Prelude.{option_map}
use Rattle.std.specs.List.{cons_option, filter_map, find}
use Rattle.ui_machine.specs.Seq.{read, listed}
use Rattle.ui_machine.specs.Definition.{Definition}
use Rattle.ui_machine.specs.Definition.Places.{Place}
use Rattle.ui_machine.specs.Definition.Lookups.{slot_of, place_at}
use Rattle.ui_machine.specs.Rules.Connections.{signal_number}
use Rattle.law_typing.specs.Rules.RegisterKinds.{Kinds, kind_in, class_at, covers, place_numbers, places}
use Rattle.law_typing.specs.Graph.Channels.{Channel, property, signal, same_channel, is_channel}
use Rattle.law_typing.specs.Graph.{Graph, Raised, Start, Stretch, number_for, channel_for, channel_over, over}
use Rattle.law_typing.specs.Graph.Tables.{Table, entry, Tables, of_program, greatest}
use Rattle.law_typing.specs.Graph.Ranks.{running_at}
use Rattle.law_typing.specs.Graph.Costs.{other_end, with_other, node_cost, starts_cost, before_last, only_last, stretch_cost, path_costs, program_cost, block_cost, programs_cost, channel_cost}
use Rattle.law_typing.specs.Graph.Depths.{start_depth, depth_within, program_depth, property_depth, depth_at, channel_depth}
use Rattle.law_typing.specs.Verdict.Accepted.{Each}
use Rattle.law_typing.specs.Laws.{IsIn}
use Rattle.law_typing.specs.Laws.Costs.{CostsSolved, DepthsSolved, EmissionsCover, PairsCover, StartsCover, CodeCovers, BlocksCover, PassesCover, SetsCover, EmitsCover, DepthsCover}
use Rattle.law_typing.proofs.Lists.{filter_in, greatest_in, total_in}

-- ** the equations, one by one

module _ (f : Raised → ℕ) where
  abbrev numbered : List Raised → Table
  numbered rs = map (λ (r : Raised). (r.channel, f r)) rs

  found_here : (b : Bool) (first r : Raised) (c : Channel) (rs : List Raised) → same_channel first.channel c ≡ b →
      (find (λ (r : Raised). same_channel r.channel c) rs ≡ Some r → entry (numbered rs) c ≡ f r) →
      cond b (Some first) (find (λ (r : Raised). same_channel r.channel c) rs) ≡ Some r → cond b (f first) (entry (numbered rs) c) ≡ f r
  found_here true first r c rs is later e = let s : first ≡ r = cc in ap f s
  found_here false first r c rs is later e = later e

  -- the number of a channel is that of its entry
  found : (rs : List Raised) (c : Channel) (r : Raised) → find (λ (r : Raised). same_channel r.channel c) rs ≡ Some r → entry (numbered rs) c ≡ f r
  found [] c r e = absurd (cc)
  found (first ∷ rs) c r e = found_here (same_channel first.channel c) first r c rs refl (found rs c r) e

read_map : {A : Type 0} (f : A → ℕ) (xs : List A) (i : ℕ) (x : A) → slice_get xs i ≡ Some x → read 0 (map f xs) i ≡ f x
read_map f [] i x e = absurd (cc)
read_map f (y ∷ ys) zero x e = let s : y ≡ x = cc in ap f s
read_map f (y ∷ ys) (suc i) x e = read_map f ys i x e

pub costs_solved : CostsSolved
costs_solved g t s = (
  λ c r e. ap (λ u. entry u c) s.channels ∙ found (channel_cost g t) g.raised c r e,
  λ q stretches e. ap (λ u. read 0 u q) s.programs ∙ read_map (program_cost g t) g.programs q stretches e,
)

pub depths_solved : DepthsSolved
depths_solved g t s = (
  λ c r e. ap (λ u. entry u c) s.channels ∙ found (channel_depth g t) g.raised c r e,
  λ q stretches e. ap (λ u. read 0 u q) s.programs ∙ read_map (program_depth t) g.programs q stretches e,
)

-- ** costs

times_le : (n a b : ℕ) → a ≤ b → n * a ≤ n * b
times_le n a b h = grind arith

pub emissions_cover : EmissionsCover
emissions_cover g t r = record {
  class_handler = λ q h.
      let p = total_in (of_program t) r.class_handler q h in
      let m = times_le r.stages (of_program t q) (programs_cost t r.class_handler) p in
      omega (arith, m);
  handlers = λ q h. let p = total_in (of_program t) r.handlers q h in omega (arith, p);
  connectable = λ q h.
      let p = greatest_in (of_program t) r.connectable q h in
      let m = times_le g.most_handlers (of_program t q) (greatest (of_program t) r.connectable) p in
      omega (arith, m);
  targets = λ c h. let p = total_in (λ c. 1 + node_cost g t c) r.targets c h in omega (arith, p);
}

pub pairs_cover : PairsCover
pairs_cover g t c =
    (λ e. ap (with_other t (entry t.channels c)) e, λ other e. ap (with_other t (entry t.channels c)) e)

pub starts_cover : StartsCover
starts_cover g t cs = (λ c h. greatest_in (node_cost g t) cs c h, refl)

pub code_covers : CodeCovers
code_covers g t stretches s starts next = omega arith

-- ** blocks

both_totals : (g : Graph) (t : Tables) (starts : List Start) → starts_cost g t starts ≡ starts_cost g t (before_last starts) + starts_cost g t (only_last starts)
both_totals g t [] = refl
both_totals g t (s ∷ []) = omega arith
both_totals g t (s ∷ r ∷ more) = let ih = both_totals g t (r ∷ more) in omega (arith, ih)

one_pass_more : (n b l w : ℕ) → w ≡ b + l → suc n * b + l ≡ n * b + w
one_pass_more n b l w e = grind (arith, e)

pub passes_cover : PassesCover
passes_cover g t s further e =
    ap (λ n. n * starts_cost g t (before_last s.starts) + starts_cost g t (only_last s.starts)) e
    ∙ one_pass_more further (starts_cost g t (before_last s.starts)) (starts_cost g t (only_last s.starts)) (starts_cost g t s.starts) (both_totals g t s.starts)

greatest_le : {A : Type 0} (f g : A → ℕ) (xs : List A) → Each (λ x. f x ≤ g x) xs → greatest f xs ≤ greatest g xs
greatest_le f g [] all = omega arith
greatest_le f g (x ∷ xs) all = let h = all.0 in let t = greatest_le f g xs all.1 in omega (arith, h, t)

each_map_to : {A : Type 0} (P Q : A → Type 0) (xs : List A) → ((x : A) → P x → Q x) → Each P xs → Each Q xs
each_map_to P Q [] f all = tt
each_map_to P Q (x ∷ xs) f all = (f x all.0, each_map_to P Q xs f all.1)

-- a number past the first of a list is one of the rest
read_past : (x : ℕ) (later : List ℕ) (n to : ℕ) → n < to → read 0 (x ∷ later) (to - n) ≡ read 0 later (to - suc n)
read_past x later n to h = let e : to - n ≡ suc (to - suc n) = omega (arith, h) in ap (read 0 (x ∷ later)) e

module _ (g : Graph) (t : Tables) where
  -- the costs of some blocks, by the numbers of the blocks, where the first has the number n
  abbrev after : ℕ → List Stretch → ℕ → ℕ
  after n stretches to = read 0 (path_costs g t n stretches) (to - n)

  -- what the first block adds to does not matter to those after it
  past_first : (n i : ℕ) (first : Stretch) (more : List Stretch) (next : List ℕ) → Each (λ to. n + i < to) next →
      greatest (after n (first ∷ more)) next ≤ greatest (after (suc n) more) next
  past_first n i first more next all =
      greatest_le (after n (first ∷ more)) (after (suc n) more) next
      (each_map_to (λ to. n + i < to) (λ to. after n (first ∷ more) to ≤ after (suc n) more to) next
      (λ to h.
      let past : n < to = omega (arith, h) in
      let e = read_past (read 0 (path_costs g t n (first ∷ more)) 0) (path_costs g t (suc n) more) n to past in
      omega (arith, e))
      all)

  covered : (n i : ℕ) (stretches : List Stretch) (s : Stretch) → slice_get stretches i ≡ Some s → Each (λ to. n + i < to) s.next →
      stretch_cost g t s + greatest (after n stretches) s.next ≤ read 0 (path_costs g t n stretches) i
  covered n i [] s e all = absurd (cc)
  covered n zero (first ∷ more) s e all =
      let is : first ≡ s = cc in
      let most = past_first n 0 first more s.next all in
      let whole = ap (λ (x : Stretch). stretch_cost g t x + greatest (λ to. read 0 (path_costs g t (suc n) more) (to - suc n)) x.next) is in
      omega (arith, most, whole)
  covered n (suc i) (first ∷ more) s e all =
      let most = past_first n (suc i) first more s.next all in
      let ih =
      covered (suc n) i more s e
      (each_map_to (λ to. n + suc i < to) (λ to. suc n + i < to) s.next (λ to h. omega (arith, h)) all) in
      omega (arith, most, ih)

pub blocks_cover : BlocksCover
blocks_cover g t stretches block s e all =
    let first = covered g t 0 block stretches s e (each_map_to (λ to. block < to) (λ to. 0 + block < to) s.next (λ to h. omega (arith, h)) all) in
    let same =
    greatest_le (block_cost g t stretches) (after g t 0 stretches) s.next
    (each_map_to (λ to. block < to) (λ to. block_cost g t stretches to ≤ after g t 0 stretches to) s.next
    (λ to h. let e : to ≡ to - 0 = omega arith in let r = ap (read 0 (path_costs g t 0 stretches)) e in omega (arith, r))
    all) in
    omega (arith, first, same)

-- ** what programs raise

pub listed_in : (f : ℕ → ℕ) (n i : ℕ) → i < n → IsIn (f i) (listed f n)
listed_in f zero i h = absurd (omega (arith, h))
listed_in f (suc n) zero h = inl refl
listed_in f (suc n) (suc i) h = inr (listed_in (λ i. f (suc i)) n i (omega (arith, h)))

slice_below : {A : Type 0} (xs : List A) (i : ℕ) (x : A) → slice_get xs i ≡ Some x → i < length xs
slice_below [] i x e = absurd (cc)
slice_below (y ∷ ys) zero x e = omega arith
slice_below (y ∷ ys) (suc i) x e = let h = slice_below ys i x e in omega (arith, h)

found_here_too : {B : Type 0} (o : Option B) (bs : List B) (b : B) → o ≡ Some b → IsIn b (cons_option o bs)
found_here_too None bs b e = absurd (cc)
found_here_too (Some c) bs b e = inl (let s : c ≡ b = cc in sym s)

found_later : {B : Type 0} (o : Option B) (bs : List B) (b : B) → IsIn b bs → IsIn b (cons_option o bs)
found_later None bs b h = h
found_later (Some c) bs b h = inr h

filter_map_in : {A B : Type 0} (h : A → Option B) (xs : List A) (x : A) (b : B) → h x ≡ Some b → IsIn x xs → IsIn b (filter_map h xs)
filter_map_in h [] x b e there = there
filter_map_in h (y ∷ ys) x b e (inl s) = found_here_too (h y) (filter_map h ys) b (ap h (sym s) ∙ e)
filter_map_in h (y ∷ ys) x b e (inr there) = found_later (h y) (filter_map h ys) b (filter_map_in h ys x b e there)

pub place_below : (d : Definition) (place class : ℕ) (o : Option Place) → place_at d place ≡ o → option_map (λ (p : Place). p.class) o ≡ Some class → place < length d.places
place_below d place class None e f = absurd (cc)
place_below d place class (Some p) e f = slice_below d.places place p e

-- a place that a kind covers is one of its places
in_places : (d : Definition) (ks : Kinds) (object place class : ℕ) → covers d (kind_in ks object) place ≡ true → class_at d place ≡ Some class →
    IsIn place (places d (kind_in ks object))
in_places d ks object place class covered is =
    filter_in (covers d (kind_in ks object)) (place_numbers d) place covered
    (listed_in (λ place. place) (length d.places) place (place_below d place class (place_at d place) refl is))

-- and its channel is among those over the places
in_over : (d : Definition) (number_in : ℕ → Option ℕ) (channel : ℕ → ℕ → Channel) (ps : List ℕ) (place class number : ℕ) →
    IsIn place ps → class_at d place ≡ Some class → number_in class ≡ Some number → is_channel d (channel place number) ≡ true →
    IsIn (channel place number) (over d number_in channel ps)
in_over d number_in channel ps place class number there is named present =
    filter_in (is_channel d) (filter_map (channel_over d number_in channel) ps) (channel place number) present
    (filter_map_in (channel_over d number_in channel) ps place (channel place number)
    (ap (λ c. channel_for (channel place) (number_for number_in c)) is ∙ ap (channel_for (channel place)) named)
    there)

pub sets_cover : SetsCover
sets_cover d g t ks object name from place class slot covered is named present =
    let there =
    in_over d (λ class. slot_of d class name) property (places d (kind_in ks object)) place class slot
    (in_places d ks object place class covered is) is named present in
    let h =
    greatest_in (node_cost g t) (over d (λ class. slot_of d class name) property (places d (kind_in ks object)))
    (property place slot) there in
    (h, h)

pub emits_cover : EmitsCover
emits_cover d g t ks into object name detail args place class number covered is named present =
    let there =
    in_over d (λ class. signal_number d class name) signal (places d (kind_in ks object)) place class number
    (in_places d ks object place class covered is) is named present in
    greatest_in (node_cost g t) (over d (λ class. signal_number d class name) signal (places d (kind_in ks object)))
    (signal place number) there

-- ** depths

property_deep : (g : Graph) (t : Tables) (r : Raised) (o : Option Channel) → 1 + depth_within t r ≤ property_depth g t r o
property_deep g t r None = omega arith
property_deep g t r (Some other) = omega arith

pub depths_cover : DepthsCover
depths_cover = (
  λ t stretches s i in_program in_block.
      let a = greatest_in (start_depth t) s.starts i in_block in
      let b = greatest_in (λ (s : Stretch). greatest (start_depth t) s.starts) stretches s in_program in
      omega (arith, a, b),
  λ g t r place slot q is runs.
      let a = greatest_in (of_program t) (running_at r) q runs in
      let b = property_deep g t r (other_end g (property place slot)) in
      let whole : 1 + of_program t q ≤ depth_at g t r (property place slot) = omega (arith, a, b) in
      subst (λ c. 1 + of_program t q ≤ depth_at g t r c) (sym is) whole,
  λ g t r place number q is runs.
      let a = greatest_in (of_program t) (running_at r) q runs in
      let whole : 1 + of_program t q ≤ depth_at g t r (signal place number) = omega (arith, a) in
      subst (λ c. 1 + of_program t q ≤ depth_at g t r c) (sym is) whole,
  λ g t r place slot target is leads.
      let a = greatest_in (entry t.channels) r.targets target leads in
      let b = property_deep g t r (other_end g (property place slot)) in
      let whole : 1 + entry t.channels target ≤ depth_at g t r (property place slot) = omega (arith, a, b) in
      subst (λ c. 1 + entry t.channels target ≤ depth_at g t r c) (sym is) whole,
  λ t cs c there. let a = greatest_in (entry t.channels) cs c there in omega (arith, a),
)
