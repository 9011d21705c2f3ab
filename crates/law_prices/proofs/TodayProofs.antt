-- By the list of counted steps each equation of prices is that of costs.
use Rattle.std.proofs.Common.{◌≡◌, inl, refl, sym, ap, subst, ◌∙◌, ℕ, zero, suc, ◌+◌, ◌-◌, ◌*◌, Bool, true, false, cond, List, [], ◌∷◌, map, length, Option, None, Some, arith}
use Rattle.std.specs.Prelude.{not, ◌&&◌}
use Rattle.std.specs.List.{filter, flat_map}
use Rattle.ui_machine.specs.Seq.{read, total, listed}
use Rattle.ui_machine.specs.Definition.{Definition}
use Rattle.ui_machine.specs.Definition.Lookups.{place_at, place_of, slot_of, specs_of}
use Rattle.ui_machine.specs.Definition.Places.{Bind, Place}
use Rattle.ui_machine.specs.Definition.Properties.{has_flags}
use Rattle.ui_machine.specs.Definition.Programs.{Block, Instruction, Program, passes_in}
use Rattle.ui_machine.specs.Definition.Programs as words
use Rattle.ui_machine.specs.Rules.Build.{build_items}
use Rattle.ui_machine.specs.State.Tasks.{Item, makes, adopts, forwards, binds, connects}
use Rattle.ui_machine.specs.Rules.Connections.{signal_number}
use Rattle.law_typing.specs.Graph.{Connection, Raised, Start, connections, created_by, graph, in_order, making_of, next_of, over, paired_at, pairs_of, raised_at, set_from, start_of, starts_of, stretch_of, stretches_of, targets_from}
use Rattle.law_typing.specs.Graph.Channels as entries
use Rattle.law_typing.specs.Graph.Channels.{Channel, channels, constructed, constructed_at, is_channel, is_pair, property, same_channel, signal, source_of, target_of}
use Rattle.law_typing.specs.Graph.Costs.{before_last, bound, channel_cost, cost, emission_cost, making_cost, node_cost, only_last, programs_cost, other_end_in, path_costs, program_cost, start_cost, starts_cost, stretch_cost, targets_cost, with_other}
use Rattle.law_typing.specs.Graph.Tables.{Tables, entry, greatest, of_program}
use Rattle.law_typing.specs.Good.DueCosts.{has_end, over_cost}
use Rattle.law_typing.specs.Rules.BindingRules.{shares_end, word_of}
use Rattle.law_typing.specs.Rules.RegisterKinds.{Kinds, class_at, kind_in, places}
use Rattle.law_typing.specs.Rules.Sites.{sites}
use Rattle.law_typing.specs.Rules.Typing.{after}
use Rattle.law_typing.specs.Verdict.Accepted.{Accepted, Each}
use Rattle.law_typing.proofs.Lists.{same_channel_refl, same_channel_true}
use Rattle.law_typing.proofs.PairProofs.{Differ, NoSecond, later_apart, no_second, no_words, pair_read}
use Rattle.law_static.proofs.PairCostProofs.{no_end, ordered, passed, sharing}
use Rattle.law_prices.specs.Asked.{Asked}
use Rattle.law_prices.specs.Asked as asked
use Rattle.law_prices.specs.Deeds as deeds
use Rattle.law_prices.specs.Lists.{counted}
use Rattle.law_prices.specs.Prices.{SolvesPrices, by_number, call_price, carry_price, channel_price, code_prices, block_prices, block_price, construction_toll, ending_price, first_price, from_block, instruction_price, item_toll, late_price, leads_on, making_toll, name_price, new_toll, node_price, pair_price, path_prices, price, price_bound, program_prices, put_price, set_price, settle_price, start_price, sum, toll, turn_over, waited_price, way_price, dearest_end}
use Rattle.law_prices.specs.Prices as prices
use Rattle.law_prices.specs.Today.{CountedIsToday, entry_for}
use Rattle.law_prices.proofs.Sums.{cond_zero, greatest_same, greatest_zero, price_of_zero, total_same, total_zero}

-- ** what is free

set_free : (c : Channel) → set_price counted c ≡ 0
set_free (constructed place) = refl
set_free (property place slot) = refl
set_free (signal place number) = refl

name_free : (c : Channel) → name_price counted c ≡ 0
name_free (constructed place) = refl
name_free (property place slot) = refl
name_free (signal place number) = refl

module _ (d : Definition) where
  late_free : (c : Channel) → late_price d counted c ≡ 0
  late_free c = cond_zero (is_channel d c) (name_price counted c) (name_free c)

  put_free : (c : Channel) → put_price d counted c ≡ 0
  put_free c = let s = set_free c in let l = late_free c in omega (arith, s, l)

  carried : (n : ℕ) (c : Channel) → carry_price d counted n c ≡ 1
  carried n c = let p = put_free c in omega (arith, p)

  settle_free : (place : ℕ) → settle_price d counted place ≡ 0
  settle_free place = price_of_zero _ (class_at d place) (λ class. cond_zero _ 0 refl)

  construction_free : (place : ℕ) (p : Place) → construction_toll d counted place p ≡ 0
  construction_free place p =
      let s = total_zero (λ c. 0 + put_price d counted c) (set_from place p.given 0 (specs_of d p.class)) (λ c. (let p = put_free c in omega (arith, p))) in
      let r = total_zero (λ (q : ℕ). 0) (constructed_at d place) (λ q. refl) in
      omega (arith, s, r)

  making_free : (place : ℕ) → making_toll d counted place ≡ 0
  making_free place =
      price_of_zero _ (place_at d place)
      (λ p. (let c = construction_free place p in let s = settle_free place in omega (arith, c, s)))

  call_free : (name : List ℕ) (place : ℕ) → call_price d counted name place ≡ 0
  call_free name place = price_of_zero _ (prices.shape_at d place) (λ shape. price_of_zero _ (prices.method_named d name shape) (λ method. refl))

  items_free : (items : List Item) → total (item_toll d counted) items ≡ 0
  items_free items = total_zero (item_toll d counted) items one
    where
      one : (i : Item) → item_toll d counted i ≡ 0
      one (makes place) = let m = making_free place in omega (arith, m)
      one (adopts place) = refl
      one (forwards place slot to) = let p = put_free (property place slot) in omega (arith, p)
      one (binds number) = refl
      one (connects place number) = refl

  dearest : dearest_end d counted ≡ 1
  dearest = go (length d.places) (λ place. place)
    where
      go : (n : ℕ) (f : ℕ → ℕ) → greatest (ending_price counted) (listed f (suc n)) ≡ 1
      go zero f = omega arith
      go (suc n) f = let h = go n (λ i. f (suc i)) in omega (arith, h)

-- ** pairs

-- two channels that are one both with a third are one
pub share_one : (a b c : Channel) → same_channel a c ≡ true → same_channel b c ≡ true → same_channel a b ≡ true
share_one a b c e f =
    let s = same_channel_true a c e in
    let t = same_channel_true b c f in
    subst (λ x. same_channel a x ≡ true) (sym t) (subst (λ x. same_channel x c ≡ true) (sym s) (same_channel_refl c))

module _ (d : Definition) (t : Tables) (c : Channel) where
  of_none : (n : ℕ) (x : Bind) → is_pair x ≡ false → pair_price d counted t c n x ≡ 0
  of_none n x e = rw e

  of_other : (n : ℕ) (x : Bind) → has_end c x ≡ false → pair_price d counted t c n x ≡ 0
  of_other n x e =
      let p = no_end d t [] c x e in
      go (is_pair x) (same_channel (source_of x) c) (same_channel (target_of x) c) p.0 p.1
    where
      go : (p s u : Bool) → s ≡ false → u ≡ false → cond p (cond s (carry_price d counted n (target_of x) + entry t.channels (target_of x)) 0 + cond u (carry_price d counted n (source_of x) + entry t.channels (source_of x)) 0) 0 ≡ 0
      go true true u e f = absurd (cc)
      go true false true e f = absurd (cc)
      go true false false e f = refl
      go false s u e f = refl

  none_later : (x : Bind) (n : ℕ) (xs : List Bind) → has_end c x ≡ true → Each (λ y. is_pair y ≡ true → shares_end x y ≡ false) xs → by_number (pair_price d counted t c) n xs ≡ 0
  none_later x n [] e all = refl
  none_later x n (y ∷ ys) e all =
      let h = none_later x (suc n) ys e all.1 in let z = go (is_pair y) (has_end c y) refl refl in omega (arith, h, z)
    where
      go : (p b : Bool) → is_pair y ≡ p → has_end c y ≡ b → pair_price d counted t c n y ≡ 0
      go false b pair end = of_none n y pair
      go true false pair end = of_other n y end
      go true true pair end = absurd (let s = sharing c x y e end in let f = all.0 pair in cc)

  over_same : (earlier xs : List Bind) (n : ℕ) → Each (λ b. word_of d b ≡ None) xs → NoSecond earlier xs →
      by_number (pair_price d counted t c) n xs ≡ over_cost t (other_end_in (pairs_of xs) c)
  over_same earlier [] n words none = refl
  over_same earlier (x ∷ xs) n words none = go (is_pair x) (has_end c x) refl refl (over_same (x ∷ earlier) xs (suc n) words.1 none.1)
    where
      Rest : Type 0
      Rest = by_number (pair_price d counted t c) (suc n) xs ≡ over_cost t (other_end_in (pairs_of xs) c)

      Goal : Bool → Type 0
      Goal p = by_number (pair_price d counted t c) n (x ∷ xs) ≡ over_cost t (other_end_in (map (λ b. in_order (source_of b) (target_of b)) (cond p (x ∷ filter is_pair xs) (filter is_pair xs))) c)

      of_end : is_pair x ≡ true → has_end c x ≡ true → Differ (source_of x) (target_of x) →
          pair_price d counted t c n x ≡ over_cost t (Some (cond (same_channel (source_of x) c) (target_of x) (source_of x)))
      of_end pair end differ = by (same_channel (source_of x) c) (same_channel (target_of x) c) refl refl end
        where
          by : (a b : Bool) → same_channel (source_of x) c ≡ a → same_channel (target_of x) c ≡ b → cond a true b ≡ true →
              pair_price d counted t c n x ≡ over_cost t (Some (cond a (target_of x) (source_of x)))
          by true true e f some = absurd (let s = share_one (source_of x) (target_of x) c e f in let k = sym differ ∙ s in cc)
          by true false e f some =
              let k = carried d n (target_of x) in
              let p : pair_price d counted t c n x ≡ (carry_price d counted n (target_of x) + entry t.channels (target_of x)) + 0 = rw (pair, e, f) in
              omega (arith, k, p)
          by false true e f some =
              let k = carried d n (source_of x) in
              let p : pair_price d counted t c n x ≡ 0 + (carry_price d counted n (source_of x) + entry t.channels (source_of x)) = rw (pair, e, f) in
              omega (arith, k, p)
          by false false e f some = absurd (cc)

      go : (p e : Bool) → is_pair x ≡ p → has_end c x ≡ e → Rest → Goal p
      go false e pair end rest = let z = of_none n x pair in omega (arith, z, rest)
      go true true pair end rest =
          let differ = (pair_read d x pair words.0).two in
          let later = none_later x (suc n) xs end (later_apart x (x ∷ earlier) xs pair (inl refl) none.1) in
          let own = of_end pair end differ in
          let found = ap (over_cost t) (ordered d t [] c x (same_channel (source_of x) c) (same_channel (target_of x) c) (other_end_in (pairs_of xs) c) refl refl differ end) in
          omega (arith, later, own, found)
      go true false pair end rest =
          let z = of_other n x end in
          let apart = no_end d t [] c x end in
          let found = ap (over_cost t) (passed d t [] c x (other_end_in (pairs_of xs) c) apart.0 apart.1) in
          omega (arith, z, rest, found)

-- ** starts and programs

module _ (d : Definition) (a : Accepted d) (t : Tables) where
  node_same : (c : Channel) → node_price d counted t c ≡ node_cost (graph d) t c
  node_same c =
      let over = over_same d t c [] d.bindings 0 (no_words d 0 d.bindings a.bindings) (no_second [] 0 d.bindings a.pairs) in
      let by = of (other_end_in (pairs_of d.bindings) c) in
      omega (arith, over, by)
    where
      of : (o : Option Channel) → entry t.channels c + over_cost t o ≡ with_other t (entry t.channels c) o
      of None = omega arith
      of (Some other) = omega arith

  waited_same : (c : Channel) → waited_price d counted t c ≡ node_cost (graph d) t c
  waited_same c = let l = late_free d c in let n = node_same c in omega (arith, l, n)

  new_same : (o : Option ℕ) → new_toll d counted o ≡ 1
  new_same None = refl
  new_same (Some place) = let m = making_free d place in omega (arith, m)

  raises_same : (cs : List Channel) → greatest (node_price d counted t) cs ≡ greatest (node_cost (graph d) t) cs
  raises_same cs = greatest_same (node_price d counted t) (node_cost (graph d) t) cs node_same

  nodes_same : (cs : List Channel) → total (node_price d counted t) cs ≡ total (node_cost (graph d) t) cs
  nodes_same cs = total_same (node_price d counted t) (node_cost (graph d) t) cs node_same

  start_same : (ks : Kinds) (i : Instruction) → toll d counted ks i + start_price d counted t (start_of d ks i) ≡ start_cost (graph d) t (start_of d ks i)
  start_same ks (words.set object name from) =
      let z = greatest_zero (put_price d counted) (prices.all_over d (λ class. slot_of d class name) property (places d (kind_in ks object))) (put_free d) in
      let r = raises_same (over d (λ class. slot_of d class name) property (places d (kind_in ks object))) in
      omega (arith, z, r)
  start_same ks (words.notify object name) =
      let z = greatest_zero (late_price d counted) (prices.all_over d (λ class. slot_of d class name) property (places d (kind_in ks object))) (late_free d) in
      let r = raises_same (over d (λ class. slot_of d class name) property (places d (kind_in ks object))) in
      omega (arith, z, r)
  start_same ks (words.emit into object name detail args) =
      let r = raises_same (over d (λ class. signal_number d class name) signal (places d (kind_in ks object))) in
      omega (arith, r)
  start_same ks (words.new to id) =
      let n = new_same (place_of d id) in
      let r = nodes_same (making_of d (place_of d id)) in
      omega (arith, n, r)
  start_same ks (words.thaw object) =
      let css = map (paired_at d) (places d (kind_in ks object)) in
      let r = greatest_same (λ cs. total (waited_price d counted t) cs) (λ cs. total (node_cost (graph d) t) cs) css
      (λ cs. total_same (waited_price d counted t) (node_cost (graph d) t) cs waited_same) in
      omega (arith, r)
  start_same ks (words.call to object name args) =
      let z = greatest_zero (call_price d counted name) (places d (kind_in ks object)) (call_free d name) in
      omega (arith, z)
  start_same ks _ = refl

  abbrev of_start : Start → ℕ
  of_start s = 1 + start_cost (graph d) t s

  code_same : (p : Program) (q block at : ℕ) (ks : Kinds) (code : List Instruction) → code_prices d counted t p q block at ks code ≡ map of_start (starts_of d p ks code)
  code_same p q block at ks [] = refl
  code_same p q block at ks (i ∷ code) =
      let h = code_same p q block (suc at) (after d p ks i) code in
      let e : instruction_price d counted t q block at ks i ≡ of_start (start_of d ks i) = ap (λ n. 1 + n) (start_same ks i) in
      ap (λ n. n ∷ code_prices d counted t p q block (suc at) (after d p ks i) code) e ∙ ap (λ ns. of_start (start_of d ks i) ∷ ns) h

  before_same : (starts : List Start) → sum (before_last (map of_start starts)) ≡ starts_cost (graph d) t (before_last starts)
  before_same [] = refl
  before_same (s ∷ []) = refl
  before_same (s ∷ r ∷ more) = let h = before_same (r ∷ more) in omega (arith, h)

  last_same : (starts : List Start) → sum (only_last (map of_start starts)) ≡ starts_cost (graph d) t (only_last starts)
  last_same [] = refl
  last_same (s ∷ []) = refl
  last_same (s ∷ r ∷ more) = last_same (r ∷ more)

  block_same : (p : Program) (q n : ℕ) (b : Block) → block_price d counted t p q n b ≡ stretch_cost (graph d) t (stretch_of d p b)
  block_same p q n b =
      ap (λ xs. passes_in b * sum (before_last xs) + sum (only_last xs)) (code_same p q n 0 b.entry b.code)
      ∙ (ap (λ m. passes_in b * m + sum (only_last (map of_start (starts_of d p b.entry b.code)))) (before_same (starts_of d p b.entry b.code))
      ∙ ap (λ m. passes_in b * starts_cost (graph d) t (before_last (starts_of d p b.entry b.code)) + m) (last_same (starts_of d p b.entry b.code)))

  paths_same : (p : Program) (q n : ℕ) (bs : List Block) → path_prices d counted t p q n bs ≡ path_costs (graph d) t n (map (stretch_of d p) bs)
  paths_same p q n [] = refl
  paths_same p q n (b ∷ bs) =
      ap (prices.with_next d counted t p q n b) (paths_same p q (suc n) bs)
      ∙ ap (λ m. (m + greatest (λ to. read 0 (path_costs (graph d) t (suc n) (map (stretch_of d p) bs)) (to - suc n)) (flat_map next_of b.code)) ∷ path_costs (graph d) t (suc n) (map (stretch_of d p) bs)) (block_same p q n b)

  programs_same : (n : ℕ) (ps : List Program) → program_prices d counted t n ps ≡ map (program_cost (graph d) t) (map (stretches_of d) ps)
  programs_same n [] = refl
  programs_same n (p ∷ ps) =
      ap (λ m. m ∷ program_prices d counted t (suc n) ps) (ap (λ xs. read 0 xs 0) (paths_same p n 0 p.blocks))
      ∙ ap (λ ms. program_cost (graph d) t (stretches_of d p) ∷ ms) (programs_same (suc n) ps)

  -- ** channels

  abbrev adds : Channel → Bind → Bool
  adds c b = not (is_pair b) && same_channel (source_of b) c

  turns_same : (place number : ℕ) (c : Channel) (n : ℕ) (bs : List Bind) → by_number (turn_over d counted t place number c) n bs ≡ targets_cost (graph d) t (map target_of (filter (adds c) bs))
  turns_same place number c n [] = refl
  turns_same place number c n (b ∷ bs) =
      let h = turns_same place number c (suc n) bs in
      let k = carried d n (target_of b) in
      let m = node_same (target_of b) in
      let heard : cond (prices.is_heard c b) (counted (deeds.turn place number)) 0 ≡ 0 = cond_zero (prices.is_heard c b) 0 refl in
      let first = go (adds c b) in
      let leads = led (adds c b) (omega (arith, k, m)) in
      omega (arith, h, heard, first, leads)
    where
      led : (x : Bool) → carry_price d counted n (target_of b) + node_price d counted t (target_of b) ≡ 1 + node_cost (graph d) t (target_of b) →
          cond x (carry_price d counted n (target_of b) + node_price d counted t (target_of b)) 0 ≡ cond x (1 + node_cost (graph d) t (target_of b)) 0
      led true e = e
      led false e = refl

      go : (x : Bool) → targets_cost (graph d) t (map target_of (cond x (b ∷ filter (adds c) bs) (filter (adds c) bs))) ≡ cond x (1 + node_cost (graph d) t (target_of b)) 0 + targets_cost (graph d) t (map target_of (filter (adds c) bs))
      go true = refl
      go false = omega arith

  begun_same : (q : ℕ) → prices.begun_price counted t q ≡ of_program t q
  begun_same q = omega arith

  handled_same : (place number q : ℕ) → prices.handled_price counted t place number q ≡ of_program t q
  handled_same place number q = omega arith

  all_handled : (place number : ℕ) (qs : List ℕ) → total (prices.handled_price counted t place number) qs ≡ programs_cost t qs
  all_handled place number qs = total_same (prices.handled_price counted t place number) (of_program t) qs (handled_same place number)

  emission_same : (place number : ℕ) (r : Raised) → r.targets ≡ targets_from d r.channel → 1 + prices.emission_price d counted t place number r ≡ emission_cost (graph d) t r
  emission_same place number r targets =
      let class = ap (λ m. r.stages * m) (all_handled place number r.class_handler) in
      let own = all_handled place number r.handlers in
      let most = ap (λ m. d.most_handlers * m) (greatest_same (prices.handled_price counted t place number) (of_program t) r.connectable (handled_same place number)) in
      let turns = turns_same place number r.channel 0 d.bindings in
      let led = ap (targets_cost (graph d) t) targets in
      omega (arith, class, own, most, turns, led)

  channel_same : (ns : List Connection) (c : Channel) → channel_price d counted t (raised_at d ns c) ≡ channel_cost (graph d) t (raised_at d ns c)
  channel_same ns (constructed place) = total_same (prices.begun_price counted t) (of_program t) (raised_at d ns (constructed place)).handlers begun_same
  channel_same ns (property place slot) = emission_same place 0 (raised_at d ns (property place slot)) refl
  channel_same ns (signal place number) = emission_same place number (raised_at d ns (signal place number)) refl

  channels_same : (ns : List Connection) (cs : List Channel) →
      map {B = Channel × ℕ} (λ (r : Raised). (r.channel, channel_price d counted t r)) (map (raised_at d ns) cs)
      ≡ map {B = Channel × ℕ} (λ (r : Raised). (r.channel, channel_cost (graph d) t r)) (map (raised_at d ns) cs)
  channels_same ns [] = refl
  channels_same ns (c ∷ cs) =
      ap (λ m. (c, m) ∷ map {B = Channel × ℕ} (λ (r : Raised). (r.channel, channel_price d counted t r)) (map (raised_at d ns) cs)) (channel_same ns c)
      ∙ ap (λ xs. (c, channel_cost (graph d) t (raised_at d ns c)) ∷ xs) (channels_same ns cs)

  -- ** the build

  first_same : (n : ℕ) (bs : List Bind) → by_number (first_price d counted t) n bs ≡ targets_cost (graph d) t (created_by bs)
  first_same n [] = refl
  first_same n (b ∷ bs) =
      let h = first_same (suc n) bs in
      let k = carried d n (target_of b) in
      let m = node_same (target_of b) in
      let first = go (has_flags 2 b.flags) (omega (arith, k, m)) in
      omega (arith, h, first)
    where
      go : (x : Bool) → carry_price d counted n (target_of b) + node_price d counted t (target_of b) ≡ 1 + node_cost (graph d) t (target_of b) →
          cond x (carry_price d counted n (target_of b) + node_price d counted t (target_of b)) 0 + targets_cost (graph d) t (map target_of (filter (λ (b : Bind). has_flags 2 b.flags) bs))
          ≡ targets_cost (graph d) t (map target_of (cond x (b ∷ filter (λ (b : Bind). has_flags 2 b.flags) bs) (filter (λ (b : Bind). has_flags 2 b.flags) bs)))
      go true e = omega (arith, e)
      go false e = omega arith

  build_same : prices.build_price d counted t ≡ cost (graph d) t entries.build
  build_same =
      let items = items_free d (build_items d) in
      let built = total_same (λ cs. total (node_price d counted t) cs) (making_cost (graph d) t) (graph d).built nodes_same in
      let forwards = nodes_same (graph d).forwards in
      let first = first_same 0 d.bindings in
      omega (arith, items, built, forwards, first)

  price_same : (e : Asked) → price d counted t e ≡ cost (graph d) t (entry_for e)
  price_same asked.build = build_same
  price_same (asked.set place slot) =
      let p = put_free d (property place slot) in let n = node_same (property place slot) in omega (arith, p, n)
  price_same (asked.get place slot) = refl
  price_same (asked.emit place number) = by_signal
    where
      by_signal : price d counted t (asked.emit place number) ≡ node_cost (graph d) t (signal place number)
      by_signal =
          let over = over_same d t (signal place number) [] d.bindings 0 (no_words d 0 d.bindings a.bindings) (no_second [] 0 d.bindings a.pairs) in
          let n = node_same (signal place number) in
          let z = no_pair place number 0 d.bindings in
          omega (arith, over, n, z)
        where
          no_pair : (place number n : ℕ) (bs : List Bind) → by_number (pair_price d counted t (signal place number)) n bs ≡ 0
          no_pair place number n [] = refl
          no_pair place number n (b ∷ bs) = let h = no_pair place number (suc n) bs in let z = cond_zero (is_pair b) (0 + 0) (omega arith) in omega (arith, h, z)
  price_same (asked.release place) = refl
  price_same (asked.source program) = omega arith

  bound_same : (e : Asked) → price_bound d counted t e ≡ bound (graph d) t (entry_for e)
  bound_same e =
      let p = price_same e in
      let s = ap (λ m. d.most_objects * m) (dearest d) in
      omega (arith, p, s)

pub counted_is_today : CountedIsToday
counted_is_today d a t = record {
  prices = λ s. record {
    channels = s.channels ∙ sym (channels_same d a t (connections d (sites d)) (channels d));
    programs = s.programs ∙ sym (programs_same d a t 0 d.programs);
  };
  costs = λ s. record {
    channels = s.channels ∙ channels_same d a t (connections d (sites d)) (channels d);
    programs = s.programs ∙ programs_same d a t 0 d.programs;
  };
  bounds = bound_same d a t;
}
