-- The prices of a channel and of a program are of what is raised there alone: where two tables agree on that, the prices are the same.
use Rattle.std.proofs.Common.{◌≡◌, inl, inr, refl, sym, ap, subst, ◌∙◌, ℕ, zero, suc, ◌+◌, ◌-◌, ◌*◌, Bool, true, false, cond, List, [], ◌∷◌, ◌++◌, map, None, Some, arith}
use Rattle.std.specs.List.{filter, flat_map}
use Rattle.ui_machine.specs.Seq.{read, total}
use Rattle.ui_machine.specs.Definition.{Definition}
use Rattle.ui_machine.specs.Definition.Places.{Bind}
use Rattle.ui_machine.specs.Definition.Programs.{Block, Instruction, Program, passes_in}
use Rattle.law_typing.specs.Good.DueCosts.{has_end}
use Rattle.law_typing.specs.Graph.{Raised, Start, Stretch, graph, in_order, makes, next_of, nothing, pairs_of, raises, start_of, starts_of, stretch_of, stretches_of, targets_from, thaws}
use Rattle.law_typing.specs.Graph.Channels.{Channel, constructed, is_pair, property, same_channel, signal, source_of, target_of}
use Rattle.law_typing.specs.Graph.Costs.{before_last, only_last, other_end_in}
use Rattle.law_typing.specs.Graph.Ranks.{started}
use Rattle.law_typing.specs.Graph.Tables.{Tables, entry, greatest, of_program}
use Rattle.law_typing.specs.Laws.{IsIn}
use Rattle.law_typing.specs.Rules.BindingRules.{shares_end, word_of}
use Rattle.law_typing.specs.Rules.RegisterKinds.{Kinds}
use Rattle.law_typing.specs.Rules.Typing.{after}
use Rattle.law_typing.specs.Verdict.Accepted.{Accepted, Each}
use Rattle.law_typing.proofs.EdgeProofs.{append_left, append_right, flat_in}
use Rattle.law_typing.proofs.Lists.{each_in, filter_in, map_in}
use Rattle.law_typing.proofs.OneSolutionProofs.{Same, SameNode, SameParts, greatest_same, total_same}
use Rattle.law_typing.proofs.PairProofs.{NoSecond, later_apart, no_second, no_words, pair_read}
use Rattle.law_static.proofs.PairCostProofs.{no_end, ordered, other_of, passed, sharing}
use Rattle.law_prices.specs.Deeds.{PriceList}
use Rattle.law_prices.specs.Deeds as deeds
use Rattle.law_prices.specs.Prices.{begun_price, block_price, carry_price, channel_price, code_prices, emission_price, from_block, handled_price, instruction_price, is_heard, leads_on, node_price, pair_price, path_prices, price_at, program_prices, start_price, sum, toll, turn_over, waited_price, way_price, with_next}
use Rattle.law_prices.proofs.Sums.{by_number_in}
use Rattle.law_prices.proofs.TodayProofs.{share_one}

-- ** the other end of a pair

module _ (d : Definition) (t : Tables) (c : Channel) where
  -- the end that is found is that of the pair which the channel is in
  pair_found : (earlier xs : List Bind) → Each (λ b. word_of d b ≡ None) xs → NoSecond earlier xs → (x : Bind) → IsIn x xs → is_pair x ≡ true → has_end c x ≡ true →
      other_end_in (pairs_of xs) c ≡ Some (other_of c x)
  pair_found earlier [] words none x there pair end = absurd there
  pair_found earlier (y ∷ ys) words none x (inl same) pair end =
      let p : is_pair y ≡ true = sym (ap is_pair same) ∙ pair in
      let e : has_end c y ≡ true = sym (ap (has_end c) same) ∙ end in
      let differ = (pair_read d y p words.0).two in
      ap (λ b. other_end_in (map (λ (b : Bind). in_order (source_of b) (target_of b)) (cond b (y ∷ filter is_pair ys) (filter is_pair ys))) c) p
      ∙ (ordered d t [] c y (same_channel (source_of y) c) (same_channel (target_of y) c) (other_end_in (pairs_of ys) c) refl refl differ e
      ∙ sym (ap (λ (b : Bind). Some (other_of c b)) same))
  pair_found earlier (y ∷ ys) words none x (inr there) pair end = go (is_pair y) refl (pair_found (y ∷ earlier) ys words.1 none.1 x there pair end)
    where
      Goal : Bool → Type 0
      Goal p = other_end_in (map (λ (b : Bind). in_order (source_of b) (target_of b)) (cond p (y ∷ filter is_pair ys) (filter is_pair ys))) c ≡ Some (other_of c x)

      apart : is_pair y ≡ true → (b : Bool) → has_end c y ≡ b → has_end c y ≡ false
      apart p false e = e
      apart p true e =
          absurd (let s = sharing c y x e end in
          let f = each_in (λ z. is_pair z ≡ true → shares_end y z ≡ false) ys (later_apart y (y ∷ earlier) ys p (inl refl) none.1) x there pair in
          cc)

      go : (p : Bool) → is_pair y ≡ p → other_end_in (pairs_of ys) c ≡ Some (other_of c x) → Goal p
      go false p found = found
      go true p found =
          let ends = no_end d t [] c y (apart p (has_end c y) refl) in
          passed d t [] c y (other_end_in (pairs_of ys) c) ends.0 ends.1 ∙ found

-- ** nodes

module _ (d : Definition) (a : Accepted d) (P : PriceList) (t u : Tables) where
  module _ (c : Channel) (same : SameNode (graph d) t u c) where
    -- the way over a binding costs the same, if what it leads to does
    way_keeps : (n : ℕ) (from to : Channel) → (same_channel from c ≡ true → Same t u to) → way_price d P t c n from to ≡ way_price d P u c n from to
    way_keeps n from to at = go (same_channel from c) refl
      where
        go : (b : Bool) → same_channel from c ≡ b → cond b (carry_price d P n to + entry t.channels to) 0 ≡ cond b (carry_price d P n to + entry u.channels to) 0
        go true e = let s = at e in omega (arith, s)
        go false e = refl

    module _ (x : Bind) (there : IsIn x d.bindings) (pair : is_pair x ≡ true) where
      -- the other end of the pair is found
      found : has_end c x ≡ true → other_end_in (pairs_of d.bindings) c ≡ Some (other_of c x)
      found end = pair_found d t c [] d.bindings (no_words d 0 d.bindings a.bindings) (no_second [] 0 d.bindings a.pairs) x there pair end

      -- so the tables agree on the target of a pair whose source is the channel
      at_source : same_channel (source_of x) c ≡ true → Same t u (target_of x)
      at_source e =
          same.1 (target_of x) (found (ap (λ b. cond b true (same_channel (target_of x) c)) e) ∙ ap (λ b. Some (cond b (target_of x) (source_of x))) e)

      -- and on the source of one whose target it is
      at_target : same_channel (target_of x) c ≡ true → Same t u (source_of x)
      at_target e = go (same_channel (source_of x) c) refl
        where
          differ : same_channel (source_of x) (target_of x) ≡ false
          differ = (pair_read d x pair (each_in (λ b. word_of d b ≡ None) d.bindings (no_words d 0 d.bindings a.bindings) x there)).two

          go : (b : Bool) → same_channel (source_of x) c ≡ b → Same t u (source_of x)
          go true f = absurd (let s = share_one (source_of x) (target_of x) c f e in let k = sym differ ∙ s in cc)
          go false f =
              same.1 (source_of x)
              (found (ap (λ b. cond b true (same_channel (target_of x) c)) f ∙ e) ∙ ap (λ b. Some (cond b (target_of x) (source_of x))) f)

      -- over a pair of the channel
      both_ways : (n : ℕ) → way_price d P t c n (source_of x) (target_of x) + way_price d P t c n (target_of x) (source_of x)
          ≡ way_price d P u c n (source_of x) (target_of x) + way_price d P u c n (target_of x) (source_of x)
      both_ways n =
          let on = way_keeps n (source_of x) (target_of x) at_source in
          let back = way_keeps n (target_of x) (source_of x) at_target in
          omega (arith, on, back)

    -- over each binding
    pair_keeps : (n : ℕ) (x : Bind) → IsIn x d.bindings → pair_price d P t c n x ≡ pair_price d P u c n x
    pair_keeps n x there = go (is_pair x) refl
      where
        go : (b : Bool) → is_pair x ≡ b →
            cond b (way_price d P t c n (source_of x) (target_of x) + way_price d P t c n (target_of x) (source_of x)) 0
            ≡ cond b (way_price d P u c n (source_of x) (target_of x) + way_price d P u c n (target_of x) (source_of x)) 0
        go true e = both_ways x there e n
        go false e = refl

    -- so what is raised at the channel costs the same
    node_keeps : node_price d P t c ≡ node_price d P u c
    node_keeps =
        let over = by_number_in (pair_price d P t c) (pair_price d P u c) 0 d.bindings pair_keeps in
        let own = same.0 in
        omega (arith, over, own)

    -- also where it waited for a thaw
    waited_keeps : waited_price d P t c ≡ waited_price d P u c
    waited_keeps = let node = node_keeps in omega (arith, node)

  -- ** programs

  -- the tables agree on all that an instruction may start
  abbrev SameStart : Start → Type 0
  SameStart i = (k : Channel) → IsIn k (started i) → SameNode (graph d) t u k

  -- what an instruction may start costs the same
  start_keeps : (i : Start) → SameStart i → start_price d P t i ≡ start_price d P u i
  start_keeps nothing same = refl
  start_keeps (raises cs) same = greatest_same (node_price d P t) (node_price d P u) cs (λ k h. node_keeps k (same k h))
  start_keeps (makes cs) same = total_same (node_price d P t) (node_price d P u) cs (λ k h. node_keeps k (same k h))
  start_keeps (thaws css) same =
      greatest_same (λ cs. total (waited_price d P t) cs) (λ cs. total (waited_price d P u) cs) css
      (λ cs h. total_same (waited_price d P t) (waited_price d P u) cs (λ k there. waited_keeps k (same k (flat_in (λ (cs : List Channel). cs) css cs k h there))))

  -- so do the instructions from one on
  code_keeps : (p : Program) (q block at : ℕ) (ks : Kinds) (code : List Instruction) → ((i : Start) → IsIn i (starts_of d p ks code) → SameStart i) →
      code_prices d P t p q block at ks code ≡ code_prices d P u p q block at ks code
  code_keeps p q block at ks [] same = refl
  code_keeps p q block at ks (i ∷ code) same =
      let start = start_keeps (start_of d ks i) (same (start_of d ks i) (inl refl)) in
      let h = code_keeps p q block (suc at) (after d p ks i) code (λ x k. same x (inr k)) in
      let first : instruction_price d P t q block at ks i ≡ instruction_price d P u q block at ks i = ap (λ n. P (deeds.instruction q block at) + (toll d P ks i + n)) start in
      ap (λ n. n ∷ code_prices d P t p q block (suc at) (after d p ks i) code) first
      ∙ ap (λ (ns : List ℕ). instruction_price d P u q block at ks i ∷ ns) h

  -- the tables agree on all that a block may start
  abbrev SameBlock : Program → Block → Type 0
  SameBlock p b = (i : Start) → IsIn i (starts_of d p b.entry b.code) → SameStart i

  -- so does a block
  block_keeps : (p : Program) (q n : ℕ) (b : Block) → SameBlock p b → block_price d P t p q n b ≡ block_price d P u p q n b
  block_keeps p q n b same =
      ap (λ (xs : List ℕ). passes_in b * sum (before_last xs) + sum (only_last xs)) (code_keeps p q n 0 b.entry b.code same)

  -- so does each path from a block on
  paths_keep : (p : Program) (q n : ℕ) (bs : List Block) → ((b : Block) → IsIn b bs → SameBlock p b) → path_prices d P t p q n bs ≡ path_prices d P u p q n bs
  paths_keep p q n [] same = refl
  paths_keep p q n (b ∷ bs) same =
      ap (with_next d P t p q n b) (paths_keep p q (suc n) bs (λ x h. same x (inr h)))
      ∙ ap (λ m. (m + greatest (λ to. read 0 (path_prices d P u p q (suc n) bs) (to - suc n)) (flat_map next_of b.code)) ∷ path_prices d P u p q (suc n) bs)
      (block_keeps p q n b (same b (inl refl)))

  -- the tables agree on all that a program may start
  abbrev SameProgram : List Stretch → Type 0
  SameProgram stretches = (k : Channel) → IsIn k (flat_map (λ (s : Stretch). flat_map started s.starts) stretches) → SameNode (graph d) t u k

  -- so does a program from its first block on
  first_keeps : (p : Program) (q : ℕ) → SameProgram (stretches_of d p) → from_block d P t p q 0 ≡ from_block d P u p q 0
  first_keeps p q same =
      ap (λ (xs : List ℕ). read 0 xs 0)
      (paths_keep p q 0 p.blocks
      (λ b h i at k starts.
      same k
      (flat_in (λ (s : Stretch). flat_map started s.starts) (stretches_of d p) (stretch_of d p b) k (map_in (stretch_of d p) p.blocks b h)
      (flat_in started (starts_of d p b.entry b.code) i k at starts))))

  -- that is its number among those of all programs
  pub program_keeps : (n : ℕ) (ps : List Program) (q : ℕ) → SameProgram (read [] (map (stretches_of d) ps) q) →
      read 0 (program_prices d P t n ps) q ≡ read 0 (program_prices d P u n ps) q
  program_keeps n [] q same = refl
  program_keeps n (p ∷ ps) zero same = first_keeps p n same
  program_keeps n (p ∷ ps) (suc q) same = program_keeps (suc n) ps q same

  -- and where the tables agree everywhere all programs cost the same
  pub programs_keep : ((k : Channel) → SameNode (graph d) t u k) → (n : ℕ) (ps : List Program) → program_prices d P t n ps ≡ program_prices d P u n ps
  programs_keep same n [] = refl
  programs_keep same n (p ∷ ps) =
      ap (λ m. m ∷ program_prices d P t (suc n) ps) (first_keeps p n (λ k h. same k))
      ∙ ap (λ (ms : List ℕ). from_block d P u p n 0 ∷ ms) (programs_keep same (suc n) ps)

  -- ** channels

  -- a program that is to begin costs the same, if the tables agree on it
  begun_keeps : (q : ℕ) → of_program t q ≡ of_program u q → begun_price P t q ≡ begun_price P u q
  begun_keeps q same = ap (λ n. P (deeds.run q) + n) same

  -- so does a turn that begins it
  handled_keeps : (place number q : ℕ) → of_program t q ≡ of_program u q → handled_price P t place number q ≡ handled_price P u place number q
  handled_keeps place number q same = ap (λ n. P (deeds.turn place number) + (P (deeds.run q) + n)) same

  module _ (r : Raised) (same : SameParts (graph d) t u r) where
    -- the tables agree on what runs at the channel: the class's program,
    of_class : (q : ℕ) → IsIn q r.class_handler → of_program t q ≡ of_program u q
    of_class q h = same.0 q (append_left r.class_handler (r.handlers ++ r.connectable) q h)

    -- the handlers of the document,
    of_handlers : (q : ℕ) → IsIn q r.handlers → of_program t q ≡ of_program u q
    of_handlers q h = same.0 q (append_right r.class_handler (r.handlers ++ r.connectable) q (append_left r.handlers r.connectable q h))

    -- and those that may be connected
    of_connectable : (q : ℕ) → IsIn q r.connectable → of_program t q ≡ of_program u q
    of_connectable q h = same.0 q (append_right r.class_handler (r.handlers ++ r.connectable) q (append_right r.handlers r.connectable q h))

    module _ (targets : r.targets ≡ targets_from d r.channel) where
      -- the turn for a binding costs the same
      turn_keeps : (place number n : ℕ) (b : Bind) → IsIn b d.bindings → turn_over d P t place number r.channel n b ≡ turn_over d P u place number r.channel n b
      turn_keeps place number n b there = ap (λ m. cond (is_heard r.channel b) (P (deeds.turn place number)) 0 + m) (go (leads_on r.channel b) refl)
        where
          go : (x : Bool) → leads_on r.channel b ≡ x →
              cond x (carry_price d P n (target_of b) + node_price d P t (target_of b)) 0 ≡ cond x (carry_price d P n (target_of b) + node_price d P u (target_of b)) 0
          go true e =
              let among : IsIn (target_of b) r.targets =
              subst (λ (cs : List Channel). IsIn (target_of b) cs) (sym targets)
              (map_in target_of (filter (leads_on r.channel) d.bindings) b (filter_in (leads_on r.channel) d.bindings b e there)) in
              ap (λ m. carry_price d P n (target_of b) + m) (node_keeps (target_of b) (same.1 (target_of b) among))
          go false e = refl

      -- so do all turns of an emission, and its end
      emission_keeps : (place number : ℕ) → emission_price d P t place number r ≡ emission_price d P u place number r
      emission_keeps place number =
          let class = ap (λ m. r.stages * m)
          (total_same (handled_price P t place number) (handled_price P u place number) r.class_handler (λ q h. handled_keeps place number q (of_class q h))) in
          let own = total_same (handled_price P t place number) (handled_price P u place number) r.handlers (λ q h. handled_keeps place number q (of_handlers q h)) in
          let most = ap (λ m. d.most_handlers * m)
          (greatest_same (handled_price P t place number) (handled_price P u place number) r.connectable (λ q h. handled_keeps place number q (of_connectable q h))) in
          let turns = by_number_in (turn_over d P t place number r.channel) (turn_over d P u place number r.channel) 0 d.bindings (turn_keeps place number) in
          omega (arith, class, own, most, turns)

      -- so does what is raised at a channel of each sort
      at_keeps : (c : Channel) → price_at d P t r c ≡ price_at d P u r c
      at_keeps (constructed place) = total_same (begun_price P t) (begun_price P u) r.handlers (λ q h. begun_keeps q (of_handlers q h))
      at_keeps (property place slot) = ap (λ n. P (deeds.notify place slot) + n) (emission_keeps place 0)
      at_keeps (signal place number) = ap (λ n. P (deeds.emit place number) + n) (emission_keeps place number)

      -- so the price of the channel is the same
      pub channel_keeps : channel_price d P t r ≡ channel_price d P u r
      channel_keeps = at_keeps r.channel
