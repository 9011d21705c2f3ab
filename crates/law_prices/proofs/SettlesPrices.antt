-- In an accepted definition going on comes to an end for prices as well, and what it comes to is the one solution.
use Rattle.std.proofs.Common.{◌≡◌, inl, inr, refl, sym, ap, subst, ◌∙◌, ℕ, zero, suc, ◌+◌, ◌≤◌, ◌<◌, Bool, true, false, cond, List, [], ◌∷◌, length, map, arith}
use Rattle.std.specs.List.{filter}
use Rattle.std.proofs.lemmas.Bool.{and_from}
use Rattle.ui_machine.specs.Definition.{Definition}
use Rattle.law_typing.specs.Graph.{Graph, Raised, connections, graph, raised_at, targets_from}
use Rattle.law_typing.specs.Graph.Channels.{Channel, channels, same_channel}
use Rattle.law_typing.specs.Graph.Costs.{no_tables}
use Rattle.law_typing.specs.Graph.Ranks.{arrows, is_raised, leads, node, nodes, rank_by}
use Rattle.law_typing.specs.Graph.Tables.{Table, Tables, entry, greatest, numbers_of, same_numbers, same_table, same_tables, settled}
use Rattle.law_typing.specs.Laws.{IsIn}
use Rattle.law_typing.specs.Laws.OneSolution.{IsPaired}
use Rattle.law_typing.specs.Rules.Sites.{sites}
use Rattle.law_typing.specs.Verdict.Accepted.{Accepted}
use Rattle.law_typing.proofs.Lists.{any_true, each_in, each_map, same_channel_refl}
use Rattle.law_typing.proofs.OneSolutionProofs.{Beyond, Same, SameNode, SameParts, entry_below, entry_same, map_same, started_beyond, target_beyond}
use Rattle.law_typing.proofs.PairProofs.{accepted_is_paired}
use Rattle.law_typing.proofs.SettlesProofs.{Ends, by_end, by_more, entry_is, few_ranks, same_numbers_refl}
use Rattle.law_typing.proofs.SettlesTables.{Close}
use Rattle.law_prices.specs.Deeds.{PriceList}
use Rattle.law_prices.specs.Prices.{SolvesPrices, channel_price, channels_by, prices, program_prices, programs_by}
use Rattle.law_prices.proofs.PartPrices.{channel_keeps, program_keeps, programs_keep}

-- ** how far the ranks go

-- a list is as long as what is left of it, or longer
shorter : {A : Type 0} (test : A → Bool) (xs : List A) → length (filter test xs) ≤ length xs
shorter test [] = omega arith
shorter test (x ∷ xs) = by (test x) (shorter test xs)
  where
    by : (b : Bool) → length (filter test xs) ≤ length xs → length (cond b (x ∷ filter test xs) (filter test xs)) ≤ length (x ∷ xs)
    by true h = omega (arith, h)
    by false h = omega (arith, h)

-- a list is as long as what each of its entries gives
as_long : {A B : Type 0} (f : A → B) (xs : List A) → length (map f xs) ≡ length xs
as_long f [] = refl
as_long f (x ∷ xs) = let ih = as_long f xs in omega (arith, ih)

-- no number of a table is greater than all that it was made from
greatest_map : (f : Channel → ℕ) (m : ℕ) (ns : List Channel) → ((n : Channel) → IsIn n ns → f n ≤ m) → greatest (λ (x : Channel × ℕ). x.1) (map (λ n. (n, f n)) ns) ≤ m
greatest_map f m [] all = omega arith
greatest_map f m (n ∷ ns) all =
    let a = all n (inl refl) in
    let b = greatest_map f m ns (λ x h. all x (inr h)) in
    omega (arith, a, b)

-- tables are the same as themselves
same_tables_refl : (t : Tables) → same_tables t t ≡ true
same_tables_refl t =
    and_from (same_table t.channels t.channels) (same_numbers t.programs t.programs) (same_numbers_refl (numbers_of t.channels)) (same_numbers_refl t.programs)

module _ (d : Definition) (a : Accepted d) (P : PriceList) where
  abbrev g : Graph
  g = graph d

  abbrev ranks : Table
  ranks = a.weighed.ranks

  abbrev top : ℕ
  top = greatest (λ (x : Channel × ℕ). x.1) ranks

  abbrev next : Tables → Tables
  next t = channels_by d P (programs_by d P t)

  -- the pairs of the graph are as they should be
  paired : IsPaired g
  paired = accepted_is_paired d a

  -- no rank is above the number of channels
  top_below : top ≤ length g.raised
  top_below =
      let long = as_long (λ (r : Raised). node g r.channel) g.raised in
      let numbers = greatest_map (rank_by (arrows g) ranks) (length g.raised) (nodes g)
      (λ n h.
      let few = few_ranks g ranks a.weighed.ranking n h in
      let short = shorter (leads (arrows g)) (nodes g) in
      let e = entry_is g ranks a.weighed.ranking n h in
      omega (arith, few, short, e, long)) in
      let e = ap (greatest (λ (x : Channel × ℕ). x.1)) a.weighed.ranking in
      omega (arith, numbers, e)

  -- the targets of each entry of the graph are those of the definition's bindings
  targets_are : (r : Raised) → IsIn r g.raised → r.targets ≡ targets_from d r.channel
  targets_are r h =
      each_in (λ (r : Raised). r.targets ≡ targets_from d r.channel) g.raised
      (each_map (λ (r : Raised). r.targets ≡ targets_from d r.channel) (raised_at d (connections d (sites d))) (channels d) (λ c. refl)) r h

  -- ** tables that agree near the top agree one rank further after a go

  module _ (k : ℕ) (t u : Tables) (close : Close g ranks k t u) where
    -- they agree on a channel, if its entries have such ranks
    close_entry : (c : Channel) → ((r : Raised) → IsIn r g.raised → r.channel ≡ c → top < entry ranks (node g r.channel) + k) → Same t u c
    close_entry c low =
        ap (λ x. entry x c) close.is_left
        ∙ (entry_same close.left close.right g.raised c (λ r h e. close.agree r h (low r h e)) ∙ sym (ap (λ x. entry x c) close.is_right))

    -- and on the node of one that is above another of such a rank
    close_beyond : (from c : Channel) → top < entry ranks (node g from) + suc k → Beyond g ranks a.weighed.ranking from c → SameNode g t u c
    close_beyond from c low beyond = (
      close_entry c (λ r h e.
          let up = beyond r h (ap (node g) e) in
          let n = ap (λ x. entry ranks (node g x)) e in
          omega (arith, low, up, n)),
      λ e is. close_entry e (λ r h s.
          let n : node g r.channel ≡ node g c = ap (node g) s ∙ sym (paired.node c e is) in
          let up = beyond r h n in
          let same = ap (entry ranks) n in
          omega (arith, low, up, same)),
    )

    -- an entry of a channel shows that the channel is there
    there : (r : Raised) (c : Channel) → IsIn r g.raised → r.channel ≡ c → is_raised g c ≡ true
    there r c h e =
        any_true (λ (x : Raised). same_channel x.channel c) g.raised r h (subst (λ k. same_channel r.channel k ≡ true) e (same_channel_refl r.channel))

    -- and on one that is not there
    close_nowhere : (c : Channel) → is_raised g c ≡ false → SameNode g t u c
    close_nowhere c none = (
      close_entry c (λ r h e. absurd (let is = there r c h e in cc)),
      λ e is. close_entry e (λ r h s. absurd (let found = paired.raised c e is (there r e h s) in cc)),
    )

    -- and on the target of a binding
    close_target : (r : Raised) (c : Channel) (is : Bool) → is_raised g c ≡ is → IsIn r g.raised → IsIn c r.targets →
        top < entry ranks (node g r.channel) + suc k → SameNode g t u c
    close_target r c true e h leads low = close_beyond r.channel c low (target_beyond g ranks a.weighed.ranking r h c leads e)
    close_target r c false e h leads low = close_nowhere c e

    -- so they agree on all that is raised at a channel one rank further from the top
    close_parts : (r : Raised) → IsIn r g.raised → top < entry ranks (node g r.channel) + suc k → SameParts g (programs_by d P t) (programs_by d P u) r
    close_parts r h low = (
      λ q runs. program_keeps d a P t u 0 d.programs q (λ c starts. close_beyond r.channel c low (started_beyond g ranks a.weighed.ranking r h q runs c starts)),
      λ c leads. close_target r c (is_raised g c) refl h leads low,
    )

    -- and after a go on the channel itself
    close_next : Close g ranks (suc k) (next t) (next u)
    close_next = record {
      left = channel_price d P (programs_by d P t);
      right = channel_price d P (programs_by d P u);
      is_left = refl;
      is_right = refl;
      agree = λ r h low. channel_keeps d a P (programs_by d P t) (programs_by d P u) r (close_parts r h low) (targets_are r h);
    }

    -- once two agree everywhere, the next ones are the same
    arrived : top < k → next t ≡ next u
    arrived past =
        let same : t.channels ≡ u.channels =
        close.is_left
        ∙ (map_same (λ (r : Raised). (r.channel, close.left r)) (λ (r : Raised). (r.channel, close.right r)) g.raised
        (λ r h. ap (λ n. (r.channel, n)) (close.agree r h (omega (arith, past)))) ∙ sym close.is_right) in
        let each : (c : Channel) → Same t u c = λ c. ap (λ (x : Table). entry x c) same in
        let programs : program_prices d P t 0 d.programs ≡ program_prices d P u 0 d.programs = programs_keep d a P t u (λ c. (each c, λ e is. each e)) 0 d.programs in
        let whole : programs_by d P t ≡ programs_by d P u =
        ap (λ (cs : Table). record (programs_by d P t) { channels = cs }) same ∙ ap (λ (ps : List ℕ). record (programs_by d P u) { programs = ps }) programs in
        ap (channels_by d P) whole

  -- ** so going on ends

  -- so many goes are enough, where so many ranks are left
  tables_end : (n k : ℕ) (t : Tables) → Close g ranks k t (next t) → top < k + n → Ends (settled same_tables (suc (suc n)) next t)
  tables_end zero k t close low = by (same_tables t (next t)) refl
    where
      one : next t ≡ next (next t)
      one = arrived k t (next t) close (omega (arith, low))

      stays : same_tables (next t) (next (next t)) ≡ true
      stays = subst (λ x. same_tables (next t) x ≡ true) one (same_tables_refl (next t))

      by : (b : Bool) → same_tables t (next t) ≡ b → Ends (settled same_tables (suc (suc zero)) next t)
      by true e = record { at = next t; is = by_end same_tables (suc zero) next t e }
      by false e = record { at = next (next t); is = by_more same_tables (suc zero) next t (next (next t)) e (by_end same_tables zero next (next t) stays) }
  tables_end (suc n) k t close low = by (same_tables t (next t)) refl (tables_end n (suc k) (next t) (close_next k t (next t) close) (omega (arith, low)))
    where
      by : (b : Bool) → same_tables t (next t) ≡ b → Ends (settled same_tables (suc (suc n)) next (next t)) → Ends (settled same_tables (suc (suc (suc n))) next t)
      by true e more = record { at = next t; is = by_end same_tables (suc (suc n)) next t e }
      by false e more = record { at = more.at; is = by_more same_tables (suc (suc n)) next t more.at e more.is }

  -- tables of the graph agree below the least rank
  at_first : (t u : Tables) (left right : Raised → ℕ) → t.channels ≡ map (λ (r : Raised). (r.channel, left r)) g.raised →
      u.channels ≡ map (λ (r : Raised). (r.channel, right r)) g.raised → Close g ranks 0 t u
  at_first t u left right is_left is_right = record {
    left = left;
    right = right;
    is_left = is_left;
    is_right = is_right;
    agree = λ r h below. absurd (let b = entry_below ranks (node g r.channel) in omega (arith, b, below));
  }

  -- the prices are computed
  pub prices_end : Ends (prices d P)
  prices_end =
      let low = top_below in
      let start = no_tables g in
      let e : suc (suc (suc (length g.raised))) ≡ 3 + length g.raised = omega arith in
      let close = at_first start (next start) (λ r. 0) (channel_price d P (programs_by d P start)) refl refl in
      subst (λ n. Ends (settled same_tables n next start)) e (tables_end (suc (length g.raised)) 0 start close (omega (arith, low)))

  -- ** and there is one solution

  -- what solves the equations stays as it is
  stays : (t : Tables) → SolvesPrices d P t → t ≡ next t
  stays t solves =
      let whole : t ≡ programs_by d P t = ap (λ (ps : List ℕ). record t { programs = ps }) solves.programs in
      ap (λ (cs : Table). record t { channels = cs }) solves.channels ∙ ap (channels_by d P) whole

  -- two solutions agree at all ranks
  solutions_close : (t u : Tables) → SolvesPrices d P t → SolvesPrices d P u → (k : ℕ) → Close g ranks k t u
  solutions_close t u solves_t solves_u zero = at_first t u (channel_price d P t) (channel_price d P u) solves_t.channels solves_u.channels
  solutions_close t u solves_t solves_u (suc k) =
      subst (λ x. Close g ranks (suc k) x u) (sym (stays t solves_t))
      (subst (Close g ranks (suc k) (next t)) (sym (stays u solves_u)) (close_next k t u (solutions_close t u solves_t solves_u k)))

  -- so they are one
  pub one_solution : (t u : Tables) → SolvesPrices d P t → SolvesPrices d P u → t ≡ u
  one_solution t u solves_t solves_u =
      stays t solves_t ∙ (arrived (suc top) t u (solutions_close t u solves_t solves_u (suc top)) (omega arith) ∙ sym (stays u solves_u))
