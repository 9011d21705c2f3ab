-- Numbers of a graph by those of the graph without its idle channels.
use Rattle.std.proofs.Common.{◌≡◌, inl, inr, refl, sym, ap, subst, ◌∙◌, ◌⊎◌, ℕ, zero, suc, ◌+◌, ◌*◌, ◌≤◌, max, Bool, true, false, cond, List, [], ◌∷◌, ◌++◌, map, Option, None, Some, arith}
use Rattle.std.specs.Prelude.{◌||◌}
use Rattle.std.specs.List.{filter, find, flat_map, list_any}
use Rattle.ui_machine.specs.Seq.{read, total}
use Rattle.law_typing.specs.Graph.Channels.{Channel, Link, same_channel, signal}
use Rattle.law_typing.specs.Graph.Channels as causes
use Rattle.law_typing.specs.Graph.{Graph, Raised, Stretch}
use Rattle.law_typing.specs.Graph.Tables.{Table, Tables, entry, greatest, of_program}
use Rattle.law_typing.specs.Graph.Ranks.{Arrow, IsRanking, above, arrow, arrows, arrows_by, arrows_from, is_cycle_of, is_raised, node, nodes, rank_by, running_at, started, started_by}
use Rattle.law_typing.specs.Graph.Costs.{channel_cost, cost_at, making_cost, node_cost, other_end, program_cost, targets_cost, with_other}
use Rattle.law_typing.specs.Graph.Depths.{SolvesDepths, channel_depth, deepest, depth, depth_at, depth_within, depth_within_if, making_depth, program_depth, property_depth}
use Rattle.law_typing.specs.Laws.{IsIn}
use Rattle.law_typing.specs.Laws.Capped.{capped}
use Rattle.law_typing.proofs.Lists.{any_in, each_in, entry_of, filter_in, map_in, same_channel_true}
use Rattle.law_typing.proofs.OneSolutionProofs.{SameNode, SameParts, cost_at_same, depth_at_same, filtered_kept, find_in, greatest_same, map_same, program_cost_same, program_depth_same, total_same}
use Rattle.law_typing.proofs.RankProofs.{begins}
use Rattle.law_judging.specs.CappedNumbers.{SolvesCapped}
use Rattle.law_idle.specs.Resting.{AddsCosts, CostsAreAdded, CyclesAreSame, DepthsAreAdded, IsIdle, OthersAreIdle, RanksAreAdded, without_idle}

-- ** lists

pub append_in : {A : Type 0} (xs ys : List A) (x : A) → IsIn x (xs ++ ys) → IsIn x xs ⊎ IsIn x ys
append_in [] ys x h = inr h
append_in (y ∷ xs) ys x (inl e) = inl (inl e)
append_in (y ∷ xs) ys x (inr h) = go (append_in xs ys x h)
  where
    go : IsIn x xs ⊎ IsIn x ys → IsIn x (y ∷ xs) ⊎ IsIn x ys
    go (inl k) = inl (inr k)
    go (inr k) = inr k

-- what a joined list has is in one of its parts
pub in_flat : {A B : Type 0} (f : A → List B) (xs : List A) (b : B) → IsIn b (flat_map f xs) → (x : A) × IsIn x xs × IsIn b (f x)
in_flat f [] b h = absurd h
in_flat {A} f (x ∷ xs) b h = go (in_flat f xs b) (append_in (f x) (flat_map f xs) b h)
  where
    go : (IsIn b (flat_map f xs) → (y : A) × IsIn y xs × IsIn b (f y)) → IsIn b (f x) ⊎ IsIn b (flat_map f xs) → (y : A) × IsIn y (x ∷ xs) × IsIn b (f y)
    go later (inl k) = (x, inl refl, k)
    go later (inr k) = let m = later k in (m.0, inr m.1, m.2)

pub in_map : {A B : Type 0} (f : A → B) (xs : List A) (b : B) → IsIn b (map f xs) → (x : A) × IsIn x xs × (b ≡ f x)
in_map f [] b h = absurd h
in_map f (x ∷ xs) b (inl e) = (x, inl refl, e)
in_map f (x ∷ xs) b (inr h) = let m = in_map f xs b h in (m.0, inr m.1, m.2)

read_in : {A : Type 0} (xs : List (List A)) (n : ℕ) (x : A) → IsIn x (read [] xs n) → IsIn (read [] xs n) xs
read_in [] n x h = absurd h
read_in (y ∷ ys) zero x h = inl refl
read_in (y ∷ ys) (suc n) x h = inr (read_in ys n x h)

-- ** a channel that is busy is found in either graph

module _ (busy : Channel → Bool) (c : Channel) (is : busy c ≡ true) where
  abbrev test : Raised → Bool
  test r = same_channel r.channel c

  abbrev kept : Raised → Bool
  kept r = busy r.channel

  not_other : (r : Raised) → busy r.channel ≡ false → same_channel r.channel c ≡ false
  not_other r idle = by (same_channel r.channel c) refl
    where
      by : (b : Bool) → same_channel r.channel c ≡ b → b ≡ false
      by false e = refl
      by true e = absurd (let s = ap busy (same_channel_true r.channel c e) in cc)

  pub same_any : (rs : List Raised) → list_any test (filter kept rs) ≡ list_any test rs
  same_any [] = refl
  same_any (r ∷ rs) = by (busy r.channel) refl (same_any rs)
    where
      by : (b : Bool) → busy r.channel ≡ b → list_any test (filter kept rs) ≡ list_any test rs →
          list_any test (cond b (r ∷ filter kept rs) (filter kept rs)) ≡ (same_channel r.channel c || list_any test rs)
      by true e later = ap (λ b. same_channel r.channel c || b) later
      by false e later = later ∙ sym (ap (λ b. b || list_any test rs) (not_other r e))

  pub same_find : (rs : List Raised) → find test (filter kept rs) ≡ find test rs
  same_find [] = refl
  same_find (r ∷ rs) = by (busy r.channel) refl (same_find rs)
    where
      by : (b : Bool) → busy r.channel ≡ b → find test (filter kept rs) ≡ find test rs →
          find test (cond b (r ∷ filter kept rs) (filter kept rs)) ≡ cond (same_channel r.channel c) (Some r) (find test rs)
      by true e later = ap (cond (same_channel r.channel c) (Some r)) later
      by false e later = later ∙ sym (ap (λ b. cond b (Some r) (find test rs)) (not_other r e))

  -- and has the same number in a table with idle ones added
  same_entry : (f : Raised → ℕ) (idle : ℕ) (rs : List Raised) →
      entry (map (λ (r : Raised). (r.channel, cond (busy r.channel) (f r) idle)) rs) c ≡ entry (map (λ (r : Raised). (r.channel, f r)) (filter kept rs)) c
  same_entry f idle [] = refl
  same_entry f idle (r ∷ rs) = by (busy r.channel) refl (same_entry f idle rs)
    where
      by : (b : Bool) → busy r.channel ≡ b →
          entry (map (λ (r : Raised). (r.channel, cond (busy r.channel) (f r) idle)) rs) c ≡ entry (map (λ (r : Raised). (r.channel, f r)) (filter kept rs)) c →
          cond (same_channel r.channel c) (cond b (f r) idle) (entry (map (λ (r : Raised). (r.channel, cond (busy r.channel) (f r) idle)) rs) c)
          ≡ entry (map (λ (r : Raised). (r.channel, f r)) (cond b (r ∷ filter kept rs) (filter kept rs))) c
      by true e later = ap (cond (same_channel r.channel c) (f r)) later
      by false e later =
          ap (λ b. cond b idle (entry (map (λ (r : Raised). (r.channel, cond (busy r.channel) (f r) idle)) rs) c)) (not_other r e) ∙ later

-- an idle one that is there has the number that is added
idle_entry : (busy : Channel → Bool) (c : Channel) (f : Raised → ℕ) (idle : ℕ) (rs : List Raised) → busy c ≡ false →
    list_any (λ (r : Raised). same_channel r.channel c) rs ≡ true → entry (map (λ (r : Raised). (r.channel, cond (busy r.channel) (f r) idle)) rs) c ≡ idle
idle_entry busy c f idle [] is there = absurd (cc)
idle_entry busy c f idle (r ∷ rs) is there = by (same_channel r.channel c) refl there (idle_entry busy c f idle rs is)
  where
    by : (b : Bool) → same_channel r.channel c ≡ b → (b || list_any (λ (r : Raised). same_channel r.channel c) rs) ≡ true →
        (list_any (λ (r : Raised). same_channel r.channel c) rs ≡ true → entry (map (λ (r : Raised). (r.channel, cond (busy r.channel) (f r) idle)) rs) c ≡ idle) →
        cond b (cond (busy r.channel) (f r) idle) (entry (map (λ (r : Raised). (r.channel, cond (busy r.channel) (f r) idle)) rs) c) ≡ idle
    by true e k later = ap (λ b. cond b (f r) idle) (ap busy (same_channel_true r.channel c e) ∙ is)
    by false e k later = later k

module _ (g : Graph) (busy : Channel → Bool) (others : OthersAreIdle g busy) where
  abbrev less : Graph
  less = without_idle g busy

  -- ** edges

  same_raised : (c : Channel) → busy c ≡ true → is_raised less c ≡ is_raised g c
  same_raised c is = same_any busy c is g.raised

  same_targets : (cs : List Channel) → ((c : Channel) → IsIn c cs → busy c ≡ true) → filter (is_raised less) cs ≡ filter (is_raised g) cs
  same_targets [] all = refl
  same_targets (c ∷ cs) all =
      ap (λ b. cond b (c ∷ filter (is_raised less) cs) (filter (is_raised less) cs)) (same_raised c (all c (inl refl)))
      ∙ ap (λ xs. cond (is_raised g c) (c ∷ xs) xs) (same_targets cs (λ e h. all e (inr h)))

  none_from : (r : Raised) → IsIdle r → arrows_from g r ≡ []
  none_from r is = let a = is.class_handler in let b = is.handlers in let c = is.connectable in let d = is.targets in
      ap (λ xs. flat_map (arrows_by g r.channel) (xs ++ (r.handlers ++ r.connectable)) ++ map (arrow g r.channel causes.binding) (filter (is_raised g) r.targets)) a
      ∙ (ap (λ xs. flat_map (arrows_by g r.channel) (xs ++ r.connectable) ++ map (arrow g r.channel causes.binding) (filter (is_raised g) r.targets)) b
      ∙ (ap (λ xs. flat_map (arrows_by g r.channel) xs ++ map (arrow g r.channel causes.binding) (filter (is_raised g) r.targets)) c
      ∙ ap (λ xs. map (arrow g r.channel causes.binding) (filter (is_raised g) xs)) d))

  arrows_of : (rs : List Raised) → ((r : Raised) → IsIn r rs → IsIn r g.raised) →
      flat_map (arrows_from less) (filter (λ (r : Raised). busy r.channel) rs) ≡ flat_map (arrows_from g) rs
  arrows_of [] all = refl
  arrows_of (r ∷ rs) all = by (busy r.channel) refl (arrows_of rs (λ x h. all x (inr h)))
    where
      by : (b : Bool) → busy r.channel ≡ b → flat_map (arrows_from less) (filter (λ (r : Raised). busy r.channel) rs) ≡ flat_map (arrows_from g) rs →
          flat_map (arrows_from less) (cond b (r ∷ filter (λ (r : Raised). busy r.channel) rs) (filter (λ (r : Raised). busy r.channel) rs))
          ≡ arrows_from g r ++ flat_map (arrows_from g) rs
      by true e later =
          ap (λ xs. (flat_map (arrows_by g r.channel) (running_at r) ++ map (arrow g r.channel causes.binding) xs) ++ flat_map (arrows_from less) (filter (λ (r : Raised). busy r.channel) rs))
          (same_targets r.targets (others.targets r (all r (inl refl))))
          ∙ ap (λ xs. arrows_from g r ++ xs) later
      by false e later = later ∙ sym (ap (λ xs. xs ++ flat_map (arrows_from g) rs) (none_from r (others.idle r (all r (inl refl)) e)))

  pub same_arrows : arrows less ≡ arrows g
  same_arrows = arrows_of g.raised (λ r h. h)

  -- ** ranks

  abbrev pub all_ranks : Table → Table
  all_ranks t = map (λ n. (n, rank_by (arrows g) t n)) (nodes g)

  module _ (t : Table) (solved : IsRanking less t) where
    -- the node of a busy channel has one number
    node_entry : (n : Channel) → IsIn n (nodes less) → IsIn n (nodes g) → entry (all_ranks t) n ≡ entry t n
    node_entry n small large =
        entry_of (rank_by (arrows g) t) (nodes g) n large
        ∙ (ap (λ es. rank_by es t n) (sym same_arrows)
        ∙ sym (ap (λ (x : Table). entry x n) solved ∙ entry_of (rank_by (arrows less) t) (nodes less) n small))

    above_same : (a : Arrow) → IsIn a (arrows g) → above (all_ranks t) a ≡ above t a
    above_same a h =
        ap suc (node_entry a.from (each_in (λ (a : Arrow). IsIn a.from (nodes less)) (arrows less) (begins less) a (subst (λ xs. IsIn a xs) (sym same_arrows) h))
        (each_in (λ (a : Arrow). IsIn a.from (nodes g)) (arrows g) (begins g) a h))

    rank_same : (n : Channel) → rank_by (arrows g) t n ≡ rank_by (arrows g) (all_ranks t) n
    rank_same n =
        sym (greatest_same (above (all_ranks t)) (above t) (filter (λ (a : Arrow). same_channel a.to n) (arrows g))
        (λ a h. above_same a (filtered_kept (λ (a : Arrow). same_channel a.to n) (arrows g) a h).1))

    pub ranks_solved : IsRanking g (all_ranks t)
    ranks_solved = map_same (λ n. (n, rank_by (arrows g) t n)) (λ n. (n, rank_by (arrows g) (all_ranks t) n)) (nodes g) (λ n h. ap (λ k. (n, k)) (rank_same n))

    pub busy_rank : (c : Channel) → busy c ≡ true → is_raised g c ≡ true → entry (all_ranks t) (node g c) ≡ entry t (node g c)
    busy_rank c is there =
        let f = any_in (λ (r : Raised). same_channel r.channel c) g.raised there in
        let e = same_channel_true f.0.channel c f.2 in
        let kept = filter_in (λ (r : Raised). busy r.channel) g.raised f.0 (ap busy e ∙ is) f.1 in
        subst (λ k. entry (all_ranks t) (node g k) ≡ entry t (node g k)) e
        (node_entry (node g f.0.channel) (map_in (λ (r : Raised). node g r.channel) (filter (λ (r : Raised). busy r.channel) g.raised) f.0 kept)
        (map_in (λ (r : Raised). node g r.channel) g.raised f.0 f.1))

  -- what an edge leads to is busy
  started_busy : (q : ℕ) (k : Channel) → IsIn k (started_by g q) → busy k ≡ true
  started_busy q k h =
      let s = in_flat (λ (s : Stretch). flat_map started s.starts) (read [] g.programs q) k h in
      let i = in_flat started s.0.starts k s.2 in
      others.starts (read [] g.programs q) (read_in g.programs q s.0 s.1) s.0 s.1 i.0 i.1 k i.2

  to_busy : (a : Arrow) → IsIn a (arrows g) → busy a.to ≡ true
  to_busy a h = by (append_in (flat_map (arrows_by g r.0.channel) (running_at r.0)) (map (arrow g r.0.channel causes.binding) (filter (is_raised g) r.0.targets)) a r.2)
    where
      r : (r : Raised) × IsIn r g.raised × IsIn a (arrows_from g r)
      r = in_flat (arrows_from g) g.raised a h

      by : IsIn a (flat_map (arrows_by g r.0.channel) (running_at r.0)) ⊎ IsIn a (map (arrow g r.0.channel causes.binding) (filter (is_raised g) r.0.targets)) → busy a.to ≡ true
      by (inl k) =
          let q = in_flat (arrows_by g r.0.channel) (running_at r.0) a k in
          let m = in_map (arrow g r.0.channel (causes.program q.0)) (started_by g q.0) a q.2 in
          ap (λ (x : Arrow). busy x.to) m.2 ∙ others.first m.0 (started_busy q.0 m.0 m.1)
      by (inr k) =
          let m = in_map (arrow g r.0.channel causes.binding) (filter (is_raised g) r.0.targets) a k in
          ap (λ (x : Arrow). busy x.to) m.2 ∙ others.first m.0 (others.targets r.0 r.1 m.0 (filtered_kept (is_raised g) r.0.targets m.0 m.1).1)

  none_to : (c : Channel) → busy c ≡ false → (edges : List Arrow) → ((a : Arrow) → IsIn a edges → busy a.to ≡ true) → filter (λ (a : Arrow). same_channel a.to c) edges ≡ []
  none_to c is [] all = refl
  none_to c is (a ∷ edges) all = by (same_channel a.to c) refl (none_to c is edges (λ x h. all x (inr h)))
    where
      by : (b : Bool) → same_channel a.to c ≡ b → filter (λ (a : Arrow). same_channel a.to c) edges ≡ [] →
          cond b (a ∷ filter (λ (a : Arrow). same_channel a.to c) edges) (filter (λ (a : Arrow). same_channel a.to c) edges) ≡ []
      by false e later = later
      by true e later = absurd (let s = ap busy (same_channel_true a.to c e) in let k = all a (inl refl) in cc)

  no_rank : (u : Table) → IsRanking g u → (c : Channel) → busy c ≡ false → (ns : List Channel) → entry (map (λ n. (n, rank_by (arrows g) u n)) ns) c ≡ 0
  no_rank u solved c is [] = refl
  no_rank u solved c is (n ∷ ns) = by (same_channel n c) refl (no_rank u solved c is ns)
    where
      by : (b : Bool) → same_channel n c ≡ b → entry (map (λ n. (n, rank_by (arrows g) u n)) ns) c ≡ 0 →
          cond b (rank_by (arrows g) u n) (entry (map (λ n. (n, rank_by (arrows g) u n)) ns) c) ≡ 0
      by false e later = later
      by true e later =
          ap (rank_by (arrows g) u) (same_channel_true n c e)
          ∙ ap (greatest (above u)) (none_to c is (arrows g) to_busy)

  pub idle_rank : (u : Table) → IsRanking g u → (c : Channel) → busy c ≡ false → entry u (node g c) ≡ 0
  idle_rank u solved c is = ap (entry u) (others.alone c is) ∙ (ap (λ (x : Table). entry x c) solved ∙ no_rank u solved c is (nodes g))

  -- ** tables with the same numbers of busy channels

  module _ (u t : Tables) (programs : u.programs ≡ t.programs) (agree : (c : Channel) → busy c ≡ true → entry u.channels c ≡ entry t.channels c) where
    node_same : (c : Channel) → busy c ≡ true → SameNode g u t c
    node_same c is = (agree c is, λ e end. agree e (others.ends c e end).1)

    parts_same : (r : Raised) → IsIn r g.raised → SameParts g u t r
    parts_same r h = (λ q runs. ap (λ ps. read 0 ps q) programs, λ c leads. node_same c (others.targets r h c leads))

    pub node_cost_same : (c : Channel) → busy c ≡ true → node_cost g u c ≡ node_cost g t c
    node_cost_same c is = by (other_end g c) refl
      where
        by : (o : Option Channel) → other_end g c ≡ o → with_other u (entry u.channels c) o ≡ with_other t (entry t.channels c) o
        by None e = agree c is
        by (Some other) e = let a = agree c is in let b = agree other (others.ends c other e).1 in cc

    pub programs_cost_same : (p : List Stretch) → IsIn p g.programs → program_cost g u p ≡ program_cost g t p
    programs_cost_same p h = program_cost_same g u t p (λ s a i b k c. node_same k (others.starts p h s a i b k c))

    pub programs_depth_same : (p : List Stretch) → IsIn p g.programs → program_depth u p ≡ program_depth t p
    programs_depth_same p h = program_depth_same g u t p (λ s a i b k c. node_same k (others.starts p h s a i b k c))

    pub channel_cost_same : (r : Raised) → IsIn r g.raised → channel_cost g u r ≡ channel_cost g t r
    channel_cost_same r h = cost_at_same g u t r r.channel (parts_same r h)

    pub channel_depth_same : (r : Raised) → IsIn r g.raised → channel_depth g u r ≡ channel_depth g t r
    channel_depth_same r h =
        depth_at_same g u t r r.channel (parts_same r h)
        (λ e other end found. parts_same other (find_in (λ (x : Raised). same_channel x.channel e) g.raised other found).0)

  -- a channel that is found in either graph has one depth
  less_depth : (t : Tables) (r : Raised) (c : Channel) → depth_at g t r c ≡ depth_at less t r c
  less_depth t r (causes.constructed place) = refl
  less_depth t r (causes.signal place number) = refl
  less_depth t r (causes.property place slot) = by (other_end g (causes.property place slot)) refl
    where
      by : (o : Option Channel) → other_end g (causes.property place slot) ≡ o → property_depth g t r o ≡ property_depth less t r o
      by None e = refl
      by (Some other) e =
          ap (λ x. 2 + max (depth_within t r) (depth_within_if t x))
          (sym (same_find busy other (others.ends (causes.property place slot) other e).1 g.raised))

  -- ** costs

  abbrev pub all_costs : Tables → Tables
  all_costs t = record {
    channels = map (λ (r : Raised). (r.channel, cond (busy r.channel) (capped (channel_cost less t r)) 1)) g.raised;
    programs = t.programs;
  }

  idle_cost : (t : Tables) (r : Raised) → IsIdle r → channel_cost g t r ≡ 1
  idle_cost t r is =
      let a = is.class_handler in let b = is.handlers in let c = is.connectable in let d = is.targets in
      ap (cost_at g t r) is.channel
      ∙ (ap (λ xs. 1 + r.stages * total (of_program t) xs + total (of_program t) r.handlers + g.most_handlers * greatest (of_program t) r.connectable + targets_cost g t r.targets) a
      ∙ (ap (λ xs. 1 + r.stages * 0 + total (of_program t) xs + g.most_handlers * greatest (of_program t) r.connectable + targets_cost g t r.targets) b
      ∙ (ap (λ xs. 1 + r.stages * 0 + 0 + g.most_handlers * greatest (of_program t) xs + targets_cost g t r.targets) c
      ∙ (ap (λ xs. 1 + r.stages * 0 + 0 + g.most_handlers * 0 + targets_cost g t xs) d ∙ rest r.stages g.most_handlers))))
    where
      rest : (n m : ℕ) → 1 + n * 0 + 0 + m * 0 + 0 ≡ 1
      rest n m = omega arith

  module _ (t : Tables) (solved : SolvesCapped less t) where
    costs_agree : (c : Channel) → busy c ≡ true → entry (all_costs t).channels c ≡ entry t.channels c
    costs_agree c is =
        same_entry busy c is (λ r. capped (channel_cost less t r)) 1 g.raised ∙ sym (ap (λ (x : Table). entry x c) solved.channels)

    pub costs_solved : SolvesCapped g (all_costs t)
    costs_solved = record {
      channels =
          map_same (λ (r : Raised). (r.channel, cond (busy r.channel) (capped (channel_cost less t r)) 1))
          (λ (r : Raised). (r.channel, capped (channel_cost g (all_costs t) r))) g.raised (λ r h. ap (λ n. (r.channel, n)) (by r h (busy r.channel) refl));
      programs =
          solved.programs
          ∙ map_same (λ p. capped (program_cost less t p)) (λ p. capped (program_cost g (all_costs t) p)) g.programs
          (λ p h. ap capped (sym (programs_cost_same (all_costs t) t refl costs_agree p h)));
    }
      where
        by : (r : Raised) → IsIn r g.raised → (b : Bool) → busy r.channel ≡ b → cond b (capped (channel_cost less t r)) 1 ≡ capped (channel_cost g (all_costs t) r)
        by r h true e = ap capped (sym (channel_cost_same (all_costs t) t refl costs_agree r h))
        by r h false e = sym (ap capped (idle_cost (all_costs t) r (others.idle r h e)))

    alone : (c : Channel) → busy c ≡ false → other_end g c ≡ None
    alone c is = by (other_end g c) refl
      where
        by : (o : Option Channel) → other_end g c ≡ o → o ≡ None
        by None e = refl
        by (Some other) e = absurd (let b = (others.ends c other e).0 in cc)

    pub all_added : AddsCosts g busy t (all_costs t)
    all_added = record {
      solves = costs_solved;
      at_busy = λ c is. ap (λ n. n + g.most_objects) (same c is);
      at_idle = λ c is there.
          ap (λ n. n + g.most_objects)
          (ap (with_other (all_costs t) (entry (all_costs t).channels c)) (alone c is)
          ∙ idle_entry busy c (λ r. capped (channel_cost less t r)) 1 g.raised is there);
      build =
          (let a = total_same (making_cost g (all_costs t)) (making_cost g t) g.built
          (λ cs h. total_same (node_cost g (all_costs t)) (node_cost g t) cs (λ c k. same c (others.built cs h c k))) in
          let b = total_same (node_cost g (all_costs t)) (node_cost g t) g.forwards (λ c h. same c (others.forwards c h)) in
          let d = total_same (λ c. 1 + node_cost g (all_costs t) c) (λ c. 1 + node_cost g t c) g.created (λ c h. ap (λ n. 1 + n) (same c (others.created c h))) in
          ap (λ n. n + total (node_cost g (all_costs t)) g.forwards + targets_cost g (all_costs t) g.created + g.most_objects) a
          ∙ (ap (λ n. total (making_cost g t) g.built + n + targets_cost g (all_costs t) g.created + g.most_objects) b
          ∙ ap (λ n. total (making_cost g t) g.built + total (node_cost g t) g.forwards + n + g.most_objects) d));
      source = λ p. refl;
    }
      where
        same : (c : Channel) → busy c ≡ true → node_cost g (all_costs t) c ≡ node_cost g t c
        same = node_cost_same (all_costs t) t refl costs_agree

  -- ** depths

  abbrev pub all_depths : Tables → Tables
  all_depths t = record {
    channels = map (λ (r : Raised). (r.channel, cond (busy r.channel) (channel_depth less t r) 1)) g.raised;
    programs = t.programs;
  }

  idle_depth : (t : Tables) (r : Raised) → IsIdle r → channel_depth g t r ≡ 1
  idle_depth t r is =
      let a = is.class_handler in let b = is.handlers in let c = is.connectable in let d = is.targets in
      ap (depth_at g t r) is.channel
      ∙ (ap (λ xs. 1 + max (greatest (of_program t) (xs ++ (r.handlers ++ r.connectable))) (deepest t r.targets)) a
      ∙ (ap (λ xs. 1 + max (greatest (of_program t) (xs ++ r.connectable)) (deepest t r.targets)) b
      ∙ (ap (λ xs. 1 + max (greatest (of_program t) xs) (deepest t r.targets)) c
      ∙ ap (λ xs. 1 + max 0 (deepest t xs)) d)))

  module _ (t : Tables) (solved : SolvesDepths less t) where
    depths_agree : (c : Channel) → busy c ≡ true → entry (all_depths t).channels c ≡ entry t.channels c
    depths_agree c is = same_entry busy c is (channel_depth less t) 1 g.raised ∙ sym (ap (λ (x : Table). entry x c) solved.channels)

    pub depths_solved : SolvesDepths g (all_depths t)
    depths_solved = record {
      channels =
          map_same (λ (r : Raised). (r.channel, cond (busy r.channel) (channel_depth less t r) 1))
          (λ (r : Raised). (r.channel, channel_depth g (all_depths t) r)) g.raised (λ r h. ap (λ n. (r.channel, n)) (by r h (busy r.channel) refl));
      programs =
          solved.programs
          ∙ map_same (program_depth t) (program_depth (all_depths t)) g.programs (λ p h. sym (programs_depth_same (all_depths t) t refl depths_agree p h));
    }
      where
        by : (r : Raised) → IsIn r g.raised → (b : Bool) → busy r.channel ≡ b → cond b (channel_depth less t r) 1 ≡ channel_depth g (all_depths t) r
        by r h true e = sym (channel_depth_same (all_depths t) t refl depths_agree r h ∙ less_depth t r r.channel)
        by r h false e = sym (idle_depth (all_depths t) r (others.idle r h e))

    -- the greatest depth of a channel
    abbrev number : Channel × ℕ → ℕ
    number x = x.1

    abbrev larger : List Raised → ℕ
    larger rs = greatest number (map (λ (r : Raised). (r.channel, cond (busy r.channel) (channel_depth less t r) 1)) rs)

    abbrev smaller : List Raised → ℕ
    smaller rs = greatest number (map (λ (r : Raised). (r.channel, channel_depth less t r)) (filter (λ (r : Raised). busy r.channel) rs))

    pub record Near (a b : ℕ) : Type 0 where
      pub least : b ≤ a
      pub most : a ≤ max b 1

    near : (rs : List Raised) → Near (larger rs) (smaller rs)
    near [] = record { least = omega arith; most = omega arith }
    near (r ∷ rs) = by (busy r.channel) (near rs)
      where
        by : (b : Bool) → Near (larger rs) (smaller rs) →
            Near (max (cond b (channel_depth less t r) 1) (larger rs))
            (greatest number (map (λ (r : Raised). (r.channel, channel_depth less t r)) (cond b (r ∷ filter (λ (r : Raised). busy r.channel) rs) (filter (λ (r : Raised). busy r.channel) rs))))
        by true n = let l = n.least in let m = n.most in record { least = omega (arith, l); most = omega (arith, m) }
        by false n = let l = n.least in let m = n.most in record { least = omega (arith, l); most = omega (arith, m) }

    makings_same : greatest (making_depth (all_depths t)) g.makings ≡ greatest (making_depth t) g.makings
    makings_same =
        greatest_same (making_depth (all_depths t)) (making_depth t) g.makings
        (λ cs h. ap (λ n. 1 + n) (greatest_same (entry (all_depths t).channels) (entry t.channels) cs (λ c k. depths_agree c (others.makings cs h c k))))

    one_making : (css : List (List Channel)) (cs : List Channel) → IsIn cs css → 1 ≤ greatest (making_depth t) css
    one_making [] cs h = absurd h
    one_making (x ∷ css) cs h = omega arith

    -- where there is a channel there is a making, which needs a frame
    most : (rs : List Raised) → ((r : Raised) → IsIn r rs → IsIn r g.raised) → (p : ℕ) →
        max (larger rs) (max p (greatest (making_depth t) g.makings)) ≡ max (smaller rs) (max p (greatest (making_depth t) g.makings))
    most [] all p = refl
    most (r ∷ rs) all p =
        let m = others.made r (all r (inl refl)) in
        let one = one_making g.makings m.0 m.1 in
        let n = near (r ∷ rs) in
        let l = n.least in
        let k = n.most in
        omega (arith, one, l, k)

    pub depth_same : depth g (all_depths t) ≡ depth less t
    depth_same =
        ap (λ n. max (larger g.raised) (max (greatest (λ n. n) t.programs) n)) makings_same
        ∙ (most g.raised (λ r h. h) (greatest (λ n. n) t.programs)
        ∙ ap (λ (x : Table). max (greatest number x) (max (greatest (λ n. n) t.programs) (greatest (making_depth t) g.makings))) (sym solved.channels))

pub costs_are_added : CostsAreAdded
costs_are_added g busy t others solved = (all_costs g busy others t, all_added g busy others t solved)

pub depths_are_added : DepthsAreAdded
depths_are_added g busy t others solved =
    (all_depths g busy others t, record { solves = depths_solved g busy others t solved; same = depth_same g busy others t solved })

pub ranks_are_added : RanksAreAdded
ranks_are_added g busy t others solved = (
  all_ranks g busy others t,
  record {
    solves = ranks_solved g busy others t solved;
    at_busy = busy_rank g busy others t solved;
    at_idle = idle_rank g busy others (all_ranks g busy others t) (ranks_solved g busy others t solved);
  },
)

pub cycles_are_same : CyclesAreSame
cycles_are_same g busy links others = ap (λ edges. is_cycle_of edges links) (same_arrows g busy others)
