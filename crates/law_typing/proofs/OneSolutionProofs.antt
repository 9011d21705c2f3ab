-- The equations of ranks, costs and depths have one solution.
use Rattle.std.proofs.Common.{◌≡◌, inl, inr, refl, sym, ap, subst, ◌∙◌, ℕ, zero, suc, ◌+◌, ◌-◌, ◌*◌, ◌≤◌, ◌<◌, Bool, true, false, cond, List, [], ◌∷◌, ◌++◌, map, Option, None, Some, arith}
use Rattle.std.specs.List.{filter, flat_map, find}
use Rattle.ui_machine.specs.Seq.{read, total}
use Rattle.law_typing.specs.Graph.Channels.{Channel, constructed, property, signal, same_channel}
use Rattle.law_typing.specs.Graph.Channels as causes
use Rattle.law_typing.specs.Graph.{Graph, Raised, Start, nothing, raises, makes, thaws, Stretch}
use Rattle.law_typing.specs.Graph.Tables.{Table, entry, Tables, of_program, greatest}
use Rattle.law_typing.specs.Graph.Ranks.{Arrow, arrow, arrows, arrows_by, arrows_from, is_raised, node, nodes, running_at, started, started_by, above, rank_by, IsRanking}
use Rattle.law_typing.specs.Graph.Costs.{other_end, with_other, node_cost, start_cost, starts_cost, before_last, only_last, stretch_cost, path_costs, program_cost, programs_cost, emission_cost, cost_at, channel_cost}
use Rattle.law_typing.specs.Graph.Depths.{deepest, raised_of, start_depth, program_depth, depth_within, depth_within_if, property_depth, depth_at, channel_depth}
use Rattle.law_typing.specs.Laws.{IsIn}
use Rattle.law_typing.specs.Laws.OneSolution.{IsPaired, OneRanking, OneCost, OneDepth}
use Rattle.law_typing.proofs.Lists.{same_channel_true, same_channel_refl, any_true, map_in, filter_in, each_in, entry_of}
use Rattle.law_typing.proofs.RankProofs.{ranks_rise, begins}
use Rattle.law_typing.proofs.EdgeProofs.{append_left, append_right, flat_in}

-- ** sums of equal parts

pub greatest_same : {A : Type 0} (f h : A → ℕ) (xs : List A) → ((x : A) → IsIn x xs → f x ≡ h x) → greatest f xs ≡ greatest h xs
greatest_same f h [] same = refl
greatest_same f h (x ∷ xs) same =
    let a = same x (inl refl) in
    let b = greatest_same f h xs (λ y k. same y (inr k)) in
    cc

pub total_same : {A : Type 0} (f h : A → ℕ) (xs : List A) → ((x : A) → IsIn x xs → f x ≡ h x) → total f xs ≡ total h xs
total_same f h [] same = refl
total_same f h (x ∷ xs) same =
    let a = same x (inl refl) in
    let b = total_same f h xs (λ y k. same y (inr k)) in
    cc

pub map_same : {A B : Type 0} (f h : A → B) (xs : List A) → ((x : A) → IsIn x xs → f x ≡ h x) → map f xs ≡ map h xs
map_same f h [] same = refl
map_same f h (x ∷ xs) same =
    let a = same x (inl refl) in
    let b = map_same f h xs (λ y k. same y (inr k)) in
    cc

pub read_map_same : {A : Type 0} (f h : List A → ℕ) (xs : List (List A)) (i : ℕ) → f (read [] xs i) ≡ h (read [] xs i) → read 0 (map f xs) i ≡ read 0 (map h xs) i
read_map_same f h [] i e = refl
read_map_same f h (x ∷ xs) zero e = e
read_map_same f h (x ∷ xs) (suc i) e = read_map_same f h xs i e

-- ** one ranking

pub filtered_kept : {A : Type 0} (test : A → Bool) (xs : List A) (x : A) → IsIn x (filter test xs) → (test x ≡ true) × IsIn x xs
filtered_kept test [] x h = absurd h
filtered_kept {A} test (y ∷ ys) x h = by (test y) refl (filtered_kept test ys x) h
  where
    later : ((test x ≡ true) × IsIn x ys) → (test x ≡ true) × IsIn x (y ∷ ys)
    later k = (k.0, inr k.1)

    by : (b : Bool) → test y ≡ b → (IsIn x (filter test ys) → (test x ≡ true) × IsIn x ys) → IsIn x (cond b (y ∷ filter test ys) (filter test ys)) → (test x ≡ true) × IsIn x (y ∷ ys)
    by true e more (inl s) = (ap test s ∙ e, inl s)
    by true e more (inr k) = later (more k)
    by false e more k = later (more k)

module _ (g : Graph) (r u : Table) (solves_r : IsRanking g r) (solves_u : IsRanking g u) where
  entry_r : (n : Channel) → IsIn n (nodes g) → entry r n ≡ rank_by (arrows g) r n
  entry_r n h = ap (λ t. entry t n) solves_r ∙ entry_of (rank_by (arrows g) r) (nodes g) n h

  entry_u : (n : Channel) → IsIn n (nodes g) → entry u n ≡ rank_by (arrows g) u n
  entry_u n h = ap (λ t. entry t n) solves_u ∙ entry_of (rank_by (arrows g) u) (nodes g) n h

  same_ranks : (m : ℕ) (n : Channel) → IsIn n (nodes g) → entry r n < m → rank_by (arrows g) r n ≡ rank_by (arrows g) u n
  same_ranks zero n there low = absurd (omega (arith, low))
  same_ranks (suc m) n there low =
      greatest_same (above r) (above u) (filter (λ (a : Arrow). same_channel a.to n) (arrows g))
      (λ a h.
      let k = filtered_kept (λ (a : Arrow). same_channel a.to n) (arrows g) a h in
      let to = same_channel_true a.to n k.0 in
      let rises = ranks_rise g r solves_r a k.1 (subst (λ c. IsIn c (nodes g)) (sym to) there) in
      let e = ap (entry r) to in
      let from = each_in (λ (b : Arrow). IsIn b.from (nodes g)) (arrows g) (begins g) a k.1 in
      let ih = same_ranks m a.from from (omega (arith, rises, e, low)) in
      ap suc (entry_r a.from from ∙ ih ∙ sym (entry_u a.from from)))

pub one_ranking : OneRanking
one_ranking g r u solves_r solves_u =
    solves_r
    ∙ (map_same (λ n. (n, rank_by (arrows g) r n)) (λ n. (n, rank_by (arrows g) u n)) (nodes g)
    (λ n there. ap (λ k. (n, k)) (same_ranks g r u solves_r solves_u (suc (entry r n)) n there (omega arith)))
    ∙ sym solves_u)

-- ** what the tables say of a channel

-- two tables give a channel the same number
abbrev pub Same : Tables → Tables → Channel → Type 0
Same t u c = entry t.channels c ≡ entry u.channels c

-- and the other end of its pair
abbrev pub SameNode : Graph → Tables → Tables → Channel → Type 0
SameNode g t u c = Same t u c × ((e : Channel) → other_end g c ≡ Some e → Same t u e)

-- and what an emission at a channel runs and leads to
abbrev pub SameParts : Graph → Tables → Tables → Raised → Type 0
SameParts g t u r = ((q : ℕ) → IsIn q (running_at r) → of_program t q ≡ of_program u q) × ((c : Channel) → IsIn c r.targets → SameNode g t u c)

pub find_in : {A : Type 0} (test : A → Bool) (xs : List A) (x : A) → find test xs ≡ Some x → IsIn x xs × (test x ≡ true)
find_in test [] x e = absurd (cc)
find_in {A} test (y ∷ ys) x e = by (test y) refl (find_in test ys x) e
  where
    later : (IsIn x ys × (test x ≡ true)) → IsIn x (y ∷ ys) × (test x ≡ true)
    later k = (inr k.0, k.1)

    by : (b : Bool) → test y ≡ b → (find test ys ≡ Some x → IsIn x ys × (test x ≡ true)) → cond b (Some y) (find test ys) ≡ Some x → IsIn x (y ∷ ys) × (test x ≡ true)
    by true is more f = let s : x ≡ y = cc in (inl s, ap test s ∙ is)
    by false is more f = later (more f)

pub entry_below : (t : Table) (c : Channel) → entry t c ≤ greatest (λ (x : Channel × ℕ). x.1) t
entry_below [] c = omega arith
entry_below (x ∷ xs) c = by (same_channel x.0 c) (entry_below xs c)
  where
    by : (b : Bool) → entry xs c ≤ greatest (λ (x : Channel × ℕ). x.1) xs → cond b x.1 (entry xs c) ≤ greatest (λ (x : Channel × ℕ). x.1) (x ∷ xs)
    by true h = omega arith
    by false h = omega (arith, h)

pub entry_same : (f h : Raised → ℕ) (rs : List Raised) (c : Channel) → ((r : Raised) → IsIn r rs → r.channel ≡ c → f r ≡ h r) →
    entry (map (λ (r : Raised). (r.channel, f r)) rs) c ≡ entry (map (λ (r : Raised). (r.channel, h r)) rs) c
entry_same f h [] c same = refl
entry_same f h (r ∷ rs) c same = by (same_channel r.channel c) refl (entry_same f h rs c (λ x k. same x (inr k)))
  where
    by : (b : Bool) → same_channel r.channel c ≡ b → entry (map (λ (r : Raised). (r.channel, f r)) rs) c ≡ entry (map (λ (r : Raised). (r.channel, h r)) rs) c →
        cond b (f r) (entry (map (λ (r : Raised). (r.channel, f r)) rs) c) ≡ cond b (h r) (entry (map (λ (r : Raised). (r.channel, h r)) rs) c)
    by true e later = same r (inl refl) (same_channel_true r.channel c e)
    by false e later = later

-- ** edges lead upwards

module _ (g : Graph) (ranks : Table) (solved : IsRanking g ranks) where
  -- a channel is above another one, if its node is one of the graph
  abbrev pub Beyond : Channel → Channel → Type 0
  Beyond from k = (r : Raised) → IsIn r g.raised → node g r.channel ≡ node g k → entry ranks (node g from) < entry ranks (node g k)

  edge_beyond : (from : Channel) (by : causes.Cause) (k : Channel) → IsIn (arrow g from by k) (arrows g) → Beyond from k
  edge_beyond from by k edge r h e =
      ranks_rise g ranks solved (arrow g from by k) edge
      (subst (λ c. IsIn c (nodes g)) e (map_in (λ (r : Raised). node g r.channel) g.raised r h))

  pub started_beyond : (r : Raised) → IsIn r g.raised → (q : ℕ) → IsIn q (running_at r) → (k : Channel) → IsIn k (started_by g q) → Beyond r.channel k
  started_beyond r h q runs k starts =
      edge_beyond r.channel (causes.program q) k
      (flat_in (arrows_from g) g.raised r (arrow g r.channel (causes.program q) k) h
      (append_left (flat_map (arrows_by g r.channel) (running_at r)) (map (arrow g r.channel causes.binding) (filter (is_raised g) r.targets))
      (arrow g r.channel (causes.program q) k)
      (flat_in (arrows_by g r.channel) (running_at r) q (arrow g r.channel (causes.program q) k) runs
      (map_in (arrow g r.channel (causes.program q)) (started_by g q) k starts))))

  pub target_beyond : (r : Raised) → IsIn r g.raised → (c : Channel) → IsIn c r.targets → is_raised g c ≡ true → Beyond r.channel c
  target_beyond r h c leads there =
      edge_beyond r.channel causes.binding c
      (flat_in (arrows_from g) g.raised r (arrow g r.channel causes.binding c) h
      (append_right (flat_map (arrows_by g r.channel) (running_at r)) (map (arrow g r.channel causes.binding) (filter (is_raised g) r.targets))
      (arrow g r.channel causes.binding c)
      (map_in (arrow g r.channel causes.binding) (filter (is_raised g) r.targets) c (filter_in (is_raised g) r.targets c there leads))))

-- ** one solution, of equations whose right sides are of the parts alone

module _
    (g : Graph) (ranks : Table) (solved : IsRanking g ranks) (paired : IsPaired g) (t u : Tables) (at : Tables → Raised → ℕ) (along : Tables → List Stretch → ℕ)
    (channels_t : t.channels ≡ map (λ (r : Raised). (r.channel, at t r)) g.raised) (channels_u : u.channels ≡ map (λ (r : Raised). (r.channel, at u r)) g.raised)
    (programs_t : t.programs ≡ map (along t) g.programs) (programs_u : u.programs ≡ map (along u) g.programs)
    (along_same : (stretches : List Stretch) →
    ((s : Stretch) → IsIn s stretches → (i : Start) → IsIn i s.starts → (k : Channel) → IsIn k (started i) → SameNode g t u k) →
    along t stretches ≡ along u stretches)
    (at_same : (r : Raised) → SameParts g t u r →
    ((e : Channel) (other : Raised) → other_end g r.channel ≡ Some e → raised_of g e ≡ Some other → SameParts g t u other) → at t r ≡ at u r) where
  -- the greatest rank
  abbrev top : ℕ
  top = greatest (λ (x : Channel × ℕ). x.1) ranks

  -- the tables agree at the channels whose rank is within m of the top
  abbrev Known : ℕ → Type 0
  Known m = (r : Raised) → IsIn r g.raised → top < entry ranks (node g r.channel) + m → at t r ≡ at u r

  same_if : (c : Channel) → ((r : Raised) → IsIn r g.raised → r.channel ≡ c → at t r ≡ at u r) → Same t u c
  same_if c same = ap (λ x. entry x c) channels_t ∙ (entry_same (at t) (at u) g.raised c same ∙ sym (ap (λ x. entry x c) channels_u))

  beyond_same : (m : ℕ) (from k : Channel) → Known m → top < entry ranks (node g from) + suc m → Beyond g ranks solved from k → SameNode g t u k
  beyond_same m from k known low beyond = (
    same_if k (λ r h e.
        let up = beyond r h (ap (node g) e) in
        let n = ap (λ c. entry ranks (node g c)) e in
        known r h (omega (arith, low, up, n))),
    λ e is. same_if e (λ r h s.
        let n : node g r.channel ≡ node g k = ap (node g) s ∙ sym (paired.node k e is) in
        let up = beyond r h n in
        let same = ap (entry ranks) n in
        known r h (omega (arith, low, up, same))),
  )

  raised_is : (r : Raised) (c : Channel) → IsIn r g.raised → r.channel ≡ c → is_raised g c ≡ true
  raised_is r c h e =
      any_true (λ (x : Raised). same_channel x.channel c) g.raised r h (subst (λ k. same_channel r.channel k ≡ true) e (same_channel_refl r.channel))

  -- a channel that is not there has no number in either
  nowhere_same : (c : Channel) → is_raised g c ≡ false → SameNode g t u c
  nowhere_same c none = (
    same_if c (λ r h e. absurd (let there = raised_is r c h e in cc)),
    λ e is. same_if e (λ r h s. absurd (let there = paired.raised c e is (raised_is r e h s) in cc)),
  )

  target_same : (m : ℕ) (r : Raised) (c : Channel) (b : Bool) → is_raised g c ≡ b → Known m → IsIn r g.raised → IsIn c r.targets →
      top < entry ranks (node g r.channel) + suc m → SameNode g t u c
  target_same m r c true e known h leads low = beyond_same m r.channel c known low (target_beyond g ranks solved r h c leads e)
  target_same m r c false e known h leads low = nowhere_same c e

  parts_same : (m : ℕ) → Known m → (r : Raised) → IsIn r g.raised → top < entry ranks (node g r.channel) + suc m → SameParts g t u r
  parts_same m known r h low = (
    λ q runs.
        ap (λ ps. read 0 ps q) programs_t
        ∙ (read_map_same (along t) (along u) g.programs q
        (along_same (read [] g.programs q)
        (λ s in_program i in_block k starts.
        beyond_same m r.channel k known low
        (started_beyond g ranks solved r h q runs k
        (flat_in (λ (s : Stretch). flat_map started s.starts) (read [] g.programs q) s k in_program (flat_in started s.starts i k in_block starts)))))
        ∙ sym (ap (λ ps. read 0 ps q) programs_u)),
    λ c leads. target_same m r c (is_raised g c) refl known h leads low,
  )

  known : (m : ℕ) → Known m
  known zero r h low = absurd (let b = entry_below ranks (node g r.channel) in omega (arith, b, low))
  known (suc m) r h low =
      at_same r (parts_same m (known m) r h low)
      (λ e other is found.
      let f = find_in (λ (x : Raised). same_channel x.channel e) g.raised other found in
      let n : node g other.channel ≡ node g r.channel = ap (node g) (same_channel_true other.channel e f.1) ∙ sym (paired.node r.channel e is) in
      let same = ap (entry ranks) n in
      parts_same m (known m) other f.0 (omega (arith, low, same)))

  one : t ≡ u
  one =
      let channels =
      channels_t
      ∙ (map_same (λ (r : Raised). (r.channel, at t r)) (λ (r : Raised). (r.channel, at u r)) g.raised
      (λ r h. ap (λ n. (r.channel, n)) (known (suc top) r h (omega arith)))
      ∙ sym channels_u) in
      let same : (c : Channel) → Same t u c = λ c. ap (λ (x : Table). entry x c) channels in
      let programs =
      programs_t
      ∙ (map_same (along t) (along u) g.programs (λ stretches h. along_same stretches (λ s a i b k c. (same k, λ e is. same e)))
      ∙ sym programs_u) in
      ap (λ (cs : Table). record t { channels = cs }) channels ∙ ap (λ (ps : List ℕ). record u { programs = ps }) programs

-- ** costs are of the parts alone

module _ (g : Graph) (t u : Tables) where
  node_cost_same : (k : Channel) → SameNode g t u k → node_cost g t k ≡ node_cost g u k
  node_cost_same k same = by (other_end g k) refl
    where
      by : (o : Option Channel) → other_end g k ≡ o → with_other t (entry t.channels k) o ≡ with_other u (entry u.channels k) o
      by None e = same.0
      by (Some other) e = let a = same.0 in let b = same.1 other e in cc

  start_cost_same : (i : Start) → ((k : Channel) → IsIn k (started i) → SameNode g t u k) → start_cost g t i ≡ start_cost g u i
  start_cost_same nothing same = refl
  start_cost_same (raises cs) same = greatest_same (node_cost g t) (node_cost g u) cs (λ k h. node_cost_same k (same k h))
  start_cost_same (thaws css) same =
      greatest_same (λ cs. total (node_cost g t) cs) (λ cs. total (node_cost g u) cs) css
      (λ cs h. total_same (node_cost g t) (node_cost g u) cs (λ k there. node_cost_same k (same k (flat_in (λ (cs : List Channel). cs) css cs k h there))))
  start_cost_same (makes cs) same = ap (λ n. 1 + n) (total_same (node_cost g t) (node_cost g u) cs (λ k h. node_cost_same k (same k h)))

  starts_cost_same : (starts : List Start) → ((i : Start) → IsIn i starts → (k : Channel) → IsIn k (started i) → SameNode g t u k) → starts_cost g t starts ≡ starts_cost g u starts
  starts_cost_same starts same =
      total_same (λ i. 1 + start_cost g t i) (λ i. 1 + start_cost g u i) starts (λ i h. ap (λ n. 1 + n) (start_cost_same i (same i h)))

  before_in : (starts : List Start) (i : Start) → IsIn i (before_last starts) → IsIn i starts
  before_in [] i h = h
  before_in (s ∷ []) i h = absurd h
  before_in (s ∷ r ∷ more) i (inl e) = inl e
  before_in (s ∷ r ∷ more) i (inr h) = inr (before_in (r ∷ more) i h)

  last_in : (starts : List Start) (i : Start) → IsIn i (only_last starts) → IsIn i starts
  last_in [] i h = h
  last_in (s ∷ []) i h = h
  last_in (s ∷ r ∷ more) i h = inr (last_in (r ∷ more) i h)

  stretch_cost_same : (s : Stretch) → ((i : Start) → IsIn i s.starts → (k : Channel) → IsIn k (started i) → SameNode g t u k) → stretch_cost g t s ≡ stretch_cost g u s
  stretch_cost_same s same =
      let before = starts_cost_same (before_last s.starts) (λ i h. same i (before_in s.starts i h)) in
      let last = starts_cost_same (only_last s.starts) (λ i h. same i (last_in s.starts i h)) in
      ap (λ n. s.passes * n + starts_cost g t (only_last s.starts)) before ∙ ap (λ n. s.passes * starts_cost g u (before_last s.starts) + n) last

  path_costs_same : (n : ℕ) (stretches : List Stretch) →
      ((s : Stretch) → IsIn s stretches → (i : Start) → IsIn i s.starts → (k : Channel) → IsIn k (started i) → SameNode g t u k) →
      path_costs g t n stretches ≡ path_costs g u n stretches
  path_costs_same n [] same = refl
  path_costs_same n (s ∷ more) same =
      let here = stretch_cost_same s (same s (inl refl)) in
      let later = path_costs_same (suc n) more (λ x h. same x (inr h)) in
      ap (λ c. (c + greatest (λ to. read 0 (path_costs g t (suc n) more) (to - suc n)) s.next) ∷ path_costs g t (suc n) more) here
      ∙ ap (λ (ls : List ℕ). (stretch_cost g u s + greatest (λ to. read 0 ls (to - suc n)) s.next) ∷ ls) later

  pub program_cost_same : (stretches : List Stretch) →
      ((s : Stretch) → IsIn s stretches → (i : Start) → IsIn i s.starts → (k : Channel) → IsIn k (started i) → SameNode g t u k) →
      program_cost g t stretches ≡ program_cost g u stretches
  program_cost_same stretches same = ap (λ ls. read 0 ls 0) (path_costs_same 0 stretches same)

  -- the programs of a part of what runs at a channel
  class_same : (r : Raised) → SameParts g t u r → programs_cost t r.class_handler ≡ programs_cost u r.class_handler
  class_same r same =
      total_same (of_program t) (of_program u) r.class_handler (λ q h. same.0 q (append_left r.class_handler (r.handlers ++ r.connectable) q h))

  handlers_same : (r : Raised) → SameParts g t u r → programs_cost t r.handlers ≡ programs_cost u r.handlers
  handlers_same r same =
      total_same (of_program t) (of_program u) r.handlers
      (λ q h. same.0 q (append_right r.class_handler (r.handlers ++ r.connectable) q (append_left r.handlers r.connectable q h)))

  connectable_same : (r : Raised) → SameParts g t u r → greatest (of_program t) r.connectable ≡ greatest (of_program u) r.connectable
  connectable_same r same =
      greatest_same (of_program t) (of_program u) r.connectable
      (λ q h. same.0 q (append_right r.class_handler (r.handlers ++ r.connectable) q (append_right r.handlers r.connectable q h)))

  emission_same : (r : Raised) → SameParts g t u r → emission_cost g t r ≡ emission_cost g u r
  emission_same r same =
      let a = class_same r same in
      let b = handlers_same r same in
      let c = connectable_same r same in
      let d = total_same (λ c. 1 + node_cost g t c) (λ c. 1 + node_cost g u c) r.targets (λ c h. ap (λ n. 1 + n) (node_cost_same c (same.1 c h))) in
      cc

  pub cost_at_same : (r : Raised) (c : Channel) → SameParts g t u r → cost_at g t r c ≡ cost_at g u r c
  cost_at_same r (constructed place) same = handlers_same r same
  cost_at_same r (property place slot) same = emission_same r same
  cost_at_same r (signal place number) same = emission_same r same

pub one_cost : OneCost
one_cost g ranks solved paired t u solves_t solves_u =
    one g ranks solved paired t u (channel_cost g) (program_cost g) solves_t.channels solves_u.channels solves_t.programs solves_u.programs
    (program_cost_same g t u) (λ r same others. cost_at_same g t u r r.channel same)

-- ** depths are of the parts alone

module _ (g : Graph) (t u : Tables) where
  deepest_same : (cs : List Channel) → ((k : Channel) → IsIn k cs → SameNode g t u k) → deepest t cs ≡ deepest u cs
  deepest_same cs same = greatest_same (entry t.channels) (entry u.channels) cs (λ k h. (same k h).0)

  start_depth_same : (i : Start) → ((k : Channel) → IsIn k (started i) → SameNode g t u k) → start_depth t i ≡ start_depth u i
  start_depth_same nothing same = refl
  start_depth_same (raises cs) same = deepest_same cs same
  start_depth_same (thaws css) same =
      greatest_same (deepest t) (deepest u) css (λ cs h. deepest_same cs (λ k there. same k (flat_in (λ (cs : List Channel). cs) css cs k h there)))
  start_depth_same (makes cs) same = ap (λ n. 1 + n) (deepest_same cs same)

  pub program_depth_same : (stretches : List Stretch) →
      ((s : Stretch) → IsIn s stretches → (i : Start) → IsIn i s.starts → (k : Channel) → IsIn k (started i) → SameNode g t u k) →
      program_depth t stretches ≡ program_depth u stretches
  program_depth_same stretches same =
      ap (λ n. 1 + n)
      (greatest_same (λ (s : Stretch). greatest (start_depth t) s.starts) (λ (s : Stretch). greatest (start_depth u) s.starts) stretches
      (λ s h. greatest_same (start_depth t) (start_depth u) s.starts (λ i k. start_depth_same i (same s h i k))))

  within_same : (r : Raised) → SameParts g t u r → depth_within t r ≡ depth_within u r
  within_same r same =
      let a = greatest_same (of_program t) (of_program u) (running_at r) same.0 in
      let b = deepest_same r.targets same.1 in
      cc

  within_if_same : (o : Option Raised) → ((other : Raised) → o ≡ Some other → SameParts g t u other) → depth_within_if t o ≡ depth_within_if u o
  within_if_same None same = refl
  within_if_same (Some other) same = within_same other (same other refl)

  property_same : (r : Raised) (o : Option Channel) → SameParts g t u r →
      ((e : Channel) (other : Raised) → o ≡ Some e → raised_of g e ≡ Some other → SameParts g t u other) → property_depth g t r o ≡ property_depth g u r o
  property_same r None same others = ap (λ n. 1 + n) (within_same r same)
  property_same r (Some e) same others =
      let a = within_same r same in
      let b = within_if_same (raised_of g e) (λ other found. others e other refl found) in
      cc

  pub depth_at_same : (r : Raised) (c : Channel) → SameParts g t u r →
      ((e : Channel) (other : Raised) → other_end g c ≡ Some e → raised_of g e ≡ Some other → SameParts g t u other) → depth_at g t r c ≡ depth_at g u r c
  depth_at_same r (constructed place) same others = within_same r same
  depth_at_same r (property place slot) same others = property_same r (other_end g (property place slot)) same others
  depth_at_same r (signal place number) same others = ap (λ n. 1 + n) (within_same r same)

pub one_depth : OneDepth
one_depth g ranks solved paired t u solves_t solves_u =
    one g ranks solved paired t u (channel_depth g) program_depth solves_t.channels solves_u.channels solves_t.programs solves_u.programs
    (program_depth_same g t u) (λ r same others. depth_at_same g t u r r.channel same others)
