-- Where there are ranks, going on comes to an end for costs and depths as well.
use Rattle.std.proofs.Common.{◌≡◌, inl, inr, refl, sym, ap, subst, ◌∙◌, ℕ, zero, suc, ◌+◌, ◌≤◌, ◌<◌, Bool, true, false, cond, List, [], ◌∷◌, length, map, Some, arith}
use Rattle.std.specs.List.{filter, flat_map}
use Rattle.std.proofs.lemmas.Bool.{and_from}
use Rattle.ui_machine.specs.Seq.{read}
use Rattle.law_typing.specs.Graph.Channels.{Channel, same_channel}
use Rattle.law_typing.specs.Graph.{Graph, Raised, Start, Stretch}
use Rattle.law_typing.specs.Graph.Tables.{Table, entry, Tables, greatest, same_numbers, numbers_of, same_table, same_tables, settled}
use Rattle.law_typing.specs.Graph.Ranks.{arrows, nodes, node, is_raised, leads, rank_by, started, IsRanking}
use Rattle.law_typing.specs.Graph.Costs.{other_end}
use Rattle.law_typing.specs.Graph.Depths.{raised_of}
use Rattle.law_typing.specs.Laws.{IsIn}
use Rattle.law_typing.specs.Laws.OneSolution.{IsPaired}
use Rattle.law_typing.proofs.Lists.{same_channel_true, same_channel_refl, any_true}
use Rattle.law_typing.proofs.EdgeProofs.{flat_in}
use Rattle.law_typing.proofs.OneSolutionProofs.{entry_below, map_same, read_map_same, entry_same, find_in, Same, SameNode, SameParts, Beyond, started_beyond, target_beyond}
use Rattle.law_typing.proofs.SettlesProofs.{same_numbers_refl, by_end, by_more, Ends, entry_is, few_ranks}

-- ** how far the ranks go

shorter : {A : Type 0} (test : A → Bool) (xs : List A) → length (filter test xs) ≤ length xs
shorter test [] = omega arith
shorter test (x ∷ xs) = by (test x) (shorter test xs)
  where
    by : (b : Bool) → length (filter test xs) ≤ length xs → length (cond b (x ∷ filter test xs) (filter test xs)) ≤ length (x ∷ xs)
    by true h = omega (arith, h)
    by false h = omega (arith, h)

as_long : {A B : Type 0} (f : A → B) (xs : List A) → length (map f xs) ≡ length xs
as_long f [] = refl
as_long f (x ∷ xs) = let ih = as_long f xs in omega (arith, ih)

greatest_map : (f : Channel → ℕ) (m : ℕ) (ns : List Channel) → ((n : Channel) → IsIn n ns → f n ≤ m) → greatest (λ (x : Channel × ℕ). x.1) (map (λ n. (n, f n)) ns) ≤ m
greatest_map f m [] all = omega arith
greatest_map f m (n ∷ ns) all =
    let a = all n (inl refl) in
    let b = greatest_map f m ns (λ x h. all x (inr h)) in
    omega (arith, a, b)

same_tables_refl : (t : Tables) → same_tables t t ≡ true
same_tables_refl t =
    and_from (same_table t.channels t.channels) (same_numbers t.programs t.programs) (same_numbers_refl (numbers_of t.channels)) (same_numbers_refl t.programs)

-- ** tables that no go changes any more

-- two tables agree at the channels whose rank is within k of the top
pub record Close (g : Graph) (ranks : Table) (k : ℕ) (a b : Tables) : Type 0 where
  pub left : Raised → ℕ
  pub right : Raised → ℕ
  pub is_left : a.channels ≡ map (λ (r : Raised). (r.channel, left r)) g.raised
  pub is_right : b.channels ≡ map (λ (r : Raised). (r.channel, right r)) g.raised
  pub agree : (r : Raised) → IsIn r g.raised → greatest (λ (x : Channel × ℕ). x.1) ranks < entry ranks (node g r.channel) + k → left r ≡ right r

module _
    (g : Graph) (ranks : Table) (solved : IsRanking g ranks) (paired : IsPaired g) (at : Tables → Raised → ℕ) (along : Tables → List Stretch → ℕ)
    (along_same : (a b : Tables) (stretches : List Stretch) →
    ((s : Stretch) → IsIn s stretches → (i : Start) → IsIn i s.starts → (k : Channel) → IsIn k (started i) → SameNode g a b k) →
    along a stretches ≡ along b stretches)
    (at_same : (a b : Tables) (r : Raised) → SameParts g a b r →
    ((e : Channel) (other : Raised) → other_end g r.channel ≡ Some e → raised_of g e ≡ Some other → SameParts g a b other) → at a r ≡ at b r) where
  abbrev top : ℕ
  top = greatest (λ (x : Channel × ℕ). x.1) ranks

  abbrev after : Tables → Tables
  after a = record a { programs = map (along a) g.programs }

  abbrev next : Tables → Tables
  next a = record (after a) { channels = map (λ (r : Raised). (r.channel, at (after a) r)) g.raised }

  close_entry : (k : ℕ) (a b : Tables) → Close g ranks k a b → (c : Channel) →
      ((r : Raised) → IsIn r g.raised → r.channel ≡ c → top < entry ranks (node g r.channel) + k) → Same a b c
  close_entry k a b close c low =
      ap (λ x. entry x c) close.is_left
      ∙ (entry_same close.left close.right g.raised c (λ r h e. close.agree r h (low r h e)) ∙ sym (ap (λ x. entry x c) close.is_right))

  close_beyond : (k : ℕ) (a b : Tables) → Close g ranks k a b → (from c : Channel) → top < entry ranks (node g from) + suc k → Beyond g ranks solved from c →
      SameNode g a b c
  close_beyond k a b close from c low beyond = (
    close_entry k a b close c (λ r h e.
        let up = beyond r h (ap (node g) e) in
        let n = ap (λ x. entry ranks (node g x)) e in
        omega (arith, low, up, n)),
    λ e is. close_entry k a b close e (λ r h s.
        let n : node g r.channel ≡ node g c = ap (node g) s ∙ sym (paired.node c e is) in
        let up = beyond r h n in
        let same = ap (entry ranks) n in
        omega (arith, low, up, same)),
  )

  there : (r : Raised) (c : Channel) → IsIn r g.raised → r.channel ≡ c → is_raised g c ≡ true
  there r c h e =
      any_true (λ (x : Raised). same_channel x.channel c) g.raised r h (subst (λ k. same_channel r.channel k ≡ true) e (same_channel_refl r.channel))

  close_nowhere : (k : ℕ) (a b : Tables) → Close g ranks k a b → (c : Channel) → is_raised g c ≡ false → SameNode g a b c
  close_nowhere k a b close c none = (
    close_entry k a b close c (λ r h e. absurd (let is = there r c h e in cc)),
    λ e is. close_entry k a b close e (λ r h s. absurd (let found = paired.raised c e is (there r e h s) in cc)),
  )

  close_target : (k : ℕ) (a b : Tables) → Close g ranks k a b → (r : Raised) (c : Channel) (is : Bool) → is_raised g c ≡ is → IsIn r g.raised → IsIn c r.targets →
      top < entry ranks (node g r.channel) + suc k → SameNode g a b c
  close_target k a b close r c true e h leads low = close_beyond k a b close r.channel c low (target_beyond g ranks solved r h c leads e)
  close_target k a b close r c false e h leads low = close_nowhere k a b close c e

  close_parts : (k : ℕ) (a b : Tables) → Close g ranks k a b → (r : Raised) → IsIn r g.raised → top < entry ranks (node g r.channel) + suc k →
      SameParts g (after a) (after b) r
  close_parts k a b close r h low = (
    λ q runs.
        read_map_same (along a) (along b) g.programs q
        (along_same a b (read [] g.programs q)
        (λ s in_program i in_block c starts.
        close_beyond k a b close r.channel c low
        (started_beyond g ranks solved r h q runs c
        (flat_in (λ (s : Stretch). flat_map started s.starts) (read [] g.programs q) s c in_program (flat_in started s.starts i c in_block starts))))),
    λ c leads. close_target k a b close r c (is_raised g c) refl h leads low,
  )

  close_next : (k : ℕ) (a b : Tables) → Close g ranks k a b → Close g ranks (suc k) (next a) (next b)
  close_next k a b close = record {
    left = at (after a);
    right = at (after b);
    is_left = refl;
    is_right = refl;
    agree = λ r h low.
        at_same (after a) (after b) r (close_parts k a b close r h low)
        (λ e other is found.
        let f = find_in (λ (x : Raised). same_channel x.channel e) g.raised other found in
        let n : node g other.channel ≡ node g r.channel = ap (node g) (same_channel_true other.channel e f.1) ∙ sym (paired.node r.channel e is) in
        let same = ap (entry ranks) n in
        close_parts k a b close other f.0 (omega (arith, low, same)));
  }

  -- once two agree everywhere, the next ones are the same
  arrived : (k : ℕ) (a b : Tables) → Close g ranks k a b → top < k → next a ≡ next b
  arrived k a b close past =
      let channels : a.channels ≡ b.channels =
      close.is_left
      ∙ (map_same (λ (r : Raised). (r.channel, close.left r)) (λ (r : Raised). (r.channel, close.right r)) g.raised
      (λ r h. ap (λ n. (r.channel, n)) (close.agree r h (omega (arith, past)))) ∙ sym close.is_right) in
      let same : (c : Channel) → Same a b c = λ c. ap (λ (x : Table). entry x c) channels in
      let programs : map (along a) g.programs ≡ map (along b) g.programs =
      map_same (along a) (along b) g.programs (λ stretches h. along_same a b stretches (λ s x i y c z. (same c, λ e is. same e))) in
      let whole : after a ≡ after b =
      ap (λ (cs : Table). record (after a) { channels = cs }) channels ∙ ap (λ (ps : List ℕ). record (after b) { programs = ps }) programs in
      ap (λ (x : Tables). record x { channels = map (λ (r : Raised). (r.channel, at x r)) g.raised }) whole

  tables_end : (n k : ℕ) (a : Tables) → Close g ranks k a (next a) → top < k + n → Ends (settled same_tables (suc (suc n)) next a)
  tables_end zero k a close low = by (same_tables a (next a)) refl
    where
      one : next a ≡ next (next a)
      one = arrived k a (next a) close (omega (arith, low))

      stays : same_tables (next a) (next (next a)) ≡ true
      stays = subst (λ x. same_tables (next a) x ≡ true) one (same_tables_refl (next a))

      by : (b : Bool) → same_tables a (next a) ≡ b → Ends (settled same_tables (suc (suc zero)) next a)
      by true e = record { at = next a; is = by_end same_tables (suc zero) next a e }
      by false e = record { at = next (next a); is = by_more same_tables (suc zero) next a (next (next a)) e (by_end same_tables zero next (next a) stays) }
  tables_end (suc n) k a close low = by (same_tables a (next a)) refl (tables_end n (suc k) (next a) (close_next k a (next a) close) (omega (arith, low)))
    where
      by : (b : Bool) → same_tables a (next a) ≡ b → Ends (settled same_tables (suc (suc n)) next (next a)) → Ends (settled same_tables (suc (suc (suc n))) next a)
      by true e more = record { at = next a; is = by_end same_tables (suc (suc n)) next a e }
      by false e more = record { at = more.at; is = by_more same_tables (suc (suc n)) next a more.at e more.is }

  -- no rank is above the number of channels
  top_below : top ≤ length g.raised
  top_below =
      let long = as_long (λ (r : Raised). node g r.channel) g.raised in
      let numbers = greatest_map (rank_by (arrows g) ranks) (length g.raised) (nodes g)
      (λ n h.
      let a = few_ranks g ranks solved n h in
      let b = shorter (leads (arrows g)) (nodes g) in
      let e = entry_is g ranks solved n h in
      omega (arith, a, b, e, long)) in
      let e = ap (greatest (λ (x : Channel × ℕ). x.1)) solved in
      omega (arith, numbers, e)

  -- from tables of the graph's channels on
  pub has_tables : (start : Tables) (number : Raised → ℕ) → start.channels ≡ map (λ (r : Raised). (r.channel, number r)) g.raised →
      Ends (settled same_tables (3 + length g.raised) next start)
  has_tables start number is =
      let low = top_below in
      let e : suc (suc (suc (length g.raised))) ≡ 3 + length g.raised = omega arith in
      let close : Close g ranks 0 start (next start) = record {
        left = number;
        right = at (after start);
        is_left = is;
        is_right = refl;
        agree = λ r h below. absurd (let b = entry_below ranks (node g r.channel) in omega (arith, b, below));
      } in
      subst (λ n. Ends (settled same_tables n next start)) e (tables_end (suc (length g.raised)) 0 start close (omega (arith, low)))
