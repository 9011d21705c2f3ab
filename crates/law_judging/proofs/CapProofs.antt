-- Capped costs are the costs, capped: going by ranks from the top, each equation has one answer.
use Rattle.std.proofs.Common.{◌≡◌, refl, sym, ap, subst, ◌∙◌, ℕ, zero, suc, ◌+◌, ◌<◌, Bool, true, false, List, [], ◌∷◌, map, arith}
use Rattle.std.specs.List.{flat_map}
use Rattle.ui_machine.specs.Seq.{read}
use Rattle.law_typing.specs.Graph.Channels.{Channel, same_channel}
use Rattle.law_typing.specs.Graph.{Graph, Raised, Stretch}
use Rattle.law_typing.specs.Graph.Tables.{Table, entry, Tables, greatest}
use Rattle.law_typing.specs.Graph.Ranks.{is_raised, node, started, IsRanking}
use Rattle.law_typing.specs.Graph.Costs.{SolvesCosts, channel_cost, program_cost}
use Rattle.law_typing.specs.Laws.{IsIn}
use Rattle.law_typing.specs.Laws.Capped.{capped, capped_tables}
use Rattle.law_typing.specs.Laws.OneSolution.{IsPaired}
use Rattle.law_typing.proofs.Lists.{same_channel_refl, any_true}
use Rattle.law_typing.proofs.EdgeProofs.{flat_in}
use Rattle.law_typing.proofs.OneSolutionProofs.{map_same, read_map_same, Same, SameNode, SameParts, entry_below, entry_same, Beyond, started_beyond, target_beyond, program_cost_same, cost_at_same}
use Rattle.law_typing.proofs.CappedProofs.{costs_capped}
use Rattle.law_judging.specs.CappedNumbers.{CappedIsSolved, SolvesCapped}

-- ** one answer

module _ (g : Graph) (ranks : Table) (solved : IsRanking g ranks) (paired : IsPaired g) (t u : Tables) (solves_t : SolvesCapped g t) (solves_u : SolvesCapped g u) where
  abbrev at : Tables → Raised → ℕ
  at x r = capped (channel_cost g x r)

  abbrev along : Tables → List Stretch → ℕ
  along x p = capped (program_cost g x p)

  -- the greatest rank
  abbrev top : ℕ
  top = greatest (λ (x : Channel × ℕ). x.1) ranks

  -- the tables agree at the channels whose rank is within m of the top
  abbrev AgreeWithin : ℕ → Type 0
  AgreeWithin m = (r : Raised) → IsIn r g.raised → top < entry ranks (node g r.channel) + m → at t r ≡ at u r

  agree_if : (c : Channel) → ((r : Raised) → IsIn r g.raised → r.channel ≡ c → at t r ≡ at u r) → Same t u c
  agree_if c same = ap (λ x. entry x c) solves_t.channels ∙ (entry_same (at t) (at u) g.raised c same ∙ sym (ap (λ x. entry x c) solves_u.channels))

  beyond_agree : (m : ℕ) (from k : Channel) → AgreeWithin m → top < entry ranks (node g from) + suc m → Beyond g ranks solved from k → SameNode g t u k
  beyond_agree m from k known low beyond = (
    agree_if k (λ r h e.
        let up = beyond r h (ap (node g) e) in
        let n = ap (λ c. entry ranks (node g c)) e in
        known r h (omega (arith, low, up, n))),
    λ e is. agree_if e (λ r h s.
        let n : node g r.channel ≡ node g k = ap (node g) s ∙ sym (paired.node k e is) in
        let up = beyond r h n in
        let same = ap (entry ranks) n in
        known r h (omega (arith, low, up, same))),
  )

  raised_is : (r : Raised) (c : Channel) → IsIn r g.raised → r.channel ≡ c → is_raised g c ≡ true
  raised_is r c h e =
      any_true (λ (x : Raised). same_channel x.channel c) g.raised r h (subst (λ k. same_channel r.channel k ≡ true) e (same_channel_refl r.channel))

  -- a channel that is not there has no number in either
  nowhere : (c : Channel) → is_raised g c ≡ false → SameNode g t u c
  nowhere c none = (
    agree_if c (λ r h e. absurd (let there = raised_is r c h e in cc)),
    λ e is. agree_if e (λ r h s. absurd (let there = paired.raised c e is (raised_is r e h s) in cc)),
  )

  target_agrees : (m : ℕ) (r : Raised) (c : Channel) (b : Bool) → is_raised g c ≡ b → AgreeWithin m → IsIn r g.raised → IsIn c r.targets →
      top < entry ranks (node g r.channel) + suc m → SameNode g t u c
  target_agrees m r c true e known h leads low = beyond_agree m r.channel c known low (target_beyond g ranks solved r h c leads e)
  target_agrees m r c false e known h leads low = nowhere c e

  along_agrees : (stretches : List Stretch) →
      ((s : Stretch) → IsIn s stretches → (i : _) → IsIn i s.starts → (k : Channel) → IsIn k (started i) → SameNode g t u k) →
      along t stretches ≡ along u stretches
  along_agrees stretches same = ap capped (program_cost_same g t u stretches same)

  parts_agree : (m : ℕ) → AgreeWithin m → (r : Raised) → IsIn r g.raised → top < entry ranks (node g r.channel) + suc m → SameParts g t u r
  parts_agree m known r h low = (
    λ q runs.
        ap (λ ps. read 0 ps q) solves_t.programs
        ∙ (read_map_same (along t) (along u) g.programs q
        (along_agrees (read [] g.programs q)
        (λ s in_program i in_block k starts.
        beyond_agree m r.channel k known low
        (started_beyond g ranks solved r h q runs k
        (flat_in (λ (s : Stretch). flat_map started s.starts) (read [] g.programs q) s k in_program (flat_in started s.starts i k in_block starts)))))
        ∙ sym (ap (λ ps. read 0 ps q) solves_u.programs)),
    λ c leads. target_agrees m r c (is_raised g c) refl known h leads low,
  )

  agree : (m : ℕ) → AgreeWithin m
  agree zero r h low = absurd (let b = entry_below ranks (node g r.channel) in omega (arith, b, low))
  agree (suc m) r h low = ap capped (cost_at_same g t u r r.channel (parts_agree m (agree m) r h low))

  one_answer : t ≡ u
  one_answer =
      let channels =
      solves_t.channels
      ∙ (map_same (λ (r : Raised). (r.channel, at t r)) (λ (r : Raised). (r.channel, at u r)) g.raised
      (λ r h. ap (λ n. (r.channel, n)) (agree (suc top) r h (omega arith)))
      ∙ sym solves_u.channels) in
      let same : (c : Channel) → Same t u c = λ c. ap (λ (x : Table). entry x c) channels in
      let programs =
      solves_t.programs
      ∙ (map_same (along t) (along u) g.programs (λ stretches h. along_agrees stretches (λ s a i b k c. (same k, λ e is. same e)))
      ∙ sym solves_u.programs) in
      ap (λ (cs : Table). record t { channels = cs }) channels ∙ ap (λ (ps : List ℕ). record u { programs = ps }) programs

-- ** costs, capped

capped_channels : (f : Raised → ℕ) (rs : List Raised) →
    map {B = Channel × ℕ} (λ (x : Channel × ℕ). (x.0, capped x.1)) (map {B = Channel × ℕ} (λ (r : Raised). (r.channel, f r)) rs)
    ≡ map {B = Channel × ℕ} (λ (r : Raised). (r.channel, capped (f r))) rs
capped_channels f [] = refl
capped_channels f (r ∷ rs) = ap (λ (ts : Table). (r.channel, capped (f r)) ∷ ts) (capped_channels f rs)

capped_programs : (f : List Stretch → ℕ) (ps : List (List Stretch)) → map capped (map f ps) ≡ map (λ p. capped (f p)) ps
capped_programs f [] = refl
capped_programs f (p ∷ ps) = ap (λ (ns : List ℕ). capped (f p) ∷ ns) (capped_programs f ps)

pub costs_solve : (g : Graph) (u : Tables) → SolvesCosts g u → SolvesCapped g (capped_tables u)
costs_solve g u solves =
    let like = costs_capped g u in
    record {
      channels =
          ap (map {B = Channel × ℕ} (λ (x : Channel × ℕ). (x.0, capped x.1))) solves.channels
          ∙ (capped_channels (channel_cost g u) g.raised
          ∙ map_same {B = Channel × ℕ} (λ (r : Raised). (r.channel, capped (channel_cost g u r))) (λ (r : Raised). (r.channel, capped (channel_cost g (capped_tables u) r))) g.raised
          (λ r h. ap (λ n. (r.channel, n)) (sym (like.0 r))));
      programs =
          ap (map capped) solves.programs
          ∙ (capped_programs (program_cost g u) g.programs
          ∙ map_same (λ p. capped (program_cost g u p)) (λ p. capped (program_cost g (capped_tables u) p)) g.programs (λ p h. sym (like.1 p)));
    }

pub capped_is_solved : CappedIsSolved
capped_is_solved g ranks t u solved paired solves_t solves_u = one_answer g ranks solved paired t (capped_tables u) solves_t (costs_solve g u solves_u)
