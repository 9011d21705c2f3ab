-- Ranks rise along edges, so that no chain of edges comes back.
use Rattle.std.proofs.Common.{◌≡◌, sym, ap, subst, ◌∙◌, ◌<◌, true, List, [], ◌∷◌, map, arith}
use Rattle.std.specs.Prelude.{◌&&◌}
use Rattle.std.specs.List.{filter, flat_map}
use Rattle.std.proofs.lemmas.Bool.{false_from_ne_true}
use Rattle.law_typing.specs.Graph.Channels.{Channel, same_channel, Cause, Link}
use Rattle.law_typing.specs.Graph.Channels as causes
use Rattle.law_typing.specs.Graph.{Graph, Raised}
use Rattle.law_typing.specs.Graph.Tables.{Table, entry}
use Rattle.law_typing.specs.Graph.Ranks.{Arrow, arrow, arrows, arrows_by, arrows_from, is_raised, node, nodes, running_at, started_by, above, rank_by, same_cause, is_edge, leads_to, is_cycle, IsRanking}
use Rattle.law_typing.specs.Verdict.Accepted.{Each}
use Rattle.law_typing.specs.Laws.{IsIn, RanksRise, RankedIsAcyclic}
use Rattle.law_typing.proofs.Lists.{both_parts, same_channel_true, same_channel_refl, map_in, filter_in, any_in, each_in, each_append, each_map, each_flat, greatest_in, entry_of}

pub ranks_rise : RanksRise
ranks_rise g ranks solved a edge there =
    let e = ap (λ t. entry t a.to) solved ∙ entry_of (rank_by (arrows g) ranks) (nodes g) a.to there in
    let found = filter_in (λ (b : Arrow). same_channel b.to a.to) (arrows g) a (same_channel_refl a.to) edge in
    let most = greatest_in (above ranks) (filter (λ (b : Arrow). same_channel b.to a.to) (arrows g)) a found in
    omega (arith, e, most)

-- each edge begins at the node of a channel
pub begins : (g : Graph) → Each (λ (a : Arrow). IsIn a.from (nodes g)) (arrows g)
begins g = each_flat Begins (arrows_from g) g.raised from
  where
    Begins : Arrow → Type 0
    Begins a = IsIn a.from (nodes g)

    here : (r : Raised) → IsIn r g.raised → IsIn (node g r.channel) (nodes g)
    here r h = map_in (λ (r : Raised). node g r.channel) g.raised r h

    from : (r : Raised) → IsIn r g.raised → Each (λ (a : Arrow). IsIn a.from (nodes g)) (arrows_from g r)
    from r h =
        each_append (λ (a : Arrow). IsIn a.from (nodes g)) (flat_map (arrows_by g r.channel) (running_at r))
        (map (arrow g r.channel causes.binding) (filter (is_raised g) r.targets))
        (each_flat (λ (a : Arrow). IsIn a.from (nodes g)) (arrows_by g r.channel) (running_at r)
        (λ q at. each_map (λ (a : Arrow). IsIn a.from (nodes g)) (arrow g r.channel (causes.program q)) (started_by g q) (λ k. here r h)))
        (each_map (λ (a : Arrow). IsIn a.from (nodes g)) (arrow g r.channel causes.binding) (filter (is_raised g) r.targets) (λ k. here r h))

module _ (g : Graph) (ranks : Table) (solved : IsRanking g ranks) where
  -- an edge that the test finds is one of them
  told : (from : Channel) (by : Cause) (to : Channel) → is_edge (arrows g) from by to ≡ true →
      (a : Arrow) × IsIn a (arrows g) × (a.from ≡ from) × (a.to ≡ to)
  told from by to e =
      let found = any_in (λ (a : Arrow). same_channel a.from from && (same_cause a.by by && same_channel a.to to)) (arrows g) e in
      let a = found.0 in
      let first = both_parts (same_channel a.from from) (same_cause a.by by && same_channel a.to to) found.2 in
      let second = both_parts (same_cause a.by by) (same_channel a.to to) first.1 in
      (a, found.1, same_channel_true a.from from first.0, same_channel_true a.to to second.1)

  begins_at : (from : Channel) (by : Cause) (to : Channel) → is_edge (arrows g) from by to ≡ true → IsIn from (nodes g)
  begins_at from by to e =
      let a = told from by to e in
      subst (λ c. IsIn c (nodes g)) a.2 (each_in (λ (b : Arrow). IsIn b.from (nodes g)) (arrows g) (begins g) a.0 a.1)

  rises : (from : Channel) (by : Cause) (to : Channel) → is_edge (arrows g) from by to ≡ true → IsIn to (nodes g) → entry ranks from < entry ranks to
  rises from by to e there =
      let a = told from by to e in
      let r = ranks_rise g ranks solved a.0 a.1 (subst (λ c. IsIn c (nodes g)) (sym a.3) there) in
      let f = ap (entry ranks) a.2 in
      let t = ap (entry ranks) a.3 in
      omega (arith, r, f, t)

  first_begins : (first : Channel) (l : Link) (more : List Link) → leads_to (arrows g) first (l ∷ more) ≡ true → IsIn l.from (nodes g)
  first_begins first l [] e = begins_at l.from l.by first e
  first_begins first l (m ∷ more) e =
      begins_at l.from l.by m.from (both_parts (is_edge (arrows g) l.from l.by m.from) (leads_to (arrows g) first (m ∷ more)) e).0

  climbs : (first : Channel) (l : Link) (more : List Link) → IsIn first (nodes g) → leads_to (arrows g) first (l ∷ more) ≡ true → entry ranks l.from < entry ranks first
  climbs first l [] there e = rises l.from l.by first e there
  climbs first l (m ∷ more) there e =
      let parts = both_parts (is_edge (arrows g) l.from l.by m.from) (leads_to (arrows g) first (m ∷ more)) e in
      let one = rises l.from l.by m.from parts.0 (first_begins first m more parts.1) in
      let rest = climbs first m more there parts.1 in
      omega (arith, one, rest)

  no_cycle : (links : List Link) → is_cycle g links ≡ true → ⊥
  no_cycle [] e = absurd (cc)
  no_cycle (l ∷ more) e = let up = climbs l.from l more (first_begins l.from l more e) e in omega (arith, up)

pub ranked_is_acyclic : RankedIsAcyclic
ranked_is_acyclic g ranks solved links = false_from_ne_true (is_cycle g links) (no_cycle g ranks solved links)
