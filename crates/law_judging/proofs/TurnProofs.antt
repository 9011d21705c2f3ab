-- Cycles that are turned round, and what is judged by one.
use Rattle.std.proofs.Common.{◌≡◌, refl, sym, ap, ◌∙◌, subst, zero, suc, Bool, true, false, List, [], ◌∷◌, ◌++◌, map, Option, None, Some}
use Rattle.std.specs.Prelude.{◌||◌, not}
use Rattle.std.specs.List.{list_any}
use Rattle.std.proofs.lemmas.Bool.{and_from}
use Rattle.law_typing.specs.Rules.Faults.{cycle}
use Rattle.law_typing.specs.Graph.Channels.{Channel, Link, same_channel}
use Rattle.law_typing.specs.Graph.{Graph, graph}
use Rattle.law_typing.specs.Graph.Tables.{Table}
use Rattle.law_typing.specs.Graph.Ranks.{Arrow, arrows, is_cycle, is_cycle_of, is_edge, leads_to, ranks}
use Rattle.law_typing.specs.Laws.WellRead.{no_two}
use Rattle.law_typing.specs.Verdict.{by_ranks, has_cycle, verdict}
use Rattle.law_typing.specs.Verdict.Judges.{Answers}
use Rattle.law_typing.proofs.Lists.{both_parts, same_channel_true, same_channel_refl}
use Rattle.law_typing.proofs.RankProofs.{ranked_is_acyclic}
use Rattle.law_typing.proofs.SettledProofs.{ranks_are}
use Rattle.law_judging.specs.Cycles.{CycleIsTold, TurnedIsCycle, TurnedIsOnce, turned_once}
use Rattle.law_judging.proofs.FaultProofs.{by_graph_alone}

-- ** edges

-- what leads to a link leads on by it
leads_on : (edges : List Arrow) (first : Channel) (l m : Link) (rest : List Link) → leads_to edges l.from (m ∷ rest) ≡ true →
    is_edge edges l.from l.by first ≡ true → leads_to edges first ((m ∷ rest) ++ l ∷ []) ≡ true
leads_on edges first l m [] leads last = and_from (is_edge edges m.from m.by l.from) (is_edge edges l.from l.by first) leads last
leads_on edges first l m (n ∷ more) leads last =
    let parts = both_parts (is_edge edges m.from m.by n.from) (leads_to edges l.from (n ∷ more)) leads in
    and_from (is_edge edges m.from m.by n.from) (leads_to edges first ((n ∷ more) ++ l ∷ [])) parts.0
    (leads_on edges first l n more parts.1 last)

once_is_cycle : (edges : List Arrow) (links : List Link) → is_cycle_of edges links ≡ true → is_cycle_of edges (turned_once links) ≡ true
once_is_cycle edges [] is = is
once_is_cycle edges (l ∷ []) is = is
once_is_cycle edges (l ∷ m ∷ more) is =
    let parts = both_parts (is_edge edges l.from l.by m.from) (leads_to edges l.from (m ∷ more)) is in
    leads_on edges m.from l m more parts.1 parts.0

pub turned_is_cycle : TurnedIsCycle
turned_is_cycle g zero links is = is
turned_is_cycle g (suc n) links is = turned_is_cycle g n (turned_once links) (once_is_cycle (arrows g) links is)

-- ** no node twice

from_of : Link → Channel
from_of l = l.from

map_last : (ls : List Link) (l : Link) → map (λ (k : Link). k.from) (ls ++ l ∷ []) ≡ map (λ (k : Link). k.from) ls ++ l.from ∷ []
map_last [] l = refl
map_last (k ∷ ls) l = ap (λ cs. k.from ∷ cs) (map_last ls l)

any_last : (c e : Channel) (cs : List Channel) → list_any (same_channel c) cs ≡ false → same_channel c e ≡ false →
    list_any (same_channel c) (cs ++ e ∷ []) ≡ false
any_last c e [] none other = ap (λ b. b || false) other
any_last c e (x ∷ cs) none other = by (same_channel c x) none (λ h. any_last c e cs h other)
  where
    by : (b : Bool) → (b || list_any (same_channel c) cs) ≡ false → (list_any (same_channel c) cs ≡ false → list_any (same_channel c) (cs ++ e ∷ []) ≡ false) →
        (b || list_any (same_channel c) (cs ++ e ∷ [])) ≡ false
    by true h later = absurd (cc)
    by false h later = later h

-- whether two channels are one does not go by their order
other_way : (c e : Channel) → same_channel c e ≡ false → same_channel e c ≡ false
other_way c e other = by (same_channel e c) refl
  where
    by : (b : Bool) → same_channel e c ≡ b → same_channel e c ≡ false
    by true is =
        let s = same_channel_true e c is in
        let r : same_channel c e ≡ true = subst (λ x. same_channel c x ≡ true) (sym s) (same_channel_refl c) in
        absurd (cc)
    by false is = is

not_true : (b : Bool) → not b ≡ true → b ≡ false
not_true true e = absurd (cc)
not_true false e = refl

neither : (b c : Bool) → (b || c) ≡ false → (b ≡ false) × (c ≡ false)
neither true c e = absurd (cc)
neither false c e = (refl, e)

last_once : (c : Channel) (cs : List Channel) → list_any (same_channel c) cs ≡ false → no_two same_channel cs ≡ true → no_two same_channel (cs ++ c ∷ []) ≡ true
last_once c [] none two = refl
last_once c (x ∷ cs) none two =
    let parts = both_parts (not (list_any (same_channel x) cs)) (no_two same_channel cs) two in
    let apart = neither (same_channel c x) (list_any (same_channel c) cs) none in
    and_from (not (list_any (same_channel x) (cs ++ c ∷ []))) (no_two same_channel (cs ++ c ∷ []))
    (ap not (any_last x c cs (not_true (list_any (same_channel x) cs) parts.0) (other_way c x apart.0)))
    (last_once c cs apart.1 parts.1)

once_stays : (links : List Link) → no_two same_channel (map (λ (l : Link). l.from) links) ≡ true →
    no_two same_channel (map (λ (l : Link). l.from) (turned_once links)) ≡ true
once_stays [] two = two
once_stays (l ∷ more) two =
    let parts = both_parts (not (list_any (same_channel l.from) (map (λ (k : Link). k.from) more))) (no_two same_channel (map (λ (k : Link). k.from) more)) two in
    ap (no_two same_channel) (map_last more l)
    ∙ last_once l.from (map (λ (k : Link). k.from) more) (not_true (list_any (same_channel l.from) (map (λ (k : Link). k.from) more)) parts.0) parts.1

pub turned_is_once : TurnedIsOnce
turned_is_once zero links two = two
turned_is_once (suc n) links two = turned_is_once n (turned_once links) (once_stays links two)

-- ** what is judged

unranked : (g : Graph) (links : List Link) → is_cycle g links ≡ true → (o : Option Table) → ranks g ≡ o → ranks g ≡ None
unranked g links is None e = e
unranked g links is (Some r) e = absurd (let none = ranked_is_acyclic g r (ranks_are g r e) links in cc)

pub cycle_is_told : CycleIsTold
cycle_is_told d links lawful told =
    let v : verdict d ≡ has_cycle =
    by_graph_alone d lawful ∙ ap (by_ranks d (graph d)) (unranked (graph d) links told.cycle (ranks (graph d)) refl) in
    subst (λ w. Answers (graph d) w (Some (cycle links))) (sym v) (links, refl, told)
