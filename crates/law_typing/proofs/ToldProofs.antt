-- Every cycle of a graph holds one as it is reported: it is turned to its first node in the report, and what lies between a node and the
-- same node is left out.
use Rattle.std.proofs.Common.{◌≡◌, inl, inr, ◌⊎◌, refl, sym, ap, subst, ◌∙◌, ℕ, ◌≤◌, ◌<◌, Bool, true, false, List, [], ◌∷◌, ◌++◌, map, Some, None, arith}
use Rattle.std.specs.Prelude.{◌&&◌, ◌||◌, not, nat_lt}
use Rattle.std.specs.List.{list_any, list_all}
use Rattle.std.proofs.lemmas.Bool.{and_from, ltb-true, ltb-false, le-ltb}
use Rattle.ui_machine.specs.Definition.{Definition}
use Rattle.law_typing.specs.Rules.Faults as faults
use Rattle.law_typing.specs.Graph.Channels.{Channel, same_channel, Link}
use Rattle.law_typing.specs.Graph.{Graph, graph}
use Rattle.law_typing.specs.Graph.Ranks.{Arrow, arrows, is_edge, leads_to, is_cycle_of, is_cycle}
use Rattle.law_typing.specs.Laws.WellRead.{no_two}
use Rattle.law_typing.specs.Laws.FaultTexts.{JudgesIsThere}
use Rattle.law_typing.specs.Verdict.{Verdict, verdict, accepted, refused, has_cycle}
use Rattle.law_typing.specs.Verdict.Accepted.{Each}
use Rattle.law_typing.specs.Verdict.Judges.{line_of, begins_first, IsToldCycle, Answers}
use Rattle.law_typing.proofs.Lists.{both_parts, either_part, same_channel_true, each_append}
use Rattle.law_typing.proofs.ExactProofs.{cycle_is_real}

each_of : {A : Type 0} (P Q : A → Type 0) (xs : List A) → ((x : A) → P x → Q x) → Each P xs → Each Q xs
each_of P Q [] f all = tt
each_of P Q (x ∷ xs) f all = (f x all.0, each_of P Q xs f all.1)

all_of : {A : Type 0} (test : A → Bool) (xs : List A) → Each (λ x. test x ≡ true) xs → list_all test xs ≡ true
all_of test [] all = refl
all_of test (x ∷ xs) all = and_from (test x) (list_all test xs) all.0 (all_of test xs all.1)

-- ** the first in the report

module _ (line : Link → ℕ) where
  record Least (links : List Link) : Type 0 where
    pub before : List Link
    pub at : Link
    pub after : List Link
    pub is : links ≡ before ++ at ∷ after
    pub low_before : Each (λ m. line at ≤ line m) before
    pub low_after : Each (λ m. line at ≤ line m) after

  lower : (a b : Link) (ms : List Link) → line a ≤ line b → Each (λ m. line b ≤ line m) ms → Each (λ m. line a ≤ line m) ms
  lower a b ms h = each_of (λ m. line b ≤ line m) (λ m. line a ≤ line m) ms (λ m k. omega (arith, h, k))

  least : (l : Link) (more : List Link) → Least (l ∷ more)
  least l [] = record { before = []; at = l; after = []; is = refl; low_before = tt; low_after = tt }
  least l (n ∷ more) = by (least n more)
    where
      by : Least (n ∷ more) → Least (l ∷ n ∷ more)
      by s = go (nat_lt (line s.at) (line l)) refl
        where
          go : (b : Bool) → nat_lt (line s.at) (line l) ≡ b → Least (l ∷ n ∷ more)
          go true e = record {
            before = l ∷ s.before;
            at = s.at;
            after = s.after;
            is = ap (λ x. l ∷ x) s.is;
            low_before = (let h = ltb-true (line s.at) (line l) e in omega (arith, h), s.low_before);
            low_after = s.low_after;
          }
          go false e =
              let h = ltb-false (line s.at) (line l) e in
              record {
                before = [];
                at = l;
                after = n ∷ more;
                is = refl;
                low_before = tt;
                low_after = subst (λ x. Each (λ m. line l ≤ line m) x) (sym s.is)
                    (each_append (λ m. line l ≤ line m) s.before (s.at ∷ s.after) (lower l s.at s.before h s.low_before) (h, lower l s.at s.after h s.low_after));
              }

-- ** turned

module _ (edges : List Arrow) where
  parted : (f : Channel) (m : Link) (ys xs : List Link) → leads_to edges f (xs ++ m ∷ ys) ≡ true → (leads_to edges m.from xs ≡ true) × (leads_to edges f (m ∷ ys) ≡ true)
  parted f m ys [] e = (refl, e)
  parted f m ys (x ∷ []) e = both_parts (is_edge edges x.from x.by m.from) (leads_to edges f (m ∷ ys)) e
  parted f m ys (x ∷ z ∷ more) e =
      let b = both_parts (is_edge edges x.from x.by z.from) (leads_to edges f (z ∷ (more ++ m ∷ ys))) e in
      let r = parted f m ys (z ∷ more) b.1 in
      (and_from (is_edge edges x.from x.by z.from) (leads_to edges m.from (z ∷ more)) b.0 r.0, r.1)

  joined : (f : Channel) (x : Link) (xs : List Link) (m : Link) (ys : List Link) → leads_to edges x.from (m ∷ ys) ≡ true → leads_to edges f (x ∷ xs) ≡ true →
      leads_to edges f (m ∷ (ys ++ x ∷ xs)) ≡ true
  joined f x xs m [] a b = and_from (is_edge edges m.from m.by x.from) (leads_to edges f (x ∷ xs)) a b
  joined f x xs m (y ∷ more) a b =
      let p = both_parts (is_edge edges m.from m.by y.from) (leads_to edges x.from (y ∷ more)) a in
      and_from (is_edge edges m.from m.by y.from) (leads_to edges f (y ∷ (more ++ x ∷ xs))) p.0 (joined f x xs y more p.1 b)

  -- a cycle from one of its nodes
  turned : (P : Link → Type 0) (at : Link) (before after : List Link) → is_cycle_of edges (before ++ at ∷ after) ≡ true → Each P before → Each P after →
      (rest : List Link) × (leads_to edges at.from (at ∷ rest) ≡ true) × Each P rest
  turned P at [] after e p q = (after, e, q)
  turned P at (x ∷ xs) after e p q =
      let r = parted x.from at after (x ∷ xs) e in
      (after ++ x ∷ xs, joined at.from x xs at after r.1 r.0, each_append P after (x ∷ xs) q p)

  -- ** each node once

  module _ (P : Link → Type 0) (goal : Channel) where
    record Path (c : Channel) : Type 0 where
      pub link : Link
      pub more : List Link
      pub from : link.from ≡ c
      pub leads : leads_to edges goal (link ∷ more) ≡ true
      pub once : no_two same_channel (map (λ (l : Link). l.from) (link ∷ more)) ≡ true
      pub each : Each P (link ∷ more)

    rest_leads : (l : Link) (more : List Link) → leads_to edges goal (l ∷ more) ≡ true → leads_to edges goal more ≡ true
    rest_leads l [] e = refl
    rest_leads l (m ∷ more) e = (both_parts (is_edge edges l.from l.by m.from) (leads_to edges goal (m ∷ more)) e).1

    -- the path from a node that it has
    from_there : (c : Channel) (ls : List Link) → leads_to edges goal ls ≡ true → no_two same_channel (map (λ (l : Link). l.from) ls) ≡ true → Each P ls →
        list_any (same_channel c) (map (λ (l : Link). l.from) ls) ≡ true → Path c
    from_there c [] e o p h = absurd (cc)
    from_there c (l ∷ more) e o p h =
        by (either_part (same_channel c l.from) (list_any (same_channel c) (map (λ (l : Link). l.from) more)) h)
        (from_there c more (rest_leads l more e)
        (both_parts (not (list_any (same_channel l.from) (map (λ (l : Link). l.from) more))) (no_two same_channel (map (λ (l : Link). l.from) more)) o).1 p.1)
      where
        by : (same_channel c l.from ≡ true) ⊎ (list_any (same_channel c) (map (λ (l : Link). l.from) more) ≡ true) →
            (list_any (same_channel c) (map (λ (l : Link). l.from) more) ≡ true → Path c) → Path c
        by (inl s) later = record { link = l; more = more; from = sym (same_channel_true c l.from s); leads = e; once = o; each = p }
        by (inr k) later = later k

    path : (l : Link) (ms : List Link) → leads_to edges goal (l ∷ ms) ≡ true → Each P (l ∷ ms) → Path l.from
    path l [] e p = record { link = l; more = []; from = refl; leads = e; once = refl; each = p }
    path l (m ∷ more) e p =
        let b = both_parts (is_edge edges l.from l.by m.from) (leads_to edges goal (m ∷ more)) e in
        by b.0 (path m more b.1 p.1)
      where
        by : is_edge edges l.from l.by m.from ≡ true → Path m.from → Path l.from
        by edge r = go (list_any (same_channel l.from) (map (λ (l : Link). l.from) (r.link ∷ r.more))) refl
          where
            go : (b : Bool) → list_any (same_channel l.from) (map (λ (l : Link). l.from) (r.link ∷ r.more)) ≡ b → Path l.from
            go true h = from_there l.from (r.link ∷ r.more) r.leads r.once r.each h
            go false h = record {
              link = l;
              more = r.link ∷ r.more;
              from = refl;
              leads = and_from (is_edge edges l.from l.by r.link.from) (leads_to edges goal (r.link ∷ r.more))
                  (subst (λ x. is_edge edges l.from l.by x ≡ true) (sym r.from) edge) r.leads;
              once = and_from (not (list_any (same_channel l.from) (map (λ (l : Link). l.from) (r.link ∷ r.more))))
                  (no_two same_channel (map (λ (l : Link). l.from) (r.link ∷ r.more))) (ap not h) r.once;
              each = (p.0, r.each);
            }

-- ** the cycle that is reported

module _ (g : Graph) where
  abbrev line : Link → ℕ
  line l = line_of g.raised l.from

  told_from : (P : Link → Type 0) (at : Link) (rest : List Link) → ((m : Link) → P m → line at ≤ line m) → Path (arrows g) P at.from at.from →
      (links : List Link) × IsToldCycle g links
  told_from P at rest low r = (
    r.link ∷ r.more,
    record {
      cycle = subst (λ x. leads_to (arrows g) x (r.link ∷ r.more) ≡ true) (sym r.from) r.leads;
      first = all_of (λ (m : Link). not (nat_lt (line m) (line r.link))) r.more
          (each_of P (λ m. not (nat_lt (line m) (line r.link)) ≡ true) r.more
          (λ m h.
          let k = low m h in
          let same : line r.link ≡ line at = ap (line_of g.raised) r.from in
          ap not (le-ltb (line m) (line r.link) (omega (arith, k, same)))) r.each.1);
      once = r.once;
    },
  )

  told : (links : List Link) → is_cycle g links ≡ true → (ls : List Link) × IsToldCycle g ls
  told [] e = absurd (cc)
  told (l ∷ more) e =
      let s = least line l more in
      let t =
      turned (arrows g) (λ m. line s.at ≤ line m) s.at s.before s.after (subst (λ x. is_cycle_of (arrows g) x ≡ true) s.is e) s.low_before s.low_after in
      told_from (λ m. line s.at ≤ line m) s.at t.0 (λ m h. h)
      (path (arrows g) (λ m. line s.at ≤ line m) s.at.from s.at t.0 t.1 (omega arith, t.2))

pub judges_is_there : JudgesIsThere
judges_is_there d = go (verdict d) refl
  where
    go : (v : Verdict) → verdict d ≡ v → (answer : _) × Answers (graph d) v answer
    go (accepted report) e = (None, refl)
    go (refused fault) e = (Some fault, refl)
    go has_cycle e =
        let c = cycle_is_real d e in
        let t = told (graph d) c.0 c.1 in
        (Some (faults.cycle t.0), (t.0, refl, t.1))
