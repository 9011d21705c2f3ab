-- Tables that going on does not change meet their equations.
use Rattle.std.proofs.Common.{◌≡◌, refl, sym, ap, subst, ◌∙◌, ℕ, zero, suc, ◌+◌, Bool, true, false, List, [], ◌∷◌, length, map, Option, Some}
use Rattle.std.specs.Prelude.{nat_eq}
use Rattle.std.specs.List.{filter}
use Rattle.std.proofs.lemmas.Bool.{eqb-true}
use Rattle.law_typing.specs.Graph.Channels.{Channel}
use Rattle.law_typing.specs.Graph.{Graph, Raised}
use Rattle.law_typing.specs.Graph.Tables.{Table, Tables, same_numbers, same_table, same_tables, goes_on, settled}
use Rattle.law_typing.specs.Graph.Ranks.{Arrow, arrows, nodes, rank_by, ranked, leads, ranks_by, ranks, IsRanking}
use Rattle.law_typing.specs.Graph.Costs.{SolvesCosts, costs, no_tables, channel_cost, program_cost}
use Rattle.law_typing.specs.Graph.Depths.{SolvesDepths, depths, channel_depth, program_depth}
use Rattle.law_typing.proofs.Lists.{both_parts}

-- ** what is settled

-- what is reached is the next of something that is the same as its next
record Reached {A : Type 0} (same : A → A → Bool) (next : A → A) (Keeps : A → Type 0) (u : A) : Type 0 where
  pub at : A
  pub kept : Keeps at
  pub stays : same at (next at) ≡ true
  pub is : u ≡ next at

module _ {A : Type 0} (same : A → A → Bool) (next : A → A) (Keeps : A → Type 0) (keeps : (x : A) → Keeps x → Keeps (next x)) where
  by_test : (b : Bool) (at u : A) (more : A → Option A) → same at (next at) ≡ b → Keeps at →
      (more (next at) ≡ Some u → Reached same next Keeps u) → goes_on b more (next at) ≡ Some u → Reached same next Keeps u
  by_test true at u more e kept later f = record { at = at; kept = kept; stays = e; is = let g : next at ≡ u = cc in sym g }
  by_test false at u more e kept later f = later f

  reached : (n : ℕ) (at u : A) → Keeps at → settled same n next at ≡ Some u → Reached same next Keeps u
  reached zero at u kept e = absurd (cc)
  reached (suc n) at u kept e = by_test (same at (next at)) at u (settled same n next) refl kept (reached n (next at) u (keeps at kept)) e

-- ** tables with the same numbers

pub same_numbers_true : (xs ys : List ℕ) → same_numbers xs ys ≡ true → xs ≡ ys
same_numbers_true [] [] e = refl
same_numbers_true [] (y ∷ ys) e = absurd (cc)
same_numbers_true (x ∷ xs) [] e = absurd (cc)
same_numbers_true (x ∷ xs) (y ∷ ys) e =
    let b = both_parts (nat_eq x y) (same_numbers xs ys) e in
    let h = eqb-true x y b.0 in
    let t = same_numbers_true xs ys b.1 in
    cc

-- a table that has a number for each of some things
abbrev table_of : {X : Type 0} → (X → Channel) → List X → (X → ℕ) → Table
table_of key xs f = map (λ x. (key x, f x)) xs

same_table_true : {X : Type 0} (key : X → Channel) (xs : List X) (f g : X → ℕ) → same_table (table_of key xs f) (table_of key xs g) ≡ true → table_of key xs f ≡ table_of key xs g
same_table_true key [] f g e = refl
same_table_true key (x ∷ xs) f g e =
    let b = both_parts (nat_eq (f x) (g x)) (same_table (table_of key xs f) (table_of key xs g)) e in
    let h = eqb-true (f x) (g x) b.0 in
    let t = same_table_true key xs f g b.1 in
    let p : (Channel × ℕ) = (key x, g x) in
    ap (λ n. (key x, n) ∷ table_of key xs f) h ∙ ap (λ ts. (key x, g x) ∷ ts) t

-- ** ranks

-- a table of these nodes
record IsOf (ns : List Channel) (t : Table) : Type 0 where
  pub number : Channel → ℕ
  pub is : t ≡ table_of (λ n. n) ns number

module _ (edges : List Arrow) (ns : List Channel) where
  stays : (t : Table) → IsOf ns t → same_table t (ranked edges ns t) ≡ true → t ≡ ranked edges ns t
  stays t of e =
      let f = of.number in
      let g = rank_by edges t in
      let h = same_table_true (λ n. n) ns f g (subst (λ u. same_table u (ranked edges ns t) ≡ true) of.is e) in
      of.is ∙ h

  ranks_solved : (u : Table) → ranks_by edges ns ≡ Some u → u ≡ ranked edges ns u
  ranks_solved u e =
      let r =
      reached same_table (ranked edges ns) (IsOf ns) (λ t k. record { number = rank_by edges t; is = refl }) (suc (length (filter (leads edges) ns)))
      (map (λ n. (n, 0)) ns) u (record { number = λ n. 0; is = refl }) e in
      let same : r.at ≡ u = stays r.at r.kept r.stays ∙ sym r.is in
      r.is ∙ ap (ranked edges ns) same

pub ranks_are : (g : Graph) (u : Table) → ranks g ≡ Some u → IsRanking g u
ranks_are g u e = ranks_solved (arrows g) (nodes g) u e

-- ** costs and depths

-- tables of a graph
record IsFor (g : Graph) (t : Tables) : Type 0 where
  pub number : Raised → ℕ
  pub is : t.channels ≡ table_of (λ (r : Raised). r.channel) g.raised number

-- tables whose channels are some numbers, and whose programs come from them
module _ (g : Graph) (channel_of : Tables → Raised → ℕ) (programs_by : Tables → List ℕ) where
  abbrev after_programs : Tables → Tables
  after_programs t = record t { programs = programs_by t }

  abbrev next : Tables → Tables
  next t = record (after_programs t) { channels = table_of (λ (r : Raised). r.channel) g.raised (channel_of (after_programs t)) }

  tables_stay : (t : Tables) → IsFor g t → same_tables t (next t) ≡ true → t ≡ next t
  tables_stay t of e =
      let b = both_parts (same_table t.channels (next t).channels) (same_numbers t.programs (programs_by t)) e in
      let h =
      same_table_true (λ (r : Raised). r.channel) g.raised of.number (channel_of (after_programs t))
      (subst (λ u. same_table u (next t).channels ≡ true) of.is b.0) in
      let c : t.channels ≡ (next t).channels = of.is ∙ h in
      let p : t.programs ≡ programs_by t = same_numbers_true t.programs (programs_by t) b.1 in
      ap (λ (cs : Table). record t { channels = cs }) c ∙ ap (λ (ps : List ℕ). record (next t) { programs = ps }) p

  solved : (n : ℕ) (start u : Tables) → IsFor g start → settled same_tables n next start ≡ Some u →
      (u.programs ≡ programs_by u) × (u.channels ≡ table_of (λ (r : Raised). r.channel) g.raised (channel_of u))
  solved n start u from e =
      let r = reached same_tables next (IsFor g) (λ t k. record { number = channel_of (after_programs t); is = refl }) n start u from e in
      let same : r.at ≡ u = tables_stay r.at r.kept r.stays ∙ sym r.is in
      let fixed : u ≡ next u = r.is ∙ ap next same in
      let programs : u.programs ≡ programs_by u = ap (λ (t : Tables). t.programs) fixed in
      let whole : u ≡ after_programs u = ap (λ (ps : List ℕ). record u { programs = ps }) programs in (
        programs,
        ap (λ (t : Tables). t.channels) fixed ∙ ap (λ (t : Tables). table_of (λ (r : Raised). r.channel) g.raised (channel_of t)) (sym whole),
      )

pub costs_are : (g : Graph) (u : Tables) → costs g ≡ Some u → SolvesCosts g u
costs_are g u e =
    let s = solved g (channel_cost g) (λ t. map (program_cost g t) g.programs) (3 + length g.raised) (no_tables g) u (record { number = λ r. 0; is = refl }) e in
    record { channels = s.1; programs = s.0 }

pub depths_are : (g : Graph) (u : Tables) → depths g ≡ Some u → SolvesDepths g u
depths_are g u e =
    let s = solved g (channel_depth g) (λ t. map (program_depth t) g.programs) (3 + length g.raised) (no_tables g) u (record { number = λ r. 0; is = refl }) e in
    record { channels = s.1; programs = s.0 }
