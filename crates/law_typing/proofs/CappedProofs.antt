-- Capped numbers.
use Rattle.std.proofs.Common.{◌≡◌, inl, inr, ◌⊎◌, refl, sym, ap, ◌∙◌, ℕ, zero, suc, ◌+◌, ◌-◌, ◌*◌, ◌≤◌, ◌<◌, min, max, Bool, true, false, cond, List, [], ◌∷◌, map, Option, None, Some, arith}
use Rattle.ui_machine.specs.Seq.{read, total}
use Rattle.law_typing.specs.Graph.Channels.{Channel, constructed, property, signal, same_channel, Entry}
use Rattle.law_typing.specs.Graph.Channels as entries
use Rattle.law_typing.specs.Graph.{Graph, Raised, Start, nothing, raises, makes, thaws, Stretch}
use Rattle.law_typing.specs.Graph.Tables.{Table, entry, Tables, of_program, greatest}
use Rattle.law_typing.specs.Graph.Costs.{other_end, with_other, node_cost, start_cost, starts_cost, before_last, only_last, passes_cost, stretch_cost, path_costs, programs_cost, targets_cost, emission_cost, cost_at, making_cost, cost}
use Rattle.law_typing.specs.Laws.Capped.{capped, CappedLaws, capped_tables, CostsCapped}

-- a number of at least one times another is at least that
times_more : (n a : ℕ) → a ≤ suc n * a
times_more n a = grind arith

times_least : (n a c : ℕ) → c ≤ a → n * c ≤ n * a
times_least n a c h = grind arith

module _ (c : ℕ) where
  times_capped : (n a : ℕ) → min (n * min a c) c ≡ min (n * a) c
  times_capped zero a = let x : 0 * min a c ≡ 0 = grind arith in let y : 0 * a ≡ 0 = grind arith in ap (λ m. min m c) x ∙ (let z = ap (λ m. min m c) y in omega (arith, z))
  times_capped (suc n) a = go (small a c)
    where
      small : (a c : ℕ) → (a ≤ c) ⊎ (c ≤ a)
      small zero c = inl (omega arith)
      small (suc a) zero = inr (omega arith)
      small (suc a) (suc c) = of (small a c)
        where
          of : (a ≤ c) ⊎ (c ≤ a) → (suc a ≤ suc c) ⊎ (suc c ≤ suc a)
          of (inl h) = inl (omega (arith, h))
          of (inr h) = inr (omega (arith, h))

      go : (a ≤ c) ⊎ (c ≤ a) → min (suc n * min a c) c ≡ min (suc n * a) c
      go (inl h) = let same : min a c ≡ a = omega (arith, h) in ap (λ m. min (suc n * m) c) same
      go (inr h) =
          let same : min a c ≡ c = omega (arith, h) in
          let whole = ap (λ m. min (suc n * m) c) same in
          let one = times_more n c in
          let two = times_least (suc n) a c h in
          omega (arith, whole, one, two)

pub capped_laws : CappedLaws
capped_laws = record {
  again = λ a. omega arith;
  sum = λ a b. omega arith;
  greatest = λ a b. omega arith;
  times = λ n a. times_capped 1_000_000_000_001 n a;
  above = λ a h. omega (arith, h);
  within = λ a h. omega (arith, h);
}

-- ** numbers that are the same once they are capped

abbrev Like : ℕ → ℕ → Type 0
Like a b = capped a ≡ capped b

sum_like : (a b c d : ℕ) → Like a b → Like c d → Like (a + c) (b + d)
sum_like a b c d p q = omega (arith, p, q)

max_like : (a b c d : ℕ) → Like a b → Like c d → Like (max a c) (max b d)
max_like a b c d p q = omega (arith, p, q)

times_like : (n a b : ℕ) → Like a b → Like (n * a) (n * b)
times_like n a b p = sym (times_capped 1_000_000_000_001 n a) ∙ (ap (λ m. capped (n * m)) p ∙ times_capped 1_000_000_000_001 n b)

total_like : {A : Type 0} (f h : A → ℕ) (xs : List A) → ((x : A) → Like (f x) (h x)) → Like (total f xs) (total h xs)
total_like f h [] like = refl
total_like f h (x ∷ xs) like = sum_like (f x) (h x) (total f xs) (total h xs) (like x) (total_like f h xs like)

greatest_like : {A : Type 0} (f h : A → ℕ) (xs : List A) → ((x : A) → Like (f x) (h x)) → Like (greatest f xs) (greatest h xs)
greatest_like f h [] like = refl
greatest_like f h (x ∷ xs) like = max_like (f x) (h x) (greatest f xs) (greatest h xs) (like x) (greatest_like f h xs like)

again : (a : ℕ) → Like (capped a) a
again a = omega arith

entry_like : (t : Table) (c : Channel) → Like (entry (map (λ (x : Channel × ℕ). (x.0, capped x.1)) t) c) (entry t c)
entry_like [] c = refl
entry_like (x ∷ xs) c = by (same_channel x.0 c) (entry_like xs c)
  where
    by : (b : Bool) → Like (entry (map (λ (x : Channel × ℕ). (x.0, capped x.1)) xs) c) (entry xs c) →
        Like (cond b (capped x.1) (entry (map (λ (x : Channel × ℕ). (x.0, capped x.1)) xs) c)) (cond b x.1 (entry xs c))
    by true later = again x.1
    by false later = later

read_like : (xs : List ℕ) (i : ℕ) → Like (read 0 (map capped xs) i) (read 0 xs i)
read_like [] i = refl
read_like (x ∷ xs) zero = again x
read_like (x ∷ xs) (suc i) = read_like xs i

module _ (g : Graph) (t : Tables) where
  abbrev u : Tables
  u = capped_tables t

  node_like : (c : Channel) → Like (node_cost g u c) (node_cost g t c)
  node_like c = by (other_end g c)
    where
      by : (o : Option Channel) → Like (with_other u (entry u.channels c) o) (with_other t (entry t.channels c) o)
      by None = entry_like t.channels c
      by (Some other) =
          sum_like (entry u.channels c + entry u.channels other) (entry t.channels c + entry t.channels other) 1 1
          (sum_like (entry u.channels c) (entry t.channels c) (entry u.channels other) (entry t.channels other) (entry_like t.channels c) (entry_like t.channels other)) refl

  program_like : (q : ℕ) → Like (of_program u q) (of_program t q)
  program_like q = read_like t.programs q

  nodes_like : (cs : List Channel) → Like (total (node_cost g u) cs) (total (node_cost g t) cs)
  nodes_like cs = total_like (node_cost g u) (node_cost g t) cs node_like

  start_like : (i : Start) → Like (start_cost g u i) (start_cost g t i)
  start_like nothing = refl
  start_like (raises cs) = greatest_like (node_cost g u) (node_cost g t) cs node_like
  start_like (makes cs) = sum_like 1 1 (total (node_cost g u) cs) (total (node_cost g t) cs) refl (nodes_like cs)
  start_like (thaws css) = greatest_like (λ cs. total (node_cost g u) cs) (λ cs. total (node_cost g t) cs) css nodes_like

  starts_like : (starts : List Start) → Like (starts_cost g u starts) (starts_cost g t starts)
  starts_like starts =
      total_like (λ i. 1 + start_cost g u i) (λ i. 1 + start_cost g t i) starts (λ i. sum_like 1 1 (start_cost g u i) (start_cost g t i) refl (start_like i))

  stretch_like : (s : Stretch) → Like (stretch_cost g u s) (stretch_cost g t s)
  stretch_like s =
      sum_like (passes_cost g u s.passes s) (passes_cost g t s.passes s) (starts_cost g u (only_last s.starts)) (starts_cost g t (only_last s.starts))
      (times_like s.passes (starts_cost g u (before_last s.starts)) (starts_cost g t (before_last s.starts)) (starts_like (before_last s.starts)))
      (starts_like (only_last s.starts))

  paths_like : (n : ℕ) (stretches : List Stretch) (i : ℕ) → Like (read 0 (path_costs g u n stretches) i) (read 0 (path_costs g t n stretches) i)
  paths_like n [] i = refl
  paths_like n (s ∷ more) zero =
      sum_like (stretch_cost g u s) (stretch_cost g t s) (greatest (λ to. read 0 (path_costs g u (suc n) more) (to - suc n)) s.next)
      (greatest (λ to. read 0 (path_costs g t (suc n) more) (to - suc n)) s.next) (stretch_like s)
      (greatest_like (λ to. read 0 (path_costs g u (suc n) more) (to - suc n)) (λ to. read 0 (path_costs g t (suc n) more) (to - suc n)) s.next
      (λ to. paths_like (suc n) more (to - suc n)))
  paths_like n (s ∷ more) (suc i) = paths_like (suc n) more i

  programs_like : (qs : List ℕ) → Like (programs_cost u qs) (programs_cost t qs)
  programs_like qs = total_like (of_program u) (of_program t) qs program_like

  targets_like : (cs : List Channel) → Like (targets_cost g u cs) (targets_cost g t cs)
  targets_like cs = total_like (λ c. 1 + node_cost g u c) (λ c. 1 + node_cost g t c) cs (λ c. sum_like 1 1 (node_cost g u c) (node_cost g t c) refl (node_like c))

  emission_like : (r : Raised) → Like (emission_cost g u r) (emission_cost g t r)
  emission_like r =
      let class = times_like r.stages (programs_cost u r.class_handler) (programs_cost t r.class_handler) (programs_like r.class_handler) in
      let own = programs_like r.handlers in
      let most = times_like g.most_handlers (greatest (of_program u) r.connectable) (greatest (of_program t) r.connectable) (greatest_like (of_program u) (of_program t) r.connectable program_like) in
      let targets = targets_like r.targets in
      omega (arith, class, own, most, targets)

  at_like : (r : Raised) (c : Channel) → Like (cost_at g u r c) (cost_at g t r c)
  at_like r (constructed place) = programs_like r.handlers
  at_like r (property place slot) = emission_like r
  at_like r (signal place number) = emission_like r

  cost_like : (e : Entry) → Like (cost g u e) (cost g t e)
  cost_like entries.build =
      let made = total_like (making_cost g u) (making_cost g t) g.built (λ cs. nodes_like cs) in
      let forwards = nodes_like g.forwards in
      let created = targets_like g.created in
      omega (arith, made, forwards, created)
  cost_like (entries.at c) = node_like c
  cost_like (entries.source program) = program_like program
  cost_like entries.plain = refl

pub costs_capped : CostsCapped
costs_capped g t = (
  λ r. at_like g t r r.channel,
  λ stretches. paths_like g t 0 stretches 0,
  λ e low. (let like = cost_like g t e in omega (arith, like, low)),
  λ e low. (let like = cost_like g t e in omega (arith, like, low)),
)
