-- Where there are no ranks there is a cycle: a chain of edges that is longer than the nodes that lead on comes back to one of them.
use Rattle.std.proofs.Common.{◌≡◌, inl, inr, ◌⊎◌, refl, sym, ap, subst, ◌∙◌, ℕ, zero, suc, ◌<◌, Bool, true, false, List, [], ◌∷◌, length, map, None, arith}
use Rattle.std.specs.Prelude.{eqb, ◌≢◌, nat_eq, ◌&&◌}
use Rattle.std.specs.List.{filter}
use Rattle.std.proofs.lemmas.Bool.{eq-eqb, and_from, and_cases}
use Rattle.std.proofs.lemmas.Bool.Decides.{eqb_tells}
use Rattle.law_typing.specs.Graph.Channels.{Channel, same_channel, Cause, Link}
use Rattle.law_typing.specs.Graph.Channels as causes
use Rattle.law_typing.specs.Graph.{Graph}
use Rattle.law_typing.specs.Graph.Tables.{Table, entry, greatest, same_table, goes_on, settled}
use Rattle.law_typing.specs.Graph.Ranks.{Arrow, arrows, nodes, leads, above, rank_by, ranked, same_cause, is_edge, leads_to, is_cycle_of}
use Rattle.law_typing.specs.Laws.{IsIn, UnrankedHasCycle}
use Rattle.law_typing.proofs.Lists.{same_channel_true, same_channel_refl, any_true, filter_in, each_in, entry_of}
use Rattle.law_typing.proofs.RankProofs.{begins}
use Rattle.law_typing.proofs.OneSolutionProofs.{filtered_kept}
use Rattle.law_typing.proofs.SettlesProofs.{Without, without, attained}

-- ** what changes

-- where greatest numbers differ, something differs
changed : {A : Type 0} (f h : A → ℕ) (xs : List A) → greatest (λ x. suc (f x)) xs ≢ greatest (λ x. suc (h x)) xs → (x : A) × IsIn x xs × (f x ≢ h x)
changed f h [] ne = absurd (ne refl)
changed {A} f h (x ∷ xs) ne = by (eqb_tells (f x) (h x)) (changed f h xs)
  where
    later : ((y : A) × IsIn y xs × (f y ≢ h y)) → (y : A) × IsIn y (x ∷ xs) × (f y ≢ h y)
    later k = (k.0, inr k.1, k.2)

    rest : f x ≡ h x → greatest (λ x. suc (f x)) xs ≢ greatest (λ x. suc (h x)) xs
    rest s e = ne (let a = ap suc s in cc)

    by : ((eqb (f x) (h x) ≡ true) × (f x ≡ h x)) ⊎ ((eqb (f x) (h x) ≡ false) × (f x ≢ h x)) →
        (greatest (λ x. suc (f x)) xs ≢ greatest (λ x. suc (h x)) xs → (y : A) × IsIn y xs × (f y ≢ h y)) → (y : A) × IsIn y (x ∷ xs) × (f y ≢ h y)
    by (inl k) more = later (more (rest k.1))
    by (inr k) more = (x, inl refl, k.1)

-- where two tables of the same channels differ, a channel's numbers do
differs : (f h : Channel → ℕ) (ns : List Channel) → same_table (map (λ n. (n, f n)) ns) (map (λ n. (n, h n)) ns) ≡ false → (n : Channel) × IsIn n ns × (f n ≢ h n)
differs f h [] e = absurd (cc)
differs f h (n ∷ ns) e = by (and_cases (nat_eq (f n) (h n)) (same_table (map (λ n. (n, f n)) ns) (map (λ n. (n, h n)) ns)) e) (differs f h ns)
  where
    later : ((m : Channel) × IsIn m ns × (f m ≢ h m)) → (m : Channel) × IsIn m (n ∷ ns) × (f m ≢ h m)
    later k = (k.0, inr k.1, k.2)

    unequal : nat_eq (f n) (h n) ≡ false → f n ≢ h n
    unequal b s = let t = eq-eqb (f n) (h n) s in cc

    by : (nat_eq (f n) (h n) ≡ false) ⊎ (same_table (map (λ n. (n, f n)) ns) (map (λ n. (n, h n)) ns) ≡ false) →
        (same_table (map (λ n. (n, f n)) ns) (map (λ n. (n, h n)) ns) ≡ false → (m : Channel) × IsIn m ns × (f m ≢ h m)) → (m : Channel) × IsIn m (n ∷ ns) × (f m ≢ h m)
    by (inl b) more = (n, inl refl, unequal b)
    by (inr b) more = later (more b)

-- ** chains

-- edges that follow each other backwards from a channel
abbrev Chain : List Arrow → Channel → List Arrow → Type 0
Chain edges c [] = Unit {0}
Chain edges c (a ∷ more) = IsIn a edges × (a.to ≡ c) × Chain edges a.from more

-- so many goes on
abbrev gone : ℕ → (Table → Table) → Table → Table
gone zero next t = t
gone (suc n) next t = gone n next (next t)

gone_next : (n : ℕ) (next : Table → Table) (t : Table) → gone n next (next t) ≡ next (gone n next t)
gone_next zero next t = refl
gone_next (suc n) next t = gone_next n next (next t)

-- where going on does not end, the last go still changes something
last_changes : (n : ℕ) (next : Table → Table) (t : Table) → settled same_table (suc n) next t ≡ None → same_table (gone n next t) (next (gone n next t)) ≡ false
last_changes zero next t e = by (same_table t (next t)) refl e
  where
    by : (b : Bool) → same_table t (next t) ≡ b → goes_on b (settled same_table zero next) (next t) ≡ None → same_table t (next t) ≡ false
    by true s f = absurd (cc)
    by false s f = s
last_changes (suc n) next t e = by (same_table t (next t)) e (last_changes n next (next t))
  where
    by : (b : Bool) → goes_on b (settled same_table (suc n) next) (next t) ≡ None →
        (settled same_table (suc n) next (next t) ≡ None → same_table (gone n next (next t)) (next (gone n next (next t))) ≡ false) →
        same_table (gone n next (next t)) (next (gone n next (next t))) ≡ false
    by true f more = absurd (cc)
    by false f more = more f

module _ (g : Graph) where
  abbrev go : Table → Table
  go t = ranked (arrows g) (nodes g) t

  -- before the first go, and after so many
  abbrev first : Table
  first = map (λ n. (n, 0)) (nodes g)

  abbrev after : ℕ → Table
  after k = gone k go first

  after_next : (k : ℕ) → after (suc k) ≡ go (after k)
  after_next k = gone_next k go first

  entry_next : (k : ℕ) (n : Channel) → IsIn n (nodes g) → entry (after (suc k)) n ≡ rank_by (arrows g) (after k) n
  entry_next k n there = ap (λ t. entry t n) (after_next k) ∙ entry_of (rank_by (arrows g) (after k)) (nodes g) n there

  abbrev to : Channel → List Arrow
  to n = filter (λ (a : Arrow). same_channel a.to n) (arrows g)

  -- what a go changes has a chain in front of it as long as the goes
  record Walk (n : Channel) (edges : ℕ) : Type 0 where
    pub chain : List Arrow
    pub long : length chain ≡ edges
    pub is : Chain (arrows g) n chain

  one_more : (n : Channel) (edges : ℕ) (a : Arrow) → IsIn a (to n) → Walk a.from edges → Walk n (suc edges)
  one_more n edges a h w =
      let k = filtered_kept (λ (a : Arrow). same_channel a.to n) (arrows g) a h in
      let l = w.long in
      record { chain = a ∷ w.chain; long = omega (arith, l); is = (k.1, same_channel_true a.to n k.0, w.is) }

  walk : (k : ℕ) (n : Channel) → IsIn n (nodes g) → entry (after (suc k)) n ≢ entry (after k) n → Walk n (suc k)
  walk zero n there ne = by (rank_by (arrows g) first n) refl
    where
      zero_first : entry first n ≡ 0
      zero_first = entry_of (λ n. 0) (nodes g) n there

      by : (m : ℕ) → rank_by (arrows g) first n ≡ m → Walk n 1
      by zero e = absurd (ne (entry_next zero n there ∙ (e ∙ sym zero_first)))
      by (suc m) e =
          let a = attained (above first) (to n) m e in
          one_more n 0 a.0 a.1 (record { chain = []; long = refl; is = tt })
  walk (suc k) n there ne =
      let a =
      changed (λ (a : Arrow). entry (after (suc k)) a.from) (λ (a : Arrow). entry (after k) a.from) (to n)
      (λ e. ne (entry_next (suc k) n there ∙ (e ∙ sym (entry_next k n there)))) in
      let edge = filtered_kept (λ (a : Arrow). same_channel a.to n) (arrows g) a.0 a.1 in
      one_more n (suc k) a.0 a.1 (walk k a.0.from (each_in (λ (b : Arrow). IsIn b.from (nodes g)) (arrows g) (begins g) a.0 edge.1) a.2)

-- ** chains that come back

-- one of these edges begins at the channel
abbrev FromIn : Channel → List Arrow → Type 0
FromIn c [] = ⊥
FromIn c (a ∷ more) = (a.from ≡ c) ⊎ FromIn c more

-- two of these edges begin at one channel
abbrev Repeats : List Arrow → Type 0
Repeats [] = ⊥
Repeats (a ∷ more) = FromIn a.from more ⊎ Repeats more

differ : (c e : Channel) → same_channel c e ≡ false → c ≢ e
differ c e b s = let r = same_channel_refl c in let t = ap (same_channel c) s in cc

sought : (c : Channel) (chain : List Arrow) → FromIn c chain ⊎ ((a : Arrow) → IsIn a chain → a.from ≢ c)
sought c [] = inr (λ a h. absurd h)
sought c (a ∷ more) = by (same_channel a.from c) refl (sought c more)
  where
    none : (b : Arrow) → a.from ≢ c → ((b : Arrow) → IsIn b more → b.from ≢ c) → (b ≡ a) ⊎ IsIn b more → b.from ≢ c
    none b ne rest (inl s) e = ne (sym (ap (λ (x : Arrow). x.from) s) ∙ e)
    none b ne rest (inr h) e = rest b h e

    later : a.from ≢ c → FromIn c more ⊎ ((b : Arrow) → IsIn b more → b.from ≢ c) → FromIn c (a ∷ more) ⊎ ((b : Arrow) → IsIn b (a ∷ more) → b.from ≢ c)
    later ne (inl h) = inl (inr h)
    later ne (inr rest) = inr (λ b h. none b ne rest h)

    by : (b : Bool) → same_channel a.from c ≡ b → FromIn c more ⊎ ((b : Arrow) → IsIn b more → b.from ≢ c) → FromIn c (a ∷ more) ⊎ ((b : Arrow) → IsIn b (a ∷ more) → b.from ≢ c)
    by true e rest = inl (inl (same_channel_true a.from c e))
    by false e rest = later (differ a.from c e) rest

-- more edges than the channels that they begin at
pigeon : (xs : List Channel) (chain : List Arrow) → ((a : Arrow) → IsIn a chain → IsIn a.from xs) → length xs < length chain → Repeats chain
pigeon xs [] all long = absurd (omega (arith, long))
pigeon xs (a ∷ more) all long = by (sought a.from more) (without a.from xs (all a (inl refl))) (λ ys. pigeon ys more)
  where
    left : (w : Without a.from xs) (b : Arrow) → b.from ≢ a.from → (b.from ≡ a.from) ⊎ IsIn b.from w.rest → IsIn b.from w.rest
    left w b ne (inl s) = absurd (ne s)
    left w b ne (inr h) = h

    by : FromIn a.from more ⊎ ((b : Arrow) → IsIn b more → b.from ≢ a.from) → (w : Without a.from xs) →
        ((ys : List Channel) → ((b : Arrow) → IsIn b more → IsIn b.from ys) → length ys < length more → Repeats more) → Repeats (a ∷ more)
    by (inl h) w again = inl h
    by (inr none) w again =
        let s = w.shorter in
        inr (again w.rest (λ b h. left w b (none b h) (w.kept b.from (all b (inr h)))) (omega (arith, long, s)))

-- ** cycles

same_cause_refl : (c : Cause) → same_cause c c ≡ true
same_cause_refl (causes.program n) = eq-eqb n n refl
same_cause_refl causes.binding = refl

edge_is : (edges : List Arrow) (a : Arrow) (k : Channel) → IsIn a edges → a.to ≡ k → is_edge edges a.from a.by k ≡ true
edge_is edges a k h e =
    any_true (λ (b : Arrow). same_channel b.from a.from && (same_cause b.by a.by && same_channel b.to k)) edges a h
    (and_from (same_channel a.from a.from) (same_cause a.by a.by && same_channel a.to k) (same_channel_refl a.from)
    (and_from (same_cause a.by a.by) (same_channel a.to k) (same_cause_refl a.by) (subst (λ x. same_channel a.to x ≡ true) e (same_channel_refl a.to))))

-- these links lead from a channel to the goal
abbrev Leads : List Arrow → Channel → Channel → List Link → Type 0
Leads edges goal c [] = c ≡ goal
Leads edges goal c (l ∷ ls) = (l.from ≡ c) × (leads_to edges goal (l ∷ ls) ≡ true)

-- one link more in front
linked : (edges : List Arrow) (goal c : Channel) (a : Arrow) (ls : List Link) → IsIn a edges → a.to ≡ c → Leads edges goal c ls →
    leads_to edges goal (record { from = a.from; by = a.by } ∷ ls) ≡ true
linked edges goal c a [] h e lead = edge_is edges a goal h (e ∙ lead)
linked edges goal c a (l ∷ ls) h e lead =
    and_from (is_edge edges a.from a.by l.from) (leads_to edges goal (l ∷ ls)) (edge_is edges a l.from h (e ∙ sym lead.0)) lead.1

-- a chain that begins again at the goal is a cycle
closed : (edges : List Arrow) (goal c : Channel) (ls : List Link) (chain : List Arrow) → Chain edges c chain → Leads edges goal c ls → FromIn goal chain →
    (links : List Link) × (is_cycle_of edges links ≡ true)
closed edges goal c ls [] is lead h = absurd h
closed edges goal c ls (a ∷ more) is lead (inl s) = (
  record { from = a.from; by = a.by } ∷ ls,
  subst (λ x. leads_to edges x (record { from = a.from; by = a.by } ∷ ls) ≡ true) (sym s) (linked edges goal c a ls is.0 is.1 lead),
)
closed edges goal c ls (a ∷ more) is lead (inr h) =
    closed edges goal a.from (record { from = a.from; by = a.by } ∷ ls) more is.2 (refl, linked edges goal c a ls is.0 is.1 lead) h

repeated : (edges : List Arrow) (c : Channel) (chain : List Arrow) → Chain edges c chain → Repeats chain → (links : List Link) × (is_cycle_of edges links ≡ true)
repeated edges c [] is r = absurd r
repeated edges c (a ∷ more) is (inl h) = closed edges a.from a.from [] more is.2 refl h
repeated edges c (a ∷ more) is (inr r) = repeated edges a.from more is.2 r

chain_in : (edges : List Arrow) (c : Channel) (chain : List Arrow) → Chain edges c chain → (a : Arrow) → IsIn a chain → IsIn a edges
chain_in edges c [] is a h = absurd h
chain_in edges c (b ∷ more) is a (inl s) = subst (λ x. IsIn x edges) (sym s) is.0
chain_in edges c (b ∷ more) is a (inr h) = chain_in edges b.from more is.2 a h

-- ** without ranks

-- the tables after some goes are of the nodes
record Aligned (g : Graph) (t : Table) : Type 0 where
  pub number : Channel → ℕ
  pub is : t ≡ map (λ n. (n, number n)) (nodes g)

aligned : (g : Graph) (k : ℕ) → Aligned g (after g k)
aligned g zero = record { number = λ n. 0; is = refl }
aligned g (suc k) = record { number = rank_by (arrows g) (after g k); is = after_next g k }

pub unranked_has_cycle : UnrankedHasCycle
unranked_has_cycle g none =
    let leading = filter (leads (arrows g)) (nodes g) in
    let n = length leading in
    let last = last_changes n (go g) (first g) none in
    let al = aligned g n in
    let d =
    differs al.number (rank_by (arrows g) (after g n)) (nodes g)
    (subst (λ t. same_table t (go g (after g n)) ≡ false) al.is last) in
    let here : al.number d.0 ≡ entry (after g n) d.0 = sym (ap (λ t. entry t d.0) al.is ∙ entry_of al.number (nodes g) d.0 d.1) in
    let w = walk g n d.0 d.1 (λ e. d.2 (here ∙ (sym e ∙ entry_next g n d.0 d.1))) in
    let long = w.long in
    let starts : (a : Arrow) → IsIn a w.chain → IsIn a.from leading =
    λ a h.
    let edge = chain_in (arrows g) d.0 w.chain w.is a h in
    filter_in (leads (arrows g)) (nodes g) a.from (any_true (λ (b : Arrow). same_channel b.from a.from) (arrows g) a edge (same_channel_refl a.from))
    (each_in (λ (b : Arrow). IsIn b.from (nodes g)) (arrows g) (begins g) a edge) in
    repeated (arrows g) d.0 w.chain w.is (pigeon leading w.chain starts (omega (arith, long)))
