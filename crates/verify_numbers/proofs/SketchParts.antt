-- The parts of a sketch and their nodes.
use Rattle.std.proofs.Common.{◌≡◌, inl, inr, ◌⊎◌, refl, sym, ap, subst, ◌∙◌, ℕ, zero, suc, ◌+◌, ◌≤◌, min, max, Bool, true, false, cond, List, [], ◌∷◌, ◌++◌, length, map, Option, None, Some, slice_get, arith}
use Rattle.std.specs.List.{flat_map, list_any}
use Rattle.std.specs.Prelude.{nat_lt}
use Rattle.std.proofs.lemmas.Bool.{eq-eqb, ltb-true, ltb-false}
use Rattle.ui_machine.specs.Seq.{read}
use Rattle.ui_machine.specs.Seq as seq
use Rattle.law_typing.specs.Graph.Channels.{Channel, same_channel}
use Rattle.law_typing.specs.Graph.{Graph, Raised}
use Rattle.law_typing.specs.Graph.Tables.{entry, greatest}
use Rattle.law_typing.specs.Graph.Costs.{before_last, only_last}
use Rattle.law_typing.specs.Laws.{IsIn}
use Rattle.law_typing.proofs.Lists.{same_channel_true, same_channel_refl, greatest_in}
use Rattle.verify_order.specs.declared.rules.Rule.{Rule}
use Rattle.verify_order.specs.Numbers.{Solves, number_by, of_node}
use Rattle.verify_order.specs.Numbers as numbers
use Rattle.verify_sketches.specs.Pointwise.{Pointwise}
use Rattle.verify_sketches.specs.Sketches.{IsSketch, IsSketchedBlock, IsSketchedChannel, Names, Sketch, SketchedChannel}
use Rattle.verify_sketches.specs.Numbered.{IsNumbered, IsPart, Node, Part, own, program, whole, edges_in, end_of, frames_of, greatest_of, of_whole, programs_of, sum_of, transfer_if}
use Rattle.verify_numbers.specs.Tables.{program_values, table_from}
use Rattle.verify_numbers.proofs.SketchLists.{Like, at_first, at_second, get_map, inside_greatest, inside_sum, itself, length_listed, map_get, read_listed, read_past, same_length}

-- ** the numbers of nodes

module _ (rule : Node → Rule) (cap : ℕ) (s : Sketch) (at : Part → ℕ) (handlers : ℕ) (nodes : List Node) (values : List ℕ)
    (numbered : IsNumbered s at handlers nodes) (solves : Solves (map rule nodes) cap (edges_in nodes) values) where
  -- a part's number is what its rule makes of those of its edges
  pub value_is : (x : Part) (y : Node) → IsPart s at handlers x y → of_node values (at x) ≡ number_by (rule y) cap (of_node values) y.edges
  value_is x y part =
      solves.each (at x) (rule y) y.edges (get_map rule nodes (at x) y (numbered.there x y part))
      (get_map (λ (y : Node). y.edges) nodes (at x) y (numbered.there x y part))

-- ** channels

-- what is known of the number of a channel
pub record IsChannelAt (g : Graph) (s : Sketch) (n : ℕ) (k : SketchedChannel) (r : Raised) : Type 0 where
  pub sketched : slice_get s.channels n ≡ Some k
  pub raised : slice_get g.raised n ≡ Some r
  pub is : IsSketchedChannel g s.groups k r

pub named : (g : Graph) (s : Sketch) → IsSketch g s → (n : ℕ) (c : Channel) → Names g n c →
    (k : SketchedChannel) × (r : Raised) × (IsChannelAt g s n k r) × (r.channel ≡ c)
named g s sketch n c e =
    let r = map_get (λ (r : Raised). r.channel) g.raised n c e in
    let k = at_second (IsSketchedChannel g s.groups) s.channels g.raised n r.0 sketch.channels r.1 in
    (k.0, r.0, record { sketched = k.1; raised = r.1; is = k.2 }, r.2)

pub raised_at : (g : Graph) (s : Sketch) → IsSketch g s → (n : ℕ) (r : Raised) → slice_get g.raised n ≡ Some r →
    (k : SketchedChannel) × IsChannelAt g s n k r
raised_at g s sketch n r e =
    let k = at_second (IsSketchedChannel g s.groups) s.channels g.raised n r sketch.channels e in
    (k.0, record { sketched = k.1; raised = e; is = k.2 })

pub sketched_at : (g : Graph) (s : Sketch) → IsSketch g s → (n : ℕ) (k : SketchedChannel) → slice_get s.channels n ≡ Some k →
    (r : Raised) × IsChannelAt g s n k r
sketched_at g s sketch n k e =
    let r = at_first (IsSketchedChannel g s.groups) s.channels g.raised n k sketch.channels e in
    (r.0, record { sketched = e; raised = r.1; is = r.2 })

-- the node of a channel that is the first of its pair, or in none
abbrev pub first_node : (Part → ℕ) → ℕ → Bool → Option ℕ → Bool → Node
first_node at n first other emits = record {
  part = whole n;
  edges = cond first (at (own n) ∷ end_of at other) [];
  cost = sum_of 1 (transfer_if other);
  depth = greatest_of 1 (frames_of emits other);
  counts = true;
}

module _ (g : Graph) (s : Sketch) (at : Part → ℕ) (handlers : ℕ) (sketch : IsSketch g s) where
  at_first_end : (n : ℕ) (k : SketchedChannel) → slice_get s.channels n ≡ Some k → k.first ≡ n →
      IsPart s at handlers (whole n) (first_node at n true k.other k.emits)
  at_first_end n k e f =
      subst (λ b. IsPart s at handlers (whole n) (first_node at n b k.other k.emits)) (eq-eqb k.first n f) (of_whole n k e)

  -- the node of a channel that is in no pair
  pub node_alone : (n : ℕ) (k : SketchedChannel) → slice_get s.channels n ≡ Some k → k.other ≡ None →
      (k.first ≡ n) × IsPart s at handlers (whole n) (first_node at n true None k.emits)
  node_alone n k e o =
      let f = (sketch.paired n k e).alone o in
      (f, subst (λ x. IsPart s at handlers (whole n) (first_node at n true x k.emits)) o (at_first_end n k e f))

  -- that of a pair is at the one end or the other
  pub node_both : (n o : ℕ) (k : SketchedChannel) → slice_get s.channels n ≡ Some k → k.other ≡ Some o →
      ((k.first ≡ n) × IsPart s at handlers (whole n) (first_node at n true (Some o) k.emits))
      ⊎ ((emits : Bool) × (k.first ≡ o) × IsPart s at handlers (whole o) (first_node at o true (Some n) emits))
  node_both n o k e is = go ((sketch.paired n k e).both o is)
    where
      here : k.first ≡ n → (k.first ≡ n) × IsPart s at handlers (whole n) (first_node at n true (Some o) k.emits)
      here f = (f, subst (λ x. IsPart s at handlers (whole n) (first_node at n true x k.emits)) is (at_first_end n k e f))

      there : (end : SketchedChannel) → slice_get s.channels o ≡ Some end → end.other ≡ Some n → end.first ≡ k.first → k.first ≡ o →
          (emits : Bool) × (k.first ≡ o) × IsPart s at handlers (whole o) (first_node at o true (Some n) emits)
      there end found back same f = (
        end.emits,
        f,
        subst (λ x. IsPart s at handlers (whole o) (first_node at o true x end.emits)) back (at_first_end o end found (same ∙ f)),
      )

      pick : (end : SketchedChannel) → slice_get s.channels o ≡ Some end → end.other ≡ Some n → end.first ≡ k.first →
          (k.first ≡ n) ⊎ (k.first ≡ o) →
          ((k.first ≡ n) × IsPart s at handlers (whole n) (first_node at n true (Some o) k.emits))
          ⊎ ((emits : Bool) × (k.first ≡ o) × IsPart s at handlers (whole o) (first_node at o true (Some n) emits))
      pick end found back same (inl f) = inl (here f)
      pick end found back same (inr f) = inr (there end found back same f)

      go : ((end : SketchedChannel) × (slice_get s.channels o ≡ Some end) × (end.other ≡ Some n) × (end.first ≡ k.first) × ((k.first ≡ n) ⊎ (k.first ≡ o))) →
          ((k.first ≡ n) × IsPart s at handlers (whole n) (first_node at n true (Some o) k.emits))
          ⊎ ((emits : Bool) × (k.first ≡ o) × IsPart s at handlers (whole o) (first_node at o true (Some n) emits))
      go x = pick x.0 x.1 x.2 x.3 x.4

-- ** tables by number

-- no channel is twice among some
abbrev pub Once : List Raised → Type 0
Once rs =
    (i j : ℕ) (c : Channel) → slice_get (map (λ (r : Raised). r.channel) rs) i ≡ Some c →
    slice_get (map (λ (r : Raised). r.channel) rs) j ≡ Some c → i ≡ j

once_after : (r : Raised) (rs : List Raised) → Once (r ∷ rs) → Once rs
once_after r rs once i j c p q = let e = once (suc i) (suc j) c p q in omega (arith, e)

-- the number that a table has for a channel
pub table_entry : (f : ℕ → ℕ) (n i : ℕ) (rs : List Raised) (c : Channel) → Once rs →
    slice_get (map (λ (r : Raised). r.channel) rs) i ≡ Some c →
    entry (table_from f n rs) c ≡ f (n + i)
table_entry f n i [] c once e = absurd (cc)
table_entry f n zero (r ∷ rs) c once e =
    let is : r.channel ≡ c = cc in
    let same : same_channel r.channel c ≡ true = subst (λ x. same_channel r.channel x ≡ true) is (same_channel_refl r.channel) in
    let here : n ≡ n + 0 = omega arith in
    ap (λ b. cond b (f n) (entry (table_from f (suc n) rs) c)) same ∙ ap f here
table_entry f n (suc i) (r ∷ rs) c once e = by (same_channel r.channel c) refl (table_entry f (suc n) i rs c (once_after r rs once) e)
  where
    by : (b : Bool) → same_channel r.channel c ≡ b → entry (table_from f (suc n) rs) c ≡ f (suc n + i) →
        cond b (f n) (entry (table_from f (suc n) rs) c) ≡ f (n + suc i)
    by true is ih =
        let first : slice_get (map (λ (r : Raised). r.channel) (r ∷ rs)) 0 ≡ Some c = ap Some (same_channel_true r.channel c is) in
        let same = once 0 (suc i) c first e in
        absurd (omega (arith, same))
    by false is ih = let s : suc n + i ≡ n + suc i = omega arith in ih ∙ ap f s

-- one that is not raised has 0
pub table_none : (f : ℕ → ℕ) (n : ℕ) (rs : List Raised) (c : Channel) → list_any (λ (r : Raised). same_channel r.channel c) rs ≡ false →
    entry (table_from f n rs) c ≡ 0
table_none f n [] c none = refl
table_none f n (r ∷ rs) c none = by (same_channel r.channel c) refl none (table_none f (suc n) rs c)
  where
    by : (b : Bool) → same_channel r.channel c ≡ b →
        list_any (λ (r : Raised). same_channel r.channel c) (r ∷ rs) ≡ false →
        (list_any (λ (r : Raised). same_channel r.channel c) rs ≡ false → entry (table_from f (suc n) rs) c ≡ 0) →
        cond b (f n) (entry (table_from f (suc n) rs) c) ≡ 0
    by true is none ih = absurd (cc)
    by false is none ih = ih (let e = ap (λ b. cond b true (list_any (λ (r : Raised). same_channel r.channel c) rs)) is in cc)

-- ** blocks

module _ {A B : Type 0} (R : A → B → Type 0) where
  pub pointwise_before : (xs : List A) (ys : List B) → Pointwise R xs ys → Pointwise R (before_last xs) (before_last ys)
  pointwise_before [] [] h = tt
  pointwise_before [] (y ∷ ys) h = absurd h
  pointwise_before (x ∷ xs) [] h = absurd h
  pointwise_before (x ∷ []) (y ∷ []) h = tt
  pointwise_before (x ∷ []) (y ∷ w ∷ ys) h = absurd h.1
  pointwise_before (x ∷ z ∷ xs) (y ∷ []) h = absurd h.1
  pointwise_before (x ∷ z ∷ xs) (y ∷ w ∷ ys) h = (h.0, pointwise_before (z ∷ xs) (w ∷ ys) h.1)

  pub pointwise_last : (xs : List A) (ys : List B) → Pointwise R xs ys → Pointwise R (only_last xs) (only_last ys)
  pointwise_last [] [] h = tt
  pointwise_last [] (y ∷ ys) h = absurd h
  pointwise_last (x ∷ xs) [] h = absurd h
  pointwise_last (x ∷ []) (y ∷ []) h = h
  pointwise_last (x ∷ []) (y ∷ w ∷ ys) h = absurd h.1
  pointwise_last (x ∷ z ∷ xs) (y ∷ []) h = absurd h.1
  pointwise_last (x ∷ z ∷ xs) (y ∷ w ∷ ys) h = pointwise_last (z ∷ xs) (w ∷ ys) h.1

-- a list and what it is mapped to
pub mapped : (f : ℕ → ℕ) (xs : List ℕ) → Pointwise (λ (x y : ℕ). x ≡ f y) (map f xs) xs
mapped f [] = tt
mapped f (x ∷ xs) = (refl, mapped f xs)

-- ** the same programs

pub most_append : (f : ℕ → ℕ) (xs ys : List ℕ) → greatest f (xs ++ ys) ≡ max (greatest f xs) (greatest f ys)
most_append f [] ys = omega arith
most_append f (x ∷ xs) ys = let e = most_append f xs ys in omega (arith, e)

pub greatest_flat : (f : ℕ → ℕ) (h : ℕ → List ℕ) (xs : List ℕ) → greatest (λ x. greatest f (h x)) xs ≡ greatest f (flat_map h xs)
greatest_flat f h [] = refl
greatest_flat f h (x ∷ xs) =
    let e = greatest_flat f h xs in
    let a = most_append f (h x) (flat_map h xs) in
    omega (arith, e, a)

pub greatest_of_all : (f : ℕ → ℕ) (xs ys : List ℕ) → ((x : ℕ) → IsIn x xs → IsIn x ys) → greatest f xs ≤ greatest f ys
greatest_of_all f [] ys all = omega arith
greatest_of_all f (x ∷ xs) ys all =
    let h = greatest_in f ys x (all x (inl refl)) in
    let k = greatest_of_all f xs ys (λ z there. all z (inr there)) in
    omega (arith, h, k)

-- ** programs by number

module _ (g : Graph) (s : Sketch) (at : Part → ℕ) (values : List ℕ) (cap : ℕ) (sketch : IsSketch g s) where
  -- the number of a program, 0 where there is none
  abbrev pub number_of_program : ℕ → ℕ
  number_of_program p = read 0 (program_values g at values) p

  same_count : length s.programs ≡ length g.programs
  same_count = same_length (Pointwise (IsSketchedBlock g s)) s.programs g.programs sketch.programs

  is_there : (p q : ℕ) → p ≡ q → nat_lt p (length s.programs) ≡ true → Like cap (of_node values (at (program p))) (number_of_program q)
  is_there p q same b =
      let h = ltb-true p (length s.programs) b in
      let e = same_count in
      let k = read_listed (λ p. of_node values (at (program p))) (length g.programs) p (omega (arith, h, e)) in
      ap (λ n. min n cap) (sym k ∙ ap number_of_program same)

  is_not_there : (p q : ℕ) → p ≡ q → nat_lt p (length s.programs) ≡ false → number_of_program q ≡ 0
  is_not_there p q same b =
      let h = ltb-false p (length s.programs) b in
      let e = same_count in
      let l = length_listed (λ p. of_node values (at (program p))) (length g.programs) in
      ap number_of_program (sym same) ∙ read_past 0 (program_values g at values) p (omega (arith, h, e, l))

  pub sum_of_programs : (ps : List ℕ) → Like cap (numbers.total (of_node values) (programs_of s at ps)) (seq.total number_of_program ps)
  sum_of_programs ps =
      inside_sum (λ (x y : ℕ). x ≡ y) cap (of_node values) (λ p. at (program p)) number_of_program (length s.programs) is_there
      is_not_there ps ps (itself ps)

  pub most_of_programs : (ps : List ℕ) → Like cap (numbers.greatest (of_node values) (programs_of s at ps)) (greatest number_of_program ps)
  most_of_programs ps =
      inside_greatest (λ (x y : ℕ). x ≡ y) cap (of_node values) (λ p. at (program p)) number_of_program (length s.programs) is_there
      is_not_there ps ps (itself ps)
