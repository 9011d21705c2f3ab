-- Edges that are added one after the other.
use Rattle.std.proofs.Common.{◌≡◌, refl, sym, ap, ◌∙◌, ℕ, zero, suc, ◌+◌, ◌-◌, ◌<◌, ◌≤◌, Bool, true, false, cond, nat_lt, List, [], ◌∷◌, ◌++◌, length, map, drop, slice_index_or, length-append, append_assoc, append-nil, arith}
use Rattle.ui_machine.specs.Seq.{listed}
use Rattle.verify_sketches.specs.Pointwise.{inside}
use Rattle.verify_numbers.proofs.Lists.{from_number}
use Rattle.verify_order.specs.Kept.{with_last}
use Rattle.verify_order.specs.declared.rules.Rule.{Rule}
use Rattle.verify_sketches.specs.Numbered.{Node}
use Rattle.verify_numbers.specs.Columns.{Columns, grown, linked, with_node, with_row}

-- one edge
pub grown_one : (g : List (List ℕ)) (x : ℕ) → with_last g x ≡ grown g (x ∷ [])
grown_one [] x = refl
grown_one (xs ∷ []) x = refl
grown_one (xs ∷ ys ∷ more) x = ap (λ zs. xs ∷ zs) (grown_one (ys ∷ more) x)

-- none
pub grown_none : (g : List (List ℕ)) → grown g [] ≡ g
grown_none [] = refl
grown_none (xs ∷ []) = ap (λ zs. zs ∷ []) (append-nil xs)
grown_none (xs ∷ ys ∷ more) = ap (λ zs. xs ∷ zs) (grown_none (ys ∷ more))

-- some and then others
pub grown_twice : (g : List (List ℕ)) (es fs : List ℕ) → grown (grown g es) fs ≡ grown g (es ++ fs)
grown_twice [] es fs = refl
grown_twice (xs ∷ []) es fs = ap (λ zs. zs ∷ []) (append_assoc xs es fs)
grown_twice (xs ∷ ys ∷ []) es fs = ap (λ zs. xs ∷ zs) (grown_twice (ys ∷ []) es fs)
grown_twice (xs ∷ ys ∷ zs ∷ more) es fs = ap (λ us. xs ∷ us) (grown_twice (ys ∷ zs ∷ more) es fs)

-- of a node that was just added
pub grown_last : (g : List (List ℕ)) (es fs : List ℕ) → grown (g ++ es ∷ []) fs ≡ g ++ (es ++ fs) ∷ []
grown_last [] es fs = refl
grown_last (xs ∷ []) es fs = refl
grown_last (xs ∷ ys ∷ more) es fs = ap (λ zs. xs ∷ zs) (grown_last (ys ∷ more) es fs)

-- there are as many nodes
pub grown_length : (g : List (List ℕ)) (es : List ℕ) → length (grown g es) ≡ length g
grown_length [] es = refl
grown_length (xs ∷ []) es = refl
grown_length (xs ∷ ys ∷ more) es = ap suc (grown_length (ys ∷ more) es)

-- ** columns

pub linked_none : (c : Columns) → linked c [] ≡ c
linked_none c = ap (λ g. record c { graph = g }) (grown_none c.graph)

pub linked_twice : (c : Columns) (es fs : List ℕ) → linked (linked c es) fs ≡ linked c (es ++ fs)
linked_twice c es fs = ap (λ g. record c { graph = g }) (grown_twice c.graph es fs)

pub linked_last : (c : Columns) (y : Node) (es : List ℕ) →
    linked (with_row c es y.cost y.depth y.counts) y.edges ≡ with_row c (es ++ y.edges) y.cost y.depth y.counts
linked_last c y es = ap (λ g. record (with_row c es y.cost y.depth y.counts) { graph = g }) (grown_last c.graph es y.edges)

-- a node with its edges
pub is_with_node : (c d e : Columns) (y : Node) → d ≡ with_row c [] y.cost y.depth y.counts → e ≡ linked d y.edges → e ≡ with_node c y
is_with_node c d e y added is = is ∙ (ap (λ x. linked x y.edges) added ∙ linked_last c y [])

-- there is a node
pub there_is : (c d : Columns) (es : List ℕ) → d ≡ linked c es → 0 < length c.graph → 0 < length d.graph
there_is c d es is some =
    let l = grown_length c.graph es in
    let e = ap (λ x. length x.graph) is in
    omega (arith, l, e, some)

-- ** one after the other

-- some edges, and then those that are left
pub goes_on : (c d : Columns) (es fs whole : List ℕ) (w : Columns) → d ≡ linked c es → whole ≡ es ++ fs → linked c whole ≡ w → linked d fs ≡ w
goes_on c d es fs whole w is parts known = ap (λ x. linked x fs) is ∙ (linked_twice c es fs ∙ (ap (linked c) (sym parts) ∙ known))

-- nothing is left
pub all_linked : (c w : Columns) (rest : List ℕ) → rest ≡ [] → linked c rest ≡ w → c ≡ w
all_linked c w rest none known = sym (linked_none c) ∙ (ap (linked c) (sym none) ∙ known)

-- of those that are there
pub first_inside : (f : ℕ → ℕ) (count n : ℕ) (xs : List ℕ) →
    map f (inside count (n ∷ xs)) ≡ cond (nat_lt n count) (f n ∷ []) [] ++ map f (inside count xs)
first_inside f count n xs = by (nat_lt n count)
  where
    by : (b : Bool) → map f (cond b (n ∷ inside count xs) (inside count xs)) ≡ cond b (f n ∷ []) [] ++ map f (inside count xs)
    by true = refl
    by false = refl

pub next_inside : (f : ℕ → ℕ) (count n : ℕ) (xs : List ℕ) → n < length xs →
    map f (inside count (drop n xs))
    ≡ cond (nat_lt (slice_index_or xs n 0) count) (f (slice_index_or xs n 0) ∷ []) [] ++ map f (inside count (drop (n + 1) xs))
next_inside f count n xs within =
    ap (λ ys. map f (inside count ys)) (from_number xs n within) ∙ first_inside f count (slice_index_or xs n 0) (drop (n + 1) xs)

-- of numbers that are seen otherwise first
pub next_seen : (f g : ℕ → ℕ) (count n : ℕ) (xs : List ℕ) → n < length xs →
    map f (inside count (map g (drop n xs)))
    ≡ cond (nat_lt (g (slice_index_or xs n 0)) count) (f (g (slice_index_or xs n 0)) ∷ []) [] ++ map f (inside count (map g (drop (n + 1) xs)))
next_seen f g count n xs within =
    ap (λ ys. map f (inside count (map g ys))) (from_number xs n within)
    ∙ first_inside f count (g (slice_index_or xs n 0)) (map g (drop (n + 1) xs))

pub next_mapped : (f : ℕ → ℕ) (n : ℕ) (xs : List ℕ) → n < length xs → map f (drop n xs) ≡ (f (slice_index_or xs n 0) ∷ []) ++ map f (drop (n + 1) xs)
next_mapped f n xs within = ap (map f) (from_number xs n within)

-- of the numbers from one on
pub next_listed : (f : ℕ → ℕ) (from count : ℕ) → from < count → listed (λ i. f (from + i)) (count - from) ≡ (f from ∷ []) ++ listed (λ i. f (from + 1 + i)) (count - (from + 1))
next_listed f from count within =
    let e : count - from ≡ suc (count - (from + 1)) = omega (arith, within) in
    ap (listed (λ i. f (from + i))) e ∙ ap2 f (count - (from + 1))
  where
    same : (g h : ℕ → ℕ) (n : ℕ) → ((i : ℕ) → g i ≡ h i) → listed g n ≡ listed h n
    same g h zero is = refl
    same g h (suc n) is = ap (λ x. x ∷ listed (λ i. g (suc i)) n) (is 0) ∙ ap (λ xs. h 0 ∷ xs) (same (λ i. g (suc i)) (λ i. h (suc i)) n (λ i. is (suc i)))

    ap2 : (f : ℕ → ℕ) (n : ℕ) → f (from + 0) ∷ listed (λ i. f (from + suc i)) n ≡ f from ∷ listed (λ i. f (from + 1 + i)) n
    ap2 f n =
        ap (λ x. f x ∷ listed (λ i. f (from + suc i)) n) (omega arith)
        ∙ ap (λ xs. f from ∷ xs) (same (λ i. f (from + suc i)) (λ i. f (from + 1 + i)) n (λ i. ap f (omega arith)))

pub none_listed : (f : ℕ → ℕ) (from count : ℕ) → count ≤ from → listed (λ i. f (from + i)) (count - from) ≡ []
none_listed f from count behind = let e : count - from ≡ 0 = omega (arith, behind) in ap (listed (λ i. f (from + i))) e

same_listed : (g h : ℕ → ℕ) (n : ℕ) → ((i : ℕ) → g i ≡ h i) → listed g n ≡ listed h n
same_listed g h zero is = refl
same_listed g h (suc n) is =
    ap (λ x. x ∷ listed (λ i. g (suc i)) n) (is 0) ∙ ap (λ xs. h 0 ∷ xs) (same_listed (λ i. g (suc i)) (λ i. h (suc i)) n (λ i. is (suc i)))

pub listed_all : (f : ℕ → ℕ) (count : ℕ) → listed (λ i. f (0 + i)) (count - 0) ≡ listed f count
listed_all f count =
    same_listed (λ i. f (0 + i)) f (count - 0) (λ i. ap f (omega arith)) ∙ ap (listed f) (omega arith)

-- ** nodes

-- one after the other
pub then_linked : (c d e : Columns) (es fs : List ℕ) → d ≡ linked c es → e ≡ linked d fs → e ≡ linked c (es ++ fs)
then_linked c d e es fs first second = second ∙ (ap (λ x. linked x fs) first ∙ linked_twice c es fs)

-- a node was added
pub added_there : (c d : Columns) (cost depth : Rule) (counts : Bool) → d ≡ with_row c [] cost depth counts → 0 < length d.graph
added_there c d cost depth counts is =
    let e = ap (λ x. length x.graph) is in
    let l = length-append c.graph ([] ∷ []) in
    omega (arith, e, l)

-- a node with its rules and its edges
pub built : (c d e : Columns) (y : Node) (cost depth : Rule) (es : List ℕ) → d ≡ with_row c [] cost depth y.counts → cost ≡ y.cost → depth ≡ y.depth →
    e ≡ linked d es → es ≡ y.edges → e ≡ with_node c y
built c d e y cost depth es added same_cost same_depth is edges =
    is
    ∙ (ap (linked d) edges
    ∙ (ap (λ x. linked x y.edges) (added ∙ (ap (λ r. with_row c [] r depth y.counts) same_cost ∙ ap (λ r. with_row c [] y.cost r y.counts) same_depth))
    ∙ linked_last c y []))

-- and one without edges
pub built_alone : (c d : Columns) (y : Node) (cost depth : Rule) → d ≡ with_row c [] cost depth y.counts → cost ≡ y.cost → depth ≡ y.depth →
    [] ≡ y.edges → d ≡ with_node c y
built_alone c d y cost depth added same_cost same_depth edges = built c d d y cost depth [] added same_cost same_depth (sym (linked_none d)) edges
