-- Nodes that are added one after the other.
use Rattle.std.proofs.Common.{◌≡◌, refl, sym, ap, ◌∙◌, ℕ, suc, ◌+◌, List, [], ◌∷◌, ◌++◌, append_assoc, append-nil}
use Rattle.verify_sketches.specs.Sketches.{Sketch, SketchedBlock}
use Rattle.verify_sketches.specs.Numbered.{Node, edges_in, costs_in, depths_in, counts_in}
use Rattle.verify_numbers.specs.Columns.{Columns, no_columns, with_node, with_nodes}
use Rattle.verify_numbers.specs.Laid.{numbered, block_nodes_from, nodes_in_program}
use Rattle.verify_numbers.specs.declared.block_nodes.BlockPart.{BlockPart}
use Rattle.verify_numbers.proofs.Lists.{one_more}

-- one, and then those that are left
pub lays : {A : Type 0} → (c d : Columns) (f : ℕ → A → Node) (n : ℕ) (xs rest : List A) (x : A) (w : Columns) → d ≡ with_node c (f n x) →
    xs ≡ x ∷ rest → with_nodes c (numbered f n xs) ≡ w → with_nodes d (numbered f (n + 1) rest) ≡ w
lays c d f n xs rest x w is parts known =
    ap (λ m. with_nodes d (numbered f m rest)) (sym (one_more n))
    ∙ (ap (λ e. with_nodes e (numbered f (suc n) rest)) is ∙ (ap (λ ys. with_nodes c (numbered f n ys)) (sym parts) ∙ known))

-- nothing is left
pub all_laid : {A : Type 0} → (c : Columns) (f : ℕ → A → Node) (n : ℕ) (xs : List A) (w : Columns) → xs ≡ [] →
    with_nodes c (numbered f n xs) ≡ w → c ≡ w
all_laid c f n xs w none known = ap (λ ys. with_nodes c (numbered f n ys)) (sym none) ∙ known

-- some and then others
pub then_nodes : (c : Columns) (ys zs : List Node) → with_nodes (with_nodes c ys) zs ≡ with_nodes c (ys ++ zs)
then_nodes c [] zs = refl
then_nodes c (y ∷ ys) zs = then_nodes (with_node c y) ys zs

-- the blocks of one program, and then those of the others
pub lays_program : (s : Sketch) (part : BlockPart) (c d : Columns) (n : ℕ) (ps rest : List (List SketchedBlock)) (bs : List SketchedBlock) (w : Columns) →
    d ≡ with_nodes c (nodes_in_program s part n bs) → ps ≡ bs ∷ rest → with_nodes c (block_nodes_from s part n ps) ≡ w →
    with_nodes d (block_nodes_from s part (n + 1) rest) ≡ w
lays_program s part c d n ps rest bs w is parts known =
    ap (λ m. with_nodes d (block_nodes_from s part m rest)) (sym (one_more n))
    ∙ (ap (λ e. with_nodes e (block_nodes_from s part (suc n) rest)) is
    ∙ (then_nodes c (nodes_in_program s part n bs) (block_nodes_from s part (suc n) rest)
    ∙ (ap (λ qs. with_nodes c (block_nodes_from s part n qs)) (sym parts) ∙ known)))

-- ** all of them

-- what all nodes come to
abbrev pub columns_of : List Node → Columns
columns_of ys = record { graph = edges_in ys; costs = costs_in ys; depths = depths_in ys; counts = counts_in ys }

abbrev joined : Columns → Columns → Columns
joined c d = record { graph = c.graph ++ d.graph; costs = c.costs ++ d.costs; depths = c.depths ++ d.depths; counts = c.counts ++ d.counts }

joined_none : (c : Columns) → joined c (columns_of []) ≡ c
joined_none c =
    ap (λ x. record { graph = x; costs = c.costs ++ []; depths = c.depths ++ []; counts = c.counts ++ [] }) (append-nil c.graph)
    ∙ (ap (λ x. record { graph = c.graph; costs = x; depths = c.depths ++ []; counts = c.counts ++ [] }) (append-nil c.costs)
    ∙ (ap (λ x. record { graph = c.graph; costs = c.costs; depths = x; counts = c.counts ++ [] }) (append-nil c.depths)
    ∙ ap (λ x. record { graph = c.graph; costs = c.costs; depths = c.depths; counts = x }) (append-nil c.counts)))

joined_next : (c : Columns) (y : Node) (d : Columns) → joined (with_node c y) d ≡ joined c (joined (columns_of (y ∷ [])) d)
joined_next c y d =
    ap (λ x. record { graph = x; costs = (c.costs ++ y.cost ∷ []) ++ d.costs; depths = (c.depths ++ y.depth ∷ []) ++ d.depths; counts = (c.counts ++ y.counts ∷ []) ++ d.counts })
    (append_assoc c.graph (y.edges ∷ []) d.graph)
    ∙ (ap (λ x. record { graph = c.graph ++ (y.edges ∷ d.graph); costs = x; depths = (c.depths ++ y.depth ∷ []) ++ d.depths; counts = (c.counts ++ y.counts ∷ []) ++ d.counts })
    (append_assoc c.costs (y.cost ∷ []) d.costs)
    ∙ (ap (λ x. record { graph = c.graph ++ (y.edges ∷ d.graph); costs = c.costs ++ (y.cost ∷ d.costs); depths = x; counts = (c.counts ++ y.counts ∷ []) ++ d.counts })
    (append_assoc c.depths (y.depth ∷ []) d.depths)
    ∙ ap (λ x. record { graph = c.graph ++ (y.edges ∷ d.graph); costs = c.costs ++ (y.cost ∷ d.costs); depths = c.depths ++ (y.depth ∷ d.depths); counts = x })
    (append_assoc c.counts (y.counts ∷ []) d.counts)))

laid_on : (c : Columns) (ys : List Node) → with_nodes c ys ≡ joined c (columns_of ys)
laid_on c [] = sym (joined_none c)
laid_on c (y ∷ ys) = laid_on (with_node c y) ys ∙ joined_next c y (columns_of ys)

pub laid_columns : (ys : List Node) → with_nodes no_columns ys ≡ columns_of ys
laid_columns ys = laid_on no_columns ys

pub then_more : (c d e : Columns) (ys zs : List Node) → d ≡ with_nodes c ys → e ≡ with_nodes d zs → e ≡ with_nodes c (ys ++ zs)
then_more c d e ys zs first second = second ∙ (ap (λ x. with_nodes x zs) first ∙ then_nodes c ys zs)
