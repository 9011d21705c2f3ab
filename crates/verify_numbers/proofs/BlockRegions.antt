-- The nodes of blocks, program after program.
use Rattle.std.proofs.Common.{◌≡◌, inl, inr, ◌⊎◌, refl, sym, ap, subst, ◌∙◌, ℕ, zero, suc, ◌+◌, ◌<◌, ◌≤◌, List, [], ◌∷◌, ◌++◌, length, Option, None, Some, slice_get, slice_index_or, zero-add, length-append, arith}
use Rattle.std.proofs.lemmas.Option.{none-some, same_Some}
use Rattle.verify_sketches.specs.Sketches.{Sketch, SketchedBlock}
use Rattle.verify_sketches.specs.Numbered.{Node}
use Rattle.verify_numbers.specs.Counts.{befores_from, block_count}
use Rattle.verify_numbers.specs.Laid.{block_nodes_from, block_part_node, nodes_in_program, numbered}
use Rattle.verify_numbers.specs.declared.block_nodes.BlockPart.{BlockPart}
use Rattle.verify_numbers.proofs.Regions.{InRest, IsAmong, among, left, numbered_get, numbered_length, right, splits}

-- how many blocks come before those of a program
abbrev pub offset : List (List SketchedBlock) → ℕ → ℕ
offset [] q = 0
offset (bs ∷ ps) zero = 0
offset (bs ∷ ps) (suc q) = length bs + offset ps q

-- they are kept
kept_from : (before : ℕ) (ps : List (List SketchedBlock)) (q : ℕ) (bs : List SketchedBlock) → slice_get ps q ≡ Some bs →
    slice_index_or (befores_from before ps) q 0 ≡ before + offset ps q
kept_from before [] q bs is = absurd (none-some _ is)
kept_from before (cs ∷ ps) zero bs is = omega arith
kept_from before (cs ∷ ps) (suc q) bs is = let h = kept_from (before + length cs) ps q bs is in omega (arith, h)

pub kept : (ps : List (List SketchedBlock)) (q : ℕ) (bs : List SketchedBlock) → slice_get ps q ≡ Some bs →
    slice_index_or (befores_from 0 ps) q 0 ≡ offset ps q
kept ps q bs is = kept_from 0 ps q bs is ∙ zero-add (offset ps q)

module _ (s : Sketch) (part : BlockPart) where
  -- how many nodes there are
  pub block_length : (p : ℕ) (ps : List (List SketchedBlock)) → length (block_nodes_from s part p ps) ≡ block_count ps
  block_length p [] = refl
  block_length p (bs ∷ ps) =
      let l = length-append (nodes_in_program s part p bs) (block_nodes_from s part (suc p) ps) in
      let m = numbered_length (block_part_node s part p (length bs)) 0 bs in
      let n = block_length (suc p) ps in
      omega (arith, l, m, n)

  pub block_get_from : (p : ℕ) (ps : List (List SketchedBlock)) (q i : ℕ) (bs : List SketchedBlock) (b : SketchedBlock) → slice_get ps q ≡ Some bs →
      slice_get bs i ≡ Some b → slice_get (block_nodes_from s part p ps) (offset ps q + i) ≡ Some (block_part_node s part (p + q) (length bs) i b)
  block_get_from p [] q i bs b is there = absurd (none-some _ is)
  block_get_from p (cs ∷ ps) zero i bs b is there =
      let e : cs ≡ bs = same_Some _ _ is in
      let m : i ≡ 0 + i = omega arith in
      let n : p ≡ p + 0 = omega arith in
      subst (λ k. slice_get (nodes_in_program s part p cs ++ block_nodes_from s part (suc p) ps) k ≡ Some (block_part_node s part (p + 0) (length bs) i b)) m
      (left (nodes_in_program s part p cs) (block_nodes_from s part (suc p) ps) i (block_part_node s part (p + 0) (length bs) i b)
      (numbered_get (block_part_node s part p (length cs)) cs i b (ap (λ x. slice_get x i) e ∙ there)
      ∙ (ap (λ x. Some (block_part_node s part p (length x) i b)) e ∙ ap (λ k. Some (block_part_node s part k (length bs) i b)) n)))
  block_get_from p (cs ∷ ps) (suc q) i bs b is there =
      let l = numbered_length (block_part_node s part p (length cs)) 0 cs in
      let e : length cs + offset ps q + i ≡ length (nodes_in_program s part p cs) + (offset ps q + i) = omega (arith, l) in
      let n : suc p + q ≡ p + suc q = omega arith in
      right (nodes_in_program s part p cs) (block_nodes_from s part (suc p) ps) (length cs + offset ps q + i) (offset ps q + i)
      (block_part_node s part (p + suc q) (length bs) i b) e
      (block_get_from (suc p) ps q i bs b is there ∙ ap (λ k. Some (block_part_node s part k (length bs) i b)) n)

  -- the block of a node
  pub record IsOfBlock (p : ℕ) (ps : List (List SketchedBlock)) (j : ℕ) (y : Node) : Type 0 where
    pub q : ℕ
    pub i : ℕ
    pub bs : List SketchedBlock
    pub b : SketchedBlock
    pub program : slice_get ps q ≡ Some bs
    pub there : slice_get bs i ≡ Some b
    pub at : j ≡ offset ps q + i
    pub is : block_part_node s part (p + q) (length bs) i b ≡ y

  pub block_has : (p : ℕ) (ps : List (List SketchedBlock)) (j : ℕ) (y : Node) → slice_get (block_nodes_from s part p ps) j ≡ Some y → IsOfBlock p ps j y
  block_has p [] j y is = absurd (none-some _ is)
  block_has p (bs ∷ ps) j y is =
      by (λ k got. block_has (suc p) ps k y got) (splits (nodes_in_program s part p bs) (block_nodes_from s part (suc p) ps) j y is)
    where
      here : IsAmong (block_part_node s part p (length bs)) bs j y → IsOfBlock p (bs ∷ ps) j y
      here (b, got, e) =
          let n : p + 0 ≡ p = omega arith in
          record {
            q = 0;
            i = j;
            bs = bs;
            b = b;
            program = refl;
            there = got;
            at = sym (zero-add j);
            is = ap (λ k. block_part_node s part k (length bs) j b) n ∙ e;
          }

      later : (k : ℕ) → j ≡ length (nodes_in_program s part p bs) + k → IsOfBlock (suc p) ps k y → IsOfBlock p (bs ∷ ps) j y
      later k at o =
          let l = numbered_length (block_part_node s part p (length bs)) 0 bs in
          let n : p + suc o.q ≡ suc p + o.q = omega arith in
          record {
            q = suc o.q;
            i = o.i;
            bs = o.bs;
            b = o.b;
            program = o.program;
            there = o.there;
            at = (let a = o.at in omega (arith, at, l, a));
            is = ap (λ k. block_part_node s part k (length o.bs) o.i o.b) n ∙ o.is;
          }

      by : ((k : ℕ) → slice_get (block_nodes_from s part (suc p) ps) k ≡ Some y → IsOfBlock (suc p) ps k y) →
          (slice_get (nodes_in_program s part p bs) j ≡ Some y) ⊎ InRest (nodes_in_program s part p bs) (block_nodes_from s part (suc p) ps) j y →
          IsOfBlock p (bs ∷ ps) j y
      by rest (inl got) = here (among (block_part_node s part p (length bs)) bs j y got)
      by rest (inr (k, at, got)) = later k at (rest k got)
