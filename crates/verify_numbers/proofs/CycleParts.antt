-- What nodes are for, by their numbers.
use Rattle.std.proofs.Common.{◌≡◌, inl, inr, ◌⊎◌, refl, sym, ap, subst, ◌∙◌, ℕ, zero, suc, ◌+◌, ◌-◌, ◌*◌, ◌<◌, ◌≤◌, List, [], ◌∷◌, ◌++◌, length, Option, None, Some, slice_get, arith}
use Rattle.std.proofs.lemmas.Option.{none-some}
use Rattle.verify_sketches.specs.Sketches.{Sketch, SketchedBlock, SketchedChannel}
use Rattle.verify_sketches.specs.Numbered.{IsPart, Node, Part, program_node, whole_node, own, stages, connected, group, program, blocks, place, start, block, passes, next, whole}
use Rattle.verify_sketches.specs.Numbered.{of_whole, of_own, of_stages, of_connected, of_group, of_program, of_blocks, of_place, of_start, of_block, of_passes, of_next}
use Rattle.verify_numbers.specs.Counts.{at_in}
use Rattle.verify_numbers.specs.Laid.{laid}
use Rattle.law_typing.specs.Graph.{Graph}
use Rattle.law_typing.specs.Graph.Channels.{Link}
use Rattle.verify_numbers.specs.Cycles.{links_after}
use Rattle.verify_numbers.specs.Links.{IsOther, link_view, links_view, part_at, part_or}
use Rattle.verify_numbers.specs.declared.cycle_links.SketchedLink.{SketchedLink}
use Rattle.verify_numbers.proofs.LaidNodes.{laid_is_numbered}

below : {A : Type 0} → (xs : List A) (i : ℕ) (x : A) → slice_get xs i ≡ Some x → i < length xs
below [] i x is = absurd (none-some _ is)
below (y ∷ ys) zero x is = omega arith
below (y ∷ ys) (suc i) x is = let h = below ys i x is in omega (arith, h)

-- what a number says of a part
pub record Sorted (s : Sketch) (number : ℕ) (x : Part) : Type 0 where
  pub channel : number < length s.channels → x ≡ whole number
  pub program : 4 * length s.channels + length s.groups ≤ number → number < 4 * length s.channels + length s.groups + length s.programs →
      x ≡ program (number - (4 * length s.channels + length s.groups))
  pub other : length s.channels ≤ number →
      (number < 4 * length s.channels + length s.groups) ⊎ (4 * length s.channels + length s.groups + length s.programs ≤ number) → IsOther x

module _ (s : Sketch) (handlers : ℕ) where
  sorted_part : (x : Part) (y : Node) → IsPart s (at_in s) handlers x y → Sorted s (at_in s x) x
  sorted_part _ _ (of_whole i k is) = let h = below s.channels i k is in record {
    channel = λ low. refl;
    program = λ from to. absurd (omega (arith, h, from));
    other = λ from out. absurd (omega (arith, h, from));
  }
  sorted_part _ _ (of_own i k is) = record {
    channel = λ low. absurd (omega (arith, low));
    program = λ from to. absurd (let h = below s.channels i k is in omega (arith, h, from));
    other = λ from out. tt;
  }
  sorted_part _ _ (of_stages i k is) = record {
    channel = λ low. absurd (omega (arith, low));
    program = λ from to. absurd (let h = below s.channels i k is in omega (arith, h, from));
    other = λ from out. tt;
  }
  sorted_part _ _ (of_connected i k is) = record {
    channel = λ low. absurd (omega (arith, low));
    program = λ from to. absurd (let h = below s.channels i k is in omega (arith, h, from));
    other = λ from out. tt;
  }
  sorted_part _ _ (of_group i ps is) = record {
    channel = λ low. absurd (omega (arith, low));
    program = λ from to. absurd (let h = below s.groups i ps is in omega (arith, h, from));
    other = λ from out. tt;
  }
  sorted_part _ _ (of_program i bs is) = let h = below s.programs i bs is in record {
    channel = λ low. absurd (omega (arith, low));
    program = λ from to. ap program (omega arith);
    other = λ from out. absurd (in_programs i h out);
  }
    where
      in_programs : (i : ℕ) → i < length s.programs →
          (at_in s (program i) < 4 * length s.channels + length s.groups) ⊎ (4 * length s.channels + length s.groups + length s.programs ≤ at_in s (program i)) → ⊥
      in_programs i h (inl low) = absurd (omega (arith, low))
      in_programs i h (inr high) = absurd (omega (arith, h, high))
  sorted_part _ _ (of_blocks i bs is) = record {
    channel = λ low. absurd (omega (arith, low));
    program = λ from to. absurd (omega (arith, to));
    other = λ from out. tt;
  }
  sorted_part _ _ (of_place i cs is) = record {
    channel = λ low. absurd (omega (arith, low));
    program = λ from to. absurd (omega (arith, to));
    other = λ from out. tt;
  }
  sorted_part _ _ (of_start i k is) = record {
    channel = λ low. absurd (omega (arith, low));
    program = λ from to. absurd (omega (arith, to));
    other = λ from out. tt;
  }
  sorted_part _ _ (of_block p i bs b is there) = record {
    channel = λ low. absurd (omega (arith, low));
    program = λ from to. absurd (omega (arith, to));
    other = λ from out. tt;
  }
  sorted_part _ _ (of_passes p i bs b is there) = record {
    channel = λ low. absurd (omega (arith, low));
    program = λ from to. absurd (omega (arith, to));
    other = λ from out. tt;
  }
  sorted_part _ _ (of_next p i bs b is there) = record {
    channel = λ low. absurd (omega (arith, low));
    program = λ from to. absurd (omega (arith, to));
    other = λ from out. tt;
  }

  found : {A : Type 0} → (xs : List A) (i : ℕ) → i < length xs → (x : A) × (slice_get xs i ≡ Some x)
  found [] i low = absurd (omega (arith, low))
  found (x ∷ xs) zero low = (x, refl)
  found (x ∷ xs) (suc i) low = found xs i (omega (arith, low))

  -- a number that has no node is past the programs
  sorted_none : (number : ℕ) → slice_get (laid s handlers) number ≡ None → Sorted s number (next 0 0)
  sorted_none number none = record {
    channel = λ low.
        let k = found s.channels number low in
        absurd (no_channel k.0 k.1);
    program = λ from to.
        let p = number - (4 * length s.channels + length s.groups) in
        let h : p < length s.programs = omega (arith, from, to) in
        let bs = found s.programs p h in
        absurd (no_program p bs.0 bs.1 (omega (arith, from)));
    other = λ from out. tt;
  }
    where
      no_channel : (k : SketchedChannel) → slice_get s.channels number ≡ Some k → ⊥
      no_channel k is = none-some _ (sym none ∙ (laid_is_numbered s handlers).there (whole number) (whole_node (at_in s) number k) (of_whole number k is))

      no_program : (p : ℕ) (bs : List SketchedBlock) → slice_get s.programs p ≡ Some bs → at_in s (program p) ≡ number → ⊥
      no_program p bs is e =
          none-some _ (sym none ∙ (ap (slice_get (laid s handlers)) (sym e)
          ∙ (laid_is_numbered s handlers).there (program p) (program_node (at_in s) p bs) (of_program p bs is)))

  pub sorted_at : (number : ℕ) → Sorted s number (part_at (laid s handlers) number)
  sorted_at number = by (slice_get (laid s handlers) number) refl
    where
      by : (o : Option Node) → slice_get (laid s handlers) number ≡ o → Sorted s number (part_or o)
      by None e = sorted_none number e
      by (Some y) e =
          let x = (laid_is_numbered s handlers).each number y e in
          subst (λ k. Sorted s k y.part) x.0 (sorted_part y.part y x.1)

-- ** links

-- what is neither a channel nor a program is passed by
pub passed_by : (g : Graph) (link : Link) (x : Part) (more : List Part) → IsOther x → links_after g link (x ∷ more) ≡ links_after g link more
passed_by g link (whole i) more other = absurd other
passed_by g link (program i) more other = absurd other
passed_by g link (own i) more other = refl
passed_by g link (stages i) more other = refl
passed_by g link (connected i) more other = refl
passed_by g link (group i) more other = refl
passed_by g link (blocks i) more other = refl
passed_by g link (place i) more other = refl
passed_by g link (start i) more other = refl
passed_by g link (block p i) more other = refl
passed_by g link (passes p i) more other = refl
passed_by g link (next p i) more other = refl

-- one link more
pub more_links : (g : Graph) (old new : List SketchedLink) (last : SketchedLink) (more : List Link) → new ≡ old ++ last ∷ [] →
    links_view g new ++ more ≡ links_view g old ++ (link_view g last ∷ more)
more_links g old new last more is = ap (λ ls. links_view g ls ++ more) is ∙ by old
  where
    by : (ls : List SketchedLink) → links_view g (ls ++ last ∷ []) ++ more ≡ links_view g ls ++ (link_view g last ∷ more)
    by [] = refl
    by (l ∷ ls) = ap (λ xs. link_view g l ∷ xs) (by ls)
