-- The numbers of the nodes of a small sketch are small.
use Rattle.std.proofs.Common.{◌≡◌, refl, sym, ap, subst, ℕ, zero, suc, ◌+◌, ◌*◌, ◌<◌, ◌≤◌, List, [], ◌∷◌, length, map, IfSome, Option, None, Some, slice_get, slice_index_or, arith}
use Rattle.std.specs.List.{AllByRecursion}
use Rattle.std.proofs.lemmas.Option.{slice_get_within}
use Rattle.verify_sketches.specs.Sizes.{IsSmall}
use Rattle.verify_sketches.specs.Sketches.{IsSketch, Sketch, SketchedBlock, SketchedChannel}
use Rattle.law_typing.specs.Graph.{Graph}
use Rattle.verify_sketches.specs.Numbered.{own, stages, connected, group, program, blocks, place, start, block, passes, next}
use Rattle.verify_numbers.specs.Counts.{Counts, at, befores_from, block_count, counts_of}
use Rattle.verify_numbers.specs.Ends.{EndsAreThere}

-- counts that are few
pub record AreFew (c : Counts) : Type 0 where
  pub channels : c.channels ≤ 33_554_432
  pub groups : c.groups ≤ 131_072
  pub programs : c.programs ≤ 256
  pub places : c.places ≤ 512
  pub starts : c.starts ≤ 131_073
  pub blocks : c.blocks ≤ 16_384
  pub before : (p : ℕ) → slice_index_or c.befores p 0 ≤ 16_384

-- ** blocks

blocks_each : (ps : List (List SketchedBlock)) → AllByRecursion (λ (bs : List SketchedBlock). length bs ≤ 64) ps → block_count ps ≤ 64 * length ps
blocks_each [] all = omega arith
blocks_each (bs ∷ ps) (few, more) = let h = blocks_each ps more in omega (arith, few, h)

befores_each : (before : ℕ) (ps : List (List SketchedBlock)) (p : ℕ) → slice_index_or (befores_from before ps) p 0 ≤ before + block_count ps
befores_each before [] p = omega arith
befores_each before (bs ∷ ps) zero = omega arith
befores_each before (bs ∷ ps) (suc p) = let h = befores_each (before + length bs) ps p in omega (arith, h)

-- a small sketch has few blocks
pub few_blocks : (s : Sketch) → IsSmall s → block_count s.programs ≤ 16_384
few_blocks s small = let h = blocks_each s.programs small.blocks in let n = small.programs in omega (arith, h, n)

pub few : (c : Counts) (s : Sketch) → c ≡ counts_of s → IsSmall s → AreFew c
few c s counted small =
    subst AreFew (sym counted)
    record {
      channels = small.channels;
      groups = small.groups;
      programs = small.programs;
      places = small.places;
      starts = small.starts;
      blocks = few_blocks s small;
      before = λ p. (let h = befores_each 0 s.programs p in let n = few_blocks s small in omega (arith, h, n));
    }

-- ** nodes

module _ (c : Counts) (are : AreFew c) where
  abbrev fits : ℕ → Type 0
  fits n = n ≤ 4_294_967_295

  pub own_fits : (i : ℕ) → i < c.channels → fits (at c (own i))
  own_fits i low = let a = are.channels in omega (arith, a, low)

  pub stages_fits : (i : ℕ) → i < c.channels → fits (at c (stages i))
  stages_fits i low = let a = are.channels in omega (arith, a, low)

  pub connected_fits : (i : ℕ) → i < c.channels → fits (at c (connected i))
  connected_fits i low = let a = are.channels in omega (arith, a, low)

  pub group_fits : (i : ℕ) → i < c.groups → fits (at c (group i))
  group_fits i low = let a = are.channels in let b = are.groups in omega (arith, a, b, low)

  pub program_fits : (i : ℕ) → i < c.programs → fits (at c (program i))
  program_fits i low = let a = are.channels in let b = are.groups in let d = are.programs in omega (arith, a, b, d, low)

  pub blocks_fits : (i : ℕ) → i < c.programs → fits (at c (blocks i))
  blocks_fits i low = let a = are.channels in let b = are.groups in let d = are.programs in omega (arith, a, b, d, low)

  pub place_fits : (i : ℕ) → i < c.places → fits (at c (place i))
  place_fits i low =
      let a = are.channels in
      let b = are.groups in
      let d = are.programs in
      let e = are.places in
      omega (arith, a, b, d, e, low)

  before_blocks : (n : ℕ) → n ≤ 65_536 → fits (4 * c.channels + c.groups + 2 * c.programs + c.places + c.starts + n)
  before_blocks n low =
      let a = are.channels in
      let b = are.groups in
      let d = are.programs in
      let e = are.places in
      let f = are.starts in
      omega (arith, a, b, d, e, f, low)

  pub start_fits : (i : ℕ) → i < c.starts → fits (at c (start i))
  start_fits i low =
      let a = are.channels in
      let b = are.groups in
      let d = are.programs in
      let e = are.places in
      let f = are.starts in
      omega (arith, low, a, b, d, e, f)

  pub block_fits : (p b : ℕ) → b ≤ 64 → fits (at c (block p b))
  block_fits p b low =
      let l = are.before p in
      before_blocks (slice_index_or c.befores p 0 + b) (omega (arith, l, low))

  pub passes_fits : (p b : ℕ) → b ≤ 64 → fits (at c (passes p b))
  passes_fits p b low =
      let l = are.before p in
      let m = are.blocks in
      let h = before_blocks (c.blocks + (slice_index_or c.befores p 0 + b)) (omega (arith, l, m, low)) in
      omega (arith, h)

  pub next_fits : (p b : ℕ) → b ≤ 64 → fits (at c (next p b))
  next_fits p b low =
      let l = are.before p in
      let m = are.blocks in
      let h = before_blocks (2 * c.blocks + (slice_index_or c.befores p 0 + b)) (omega (arith, l, m, low)) in
      omega (arith, h)

-- ** pairs

pub ends_are_there : (g : Graph) (s : Sketch) → IsSketch g s → EndsAreThere s
ends_are_there g s sketch number other k is has =
    let e = (sketch.paired number k is).both other has in
    slice_get_within s.channels other e.0 e.1

-- ** entries

-- what holds of all that are seen holds of the one at a number
pub at_entry : {A B : Type 0} → (P : B → Type 0) (f : A → B) (xs : List A) (n : ℕ) (x : A) → AllByRecursion P (map f xs) → n < length xs →
    x ≡ slice_index_or xs n x → P (f x)
at_entry P f [] n x all within is = absurd (omega (arith, within))
at_entry P f (y ∷ ys) zero x all within is = subst (λ z. P (f z)) (sym is) all.0
at_entry P f (y ∷ ys) (suc n) x all within is = at_entry P f ys n x all.1 (omega (arith, within)) is

-- an entry as it is seen
pub seen_at : {A B : Type 0} → (f : A → B) (xs : List A) (n : ℕ) (x : A) → n < length xs → x ≡ slice_index_or xs n x → slice_get (map f xs) n ≡ Some (f x)
seen_at f [] n x within is = absurd (omega (arith, within))
seen_at f (y ∷ ys) zero x within is = ap (λ z. Some (f z)) (sym is)
seen_at f (y ∷ ys) (suc n) x within is = seen_at f ys n x (omega (arith, within)) is

-- the other end of a channel, if it has one
pub other_end_low : (s : Sketch) (number count : ℕ) (k : SketchedChannel) → EndsAreThere s → slice_get s.channels number ≡ Some k →
    count ≡ length s.channels → IfSome k.other (λ n. n < count)
other_end_low s number count k ends is all = by k.other refl
  where
    by : (o : Option ℕ) → k.other ≡ o → IfSome o (λ n. n < count)
    by None e = tt
    by (Some other) e = let low = ends number other k is e in omega (arith, low, all)
