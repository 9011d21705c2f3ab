-- The equations of prices, one by one.
use Rattle.std.proofs.Common.{◌≡◌, refl, sym, ap, ◌∙◌, ℕ, zero, suc, ◌+◌, ◌-◌, ◌*◌, ◌<◌, ◌≤◌, Bool, true, false, cond, List, [], ◌∷◌, map, length, drop, Some, slice_get, arith}
use Rattle.std.specs.List.{find, flat_map}
use Rattle.ui_machine.specs.Seq.{read}
use Rattle.ui_machine.specs.Definition.{Definition}
use Rattle.ui_machine.specs.Definition.Lookups.{program_at}
use Rattle.ui_machine.specs.Definition.Programs.{Block, Instruction, Program, passes_in}
use Rattle.ui_machine.specs.State.Tasks.{Frame}
use Rattle.law_typing.specs.Good.Programs.{kinds_before}
use Rattle.law_typing.specs.Graph.{Raised, graph, next_of}
use Rattle.law_typing.specs.Graph.Channels.{Channel, channels, is_channel, same_channel}
use Rattle.law_typing.specs.Graph.Costs.{before_last, only_last}
use Rattle.law_typing.specs.Graph.Tables.{Table, Tables, entry, greatest, of_program}
use Rattle.law_typing.specs.Rules.RegisterKinds.{Kinds}
use Rattle.law_typing.specs.Rules.Typing.{after}
use Rattle.law_typing.specs.Verdict.Accepted.{Accepted, Each}
use Rattle.law_static.specs.Raises.{raised_there}
use Rattle.law_static.proofs.AbsentProofs.{all_there, no_entry}
use Rattle.law_static.proofs.RaisesProofs.{channels_known}
use Rattle.law_prices.specs.Deeds.{PriceList}
use Rattle.law_prices.specs.Potential.{block_left}
use Rattle.law_prices.specs.Prices.{SolvesPrices, block_price, block_prices, channel_price, code_prices, from_block, instruction_price, path_prices, program_prices, sum}

-- ** channels

module _ (f : Raised → ℕ) where
  abbrev listed : List Raised → Table
  listed rs = map (λ (r : Raised). (r.channel, f r)) rs

  found_here : (b : Bool) (first r : Raised) (c : Channel) (rs : List Raised) →
      (find (λ (r : Raised). same_channel r.channel c) rs ≡ Some r → entry (listed rs) c ≡ f r) →
      cond b (Some first) (find (λ (r : Raised). same_channel r.channel c) rs) ≡ Some r → cond b (f first) (entry (listed rs) c) ≡ f r
  found_here true first r c rs later e = let s : first ≡ r = cc in ap f s
  found_here false first r c rs later e = later e

  found : (rs : List Raised) (c : Channel) (r : Raised) → find (λ (r : Raised). same_channel r.channel c) rs ≡ Some r → entry (listed rs) c ≡ f r
  found [] c r e = absurd (cc)
  found (first ∷ rs) c r e = found_here (same_channel first.channel c) first r c rs (found rs c r) e

-- ** lists of prices

pub both_sums : (xs : List ℕ) → sum xs ≡ sum (before_last xs) + sum (only_last xs)
both_sums [] = refl
both_sums (x ∷ []) = omega arith
both_sums (x ∷ y ∷ more) = let h = both_sums (y ∷ more) in omega (arith, h)

pub last_sum : (xs : List ℕ) (at : ℕ) → suc at ≡ length xs → sum (drop at xs) ≡ sum (only_last xs)
last_sum [] at e = absurd (omega (arith, e))
last_sum (x ∷ []) zero e = refl
last_sum (x ∷ y ∷ more) zero e = absurd (omega (arith, e))
last_sum (x ∷ []) (suc at) e = absurd (omega (arith, e))
last_sum (x ∷ y ∷ more) (suc at) e = last_sum (y ∷ more) at (omega (arith, e))

one_pass_more : (n b l : ℕ) → suc n * b + l ≡ n * b + (b + l)
one_pass_more n b l = grind arith

greatest_less : {A : Type 0} (f g : A → ℕ) (xs : List A) → Each (λ x. f x ≤ g x) xs → greatest f xs ≤ greatest g xs
greatest_less f g [] all = omega arith
greatest_less f g (x ∷ xs) all = let h = all.0 in let t = greatest_less f g xs all.1 in omega (arith, h, t)

each_to : {A : Type 0} (P Q : A → Type 0) (xs : List A) → ((x : A) → P x → Q x) → Each P xs → Each Q xs
each_to P Q [] f all = tt
each_to P Q (x ∷ xs) f all = (f x all.0, each_to P Q xs f all.1)

read_past : (x : ℕ) (later : List ℕ) (n to : ℕ) → n < to → read 0 (x ∷ later) (to - n) ≡ read 0 later (to - suc n)
read_past x later n to h = let e : to - n ≡ suc (to - suc n) = omega (arith, h) in ap (read 0 (x ∷ later)) e

module _ (d : Definition) (P : PriceList) (t : Tables) where
  -- ** code

  -- the price of an instruction stands at its number
  pub price_at : (p : Program) (q block n at : ℕ) (ks : Kinds) (code : List Instruction) (i : Instruction) → slice_get code at ≡ Some i →
      drop at (code_prices d P t p q block n ks code)
      ≡ instruction_price d P t q block (n + at) (kinds_before d p ks at code) i ∷ drop (suc at) (code_prices d P t p q block n ks code)
  price_at p q block n at ks [] i e = absurd (cc)
  price_at p q block n zero ks (j ∷ code) i e =
      let s : j ≡ i = cc in
      let same : n ≡ n + 0 = omega arith in
      ap (λ j. instruction_price d P t q block n ks j ∷ code_prices d P t p q block (suc n) (after d p ks j) code) s
      ∙ (ap (λ m. instruction_price d P t q block m ks i ∷ code_prices d P t p q block (suc n) (after d p ks i) code) same
      ∙ ap (λ j. instruction_price d P t q block (n + 0) ks i ∷ code_prices d P t p q block (suc n) (after d p ks j) code) (sym s))
  price_at p q block n (suc at) ks (j ∷ code) i e =
      let same : suc n + at ≡ n + suc at = omega arith in
      price_at p q block (suc n) at (after d p ks j) code i e
      ∙ ap (λ m. instruction_price d P t q block m (kinds_before d p (after d p ks j) at code) i ∷ drop (suc at) (code_prices d P t p q block (suc n) (after d p ks j) code)) same

  pub code_length : (p : Program) (q block n : ℕ) (ks : Kinds) (code : List Instruction) → length (code_prices d P t p q block n ks code) ≡ length code
  code_length p q block n ks [] = refl
  code_length p q block n ks (i ∷ code) = ap suc (code_length p q block (suc n) (after d p ks i) code)

  -- ** blocks

  module _ (p : Program) (q : ℕ) where
    abbrev after_block : ℕ → List Block → ℕ → ℕ
    after_block n blocks to = read 0 (path_prices d P t p q n blocks) (to - n)

    past_first : (n i : ℕ) (first : Block) (more : List Block) (next : List ℕ) → Each (λ to. n + i < to) next →
        greatest (after_block n (first ∷ more)) next ≤ greatest (after_block (suc n) more) next
    past_first n i first more next all =
        greatest_less (after_block n (first ∷ more)) (after_block (suc n) more) next
        (each_to (λ to. n + i < to) (λ to. after_block n (first ∷ more) to ≤ after_block (suc n) more to) next
        (λ to h.
        let past : n < to = omega (arith, h) in
        let e = read_past (read 0 (path_prices d P t p q n (first ∷ more)) 0) (path_prices d P t p q (suc n) more) n to past in
        omega (arith, e))
        all)

    covered : (n i : ℕ) (blocks : List Block) (b : Block) → slice_get blocks i ≡ Some b → Each (λ to. n + i < to) (flat_map next_of b.code) →
        block_price d P t p q (n + i) b + greatest (after_block n blocks) (flat_map next_of b.code) ≤ read 0 (path_prices d P t p q n blocks) i
    covered n i [] b e all = absurd (cc)
    covered n zero (first ∷ more) b e all =
        let is : first ≡ b = cc in
        let same : n + 0 ≡ n = omega arith in
        let most = past_first n 0 first more (flat_map next_of b.code) all in
        let whole = ap (λ (x : Block). block_price d P t p q n x + greatest (λ to. read 0 (path_prices d P t p q (suc n) more) (to - suc n)) (flat_map next_of x.code)) is in
        let here = ap (λ m. block_price d P t p q m b) same in
        omega (arith, most, whole, here)
    covered n (suc i) (first ∷ more) b e all =
        let most = past_first n (suc i) first more (flat_map next_of b.code) all in
        let ih = covered (suc n) i more b e (each_to (λ to. n + suc i < to) (λ to. suc n + i < to) (flat_map next_of b.code) (λ to h. omega (arith, h)) all) in
        let same : suc n + i ≡ n + suc i = omega arith in
        let here = ap (λ m. block_price d P t p q m b) same in
        omega (arith, most, ih, here)

    pub block_covers : (block : ℕ) (b : Block) → slice_get p.blocks block ≡ Some b → Each (λ to. block < to) (flat_map next_of b.code) →
        block_price d P t p q block b + greatest (from_block d P t p q) (flat_map next_of b.code) ≤ from_block d P t p q block
    block_covers block b e all =
        let first = covered 0 block p.blocks b e (each_to (λ to. block < to) (λ to. 0 + block < to) (flat_map next_of b.code) (λ to h. omega (arith, h)) all) in
        let same = greatest_less (from_block d P t p q) (after_block 0 p.blocks) (flat_map next_of b.code)
        (each_to (λ to. block < to) (λ to. from_block d P t p q to ≤ after_block 0 p.blocks to) (flat_map next_of b.code)
        (λ to h. let e : to ≡ to - 0 = omega arith in let r = ap (read 0 (path_prices d P t p q 0 p.blocks)) e in omega (arith, r))
        all) in
        let zero_is : 0 + block ≡ block = omega arith in
        let here = ap (λ m. block_price d P t p q m b) zero_is in
        omega (arith, first, same, here)

    -- at the beginning of a block the rest costs no more than the block and what follows
    pub begins_block : (f : Frame) (b : Block) → f.program ≡ q → slice_get p.blocks f.block ≡ Some b → f.at ≡ 0 → f.passes ≡ passes_in b → 0 < passes_in b →
        Each (λ to. f.block < to) (flat_map next_of b.code) → block_left d P t f p b ≤ from_block d P t p q f.block
    begins_block f b prog is first passes some all =
        let covers = block_covers f.block b is all in
        let ps = block_prices d P t p q f.block b in
        let ps_is = ap (λ m. block_prices d P t p m f.block b) prog in
        let halves = both_sums ps in
        let one = one_pass_more (passes_in b - 1) (sum (before_last ps)) (sum (only_last ps)) in
        let again : suc (passes_in b - 1) ≡ passes_in b = omega (arith, some) in
        let product = ap (λ m. m * sum (before_last ps)) again in
        let left = ap (λ xs. (f.passes - 1) * sum (before_last xs) + sum (drop f.at xs)) ps_is in
        let at_first = ap (λ m. sum (drop m ps)) first in
        let few = ap (λ m. (m - 1) * sum (before_last ps)) passes in
        let next = ap (λ m. greatest (from_block d P t p m) (flat_map next_of b.code)) prog in
        omega (arith, covers, halves, one, product, left, at_first, few, next)

  -- ** programs

  read_program : (n i : ℕ) (ps : List Program) (p : Program) → slice_get ps i ≡ Some p → read 0 (program_prices d P t n ps) i ≡ from_block d P t p (n + i) 0
  read_program n i [] p e = absurd (cc)
  read_program n zero (x ∷ ps) p e =
      let s : x ≡ p = cc in
      let same : n ≡ n + 0 = omega arith in
      ap (λ x. from_block d P t x n 0) s ∙ ap (λ m. from_block d P t p m 0) same
  read_program n (suc i) (x ∷ ps) p e =
      let same : suc n + i ≡ n + suc i = omega arith in
      read_program (suc n) i ps p e ∙ ap (λ m. from_block d P t p m 0) same

  module _ (solves : SolvesPrices d P t) where
    pub program_is : (q : ℕ) (p : Program) → program_at d q ≡ Some p → of_program t q ≡ from_block d P t p q 0
    program_is q p e =
        let same : 0 + q ≡ q = omega arith in
        ap (λ u. read 0 u q) solves.programs ∙ (read_program 0 q d.programs p e ∙ ap (λ m. from_block d P t p m 0) same)

    pub channel_is : Accepted d → (c : Channel) → is_channel d c ≡ true → entry t.channels c ≡ channel_price d P t (raised_there d c)
    channel_is a c e =
        ap (λ u. entry u c) solves.channels
        ∙ found (channel_price d P t) (graph d).raised c (raised_there d c) (channels_known d a c e).found

    pub absent_is : (c : Channel) → is_channel d c ≡ false → entry t.channels c ≡ 0
    absent_is c e = ap (λ u. entry u c) solves.channels ∙ no_entry d (channel_price d P t) (channels d) c (all_there d) e
