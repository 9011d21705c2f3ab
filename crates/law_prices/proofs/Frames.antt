-- What the rest of a program costs: past an instruction, in a further pass, and where a program begins or goes to a block.
use Rattle.std.proofs.Common.{◌≡◌, refl, sym, ap, ◌∙◌, ℕ, zero, suc, ◌+◌, ◌-◌, ◌*◌, ◌<◌, ◌≤◌, Bool, true, false, cond, List, length, Some, slice_get, arith}
use Rattle.std.specs.Prelude.{◌&&◌}
use Rattle.std.specs.List.{flat_map}
use Rattle.std.proofs.lemmas.Bool.{eqb-true, ltb-true}
use Rattle.ui_machine.specs.Definition.{Definition}
use Rattle.ui_machine.specs.Definition.Lookups.{program_at}
use Rattle.ui_machine.specs.Definition.Programs.{Block, Instruction, Program, passes_in}
use Rattle.ui_machine.specs.Definition.Values.{Value}
use Rattle.ui_machine.specs.Instructions.Jumps.{has_pass, in_pass, is_again, is_at_last, is_past_first, past}
use Rattle.ui_machine.specs.Rules.Programs.{first_frame, passes_of}
use Rattle.ui_machine.specs.State.Tasks.{Frame}
use Rattle.law_typing.specs.Good.Programs.{kinds_before}
use Rattle.law_typing.specs.Graph.{next_of}
use Rattle.law_typing.specs.Graph.Costs.{before_last}
use Rattle.law_typing.specs.Graph.Tables.{Tables, of_program}
use Rattle.law_typing.specs.Laws.WellRead.{WellRead}
use Rattle.law_typing.specs.Verdict.Accepted.{Each}
use Rattle.law_typing.proofs.Lists.{both_parts}
use Rattle.law_static.proofs.BeginProofs.{later, passed}
use Rattle.law_prices.specs.Deeds.{PriceList}
use Rattle.law_prices.specs.Potential.{block_left, running_price}
use Rattle.law_prices.specs.Prices.{SolvesPrices, block_prices, from_block, instruction_price, price_of, sum}
use Rattle.law_prices.proofs.Equations.{begins_block, both_sums, code_length, last_sum, price_at, program_is}

one_pass_less : (n b : ℕ) → 0 < n → n * b ≡ (n - 1) * b + b
one_pass_less zero b some = absurd (omega (arith, some))
one_pass_less (suc n) b some = let e : suc n - 1 ≡ n = omega arith in let f = ap (λ m. m * b) e in let g = more n b in omega (arith, f, g)
  where
    more : (n b : ℕ) → suc n * b ≡ n * b + b
    more n b = grind arith

module _ (d : Definition) (P : PriceList) (t : Tables) where
  -- the program and block of a frame are there
  pub running_is : (f : Frame) (p : Program) (b : Block) → program_at d f.program ≡ Some p → slice_get p.blocks f.block ≡ Some b → running_price d P t f ≡ block_left d P t f p b
  running_is f p b is has = ap (price_of (λ (p : Program). price_of (block_left d P t f p) (slice_get p.blocks f.block))) is ∙ ap (price_of (block_left d P t f p)) has

  -- past an instruction it is paid
  pub past_price : (f : Frame) (p : Program) (b : Block) (i : Instruction) → program_at d f.program ≡ Some p → slice_get p.blocks f.block ≡ Some b → slice_get b.code f.at ≡ Some i →
      running_price d P t f ≡ instruction_price d P t f.program f.block f.at (kinds_before d p b.entry f.at b.code) i + running_price d P t (past f)
  past_price f p b i is has here =
      let before = running_is f p b is has in
      let after = running_is (past f) p b is has in
      let at = ap sum (price_at d P t p f.program f.block 0 f.at b.entry b.code i here) in
      let same : 0 + f.at ≡ f.at = omega arith in
      let first = ap (λ m. instruction_price d P t f.program f.block m (kinds_before d p b.entry f.at b.code) i) same in
      omega (arith, before, after, at, first)

  -- a further pass was paid before
  pub pass_price : (f : Frame) (p : Program) (b : Block) → program_at d f.program ≡ Some p → slice_get p.blocks f.block ≡ Some b → running_price d P t (in_pass b f) ≡ running_price d P t f
  pass_price f p b is has = go (is_again b f) refl
    where
      next : Frame
      next = record f { at = 0; passes = f.passes - 1 }

      go : (again : Bool) → is_again b f ≡ again → running_price d P t (cond again next f) ≡ running_price d P t f
      go false e = refl
      go true e =
          let parts = both_parts (is_past_first f) (has_pass f && is_at_last b f) e in
          let more = both_parts (has_pass f) (is_at_last b f) parts.1 in
          let some : 1 < f.passes = ltb-true 1 f.passes more.0 in
          let last : suc f.at ≡ length b.code = eqb-true (suc f.at) (length b.code) more.1 in
          let ps = block_prices d P t p f.program f.block b in
          let long = code_length d P t p f.program f.block 0 b.entry b.code in
          let end = last_sum ps f.at (last ∙ sym long) in
          let halves = both_sums ps in
          let before = running_is f p b is has in
          let after = running_is next p b is has in
          let less = one_pass_less (f.passes - 1) (sum (before_last ps)) (omega (arith, some)) in
          omega (arith, end, halves, before, after, less)

  module _ (well : WellRead d) (solves : SolvesPrices d P t) where
    -- the blocks after one, as reading gives them
    next_later : (q : ℕ) (p : Program) (block : ℕ) (b : Block) → program_at d q ≡ Some p → slice_get p.blocks block ≡ Some b → Each (λ to. block < to) (flat_map next_of b.code)
    next_later q p block b is has = later b.code block (length p.blocks) ((well.programs q p is).blocks block b has).next

    -- at the beginning of a block
    pub block_price_is : (f : Frame) (p : Program) (b : Block) → program_at d f.program ≡ Some p → slice_get p.blocks f.block ≡ Some b → f.at ≡ 0 → f.passes ≡ passes_in b →
        running_price d P t f ≤ from_block d P t p f.program f.block
    block_price_is f p b is has first passes =
        let read = (well.programs f.program p is).blocks f.block b has in
        let less = begins_block d P t p f.program f b refl has first passes (passed b read.repeat) (next_later f.program p f.block b is has) in
        let same = running_is f p b is has in
        omega (arith, less, same)

    -- a program that begins
    pub begun_is : (q : ℕ) (p : Program) (args : List Value) → program_at d q ≡ Some p → running_price d P t (first_frame q p args) ≤ of_program t q
    begun_is q p args is =
        let b = (well.programs q p is).some in
        let whole = program_is d P t solves q p is in
        let less = block_price_is (first_frame q p args) p b.0 is b.1 refl (ap passes_of b.1) in
        omega (arith, whole, less)
