-- Where a program begins.
use Rattle.std.proofs.Common.{◌≡◌, refl, sym, ap, subst, ◌∙◌, ℕ, zero, suc, ◌+◌, ◌-◌, ◌<◌, true, List, [], ◌∷◌, ◌++◌, length, map, Option, None, Some, slice_get, arith}
use Rattle.std.specs.Prelude.{replicate}
use Rattle.std.specs.List.{flat_map}
use Rattle.ui_machine.specs.Seq.{read}
use Rattle.ui_machine.specs.Definition.{Definition}
use Rattle.ui_machine.specs.Definition.Kinds.{RegisterKind}
use Rattle.ui_machine.specs.Definition.Kinds as kinds
use Rattle.ui_machine.specs.Definition.Values.{Value}
use Rattle.ui_machine.specs.Definition.Programs.{Instruction, Block, said_or_once, passes_in}
use Rattle.ui_machine.specs.Rules.Programs.{first_registers, passes_of}
use Rattle.law_typing.specs.Rules.RegisterKinds.{Kinds}
use Rattle.law_typing.specs.Rules.Brackets.{is_bracketed, is_empty, opened}
use Rattle.law_typing.specs.Graph.{graph, stretch_of, stretches_of, next_of}
use Rattle.law_typing.specs.Verdict.Accepted.{Each}
use Rattle.law_typing.specs.Graph.Costs.{passes_cost}
use Rattle.law_typing.specs.Laws.WellRead.{Ends, RepeatRead}
use Rattle.law_typing.specs.Good.Standing.{Standing, holds}
use Rattle.law_typing.proofs.Lists.{both_parts, each_in, each_flat}
use Rattle.law_typing.proofs.CostProofs.{costs_solved, depths_solved, blocks_cover, passes_cover}
use Rattle.law_static.specs.Fits.{AllHold}
use Rattle.law_static.specs.Code.{ProgramsBegin, FirstRegistersFit}
use Rattle.law_static.proofs.SiteProofs.{blocks_keep}

pub get_map : {A B : Type 0} (f : A → B) (xs : List A) (i : ℕ) (x : A) → slice_get xs i ≡ Some x → slice_get (map f xs) i ≡ Some (f x)
get_map f [] i x e = absurd (cc)
get_map {A} f (y ∷ ys) zero x e = let s : y ≡ x = cc in ap (λ (y : A). Some (f y)) s
get_map f (y ∷ ys) (suc i) x e = get_map f ys i x e

pub some_code : (code : List Instruction) → Ends code → 0 < length code
some_code [] block = absurd block
some_code (i ∷ code) block = omega arith

pub later : (code : List Instruction) (n most : ℕ) → Each (λ i. Each (λ to. (n < to) × (to < most)) (next_of i)) code → Each (λ to. n < to) (flat_map next_of code)
later code n most all =
    each_flat (λ to. n < to) next_of code (λ i h. narrow (next_of i) (each_in (λ i. Each (λ to. (n < to) × (to < most)) (next_of i)) code all i h))
  where
    narrow : (tos : List ℕ) → Each (λ to. (n < to) × (to < most)) tos → Each (λ to. n < to) tos
    narrow [] all = tt
    narrow (to ∷ tos) all = (all.0.0, narrow tos all.1)

-- a block is passed once at least
pub passed : (b : Block) → RepeatRead b.repeat b.code → 0 < passes_in b
passed b read = of b.repeat read
  where
    of : (o : Option ℕ) → RepeatRead o b.code → 0 < said_or_once o
    of None read = omega arith
    of (Some n) read = read.0

pub programs_begin : ProgramsBegin
programs_begin d read_well a s number p b registers is has counted fit =
    let costs = a.weighed.costs in
    let depths = a.weighed.depths in
    let block = (read_well.programs number p is).blocks 0 b has in
    let kept = blocks_keep d a number 0 p b (record { is = is; has = has }) in
    let there = get_map (stretches_of d) d.programs number p is in
    let cost = (costs_solved (graph d) costs a.weighed.solves_costs).1 number (stretches_of d p) there in
    let deep = (depths_solved (graph d) depths a.weighed.solves_depths).1 number (stretches_of d p) there in
    let first = get_map (stretch_of d p) p.blocks 0 b has in
    let covers = blocks_cover (graph d) costs (stretches_of d p) 0 (stretch_of d p b) first (later b.code 0 (length p.blocks) block.next) in
    let whole = passes_cover (graph d) costs (stretch_of d p b) (passes_in b - 1) (let some = passed b block.repeat in omega (arith, some)) in
    let passes = ap (λ n. passes_cost (graph d) costs (n - 1) (stretch_of d p b)) (ap passes_of has) in
    record {
      p = p;
      is = is;
      b = b;
      in_block = has;
      inside = some_code b.code block.ends;
      few = (let first = ap passes_of has in omega (arith, first));
      counted = counted;
      ks = b.entry;
      fit = fit;
      comes = tt;
      kept = refl;
      at_site = refl;
      typed = kept.typed;
      bracketed = (both_parts (is_bracketed b.code) (is_empty (opened b.code)) kept.balanced).0;
      cheap = omega (arith, covers, cost, whole, passes);
      shallow = omega (arith, deep);
    }

-- ** the first registers

none_read : (n r : ℕ) → read {A = Option Value} None (replicate n None) r ≡ None
none_read zero r = refl
none_read (suc n) zero = refl
none_read (suc n) (suc r) = none_read n r

unset_read : (rest : Kinds) (r : ℕ) → Each (λ k. k ≡ kinds.unset) rest → read kinds.unset rest r ≡ kinds.unset
unset_read [] r all = refl
unset_read (k ∷ rest) zero all = all.0
unset_read (k ∷ rest) (suc r) all = unset_read rest r all.1

module _ (d : Definition) (s : Standing) where
  fit_from : (args : List Value) (params rest : Kinds) (n r : ℕ) → AllHold d s args params → Each (λ k. k ≡ kinds.unset) rest →
      holds d s (read kinds.unset (params ++ rest) r) (read None (map (λ (v : Value). Some v) args ++ replicate n None) r) ≡ true
  fit_from [] [] rest n r all unset =
      ap (λ k. holds d s k (read None (replicate n None) r)) (unset_read rest r unset) ∙ ap (holds d s kinds.unset) (none_read n r)
  fit_from [] (k ∷ params) rest n r all unset = absurd all
  fit_from (v ∷ args) [] rest n r all unset = absurd all
  fit_from (v ∷ args) (k ∷ params) rest n zero all unset = all.0
  fit_from (v ∷ args) (k ∷ params) rest n (suc r) all unset = fit_from args params rest n r all.1 unset

  as_many : (args : List Value) (params : Kinds) → AllHold d s args params → length args ≡ length params
  as_many [] [] all = refl
  as_many [] (k ∷ params) all = absurd all
  as_many (v ∷ args) [] all = absurd all
  as_many (v ∷ args) (k ∷ params) all = let h = as_many args params all.1 in omega (arith, h)

length_both : (args : List Value) (n : ℕ) → length (map (λ (v : Value). Some v) args ++ replicate n None) ≡ length args + n
length_both [] n = length_none n
  where
    length_none : (n : ℕ) → length (replicate {A = Option Value} n None) ≡ 0 + n
    length_none zero = refl
    length_none (suc n) = let h = length_none n in omega (arith, h)
length_both (v ∷ args) n = let h = length_both args n in omega (arith, h)

pub first_registers_fit : FirstRegistersFit
first_registers_fit d read_well s number p b args is has all =
    let program = read_well.programs number p is in
    let first = program.first b has in
    let n = p.registers - length args in
    let count = as_many d s args p.params all in
    let room = program.params in
    let long = length_both args n in (
      omega (arith, count, room, long),
      λ r. subst (λ entry. holds d s (read kinds.unset entry r) (read None (first_registers p args) r) ≡ true) (sym first.1)
          (fit_from d s args p.params first.0 n r all first.2),
    )
