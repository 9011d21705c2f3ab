-- How a program's rest goes on past an instruction, and where a program begins.
use Rattle.std.proofs.Common.{◌≡◌, refl, sym, ap, subst, ◌∙◌, ℕ, zero, suc, ◌+◌, ◌-◌, ◌<◌, ◌≤◌, true, false, List, [], ◌∷◌, ◌++◌, length, drop, Option, None, Some, slice_get, arith}
use Rattle.std.specs.Prelude.{◌&&◌}
use Rattle.std.specs.List.{flat_map}
use Rattle.ui_machine.specs.Definition.{Definition}
use Rattle.ui_machine.specs.Definition.Programs.{Instruction, Block, Program}
use Rattle.ui_machine.specs.Definition.Programs as words
use Rattle.ui_machine.specs.State.Tasks.{Registers, Frame}
use Rattle.law_typing.specs.Rules.RegisterKinds.{Kinds}
use Rattle.law_typing.specs.Rules.Typing.{again, after, first_broken}
use Rattle.law_typing.specs.Rules.Brackets.{opened, keeps, keeps_brackets, is_bracketed}
use Rattle.law_typing.specs.Graph.{graph, start_of, starts_of, stretch_of, stretches_of, next_of}
use Rattle.law_typing.specs.Graph.Tables.{Tables}
use Rattle.law_typing.specs.Graph.Costs.{start_cost, passes_cost, code_cost}
use Rattle.law_typing.specs.Laws.{IsIn}
use Rattle.law_typing.specs.Laws.WellRead.{WellRead, ends, Ends}
use Rattle.law_typing.specs.Good.Standing.{Standing, RegistersFit}
use Rattle.law_typing.specs.Good.ComingDown.{Down, none, awaited, Comes}
use Rattle.law_typing.specs.Good.Programs.{RunningGood, kinds_before}
use Rattle.law_typing.proofs.Lists.{both_parts, map_in}
use Rattle.law_typing.proofs.CostProofs.{depths_cover}
use Rattle.law_static.specs.Sites.{kinds_at}
use Rattle.law_static.specs.Code.{Taken, InstructionsTaken, gone_on, ProgramsGoOn, ProgramsWait}
use Rattle.law_static.proofs.SiteProofs.{first_typed, started_at}
use Rattle.law_static.proofs.SubclassProofs.{get_in}

-- ** the code from an instruction on

pub from_at : (code : List Instruction) (at : ℕ) (i : Instruction) → slice_get code at ≡ Some i → drop at code ≡ i ∷ drop (suc at) code
from_at [] at i e = absurd (cc)
from_at (j ∷ code) zero i e = let s : j ≡ i = cc in ap (λ j. j ∷ code) s
from_at (j ∷ code) (suc at) i e = from_at code at i e

-- what does not end a block has an instruction after it
not_last : (code : List Instruction) (at : ℕ) (i : Instruction) → Ends code → slice_get code at ≡ Some i → ends i ≡ false → suc at < length code
not_last [] at i block e f = absurd block
not_last (j ∷ []) zero i block e f = absurd (let s : ends j ≡ ends i = ap ends (let t : j ≡ i = cc in t) in cc)
not_last (j ∷ []) (suc at) i block e f = absurd (cc)
not_last (j ∷ k ∷ code) zero i block e f = omega arith
not_last (j ∷ k ∷ code) (suc at) i block e f = let h = not_last (k ∷ code) at i block.1 e f in omega (arith, h)

next_kinds : (d : Definition) (p : Program) (ks : Kinds) (at : ℕ) (code : List Instruction) (i : Instruction) → slice_get code at ≡ Some i →
    kinds_before d p ks (suc at) code ≡ after d p (kinds_before d p ks at code) i
next_kinds d p ks at [] i e = absurd (cc)
next_kinds d p ks zero (j ∷ code) i e = let s : j ≡ i = cc in ap (after d p ks) s
next_kinds d p ks (suc at) (j ∷ code) i e = next_kinds d p (after d p ks j) at code i e

pub next_none : (i : Instruction) → ends i ≡ false → next_of i ≡ []
next_none (words.jump to) e = absurd (cc)
next_none (words.branch on then_to else_to) e = absurd (cc)
next_none (words.branch_null on then_to else_to) e = absurd (cc)
next_none _ e = refl

pub awaited_none : (ks : Kinds) (into : Option ℕ) → awaited ks into none ≡ ks
awaited_none ks None = refl
awaited_none ks (Some to) = refl

-- ** the instruction that is due

module _ (d : Definition) (costs depths : Tables) (s : Standing) (f : Frame) (steps frames : ℕ) (r : RunningGood d costs depths s none f steps frames)
    (i : Instruction) (is : slice_get r.b.code f.at ≡ Some i) where
  abbrev pub rest : List Instruction
  rest = drop (suc f.at) r.b.code

  here : drop f.at r.b.code ≡ i ∷ rest
  here = from_at r.b.code f.at i is

  broken : first_broken d r.p (again r.b) f.at r.ks (i ∷ rest) ≡ None
  broken = subst (λ code. first_broken d r.p (again r.b) f.at r.ks code ≡ None) here (subst (λ ks. first_broken d r.p (again r.b) f.at ks (drop f.at r.b.code) ≡ None) (awaited_none r.ks f.into) r.typed)

  kept : (keeps_brackets (opened rest) i && is_bracketed rest) ≡ true
  kept = subst (λ code. is_bracketed code ≡ true) here r.bracketed

  -- what the passes that are left cost
  abbrev pub passes : ℕ
  passes = passes_cost (graph d) costs (f.passes - 1) (stretch_of d r.p r.b)

  pub cheap : passes + code_cost (graph d) costs (stretches_of d r.p) (starts_of d r.p r.ks (i ∷ rest)) (flat_map next_of (i ∷ rest)) ≤ steps
  cheap =
      subst (λ code. passes + code_cost (graph d) costs (stretches_of d r.p) (starts_of d r.p r.ks code) (flat_map next_of code) ≤ steps) here
      (subst (λ ks. passes + code_cost (graph d) costs (stretches_of d r.p) (starts_of d r.p ks (drop f.at r.b.code)) (flat_map next_of (drop f.at r.b.code)) ≤ steps)
      (awaited_none r.ks f.into) r.cheap)

  site_kinds : r.ks ≡ kinds_at d r.p r.b f.at
  site_kinds = sym (awaited_none r.ks f.into) ∙ r.at_site

  start_in : IsIn (start_of d r.ks i) (stretch_of d r.p r.b).starts
  start_in = subst (λ ks. IsIn (start_of d ks i) (stretch_of d r.p r.b).starts) (sym site_kinds) (started_at d r.p f.at r.b.entry r.b.code i is)

  stretch_in : IsIn (stretch_of d r.p r.b) (stretches_of d r.p)
  stretch_in = map_in (stretch_of d r.p) r.p.blocks r.b (get_in r.p.blocks f.block r.b r.in_block)

  taken : Taken d costs depths s f steps frames r i
  taken = record {
    typed = (first_typed d r.p (again r.b) f.at r.ks i rest broken).0;
    at_site = site_kinds;
    brackets = (both_parts (keeps_brackets (opened rest) i) (is_bracketed rest) kept).0;
    cheap = (let c = cheap in omega (arith, c));
    shallow = (let deep = depths_cover.0 depths (stretches_of d r.p) (stretch_of d r.p r.b) (start_of d r.ks i) stretch_in start_in in let most = r.shallow in omega (arith, deep, most));
  }

  goes_on : WellRead d → ends i ≡ false → (z : Standing) (registers : Registers) → length registers ≡ r.p.registers → RegistersFit d z (after d r.p r.ks i) registers →
      RunningGood d costs depths z none (gone_on f registers) (steps - (1 + start_cost (graph d) costs (start_of d r.ks i))) frames
  goes_on read more z registers counted fit = record {
    p = r.p;
    is = r.is;
    b = r.b;
    in_block = r.in_block;
    inside = not_last r.b.code f.at i ((read.programs f.program r.p r.is).blocks f.block r.b r.in_block).ends is more;
    few = r.few;
    counted = counted;
    ks = after d r.p r.ks i;
    fit = fit;
    comes = tt;
    kept = refl;
    at_site = ap (λ ks. after d r.p ks i) site_kinds ∙ sym (next_kinds d r.p r.b.entry f.at r.b.code i is);
    typed = (first_typed d r.p (again r.b) f.at r.ks i rest broken).1;
    bracketed = (both_parts (keeps_brackets (opened rest) i) (is_bracketed rest) kept).1;
    cheap = (let c =
        subst (λ next. passes + code_cost (graph d) costs (stretches_of d r.p) (starts_of d r.p r.ks (i ∷ rest)) (next ++ flat_map next_of rest) ≤ steps) (next_none i more) cheap in
        omega (arith, c));
    shallow = r.shallow;
  }

  waits : WellRead d → ends i ≡ false → (z : Standing) (into : Option ℕ) (up : Down) → Comes into up → keeps (opened rest) into ≡ true → awaited r.ks into up ≡ after d r.p r.ks i →
      RegistersFit d z r.ks f.registers → RunningGood d costs depths z up (record f { at = suc f.at; into = into }) (steps - (1 + start_cost (graph d) costs (start_of d r.ks i))) frames
  waits read more z into up comes closed comes_down fit = record {
    p = r.p;
    is = r.is;
    b = r.b;
    in_block = r.in_block;
    inside = not_last r.b.code f.at i ((read.programs f.program r.p r.is).blocks f.block r.b r.in_block).ends is more;
    few = r.few;
    counted = r.counted;
    ks = r.ks;
    fit = fit;
    comes = comes;
    kept = closed;
    at_site = comes_down ∙ (ap (λ ks. after d r.p ks i) site_kinds ∙ sym (next_kinds d r.p r.b.entry f.at r.b.code i is));
    typed = subst (λ ks. first_broken d r.p (again r.b) (suc f.at) ks rest ≡ None) (sym comes_down) (first_typed d r.p (again r.b) f.at r.ks i rest broken).1;
    bracketed = (both_parts (keeps_brackets (opened rest) i) (is_bracketed rest) kept).1;
    cheap = subst (λ ks. passes + code_cost (graph d) costs (stretches_of d r.p) (starts_of d r.p ks rest) (flat_map next_of rest) ≤ steps - (1 + start_cost (graph d) costs (start_of d r.ks i))) (sym comes_down) (let c =
        subst (λ next. passes + code_cost (graph d) costs (stretches_of d r.p) (starts_of d r.p r.ks (i ∷ rest)) (next ++ flat_map next_of rest) ≤ steps) (next_none i more) cheap in
        omega (arith, c));
    shallow = r.shallow;
  }

pub instructions_taken : InstructionsTaken
instructions_taken d costs depths s f steps frames r i is = taken d costs depths s f steps frames r i is

pub programs_go_on : ProgramsGoOn
programs_go_on d read costs depths s z f steps frames r i is more registers counted fit =
    goes_on d costs depths s f steps frames r i is read more z registers counted fit

pub programs_wait : ProgramsWait
programs_wait d read costs depths s z f steps frames r i is more into up comes closed comes_down fit =
    waits d costs depths s f steps frames r i is read more z into up comes closed comes_down fit
