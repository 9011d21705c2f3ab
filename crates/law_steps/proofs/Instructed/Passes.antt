-- Passes of a block: where a program takes the instructions of its block again, it is good at the first of them as well.
use Rattle.std.proofs.Common.{◌≡◌, refl, sym, ap, subst, ◌∙◌, ℕ, zero, suc, ◌+◌, ◌-◌, ◌*◌, ◌<◌, ◌≤◌, Bool, true, false, cond, List, [], ◌∷◌, ◌++◌, length, drop, Option, None, Some, slice_get, arith}
use Rattle.std.specs.Prelude.{◌&&◌, option_map}
use Rattle.std.specs.List.{flat_map}
use Rattle.std.proofs.lemmas.Bool.{eqb-true, ltb-true}
use Rattle.ui_machine.specs.Seq.{read}
use Rattle.ui_machine.specs.Definition.Kinds as kinds
use Rattle.ui_machine.specs.Definition.{Definition}
use Rattle.ui_machine.specs.Definition.Lookups.{program_at}
use Rattle.ui_machine.specs.Definition.Programs.{Instruction, Block, Program, said_or_once, passes_in}
use Rattle.ui_machine.specs.Definition.Programs as words
use Rattle.ui_machine.specs.State.References.{next_unheld, mentions}
use Rattle.ui_machine.specs.State.Tasks.{Registers, Frame, Running, Task}
use Rattle.ui_machine.specs.State.Config.{World}
use Rattle.ui_machine.specs.Instructions.{running}
use Rattle.ui_machine.specs.Instructions.Jumps.{block_in, is_past_first, has_pass, is_at_last, is_again, in_pass}
use Rattle.law_typing.specs.Rules.RegisterKinds.{Kinds, kind_in, fits, kinds_fit}
use Rattle.law_typing.specs.Rules.Typing.{after, again, first_broken}
use Rattle.law_typing.specs.Rules.Brackets.{opened, keeps, is_empty, is_bracketed}
use Rattle.law_typing.specs.Graph.{Stretch, graph, next_of, starts_of, stretch_of, stretches_of}
use Rattle.law_typing.specs.Graph.Tables.{Tables, greatest}
use Rattle.law_typing.specs.Graph.Costs.{starts_cost, before_last, block_cost, passes_cost, code_cost}
use Rattle.law_typing.specs.Graph.Depths.{depth}
use Rattle.law_typing.specs.Verdict.Accepted.{Accepted}
use Rattle.law_typing.specs.Laws.WellRead.{WellRead, TypesRead, Ends, is_jump, EndsInJump, RepeatRead}
use Rattle.law_typing.specs.Laws.StepsKeepGood.{IsGood}
use Rattle.law_typing.specs.Good.Standing.{Standing, standing, RegistersFit}
use Rattle.law_typing.specs.Good.ComingDown.{none, Comes}
use Rattle.law_typing.specs.Good.Programs.{RunningGood, kinds_before, code_of, code_of_block, code_left}
use Rattle.law_typing.specs.Good.Freezes.{QueuesGood}
use Rattle.law_typing.proofs.Lists.{both_parts}
use Rattle.law_static.proofs.SiteProofs.{blocks_keep, fits_again}
use Rattle.law_static.proofs.CodeProofs.{next_none, awaited_none}
use Rattle.law_static.proofs.BeginProofs.{some_code}
use Rattle.law_static.proofs.FitsProofs.{holds_fits}
use Rattle.law_steps.specs.Kept.Alike.{Alike}
use Rattle.law_steps.proofs.Kept.AlikeProofs.{whole_stays, build_stays}
use Rattle.law_steps.specs.Instructed.Running.{at_top, block_if, in_pass_if, taking, instruction_at}
use Rattle.law_steps.proofs.Instructed.Frozen.{frozen_same}

-- ** kinds of a block

kind_fits_at : (d : Definition) (ks es : Kinds) (r : ℕ) → kinds_fit d ks es ≡ true → fits d (kind_in ks r) (kind_in es r) ≡ true
kind_fits_at d ks [] r e = refl
kind_fits_at d [] (k ∷ es) zero e = (both_parts (fits d kinds.unset k) (kinds_fit d [] es) e).0
kind_fits_at d [] (k ∷ es) (suc r) e = kind_fits_at d [] es r (both_parts (fits d kinds.unset k) (kinds_fit d [] es) e).1
kind_fits_at d (x ∷ ks) (k ∷ es) zero e = (both_parts (fits d x k) (kinds_fit d ks es) e).0
kind_fits_at d (x ∷ ks) (k ∷ es) (suc r) e = kind_fits_at d ks es r (both_parts (fits d x k) (kinds_fit d ks es) e).1

-- registers that hold what some kinds say hold what kinds say that these fit
pub fit_entry : (d : Definition) → TypesRead d → (s : Standing) (ks es : Kinds) (registers : Registers) → kinds_fit d ks es ≡ true → RegistersFit d s ks registers →
    RegistersFit d s es registers
fit_entry d types s ks es registers e fit r = holds_fits d types s (kind_in ks r) (kind_in es r) (read None registers r) (kind_fits_at d ks es r e) (fit r)

pub empty_is : (xs : List ℕ) → is_empty xs ≡ true → xs ≡ []
empty_is [] e = refl
empty_is (x ∷ xs) e = absurd (cc)

keeps_none : (o : Option ℕ) → keeps [] o ≡ true
keeps_none None = refl
keeps_none (Some r) = refl

-- no register waits where nothing comes
pub no_register : (into : Option ℕ) → Comes into none → into ≡ None
no_register None c = refl
no_register (Some to) c = absurd (let e = c.1 in cc)

-- ** a block that is passed again

-- it says how often it is passed
repeated : (o : Option ℕ) (code : List Instruction) → RepeatRead o code → 1 < said_or_once o → EndsInJump code
repeated None code read more = absurd (omega (arith, more))
repeated (Some n) code read more = read.2

says_so : (o : Option ℕ) (entry : Kinds) → 1 < said_or_once o → option_map (λ (n : ℕ). entry) o ≡ Some entry
says_so None entry more = absurd (omega (arith, more))
says_so (Some n) entry more = refl

jump_is : (i : Instruction) → is_jump i ≡ true → (to : ℕ) × (i ≡ words.jump to)
jump_is (words.jump to) e = (to, refl)
jump_is _ e = absurd (cc)

-- its last instruction is a jump
last_is : (code : List Instruction) (at : ℕ) → EndsInJump code → suc at ≡ length code → (to : ℕ) × (drop at code ≡ words.jump to ∷ [])
last_is [] at h e = absurd h
last_is (i ∷ []) zero h e = let j = jump_is i h in (j.0, ap (λ i. i ∷ []) j.1)
last_is (i ∷ []) (suc at) h e = absurd (omega (arith, e))
last_is (i ∷ j ∷ rest) zero h e = absurd (omega (arith, e))
last_is (i ∷ j ∷ rest) (suc at) h e = last_is (j ∷ rest) at h (omega (arith, e))

-- all of it costs what its instructions before the last do, and what there is from the last on
whole_costs : (d : Definition) (p : Program) (t : Tables) (stretches : List Stretch) (ks : Kinds) (code : List Instruction) (at : ℕ) → Ends code → suc at ≡ length code →
    code_cost (graph d) t stretches (starts_of d p ks code) (flat_map next_of code)
    ≡ starts_cost (graph d) t (before_last (starts_of d p ks code))
    + code_cost (graph d) t stretches (starts_of d p (kinds_before d p ks at code) (drop at code)) (flat_map next_of (drop at code))
whole_costs d p t stretches ks [] at block e = absurd block
whole_costs d p t stretches ks (i ∷ []) zero block e = omega arith
whole_costs d p t stretches ks (i ∷ []) (suc at) block e = absurd (omega (arith, e))
whole_costs d p t stretches ks (i ∷ j ∷ rest) zero block e = absurd (omega (arith, e))
whole_costs d p t stretches ks (i ∷ j ∷ rest) (suc at) block e =
    let ih = whole_costs d p t stretches (after d p ks i) (j ∷ rest) at block.1 (omega (arith, e)) in
    let none = ap (λ next. greatest (block_cost (graph d) t stretches) (next ++ flat_map next_of (j ∷ rest))) (next_none i block.0) in
    omega (arith, ih, none)

one_more : (m b : ℕ) → suc m * b ≡ m * b + b
one_more m b = grind arith

-- ** the program in its next pass

module _ (d : Definition) (well : WellRead d) (a : Accepted d) (most_counted : ℕ) (w : World) (f : Frame) (rest : List Task) (n : ℕ)
    (g : IsGood d a most_counted (at_top w f rest n)) where
  abbrev costs : Tables
  costs = a.weighed.costs

  abbrev depths : Tables
  depths = a.weighed.depths

  abbrev r : RunningGood d costs depths (standing w.objects) none f g.agenda.0 g.agenda.1
  r = g.agenda.3.1

  abbrev next : Frame
  next = record f { at = 0; passes = f.passes - 1 }

  -- what is known of the block where it is passed again
  record Again : Type 0 where
    pub more : 1 < f.passes
    pub last : suc f.at ≡ length r.b.code
    pub ends : Ends r.b.code
    pub to : ℕ
    pub jump : drop f.at r.b.code ≡ words.jump to ∷ []
    pub fits : kinds_fit d r.ks r.b.entry ≡ true

  again_is : is_again r.b f ≡ true → Again
  again_is e =
      let parts = both_parts (is_past_first f) (has_pass f && is_at_last r.b f) e in
      let two = both_parts (has_pass f) (is_at_last r.b f) parts.1 in
      let more : 1 < f.passes = ltb-true 1 f.passes two.0 in
      let last : suc f.at ≡ length r.b.code = eqb-true (suc f.at) (length r.b.code) two.1 in
      let block = (well.programs f.program r.p r.is).blocks f.block r.b r.in_block in
      let many : 1 < passes_in r.b = (let few = r.few in omega (arith, more, few)) in
      let jump = last_is r.b.code f.at (repeated r.b.repeat r.b.code block.repeat many) last in
      let typed = subst (λ ks. first_broken d r.p (again r.b) f.at ks (drop f.at r.b.code) ≡ None) (awaited_none r.ks f.into) r.typed in
      let own = subst (λ own. first_broken d r.p own f.at r.ks (drop f.at r.b.code) ≡ None) (says_so r.b.repeat r.b.entry many) typed in
      record {
        more = more;
        last = last;
        ends = block.ends;
        to = jump.0;
        jump = jump.1;
        fits = fits_again d r.p r.b.entry f.at r.ks jump.0 [] (subst (λ code. first_broken d r.p (Some r.b.entry) f.at r.ks code ≡ None) jump.1 own);
      }

  open_before : Again → opened (code_left d f) ≡ []
  open_before x = ap opened (ap (drop f.at) (ap (code_of f.block) r.is ∙ ap code_of_block r.in_block) ∙ x.jump)

  open_after : opened r.b.code ≡ []
  open_after =
      let kept = blocks_keep d a f.program f.block r.p r.b (record { is = r.is; has = r.in_block }) in
      empty_is (opened r.b.code) (both_parts (is_bracketed r.b.code) (is_empty (opened r.b.code)) kept.balanced).1

  passes_good : Again → RunningGood d costs depths (standing w.objects) none next g.agenda.0 g.agenda.1
  passes_good x =
      let kept = blocks_keep d a f.program f.block r.p r.b (record { is = r.is; has = r.in_block }) in
      let whole = whole_costs d r.p costs (stretches_of d r.p) r.b.entry r.b.code f.at x.ends x.last in
      let body = starts_cost (graph d) costs (before_last (starts_of d r.p r.b.entry r.b.code)) in
      let two : f.passes - 1 ≡ suc (f.passes - 1 - 1) = (let more = x.more in omega (arith, more)) in
      let count = ap (λ m. m * body) two ∙ one_more (f.passes - 1 - 1) body in
      let cheap =
      subst (λ ks. passes_cost (graph d) costs (f.passes - 1) (stretch_of d r.p r.b) + code_cost (graph d) costs (stretches_of d r.p) (starts_of d r.p ks (drop f.at r.b.code)) (flat_map next_of (drop f.at r.b.code)) ≤ g.agenda.0)
      r.at_site r.cheap in
      record {
        p = r.p;
        is = r.is;
        b = r.b;
        in_block = r.in_block;
        inside = some_code r.b.code x.ends;
        few = (let few = r.few in omega (arith, few));
        counted = r.counted;
        ks = r.b.entry;
        fit = fit_entry d well.types (standing w.objects) r.ks r.b.entry f.registers x.fits r.fit;
        comes = r.comes;
        kept = subst (λ xs. keeps xs f.into ≡ true) (sym open_after) (keeps_none f.into);
        at_site = awaited_none r.b.entry f.into;
        typed = rw (awaited_none r.b.entry f.into) kept.typed;
        bracketed = (both_parts (is_bracketed r.b.code) (is_empty (opened r.b.code)) kept.balanced).0;
        cheap = rw (awaited_none r.b.entry f.into) (omega (arith, whole, count, cheap));
        shallow = r.shallow;
      }

  alike : Alike (Running f ∷ rest) (Running next ∷ rest)
  alike = record { items = λ f. refl; unset = λ number. refl; request_step = refl; makes = refl }

  queues_pass : Again → QueuesGood d depths (depth (graph d) depths) (Running next ∷ rest) n w.objects
  queues_pass x id o is =
      let q = g.queues id o is in
      let code : code_left d next ≡ r.b.code = ap (code_of f.block) r.is ∙ ap code_of_block r.in_block in
      let same = frozen_same d id f next (ap opened code ∙ (open_after ∙ sym (open_before x))) (λ r among. refl) in
      record {
        count = (let old = q.count in omega (arith, same, old));
        few = q.few;
        none = q.none;
        deep = q.deep;
      }

  good_again : Again → IsGood d a most_counted (at_top w next rest n)
  good_again x =
      let whole = whole_stays d costs depths (Running f ∷ rest) (Running next ∷ rest) w alike
      (record { objects = g.objects; handlers = g.handlers; bindings = g.bindings; sources = g.sources; held = g.held; floating = g.floating; objects_first = g.objects_first }) in
      record {
        objects = whole.objects;
        handlers = whole.handlers;
        bindings = whole.bindings;
        sources = whole.sources;
        peers = g.peers;
        build = build_stays d w.builder (Running f ∷ rest) (Running next ∷ rest) rest alike.makes g.build;
        held = whole.held;
        floating = whole.floating;
        sets = record { alone = g.sets.alone; first = g.sets.first; held = λ some. absurd (let none = g.sets.first in omega (arith, some, none)) };
        objects_first = whole.objects_first;
        budget = g.budget;
        agenda = (g.agenda.0, g.agenda.1, g.agenda.2, (tt, passes_good x), g.agenda.4, g.agenda.5, g.agenda.6);
        queues = queues_pass x;
        few = g.few;
        spent = g.spent;
      }

  -- ** the frame with which the next instruction is taken

  pub record Turned (h : Frame) : Type 0 where
    -- all is good with it, and it is in the pass in which it takes the instruction
    pub good : IsGood d a most_counted (at_top w h rest n)
    pub settled : taking d h ≡ h
    -- the machine takes the same step
    pub same : running d w rest h ≡ running d w rest f
    pub code : slice_get (code_of h.block (program_at d h.program)) h.at ≡ instruction_at d f
    pub held : next_unheld (mentions d (at_top w f rest n)) w.objects ≡ None → next_unheld (mentions d (at_top w h rest n)) w.objects ≡ None

  block_is : block_if f.block (program_at d f.program) ≡ Some r.b
  block_is = ap (block_if f.block) r.is ∙ r.in_block

  taking_is : taking d f ≡ in_pass r.b f
  taking_is = ap (λ o. in_pass_if o f) block_is

  same_step : (b : Block) → r.b ≡ b → in_pass b f ≡ next → running d w rest next ≡ running d w rest f
  unfolding running block_in
  same_step b e passed = rw (r.is, r.in_block, e, passed) refl

  pub turned : Turned (taking d f)
  turned = subst Turned (sym taking_is) (go (is_again r.b f) refl)
    where
      go : (again : Bool) → is_again r.b f ≡ again → Turned (cond again next f)
      go true e =
          let passed : in_pass r.b f ≡ next = ap (λ again. cond again next f) e in
          record {
            good = good_again (again_is e);
            settled = ap (λ o. in_pass_if o next) block_is;
            same = same_step r.b refl passed;
            code = ap (λ (h : Frame). slice_get (code_of f.block (program_at d f.program)) h.at) (sym (taking_is ∙ passed));
            held = λ held. held;
          }
      go false e =
          let stays : taking d f ≡ f = taking_is ∙ ap (λ again. cond again next f) e in
          record {
            good = g;
            settled = stays;
            same = refl;
            code = ap (λ (h : Frame). slice_get (code_of f.block (program_at d f.program)) h.at) (sym stays);
            held = λ held. held;
          }
