-- A program goes on at the first instruction of a block.
use Rattle.std.proofs.Common.{◌≡◌, refl, sym, ap, ◌∙◌, ℕ, zero, suc, ◌-◌, ◌≤◌, true, false, List, [], ◌∷◌, length, drop, None, Some, slice_get, arith}
use Rattle.std.specs.List.{flat_map}
use Rattle.ui_machine.specs.Definition.{Definition}
use Rattle.ui_machine.specs.Definition.Lookups.{program_at}
use Rattle.ui_machine.specs.Definition.Programs.{Instruction, Block, passes_in}
use Rattle.ui_machine.specs.Definition.Programs as words
use Rattle.ui_machine.specs.State.Tasks.{Frame, Running}
use Rattle.law_typing.specs.Rules.Brackets.{opened, is_empty, is_bracketed}
use Rattle.law_typing.specs.Graph.{graph, next_of, stretch_of, stretches_of}
use Rattle.law_typing.specs.Graph.Costs.{block_cost}
use Rattle.law_typing.specs.Graph.Depths.{depth}
use Rattle.law_typing.specs.Laws.{IsIn}
use Rattle.law_typing.specs.Laws.WellRead.{ends, Ends}
use Rattle.law_typing.specs.Laws.StepsKeepGood.{IsGood}
use Rattle.law_typing.specs.Good.Standing.{standing, view, RegistersFit}
use Rattle.law_typing.specs.Good.ComingDown.{none}
use Rattle.law_typing.specs.Good.Programs.{RunningGood, code_of, code_of_block, code_left}
use Rattle.law_typing.specs.Good.Freezes.{QueuesGood}
use Rattle.law_typing.proofs.Lists.{both_parts, greatest_in}
use Rattle.law_typing.proofs.CostProofs.{blocks_cover, passes_cover}
use Rattle.law_typing.proofs.EdgeProofs.{append_left}
use Rattle.law_static.proofs.SiteProofs.{blocks_keep}
use Rattle.law_static.proofs.CodeProofs.{cheap}
use Rattle.law_static.proofs.BeginProofs.{get_map, some_code, later, passed}
use Rattle.law_steps.specs.Instructed.Running.{at_top}
use Rattle.law_steps.proofs.Instructed.Frozen.{is_bracket, opened_past, frozen_same}
use Rattle.law_steps.proofs.Instructed.Passes.{empty_is}
use Rattle.law_steps.proofs.Instructed.Around.{Due, goes_to, r, here}
use Rattle.law_steps.proofs.Instructed.Written.{code_here, serves_itself}

-- ** the last instruction of a block

none_after : (code : List Instruction) (at : ℕ) (i : Instruction) → Ends code → slice_get code at ≡ Some i → ends i ≡ true → drop (suc at) code ≡ []
none_after [] at i block e f = absurd block
none_after (j ∷ []) zero i block e f = refl
none_after (j ∷ []) (suc at) i block e f = absurd (cc)
none_after (j ∷ k ∷ code) zero i block e f = absurd (let s : ends j ≡ ends i = ap ends (let t : j ≡ i = cc in t) in let b = block.0 in cc)
none_after (j ∷ k ∷ code) (suc at) i block e f = none_after (k ∷ code) at i block.1 e f

pub ends_plain : (i : Instruction) → ends i ≡ true → is_bracket i ≡ false
ends_plain (words.freeze r) e = absurd (cc)
ends_plain (words.thaw r) e = absurd (cc)
ends_plain _ e = refl

module _ {d : Definition} {i : Instruction} (t : Due d i) (last : ends i ≡ true) where
  open t use {well, a, most_counted, w, f, rest, n, g}

  -- no bracket is open
  pub none_open : opened (code_left d f) ≡ []
  none_open =
      let block = (well.programs f.program (r t).p (r t).is).blocks f.block (r t).b (r t).in_block in
      let none = none_after (r t).b.code f.at i block.ends (here t) last in
      ap opened (code_here t (ends_plain i last)) ∙ (opened_past i (drop (suc f.at) (r t).b.code) (ends_plain i last) ∙ ap opened none)

  -- the frame at the beginning of a block
  abbrev pub landed : ℕ → Block → Frame
  landed to b = record f { block = to; at = 0; passes = passes_in b; into = None }

  -- what is left of the steps pays for the block
  pays : (to : ℕ) → IsIn to (next_of i) → suc (block_cost (graph d) a.weighed.costs (stretches_of d (r t).p) to) ≤ g.agenda.0
  pays to next =
      let all = flat_map next_of (i ∷ drop (suc f.at) (r t).b.code) in
      let c = cheap d a.weighed.costs a.weighed.depths (standing w.objects) f g.agenda.0 g.agenda.1 (r t) i (here t) in
      let in_all = append_left (next_of i) (flat_map next_of (drop (suc f.at) (r t).b.code)) to next in
      let most = greatest_in (block_cost (graph d) a.weighed.costs (stretches_of d (r t).p)) all to in_all in
      omega (arith, c, most)

  running_good : (to : ℕ) (b : Block) → slice_get (r t).p.blocks to ≡ Some b → RegistersFit d (standing w.objects) b.entry f.registers → IsIn to (next_of i) →
      RunningGood d a.weighed.costs a.weighed.depths (standing w.objects) none (landed to b) (g.agenda.0 - 1) g.agenda.1
  running_good to b has fit next =
      let p = (r t).p in
      let block = (well.programs f.program p (r t).is).blocks to b has in
      let kept = blocks_keep d a f.program to p b (record { is = (r t).is; has = has }) in
      let covers = blocks_cover (graph d) a.weighed.costs (stretches_of d p) to (stretch_of d p b) (get_map (stretch_of d p) p.blocks to b has) (later b.code to (length p.blocks) block.next) in
      let whole = passes_cover (graph d) a.weighed.costs (stretch_of d p b) (passes_in b - 1) (let some = passed b block.repeat in omega (arith, some)) in
      let paid = pays to next in
      record {
        p = p;
        is = (r t).is;
        b = b;
        in_block = has;
        inside = some_code b.code block.ends;
        few = omega arith;
        counted = (r t).counted;
        ks = b.entry;
        fit = fit;
        comes = tt;
        kept = refl;
        at_site = refl;
        typed = kept.typed;
        bracketed = (both_parts (is_bracketed b.code) (is_empty (opened b.code)) kept.balanced).0;
        cheap = omega (arith, covers, whole, paid);
        shallow = (r t).shallow;
      }

  queues_stay : (to : ℕ) (b : Block) → slice_get (r t).p.blocks to ≡ Some b → QueuesGood d a.weighed.depths (depth (graph d) a.weighed.depths) (Running (landed to b) ∷ rest) (suc n) w.objects
  queues_stay to b has id o is =
      let q = g.queues id o is in
      let kept = blocks_keep d a f.program to (r t).p b (record { is = (r t).is; has = has }) in
      let code : code_of to (program_at d f.program) ≡ b.code = ap (code_of to) (r t).is ∙ ap code_of_block has in
      let empty : opened (code_left d (landed to b)) ≡ [] = ap opened code ∙ empty_is (opened b.code) (both_parts (is_bracketed b.code) (is_empty (opened b.code)) kept.balanced).1 in
      let same = frozen_same d id f (landed to b) (empty ∙ sym none_open) (λ r among. refl) in
      record {
        count = (let old = q.count in omega (arith, same, old));
        few = (let old = q.few in omega (arith, old));
        none = q.none;
        deep = q.deep;
      }

  pub lands : (to : ℕ) (b : Block) → slice_get (r t).p.blocks to ≡ Some b → RegistersFit d (standing w.objects) b.entry f.registers → IsIn to (next_of i) →
      IsGood d a most_counted (at_top w (landed to b) rest (suc n))
  lands to b has fit next =
      let paid = pays to next in
      goes_to t w (landed to b) (g.agenda.0 - 1)
      (record {
        whole = record {
          objects = g.objects;
          handlers = g.handlers;
          bindings = g.bindings;
          sources = g.sources;
          held = g.held;
          floating = g.floating;
          objects_first = g.objects_first;
        };
        served = serves_itself d rest (view w);
        pool = g.peers;
        same = refl;
        running = running_good to b has fit next;
        queues = queues_stay to b has;
        few = omega arith;
        queued = omega (arith, paid);
      })
