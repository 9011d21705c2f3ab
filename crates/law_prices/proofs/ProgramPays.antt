-- All instructions, and the task that takes one.
use Rattle.std.proofs.Common.{◌≡◌, refl, sym, ap, subst, ◌∙◌, suc, ◌+◌, ◌∷◌, Some, Ok, slice_get, arith}
use Rattle.std.specs.Prelude.{nat_lt}
use Rattle.ui_machine.specs.declared.arm.Arm.{Arm}
use Rattle.ui_machine.specs.declared.arm.Arm.TheVariants as arms
use Rattle.ui_machine.specs.Seq.{total}
use Rattle.ui_machine.specs.Definition.{Definition}
use Rattle.ui_machine.specs.Definition.Lookups.{program_at}
use Rattle.ui_machine.specs.Definition.Programs.{Block, Instruction, Program}
use Rattle.ui_machine.specs.Definition.Programs as words
use Rattle.ui_machine.specs.Instructions.{instruction_step, running}
use Rattle.ui_machine.specs.Instructions.Jumps.{block_in, in_pass, past}
use Rattle.ui_machine.specs.Outcome.{known}
use Rattle.ui_machine.specs.State.Config.{Config, Left}
use Rattle.ui_machine.specs.State.Tasks.{Frame, Running}
use Rattle.ui_machine.specs.Steps.{counted_left, left, most_steps}
use Rattle.law_typing.specs.Good.Programs.{code_of, code_of_block}
use Rattle.law_typing.specs.Good.Standing.{standing}
use Rattle.law_typing.specs.Graph.{start_of}
use Rattle.law_typing.specs.Graph.Tables.{Tables}
use Rattle.law_typing.specs.Laws.StepsKeepGood.{IsGood}
use Rattle.law_steps.specs.Instructed.Running.{block_if, in_pass_if, taking}
use Rattle.law_steps.proofs.Instructed.Around.{Due, here, r, taken}
use Rattle.law_steps.proofs.Instructed.Inverse.{bound, known_is, only}
use Rattle.law_steps.proofs.Instructed.Passes.{turned}
use Rattle.law_steps.proofs.Tasked.First.{First}
use Rattle.law_prices.specs.Deeds.{PriceList}
use Rattle.law_prices.specs.Deeds as deeds
use Rattle.law_prices.specs.Potential.{running_price}
use Rattle.law_prices.specs.Prices.{SolvesPrices, instruction_price, start_price, toll}
use Rattle.law_prices.specs.Steps.{instruction_deeds, more_deeds, running_deeds}
use Rattle.law_prices.proofs.ConnectPays.{connect_pays, dispose_pays}
use Rattle.law_prices.proofs.EndPays.{return_pays, stop_pays}
use Rattle.law_prices.proofs.Frames.{pass_price, past_price}
use Rattle.law_prices.proofs.JumpPays.{branch_null_pays, branch_pays, jump_pays}
use Rattle.law_prices.proofs.MakePays.{new_pays}
use Rattle.law_prices.proofs.MovePays.{adopt_pays, block_pays, disconnect_pays, freeze_pays, idle_pays, orphan_pays, remove_pays, sink_pays, timeout_pays, unbind_pays, unblock_pays}
use Rattle.law_prices.proofs.NotifyPays.{notify_pays, thaw_pays}
use Rattle.law_prices.proofs.Pays.{PaidThere, Pays, ok_is}
use Rattle.law_prices.proofs.RegisterPays as registers
use Rattle.law_prices.proofs.SendPays.{call_pays, emit_pays, set_pays}
use Rattle.law_prices.proofs.TaskFalls.{Falls, PaidHere, left_is}
use Rattle.law_prices.proofs.Whole.{paid_alike}

module _ (d : Definition) (P : PriceList) (t : Tables) (solves : SolvesPrices d P t) where
  -- each instruction is paid
  instructions_pay : (i : Instruction) (u : Due d i) → PaidThere u P t → (l : Left) → IsGood d u.a u.most_counted (record { world = l.world; agenda = l.agenda; counted = suc u.n }) →
      instruction_step d u.w u.rest (past u.f) i ≡ Ok l → Pays u P t l
  instructions_pay (words.const to kind v) u paid l good e = registers.const_pays d P t to kind v u paid l e
  instructions_pay (words.move to from) u paid l good e = registers.move_pays d P t to from u paid l e
  instructions_pay (words.clear to) u paid l good e = registers.clear_pays d P t to u paid l e
  instructions_pay (words.arithmetic operation to a b) u paid l good e = registers.arithmetic_pays d P t operation to a b u paid l e
  instructions_pay (words.compare comparison to a b) u paid l good e = registers.compare_pays d P t comparison to a b u paid l e
  instructions_pay (words.same to a b) u paid l good e = registers.same_pays d P t to a b u paid l e
  instructions_pay (words.negate to a) u paid l good e = registers.negate_pays d P t to a u paid l e
  instructions_pay (words.both to a b) u paid l good e = registers.both_pays d P t to a b u paid l e
  instructions_pay (words.either to a b) u paid l good e = registers.either_pays d P t to a b u paid l e
  instructions_pay (words.join to a b) u paid l good e = registers.join_pays d P t to a b u paid l e
  instructions_pay (words.convert to a kind) u paid l good e = registers.convert_pays d P t to a kind u paid l e
  instructions_pay (words.get to object name) u paid l good e = registers.get_pays d P t to object name u paid l e
  instructions_pay (words.set object name from) u paid l good e = set_pays d P t solves object name from u paid l e
  instructions_pay (words.object to id) u paid l good e = registers.object_pays d P t to id u paid l e
  instructions_pay (words.new to id) u paid l good e = new_pays d P t solves to id u paid l e
  instructions_pay (words.sink object) u paid l good e = sink_pays d P t object u paid l e
  instructions_pay (words.orphan object) u paid l good e = orphan_pays d P t object u paid l e
  instructions_pay (words.dispose object) u paid l good e = dispose_pays d P t object u paid l e
  instructions_pay (words.adopt to parent child) u paid l good e = adopt_pays d P t to parent child u paid l e
  instructions_pay (words.freeze object) u paid l good e = freeze_pays d P t object u paid l e
  instructions_pay (words.thaw object) u paid l good e = thaw_pays d P t solves object u paid l e
  instructions_pay (words.emit into object name detail args) u paid l good e = emit_pays d P t solves into object name detail args u paid l e
  instructions_pay (words.notify object name) u paid l good e = notify_pays d P t solves object name u paid l e
  instructions_pay (words.connect to object c) u paid l good e = connect_pays d P t solves to object c u paid l good e
  instructions_pay (words.disconnect object program) u paid l good e = disconnect_pays d P t object program u paid l e
  instructions_pay (words.block object program) u paid l good e = block_pays d P t object program u paid l e
  instructions_pay (words.unblock object program) u paid l good e = unblock_pays d P t object program u paid l e
  instructions_pay words.stop u paid l good e = stop_pays d P t u paid l e
  instructions_pay (words.unbind name) u paid l good e = unbind_pays d P t name u paid l e
  instructions_pay (words.idle to program priority with) u paid l good e = idle_pays d P t to program priority with u paid l e
  instructions_pay (words.timeout to program priority interval with) u paid l good e = timeout_pays d P t to program priority interval with u paid l e
  instructions_pay (words.remove program) u paid l good e = remove_pays d P t program u paid l e
  instructions_pay (words.call to object name args) u paid l good e = call_pays d P t solves to object name args u paid l e
  instructions_pay (words.jump to) u paid l good e = jump_pays d P t solves to u paid l e
  instructions_pay (words.branch on then_to else_to) u paid l good e = branch_pays d P t solves on then_to else_to u paid l e
  instructions_pay (words.branch_null on then_to else_to) u paid l good e = branch_null_pays d P t solves on then_to else_to u paid l e
  instructions_pay (words.return from) u paid l good e = return_pays d P t from u paid l e

  module _ (f : Frame) (x : First d (Running f)) (paid : PaidHere d P t x) where
    open x use {well, a, most_counted, w, rest, n, g}

    -- the program and the block that it is in
    abbrev p : Program
    p = g.agenda.3.1.p

    abbrev b : Block
    b = g.agenda.3.1.b

    block_is : block_in d f ≡ Ok b
    unfolding block_in
    block_is = let is = g.agenda.3.1.is in let has = g.agenda.3.1.in_block in rw (is, has) refl

    code_is : code_of f.block (program_at d f.program) ≡ b.code
    code_is = ap (code_of f.block) g.agenda.3.1.is ∙ ap code_of_block g.agenda.3.1.in_block

    taking_is : taking d f ≡ in_pass b f
    taking_is = ap (λ o. in_pass_if o f) (ap (block_if f.block) g.agenda.3.1.is ∙ g.agenda.3.1.in_block)

    module _ (i : Instruction) (at : slice_get b.code (in_pass b f).at ≡ Some i) where
      abbrev due : Due d i
      due =
          let next = turned d well a most_counted w f rest n g in
          record {
            well = well;
            a = a;
            most_counted = most_counted;
            w = w;
            f = taking d f;
            rest = rest;
            n = n;
            g = next.good;
            is = next.code ∙ (ap (λ code. slice_get code (taking d f).at) code_is ∙ (ap (λ (f : Frame). slice_get b.code f.at) taking_is ∙ at));
            settled = next.settled;
          }

      -- what is left of the program pays the instruction and the rest
      passed_on : P (deeds.instruction (taking d f).program (taking d f).block (taking d f).at)
          + (toll d P (r due).ks i + start_price d P t (start_of d (r due).ks i) + running_price d P t (past (taking d f))) ≡ running_price d P t f
      passed_on =
          let again = pass_price d P t f p b g.agenda.3.1.is g.agenda.3.1.in_block in
          let turn = ap (running_price d P t) taking_is in
          let next = past_price d P t (taking d f) (r due).p (r due).b i (r due).is (r due).in_block (here due) in
          let kinds = ap (λ ks. instruction_price d P t (taking d f).program (taking d f).block (taking d f).at ks i) (taken due).at_site in
          omega (arith, again, turn, next, kinds)

      taken_falls : (l : Left) → instruction_step d w rest (past (taking d f)) i ≡ Ok l → IsGood d a most_counted (record { world = l.world; agenda = l.agenda; counted = suc n }) → Falls d P t x l.world l.agenda
      taken_falls l leads good =
          let there = paid_alike d a (standing w.objects) (Running f ∷ rest) (Running (taking d f) ∷ rest) w.last_handler w.handlers (λ f. omega arith) paid in
          let pays = instructions_pay i due there l good leads in
          let on = passed_on in
          let falls = pays.falls in
          let block = ap (λ x. total P (running_deeds d w f x)) block_is in
          let deed = ap (λ o. total P (instruction_deeds d w (in_pass b f) o)) at in
          let frame = ap (λ f. P (deeds.instruction f.program f.block f.at) + total P (more_deeds d w f i)) taking_is in
          record { falls = omega (arith, on, falls, block, deed, frame); paid = pays.paid }

    running_falls : (l : Left) → running d w rest f ≡ Ok l → IsGood d a most_counted (record { world = l.world; agenda = l.agenda; counted = suc n }) → Falls d P t x l.world l.agenda
    unfolding running
    running_falls l e good =
        let block = bound (block_in d f) _ l e in
        let i = bound (known arms.Code (slice_get block.0.code (in_pass block.0 f).at)) _ l block.2 in
        let same : block.0 ≡ b = ok_is {E = Arm} block.0 b (sym block.1 ∙ block_is) in
        let at = ap (λ b. slice_get b.code (in_pass b f).at) (sym same) ∙ known_is arms.Code (slice_get block.0.code (in_pass block.0 f).at) i.0 i.1 in
        let leads = ap (λ f. instruction_step d w rest (past f) i.0) (taking_is ∙ ap (λ b. in_pass b f) (sym same)) ∙ i.2 in
        taken_falls i.0 at l leads good

  pub running_pays : (f : Frame) (x : First d (Running f)) → PaidHere d P t x → (e : Config) → IsGood d x.a x.most_counted e → counted_left x.n (running d x.w x.rest f) ≡ Ok e → Falls d P t x e.world e.agenda
  running_pays f x paid e good h =
      let k = only (nat_lt x.n most_steps) arms.Steps (left (suc x.n) (running d x.w x.rest f)) e h in
      let l = left_is (suc x.n) (running d x.w x.rest f) e k.1 in
      subst (λ (e : Config). Falls d P t x e.world e.agenda) l.2 (running_falls f x paid l.0 l.1 (subst (IsGood d x.a x.most_counted) (sym l.2) good))
