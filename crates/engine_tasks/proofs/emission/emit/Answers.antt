use Rattle.std.proofs.Common.{◌≡◌, ◌∙◌, false, true, option_map, sym, ap, subst, rules}
use Rattle.ui_machine.specs.Outcome.{Answer}
use Rattle.ui_machine.specs.State.Config.{Config}
use Rattle.signal_core.specs.Emission.{Walk, is_transfers, next_step}
use Rattle.signal_core.specs.declared.turn.Turn.{Turn}
use Rattle.engine_world.specs.Able.{Leads}
use Rattle.engine_world.specs.EngineView.{config_of}
use Rattle.engine_world.specs.FirstEmissions.{first_emitted}
use Rattle.engine_stack.specs.FirstEmissions.{Emitted, stack_emission}
use Rattle.engine_stack.specs.TransferView.{due_now}
use Rattle.engine_world.specs.View.{world_of}
use Rattle.engine_world.proofs.Ableness.{able_as}
use Rattle.engine_world.proofs.Named.{names_as}
use Rattle.engine_tasks.specs.TurnView.{RunsProgram}
use Rattle.engine_tasks.proofs.EmissionTurns.{ready_free}
use Rattle.engine_tasks.proofs.EmissionSteps.{due_of, no_due, of_program, runs_one}
use Rattle.engine_tasks.proofs.EmissionPlaces.{counts_at, counts_due, counts_on, ends_on, none_later, stage_is, transfer_due, transfers_on, turns_on, walk_past}
use Rattle.engine_world.proofs.RoomLeft.{places_kept}
use Rattle.engine_tasks.proofs.emission.emit.Goals as goal

-- a transfer is due

pub take_transfer-requires : goal.take_transfer-requires
take_transfer-requires c =
    let d = c.args.definition.now in
    let e = c.args.engine.now in
    let s = c.next_transfer.new.self in
    let n = c.next_transfer.ensures in
    let t = c.in-Some.due in
    record {
      first = n.emits.first;
      able = able_as (transfer_due d e c.requires.first s n.emits n.emission n.later t c.in-Some.ensures.next) c.requires.able;
      free = ready_free e.world.bindings.bindings (due_now (first_emitted e).transfers) t _ c.in-Some.ensures.next;
      counted = counts_due d e c.requires.first s n.emits n.emission n.later t c.in-Some.ensures.next c.requires.counted;
      room = places_kept 1 e.stack.tasks s.tasks n.room n.frames c.requires.room;
    }

pub returns-in-Some : goal.returns-in-Some
returns-in-Some c = record {
  step =
      let n = c.next_transfer.ensures in
      transfer_due c.args.definition.now c.args.engine.now c.requires.first c.next_transfer.new.self n.emits n.emission n.later c.in-Some.due c.in-Some.ensures.next
      ∙ c.take_transfer.ensures.step;
  quiet = search rules;
  counted = search rules;
  room = search rules;
}

-- nothing is left

pub end_first-requires : goal.end_first-requires
end_first-requires c =
    let d = c.args.definition.now in
    let e = c.args.engine.now in
    let s = c.next_transfer.new.self in
    let n = c.next_transfer.ensures in
    let u = c.next_turn.new.self in
    let m = c.next_turn.ensures in
    let hs = e.world.handlers.handlers in
    let none = no_due (first_emitted e).walk hs (ap (λ (x : Walk). option_map (λ step. step.turn) (next_step x hs)) (sym (walk_past d e c.requires.first s n.emits n.emission n.later)) ∙ sym m.turn ∙ c.in_default-next_turn.is) in
    record {
      first = m.emits.first;
      able = able_as (ends_on d e c.requires.first s n.emits n.emission n.later c.in_default.ensures.next.0 c.in_default.ensures.next.1 u m.emits m.emission e.world.handlers.last c.last-last.ensures.rises none) c.requires.able;
      counted = counts_on d e c.requires.first s n.emits n.emission n.later c.in_default.ensures.next.0 c.in_default.ensures.next.1 u m.emits m.emission c.requires.counted;
    }

pub returns-in_default-next_turn : goal.returns-in_default-next_turn
returns-in_default-next_turn c = record {
  step =
      let d = c.args.definition.now in
      let e = c.args.engine.now in
      let s = c.next_transfer.new.self in
      let n = c.next_transfer.ensures in
      let u = c.next_turn.new.self in
      let m = c.next_turn.ensures in
      let hs = e.world.handlers.handlers in
      let none = no_due (first_emitted e).walk hs (ap (λ (x : Walk). option_map (λ step. step.turn) (next_step x hs)) (sym (walk_past d e c.requires.first s n.emits n.emission n.later)) ∙ sym m.turn ∙ c.in_default-next_turn.is) in
      subst (λ (a : Answer Config). Leads c.end_first.result a (config_of d c.end_first.new.engine))
      (sym (ends_on d e c.requires.first s n.emits n.emission n.later c.in_default.ensures.next.0 c.in_default.ensures.next.1 u m.emits m.emission e.world.handlers.last c.last-last.ensures.rises none))
      c.end_first.ensures.step;
  quiet = search rules;
  counted = search rules;
  room = search rules;
}

-- the bindings' turn

pub begin_transfers-requires : goal.begin_transfers-requires
begin_transfers-requires c = record {
  there = c.next_turn.ensures.emits.first;
  none = ap (λ (x : Emitted). due_now x.transfers) c.next_turn.ensures.emission ∙ c.in_default.ensures.next.1;
}

pub emit_transfers-requires : goal.emit_transfers-requires
emit_transfers-requires c =
    let d = c.args.definition.now in
    let e = c.args.engine.now in
    let s = c.next_transfer.new.self in
    let n = c.next_transfer.ensures in
    let u = c.next_turn.new.self in
    let m = c.next_turn.ensures in
    let v = c.begin_transfers.new.self in
    let b = c.begin_transfers.ensures in
    let hs = e.world.handlers.handlers in
    let last = e.world.handlers.last in
    let rises = c.last-last.ensures.rises in
    let none = c.in_default.ensures.next.0 in
    let empty = c.in_default.ensures.next.1 in
    let next = due_of (first_emitted e).walk hs c.in-Some-next_turn.turn (ap (λ (x : Walk). option_map (λ step. step.turn) (next_step x hs)) (sym (walk_past d e c.requires.first s n.emits n.emission n.later)) ∙ sym m.turn ∙ c.in-Some-next_turn.is) in
    let so : is_transfers next.0.step.turn ≡ true = ap (λ (t : Turn). is_transfers t) (next.2 ∙ c.in-Transfers.is) in
    let begins = transfers_on d e c.requires.first s n.emits n.emission n.later none empty u m.emits m.emission v b.emits b.emission last rises next.0 next.1 so in
    record {
      first = b.emits.first;
      able = able_as begins c.requires.able;
      names = names_as begins c.requires.names;
      behind = stage_is d e c.requires.first s n.emits n.emission n.later none empty u m.emits m.emission v b.emits b.emission last rises next.0 next.1 so;
      later = none_later d e c.requires.first s n.emits n.emission n.later none empty u m.emits m.emission v b.emits b.emission last rises next.0 next.1 so;
      counted = counts_at d e c.requires.first s n.emits n.emission n.later none empty u m.emits m.emission v b.emits b.emission last rises next.0 next.1 so c.requires.counted;
      room = places_kept 1 u.tasks v.tasks b.room b.frames (places_kept 1 s.tasks u.tasks m.room m.frames (places_kept 1 e.stack.tasks s.tasks n.room n.frames c.requires.room));
    }

pub returns-in-Transfers : goal.returns-in-Transfers
returns-in-Transfers c = record {
  step =
      let d = c.args.definition.now in
      let e = c.args.engine.now in
      let s = c.next_transfer.new.self in
      let n = c.next_transfer.ensures in
      let u = c.next_turn.new.self in
      let m = c.next_turn.ensures in
      let v = c.begin_transfers.new.self in
      let b = c.begin_transfers.ensures in
      let hs = e.world.handlers.handlers in
      let last = e.world.handlers.last in
      let rises = c.last-last.ensures.rises in
      let none = c.in_default.ensures.next.0 in
      let empty = c.in_default.ensures.next.1 in
      let next = due_of (first_emitted e).walk hs c.in-Some-next_turn.turn (ap (λ (x : Walk). option_map (λ step. step.turn) (next_step x hs)) (sym (walk_past d e c.requires.first s n.emits n.emission n.later)) ∙ sym m.turn ∙ c.in-Some-next_turn.is) in
      let so : is_transfers next.0.step.turn ≡ true = ap (λ (t : Turn). is_transfers t) (next.2 ∙ c.in-Transfers.is) in
      let begins = transfers_on d e c.requires.first s n.emits n.emission n.later none empty u m.emits m.emission v b.emits b.emission last rises next.0 next.1 so in
      subst (λ (a : Answer Config). Leads c.emit_transfers.result a (config_of d c.emit_transfers.new.engine)) (sym begins) c.emit_transfers.ensures.step;
  quiet = search rules;
  counted = search rules;
  room = search rules;
}

-- a program's turn

pub take_turn-requires : goal.take_turn-requires
take_turn-requires c =
    let d = c.args.definition.now in
    let e = c.args.engine.now in
    let s = c.next_transfer.new.self in
    let n = c.next_transfer.ensures in
    let u = c.next_turn.new.self in
    let m = c.next_turn.ensures in
    let w = world_of e.world in
    let hs = e.world.handlers.handlers in
    let last = e.world.handlers.last in
    let rises = c.last-last.ensures.rises in
    let next = due_of (first_emitted e).walk hs c.in-Some-next_turn.turn (ap (λ (x : Walk). option_map (λ step. step.turn) (next_step x hs)) (sym (walk_past d e c.requires.first s n.emits n.emission n.later)) ∙ sym m.turn ∙ c.in-Some-next_turn.is) in
    let plain : is_transfers next.0.step.turn ≡ false = ap (λ (t : Turn). is_transfers t) next.2 ∙ of_program c.in-Some-next_turn.turn c.in_default-turn.not-Transfers in
    let turns = turns_on d e c.requires.first s n.emits n.emission n.later c.in_default.ensures.next.0 c.in_default.ensures.next.1 u m.emits m.emission last rises next.0 next.1 plain c.in-Some-next_turn.turn next.2 in
    record {
      first = m.emits.first;
      able = able_as turns c.requires.able;
      names = names_as turns c.requires.names;
      runs = subst (λ (t : Turn). RunsProgram t) next.2 (runs_one w (first_emitted e).walk (first_emitted e).transfers (stack_emission s).transfers n.later c.in_default.ensures.next.0 c.in_default.ensures.next.1 last rises d next.0 next.1 plain);
      counted = counts_on d e c.requires.first s n.emits n.emission n.later c.in_default.ensures.next.0 c.in_default.ensures.next.1 u m.emits m.emission c.requires.counted;
      room = places_kept 1 s.tasks u.tasks m.room m.frames (places_kept 1 e.stack.tasks s.tasks n.room n.frames c.requires.room);
    }

pub returns-in_default-turn : goal.returns-in_default-turn
returns-in_default-turn c = record {
  step =
      let d = c.args.definition.now in
      let e = c.args.engine.now in
      let s = c.next_transfer.new.self in
      let n = c.next_transfer.ensures in
      let u = c.next_turn.new.self in
      let m = c.next_turn.ensures in
      let w = world_of e.world in
      let hs = e.world.handlers.handlers in
      let last = e.world.handlers.last in
      let rises = c.last-last.ensures.rises in
      let next = due_of (first_emitted e).walk hs c.in-Some-next_turn.turn (ap (λ (x : Walk). option_map (λ step. step.turn) (next_step x hs)) (sym (walk_past d e c.requires.first s n.emits n.emission n.later)) ∙ sym m.turn ∙ c.in-Some-next_turn.is) in
      let plain : is_transfers next.0.step.turn ≡ false = ap (λ (t : Turn). is_transfers t) next.2 ∙ of_program c.in-Some-next_turn.turn c.in_default-turn.not-Transfers in
      let turns = turns_on d e c.requires.first s n.emits n.emission n.later c.in_default.ensures.next.0 c.in_default.ensures.next.1 u m.emits m.emission last rises next.0 next.1 plain c.in-Some-next_turn.turn next.2 in
      subst (λ (a : Answer Config). Leads c.take_turn.result a (config_of d c.take_turn.new.engine)) (sym turns) c.take_turn.ensures.step;
  quiet = search rules;
  counted = search rules;
  room = search rules;
}
