-- A handler more, and what comes of a connection by a program.
use Rattle.std.proofs.Common.{◌≡◌, ◌∙◌, refl, sym, ap, subst, ℕ, suc, ◌+◌, ◌-◌, Bool, true, false, cond, nat_lt, ◌&&◌, List, Result, Ok, Err, arith}
use Rattle.std.specs.Prelude.{count_by, ◌↔◌}
use Rattle.std.proofs.lemmas.Bool.Decides.{nat_tests}
use Rattle.std.proofs.lemmas.List.Sums.{length-filter}
use Rattle.ui_machine.specs.Definition.{Definition}
use Rattle.ui_machine.specs.Rules.Connections.{Connection, by_code_to, connected, greatest_handler, has_room_for_handler, is_too_late, new_handler, with_handler}
use Rattle.ui_machine.specs.Seq.{total}
use Rattle.ui_machine.specs.State.Config.{World}
use Rattle.ui_machine.specs.State.References.{in_task}
use Rattle.ui_machine.specs.State.Tasks.{Task}
use Rattle.signal_core.specs.Connected.{Connected, has_room, with_connection}
use Rattle.engine_stack.specs.KnownHandlers.{AllTakeKnownHandlers}
use Rattle.engine_world.specs.ConnectView.{told_by}
use Rattle.engine_world.specs.Counting.{Connects, KeepsCounts}
use Rattle.engine_world.specs.TaskView.{agenda_of}
use Rattle.engine_stack.specs.TaskView.{tasks_of}
use Rattle.engine_world.specs.View.{world_of}
use Rattle.engine_world.specs.declared.connections.Outcome.TheVariants as outcomes
use Rattle.engine_world.specs.declared.engine.Engine.{Engine}
use Rattle.engine_world.proofs.Counts.{keeps_by}
use Rattle.engine_world.proofs.SameTurns.{begun_more, connected_same}

-- with other handlers
abbrev pub with_handlers : Engine → Connected → Engine
with_handlers e hs = record e { world = record e.world { handlers = hs } }

module _ (d : Definition) (e : Engine) (hs : Connected) (c : Connection) (is : hs ≡ with_connection e.world.handlers c) where
  last : ℕ
  last = e.world.handlers.last

  pub connect_world : world_of (with_handlers e hs).world ≡ with_handler (world_of e.world) c
  connect_world = ap (λ (x : Connected). world_of (record e.world { handlers = x })) is

  pub connect_leaves : Connects d e → agenda_of d (with_handlers e hs) ≡ agenda_of d e
  connect_leaves connects =
      ap (λ (x : Connected). tasks_of d x.handlers e.stack) is
      ∙ connected_same d (new_handler (suc e.world.handlers.last) c) e.world.handlers.handlers e.world.handlers.last (omega arith) e.stack connects.begun

  none_to_come : (by_code : Bool) (n : ℕ) → n ≡ 0 → cond by_code n (n - 1) ≡ 0
  none_to_come true n none = none
  none_to_come false n none = omega (arith, none)

  pub keeps_connected : Connects d e → KeepsCounts d e (with_handlers e hs)
  keeps_connected connects = keeps_by d e (with_handlers e hs) refl refl (λ g. g) refl
      (λ h. record {
        most = ap (λ (x : Connected). x.most) is ∙ h.most;
        to_come = ap (λ (x : Connected). x.to_come) is ∙ none_to_come c.by_code e.world.handlers.to_come h.to_come;
        begun = subst (λ n. AllTakeKnownHandlers n e.stack) (sym (ap (λ (x : Connected). x.last) is)) (begun_more e.world.handlers.last (suc e.world.handlers.last) (omega arith) e.stack h.begun);
      })
      (λ taken _ h o. omega (arith, h o, ap (λ (ts : List Task). total (in_task o) ts) (connect_leaves connects)))

-- ** what comes of a connection

no_and : (b : Bool) → (b && false) ≡ false
no_and true = refl
no_and false = refl

module _ (d : Definition) (w : World) (n : ℕ) (c : Connection) where
  pub comes_late : is_too_late w.objects c.object c.arg ≡ true → connected d w n c ≡ told_by d outcomes.TooLate w c
  comes_late late = rw late refl

  module _ (early : is_too_late w.objects c.object c.arg ≡ false) where
    pub finds_room : has_room_for_handler d w n c.object c.signal ≡ true → connected d w n c ≡ told_by d outcomes.Connected w c
    finds_room room = rw (early, room) refl

    pub finds_none : has_room_for_handler d w n c.object c.signal ≡ false → connected d w n c ≡ told_by d outcomes.Full w c
    finds_none full = rw (early, full) refl

-- whether a handler finds room, by the handlers of the engine
module _ (d : Definition) (e : Engine) (n : ℕ) (c : Connection) (connects : Connects d e) where
  hs : Connected
  hs = e.world.handlers

  few : Bool
  few = nat_lt (count_by (by_code_to c.object c.signal) e.world.handlers.handlers) e.world.handlers.most

  as_many : has_room_for_handler d (world_of e.world) n c.object c.signal ≡ (nat_lt (count_by (by_code_to c.object c.signal) e.world.handlers.handlers) e.world.handlers.most && nat_lt (e.world.handlers.last + n) greatest_handler)
  as_many =
      ap (λ k. nat_lt k d.most_handlers && nat_lt (e.world.handlers.last + n) greatest_handler) (length-filter (by_code_to c.object c.signal) e.world.handlers.handlers)
      ∙ ap (λ m. nat_lt (count_by (by_code_to c.object c.signal) e.world.handlers.handlers) m && nat_lt (e.world.handlers.last + n) greatest_handler) (sym connects.most)

  pub no_number : nat_lt (e.world.handlers.last + n) greatest_handler ≡ false → has_room_for_handler d (world_of e.world) n c.object c.signal ≡ false
  no_number none = as_many ∙ ap (λ b. nat_lt (count_by (by_code_to c.object c.signal) e.world.handlers.handlers) e.world.handlers.most && b) none ∙ no_and _

  module _ (by_code : c.by_code ≡ true) (number : nat_lt (e.world.handlers.last + n) greatest_handler ≡ true) where
    own_number : nat_lt (e.world.handlers.last + e.world.handlers.to_come) greatest_handler ≡ true
    own_number = let none = connects.to_come in grind (arith, nat_tests)

    -- both ask the same
    pub same_room : has_room_for_handler d (world_of e.world) n c.object c.signal ≡ has_room e.world.handlers c
    same_room =
        as_many
        ∙ ap (λ b. nat_lt (count_by (by_code_to c.object c.signal) e.world.handlers.handlers) e.world.handlers.most && b) (number ∙ sym own_number)
        ∙ ap (λ b. cond b (nat_lt (count_by (by_code_to c.object c.signal) e.world.handlers.handlers) e.world.handlers.most && nat_lt (e.world.handlers.last + e.world.handlers.to_come) greatest_handler) (nat_lt e.world.handlers.last greatest_handler)) (sym by_code)

-- what is not refused for want of room has it
pub has_it : {A E : Type 0} (b : Bool) (r : Result A E) (e : E) → ((r ≡ Err e) ↔ (b ≡ false)) → (x : A) → r ≡ Ok x → b ≡ true
has_it true r e iff x is = refl
has_it false r e iff x is = let never = iff.1 refl in cc (never, is)
