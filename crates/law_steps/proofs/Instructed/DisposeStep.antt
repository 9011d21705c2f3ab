-- An object is disposed by a program.
use Rattle.std.proofs.Common.{◌≡◌, inr, refl, sym, ap, subst, ◌∙◌, ℕ, ◌+◌, Bool, true, false, cond, List, [], ◌∷◌, length, Some, Ok, arith}
use Rattle.std.specs.Prelude.{not}
use Rattle.std.specs.List.{filter}
use Rattle.ui_machine.specs.Seq.{total}
use Rattle.ui_machine.specs.Definition.{Definition}
use Rattle.ui_machine.specs.Definition.Places.{Place}
use Rattle.ui_machine.specs.Definition.Programs.{Instruction}
use Rattle.ui_machine.specs.Definition.Programs as words
use Rattle.ui_machine.specs.State.Objects.{living, one_if}
use Rattle.ui_machine.specs.State.Handlers.{handler_of}
use Rattle.ui_machine.specs.State.Bindings.{binding_of, is_end}
use Rattle.ui_machine.specs.State.Tasks.{Frame, Running, Task}
use Rattle.ui_machine.specs.State.Config.{BuilderEntry, World}
use Rattle.ui_machine.specs.Rules.Disposal.{is_of_object, disposed}
use Rattle.ui_machine.specs.Rules.Sets.{is_disposed}
use Rattle.ui_machine.specs.Instructions.{in_front}
use Rattle.ui_machine.specs.Instructions.Registers.{operand_in, goes_on}
use Rattle.ui_machine.specs.Instructions.Objects.{disposing, disposed_once}
use Rattle.ui_machine.specs.Instructions.Jumps.{past}
use Rattle.law_typing.specs.Rules.Typing as typing
use Rattle.law_typing.specs.Verdict.Accepted.{Each}
use Rattle.law_typing.specs.Good.Standing.{Standing, standing, view, Lives}
use Rattle.law_typing.specs.Good.Objects.{PoolGood, PeersGood}
use Rattle.law_typing.specs.Good.Handlers.{HandlersGood}
use Rattle.law_typing.specs.Good.Bindings.{BindingsGood, SourceGood, HeldGood}
use Rattle.law_typing.specs.Good.Builds.{is_for_builder}
use Rattle.law_typing.specs.Good.DueCosts.{queued_cost}
use Rattle.law_typing.specs.Good.Freezes.{ObjectsFirst, carried}
use Rattle.law_steps.specs.Kept.Agenda.{Serves}
use Rattle.law_steps.specs.Kept.Dispose.{DisposedKept}
use Rattle.law_steps.proofs.Kept.Left.{each_to}
use Rattle.law_steps.proofs.Kept.HandlersProofs.{handlers_left, left_are_found}
use Rattle.law_steps.proofs.Kept.BindingsProofs.{bindings_left, left_bindings_found}
use Rattle.law_steps.proofs.Kept.DisposedProofs.{dispose_keeps}
use Rattle.law_steps.specs.Instructed.Disposing.{DisposesAreFine}
use Rattle.law_steps.proofs.Instructed.Frozen.{is_bracket}
use Rattle.law_steps.proofs.Instructed.Around.{Due, making, r, taken, StepIsFine, fine_of}
use Rattle.law_steps.proofs.Instructed.Written.{Moved, moved_fine, said_moved}
use Rattle.law_steps.proofs.Instructed.Typed.{changing_none_is}
use Rattle.law_steps.proofs.Instructed.Operand.{named}

dispose_goes : (d : Definition) (w v : World) (rest : List Task) (f : Frame) (object id : ℕ) → operand_in w f object ≡ Ok id → disposed_once d w id ≡ Ok v →
    in_front rest (disposing d w f object) ≡ in_front rest (goes_on v [] f)
unfolding disposing
dispose_goes d w v rest f object id e is = rw (e, is) refl

module _ {d : Definition} {i : Instruction} (t : Due d i) (plain : is_bracket i ≡ false) (id : ℕ) (v : World) (k : DisposedKept d id t.w v) where
  open t use {a, w, f, rest, g}

  abbrev agenda : List Task
  agenda = Running f ∷ rest

  abbrev s : Standing
  s = standing w.objects

  left_handlers : HandlersGood d a.weighed.costs a.weighed.depths (standing v.objects) agenda v.last_handler v.handlers
  left_handlers =
      subst (λ z. HandlersGood d a.weighed.costs a.weighed.depths z agenda v.last_handler v.handlers) (sym k.stands)
      (subst (λ hs. HandlersGood d a.weighed.costs a.weighed.depths s agenda v.last_handler hs) (sym k.handlers)
      (subst (λ last. HandlersGood d a.weighed.costs a.weighed.depths s agenda last (filter (λ h. not (is_of_object id h)) w.handlers)) (sym k.last)
      (handlers_left d a.weighed.costs a.weighed.depths s s agenda w.last_handler w.handlers (λ h. not (is_of_object id h)) (λ id place e. e)
      (λ h passes. (λ place e. e, λ id is place e. e)) g.handlers)))

  left_bindings : BindingsGood d (standing v.objects) agenda v.bindings
  left_bindings =
      subst (λ z. BindingsGood d z agenda v.bindings) (sym k.stands)
      (subst (λ bs. BindingsGood d s agenda bs) (sym k.bindings)
      (bindings_left d s s agenda w.bindings (λ b. not (is_end id b))
      (λ b passes. (λ place e. e, λ place e. e)) g.bindings))

  objects_first_left : ObjectsFirst agenda v.bindings
  objects_first_left = record {
    before = λ some. (let b = g.objects_first.before some in (k.bindings ∙ ap (filter (λ b. not (is_end id b))) b.0, b.1));
    one = g.objects_first.one;
  }

  served : Serves d rest (view w) (view v)
  served = record {
    stands = λ i some place e. ap (λ (s : Standing). s i) k.stands ∙ e;
    held = λ place i is at e. ap (λ (s : Standing). s i) k.stands ∙ e;
    builder = k.builder;
    last = (let e = k.last in omega (arith, e));
    handlers = λ number low h is.
        (h, left_are_found d a.weighed.costs a.weighed.depths s agenda w.last_handler w.handlers (λ h. not (is_of_object id h)) g.handlers number h (subst (λ hs. handler_of number hs ≡ Some h) k.handlers is), refl, refl, refl);
    bindings = λ number b is.
        left_bindings_found d s agenda w.bindings (λ b. not (is_end id b)) g.bindings number b (ap (λ bs. binding_of number bs) (sym k.bindings) ∙ is);
    sources = inr k.sources;
    peers = λ number p is. (let q = k.peers number p is in (q.0, q.1, q.2));
  }

  pool : PeersGood d v.peers (length v.builder + total is_for_builder agenda)
  pool =
      subst (λ (b : List BuilderEntry). PeersGood d v.peers (length b + total is_for_builder agenda)) (sym k.builder)
      (λ place p is. each_to _ _ p.peers (λ name old. peer_there place p name old) (g.peers place p is))
    where
      peer_there : (place : ℕ) (p : Place) (name : List ℕ) → PoolGood d w.peers (length w.builder + total is_for_builder agenda) place p name →
          PoolGood d v.peers (length w.builder + total is_for_builder agenda) place p name
      peer_there place p name old =
          let q = k.peers old.number old.peer old.has in
          record {
            number = old.number;
            peer = q.0;
            shape = old.shape;
            methods = old.methods;
            is = k.names name ∙ old.is;
            has = q.1;
            of_class = old.of_class;
            shaped = (old.shaped.0, q.2 ∙ old.shaped.1);
            is_open = λ free. (let same = q.4 free in ap (λ p. p.state.is_open) same ∙ old.is_open (sym q.3 ∙ free));
            left = λ object made. q.3 ∙ old.left object made;
          }

  disposed_moved : Moved t plain v
  disposed_moved = record {
    whole = record {
      objects = k.objects;
      handlers = left_handlers;
      bindings = left_bindings;
      sources = subst (λ z. Each (SourceGood d z) v.sources) (sym k.stands) (subst (Each (SourceGood d s)) (sym k.sources) g.sources);
      held = subst (λ z. HeldGood z v.builder) (sym k.stands) (subst (HeldGood s) (sym k.builder) g.held);
      floating = subst (λ z. Each (Lives z) v.floating) (sym k.stands) (subst (Each (Lives s)) (sym k.floating) g.floating);
      objects_first = objects_first_left;
    };
    stands = k.stands;
    served = served;
    pool = pool;
    queues = λ j x e. (let h = k.shed j x e in (h.0, h.1, h.2.place, h.2.freezes, h.2.queue));
    few = (let e = k.sums one_if refl (λ x y p q. refl) in omega (arith, e));
    queued = (let e = k.sums (carried d a.weighed.costs (making t)) refl
        (λ x y p q. ap (λ slots. total (λ slot. queued_cost d a.weighed.costs (making t) x.place slot) slots) q
        ∙ ap (λ place. total (λ slot. queued_cost d a.weighed.costs (making t) place slot) y.queue) p) in
        omega (arith, e));
  }

module _ {d : Definition} where
  dispose_fine : (object : ℕ) (t : Due d (words.dispose object)) → StepIsFine t
  dispose_fine object t =
      let k = changing_none_is (r t).ks (typing.operand d (r t).ks object) _ (taken t).typed in
      let o = named t object k.0 k.1 in
      go o.id o.asked k.2 (dispose_keeps d t.w o.id o.o o.lives t.g.objects) (is_disposed (living t.w.objects o.id)) refl
    where
      go : (id : ℕ) → operand_in t.w (past t.f) object ≡ Ok id → typing.after d (r t).p (r t).ks (words.dispose object) ≡ (r t).ks →
          ((v : World) × (disposed d t.w id ≡ Ok v) × DisposedKept d id t.w v) → (b : Bool) → is_disposed (living t.w.objects id) ≡ b → StepIsFine t
      go id asked kinds_are after true e =
          moved_fine t refl t.w (said_moved t refl t.w.transcript) refl kinds_are
          (dispose_goes d t.w t.w t.rest (past t.f) object id asked (ap (λ b. cond b (Ok t.w) (disposed d t.w id)) e))
      go id asked kinds_are after false e =
          moved_fine t refl after.0 (disposed_moved t refl id after.0 after.2) refl kinds_are
          (dispose_goes d t.w after.0 t.rest (past t.f) object id asked (ap (λ b. cond b (Ok t.w) (disposed d t.w id)) e ∙ after.1))

pub disposes_are_fine : DisposesAreFine
disposes_are_fine object = fine_of (λ d t. dispose_fine object t)
