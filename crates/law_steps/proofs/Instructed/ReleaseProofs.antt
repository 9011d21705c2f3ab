-- A float, handlers, bindings and sources are let go, and handlers blocked.
use Rattle.std.proofs.Common.{◌≡◌, refl, sym, ap, subst, ◌∙◌, ℕ, Bool, true, false, cond, List, [], ◌∷◌, map, Some, Ok, arith}
use Rattle.std.specs.Prelude.{not, nat_eq}
use Rattle.std.specs.List.{filter, list_any}
use Rattle.ui_machine.specs.declared.arm.Arm.TheVariants as arms
use Rattle.ui_machine.specs.Definition.{Definition}
use Rattle.ui_machine.specs.Definition.Places.{Bind}
use Rattle.ui_machine.specs.Definition.Lookups.{program_of}
use Rattle.ui_machine.specs.Definition.Programs.{Instruction}
use Rattle.ui_machine.specs.Definition.Programs as words
use Rattle.ui_machine.specs.State.Handlers.{Handler, handler_of}
use Rattle.ui_machine.specs.State.Bindings.{Binding, is_called, bindings_without}
use Rattle.ui_machine.specs.State.Sources.{Source, runs_program, without_program}
use Rattle.ui_machine.specs.State.Tasks.{Frame, Running, Task}
use Rattle.ui_machine.specs.State.Config.{World, without, sunk}
use Rattle.ui_machine.specs.Rules.Connections.{is_on, disconnected, blocked, unblocked, with_handlers_on}
use Rattle.ui_machine.specs.Instructions.{in_front}
use Rattle.ui_machine.specs.Instructions.Registers.{operand_in, goes_on}
use Rattle.ui_machine.specs.Instructions.Objects.{sinking}
use Rattle.ui_machine.specs.Instructions.Signals.{on_handlers}
use Rattle.ui_machine.specs.Instructions.Sources.{removing}
use Rattle.ui_machine.specs.Instructions.Jumps.{past}
use Rattle.ui_machine.specs.Outcome.{only_if}
use Rattle.law_typing.specs.Rules.Answers as rules
use Rattle.law_typing.specs.Rules.Typing as typing
use Rattle.law_typing.specs.Rules.Typing.{after}
use Rattle.law_typing.specs.Verdict.Accepted.{Each}
use Rattle.law_typing.specs.Good.Standing.{standing, Lives}
use Rattle.law_steps.specs.Kept.Handlers.{OnlyBlocks}
use Rattle.law_steps.proofs.Kept.HandlersProofs.{handlers_left, left_are_found, handlers_changed}
use Rattle.law_steps.proofs.Kept.BindingsProofs.{bindings_left, left_bindings_found}
use Rattle.law_steps.proofs.Kept.SourcesProofs.{sources_left}
use Rattle.law_steps.specs.Instructed.OfObjects.{ReleasesAreFine}
use Rattle.law_steps.proofs.Instructed.Around.{Due, r, taken, StepIsFine, fine_of}
use Rattle.law_steps.proofs.Instructed.Written.{Moved, moved_fine}
use Rattle.law_steps.proofs.Instructed.Frozen.{is_bracket}
use Rattle.law_steps.proofs.Instructed.Lists.{lists_of, lists_moved}
use Rattle.law_steps.proofs.Instructed.Inverse.{only}
use Rattle.law_steps.proofs.Instructed.Typed.{changing_none_is, on_handlers_is, program_is}
use Rattle.law_steps.proofs.Instructed.Operand.{named}

-- ** what the machine does

sink_goes : (w : World) (rest : List Task) (f : Frame) (object id : ℕ) → operand_in w f object ≡ Ok id → in_front rest (sinking w f object) ≡ in_front rest (goes_on (sunk w id) [] f)
unfolding sinking
sink_goes w rest f object id e = rw e refl

handlers_go : (d : Definition) (w : World) (rest : List Task) (f : Frame) (object : ℕ) (program : List ℕ) (change : World → ℕ → ℕ → World) (id number : ℕ) → operand_in w f object ≡ Ok id →
    program_of d program ≡ Some number → in_front rest (on_handlers d w f object program change) ≡ in_front rest (goes_on (change w id number) [] f)
unfolding on_handlers
handlers_go d w rest f object program change id number e is = rw (e, is) refl

remove_goes : (d : Definition) (w : World) (rest : List Task) (f : Frame) (program : List ℕ) (number : ℕ) → program_of d program ≡ Some number →
    in_front rest (removing d w f program) ≡ in_front rest (goes_on (record w { sources = without_program number w.sources }) [] f)
unfolding removing
remove_goes d w rest f program number is = rw is refl

-- ** what is left is good

each_without : (P : ℕ → Type 0) (id : ℕ) (ids : List ℕ) → Each P ids → Each P (without id ids)
each_without P id [] all = tt
each_without P id (i ∷ ids) all = go (nat_eq i id) (each_without P id ids all.1)
  where
    go : (b : Bool) → Each P (without id ids) → Each P (cond b (without id ids) (i ∷ without id ids))
    go true later = later
    go false later = (all.0, later)

-- a change of those handlers that pass a test changes only how often they are blocked
only_blocks : (test : Handler → Bool) (change : Handler → Handler) → OnlyBlocks change → OnlyBlocks (λ h. cond (test h) (change h) h)
only_blocks test change only = record {
  number = λ h. at (λ (x : Handler). x.number) h only.number;
  object = λ h. at (λ (x : Handler). x.object) h only.object;
  signal = λ h. at (λ (x : Handler). x.signal) h only.signal;
  detail = λ h. at (λ (x : Handler). x.detail) h only.detail;
  program = λ h. at (λ (x : Handler). x.program) h only.program;
  swapped = λ h. at (λ (x : Handler). x.swapped) h only.swapped;
  arg = λ h. at (λ (x : Handler). x.arg) h only.arg;
  by_code = λ h. at (λ (x : Handler). x.by_code) h only.by_code;
}
  where
    at : {A : Type 0} (f : Handler → A) (h : Handler) → ((h : Handler) → f (change h) ≡ f h) → f (cond (test h) (change h) h) ≡ f h
    at f h same = go (test h)
      where
        go : (b : Bool) → f (cond b (change h) h) ≡ f h
        go true = same h
        go false = refl

only_one_more : OnlyBlocks blocked
only_one_more = record { number = λ h. refl; object = λ h. refl; signal = λ h. refl; detail = λ h. refl; program = λ h. refl; swapped = λ h. refl; arg = λ h. refl; by_code = λ h. refl }

only_one_less : OnlyBlocks unblocked
only_one_less = record { number = λ h. refl; object = λ h. refl; signal = λ h. refl; detail = λ h. refl; program = λ h. refl; swapped = λ h. refl; arg = λ h. refl; by_code = λ h. refl }

-- under each number the same handler is found, changed
changed_found : (change : Handler → Handler) → OnlyBlocks change → (number : ℕ) (hs : List Handler) (h : Handler) → handler_of number (map change hs) ≡ Some h →
    (g : Handler) × (handler_of number hs ≡ Some g) × (h ≡ change g)
changed_found change only number [] h e = absurd (cc)
changed_found change only number (x ∷ hs) h e =
    go (nat_eq x.number number) (subst (λ n. cond (nat_eq n number) (Some (change x)) (handler_of number (map change hs)) ≡ Some h) (only.number x) e) (λ e. changed_found change only number hs h e)
  where
    go : (b : Bool) → cond b (Some (change x)) (handler_of number (map change hs)) ≡ Some h →
        (handler_of number (map change hs) ≡ Some h → (g : Handler) × (handler_of number hs ≡ Some g) × (h ≡ change g)) →
        (g : Handler) × (cond b (Some x) (handler_of number hs) ≡ Some g) × (h ≡ change g)
    go true e later = (x, refl, (let s : change x ≡ h = cc in sym s))
    go false e later = later e

-- ** each is fine

module _ {d : Definition} {i : Instruction} (t : Due d i) (plain : is_bracket i ≡ false) where
  open t use {w, f, rest, g}

  sink_moved : (id : ℕ) → Moved t plain (sunk w id)
  sink_moved id =
      lists_moved t plain (record (lists_of w) { floating = without id w.floating })
      (record {
        handlers = g.handlers;
        bindings = g.bindings;
        sources = g.sources;
        floating = each_without (Lives (standing w.objects)) id w.floating g.floating;
        none = λ e. e;
        last = omega arith;
        handlers_were = λ number low h is. (h, is, refl, refl, refl);
        bindings_were = λ number b is. is;
      })

  disconnect_moved : (id number : ℕ) → Moved t plain (disconnected w id number)
  disconnect_moved id number =
      let test = λ (h : Handler). not (is_on id number h) in
      let a = t.a in
      lists_moved t plain (record (lists_of w) { handlers = filter test w.handlers })
      (record {
        handlers =
            handlers_left d a.weighed.costs a.weighed.depths (standing w.objects) (standing w.objects) (Running f ∷ rest) w.last_handler w.handlers test (λ id place e. e)
            (λ h passes. (λ place e. e, λ id is place e. e)) g.handlers;
        bindings = g.bindings;
        sources = g.sources;
        floating = g.floating;
        none = λ e. e;
        last = omega arith;
        bindings_were = λ number b is. is;
        handlers_were = λ number low h is. (h, left_are_found d a.weighed.costs a.weighed.depths (standing w.objects) (Running f ∷ rest) w.last_handler w.handlers test g.handlers number h is, refl, refl, refl);
      })

  block_moved : (change : Handler → Handler) → OnlyBlocks change → (id number : ℕ) → Moved t plain (with_handlers_on change w id number)
  block_moved change same id number =
      let a = t.a in
      let one = λ (h : Handler). cond (is_on id number h) (change h) h in
      let blocks = only_blocks (is_on id number) change same in
      lists_moved t plain (record (lists_of w) { handlers = map one w.handlers })
      (record {
        handlers = handlers_changed d a.weighed.costs a.weighed.depths (standing w.objects) (Running f ∷ rest) w.last_handler w.handlers one blocks g.handlers;
        bindings = g.bindings;
        sources = g.sources;
        floating = g.floating;
        none = λ e. e;
        last = omega arith;
        bindings_were = λ number b is. is;
        handlers_were = λ number low h is. (let x = changed_found one blocks number w.handlers h is in
            (x.0, x.1, ap (λ (h : Handler). h.object) x.2 ∙ blocks.object x.0, ap (λ (h : Handler). h.signal) x.2 ∙ blocks.signal x.0, ap (λ (h : Handler). h.program) x.2 ∙ blocks.program x.0));
      })

  unbind_moved : (name : List ℕ) → Moved t plain (record w { bindings = bindings_without name w.bindings })
  unbind_moved name =
      let test = λ (b : Binding). not (is_called name b) in
      lists_moved t plain (record (lists_of w) { bindings = filter test w.bindings })
      (record {
        handlers = g.handlers;
        bindings =
            bindings_left d (standing w.objects) (standing w.objects) (Running f ∷ rest) w.bindings test
            (λ b passes. (λ place e. e, λ place e. e)) g.bindings;
        sources = g.sources;
        floating = g.floating;
        none = λ e. ap (filter test) e;
        last = omega arith;
        handlers_were = λ number low h is. (h, is, refl, refl, refl);
        bindings_were = λ number b is. left_bindings_found d (standing w.objects) (Running f ∷ rest) w.bindings test g.bindings number b is;
      })

  remove_moved : (number : ℕ) → Moved t plain (record w { sources = without_program number w.sources })
  remove_moved number =
      let test = λ (x : Source). not (runs_program number x) in
      lists_moved t plain (record (lists_of w) { sources = filter test w.sources })
      (record {
        handlers = g.handlers;
        bindings = g.bindings;
        sources = (sources_left d (standing w.objects) w.sources test g.sources).0;
        floating = g.floating;
        none = λ e. e;
        last = omega arith;
        handlers_were = λ number low h is. (h, is, refl, refl, refl);
        bindings_were = λ number b is. is;
      })

module _ {d : Definition} where
  sink_fine : (object : ℕ) (t : Due d (words.sink object)) → StepIsFine t
  sink_fine object t =
      let k = changing_none_is (r t).ks (typing.operand d (r t).ks object) _ (taken t).typed in
      let o = named t object k.0 k.1 in
      moved_fine t refl (sunk t.w o.id) (sink_moved t refl o.id) refl k.2 (sink_goes t.w t.rest (past t.f) object o.id o.asked)

  disconnect_fine : (object : ℕ) (program : List ℕ) (t : Due d (words.disconnect object program)) → StepIsFine t
  disconnect_fine object program t =
      let k = on_handlers_is d (r t).ks object program _ (taken t).typed in
      let o = named t object k.0 k.1 in
      moved_fine t refl (disconnected t.w o.id k.2) (disconnect_moved t refl o.id k.2) refl k.4 (handlers_go d t.w t.rest (past t.f) object program disconnected o.id k.2 o.asked k.3)

  block_fine : (object : ℕ) (program : List ℕ) (t : Due d (words.block object program)) → StepIsFine t
  block_fine object program t =
      let k = on_handlers_is d (r t).ks object program _ (taken t).typed in
      let o = named t object k.0 k.1 in
      moved_fine t refl (with_handlers_on blocked t.w o.id k.2) (block_moved t refl blocked only_one_more o.id k.2) refl k.4
      (handlers_go d t.w t.rest (past t.f) object program (with_handlers_on blocked) o.id k.2 o.asked k.3)

  unblock_fine : (object : ℕ) (program : List ℕ) (t : Due d (words.unblock object program)) → StepIsFine t
  unblock_fine object program t =
      let k = on_handlers_is d (r t).ks object program _ (taken t).typed in
      let o = named t object k.0 k.1 in
      moved_fine t refl (with_handlers_on unblocked t.w o.id k.2) (block_moved t refl unblocked only_one_less o.id k.2) refl k.4
      (handlers_go d t.w t.rest (past t.f) object program (with_handlers_on unblocked) o.id k.2 o.asked k.3)

  unbind_fine : (name : List ℕ) (t : Due d (words.unbind name)) → StepIsFine t
  unbind_fine name t =
      let there = only (list_any (λ (b : Bind). typing.is_called name b.name) d.bindings) rules.unknown (Ok (r t).ks) _ (taken t).typed in
      moved_fine t refl (record t.w { bindings = bindings_without name t.w.bindings }) (unbind_moved t refl name) refl (let e = there.1 in cc)
      (ap (λ b. in_front t.rest (only_if b arms.Code (goes_on (record t.w { bindings = bindings_without name t.w.bindings }) [] (past t.f)))) there.0)

  remove_fine : (program : List ℕ) (t : Due d (words.remove program)) → StepIsFine t
  remove_fine program t =
      let k = changing_none_is (r t).ks (typing.program_named d program) _ (taken t).typed in
      let p = program_is d program k.0 k.1 in
      moved_fine t refl (record t.w { sources = without_program p.0 t.w.sources }) (remove_moved t refl p.0) refl k.2 (remove_goes d t.w t.rest (past t.f) program p.0 p.1)

pub releases_are_fine : ReleasesAreFine
releases_are_fine (words.sink object) e = fine_of (λ d t. sink_fine object t)
releases_are_fine (words.disconnect object program) e = fine_of (λ d t. disconnect_fine object program t)
releases_are_fine (words.block object program) e = fine_of (λ d t. block_fine object program t)
releases_are_fine (words.unblock object program) e = fine_of (λ d t. unblock_fine object program t)
releases_are_fine (words.unbind name) e = fine_of (λ d t. unbind_fine name t)
releases_are_fine (words.remove program) e = fine_of (λ d t. remove_fine program t)
releases_are_fine _ e = absurd (cc)
