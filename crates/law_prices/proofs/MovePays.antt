-- Instructions that change what is there and start nothing: floats, bindings, sources, handlers, freezes and families.
use Rattle.std.proofs.Common.{◌≡◌, inl, refl, ap, subst, ◌∙◌, ℕ, suc, ◌+◌, ◌≤◌, Bool, true, false, cond, List, [], ◌∷◌, map, Option, None, Some, Ok, arith}
use Rattle.std.specs.Prelude.{codes, nat_eq, not, ℤ}
use Rattle.std.specs.List.{filter}
use Rattle.ui_machine.specs.declared.arm.Arm.{Arm}
use Rattle.ui_machine.specs.Seq.{total}
use Rattle.ui_machine.specs.Definition.{Definition}
use Rattle.ui_machine.specs.Definition.Lookups.{program_of}
use Rattle.ui_machine.specs.Definition.Programs.{Instruction}
use Rattle.ui_machine.specs.Definition.Programs as words
use Rattle.ui_machine.specs.Definition.Values as values
use Rattle.ui_machine.specs.Instructions.Jumps.{past}
use Rattle.ui_machine.specs.Instructions.Objects.{adopting, freezing, orphaning, sinking}
use Rattle.ui_machine.specs.Instructions.Registers.{data_in, goes_on, operand_in, tells, with_register, written_to}
use Rattle.ui_machine.specs.Instructions.Signals.{on_handlers}
use Rattle.ui_machine.specs.Instructions.Sources.{Attach, attaching, removing, with_source}
use Rattle.ui_machine.specs.Outcome.{After, known}
use Rattle.ui_machine.specs.Output.Lines as lines
use Rattle.ui_machine.specs.Rules.Children.{adopted, is_unadoptable, orphaned, updated, with_child, with_family, with_parent, without_child}
use Rattle.ui_machine.specs.Rules.Connections.{blocked, disconnected, is_on, unblocked, with_handlers_on}
use Rattle.ui_machine.specs.Rules.NotifyQueue.{frozen_more}
use Rattle.ui_machine.specs.State.Config.{Started, World, said, sunk, with_objects}
use Rattle.ui_machine.specs.State.Handlers.{Handler, handler_of}
use Rattle.ui_machine.specs.State.Objects.{Object, Objects, changed, living, object_at, put}
use Rattle.ui_machine.specs.State.Sources as sources
use Rattle.ui_machine.specs.State.Tasks.{Frame, Registers, Running}
use Rattle.law_typing.specs.Good.Builds.{is_for_builder}
use Rattle.law_typing.specs.Good.Standing.{Standing, standing, view}
use Rattle.law_typing.specs.Graph.Tables.{Tables}
use Rattle.law_steps.specs.Kept.Handlers.{OnlyBlocks}
use Rattle.law_steps.proofs.Instructed.Around.{Due}
use Rattle.law_steps.proofs.Instructed.Inverse.{bound, known_is, only}
use Rattle.law_steps.proofs.Kept.DisposeProofs.{place_same, sum_changed}
use Rattle.law_steps.proofs.Kept.HandlersProofs.{handlers_changed, handlers_left, left_are_found}
use Rattle.law_prices.specs.Deeds.{PriceList}
use Rattle.law_prices.specs.Paid.{HandlersPaid}
use Rattle.law_prices.specs.Potential.{agenda_price, floating_price, object_price, running_price, seen}
use Rattle.law_prices.specs.Prices.{price_of}
use Rattle.law_prices.proofs.Agenda.{agenda_less, handler_price}
use Rattle.law_prices.proofs.Pays.{PaidThere, Pays, answered, changed as pays_changed, more, ok_is, paid_in, quiet}
use Rattle.law_prices.proofs.RegisterPays.{InstructionPays}
use Rattle.law_prices.proofs.Whole.{agenda_alike, floating_without, objects_price, objects_put, standing_put}

-- ** what an object that is changed costs

pub standing_updated : (change : Object → Object) → ((o : Object) → (change o).place ≡ o.place) → (id : ℕ) (os : Objects) → standing (updated change id os) ≡ standing os
standing_updated change same id os = λ i other. place_same change same id other os i

module _ (d : Definition) (P : PriceList) (t : Tables) where
  pub updated_price : (making : ℕ) (change : Object → Object) → ((o : Object) → object_price d P t making (change o) ≡ object_price d P t making o) → (id : ℕ) (os : Objects) →
      objects_price d P t making (updated change id os) ≡ objects_price d P t making os
  updated_price making change same id os = sum_changed (price_of (object_price d P t making)) refl change same os id

  -- ** the rest of the agenda

  module _ {i : Instruction} (u : Due d i) where
    open u use {a, w, f, rest, n, g}

    -- where no source of the rest is due, and the handlers that are found are those that were, or none
    pub rest_less : (v : World) → standing v.objects ≡ standing w.objects →
        ((number : ℕ) → number ≤ w.last_handler → price_of (handler_price P t) (handler_of number v.handlers) ≤ price_of (handler_price P t) (handler_of number w.handlers)) →
        agenda_price d P t (seen v) rest ≤ agenda_price d P t (seen w) rest
    rest_less v stands handlers =
        agenda_less d P t w.last_handler (seen w) (seen v) a.weighed.costs a.weighed.depths (view w) refl refl _ _ rest g.agenda.2
        (record { stands = λ id place is. inl (ap (λ (s : Standing). s id) stands ∙ is); handlers = handlers; sources = inl g.sets.alone }) g.agenda.6

    -- an instruction that leaves the world so and goes on
    pub goes : (v : World) (s : Started) → goes_on v [] (past f) ≡ Ok s → Pays u P t (record { world = v; agenda = Running (past f) ∷ rest }) →
        (v : World) × (next : Frame) × (record { world = v; tasks = Running next ∷ [] } ≡ s) × Pays u P t (record { world = v; agenda = Running next ∷ rest })
    goes v s e pays = (v, past f, ok_is {E = Arm} _ s e, pays)

    -- or writes a register as well
    pub writes : (v : World) (done : Bool) (to : ℕ) (s : Started) → tells (record { state = v; answer = done }) to (past f) ≡ Ok s →
        ((registers : Registers) → Pays u P t (record { world = v; agenda = Running (record (past f) { registers = registers }) ∷ rest })) →
        (v : World) × (next : Frame) × (record { world = v; tasks = Running next ∷ [] } ≡ s) × Pays u P t (record { world = v; agenda = Running next ∷ rest })
    unfolding written_to
    writes v done to s e pays =
        let b = bound (with_register to (Some (values.bool done)) (past f).registers) _ s e in
        (v, record (past f) { registers = b.0 }, ok_is {E = Arm} _ s b.2, pays b.0)

    -- a world with other objects of the same places that cost no more
    with_other_objects : (v : World) (next : Frame) → running_price d P t next ≡ running_price d P t (past f) → standing v.objects ≡ standing w.objects → v.handlers ≡ w.handlers → v.last_handler ≡ w.last_handler →
        v.sources ≡ w.sources → objects_price d P t (total is_for_builder (Running next ∷ rest)) v.objects + more u P t ≤ objects_price d P t (total is_for_builder (Running next ∷ rest)) w.objects →
        floating_price d P (standing w.objects) v.floating ≤ floating_price d P (standing w.objects) w.floating → PaidThere u P t → Pays u P t (record { world = v; agenda = Running next ∷ rest })
    with_other_objects v next same stands handlers last sources os fs paid =
        pays_changed u P t v next (omega (arith, same))
        (let x = agenda_alike d P t (seen w) (seen v) rest stands handlers sources in omega (arith, x)) os
        (let x = ap (λ (s : Standing). floating_price d P s v.floating) stands in omega (arith, x, fs))
        (paid_in d a w v (Running f ∷ rest) (Running next ∷ rest) stands handlers last (λ f. omega arith) paid)

  -- ** floats, bindings and sources

  sunk_is : (object : ℕ) (u : Due d (words.sink object)) → PaidThere u P t → (s : Started) → sinking u.w (past u.f) object ≡ Ok s →
      (v : World) × (next : Frame) × (record { world = v; tasks = Running next ∷ [] } ≡ s) × Pays u P t (record { world = v; agenda = Running next ∷ u.rest })
  unfolding sinking
  sunk_is object u paid s e =
      let b = bound (operand_in u.w (past u.f) object) _ s e in
      goes u (sunk u.w b.0) s b.2
      (quiet u P t (sunk u.w b.0) (record { objects = refl; handlers = refl; last = refl; sources = refl; floating = floating_without d P t (standing u.w.objects) b.0 u.w.floating }) (past u.f) (omega arith) refl paid)

  pub sink_pays : (object : ℕ) → InstructionPays d P t (words.sink object)
  sink_pays object u paid l e = answered u P t _ (sunk_is object u paid) l e

  pub unbind_pays : (name : List ℕ) → InstructionPays d P t (words.unbind name)
  unbind_pays name u paid l e =
      answered u P t _
      (λ s e.
      let k = only _ _ _ s e in
      goes u _ s k.1 (quiet u P t _ (record { objects = refl; handlers = refl; last = refl; sources = refl; floating = omega arith }) (past u.f) (omega arith) refl paid))
      l e

  removed_is : (program : List ℕ) (u : Due d (words.remove program)) → PaidThere u P t → (s : Started) → removing d u.w (past u.f) program ≡ Ok s →
      (v : World) × (next : Frame) × (record { world = v; tasks = Running next ∷ [] } ≡ s) × Pays u P t (record { world = v; agenda = Running next ∷ u.rest })
  unfolding removing
  removed_is program u paid s e =
      let b = bound (known _ (program_of d program)) _ s e in
      let v = record u.w { sources = sources.without_program b.0 u.w.sources } in
      goes u v s b.2
      (pays_changed u P t v (past u.f) (omega arith) (rest_less u v refl (λ n low. omega arith)) (omega arith) (omega arith)
      (paid_in d u.a u.w v (Running u.f ∷ u.rest) (Running (past u.f) ∷ u.rest) refl refl refl (λ f. omega arith) paid))

  pub remove_pays : (program : List ℕ) → InstructionPays d P t (words.remove program)
  remove_pays program u paid l e = answered u P t _ (removed_is program u paid) l e

  attached_is : {i : Instruction} (u : Due d i) → more u P t ≡ 0 → PaidThere u P t → (to : ℕ) (x : Attach) (s : Started) → attaching d u.w (past u.f) to x ≡ Ok s →
      (v : World) × (next : Frame) × (record { world = v; tasks = Running next ∷ [] } ≡ s) × Pays u P t (record { world = v; agenda = Running next ∷ u.rest })
  unfolding attaching
  attached_is u none paid to x s e =
      let program = bound (known _ (program_of d x.program)) _ s e in
      let arg = bound (data_in u.w (past u.f) x.with) _ s program.2 in
      go program.0 arg.0 (sources.has_room u.w.sources u.w.last_source) arg.2
    where
      go : (program : ℕ) (arg : Option ℕ) (room : Bool) →
          tells (cond room (record { state = with_source u.w x program arg; answer = true }) (record { state = said d u.w (lines.limit x.word); answer = false })) to (past u.f) ≡ Ok s →
          (v : World) × (next : Frame) × (record { world = v; tasks = Running next ∷ [] } ≡ s) × Pays u P t (record { world = v; agenda = Running next ∷ u.rest })
      go program arg true e =
          let v = with_source u.w x program arg in
          writes u v true to s e
          (λ registers.
          pays_changed u P t v (record (past u.f) { registers = registers }) (omega arith) (rest_less u v refl (λ n low. omega arith)) (omega (arith, none)) (omega arith)
          (paid_in d u.a u.w v (Running u.f ∷ u.rest) (Running (record (past u.f) { registers = registers }) ∷ u.rest) refl refl refl (λ f. omega arith) paid))
      go program arg false e =
          let v = said d u.w (lines.limit x.word) in
          writes u v false to s e
          (λ registers. quiet u P t v (record { objects = refl; handlers = refl; last = refl; sources = refl; floating = omega arith }) (record (past u.f) { registers = registers }) (omega arith) none paid)

  pub idle_pays : (to : ℕ) (program : List ℕ) (priority : ℤ) (with : Option ℕ) → InstructionPays d P t (words.idle to program priority with)
  idle_pays to program priority with u paid l e = answered u P t _ (λ s e. attached_is u refl paid to _ s e) l e

  pub timeout_pays : (to : ℕ) (program : List ℕ) (priority : ℤ) (interval : ℕ) (with : Option ℕ) → InstructionPays d P t (words.timeout to program priority interval with)
  timeout_pays to program priority interval with u paid l e = answered u P t _ (λ s e. attached_is u refl paid to _ s e) l e

  -- ** handlers

  -- a program that a number finds among those that are left
  pub found_less : (o p : Option Handler) → ((h : Handler) → o ≡ Some h → p ≡ Some h) → price_of (handler_price P t) o ≤ price_of (handler_price P t) p
  found_less None p same = omega arith
  found_less (Some h) p same = let x = ap (price_of (handler_price P t)) (same h refl) in omega (arith, x)

  left_pays : {i : Instruction} (u : Due d i) → more u P t ≡ 0 → PaidThere u P t → (test : Handler → Bool) →
      Pays u P t (record { world = record u.w { handlers = filter test u.w.handlers }; agenda = Running (past u.f) ∷ u.rest })
  left_pays u none paid test =
      let v = record u.w { handlers = filter test u.w.handlers } in
      let hs : HandlersPaid d u.a (standing u.w.objects) (Running u.f ∷ u.rest) u.w.last_handler (filter test u.w.handlers) =
      λ costs. handlers_left d costs u.a.weighed.depths (standing u.w.objects) (standing u.w.objects) (Running u.f ∷ u.rest) u.w.last_handler u.w.handlers test (λ id place e. e) (λ h e. (λ place e. e, λ id e place f. f)) (paid costs) in
      pays_changed u P t v (past u.f) (omega arith)
      (rest_less u v refl
      (λ number low. found_less (handler_of number (filter test u.w.handlers)) (handler_of number u.w.handlers)
      (left_are_found d u.a.weighed.costs u.a.weighed.depths (standing u.w.objects) (Running u.f ∷ u.rest) u.w.last_handler u.w.handlers test u.g.handlers number)))
      (omega (arith, none)) (omega arith)
      (paid_in d u.a v v (Running u.f ∷ u.rest) (Running (past u.f) ∷ u.rest) refl refl refl (λ f. omega arith) hs)

  changed_found : (change : Handler → Handler) → OnlyBlocks change → (number : ℕ) (hs : List Handler) → price_of (handler_price P t) (handler_of number (map change hs)) ≡ price_of (handler_price P t) (handler_of number hs)
  changed_found change only number [] = refl
  changed_found change only number (h ∷ hs) =
      ap (λ m. price_of (handler_price P t) (cond (nat_eq m number) (Some (change h)) (handler_of number (map change hs)))) (only.number h) ∙ go (nat_eq h.number number) (changed_found change only number hs)
    where
      go : (b : Bool) → price_of (handler_price P t) (handler_of number (map change hs)) ≡ price_of (handler_price P t) (handler_of number hs) →
          price_of (handler_price P t) (cond b (Some (change h)) (handler_of number (map change hs))) ≡ price_of (handler_price P t) (cond b (Some h) (handler_of number hs))
      go true e = ap (λ q. handler_price P t (record h { program = q })) (only.program h)
      go false e = e

  change_pays : {i : Instruction} (u : Due d i) → more u P t ≡ 0 → PaidThere u P t → (change : Handler → Handler) → OnlyBlocks change →
      Pays u P t (record { world = record u.w { handlers = map change u.w.handlers }; agenda = Running (past u.f) ∷ u.rest })
  change_pays u none paid change only =
      let v = record u.w { handlers = map change u.w.handlers } in
      let hs : HandlersPaid d u.a (standing u.w.objects) (Running u.f ∷ u.rest) u.w.last_handler (map change u.w.handlers) =
      λ costs. handlers_changed d costs u.a.weighed.depths (standing u.w.objects) (Running u.f ∷ u.rest) u.w.last_handler u.w.handlers change only (paid costs) in
      pays_changed u P t v (past u.f) (omega arith)
      (rest_less u v refl (λ number low. (let x = changed_found change only number u.w.handlers in omega (arith, x))))
      (omega (arith, none)) (omega arith)
      (paid_in d u.a v v (Running u.f ∷ u.rest) (Running (past u.f) ∷ u.rest) refl refl refl (λ f. omega arith) hs)

  handlers_is : {i : Instruction} (u : Due d i) (object : ℕ) (program : List ℕ) (change : World → ℕ → ℕ → World) →
      ((id number : ℕ) → Pays u P t (record { world = change u.w id number; agenda = Running (past u.f) ∷ u.rest })) → (s : Started) → on_handlers d u.w (past u.f) object program change ≡ Ok s →
      (v : World) × (next : Frame) × (record { world = v; tasks = Running next ∷ [] } ≡ s) × Pays u P t (record { world = v; agenda = Running next ∷ u.rest })
  unfolding on_handlers
  handlers_is u object program change pays s e =
      let id = bound (operand_in u.w (past u.f) object) _ s e in
      let number = bound (known _ (program_of d program)) _ s id.2 in
      goes u (change u.w id.0 number.0) s number.2 (pays id.0 number.0)

  pub disconnect_pays : (object : ℕ) (program : List ℕ) → InstructionPays d P t (words.disconnect object program)
  disconnect_pays object program u paid l e =
      answered u P t _ (λ s e. handlers_is u object program disconnected (λ id number. left_pays u refl paid (λ h. not (is_on id number h))) s e) l e

  -- a change of how often it is blocked, where the test holds
  only_blocked : (test : Handler → Bool) → OnlyBlocks (λ h. cond (test h) (blocked h) h)
  only_blocked test = record {
    number = λ h. go (λ (h : Handler). h.number) h (test h) refl;
    object = λ h. go (λ (h : Handler). h.object) h (test h) refl;
    signal = λ h. go (λ (h : Handler). h.signal) h (test h) refl;
    detail = λ h. go (λ (h : Handler). h.detail) h (test h) refl;
    program = λ h. go (λ (h : Handler). h.program) h (test h) refl;
    swapped = λ h. go (λ (h : Handler). h.swapped) h (test h) refl;
    arg = λ h. go (λ (h : Handler). h.arg) h (test h) refl;
    by_code = λ h. go (λ (h : Handler). h.by_code) h (test h) refl;
  }
    where
      go : {A : Type 0} (p : Handler → A) (h : Handler) (b : Bool) → p (blocked h) ≡ p h → p (cond b (blocked h) h) ≡ p h
      go p h true e = e
      go p h false e = refl

  only_unblocked : (test : Handler → Bool) → OnlyBlocks (λ h. cond (test h) (unblocked h) h)
  only_unblocked test = record {
    number = λ h. go (λ (h : Handler). h.number) h (test h) refl;
    object = λ h. go (λ (h : Handler). h.object) h (test h) refl;
    signal = λ h. go (λ (h : Handler). h.signal) h (test h) refl;
    detail = λ h. go (λ (h : Handler). h.detail) h (test h) refl;
    program = λ h. go (λ (h : Handler). h.program) h (test h) refl;
    swapped = λ h. go (λ (h : Handler). h.swapped) h (test h) refl;
    arg = λ h. go (λ (h : Handler). h.arg) h (test h) refl;
    by_code = λ h. go (λ (h : Handler). h.by_code) h (test h) refl;
  }
    where
      go : {A : Type 0} (p : Handler → A) (h : Handler) (b : Bool) → p (unblocked h) ≡ p h → p (cond b (unblocked h) h) ≡ p h
      go p h true e = e
      go p h false e = refl

  pub block_pays : (object : ℕ) (program : List ℕ) → InstructionPays d P t (words.block object program)
  block_pays object program u paid l e =
      answered u P t _ (λ s e. handlers_is u object program (with_handlers_on blocked) (λ id number. change_pays u refl paid _ (only_blocked (is_on id number))) s e) l e

  pub unblock_pays : (object : ℕ) (program : List ℕ) → InstructionPays d P t (words.unblock object program)
  unblock_pays object program u paid l e =
      answered u P t _ (λ s e. handlers_is u object program (with_handlers_on unblocked) (λ id number. change_pays u refl paid _ (only_unblocked (is_on id number))) s e) l e

  -- ** freezes and families

  frozen_is : (object : ℕ) (u : Due d (words.freeze object)) → PaidThere u P t → (s : Started) → freezing u.w (past u.f) object ≡ Ok s →
      (v : World) × (next : Frame) × (record { world = v; tasks = Running next ∷ [] } ≡ s) × Pays u P t (record { world = v; agenda = Running next ∷ u.rest })
  unfolding freezing changed
  frozen_is object u paid s e =
      let id = bound (operand_in u.w (past u.f) object) _ s e in
      let frozen = bound (changed u.w.objects id.0 frozen_more) _ s id.2 in
      let o = bound (object_at u.w.objects id.0) _ frozen.0 frozen.1 in
      let new = bound (frozen_more o.0) _ frozen.0 o.2 in
      let k = only _ _ _ new.0 new.1 in
      let lives = known_is _ (living u.w.objects id.0) o.0 o.1 in
      let after : Object = record o.0 { freezes = suc o.0.freezes } in
      let made : after ≡ new.0.state = ap (λ (x : After Object (Unit {0})). x.state) (ok_is {E = Arm} (record { state = after; answer = tt }) new.0 k.1) in
      let stands = standing_put u.w.objects id.0 o.0 after lives refl in
      let costs = objects_put d P t (total is_for_builder (Running (past u.f) ∷ u.rest)) id.0 u.w.objects o.0 after lives in
      let v = with_objects u.w (put u.w.objects id.0 (Some after)) in
      let os : put u.w.objects id.0 (Some after) ≡ frozen.0.state = ap (λ (x : Object). put u.w.objects id.0 (Some x)) made ∙ ap (λ (x : After Objects (Unit {0})). x.state) (ok_is {E = Arm} _ frozen.0 new.2) in
      let pays = with_other_objects u v (past u.f) refl stands refl refl refl (omega (arith, costs)) (omega arith) paid in
      goes u (with_objects u.w frozen.0.state) s frozen.2 (subst (λ (os : Objects). Pays u P t (record { world = with_objects u.w os; agenda = Running (past u.f) ∷ u.rest })) os pays)

  pub freeze_pays : (object : ℕ) → InstructionPays d P t (words.freeze object)
  freeze_pays object u paid l e = answered u P t _ (frozen_is object u paid) l e

  -- two objects get other families
  family_pays : {i : Instruction} (u : Due d i) → more u P t ≡ 0 → PaidThere u P t → (v : World) (next : Frame) → running_price d P t next ≡ running_price d P t (past u.f) → (first second : Object → Object) → (x y : ℕ) →
      ((o : Object) → (first o).place ≡ o.place) → ((o : Object) → (second o).place ≡ o.place) →
      ((making : ℕ) (o : Object) → object_price d P t making (first o) ≡ object_price d P t making o) → ((making : ℕ) (o : Object) → object_price d P t making (second o) ≡ object_price d P t making o) →
      v.objects ≡ updated first x (updated second y u.w.objects) → v.handlers ≡ u.w.handlers → v.last_handler ≡ u.w.last_handler → v.sources ≡ u.w.sources →
      floating_price d P (standing u.w.objects) v.floating ≤ floating_price d P (standing u.w.objects) u.w.floating → Pays u P t (record { world = v; agenda = Running next ∷ u.rest })
  family_pays u none paid v next same first second x y place_first place_second price_first price_second objects handlers last sources floating =
      let making = total is_for_builder (Running next ∷ u.rest) in
      let stands = ap standing objects ∙ (standing_updated first place_first x (updated second y u.w.objects) ∙ standing_updated second place_second y u.w.objects) in
      let one = updated_price making first (price_first making) x (updated second y u.w.objects) in
      let two = updated_price making second (price_second making) y u.w.objects in
      let all = ap (objects_price d P t making) objects in
      with_other_objects u v next same stands handlers last sources (omega (arith, none, one, two, all)) floating paid

  orphaned_is : (object : ℕ) (u : Due d (words.orphan object)) → PaidThere u P t → (s : Started) → orphaning d u.w (past u.f) object ≡ Ok s →
      (v : World) × (next : Frame) × (record { world = v; tasks = Running next ∷ [] } ≡ s) × Pays u P t (record { world = v; agenda = Running next ∷ u.rest })
  unfolding orphaning
  orphaned_is object u paid s e =
      let id = bound (operand_in u.w (past u.f) object) _ s e in
      let o = bound (object_at u.w.objects id.0) _ s id.2 in
      goes u (orphaned d u.w id.0 o.0.parent) s o.2 (go id.0 o.0.parent)
    where
      go : (id : ℕ) (parent : Option ℕ) → Pays u P t (record { world = orphaned d u.w id parent; agenda = Running (past u.f) ∷ u.rest })
      go id None = quiet u P t u.w (record { objects = refl; handlers = refl; last = refl; sources = refl; floating = omega arith }) (past u.f) (omega arith) refl paid
      go id (Some parent) =
          family_pays u refl paid (orphaned d u.w id (Some parent)) (past u.f) refl (with_parent None) (without_child id) id parent
          (λ o. refl) (λ o. refl) (λ m o. refl) (λ m o. refl) refl refl refl refl (omega arith)

  pub orphan_pays : (object : ℕ) → InstructionPays d P t (words.orphan object)
  orphan_pays object u paid l e = answered u P t _ (orphaned_is object u paid) l e

  adopted_is : (to parent child : ℕ) (u : Due d (words.adopt to parent child)) → PaidThere u P t → (s : Started) → adopting d u.w (past u.f) to parent child ≡ Ok s →
      (v : World) × (next : Frame) × (record { world = v; tasks = Running next ∷ [] } ≡ s) × Pays u P t (record { world = v; agenda = Running next ∷ u.rest })
  unfolding adopting adopted
  adopted_is to parent child u paid s e =
      let p = bound (operand_in u.w (past u.f) parent) _ s e in
      let c = bound (operand_in u.w (past u.f) child) _ s p.2 in
      let family = bound (adopted d u.w p.0 c.0) _ s c.2 in
      let above = bound (object_at u.w.objects p.0) _ family.0 family.1 in
      let below = bound (object_at u.w.objects c.0) _ family.0 above.2 in
      go p.0 c.0 (is_unadoptable p.0 above.0 c.0 below.0) family.0 (ok_is {E = Arm} _ family.0 below.2) family.2
    where
      go : (p c : ℕ) (un : Bool) (family : After World Bool) →
          cond un (record { state = said d u.w (lines.limit (codes "adopt")); answer = false }) (record { state = with_family d u.w p c; answer = true }) ≡ family →
          tells family to (past u.f) ≡ Ok s → (v : World) × (next : Frame) × (record { world = v; tasks = Running next ∷ [] } ≡ s) × Pays u P t (record { world = v; agenda = Running next ∷ u.rest })
      go p c true family is e =
          let v = said d u.w (lines.limit (codes "adopt")) in
          writes u v false to s (ap (λ (x : After World Bool). tells x to (past u.f)) is ∙ e)
          (λ registers. quiet u P t v (record { objects = refl; handlers = refl; last = refl; sources = refl; floating = omega arith }) (record (past u.f) { registers = registers }) (omega arith) refl paid)
      go p c false family is e =
          let v = with_family d u.w p c in
          writes u v true to s (ap (λ (x : After World Bool). tells x to (past u.f)) is ∙ e)
          (λ registers.
          family_pays u refl paid v (record (past u.f) { registers = registers }) refl (with_parent (Some p)) (with_child c) c p
          (λ o. refl) (λ o. refl) (λ m o. refl) (λ m o. refl) refl refl refl refl (floating_without d P t (standing u.w.objects) c u.w.floating))

  pub adopt_pays : (to parent child : ℕ) → InstructionPays d P t (words.adopt to parent child)
  adopt_pays to parent child u paid l e = answered u P t _ (adopted_is to parent child u paid) l e
