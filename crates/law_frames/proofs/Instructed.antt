-- What falls still falls where a program takes an instruction.
use Rattle.std.proofs.Common.{◌≡◌, refl, ap, sym, subst, ◌∙◌, ℕ, suc, Bool, true, false, cond, List, [], ◌∷◌, ◌-◌, ◌<◌, zero, Option, None, Some, Ok, Err, arith}
use Rattle.std.specs.Prelude.{IfOk, codes, length, slice_get}
use Rattle.ui_machine.specs.declared.arm.Arm.TheVariants as arms
use Rattle.ui_machine.specs.Definition.{Definition}
use Rattle.ui_machine.specs.Definition.Lookups.{program_at}
use Rattle.ui_machine.specs.Definition.Programs.{Arithmetic, Block, Comparison, Connect, Instruction}
use Rattle.ui_machine.specs.Definition.Programs as words
use Rattle.ui_machine.specs.Instructions.{in_front, instruction_step, running}
use Rattle.ui_machine.specs.Instructions.Jumps.{past}
use Rattle.ui_machine.specs.Outcome.{Answer}
use Rattle.ui_machine.specs.Rules.Connections.{blocked, disconnected, unblocked, with_handlers_on}
use Rattle.ui_machine.specs.State.Bindings.{is_binding}
use Rattle.ui_machine.specs.State.Config.{Left, Started, World}
use Rattle.ui_machine.specs.State.Tasks.{Running, Frame, Task}
use Rattle.machine_laws.proofs.KeptProofs.{only_keeps}
use Rattle.law_steps.specs.Instructed.Running.{at_top}
use Rattle.law_steps.proofs.Instructed.Around.{Due}
use Rattle.law_frames.specs.Frames.{FallsAt}
use Rattle.law_frames.proofs.Programs.{Led, goes}
use Rattle.law_frames.proofs.Tasks.{Nothing}
use Rattle.ui_machine.specs.Instructions.Jumps.{is_again}
use Rattle.law_typing.specs.Laws.StepsKeepGood.{IsGood}
use Rattle.law_typing.specs.Laws.WellRead.{WellRead}
use Rattle.law_typing.specs.Verdict.Accepted.{Accepted}
use Rattle.law_typing.specs.Good.ComingDown.{none}
use Rattle.law_typing.specs.Good.Programs.{RunningGood, code_of, code_of_block}
use Rattle.law_typing.specs.Good.Standing.{standing}
use Rattle.law_typing.specs.Graph.Tables.{of_program}
use Rattle.law_steps.specs.Instructed.Running.{block_if, in_pass_if, instruction_at, taking}
use Rattle.law_steps.proofs.Instructed.Around.{running_is}
use Rattle.law_steps.proofs.Instructed.Passes.{Turned, turned}
use Rattle.law_frames.specs.Frames.{Under}
use Rattle.law_frames.proofs.Going.{GoesOn, same_kept}
use Rattle.law_frames.proofs.GoingInstructions.{May, instructed_kept}
use Rattle.law_frames.proofs.Leading.{framed}
use Rattle.law_frames.proofs.Lower.{returns, stops}
use Rattle.law_frames.proofs.Makings.{creates}
use Rattle.law_frames.proofs.Raising.{emits, sets}
use Rattle.law_frames.proofs.Thaws as thawing
use Rattle.law_frames.proofs.Tasks.{LeadsLeft}
use Rattle.law_frames.proofs.Walk as walk
use Rattle.law_frames.proofs.Walk.{Kept}

module _ {d : Definition} {i : Instruction} (t : Due d i) (f : FallsAt d t.a.weighed.depths (at_top t.w t.f t.rest t.n)) where
  -- what is good then falls
  abbrev pub Comes : Left → Type 0
  Comes l = IsGood d t.a t.most_counted (record { world = l.world; agenda = l.agenda; counted = suc t.n }) → FallsAt d t.a.weighed.depths (record { world = l.world; agenda = l.agenda; counted = suc t.n })

  abbrev LeadsOn : (ℕ → ℕ → Type 0) → Left → Type 0
  LeadsOn But l = LeadsLeft d t.a t.most_counted t.w (Running t.f) t.rest t.n t.g f But (suc t.n) l

  joined : (But : ℕ → ℕ → Type 0) (j : Instruction) → May But d t.w (past t.f) j → IfOk (instruction_step d t.w t.rest (past t.f) j) (LeadsOn But) → IfOk (instruction_step d t.w t.rest (past t.f) j) Comes
  joined But j may leads = by (instruction_step d t.w t.rest (past t.f) j) leads (instructed_kept But d t.w t.rest (past t.f) j may)
    where
      by : (x : Answer Left) → IfOk x (LeadsOn But) → IfOk x (λ l. GoesOn But t.w l.world) → IfOk x Comes
      by (Ok l) leads on = λ good. leads good on
      by (Err arm) leads on = tt

  begins : (But : ℕ → ℕ → Type 0) (x : Answer Started) → IfOk x (Led t f But) → IfOk (in_front t.rest x) (LeadsOn But)
  unfolding in_front
  begins But (Ok s) leads = leads
  begins But (Err arm) leads = tt

  at_once : (x : Answer Started) → IfOk x (Kept t f (past t.f)) → IfOk x (Led t f Nothing)
  at_once (Ok s) kept = kept refl
  at_once (Err arm) kept = tt

module _ {d : Definition} where
  pub instructed : (i : Instruction) (t : Due d i) (f : FallsAt d t.a.weighed.depths (at_top t.w t.f t.rest t.n)) → IfOk (instruction_step d t.w t.rest (past t.f) i) (Comes t f)
  instructed (words.const to kind v) t f = joined t f Nothing (words.const to kind v) tt (begins t f Nothing _ (at_once t f _ (walk.writes t f to (Some v) (past t.f))))
  instructed (words.move to from) t f = joined t f Nothing (words.move to from) tt (begins t f Nothing _ (at_once t f _ (walk.moves t f (past t.f) to from)))
  instructed (words.clear to) t f = joined t f Nothing (words.clear to) tt (begins t f Nothing _ (at_once t f _ (walk.writes t f to None (past t.f))))
  instructed (words.arithmetic operation to a b) t f = joined t f Nothing (words.arithmetic operation to a b) tt (begins t f Nothing _ (at_once t f _ (walk.reckons t f (past t.f) operation to a b)))
  instructed (words.compare comparison to a b) t f = joined t f Nothing (words.compare comparison to a b) tt (begins t f Nothing _ (at_once t f _ (walk.compares t f (past t.f) comparison to a b)))
  instructed (words.same to a b) t f = joined t f Nothing (words.same to a b) tt (begins t f Nothing _ (at_once t f _ (walk.sames t f (past t.f) to a b)))
  instructed (words.negate to a) t f = joined t f Nothing (words.negate to a) tt (begins t f Nothing _ (at_once t f _ (walk.negates t f (past t.f) to a)))
  instructed (words.both to a b) t f = joined t f Nothing (words.both to a b) tt (begins t f Nothing _ (at_once t f _ (walk.both t f (past t.f) to a b)))
  instructed (words.either to a b) t f = joined t f Nothing (words.either to a b) tt (begins t f Nothing _ (at_once t f _ (walk.either t f (past t.f) to a b)))
  instructed (words.join to a b) t f = joined t f Nothing (words.join to a b) tt (begins t f Nothing _ (at_once t f _ (walk.joins t f (past t.f) to a b)))
  instructed (words.convert to a kind) t f = joined t f Nothing (words.convert to a kind) tt (begins t f Nothing _ (at_once t f _ (walk.converts t f (past t.f) to a kind)))
  instructed (words.get to object name) t f = joined t f Nothing (words.get to object name) tt (begins t f Nothing _ (at_once t f _ (walk.gets t f (past t.f) to object name)))
  instructed (words.set object name from) t f = joined t f Nothing (words.set object name from) tt (begins t f Nothing _ (sets object name from t f))
  instructed (words.object to id) t f = joined t f Nothing (words.object to id) tt (begins t f Nothing _ (at_once t f _ (walk.names t f (past t.f) to id)))
  instructed (words.new to id) t f = joined t f Nothing (words.new to id) tt (begins t f Nothing _ (creates to id t f))
  instructed (words.sink object) t f = joined t f Nothing (words.sink object) tt (begins t f Nothing _ (at_once t f _ (walk.sinks t f (past t.f) object)))
  instructed (words.orphan object) t f = joined t f Nothing (words.orphan object) tt (begins t f Nothing _ (at_once t f _ (walk.orphans t f (past t.f) object)))
  instructed (words.dispose object) t f = joined t f Nothing (words.dispose object) tt (begins t f Nothing _ (at_once t f _ (walk.disposes t f (past t.f) object)))
  instructed (words.adopt to parent child) t f = joined t f Nothing (words.adopt to parent child) tt (begins t f Nothing _ (at_once t f _ (walk.adopts t f (past t.f) to parent child)))
  instructed (words.freeze object) t f = joined t f Nothing (words.freeze object) tt (begins t f Nothing _ (at_once t f _ (walk.freezes t f (past t.f) object)))
  instructed (words.thaw object) t f = joined t f Nothing (words.thaw object) tt (begins t f Nothing _ (thawing.thaws object t f))
  instructed (words.emit into object name detail args) t f = joined t f Nothing (words.emit into object name detail args) tt (begins t f Nothing _ (emits into object name detail args t f))
  instructed (words.notify object name) t f = joined t f (thawing.Told object name t f) (words.notify object name) (λ id slot asked found. (asked, found)) (begins t f (thawing.Told object name t f) _ (thawing.notifies object name t f))
  instructed (words.connect to object c) t f = joined t f Nothing (words.connect to object c) tt (begins t f Nothing _ (at_once t f _ (walk.connects t f t.rest (past t.f) to object c)))
  instructed (words.disconnect object program) t f = joined t f Nothing (words.disconnect object program) tt (begins t f Nothing _ (at_once t f _ (walk.changes t f (past t.f) object program disconnected)))
  instructed (words.block object program) t f = joined t f Nothing (words.block object program) tt (begins t f Nothing _ (at_once t f _ (walk.changes t f (past t.f) object program (with_handlers_on blocked))))
  instructed (words.unblock object program) t f = joined t f Nothing (words.unblock object program) tt (begins t f Nothing _ (at_once t f _ (walk.changes t f (past t.f) object program (with_handlers_on unblocked))))
  instructed words.stop t f = joined t f Nothing words.stop tt (stops d t.a t.most_counted t.w t.f t.n (past t.f) (suc t.n) refl t.rest t.g f)
  instructed (words.unbind name) t f = joined t f Nothing (words.unbind name) tt (begins t f Nothing _ (only_keeps (is_binding d name) arms.Code _ _ (goes t f _ (past t.f) refl)))
  instructed (words.idle to program priority with) t f = joined t f Nothing (words.idle to program priority with) tt (begins t f Nothing _ (at_once t f _ (walk.attaches t f (past t.f) to (record { word = codes "idle"; program = program; priority = priority; interval = None; with = with }))))
  instructed (words.timeout to program priority interval with) t f = joined t f Nothing (words.timeout to program priority interval with) tt (begins t f Nothing _ (at_once t f _ (walk.attaches t f (past t.f) to (record { word = codes "timeout"; program = program; priority = priority; interval = Some interval; with = with }))))
  instructed (words.remove program) t f = joined t f Nothing (words.remove program) tt (begins t f Nothing _ (at_once t f _ (walk.removes t f (past t.f) program)))
  instructed (words.call to object name args) t f = joined t f Nothing (words.call to object name args) tt (begins t f Nothing _ (at_once t f _ (walk.calls t f (past t.f) to object name args)))
  instructed (words.jump to) t f = joined t f Nothing (words.jump to) tt (begins t f Nothing _ (at_once t f _ (walk.jumps t f (past t.f) to)))
  instructed (words.branch on then_to else_to) t f = joined t f Nothing (words.branch on then_to else_to) tt (begins t f Nothing _ (at_once t f _ (walk.branches t f (past t.f) on then_to else_to)))
  instructed (words.branch_null on then_to else_to) t f = joined t f Nothing (words.branch_null on then_to else_to) tt (begins t f Nothing _ (at_once t f _ (walk.branches_null t f (past t.f) on then_to else_to)))
  instructed (words.return from) t f = joined t f Nothing (words.return from) tt (returns d t.a t.most_counted t.w t.f t.n (suc t.n) (past t.f) t.rest t.g f from)

-- ** a program takes its next instruction

there : {A : Type 0} (xs : List A) (i : ℕ) → i < length xs → (x : A) × (slice_get xs i ≡ Some x)
there [] i low = absurd (omega (arith, low))
there (x ∷ xs) zero low = (x, refl)
there (x ∷ xs) (suc i) low = there xs i (omega (arith, low))

same_program : (d : Definition) (f : Frame) → (taking d f).program ≡ f.program
same_program d f = by (block_if f.block (program_at d f.program))
  where
    one : (f : Frame) (b : Bool) → (cond b (record f { at = 0; passes = f.passes - 1 }) f).program ≡ f.program
    one f true = refl
    one f false = refl

    by : (o : Option Block) → (in_pass_if o f).program ≡ f.program
    by None = refl
    by (Some b) = one f (is_again b f)

module _ (d : Definition) (well : WellRead d) (a : Accepted d) (most_counted : ℕ) (w : World) (h : Frame) (rest : List Task) (n : ℕ) (g : IsGood d a most_counted (at_top w h rest n)) (f : FallsAt d a.weighed.depths (at_top w h rest n)) where
  abbrev turned_here : Turned d well a most_counted w h rest n g (taking d h)
  turned_here = turned d well a most_counted w h rest n g

  next : (i : Instruction) × (instruction_at d h ≡ Some i)
  next =
      let x = turned_here in
      let again : RunningGood d a.weighed.costs a.weighed.depths (standing w.objects) none (taking d h) x.good.agenda.0 x.good.agenda.1 = x.good.agenda.3.1 in
      let i = there again.b.code (taking d h).at again.inside in (
        i.0,
        sym x.code ∙ (ap (λ code. slice_get code (taking d h).at) (ap (code_of (taking d h).block) again.is ∙ ap code_of_block again.in_block) ∙ i.1),
      )

  falls_turned : FallsAt d a.weighed.depths (at_top w (taking d h) rest n)
  falls_turned =
      let same = same_program d h in
      framed d a most_counted w (Running h) rest n g f Nothing w [] (Running (taking d h)) n
      (λ good goes at falls. subst (λ p. Under d a.weighed.depths (standing w.objects) (of_program a.weighed.depths p) rest) (sym same) f.agenda.0)
      (λ good goes at falls. falls)
      (λ good goes at m u. subst (λ p. m < of_program a.weighed.depths p) (sym same) u)
      (λ id slot o is there. refl)
      (λ good goes falls id slot o is there none. absurd none)
      turned_here.good (same_kept Nothing w w refl refl refl)

  taken : Due d next.0
  taken = record { well = well; a = a; most_counted = most_counted; w = w; f = taking d h; rest = rest; n = n; g = turned_here.good; is = turned_here.code ∙ next.1; settled = turned_here.settled }

  pub runs_on : IfOk (running d w rest h) (λ l. IsGood d a most_counted (record { world = l.world; agenda = l.agenda; counted = suc n }) → FallsAt d a.weighed.depths (record { world = l.world; agenda = l.agenda; counted = suc n }))
  unfolding taken
  runs_on =
      subst (λ x. IfOk x (λ l. IsGood d a most_counted (record { world = l.world; agenda = l.agenda; counted = suc n }) → FallsAt d a.weighed.depths (record { world = l.world; agenda = l.agenda; counted = suc n })))
      (sym (running_is taken) ∙ turned_here.same) (instructed next.0 taken falls_turned)
