-- How the construction that is the first task goes on in its place.
use Rattle.std.proofs.Common.{◌≡◌, ◌∙◌, sym, ap, subst, ℕ, List, drop, None, IsSome, arith}
use Rattle.ui_machine.specs.Definition.{Definition}
use Rattle.ui_machine.specs.Rules.Construction.{constructing}
use Rattle.ui_machine.specs.Seq.{total}
use Rattle.ui_machine.specs.State.Config.{World}
use Rattle.ui_machine.specs.State.Handlers.{Handler}
use Rattle.ui_machine.specs.State.Objects.{living}
use Rattle.ui_machine.specs.State.References.{in_task}
use Rattle.ui_machine.specs.State.Tasks.{ConstructStep, Task}
use Rattle.ui_machine.specs.Steps.{uncounted}
use Rattle.instance_tables.specs.Store.{count_of}
use Rattle.engine_world.specs.Counting.{Counts, nothing}
use Rattle.engine_world.specs.FirstConstructions.{IsConstruction, first_constructed}
use Rattle.engine_stack.specs.FirstConstructions.{Constructed, IsReconstructed, constructing_task, stack_construction}
use Rattle.engine_world.specs.FirstPrograms.{rest_of}
use Rattle.engine_world.specs.View.{world_of}
use Rattle.engine_world.specs.declared.engine.Engine.{Engine}
use Rattle.engine_stack.specs.declared.stacks.Frames.{Frames}
use Rattle.engine_world.proofs.FirstConstructions.{begins}
use Rattle.engine_world.proofs.Floats.{same_self}
use Rattle.engine_world.proofs.Held.{counted_lives}
use Rattle.engine_world.proofs.Registers.{stack_same_held}

module _ (d : Definition) (e : Engine) (first : IsConstruction e) where
  abbrev w : World
  w = world_of e.world

  abbrev hs : List Handler
  hs = e.world.handlers.handlers

  abbrev own : Constructed
  own = first_constructed e

  -- its object lives
  pub lives : ((o : ℕ) → living e.world.table.objects o ≡ None → count_of e.world.table.counts o ≡ 0) → Counts d nothing e → IsSome (living e.world.table.objects own.object)
  lives dead h =
      counted_lives d nothing e dead h own.object
      (let holds = ap (λ (ts : List Task). total (in_task own.object) ts) (begins d e first) in omega (arith, holds, same_self own.object))

  module _ (s : Frames) (constructs : IsReconstructed e.stack s) (now : stack_construction s ≡ record (first_constructed e) { steps = (stack_construction s).steps }) where
    abbrev past : Constructed
    past = stack_construction s

    abbrev on : Engine
    on = record e { stack = s }

    -- it holds what it held
    pub counts_past : Counts d nothing e → Counts d nothing on
    counts_past h =
        stack_same_held d e s
        (λ o.
        let was = ap (λ (ts : List Task). total (in_task o) ts) (begins d e first) in
        let is = ap (λ (ts : List Task). total (in_task o) ts) (constructs.tasks d hs) in
        let same = ap (λ (c : Constructed). in_task o (constructing_task c)) now in
        omega (arith, was, is, same))
        constructs.begun nothing h

    pub lives_past : ((o : ℕ) → living e.world.table.objects o ≡ None → count_of e.world.table.counts o ≡ 0) → Counts d nothing e → IsSome (living e.world.table.objects past.object)
    lives_past dead h = subst (λ id. IsSome (living e.world.table.objects id)) (sym (ap (λ (c : Constructed). c.object) now)) (lives dead h)

    -- the same object is constructed on, with these steps
    pub goes_on : (steps : List ConstructStep) → own.steps ≡ steps
        → uncounted (rest_of d e) e.counted (constructing d w own.object own.steps own.held) ≡ uncounted (rest_of d on) e.counted (constructing d w past.object steps past.held)
    goes_on steps is =
        ap (λ (l : List ConstructStep). uncounted (rest_of d e) e.counted (constructing d w own.object l own.held)) is
        ∙ ap (λ (c : Constructed). uncounted (rest_of d e) e.counted (constructing d w c.object steps c.held)) (sym now)
        ∙ ap (λ (ts : List Task). uncounted ts e.counted (constructing d w past.object steps past.held)) (sym (ap (λ (ts : List Task). drop 1 ts) (constructs.tasks d hs)))
