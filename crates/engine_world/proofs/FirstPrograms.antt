-- The program that is an engine's first task.
use Rattle.std.proofs.Common.{◌≡◌, ℕ, cond, ◌+◌, ◌-◌, Bool, true, false, List, ◌∷◌, slice_get, Option, None, Some, option_map, option_and_then, refl, ap, sym, ◌∙◌, arith}
use Rattle.ui_machine.specs.Definition as machine
use Rattle.ui_machine.specs.Definition.Programs.{Block, Instruction, Program}
use Rattle.ui_machine.specs.Instructions.Jumps.{in_pass, is_again, past}
use Rattle.ui_machine.specs.Seq.{total}
use Rattle.ui_machine.specs.State.References.{in_object, in_task, same}
use Rattle.ui_machine.specs.State.Tasks as config
use Rattle.instance_tables.specs.Store.{Store, count_of}
use Rattle.frames.specs.FrameView.{Taken, taken_in, taken_of}
use Rattle.engine_stack.specs.HeldByTasks.{in_frame}
use Rattle.engine_stack.specs.KnownHandlers.{AllTakeKnownHandlers}
use Rattle.engine_stack.specs.TaskView.{tasks_of}
use Rattle.engine_stack.specs.declared.stacks.Frames.{Frames}
use Rattle.engine_stack.proofs.FirstPrograms.{starts}
use Rattle.engine_world.specs.Counting.{Counts, OnlyCounts}
use Rattle.engine_world.specs.FirstPrograms.{IsProgram, first_frame, rest_of}
use Rattle.engine_world.specs.TaskView.{agenda_of}
use Rattle.engine_world.specs.declared.engine.Engine.{Engine}

-- the same of an engine
pub begins : (d : machine.Definition) (e : Engine) → IsProgram e → agenda_of d e ≡ config.Running (first_frame e) ∷ rest_of d e
begins d e first = starts d e.world.handlers.handlers e.stack first

-- what is taken changes no register, and the program goes on
pub taken_keeps : (p : Program) (f : config.Frame) (t : Taken) → taken_in p f ≡ Some t → (t.frame.registers ≡ f.registers) × (t.frame.program ≡ f.program)
taken_keeps p f t is = by_block (slice_get p.blocks f.block) is
  where
    passed : (b : Bool) → ((cond b (record f { at = 0; passes = f.passes - 1 }) f).registers ≡ f.registers) × ((cond b (record f { at = 0; passes = f.passes - 1 }) f).program ≡ f.program)
    passed true = (refl, refl)
    passed false = (refl, refl)

    by_code : (b : Block) (i : Option Instruction) → option_map (λ i. record { instruction = i; frame = past (in_pass b f) }) i ≡ Some t
        → (t.frame.registers ≡ f.registers) × (t.frame.program ≡ f.program)
    by_code b None e = absurd (cc e)
    by_code b (Some i) e =
        let same : record { instruction = i; frame = past (in_pass b f) } ≡ t = cc e in
        let kept = passed (is_again b f) in
        (sym (ap (λ (x : Taken). x.frame.registers) same) ∙ kept.0, sym (ap (λ (x : Taken). x.frame.program) same) ∙ kept.1)

    by_block : (o : Option Block) → option_and_then (taken_of f) o ≡ Some t → (t.frame.registers ≡ f.registers) × (t.frame.program ≡ f.program)
    by_block None e = absurd (cc e)
    by_block (Some b) e = by_code b (slice_get b.code (in_pass b f).at) e

-- ** counts

-- a program that was written in its place: what it holds now is held, and what it held was let go
pub put_in_place : (d : machine.Definition) (e : Engine) (t : Store) (s : Frames) (f g : config.Frame) (rest : List config.Task) → OnlyCounts e.world.table t
    → ((o : ℕ) → count_of t.counts o + in_frame o f ≡ count_of e.world.table.counts o + in_frame o g)
    → agenda_of d e ≡ config.Running f ∷ rest → tasks_of d e.world.handlers.handlers s ≡ config.Running g ∷ rest
    → ((last : ℕ) → AllTakeKnownHandlers last e.stack → AllTakeKnownHandlers last s)
    → (taken : ℕ → ℕ) → Counts d taken e → Counts d taken (record e { world = record e.world { table = t }; stack = s })
put_in_place d e t s f g rest only counts before after begun taken h = record {
  knows = h.knows;
  links = h.links;
  passes = h.passes;
  connects = record { most = h.connects.most; to_come = h.connects.to_come; begun = begun e.world.handlers.last h.connects.begun };
  exact = λ o.
      let objects : total (in_object d o) t.objects ≡ total (in_object d o) e.world.table.objects = ap (total (in_object d o)) only.objects in
      let floats : total (same o) t.floating ≡ total (same o) e.world.table.floating = ap (total (same o)) only.floating in
      omega (arith, objects, floats, counts o, ap (λ (ts : List config.Task). total (in_task o) ts) before, ap (λ (ts : List config.Task). total (in_task o) ts) after, h.exact o);
}
