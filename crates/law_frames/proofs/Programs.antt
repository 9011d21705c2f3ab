-- Where a program takes an instruction, what is to be shown of the tasks that it starts.
use Rattle.std.proofs.Common.{append_assoc, ◌≡◌, refl, sym, subst, ℕ, suc, ◌<◌, List, [], ◌∷◌, ◌++◌, Some, arith}
use Rattle.ui_machine.specs.Seq.{total}
use Rattle.ui_machine.specs.Definition.{Definition}
use Rattle.ui_machine.specs.Definition.Programs.{Instruction}
use Rattle.ui_machine.specs.State.Config.{World, Started}
use Rattle.ui_machine.specs.State.Objects.{Object, living}
use Rattle.ui_machine.specs.State.Tasks.{Frame, Running, Task}
use Rattle.law_typing.specs.Good.ComingDown.{none}
use Rattle.law_typing.specs.Good.Freezes.{frozen_by}
use Rattle.law_typing.specs.Good.Programs.{RunningGood}
use Rattle.law_typing.specs.Good.Standing.{standing}
use Rattle.law_typing.specs.Graph.{graph, start_of, stretches_of}
use Rattle.law_typing.specs.Graph.Depths.{program_depth, start_depth}
use Rattle.law_typing.specs.Graph.Tables.{Tables, of_program}
use Rattle.law_typing.specs.Laws.{IsIn}
use Rattle.law_typing.specs.Laws.StepsKeepGood.{IsGood}
use Rattle.law_typing.proofs.CostProofs.{depths_solved}
use Rattle.law_static.proofs.BeginProofs.{get_map}
use Rattle.law_static.proofs.CodeProofs.{instructions_taken}
use Rattle.law_steps.specs.Instructed.Running.{at_top}
use Rattle.law_steps.proofs.Instructed.Around.{Due, here, r}
use Rattle.law_frames.specs.Frames.{Falls, FallsAt, TaskFalls, Under}
use Rattle.law_frames.proofs.Going.{GoesOn}
use Rattle.law_frames.proofs.Leading.{RaisedHeld, framed}
use Rattle.law_frames.proofs.Staying.{under_stays}
use Rattle.law_frames.proofs.Tasks.{LeadsStarted, Nothing}

module _ {d : Definition} {i : Instruction} (t : Due d i) (f : FallsAt d t.a.weighed.depths (at_top t.w t.f t.rest t.n)) where
  abbrev pub table : Tables
  table = t.a.weighed.depths

  -- what the instruction may start needs less than the program
  pub started_low : start_depth table (start_of d (r t).ks i) < of_program table t.f.program
  started_low =
      let deep = (depths_solved (graph d) table t.a.weighed.solves_depths).1 t.f.program (stretches_of d (r t).p) (get_map (stretches_of d) d.programs t.f.program (r t).p (r t).is) in
      let x = instructions_taken d t.a.weighed.costs table (standing t.w.objects) t.f t.g.agenda.0 (of_program table t.f.program) (whole deep) i (here t) in
      let low = x.shallow in
      omega (arith, low)
    where
      whole : of_program table t.f.program ≡ program_depth table (stretches_of d (r t).p) → RunningGood d t.a.weighed.costs table (standing t.w.objects) none t.f t.g.agenda.0 (of_program table t.f.program)
      whole deep = record {
        p = (r t).p;
        is = (r t).is;
        b = (r t).b;
        in_block = (r t).in_block;
        inside = (r t).inside;
        few = (r t).few;
        counted = (r t).counted;
        ks = (r t).ks;
        fit = (r t).fit;
        comes = (r t).comes;
        kept = (r t).kept;
        at_site = (r t).at_site;
        typed = (r t).typed;
        bracketed = (r t).bracketed;
        cheap = (r t).cheap;
        shallow = omega (arith, deep);
      }

  module _ (But : ℕ → ℕ → Type 0) where
    abbrev pub Led : Started → Type 0
    Led = LeadsStarted d t.a t.most_counted t.w (Running t.f) t.rest t.n t.g f But (suc t.n)

    abbrev Goods : World → List Task → Type 0
    Goods v agenda = IsGood d t.a t.most_counted (record { world = v; agenda = agenda; counted = suc t.n })

    -- the program goes on, below these tasks
    pub starts_on : (v : World) (new : List Task) (next : Frame) → next.program ≡ t.f.program →
        (Goods v (new ++ Running next ∷ t.rest) → GoesOn But t.w v → Falls d table (standing v.objects) v.handlers (Running next ∷ t.rest) → Falls d table (standing v.objects) v.handlers (new ++ Running next ∷ t.rest)) →
        ((id slot : ℕ) (o : Object) → living v.objects id ≡ Some o → IsIn slot o.queue → total (frozen_by d id) new ≡ 0) →
        (Goods v (new ++ Running next ∷ t.rest) → GoesOn But t.w v → Falls d table (standing v.objects) v.handlers (Running next ∷ t.rest) → RaisedHeld d table But v (new ++ Running next ∷ t.rest)) →
        Led (record { world = v; tasks = new ++ Running next ∷ [] })
    starts_on v new next same top unfrozen raised =
        subst (λ agenda. IsGood d t.a t.most_counted (record { world = v; agenda = agenda; counted = suc t.n }) → GoesOn But t.w v → FallsAt d table (record { world = v; agenda = agenda; counted = suc t.n }))
        (sym (append_assoc new (Running next ∷ []) t.rest))
        (framed d t.a t.most_counted t.w (Running t.f) t.rest t.n t.g f But v new (Running next) (suc t.n)
        (λ good goes at falls. subst (λ p. Under d table (standing v.objects) (of_program table p) t.rest) (sym same)
        (under_stays d table (standing t.w.objects) (standing v.objects) (of_program table t.f.program) t.rest at f.agenda.0))
        (λ good goes at falls. top good goes falls)
        (λ good goes at m u. subst (λ p. m < of_program table p) (sym same) u)
        unfrozen
        (λ good goes falls. raised good goes falls))

  -- the program goes on
  pub goes : (v : World) (next : Frame) → next.program ≡ t.f.program → Led Nothing (record { world = v; tasks = Running next ∷ [] })
  goes v next same = starts_on Nothing v [] next same (λ good goes falls. falls) (λ id slot o is there. refl) (λ good goes falls id slot o is there none. absurd none)

  -- below a task
  pub starts_one : (v : World) (task : Task) (next : Frame) → next.program ≡ t.f.program → ((id : ℕ) → frozen_by d id task ≡ 0) →
      (Goods Nothing v (task ∷ Running next ∷ t.rest) → GoesOn Nothing t.w v → TaskFalls d table (standing v.objects) v.handlers (Running next ∷ t.rest) task) →
      Led Nothing (record { world = v; tasks = task ∷ Running next ∷ [] })
  starts_one v task next same unfrozen own =
      starts_on Nothing v (task ∷ []) next same (λ good goes falls. (own good goes, falls)) (λ id slot o is there. (let free = unfrozen id in omega (arith, free))) (λ good goes falls id slot o is there none. absurd none)
