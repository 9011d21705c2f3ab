-- A session that forgets its lines keeps what it kept.
use Rattle.std.proofs.Common.{◌≡◌, ℕ, List, [], ap, map, refl, subst, sym}
use Rattle.std.specs.Prelude.{string_bytes}
use Rattle.ui_machine.specs.Definition.{Definition}
use Rattle.engine_world.specs.Counting.{Counts, nothing}
use Rattle.engine_world.specs.View.{world_of}
use Rattle.engine_world.specs.declared.engine.Engine.{Engine}
use Rattle.engine_world.proofs.Counts.{stays}
use Rattle.engine_dispatches.specs.Promises.{Rests}
use Rattle.engine_dispatches.proofs.Keeping.{without_lines_rests}
use Rattle.ui_engine.specs.declared.cores.Phase.{Phase}
use Rattle.ui_engine.specs.declared.cores.Phase.TheVariants as phases
use Rattle.ui_engine.specs.Phases.{IsKept}

-- an engine with other lines
abbrev with_lines_of : Engine → Engine → Engine
with_lines_of new e = record e { world = record e.world { transcript = new.world.transcript } }

module _ (d : Definition) (e new : Engine) (is : new ≡ with_lines_of new e) (none : new.world.transcript.items ≡ []) where
  counts_on : Counts d nothing e → Counts d nothing (with_lines_of new e)
  counts_on c = record { knows = c.knows; links = c.links; passes = c.passes; connects = stays d e _ refl refl c.connects; exact = c.exact }

  pub kept_without_lines : (phase : Phase) → IsKept d e phase → IsKept d new phase
  kept_without_lines phases.AtRest kept =
      subst (λ (x : Engine). IsKept d x phases.AtRest) (sym is) (
        record { counts = counts_on kept.0.counts; idle = kept.0.idle },
        subst (λ (lines : List (List ℕ)). Rests d (record (world_of e.world) { transcript = lines })) (sym (ap (map string_bytes) none)) (without_lines_rests d (world_of e.world) kept.1),
        kept.2,
      )
  kept_without_lines phases.UnderWay kept = subst (λ (x : Engine). IsKept d x phases.UnderWay) (sym is) (counts_on kept.0, kept.1)
  kept_without_lines phases.Stopped kept = tt
