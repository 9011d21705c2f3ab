use Rattle.std.proofs.Common.{[], ◌∷◌, ◌++◌, None, List, ℕ, sym, ap, ◌∙◌}
use Rattle.std.specs.Prelude.{string_bytes}
use Rattle.ui_machine.specs.State.Config as config
use Rattle.main_context.specs.Attached.{Attached}
use Rattle.engine_world.specs.View.{world_of}
use Rattle.engine_world.specs.declared.world.World.{World}
use Rattle.engine_dispatches.proofs.Turning.{turned_rests}
use Rattle.engine_dispatches.proofs.turns.begin_turn.Goals as goal

pub returns-clause-rests : goal.returns-clause-rests
returns-clause-rests c =
    let e = c.args.engine.now in
    let beside = c.say.ensures.beside in
    turned_rests c.args.definition.now e _ c.requires.rests
    (ap (λ (x : World). x.context.sources) beside ∙ ap (λ (a : Attached). a.sources) c.in_ok-batch.ensures.begun)
    (ap (λ (x : World). record e { world = record x { result = None } }) beside
    ∙ ap (λ (k : Attached). record e { world = record e.world { context = k; transcript = c.say.new.self.transcript; result = None } }) (sym (ap (λ (x : World). x.context) beside)))

pub returns-clause-begins : goal.returns-clause-begins
returns-clause-begins c =
    let w = world_of c.args.engine.now.world in
    record {
      ready = c.in_ok-batch.ensures.ready;
      world =
          ap (λ (v : config.World). record v { result = None }) c.in_ok-say.ensures.ok
          ∙ ap (λ (a : Attached). record w { sources = a.sources; last_source = a.last; moment = a.moment; transcript = w.transcript ++ string_bytes c.in_ok-line.line ∷ []; result = None }) c.in_ok-batch.ensures.begun
          ∙ ap (λ (l : List ℕ). record w { moment = c.args.moment; transcript = w.transcript ++ l ∷ []; result = None }) c.in_ok-line.ensures;
      few = c.in_ok-batch.ensures.few;
    }
