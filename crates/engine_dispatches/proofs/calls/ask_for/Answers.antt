use Rattle.std.proofs.Common.{refl}
use Rattle.std.proofs.lemmas.Result.{err_from_is_err_and}
use Rattle.engine_world.specs.EngineView.{config_of}
use Rattle.engine_world.specs.TaskView.{agenda_of}
use Rattle.engine_stack.specs.TaskView.{call_of}
use Rattle.engine_world.specs.View.{world_of}
use Rattle.engine_instructions.proofs.Whole.{engine_whole}
use Rattle.std.specs.Prelude.{option_map}
use Rattle.g_values.specs.View.{value_view}
use Rattle.engine_tasks.specs.CallView.{reply_of}
use Rattle.engine_dispatches.proofs.CallSteps.{askable, call_breaks, call_can, call_follows, call_names}
use Rattle.engine_world.proofs.Ableness.{none_stops}
use Rattle.engine_dispatches.proofs.calls.ask_for.Goals as goal

pub ask-value-requires : goal.ask-value-requires
ask-value-requires g c =
    record { asked = askable c.args.definition.now (λ k s m args answer t. ⊥) _ (call_of c.args.call) (agenda_of c.args.definition.now c.args.engine.now) c.requires.safe c.requires.none refl c.requires.asked }

pub answer-requires-clause-able : goal.answer-requires-clause-able
answer-requires-clause-able g c =
    none_stops _
    (call_can c.args.definition.now _ _ (call_of c.args.call) (agenda_of c.args.definition.now c.args.engine.now) c.requires.safe c.requires.none refl c.requires.asked _ _ c.ask-value.ensures.asks)

pub answer-requires-clause-names : goal.answer-requires-clause-names
answer-requires-clause-names g c =
    call_names c.args.definition.now _ _ (call_of c.args.call) (agenda_of c.args.definition.now c.args.engine.now) c.requires.safe c.requires.none refl c.requires.asked _ _ c.ask-value.ensures.asks

pub returns-clause-follows : goal.returns-clause-follows
returns-clause-follows g c =
    call_follows c.args.definition.now _ _ (call_of c.args.call) (agenda_of c.args.definition.now c.args.engine.now) c.requires.safe c.requires.none refl c.requires.asked _ _ c.ask-value.ensures.asks
    (config_of c.args.definition.now c.answer.new.engine) c.in_ok-answer.ensures.step (engine_whole c.args.definition.now c.answer.new.engine)

pub returns-in_err-answer-clause-breaks : goal.returns-in_err-answer-clause-breaks
returns-in_err-answer-clause-breaks g c =
    let p = err_from_is_err_and c.from_residual.result c.from_residual.ensures.1 in
    rw p.1
    (call_breaks c.args.definition.now _ _ (call_of c.args.call) (agenda_of c.args.definition.now c.args.engine.now) c.requires.safe c.requires.none refl c.requires.asked _ _ c.ask-value.ensures.asks
    (world_of c.answer.new.engine.world) c.in_err-answer.ensures.quiet)

pub returns-clause-concludes : goal.returns-clause-concludes
returns-clause-concludes g c = record { reply = reply_of (world_of c.args.engine.now.world) (call_of c.args.call) (option_map value_view c.ask-value.result); leads = c.in_ok-answer.ensures.step }
