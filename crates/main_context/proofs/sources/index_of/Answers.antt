use Rattle.std.proofs.Common.{rules, Ok, Err}
use Rattle.std.proofs.lemmas.List.Sorted.{answers_always}
use Rattle.ui_machine.specs.State.Sources.{Source}
use Rattle.main_context.proofs.Order.{nobody, searched}
use Rattle.main_context.proofs.sources.index_of.Goals as goal

pub returns-in-Ok : goal.returns-in-Ok
returns-in-Ok c =
    searched c.args.sources.now c.requires c.args.number nobody (Ok c.in-Ok.index) c.in-Ok.ensures.bound
    (c.in-Ok.ensures.position (λ (s : Source). s.number) (answers_always _ _ _ (λ f a r g called. search rules)))

pub returns-in-Err : goal.returns-in-Err
returns-in-Err c =
    searched c.args.sources.now c.requires c.args.number nobody (Err c.in-Err.field-0) c.in-Err.ensures.bound
    (c.in-Err.ensures.position (λ (s : Source). s.number) (answers_always _ _ _ (λ f a r g called. search rules)))
