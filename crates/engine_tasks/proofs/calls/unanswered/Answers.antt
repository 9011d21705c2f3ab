use Rattle.engine_tasks.proofs.calls.unanswered.Goals as goal

pub zero_of-value-requires : goal.zero_of-value-requires
zero_of-value-requires c = (c.in-Some.ensures.known c.types-types.result.now).1
