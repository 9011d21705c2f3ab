use Rattle.verified.specs.Told.{IsDepth}
use Rattle.ui_machine.specs.Definition.{Definition}
use Rattle.std.proofs.Common.{subst, sym}
use Rattle.ui_engine.proofs.Served.{build_keeps}
use Rattle.ui_engine.proofs.session.Session.start.Goals as goal

pub begin-requires : goal.begin-requires
begin-requires g c = record { depth = subst (λ (d : Definition). IsDepth d c.depth-depth.result) (sym c.definition-2.ensures.same) c.depth-depth.ensures }

pub returns-in-Ok-clause-keeps : goal.returns-in-Ok-clause-keeps
returns-in-Ok-clause-keeps g c matches = build_keeps c.args.verified c.definition.result.now c.definition.ensures.same c.types-types.ensures.denoted _ matches

pub returns-in-Err-clause-keeps : goal.returns-in-Err-clause-keeps
returns-in-Err-clause-keeps g c matches = build_keeps c.args.verified c.definition.result.now c.definition.ensures.same c.types-types.ensures.denoted _ matches
