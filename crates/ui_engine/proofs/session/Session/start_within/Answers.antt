use Rattle.std.proofs.Common.{refl}
use Rattle.ui_engine.proofs.Limits.{as_before, whatever, why_within}
use Rattle.ui_engine.proofs.Served.{build_keeps}
use Rattle.ui_engine.proofs.session.Session.start_within.Goals as goal

pub returns-in-Some-clause-keeps : goal.returns-in-Some-clause-keeps
returns-in-Some-clause-keeps g c matches = build_keeps c.args.verified c.definition.result.now c.definition.ensures.same c.types-types.ensures.denoted _ matches

pub returns-in-Some-clause-refused : goal.returns-in-Some-clause-refused
returns-in-Some-clause-refused g c = (refl, refl, c.in-Some.ensures.why _)

pub returns-clause-within : goal.returns-clause-within
returns-clause-within g c a = whatever c.start.result (c.in_default.ensures.may a)

pub returns-clause-refused : goal.returns-clause-refused
returns-clause-refused g c = as_before c.start.result (λ refused is. (is.0, is.1, why_within c.args.verified c.args.most c.in_default.ensures.may refused.fault _ is.2)) c.start.ensures.refused
