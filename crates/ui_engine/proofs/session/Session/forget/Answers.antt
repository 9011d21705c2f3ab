use Rattle.ui_engine.proofs.Slices.{course_forgets}
use Rattle.ui_engine.proofs.session.Session.forget.Goals as goal

pub returns-clause-in_course : goal.returns-clause-in_course
returns-clause-in_course g c course has = course_forgets _ _ c.args.self.now.core c.forget.new.self c.forget.ensures course has
