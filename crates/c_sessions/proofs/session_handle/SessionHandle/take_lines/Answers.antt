use Rattle.c_sessions.proofs.Handling.{keeps_taking}
use Rattle.c_sessions.proofs.session_handle.SessionHandle.take_lines.Goals as goal

pub returns : goal.returns
returns c =
    let taken = c.take_lines-count in
    keeps_taking c.args.out.now c.args.self.now.kept.session c.put.new.self.kept.session c.in-Some.session.value c.deref_mut.result.now taken.new.self taken.result taken.new.out
    c.deref_mut.ensures.value c.in-Some.ensures.taken c.put.ensures (taken.ensures.count, taken.ensures.bytes, taken.ensures.left, taken.ensures.session, taken.ensures.cleared, taken.ensures.course, taken.ensures.under_way)
