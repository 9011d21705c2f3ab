use Rattle.std.proofs.Common.{◌≡◌, ◌++◌, ◌+◌, ℕ, suc, drop, take, length-set, slice_set, ap, ◌∙◌, arith, subst, sym}
use Rattle.c_sessions.specs.Courses.{FromWherever, HasComeStill}
use Rattle.c_sessions.specs.RunStates.{RunState}
use Rattle.c_sessions.specs.Unread.{unread}
use Rattle.c_sessions.proofs.Streams.{one_more, taken_next}
use Rattle.c_sessions.proofs.hosted_session.HostedSession.take_lines.Goals as goal

pub room-preserved : goal.room-preserved
room-preserved c =
    let bytes = unread c.args.self.now in
    let k = c.room.place in
    let more = one_more bytes k c.in-Some.byte (unread c.next_byte.new.self) (sym c.room.invariant.left ∙ c.in-Some.ensures.byte) in
    let up : suc k ≡ k + 1 = omega arith in
    record {
      long = length-set c.room.out k c.in-Some.byte ∙ c.room.invariant.long;
      within = omega (arith, more.within);
      taken = subst (λ (n : ℕ). slice_set c.room.out k c.in-Some.byte ≡ take n bytes ++ drop n c.args.out.now) up
          (taken_next bytes c.args.out.now c.room.out k c.in-Some.byte (unread c.next_byte.new.self) c.room.invariant.within c.room-test.true c.room.invariant.taken more);
      left = more.left ∙ ap (λ (n : ℕ). drop n bytes) up;
      running = c.in-Some.ensures.running ∙ c.room.invariant.running;
    }

pub returns-in_default-clause-under_way : goal.returns-in_default-clause-under_way
returns-in_default-clause-under_way c =
    subst (λ (r : RunState). FromWherever r (λ event w front steps. HasComeStill event w front steps r c.forget.new.self.running)) (c.in_default.ensures.running ∙ c.room.invariant.running)
    c.forget.ensures.under_way
