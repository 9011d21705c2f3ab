use Rattle.std.proofs.Common.{◌≡◌, ◌≤◌, vec_len}
use Rattle.engine_stack.specs.ListedFrames.{KeepsRoom, frames_of}
use Rattle.engine_stack.specs.TaskFrames.{framed}
use Rattle.engine_stack.proofs.stacks.Frames.pop.Given as goal

abbrev pub invariant-loop-self : goal.invariant-loop-self
invariant-loop-self l = record {
  popped : frames_of l.self ≡ frames_of l.fn.self;
  fewer : vec_len l.self.tasks ≤ vec_len l.fn.self.tasks;
  frames : framed l.self.tasks ≤ framed l.fn.self.tasks;
  room : KeepsRoom l.fn.self l.self;
}

abbrev pub decreases-loop-self : goal.decreases-loop-self
decreases-loop-self l = vec_len l.self.tasks
