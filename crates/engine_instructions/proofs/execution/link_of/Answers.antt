use Rattle.std.proofs.Common.{◌-◌, ap, sym, subst, ◌∙◌}
use Rattle.ui_machine.specs.State.Tasks.{Frame}
use Rattle.bytecode.specs.View.{instruction_view}
use Rattle.engine_links.specs.Linked.{IsLink, instruction_at}
use Rattle.engine_links.specs.declared.link.Link.{Link}
use Rattle.engine_instructions.proofs.LinkedNames.{linked_there}
use Rattle.engine_instructions.proofs.execution.link_of.Goals as goal

pub returns : goal.returns
returns c =
    let d = c.args.definition.now in
    let l = c.args.engine.now.links in
    let f = c.first_frame-frame.result.now in
    let taken = ap (λ (g : Frame). instruction_at d g.program g.block (g.at - 1)) c.first_frame-frame.ensures ∙ c.requires.taken in
    let linked = linked_there d l c.requires.links f.program f.block.0 _ (instruction_view c.args.instruction.now) taken in
    subst (λ (link : Link). IsLink d l (instruction_view c.args.instruction.now) link) (sym c.link.ensures) (rw c.saturating_sub-at.ensures linked)
