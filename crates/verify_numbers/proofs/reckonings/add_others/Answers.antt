use Rattle.std.proofs.Common.{◌++◌}
use Rattle.verify_sketches.specs.View.{sketch_view}
use Rattle.verify_numbers.specs.Laid.{group_nodes, place_nodes, program_nodes, start_nodes}
use Rattle.verify_numbers.specs.declared.program_nodes.ProgramPart.TheVariants as of_program
use Rattle.verify_numbers.proofs.Rows.{then_more}
use Rattle.verify_numbers.proofs.reckonings.add_others.Goals as goal

pub returns : goal.returns
returns c =
    let s = sketch_view c.args.sketch.now in
    then_more c.args.nodes.now c.add_groups.new.nodes c.add_starts.new.nodes (group_nodes s) (program_nodes s of_program.Program ++ (program_nodes s of_program.Blocks ++ (place_nodes s ++ (start_nodes s)))) c.in_ok-add_groups.ensures
    (then_more c.add_groups.new.nodes c.add_programs.new.nodes c.add_starts.new.nodes (program_nodes s of_program.Program) (program_nodes s of_program.Blocks ++ (place_nodes s ++ (start_nodes s))) c.in_ok-add_programs.ensures
    (then_more c.add_programs.new.nodes c.add_programs-2.new.nodes c.add_starts.new.nodes (program_nodes s of_program.Blocks) (place_nodes s ++ (start_nodes s)) c.in_ok-add_programs-2.ensures
    (then_more c.add_programs-2.new.nodes c.add_places.new.nodes c.add_starts.new.nodes (place_nodes s) (start_nodes s) c.in_ok-add_places.ensures
    (c.in_ok-add_starts.ensures))))
