use Rattle.std.proofs.Common.{sym, ap, subst, ◌+◌, [], List, drop, arith}
use Rattle.bytecode.specs.View.{program_view}
use Rattle.definition_format.specs.Meaning.{IsBasic}
use Rattle.law_typing.specs.Graph.{Connection}
use Rattle.verify_graph.proofs.BoundLists.{from_got, none_got, none_left}
use Rattle.verify_channels.specs.Connected.{AreConnected}
use Rattle.verify_channels.specs.ConnectedCode.{program_connections, programs_connections}
use Rattle.verify_channels.proofs.ConnectedCodes.{all_connections, all_so_far, one_so_far}
use Rattle.verify_starts.proofs.Sizes.{each_below, each_short}
use Rattle.verify_channels.proofs.connections.connections.Goals as goal

pub add_program-requires-clause-few : goal.add_program-requires-clause-few
add_program-requires-clause-few c =
    let d = c.args.lookups.now in
    let n = c.loop-number.number in
    let p = program_view c.in-Some.program.now in
    let basic = subst IsBasic c.definition.ensures c.types-types.ensures.basic in
    let short = each_short d n p basic c.in-Some.ensures in
    let below = each_below d n p basic c.in-Some.ensures in
    omega (arith, short.instructions, below, c.loop-number.invariant.few)

pub loop-number-preserved : goal.loop-number-preserved
loop-number-preserved c =
    let d = c.args.lookups.now in
    let n = c.loop-number.number in
    let p = program_view c.in-Some.program.now in
    let basic = subst IsBasic c.definition.ensures c.types-types.ensures.basic in
    let short = each_short d n p basic c.in-Some.ensures in
    let below = each_below d n p basic c.in-Some.ensures in
    record {
      places = c.in_ok-add_program.ensures.places;
      few = omega (arith, short.instructions, c.in_ok-add_program.ensures.few, c.loop-number.invariant.few);
      within = omega (arith, below);
      so_far =
          one_so_far d c.in_ok-connects.connects c.loop-number.connects c.add_program.new.self (programs_connections d (drop n d.programs))
          (programs_connections d (drop (n + 1) d.programs)) (programs_connections d d.programs) (program_connections d p) c.loop-number.invariant.so_far
          c.in_ok-add_program.ensures.more (ap (programs_connections d) (from_got d.programs n p c.in-Some.ensures));
    }

pub returns-in_default-clause-connected : goal.returns-in_default-clause-connected
returns-in_default-clause-connected c =
    let d = c.args.lookups.now in
    let n = c.loop-number.number in
    subst (λ (ns : List Connection). AreConnected d c.loop-number.connects ns) (sym (all_connections d))
    (all_so_far d c.in_ok-connects.connects c.loop-number.connects (programs_connections d (drop n d.programs)) (programs_connections d d.programs)
    c.loop-number.invariant.so_far (ap (programs_connections d) (none_got d.programs n c.in_default.ensures)) [] c.in_ok-connects.ensures.connected)

pub returns-clause-connected : goal.returns-clause-connected
returns-clause-connected c =
    let d = c.args.lookups.now in
    let n = c.loop-number.number in
    subst (λ (ns : List Connection). AreConnected d c.loop-number.connects ns) (sym (all_connections d))
    (all_so_far d c.in_ok-connects.connects c.loop-number.connects (programs_connections d (drop n d.programs)) (programs_connections d d.programs)
    c.loop-number.invariant.so_far
    (ap (programs_connections d) (none_left d.programs n (let low = c.most_programs-number-end.ensures in omega (arith, low)))) [] c.in_ok-connects.ensures.connected)
