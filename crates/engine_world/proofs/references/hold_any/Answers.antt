use Rattle.std.proofs.Common.{◌≡◌, ◌+◌, Option, refl, ap, arith}
use Rattle.ui_machine.specs.declared.ids.ObjectId.{ObjectId}
use Rattle.ui_machine.specs.State.References.{in_option, same}
use Rattle.instance_tables.specs.Store.{Store, id_of, count_of, so_often}
use Rattle.instance_tables.proofs.Families.{was_made}
use Rattle.instance_tables.proofs.Moves.{more_at}
use Rattle.engine_world.proofs.Floats.{same_self}
use Rattle.engine_world.proofs.references.hold_any.Goals as goal

pub hold-requires : goal.hold-requires
hold-requires c =
    let id = c.in-Some.id.0 in
    let named : in_option id (id_of c.args.id) ≡ same id id = ap (λ (i : Option ObjectId). in_option id (id_of i)) c.in-Some.is in
    let may = c.requires.may.at id (omega (arith, named, same_self id)) in
    record { live = may.0; room = omega (arith, may.1, named, same_self id) }

pub returns-clause-counts : goal.returns-clause-counts
returns-clause-counts c o =
    let t = c.args.table.now in
    let id = c.in-Some.id.0 in
    let named : in_option id (id_of c.args.id) ≡ same id id = ap (λ (i : Option ObjectId). in_option id (id_of i)) c.in-Some.is in
    let lives = (c.requires.may.at id (omega (arith, named, same_self id))).0 in
    let more = more_at t.counts id (count_of t.counts id + 1) 1 (was_made t.objects id lives).0 refl o in
    let once : in_option o (id_of c.args.id) ≡ so_often 1 id o = ap (λ (i : Option ObjectId). in_option o (id_of i)) c.in-Some.is in
    omega (arith, ap (λ (s : Store). count_of s.counts o) c.hold.ensures, more, once)
