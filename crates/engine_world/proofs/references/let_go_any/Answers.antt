use Rattle.std.proofs.Common.{◌≡◌, ℕ, ◌<◌, Option, ap, arith}
use Rattle.ui_machine.specs.declared.ids.ObjectId.{ObjectId}
use Rattle.ui_machine.specs.State.References.{same, in_option}
use Rattle.instance_tables.specs.Store.{Store, id_of, count_of}
use Rattle.engine_world.proofs.Floats.{same_self}
use Rattle.engine_world.proofs.Counts.{let_go_less}
use Rattle.engine_world.proofs.references.let_go_any.Goals as goal

pub let_go-requires : goal.let_go-requires
let_go-requires c = record {
  held =
      let t = c.args.table.now in
      let id = c.in-Some.id.0 in
      let named : in_option id (id_of c.args.id) ≡ same id id = ap (λ (i : Option ObjectId). in_option id (id_of i)) c.in-Some.is in
      omega (arith, c.requires.held id, named, same_self id);
}

pub returns-clause-counts : goal.returns-clause-counts
returns-clause-counts c o =
    let t = c.args.table.now in
    let id = c.in-Some.id.0 in
    let named : (q : ℕ) → in_option q (id_of c.args.id) ≡ same q id = λ q. ap (λ (i : Option ObjectId). in_option q (id_of i)) c.in-Some.is in
    let held : 0 < count_of t.counts id = omega (arith, c.requires.held id, named id, same_self id) in
    omega (arith, ap (λ (s : Store). count_of s.counts o) c.let_go.ensures, let_go_less t.counts id o held, named o)
