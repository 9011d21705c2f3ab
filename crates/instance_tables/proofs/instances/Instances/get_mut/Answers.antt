use Rattle.std.proofs.Common.{refl, sym, ap, inr}
use Rattle.instance_tables.proofs.Slabs.{has_entry, lends_alike, none_at, some_at, written_sound, written_view}
use Rattle.instance_tables.proofs.instances.Instances.get_mut.Goals as goal

pub returns-in_err-key : goal.returns-in_err-key
returns-in_err-key c =
    rw c.from_residual.ensures
    (ap (λ es. inr es) c.self.view_is, record { writes_back = tt; value = sym (none_at c.self.inside.entries c.self.inside.keys _ c.self.invariant c.self.view_is c.args.id.0 (sym c.in_err-key.ensures)) })

pub index_mut-requires : goal.index_mut-requires
index_mut-requires c = has_entry c.self.inside.entries c.self.inside.keys _ c.self.invariant c.self.view_is c.args.id.0 _ (sym c.in_ok-key.ensures)

pub invariant_of-self-lent : goal.invariant_of-self-lent
invariant_of-self-lent c w =
    written_sound c.self.inside.entries c.self.inside.keys _ c.self.invariant c.self.view_is c.args.id.0 _ c.index_mut.result.now (record { id = c.index_mut.result.now.id; instance = w })
    (sym c.in_ok-key.ensures) c.index_mut.ensures.value refl

pub returns : goal.returns
returns c =
    let here = sym c.in_ok-key.ensures in (
      lends_alike _ _ _
          (λ w.
          written_view c.self.inside.entries c.self.inside.keys _ c.self.invariant c.self.view_is c.args.id.0 _ c.index_mut.result.now
          (record { id = c.index_mut.result.now.id; instance = w }) here c.index_mut.ensures.value refl),
      record { writes_back = tt; value = sym (some_at c.self.inside.entries c.self.inside.keys _ c.self.invariant c.self.view_is c.args.id.0 _ _ here c.index_mut.ensures.value) },
    )
