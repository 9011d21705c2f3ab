use Rattle.std.proofs.Common.{rules}
use Rattle.instance_tables.specs.Names.{forgotten_in}
use Rattle.instance_tables.specs.declared.instances.Entry.{Entry}
use Rattle.instance_tables.proofs.Slabs.{changed_seen, changed_sound, each_changed, retained}
use Rattle.instance_tables.proofs.instances.Instances.forget.Goals as goal

pub invariant_of-self : goal.invariant_of-self
invariant_of-self c =
    let change : Entry → Entry = λ e. record e { instance = forgotten_in c.args.weak.now c.args.id.0 e.instance } in
    changed_sound c.self.inside.entries c.self.inside.keys _ c.self.invariant c.self.view_is c.retain.new.self (forgotten_in c.args.weak.now c.args.id.0)
    (each_changed c.self.inside.entries c.retain.new.self change (retained _ change _ (λ next key shown left keep called. search rules) 0 _ _ c.retain.ensures.retained))

pub returns : goal.returns
returns c q =
    let change : Entry → Entry = λ e. record e { instance = forgotten_in c.args.weak.now c.args.id.0 e.instance } in
    changed_seen c.self.inside.entries c.self.inside.keys _ c.self.invariant c.self.view_is c.retain.new.self (forgotten_in c.args.weak.now c.args.id.0)
    (each_changed c.self.inside.entries c.retain.new.self change (retained _ change _ (λ next key shown left keep called. search rules) 0 _ _ c.retain.ensures.retained)) q
