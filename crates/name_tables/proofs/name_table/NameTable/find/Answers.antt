use Rattle.std.proofs.Common.{◌≡◌, ℕ, ◌∙◌, sym, Option, Some, None, List, option_map, slice_get, IfSome}
use Rattle.name_tables.specs.Names.{Named, place_of}
use Rattle.name_tables.proofs.Lookups.{called_at}
use Rattle.name_tables.proofs.Rows.{place_of-position}
use Rattle.name_tables.proofs.name_table.NameTable.find.Goals as goal

called : (xs : List Named) (name : List ℕ) (r : Option ℕ) → r ≡ place_of xs name → IfSome r (λ at. option_map (λ (n : Named). n.name) (slice_get xs at) ≡ Some name)
called xs name None is = tt
called xs name (Some at) is = called_at xs name at (sym is)

pub returns-clause-found : goal.returns-clause-found
returns-clause-found c = rw (← c.self.view_is) (c.get_index_of.ensures.index ∙ sym (place_of-position c.args.name.now c.self.inside.names.entries))

pub returns-clause-called : goal.returns-clause-called
returns-clause-called c = called c.args.self.now c.args.name.now c.get_index_of.result (returns-clause-found c)
