use Rattle.std.proofs.Common.{◌≡◌, ℕ, ◌∙◌, ap, sym, List, [], ◌∷◌, ◌++◌, length, map, position, string_bytes, Option, Some, None}
use Rattle.std.proofs.lemmas.List.{length-map}
use Rattle.std.specs.Map.{keys_of}
use Rattle.std.specs.Str.{bytes_eq}
use Rattle.name_tables.specs.Names.{Named, place_of}
use Rattle.name_tables.proofs.Lookups.{with_name-there, with_name-new, place_of-last}
use Rattle.name_tables.proofs.Numbers.{none-of}
use Rattle.name_tables.proofs.Rows.{Row, named, place_of-position, named-insert}
use Rattle.name_tables.proofs.name_table.NameTable.intern.Goals as goal

-- the place that the map answers is the name's
placed : (es : List Row) (names : List Named) (name : List ℕ) (answer place : Option ℕ) → map named es ≡ names → answer ≡ position (λ k. bytes_eq name (string_bytes k)) (keys_of es)
    → answer ≡ place → place_of names name ≡ place
placed es names name answer place seen found is = ap (λ xs. place_of xs name) (sym seen) ∙ place_of-position name es ∙ sym found ∙ is

pub returns-in-Some-clause-found : goal.returns-in-Some-clause-found
returns-in-Some-clause-found c =
    placed c.self.inside.names.entries c.args.self.now c.args.name.now c.get_index_of.result (Some c.in-Some.place) c.self.view_is c.get_index_of.ensures.index c.in-Some.is

pub returns-in-Some-clause-ok : goal.returns-in-Some-clause-ok
returns-in-Some-clause-ok c = sym (with_name-there c.args.self.now c.args.name.now c.in-Some.place (returns-in-Some-clause-found c))

pub returns-clause-ok : goal.returns-clause-ok
returns-clause-ok c =
    let absent = placed c.self.inside.names.entries c.args.self.now c.args.name.now c.get_index_of.result None c.self.view_is c.get_index_of.ensures.index c.in_default.is in
    named-insert c.self.inside.names c.insert.new.self.entries c.in_ok-key.key c.new.result c.args.name.now (none-of _ (sym c.in_default.ensures.found)) c.in_ok-key.ensures.ok
    c.new.ensures.empty c.in_ok-insert.ensures.entries
    ∙ ap (λ xs. xs ++ record { name = c.args.name.now; numbers = [] } ∷ []) c.self.view_is
    ∙ sym (with_name-new c.args.self.now c.args.name.now absent)

pub returns-clause-found : goal.returns-clause-found
returns-clause-found c =
    let absent = placed c.self.inside.names.entries c.args.self.now c.args.name.now c.get_index_of.result None c.self.view_is c.get_index_of.ensures.index c.in_default.is in
    let count : length c.args.self.now ≡ c.len-place.result =
    ap (λ (xs : List Named). length xs) (sym c.self.view_is) ∙ length-map c.self.inside.names.entries named ∙ sym c.len-place.ensures.len in
    ap (λ xs. place_of xs c.args.name.now) (returns-clause-ok c ∙ with_name-new c.args.self.now c.args.name.now absent)
    ∙ place_of-last c.args.self.now (record { name = c.args.name.now; numbers = [] }) absent
    ∙ ap Some count
