use Rattle.std.proofs.Common.{List, None, Some, Bor, codes, option_map, sym, ap, ◌∙◌}
use Rattle.json_trees.specs.View.{view}
use Rattle.json_trees.specs.declared.value.Value.{Value}
use Rattle.ui_machine.specs.Seq.{read}
use Rattle.read_parts.specs.EntryViews.{views}
use Rattle.definition_format.specs.Denoted.Entries.{ObjectNames, names_of}
use Rattle.read_parts.proofs.Numbered.{name_there_is}
use Rattle.read_parts.proofs.entries.ObjectNames.class.Goals as goal

pub returns-in-Some : goal.returns-in-Some
returns-in-Some c =
    c.name_under.ensures
    ∙ sym (name_there_is (codes "class") (views c.as_slice.result.now) c.args.place (Some (view c.in-Some.entry.now)) (sym c.entry.ensures ∙ ap (option_map (λ v. view v.now)) c.in-Some.is))
    ∙ ap (λ (vs : List (Bor Value)). read None (names_of (views vs)).classes c.args.place) c.as_slice.ensures.value
    ∙ ap (λ (names : ObjectNames). read None names.classes c.args.place) c.self.view_is

pub returns-in-None : goal.returns-in-None
returns-in-None c =
    sym (name_there_is (codes "class") (views c.as_slice.result.now) c.args.place None (sym c.entry.ensures ∙ ap (option_map (λ v. view v.now)) c.in-None.is))
    ∙ ap (λ (vs : List (Bor Value)). read None (names_of (views vs)).classes c.args.place) c.as_slice.ensures.value
    ∙ ap (λ (names : ObjectNames). read None names.classes c.args.place) c.self.view_is
