-- A new object of a place: all that is good of the world stays so.
use Rattle.std.proofs.Common.{◌≡◌, ap, ◌∙◌, ℕ, Bool, true, false, cond, List, [], ◌∷◌, ◌++◌}
use Rattle.ui_machine.specs.Definition.{Definition}
use Rattle.ui_machine.specs.Rules.Ancestry.{is_a}
use Rattle.ui_machine.specs.State.Objects.{Object}
use Rattle.ui_machine.specs.Rules.Construction.{initially_unowned, floats, with_object}
use Rattle.law_typing.specs.Verdict.Accepted.{Each}
use Rattle.law_typing.specs.Good.Standing.{Standing, standing, Lives}
use Rattle.law_typing.specs.Good.Bindings.{SourceGood}
use Rattle.law_typing.proofs.Lists.{each_append}
use Rattle.law_steps.specs.Kept.Made.{NewWholeGood}
use Rattle.law_steps.specs.Kept.New.{next_identity}
use Rattle.law_steps.proofs.Kept.Left.{each_to}
use Rattle.law_steps.proofs.Kept.NewProofs.{new_stands, new_objects_good, new_handlers_good, new_bindings_good}
use Rattle.law_steps.proofs.Kept.SourcesProofs.{source_stays}

-- what floats lives, the new object as well
floats_live : (d : Definition) (s : Standing) (class id : ℕ) (floating : List ℕ) → Lives s id → Each (Lives s) floating → Each (Lives s) (floats d class id floating)
floats_live d s class id floating here all = go (is_a d.types class initially_unowned)
  where
    go : (b : Bool) → Each (Lives s) (cond b (floating ++ id ∷ []) floating)
    go true = each_append (Lives s) floating (id ∷ []) all (here, tt)
    go false = all

pub new_whole_good : NewWholeGood
new_whole_good d types costs depths agenda w place p o new due g =
    let stands = (new_stands d w o).0 in
    let at : o.place ≡ place = ap (λ (o : Object). o.place) new.is in
    record {
      objects = new_objects_good d types w place p o new.at new.is new.free new.peer g.objects;
      handlers =
          new_handlers_good d costs depths (standing w.objects) (standing (with_object d w o).objects) (next_identity w) o.place w.last_handler w agenda stands
          (λ r there same. due r there (same ∙ at)) g.handlers;
      bindings = new_bindings_good d w o agenda g.bindings;
      sources =
          each_to (SourceGood d (standing w.objects)) (SourceGood d (standing (with_object d w o).objects)) w.sources
          (λ source good. source_stays d (standing w.objects) (standing (with_object d w o).objects) source (λ id is. stands.stay id) good) g.sources;
      held = λ place id is. stands.stay id place (g.held place id is);
      floating =
          floats_live d (standing (with_object d w o).objects) o.class (next_identity w) w.floating (record { place = o.place; is = stands.here; allowed = tt })
          (each_to (Lives (standing w.objects)) (Lives (standing (with_object d w o).objects)) w.floating
          (λ id lives. record { place = lives.place; is = stands.stay id lives.place lives.is; allowed = tt }) g.floating);
      objects_first = g.objects_first;
    }
