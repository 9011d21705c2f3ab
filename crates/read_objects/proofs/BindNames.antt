-- The names of bindings, one more of them.
use Rattle.std.proofs.Common.{◌≡◌, ℕ, Bool, true, false, ◌||◌, List, [], ◌∷◌, ◌++◌, map, refl, sym, ap, ◌∙◌}
use Rattle.std.proofs.lemmas.List.{map_push}
use Rattle.std.proofs.lemmas.List.Folds.{list_any-append}
use Rattle.std.specs.Prelude.{String}
use Rattle.std.specs.Global.{Global}
use Rattle.std.specs.BTreeSet.{BTreeSet, contains_text}
use Rattle.ui_machine.specs.Definition.Places as machine
use Rattle.definition_format.specs.declared.objects.Bind.{Bind}
use Rattle.definition_format.specs.Meaning.{bind_view}
use Rattle.definition_format.specs.Denoted.Binds.{has_bound}
use Rattle.definition_format.specs.Denoted.Entries.{is_called}
use Rattle.read_objects.specs.BindNames.{AreNames}

last_first : (a b : Bool) → (a || b) ≡ (b || (a || false))
last_first true true = refl
last_first true false = refl
last_first false true = refl
last_first false false = refl

bound_more : (bindings : List machine.Bind) (b : machine.Bind) (name : List ℕ)
    → (is_called b.name name || has_bound bindings name) ≡ has_bound (bindings ++ b ∷ []) name
bound_more bindings b name =
    last_first (is_called b.name name) (has_bound bindings name)
    ∙ sym (list_any-append (λ (x : machine.Bind). is_called x.name name) bindings (b ∷ []))

pub names_more : (old new : BTreeSet (String Global)) (binds : List Bind) (bind : Bind) → AreNames old (map bind_view binds)
    → ((name : List ℕ) → contains_text new name ≡ (is_called (bind_view bind).name name || contains_text old name))
    → AreNames new (map bind_view (binds ++ bind ∷ []))
names_more old new binds bind are more name =
    more name
    ∙ ap (λ b. is_called (bind_view bind).name name || b) (are name)
    ∙ bound_more (map bind_view binds) (bind_view bind) name
    ∙ ap (λ bs. has_bound bs name) (sym (map_push bind_view binds bind))
