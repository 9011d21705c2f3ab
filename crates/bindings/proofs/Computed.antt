-- What the definitions compute to.
use Rattle.std.proofs.Common.{◌≡◌, refl, List, [], ◌∷◌, true, false, Some, None}
use Rattle.std.specs.Prelude.{codes}
use Rattle.ui_machine.specs.State.Bindings.{Binding, transfers, bindings_without, bindings_without_end, with_busy}
use Rattle.ui_machine.specs.State.Tasks as config

abbrev pair : Binding
pair = record {
  number = 0;
  name = Some (codes "pair");
  source = 1;
  source_slot = 0;
  target = 2;
  target_slot = 0;
  flags = 7;
  busy = false;
}

abbrev one_way : Binding
one_way = record {
  number = 1;
  name = None;
  source = 1;
  source_slot = 0;
  target = 3;
  target_slot = 0;
  flags = 0;
  busy = false;
}

abbrev both : List Binding
both = pair ∷ one_way ∷ []

goes_to_both_in_document_order : transfers 1 0 both ≡ config.transfer 0 false ∷ config.transfer 1 false ∷ []
goes_to_both_in_document_order = refl

goes_back_from_the_target_of_a_pair : transfers 2 0 both ≡ config.transfer 0 true ∷ []
goes_back_from_the_target_of_a_pair = refl

goes_nowhere_from_the_target_of_a_one_way : transfers 3 0 both ≡ []
goes_nowhere_from_the_target_of_a_one_way = refl

ends_by_its_name : bindings_without (codes "pair") both ≡ one_way ∷ []
ends_by_its_name = refl

ends_with_an_end : bindings_without_end 3 both ≡ pair ∷ []
ends_with_an_end = refl

marks_one : with_busy 1 true both ≡ pair ∷ record one_way { busy = true } ∷ []
marks_one = refl
