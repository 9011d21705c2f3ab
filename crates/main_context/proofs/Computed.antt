-- What the definitions compute to.
use Rattle.std.proofs.Common.{◌≡◌, refl, List, [], ◌∷◌, true, false, Some, None, pos, negsuc}
use Rattle.ui_machine.specs.State.Sources.{Source, new_source, attached, has_room, without_program}
use Rattle.ui_machine.specs.Rules.MainLoop.{ready, answered}

abbrev tick : Source
tick = new_source 1 0 7 (pos 0) (Some 100) None

abbrev rest : Source
rest = new_source 2 0 8 (pos 200) None None

abbrev early : Source
early = new_source 3 60 9 (negsuc 4) (Some 50) (Some 3)

abbrev both : List Source
both = attached (attached [] tick) rest

takes_the_idle_before_the_timeout_is_due : ready 99 both ≡ rest ∷ []
takes_the_idle_before_the_timeout_is_due = refl

takes_the_least_priority_alone : ready 100 both ≡ tick ∷ []
takes_the_least_priority_alone = refl

takes_a_negative_priority_first : ready 110 (attached both early) ≡ early ∷ []
takes_a_negative_priority_first = refl

takes_all_of_one_priority_in_order : ready 100 (tick ∷ rest ∷ tick ∷ []) ≡ tick ∷ tick ∷ []
takes_all_of_one_priority_in_order = refl

is_due_once_however_late : ready 450 (answered 350 1 true both) ≡ record tick { due = 450 } ∷ []
is_due_once_however_late = refl

is_removed_by_false : answered 360 2 false both ≡ tick ∷ []
is_removed_by_false = refl

is_removed_by_its_program : without_program 7 (tick ∷ rest ∷ tick ∷ []) ≡ rest ∷ []
is_removed_by_its_program = refl

has_no_number_left : has_room both 18446744073709551615 ≡ false
has_no_number_left = refl

has_a_last_number : has_room both 18446744073709551614 ≡ true
has_a_last_number = refl
