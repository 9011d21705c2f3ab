-- The steps of a construction, as they are listed from the last one on.
use Rattle.std.proofs.Common.{◌≡◌, ℕ, zero, suc, ◌<◌, ◌≤◌, nat_eq, List, [], ◌∷◌, ◌++◌, length, drop, cond, not, ◌&&◌, Bool, true, false, Option, None, Some, option_and_then, slice_get, get_or, refl, sym, ap, ◌∙◌, arith, append_assoc}
use Rattle.std.specs.List.{find}
use Rattle.ui_machine.specs.Seq.{read}
use Rattle.ui_machine.specs.Definition.Properties.{Spec}
use Rattle.ui_machine.specs.Definition.Places.{GivenProperty}
use Rattle.ui_machine.specs.State.Config.{World}
use Rattle.ui_machine.specs.State.Tasks.{ConstructStep}
use Rattle.ui_machine.specs.Rules.Construction.{is_forward, given_value, given_at, construct_sets, given_sets}
use Rattle.ui_machine.specs.Definition.Values.{Value}
use Rattle.definition_format.specs.declared.objects.GivenValue.{GivenValue}
use Rattle.definition_format.specs.Meaning.{given_view, given_property}
use Rattle.engine_world.specs.MakingView.{early, construct_set, later_set, early_set}
use Rattle.engine_world.proofs.Building.{drop_at}

within_list : {A : Type 0} (xs : List A) (i : ℕ) → i < length xs → (x : A) × (slice_get xs i ≡ Some x)
within_list [] i small = absurd (omega arith)
within_list (x ∷ xs) zero small = (x, refl)
within_list (x ∷ xs) (suc i) small = within_list xs i (omega arith)

-- one slot less
pub slot_before : (w : World) (given : List GivenProperty) (specs : List Spec) (above slot : ℕ) (old new tail : List ConstructStep)
    → above ≡ suc slot → above ≤ length specs → old ≡ construct_sets w given above (drop above specs) ++ tail
    → ((s : Spec) → slice_get specs slot ≡ Some s → new ≡ construct_set w given slot s ++ old)
    → new ≡ construct_sets w given slot (drop slot specs) ++ tail
slot_before w given specs above slot old new tail is within before adds =
    let there = within_list specs slot (omega (arith, is, within)) in
    let first = construct_set w given slot there.0 in
    let others = construct_sets w given (suc slot) (drop (suc slot) specs) in
    adds there.0 there.1
    ∙ ap (λ steps. first ++ steps) (before ∙ ap (λ n. construct_sets w given n (drop n specs) ++ tail) is)
    ∙ sym (append_assoc first others tail)
    ∙ sym (ap (λ (ss : List Spec). construct_sets w given slot ss ++ tail) (drop_at specs slot there.0 there.1))

-- one entry less, which may be a forward reference
pub entry_before : (w : World) (specs : List Spec) (place : ℕ) (given : List GivenValue) (above i : ℕ) (g : GivenValue) (old new tail : List ConstructStep)
    → above ≡ suc i → slice_get given i ≡ Some g
    → old ≡ given_sets w specs (early place (drop above given)) ++ tail → new ≡ early_set w specs place (given_property g) ++ old
    → new ≡ given_sets w specs (early place (drop i given)) ++ tail
entry_before w specs place given above i g old new tail is at before adds =
    let others = early place (drop (suc i) given) in
    adds
    ∙ ap (λ steps. early_set w specs place (given_property g) ++ steps) (before ∙ ap (λ n. given_sets w specs (early place (drop n given)) ++ tail) is)
    ∙ sym (append_assoc (early_set w specs place (given_property g)) (given_sets w specs others) tail)
    ∙ ap (λ steps. steps ++ tail) (by (is_forward place (given_view g.given)) others)
    ∙ sym (ap (λ (gs : List GivenValue). given_sets w specs (early place gs) ++ tail) (drop_at given i g at))
  where
    by : (b : Bool) (others : List GivenProperty) → cond b [] (later_set w specs (given_property g)) ++ given_sets w specs others
        ≡ given_sets w specs (cond (not b) (given_property g ∷ others) others)
    by true others = refl
    by false others = refl

-- what is at a place of a list is read there
pub read_there : {A : Type 0} (none : A) (xs : List A) (i : ℕ) (x : A) → slice_get xs i ≡ Some x → read none xs i ≡ x
read_there none [] i x at = cc
read_there none (y ∷ xs) zero x at = cc
read_there none (y ∷ xs) (suc i) x at = read_there none xs i x at

pub read_nothing : {A : Type 0} (none : A) (xs : List A) (i : ℕ) → slice_get xs i ≡ None → read none xs i ≡ none
read_nothing none [] i at = refl
read_nothing none (y ∷ xs) zero at = cc
read_nothing none (y ∷ xs) (suc i) at = read_nothing none xs i at

pub slice_got : {A : Type 0} (xs : List A) (i : ℕ) (x : A) → i < length xs → x ≡ get_or xs i x → slice_get xs i ≡ Some x
slice_got [] i x small is = absurd (omega arith)
slice_got (y ∷ xs) zero x small is = ap Some (sym is)
slice_got (y ∷ xs) (suc i) x small is = slice_got xs i x (omega arith) is

-- nothing is left of a list that is dropped as long as it is
pub all_dropped : {A : Type 0} (xs : List A) → drop (length xs) xs ≡ []
all_dropped [] = refl
all_dropped (x ∷ xs) = all_dropped xs

-- what the builder has of a given value
abbrev pub value_of : World → Option GivenValue → Option Value
value_of w found = option_and_then (λ (g : GivenValue). given_value w (given_view g.given)) found

one_found : (w : World) (g : GivenValue) (v : Option Value) (behind : Option GivenValue) (same : Bool) → v ≡ value_of w behind
    → cond same (given_value w (given_view g.given)) v ≡ value_of w (cond same (Some g) behind)
one_found w g v behind true rest = refl
one_found w g v behind false rest = rest

-- the value that is given to a slot is the first one for it that is no forward reference
pub found_first : (w : World) (place slot : ℕ) (given : List GivenValue)
    → given_at w (early place given) slot
    ≡ option_and_then (λ (g : GivenValue). given_value w (given_view g.given))
    (find (λ (g : GivenValue). not (is_forward place (given_view g.given)) && nat_eq g.slot slot) given)
found_first w place slot [] = refl
found_first w place slot (g ∷ gs) = by (is_forward place (given_view g.given)) (found_first w place slot gs)
  where
    by : (late : Bool)
        → given_at w (early place gs) slot ≡ value_of w (find (λ (h : GivenValue). not (is_forward place (given_view h.given)) && nat_eq h.slot slot) gs)
        → given_at w (cond (not late) (given_property g ∷ early place gs) (early place gs)) slot
        ≡ value_of w (cond (not late && nat_eq g.slot slot) (Some g) (find (λ (h : GivenValue). not (is_forward place (given_view h.given)) && nat_eq h.slot slot) gs))
    by true rest = rest
    by false rest = one_found w g (given_at w (early place gs) slot) (find (λ (h : GivenValue). not (is_forward place (given_view h.given)) && nat_eq h.slot slot) gs) (nat_eq g.slot slot) rest
