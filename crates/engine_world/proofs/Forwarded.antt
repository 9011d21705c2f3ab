-- Forward references, as they are listed from the last one on and then set.
use Rattle.std.proofs.Common.{◌≡◌, ℕ, suc, Bool, true, false, List, [], ◌∷◌, ◌++◌, map, drop, Some, Ok, Err, slice_get, refl, sym, ap, ◌∙◌, append_assoc}
use Rattle.std.specs.List.{flat_map}
use Rattle.std.proofs.lemmas.List.{reverse-append}
use Rattle.ui_machine.specs.Definition.Properties.{Spec, is_writable, is_construct_only}
use Rattle.ui_machine.specs.Definition.Values.{Value}
use Rattle.ui_machine.specs.Definition.Values as values
use Rattle.ui_machine.specs.State.Tasks.{Item}
use Rattle.ui_machine.specs.Outcome.{Answer, ◌>>=◌}
use Rattle.ui_machine.specs.Rules.Sets.{if_settable}
use Rattle.ui_machine.specs.Rules.Build.{forward_of}
use Rattle.definition_format.specs.declared.objects.GivenValue.{GivenValue}
use Rattle.definition_format.specs.Meaning.{given_property}
use Rattle.engine_stack.specs.declared.task.ForwardReference.{ForwardReference}
use Rattle.engine_stack.specs.TaskView.{item_of, items_of}
use Rattle.engine_world.proofs.Building.{drop_at}

pub one_forward_more : (fs : List ForwardReference) (f : ForwardReference) → items_of (fs ++ f ∷ []) ≡ item_of f ∷ items_of fs
one_forward_more fs f = ap (map item_of) (reverse-append fs (f ∷ []))

-- one entry less
pub entry_less : (object : ℕ) (given : List GivenValue) (above i : ℕ) (g : GivenValue) (old new tail : List Item)
    → above ≡ suc i → slice_get given i ≡ Some g
    → old ≡ flat_map (forward_of object) (map given_property (drop above given)) ++ tail → new ≡ forward_of object (given_property g) ++ old
    → new ≡ flat_map (forward_of object) (map given_property (drop i given)) ++ tail
entry_less object given above i g old new tail is at before adds =
    let first = forward_of object (given_property g) in
    let others = flat_map (forward_of object) (map given_property (drop (suc i) given)) in
    adds
    ∙ ap (λ items. first ++ items) (before ∙ ap (λ n. flat_map (forward_of object) (map given_property (drop n given)) ++ tail) is)
    ∙ sym (append_assoc first others tail)
    ∙ sym (ap (λ (gs : List GivenValue). flat_map (forward_of object) (map given_property gs) ++ tail) (drop_at given i g at))

-- what the builder has, as a value
pub held_then : {X : Type 0} (held : Answer ℕ) (set : Value → Answer X) (v : Value) → (held >>= λ id. Ok (values.object (Some id))) ≡ Ok v
    → (held >>= λ id. set (values.object (Some id))) ≡ set v
held_then {X} (Err arm) set v h = cc
held_then {X} (Ok id) set v h = let e : values.object (Some id) ≡ v = cc in ap set e

-- a set of what may be set: first whether it may be, and then the set
pub settable_then : {X : Type 0} (held : Answer ℕ) (spec : ℕ → Answer Spec) (set : ℕ → Answer X)
    → (held >>= λ id. spec id >>= λ s. if_settable s (set id)) ≡ ((held >>= λ id. spec id >>= λ s. if_settable s (Ok id)) >>= set)
settable_then {X} (Err arm) spec set = refl
settable_then {X} (Ok id) spec set = by (spec id)
  where
    may : (s : Spec) (writable only : Bool) → is_writable s ≡ writable → is_construct_only s ≡ only
        → if_settable s (set id) ≡ (if_settable s (Ok id) >>= set)
    may s true true p q = rw (p, q) refl
    may s true false p q = rw (p, q) refl
    may s false only p q = rw p refl

    by : (found : Answer Spec) → (found >>= λ s. if_settable s (set id)) ≡ ((found >>= λ s. if_settable s (Ok id)) >>= set)
    by (Err arm) = refl
    by (Ok s) = may s (is_writable s) (is_construct_only s) refl refl
