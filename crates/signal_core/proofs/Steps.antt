-- The first step of a stage's turns and of what comes after them.
use Rattle.std.proofs.Common.{◌≡◌, ℕ, Bool, true, false, cond, not, nat_lt, ◌&&◌, List, [], ◌∷◌, ◌++◌, ◌∙◌, None, Some, ap, map, option_map, refl}
use Rattle.std.specs.List.{filter, find}
use Rattle.std.specs.Option.{option_or}
use Rattle.ui_machine.specs.State.Handlers.{Handler}
use Rattle.signal_core.specs.Emission.{Due, Walk, first_step, has_next_turn, is_ahead, of_handler, of_handlers}
use Rattle.signal_core.specs.declared.stage.Stage.{Stage}
use Rattle.signal_core.specs.declared.step.Step.{Step}

-- the step of a handler
abbrev pub step_of : (ℕ → Stage) → Handler → Step
step_of stage h = (of_handler stage h).step

-- it is the one of the first handler that is not passed over, or the first of the rest
pub first_handler : (w : Walk) (given : ℕ) (after : Bool) (stage : ℕ → Stage) (rest : List Due) (hs : List Handler) →
    first_step (of_handlers w given after stage hs ++ rest)
    ≡ option_or (option_map (step_of stage) (find (has_next_turn w given after) hs)) (first_step rest)
first_handler w given after stage rest [] = refl
first_handler w given after stage rest (h ∷ hs) = by (is_ahead w given after h) (first_handler w given after stage rest hs)
  where
    later : List Due
    later = map (of_handler stage) (filter (is_ahead w given after) hs) ++ rest

    Onward : Type 0
    Onward = first_step later ≡ option_or (option_map (step_of stage) (find (has_next_turn w given after) hs)) (first_step rest)

    by_blocks : (blocked : Bool) → Onward →
        option_map (λ (d : Due). d.step) (cond (not blocked) (Some (of_handler stage h)) (find (λ (d : Due). not d.is_blocked) later))
        ≡ option_or (option_map (step_of stage) (cond (not blocked) (Some h) (find (has_next_turn w given after) hs))) (first_step rest)
    by_blocks true onward = onward
    by_blocks false onward = refl

    by : (ahead : Bool) → Onward →
        first_step (map (of_handler stage) (cond ahead (h ∷ filter (is_ahead w given after) hs) (filter (is_ahead w given after) hs)) ++ rest)
        ≡ option_or (option_map (step_of stage) (cond (ahead && not (nat_lt 0 h.blocks)) (Some h) (find (has_next_turn w given after) hs))) (first_step rest)
    by false onward = onward
    by true onward = by_blocks (nat_lt 0 h.blocks) onward

-- the same where one is found, and where none is
pub next_is : (w : Walk) (given : ℕ) (after : Bool) (stage : ℕ → Stage) (rest : List Due) (hs : List Handler) (h : Handler) →
    find (has_next_turn w given after) hs ≡ Some h → first_step (of_handlers w given after stage hs ++ rest) ≡ Some (step_of stage h)
next_is w given after stage rest hs h found =
    first_handler w given after stage rest hs ∙ ap (λ o. option_or (option_map (step_of stage) o) (first_step rest)) found

pub none_is : (w : Walk) (given : ℕ) (after : Bool) (stage : ℕ → Stage) (rest : List Due) (hs : List Handler) →
    find (has_next_turn w given after) hs ≡ None → first_step (of_handlers w given after stage hs ++ rest) ≡ first_step rest
none_is w given after stage rest hs none =
    first_handler w given after stage rest hs ∙ ap (λ o. option_or (option_map (step_of stage) o) (first_step rest)) none
