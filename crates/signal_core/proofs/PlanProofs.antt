-- As an emission begins, its turns are the entries of the machine's plan.
use Rattle.std.proofs.Common.{◌≡◌, ◌∙◌, refl, sym, ap, ℕ, ◌<◌, ◌≤◌, ◌++◌, ◌&&◌, Bool, true, false, cond, not, map, nat_eq, nat_le, List, [], ◌∷◌, Option, None, Some, arith}
use Rattle.std.specs.List.{filter, flat_map}
use Rattle.std.proofs.lemmas.Bool.{le-leb, lt-ltb}
use Rattle.std.proofs.lemmas.Grind.{flat_map-append}
use Rattle.std.proofs.lemmas.List.{append-nil}
use Rattle.ui_machine.specs.Definition.Properties.{has_flags}
use Rattle.ui_machine.specs.Rules.EmissionPlan.{at_stage, handlers_for, runs_for}
use Rattle.ui_machine.specs.State.Handlers.{Handler}
use Rattle.ui_machine.specs.State.Tasks.{PlanEntry, handler}
use Rattle.signal_core.specs.Connected.{Numbered}
use Rattle.signal_core.specs.Emission.{Due, Walk, due, from_after, from_before, from_cleanup, from_last, from_transfers, is_ahead, is_over, of_bindings, of_class, of_handler, of_handlers}
use Rattle.signal_core.specs.Laws.{PlanIsWalked, entries_of, number_at, walk_for}
use Rattle.signal_core.specs.declared.stage.Stage.{Stage}
use Rattle.signal_core.specs.declared.stage.Stage.TheVariants as stages
use Rattle.signal_core.specs.declared.turn.Turn.TheVariants as turns
use Rattle.signal_core.proofs.Numbers.{numbered_within}

-- a class handler's turn
class_is : (transfers : List PlanEntry) (runs : Bool) (program : Option ℕ) (next : Stage) →
    flat_map (entries_of transfers) (of_class runs program next) ≡ at_stage runs (is_over next) program
class_is transfers runs None next = refl
class_is transfers true (Some program) next = refl
class_is transfers false (Some program) next = refl

-- the turns of some handlers
handlers_are : (transfers : List PlanEntry) (stage : ℕ → Stage) → ((n : ℕ) → number_at (stage n) ≡ n) → (hs : List Handler) →
    flat_map (entries_of transfers) (map (of_handler stage) hs) ≡ map (λ (h : Handler). handler h.number) hs
handlers_are transfers stage at [] = refl
handlers_are transfers stage at (h ∷ hs) = rw (at h.number, handlers_are transfers stage at hs) refl

-- a handler runs for the walk's emission, before the class handler or after it
abbrev runs_in : Walk → (after : Bool) → Handler → Bool
runs_in w after h = runs_for w.object w.signal w.detail h && cond after h.after (not h.after)

-- at the beginning all of them are ahead
ahead_at_first : (w : Walk) (after : Bool) (h : Handler) → 0 < h.number → h.number ≤ w.greatest → is_ahead w 0 after h ≡ runs_in w after h
ahead_at_first w after h above within =
    ap (λ b. (b && nat_le h.number w.greatest) && runs_in w after h) (lt-ltb 0 h.number above)
    ∙ ap (λ b. b && runs_in w after h) (le-leb h.number w.greatest within)

all_ahead : (w : Walk) (after : Bool) (above : ℕ) (hs : List Handler) → Numbered above hs w.greatest → filter (is_ahead w 0 after) hs ≡ filter (runs_in w after) hs
all_ahead w after above [] n = refl
all_ahead w after above (h ∷ hs) n =
    let within = numbered_within h.number hs w.greatest n.1 in
    let ahead = ahead_at_first w after h (omega (arith, n.0)) within in
    ap (λ b. cond b (h ∷ filter (is_ahead w 0 after) hs) (filter (is_ahead w 0 after) hs)) ahead
    ∙ ap (λ these. cond (runs_in w after h) (h ∷ these) these) (all_ahead w after h.number hs n.1)

-- the turns of the handlers, at the beginning
stage_is : (w : Walk) (transfers : List PlanEntry) (after : Bool) (stage : ℕ → Stage) → ((n : ℕ) → number_at (stage n) ≡ n) → (hs : List Handler) →
    Numbered 0 hs w.greatest → flat_map (entries_of transfers) (of_handlers w 0 after stage hs) ≡ handlers_for hs w.object w.signal w.detail after
stage_is w transfers after stage at hs n =
    ap (λ these. flat_map (entries_of transfers) (map (of_handler stage) these)) (all_ahead w after 0 hs n)
    ∙ handlers_are transfers stage at (filter (runs_in w after) hs)

-- the turn of the bindings
bindings_are : (w : Walk) (transfers : List PlanEntry) → (nat_eq w.signal 0 ≡ false → transfers ≡ []) → flat_map (entries_of transfers) (of_bindings w) ≡ transfers
bindings_are w transfers none = by (nat_eq w.signal 0) none
  where
    by : (b : Bool) → (b ≡ false → transfers ≡ []) → flat_map (entries_of transfers) (cond b (due turns.Transfers (stages.Before 0) ∷ []) []) ≡ transfers
    by true none = append-nil transfers
    by false none = sym (none refl)

-- two parts of the turns
both : (transfers : List PlanEntry) (xs ys : List Due) (first second : List PlanEntry) → flat_map (entries_of transfers) xs ≡ first →
    flat_map (entries_of transfers) ys ≡ second → flat_map (entries_of transfers) (xs ++ ys) ≡ first ++ second
both transfers xs ys first second x y = flat_map-append (entries_of transfers) xs ys ∙ rw (x, y) refl

pub plan_is_walked : PlanIsWalked
plan_is_walked world accumulator p n none =
    let w : Walk = walk_for world.last_handler accumulator p in
    let t = p.transfers in
    let hs = world.handlers in
    let cleanup = class_is t (has_flags 4 p.flags) p.class_program stages.Over in
    let after = both t (of_handlers w 0 true stages.After hs) (from_cleanup w) _ _ (stage_is w t true stages.After (λ number. refl) hs n) cleanup in
    let last = both t (of_class (has_flags 2 p.flags) p.class_program (stages.After 0)) (from_after 0 w hs) _ _ (class_is t (has_flags 2 p.flags) p.class_program (stages.After 0)) after in
    let before = both t (of_handlers w 0 false stages.Before hs) (from_last w hs) _ _ (stage_is w t false stages.Before (λ number. refl) hs n) last in
    let transfers = both t (of_bindings w) (from_before 0 w hs) _ _ (bindings_are w t none) before in
    both t (of_class (has_flags 1 p.flags) p.class_program stages.Transfers) (from_transfers w hs) _ _ (class_is t (has_flags 1 p.flags) p.class_program stages.Transfers) transfers
