-- The plan of an emission.
use Rattle.std.proofs.Common.{ap, ◌≡◌, inl, inr, refl, ℕ, ◌+◌, ◌≤◌, Bool, true, false, cond, List, [], ◌∷◌, ◌++◌, Option, None, Some, arith}
use Rattle.std.specs.Prelude.{map, not, ◌&&◌}
use Rattle.std.specs.List.{filter}
use Rattle.ui_machine.specs.State.References.{same}
use Rattle.ui_machine.specs.Definition.Properties.{has_flags}
use Rattle.ui_machine.specs.State.Handlers.{Handler}
use Rattle.ui_machine.specs.State.Bindings.{Binding, transfers, listens, goes_back}
use Rattle.ui_machine.specs.State.Tasks.{PlanEntry, class_handler, handler}
use Rattle.ui_machine.specs.State.Config.{World}
use Rattle.ui_machine.specs.State.Tasks as config
use Rattle.ui_machine.specs.Rules.EmissionPlan.{at_stage, runs_for, handlers_for, plan, class_handler_of}
use Rattle.machine_laws.specs.PlanLaws.{is_entry_of, entries_of, stands, HandlersRunOnce, IsPart, numbers, InOrder, StagesInOrder, NotifyStages}
use Rattle.machine_laws.proofs.QueueProofs.{total_append}

-- a class handler's turn is no handler's
no_class_turn : (number : ℕ) (runs cleanup : Bool) (class : Option ℕ) → entries_of number (at_stage runs cleanup class) ≡ 0
no_class_turn number runs cleanup None = refl
no_class_turn number true cleanup (Some program) = omega arith
no_class_turn number false cleanup (Some program) = refl

no_transfer_turn : (number object slot : ℕ) (bs : List Binding) → entries_of number (map (λ (b : Binding). config.transfer b.number (goes_back object slot b)) bs) ≡ 0
no_transfer_turn number object slot [] = refl
no_transfer_turn number object slot (b ∷ bs) = let ih = no_transfer_turn number object slot bs in omega (arith, ih)

-- the handlers of the two stages together, by the test that a handler passes besides
abbrev entries_by : (Handler → Bool) → Bool → List Handler → List PlanEntry
entries_by test after hs = map (λ (h : Handler). handler h.number) (filter (λ (h : Handler). test h && cond after h.after (not h.after)) hs)

one_turn : (number : ℕ) (h : Handler) (passes after : Bool) (first second : List Handler) (m n k : ℕ) →
    entries_of number (map (λ (h : Handler). handler h.number) first) ≡ m → entries_of number (map (λ (h : Handler). handler h.number) second) ≡ n → m + n ≤ k →
    entries_of number (map (λ (h : Handler). handler h.number) (cond (passes && not after) (h ∷ first) first))
    + entries_of number (map (λ (h : Handler). handler h.number) (cond (passes && after) (h ∷ second) second)) ≤ same number h.number + k
one_turn number h true true first second m n k p q r = omega (arith, p, q, r)
one_turn number h true false first second m n k p q r = omega (arith, p, q, r)
one_turn number h false true first second m n k p q r = omega (arith, p, q, r)
one_turn number h false false first second m n k p q r = omega (arith, p, q, r)

both_stages : (number : ℕ) (test : Handler → Bool) (hs : List Handler) → entries_of number (entries_by test false hs) + entries_of number (entries_by test true hs) ≤ stands number hs
both_stages number test [] = omega arith
both_stages number test (h ∷ hs) =
    one_turn number h (test h) h.after (filter (λ (h : Handler). test h && not h.after) hs) (filter (λ (h : Handler). test h && h.after) hs)
    (entries_of number (entries_by test false hs)) (entries_of number (entries_by test true hs)) (stands number hs) refl refl (both_stages number test hs)

planned_once : (w : World) (class : Option ℕ) (flags id signal : ℕ) (moved : List PlanEntry) (detail : Option (List ℕ)) (number : ℕ) → entries_of number moved ≡ 0 →
    entries_of number (plan w (record { object = id; signal = signal; detail = detail; flags = flags; class_program = class; transfers = moved })) ≤ stands number w.handlers
planned_once w class flags id signal moved detail number none =
    let first = at_stage (has_flags 1 flags) false class in
    let last = at_stage (has_flags 2 flags) false class in
    let clean = at_stage (has_flags 4 flags) true class in
    let before = handlers_for w.handlers id signal detail false in
    let after = handlers_for w.handlers id signal detail true in
    let a = total_append (is_entry_of number) first (moved ++ (before ++ (last ++ (after ++ clean)))) in
    let b = total_append (is_entry_of number) moved (before ++ (last ++ (after ++ clean))) in
    let c = total_append (is_entry_of number) before (last ++ (after ++ clean)) in
    let d = total_append (is_entry_of number) last (after ++ clean) in
    let e = total_append (is_entry_of number) after clean in
    let f = no_class_turn number (has_flags 1 flags) false class in
    let g = no_class_turn number (has_flags 2 flags) false class in
    let h = no_class_turn number (has_flags 4 flags) true class in
    let i = both_stages number (λ (x : Handler). runs_for id signal detail x) w.handlers in
    omega (arith, a, b, c, d, e, f, g, h, i, none)

pub handlers_run_once : HandlersRunOnce
handlers_run_once = (
  λ w p number none. planned_once w p.class_program p.flags p.object p.signal p.transfers p.detail number (ap (entries_of number) none),
  λ d w s class id slot name number. planned_once w (class_handler_of d class s.name) s.flags id 0 (transfers id slot w.bindings) (Some name) number
      (no_transfer_turn number id slot (filter (listens id slot) w.bindings)),
)

-- one more that is left out
part_of_more : (xs : List ℕ) (y : ℕ) (ys : List ℕ) → IsPart xs ys → IsPart xs (y ∷ ys)
part_of_more [] y ys p = tt
part_of_more (x ∷ xs) y ys p = inr p

in_order_by : (test : Handler → Bool) (hs : List Handler) → IsPart (numbers (map (λ (h : Handler). handler h.number) (filter test hs))) (map (λ (h : Handler). h.number) hs)
in_order_by test [] = refl
in_order_by test (h ∷ hs) = by_test (test h) (in_order_by test hs)
  where
    by_test : (passes : Bool) → IsPart (numbers (map (λ (h : Handler). handler h.number) (filter test hs))) (map (λ (h : Handler). h.number) hs) →
        IsPart (numbers (map (λ (h : Handler). handler h.number) (cond passes (h ∷ filter test hs) (filter test hs)))) (map (λ (h : Handler). h.number) (h ∷ hs))
    by_test true p = inl (refl, p)
    by_test false p = part_of_more (numbers (map (λ (h : Handler). handler h.number) (filter test hs))) h.number (map (λ (h : Handler). h.number) hs) p

pub in_order : InOrder
in_order hs id signal detail after = in_order_by (λ (h : Handler). runs_for id signal detail h && cond after h.after (not h.after)) hs

pub stages_in_order : StagesInOrder
stages_in_order w program moved id signal detail = refl

pub notify_stages : NotifyStages
notify_stages w program moved id detail = refl
