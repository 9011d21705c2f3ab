-- Once a turn is taken, what was behind it is to come.
use Rattle.std.proofs.Common.{◌≡◌, ◌∙◌, refl, sym, ap, subst, ℕ, ◌<◌, ◌≤◌, ◌++◌, ◌&&◌, Bool, true, false, cond, not, map, nat_eq, nat_le, nat_lt, List, [], ◌∷◌, Option, None, Some, arith}
use Rattle.std.specs.List.{filter, find}
use Rattle.std.proofs.lemmas.Bool.{and_parts, le-ltb, lt-ltb, ltb-true}
use Rattle.ui_machine.specs.Definition.Properties.{has_flags}
use Rattle.ui_machine.specs.Rules.EmissionPlan.{runs_for}
use Rattle.ui_machine.specs.State.Handlers.{Handler}
use Rattle.signal_core.specs.Connected.{Numbered}
use Rattle.signal_core.specs.Emission.{Due, Walk, due, first_step, from_after, from_before, from_cleanup, from_first, from_last, from_transfers, has_next_turn, is_ahead, of_class, of_handler, of_handlers, turns_from}
use Rattle.signal_core.specs.Laws.{TurnsGoOn, after_next}
use Rattle.signal_core.specs.declared.stage.Stage.{Stage}
use Rattle.signal_core.specs.declared.stage.Stage.TheVariants as stages
use Rattle.signal_core.specs.declared.step.Step.{Step}
use Rattle.signal_core.specs.declared.turn.Turn.TheVariants as turns
use Rattle.signal_core.proofs.Numbers.{found_above}
use Rattle.signal_core.proofs.Steps.{next_is, none_is, step_of}

module _ (w : Walk) (after : Bool) where
  abbrev meant : Handler → Bool
  meant h = runs_for w.object w.signal w.detail h && cond after h.after (not h.after)

  -- a handler up to a number is not ahead of it
  past : (given : ℕ) (h : Handler) → h.number ≤ given → is_ahead w given after h ≡ false
  past given h up = ap (λ b. (b && nat_le h.number w.greatest) && meant h) (le-ltb given h.number up)

  -- one above two numbers is ahead of both or of neither
  above_both : (given m : ℕ) (h : Handler) → given < h.number → m < h.number → is_ahead w given after h ≡ is_ahead w m after h
  above_both given m h g l =
      ap (λ b. (b && nat_le h.number w.greatest) && meant h) (lt-ltb given h.number g ∙ sym (lt-ltb m h.number l))

  later_same : (given m above : ℕ) (hs : List Handler) (last : ℕ) → given ≤ above → m ≤ above → Numbered above hs last →
      filter (is_ahead w given after) hs ≡ filter (is_ahead w m after) hs
  later_same given m above [] last g l n = refl
  later_same given m above (h ∷ hs) last g l n =
      let first = n.0 in
      ap (λ b. cond b (h ∷ filter (is_ahead w given after) hs) (filter (is_ahead w given after) hs)) (above_both given m h (omega (arith, first, g)) (omega (arith, first, l)))
      ∙ ap (λ these. cond (is_ahead w m after h) (h ∷ these) these) (later_same given m h.number hs last (omega (arith, first, g)) (omega (arith, first, l)) n.1)

  module _ (given : ℕ) (stage : ℕ → Stage) (rest : List Due) where
    -- what is still to come after a number
    abbrev behind : ℕ → List Handler → List Due
    behind number hs = of_handlers w number after stage hs ++ rest

    drop_past : (number : ℕ) (h : Handler) (hs : List Handler) → h.number ≤ number → behind number (h ∷ hs) ≡ behind number hs
    drop_past number h hs up =
        ap (λ b. map (of_handler stage) (cond b (h ∷ filter (is_ahead w number after) hs) (filter (is_ahead w number after) hs)) ++ rest) (past number h up)

    -- the handler whose turn it is is found: what comes after it is what is after its number
    found_goes : (above : ℕ) (hs : List Handler) (last : ℕ) (h : Handler) → Numbered above hs last → find (has_next_turn w given after) hs ≡ Some h →
        after_next (behind given hs) ≡ behind h.number hs
    found_goes above [] last h n e = absurd (cc)
    found_goes above (x ∷ hs) last h n e =
        by (is_ahead w given after x) refl e
        (λ later. found_goes x.number hs last h n.1 later)
        (λ later. found_above (has_next_turn w given after) x.number hs last h n.1 later)
        (λ ahead. later_same given x.number x.number hs last (omega (arith, ltb-true given x.number (and_parts _ _ (and_parts _ _ ahead).0).0)) (omega arith) n.1)
      where
        Later : Type 0
        Later = find (has_next_turn w given after) hs ≡ Some h

        past_it : x.number < h.number → behind h.number hs ≡ behind h.number (x ∷ hs)
        past_it up = sym (drop_past h.number x hs (omega (arith, up)))

        blocks : (blocked : Bool) → cond (not blocked) (Some x) (find (has_next_turn w given after) hs) ≡ Some h →
            (Later → after_next (behind given hs) ≡ behind h.number hs) → (Later → x.number < h.number) →
            filter (is_ahead w given after) hs ≡ filter (is_ahead w x.number after) hs →
            cond blocked (after_next (behind given hs)) (behind given hs) ≡ behind h.number (x ∷ hs)
        blocks true e rec up same = rec e ∙ past_it (up e)
        blocks false e rec up same =
            let is : x ≡ h = cc in
            subst (λ (y : Handler). behind given hs ≡ behind y.number (x ∷ hs)) is
            (ap (λ these. map (of_handler stage) these ++ rest) same ∙ sym (drop_past x.number x hs (omega arith)))

        by : (ahead : Bool) → is_ahead w given after x ≡ ahead → cond (ahead && not (nat_lt 0 x.blocks)) (Some x) (find (has_next_turn w given after) hs) ≡ Some h →
            (Later → after_next (behind given hs) ≡ behind h.number hs) → (Later → x.number < h.number) →
            (is_ahead w given after x ≡ true → filter (is_ahead w given after) hs ≡ filter (is_ahead w x.number after) hs) →
            after_next (map (of_handler stage) (cond ahead (x ∷ filter (is_ahead w given after) hs) (filter (is_ahead w given after) hs)) ++ rest)
            ≡ behind h.number (x ∷ hs)
        by false a e rec up same = rec e ∙ past_it (up e)
        by true a e rec up same = blocks (nat_lt 0 x.blocks) e rec up (same a)

    -- none is found: all of them are passed over
    none_goes : (hs : List Handler) → find (has_next_turn w given after) hs ≡ None → after_next (behind given hs) ≡ after_next rest
    none_goes [] e = refl
    none_goes (x ∷ hs) e = by (is_ahead w given after x) e (λ later. none_goes hs later)
      where
        Later : Type 0
        Later = find (has_next_turn w given after) hs ≡ None

        blocks : (blocked : Bool) → cond (not blocked) (Some x) (find (has_next_turn w given after) hs) ≡ None → (Later → after_next (behind given hs) ≡ after_next rest) →
            cond blocked (after_next (behind given hs)) (behind given hs) ≡ after_next rest
        blocks true e rec = rec e
        blocks false e rec = absurd (cc)

        by : (ahead : Bool) → cond (ahead && not (nat_lt 0 x.blocks)) (Some x) (find (has_next_turn w given after) hs) ≡ None →
            (Later → after_next (behind given hs) ≡ after_next rest) →
            after_next (map (of_handler stage) (cond ahead (x ∷ filter (is_ahead w given after) hs) (filter (is_ahead w given after) hs)) ++ rest) ≡ after_next rest
        by false e rec = rec e
        by true e rec = blocks (nat_lt 0 x.blocks) e rec

-- what is to come once a step is taken comes after it
abbrev Goes : Walk → List Handler → List Due → Type 0
Goes w hs dues = (step : Step) → first_step dues ≡ Some step → turns_from step.then_at w hs ≡ after_next dues

module _ (w : Walk) (hs : List Handler) (last : ℕ) (n : Numbered 0 hs last) where
  -- a class handler's turn goes on to the next stage
  class_goes : (runs : Bool) (program : Option ℕ) (next : Stage) → Goes w hs (turns_from next w hs) → Goes w hs (of_class runs program next ++ turns_from next w hs)
  class_goes runs None next rest step e = rest step e
  class_goes false (Some program) next rest step e = rest step e
  class_goes true (Some program) next rest step e = subst (λ stage. turns_from stage w hs ≡ turns_from next w hs) (ap at e) refl
    where
      at : Option Step → Stage
      at None = next
      at (Some s) = s.then_at

  -- a handler's turn goes on to the handlers behind it
  handler_goes : (given : ℕ) (after : Bool) (stage : ℕ → Stage) (rest : List Due) →
      ((m : ℕ) → turns_from (stage m) w hs ≡ of_handlers w m after stage hs ++ rest) → Goes w hs rest → Goes w hs (of_handlers w given after stage hs ++ rest)
  handler_goes given after stage rest from goes step e = by (find (has_next_turn w given after) hs) refl
    where
      by : (o : Option Handler) → find (has_next_turn w given after) hs ≡ o → turns_from step.then_at w hs ≡ after_next (of_handlers w given after stage hs ++ rest)
      by None none =
          goes step (sym (none_is w given after stage rest hs none) ∙ e) ∙ sym (none_goes w after given stage rest hs none)
      by (Some h) found =
          let same : step_of stage h ≡ step = (let first = sym (next_is w given after stage rest hs h found) ∙ e in cc) in
          subst (λ (s : Step). turns_from s.then_at w hs ≡ after_next (of_handlers w given after stage hs ++ rest)) same
          (from h.number ∙ sym (found_goes w after given stage rest 0 hs last h n found))

  over_goes : Goes w hs []
  over_goes step e = absurd (cc)

  cleanup_goes : Goes w hs (from_cleanup w)
  cleanup_goes = by (has_flags 4 w.flags) w.class_program
    where
      by : (runs : Bool) (program : Option ℕ) → Goes w hs (of_class runs program stages.Over)
      by runs None step e = absurd (cc)
      by false (Some program) step e = absurd (cc)
      by true (Some program) step e = class_goes true (Some program) stages.Over over_goes step e

  after_goes : (given : ℕ) → Goes w hs (from_after given w hs)
  after_goes given = handler_goes given true stages.After (from_cleanup w) (λ m. refl) cleanup_goes

  last_goes : Goes w hs (from_last w hs)
  last_goes = class_goes (has_flags 2 w.flags) w.class_program (stages.After 0) (after_goes 0)

  before_goes : (given : ℕ) → Goes w hs (from_before given w hs)
  before_goes given = handler_goes given false stages.Before (from_last w hs) (λ m. refl) last_goes

  transfers_goes : Goes w hs (from_transfers w hs)
  transfers_goes = by (nat_eq w.signal 0)
    where
      taken : (step : Step) → first_step (due turns.Transfers (stages.Before 0) ∷ from_before 0 w hs) ≡ Some step → turns_from step.then_at w hs ≡ from_before 0 w hs
      taken step e = let is : record { turn = turns.Transfers; then_at = stages.Before 0 } ≡ step = cc in subst (λ (s : Step). turns_from s.then_at w hs ≡ from_before 0 w hs) is refl

      by : (b : Bool) → Goes w hs (cond b (due turns.Transfers (stages.Before 0) ∷ []) [] ++ from_before 0 w hs)
      by true step e = taken step e
      by false step e = before_goes 0 step e

  first_goes : Goes w hs (from_first w hs)
  first_goes = class_goes (has_flags 1 w.flags) w.class_program stages.Transfers transfers_goes

  goes_from : (stage : Stage) → Goes w hs (turns_from stage w hs)
  goes_from stages.First = first_goes
  goes_from stages.Transfers = transfers_goes
  goes_from (stages.Before given) = before_goes given
  goes_from stages.Last = last_goes
  goes_from (stages.After given) = after_goes given
  goes_from stages.Cleanup = cleanup_goes
  goes_from stages.Over = over_goes

-- the turns from a stage on do not depend on where the walk is
from_any : (w : Walk) (at : Stage) (hs : List Handler) (stage : Stage) → turns_from stage (record w { stage = at }) hs ≡ turns_from stage w hs
from_any w at hs stages.First = refl
from_any w at hs stages.Transfers = refl
from_any w at hs (stages.Before given) = refl
from_any w at hs stages.Last = refl
from_any w at hs (stages.After given) = refl
from_any w at hs stages.Cleanup = refl
from_any w at hs stages.Over = refl

pub turns_go_on : TurnsGoOn
turns_go_on w hs last n step e = from_any w step.then_at hs step.then_at ∙ goes_from w hs last n w.stage step e
