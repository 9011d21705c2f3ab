-- A property that was written.
use Rattle.std.proofs.Common.{◌≡◌, refl, ap, ◌∙◌, ℕ, ◌+◌, ◌-◌, Bool, true, false, cond, Ok, arith}
use Rattle.ui_machine.specs.Definition.Values.{Value}
use Rattle.ui_machine.specs.State.Objects.{changed, living, with_value}
use Rattle.ui_machine.specs.State.References.{in_value}
use Rattle.instance_tables.specs.Store.{Store, count_of, may_hold_any, named_by}
use Rattle.instance_tables.specs.Weak.{Marks, strong_in}
use Rattle.instances.specs.Calls.{Writes, newly_held}

-- what is held from then on, by whether it may be
held_if : (strong may : Bool) (b : ℕ) → may ≡ true → cond strong b 0 ≡ cond strong (cond may b 0) 0
held_if strong may b is = rw is refl

not_held_if : (strong may : Bool) (a b : ℕ) → may ≡ false → a ≡ a + cond strong (cond may b 0) 0
not_held_if true may a b is = rw is (omega arith)
not_held_if false may a b is = omega arith

pub writes : (weak : Marks) (id slot : ℕ) (was v : Value) (s n : Store)
    → changed s.objects id (with_value slot v) ≡ Ok (record { state = n.objects; answer = was })
    → n ≡ record s { objects = n.objects; counts = n.counts }
    → (may_hold_any s (named_by v) ≡ true
    → (o : ℕ) → count_of n.counts o ≡ count_of s.counts o + cond (strong_in weak slot (living s.objects id)) (in_value o v) 0
    - cond (strong_in weak slot (living s.objects id)) (in_value o was) 0)
    → (may_hold_any s (named_by v) ≡ false
    → (o : ℕ) → count_of n.counts o ≡ count_of s.counts o - cond (strong_in weak slot (living s.objects id)) (in_value o was) 0)
    → Writes weak id slot was v s n
writes weak id slot was v s n changes beside moves lets_go = record {
  objects = changes;
  beside = beside;
  counts = by (may_hold_any s (named_by v)) refl;
}
  where
    by : (may : Bool) → may_hold_any s (named_by v) ≡ may
        → (o : ℕ) → count_of n.counts o ≡ count_of s.counts o + newly_held s (strong_in weak slot (living s.objects id)) v o
        - cond (strong_in weak slot (living s.objects id)) (in_value o was) 0
    by true is o =
        moves is o
        ∙ ap (λ x. count_of s.counts o + x - cond (strong_in weak slot (living s.objects id)) (in_value o was) 0)
        (held_if (strong_in weak slot (living s.objects id)) (may_hold_any s (named_by v)) (in_value o v) is)
    by false is o =
        lets_go is o
        ∙ ap (λ x. x - cond (strong_in weak slot (living s.objects id)) (in_value o was) 0)
        (not_held_if (strong_in weak slot (living s.objects id)) (may_hold_any s (named_by v)) (count_of s.counts o) (in_value o v) is)
