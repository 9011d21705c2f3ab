use Rattle.std.proofs.Common.{◌≡◌, ℕ, Bool, true, false, cond, nat_eq, refl, arith}
use Rattle.ui_machine.specs.State.Bindings.{Binding}
use Rattle.ui_machine.proofs.Mapped.{mapped_written}
use Rattle.bindings.proofs.list.mark.Goals as goal
use Rattle.bindings.proofs.list.mark.Goals.{then-has_number, else-has_number}

abbrev marked : ℕ → Bool → Binding → Binding
marked number setting b = cond (nat_eq b.number number) (record b { busy = setting }) b

marked_one : (number : ℕ) (setting : Bool) (b : Binding) → nat_eq b.number number ≡ true → marked number setting b ≡ record b { busy = setting }
marked_one number setting b e = rw e refl

kept_one : (number : ℕ) (setting : Bool) (b : Binding) → nat_eq b.number number ≡ false → marked number setting b ≡ b
kept_one number setting b e = rw e refl

pub loop-one-preserved : goal.loop-one-preserved
loop-one-preserved c =
    elim c.if-has_number.branch [
      | then-has_number w ↦
          let e = marked_one c.args.number c.args.setting c.one-item.result (cc) in
          rw w.bound-is (mapped_written (marked c.args.number c.args.setting) c.args.bound.now c.loop-one.bound c.loop-one.one-index c.one-item.result w.mark.new.self (omega arith) c.loop-one.invariant c.one-item.is (cc))
      | else-has_number w ↦
          let e = kept_one c.args.number c.args.setting c.one-item.result (cc) in
          rw (w.bound-is, ← c.one-item.is) (mapped_written (marked c.args.number c.args.setting) c.args.bound.now c.loop-one.bound c.loop-one.one-index c.one-item.result c.one-item.result (omega arith) c.loop-one.invariant c.one-item.is e)
    ]
