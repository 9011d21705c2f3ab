use Rattle.std.proofs.Common.{◌≡◌, ◌∙◌, ◌-◌, ◌^◌, ◌++◌, ℕ, List, [], ◌∷◌, Option, None, Some, map, option_map, refl, sym, ap}
use Rattle.std.specs.List.{filter, find}
use Rattle.ui_machine.specs.State.Bindings.{Binding, listens, transfers}
use Rattle.ui_machine.specs.State.Tasks.{PlanEntry}
use Rattle.bindings.specs.Due.{due_of, entry_of}
use Rattle.bindings.specs.Kept.{is_numbered}
use Rattle.bindings.specs.declared.due.DueTransfer.{DueTransfer}
use Rattle.bindings.proofs.Keeping.{find_false}
use Rattle.bindings.proofs.Stepping.{all_from_on, from_on, none_from, one_from, same_from}
use Rattle.bindings.proofs.rising.Rising.put_due.Goals as goal

-- what is found, where the transfer of it is there or is not
module _ {A B : Type 0} (f : A → B) where
  mapped_none : (o : Option A) → None ≡ option_map f o → o ≡ None
  mapped_none None e = refl
  mapped_none (Some x) e = absurd (cc)

  mapped_some : (o : Option A) (y : B) → Some y ≡ option_map f o → (x : A) × (o ≡ Some x) × (y ≡ f x)
  mapped_some None y e = absurd (cc)
  mapped_some (Some x) y e = (x, refl, cc)

entries_are : (o s : ℕ) (bs : List Binding) (rest : List DueTransfer) → map entry_of (map (due_of o s) (filter (listens o s) bs) ++ rest) ≡ transfers o s bs ++ map entry_of rest
entries_are o s bs rest = each (filter (listens o s) bs)
  where
    each : (these : List Binding) → map entry_of (map (due_of o s) these ++ rest) ≡ map (λ b. entry_of (due_of o s b)) these ++ map entry_of rest
    each [] = refl
    each (b ∷ these) = ap (λ (l : List PlanEntry). entry_of (due_of o s b) ∷ l) (each these)

pub bindings-init : goal.bindings-init
bindings-init c =
    sym (ap (λ (bs : List Binding). map (due_of c.args.object.0 c.args.slot) bs ++ c.args.due.now) (none_from (listens c.args.object.0 c.args.slot) c.args.self.now (2 ^ 64 - 1) c.len.ensures.rises))

pub bindings-preserved : goal.bindings-preserved
bindings-preserved c =
    let p = listens c.args.object.0 c.args.slot in
    let n = c.in-Some.number in
    let none = mapped_none (due_of c.args.object.0 c.args.slot) (find (is_numbered p n) c.args.self.now) (sym c.in_default-due_numbered.is ∙ c.due_numbered.ensures) in
    c.bindings.invariant
    ∙ sym (ap (λ (bs : List Binding). map (due_of c.args.object.0 c.args.slot) bs ++ c.args.due.now)
    (same_from p c.bindings.at n c.in-Some.ensures.0 c.args.self.now c.in-Some.ensures.1 (find_false (is_numbered p n) c.args.self.now none)))

pub bindings-preserved-in_ok-put_first : goal.bindings-preserved-in_ok-put_first
bindings-preserved-in_ok-put_first c =
    let p = listens c.args.object.0 c.args.slot in
    let n = c.in-Some.number in
    let found = mapped_some (due_of c.args.object.0 c.args.slot) (find (is_numbered p n) c.args.self.now) c.in-Some-due_numbered.transfer (sym c.in-Some-due_numbered.is ∙ c.due_numbered.ensures) in
    c.in_ok-put_first.ensures
    ∙ ap (λ (these : List DueTransfer). c.in-Some-due_numbered.transfer ∷ these) c.bindings.invariant
    ∙ ap (λ (t : DueTransfer). t ∷ map (due_of c.args.object.0 c.args.slot) (filter (from_on p c.bindings.at) c.args.self.now) ++ c.args.due.now) found.2
    ∙ sym (ap (λ (bs : List Binding). map (due_of c.args.object.0 c.args.slot) bs ++ c.args.due.now)
    (one_from p c.bindings.at n c.in-Some.ensures.0 found.0 0 c.args.self.now (2 ^ 64 - 1) c.len.ensures.rises c.in-Some.ensures.1 found.1))

pub returns : goal.returns
returns c =
    let p = listens c.args.object.0 c.args.slot in
    ap (map entry_of) (c.bindings.invariant
    ∙ ap (λ (bs : List Binding). map (due_of c.args.object.0 c.args.slot) bs ++ c.args.due.now) (all_from_on p c.bindings.at c.args.self.now c.in_default.ensures))
    ∙ entries_are c.args.object.0 c.args.slot c.args.self.now c.args.due.now
