-- How often a program's rest holds an object frozen, by the registers whose brackets are open.
use Rattle.std.proofs.Common.{◌≡◌, refl, ℕ, Bool, true, false, List, [], ◌∷◌, None, arith}
use Rattle.std.specs.Prelude.{nat_eq}
use Rattle.std.proofs.lemmas.Bool.{eq-eqb, or_left, or_right}
use Rattle.ui_machine.specs.Seq.{read, total}
use Rattle.ui_machine.specs.Definition.{Definition}
use Rattle.ui_machine.specs.Definition.Programs.{Instruction}
use Rattle.ui_machine.specs.Definition.Programs as words
use Rattle.ui_machine.specs.State.Tasks.{Frame, Running}
use Rattle.law_typing.specs.Rules.Brackets.{opened, is_among}
use Rattle.law_typing.specs.Good.Programs.{code_left}
use Rattle.law_typing.specs.Good.Freezes.{frozen_by}

pub total_same : {A : Type 0} (f g : A → ℕ) (xs : List A) → ((x : A) → f x ≡ g x) → total f xs ≡ total g xs
total_same f g [] same = refl
total_same f g (x ∷ xs) same = let h = same x in let rest = total_same f g xs same in omega (arith, h, rest)

-- a sum over registers is the same where what is added agrees on those of which brackets are open
among_same : (f g : ℕ → ℕ) (xs : List ℕ) → ((x : ℕ) → is_among xs x ≡ true → f x ≡ g x) → total f xs ≡ total g xs
among_same f g [] same = refl
among_same f g (x ∷ xs) same =
    let h = same x (or_left (nat_eq x x) (is_among xs x) (eq-eqb x x refl)) in
    let rest = among_same f g xs (λ y among. same y (or_right (nat_eq y x) (is_among xs y) among)) in
    omega (arith, h, rest)

-- whether an instruction opens or closes a bracket
abbrev pub is_bracket : Instruction → Bool
is_bracket (words.freeze r) = true
is_bracket (words.thaw r) = true
is_bracket _ = false

pub opened_past : (i : Instruction) (code : List Instruction) → is_bracket i ≡ false → opened (i ∷ code) ≡ opened code
opened_past (words.freeze r) code e = absurd (cc)
opened_past (words.thaw r) code e = absurd (cc)
opened_past _ code e = refl

-- frames of one program and block, where the same registers are open and hold the same
pub frozen_same : (d : Definition) (id : ℕ) (f g : Frame) → opened (code_left d g) ≡ opened (code_left d f) →
    ((r : ℕ) → is_among (opened (code_left d f)) r ≡ true → read None g.registers r ≡ read None f.registers r) →
    frozen_by d id (Running g) ≡ frozen_by d id (Running f)
frozen_same d id f g same hold =
    rw same (among_same _ _ (opened (code_left d f)) (λ r among. (let e = hold r among in rw e)))
