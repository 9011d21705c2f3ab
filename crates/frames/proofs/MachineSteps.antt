-- What the machine's instructions on registers lead to, by what their registers hold.
use Rattle.std.proofs.Common.{◌≡◌, ℕ, ℤ, Bool, true, false, cond, not, ◌&&◌, ◌||◌, ◌++◌, List, Option, None, Some, option_map, Err, refl, ap, ◌∙◌}
use Rattle.ui_machine.specs.Seq.{read}
use Rattle.ui_machine.specs.Outcome.{◌>>=◌, Answer, known, only_if}
use Rattle.ui_machine.specs.declared.arm.Arm.TheVariants as arms
use Rattle.ui_machine.specs.Definition.{Definition}
use Rattle.ui_machine.specs.Definition.Kinds.{Kind, Whole}
use Rattle.ui_machine.specs.Definition.Programs.{Arithmetic, Comparison}
use Rattle.ui_machine.specs.Definition.Values as values
use Rattle.ui_machine.specs.State.Config.{Started, World}
use Rattle.ui_machine.specs.State.Tasks.{Frame}
use Rattle.ui_machine.specs.Rules.Accumulation.{or_zero}
use Rattle.ui_machine.specs.Rules.Sets.{has_kind}
use Rattle.ui_machine.specs.Rules.Transform.{same_value, same_whole, transformed, wrapped, zero_value}
use Rattle.ui_machine.specs.Instructions.Arithmetic.{reckoned, holds, of_one_kind, reckoning, comparing, sameness, negating, conjunction, disjunction, joining, converting, kind_of, gives_from, within_bytes, bytes_of}
use Rattle.ui_machine.specs.Instructions.Registers.{gives, moving, value_in, whole_in}
use Rattle.ui_machine.specs.Instructions.Registers as machine
use Rattle.g_values.specs.Arithmetic.{Pair, pair_of, calculated, compared}
use Rattle.frames.specs.Computing.{convertible_in, converted_or_zero, joined_in, may_convert, of_one, of_two, sameness_of, text_of, truth_in, truth_of, value_or}

-- what is given where something is there, and the arm of registers where nothing is
abbrev pub given : {X : Type 0} → (X → Answer Started) → Option X → Answer Started
given gives_it None = Err arms.Register
given gives_it (Some x) = gives_it x

module _ (w : World) (f : Frame) (to : ℕ) where
  -- ** two numbers

  abbrev numbers : (Whole → ℤ → ℤ → values.Value) → Option values.Value → Option values.Value → Answer Started
  numbers made x y =
      (known arms.Register x >>= machine.whole_of) >>= (λ m. (known arms.Register y >>= machine.whole_of) >>= (λ n.
      of_one_kind m n (λ kind p q. gives w to (made kind p q) f)))

  abbrev made_of : (Whole → ℤ → ℤ → values.Value) → values.Value → values.Value → Option values.Value
  made_of made u v = option_map (λ (p : Pair). made p.kind p.left p.right) (pair_of u v)

  numbers_given : (made : Whole → ℤ → ℤ → values.Value) (x y : Option values.Value)
      → numbers made x y ≡ given (λ v. gives w to v f) (of_two (made_of made) x y)
  numbers_given made None y = refl
  numbers_given made (Some (values.bool b)) None = refl
  numbers_given made (Some (values.whole k m)) None = refl
  numbers_given made (Some (values.text s)) None = refl
  numbers_given made (Some (values.enum t m)) None = refl
  numbers_given made (Some (values.flags t m)) None = refl
  numbers_given made (Some (values.object o)) None = refl
  numbers_given made (Some (values.bool b)) (Some v) = refl
  numbers_given made (Some (values.text s)) (Some v) = refl
  numbers_given made (Some (values.enum t m)) (Some v) = refl
  numbers_given made (Some (values.flags t m)) (Some v) = refl
  numbers_given made (Some (values.object o)) (Some v) = refl
  numbers_given made (Some (values.whole k m)) (Some (values.bool b)) = refl
  numbers_given made (Some (values.whole k m)) (Some (values.text s)) = refl
  numbers_given made (Some (values.whole k m)) (Some (values.enum t n)) = refl
  numbers_given made (Some (values.whole k m)) (Some (values.flags t n)) = refl
  numbers_given made (Some (values.whole k m)) (Some (values.object o)) = refl
  numbers_given made (Some (values.whole k m)) (Some (values.whole l n)) = by (same_whole k l)
    where
      by : (b : Bool) → only_if b arms.Register (gives w to (made k m n) f)
          ≡ given (λ v. gives w to v f) (option_map (λ (p : Pair). made p.kind p.left p.right)
          (cond b (Some (record { kind = k; left = m; right = n })) None))
      by true = refl
      by false = refl

  pub reckons : (operation : Arithmetic) (a b : ℕ) → reckoning w f operation to a b
      ≡ given (λ v. gives w to v f) (of_two (calculated operation) (read None f.registers a) (read None f.registers b))
  unfolding reckoning whole_in
  reckons operation a b =
      numbers_given (λ kind p q. values.whole kind (wrapped kind (reckoned operation p q))) (read None f.registers a) (read None f.registers b)

  -- ** truth values

  abbrev truth : Bool → values.Value
  truth b = values.bool b

  compared_pair : (comparison : Comparison) (o : Option Pair)
      → option_map (λ (p : Pair). truth (holds comparison p.left p.right)) o ≡ option_map truth (option_map (λ (p : Pair). holds comparison p.left p.right) o)
  compared_pair comparison None = refl
  compared_pair comparison (Some p) = refl

  compared_two : (comparison : Comparison) (x y : Option values.Value)
      → of_two (made_of (λ kind p q. truth (holds comparison p q))) x y ≡ option_map truth (of_two (compared comparison) x y)
  compared_two comparison None y = refl
  compared_two comparison (Some u) None = refl
  compared_two comparison (Some u) (Some v) = compared_pair comparison (pair_of u v)

  pub compares : (comparison : Comparison) (a b : ℕ) → comparing w f comparison to a b
      ≡ given (λ v. gives w to v f) (option_map truth (of_two (compared comparison) (read None f.registers a) (read None f.registers b)))
  unfolding comparing whole_in
  compares comparison a b =
      numbers_given (λ kind p q. truth (holds comparison p q)) (read None f.registers a) (read None f.registers b)
      ∙ ap (given (λ v. gives w to v f)) (compared_two comparison (read None f.registers a) (read None f.registers b))

  abbrev sameness_from : Option values.Value → Option values.Value → Answer Started
  sameness_from x y = known arms.Register x >>= (λ u. known arms.Register y >>= (λ v.
      only_if (has_kind v (kind_of u)) arms.Register (gives w to (truth (same_value u v)) f)))

  sameness_given : (x y : Option values.Value) → sameness_from x y ≡ given (λ v. gives w to v f) (option_map truth (of_two sameness_of x y))
  sameness_given None y = refl
  sameness_given (Some u) None = refl
  sameness_given (Some u) (Some v) = by (has_kind v (kind_of u))
    where
      by : (b : Bool) → only_if b arms.Register (gives w to (truth (same_value u v)) f)
          ≡ given (λ v. gives w to v f) (option_map truth (cond b (Some (same_value u v)) None))
      by true = refl
      by false = refl

  pub is_sameness : (a b : ℕ) → sameness w f to a b
      ≡ given (λ v. gives w to v f) (option_map truth (of_two sameness_of (read None f.registers a) (read None f.registers b)))
  unfolding sameness
  is_sameness a b = sameness_given (read None f.registers a) (read None f.registers b)

  abbrev truth_from : Option values.Value → Answer Bool
  truth_from x = known arms.Register x >>= machine.truth_of

  negated_given : (x : Option values.Value) → (truth_from x >>= (λ p. gives w to (truth (not p)) f))
      ≡ given (λ v. gives w to v f) (option_map truth (option_map not (of_one truth_of x)))
  negated_given None = refl
  negated_given (Some (values.bool b)) = refl
  negated_given (Some (values.whole k m)) = refl
  negated_given (Some (values.text s)) = refl
  negated_given (Some (values.enum t m)) = refl
  negated_given (Some (values.flags t m)) = refl
  negated_given (Some (values.object o)) = refl

  pub negates : (a : ℕ) → negating w f to a
      ≡ given (λ v. gives w to v f) (option_map truth (option_map not (truth_in f.registers a)))
  unfolding negating machine.truth_in
  negates a = negated_given (read None f.registers a)

  truth_is : (x : Option values.Value) → truth_from x ≡ known arms.Register (of_one truth_of x)
  truth_is None = refl
  truth_is (Some (values.bool b)) = refl
  truth_is (Some (values.whole k m)) = refl
  truth_is (Some (values.text s)) = refl
  truth_is (Some (values.enum t m)) = refl
  truth_is (Some (values.flags t m)) = refl
  truth_is (Some (values.object o)) = refl

  module _ (operation : Bool → Bool → Bool) where
    abbrev truths_from : Answer Bool → Answer Bool → Answer Started
    truths_from x y = x >>= (λ p. y >>= (λ q. gives w to (truth (operation p q)) f))

    of_truths : (p q : Option Bool) → truths_from (known arms.Register p) (known arms.Register q)
        ≡ given (λ v. gives w to v f) (option_map truth (of_two (λ p q. Some (operation p q)) p q))
    of_truths None q = refl
    of_truths (Some p) None = refl
    of_truths (Some p) (Some q) = refl

    truths_given : (x y : Option values.Value) → truths_from (truth_from x) (truth_from y)
        ≡ given (λ v. gives w to v f) (option_map truth (of_two (λ p q. Some (operation p q)) (of_one truth_of x) (of_one truth_of y)))
    truths_given x y =
        ap (λ p. truths_from p (truth_from y)) (truth_is x) ∙ ap (truths_from (known arms.Register (of_one truth_of x))) (truth_is y)
        ∙ of_truths (of_one truth_of x) (of_one truth_of y)

  pub is_conjunction : (a b : ℕ) → conjunction w f to a b ≡ given (λ v. gives w to v f) (option_map truth
      (of_two (λ p q. Some (p && q)) (truth_in f.registers a) (truth_in f.registers b)))
  unfolding conjunction machine.truth_in
  is_conjunction a b = truths_given (λ p q. p && q) (read None f.registers a) (read None f.registers b)

  pub is_disjunction : (a b : ℕ) → disjunction w f to a b ≡ given (λ v. gives w to v f) (option_map truth
      (of_two (λ p q. Some (p || q)) (truth_in f.registers a) (truth_in f.registers b)))
  unfolding disjunction machine.truth_in
  is_disjunction a b = truths_given (λ p q. p || q) (read None f.registers a) (read None f.registers b)

  -- ** moves, texts and conversions

  moved_given : (x : Option values.Value) → (known arms.Register x >>= (λ v. gives w to v f)) ≡ given (λ v. gives w to v f) x
  moved_given None = refl
  moved_given (Some v) = refl

  pub moves : (a : ℕ) → moving w f to a ≡ given (λ v. gives w to v f) (read None f.registers a)
  unfolding moving
  moves a = moved_given (read None f.registers a)

  module _ (d : Definition) where
    abbrev text_from : Option values.Value → Answer (Option (List ℕ))
    text_from x = known arms.Register x >>= machine.text_of

    abbrev joined_from : Option values.Value → Option values.Value → Answer Started
    joined_from x y = text_from x >>= (λ s. text_from y >>= (λ t. gives_from (within_bytes d w (bytes_of s ++ bytes_of t)) to f))

    joined_given : (x y : Option values.Value) → joined_from x y
        ≡ given (λ s. gives_from (within_bytes d w s) to f) (of_two (λ s t. Some (s ++ t)) (of_one text_of x) (of_one text_of y))
    joined_given None y = refl
    joined_given (Some (values.bool b)) y = refl
    joined_given (Some (values.whole k m)) y = refl
    joined_given (Some (values.enum t m)) y = refl
    joined_given (Some (values.flags t m)) y = refl
    joined_given (Some (values.object o)) y = refl
    joined_given (Some (values.text s)) None = refl
    joined_given (Some (values.text s)) (Some (values.bool b)) = refl
    joined_given (Some (values.text s)) (Some (values.whole k m)) = refl
    joined_given (Some (values.text s)) (Some (values.text t)) = refl
    joined_given (Some (values.text s)) (Some (values.enum t m)) = refl
    joined_given (Some (values.text s)) (Some (values.flags t m)) = refl
    joined_given (Some (values.text s)) (Some (values.object o)) = refl

    pub joins : (a b : ℕ) → joining d w f to a b ≡ given (λ s. gives_from (within_bytes d w s) to f) (joined_in f.registers a b)
    unfolding joining machine.text_in
    joins a b = joined_given (read None f.registers a) (read None f.registers b)

    or_zero-is : (kind : Kind) (o : Option values.Value) → or_zero d kind o ≡ value_or (zero_value d.types kind) o
    or_zero-is kind None = refl
    or_zero-is kind (Some v) = refl

    abbrev converted_from : Kind → Option values.Value → Answer Started
    converted_from kind x = known arms.Register x >>= (λ v.
        only_if (may_convert d.types v kind) arms.Register (gives w to (or_zero d kind (transformed d.types (kind_of v) kind v)) f))

    converted_given : (kind : Kind) (x : Option values.Value) → converted_from kind x ≡ given (λ v. gives w to v f) (convertible_in d.types kind x)
    converted_given kind None = refl
    converted_given kind (Some v) =
        ap (λ z. only_if (may_convert d.types v kind) arms.Register (gives w to z f)) (or_zero-is kind (transformed d.types (kind_of v) kind v))
        ∙ by (may_convert d.types v kind)
      where
        by : (b : Bool) → only_if b arms.Register (gives w to (converted_or_zero d.types v kind) f)
            ≡ given (λ v. gives w to v f) (cond b (Some (converted_or_zero d.types v kind)) None)
        by true = refl
        by false = refl

    pub converts : (a : ℕ) (kind : Kind) → converting d w f to a kind ≡ given (λ v. gives w to v f) (convertible_in d.types kind (read None f.registers a))
    unfolding converting
    converts a kind = converted_given kind (read None f.registers a)
