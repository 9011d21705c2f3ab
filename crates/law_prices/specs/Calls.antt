-- The calls of a dispatch by shape and method: which replies of peers its steps take.
use Rattle.std.specs.Prelude.{◌≡◌, ℕ, zero, suc, Bool, false, cond, nat_eq, ◌&&◌, List, [], ◌∷◌, ◌++◌, length, Option, None, Some, option_and_then}
use Rattle.ui_machine.specs.Definition.{Definition}
use Rattle.ui_machine.specs.Rules.Construction.{nearest_shape}
use Rattle.ui_machine.specs.Runs.{Steps, listed}
use Rattle.ui_machine.specs.State.Config.{Config, World}
use Rattle.ui_machine.specs.State.Objects.{class_in}
use Rattle.ui_machine.specs.State.Peers.{Reply}
use Rattle.ui_machine.specs.State.Tasks.{Call, Calling, Task}
use Rattle.law_typing.specs.Laws.{IsIn}
use Rattle.law_typing.specs.Verdict.Accepted.{Each}
use Rattle.law_prices.specs.Bounds.{Within, most_price}
use Rattle.law_prices.specs.Dispatches.{OfDispatches}
use Rattle.law_prices.specs.Lists.{calls}
use Rattle.law_prices.specs.Prices.{shape_number}

-- the call that is due first, if one is
abbrev pub due_call : List Task → Option Call
due_call (Calling call ∷ rest) = Some call
due_call _ = None

-- the shape of the object that is called; the number after the last shape stands for none
abbrev pub called_shape : Definition → World → Call → ℕ
called_shape d w call = shape_number d (option_and_then (nearest_shape d) (class_in w.objects call.object))

-- whether there is a call, and it is to the method of the shape
abbrev pub is_to : Definition → World → (shape method : ℕ) → Option Call → Bool
is_to d w shape method None = false
is_to d w shape method (Some call) = nat_eq (called_shape d w call) shape && nat_eq call.method method

-- the replies that some steps take to calls of the method of the shape
abbrev pub replies_to : (d : Definition) → (shape method n : ℕ) (replies : List Reply) (c e : Config) → Steps d n replies c e → List Reply
replies_to d shape method zero replies c e s = []
replies_to d shape method (suc n) replies c e s =
    cond (is_to d c.world shape method (due_call c.agenda)) (listed s.reply) [] ++ replies_to d shape method n s.later s.mid e s.follows

-- a dispatch takes no more replies to a method of a shape than its bound by the list of these calls says
abbrev pub CallsAreWithin : Type 0
CallsAreWithin =
    OfDispatches
    (λ d e n replies c at s. (shape method : ℕ) → Within d (calls shape method) e (length (replies_to d shape method n replies c at s)))

-- where the bound is 0 it takes none
abbrev pub ZeroIsNoCall : Type 0
ZeroIsNoCall =
    OfDispatches
    (λ d e n replies c at s. (shape method : ℕ) → most_price d (calls shape method) e ≡ Some 0 → replies_to d shape method n replies c at s ≡ [])

-- no reply is left out: each that some steps take is one to the method that its peer was asked for, of some shape
abbrev pub EachIsToOne : Type 0
EachIsToOne =
    (d : Definition) (n : ℕ) (replies : List Reply) (c e : Config) (s : Steps d n replies c e) (r : Reply) → IsIn r replies →
    (shape : ℕ) × IsIn r (replies_to d shape r.question.method n replies c e s)

-- and in those to a method each peer was asked for it
abbrev pub EachIsAskedFor : Type 0
EachIsAskedFor =
    (d : Definition) (shape method n : ℕ) (replies : List Reply) (c e : Config) (s : Steps d n replies c e) →
    Each (λ (r : Reply). r.question.method ≡ method) (replies_to d shape method n replies c e s)
