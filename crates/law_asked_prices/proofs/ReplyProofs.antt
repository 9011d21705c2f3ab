-- The replies of a dispatch by the peers that give them.
use Rattle.std.proofs.Common.{◌≡◌, refl, sym, ap, subst, ◌∙◌, ℕ, zero, suc, ◌+◌, ◌<◌, ◌≤◌, Bool, true, false, cond, nat_eq, List, [], ◌∷◌, ◌++◌, length, Option, None, Some, slice_get, arith}
use Rattle.std.specs.Prelude.{◌&&◌, option_and_then, option_map}
use Rattle.std.proofs.lemmas.Bool.{eqb-true}
use Rattle.std.proofs.lemmas.List.{length-append}
use Rattle.std.proofs.lemmas.List.Elements.{filter-append}
use Rattle.ui_machine.specs.Seq.{total}
use Rattle.ui_machine.specs.Definition.{Definition}
use Rattle.ui_machine.specs.Definition.Signals.{Method}
use Rattle.ui_machine.specs.Rules.Construction.{nearest_shape}
use Rattle.ui_machine.specs.Runs.{Fits, Steps, listed, question_in}
use Rattle.ui_machine.specs.State.Config.{Config}
use Rattle.ui_machine.specs.State.Objects.{Object, class_in}
use Rattle.ui_machine.specs.State.Peers.{Question, Reply}
use Rattle.ui_machine.specs.State.References.{mentions, next_unheld}
use Rattle.ui_machine.specs.Steps.{asked_after, question}
use Rattle.law_typing.specs.Rules.Typing.{methods_of}
use Rattle.law_typing.specs.Verdict.Accepted.{Each}
use Rattle.law_typing.proofs.Lists.{both_parts, each_append}
use Rattle.law_steps.specs.Served.Sessions.{beginning_of}
use Rattle.law_peers.specs.Needs.{same_shape}
use Rattle.law_prices.specs.Calls.{called_shape, due_call, is_to, replies_to}
use Rattle.law_prices.specs.Deeds.{PriceList}
use Rattle.law_prices.specs.Deeds as deeds
use Rattle.law_prices.specs.Dispatches.{steps_price}
use Rattle.law_prices.specs.Prices.{shape_number}
use Rattle.law_prices.specs.Steps.{agenda_deeds, done_by, first_deeds, step_price}
use Rattle.law_prices.proofs.BoundProofs.{cost_is_within}
use Rattle.law_prices.proofs.CallProofs.{calls_are_within}
use Rattle.law_prices.proofs.DispatchPays.{first_fits}
use Rattle.law_held_peers.specs.Questions.{AsksByShape, IsOfShape}
use Rattle.law_asked_prices.specs.Replies.{EachIsGivenByShape, IsGivenByShape, OneShapeIsWithin, AlikePeersAreWithin, ShapesGiveAll, calls_by, has_just, replies_by, shapes_with}
use Rattle.law_asked_prices.proofs.AskedProofs.{asks_first, asks_later, dispatch_asks_by_shape}
use Rattle.law_asked_prices.proofs.SumProofs.{is_once, total_both, total_none, total_ones}

-- ** one question

-- the replies of one step to the method of the shape
abbrev here : Definition → (shape method : ℕ) → Config → Option Reply → List Reply
here d shape method c reply = cond (is_to d c.world shape method (due_call c.agenda)) (listed reply) []

-- whether a question is to a peer with just these methods, and to the one of this number
abbrev is_by : List Method → ℕ → Question → Bool
is_by methods method q = same_shape methods q.state.shape && nat_eq q.method method

module _ (d : Definition) (c : Config) (q : Question) (of : IsOfShape d c q) where
  -- the class of the called object, and so the shape
  class_is : class_in c.world.objects of.call.object ≡ Some of.object.class
  class_is = ap (λ (o : Option Object). option_map (λ (o : Object). o.class) o) of.lives

  shape_is : called_shape d c.world of.call ≡ of.shape
  shape_is =
      ap (λ class. shape_number d (option_and_then (nearest_shape d) class)) class_is
      ∙ ap (shape_number d) of.of_class

  -- whether its reply is one to the method of a shape
  test_is : (shape method : ℕ) → is_to d c.world shape method (due_call c.agenda) ≡ (nat_eq of.shape shape && nat_eq q.method method)
  test_is shape method =
      ap (λ tasks. is_to d c.world shape method (due_call tasks)) of.due
      ∙ (ap (λ s. nat_eq s shape && nat_eq of.call.method method) shape_is ∙ ap (λ m. nat_eq of.shape shape && nat_eq m method) (sym of.method))

  -- the peer has the methods of the shape
  has_is : (methods : List Method) → same_shape methods q.state.shape ≡ has_just d methods of.shape
  has_is methods = ap (same_shape methods) (of.shaped ∙ ap methods_of (sym of.is))

-- ** each reply

given_by : (d : Definition) (shape method : ℕ) (c : Config) (reply : Option Reply) → AsksByShape d c → question d c ≡ question_in reply →
    Each (IsGivenByShape d shape) (here d shape method c reply)
given_by d shape method c None asks e = none (is_to d c.world shape method (due_call c.agenda))
  where
    none : (b : Bool) → Each (IsGivenByShape d shape) (cond b [] [])
    none true = tt
    none false = tt
given_by d shape method c (Some r) asks e = by (is_to d c.world shape method (due_call c.agenda)) refl
  where
    of : IsOfShape d c r.question
    of = asks_first d c asks r.question e

    by : (b : Bool) → is_to d c.world shape method (due_call c.agenda) ≡ b → Each (IsGivenByShape d shape) (cond b (r ∷ []) [])
    by false is = tt
    by true is =
        let parts = both_parts (nat_eq of.shape shape) (nat_eq r.question.method method) (sym (test_is d c r.question of shape method) ∙ is) in
        let same = eqb-true of.shape shape parts.0 in
        (record { methods = of.methods; is = subst (λ n. slice_get d.shapes n ≡ Some of.methods) same of.is; shaped = of.shaped }, tt)

all_given_by : (d : Definition) (shape method n : ℕ) (replies : List Reply) → Each (Fits d) replies → (c e : Config) → AsksByShape d c → (s : Steps d n replies c e) →
    Each (IsGivenByShape d shape) (replies_to d shape method n replies c e s)
all_given_by d shape method zero replies fit c e asks s = tt
all_given_by d shape method (suc n) replies fit c e asks s =
    let both = first_fits d s.reply s.later (subst (Each (Fits d)) s.replied fit) in
    each_append (IsGivenByShape d shape) (here d shape method c s.reply) (replies_to d shape method n s.later s.mid e s.follows)
    (given_by d shape method c s.reply asks s.step.asks)
    (all_given_by d shape method n s.later both.1 s.mid e (asks_later d c s.mid s.reply both.0 s.step asks) s.follows)

pub each_is_given_by_shape : EachIsGivenByShape
each_is_given_by_shape d well a peers ready events read x replies fit n at s shape method =
    all_given_by d shape method n replies fit (beginning_of x) at (dispatch_asks_by_shape d well a peers ready events read x) s

-- ** how many there are

-- a number at which something is is below the length
below_length : {A : Type 0} (xs : List A) (i : ℕ) (x : A) → slice_get xs i ≡ Some x → i < length xs
below_length [] i x e = absurd (cc e)
below_length (y ∷ xs) zero x e = omega arith
below_length (y ∷ xs) (suc i) x e = let h = below_length xs i x e in omega (arith, h)

module _ (methods : List Method) (method : ℕ) where
  -- those of one step, and then of the later ones
  first_by : (reply : Option Reply) (later : List Reply) →
      length (replies_by methods method (listed reply ++ later)) ≡ length (replies_by methods method (listed reply)) + length (replies_by methods method later)
  first_by reply later =
      let split = ap length (filter-append (λ (r : Reply). is_by methods method r.question) (listed reply) later) in
      let both = length-append (replies_by methods method (listed reply)) (replies_by methods method later) in
      omega (arith, split, both)

  one_by : (r : Reply) → length (replies_by methods method (r ∷ [])) ≡ cond (is_by methods method r.question) 1 0
  one_by r = by (is_by methods method r.question)
    where
      by : (b : Bool) → length (cond b (r ∷ []) []) ≡ cond b 1 0
      by true = refl
      by false = refl

  module _ (d : Definition) where
    -- ** the sum over the shapes

    one_sum : (c : Config) (reply : Option Reply) → AsksByShape d c → question d c ≡ question_in reply →
        length (replies_by methods method (listed reply)) ≡ total (λ shape. length (here d shape method c reply)) (shapes_with d methods)
    one_sum c None asks e = sym (total_none Reply (λ shape. is_to d c.world shape method (due_call c.agenda)) (shapes_with d methods))
    one_sum c (Some r) asks e =
        let of = asks_first d c asks r.question e in
        let tests = same of (shapes_with d methods) in
        let ones = total_ones r of.shape (nat_eq r.question.method method) (shapes_with d methods) in
        let once = is_once (has_just d methods) of.shape (length d.shapes) (below_length d.shapes of.shape of.methods of.is) in
        let has = ap {B = ℕ} (λ b. cond (b && nat_eq r.question.method method) 1 0) (has_is d c r.question of methods) in
        let and = parts (has_just d methods of.shape) (nat_eq r.question.method method) in
        let counted = ap (λ m. cond (nat_eq r.question.method method) m 0) once in
        one_by r ∙ (has ∙ (and ∙ (sym counted ∙ (sym ones ∙ sym tests))))
      where
        same : (of : IsOfShape d c r.question) (ss : List ℕ) →
            total (λ shape. length (here d shape method c (Some r))) ss
            ≡ total (λ shape. length (cond (nat_eq of.shape shape && nat_eq r.question.method method) (r ∷ []) [])) ss
        same of [] = refl
        same of (shape ∷ ss) =
            let rest = same of ss in
            let first = ap (λ b. length (cond b (r ∷ []) [])) (test_is d c r.question of shape method) in
            omega (arith, rest, first)

        parts : (a b : Bool) → ◌≡◌ {A = ℕ} (cond (a && b) 1 0) (cond b (cond a 1 0) 0)
        parts true true = refl
        parts true false = refl
        parts false true = refl
        parts false false = refl

    all_sum : (n : ℕ) (replies : List Reply) → Each (Fits d) replies → (c e : Config) → AsksByShape d c → (s : Steps d n replies c e) →
        length (replies_by methods method replies) ≡ total (λ shape. length (replies_to d shape method n replies c e s)) (shapes_with d methods)
    all_sum zero replies fit c e asks s =
        ap (λ rs. length (replies_by methods method rs)) s.0 ∙ sym (total_none Reply (λ shape. true) (shapes_with d methods))
    all_sum (suc n) replies fit c e asks s =
        let both = first_fits d s.reply s.later (subst (Each (Fits d)) s.replied fit) in
        let is = ap (λ rs. length (replies_by methods method rs)) s.replied in
        let split = first_by s.reply s.later in
        let one = one_sum c s.reply asks s.step.asks in
        let rest = all_sum n s.later both.1 s.mid e (asks_later d c s.mid s.reply both.0 s.step asks) s.follows in
        let sums = total_both (λ shape. here d shape method c s.reply) (λ shape. replies_to d shape method n s.later s.mid e s.follows) (shapes_with d methods) in
        omega (arith, is, split, one, rest, sums)

    -- ** what they cost

    -- a step that asks finalises nothing
    none_unheld : (c : Config) (q : Question) → question d c ≡ Some q → next_unheld (mentions d c) c.world.objects ≡ None
    none_unheld c q e = by (next_unheld (mentions d c) c.world.objects) e
      where
        by : (o : Option ℕ) → asked_after c o ≡ Some q → o ≡ None
        by None e = refl
        by (Some id) e = absurd (cc e)

    one_price : (c : Config) (q : Question) → AsksByShape d c → question d c ≡ Some q → step_price d (calls_by d methods method) c ≡ cond (is_by methods method q) 1 0
    one_price c q asks e =
        let of = asks_first d c asks q e in
        let P = calls_by d methods method in
        let none : step_price d P c ≡ total P (agenda_deeds d c.world c.agenda) = ap (λ o. total P (first_deeds d c o)) (none_unheld c q e) in
        let due = ap (λ tasks. total P (agenda_deeds d c.world tasks)) of.due in
        let class = ap (λ class. total P (done_by (λ class. deeds.answer (shape_number d (nearest_shape d class)) of.call.method ∷ []) class)) (class_is d c q of) in
        let shape = ap {B = ℕ} (λ s. cond (has_just d methods (shape_number d s) && nat_eq of.call.method method) 1 0) of.of_class in
        let has = ap {B = ℕ} (λ b. cond (b && nat_eq of.call.method method) 1 0) (has_is d c q of methods) in
        let call = ap {B = ℕ} (λ m. cond (same_shape methods q.state.shape && nat_eq m method) 1 0) of.method in
        omega (arith, none, due, class, shape, has, call)

    one_paid : (c : Config) (reply : Option Reply) → AsksByShape d c → question d c ≡ question_in reply →
        length (replies_by methods method (listed reply)) ≤ step_price d (calls_by d methods method) c
    one_paid c None asks e = omega arith
    one_paid c (Some r) asks e =
        let price = one_price c r.question asks e in
        let one = one_by r in
        omega (arith, price, one)

    all_paid : (n : ℕ) (replies : List Reply) → Each (Fits d) replies → (c e : Config) → AsksByShape d c → (s : Steps d n replies c e) →
        length (replies_by methods method replies) ≤ steps_price d (calls_by d methods method) n replies c e s
    all_paid zero replies fit c e asks s = let none = ap (λ rs. length (replies_by methods method rs)) s.0 in omega (arith, none)
    all_paid (suc n) replies fit c e asks s =
        let both = first_fits d s.reply s.later (subst (Each (Fits d)) s.replied fit) in
        let is = ap (λ rs. length (replies_by methods method rs)) s.replied in
        let split = first_by s.reply s.later in
        let one = one_paid c s.reply asks s.step.asks in
        let rest = all_paid n s.later both.1 s.mid e (asks_later d c s.mid s.reply both.0 s.step asks) s.follows in
        omega (arith, is, split, one, rest)

pub shapes_give_all : ShapesGiveAll
shapes_give_all d well a peers ready events read x replies fit n at s methods method =
    all_sum methods method d n replies fit (beginning_of x) at (dispatch_asks_by_shape d well a peers ready events read x) s

pub alike_peers_are_within : AlikePeersAreWithin
alike_peers_are_within d well a peers ready events read x replies fit n at s methods method =
    let w = cost_is_within d well a peers ready events read x replies fit n at s (calls_by d methods method) in
    let within = w.within in
    let paid = all_paid methods method d n replies fit (beginning_of x) at (dispatch_asks_by_shape d well a peers ready events read x) s in
    record { most = w.most; is = w.is; within = omega (arith, within, paid) }

pub one_shape_is_within : OneShapeIsWithin
one_shape_is_within d well a peers ready events read x replies fit n at s methods method shape one =
    let w = calls_are_within d well a peers ready events read x replies fit n at s shape method in
    let within = w.within in
    let sum = shapes_give_all d well a peers ready events read x replies fit n at s methods method in
    let just = ap (λ ss. total (λ shape. length (replies_to d shape method n replies (beginning_of x) at s)) ss) one in
    record { most = w.most; is = w.is; within = omega (arith, within, sum, just) }
