-- A dispatch takes no more replies to a method of a shape than its bound says.
use Rattle.std.proofs.Common.{◌≡◌, inl, inr, refl, sym, ap, subst, ◌∙◌, ℕ, zero, suc, ◌+◌, ◌≤◌, Bool, true, false, cond, nat_eq, List, [], ◌∷◌, ◌++◌, length, Option, None, Some, arith}
use Rattle.std.specs.Prelude.{◌&&◌, option_and_then}
use Rattle.std.proofs.lemmas.Bool.{and_from, eq-eqb, eqb-true}
use Rattle.ui_machine.specs.Seq.{total}
use Rattle.ui_machine.specs.Definition.{Definition}
use Rattle.ui_machine.specs.Instructions.Peers.{question_of}
use Rattle.ui_machine.specs.Rules.Construction.{nearest_shape}
use Rattle.ui_machine.specs.Runs.{Fits, Steps, listed, question_in}
use Rattle.ui_machine.specs.State.Config.{Config, World, is_asked, peer_state}
use Rattle.ui_machine.specs.State.Objects.{class_in}
use Rattle.ui_machine.specs.State.Peers.{Question, Reply}
use Rattle.ui_machine.specs.State.References.{mentions, next_unheld}
use Rattle.ui_machine.specs.State.Tasks.{Answering, Beginning, Building, Call, Calling, Constructing, Due, Emitting, Handling, Notifying, Running, Setting, Task, Thawing, Transferring, Unsetting}
use Rattle.ui_machine.specs.Steps.{asked_after, asked_first, most_steps, question}
use Rattle.law_typing.specs.Laws.{IsIn}
use Rattle.law_typing.specs.Laws.StepsKeepGood.{IsGood}
use Rattle.law_typing.specs.Laws.WellRead.{WellRead}
use Rattle.law_typing.specs.Verdict.Accepted.{Accepted, Each}
use Rattle.law_typing.proofs.EdgeProofs.{append_left, append_right}
use Rattle.law_typing.proofs.Lists.{both_parts, each_append}
use Rattle.law_steps.specs.Served.Sessions.{beginning_of}
use Rattle.law_steps.proofs.Served.DispatchProofs.{one_step}
use Rattle.law_steps.proofs.Tasked.StepsProofs.{steps_keep_good}
use Rattle.law_prices.specs.Calls.{CallsAreWithin, EachIsAskedFor, EachIsToOne, ZeroIsNoCall, called_shape, due_call, is_to, replies_to}
use Rattle.law_prices.specs.Deeds as deeds
use Rattle.law_prices.specs.Dispatches.{steps_price}
use Rattle.law_prices.specs.Lists.{calls}
use Rattle.law_prices.specs.Prices.{shape_number}
use Rattle.law_prices.specs.Steps.{agenda_deeds, first_deeds, step_price}
use Rattle.law_prices.proofs.BoundProofs.{within, zero_bound}
use Rattle.law_prices.proofs.CountProofs.{class_found}
use Rattle.law_prices.proofs.DispatchPays.{begins_at, dispatches_pay, first_fits}
use Rattle.law_prices.proofs.TaskFalls.{done_is}

-- ** what is asked

-- the first task asks this by a call of the method
record Asks (tasks : List Task) (q : Question) : Type 0 where
  pub call : Call
  pub rest : List Task
  pub is : tasks ≡ Calling call ∷ rest
  pub method : q.method ≡ call.method

-- a call asks by its method
asks_call : (w : World) (call : Call) (rest : List Task) (q : Question) → question_of w call ≡ Some q → Asks (Calling call ∷ rest) q
asks_call w call rest q e = record { call = call; rest = rest; is = refl; method = by (is_asked w call.peer) e }
  where
    asked : Question
    asked = record { peer = call.peer; state = peer_state w call.peer; method = call.method; args = call.args }

    by : (b : Bool) → cond b (Some asked) None ≡ Some q → q.method ≡ call.method
    by true e = let same : asked ≡ q = cc in sym (ap (λ (q : Question). q.method) same)
    by false e = absurd (cc)

-- and no other task asks
asks_first : (w : World) (tasks : List Task) (q : Question) → asked_first w tasks ≡ Some q → Asks tasks q
asks_first w (Calling call ∷ rest) q e = asks_call w call rest q e
asks_first w [] q e = absurd (cc)
asks_first w (Setting id slot v ∷ rest) q e = absurd (cc)
asks_first w (Notifying id slot ∷ rest) q e = absurd (cc)
asks_first w (Beginning em ∷ rest) q e = absurd (cc)
asks_first w (Emitting em entries ∷ rest) q e = absurd (cc)
asks_first w (Transferring number back ∷ rest) q e = absurd (cc)
asks_first w (Unsetting number ∷ rest) q e = absurd (cc)
asks_first w (Thawing id slots ∷ rest) q e = absurd (cc)
asks_first w (Running f ∷ rest) q e = absurd (cc)
asks_first w (Answering source ∷ rest) q e = absurd (cc)
asks_first w (Constructing id steps held ∷ rest) q e = absurd (cc)
asks_first w (Building items ∷ rest) q e = absurd (cc)
asks_first w (Handling request ∷ rest) q e = absurd (cc)
asks_first w (Due source ∷ rest) q e = absurd (cc)

-- what a step asks is asked by its first task, and nothing is finalised
asks : (d : Definition) (c : Config) (q : Question) → question d c ≡ Some q → (next_unheld (mentions d c) c.world.objects ≡ None) × Asks c.agenda q
asks d c q e = by (next_unheld (mentions d c) c.world.objects) refl
  where
    by : (o : Option ℕ) → next_unheld (mentions d c) c.world.objects ≡ o → (o ≡ None) × Asks c.agenda q
    by None is = (refl, asks_first c.world c.agenda q (ap (asked_after c) (sym is) ∙ e))
    by (Some id) is = absurd (let f = ap (asked_after c) (sym is) ∙ e in cc)

-- ** each reply is to one method

-- the replies of one step to the method of the shape
abbrev here : Definition → (shape method : ℕ) → Config → Option Reply → List Reply
here d shape method c reply = cond (is_to d c.world shape method (due_call c.agenda)) (listed reply) []

-- a reply that a step takes is to the call that is due first
here_is : (d : Definition) (c : Config) (r : Reply) → question d c ≡ Some r.question → (shape : ℕ) × IsIn r (here d shape r.question.method c (Some r))
here_is d c r e =
    let a = (asks d c r.question e).1 in
    let shape = called_shape d c.world a.call in
    let test : is_to d c.world shape r.question.method (due_call c.agenda) ≡ true =
    ap (λ tasks. is_to d c.world shape r.question.method (due_call tasks)) a.is
    ∙ and_from (nat_eq shape shape) (nat_eq a.call.method r.question.method) (eq-eqb shape shape refl) (eq-eqb a.call.method r.question.method (sym a.method)) in
    (shape, subst (λ b. IsIn r (cond b (r ∷ []) [])) (sym test) (inl refl))

-- so each reply is to one method of one shape
pub each_is_to_one : EachIsToOne
each_is_to_one d zero replies c e s r there = absurd (subst (IsIn r) s.0 there)
each_is_to_one d (suc n) replies c e s r there = by (each_is_to_one d n s.later s.mid e s.follows r) s.reply s.step.asks (subst (IsIn r) s.replied there)
  where
    Found : Option Reply → Type 0
    Found reply = (shape : ℕ) × IsIn r (here d shape r.question.method c reply ++ replies_to d shape r.question.method n s.later s.mid e s.follows)

    Later : Type 0
    Later = IsIn r s.later → (shape : ℕ) × IsIn r (replies_to d shape r.question.method n s.later s.mid e s.follows)

    later : Later → (reply : Option Reply) → IsIn r s.later → Found reply
    later more reply h =
        let f = more h in
        (f.0, append_right (here d f.0 r.question.method c reply) (replies_to d f.0 r.question.method n s.later s.mid e s.follows) r f.1)

    by : Later → (reply : Option Reply) → question d c ≡ question_in reply → IsIn r (listed reply ++ s.later) → Found reply
    by more None asks h = later more None h
    by more (Some first) asks (inr h) = later more (Some first) h
    by more (Some first) asks (inl same) =
        let asked = asks ∙ ap (λ (r : Reply). Some r.question) (sym same) in
        let f = here_is d c r asked in
        let there = append_left (here d f.0 r.question.method c (Some r)) (replies_to d f.0 r.question.method n s.later s.mid e s.follows) r f.1 in
        (f.0, subst (λ (x : Reply). IsIn r (here d f.0 r.question.method c (Some x) ++ replies_to d f.0 r.question.method n s.later s.mid e s.follows)) same there)

-- and the peer was asked for that method
pub each_is_asked_for : EachIsAskedFor
each_is_asked_for d shape method zero replies c e s = tt
each_is_asked_for d shape method (suc n) replies c e s =
    each_append (λ (r : Reply). r.question.method ≡ method) (here d shape method c s.reply) (replies_to d shape method n s.later s.mid e s.follows)
    (one s.reply s.step.asks) (each_is_asked_for d shape method n s.later s.mid e s.follows)
  where
    Asked : List Reply → Type 0
    Asked rs = Each (λ (r : Reply). r.question.method ≡ method) rs

    by : (r : Reply) → Asks c.agenda r.question → (b : Bool) → is_to d c.world shape method (due_call c.agenda) ≡ b → Asked (cond b (r ∷ []) [])
    by r a false is = tt
    by r a true is =
        let test = ap (λ tasks. is_to d c.world shape method (due_call tasks)) (sym a.is) ∙ is in
        let same = eqb-true a.call.method method (both_parts (nat_eq (called_shape d c.world a.call) shape) (nat_eq a.call.method method) test).1 in
        (a.method ∙ same, tt)

    none : (b : Bool) → Asked (cond b [] [])
    none true = tt
    none false = tt

    one : (reply : Option Reply) → question d c ≡ question_in reply → Asked (here d shape method c reply)
    one None e = none (is_to d c.world shape method (due_call c.agenda))
    one (Some r) e = by r (asks d c r.question e).1 (is_to d c.world shape method (due_call c.agenda)) refl

-- ** no more than is paid for

-- no reply is none
none_long : (b : Bool) (m : ℕ) → length (cond {A = List Reply} b [] []) ≤ m
none_long true m = omega arith
none_long false m = omega arith

-- one reply is one
one_long : (b : Bool) (r : Reply) → length (cond b (r ∷ []) []) ≤ cond b 1 0
one_long true r = omega arith
one_long false r = omega arith

-- two lists are as long as both
length_both : (xs ys : List Reply) → length (xs ++ ys) ≡ length xs + length ys
length_both [] ys = omega arith
length_both (x ∷ xs) ys = let h = length_both xs ys in omega (arith, h)

module _ (d : Definition) (a : Accepted d) (most shape method : ℕ) where
  -- a call is paid for by its deed
  call_paid : (w : World) (call : Call) (rest : List Task) (n : ℕ) → IsGood d a most (record { world = w; agenda = Calling call ∷ rest; counted = n }) → (r : Reply) →
      length (cond (is_to d w shape method (Some call)) (r ∷ []) []) ≤ total (calls shape method) (agenda_deeds d w (Calling call ∷ rest))
  call_paid w call rest n g r =
      let class = class_found w call.object g.agenda.3.1.lives in
      let is = done_is d (calls shape method) a.weighed.costs (λ class. deeds.answer (shape_number d (nearest_shape d class)) call.method ∷ []) (class_in w.objects call.object) class.0 class.1 in
      let test = ap (λ o. length (cond (nat_eq (shape_number d (option_and_then (nearest_shape d) o)) shape && nat_eq call.method method) (r ∷ []) [])) class.1 in
      let few = one_long (nat_eq (shape_number d (nearest_shape d class.0)) shape && nat_eq call.method method) r in
      omega (arith, is, test, few)

  -- so is the reply that a step takes
  step_paid : (c : Config) → IsGood d a most c → (reply : Option Reply) → question d c ≡ question_in reply → length (here d shape method c reply) ≤ step_price d (calls shape method) c
  step_paid c g None e = none_long (is_to d c.world shape method (due_call c.agenda)) (step_price d (calls shape method) c)
  step_paid c g (Some r) e =
      let x = asks d c r.question e in
      let first = ap (λ o. total (calls shape method) (first_deeds d c o)) x.0 in
      let good = subst (λ (tasks : List Task). IsGood d a most (record { world = c.world; agenda = tasks; counted = c.counted })) x.1.is g in
      let paid =
      subst (λ (tasks : List Task). length (cond (is_to d c.world shape method (due_call tasks)) (r ∷ []) []) ≤ total (calls shape method) (agenda_deeds d c.world tasks))
      (sym x.1.is) (call_paid c.world x.1.call x.1.rest c.counted good r) in
      omega (arith, first, paid)

  module _ (well : WellRead d) (few : most ≤ most_steps) where
    -- so are those of some steps
    all_paid : (n : ℕ) (replies : List Reply) → Each (Fits d) replies → (c e : Config) → IsGood d a most c → (s : Steps d n replies c e) →
        length (replies_to d shape method n replies c e s) ≤ steps_price d (calls shape method) n replies c e s
    all_paid zero replies fit c e good s = omega arith
    all_paid (suc n) replies fit c e good s =
        let both = first_fits d s.reply s.later (subst (Each (Fits d)) s.replied fit) in
        let next = one_step steps_keep_good d well a most few c s.mid good s.reply both.0 s.step in
        let one = step_paid c good s.reply s.step.asks in
        let rest = all_paid n s.later both.1 s.mid e next s.follows in
        let split = length_both (here d shape method c s.reply) (replies_to d shape method n s.later s.mid e s.follows) in
        omega (arith, one, rest, split)

pub calls_are_within : CallsAreWithin
calls_are_within d well a peers ready events read x replies fit n at s shape method =
    within d a (calls shape method) _ _
    (λ t solves.
    let b = begins_at d well a (calls shape method) t solves peers ready events read x in
    let pays = dispatches_pay d well a peers ready events read x replies fit n at s (calls shape method) t solves in
    let low = all_paid d a b.most shape method well b.few n replies fit (beginning_of x) at b.good s in
    omega (arith, pays, low))

-- a list of no length is empty
empty_is : (rs : List Reply) → length rs ≤ 0 → rs ≡ []
empty_is [] h = refl
empty_is (r ∷ rs) h = absurd (omega (arith, h))

pub zero_is_no_call : ZeroIsNoCall
zero_is_no_call d well a peers ready events read x replies fit n at s shape method none =
    empty_is _ (zero_bound d a (calls shape method) _ _ none (calls_are_within d well a peers ready events read x replies fit n at s shape method))
