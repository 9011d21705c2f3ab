-- What the instruction `call` finds, and what it leads to.
use Rattle.std.proofs.Common.{◌≡◌, ◌∙◌, refl, sym, ap, ℕ, Bool, true, false, length, nat_lt, List, [], ◌∷◌, Option, None, Some, IsSome, Ok, Err, slice_get, option_and_then}
use Rattle.ui_machine.specs.declared.arm.Arm.TheVariants as arms
use Rattle.ui_machine.specs.Definition.{Definition}
use Rattle.ui_machine.specs.Definition.Names.{place_named}
use Rattle.ui_machine.specs.Definition.Signals.{Method}
use Rattle.ui_machine.specs.Definition.Values.{Value}
use Rattle.ui_machine.specs.Instructions.{in_front}
use Rattle.ui_machine.specs.Instructions.Peers.{calling}
use Rattle.ui_machine.specs.Instructions.Registers.{goes_on, operand_in, values_in}
use Rattle.ui_machine.specs.Outcome.{Answer, known, only_if, ◌>>=◌}
use Rattle.ui_machine.specs.Rules.Construction.{nearest_shape}
use Rattle.ui_machine.specs.Rules.Disposal.{peer_of}
use Rattle.ui_machine.specs.Rules.Programs.{all_fit}
use Rattle.ui_machine.specs.Rules.Transform.{kind_fits}
use Rattle.ui_machine.specs.State.Config.{Started, World, peer_at}
use Rattle.ui_machine.specs.State.Objects.{Object, Objects, asked, class_in, living, object_at}
use Rattle.ui_machine.specs.State.Peers.{Peer, method_number, method_of}
use Rattle.ui_machine.specs.State.Tasks.{Call, Calling, Frame, Task}
use Rattle.ui_machine.specs.Steps.{left}
use Rattle.law_typing.specs.Good.Meanings.{KeepsMeanings, class_methods, shape_methods}
use Rattle.engine_instructions.specs.CallingView.{Called, called_in, due_call}
use Rattle.engine_world.specs.Able.{Able}
use Rattle.engine_world.proofs.Ableness.{able_as, first, instructed, past, past_test}
use Rattle.engine_instructions.proofs.Tested.{passes}

-- ** the method

module _ (w : World) (id : ℕ) (name : List ℕ) (live : IsSome (living w.objects id)) where
  abbrev with_number : ℕ → Peer → ℕ → Answer Called
  with_number peer p number = known arms.Call (method_of p number) >>= λ (m : Method). Ok (record { peer = peer; number = number; method = m })

  abbrev with_peer : ℕ → Peer → Answer Called
  with_peer peer p = known arms.Call (method_number p name) >>= with_number peer p

  abbrev with_place : ℕ → Answer Called
  with_place peer = known arms.Call (peer_at w peer) >>= with_peer peer

  by_object : (o : Option ℕ) → o ≡ peer_of (living w.objects id) → (known arms.Call o >>= with_place) ≡ called_in w id name
  by_object o is = ap (λ (p : Option ℕ). known arms.Call p >>= with_place) is ∙ by (living w.objects id) live
    where
      by : (x : Option Object) → IsSome x → (known arms.Call (peer_of x) >>= with_place) ≡ (known arms.Operand x >>= λ (x : Object). known arms.Call x.peer >>= with_place)
      by None none = cc none
      by (Some x) some = refl

  pub no_peer : None ≡ peer_of (living w.objects id) → Err arms.Call ≡ called_in w id name
  no_peer none = by_object None none

  module _ (peer : ℕ) (of : Some peer ≡ peer_of (living w.objects id)) where
    by_place : (o : Option Peer) → o ≡ slice_get w.peers peer → (known arms.Call o >>= with_peer peer) ≡ called_in w id name
    by_place o at = ap (λ (p : Option Peer). known arms.Call p >>= with_peer peer) at ∙ by_object (Some peer) of

    no_place : None ≡ slice_get w.peers peer → Err arms.Call ≡ called_in w id name
    no_place none = by_place None none

    module _ (p : Peer) (at : Some p ≡ slice_get w.peers peer) where
      by_name : (o : Option ℕ) → o ≡ method_number p name → (known arms.Call o >>= with_number peer p) ≡ called_in w id name
      by_name o is = ap (λ (n : Option ℕ). known arms.Call n >>= with_number peer p) is ∙ by_place (Some p) at

      no_method : None ≡ method_number p name → Err arms.Call ≡ called_in w id name
      no_method none = by_name None none

      module _ (number : ℕ) (is : Some number ≡ method_number p name) where
        by_method : (o : Option Method) → o ≡ option_and_then (λ (q : Peer). method_of q number) (slice_get w.peers peer)
            → (known arms.Call o >>= λ (m : Method). Ok (record { peer = peer; number = number; method = m })) ≡ called_in w id name
        by_method o found =
            ap (λ (m : Option Method). known arms.Call m >>= λ (m : Method). Ok (record { peer = peer; number = number; method = m }))
            (found ∙ ap (option_and_then (λ (q : Peer). method_of q number)) (sym at))
            ∙ by_name (Some number) is

    -- by the number that the method has in the object's class, where the peer has the methods of the class
    module _ (number : Option ℕ) (shaped : (p : Peer) → slice_get w.peers peer ≡ Some p → number ≡ method_number p name) where
      pub no_number : None ≡ number → Err arms.Call ≡ called_in w id name
      no_number none = by (slice_get w.peers peer) refl
        where
          by : (o : Option Peer) → slice_get w.peers peer ≡ o → Err arms.Call ≡ called_in w id name
          by None at = no_place (sym at)
          by (Some p) at = no_method p (sym at) (none ∙ shaped p at)

      module _ (n : ℕ) (is : Some n ≡ number) where
        pub by_number : (o : Option Method) → o ≡ option_and_then (λ (q : Peer). method_of q n) (slice_get w.peers peer)
            → (known arms.Call o >>= λ (m : Method). Ok (record { peer = peer; number = n; method = m })) ≡ called_in w id name
        by_number o found = by (slice_get w.peers peer) refl
          where
            by : (q : Option Peer) → slice_get w.peers peer ≡ q
                → (known arms.Call o >>= λ (m : Method). Ok (record { peer = peer; number = n; method = m })) ≡ called_in w id name
            by None at =
                let none : o ≡ None = found ∙ ap (option_and_then (λ (q : Peer). method_of q n)) at in
                ap (λ (m : Option Method). known arms.Call m >>= λ (m : Method). Ok (record { peer = peer; number = n; method = m })) none ∙ no_place (sym at)
            by (Some p) at = by_method p (sym at) n (is ∙ shaped p at) o found

-- the peer of an object has the methods of its class
pub shaped_so : (d : Definition) (w : World) (id : ℕ) (name : List ℕ) → IsSome (living w.objects id) → KeepsMeanings d w → (peer : ℕ) → Some peer ≡ peer_of (living w.objects id)
    → (number : Option ℕ) → ((o : Object) → living w.objects id ≡ Some o → number ≡ place_named (λ (m : Method). m.name) (class_methods d o.class) name)
    → (p : Peer) → slice_get w.peers peer ≡ Some p → number ≡ method_number p name
shaped_so d w id name live meant peer of number is p at = by (living w.objects id) refl live of
  where
    by : (x : Option Object) → living w.objects id ≡ x → IsSome x → Some peer ≡ peer_of x → number ≡ method_number p name
    by None lives some has = cc some
    by (Some o) lives some has =
        is o lives ∙ ap (λ ms. place_named (λ (m : Method). m.name) ms name) (sym (meant.methods id peer o p lives (sym has) at))

-- the class of an object that lives
pub class_is : (os : Objects) (id class : ℕ) (o : Object) → asked os id (λ (x : Object). Ok x.class) ≡ Ok class → living os id ≡ Some o → o.class ≡ class
unfolding asked
class_is os id class o is lives = let same : ◌≡◌ {A = Answer ℕ} (Ok o.class) (Ok class) = rw lives at is in cc same

module _ (d : Definition) (class : ℕ) (name : List ℕ) where
  -- a class without a shape has no methods
  pub none_named : None ≡ nearest_shape d class → None ≡ place_named (λ (m : Method). m.name) (class_methods d class) name
  none_named none = rw (sym none) refl

  pub named_in : (shape : ℕ) → Some shape ≡ nearest_shape d class
      → place_named (λ (m : Method). m.name) (shape_methods (slice_get d.shapes shape)) name ≡ place_named (λ (m : Method). m.name) (class_methods d class) name
  named_in shape is = rw (sym is) refl

-- ** the call

module _ (d : Definition) (w : World) (f : Frame) (to object : ℕ) (name args : List ℕ) where
  abbrev call_so : ℕ → Called → List Value → Call
  call_so id c given = record { object = id; peer = c.peer; method = c.number; args = given; to = to }

  abbrev fits : Called → List Value → Bool
  fits c given = all_fit (kind_fits (class_in w.objects) d.types) given c.method.params

  abbrev with_values : ℕ → Called → List Value → Answer Call
  with_values id c given = only_if (fits c given) arms.Call (only_if (nat_lt to (length f.registers)) arms.Code (Ok (call_so id c given)))

  abbrev with_called : ℕ → Called → Answer Call
  with_called id c = values_in f args >>= with_values id c

  abbrev with_id : ℕ → Answer Call
  with_id id = called_in w id name >>= with_called id

  -- ** where no arm stops the call

  module _ (able : Able (due_call d w f to object name args)) (id : ℕ) (is : operand_in w f object ≡ Ok id) where
    pub called_able : Able (called_in w id name)
    called_able = first (called_in w id name) (with_called id) (past (operand_in w f object) with_id id is able)

    module _ (c : Called) (so : Ok c ≡ called_in w id name) where
      past_called : Able (with_called id c)
      past_called = past (called_in w id name) (with_called id) c (sym so) (past (operand_in w f object) with_id id is able)

      pub values_able : Able (values_in f args)
      values_able = first (values_in f args) (with_values id c) past_called

      pub is_due : (given : List Value) → values_in f args ≡ Ok given → due_call d w f to object name args ≡ Ok (call_so id c given)
      is_due given has =
          let room = only_if (nat_lt to (length f.registers)) arms.Code (Ok (call_so id c given)) in
          let due : Able (with_values id c given) = past (values_in f args) (with_values id c) given has past_called in
          ap (λ (x : Answer ℕ). x >>= with_id) is
          ∙ ap (λ (x : Answer Called). x >>= with_called id) (sym so)
          ∙ ap (λ (x : Answer (List Value)). x >>= with_values id c) has
          ∙ passes (fits c given) arms.Call room due
          ∙ passes (nat_lt to (length f.registers)) arms.Code (Ok (call_so id c given)) (past_test (fits c given) arms.Call room due)

  -- ** the instruction

  abbrev goes : Call → Answer Started
  goes call = goes_on w (Calling call ∷ []) f

  by_due : calling d w f to object name args ≡ (due_call d w f to object name args >>= goes)
  unfolding calling
  by_due = of_operand (operand_in w f object)
    where
      of_room : (c : Called) (id : ℕ) (given : List Value) (a b : Bool)
          → only_if a arms.Call (only_if b arms.Code (goes (call_so id c given))) ≡ (only_if a arms.Call (only_if b arms.Code (Ok (call_so id c given))) >>= goes)
      of_room c id given false b = refl
      of_room c id given true false = refl
      of_room c id given true true = refl

      of_values : (c : Called) (id : ℕ) (v : Answer (List Value))
          → (v >>= λ given. only_if (fits c given) arms.Call (only_if (nat_lt to (length f.registers)) arms.Code (goes (call_so id c given)))) ≡ ((v >>= with_values id c) >>= goes)
      of_values c id (Err arm) = refl
      of_values c id (Ok given) = of_room c id given (fits c given) (nat_lt to (length f.registers))

      of_method : (id peer number : ℕ) (o : Option Method)
          → (known arms.Call o >>= λ m. values_in f args >>= λ given. only_if (fits (record { peer = peer; number = number; method = m }) given) arms.Call (only_if (nat_lt to (length f.registers)) arms.Code (goes (call_so id (record { peer = peer; number = number; method = m }) given))))
          ≡ (((known arms.Call o >>= λ (m : Method). Ok (record { peer = peer; number = number; method = m })) >>= with_called id) >>= goes)
      of_method id peer number None = refl
      of_method id peer number (Some m) = of_values (record { peer = peer; number = number; method = m }) id (values_in f args)

      of_name : (id peer : ℕ) (p : Peer) (o : Option ℕ)
          → (known arms.Call o >>= λ number. known arms.Call (method_of p number) >>= λ m. values_in f args >>= λ given.
          only_if (fits (record { peer = peer; number = number; method = m }) given) arms.Call (only_if (nat_lt to (length f.registers)) arms.Code (goes (call_so id (record { peer = peer; number = number; method = m }) given))))
          ≡ (((known arms.Call o >>= λ number. known arms.Call (method_of p number) >>= λ (m : Method). Ok (record { peer = peer; number = number; method = m })) >>= with_called id) >>= goes)
      of_name id peer p None = refl
      of_name id peer p (Some number) = of_method id peer number (method_of p number)

      of_place : (id peer : ℕ) (o : Option Peer)
          → (known arms.Call o >>= λ p. known arms.Call (method_number p name) >>= λ number. known arms.Call (method_of p number) >>= λ m. values_in f args >>= λ given.
          only_if (fits (record { peer = peer; number = number; method = m }) given) arms.Call (only_if (nat_lt to (length f.registers)) arms.Code (goes (call_so id (record { peer = peer; number = number; method = m }) given))))
          ≡ (((known arms.Call o >>= λ p. known arms.Call (method_number p name) >>= λ number. known arms.Call (method_of p number) >>= λ (m : Method). Ok (record { peer = peer; number = number; method = m })) >>= with_called id) >>= goes)
      of_place id peer None = refl
      of_place id peer (Some p) = of_name id peer p (method_number p name)

      of_peer : (id : ℕ) (o : Option ℕ)
          → (known arms.Call o >>= λ peer. known arms.Call (peer_at w peer) >>= λ p. known arms.Call (method_number p name) >>= λ number. known arms.Call (method_of p number) >>= λ m. values_in f args >>= λ given.
          only_if (fits (record { peer = peer; number = number; method = m }) given) arms.Call (only_if (nat_lt to (length f.registers)) arms.Code (goes (call_so id (record { peer = peer; number = number; method = m }) given))))
          ≡ (((known arms.Call o >>= λ peer. known arms.Call (peer_at w peer) >>= λ p. known arms.Call (method_number p name) >>= λ number. known arms.Call (method_of p number) >>= λ (m : Method). Ok (record { peer = peer; number = number; method = m })) >>= with_called id) >>= goes)
      of_peer id None = refl
      of_peer id (Some peer) = of_place id peer (peer_at w peer)

      of_object : (id : ℕ) (a : Answer Object)
          → (a >>= λ (o : Object). known arms.Call o.peer >>= λ peer. known arms.Call (peer_at w peer) >>= λ p. known arms.Call (method_number p name) >>= λ number. known arms.Call (method_of p number) >>= λ m. values_in f args >>= λ given.
          only_if (fits (record { peer = peer; number = number; method = m }) given) arms.Call (only_if (nat_lt to (length f.registers)) arms.Code (goes (call_so id (record { peer = peer; number = number; method = m }) given))))
          ≡ (((a >>= λ (o : Object). known arms.Call o.peer >>= λ peer. known arms.Call (peer_at w peer) >>= λ p. known arms.Call (method_number p name) >>= λ number. known arms.Call (method_of p number) >>= λ (m : Method). Ok (record { peer = peer; number = number; method = m })) >>= with_called id) >>= goes)
      of_object id (Err arm) = refl
      of_object id (Ok o) = of_peer id o.peer

      of_operand : (a : Answer ℕ)
          → (a >>= λ id. object_at w.objects id >>= λ (o : Object). known arms.Call o.peer >>= λ peer. known arms.Call (peer_at w peer) >>= λ p. known arms.Call (method_number p name) >>= λ number. known arms.Call (method_of p number) >>= λ m. values_in f args >>= λ given.
          only_if (fits (record { peer = peer; number = number; method = m }) given) arms.Call (only_if (nat_lt to (length f.registers)) arms.Code (goes (call_so id (record { peer = peer; number = number; method = m }) given))))
          ≡ ((a >>= with_id) >>= goes)
      of_operand (Err arm) = refl
      of_operand (Ok id) = of_object id (object_at w.objects id)

  pub due_able : (n : ℕ) (rest : List Task) → Able (left n (in_front rest (calling d w f to object name args))) → Able (due_call d w f to object name args)
  due_able n rest able = first (due_call d w f to object name args) goes (able_as by_due (instructed n rest (calling d w f to object name args) able))

  pub calls : (call : Call) → due_call d w f to object name args ≡ Ok call → calling d w f to object name args ≡ goes_on w (Calling call ∷ []) f
  calls call is = by_due ∙ ap (λ (a : Answer Call). a >>= goes) is
