-- A program calls a peer, and waits for its answer.
use Rattle.std.proofs.Common.{◌≡◌, refl, sym, ap, subst, ◌∙◌, ℕ, suc, true, List, [], ◌∷◌, length, drop, Option, None, Some, Ok, slice_get, arith, lt-ltb}
use Rattle.std.specs.Prelude.{nat_lt, option_map}
use Rattle.std.specs.List.{list_all}
use Rattle.ui_machine.specs.Definition.Kinds as kinds
use Rattle.ui_machine.specs.Definition.Names.{place_named}
use Rattle.ui_machine.specs.Definition.Signals.{Method, Shape}
use Rattle.ui_machine.specs.Definition.Values.{Value}
use Rattle.ui_machine.specs.Definition.{Definition}
use Rattle.ui_machine.specs.Definition.Programs as words
use Rattle.ui_machine.specs.State.Objects.{Object, living, class_in}
use Rattle.ui_machine.specs.State.Peers.{Peer, method_number, method_of}
use Rattle.ui_machine.specs.State.Tasks.{Call, Frame, Task, Calling}
use Rattle.ui_machine.specs.State.Config.{World, peer_at}
use Rattle.ui_machine.specs.Outcome.{known}
use Rattle.ui_machine.specs.Rules.Construction.{nearest_shape}
use Rattle.ui_machine.specs.Rules.Programs.{all_fit}
use Rattle.ui_machine.specs.Rules.Transform.{kind_fits}
use Rattle.ui_machine.specs.Instructions.{in_front}
use Rattle.ui_machine.specs.Instructions.Registers.{operand_in, values_in, goes_on}
use Rattle.ui_machine.specs.Instructions.Peers.{calling}
use Rattle.ui_machine.specs.Instructions.Jumps.{past}
use Rattle.law_typing.specs.Rules.Answers as rules
use Rattle.law_typing.specs.Rules.RegisterKinds.{Kinds}
use Rattle.law_typing.specs.Rules.Typing as typing
use Rattle.law_typing.specs.Rules.Typing.{after, arguments, methods_of, methods_for, method_named}
use Rattle.law_typing.specs.Rules.Brackets.{opened, keeps}
use Rattle.law_typing.specs.Laws.WellRead.{WellRead, has_values}
use Rattle.law_typing.specs.Good.Standing.{standing, view, View}
use Rattle.law_typing.specs.Good.Objects.{PeerGood}
use Rattle.law_typing.specs.Good.ComingDown.{answers, down, awaited, Comes, TakesNone}
use Rattle.law_typing.proofs.Numbered.{all_get}
use Rattle.law_static.proofs.FitsProofs.{classes_agree}
use Rattle.law_steps.specs.Instructed.Calling.{CallsAreFine}
use Rattle.law_steps.proofs.Instructed.Around.{Due, r, taken, none_into, StepIsFine, fine_of}
use Rattle.law_steps.proofs.Instructed.Written.{low, code_next}
use Rattle.law_steps.proofs.Instructed.Inverse.{bound, known_is}
use Rattle.law_steps.proofs.Instructed.Typed.{with_kind}
use Rattle.law_steps.proofs.Instructed.Operand.{Named, named}
use Rattle.law_steps.proofs.Instructed.EmitProofs.{given}
use Rattle.law_steps.proofs.Instructed.Started.{waiting, starts_fine}

-- ** what typing says

-- the method of the shape that the operand's class has, and its arguments
record Calls (d : Definition) (ks : Kinds) (to object : ℕ) (name : List ℕ) (args : List ℕ) (next : Kinds) : Type 0 where
  pub class : ℕ
  pub operand : typing.operand d ks object ≡ Ok class
  pub shape : ℕ
  pub is : nearest_shape d class ≡ Some shape
  pub number : ℕ
  pub named : place_named (λ (m : Method). m.name) (methods_of (slice_get d.shapes shape)) name ≡ Some number
  pub m : Method
  pub has : slice_get (methods_of (slice_get d.shapes shape)) number ≡ Some m
  pub given : Kinds
  pub fit : arguments d ks args m.params ≡ Ok given
  pub kinds_are : next ≡ with_kind ks to (kinds.plain m.result)

method_is : (ms : List Method) (name : List ℕ) (m : Method) → method_named ms name ≡ Ok m → (number : ℕ) × (place_named (λ (m : Method). m.name) ms name ≡ Some number) × (slice_get ms number ≡ Some m)
unfolding method_named
method_is ms name m e =
    let x = bound (known rules.unknown (place_named (λ (m : Method). m.name) ms name)) _ m e in
    (x.0, known_is rules.unknown (place_named (λ (m : Method). m.name) ms name) x.0 x.1, known_is rules.unknown (slice_get ms x.0) m x.2)

methods_are : (d : Definition) (class : ℕ) (ms : List Method) → methods_for d class ≡ Ok ms → (shape : ℕ) × (nearest_shape d class ≡ Some shape) × (methods_of (slice_get d.shapes shape) ≡ ms)
unfolding methods_for
methods_are d class ms e =
    let x = bound (known rules.unknown (nearest_shape d class)) _ ms e in
    (x.0, known_is rules.unknown (nearest_shape d class) x.0 x.1, (let f = x.2 in let s : methods_of (slice_get d.shapes x.0) ≡ ms = cc in s))

calling_is : (d : Definition) (ks : Kinds) (to object : ℕ) (name : List ℕ) (args : List ℕ) (next : Kinds) → typing.calling d ks to object name args ≡ Ok next → Calls d ks to object name args next
unfolding typing.calling
calling_is d ks to object name args next e =
    let x = bound (typing.operand d ks object) _ next e in
    let y = bound (methods_for d x.0) _ next x.2 in
    let z = bound (method_named y.0 name) _ next y.2 in
    let u = bound (arguments d ks args z.0.params) _ next z.2 in
    let s = methods_are d x.0 y.0 y.1 in
    let n = method_is y.0 name z.0 z.1 in
    record {
      class = x.0;
      operand = x.1;
      shape = s.0;
      is = s.1;
      number = n.0;
      named = ap (λ ms. place_named (λ (m : Method). m.name) ms name) s.2 ∙ n.1;
      m = z.0;
      has = ap (λ ms. slice_get ms n.0) s.2 ∙ n.2;
      given = u.0;
      fit = u.1;
      kinds_are = (let f = u.2 in let s : with_kind ks to (kinds.plain z.0.result) ≡ next = cc in sym s);
    }

-- what a method of a shape answers has a value
method_read : (d : Definition) → WellRead d → (shape number : ℕ) (m : Method) → slice_get (methods_of (slice_get d.shapes shape)) number ≡ Some m → has_values d m.result ≡ true
method_read d well shape number m has = go (slice_get d.shapes shape) refl has
  where
    go : (o : Option Shape) → slice_get d.shapes shape ≡ o → slice_get (methods_of o) number ≡ Some m → has_values d m.result ≡ true
    go None is e = absurd (cc)
    go (Some s) is e =
        let all = all_get (λ (s : Shape). list_all (λ (m : Method). has_values d m.result) s.methods) d.shapes shape s well.types.replies is in
        all_get (λ (m : Method). has_values d m.result) s.methods number m all e

-- ** the peer

-- an object of a class with a shape has a peer of it
peer_of : (d : Definition) (peers : List Peer) (id : ℕ) (o : Object) (shape : ℕ) → nearest_shape d o.class ≡ Some shape → PeerGood d peers id o →
    (number : ℕ) × (p : Peer) × (o.peer ≡ Some number) × (slice_get peers number ≡ Some p) × (p.state.shape ≡ methods_of (slice_get d.shapes shape))
peer_of d peers id o shape e g = go (slice_get d.shapes shape) refl
  where
    go : (s : Option Shape) → slice_get d.shapes shape ≡ s → (number : ℕ) × (p : Peer) × (o.peer ≡ Some number) × (slice_get peers number ≡ Some p) × (p.state.shape ≡ methods_of (slice_get d.shapes shape))
    go None s = let h = rw (e, s) at g in (h.0, h.1, h.2, h.3, h.6 ∙ sym (ap methods_of s))
    go (Some x) s = let h = rw (e, s) at g in (h.0, h.1, h.2, h.3, h.6 ∙ sym (ap methods_of s))

call_starts : (d : Definition) (w : World) (rest : List Task) (f : Frame) (to object : ℕ) (name : List ℕ) (args : List ℕ) (id peer number : ℕ) (o : Object) (p : Peer) (m : Method) (vs : List Value) →
    operand_in w f object ≡ Ok id → living w.objects id ≡ Some o → o.peer ≡ Some peer → peer_at w peer ≡ Some p → method_number p name ≡ Some number → method_of p number ≡ Some m →
    values_in f args ≡ Ok vs → all_fit (kind_fits (class_in w.objects) d.types) vs m.params ≡ true → nat_lt to (length f.registers) ≡ true →
    in_front rest (calling d w f to object name args)
    ≡ in_front rest (goes_on w (Calling (record { object = id; peer = peer; method = number; args = vs; to = to }) ∷ []) f)
unfolding calling
call_starts d w rest f to object name args id peer number o p m vs a b c e is has given fit low = rw (a, b, c, e, is, has, given, fit, low) refl

answer_is : (d : Definition) (v : View) (call : Call) (p : Peer) (m : Method) → slice_get v.peers call.peer ≡ Some p → method_of p call.method ≡ Some m → down d v (Calling call) ≡ answers call.to m.result
answer_is d v call p m is has = rw (is, has) refl

-- ** the step

module _ {d : Definition} (to object : ℕ) (name : List ℕ) (args : List ℕ) (t : Due d (words.call to object name args)) where
  open t use {a, w, f, rest, n, g}

  call_of : (k : Calls d (r t).ks to object name args (after d (r t).p (r t).ks (words.call to object name args))) → Named t object k.class → StepIsFine t
  call_of k o =
      let s = standing w.objects in
      let x = peer_of d w.peers o.id o.o k.shape (t.well.types.shapes o.o.class k.class k.shape o.of_class k.is) o.good.peer in
      let is : method_number x.1 name ≡ Some k.number = ap (λ ms. place_named (λ (m : Method). m.name) ms name) x.4 ∙ k.named in
      let has : method_of x.1 k.number ≡ Some k.m = ap (λ ms. slice_get ms k.number) x.4 ∙ k.has in
      let vs = given d t.well.types s (r t).ks (past f) (r t).fit args k.m.params k.given k.fit in
      let at : s o.id ≡ Some o.o.place = ap (option_map (λ (o : Object). o.place)) o.lives in
      let call : Call = record { object = o.id; peer = x.0; method = k.number; args = vs.values; to = to } in
      let gives : down d (view w) (Calling call) ≡ answers to k.m.result = answer_is d (view w) call x.1 k.m x.3 has in
      let low = low t refl to refl in
      starts_fine t refl (Calling call) f.into 0 0
      (record {
        started = refl;
        more = refl;
        good = (
          tt,
          record {
            lives = record { place = o.o.place; is = at; allowed = tt };
            p = x.1;
            m = k.m;
            is = x.3;
            has = has;
            args_fit = vs.fit;
            value = method_read d t.well k.shape k.number k.m k.has;
            waits = (waiting t refl f.into, rest, refl, low, ap (λ code. keeps (opened code) (Some to)) (code_next t refl f.registers) ∙ (taken t).brackets);
          },
        );
        cheap = omega arith;
        shallow = omega arith;
        comes = subst (λ into. Comes into (down d (view w) (Calling call))) (sym (none_into t)) tt;
        takes = subst TakesNone (sym gives) tt;
        closed = ap (keeps (opened (drop (suc f.at) (r t).b.code))) (none_into t);
        comes_down = subst (λ into. awaited (r t).ks into (down d (view w) (Calling call)) ≡ after d (r t).p (r t).ks (words.call to object name args)) (sym (none_into t))
            (ap (awaited (r t).ks None) gives ∙ sym k.kinds_are);
        held = λ some. absurd (omega (arith, some));
      })
      (call_starts d w rest (past f) to object name args o.id x.0 k.number o.o x.1 k.m vs.values o.asked o.lives x.2 x.3 is has vs.is
      (ap (λ c. all_fit (kind_fits c d.types) vs.values k.m.params) (classes_agree d w g.objects) ∙ vs.fit) (lt-ltb to (length f.registers) low))

  call_fine : StepIsFine t
  call_fine = let k = calling_is d (r t).ks to object name args _ (taken t).typed in call_of k (named t object k.class k.operand)

pub calls_are_fine : CallsAreFine
calls_are_fine to object name args = fine_of (λ d t. call_fine to object name args t)
