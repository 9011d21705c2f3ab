-- A program emits a signal, and waits for its result if it takes it.
use Rattle.std.proofs.Common.{◌≡◌, refl, sym, ap, subst, ◌∙◌, ℕ, ◌<◌, ◌≤◌, Bool, true, false, cond, List, [], ◌∷◌, Option, None, Some, Ok, arith, lt-ltb}
use Rattle.std.specs.Prelude.{◌&&◌, ◌||◌, not, nat_eq, nat_lt, is_some, option_map}
use Rattle.std.proofs.lemmas.Bool.{eqb-true, ltb-true}
use Rattle.ui_machine.specs.declared.arm.Arm.TheVariants as arms
use Rattle.ui_machine.specs.Seq.{read}
use Rattle.ui_machine.specs.Definition.Kinds.{Kind}
use Rattle.ui_machine.specs.Definition.Kinds as kinds
use Rattle.ui_machine.specs.Definition.Properties.{has_flags}
use Rattle.ui_machine.specs.Definition.Values.{Value}
use Rattle.ui_machine.specs.Definition.{Definition}
use Rattle.ui_machine.specs.Definition.Lookups.{slot_of}
use Rattle.ui_machine.specs.Definition.Places.{Place}
use Rattle.ui_machine.specs.Definition.Signals.{Signal}
use Rattle.ui_machine.specs.Definition.Programs.{Instruction}
use Rattle.ui_machine.specs.Definition.Programs as words
use Rattle.ui_machine.specs.State.Objects.{Object, living}
use Rattle.ui_machine.specs.State.Tasks.{Emission, Frame, Task, Beginning}
use Rattle.ui_machine.specs.State.Config.{World}
use Rattle.ui_machine.specs.Outcome.{known, only_if}
use Rattle.ui_machine.specs.Rules.Connections.{signal_number, may_stand, detail_for, detail_at, detail_in}
use Rattle.ui_machine.specs.Rules.EmissionPlan.{signal_of, signal_at, new_emission}
use Rattle.ui_machine.specs.Rules.Programs.{all_fit}
use Rattle.ui_machine.specs.Rules.Transform.{kind_fits}
use Rattle.ui_machine.specs.Instructions.{in_front}
use Rattle.ui_machine.specs.Instructions.Registers.{operand_in, values_in, value_in, goes_on}
use Rattle.ui_machine.specs.Instructions.Signals.{Emit, signal_in, signal_to_emit, emitting}
use Rattle.ui_machine.specs.Instructions.Jumps.{past}
use Rattle.law_typing.specs.Rules.Answers as rules
use Rattle.law_typing.specs.Rules.RegisterKinds.{Kinds, kind_in, class_at, fits}
use Rattle.law_typing.specs.Rules.Signatures.{takes_detail}
use Rattle.law_typing.specs.Rules.Typing as typing
use Rattle.law_typing.specs.Rules.Typing.{after, arguments, takes_result}
use Rattle.law_typing.specs.Graph.{graph, start_of, number_for}
use Rattle.law_typing.specs.Graph.Channels.{Channel, signal}
use Rattle.law_typing.specs.Graph.Tables.{Tables, entry}
use Rattle.law_typing.specs.Graph.Costs.{other_end, with_other, start_cost}
use Rattle.law_typing.specs.Graph.Depths.{start_depth}
use Rattle.law_typing.specs.Laws.WellRead.{TypesRead}
use Rattle.law_typing.specs.Good.Standing.{standing, Standing, class_by, view, holds, RegistersFit}
use Rattle.law_typing.specs.Good.ComingDown.{results, down, awaited, Comes, result_of_emission}
use Rattle.law_static.proofs.FitsProofs.{holds_kind, holds_set}
use Rattle.law_static.proofs.StartProofs.{starts_reach}
use Rattle.law_static.proofs.SubclassProofs.{signals_inherit, emitted_inherit}
use Rattle.law_steps.specs.Instructed.Emitting.{EmitsAreFine}
use Rattle.law_steps.proofs.Instructed.Around.{Due, r, taken, StepIsFine, fine_of}
use Rattle.law_steps.proofs.Instructed.Inverse.{bound, only, known_is, passing_is}
use Rattle.law_steps.proofs.Instructed.Operand.{Named, named}
use Rattle.law_steps.proofs.Instructed.Started.{starts_fine}

-- ** what typing says

-- the signal, which is not `notify`, its detail, the arguments and where the result goes
pub record Emits (d : Definition) (ks : Kinds) (into : Option ℕ) (object : ℕ) (name : List ℕ) (detail : Option (List ℕ)) (args : List ℕ) (next : Kinds) : Type 0 where
  pub class : ℕ
  pub operand : typing.operand d ks object ≡ Ok class
  pub number : ℕ
  pub is : signal_number d class name ≡ Some number
  pub positive : 0 < number
  pub s : Signal
  pub has : signal_of d class number ≡ Some s
  pub detailed : takes_detail d class number s detail ≡ true
  pub given : Kinds
  pub fit : arguments d ks args s.params ≡ Ok given
  pub result : takes_result into s.result ks ≡ Ok next

emitting_is : (d : Definition) (ks : Kinds) (into : Option ℕ) (object : ℕ) (name : List ℕ) (detail : Option (List ℕ)) (args : List ℕ) (next : Kinds) →
    typing.emitting d ks into object name detail args ≡ Ok next → Emits d ks into object name detail args next
unfolding typing.emitting
emitting_is d ks into object name detail args next e =
    let x = bound (typing.operand d ks object) _ next e in
    let y = bound (known rules.unknown (signal_number d x.0 name)) _ next x.2 in
    let z = bound (only_if (nat_lt 0 y.0) rules.unknown (typing.signal_at d x.0 y.0)) _ next y.2 in
    let p = only (nat_lt 0 y.0) rules.unknown (typing.signal_at d x.0 y.0) z.0 z.1 in
    let u = bound (only_if (takes_detail d x.0 y.0 z.0 detail) rules.detail (arguments d ks args z.0.params)) _ next z.2 in
    let q = only (takes_detail d x.0 y.0 z.0 detail) rules.detail (arguments d ks args z.0.params) u.0 u.1 in
    record {
      class = x.0;
      operand = x.1;
      number = y.0;
      is = known_is rules.unknown (signal_number d x.0 name) y.0 y.1;
      positive = ltb-true 0 y.0 p.0;
      s = z.0;
      has = known_is rules.unknown (signal_of d x.0 y.0) z.0 p.1;
      detailed = q.0;
      given = u.0;
      fit = q.1;
      result = u.2;
    }

-- ** what is given

-- the arguments are values of the parameters' kinds
pub record Given (d : Definition) (s : Standing) (f : Frame) (args : List ℕ) (params : List Kind) : Type 0 where
  pub values : List Value
  pub is : values_in f args ≡ Ok values
  pub fit : all_fit (kind_fits (class_by d s) d.types) values params ≡ true

first_value : (f : Frame) (a : ℕ) (more : List ℕ) (v : Value) (vs : List Value) → value_in f a ≡ Ok v → values_in f more ≡ Ok vs → values_in f (a ∷ more) ≡ Ok (v ∷ vs)
unfolding values_in
first_value f a more v vs e is = rw (e, is) refl

no_values : (f : Frame) → values_in f [] ≡ Ok []
unfolding values_in
no_values f = refl

pub given : (d : Definition) → TypesRead d → (s : Standing) (ks : Kinds) (f : Frame) → RegistersFit d s ks f.registers → (args : List ℕ) (params : List Kind) (next : Kinds) →
    arguments d ks args params ≡ Ok next → Given d s f args params
unfolding arguments
given d types s ks f fit [] [] next e = record { values = []; is = no_values f; fit = refl }
given d types s ks f fit [] (p ∷ ps) next e = absurd (cc)
given d types s ks f fit (a ∷ more) [] next e =
    let x = bound (typing.set_in ks a) _ next e in
    let y = bound (arguments d ks more []) _ next x.2 in
    absurd (let f = y.2 in cc)
given d types s ks f fit (a ∷ more) (p ∷ ps) next e =
    let x = bound (typing.fitting d ks a p) _ next e in
    let k = passing_is ks a (λ k. fits d k (kinds.plain p)) x.0 x.1 in
    let v = holds_set d s (kind_in ks a) (read None f.registers a) k.1 (fit a) in
    let rest = given d types s ks f fit more ps next x.2 in
    let own = holds_kind d types s (kind_in ks a) p v.0 k.2 (subst (λ o. holds d s (kind_in ks a) o ≡ true) v.1 (fit a)) in
    record {
      values = v.0 ∷ rest.values;
      is = first_value f a more v.0 rest.values (ap (known arms.Register) v.1) rest.is;
      fit = ap (λ b. b && all_fit (kind_fits (class_by d s) d.types) rest.values ps) own.0 ∙ rest.fit;
    }

-- ** what the machine does

pub detail_stands : (d : Definition) (w : World) (id number : ℕ) (o : Object) (s : Signal) (detail : Option (List ℕ)) → living w.objects id ≡ Some o → signal_of d o.class number ≡ Some s →
    may_stand d o.class number s detail ≡ true → detail_in d w id number detail ≡ Ok (detail_for number detail)
unfolding detail_in detail_at signal_at
detail_stands d w id number o s detail e is stands = rw (e, is, stands) refl

emit_starts : (d : Definition) (w : World) (rest : List Task) (f : Frame) (object : ℕ) (e : Emit) (id number : ℕ) (o : Object) (detail : Option (List ℕ)) (vs : List Value) →
    operand_in w f object ≡ Ok id → living w.objects id ≡ Some o → signal_number d o.class e.signal ≡ Some number → nat_lt 0 number ≡ true → detail_in d w id number e.detail ≡ Ok detail →
    values_in f e.args ≡ Ok vs →
    in_front rest (emitting d w f object e) ≡ in_front rest (goes_on w (Beginning (new_emission id number detail vs false) ∷ []) (record f { into = e.into }))
unfolding emitting signal_to_emit signal_in
emit_starts d w rest f object e id number o detail vs a b c positive stands given = rw (a, b, c, positive, stands, given) refl

-- a detail that the signal of a type takes is taken by the same signal of a class
pub stands_too : (d : Definition) (class own type number : ℕ) (s : Signal) (detail : Option (List ℕ)) → 0 < number → 0 < own → takes_detail d type number s detail ≡ true →
    may_stand d class own s detail ≡ true
stands_too d class own type number s None positive own_positive e = refl
stands_too d class own type number s (Some x) positive own_positive e =
    let flags : has_flags 16 s.flags ≡ true = subst (λ b. cond b (is_some (slot_of d type x)) (has_flags 16 s.flags) ≡ true) (no_zero number positive) e in
    ap (λ b. b && (not (nat_eq own 0) || is_some (slot_of d class x))) flags ∙ ap (λ b. not b || is_some (slot_of d class x)) (no_zero own own_positive)
  where
    no_zero : (n : ℕ) → 0 < n → nat_eq n 0 ≡ false
    no_zero n p = go (nat_eq n 0) refl
      where
        go : (b : Bool) → nat_eq n 0 ≡ b → nat_eq n 0 ≡ false
        go true e = absurd (let z = eqb-true n 0 e in omega (arith, z, p))
        go false e = e

-- what comes down from the emission is what the program waits for
waits_for : (ks next : Kinds) (into : Option ℕ) (result : Option Kind) → takes_result into result ks ≡ Ok next → Comes into (results result) × (awaited ks into (results result) ≡ next)
waits_for ks next None None e = (tt, cc)
waits_for ks next None (Some kind) e = (tt, cc)
waits_for ks next (Some to) None e = absurd (cc)
waits_for ks next (Some to) (Some kind) e = ((kind, refl), cc)

result_is : (d : Definition) (s : Standing) (e : Emission) (class : ℕ) (sig : Signal) → class_by d s e.object ≡ Some class → signal_of d class e.signal ≡ Some sig →
    results (result_of_emission d s e) ≡ results sig.result
result_is d s e class sig is has = rw (is, has) refl

-- ** the step

-- an end costs no more than the node
channel_only : (costs : Tables) (own : ℕ) (o : Option Channel) → own ≤ with_other costs own o
channel_only costs own None = omega arith
channel_only costs own (Some other) = omega arith

module _ {d : Definition} (into : Option ℕ) (object : ℕ) (name : List ℕ) (detail : Option (List ℕ)) (args : List ℕ) (t : Due d (words.emit into object name detail args)) where
  open t use {a, w, f, rest, n, g}

  emit_fine : StepIsFine t
  emit_fine = go (emitting_is d (r t).ks into object name detail args _ (taken t).typed)
    where
      go : Emits d (r t).ks into object name detail args (after d (r t).p (r t).ks (words.emit into object name detail args)) → StepIsFine t
      go k = by (named t object k.class k.operand)
        where
          by : Named t object k.class → StepIsFine t
          by o =
              let s = standing w.objects in
              let own = signals_inherit d t.well.types o.o.class k.class k.number name k.s o.known o.of_class k.is k.has in
              let positive = emitted_inherit d t.well.types o.o.class k.class k.number own.0 name k.is own.1 k.positive in
              let x = given d t.well.types s (r t).ks (past f) (r t).fit args k.s.params k.given k.fit in
              let at : s o.id ≡ Some o.o.place = ap (option_map (λ (o : Object). o.place)) o.lives in
              let class : class_at d o.o.place ≡ Some o.o.class = ap (option_map (λ (p : Place). p.class)) o.good.is ∙ ap (λ (c : ℕ). Some c) (sym o.good.class) in
              let stands = detail_stands d w o.id own.0 o.o k.s detail o.lives own.2 (stands_too d o.o.class own.0 k.class k.number k.s detail k.positive positive k.detailed) in
              let e = new_emission o.id own.0 (detail_for own.0 detail) x.values false in
              let reach = starts_reach d a (λ class. signal_number d class name) signal (r t).ks object o.o.place o.o.class own.0 o.covered class own.1 in
              let gives : down d (view w) (Beginning e) ≡ results k.s.result = result_is d s e o.o.class k.s (ap (number_for (class_at d)) at ∙ class) own.2 in
              let waits = waits_for (r t).ks _ into k.s.result k.result in
              starts_fine t refl (Beginning e) into (start_cost (graph d) a.weighed.costs (start_of d (r t).ks (words.emit into object name detail args)))
              (start_depth a.weighed.depths (start_of d (r t).ks (words.emit into object name detail args)))
              (record {
                started = refl;
                more = refl;
                good = (
                  tt,
                  record {
                    fits = record { place = o.o.place; class = o.o.class; sig = k.s; is = at; of_class = class; has = own.2; args = x.fit; value = λ v is. absurd (cc) };
                    not_notify = positive;
                    cheap = (let node = reach.0 in let less = channel_only a.weighed.costs (entry a.weighed.costs.channels (signal o.o.place own.0)) (other_end (graph d) (signal o.o.place own.0)) in omega (arith, node, less));
                    shallow = reach.1;
                  },
                );
                cheap = omega arith;
                shallow = omega arith;
                comes = subst (Comes into) (sym gives) waits.0;
                takes = tt;
                closed = (taken t).brackets;
                comes_down = subst (λ up. awaited (r t).ks into up ≡ after d (r t).p (r t).ks (words.emit into object name detail args)) (sym gives) waits.1;
                held = λ some. absurd (omega (arith, some));
              })
              (emit_starts d w rest (past f) object (record { into = into; signal = name; detail = detail; args = args }) o.id own.0 o.o (detail_for own.0 detail) x.values o.asked o.lives own.1 (lt-ltb 0 own.0 positive) stands x.is)

pub emits_are_fine : EmitsAreFine
emits_are_fine into object name detail args = fine_of (λ d t. emit_fine into object name detail args t)
