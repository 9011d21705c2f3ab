-- Constants, copies, arithmetic, comparisons, truth values, texts and conversions.
use Rattle.std.proofs.Common.{◌≡◌, refl, ap, subst, ◌∙◌, ℕ, Bool, true, false, cond, List, [], ◌∷◌, ◌++◌, length, Option, None, Some, Ok}
use Rattle.std.specs.Prelude.{ℤ, not, ◌&&◌, ◌||◌, nat_lt, codes}
use Rattle.ui_machine.specs.Seq.{read, write}
use Rattle.ui_machine.specs.Definition.Kinds.{Whole, int, uint, int64, uint64, Kind, RegisterKind}
use Rattle.ui_machine.specs.Definition.Kinds as kinds
use Rattle.ui_machine.specs.Definition.Types.{GType}
use Rattle.ui_machine.specs.Definition.Values.{Value}
use Rattle.ui_machine.specs.Definition.Values as values
use Rattle.ui_machine.specs.Definition.{Definition}
use Rattle.ui_machine.specs.Definition.Programs.{Arithmetic, Comparison, Instruction}
use Rattle.ui_machine.specs.Definition.Programs as words
use Rattle.ui_machine.specs.State.Tasks.{Frame, Task}
use Rattle.ui_machine.specs.State.Config.{World, said}
use Rattle.ui_machine.specs.Output.Lines as lines
use Rattle.ui_machine.specs.Output.Text.{text_of_line}
use Rattle.ui_machine.specs.Rules.Sets.{has_kind}
use Rattle.ui_machine.specs.Rules.Transform.{kind_fits, is_transformable, transformed, same_value, same_whole, wrapped}
use Rattle.ui_machine.specs.Rules.Accumulation.{or_zero}
use Rattle.ui_machine.specs.Instructions.{instruction_step, in_front}
use Rattle.ui_machine.specs.Instructions.Registers.{truth_in, text_in, whole_in, written_to, moving}
use Rattle.ui_machine.specs.Instructions.Arithmetic.{comparing, reckoning, converting, is_convertible, is_object_kind, sameness, negating, conjunction, disjunction, joining, of_one_kind, kind_of, bytes_of, most_bytes, within_bytes, gives_from}
use Rattle.ui_machine.specs.Instructions.Arithmetic as arithmetic
use Rattle.ui_machine.specs.Instructions.Jumps.{past}
use Rattle.law_typing.specs.Rules.RegisterKinds.{kind_in}
use Rattle.law_typing.specs.Rules.Typing.{after, converts_to}
use Rattle.law_typing.specs.Laws.WellRead.{ConstantFits, no_class_of, has_values}
use Rattle.law_typing.specs.Good.Standing.{Standing, standing, class_by, holds}
use Rattle.law_typing.proofs.Lists.{both_parts, each_in}
use Rattle.law_static.proofs.SubclassProofs.{get_in}
use Rattle.law_static.proofs.FitsProofs.{holds_set}
use Rattle.law_steps.specs.Instructed.OfRegisters.{RegistersAreFine}
use Rattle.law_steps.proofs.Instructed.Around.{Due, r, here, taken, StepIsFine, fine_of}
use Rattle.law_steps.proofs.Instructed.Written.{written_fine}
use Rattle.law_steps.proofs.Instructed.Inverse.{truth_at, text_at, numbers_at, comparable}
use Rattle.law_steps.proofs.Instructed.Wrapped.{whole_fits}
use Rattle.law_steps.proofs.Instructed.Converted.{own_kind, transformed_fits, or_zero_fits}
use Rattle.law_steps.proofs.Instructed.Typed.{moving_is, comparing_is, reckoning_is, converting_is, sameness_is, negating_is, combining_is, joining_is}

-- a value that fits where nothing lives fits everywhere
pub fits_anywhere : (f : ℕ → Option ℕ) (types : List GType) (v : Value) (kind : Kind) → kind_fits no_class_of types v kind ≡ true → kind_fits f types v kind ≡ true
fits_anywhere f types (values.bool b) kinds.bool e = e
fits_anywhere f types (values.whole k n) (kinds.whole l) e = e
fits_anywhere f types (values.text t) kinds.text e = e
fits_anywhere f types (values.enum t n) (kinds.enum u) e = e
fits_anywhere f types (values.flags t n) (kinds.flags u) e = e
fits_anywhere f types (values.object None) (kinds.object t) e = refl
fits_anywhere f types (values.object (Some id)) (kinds.object t) e = absurd (cc)
fits_anywhere f types _ _ e = absurd (cc)

-- ** what the machine writes

move_writes : (w : World) (rest : List Task) (f : Frame) (to from : ℕ) (v : Value) → read None f.registers from ≡ Some v →
    in_front rest (moving w f to from) ≡ in_front rest (written_to w to (Some v) f)
unfolding moving
move_writes w rest f to from v e = rw e refl

truth_is : (f : Frame) (a : ℕ) (b : Bool) → read None f.registers a ≡ Some (values.bool b) → truth_in f a ≡ Ok b
unfolding truth_in
truth_is f a b e = rw e refl

text_is : (f : Frame) (a : ℕ) (s : Option (List ℕ)) → read None f.registers a ≡ Some (values.text s) → text_in f a ≡ Ok s
unfolding text_in
text_is f a s e = rw e refl

whole_is : (f : Frame) (a : ℕ) (k : Whole) (n : ℤ) → read None f.registers a ≡ Some (values.whole k n) → whole_in f a ≡ Ok (record { kind = k; number = n })
unfolding whole_in
whole_is f a k n e = rw e refl

same_whole_itself : (k : Whole) → same_whole k k ≡ true
same_whole_itself int = refl
same_whole_itself uint = refl
same_whole_itself int64 = refl
same_whole_itself uint64 = refl

compare_writes : (w : World) (rest : List Task) (f : Frame) (c : Comparison) (to a b : ℕ) (k : Whole) (x y : ℤ) → read None f.registers a ≡ Some (values.whole k x) →
    read None f.registers b ≡ Some (values.whole k y) → in_front rest (comparing w f c to a b) ≡ in_front rest (written_to w to (Some (values.bool (arithmetic.holds c x y))) f)
unfolding comparing
compare_writes w rest f c to a b k x y e g = rw (whole_is f a k x e, whole_is f b k y g, same_whole_itself k) refl

reckon_writes : (w : World) (rest : List Task) (f : Frame) (o : Arithmetic) (to a b : ℕ) (k : Whole) (x y : ℤ) → read None f.registers a ≡ Some (values.whole k x) →
    read None f.registers b ≡ Some (values.whole k y) → in_front rest (reckoning w f o to a b) ≡ in_front rest (written_to w to (Some (values.whole k (wrapped k (arithmetic.reckoned o x y)))) f)
unfolding reckoning
reckon_writes w rest f o to a b k x y e g = rw (whole_is f a k x e, whole_is f b k y g, same_whole_itself k) refl

same_writes : (w : World) (rest : List Task) (f : Frame) (to a b : ℕ) (u v : Value) → read None f.registers a ≡ Some u → read None f.registers b ≡ Some v →
    has_kind v (kind_of u) ≡ true → in_front rest (sameness w f to a b) ≡ in_front rest (written_to w to (Some (values.bool (same_value u v))) f)
unfolding sameness
same_writes w rest f to a b u v e g h = rw (e, g, h) refl

negate_writes : (w : World) (rest : List Task) (f : Frame) (to a : ℕ) (p : Bool) → truth_in f a ≡ Ok p →
    in_front rest (negating w f to a) ≡ in_front rest (written_to w to (Some (values.bool (not p))) f)
unfolding negating
negate_writes w rest f to a p e = rw e refl

both_writes : (w : World) (rest : List Task) (f : Frame) (to a b : ℕ) (p q : Bool) → truth_in f a ≡ Ok p → truth_in f b ≡ Ok q →
    in_front rest (conjunction w f to a b) ≡ in_front rest (written_to w to (Some (values.bool (p && q))) f)
unfolding conjunction
both_writes w rest f to a b p q e g = rw (e, g) refl

either_writes : (w : World) (rest : List Task) (f : Frame) (to a b : ℕ) (p q : Bool) → truth_in f a ≡ Ok p → truth_in f b ≡ Ok q →
    in_front rest (disjunction w f to a b) ≡ in_front rest (written_to w to (Some (values.bool (p || q))) f)
unfolding disjunction
either_writes w rest f to a b p q e g = rw (e, g) refl

join_writes : (d : Definition) (w : World) (rest : List Task) (f : Frame) (to a b : ℕ) (s t : Option (List ℕ)) → text_in f a ≡ Ok s → text_in f b ≡ Ok t →
    in_front rest (joining d w f to a b) ≡ in_front rest (gives_from (within_bytes d w (bytes_of s ++ bytes_of t)) to f)
unfolding joining
join_writes d w rest f to a b s t e g = rw (e, g) refl

convert_writes : (d : Definition) (w : World) (rest : List Task) (f : Frame) (to a : ℕ) (kind : Kind) (v : Value) → read None f.registers a ≡ Some v → is_convertible d (kind_of v) kind ≡ true →
    in_front rest (converting d w f to a kind) ≡ in_front rest (written_to w to (Some (or_zero d kind (transformed d.types (kind_of v) kind v))) f)
unfolding converting
convert_writes d w rest f to a kind v e is = rw (e, is) refl

-- a value that may be converted, and what becomes of it
converts : (d : Definition) (kind : Kind) (k : RegisterKind) (s : Standing) (v : Value) → converts_to d kind k ≡ true → has_values d kind ≡ true → holds d s k (Some v) ≡ true →
    (is_convertible d (kind_of v) kind ≡ true) × (kind_fits (class_by d s) d.types (or_zero d kind (transformed d.types (kind_of v) kind v)) kind ≡ true)
converts d kind (kinds.plain from) s v e some h =
    let x = both_parts (not (is_object_kind from)) _ e in
    let y = both_parts (not (is_object_kind kind)) (is_transformable d.types from kind) x.1 in
    let own = own_kind (class_by d s) d.types v from x.0 h in
    let fit = transformed_fits (class_by d s) d.types kind v y.0 (ap (λ k. is_transformable d.types k kind) own ∙ y.1) (ap (kind_fits (class_by d s) d.types v) own ∙ h) in (
      ap (λ k. is_convertible d k kind) own ∙ e,
      or_zero_fits (class_by d s) d.types d refl kind (transformed d.types (kind_of v) kind v) fit (λ t is. subst (λ k. has_values d k ≡ true) is some),
    )
converts d kind _ s v e some h = absurd (cc)

-- ** each is fine

module _ {d : Definition} where
  const_fine : (to : ℕ) (kind : Kind) (v : Value) (t : Due d (words.const to kind v)) → StepIsFine t
  const_fine to kind v t =
      written_fine t refl t.w.transcript to (kinds.plain kind) (Some v) refl refl refl
      (fits_anywhere (class_by d (standing t.w.objects)) d.types v kind
      (each_in (ConstantFits d) (r t).b.code ((t.well.programs t.f.program (r t).p (r t).is).blocks t.f.block (r t).b (r t).in_block).constants (words.const to kind v) (get_in (r t).b.code t.f.at (words.const to kind v) (here t))))
      refl

  clear_fine : (to : ℕ) (t : Due d (words.clear to)) → StepIsFine t
  clear_fine to t = written_fine t refl t.w.transcript to kinds.unset None refl refl refl refl refl

  move_fine : (to from : ℕ) (t : Due d (words.move to from)) → StepIsFine t
  move_fine to from t =
      let ks = (r t).ks in
      let k = moving_is ks to from (after d (r t).p ks (words.move to from)) (taken t).typed in
      let v = holds_set d (standing t.w.objects) (kind_in ks from) (read None t.f.registers from) k.0 ((r t).fit from) in
      written_fine t refl t.w.transcript to (kind_in ks from) (Some v.0) refl refl k.1
      (subst (λ x. holds d (standing t.w.objects) (kind_in ks from) x ≡ true) v.1 ((r t).fit from))
      (move_writes t.w t.rest (past t.f) to from v.0 v.1)

  compare_fine : (c : Comparison) (to a b : ℕ) (t : Due d (words.compare c to a b)) → StepIsFine t
  compare_fine c to a b t =
      let ks = (r t).ks in
      let k = comparing_is ks to a b (after d (r t).p ks (words.compare c to a b)) (taken t).typed in
      let n = numbers_at d (standing t.w.objects) (kind_in ks a) (kind_in ks b) (read None t.f.registers a) (read None t.f.registers b) k.0 k.1 ((r t).fit a) ((r t).fit b) in
      written_fine t refl t.w.transcript to (kinds.plain kinds.bool) (Some (values.bool (arithmetic.holds c n.x n.y))) refl refl k.2 refl
      (compare_writes t.w t.rest (past t.f) c to a b n.kind n.x n.y n.first n.second)

  reckon_fine : (o : Arithmetic) (to a b : ℕ) (t : Due d (words.arithmetic o to a b)) → StepIsFine t
  reckon_fine o to a b t =
      let ks = (r t).ks in
      let k = reckoning_is ks to a b (after d (r t).p ks (words.arithmetic o to a b)) (taken t).typed in
      let n = numbers_at d (standing t.w.objects) (kind_in ks a) (kind_in ks b) (read None t.f.registers a) (read None t.f.registers b) k.0 k.1 ((r t).fit a) ((r t).fit b) in
      let z = arithmetic.reckoned o n.x n.y in
      written_fine t refl t.w.transcript to (kind_in ks a) (Some (values.whole n.kind (wrapped n.kind z))) refl refl k.2
      (ap (λ k. holds d (standing t.w.objects) k (Some (values.whole n.kind (wrapped n.kind z)))) n.is ∙ whole_fits n.kind z)
      (reckon_writes t.w t.rest (past t.f) o to a b n.kind n.x n.y n.first n.second)

  convert_fine : (to a : ℕ) (kind : Kind) (t : Due d (words.convert to a kind)) → StepIsFine t
  convert_fine to a kind t =
      let s = standing t.w.objects in
      let ks = (r t).ks in
      let k = converting_is d ks to a kind (after d (r t).p ks (words.convert to a kind)) (taken t).typed in
      let v = holds_set d s (kind_in ks a) (read None t.f.registers a) k.0 ((r t).fit a) in
      let some = each_in (ConstantFits d) (r t).b.code ((t.well.programs t.f.program (r t).p (r t).is).blocks t.f.block (r t).b (r t).in_block).constants (words.convert to a kind)
      (get_in (r t).b.code t.f.at (words.convert to a kind) (here t)) in
      let c = converts d kind (kind_in ks a) s v.0 k.1 some (subst (λ x. holds d s (kind_in ks a) x ≡ true) v.1 ((r t).fit a)) in
      written_fine t refl t.w.transcript to (kinds.plain kind) (Some (or_zero d kind (transformed d.types (kind_of v.0) kind v.0))) refl refl k.2 c.1
      (convert_writes d t.w t.rest (past t.f) to a kind v.0 v.1 c.0)

  same_fine : (to a b : ℕ) (t : Due d (words.same to a b)) → StepIsFine t
  same_fine to a b t =
      let s = standing t.w.objects in
      let ks = (r t).ks in
      let k = sameness_is d ks to a b (after d (r t).p ks (words.same to a b)) (taken t).typed in
      let u = holds_set d s (kind_in ks a) (read None t.f.registers a) k.0 ((r t).fit a) in
      let v = holds_set d s (kind_in ks b) (read None t.f.registers b) k.1 ((r t).fit b) in
      let kind = comparable d s (kind_in ks a) (kind_in ks b) u.0 v.0 k.2
      (subst (λ x. holds d s (kind_in ks a) x ≡ true) u.1 ((r t).fit a)) (subst (λ x. holds d s (kind_in ks b) x ≡ true) v.1 ((r t).fit b)) in
      written_fine t refl t.w.transcript to (kinds.plain kinds.bool) (Some (values.bool (same_value u.0 v.0))) refl refl k.3 refl
      (same_writes t.w t.rest (past t.f) to a b u.0 v.0 u.1 v.1 kind)

  negate_fine : (to a : ℕ) (t : Due d (words.negate to a)) → StepIsFine t
  negate_fine to a t =
      let ks = (r t).ks in
      let k = negating_is ks to a (after d (r t).p ks (words.negate to a)) (taken t).typed in
      let p = truth_at d (standing t.w.objects) (kind_in ks a) (read None t.f.registers a) k.0 ((r t).fit a) in
      written_fine t refl t.w.transcript to (kinds.plain kinds.bool) (Some (values.bool (not p.0))) refl refl k.1 refl
      (negate_writes t.w t.rest (past t.f) to a p.0 (truth_is (past t.f) a p.0 p.1))

  both_fine : (to a b : ℕ) (t : Due d (words.both to a b)) → StepIsFine t
  both_fine to a b t =
      let ks = (r t).ks in
      let k = combining_is ks to a b (after d (r t).p ks (words.both to a b)) (taken t).typed in
      let p = truth_at d (standing t.w.objects) (kind_in ks a) (read None t.f.registers a) k.0 ((r t).fit a) in
      let q = truth_at d (standing t.w.objects) (kind_in ks b) (read None t.f.registers b) k.1 ((r t).fit b) in
      written_fine t refl t.w.transcript to (kinds.plain kinds.bool) (Some (values.bool (p.0 && q.0))) refl refl k.2 refl
      (both_writes t.w t.rest (past t.f) to a b p.0 q.0 (truth_is (past t.f) a p.0 p.1) (truth_is (past t.f) b q.0 q.1))

  either_fine : (to a b : ℕ) (t : Due d (words.either to a b)) → StepIsFine t
  either_fine to a b t =
      let ks = (r t).ks in
      let k = combining_is ks to a b (after d (r t).p ks (words.either to a b)) (taken t).typed in
      let p = truth_at d (standing t.w.objects) (kind_in ks a) (read None t.f.registers a) k.0 ((r t).fit a) in
      let q = truth_at d (standing t.w.objects) (kind_in ks b) (read None t.f.registers b) k.1 ((r t).fit b) in
      written_fine t refl t.w.transcript to (kinds.plain kinds.bool) (Some (values.bool (p.0 || q.0))) refl refl k.2 refl
      (either_writes t.w t.rest (past t.f) to a b p.0 q.0 (truth_is (past t.f) a p.0 p.1) (truth_is (past t.f) b q.0 q.1))

  join_by : (to a b : ℕ) (t : Due d (words.join to a b)) (s : List ℕ) → after d (r t).p (r t).ks (words.join to a b) ≡ write kinds.unset (r t).ks to (kinds.plain kinds.text) →
      (long : Bool) → instruction_step d t.w t.rest (past t.f) (words.join to a b)
      ≡ in_front t.rest (gives_from (cond long (record { state = said d t.w (lines.limit (codes "join")); answer = values.text None }) (record { state = t.w; answer = values.text (Some s) })) to (past t.f)) →
      StepIsFine t
  join_by to a b t s k true does =
      written_fine t refl (t.w.transcript ++ text_of_line d.types (lines.limit (codes "join")) ∷ []) to (kinds.plain kinds.text) (Some (values.text None)) refl refl k refl does
  join_by to a b t s k false does = written_fine t refl t.w.transcript to (kinds.plain kinds.text) (Some (values.text (Some s))) refl refl k refl does

  join_fine : (to a b : ℕ) (t : Due d (words.join to a b)) → StepIsFine t
  join_fine to a b t =
      let ks = (r t).ks in
      let k = joining_is ks to a b (after d (r t).p ks (words.join to a b)) (taken t).typed in
      let p = text_at d (standing t.w.objects) (kind_in ks a) (read None t.f.registers a) k.0 ((r t).fit a) in
      let q = text_at d (standing t.w.objects) (kind_in ks b) (read None t.f.registers b) k.1 ((r t).fit b) in
      let s = bytes_of p.0 ++ bytes_of q.0 in
      join_by to a b t s k.2 (nat_lt most_bytes (length s)) (join_writes d t.w t.rest (past t.f) to a b p.0 q.0 (text_is (past t.f) a p.0 p.1) (text_is (past t.f) b q.0 q.1))

pub registers_are_fine : RegistersAreFine
registers_are_fine (words.const to kind v) e = fine_of (λ d t. const_fine to kind v t)
registers_are_fine (words.move to from) e = fine_of (λ d t. move_fine to from t)
registers_are_fine (words.clear to) e = fine_of (λ d t. clear_fine to t)
registers_are_fine (words.compare c to a b) e = fine_of (λ d t. compare_fine c to a b t)
registers_are_fine (words.arithmetic o to a b) e = fine_of (λ d t. reckon_fine o to a b t)
registers_are_fine (words.convert to a kind) e = fine_of (λ d t. convert_fine to a kind t)
registers_are_fine (words.same to a b) e = fine_of (λ d t. same_fine to a b t)
registers_are_fine (words.negate to a) e = fine_of (λ d t. negate_fine to a t)
registers_are_fine (words.both to a b) e = fine_of (λ d t. both_fine to a b t)
registers_are_fine (words.either to a b) e = fine_of (λ d t. either_fine to a b t)
registers_are_fine (words.join to a b) e = fine_of (λ d t. join_fine to a b t)
registers_are_fine _ e = absurd (cc)
