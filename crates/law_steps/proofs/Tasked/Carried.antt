-- What a binding carries from one of its ends to the other: the rules that it keeps, and the value that is to be set.
use Rattle.std.proofs.Common.{◌≡◌, refl, sym, ap, subst, ◌∙◌, ℕ, Bool, true, false, cond, Option, None, Some, ℤ, ◌^◌}
use Rattle.std.specs.Prelude.{not, nat_eq, nat_lt, unsigned_abs, is_some}
use Rattle.std.proofs.lemmas.Bool.{eq-eqb, eqb-true}
use Rattle.ui_machine.specs.Definition.{Definition}
use Rattle.ui_machine.specs.Definition.Kinds.{Whole, int, uint, int64, uint64, Kind}
use Rattle.ui_machine.specs.Definition.Kinds as kinds
use Rattle.ui_machine.specs.Definition.Places.{Bind}
use Rattle.ui_machine.specs.Definition.Properties.{Spec, is_readable, is_writable, is_construct_only, has_flags}
use Rattle.ui_machine.specs.Definition.Values.{Value}
use Rattle.ui_machine.specs.Definition.Values as values
use Rattle.ui_machine.specs.Output.Text.{members_of}
use Rattle.ui_machine.specs.Rules.Sets.{has_kind}
use Rattle.ui_machine.specs.Rules.Transfers.{opposite, inverted}
use Rattle.ui_machine.specs.Rules.Transform.{same_whole, is_one, if_so, has_number, is_known, kind_fits, is_transformable, converted, transformed}
use Rattle.law_typing.specs.Rules.RegisterKinds.{class_at}
use Rattle.law_typing.specs.Rules.Faults.{BindingWord}
use Rattle.law_typing.specs.Rules.BindingRules.{or_word, first_word, word_between, word_of}
use Rattle.law_typing.specs.Graph.{number_for}
use Rattle.law_typing.specs.Graph.Channels.{spec_at, same_channel, is_pair, source_of, target_of}
use Rattle.law_typing.specs.Good.Standing.{Standing, class_by, lives_by}
use Rattle.law_typing.proofs.Lists.{both_parts}

-- ** the rules

or_none : (test : Bool) (w : BindingWord) (next : Option BindingWord) → or_word test w next ≡ None → (test ≡ true) × (next ≡ None)
or_none true w next e = (refl, e)
or_none false w next e = absurd (cc)

first_none : (a b : Option BindingWord) → first_word a b ≡ None → (a ≡ None) × (b ≡ None)
first_none None b e = (refl, e)
first_none (Some w) b e = absurd (cc)

-- what they say of two properties, from one to the other
pub record Leads (d : Definition) (inverts : Bool) (source target : Option Spec) : Type 0 where
  pub from : Spec
  pub to : Spec
  pub has : source ≡ Some from
  pub there : target ≡ Some to
  pub readable : is_readable from ≡ true
  pub writable : is_writable to ≡ true
  pub not_construct_only : not (is_construct_only to) ≡ true
  pub transformable : is_transformable d.types from.kind to.kind ≡ true

leads_of : (d : Definition) (inverts : Bool) (source target : Option Spec) → word_between d inverts source target ≡ None → Leads d inverts source target
leads_of d inverts None target e = absurd (cc)
leads_of d inverts (Some from) None e = absurd (cc)
leads_of d inverts (Some from) (Some to) e =
    let a = or_none (is_readable from) _ _ e in
    let b = or_none (is_writable to) _ _ a.1 in
    let c = or_none (not (is_construct_only to)) _ _ b.1 in
    let f = or_none (is_transformable d.types from.kind to.kind) _ _ c.1 in
    record { from = from; to = to; has = refl; there = refl; readable = a.0; writable = b.0; not_construct_only = c.0; transformable = f.0 }

abbrev forwards : Definition → Bind → Option BindingWord
forwards d b = word_between d (has_flags 4 b.flags) (spec_at d b.source b.source_slot) (spec_at d b.target b.target_slot)

abbrev backwards : Definition → Bind → Option BindingWord
backwards d b = word_between d (has_flags 4 b.flags) (spec_at d b.target b.target_slot) (spec_at d b.source b.source_slot)

both_ways : (d : Definition) (b : Bind) → word_of d b ≡ None → (forwards d b ≡ None) × (cond (is_pair b) (backwards d b) None ≡ None)
both_ways d b e =
    let one = or_none (not (same_channel (source_of b) (target_of b))) _ (first_word (forwards d b) (cond (is_pair b) (backwards d b) None)) e in
    first_none (forwards d b) (cond (is_pair b) (backwards d b) None) one.1

-- a binding without a fault leads from its source to its target
pub leads_forwards : (d : Definition) (b : Bind) → word_of d b ≡ None → Leads d (has_flags 4 b.flags) (spec_at d b.source b.source_slot) (spec_at d b.target b.target_slot)
leads_forwards d b e = leads_of d (has_flags 4 b.flags) _ _ (both_ways d b e).0

-- and one of a pair back
pub leads_backwards : (d : Definition) (b : Bind) → is_pair b ≡ true → word_of d b ≡ None → Leads d (has_flags 4 b.flags) (spec_at d b.target b.target_slot) (spec_at d b.source b.source_slot)
leads_backwards d b pair e = leads_of d (has_flags 4 b.flags) _ _ (subst (λ p. cond p (backwards d b) None ≡ None) pair (both_ways d b e).1)

-- ** the value

module _ (d : Definition) (s : Standing) where
  -- a value of the kind that lives
  abbrev pub MaySet : Kind → Value → Type 0
  MaySet to u = (has_kind u to ≡ true) × (lives_by s u ≡ true)

  just : (to : Kind) (v u : Value) → MaySet to v → Some v ≡ Some u → MaySet to u
  just to v u h e = let same : v ≡ u = cc in subst (MaySet to) same h

  if_just : (to : Kind) (b : Bool) (v u : Value) → MaySet to v → if_so b v ≡ Some u → MaySet to u
  if_just to true v u h e = just to v u h e
  if_just to false v u h e = absurd (cc)

  same_itself : (k : Whole) → same_whole k k ≡ true
  same_itself int = refl
  same_itself uint = refl
  same_itself int64 = refl
  same_itself uint64 = refl

  enum_is : (from : Kind) (t u : ℕ) (n : ℤ) → kind_fits (class_by d s) d.types (values.enum u n) from ≡ true → is_transformable d.types from (kinds.enum t) ≡ true → nat_eq u t ≡ true
  enum_is (kinds.enum z) t u n fit e =
      let a = eqb-true u z (both_parts (nat_eq u z) (has_number (members_of d.types z) n) fit).0 in
      let b = eqb-true z t e in
      eq-eqb u t (a ∙ b)
  enum_is _ t u n fit e = absurd (cc)

  flags_are : (from : Kind) (t u bits : ℕ) → kind_fits (class_by d s) d.types (values.flags u bits) from ≡ true → is_transformable d.types from (kinds.flags t) ≡ true → nat_eq u t ≡ true
  flags_are (kinds.flags z) t u bits fit e =
      let a = eqb-true u z (both_parts (nat_eq u z) (nat_lt bits (2 ^ 32)) fit).0 in
      let b = eqb-true z t e in
      eq-eqb u t (a ∙ b)
  flags_are _ t u bits fit e = absurd (cc)

  object_lives : (from : Kind) (id : ℕ) → kind_fits (class_by d s) d.types (values.object (Some id)) from ≡ true → is_some (s id) ≡ true
  object_lives (kinds.object z) id fit = go (s id) fit
    where
      go : (o : Option ℕ) → is_one d.types z (number_for (class_at d) o) ≡ true → is_some o ≡ true
      go None e = absurd (cc)
      go (Some place) e = refl
  object_lives _ id fit = absurd (cc)

  converted_sets : (from to : Kind) (v u : Value) → kind_fits (class_by d s) d.types v from ≡ true → is_transformable d.types from to ≡ true → converted d.types to v ≡ Some u → MaySet to u
  converted_sets from kinds.bool (values.bool b) u fit e is = just kinds.bool _ u (refl, refl) is
  converted_sets from (kinds.whole k) (values.bool b) u fit e is = just (kinds.whole k) _ u (same_itself k, refl) is
  converted_sets from kinds.text (values.bool b) u fit e is = just kinds.text _ u (refl, refl) is
  converted_sets from kinds.bool (values.whole l n) u fit e is = just kinds.bool _ u (refl, refl) is
  converted_sets from (kinds.whole k) (values.whole l n) u fit e is = just (kinds.whole k) _ u (same_itself k, refl) is
  converted_sets from kinds.text (values.whole l n) u fit e is = just kinds.text _ u (refl, refl) is
  converted_sets from (kinds.enum t) (values.whole l n) u fit e is = if_just (kinds.enum t) (has_number (members_of d.types t) n) (values.enum t n) u (eq-eqb t t refl, refl) is
  converted_sets from (kinds.flags t) (values.whole l n) u fit e is = if_just (kinds.flags t) (is_known (members_of d.types t) n) (values.flags t (unsigned_abs n)) u (eq-eqb t t refl, refl) is
  converted_sets from kinds.text (values.text t) u fit e is = just kinds.text _ u (refl, refl) is
  converted_sets from (kinds.whole k) (values.enum t n) u fit e is = just (kinds.whole k) _ u (same_itself k, refl) is
  converted_sets from (kinds.enum t) (values.enum w n) u fit e is = just (kinds.enum t) (values.enum w n) u (enum_is from t w n fit e, refl) is
  converted_sets from (kinds.whole k) (values.flags t bits) u fit e is = just (kinds.whole k) _ u (same_itself k, refl) is
  converted_sets from (kinds.flags t) (values.flags w bits) u fit e is = just (kinds.flags t) (values.flags w bits) u (flags_are from t w bits fit e, refl) is
  converted_sets from (kinds.object t) (values.object None) u fit e is = just (kinds.object t) (values.object None) u (refl, refl) is
  converted_sets from (kinds.object t) (values.object (Some id)) u fit e is = just (kinds.object t) (values.object (Some id)) u (refl, object_lives from id fit) is
  converted_sets from _ _ u fit e is = absurd (cc)

  opposite_sets : (to : Kind) (v u : Value) → MaySet to v → opposite v ≡ Some u → MaySet to u
  opposite_sets kinds.bool (values.bool b) u h e = just kinds.bool (values.bool (not b)) u (refl, refl) e
  opposite_sets _ (values.bool b) u h e = absurd (let kind = h.0 in cc)
  opposite_sets _ _ u h e = absurd (cc)

  -- what is carried over may be set there
  pub carried_sets : (inverts : Bool) (from to : Kind) (v u : Value) → kind_fits (class_by d s) d.types v from ≡ true → is_transformable d.types from to ≡ true →
      inverted inverts (transformed d.types from to v) ≡ Some u → MaySet to u
  carried_sets inverts from to v u fit e is = go inverts (converted d.types to v) refl (sym (ap (λ b. inverted inverts (cond b (converted d.types to v) None)) e) ∙ is)
    where
      go : (inverts : Bool) (o : Option Value) → converted d.types to v ≡ o → inverted inverts o ≡ Some u → MaySet to u
      go false o f is = converted_sets from to v u fit e (f ∙ is)
      go true None f is = absurd (cc)
      go true (Some w) f is = opposite_sets to w u (converted_sets from to v w fit e f) is
