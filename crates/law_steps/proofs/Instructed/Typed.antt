-- What it says of the instructions on registers that they keep their rules: the kinds of what they read, and those after them.
use Rattle.std.proofs.Common.{◌≡◌, refl, sym, ap, subst, ◌∙◌, ℕ, Bool, true, cond, List, Option, None, Some, Ok, slice_get}
use Rattle.std.specs.Prelude.{not, is_none}
use Rattle.ui_machine.specs.Seq.{write}
use Rattle.ui_machine.specs.Definition.Kinds.{Kind, RegisterKind}
use Rattle.ui_machine.specs.Definition.Kinds as kinds
use Rattle.ui_machine.specs.Definition.{Definition}
use Rattle.ui_machine.specs.Definition.Programs.{Block, Program}
use Rattle.ui_machine.specs.Definition.Places.{Place}
use Rattle.ui_machine.specs.Definition.Properties.{Spec, is_readable}
use Rattle.ui_machine.specs.Definition.Lookups.{slot_of, spec_of, place_of, place_at, program_of, program_at}
use Rattle.ui_machine.specs.Outcome.{known}
use Rattle.law_typing.specs.Rules.Answers.{Typing}
use Rattle.law_typing.specs.Rules.Answers as rules
use Rattle.law_typing.specs.Rules.RegisterKinds.{Kinds, kind_in, never_null, kinds_fit}
use Rattle.law_typing.specs.Rules.Typing.{set_in, passing, two_numbers, two_passing, is_bool, is_text, is_whole, is_same, is_comparable, moving, comparing, reckoning, sameness, negating, combining, joining, converting, converts_to, entering, branching, branching_null, may_be_null, property_of, get_property, changing_none, place_for, look_up_object, program_named, on_handlers, attaching, data_in, returning, is_result}
use Rattle.law_typing.specs.Rules.Typing as typing
use Rattle.law_typing.specs.Rules.Signatures.{takes, data_kinds}
use Rattle.law_typing.specs.Laws.WellRead.{is_set}
use Rattle.law_steps.proofs.Instructed.Inverse.{bound, only, known_is, set_is, passing_is, numbers_are, two_are}

-- the kinds with one written
abbrev pub with_kind : Kinds → ℕ → RegisterKind → Kinds
with_kind ks to k = write kinds.unset ks to k

pub moving_is : (ks : Kinds) (to from : ℕ) (next : Kinds) → moving ks to from ≡ Ok next →
    (is_set (kind_in ks from) ≡ true) × (next ≡ with_kind ks to (kind_in ks from))
unfolding moving
moving_is ks to from next e =
    let b = bound (set_in ks from) _ next e in
    let k = set_is ks from b.0 b.1 in
    (k.1, (let f = b.2 in let s : with_kind ks to b.0 ≡ next = cc in sym s ∙ ap (with_kind ks to) (sym k.0)))

pub comparing_is : (ks : Kinds) (to a b : ℕ) (next : Kinds) → comparing ks to a b ≡ Ok next →
    (is_whole (kind_in ks a) ≡ true) × (is_same (kind_in ks a) (kind_in ks b) ≡ true) × (next ≡ with_kind ks to (kinds.plain kinds.bool))
unfolding comparing
comparing_is ks to a b next e =
    let x = bound (two_numbers ks a b) _ next e in
    let n = numbers_are ks a b x.0 x.1 in
    (n.1, n.2, (let f = x.2 in let s : with_kind ks to (kinds.plain kinds.bool) ≡ next = cc in sym s))

pub reckoning_is : (ks : Kinds) (to a b : ℕ) (next : Kinds) → reckoning ks to a b ≡ Ok next →
    (is_whole (kind_in ks a) ≡ true) × (is_same (kind_in ks a) (kind_in ks b) ≡ true) × (next ≡ with_kind ks to (kind_in ks a))
unfolding reckoning
reckoning_is ks to a b next e =
    let x = bound (two_numbers ks a b) _ next e in
    let n = numbers_are ks a b x.0 x.1 in
    (n.1, n.2, (let f = x.2 in let s : with_kind ks to x.0 ≡ next = cc in sym s ∙ ap (with_kind ks to) (sym n.0)))

pub sameness_is : (d : Definition) (ks : Kinds) (to a b : ℕ) (next : Kinds) → sameness d ks to a b ≡ Ok next →
    (is_set (kind_in ks a) ≡ true) × (is_set (kind_in ks b) ≡ true) × (is_comparable d (kind_in ks a) (kind_in ks b) ≡ true)
    × (next ≡ with_kind ks to (kinds.plain kinds.bool))
unfolding sameness
sameness_is d ks to a b next e =
    let x = bound (set_in ks a) _ next e in
    let k = set_is ks a x.0 x.1 in
    let y = bound (passing ks b (is_comparable d x.0)) _ next x.2 in
    let l = passing_is ks b (is_comparable d x.0) y.0 y.1 in
    (k.1, l.1, ap (λ k. is_comparable d k (kind_in ks b)) k.0 ∙ l.2, (let f = y.2 in let s : with_kind ks to (kinds.plain kinds.bool) ≡ next = cc in sym s))

pub negating_is : (ks : Kinds) (to a : ℕ) (next : Kinds) → negating ks to a ≡ Ok next →
    (is_bool (kind_in ks a) ≡ true) × (next ≡ with_kind ks to (kinds.plain kinds.bool))
unfolding negating
negating_is ks to a next e =
    let x = bound (passing ks a is_bool) _ next e in
    let k = passing_is ks a is_bool x.0 x.1 in
    (k.2, (let f = x.2 in let s : with_kind ks to (kinds.plain kinds.bool) ≡ next = cc in sym s))

pub combining_is : (ks : Kinds) (to a b : ℕ) (next : Kinds) → combining ks to a b ≡ Ok next →
    (is_bool (kind_in ks a) ≡ true) × (is_bool (kind_in ks b) ≡ true) × (next ≡ with_kind ks to (kinds.plain kinds.bool))
unfolding combining
combining_is ks to a b next e =
    let x = bound (two_passing ks a b is_bool) _ next e in
    let k = two_are ks a b is_bool x.0 x.1 in
    (k.0, k.1, (let f = x.2 in let s : with_kind ks to (kinds.plain kinds.bool) ≡ next = cc in sym s))

-- a kind of texts is the one
text_kind : (k : RegisterKind) → is_text k ≡ true → k ≡ kinds.plain kinds.text
text_kind (kinds.plain kinds.text) e = refl
text_kind _ e = absurd (cc)

pub joining_is : (ks : Kinds) (to a b : ℕ) (next : Kinds) → joining ks to a b ≡ Ok next →
    (is_text (kind_in ks a) ≡ true) × (is_text (kind_in ks b) ≡ true) × (next ≡ with_kind ks to (kinds.plain kinds.text))
unfolding joining
joining_is ks to a b next e =
    let x = bound (two_passing ks a b is_text) _ next e in
    let k = two_are ks a b is_text x.0 x.1 in
    (k.0, k.1, (let f = x.2 in let s : with_kind ks to x.0 ≡ next = cc in sym s ∙ ap (with_kind ks to) (sym k.2 ∙ text_kind (kind_in ks b) k.1)))

pub converting_is : (d : Definition) (ks : Kinds) (to a : ℕ) (kind : Kind) (next : Kinds) → converting d ks to a kind ≡ Ok next →
    (is_set (kind_in ks a) ≡ true) × (converts_to d kind (kind_in ks a) ≡ true) × (next ≡ with_kind ks to (kinds.plain kind))
unfolding converting
converting_is d ks to a kind next e =
    let x = bound (passing ks a (converts_to d kind)) _ next e in
    let k = passing_is ks a (converts_to d kind) x.0 x.1 in
    (k.1, k.2, (let f = x.2 in let s : with_kind ks to (kinds.plain kind) ≡ next = cc in sym s))

-- ** jumps

-- the block that is gone to, which the kinds fit
pub record Enters (d : Definition) (p : Program) (ks : Kinds) (to : ℕ) : Type 0 where
  pub b : Block
  pub is : slice_get p.blocks to ≡ Some b
  pub fit : kinds_fit d ks b.entry ≡ true

pub entering_is : (d : Definition) (p : Program) (ks : Kinds) (to : ℕ) (next : Kinds) → entering d p ks to ≡ Ok next → Enters d p ks to
unfolding entering
entering_is d p ks to next e =
    let x = bound (known rules.block (slice_get p.blocks to)) _ next e in
    let o = only (kinds_fit d ks x.0.entry) rules.block (Ok ks) next x.2 in
    record { b = x.0; is = known_is rules.block (slice_get p.blocks to) x.0 x.1; fit = o.0 }

pub branching_is : (d : Definition) (p : Program) (ks : Kinds) (on then_to else_to : ℕ) (next : Kinds) → branching d p ks on then_to else_to ≡ Ok next →
    (is_bool (kind_in ks on) ≡ true) × Enters d p ks then_to × Enters d p ks else_to
unfolding branching
branching_is d p ks on then_to else_to next e =
    let x = bound (passing ks on is_bool) _ next e in
    let y = bound (entering d p ks then_to) _ next x.2 in
    ((passing_is ks on is_bool x.0 x.1).2, entering_is d p ks then_to y.0 y.1, entering_is d p ks else_to next y.2)

pub branching_null_is : (d : Definition) (p : Program) (ks : Kinds) (on then_to else_to : ℕ) (next : Kinds) → branching_null d p ks on then_to else_to ≡ Ok next →
    (may_be_null d (kind_in ks on) ≡ true) × Enters d p ks then_to × Enters d p (with_kind ks on (never_null (kind_in ks on))) else_to
unfolding branching_null
branching_null_is d p ks on then_to else_to next e =
    let x = bound (passing ks on (may_be_null d)) _ next e in
    let k = passing_is ks on (may_be_null d) x.0 x.1 in
    let y = bound (entering d p ks then_to) _ next x.2 in (
      k.2,
      entering_is d p ks then_to y.0 y.1,
      subst (λ k. Enters d p (with_kind ks on (never_null k)) else_to) (sym k.0) (entering_is d p (with_kind ks on (never_null x.0)) else_to next y.2),
    )

-- ** objects

-- a property that a name finds in a class
pub record Found (d : Definition) (ks : Kinds) (object : ℕ) (name : List ℕ) (s : Spec) : Type 0 where
  pub class : ℕ
  pub operand : typing.operand d ks object ≡ Ok class
  pub slot : ℕ
  pub is : slot_of d class name ≡ Some slot
  pub has : spec_of d class slot ≡ Some s

pub property_is : (d : Definition) (ks : Kinds) (object : ℕ) (name : List ℕ) (s : Spec) → property_of d ks object name ≡ Ok s → Found d ks object name s
unfolding property_of
property_is d ks object name s e =
    let x = bound (typing.operand d ks object) _ s e in
    let y = bound (known rules.unknown (slot_of d x.0 name)) _ s x.2 in
    record {
      class = x.0;
      operand = x.1;
      slot = y.0;
      is = known_is rules.unknown (slot_of d x.0 name) y.0 y.1;
      has = known_is rules.unknown (spec_of d x.0 y.0) s y.2;
    }

-- a readable one is got
pub record Got (d : Definition) (ks : Kinds) (to object : ℕ) (name : List ℕ) (next : Kinds) : Type 0 where
  pub spec : Spec
  pub found : Found d ks object name spec
  pub readable : is_readable spec ≡ true
  pub kinds_are : next ≡ with_kind ks to (kinds.plain spec.kind)

pub getting_is : (d : Definition) (ks : Kinds) (to object : ℕ) (name : List ℕ) (next : Kinds) → get_property d ks to object name ≡ Ok next → Got d ks to object name next
unfolding get_property
getting_is d ks to object name next e =
    let x = bound (property_of d ks object name) _ next e in
    let o = only (is_readable x.0) rules.flags (Ok (with_kind ks to (kinds.plain x.0.kind))) next x.2 in
    record {
      spec = x.0;
      found = property_is d ks object name x.0 x.1;
      readable = o.0;
      kinds_are = (let f = o.1 in let s : with_kind ks to (kinds.plain x.0.kind) ≡ next = cc in sym s);
    }

pub changing_none_is : {A : Type 0} (ks : Kinds) (tested : Typing A) (next : Kinds) → changing_none ks tested ≡ Ok next → (x : A) × (tested ≡ Ok x) × (next ≡ ks)
unfolding changing_none
changing_none_is ks tested next e =
    let x = bound tested _ next e in
    (x.0, x.1, (let f = x.2 in let s : ks ≡ next = cc in sym s))

-- the place of an id
pub record Placed (d : Definition) (ks : Kinds) (to : ℕ) (id : List ℕ) (of_prototype : Bool) (next : Kinds) : Type 0 where
  pub place : ℕ
  pub p : Place
  pub is : place_of d id ≡ Some place
  pub has : place_at d place ≡ Some p
  pub allowed : cond of_prototype p.is_prototype (not p.is_prototype) ≡ true
  pub kinds_are : next ≡ with_kind ks to (kinds.at_or_null place)

pub naming_is : (d : Definition) (ks : Kinds) (to : ℕ) (id : List ℕ) (of_prototype : Bool) (next : Kinds) → look_up_object d ks to id of_prototype ≡ Ok next → Placed d ks to id of_prototype next
unfolding look_up_object place_for
naming_is d ks to id of_prototype next e =
    let x = bound (place_for d id of_prototype) _ next e in
    let y = bound (known rules.unknown (place_of d id)) _ x.0 x.1 in
    let z = bound (known rules.unknown (place_at d y.0)) _ x.0 y.2 in
    let o = only (cond of_prototype z.0.is_prototype (not z.0.is_prototype)) rules.unknown (Ok y.0) x.0 z.2 in
    record {
      place = y.0;
      p = z.0;
      is = known_is rules.unknown (place_of d id) y.0 y.1;
      has = known_is rules.unknown (place_at d y.0) z.0 z.1;
      allowed = o.0;
      kinds_are = (let f = x.2 in let g = o.1 in let s : with_kind ks to (kinds.at_or_null x.0) ≡ next = cc in let q : y.0 ≡ x.0 = cc in sym s ∙ ap (λ p. with_kind ks to (kinds.at_or_null p)) (sym q));
    }

-- the program of a name
pub program_is : (d : Definition) (name : List ℕ) (p : Program) → program_named d name ≡ Ok p → (number : ℕ) × (program_of d name ≡ Some number) × (program_at d number ≡ Some p)
unfolding program_named
program_is d name p e =
    let x = bound (known rules.unknown (program_of d name)) _ p e in
    (x.0, known_is rules.unknown (program_of d name) x.0 x.1, known_is rules.unknown (program_at d x.0) p x.2)

-- an object operand and a program
pub on_handlers_is : (d : Definition) (ks : Kinds) (object : ℕ) (program : List ℕ) (next : Kinds) → on_handlers d ks object program ≡ Ok next →
    (class : ℕ) × (typing.operand d ks object ≡ Ok class) × (number : ℕ) × (program_of d program ≡ Some number) × (next ≡ ks)
unfolding on_handlers
on_handlers_is d ks object program next e =
    let x = bound (typing.operand d ks object) _ next e in
    let y = changing_none_is ks (program_named d program) next x.2 in
    let p = program_is d program y.0 y.1 in
    (x.0, x.1, p.0, p.1, y.2)

-- ** sources

-- the program of a source, and the kind of its data
pub record Attaches (d : Definition) (ks : Kinds) (to : ℕ) (program : List ℕ) (with : Option ℕ) (next : Kinds) : Type 0 where
  pub number : ℕ
  pub p : Program
  pub data_kind : Option RegisterKind
  pub is : program_of d program ≡ Some number
  pub there : program_at d number ≡ Some p
  pub given : data_in d ks with ≡ Ok data_kind
  pub takes : takes d p (data_kinds data_kind) (Some kinds.bool) ≡ true
  pub kinds_are : next ≡ with_kind ks to (kinds.plain kinds.bool)

pub attaching_is : (d : Definition) (ks : Kinds) (to : ℕ) (program : List ℕ) (with : Option ℕ) (next : Kinds) → attaching d ks to program with ≡ Ok next → Attaches d ks to program with next
unfolding attaching
attaching_is d ks to program with next e =
    let x = bound (program_named d program) _ next e in
    let y = bound (data_in d ks with) _ next x.2 in
    let o = only (takes d x.0 (data_kinds y.0) (Some kinds.bool)) rules.signature (Ok (with_kind ks to (kinds.plain kinds.bool))) next y.2 in
    let p = program_is d program x.0 x.1 in
    record {
      number = p.0;
      p = x.0;
      data_kind = y.0;
      is = p.1;
      there = p.2;
      given = y.1;
      takes = o.0;
      kinds_are = (let f = o.1 in let s : with_kind ks to (kinds.plain kinds.bool) ≡ next = cc in sym s);
    }

-- the data operand, where there is one
pub data_is : (d : Definition) (ks : Kinds) (register : ℕ) (k : Option RegisterKind) → data_in d ks (Some register) ≡ Ok k →
    (class : ℕ) × (typing.operand d ks register ≡ Ok class) × (k ≡ Some (kind_in ks register))
unfolding data_in
data_is d ks register k e =
    let x = bound (typing.operand d ks register) _ k e in
    (x.0, x.1, (let f = x.2 in let s : Some (kind_in ks register) ≡ k = cc in sym s))

pub no_data_is : (d : Definition) (ks : Kinds) (k : Option RegisterKind) → data_in d ks None ≡ Ok k → k ≡ None
unfolding data_in
no_data_is d ks k e = let s : None ≡ k = cc in sym s

-- ** returns

-- what a return says of the result
abbrev pub Returned : Definition → Kinds → Option ℕ → Option Kind → Type 0
Returned d ks None result = is_none result ≡ true
Returned d ks (Some from) result = (is_set (kind_in ks from) ≡ true) × (is_result d (kind_in ks from) result ≡ true)

pub returning_is : (d : Definition) (p : Program) (ks : Kinds) (from : Option ℕ) (next : Kinds) → returning d p ks from ≡ Ok next → Returned d ks from p.result
unfolding returning
returning_is d p ks None next e = (only (is_none p.result) rules.result (Ok ks) next e).0
returning_is d p ks (Some from) next e =
    let x = bound (set_in ks from) _ next e in
    let k = set_is ks from x.0 x.1 in
    let o = only (is_result d x.0 p.result) rules.result (Ok ks) next x.2 in
    (k.1, ap (λ k. is_result d k p.result) k.0 ∙ o.0)
