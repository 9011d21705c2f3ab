-- Counts that stay exact where a property is written.
use Rattle.std.proofs.Common.{◌≡◌, ℕ, zero, suc, ◌+◌, List, [], ◌∷◌, map, Bool, true, false, not, cond, Option, Some, None, slice_get, slice_set, refl, sym, ap, arith}
use Rattle.ui_machine.specs.Seq.{read, total}
use Rattle.ui_machine.specs.Definition.{Definition}
use Rattle.ui_machine.specs.Definition.Lookups.{specs_of}
use Rattle.ui_machine.specs.Definition.Properties.{Spec}
use Rattle.ui_machine.specs.Definition.Values.{Value}
use Rattle.ui_machine.specs.State.Objects.{Object, Objects, living, put}
use Rattle.ui_machine.specs.State.References.{same, in_object, in_value, in_values}
use Rattle.instance_tables.specs.Weak.{is_strong}
use Rattle.instance_tables.specs.Laws.{WriteCounts}
use Rattle.instance_tables.proofs.Held.{total_put, writes_move}

abbrev marks : List Spec → List Bool
marks specs = map (λ (s : Spec). s.weak) specs

-- the mark of a slot, and true past the end
mark_there : (specs : List Spec) (slot : ℕ) (s : Spec) → slice_get specs slot ≡ Some s → read true (marks specs) slot ≡ s.weak
mark_there [] slot s e = absurd (cc)
mark_there (t ∷ specs) zero s e = let is : t ≡ s = cc in ap (λ (u : Spec). u.weak) is
mark_there (t ∷ specs) (suc i) s e = mark_there specs i s e

mark_past : (specs : List Spec) (slot : ℕ) → slice_get specs slot ≡ None → read true (marks specs) slot ≡ true
mark_past [] slot e = refl
mark_past (t ∷ specs) zero e = absurd (cc)
mark_past (t ∷ specs) (suc i) e = mark_past specs i e

-- a value past the properties holds nothing
past : (specs : List Spec) (vs : List Value) (slot : ℕ) (v : Value) (o : ℕ) → slice_get specs slot ≡ None
    → in_values o specs (slice_set vs slot v) ≡ in_values o specs vs
past [] vs slot v o e = refl
past (t ∷ specs) [] slot v o e = refl
past (t ∷ specs) (x ∷ vs) zero v o e = absurd (cc)
past (t ∷ specs) (x ∷ vs) (suc i) v o e = omega (arith, past specs vs i v o e)

turned : (w : Bool) (a : ℕ) → cond (not w) a 0 ≡ cond w 0 a
turned true a = refl
turned false a = refl

-- what is written moves the mentions in the values as the marks say
moved : (specs : List Spec) (vs : List Value) (slot : ℕ) (was v : Value) (o : ℕ) → slice_get vs slot ≡ Some was
    → in_values o specs (slice_set vs slot v) + cond (not (read true (marks specs) slot)) (in_value o was) 0
    ≡ in_values o specs vs + cond (not (read true (marks specs) slot)) (in_value o v) 0
moved specs vs slot was v o here = by (slice_get specs slot) refl
  where
    by : (s : Option Spec) → slice_get specs slot ≡ s
        → in_values o specs (slice_set vs slot v) + cond (not (read true (marks specs) slot)) (in_value o was) 0
        ≡ in_values o specs vs + cond (not (read true (marks specs) slot)) (in_value o v) 0
    by None e =
        let b : read true (marks specs) slot ≡ true = mark_past specs slot e in
        rw b (omega (arith, past specs vs slot v o e))
    by (Some s) e =
        let b : read true (marks specs) slot ≡ s.weak = mark_there specs slot s e in
        rw b
        (omega (arith, turned s.weak (in_value o was), turned s.weak (in_value o v), writes_move specs vs slot s was v o e here))

put_one : (d : Definition) (o : ℕ) (os : Objects) (id : ℕ) (x y : Object) → living os id ≡ Some x
    → total (in_object d o) (put os id (Some y)) + in_object d o (Some x) ≡ total (in_object d o) os + in_object d o (Some y)
put_one d o os zero x y here = absurd (cc)
put_one d o os (suc i) x y here =
    let was : in_object d o (read None os i) ≡ in_object d o (Some x) = ap (in_object d o) here in
    omega (arith, total_put (in_object d o) os i (Some y) refl, was)

pub write_exact : WriteCounts
write_exact d weak beside s n id slot x was v knows here value objects floats counts counted o =
    let y : Object = record x { values = slice_set x.values slot v } in
    let strong : is_strong weak x.class slot ≡ not (read true (marks (specs_of d x.class)) slot) =
    ap (λ (bs : List Bool). not (read true bs slot)) (sym (knows x.class)) in
    let gone : cond (is_strong weak x.class slot) (in_value o was) 0
    ≡ cond (not (read true (marks (specs_of d x.class)) slot)) (in_value o was) 0 = ap (λ b. cond b (in_value o was) 0) strong in
    let come : cond (is_strong weak x.class slot) (in_value o v) 0
    ≡ cond (not (read true (marks (specs_of d x.class)) slot)) (in_value o v) 0 = ap (λ b. cond b (in_value o v) 0) strong in
    let all : total (in_object d o) n.objects ≡ total (in_object d o) (put s.objects id (Some y)) =
    ap (λ (os : Objects). total (in_object d o) os) objects in
    let floating : total (same o) n.floating ≡ total (same o) s.floating = ap (λ (is : List ℕ). total (same o) is) floats in
    omega (
      arith,
      counted o,
      counts o,
      gone,
      come,
      all,
      floating,
      put_one d o s.objects id x y here,
      moved (specs_of d x.class) x.values slot was v o value,
    )
