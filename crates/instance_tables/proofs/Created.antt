-- Objects that are made, and counts that stay exact where they are and where they begin floating.
use Rattle.std.proofs.Common.{◌≡◌, ℕ, ◌+◌, zero, suc, List, [], ◌∷◌, ◌++◌, map, Option, Some, None, Bool, true, false, ◌&&◌, cond, refl, arith}
use Rattle.std.specs.List.{list_all}
use Rattle.ui_machine.specs.Seq.{read, total}
use Rattle.ui_machine.specs.Definition.{Definition}
use Rattle.ui_machine.specs.Definition.Kinds.{Kind}
use Rattle.ui_machine.specs.Definition.Kinds as kinds
use Rattle.ui_machine.specs.Definition.Lookups.{specs_of}
use Rattle.ui_machine.specs.Definition.Properties.{Spec}
use Rattle.ui_machine.specs.Definition.Types.{GType}
use Rattle.ui_machine.specs.Definition.Values.{Value}
use Rattle.ui_machine.specs.Definition.Values as values
use Rattle.ui_machine.specs.Rules.Construction.{has_valid_default}
use Rattle.ui_machine.specs.Rules.Transform.{kind_fits}
use Rattle.ui_machine.specs.State.Objects.{Object, Objects}
use Rattle.ui_machine.specs.State.References.{same, in_object, in_value, in_values}
use Rattle.instance_tables.specs.Store.{count_of, so_often}
use Rattle.instance_tables.specs.Laws.{CreateCounts, FloatCounts, MadeHoldsNothing, NoneCounts}
use Rattle.instance_tables.proofs.Families.{was_made}
use Rattle.instance_tables.proofs.Exact.{one_more}
use Rattle.instance_tables.proofs.Moves.{more_at}

-- ** what a new object holds

-- a value that fits with no object living names none
fits_none : (types : List GType) (o : ℕ) (v : Value) (k : Kind) → kind_fits (λ id. None) types v k ≡ true → in_value o v ≡ 0
fits_none types o (values.bool b) k fits = refl
fits_none types o (values.whole l n) k fits = refl
fits_none types o (values.text s) k fits = refl
fits_none types o (values.enum t n) k fits = refl
fits_none types o (values.flags t bits) k fits = refl
fits_none types o (values.object None) k fits = refl
fits_none types o (values.object (Some id)) kinds.bool fits = absurd (cc)
fits_none types o (values.object (Some id)) (kinds.whole l) fits = absurd (cc)
fits_none types o (values.object (Some id)) kinds.text fits = absurd (cc)
fits_none types o (values.object (Some id)) (kinds.enum t) fits = absurd (cc)
fits_none types o (values.object (Some id)) (kinds.flags t) fits = absurd (cc)
fits_none types o (values.object (Some id)) (kinds.object t) fits = absurd (cc)

both : (a b : Bool) → a && b ≡ true → (a ≡ true) × (b ≡ true)
both true b e = (refl, e)
both false b e = absurd (cc)

nothing_in : (weak : Bool) (n m : ℕ) → n ≡ 0 → m ≡ 0 → cond weak 0 n + m ≡ 0
nothing_in true n m e f = omega (arith, f)
nothing_in false n m e f = omega (arith, e, f)

defaults : (d : Definition) (o : ℕ) (specs : List Spec) → list_all (has_valid_default d) specs ≡ true
    → in_values o specs (map (λ (s : Spec). s.default) specs) ≡ 0
defaults d o [] all = refl
defaults d o (s ∷ specs) all =
    let here = both (has_valid_default d s) (list_all (has_valid_default d) specs) all in
    let fits = both (kind_fits (λ id. None) d.types s.default s.kind) _ here.0 in
    nothing_in s.weak _ _ (fits_none d.types o s.default s.kind fits.0) (defaults d o specs here.1)

pub made_holds : MadeHoldsNothing
made_holds d place p peer o all = omega (arith, defaults d o (specs_of d p.class) all)

-- ** no object

pub none_exact : NoneCounts
none_exact d limit zero = refl
none_exact d limit (suc o) = refl

-- ** one object more

total_more : (f : Option Object → ℕ) (os : Objects) (x : Option Object) → total f (os ++ x ∷ []) ≡ total f os + f x
total_more f [] x = omega arith
total_more f (o ∷ os) x = omega (arith, total_more f os x)

read_more : (counts : List ℕ) (i : ℕ) → ◌≡◌ {A = ℕ} (read 0 (counts ++ 0 ∷ []) i) (read 0 counts i)
read_more [] zero = refl
read_more [] (suc i) = refl
read_more (c ∷ counts) zero = refl
read_more (c ∷ counts) (suc i) = read_more counts i

count_more : (counts : List ℕ) (o : ℕ) → ◌≡◌ {A = ℕ} (count_of (counts ++ 0 ∷ []) o) (count_of counts o)
count_more counts zero = refl
count_more counts (suc i) = read_more counts i

pub create_exact : CreateCounts
create_exact d beside s x counted o =
    omega (arith, counted o, count_more s.counts o, total_more (in_object d o) s.objects (Some x))

-- ** what begins floating

pub float_exact : FloatCounts
float_exact d beside s id lives counted o =
    let once : same o id ≡ so_often 1 id o = refl in
    omega (
      arith,
      counted o,
      once,
      more_at s.counts id (count_of s.counts id + 1) 1 (was_made s.objects id lives).0 refl o,
      one_more o id s.floating,
    )
