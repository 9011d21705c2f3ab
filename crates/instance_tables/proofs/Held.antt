-- What holds objects as they are written, disposed and finalised.
use Rattle.std.proofs.Common.{◌≡◌, refl, ap, sym, ◌∙◌, ℕ, zero, suc, ◌+◌, Bool, true, false, cond, List, [], ◌∷◌, map, Option, None, Some, IsSome, inl, inr, arith}
use Rattle.std.proofs.lemmas.Bool.{cases_eq}
use Rattle.std.specs.Option.{option_map}
use Rattle.ui_machine.specs.Seq.{read, write, total}
use Rattle.ui_machine.specs.Definition.Values.{Value}
use Rattle.ui_machine.specs.Definition.Values as values
use Rattle.ui_machine.specs.Definition.Properties.{Spec}
use Rattle.ui_machine.specs.Definition.{Definition}
use Rattle.ui_machine.specs.Definition.Lookups.{specs_of}
use Rattle.ui_machine.specs.State.Objects.{Object, Objects, living, put}
use Rattle.ui_machine.specs.State.References.{same, in_value, in_values, in_object, unheld_from}
use Rattle.ui_machine.specs.Rules.Disposal.{names_object, is_object, nulled, forgets, lets_go, orphans, without_parent, children_of, objects_disposed}
use Rattle.instance_tables.specs.Laws.{WritesMove, DisposeMoves, FinaliseMoves, CountsFind}

pub writes_move : WritesMove
writes_move [] vs slot s old v o e f = absurd (cc)
writes_move (t ∷ specs) [] slot s old v o e f = absurd (cc)
writes_move (t ∷ specs) (x ∷ vs) zero s old v o e f =
    let same : t ≡ s = cc in
    let was : x ≡ old = cc in
    rw (same, was) (omega arith)
writes_move (t ∷ specs) (x ∷ vs) (suc i) s old v o e f =
    omega (arith, writes_move specs vs i s old v o e f)

-- ** sums over objects

pub total_put : (f : Option Object → ℕ) (os : Objects) (i : ℕ) (x : Option Object) → f None ≡ 0
    → total f (write None os i x) + f (read None os i) ≡ total f os + f x
total_put f [] zero x none = omega (arith, none)
total_put f [] (suc i) x none = omega (arith, none, total_put f [] i x none)
total_put f (o ∷ os) zero x none = omega arith
total_put f (o ∷ os) (suc i) x none = omega (arith, total_put f os i x none)

-- a change that keeps what is summed
pub total_kept : (f : Option Object → ℕ) (g : Option Object → Option Object) (os : Objects)
    → ((x : Option Object) → f (g x) ≡ f x) → total f (map g os) ≡ total f os
total_kept f g [] same = refl
total_kept f g (x ∷ os) same = omega (arith, same x, total_kept f g os same)

-- ** what is forgotten

forgotten_one : (id o : ℕ) (weak : Bool) (v : Value) (a b : ℕ) → a ≡ b
    → cond weak 0 (in_value o (cond (cond weak (names_object id v) false) (values.object None) v)) + a ≡ cond weak 0 (in_value o v) + b
forgotten_one id o true v a b e = omega (arith, e)
forgotten_one id o false v a b e = omega (arith, e)

forgotten : (id o : ℕ) (specs : List Spec) (vs : List Value)
    → in_values o specs (nulled (λ s v. cond s.weak (names_object id v) false) specs vs) ≡ in_values o specs vs
forgotten id o [] vs = refl
forgotten id o (s ∷ specs) [] = refl
forgotten id o (s ∷ specs) (v ∷ vs) = forgotten_one id o s.weak v _ _ (forgotten id o specs vs)

pub forgets_nothing : (d : Definition) (id o : ℕ) (x : Option Object) → in_object d o (option_map (forgets d id) x) ≡ in_object d o x
forgets_nothing d id o None = refl
forgets_nothing d id o (Some x) = omega (arith, forgotten id o (specs_of d x.class) x.values)

dropped_one : (o : ℕ) (weak : Bool) (v : Value) → cond weak 0 (in_value o (cond (cond weak false (is_object v)) (values.object None) v)) ≡ 0
dropped_one o true v = refl
dropped_one o false (values.bool b) = refl
dropped_one o false (values.whole kind n) = refl
dropped_one o false (values.text s) = refl
dropped_one o false (values.enum type n) = refl
dropped_one o false (values.flags type bits) = refl
dropped_one o false (values.object i) = refl

dropped : (o : ℕ) (specs : List Spec) (vs : List Value) → in_values o specs (nulled (λ s v. cond s.weak false (is_object v)) specs vs) ≡ 0
dropped o [] vs = refl
dropped o (s ∷ specs) [] = refl
dropped o (s ∷ specs) (v ∷ vs) = omega (arith, dropped_one o s.weak v, dropped o specs vs)

let_go : (d : Definition) (o : ℕ) (x : Option Object) → in_object d o (option_map (lets_go d) x) ≡ 0
let_go d o None = refl
let_go d o (Some x) = omega (arith, dropped o (specs_of d x.class) x.values)

orphan_same : (d : Definition) (o : ℕ) (x : Option Object) → in_object d o (option_map without_parent x) ≡ in_object d o x
orphan_same d o None = refl
orphan_same d o (Some x) = refl

-- one object changed to what holds the same
put_same : (d : Definition) (o : ℕ) (os : Objects) (id : ℕ)
    → total (in_object d o) (put os id (option_map without_parent (living os id))) ≡ total (in_object d o) os
put_same d o os zero = refl
put_same d o os (suc i) = omega (arith, total_put (in_object d o) os i (option_map without_parent (read None os i)) refl, orphan_same d o (read None os i))

orphaned : (d : Definition) (o : ℕ) (ids : List ℕ) (os : Objects) → total (in_object d o) (orphans ids os) ≡ total (in_object d o) os
orphaned d o [] os = refl
orphaned d o (id ∷ ids) os = orphaned d o ids (put os id (option_map without_parent (living os id))) ∙ put_same d o os id

pub find_mapped : (g : Object → Object) (os : Objects) (i : ℕ) → read None (map (option_map g) os) i ≡ option_map g (read None os i)
find_mapped g [] i = refl
find_mapped g (o ∷ os) zero = refl
find_mapped g (o ∷ os) (suc i) = find_mapped g os i

pub dispose_moves : DisposeMoves
dispose_moves d os zero o = omega (arith, orphaned d o [] (map (option_map (forgets d 0)) os), total_kept (in_object d o) (option_map (forgets d 0)) os (forgets_nothing d 0 o))
dispose_moves d os (suc i) o =
    let ms : Objects = map (option_map (forgets d (suc i))) os in
    let was : in_object d o (read None ms i) ≡ in_object d o (read None os i) = ap (in_object d o) (find_mapped (forgets d (suc i)) os i)
    ∙ forgets_nothing d (suc i) o (read None os i) in
    omega (arith, orphaned d o (children_of (read None os i)) (write None ms i (option_map (lets_go d) (read None ms i))), total_put (in_object d o) ms i (option_map (lets_go d) (read None ms i)) refl, let_go d o (read None ms i), was, total_kept (in_object d o) (option_map (forgets d (suc i))) os (forgets_nothing d (suc i) o))

-- ** a finalised object

read_written : (os : Objects) (i : ℕ) (x : Option Object) → read None (write None os i x) i ≡ x
read_written [] zero x = refl
read_written [] (suc i) x = read_written [] i x
read_written (o ∷ os) zero x = refl
read_written (o ∷ os) (suc i) x = read_written os i x

read_other : (os : Objects) (i j : ℕ) (x : Option Object) → (i ≡ j → ⊥) → read None (write None os i x) j ≡ read None os j
read_other [] zero zero x ne = absurd (ne refl)
read_other [] zero (suc j) x ne = refl
read_other [] (suc i) zero x ne = refl
read_other [] (suc i) (suc j) x ne = read_other [] i j x (λ e. ne (ap suc e))
read_other (o ∷ os) zero zero x ne = absurd (ne refl)
read_other (o ∷ os) zero (suc j) x ne = refl
read_other (o ∷ os) (suc i) zero x ne = refl
read_other (o ∷ os) (suc i) (suc j) x ne = read_other os i j x (λ e. ne (ap suc e))

-- what one object holds is the same after another, or it, lost its parent
one_orphan : (d : Definition) (o : ℕ) (os : Objects) (c i : ℕ)
    → in_object d o (read None (put os c (option_map without_parent (living os c))) i) ≡ in_object d o (read None os i)
one_orphan d o os zero i = refl
one_orphan d o os (suc c) i = elim (cases_eq c i) [
  | inl same ↦ rw same (ap (in_object d o) (read_written os i (option_map without_parent (read None os i))) ∙ orphan_same d o (read None os i))
  | inr ne ↦ ap (in_object d o) (read_other os c i (option_map without_parent (read None os c)) ne)
]

all_orphans : (d : Definition) (o : ℕ) (ids : List ℕ) (os : Objects) (i : ℕ)
    → in_object d o (read None (orphans ids os) i) ≡ in_object d o (read None os i)
all_orphans d o [] os i = refl
all_orphans d o (c ∷ ids) os i = all_orphans d o ids (put os c (option_map without_parent (living os c))) i ∙ one_orphan d o os c i

holds_nothing : (d : Definition) (o : ℕ) (os : Objects) (i : ℕ) → in_object d o (read None (objects_disposed d (suc i) os) i) ≡ 0
holds_nothing d o os i =
    let ms : Objects = map (option_map (forgets d (suc i))) os in
    all_orphans d o (children_of (read None os i)) (write None ms i (option_map (lets_go d) (read None ms i))) i
    ∙ ap (in_object d o) (read_written ms i (option_map (lets_go d) (read None ms i)))
    ∙ let_go d o (read None ms i)

pub finalise_moves : FinaliseMoves
finalise_moves d os zero o = dispose_moves d os zero o
finalise_moves d os (suc i) o =
    omega (arith, dispose_moves d os (suc i) o, total_put (in_object d o) (objects_disposed d (suc i) os) i None refl, holds_nothing d o os i)

-- ** which is found

found_from : (f g : ℕ → ℕ) (i : ℕ) (os : Objects) → ((j : ℕ) → IsSome (read None os j) → f (i + j) ≡ g (i + j))
    → unheld_from f i os ≡ unheld_from g i os
found_from f g i [] same = refl
found_from f g i (None ∷ os) same =
    found_from f g (suc i) os (λ j some. let next : suc i + j ≡ i + suc j = omega arith in ap f next ∙ same (suc j) some ∙ sym (ap g next))
found_from f g i (Some o ∷ os) same =
    let here : i ≡ i + 0 = omega arith in
    let first : f i ≡ g i = ap f here ∙ same 0 refl ∙ sym (ap g here) in
    rw (first, found_from f g (suc i) os (λ j some. let next : suc i + j ≡ i + suc j = omega arith in ap f next ∙ same (suc j) some ∙ sym (ap g next))) refl

pub counted_finds : CountsFind
counted_finds os f g same = found_from f g 1 os (λ j some. let at : 1 + j ≡ suc j = omega arith in ap f at ∙ same (suc j) some ∙ sym (ap g at))
