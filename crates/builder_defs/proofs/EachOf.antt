-- Values of some kinds, one after the other, as a loop reads them.
use Rattle.std.proofs.Common.{◌≡◌, ℕ, zero, suc, ◌+◌, ◌≤◌, ◌<◌, List, [], ◌∷◌, map, length, drop, get_or, slice_get, None, Some, Result, Ok, refl, sym, ap, subst, ◌∙◌, arith, add-one}
use Rattle.std.specs.List.{AllByRecursion}
use Rattle.std.proofs.Math.Seq.{drop-cons}
use Rattle.std.proofs.lemmas.List.{nil_from_length, length-drop, length-map}
use Rattle.serde_json.specs.declared.value.Value.{Value}
use Rattle.serde_json.specs.Data.{Data, item, no_items}
use Rattle.serde_json.specs.View.{view, items_view}
use Rattle.ui_machine.specs.Outcome.{◌>>=◌}
use Rattle.ui_machine.specs.Definition.Kinds as kinds
use Rattle.ui_machine.specs.Definition.Types.{GType}
use Rattle.g_values.specs.declared.kind.Kind.{Kind}
use Rattle.g_values.specs.declared.kind.Kind.TheVariants as code
use Rattle.g_values.specs.View.{kind_view, IsKnown}
use Rattle.definition_format.specs.declared.event_faults.EventError.{EventError}
use Rattle.definition_format.specs.declared.event_faults.EventError.TheVariants as errors
use Rattle.definition_format.specs.Meaning.{IsKnownKind}
use Rattle.definition_format.specs.EventMeaning.{EventRefusal, Fails, count, each_of}

one_more : (vs : List Value) (i : ℕ) (v : Value) → i < length vs → v ≡ get_or vs i v → items_view (drop i vs) ≡ item (view v) (items_view (drop (i + 1) vs))
one_more vs i v lt is = let e : drop i vs ≡ get_or vs i v ∷ drop (suc i) vs = drop-cons vs i v lt in rw (add-one, e, ← is) refl

pub params_are : (ks : List Kind) → length (map kind_view ks) ≡ length ks
params_are ks = length-map ks kind_view

pub count_is : (vs : List Value) → count (items_view vs) ≡ length vs
count_is [] = refl
count_is (v ∷ vs) = ap suc (count_is vs)

kind_next : (ks : List Kind) (i : ℕ) (k : Kind) → slice_get ks i ≡ Some k → map kind_view (drop i ks) ≡ kind_view k ∷ map kind_view (drop (suc i) ks)
kind_next [] i k h = absurd (cc)
kind_next (x ∷ ks) zero k h = let e : x ≡ k = cc in ap (λ y. kind_view y ∷ map kind_view ks) e
kind_next (x ∷ ks) (suc i) k h = kind_next ks i k h

kind_more : (ks : List Kind) (i : ℕ) (k : Kind) → slice_get ks i ≡ Some k → map kind_view (drop i ks) ≡ kind_view k ∷ map kind_view (drop (i + 1) ks)
kind_more ks i k h = kind_next ks i k h ∙ ap (λ n. kind_view k ∷ map kind_view (drop n ks)) (sym (add-one i))

no_kind : (ks : List Kind) (i : ℕ) → slice_get ks i ≡ None → drop i ks ≡ []
no_kind [] zero h = refl
no_kind [] (suc i) h = refl
no_kind (x ∷ ks) zero h = absurd (cc)
no_kind (x ∷ ks) (suc i) h = no_kind ks i h

-- the kind of an entry is known among these types
pub known_at : (types : List GType) (ks : List Kind) (i : ℕ) (k : Kind) → AllByRecursion (IsKnownKind types) (map kind_view ks) → slice_get ks i ≡ Some k → IsKnown types k
known_at types [] i k all h = absurd (cc)
known_at types (x ∷ ks) zero k all h = let e : x ≡ k = cc in subst (IsKnown types) e (known x all.0)
  where
    known : (x : Kind) → IsKnownKind types (kind_view x) → IsKnown types x
    known code.Bool p = tt
    known code.Int p = tt
    known code.UInt p = tt
    known code.Int64 p = tt
    known code.UInt64 p = tt
    known code.Text p = tt
    known (code.Enum t) p = p
    known (code.Flags t) p = p
    known (code.Object t) p = tt
known_at types (x ∷ ks) (suc i) k all h = known_at types ks i k all.1 h

-- what is left of it
abbrev pub left : {S : Type 0} → (S → kinds.Kind → Data → Result S EventRefusal) → List Kind → List Value → ℕ → S → Result S EventRefusal
left step ks vs i s = each_of step s (map kind_view (drop i ks)) (items_view (drop i vs))

module _ {S : Type 0} (step : S → kinds.Kind → Data → Result S EventRefusal) (ks : List Kind) (vs : List Value) (i : ℕ) (s : S) (total : Result S EventRefusal) where
  turn : (k : Kind) (v : Value) → slice_get ks i ≡ Some k → i < length vs → v ≡ get_or vs i v
      → left step ks vs i s ≡ (step s (kind_view k) (view v) >>= λ t. each_of step t (map kind_view (drop (i + 1) ks)) (items_view (drop (i + 1) vs)))
  unfolding each_of
  turn k v has lt is = rw (one_more vs i v lt is, kind_more ks i k has) refl

  pub goes_on : (k : Kind) (v : Value) (t : S) → slice_get ks i ≡ Some k → i < length vs → v ≡ get_or vs i v → step s (kind_view k) (view v) ≡ Ok t
      → left step ks vs i s ≡ total → left step ks vs (i + 1) t ≡ total
  goes_on k v t has lt is h so = sym (turn k v has lt is ∙ ap (λ r. r >>= λ u. each_of step u (map kind_view (drop (i + 1) ks)) (items_view (drop (i + 1) vs))) h) ∙ so

  pub ends : (e : EventError) (k : Kind) (v : Value) → slice_get ks i ≡ Some k → i < length vs → v ≡ get_or vs i v → Fails e (step s (kind_view k) (view v))
      → left step ks vs i s ≡ total → Fails e total
  ends errors.OutOfMemory k v has lt is h so = tt
  ends (errors.Refused f) k v has lt is h so = sym so ∙ turn k v has lt is ∙ ap (λ r. r >>= λ u. each_of step u (map kind_view (drop (i + 1) ks)) (items_view (drop (i + 1) vs))) h

  -- no kind is left
  pub kinds_done : slice_get ks i ≡ None → left step ks vs i s ≡ total → total ≡ Ok s
  unfolding each_of
  kinds_done none so =
      let one : left step ks vs i s ≡ Ok s = rw (no_kind ks i none) refl in
      sym so ∙ one

  values_done : (all : List kinds.Kind) → each_of step s all no_items ≡ Ok s
  unfolding each_of
  values_done [] = refl
  values_done (k ∷ more) = refl

  -- no value is left
  pub is_done : length vs ≤ i → left step ks vs i s ≡ total → total ≡ Ok s
  is_done le so =
      let none : drop i vs ≡ [] = nil_from_length (drop i vs) (omega (arith, length-drop i vs)) in
      let one : left step ks vs i s ≡ Ok s = ap (λ (more : List Value). each_of step s (map kind_view (drop i ks)) (items_view more)) none ∙ values_done (map kind_view (drop i ks)) in
      sym so ∙ one
