-- Which object is the next that lives.
use Rattle.std.proofs.Common.{◌≡◌, ℕ, ◌<◌, ◌≤◌, Bor, List, [], ◌∷◌, Bool, true, false, Option, Some, None, is_some, IsSome, inl, inr, refl, sym, ap, subst, ◌∙◌, arith}
use Rattle.std.proofs.lemmas.Bool.{cases_eq}
use Rattle.std.proofs.lemmas.Bool.Decides.{nat_tests}
use Rattle.std.proofs.lemmas.Map.Keys.{sorted_head, sorted_tail}
use Rattle.std.specs.BTreeMap.Range.{entries_between}
use Rattle.std.specs.List.Sorted.{IsStrictlySortedBy}
use Rattle.std.specs.Map.{keys_of}
use Rattle.std.specs.Option.{option_copied}
use Rattle.std.specs.Ordering.{nat_cmp, is_le}
use Rattle.std.specs.declared.ops.Bound.{Bound}
use Rattle.std.specs.declared.ops.Bound.TheVariants.{Included, Unbounded}
use Rattle.ui_machine.specs.declared.ids.ObjectId.{ObjectId}
use Rattle.instance_tables.specs.Index.{in_order, put_first}
use Rattle.instance_tables.specs.Store.{IsNextLiving, Store}
use Rattle.instance_tables.specs.View.{InRange, first_identity, instances_at, store_of}
use Rattle.instance_tables.specs.declared.instance.Instance.{Instance}
use Rattle.instance_tables.specs.declared.instances.Entry.{Entry}
use Rattle.instance_tables.proofs.InOrder.{seen_between}
use Rattle.instance_tables.proofs.Indexed.{Entries}
use Rattle.instance_tables.proofs.Scan.{above, look, look_other, look_self}
use Rattle.instance_tables.proofs.Shown.{lives}

-- ** among the keys

-- the first one of those between bounds is that under their keys
pub first_between : (low high : Bound ℕ) (entries : Entries) (ks : List (ℕ × ℕ)) (old : List (ℕ × Instance)) → in_order entries ks ≡ old
    → first_identity (entries_between nat_cmp low high old) ≡ first_identity (in_order entries (entries_between nat_cmp low high ks))
first_between low high entries ks old is =
    ap (λ es. first_identity (entries_between nat_cmp low high es)) (sym is) ∙ ap first_identity (seen_between low high entries ks)

-- what is borrowed is there where it is
pub copied_some : {X : Type 0} (o : Option (Bor X)) → is_some (option_copied o) ≡ is_some o
copied_some None = refl
copied_some (Some x) = refl

-- a key under which an entry is, is the first
stops_there : (entries : Entries) (all rest : List (ℕ × ℕ)) (k : ℕ × ℕ) → all ≡ k ∷ rest → (x : Entry) → entries k.1 ≡ Some x
    → first_identity (in_order entries all) ≡ Some k.0
stops_there entries all rest k next x here =
    ap (λ ks. first_identity (in_order entries ks)) next
    ∙ ap (λ o. first_identity (put_first k.0 o (in_order entries rest))) here

-- and so is one that has one
pub stops_some : (entries : Entries) (all rest : List (ℕ × ℕ)) (k : ℕ × ℕ) → all ≡ k ∷ rest → is_some (entries k.1) ≡ true
    → first_identity (in_order entries all) ≡ Some k.0
stops_some entries all rest k next some = by (entries k.1) refl some
  where
    by : (o : Option Entry) → entries k.1 ≡ o → is_some o ≡ true → first_identity (in_order entries all) ≡ Some k.0
    by None e h = absurd (cc)
    by (Some x) e h = stops_there entries all rest k next x e

-- ** among instances in their order

-- the first identity from a number on is the lowest of them
pub record IsFirstFrom (es : List (ℕ × Instance)) (from : ℕ) (first : Option ℕ) : Type 0 where
  pub there : (q : ℕ) → first ≡ Some q → (from ≤ q) × IsSome (look es q)
  pub lowest : (q : ℕ) → from ≤ q → IsSome (look es q) → (n : ℕ) × (first ≡ Some n) × (n ≤ q)

pub first_is_lowest : (from : ℕ) (es : List (ℕ × Instance)) → IsStrictlySortedBy nat_cmp (keys_of es)
    → IsFirstFrom es from (first_identity (entries_between nat_cmp (Included from) Unbounded es))
first_is_lowest from [] sorted = record {
  there = λ q e. absurd (cc);
  lowest = λ q low some. absurd (let no : false ≡ true = some in cc);
}
first_is_lowest from (e ∷ es) sorted = by (first_is_lowest from es (sorted_tail nat_cmp e.0 (keys_of es) sorted)) (is_le (nat_cmp from e.0)) refl
  where
    later : (q : ℕ) → IsSome (look es q) → e.0 < q
    later = above e.0 es (sorted_head nat_cmp e.0 (keys_of es) sorted)

    by : IsFirstFrom es from (first_identity (entries_between nat_cmp (Included from) Unbounded es)) → (b : Bool) → is_le (nat_cmp from e.0) ≡ b
        → IsFirstFrom (e ∷ es) from (first_identity (entries_between nat_cmp (Included from) Unbounded (e ∷ es)))
    by rest true at =
        let low : from ≤ e.0 = grind (arith, nat_tests) in
        let first : first_identity (entries_between nat_cmp (Included from) Unbounded (e ∷ es)) ≡ Some e.0 = rw at refl in
        record {
          there = λ q f.
              let same : e.0 ≡ q = let both : Some e.0 ≡ Some q = sym first ∙ f in cc in
              subst (λ n. (from ≤ n) × IsSome (look (e ∷ es) n)) same (low, ap is_some (look_self e es));
          lowest = λ q more some.
              elim (cases_eq q e.0) [
                | inl same ↦ (e.0, first, omega (arith, same))
                | inr ne ↦ (e.0, first, omega (arith, later q (subst IsSome (look_other e es q ne) some)))
              ];
        }
    by rest false at =
        let small : e.0 < from = grind (arith, nat_tests) in
        let same : first_identity (entries_between nat_cmp (Included from) Unbounded (e ∷ es))
        ≡ first_identity (entries_between nat_cmp (Included from) Unbounded es) = rw at refl in
        record {
          there = λ q f.
              let found = rest.there q (sym same ∙ f) in
              (found.0, subst IsSome (sym (look_other e es q (λ is. omega (arith, is, small, found.0)))) found.1);
          lowest = λ q more some.
              let found = rest.lowest q more (subst IsSome (look_other e es q (λ is. omega (arith, is, small, more))) some) in
              (found.0, same ∙ found.1, found.2);
        }

-- ** what lives

pub next_lives : (es : List (ℕ × Instance)) (made limit : ℕ) (floats : List ObjectId) (s : Store) → InRange (instances_at es) made
    → store_of (instances_at es) made limit floats ≡ s → IsStrictlySortedBy nat_cmp (keys_of es) → (from : ℕ) (next : Option ℕ)
    → next ≡ first_identity (entries_between nat_cmp (Included from) Unbounded es) → IsNextLiving s.objects from next
next_lives es made limit floats s range is sorted from next e =
    let first = first_is_lowest from es sorted in
    record {
      lives = λ id f.
          let found = first.there id (sym e ∙ f) in
          (found.0, sym (lives (instances_at es) made limit floats s range is id) ∙ found.1);
      lowest = λ id low some.
          let found = first.lowest id low (lives (instances_at es) made limit floats s range is id ∙ some) in
          (found.0, e ∙ found.1, found.2);
    }
