-- What is let go of where an object is disposed, one after the other.
use Rattle.std.proofs.Common.{◌≡◌, ℕ, zero, suc, ◌+◌, ◌<◌, length, get_or, take, List, [], ◌∷◌, ◌++◌, Bool, true, false, cond, nat_eq, slice_get, None, refl, ap, ◌∙◌, arith}
use Rattle.std.proofs.lemmas.Bool.Decides.{nat_tests}
use Rattle.ui_machine.specs.Seq.{total}
use Rattle.ui_machine.specs.Definition.Values.{Value}
use Rattle.ui_machine.specs.State.Objects.{Objects}
use Rattle.ui_machine.specs.State.References.{in_option, in_value, same}
use Rattle.ui_machine.specs.Rules.Children.{updated, with_parent}
use Rattle.ui_machine.specs.Rules.Disposal.{orphans, without_parent}
use Rattle.ui_machine.specs.declared.ids.ObjectId.{ObjectId}
use Rattle.instance_tables.specs.Store.{Store, ids_of, with_objects}
use Rattle.instance_tables.specs.Release.{in_strong, name_in}
use Rattle.instance_tables.proofs.Written.{by_name}

-- ** values

nothing : (b : Bool) → ◌≡◌ {A = ℕ} (cond b 0 0) 0
nothing true = refl
nothing false = refl

-- one value more
pub strong_more : (o : ℕ) (bs : List Bool) (vs : List Value) (i : ℕ) (d : Bool) → i < length bs
    → in_strong o (take (i + 1) bs) vs ≡ in_strong o (take i bs) vs + cond (get_or bs i d) 0 (in_option o (name_in (slice_get vs i)))
strong_more o bs vs i d small = let next : i + 1 ≡ suc i = omega arith in ap (λ k. in_strong o (take k bs) vs) next ∙ by bs vs i small
  where
    by : (bs : List Bool) (vs : List Value) (i : ℕ) → i < length bs
        → in_strong o (take (suc i) bs) vs
        ≡ in_strong o (take i bs) vs + cond (get_or bs i d) 0 (in_option o (name_in (slice_get vs i)))
    by [] vs i small = absurd (omega (arith, small))
    by (b ∷ bs) [] zero small = omega (arith, nothing b)
    by (b ∷ bs) [] (suc i) small = omega (arith, nothing (get_or bs i d))
    by (b ∷ bs) (v ∷ vs) zero small =
        let named : cond b 0 (in_option o (name_in (slice_get (v ∷ vs) 0))) ≡ cond b 0 (in_value o v) = ap (λ n. cond b 0 n) (by_name o v) in
        omega (arith, named)
    by (b ∷ bs) (v ∷ vs) (suc i) small = omega (arith, by bs vs i (omega (arith, small)))

-- ** children

itself : (n : ℕ) → same n n ≡ 1
itself n = let yes : nat_eq n n ≡ true = grind (arith, nat_tests) in ap (λ b. cond b 1 0) yes

-- what is in a list is among its identities
pub stands : (ids : List ObjectId) (i : ℕ) (d : ObjectId) → i < length ids → 0 < total (same (get_or ids i d).0) (ids_of ids)
stands [] i d small = absurd (omega (arith, small))
stands (x ∷ ids) zero d small = omega (arith, itself x.0)
stands (x ∷ ids) (suc i) d small = omega (arith, stands ids i d (omega (arith, small)))

-- one orphan more
pub orphans_more : (ids : List ℕ) (id : ℕ) (os : Objects) → orphans (ids ++ id ∷ []) os ≡ updated (with_parent None) id (orphans ids os)
orphans_more [] id os = refl
orphans_more (i ∷ ids) id os = orphans_more ids id (updated without_parent i os)

-- ** one change of the objects and one of the counts

pub both_changed : (s l g n : Store) → l ≡ record s { objects = l.objects; counts = l.counts } → g ≡ with_objects l g.objects
    → n ≡ record g { counts = n.counts } → n ≡ record s { objects = n.objects; counts = n.counts }
both_changed s l g n before given counted =
    let limit : n.limit ≡ s.limit =
    ap (λ (t : Store). t.limit) counted ∙ ap (λ (t : Store). t.limit) given ∙ ap (λ (t : Store). t.limit) before in
    let floats : n.floating ≡ s.floating =
    ap (λ (t : Store). t.floating) counted ∙ ap (λ (t : Store). t.floating) given ∙ ap (λ (t : Store). t.floating) before in
    ap (λ (k : ℕ). record n { limit = k }) limit ∙ ap (λ (is : List ℕ). record n { limit = s.limit; floating = is }) floats
