-- Tables of starts that grow.
use Rattle.std.proofs.Common.{◌≡◌, ◌∙◌, inl, inr, ◌⊎◌, refl, sym, ap, subst, ℕ, zero, suc, Bool, true, false, cond, List, [], ◌∷◌, ◌++◌, length, map, Some, slice_get, append_assoc, append-nil}
use Rattle.std.specs.BTreeMap.{get, is_at}
use Rattle.std.specs.Map.{lookup}
use Rattle.std.proofs.lemmas.List.{length-map, map-append}
use Rattle.std.proofs.lemmas.Option.{none-some, same_Some}
use Rattle.ui_machine.specs.Definition.{Definition}
use Rattle.law_typing.specs.Graph.Channels.{Channel}
use Rattle.verify_sketches.specs.Sketches.{SketchedStart, nothing}
use Rattle.verify_sketches.specs.View.{start_view}
use Rattle.verify_sketches.specs.declared.programs.SketchedStart.{SketchedStart as CodeStart}
use Rattle.verify_graph.specs.Numbering.{Key, compared}
use Rattle.verify_graph.proofs.Numbered.{same_key}
use Rattle.verify_starts.specs.Tables.{AreOfSome, Extends, GoesOn, IsOfSome, IsTable, starts_in}
use Rattle.verify_starts.specs.Triggers.{Trigger, idle, key_for, start_for}
use Rattle.verify_starts.specs.declared.sketched_starts.SketchedStarts.{SketchedStarts}
use Rattle.verify_starts.proofs.SameKeys.{same_start}

-- ** lists that go on

-- what is there stays where it is
pub get_more : {A : Type 0} → (xs ys : List A) (n : ℕ) (x : A) → slice_get xs n ≡ Some x → slice_get (xs ++ ys) n ≡ Some x
get_more [] ys n x is = absurd (none-some x is)
get_more (y ∷ xs) ys zero x is = is
get_more (y ∷ xs) ys (suc n) x is = get_more xs ys n x is

-- what comes behind
pub get_last : {A : Type 0} → (xs : List A) (x : A) → slice_get (xs ++ x ∷ []) (length xs) ≡ Some x
get_last [] x = refl
get_last (y ∷ xs) x = get_last xs x

-- what is there with one more was there, or is the one
get_either : {A : Type 0} → (xs : List A) (x y : A) (n : ℕ) → slice_get (xs ++ x ∷ []) n ≡ Some y → (slice_get xs n ≡ Some y) ⊎ (x ≡ y)
get_either [] x y zero is = inr (same_Some _ _ is)
get_either [] x y (suc n) is = absurd (none-some y is)
get_either (z ∷ xs) x y zero is = inl is
get_either (z ∷ xs) x y (suc n) is = get_either xs x y n is

pub still : (old new : List SketchedStart) (n : ℕ) (x : SketchedStart) → Extends old new → slice_get old n ≡ Some x → slice_get new n ≡ Some x
still old new n x more is = ap (λ xs. slice_get xs n) more.1 ∙ get_more old more.0 n x is

pub extends_both : (old middle new : List SketchedStart) → Extends old middle → Extends middle new → Extends old new
extends_both old middle new one two = (one.0 ++ two.0, two.1 ∙ (ap (λ xs. xs ++ two.0) one.1 ∙ append_assoc old one.0 two.0))

pub extends_not : (old : List SketchedStart) → Extends old old
extends_not old = ([], sym (append-nil old))

pub goes_on_both : (d : Definition) (all : List Channel) (old middle new : SketchedStarts) → GoesOn d all old middle → GoesOn d all middle new → GoesOn d all old new
goes_on_both d all old middle new one two = record {
  more = extends_both (starts_in old) (starts_in middle) (starts_in new) one.more two.more;
  table = two.table;
}

pub goes_on_not : (d : Definition) (all : List Channel) (old : SketchedStarts) → IsTable d all old → GoesOn d all old old
goes_on_not d all old table = record { more = extends_not (starts_in old); table = table }

-- ** one more start

-- all are of some trigger, with one more that is
of_some_more : (d : Definition) (all : List Channel) (starts : List SketchedStart) (x : SketchedStart) → AreOfSome d all starts → IsOfSome d all x → AreOfSome d all (starts ++ x ∷ [])
of_some_more d all starts x each one n k at = by (get_either starts x k n at)
  where
    by : (slice_get starts n ≡ Some k) ⊎ (x ≡ k) → IsOfSome d all k
    by (inl there) = each n k there
    by (inr same) = subst (IsOfSome d all) same one

-- a table with one more, with the same numbers
pub one_more : (d : Definition) (all : List Channel) (old new : SketchedStarts) (start : CodeStart) → IsTable d all old → IsOfSome d all (start_view start) →
    new.starts.items ≡ old.starts.items ++ start ∷ [] → new.numbers ≡ old.numbers → GoesOn d all old new
one_more d all old new start table some is same = record {
  more = (start_view start ∷ [], seen);
  table = record {
    first = still (starts_in old) (starts_in new) 0 nothing (start_view start ∷ [], seen) table.first;
    each = subst (AreOfSome d all) (sym seen) (of_some_more d all (starts_in old) (start_view start) table.each some);
    kept = λ t k n key found.
        still (starts_in old) (starts_in new) n (start_for d all t) (start_view start ∷ [], seen)
        (table.kept t k n key (ap (λ m. get compared m k) (sym same) ∙ found));
  };
}
  where
    seen : starts_in new ≡ starts_in old ++ start_view start ∷ []
    seen = ap (map start_view) is ∙ map-append start_view old.starts.items (start ∷ [])

-- its number
pub one_more_at : (old new : SketchedStarts) (start : CodeStart) → new.starts.items ≡ old.starts.items ++ start ∷ [] →
    slice_get (starts_in new) (length old.starts.items) ≡ Some (start_view start)
one_more_at old new start is =
    ap (slice_get (starts_in new)) (sym (length-map old.starts.items start_view))
    ∙ (ap (λ xs. slice_get xs (length (starts_in old))) (ap (map start_view) is ∙ map-append start_view old.starts.items (start ∷ []))
    ∙ get_last (starts_in old) (start_view start))

-- the number of a key is kept
pub one_key : (d : Definition) (all : List Channel) (old new : SketchedStarts) (t : Trigger) (key : Key) (number : ℕ) → IsTable d all old →
    new.starts ≡ old.starts → key_for d t ≡ Some key → slice_get (starts_in old) number ≡ Some (start_for d all t) →
    ((k : Key) → get compared new.numbers k ≡ cond (is_at (compared key) k) (Some number) (get compared old.numbers k)) → GoesOn d all old new
one_key d all old new t key number table same is at updates = record {
  more = ([], seen ∙ sym (append-nil (starts_in old)));
  table = record {
    first = ap (λ xs. slice_get xs 0) seen ∙ table.first;
    each = subst (AreOfSome d all) (sym seen) table.each;
    kept = λ u k n known found. ap (λ xs. slice_get xs n) seen ∙ by u k n known (is_at (compared key) k) refl (sym (updates k) ∙ found);
  };
}
  where
    seen : starts_in new ≡ starts_in old
    seen = ap (λ (v : _). map start_view v.items) same

    by : (u : Trigger) (k : Key) (n : ℕ) → key_for d u ≡ Some k → (b : Bool) → is_at (compared key) k ≡ b → cond b (Some number) (get compared old.numbers k) ≡ Some n →
        slice_get (starts_in old) n ≡ Some (start_for d all u)
    by u k n known true here found =
        let m : number ≡ n = same_Some _ _ found in
        let keys = same_key key k here in
        ap (slice_get (starts_in old)) (sym m) ∙ (at ∙ ap Some (same_start d all t u key k is known keys.place keys.sort keys.number))
    by u k n known false here found = table.kept u k n known found

-- no starts but the first
pub first_table : (d : Definition) (all : List Channel) (s : SketchedStarts) → starts_in s ≡ nothing ∷ [] → s.numbers.entries ≡ [] → IsTable d all s
first_table d all s is none = record {
  first = ap (λ xs. slice_get xs 0) is;
  each = subst (AreOfSome d all) (sym is) (of_some_more d all [] nothing (λ n k at. absurd (none-some k at)) (idle, refl));
  kept = λ t k n key found. absurd (none-some n (sym (ap (λ es. lookup (is_at (compared k)) es) none) ∙ found));
}
