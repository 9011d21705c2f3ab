-- The potential, part by part, and where it stays.
use Rattle.std.proofs.Common.{◌≡◌, refl, sym, ap, subst, ◌∙◌, ℕ, ◌+◌, ◌≤◌, Bool, true, false, cond, List, [], ◌∷◌, Option, None, Some, arith}
use Rattle.std.specs.Prelude.{nat_eq, option_map}
use Rattle.ui_machine.specs.Seq.{total}
use Rattle.ui_machine.specs.Definition.{Definition}
use Rattle.ui_machine.specs.Rules.Build.{of_items}
use Rattle.ui_machine.specs.Rules.Programs.{place_in}
use Rattle.ui_machine.specs.State.Config.{World, without}
use Rattle.ui_machine.specs.State.Handlers.{Handler}
use Rattle.ui_machine.specs.State.Objects.{Object, Objects, living, put}
use Rattle.ui_machine.specs.State.Tasks.{Item, Task}
use Rattle.law_typing.specs.Good.Builds.{is_for_builder}
use Rattle.law_typing.specs.Good.Standing.{Standing, standing}
use Rattle.law_typing.specs.Graph.Channels.{property}
use Rattle.law_typing.specs.Graph.Tables.{Tables}
use Rattle.law_typing.specs.Verdict.Accepted.{Accepted}
use Rattle.law_steps.proofs.Instructed.NotifyProofs.{sum_over}
use Rattle.law_steps.proofs.Kept.AttachProofs.{handlers_wait_less}
use Rattle.law_steps.proofs.Kept.WriteProofs.{find_apart, find_here}
use Rattle.law_prices.specs.Deeds.{PriceList}
use Rattle.law_prices.specs.Paid.{HandlersPaid}
use Rattle.law_prices.specs.Potential.{Seen, agenda_price, floating_price, object_price, queued_price, seen}
use Rattle.law_prices.specs.Prices.{over_price, price_of}
use Rattle.std.proofs.lemmas.Bool.{eqb-true, eqb-false}

-- ** where each identity is

-- an object that is written over at its place
stays_at : (os : Objects) (id : ℕ) (o new : Object) → living os id ≡ Some o → new.place ≡ o.place → (other : ℕ) → place_in (put os id (Some new)) other ≡ place_in os other
stays_at os id o new is same other = go (nat_eq id other) refl
  where
    place_of : Option Object → Option ℕ
    place_of x = option_map (λ (o : Object). o.place) x

    go : (b : Bool) → nat_eq id other ≡ b → place_of (living (put os id (Some new)) other) ≡ place_of (living os other)
    go true t =
        let s = eqb-true id other t in
        let f = subst (λ i. living (put os id (Some new)) i ≡ Some new) s (find_here os id o new is) in
        let g = subst (λ i. living os i ≡ Some o) s is in
        ap place_of f ∙ (ap Some same ∙ sym (ap place_of g))
    go false t = ap place_of (find_apart os id new other (eqb-false id other t))

pub standing_put : (os : Objects) (id : ℕ) (o new : Object) → living os id ≡ Some o → new.place ≡ o.place → standing (put os id (Some new)) ≡ standing os
standing_put os id o new is same = λ i other. stays_at os id o new is same other i

module _ (d : Definition) (P : PriceList) (t : Tables) where
  -- ** the agenda

  pub agenda_alike : (s z : Seen) (agenda : List Task) → z.stands ≡ s.stands → z.handlers ≡ s.handlers → z.sources ≡ s.sources → agenda_price d P t z agenda ≡ agenda_price d P t s agenda
  agenda_alike s z agenda e f g =
      ap (λ x. agenda_price d P t (record { stands = x; handlers = z.handlers; sources = z.sources }) agenda) e
      ∙ (ap (λ x. agenda_price d P t (record { stands = s.stands; handlers = x; sources = z.sources }) agenda) f
      ∙ ap (λ x. agenda_price d P t (record { stands = s.stands; handlers = s.handlers; sources = x }) agenda) g)

  -- ** objects

  abbrev pub objects_price : (making : ℕ) → Objects → ℕ
  objects_price making os = total (price_of (object_price d P t making)) os

  pub objects_put : (making id : ℕ) (os : Objects) (o new : Object) → living os id ≡ Some o →
      objects_price making (put os id (Some new)) + object_price d P t making o ≡ objects_price making os + object_price d P t making new
  objects_put making id os o new is = sum_over (price_of (object_price d P t making)) refl os id o new is

  -- while the builder makes fewer objects what waits costs no more
  queued_falls : (less more place slot : ℕ) → less ≤ more → queued_price d P t less place slot ≤ queued_price d P t more place slot
  queued_falls less more place slot h = go (nat_eq less 0) (nat_eq more 0) refl refl
    where
      v : ℕ
      v = over_price d P t (property place slot)

      by : (a b : Bool) → nat_eq less 0 ≡ a → nat_eq more 0 ≡ b → cond a 0 v ≤ cond b 0 v
      by true b e f = omega arith
      by false false e f = omega arith
      by false true e f = absurd (eqb-false less 0 e (let z = eqb-true more 0 f in omega (arith, z, h)))

      go : (a b : Bool) → nat_eq less 0 ≡ a → nat_eq more 0 ≡ b → queued_price d P t less place slot ≤ queued_price d P t more place slot
      go a b e f =
          let m = by a b e f in
          let x = ap (λ b. cond b 0 v) e in
          let y = ap (λ b. cond b 0 v) f in
          omega (arith, m, x, y)

  total_falls : (f g : ℕ → ℕ) (xs : List ℕ) → ((x : ℕ) → f x ≤ g x) → total f xs ≤ total g xs
  total_falls f g [] h = omega arith
  total_falls f g (x ∷ xs) h = let a = h x in let b = total_falls f g xs h in omega (arith, a, b)

  pub objects_fall : (less more : ℕ) (os : Objects) → less ≤ more → objects_price less os ≤ objects_price more os
  objects_fall less more [] h = omega arith
  objects_fall less more (None ∷ os) h = let r = objects_fall less more os h in omega (arith, r)
  objects_fall less more (Some o ∷ os) h =
      let q = total_falls (queued_price d P t less o.place) (queued_price d P t more o.place) o.queue (λ slot. queued_falls less more o.place slot h) in
      let r = objects_fall less more os h in
      omega (arith, q, r)

  -- ** what floats

  pub floating_without : (s : Standing) (id : ℕ) (floating : List ℕ) → floating_price d P s (without id floating) ≤ floating_price d P s floating
  floating_without s id [] = omega arith
  floating_without s id (i ∷ is) = go (nat_eq i id) (floating_without s id is)
    where
      go : (b : Bool) → floating_price d P s (without id is) ≤ floating_price d P s is → floating_price d P s (cond b (without id is) (i ∷ without id is)) ≤ floating_price d P s (i ∷ is)
      go true h = omega (arith, h)
      go false h = omega (arith, h)

  -- ** the whole

  abbrev pub whole : World → List Task → ℕ
  whole w agenda = agenda_price d P t (seen w) agenda + objects_price (total is_for_builder agenda) w.objects + floating_price d P (standing w.objects) w.floating

-- handlers stay paid where the build has no more to connect
pub paid_alike : (d : Definition) (a : Accepted d) (s : Standing) (before after : List Task) (last : ℕ) (hs : List Handler) → ((f : Item → ℕ) → total (of_items f) after ≤ total (of_items f) before) →
    HandlersPaid d a s before last hs → HandlersPaid d a s after last hs
paid_alike d a s before after last hs less paid = λ costs. handlers_wait_less d costs a.weighed.depths s before after last hs less (paid costs)
