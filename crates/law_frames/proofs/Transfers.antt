-- What falls still falls where an emission makes a transfer due.
use Rattle.std.proofs.Common.{◌≡◌, refl, sym, ap, subst, ◌∙◌, ℕ, ◌+◌, ◌<◌, ◌≤◌, Bool, true, false, cond, List, [], ◌∷◌, ◌++◌, Option, None, Some, slice_get, arith}
use native.Mathlib.Omega.{arith}
use Rattle.std.specs.Prelude.{max, nat_eq}
use Rattle.std.proofs.lemmas.Bool.{eq-eqb, eqb-true, false≢true}
use Rattle.ui_machine.specs.Seq.{total}
use Rattle.ui_machine.specs.Definition.{Definition}
use Rattle.ui_machine.specs.Definition.Places.{Bind}
use Rattle.ui_machine.specs.Rules.Transfers.{transfer_for}
use Rattle.ui_machine.specs.State.Bindings.{Binding, binding_of}
use Rattle.ui_machine.specs.State.Config.{World}
use Rattle.ui_machine.specs.State.Tasks.{Emission, Emitting, Frame, PlanEntry, Running, Task, Transferring, Unsetting, class_handler, handler}
use Rattle.ui_machine.specs.State.Tasks as config
use Rattle.law_typing.specs.Good.Bindings.{BindingGood}
use Rattle.law_typing.specs.Good.DueCosts.{has_end, unsets}
use Rattle.law_typing.specs.Good.Emissions.{GoesBack}
use Rattle.law_typing.specs.Good.Standing.{standing}
use Rattle.law_typing.specs.Graph.Channels.{Channel, is_channel, is_pair, source_of, target_of}
use Rattle.law_typing.specs.Graph.Tables.{Tables, entry}
use Rattle.law_typing.specs.Laws.{IsIn}
use Rattle.law_typing.specs.Laws.StepsKeepGood.{IsGood}
use Rattle.law_typing.specs.Laws.WellRead.{WellRead}
use Rattle.law_typing.specs.Verdict.Accepted.{Accepted}
use Rattle.law_typing.proofs.Lists.{both_parts, each_in}
use Rattle.law_typing.proofs.OneSolutionProofs.{find_in}
use Rattle.law_steps.proofs.Tasked.Pairs as pairs
use Rattle.law_frames.specs.Frames.{emission_height, from_end, height, height_if, is_over, is_pair_of, to_end, transfer_height, within}
use Rattle.law_frames.proofs.Going.{GoesOn}
use Rattle.law_frames.proofs.Leading.{framed}
use Rattle.law_frames.proofs.OnceProofs.{which_end}
use Rattle.law_frames.proofs.Staying.{SameAt}
use Rattle.law_frames.proofs.Emissions.{FallsThere, GoodAt, Takes, at_same, from_is_not_to, low_entry, own, pair_height, passes_over, target_within, under}
use Rattle.law_frames.proofs.Tasks.{LeadsStarted, Nothing}

module _ (d : Definition) (well : WellRead d) (a : Accepted d) (most_counted : ℕ) (w : World) (e : Emission) (turns : List PlanEntry) (rest : List Task) (n : ℕ) (number : ℕ) (back : Bool)
    (g : GoodAt d well a most_counted w e turns rest n (config.transfer number back)) (f : FallsThere d well a most_counted w e turns rest n (config.transfer number back)) where
  abbrev table : Tables
  table = a.weighed.depths

  abbrev c : Channel
  c = f.agenda.0.0.channel

  module _ (b : Bind) (is : slice_get d.bindings number ≡ Some b) (free : total (unsets number) rest ≡ 0) where
    from_here : from_end back b ≡ c
    from_here = f.agenda.0.0.turns_fall.0 b is

    -- no pair began what is here, where this binding sets not
    module _ (pair : is_pair b ≡ true) where
      here_ends : has_end c b ≡ true
      here_ends = subst (λ c. has_end c b ≡ true) from_here (by back)
        where
          by : (back : Bool) → has_end (from_end back b) b ≡ true
          by false = pairs.source_end b
          by true = pairs.target_end b

      one_over : (k : ℕ) (below : List Task) → total (unsets number) (Unsetting k ∷ below) ≡ 0 → (o : Option Bind) → slice_get d.bindings k ≡ o → (x : Bool) → is_pair_of c o ≡ x → is_pair_of c o ≡ false
      one_over k below none o at false e = e
      one_over k below none None at true e = refl
      one_over k below none (Some y) at true e =
          let ends = which_end d table (standing w.objects) w.handlers c y e in
          let its : has_end c y ≡ true = (both_parts (is_pair y) (has_end c y) e).1 in
          let own = ap {B = ℕ} (λ b. cond b 1 0) (eq-eqb k k refl) in
          let sets = pairs.is_setting d a (Unsetting k ∷ below) k y (record { is = at; pair = ends.0 }) c its (omega (arith, own)) in
          let not = pairs.not_setting d a (Unsetting k ∷ below) number b (record { is = is; pair = pair }) c here_ends none in
          absurd (false≢true (sym not ∙ sets))

      no_over : (tasks : List Task) → total (unsets number) tasks ≡ 0 → is_over d tasks c ≡ false
      no_over (Unsetting k ∷ below) none = one_over k below none (slice_get d.bindings k) refl (is_pair_of c (slice_get d.bindings k)) refl
      no_over _ none = refl

      not_over : is_over d rest c ≡ false
      not_over = no_over rest free

      here_height : height d table rest c ≡ entry table.channels c
      here_height = ap (λ b. cond b (1 + within d table c) (entry table.channels c)) not_over

      -- each end needs as much as is here
      ends_low : (entry table.channels (source_of b) ≤ height d table rest c) × (entry table.channels (target_of b) ≤ height d table rest c)
      ends_low =
          let both = pair_height d a number b is pair in
          let source = both.0 in
          let target = both.1 in
          let here = here_height in
          let at = ap (entry table.channels) from_here in
          by back at (omega (arith, source, target)) here
        where
          by : (back : Bool) → entry table.channels (from_end back b) ≡ entry table.channels c → entry table.channels (source_of b) ≡ entry table.channels (target_of b) → height d table rest c ≡ entry table.channels c →
              (entry table.channels (source_of b) ≤ height d table rest c) × (entry table.channels (target_of b) ≤ height d table rest c)
          by false at same here = (omega (arith, at, here), omega (arith, at, same, here))
          by true at same here = (omega (arith, at, same, here), omega (arith, at, here))

      over_low : 1 + within d table (to_end back b) < height d table rest c
      over_low =
          let both = pair_height d a number b is pair in
          let source = both.0 in
          let target = both.1 in
          let here = here_height in
          by back (ap (entry table.channels) from_here) source target here
        where
          by : (back : Bool) → entry table.channels (from_end back b) ≡ entry table.channels c →
              entry table.channels (source_of b) ≡ 2 + max (within d table (source_of b)) (within d table (target_of b)) →
              entry table.channels (target_of b) ≡ 2 + max (within d table (target_of b)) (within d table (source_of b)) →
              height d table rest c ≡ entry table.channels c → 1 + within d table (to_end back b) < height d table rest c
          by false at source target here = omega (arith, at, source, here)
          by true at source target here = omega (arith, at, target, here)

    one_way : is_pair b ≡ false → GoesBack d number back → entry table.channels (to_end back b) < height d table rest c
    one_way one pairs_back = by back pairs_back from_here
      where
        by : (back : Bool) → GoesBack d number back → from_end back b ≡ c → entry table.channels (to_end back b) < height d table rest c
        by true back_pair here = absurd (let p = back_pair refl b is in let q = sym p ∙ one in cc q)
        by false back_pair here =
            let low = target_within d a number b is one (subst (λ c. is_channel d c ≡ true) (sym here) f.agenda.0.0.there) in
            let same = ap (within d table) here in
            let room = low_entry d table rest c f.agenda.0.0.more in
            omega (arith, low, same, room)

    transfer_low : GoesBack d number back → transfer_height d table back (slice_get d.bindings number) < height d table rest c
    transfer_low pairs_back = by (is_pair b) refl
      where
        by : (p : Bool) → is_pair b ≡ p → transfer_height d table back (slice_get d.bindings number) < height d table rest c
        by true pair =
            let low = over_low pair in
            let own : transfer_height d table back (slice_get d.bindings number) ≡ 1 + within d table (to_end back b) = ap (transfer_height d table back) is ∙ ap (λ p. cond p (1 + within d table (to_end back b)) (entry table.channels (to_end back b))) pair in
            omega (arith, low, own)
        by false one =
            let low = one_way one pairs_back in
            let own : transfer_height d table back (slice_get d.bindings number) ≡ entry table.channels (to_end back b) = ap (transfer_height d table back) is ∙ ap (λ p. cond p (1 + within d table (to_end back b)) (entry table.channels (to_end back b))) one in
            omega (arith, low, own)

  -- ** the turn

  the_number : (b : Binding) → binding_of number w.bindings ≡ Some b → IsIn b w.bindings × (b.number ≡ number)
  the_number b is = let x = find_in (λ (b : Binding). nat_eq b.number number) w.bindings b is in (x.0, eqb-true b.number number x.1)

  comes_due : (b : Bind) → slice_get d.bindings number ≡ Some b → total (unsets number) rest ≡ 0 →
      LeadsStarted d a most_counted w (Emitting e (config.transfer number back ∷ turns)) rest n g f Nothing n (record { world = w; tasks = Transferring number back ∷ Emitting e turns ∷ [] })
  comes_due b is free =
      framed d a most_counted w (Emitting e (config.transfer number back ∷ turns)) rest n g f Nothing w (Transferring number back ∷ []) (Emitting e turns) n
      (λ good goes same falls. own d well a most_counted w e (config.transfer number back) turns rest n g f e.cleanup w (Transferring number back ∷ []) n good goes same falls)
      (λ good goes same falls. (
        (
          (
              let at = here_at good goes same in
              let low = transfer_low b is free g.agenda.3.turns_fit.0.0 in
              omega (arith, at, low)),
          λ x at pair. (
              let h = here_at good goes same in
              let low = ends_low x at free pair in
              let l = low.0 in
              let r = low.1 in
              (omega (arith, h, l), omega (arith, h, r))),
          λ x at here. from_is_not_to d a number x back at (from_here x at free ∙ some_same (sym (at_same d well a most_counted w e (config.transfer number back) turns rest n g f e.cleanup w (Transferring number back ∷ []) n good goes same) ∙ here)),
        ),
        falls,
      ))
      (λ good goes same m u. under d well a most_counted w e (config.transfer number back) turns rest n g f e.cleanup w (Transferring number back ∷ []) n good goes same m u)
      (λ id slot o is there. refl)
      (λ good goes falls id slot o is there none. absurd none)
    where
      some_same : {x : Channel} → Some c ≡ Some x → c ≡ x
      some_same e = cc e

      here_at : IsGood d a most_counted (record { world = w; agenda = Transferring number back ∷ Emitting e turns ∷ rest; counted = n }) → GoesOn Nothing w w → SameAt (standing w.objects) (standing w.objects) rest →
          emission_height d table (standing w.objects) rest e ≡ height d table rest c
      here_at good goes same = ap (height_if d table rest) (at_same d well a most_counted w e (config.transfer number back) turns rest n g f e.cleanup w (Transferring number back ∷ []) n good goes same)

  pub takes_transfer : Takes d well a most_counted w e turns rest n (config.transfer number back) g f
  takes_transfer = by (binding_of number w.bindings) refl
    where
      over : LeadsStarted d a most_counted w (Emitting e (config.transfer number back ∷ turns)) rest n g f Nothing n (record { world = w; tasks = Emitting e turns ∷ [] })
      over = passes_over d well a most_counted w e (config.transfer number back) turns rest n g f e.cleanup

      busy : (b : Binding) → binding_of number w.bindings ≡ Some b → (x : Bool) → b.busy ≡ x →
          LeadsStarted d a most_counted w (Emitting e (config.transfer number back ∷ turns)) rest n g f Nothing n (record { world = w; tasks = cond x [] (Transferring number back ∷ []) ++ Emitting e turns ∷ [] })
      busy b is true e = over
      busy b is false e =
          let x = the_number b is in
          let good = each_in (BindingGood d (standing w.objects) _) w.bindings g.bindings.each b x.0 in
          let free = good.setting ∙ ap {B = ℕ} (λ b. cond b 1 0) e in
          let at = x.1 in
          comes_due good.bind (ap (slice_get d.bindings) (sym at) ∙ good.is) (let none = ap (λ k. total (unsets k) rest) at in omega (arith, free, none))

      by : (o : Option Binding) → binding_of number w.bindings ≡ o → LeadsStarted d a most_counted w (Emitting e (config.transfer number back ∷ turns)) rest n g f Nothing n (record { world = w; tasks = transfer_for o number back ++ Emitting e turns ∷ [] })
      by None is = over
      by (Some b) is = busy b is b.busy refl
