-- What falls is there once.
use Rattle.std.proofs.Common.{◌≡◌, refl, sym, ap, subst, ◌∙◌, ℕ, ◌+◌, ◌<◌, ◌≤◌, ◌⊎◌, inl, inr, Bool, true, false, cond, List, [], ◌∷◌, Option, None, Some, slice_get, arith}
use Rattle.std.specs.Prelude.{nat_eq, ◌&&◌}
use Rattle.std.proofs.lemmas.Bool.{eqb-true}
use Rattle.ui_machine.specs.Seq.{total}
use Rattle.ui_machine.specs.Definition.{Definition}
use Rattle.ui_machine.specs.Definition.Places.{Bind}
use Rattle.ui_machine.specs.Rules.Programs.{is_number}
use Rattle.ui_machine.specs.State.Handlers.{Handler}
use Rattle.ui_machine.specs.State.Config.{Config}
use Rattle.ui_machine.specs.State.Tasks.{Emission, PlanEntry, Task, Setting, Notifying, Beginning, Emitting, Transferring, Unsetting, Thawing, Running, Answering, Calling, Constructing, Building, Handling, Due}
use Rattle.law_typing.specs.Graph.Channels.{Channel, is_pair, same_channel, source_of, target_of}
use Rattle.law_typing.specs.Graph.Tables.{Tables, entry, of_program}
use Rattle.law_typing.specs.Good.Standing.{Standing, standing}
use Rattle.law_typing.proofs.Lists.{same_channel_true}
use Rattle.law_frames.specs.Frames.{EachOnce, EmittingFalls, Falls, FallsAt, IsApart, LiesOnEnd, TaskFalls, Under, channel_of, emission_height, emits_at, height, height_if, is_at, is_over, is_pair_of, making_height, makes_at, runs_it, within}

module _ (d : Definition) (depths : Tables) (s : Standing) (hs : List Handler) where
  -- fewer are under what more are under
  pub fewer_under : (n m : ℕ) (tasks : List Task) → n ≤ m → Under d depths s m tasks → Under d depths s n tasks
  fewer_under n m [] low u = tt
  fewer_under n m (Running frame ∷ below) low u = omega (arith, low, u)
  fewer_under n m (Emitting e turns ∷ below) low u = omega (arith, low, u)
  fewer_under n m (Constructing id steps held ∷ below) low u = omega (arith, low, u)
  fewer_under n m (Setting id slot v ∷ below) low u = fewer_under n m below low u
  fewer_under n m (Notifying id slot ∷ below) low u = fewer_under n m below low u
  fewer_under n m (Beginning e ∷ below) low u = fewer_under n m below low u
  fewer_under n m (Transferring number back ∷ below) low u = fewer_under n m below low u
  fewer_under n m (Unsetting number ∷ below) low u = fewer_under n m below low u
  fewer_under n m (Thawing id slots ∷ below) low u = fewer_under n m below low u
  fewer_under n m (Answering source ∷ below) low u = fewer_under n m below low u
  fewer_under n m (Calling call ∷ below) low u = fewer_under n m below low u
  fewer_under n m (Building items ∷ below) low u = fewer_under n m below low u
  fewer_under n m (Handling request ∷ below) low u = fewer_under n m below low u
  fewer_under n m (Due source ∷ below) low u = fewer_under n m below low u

  -- the height of an emission
  pub height_is : (below : List Task) (e : Emission) (turns : List PlanEntry) (g : EmittingFalls d depths s hs below e turns) → emission_height d depths s below e ≡ height d depths below g.channel
  height_is below e turns g = ap (height_if d depths below) g.is

  -- what is under a task is under what lies below it
  pub under_below : (n : ℕ) (task : Task) (below : List Task) → TaskFalls d depths s hs below task → Under d depths s n (task ∷ below) → Under d depths s n below
  under_below n (Running frame) below falls u = fewer_under n (of_program depths frame.program) below (omega (arith, u)) falls
  under_below n (Emitting e turns) below falls u =
      let is = height_is below e turns falls.0 in
      fewer_under n (height d depths below falls.0.channel) below (omega (arith, u, is)) falls.0.under
  under_below n (Constructing id steps held) below falls u =
      let is = ap (making_height d depths) falls.is in
      fewer_under n (making_height d depths (Some falls.place)) below (omega (arith, u, is)) falls.under
  under_below n (Setting id slot v) below falls u = u
  under_below n (Notifying id slot) below falls u = u
  under_below n (Beginning e) below falls u = u
  under_below n (Transferring number back) below falls u = u
  under_below n (Unsetting number) below falls u = u
  under_below n (Thawing id slots) below falls u = u
  under_below n (Answering source) below falls u = u
  under_below n (Calling call) below falls u = u
  under_below n (Building items) below falls u = u
  under_below n (Handling request) below falls u = u
  under_below n (Due source) below falls u = u

  -- ** programs

  one_program : (n k : ℕ) (b : Bool) → nat_eq n k ≡ b → of_program depths k < of_program depths n → ◌≡◌ {A = ℕ} (cond b 1 0) 0
  one_program n k true e low = absurd (let same = ap (of_program depths) (eqb-true n k e) in omega (arith, low, same))
  one_program n k false e low = refl

  none_runs : (program : ℕ) (tasks : List Task) → Falls d depths s hs tasks → Under d depths s (of_program depths program) tasks → total (runs_it program) tasks ≡ 0
  none_runs program [] falls u = refl
  none_runs program (Running frame ∷ below) falls u =
      let none = one_program frame.program program (nat_eq frame.program program) refl u in
      let later = none_runs program below falls.1 (under_below (of_program depths program) (Running frame) below falls.0 u) in
      omega (arith, none, later)
  none_runs program (Emitting e turns ∷ below) falls u = let later = none_runs program below falls.1 (under_below (of_program depths program) (Emitting e turns) below falls.0 u) in omega (arith, later)
  none_runs program (Constructing id steps held ∷ below) falls u = let later = none_runs program below falls.1 (under_below (of_program depths program) (Constructing id steps held) below falls.0 u) in omega (arith, later)
  none_runs program (Setting id slot v ∷ below) falls u = let later = none_runs program below falls.1 u in omega (arith, later)
  none_runs program (Notifying id slot ∷ below) falls u = let later = none_runs program below falls.1 u in omega (arith, later)
  none_runs program (Beginning e ∷ below) falls u = let later = none_runs program below falls.1 u in omega (arith, later)
  none_runs program (Transferring number back ∷ below) falls u = let later = none_runs program below falls.1 u in omega (arith, later)
  none_runs program (Unsetting number ∷ below) falls u = let later = none_runs program below falls.1 u in omega (arith, later)
  none_runs program (Thawing id slots ∷ below) falls u = let later = none_runs program below falls.1 u in omega (arith, later)
  none_runs program (Answering source ∷ below) falls u = let later = none_runs program below falls.1 u in omega (arith, later)
  none_runs program (Calling call ∷ below) falls u = let later = none_runs program below falls.1 u in omega (arith, later)
  none_runs program (Building items ∷ below) falls u = let later = none_runs program below falls.1 u in omega (arith, later)
  none_runs program (Handling request ∷ below) falls u = let later = none_runs program below falls.1 u in omega (arith, later)
  none_runs program (Due source ∷ below) falls u = let later = none_runs program below falls.1 u in omega (arith, later)

  -- ** emissions

  low_height : (below : List Task) (c : Channel) → within d depths c < entry depths.channels c → height d depths below c ≤ entry depths.channels c
  low_height below c more = by (is_over d below c)
    where
      by : (b : Bool) → cond b (1 + within d depths c) (entry depths.channels c) ≤ entry depths.channels c
      by true = omega (arith, more)
      by false = omega arith

  one_emission : (c : Channel) (below : List Task) (e : Emission) (turns : List PlanEntry) → EmittingFalls d depths s hs below e turns → entry depths.channels c < emission_height d depths s below e →
      ◌≡◌ {A = ℕ} (cond (is_at c (channel_of d s e)) 1 0) 0
  one_emission c below e turns g low = by (same_channel g.channel c) refl
    where
      at : (b : Bool) → same_channel g.channel c ≡ b → is_at c (channel_of d s e) ≡ b
      at b e = ap (is_at c) g.is ∙ e

      by : (b : Bool) → same_channel g.channel c ≡ b → ◌≡◌ {A = ℕ} (cond (is_at c (channel_of d s e)) 1 0) 0
      by true same =
          absurd (
          let is = height_is below e turns g in
          let less = low_height below g.channel g.more in
          let one = ap (entry depths.channels) (same_channel_true g.channel c same) in
          omega (arith, low, is, less, one))
      by false same = ap {B = ℕ} (λ b. cond b 1 0) (at false same)

  none_emits : (c : Channel) (tasks : List Task) → Falls d depths s hs tasks → Under d depths s (entry depths.channels c) tasks → total (emits_at d s c) tasks ≡ 0
  none_emits c [] falls u = refl
  none_emits c (Running frame ∷ below) falls u = let later = none_emits c below falls.1 (under_below (entry depths.channels c) (Running frame) below falls.0 u) in omega (arith, later)
  none_emits c (Emitting e turns ∷ below) falls u =
      let none = one_emission c below e turns falls.0.0 u in
      let later = none_emits c below falls.1 (under_below (entry depths.channels c) (Emitting e turns) below falls.0 u) in
      omega (arith, none, later)
  none_emits c (Constructing id steps held ∷ below) falls u = let later = none_emits c below falls.1 (under_below (entry depths.channels c) (Constructing id steps held) below falls.0 u) in omega (arith, later)
  none_emits c (Setting id slot v ∷ below) falls u = let later = none_emits c below falls.1 u in omega (arith, later)
  none_emits c (Notifying id slot ∷ below) falls u = let later = none_emits c below falls.1 u in omega (arith, later)
  none_emits c (Beginning e ∷ below) falls u = let later = none_emits c below falls.1 u in omega (arith, later)
  none_emits c (Transferring number back ∷ below) falls u = let later = none_emits c below falls.1 u in omega (arith, later)
  none_emits c (Unsetting number ∷ below) falls u = let later = none_emits c below falls.1 u in omega (arith, later)
  none_emits c (Thawing id slots ∷ below) falls u = let later = none_emits c below falls.1 u in omega (arith, later)
  none_emits c (Answering source ∷ below) falls u = let later = none_emits c below falls.1 u in omega (arith, later)
  none_emits c (Calling call ∷ below) falls u = let later = none_emits c below falls.1 u in omega (arith, later)
  none_emits c (Building items ∷ below) falls u = let later = none_emits c below falls.1 u in omega (arith, later)
  none_emits c (Handling request ∷ below) falls u = let later = none_emits c below falls.1 u in omega (arith, later)
  none_emits c (Due source ∷ below) falls u = let later = none_emits c below falls.1 u in omega (arith, later)

  -- the end of a pair is one of two
  pub which_end : (c : Channel) (b : Bind) → is_pair_of c (Some b) ≡ true → (is_pair b ≡ true) × ((source_of b ≡ c) ⊎ (target_of b ≡ c))
  which_end c b is = by (is_pair b) (same_channel (source_of b) c) (same_channel (target_of b) c) refl refl refl is
    where
      by : (p x y : Bool) → is_pair b ≡ p → same_channel (source_of b) c ≡ x → same_channel (target_of b) c ≡ y → (p && cond x true y) ≡ true →
          (is_pair b ≡ true) × ((source_of b ≡ c) ⊎ (target_of b ≡ c))
      by true true y p e f is = (p, inl (same_channel_true (source_of b) c e))
      by true false true p e f is = (p, inr (same_channel_true (target_of b) c f))
      by true false false p e f is = absurd (cc is)
      by false x y p e f is = absurd (cc is)

  pub entry_low : (c : Channel) (b : Bind) (m : ℕ) → (source_of b ≡ c) ⊎ (target_of b ≡ c) → (entry depths.channels (source_of b) ≤ m) × (entry depths.channels (target_of b) ≤ m) → entry depths.channels c ≤ m
  entry_low c b m (inl e) low = let same = ap (entry depths.channels) e in let l = low.0 in omega (arith, same, l)
  entry_low c b m (inr e) low = let same = ap (entry depths.channels) e in let l = low.1 in omega (arith, same, l)

  -- what a pair began is alone at its end
  over_alone : (c : Channel) (number : ℕ) (b : Bind) (tasks : List Task) → (source_of b ≡ c) ⊎ (target_of b ≡ c) → LiesOnEnd d depths s b tasks → IsApart d s (Unsetting number ∷ tasks) c → Falls d depths s hs tasks →
      total (emits_at d s c) tasks ≡ 0
  over_alone c number b (Building items ∷ []) end lies apart falls = refl
  over_alone c number b (Emitting e turns ∷ below) end lies apart falls =
      let low = entry_low c b (emission_height d depths s below e) end lies in
      let is = height_is below e turns falls.0.0 in
      let later = none_emits c below falls.1 (fewer_under (entry depths.channels c) (height d depths below falls.0.0.channel) below (omega (arith, low, is)) falls.0.0.under) in
      let none = by (same_channel falls.0.0.channel c) refl in
      omega (arith, none, later)
    where
      by : (x : Bool) → same_channel falls.0.0.channel c ≡ x → ◌≡◌ {A = ℕ} (cond (is_at c (channel_of d s e)) 1 0) 0
      by true same = absurd (apart (falls.0.0.is ∙ ap (λ c. Some c) (same_channel_true falls.0.0.channel c same)))
      by false same = ap {B = ℕ} (λ b. cond b 1 0) (ap (is_at c) falls.0.0.is ∙ same)
  over_alone c number b _ end lies apart falls = absurd lies

  emission_alone : (c : Channel) (below : List Task) → Under d depths s (height d depths below c) below → IsApart d s below c → Falls d depths s hs below → total (emits_at d s c) below ≡ 0
  emission_alone c (Unsetting number ∷ below) u apart falls = by (slice_get d.bindings number) refl u
    where
      by : (o : Option Bind) → slice_get d.bindings number ≡ o → Under d depths s (cond (is_pair_of c o) (1 + within d depths c) (entry depths.channels c)) below → total (emits_at d s c) (Unsetting number ∷ below) ≡ 0
      by None is u = none_emits c (Unsetting number ∷ below) falls u
      by (Some b) is u = pairs (is_pair_of c (Some b)) refl u
        where
          pairs : (x : Bool) → is_pair_of c (Some b) ≡ x → Under d depths s (cond x (1 + within d depths c) (entry depths.channels c)) below → total (emits_at d s c) (Unsetting number ∷ below) ≡ 0
          pairs false e u = none_emits c (Unsetting number ∷ below) falls u
          pairs true e u =
              let end = which_end c b e in
              let alone = over_alone c number b below end.1 (falls.0 b is end.0) apart falls.1 in
              omega (arith, alone)
  emission_alone c [] u apart falls = refl
  emission_alone c (Running frame ∷ below) u apart falls = none_emits c (Running frame ∷ below) falls u
  emission_alone c (Emitting e turns ∷ below) u apart falls = none_emits c (Emitting e turns ∷ below) falls u
  emission_alone c (Constructing id steps held ∷ below) u apart falls = none_emits c (Constructing id steps held ∷ below) falls u
  emission_alone c (Setting id slot v ∷ below) u apart falls = none_emits c (Setting id slot v ∷ below) falls u
  emission_alone c (Notifying id slot ∷ below) u apart falls = none_emits c (Notifying id slot ∷ below) falls u
  emission_alone c (Beginning e ∷ below) u apart falls = none_emits c (Beginning e ∷ below) falls u
  emission_alone c (Transferring number back ∷ below) u apart falls = none_emits c (Transferring number back ∷ below) falls u
  emission_alone c (Thawing id slots ∷ below) u apart falls = none_emits c (Thawing id slots ∷ below) falls u
  emission_alone c (Answering source ∷ below) u apart falls = none_emits c (Answering source ∷ below) falls u
  emission_alone c (Calling call ∷ below) u apart falls = none_emits c (Calling call ∷ below) falls u
  emission_alone c (Building items ∷ below) u apart falls = none_emits c (Building items ∷ below) falls u
  emission_alone c (Handling request ∷ below) u apart falls = none_emits c (Handling request ∷ below) falls u
  emission_alone c (Due source ∷ below) u apart falls = none_emits c (Due source ∷ below) falls u

  -- ** constructions

  one_making : (n k : ℕ) (b : Bool) → nat_eq n k ≡ b → making_height d depths (Some k) < making_height d depths (Some n) → ◌≡◌ {A = ℕ} (cond b 1 0) 0
  one_making n k true e low = absurd (let same = ap (λ p. making_height d depths (Some p)) (eqb-true n k e) in omega (arith, low, same))
  one_making n k false e low = refl

  making_at : (place : ℕ) (id : ℕ) (o : Option ℕ) → s id ≡ o → making_height d depths (Some place) < making_height d depths o → ◌≡◌ {A = ℕ} (cond (is_number place o) 1 0) 0
  making_at place id None is low = refl
  making_at place id (Some at) is low = one_making at place (nat_eq at place) refl low

  none_makes : (place : ℕ) (tasks : List Task) → Falls d depths s hs tasks → Under d depths s (making_height d depths (Some place)) tasks → total (makes_at s place) tasks ≡ 0
  none_makes place [] falls u = refl
  none_makes place (Running frame ∷ below) falls u = let later = none_makes place below falls.1 (under_below (making_height d depths (Some place)) (Running frame) below falls.0 u) in omega (arith, later)
  none_makes place (Emitting e turns ∷ below) falls u = let later = none_makes place below falls.1 (under_below (making_height d depths (Some place)) (Emitting e turns) below falls.0 u) in omega (arith, later)
  none_makes place (Constructing id steps held ∷ below) falls u =
      let none = making_at place id (s id) refl u in
      let later = none_makes place below falls.1 (under_below (making_height d depths (Some place)) (Constructing id steps held) below falls.0 u) in
      omega (arith, none, later)
  none_makes place (Setting id slot v ∷ below) falls u = let later = none_makes place below falls.1 u in omega (arith, later)
  none_makes place (Notifying id slot ∷ below) falls u = let later = none_makes place below falls.1 u in omega (arith, later)
  none_makes place (Beginning e ∷ below) falls u = let later = none_makes place below falls.1 u in omega (arith, later)
  none_makes place (Transferring number back ∷ below) falls u = let later = none_makes place below falls.1 u in omega (arith, later)
  none_makes place (Unsetting number ∷ below) falls u = let later = none_makes place below falls.1 u in omega (arith, later)
  none_makes place (Thawing id slots ∷ below) falls u = let later = none_makes place below falls.1 u in omega (arith, later)
  none_makes place (Answering source ∷ below) falls u = let later = none_makes place below falls.1 u in omega (arith, later)
  none_makes place (Calling call ∷ below) falls u = let later = none_makes place below falls.1 u in omega (arith, later)
  none_makes place (Building items ∷ below) falls u = let later = none_makes place below falls.1 u in omega (arith, later)
  none_makes place (Handling request ∷ below) falls u = let later = none_makes place below falls.1 u in omega (arith, later)
  none_makes place (Due source ∷ below) falls u = let later = none_makes place below falls.1 u in omega (arith, later)

  -- ** once

  at_most : (n m : ℕ) (b : Bool) → (b ≡ true → m ≡ 0) → m ≤ 1 → n ≡ cond b 1 0 → n + m ≤ 1
  at_most n m true none low is = let zero = none refl in omega (arith, zero, is)
  at_most n m false none low is = omega (arith, low, is)

  programs_once : (program : ℕ) (tasks : List Task) → Falls d depths s hs tasks → total (runs_it program) tasks ≤ 1
  programs_once program [] falls = omega arith
  programs_once program (Running frame ∷ below) falls =
      at_most (cond (nat_eq frame.program program) 1 0) (total (runs_it program) below) (nat_eq frame.program program)
      (λ same. none_runs program below falls.1 (subst (λ p. Under d depths s (of_program depths p) below) (eqb-true frame.program program same) falls.0))
      (programs_once program below falls.1) refl
  programs_once program (Emitting e turns ∷ below) falls = let later = programs_once program below falls.1 in omega (arith, later)
  programs_once program (Constructing id steps held ∷ below) falls = let later = programs_once program below falls.1 in omega (arith, later)
  programs_once program (Setting id slot v ∷ below) falls = let later = programs_once program below falls.1 in omega (arith, later)
  programs_once program (Notifying id slot ∷ below) falls = let later = programs_once program below falls.1 in omega (arith, later)
  programs_once program (Beginning e ∷ below) falls = let later = programs_once program below falls.1 in omega (arith, later)
  programs_once program (Transferring number back ∷ below) falls = let later = programs_once program below falls.1 in omega (arith, later)
  programs_once program (Unsetting number ∷ below) falls = let later = programs_once program below falls.1 in omega (arith, later)
  programs_once program (Thawing id slots ∷ below) falls = let later = programs_once program below falls.1 in omega (arith, later)
  programs_once program (Answering source ∷ below) falls = let later = programs_once program below falls.1 in omega (arith, later)
  programs_once program (Calling call ∷ below) falls = let later = programs_once program below falls.1 in omega (arith, later)
  programs_once program (Building items ∷ below) falls = let later = programs_once program below falls.1 in omega (arith, later)
  programs_once program (Handling request ∷ below) falls = let later = programs_once program below falls.1 in omega (arith, later)
  programs_once program (Due source ∷ below) falls = let later = programs_once program below falls.1 in omega (arith, later)

  emissions_once : (c : Channel) (tasks : List Task) → Falls d depths s hs tasks → total (emits_at d s c) tasks ≤ 1
  emissions_once c [] falls = omega arith
  emissions_once c (Emitting e turns ∷ below) falls =
      at_most (cond (is_at c (channel_of d s e)) 1 0) (total (emits_at d s c) below) (is_at c (channel_of d s e))
      (λ at. (
      let same = same_channel_true falls.0.0.channel c (sym (ap (is_at c) falls.0.0.is) ∙ at) in
      emission_alone c below (subst (λ c. Under d depths s (height d depths below c) below) same falls.0.0.under)
      (falls.0.1 c (falls.0.0.is ∙ ap (λ c. Some c) same)) falls.1))
      (emissions_once c below falls.1) refl
  emissions_once c (Running frame ∷ below) falls = let later = emissions_once c below falls.1 in omega (arith, later)
  emissions_once c (Constructing id steps held ∷ below) falls = let later = emissions_once c below falls.1 in omega (arith, later)
  emissions_once c (Setting id slot v ∷ below) falls = let later = emissions_once c below falls.1 in omega (arith, later)
  emissions_once c (Notifying id slot ∷ below) falls = let later = emissions_once c below falls.1 in omega (arith, later)
  emissions_once c (Beginning e ∷ below) falls = let later = emissions_once c below falls.1 in omega (arith, later)
  emissions_once c (Transferring number back ∷ below) falls = let later = emissions_once c below falls.1 in omega (arith, later)
  emissions_once c (Unsetting number ∷ below) falls = let later = emissions_once c below falls.1 in omega (arith, later)
  emissions_once c (Thawing id slots ∷ below) falls = let later = emissions_once c below falls.1 in omega (arith, later)
  emissions_once c (Answering source ∷ below) falls = let later = emissions_once c below falls.1 in omega (arith, later)
  emissions_once c (Calling call ∷ below) falls = let later = emissions_once c below falls.1 in omega (arith, later)
  emissions_once c (Building items ∷ below) falls = let later = emissions_once c below falls.1 in omega (arith, later)
  emissions_once c (Handling request ∷ below) falls = let later = emissions_once c below falls.1 in omega (arith, later)
  emissions_once c (Due source ∷ below) falls = let later = emissions_once c below falls.1 in omega (arith, later)

  of_place : (place id : ℕ) (o : Option ℕ) → s id ≡ o → is_number place o ≡ true → s id ≡ Some place
  of_place place id None is at = absurd (cc at)
  of_place place id (Some n) is at = is ∙ ap (λ (n : ℕ). Some n) (eqb-true n place at)

  makings_once : (place : ℕ) (tasks : List Task) → Falls d depths s hs tasks → total (makes_at s place) tasks ≤ 1
  makings_once place [] falls = omega arith
  makings_once place (Constructing id steps held ∷ below) falls =
      at_most (cond (is_number place (s id)) 1 0) (total (makes_at s place) below) (is_number place (s id))
      (λ at. (
      let same : ◌≡◌ {A = Option ℕ} (Some falls.0.place) (Some place) = sym falls.0.is ∙ of_place place id (s id) refl at in
      none_makes place below falls.1 (subst (λ o. Under d depths s (making_height d depths o) below) same falls.0.under)))
      (makings_once place below falls.1) refl
  makings_once place (Running frame ∷ below) falls = let later = makings_once place below falls.1 in omega (arith, later)
  makings_once place (Emitting e turns ∷ below) falls = let later = makings_once place below falls.1 in omega (arith, later)
  makings_once place (Setting id slot v ∷ below) falls = let later = makings_once place below falls.1 in omega (arith, later)
  makings_once place (Notifying id slot ∷ below) falls = let later = makings_once place below falls.1 in omega (arith, later)
  makings_once place (Beginning e ∷ below) falls = let later = makings_once place below falls.1 in omega (arith, later)
  makings_once place (Transferring number back ∷ below) falls = let later = makings_once place below falls.1 in omega (arith, later)
  makings_once place (Unsetting number ∷ below) falls = let later = makings_once place below falls.1 in omega (arith, later)
  makings_once place (Thawing id slots ∷ below) falls = let later = makings_once place below falls.1 in omega (arith, later)
  makings_once place (Answering source ∷ below) falls = let later = makings_once place below falls.1 in omega (arith, later)
  makings_once place (Calling call ∷ below) falls = let later = makings_once place below falls.1 in omega (arith, later)
  makings_once place (Building items ∷ below) falls = let later = makings_once place below falls.1 in omega (arith, later)
  makings_once place (Handling request ∷ below) falls = let later = makings_once place below falls.1 in omega (arith, later)
  makings_once place (Due source ∷ below) falls = let later = makings_once place below falls.1 in omega (arith, later)

-- where the frames fall, each is there once
pub falling_are_once : (d : Definition) (depths : Tables) (c : Config) → FallsAt d depths c → EachOnce d c
falling_are_once d depths c falls = record {
  programs = λ program. programs_once d depths (standing c.world.objects) c.world.handlers program c.agenda falls.agenda;
  emissions = λ channel. emissions_once d depths (standing c.world.objects) c.world.handlers channel c.agenda falls.agenda;
  makings = λ place. makings_once d depths (standing c.world.objects) c.world.handlers place c.agenda falls.agenda;
}
