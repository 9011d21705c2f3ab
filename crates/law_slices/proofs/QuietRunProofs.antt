-- How many steps there are where each run of uncounted ones is short.
use Rattle.std.proofs.Common.{◌≡◌, inl, inr, refl, sym, ap, subst, ◌∙◌, ℕ, zero, suc, ◌+◌, ◌*◌, ◌<◌, ◌≤◌, ◌⊎◌, List, [], ◌∷◌, ◌++◌, arith}
use Rattle.ui_machine.specs.Definition.{Definition}
use Rattle.ui_machine.specs.Runs.{Steps, listed}
use Rattle.ui_machine.specs.State.Config.{Config}
use Rattle.ui_machine.specs.State.Peers.{Reply}
use Rattle.law_slices.specs.QuietRuns.{CountsRiseByOne, QuietRun, QuietRunsBound, QuietWithin}
use Rattle.law_slices.proofs.StepCounts.{counts_so}

pub counts_rise_by_one : CountsRiseByOne
counts_rise_by_one d reply c e h = by (counts_so d reply e c h)
  where
    by : {x y : Type 0} → ((e.counted ≡ c.counted) × x) ⊎ ((e.counted ≡ suc c.counted) × y) → (e.counted ≡ c.counted) ⊎ (e.counted ≡ suc c.counted)
    by (inl same) = inl same.0
    by (inr more) = inr more.0

joined : (xs ys zs : List Reply) → xs ++ (ys ++ zs) ≡ (xs ++ ys) ++ zs
joined [] ys zs = refl
joined (x ∷ xs) ys zs = ap (λ l. x ∷ l) (joined xs ys zs)

pub none_more : (xs : List Reply) → xs ≡ xs ++ []
none_more [] = refl
none_more (x ∷ xs) = ap (λ l. x ∷ l) (none_more xs)

module _ (d : Definition) where
  -- some steps, and then others
  pub then : (n m : ℕ) (first later : List Reply) (c x e : Config) → Steps d n first c x → Steps d m later x e → Steps d (n + m) (first ++ later) c e
  then zero m first later c x e s t =
      let r : later ≡ first ++ later = sym (ap (λ f. f ++ later) s.0) in
      let same : m ≡ zero + m = omega arith in
      subst (λ n. Steps d n (first ++ later) c e) same (subst (λ r. Steps d m r c e) r (subst (λ c. Steps d m later c e) (sym s.1) t))
  then (suc n) m first later c x e s t =
      let same : suc (n + m) ≡ suc n + m = omega arith in
      subst (λ i. Steps d i (first ++ later) c e) same (record {
        reply = s.reply;
        later = s.later ++ later;
        mid = s.mid;
        replied = ap (λ f. f ++ later) s.replied ∙ sym (joined (listed s.reply) s.later later);
        step = s.step;
        follows = then n m s.later later s.mid x e s.follows t;
      })

  -- the count never falls
  pub counts_rise : (m : ℕ) (rs : List Reply) (x y : Config) → Steps d m rs x y → x.counted ≤ y.counted
  counts_rise zero rs x y t = let same = ap (λ (c : Config). c.counted) t.1 in omega (arith, same)
  counts_rise (suc m) rs x y t = first (counts_rise_by_one d t.reply x t.mid t.step.leads) (counts_rise m t.later t.mid y t.follows)
    where
      first : (t.mid.counted ≡ x.counted) ⊎ (t.mid.counted ≡ suc x.counted) → t.mid.counted ≤ y.counted → x.counted ≤ y.counted
      first (inl e) rest = omega (arith, e, rest)
      first (inr e) rest = omega (arith, e, rest)

  -- Some uncounted steps lead to where the others begin.
  bounded : (most : ℕ) (n p k : ℕ) (early replies : List Reply) (b c e : Config) → Steps d p early b c → c.counted ≡ b.counted → Steps d n replies c e →
      e.counted ≤ c.counted + k → QuietWithin most d (p + n) (early ++ replies) b e → p + n < (k + 1) * (most + 1)
  bounded most zero p k early replies b c e before same s few within =
      let run : QuietRun d (p + 0) (early ++ replies) b e p = record {
        before = 0;
        after = 0;
        is = omega arith;
        early = [];
        during = early;
        late = replies;
        replied = refl;
        from = b;
        to = c;
        comes = (refl, refl);
        goes = before;
        ends = s;
        quiet = same;
      } in
      let low = within p run in
      omega (arith, low)
  bounded most (suc n) p k early replies b c e before same s few within =
      on (counts_rise_by_one d s.reply c s.mid s.step.leads)
      (λ p k early c before same few. bounded most n p k early s.later c s.mid e before same s.follows few)
    where
      Rest : Type 0
      Rest = (p k : ℕ) (early : List Reply) (c : Config) → Steps d p early c s.mid → s.mid.counted ≡ c.counted → e.counted ≤ s.mid.counted + k →
          QuietWithin most d (p + n) (early ++ s.later) c e → p + n < (k + 1) * (most + 1)

      one : Steps d 1 (listed s.reply) c s.mid
      one = record { reply = s.reply; later = []; mid = s.mid; replied = none_more (listed s.reply); step = s.step; follows = (refl, refl) }

      split : early ++ replies ≡ (early ++ listed s.reply) ++ s.later
      split = ap (λ r. early ++ r) s.replied ∙ joined early (listed s.reply) s.later

      longer : Steps d (p + 1) (early ++ listed s.reply) b s.mid
      longer = then p 1 early (listed s.reply) b c s.mid before one

      -- the run in front of a counted step
      front : p ≤ most
      front = within p (record {
        before = 0;
        after = suc n;
        is = omega arith;
        early = [];
        during = early;
        late = replies;
        replied = refl;
        from = b;
        to = c;
        comes = (refl, refl);
        goes = before;
        ends = s;
        quiet = same;
      })

      -- a run behind it
      behind : QuietWithin most d n s.later s.mid e
      behind m run = within m (record {
        before = (p + 1) + run.before;
        after = run.after;
        is = (let i = run.is in omega (arith, i));
        early = (early ++ listed s.reply) ++ run.early;
        during = run.during;
        late = run.late;
        replied = split ∙ (ap (λ r. (early ++ listed s.reply) ++ r) run.replied ∙ joined (early ++ listed s.reply) run.early (run.during ++ run.late));
        from = run.from;
        to = run.to;
        comes = then (p + 1) run.before (early ++ listed s.reply) run.early b s.mid run.from longer run.comes;
        goes = run.goes;
        ends = run.ends;
        quiet = run.quiet;
      })

      after_one : Rest → s.mid.counted ≡ suc c.counted → (k : ℕ) → e.counted ≤ c.counted + k → p + suc n < (k + 1) * (most + 1)
      after_one rest more zero few = let rises = counts_rise n s.later s.mid e s.follows in absurd (omega (arith, rises, few, more))
      after_one rest more (suc k) few =
          let whole : n ≡ 0 + n = omega arith in
          let low = rest 0 k [] s.mid (refl, refl) refl (omega (arith, few, more)) (subst (λ m. QuietWithin most d m s.later s.mid e) whole behind) in
          let times : (suc k + 1) * (most + 1) ≡ (k + 1) * (most + 1) + (most + 1) = omega arith in
          let here = front in
          omega (arith, low, times, here)

      on : (s.mid.counted ≡ c.counted) ⊎ (s.mid.counted ≡ suc c.counted) → Rest → p + suc n < (k + 1) * (most + 1)
      on (inl quiet) rest =
          let whole : p + suc n ≡ (p + 1) + n = omega arith in
          let low = rest (p + 1) k (early ++ listed s.reply) b longer (quiet ∙ same) (omega (arith, few, quiet))
          (subst (λ m. QuietWithin most d m ((early ++ listed s.reply) ++ s.later) b e) whole (subst (λ r. QuietWithin most d (p + suc n) r b e) split within)) in
          omega (arith, low, whole)
      on (inr more) rest = after_one rest more k few

pub quiet_runs_bound : QuietRunsBound
quiet_runs_bound d n replies c e s k few most within =
    let z : n ≡ 0 + n = omega arith in
    let low = bounded d most n 0 k [] replies c c e (refl, refl) refl s few (subst (λ m. QuietWithin most d m replies c e) z within) in
    omega (arith, low)
