-- Sources that run one after the other, and how a turn of them ends.
use Rattle.std.proofs.Common.{◌≡◌, ◌<◌, ◌+◌, ℕ, Bool, true, false, cond, nat_eq, List, [], ◌∷◌, ◌++◌, length, option_map, is_some, Option, None, Some, refl, sym, ap, subst, ◌∙◌, append_assoc, append-nil, length-append, arith}
use Rattle.std.specs.Option.{option_or}
use Rattle.std.proofs.lemmas.Bool.Decides.{nat_tests}
use Rattle.ui_machine.specs.Definition.{Definition}
use Rattle.ui_machine.specs.Runs.{RunsSource, RunsSources, Tally, no_dispatch, tallied}
use Rattle.ui_machine.specs.State.Peers as peers
use Rattle.ui_machine.specs.Seq.{total}
use Rattle.ui_machine.specs.State.Config.{World}
use Rattle.ui_machine.specs.State.References.{in_source}
use Rattle.engine_world.specs.declared.engine.Engine.{Engine}
use Rattle.engine_world.proofs.Counts.{stays}
use Rattle.engine_dispatches.specs.Dispatched.{IsAtRest}
use Rattle.ui_machine.specs.State.Sources.{Source, source_of}
use Rattle.main_context.specs.Dues.{due_of}
use Rattle.main_context.specs.declared.source.Due.{Due}
use Rattle.main_context.specs.Attached.{next_source, numbers_after}

-- ** runs of sources

-- none of these sources is attached
abbrev pub AreAbsent : List Source → List ℕ → Type 0
AreAbsent sources [] = Unit {0}
AreAbsent sources (number ∷ numbers) = (source_of number sources ≡ None) × AreAbsent sources numbers

-- a source that is found by a number has it
own_number : (number : ℕ) (sources : List Source) (x : Source) → source_of number sources ≡ Some x → x.number ≡ number
own_number number [] x h = absurd (cc h)
own_number number (y ∷ ys) x h = by (λ e. own_number number ys x e) (nat_eq y.number number) refl h
  where
    by : (source_of number ys ≡ Some x → x.number ≡ number) → (b : Bool) → nat_eq y.number number ≡ b → cond b (Some y) (source_of number ys) ≡ Some x → x.number ≡ number
    by rest true is e =
        let same : y ≡ x = cc e in
        let own : y.number ≡ number = grind (arith, nat_tests) in
        ap (λ (z : Source). z.number) (sym same) ∙ own
    by rest false is e = rest e

module _ (d : Definition) where
  same_tally : (t : Tally) → t ≡ tallied t no_dispatch
  same_tally t = rw (plus t.dispatches, plus t.steps) refl
    where
      plus : (n : ℕ) → n + 0 ≡ n
      plus n = omega arith

  pub none_first : (t : Tally) → tallied no_dispatch t ≡ t
  none_first t = rw (plus t.dispatches, plus t.steps) refl
    where
      plus : (n : ℕ) → 0 + n ≡ n
      plus n = omega arith

  tallied_on : (a b c : Tally) → tallied a (tallied b c) ≡ tallied (tallied a b) c
  tallied_on a b c = rw (plus a.dispatches b.dispatches c.dispatches, plus a.steps b.steps c.steps) refl
    where
      plus : (x y z : ℕ) → x + (y + z) ≡ (x + y) + z
      plus x y z = omega arith

  -- one source more runs
  pub runs_more : (done : List ℕ) (number : ℕ) (replies more : List peers.Reply) (w v u : World) (t s : Tally) → RunsSources d done replies w t v
      → RunsSource d number (source_of number v.sources) more v s u → RunsSources d (done ++ number ∷ []) (replies ++ more) w (tallied t s) u
  runs_more [] number replies more w v u t s rests one = record {
    first = more;
    later = [];
    mid = u;
    first_tally = s;
    later_tally = no_dispatch;
    replied = ap (λ (r : List peers.Reply). r ++ more) rests.replied ∙ sym (append-nil more);
    counts = ap (λ (x : Tally). tallied x s) rests.counts ∙ none_first s ∙ same_tally s;
    begins = subst (λ (x : World). RunsSource d number (source_of number x.sources) more x s u) (sym rests.same) one;
    goes_on = record { replied = refl; counts = refl; same = refl };
  }
  runs_more (n ∷ done) number replies more w v u t s both one = record {
    first = both.first;
    later = both.later ++ more;
    mid = both.mid;
    first_tally = both.first_tally;
    later_tally = tallied both.later_tally s;
    replied = ap (λ (r : List peers.Reply). r ++ more) both.replied ∙ append_assoc both.first both.later more;
    counts = ap (λ (x : Tally). tallied x s) both.counts ∙ sym (tallied_on both.first_tally both.later_tally s);
    begins = both.begins;
    goes_on = runs_more done number both.later more both.mid v u both.later_tally s both.goes_on one;
  }

  -- one that is not there any more is passed over
  pub runs_past : (skipped done : List ℕ) (replies : List peers.Reply) (w v : World) (t : Tally) → AreAbsent v.sources skipped → RunsSources d done replies w t v → RunsSources d (done ++ skipped) replies w t v
  runs_past [] done replies w v t absent r = rw (append-nil done) r
  runs_past (number ∷ skipped) done replies w v t absent r =
      let none : source_of number v.sources ≡ None = absent.0 in
      let one : RunsSource d number (source_of number v.sources) [] v no_dispatch v = rw none (record { replied = refl; counts = refl; same = refl }) in
      let more = subst (λ (rs : List peers.Reply). RunsSources d (done ++ number ∷ []) rs w (tallied t no_dispatch) v) (append-nil replies) (runs_more done number replies [] w v v t no_dispatch r one) in
      let past = runs_past skipped (done ++ number ∷ []) replies w v (tallied t no_dispatch) absent.1 more in
      subst (λ (ns : List ℕ). RunsSources d ns replies w t v) (append_assoc done (number ∷ []) skipped)
      (subst (λ (x : Tally). RunsSources d ((done ++ number ∷ []) ++ skipped) replies w x v) (sym (same_tally t)) past)

-- ** the next of a batch

-- where a source is next, those before it are not there any more
pub record NextIs (sources : List Source) (numbers : List ℕ) (s : Source) : Type 0 where
  pub skipped : List ℕ
  pub absent : AreAbsent sources skipped
  pub there : source_of s.number sources ≡ Some s
  pub parts : numbers ≡ skipped ++ s.number ∷ numbers_after sources numbers

pub next_is : (sources : List Source) (numbers : List ℕ) (s : Source) → next_source sources numbers ≡ Some s → NextIs sources numbers s
next_is sources [] s h = absurd (cc h)
next_is sources (number ∷ numbers) s h = by (λ e. next_is sources numbers s e) (source_of number sources) refl h
  where
    by : (next_source sources numbers ≡ Some s → NextIs sources numbers s) → (found : Option Source) → source_of number sources ≡ found → option_or found (next_source sources numbers) ≡ Some s → NextIs sources (number ∷ numbers) s
    by others (Some x) is e =
        let same : x ≡ s = cc e in
        let own : x.number ≡ number = own_number number sources x is in
        record {
          skipped = [];
          absent = tt;
          there = ap (λ n. source_of n sources) (ap (λ (y : Source). y.number) (sym same) ∙ own) ∙ is ∙ ap (λ (y : Source). Some y) same;
          parts =
              ap (λ n. n ∷ numbers) (sym own ∙ ap (λ (y : Source). y.number) same)
              ∙ ap (λ (ns : List ℕ). s.number ∷ ns) (sym (ap (λ b. cond b numbers (numbers_after sources numbers)) (ap (λ (o : Option Source). is_some o) is)));
        }
    by others None is e =
        let rest = others e in
        record {
          skipped = number ∷ rest.skipped;
          absent = (is, rest.absent);
          there = rest.there;
          parts =
              ap (λ (ns : List ℕ). number ∷ ns) rest.parts
              ∙ ap (λ (ns : List ℕ). number ∷ rest.skipped ++ s.number ∷ ns) (sym (ap (λ b. cond b numbers (numbers_after sources numbers)) (ap (λ (o : Option Source). is_some o) is)));
        }

-- where none is next, none is there any more
pub none_is : (sources : List Source) (numbers : List ℕ) → next_source sources numbers ≡ None → AreAbsent sources numbers × (numbers_after sources numbers ≡ [])
none_is sources [] h = (tt, refl)
none_is sources (number ∷ numbers) h = by (λ e. none_is sources numbers e) (source_of number sources) refl h
  where
    by : (next_source sources numbers ≡ None → AreAbsent sources numbers × (numbers_after sources numbers ≡ [])) → (found : Option Source) → source_of number sources ≡ found → option_or found (next_source sources numbers) ≡ None
        → AreAbsent sources (number ∷ numbers) × (numbers_after sources (number ∷ numbers) ≡ [])
    by others (Some x) is e = absurd (cc e)
    by others None is e =
        let rest = others e in
        ((is, rest.0), ap (λ b. cond b numbers (numbers_after sources numbers)) (ap (λ (o : Option Source). is_some o) is) ∙ rest.1)

-- ** a turn that goes on

-- what is given to be run is a source that is attached
pub due_is : (x : Option Source) (due : Due) → Some due ≡ option_map due_of x → (s : Source) × (x ≡ Some s) × (s.number ≡ due.source)
due_is None due e = absurd (cc e)
due_is (Some s) due e = let same : due ≡ due_of s = cc e in (s, refl, ap (λ (x : Due). x.source) (sym same))

pub fewer_after : (sources : List Source) (numbers : List ℕ) (s : Source) → NextIs sources numbers s → length (numbers_after sources numbers) < length numbers
fewer_after sources numbers s n =
    let parts : length numbers ≡ length (n.skipped ++ s.number ∷ numbers_after sources numbers) = ap (λ (ns : List ℕ). length ns) n.parts in
    let split : length (n.skipped ++ s.number ∷ numbers_after sources numbers) ≡ length n.skipped + length (s.number ∷ numbers_after sources numbers) =
    length-append n.skipped (s.number ∷ numbers_after sources numbers) in
    omega (arith, parts, split)

-- ** how a turn begins

-- an engine at rest stays so where its lines, its event's value and the moment alone change
pub turned_rests : (d : Definition) (e new : Engine) → IsAtRest d e → new.world.context.sources ≡ e.world.context.sources
    → new ≡ record e { world = record e.world { context = new.world.context; transcript = new.world.transcript; result = new.world.result } } → IsAtRest d new
turned_rests d e new rests sources is = subst (λ (x : Engine). IsAtRest d x) (sym is) (record {
  counts = record {
    knows = rests.counts.knows;
    links = rests.counts.links;
    passes = rests.counts.passes;
    connects = stays d e _ refl refl rests.counts.connects;
    exact = λ o. omega (arith, rests.counts.exact o, ap (total (in_source o)) sources);
  };
  idle = rests.idle;
})
