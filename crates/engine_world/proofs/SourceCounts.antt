-- Sources hold their data: what is attached is counted, and what is removed is let go.
use Rattle.std.proofs.Common.{◌≡◌, ℕ, ◌+◌, ◌<◌, Bool, true, false, cond, not, ◌&&◌, List, [], ◌∷◌, ◌++◌, length, Option, Some, None, is_some, option_and_then, option_map, refl, ap, ◌∙◌, arith}
use Rattle.std.specs.List.{find}
use Rattle.ui_machine.specs.Definition.{Definition}
use Rattle.ui_machine.specs.Seq.{total}
use Rattle.ui_machine.specs.State.References.{in_object, in_option, in_source, same}
use Rattle.ui_machine.specs.State.Sources.{Source, due_after, is_numbered, runs_program, source_of, without_first, without_program, without_source}
use Rattle.ui_machine.specs.Rules.MainLoop.{answered, rescheduled}
use Rattle.instance_tables.specs.Store.{Store, count_of, id_of}
use Rattle.main_context.specs.Attached.{Attached, is_attached}
use Rattle.main_context.specs.Dues.{due_of, identity_of}
use Rattle.main_context.specs.declared.source.Due.{Due}
use Rattle.main_context.proofs.First.{total_without_first, without_none}
use Rattle.engine_world.specs.Counting.{KeepsCounts, OnlyCounts}
use Rattle.engine_world.specs.declared.engine.Engine.{Engine}
use Rattle.engine_world.proofs.Counts.{stays}
use Rattle.engine_stack.proofs.Lists.{total-append}

-- the engine with another table and another context
abbrev pub with_context : Engine → Store → Attached → Engine
with_context e t c = record e { world = record e.world { table = t; context = c } }

-- where the counts of a table move as what its sources hold does
pub context_moves : (d : Definition) (e : Engine) (t : Store) (c : Attached) → OnlyCounts e.world.table t
    → ((o : ℕ) → count_of t.counts o + total (in_source o) e.world.context.sources ≡ count_of e.world.table.counts o + total (in_source o) c.sources)
    → KeepsCounts d e (with_context e t c)
context_moves d e t c only moves = record {
  at = λ taken h. record {
    knows = h.knows;
    links = h.links;
    passes = h.passes;
    connects = stays d e _ refl refl h.connects;
    exact = λ o.
        let objects : total (in_object d o) t.objects ≡ total (in_object d o) e.world.table.objects = ap (total (in_object d o)) only.objects in
        let floats : total (same o) t.floating ≡ total (same o) e.world.table.floating = ap (total (same o)) only.floating in
        omega (arith, objects, floats, moves o, h.exact o);
  };
}

-- one source more holds its data
pub attached_moves : (o n m : ℕ) (xs : List Source) (s : Source) → n ≡ m + in_option o s.arg
    → n + total (in_source o) xs ≡ m + total (in_source o) (xs ++ s ∷ [])
attached_moves o n m xs s held = omega (arith, held, total-append (in_source o) xs (s ∷ []))

-- ** the sources of a program

-- none of them is left where none is found
pub none_left : (program : ℕ) (xs : List Source) → find (runs_program program) xs ≡ None → without_program program xs ≡ xs
none_left program [] h = refl
none_left program (x ∷ xs) h =
    elim (runs_program program x) as (λ t. cond t (Some x) (find (runs_program program) xs) ≡ None → cond (not t) (x ∷ without_program program xs) (without_program program xs) ≡ x ∷ xs) [
      | true ↦ λ e. absurd (cc e)
      | false ↦ λ e. ap (λ ys. x ∷ ys) (none_left program xs e)
    ] h

-- the same are left where the first is gone before
pub first_left : (program : ℕ) (xs : List Source) → without_program program (without_first (runs_program program) xs) ≡ without_program program xs
first_left program [] = refl
first_left program (x ∷ xs) = by (first_left program xs) (runs_program program x) refl
  where
    by : without_program program (without_first (runs_program program) xs) ≡ without_program program xs → (t : Bool) → runs_program program x ≡ t
        → without_program program (cond t xs (x ∷ without_first (runs_program program) xs)) ≡ cond (not t) (x ∷ without_program program xs) (without_program program xs)
    by rest true is = refl
    by rest false is = rw is (ap (λ ys. x ∷ ys) rest)

-- fewer are left
pub fewer_left : (program : ℕ) (xs : List Source) (s : Source) → find (runs_program program) xs ≡ Some s → length (without_first (runs_program program) xs) < length xs
fewer_left program [] s h = absurd (cc h)
fewer_left program (x ∷ xs) s h =
    elim (runs_program program x) as (λ t. cond t (Some x) (find (runs_program program) xs) ≡ Some s → length (cond t xs (x ∷ without_first (runs_program program) xs)) < length (x ∷ xs)) [
      | true ↦ λ e. omega arith
      | false ↦ λ e. omega (arith, fewer_left program xs s e)
    ] h

-- ** a source whose program has answered

-- the data of the source of a number, if it is attached
abbrev pub data_in : ℕ → List Source → Option ℕ
data_in number xs = option_and_then (λ (s : Source). s.arg) (source_of number xs)

-- one that is removed lets its data go
pub removed_total : (o moment number : ℕ) (xs : List Source) → is_attached xs number ≡ true
    → total (in_source o) (answered moment number false xs) + in_option o (data_in number xs) ≡ total (in_source o) xs
removed_total o moment number xs attached = by (source_of number xs) refl attached
  where
    by : (found : Option Source) → source_of number xs ≡ found → is_some found ≡ true
        → total (in_source o) (without_source number xs) + in_option o (option_and_then (λ (s : Source). s.arg) found) ≡ total (in_source o) xs
    by None is e = absurd (cc e)
    by (Some s) is e = total_without_first (in_source o) (is_numbered number) xs s is

-- one that is not there is not removed
pub absent_total : (o moment number : ℕ) (xs : List Source) → is_attached xs number ≡ false
    → total (in_source o) (answered moment number false xs) ≡ total (in_source o) xs
absent_total o moment number xs attached = by (source_of number xs) refl attached
  where
    by : (found : Option Source) → source_of number xs ≡ found → is_some found ≡ false → total (in_source o) (without_source number xs) ≡ total (in_source o) xs
    by None is e = ap (total (in_source o)) (without_none (is_numbered number) xs is)
    by (Some s) is e = absurd (cc e)

-- one that stays goes on to hold its data
pub kept_total : (o moment number : ℕ) (xs : List Source) → total (in_source o) (answered moment number true xs) ≡ total (in_source o) xs
kept_total o moment number [] = refl
kept_total o moment number (x ∷ xs) = by (kept_total o moment number xs) (is_numbered number x)
  where
    by : total (in_source o) (rescheduled moment number xs) ≡ total (in_source o) xs → (t : Bool)
        → in_source o (cond t (record x { due = due_after moment x.interval }) x) + total (in_source o) (rescheduled moment number xs) ≡ in_source o x + total (in_source o) xs
    by rest true = omega (arith, rest)
    by rest false = omega (arith, rest)

-- what was given of a source has its data
pub data_given : (number : ℕ) (xs : List Source) (due : Option Due) → due ≡ option_map due_of (source_of number xs)
    → option_and_then (λ (d : Due). identity_of d.arg) due ≡ data_in number xs
data_given number xs due is = ap (λ (d : Option Due). option_and_then (λ (x : Due). identity_of x.arg) d) is ∙ by (source_of number xs)
  where
    same_arg : (arg : Option ℕ) → identity_of (option_map (λ id. record { 0 = id }) arg) ≡ arg
    same_arg None = refl
    same_arg (Some id) = refl

    by : (found : Option Source) → option_and_then (λ (x : Due). identity_of x.arg) (option_map due_of found) ≡ option_and_then (λ (s : Source). s.arg) found
    by None = refl
    by (Some s) = same_arg s.arg

-- the sum where a source is removed by its answer, and where none is
pub answered_total : (o moment number : ℕ) (keep : Bool) (xs : List Source) → (not keep && is_attached xs number) ≡ true
    → total (in_source o) (answered moment number keep xs) + in_option o (data_in number xs) ≡ total (in_source o) xs
answered_total o moment number true xs is = absurd (cc is)
answered_total o moment number false xs is = removed_total o moment number xs is

pub staying_total : (o moment number : ℕ) (keep : Bool) (xs : List Source) → (not keep && is_attached xs number) ≡ false
    → total (in_source o) (answered moment number keep xs) ≡ total (in_source o) xs
staying_total o moment number true xs is = kept_total o moment number xs
staying_total o moment number false xs is = absent_total o moment number xs is

-- ** the first source of a program, as it is given

-- one that is given was found, and its data is the source's
pub record FoundSource (x : Option Source) (due : Due) : Type 0 where
  pub source : Source
  pub found : x ≡ Some source
  pub holds : (o : ℕ) → in_option o (id_of due.arg) ≡ in_source o source

pub found_source : (x : Option Source) (due : Due) → Some due ≡ option_map due_of x → FoundSource x due
found_source None due e = absurd (cc e)
found_source (Some s) due e = record { source = s; found = refl; holds = λ o. ap (λ (d : Due). in_option o (id_of d.arg)) same ∙ by o s.arg }
  where
    same : due ≡ due_of s
    same = cc e

    by : (o : ℕ) (arg : Option ℕ) → in_option o (id_of (option_map (λ id. record { 0 = id }) arg)) ≡ in_option o arg
    by o None = refl
    by o (Some id) = refl

-- where none is given none was found
pub found_none : (x : Option Source) (given : Option Due) → given ≡ option_map due_of x → ((due : Due) → given ≡ Some due → ⊥) → x ≡ None
found_none None given e none = refl
found_none (Some s) given e none = absurd (none (due_of s) e)
