-- Numbers are left for all handlers that are still to be connected, from the beginning of a dispatch on.
use Rattle.std.proofs.Common.{◌≡◌, refl, ℕ, suc, ◌+◌, ◌<◌, ◌≤◌, Bool, true, false, cond, List, [], ◌∷◌, length, Option, None, Some, Ok, Err, arith}
use Rattle.std.specs.List.{filter}
use Rattle.std.specs.Prelude.{IfOk, nat_lt}
use Rattle.std.proofs.lemmas.Bool.Decides.{nat_tests}
use Rattle.ui_machine.specs.Definition.{Definition}
use Rattle.ui_machine.specs.Definition.Places.{Place}
use Rattle.ui_machine.specs.Outcome.{After, Answer}
use Rattle.ui_machine.specs.Rules.Build.{adopts_if, connected_items, is_connecting, made_items, numbered, to_connect}
use Rattle.ui_machine.specs.Rules.Connections.{by_code_to, greatest_handler, has_room_for_handler}
use Rattle.ui_machine.specs.Seq.{total}
use Rattle.ui_machine.specs.State.Config.{World}
use Rattle.ui_machine.specs.State.Objects.{Objects, changed}
use Rattle.ui_machine.specs.State.Tasks.{Task, connects, makes}
use Rattle.law_runs.specs.Handlers.{BuildsHaveHandlerNumbers, HandlerNumbersLast, RequestsHaveHandlerNumbers, SourcesHaveHandlerNumbers}
use Rattle.law_runs.proofs.BuildProofs.{numbered_each, parts_taken}
use Rattle.law_runs.proofs.Counting.{Counting, both_true}
use Rattle.law_runs.proofs.NumberStepProofs.{steps_within}
use Rattle.law_runs.proofs.NumberStartProofs.{total_append}

-- ** the count of handlers' numbers

-- what holds without an answer holds where there is one
of_any : {X : Type 0} {n last : ℕ} (a : Answer (After Objects X)) → last ≡ n → IfOk a (λ r. last ≡ n)
of_any (Ok r) same = same
of_any (Err arm) same = tt

-- a number is left where a program may connect a handler
one_left : (d : Definition) (w : World) (n : ℕ) (rest : List Task) (id signal : ℕ) → w.last_handler ≡ n → has_room_for_handler d w (to_connect rest) id signal ≡ true
    → suc n + to_connect rest ≤ greatest_handler
one_left d w n rest id signal same room =
    let parts = both_true (nat_lt (length (filter (by_code_to id signal) w.handlers)) d.most_handlers) (nat_lt (w.last_handler + to_connect rest) greatest_handler) room in
    let below : w.last_handler + to_connect rest < greatest_handler = let lt = parts.1 in grind (arith, nat_tests) in
    omega (arith, same, below)

-- numbers of handlers are counted: a handler that is connected takes one
abbrev handlers_counted : Counting
handlers_counted = record {
  takes = is_connecting;
  Holds = λ n os last. last ≡ n;
  IsAmong = λ n id. Unit {0};
  most = greatest_handler;
  lives = λ n last os id o same is. tt;
  changes = λ n last os id change same kin. of_any (changed os id change) same;
  adopts = λ n last os parent child same high low. same;
  leaves = λ n last os id o parent same is at. same;
  disposes = λ d n last os id same low. same;
  removes = λ n last os id same low. same;
  makes_object = λ n last os place o none alone same. omega (arith, same);
  connects_handler = λ n last os place number same. omega (arith, same);
  object_room = λ d w n rest p place same few room. omega (arith, few);
  handler_room = λ d w n rest id signal place number same few room. (let left = one_left d w n rest id signal same room in omega (arith, left));
}

pub handler_numbers_last : HandlerNumbersLast
handler_numbers_last d replies c e reached few =
    let last = steps_within handlers_counted d reached.count replies c e reached.steps (record { count = c.world.last_handler; taken = refl; few = omega (arith, few) }) in
    let same = last.taken in
    let few = last.few in
    omega (arith, same, few)

-- ** beginnings

made_none : (place : ℕ) (ps : List Place) → total is_connecting (made_items place ps) ≡ 0
made_none place [] = refl
made_none place (p ∷ ps) =
    let all = total_append is_connecting (cond p.is_prototype [] (makes place ∷ adopts_if place p.parent)) (made_items (suc place) ps) in
    let one = by p.is_prototype p.parent in
    let rest = made_none (suc place) ps in
    omega (arith, all, one, rest)
  where
    by : (b : Bool) (parent : Option ℕ) → total is_connecting (cond b [] (makes place ∷ adopts_if place parent)) ≡ 0
    by true parent = refl
    by false None = refl
    by false (Some parent) = refl

-- one handler is connected for each signal of a place
connected_each : (place : ℕ) (ps : List Place) → total is_connecting (connected_items place ps) ≡ total (λ (p : Place). length p.signals) ps
connected_each place [] = refl
connected_each place (p ∷ ps) =
    let all = total_append is_connecting (numbered (connects place) 0 p.signals) (connected_items (suc place) ps) in
    let here = numbered_each is_connecting (connects place) (λ n. refl) 0 p.signals in
    let rest = connected_each (suc place) ps in
    omega (arith, all, here, rest)

pub builds_have_handler_numbers : BuildsHaveHandlerNumbers
builds_have_handler_numbers d peers few =
    let parts = parts_taken is_connecting (λ place slot to. refl) (λ number. refl) d in
    let made = made_none 0 d.places in
    let connected = connected_each 0 d.places in
    omega (arith, few, parts, made, connected)

pub requests_have_handler_numbers : RequestsHaveHandlerNumbers
requests_have_handler_numbers d w r few = omega (arith, few)

pub sources_have_handler_numbers : SourcesHaveHandlerNumbers
sources_have_handler_numbers w number few = omega (arith, few)
