-- What is to be shown of an instruction that is taken, and those that change nothing that costs.
use Rattle.std.proofs.Common.{◌≡◌, refl, sym, ap, subst, ◌∙◌, ℕ, ◌+◌, ◌≤◌, List, [], ◌∷◌, ◌++◌, Option, Result, Ok, arith}
use Rattle.ui_machine.specs.Seq.{total}
use Rattle.ui_machine.specs.declared.arm.Arm.{Arm}
use Rattle.ui_machine.specs.Definition.{Definition}
use Rattle.ui_machine.specs.Definition.Programs.{Instruction}
use Rattle.ui_machine.specs.Instructions.{in_front}
use Rattle.ui_machine.specs.Instructions.Jumps.{past}
use Rattle.ui_machine.specs.Instructions.Registers.{with_register, written_to}
use Rattle.ui_machine.specs.Outcome.{Answer}
use Rattle.ui_machine.specs.Rules.Build.{of_items}
use Rattle.ui_machine.specs.State.Config.{Left, Started, World, leaves}
use Rattle.ui_machine.specs.State.Handlers.{Handler}
use Rattle.ui_machine.specs.State.Objects.{Objects}
use Rattle.ui_machine.specs.State.Tasks.{Frame, Item, Registers, Running, Task}
use Rattle.ui_machine.specs.Definition.Values.{Value}
use Rattle.law_typing.specs.Good.Builds.{is_for_builder}
use Rattle.law_typing.specs.Good.Standing.{Standing, standing}
use Rattle.law_typing.specs.Graph.{start_of}
use Rattle.law_typing.specs.Graph.Tables.{Tables}
use Rattle.law_typing.specs.Verdict.Accepted.{Accepted}
use Rattle.law_steps.proofs.Instructed.Around.{Due, r}
use Rattle.law_steps.proofs.Instructed.Inverse.{bound}
use Rattle.law_prices.specs.Deeds.{PriceList}
use Rattle.law_prices.specs.Paid.{HandlersPaid}
use Rattle.law_prices.specs.Potential.{agenda_price, floating_price, running_price, seen}
use Rattle.law_prices.specs.Prices.{start_price, toll}
use Rattle.law_prices.specs.Steps.{more_deeds}
use Rattle.law_prices.proofs.Whole.{agenda_alike, objects_price, paid_alike, whole}

pub ok_is : {A E : Type 0} (x y : A) → ◌≡◌ {A = Result A E} (Ok x) (Ok y) → x ≡ y
ok_is x y e = cc

-- what an instruction starts goes in front of the rest
pub in_front_is : (rest : List Task) (answer : Answer Started) (l : Left) → in_front rest answer ≡ Ok l →
    (s : Started) × (answer ≡ Ok s) × (record { world = s.world; agenda = s.tasks ++ rest } ≡ l)
unfolding in_front
in_front_is rest answer l e = let b = bound answer (λ (s : Started). leaves s.world (s.tasks ++ rest)) l e in (b.0, b.1, ok_is {E = Arm} _ l b.2)

-- handlers stay paid in a world with the same ones
pub paid_in : (d : Definition) (a : Accepted d) (w v : World) (before after : List Task) → standing v.objects ≡ standing w.objects → v.handlers ≡ w.handlers → v.last_handler ≡ w.last_handler →
    ((f : Item → ℕ) → total (of_items f) after ≤ total (of_items f) before) → HandlersPaid d a (standing w.objects) before w.last_handler w.handlers →
    HandlersPaid d a (standing v.objects) after v.last_handler v.handlers
paid_in d a w v before after e f g less paid =
    let moved = paid_alike d a (standing w.objects) before after w.last_handler w.handlers less paid in
    let last = subst (λ n. HandlersPaid d a (standing w.objects) after n w.handlers) (sym g) moved in
    let hs = subst (λ (hs : List Handler). HandlersPaid d a (standing w.objects) after v.last_handler hs) (sym f) last in
    subst (λ (s : Standing). HandlersPaid d a s after v.last_handler v.handlers) (sym e) hs

module _ {d : Definition} {i : Instruction} (u : Due d i) (P : PriceList) (t : Tables) where
  open u use {a, w, f, rest, n, g}

  -- handlers are paid where the instruction is due
  abbrev pub PaidThere : Type 0
  PaidThere = HandlersPaid d a (standing w.objects) (Running f ∷ rest) w.last_handler w.handlers

  -- what the instruction starts, and what it does beside itself
  abbrev pub started : ℕ
  started = toll d P (r u).ks i + start_price d P t (start_of d (r u).ks i)

  abbrev pub more : ℕ
  more = total P (more_deeds d w f i)

  -- what is to be shown of the world and the agenda that it leaves
  pub record Pays (l : Left) : Type 0 where
    pub falls : more + whole d P t l.world l.agenda ≤ started + whole d P t w (Running (past f) ∷ rest)
    pub paid : HandlersPaid d a (standing l.world.objects) l.agenda l.world.last_handler l.world.handlers

  -- a world in which nothing that costs has changed
  pub record Stays (v : World) : Type 0 where
    pub objects : v.objects ≡ w.objects
    pub handlers : v.handlers ≡ w.handlers
    pub last : v.last_handler ≡ w.last_handler
    pub sources : v.sources ≡ w.sources
    pub floating : floating_price d P (standing w.objects) v.floating ≤ floating_price d P (standing w.objects) w.floating

  pub quiet : (v : World) → Stays v → (next : Frame) → running_price d P t next ≤ started + running_price d P t (past f) → more ≡ 0 → PaidThere → Pays (record { world = v; agenda = Running next ∷ rest })
  quiet v s next less none paid = record {
    falls = (
        let x = agenda_alike d P t (seen w) (seen v) rest (ap standing s.objects) s.handlers s.sources in
        let os = ap (objects_price d P t (total is_for_builder (Running next ∷ rest))) s.objects in
        let fs = ap (λ (o : Objects). floating_price d P (standing o) v.floating) s.objects in
        let few = s.floating in
        omega (arith, x, os, fs, few, less, none));
    paid = paid_in d a w v (Running f ∷ rest) (Running next ∷ rest) (ap standing s.objects) s.handlers s.last (λ f. omega arith) paid;
  }

  -- the world with lines said, and registers written
  pub record Told (s : Started) : Type 0 where
    pub lines : List (List ℕ)
    pub registers : Registers
    pub is : record { world = record w { transcript = lines }; tasks = Running (record (past f) { registers = registers }) ∷ [] } ≡ s

  pub written : (lines : List (List ℕ)) (to : ℕ) (x : Option Value) (s : Started) → written_to (record w { transcript = lines }) to x (past f) ≡ Ok s → Told s
  unfolding written_to
  written lines to x s e =
      let b = bound (with_register to x (past f).registers) _ s e in
      record { lines = lines; registers = b.0; is = ok_is {E = Arm} _ s b.2 }

  pub told : (answer : Answer Started) → ((s : Started) → answer ≡ Ok s → Told s) → more ≡ 0 → PaidThere → (l : Left) → in_front rest answer ≡ Ok l → Pays l
  told answer is none paid l e =
      let x = in_front_is rest answer l e in
      let k = is x.0 x.1 in
      let same = ap (λ (s : Started). record { world = s.world; agenda = s.tasks ++ rest }) k.is ∙ x.2 in
      subst Pays same
      (quiet (record w { transcript = k.lines }) (record { objects = refl; handlers = refl; last = refl; sources = refl; floating = omega arith }) (record (past f) { registers = k.registers }) (omega arith) none paid)

  -- ** where the world changes

  -- a world where what waits and lives costs no more, beside what the instruction does
  pub changed : (v : World) (next : Frame) → running_price d P t next ≤ started + running_price d P t (past f) →
      agenda_price d P t (seen v) rest ≤ agenda_price d P t (seen w) rest →
      objects_price d P t (total is_for_builder (Running next ∷ rest)) v.objects + more ≤ objects_price d P t (total is_for_builder (Running next ∷ rest)) w.objects →
      floating_price d P (standing v.objects) v.floating ≤ floating_price d P (standing w.objects) w.floating →
      HandlersPaid d a (standing v.objects) (Running next ∷ rest) v.last_handler v.handlers → Pays (record { world = v; agenda = Running next ∷ rest })
  changed v next less agenda os fs paid = record { falls = omega (arith, less, agenda, os, fs); paid = paid }

  -- the same answer of the instruction
  pub answered : (answer : Answer Started) → ((s : Started) → answer ≡ Ok s → (v : World) × (next : Frame) × (record { world = v; tasks = Running next ∷ [] } ≡ s) × Pays (record { world = v; agenda = Running next ∷ rest })) →
      (l : Left) → in_front rest answer ≡ Ok l → Pays l
  answered answer is l e =
      let x = in_front_is rest answer l e in
      let k = is x.0 x.1 in
      let same = ap (λ (s : Started). record { world = s.world; agenda = s.tasks ++ rest }) k.2 ∙ x.2 in
      subst Pays same k.3
