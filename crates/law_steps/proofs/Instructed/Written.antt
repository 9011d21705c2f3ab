-- An instruction that writes one register and moves nothing else: what it leaves is good where the register holds what its kind says.
use Rattle.std.proofs.Common.{◌≡◌, refl, sym, ap, subst, ◌∙◌, ℕ, zero, suc, ◌+◌, ◌<◌, ◌≤◌, Bool, true, false, List, [], ◌∷◌, length, drop, Option, None, Some, Ok, inr, arith, lt-ltb}
use Rattle.std.specs.Prelude.{not, nat_eq}
use Rattle.std.proofs.lemmas.Bool.{eqb-true, eqb-false}
use Rattle.ui_machine.specs.Seq.{read, write, total}
use Rattle.ui_machine.specs.Definition.Kinds.{RegisterKind}
use Rattle.ui_machine.specs.Definition.Kinds as kinds
use Rattle.ui_machine.specs.Definition.Values.{Value}
use Rattle.ui_machine.specs.Definition.{Definition}
use Rattle.ui_machine.specs.Definition.Programs.{Instruction}
use Rattle.ui_machine.specs.Definition.Programs as words
use Rattle.ui_machine.specs.State.Objects.{Object, living, live}
use Rattle.ui_machine.specs.State.Tasks.{Registers, Frame, Running, Task}
use Rattle.ui_machine.specs.State.Config.{World}
use Rattle.ui_machine.specs.Instructions.{in_front, instruction_step}
use Rattle.ui_machine.specs.Instructions.Registers.{written_to}
use Rattle.ui_machine.specs.Instructions.Registers as machine
use Rattle.ui_machine.specs.Instructions.Jumps.{past}
use Rattle.ui_machine.specs.Steps.{left}
use Rattle.law_typing.specs.Rules.RegisterKinds.{Kinds}
use Rattle.law_typing.specs.Rules.Typing.{after}
use Rattle.law_typing.specs.Rules.Brackets.{opened, is_among, written, keeps, keeps_brackets}
use Rattle.law_typing.specs.Graph.Channels.{property}
use Rattle.law_typing.specs.Graph.{graph, start_of}
use Rattle.law_typing.specs.Graph.Tables.{entry}
use Rattle.law_typing.specs.Graph.Costs.{start_cost}
use Rattle.law_typing.specs.Graph.Depths.{depth}
use Rattle.law_typing.specs.Verdict.Accepted.{Each}
use Rattle.law_typing.specs.Laws.WellRead.{Within, ends}
use Rattle.law_typing.specs.Laws.StepsKeepGood.{IsGood}
use Rattle.law_typing.specs.Good.Standing.{Standing, standing, view, View, holds, RegistersFit}
use Rattle.law_typing.specs.Good.Objects.{PeersGood}
use Rattle.law_typing.specs.Good.Builds.{is_for_builder}
use Rattle.law_typing.specs.Good.Programs.{code_left}
use Rattle.law_typing.specs.Good.Freezes.{QueuesGood, below_lowest, carried}
use Rattle.law_typing.proofs.Lists.{each_in}
use Rattle.law_static.specs.Code.{gone_on}
use Rattle.law_static.proofs.CodeProofs.{from_at}
use Rattle.law_static.proofs.SubclassProofs.{get_in}
use Rattle.law_steps.specs.Kept.Agenda.{Serves}
use Rattle.law_steps.specs.Kept.Write.{Whole}
use Rattle.law_steps.proofs.Kept.Lists.{objects_stay}
use Rattle.law_steps.proofs.Kept.WriteProofs.{read_here, read_apart}
use Rattle.law_steps.specs.Instructed.Running.{at_top}
use Rattle.law_steps.proofs.Instructed.Frozen.{is_bracket, opened_past, frozen_same}
use Rattle.law_steps.proofs.Instructed.Around.{Due, goes_to, past_good, left_steps, steps_left, r, here, taken, code_is, fine_where, waits_not, StepIsFine, making}

pub length_write : {A : Type 0} (x : A) (xs : List A) (i : ℕ) (y : A) → i < length xs → length (write x xs i y) ≡ length xs
length_write x [] i y low = absurd (omega (arith, low))
length_write x (z ∷ xs) zero y low = refl
length_write x (z ∷ xs) (suc i) y low = let h = length_write x xs i y (omega (arith, low)) in omega (arith, h)

-- registers fit with one written
pub fit_written : (d : Definition) (s : Standing) (ks : Kinds) (registers : Registers) (to : ℕ) (k : RegisterKind) (x : Option Value) →
    RegistersFit d s ks registers → holds d s k x ≡ true → RegistersFit d s (write kinds.unset ks to k) (write None registers to x)
fit_written d s ks registers to k x fit h r = go (nat_eq to r) refl
  where
    go : (b : Bool) → nat_eq to r ≡ b → holds d s (read kinds.unset (write kinds.unset ks to k) r) (read None (write None registers to x) r) ≡ true
    go true e =
        subst (λ r. holds d s (read kinds.unset (write kinds.unset ks to k) r) (read None (write None registers to x) r) ≡ true) (eqb-true to r e)
        (rw (read_here kinds.unset ks to k, read_here None registers to x) h)
    go false e =
        let apart = eqb-false to r e in
        rw (read_apart kinds.unset ks to k r apart, read_apart None registers to x r apart) (fit r)

pub serves_itself : (d : Definition) (agenda : List Task) (v : View) → Serves d agenda v v
serves_itself d agenda v = record {
  stands = λ id some place e. e;
  held = λ place id is at e. e;
  builder = refl;
  last = omega arith;
  handlers = λ number low h is. (h, is, refl, refl, refl);
  bindings = λ number b is. is;
  sources = inr refl;
  peers = λ number p is. (p, is, refl);
}

keeps_past : (open_after : List ℕ) (i : Instruction) → is_bracket i ≡ false → keeps_brackets open_after i ≡ keeps open_after (written i)
keeps_past open_after (words.freeze r) e = absurd (cc)
keeps_past open_after _ e = refl

writes : (w : World) (rest : List Task) (f : Frame) (n to : ℕ) (x : Option Value) → to < length f.registers →
    left n (in_front rest (written_to w to x f))
    ≡ Ok (record { world = w; agenda = Running (record f { registers = write None f.registers to x }) ∷ rest; counted = n })
unfolding written_to in_front left
writes w rest f n to x low = rw (lt-ltb to (length f.registers) low) refl

stays : (v : World) (rest : List Task) (f : Frame) (n : ℕ) → left n (in_front rest (machine.goes_on v [] f)) ≡ Ok (at_top v f rest n)
unfolding in_front left
stays v rest f n = refl

-- an open register is not the one that is written
pub not_among : (xs : List ℕ) (to r : ℕ) → keeps xs (Some to) ≡ true → is_among xs r ≡ true → to ≡ r → ⊥
not_among xs to r kept among e = let s = ap (is_among xs) e in let t = ap not (s ∙ among) in cc

module _ {d : Definition} {i : Instruction} (t : Due d i) (plain : is_bracket i ≡ false) where
  open t use {well, a, most_counted, w, f, rest, n, g, is}

  pub code_here : code_left d f ≡ i ∷ drop (suc f.at) (r t).b.code
  code_here = ap (drop f.at) (code_is t) ∙ from_at (r t).b.code f.at i (here t)

  pub code_next : (registers : Registers) → code_left d (gone_on f registers) ≡ drop (suc f.at) (r t).b.code
  code_next registers = ap (drop (suc f.at)) (code_is t)

  pub open_same : (registers : Registers) → opened (code_left d (gone_on f registers)) ≡ opened (code_left d f)
  open_same registers = ap opened (code_next registers) ∙ (sym (opened_past i (drop (suc f.at) (r t).b.code) plain) ∙ ap opened (sym code_here))

  pub kept : (to : ℕ) → written i ≡ Some to → keeps (opened (code_left d f)) (Some to) ≡ true
  kept to e =
      ap (λ xs. keeps xs (Some to)) (ap opened code_here ∙ opened_past i (drop (suc f.at) (r t).b.code) plain)
      ∙ (ap (keeps (opened (drop (suc f.at) (r t).b.code))) (sym e)
      ∙ (sym (keeps_past (opened (drop (suc f.at) (r t).b.code)) i plain) ∙ (taken t).brackets))

  -- ** the world is another

  -- a world in which all keep their places, as often frozen and with the same queues
  pub record Moved (v : World) : Type 0 where
    pub whole : Whole d a.weighed.costs a.weighed.depths (Running f ∷ rest) v
    pub stands : standing v.objects ≡ standing w.objects
    pub served : Serves d rest (view w) (view v)
    pub pool : PeersGood d v.peers (length v.builder + total is_for_builder (Running f ∷ rest))
    pub queues : (id : ℕ) (x : Object) → living v.objects id ≡ Some x →
        (o : Object) × (living w.objects id ≡ Some o) × (x.place ≡ o.place) × (x.freezes ≡ o.freezes) × (x.queue ≡ o.queue)
    pub few : live v.objects ≤ live w.objects
    pub queued : total (carried d a.weighed.costs (making t)) v.objects ≤ start_cost (graph d) a.weighed.costs (start_of d (r t).ks i) + total (carried d a.weighed.costs (making t)) w.objects

  -- what was frozen is, as often, where the open registers hold what they held
  queues_stay : (v : World) → Moved v → (registers : Registers) → ((r : ℕ) → is_among (opened (code_left d f)) r ≡ true → read None registers r ≡ read None f.registers r) →
      QueuesGood d a.weighed.depths (depth (graph d) a.weighed.depths) (Running (gone_on f registers) ∷ rest) (suc n) v.objects
  queues_stay v moved registers hold id x e =
      let o = moved.queues id x e in
      let q = g.queues id o.0 o.1 in
      record {
        count = o.3 ∙ (let same = frozen_same d id f (gone_on f registers) (open_same registers) hold in let old = q.count in omega (arith, same, old));
        few = (let old = q.few in let same = o.3 in omega (arith, old, same));
        none = λ e. o.4 ∙ q.none (sym o.3 ∙ e);
        deep =
            subst (λ place. Each (λ slot. suc (below_lowest d id (Running f ∷ rest)) + entry a.weighed.depths.channels (property place slot) ≤ depth (graph d) a.weighed.depths) x.queue) (sym o.2)
            (subst (Each (λ slot. suc (below_lowest d id (Running f ∷ rest)) + entry a.weighed.depths.channels (property o.0.place slot) ≤ depth (graph d) a.weighed.depths)) (sym o.4) q.deep);
      }

  -- the register is one of the program's
  pub low : (to : ℕ) → written i ≡ Some to → to < length f.registers
  low to e =
      let block = (well.programs f.program (r t).p (r t).is).blocks f.block (r t).b (r t).in_block in
      let within = each_in (λ i. Within (r t).p.registers (written i)) (r t).b.code block.written i (get_in (r t).b.code f.at i (here t)) in
      let below = subst (Within (r t).p.registers) e within in
      let counted = (r t).counted in
      omega (arith, below, counted)

  -- the program goes on in it, with these registers
  moves : (v : World) → Moved v → (registers : Registers) → ends i ≡ false → length registers ≡ (r t).p.registers →
      RegistersFit d (standing w.objects) (after d (r t).p (r t).ks i) registers → ((r : ℕ) → is_among (opened (code_left d f)) r ≡ true → read None registers r ≡ read None f.registers r) →
      IsGood d a most_counted (at_top v (gone_on f registers) rest (suc n))
  moves v moved registers more counted fit hold =
      goes_to t v (gone_on f registers) (left_steps t)
      (record {
        whole = moved.whole;
        served = moved.served;
        pool = moved.pool;
        same = refl;
        running = past_good t (standing v.objects) registers more counted (subst (λ s. RegistersFit d s (after d (r t).p (r t).ks i) registers) (sym moved.stands) fit);
        queues = queues_stay v moved registers hold;
        few = moved.few;
        queued = (let left = steps_left t in let queued = moved.queued in omega (arith, left, queued));
      })

  -- no register is written
  pub moved_fine : (v : World) → Moved v → ends i ≡ false → after d (r t).p (r t).ks i ≡ (r t).ks →
      instruction_step d w rest (past f) i ≡ in_front rest (machine.goes_on v [] (past f)) → StepIsFine t
  moved_fine v moved more kinds_are does within =
      fine_where t within (at_top v (past f) rest (suc n)) (ap (left (suc n)) does ∙ stays v rest (past f) (suc n))
      (waits_not t v (gone_on f f.registers)
      (moves v moved f.registers more (r t).counted (subst (λ ks. RegistersFit d (standing w.objects) ks f.registers) (sym kinds_are) (r t).fit) (λ r among. refl)))

  -- one register is written
  pub moved_written : (v : World) → Moved v → (to : ℕ) (k : RegisterKind) (x : Option Value) → ends i ≡ false → written i ≡ Some to →
      after d (r t).p (r t).ks i ≡ write kinds.unset (r t).ks to k → holds d (standing w.objects) k x ≡ true →
      instruction_step d w rest (past f) i ≡ in_front rest (written_to v to x (past f)) → StepIsFine t
  moved_written v moved to k x more e kinds_are h does within =
      fine_where t within (at_top v (record (past f) { registers = write None f.registers to x }) rest (suc n))
      (ap (left (suc n)) does ∙ writes v rest (past f) (suc n) to x (low to e))
      (waits_not t v (gone_on f (write None f.registers to x))
      (moves v moved (write None f.registers to x) more (length_write None f.registers to x (low to e) ∙ (r t).counted)
      (subst (λ ks. RegistersFit d (standing w.objects) ks (write None f.registers to x)) (sym kinds_are) (fit_written d (standing w.objects) (r t).ks f.registers to k x (r t).fit h))
      (λ r among. read_apart None f.registers to x r (not_among (opened (code_left d f)) to r (kept to e) among))))

  -- ** a line is perhaps said, and nothing else

  pub said_moved : (lines : List (List ℕ)) → Moved (record w { transcript = lines })
  said_moved lines = record {
    whole = record {
      objects = objects_stay d w (record w { transcript = lines }) g.objects;
      handlers = g.handlers;
      bindings = g.bindings;
      sources = g.sources;
      held = g.held;
      floating = g.floating;
      objects_first = g.objects_first;
    };
    stands = refl;
    served = serves_itself d rest (view w);
    pool = g.peers;
    queues = λ id x is. (x, is, refl, refl, refl);
    few = omega arith;
    queued = omega arith;
  }

  pub written_fine : (lines : List (List ℕ)) (to : ℕ) (k : RegisterKind) (x : Option Value) → ends i ≡ false → written i ≡ Some to →
      after d (r t).p (r t).ks i ≡ write kinds.unset (r t).ks to k → holds d (standing w.objects) k x ≡ true →
      instruction_step d w rest (past f) i ≡ in_front rest (written_to (record w { transcript = lines }) to x (past f)) → StepIsFine t
  written_fine lines to k x more e kinds_are h does = moved_written (record w { transcript = lines }) (said_moved lines) to k x more e kinds_are h does
