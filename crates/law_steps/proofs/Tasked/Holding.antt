-- The lowest program that holds an object frozen has frames for each notification of the object's paired properties: its thaw, which is still
-- to come, may start them.
use Rattle.std.proofs.Common.{◌≡◌, refl, sym, ap, subst, ◌∙◌, ℕ, zero, suc, ◌+◌, ◌<◌, ◌≤◌, Bool, true, false, cond, List, [], ◌∷◌, length, drop, Option, None, Some, Ok, slice_get, arith}
use Rattle.std.specs.Prelude.{⊤, nat_eq, ◌||◌}
use Rattle.std.proofs.lemmas.Bool.{eqb-true, eqb-false, eq-eqb, or_left, or_right}
use Rattle.ui_machine.specs.Seq.{read, total}
use Rattle.ui_machine.specs.Definition.{Definition}
use Rattle.ui_machine.specs.Definition.Kinds.{Kind, RegisterKind}
use Rattle.ui_machine.specs.Definition.Kinds as kinds
use Rattle.ui_machine.specs.Definition.Values.{Value}
use Rattle.ui_machine.specs.Definition.Values as values
use Rattle.ui_machine.specs.Definition.Programs.{Instruction, Program, Block}
use Rattle.ui_machine.specs.Definition.Programs as words
use Rattle.ui_machine.specs.State.Tasks.{Frame, Task, Setting, Notifying, Beginning, Emitting, Transferring, Unsetting, Thawing, Running, Answering, Calling, Constructing, Building, Handling, Due}
use Rattle.law_typing.specs.Rules.RegisterKinds.{Kinds, kind_in, class_at, covers}
use Rattle.law_typing.specs.Rules.Brackets.{written, opened, is_among, less_one, keeps, keeps_brackets, is_bracketed, has_pair}
use Rattle.law_typing.specs.Rules.Typing as typing
use Rattle.law_typing.specs.Rules.Typing.{after}
use Rattle.law_typing.specs.Graph.{paired_at, start_of, stretch_of, stretches_of}
use Rattle.law_typing.specs.Graph.Channels.{Channel}
use Rattle.law_typing.specs.Graph.Tables.{Tables, entry}
use Rattle.law_typing.specs.Verdict.Accepted.{Accepted}
use Rattle.law_typing.specs.Laws.{IsIn}
use Rattle.law_typing.specs.Laws.WellRead.{WellRead, Ends, ends}
use Rattle.law_typing.specs.Good.Standing.{Standing, View, holds, covers_if}
use Rattle.law_typing.specs.Good.ComingDown.{Down, none, given, results, answers, down, awaited}
use Rattle.law_typing.specs.Good.Programs.{RunningGood, kinds_before, code_of, code_of_block, code_left}
use Rattle.law_typing.specs.Good.Builds.{is_for_builder}
use Rattle.law_typing.specs.Good.Agenda.{TaskGood, AgendaGood, frames}
use Rattle.law_typing.specs.Good.Freezes.{to_thaw, frozen_by, below_lowest}
use Rattle.law_typing.proofs.Lists.{both_parts, map_in}
use Rattle.law_typing.proofs.CostProofs.{depths_cover}
use Rattle.law_static.specs.Sites.{BlockIs, kinds_at}
use Rattle.law_static.proofs.SiteProofs.{sites_keep}
use Rattle.law_static.proofs.StartProofs.{thaws_reach}
use Rattle.law_static.proofs.SubclassProofs.{get_in}
use Rattle.law_steps.proofs.Kept.WriteProofs.{read_apart}
use Rattle.law_steps.proofs.Instructed.Counts.{names_it, frozen_is}
use Rattle.law_steps.proofs.Instructed.Frozen.{opened_past}
use Rattle.law_steps.proofs.Instructed.Landing.{ends_plain}
use Rattle.law_steps.proofs.Instructed.Typed.{changing_none_is}
use Rattle.law_steps.proofs.Instructed.Written.{not_among}
use Rattle.law_steps.proofs.Tasked.Registers.{Allowed, kind_apart}

-- ** the thaw that is still to come

-- an instruction that thaws the register, in front of which its kind is what it was
record Ahead (d : Definition) (p : Program) (r : ℕ) (ks : Kinds) (code : List Instruction) : Type 0 where
  pub n : ℕ
  pub is : slice_get code n ≡ Some (words.thaw r)
  pub kind : kind_in (kinds_before d p ks n code) r ≡ kind_in ks r

less_among : (x r : ℕ) (xs : List ℕ) → is_among (less_one x xs) r ≡ true → is_among xs r ≡ true
less_among x r [] e = e
less_among x r (y ∷ ys) e = go (nat_eq y x) e (less_among x r ys)
  where
    go : (b : Bool) → is_among (cond b ys (y ∷ less_one x ys)) r ≡ true → (is_among (less_one x ys) r ≡ true → is_among ys r ≡ true) → (nat_eq r y || is_among ys r) ≡ true
    go true e later = or_right (nat_eq r y) (is_among ys r) e
    go false e later = of (nat_eq r y) e later
      where
        of : (b : Bool) → (b || is_among (less_one x ys) r) ≡ true → (is_among (less_one x ys) r ≡ true → is_among ys r ≡ true) → (b || is_among ys r) ≡ true
        of true e later = refl
        of false e later = later e

allowed_apart : (xs : List ℕ) (o : Option ℕ) (r : ℕ) → keeps xs o ≡ true → is_among xs r ≡ true → Allowed (λ to. to ≡ r → ⊥) o
allowed_apart xs None r kept among = tt
allowed_apart xs (Some to) r kept among = not_among xs to r kept among

module _ (d : Definition) (p : Program) (r : ℕ) where
  later : (ks : Kinds) (i : Instruction) (rest : List Instruction) → ends i ≡ false → Allowed (λ to. to ≡ r → ⊥) (written i) → Ahead d p r (after d p ks i) rest → Ahead d p r ks (i ∷ rest)
  later ks i rest more apart h = record { n = suc h.n; is = h.is; kind = h.kind ∙ kind_apart d p ks i r more apart }

  step : (ks : Kinds) (i : Instruction) (rest : List Instruction) → ends i ≡ false → is_bracketed (i ∷ rest) ≡ true → is_among (opened (i ∷ rest)) r ≡ true →
      (is_among (opened rest) r ≡ true → Ahead d p r (after d p ks i) rest) → Ahead d p r ks (i ∷ rest)
  step ks (words.thaw x) rest more kept among ih = go (nat_eq r x) refl among
    where
      go : (b : Bool) → nat_eq r x ≡ b → (b || is_among (opened rest) r) ≡ true → Ahead d p r ks (words.thaw x ∷ rest)
      go true e among = record { n = 0; is = ap (λ r. Some (words.thaw r)) (sym (eqb-true r x e)); kind = refl }
      go false e among = later ks (words.thaw x) rest refl tt (ih among)
  step ks (words.freeze x) rest more kept among ih = later ks (words.freeze x) rest refl tt (ih (less_among x r (opened rest) among))
  step ks i rest more kept among ih =
      later ks i rest more (allowed_apart (opened rest) (written i) r (both_parts (keeps (opened rest) (written i)) (is_bracketed rest) kept).0 among) (ih among)

  thaw_ahead : (ks : Kinds) (code : List Instruction) → Ends code → is_bracketed code ≡ true → is_among (opened code) r ≡ true → Ahead d p r ks code
  thaw_ahead ks [] block kept among = absurd block
  thaw_ahead ks (i ∷ []) block kept among = absurd (let empty = ap (λ xs. is_among xs r) (opened_past i [] (ends_plain i block)) in cc)
  thaw_ahead ks (i ∷ j ∷ rest) block kept among =
      step ks i (j ∷ rest) block.0 kept among
      (λ among. thaw_ahead (after d p ks i) (j ∷ rest) block.1 (both_parts (keeps_brackets (opened (j ∷ rest)) i) (is_bracketed (j ∷ rest)) kept).1 among)

ends_drop : (code : List Instruction) (at : ℕ) → Ends code → at < length code → Ends (drop at code)
ends_drop [] at block low = absurd block
ends_drop (i ∷ code) zero block low = block
ends_drop (i ∷ []) (suc at) block low = absurd (omega (arith, low))
ends_drop (i ∷ j ∷ code) (suc at) block low = ends_drop (j ∷ code) at block.1 (omega (arith, low))

get_drop : {A : Type 0} (xs : List A) (at n : ℕ) (x : A) → slice_get (drop at xs) n ≡ Some x → slice_get xs (at + n) ≡ Some x
get_drop [] zero n x e = absurd (cc)
get_drop [] (suc at) n x e = absurd (cc)
get_drop {A} (y ∷ ys) zero n x e = let same : 0 + n ≡ n = omega arith in ap (slice_get (y ∷ ys)) same ∙ e
get_drop {A} (y ∷ ys) (suc at) n x e = let same : suc at + n ≡ suc (at + n) = omega arith in ap (slice_get (y ∷ ys)) same ∙ get_drop ys at n x e

kinds_split : (d : Definition) (p : Program) (ks : Kinds) (at n : ℕ) (code : List Instruction) → kinds_before d p ks (at + n) code ≡ kinds_before d p (kinds_before d p ks at code) n (drop at code)
kinds_split d p ks zero n code = let same : 0 + n ≡ n = omega arith in ap (λ m. kinds_before d p ks m code) same
kinds_split d p ks (suc at) n [] = let same : suc at + n ≡ suc (at + n) = omega arith in ap (λ m. kinds_before d p ks m []) same ∙ sym (none_left n)
  where
    none_left : (n : ℕ) → kinds_before d p ks n [] ≡ ks
    none_left zero = refl
    none_left (suc n) = refl
kinds_split d p ks (suc at) n (i ∷ code) = let same : suc at + n ≡ suc (at + n) = omega arith in ap (λ m. kinds_before d p ks m (i ∷ code)) same ∙ kinds_split d p (after d p ks i) at n code

-- ** what a register names

names_true : (id : ℕ) (o : Option Value) → 0 < names_it id o → o ≡ Some (values.object (Some id))
names_true id (Some (values.object (Some i))) some = go (nat_eq i id) refl some
  where
    go : (b : Bool) → nat_eq i id ≡ b → 0 < cond b 1 0 → Some (values.object (Some i)) ≡ Some (values.object (Some id))
    go true e some = ap (λ i. Some (values.object (Some i))) (eqb-true i id e)
    go false e some = absurd (omega (arith, some))
names_true id _ some = absurd (omega (arith, some))

record Names (id : ℕ) (at : ℕ → Option Value) (xs : List ℕ) : Type 0 where
  pub r : ℕ
  pub among : is_among xs r ≡ true
  pub holds : at r ≡ Some (values.object (Some id))

one_names : (id : ℕ) (at : ℕ → Option Value) (xs : List ℕ) → 0 < total (λ r. names_it id (at r)) xs → Names id at xs
one_names id at [] some = absurd (omega (arith, some))
one_names id at (x ∷ xs) some = go (names_it id (at x)) refl (one_names id at xs)
  where
    go : (n : ℕ) → names_it id (at x) ≡ n → (0 < total (λ r. names_it id (at r)) xs → Names id at xs) → Names id at (x ∷ xs)
    go zero e later = let h = later (omega (arith, some, e)) in record { r = h.r; among = or_right (nat_eq h.r x) (is_among xs h.r) h.among; holds = h.holds }
    go (suc n) e later = record { r = x; among = or_left (nat_eq x x) (is_among xs x) (eq-eqb x x refl); holds = names_true id (at x) (omega (arith, e)) }

-- an object operand covers the place of what it holds
operand_covers : (d : Definition) (s : Standing) (k : RegisterKind) (class id place : ℕ) → typing.class_of_operand d k ≡ Ok class → s id ≡ Some place →
    holds d s k (Some (values.object (Some id))) ≡ true → covers d k place ≡ true
operand_covers d s kinds.unset class id place e is h = absurd (cc)
operand_covers d s (kinds.plain (kinds.object type)) class id place e is h = absurd (cc)
operand_covers d s (kinds.plain kinds.bool) class id place e is h = absurd (cc)
operand_covers d s (kinds.plain (kinds.whole k)) class id place e is h = absurd (cc)
operand_covers d s (kinds.plain kinds.text) class id place e is h = absurd (cc)
operand_covers d s (kinds.plain (kinds.enum t)) class id place e is h = absurd (cc)
operand_covers d s (kinds.plain (kinds.flags t)) class id place e is h = absurd (cc)
operand_covers d s (kinds.some type) class id place e is h = sym (ap (covers_if d (kinds.some type)) is) ∙ h
operand_covers d s (kinds.at at) class id place e is h = sym (ap (covers_if d (kinds.at at)) is) ∙ h
operand_covers d s (kinds.at_or_null at) class id place e is h = absurd (cc)

-- what comes down changes the kind of no open register
awaited_apart : (ks : Kinds) (into : Option ℕ) (up : Down) (xs : List ℕ) (r : ℕ) → is_among xs r ≡ true → keeps xs into ≡ true →
    ((to : ℕ) (kind : Kind) → up ≡ answers to kind → keeps xs (Some to) ≡ true) → kind_in (awaited ks into up) r ≡ kind_in ks r
awaited_apart ks None none xs r among kept apart = refl
awaited_apart ks (Some to) none xs r among kept apart = refl
awaited_apart ks None (given k) xs r among kept apart = refl
awaited_apart ks (Some to) (given k) xs r among kept apart = refl
awaited_apart ks None (results k) xs r among kept apart = refl
awaited_apart ks (Some to) (results None) xs r among kept apart = refl
awaited_apart ks (Some to) (results (Some kind)) xs r among kept apart = read_apart kinds.unset ks to (kinds.plain kind) r (not_among xs to r kept among)
awaited_apart ks None (answers to kind) xs r among kept apart = read_apart kinds.unset ks to (kinds.plain kind) r (not_among xs to r (apart to kind refl) among)
awaited_apart ks (Some into) (answers to kind) xs r among kept apart = read_apart kinds.unset ks to (kinds.plain kind) r (not_among xs to r (apart to kind refl) among)

-- ** the lowest that holds an object

-- the register that an answer goes to is no open one of the program that waits
abbrev ApartTo : Definition → ℕ → List Task → Type 0
ApartTo d to (Running f ∷ tasks) = keeps (opened (code_left d f)) (Some to) ≡ true
ApartTo d to _ = ⊤

abbrev ApartIf : Definition → Down → List Task → Type 0
ApartIf d (answers to kind) tasks = ApartTo d to tasks
ApartIf d _ tasks = ⊤

module _ (d : Definition) (well : WellRead d) (a : Accepted d) (w : View) (most id place : ℕ) (c : Channel) (class : ℕ) (stands : w.stands id ≡ Some place) (of_class : class_at d place ≡ Some class)
    (paired : IsIn c (paired_at d place)) (has : has_pair d place ≡ true) where
  abbrev costs : Tables
  costs = a.weighed.costs

  abbrev depths : Tables
  depths = a.weighed.depths

  -- a program that holds it has frames for what its thaw may start
  program_deep : (up : Down) (tasks : List Task) (f : Frame) (steps deep : ℕ) → RunningGood d costs depths w.stands up f steps deep → ApartIf d up (Running f ∷ tasks) →
      0 < frozen_by d id (Running f) → suc (entry depths.channels c) ≤ deep
  program_deep up tasks f steps deep g apart some =
      let open_is : opened (code_left d f) ≡ opened (drop f.at g.b.code) = ap (λ code. opened (drop f.at code)) (ap (code_of f.block) g.is ∙ ap code_of_block g.in_block) in
      let names = one_names id (read None f.registers) (opened (code_left d f)) (let count = frozen_is d id f in omega (arith, count, some)) in
      let r = names.r in
      let among : is_among (opened (drop f.at g.b.code)) r ≡ true = ap (λ xs. is_among xs r) (sym open_is) ∙ names.among in
      let block = (well.programs f.program g.p g.is).blocks f.block g.b g.in_block in
      let ahead = thaw_ahead d g.p r (awaited g.ks f.into up) (drop f.at g.b.code) (ends_drop g.b.code f.at block.ends g.inside) g.bracketed among in
      let site = f.at + ahead.n in
      let here = get_drop g.b.code f.at ahead.n (words.thaw r) ahead.is in
      let at_block : BlockIs d f.program f.block g.p g.b = record { is = g.is; has = g.in_block } in
      let kept = sites_keep d a f.program f.block site g.p g.b (words.thaw r) at_block here in
      let ks = kinds_at d g.p g.b site in
      let same : kind_in ks r ≡ kind_in g.ks r =
      ap (λ ks. kind_in ks r) (kinds_split d g.p g.b.entry f.at ahead.n g.b.code)
      ∙ (ap (λ ks. kind_in (kinds_before d g.p ks ahead.n (drop f.at g.b.code)) r) (sym g.at_site)
      ∙ (ahead.kind ∙ awaited_apart g.ks f.into up (opened (drop f.at g.b.code)) r among g.kept (λ to kind e. ap (λ xs. keeps xs (Some to)) (sym open_is) ∙ to_apart up e apart))) in
      let operand = changing_none_is ks (typing.operand d ks r) _ kept.typed in
      let held : holds d w.stands (kind_in ks r) (Some (values.object (Some id))) ≡ true =
      ap (λ k. holds d w.stands k (Some (values.object (Some id)))) same ∙ (ap (holds d w.stands (kind_in g.ks r)) (sym names.holds) ∙ g.fit r) in
      let covered = operand_covers d w.stands (kind_in ks r) operand.0 id place operand.1 stands held in
      let reach = (thaws_reach d depths ks r place class covered of_class).1 c paired in
      let whole = depths_cover.0 depths (stretches_of d g.p) (stretch_of d g.p g.b) (start_of d ks (words.thaw r)) (map_in (stretch_of d g.p) g.p.blocks g.b (get_in g.p.blocks f.block g.b g.in_block)) kept.starts in
      let shallow = g.shallow in
      omega (arith, reach, whole, shallow)
    where
      to_apart : (up : Down) {to : ℕ} {kind : Kind} → up ≡ answers to kind → ApartIf d up (Running f ∷ tasks) → keeps (opened (code_left d f)) (Some to) ≡ true
      to_apart none e apart = absurd (cc)
      to_apart (given k) e apart = absurd (cc)
      to_apart (results k) e apart = absurd (cc)
      to_apart (answers own k) {to} e apart = let s : own ≡ to = cc in subst (λ to. keeps (opened (code_left d f)) (Some to) ≡ true) s apart

  -- so has each task that holds it, where the builder makes no object: what a program makes has no paired property
  holder_deep : (up : Down) (below : List Task) (task : Task) (steps deep : ℕ) → TaskGood d costs depths w up below task steps deep → ApartIf d up (task ∷ below) → is_for_builder task ≡ 0 →
      0 < frozen_by d id task → suc (entry depths.channels c) ≤ deep
  holder_deep up below (Running f) steps deep g apart made some = program_deep up below f steps deep g.1 apart some
  holder_deep up below (Constructing object todo held) steps deep g apart made some = go (nat_eq object id) held refl refl
    where
      go : (same b : Bool) → nat_eq object id ≡ same → held ≡ b → suc (entry depths.channels c) ≤ deep
      go false b e f = absurd (let none = ap (λ x. cond x (to_thaw todo) 0) e in omega (arith, some, none))
      go true true e f = absurd (let one = ap {B = ℕ} (λ b. cond b 1 0) f in omega (arith, made, one))
      go true false e f =
          let at = ap w.stands (sym (eqb-true object id e)) ∙ g.1.is in
          let same : place ≡ g.1.place = (let s = sym stands ∙ at in cc) in
          let none = ap (has_pair d) same ∙ g.1.for_program f in
          absurd (cc)
  holder_deep up below (Setting object slot v) steps deep g apart made some = absurd (omega (arith, some))
  holder_deep up below (Notifying object slot) steps deep g apart made some = absurd (omega (arith, some))
  holder_deep up below (Beginning e) steps deep g apart made some = absurd (omega (arith, some))
  holder_deep up below (Emitting e turns) steps deep g apart made some = absurd (omega (arith, some))
  holder_deep up below (Transferring number back) steps deep g apart made some = absurd (omega (arith, some))
  holder_deep up below (Unsetting number) steps deep g apart made some = absurd (omega (arith, some))
  holder_deep up below (Thawing object slots) steps deep g apart made some = absurd (omega (arith, some))
  holder_deep up below (Answering source) steps deep g apart made some = absurd (omega (arith, some))
  holder_deep up below (Calling call) steps deep g apart made some = absurd (omega (arith, some))
  holder_deep up below (Building items) steps deep g apart made some = absurd (omega (arith, some))
  holder_deep up below (Handling request) steps deep g apart made some = absurd (omega (arith, some))
  holder_deep up below (Due source) steps deep g apart made some = absurd (omega (arith, some))

  -- an answer goes to no open register
  apart_next : (up : Down) (below : List Task) (task : Task) (steps deep : ℕ) → TaskGood d costs depths w up below task steps deep → ApartIf d (down d w task) below
  apart_next up below (Calling call) steps deep g =
      let waits = g.1.waits in
      let is : down d w (Calling call) ≡ answers call.to g.1.m.result = rw (g.1.is, g.1.has) refl in
      subst (λ up. ApartIf d up below) (sym is) (subst (ApartTo d call.to) (sym waits.2) waits.4)
  apart_next up below (Running f) steps deep g = tt
  apart_next up below (Constructing object todo held) steps deep g = tt
  apart_next up below (Setting object slot v) steps deep g = tt
  apart_next up below (Notifying object slot) steps deep g = tt
  apart_next up below (Beginning e) steps deep g = tt
  apart_next up below (Emitting e turns) steps deep g = tt
  apart_next up below (Transferring number back) steps deep g = tt
  apart_next up below (Unsetting number) steps deep g = tt
  apart_next up below (Thawing object slots) steps deep g = tt
  apart_next up below (Answering source) steps deep g = tt
  apart_next up below (Building items) steps deep g = tt
  apart_next up below (Handling request) steps deep g = tt
  apart_next up below (Due source) steps deep g = tt

  pub lowest_holds : (up : Down) (tasks : List Task) (budget : ℕ) → ApartIf d up tasks → total is_for_builder tasks ≡ 0 → 0 < total (frozen_by d id) tasks →
      AgendaGood d costs depths w most up tasks budget → suc (below_lowest d id tasks) + entry depths.channels c ≤ most
  lowest_holds up [] budget apart made some g = absurd (omega (arith, some))
  lowest_holds up (task ∷ below) budget apart made some g =
      go (nat_eq (total (frozen_by d id) below) 0) refl
      (λ some. lowest_holds (down d w task) below g.2 (apart_next up below task g.0 g.1 g.3) (omega (arith, made)) some g.6)
    where
      go : (b : Bool) → nat_eq (total (frozen_by d id) below) 0 ≡ b → (0 < total (frozen_by d id) below → suc (below_lowest d id below) + entry depths.channels c ≤ most) →
          suc (cond b (frames below) (below_lowest d id below)) + entry depths.channels c ≤ most
      go true e later =
          let alone = eqb-true (total (frozen_by d id) below) 0 e in
          let deep = holder_deep up below task g.0 g.1 g.3 apart (omega (arith, made)) (omega (arith, some, alone)) in
          let fits = g.4 in
          omega (arith, deep, fits)
      go false e later = later (let apart = eqb-false (total (frozen_by d id) below) 0 e in omega (arith, apart))
