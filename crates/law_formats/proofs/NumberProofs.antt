-- What was accepted in the first format is accepted now, with the same numbers.
use Rattle.std.proofs.Common.{◌≡◌, refl, sym, ap, ◌∙◌, ℕ, zero, suc, ◌+◌, ◌*◌, ◌-◌, Bool, true, false, cond, List, [], ◌∷◌, ◌++◌, map, Option, None, Some, Ok, Err, arith}
use Rattle.std.specs.Prelude.{option_map}
use Rattle.std.specs.List.{filter, flat_map}
use Rattle.ui_machine.specs.Seq.{read}
use Rattle.ui_machine.specs.Definition.{Definition}
use Rattle.ui_machine.specs.Definition.Programs.{Instruction, Program, Block, said_or_once}
use Rattle.law_typing.specs.Rules.RegisterKinds.{Kinds}
use Rattle.law_typing.specs.Rules.Answers.{Typing}
use Rattle.law_typing.specs.Rules.Typing.{typed, after, unless_broken}
use Rattle.law_typing.specs.Rules.Typing as typing
use Rattle.law_typing.specs.Rules.Sites.{Site, sites, program_sites, block_sites, code_sites, broken_at}
use Rattle.law_typing.specs.Rules.Sites as faults
use Rattle.law_typing.specs.Rules.Faults.{unbalanced}
use Rattle.law_typing.specs.Rules.Brackets.{is_balanced, balance_faults, unbalanced_from, bracket_faults}
use Rattle.law_typing.specs.Graph.Channels.{Channel}
use Rattle.law_typing.specs.Graph.Channels as causes
use Rattle.law_typing.specs.Graph.{Graph, Raised, Start, Stretch, next_of}
use Rattle.law_typing.specs.Graph as now
use Rattle.law_typing.specs.Graph.Tables.{Table, Tables, greatest}
use Rattle.law_typing.specs.Graph.Ranks.{arrow, arrows, arrows_by, arrows_from, started, running_at, is_raised, is_cycle_of, nodes, ranked, IsRanking, IsAcyclic}
use Rattle.law_typing.specs.Graph.Costs.{starts_cost, before_last, only_last, stretch_cost, SolvesCosts}
use Rattle.law_typing.specs.Graph.Costs as today_costs
use Rattle.law_typing.specs.Graph.Depths.{start_depth, program_depth}
use Rattle.law_typing.specs.Verdict.Accepted.{Each, Accepted, Weighed}
use Rattle.law_typing.proofs.Lists.{both_empty}
use Rattle.law_typing.proofs.ExactProofs.{accepted_is_judged}
use Rattle.law_formats.specs.FirstRules.{NoRepeats, freezes_pair, freezes_over_pairs}
use Rattle.law_formats.specs.FirstRules as rules
use Rattle.law_formats.specs.FirstGraph as graphs
use Rattle.law_formats.specs.FirstCosts as sums
use Rattle.law_formats.specs.FirstFormat as first
use Rattle.law_formats.specs.SameNumbers.{HasSameNumbers, NumbersStay, AcceptedBefore, NothingElseChanged}
use Rattle.law_formats.proofs.BlockProofs.{Alike, NoneFreezes, block_alike}

-- ** lists

each_split : {A : Type 0} (P : A → Type 0) (xs ys : List A) → Each P (xs ++ ys) → Each P xs × Each P ys
each_split P [] ys all = (tt, all)
each_split P (x ∷ xs) ys all = let both = each_split P xs ys all.1 in ((all.0, both.0), both.1)

none_pass : {A : Type 0} (test : A → Bool) (xs : List A) → filter test xs ≡ [] → Each (λ x. test x ≡ false) xs
none_pass test [] none = tt
none_pass test (x ∷ xs) none = go (test x) refl none (none_pass test xs)
  where
    go : (b : Bool) → test x ≡ b → cond b (x ∷ filter test xs) (filter test xs) ≡ [] → (filter test xs ≡ [] → Each (λ x. test x ≡ false) xs) →
        Each (λ x. test x ≡ false) (x ∷ xs)
    go true e none later = absurd (cc)
    go false e none later = (e, later none)

flat_map_same : {A B : Type 0} (f g : A → List B) (xs : List A) → ((x : A) → f x ≡ g x) → flat_map f xs ≡ flat_map g xs
flat_map_same f g [] same = refl
flat_map_same f g (x ∷ xs) same = ap (λ ys. ys ++ flat_map f xs) (same x) ∙ ap (λ ys. g x ++ ys) (flat_map_same f g xs same)

-- ** typing

first_broken_same : (d : Definition) (p : Program) (at : ℕ) (ks : Kinds) (code : List Instruction) → typing.first_broken d p None at ks code ≡ rules.first_broken d p at ks code
first_broken_same d p at ks [] = refl
first_broken_same d p at ks (i ∷ rest) = go (typed d p ks i) (λ next. first_broken_same d p (suc at) next rest)
  where
    go : (m : Typing Kinds) → ((next : Kinds) → typing.first_broken d p None (suc at) next rest ≡ rules.first_broken d p (suc at) next rest) →
        unless_broken (λ rule. Some (at, rule)) (λ after. typing.first_broken d p None (suc at) after rest) m
        ≡ unless_broken (λ rule. Some (at, rule)) (λ after. rules.first_broken d p (suc at) after rest) m
    go (Ok next) later = later next
    go (Err rule) later = refl

broken_same : (d : Definition) (p : Program) (b : Block) → b.repeat ≡ None → typing.block_broken d p b ≡ rules.first_broken d p 0 b.entry b.code
broken_same d p b once =
    ap (λ (repeat : Option ℕ). typing.first_broken d p (option_map (λ (n : ℕ). b.entry) repeat) 0 b.entry b.code) once ∙ first_broken_same d p 0 b.entry b.code

block_faults_same : (d : Definition) (p : Program) (program block : ℕ) (bs : List Block) → Each (λ (b : Block). b.repeat ≡ None) bs →
    faults.block_faults d p program block bs ≡ rules.block_faults d p program block bs
block_faults_same d p program block [] once = refl
block_faults_same d p program block (b ∷ bs) once =
    ap (λ broken. broken_at program block broken ++ faults.block_faults d p program (suc block) bs) (broken_same d p b once.0)
    ∙ ap (λ more. broken_at program block (rules.first_broken d p 0 b.entry b.code) ++ more) (block_faults_same d p program (suc block) bs once.1)

program_faults_same : (d : Definition) (program : ℕ) (ps : List Program) → Each (λ (p : Program). Each (λ (b : Block). b.repeat ≡ None) p.blocks) ps →
    faults.program_faults d program ps ≡ rules.program_faults d program ps
program_faults_same d program [] once = refl
program_faults_same d program (p ∷ ps) once =
    ap (λ own. own ++ faults.program_faults d (suc program) ps) (block_faults_same d p program 0 p.blocks once.0)
    ∙ ap (λ more. rules.block_faults d p program 0 p.blocks ++ more) (program_faults_same d (suc program) ps once.1)

-- ** blocks

-- what is known of a block
record BlockFine (d : Definition) (p : Program) (b : Block) : Type 0 where
  pub once : b.repeat ≡ None
  pub alike : Alike (graphs.starts_of d p b.entry b.code) (now.starts_of d p b.entry b.code)

abbrev AllFine : Definition → Program → List Block → Type 0
AllFine d p bs = Each (BlockFine d p) bs

abbrev NoFreeze : Definition → List Site → Type 0
NoFreeze d ss = Each (λ (s : Site). freezes_pair d s.kinds s.instruction ≡ false) ss

code_freezes : (d : Definition) (p : Program) (program block at : ℕ) (ks : Kinds) (code : List Instruction) → NoFreeze d (code_sites d p program block at ks code) → NoneFreezes d p ks code
code_freezes d p program block at ks [] none = tt
code_freezes d p program block at ks (i ∷ rest) none = (none.0, code_freezes d p program block (suc at) (after d p ks i) rest none.1)

balanced_is : (b : Bool) (program block : ℕ) → cond b [] (unbalanced program block ∷ []) ≡ [] → b ≡ true
balanced_is true program block e = refl
balanced_is false program block e = absurd (cc)

blocks_fine : (d : Definition) (p : Program) (program block : ℕ) (bs : List Block) → Each (λ (b : Block). b.repeat ≡ None) bs → balance_faults program block bs ≡ [] →
    NoFreeze d (block_sites d p program block bs) → AllFine d p bs
blocks_fine d p program block [] once balanced none = tt
blocks_fine d p program block (b ∷ bs) once balanced none =
    let own = both_empty (cond (is_balanced b.code) [] (unbalanced program block ∷ [])) (balance_faults program (suc block) bs) balanced in
    let apart = each_split _ (code_sites d p program block 0 b.entry b.code) (block_sites d p program (suc block) bs) none in (
      record {
        once = once.0;
        alike = block_alike d p b (balanced_is (is_balanced b.code) program block own.0) (code_freezes d p program block 0 b.entry b.code apart.0);
      },
      blocks_fine d p program (suc block) bs once.1 own.1 apart.1,
    )

programs_fine : (d : Definition) (program : ℕ) (ps : List Program) → Each (λ (p : Program). Each (λ (b : Block). b.repeat ≡ None) p.blocks) ps → unbalanced_from program ps ≡ [] →
    NoFreeze d (program_sites d program ps) → Each (λ (p : Program). AllFine d p p.blocks) ps
programs_fine d program [] once balanced none = tt
programs_fine d program (p ∷ ps) once balanced none =
    let own = both_empty (balance_faults program 0 p.blocks) (unbalanced_from (suc program) ps) balanced in
    let apart = each_split _ (block_sites d p program 0 p.blocks) (program_sites d (suc program) ps) none in
    (blocks_fine d p program 0 p.blocks once.0 own.0 apart.0, programs_fine d (suc program) ps once.1 own.1 apart.1)

-- ** ranks

abbrev starts_by : List Stretch → List Channel
starts_by ss = flat_map (λ (s : Stretch). flat_map started s.starts) ss

starts_same : (d : Definition) (p : Program) (bs : List Block) → AllFine d p bs → starts_by (map (graphs.stretch_of d p) bs) ≡ starts_by (map (now.stretch_of d p) bs)
starts_same d p [] fine = refl
starts_same d p (b ∷ bs) fine =
    ap (λ cs. cs ++ starts_by (map (graphs.stretch_of d p) bs)) fine.0.alike.starts
    ∙ ap (λ more. flat_map started (now.starts_of d p b.entry b.code) ++ more) (starts_same d p bs fine.1)

started_same : (d : Definition) (ps : List Program) → Each (λ (p : Program). AllFine d p p.blocks) ps → (program : ℕ) →
    starts_by (read [] (map (graphs.stretches_of d) ps) program) ≡ starts_by (read [] (map (now.stretches_of d) ps) program)
started_same d [] fine program = refl
started_same d (p ∷ ps) fine zero = starts_same d p p.blocks fine.0
started_same d (p ∷ ps) fine (suc program) = started_same d ps fine.1 program

module _ (d : Definition) (fine : Each (λ (p : Program). AllFine d p p.blocks) d.programs) where
  abbrev before : Graph
  before = graphs.graph d

  abbrev today_graph : Graph
  today_graph = now.graph d

  arrows_same : arrows before ≡ arrows today_graph
  arrows_same =
      flat_map_same (arrows_from before) (arrows_from today_graph) today_graph.raised
      (λ (r : Raised). ap (λ own. own ++ map (arrow today_graph r.channel causes.binding) (filter (is_raised today_graph) r.targets))
      (flat_map_same (arrows_by before r.channel) (arrows_by today_graph r.channel) (running_at r)
      (λ program. ap (map (arrow today_graph r.channel (causes.program program))) (started_same d d.programs fine program))))

  acyclic_same : IsAcyclic before → IsAcyclic today_graph
  acyclic_same h links = ap (λ edges. is_cycle_of edges links) (sym arrows_same) ∙ h links

  ranking_same : (ranks : Table) → IsRanking before ranks → IsRanking today_graph ranks
  ranking_same ranks h = h ∙ ap (λ edges. ranked edges (nodes today_graph) ranks) arrows_same

-- ** costs

-- what a block costs that is passed once
both_totals : (g : Graph) (t : Tables) (starts : List Start) → starts_cost g t starts ≡ starts_cost g t (before_last starts) + starts_cost g t (only_last starts)
both_totals g t [] = refl
both_totals g t (s ∷ []) = omega arith
both_totals g t (s ∷ r ∷ more) = let ih = both_totals g t (r ∷ more) in omega (arith, ih)

pub passed_once : (g : Graph) (t : Tables) (s : Stretch) → s.passes ≡ 1 → stretch_cost g t s ≡ starts_cost g t s.starts
passed_once g t s once =
    ap (λ n. n * starts_cost g t (before_last s.starts) + starts_cost g t (only_last s.starts)) once
    ∙ (let e = both_totals g t s.starts in omega (arith, e))

module _ (d : Definition) (g : Graph) (t : Tables) where
  block_cost_same : (p : Program) (b : Block) → BlockFine d p b → starts_cost g t (graphs.starts_of d p b.entry b.code) ≡ stretch_cost g t (now.stretch_of d p b)
  block_cost_same p b fine = fine.alike.costs g t ∙ sym (passed_once g t (now.stretch_of d p b) (ap said_or_once fine.once))

  paths_same : (p : Program) (n : ℕ) (bs : List Block) → AllFine d p bs → sums.path_costs g t n (map (graphs.stretch_of d p) bs) ≡ today_costs.path_costs g t n (map (now.stretch_of d p) bs)
  paths_same p n [] fine = refl
  paths_same p n (b ∷ bs) fine =
      ap (sums.with_next g t n (graphs.stretch_of d p b)) (paths_same p (suc n) bs fine.1)
      ∙ ap (λ own. (own + greatest (λ to. read 0 (today_costs.path_costs g t (suc n) (map (now.stretch_of d p) bs)) (to - suc n)) (flat_map next_of b.code)) ∷ today_costs.path_costs g t (suc n) (map (now.stretch_of d p) bs))
      (block_cost_same p b fine.0)

  costs_same : (ps : List Program) → Each (λ (p : Program). AllFine d p p.blocks) ps →
      map (sums.program_cost g t) (map (graphs.stretches_of d) ps) ≡ map (today_costs.program_cost g t) (map (now.stretches_of d) ps)
  costs_same [] fine = refl
  costs_same (p ∷ ps) fine =
      let own = ap (λ ns. read 0 ns 0) (paths_same p 0 p.blocks fine.0) in
      let more = costs_same ps fine.1 in
      ap (λ n. n ∷ map (sums.program_cost g t) (map (graphs.stretches_of d) ps)) own ∙ ap (λ ns. today_costs.program_cost g t (now.stretches_of d p) ∷ ns) more

-- ** depths

module _ (d : Definition) (t : Tables) where
  frames_same : (p : Program) (bs : List Block) → AllFine d p bs →
      greatest (λ (s : Stretch). greatest (start_depth t) s.starts) (map (graphs.stretch_of d p) bs) ≡ greatest (λ (s : Stretch). greatest (start_depth t) s.starts) (map (now.stretch_of d p) bs)
  frames_same p [] fine = refl
  frames_same p (b ∷ bs) fine = let own = fine.0.alike.depths t in let more = frames_same p bs fine.1 in omega (arith, own, more)

  depths_same : (ps : List Program) → Each (λ (p : Program). AllFine d p p.blocks) ps →
      map (program_depth t) (map (graphs.stretches_of d) ps) ≡ map (program_depth t) (map (now.stretches_of d) ps)
  depths_same [] fine = refl
  depths_same (p ∷ ps) fine =
      let own = ap (λ n. 1 + n) (frames_same p p.blocks fine.0) in
      let more = depths_same ps fine.1 in
      ap (λ n. n ∷ map (program_depth t) (map (graphs.stretches_of d) ps)) own ∙ ap (λ ns. program_depth t (now.stretches_of d p) ∷ ns) more

-- ** the whole

all_fine : (d : Definition) → NoRepeats d → bracket_faults d ≡ [] → freezes_over_pairs d ≡ [] → Each (λ (p : Program). AllFine d p p.blocks) d.programs
all_fine d once brackets freezes = programs_fine d 0 d.programs once brackets (none_pass (λ (s : Site). freezes_pair d s.kinds s.instruction) (sites d) freezes)

module _ (d : Definition) (a : first.Accepted d) where
  fine : Each (λ (p : Program). AllFine d p p.blocks) d.programs
  fine = all_fine d a.once a.brackets a.freezes

  abbrev weighed : Weighed (now.graph d)
  weighed = record {
    ranks = a.weighed.ranks;
    costs = a.weighed.costs;
    depths = a.weighed.depths;
    ranking = ranking_same d fine a.weighed.ranks a.weighed.ranking;
    solves_costs = record {
      channels = a.weighed.solves_costs.channels;
      programs = a.weighed.solves_costs.programs ∙ costs_same d (now.graph d) a.weighed.costs d.programs fine;
    };
    solves_depths = record {
      channels = a.weighed.solves_depths.channels;
      programs = a.weighed.solves_depths.programs ∙ depths_same d a.weighed.depths d.programs fine;
    };
    bounded = a.weighed.bounded;
  }

  abbrev accepted_now : Accepted d
  accepted_now = record {
    typed = program_faults_same d 0 d.programs a.once ∙ a.typed;
    handlers = a.handlers;
    bindings = a.bindings;
    pairs = a.pairs;
    brackets = a.brackets;
    acyclic = acyclic_same d fine a.acyclic;
    weighed = weighed;
    inherits = a.inherits;
  }

  abbrev same : HasSameNumbers d a accepted_now
  same = record { ranks = refl; costs = refl; depths = refl; rank = λ c. refl; cost = λ e. refl; bound = λ e. refl; depth = refl; report = refl }

pub numbers_stay : NumbersStay
numbers_stay d a = (accepted_now d a, same d a)

pub accepted_before : AcceptedBefore
accepted_before d a = accepted_is_judged d (accepted_now d a)

-- and the other way round
pub nothing_else_changed : NothingElseChanged
nothing_else_changed d a once freezes =
    let fine = all_fine d once a.brackets freezes in
    record {
      once = once;
      typed = sym (program_faults_same d 0 d.programs once) ∙ a.typed;
      handlers = a.handlers;
      bindings = a.bindings;
      pairs = a.pairs;
      freezes = freezes;
      brackets = a.brackets;
      acyclic = λ links. ap (λ edges. is_cycle_of edges links) (arrows_same d fine) ∙ a.acyclic links;
      weighed = record {
        ranks = a.weighed.ranks;
        costs = a.weighed.costs;
        depths = a.weighed.depths;
        ranking = a.weighed.ranking ∙ ap (λ edges. ranked edges (nodes (now.graph d)) a.weighed.ranks) (sym (arrows_same d fine));
        solves_costs = record {
          channels = a.weighed.solves_costs.channels;
          programs = a.weighed.solves_costs.programs ∙ sym (costs_same d (now.graph d) a.weighed.costs d.programs fine);
        };
        solves_depths = record {
          channels = a.weighed.solves_depths.channels;
          programs = a.weighed.solves_depths.programs ∙ sym (depths_same d a.weighed.depths d.programs fine);
        };
        bounded = a.weighed.bounded;
      };
      inherits = a.inherits;
    }
