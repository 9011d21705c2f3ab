-- The program that a class runs for a signal takes what an emission at a place of the class gives it.
use Rattle.std.proofs.Common.{◌≡◌, inl, inr, refl, sym, ap, subst, ◌∙◌, ℕ, zero, suc, ◌+◌, ◌<◌, Bool, true, false, cond, List, [], ◌∷◌, ◌++◌, length, map, Option, None, Some, arith}
use Rattle.std.specs.Prelude.{nat_eq, ◌&&◌}
use Rattle.std.specs.List.{list_any}
use Rattle.std.proofs.lemmas.Bool.{eq-eqb, or_left}
use Rattle.ui_machine.specs.Seq.{read}
use Rattle.ui_machine.specs.Definition.{Definition, Class}
use Rattle.ui_machine.specs.Definition.Kinds.{Kind, RegisterKind}
use Rattle.ui_machine.specs.Definition.Kinds as kinds
use Rattle.ui_machine.specs.Definition.Lookups.{no_class, class_of, program_at}
use Rattle.ui_machine.specs.Definition.Names.{same_name}
use Rattle.ui_machine.specs.Definition.Programs.{Program}
use Rattle.ui_machine.specs.Definition.Signals.{ClassHandler, Signal}
use Rattle.ui_machine.specs.Rules.Ancestry.{is_a, lineage, is_or_implements, implemented_by}
use Rattle.ui_machine.specs.Rules.Connections.{signal_number}
use Rattle.ui_machine.specs.Rules.EmissionPlan.{signal_of, handler_in, or_else, first_given, class_handler_of}
use Rattle.ui_machine.specs.Rules.Transform.{is_one}
use Rattle.law_typing.specs.Rules.Faults.{handler_signature, Fault}
use Rattle.law_typing.specs.Rules.Faults as faults
use Rattle.law_typing.specs.Rules.Handlers.{at_signal, unless, class_handler_fits, class_handler_faults, constructed_faults, class_faults, place_faults}
use Rattle.law_typing.specs.Rules.RegisterKinds.{Kinds, class_at, fits}
use Rattle.law_typing.specs.Rules.Signatures.{parameters_fit, result_fits, is_taken_by, given_kinds}
use Rattle.law_typing.specs.Verdict.Accepted.{Accepted}
use Rattle.law_typing.specs.Laws.{IsIn}
use Rattle.law_typing.specs.Laws.WellRead.{TypesRead}
use Rattle.law_typing.specs.Good.Handlers.{Takes}
use Rattle.law_typing.proofs.Lists.{any_true, both_parts, both_empty}
use Rattle.law_static.proofs.AtClass.{at_class}
use Rattle.law_static.proofs.Same.{names_same}
use Rattle.law_static.proofs.SubclassProofs.{signals_inherit}

-- ** where a handler is

-- what the first class gives that gives something, one of them gives
given_by : (f : ℕ → Option ℕ) (line : List ℕ) (program : ℕ) → first_given f line ≡ Some program → (c : ℕ) × IsIn c line × (f c ≡ Some program)
given_by f [] program e = absurd (cc)
given_by f (c ∷ line) program e = go (f c) refl e (λ e. given_by f line program e)
  where
    go : (o : Option ℕ) → f c ≡ o → or_else o (first_given f line) ≡ Some program → (first_given f line ≡ Some program → (c : ℕ) × IsIn c line × (f c ≡ Some program)) →
        (x : ℕ) × IsIn x (c ∷ line) × (f x ≡ Some program)
    go None is e later = let x = later e in (x.0, inr x.1, x.2)
    go (Some p) is e later = (c, inl refl, is ∙ e)

-- a handler of a class for the name
named_in : (hs : List ClassHandler) (name : List ℕ) (program : ℕ) → handler_in hs name ≡ Some program → (h : ClassHandler) × IsIn h hs × (h.signal ≡ name) × (h.program ≡ program)
named_in [] name program e = absurd (cc)
named_in (h ∷ hs) name program e = go (same_name h.signal name) refl (λ e. named_in hs name program e)
  where
    go : (b : Bool) → same_name h.signal name ≡ b → (handler_in hs name ≡ Some program → (h : ClassHandler) × IsIn h hs × (h.signal ≡ name) × (h.program ≡ program)) →
        (x : ClassHandler) × IsIn x (h ∷ hs) × (x.signal ≡ name) × (x.program ≡ program)
    go true t later =
        let f = sym (ap (λ b. cond b (Some h.program) (handler_in hs name)) t) ∙ e in
        (h, inl refl, names_same h.signal name t, (let s : h.program ≡ program = cc in s))
    go false t later = let x = later (sym (ap (λ b. cond b (Some h.program) (handler_in hs name)) t) ∙ e) in (x.0, inr x.1, x.2, x.3)

-- ** it fits

no_fault : (b : Bool) (fault : Fault) → unless b fault ≡ [] → b ≡ true
no_fault true fault e = refl
no_fault false fault e = absurd (cc)

each_fits : (d : Definition) (class number : ℕ) (hs : List ClassHandler) → class_handler_faults d class number hs ≡ [] → (h : ClassHandler) → IsIn h hs → class_handler_fits d class h ≡ true
each_fits d class number [] e h there = absurd there
each_fits d class number (x ∷ hs) e h (inl same) =
    let parts = both_empty (unless (class_handler_fits d class x) (handler_signature (faults.class_handler class number))) (class_handler_faults d class (suc number) hs) e in
    ap (class_handler_fits d class) same ∙ no_fault (class_handler_fits d class x) (handler_signature (faults.class_handler class number)) parts.0
each_fits d class number (x ∷ hs) e h (inr there) =
    let parts = both_empty (unless (class_handler_fits d class x) (handler_signature (faults.class_handler class number))) (class_handler_faults d class (suc number) hs) e in
    each_fits d class (suc number) hs parts.1 h there

class_fits : (d : Definition) (n i : ℕ) (cs : List Class) → class_faults d n cs ≡ [] → (h : ClassHandler) → IsIn h (read no_class cs i).handlers → class_handler_fits d (n + i) h ≡ true
class_fits d n i [] e h there = absurd there
class_fits d n zero (c ∷ cs) e h there =
    let parts = both_empty (class_handler_faults d n 0 c.handlers) (constructed_faults d n c.constructed ++ class_faults d (suc n) cs) e in
    let same : n ≡ n + 0 = omega arith in
    ap (λ n. class_handler_fits d n h) (sym same) ∙ each_fits d n 0 c.handlers parts.0 h there
class_fits d n (suc i) (c ∷ cs) e h there =
    let parts = both_empty (class_handler_faults d n 0 c.handlers) (constructed_faults d n c.constructed ++ class_faults d (suc n) cs) e in
    let more = both_empty (constructed_faults d n c.constructed) (class_faults d (suc n) cs) parts.1 in
    let same : suc n + i ≡ n + suc i = omega arith in
    ap (λ n. class_handler_fits d n h) (sym same) ∙ class_fits d (suc n) i cs more.1 h there

-- the signal of a test that holds
at_one : (d : Definition) (class : ℕ) (o : Option ℕ) (test : ℕ → Signal → Bool) → at_signal d class o test ≡ true →
    (number : ℕ) × (s : Signal) × (o ≡ Some number) × (signal_of d class number ≡ Some s) × (test number s ≡ true)
at_one d class None test e = absurd (cc)
at_one d class (Some number) test e = go (signal_of d class number) refl
  where
    go : (o : Option Signal) → signal_of d class number ≡ o → (n : ℕ) × (s : Signal) × (Some number ≡ Some n) × (signal_of d class n ≡ Some s) × (test n s ≡ true)
    go None is = absurd (let f = rw is at e in cc)
    go (Some s) is = (number, s, refl, is, (let f = rw is at e in f))

-- what is given to an instance of a class fits at each of its places
fits_at : (d : Definition) → TypesRead d → (place class : ℕ) → is_one d.types class (class_at d place) ≡ true → (rest : Kinds) (o : Option Program) (wanted : Option Kind) →
    is_taken_by d o (kinds.some class ∷ rest) wanted ≡ true → is_taken_by d o (kinds.at place ∷ rest) wanted ≡ true
fits_at d types place class one rest None wanted e = absurd (cc)
fits_at d types place class one rest (Some p) wanted e =
    let x = both_parts (parameters_fit d (kinds.some class ∷ rest) p.params) (result_fits d p.result wanted) e in
    ap (λ b. b && result_fits d p.result wanted) (by p.params x.0) ∙ x.1
  where
    by : (ps : List RegisterKind) → parameters_fit d (kinds.some class ∷ rest) ps ≡ true → parameters_fit d (kinds.at place ∷ rest) ps ≡ true
    by [] e = absurd (cc)
    by (q ∷ ps) e =
        let x = both_parts (fits d (kinds.some class) q) (parameters_fit d rest ps) e in
        ap (λ b. b && parameters_fit d rest ps) (at_class d types place class q one x.0) ∙ x.1

-- ** the whole

pub class_takes : (d : Definition) → TypesRead d → Accepted d → (place class number program : ℕ) (sig : Signal) → class_at d place ≡ Some class → signal_of d class number ≡ Some sig →
    class < length d.types → class_handler_of d class sig.name ≡ Some program → Takes d place number program false None
class_takes d types a place class number program sig of_class has known runs =
    let given = given_by (λ c. handler_in (class_of d c).handlers sig.name) (lineage d.types class) program runs in
    let c = given.0 in
    let h = named_in (class_of d c).handlers sig.name program given.2 in
    let none = (both_empty (class_faults d 0 d.classes) (place_faults d 0 d.places) a.handlers).0 in
    let at : 0 + c ≡ c = omega arith in
    let fit = ap (λ c. class_handler_fits d c h.0) (sym at) ∙ class_fits d 0 c d.classes none h.0 h.1 in
    let x = at_one d c (signal_number d c h.0.signal) _ fit in
    let is : is_a d.types class c ≡ true =
    any_true (is_or_implements d.types c) (lineage d.types class) c given.1 (or_left (nat_eq c c) (list_any (nat_eq c) (implemented_by d.types c)) (eq-eqb c c refl)) in
    let named : signal_number d c sig.name ≡ Some x.0 = ap (signal_number d c) (sym h.2) ∙ x.2 in
    let own = signals_inherit d types class c x.0 sig.name x.1 known is named x.3 in
    let here = types.signals class number sig has in
    let same : own.0 ≡ number = (let f = sym own.1 ∙ here in cc) in
    let one : x.1 ≡ sig = (let f = sym own.2 ∙ (ap (signal_of d class) same ∙ has) in cc) in
    let takes : is_taken_by d (program_at d program) (given_kinds false (kinds.some c) x.1.params None) x.1.result ≡ true =
    ap (λ p. is_taken_by d (program_at d p) (given_kinds false (kinds.some c) x.1.params None) x.1.result) (sym h.3) ∙ x.4 in
    let there = subst (λ (s : Signal). is_taken_by d (program_at d program) (given_kinds false (kinds.some c) s.params None) s.result ≡ true) one takes in
    (class, sig, of_class, has, fits_at d types place c (ap (is_one d.types c) of_class ∙ is) (map kinds.plain sig.params ++ []) (program_at d program) sig.result there)
