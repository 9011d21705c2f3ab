-- What the format says of a program's value, and the program that it denotes.
use Rattle.std.proofs.Common.{◌≡◌, ◌∙◌, ℕ, Bool, true, false, List, codes, Option, None, Some, option_and_then, Result, Ok, Err, if◌then◌else◌, refl, sym, ap}
use Rattle.serde_json.specs.Data.{Data}
use Rattle.serde_json.specs.Find.{get, as_str, as_object}
use Rattle.ui_machine.specs.Definition.Programs.{Program}
use Rattle.ui_machine.specs.Outcome.{◌>>=◌}
use Rattle.bytecode.specs.declared.faults.ProgramFault.{ProgramFault}
use Rattle.bytecode.specs.Reading.Operands.{is_name, named}
use Rattle.bytecode.specs.Reading.Outline.{Outline, blocks_at, keys_of_program, kinds_at, only_at, outline_in, registers_of, result_at, tested}
use Rattle.bytecode.specs.Reading.OutlineFaults.{OutlineFault, Part, all_of, member_of, shaped}
use Rattle.bytecode.specs.Reading.Programs.{blocks_in, program_of, program_with, scope_of, unless_fault}
use Rattle.bytecode.specs.Reading.RegisterKinds.{Names}
use Rattle.bytecode.specs.Shape.{shape_fault}
use Rattle.definition_format.specs.Refusals.{Refusal, or_refused}
use Rattle.definition_format.specs.Denoted.Programs.{or_bad_program, read_ahead}
use Rattle.read_parts.proofs.Chains.{bound}

-- what is refused is refused of the outline
pub refused_outline : (names : Names) (d : Data) (fault : OutlineFault) → tested names d ≡ Err fault → outline_in names d ≡ Err fault
refused_outline names d fault h = by (outline_in names d) refl
  where
    by : (r : Result Outline OutlineFault) → outline_in names d ≡ r → outline_in names d ≡ Err fault
    by (Ok o) e = let f : tested names d ≡ Ok tt = ap (λ (r : Result Outline OutlineFault). r >>= λ o. Ok tt) e in absurd (cc)
    by (Err other) e = let f : tested names d ≡ Err other = ap (λ (r : Result Outline OutlineFault). r >>= λ o. Ok tt) e in e ∙ cc

-- what is given is one thing
abbrev given : {A E : Type 0} → A → Result A E
given x = Ok x

same_given : {A E : Type 0} (x y : A) → given {A = A} {E = E} x ≡ Ok y → x ≡ y
same_given x y h = cc

shaped_is : {A : Type 0} (part : Part) (o : Option A) (x : A) → shaped part o ≡ Ok x → o ≡ Some x
shaped_is part None x h = absurd (cc)
shaped_is part (Some y) x h = let e : y ≡ x = cc in ap Some e

named_is : (text : Option (List ℕ)) (name : List ℕ) → named text ≡ Some name → text ≡ Some name
named_is None name h = absurd (cc)
named_is (Some word) name h = by (is_name word) h
  where
    by : (b : Bool) → (if b then Some word else None) ≡ Some name → Some word ≡ Some name
    by true e = e
    by false e = absurd (cc)

-- an outline has the name that the value has
outline_name : (names : Names) (d : Data) (o : Outline) → outline_in names d ≡ Ok o → option_and_then as_str (get (codes "name") d) ≡ Some o.name
unfolding outline_in
outline_name names d o h =
    let m = bound (shaped (all_of None) (as_object d)) _ o h in
    let n = bound (shaped (member_of None (codes "name")) (named (option_and_then as_str (get (codes "name") d)))) _ o m.2 in
    let k = bound (kinds_at names false (member_of None (codes "params")) (registers_of d) (get (codes "params") d)) _ o n.2 in
    let r = bound (shaped (member_of None (codes "registers")) (registers_of d)) _ o k.2 in
    let t = bound (result_at names.types d) _ o r.2 in
    let b = bound (blocks_at names k.0 r.0 d) _ o t.2 in
    let l = bound (only_at None m.0 keys_of_program) _ o b.2 in
    let name : n.0 ≡ o.name = ap (λ (u : Outline). u.name) (same_given _ o l.2) in
    named_is (option_and_then as_str (get (codes "name") d)) n.0 (shaped_is (member_of None (codes "name")) _ n.0 n.1) ∙ ap Some name

kept_name : (p q : Program) (fault : Option ProgramFault) → unless_fault p fault ≡ Ok q → q ≡ p
kept_name p q None h = cc
kept_name p q (Some fault) h = absurd (cc)

-- and a program has the name of its outline
program_name : (names : Names) (o : Outline) (q : Program) → program_of names o ≡ Ok q → q.name ≡ o.name
unfolding program_of
program_name names o q h =
    let b = bound (blocks_in (scope_of names o) o.blocks) _ q h in
    ap (λ (p : Program). p.name) (kept_name (program_with o b.0) q (shape_fault (program_with o b.0)) b.2)

text_is : (r : Refusal) (o : Option (List ℕ)) (name : List ℕ) → or_refused r o ≡ Ok name → o ≡ Some name
text_is r None name h = absurd (cc)
text_is r (Some text) name h = let e : text ≡ name = cc in ap Some e

-- so a program has the name that its value has
name_is : (names : Names) (d : Data) (o : Outline) (q : Program) (r : Refusal) (name : List ℕ) → outline_in names d ≡ Ok o → program_of names o ≡ Ok q
    → or_refused r (option_and_then as_str (get (codes "name") d)) ≡ Ok name → name ≡ q.name
name_is names d o q r name outline program text =
    let a : option_and_then as_str (get (codes "name") d) ≡ Some name = text_is r _ name text in
    let b : option_and_then as_str (get (codes "name") d) ≡ Some o.name = outline_name names d o outline in
    let c : name ≡ o.name = cc in
    c ∙ sym (program_name names o q program)

-- a program of which nothing was refused
abbrev whole : Program → Result (Result Program OutlineFault) Refusal
whole p = Ok (Ok p)

-- what was read ahead is the program of the outline
ahead_is : (path : List ℕ) (names : Names) (d : Data) (q : Program) → read_ahead path names (outline_in names d) ≡ Ok (Ok q)
    → (o : Outline) × (outline_in names d ≡ Ok o) × (program_of names o ≡ Ok q)
ahead_is path names d q h = by (outline_in names d) refl h
  where
    of_code : (r : Result Program ProgramFault) → (or_bad_program path r >>= whole) ≡ whole q → r ≡ Ok q
    of_code (Ok p) e = let same : p ≡ q = cc in ap Ok same
    of_code (Err fault) e = absurd (cc)

    by : (r : Result Outline OutlineFault) → outline_in names d ≡ r → read_ahead path names r ≡ Ok (Ok q) → (o : Outline) × (outline_in names d ≡ Ok o) × (program_of names o ≡ Ok q)
    by (Ok o) e is = (o, e, of_code (program_of names o) is)
    by (Err fault) e is = absurd (cc)

-- so it has the name that is in its entry
pub named_ahead : (path : List ℕ) (names : Names) (d : Data) (q : Program) (r : Refusal) (name : List ℕ) → read_ahead path names (outline_in names d) ≡ Ok (Ok q)
    → or_refused r (option_and_then as_str (get (codes "name") d)) ≡ Ok name → name ≡ q.name
named_ahead path names d q r name ahead text = let a = ahead_is path names d q ahead in name_is names d a.0 q r name a.1 a.2 text
