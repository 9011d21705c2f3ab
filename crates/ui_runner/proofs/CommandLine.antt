-- The first value of a name, as the rows of what was used have it, and what a refusal says of words.
use Rattle.std.proofs.Common.{◌≡◌, List, [], ◌∷◌, Some, option_map, option_and_then, Bool, true, false, map, slice_get, refl, sym, subst, if◌then◌else◌, Result, Ok, Err, IfOk, inl, inr}
use Rattle.std.proofs.lemmas.Option.{slice_get-map}
use Rattle.std.specs.List.{find}
use Rattle.std.specs.Str.{bytes_eq}
use Rattle.clap.specs.Facts.{Entry}
use Rattle.clap.specs.Matches.{first_value}
use Rattle.clap.specs.Walk.{row_of, rows_of}
use Rattle.clap.specs.Words.{Row, Text, FailsBy, HasKind, Kinds, first_of, is_simple_and_free, kind_of}
use Rattle.clap.specs.declared.error.Error.{Error}
use Rattle.clap.specs.declared.error.kind.ErrorKind.TheVariants as kinds
use Rattle.clap.specs.declared.parser.matches.Found.{Found}
use Rattle.clap.proofs.OnLiterals.{clap_on_literals}
use Rattle.ui_runner.specs.CommandLine.{ui_command}

value_among : (id : Text) (es : List Entry)
    → option_and_then (λ a. option_map (λ s. s.now) (slice_get a.vals.items 0)) (option_map (λ (e : Entry). e.1) (find (λ (e : Entry). bytes_eq e.0.now id) es))
    ≡ first_of id (map row_of es)
value_among id [] = refl
value_among id (e ∷ es) = by (bytes_eq e.0.now id) (value_among id es)
  where
    by : (b : Bool)
        → option_and_then (λ a. option_map (λ s. s.now) (slice_get a.vals.items 0)) (option_map (λ (e : Entry). e.1) (find (λ (e : Entry). bytes_eq e.0.now id) es))
        ≡ first_of id (map row_of es)
        → option_and_then (λ a. option_map (λ s. s.now) (slice_get a.vals.items 0)) (option_map (λ (e : Entry). e.1) (if b then Some e else find (λ (e : Entry). bytes_eq e.0.now id) es))
        ≡ option_and_then (λ (r : Row). slice_get r.values 0) (if b then Some (row_of e) else find (λ (r : Row). bytes_eq r.id id) (map row_of es))
    by true rest = sym (slice_get-map (λ s. s.now) e.1.vals.items 0)
    by false rest = rest

pub first_value_is : (found : Found) (id : Text) → first_value found id ≡ first_of id (rows_of found)
first_value_is found id = value_among id found.entries.items

-- the command is one of which `clap` knows each fault
pub is_known : is_simple_and_free ui_command ≡ true
unfolding clap_on_literals
is_known = refl

pub whatever_it_is : {T E : Type 0} (r : Result T E) (P : Type 0) → P → IfOk r (λ x. P)
whatever_it_is (Ok x) P h = h
whatever_it_is (Err e) P h = tt

-- words in which there is no fault are refused for want of memory alone
no_kind : (e : Error) (ks : Kinds) → HasKind ks e → ks ≡ [] → kind_of e ≡ kinds.OutOfMemory
no_kind e [] (inl h) none = h
no_kind e [] (inr h) none = absurd h
no_kind e (k ∷ ks) h none = absurd (cc)

pub wants_memory : {T : Type 0} (faults : Kinds) (r : Result T Error) (e : Error) → r ≡ Err e → FailsBy faults r → faults ≡ [] → kind_of e ≡ kinds.OutOfMemory
wants_memory {T} faults r e is fails none = no_kind e faults (subst (λ (x : Result T Error). FailsBy faults x) is fails) none
