-- The class handlers of a class, with the names of their signals.
use Rattle.std.proofs.Common.{◌≡◌, ◌∙◌, ℕ, Bool, true, false, cond, nat_eq, if◌then◌else◌, List, [], ◌∷◌, ◌++◌, Some, is_some, Result, Ok, refl, sym, ap, eq-eqb}
use Rattle.std.specs.Str.{bytes_eq}
use Rattle.std.proofs.Math.Path.{fun_ext}
use Rattle.serde_json.specs.Data.{Data, Items}
use Rattle.ui_machine.specs.Outcome.{◌>>=◌}
use Rattle.ui_machine.specs.Definition.Names.{same_name}
use Rattle.ui_machine.specs.Definition.Signals.{ClassHandler}
use Rattle.ui_machine.specs.Rules.EmissionPlan.{handler_in}
use Rattle.g_values.proofs.Texts.{same_bytes}
use Rattle.definition_format.specs.Refusals.{Refusal}
use Rattle.definition_format.specs.Document.{each, at_entry}
use Rattle.definition_format.specs.Denoted.Entries.{ProgramNames}
use Rattle.definition_format.specs.Denoted.ClassHandlers.{add_handler, class_handler_in, class_handler_at}
use Rattle.read_types.specs.HandlerDrafts.{HandlerParts, parts_of, with_handler, handler_part_in, handler_part_at}
use Rattle.read_types.specs.Drafted.{drafted}
use Rattle.read_types.proofs.Drafting.{through, each_drafted}

-- the names with that of a class handler behind the others
pub named_more : (hs : List ClassHandler) (h : ClassHandler) (name : List ℕ)
    → is_some (handler_in (hs ++ h ∷ []) name) ≡ (if bytes_eq h.signal name then true else is_some (handler_in hs name))
named_more [] h name = ap (λ b. is_some (cond b (Some h.program) (handler_in [] name))) (same_bytes h.signal name) ∙ by (bytes_eq h.signal name)
  where
    by : (b : Bool) → is_some (cond b (Some h.program) (handler_in [] name)) ≡ (if b then true else false)
    by true = refl
    by false = refl
named_more (x ∷ hs) h name = by (same_name x.signal name) (bytes_eq h.signal name) (named_more hs h name)
  where
    by : (b c : Bool) → is_some (handler_in (hs ++ h ∷ []) name) ≡ (if c then true else is_some (handler_in hs name))
        → is_some (cond b (Some x.program) (handler_in (hs ++ h ∷ []) name)) ≡ (if c then true else is_some (cond b (Some x.program) (handler_in hs name)))
    by true true rest = refl
    by true false rest = refl
    by false c rest = rest

-- parts that are the same one by one
pub same_parts : (own other : ℕ → List ClassHandler) (has names : List ℕ → Bool) → own ≡ other → ((name : List ℕ) → has name ≡ names name)
    → record { handlers = own; has = has } ≡ (let p : HandlerParts = record { handlers = other; has = names } in p)
same_parts own other has names p q =
    ap (λ (hs : ℕ → List ClassHandler). record { handlers = hs; has = has }) p
    ∙ ap (λ (f : List ℕ → Bool). record { handlers = other; has = f }) (fun_ext q)

here : (t : ℕ) → nat_eq t t ≡ true
here t = eq-eqb t t refl

with_is : (t : ℕ) (own : ℕ → List ClassHandler) (h : ClassHandler) → with_handler (parts_of t own) t h ≡ parts_of t (add_handler own t h)
with_is t own h =
    same_parts (add_handler own t h) (add_handler own t h) _ _ refl
    (λ name. sym (named_more (own t) h name) ∙ ap (λ b. is_some (handler_in (if b then own t ++ h ∷ [] else own t) name)) (sym (here t)))

module _ (programs : ProgramNames) (t : ℕ) where
  in_is : (path : List ℕ) (own : ℕ → List ClassHandler) (d : Data) → handler_part_in path programs (parts_of t own).has d ≡ class_handler_in path programs (own t) d
  unfolding handler_part_in class_handler_in
  in_is path own d = refl

  pub part_is : (path : List ℕ) (own : ℕ → List ClassHandler) (d : Data) → handler_part_at path programs t (parts_of t own) d ≡ drafted (parts_of t) (class_handler_at path programs t own d)
  unfolding handler_part_at class_handler_at
  part_is path own d =
      ap (λ (r : Result ClassHandler Refusal). r >>= λ h. Ok (with_handler (parts_of t own) t h)) (in_is path own d)
      ∙ through (parts_of t) (class_handler_in path programs (own t) d) (λ h. Ok (with_handler (parts_of t own) t h)) (λ h. Ok (add_handler own t h))
      (λ h. ap (λ (p : HandlerParts). Ok p) (with_is t own h))

  -- reading from the first on
  pub reads_are : (base : List ℕ) (p : HandlerParts) (own : ℕ → List ClassHandler) (ds : Items) → p ≡ parts_of t own
      → each (at_entry (λ path. handler_part_at path programs t) base) 0 p ds ≡ drafted (parts_of t) (each (at_entry (λ path. class_handler_at path programs t) base) 0 own ds)
  reads_are base p own ds begun =
      ap (λ (q : HandlerParts). each (at_entry (λ path. handler_part_at path programs t) base) 0 q ds) begun
      ∙ each_drafted (parts_of t) (λ path. handler_part_at path programs t) (λ path. class_handler_at path programs t) (λ path own d. part_is path own d) base 0 own ds
