-- What the values of programs give in the first format, they give in the second.
use Rattle.std.proofs.Common.{◌≡◌, ℕ, ◌+◌, ◌||◌, Bool, true, false, if◌then◌else◌, List, [], ◌∷◌, codes, Option, None, Some, option_map, option_and_then, Result, Ok, Err, refl, sym, ap, subst, ◌∙◌, true≢false, Ordering, Less, Equal, Greater, is_eq, nat_cmp}
use Rattle.std.specs.List.{list_any}
use Rattle.std.specs.Str.{bytes_eq}
use Rattle.std.specs.Ordering.{match_ordering}
use Rattle.std.specs.Cmp.Lexicographic.{slice_cmp}
use Rattle.std.proofs.lemmas.Map.Text.{is_eq-slice_cmp}
use Rattle.std.proofs.lemmas.Slice.Eq.{bytes_eq-Decides}
use Rattle.serde_json.specs.Data.{Data, null, boolean, number, string, array, object, Members, no_members, member}
use Rattle.serde_json.specs.Find.{as_array, as_object, as_str, get, get_member}
use Rattle.ui_machine.specs.Outcome.{◌>>=◌}
use Rattle.ui_machine.specs.Definition.Kinds.{RegisterKind}
use Rattle.ui_machine.specs.Definition.Types.{GType}
use Rattle.bytecode.specs.declared.formats.Format.TheVariants as formats
use Rattle.bytecode.specs.Reading.Each.{each, entries_of}
use Rattle.bytecode.specs.Reading.Operands.{named}
use Rattle.bytecode.specs.Reading.OutlineFaults.{Part, all_of, member_of, shaped}
use Rattle.bytecode.specs.Reading.Outline.{BlockOutline, Outline, block_at, block_step, blocks_at, entry_at, first_other, keys_of_block, kinds_at, only_at, outline_in, refused_member, registers_of, repeat_at, repeat_said, result_at, some_entries_at}
use Rattle.bytecode.specs.Reading.Programs.{program_of}
use Rattle.bytecode.specs.Reading.RegisterKinds.{Names}

-- ** chains

-- what one reading gives, another gives too
abbrev pub Carries : {A E : Type 0} → Result A E → Result A E → Type 0
Carries {A} r s = (x : A) → r ≡ Ok x → s ≡ Ok x

-- what a chain gives, it gives of what its first part gives
pub given : {A B E : Type 0} (r : Result A E) (f : A → Result B E) (y : B) → (r >>= f) ≡ Ok y → (x : A) × (r ≡ Ok x) × (f x ≡ Ok y)
given (Ok x) f y e = (x, refl, e)
given (Err fault) f y e = absurd (cc)

-- and gives what comes of it
pub follows : {A B E : Type 0} (r : Result A E) (f : A → Result B E) (x : A) (y : Result B E) → r ≡ Ok x → f x ≡ y → (r >>= f) ≡ y
follows r f x y e h = ap (λ t. t >>= f) e ∙ h

pub each_carries : {S X E : Type 0} (one two : ℕ → S → X → Result S E) → ((i : ℕ) (s : S) (x : X) → Carries (one i s x) (two i s x))
    → (i : ℕ) (s : S) (xs : List X) → Carries (each one i s xs) (each two i s xs)
unfolding each
each_carries one two more i s [] t e = e
each_carries one two more i s (x ∷ xs) t e =
    let p = given (one i s x) _ t e in
    follows _ _ p.0 _ (more i s x p.0 p.1) (each_carries one two more (i + 1) p.0 xs t p.2)

-- ** members

either : (o : Ordering) (a b : Option Data) → is_eq o ≡ false → match_ordering o a b a ≡ a
either Less a b e = refl
either Equal a b e = absurd (true≢false e)
either Greater a b e = refl

pub differ : (xs ys : List ℕ) → bytes_eq xs ys ≡ false → xs ≡ ys → ⊥
differ xs ys f e = true≢false (sym ((bytes_eq-Decides xs ys).1 e) ∙ f)

-- a value that is an object
pub object_of : (d : Data) (ms : Members) → as_object d ≡ Some ms → d ≡ object ms
object_of null ms e = absurd (cc)
object_of (boolean b) ms e = absurd (cc)
object_of (number n) ms e = absurd (cc)
object_of (string s) ms e = absurd (cc)
object_of (array ds) ms e = absurd (cc)
object_of (object own) ms e = let same : own ≡ ms = cc in ap object same

shaped_is : {A : Type 0} (part : Part) (o : Option A) (x : A) → shaped part o ≡ Ok x → o ≡ Some x
shaped_is part None x e = absurd (cc)
shaped_is part (Some y) x e = let same : y ≡ x = cc in ap Some same

-- the members of a block have no other keys
none_other : (block : Option ℕ) (o : Option (List ℕ)) → refused_member block o ≡ Ok tt → o ≡ None
none_other block None e = refl
none_other block (Some key) e = absurd (cc)

abbrev few : List (List ℕ)
few = keys_of_block formats.First

abbrev more : List (List ℕ)
more = keys_of_block formats.Second

wider : (a r c : Bool) → (a || (c || false)) ≡ true → (a || (r || (c || false))) ≡ true
wider true r c e = refl
wider false true c e = refl
wider false false c e = e

-- such a key is not `repeat`
is_few : (key : List ℕ) → list_any (λ k. bytes_eq k key) few ≡ true → codes "repeat" ≡ key → ⊥
is_few key e same = let P : List ℕ → Type 0 = λ k. list_any (λ q. bytes_eq q k) few ≡ true in true≢false (sym (subst P (sym same) e))

kept_first : (key : List ℕ) (known : Bool) (rest : Option (List ℕ)) → (if known then rest else Some key) ≡ None → (known ≡ true) × (rest ≡ None)
kept_first key true rest e = (refl, e)
kept_first key false rest e = absurd (cc)

-- members that are all those of a block in the first format: there is no `repeat` among them
no_repeat : (ms : Members) → first_other few ms ≡ None → get_member (codes "repeat") ms ≡ None
no_repeat no_members e = refl
no_repeat (member key d ms) e =
    let parts = kept_first key (list_any (λ k. bytes_eq k key) few) (first_other few ms) e in
    either (slice_cmp nat_cmp (codes "repeat") key) _ _ (is_eq-slice_cmp (codes "repeat") key ∙ apart key parts.0)
    ∙ no_repeat ms parts.1
  where
    apart : (key : List ℕ) → list_any (λ k. bytes_eq k key) few ≡ true → bytes_eq (codes "repeat") key ≡ false
    apart key e = by (bytes_eq (codes "repeat") key) refl
      where
        by : (b : Bool) → bytes_eq (codes "repeat") key ≡ b → bytes_eq (codes "repeat") key ≡ false
        by true f = absurd (is_few key e ((bytes_eq-Decides (codes "repeat") key).0 f))
        by false f = f

-- and they are those of a block in the second
still_known : (ms : Members) → first_other few ms ≡ None → first_other more ms ≡ None
still_known no_members e = refl
still_known (member key d ms) e =
    let parts = kept_first key (list_any (λ k. bytes_eq k key) few) (first_other few ms) e in
    let known : list_any (λ k. bytes_eq k key) more ≡ true = wider (bytes_eq (codes "in") key) (bytes_eq (codes "repeat") key) (bytes_eq (codes "code") key) parts.0 in
    ap (λ (b : Bool). if b then first_other more ms else Some key) known ∙ still_known ms parts.1

-- ** blocks and programs

module _ (types : List GType) (place : List ℕ → Option ℕ) where
  -- with what programs are read in both formats
  abbrev first : Names
  first = record { format = formats.First; types = types; place = place }

  abbrev second : Names
  second = record { format = formats.Second; types = types; place = place }

  -- kinds are the same
  same_kinds : (unset : Bool) (part : Part) (registers : Option ℕ) (d : Option Data) → kinds_at second unset part registers d ≡ kinds_at first unset part registers d
  unfolding kinds_at
  same_kinds unset part registers d = refl

  same_entry : (params : List RegisterKind) (registers block : ℕ) (d : Data) → entry_at second params registers block d ≡ entry_at first params registers block d
  unfolding kinds_at
  same_entry params registers block d = refl

  -- a block of the first format says nothing of how often it is passed
  says_nothing : (block : ℕ) (d : Data) (ms : Members) → as_object d ≡ Some ms → first_other few ms ≡ None → repeat_at formats.Second block d ≡ Ok None
  says_nothing block d ms is known =
      ap (λ (x : Data). repeat_said block (get (codes "repeat") x)) (object_of d ms is) ∙ ap (repeat_said block) (no_repeat ms known)

  block_carries : (params : List RegisterKind) (registers block : ℕ) (d : Data) → Carries (block_at first params registers block d) (block_at second params registers block d)
  unfolding block_at
  block_carries params registers block d b e =
      let m = given (shaped (all_of (Some block)) (as_object d)) _ b e in
      let k = given (entry_at first params registers block d) _ b m.2 in
      let c = given (shaped (member_of (Some block) (codes "code")) (option_map entries_of (option_and_then as_array (get (codes "code") d)))) _ b k.2 in
      let o = given (only_at (Some block) m.0 few) _ b c.2 in
      let known = none_other (Some block) (first_other few m.0) o.1 in
      follows _ _ m.0 _ m.1
      (follows _ _ k.0 _ (same_entry params registers block d ∙ k.1)
      (follows _ _ None _ (says_nothing block d m.0 (shaped_is (all_of (Some block)) (as_object d) m.0 m.1) known)
      (follows _ _ c.0 _ c.1
      (follows _ _ tt _ (ap (refused_member (Some block)) (still_known m.0 known)) o.2))))

  step_carries : (params : List RegisterKind) (registers i : ℕ) (bs : List BlockOutline) (d : Data)
      → Carries (block_step first params registers i bs d) (block_step second params registers i bs d)
  step_carries params registers i bs d t e =
      let b = given (block_at first params registers i d) _ t e in
      follows _ _ b.0 _ (block_carries params registers i d b.0 b.1) b.2

  blocks_carry : (params : List RegisterKind) (registers : ℕ) (d : Data) → Carries (blocks_at first params registers d) (blocks_at second params registers d)
  unfolding blocks_at
  blocks_carry params registers d t e =
      let s = given (some_entries_at d (codes "blocks")) _ t e in
      follows _ _ s.0 _ s.1 (each_carries (block_step first params registers) (block_step second params registers) (step_carries params registers) 0 [] s.0 t s.2)

  pub outline_carries : (d : Data) → Carries (outline_in first d) (outline_in second d)
  unfolding outline_in
  outline_carries d o e =
      let m = given (shaped (all_of None) (as_object d)) _ o e in
      let n = given (shaped (member_of None (codes "name")) (named (option_and_then as_str (get (codes "name") d)))) _ o m.2 in
      let k = given (kinds_at first false (member_of None (codes "params")) (registers_of d) (get (codes "params") d)) _ o n.2 in
      let r = given (shaped (member_of None (codes "registers")) (registers_of d)) _ o k.2 in
      let t = given (result_at types d) _ o r.2 in
      let b = given (blocks_at first k.0 r.0 d) _ o t.2 in
      follows _ _ m.0 _ m.1
      (follows _ _ n.0 _ n.1
      (follows _ _ k.0 _ (same_kinds false (member_of None (codes "params")) (registers_of d) (get (codes "params") d) ∙ k.1)
      (follows _ _ r.0 _ r.1
      (follows _ _ t.0 _ t.1
      (follows _ _ b.0 _ (blocks_carry k.0 r.0 d b.0 b.1) b.2)))))

  -- an outline denotes the same program
  pub same_program : (o : Outline) → program_of second o ≡ program_of first o
  unfolding program_of
  same_program o = refl
