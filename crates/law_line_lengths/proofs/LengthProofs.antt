-- How long values and lines are.
use Rattle.std.proofs.Common.{◌≡◌, subst, sym, ℕ, zero, suc, ◌+◌, ◌-◌, ◌*◌, ◌≤◌, ◌/◌, ◌%◌, Bool, true, false, cond, length, List, [], ◌∷◌, ◌++◌, map, Option, None, Some, ℤ, pos, negsuc, arith}
use Rattle.std.proofs.lemmas.List.{length-append, length-map}
use Rattle.std.specs.Fmt.{decimal, digit_glyph, digits, digits_onto}
use Rattle.std.specs.List.{flat_map}
use Rattle.std.specs.Ordering.{int_eq}
use Rattle.std.specs.Prelude.{IfSome, codes, nat_eq, nat_lt, if◌then◌else◌}
use Rattle.ui_machine.specs.Definition.{Definition}
use Rattle.ui_machine.specs.Definition.Types.{GType, Member}
use Rattle.ui_machine.specs.Definition.Values.{Value}
use Rattle.ui_machine.specs.Definition.Values as values
use Rattle.ui_machine.specs.Instructions.Arithmetic.{most_bytes}
use Rattle.ui_machine.specs.Output.Lines.{Line}
use Rattle.ui_machine.specs.Output.Lines as lines
use Rattle.ui_machine.specs.Output.Text.{call_text, detail_text, escaped, escaped_byte, json_string, members_of, nick_of, text_of_line, text_of_value, text_of_values}
use Rattle.ui_machine.specs.Runs.{IsShort}
use Rattle.law_typing.proofs.Lists.{greatest_in}
use Rattle.law_typing.specs.Laws.{IsIn}
use Rattle.law_typing.specs.Verdict.Accepted.{Each}
use Rattle.law_line_lengths.specs.LineLengths.{AreArgumentsOf, BytesAreWithin, IsLikeLineOf, IsLikeNameOf, LinesAreShort, NamesAreShort, ValuesAreShort, GrowthIsWithin, arguments_length, bytes_of, detail_length, limit_words, line_length, longest, most_arguments, names, text_length, value_length}

-- a list of at most so many bytes
record Fits (n : ℕ) (xs : List ℕ) : Type 0 where
  pub few : length xs ≤ n

wider : {m : ℕ} {xs : List ℕ} → Fits m xs → (n : ℕ) → m ≤ n → Fits n xs
wider f n le = let h = f.few in record { few = omega (arith, h, le) }

-- two such lists, one after the other
joined : {m n : ℕ} {xs ys : List ℕ} → Fits m xs → Fits n ys → Fits (m + n) (xs ++ ys)
joined {m} {n} {xs} {ys} f g = let h = f.few in let k = g.few in let e = length-append xs ys in record { few = omega (arith, h, k, e) }

either : {n : ℕ} (b : Bool) {xs ys : List ℕ} → Fits n xs → Fits n ys → Fits n (cond b xs ys)
either true f g = f
either false f g = g

-- ** texts

byte_fits : (x : ℕ) → Fits 6 (escaped_byte x)
byte_fits x =
    either (nat_eq x 34) (record { few = omega arith }) (either (nat_eq x 92) (record { few = omega arith }) (either (nat_eq x 8) (record { few = omega arith })
    (either (nat_eq x 9) (record { few = omega arith }) (either (nat_eq x 10) (record { few = omega arith }) (either (nat_eq x 12) (record { few = omega arith })
    (either (nat_eq x 13) (record { few = omega arith }) (either (nat_lt x 32) (record { few = omega arith }) (record { few = omega arith }))))))))

escaped_fits : (s : List ℕ) → Fits (6 * length s) (escaped s)
escaped_fits [] = record { few = omega arith }
escaped_fits (x ∷ s) = wider (joined (byte_fits x) (escaped_fits s)) (6 * length (x ∷ s)) (omega arith)

text_fits : (s : List ℕ) → length s ≤ most_bytes → Fits text_length (json_string s)
text_fits s short = let h = (escaped_fits s).few in let e = length-append (escaped s) (34 ∷ []) in record { few = omega (arith, h, e, short) }

-- ** numbers

-- so many digits are added at most
digits_few : (k n : ℕ) (acc : List ℕ) → length (digits_onto k 10 false n acc) ≤ k + length acc
digits_few zero n acc = omega arith
digits_few (suc k) n acc = by (nat_eq (n / 10) 0) (digits_few k (n / 10) (digit_glyph false (n % 10) ∷ acc))
  where
    more : List ℕ
    more = digit_glyph false (n % 10) ∷ acc

    by : (b : Bool) → length (digits_onto k 10 false (n / 10) more) ≤ k + length more → length (if b then more else digits_onto k 10 false (n / 10) more) ≤ suc k + length acc
    by true few = omega arith
    by false few = omega (arith, few)

decimal_fits : (n : ℕ) → Fits 64 (decimal n)
unfolding digits
decimal_fits n = let few = digits_few 64 n [] in record { few = omega (arith, few) }

-- ** nicks

-- the length of the longest nick
longest_nick : List GType → ℕ
longest_nick types = longest (flat_map (λ (g : GType). map (λ (m : Member). m.nick) g.members) types)

-- a nick among those of members, and of what comes after them
nick_among : (ms : List Member) (rest : List (List ℕ)) (n : ℤ) → Fits (longest (map (λ (m : Member). m.nick) ms ++ rest)) (nick_of ms n)
nick_among [] rest n = record { few = omega arith }
nick_among (m ∷ ms) rest n = either (int_eq m.number n) (record { few = omega arith }) (wider (nick_among ms rest n) _ (omega arith))

longest_after : (xs ys : List (List ℕ)) → longest ys ≤ longest (xs ++ ys)
longest_after [] ys = omega arith
longest_after (x ∷ xs) ys = let h = longest_after xs ys in omega (arith, h)

nick_fits : (types : List GType) (t : ℕ) (n : ℤ) → Fits (longest_nick types) (nick_of (members_of types t) n)
unfolding longest_nick
nick_fits [] t n = record { few = omega arith }
nick_fits (g ∷ types) zero n = nick_among g.members (flat_map (λ (g : GType). map (λ (m : Member). m.nick) g.members) types) n
nick_fits (g ∷ types) (suc t) n = wider (nick_fits types t n) _ (longest_after (map (λ (m : Member). m.nick) g.members) (flat_map (λ (g : GType). map (λ (m : Member). m.nick) g.members) types))

-- ** values

value_fits : (types : List GType) (m : ℕ) → text_length ≤ m → ((t : ℕ) (n : ℤ) → Fits m (nick_of (members_of types t) n)) → (v : Value) → IsShort v → Fits m (text_of_value types v)
value_fits types m low nick (values.bool true) short = record { few = omega (arith, low) }
value_fits types m low nick (values.bool false) short = record { few = omega (arith, low) }
value_fits types m low nick (values.whole kind (pos n)) short = wider (decimal_fits n) m (omega (arith, low))
value_fits types m low nick (values.whole kind (negsuc n)) short = let h = (decimal_fits (suc n)).few in record { few = omega (arith, h, low) }
value_fits types m low nick (values.text None) short = record { few = omega (arith, low) }
value_fits types m low nick (values.text (Some s)) short = wider (text_fits s short) m low
value_fits types m low nick (values.enum t n) short = nick t n
value_fits types m low nick (values.flags t bits) short = wider (decimal_fits bits) m (omega (arith, low))
value_fits types m low nick (values.object None) short = record { few = omega (arith, low) }
value_fits types m low nick (values.object (Some id)) short = let h = (decimal_fits id).few in record { few = omega (arith, h, low) }

value_of : (d : Definition) (v : Value) → IsShort v → Fits (value_length d) (text_of_value d.types v)
unfolding longest_nick
value_of d v short = value_fits d.types (value_length d) (omega arith) (λ t n. wider (nick_fits d.types t n) (value_length d) (omega arith)) v short

pub values_are_short : ValuesAreShort
values_are_short d v short = (value_of d v short).few

-- a word
word : (s : List ℕ) → Fits (length s) s
word s = record { few = omega arith }

one_more : (k m : ℕ) → m + (1 + k * suc m) ≤ suc k * suc m
one_more k m = omega arith

-- values, each with a comma
values_fit : (types : List GType) (m : ℕ) → ((v : Value) → IsShort v → Fits m (text_of_value types v)) → (args : List Value) → Each IsShort args → Fits (length args * suc m) (text_of_values types args)
values_fit types m fit [] short = record { few = omega arith }
values_fit types m fit (v ∷ []) short = wider (fit v short.0) _ (omega arith)
values_fit types m fit (v ∷ w ∷ vs) short =
    wider (joined (fit v short.0) (joined (word (codes ",")) (values_fit types m fit (w ∷ vs) short.1))) _ (one_more (length (w ∷ vs)) m)

no_more : (k n m : ℕ) → k ≤ n → k * m ≤ n * m
no_more k n m le = grind (arith, le)

arguments_fit : (d : Definition) (args : List Value) → AreArgumentsOf d args → Fits (arguments_length d) (text_of_values d.types args)
arguments_fit d args are = wider (values_fit d.types (value_length d) (value_of d) args are.0) _ (no_more (length args) (most_arguments d) (suc (value_length d)) are.1)

name_fits : (d : Definition) (name : List ℕ) → IsLikeNameOf d name → Fits (longest (names d)) name
name_fits d name is = record { few = is }

pub names_are_short : NamesAreShort
names_are_short d name is = greatest_in (λ (name : List ℕ). length name) (names d) name is

limit_fits : (s : List ℕ) → IsIn s limit_words → Fits 7 s
limit_fits s is = record { few = greatest_in (λ (name : List ℕ). length name) limit_words s is }

-- ** lines

module _ (types : List GType) (N A V : ℕ) where
  abbrev Most : ℕ
  Most = 188 + 2 * N + A + V

  called : (peer method : List ℕ) (args : List Value) → Fits N peer → Fits N method → Fits A (text_of_values types args) →
      Fits (N + (1 + (N + (1 + (A + 1))))) (call_text types peer method args)
  called peer method args p m a = joined p (joined (word (codes ".")) (joined m (joined (word (codes "(")) (joined a (word (codes ")"))))))

  detailed : (detail : Option (List ℕ)) → IfSome detail (λ (s : List ℕ). length s ≤ detail_length) → Fits 66 (detail_text detail)
  detailed None short = record { few = omega arith }
  detailed (Some s) short = joined (word (codes "::")) (record { few = short })

  sets : (s : List ℕ) → length s ≤ 9 → (id : ℕ) → Fits 64 (decimal id) → (name : List ℕ) → Fits N name → (v : Value) → Fits V (text_of_value types v) →
      Fits Most (s ++ (decimal id ++ (codes "." ++ (name ++ (codes " " ++ text_of_value types v)))))
  sets s low id i name n v f = wider (joined (word s) (joined i (joined (word (codes ".")) (joined n (joined (word (codes " ")) f))))) _ (omega (arith, low))

  constructs : (id : ℕ) → Fits 64 (decimal id) → (class : List ℕ) → Fits N class → Fits Most (text_of_line types (lines.construct id class))
  constructs id i class n = wider (joined (word (codes "construct #")) (joined i (joined (word (codes " ")) n))) _ (omega arith)

  notifies : (id : ℕ) → Fits 64 (decimal id) → (name : List ℕ) → Fits N name → Fits Most (text_of_line types (lines.notify id name))
  notifies id i name n = wider (joined (word (codes "notify #")) (joined i (joined (word (codes ".")) n))) _ (omega arith)

  emits : (id : ℕ) → Fits 64 (decimal id) → (name : List ℕ) → Fits N name → (detail : Option (List ℕ)) → IfSome detail (λ (s : List ℕ). length s ≤ detail_length) →
      (args : List Value) → Fits A (text_of_values types args) → Fits Most (text_of_line types (lines.emit id name detail args))
  emits id i name n detail short args a =
      wider (joined (word (codes "emit #")) (joined i (joined (word (codes ".")) (joined n (joined (detailed detail short) (joined (word (codes "(")) (joined a (word (codes ")"))))))))) _ (omega arith)

  -- a word and a name
  tells : (s name : List ℕ) → length s ≤ 9 → Fits N name → Fits Most (s ++ name)
  tells s name low n = wider (joined (word s) n) _ (omega (arith, low))

  -- a word and a number
  counts : (s : List ℕ) → length s ≤ 9 → (n : ℕ) → Fits 64 (decimal n) → Fits Most (s ++ decimal n)
  counts s low n f = wider (joined (word s) f) _ (omega (arith, low))

  -- a word and a call that is not answered
  fails : (s : List ℕ) → length s ≤ 9 → (peer method : List ℕ) (args : List Value) → Fits N peer → Fits N method → Fits A (text_of_values types args) →
      Fits Most (s ++ call_text types peer method args)
  fails s low peer method args p m a = wider (joined (word s) (called peer method args p m a)) _ (omega (arith, low))

  answers : (peer method : List ℕ) (args : List Value) → Fits N peer → Fits N method → Fits A (text_of_values types args) → (v : Value) → Fits V (text_of_value types v) →
      Fits Most (text_of_line types (lines.call peer method args v))
  answers peer method args p m a v f = wider (joined (word (codes "call ")) (joined (called peer method args p m a) (joined (word (codes " = ")) f))) _ (omega arith)

  limits : (s : List ℕ) → Fits 7 s → Fits Most (text_of_line types (lines.limit s))
  limits s f = wider (joined (word (codes "limit ")) f) _ (omega arith)

  adopts : (parent : ℕ) → Fits 64 (decimal parent) → (child : ℕ) → Fits 64 (decimal child) → Fits Most (text_of_line types (lines.adopt parent child))
  adopts parent p child c = wider (joined (word (codes "adopt #")) (joined p (joined (word (codes " #")) c))) _ (omega arith)

  results : (v : Value) → Fits V (text_of_value types v) → Fits Most (text_of_line types (lines.result v))
  results v f = wider (joined (word (codes "result ")) f) _ (omega arith)

  builds : Fits Most (text_of_line types lines.build)
  builds = wider (word (codes "build")) _ (omega arith)

line_fits : (d : Definition) (line : Line) → IsLikeLineOf d line → Fits (line_length d) (text_of_line d.types line)
line_fits d line = of line
  where
    N : ℕ
    N = longest (names d)

    A : ℕ
    A = arguments_length d

    V : ℕ
    V = value_length d

    of : (line : Line) → IsLikeLineOf d line → Fits (line_length d) (text_of_line d.types line)
    of lines.build is = builds d.types N A V
    of (lines.construct id class) is = constructs d.types N A V id (decimal_fits id) class (name_fits d class is)
    of (lines.set id name v) is = sets d.types N A V (codes "set #") (omega arith) id (decimal_fits id) name (name_fits d name is.0) v (value_of d v is.1)
    of (lines.refused id name v) is = sets d.types N A V (codes "refused #") (omega arith) id (decimal_fits id) name (name_fits d name is.0) v (value_of d v is.1)
    of (lines.notify id name) is = notifies d.types N A V id (decimal_fits id) name (name_fits d name is)
    of (lines.emit id name detail args) is = emits d.types N A V id (decimal_fits id) name (name_fits d name is.0) detail is.1 args (arguments_fit d args is.2)
    of (lines.run program) is = tells d.types N A V (codes "run ") program (omega arith) (name_fits d program is)
    of (lines.call peer method args answer) is = answers d.types N A V peer method args (name_fits d peer is.0) (name_fits d method is.1) (arguments_fit d args is.2) answer (value_of d answer is.3)
    of (lines.fault peer method args) is = fails d.types N A V (codes "fault ") (omega arith) peer method args (name_fits d peer is.0) (name_fits d method is.1) (arguments_fit d args is.2)
    of (lines.closed peer method args) is = fails d.types N A V (codes "closed ") (omega arith) peer method args (name_fits d peer is.0) (name_fits d method is.1) (arguments_fit d args is.2)
    of (lines.limit s) is = limits d.types N A V s (limit_fits s is)
    of (lines.adopt parent child) is = adopts d.types N A V parent (decimal_fits parent) child (decimal_fits child)
    of (lines.orphan child) is = counts d.types N A V (codes "orphan #") (omega arith) child (decimal_fits child)
    of (lines.dispose id) is = counts d.types N A V (codes "dispose #") (omega arith) id (decimal_fits id)
    of (lines.close peer) is = tells d.types N A V (codes "close ") peer (omega arith) (name_fits d peer is)
    of (lines.final id) is = counts d.types N A V (codes "final #") (omega arith) id (decimal_fits id)
    of (lines.get id name v) is = sets d.types N A V (codes "get #") (omega arith) id (decimal_fits id) name (name_fits d name is.0) v (value_of d v is.1)
    of (lines.release id) is = tells d.types N A V (codes "release ") id (omega arith) (name_fits d id is)
    of (lines.turn moment) is = counts d.types N A V (codes "turn ") (omega arith) moment (decimal_fits moment)
    of (lines.result v) is = results d.types N A V v (value_of d v is)
    of (lines.end n) is = counts d.types N A V (codes "end ") (omega arith) n (decimal_fits n)

pub lines_are_short : LinesAreShort
lines_are_short d line is = (line_fits d line is).few

-- ** transcripts

one_line : (n m k b : ℕ) → n ≤ m → b ≤ k * suc m → suc n + b ≤ suc k * suc m
one_line n m k b le more = omega (arith, le, more)

pub bytes_are_within : BytesAreWithin
bytes_are_within d [] all = omega arith
bytes_are_within d (line ∷ said) all =
    one_line (length (text_of_line d.types line)) (line_length d) (length said) (bytes_of (map (text_of_line d.types) said)) (lines_are_short d line all.0) (bytes_are_within d said all.1)

bytes_joined : (xs ys : List (List ℕ)) → bytes_of (xs ++ ys) ≡ bytes_of xs + bytes_of ys
bytes_joined [] ys = omega arith
bytes_joined (x ∷ xs) ys = let h = bytes_joined xs ys in omega (arith, h)

at_most : (all old new most : ℕ) → all ≡ old + new → new ≤ most → all ≤ old + most
at_most all old new most e le = omega (arith, e, le)

grown_bytes : (d : Definition) (said : List Line) (before : List (List ℕ)) → Each (IsLikeLineOf d) said →
    bytes_of (before ++ map (text_of_line d.types) said) ≤ bytes_of before + (length (before ++ map (text_of_line d.types) said) - length before) * suc (line_length d)
grown_bytes d said before all = by (length (before ++ map (text_of_line d.types) said) - length before) (let e = length-append before (map (text_of_line d.types) said) in let f = length-map said (text_of_line d.types) in omega (arith, e, f))
  where
    by : (n : ℕ) → n ≡ length said → bytes_of (before ++ map (text_of_line d.types) said) ≤ bytes_of before + n * suc (line_length d)
    by n e = subst (λ n. bytes_of (before ++ map (text_of_line d.types) said) ≤ bytes_of before + n * suc (line_length d)) (sym e)
        (let h = bytes_joined before (map (text_of_line d.types) said) in at_most (bytes_of (before ++ map (text_of_line d.types) said)) (bytes_of before) (bytes_of (map (text_of_line d.types) said)) (length said * suc (line_length d)) h (bytes_are_within d said all))

pub growth_is_within : GrowthIsWithin
growth_is_within d said before after grows =
    subst (λ (t : List (List ℕ)). bytes_of t ≤ bytes_of before + (length t - length before) * suc (line_length d)) (sym grows.grown) (grown_bytes d said before grows.short)
