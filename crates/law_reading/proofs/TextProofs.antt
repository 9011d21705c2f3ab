-- A text has hardly more tokens than bytes.
use Rattle.std.proofs.Common.{ℕ, suc, ◌≤◌, Bool, true, false, List, [], ◌∷◌, length, arith}
use Rattle.json.specs.Token.{Token, begin_object, end_object, begin_array, end_array, key, string, number, boolean, null, bad}
use Rattle.json.specs.Lex.{Class, quote, backslash, operator, space, other, Lexeme, token, comma, colon, Mode, between, in_word, in_string, in_escape, Place, fresh, after_value, after_comma, after_key, begins_colon, class, if_allowed, lex, lex_byte, may_begin, may_close, place_token, punctuate, tokens}

-- a byte begins one lexeme at most
byte_few : (n : ℕ) (m : Mode) (c : Class) (x : ℕ) (xs : List ℕ) (k : Mode → List Lexeme) → ((next : Mode) → length (k next) ≤ n) → length (lex_byte m c x xs k) ≤ suc n
byte_few n between quote x xs k few = omega (arith, few in_string)
byte_few n between backslash x xs k few = omega (arith, few in_word)
byte_few n between operator x xs k few = omega (arith, few between)
byte_few n between space x xs k few = omega (arith, few between)
byte_few n between other x xs k few = omega (arith, few in_word)
byte_few n in_word quote x xs k few = omega (arith, few in_word)
byte_few n in_word backslash x xs k few = omega (arith, few in_word)
byte_few n in_word operator x xs k few = omega (arith, few between)
byte_few n in_word space x xs k few = omega (arith, few between)
byte_few n in_word other x xs k few = omega (arith, few in_word)
byte_few n in_string quote x xs k few = omega (arith, few between)
byte_few n in_string backslash x xs k few = omega (arith, few in_escape)
byte_few n in_string operator x xs k few = omega (arith, few in_string)
byte_few n in_string space x xs k few = omega (arith, few in_string)
byte_few n in_string other x xs k few = omega (arith, few in_string)
byte_few n in_escape c x xs k few = omega (arith, few in_string)

lex_few : (m : Mode) (text : List ℕ) → length (lex m text) ≤ length text
unfolding lex
lex_few m [] = omega arith
lex_few m (x ∷ xs) = byte_few (length xs) m (class x) x xs (λ next. lex next xs) (λ next. lex_few next xs)

-- and a lexeme is one token at most, but for one at the end
allowed_few : (n : ℕ) (b : Bool) (t : Token) (k : Place → List Token) (next : Place) → ((p : Place) → length (k p) ≤ suc n) → length (if_allowed b t k next) ≤ suc (suc n)
allowed_few n true t k next few = omega (arith, few next)
allowed_few n false t k next few = omega arith

token_few : (n : ℕ) (p : Place) (t : Token) (b : Bool) (k : Place → List Token) → ((next : Place) → length (k next) ≤ suc n) → length (place_token p t b k) ≤ suc (suc n)
token_few n p begin_object b k few = allowed_few n (may_begin p) begin_object k fresh few
token_few n p end_object b k few = allowed_few n (may_close p) end_object k after_value few
token_few n p begin_array b k few = allowed_few n (may_begin p) begin_array k fresh few
token_few n p end_array b k few = allowed_few n (may_close p) end_array k after_value few
token_few n p (key s) b k few = omega arith
token_few n p (string s) true k few = allowed_few n (may_begin p) (key s) k after_key few
token_few n p (string s) false k few = allowed_few n (may_begin p) (string s) k after_value few
token_few n p (number s) b k few = allowed_few n (may_begin p) (number s) k after_value few
token_few n p (boolean x) b k few = allowed_few n (may_begin p) (boolean x) k after_value few
token_few n p null b k few = allowed_few n (may_begin p) null k after_value few
token_few n p bad b k few = omega arith

punctuate_few : (p : Place) (ls : List Lexeme) → length (punctuate p ls) ≤ suc (length ls)
unfolding punctuate
punctuate_few fresh [] = omega arith
punctuate_few after_value [] = omega arith
punctuate_few after_comma [] = omega arith
punctuate_few after_key [] = omega arith
punctuate_few p (token t ∷ ls) = token_few (length ls) p t (begins_colon ls) (λ next. punctuate next ls) (λ next. punctuate_few next ls)
punctuate_few fresh (comma ∷ ls) = omega arith
punctuate_few after_value (comma ∷ ls) = omega (arith, punctuate_few after_comma ls)
punctuate_few after_comma (comma ∷ ls) = omega arith
punctuate_few after_key (comma ∷ ls) = omega arith
punctuate_few fresh (colon ∷ ls) = omega arith
punctuate_few after_value (colon ∷ ls) = omega arith
punctuate_few after_comma (colon ∷ ls) = omega arith
punctuate_few after_key (colon ∷ ls) = omega (arith, punctuate_few fresh ls)

pub tokens_few : (text : List ℕ) → length (tokens text) ≤ suc (length text)
tokens_few text = let lexemes = lex_few between text in let all = punctuate_few fresh (lex between text) in omega (arith, lexemes, all)
