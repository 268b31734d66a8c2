-- On the tables of reserved words and symbols.
use Rattle.std.proofs.Common.{◌≡◌, ℕ, ◌≤◌, Bool, true, false, cond, ◌||◌, List, [], ◌∷◌, ◌++◌, length, Option, Some, None, map, refl, arith}
use Rattle.std.specs.List.{list_any, find}
use Rattle.std.specs.Str.{bytes_eq}
use Rattle.plan_base.specs.Words.{is_word, is_reserved, reserved_words}
use Rattle.plan_lexer.specs.Tables.{key_text, key_of, keys, symbol_text, symbol_at}
use Rattle.plan_lexer.specs.Scanning.{token_at, signed_at, symbol_by}
use Rattle.plan_lexer.specs.declared.token.Key.{Key}
use Rattle.plan_lexer.specs.declared.token.Key.TheVariants as key
use Rattle.plan_lexer.specs.declared.token.Symbol.{Symbol}
use Rattle.plan_lexer.specs.declared.token.Symbol.TheVariants as symbol

pub key_of-text : (k : Key) → key_of (key_text k) ≡ Some k
unfolding key_of key_text
key_of-text key.And = refl
key_of-text key.Blob = refl
key_of-text key.Bool = refl
key_of-text key.Char = refl
key_of-text key.Chunk = refl
key_of-text key.Dev = refl
key_of-text key.Else = refl
key_of-text key.End = refl
key_of-text key.Eval = refl
key_of-text key.Exception = refl
key_of-text key.False = refl
key_of-text key.Foldl = refl
key_of-text key.Foldr = refl
key_of-text key.Fun = refl
key_of-text key.Handle = refl
key_of-text key.Host = refl
key_of-text key.If = refl
key_of-text key.In = refl
key_of-text key.Int = refl
key_of-text key.Let = refl
key_of-text key.List = refl
key_of-text key.Mod = refl
key_of-text key.Not = refl
key_of-text key.OnNeighbor = refl
key_of-text key.OnRemote = refl
key_of-text key.Or = refl
key_of-text key.Raise = refl
key_of-text key.Str = refl
key_of-text key.Svc = refl
key_of-text key.Then = refl
key_of-text key.True = refl
key_of-text key.Try = refl
key_of-text key.Unit = refl
key_of-text key.Val = refl

pub is_word-key : (k : Key) → is_word (key_text k) ≡ true
unfolding is_word key_text
is_word-key key.And = refl
is_word-key key.Blob = refl
is_word-key key.Bool = refl
is_word-key key.Char = refl
is_word-key key.Chunk = refl
is_word-key key.Dev = refl
is_word-key key.Else = refl
is_word-key key.End = refl
is_word-key key.Eval = refl
is_word-key key.Exception = refl
is_word-key key.False = refl
is_word-key key.Foldl = refl
is_word-key key.Foldr = refl
is_word-key key.Fun = refl
is_word-key key.Handle = refl
is_word-key key.Host = refl
is_word-key key.If = refl
is_word-key key.In = refl
is_word-key key.Int = refl
is_word-key key.Let = refl
is_word-key key.List = refl
is_word-key key.Mod = refl
is_word-key key.Not = refl
is_word-key key.OnNeighbor = refl
is_word-key key.OnRemote = refl
is_word-key key.Or = refl
is_word-key key.Raise = refl
is_word-key key.Str = refl
is_word-key key.Svc = refl
is_word-key key.Then = refl
is_word-key key.True = refl
is_word-key key.Try = refl
is_word-key key.Unit = refl
is_word-key key.Val = refl

pub short_key : (k : Key) → length (key_text k) ≤ 32
unfolding key_text
short_key key.And = omega arith
short_key key.Blob = omega arith
short_key key.Bool = omega arith
short_key key.Char = omega arith
short_key key.Chunk = omega arith
short_key key.Dev = omega arith
short_key key.Else = omega arith
short_key key.End = omega arith
short_key key.Eval = omega arith
short_key key.Exception = omega arith
short_key key.False = omega arith
short_key key.Foldl = omega arith
short_key key.Foldr = omega arith
short_key key.Fun = omega arith
short_key key.Handle = omega arith
short_key key.Host = omega arith
short_key key.If = omega arith
short_key key.In = omega arith
short_key key.Int = omega arith
short_key key.Let = omega arith
short_key key.List = omega arith
short_key key.Mod = omega arith
short_key key.Not = omega arith
short_key key.OnNeighbor = omega arith
short_key key.OnRemote = omega arith
short_key key.Or = omega arith
short_key key.Raise = omega arith
short_key key.Str = omega arith
short_key key.Svc = omega arith
short_key key.Then = omega arith
short_key key.True = omega arith
short_key key.Try = omega arith
short_key key.Unit = omega arith
short_key key.Val = omega arith

-- a symbol begins with no byte that asks for another reading
pub symbol_first : (at : ℕ) (s : Symbol) (rest : List ℕ) → token_at at (symbol_text s ++ rest) ≡ symbol_by at (symbol_at (symbol_text s ++ rest))
unfolding token_at signed_at symbol_text
symbol_first at symbol.ParenOpen rest = refl
symbol_first at symbol.ParenClose rest = refl
symbol_first at symbol.BracketOpen rest = refl
symbol_first at symbol.BracketClose rest = refl
symbol_first at symbol.Comma rest = refl
symbol_first at symbol.Semicolon rest = refl
symbol_first at symbol.Colon rest = refl
symbol_first at symbol.DoubleColon rest = refl
symbol_first at symbol.Equal rest = refl
symbol_first at symbol.NotEqual rest = refl
symbol_first at symbol.Less rest = refl
symbol_first at symbol.LessEqual rest = refl
symbol_first at symbol.Greater rest = refl
symbol_first at symbol.GreaterEqual rest = refl
symbol_first at symbol.Plus rest = refl
symbol_first at symbol.Minus rest = refl
symbol_first at symbol.Star rest = refl
symbol_first at symbol.Slash rest = refl
symbol_first at symbol.Caret rest = refl
symbol_first at symbol.Arrow rest = refl
symbol_first at symbol.FatArrow rest = refl
symbol_first at symbol.Bar rest = refl
symbol_first at symbol.Underscore rest = refl

reserved_by : (b : Bool) (k : Key) (found : Option Key) (any : Bool) → (b || any) ≡ false → (any ≡ false → found ≡ None) → cond b (Some k) found ≡ None
reserved_by true k found any e h = absurd (true_false e)
  where
    true_false : true ≡ false → ⊥
    true_false e = cc
reserved_by false k found any e h = h e

not_any : (word : List ℕ) (ks : List Key) → list_any (λ r. bytes_eq r word) (map key_text ks) ≡ false → find (λ k. bytes_eq (key_text k) word) ks ≡ None
not_any word [] e = refl
not_any word (k ∷ ks) e = reserved_by (bytes_eq (key_text k) word) k (find (λ k. bytes_eq (key_text k) word) ks) (list_any (λ r. bytes_eq r word) (map key_text ks)) e (not_any word ks)

keys_reserved : (word : List ℕ) → list_any (λ r. bytes_eq r word) reserved_words ≡ false → list_any (λ r. bytes_eq r word) (map key_text keys) ≡ false
unfolding key_text
keys_reserved word e = e

-- a word that isn't reserved has no key
pub key_of-none : (word : List ℕ) → is_reserved word ≡ false → key_of word ≡ None
unfolding key_of is_reserved
key_of-none word e = not_any word keys (keys_reserved word e)
