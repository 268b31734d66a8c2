-- The texts between the parts of a printed form, as their tokens.
use Rattle.std.proofs.Common.{◌≡◌, ℕ, ◌<◌, ◌≤◌, ◌^◌, ◌==◌, Bool, true, false, List, [], ◌∷◌, ◌++◌, get_or, Some, ℤ, FitsSigned, w64, refl, sym, ◌∙◌, subst, arith, append-nil}
use Rattle.std.specs.Prelude.{codes}
use Rattle.std.specs.Char.{is_ascii_digit, is_ascii_alphabetic, IsScalar}
use Rattle.std.specs.List.{list_all}
use Rattle.std.specs.Str.{IsUtf8}
use Rattle.std.proofs.lemmas.Bool.Decides.{nat_tests}
use Rattle.containers.proofs.Bools.{and_left}
use Rattle.plan_base.specs.Words.{is_word_byte, is_word, IsName}
use Rattle.plan_base.specs.declared.tree.Op.{Op}
use Rattle.plan_base.specs.declared.tree.Op.TheVariants as op
use Rattle.plan_lexer.specs.Tables.{key_text, symbol_text, symbol_at}
use Rattle.plan_lexer.specs.TokenForms.{IsDigits, Spells, name, key, int, negative, host, dev, part, char, string, blob, symbol, EndsBefore}
use Rattle.plan_printer_spec.specs.Literals.{int_text, host_text, dev_text, part_text, char_text, string_text, blob_text}
use Rattle.plan_lexer.specs.declared.token.Key.{Key}
use Rattle.plan_lexer.specs.declared.token.Key.TheVariants as keys
use Rattle.plan_lexer.specs.declared.token.Symbol.{Symbol}
use Rattle.plan_lexer.specs.declared.token.Symbol.TheVariants as symbols
use Rattle.plan_lexer.specs.declared.token.TokenKind.{TokenKind}
use Rattle.plan_lexer.specs.declared.token.TokenKind.TheVariants as kind
use Rattle.plan_lexer.proofs.PrintLemmas.{spells_int, spells_host, spells_dev, spells_part, spells_char, spells_string, spells_blob}
use Rattle.plan_lexer.proofs.SpellLemmas.{is_name_word, digits_first}
use Rattle.plan_lexer.proofs.TableLemmas.{is_word-key}
use Rattle.plan_base.proofs.WordLaws.{is_word_none, is_word_cons}
use Rattle.plan_printer_spec.specs.Pieces.{scalar_text}
use Rattle.plan_printer_spec.specs.Printed.{bool_text, op_text}
use Rattle.program_text_laws.specs.PrintedTokens.{word, mark, bool_kinds, op_kinds}
use Rattle.top_laws.proofs.Segments.{begins, calm, anything, is_solid, Part, ◌>>◌, token_part, open_part, blank_part, line_part}

-- the same segment by another spelling of its text and its tokens
pub is_text : {f t : ℕ → Bool} {a b : List ℕ} {k l : List TokenKind} → Part f t a k → a ≡ b → k ≡ l → Part f t b l
is_text {f = f} {t = t} {a = a} {b = b} {k = k} {l = l} P e g = subst (λ m. Part f t b m) g (subst (λ s. Part f t s k) e P)

-- ---- words and literals

-- what a byte that begins a token of letters, digits or quotes is
record IsFirst (b : ℕ) : Type 0 where
  solid : is_solid b ≡ true
  begin : begins b ≡ true

letter_first : (b : ℕ) → is_ascii_alphabetic b ≡ true → IsFirst b
letter_first b h = record { solid = grind (arith, nat_tests); begin = grind (arith, nat_tests) }

digit_first : (b : ℕ) → is_ascii_digit b ≡ true → IsFirst b
digit_first b h = record { solid = grind (arith, nat_tests); begin = grind (arith, nat_tests) }

word_first : (w : List ℕ) → is_word w ≡ true → IsFirst (get_or w 0 0)
word_first [] h = let e = sym (is_word_none [] (omega arith)) ∙ h in absurd (cc)
word_first (b ∷ bs) h = letter_first b (and_left (is_ascii_alphabetic b) (list_all is_word_byte bs) (sym (is_word_cons b bs) ∙ h))

sign_first : (b : ℕ) → is_solid b ≡ true → begins b ≡ true → IsFirst b
sign_first b s e = record { solid = s; begin = e }

digits_begin : (ds : List ℕ) → IsDigits ds → IsFirst (get_or ds 0 0)
digits_begin ds h = digit_first (get_or ds 0 0) (subst (λ s. is_ascii_digit (get_or s 0 0) ≡ true) (append-nil ds) (digits_first ds [] h))

abbrev IsLiteral : TokenKind → Type 0
IsLiteral (kind.Symbol s) = ⊥
IsLiteral _ = Unit {0}

literal_first : (k : TokenKind) (front : List ℕ) → Spells k front → IsLiteral k → IsFirst (get_or front 0 0)
literal_first _ _ (name w h) l = word_first w (is_name_word w h)
literal_first _ _ (key k) l = word_first (key_text k) (is_word-key k)
literal_first _ _ (int ds h small) l = digits_begin ds h
literal_first _ _ (negative ds h small) l = sign_first 126 refl refl
literal_first _ _ (host ds h small) l = sign_first 64 refl refl
literal_first _ _ (dev ds h small) l = sign_first 37 refl refl
literal_first _ _ (part ds h one small) l = sign_first 35 refl refl
literal_first _ _ (char item c h) l = sign_first 39 refl refl
literal_first _ _ (string items bytes h) l = sign_first 34 refl refl
literal_first _ _ (blob pairs bytes h) l = sign_first 35 refl refl
literal_first _ _ (symbol s) l = absurd l

no_word : (b : ℕ) → calm b ≡ true → is_word_byte b ≡ false
no_word b h = grind (arith, nat_tests)

no_digit : (b : ℕ) → calm b ≡ true → is_ascii_digit b ≡ false
no_digit b h = grind (arith, nat_tests)

-- a literal, a name or a reserved word ends before what is calm
ends_calm : (k : TokenKind) (rest : List ℕ) → IsLiteral k → calm (get_or rest 0 0) ≡ true → EndsBefore k rest
ends_calm (kind.Word w) rest l h = no_word (get_or rest 0 0) h
ends_calm (kind.Key k) rest l h = no_word (get_or rest 0 0) h
ends_calm (kind.Int z) rest l h = no_digit (get_or rest 0 0) h
ends_calm (kind.Host n) rest l h = no_digit (get_or rest 0 0) h
ends_calm (kind.Dev n) rest l h = no_digit (get_or rest 0 0) h
ends_calm (kind.Part n) rest l h = no_digit (get_or rest 0 0) h
ends_calm (kind.Char c) rest l h = tt
ends_calm (kind.Str bytes) rest l h = tt
ends_calm (kind.Blob bytes) rest l h = tt
ends_calm (kind.Symbol s) rest l h = absurd l

literal_part : (k : TokenKind) (front : List ℕ) → Spells k front → IsLiteral k → Part begins calm front (k ∷ [])
literal_part k front s l = let f = literal_first k front s l in token_part k front s f.solid f.begin (λ rest h. ends_calm k rest l h)

pub name_part : (x : List ℕ) → IsName x → Part begins calm x (kind.Word x ∷ [])
name_part x h = literal_part (kind.Word x) x (name x h) tt

pub key_part : (k : Key) → Part begins calm (key_text k) (word k)
key_part k = literal_part (kind.Key k) (key_text k) (key k) tt

pub int_part : (z : ℤ) → FitsSigned w64 z → Part begins calm (int_text z) (kind.Int z ∷ [])
int_part z h = literal_part (kind.Int z) (int_text z) (spells_int z h) tt

pub host_part : (n : ℕ) → n < 2 ^ 32 → Part begins calm (host_text n) (kind.Host n ∷ [])
host_part n h = literal_part (kind.Host n) (host_text n) (spells_host n h) tt

pub dev_part : (n : ℕ) → n < 2 ^ 32 → Part begins calm (dev_text n) (kind.Dev n ∷ [])
dev_part n h = literal_part (kind.Dev n) (dev_text n) (spells_dev n h) tt

pub pick_part : (n : ℕ) → 1 ≤ n → n ≤ 8 → Part begins calm (part_text n) (kind.Part n ∷ [])
pick_part n g h = literal_part (kind.Part n) (part_text n) (spells_part n g h) tt

scalar_is : (c : ℕ) → IsScalar c → char_text c ≡ scalar_text c
unfolding scalar_text
scalar_is c h = rw h refl

pub char_part : (c : ℕ) → IsScalar c → Part begins calm (scalar_text c) (kind.Char c ∷ [])
char_part c h = is_text (literal_part (kind.Char c) (char_text c) (spells_char c h) tt) (scalar_is c h) refl

pub string_part : (bytes : List ℕ) → IsUtf8 bytes → Part begins calm (string_text bytes) (kind.Str bytes ∷ [])
string_part bytes h = literal_part (kind.Str bytes) (string_text bytes) (spells_string bytes h) tt

pub blob_part : (bytes : List ℕ) → ((i : ℕ) → get_or bytes i 0 < 256) → Part begins calm (blob_text bytes) (kind.Blob bytes ∷ [])
blob_part bytes h = literal_part (kind.Blob bytes) (blob_text bytes) (spells_blob bytes h) tt

pub bool_part : (b : Bool) → Part begins calm (bool_text b) (bool_kinds b)
unfolding key_text
bool_part true = is_text (key_part keys.True) refl refl
bool_part false = is_text (key_part keys.False) refl refl

-- ---- symbols

-- a blank
abbrev pub is_space : ℕ → Bool
is_space b = b == 32

-- a symbol that no further byte makes longer
abbrev IsWhole : Symbol → Type 0
IsWhole s = (rest : List ℕ) → symbol_at (symbol_text s ++ rest) ≡ Some s

whole_part : {f t : ℕ → Bool} (s : Symbol) → is_solid (get_or (symbol_text s) 0 0) ≡ true → f (get_or (symbol_text s) 0 0) ≡ true → IsWhole s → Part f t (symbol_text s) (mark s)
whole_part s solid e w = token_part (kind.Symbol s) (symbol_text s) (symbol s) solid e (λ rest h. w rest)

before_blank : (s : Symbol) (bs : List ℕ) → symbol_at (symbol_text s ++ 32 ∷ bs) ≡ Some s
unfolding symbol_at symbol_text
before_blank symbols.ParenOpen bs = refl
before_blank symbols.ParenClose bs = refl
before_blank symbols.BracketOpen bs = refl
before_blank symbols.BracketClose bs = refl
before_blank symbols.Comma bs = refl
before_blank symbols.Semicolon bs = refl
before_blank symbols.Colon bs = refl
before_blank symbols.DoubleColon bs = refl
before_blank symbols.Equal bs = refl
before_blank symbols.NotEqual bs = refl
before_blank symbols.Less bs = refl
before_blank symbols.LessEqual bs = refl
before_blank symbols.Greater bs = refl
before_blank symbols.GreaterEqual bs = refl
before_blank symbols.Plus bs = refl
before_blank symbols.Minus bs = refl
before_blank symbols.Star bs = refl
before_blank symbols.Slash bs = refl
before_blank symbols.Caret bs = refl
before_blank symbols.Arrow bs = refl
before_blank symbols.FatArrow bs = refl
before_blank symbols.Bar bs = refl
before_blank symbols.Underscore bs = refl

blank_first : (b : ℕ) → (b == 32) ≡ true → b ≡ 32
blank_first b h = grind (arith, nat_tests)

before_spaced : (s : Symbol) (rest : List ℕ) → is_space (get_or rest 0 0) ≡ true → symbol_at (symbol_text s ++ rest) ≡ Some s
before_spaced s [] h = absurd (cc)
before_spaced s (b ∷ bs) h = subst (λ c. symbol_at (symbol_text s ++ c ∷ bs) ≡ Some s) (sym (blank_first b h)) (before_blank s bs)

-- a symbol with a blank behind it
pub spaced_part : {f : ℕ → Bool} (s : Symbol) → is_solid (get_or (symbol_text s) 0 0) ≡ true → f (get_or (symbol_text s) 0 0) ≡ true → Part f is_space (symbol_text s) (mark s)
spaced_part s solid e = token_part (kind.Symbol s) (symbol_text s) (symbol s) solid e (λ rest h. before_spaced s rest h)

colon_whole : (rest : List ℕ) → begins (get_or rest 0 0) ≡ true → symbol_at (symbol_text symbols.Colon ++ rest) ≡ Some symbols.Colon
unfolding symbol_at symbol_text
colon_whole [] h = refl
colon_whole (b ∷ bs) h = grind (arith, nat_tests)

pub colon_part : {f : ℕ → Bool} → f 58 ≡ true → Part f begins (codes ":") (mark symbols.Colon)
unfolding symbol_text
colon_part {f = f} e = token_part (kind.Symbol symbols.Colon) (symbol_text symbols.Colon) (symbol symbols.Colon) refl e colon_whole

pub paren_part : {f : ℕ → Bool} → f 40 ≡ true → Part f begins (codes "(") (mark symbols.ParenOpen)
unfolding symbol_text symbol_at
paren_part e = open_part (kind.Symbol symbols.ParenOpen) e (symbol symbols.ParenOpen) (λ rest. refl)

pub close_part : {f t : ℕ → Bool} → f 41 ≡ true → Part f t (codes ")") (mark symbols.ParenClose)
unfolding symbol_text symbol_at
close_part e = whole_part symbols.ParenClose refl e (λ rest. refl)

pub square_part : {f t : ℕ → Bool} → f 91 ≡ true → Part f t (codes "[") (mark symbols.BracketOpen)
unfolding symbol_text symbol_at
square_part e = whole_part symbols.BracketOpen refl e (λ rest. refl)

pub unsquare_part : {f t : ℕ → Bool} → f 93 ≡ true → Part f t (codes "]") (mark symbols.BracketClose)
unfolding symbol_text symbol_at
unsquare_part e = whole_part symbols.BracketClose refl e (λ rest. refl)

pub comma_part : {f t : ℕ → Bool} → f 44 ≡ true → Part f t (codes ",") (mark symbols.Comma)
unfolding symbol_text symbol_at
comma_part e = whole_part symbols.Comma refl e (λ rest. refl)

pub semicolon_part : {f t : ℕ → Bool} → f 59 ≡ true → Part f t (codes ";") (mark symbols.Semicolon)
unfolding symbol_text symbol_at
semicolon_part e = whole_part symbols.Semicolon refl e (λ rest. refl)

pub bar_part : {f t : ℕ → Bool} → f 124 ≡ true → Part f t (codes "|") (mark symbols.Bar)
unfolding symbol_text symbol_at
bar_part e = whole_part symbols.Bar refl e (λ rest. refl)

pub under_part : {f t : ℕ → Bool} → f 95 ≡ true → Part f t (codes "_") (mark symbols.Underscore)
unfolding symbol_text symbol_at
under_part e = whole_part symbols.Underscore refl e (λ rest. refl)

-- an operator between blanks
pub op_glue : (o : Op) → Part calm begins (codes " " ++ op_text o ++ codes " ") (op_kinds o)
unfolding op_text op_kinds symbol_text key_text
op_glue op.Add = is_text (blank_part refl >> spaced_part {f = anything} symbols.Plus refl refl >> blank_part refl) refl refl
op_glue op.Sub = is_text (blank_part refl >> spaced_part {f = anything} symbols.Minus refl refl >> blank_part refl) refl refl
op_glue op.Mul = is_text (blank_part refl >> spaced_part {f = anything} symbols.Star refl refl >> blank_part refl) refl refl
op_glue op.Div = is_text (blank_part refl >> spaced_part {f = anything} symbols.Slash refl refl >> blank_part refl) refl refl
op_glue op.Cat = is_text (blank_part refl >> spaced_part {f = anything} symbols.Caret refl refl >> blank_part refl) refl refl
op_glue op.Eq = is_text (blank_part refl >> spaced_part {f = anything} symbols.Equal refl refl >> blank_part refl) refl refl
op_glue op.Ne = is_text (blank_part refl >> spaced_part {f = anything} symbols.NotEqual refl refl >> blank_part refl) refl refl
op_glue op.Lt = is_text (blank_part refl >> spaced_part {f = anything} symbols.Less refl refl >> blank_part refl) refl refl
op_glue op.Le = is_text (blank_part refl >> spaced_part {f = anything} symbols.LessEqual refl refl >> blank_part refl) refl refl
op_glue op.Gt = is_text (blank_part refl >> spaced_part {f = anything} symbols.Greater refl refl >> blank_part refl) refl refl
op_glue op.Ge = is_text (blank_part refl >> spaced_part {f = anything} symbols.GreaterEqual refl refl >> blank_part refl) refl refl
op_glue op.Cons = is_text (blank_part refl >> spaced_part {f = anything} symbols.DoubleColon refl refl >> blank_part refl) refl refl
op_glue op.Mod = is_text (blank_part refl >> key_part keys.Mod >> blank_part refl) refl refl

-- a segment with a blank behind it
pub then_blank : {f t : ℕ → Bool} {text : List ℕ} {kinds : List TokenKind} → Part f calm text kinds → Part f t (text ++ codes " ") kinds
then_blank {kinds = kinds} P = is_text (P >> blank_part refl) refl (append-nil kinds)

-- a segment at the end of a line
pub then_line : {f t : ℕ → Bool} {text : List ℕ} {kinds : List TokenKind} → Part f calm text kinds → Part f t (text ++ 10 ∷ []) kinds
then_line {kinds = kinds} P = is_text (P >> line_part refl) refl (append-nil kinds)
