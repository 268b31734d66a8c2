-- No reading of a token is refused by running out of memory.
use Rattle.std.proofs.Common.{◌≡◌, ◌≢◌, ℕ, ◌+◌, Bool, true, false, List, ◌∷◌, length, get_or, drop, take, Option, Some, None, Result, Ok, Err, nat_lt, ◌==◌, ◌&&◌, subst, sym, ap, ◌∙◌, refl}
use Rattle.std.specs.Prelude.{if◌then◌else◌}
use Rattle.std.specs.Char.{is_ascii_digit, is_ascii_alphabetic}
use Rattle.plan_lexer.specs.Faults.{◌>>=◌}
use Rattle.plan_lexer.specs.Numerals.{number_at, number_behind, number_of, digits_len}
use Rattle.plan_lexer.specs.Quoted.{string_at, char_at}
use Rattle.plan_lexer.specs.Hexed.{blob_at}
use Rattle.plan_lexer.specs.Gaps.{is_blank, comment_at, gap_at}
use Rattle.plan_lexer.specs.Tables.{symbol_at}
use Rattle.plan_lexer.specs.WordTokens.{word_len, word_at}
use Rattle.plan_lexer.specs.Scanning.{int_at, negative_at, host_at, dev_at, part_at, hash_at, symbol_by, signed_at, token_at, move_at, Refuses, here, past}
use Rattle.plan_lexer.specs.declared.token.Symbol.{Symbol}
use Rattle.plan_lexer.specs.declared.token.TokenKind.TheVariants as kind
use Rattle.plan_lexer.specs.declared.fault.LexFault.{LexFault}
use Rattle.plan_lexer.specs.declared.fault.LexFault.TheVariants.{BadChar, OpenString, OpenComment, NumberTooLarge, LongName, NoMemory}
use Rattle.plan_parser_laws.specs.Faulty.{StringFault, open_string, wrong_item, CharFault, BlobFault, open_blob, open_half, no_digit, no_second}
use Rattle.plan_parser_laws.specs.Comments.{Unclosed}
use Rattle.plan_parser_laws.proofs.Moves.{string_move, char_move, blob_move, comment_move, err_moved, after_comment}
use Rattle.plan_parser_laws.proofs.Quotes.{strings, chars}
use Rattle.plan_parser_laws.proofs.Blobs.{blobs}
use Rattle.plan_parser_laws.proofs.Nested.{refused_where_unclosed}

-- what is read, or refused for a reason of the text's own
Own : {A : Type 0} → Result A LexFault → Type 0
Own (Ok a) = Unit {0}
Own (Err e) = e ≢ NoMemory

fine : (A : Type 0) (a : A) → Own (Ok a)
unfolding Own
fine A a = tt

bad_char : (A : Type 0) (at : ℕ) → Own {A = A} (Err (BadChar at))
unfolding Own
bad_char A at = λ h. cc

too_large : (A : Type 0) (at : ℕ) → Own {A = A} (Err (NumberTooLarge at))
unfolding Own
too_large A at = λ h. cc

long_name : (A : Type 0) (at : ℕ) → Own {A = A} (Err (LongName at))
unfolding Own
long_name A at = λ h. cc

then_own : {A B : Type 0} (r : Result A LexFault) (k : A → Result B LexFault) → Own r → ((a : A) → Own (k a)) → Own (r >>= k)
unfolding Own
then_own (Ok a) k h n = n a
then_own (Err e) k h n = h

either : {A : Type 0} (b : Bool) (p q : Result A LexFault) → Own p → Own q → Own (if b then p else q)
either true p q h k = h
either false p q h k = k

number_own : (at most : ℕ) (text : List ℕ) → Own (number_at at most text)
unfolding number_at
number_own at most text = either (nat_lt most (number_of (take (digits_len text) text))) _ _ (too_large _ at) (fine _ _)

behind_own : (at most : ℕ) (text : List ℕ) → Own (number_behind at most text)
unfolding number_behind
behind_own at most text = either (digits_len text == 0) _ _ (bad_char _ at) (number_own at most text)

own_by : {A : Type 0} (r : Result A LexFault) → ((e : LexFault) → r ≡ Err e → e ≢ NoMemory) → Own r
unfolding Own
own_by (Ok a) h = tt
own_by (Err e) h = h e refl

-- ---- what quotes and comments begin, by the written forms of their faults

string_own : (at : ℕ) (text : List ℕ) → Own (string_at at text)
string_own at text = own_by (string_at at text) (λ e h. own e ((strings at text e).0 (string_move at text ∙ err_moved kind.Str (string_at at text) e h)))
  where
    own : (e : LexFault) → StringFault e at (at + 1) text → e ≢ NoMemory
    own e (open_string items bytes rest is s ends q) = λ h. let z : OpenString at ≡ NoMemory = sym q ∙ h in cc
    own e (wrong_item items bytes rest is s none q) = λ h. let z : BadChar (at + 1 + length items) ≡ NoMemory = sym q ∙ h in cc

char_own : (at : ℕ) (text : List ℕ) → Own (char_at at text)
char_own at text = own_by (char_at at text) (λ e h. own e ((chars at text e).0 (char_move at text ∙ err_moved kind.Char (char_at at text) e h)))
  where
    own : (e : LexFault) → CharFault e at text → e ≢ NoMemory
    own e f = λ h. let z : BadChar at ≡ NoMemory = sym f.is ∙ h in cc

blob_own : (at : ℕ) (text : List ℕ) → Own (blob_at at text)
blob_own at text = own_by (blob_at at text) (λ e h. own e ((blobs at text e).0 (blob_move at text ∙ err_moved kind.Blob (blob_at at text) e h)))
  where
    own : (e : LexFault) → BlobFault e at (at + 2) text → e ≢ NoMemory
    own e (open_blob pairs bytes rest is s ends q) = λ h. let z : OpenString at ≡ NoMemory = sym q ∙ h in cc
    own e (open_half pairs bytes rest h high is s v ends q) = λ k. let z : OpenString at ≡ NoMemory = sym q ∙ k in cc
    own e (no_digit pairs bytes more b is s m n v q) = λ h. let z : BadChar (at + 2 + length pairs) ≡ NoMemory = sym q ∙ h in cc
    own e (no_second pairs bytes more h high b is s v m n q) = λ k. let z : BadChar (at + 2 + length pairs + 1) ≡ NoMemory = sym q ∙ k in cc

comment_own : (at : ℕ) (text : List ℕ) → Own (comment_at at text)
comment_own at text = own_by (comment_at at text) (λ e h. own e ((refused_where_unclosed at text e).0 (comment_move at text ∙ ap (λ r. r >>= after_comment at text) h)))
  where
    own : (e : LexFault) → Unclosed e at (40 ∷ 42 ∷ text) → e ≢ NoMemory
    own e u = λ h. let z : OpenComment at ≡ NoMemory = sym u.is ∙ h in cc

-- ---- any move

gap_own : (at : ℕ) (text : List ℕ) → Own (gap_at at text)
unfolding gap_at
gap_own at text =
    either (is_blank (get_or text 0 0)) _ _ (fine _ _)
    (either ((get_or text 0 0 == 40) && (get_or text 1 0 == 42)) _ _ (comment_own at (drop 2 text)) (fine _ _))

symbol_own : (at : ℕ) (o : Option Symbol) → Own (symbol_by at o)
symbol_own at (Some s) = fine _ _
symbol_own at None = bad_char _ at

word_own : (at : ℕ) (text : List ℕ) → Own (word_at at text)
unfolding word_at
word_own at text = either (nat_lt 32 (word_len text)) _ _ (long_name _ at) (fine _ _)

part_own : (at : ℕ) (text : List ℕ) → Own (part_at at text)
unfolding part_at
part_own at text = then_own (number_behind at 8 text) _ (behind_own at 8 text) (λ n. either (n.0 == 0) _ _ (too_large _ at) (fine _ _))

hash_own : (at : ℕ) (text : List ℕ) → Own (hash_at at text)
unfolding hash_at
hash_own at text = either (get_or text 0 0 == 34) _ _ (then_own (blob_at at (drop 1 text)) _ (blob_own at (drop 1 text)) (λ b. fine _ _)) (part_own at text)

signed_own : (at : ℕ) (text : List ℕ) → Own (signed_at at text)
unfolding signed_at negative_at host_at dev_at
signed_own at text =
    either (get_or text 0 0 == 126) _ _ (then_own (number_behind at 0x8000_0000_0000_0000 (drop 1 text)) _ (behind_own at 0x8000_0000_0000_0000 (drop 1 text)) (λ n. fine _ _))
    (either (get_or text 0 0 == 64) _ _ (then_own (number_behind at 0xffff_ffff (drop 1 text)) _ (behind_own at 0xffff_ffff (drop 1 text)) (λ n. fine _ _))
    (either (get_or text 0 0 == 37) _ _ (then_own (number_behind at 0xffff_ffff (drop 1 text)) _ (behind_own at 0xffff_ffff (drop 1 text)) (λ n. fine _ _))
    (either (get_or text 0 0 == 35) _ _ (hash_own at (drop 1 text)) (symbol_own at (symbol_at text)))))

token_own : (at : ℕ) (text : List ℕ) → Own (token_at at text)
unfolding token_at int_at
token_own at text =
    either (is_ascii_alphabetic (get_or text 0 0)) _ _ (word_own at text)
    (either (is_ascii_digit (get_or text 0 0)) _ _ (then_own (number_at at 0x7fff_ffff_ffff_ffff text) _ (number_own at 0x7fff_ffff_ffff_ffff text) (λ n. fine _ _))
    (either (get_or text 0 0 == 34) _ _ (then_own (string_at at (drop 1 text)) _ (string_own at (drop 1 text)) (λ s. fine _ _))
    (either (get_or text 0 0 == 39) _ _ (then_own (char_at at (drop 1 text)) _ (char_own at (drop 1 text)) (λ s. fine _ _)) (signed_own at text))))

move_own : (at : ℕ) (text : List ℕ) → Own (move_at at text)
unfolding move_at
move_own at text =
    then_own (gap_at at text) _ (gap_own at text) (λ next. either (nat_lt at next) _ _ (fine _ _) (then_own (token_at at text) _ (token_own at text) (λ t. fine _ _)))

own_err : {A : Type 0} (r : Result A LexFault) (e : LexFault) → r ≡ Err e → Own r → e ≢ NoMemory
unfolding Own
own_err r e h o = subst Own h o

pub refused_own : (e : LexFault) (at : ℕ) (text : List ℕ) → Refuses e at text → e ≢ NoMemory
refused_own e _ _ (here at text some r) = own_err (move_at at text) e r (move_own at text)
refused_own e _ _ (past at text move next some r more) = refused_own e next _ more
