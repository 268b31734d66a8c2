-- Arguments never begin with the word that begins a handler.
use Rattle.std.proofs.Common.{◌≡◌, inl, inr, ℕ, ◌<◌, Bool, true, false, List, [], ◌∷◌, ◌++◌, length, Option, Some, None, Result, Ok, Err, refl, sym, ap, subst, ◌∙◌, arith}
use Rattle.std.specs.Str.{bytes_eq}
use lib.Chars.{codes}
use Rattle.std.proofs.lemmas.Slice.Eq.{bytes_eq-Decides}
use Rattle.plan_base.specs.declared.tree.Value.{Value}
use Rattle.plan_lexer.specs.declared.fault.LexFault.{LexFault}
use Rattle.plan_lexer.specs.declared.token.Token.{Token}
use Rattle.plan_lexer.specs.declared.token.TokenKind.{TokenKind}
use Rattle.plan_lexer.specs.declared.token.TokenKind.TheVariants as kinds
use Rattle.plan_lexer.specs.Scanning.{move_at, token_at, Toks, ends, skips, takes, IsAnswered}
use Rattle.plan_lexer.specs.Gaps.{gap_at}
use Rattle.plan_lexer.specs.Tables.{key_text, key_of}
use Rattle.plan_lexer.specs.WordTokens.{word_kind, word_at}
use Rattle.plan_lexer.proofs.LawLemmas.{tokens_or_refusal}
use Rattle.plan_parser_exprs.specs.Ahead.{next_kind, is_symbol, need_symbol}
use Rattle.plan_parser.specs.Values.{args_of}
use Rattle.program_text.specs.Texts.{args_by, args_in, args_of_text}
use Rattle.program_text.proofs.Scanning.{has_tokens, is_refused}
use Rattle.line_reader.specs.declared.fault.LineReason.{LineReason}
use Rattle.line_reader.specs.Lines.{words, spaced_words, behind}
use Rattle.line_reader.specs.Reads.{rest_at}
use Rattle.line_reader.specs.Handlers.{comes}
use Rattle.line_reader.proofs.Splits.{rest_all}

abbrev handler_word : List ℕ
handler_word = codes "handler"

-- ---- a text that begins with the word

abbrev moved_past : TokenKind → ℕ → Result (Option TokenKind × ℕ) LexFault
moved_past k next = Ok (Some k, next)

first_alone : move_at 0 handler_word ≡ moved_past (kinds.Word handler_word) 7
unfolding move_at gap_at token_at word_at word_kind key_of key_text
first_alone = refl

first_more : (more : List ℕ) → move_at 0 (handler_word ++ 32 ∷ more) ≡ moved_past (kinds.Word handler_word) 7
unfolding move_at gap_at token_at word_at word_kind key_of key_text
first_more more = refl

abbrev token : TokenKind → ℕ → ℕ → Token
token k from to = record { kind = k; start = from; stop = to }

-- tokens that begin with one of a kind
record Begun (k : TokenKind) (ts : List Token) : Type 0 where
  from : ℕ
  to : ℕ
  rest : List Token
  is : ts ≡ token k from to ∷ rest

-- the kind of a token that was read, else another
abbrev kind_by : Option TokenKind → TokenKind → TokenKind
kind_by (Some j) k = j
kind_by None k = k

abbrev kind_in : Result (Option TokenKind × ℕ) LexFault → TokenKind → TokenKind
kind_in (Ok m) k = kind_by m.0 k
kind_in (Err e) k = k

kind_is : (j k : TokenKind) (n m : ℕ) → moved_past j n ≡ moved_past k m → j ≡ k
kind_is j k n m e = ap (λ r. kind_in r k) e

-- no token was read
abbrev NoKind : Option TokenKind → Type 0
NoKind None = Unit {0}
NoKind (Some k) = ⊥

abbrev NoToken : Result (Option TokenKind × ℕ) LexFault → Type 0
NoToken (Ok m) = NoKind m.0
NoToken (Err e) = Unit {0}

first_of : (at : ℕ) (text : List ℕ) (ts : List Token) (k : TokenKind) (n : ℕ) → Toks at text ts → move_at at text ≡ moved_past k n → 0 < length text → Begun k ts
first_of _ _ _ k n (ends at) m some = absurd (omega (arith, some))
first_of _ _ _ k n (skips at text ts next long skipped h) m some = absurd (subst NoToken (sym skipped ∙ m) tt)
first_of _ _ _ k n (takes at text ts j next long taken h) m some = record {
  from = at;
  to = next;
  rest = ts;
  is = ap (λ (x : TokenKind). token x at next ∷ ts) (kind_is j k next n (sym taken ∙ m));
}

-- no arguments are tokens that begin with it
no_values : (from to : ℕ) (ts : List Token) (len : ℕ) → args_by (args_of (token (kinds.Word handler_word) from to ∷ ts) len) ≡ None
unfolding args_of need_symbol is_symbol next_kind
no_values from to ts len = refl

no_args : (text : List ℕ) (args : List Value) → 0 < length text → move_at 0 text ≡ moved_past (kinds.Word handler_word) 7 → args_of_text text ≡ Some args → ⊥
unfolding args_of_text
no_args text args some m e = by (tokens_or_refusal 0 text)
  where
    by : IsAnswered 0 text → ⊥
    by (inl (ts, h)) =
        let b = first_of 0 text ts (kinds.Word handler_word) 7 h m some in
        let none : args_by (args_of ts (length text)) ≡ None = ap (λ x. args_by (args_of x (length text))) b.is ∙ no_values b.from b.to b.rest (length text) in
        let both : Some args ≡ None = sym e ∙ (ap (λ r. args_in (length text) r) (has_tokens text ts h) ∙ none) in
        cc
    by (inr (f, h)) =
        let both : Some args ≡ None = sym e ∙ ap (λ r. args_in (length text) r) (is_refused text f h) in
        cc

-- ---- words

-- a line whose first word it is
begins : (w : List ℕ) (ws : List (List ℕ)) (text : List ℕ) (args : List Value) → w ≡ handler_word → spaced_words (w ∷ ws) ≡ text → args_of_text text ≡ Some args → ⊥
begins w [] text args same is e =
    let here : handler_word ≡ text = sym (ap (λ v. spaced_words (v ∷ [])) same) ∙ is in
    no_args text args (subst (λ t. 0 < length t) here (omega arith)) (subst (λ t. move_at 0 t ≡ moved_past (kinds.Word handler_word) 7) here first_alone) e
begins w (v ∷ vs) text args same is e =
    let here : handler_word ++ 32 ∷ (v ++ behind vs) ≡ text = sym (ap (λ u. spaced_words (u ∷ v ∷ vs)) same) ∙ is in
    no_args text args (subst (λ t. 0 < length t) here (omega arith)) (subst (λ t. move_at 0 t ≡ moved_past (kinds.Word handler_word) 7) here (first_more (v ++ behind vs))) e

comes_by : (t : Bool) (w : List ℕ) (ws : List (List ℕ)) (text : List ℕ) (args : List Value) → bytes_eq w handler_word ≡ t → spaced_words (w ∷ ws) ≡ text → args_of_text text ≡ Some args → t ≡ false
comes_by true w ws text args h is e = absurd (begins w ws text args ((bytes_eq-Decides w handler_word).0 h) is e)
comes_by false w ws text args h is e = refl

abbrev whole : List ℕ → Result (List ℕ) LineReason
whole text = Ok text

line_is : (xs ys : List ℕ) → whole xs ≡ whole ys → xs ≡ ys
line_is xs ys e = cc

comes_in : (ws : List (List ℕ)) (text : List ℕ) (args : List Value) → rest_at ws ≡ Ok text → args_of_text text ≡ Some args → comes handler_word ws ≡ false
comes_in [] text args h e = refl
comes_in (w ∷ ws) text args h e = comes_by (bytes_eq w handler_word) w ws text args refl (line_is (spaced_words (w ∷ ws)) text h) e

-- no text of arguments begins with it
pub not_handler : (text : List ℕ) (args : List Value) → args_of_text text ≡ Some args → comes handler_word (words text) ≡ false
not_handler text args e = comes_in (words text) text args (rest_all text) e
