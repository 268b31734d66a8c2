-- The laws of the longest match, and that each text has an answer.
use Rattle.std.proofs.Common.{◌≡◌, ℕ, zero, suc, ◌+◌, ◌-◌, ◌<◌, ◌≤◌, Bool, true, false, cond, List, [], ◌∷◌, ◌++◌, length, Option, Some, None, Result, Ok, Err, refl, sym, ap, ◌∙◌, subst, arith, length-drop, nat_lt, ◌⊎◌, inl, inr}
use Rattle.std.proofs.lemmas.Bool.Decides.{nat_tests}
use Rattle.plan_base.specs.Words.{is_word}
use Rattle.plan_base.proofs.WordLaws.{is_word_none}
use Rattle.plan_lexer.specs.Faults.{◌>>=◌}
use Rattle.plan_lexer.specs.Gaps.{gap_at}
use Rattle.plan_lexer.specs.Tables.{key_text}
use Rattle.plan_lexer.specs.Scanning.{token_at, move_at, rest_at, ends, skips, takes, here, past, IsAnswered}
use Rattle.plan_lexer.specs.TokenForms.{IsFront, Spells, name, key, int, negative, host, dev, part, char, string, blob, symbol, HasForm, TakesAtLeast}
use Rattle.plan_lexer.proofs.LongestLemmas.{form_least, symbol_some}
use Rattle.plan_lexer.proofs.FrontLemmas.{token_sound}
use Rattle.plan_lexer.proofs.SoundLemmas.{not_ok}
use Rattle.plan_lexer.proofs.SpellLemmas.{is_name_word}
use Rattle.plan_lexer.proofs.TableLemmas.{is_word-key}
use Rattle.plan_lexer.specs.declared.fault.LexFault.{LexFault}
use Rattle.plan_lexer.specs.declared.fault.LexFault.TheVariants.{LongName, NumberTooLarge}
use Rattle.plan_lexer.specs.declared.token.TokenKind.{TokenKind}

-- no longer prefix of the text has the form of a token
pub longest_read : (at : ℕ) (text : List ℕ) (k : TokenKind) (next : ℕ) → token_at at text ≡ Ok (k, next)
    → (longer rest : List ℕ) → text ≡ longer ++ rest → HasForm longer → at + length longer ≤ next
longest_read at text k next e longer rest is form =
    subst (TakesAtLeast at (length longer)) (ap (token_at at) (sym is) ∙ e) (form_least at longer rest form)

-- where the text begins with the form of a token, only its length or size is refused
pub form_refused : (at : ℕ) (text : List ℕ) (e : LexFault) → token_at at text ≡ Err e
    → (front rest : List ℕ) → text ≡ front ++ rest → HasForm front → (e ≡ LongName at) ⊎ (e ≡ NumberTooLarge at)
form_refused at text e r front rest is form =
    subst (TakesAtLeast at (length front)) (ap (token_at at) (sym is) ∙ r) (form_least at front rest form)

word_some : (w : List ℕ) → is_word w ≡ true → 0 < length w
word_some [] h = absurd (false_word (is_word_none [] (omega arith)) h)
  where
    false_word : is_word [] ≡ false → is_word [] ≡ true → ⊥
    false_word e h = cc
word_some (b ∷ bs) h = omega arith

pub spells_some : (k : TokenKind) (front : List ℕ) → Spells k front → 0 < length front
spells_some _ _ (name w h) = word_some w (is_name_word w h)
spells_some _ _ (key k) = word_some (key_text k) (is_word-key k)
spells_some _ _ (int ds h small) = h.some
spells_some _ _ (negative ds h small) = omega arith
spells_some _ _ (host ds h small) = omega arith
spells_some _ _ (dev ds h small) = omega arith
spells_some _ _ (part ds h one small) = omega arith
spells_some _ _ (char item c h) = omega arith
spells_some _ _ (string items bytes h) = omega arith
spells_some _ _ (blob pairs bytes h) = omega arith
spells_some _ _ (symbol s) = symbol_some s

-- what one move gave
abbrev moved_to : Option TokenKind → ℕ → Result (Option TokenKind × ℕ) LexFault
moved_to move next = Ok (move, next)

same_next : (r : Result (Option TokenKind × ℕ) LexFault) (m k : Option TokenKind) (next stop : ℕ) → moved_to m next ≡ moved_to k stop → next ≡ stop
same_next r m k next stop e = ap (λ r. place_of r) e
  where
    place_of : Result (Option TokenKind × ℕ) LexFault → ℕ
    place_of (Ok x) = x.1
    place_of (Err d) = 0

token_moves : (at : ℕ) (text : List ℕ) (r : Result (TokenKind × ℕ) LexFault) → token_at at text ≡ r → (move : Option TokenKind) (stop : ℕ)
    → (r >>= λ t. moved_to (Some t.0) t.1) ≡ moved_to move stop → at < stop
token_moves at text (Err d) e move stop h = absurd (not_ok d _ h)
token_moves at text (Ok t) e move stop h =
    let f = token_sound at text t.0 t.1 e in
    omega (arith, f.place, spells_some t.0 f.front f.spells, same_next (moved_to move stop) (Some t.0) move t.1 stop h)

gap_moves : (at : ℕ) (text : List ℕ) (g : Result ℕ LexFault) (move : Option TokenKind) (stop : ℕ)
    → (g >>= λ next. cond (nat_lt at next) (moved_to None next) (token_at at text >>= λ t. moved_to (Some t.0) t.1)) ≡ moved_to move stop → at < stop
gap_moves at text (Err d) move stop h = absurd (not_ok d _ h)
gap_moves at text (Ok next) move stop h = by_test (nat_lt at next) refl h
  where
    by_test : (t : Bool) → nat_lt at next ≡ t → cond t (moved_to None next) (token_at at text >>= λ t. moved_to (Some t.0) t.1) ≡ moved_to move stop → at < stop
    by_test true f g = let more : at < next = grind (arith, nat_tests) in omega (arith, more, same_next (moved_to move stop) None move next stop g)
    by_test false f g = token_moves at text (token_at at text) refl move stop g

-- each move goes on
pub move_goes : (at : ℕ) (text : List ℕ) (move : Option TokenKind) (stop : ℕ) → move_at at text ≡ moved_to move stop → at < stop
unfolding move_at
move_goes at text move stop e = gap_moves at text (gap_at at text) move stop e

answer_by : (at : ℕ) (text : List ℕ) (move : Option TokenKind) (next : ℕ) → 0 < length text → move_at at text ≡ moved_to move next → IsAnswered next (rest_at at text next) → IsAnswered at text
answer_by at text None next some e (inl t) = inl (t.0, skips at text t.0 next some e t.1)
answer_by at text (Some k) next some e (inl t) = inl (record { kind = k; start = at; stop = next } ∷ t.0, takes at text t.0 k next some e t.1)
answer_by at text move next some e (inr r) = inr (r.0, past at text move next some e r.1)

answer_step : (fuel : ℕ) → ((at : ℕ) (text : List ℕ) → length text ≤ fuel → IsAnswered at text) → (at : ℕ) (text : List ℕ) → 0 < length text → length text ≤ fuel + 1
    → (r : Result (Option TokenKind × ℕ) LexFault) → move_at at text ≡ r → IsAnswered at text
answer_step fuel ih at text some small (Err e) is = inr (e, here at text some is)
answer_step fuel ih at text some small (Ok m) is =
    let goes = move_goes at text m.0 m.1 is in
    answer_by at text m.0 m.1 some is (ih m.1 (rest_at at text m.1) (rw (length-drop (m.1 - at) text) (omega arith)))

answered_in : (fuel at : ℕ) (text : List ℕ) → length text ≤ fuel → IsAnswered at text
answered_in fuel at [] small = inl ([], ends at)
answered_in zero at (b ∷ more) small = absurd (omega arith)
answered_in (suc fuel) at (b ∷ more) small = answer_step fuel (answered_in fuel) at (b ∷ more) (omega arith) (omega arith) (move_at at (b ∷ more)) refl

-- each text has its tokens or a refusal
pub tokens_or_refusal : (at : ℕ) (text : List ℕ) → IsAnswered at text
tokens_or_refusal at text = answered_in (length text) at text (omega arith)

-- a token that was read
abbrev read_as : TokenKind → ℕ → Result (TokenKind × ℕ) LexFault
read_as k next = Ok (k, next)

kind_of : Result (Option TokenKind × ℕ) LexFault → Option TokenKind
kind_of (Ok x) = x.0
kind_of (Err d) = None

stop_of : Result (Option TokenKind × ℕ) LexFault → ℕ
stop_of (Ok x) = x.1
stop_of (Err d) = 0

gap_token : (next : ℕ) (k : TokenKind) (stop : ℕ) → moved_to None next ≡ moved_to (Some k) stop → ⊥
unfolding kind_of
gap_token next k stop e = let f : None ≡ Some k = ap kind_of e in cc

some_kind : (r : Result (TokenKind × ℕ) LexFault) (k : TokenKind) (stop : ℕ) → (r >>= λ t. moved_to (Some t.0) t.1) ≡ moved_to (Some k) stop → r ≡ read_as k stop
unfolding kind_of stop_of
some_kind (Err d) k stop e = absurd (not_ok d _ e)
some_kind (Ok t) k stop e =
    let f : Some t.0 ≡ Some k = ap kind_of e in let g : t.0 ≡ k = cc in
    ap (λ v. read_as v t.1) g ∙ ap (λ n. read_as k n) (ap stop_of e)

-- a token that a move gives was read
token_by : (at : ℕ) (text : List ℕ) (g : Result ℕ LexFault) (k : TokenKind) (stop : ℕ)
    → (g >>= λ next. cond (nat_lt at next) (moved_to None next) (token_at at text >>= λ t. moved_to (Some t.0) t.1)) ≡ moved_to (Some k) stop → token_at at text ≡ read_as k stop
token_by at text (Err d) k stop e = absurd (not_ok d _ e)
token_by at text (Ok next) k stop e = by_test (nat_lt at next) e
  where
    by_test : (t : Bool) → cond t (moved_to None next) (token_at at text >>= λ t. moved_to (Some t.0) t.1) ≡ moved_to (Some k) stop → token_at at text ≡ read_as k stop
    by_test true f = absurd (gap_token next k stop f)
    by_test false f = some_kind (token_at at text) k stop f

pub token_front : (at : ℕ) (text : List ℕ) (k : TokenKind) (next : ℕ) → move_at at text ≡ moved_to (Some k) next → IsFront text at k next
unfolding move_at
token_front at text k next e = token_sound at text k next (token_by at text (gap_at at text) k next e)
