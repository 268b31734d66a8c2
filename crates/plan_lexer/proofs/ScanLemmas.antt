-- On the tokens of a text and its first refusal.
use Rattle.std.proofs.Common.{◌≡◌, ℕ, ◌<◌, List, [], ◌∷◌, ◌++◌, length, Option, Some, None, Result, Ok, Err, refl, sym, ap, ◌∙◌, arith, append_assoc, append-nil, subst, ◌⊎◌, inl, inr, IsErrAnd, IfErr, MatchResult}
use Rattle.plan_lexer.specs.Faults.{Fails}
use Rattle.plan_lexer.specs.Scanning.{Toks, ends, skips, takes, Refuses, here, past, move_at, rest_at, with_move}
use Rattle.plan_lexer.specs.declared.token.Token.{Token}
use Rattle.plan_lexer.specs.declared.token.TokenKind.{TokenKind}
use Rattle.plan_lexer.specs.declared.fault.LexFault.{LexFault}
use Rattle.plan_lexer.specs.declared.fault.LexFault.TheVariants.{BadChar, OpenString, OpenComment, NumberTooLarge, LongName, NoMemory}

-- the tokens found so far come before those of the rest, and a refusal of the rest is the text's
pub record SoFar (text : List ℕ) (found : List Token) (at : ℕ) (rest : List ℕ) : Type 0 where
  pub ok : (ts : List Token) → Toks at rest ts → Toks 0 text (found ++ ts)
  pub err : (e : LexFault) → Refuses e at rest → Refuses e 0 text

pub begins : (text : List ℕ) (found : List Token) → found ≡ [] → SoFar text found 0 text
begins text found is = subst (λ ts. SoFar text ts 0 text) (sym is) (record { ok = λ ts h. h; err = λ e h. h })

by_move : (text : List ℕ) (found : List Token) (at : ℕ) (rest : List ℕ) (move : Option TokenKind) (next : ℕ) → SoFar text found at rest → 0 < length rest
    → move_at at rest ≡ Ok (move, next) → SoFar text (with_move found at move next) next (rest_at at rest next)
by_move text found at rest None next sofar some is = record {
  ok = λ ts h. sofar.ok ts (skips at rest ts next some is h);
  err = λ e h. sofar.err e (past at rest None next some is h);
}
by_move text found at rest (Some k) next sofar some is = record {
  ok = λ ts h. rw append_assoc (sofar.ok (record { kind = k; start = at; stop = next } ∷ ts) (takes at rest ts k next some is h));
  err = λ e h. sofar.err e (past at rest (Some k) next some is h);
}

pub move_scans : (text : List ℕ) (found : List Token) (at : ℕ) (rest : List ℕ) (move : Option TokenKind) (next : ℕ) (more : List Token) (left : List ℕ)
    → SoFar text found at rest → 0 < length rest → move_at at rest ≡ Ok (move, next) → more ≡ with_move found at move next → left ≡ rest_at at rest next → SoFar text more next left
move_scans text found at rest move next more left sofar some is more_is left_is =
    subst (λ ts. SoFar text ts next left) (sym more_is) (subst (λ bs. SoFar text (with_move found at move next) next bs) (sym left_is) (by_move text found at rest move next sofar some is))

pub refusal_stops : (text : List ℕ) (found : List Token) (at : ℕ) (rest : List ℕ) (e : LexFault) → SoFar text found at rest → 0 < length rest
    → Fails e (move_at at rest) → (e ≡ NoMemory) ⊎ Refuses e 0 text
refusal_stops text found at rest NoMemory sofar some is = inl refl
refusal_stops text found at rest (BadChar n) sofar some is = inr (sofar.err (BadChar n) (here at rest some is))
refusal_stops text found at rest (OpenString n) sofar some is = inr (sofar.err (OpenString n) (here at rest some is))
refusal_stops text found at rest (OpenComment n) sofar some is = inr (sofar.err (OpenComment n) (here at rest some is))
refusal_stops text found at rest (NumberTooLarge n) sofar some is = inr (sofar.err (NumberTooLarge n) (here at rest some is))
refusal_stops text found at rest (LongName n) sofar some is = inr (sofar.err (LongName n) (here at rest some is))

ends_at : (at : ℕ) (rest : List ℕ) → length rest ≡ 0 → Toks at rest []
ends_at at [] is = ends at
ends_at at (b ∷ more) is = absurd (omega arith)

pub whole : (text : List ℕ) (found : List Token) (at : ℕ) (rest : List ℕ) → SoFar text found at rest → length rest ≡ 0 → Toks 0 text found
whole text found at rest sofar is = rw append-nil at (sofar.ok [] (ends_at at rest is))

err_not_ok : {A : Type 0} (r : Result A LexFault) (e : LexFault) (x : A) → r ≡ Err e → r ≡ Ok x → ⊥
err_not_ok r e x p q = cc

-- what a list of tokens is behind the first move of its text
Follows : Option TokenKind → ℕ → ℕ → List ℕ → List Token → Type 0
Follows None at next rest us = Toks next rest us
Follows (Some k) at next rest us = (vs : List Token) × (us ≡ record { kind = k; start = at; stop = next } ∷ vs) × Toks next rest vs

follows_same : (at : ℕ) (text : List ℕ) (us : List Token) (m n : Option TokenKind × ℕ) → move_at at text ≡ Ok m → move_at at text ≡ Ok n
    → Follows m.0 at m.1 (rest_at at text m.1) us → Follows n.0 at n.1 (rest_at at text n.1) us
follows_same at text us m n p q h = let e : m ≡ n = cc in subst (λ x. Follows x.0 at x.1 (rest_at at text x.1) us) e h

Toks-move : (at : ℕ) (text : List ℕ) (us : List Token) → Toks at text us → 0 < length text → (m : Option TokenKind × ℕ) → move_at at text ≡ Ok m → Follows m.0 at m.1 (rest_at at text m.1) us
unfolding Follows
Toks-move _ _ _ (ends at) some m p = absurd (omega arith)
Toks-move _ _ _ (skips at text ts next s q h) some m p = follows_same at text ts (None, next) m q p h
Toks-move _ _ _ (takes at text ts k next s q h) some m p = follows_same at text (record { kind = k; start = at; stop = next } ∷ ts) (Some k, next) m q p (ts, refl, h)

pub Toks-nil : (at : ℕ) (text : List ℕ) (ts : List Token) → length text ≡ 0 → Toks at text ts → ts ≡ []
Toks-nil _ _ _ is (ends at) = refl
Toks-nil _ _ _ is (skips at text ts next some m h) = absurd (omega arith)
Toks-nil _ _ _ is (takes at text ts k next some m h) = absurd (omega arith)

-- a text has one list of tokens at most
pub Toks-unique : (at : ℕ) (text : List ℕ) (ts us : List Token) → Toks at text ts → Toks at text us → ts ≡ us
unfolding Follows
Toks-unique _ _ _ us (ends at) other = sym (Toks-nil at [] us refl other)
Toks-unique _ _ _ us (skips at text ts next some m h) other = Toks-unique next (rest_at at text next) ts us h (Toks-move at text us other some (None, next) m)
Toks-unique _ _ _ us (takes at text ts k next some m h) other =
    let f : Follows (Some k) at next (rest_at at text next) us = Toks-move at text us other some (Some k, next) m in
    ap (λ vs. record { kind = k; start = at; stop = next } ∷ vs) (Toks-unique next (rest_at at text next) ts f.0 h f.2) ∙ sym f.1

Refuses-some : (e : LexFault) (at : ℕ) (text : List ℕ) → Refuses e at text → 0 < length text
Refuses-some e _ _ (here at text some m) = some
Refuses-some e _ _ (past at text k next some m h) = some

Refuses-move : (e : LexFault) (at : ℕ) (text : List ℕ) → Refuses e at text → (m : Option TokenKind × ℕ) → move_at at text ≡ Ok m → Refuses e m.1 (rest_at at text m.1)
Refuses-move e _ _ (here at text some p) m q = absurd (err_not_ok (move_at at text) e m p q)
Refuses-move e _ _ (past at text k next some p h) m q = let same : (k, next) ≡ m = cc in subst (λ x. Refuses e x.1 (rest_at at text x.1)) same h

Refuses-here : (d e : LexFault) (at : ℕ) (text : List ℕ) → Refuses d at text → move_at at text ≡ Err e → d ≡ e
Refuses-here d e _ _ (here at text some p) q = cc
Refuses-here d e _ _ (past at text k next some p h) q = absurd (err_not_ok (move_at at text) e (k, next) q p)

-- a text with a list of tokens isn't refused
pub Toks-refused : (e : LexFault) (at : ℕ) (text : List ℕ) (ts : List Token) → Toks at text ts → Refuses e at text → ⊥
Toks-refused e _ _ _ (ends at) r = omega (arith, Refuses-some e at [] r)
Toks-refused e _ _ _ (skips at text ts next some m h) r = Toks-refused e next (rest_at at text next) ts h (Refuses-move e at text r (None, next) m)
Toks-refused e _ _ _ (takes at text ts k next some m h) r = Toks-refused e next (rest_at at text next) ts h (Refuses-move e at text r (Some k, next) m)

-- a text has one first refusal at most
pub Refuses-unique : (d e : LexFault) (at : ℕ) (text : List ℕ) → Refuses d at text → Refuses e at text → d ≡ e
Refuses-unique d e _ _ (here at text some p) other = sym (Refuses-here e d at text other p)
Refuses-unique d e _ _ (past at text k next some p h) other = Refuses-unique d e next (rest_at at text next) h (Refuses-move e at text other (k, next) p)

-- a call that fails to allocate or is refused by the text's first refusal keeps to the text's tokens
pub refused_only : (e : LexFault) (text : List ℕ) (ts : List Token) → (e ≡ NoMemory) ⊎ Refuses e 0 text → Toks 0 text ts → e ≡ NoMemory
refused_only e text ts (inl is) h = is
refused_only e text ts (inr r) h = absurd (Toks-refused e 0 text ts h r)

-- a refusal that is handed on keeps what is known of it
pub fault_by : {A : Type 0} (r : Result A LexFault) (e : LexFault) (text : List ℕ) → IsErrAnd r (λ d. d ≡ e) → (e ≡ NoMemory) ⊎ Refuses e 0 text
    → IfErr r (λ d. (d ≡ NoMemory) ⊎ Refuses d 0 text)
fault_by (Ok x) e text h p = tt
fault_by (Err d) e text h p = subst (λ d. (d ≡ NoMemory) ⊎ Refuses d 0 text) (sym h) p

pub only_by : (r : Result (List Token) LexFault) (e : LexFault) (text : List ℕ) → IsErrAnd r (λ d. d ≡ e) → (e ≡ NoMemory) ⊎ Refuses e 0 text
    → (ts : List Token) → Toks 0 text ts → MatchResult r (λ us. us ≡ ts) (λ d. d ≡ NoMemory)
only_by (Ok x) e text h p ts t = absurd h
only_by (Err d) e text h p ts t = h ∙ refused_only e text ts p t
