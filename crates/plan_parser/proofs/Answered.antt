-- From what a reading gives to the clauses of the calls that answer it.
use Rattle.std.proofs.Common.{◌≡◌, ◌≢◌, ℕ, List, length, Result, Ok, Err, refl, sym, ap, ◌∙◌, subst, ◌⊎◌, inl, inr}
use Rattle.std.specs.Prelude.{IfOk, IfErr, MatchResult, IsErrAnd}
use Rattle.plan_lexer.specs.Scanning.{Toks, Refuses}
use Rattle.plan_lexer.proofs.ScanLemmas.{Toks-unique, refused_only}
use Rattle.plan_lexer.specs.declared.token.Token.{Token}
use Rattle.plan_lexer.specs.declared.fault.LexFault.{LexFault}
use Rattle.plan_lexer.specs.declared.fault.LexFault.TheVariants as lexing
use Rattle.plan_parser_exprs.specs.declared.fault.ParseFault.{ParseFault}
use Rattle.plan_parser_exprs.specs.declared.fault.ParseFault.TheVariants.{Expected, TooDeep, TooMany, NoMemory}
use Rattle.plan_parser_exprs.specs.Ahead.{Answers}
use Rattle.plan_parser.specs.declared.value_fault.ValueFault.{ValueFault}
use Rattle.plan_parser.specs.declared.value_fault.ValueFault.TheVariants as faults
use Rattle.plan_parser.specs.ReadTexts.{Reads, by_tokens, by_reading, Fails, no_tokens, no_value}

-- a fault is `NoMemory`, or it isn't
pub memory_or_not : (e : ParseFault) → (e ≡ NoMemory) ⊎ (e ≢ NoMemory)
memory_or_not (Expected w n) = inr (λ h. cc)
memory_or_not (TooDeep n) = inr (λ h. cc)
memory_or_not (TooMany l n) = inr (λ h. cc)
memory_or_not NoMemory = inl refl

pub answered_found : {A : Type 0} (want r : Result A ParseFault) → Answers want r → IfOk r (λ a. want ≡ Ok a)
answered_found want (Ok a) h = h
answered_found want (Err e) h = tt

pub answered_only : {A : Type 0} (want r : Result A ParseFault) → Answers want r → (a : A) → want ≡ Ok a → MatchResult r (λ b. b ≡ a) (λ e. e ≡ NoMemory)
answered_only want (Ok b) h a e = cc
answered_only want (Err f) h a e = by_fault (memory_or_not f)
  where
    by_fault : (f ≡ NoMemory) ⊎ (f ≢ NoMemory) → f ≡ NoMemory
    by_fault (inl p) = p
    by_fault (inr q) = let g = h q in cc

pub answered_fault : {A : Type 0} (want r : Result A ParseFault) → Answers want r → IfErr r (λ e. (e ≡ NoMemory) ⊎ (want ≡ Err e))
answered_fault want (Ok a) h = tt
answered_fault want (Err f) h = by_fault (memory_or_not f)
  where
    by_fault : (f ≡ NoMemory) ⊎ (f ≢ NoMemory) → (f ≡ NoMemory) ⊎ (want ≡ Err f)
    by_fault (inl p) = inl p
    by_fault (inr q) = inr (h q)

-- ---- texts

-- running out of memory is handed on as that, and any other fault as one of the text
by_tokens_is : (e : LexFault) → (by_tokens e ≡ faults.NoMemory) ⊎ (by_tokens e ≡ faults.Lex e)
by_tokens_is lexing.NoMemory = inl refl
by_tokens_is _ = inr refl

by_reading_is : (e : ParseFault) → (by_reading e ≡ faults.NoMemory) ⊎ (by_reading e ≡ faults.Parse e)
by_reading_is NoMemory = inl refl
by_reading_is _ = inr refl

module _ {A : Type 0} (reading : List Token → ℕ → Result A ParseFault) (text : List ℕ) where
  pub text_found : (ts : List Token) (a : A) → Toks 0 text ts → reading ts (length text) ≡ Ok a → Reads reading text a
  text_found ts a t h = record { tokens = ts; toks = t; read = h }

  pub text_only : (ts : List Token) (r : Result A ParseFault) → Toks 0 text ts → Answers (reading ts (length text)) r
      → (a : A) → Reads reading text a → MatchResult r (λ b. b ≡ a) (λ e. e ≡ NoMemory)
  text_only ts r t h a q =
      answered_only (reading ts (length text)) r h a (subst (λ us. reading us (length text) ≡ Ok a) (Toks-unique 0 text q.tokens ts q.toks t) q.read)

  no_value_only : (ts : List Token) (e : ParseFault) → Toks 0 text ts → Answers (reading ts (length text)) (Err e) → (a : A) → Reads reading text a → by_reading e ≡ faults.NoMemory
  no_value_only ts e t h a q = ap by_reading (text_only ts (Err e) t h a q)

  no_value_fault : (ts : List Token) (e : ParseFault) → Toks 0 text ts → Answers (reading ts (length text)) (Err e) → (by_reading e ≡ faults.NoMemory) ⊎ Fails reading text (by_reading e)
  no_value_fault ts e t h = by_fault (memory_or_not e) (by_reading_is e)
    where
      by_fault : (e ≡ NoMemory) ⊎ (e ≢ NoMemory) → (by_reading e ≡ faults.NoMemory) ⊎ (by_reading e ≡ faults.Parse e) → (by_reading e ≡ faults.NoMemory) ⊎ Fails reading text (by_reading e)
      by_fault (inl p) k = inl (ap by_reading p)
      by_fault (inr q) (inl k) = inl k
      by_fault (inr q) (inr k) = inr (subst (Fails reading text) (sym k) (no_value ts e t (h q)))

  no_tokens_only : (e : LexFault) → (e ≡ lexing.NoMemory) ⊎ Refuses e 0 text → (a : A) → Reads reading text a → by_tokens e ≡ faults.NoMemory
  no_tokens_only e h a q = ap by_tokens (refused_only e text q.tokens h q.toks)

  no_tokens_fault : (e : LexFault) → (e ≡ lexing.NoMemory) ⊎ Refuses e 0 text → (by_tokens e ≡ faults.NoMemory) ⊎ Fails reading text (by_tokens e)
  no_tokens_fault e (inl p) = inl (ap by_tokens p)
  no_tokens_fault e (inr r) = by_kind (by_tokens_is e)
    where
      by_kind : (by_tokens e ≡ faults.NoMemory) ⊎ (by_tokens e ≡ faults.Lex e) → (by_tokens e ≡ faults.NoMemory) ⊎ Fails reading text (by_tokens e)
      by_kind (inl k) = inl k
      by_kind (inr k) = inr (subst (Fails reading text) (sym k) (no_tokens e r))

  -- a fault of lexing that was handed on
  pub lex_only : (r : Result A ValueFault) (e : LexFault) → IsErrAnd r (λ d. d ≡ by_tokens e) → (e ≡ lexing.NoMemory) ⊎ Refuses e 0 text → (a : A) → Reads reading text a
      → MatchResult r (λ b. b ≡ a) (λ d. d ≡ faults.NoMemory)
  lex_only (Ok b) e h k a q = absurd h
  lex_only (Err d) e h k a q = h ∙ no_tokens_only e k a q

  pub lex_fault : (r : Result A ValueFault) (e : LexFault) → IsErrAnd r (λ d. d ≡ by_tokens e) → (e ≡ lexing.NoMemory) ⊎ Refuses e 0 text
      → IfErr r (λ d. (d ≡ faults.NoMemory) ⊎ Fails reading text d)
  lex_fault (Ok b) e h k = tt
  lex_fault (Err d) e h k = subst (λ d. (d ≡ faults.NoMemory) ⊎ Fails reading text d) (sym h) (no_tokens_fault e k)

  -- a fault of parsing that was handed on
  pub parse_only : (r : Result A ValueFault) (e : ParseFault) (us ts : List Token) → us ≡ ts → Toks 0 text ts → IsErrAnd r (λ d. d ≡ by_reading e)
      → Answers (reading us (length text)) (Err e) → (a : A) → Reads reading text a → MatchResult r (λ b. b ≡ a) (λ d. d ≡ faults.NoMemory)
  parse_only (Ok b) e us ts m t h k a q = absurd h
  parse_only (Err d) e us ts m t h k a q = h ∙ no_value_only ts e t (subst (λ vs. Answers (reading vs (length text)) (Err e)) m k) a q

  pub parse_fault : (r : Result A ValueFault) (e : ParseFault) (us ts : List Token) → us ≡ ts → Toks 0 text ts → IsErrAnd r (λ d. d ≡ by_reading e)
      → Answers (reading us (length text)) (Err e) → IfErr r (λ d. (d ≡ faults.NoMemory) ⊎ Fails reading text d)
  parse_fault (Ok b) e us ts m t h k = tt
  parse_fault (Err d) e us ts m t h k =
      subst (λ d. (d ≡ faults.NoMemory) ⊎ Fails reading text d) (sym h) (no_value_fault ts e t (subst (λ vs. Answers (reading vs (length text)) (Err e)) m k))
