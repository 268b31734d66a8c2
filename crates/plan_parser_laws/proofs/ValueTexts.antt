-- A whole value, whole arguments and whole texts are refused with the first refusal.
use Rattle.std.proofs.Common.{◌≡◌, ℕ, Bool, true, false, List, [], ◌∷◌, length, nat_lt, Result, Ok, Err, if◌then◌else◌, refl, sym as back, ◌∙◌, ap, subst, arith, ◌↔◌, inl, inr}
use Rattle.containers.proofs.Agendas.{no_fault, one_first_fault}
use Rattle.plan_base.specs.declared.tree.Value.{Value}
use Rattle.plan_lexer.specs.declared.token.Token.{Token}
use Rattle.plan_lexer.specs.declared.token.Symbol.TheVariants as symbols
use Rattle.plan_lexer.proofs.ScanLemmas.{Toks-unique, Refuses-unique, Toks-refused}
use Rattle.plan_parser_exprs.specs.declared.fault.ParseFault.{ParseFault}
use Rattle.plan_parser_exprs.specs.declared.fault.ParseFault.TheVariants.{Expected}
use Rattle.plan_parser_exprs.specs.declared.fault.Wanted.TheVariants as wanted
use Rattle.plan_parser_exprs.specs.Ahead.{Front, ◌>>=◌, place, behind, need_symbol}
use Rattle.plan_parser_laws.proofs.Ends.{nowhere, to_end, None_left, as_refused, refused_as}
use Rattle.plan_parser.specs.declared.value_fault.ValueFault.{ValueFault}
use Rattle.plan_parser.specs.declared.value_fault.ValueFault.TheVariants as faults
use Rattle.plan_parser.specs.Values.{value_to, nothing_follows, arguments_behind, value_of, args_of}
use Rattle.plan_parser.specs.ReadTexts.{Fails, no_tokens, no_value}
use Rattle.plan_parser_laws.specs.ValueGrammar.{IsValue, AreArgs}
use Rattle.plan_parser_laws.proofs.ValuesRead.{value_written, args_written}
use Rattle.plan_parser_laws.proofs.ValuesAre.{value_read, args_read}
use Rattle.plan_parser_laws.specs.ValueAgenda.{sym, a_value, args, the_end, hand, step}
use Rattle.plan_parser_laws.specs.ValueRefusals.{FirstValueRefusal, FirstArgsRefusal, IsValueOrRefused, AreArgsOrRefused, FirstTextRefusal, of_tokens, of_reading}
use Rattle.plan_parser_laws.proofs.ValueWorks.{Works, Follows, goes_on, stops, begin, after, symbol_works, refuses_first}
use Rattle.plan_parser_laws.proofs.ValuesWork.{values_work, arguments_work}

end_passes_bind : {A B : Type 0} (r : Result A ParseFault) (h : A → Result B ParseFault) → (r >>= λ x. to_end (h x)) ≡ to_end (r >>= h)
end_passes_bind (Ok x) h = refl
end_passes_bind (Err e) h = refl

-- whether something is left
abbrev ended_by : Front → Bool → Result (Unit {0}) ParseFault
ended_by f b = if b then Err (Expected wanted.AValue (place f)) else Ok tt

module _ {A : Type 0} (o : ℕ) where
  at_end : (x : A) (f : Front) → Works o [] f None_left (Ok (x, nowhere))
  at_end x f = record { works = λ e. (λ h. absurd (no_fault (step o) h), λ h. absurd (no_fault (step o) h)) }

  ended_works : (x : A) (f : Front) → Works o (the_end ∷ []) f None_left (to_end (nothing_follows f >>= λ _. Ok x))
  unfolding nothing_follows step
  ended_works x f = begin o the_end [] f None_left _ (go (nat_lt 0 (length f.tokens)))
    where
      go : (b : Bool) → Follows o (if b then Err (Expected wanted.AValue (place f)) else Ok ([], f)) (None_left {A = A}) (to_end (ended_by f b >>= λ _. Ok x))
      go true = stops o _ None_left
      go false = goes_on o (at_end x f)

module _ (tokens : List Token) (end : ℕ) where
  abbrev start : Front
  start = record { tokens = tokens; end = end }

  value_works : Works 0 (a_value 7 ∷ the_end ∷ []) start None_left (to_end (value_of tokens end))
  unfolding value_of
  value_works =
      subst (λ r. Works 0 (a_value 7 ∷ the_end ∷ []) start (None_left {A = Value}) r) (end_passes_bind (value_to 0 8 start) (λ i. nothing_follows i.1 >>= λ _. Ok i.0.value))
      (after 0 (a_value 7 ∷ the_end ∷ []) start (λ i. hand i.ty (the_end ∷ [])) None_left (value_to 0 8 start) (λ i. to_end (nothing_follows i.1 >>= λ _. Ok i.0.value)) (values_work 0 (omega arith) 7 (the_end ∷ []) start)
      (λ i g. ended_works 0 i.value g))

  args_work : Works 1 (sym symbols.ParenOpen ∷ args ∷ the_end ∷ []) start None_left (to_end (args_of tokens end))
  unfolding args_of
  args_work =
      subst (λ r. Works 1 (sym symbols.ParenOpen ∷ args ∷ the_end ∷ []) start (None_left {A = List Value}) r)
      (end_passes_bind (need_symbol symbols.ParenOpen start) (λ u. arguments_behind u.1 >>= λ xs. nothing_follows xs.1 >>= λ _. Ok xs.0))
      (symbol_works 1 symbols.ParenOpen (args ∷ the_end ∷ []) start None_left (λ u. to_end (arguments_behind u.1 >>= λ xs. nothing_follows xs.1 >>= λ _. Ok xs.0))
      (subst (λ r. Works 1 (args ∷ the_end ∷ []) (behind start) (None_left {A = List Value}) r) (end_passes_bind (arguments_behind (behind start)) (λ xs. nothing_follows xs.1 >>= λ _. Ok xs.0))
      (after 1 (args ∷ the_end ∷ []) (behind start) (λ _. the_end ∷ []) None_left (arguments_behind (behind start)) (λ xs. to_end (nothing_follows xs.1 >>= λ _. Ok xs.0)) (arguments_work (the_end ∷ []) (behind start))
      (λ xs g. ended_works 1 xs g))))

  -- a value is refused exactly with the first refusal, and so are arguments
  pub value_refused : (e : ParseFault) → (value_of tokens end ≡ Err e) ↔ FirstValueRefusal e tokens end
  value_refused e =
      let ways = refuses_first 0 (a_value 7 ∷ the_end ∷ []) start (to_end (value_of tokens end)) value_works e in
      (λ h. ways.0 (as_refused (value_of tokens end) e h), λ h. refused_as (value_of tokens end) e (ways.1 h))

  pub args_refused : (e : ParseFault) → (args_of tokens end ≡ Err e) ↔ FirstArgsRefusal e tokens end
  args_refused e =
      let ways = refuses_first 1 (sym symbols.ParenOpen ∷ args ∷ the_end ∷ []) start (to_end (args_of tokens end)) args_work e in
      (λ h. ways.0 (as_refused (args_of tokens end) e h), λ h. refused_as (args_of tokens end) e (ways.1 h))

  pub one_value : (d e : ParseFault) → FirstValueRefusal d tokens end → FirstValueRefusal e tokens end → d ≡ e
  one_value d e h k = one_first_fault (step 0) h k

  pub one_args : (d e : ParseFault) → FirstArgsRefusal d tokens end → FirstArgsRefusal e tokens end → d ≡ e
  one_args d e h k = one_first_fault (step 1) h k

  -- ---- one answer

  no_both : {A : Type 0} (x : A) (e : ParseFault) → ◌≡◌ {A = Result A ParseFault} (Ok x) (Err e) → ⊥
  no_both x e h = cc

  pub value_or_refused : IsValueOrRefused tokens end
  value_or_refused = go (value_of tokens end) refl
    where
      go : (r : Result Value ParseFault) → value_of tokens end ≡ r → IsValueOrRefused tokens end
      go (Ok x) e = inl (x, value_written tokens end x e)
      go (Err d) e = inr (d, (value_refused d).0 e)

  pub args_or_refused : AreArgsOrRefused tokens end
  args_or_refused = go (args_of tokens end) refl
    where
      go : (r : Result (List Value) ParseFault) → args_of tokens end ≡ r → AreArgsOrRefused tokens end
      go (Ok xs) e = inl (xs, args_written tokens end xs e)
      go (Err d) e = inr (d, (args_refused d).0 e)

  pub values_apart : (x : Value) (e : ParseFault) → IsValue tokens end x → FirstValueRefusal e tokens end → ⊥
  values_apart x e d h = no_both x e (back (value_read tokens end x d) ∙ (value_refused e).1 h)

  pub args_apart : (xs : List Value) (e : ParseFault) → AreArgs tokens end xs → FirstArgsRefusal e tokens end → ⊥
  args_apart xs e d h = no_both xs e (back (args_read tokens end xs d) ∙ (args_refused e).1 h)

-- ---- texts

module _ {A : Type 0} (reading : List Token → ℕ → Result A ParseFault) (first : ParseFault → List Token → ℕ → Type 0)
    (same : (tokens : List Token) (end : ℕ) (e : ParseFault) → (reading tokens end ≡ Err e) ↔ first e tokens end) where
  pub text_refused : (text : List ℕ) (e : ValueFault) → Fails reading text e ↔ FirstTextRefusal first text e
  text_refused text e = (there, here)
    where
      there : {d : ValueFault} → Fails reading text d → FirstTextRefusal first text d
      there (no_tokens d r) = of_tokens d r
      there (no_value tokens d t h) = of_reading tokens d t ((same tokens (length text) d).0 h)

      here : {d : ValueFault} → FirstTextRefusal first text d → Fails reading text d
      here (of_tokens d r) = no_tokens d r
      here (of_reading tokens d t h) = no_value tokens d t ((same tokens (length text) d).1 h)

module _ (first : ParseFault → List Token → ℕ → Type 0) (one : (tokens : List Token) (end : ℕ) (d e : ParseFault) → first d tokens end → first e tokens end → d ≡ e) where
  pub one_text : (text : List ℕ) (d e : ValueFault) → FirstTextRefusal first text d → FirstTextRefusal first text e → d ≡ e
  one_text text _ _ (of_tokens d r) (of_tokens e s) = ap faults.Lex (Refuses-unique d e 0 text r s)
  one_text text _ _ (of_tokens d r) (of_reading tokens e t h) = absurd (Toks-refused d 0 text tokens t r)
  one_text text _ _ (of_reading tokens d t h) (of_tokens e s) = absurd (Toks-refused e 0 text tokens t s)
  one_text text _ _ (of_reading tokens d t h) (of_reading others e u k) =
      ap faults.Parse (one tokens (length text) d e h (subst (λ ts. first e ts (length text)) (back (Toks-unique 0 text tokens others t u)) k))
