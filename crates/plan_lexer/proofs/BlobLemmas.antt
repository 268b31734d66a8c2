-- A blob is read pair by pair.
use Rattle.std.proofs.Common.{◌≡◌, ℕ, suc, ◌+◌, ◌*◌, ◌<◌, List, [], ◌∷◌, ◌++◌, length, drop, get_or, Option, None, Some, Result, Ok, Err, refl, sym, ap, ◌∙◌, subst, arith, length-append, drop-cons}
use Rattle.plan_lexer.specs.CharItems.{hex_value, pair_of, pair_value}
use Rattle.plan_lexer.specs.Quoted.{with_front}
use Rattle.plan_lexer.specs.Faults.{Gives}
use Rattle.plan_lexer.specs.Hexed.{blob_from, blob_at, IsFront}
use Rattle.plan_lexer.proofs.QuotedLemmas.{with_front-twice}
use Rattle.plan_lexer.proofs.ReadLemmas.{blob_pair}
use Rattle.plan_lexer.specs.declared.fault.LexFault.{LexFault}

with_front-none : (r : Result (List ℕ × ℕ) LexFault) → with_front [] r ≡ r
with_front-none (Ok read) = refl
with_front-none (Err e) = refl

none_yet : (text : List ℕ) → IsFront text []
none_yet text = record { reads = λ start at. with_front-none (blob_from start (at + 0) None text) ∙ ap (λ n. blob_from start n None text) (omega arith) }

-- no bytes are read yet
pub no_front : (text bytes : List ℕ) → bytes ≡ [] → IsFront text bytes
no_front text bytes e = subst (λ (z : List ℕ). IsFront text z) (sym e) (none_yet text)

pair_by : (start at h l b : ℕ) (rest : List ℕ) (x y : Option ℕ) → hex_value h ≡ x → hex_value l ≡ y → pair_of x y ≡ Some b
    → blob_from start at None (h ∷ l ∷ rest) ≡ with_front (b ∷ []) (blob_from start (at + 1 + 1) None rest)
pair_by start at h l b rest None y e f is = absurd cc
pair_by start at h l b rest (Some high) None e f is = absurd cc
pair_by start at h l b rest (Some high) (Some low) e f is =
    let same : 16 * high + low ≡ b = cc in
    blob_pair start at h l high low rest e f ∙ ap (λ n. with_front (n ∷ []) (blob_from start (at + 1 + 1) None rest)) same

pair_next : (start at k b : ℕ) (text : List ℕ) → k + 1 < length text → pair_value (get_or text k 0) (get_or text (k + 1) 0) ≡ Some b
    → blob_from start at None (drop k text) ≡ with_front (b ∷ []) (blob_from start (at + 2) None (drop (k + 2) text))
unfolding pair_value
pair_next start at k b text in_text is =
    let h = get_or text k 0 in
    let l = get_or text (k + 1) 0 in
    let first : drop k text ≡ h ∷ drop (suc k) text = drop-cons text k 0 (omega arith) in
    let place : suc k ≡ k + 1 = omega arith in
    let second : drop (suc k) text ≡ l ∷ drop (suc (suc k)) text = drop-cons text (suc k) 0 (omega arith) ∙ ap (λ n. get_or text n 0 ∷ drop (suc (suc k)) text) place in
    let reached : at + 1 + 1 ≡ at + 2 = omega arith in
    let behind : suc (suc k) ≡ k + 2 = omega arith in
    ap (λ (z : List ℕ). blob_from start at None z) (first ∙ ap (λ (z : List ℕ). h ∷ z) second)
    ∙ pair_by start at h l b (drop (suc (suc k)) text) (hex_value h) (hex_value l) refl refl is
    ∙ ap (λ n. with_front (b ∷ []) (blob_from start n None (drop (suc (suc k)) text))) reached
    ∙ ap (λ n. with_front (b ∷ []) (blob_from start (at + 2) None (drop n text))) behind

one_more : (text bytes : List ℕ) (i b : ℕ) → IsFront text bytes → length bytes ≡ i → 2 * i + 1 < length text → pair_value (get_or text (2 * i) 0) (get_or text (2 * i + 1) 0) ≡ Some b
    → IsFront text (bytes ++ b ∷ [])
one_more text bytes i b front long in_text is = record {
  reads = λ start at.
      let n = 2 * length bytes in
      let same : n ≡ 2 * i = omega (arith, long) in
      let next = pair_next start (at + n) (2 * i) b text in_text is in
      let more : 2 * length (bytes ++ b ∷ []) ≡ 2 * i + 2 = omega (arith, long, length-append bytes (b ∷ [])) in
      let there : at + 2 * length (bytes ++ b ∷ []) ≡ at + n + 2 = omega (arith, more, same) in
      ap (λ m. with_front (bytes ++ b ∷ []) (blob_from start (at + 2 * length (bytes ++ b ∷ [])) None (drop m text))) more
      ∙ ap (λ m. with_front (bytes ++ b ∷ []) (blob_from start m None (drop (2 * i + 2) text))) there
      ∙ sym (with_front-twice bytes (b ∷ []) (blob_from start (at + n + 2) None (drop (2 * i + 2) text)))
      ∙ ap (with_front bytes) (sym next)
      ∙ ap (λ m. with_front bytes (blob_from start (at + n) None (drop m text))) (sym same)
      ∙ front.reads start at;
}

-- one pair more
pub front_more : (text bytes new : List ℕ) (i b : ℕ) → IsFront text bytes → length bytes ≡ i → 2 * i + 1 < length text → pair_value (get_or text (2 * i) 0) (get_or text (2 * i + 1) 0) ≡ Some b
    → new ≡ bytes ++ b ∷ [] → IsFront text new
front_more text bytes new i b front long in_text is e = subst (λ (z : List ℕ). IsFront text z) (sym e) (one_more text bytes i b front long in_text is)

-- what is read behind the first pairs is what the whole blob reads
pub blob_whole : {X : Type 0} (view : X → List ℕ × ℕ) (r : Result X LexFault) (start from : ℕ) (text front rest : List ℕ) → IsFront text front → from ≡ start + 2 + 2 * length front → rest ≡ drop (2 * length front) text
    → Gives view r (with_front front (blob_from start from None rest)) → Gives view r (blob_at start text)
unfolding blob_at
blob_whole view r start from text front rest is place left h =
    let same : with_front front (blob_from start from None rest) ≡ blob_from start (start + 2) None text = rw (place, left) (is.reads start (start + 2)) in
    subst (λ z. Gives view r z) same h
