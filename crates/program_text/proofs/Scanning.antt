-- One pass finds the tokens of a text, or its first refusal.
use Rattle.std.proofs.Common.{◌≡◌, ◌≤◌, ◌<◌, ◌-◌, ℕ, zero, suc, arith, List, [], ◌∷◌, length, Some, None, Ok, Err, refl, ap}
use Rattle.std.proofs.lemmas.List.{length-drop}
use Rattle.plan_lexer.specs.declared.fault.LexFault.{LexFault}
use Rattle.plan_lexer.specs.declared.token.Token.{Token}
use Rattle.plan_lexer.specs.Scanning.{rest_at, Toks, Refuses, ends, skips, takes, here, past}
use Rattle.plan_lexer.proofs.LawLemmas.{move_goes}
use Rattle.program_text.specs.Scanned.{scanned_tokens, tokens_of}

less-left : (at next n : ℕ) (b : ℕ) (text : List ℕ) → at < next → length (b ∷ text) ≤ suc n → length (rest_at at (b ∷ text) next) ≤ n
less-left at next n b text goes le = rw (length-drop (next - at) (b ∷ text)) (omega (arith, goes, le))

not-some : {text : List ℕ} → text ≡ [] → 0 < length text → ⊥
not-some e h = let n = ap length e in omega (arith, h, n)

-- the tokens of a text
pub scans : (at : ℕ) (text : List ℕ) (ts : List Token) → Toks at text ts → (n : ℕ) → length text ≤ n → scanned_tokens n at text ≡ Ok ts
scans _ _ _ (ends at) zero le = refl
scans _ _ _ (ends at) (suc n) le = refl
scans _ _ _ (skips at [] ts next some m h) n le = absurd (not-some refl some)
scans _ _ _ (skips at (b ∷ text) ts next some m h) zero le = absurd (omega (arith, le))
scans _ _ _ (skips at (b ∷ text) ts next some m h) (suc n) le =
    rw m (rw (scans next (rest_at at (b ∷ text) next) ts h n (less-left at next n b text (move_goes at (b ∷ text) None next m) le)) refl)
scans _ _ _ (takes at [] ts k next some m h) n le = absurd (not-some refl some)
scans _ _ _ (takes at (b ∷ text) ts k next some m h) zero le = absurd (omega (arith, le))
scans _ _ _ (takes at (b ∷ text) ts k next some m h) (suc n) le =
    rw m (rw (scans next (rest_at at (b ∷ text) next) ts h n (less-left at next n b text (move_goes at (b ∷ text) (Some k) next m) le)) refl)

-- its first refusal
pub stops : (e : LexFault) (at : ℕ) (text : List ℕ) → Refuses e at text → (n : ℕ) → length text ≤ n → scanned_tokens n at text ≡ Err e
stops e _ _ (here at [] some m) n le = absurd (not-some refl some)
stops e _ _ (here at (b ∷ text) some m) zero le = absurd (omega (arith, le))
stops e _ _ (here at (b ∷ text) some m) (suc n) le = rw m refl
stops e _ _ (past at [] move next some m h) n le = absurd (not-some refl some)
stops e _ _ (past at (b ∷ text) move next some m h) zero le = absurd (omega (arith, le))
stops e _ _ (past at (b ∷ text) move next some m h) (suc n) le =
    rw m (rw (stops e next (rest_at at (b ∷ text) next) h n (less-left at next n b text (move_goes at (b ∷ text) move next m) le)) refl)

pub has_tokens : (text : List ℕ) (ts : List Token) → Toks 0 text ts → tokens_of text ≡ Ok ts
unfolding tokens_of
has_tokens text ts h = scans 0 text ts h (length text) (omega arith)

pub is_refused : (text : List ℕ) (e : LexFault) → Refuses e 0 text → tokens_of text ≡ Err e
unfolding tokens_of
is_refused text e h = stops e 0 text h (length text) (omega arith)
