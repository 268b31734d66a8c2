-- The tokens of a text keep the limits of their kinds, one behind the other.
use Rattle.std.proofs.Common.{◌≡◌, ℕ, zero, suc, ◌+◌, ◌-◌, ◌*◌, ◌^◌, ◌<◌, ◌≤◌, Bool, true, false, List, [], ◌∷◌, ◌++◌, length, get_or, Some, None, pos, neg_ℤ, refl, sym, ap, ◌∙◌, subst, arith}
use Rattle.std.proofs.Common.{length-append, length-drop, nat_lt, FitsSigned, w64}
use Rattle.std.proofs.lemmas.Bool.Decides.{nat_tests}
use Rattle.std.proofs.lemmas.Str.{IsUtf8-append, IsUtf8-encode, IsUtf8-nil, encode_ascii}
use Rattle.std.specs.Char.{IsScalar}
use Rattle.std.specs.Str.{IsUtf8}
use lib.Utf8.{encode, low_scalar}
use Rattle.plan_lexer.specs.CharItems.{hex_value, escaped_character}
use Rattle.plan_lexer.specs.Scanning.{rest_at, Toks, ends, skips, takes}
use Rattle.plan_lexer.specs.TokenForms.{SpellsItem, plain, wide, letter, digits, SpellsItems, no_items, an_item, SpellsPairs, no_pairs, a_pair, Spells, name, key, int, negative, host, dev, part, char, string, blob, symbol}
use Rattle.plan_lexer.specs.TokenRules.{IsKind, AreTokens}
use Rattle.plan_lexer.proofs.LawLemmas.{spells_some, token_front, move_goes}
use Rattle.plan_lexer.proofs.ScanLemmas.{Toks-nil}
use Rattle.plan_lexer.specs.declared.token.Token.{Token}
use Rattle.plan_lexer.specs.declared.token.TokenKind.{TokenKind}

pub hex_small : (b v : ℕ) → hex_value b ≡ Some v → v < 16
unfolding hex_value
hex_small b v e = grind (arith, nat_tests)

escape_small : (l c : ℕ) → escaped_character l ≡ Some c → c < 128
unfolding escaped_character
escape_small l c e = grind (arith, nat_tests)

item_scalar : (quote : ℕ) (front : List ℕ) (c : ℕ) → SpellsItem quote front c → IsScalar c
item_scalar quote _ _ (plain c low high slash apart) = low_scalar c (omega arith)
item_scalar quote _ _ (wide c low s) = s
item_scalar quote _ _ (letter l c e) = low_scalar c (omega (arith, escape_small l c e))
item_scalar quote _ _ (digits h l high low e f eight) = low_scalar (16 * high + low) (omega (arith, hex_small l low f))

one_byte : (c : ℕ) → c < 128 → length (encode c) ≡ 1
one_byte c h = ap length (encode_ascii c h)

item_length : (quote : ℕ) (front : List ℕ) (c : ℕ) → SpellsItem quote front c → length (encode c) ≤ length front
item_length quote _ _ (plain c low high slash apart) = omega (arith, one_byte c (omega arith))
item_length quote _ _ (wide c low s) = omega arith
item_length quote _ _ (letter l c e) = omega (arith, one_byte c (escape_small l c e))
item_length quote _ _ (digits h l high low e f eight) = omega (arith, one_byte (16 * high + low) (omega (arith, hex_small l low f)))

items_utf8 : (quote : ℕ) (items bytes : List ℕ) → SpellsItems quote items bytes → IsUtf8 bytes
items_utf8 quote _ _ no_items = IsUtf8-nil
items_utf8 quote _ _ (an_item front rest c bytes h more) = IsUtf8-append (encode c) bytes (IsUtf8-encode c (item_scalar quote front c h)) (items_utf8 quote rest bytes more)

items_length : (quote : ℕ) (items bytes : List ℕ) → SpellsItems quote items bytes → length bytes ≤ length items
items_length quote _ _ no_items = omega arith
items_length quote _ _ (an_item front rest c bytes h more) = simp length-append (omega (arith, item_length quote front c h, items_length quote rest bytes more))

pairs_bytes : (pairs bytes : List ℕ) → SpellsPairs pairs bytes → (i : ℕ) → get_or bytes i 0 < 256
pairs_bytes _ _ no_pairs i = omega arith
pairs_bytes _ _ (a_pair h l high low rest bytes e f more) zero = omega (arith, hex_small h high e, hex_small l low f)
pairs_bytes _ _ (a_pair h l high low rest bytes e f more) (suc i) = pairs_bytes rest bytes more i

pairs_length : (pairs bytes : List ℕ) → SpellsPairs pairs bytes → length bytes ≤ length pairs
pairs_length _ _ no_pairs = omega arith
pairs_length _ _ (a_pair h l high low rest bytes e f more) = omega (arith, pairs_length rest bytes more)

fits_pos : (n : ℕ) → n < 2 ^ 63 → FitsSigned w64 (pos n)
fits_pos n h = record { sfits = h }

fits_neg : (n : ℕ) → n ≤ 2 ^ 63 → FitsSigned w64 (neg_ℤ (pos n))
fits_neg zero h = record { sfits = omega arith }
fits_neg (suc n) h = record { sfits = omega arith }

quoted_fits : (q : ℕ) (items : List ℕ) → length (q ∷ items ++ 34 ∷ []) ≤ 65536 → length items ≤ 65535
quoted_fits q items h = omega (arith, simp length-append at h)

blob_fits : (pairs : List ℕ) → length (35 ∷ 34 ∷ pairs ++ 34 ∷ []) ≤ 65536 → length pairs ≤ 65535
blob_fits pairs h = omega (arith, simp length-append at h)

-- what a token stands for keeps the limits of its kind
pub spells_kind : (k : TokenKind) (front : List ℕ) → length front ≤ 65536 → Spells k front → IsKind k
spells_kind _ _ h (name w is) = is
spells_kind _ _ h (key k) = tt
spells_kind _ _ h (int ds are small) = fits_pos _ small
spells_kind _ _ h (negative ds are small) = fits_neg _ small
spells_kind _ _ h (host ds are small) = small
spells_kind _ _ h (dev ds are small) = small
spells_kind _ _ h (part ds are one small) = (one, small)
spells_kind _ _ h (char item c is) = item_scalar 39 item c is
spells_kind _ _ h (string items bytes is) = (items_utf8 34 items bytes is, omega (arith, items_length 34 items bytes is, quoted_fits 34 items h))
spells_kind _ _ h (blob pairs bytes is) = (pairs_bytes pairs bytes is, omega (arith, pairs_length pairs bytes is, blob_fits pairs h))
spells_kind _ _ h (symbol s) = tt

-- tokens from a place on are tokens from an earlier place on
earlier : (from at len : ℕ) (ts : List Token) → from ≤ at → AreTokens at len ts → AreTokens from len ts
earlier from at len [] h t = tt
earlier from at len (t ∷ ts) h r = (record { after = omega (arith, r.0.after); some = r.0.some; within = r.0.within; kind = r.0.kind }, r.1)

no_tokens : (from len : ℕ) (ts : List Token) → ts ≡ [] → AreTokens from len ts
no_tokens from len ts e = subst (AreTokens from len) (sym e) tt

same_end : (at next len : ℕ) (text : List ℕ) → at ≤ next → next ≤ at + length text → at + length text ≡ len → next + length (rest_at at text next) ≡ len
same_end at next len text low high e = rw (length-drop (next - at) text) (omega arith)

toks_rules : (at : ℕ) (text : List ℕ) (ts : List Token) → Toks at text ts → (len : ℕ) → at + length text ≡ len → len ≤ 65536 → AreTokens at len ts
toks_rules _ _ _ (ends at) len e small = tt
toks_rules _ _ _ (skips at text ts next some m h) len e small = by_place (nat_lt (at + length text) next) refl (toks_rules next (rest_at at text next) ts h len)
  where
    goes : at < next
    goes = move_goes at text None next m

    by_place : (t : Bool) → nat_lt (at + length text) next ≡ t → (next + length (rest_at at text next) ≡ len → len ≤ 65536 → AreTokens next len ts) → AreTokens at len ts
    by_place true f ih = let past : at + length text < next = grind (arith, nat_tests) in
        no_tokens at len ts (Toks-nil next (rest_at at text next) ts (rw (length-drop (next - at) text) (omega arith)) h)
    by_place false f ih = let within : next ≤ at + length text = grind (arith, nat_tests) in
        earlier at next len ts (omega (arith, goes)) (ih (same_end at next len text (omega (arith, goes)) within e) small)
toks_rules _ _ _ (takes at text ts k next some m h) len e small =
    let f = token_front at text k next m in
    let fits : at + length f.front ≤ len = omega (arith, e, ap length f.splits ∙ length-append f.front f.rest) in (
      record { after = omega arith; some = omega (arith, f.place, spells_some k f.front f.spells); within = omega (arith, f.place, fits); kind = spells_kind k f.front (omega (arith, fits, small)) f.spells },
      toks_rules next (rest_at at text next) ts h len (same_end at next len text (omega (arith, f.place)) (omega (arith, f.place, fits, e)) e) small,
    )

-- the tokens of a text of at most 65,536 bytes keep the rules of tokens
pub tokens_rules : (text : List ℕ) (ts : List Token) → length text ≤ 65536 → Toks 0 text ts → AreTokens 0 (length text) ts
tokens_rules text ts small h = toks_rules 0 text ts h (length text) (omega arith) small
