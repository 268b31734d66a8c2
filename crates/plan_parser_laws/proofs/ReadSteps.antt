-- What a reading gives, if it gives something.
use Rattle.std.proofs.Common.{◌≡◌, ℕ, zero, suc, Bool, true, false, List, Option, Some, None, Result, Ok, Err, if◌then◌else◌, refl}
use Rattle.plan_lexer.specs.declared.token.TokenKind.{TokenKind}
use Rattle.plan_lexer.specs.declared.token.TokenKind.TheVariants as kinds
use Rattle.plan_lexer.specs.declared.token.Key.{Key}
use Rattle.plan_lexer.specs.declared.token.Symbol.{Symbol}
use Rattle.plan_lexer.specs.declared.token.Symbol.TheVariants as symbols
use Rattle.plan_parser_exprs.specs.declared.fault.ParseFault.{ParseFault}
use Rattle.plan_parser_exprs.specs.declared.fault.ParseFault.TheVariants.{Expected}
use Rattle.plan_parser_exprs.specs.declared.fault.Wanted.TheVariants as wanted
use Rattle.plan_parser_exprs.specs.Ahead.{Front, ◌>>=◌, place, behind, next_kind, is_symbol, is_key, need_symbol, need_key, name_kind, name_at}
use Rattle.plan_parser_exprs.specs.Types.{opens}
use Rattle.plan_parser_exprs.specs.Exprs.{opens_at, need_open, catch_at}
use Rattle.plan_parser_laws.specs.Grammar.{Sym, Word, Called}
use Rattle.plan_parser_laws.proofs.TokenFacts.{symbol_stands, key_stands, room_open}

-- what was read has that property, with what is left behind it
unfoldable pub Reads : {A : Type 0} → (A → Front → Type 0) → Result (A × Front) ParseFault → Type 0
Reads P (Ok x) = P x.0 x.1
Reads P (Err e) = Unit {0}

pub found_reads : {A : Type 0} (P : A → Front → Type 0) (x : A) (g : Front) → P x g → Reads P (Ok (x, g))
unfolding Reads
found_reads P x g p = p

pub refusal_reads : {A : Type 0} (P : A → Front → Type 0) (e : ParseFault) → Reads P (Err e)
unfolding Reads
refusal_reads P e = tt

-- one reading after another
pub after : {A B : Type 0} (P : A → Front → Type 0) (Q : B → Front → Type 0) (r : Result (A × Front) ParseFault) (h : A × Front → Result (B × Front) ParseFault)
    → Reads P r → ((x : A) (g : Front) → P x g → Reads Q (h (x, g))) → Reads Q (r >>= h)
unfolding Reads
after P Q (Ok x) h s k = k x.0 x.1 s
after P Q (Err e) h s k = tt

-- a weaker property
pub weaker : {A : Type 0} (P Q : A → Front → Type 0) (r : Result (A × Front) ParseFault) → Reads P r → ((x : A) (g : Front) → P x g → Q x g) → Reads Q r
unfolding Reads
weaker P Q (Ok x) s k = k x.0 x.1 s
weaker P Q (Err e) s k = tt

-- a choice
pub either : {B : Type 0} (Q : B → Front → Type 0) (b : Bool) (won lost : Result (B × Front) ParseFault)
    → (b ≡ true → Reads Q won) → (b ≡ false → Reads Q lost) → Reads Q (if b then won else lost)
either Q true won lost y n = y refl
either Q false won lost y n = n refl

pub if_symbol : {B : Type 0} (Q : B → Front → Type 0) (w : Symbol) (f : Front) (won lost : Result (B × Front) ParseFault)
    → (Sym w f → Reads Q won) → Reads Q lost → Reads Q (if is_symbol w f then won else lost)
unfolding is_symbol
if_symbol Q w f won lost y n = either Q (is_symbol w f) won lost (λ e. y (symbol_stands w (next_kind f) e)) (λ _. n)

pub if_key : {B : Type 0} (Q : B → Front → Type 0) (w : Key) (f : Front) (won lost : Result (B × Front) ParseFault)
    → (Word w f → Reads Q won) → Reads Q lost → Reads Q (if is_key w f then won else lost)
unfolding is_key
if_key Q w f won lost y n = either Q (is_key w f) won lost (λ e. y (key_stands w (next_kind f) e)) (λ _. n)

-- a symbol that must stand next
pub symbol_then : {B : Type 0} (Q : B → Front → Type 0) (w : Symbol) (f : Front) (h : Unit {0} × Front → Result (B × Front) ParseFault)
    → (Sym w f → Reads Q (h (tt, behind f))) → Reads Q (need_symbol w f >>= h)
unfolding need_symbol is_symbol Reads
symbol_then Q w f h k = go (Expected (wanted.Symbol w) (place f)) (is_symbol w f) refl
  where
    go : (d : ParseFault) (b : Bool) → is_symbol w f ≡ b → Reads Q ((if b then Ok (tt, behind f) else Err d) >>= h)
    go d true e = k (symbol_stands w (next_kind f) e)
    go d false e = tt

pub key_then : {B : Type 0} (Q : B → Front → Type 0) (w : Key) (f : Front) (h : Unit {0} × Front → Result (B × Front) ParseFault)
    → (Word w f → Reads Q (h (tt, behind f))) → Reads Q (need_key w f >>= h)
unfolding need_key is_key Reads
key_then Q w f h k = go (Expected (wanted.Key w) (place f)) (is_key w f) refl
  where
    go : (d : ParseFault) (b : Bool) → is_key w f ≡ b → Reads Q ((if b then Ok (tt, behind f) else Err d) >>= h)
    go d true e = k (key_stands w (next_kind f) e)
    go d false e = tt

-- a name that must stand next
pub name_then : {B : Type 0} (Q : B → Front → Type 0) (f : Front) (h : List ℕ × Front → Result (B × Front) ParseFault)
    → ((name : List ℕ) → Called name f → Reads Q (h (name, behind f))) → Reads Q (name_at f >>= h)
unfolding name_at Reads
name_then Q f h k = go (next_kind f) refl
  where
    go : (o : Option TokenKind) → next_kind f ≡ o → Reads Q (name_kind f o >>= h)
    go (Some (kinds.Word n)) e = k n e
    go _ e = tt

-- a construct that opens takes one of the room
pub opening_reads : {B : Type 0} (Q : ℕ → B → Front → Type 0) (room : ℕ) (f : Front) (h : Unit {0} × Front → Result (B × Front) ParseFault)
    → ((r : ℕ) → room ≡ suc r → Reads (Q (suc r)) (h (tt, f))) → Reads (Q room) (opens room f >>= h)
unfolding opens Reads
opening_reads Q zero f h k = tt
opening_reads Q (suc r) f h k = rw (room_open r) (k r refl)

-- a construct that opens at the first token of what follows
pub opened_at : {B : Type 0} (Q : ℕ → B → Front → Type 0) (begins : Front → Bool) (room : ℕ) (f : Front) (h : Unit {0} × Front → Result (B × Front) ParseFault)
    → ((r : ℕ) → room ≡ suc r → Reads (Q (suc r)) (h (tt, f))) → Reads (Q room) (opens_at begins room f >>= h)
unfolding opens_at Reads
opened_at Q begins room f h k = go (Expected wanted.AnExpr (place f)) (begins f)
  where
    go : (d : ParseFault) (b : Bool) → Reads (Q room) ((if b then opens room f else Err d) >>= h)
    go d true = opening_reads Q room f h k
    go d false = tt

-- a bracket that must open
in_room : {B : Type 0} (Q : ℕ → B → Front → Type 0) (n : ℕ) (f : Front) (h : Unit {0} × Front → Result (B × Front) ParseFault)
    → ((r : ℕ) → n ≡ suc r → Reads (Q (suc r)) (h (tt, behind f))) → Reads (Q n) ((opens n f >>= λ o. Ok (tt, behind f)) >>= h)
unfolding opens Reads
in_room Q zero f h k = tt
in_room Q (suc r) f h k = rw (room_open r) (k r refl)

pub bracket_then : {B : Type 0} (Q : ℕ → B → Front → Type 0) (room : ℕ) (f : Front) (h : Unit {0} × Front → Result (B × Front) ParseFault)
    → ((r : ℕ) → room ≡ suc r → Sym symbols.ParenOpen f → Reads (Q (suc r)) (h (tt, behind f))) → Reads (Q room) (need_open room f >>= h)
unfolding need_open is_symbol Reads
bracket_then Q room f h k = go (Expected (wanted.Symbol symbols.ParenOpen) (place f)) (is_symbol symbols.ParenOpen f) refl
  where
    go : (d : ParseFault) (b : Bool) → is_symbol symbols.ParenOpen f ≡ b → Reads (Q room) ((if b then (opens room f >>= λ o. Ok (tt, behind f)) else Err d) >>= h)
    go d true e = in_room Q room f h (λ r same. k r same (symbol_stands symbols.ParenOpen (next_kind f) e))
    go d false e = tt

-- a value and the symbol behind it
abbrev pub with_symbol : {A : Type 0} → Symbol → A × Front → Result (A × Front) ParseFault
with_symbol w x = need_symbol w x.1 >>= λ s. Ok (x.0, s.1)

-- what is read before a symbol
pub before_then : {A B : Type 0} (P : A → Front → Type 0) (Q : B → Front → Type 0) (w : Symbol) (r : Result (A × Front) ParseFault) (h : A × Front → Result (B × Front) ParseFault)
    → Reads P r → ((x : A) (g : Front) → P x g → Sym w g → Reads Q (h (x, behind g))) → Reads Q ((r >>= with_symbol w) >>= h)
unfolding need_symbol is_symbol Reads
before_then {A} P Q w (Ok x) h s k = go (Expected (wanted.Symbol w) (place x.1)) (is_symbol w x.1) refl
  where
    behind_it : Unit {0} × Front → Result (A × Front) ParseFault
    behind_it s = Ok (x.0, s.1)

    go : (d : ParseFault) (b : Bool) → is_symbol w x.1 ≡ b → Reads Q (((if b then Ok (tt, behind x.1) else Err d) >>= behind_it) >>= h)
    go d true e = k x.0 x.1 s (symbol_stands w (next_kind x.1) e)
    go d false e = tt
before_then P Q w (Err e) h s k = tt

-- a name that a clause catches
abbrev pub some_name : List ℕ × Front → Result (Option (List ℕ) × Front) ParseFault
some_name n = Ok (Some n.0, n.1)

-- what a clause catches
pub catch_then : {B : Type 0} (Q : B → Front → Type 0) (f : Front) (h : Option (List ℕ) × Front → Result (B × Front) ParseFault)
    → (Sym symbols.Underscore f → Reads Q (h (None, behind f))) → ((name : List ℕ) → Called name f → Reads Q (h (Some name, behind f))) → Reads Q (catch_at f >>= h)
unfolding catch_at is_symbol name_at Reads
catch_then Q f h any one = go (is_symbol symbols.Underscore f) refl
  where
    by_kind : (o : Option TokenKind) → next_kind f ≡ o → Reads Q ((name_kind f o >>= some_name) >>= h)
    by_kind (Some (kinds.Word n)) e = one n e
    by_kind _ e = tt

    go : (b : Bool) → is_symbol symbols.Underscore f ≡ b → Reads Q ((if b then Ok (None, behind f) else (name_kind f (next_kind f) >>= some_name)) >>= h)
    go true e = any (symbol_stands symbols.Underscore (next_kind f) e)
    go false e = by_kind (next_kind f) refl

-- what was read has the property
pub what_was_read : {A : Type 0} (P : A → Front → Type 0) (r : Result (A × Front) ParseFault) (x : A) (g : Front) → Reads P r → r ≡ Ok (x, g) → P x g
unfolding Reads
what_was_read P r x g s e = rw e at s
