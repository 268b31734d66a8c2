-- Reading tokens whose kinds are known.
use Rattle.std.proofs.Common.{◌≡◌, ℕ, zero, suc, ◌<◌, ◌≤◌, ◌==◌, Bool, true, false, List, [], ◌∷◌, ◌++◌, length, drop, Result, Ok, refl, sym, ap, ◌∙◌, subst, arith, append_assoc, append-nil}
use Rattle.std.proofs.lemmas.Bool.Decides.{nat_tests}
use Rattle.containers.proofs.Bools.{not_zero}
use Rattle.plan_base.specs.declared.limit.Limit.{Limit}
use Rattle.plan_base.specs.declared.name.Name.{Name}
use Rattle.plan_lexer.specs.declared.token.Key.{Key}
use Rattle.plan_lexer.specs.declared.token.Symbol.{Symbol}
use Rattle.plan_lexer.specs.declared.token.Token.{Token}
use Rattle.plan_lexer.specs.declared.token.TokenKind.{TokenKind}
use Rattle.plan_lexer.specs.declared.token.TokenKind.TheVariants as kind
use Rattle.plan_parser_exprs.specs.declared.fault.ParseFault.{ParseFault}
use Rattle.plan_parser_exprs.specs.declared.fault.Wanted.{Wanted}
use Rattle.plan_parser_exprs.specs.Codes.{key_code, symbol_code}
use Rattle.plan_parser_exprs.specs.Ahead.{Front, Reader, ◌>>=◌, behind, kind_in, next_kind, is_symbol_kind, is_symbol, is_key_kind, is_key, need_symbol, need_key, name_kind, name_at}
use Rattle.plan_parser_exprs.specs.Types.{opens, more}
use Rattle.plan_printer_spec.specs.Pieces.{listed_pieces}
use Rattle.program_text_laws.specs.Lexes.{kinds_of}
use Rattle.program_text_laws.specs.Reads.{kinds_at, Took, first_kind}
use Rattle.program_text_laws.specs.PrintedTokens.{Kinds, mark}

pub took : {A : Type 0} {more : Kinds} {Q : A → Type 0} (a : A) (g : Front) → kinds_at g ≡ more → Q a → Took (Ok (a, g)) more Q
took a g h q = record { value = a; rest = g; is = refl; left = h; good = q }

-- one reading and then the next
pub then_took : {A B : Type 0} {r : Result (A × Front) ParseFault} {more last : Kinds} {P : A → Type 0} {Q : B → Type 0} (next : A × Front → Result (B × Front) ParseFault)
    → Took r more P → ((a : A) (g : Front) → kinds_at g ≡ more → P a → Took (next (a, g)) last Q) → Took (r >>= next) last Q
then_took {last = last} {Q = Q} next t k = subst (λ x. Took (x >>= next) last Q) (sym t.is) (k t.value t.rest t.left t.good)

-- the same reading by another name, and with a weaker promise
pub took_by : {A : Type 0} {r s : Result (A × Front) ParseFault} {more : Kinds} {Q : A → Type 0} → r ≡ s → Took s more Q → Took r more Q
took_by {more = more} {Q = Q} e t = subst (λ x. Took x more Q) (sym e) t

pub weaker : {A : Type 0} {r : Result (A × Front) ParseFault} {more : Kinds} {P Q : A → Type 0} → Took r more P → ((a : A) → P a → Q a) → Took r more Q
weaker t k = record { value = t.value; rest = t.rest; is = t.is; left = t.left; good = k t.value t.good }

-- ---- the next token

abbrev further : Kinds → Kinds
further [] = []
further (k ∷ ks) = ks

first_in : (ts : List Token) → kind_in ts ≡ first_kind (kinds_of ts)
first_in [] = refl
first_in (t ∷ ts) = refl

further_in : (ts : List Token) → kinds_of (drop 1 ts) ≡ further (kinds_of ts)
further_in [] = refl
further_in (t ∷ ts) = refl

pub next_is : (f : Front) (ks : Kinds) → kinds_at f ≡ ks → next_kind f ≡ first_kind ks
unfolding next_kind
next_is f ks h = first_in f.tokens ∙ ap first_kind h

pub behind_is : (f : Front) (k : TokenKind) (ks : Kinds) → kinds_at f ≡ k ∷ ks → kinds_at (behind f) ≡ ks
unfolding behind
behind_is f k ks h = further_in f.tokens ∙ ap further h

pub symbol_is : (w : Symbol) (f : Front) (ks : Kinds) → kinds_at f ≡ ks → is_symbol w f ≡ is_symbol_kind w (first_kind ks)
unfolding is_symbol
symbol_is w f ks h = ap (is_symbol_kind w) (next_is f ks h)

pub key_is : (w : Key) (f : Front) (ks : Kinds) → kinds_at f ≡ ks → is_key w f ≡ is_key_kind w (first_kind ks)
unfolding is_key
key_is w f ks h = ap (is_key_kind w) (next_is f ks h)

same_number : (n : ℕ) → (n == n) ≡ true
same_number n = grind (arith, nat_tests)

pub take_symbol : (s : Symbol) (f : Front) (ks : Kinds) → kinds_at f ≡ kind.Symbol s ∷ ks → Took (need_symbol s f) ks (λ _. Unit {0})
unfolding need_symbol
take_symbol s f ks h = rw (symbol_is s f (kind.Symbol s ∷ ks) h ∙ same_number (symbol_code s)) (took tt (behind f) (behind_is f (kind.Symbol s) ks h) tt)

pub take_key : (k : Key) (f : Front) (ks : Kinds) → kinds_at f ≡ kind.Key k ∷ ks → Took (need_key k f) ks (λ _. Unit {0})
unfolding need_key
take_key k f ks h = rw (key_is k f (kind.Key k ∷ ks) h ∙ same_number (key_code k)) (took tt (behind f) (behind_is f (kind.Key k) ks h) tt)

pub take_name : (x : Name) (f : Front) (ks : Kinds) → kinds_at f ≡ kind.Word x ∷ ks → Took (name_at f) ks (λ n. n ≡ x)
unfolding name_at
take_name x f ks h = took_by (ap (name_kind f) (next_is f (kind.Word x ∷ ks) h)) (took x (behind f) (behind_is f (kind.Word x) ks h) refl)

-- where there is room, a construct opens and no token is taken
pub take_open : (room : ℕ) (f : Front) (ks : Kinds) → 0 < room → kinds_at f ≡ ks → Took (opens room f) ks (λ _. Unit {0})
unfolding opens
take_open room f ks n h = rw (not_zero room n) (took tt f h tt)

-- ---- further items

module _ {X A : Type 0} (one : Reader A) (begins : Front → Bool) (sep : Symbol) (limit : Limit) (what : Wanted)
    (kinds : X → Kinds) (good : X → A → Type 0) (follows : Kinds → Type 0) where
  -- an item is read before what may follow it
  abbrev pub Reads : X → Type 0
  Reads x = (f : Front) (rest : Kinds) → kinds_at f ≡ kinds x ++ rest → follows rest → Took (one f) rest (good x)

  abbrev pub AllRead : List X → Type 0
  AllRead [] = Unit {0}
  AllRead (x ∷ xs) = Reads x × AllRead xs

  abbrev pub AllGood : List X → List A → Type 0
  AllGood [] [] = Unit {0}
  AllGood (x ∷ xs) (a ∷ made) = good x a × AllGood xs made
  AllGood _ _ = ⊥

  -- items with all of these behind those that were read before
  abbrev pub Added : List X → List A → List A → Type 0
  Added xs done all = (news : List A) × (all ≡ done ++ news) × AllGood xs news

  more_none : (left : ℕ) (done : List A) (f : Front) → is_symbol sep f ≡ false → more one begins sep limit what left done f ≡ Ok (done, f)
  unfolding more
  more_none zero done f e = rw e refl
  more_none (suc left) done f e = rw e refl

  more_next : (left : ℕ) (done : List A) (f : Front) → is_symbol sep f ≡ true
      → more one begins sep limit what (suc left) done f ≡ (one (behind f) >>= λ x. more one begins sep limit what left (done ++ x.0 ∷ []) x.1)
  unfolding more
  more_next left done f e = rw e refl

  module _ (close : Kinds) (shut : is_symbol_kind sep (first_kind close) ≡ false) (sep_follows : (r : Kinds) → follows (kind.Symbol sep ∷ r)) (close_follows : follows close) where
    follows_item : (xs : List X) → follows (listed_pieces (mark sep) (mark sep) kinds xs ++ close)
    follows_item [] = close_follows
    follows_item (x ∷ xs) = sep_follows ((kinds x ++ listed_pieces (mark sep) (mark sep) kinds xs) ++ close)

    pub more_took : (xs : List X) → AllRead xs → (left : ℕ) → length xs ≤ left → (done : List A) (f : Front)
        → kinds_at f ≡ listed_pieces (mark sep) (mark sep) kinds xs ++ close → Took (more one begins sep limit what left done f) close (Added xs done)
    more_took [] r left n done f h = took_by (more_none left done f (symbol_is sep f close h ∙ shut)) (took done f h ([], sym (append-nil done), tt))
    more_took (x ∷ xs) r zero n done f h = absurd (omega (arith, n))
    more_took (x ∷ xs) r (suc left) n done f h =
        let tail : Kinds = listed_pieces (mark sep) (mark sep) kinds xs ++ close in
        let ks : kinds_at f ≡ kind.Symbol sep ∷ (kinds x ++ tail) = h ∙ ap (λ s. kind.Symbol sep ∷ s) (append_assoc (kinds x) (listed_pieces (mark sep) (mark sep) kinds xs) close) in
        took_by (more_next left done f (symbol_is sep f (kind.Symbol sep ∷ (kinds x ++ tail)) ks ∙ same_number (symbol_code sep)))
        (then_took (λ y. more one begins sep limit what left (done ++ y.0 ∷ []) y.1) (r.0 (behind f) tail (behind_is f (kind.Symbol sep) (kinds x ++ tail) ks) (follows_item xs))
        (λ a g k q. weaker (more_took xs r.1 left (omega (arith, n)) (done ++ a ∷ []) g k)
        (λ all w. (a ∷ w.0, w.1 ∙ append_assoc done (a ∷ []) w.0, (q, w.2)))))
