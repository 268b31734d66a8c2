-- A reading works off an agenda.
use Rattle.std.proofs.Common.{◌≡◌, ℕ, zero, suc, Bool, true, false, List, [], ◌∷◌, Option, Some, Result, Ok, Err, if◌then◌else◌, refl, sym as back, ◌↔◌, ap}
use Rattle.containers.specs.Agenda.{FirstFault}
use Rattle.containers.proofs.Agendas.{Goes, through, one_step as single_step, goes_err, no_fault}
use Rattle.plan_lexer.specs.declared.token.TokenKind.{TokenKind}
use Rattle.plan_lexer.specs.declared.token.TokenKind.TheVariants as kinds
use Rattle.plan_lexer.specs.declared.token.Key.{Key}
use Rattle.plan_lexer.specs.declared.token.Symbol.{Symbol}
use Rattle.plan_lexer.specs.declared.token.Symbol.TheVariants as symbols
use Rattle.plan_parser_exprs.specs.declared.fault.ParseFault.{ParseFault}
use Rattle.plan_parser_exprs.specs.declared.fault.ParseFault.TheVariants.{Expected}
use Rattle.plan_parser_exprs.specs.declared.fault.Wanted.TheVariants as wanted
use Rattle.plan_parser_exprs.specs.Ahead.{Front, ◌>>=◌, place, behind, next_kind, is_symbol, is_key, need_symbol, need_key, name_kind, name_at}
use Rattle.plan_parser_exprs.specs.Types.{opens}
use Rattle.plan_parser_exprs.specs.Exprs.{opens_at, need_open}
use Rattle.plan_parser_laws.specs.Agenda.{GrammarItem, Form, sym, word, a_name, open_bracket, GrammarStep, enter, inside, right_side, name_step, step}
use Rattle.plan_parser_laws.proofs.ReadSteps.{Reads, some_name}
use Rattle.plan_parser_laws.proofs.TokenFacts.{room_open}

-- the reading r works off the agenda now, up to next
pub record Works {A : Type 0} (now : List GrammarItem) (f : Front) (next : A → List GrammarItem) (r : Result (A × Front) ParseFault) : Type 0 where
  pub works : Goes step now f next r

-- the reading r works off what a step left
unfoldable pub Follows : {A : Type 0} → GrammarStep → (A → List GrammarItem) → Result (A × Front) ParseFault → Type 0
Follows (Ok x) next r = Works x.0 x.1 next r
Follows (Err e) next r = r ≡ Err e

goes_on_there : {A : Type 0} (mid : List GrammarItem) (g : Front) (next : A → List GrammarItem) (r : Result (A × Front) ParseFault) → Works mid g next r → Follows (Ok (mid, g)) next r
unfolding Follows
goes_on_there mid g next r k = k

pub goes_on : {A : Type 0} {mid : List GrammarItem} {g : Front} {next : A → List GrammarItem} {r : Result (A × Front) ParseFault} → Works mid g next r → Follows (Ok (mid, g)) next r
goes_on {A} {mid} {g} {next} {r} k = goes_on_there mid g next r k

pub stops : {A : Type 0} (e : ParseFault) (next : A → List GrammarItem) → Follows (Err e) next (Err e)
unfolding Follows
stops e next = refl

pub begin : {A : Type 0} (i : GrammarItem) (more : List GrammarItem) (f : Front) (next : A → List GrammarItem) (r : Result (A × Front) ParseFault)
    → Follows (step i more f) next r → Works (i ∷ more) f next r
unfolding Follows
begin {A} i more f next r k = record { works = go (step i more f) refl k }
  where
    go : (s : GrammarStep) → step i more f ≡ s → Follows s next r → Goes step (i ∷ more) f next r
    go (Ok x) e h = through step (i ∷ more) f x.0 x.1 next r (single_step step {A = Unit {0}} i more f (λ _. x.0) (Ok (tt, x.1)) e) h.works
    go (Err d) e h = rw h (single_step step i more f next (Err d) e)

pub after : {A B : Type 0} (now : List GrammarItem) (f : Front) (mid : A → List GrammarItem) (next : B → List GrammarItem) (r : Result (A × Front) ParseFault) (h : A × Front → Result (B × Front) ParseFault)
    → Works now f mid r → ((x : A) (g : Front) → Works (mid x) g next (h (x, g))) → Works now f next (r >>= h)
after now f mid next (Ok x) h k more = record { works = through step now f (mid x.0) x.1 next (h x) k.works (more x.0 x.1).works }
after now f mid next (Err e) h k more = record { works = k.works }

pub given_works : {A : Type 0} (next : A → List GrammarItem) (x : A) (g : Front) → Works (next x) g next (Ok (x, g))
given_works next x g = record { works = λ e. (λ h. h, λ h. h) }

pub either_works : {A : Type 0} (now : List GrammarItem) (f : Front) (next : A → List GrammarItem) (b : Bool) (won lost : Result (A × Front) ParseFault)
    → (b ≡ true → Works now f next won) → (b ≡ false → Works now f next lost) → Works now f next (if b then won else lost)
either_works now f next true won lost y n = y refl
either_works now f next false won lost y n = n refl

-- a step and a reading that ask the same
pub both : {A : Type 0} (b : Bool) (s t : GrammarStep) (next : A → List GrammarItem) (won lost : Result (A × Front) ParseFault)
    → Follows s next won → Follows t next lost → Follows (if b then s else t) next (if b then won else lost)
both true s t next won lost y n = y
both false s t next won lost y n = n

pub both_then : {A B : Type 0} (b : Bool) (s t : GrammarStep) (next : B → List GrammarItem) (won lost : Result (A × Front) ParseFault) (h : A × Front → Result (B × Front) ParseFault)
    → Follows s next (won >>= h) → Follows t next (lost >>= h) → Follows (if b then s else t) next ((if b then won else lost) >>= h)
both_then true s t next won lost h y n = y
both_then false s t next won lost h y n = n

-- a symbol, a word and a name that must stand next
pub symbol_works : {B : Type 0} (w : Symbol) (more : List GrammarItem) (f : Front) (next : B → List GrammarItem) (h : Unit {0} × Front → Result (B × Front) ParseFault)
    → Works more (behind f) next (h (tt, behind f)) → Works (sym w ∷ more) f next (need_symbol w f >>= h)
unfolding need_symbol step
symbol_works w more f next h k =
    begin (sym w) more f next _ (both_then (is_symbol w f) _ _ next (Ok (tt, behind f)) (Err (Expected (wanted.Symbol w) (place f))) h (goes_on k) (stops _ next))

pub key_works : {B : Type 0} (w : Key) (more : List GrammarItem) (f : Front) (next : B → List GrammarItem) (h : Unit {0} × Front → Result (B × Front) ParseFault)
    → Works more (behind f) next (h (tt, behind f)) → Works (word w ∷ more) f next (need_key w f >>= h)
unfolding need_key step
key_works w more f next h k =
    begin (word w) more f next _ (both_then (is_key w f) _ _ next (Ok (tt, behind f)) (Err (Expected (wanted.Key w) (place f))) h (goes_on k) (stops _ next))

name_follows : {B : Type 0} (more : List GrammarItem) (f : Front) (next : B → List GrammarItem) (h : List ℕ × Front → Result (B × Front) ParseFault)
    → ((name : List ℕ) → Works more (behind f) next (h (name, behind f))) → (o : Option TokenKind) → Follows (name_step more f o) next (name_kind f o >>= h)
name_follows more f next h k (Some (kinds.Word n)) = goes_on (k n)
name_follows more f next h k _ = stops _ next

pub name_works : {B : Type 0} (more : List GrammarItem) (f : Front) (next : B → List GrammarItem) (h : List ℕ × Front → Result (B × Front) ParseFault)
    → ((name : List ℕ) → Works more (behind f) next (h (name, behind f))) → Works (a_name ∷ more) f next (name_at f >>= h)
unfolding name_at step
name_works more f next h k = begin a_name more f next _ (name_follows more f next h k (next_kind f))

-- a construct opens
pub enters : {B : Type 0} (room : ℕ) (at : Front) (items : ℕ → List GrammarItem) (g : Front) (next : B → List GrammarItem) (h : Unit {0} × Front → Result (B × Front) ParseFault)
    → ((r : ℕ) → room ≡ suc r → Works (items r) g next (h (tt, at))) → Follows (enter room at items g) next (opens room at >>= h)
unfolding opens
enters zero at items g next h k = stops _ next
enters (suc r) at items g next h k = rw (room_open r) (goes_on (k r refl))

-- a right side opens a construct
pub right_works : {B : Type 0} (begins : Front → Bool) (room : ℕ) (items : ℕ → List GrammarItem) (f : Front) (next : B → List GrammarItem) (h : Unit {0} × Front → Result (B × Front) ParseFault)
    → ((r : ℕ) → room ≡ suc r → Works (items r) f next (h (tt, f))) → Follows (right_side begins room items f) next (opens_at begins room f >>= h)
unfolding opens_at
right_works begins room items f next h k =
    both_then (begins f) _ _ next (opens room f) (Err (Expected wanted.AnExpr (place f))) h (enters room f items f next h k) (stops _ next)

-- one reading after another, where what the first gives is known
pub after_read : {A B : Type 0} (P : A → Front → Type 0) (now : List GrammarItem) (f : Front) (mid : A → List GrammarItem) (next : B → List GrammarItem) (r : Result (A × Front) ParseFault)
    (h : A × Front → Result (B × Front) ParseFault) → Works now f mid r → Reads P r → ((x : A) (g : Front) → P x g → Works (mid x) g next (h (x, g))) → Works now f next (r >>= h)
unfolding Reads
after_read P now f mid next (Ok x) h k s more = record { works = through step now f (mid x.0) x.1 next (h x) k.works (more x.0 x.1 s).works }
after_read P now f mid next (Err e) h k s more = record { works = k.works }

-- a bracket that must open
enters_open : {B : Type 0} (room : ℕ) (f : Front) (items : ℕ → List GrammarItem) (next : B → List GrammarItem) (h : Unit {0} × Front → Result (B × Front) ParseFault)
    → ((r : ℕ) → room ≡ suc r → Works (items r) (behind f) next (h (tt, behind f))) → Follows (enter room f items (behind f)) next ((opens room f >>= λ o. Ok (tt, behind f)) >>= h)
unfolding opens
enters_open zero f items next h k = stops _ next
enters_open (suc r) f items next h k = rw (room_open r) (goes_on (k r refl))

pub open_works : {B : Type 0} (room : ℕ) (form : Form) (rest : List GrammarItem) (f : Front) (next : B → List GrammarItem) (h : Unit {0} × Front → Result (B × Front) ParseFault)
    → ((r : ℕ) → room ≡ suc r → Works (inside form r rest) (behind f) next (h (tt, behind f))) → Works (open_bracket room form ∷ rest) f next (need_open room f >>= h)
unfolding need_open step
open_works room form rest f next h k =
    begin (open_bracket room form) rest f next _
    (both_then (is_symbol symbols.ParenOpen f) _ _ next (opens room f >>= λ o. Ok (tt, behind f)) (Err (Expected (wanted.Symbol symbols.ParenOpen) (place f))) h
    (enters_open room f (λ q. inside form q rest) next h k) (stops _ next))

-- a name that a clause catches
some_name_follows : {B : Type 0} (more : List GrammarItem) (f : Front) (next : B → List GrammarItem) (h : Option (List ℕ) × Front → Result (B × Front) ParseFault)
    → ((name : List ℕ) → Works more (behind f) next (h (Some name, behind f))) → (o : Option TokenKind) → Follows (name_step more f o) next ((name_kind f o >>= some_name) >>= h)
some_name_follows more f next h k (Some (kinds.Word n)) = goes_on (k n)
some_name_follows more f next h k _ = stops _ next

pub some_name_works : {B : Type 0} (more : List GrammarItem) (f : Front) (next : B → List GrammarItem) (h : Option (List ℕ) × Front → Result (B × Front) ParseFault)
    → ((name : List ℕ) → Works more (behind f) next (h (Some name, behind f))) → Works (a_name ∷ more) f next ((name_at f >>= some_name) >>= h)
unfolding name_at step
some_name_works more f next h k = begin a_name more f next _ (some_name_follows more f next h k (next_kind f))

-- where nothing else was to be read, the reading refuses exactly with the first refusal
pub refuses_first : {A : Type 0} (now : List GrammarItem) (f : Front) (r : Result (A × Front) ParseFault) → Works now f (λ _. []) r → (e : ParseFault) → (r ≡ Err e) ↔ FirstFault step e now f
refuses_first {A} now f r k e = (λ h. goes_err step now f (λ (x : A). []) r e h k.works, go r k.works)
  where
    go : (q : Result (A × Front) ParseFault) → Goes step now f (λ _. []) q → FirstFault step e now f → q ≡ Err e
    go (Ok x) w h = absurd (no_fault step ((w e).1 h))
    go (Err d) w h = ap (λ (p : ParseFault). Err p) (back (w.1 e h))
