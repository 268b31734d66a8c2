-- A reading works off an agenda.
use Rattle.std.proofs.Common.{◌≡◌, ℕ, Bool, true, false, List, [], ◌∷◌, Result, Ok, Err, if◌then◌else◌, refl, sym as back, ◌↔◌, ap}
use Rattle.containers.specs.Agenda.{FirstFault}
use Rattle.containers.proofs.Agendas.{Goes, through, one_step as single_step, goes_err, no_fault}
use Rattle.plan_lexer.specs.declared.token.Symbol.{Symbol}
use Rattle.plan_parser_exprs.specs.declared.fault.ParseFault.{ParseFault}
use Rattle.plan_parser_exprs.specs.declared.fault.ParseFault.TheVariants.{Expected}
use Rattle.plan_parser_exprs.specs.declared.fault.Wanted.TheVariants as wanted
use Rattle.plan_parser_exprs.specs.Ahead.{Front, ◌>>=◌, place, behind, is_symbol, need_symbol}
use Rattle.plan_parser_laws.specs.Agenda.{StepOf}
use Rattle.plan_parser_laws.specs.ValueAgenda.{ValueItem, sym, step}

module _ (o : ℕ) where
  -- the reading r works off the agenda now, up to next
  pub record Works {A : Type 0} (now : List ValueItem) (f : Front) (next : A → List ValueItem) (r : Result (A × Front) ParseFault) : Type 0 where
    pub works : Goes (step o) now f next r

  -- the reading r works off what a step left
  unfoldable pub Follows : {A : Type 0} → StepOf ValueItem → (A → List ValueItem) → Result (A × Front) ParseFault → Type 0
  Follows (Ok x) next r = Works x.0 x.1 next r
  Follows (Err e) next r = r ≡ Err e

  goes_on_there : {A : Type 0} (mid : List ValueItem) (g : Front) (next : A → List ValueItem) (r : Result (A × Front) ParseFault) → Works mid g next r → Follows (Ok (mid, g)) next r
  unfolding Follows
  goes_on_there mid g next r k = k

  pub goes_on : {A : Type 0} {mid : List ValueItem} {g : Front} {next : A → List ValueItem} {r : Result (A × Front) ParseFault} → Works mid g next r → Follows (Ok (mid, g)) next r
  goes_on {A} {mid} {g} {next} {r} k = goes_on_there mid g next r k

  pub stops : {A : Type 0} (e : ParseFault) (next : A → List ValueItem) → Follows (Err e) next (Err e)
  unfolding Follows
  stops e next = refl

  pub begin : {A : Type 0} (i : ValueItem) (more : List ValueItem) (f : Front) (next : A → List ValueItem) (r : Result (A × Front) ParseFault)
      → Follows (step o i more f) next r → Works (i ∷ more) f next r
  unfolding Follows
  begin {A} i more f next r k = record { works = go (step o i more f) refl k }
    where
      go : (s : StepOf ValueItem) → step o i more f ≡ s → Follows s next r → Goes (step o) (i ∷ more) f next r
      go (Ok x) e h = through (step o) (i ∷ more) f x.0 x.1 next r (single_step (step o) {A = Unit {0}} i more f (λ _. x.0) (Ok (tt, x.1)) e) h.works
      go (Err d) e h = rw h (single_step (step o) i more f next (Err d) e)

  pub after : {A B : Type 0} (now : List ValueItem) (f : Front) (mid : A → List ValueItem) (next : B → List ValueItem) (r : Result (A × Front) ParseFault) (h : A × Front → Result (B × Front) ParseFault)
      → Works now f mid r → ((x : A) (g : Front) → Works (mid x) g next (h (x, g))) → Works now f next (r >>= h)
  after now f mid next (Ok x) h k more = record { works = through (step o) now f (mid x.0) x.1 next (h x) k.works (more x.0 x.1).works }
  after now f mid next (Err e) h k more = record { works = k.works }

  pub given_works : {A : Type 0} (next : A → List ValueItem) (x : A) (g : Front) → Works (next x) g next (Ok (x, g))
  given_works next x g = record { works = λ e. (λ h. h, λ h. h) }

  -- a step and a reading that ask the same
  pub both : {A : Type 0} (b : Bool) (s t : StepOf ValueItem) (next : A → List ValueItem) (won lost : Result (A × Front) ParseFault)
      → Follows s next won → Follows t next lost → Follows (if b then s else t) next (if b then won else lost)
  both true s t next won lost y n = y
  both false s t next won lost y n = n

  pub both_then : {A B : Type 0} (b : Bool) (s t : StepOf ValueItem) (next : B → List ValueItem) (won lost : Result (A × Front) ParseFault) (h : A × Front → Result (B × Front) ParseFault)
      → Follows s next (won >>= h) → Follows t next (lost >>= h) → Follows (if b then s else t) next ((if b then won else lost) >>= h)
  both_then true s t next won lost h y n = y
  both_then false s t next won lost h y n = n

  -- a symbol that must stand next
  pub symbol_works : {B : Type 0} (w : Symbol) (more : List ValueItem) (f : Front) (next : B → List ValueItem) (h : Unit {0} × Front → Result (B × Front) ParseFault)
      → Works more (behind f) next (h (tt, behind f)) → Works (sym w ∷ more) f next (need_symbol w f >>= h)
  unfolding need_symbol step
  symbol_works w more f next h k =
      begin (sym w) more f next _ (both_then (is_symbol w f) _ _ next (Ok (tt, behind f)) (Err (Expected (wanted.Symbol w) (place f))) h (goes_on k) (stops _ next))

  -- where nothing else was to be read, the reading refuses exactly with the first refusal
  pub refuses_first : {A : Type 0} (now : List ValueItem) (f : Front) (r : Result (A × Front) ParseFault) → Works now f (λ _. []) r → (e : ParseFault) → (r ≡ Err e) ↔ FirstFault (step o) e now f
  refuses_first {A} now f r k e = (λ h. goes_err (step o) now f (λ (x : A). []) r e h k.works, go r k.works)
    where
      go : (q : Result (A × Front) ParseFault) → Goes (step o) now f (λ _. []) q → FirstFault (step o) e now f → q ≡ Err e
      go (Ok x) w h = absurd (no_fault (step o) ((w e).1 h))
      go (Err d) w h = ap (λ (p : ParseFault). Err p) (back (w.1 e h))
