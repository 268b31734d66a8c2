use Rattle.std.proofs.Common.{◌≡◌, ℕ, zero, suc, List, [], ◌∷◌, Result, Ok, Err, refl, sym, subst}
use Rattle.containers.specs.Reading.{◌>>=◌, many}
use Rattle.containers.specs.Agenda.{times, FirstFault, here, later}

module _ {I S E : Type 0} (step : I → List I → S → Result (List I × S) E) where
  -- where a step can be taken, the first fault is the first of what is left
  faults_next : {e : E} {i : I} {more : List I} {f : S} {next : List I} {g : S} → FirstFault step e (i ∷ more) f → step i more f ≡ Ok (next, g) → FirstFault step e next g
  faults_next (here i more f h) k = cc
  faults_next {e} {next = m} {g = t} (later i more f n g h fault) k =
      let P : List I × S → Type 0 = λ p. FirstFault step e p.0 p.1 in
      let same : (n, g) ≡ (m, t) = cc in
      subst P same fault

  -- where a step refuses, its fault is the first
  faults_here : {d e : E} {i : I} {more : List I} {f : S} → FirstFault step d (i ∷ more) f → step i more f ≡ Err e → d ≡ e
  faults_here (here i more f h) k = cc
  faults_here (later i more f n g h fault) k = cc

  -- an agenda has at most one first fault
  pub one_first_fault : {d e : E} {now : List I} {f : S} → FirstFault step d now f → FirstFault step e now f → d ≡ e
  one_first_fault (here i more f h) k = sym (faults_here k h)
  one_first_fault (later i more f n g h fault) k = one_first_fault fault (faults_next k h)

  -- a reading r works off the agenda now: where it succeeds, the first faults are those of what is left; where it
  -- refuses, with the first fault
  abbrev pub Goes : {A : Type 0} → List I → S → (A → List I) → Result (A × S) E → Type 0
  Goes now f next (Ok x) = (e : E) → (FirstFault step e (next x.0) x.1 → FirstFault step e now f) × (FirstFault step e now f → FirstFault step e (next x.0) x.1)
  Goes now f next (Err e) = FirstFault step e now f × ((d : E) → FirstFault step d now f → d ≡ e)

  -- nothing to read
  pub idle : {A : Type 0} (now : List I) (f : S) (x : A) → Goes now f (λ _. now) (Ok (x, f))
  idle now f x = λ e. (λ h. h, λ h. h)

  pub through : {B : Type 0} (now : List I) (f : S) (mid : List I) (g : S) (next : B → List I) (r : Result (B × S) E)
      → ((e : E) → (FirstFault step e mid g → FirstFault step e now f) × (FirstFault step e now f → FirstFault step e mid g))
      → Goes mid g next r → Goes now f next r
  through now f mid g next (Ok y) same k = λ e. (λ h. (same e).0 ((k e).0 h), λ h. (k e).1 ((same e).1 h))
  through now f mid g next (Err e) same k = ((same e).0 k.0, λ d h. k.1 d ((same d).1 h))

  -- one reading after another
  pub chain : {A B : Type 0} (now : List I) (f : S) (mid : A → List I) (next : B → List I) (r : Result (A × S) E) (h : A × S → Result (B × S) E)
      → Goes now f mid r → ((x : A × S) → r ≡ Ok x → Goes (mid x.0) x.1 next (h x)) → Goes now f next (r >>= h)
  chain now f mid next (Ok x) h k more = through now f (mid x.0) x.1 next (h x) k (more x refl)
  chain now f mid next (Err e) h k more = k

  -- a reading that is one step
  pub one_step : {A : Type 0} (i : I) (more : List I) (f : S) (next : A → List I) (r : Result (A × S) E)
      → step i more f ≡ (r >>= λ x. Ok (next x.0, x.1)) → Goes (i ∷ more) f next r
  one_step i more f next (Ok x) h = λ e. (λ k. later i more f (next x.0) x.1 h k, λ k. faults_next k h)
  one_step i more f next (Err e) h = (here i more f h, λ d k. faults_here k h)

  -- what was read is made into something
  pub making_goes_on : {A B : Type 0} (make : A → B) (now : List I) (f : S) (next : List I) (r : Result (A × S) E)
      → Goes now f (λ _. next) r → Goes now f (λ _. next) (r >>= λ x. Ok (make x.0, x.1))
  making_goes_on make now f next (Ok x) k = k
  making_goes_on make now f next (Err e) k = k

  -- n readings for n items
  pub many_goes : {A : Type 0} (item : I) (one : S → Result (A × S) E) → ((more : List I) (f : S) → Goes (item ∷ more) f (λ _. more) (one f))
      → (n : ℕ) (more : List I) (f : S) → Goes (times n item more) f (λ _. more) (many one n f)
  unfolding many
  many_goes {A} item one k zero more f = idle {A = List A} more f []
  many_goes item one k (suc n) more f =
      chain (item ∷ times n item more) f (λ _. times n item more) (λ _. more) (one f) _ (k (times n item more) f)
      (λ x _. making_goes_on (λ xs. x.0 ∷ xs) (times n item more) x.1 more (many one n x.1) (many_goes item one k n more x.1))

  -- a reading that succeeds leaves no fault before what is left
  pub goes_ok : {A : Type 0} (now : List I) (f : S) (next : A → List I) (r : Result (A × S) E) (x : A × S) → r ≡ Ok x → Goes now f next r
      → (e : E) → FirstFault step e now f → FirstFault step e (next x.0) x.1
  goes_ok {A} now f next (Ok y) x h k = λ e q. let P : A × S → Type 0 = λ p. FirstFault step e (next p.0) p.1 in let same : y ≡ x = cc in subst P same ((k e).1 q)
  goes_ok now f next (Err y) x h k = cc

  -- a reading that refuses does so with the first fault
  pub goes_err : {A : Type 0} (now : List I) (f : S) (next : A → List I) (r : Result (A × S) E) (e : E) → r ≡ Err e → Goes now f next r → FirstFault step e now f
  goes_err now f next (Ok y) e h k = cc
  goes_err now f next (Err y) e h k = let P : E → Type 0 = λ d. FirstFault step d now f in let same : y ≡ e = cc in subst P same k.0

  -- nothing is left, so there is no fault
  pub no_fault : {e : E} {f : S} → FirstFault step e [] f → ⊥
  no_fault h = elim h [ ]
