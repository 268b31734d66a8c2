-- Programs that differ in bodies alone have the same names.
use Rattle.std.proofs.Common.{◌≡◌, ℕ, zero, suc, ◌∙◌, sym, ap, refl, true, not, List, [], ◌∷◌, ◌++◌, take, length, Option, Some, None}
use Rattle.std.specs.Prelude.{map, slice_get}
use Rattle.std.specs.List.{prefix_len}
use Rattle.std.specs.Str.{bytes_eq}
use Rattle.plan_base.specs.declared.name.Name.{Name}
use Rattle.plan_base.specs.declared.tree.Svc.{Svc}
use Rattle.plan_base.specs.declared.tree.Fun.{Fun}
use Rattle.plan_base.specs.declared.tree.Program.{Program}
use Rattle.plan_types_spec.specs.TypingNames.{place_of, service_of, is_exception, may_catch, built_in, are_new, are_callable}
use Rattle.plan_types_spec.specs.Typing.{HasOwnNames, param_names}
use Rattle.plan_types_spec.specs.TypingOrder.{earlier, fun_of}
use Rattle.plan_types_spec.proofs.Layers.{and_then_some}

-- functions that differ in their bodies alone
pub data AlikeFuns : List Fun → List Fun → Type 0 where
  no_funs : AlikeFuns [] []
  and_fun : {g h : Fun} {gs hs : List Fun} → h.name ≡ g.name → h.params ≡ g.params → h.result ≡ g.result → AlikeFuns gs hs → AlikeFuns (g ∷ gs) (h ∷ hs)

pub record SameHeads (p q : Program) : Type 0 where
  pub svcs : q.svcs ≡ p.svcs
  pub exns : q.exns ≡ p.exns
  pub funs : AlikeFuns p.funs q.funs

abbrev fun_names : List Fun → List Name
fun_names fs = map (λ d. d.name) fs

pub alike_names : {gs hs : List Fun} → AlikeFuns gs hs → map (λ d. d.name) hs ≡ map (λ d. d.name) gs
alike_names no_funs = refl
alike_names (and_fun {g = g} {hs = hs} n p r a) = ap (λ x. x ∷ fun_names hs) n ∙ ap (λ xs. g.name ∷ xs) (alike_names a)

alike_take : (k : ℕ) {gs hs : List Fun} → AlikeFuns gs hs → AlikeFuns (take k gs) (take k hs)
alike_take zero a = no_funs
alike_take (suc k) no_funs = no_funs
alike_take (suc k) (and_fun n p r a) = and_fun n p r (alike_take k a)

alike_prefix : (f : Name) {gs hs : List Fun} → AlikeFuns gs hs → prefix_len (λ d. not (bytes_eq d.name f)) hs ≡ prefix_len (λ d. not (bytes_eq d.name f)) gs
alike_prefix f no_funs = refl
alike_prefix f (and_fun n p r a) = rw (n, alike_prefix f a) refl

pub alike_length : {gs hs : List Fun} → AlikeFuns gs hs → length hs ≡ length gs
alike_length no_funs = refl
alike_length (and_fun n p r a) = ap suc (alike_length a)

alike_place : (f : Name) {gs hs : List Fun} → AlikeFuns gs hs → place_of f hs ≡ place_of f gs
alike_place f a = rw (alike_prefix f a, alike_length a) refl

alike_at : {gs hs : List Fun} → AlikeFuns gs hs → (i : ℕ) (g : Fun) → slice_get gs i ≡ Some g → (h : Fun) × (slice_get hs i ≡ Some h) × (h.params ≡ g.params) × (h.result ≡ g.result)
alike_at no_funs i g e = absurd (cc)
alike_at (and_fun {g = k} {h = h} n p r a) zero g e = let same : k ≡ g = cc in (h, refl, p ∙ ap (λ d. d.params) same, r ∙ ap (λ d. d.result) same)
alike_at (and_fun n p r a) (suc i) g e = alike_at a i g e

pub known_there : {p q : Program} → SameHeads p q → (n : Name) → is_exception p n ≡ true → is_exception q n ≡ true
known_there {p = p} {q = q} s n k = let e = s.exns in rw e k

pub catch_there : {p q : Program} → SameHeads p q → (n : Option Name) → may_catch p n ≡ true → may_catch q n ≡ true
catch_there s None k = refl
catch_there s (Some n) k = known_there s n k

pub service_there : {p q : Program} → SameHeads p q → (f : Name) {o : Option Svc} → service_of f p.svcs ≡ o → service_of f q.svcs ≡ o
service_there s f k = let e = s.svcs in rw e k

pub earlier_there : {p q : Program} → SameHeads p q → (seen : ℕ) (f : Name) (g : Fun) → earlier p seen f ≡ Some g
    → (at : ℕ) × (h : Fun) × (place_of f (take seen q.funs) ≡ Some at) × (slice_get q.funs at ≡ Some h) × (h.params ≡ g.params) × (h.result ≡ g.result)
earlier_there {p = p} {q = q} s seen f g e =
    let at = and_then_some (slice_get p.funs) (place_of f (take seen p.funs)) g e in
    let h = alike_at s.funs at.0 g at.2 in
    (at.0, h.0, alike_place f (alike_take seen s.funs) ∙ at.1, h.1, h.2, h.3)

pub any_there : {p q : Program} → SameHeads p q → (f : Name) (g : Fun) → fun_of p f ≡ Some g
    → (at : ℕ) × (h : Fun) × (place_of f q.funs ≡ Some at) × (slice_get q.funs at ≡ Some h) × (h.params ≡ g.params) × (h.result ≡ g.result)
any_there {p = p} {q = q} s f g e =
    let at = and_then_some (slice_get p.funs) (place_of f p.funs) g e in
    let h = alike_at s.funs at.0 g at.2 in
    (at.0, h.0, alike_place f s.funs ∙ at.1, h.1, h.2, h.3)

pub heads_itself : (p : Program) → SameHeads p p
heads_itself p = record { svcs = refl; exns = refl; funs = go p.funs }
  where
    go : (fs : List Fun) → AlikeFuns fs fs
    go [] = no_funs
    go (f ∷ fs) = and_fun refl refl refl (go fs)

alike_back : {gs hs : List Fun} → AlikeFuns gs hs → AlikeFuns hs gs
alike_back no_funs = no_funs
alike_back (and_fun n p r a) = and_fun (sym n) (sym p) (sym r) (alike_back a)

pub heads_back : {p q : Program} → SameHeads p q → SameHeads q p
heads_back s = record { svcs = sym s.svcs; exns = sym s.exns; funs = alike_back s.funs }

pub names_there : {p q : Program} → SameHeads p q → HasOwnNames p → HasOwnNames q
names_there {p = p} {q = q} s h = record {
  calls = ap (are_callable []) (λ i. map (λ d. d.name) (s.svcs i) ++ alike_names s.funs i) ∙ h.calls;
  exns = ap (are_new built_in) s.exns ∙ h.exns;
  params = λ k d e. let g = alike_at (alike_back s.funs) k d e in ap (λ ps. are_new [] (param_names ps)) (sym g.2) ∙ h.params k g.0 g.1;
}
