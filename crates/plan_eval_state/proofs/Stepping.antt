-- The spot that is evaluated where a spot waits.
use Rattle.std.proofs.Common.{◌≡◌, ℕ, ◌+◌, nat_eq, if◌then◌else◌, List, [], ◌∷◌, ◌++◌, length, map, reverse, slice_get, Option, Some, None, refl, sym, ap, ◌∙◌, subst, arith, append-nil, length-append}
use Rattle.std.proofs.lemmas.List.{append_assoc, reverse-reverse}
use Rattle.containers.proofs.Options.{none-some, some-same}
use Rattle.plan_base.specs.declared.tree.Expr.{Expr, Expr-F}
use Rattle.plan_base.specs.declared.tree.Fun.{Fun}
use Rattle.plan_base.specs.declared.tree.Program.{Program}
use Rattle.plan_base.specs.declared.tree.Value.{Value}
use Rattle.plan_base.specs.Trees.{ExprLayer}
use Rattle.plan_meaning.specs.Meaning.{Env, bound}
use Rattle.plan_eval_state.specs.declared.continuation.Activation.{Activation}
use Rattle.plan_eval_state.specs.declared.continuation.Continuation.{Continuation}
use Rattle.plan_eval_state.specs.declared.continuation.Continuation.TheVariants.{Part, Last, Try, Bound, Call, Step, Chunk}
use Rattle.plan_eval_state.specs.Forms.{operands, branches, tried}
use Rattle.plan_eval_state.specs.Spots.{Spot, layer, HasEnv, HasHeight, IsOpen, counted, beside, let_body, body_under, body_with, body_in, body_here, step}
use Rattle.plan_eval_state.specs.Loop.{bare, site_beside, let_site, fun_site, body_site, walked}
use Rattle.plan_eval_state.proofs.Bottoms.{kept_in}
use Rattle.plan_eval_state.proofs.Envs.{env_under, env_in_let, env_in_body, map_one, names_in_body, places_in_body}

-- what is there where two numbers are the same
pub guarded : {A : Type 0} (m n : ℕ) (o : Option A) (x : A) → (if nat_eq m n then o else None) ≡ Some x → (m ≡ n) × (o ≡ Some x)
guarded m n o x h = grind (arith, h)

pub unguarded : {A : Type 0} (m n : ℕ) (o : Option A) → m ≡ n → (if nat_eq m n then o else None) ≡ o
unguarded m n o e = grind (arith, e)

-- ---- what a step is

pub record Beside (s : Spot) (o : Option Expr) (next : Spot) : Type 0 where
  pub expr : Expr
  pub there : o ≡ Some expr
  pub is : next ≡ record s { expr = expr }

pub beside_is : (s : Spot) (o : Option Expr) (next : Spot) → beside s o ≡ Some next → Beside s o next
beside_is s (Some e) next h = record { expr = e; there = refl; is = sym (some-same h) }
beside_is s None next h = absurd (none-some h)

-- a body under arguments
pub record Entered (o : Option Program) (a : Activation) (args : List Value) (next : Spot) : Type 0 where
  pub code : Program
  pub f : Fun
  pub env : Env
  pub program : o ≡ Some code
  pub function : slice_get code.funs a.fun ≡ Some f
  pub binds : bound f.params args ≡ Some env
  pub is : next ≡ record { code = code; number = a.number; fun = a.fun; env = env; places = counted a.base args; expr = f.body }

under_is : (code : Program) (a : Activation) (args : List Value) (next : Spot) (f : Fun) (o : Option Env) → slice_get code.funs a.fun ≡ Some f → bound f.params args ≡ o
    → body_under code a f args o ≡ Some next → Entered (Some code) a args next
under_is code a args next f (Some env) has binds h = record { code = code; f = f; env = env; program = refl; function = has; binds = binds; is = sym (some-same h) }
under_is code a args next f None has binds h = absurd (none-some h)

with_is : (code : Program) (a : Activation) (args : List Value) (next : Spot) (o : Option Fun) → slice_get code.funs a.fun ≡ o → body_with code a args o ≡ Some next → Entered (Some code) a args next
with_is code a args next (Some f) has h = under_is code a args next f (bound f.params args) has refl h
with_is code a args next None has h = absurd (none-some h)

pub body_is : (o : Option Program) (a : Activation) (args : List Value) (next : Spot) → body_in o a args ≡ Some next → Entered o a args next
body_is (Some code) a args next h = with_is code a args next (slice_get code.funs a.fun) refl h
body_is None a args next h = absurd (none-some h)

pub body_here_is : (s : Spot) (a : Activation) (args : List Value) (next : Spot) → body_here s a args ≡ Some next → (a.number ≡ s.number) × Entered (Some s.code) a args next
body_here_is s a args next h =
    let g = guarded a.number s.number (body_in (Some s.code) a args) next h in
    (g.0, body_is (Some s.code) a args next g.1)

-- ---- steps that there are

pub to_operand : (codes : List Program) (s : Spot) (n : ℕ) (held : List Value) (e : Expr) → length held ≡ n → slice_get (operands (layer s)) n ≡ Some e
    → step codes s (Part n) held ≡ Some (record s { expr = e })
to_operand codes s n held e many there = unguarded (length held) n (beside s (slice_get (operands (layer s)) n)) many ∙ ap (beside s) there

pub to_branch : (codes : List Program) (s : Spot) (n : ℕ) (e : Expr) → slice_get (branches (layer s)) n ≡ Some e → step codes s (Last n) [] ≡ Some (record s { expr = e })
to_branch codes s n e there = ap (beside s) there

pub to_tried : (codes : List Program) (s : Spot) (h : ℕ) (e : Expr) → tried (layer s) ≡ Some e → step codes s (Try h) [] ≡ Some (record s { expr = e })
to_tried codes s h e there = ap (beside s) there

pub to_call : (codes : List Program) (s : Spot) (a : Activation) (args : List Value) (next : Spot) → a.number ≡ s.number → body_in (Some s.code) a args ≡ Some next
    → step codes s (Call a) (reverse args) ≡ Some next
to_call codes s a args next same body =
    unguarded a.number s.number (body_in (Some s.code) a (reverse (reverse args))) same ∙ ap (body_in (Some s.code) a) (reverse-reverse args) ∙ body

pub to_chunk : (codes : List Program) (s : Spot) (a : Activation) (code : Program) (args : List Value) (next : Spot) → slice_get codes a.number ≡ Some code → body_in (Some code) a args ≡ Some next
    → step codes s (Chunk a) (reverse args) ≡ Some next
to_chunk codes s a code args next there body = ap (λ o. body_in o a (reverse (reverse args))) there ∙ ap (body_in (Some code) a) (reverse-reverse args) ∙ body

-- ---- more programs

body_grown : (codes more : List Program) (a : Activation) (args : List Value) (next : Spot) → body_in (slice_get codes a.number) a args ≡ Some next
    → body_in (slice_get (codes ++ more) a.number) a args ≡ Some next
body_grown codes more a args next h =
    let e = body_is (slice_get codes a.number) a args next h in
    ap (λ o. body_in o a args) (kept_in codes more a.number e.code e.program ∙ sym e.program) ∙ h

pub step_grown : (codes more : List Program) (s : Spot) (k : Continuation) (held : List Value) (next : Spot) → step codes s k held ≡ Some next → step (codes ++ more) s k held ≡ Some next
step_grown codes more s (Part n) held next h = h
step_grown codes more s (Last n) held next h = h
step_grown codes more s (Try i) held next h = h
step_grown codes more s (Bound i) held next h = h
step_grown codes more s (Call a) held next h = h
step_grown codes more s (Step a) held next h = h
step_grown codes more s (Chunk a) held next h = body_grown codes more a (reverse held) next h

-- ---- the three ways of a step

-- to a part of the same body, to the body of a `let`, or to the body of a function
pub data Way (codes : List Program) (s : Spot) (k : Continuation) (held : List Value) (next : Spot) : Type 0 where
  by_part : (o : Option Expr) → beside s o ≡ Some next → walked codes (bare s) k ≡ site_beside (bare s) o → Way codes s k held next
  by_let : (i : ℕ) (v : Value) → held ≡ v ∷ [] → let_body s (layer s) i v ≡ Some next → k ≡ Bound i → Way codes s k held next
  by_body : (o : Option Program) (a : Activation) (args rest : List Value) → held ≡ reverse args ++ rest → (IsOpen codes s → slice_get codes a.number ≡ o) → Entered o a args next
      → walked codes (bare s) k ≡ body_site a (slice_get codes a.number) → ((n : ℕ) → HasHeight k n → a.base ≡ n + length rest) → Way codes s k held next

module _ (codes : List Program) (s next : Spot) where
  back_in_order : (held : List Value) → held ≡ reverse (reverse held) ++ []
  back_in_order held = sym (append-nil (reverse (reverse held)) ∙ reverse-reverse held)

  here_open : (a : Activation) → a.number ≡ s.number → IsOpen codes s → slice_get codes a.number ≡ Some s.code
  here_open a same is_open = ap (slice_get codes) same ∙ is_open

  way_of_call : (a : Activation) (held : List Value) → body_here s a (reverse held) ≡ Some next → Way codes s (Call a) held next
  way_of_call a held h =
      let b = body_here_is s a (reverse held) next h in
      by_body (Some s.code) a (reverse held) [] (back_in_order held) (here_open a b.0) b.1 refl (λ n e. omega (arith, e))

  way_of_step : (a : Activation) (w v n l : Value) → body_here s a (v ∷ w ∷ []) ≡ Some next → Way codes s (Step a) (w ∷ v ∷ n ∷ l ∷ []) next
  way_of_step a w v n l h =
      let b = body_here_is s a (v ∷ w ∷ []) next h in
      by_body (Some s.code) a (v ∷ w ∷ []) (n ∷ l ∷ []) refl (here_open a b.0) b.1 refl (λ m e. omega (arith, e))

  pub way : (k : Continuation) (held : List Value) → step codes s k held ≡ Some next → Way codes s k held next
  way (Part n) held h = by_part (slice_get (operands (layer s)) n) (guarded (length held) n (beside s (slice_get (operands (layer s)) n)) next h).1 refl
  way (Last n) [] h = by_part (slice_get (branches (layer s)) n) h refl
  way (Last n) (v ∷ held) h = absurd (none-some h)
  way (Try i) [] h = by_part (tried (layer s)) h refl
  way (Try i) (v ∷ held) h = absurd (none-some h)
  way (Bound i) [] h = absurd (none-some h)
  way (Bound i) (v ∷ []) h = by_let i v refl h refl
  way (Bound i) (v ∷ w ∷ held) h = absurd (none-some h)
  way (Call a) held h = way_of_call a held h
  way (Step a) [] h = absurd (none-some h)
  way (Step a) (w ∷ []) h = absurd (none-some h)
  way (Step a) (w ∷ v ∷ []) h = absurd (none-some h)
  way (Step a) (w ∷ v ∷ n ∷ []) h = absurd (none-some h)
  way (Step a) (w ∷ v ∷ n ∷ l ∷ []) h = way_of_step a w v n l h
  way (Step a) (w ∷ v ∷ n ∷ l ∷ m ∷ held) h = absurd (none-some h)
  way (Chunk a) held h =
      by_body (slice_get codes a.number) a (reverse held) [] (back_in_order held) (λ is_open. refl) (body_is (slice_get codes a.number) a (reverse held) next h) refl (λ n e. omega (arith, e))

-- ---- what the next spot sees

let_sees : (s next : Spot) (l : ExprLayer) (i : ℕ) (v : Value) (pre : List Value) → let_body s l i v ≡ Some next → HasEnv s pre → i ≡ length pre → HasEnv next (v ∷ pre)
let_sees s next (Expr-F.Let x t a b) i v pre h at e = subst (λ (t : Spot). HasEnv t (v ∷ pre)) (some-same h) (env_in_let s.env s.places pre x v i at e)
let_sees s next _ i v pre h at e = absurd (none-some h)

sees_by : (codes : List Program) (s : Spot) (k : Continuation) (held pre : List Value) (next : Spot) → Way codes s k held next → HasEnv s pre → HasHeight k (length pre) → HasEnv next (held ++ pre)
sees_by codes s k held pre next (by_part o h site) at e =
    let b = beside_is s o next h in
    subst (λ (t : Spot). HasEnv t (held ++ pre)) (sym b.is) (env_under s.env s.places held pre at)
sees_by codes s k held pre next (by_let i v is h which) at e =
    subst (λ l. HasEnv next (l ++ pre)) (sym is) (let_sees s next (layer s) i v pre h at (subst (λ k. HasHeight k (length pre)) which e))
sees_by codes s k held pre next (by_body o a args rest is there b site height) at e =
    let base : a.base ≡ length (rest ++ pre) = omega (arith, height (length pre) e, length-append rest pre) in
    let sees : HasEnv next (reverse args ++ (rest ++ pre)) =
    subst (λ (t : Spot). HasEnv t (reverse args ++ (rest ++ pre))) (sym b.is) (env_in_body b.f.params args (rest ++ pre) a.base b.env b.binds base) in
    subst (λ l. HasEnv next (l ++ pre)) (sym is) (subst (HasEnv next) (sym (append_assoc (reverse args) rest pre)) sees)

pub step_sees : (codes : List Program) (s : Spot) (k : Continuation) (held pre : List Value) (next : Spot) → step codes s k held ≡ Some next → HasEnv s pre → HasHeight k (length pre)
    → HasEnv next (held ++ pre)
step_sees codes s k held pre next h at e = sees_by codes s k held pre next (way codes s next k held h) at e

-- ---- its program is is_open

let_open : (codes : List Program) (s next : Spot) (l : ExprLayer) (i : ℕ) (v : Value) → let_body s l i v ≡ Some next → IsOpen codes s → IsOpen codes next
let_open codes s next (Expr-F.Let x t a b) i v h is_open = subst (λ (t : Spot). IsOpen codes t) (some-same h) is_open
let_open codes s next _ i v h is_open = absurd (none-some h)

open_by : (codes : List Program) (s : Spot) (k : Continuation) (held : List Value) (next : Spot) → Way codes s k held next → IsOpen codes s → IsOpen codes next
open_by codes s k held next (by_part o h site) is_open = let b = beside_is s o next h in subst (λ (t : Spot). IsOpen codes t) (sym b.is) is_open
open_by codes s k held next (by_let i v is h which) is_open = let_open codes s next (layer s) i v h is_open
open_by codes s k held next (by_body o a args rest is there b site height) is_open = subst (λ (t : Spot). IsOpen codes t) (sym b.is) (there is_open ∙ b.program)

pub step_open : (codes : List Program) (s : Spot) (k : Continuation) (held : List Value) (next : Spot) → step codes s k held ≡ Some next → IsOpen codes s → IsOpen codes next
step_open codes s k held next h is_open = open_by codes s k held next (way codes s next k held h) is_open

-- ---- the walk

let_walked : (s next : Spot) (l : ExprLayer) (i : ℕ) (v : Value) → let_body s l i v ≡ Some next → let_site (bare s) l i ≡ Some (bare next)
let_walked s next (Expr-F.Let x t a b) i v h = ap (λ l. Some (record { number = s.number; fun = s.fun; names = l; places = s.places ++ i ∷ []; expr = b })) (sym (map_one s.env x v)) ∙ ap (λ (t : Spot). Some (bare t)) (some-same h)
let_walked s next _ i v h = absurd (none-some h)

body_walked : (o : Option Program) (a : Activation) (args : List Value) (next : Spot) → Entered o a args next → body_site a o ≡ Some (bare next)
body_walked o a args next b =
    let names : map (λ b. b.name) b.env ≡ map (λ p. p.name) b.f.params = names_in_body b.f.params args b.env b.binds in
    let places : counted a.base args ≡ counted a.base b.f.params = places_in_body b.f.params args b.env a.base b.binds in
    ap (body_site a) b.program ∙ ap (fun_site a) b.function
    ∙ rw (sym names, sym places) (ap (λ (t : Spot). Some (bare t)) (sym b.is))

walked_by : (codes : List Program) (s : Spot) (k : Continuation) (held : List Value) (next : Spot) → Way codes s k held next → IsOpen codes s → walked codes (bare s) k ≡ Some (bare next)
walked_by codes s k held next (by_part o h site) is_open =
    let b = beside_is s o next h in
    site ∙ ap (site_beside (bare s)) b.there ∙ ap (λ (t : Spot). Some (bare t)) (sym b.is)
walked_by codes s k held next (by_let i v is h which) is_open = ap (walked codes (bare s)) which ∙ let_walked s next (layer s) i v h
walked_by codes s k held next (by_body o a args rest is there b site height) is_open = site ∙ ap (body_site a) (there is_open) ∙ body_walked o a args next b

-- where the code finds the part is where it is
pub step_walked : (codes : List Program) (s : Spot) (k : Continuation) (held : List Value) (next : Spot) → step codes s k held ≡ Some next → IsOpen codes s
    → walked codes (bare s) k ≡ Some (bare next)
step_walked codes s k held next h is_open = walked_by codes s k held next (way codes s next k held h) is_open
