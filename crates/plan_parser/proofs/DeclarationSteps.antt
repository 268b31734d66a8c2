-- Steps of reading declarations up to the end.
use Rattle.std.proofs.Common.{◌≡◌, ◌+◌, ◌-◌, ◌<◌, ◌≤◌, ℕ, zero, suc, true, false, length, Result, Ok, Err, refl, sym, ◌∙◌, ap, subst, arith}
use Rattle.std.specs.Prelude.{nat_lt}
use Rattle.std.proofs.lemmas.Bool.Decides.{nat_tests}
use Rattle.plan_parser_exprs.specs.declared.fault.ParseFault.{ParseFault}
use Rattle.plan_base.specs.declared.limit.Limit.TheVariants as limits
use Rattle.plan_parser_exprs.specs.declared.level.Level.TheVariants as levels
use Rattle.plan_parser_exprs.specs.declared.node.Node.{Node}
use Rattle.plan_parser_exprs.specs.Ahead.{Front, ◌>>=◌, Gives, place, behind}
use Rattle.plan_parser_exprs.specs.Exprs.{expr_to}
use Rattle.plan_parser.specs.declared.signature.Head.{Head}
use Rattle.plan_parser.specs.declared.program.Gathered.{Gathered}
use Rattle.plan_parser.specs.Signatures.{head_at}
use Rattle.plan_parser.specs.Programs.{one_more, with_body, with_function, with_declaration, declarations}

declarations_zero : (fuel : ℕ) (g : Gathered) (f : Front) → fuel ≡ 0 → declarations fuel g f ≡ Ok g
unfolding declarations
declarations_zero fuel g f n = rw n refl

declarations_none : (fuel : ℕ) (g : Gathered) (f : Front) → nat_lt 0 (length f.tokens) ≡ false → declarations fuel g f ≡ Ok g
unfolding declarations
declarations_none zero g f e = refl
declarations_none (suc fuel) g f e = rw e refl

declarations_go : (fuel rest : ℕ) (g : Gathered) (f : Front) → fuel ≡ suc rest → nat_lt 0 (length f.tokens) ≡ true
    → declarations fuel g f ≡ (with_declaration g f >>= λ d. declarations rest d.0 d.1)
unfolding declarations
declarations_go fuel rest g f n e = rw (n, e) refl

some_left : (n : ℕ) → 0 < n → nat_lt 0 n ≡ true
some_left n h = grind (arith, nat_tests)

-- all tokens were looked at
pub declarations_done : (n k : ℕ) (g : Gathered) (f : Front) → n ≤ k → declarations (n - k) g f ≡ Ok g
declarations_done n k g f h = declarations_zero (n - k) g f (omega (arith, h))

-- no token is left
pub declarations_end : (n k : ℕ) (g : Gathered) (f : Front) → length f.tokens ≡ 0 → declarations (n - k) g f ≡ Ok g
declarations_end n k g f e = declarations_none (n - k) g f (rw e refl)

-- a declaration that can't be read ends the reading
pub declarations_stop : (n k : ℕ) (g : Gathered) (f : Front) (e : ParseFault) → k < n → 0 < length f.tokens → with_declaration g f ≡ Err e
    → declarations (n - k) g f ≡ Err e
declarations_stop n k g f e h some stop = declarations_go (n - k) (n - (k + 1)) g f (omega (arith, h)) (some_left (length f.tokens) some) ∙ rw stop refl

-- a declaration before others
pub declarations_step : (n k : ℕ) (g d : Gathered) (f r : Front) → k < n → 0 < length f.tokens → with_declaration g f ≡ Ok (d, r)
    → declarations (n - k) g f ≡ declarations (n - (k + 1)) d r
declarations_step n k g d f r h some read = declarations_go (n - k) (n - (k + 1)) g f (omega (arith, h)) (some_left (length f.tokens) some) ∙ rw read refl

-- a function that was read is added
pub with_function_gives : (g : Gathered) (f s h b : Front) (count at : ℕ) (u : Unit {0}) (head : Head) (body : Node) (r : Result Gathered ParseFault)
    → count ≡ length g.funs → at ≡ place f → s ≡ behind f → one_more count limits.Functions f ≡ Ok (u, f) → head_at s ≡ Ok (head, h) → expr_to 161 levels.Whole h ≡ Ok (body, b)
    → Gives (with_body at g head body b) r b → Gives (with_function g f) r b
unfolding with_function
with_function_gives g f s h b count at u head body r m n l o p q w =
    let o2 : one_more (length g.funs) limits.Functions f ≡ Ok (u, f) = ap (λ k. one_more k limits.Functions f) (sym m) ∙ o in
    let p2 : head_at (behind f) ≡ Ok (head, h) = ap head_at (sym l) ∙ p in
    let e : with_function g f ≡ with_body at g head body b = rw (o2, p2, q) (ap (λ k. with_body k g head body b) (sym n)) in
    subst (λ x. Gives x r b) (sym e) w
