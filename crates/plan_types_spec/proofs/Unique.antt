-- An expression has at most one type.
use Rattle.std.proofs.Common.{◌≡◌, ◌∙◌, sym, ap, ℕ, arith, None}
use Rattle.std.specs.Prelude.{Result, Ok, Err}
use Rattle.plan_types_spec.specs.declared.type_fault.TypeFault.{TypeFault}
use Rattle.plan_types_spec.specs.TypingOrder.{Found}
use Rattle.plan_base.specs.declared.tree.Ty.{Ty}
use Rattle.plan_base.specs.declared.tree.Expr.{Expr}
use Rattle.plan_base.specs.declared.tree.Program.{Program}
use Rattle.plan_base.specs.Sizes.{expr_depth}
use Rattle.plan_types_spec.specs.Typing.{Ctx, HasTy}
use Rattle.plan_types_spec.proofs.Reaches.{checked_reaches}
use Rattle.plan_types_spec.proofs.Itself.{itself}

type_in : Ty → Result (Found × ℕ) TypeFault → Ty
type_in d (Ok r) = r.0.1
type_in d (Err f) = d

pub one_type : (code : Program) (seen : ℕ) (c : Ctx) (e : Expr) (t u : Ty) → HasTy code seen c e t → HasTy code seen c e u → t ≡ u
unfolding type_in
one_type code seen c e t u h k =
    let a = checked_reaches code (expr_depth e) seen (itself code seen h {want = None} tt) (omega arith) 0 in
    let b = checked_reaches code (expr_depth e) seen (itself code seen k {want = None} tt) (omega arith) 0 in
    sym (ap (type_in t) a.1) ∙ ap (type_in t) b.1
