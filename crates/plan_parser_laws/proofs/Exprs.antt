-- The checking of an expression stands for what is judged of it, which has at most one first refusal.
use Rattle.std.proofs.Common.{◌≡◌, ℕ, zero, suc, ◌+◌, ◌≤◌, ◌∙◌, sym, ap, refl, subst, Option, arith, inl, inr}
use Rattle.std.specs.Prelude.{Result, Ok, Err, ◌↔◌}
use Rattle.plan_base.specs.declared.tree.Ty.{Ty}
use Rattle.plan_base.specs.declared.tree.Expr.{Expr, Expr-F, out-Expr}
use Rattle.plan_base.specs.declared.tree.Program.{Program}
use Rattle.plan_types_spec.specs.declared.type_fault.TypeFault.{TypeFault}
use Rattle.plan_base.specs.Trees.{ExprLayer}
use Rattle.plan_base.specs.Sizes.{expr_depth, expr_depth_level, clause_depth, expr_nodes}
use Rattle.plan_types_spec.specs.Typing.{Ctx}
use Rattle.plan_types_spec.specs.TypingOrder.{Found, checked_expression}
use Rattle.plan_types_spec.specs.TypingOrder as order
use Rattle.plan_types_spec.specs.TypingFills.{Becomes}
use Rattle.plan_base.proofs.SizeLaws.{expr_depth_out, expr_nodes_out}
use Rattle.plan_types_spec.proofs.Steps.{Holds}
use Rattle.plan_types_spec.proofs.Right.{Right, checked_right}
use Rattle.plan_types_spec.proofs.Reaches.{checked_reaches}
use Rattle.plan_parser_laws.specs.Judgements.{Judgement, judged_form, behind, FirstFailing, fails, differ, refuses, passes, agree, becomes, Refused, refused, IsTypedOrRefused}
use Rattle.plan_parser_laws.proofs.Stands.{Kept, IsPart, Stands}
use Rattle.plan_parser_laws.proofs.TypingForms.{form_is_opened}

some_depth : (l : ExprLayer) → 1 ≤ expr_depth_level expr_depth clause_depth l
some_depth (Expr-F.Tuple es) = omega arith
some_depth (Expr-F.Call f es) = omega arith
some_depth (Expr-F.If a b k) = omega arith
some_depth (Expr-F.Let v u a b) = omega arith
some_depth (Expr-F.Then a b) = omega arith
some_depth (Expr-F.And a b) = omega arith
some_depth (Expr-F.Or a b) = omega arith
some_depth (Expr-F.Not a) = omega arith
some_depth (Expr-F.Binary v a b) = omega arith
some_depth (Expr-F.Part i a) = omega arith
some_depth (Expr-F.Try a ks) = omega arith
some_depth (Expr-F.Foldl f a l) = omega arith
some_depth (Expr-F.Foldr f a l) = omega arith
some_depth (Expr-F.ChunkOf f es) = omega arith
some_depth (Expr-F.Eval a) = omega arith
some_depth (Expr-F.OnRemote a b k r) = omega arith
some_depth (Expr-F.OnNeighbor a b k d) = omega arith
some_depth _ = omega arith

module _ (code : Program) (seen : ℕ) where
  -- the answer of the checking of an expression at the place n
  abbrev pub Whole : Ctx → Option Ty → ℕ → Expr → Result (Found × ℕ) TypeFault → Type 0
  Whole c want n e (Ok r) = Becomes code seen c want e r.0.0 r.0.1 × (r.1 ≡ behind n (expr_nodes e)) × Kept code seen (judged_form code seen c n want (out-Expr e))
  Whole c want n e (Err f) = Refused code seen f c want n e

  as_part : (c : Ctx) (want : Option Ty) (n : ℕ) (e : Expr) (q : Result (Found × ℕ) TypeFault) → Whole c want n e q → IsPart code seen c want n e q
  as_part c want n e (Ok r) w = (w.0, w.1)
  as_part c want n e (Err f) w = w

  all_of : (c : Ctx) (want : Option Ty) (n count : ℕ) (e : Expr) (q : Result (Found × ℕ) TypeFault) → 1 + count ≡ expr_nodes e → Holds (Right code seen c want e) q
      → Stands code seen (behind n 1) count (judged_form code seen c n want (out-Expr e)) q → Whole c want n e q
  all_of c want n count e (Ok r) k h s = let m = s.1 in (h, omega (arith, k, m), s.0)
  all_of c want n count e (Err f) k h s = refused s

  pub whole : (depth : ℕ) (e : Expr) → expr_depth e ≤ depth → (c : Ctx) (want : Option Ty) (n : ℕ) → Whole c want n e (checked_expression code depth seen c want e n)
  unfolding order.checked_expression order.expression
  whole zero e h c want n = let some = some_depth (out-Expr e) in let is = expr_depth_out e in absurd (omega (arith, h, some, is))
  whole (suc depth) e h c want n =
      let o = form_is_opened code seen (checked_expression code depth seen) depth (λ a k b w m. as_part b w m a (checked_expression code depth seen b w a m) (whole depth a k b w m)) c n want e (out-Expr e) (rw expr_depth_out at h) in
      all_of c want n o.count e (checked_expression code (suc depth) seen c want e n) (o.counted ∙ sym (expr_nodes_out e)) (checked_right code (suc depth) seen c want e n) o.stands

  -- what is typed keeps its conditions
  typed_kept : {c : Ctx} {want : Option Ty} {e d : Expr} {t : Ty} (n : ℕ) → Becomes code seen c want e d t → Kept code seen (judged_form code seen c n want (out-Expr e))
  typed_kept {c} {want} {e} {d} {t} n b =
      let r = checked_reaches code (expr_depth e) seen b (omega arith) n in
      let w = whole (expr_depth e) e (omega arith) c want n in
      (subst (λ q. Whole c want n e q) r.1 w).2

  one_type : {c : Ctx} {want : Option Ty} {e d g : Expr} {t u : Ty} → Becomes code seen c want e d t → Becomes code seen c want e g u → (d ≡ g) × (t ≡ u)
  one_type {e = e} {d = d} {g = g} {t = t} {u = u} b h =
      let r = checked_reaches code (expr_depth e) seen b (omega arith) 0 in
      let s = checked_reaches code (expr_depth e) seen h (omega arith) 0 in
      let z : ◌≡◌ {A = Result (Found × ℕ) TypeFault} (Ok ((d, t), r.0)) (Ok ((g, u), s.0)) = sym r.1 ∙ s.1 in
      let w : ◌≡◌ {A = Found × ℕ} ((d, t), r.0) ((g, u), s.0) = cc in
      (ap (λ q. q.0.0) w, ap (λ q. q.0.1) w)

  never_both : {f : TypeFault} {n : ℕ} {j : Judgement} → Kept code seen j → FirstFailing code seen f n j → ⊥
  unfolding Kept
  never_both k (fails e) = let b = k.0 in absurd (cc)
  never_both k (differ m) = m k.0
  never_both k (passes e h) = never_both k.1 h
  never_both k (agree e h) = never_both k.1 h
  never_both {n = n} k (refuses (refused h)) = never_both (typed_kept n k.2) h
  never_both k (becomes {more = more} d t b h) = never_both (subst (λ z. Kept code seen (more z)) (one_type k.2 b).1 k.3) h

  one_first : {f g : TypeFault} {n : ℕ} {j : Judgement} → FirstFailing code seen f n j → FirstFailing code seen g n j → f ≡ g
  one_first (fails e) (fails k) = refl
  one_first (fails e) (passes k h) = absurd (cc)
  one_first (passes e h) (fails k) = absurd (cc)
  one_first (passes e h) (passes k i) = one_first h i
  one_first (differ m) (differ k) = refl
  one_first (differ m) (agree e h) = absurd (m e)
  one_first (agree e h) (differ m) = absurd (m e)
  one_first (agree e h) (agree k i) = one_first h i
  one_first (refuses (refused h)) (refuses (refused i)) = one_first h i
  one_first {n = n} (refuses (refused h)) (becomes d t b i) = absurd (never_both (typed_kept n b) h)
  one_first {n = n} (becomes d t b h) (refuses (refused i)) = absurd (never_both (typed_kept n b) i)
  one_first {g = g} (becomes {n = n} {e = e} {more = more} d t b h) (becomes p u q i) =
      one_first h (subst (λ z. FirstFailing code seen g (behind n (expr_nodes e)) (more z)) (sym (one_type b q).1) i)

  pub apart : {c : Ctx} {want : Option Ty} {n : ℕ} {e d : Expr} {t : Ty} {f : TypeFault} → Becomes code seen c want e d t → Refused code seen f c want n e → ⊥
  apart {n = n} b (refused h) = never_both (typed_kept n b) h

  pub one : {c : Ctx} {want : Option Ty} {n : ℕ} {e : Expr} {f g : TypeFault} → Refused code seen f c want n e → Refused code seen g c want n e → f ≡ g
  one (refused h) (refused i) = one_first h i

  pub one_filling : {c : Ctx} {want : Option Ty} {e d g : Expr} {t u : Ty} → Becomes code seen c want e d t → Becomes code seen c want e g u → d ≡ g
  one_filling b h = (one_type b h).0

  pub first : (depth : ℕ) (c : Ctx) (want : Option Ty) (n : ℕ) (e : Expr) (f : TypeFault) → expr_depth e ≤ depth → (checked_expression code depth seen c want e n ≡ Err f) ↔ Refused code seen f c want n e
  first depth c want n e f h = (λ q. subst (λ z. Whole c want n e z) q (whole depth e h c want n), λ r. back (checked_expression code depth seen c want e n) (whole depth e h c want n) r)
    where
      back : (q : Result (Found × ℕ) TypeFault) → Whole c want n e q → Refused code seen f c want n e → q ≡ Err f
      back (Ok r) w k = absurd (apart w.0 k)
      back (Err g) w k = ap (λ (z : TypeFault). Err z) (one w k)

  pub some : (c : Ctx) (want : Option Ty) (n : ℕ) (e : Expr) → IsTypedOrRefused code seen c want n e
  some c want n e = go (checked_expression code (expr_depth e) seen c want e n) (whole (expr_depth e) e (omega arith) c want n)
    where
      go : (q : Result (Found × ℕ) TypeFault) → Whole c want n e q → IsTypedOrRefused code seen c want n e
      go (Ok r) w = inl (r.0.0, r.0.1, w.0)
      go (Err f) w = inr (f, w)
