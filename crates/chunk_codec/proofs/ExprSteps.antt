use Rattle.std.proofs.Common.{◌≡◌, ℕ, zero, suc, ◌+◌, ◌-◌, ◌<◌, ◌≤◌, ◌==◌, append_assoc, append-nil, List, [], ◌∷◌, ◌++◌, Bool, true, false, Result, Ok, Err, refl, sym, ◌∙◌, ap, arith}
use Rattle.std.proofs.lemmas.Bool.Decides.{nat_tests}
use Rattle.containers.specs.Reading.{◌>>=◌}
use Rattle.containers.proofs.Binds.{bind_is, bind_err}
use Rattle.containers.proofs.ReadingLists.{with_front}
use Rattle.plan_base.specs.declared.tree.Expr.{Expr}
use Rattle.plan_base.specs.declared.tree.Clause.{Clause}
use Rattle.chunk_codec_spec.specs.declared.fault.SpellFault.{SpellFault}
use Rattle.chunk_codec_spec.specs.declared.tags.ExprTag.{ExprTag}
use Rattle.chunk_codec_spec.specs.Scan.{Scan, Reader}
use Rattle.chunk_codec_spec.specs.Parts.{Part, reads, tagged_at}
use Rattle.chunk_codec_spec.specs.Exprs.{expr_forms, expr_of_parts, expr_tag_at, expr_core, expr_part, clause_forms, clause_of_parts, clause_tag_at, clause_part, clauses_part, clauses_at, clauses_from, is_none_left}
use Rattle.chunk_codec.specs.Reading.{Fails, expr_at, expr_behind, clause_at, clause_behind}
use Rattle.chunk_codec.proofs.Loops.{fails_on}

clause_behind_is : (inner : Part Expr) (named : Bool) (s : Scan) → reads (clause_forms inner named) (clause_of_parts inner named) s ≡ clause_behind inner.read named s
unfolding clause_behind
clause_behind_is inner false s = refl
clause_behind_is inner true s = refl

clause_read_is : (room : ℕ) (last : Bool) (s : Scan) → (clause_part last room (expr_part room)).read s ≡ clause_at (expr_at room) last s
unfolding tagged_at clause_at
clause_read_is room last s = (λ i. clause_tag_at last s >>= λ t. clause_behind_is (expr_part room) t.0 t.1 i)

clauses_read_is : (room : ℕ) (s : Scan) → clauses_at (λ last. (clause_part last room (expr_part room)).read) s ≡ clauses_at (λ last. clause_at (expr_at room) last) s
clauses_read_is room s = (λ i. clauses_at (λ last g. clause_read_is room last g i) s)

behind_by : (inner : Part Expr) (clauses : Part (List Clause)) (tag : ExprTag) (s : Scan)
    → reads (expr_forms inner clauses tag) (expr_of_parts inner clauses tag) s ≡ expr_behind inner.read clauses.read tag s
unfolding expr_behind
behind_by inner clauses ExprTag.Unit s = refl
behind_by inner clauses ExprTag.Bool s = refl
behind_by inner clauses ExprTag.Int s = refl
behind_by inner clauses ExprTag.Char s = refl
behind_by inner clauses ExprTag.Str s = refl
behind_by inner clauses ExprTag.Blob s = refl
behind_by inner clauses ExprTag.Host s = refl
behind_by inner clauses ExprTag.Dev s = refl
behind_by inner clauses ExprTag.Nil s = refl
behind_by inner clauses ExprTag.Var s = refl
behind_by inner clauses ExprTag.Tuple s = refl
behind_by inner clauses ExprTag.Call s = refl
behind_by inner clauses ExprTag.If s = refl
behind_by inner clauses ExprTag.Let s = refl
behind_by inner clauses ExprTag.Then s = refl
behind_by inner clauses ExprTag.And s = refl
behind_by inner clauses ExprTag.Or s = refl
behind_by inner clauses ExprTag.Not s = refl
behind_by inner clauses ExprTag.Binary s = refl
behind_by inner clauses ExprTag.Part s = refl
behind_by inner clauses ExprTag.Raise s = refl
behind_by inner clauses ExprTag.Try s = refl
behind_by inner clauses ExprTag.Foldl s = refl
behind_by inner clauses ExprTag.Foldr s = refl
behind_by inner clauses ExprTag.ChunkOf s = refl
behind_by inner clauses ExprTag.Eval s = refl
behind_by inner clauses ExprTag.OnRemote s = refl
behind_by inner clauses ExprTag.OnNeighbor s = refl

pub expr_goes : (room : ℕ) (f g : Scan) (tag : ExprTag) → expr_tag_at room f ≡ Ok (tag, g) → 0 < room
    → expr_at room f ≡ expr_behind (expr_at (room - 1)) (clauses_at (clause_at (expr_at (room - 1)))) tag g
unfolding expr_core tagged_at
expr_goes zero f g tag e h = absurd (omega (arith, h))
expr_goes (suc room) f g tag e h =
    let same : room ≡ suc room - 1 = omega arith in
    bind_is _ e (behind_by (expr_part room) (clauses_part room (expr_part room)) tag g)
    ∙ (λ i. expr_behind (expr_at room) (λ s. clauses_read_is room s i) tag g)
    ∙ ap (λ n. expr_behind (expr_at n) (clauses_at (clause_at (expr_at n))) tag g) same

pub expr_stops : (room : ℕ) (f : Scan) (e : SpellFault) → expr_tag_at room f ≡ Err e → expr_at room f ≡ Err e
unfolding expr_core tagged_at
expr_stops zero f e h = bind_err _ h
expr_stops (suc room) f e h = bind_err _ h

-- ---- the loop over clauses

last_is : (n count k : ℕ) → count ≡ k + 1 + n → is_none_left n ≡ (k + 1 == count)
last_is zero count k e = grind (arith, nat_tests)
last_is (suc n) count k e = grind (arith, nat_tests)

module _ (one : Bool → Reader Clause) (xs : List Clause) (count k : ℕ) (s : Scan) (start : Result (List Clause × Scan) SpellFault) where
  pub clauses_fail : (e : SpellFault) → k < count → Fails e (one (k + 1 == count) s) → with_front xs (clauses_from one (count - k) s) ≡ start → Fails e start
  unfolding clauses_from
  clauses_fail e h f same =
      let n : ℕ = count - (k + 1) in
      let more : count - k ≡ suc n = omega arith in
      let total : count ≡ k + 1 + n = omega arith in
      fails_on e (one (k + 1 == count) s) start
      (λ r. sym same ∙ ap (λ m. with_front xs (clauses_from one m s)) more ∙ ap (with_front xs) (bind_err _ (ap (λ b. one b s) (last_is n count k total) ∙ r))) f

  pub clauses_go : (x : Clause) (g : Scan) → k < count → one (k + 1 == count) s ≡ Ok (x, g) → with_front xs (clauses_from one (count - k) s) ≡ start
      → with_front (xs ++ x ∷ []) (clauses_from one (count - (k + 1)) g) ≡ start
  unfolding clauses_from
  clauses_go x g h r same =
      let n : ℕ = count - (k + 1) in
      let more : count - k ≡ suc n = omega arith in
      let total : count ≡ k + 1 + n = omega arith in
      front (clauses_from one n g) ∙ ap (with_front xs) (sym (bind_is _ (ap (λ b. one b s) (last_is n count k total) ∙ r) refl))
      ∙ ap (λ m. with_front xs (clauses_from one m s)) (sym more) ∙ same
    where
      front : (q : Result (List Clause × Scan) SpellFault) → with_front (xs ++ x ∷ []) q ≡ with_front xs (q >>= λ others. Ok (x ∷ others.0, others.1))
      front (Ok y) = ap (λ l. Ok (l, y.1)) (append_assoc xs (x ∷ []) y.0)
      front (Err e) = refl

  pub clauses_done : count ≤ k → with_front xs (clauses_from one (count - k) s) ≡ start → start ≡ Ok (xs, s)
  unfolding clauses_from
  clauses_done h same =
      let none : count - k ≡ 0 = omega arith in
      sym same ∙ ap (λ n. with_front xs (clauses_from one n s)) none ∙ ap (λ l. Ok (l, s)) (append-nil xs)
