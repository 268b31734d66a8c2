-- What each form means as its operands in order, and what it makes of their values.
use Rattle.std.proofs.Common.{ℕ, List, [], ◌∷◌, ◌++◌}
use Rattle.plan_base.specs.declared.name.Name.{Name}
use Rattle.plan_base.specs.declared.ids.Host.{Host}
use Rattle.plan_base.specs.declared.tree.Chunk.{Chunk}
use Rattle.plan_base.specs.declared.tree.Expr.{Expr, Expr-F}
use Rattle.plan_base.specs.declared.tree.Program.{Program}
use Rattle.plan_base.specs.declared.tree.Value.{Value}
use Rattle.plan_base.specs.declared.tree.Value as value
use Rattle.plan_base.specs.Trees.{ExprLayer}
use Rattle.plan_meaning.specs.State.{VisitState}
use Rattle.plan_meaning.specs.Run.{Run, ◌>>=◌, ◌>>◌, pure, or_wrong}
use Rattle.plan_meaning.specs.Meaning.{Env, meaning, values_behind, values, called_name, opened_at, tuple, call, packed_chunk, choice, binding, sequence, conjunction, disjunction}
use Rattle.plan_meaning.specs.Meaning.{negation, operation, selection, fold_left, fold_right, evaluation, remote, neighbour, as_int, as_host, as_dev, as_chunk, send_remote, send_neighbour}
use Rattle.plan_eval_state.specs.Leads.{Leads}
use Rattle.plan_eval_state.specs.Forms.{IsOperation, operands, made, made_behind}
use Rattle.plan_eval_state.proofs.Leading.{itself, onward, regrouped, given_on, later, looked_for_later}

module _ (code : Program) (seen : ℕ) (env : Env) where
  -- values in order, and what is made of them
  row_made : (make : List Value → Run Value) (done : List Value) (es : List Expr) (s : VisitState)
      → Leads ((values_behind meaning done code seen env es >>= make) s) (made_behind code seen env make done es s)
  row_made make done [] s = given_on done s make
  row_made make done (e ∷ es) s =
      onward _ _ _ (regrouped (meaning code seen env e s) (λ v. values_behind meaning (done ++ v ∷ []) code seen env es) make)
      (later (meaning code seen env e s) (λ v. values_behind meaning (done ++ v ∷ []) code seen env es >>= make) (λ v. made_behind code seen env make (done ++ v ∷ []) es)
      (λ v t. row_made make (done ++ v ∷ []) es t))

  -- a value that must be there may be looked for behind two further operands
  module _ (a h n : Expr) (r : Name) (s : VisitState) where
    abbrev sent : Chunk → Host → Value → Run Value
    sent k host u = or_wrong (as_int u) >>= (λ b. send_remote k host b r >> pure value.Unit)

    bound_later : (c w : Value) (t : VisitState)
        → Leads ((or_wrong (as_chunk c) >>= (λ k. or_wrong (as_host w) >>= (λ host. meaning code seen env n >>= sent k host))) t)
        ((meaning code seen env n >>= (λ u. or_wrong (as_chunk c) >>= (λ k. or_wrong (as_host w) >>= (λ host. sent k host u)))) t)
    bound_later c w t =
        onward _ _ _
        (later (or_wrong (as_chunk c) t) (λ k. or_wrong (as_host w) >>= (λ host. meaning code seen env n >>= sent k host))
        (λ k. meaning code seen env n >>= (λ u. or_wrong (as_host w) >>= (λ host. sent k host u)))
        (λ k t. looked_for_later (as_host w) (meaning code seen env n) (sent k) t))
        (looked_for_later (as_chunk c) (meaning code seen env n) (λ k u. or_wrong (as_host w) >>= (λ host. sent k host u)) t)

    remote_made : Leads (remote meaning code seen env a h n r s) (made_behind code seen env (made code seen env (Expr-F.OnRemote a h n r)) [] (a ∷ h ∷ n ∷ []) s)
    unfolding remote
    remote_made =
        later (meaning code seen env a s) _ _
        (λ c t. onward _ _ _ (looked_for_later (as_chunk c) (meaning code seen env h) (λ k w. or_wrong (as_host w) >>= (λ host. meaning code seen env n >>= sent k host)) t)
        (later (meaning code seen env h t) _ _ (λ w t. bound_later c w t)))

  module _ (a h n d : Expr) (s : VisitState) where
    abbrev sent_near : Chunk → Host → Value → Value → Run Value
    sent_near k host u t = or_wrong (as_int u) >>= (λ b. or_wrong (as_dev t) >>= (λ dev. send_neighbour k host b dev >> pure value.Unit))

    -- behind the bound the device
    abbrev with_dev : Chunk → Host → Value → Run Value
    with_dev k host u = or_wrong (as_int u) >>= (λ b. meaning code seen env d >>= (λ t. or_wrong (as_dev t) >>= (λ dev. send_neighbour k host b dev >> pure value.Unit)))

    dev_last : (k : Chunk) (host : Host) (u : Value) (t : VisitState) → Leads (with_dev k host u t) ((meaning code seen env d >>= (λ v. sent_near k host u v)) t)
    dev_last k host u t = looked_for_later (as_int u) (meaning code seen env d) (λ b v. or_wrong (as_dev v) >>= (λ dev. send_neighbour k host b dev >> pure value.Unit)) t

    dev_later : (c w u : Value) (t : VisitState)
        → Leads ((or_wrong (as_chunk c) >>= (λ k. or_wrong (as_host w) >>= (λ host. with_dev k host u))) t)
        ((meaning code seen env d >>= (λ v. or_wrong (as_chunk c) >>= (λ k. or_wrong (as_host w) >>= (λ host. sent_near k host u v)))) t)
    dev_later c w u t =
        onward _ _ _
        (later (or_wrong (as_chunk c) t) (λ k. or_wrong (as_host w) >>= (λ host. with_dev k host u))
        (λ k. meaning code seen env d >>= (λ v. or_wrong (as_host w) >>= (λ host. sent_near k host u v)))
        (λ k t. onward _ _ _ (later (or_wrong (as_host w) t) (λ host. with_dev k host u) (λ host. meaning code seen env d >>= (λ v. sent_near k host u v)) (λ host t. dev_last k host u t))
        (looked_for_later (as_host w) (meaning code seen env d) (λ host v. sent_near k host u v) t)))
        (looked_for_later (as_chunk c) (meaning code seen env d) (λ k v. or_wrong (as_host w) >>= (λ host. sent_near k host u v)) t)

    near_later : (c w : Value) (t : VisitState)
        → Leads ((or_wrong (as_chunk c) >>= (λ k. or_wrong (as_host w) >>= (λ host. meaning code seen env n >>= with_dev k host))) t)
        ((meaning code seen env n >>= (λ u. or_wrong (as_chunk c) >>= (λ k. or_wrong (as_host w) >>= (λ host. with_dev k host u)))) t)
    near_later c w t =
        onward _ _ _
        (later (or_wrong (as_chunk c) t) (λ k. or_wrong (as_host w) >>= (λ host. meaning code seen env n >>= with_dev k host))
        (λ k. meaning code seen env n >>= (λ u. or_wrong (as_host w) >>= (λ host. with_dev k host u)))
        (λ k t. looked_for_later (as_host w) (meaning code seen env n) (with_dev k) t))
        (looked_for_later (as_chunk c) (meaning code seen env n) (λ k u. or_wrong (as_host w) >>= (λ host. with_dev k host u)) t)

    near_made : Leads (neighbour meaning code seen env a h n d s) (made_behind code seen env (made code seen env (Expr-F.OnNeighbor a h n d)) [] (a ∷ h ∷ n ∷ d ∷ []) s)
    unfolding neighbour
    near_made =
        later (meaning code seen env a s) _ _
        (λ c t. onward _ _ _ (looked_for_later (as_chunk c) (meaning code seen env h) (λ k w. or_wrong (as_host w) >>= (λ host. meaning code seen env n >>= with_dev k host)) t)
        (later (meaning code seen env h t) _ _ (λ w t. onward _ _ _ (near_later c w t) (later (meaning code seen env n t) _ _ (λ u t. dev_later c w u t)))))

  -- a form evaluates its operands in order, and makes something of their values
  pub opens : (l : ExprLayer) (s : VisitState) → IsOperation l
      → Leads (opened_at meaning code seen env l s) (made_behind code seen env (made code seen env l) [] (operands l) s)
  unfolding tuple call packed_chunk choice binding sequence conjunction disjunction negation operation selection fold_left fold_right evaluation values
  opens (Expr-F.Tuple es) s h = row_made (λ vs. pure (value.Tuple vs)) [] es s
  opens (Expr-F.Call f es) s h = row_made (called_name meaning code seen f) [] es s
  opens (Expr-F.ChunkOf f es) s h = row_made (λ vs. pure (value.Chunk (record { code = code; entry = f; args = vs }))) [] es s
  opens (Expr-F.If t a b) s h = itself _
  opens (Expr-F.Let x t a b) s h = itself _
  opens (Expr-F.Then a b) s h = itself _
  opens (Expr-F.And a b) s h = itself _
  opens (Expr-F.Or a b) s h = itself _
  opens (Expr-F.Not a) s h = itself _
  opens (Expr-F.Binary o a b) s h = itself _
  opens (Expr-F.Part i a) s h = itself _
  opens (Expr-F.Foldl f a l) s h = itself _
  opens (Expr-F.Foldr f a l) s h = itself _
  opens (Expr-F.Eval a) s h = itself _
  opens (Expr-F.OnRemote a h n r) s k = remote_made a h n r s
  opens (Expr-F.OnNeighbor a h n d) s k = near_made a h n d s
  opens _ s h = absurd h
