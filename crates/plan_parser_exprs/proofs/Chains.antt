-- Steps of reading further operands, further `val` and further clauses.
use Rattle.std.proofs.Common.{◌≡◌, ◌+◌, ◌-◌, ◌<◌, ◌≤◌, ℕ, zero, suc, true, false, List, [], ◌∷◌, ◌++◌, Some, None, Ok, Err, if◌then◌else◌, refl, ◌∙◌, arith}
use Rattle.plan_base.specs.declared.limit.Limit.TheVariants as limits
use Rattle.plan_lexer.specs.declared.token.Key.TheVariants as keys
use Rattle.plan_parser_exprs.specs.declared.fault.ParseFault.{ParseFault}
use Rattle.plan_parser_exprs.specs.declared.fault.Wanted.TheVariants as wanted
use Rattle.plan_parser_exprs.specs.declared.joint.Joint.{Joint}
use Rattle.plan_parser_exprs.specs.declared.joint.Chain.{Chain}
use Rattle.plan_parser_exprs.specs.declared.level.Level.{Level}
use Rattle.plan_parser_exprs.specs.declared.node.Node.{Node}
use Rattle.plan_parser_exprs.specs.declared.node.Bound.{Bound}
use Rattle.plan_parser_exprs.specs.declared.node.Caught.{Caught}
use Rattle.plan_parser_exprs.specs.Ahead.{Front, Reader, ◌>>=◌, place, behind, next_kind, is_key}
use Rattle.plan_parser_exprs.specs.Types.{past}
use Rattle.plan_parser_exprs.specs.Joints.{joint_of}
use Rattle.plan_parser_exprs.specs.Nodes.{joined_nodes}
use Rattle.plan_parser_exprs.specs.Exprs.{chain_from, binding, bindings_from, clause, clauses_from, clause_follows, begins_clause}

module _ (one : Reader Node) (chain : Chain) where
  chain_none : (fuel : ℕ) (left : Node) (f : Front) → joint_of chain (next_kind f) ≡ None → chain_from one chain fuel left f ≡ Ok (left, f)
  unfolding chain_from
  chain_none zero left f e = refl
  chain_none (suc fuel) left f e = rw e refl

  chain_zero : (fuel : ℕ) (left : Node) (f : Front) → fuel ≡ 0 → chain_from one chain fuel left f ≡ Ok (left, f)
  unfolding chain_from
  chain_zero fuel left f n = rw n refl

  chain_goes : (fuel rest : ℕ) (left : Node) (f : Front) (joint : Joint) → fuel ≡ suc rest → joint_of chain (next_kind f) ≡ Some joint
      → chain_from one chain fuel left f ≡ (one (behind f) >>= λ right. chain_from one chain rest (joined_nodes joint left right.0) right.1)
  unfolding chain_from
  chain_goes fuel rest left f joint n e = rw (n, e) refl

  -- all tokens were looked at
  pub chain_done : (n k : ℕ) (left : Node) (f : Front) → n ≤ k → chain_from one chain (n - k) left f ≡ Ok (left, f)
  chain_done n k left f h = chain_zero (n - k) left f (omega (arith, h))

  -- no joint stands here
  pub chain_end : (n k : ℕ) (left : Node) (f : Front) → joint_of chain (next_kind f) ≡ None → chain_from one chain (n - k) left f ≡ Ok (left, f)
  chain_end n k left f e = chain_none (n - k) left f e

  -- an operand that can't be read ends the reading
  pub chain_stop : (n k : ℕ) (left : Node) (f : Front) (joint : Joint) (e : ParseFault) → k < n → joint_of chain (next_kind f) ≡ Some joint → one (behind f) ≡ Err e
      → chain_from one chain (n - k) left f ≡ Err e
  chain_stop n k left f joint e h here stop = chain_goes (n - k) (n - (k + 1)) left f joint (omega (arith, h)) here ∙ rw stop refl

  -- an operand that is read is joined
  pub chain_step : (n k : ℕ) (left right : Node) (f g : Front) (joint : Joint) → k < n → joint_of chain (next_kind f) ≡ Some joint → one (behind f) ≡ Ok (right, g)
      → chain_from one chain (n - k) left f ≡ chain_from one chain (n - (k + 1)) (joined_nodes joint left right) g
  chain_step n k left right f g joint h here step = chain_goes (n - k) (n - (k + 1)) left f joint (omega (arith, h)) here ∙ rw step refl

module _ (inner : Level → Reader Node) (room : ℕ) where
  bindings_none : (fuel : ℕ) (done : List Bound) (f : Front) → is_key keys.Val f ≡ false → bindings_from inner room fuel done f ≡ Ok (done, f)
  unfolding bindings_from
  bindings_none zero done f e = refl
  bindings_none (suc fuel) done f e = rw e refl

  bindings_zero : (fuel : ℕ) (done : List Bound) (f : Front) → fuel ≡ 0 → bindings_from inner room fuel done f ≡ Ok (done, f)
  unfolding bindings_from
  bindings_zero fuel done f n = rw n refl

  bindings_go : (fuel rest : ℕ) (done : List Bound) (f : Front) → fuel ≡ suc rest → is_key keys.Val f ≡ true
      → bindings_from inner room fuel done f ≡ (binding inner room (place f) f >>= λ b. bindings_from inner room rest (done ++ b.0 ∷ []) b.1)
  unfolding bindings_from
  bindings_go fuel rest done f n e = rw (n, e) refl

  pub bindings_done : (n k : ℕ) (done : List Bound) (f : Front) → n ≤ k → bindings_from inner room (n - k) done f ≡ Ok (done, f)
  bindings_done n k done f h = bindings_zero (n - k) done f (omega (arith, h))

  pub bindings_end : (n k : ℕ) (done : List Bound) (f : Front) → is_key keys.Val f ≡ false → bindings_from inner room (n - k) done f ≡ Ok (done, f)
  bindings_end n k done f e = bindings_none (n - k) done f e

  pub bindings_stop : (n k : ℕ) (done : List Bound) (f : Front) (e : ParseFault) → k < n → is_key keys.Val f ≡ true → binding inner room (place f) f ≡ Err e
      → bindings_from inner room (n - k) done f ≡ Err e
  bindings_stop n k done f e h here stop = bindings_go (n - k) (n - (k + 1)) done f (omega (arith, h)) here ∙ rw stop refl

  pub bindings_step : (n k : ℕ) (done : List Bound) (f g : Front) (b : Bound) → k < n → is_key keys.Val f ≡ true → binding inner room (place f) f ≡ Ok (b, g)
      → bindings_from inner room (n - k) done f ≡ bindings_from inner room (n - (k + 1)) (done ++ b ∷ []) g
  bindings_step n k done f g b h here step = bindings_go (n - k) (n - (k + 1)) done f (omega (arith, h)) here ∙ rw step refl

  clauses_zero : (fuel : ℕ) (done : List Caught) (f : Front) → fuel ≡ 0 → clauses_from inner room fuel done f ≡ Err (past begins_clause limits.Clauses wanted.AName f)
  unfolding clauses_from
  clauses_zero fuel done f n = rw n refl

  clauses_go : (fuel rest : ℕ) (done : List Caught) (f g : Front) (c : Caught) → fuel ≡ suc rest → clause inner room f ≡ Ok (c, g)
      → clauses_from inner room fuel done f ≡ (if clause_follows c.name g then clauses_from inner room rest (done ++ c ∷ []) (behind g) else Ok (done ++ c ∷ [], g))
  unfolding clauses_from
  clauses_go fuel rest done f g c n e = rw (n, e) refl

  clauses_halt : (fuel rest : ℕ) (done : List Caught) (f : Front) (e : ParseFault) → fuel ≡ suc rest → clause inner room f ≡ Err e
      → clauses_from inner room fuel done f ≡ Err e
  unfolding clauses_from
  clauses_halt fuel rest done f e n stop = rw (n, stop) refl

  -- a ninth clause is refused
  pub clauses_done : (n k : ℕ) (done : List Caught) (f : Front) → n ≤ k → clauses_from inner room (n - k) done f ≡ Err (past begins_clause limits.Clauses wanted.AName f)
  clauses_done n k done f h = clauses_zero (n - k) done f (omega (arith, h))

  -- the last clause
  pub clauses_end : (n k : ℕ) (done : List Caught) (f g : Front) (c : Caught) → k < n → clause inner room f ≡ Ok (c, g) → clause_follows c.name g ≡ false
      → clauses_from inner room (n - k) done f ≡ Ok (done ++ c ∷ [], g)
  clauses_end n k done f g c h read last = clauses_go (n - k) (n - (k + 1)) done f g c (omega (arith, h)) read ∙ rw last refl

  -- a clause that can't be read ends the reading
  pub clauses_stop : (n k : ℕ) (done : List Caught) (f : Front) (e : ParseFault) → k < n → clause inner room f ≡ Err e
      → clauses_from inner room (n - k) done f ≡ Err e
  clauses_stop n k done f e h stop = clauses_halt (n - k) (n - (k + 1)) done f e (omega (arith, h)) stop

  -- a clause before another
  pub clauses_step : (n k : ℕ) (done : List Caught) (f g : Front) (c : Caught) → k < n → clause inner room f ≡ Ok (c, g) → clause_follows c.name g ≡ true
      → clauses_from inner room (n - k) done f ≡ clauses_from inner room (n - (k + 1)) (done ++ c ∷ []) (behind g)
  clauses_step n k done f g c h read more = clauses_go (n - k) (n - (k + 1)) done f g c (omega (arith, h)) read ∙ rw more refl
