-- Further operands, items and `val` are read as far as they go.
use Rattle.std.proofs.Common.{◌≡◌, ◌≤◌, ℕ, zero, suc, length, Some, None, Ok, refl, ◌∙◌, ap, arith}
use Rattle.plan_parser_exprs.specs.declared.joint.Joint.{Joint}
use Rattle.plan_parser_exprs.specs.declared.joint.Chain.{Chain}
use Rattle.plan_parser_exprs.specs.declared.level.Level.{Level}
use Rattle.plan_parser_exprs.specs.declared.node.Node.{Node}
use Rattle.plan_parser_exprs.specs.Ahead.{Front, Reader, behind, next_kind}
use Rattle.plan_parser_exprs.specs.Joints.{joint_of}
use Rattle.plan_parser_exprs.specs.Nodes.{joined_nodes}
use Rattle.plan_parser_exprs.specs.Exprs.{chain_from, chained_operands}
use Rattle.plan_parser_laws.proofs.Follows.{Shorter, joint_stands}

-- the operands up to g are read and joined, and the reading goes on there
pub record SoFar (inner : Level → Reader Node) (room : ℕ) (one : Reader Node) (chain : Chain) (f : Front) (n : Node) (g : Front) : Type 0 where
  pub fuel : ℕ
  pub enough : length g.tokens ≤ fuel
  pub goes : chained_operands inner room one chain f ≡ chain_from one chain fuel n g

module _ (inner : Level → Reader Node) (room : ℕ) (one : Reader Node) (chain : Chain) where
  pub so_far_first : (f g : Front) (n : Node) → one f ≡ Ok (n, g) → SoFar inner room one chain f n g
  unfolding chained_operands
  so_far_first f g n e = record { fuel = length g.tokens; enough = omega arith; goes = rw e refl }

  one_step : (fuel : ℕ) (a b : Node) (g h : Front) (j : Joint) → joint_of chain (next_kind g) ≡ Some j → one (behind g) ≡ Ok (b, h)
      → chain_from one chain (suc fuel) a g ≡ chain_from one chain fuel (joined_nodes j a b) h
  unfolding chain_from
  one_step fuel a b g h j here right = rw (here, right) refl

  pub so_far_more : (f g h : Front) (a b : Node) (j : Joint) → SoFar inner room one chain f a g → joint_of chain (next_kind g) ≡ Some j → one (behind g) ≡ Ok (b, h) → Shorter (behind g) h
      → SoFar inner room one chain f (joined_nodes j a b) h
  so_far_more f g h a b j s here right fewer = go s.fuel refl
    where
      stands : Shorter g (behind g)
      stands = joint_stands chain g j here

      go : (k : ℕ) → s.fuel ≡ k → SoFar inner room one chain f (joined_nodes j a b) h
      go zero e = let enough = s.enough in let stood = stands.less in absurd (omega (arith, e, enough, stood))
      go (suc k) e =
          let enough = s.enough in let stood = stands.less in let less = fewer.less in
          record { fuel = k; enough = omega (arith, e, enough, stood, less); goes = s.goes ∙ ap (λ n. chain_from one chain n a g) e ∙ one_step k a b g h j here right }

  stops : (fuel : ℕ) (n : Node) (g : Front) → joint_of chain (next_kind g) ≡ None → chain_from one chain fuel n g ≡ Ok (n, g)
  unfolding chain_from
  stops zero n g e = refl
  stops (suc fuel) n g e = rw e refl

  pub so_far_ends : (f g : Front) (n : Node) → SoFar inner room one chain f n g → joint_of chain (next_kind g) ≡ None → chained_operands inner room one chain f ≡ Ok (n, g)
  so_far_ends f g n s e = s.goes ∙ stops s.fuel n g e
