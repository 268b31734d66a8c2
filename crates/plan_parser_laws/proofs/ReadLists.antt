-- What repeated readings give: further items behind separators, further operands behind joints.
use Rattle.std.proofs.Common.{◌≡◌, ◌≤◌, ℕ, zero, suc, Bool, List, [], ◌∷◌, ◌++◌, length, Option, Some, None, refl, sym, ◌∙◌, append_assoc, append-nil, arith}
use Rattle.plan_base.specs.declared.limit.Limit.{Limit}
use Rattle.plan_lexer.specs.declared.token.Symbol.{Symbol}
use Rattle.plan_parser_exprs.specs.declared.fault.Wanted.{Wanted}
use Rattle.plan_parser_exprs.specs.declared.joint.Joint.{Joint}
use Rattle.plan_parser_exprs.specs.declared.joint.Chain.{Chain}
use Rattle.plan_parser_exprs.specs.declared.level.Level.{Level}
use Rattle.plan_parser_exprs.specs.declared.node.Node.{Node}
use Rattle.plan_parser_exprs.specs.Ahead.{Front, Reader, behind, next_kind}
use Rattle.plan_parser_exprs.specs.Types.{more}
use Rattle.plan_parser_exprs.specs.Joints.{joint_of}
use Rattle.plan_parser_exprs.specs.Nodes.{joined_nodes}
use Rattle.plan_parser_exprs.specs.Exprs.{chain_step, chain_from, chained_operands}
use Rattle.plan_parser_laws.specs.Grammar.{Sym, Joins}
use Rattle.plan_parser_laws.proofs.ReadSteps.{Reads, found_reads, refusal_reads, after, weaker, if_symbol}

-- what stands behind some items that were read
pub record Added {A : Type 0} (Many : Front → List A → Front → Type 0) (most : ℕ) (done : List A) (f : Front) (all : List A) (g : Front) : Type 0 where
  pub rest : List A
  pub is : all ≡ done ++ rest
  pub many : Many f rest g
  pub few : length rest ≤ most

module _ {A : Type 0} (one : Reader A) (begins : Front → Bool) (sep : Symbol) (limit : Limit) (what : Wanted)
    (One : Front → A → Front → Type 0) (Many : Front → List A → Front → Type 0)
    (none : (f : Front) → Many f [] f)
    (next : (f g h : Front) (x : A) (xs : List A) → Sym sep f → One (behind f) x g → Many g xs h → Many f (x ∷ xs) h)
    (reads : (f : Front) → Reads (One f) (one f)) where
  nothing : (most : ℕ) (done : List A) (f : Front) → Added Many most done f done f
  nothing most done f = record { rest = []; is = sym (append-nil done); many = none f; few = omega arith }

  pub more_reads : (most : ℕ) (done : List A) (f : Front) → Reads (Added Many most done f) (more one begins sep limit what most done f)
  unfolding more
  more_reads zero done f = if_symbol (Added Many 0 done f) sep f _ _ (λ _. refusal_reads (Added Many 0 done f) _) (found_reads (Added Many 0 done f) done f (nothing 0 done f))
  more_reads (suc left) done f =
      if_symbol (Added Many (suc left) done f) sep f _ _
      (λ here. after (One (behind f)) (Added Many (suc left) done f) (one (behind f)) _ (reads (behind f))
      (λ x g first. weaker (Added Many left (done ++ x ∷ []) g) (Added Many (suc left) done f) _ (more_reads left (done ++ x ∷ []) g)
      (λ all h a. record {
        rest = x ∷ a.rest;
        is = a.is ∙ append_assoc done (x ∷ []) a.rest;
        many = next f g h x a.rest here first a.many;
        few = (let k = a.few in omega (arith, k));
      })))
      (found_reads (Added Many (suc left) done f) done f (nothing (suc left) done f))

module _ (inner : Level → Reader Node) (room : ℕ) (one : Reader Node) (chain : Chain) (One Many : Front → Node → Front → Type 0)
    (next : (f g h : Front) (a b : Node) (j : Joint) → Many f a g → Joins chain j g → One (behind g) b h → Many f (joined_nodes j a b) h)
    (first : (f g : Front) (n : Node) → One f n g → Many f n g)
    (reads : (f : Front) → Reads (One f) (one f)) where
  pub chain_reads : (fuel : ℕ) (f : Front) (left : Node) (g : Front) → Many f left g → Reads (Many f) (chain_from one chain fuel left g)
  unfolding chain_from
  chain_reads zero f left g m = found_reads (Many f) left g m
  chain_reads (suc fuel) f left g m = go (λ k h p. chain_reads fuel f k h p) (joint_of chain (next_kind g)) refl
    where
      go : ((k : Node) (h : Front) → Many f k h → Reads (Many f) (chain_from one chain fuel k h)) → (o : Option Joint) → joint_of chain (next_kind g) ≡ o
          → Reads (Many f) (chain_step one (chain_from one chain fuel) left g o)
      go on (Some j) e = after (One (behind g)) (Many f) (one (behind g)) _ (reads (behind g)) (λ b h p. on (joined_nodes j left b) h (next f g h left b j m e p))
      go on None e = found_reads (Many f) left g m

  pub chained_reads : (f : Front) → Reads (Many f) (chained_operands inner room one chain f)
  unfolding chained_operands
  chained_reads f = after (One f) (Many f) (one f) _ (reads f) (λ n g p. chain_reads (length g.tokens) f n g (first f g n p))
