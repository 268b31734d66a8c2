-- From operands up to whole expressions, where no further joint stands behind them.
use Rattle.std.proofs.Common.{◌≡◌, ℕ, zero, suc, ◌<◌, true, false, List, [], ◌∷◌, ◌++◌, length, Some, None, Ok, refl, ap, ◌∙◌, arith}
use Rattle.plan_lexer.specs.declared.token.Key.TheVariants as keys
use Rattle.plan_lexer.specs.declared.token.Symbol.TheVariants as symbols
use Rattle.plan_lexer.specs.declared.token.Token.{Token}
use Rattle.plan_lexer.specs.declared.token.TokenKind.{TokenKind}
use Rattle.plan_lexer.specs.declared.token.TokenKind.TheVariants as kind
use Rattle.plan_parser_exprs.specs.declared.joint.Joint.{Joint}
use Rattle.plan_parser_exprs.specs.declared.joint.Chain.{Chain}
use Rattle.plan_parser_exprs.specs.declared.joint.Chain.TheVariants as chains
use Rattle.plan_parser_exprs.specs.declared.level.Level.{Level}
use Rattle.plan_parser_exprs.specs.declared.level.Level.TheVariants as levels
use Rattle.plan_parser_exprs.specs.declared.node.Node.{Node}
use Rattle.plan_parser_exprs.specs.Ahead.{Front, Reader, ◌>>=◌, behind, next_kind, is_symbol_kind, is_key_kind, is_key}
use Rattle.plan_parser_exprs.specs.Begins.{kind_begins}
use Rattle.plan_parser_exprs.specs.Joints.{joint_of}
use Rattle.plan_parser_exprs.specs.Nodes.{joined_nodes}
use Rattle.plan_parser_exprs.specs.Exprs.{chain_from, operand, chained_operands, product, addition, listed_operands, compared_operands, comparison, negated_operand, conjunction, disjunction, low, whole, at_level}
use Rattle.program_text_laws.specs.Lexes.{kinds_of}
use Rattle.program_text_laws.specs.PrintedTokens.{Kinds}
use Rattle.program_text_laws.specs.Reads.{kinds_at, Took, first_kind, Ends}
use Rattle.program_text_laws.proofs.Steps.{took, then_took, took_by, next_is, behind_is, symbol_is, key_is}

-- tokens that begin with one that may begin an operand
pub record Starts (ks : Kinds) : Type 0 where
  pub first : TokenKind
  pub others : Kinds
  pub are : ks ≡ first ∷ others
  pub begin : kind_begins (Some first) ≡ true

-- ---- operands of a chain

chain_none : (one : Reader Node) (chain : Chain) (fuel : ℕ) (left : Node) (f : Front) → joint_of chain (next_kind f) ≡ None → chain_from one chain fuel left f ≡ Ok (left, f)
unfolding chain_from
chain_none one chain zero left f e = refl
chain_none one chain (suc fuel) left f e = rw e refl

chain_goes : (one : Reader Node) (chain : Chain) (fuel : ℕ) (left : Node) (f : Front) (joint : Joint) → joint_of chain (next_kind f) ≡ Some joint
    → chain_from one chain (suc fuel) left f ≡ (one (behind f) >>= λ right. chain_from one chain fuel (joined_nodes joint left right.0) right.1)
unfolding chain_from
chain_goes one chain fuel left f joint e = rw e refl

-- what two operands with their joint make
abbrev pub Joins : Joint → (Node → Type 0) → (Node → Type 0) → Node → Type 0
Joins joint P Q n = (a : Node) × (b : Node) × P a × Q b × (n ≡ joined_nodes joint a b)

one_more : (one : Reader Node) (chain : Chain) (joint : Joint) (k : TokenKind) (mid rest : Kinds) (P Q : Node → Type 0) → joint_of chain (Some k) ≡ Some joint → joint_of chain (first_kind rest) ≡ None
    → ((g : Front) → kinds_at g ≡ mid → Took (one g) rest Q) → (a : Node) → P a → (g : Front) → kinds_at g ≡ k ∷ mid → (fuel : ℕ) → 0 < fuel → Took (chain_from one chain fuel a g) rest (Joins joint P Q)
one_more one chain joint k mid rest P Q j n r a p g h zero some = absurd (omega (arith, some))
one_more one chain joint k mid rest P Q j n r a p g h (suc fuel) some =
    took_by (chain_goes one chain fuel a g joint (ap (joint_of chain) (next_is g (k ∷ mid) h) ∙ j))
    (then_took _ (r (behind g) (behind_is g k mid h))
    (λ b g2 h2 q. took_by (chain_none one chain fuel (joined_nodes joint a b) g2 (ap (joint_of chain) (next_is g2 rest h2) ∙ n)) (took (joined_nodes joint a b) g2 h2 (a, b, p, q, refl))))

some_left : (ts : List Token) (k : TokenKind) (ks : Kinds) → kinds_of ts ≡ k ∷ ks → 0 < length ts
some_left [] k ks h = absurd (cc)
some_left (t ∷ ts) k ks h = omega arith

module _ (inner : Level → Reader Node) (room : ℕ) where
  -- an operand without a joint behind it
  pub alone : (one : Reader Node) (chain : Chain) (f : Front) (rest : Kinds) {Q : Node → Type 0} → joint_of chain (first_kind rest) ≡ None → Took (one f) rest Q → Took (chained_operands inner room one chain f) rest Q
  unfolding chained_operands
  alone one chain f rest e t = then_took _ t (λ a g h q. took_by (chain_none one chain (length g.tokens) a g (ap (joint_of chain) (next_is g rest h) ∙ e)) (took a g h q))

  -- two operands with a joint between them
  pub two_are_joined : (one : Reader Node) (chain : Chain) (f : Front) (joint : Joint) (k : TokenKind) (mid rest : Kinds) {P Q : Node → Type 0} → joint_of chain (Some k) ≡ Some joint → joint_of chain (first_kind rest) ≡ None
      → Took (one f) (k ∷ mid) P → ((g : Front) → kinds_at g ≡ mid → Took (one g) rest Q) → Took (chained_operands inner room one chain f) rest (Joins joint P Q)
  unfolding chained_operands
  two_are_joined one chain f joint k mid rest {P = P} {Q = Q} j n t r =
      then_took _ t (λ a g h p. one_more one chain joint k mid rest P Q j n r a p g h (length g.tokens) (some_left g.tokens k mid h))

  pub up_product : (f : Front) (rest : Kinds) {Q : Node → Type 0} → joint_of chains.Product (first_kind rest) ≡ None → Took (operand inner room f) rest Q → Took (product inner room f) rest Q
  unfolding product
  up_product f rest e t = alone (operand inner room) chains.Product f rest e t

  pub up_addition : (f : Front) (rest : Kinds) {Q : Node → Type 0} → joint_of chains.Sum (first_kind rest) ≡ None → Took (product inner room f) rest Q → Took (addition inner room f) rest Q
  unfolding addition
  up_addition f rest e t = alone (product inner room) chains.Sum f rest e t

  pub up_listed : (f : Front) (rest : Kinds) {Q : Node → Type 0} → is_symbol_kind symbols.DoubleColon (first_kind rest) ≡ false → Took (addition inner room f) rest Q → Took (listed_operands inner room f) rest Q
  unfolding listed_operands
  up_listed f rest e t = then_took _ t (λ a g h q. rw (symbol_is symbols.DoubleColon g rest h ∙ e) (took a g h q))

  pub up_comparison : (f : Front) (rest : Kinds) {Q : Node → Type 0} → joint_of chains.Comparison (first_kind rest) ≡ None → Took (listed_operands inner room f) rest Q → Took (comparison inner room f) rest Q
  unfolding comparison
  up_comparison f rest e t = then_took _ t (λ a g h q. took_by (ap (compared_operands inner room a g) (ap (joint_of chains.Comparison) (next_is g rest h) ∙ e)) (took a g h q))

  pub up_negated : (f : Front) (rest : Kinds) {Q : Node → Type 0} → is_key keys.Not f ≡ false → Took (comparison inner room f) rest Q → Took (negated_operand inner room f) rest Q
  unfolding negated_operand
  up_negated f rest e t = rw e t

  pub up_conjunction : (f : Front) (rest : Kinds) {Q : Node → Type 0} → joint_of chains.And (first_kind rest) ≡ None → Took (negated_operand inner room f) rest Q → Took (conjunction inner room f) rest Q
  unfolding conjunction
  up_conjunction f rest e t = alone (negated_operand inner room) chains.And f rest e t

  pub up_disjunction : (f : Front) (rest : Kinds) {Q : Node → Type 0} → joint_of chains.Or (first_kind rest) ≡ None → Took (conjunction inner room f) rest Q → Took (disjunction inner room f) rest Q
  unfolding disjunction
  up_disjunction f rest e t = alone (conjunction inner room) chains.Or f rest e t

  pub up_low : (f : Front) (rest : Kinds) {Q : Node → Type 0} → is_key keys.If f ≡ false → Took (disjunction inner room f) rest Q → Took (low inner room f) rest Q
  unfolding low
  up_low f rest e t = rw e t

  pub up_whole : (f : Front) (rest : Kinds) {Q : Node → Type 0} → is_symbol_kind symbols.Semicolon (first_kind rest) ≡ false → Took (low inner room f) rest Q → Took (whole inner room f) rest Q
  unfolding whole
  up_whole f rest e t = then_took _ t (λ a g h q. rw (symbol_is symbols.Semicolon g rest h ∙ e) (took a g h q))

-- ---- whole expressions

no_not : (k : TokenKind) → kind_begins (Some k) ≡ true → is_key_kind keys.Not (Some k) ≡ false
no_not (kind.Key keys.And) h = refl
no_not (kind.Key keys.Blob) h = refl
no_not (kind.Key keys.Bool) h = refl
no_not (kind.Key keys.Char) h = refl
no_not (kind.Key keys.Chunk) h = refl
no_not (kind.Key keys.Dev) h = refl
no_not (kind.Key keys.Else) h = refl
no_not (kind.Key keys.End) h = refl
no_not (kind.Key keys.Eval) h = refl
no_not (kind.Key keys.Exception) h = refl
no_not (kind.Key keys.False) h = refl
no_not (kind.Key keys.Foldl) h = refl
no_not (kind.Key keys.Foldr) h = refl
no_not (kind.Key keys.Fun) h = refl
no_not (kind.Key keys.Handle) h = refl
no_not (kind.Key keys.Host) h = refl
no_not (kind.Key keys.If) h = refl
no_not (kind.Key keys.In) h = refl
no_not (kind.Key keys.Int) h = refl
no_not (kind.Key keys.Let) h = refl
no_not (kind.Key keys.List) h = refl
no_not (kind.Key keys.Mod) h = refl
no_not (kind.Key keys.Not) h = absurd (cc)
no_not (kind.Key keys.OnNeighbor) h = refl
no_not (kind.Key keys.OnRemote) h = refl
no_not (kind.Key keys.Or) h = refl
no_not (kind.Key keys.Raise) h = refl
no_not (kind.Key keys.Str) h = refl
no_not (kind.Key keys.Svc) h = refl
no_not (kind.Key keys.Then) h = refl
no_not (kind.Key keys.True) h = refl
no_not (kind.Key keys.Try) h = refl
no_not (kind.Key keys.Unit) h = refl
no_not (kind.Key keys.Val) h = refl
no_not _ h = refl

no_if : (k : TokenKind) → kind_begins (Some k) ≡ true → is_key_kind keys.If (Some k) ≡ false
no_if (kind.Key keys.And) h = refl
no_if (kind.Key keys.Blob) h = refl
no_if (kind.Key keys.Bool) h = refl
no_if (kind.Key keys.Char) h = refl
no_if (kind.Key keys.Chunk) h = refl
no_if (kind.Key keys.Dev) h = refl
no_if (kind.Key keys.Else) h = refl
no_if (kind.Key keys.End) h = refl
no_if (kind.Key keys.Eval) h = refl
no_if (kind.Key keys.Exception) h = refl
no_if (kind.Key keys.False) h = refl
no_if (kind.Key keys.Foldl) h = refl
no_if (kind.Key keys.Foldr) h = refl
no_if (kind.Key keys.Fun) h = refl
no_if (kind.Key keys.Handle) h = refl
no_if (kind.Key keys.Host) h = refl
no_if (kind.Key keys.If) h = absurd (cc)
no_if (kind.Key keys.In) h = refl
no_if (kind.Key keys.Int) h = refl
no_if (kind.Key keys.Let) h = refl
no_if (kind.Key keys.List) h = refl
no_if (kind.Key keys.Mod) h = refl
no_if (kind.Key keys.Not) h = refl
no_if (kind.Key keys.OnNeighbor) h = refl
no_if (kind.Key keys.OnRemote) h = refl
no_if (kind.Key keys.Or) h = refl
no_if (kind.Key keys.Raise) h = refl
no_if (kind.Key keys.Str) h = refl
no_if (kind.Key keys.Svc) h = refl
no_if (kind.Key keys.Then) h = refl
no_if (kind.Key keys.True) h = refl
no_if (kind.Key keys.Try) h = refl
no_if (kind.Key keys.Unit) h = refl
no_if (kind.Key keys.Val) h = refl
no_if _ h = refl

module _ (inner : Level → Reader Node) (room : ℕ) (f : Front) (ks rest : Kinds) (at : kinds_at f ≡ ks ++ rest) (s : Starts ks) where
  first_is : first_kind (ks ++ rest) ≡ Some s.first
  first_is = ap (λ l. first_kind (l ++ rest)) s.are

  pub isnt_not : is_key keys.Not f ≡ false
  isnt_not = key_is keys.Not f (ks ++ rest) at ∙ (ap (is_key_kind keys.Not) first_is ∙ no_not s.first s.begin)

  pub isnt_if : is_key keys.If f ≡ false
  isnt_if = key_is keys.If f (ks ++ rest) at ∙ (ap (is_key_kind keys.If) first_is ∙ no_if s.first s.begin)

  -- an operand at each level above it
  pub at_every_level : {Q : Node → Type 0} → Ends (first_kind rest) → Took (operand inner room f) rest Q → (level : Level) → Took (at_level inner room level f) rest Q
  unfolding at_level
  at_every_level e t levels.Operand = t
  at_every_level e t levels.Listed = up_listed inner room f rest e.cons (up_addition inner room f rest e.sum (up_product inner room f rest e.product t))
  at_every_level e t levels.Negated = up_negated inner room f rest isnt_not (up_comparison inner room f rest e.comparison (up_listed inner room f rest e.cons (up_addition inner room f rest e.sum (up_product inner room f rest e.product t))))
  at_every_level e t levels.Low =
      up_low inner room f rest isnt_if (up_disjunction inner room f rest e.either (up_conjunction inner room f rest e.both
      (up_negated inner room f rest isnt_not (up_comparison inner room f rest e.comparison (up_listed inner room f rest e.cons (up_addition inner room f rest e.sum (up_product inner room f rest e.product t)))))))
  at_every_level e t levels.Whole =
      up_whole inner room f rest e.next (up_low inner room f rest isnt_if (up_disjunction inner room f rest e.either (up_conjunction inner room f rest e.both
      (up_negated inner room f rest isnt_not (up_comparison inner room f rest e.comparison (up_listed inner room f rest e.cons (up_addition inner room f rest e.sum (up_product inner room f rest e.product t))))))))
