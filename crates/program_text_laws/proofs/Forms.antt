-- How each printed form is read, from the readings of its parts.
use Rattle.std.proofs.Common.{◌≡◌, ℕ, zero, suc, ◌+◌, ◌*◌, ◌<◌, ◌≤◌, max, Bool, true, false, ◌||◌, [], ◌∷◌, ◌++◌, length, Option, Some, None, refl, sym, ap, ◌∙◌, subst, arith, append_assoc, length-append, nat_lt}
use Rattle.std.proofs.lemmas.Bool.Decides.{nat_tests}
use Rattle.plan_base.specs.declared.tree.Expr.{Expr, Expr-F, out-Expr, roll-Expr, roll-out-Expr}
use Rattle.plan_base.specs.declared.tree.Clause.{Clause}
use Rattle.plan_base.specs.Sizes.{expr_depth_level, expr_depth, clause_depth, expr_nodes_level, expr_nodes, clause_nodes}
use Rattle.plan_base.proofs.SizeLaws.{expr_depth_out, expr_nodes_out}
use Rattle.plan_lexer.specs.declared.token.Key.TheVariants as keys
use Rattle.plan_lexer.specs.declared.token.Symbol.TheVariants as symbols
use Rattle.plan_lexer.specs.declared.token.TokenKind.{TokenKind}
use Rattle.plan_lexer.specs.declared.token.TokenKind.TheVariants as kind
use Rattle.plan_parser_exprs.specs.declared.joint.Joint.{Joint}
use Rattle.plan_parser_exprs.specs.declared.joint.Chain.{Chain}
use Rattle.plan_parser_exprs.specs.declared.joint.Chain.TheVariants as chains
use Rattle.plan_parser_exprs.specs.declared.level.Level.{Level}
use Rattle.plan_parser_exprs.specs.declared.level.Level.TheVariants as levels
use Rattle.plan_parser_exprs.specs.declared.node.Node.{Node}
use Rattle.plan_parser_exprs.specs.declared.node.Below.{Below}
use Rattle.plan_parser_exprs.specs.Ahead.{Front, Reader, behind, is_symbol_kind, is_key_kind, is_key}
use Rattle.plan_parser_exprs.specs.Begins.{kind_begins, begins_operand, begins_negated, begins_expr}
use Rattle.plan_parser_exprs.specs.Joints.{joint_of, joined_tree}
use Rattle.plan_parser_exprs.specs.Nodes.{over, below_of, both, joined_nodes}
use Rattle.plan_parser_exprs.specs.Exprs.{operand_kind, operand, product, addition, listed_operands, compared_operands, comparison, negated_operand, conjunction, disjunction, whole, at_level, expr_to}
use Rattle.plan_parser_exprs.specs.Exprs.{single, grouped_expression, parens_behind, parens, symbol_form}
use Rattle.program_text_laws.specs.PrintedTokens.{Kinds, expr_kinds_level, clause_kinds, expr_kinds}
use Rattle.program_text_laws.proofs.KindsOut.{expr_kinds_out}
use Rattle.program_text_laws.specs.Reads.{kinds_at, Took, first_kind, IsNode, Ends}
use Rattle.program_text_laws.proofs.Steps.{took, then_took, took_by, weaker, next_is, behind_is, symbol_is, take_symbol, take_open}
use Rattle.program_text_laws.proofs.Ladder.{Starts, two_are_joined, Joins, up_product, up_addition, up_listed, up_comparison, up_negated, up_conjunction, up_disjunction, up_low, up_whole, isnt_not, isnt_if, at_every_level}

-- ---- nodes

depth_below : (n : ℕ) → n < 64 → nat_lt n 64 ≡ true
depth_below n h = grind (arith, nat_tests)

-- an expression over others that isn't too deep is kept
pub is_over : (e tree : Expr) (at : ℕ) (b : Below) → tree ≡ e → b.depth + 1 ≡ expr_depth e → expr_depth e ≤ 64 → length b.places + 1 ≡ expr_nodes e → IsNode e (over tree at b)
unfolding over
is_over e tree at b t d most n = rw (depth_below b.depth (omega (arith, d, most))) (record { tree = t; depth = d; nodes = n })

-- how deep an expression is, and how many expressions it has
pub record Measured (e : Expr) (deep many : ℕ) : Type 0 where
  pub depth : expr_depth e ≡ deep
  pub nodes : expr_nodes e ≡ many

-- an expression of its level
pub made_of : (e : Expr) (l : Expr-F Expr Clause) → out-Expr e ≡ l → e ≡ roll-Expr l
made_of e l o = sym (roll-out-Expr e) ∙ ap roll-Expr o

pub measured_by_level : (e : Expr) (l : Expr-F Expr Clause) → out-Expr e ≡ l → Measured e (expr_depth_level expr_depth clause_depth l) (expr_nodes_level expr_nodes clause_nodes l)
measured_by_level e l o = record { depth = expr_depth_out e ∙ ap (expr_depth_level expr_depth clause_depth) o; nodes = expr_nodes_out e ∙ ap (expr_nodes_level expr_nodes clause_nodes) o }

pub kinds_are : (e : Expr) (l : Expr-F Expr Clause) → out-Expr e ≡ l → expr_kinds e ≡ expr_kinds_level expr_kinds clause_kinds l
kinds_are e l o = expr_kinds_out e ∙ ap (expr_kinds_level expr_kinds clause_kinds) o

-- ---- what an expression owes

-- an expression is read as an operand before what is no bracket
abbrev pub ReadsOperand : ℕ → Expr → Type 0
ReadsOperand room e = (f : Front) (rest : Kinds) → kinds_at f ≡ expr_kinds e ++ rest → is_symbol_kind symbols.ParenOpen (first_kind rest) ≡ false → Took (operand (expr_to room) room f) rest (IsNode e)

pub record IsRead (e : Expr) : Type 0 where
  pub starts : Starts (expr_kinds e)
  pub shallow : expr_depth e ≤ 64
  pub operand : (room : ℕ) → 2 * expr_depth e + 7 ≤ room → ReadsOperand room e

-- ---- kinds, regrouped

pub nest : (a b rest : Kinds) {c : Kinds} → b ++ rest ≡ c → (a ++ b) ++ rest ≡ a ++ c
nest a b rest e = append_assoc a b rest ∙ ap (λ s. a ++ s) e

pub behind_one : (k : TokenKind) {b c : Kinds} → b ≡ c → k ∷ b ≡ k ∷ c
behind_one k e = ap (λ s. k ∷ s) e

-- ---- an expression at any level

-- an expression is read at each level where nothing joins it
pub level_took : (e : Expr) → IsRead e → (most : ℕ) → 2 * expr_depth e + 8 ≤ most → (level : Level) (f : Front) (rest : Kinds) → kinds_at f ≡ expr_kinds e ++ rest → Ends (first_kind rest)
    → Took (expr_to most level f) rest (IsNode e)
unfolding expr_to
level_took e r zero n level f rest h w = absurd (omega (arith, n))
level_took e r (suc room) n level f rest h w = at_every_level (expr_to room) room f (expr_kinds e) rest h r.starts w (r.operand room (omega (arith, n)) f rest h w.call) level

-- ---- brackets

abbrev pub expr_begins : Option TokenKind → Bool
expr_begins k = is_key_kind keys.If k || (is_key_kind keys.Not k || kind_begins k)

pub begins_is : (f : Front) (ks : Kinds) → kinds_at f ≡ ks → begins_expr f ≡ expr_begins (first_kind ks)
unfolding begins_expr begins_negated begins_operand is_key
begins_is f ks h = ap (λ k. is_key_kind keys.If k || (is_key_kind keys.Not k || kind_begins k)) (next_is f ks h)

pub operand_is : (inner : Level → Reader Node) (room : ℕ) (f : Front) (ks : Kinds) → kinds_at f ≡ ks → operand inner room f ≡ operand_kind inner room f (first_kind ks)
unfolding operand
operand_is inner room f ks h = ap (operand_kind inner room f) (next_is f ks h)

-- what stands in round brackets alone is what the brackets give
pub parens_took : (room : ℕ) (f : Front) (k : TokenKind) (ks rest : Kinds) {Q : Node → Type 0} → 0 < room → kinds_at f ≡ kind.Symbol symbols.ParenOpen ∷ k ∷ ks
    → is_symbol_kind symbols.ParenClose (Some k) ≡ false → expr_begins (Some k) ≡ true
    → ((g : Front) → kinds_at g ≡ k ∷ ks → Took (expr_to room levels.Whole g) (kind.Symbol symbols.ParenClose ∷ rest) Q) → Took (operand (expr_to room) room f) rest Q
unfolding symbol_form parens parens_behind grouped_expression single
parens_took room f k ks rest n h shut begin r =
    let g : Front = behind f in
    let hg : kinds_at g ≡ k ∷ ks = behind_is f (kind.Symbol symbols.ParenOpen) (k ∷ ks) h in
    took_by (operand_is (expr_to room) room f (kind.Symbol symbols.ParenOpen ∷ k ∷ ks) h)
    (then_took _ (take_open room f (kind.Symbol symbols.ParenOpen ∷ k ∷ ks) n h)
    (λ u v w q. rw (symbol_is symbols.ParenClose g (k ∷ ks) hg ∙ shut) (rw (begins_is g (k ∷ ks) hg ∙ begin)
    (then_took _ (r g hg)
    (λ a m hm p. rw (symbol_is symbols.Comma m (kind.Symbol symbols.ParenClose ∷ rest) hm) (then_took _ (take_symbol symbols.ParenClose m rest hm) (λ u2 m2 h2 q2. took a m2 h2 p)))))))

-- ---- operators

-- which chain an operator belongs to, and its symbol or word
pub record IsChained (chain : Chain) (k : TokenKind) (j : Joint) : Type 0 where
  pub joint : joint_of chain (Some k) ≡ Some j

pub ends_paren : Ends (Some (kind.Symbol symbols.ParenClose))
ends_paren = record { product = refl; sum = refl; cons = refl; comparison = refl; both = refl; either = refl; next = refl; call = refl }

-- two expressions with a joint that makes e of them
pub record AreJoined (e : Expr) (j : Joint) (a b : Expr) : Type 0 where
  pub tree : joined_tree j a b ≡ e
  pub size : Measured e (1 + max (expr_depth a) (expr_depth b)) (1 + expr_nodes a + expr_nodes b)

pub join_good : (e : Expr) (j : Joint) (a b : Expr) → AreJoined e j a b → expr_depth e ≤ 64 → (n : Node) → Joins j (IsNode a) (IsNode b) n → IsNode e n
join_good e j a b m most n q = let v = q.2 in let w = q.3 in
    subst (λ z. IsNode e z) (sym q.4) (is_over e (joined_tree j q.0.tree q.1.tree) q.0.at (both (below_of q.0) (below_of q.1))
    (ap (λ t. joined_tree j t q.1.tree) v.tree ∙ (ap (λ t. joined_tree j a t) w.tree ∙ m.tree)) (omega (arith, v.depth, w.depth, m.size.depth)) most (simp length-append (omega (arith, v.nodes, w.nodes, m.size.nodes))))

module _ (inner : Level → Reader Node) (room : ℕ) (f : Front) (ka mid rest : Kinds) (k : TokenKind) (j : Joint) (at : kinds_at f ≡ ka ++ (k ∷ mid)) (s : Starts ka) {P Q : Node → Type 0} where
  -- operands of `*`, `/` and `mod`
  product_pair : joint_of chains.Product (Some k) ≡ Some j → Took (operand inner room f) (k ∷ mid) P → ((g : Front) → kinds_at g ≡ mid → Took (operand inner room g) (kind.Symbol symbols.ParenClose ∷ rest) Q)
      → Took (whole inner room f) (kind.Symbol symbols.ParenClose ∷ rest) (Joins j P Q)
  unfolding product
  product_pair e t r =
      let c : Kinds = kind.Symbol symbols.ParenClose ∷ rest in
      let p : Took (product inner room f) c (Joins j P Q) = two_are_joined inner room (operand inner room) chains.Product f j k mid c e refl t r in
      up_whole inner room f c refl (up_low inner room f c (isnt_if inner room f ka (k ∷ mid) at s) (up_disjunction inner room f c refl (up_conjunction inner room f c refl
      (up_negated inner room f c (isnt_not inner room f ka (k ∷ mid) at s) (up_comparison inner room f c refl (up_listed inner room f c refl (up_addition inner room f c refl p)))))))

  -- operands of `+`, `-` and `^`
  sum_pair : joint_of chains.Sum (Some k) ≡ Some j → Took (product inner room f) (k ∷ mid) P → ((g : Front) → kinds_at g ≡ mid → Took (product inner room g) (kind.Symbol symbols.ParenClose ∷ rest) Q)
      → Took (whole inner room f) (kind.Symbol symbols.ParenClose ∷ rest) (Joins j P Q)
  unfolding addition
  sum_pair e t r =
      let c : Kinds = kind.Symbol symbols.ParenClose ∷ rest in
      let p : Took (addition inner room f) c (Joins j P Q) = two_are_joined inner room (product inner room) chains.Sum f j k mid c e refl t r in
      up_whole inner room f c refl (up_low inner room f c (isnt_if inner room f ka (k ∷ mid) at s) (up_disjunction inner room f c refl (up_conjunction inner room f c refl
      (up_negated inner room f c (isnt_not inner room f ka (k ∷ mid) at s) (up_comparison inner room f c refl (up_listed inner room f c refl p))))))

  -- operands of a comparison
  comparison_pair : joint_of chains.Comparison (Some k) ≡ Some j → Took (listed_operands inner room f) (k ∷ mid) P → ((g : Front) → kinds_at g ≡ mid → Took (listed_operands inner room g) (kind.Symbol symbols.ParenClose ∷ rest) Q)
      → Took (whole inner room f) (kind.Symbol symbols.ParenClose ∷ rest) (Joins j P Q)
  unfolding comparison
  comparison_pair e t r =
      let c : Kinds = kind.Symbol symbols.ParenClose ∷ rest in
      let p : Took (comparison inner room f) c (Joins j P Q) = then_took _ t (λ a g h p.
      took_by (ap (compared_operands inner room a g) (ap (joint_of chains.Comparison) (next_is g (k ∷ mid) h) ∙ e))
      (then_took _ (r (behind g) (behind_is g k mid h)) (λ b m hm q. took (joined_nodes j a b) m hm (a, b, p, q, refl)))) in
      up_whole inner room f c refl (up_low inner room f c (isnt_if inner room f ka (k ∷ mid) at s) (up_disjunction inner room f c refl (up_conjunction inner room f c refl
      (up_negated inner room f c (isnt_not inner room f ka (k ∷ mid) at s) p))))

  -- operands of `and`
  both_pair : joint_of chains.And (Some k) ≡ Some j → Took (negated_operand inner room f) (k ∷ mid) P → ((g : Front) → kinds_at g ≡ mid → Took (negated_operand inner room g) (kind.Symbol symbols.ParenClose ∷ rest) Q)
      → Took (whole inner room f) (kind.Symbol symbols.ParenClose ∷ rest) (Joins j P Q)
  unfolding conjunction
  both_pair e t r =
      let c : Kinds = kind.Symbol symbols.ParenClose ∷ rest in
      let p : Took (conjunction inner room f) c (Joins j P Q) = two_are_joined inner room (negated_operand inner room) chains.And f j k mid c e refl t r in
      up_whole inner room f c refl (up_low inner room f c (isnt_if inner room f ka (k ∷ mid) at s) (up_disjunction inner room f c refl p))

  -- operands of `or`
  either_pair : joint_of chains.Or (Some k) ≡ Some j → Took (conjunction inner room f) (k ∷ mid) P → ((g : Front) → kinds_at g ≡ mid → Took (conjunction inner room g) (kind.Symbol symbols.ParenClose ∷ rest) Q)
      → Took (whole inner room f) (kind.Symbol symbols.ParenClose ∷ rest) (Joins j P Q)
  unfolding disjunction
  either_pair e t r =
      let c : Kinds = kind.Symbol symbols.ParenClose ∷ rest in
      let p : Took (disjunction inner room f) c (Joins j P Q) = two_are_joined inner room (conjunction inner room) chains.Or f j k mid c e refl t r in
      up_whole inner room f c refl (up_low inner room f c (isnt_if inner room f ka (k ∷ mid) at s) p)

-- ---- two expressions in brackets with a joint between them

-- the chain that a joint belongs to, where it stands as this token
pub data Between : Joint → TokenKind → Type 0 where
  in_product : {j : Joint} {k : TokenKind} → joint_of chains.Product (Some k) ≡ Some j → Between j k
  in_sum : {j : Joint} {k : TokenKind} → joint_of chains.Sum (Some k) ≡ Some j → joint_of chains.Product (Some k) ≡ None → Between j k
  in_comparison : {j : Joint} {k : TokenKind} → joint_of chains.Comparison (Some k) ≡ Some j → joint_of chains.Product (Some k) ≡ None → joint_of chains.Sum (Some k) ≡ None
      → is_symbol_kind symbols.DoubleColon (Some k) ≡ false → Between j k
  in_both : {j : Joint} {k : TokenKind} → joint_of chains.And (Some k) ≡ Some j → joint_of chains.Product (Some k) ≡ None → joint_of chains.Sum (Some k) ≡ None
      → is_symbol_kind symbols.DoubleColon (Some k) ≡ false → joint_of chains.Comparison (Some k) ≡ None → Between j k
  in_either : {j : Joint} {k : TokenKind} → joint_of chains.Or (Some k) ≡ Some j → joint_of chains.Product (Some k) ≡ None → joint_of chains.Sum (Some k) ≡ None
      → is_symbol_kind symbols.DoubleColon (Some k) ≡ false → joint_of chains.Comparison (Some k) ≡ None → joint_of chains.And (Some k) ≡ None → Between j k

-- the two expressions, read inside the brackets
pair_took : (e : Expr) (j : Joint) (a b : Expr) (k : TokenKind) → AreJoined e j a b → expr_depth e ≤ 64 → Between j k → is_symbol_kind symbols.ParenOpen (Some k) ≡ false → IsRead a → IsRead b
    → (most : ℕ) → 2 * expr_depth e + 7 ≤ most → (g : Front) (rest : Kinds) → kinds_at g ≡ expr_kinds a ++ (k ∷ (expr_kinds b ++ (kind.Symbol symbols.ParenClose ∷ rest)))
    → Took (expr_to most levels.Whole g) (kind.Symbol symbols.ParenClose ∷ rest) (IsNode e)
unfolding expr_to at_level
pair_took e j a b k m most_depth w np ra rb zero n g rest h = absurd (omega (arith, n))
pair_took e j a b k m most_depth w np ra rb (suc room) n g rest h = weaker (by_chain w) (λ x q. join_good e j a b m most_depth x q)
  where
    c : Kinds
    c = kind.Symbol symbols.ParenClose ∷ rest

    mid : Kinds
    mid = expr_kinds b ++ c

    inner : Level → Reader Node
    inner = expr_to room

    first : Took (operand inner room g) (k ∷ mid) (IsNode a)
    first = ra.operand room (omega (arith, n, m.size.depth)) g (k ∷ mid) h np

    second : (f : Front) → kinds_at f ≡ mid → Took (operand inner room f) c (IsNode b)
    second f i = rb.operand room (omega (arith, n, m.size.depth)) f c i refl

    by_chain : Between j k → Took (whole inner room g) c (Joins j (IsNode a) (IsNode b))
    by_chain (in_product q) = product_pair inner room g (expr_kinds a) mid rest k j h ra.starts q first second
    by_chain (in_sum q p) = sum_pair inner room g (expr_kinds a) mid rest k j h ra.starts q (up_product inner room g (k ∷ mid) p first) (λ f i. up_product inner room f c refl (second f i))
    by_chain (in_comparison q p s d) = comparison_pair inner room g (expr_kinds a) mid rest k j h ra.starts q
        (up_listed inner room g (k ∷ mid) d (up_addition inner room g (k ∷ mid) s (up_product inner room g (k ∷ mid) p first)))
        (λ f i. up_listed inner room f c refl (up_addition inner room f c refl (up_product inner room f c refl (second f i))))
    by_chain (in_both q p s d v) = both_pair inner room g (expr_kinds a) mid rest k j h ra.starts q
        (up_negated inner room g (k ∷ mid) (isnt_not inner room g (expr_kinds a) (k ∷ mid) h ra.starts) (up_comparison inner room g (k ∷ mid) v
        (up_listed inner room g (k ∷ mid) d (up_addition inner room g (k ∷ mid) s (up_product inner room g (k ∷ mid) p first)))))
        (λ f i.
        up_negated inner room f c (isnt_not inner room f (expr_kinds b) c i rb.starts)
        (up_comparison inner room f c refl (up_listed inner room f c refl (up_addition inner room f c refl (up_product inner room f c refl (second f i))))))
    by_chain (in_either q p s d v u) = either_pair inner room g (expr_kinds a) mid rest k j h ra.starts q
        (up_conjunction inner room g (k ∷ mid) u (up_negated inner room g (k ∷ mid) (isnt_not inner room g (expr_kinds a) (k ∷ mid) h ra.starts) (up_comparison inner room g (k ∷ mid) v
        (up_listed inner room g (k ∷ mid) d (up_addition inner room g (k ∷ mid) s (up_product inner room g (k ∷ mid) p first))))))
        (λ f i.
        up_conjunction inner room f c refl
        (up_negated inner room f c (isnt_not inner room f (expr_kinds b) c i rb.starts)
        (up_comparison inner room f c refl (up_listed inner room f c refl (up_addition inner room f c refl (up_product inner room f c refl (second f i)))))))

-- a token that may begin an operand closes no bracket
pub no_close : (k : TokenKind) → kind_begins (Some k) ≡ true → is_symbol_kind symbols.ParenClose (Some k) ≡ false
no_close (kind.Symbol symbols.ParenClose) h = absurd (cc)
no_close (kind.Symbol symbols.ParenOpen) h = refl
no_close (kind.Symbol symbols.BracketOpen) h = refl
no_close (kind.Symbol symbols.BracketClose) h = refl
no_close (kind.Symbol symbols.Comma) h = refl
no_close (kind.Symbol symbols.Semicolon) h = refl
no_close (kind.Symbol symbols.Colon) h = refl
no_close (kind.Symbol symbols.DoubleColon) h = refl
no_close (kind.Symbol symbols.Equal) h = refl
no_close (kind.Symbol symbols.NotEqual) h = refl
no_close (kind.Symbol symbols.Less) h = refl
no_close (kind.Symbol symbols.LessEqual) h = refl
no_close (kind.Symbol symbols.Greater) h = refl
no_close (kind.Symbol symbols.GreaterEqual) h = refl
no_close (kind.Symbol symbols.Plus) h = refl
no_close (kind.Symbol symbols.Minus) h = refl
no_close (kind.Symbol symbols.Star) h = refl
no_close (kind.Symbol symbols.Slash) h = refl
no_close (kind.Symbol symbols.Caret) h = refl
no_close (kind.Symbol symbols.Arrow) h = refl
no_close (kind.Symbol symbols.FatArrow) h = refl
no_close (kind.Symbol symbols.Bar) h = refl
no_close (kind.Symbol symbols.Underscore) h = refl
no_close _ h = refl

or_right : (x y b : Bool) → b ≡ true → (x || (y || b)) ≡ true
or_right true y b h = refl
or_right false true b h = refl
or_right false false b h = h

pub starts_expr : (k : TokenKind) → kind_begins (Some k) ≡ true → expr_begins (Some k) ≡ true
starts_expr k h = or_right (is_key_kind keys.If (Some k)) (is_key_kind keys.Not (Some k)) (kind_begins (Some k)) h

-- a bracket begins an operand
pub paren_starts : (ks : Kinds) → Starts (kind.Symbol symbols.ParenOpen ∷ ks)
paren_starts ks = record { first = kind.Symbol symbols.ParenOpen; others = ks; are = refl; begin = refl }

pub starts_by : (ks ls : Kinds) → ks ≡ ls → Starts ls → Starts ks
starts_by ks ls e s = record { first = s.first; others = s.others; are = e ∙ s.are; begin = s.begin }

-- brackets around a whole expression that begins with a part
pub around_took : (room : ℕ) (f : Front) (ka ks rest : Kinds) {Q : Node → Type 0} → 0 < room → Starts ka → kinds_at f ≡ kind.Symbol symbols.ParenOpen ∷ (ka ++ ks)
    → ((g : Front) → kinds_at g ≡ ka ++ ks → Took (expr_to room levels.Whole g) (kind.Symbol symbols.ParenClose ∷ rest) Q) → Took (operand (expr_to room) room f) rest Q
around_took room f ka ks rest n s h r =
    let e : ka ++ ks ≡ s.first ∷ (s.others ++ ks) = ap (λ l. l ++ ks) s.are in
    parens_took room f s.first (s.others ++ ks) rest n (h ∙ ap (λ l. kind.Symbol symbols.ParenOpen ∷ l) e) (no_close s.first s.begin) (starts_expr s.first s.begin) (λ g i. r g (i ∙ sym e))

-- two expressions in brackets are read
pub pair_read : (e : Expr) (j : Joint) (a b : Expr) (k : TokenKind) → AreJoined e j a b → expr_depth e ≤ 64 → Between j k → is_symbol_kind symbols.ParenOpen (Some k) ≡ false → IsRead a → IsRead b
    → expr_kinds e ≡ kind.Symbol symbols.ParenOpen ∷ (expr_kinds a ++ (k ∷ (expr_kinds b ++ (kind.Symbol symbols.ParenClose ∷ [])))) → IsRead e
pair_read e j a b k m most w np ra rb ks = record {
  starts = starts_by (expr_kinds e) _ ks (paren_starts _);
  shallow = most;
  operand = λ room n f rest h i.
      let mid : Kinds = k ∷ (expr_kinds b ++ (kind.Symbol symbols.ParenClose ∷ rest)) in
      around_took room f (expr_kinds a) mid rest (omega (arith, n)) ra.starts
      (h ∙ (ap (λ l. l ++ rest) ks ∙ behind_one (kind.Symbol symbols.ParenOpen) (nest (expr_kinds a) _ rest (behind_one k (nest (expr_kinds b) _ rest refl)))))
      (λ g q. pair_took e j a b k m most w np ra rb room n g rest q);
}
