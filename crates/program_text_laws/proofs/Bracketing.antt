-- The forms in round brackets other than operators.
use Rattle.std.proofs.Common.{◌≡◌, ℕ, zero, suc, ◌+◌, ◌*◌, ◌≤◌, max, true, false, [], ◌∷◌, ◌++◌, Some, refl, ap, ◌∙◌, arith, length-append}
use Rattle.plan_base.specs.declared.tree.Op.TheVariants as op
use Rattle.plan_base.specs.declared.tree.Expr.{Expr}
use Rattle.plan_base.specs.declared.tree.Expr.TheVariants as x
use Rattle.plan_base.specs.Sizes.{expr_depth, expr_nodes}
use Rattle.plan_lexer.specs.declared.token.Key.TheVariants as keys
use Rattle.plan_lexer.specs.declared.token.Symbol.TheVariants as symbols
use Rattle.plan_lexer.specs.declared.token.TokenKind.TheVariants as kind
use Rattle.plan_parser_exprs.specs.declared.level.Level.{Level}
use Rattle.plan_parser_exprs.specs.declared.level.Level.TheVariants as levels
use Rattle.plan_parser_exprs.specs.declared.joint.Joint.TheVariants as joints
use Rattle.plan_parser_exprs.specs.declared.node.Node.{Node}
use Rattle.plan_parser_exprs.specs.Ahead.{Front, Reader, behind, place, is_key}
use Rattle.plan_parser_exprs.specs.Begins.{kind_begins, begins_operand, begins_expr}
use Rattle.plan_parser_exprs.specs.Nodes.{below_of, both, consed_nodes}
use Rattle.plan_parser_exprs.specs.Exprs.{opens_at, operand, addition, before_list, listed_operands, negation, negated_operand, condition, low, before_next, whole, at_level, expr_to, picked_part}
use Rattle.program_text_laws.specs.PrintedTokens.{Kinds, expr_kinds}
use Rattle.program_text_laws.specs.Reads.{kinds_at, Took, first_kind, IsNode, Ends}
use Rattle.program_text_laws.proofs.Steps.{took, then_took, took_by, weaker, next_is, behind_is, symbol_is, key_is, take_key, take_open}
use Rattle.program_text_laws.proofs.Ladder.{Starts, Joins, at_every_level, up_product, up_addition, up_listed, up_comparison, up_negated, up_conjunction, up_disjunction, up_low, up_whole, isnt_not, isnt_if}
use Rattle.program_text_laws.proofs.Forms.{is_over, Measured, IsRead, AreJoined, join_good, nest, behind_one, level_took, ends_paren, parens_took, around_took, begins_is, starts_expr, operand_is, starts_by, paren_starts}

pub ends_then : Ends (Some (kind.Key keys.Then))
ends_then = record { product = refl; sum = refl; cons = refl; comparison = refl; both = refl; either = refl; next = refl; call = refl }

pub ends_else : Ends (Some (kind.Key keys.Else))
ends_else = record { product = refl; sum = refl; cons = refl; comparison = refl; both = refl; either = refl; next = refl; call = refl }

-- with room for a construct, an expression is read at its level
level_is : (room : ℕ) (level : Level) (g : Front) → expr_to (suc room) level g ≡ at_level (expr_to room) room level g
unfolding expr_to
level_is room level g = refl

whole_is : (room : ℕ) (g : Front) → expr_to (suc room) levels.Whole g ≡ whole (expr_to room) room g
unfolding expr_to at_level
whole_is room g = refl

-- a reading below `;` is the whole one
whole_of : (room : ℕ) (g : Front) (rest : Kinds) {Q : Node → Type 0} → Ends (first_kind rest) → Took (low (expr_to room) room g) rest Q → Took (expr_to (suc room) levels.Whole g) rest Q
whole_of room g rest w t = took_by (whole_is room g) (up_whole (expr_to room) room g rest w.next t)

-- ---- if

-- what stands behind `if` is read before `then`, from these tokens
abbrev pub ReadsTest : ℕ → Expr → Kinds → Type 0
ReadsTest room c ks = (g : Front) (more : Kinds) → kinds_at g ≡ ks ++ (kind.Key keys.Then ∷ more) → Took (expr_to room levels.Whole g) (kind.Key keys.Then ∷ more) (IsNode c)

condition_took : (e c a b : Expr) → x.If c a b ≡ e → Measured e (1 + max (expr_depth c) (max (expr_depth a) (expr_depth b))) (1 + expr_nodes c + expr_nodes a + expr_nodes b) → expr_depth e ≤ 64 → IsRead a → IsRead b
    → (room : ℕ) → 2 * expr_depth e + 6 ≤ room → (test : Kinds) → ReadsTest room c test → (g : Front) (rest : Kinds) → Ends (first_kind rest)
    → kinds_at g ≡ kind.Key keys.If ∷ (test ++ (kind.Key keys.Then ∷ (expr_kinds a ++ (kind.Key keys.Else ∷ (expr_kinds b ++ rest)))))
    → Took (low (expr_to room) room g) rest (IsNode e)
unfolding low condition
condition_took e c a b t d most ra rb room n test rc g rest w h =
    let second : Kinds = kind.Key keys.Else ∷ (expr_kinds b ++ rest) in
    let first : Kinds = kind.Key keys.Then ∷ (expr_kinds a ++ second) in
    rw (key_is keys.If g (kind.Key keys.If ∷ (test ++ first)) h)
    (then_took _ (take_open room g (kind.Key keys.If ∷ (test ++ first)) (omega (arith, n)) h) (λ u0 g0 h0 q0.
    then_took _ (rc (behind g) (expr_kinds a ++ second) (behind_is g (kind.Key keys.If) (test ++ first) h)) (λ nc g1 h1 q1.
    then_took _ (take_key keys.Then g1 (expr_kinds a ++ second) h1) (λ u2 g2 h2 q2.
    then_took _ (level_took a ra room (omega (arith, n, d.depth)) levels.Low g2 second h2 ends_else) (λ na g3 h3 q3.
    then_took _ (take_key keys.Else g3 (expr_kinds b ++ rest) h3) (λ u4 g4 h4 q4.
    then_took _ (level_took b rb room (omega (arith, n, d.depth)) levels.Low g4 rest h4 w) (λ nb g5 h5 q5.
    took _ g5 h5 (is_over e (x.If nc.tree na.tree nb.tree) (place g) (both (below_of nc) (both (below_of na) (below_of nb)))
    (ap (λ z. x.If z na.tree nb.tree) q1.tree ∙ (ap (λ z. x.If c z nb.tree) q3.tree ∙ (ap (λ z. x.If c a z) q5.tree ∙ t)))
    (omega (arith, q1.depth, q3.depth, q5.depth, d.depth)) most (simp length-append (omega (arith, q1.nodes, q3.nodes, q5.nodes, d.nodes)))))))))))

-- an `if` without brackets is read where nothing joins it
pub choice_took : (e c a b : Expr) → x.If c a b ≡ e → Measured e (1 + max (expr_depth c) (max (expr_depth a) (expr_depth b))) (1 + expr_nodes c + expr_nodes a + expr_nodes b) → expr_depth e ≤ 64 → IsRead a → IsRead b
    → (test : Kinds) → ((room : ℕ) → 2 * expr_depth e + 6 ≤ room → ReadsTest room c test) → (most : ℕ) → 2 * expr_depth e + 7 ≤ most → (g : Front) (rest : Kinds) → Ends (first_kind rest)
    → kinds_at g ≡ kind.Key keys.If ∷ (test ++ (kind.Key keys.Then ∷ (expr_kinds a ++ (kind.Key keys.Else ∷ (expr_kinds b ++ rest)))))
    → Took (expr_to most levels.Whole g) rest (IsNode e)
choice_took e c a b t d most ra rb test rc zero n g rest w h = absurd (omega (arith, n))
choice_took e c a b t d most ra rb test rc (suc room) n g rest w h =
    let enough : 2 * expr_depth e + 6 ≤ room = omega (arith, n) in
    whole_of room g rest w (condition_took e c a b t d most ra rb room enough test (rc room enough) g rest w h)

pub if_read : (e c a b : Expr) → x.If c a b ≡ e → Measured e (1 + max (expr_depth c) (max (expr_depth a) (expr_depth b))) (1 + expr_nodes c + expr_nodes a + expr_nodes b) → expr_depth e ≤ 64 → IsRead c → IsRead a → IsRead b
    → expr_kinds e ≡ kind.Symbol symbols.ParenOpen ∷ kind.Key keys.If ∷ (expr_kinds c ++ (kind.Key keys.Then ∷ (expr_kinds a ++ (kind.Key keys.Else ∷ (expr_kinds b ++ (kind.Symbol symbols.ParenClose ∷ []))))))
    → IsRead e
if_read e c a b t d most rc ra rb ks = record {
  starts = starts_by (expr_kinds e) _ ks (paren_starts _);
  shallow = most;
  operand = λ room n f rest h i. parens_took room f (kind.Key keys.If) _ rest (omega (arith, n))
      (h ∙ (ap (λ l. l ++ rest) ks ∙ behind_one _ (behind_one _ (nest (expr_kinds c) _ rest (behind_one _ (nest (expr_kinds a) _ rest (behind_one _ (nest (expr_kinds b) _ rest refl))))))))
      refl refl (λ g q. choice_took e c a b t d most ra rb (expr_kinds c) test room n g (kind.Symbol symbols.ParenClose ∷ rest) ends_paren q);
}
  where
    test : (room : ℕ) → 2 * expr_depth e + 6 ≤ room → ReadsTest room c (expr_kinds c)
    test room n g more h = level_took c rc room (omega (arith, n, d.depth)) levels.Whole g (kind.Key keys.Then ∷ more) h ends_then

-- ---- a sequence

operand_starts : (g : Front) (ka ks : Kinds) → kinds_at g ≡ ka ++ ks → Starts ka → begins_operand g ≡ true
unfolding begins_operand
operand_starts g ka ks h s = ap kind_begins (next_is g (s.first ∷ (s.others ++ ks)) (h ∙ ap (λ l. l ++ ks) s.are)) ∙ s.begin

pub begins_starts : (g : Front) (ka ks : Kinds) → kinds_at g ≡ ka ++ ks → Starts ka → begins_expr g ≡ true
begins_starts g ka ks h s = begins_is g (s.first ∷ (s.others ++ ks)) (h ∙ ap (λ l. l ++ ks) s.are) ∙ starts_expr s.first s.begin

sequence_took : (e a b : Expr) → x.Then a b ≡ e → Measured e (1 + max (expr_depth a) (expr_depth b)) (1 + expr_nodes a + expr_nodes b) → expr_depth e ≤ 64 → IsRead a → IsRead b
    → (room : ℕ) → 2 * expr_depth e + 6 ≤ room → (g : Front) (rest : Kinds) → kinds_at g ≡ expr_kinds a ++ (kind.Symbol symbols.Semicolon ∷ (expr_kinds b ++ (kind.Symbol symbols.ParenClose ∷ rest)))
    → Took (whole (expr_to room) room g) (kind.Symbol symbols.ParenClose ∷ rest) (IsNode e)
unfolding whole before_next opens_at
sequence_took e a b t d most ra rb room n g rest h =
    let close : Kinds = kind.Symbol symbols.ParenClose ∷ rest in
    let second : Kinds = kind.Symbol symbols.Semicolon ∷ (expr_kinds b ++ close) in
    let inner : Level → Reader Node = expr_to room in
    let other : is_key keys.Not g ≡ false = isnt_not inner room g (expr_kinds a) second h ra.starts in
    let none : is_key keys.If g ≡ false = isnt_if inner room g (expr_kinds a) second h ra.starts in
    let first : Took (low inner room g) second (IsNode a) = up_low inner room g second none (up_disjunction inner room g second refl (up_conjunction inner room g second refl
    (up_negated inner room g second other (up_comparison inner room g second refl (up_listed inner room g second refl (up_addition inner room g second refl
    (up_product inner room g second refl (ra.operand room (omega (arith, n, d.depth)) g second h refl)))))))) in
    then_took _ first (λ na g1 h1 q1. rw (symbol_is symbols.Semicolon g1 second h1) (rw (begins_starts (behind g1) (expr_kinds b) close (behind_is g1 (kind.Symbol symbols.Semicolon) (expr_kinds b ++ close) h1) rb.starts)
    (then_took _ (take_open room (behind g1) (expr_kinds b ++ close) (omega (arith, n)) (behind_is g1 (kind.Symbol symbols.Semicolon) (expr_kinds b ++ close) h1)) (λ u2 g2 h2 q2.
    then_took _ (level_took b rb room (omega (arith, n, d.depth)) levels.Whole (behind g1) close (behind_is g1 (kind.Symbol symbols.Semicolon) (expr_kinds b ++ close) h1) ends_paren) (λ nb g3 h3 q3.
    took _ g3 h3 (is_over e (x.Then na.tree nb.tree) na.at (both (below_of na) (below_of nb)) (ap (λ z. x.Then z nb.tree) q1.tree ∙ (ap (λ z. x.Then a z) q3.tree ∙ t))
    (omega (arith, q1.depth, q3.depth, d.depth)) most (simp length-append (omega (arith, q1.nodes, q3.nodes, d.nodes)))))))))

pub sequence_read : (e a b : Expr) → x.Then a b ≡ e → Measured e (1 + max (expr_depth a) (expr_depth b)) (1 + expr_nodes a + expr_nodes b) → expr_depth e ≤ 64 → IsRead a → IsRead b
    → expr_kinds e ≡ kind.Symbol symbols.ParenOpen ∷ (expr_kinds a ++ (kind.Symbol symbols.Semicolon ∷ (expr_kinds b ++ (kind.Symbol symbols.ParenClose ∷ [])))) → IsRead e
sequence_read e a b t d most ra rb ks = record {
  starts = starts_by (expr_kinds e) _ ks (paren_starts _);
  shallow = most;
  operand = λ room n f rest h i. around_took room f (expr_kinds a) _ rest (omega (arith, n)) ra.starts
      (h ∙ (ap (λ l. l ++ rest) ks ∙ behind_one _ (nest (expr_kinds a) _ rest (behind_one _ (nest (expr_kinds b) _ rest refl)))))
      (λ g q. inside room n g rest q);
}
  where
    inside : (most : ℕ) → 2 * expr_depth e + 7 ≤ most → (g : Front) (rest : Kinds) → kinds_at g ≡ expr_kinds a ++ (kind.Symbol symbols.Semicolon ∷ (expr_kinds b ++ (kind.Symbol symbols.ParenClose ∷ rest)))
        → Took (expr_to most levels.Whole g) (kind.Symbol symbols.ParenClose ∷ rest) (IsNode e)
    inside zero n g rest h = absurd (omega (arith, n))
    inside (suc room) n g rest h = took_by (whole_is room g) (sequence_took e a b t d most ra rb room (omega (arith, n)) g rest h)

-- ---- not

negation_took : (e a : Expr) → x.Not a ≡ e → Measured e (1 + expr_depth a) (1 + expr_nodes a) → expr_depth e ≤ 64 → IsRead a → (room : ℕ) → 2 * expr_depth e + 6 ≤ room → (g : Front) (rest : Kinds) → Ends (first_kind rest)
    → kinds_at g ≡ kind.Key keys.Not ∷ (expr_kinds a ++ rest) → Took (negated_operand (expr_to room) room g) rest (IsNode e)
unfolding negated_operand negation
negation_took e a t d most ra room n g rest w h =
    rw (key_is keys.Not g (kind.Key keys.Not ∷ (expr_kinds a ++ rest)) h)
    (then_took _ (take_open room g (kind.Key keys.Not ∷ (expr_kinds a ++ rest)) (omega (arith, n)) h) (λ u0 g0 h0 q0.
    then_took _ (level_took a ra room (omega (arith, n, d.depth)) levels.Negated (behind g) rest (behind_is g (kind.Key keys.Not) (expr_kinds a ++ rest) h) w) (λ na g1 h1 q1.
    took _ g1 h1 (is_over e (x.Not na.tree) (place g) (below_of na) (ap x.Not q1.tree ∙ t) (omega (arith, q1.depth, d.depth)) most (omega (arith, q1.nodes, d.nodes))))))

-- a `not` without brackets is read where nothing joins it
pub opposite_took : (e a : Expr) → x.Not a ≡ e → Measured e (1 + expr_depth a) (1 + expr_nodes a) → expr_depth e ≤ 64 → IsRead a → (most : ℕ) → 2 * expr_depth e + 7 ≤ most → (g : Front) (rest : Kinds) → Ends (first_kind rest)
    → kinds_at g ≡ kind.Key keys.Not ∷ (expr_kinds a ++ rest) → Took (expr_to most levels.Whole g) rest (IsNode e)
opposite_took e a t d most ra zero n g rest w h = absurd (omega (arith, n))
opposite_took e a t d most ra (suc room) n g rest w h =
    let inner : Level → Reader Node = expr_to room in
    took_by (whole_is room g) (
    up_whole inner room g rest w.next
    (up_low inner room g rest (key_is keys.If g (kind.Key keys.Not ∷ (expr_kinds a ++ rest)) h) (up_disjunction inner room g rest w.either (up_conjunction inner room g rest w.both
    (negation_took e a t d most ra room (omega (arith, n)) g rest w h)))))

pub not_read : (e a : Expr) → x.Not a ≡ e → Measured e (1 + expr_depth a) (1 + expr_nodes a) → expr_depth e ≤ 64 → IsRead a
    → expr_kinds e ≡ kind.Symbol symbols.ParenOpen ∷ kind.Key keys.Not ∷ (expr_kinds a ++ (kind.Symbol symbols.ParenClose ∷ [])) → IsRead e
not_read e a t d most ra ks = record {
  starts = starts_by (expr_kinds e) _ ks (paren_starts _);
  shallow = most;
  operand = λ room n f rest h i. parens_took room f (kind.Key keys.Not) _ rest (omega (arith, n)) (h ∙ (ap (λ l. l ++ rest) ks ∙ behind_one _ (behind_one _ (nest (expr_kinds a) _ rest refl)))) refl refl
      (λ g q. opposite_took e a t d most ra room n g (kind.Symbol symbols.ParenClose ∷ rest) ends_paren q);
}

-- ---- an item before a list

cons_took : (e a b : Expr) → AreJoined e (joints.Operator op.Cons) a b → expr_depth e ≤ 64 → IsRead a → IsRead b
    → (room : ℕ) → 2 * expr_depth e + 6 ≤ room → (g : Front) (rest : Kinds) → kinds_at g ≡ expr_kinds a ++ (kind.Symbol symbols.DoubleColon ∷ (expr_kinds b ++ (kind.Symbol symbols.ParenClose ∷ rest)))
    → Took (listed_operands (expr_to room) room g) (kind.Symbol symbols.ParenClose ∷ rest) (Joins (joints.Operator op.Cons) (IsNode a) (IsNode b))
unfolding listed_operands before_list opens_at
cons_took e a b m most ra rb room n g rest h =
    let close : Kinds = kind.Symbol symbols.ParenClose ∷ rest in
    let second : Kinds = kind.Symbol symbols.DoubleColon ∷ (expr_kinds b ++ close) in
    let inner : Level → Reader Node = expr_to room in
    let first : Took (addition inner room g) second (IsNode a) = up_addition inner room g second refl (up_product inner room g second refl (ra.operand room (omega (arith, n, m.size.depth)) g second h refl)) in
    then_took _ first (λ na g1 h1 q1. rw (symbol_is symbols.DoubleColon g1 second h1) (rw (operand_starts (behind g1) (expr_kinds b) close (behind_is g1 (kind.Symbol symbols.DoubleColon) (expr_kinds b ++ close) h1) rb.starts)
    (then_took _ (take_open room (behind g1) (expr_kinds b ++ close) (omega (arith, n)) (behind_is g1 (kind.Symbol symbols.DoubleColon) (expr_kinds b ++ close) h1)) (λ u2 g2 h2 q2.
    then_took _ (level_took b rb room (omega (arith, n, m.size.depth)) levels.Listed (behind g1) close (behind_is g1 (kind.Symbol symbols.DoubleColon) (expr_kinds b ++ close) h1) ends_paren) (λ nb g3 h3 q3.
    took (consed_nodes na nb) g3 h3 (na, nb, q1, q3, refl))))))

pub cons_read : (e a b : Expr) → AreJoined e (joints.Operator op.Cons) a b → expr_depth e ≤ 64 → IsRead a → IsRead b
    → expr_kinds e ≡ kind.Symbol symbols.ParenOpen ∷ (expr_kinds a ++ (kind.Symbol symbols.DoubleColon ∷ (expr_kinds b ++ (kind.Symbol symbols.ParenClose ∷ [])))) → IsRead e
cons_read e a b m most ra rb ks = record {
  starts = starts_by (expr_kinds e) _ ks (paren_starts _);
  shallow = most;
  operand = λ room n f rest h i. around_took room f (expr_kinds a) _ rest (omega (arith, n)) ra.starts
      (h ∙ (ap (λ l. l ++ rest) ks ∙ behind_one _ (nest (expr_kinds a) _ rest (behind_one _ (nest (expr_kinds b) _ rest refl)))))
      (λ g q. inside room n g rest q);
}
  where
    inside : (most : ℕ) → 2 * expr_depth e + 7 ≤ most → (g : Front) (rest : Kinds) → kinds_at g ≡ expr_kinds a ++ (kind.Symbol symbols.DoubleColon ∷ (expr_kinds b ++ (kind.Symbol symbols.ParenClose ∷ rest)))
        → Took (expr_to most levels.Whole g) (kind.Symbol symbols.ParenClose ∷ rest) (IsNode e)
    inside zero n g rest h = absurd (omega (arith, n))
    inside (suc room) n g rest h =
        let close : Kinds = kind.Symbol symbols.ParenClose ∷ rest in
        let second : Kinds = kind.Symbol symbols.DoubleColon ∷ (expr_kinds b ++ close) in
        let inner : Level → Reader Node = expr_to room in
        took_by (whole_is room g) (up_whole inner room g close refl (up_low inner room g close (isnt_if inner room g (expr_kinds a) second h ra.starts) (up_disjunction inner room g close refl (up_conjunction inner room g close refl
        (up_negated inner room g close (isnt_not inner room g (expr_kinds a) second h ra.starts) (up_comparison inner room g close refl
        (weaker (cons_took e a b m most ra rb room (omega (arith, n)) g rest h) (λ z q. join_good e (joints.Operator op.Cons) a b m most z q))))))))

-- ---- a part of a tuple

picked_took : (e a : Expr) (i : ℕ) → x.Part i a ≡ e → Measured e (1 + expr_depth a) (1 + expr_nodes a) → expr_depth e ≤ 64 → IsRead a → (room : ℕ) → 2 * expr_depth e + 6 ≤ room → (g : Front) (rest : Kinds)
    → kinds_at g ≡ kind.Part i ∷ (expr_kinds a ++ (kind.Symbol symbols.ParenClose ∷ rest)) → Took (operand (expr_to room) room g) (kind.Symbol symbols.ParenClose ∷ rest) (IsNode e)
unfolding picked_part
picked_took e a i t d most ra room n g rest h =
    let close : Kinds = kind.Symbol symbols.ParenClose ∷ rest in
    took_by (operand_is (expr_to room) room g (kind.Part i ∷ (expr_kinds a ++ close)) h)
    (then_took _ (take_open room g (kind.Part i ∷ (expr_kinds a ++ close)) (omega (arith, n)) h) (λ u0 g0 h0 q0.
    then_took _ (level_took a ra room (omega (arith, n, d.depth)) levels.Operand (behind g) close (behind_is g (kind.Part i) (expr_kinds a ++ close) h) ends_paren) (λ na g1 h1 q1.
    took _ g1 h1 (is_over e (x.Part i na.tree) (place g) (below_of na) (ap (x.Part i) q1.tree ∙ t) (omega (arith, q1.depth, d.depth)) most (omega (arith, q1.nodes, d.nodes))))))

pub part_read : (e a : Expr) (i : ℕ) → x.Part i a ≡ e → Measured e (1 + expr_depth a) (1 + expr_nodes a) → expr_depth e ≤ 64 → IsRead a
    → expr_kinds e ≡ kind.Symbol symbols.ParenOpen ∷ kind.Part i ∷ (expr_kinds a ++ (kind.Symbol symbols.ParenClose ∷ [])) → IsRead e
part_read e a i t d most ra ks = record {
  starts = starts_by (expr_kinds e) _ ks (paren_starts _);
  shallow = most;
  operand = λ room n f rest h j. parens_took room f (kind.Part i) _ rest (omega (arith, n)) (h ∙ (ap (λ l. l ++ rest) ks ∙ behind_one _ (behind_one _ (nest (expr_kinds a) _ rest refl)))) refl refl (λ g q. inside room n g rest q);
}
  where
    inside : (most : ℕ) → 2 * expr_depth e + 7 ≤ most → (g : Front) (rest : Kinds) → kinds_at g ≡ kind.Part i ∷ (expr_kinds a ++ (kind.Symbol symbols.ParenClose ∷ rest))
        → Took (expr_to most levels.Whole g) (kind.Symbol symbols.ParenClose ∷ rest) (IsNode e)
    inside zero n g rest h = absurd (omega (arith, n))
    inside (suc room) n g rest h = took_by (level_is room levels.Whole g) (at_every_level (expr_to room) room g (kind.Part i ∷ expr_kinds a) (kind.Symbol symbols.ParenClose ∷ rest) h
        (record { first = kind.Part i; others = expr_kinds a; are = refl; begin = refl }) ends_paren (picked_took e a i t d most ra room (omega (arith, n)) g rest h) levels.Whole)
