-- The tokens of a program as it is written are read as that program.
use Rattle.std.proofs.Common.{◌≡◌, ℕ, ◌+◌, ◌*◌, ◌≤◌, List, ◌∷◌, ◌++◌, refl, sym, ap, ◌∙◌, subst, arith}
use Rattle.plan_base.specs.declared.tree.Expr.{Expr, Expr-F, out-Expr}
use Rattle.plan_base.specs.declared.tree.Expr.TheVariants as x
use Rattle.plan_base.specs.declared.tree.Clause.{Clause}
use Rattle.plan_base.specs.declared.tree.Program.{Program}
use Rattle.plan_base.specs.Sizes.{expr_depth}
use Rattle.plan_lexer.specs.declared.token.Key.TheVariants as keys
use Rattle.plan_lexer.specs.declared.token.Token.{Token}
use Rattle.plan_lexer.specs.declared.token.TokenKind.TheVariants as kind
use Rattle.plan_parser_exprs.specs.declared.level.Level.TheVariants as levels
use Rattle.plan_parser_exprs.specs.Ahead.{Front}
use Rattle.plan_parser_exprs.specs.Exprs.{expr_to}
use Rattle.plan_parser.specs.Programs.{program_of}
use Rattle.program_text_laws.specs.Lexes.{kinds_of}
use Rattle.program_text_laws.specs.PrintedTokens.{Kinds, expr_kinds}
use Rattle.program_text_laws.specs.Proper.{IsProper, IsProperProgram}
use Rattle.program_text_laws.specs.Proper.{IsProper as P}
use Rattle.program_text_laws.specs.Reads.{kinds_at, Took, first_kind, IsNode, Ends}
use Rattle.program_text_laws.specs.Written.{test_kinds_level, test_kinds, body_kinds_level, body_kinds, written_kinds}
use Rattle.program_text_laws.proofs.Forms.{made_of, measured_by_level, kinds_are, IsRead, level_took}
use Rattle.program_text_laws.proofs.Bracketing.{ends_then, ReadsTest, choice_took, opposite_took}
use Rattle.program_text_laws.proofs.ExprsRead.{three_parts, expr_read}
use Rattle.program_text_laws.proofs.Within.{IsWithinLimits}
use Rattle.program_text_laws.proofs.Declarations.{ReadsBodies, ReadsProgram, program_reads_by}

-- the parts of an `if` and of a `not` are proper
Parts : Expr-F Expr Clause → Type 0
Parts (Expr-F.If c a b) = IsProper c × IsProper a × IsProper b
Parts (Expr-F.Not a) = IsProper a
Parts _ = Unit {0}

parts : {e : Expr} → IsProper e → Parts (out-Expr e)
unfolding Parts
parts (P.choice c a b o p q r) = subst Parts (sym o) (p, q, r)
parts (P.negation a o p) = subst Parts (sym o) p
parts (P.unit o) = subst Parts (sym o) tt
parts (P.bool b o) = subst Parts (sym o) tt
parts (P.int z o h) = subst Parts (sym o) tt
parts (P.char c o h) = subst Parts (sym o) tt
parts (P.str s o h) = subst Parts (sym o) tt
parts (P.blob b o h) = subst Parts (sym o) tt
parts (P.host n o h) = subst Parts (sym o) tt
parts (P.dev n o h) = subst Parts (sym o) tt
parts (P.nil t o h) = subst Parts (sym o) tt
parts (P.var v o h) = subst Parts (sym o) tt
parts (P.tuple es o n h) = subst Parts (sym o) tt
parts (P.call f es o v n h) = subst Parts (sym o) tt
parts (P.binder v t a b o n k p q) = subst Parts (sym o) tt
parts (P.sequence a b o p q) = subst Parts (sym o) tt
parts (P.both a b o p q) = subst Parts (sym o) tt
parts (P.either a b o p q) = subst Parts (sym o) tt
parts (P.binary m a b o p q) = subst Parts (sym o) tt
parts (P.part i a o l m p) = subst Parts (sym o) tt
parts (P.raising v t o n h) = subst Parts (sym o) tt
parts (P.handling a cs o p l m h) = subst Parts (sym o) tt
parts (P.fold_left f a l o n p q) = subst Parts (sym o) tt
parts (P.fold_right f a l o n p q) = subst Parts (sym o) tt
parts (P.packing f es o v n h) = subst Parts (sym o) tt
parts (P.evaluation c o p) = subst Parts (sym o) tt
parts (P.remote c h n r o p q s m) = subst Parts (sym o) tt
parts (P.neighbour c h n v o p q s t) = subst Parts (sym o) tt

-- what stands between `if` and `then`
test_took : (c : Expr) → IsRead c → (l : Expr-F Expr Clause) → out-Expr c ≡ l → Parts l → (room : ℕ) → 2 * expr_depth c + 8 ≤ room → ReadsTest room c (test_kinds_level l)
unfolding Parts
test_took c r (Expr-F.Not a) o p room n g more h =
    let d = measured_by_level c (Expr-F.Not a) o in
    let w = r.shallow in
    opposite_took c a (sym (made_of c (Expr-F.Not a) o ∙ x.rolls-Not a)) d w (expr_read p (omega (arith, d.depth, w))) room (omega (arith, n)) g (kind.Key keys.Then ∷ more) ends_then h
test_took c r l o p room n g more h = level_took c r room n levels.Whole g (kind.Key keys.Then ∷ more) (h ∙ ap (λ ks. ks ++ (kind.Key keys.Then ∷ more)) (sym (kinds_are c l o))) ends_then

-- a body
body_took : (e : Expr) → IsRead e → (l : Expr-F Expr Clause) → out-Expr e ≡ l → Parts l → (f : Front) (rest : Kinds) → kinds_at f ≡ body_kinds_level l ++ rest → Ends (first_kind rest)
    → Took (expr_to 161 levels.Whole f) rest (IsNode e)
unfolding Parts test_kinds
body_took e r (Expr-F.If c a b) o p f rest h v =
    let d = measured_by_level e (Expr-F.If c a b) o in
    let w = r.shallow in
    let rc = expr_read p.0 (omega (arith, d.depth, w)) in
    choice_took e c a b (sym (made_of e (Expr-F.If c a b) o ∙ x.rolls-If c a b)) d w (expr_read p.1 (omega (arith, d.depth, w))) (expr_read p.2 (omega (arith, d.depth, w)))
    (test_kinds c) (λ room n. test_took c rc (out-Expr c) refl (parts p.0) room (omega (arith, n, d.depth))) 161 (omega (arith, w)) f rest v
    (h ∙ ap (λ s. kind.Key keys.If ∷ s) (three_parts (test_kinds c) (expr_kinds a) (expr_kinds b) rest (kind.Key keys.Then) (kind.Key keys.Else)))
body_took e r l o p f rest h v = level_took e r 161 (let w = r.shallow in omega (arith, w)) levels.Whole f rest (h ∙ ap (λ ks. ks ++ rest) (sym (kinds_are e l o))) v

written_bodies : ReadsBodies body_kinds
unfolding body_kinds
written_bodies e p w f rest h v = body_took e (expr_read p w) (out-Expr e) refl (parts p) f rest h v

pub written_reads : (p : Program) (ts : List Token) (end : ℕ) → IsProperProgram p → IsWithinLimits p → kinds_of ts ≡ written_kinds p → ReadsProgram p (program_of ts end)
written_reads p ts end h w k = program_reads_by body_kinds written_bodies p ts end h w k
