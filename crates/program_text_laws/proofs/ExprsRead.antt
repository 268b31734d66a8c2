-- The tokens of a printed expression are read as that expression.
use Rattle.std.proofs.Common.{◌≡◌, ℕ, ◌≤◌, Bool, true, false, List, [], ◌∷◌, ◌++◌, length, Option, Some, None, refl, sym, ap, ◌∙◌, arith, append_assoc}
use Rattle.std.specs.Prelude.{is_some}
use Rattle.plan_base.specs.declared.name.Name.{Name}
use Rattle.plan_base.specs.declared.tree.Ty.{Ty}
use Rattle.plan_base.specs.declared.tree.Op.{Op}
use Rattle.plan_base.specs.declared.tree.Op.TheVariants as op
use Rattle.plan_base.specs.declared.tree.Expr.{Expr, Expr-F, out-Expr}
use Rattle.plan_base.specs.declared.tree.Expr.TheVariants as x
use Rattle.plan_base.specs.declared.tree.Clause.{Clause}
use Rattle.plan_base.specs.Sizes.{largest_by, expr_depth, clause_depth}
use Rattle.plan_lexer.specs.declared.token.Key.TheVariants as keys
use Rattle.plan_lexer.specs.declared.token.Symbol.TheVariants as symbols
use Rattle.plan_lexer.specs.declared.token.TokenKind.{TokenKind}
use Rattle.plan_lexer.specs.declared.token.TokenKind.TheVariants as kind
use Rattle.plan_parser_exprs.specs.declared.joint.Joint.TheVariants as joints
use Rattle.plan_parser_exprs.specs.Ahead.{Front, behind, place, is_symbol_kind}
use Rattle.plan_parser_exprs.specs.Exprs.{parens, parens_behind, key_form, symbol_form, expr_to}
use Rattle.plan_printer_spec.specs.Pieces.{listed_pieces}
use Rattle.program_text_laws.specs.PrintedTokens.{Kinds, mark, op_kinds, type_kinds, clause_kinds, expr_kinds}
use Rattle.program_text_laws.specs.Proper.{IsProperOption, IsProper, AreProper, AreProperClauses}
use Rattle.program_text_laws.specs.Proper.{IsProper as P, AreProper as M, AreProperClauses as K}
use Rattle.program_text_laws.specs.Reads.{kinds_at, Took, IsNode}
use Rattle.program_text_laws.proofs.Steps.{took, then_took, behind_is, symbol_is, take_open}
use Rattle.program_text_laws.proofs.TypesRead.{largest_cons}
use Rattle.program_text_laws.proofs.Forms.{Measured, made_of, measured_by_level, kinds_are, IsRead, Between, in_product, in_sum, in_comparison, in_both, in_either, pair_read}
use Rattle.program_text_laws.proofs.Bracketing.{if_read, sequence_read, not_read, cons_read, part_read}
use Rattle.program_text_laws.proofs.Applied.{leaf_good, literal_read, var_read, AreRead, call_read, chunk_read, tuple_read}
use Rattle.program_text_laws.proofs.Words.{by_operand, eval_read, foldl_read, foldr_read, remote_read, neighbor_read, nil_read, empty_read, raise_typed_read, raise_read, let_read}
use Rattle.program_text_laws.proofs.Tries.{ClausesRead, try_read}

-- ---- kinds, regrouped

two_parts : (a b rest : Kinds) (k : TokenKind) → ((a ++ (k ∷ [])) ++ b) ++ rest ≡ a ++ (k ∷ (b ++ rest))
two_parts a b rest k = append_assoc (a ++ (k ∷ [])) b rest ∙ append_assoc a (k ∷ []) (b ++ rest)

pub three_parts : (a b c rest : Kinds) (k m : TokenKind) → ((((a ++ (k ∷ [])) ++ b) ++ (m ∷ [])) ++ c) ++ rest ≡ a ++ (k ∷ (b ++ (m ∷ (c ++ rest))))
three_parts a b c rest k m = two_parts ((a ++ (k ∷ [])) ++ b) c rest m ∙ two_parts a b (m ∷ (c ++ rest)) k

-- ---- the unit

unit_took : (room : ℕ) (e : Expr) → x.Unit ≡ e → Measured e 1 1 → 9 ≤ room → (f : Front) (rest : Kinds)
    → kinds_at f ≡ kind.Symbol symbols.ParenOpen ∷ kind.Symbol symbols.ParenClose ∷ rest → Took (symbol_form (expr_to room) room symbols.ParenOpen f) rest (IsNode e)
unfolding symbol_form parens parens_behind
unit_took room e t d n f rest h =
    let hs : kinds_at (behind f) ≡ kind.Symbol symbols.ParenClose ∷ rest = behind_is f (kind.Symbol symbols.ParenOpen) _ h in
    then_took _ (take_open room f _ (omega (arith, n)) h) (λ u g h1 q1. rw (symbol_is symbols.ParenClose (behind f) (kind.Symbol symbols.ParenClose ∷ rest) hs)
    (took _ (behind (behind f)) (behind_is (behind f) (kind.Symbol symbols.ParenClose) rest hs) (leaf_good e x.Unit (place f) t d)))

unit_read : (e : Expr) → x.Unit ≡ e → Measured e 1 1 → expr_kinds e ≡ kind.Symbol symbols.ParenOpen ∷ kind.Symbol symbols.ParenClose ∷ [] → IsRead e
unit_read e t d ks = by_operand e _ _ refl (omega (arith, d.depth)) ks (λ room n f rest h. unit_took room e t d (omega (arith, n, d.depth)) f rest h)

bool_read : (e : Expr) (b : Bool) → out-Expr e ≡ Expr-F.Bool b → IsRead e
unfolding key_form
bool_read e true o = literal_read e (kind.Key keys.True) (x.Bool true) (sym (made_of e (Expr-F.Bool true) o ∙ x.rolls-Bool true)) (measured_by_level e (Expr-F.Bool true) o) refl (λ inner room f. refl) (kinds_are e (Expr-F.Bool true) o)
bool_read e false o =
    literal_read e (kind.Key keys.False) (x.Bool false) (sym (made_of e (Expr-F.Bool false) o ∙ x.rolls-Bool false)) (measured_by_level e (Expr-F.Bool false) o) refl (λ inner room f. refl)
    (kinds_are e (Expr-F.Bool false) o)

-- ---- operators

binary_read : (e : Expr) (o : Op) (a b : Expr) (k : TokenKind) → op_kinds o ≡ k ∷ [] → out-Expr e ≡ Expr-F.Binary o a b → expr_depth e ≤ 64 → Between (joints.Operator o) k
    → is_symbol_kind symbols.ParenOpen (Some k) ≡ false → IsRead a → IsRead b → IsRead e
binary_read e o a b k ks is w t np ra rb =
    pair_read e (joints.Operator o) a b k (record { tree = sym (made_of e (Expr-F.Binary o a b) is ∙ x.rolls-Binary o a b); size = measured_by_level e (Expr-F.Binary o a b) is }) w t np ra rb
    (kinds_are e (Expr-F.Binary o a b) is ∙ (ap (λ s. kind.Symbol symbols.ParenOpen ∷ (((expr_kinds a ++ s) ++ expr_kinds b) ++ mark symbols.ParenClose)) ks
    ∙ ap (λ s. kind.Symbol symbols.ParenOpen ∷ s) (two_parts (expr_kinds a) (expr_kinds b) (mark symbols.ParenClose) k)))

listing_read : (e a b : Expr) → out-Expr e ≡ Expr-F.Binary op.Cons a b → expr_depth e ≤ 64 → IsRead a → IsRead b → IsRead e
unfolding op_kinds
listing_read e a b is w ra rb =
    cons_read e a b (record { tree = sym (made_of e (Expr-F.Binary op.Cons a b) is ∙ x.rolls-Binary op.Cons a b); size = measured_by_level e (Expr-F.Binary op.Cons a b) is }) w ra rb
    (kinds_are e (Expr-F.Binary op.Cons a b) is ∙ ap (λ s. kind.Symbol symbols.ParenOpen ∷ s) (two_parts (expr_kinds a) (expr_kinds b) (mark symbols.ParenClose) (kind.Symbol symbols.DoubleColon)))

op_read : (e : Expr) (o : Op) (a b : Expr) → out-Expr e ≡ Expr-F.Binary o a b → expr_depth e ≤ 64 → IsRead a → IsRead b → IsRead e
unfolding op_kinds
op_read e op.Add a b is w ra rb = binary_read e op.Add a b (kind.Symbol symbols.Plus) refl is w (in_sum refl refl) refl ra rb
op_read e op.Sub a b is w ra rb = binary_read e op.Sub a b (kind.Symbol symbols.Minus) refl is w (in_sum refl refl) refl ra rb
op_read e op.Mul a b is w ra rb = binary_read e op.Mul a b (kind.Symbol symbols.Star) refl is w (in_product refl) refl ra rb
op_read e op.Div a b is w ra rb = binary_read e op.Div a b (kind.Symbol symbols.Slash) refl is w (in_product refl) refl ra rb
op_read e op.Mod a b is w ra rb = binary_read e op.Mod a b (kind.Key keys.Mod) refl is w (in_product refl) refl ra rb
op_read e op.Cat a b is w ra rb = binary_read e op.Cat a b (kind.Symbol symbols.Caret) refl is w (in_sum refl refl) refl ra rb
op_read e op.Eq a b is w ra rb = binary_read e op.Eq a b (kind.Symbol symbols.Equal) refl is w (in_comparison refl refl refl refl) refl ra rb
op_read e op.Ne a b is w ra rb = binary_read e op.Ne a b (kind.Symbol symbols.NotEqual) refl is w (in_comparison refl refl refl refl) refl ra rb
op_read e op.Lt a b is w ra rb = binary_read e op.Lt a b (kind.Symbol symbols.Less) refl is w (in_comparison refl refl refl refl) refl ra rb
op_read e op.Le a b is w ra rb = binary_read e op.Le a b (kind.Symbol symbols.LessEqual) refl is w (in_comparison refl refl refl refl) refl ra rb
op_read e op.Gt a b is w ra rb = binary_read e op.Gt a b (kind.Symbol symbols.Greater) refl is w (in_comparison refl refl refl refl) refl ra rb
op_read e op.Ge a b is w ra rb = binary_read e op.Ge a b (kind.Symbol symbols.GreaterEqual) refl is w (in_comparison refl refl refl refl) refl ra rb
op_read e op.Cons a b is w ra rb = listing_read e a b is w ra rb

-- ---- all forms

option_nil : (e : Expr) (t : Option Ty) → out-Expr e ≡ Expr-F.Nil t → IsProperOption t → IsRead e
option_nil e None o h = empty_read e (sym (made_of e (Expr-F.Nil None) o ∙ x.rolls-Nil None)) (measured_by_level e (Expr-F.Nil None) o) (kinds_are e (Expr-F.Nil None) o)
option_nil e (Some t) o h = nil_read e t (sym (made_of e (Expr-F.Nil (Some t)) o ∙ x.rolls-Nil (Some t))) (measured_by_level e (Expr-F.Nil (Some t)) o) h.0 h.1 (kinds_are e (Expr-F.Nil (Some t)) o)

option_raise : (e : Expr) (v : Name) (t : Option Ty) → out-Expr e ≡ Expr-F.Raise v t → IsProperOption t → IsRead e
option_raise e v None o h = raise_read e v (sym (made_of e (Expr-F.Raise v None) o ∙ x.rolls-Raise v None)) (measured_by_level e (Expr-F.Raise v None) o) (kinds_are e (Expr-F.Raise v None) o)
option_raise e v (Some t) o h = raise_typed_read e v t (sym (made_of e (Expr-F.Raise v (Some t)) o ∙ x.rolls-Raise v (Some t))) (measured_by_level e (Expr-F.Raise v (Some t)) o) h.0 h.1
    (kinds_are e (Expr-F.Raise v (Some t)) o ∙ ap (λ s. kind.Key keys.Raise ∷ kind.Symbol symbols.BracketOpen ∷ kind.Symbol symbols.Colon ∷ s) (append_assoc (type_kinds t) (mark symbols.BracketClose) (kind.Word v ∷ [])))

tuple_by : (e : Expr) (es : List Expr) → out-Expr e ≡ Expr-F.Tuple es → 2 ≤ length es → length es ≤ 8 → expr_depth e ≤ 64 → AreRead (largest_by expr_depth es) es → IsRead e
tuple_by e [] o two most w r = absurd (omega (arith, two))
tuple_by e (a ∷ []) o two most w r = absurd (omega (arith, two))
tuple_by e (a ∷ b ∷ es) o two most w r = tuple_read e a b es (sym (made_of e (Expr-F.Tuple (a ∷ b ∷ es)) o ∙ x.rolls-Tuple (a ∷ b ∷ es))) (measured_by_level e (Expr-F.Tuple (a ∷ b ∷ es)) o) w r (omega (arith, most))
    (kinds_are e (Expr-F.Tuple (a ∷ b ∷ es)) o ∙ ap (λ s. kind.Symbol symbols.ParenOpen ∷ s) (append_assoc (expr_kinds a) (listed_pieces (mark symbols.Comma) (mark symbols.Comma) expr_kinds (b ∷ es)) (mark symbols.ParenClose)))

try_by : (e a : Expr) (cs : List Clause) → out-Expr e ≡ Expr-F.Try a cs → 1 ≤ length cs → length cs ≤ 8 → expr_depth e ≤ 64 → IsRead a → ClausesRead (largest_by clause_depth cs) cs → IsRead e
try_by e a [] o one most w ra r = absurd (omega (arith, one))
try_by e a (c ∷ cs) o one most w ra r = try_read e a c cs (sym (made_of e (Expr-F.Try a (c ∷ cs)) o ∙ x.rolls-Try a (c ∷ cs))) (measured_by_level e (Expr-F.Try a (c ∷ cs)) o) w ra r (omega (arith, most))
    (kinds_are e (Expr-F.Try a (c ∷ cs)) o ∙ ap (λ s. kind.Key keys.Try ∷ s)
    (two_parts (expr_kinds a) (clause_kinds c ++ listed_pieces (mark symbols.Bar) (mark symbols.Bar) clause_kinds cs) (kind.Key keys.End ∷ []) (kind.Key keys.Handle)
    ∙ ap (λ s. expr_kinds a ++ (kind.Key keys.Handle ∷ s)) (append_assoc (clause_kinds c) (listed_pieces (mark symbols.Bar) (mark symbols.Bar) clause_kinds cs) (kind.Key keys.End ∷ []))))

remote_by : (e c h n : Expr) (r : Name) → out-Expr e ≡ Expr-F.OnRemote c h n r → expr_depth e ≤ 64 → IsRead c → IsRead h → IsRead n → IsRead e
remote_by e c h n r o w rc rh rn = remote_read e c h n r (sym (made_of e (Expr-F.OnRemote c h n r) o ∙ x.rolls-OnRemote c h n r)) (measured_by_level e (Expr-F.OnRemote c h n r) o) w rc rh rn
    (kinds_are e (Expr-F.OnRemote c h n r) o ∙ ap (λ s. kind.Key keys.OnRemote ∷ kind.Symbol symbols.ParenOpen ∷ s)
    (two_parts ((((expr_kinds c ++ mark symbols.Comma) ++ expr_kinds h) ++ mark symbols.Comma) ++ expr_kinds n) (kind.Word r ∷ []) (mark symbols.ParenClose) (kind.Symbol symbols.Comma)
    ∙ three_parts (expr_kinds c) (expr_kinds h) (expr_kinds n) (kind.Symbol symbols.Comma ∷ kind.Word r ∷ kind.Symbol symbols.ParenClose ∷ []) (kind.Symbol symbols.Comma) (kind.Symbol symbols.Comma)))

neighbor_by : (e c h n d : Expr) → out-Expr e ≡ Expr-F.OnNeighbor c h n d → expr_depth e ≤ 64 → IsRead c → IsRead h → IsRead n → IsRead d → IsRead e
neighbor_by e c h n d o w rc rh rn rd = neighbor_read e c h n d (sym (made_of e (Expr-F.OnNeighbor c h n d) o ∙ x.rolls-OnNeighbor c h n d)) (measured_by_level e (Expr-F.OnNeighbor c h n d) o) w rc rh rn rd
    (kinds_are e (Expr-F.OnNeighbor c h n d) o ∙ ap (λ s. kind.Key keys.OnNeighbor ∷ kind.Symbol symbols.ParenOpen ∷ s)
    (two_parts ((((expr_kinds c ++ mark symbols.Comma) ++ expr_kinds h) ++ mark symbols.Comma) ++ expr_kinds n) (expr_kinds d) (mark symbols.ParenClose) (kind.Symbol symbols.Comma)
    ∙ three_parts (expr_kinds c) (expr_kinds h) (expr_kinds n) (kind.Symbol symbols.Comma ∷ (expr_kinds d ++ mark symbols.ParenClose)) (kind.Symbol symbols.Comma) (kind.Symbol symbols.Comma)))

another : (cs : List Clause) (most : ℕ) (c : Clause) → IsRead c.body → expr_depth c.body ≤ most → is_some c.name ≡ true → ClausesRead most cs → ClausesRead most (c ∷ cs)
another [] most c r l n rs = (r, l)
another (d ∷ ds) most c r l n rs = (r, l, n, rs)

mutual
  pub expr_read : {e : Expr} → IsProper e → expr_depth e ≤ 64 → IsRead e
  expr_read {e = e} (P.unit o) w = unit_read e (sym (made_of e Expr-F.Unit o ∙ x.rolls-Unit)) (measured_by_level e Expr-F.Unit o) (kinds_are e Expr-F.Unit o)
  expr_read {e = e} (P.bool b o) w = bool_read e b o
  expr_read {e = e} (P.int z o h) w = literal_read e (kind.Int z) (x.Int z) (sym (made_of e (Expr-F.Int z) o ∙ x.rolls-Int z)) (measured_by_level e (Expr-F.Int z) o) refl (λ inner room f. refl) (kinds_are e (Expr-F.Int z) o)
  expr_read {e = e} (P.char c o h) w = literal_read e (kind.Char c) (x.Char c) (sym (made_of e (Expr-F.Char c) o ∙ x.rolls-Char c)) (measured_by_level e (Expr-F.Char c) o) refl (λ inner room f. refl) (kinds_are e (Expr-F.Char c) o)
  expr_read {e = e} (P.str s o h) w = literal_read e (kind.Str s) (x.Str s) (sym (made_of e (Expr-F.Str s) o ∙ x.rolls-Str s)) (measured_by_level e (Expr-F.Str s) o) refl (λ inner room f. refl) (kinds_are e (Expr-F.Str s) o)
  expr_read {e = e} (P.blob b o h) w = literal_read e (kind.Blob b) (x.Blob b) (sym (made_of e (Expr-F.Blob b) o ∙ x.rolls-Blob b)) (measured_by_level e (Expr-F.Blob b) o) refl (λ inner room f. refl) (kinds_are e (Expr-F.Blob b) o)
  expr_read {e = e} (P.host n o h) w = literal_read e (kind.Host n.0) (x.Host n) (sym (made_of e (Expr-F.Host n) o ∙ x.rolls-Host n)) (measured_by_level e (Expr-F.Host n) o) refl (λ inner room f. refl) (kinds_are e (Expr-F.Host n) o)
  expr_read {e = e} (P.dev n o h) w = literal_read e (kind.Dev n.0) (x.Dev n) (sym (made_of e (Expr-F.Dev n) o ∙ x.rolls-Dev n)) (measured_by_level e (Expr-F.Dev n) o) refl (λ inner room f. refl) (kinds_are e (Expr-F.Dev n) o)
  expr_read {e = e} (P.nil t o h) w = option_nil e t o h
  expr_read {e = e} (P.var v o h) w = var_read e v (sym (made_of e (Expr-F.Var v) o ∙ x.rolls-Var v)) (measured_by_level e (Expr-F.Var v) o) (kinds_are e (Expr-F.Var v) o)
  expr_read {e = e} (P.tuple es o n h) w = let d = measured_by_level e (Expr-F.Tuple es) o in tuple_by e es o n.0 n.1 w (parts_read h (largest_by expr_depth es) (omega arith) (omega (arith, d.depth, w)))
  expr_read {e = e} (P.call f es o v n h) w = let d = measured_by_level e (Expr-F.Call f es) o in
      call_read e f es (sym (made_of e (Expr-F.Call f es) o ∙ x.rolls-Call f es)) d w (parts_read h (largest_by expr_depth es) (omega arith) (omega (arith, d.depth, w))) n (kinds_are e (Expr-F.Call f es) o)
  expr_read {e = e} (P.choice c a b o p q r) w = let d = measured_by_level e (Expr-F.If c a b) o in
      if_read e c a b (sym (made_of e (Expr-F.If c a b) o ∙ x.rolls-If c a b)) d w (expr_read p (omega (arith, d.depth, w))) (expr_read q (omega (arith, d.depth, w))) (expr_read r (omega (arith, d.depth, w)))
      (kinds_are e (Expr-F.If c a b) o ∙ ap (λ s. kind.Symbol symbols.ParenOpen ∷ kind.Key keys.If ∷ s) (three_parts (expr_kinds c) (expr_kinds a) (expr_kinds b) (mark symbols.ParenClose) (kind.Key keys.Then) (kind.Key keys.Else)))
  expr_read {e = e} (P.binder v t a b o n k p q) w = let d = measured_by_level e (Expr-F.Let v t a b) o in
      let_read e v t a b (sym (made_of e (Expr-F.Let v t a b) o ∙ x.rolls-Let v t a b)) d w k.0 k.1 (expr_read p (omega (arith, d.depth, w))) (expr_read q (omega (arith, d.depth, w)))
      (kinds_are e (Expr-F.Let v t a b) o ∙ ap (λ s. kind.Key keys.Let ∷ kind.Key keys.Val ∷ kind.Word v ∷ kind.Symbol symbols.Colon ∷ s)
      (three_parts (type_kinds t) (expr_kinds a) (expr_kinds b) (kind.Key keys.End ∷ []) (kind.Symbol symbols.Equal) (kind.Key keys.In)))
  expr_read {e = e} (P.sequence a b o p q) w = let d = measured_by_level e (Expr-F.Then a b) o in
      sequence_read e a b (sym (made_of e (Expr-F.Then a b) o ∙ x.rolls-Then a b)) d w (expr_read p (omega (arith, d.depth, w))) (expr_read q (omega (arith, d.depth, w)))
      (kinds_are e (Expr-F.Then a b) o ∙ ap (λ s. kind.Symbol symbols.ParenOpen ∷ s) (two_parts (expr_kinds a) (expr_kinds b) (mark symbols.ParenClose) (kind.Symbol symbols.Semicolon)))
  expr_read {e = e} (P.both a b o p q) w = let d = measured_by_level e (Expr-F.And a b) o in
      pair_read e joints.And a b (kind.Key keys.And)
      (record {
        tree = sym (made_of e (Expr-F.And a b) o ∙ x.rolls-And a b);
        size = d;
      }) w (in_both refl refl refl refl refl) refl (expr_read p (omega (arith, d.depth, w))) (expr_read q (omega (arith, d.depth, w)))
      (kinds_are e (Expr-F.And a b) o ∙ ap (λ s. kind.Symbol symbols.ParenOpen ∷ s) (two_parts (expr_kinds a) (expr_kinds b) (mark symbols.ParenClose) (kind.Key keys.And)))
  expr_read {e = e} (P.either a b o p q) w = let d = measured_by_level e (Expr-F.Or a b) o in
      pair_read e joints.Or a b (kind.Key keys.Or)
      (record {
        tree = sym (made_of e (Expr-F.Or a b) o ∙ x.rolls-Or a b);
        size = d;
      }) w (in_either refl refl refl refl refl refl) refl (expr_read p (omega (arith, d.depth, w))) (expr_read q (omega (arith, d.depth, w)))
      (kinds_are e (Expr-F.Or a b) o ∙ ap (λ s. kind.Symbol symbols.ParenOpen ∷ s) (two_parts (expr_kinds a) (expr_kinds b) (mark symbols.ParenClose) (kind.Key keys.Or)))
  expr_read {e = e} (P.negation a o p) w = let d = measured_by_level e (Expr-F.Not a) o in not_read e a (sym (made_of e (Expr-F.Not a) o ∙ x.rolls-Not a)) d w (expr_read p (omega (arith, d.depth, w))) (kinds_are e (Expr-F.Not a) o)
  expr_read {e = e} (P.binary m a b o p q) w = let d = measured_by_level e (Expr-F.Binary m a b) o in op_read e m a b o w (expr_read p (omega (arith, d.depth, w))) (expr_read q (omega (arith, d.depth, w)))
  expr_read {e = e} (P.part i a o l m p) w =
      let d = measured_by_level e (Expr-F.Part i a) o in
      part_read e a i (sym (made_of e (Expr-F.Part i a) o ∙ x.rolls-Part i a)) d w (expr_read p (omega (arith, d.depth, w))) (kinds_are e (Expr-F.Part i a) o)
  expr_read {e = e} (P.raising v t o n h) w = option_raise e v t o h
  expr_read {e = e} (P.handling a cs o p l m h) w =
      let d = measured_by_level e (Expr-F.Try a cs) o in
      try_by e a cs o l m w (expr_read p (omega (arith, d.depth, w))) (clauses_read h (largest_by clause_depth cs) (omega arith) (omega (arith, d.depth, w)))
  expr_read {e = e} (P.fold_left f a l o n p q) w = let d = measured_by_level e (Expr-F.Foldl f a l) o in
      foldl_read e f a l (sym (made_of e (Expr-F.Foldl f a l) o ∙ x.rolls-Foldl f a l)) d w (expr_read p (omega (arith, d.depth, w))) (expr_read q (omega (arith, d.depth, w)))
      (kinds_are e (Expr-F.Foldl f a l) o ∙ ap (λ s. kind.Key keys.Foldl ∷ kind.Symbol symbols.ParenOpen ∷ kind.Word f ∷ kind.Symbol symbols.Comma ∷ s)
      (two_parts (expr_kinds a) (expr_kinds l) (mark symbols.ParenClose) (kind.Symbol symbols.Comma)))
  expr_read {e = e} (P.fold_right f a l o n p q) w = let d = measured_by_level e (Expr-F.Foldr f a l) o in
      foldr_read e f a l (sym (made_of e (Expr-F.Foldr f a l) o ∙ x.rolls-Foldr f a l)) d w (expr_read p (omega (arith, d.depth, w))) (expr_read q (omega (arith, d.depth, w)))
      (kinds_are e (Expr-F.Foldr f a l) o ∙ ap (λ s. kind.Key keys.Foldr ∷ kind.Symbol symbols.ParenOpen ∷ kind.Word f ∷ kind.Symbol symbols.Comma ∷ s)
      (two_parts (expr_kinds a) (expr_kinds l) (mark symbols.ParenClose) (kind.Symbol symbols.Comma)))
  expr_read {e = e} (P.packing f es o v n h) w = let d = measured_by_level e (Expr-F.ChunkOf f es) o in
      chunk_read e f es (sym (made_of e (Expr-F.ChunkOf f es) o ∙ x.rolls-ChunkOf f es)) d w (parts_read h (largest_by expr_depth es) (omega arith) (omega (arith, d.depth, w))) n (kinds_are e (Expr-F.ChunkOf f es) o)
  expr_read {e = e} (P.evaluation c o p) w = let d = measured_by_level e (Expr-F.Eval c) o in eval_read e c (sym (made_of e (Expr-F.Eval c) o ∙ x.rolls-Eval c)) d w (expr_read p (omega (arith, d.depth, w))) (kinds_are e (Expr-F.Eval c) o)
  expr_read {e = e} (P.remote c h n r o p q s m) w =
      let d = measured_by_level e (Expr-F.OnRemote c h n r) o in
      remote_by e c h n r o w (expr_read p (omega (arith, d.depth, w))) (expr_read q (omega (arith, d.depth, w))) (expr_read s (omega (arith, d.depth, w)))
  expr_read {e = e} (P.neighbour c h n v o p q s t) w = let d = measured_by_level e (Expr-F.OnNeighbor c h n v) o in
      neighbor_by e c h n v o w (expr_read p (omega (arith, d.depth, w))) (expr_read q (omega (arith, d.depth, w))) (expr_read s (omega (arith, d.depth, w))) (expr_read t (omega (arith, d.depth, w)))

  parts_read : {es : List Expr} → AreProper es → (most : ℕ) → largest_by expr_depth es ≤ most → most ≤ 64 → AreRead most es
  parts_read M.no_parts most l w = tt
  parts_read (M.and_part {e = e} {es = es} p ps) most l w = let z = largest_cons expr_depth e es in
      (expr_read p (omega (arith, z, l, w)), omega (arith, z, l), parts_read ps most (omega (arith, z, l)) w)

  clauses_read : {cs : List Clause} → AreProperClauses cs → (most : ℕ) → largest_by clause_depth cs ≤ most → most ≤ 64 → ClausesRead most cs
  clauses_read K.no_clauses most l w = tt
  clauses_read (K.last_clause {c = c} n p) most l w = let z = largest_cons clause_depth c [] in (expr_read p (omega (arith, z, l, w)), omega (arith, z, l))
  clauses_read (K.and_clause {c = c} {cs = cs} v e n p ps) most l w = let z = largest_cons clause_depth c cs in
      another cs most c (expr_read p (omega (arith, z, l, w))) (omega (arith, z, l)) (ap is_some e) (clauses_read ps most (omega (arith, z, l)) w)
