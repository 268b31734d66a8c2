-- The head of a printed declaration is read.
use Rattle.std.proofs.Common.{◌≡◌, ◌≤◌, true, List, [], ◌∷◌, ◌++◌, length, refl, ap, ◌∙◌, arith, append_assoc}
use Rattle.plan_base.specs.declared.limit.Limit.TheVariants as limits
use Rattle.plan_base.specs.declared.tree.Ty.{Ty}
use Rattle.plan_base.specs.declared.tree.Svc.{Svc}
use Rattle.plan_base.specs.declared.tree.Param.{Param}
use Rattle.plan_base.specs.declared.tree.Fun.{Fun}
use Rattle.plan_lexer.specs.declared.token.Symbol.TheVariants as symbols
use Rattle.plan_lexer.specs.declared.token.TokenKind.TheVariants as kind
use Rattle.plan_parser_exprs.specs.declared.fault.Wanted.TheVariants as wanted
use Rattle.plan_parser_exprs.specs.Ahead.{Front, behind, is_word}
use Rattle.plan_parser_exprs.specs.Begins.{begins_type, begins_name}
use Rattle.plan_parser.specs.declared.signature.Head.{Head}
use Rattle.plan_parser.specs.Signatures.{outer_type, inner_type, arguments_from, arguments_behind, service_at, param_at, params_from, params_behind, head_at}
use Rattle.plan_printer_spec.specs.Pieces.{listed_pieces}
use Rattle.program_text_laws.specs.PrintedTokens.{Kinds, mark, type_kinds, param_kinds}
use Rattle.program_text_laws.specs.Proper.{IsReadableType, IsProperParam, IsProperSvc, IsProperFun, AllProper}
use Rattle.program_text_laws.specs.Reads.{kinds_at, Took, FollowsType}
use Rattle.program_text_laws.proofs.Steps.{took, then_took, next_is, behind_is, symbol_is, take_symbol, take_name, AllRead, AllGood, more_took}
use Rattle.program_text_laws.proofs.TypesRead.{type_takes, type_starts, same_type}

inner_took : (t : Ty) → IsReadableType t → (f : Front) (rest : Kinds) → kinds_at f ≡ type_kinds t ++ rest → FollowsType rest → Took (inner_type f) rest (λ u. u ≡ t)
unfolding inner_type
inner_took t h f rest k w = type_takes h.0 160 (omega (arith, h.1)) h.1 f rest k w

outer_took : (t : Ty) → IsReadableType t → (f : Front) (rest : Kinds) → kinds_at f ≡ type_kinds t ++ rest → FollowsType rest → Took (outer_type f) rest (λ u. u ≡ t)
unfolding outer_type
outer_took t h f rest k w = type_takes h.0 161 (omega (arith, h.1)) h.1 f rest k w

-- ---- parameters of a function

param_took : (p : Param) → IsProperParam p → (f : Front) (rest : Kinds) → kinds_at f ≡ param_kinds p ++ rest → FollowsType rest → Took (param_at f) rest (λ q. q ≡ p)
unfolding param_at
param_took p h f rest k w =
    then_took _ (take_name p.name f (kind.Symbol symbols.Colon ∷ (type_kinds p.ty ++ rest)) k) (λ n g1 k1 q1.
    then_took _ (take_symbol symbols.Colon g1 (type_kinds p.ty ++ rest) k1) (λ u g2 k2 q2.
    then_took _ (inner_took p.ty h.ty g2 rest k2 w) (λ t g3 k3 q3.
    took _ g3 k3 (λ i. record { name = q1 i; ty = q3 i }))))

abbrev SameParam : Param → Param → Type 0
SameParam p q = q ≡ p

params_read : (ps : List Param) → AllProper IsProperParam ps → AllRead param_at begins_name symbols.Comma limits.Parameters wanted.AName param_kinds SameParam FollowsType ps
params_read [] h = tt
params_read (p ∷ ps) h = (λ f rest k w. param_took p h.0 f rest k w, params_read ps h.1)

same_params : (ps qs : List Param) → AllGood param_at begins_name symbols.Comma limits.Parameters wanted.AName param_kinds SameParam FollowsType ps qs → qs ≡ ps
same_params [] [] g = refl
same_params (p ∷ ps) (q ∷ qs) g = (λ i. g.0 i ∷ same_params ps qs g.1 i)
same_params [] (q ∷ qs) g = absurd g
same_params (p ∷ ps) [] g = absurd g

param_begins : (p : Param) (f : Front) (rest : Kinds) → kinds_at f ≡ param_kinds p ++ rest → begins_name f ≡ true
unfolding begins_name
param_begins p f rest k = ap is_word (next_is f (param_kinds p ++ rest) k)

param_tail : (ps : List Param) (rest : Kinds) → FollowsType (listed_pieces (mark symbols.Comma) (mark symbols.Comma) param_kinds ps ++ (kind.Symbol symbols.ParenClose ∷ rest))
param_tail [] rest = refl
param_tail (p ∷ ps) rest = refl

params_took : (ps : List Param) → AllProper IsProperParam ps → length ps ≤ 8 → (f : Front) (rest : Kinds)
    → kinds_at f ≡ listed_pieces (mark symbols.Comma) [] param_kinds ps ++ (kind.Symbol symbols.ParenClose ∷ rest) → Took (params_behind f) rest (λ qs. qs ≡ ps)
unfolding params_behind params_from
params_took [] h l f rest k = rw (symbol_is symbols.ParenClose f (kind.Symbol symbols.ParenClose ∷ rest) k) (took [] (behind f) (behind_is f (kind.Symbol symbols.ParenClose) rest k) refl)
params_took (p ∷ ps) h l f rest k =
    let tail : Kinds = listed_pieces (mark symbols.Comma) (mark symbols.Comma) param_kinds ps ++ (kind.Symbol symbols.ParenClose ∷ rest) in
    let ks : kinds_at f ≡ param_kinds p ++ tail = k ∙ append_assoc (param_kinds p) (listed_pieces (mark symbols.Comma) (mark symbols.Comma) param_kinds ps) (kind.Symbol symbols.ParenClose ∷ rest) in
    rw (symbol_is symbols.ParenClose f (param_kinds p ++ tail) ks) (rw (param_begins p f tail ks)
    (then_took _ (param_took p h.0 f tail ks (param_tail ps rest)) (λ q g1 k1 q1.
    then_took _ (more_took param_at begins_name symbols.Comma limits.Parameters wanted.AName param_kinds SameParam FollowsType (kind.Symbol symbols.ParenClose ∷ rest) refl (λ s. refl) refl ps
    (params_read ps h.1) 7 (omega (arith, l)) (q ∷ []) g1 k1)
    (λ all g2 k2 q2.
    then_took _ (take_symbol symbols.ParenClose g2 rest k2) (λ u g3 k3 q3.
    took all g3 k3 (q2.1 ∙ (λ i. q1 i ∷ same_params ps q2.0 q2.2 i)))))))

-- ---- arguments of a service

types_read : (ts : List Ty) → AllProper IsReadableType ts → AllRead inner_type begins_type symbols.Comma limits.Parameters wanted.AType type_kinds same_type FollowsType ts
types_read [] h = tt
types_read (t ∷ ts) h = (λ f rest k w. inner_took t h.0 f rest k w, types_read ts h.1)

same_types : (ts us : List Ty) → AllGood inner_type begins_type symbols.Comma limits.Parameters wanted.AType type_kinds same_type FollowsType ts us → us ≡ ts
same_types [] [] g = refl
same_types (t ∷ ts) (u ∷ us) g = (λ i. g.0 i ∷ same_types ts us g.1 i)
same_types [] (u ∷ us) g = absurd g
same_types (t ∷ ts) [] g = absurd g

type_tail : (ts : List Ty) (rest : Kinds) → FollowsType (listed_pieces (mark symbols.Comma) (mark symbols.Comma) type_kinds ts ++ (kind.Symbol symbols.ParenClose ∷ rest))
type_tail [] rest = refl
type_tail (t ∷ ts) rest = refl

types_took : (ts : List Ty) → AllProper IsReadableType ts → length ts ≤ 8 → (f : Front) (rest : Kinds)
    → kinds_at f ≡ listed_pieces (mark symbols.Comma) [] type_kinds ts ++ (kind.Symbol symbols.ParenClose ∷ rest) → Took (arguments_behind f) rest (λ us. us ≡ ts)
unfolding arguments_behind arguments_from
types_took [] h l f rest k = rw (symbol_is symbols.ParenClose f (kind.Symbol symbols.ParenClose ∷ rest) k) (took [] (behind f) (behind_is f (kind.Symbol symbols.ParenClose) rest k) refl)
types_took (t ∷ ts) h l f rest k =
    let tail : Kinds = listed_pieces (mark symbols.Comma) (mark symbols.Comma) type_kinds ts ++ (kind.Symbol symbols.ParenClose ∷ rest) in
    let ks : kinds_at f ≡ type_kinds t ++ tail = k ∙ append_assoc (type_kinds t) (listed_pieces (mark symbols.Comma) (mark symbols.Comma) type_kinds ts) (kind.Symbol symbols.ParenClose ∷ rest) in
    let s = type_starts t h.0.0 f tail ks in
    rw s.0 (rw s.1
    (then_took _ (inner_took t h.0 f tail ks (type_tail ts rest)) (λ u g1 k1 q1.
    then_took _ (more_took inner_type begins_type symbols.Comma limits.Parameters wanted.AType type_kinds same_type FollowsType (kind.Symbol symbols.ParenClose ∷ rest) refl (λ s. refl) refl ts
    (types_read ts h.1) 7 (omega (arith, l)) (u ∷ []) g1 k1)
    (λ all g2 k2 q2.
    then_took _ (take_symbol symbols.ParenClose g2 rest k2) (λ v g3 k3 q3.
    took all g3 k3 (q2.1 ∙ (λ i. q1 i ∷ same_types ts q2.0 q2.2 i)))))))

-- ---- heads

pub service_took : (s : Svc) → IsProperSvc s → length s.params ≤ 8 → (f : Front) (rest : Kinds)
    → kinds_at f
    ≡ kind.Word s.name ∷ kind.Symbol symbols.Colon ∷ kind.Symbol symbols.ParenOpen ∷
    (listed_pieces (mark symbols.Comma) [] type_kinds s.params ++ (kind.Symbol symbols.ParenClose ∷ kind.Symbol symbols.Arrow ∷ (type_kinds s.result ++ rest)))
    → FollowsType rest → Took (service_at f) rest (λ q. q ≡ s)
unfolding service_at
service_took s h l f rest k w =
    then_took _ (take_name s.name f _ k) (λ n g1 k1 q1.
    then_took _ (take_symbol symbols.Colon g1 _ k1) (λ u2 g2 k2 q2.
    then_took _ (take_symbol symbols.ParenOpen g2 _ k2) (λ u3 g3 k3 q3.
    then_took _ (types_took s.params h.params l g3 (kind.Symbol symbols.Arrow ∷ (type_kinds s.result ++ rest)) k3) (λ ts g4 k4 q4.
    then_took _ (take_symbol symbols.Arrow g4 _ k4) (λ u5 g5 k5 q5.
    then_took _ (outer_took s.result h.result g5 rest k5 w) (λ t g6 k6 q6.
    took _ g6 k6 (λ i. record { name = q1 i; params = q4 i; result = q6 i })))))))

pub record IsHead (f : Fun) (h : Head) : Type 0 where
  pub name : h.name ≡ f.name
  pub params : h.params ≡ f.params
  pub result : h.result ≡ f.result

pub head_took : (d : Fun) → IsProperFun d → length d.params ≤ 8 → (f : Front) (rest : Kinds)
    → kinds_at f
    ≡ kind.Word d.name ∷ kind.Symbol symbols.ParenOpen ∷
    (listed_pieces (mark symbols.Comma) [] param_kinds d.params ++ (kind.Symbol symbols.ParenClose ∷ kind.Symbol symbols.Colon ∷ (type_kinds d.result ++ (kind.Symbol symbols.Equal ∷ rest))))
    → Took (head_at f) rest (IsHead d)
unfolding head_at
head_took d h l f rest k =
    then_took _ (take_name d.name f _ k) (λ n g1 k1 q1.
    then_took _ (take_symbol symbols.ParenOpen g1 _ k1) (λ u2 g2 k2 q2.
    then_took _ (params_took d.params h.params l g2 (kind.Symbol symbols.Colon ∷ (type_kinds d.result ++ (kind.Symbol symbols.Equal ∷ rest))) k2) (λ ps g3 k3 q3.
    then_took _ (take_symbol symbols.Colon g3 _ k3) (λ u4 g4 k4 q4.
    then_took _ (outer_took d.result h.result g4 (kind.Symbol symbols.Equal ∷ rest) k4 refl) (λ t g5 k5 q5.
    then_took _ (take_symbol symbols.Equal g5 rest k5) (λ u6 g6 k6 q6.
    took _ g6 k6 (record { name = q1; params = q3; result = q5 })))))))
