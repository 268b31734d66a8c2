-- What may be spelled can be written.
use Rattle.std.proofs.Common.{◌≡◌, ℕ, zero, suc, ◌<◌, Bool, true, List, [], ◌∷◌, length, Option, Some, None, refl, ◌∙◌, arith}
use Rattle.std.specs.Prelude.{◌||◌, IsTrue}
use Rattle.std.specs.List.{list_all}
use Rattle.std.proofs.lemmas.Bool.{lt-ltb}
use Rattle.containers.proofs.Bools.{both}
use Rattle.plan_base.specs.declared.tree.Ty.{Ty, Ty-F, out-Ty}
use Rattle.plan_base.specs.declared.tree.Expr.{Expr, Expr-F, out-Expr}
use Rattle.plan_base.specs.declared.tree.Clause.{Clause}
use Rattle.plan_base.specs.declared.tree.Svc.{Svc}
use Rattle.plan_base.specs.declared.tree.Param.{Param}
use Rattle.plan_base.specs.declared.tree.Fun.{Fun}
use Rattle.plan_base.specs.declared.tree.Program.{Program}
use Rattle.plan_base.specs.declared.tree.Value.{Value, Value-F, out-Value}
use Rattle.plan_base.specs.declared.tree.Chunk.{Chunk}
use Rattle.chunk_codec_spec.specs.Parts.{Part, Core, FormFits, EachFits}
use Rattle.chunk_codec_spec.specs.Types.{type_forms, type_parts, type_from, no_type, type_core, type_part}
use Rattle.chunk_codec_spec.specs.Exprs.{clause_part, clauses_part, ClausesFit, is_none_left, expr_forms, expr_parts, clause_forms, clause_parts_by, expr_from, no_expr, expr_core}
use Rattle.chunk_codec_spec.specs.Programs.{param_part, service_part, function_part, ProgramFits}
use Rattle.chunk_codec_spec.specs.Values.{value_forms, value_parts, value_from, chunk_from, no_value, no_chunk, may_open, values_within, chunk_with, ChunkFits, value_core, value_part}
use Rattle.chunk_codec_spec.specs.Kept.{type_kept, type_kept_level, expr_kept, expr_kept_level, clause_kept, param_kept, service_kept, function_kept, program_kept, value_kept, value_kept_level, chunk_kept}
use Rattle.chunk_codec_spec.proofs.KeptLaws.{type_kept_out, expr_kept_out, value_kept_out}

each_kept : {A : Type 0} {kept : A → Bool} (p : Part A) → ((x : A) → p.Fits x → kept x ≡ true) → (xs : List A) → EachFits p.Fits xs → list_all kept xs ≡ true
each_kept p h [] q = refl
each_kept p h (x ∷ xs) q = both (h x q.0) (each_kept p h xs q.1)

module _ (room below : ℕ) (core : Core Ty) (h : (t : Ty) → core.Fits t → type_kept t ≡ true) where
  type_level : (x : Ty-F Ty) → FormFits (λ _. 0 < room) (type_forms (type_from below core)) (type_parts (type_from below core) x) → type_kept_level type_kept x ≡ true
  type_level (Ty-F.List t) q = h t q.1.0
  type_level (Ty-F.Tuple ts) q = both (lt-ltb (length ts) 256 (let l = q.1.0.1 in omega (arith, l))) (each_kept (type_from below core) h ts q.1.0.2)
  type_level _ q = refl

pub type_fits_kept : (room : ℕ) (t : Ty) → (type_core room).Fits t → type_kept t ≡ true
unfolding type_core
type_fits_kept zero t q = type_kept_out t ∙ type_level 0 0 no_type (λ u r. absurd r) (out-Ty t) q
type_fits_kept (suc room) t q = type_kept_out t ∙ type_level (suc room) room (type_core room) (type_fits_kept room) (out-Ty t) q

clause_by : (below : ℕ) (core : Core Expr) → ((e : Expr) → core.Fits e → expr_kept e ≡ true) → (last : Bool) (n : Option (List ℕ)) (e : Expr)
    → FormFits (λ named. IsTrue (named || last)) (clause_forms (expr_from below core)) (clause_parts_by (expr_from below core) n e) → expr_kept e ≡ true
clause_by below core h last None e q = h e q.1.0
clause_by below core h last (Some n) e q = h e q.1.1.0

clauses_kept : (below : ℕ) (core : Core Expr) → ((e : Expr) → core.Fits e → expr_kept e ≡ true) → (cs : List Clause)
    → ClausesFit (λ last. (clause_part last below (expr_from below core)).Fits) cs → list_all clause_kept cs ≡ true
clauses_kept below core h [] q = refl
clauses_kept below core h (c ∷ cs) q = both (clause_by below core h (is_none_left (length cs)) c.name c.body q.0) (clauses_kept below core h cs q.1)

module _ (room below : ℕ) (core : Core Expr) (h : (e : Expr) → core.Fits e → expr_kept e ≡ true) where
  expr_level : (x : Expr-F Expr Clause) → FormFits (λ _. 0 < room) (expr_forms (expr_from below core) (clauses_part below (expr_from below core))) (expr_parts (expr_from below core) (clauses_part below (expr_from below core)) x)
      → expr_kept_level expr_kept clause_kept x ≡ true
  expr_level (Expr-F.Str s) q = lt-ltb (length s) 65536 q.1.0.1
  expr_level (Expr-F.Blob s) q = lt-ltb (length s) 65536 q.1.0
  expr_level (Expr-F.Nil (Some t)) q = type_fits_kept 7 t q.1.0
  expr_level (Expr-F.Nil None) q = absurd q
  expr_level (Expr-F.Tuple es) q = both (lt-ltb (length es) 256 (let l = q.1.0.1 in omega (arith, l))) (each_kept (expr_from below core) h es q.1.0.2)
  expr_level (Expr-F.Call x es) q = both (lt-ltb (length es) 256 (let l = q.1.1.0.1 in omega (arith, l))) (each_kept (expr_from below core) h es q.1.1.0.2)
  expr_level (Expr-F.If a b c) q = both (h a q.1.0) (both (h b q.1.1.0) (h c q.1.1.1.0))
  expr_level (Expr-F.Let x t a b) q = both (type_fits_kept 8 t q.1.1.0) (both (h a q.1.1.1.0) (h b q.1.1.1.1.0))
  expr_level (Expr-F.Then a b) q = both (h a q.1.0) (h b q.1.1.0)
  expr_level (Expr-F.And a b) q = both (h a q.1.0) (h b q.1.1.0)
  expr_level (Expr-F.Or a b) q = both (h a q.1.0) (h b q.1.1.0)
  expr_level (Expr-F.Not a) q = h a q.1.0
  expr_level (Expr-F.Binary o a b) q = both (h a q.1.1.0) (h b q.1.1.1.0)
  expr_level (Expr-F.Part i a) q = h a q.1.1.0
  expr_level (Expr-F.Raise x (Some t)) q = type_fits_kept 8 t q.1.1.0
  expr_level (Expr-F.Raise x None) q = absurd q
  expr_level (Expr-F.Try a cs) q = both (h a q.1.0) (both (lt-ltb (length cs) 256 (let l = q.1.1.0.1 in omega (arith, l))) (clauses_kept below core h cs q.1.1.0.2))
  expr_level (Expr-F.Foldl x a b) q = both (h a q.1.1.0) (h b q.1.1.1.0)
  expr_level (Expr-F.Foldr x a b) q = both (h a q.1.1.0) (h b q.1.1.1.0)
  expr_level (Expr-F.ChunkOf x es) q = both (lt-ltb (length es) 256 (let l = q.1.1.0.1 in omega (arith, l))) (each_kept (expr_from below core) h es q.1.1.0.2)
  expr_level (Expr-F.Eval a) q = h a q.1.0
  expr_level (Expr-F.OnRemote a b c x) q = both (h a q.1.0) (both (h b q.1.1.0) (h c q.1.1.1.0))
  expr_level (Expr-F.OnNeighbor a b c d) q = both (h a q.1.0) (both (h b q.1.1.0) (both (h c q.1.1.1.0) (h d q.1.1.1.1.0)))
  expr_level _ q = refl

pub expr_fits_kept : (room : ℕ) (e : Expr) → (expr_core room).Fits e → expr_kept e ≡ true
unfolding expr_core
expr_fits_kept zero e q = expr_kept_out e ∙ expr_level 0 0 no_expr (λ u r. absurd r) (out-Expr e) q
expr_fits_kept (suc room) e q = expr_kept_out e ∙ expr_level (suc room) room (expr_core room) (expr_fits_kept room) (out-Expr e) q

param_fits_kept : (p : Param) → param_part.Fits p → param_kept p ≡ true
param_fits_kept p q = type_fits_kept 8 p.ty q.1.0

service_fits_kept : (s : Svc) → service_part.Fits s → service_kept s ≡ true
service_fits_kept s q =
    both (lt-ltb (length s.params) 256 (let l = q.1.0.1 in omega (arith, l))) (both (each_kept (type_part 8) (type_fits_kept 8) s.params q.1.0.2) (type_fits_kept 8 s.result q.1.1.0))

function_fits_kept : (f : Fun) → function_part.Fits f → function_kept f ≡ true
function_fits_kept f q =
    both (lt-ltb (length f.params) 256 (let l = q.1.0.1 in omega (arith, l)))
    (both (each_kept param_part param_fits_kept f.params q.1.0.2) (both (type_fits_kept 8 f.result q.1.1.0) (expr_fits_kept 64 f.body q.1.1.1.0)))

pub program_fits_kept : (p : Program) → ProgramFits p → program_kept p ≡ true
unfolding program_kept
program_fits_kept p w =
    let q = w.parts in
    both (lt-ltb (length p.svcs) 256 (let l = q.0.1 in omega (arith, l)))
    (both (each_kept service_part service_fits_kept p.svcs q.0.2)
    (both (lt-ltb (length p.exns) 256 (let l = q.1.0.1 in omega (arith, l)))
    (both (lt-ltb (length p.funs) 256 (let l = q.1.1.0.1 in omega (arith, l))) (each_kept function_part function_fits_kept p.funs q.1.1.0.2))))

module _ (nest room cnest below : ℕ) (core : Core Value) (chunks : Core Chunk) (h : (v : Value) → core.Fits v → value_kept v ≡ true) (k : (c : Chunk) → chunks.Fits c → chunk_kept c ≡ true) where
  value_level : (x : Value-F Value Chunk) → FormFits (λ tag. IsTrue (may_open nest room tag)) (value_forms (value_from nest below core) (chunk_from cnest chunks)) (value_parts (value_from nest below core) (chunk_from cnest chunks) x)
      → value_kept_level value_kept chunk_kept x ≡ true
  value_level (Value-F.Str s) q = lt-ltb (length s) 65536 q.1.0.1
  value_level (Value-F.Blob s) q = lt-ltb (length s) 65536 q.1.0
  value_level (Value-F.Chunk c) q = k c q.1.0
  value_level (Value-F.List t vs) q = both (type_fits_kept 7 t q.1.0) (both (lt-ltb (length vs) 65536 q.1.1.0.0) (each_kept (value_from nest below core) h vs q.1.1.0.1))
  value_level (Value-F.Tuple es) q = both (lt-ltb (length es) 256 (let l = q.1.0.1 in omega (arith, l))) (each_kept (value_from nest below core) h es q.1.0.2)
  value_level _ q = refl

chunk_by : (nest : ℕ) → ((v : Value) → (value_core nest 8).Fits v → value_kept v ≡ true) → (c : Chunk) → ChunkFits nest (value_part nest 8) c → chunk_kept c ≡ true
chunk_by nest h c w =
    let q = w.parts in
    both (program_fits_kept c.code q.0) (both (lt-ltb (length c.args) 256 (let l = q.1.1.0.1 in omega (arith, l))) (each_kept (value_part nest 8) h c.args q.1.1.0.2))

pub value_fits_kept : (nest room : ℕ) (v : Value) → (value_core nest room).Fits v → value_kept v ≡ true
unfolding value_core values_within
value_fits_kept zero zero v q = value_kept_out v ∙ value_level 0 0 0 0 no_value no_chunk (λ u r. absurd r) (λ c r. absurd r) (out-Value v) q
value_fits_kept zero (suc room) v q = value_kept_out v ∙ value_level 0 (suc room) 0 room (value_core 0 room) no_chunk (value_fits_kept zero room) (λ c r. absurd r) (out-Value v) q
value_fits_kept (suc nest) zero v q =
    value_kept_out v ∙ value_level (suc nest) 0 nest 0 no_value (chunk_with nest (value_part nest 8)) (λ u r. absurd r) (chunk_by nest (value_fits_kept nest 8)) (out-Value v) q
value_fits_kept (suc nest) (suc room) v q =
    value_kept_out v ∙ value_level (suc nest) (suc room) nest room (value_core (suc nest) room) (chunk_with nest (value_part nest 8)) (value_fits_kept (suc nest) room) (chunk_by nest (value_fits_kept nest 8)) (out-Value v) q

pub chunk_fits_kept : (nest : ℕ) (c : Chunk) → ChunkFits nest (value_part nest 8) c → chunk_kept c ≡ true
chunk_fits_kept nest c q = chunk_by nest (value_fits_kept nest 8) c q
