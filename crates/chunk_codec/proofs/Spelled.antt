-- What is typed, well formed and in range keeps the limits of its spelling.
use Rattle.std.proofs.Common.{◌≡◌, ℕ, zero, suc, ◌+◌, ◌-◌, ◌<◌, ◌≤◌, Bool, true, false, List, [], ◌∷◌, length, take, Option, Some, None, refl, sym, ◌∙◌, ap, subst, arith}
use Rattle.std.specs.Prelude.{◌&&◌, ◌||◌, ◌==◌, nat_le, max, fold, is_some, IsTrue, if◌then◌else◌, slice_get}
use Rattle.std.specs.List.{list_all}
use Rattle.std.specs.Str.{IsUtf8}
use Rattle.std.proofs.lemmas.Bool.{leb-true, ltb-true, le-leb, lt-ltb}
use Rattle.std.proofs.lemmas.Str.{IsUtf8-from_is_utf8}
use Rattle.std.proofs.Math.Utf8.{scalar_fits}
use Rattle.containers.proofs.Bools.{and_left as left, and_right as right}
use Rattle.plan_base.specs.Words.{is_name, IsName}
use Rattle.plan_base.specs.declared.tree.Ty.{Ty, Ty-F, out-Ty}
use Rattle.plan_base.specs.declared.tree.Ty.TheVariants as ty
use Rattle.plan_base.specs.declared.tree.Expr.{Expr, Expr-F, out-Expr}
use Rattle.plan_base.specs.declared.tree.Clause.{Clause}
use Rattle.plan_base.specs.declared.tree.Svc.{Svc}
use Rattle.plan_base.specs.declared.tree.Param.{Param}
use Rattle.plan_base.specs.declared.tree.Fun.{Fun}
use Rattle.plan_base.specs.declared.tree.Program.{Program}
use Rattle.plan_base.specs.declared.tree.Value.{Value, Value-F, out-Value}
use Rattle.plan_base.specs.declared.tree.Chunk.{Chunk}
use Rattle.plan_base.specs.Sizes.{largest_by, type_depth, type_depth_level, expr_depth, expr_depth_level, clause_depth, program_nodes, nesting, nesting_level, chunk_nesting, value_depth, value_depth_level}
use Rattle.plan_base.specs.WellFormed.{formed_type, formed_type_level, well_formed_type, well_formed_text, has_from_to, names_all_but_last, formed_expr, formed_expr_level, well_formed_expr}
use Rattle.plan_base.specs.WellFormed.{well_formed_svc, well_formed_fun, well_formed_program, formed_value, formed_value_level, formed_chunk, well_formed_chunk}
use Rattle.plan_types_spec.specs.Typing.{literal_type, HasTy, HaveTys, ClausesHaveTy, Typed, HasType, HaveTypes, AllHaveType, IsTypedChunk}
use Rattle.plan_types_spec.specs.Typing as y
use Rattle.plan_base.proofs.SizeLaws.{type_depth_out, expr_depth_out, nesting_out, chunk_nesting_is, value_depth_out}
use Rattle.plan_base.proofs.FormLaws.{formed_type_out, formed_expr_out, formed_value_out, formed_chunk_is}
use Rattle.chunk_codec_spec.specs.Parts.{Part, FormFits, EachFits}
use Rattle.chunk_codec_spec.specs.Types.{type_forms, type_parts, type_from, type_core}
use Rattle.chunk_codec_spec.specs.Exprs.{clause_part, clauses_part, ClausesFit, is_none_left, expr_forms, expr_parts, clause_forms, clause_parts_by, expr_core, expr_part}
use Rattle.chunk_codec_spec.specs.Programs.{param_part, service_part, function_part, ProgramFits}
use Rattle.chunk_codec_spec.specs.Values.{chunk_bytes, value_forms, value_parts, may_open, light, ChunkFits, values_within, value_core, value_part, value_inner, chunk_inner}
use Rattle.chunk_codec_spec.specs.Spelling.{a_whole_chunk}
use Rattle.chunk_codec_spec.proofs.LengthLaws.{code_length, chunk_length}
use Rattle.chunk_codec.specs.Ranges.{expr_ranged, expr_ranged_level, catch_ranged, clause_ranged, param_ranged, service_ranged, function_ranged, program_ranged, value_ranged, value_ranged_level, chunk_ranged}
use Rattle.chunk_codec.proofs.RangeLaws.{expr_ranged_out, value_ranged_out}
use Rattle.chunk_codec.proofs.TestLaws.{between, int_fits, max_parts, fold_within, no_depth, clause_named, body_formed, named_rest}

-- ---- numbers and lists

-- each of a list by a test
each_by : {A : Type 0} {test : A → Bool} (Fits : A → Type 0) → ((x : A) → test x ≡ true → Fits x) → (xs : List A) → list_all test xs ≡ true → EachFits Fits xs
each_by Fits h [] q = tt
each_by Fits h (x ∷ xs) q = (h x (left _ _ q), each_by Fits h xs (right _ _ q))

short_enough : (n : ℕ) → nat_le n 65535 ≡ true → n < 65536
short_enough n h = let l = leb-true n 65535 h in omega (arith, l)

text_fits : (s : List ℕ) → well_formed_text s ≡ true → IsUtf8 s × (length s < 65536)
unfolding well_formed_text
text_fits s h = (IsUtf8-from_is_utf8 s (left _ _ h), short_enough (length s) (right _ _ h))

nothing : (n : ℕ) → 0 ≤ n
nothing n = omega arith

-- ---- types

module _ (room : ℕ) (h : (t : Ty) → formed_type t ≡ true → type_depth t ≤ room → (type_core room).Fits t) where
  each_type : (ts : List Ty) (m : ℕ) → list_all formed_type ts ≡ true → fold (λ k x. max k (type_depth x)) m ts ≤ room → EachFits (type_core room).Fits ts
  each_type [] m f d = tt
  each_type (t ∷ ts) m f d =
      let w = max_parts m (type_depth t) room (fold_within type_depth room ts (max m (type_depth t)) d) in
      (h t (left _ _ f) w.1, each_type ts (max m (type_depth t)) (right _ _ f) d)

  type_level : (x : Ty-F Ty) → formed_type_level formed_type x ≡ true → type_depth_level type_depth x ≤ suc room
      → FormFits (λ _. 0 < suc room) (type_forms (type_from room (type_core room))) (type_parts (type_from room (type_core room)) x)
  type_level (Ty-F.List t) f d = (omega arith, (h t f (omega (arith, d)), tt))
  type_level (Ty-F.Tuple ts) f d =
      let l = between 2 8 (length ts) (left _ _ f) in
      (omega arith, ((l.0, l.1, each_type ts 0 (right _ _ f) (omega (arith, d))), tt))
  type_level _ f d = (omega arith, tt)

pub type_fits : (room : ℕ) (t : Ty) → formed_type t ≡ true → type_depth t ≤ room → (type_core room).Fits t
unfolding type_core
type_fits zero t f d = absurd (no_depth (out-Ty t) (let e = type_depth_out t in omega (arith, d, e)))
type_fits (suc room) t f d =
    type_level room (type_fits room) (out-Ty t) (sym (formed_type_out t) ∙ f) (let e = type_depth_out t in omega (arith, d, e))

whole_type : (t : Ty) → well_formed_type t ≡ true → (type_core 8).Fits t
unfolding well_formed_type
whole_type t h = type_fits 8 t (left _ _ h) (leb-true (type_depth t) 8 (right _ _ h))

-- a type that stands in a list type of at most depth 8
inner_type : (u : Ty) → well_formed_type u ≡ true → type_depth (ty.List u) ≤ 8 → (type_core 7).Fits u
unfolding well_formed_type
inner_type u h d =
    let e : type_depth (ty.List u) ≡ 1 + type_depth u = type_depth_out (ty.List u) ∙ ap (type_depth_level type_depth) (ty.outs-List u) in
    type_fits 7 u (left _ _ h) (omega (arith, d, e))

-- ---- expressions

-- what an expression of at most that depth keeps
pub record Good (room : ℕ) (e : Expr) : Type 0 where
  pub formed : formed_expr e ≡ true
  pub within : expr_depth e ≤ room
  pub ranged : expr_ranged e ≡ true

-- and its outermost level
record GoodLevel (room : ℕ) (x : Expr-F Expr Clause) : Type 0 where
  formed : formed_expr_level formed_expr clause_named body_formed x ≡ true
  within : expr_depth_level expr_depth clause_depth x ≤ room
  ranged : expr_ranged_level expr_ranged clause_ranged x ≡ true

level_of : {room : ℕ} (e : Expr) (x : Expr-F Expr Clause) → out-Expr e ≡ x → Good room e → GoodLevel room x
level_of {room} e x o g =
    subst (GoodLevel room) o (record {
      formed = sym (formed_expr_out e) ∙ g.formed;
      within = (let a = expr_depth_out e in let d = g.within in omega (arith, a, d));
      ranged = sym (expr_ranged_out e) ∙ g.ranged;
    })

no_expr_depth : (x : Expr-F Expr Clause) → expr_depth_level expr_depth clause_depth x ≤ 0 → ⊥
no_expr_depth (Expr-F.Tuple es) h = omega (arith, h)
no_expr_depth (Expr-F.Call f es) h = omega (arith, h)
no_expr_depth (Expr-F.If a b c) h = omega (arith, h)
no_expr_depth (Expr-F.Let x t a b) h = omega (arith, h)
no_expr_depth (Expr-F.Then a b) h = omega (arith, h)
no_expr_depth (Expr-F.And a b) h = omega (arith, h)
no_expr_depth (Expr-F.Or a b) h = omega (arith, h)
no_expr_depth (Expr-F.Not a) h = omega (arith, h)
no_expr_depth (Expr-F.Binary o a b) h = omega (arith, h)
no_expr_depth (Expr-F.Part i a) h = omega (arith, h)
no_expr_depth (Expr-F.Try a cs) h = omega (arith, h)
no_expr_depth (Expr-F.Foldl f a l) h = omega (arith, h)
no_expr_depth (Expr-F.Foldr f a l) h = omega (arith, h)
no_expr_depth (Expr-F.ChunkOf f es) h = omega (arith, h)
no_expr_depth (Expr-F.Eval a) h = omega (arith, h)
no_expr_depth (Expr-F.OnRemote a b c r) h = omega (arith, h)
no_expr_depth (Expr-F.OnNeighbor a b c d) h = omega (arith, h)
no_expr_depth _ h = omega (arith, h)

-- the parts of an expression, one level less deep
module _ (room : ℕ) where
  abbrev inner : Part Expr
  inner = expr_part room

  abbrev Fits : Expr → Type 0
  Fits e = (expr_core room).Fits e

  abbrev LevelFits : Expr-F Expr Clause → Type 0
  LevelFits x = FormFits (λ _. 0 < suc room) (expr_forms inner (clauses_part room inner)) (expr_parts inner (clauses_part room inner) x)

  above : 0 < suc room
  above = omega arith

  literal_fits : (x : Expr-F Expr Clause) (t : Ty) → literal_type x ≡ Some t → GoodLevel (suc room) x → LevelFits x
  literal_fits Expr-F.Unit t e g = (above, tt)
  literal_fits (Expr-F.Bool b) t e g = (above, (tt, tt))
  literal_fits (Expr-F.Int z) t e g = (above, (int_fits z g.ranged, tt))
  literal_fits (Expr-F.Char c) t e g = (above, ((g.formed, scalar_fits c g.formed), tt))
  literal_fits (Expr-F.Str s) t e g = (above, (text_fits s g.formed, tt))
  literal_fits (Expr-F.Blob s) t e g = (above, (short_enough (length s) g.formed, tt))
  literal_fits (Expr-F.Host h) t e g = (above, (ltb-true h.0 4294967296 g.ranged, tt))
  literal_fits (Expr-F.Dev d) t e g = (above, (ltb-true d.0 4294967296 g.ranged, tt))
  literal_fits _ t e g = cc

  only : (a : Expr) → (formed_expr a && true) ≡ true → max 0 (expr_depth a) ≤ room → (expr_ranged a && true) ≡ true → Good room a
  only a f d r = record { formed = left _ _ f; within = (max_parts 0 (expr_depth a) room d).1; ranged = left _ _ r }

  one : (a : Expr) → formed_expr a ≡ true → 1 + expr_depth a ≤ suc room → expr_ranged a ≡ true → Good room a
  one a f d r = record { formed = f; within = omega (arith, d); ranged = r }

  two : (a b : Expr) → (formed_expr a && formed_expr b) ≡ true → 1 + max (expr_depth a) (expr_depth b) ≤ suc room → (expr_ranged a && expr_ranged b) ≡ true → Good room a × Good room b
  two a b f d r =
      let m = max_parts (expr_depth a) (expr_depth b) room (omega (arith, d)) in
      (record { formed = left _ _ f; within = m.0; ranged = left _ _ r }, record { formed = right _ _ f; within = m.1; ranged = right _ _ r })

  three : (a b c : Expr) → (formed_expr a && (formed_expr b && formed_expr c)) ≡ true → 1 + max (expr_depth a) (max (expr_depth b) (expr_depth c)) ≤ suc room
      → (expr_ranged a && (expr_ranged b && expr_ranged c)) ≡ true → Good room a × Good room b × Good room c
  three a b c f d r =
      let m = max_parts (expr_depth a) (max (expr_depth b) (expr_depth c)) room (omega (arith, d)) in
      let n = max_parts (expr_depth b) (expr_depth c) room m.1 in (
        record { formed = left _ _ f; within = m.0; ranged = left _ _ r },
        record { formed = left _ _ (right _ _ f); within = n.0; ranged = left _ _ (right _ _ r) },
        record { formed = right _ _ (right _ _ f); within = n.1; ranged = right _ _ (right _ _ r) },
      )

  four : (a b c d : Expr) → ((formed_expr a && formed_expr b) && (formed_expr c && formed_expr d)) ≡ true → 1 + max (max (expr_depth a) (expr_depth b)) (max (expr_depth c) (expr_depth d)) ≤ suc room
      → ((expr_ranged a && expr_ranged b) && (expr_ranged c && expr_ranged d)) ≡ true → Good room a × Good room b × Good room c × Good room d
  four a b c d f w r =
      let m = max_parts (max (expr_depth a) (expr_depth b)) (max (expr_depth c) (expr_depth d)) room (omega (arith, w)) in
      let n = max_parts (expr_depth a) (expr_depth b) room m.0 in
      let k = max_parts (expr_depth c) (expr_depth d) room m.1 in (
        record { formed = left _ _ (left _ _ f); within = n.0; ranged = left _ _ (left _ _ r) },
        record { formed = right _ _ (left _ _ f); within = n.1; ranged = right _ _ (left _ _ r) },
        record { formed = left _ _ (right _ _ f); within = k.0; ranged = left _ _ (right _ _ r) },
        record { formed = right _ _ (right _ _ f); within = k.1; ranged = right _ _ (right _ _ r) },
      )

-- a clause, by whether it is the last
clause_fits : (room : ℕ) (last : Bool) (n : Option (List ℕ)) (e : Expr) → (is_some n || last) ≡ true → catch_ranged n ≡ true → (expr_core room).Fits e
    → FormFits (λ named. IsTrue (named || last)) (clause_forms (expr_part room)) (clause_parts_by (expr_part room) n e)
clause_fits room last None e k r h = (k, (h, tt))
clause_fits room last (Some n) e k r h = (refl, (r, (h, tt)))

-- a clause that isn't the last has a name
named_first : (c : Clause) (cs : List Clause) → names_all_but_last clause_named (c ∷ cs) ≡ true → (is_some c.name || is_none_left (length cs)) ≡ true
named_first c [] h = by_name c.name
  where
    by_name : (n : Option (List ℕ)) → (is_some n || true) ≡ true
    by_name None = refl
    by_name (Some x) = refl
named_first c (d ∷ ds) h =
    let e : length (c ∷ d ∷ ds) - 1 ≡ suc (length ds) = omega arith in
    by_name c.name (left _ _ (ap (λ m. list_all clause_named (take m (c ∷ d ∷ ds))) (sym e) ∙ h))
  where
    by_name : (n : Option (List ℕ)) → is_some n ≡ true → (is_some n || false) ≡ true
    by_name (Some x) q = refl
    by_name None q = cc

called_fits : (room : ℕ) (f : List ℕ) (es : List Expr) → GoodLevel (suc room) (Expr-F.Call f es) → EachFits (expr_core room).Fits es → LevelFits room (Expr-F.Call f es)
called_fits room f es l h = (above room, (left _ _ l.ranged, ((nothing (length es), leb-true (length es) 8 (left _ _ l.formed), h), tt)))

-- an expression by its outermost level
fits_by_level : (room : ℕ) (e : Expr) (x : Expr-F Expr Clause) → out-Expr e ≡ x → Good room e → ((r : ℕ) → GoodLevel (suc r) x → LevelFits r x) → (expr_core room).Fits e
unfolding expr_core
fits_by_level zero e x o g h = absurd (no_expr_depth (out-Expr e) (let a = expr_depth_out e in let d = g.within in omega (arith, a, d)))
fits_by_level (suc r) e x o g h = subst (LevelFits r) (sym o) (h r (level_of e x o g))

-- how deep the parts of an expression with a list of them may be
parts_depth : (n r : ℕ) → 1 + n ≤ suc r → n ≤ r
parts_depth n r h = omega (arith, h)

module _ (code : Program) where
  mutual
    pub expr_fits : {seen : ℕ} {c : List Param} {e : Expr} {t : Ty} → HasTy code seen c e t → (room : ℕ) → Good room e → (expr_core room).Fits e
    expr_fits {e = e} {t = t} (y.literal o) room g = fits_by_level room e (out-Expr e) refl g (λ r l. literal_fits r (out-Expr e) t o l)
    expr_fits {e = e} (y.variable x o b) room g = fits_by_level room e (Expr-F.Var x) o g (λ r l. (above r, (l.ranged, tt)))
    expr_fits {e = e} (y.empty u o q s) room g = fits_by_level room e (Expr-F.Nil (Some u)) o g (λ r l. (above r, (inner_type u l.formed (subst (λ z. type_depth z ≤ 8) q s), tt)))
    expr_fits {e = e} {t = t} (y.raising x o i s) room g = fits_by_level room e (Expr-F.Raise x (Some t)) o g (λ r l. (above r, (l.ranged, (whole_type t l.formed, tt))))
    expr_fits {e = e} (y.tuple es ts o k q s) room g =
        fits_by_level room e (Expr-F.Tuple es) o g
        (λ r l. let n = between 2 8 (length es) (left _ _ l.formed) in (above r, ((n.0, n.1, parts_fit k r 0 (right _ _ l.formed) (parts_depth _ r l.within) l.ranged), tt)))
    expr_fits {e = e} (y.part i a ts o k q) room g =
        fits_by_level room e (Expr-F.Part i a) o g (λ r l. (above r, (between 1 8 i (left _ _ l.formed), (expr_fits k r (one r a (right _ _ l.formed) l.within l.ranged), tt))))
    expr_fits {e = e} (y.of_items f a p u o i k q) room g =
        fits_by_level room e (Expr-F.Call f (a ∷ [])) o g
        (λ r l. called_fits r f (a ∷ []) l (expr_fits k r (only r a (right (nat_le 1 8) _ l.formed) (parts_depth (max 0 (expr_depth a)) r l.within) (right (is_name f) _ l.ranged)), tt))
    expr_fits {e = e} (y.primitive f es p ts o i k n q) room g =
        fits_by_level room e (Expr-F.Call f es) o g (λ r l. called_fits r f es l (parts_fit n r 0 (right _ _ l.formed) (parts_depth _ r l.within) (right _ _ l.ranged)))
    expr_fits {e = e} (y.serving f es d o i k n q) room g =
        fits_by_level room e (Expr-F.Call f es) o g (λ r l. called_fits r f es l (parts_fit n r 0 (right _ _ l.formed) (parts_depth _ r l.within) (right _ _ l.ranged)))
    expr_fits {e = e} (y.call f es at d o i j k m n q) room g =
        fits_by_level room e (Expr-F.Call f es) o g (λ r l. called_fits r f es l (parts_fit n r 0 (right _ _ l.formed) (parts_depth _ r l.within) (right _ _ l.ranged)))
    expr_fits {e = e} (y.choice a b d o i j k) room g =
        fits_by_level room e (Expr-F.If a b d) o g
        (λ r l. let z = three r a b d l.formed l.within l.ranged in (above r, (expr_fits i r z.0, (expr_fits j r z.1, (expr_fits k r z.2, tt)))))
    expr_fits {e = e} (y.binder x u a b o i j) room g =
        fits_by_level room e (Expr-F.Let x u a b) o g
        (λ r l. let z = two r a b (right _ _ l.formed) l.within (right _ _ l.ranged) in (above r, (left _ _ l.ranged, (whole_type u (left _ _ l.formed), (expr_fits i r z.0, (expr_fits j r z.1, tt))))))
    expr_fits {e = e} (y.sequence a b o i j) room g =
        fits_by_level room e (Expr-F.Then a b) o g (λ r l. let z = two r a b l.formed l.within l.ranged in (above r, (expr_fits i r z.0, (expr_fits j r z.1, tt))))
    expr_fits {e = e} (y.both a b o i j q) room g =
        fits_by_level room e (Expr-F.And a b) o g (λ r l. let z = two r a b l.formed l.within l.ranged in (above r, (expr_fits i r z.0, (expr_fits j r z.1, tt))))
    expr_fits {e = e} (y.either a b o i j q) room g =
        fits_by_level room e (Expr-F.Or a b) o g (λ r l. let z = two r a b l.formed l.within l.ranged in (above r, (expr_fits i r z.0, (expr_fits j r z.1, tt))))
    expr_fits {e = e} (y.negation a o i q) room g = fits_by_level room e (Expr-F.Not a) o g (λ r l. (above r, (expr_fits i r (one r a l.formed l.within l.ranged), tt)))
    expr_fits {e = e} (y.calculation op a b o k i j q) room g =
        fits_by_level room e (Expr-F.Binary op a b) o g (λ r l. let z = two r a b l.formed l.within l.ranged in (above r, (tt, (expr_fits i r z.0, (expr_fits j r z.1, tt)))))
    expr_fits {e = e} (y.join op a b o k i n j) room g =
        fits_by_level room e (Expr-F.Binary op a b) o g (λ r l. let z = two r a b l.formed l.within l.ranged in (above r, (tt, (expr_fits i r z.0, (expr_fits j r z.1, tt)))))
    expr_fits {e = e} (y.comparison op a b u o k i j q) room g =
        fits_by_level room e (Expr-F.Binary op a b) o g (λ r l. let z = two r a b l.formed l.within l.ranged in (above r, (tt, (expr_fits i r z.0, (expr_fits j r z.1, tt)))))
    expr_fits {e = e} (y.order op a b u o k i n j q) room g =
        fits_by_level room e (Expr-F.Binary op a b) o g (λ r l. let z = two r a b l.formed l.within l.ranged in (above r, (tt, (expr_fits i r z.0, (expr_fits j r z.1, tt)))))
    expr_fits {e = e} (y.prefix op a b u o k i j q s) room g =
        fits_by_level room e (Expr-F.Binary op a b) o g (λ r l. let z = two r a b l.formed l.within l.ranged in (above r, (tt, (expr_fits i r z.0, (expr_fits j r z.1, tt)))))
    expr_fits {e = e} (y.handling a ks o i j) room g =
        fits_by_level room e (Expr-F.Try a ks) o g
        (λ r l.
        let m = max_parts (expr_depth a) (largest_by clause_depth ks) r (parts_depth _ r l.within) in
        let n = between 1 8 (length ks) (left _ _ (left _ _ (right _ _ l.formed))) in (
          above r,
          (
            expr_fits i r (record { formed = left _ _ l.formed; within = m.0; ranged = left _ _ l.ranged }),
            ((n.0, n.1, clauses_fit j r 0 (right _ _ (left _ _ (right _ _ l.formed))) (right _ _ (right _ _ l.formed)) m.1 (right _ _ l.ranged)), tt),
          ),
        ))
    expr_fits {e = e} (y.fold_left f a b at d u o p n k q i j) room g =
        fits_by_level room e (Expr-F.Foldl f a b) o g (λ r l. let z = two r a b l.formed l.within (right _ _ l.ranged) in (above r, (left _ _ l.ranged, (expr_fits i r z.0, (expr_fits j r z.1, tt)))))
    expr_fits {e = e} (y.fold_right f a b at d u o p n k q i j) room g =
        fits_by_level room e (Expr-F.Foldr f a b) o g (λ r l. let z = two r a b l.formed l.within (right _ _ l.ranged) in (above r, (left _ _ l.ranged, (expr_fits i r z.0, (expr_fits j r z.1, tt)))))
    expr_fits {e = e} (y.packing f es at d o p n k q) room g =
        fits_by_level room e (Expr-F.ChunkOf f es) o g
        (λ r l. (above r, (left _ _ l.ranged, ((nothing (length es), leb-true (length es) 8 (left _ _ l.formed), parts_fit k r 0 (right _ _ l.formed) (parts_depth _ r l.within) (right _ _ l.ranged)), tt))))
    expr_fits {e = e} (y.evaluation a o i q) room g = fits_by_level room e (Expr-F.Eval a) o g (λ r l. (above r, (expr_fits i r (one r a l.formed l.within l.ranged), tt)))
    expr_fits {e = e} (y.remote a b n x o i j k q) room g =
        fits_by_level room e (Expr-F.OnRemote a b n x) o g
        (λ r l. let z = three r a b n l.formed l.within (right _ _ l.ranged) in (above r, (expr_fits i r z.0, (expr_fits j r z.1, (expr_fits k r z.2, (left _ _ l.ranged, tt))))))
    expr_fits {e = e} (y.neighbour a b n d o i j k m q) room g =
        fits_by_level room e (Expr-F.OnNeighbor a b n d) o g
        (λ r l. let z = four r a b n d l.formed l.within l.ranged in (above r, (expr_fits i r z.0, (expr_fits j r z.1, (expr_fits k r z.2, (expr_fits m r z.3, tt))))))

    parts_fit : {seen : ℕ} {c : List Param} {es : List Expr} {ts : List Ty} → HaveTys code seen c es ts → (room m : ℕ) → list_all formed_expr es ≡ true
        → fold (λ n x. max n (expr_depth x)) m es ≤ room → list_all expr_ranged es ≡ true → EachFits (expr_core room).Fits es
    parts_fit y.no_parts room m f d r = tt
    parts_fit (y.and_part {e = e} {es = es} h k) room m f d r =
        let w = max_parts m (expr_depth e) room (fold_within expr_depth room es (max m (expr_depth e)) d) in
        (expr_fits h room (record { formed = left _ _ f; within = w.1; ranged = left _ _ r }), parts_fit k room (max m (expr_depth e)) (right _ _ f) d (right _ _ r))

    clauses_fit : {seen : ℕ} {c : List Param} {ks : List Clause} {t : Ty} → ClausesHaveTy code seen c ks t → (room m : ℕ) → names_all_but_last clause_named ks ≡ true → list_all body_formed ks ≡ true
        → fold (λ n x. max n (clause_depth x)) m ks ≤ room → list_all clause_ranged ks ≡ true → ClausesFit (λ last. (clause_part last room (expr_part room)).Fits) ks
    clauses_fit y.no_clauses room m n f d r = tt
    clauses_fit (y.and_clause {k = k} {ks = ks} q h j) room m n f d r =
        let w = max_parts m (clause_depth k) room (fold_within clause_depth room ks (max m (clause_depth k)) d) in (
          clause_fits room (is_none_left (length ks)) k.name k.body (named_first k ks n) (left _ _ (left _ _ r)) (expr_fits h room (record { formed = left _ _ f; within = w.1; ranged = right _ _ (left _ _ r) })),
          clauses_fit j room (max m (clause_depth k)) (named_rest k ks n) (right _ _ f) d (right _ _ r),
        )

-- ---- programs

service_fits : (s : Svc) → well_formed_svc s ≡ true → service_ranged s ≡ true → service_part.Fits s
service_fits s f r = (r, ((nothing (length s.params), leb-true (length s.params) 8 (left _ _ f), each_by (type_core 8).Fits whole_type s.params (left _ _ (right _ _ f))), (whole_type s.result (right _ _ (right _ _ f)), tt)))

each_service : (ss : List Svc) → list_all well_formed_svc ss ≡ true → list_all service_ranged ss ≡ true → EachFits service_part.Fits ss
each_service [] f r = tt
each_service (s ∷ ss) f r = (service_fits s (left _ _ f) (left _ _ r), each_service ss (right _ _ f) (right _ _ r))

each_param : (ps : List Param) → list_all (λ p. well_formed_type p.ty) ps ≡ true → list_all param_ranged ps ≡ true → EachFits param_part.Fits ps
each_param [] f r = tt
each_param (p ∷ ps) f r = ((left _ _ r, (whole_type p.ty (left _ _ f), tt)), each_param ps (right _ _ f) (right _ _ r))

function_fits : (code : Program) (at : ℕ) (d : Fun) → HasTy code at d.params d.body d.result → well_formed_fun d ≡ true → function_ranged d ≡ true → function_part.Fits d
unfolding well_formed_expr
function_fits code at d h f r =
    let types : (list_all (λ p. well_formed_type p.ty) d.params && (well_formed_type d.result && well_formed_expr d.body)) ≡ true = right (nat_le (length d.params) 8) _ f in
    let whole : (well_formed_type d.result && well_formed_expr d.body) ≡ true = right (list_all (λ p. well_formed_type p.ty) d.params) _ types in
    let b : (formed_expr d.body && nat_le (expr_depth d.body) 64) ≡ true = right (well_formed_type d.result) _ whole in
    let names : (list_all param_ranged d.params && expr_ranged d.body) ≡ true = right (is_name d.name) _ r in (
      left _ _ r,
      (
        (nothing (length d.params), leb-true (length d.params) 8 (left _ _ f), each_param d.params (left _ _ types) (left _ _ names)),
        (whole_type d.result (left _ _ whole), (expr_fits code h 64 (record { formed = left _ _ b; within = leb-true (expr_depth d.body) 64 (right _ _ b); ranged = right _ _ names }), tt)),
      ),
    )

each_function : (code : Program) (at : ℕ) (ds : List Fun) → ((k : ℕ) (d : Fun) → slice_get ds k ≡ Some d → HasTy code (at + k) d.params d.body d.result)
    → list_all well_formed_fun ds ≡ true → list_all function_ranged ds ≡ true → EachFits function_part.Fits ds
each_function code at [] h f r = tt
each_function code at (d ∷ ds) h f r = (
  function_fits code (at + 0) d (h 0 d refl) (left _ _ f) (left _ _ r),
  each_function code (at + 1) ds (λ k x e. let s : at + suc k ≡ at + 1 + k = omega arith in subst (λ n. HasTy code n x.params x.body x.result) s (h (suc k) x e)) (right _ _ f) (right _ _ r),
)

pub program_fits : (p : Program) → Typed p → well_formed_program p ≡ true → program_ranged p ≡ true → ProgramFits p
unfolding well_formed_program program_ranged program_nodes
program_fits p t f r =
    let svcs : (nat_le (length p.svcs) 64 && list_all well_formed_svc p.svcs) ≡ true = left _ _ f in
    let behind : (nat_le (length p.exns) 64 && ((has_from_to 1 64 p.funs && list_all well_formed_fun p.funs) && nat_le (program_nodes p) 4096)) ≡ true =
    right (nat_le (length p.svcs) 64 && list_all well_formed_svc p.svcs) _ f in
    let last : ((has_from_to 1 64 p.funs && list_all well_formed_fun p.funs) && nat_le (program_nodes p) 4096) ≡ true = right (nat_le (length p.exns) 64) _ behind in
    let funs : (has_from_to 1 64 p.funs && list_all well_formed_fun p.funs) ≡ true = left _ _ last in
    let names : (list_all is_name p.exns && list_all function_ranged p.funs) ≡ true = right (list_all service_ranged p.svcs) _ r in
    let n = between 1 64 (length p.funs) (left _ _ funs) in
    record {
      parts = (
        (nothing (length p.svcs), leb-true (length p.svcs) 64 (left _ _ svcs), each_service p.svcs (right _ _ svcs) (left _ _ r)),
        (
          (nothing (length p.exns), leb-true (length p.exns) 64 (left _ _ behind), each_by IsName (λ x h. h) p.exns (left _ _ names)),
          ((n.0, n.1, each_function p 0 p.funs (λ k d e. let same : k ≡ 0 + k = omega arith in subst (λ m. HasTy p m d.params d.body d.result) same (t.bodies k d e)) (right _ _ funs) (right _ _ names)), tt),
        ),
      );
      few = leb-true (program_nodes p) 4096 (right _ _ last);
      small = (let l = code_length p in let s = t.small in omega (arith, l, s));
    }

-- ---- values and chunks

-- what a value keeps, inside which so many chunks, lists and tuples may stand
pub record GoodValue (nest room : ℕ) (v : Value) : Type 0 where
  pub formed : formed_value v ≡ true
  pub within : value_depth v ≤ room
  pub nests : nesting v ≤ nest
  pub ranged : value_ranged v ≡ true

record GoodValueLevel (nest room : ℕ) (x : Value-F Value Chunk) : Type 0 where
  formed : formed_value_level formed_value formed_chunk x ≡ true
  within : value_depth_level value_depth x ≤ room
  nests : nesting_level nesting chunk_nesting x ≤ nest
  ranged : value_ranged_level value_ranged chunk_ranged x ≡ true

value_level_of : {nest room : ℕ} (v : Value) (x : Value-F Value Chunk) → out-Value v ≡ x → GoodValue nest room v → GoodValueLevel nest room x
value_level_of {nest} {room} v x o g =
    subst (GoodValueLevel nest room) o (record {
      formed = sym (formed_value_out v) ∙ g.formed;
      within = (let a = value_depth_out v in let d = g.within in omega (arith, a, d));
      nests = (let a = nesting_out v in let d = g.nests in omega (arith, a, d));
      ranged = sym (value_ranged_out v) ∙ g.ranged;
    })

abbrev ValueLevelFits : ℕ → ℕ → Value-F Value Chunk → Type 0
ValueLevelFits nest room x = FormFits (λ tag. IsTrue (may_open nest room tag)) (value_forms (value_inner nest room) (chunk_inner nest)) (value_parts (value_inner nest room) (chunk_inner nest) x)

-- a value by its outermost level
value_rolled : (nest room : ℕ) (v : Value) (x : Value-F Value Chunk) → out-Value v ≡ x → GoodValue nest room v → (GoodValueLevel nest room x → ValueLevelFits nest room x) → (value_core nest room).Fits v
unfolding value_core values_within
value_rolled zero zero v x o g h = subst (ValueLevelFits zero zero) (sym o) (h (value_level_of v x o g))
value_rolled zero (suc room) v x o g h = subst (ValueLevelFits zero (suc room)) (sym o) (h (value_level_of v x o g))
value_rolled (suc nest) zero v x o g h = subst (ValueLevelFits (suc nest) zero) (sym o) (h (value_level_of v x o g))
value_rolled (suc nest) (suc room) v x o g h = subst (ValueLevelFits (suc nest) (suc room)) (sym o) (h (value_level_of v x o g))

list_level : (nest room : ℕ) (u : Ty) (vs : List Value) → GoodValueLevel nest room (Value-F.List u vs) → ((r : ℕ) → largest_by value_depth vs ≤ r → EachFits (value_core nest r).Fits vs) → ValueLevelFits nest room (Value-F.List u vs)
list_level nest zero u vs l h = absurd (let w = l.within in omega (arith, w))
list_level nest (suc r) u vs l h =
    let t : (formed_type u && nat_le (type_depth u) 7) ≡ true = left _ _ l.formed in
    let rest : (nat_le (length vs) 65535 && list_all formed_value vs) ≡ true = right (formed_type u && nat_le (type_depth u) 7) _ l.formed in
    let n = short_enough (length vs) (left _ _ rest) in
    (lt-ltb 0 (suc r) (omega arith), (type_fits 7 u (left _ _ t) (leb-true (type_depth u) 7 (right _ _ t)), ((n, h r (parts_depth _ r l.within)), tt)))

tuple_level : (nest room : ℕ) (vs : List Value) → GoodValueLevel nest room (Value-F.Tuple vs) → ((r : ℕ) → largest_by value_depth vs ≤ r → EachFits (value_core nest r).Fits vs) → ValueLevelFits nest room (Value-F.Tuple vs)
tuple_level nest zero vs l h = absurd (let w = l.within in omega (arith, w))
tuple_level nest (suc r) vs l h =
    let n = between 2 8 (length vs) (left _ _ l.formed) in
    (lt-ltb 0 (suc r) (omega arith), ((n.0, n.1, h r (parts_depth _ r l.within)), tt))

chunk_level : (nest room : ℕ) (k : Chunk) → GoodValueLevel nest room (Value-F.Chunk k) → ((n : ℕ) → chunk_nesting k ≤ suc n → ChunkFits n (value_part n 8) k) → ValueLevelFits nest room (Value-F.Chunk k)
chunk_level zero room k l h = absurd (let n = chunk_nesting_is k in let w = l.nests in omega (arith, n, w))
chunk_level (suc n) room k l h = (lt-ltb 0 (suc n) (omega arith), (h n l.nests, tt))

light_enough : (nest size : ℕ) → size + 1 ≤ 16384 → light nest size ≡ true
light_enough nest size h = by_test (nest == 3)
  where
    by_test : (b : Bool) → (if b then nat_le (size + 1) 16384 else true) ≡ true
    by_test true = le-leb (size + 1) 16384 h
    by_test false = refl

mutual
  pub value_fits : {v : Value} {t : Ty} → HasType v t → (nest room : ℕ) → GoodValue nest room v → (value_core nest room).Fits v
  value_fits {v} (y.unit o e) nest room g = value_rolled nest room v Value-F.Unit o g (λ l. (refl, tt))
  value_fits {v} (y.bool b o e) nest room g = value_rolled nest room v (Value-F.Bool b) o g (λ l. (refl, (tt, tt)))
  value_fits {v} (y.int n o e) nest room g = value_rolled nest room v (Value-F.Int n) o g (λ l. (refl, (int_fits n l.ranged, tt)))
  value_fits {v} (y.char n o e) nest room g = value_rolled nest room v (Value-F.Char n) o g (λ l. (refl, ((l.formed, scalar_fits n l.formed), tt)))
  value_fits {v} (y.str s o e) nest room g = value_rolled nest room v (Value-F.Str s) o g (λ l. (refl, (text_fits s l.formed, tt)))
  value_fits {v} (y.blob b o e) nest room g = value_rolled nest room v (Value-F.Blob b) o g (λ l. (refl, (short_enough (length b) l.formed, tt)))
  value_fits {v} (y.host h o e) nest room g = value_rolled nest room v (Value-F.Host h) o g (λ l. (refl, (ltb-true h.0 4294967296 l.ranged, tt)))
  value_fits {v} (y.dev d o e) nest room g = value_rolled nest room v (Value-F.Dev d) o g (λ l. (refl, (ltb-true d.0 4294967296 l.ranged, tt)))
  value_fits {v} (y.list u vs o e h) nest room g =
      value_rolled nest room v (Value-F.List u vs) o g (λ l. list_level nest room u vs l (λ r w. items_fit h nest r 0 0 (right _ _ (right _ _ l.formed)) w l.nests l.ranged))
  value_fits {v} (y.tuple vs ts o e h) nest room g =
      value_rolled nest room v (Value-F.Tuple vs) o g (λ l. tuple_level nest room vs l (λ r w. values_fit h nest r 0 0 (right _ _ l.formed) w l.nests l.ranged))
  value_fits {v} (y.chunk k o e h) nest room g = value_rolled nest room v (Value-F.Chunk k) o g (λ l. chunk_level nest room k l (λ n w. chunk_in h n l.formed w l.ranged))

  items_fit : {u : Ty} {vs : List Value} → AllHaveType u vs → (nest room m n : ℕ) → list_all formed_value vs ≡ true → fold (λ k x. max k (value_depth x)) m vs ≤ room
      → fold (λ k x. max k (nesting x)) n vs ≤ nest → list_all value_ranged vs ≡ true → EachFits (value_core nest room).Fits vs
  items_fit y.no_items nest room m n f d w r = tt
  items_fit (y.and_item {v = v} {vs = vs} h k) nest room m n f d w r =
      let a = max_parts m (value_depth v) room (fold_within value_depth room vs (max m (value_depth v)) d) in
      let b = max_parts n (nesting v) nest (fold_within nesting nest vs (max n (nesting v)) w) in
      (value_fits h nest room (record { formed = left _ _ f; within = a.1; nests = b.1; ranged = left _ _ r }), items_fit k nest room (max m (value_depth v)) (max n (nesting v)) (right _ _ f) d w (right _ _ r))

  values_fit : {vs : List Value} {ts : List Ty} → HaveTypes vs ts → (nest room m n : ℕ) → list_all formed_value vs ≡ true → fold (λ k x. max k (value_depth x)) m vs ≤ room
      → fold (λ k x. max k (nesting x)) n vs ≤ nest → list_all value_ranged vs ≡ true → EachFits (value_core nest room).Fits vs
  values_fit y.no_values nest room m n f d w r = tt
  values_fit (y.and_value {v = v} {vs = vs} h k) nest room m n f d w r =
      let a = max_parts m (value_depth v) room (fold_within value_depth room vs (max m (value_depth v)) d) in
      let b = max_parts n (nesting v) nest (fold_within nesting nest vs (max n (nesting v)) w) in
      (value_fits h nest room (record { formed = left _ _ f; within = a.1; nests = b.1; ranged = left _ _ r }), values_fit k nest room (max m (value_depth v)) (max n (nesting v)) (right _ _ f) d w (right _ _ r))

  args_fit : {vs : List Value} {ts : List Ty} → HaveTypes vs ts → (nest n : ℕ) → list_all (λ v. formed_value v && nat_le (value_depth v) 8) vs ≡ true
      → fold (λ k x. max k (nesting x)) n vs ≤ nest → list_all value_ranged vs ≡ true → EachFits (value_core nest 8).Fits vs
  args_fit y.no_values nest n f w r = tt
  args_fit (y.and_value {v = v} {vs = vs} h k) nest n f w r =
      let b = max_parts n (nesting v) nest (fold_within nesting nest vs (max n (nesting v)) w) in
      (value_fits h nest 8 (record { formed = left _ _ (left _ _ f); within = leb-true (value_depth v) 8 (right _ _ (left _ _ f)); nests = b.1; ranged = left _ _ r }), args_fit k nest (max n (nesting v)) (right _ _ f) w (right _ _ r))

  chunk_in : {k : Chunk} → IsTypedChunk k → (nest : ℕ) → formed_chunk k ≡ true → chunk_nesting k ≤ suc nest → chunk_ranged k ≡ true → ChunkFits nest (value_part nest 8) k
  chunk_in {k} (y.within at d t p g h n w) nest f s r =
      let z : (well_formed_program k.code && (nat_le (length k.args) 8 && list_all (λ v. formed_value v && nat_le (value_depth v) 8) k.args)) ≡ true = sym (formed_chunk_is k) ∙ f in
      let args : (nat_le (length k.args) 8 && list_all (λ v. formed_value v && nat_le (value_depth v) 8) k.args) ≡ true = right (well_formed_program k.code) _ z in
      let names : (is_name k.entry && list_all value_ranged k.args) ≡ true = right (program_ranged k.code) _ r in
      let a = chunk_nesting_is k in
      let c = chunk_length k in
      record {
        parts = (
          program_fits k.code t (left _ _ z) (left _ _ r),
          (left _ _ names, ((nothing (length k.args), leb-true (length k.args) 8 (left _ _ args), args_fit h nest 0 (right _ _ args) (parts_depth (largest_by nesting k.args) nest (omega (arith, s, a))) (right _ _ names)), tt)),
        );
        weighs = light_enough nest (length (chunk_bytes k)) (omega (arith, c, w));
      }

-- a chunk that is typed, well formed and in range may be spelled
pub chunk_fits : (c : Chunk) → IsTypedChunk c → well_formed_chunk c ≡ true → chunk_ranged c ≡ true → a_whole_chunk.Fits c
unfolding well_formed_chunk
chunk_fits c t f r = chunk_in t 3 (left _ _ f) (nests t) r
  where
    nests : {k : Chunk} → IsTypedChunk k → chunk_nesting k ≤ 4
    nests (y.within at d t p g h n w) = n
