use Rattle.std.proofs.Common.{◌≡◌, ℕ, zero, suc, ◌+◌, ◌<◌, ◌≤◌, List, [], ◌∷◌, ◌++◌, length, Bool, true, false, Option, Some, None, Ok, refl, sym, ◌∙◌, ap, subst, arith, append-nil, sum_by}
use Rattle.std.specs.Prelude.{nat_lt, IsTrue, ◌||◌}
use Rattle.std.specs.List.{flat_map}
use Rattle.std.specs.Int.{w32, w64, to_be_bytes, cast_unsigned}
use Rattle.std.proofs.lemmas.List.{length-map}
use Rattle.std.proofs.lemmas.List.Sums.{sum_by-cons}
use Rattle.std.proofs.lemmas.Bool.{ltb-true, lt-ltb}
use Rattle.wire_bytes.specs.Fields.{IsBytes}
use Rattle.containers.specs.Reading.{◌>>=◌}
use Rattle.containers.proofs.Binds.{ok_inj, bind_ok, bind_is}
use Rattle.containers.proofs.Agendas.{Goes, chain, one_step, making_goes_on, idle}
use Rattle.plan_base.specs.declared.limit.Limit.{Limit}
use denote.Hole.Carrier.{roll, out}
use Rattle.chunk_codec_spec.specs.declared.fault.SpellFault.TheVariants.{OverLimit}
use Rattle.chunk_codec_spec.specs.Steps.{step, clause_items}
use Rattle.chunk_codec_spec.proofs.Took.{Took, Took-bytes, Took-none, Took-then, Took-first, Took-second, Took-as, between, scan_is}
use Rattle.chunk_codec_spec.proofs.FieldLaws.{allowed_ok, allowed_is}
use Rattle.chunk_codec_spec.proofs.LeafLaws.{Table, table_takes, table_again, flag_table, flag_lawful, int_lawful, word_lawful, char_lawful, text_lawful, blob_lawful, name_lawful, op_lawful, part_number_lawful}
use Rattle.chunk_codec_spec.proofs.PartLaws.{Lawful, AllLawful, Tag, FormIs, count_takes, count_again, several_lawful, formed_lawful}
use Rattle.chunk_codec_spec.proofs.TypeLaws.{type_lawful, flat_map-map, flat_same}
use Rattle.plan_base.specs.Sizes.{expr_nodes, clause_nodes, expr_nodes_level}
use Rattle.plan_base.proofs.SizeLaws.{expr_nodes_out}
use Rattle.plan_base.specs.declared.tree.Expr.{Expr, Expr-F, out-Expr, roll-Expr, roll-out-Expr, map-Expr, fold_out-Expr}
use Rattle.plan_base.specs.declared.tree.Expr.TheVariants as expr
use Rattle.plan_base.specs.declared.tree.Clause.{Clause, fold-Clause, fold_out-Clause}
use Rattle.chunk_codec_spec.specs.declared.tags.ExprTag.{ExprTag}
use Rattle.chunk_codec_spec.specs.declared.tags.TheConstants.{EXPR_TAGS}
use Rattle.chunk_codec_spec.specs.Items.{ChunkItem, an_expr, a_clause, several_clauses}
use Rattle.chunk_codec_spec.specs.Scan.{Scan, flags, table_field, count_field, tag_of, allowed_or_fault}
use Rattle.chunk_codec_spec.specs.Parts.{Part, Core, Parts, PartValues, items_of_parts}
use Rattle.chunk_codec_spec.specs.Fields.{flag_byte, sized_bytes, name_bytes, op_byte}
use Rattle.chunk_codec_spec.specs.Types.{type_bytes}
use Rattle.chunk_codec_spec.specs.Exprs.{expr_bytes, expr_bytes_level, clause_bytes, clause_bytes_level, catch_bytes, one_more, expr_tag_at, clause_tag_at, clause_forms, clause_of_parts}
use Rattle.chunk_codec_spec.specs.Exprs.{clause_parts_by, clause_part, is_none_left, clauses_from, clauses_at, ClausesFit, clauses_part, expr_forms, expr_of_parts, expr_parts, expr_from, expr_within}
use Rattle.chunk_codec_spec.specs.Exprs.{no_expr, expr_core, expr_part}

-- ---- the bytes of an expression are those of its outermost level

expr_bytes_step : (f : Expr → List ℕ) (g h : Clause → List ℕ) → ((c : Clause) → g c ≡ h c) → (x : Expr-F Expr Clause)
    → expr_bytes_level (λ bs. bs) (λ bs. bs) (map-Expr Expr Clause (List ℕ) (List ℕ) f g x) ≡ expr_bytes_level f h x
expr_bytes_step f g h e (Expr-F.Tuple es) = (λ i. 42 ∷ length-map es f i ∷ flat_map-map f es i)
expr_bytes_step f g h e (Expr-F.Call x es) = (λ i. 43 ∷ (name_bytes x ++ (length-map es f i ∷ flat_map-map f es i)))
expr_bytes_step f g h e (Expr-F.ChunkOf x es) = (λ i. 56 ∷ (name_bytes x ++ (length-map es f i ∷ flat_map-map f es i)))
expr_bytes_step f g h e (Expr-F.Try a cs) = (λ i. 53 ∷ (f a ++ (length-map cs g i ∷ flat_same g h e cs i)))
expr_bytes_step f g h e _ = refl

pub expr_bytes_out : (e : Expr) → expr_bytes e ≡ expr_bytes_level expr_bytes clause_bytes (out-Expr e)
unfolding expr_bytes
expr_bytes_out e =
    fold_out-Expr (List ℕ) (List ℕ) (expr_bytes_level (λ bs. bs) (λ bs. bs)) (clause_bytes_level (λ bs. bs)) e
    ∙ expr_bytes_step expr_bytes (fold-Clause (List ℕ) (List ℕ) (expr_bytes_level (λ bs. bs) (λ bs. bs)) (clause_bytes_level (λ bs. bs))) clause_bytes
    (λ c. fold_out-Clause (List ℕ) (List ℕ) (expr_bytes_level (λ bs. bs) (λ bs. bs)) (clause_bytes_level (λ bs. bs)) c) (out-Expr e)

-- ---- tags

abbrev expr_byte : ExprTag → ℕ
expr_byte ExprTag.Unit = 0x20
expr_byte ExprTag.Bool = 0x21
expr_byte ExprTag.Int = 0x22
expr_byte ExprTag.Char = 0x23
expr_byte ExprTag.Str = 0x24
expr_byte ExprTag.Blob = 0x25
expr_byte ExprTag.Host = 0x26
expr_byte ExprTag.Dev = 0x27
expr_byte ExprTag.Nil = 0x28
expr_byte ExprTag.Var = 0x29
expr_byte ExprTag.Tuple = 0x2a
expr_byte ExprTag.Call = 0x2b
expr_byte ExprTag.If = 0x2c
expr_byte ExprTag.Let = 0x2d
expr_byte ExprTag.Then = 0x2e
expr_byte ExprTag.And = 0x2f
expr_byte ExprTag.Or = 0x30
expr_byte ExprTag.Not = 0x31
expr_byte ExprTag.Binary = 0x32
expr_byte ExprTag.Part = 0x33
expr_byte ExprTag.Raise = 0x34
expr_byte ExprTag.Try = 0x35
expr_byte ExprTag.Foldl = 0x36
expr_byte ExprTag.Foldr = 0x37
expr_byte ExprTag.ChunkOf = 0x38
expr_byte ExprTag.Eval = 0x39
expr_byte ExprTag.OnRemote = 0x3a
expr_byte ExprTag.OnNeighbor = 0x3b

expr_table_all : (t : ExprTag) → tag_of 0x20 EXPR_TAGS (expr_byte t) ≡ Some t
expr_table_all ExprTag.Unit = refl
expr_table_all ExprTag.Bool = refl
expr_table_all ExprTag.Int = refl
expr_table_all ExprTag.Char = refl
expr_table_all ExprTag.Str = refl
expr_table_all ExprTag.Blob = refl
expr_table_all ExprTag.Host = refl
expr_table_all ExprTag.Dev = refl
expr_table_all ExprTag.Nil = refl
expr_table_all ExprTag.Var = refl
expr_table_all ExprTag.Tuple = refl
expr_table_all ExprTag.Call = refl
expr_table_all ExprTag.If = refl
expr_table_all ExprTag.Let = refl
expr_table_all ExprTag.Then = refl
expr_table_all ExprTag.And = refl
expr_table_all ExprTag.Or = refl
expr_table_all ExprTag.Not = refl
expr_table_all ExprTag.Binary = refl
expr_table_all ExprTag.Part = refl
expr_table_all ExprTag.Raise = refl
expr_table_all ExprTag.Try = refl
expr_table_all ExprTag.Foldl = refl
expr_table_all ExprTag.Foldr = refl
expr_table_all ExprTag.ChunkOf = refl
expr_table_all ExprTag.Eval = refl
expr_table_all ExprTag.OnRemote = refl
expr_table_all ExprTag.OnNeighbor = refl

expr_table : Table 0x20 EXPR_TAGS expr_byte
expr_table = record {
  numbered = (
    refl,
    (
      refl,
      (
        refl,
        (
          refl,
          (
            refl,
            (refl, (refl, (refl, (refl, (refl, (refl, (refl, (refl, (refl, (refl, (refl, (refl, (refl, (refl, (refl, (refl, (refl, (refl, (refl, (refl, (refl, (refl, (refl, tt))))))))))))))))))))))),
          ),
        ),
      ),
    ),
  );
  all = expr_table_all;
}

expr_tag : (room : ℕ) → Tag (expr_tag_at room) (λ _. 0 < room) expr_byte 1
unfolding expr_tag_at
expr_tag room = record {
  may = λ f g t e.
      let b = bind_ok (table_field 0x20 EXPR_TAGS f) _ _ e in
      let c = bind_ok (allowed_or_fault (nat_lt f.nodes 4096) (OverLimit Limit.Nodes f.front.at) b.first) _ _ b.then_read in
      let d = bind_ok (allowed_or_fault (nat_lt 0 room) (OverLimit Limit.Depth f.front.at) c.first) _ _ c.then_read in
      ltb-true 0 room (allowed_ok _ _ c.first d.first d.read).0;
  takes = λ f g t h k e.
      let b = bind_ok (table_field 0x20 EXPR_TAGS f) _ _ e in
      let c = bind_ok (allowed_or_fault (nat_lt f.nodes 4096) (OverLimit Limit.Nodes f.front.at) b.first) _ _ b.then_read in
      let d = bind_ok (allowed_or_fault (nat_lt 0 room) (OverLimit Limit.Depth f.front.at) c.first) _ _ c.then_read in
      let few = allowed_ok _ _ b.first c.first c.read in
      let there = allowed_ok _ _ c.first d.first d.read in
      let small = ltb-true f.nodes 4096 few.0 in
      let P : ExprTag × Scan → Type 0 = λ q. Took f (expr_byte q.0 ∷ []) 0 q.1 in
      let took : P d.first = subst P (few.1 ∙ there.1) (table_takes 0x20 EXPR_TAGS expr_byte expr_table f b.first.1 b.first.0 h b.read) in
      let more : Took f (expr_byte d.first.0 ∷ []) 1 (one_more d.first).1 = record { parts = took.parts; place = took.place; count = omega (arith, took.count) } in
      let Q : ExprTag × Scan → Type 0 = λ q. Took f (expr_byte q.0 ∷ []) 1 q.1 in
      let all : Q (t, g) = subst Q (ok_inj d.then_read) more in
      (all, omega (arith, all.count, small));
  again = λ f g t a took k.
      let m : Scan = record g { nodes = f.nodes } in
      let first : Took f (expr_byte t ∷ []) 0 m = record { parts = took.parts; place = took.place; count = omega arith } in
      let small : f.nodes < 4096 = omega (arith, took.count) in
      let count : f.nodes + 1 ≡ g.nodes = omega (arith, took.count) in
      bind_is _ (table_again 0x20 EXPR_TAGS expr_byte expr_table f m t first)
      (bind_is _ (allowed_is _ _ (t, m) (lt-ltb f.nodes 4096 small))
      (bind_is _ (allowed_is _ _ (t, m) (lt-ltb 0 room a)) (λ i. Ok (t, record g { nodes = count i }))));
}

-- ---- clauses

clause_tag : (last : Bool) → Tag (clause_tag_at last) (λ named. IsTrue (named || last)) flag_byte 0
unfolding clause_tag_at
clause_tag last = record {
  may = λ f g t e.
      let b = bind_ok (table_field 0 flags f) _ _ e in
      let a = allowed_ok _ _ b.first (t, g) b.then_read in
      let P : Bool × Scan → Type 0 = λ q. IsTrue (q.0 || last) in
      subst P a.1 a.0;
  takes = λ f g t h k e.
      let b = bind_ok (table_field 0 flags f) _ _ e in
      let a = allowed_ok _ _ b.first (t, g) b.then_read in
      let P : Bool × Scan → Type 0 = λ q. Took f (flag_byte q.0 ∷ []) 0 q.1 in
      let took : P (t, g) = subst P a.1 (table_takes 0 flags flag_byte flag_table f b.first.1 b.first.0 h b.read) in
      (took, omega (arith, took.count));
  again = λ f g t a took k. bind_is _ (table_again 0 flags flag_byte flag_table f g t took) (allowed_is _ _ (t, g) a);
}

module _ (room : ℕ) (lawful : Lawful (expr_part room)) where
  clause_is_form_by : (n : Option (List ℕ)) (e : Expr) → FormIs flag_byte 0 (clause_forms (expr_part room)) (clause_of_parts (expr_part room)) (clause_parts_by (expr_part room) n e)
      (record { name = n; body = e }) (catch_bytes n ++ expr_bytes e) (expr_nodes e)
  clause_is_form_by None e = (refl, (λ i. 0 ∷ sym (append-nil (expr_bytes e)) i), omega arith)
  clause_is_form_by (Some n) e = (refl, (λ i. 1 ∷ (name_bytes n ++ sym (append-nil (expr_bytes e)) i)), omega arith)

  clause_form_is : (t : Bool) (xs : PartValues (clause_forms (expr_part room) t))
      → clause_parts_by (expr_part room) (clause_of_parts (expr_part room) t xs).name (clause_of_parts (expr_part room) t xs).body ≡ Some (t, xs)
  clause_form_is false xs = refl
  clause_form_is true xs = refl

  clause_parts_lawful : (t : Bool) → AllLawful (clause_forms (expr_part room) t)
  clause_parts_lawful false = (lawful, tt)
  clause_parts_lawful true = (name_lawful, (lawful, tt))

  pub clause_lawful : (last : Bool) → Lawful (clause_part last room (expr_part room))
  clause_lawful last =
      formed_lawful (a_clause last room) (clause_tag_at last) (λ named. IsTrue (named || last)) flag_byte 0 (clause_forms (expr_part room)) (clause_of_parts (expr_part room))
      (λ c. clause_parts_by (expr_part room) c.name c.body) clause_bytes clause_nodes (clause_tag last) (λ t _. clause_parts_lawful t)
      (λ c. clause_is_form_by c.name c.body) clause_form_is (λ more f. refl)

  from_takes : (n : ℕ) (f g : Scan) (cs : List Clause) → IsBytes f.front.rest → f.nodes ≤ 4096 → clauses_from (λ last. (clause_part last room (expr_part room)).read) n f ≡ Ok (cs, g)
      → Took f (flat_map clause_bytes cs) (sum_by clause_nodes cs) g × ClausesFit (λ last. (clause_part last room (expr_part room)).Fits) cs × (length cs ≡ n) × (g.nodes ≤ 4096)
  unfolding clauses_from
  from_takes zero f g cs h k e =
      let q = ok_inj e in
      let P : List Clause × Scan → Type 0 = λ r. Took f (flat_map clause_bytes r.0) (sum_by clause_nodes r.0) r.1 × ClausesFit (λ last. (clause_part last room (expr_part room)).Fits) r.0 × (length r.0 ≡ 0) × (r.1.nodes ≤ 4096) in
      subst P q (Took-none f, tt, refl, k)
  from_takes (suc n) f g cs h k e =
      let b = bind_ok ((clause_part (is_none_left n) room (expr_part room)).read f) _ _ e in
      let c = bind_ok (clauses_from (λ last. (clause_part last room (expr_part room)).read) n b.first.1) _ _ b.then_read in
      let t = (clause_lawful (is_none_left n)).takes f b.first.1 b.first.0 h k b.read in
      let r = from_takes n b.first.1 c.first.1 c.first.0 (Took-bytes t.took h) t.within c.read in
      let q = ok_inj c.then_read in
      let P : List Clause × Scan → Type 0 = λ r. Took f (flat_map clause_bytes r.0) (sum_by clause_nodes r.0) r.1 × ClausesFit (λ last. (clause_part last room (expr_part room)).Fits) r.0 × (length r.0 ≡ suc n) × (r.1.nodes ≤ 4096) in
      let R : ℕ → Type 0 = λ m. (clause_part (is_none_left m) room (expr_part room)).Fits b.first.0 in
      subst P q (Took-as refl (sym (sum_by-cons clause_nodes b.first.0 c.first.0)) (Took-then t.took r.0), (subst R (sym r.2) t.fits, r.1), ap suc r.2, r.3)

  from_again : (cs : List Clause) (f g : Scan) → ClausesFit (λ last. (clause_part last room (expr_part room)).Fits) cs → Took f (flat_map clause_bytes cs) (sum_by clause_nodes cs) g → g.nodes ≤ 4096
      → clauses_from (λ last. (clause_part last room (expr_part room)).read) (length cs) f ≡ Ok (cs, g)
  unfolding clauses_from
  from_again [] f g h t k =
      let same : f ≡ g = sym (scan_is g f.front.at f.nodes f.front.rest (omega (arith, t.place)) (sym t.parts) (omega (arith, t.count))) in
      ap (λ s. Ok ([], s)) same
  from_again (x ∷ xs) f g h t k =
      let bs = clause_bytes x in
      let cs = flat_map clause_bytes xs in
      let a = clause_nodes x in
      let b = sum_by clause_nodes xs in
      let u : Took f (bs ++ cs) (a + b) g = Took-as refl (sum_by-cons clause_nodes x xs) t in
      let m = between f bs cs a g in
      let first = Took-first f g bs cs a b u in
      let second = Took-second f g bs cs a b u in
      let small : m.nodes ≤ 4096 = omega (arith, second.count) in
      bind_is _ ((clause_lawful (is_none_left (length xs))).again f m x h.0 first small) (bind_is _ (from_again xs m g h.1 second k) refl)

  from_goes : (n : ℕ) (more : List ChunkItem) (f : Scan) → Goes step (clause_items n room more) f (λ _. more) (clauses_from (λ last. (clause_part last room (expr_part room)).read) n f)
  unfolding clauses_from
  from_goes zero more f = idle step {A = List Clause} more f []
  from_goes (suc n) more f =
      chain step (a_clause (is_none_left n) room ∷ clause_items n room more) f (λ _. clause_items n room more) (λ _. more) ((clause_part (is_none_left n) room (expr_part room)).read f) _
      ((clause_lawful (is_none_left n)).goes (clause_items n room more) f)
      (λ x _. making_goes_on step (λ cs. x.0 ∷ cs) (clause_items n room more) x.1 more (clauses_from (λ last. (clause_part last room (expr_part room)).read) n x.1) (from_goes n more x.1))

  pub clauses_lawful : Lawful (clauses_part room (expr_part room))
  unfolding clauses_at
  clauses_lawful = record {
    takes = λ f g xs h k e.
        let b = bind_ok (count_field Limit.Clauses 1 8 f) _ _ e in
        let c = count_takes Limit.Clauses 1 8 f b.first.1 b.first.0 h b.read in
        let small : b.first.1.nodes ≤ 4096 = omega (arith, c.0.count) in
        let m = from_takes b.first.0 b.first.1 g xs (Took-bytes c.0 h) small b.then_read in
        record {
          took = Took-as (ap (λ n. n ∷ flat_map clause_bytes xs) (sym m.2)) (omega arith) (Took-then c.0 m.0);
          fits = (omega (arith, c.1, m.2), omega (arith, c.2, m.2), m.1);
          within = m.3;
        };
    again = λ f g xs h t k.
        let bs = length xs ∷ [] in
        let cs = flat_map clause_bytes xs in
        let b = sum_by clause_nodes xs in
        let m = between f bs cs 0 g in
        let u : Took f (bs ++ cs) (0 + b) g = Took-as refl (omega arith) t in
        let second = Took-second f g bs cs 0 b u in
        bind_is _ (count_again Limit.Clauses 1 8 f m (length xs) h.0 h.1 (Took-first f g bs cs 0 b u)) (from_again xs m g h.2 second k);
    goes = λ more f.
        chain step (several_clauses room ∷ more) f (λ n. clause_items n room more) (λ _. more) (count_field Limit.Clauses 1 8 f) _
        (one_step step (several_clauses room) more f (λ n. clause_items n room more) (count_field Limit.Clauses 1 8 f) refl)
        (λ x _. from_goes x.0 more x.1);
  }

-- ---- expressions

module _ (room below : ℕ) (core : Core Expr) where
  abbrev deeper : Part Expr
  deeper = expr_from below core

  abbrev caught : Part (List Clause)
  caught = clauses_part below deeper

  level_is : (x : Expr-F Expr Clause)
      → FormIs expr_byte 1 (expr_forms deeper caught) (expr_of_parts deeper caught) (expr_parts deeper caught x) (roll-Expr x) (expr_bytes_level expr_bytes clause_bytes x)
      (expr_nodes_level expr_nodes clause_nodes x)
  unfolding roll-Expr roll
  level_is (Expr-F.Bool b) = (sym (expr.rolls-Bool b), (λ j. 33 ∷ (sym (append-nil (flag_byte b ∷ [])) j)), omega arith)
  level_is (Expr-F.Int z) = (sym (expr.rolls-Int z), (λ j. 34 ∷ (sym (append-nil (to_be_bytes w64 (cast_unsigned w64 z))) j)), omega arith)
  level_is (Expr-F.Char c) = (sym (expr.rolls-Char c), (λ j. 35 ∷ (sym (append-nil (to_be_bytes w32 c)) j)), omega arith)
  level_is (Expr-F.Str s) = (sym (expr.rolls-Str s), (λ j. 36 ∷ (sym (append-nil (sized_bytes s)) j)), omega arith)
  level_is (Expr-F.Blob s) = (sym (expr.rolls-Blob s), (λ j. 37 ∷ (sym (append-nil (sized_bytes s)) j)), omega arith)
  level_is (Expr-F.Host h) = (sym (expr.rolls-Host h), (λ j. 38 ∷ (sym (append-nil (to_be_bytes w32 h.0)) j)), omega arith)
  level_is (Expr-F.Dev d) = (sym (expr.rolls-Dev d), (λ j. 39 ∷ (sym (append-nil (to_be_bytes w32 d.0)) j)), omega arith)
  level_is (Expr-F.Nil (Some t)) = (sym (expr.rolls-Nil (Some t)), (λ j. 40 ∷ (sym (append-nil (type_bytes t)) j)), omega arith)
  level_is (Expr-F.Nil None) = tt
  level_is (Expr-F.Var x) = (sym (expr.rolls-Var x), (λ j. 41 ∷ (sym (append-nil (name_bytes x)) j)), omega arith)
  level_is (Expr-F.Tuple es) = (sym (expr.rolls-Tuple es), (λ j. 42 ∷ (sym (append-nil (length es ∷ flat_map expr_bytes es)) j)), omega arith)
  level_is (Expr-F.Call x es) = (sym (expr.rolls-Call x es), (λ j. 43 ∷ ((name_bytes x) ++ (sym (append-nil (length es ∷ flat_map expr_bytes es)) j))), omega arith)
  level_is (Expr-F.If a b c) = (sym (expr.rolls-If a b c), (λ j. 44 ∷ ((expr_bytes a) ++ ((expr_bytes b) ++ (sym (append-nil (expr_bytes c)) j)))), omega arith)
  level_is (Expr-F.Let x t a b) = (sym (expr.rolls-Let x t a b), (λ j. 45 ∷ ((name_bytes x) ++ ((type_bytes t) ++ ((expr_bytes a) ++ (sym (append-nil (expr_bytes b)) j))))), omega arith)
  level_is (Expr-F.Then a b) = (sym (expr.rolls-Then a b), (λ j. 46 ∷ ((expr_bytes a) ++ (sym (append-nil (expr_bytes b)) j))), omega arith)
  level_is (Expr-F.And a b) = (sym (expr.rolls-And a b), (λ j. 47 ∷ ((expr_bytes a) ++ (sym (append-nil (expr_bytes b)) j))), omega arith)
  level_is (Expr-F.Or a b) = (sym (expr.rolls-Or a b), (λ j. 48 ∷ ((expr_bytes a) ++ (sym (append-nil (expr_bytes b)) j))), omega arith)
  level_is (Expr-F.Not a) = (sym (expr.rolls-Not a), (λ j. 49 ∷ (sym (append-nil (expr_bytes a)) j)), omega arith)
  level_is (Expr-F.Binary o a b) = (sym (expr.rolls-Binary o a b), (λ j. 50 ∷ ((op_byte o ∷ []) ++ ((expr_bytes a) ++ (sym (append-nil (expr_bytes b)) j)))), omega arith)
  level_is (Expr-F.Part i a) = (sym (expr.rolls-Part i a), (λ j. 51 ∷ ((i ∷ []) ++ (sym (append-nil (expr_bytes a)) j))), omega arith)
  level_is (Expr-F.Raise x (Some t)) = (sym (expr.rolls-Raise x (Some t)), (λ j. 52 ∷ ((name_bytes x) ++ (sym (append-nil (type_bytes t)) j))), omega arith)
  level_is (Expr-F.Raise x None) = tt
  level_is (Expr-F.Try a cs) = (sym (expr.rolls-Try a cs), (λ j. 53 ∷ ((expr_bytes a) ++ (sym (append-nil (length cs ∷ flat_map clause_bytes cs)) j))), omega arith)
  level_is (Expr-F.Foldl x a b) = (sym (expr.rolls-Foldl x a b), (λ j. 54 ∷ ((name_bytes x) ++ ((expr_bytes a) ++ (sym (append-nil (expr_bytes b)) j)))), omega arith)
  level_is (Expr-F.Foldr x a b) = (sym (expr.rolls-Foldr x a b), (λ j. 55 ∷ ((name_bytes x) ++ ((expr_bytes a) ++ (sym (append-nil (expr_bytes b)) j)))), omega arith)
  level_is (Expr-F.ChunkOf x es) = (sym (expr.rolls-ChunkOf x es), (λ j. 56 ∷ ((name_bytes x) ++ (sym (append-nil (length es ∷ flat_map expr_bytes es)) j))), omega arith)
  level_is (Expr-F.Eval a) = (sym (expr.rolls-Eval a), (λ j. 57 ∷ (sym (append-nil (expr_bytes a)) j)), omega arith)
  level_is (Expr-F.OnRemote a b c x) = (sym (expr.rolls-OnRemote a b c x), (λ j. 58 ∷ ((expr_bytes a) ++ ((expr_bytes b) ++ ((expr_bytes c) ++ (sym (append-nil (name_bytes x)) j))))), omega arith)
  level_is (Expr-F.OnNeighbor a b c d) = (sym (expr.rolls-OnNeighbor a b c d), (λ j. 59 ∷ ((expr_bytes a) ++ ((expr_bytes b) ++ ((expr_bytes c) ++ (sym (append-nil (expr_bytes d)) j))))), omega arith)
  level_is _ = (refl, refl, refl)

  is_form : (e : Expr) → FormIs expr_byte 1 (expr_forms deeper caught) (expr_of_parts deeper caught) (expr_parts deeper caught (out-Expr e)) e (expr_bytes e) (expr_nodes e)
  is_form e =
      let P : Expr
      → Type 0 = λ y. FormIs expr_byte 1 (expr_forms deeper caught) (expr_of_parts deeper caught) (expr_parts deeper caught (out-Expr e)) y (expr_bytes_level expr_bytes clause_bytes (out-Expr e))
      (expr_nodes_level expr_nodes clause_nodes (out-Expr e)) in
      let Q : List ℕ → Type 0 = λ bs. FormIs expr_byte 1 (expr_forms deeper caught) (expr_of_parts deeper caught) (expr_parts deeper caught (out-Expr e)) e bs (expr_nodes_level expr_nodes clause_nodes (out-Expr e)) in
      let R : ℕ → Type 0 = λ n. FormIs expr_byte 1 (expr_forms deeper caught) (expr_of_parts deeper caught) (expr_parts deeper caught (out-Expr e)) e (expr_bytes e) n in
      subst R (sym (expr_nodes_out e)) (subst Q (sym (expr_bytes_out e)) (subst P (roll-out-Expr e) (level_is (out-Expr e))))

  form_is : (tag : ExprTag) (xs : PartValues (expr_forms deeper caught tag)) → expr_parts deeper caught (out-Expr (expr_of_parts deeper caught tag xs)) ≡ Some (tag, xs)
  unfolding out-Expr out
  form_is ExprTag.Bool xs = ap (expr_parts deeper caught) (expr.outs-Bool xs.0)
  form_is ExprTag.Int xs = ap (expr_parts deeper caught) (expr.outs-Int xs.0)
  form_is ExprTag.Char xs = ap (expr_parts deeper caught) (expr.outs-Char xs.0)
  form_is ExprTag.Str xs = ap (expr_parts deeper caught) (expr.outs-Str xs.0)
  form_is ExprTag.Blob xs = ap (expr_parts deeper caught) (expr.outs-Blob xs.0)
  form_is ExprTag.Host xs = ap (expr_parts deeper caught) (expr.outs-Host (record { 0 = xs.0 }))
  form_is ExprTag.Dev xs = ap (expr_parts deeper caught) (expr.outs-Dev (record { 0 = xs.0 }))
  form_is ExprTag.Nil xs = ap (expr_parts deeper caught) (expr.outs-Nil (Some xs.0))
  form_is ExprTag.Var xs = ap (expr_parts deeper caught) (expr.outs-Var xs.0)
  form_is ExprTag.Tuple xs = ap (expr_parts deeper caught) (expr.outs-Tuple xs.0)
  form_is ExprTag.Call xs = ap (expr_parts deeper caught) (expr.outs-Call xs.0 xs.1.0)
  form_is ExprTag.If xs = ap (expr_parts deeper caught) (expr.outs-If xs.0 xs.1.0 xs.1.1.0)
  form_is ExprTag.Let xs = ap (expr_parts deeper caught) (expr.outs-Let xs.0 xs.1.0 xs.1.1.0 xs.1.1.1.0)
  form_is ExprTag.Then xs = ap (expr_parts deeper caught) (expr.outs-Then xs.0 xs.1.0)
  form_is ExprTag.And xs = ap (expr_parts deeper caught) (expr.outs-And xs.0 xs.1.0)
  form_is ExprTag.Or xs = ap (expr_parts deeper caught) (expr.outs-Or xs.0 xs.1.0)
  form_is ExprTag.Not xs = ap (expr_parts deeper caught) (expr.outs-Not xs.0)
  form_is ExprTag.Binary xs = ap (expr_parts deeper caught) (expr.outs-Binary xs.0 xs.1.0 xs.1.1.0)
  form_is ExprTag.Part xs = ap (expr_parts deeper caught) (expr.outs-Part xs.0 xs.1.0)
  form_is ExprTag.Raise xs = ap (expr_parts deeper caught) (expr.outs-Raise xs.0 (Some xs.1.0))
  form_is ExprTag.Try xs = ap (expr_parts deeper caught) (expr.outs-Try xs.0 xs.1.0)
  form_is ExprTag.Foldl xs = ap (expr_parts deeper caught) (expr.outs-Foldl xs.0 xs.1.0 xs.1.1.0)
  form_is ExprTag.Foldr xs = ap (expr_parts deeper caught) (expr.outs-Foldr xs.0 xs.1.0 xs.1.1.0)
  form_is ExprTag.ChunkOf xs = ap (expr_parts deeper caught) (expr.outs-ChunkOf xs.0 xs.1.0)
  form_is ExprTag.Eval xs = ap (expr_parts deeper caught) (expr.outs-Eval xs.0)
  form_is ExprTag.OnRemote xs = ap (expr_parts deeper caught) (expr.outs-OnRemote xs.0 xs.1.0 xs.1.1.0 xs.1.1.1.0)
  form_is ExprTag.OnNeighbor xs = ap (expr_parts deeper caught) (expr.outs-OnNeighbor xs.0 xs.1.0 xs.1.1.0 xs.1.1.1.0)
  form_is _ xs = refl

  all_lawful : (tag : ExprTag) → Lawful deeper → Lawful caught → AllLawful (expr_forms deeper caught tag)
  all_lawful ExprTag.Bool k c = (flag_lawful, tt)
  all_lawful ExprTag.Int k c = (int_lawful, tt)
  all_lawful ExprTag.Char k c = (char_lawful, tt)
  all_lawful ExprTag.Str k c = (text_lawful, tt)
  all_lawful ExprTag.Blob k c = (blob_lawful, tt)
  all_lawful ExprTag.Host k c = (word_lawful, tt)
  all_lawful ExprTag.Dev k c = (word_lawful, tt)
  all_lawful ExprTag.Nil k c = (type_lawful 7, tt)
  all_lawful ExprTag.Var k c = (name_lawful, tt)
  all_lawful ExprTag.Tuple k c = (several_lawful Limit.Parts 2 8 deeper k, tt)
  all_lawful ExprTag.Call k c = (name_lawful, (several_lawful Limit.Arguments 0 8 deeper k, tt))
  all_lawful ExprTag.If k c = (k, (k, (k, tt)))
  all_lawful ExprTag.Let k c = (name_lawful, (type_lawful 8, (k, (k, tt))))
  all_lawful ExprTag.Then k c = (k, (k, tt))
  all_lawful ExprTag.And k c = (k, (k, tt))
  all_lawful ExprTag.Or k c = (k, (k, tt))
  all_lawful ExprTag.Not k c = (k, tt)
  all_lawful ExprTag.Binary k c = (op_lawful, (k, (k, tt)))
  all_lawful ExprTag.Part k c = (part_number_lawful, (k, tt))
  all_lawful ExprTag.Raise k c = (name_lawful, (type_lawful 8, tt))
  all_lawful ExprTag.Try k c = (k, (c, tt))
  all_lawful ExprTag.Foldl k c = (name_lawful, (k, (k, tt)))
  all_lawful ExprTag.Foldr k c = (name_lawful, (k, (k, tt)))
  all_lawful ExprTag.ChunkOf k c = (name_lawful, (several_lawful Limit.Arguments 0 8 deeper k, tt))
  all_lawful ExprTag.Eval k c = (k, tt)
  all_lawful ExprTag.OnRemote k c = (k, (k, (k, (name_lawful, tt))))
  all_lawful ExprTag.OnNeighbor k c = (k, (k, (k, (k, tt))))
  all_lawful _ k c = tt

  pub within_lawful : (0 < room → Lawful deeper × Lawful caught)
      → ((more : List ChunkItem) (f : Scan) → step (an_expr room) more f ≡ (expr_tag_at room f >>= λ t. Ok (items_of_parts (expr_forms deeper caught t.0) more, t.1)))
      → Lawful (expr_from room (expr_within room below core))
  within_lawful l steps =
      formed_lawful (an_expr room) (expr_tag_at room) (λ _. 0 < room) expr_byte 1 (expr_forms deeper caught) (expr_of_parts deeper caught)
      (λ e. expr_parts deeper caught (out-Expr e)) expr_bytes expr_nodes (expr_tag room) (λ tag a. all_lawful tag (l a).0 (l a).1) is_form form_is steps

-- an expression is read exactly where it is spelled, else its first fault is the answer
pub expr_lawful : (room : ℕ) → Lawful (expr_part room)
unfolding expr_core
expr_lawful zero = within_lawful 0 0 no_expr (λ a. absurd (omega (arith, a))) (λ more f. refl)
expr_lawful (suc room) = within_lawful (suc room) room (expr_core room) (λ _. (expr_lawful room, clauses_lawful room (expr_lawful room))) (λ more f. refl)
