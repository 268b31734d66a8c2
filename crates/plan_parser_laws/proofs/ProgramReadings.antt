-- The checking of a program stands for its conditions, of which at most one is the first that isn't kept.
use Rattle.std.proofs.Common.{◌≡◌, ℕ, zero, suc, ◌+◌, ◌≤◌, ◌∙◌, sym, ap, refl, subst, Bool, true, false, List, [], ◌∷◌, ◌++◌, append_assoc, take, length, Option, Some, arith, inl, inr}
use Rattle.std.specs.Prelude.{Result, Ok, Err, if◌then◌else◌, ◌↔◌, map, slice_get, nat_le}
use Rattle.std.specs.List.{sum_by}
use Rattle.std.proofs.lemmas.List.{append-nil}
use Rattle.std.proofs.lemmas.List.Sums.{sum_by_push}
use Rattle.std.proofs.lemmas.Bool.{leb-true, le-leb}
use Rattle.plan_base.specs.declared.tree.Expr.{Expr}
use Rattle.plan_base.specs.declared.tree.Fun.{Fun}
use Rattle.plan_base.specs.declared.tree.Program.{Program}
use Rattle.plan_types_spec.specs.declared.type_fault.TypeFault.{TypeFault}
use Rattle.plan_types_spec.specs.declared.type_fault.TypeFault.TheVariants as fault
use Rattle.plan_base.specs.Sizes.{code_size, expr_depth, expr_nodes}
use Rattle.plan_base.specs.WellFormed.{IsWellFormedProgram}
use Rattle.plan_types_spec.specs.Typing.{Typed}
use Rattle.plan_types_spec.specs.TypingNames.{built_in}
use Rattle.plan_types_spec.specs.TypingOrder.{Found, after, checked_expression, bodies_from, then_by, services_from, exceptions_from, functions_from, declarations, sized_program, annotated_program}
use Rattle.plan_types_spec.specs.TypingFills.{Becomes, FunFills, Fills}
use Rattle.plan_types_spec.proofs.Right.{becomes_suits}
use Rattle.plan_types_spec.proofs.Programs.{annotated_sound, annotated_complete, depths_kept}
use Rattle.plan_parser_laws.specs.Judgements.{behind, Refused}
use Rattle.plan_parser_laws.specs.Conditions.{Condition, of_exception, of_function, of_body, of_size, nodes_before, Blames, for_service, for_exception, for_function, for_body, for_size}
use Rattle.plan_parser_laws.specs.Conditions.{conditions_from, conditions, FirstUnkept, here, later, FirstRefusal, IsTypedOrRefused}
use Rattle.plan_parser_laws.proofs.Exprs.{Whole, whole, apart, one, one_filling}
use Rattle.plan_parser_laws.proofs.Names.{AllKept, StandsFor, kept_first, none_kept, take_more, From, from_here, from_next, from_start, services_stand, exceptions_stand, functions_stand}

-- ---- functions whose bodies are filled in

module _ (p : Program) where
  -- from the one with the number i on
  record FillsFrom (i : ℕ) (ds gs : List Fun) : Type 0 where
    count : length gs ≡ length ds
    funs : (j : ℕ) (d g : Fun) → slice_get ds j ≡ Some d → slice_get gs j ≡ Some g → FunFills p (i + j) d g

  none_fill : (i : ℕ) → FillsFrom i [] []
  none_fill i = record { count = refl; funs = λ j d g e h. absurd (cc) }

  one_fills : (i : ℕ) (d g : Fun) (ds gs : List Fun) → FunFills p i d g → FillsFrom (i + 1) ds gs → FillsFrom i (d ∷ ds) (g ∷ gs)
  one_fills i d g ds gs h s = record { count = ap suc s.count; funs = go }
    where
      go : (j : ℕ) (a b : Fun) → slice_get (d ∷ ds) j ≡ Some a → slice_get (g ∷ gs) j ≡ Some b → FunFills p (i + j) a b
      go zero a b e f =
          let same : d ≡ a = cc in let like : g ≡ b = cc in let at : i ≡ i + 0 = omega arith in
          subst (λ n. FunFills p n a b) at (subst (λ z. FunFills p i z b) same (subst (λ z. FunFills p i d z) like h))
      go (suc j) a b e f = let at : i + 1 + j ≡ i + suc j = omega arith in subst (λ n. FunFills p n a b) at (s.funs j a b e f)

  same_body : (i : ℕ) (d g h : Fun) → FunFills p i d g → FunFills p i d h → g ≡ h
  same_body i d g h a b = let e : g.body ≡ h.body = one_filling p i a.body b.body in a.rest ∙ ap (λ z. record d { body = z }) e ∙ sym b.rest

  one_list : (i : ℕ) (ds gs hs : List Fun) → FillsFrom i ds gs → FillsFrom i ds hs → gs ≡ hs
  one_list i [] [] [] a b = refl
  one_list i [] [] (h ∷ hs) a b = let e = b.count in absurd (omega (arith, e))
  one_list i [] (g ∷ gs) hs a b = let e = a.count in absurd (omega (arith, e))
  one_list i (d ∷ ds) [] hs a b = let e = a.count in absurd (omega (arith, e))
  one_list i (d ∷ ds) (g ∷ gs) [] a b = let e = b.count in absurd (omega (arith, e))
  one_list i (d ∷ ds) (g ∷ gs) (h ∷ hs) a b =
      let first : g ≡ h = same_body (i + 0) d g h (a.funs 0 d g refl refl) (b.funs 0 d h refl refl) in
      let rest : gs ≡ hs = one_list (i + 1) ds gs hs (behind_first gs a) (behind_first hs b) in
      cc
    where
      behind_first : {z : Fun} (zs : List Fun) → FillsFrom i (d ∷ ds) (z ∷ zs) → FillsFrom (i + 1) ds zs
      behind_first zs f = record {
        count = let e = f.count in omega (arith, e);
        funs = λ j x y e k. let at : i + suc j ≡ i + 1 + j = omega arith in subst (λ n. FunFills p n x y) at (f.funs (suc j) x y e k);
      }

  zero_plus : (i : ℕ) → 0 + i ≡ i
  zero_plus i = omega arith

  fills : (gs : List Fun) → FillsFrom 0 p.funs gs → Fills p (record p { funs = gs })
  fills gs f = record { svcs = refl; exns = refl; count = f.count; funs = λ k d g e h. subst (λ n. FunFills p n d g) (zero_plus k) (f.funs k d g e h) }

  fills_from_start : (q : Program) → Fills p q → FillsFrom 0 p.funs q.funs
  fills_from_start q f = record { count = f.count; funs = λ k d g e h. subst (λ n. FunFills p n d g) (sym (zero_plus k)) (f.funs k d g e h) }

  one_program : (q : Program) (gs : List Fun) → Fills p q → FillsFrom 0 p.funs gs → q ≡ record p { funs = gs }
  one_program q gs f s = let same = one_list 0 p.funs q.funs gs (fills_from_start q f) s in λ i. record { svcs = f.svcs i; exns = f.exns i; funs = same i }

  -- ---- bodies

  more_nodes : (i : ℕ) (d : Fun) → slice_get p.funs i ≡ Some d → nodes_before p (i + 1) ≡ nodes_before p i + expr_nodes d.body
  more_nodes i d e = ap (sum_by (λ d. expr_nodes d.body)) (take_more p.funs i d e) ∙ sum_by_push (λ d. expr_nodes d.body) (take i p.funs) d

  module _ {A : Type 0} where
    bodies_stand : (ds done : List Fun) (i n : ℕ) (ks : List Condition) (k : List Fun × ℕ → Result A TypeFault) → From p.funs i ds → length done ≡ i → n ≡ behind 0 (nodes_before p i)
        → ((j : ℕ) (d : Fun) → slice_get ds j ≡ Some d → expr_depth d.body ≤ 64) → ((gs : List Fun) (m : ℕ) → FillsFrom i ds gs → StandsFor p ks (k (done ++ gs, m)))
        → StandsFor p (conditions_from of_body i (length ds) ks) (then_by (bodies_from p done ds n) k)
    unfolding bodies_from
    bodies_stand [] done i n ks k look seen at low s = subst (λ gs. StandsFor p ks (k (gs, n))) (append-nil done) (s [] n (none_fill i))
    bodies_stand (d ∷ ds) done i n ks k look seen at low s =
        by_body (λ g m a b. bodies_stand ds (done ++ g ∷ []) (i + 1) m ks k (from_next p.funs i d ds look) a b (λ j x e. low (suc j) x e))
        (checked_expression p 64 (length done) d.params (Some d.result) d.body n) (whole p (length done) 64 d.body (low 0 d refl) d.params (Some d.result) n)
      where
        is : slice_get p.funs i ≡ Some d
        is = from_here p.funs i d ds look

        by_body : ((g : Fun) (m : ℕ) → length (done ++ g ∷ []) ≡ i + 1 → m ≡ behind 0 (nodes_before p (i + 1)) → ((gs : List Fun) (l : ℕ) → FillsFrom (i + 1) ds gs → StandsFor p ks (k ((done ++ g ∷ []) ++ gs, l)))
            → StandsFor p (conditions_from of_body (i + 1) (length ds) ks) (then_by (bodies_from p (done ++ g ∷ []) ds m) k))
            → (q : Result (Found × ℕ) TypeFault) → Whole p (length done) d.params (Some d.result) n d.body q
            → StandsFor p (of_body i ∷ conditions_from of_body (i + 1) (length ds) ks) (then_by (after q (λ r. bodies_from p (done ++ record d { body = r.0 } ∷ []) ds)) k)
        by_body rest (Err f) w =
            let r : Refused p i f d.params (Some d.result) n d.body = subst (λ z. Refused p z f d.params (Some d.result) n d.body) seen w in
            here (of_body i) (conditions_from of_body (i + 1) (length ds) ks) (λ h. let t = h d is in apart p i t.1 r)
            (for_body i d f is (subst (λ z. Refused p i f d.params (Some d.result) z d.body) at r))
        by_body rest (Ok r) w =
            let type : r.0.1 ≡ d.result = sym (becomes_suits w.0) in
            let b : Becomes p i d.params (Some d.result) d.body r.0.0 d.result = subst (λ t. Becomes p i d.params (Some d.result) d.body r.0.0 t) type (subst (λ z. Becomes p z d.params (Some d.result) d.body r.0.0 r.0.1) seen w.0) in
            let g : Fun = record d { body = r.0.0 } in
            let nodes = more_nodes i d is in
            let m = w.1 in
            kept_first p (of_body i) (conditions_from of_body (i + 1) (length ds) ks) (then_by (bodies_from p (done ++ g ∷ []) ds r.1) k)
            (λ x h. let same : d ≡ x = (let z : ◌≡◌ {A = Option Fun} (Some d) (Some x) = sym is ∙ h in cc) in subst (λ y. (e : Expr) × Becomes p i y.params (Some y.result) y.body e y.result) same (r.0.0, b))
            (rest g r.1 (one_more g) (omega (arith, m, at, nodes))
            (λ gs l f. subst (λ zs. StandsFor p ks (k (zs, l))) (sym (append_assoc done (g ∷ []) gs)) (s (g ∷ gs) l (one_fills i d g ds gs (record { body = b; rest = refl }) f))))
          where
            one_more : (g : Fun) → length (done ++ g ∷ []) ≡ i + 1
            one_more g = length_push done ∙ ap (λ z. z + 1) seen
              where
                length_push : (xs : List Fun) → length (xs ++ g ∷ []) ≡ length xs + 1
                length_push [] = refl
                length_push (y ∷ xs) = let e = length_push xs in omega (arith, e)

  -- ---- one refusal

  never_both : {f : TypeFault} (ks : List Condition) → AllKept p ks → FirstUnkept p f ks → ⊥
  unfolding AllKept
  never_both _ a (here k more n b) = n a.0
  never_both _ a (later k more h s) = never_both more a.1 s

  same_blame : {f g : TypeFault} (k : Condition) → Blames p k f → Blames p k g → f ≡ g
  same_blame _ (for_service k) (for_service _) = refl
  same_blame _ (for_exception k) (for_exception _) = refl
  same_blame _ (for_function k) (for_function _) = refl
  same_blame {g = g} _ (for_body k d f e r) (for_body _ x _ h q) =
      let same : d ≡ x = (let z : ◌≡◌ {A = Option Fun} (Some d) (Some x) = sym e ∙ h in cc) in
      one p k r (subst (λ y. Refused p k g y.params (Some y.result) (behind 0 (nodes_before p k)) y.body) (sym same) q)
  same_blame _ for_size for_size = refl

  one_first : {f g : TypeFault} (ks : List Condition) → FirstUnkept p f ks → FirstUnkept p g ks → f ≡ g
  one_first _ (here k more n b) (here _ _ m d) = same_blame k b d
  one_first _ (here k more n b) (later _ _ h s) = absurd (n h)
  one_first _ (later k more h s) (here _ _ m d) = absurd (m h)
  one_first _ (later k more h s) (later _ _ m t) = one_first more s t

  pub one_refusal : (f g : TypeFault) → FirstRefusal p f → FirstRefusal p g → f ≡ g
  one_refusal f g h k = one_first (conditions p) h k

  -- ---- the whole

  size_stands : (gs : List Fun) → FillsFrom 0 p.funs gs → StandsFor p (of_size ∷ []) (sized_program (record p { funs = gs }))
  unfolding sized_program
  size_stands gs f = go (nat_le (code_size (record p { funs = gs })) 16000) refl
    where
      go : (b : Bool) → nat_le (code_size (record p { funs = gs })) 16000 ≡ b → StandsFor p (of_size ∷ []) (if b then Ok (record p { funs = gs }) else Err fault.CodeTooLarge)
      go true e =
          kept_first {A = Program} p of_size [] (Ok (record p { funs = gs }))
          (λ q h. subst (λ z. code_size z ≤ 16000) (sym (one_program q gs h f)) (leb-true (code_size (record p { funs = gs })) 16000 e)) (none_kept p)
      go false e = here of_size [] (λ h. let l = le-leb (code_size (record p { funs = gs })) 16000 (h (record p { funs = gs }) (fills gs f)) in let z : true ≡ false = sym l ∙ e in cc) for_size

  then_turn : {A B C : Type 0} (r : Result A TypeFault) (f : A → Result B TypeFault) (k : B → Result C TypeFault) → then_by r (λ a. then_by (f a) k) ≡ then_by (then_by r f) k
  then_turn (Ok a) f k = refl
  then_turn (Err e) f k = refl

  module _ (w : IsWellFormedProgram p) where
    bodies_and_size : StandsFor p (conditions_from of_body 0 (length p.funs) (of_size ∷ [])) (then_by (bodies_from p [] p.funs 0) (λ r. sized_program (record p { funs = r.0 })))
    bodies_and_size =
        bodies_stand p.funs [] 0 0 (of_size ∷ []) (λ r. sized_program (record p { funs = r.0 })) (from_start p.funs) refl refl (depths_kept p w) (λ gs m f. size_stands gs f)

    stands : StandsFor p (conditions p) (annotated_program p)
    unfolding annotated_program declarations
    stands =
        let last : ℕ → Result Program TypeFault = λ _. then_by (bodies_from p [] p.funs 0) (λ r. sized_program (record p { funs = r.0 })) in
        let funs : ℕ → Result ℕ TypeFault = λ m. functions_from (map (λ d. d.name) p.svcs) p.funs m in
        let exns : ℕ → Result ℕ TypeFault = λ n. then_by (exceptions_from built_in p.exns n) funs in
        subst (λ r. StandsFor p (conditions p) r) (then_turn (services_from [] p.svcs 0) exns last)
        (services_stand p p.svcs 0 0 [] _ (λ n. then_by (exns n) last) (from_start p.svcs) refl refl
        (λ n e.
        subst (λ r.
        StandsFor p (conditions_from of_exception 0 (length p.exns)
        (conditions_from of_function 0 (length p.funs) (conditions_from of_body 0 (length p.funs) (of_size ∷ [])))) r) (then_turn (exceptions_from built_in p.exns n) funs last)
        (exceptions_stand p p.exns 0 n built_in _ (λ m. then_by (funs m) last) (from_start p.exns) (sym (append-nil built_in)) (omega (arith, e))
        (λ m k. functions_stand p p.funs 0 m (map (λ d. d.name) p.svcs) _ last (from_start p.funs) (sym (append-nil (map (λ d. d.name) p.svcs))) (omega (arith, k)) (λ _. bodies_and_size)))))

    pub first_is : (f : TypeFault) → (annotated_program p ≡ Err f) ↔ FirstRefusal p f
    first_is f = (λ h. subst (λ r. StandsFor p (conditions p) r) h stands, λ h. back (annotated_program p) stands h)
      where
        back : (r : Result Program TypeFault) → StandsFor p (conditions p) r → FirstRefusal p f → r ≡ Err f
        back (Ok q) s h = absurd (never_both (conditions p) s h)
        back (Err g) s h = ap (λ (z : TypeFault). Err z) (one_first (conditions p) s h)

    pub some_answer : IsTypedOrRefused p
    some_answer = go (annotated_program p) refl stands
      where
        go : (r : Result Program TypeFault) → annotated_program p ≡ r → StandsFor p (conditions p) r → IsTypedOrRefused p
        go (Ok q) e s = let a = annotated_sound p q e in inl (q, a.0, a.1)
        go (Err f) e s = inr (f, s)

    pub not_both : (q : Program) (f : TypeFault) → Fills p q → Typed q → FirstRefusal p f → ⊥
    not_both q f h t r = let z : ◌≡◌ {A = Result Program TypeFault} (Ok q) (Err f) = sym (annotated_complete p q (depths_kept p w) h t) ∙ (first_is f).1 r in cc
