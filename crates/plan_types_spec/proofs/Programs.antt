-- The checking of a whole program, and what the rules say of it.
use Rattle.std.proofs.Common.{◌≡◌, ℕ, zero, suc, ◌+◌, ◌≤◌, ◌∙◌, sym, ap, refl, subst, Bool, true, false, not, ◌&&◌, ◌||◌, List, [], ◌∷◌, ◌++◌, append_assoc, length, Some, arith, add-zero}
use Rattle.std.specs.Prelude.{Result, Ok, Err, if◌then◌else◌, map, slice_get, nat_le}
use Rattle.std.specs.List.{list_all}
use Rattle.std.proofs.lemmas.List.{length-append, append-nil}
use Rattle.std.proofs.lemmas.Bool.{leb-true, le-leb}
use Rattle.containers.proofs.Bools.{and_left, and_right, and_both}
use Rattle.plan_base.specs.declared.name.Name.{Name}
use Rattle.plan_base.specs.declared.tree.Svc.{Svc}
use Rattle.plan_base.specs.declared.tree.Fun.{Fun}
use Rattle.plan_base.specs.declared.tree.Program.{Program}
use Rattle.plan_base.specs.declared.tree.Place.TheVariants as place
use Rattle.plan_types_spec.specs.declared.type_fault.TypeFault.{TypeFault}
use Rattle.plan_types_spec.specs.declared.type_fault.TypeFault.TheVariants as fault
use Rattle.plan_base.specs.Sizes.{code_size, expr_depth, program_nodes}
use Rattle.plan_base.specs.WellFormed.{has_from_to, formed_expr, well_formed_type, well_formed_expr, well_formed_svc, well_formed_fun, well_formed_program, has_types, program_has_types, IsWellFormedProgram, ProgramHasTypes}
use Rattle.plan_types_spec.specs.Typing.{HasTy, HasOwnNames, Typed, param_names}
use Rattle.plan_types_spec.specs.TypingNames.{has_name, is_prim, built_in, are_new, are_callable}
use Rattle.plan_types_spec.specs.TypingOrder.{next, then_by, checked_expression, bodies_from, services_from, exceptions_from, functions_from, declarations, sized_program, annotated_program}
use Rattle.plan_types_spec.specs.TypingFills.{Becomes, FunFills, Fills}
use Rattle.plan_types_spec.proofs.Steps.{Holds, Yields, then_yields, pure_yields}
use Rattle.plan_types_spec.proofs.Heads.{AlikeFuns, no_funs, and_fun, SameHeads, heads_back, names_there, alike_length}
use Rattle.plan_types_spec.proofs.Right.{Right, checked_right, becomes_suits, map_holds}
use Rattle.plan_types_spec.proofs.Follows.{becomes_typed}
use Rattle.plan_types_spec.proofs.Reaches.{Reaches, then_reaches, checked_reaches}
use Rattle.plan_types_spec.proofs.Itself.{itself}
use Rattle.plan_types_spec.proofs.Full.{becomes_full}

-- ---- names

services_named : (taken : List Name) (ds : List Svc) (at n : ℕ) → services_from taken ds at ≡ Ok n → are_callable taken (map (λ d. d.name) ds) ≡ true
unfolding services_from
services_named taken [] at n h = refl
services_named taken (d ∷ ds) at n h = go (λ e. services_named (taken ++ d.name ∷ []) ds (next at) n e) (is_prim d.name) (has_name taken d.name) h
  where
    go : (services_from (taken ++ d.name ∷ []) ds (next at) ≡ Ok n → are_callable (taken ++ d.name ∷ []) (map (λ d. d.name) ds) ≡ true) → (p b : Bool)
        → (if p || b then Err (fault.TwiceNamed (place.Decl at)) else services_from (taken ++ d.name ∷ []) ds (next at)) ≡ Ok n
        → (not p && not b && are_callable (taken ++ d.name ∷ []) (map (λ d. d.name) ds)) ≡ true
    go ih true b e = absurd (cc)
    go ih false true e = absurd (cc)
    go ih false false e = ih e

services_reach : (taken : List Name) (ds : List Svc) (at : ℕ) → are_callable taken (map (λ d. d.name) ds) ≡ true → (n : ℕ) × (services_from taken ds at ≡ Ok n)
unfolding services_from
services_reach taken [] at h = (at, refl)
services_reach taken (d ∷ ds) at h = go (λ e. services_reach (taken ++ d.name ∷ []) ds (next at) e) (is_prim d.name) (has_name taken d.name) h
  where
    go : (are_callable (taken ++ d.name ∷ []) (map (λ d. d.name) ds) ≡ true → (n : ℕ) × (services_from (taken ++ d.name ∷ []) ds (next at) ≡ Ok n)) → (p b : Bool)
        → (not p && not b && are_callable (taken ++ d.name ∷ []) (map (λ d. d.name) ds)) ≡ true
        → (n : ℕ) × ((if p || b then Err (fault.TwiceNamed (place.Decl at)) else services_from (taken ++ d.name ∷ []) ds (next at)) ≡ Ok n)
    go ih true b e = absurd (cc)
    go ih false true e = absurd (cc)
    go ih false false e = ih e

exceptions_named : (taken ns : List Name) (at n : ℕ) → exceptions_from taken ns at ≡ Ok n → are_new taken ns ≡ true
unfolding exceptions_from
exceptions_named taken [] at n h = refl
exceptions_named taken (x ∷ ns) at n h = go (λ e. exceptions_named (taken ++ x ∷ []) ns (next at) n e) (has_name taken x) h
  where
    go : (exceptions_from (taken ++ x ∷ []) ns (next at) ≡ Ok n → are_new (taken ++ x ∷ []) ns ≡ true) → (b : Bool)
        → (if b then Err (fault.TwiceNamed (place.Decl at)) else exceptions_from (taken ++ x ∷ []) ns (next at)) ≡ Ok n → (not b && are_new (taken ++ x ∷ []) ns) ≡ true
    go ih true e = absurd (cc)
    go ih false e = ih e

exceptions_reach : (taken ns : List Name) (at : ℕ) → are_new taken ns ≡ true → (n : ℕ) × (exceptions_from taken ns at ≡ Ok n)
unfolding exceptions_from
exceptions_reach taken [] at h = (at, refl)
exceptions_reach taken (x ∷ ns) at h = go (λ e. exceptions_reach (taken ++ x ∷ []) ns (next at) e) (has_name taken x) h
  where
    go : (are_new (taken ++ x ∷ []) ns ≡ true → (n : ℕ) × (exceptions_from (taken ++ x ∷ []) ns (next at) ≡ Ok n)) → (b : Bool) → (not b && are_new (taken ++ x ∷ []) ns) ≡ true
        → (n : ℕ) × ((if b then Err (fault.TwiceNamed (place.Decl at)) else exceptions_from (taken ++ x ∷ []) ns (next at)) ≡ Ok n)
    go ih true e = absurd (cc)
    go ih false e = ih e

abbrev OwnParams : List Fun → Type 0
OwnParams ds = (k : ℕ) (d : Fun) → slice_get ds k ≡ Some d → are_new [] (param_names d.params) ≡ true

own_first : (d : Fun) (ds : List Fun) → are_new [] (param_names d.params) ≡ true → OwnParams ds → OwnParams (d ∷ ds)
own_first d ds h hs zero g e = let same : d ≡ g = cc in ap (λ f. are_new [] (param_names f.params)) (sym same) ∙ h
own_first d ds h hs (suc k) g e = hs k g e

functions_named : (taken : List Name) (ds : List Fun) (at n : ℕ) → functions_from taken ds at ≡ Ok n → (are_callable taken (map (λ d. d.name) ds) ≡ true) × OwnParams ds
unfolding functions_from
functions_named taken [] at n h = (refl, λ k d e. absurd (cc))
functions_named taken (d ∷ ds) at n h = go (λ e. functions_named (taken ++ d.name ∷ []) ds (next at) n e) (is_prim d.name) (has_name taken d.name) (are_new [] (param_names d.params)) refl h
  where
    go : (functions_from (taken ++ d.name ∷ []) ds (next at) ≡ Ok n → (are_callable (taken ++ d.name ∷ []) (map (λ d. d.name) ds) ≡ true) × OwnParams ds) → (p b q : Bool)
        → are_new [] (param_names d.params) ≡ q → (if p || b || not q then Err (fault.TwiceNamed (place.Decl at)) else functions_from (taken ++ d.name ∷ []) ds (next at)) ≡ Ok n
        → ((not p && not b && are_callable (taken ++ d.name ∷ []) (map (λ d. d.name) ds)) ≡ true) × OwnParams (d ∷ ds)
    go ih true b q w e = absurd (cc)
    go ih false true q w e = absurd (cc)
    go ih false false false w e = absurd (cc)
    go ih false false true w e = let r = ih e in (r.0, own_first d ds w r.1)

functions_reach : (taken : List Name) (ds : List Fun) (at : ℕ) → are_callable taken (map (λ d. d.name) ds) ≡ true → OwnParams ds → (n : ℕ) × (functions_from taken ds at ≡ Ok n)
unfolding functions_from
functions_reach taken [] at h hs = (at, refl)
functions_reach taken (d ∷ ds) at h hs = go (λ e. functions_reach (taken ++ d.name ∷ []) ds (next at) e (λ k g f. hs (suc k) g f)) (is_prim d.name) (has_name taken d.name) (are_new [] (param_names d.params)) (hs 0 d refl) h
  where
    go : (are_callable (taken ++ d.name ∷ []) (map (λ d. d.name) ds) ≡ true → (n : ℕ) × (functions_from (taken ++ d.name ∷ []) ds (next at) ≡ Ok n)) → (p b q : Bool) → q ≡ true
        → (not p && not b && are_callable (taken ++ d.name ∷ []) (map (λ d. d.name) ds)) ≡ true
        → (n : ℕ) × ((if p || b || not q then Err (fault.TwiceNamed (place.Decl at)) else functions_from (taken ++ d.name ∷ []) ds (next at)) ≡ Ok n)
    go ih true b q w e = absurd (cc)
    go ih false true q w e = absurd (cc)
    go ih false false false w e = absurd (cc)
    go ih false false true w e = ih e

callable-append : (taken xs ys : List Name) → are_callable taken (xs ++ ys) ≡ (are_callable taken xs && are_callable (taken ++ xs) ys)
callable-append taken [] ys = rw append-nil refl
callable-append taken (x ∷ xs) ys = go (callable-append (taken ++ x ∷ []) xs ys ∙ ap (λ t. are_callable (taken ++ x ∷ []) xs && are_callable t ys) (append_assoc taken (x ∷ []) xs)) (not (is_prim x) && not (has_name taken x))
  where
    go : are_callable (taken ++ x ∷ []) (xs ++ ys) ≡ (are_callable (taken ++ x ∷ []) xs && are_callable (taken ++ x ∷ xs) ys) → (b : Bool)
        → (b && are_callable (taken ++ x ∷ []) (xs ++ ys)) ≡ ((b && are_callable (taken ++ x ∷ []) xs) && are_callable (taken ++ x ∷ xs) ys)
    go tail true = tail
    go tail false = refl

then_ok : {A B : Type 0} (r : Result A TypeFault) (k : A → Result B TypeFault) (b : B) → then_by r k ≡ Ok b → (a : A) × (r ≡ Ok a) × (k a ≡ Ok b)
then_ok (Ok a) k b h = (a, refl, h)
then_ok (Err f) k b h = absurd (cc)

then_is : {A B : Type 0} (r : Result A TypeFault) (k : A → Result B TypeFault) (a : A) (b : Result B TypeFault) → r ≡ Ok a → k a ≡ b → then_by r k ≡ b
then_is r k a b h e = subst (λ z. then_by z k ≡ b) (sym h) e

declared_named : (code : Program) (n : ℕ) → declarations code ≡ Ok n → HasOwnNames code
unfolding declarations
declared_named code n h =
    let s = then_ok (services_from [] code.svcs 0) (λ n. then_by (exceptions_from built_in code.exns n) (λ m. functions_from (map (λ d. d.name) code.svcs) code.funs m)) n h in
    let e = then_ok (exceptions_from built_in code.exns s.0) (λ m. functions_from (map (λ d. d.name) code.svcs) code.funs m) n s.2 in
    let f = functions_named (map (λ d. d.name) code.svcs) code.funs e.0 n e.2 in
    record {
      calls = callable-append [] (map (λ d. d.name) code.svcs) (map (λ d. d.name) code.funs) ∙ and_both _ _ (services_named [] code.svcs 0 s.0 s.1) f.0;
      exns = exceptions_named built_in code.exns s.0 e.0 e.1;
      params = f.1;
    }

declared_reach : (code : Program) → HasOwnNames code → (n : ℕ) × (declarations code ≡ Ok n)
unfolding declarations
declared_reach code h =
    let calls = sym (callable-append [] (map (λ d. d.name) code.svcs) (map (λ d. d.name) code.funs)) ∙ h.calls in
    let s = services_reach [] code.svcs 0 (and_left _ _ calls) in
    let e = exceptions_reach built_in code.exns s.0 h.exns in
    let f = functions_reach (map (λ d. d.name) code.svcs) code.funs e.0 (and_right _ _ calls) h.params in (
      f.0,
      then_is (services_from [] code.svcs 0) (λ n. then_by (exceptions_from built_in code.exns n) (λ m. functions_from (map (λ d. d.name) code.svcs) code.funs m)) s.0 (Ok f.0) s.1
          (then_is (exceptions_from built_in code.exns s.0) (λ m. functions_from (map (λ d. d.name) code.svcs) code.funs m) e.0 (Ok f.0) e.1 f.1),
    )

-- ---- bodies

-- functions whose bodies are filled in one after the other, from the one with the number k on
pub data BodiesFill (code : Program) : ℕ → List Fun → List Fun → Type 0 where
  no_bodies : {k : ℕ} → BodiesFill code k [] []
  and_body : {k : ℕ} {d g : Fun} {ds gs : List Fun} → FunFills code k d g → BodiesFill code (k + 1) ds gs → BodiesFill code k (d ∷ ds) (g ∷ gs)

module _ (code : Program) where
  abbrev BodiesRight : List Fun → List Fun → List Fun → Type 0
  BodiesRight done ds r = (gs : List Fun) × (r ≡ done ++ gs) × BodiesFill code (length done) ds gs

  bodies_right : (ds done : List Fun) → Yields (BodiesRight done ds) (bodies_from code done ds)
  unfolding bodies_from
  bodies_right [] done = pure_yields (BodiesRight done []) done ([], sym (append-nil done), no_bodies)
  bodies_right (d ∷ ds) done =
      then_yields (Right code (length done) d.params (Some d.result) d.body) (BodiesRight done (d ∷ ds))
      (checked_expression code 64 (length done) d.params (Some d.result) d.body) (λ r. bodies_from code (done ++ record d { body = r.0 } ∷ []) ds)
      (checked_right code 64 (length done) d.params (Some d.result) d.body)
      (λ r h n. map_holds code 0 (BodiesRight (done ++ record d { body = r.0 } ∷ []) ds) (BodiesRight done (d ∷ ds))
      (λ a p. (
        record d { body = r.0 } ∷ p.0,
        p.1 ∙ append_assoc done (record d { body = r.0 } ∷ []) p.0,
        and_body (record {
          body = subst (λ u. Becomes code (length done) d.params (Some d.result) d.body r.0 u) (sym (becomes_suits h)) h;
          rest = refl;
        }) (subst (λ i. BodiesFill code i ds p.0) (length-append done (record d { body = r.0 } ∷ [])) p.2),
      ))
      (bodies_from code (done ++ record d { body = r.0 } ∷ []) ds n) (bodies_right ds (done ++ record d { body = r.0 } ∷ []) n))

  bodies_reach : {k : ℕ} {ds gs : List Fun} → BodiesFill code k ds gs → ((i : ℕ) (d : Fun) → slice_get ds i ≡ Some d → expr_depth d.body ≤ 64) → (done : List Fun) → length done ≡ k → (n : ℕ)
      → Reaches (bodies_from code done ds) (done ++ gs) n
  unfolding bodies_from
  bodies_reach no_bodies w done q n = (n, rw append-nil refl)
  bodies_reach {k = k} (and_body {d = d} {g = g} {ds = ds} {gs = gs} b bs) w done q n =
      then_reaches (checked_expression code 64 (length done) d.params (Some d.result) d.body) (λ r. bodies_from code (done ++ record d { body = r.0 } ∷ []) ds) (g.body, d.result) (done ++ g ∷ gs) n
      (checked_reaches code 64 (length done) (subst (λ i. Becomes code i d.params (Some d.result) d.body g.body d.result) (sym q) b.body) (w 0 d refl) n)
      (λ m. subst (λ z. Reaches (bodies_from code (done ++ z ∷ []) ds) (done ++ g ∷ gs) m) b.rest
      (subst (λ z. Reaches (bodies_from code (done ++ g ∷ []) ds) z m) (append_assoc done (g ∷ []) gs)
      (bodies_reach bs (λ i e h. w (suc i) e h) (done ++ g ∷ []) (length-append done (g ∷ []) ∙ ap (λ j. j + 1) q) m)))

  bodies_alike : {k : ℕ} {ds gs : List Fun} → BodiesFill code k ds gs → AlikeFuns ds gs
  bodies_alike no_bodies = no_funs
  bodies_alike (and_body b bs) = and_fun (ap (λ f. f.name) b.rest) (ap (λ f. f.params) b.rest) (ap (λ f. f.result) b.rest) (bodies_alike bs)

  fill_at : {k : ℕ} {ds gs : List Fun} → BodiesFill code k ds gs → (i : ℕ) (d g : Fun) → slice_get ds i ≡ Some d → slice_get gs i ≡ Some g → FunFills code (k + i) d g
  fill_at no_bodies i d g p q = absurd (cc)
  fill_at {k = k} (and_body {d = a} {g = b} h hs) zero d g p q =
      let r : a ≡ d = cc in let s : b ≡ g = cc in
      subst (λ j. FunFills code j d g) (sym (add-zero k)) (subst (λ z. FunFills code k z g) r (subst (λ z. FunFills code k a z) s h))
  fill_at {k = k} (and_body h hs) (suc i) d g p q = let e : k + 1 + i ≡ k + suc i = omega arith in subst (λ j. FunFills code j d g) e (fill_at hs i d g p q)

  bodies_of : (k : ℕ) (ds gs : List Fun) → length gs ≡ length ds → ((i : ℕ) (d g : Fun) → slice_get ds i ≡ Some d → slice_get gs i ≡ Some g → FunFills code (k + i) d g) → BodiesFill code k ds gs
  bodies_of k [] [] e f = no_bodies
  bodies_of k [] (g ∷ gs) e f = absurd (omega arith)
  bodies_of k (d ∷ ds) [] e f = absurd (omega arith)
  bodies_of k (d ∷ ds) (g ∷ gs) e f =
      and_body (subst (λ j. FunFills code j d g) (add-zero k) (f 0 d g refl refl))
      (bodies_of (k + 1) ds gs (omega arith) (λ i a b p q. let r : k + suc i ≡ k + 1 + i = omega arith in subst (λ j. FunFills code j a b) r (f (suc i) a b p q)))

  fun_typed : (whole : Program) → SameHeads code whole → (k : ℕ) (d g : Fun) → FunFills code k d g → HasTy whole k g.params g.body g.result
  fun_typed whole s k d g h =
      subst (λ ps. HasTy whole k ps g.body g.result) (sym (ap (λ f. f.params) h.rest))
      (subst (λ r. HasTy whole k d.params g.body r) (sym (ap (λ f. f.result) h.rest)) (becomes_typed code whole s k h.body))

  typed_at : (whole : Program) → SameHeads code whole → {k : ℕ} {ds gs : List Fun} → BodiesFill code k ds gs → (i : ℕ) (g : Fun) → slice_get gs i ≡ Some g → HasTy whole (k + i) g.params g.body g.result
  typed_at whole s no_bodies i g q = absurd (cc)
  typed_at whole s {k = k} (and_body {d = d} {g = b} h hs) zero g q =
      let e : b ≡ g = cc in
      subst (λ j. HasTy whole j g.params g.body g.result) (sym (add-zero k)) (fun_typed whole s k d g (subst (λ z. FunFills code k d z) e h))
  typed_at whole s {k = k} (and_body h hs) (suc i) g q = let e : k + 1 + i ≡ k + suc i = omega arith in subst (λ j. HasTy whole j g.params g.body g.result) e (typed_at whole s hs i g q)

-- ---- whole programs

heads_of : (draft : Program) (gs : List Fun) → BodiesFill draft 0 draft.funs gs → SameHeads draft (record draft { funs = gs })
heads_of draft gs b = record { svcs = refl; exns = refl; funs = bodies_alike draft b }

zero_plus : (i : ℕ) → 0 + i ≡ i
zero_plus i = omega arith

filled_by : (draft : Program) (gs : List Fun) → BodiesFill draft 0 draft.funs gs → Fills draft (record draft { funs = gs })
filled_by draft gs b = record {
  svcs = refl;
  exns = refl;
  count = alike_length (bodies_alike draft b);
  funs = λ k d g p q. subst (λ j. FunFills draft j d g) (zero_plus k) (fill_at draft b k d g p q);
}

typed_by : (draft : Program) (gs : List Fun) → BodiesFill draft 0 draft.funs gs → HasOwnNames draft → code_size (record draft { funs = gs }) ≤ 16000 → Typed (record draft { funs = gs })
typed_by draft gs b names small = let whole : Program = record draft { funs = gs } in record {
  names = names_there (heads_of draft gs b) names;
  bodies = λ k g q. subst (λ j. HasTy whole j g.params g.body g.result) (zero_plus k) (typed_at draft whole (heads_of draft gs b) b k g q);
  small = small;
}

sized_ok : (code p : Program) → sized_program code ≡ Ok p → (p ≡ code) × (code_size code ≤ 16000)
unfolding sized_program
sized_ok code p h = go (nat_le (code_size code) 16000) refl h
  where
    go : (b : Bool) → nat_le (code_size code) 16000 ≡ b → (if b then Ok code else Err fault.CodeTooLarge) ≡ Ok p → (p ≡ code) × (code_size code ≤ 16000)
    go true w e = ((cc), leb-true (code_size code) 16000 w)
    go false w e = absurd (cc)

-- The program that the checking answers fills the draft in and is typed.
pub annotated_sound : (draft p : Program) → annotated_program draft ≡ Ok p → Fills draft p × Typed p
unfolding annotated_program
annotated_sound draft p h =
    let a = then_ok (declarations draft) (λ _. then_by (bodies_from draft [] draft.funs 0) (λ r. sized_program (record draft { funs = r.0 }))) p h in
    let b = then_ok (bodies_from draft [] draft.funs 0) (λ r. sized_program (record draft { funs = r.0 })) p a.2 in
    let fill : BodiesRight draft [] draft.funs b.0.0 = subst (λ z. Holds (BodiesRight draft [] draft.funs) z) b.1 (bodies_right draft draft.funs [] 0) in
    let bodies : BodiesFill draft 0 draft.funs b.0.0 = subst (λ gs. BodiesFill draft 0 draft.funs gs) (sym fill.1) fill.2 in
    let s = sized_ok (record draft { funs = b.0.0 }) p b.2 in
    let P : Program → Type 0 = λ z. Fills draft z × Typed z in
    subst P (sym s.0) (filled_by draft b.0.0 bodies, typed_by draft b.0.0 bodies (declared_named draft a.0 a.1) s.1)

-- Where a typed program fills the draft in, the checking answers it.
pub annotated_complete : (draft p : Program) → ((i : ℕ) (d : Fun) → slice_get draft.funs i ≡ Some d → expr_depth d.body ≤ 64) → Fills draft p → Typed p → annotated_program draft ≡ Ok p
unfolding annotated_program sized_program
annotated_complete draft p w f t =
    let bodies = bodies_of draft 0 draft.funs p.funs f.count (λ k d g a b. subst (λ j. FunFills draft j d g) (sym (zero_plus k)) (f.funs k d g a b)) in
    let same : SameHeads draft p = record { svcs = f.svcs; exns = f.exns; funs = bodies_alike draft bodies } in
    let names = declared_reach draft (names_there (heads_back same) t.names) in
    let r = bodies_reach draft bodies w [] refl 0 in
    let whole : p ≡ record draft { funs = p.funs } = λ i. record { svcs = f.svcs i; exns = f.exns i; funs = p.funs } in
    then_is (declarations draft) (λ _. then_by (bodies_from draft [] draft.funs 0) (λ r. sized_program (record draft { funs = r.0 }))) names.0 (Ok p) names.1
    (then_is (bodies_from draft [] draft.funs 0) (λ r. sized_program (record draft { funs = r.0 })) (p.funs, r.0) (Ok p) r.1
    (subst (λ z. sized_program z ≡ Ok p) whole (subst (λ (b : Bool). (if b then Ok p else Err fault.CodeTooLarge) ≡ Ok p) (sym (le-leb (code_size p) 16000 t.small)) refl)))

-- A typed program fills itself in.
pub fills_itself : (p : Program) → Typed p → Fills p p
fills_itself p t = record {
  svcs = refl;
  exns = refl;
  count = refl;
  funs = λ k d g a b. let e : d ≡ g = cc in subst (λ z. FunFills p k d z) e (record { body = itself p k (t.bodies k d a) refl; rest = refl });
}

-- ---- what the conditions of the calls give

all_at : {X : Type 0} (p : X → Bool) (xs : List X) (i : ℕ) (a : X) → list_all p xs ≡ true → slice_get xs i ≡ Some a → p a ≡ true
all_at p [] i a h e = absurd (cc)
all_at p (b ∷ xs) zero a h e = let same : b ≡ a = cc in ap p (sym same) ∙ and_left (p b) (list_all p xs) h
all_at p (b ∷ xs) (suc i) a h e = all_at p xs i a (and_right (p b) (list_all p xs) h) e

-- the bodies of a well-formed program keep the depth
pub depths_kept : (code : Program) → IsWellFormedProgram code → (i : ℕ) (d : Fun) → slice_get code.funs i ≡ Some d → expr_depth d.body ≤ 64
unfolding well_formed_program well_formed_expr
depths_kept code w i d e =
    let a = and_right (nat_le (length code.svcs) 64 && list_all well_formed_svc code.svcs) (nat_le (length code.exns) 64 && ((has_from_to 1 64 code.funs && list_all well_formed_fun code.funs) && nat_le (program_nodes code) 4096)) w in
    let b = and_right (nat_le (length code.exns) 64) ((has_from_to 1 64 code.funs && list_all well_formed_fun code.funs) && nat_le (program_nodes code) 4096) a in
    let c = and_left (has_from_to 1 64 code.funs && list_all well_formed_fun code.funs) (nat_le (program_nodes code) 4096) b in
    let f = all_at well_formed_fun code.funs i d (and_right (has_from_to 1 64 code.funs) (list_all well_formed_fun code.funs) c) e in
    let g = and_right (nat_le (length d.params) 8) (list_all (λ p. well_formed_type p.ty) d.params && (well_formed_type d.result && well_formed_expr d.body)) f in
    let h = and_right (list_all (λ p. well_formed_type p.ty) d.params) (well_formed_type d.result && well_formed_expr d.body) g in
    let k = and_right (well_formed_type d.result) (well_formed_expr d.body) h in
    leb-true (expr_depth d.body) 64 (and_right (formed_expr d.body) (nat_le (expr_depth d.body) 64) k)

bodies_full : (code : Program) {k : ℕ} {ds gs : List Fun} → BodiesFill code k ds gs → list_all (λ f. has_types f.body) ds ≡ true → gs ≡ ds
bodies_full code no_bodies h = refl
bodies_full code {k = k} (and_body {d = d} {g = g} {ds = ds} b bs) h =
    let e : g.body ≡ d.body = becomes_full code k b.body (and_left (has_types d.body) (list_all (λ f. has_types f.body) ds) h) in
    let s : g ≡ d = b.rest ∙ ap (λ z. record d { body = z }) e in
    let r = bodies_full code bs (and_right (has_types d.body) (list_all (λ f. has_types f.body) ds) h) in
    cc

-- where no type is missing, nothing is filled in
pub fills_full : (code p : Program) → ProgramHasTypes code → Fills code p → p ≡ code
unfolding program_has_types
fills_full code p h f =
    let bodies = bodies_of code 0 code.funs p.funs f.count (λ k d g a b. subst (λ j. FunFills code j d g) (sym (zero_plus k)) (f.funs k d g a b)) in
    let same = bodies_full code bodies h in
    λ i. record { svcs = f.svcs i; exns = f.exns i; funs = same i }
