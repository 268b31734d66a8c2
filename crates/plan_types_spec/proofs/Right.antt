-- What the checking answers is what the draft becomes by the rules.
use Rattle.std.proofs.Common.{◌≡◌, ℕ, zero, suc, ◌+◌, ◌<◌, ◌≤◌, ◌∙◌, sym, ap, refl, subst, Bool, true, false, not, ◌||◌, List, [], ◌∷◌, ◌++◌, append_assoc, add-one, length, drop, Option, Some, None, arith}
use Rattle.std.specs.Prelude.{Result, Ok, Err, if◌then◌else◌, option_and_then, slice_get, ◌==◌, nat_le}
use Rattle.std.specs.List.{list_any}
use Rattle.std.proofs.lemmas.List.{length-append, append-nil}
use Rattle.std.proofs.Math.ListN.{drop_of_length-le}
use Rattle.std.proofs.lemmas.Bool.{leb-true, eqb-true}
use Rattle.plan_base.specs.declared.name.Name.{Name}
use Rattle.plan_base.specs.declared.prim.Primitive.{Primitive}
use Rattle.plan_base.specs.declared.tree.Op.{Op}
use Rattle.plan_base.specs.declared.tree.Ty.{Ty}
use Rattle.plan_base.specs.declared.tree.Ty as ty
use Rattle.plan_base.specs.declared.tree.Expr.{Expr, Expr-F, out-Expr}
use Rattle.plan_base.specs.declared.tree.Expr as x
use Rattle.plan_base.specs.declared.tree.Clause.{Clause}
use Rattle.plan_base.specs.declared.tree.Svc.{Svc}
use Rattle.plan_base.specs.declared.tree.Param.{Param}
use Rattle.plan_base.specs.declared.tree.Fun.{Fun}
use Rattle.plan_base.specs.declared.tree.Program.{Program}
use Rattle.plan_types_spec.specs.declared.type_fault.TypeFault.{TypeFault}
use Rattle.plan_types_spec.specs.declared.type_fault.TypeFault.TheVariants as fault
use Rattle.plan_base.specs.declared.tree.Place.TheVariants as place
use Rattle.plan_base.specs.Trees.{ExprLayer}
use Rattle.plan_base.specs.Sizes.{type_depth}
use Rattle.plan_types_spec.specs.Typing.{Ctx, literal_type, IsShallow}
use Rattle.plan_types_spec.specs.TypingNames.{service_of, binds, binding, param_types, prim_of, takes, makes, is_exception, may_catch, OpKind, arithmetic, joining, equality, ordering, listing, kind_of, is_joined, is_ordered}
use Rattle.plan_base.specs.SameTypes.{same_type}
use Rattle.plan_types_spec.specs.TypingOrder.{Checking, Found, pure, refuse, ◌>>=◌, or_refuse, items_of, parts_of, part_in, want_at, given_of, pair_of, fun_of, earlier, not_earlier, settled_type, shallow}
use Rattle.plan_types_spec.specs.TypingOrder as order
use Rattle.plan_types_spec.specs.TypingFills.{Suits, Becomes, PartsBecome, ClausesBecome}
use Rattle.plan_types_spec.specs.TypingFills.{Becomes as B}
use Rattle.plan_types_spec.specs.TypingFills.{PartsBecome as P}
use Rattle.plan_types_spec.specs.TypingFills.{ClausesBecome as C}
use Rattle.plan_base.proofs.SameTypes.{same_type_true}
use Rattle.plan_types_spec.proofs.Steps.{Holds, Yields, then_yields, pure_yields, if_yields, known_yields}
use Rattle.plan_types_spec.proofs.Layers.{part_tuple, given_list, items_list, and_then_some}

pub wanted_suits : {want : Option Ty} {t : Ty} → want ≡ Some t → Suits want t
wanted_suits {t = t} e = subst (λ o. Suits o t) (sym e) refl

-- what a draft becomes has the wanted type
pub becomes_suits : {code : Program} {seen : ℕ} {c : Ctx} {want : Option Ty} {d e : Expr} {t : Ty} → Becomes code seen c want d e t → Suits want t
becomes_suits (B.literal h p s) = s
becomes_suits (B.variable n h b p s) = s
becomes_suits (B.empty u h q w p s) = s
becomes_suits (B.raising n h k w p s) = s
becomes_suits (B.tuple ds es ts h b q w p s) = s
becomes_suits (B.part i a a1 ts h b q p s) = s
becomes_suits (B.of_items f a a1 p u h q b o r s) = s
becomes_suits (B.primitive f ds es p ts h q w b o r s) = s
becomes_suits (B.serving f ds es v h q w b o r s) = s
becomes_suits (B.call f ds es g h q w k b o r s) = s
becomes_suits (B.both a b a1 b1 h k m o p s) = s
becomes_suits (B.either a b a1 b1 h k m o p s) = s
becomes_suits (B.negation a a1 h k o p s) = s
becomes_suits (B.calculation q a b a1 b1 h i k m o p s) = s
becomes_suits (B.join q a b a1 b1 h i k j m p s) = s
becomes_suits (B.comparison q a b a1 b1 u h i k m o p s) = s
becomes_suits (B.order q a b a1 b1 u h i k j m o p s) = s
becomes_suits (B.prefix q a b a1 b1 u h i k m o w p s) = s
becomes_suits (B.fold_left f a l a1 l1 g u h i j k m o p s) = s
becomes_suits (B.fold_right f a l a1 l1 g u h i j k m o p s) = s
becomes_suits (B.packing f ds es g h i b o p s) = s
becomes_suits (B.evaluation a a1 h k o p s) = s
becomes_suits (B.remote a h n a1 h1 n1 r i j k m o p s) = s
becomes_suits (B.neighbour a h n v a1 h1 n1 v1 i j k m q o p s) = s
becomes_suits (B.empty_filled u h q w p e) = wanted_suits e
becomes_suits (B.raising_filled n h k w p e) = wanted_suits e
becomes_suits (B.choice p a b p1 a1 b1 h i j k e) = becomes_suits j
becomes_suits (B.binder n u a b a1 b1 h i j e) = becomes_suits j
becomes_suits (B.sequence a b a1 b1 h i j e) = becomes_suits j
becomes_suits (B.handling a a1 ks ks1 h i j e) = becomes_suits i

-- a type wanted of each part is the part's type
first_of_rest : (ws : List Ty) (i : ℕ) → i < length ws → (w : Ty) × (slice_get ws i ≡ Some w) × (drop i ws ≡ w ∷ drop (suc i) ws)
first_of_rest [] i h = absurd (omega arith)
first_of_rest (w ∷ ws) zero h = (w, refl, refl)
first_of_rest (w ∷ ws) (suc i) h = let r = first_of_rest ws i (omega arith) in (r.0, r.1, r.2)

drop_all : (ws : List Ty) (i : ℕ) → length ws ≤ i → drop i ws ≡ []
drop_all ws i h = drop_of_length-le ws h

suits_some : (o : Option Ty) {w t : Ty} → o ≡ Some w → Suits o t → t ≡ w
suits_some None e s = absurd (cc)
suits_some (Some v) e s = cc

pub parts_wanted : {code : Program} {seen : ℕ} {c : Ctx} {i : ℕ} {ds es : List Expr} {ts : List Ty} (ws : List Ty) → PartsBecome code seen c (Some ws) i ds es ts → length ds + i ≡ length ws → ts ≡ drop i ws
parts_wanted {i = i} ws P.no_parts h = sym (drop_all ws i (omega arith))
parts_wanted {i = i} ws (P.and_part {ts = ts} b bs) h =
    let r = first_of_rest ws i (omega arith) in
    let e : _ ≡ r.0 = suits_some (slice_get ws i) r.1 (becomes_suits b) in
    let rest = parts_wanted ws bs (omega arith) in
    rw (e, rest, add-one) (sym r.2)

abbrev pair_list : Option (Ty × Ty) → List Ty
pair_list None = []
pair_list (Some p) = p.0 ∷ p.1 ∷ []

module _ (code : Program) (seen : ℕ) where
  abbrev pub Right : Ctx → Option Ty → Expr → Found → Type 0
  Right c want d r = Becomes code seen c want d r.0 r.1

  pub settled_right : (at : ℕ) (c : Ctx) (want : Option Ty) (d e : Expr) (t : Ty) → (Suits want t → Becomes code seen c want d e t) → Yields (Right c want d) (settled_type at want e t)
  unfolding settled_type
  settled_right at c None d e t h = pure_yields (Right c None d) (e, t) (h tt)
  settled_right at c (Some w) d e t h = if_yields (Right c (Some w) d) (same_type w t) (pure (e, t)) (refuse (fault.Mismatch (place.Node at) w t)) (λ p n. h (same_type_true w t p)) (λ p n. tt)

  pub shallow_right : (at : ℕ) (c : Ctx) (want : Option Ty) (d e : Expr) (t : Ty) → (IsShallow t → Suits want t → Becomes code seen c want d e t) → Yields (Right c want d) (shallow at want e t)
  unfolding shallow
  shallow_right at c want d e t h =
      if_yields (Right c want d) (nat_le (type_depth t) 8) (settled_type at want e t) (refuse (fault.TypeTooDeep (place.Node at))) (λ p.
      settled_right at c want d e t (h (leb-true (type_depth t) 8 p))) (λ p n. tt)

  pub map_holds : {A : Type 0} (Q R : A → Type 0) → ((a : A) → Q a → R a) → (r : Result (A × ℕ) TypeFault) → Holds Q r → Holds R r
  map_holds Q R f (Ok r) h = f r.0 h
  map_holds Q R f (Err e) h = tt

  -- what one argument of any list type becomes
  one_item : (c : Ctx) (want : Option Ty) (d : Expr) (f : Name) (p : Primitive) (ds es : List Expr) (ts : List Ty) (t : Ty) → out-Expr d ≡ Expr-F.Call f ds → prim_of f ≡ Some p
      → PartsBecome code seen c None 0 ds es ts → given_of p ts ≡ Some t → Suits want t → Becomes code seen c want d (x.Call f es) t
  one_item c want d f p ds es ts t o q P.no_parts g s = absurd (cc)
  one_item c want d f p ds es ts t o q (P.and_part {d = a} {e = e} {t = u} b P.no_parts) g s =
      let w = given_list p u t g in
      B.of_items f a e p w.0 o q (subst (λ v. Becomes code seen c None a e v) w.1 b) w.2 refl s
  one_item c want d f p ds es ts t o q (P.and_part b (P.and_part b' bs)) g s = absurd (cc)

  -- clauses that each catch a known exception or any
  known_first : (k : Clause) (ks : List Clause) → list_any (λ k. not (may_catch code k.name)) (k ∷ ks) ≡ false → (may_catch code k.name ≡ true) × (list_any (λ k. not (may_catch code k.name)) ks ≡ false)
  known_first k ks h = go (may_catch code k.name) h
    where
      go : (b : Bool) → (not b || list_any (λ k. not (may_catch code k.name)) ks) ≡ false → (b ≡ true) × (list_any (λ k. not (may_catch code k.name)) ks ≡ false)
      go true e = (refl, e)
      go false e = absurd (cc)

  pair_types : (g : Fun) (p : Ty × Ty) → pair_of g.params ≡ Some p → param_types g.params ≡ p.0 ∷ p.1 ∷ []
  pair_types g p h = go g.params h
    where
      go : (ps : List Param) → pair_of ps ≡ Some p → param_types ps ≡ p.0 ∷ p.1 ∷ []
      go [] e = absurd (cc)
      go (a ∷ []) e = absurd (cc)
      go (a ∷ b ∷ []) e = ap (λ (o : Option (Ty × Ty)). pair_list o) e
      go (a ∷ b ∷ k ∷ ks) e = absurd (cc)

  module _ (run : Ctx → Option Ty → Expr → Checking Found) (ok : (c : Ctx) (want : Option Ty) (d : Expr) → Yields (Right c want d) (run c want d)) where
    wanting_right : (c : Ctx) (t : Ty) (d : Expr) → Yields (λ e. Becomes code seen c (Some t) d e t) (order.wanting code seen run c t d)
    unfolding order.wanting
    wanting_right c t d = then_yields (Right c (Some t) d) (λ e. Becomes code seen c (Some t) d e t) (run c (Some t) d) (λ r. pure r.0) (ok c (Some t) d) (λ r h n. subst (λ u. Becomes code seen c (Some t) d r.0 u) (sym (becomes_suits h)) h)

    abbrev PartsRight : Ctx → Option (List Ty) → List Expr → List Ty → List Expr → List Expr × List Ty → Type 0
    PartsRight c wants done types ds r = (es : List Expr) × (ts : List Ty) × (r.0 ≡ done ++ es) × (r.1 ≡ types ++ ts) × PartsBecome code seen c wants (length types) ds es ts

    parts_right : (ds done : List Expr) (types : List Ty) (c : Ctx) (wants : Option (List Ty)) → Yields (PartsRight c wants done types ds) (order.parts_from code seen run done types c wants ds)
    unfolding order.parts_from
    parts_right [] done types c wants = pure_yields (PartsRight c wants done types []) (done, types) ([], [], sym (append-nil done), sym (append-nil types), P.no_parts)
    parts_right (d ∷ ds) done types c wants =
        then_yields (Right c (want_at wants (length types)) d) (PartsRight c wants done types (d ∷ ds)) (run c (want_at wants (length types)) d) (λ r. order.parts_from code seen run (done ++ r.0 ∷ []) (types ++ r.1 ∷ []) c wants ds)
        (ok c (want_at wants (length types)) d)
        (λ r h n. map_holds (PartsRight c wants (done ++ r.0 ∷ []) (types ++ r.1 ∷ []) ds) (PartsRight c wants done types (d ∷ ds))
        (λ a p. (
          r.0 ∷ p.0,
          r.1 ∷ p.1,
          p.2 ∙ append_assoc done (r.0 ∷ []) p.0,
          p.3 ∙ append_assoc types (r.1 ∷ []) p.1,
          P.and_part h (subst (λ i. PartsBecome code seen c wants i ds p.0 p.1) (length-append types (r.1 ∷ [])) p.4),
        ))
        (order.parts_from code seen run (done ++ r.0 ∷ []) (types ++ r.1 ∷ []) c wants ds n)
        (parts_right ds (done ++ r.0 ∷ []) (types ++ r.1 ∷ []) c wants n))

    abbrev AllRight : Ctx → Option (List Ty) → List Expr → List Expr × List Ty → Type 0
    AllRight c wants ds r = PartsBecome code seen c wants 0 ds r.0 r.1

    all_right : (ds : List Expr) (c : Ctx) (wants : Option (List Ty)) → Yields (AllRight c wants ds) (order.parts code seen run c wants ds)
    all_right ds c wants n = map_holds (PartsRight c wants [] [] ds) (AllRight c wants ds)
        (λ a p. subst (λ es. PartsBecome code seen c wants 0 ds es a.1) (sym p.2) (subst (λ ts. PartsBecome code seen c wants 0 ds p.0 ts) (sym p.3) p.4))
        (order.parts code seen run c wants ds n) (parts_right ds [] [] c wants n)

    arguments_right : (c : Ctx) (at : ℕ) (ws : List Ty) (ds : List Expr) → Yields (λ es. PartsBecome code seen c (Some ws) 0 ds es ws) (order.arguments code seen run c at ws ds)
    unfolding order.arguments
    arguments_right c at ws ds =
        if_yields (λ es. PartsBecome code seen c (Some ws) 0 ds es ws) (length ds == length ws) (order.parts code seen run c (Some ws) ds >>= (λ r. pure r.0)) (refuse (fault.Arity (place.Node at)))
        (λ p. then_yields (AllRight c (Some ws) ds) (λ es. PartsBecome code seen c (Some ws) 0 ds es ws) (order.parts code seen run c (Some ws) ds) (λ r. pure r.0) (all_right ds c (Some ws))
        (λ r h n. let e = eqb-true (length ds) (length ws) p in subst (λ ts. PartsBecome code seen c (Some ws) 0 ds r.0 ts) (parts_wanted ws h (omega arith)) h))
        (λ p n. tt)

    applied_right : (c : Ctx) (at : ℕ) (want : Option Ty) (d : Expr) (f : Name) (ds : List Expr) (ws : List Ty) (t : Ty)
        → ((es : List Expr) → PartsBecome code seen c (Some ws) 0 ds es ws → Suits want t → Becomes code seen c want d (x.Call f es) t)
        → Yields (Right c want d) (order.applied_call code seen run c at want f ds ws t)
    unfolding order.applied_call
    applied_right c at want d f ds ws t h =
        then_yields (λ es. PartsBecome code seen c (Some ws) 0 ds es ws) (Right c want d) (order.arguments code seen run c at ws ds) (λ given. settled_type at want (x.Call f given) t) (arguments_right c at ws ds)
        (λ es b. settled_right at c want d (x.Call f es) t (λ s. h es b s))

    variable_right : (c : Ctx) (at : ℕ) (want : Option Ty) (d : Expr) (n : Name) → out-Expr d ≡ Expr-F.Var n → Yields (Right c want d) (order.variable c at want d n)
    unfolding order.variable
    variable_right c at want d n o = known_yields (Right c want d) (binding n c) (fault.UnknownName (place.Node at)) (λ t. settled_type at want d t) (λ t p. settled_right at c want d d t (λ s. B.variable n o p refl s))

    tuple_right : (c : Ctx) (at : ℕ) (want : Option Ty) (d : Expr) (ds : List Expr) → out-Expr d ≡ Expr-F.Tuple ds → Yields (Right c want d) (order.tuple code seen run c at want ds)
    unfolding order.tuple
    tuple_right c at want d ds o =
        let wants = option_and_then (parts_of (length ds)) want in
        then_yields (AllRight c wants ds) (Right c want d) (order.parts code seen run c wants ds) (λ r. shallow at want (x.Tuple r.0) (ty.Tuple r.1)) (all_right ds c wants)
        (λ r h. shallow_right at c want d (x.Tuple r.0) (ty.Tuple r.1) (λ w s. B.tuple ds r.0 r.1 o h refl w refl s))

    part_right : (c : Ctx) (at : ℕ) (want : Option Ty) (d : Expr) (i : ℕ) (a : Expr) → out-Expr d ≡ Expr-F.Part i a → Yields (Right c want d) (order.part code seen run c at want i a)
    unfolding order.part
    part_right c at want d i a o =
        then_yields (Right c None a) (Right c want d) (run c None a) (λ r. or_refuse (part_in i r.1) (fault.WrongShape (place.Node at)) >>= (λ t. settled_type at want (x.Part i r.0) t)) (ok c None a)
        (λ r h. known_yields (Right c want d) (part_in i r.1) (fault.WrongShape (place.Node at)) (λ t. settled_type at want (x.Part i r.0) t)
        (λ t p. let w = part_tuple i r.1 t p in
        settled_right at c want d (x.Part i r.0) t (λ s. B.part i a r.0 w.0 o (subst (λ u. Becomes code seen c None a r.0 u) w.1 h) w.2 refl s)))

    of_items_right : (c : Ctx) (at : ℕ) (want : Option Ty) (d : Expr) (f : Name) (p : Primitive) (ds : List Expr) → out-Expr d ≡ Expr-F.Call f ds → prim_of f ≡ Some p → Yields (Right c want d) (order.of_items code seen run c at want f p ds)
    unfolding order.of_items
    of_items_right c at want d f p ds o q =
        if_yields (Right c want d) (length ds == 1)
        (order.parts code seen run c None ds >>=
        (λ r. or_refuse (given_of p r.1) (fault.WrongShape (place.Node at)) >>= (λ t. settled_type at want (x.Call f r.0) t))) (refuse (fault.Arity (place.Node at)))
        (λ w.
        then_yields (AllRight c None ds) (Right c want d) (order.parts code seen run c None ds) (λ r.
        or_refuse (given_of p r.1) (fault.WrongShape (place.Node at)) >>= (λ t. settled_type at want (x.Call f r.0) t)) (all_right ds c None)
        (λ r h. known_yields (Right c want d) (given_of p r.1) (fault.WrongShape (place.Node at)) (λ t. settled_type at want (x.Call f r.0) t)
        (λ t g. settled_right at c want d (x.Call f r.0) t (λ s. one_item c want d f p ds r.0 r.1 t o q h g s))))
        (λ w n. tt)

    primitive_right : (c : Ctx) (at : ℕ) (want : Option Ty) (d : Expr) (f : Name) (p : Primitive) (ds : List Expr) → out-Expr d ≡ Expr-F.Call f ds → prim_of f ≡ Some p
        → Yields (Right c want d) (order.primitive code seen run c at want f p ds)
    unfolding order.primitive
    primitive_right c at want d f p ds o q = go (takes p) refl
      where
        go : (k : Option (List Ty)) → takes p ≡ k → Yields (Right c want d) (order.primitive_by code seen run c at want f p ds k)
        go (Some ts) e = applied_right c at want d f ds ts (makes p) (λ es b s. B.primitive f ds es p ts o q e b refl refl s)
        go None e = of_items_right c at want d f p ds o q

    function_right : (c : Ctx) (at : ℕ) (want : Option Ty) (d : Expr) (f : Name) (ds : List Expr) → out-Expr d ≡ Expr-F.Call f ds → prim_of f ≡ None → service_of f code.svcs ≡ None
        → Yields (Right c want d) (order.function code seen run c at want f ds)
    unfolding order.function
    function_right c at want d f ds o q v =
        known_yields (Right c want d) (earlier code seen f) (not_earlier code f at) (λ g. order.applied_call code seen run c at want f ds (param_types g.params) g.result)
        (λ g e. applied_right c at want d f ds (param_types g.params) g.result (λ es b s. B.call f ds es g o q v e b refl refl s))

    call_right : (c : Ctx) (at : ℕ) (want : Option Ty) (d : Expr) (f : Name) (ds : List Expr) → out-Expr d ≡ Expr-F.Call f ds → Yields (Right c want d) (order.call code seen run c at want f ds)
    unfolding order.call
    call_right c at want d f ds o = prims (prim_of f) refl
      where
        services : prim_of f ≡ None → (k : Option Svc) → service_of f code.svcs ≡ k → Yields (Right c want d) (order.service_or code seen run c at want f ds k)
        services q (Some v) e = applied_right c at want d f ds v.params v.result (λ es b s. B.serving f ds es v o q e b refl refl s)
        services q None e = function_right c at want d f ds o q e

        prims : (k : Option Primitive) → prim_of f ≡ k → Yields (Right c want d) (order.primitive_or code seen run c at want f ds k)
        prims (Some p) e = primitive_right c at want d f p ds o e
        prims None e = services e (service_of f code.svcs) refl

    choice_right : (c : Ctx) (want : Option Ty) (d a b k : Expr) → out-Expr d ≡ Expr-F.If a b k → Yields (Right c want d) (order.choice code seen run c want a b k)
    unfolding order.choice
    choice_right c want d a b k o =
        then_yields (λ e. Becomes code seen c (Some ty.Bool) a e ty.Bool) (Right c want d) (order.wanting code seen run c ty.Bool a) (λ test.
        run c want b >>= (λ r. order.wanting code seen run c r.1 k >>= (λ other. pure (x.If test r.0 other, r.1)))) (wanting_right c ty.Bool a)
        (λ test p. then_yields (Right c want b) (Right c want d) (run c want b) (λ r. order.wanting code seen run c r.1 k >>= (λ other. pure (x.If test r.0 other, r.1))) (ok c want b)
        (λ r q. then_yields (λ e. Becomes code seen c (Some r.1) k e r.1) (Right c want d) (order.wanting code seen run c r.1 k) (λ other. pure (x.If test r.0 other, r.1)) (wanting_right c r.1 k)
        (λ other s n. B.choice a b k test r.0 other o p q s refl)))

    binder_right : (c : Ctx) (want : Option Ty) (d : Expr) (v : Name) (u : Ty) (a b : Expr) → out-Expr d ≡ Expr-F.Let v u a b → Yields (Right c want d) (order.binder code seen run c want v u a b)
    unfolding order.binder
    binder_right c want d v u a b o =
        then_yields (λ e. Becomes code seen c (Some u) a e u) (Right c want d) (order.wanting code seen run c u a) (λ bound. run (c ++ binds v u ∷ []) want b >>= (λ r. pure (x.Let v u bound r.0, r.1))) (wanting_right c u a)
        (λ bound p. then_yields (Right (c ++ binds v u ∷ []) want b) (Right c want d) (run (c ++ binds v u ∷ []) want b) (λ r. pure (x.Let v u bound r.0, r.1)) (ok (c ++ binds v u ∷ []) want b)
        (λ r q n. B.binder v u a b bound r.0 o p q refl))

    sequence_right : (c : Ctx) (want : Option Ty) (d a b : Expr) → out-Expr d ≡ Expr-F.Then a b → Yields (Right c want d) (order.sequence code seen run c want a b)
    unfolding order.sequence
    sequence_right c want d a b o =
        then_yields (λ e. Becomes code seen c (Some ty.Unit) a e ty.Unit) (Right c want d) (order.wanting code seen run c ty.Unit a) (λ first. run c want b >>= (λ r. pure (x.Then first r.0, r.1))) (wanting_right c ty.Unit a)
        (λ first p. then_yields (Right c want b) (Right c want d) (run c want b) (λ r. pure (x.Then first r.0, r.1)) (ok c want b)
        (λ r q n. B.sequence a b first r.0 o p q refl))

    -- two parts of which types are wanted, and then an answer of one's own
    two_right : (c : Ctx) (at : ℕ) (want : Option Ty) (d a b : Expr) (u v t : Ty) (whole : Expr → Expr → Expr)
        → ((p q : Expr) → Becomes code seen c (Some u) a p u → Becomes code seen c (Some v) b q v → Suits want t → Becomes code seen c want d (whole p q) t)
        → Yields (Right c want d) (order.wanting code seen run c u a >>= (λ p. order.wanting code seen run c v b >>= (λ q. settled_type at want (whole p q) t)))
    two_right c at want d a b u v t whole f =
        then_yields (λ e. Becomes code seen c (Some u) a e u) (Right c want d) (order.wanting code seen run c u a) (λ p. order.wanting code seen run c v b >>= (λ q. settled_type at want (whole p q) t)) (wanting_right c u a)
        (λ p h. then_yields (λ e. Becomes code seen c (Some v) b e v) (Right c want d) (order.wanting code seen run c v b) (λ q. settled_type at want (whole p q) t) (wanting_right c v b)
        (λ q k. settled_right at c want d (whole p q) t (λ s. f p q h k s)))

    both_right : (c : Ctx) (at : ℕ) (want : Option Ty) (d a b : Expr) → out-Expr d ≡ Expr-F.And a b → Yields (Right c want d) (order.both code seen run c at want a b)
    unfolding order.both
    both_right c at want d a b o = two_right c at want d a b ty.Bool ty.Bool ty.Bool (λ p q. x.And p q) (λ p q h k s. B.both a b p q o h k refl refl s)

    either_right : (c : Ctx) (at : ℕ) (want : Option Ty) (d a b : Expr) → out-Expr d ≡ Expr-F.Or a b → Yields (Right c want d) (order.either code seen run c at want a b)
    unfolding order.either
    either_right c at want d a b o = two_right c at want d a b ty.Bool ty.Bool ty.Bool (λ p q. x.Or p q) (λ p q h k s. B.either a b p q o h k refl refl s)

    negation_right : (c : Ctx) (at : ℕ) (want : Option Ty) (d a : Expr) → out-Expr d ≡ Expr-F.Not a → Yields (Right c want d) (order.negation code seen run c at want a)
    unfolding order.negation
    negation_right c at want d a o =
        then_yields (λ e. Becomes code seen c (Some ty.Bool) a e ty.Bool) (Right c want d) (order.wanting code seen run c ty.Bool a) (λ p. settled_type at want (x.Not p) ty.Bool) (wanting_right c ty.Bool a)
        (λ p h. settled_right at c want d (x.Not p) ty.Bool (λ s. B.negation a p o h refl refl s))

    calculation_right : (c : Ctx) (at : ℕ) (want : Option Ty) (d : Expr) (v : Op) (a b : Expr) → out-Expr d ≡ Expr-F.Binary v a b → kind_of v ≡ arithmetic → Yields (Right c want d) (order.calculation code seen run c at want v a b)
    unfolding order.calculation
    calculation_right c at want d v a b o g = two_right c at want d a b ty.Int ty.Int ty.Int (λ p q. x.Binary v p q) (λ p q h k s. B.calculation v a b p q o g h k refl refl s)

    -- the right operand, of which the left one's type is wanted, and then an answer of one's own
    second_right : (c : Ctx) (at : ℕ) (want : Option Ty) (d b : Expr) (v t : Ty) (whole : Expr → Expr)
        → ((q : Expr) → Becomes code seen c (Some v) b q v → Suits want t → Becomes code seen c want d (whole q) t)
        → Yields (Right c want d) (order.wanting code seen run c v b >>= (λ q. settled_type at want (whole q) t))
    second_right c at want d b v t whole f =
        then_yields (λ e. Becomes code seen c (Some v) b e v) (Right c want d) (order.wanting code seen run c v b) (λ q. settled_type at want (whole q) t) (wanting_right c v b)
        (λ q k. settled_right at c want d (whole q) t (λ s. f q k s))

    join_right : (c : Ctx) (at : ℕ) (want : Option Ty) (d : Expr) (v : Op) (a b : Expr) → out-Expr d ≡ Expr-F.Binary v a b → kind_of v ≡ joining → Yields (Right c want d) (order.join code seen run c at want v a b)
    unfolding order.join
    join_right c at want d v a b o g =
        then_yields (Right c None a) (Right c want d) (run c None a) (λ r.
        if is_joined r.1 then order.wanting code seen run c r.1 b >>= (λ q. settled_type at want (x.Binary v r.0 q) r.1) else refuse (fault.WrongShape (place.Node at))) (ok c None a)
        (λ r h. if_yields (Right c want d) (is_joined r.1) (order.wanting code seen run c r.1 b >>= (λ q. settled_type at want (x.Binary v r.0 q) r.1)) (refuse (fault.WrongShape (place.Node at)))
        (λ j. second_right c at want d b r.1 r.1 (λ q. x.Binary v r.0 q) (λ q k s. B.join v a b r.0 q o g h j k refl s)) (λ j n. tt))

    comparison_right : (c : Ctx) (at : ℕ) (want : Option Ty) (d : Expr) (v : Op) (a b : Expr) → out-Expr d ≡ Expr-F.Binary v a b → kind_of v ≡ equality → Yields (Right c want d) (order.comparison code seen run c at want v a b)
    unfolding order.comparison
    comparison_right c at want d v a b o g =
        then_yields (Right c None a) (Right c want d) (run c None a) (λ r. order.wanting code seen run c r.1 b >>= (λ q. settled_type at want (x.Binary v r.0 q) ty.Bool)) (ok c None a)
        (λ r h. second_right c at want d b r.1 ty.Bool (λ q. x.Binary v r.0 q) (λ q k s. B.comparison v a b r.0 q r.1 o g h k refl refl s))

    order_right : (c : Ctx) (at : ℕ) (want : Option Ty) (d : Expr) (v : Op) (a b : Expr) → out-Expr d ≡ Expr-F.Binary v a b → kind_of v ≡ ordering → Yields (Right c want d) (order.order code seen run c at want v a b)
    unfolding order.order
    order_right c at want d v a b o g =
        then_yields (Right c None a) (Right c want d) (run c None a) (λ r.
        if is_ordered r.1 then order.wanting code seen run c r.1 b >>= (λ q. settled_type at want (x.Binary v r.0 q) ty.Bool) else refuse (fault.WrongShape (place.Node at))) (ok c None a)
        (λ r h. if_yields (Right c want d) (is_ordered r.1) (order.wanting code seen run c r.1 b >>= (λ q. settled_type at want (x.Binary v r.0 q) ty.Bool)) (refuse (fault.WrongShape (place.Node at)))
        (λ j. second_right c at want d b r.1 ty.Bool (λ q. x.Binary v r.0 q) (λ q k s. B.order v a b r.0 q r.1 o g h j k refl refl s)) (λ j n. tt))

    prefix_right : (c : Ctx) (at : ℕ) (want : Option Ty) (d : Expr) (v : Op) (a b : Expr) → out-Expr d ≡ Expr-F.Binary v a b → kind_of v ≡ listing → Yields (Right c want d) (order.prefix code seen run c at want v a b)
    unfolding order.prefix
    prefix_right c at want d v a b o g =
        then_yields (Right c (option_and_then items_of want) a) (Right c want d) (run c (option_and_then items_of want) a) (λ r.
        order.wanting code seen run c (ty.List r.1) b >>= (λ q. shallow at want (x.Binary v r.0 q) (ty.List r.1))) (ok c (option_and_then items_of want) a)
        (λ r h.
        then_yields (λ e.
        Becomes code seen c (Some (ty.List r.1)) b e (ty.List r.1)) (Right c want d) (order.wanting code seen run c (ty.List r.1) b) (λ q. shallow at want (x.Binary v r.0 q)
        (ty.List r.1)) (wanting_right c (ty.List r.1) b)
        (λ q k. shallow_right at c want d (x.Binary v r.0 q) (ty.List r.1) (λ w s. B.prefix v a b r.0 q r.1 o g h k refl w refl s)))

    operation_right : (c : Ctx) (at : ℕ) (want : Option Ty) (d : Expr) (v : Op) (a b : Expr) → out-Expr d ≡ Expr-F.Binary v a b → Yields (Right c want d) (order.operation code seen run c at want v a b)
    unfolding order.operation
    operation_right c at want d v a b o = go (kind_of v) refl
      where
        go : (k : OpKind) → kind_of v ≡ k → Yields (Right c want d) (order.operation_by code seen run c at want v a b k)
        go arithmetic g = calculation_right c at want d v a b o g
        go joining g = join_right c at want d v a b o g
        go equality g = comparison_right c at want d v a b o g
        go ordering g = order_right c at want d v a b o g
        go listing g = prefix_right c at want d v a b o g

    empty_right : (c : Ctx) (at : ℕ) (want : Option Ty) (d : Expr) (u : Option Ty) → out-Expr d ≡ Expr-F.Nil u → Yields (Right c want d) (order.empty at want d u)
    unfolding order.empty
    empty_right c at want d (Some u) o = shallow_right at c want d d (ty.List u) (λ w s. B.empty u o refl w refl s)
    empty_right c at want d None o =
        known_yields (Right c want d) (option_and_then items_of want) (fault.NeedsType (place.Node at)) (λ u. shallow at want (x.Nil (Some u)) (ty.List u))
        (λ u e. shallow_right at c want d (x.Nil (Some u)) (ty.List u) (λ w s. let k = and_then_some items_of want u e in B.empty_filled u o refl w refl (k.1 ∙ ap Some (items_list k.0 u k.2))))

    raising_right : (c : Ctx) (at : ℕ) (want : Option Ty) (d : Expr) (v : Name) (t : Option Ty) → out-Expr d ≡ Expr-F.Raise v t → Yields (Right c want d) (order.raising code at want d v t)
    unfolding order.raising
    raising_right c at want d v (Some t) o =
        if_yields (Right c want d) (is_exception code v) (shallow at want d t) (refuse (fault.UnknownName (place.Node at)))
        (λ k. shallow_right at c want d d t (λ w s. B.raising v o k w refl s)) (λ k n. tt)
    raising_right c at want d v None o =
        if_yields (Right c want d) (is_exception code v) (or_refuse want (fault.NeedsType (place.Node at)) >>= (λ t. shallow at want (x.Raise v (Some t)) t)) (refuse (fault.UnknownName (place.Node at)))
        (λ k. known_yields (Right c want d) want (fault.NeedsType (place.Node at)) (λ t. shallow at want (x.Raise v (Some t)) t)
        (λ t e. shallow_right at c want d (x.Raise v (Some t)) t (λ w s. B.raising_filled v o k w refl e)))
        (λ k n. tt)

    abbrev ClausesRight : Ctx → Ty → List Clause → List Clause → List Clause → Type 0
    ClausesRight c t done ks r = (hs : List Clause) × (r ≡ done ++ hs) × ClausesBecome code seen c t ks hs

    clauses_right : (ks done : List Clause) (c : Ctx) (t : Ty) → list_any (λ k. not (may_catch code k.name)) ks ≡ false → Yields (ClausesRight c t done ks) (order.clauses_from code seen run done c t ks)
    unfolding order.clauses_from
    clauses_right [] done c t h = pure_yields (ClausesRight c t done []) done ([], sym (append-nil done), C.no_clauses)
    clauses_right (k ∷ ks) done c t h =
        let w = known_first k ks h in
        then_yields (λ e. Becomes code seen c (Some t) k.body e t) (ClausesRight c t done (k ∷ ks)) (order.wanting code seen run c t k.body) (λ b.
        order.clauses_from code seen run (done ++ record { name = k.name; body = b } ∷ []) c t ks) (wanting_right c t k.body)
        (λ b p n. map_holds (ClausesRight c t (done ++ record { name = k.name; body = b } ∷ []) ks) (ClausesRight c t done (k ∷ ks))
        (λ a q. (record { name = k.name; body = b } ∷ q.0, q.1 ∙ append_assoc done (record { name = k.name; body = b } ∷ []) q.0, C.and_clause w.0 p refl q.2))
        (order.clauses_from code seen run (done ++ record { name = k.name; body = b } ∷ []) c t ks n)
        (clauses_right ks (done ++ record { name = k.name; body = b } ∷ []) c t w.1 n))

    handling_right : (c : Ctx) (at : ℕ) (want : Option Ty) (d a : Expr) (ks : List Clause) → out-Expr d ≡ Expr-F.Try a ks → Yields (Right c want d) (order.handling code seen run c at want a ks)
    unfolding order.handling
    handling_right c at want d a ks o =
        if_yields (Right c want d) (list_any (λ k. not (may_catch code k.name)) ks) (refuse (fault.UnknownName (place.Node at)))
        (run c want a >>= (λ r. order.clauses_from code seen run [] c r.1 ks >>= (λ handlers. pure (x.Try r.0 handlers, r.1))))
        (λ h n. tt)
        (λ h. then_yields (Right c want a) (Right c want d) (run c want a) (λ r. order.clauses_from code seen run [] c r.1 ks >>= (λ handlers. pure (x.Try r.0 handlers, r.1))) (ok c want a)
        (λ r p. then_yields (ClausesRight c r.1 [] ks) (Right c want d) (order.clauses_from code seen run [] c r.1 ks) (λ handlers. pure (x.Try r.0 handlers, r.1)) (clauses_right ks [] c r.1 h)
        (λ hs q n. B.handling a r.0 ks hs o p (subst (λ z. ClausesBecome code seen c r.1 ks z) (sym q.1) q.2) refl)))

    abbrev FoldRight : Name → Ty × Ty × Ty → Type 0
    FoldRight f p = (g : Fun) × (earlier code seen f ≡ Some g) × (param_types g.params ≡ p.0 ∷ p.1 ∷ []) × (g.result ≡ p.2)

    folding_right : (at : ℕ) (f : Name) → Yields (FoldRight f) (order.folding code seen run at f)
    unfolding order.folding
    folding_right at f =
        known_yields (FoldRight f) (earlier code seen f) (not_earlier code f at) (λ g. or_refuse (pair_of g.params) (fault.Arity (place.Node at)) >>= (λ p. pure (p.0, p.1, g.result)))
        (λ g e. known_yields (FoldRight f) (pair_of g.params) (fault.Arity (place.Node at)) (λ p. pure (p.0, p.1, g.result))
        (λ p q n. (g, e, pair_types g p q, refl)))

    fold_left_right : (c : Ctx) (at : ℕ) (want : Option Ty) (d : Expr) (f : Name) (a l : Expr) → out-Expr d ≡ Expr-F.Foldl f a l → Yields (Right c want d) (order.fold_left code seen run c at want f a l)
    unfolding order.fold_left
    fold_left_right c at want d f a l o =
        then_yields (FoldRight f) (Right c want d) (order.folding code seen run at f) (λ g.
        order.wanting code seen run c g.0 a
        >>= (λ start.
        order.wanting code seen run c (ty.List g.1) l
        >>= (λ items. if same_type g.2 g.0 then settled_type at want (x.Foldl f start items) g.0 else refuse (fault.WrongShape (place.Node at))))) (folding_right at f)
        (λ g w.
        then_yields (λ e. Becomes code seen c (Some g.0) a e g.0) (Right c want d) (order.wanting code seen run c g.0 a) (λ start.
        order.wanting code seen run c (ty.List g.1) l
        >>= (λ items. if same_type g.2 g.0 then settled_type at want (x.Foldl f start items) g.0 else refuse (fault.WrongShape (place.Node at)))) (wanting_right c g.0 a)
        (λ start p.
        then_yields (λ e. Becomes code seen c (Some (ty.List g.1)) l e (ty.List g.1)) (Right c want d) (order.wanting code seen run c (ty.List g.1) l) (λ items.
        if same_type g.2 g.0 then settled_type at want (x.Foldl f start items) g.0 else refuse (fault.WrongShape (place.Node at))) (wanting_right c (ty.List g.1) l)
        (λ items q. if_yields (Right c want d) (same_type g.2 g.0) (settled_type at want (x.Foldl f start items) g.0) (refuse (fault.WrongShape (place.Node at)))
        (λ e. settled_right at c want d (x.Foldl f start items) g.0 (λ s. B.fold_left f a l start items w.0 g.1 o w.1 w.2 (w.3 ∙ same_type_true g.2 g.0 e) p q refl s)) (λ e n. tt))))

    fold_right_right : (c : Ctx) (at : ℕ) (want : Option Ty) (d : Expr) (f : Name) (a l : Expr) → out-Expr d ≡ Expr-F.Foldr f a l → Yields (Right c want d) (order.fold_right code seen run c at want f a l)
    unfolding order.fold_right
    fold_right_right c at want d f a l o =
        then_yields (FoldRight f) (Right c want d) (order.folding code seen run at f) (λ g.
        order.wanting code seen run c g.1 a
        >>= (λ start.
        order.wanting code seen run c (ty.List g.0) l
        >>= (λ items. if same_type g.2 g.1 then settled_type at want (x.Foldr f start items) g.1 else refuse (fault.WrongShape (place.Node at))))) (folding_right at f)
        (λ g w.
        then_yields (λ e. Becomes code seen c (Some g.1) a e g.1) (Right c want d) (order.wanting code seen run c g.1 a) (λ start.
        order.wanting code seen run c (ty.List g.0) l
        >>= (λ items. if same_type g.2 g.1 then settled_type at want (x.Foldr f start items) g.1 else refuse (fault.WrongShape (place.Node at)))) (wanting_right c g.1 a)
        (λ start p.
        then_yields (λ e. Becomes code seen c (Some (ty.List g.0)) l e (ty.List g.0)) (Right c want d) (order.wanting code seen run c (ty.List g.0) l) (λ items.
        if same_type g.2 g.1 then settled_type at want (x.Foldr f start items) g.1 else refuse (fault.WrongShape (place.Node at))) (wanting_right c (ty.List g.0) l)
        (λ items q. if_yields (Right c want d) (same_type g.2 g.1) (settled_type at want (x.Foldr f start items) g.1) (refuse (fault.WrongShape (place.Node at)))
        (λ e. settled_right at c want d (x.Foldr f start items) g.1 (λ s. B.fold_right f a l start items w.0 g.0 o w.1 w.2 (w.3 ∙ same_type_true g.2 g.1 e) p q refl s)) (λ e n. tt))))

    packing_right : (c : Ctx) (at : ℕ) (want : Option Ty) (d : Expr) (f : Name) (ds : List Expr) → out-Expr d ≡ Expr-F.ChunkOf f ds → Yields (Right c want d) (order.packing code seen run c at want f ds)
    unfolding order.packing
    packing_right c at want d f ds o =
        known_yields (Right c want d) (fun_of code f) (fault.UnknownName (place.Node at)) (λ g. order.arguments code seen run c at (param_types g.params) ds >>= (λ given. settled_type at want (x.ChunkOf f given) ty.Chunk))
        (λ g e.
        then_yields (λ es.
        PartsBecome code seen c (Some (param_types g.params)) 0 ds es (param_types g.params)) (Right c want d) (order.arguments code seen run c at (param_types g.params) ds) (λ given. settled_type
        at want (x.ChunkOf f given) ty.Chunk) (arguments_right c at (param_types g.params) ds)
        (λ es b. settled_right at c want d (x.ChunkOf f es) ty.Chunk (λ s. B.packing f ds es g o e b refl refl s)))

    evaluation_right : (c : Ctx) (at : ℕ) (want : Option Ty) (d a : Expr) → out-Expr d ≡ Expr-F.Eval a → Yields (Right c want d) (order.evaluation code seen run c at want a)
    unfolding order.evaluation
    evaluation_right c at want d a o =
        then_yields (λ e. Becomes code seen c (Some ty.Chunk) a e ty.Chunk) (Right c want d) (order.wanting code seen run c ty.Chunk a) (λ p. settled_type at want (x.Eval p) ty.Unit) (wanting_right c ty.Chunk a)
        (λ p h. settled_right at c want d (x.Eval p) ty.Unit (λ s. B.evaluation a p o h refl refl s))

    remote_right : (c : Ctx) (at : ℕ) (want : Option Ty) (d a h n : Expr) (r : Name) → out-Expr d ≡ Expr-F.OnRemote a h n r → Yields (Right c want d) (order.remote code seen run c at want a h n r)
    unfolding order.remote
    remote_right c at want d a h n r o =
        then_yields (λ e. Becomes code seen c (Some ty.Chunk) a e ty.Chunk) (Right c want d) (order.wanting code seen run c ty.Chunk a) (λ p.
        order.wanting code seen run c ty.Host h >>= (λ q. order.wanting code seen run c ty.Int n >>= (λ s. settled_type at want (x.OnRemote p q s r) ty.Unit))) (wanting_right c ty.Chunk a)
        (λ p i. two_right c at want d h n ty.Host ty.Int ty.Unit (λ q s. x.OnRemote p q s r) (λ q s j k w. B.remote a h n p q s r o i j k refl refl w))

    neighbour_right : (c : Ctx) (at : ℕ) (want : Option Ty) (d a h n v : Expr) → out-Expr d ≡ Expr-F.OnNeighbor a h n v → Yields (Right c want d) (order.neighbour code seen run c at want a h n v)
    unfolding order.neighbour
    neighbour_right c at want d a h n v o =
        then_yields (λ e. Becomes code seen c (Some ty.Chunk) a e ty.Chunk) (Right c want d) (order.wanting code seen run c ty.Chunk a) (λ p.
        order.wanting code seen run c ty.Host h
        >>= (λ q.
        order.wanting code seen run c ty.Int n >>= (λ s. order.wanting code seen run c ty.Dev v >>= (λ u. settled_type at want (x.OnNeighbor p q s u) ty.Unit)))) (wanting_right c ty.Chunk a)
        (λ p i.
        then_yields (λ e. Becomes code seen c (Some ty.Host) h e ty.Host) (Right c want d) (order.wanting code seen run c ty.Host h) (λ q.
        order.wanting code seen run c ty.Int n >>= (λ s. order.wanting code seen run c ty.Dev v >>= (λ u. settled_type at want (x.OnNeighbor p q s u) ty.Unit))) (wanting_right c ty.Host h)
        (λ q j. two_right c at want d n v ty.Int ty.Dev ty.Unit (λ s u. x.OnNeighbor p q s u) (λ s u k m w. B.neighbour a h n v p q s u o i j k m refl refl w)))

    opened_right : (c : Ctx) (at : ℕ) (want : Option Ty) (d : Expr) (l : ExprLayer) → out-Expr d ≡ l → Yields (Right c want d) (order.opened_form code seen run c at want d l)
    opened_right c at want d Expr-F.Unit o = settled_right at c want d d ty.Unit (λ s. B.literal (ap literal_type o) refl s)
    opened_right c at want d (Expr-F.Bool b) o = settled_right at c want d d ty.Bool (λ s. B.literal (ap literal_type o) refl s)
    opened_right c at want d (Expr-F.Int n) o = settled_right at c want d d ty.Int (λ s. B.literal (ap literal_type o) refl s)
    opened_right c at want d (Expr-F.Char n) o = settled_right at c want d d ty.Char (λ s. B.literal (ap literal_type o) refl s)
    opened_right c at want d (Expr-F.Str w) o = settled_right at c want d d ty.Str (λ s. B.literal (ap literal_type o) refl s)
    opened_right c at want d (Expr-F.Blob b) o = settled_right at c want d d ty.Blob (λ s. B.literal (ap literal_type o) refl s)
    opened_right c at want d (Expr-F.Host h) o = settled_right at c want d d ty.Host (λ s. B.literal (ap literal_type o) refl s)
    opened_right c at want d (Expr-F.Dev v) o = settled_right at c want d d ty.Dev (λ s. B.literal (ap literal_type o) refl s)
    opened_right c at want d (Expr-F.Nil u) o = empty_right c at want d u o
    opened_right c at want d (Expr-F.Var v) o = variable_right c at want d v o
    opened_right c at want d (Expr-F.Tuple es) o = tuple_right c at want d es o
    opened_right c at want d (Expr-F.Call f es) o = call_right c at want d f es o
    opened_right c at want d (Expr-F.If a b k) o = choice_right c want d a b k o
    opened_right c at want d (Expr-F.Let v u a b) o = binder_right c want d v u a b o
    opened_right c at want d (Expr-F.Then a b) o = sequence_right c want d a b o
    opened_right c at want d (Expr-F.And a b) o = both_right c at want d a b o
    opened_right c at want d (Expr-F.Or a b) o = either_right c at want d a b o
    opened_right c at want d (Expr-F.Not a) o = negation_right c at want d a o
    opened_right c at want d (Expr-F.Binary v a b) o = operation_right c at want d v a b o
    opened_right c at want d (Expr-F.Part i a) o = part_right c at want d i a o
    opened_right c at want d (Expr-F.Raise v t) o = raising_right c at want d v t o
    opened_right c at want d (Expr-F.Try a ks) o = handling_right c at want d a ks o
    opened_right c at want d (Expr-F.Foldl f a l) o = fold_left_right c at want d f a l o
    opened_right c at want d (Expr-F.Foldr f a l) o = fold_right_right c at want d f a l o
    opened_right c at want d (Expr-F.ChunkOf f es) o = packing_right c at want d f es o
    opened_right c at want d (Expr-F.Eval a) o = evaluation_right c at want d a o
    opened_right c at want d (Expr-F.OnRemote a h n r) o = remote_right c at want d a h n r o
    opened_right c at want d (Expr-F.OnNeighbor a h n v) o = neighbour_right c at want d a h n v o

-- what the checking answers is what the draft becomes
pub checked_right : (code : Program) (depth seen : ℕ) (c : Ctx) (want : Option Ty) (d : Expr) → Yields (Right code seen c want d) (order.checked_expression code depth seen c want d)
unfolding order.checked_expression order.expression
checked_right code zero seen c want d = λ n. tt
checked_right code (suc depth) seen c want d = λ n. opened_right code seen (order.checked_expression code depth seen) (checked_right code depth seen) c n want d (out-Expr d) refl (order.next n)
