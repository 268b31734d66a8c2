-- What the rules make of a draft, the checking answers.
use Rattle.std.proofs.Common.{◌≡◌, ℕ, zero, suc, ◌+◌, ◌≤◌, ◌∙◌, sym, ap, refl, subst, Bool, true, false, not, max, List, [], ◌∷◌, ◌++◌, append_assoc, length, Option, Some, None, arith}
use Rattle.std.specs.Prelude.{Ok, if◌then◌else◌, option_and_then, ◌==◌, nat_le}
use Rattle.std.specs.List.{list_any, fold}
use Rattle.std.proofs.lemmas.List.{length-append, append-nil}
use Rattle.std.proofs.lemmas.Bool.{le-leb, eq-eqb}
use Rattle.plan_base.specs.declared.name.Name.{Name}
use Rattle.plan_base.specs.declared.prim.Primitive.{Primitive}
use Rattle.plan_base.specs.declared.tree.Op.{Op}
use Rattle.plan_base.specs.declared.tree.Ty.{Ty}
use Rattle.plan_base.specs.declared.tree.Ty as ty
use Rattle.plan_base.specs.declared.tree.Ty.TheVariants as made
use Rattle.plan_base.specs.declared.tree.Expr.{Expr, Expr-F, out-Expr}
use Rattle.plan_base.specs.declared.tree.Expr as x
use Rattle.plan_base.specs.declared.tree.Clause.{Clause}
use Rattle.plan_base.specs.declared.tree.Svc.{Svc}
use Rattle.plan_base.specs.declared.tree.Param.{Param}
use Rattle.plan_base.specs.declared.tree.Fun.{Fun}
use Rattle.plan_base.specs.declared.tree.Program.{Program}
use Rattle.plan_types_spec.specs.declared.type_fault.TypeFault.{TypeFault}
use Rattle.plan_types_spec.specs.declared.type_fault.TypeFault.TheVariants as fault
use Rattle.plan_base.specs.declared.tree.Place.TheVariants as place
use Rattle.plan_base.specs.Trees.{ExprLayer}
use Rattle.plan_base.specs.Sizes.{type_depth, expr_depth, expr_depth_level, clause_depth}
use Rattle.plan_base.proofs.SizeLaws.{expr_depth_out}
use Rattle.plan_types_spec.specs.Typing.{Ctx, literal_type, IsShallow}
use Rattle.plan_types_spec.specs.TypingNames.{service_of, binds, binding, param_types, prim_of, of_list, takes, makes, is_exception, may_catch, OpKind, arithmetic, joining, equality, ordering}
use Rattle.plan_types_spec.specs.TypingNames.{listing, kind_of, is_joined, is_ordered, part_of}
use Rattle.plan_base.specs.SameTypes.{same_type}
use Rattle.plan_types_spec.specs.TypingOrder.{Checking, Found, pure, refuse, after, ◌>>=◌, or_refuse, items_of, parts_of, part_in, want_at, given_of, pair_of, fun_of, earlier, not_earlier, settled_type, shallow}
use Rattle.plan_types_spec.specs.TypingOrder as order
use Rattle.plan_types_spec.specs.TypingFills.{Suits, Becomes, PartsBecome, ClausesBecome}
use Rattle.plan_types_spec.specs.TypingFills.{Becomes as B, PartsBecome as P, ClausesBecome as C}
use Rattle.plan_base.specs.declared.prim.Primitive.TheVariants as prim
use Rattle.plan_base.proofs.SameTypes.{same_type_of}
use Rattle.plan_types_spec.proofs.Right.{wanted_suits}

-- the checking m, begun at the number n, gives a
abbrev pub Reaches : {A : Type 0} → Checking A → A → ℕ → Type 0
Reaches m a n = (k : ℕ) × (m n ≡ Ok (a, k))

pub then_reaches : {A B : Type 0} (m : Checking A) (f : A → Checking B) (a : A) (b : B) (n : ℕ) → Reaches m a n → ((k : ℕ) → Reaches (f a) b k) → Reaches (m >>= f) b n
then_reaches m f a b n r g = let w = g r.0 in (w.0, ap (λ z. after z f) r.1 ∙ w.1)

pub known_reaches : {A B : Type 0} (o : Option A) (e : TypeFault) (f : A → Checking B) (a : A) (b : B) (n : ℕ) → o ≡ Some a → Reaches (f a) b n → Reaches (or_refuse o e >>= f) b n
known_reaches o e f a b n h r = subst (λ z. Reaches (or_refuse z e >>= f) b n) (sym h) r

pub if_reaches : {A : Type 0} (t : Bool) (m k : Checking A) (a : A) (n : ℕ) → t ≡ true → Reaches m a n → Reaches (if t then m else k) a n
if_reaches t m k a n h r = subst (λ z. Reaches (if z then m else k) a n) (sym h) r

pub else_reaches : {A : Type 0} (t : Bool) (m k : Checking A) (a : A) (n : ℕ) → t ≡ false → Reaches k a n → Reaches (if t then m else k) a n
else_reaches t m k a n h r = subst (λ z. Reaches (if z then m else k) a n) (sym h) r

pub settled_reaches : (at n : ℕ) (want : Option Ty) (e : Expr) (t : Ty) → Suits want t → Reaches (settled_type at want e t) (e, t) n
unfolding settled_type
settled_reaches at n None e t s = (n, refl)
settled_reaches at n (Some w) e t s = if_reaches (same_type w t) (pure (e, t)) (refuse (fault.Mismatch (place.Node at) w t)) (e, t) n (same_type_of w t s) (n, refl)

pub shallow_reaches : (at n : ℕ) (want : Option Ty) (e : Expr) (t : Ty) → IsShallow t → Suits want t → Reaches (shallow at want e t) (e, t) n
unfolding shallow
shallow_reaches at n want e t w s = if_reaches (nat_le (type_depth t) 8) (settled_type at want e t) (refuse (fault.TypeTooDeep (place.Node at))) (e, t) n (le-leb (type_depth t) 8 w) (settled_reaches at n want e t s)

fold_above : {X : Type 0} (f : X → ℕ) (a : ℕ) (ts : List X) → a ≤ fold (λ m t. max m (f t)) a ts
fold_above f a [] = omega arith
fold_above f a (t ∷ ts) = let h = fold_above f (max a (f t)) ts in omega arith

parts_count : {code : Program} {seen : ℕ} {c : Ctx} {wants : Option (List Ty)} {i : ℕ} {ds es : List Expr} {ts : List Ty} → PartsBecome code seen c wants i ds es ts → length ds ≡ length ts
parts_count P.no_parts = refl
parts_count (P.and_part b bs) = ap suc (parts_count bs)

none_unknown : {code : Program} {seen : ℕ} {c : Ctx} {t : Ty} {ks hs : List Clause} → ClausesBecome code seen c t ks hs → list_any (λ k. not (may_catch code k.name)) ks ≡ false
none_unknown C.no_clauses = refl
none_unknown (C.and_clause m b n bs) = rw (m, none_unknown bs) refl

pair_params : (ps : List Param) (t u : Ty) → param_types ps ≡ t ∷ u ∷ [] → pair_of ps ≡ Some (t, u)
pair_params [] t u h = absurd (cc)
pair_params (a ∷ []) t u h = absurd (cc)
pair_params (a ∷ b ∷ []) t u h = let p : a.ty ≡ t = cc in let q : b.ty ≡ u = cc in rw (p, q) refl
pair_params (a ∷ b ∷ k ∷ ks) t u h = absurd (cc)

-- what the level of an expression says of its parts' depths
level_depth : (d : Expr) (l : ExprLayer) (n : ℕ) → out-Expr d ≡ l → expr_depth d ≤ suc n → expr_depth_level expr_depth clause_depth l ≤ suc n
level_depth d l n o h = subst (λ z. expr_depth_level expr_depth clause_depth z ≤ suc n) o (rw expr_depth_out at h)

module _ (code : Program) (seen depth : ℕ) (run : Ctx → Option Ty → Expr → Checking Found)
    (go : (c : Ctx) (want : Option Ty) (d e : Expr) (t : Ty) → Becomes code seen c want d e t → expr_depth d ≤ depth → (n : ℕ) → Reaches (run c want d) (e, t) n) where
  wanting_reaches : {c : Ctx} {t : Ty} {d e : Expr} → Becomes code seen c (Some t) d e t → expr_depth d ≤ depth → (n : ℕ) → Reaches (order.wanting code seen run c t d) e n
  unfolding order.wanting
  wanting_reaches {c = c} {t = t} {d = d} {e = e} b h n = then_reaches (run c (Some t) d) (λ r. pure r.0) (e, t) e n (go _ _ _ _ _ b h n) (λ k. (k, refl))

  parts_reach : {c : Ctx} {wants : Option (List Ty)} {i : ℕ} {ds es : List Expr} {ts : List Ty} → PartsBecome code seen c wants i ds es ts → (a : ℕ) → fold (λ m d. max m (expr_depth d)) a ds ≤ depth
      → (done : List Expr) (types : List Ty) → length types ≡ i → (n : ℕ) → Reaches (order.parts_from code seen run done types c wants ds) (done ++ es, types ++ ts) n
  unfolding order.parts_from
  parts_reach P.no_parts a h done types q n = (n, rw (append-nil, append-nil) refl)
  parts_reach {c = c} {wants = wants} {i = i} (P.and_part {d = d} {e = e} {ds = ds} {es = es} {t = t} {ts = ts} b bs) a h done types q n =
      let low = fold_above expr_depth (max a (expr_depth d)) ds in
      then_reaches (run c (want_at wants (length types)) d) (λ r. order.parts_from code seen run (done ++ r.0 ∷ []) (types ++ r.1 ∷ []) c wants ds) (e, t) (done ++ e ∷ es, types ++ t ∷ ts) n
      (subst (λ j. Reaches (run c (want_at wants j) d) (e, t) n) (sym q) (go _ _ _ _ _ b (omega arith) n))
      (λ k. subst (λ z. Reaches (order.parts_from code seen run (done ++ e ∷ []) (types ++ t ∷ []) c wants ds) (z, types ++ t ∷ ts) k) (append_assoc done (e ∷ []) es)
      (subst (λ z. Reaches (order.parts_from code seen run (done ++ e ∷ []) (types ++ t ∷ []) c wants ds) ((done ++ e ∷ []) ++ es, z) k) (append_assoc types (t ∷ []) ts)
      (parts_reach bs (max a (expr_depth d)) h (done ++ e ∷ []) (types ++ t ∷ []) (length-append types (t ∷ []) ∙ ap (λ j. j + 1) q) k)))

  arguments_reach : {c : Ctx} {ws : List Ty} {ds es : List Expr} → (at : ℕ) → PartsBecome code seen c (Some ws) 0 ds es ws → fold (λ m d. max m (expr_depth d)) 0 ds ≤ depth → (n : ℕ) → Reaches (order.arguments code seen run c at ws ds) es n
  unfolding order.arguments
  arguments_reach {c = c} {ws = ws} {ds = ds} {es = es} at b h n =
      if_reaches (length ds == length ws) (order.parts code seen run c (Some ws) ds >>= (λ r. pure r.0)) (refuse (fault.Arity (place.Node at))) es n (eq-eqb (length ds) (length ws) (parts_count b))
      (then_reaches (order.parts code seen run c (Some ws) ds) (λ r. pure r.0) (es, ws) es n (parts_reach b 0 h [] [] refl n) (λ k. (k, refl)))

  applied_reaches : {c : Ctx} {ws : List Ty} {ds es : List Expr} → (at : ℕ) (want : Option Ty) (f : Name) (t : Ty) → PartsBecome code seen c (Some ws) 0 ds es ws
      → fold (λ m d. max m (expr_depth d)) 0 ds ≤ depth → Suits want t → (n : ℕ) → Reaches (order.applied_call code seen run c at want f ds ws t) (x.Call f es, t) n
  unfolding order.applied_call
  applied_reaches {c = c} {ws = ws} {ds = ds} {es = es} at want f t b h s n =
      then_reaches (order.arguments code seen run c at ws ds) (λ given. settled_type at want (x.Call f given) t) es (x.Call f es, t) n (arguments_reach at b h n) (λ k. settled_reaches at k want (x.Call f es) t s)

  clauses_reach : {c : Ctx} {t : Ty} {ks hs : List Clause} → ClausesBecome code seen c t ks hs → (a : ℕ) → fold (λ m k. max m (clause_depth k)) a ks ≤ depth → (done : List Clause) (n : ℕ)
      → Reaches (order.clauses_from code seen run done c t ks) (done ++ hs) n
  unfolding order.clauses_from
  clauses_reach C.no_clauses a h done n = (n, rw append-nil refl)
  clauses_reach {c = c} {t = t} (C.and_clause {k = k} {k' = j} {ks = ks} {ks' = hs} m b p bs) a h done n =
      let low = fold_above clause_depth (max a (clause_depth k)) ks in
      then_reaches (order.wanting code seen run c t k.body) (λ b. order.clauses_from code seen run (done ++ record { name = k.name; body = b } ∷ []) c t ks) j.body (done ++ j ∷ hs) n
      (wanting_reaches b (omega arith) n)
      (λ i. subst (λ z. Reaches (order.clauses_from code seen run (done ++ record { name = z; body = j.body } ∷ []) c t ks) (done ++ j ∷ hs) i) p
      (subst (λ z. Reaches (order.clauses_from code seen run (done ++ j ∷ []) c t ks) z i) (append_assoc done (j ∷ []) hs)
      (clauses_reach bs (max a (clause_depth k)) h (done ++ j ∷ []) i)))

  tuple_reaches : (c : Ctx) (want : Option Ty) (ds es : List Expr) (ts : List Ty) (at : ℕ) → PartsBecome code seen c (option_and_then (parts_of (length ds)) want) 0 ds es ts
      → fold (λ m d. max m (expr_depth d)) 0 ds ≤ depth → IsShallow (ty.Tuple ts) → Suits want (ty.Tuple ts) → (n : ℕ) → Reaches (order.tuple code seen run c at want ds) (x.Tuple es, ty.Tuple ts) n
  unfolding order.tuple
  tuple_reaches c want ds es ts at b h w s n =
      then_reaches (order.parts code seen run c (option_and_then (parts_of (length ds)) want)
      ds) (λ r. shallow at want (x.Tuple r.0) (ty.Tuple r.1)) (es, ts) (x.Tuple es, ty.Tuple ts) n (parts_reach b 0 h [] [] refl n) (λ k. shallow_reaches at k want (x.Tuple es) (ty.Tuple ts) w s)

  part_reaches : (c : Ctx) (want : Option Ty) (a e : Expr) (ts : List Ty) (t : Ty) (at i : ℕ) → Becomes code seen c None a e (ty.Tuple ts) → expr_depth a ≤ depth → part_of i ts ≡ Some t → Suits want t
      → (n : ℕ) → Reaches (order.part code seen run c at want i a) (x.Part i e, t) n
  unfolding order.part
  part_reaches c want a e ts t at i b h q s n =
      then_reaches (run c None a) (λ r. or_refuse (part_in i r.1) (fault.WrongShape (place.Node at)) >>= (λ t. settled_type at want (x.Part i r.0) t)) (e, ty.Tuple ts) (x.Part i e, t) n (go _ _ _ _ _ b h n)
      (λ k.
      known_reaches (part_in i (ty.Tuple ts)) (fault.WrongShape (place.Node at)) (λ t. settled_type at want (x.Part i e) t) t (x.Part i e, t) k (ap (order.part_in_layer i) (made.outs-Tuple ts) ∙ q)
      (settled_reaches at k want (x.Part i e) t s))

  of_items_reaches : (c : Ctx) (want : Option Ty) (a e : Expr) (u t : Ty) (at : ℕ) (f : Name) (p : Primitive) → Becomes code seen c None a e (ty.List u) → expr_depth a ≤ depth → of_list p u ≡ Some t
      → Suits want t → (n : ℕ) → Reaches (order.of_items code seen run c at want f p (a ∷ [])) (x.Call f (e ∷ []), t) n
  unfolding order.of_items
  of_items_reaches c want a e u t at f p b h q s n =
      then_reaches (order.parts code seen run c None (a ∷ [])) (λ r.
      or_refuse (given_of p r.1) (fault.WrongShape (place.Node at))
      >>= (λ t. settled_type at want (x.Call f r.0) t)) (e ∷ [], ty.List u ∷ []) (x.Call f (e ∷ []), t) n (parts_reach {wants = None} {i = 0} (P.and_part b P.no_parts) 0 (omega arith) [] [] refl
      n)
      (λ k.
      known_reaches (given_of p (ty.List u ∷ [])) (fault.WrongShape (place.Node at)) (λ t. settled_type at want (x.Call f (e ∷ [])) t) t (x.Call f (e ∷ []), t) k
      (ap (λ l. option_and_then (of_list p) (order.items_of_layer l)) (made.outs-List u) ∙ q) (settled_reaches at k want (x.Call f (e ∷ [])) t s))

  choice_reaches : {c : Ctx} {want : Option Ty} {p a b p' a' b' : Expr} {t : Ty} → Becomes code seen c (Some ty.Bool) p p' ty.Bool → Becomes code seen c want a a' t
      → Becomes code seen c (Some t) b b' t → expr_depth p ≤ depth → expr_depth a ≤ depth → expr_depth b ≤ depth → (n : ℕ) → Reaches (order.choice code seen run c want p a b) (x.If p' a' b', t) n
  unfolding order.choice
  choice_reaches {c = c} {want = want} {p = p} {a = a} {b = b} {p' = p'} {a' = a'} {b' = b'} {t = t} i j k u v w n =
      then_reaches (order.wanting code seen run c ty.Bool p) (λ test. run c want a >>= (λ r. order.wanting code seen run c r.1 b >>= (λ other. pure (x.If test r.0 other, r.1)))) p' (x.If p' a' b', t) n (wanting_reaches i u n)
      (λ n1. then_reaches (run c want a) (λ r. order.wanting code seen run c r.1 b >>= (λ other. pure (x.If p' r.0 other, r.1))) (a', t) (x.If p' a' b', t) n1 (go _ _ _ _ _ j v n1)
      (λ n2. then_reaches (order.wanting code seen run c t b) (λ other. pure (x.If p' a' other, t)) b' (x.If p' a' b', t) n2 (wanting_reaches k w n2) (λ n3. (n3, refl))))

  binder_reaches : {c : Ctx} {want : Option Ty} {a b a' b' : Expr} {t : Ty} (v : Name) (u : Ty) → Becomes code seen c (Some u) a a' u → Becomes code seen (c ++ binds v u ∷ []) want b b' t
      → expr_depth a ≤ depth → expr_depth b ≤ depth → (n : ℕ) → Reaches (order.binder code seen run c want v u a b) (x.Let v u a' b', t) n
  unfolding order.binder
  binder_reaches {c = c} {want = want} {a = a} {b = b} {a' = a'} {b' = b'} {t = t} v u i j p q n =
      then_reaches (order.wanting code seen run c u a) (λ bound. run (c ++ binds v u ∷ []) want b >>= (λ r. pure (x.Let v u bound r.0, r.1))) a' (x.Let v u a' b', t) n (wanting_reaches i p n)
      (λ n1. then_reaches (run (c ++ binds v u ∷ []) want b) (λ r. pure (x.Let v u a' r.0, r.1)) (b', t) (x.Let v u a' b', t) n1 (go _ _ _ _ _ j q n1) (λ n2. (n2, refl)))

  sequence_reaches : {c : Ctx} {want : Option Ty} {a b a' b' : Expr} {t : Ty} → Becomes code seen c (Some ty.Unit) a a' ty.Unit → Becomes code seen c want b b' t → expr_depth a ≤ depth
      → expr_depth b ≤ depth → (n : ℕ) → Reaches (order.sequence code seen run c want a b) (x.Then a' b', t) n
  unfolding order.sequence
  sequence_reaches {c = c} {want = want} {a = a} {b = b} {a' = a'} {b' = b'} {t = t} i j p q n =
      then_reaches (order.wanting code seen run c ty.Unit a) (λ first. run c want b >>= (λ r. pure (x.Then first r.0, r.1))) a' (x.Then a' b', t) n (wanting_reaches i p n)
      (λ n1. then_reaches (run c want b) (λ r. pure (x.Then a' r.0, r.1)) (b', t) (x.Then a' b', t) n1 (go _ _ _ _ _ j q n1) (λ n2. (n2, refl)))

  -- the last part, of which a type is wanted, and the answer that ends the form
  last_reaches : (c : Ctx) (want : Option Ty) (b b' : Expr) (v : Ty) (at : ℕ) (t : Ty) (whole : Expr → Expr) → Becomes code seen c (Some v) b b' v → expr_depth b ≤ depth → Suits want t → (n : ℕ)
      → Reaches (order.wanting code seen run c v b >>= (λ q. settled_type at want (whole q) t)) (whole b', t) n
  last_reaches c want b b' v at t whole i h s n =
      then_reaches (order.wanting code seen run c v b) (λ q. settled_type at want (whole q) t) b' (whole b', t) n (wanting_reaches i h n) (λ k. settled_reaches at k want (whole b') t s)

  two_reach : (c : Ctx) (want : Option Ty) (a b a' b' : Expr) (u v : Ty) (at : ℕ) (t : Ty) (whole : Expr → Expr → Expr) → Becomes code seen c (Some u) a a' u → Becomes code seen c (Some v) b b' v
      → expr_depth a ≤ depth → expr_depth b ≤ depth → Suits want t → (n : ℕ)
      → Reaches (order.wanting code seen run c u a >>= (λ p. order.wanting code seen run c v b >>= (λ q. settled_type at want (whole p q) t))) (whole a' b', t) n
  two_reach c want a b a' b' u v at t whole i j p q s n =
      then_reaches (order.wanting code seen run c u a) (λ p.
      order.wanting code seen run c v b >>= (λ q. settled_type at want (whole p q) t)) a' (whole a' b', t) n (wanting_reaches i p n) (λ k. last_reaches _ _ _ _ _ at t (λ q. whole a' q) j q s k)

  both_reaches : (c : Ctx) (want : Option Ty) (a b a' b' : Expr) (at : ℕ) → Becomes code seen c (Some ty.Bool) a a' ty.Bool → Becomes code seen c (Some ty.Bool) b b' ty.Bool → expr_depth a ≤ depth
      → expr_depth b ≤ depth → Suits want ty.Bool → (n : ℕ) → Reaches (order.both code seen run c at want a b) (x.And a' b', ty.Bool) n
  unfolding order.both
  both_reaches _ _ _ _ _ _ at i j p q s n = two_reach _ _ _ _ _ _ _ _ at ty.Bool (λ a b. x.And a b) i j p q s n

  either_reaches : (c : Ctx) (want : Option Ty) (a b a' b' : Expr) (at : ℕ) → Becomes code seen c (Some ty.Bool) a a' ty.Bool → Becomes code seen c (Some ty.Bool) b b' ty.Bool → expr_depth a ≤ depth
      → expr_depth b ≤ depth → Suits want ty.Bool → (n : ℕ) → Reaches (order.either code seen run c at want a b) (x.Or a' b', ty.Bool) n
  unfolding order.either
  either_reaches _ _ _ _ _ _ at i j p q s n = two_reach _ _ _ _ _ _ _ _ at ty.Bool (λ a b. x.Or a b) i j p q s n

  negation_reaches : (c : Ctx) (want : Option Ty) (a a' : Expr) (at : ℕ) → Becomes code seen c (Some ty.Bool) a a' ty.Bool → expr_depth a ≤ depth → Suits want ty.Bool → (n : ℕ)
      → Reaches (order.negation code seen run c at want a) (x.Not a', ty.Bool) n
  unfolding order.negation
  negation_reaches _ _ _ _ at i p s n = last_reaches _ _ _ _ _ at ty.Bool (λ a. x.Not a) i p s n

  evaluation_reaches : (c : Ctx) (want : Option Ty) (a a' : Expr) (at : ℕ) → Becomes code seen c (Some ty.Chunk) a a' ty.Chunk → expr_depth a ≤ depth → Suits want ty.Unit → (n : ℕ)
      → Reaches (order.evaluation code seen run c at want a) (x.Eval a', ty.Unit) n
  unfolding order.evaluation
  evaluation_reaches _ _ _ _ at i p s n = last_reaches _ _ _ _ _ at ty.Unit (λ a. x.Eval a) i p s n

  remote_reaches : (c : Ctx) (want : Option Ty) (a h m a' h' m' : Expr) (at : ℕ) (r : Name) → Becomes code seen c (Some ty.Chunk) a a' ty.Chunk → Becomes code seen c (Some ty.Host) h h' ty.Host
      → Becomes code seen c (Some ty.Int) m m' ty.Int → expr_depth a ≤ depth → expr_depth h ≤ depth → expr_depth m ≤ depth → Suits want ty.Unit → (n : ℕ)
      → Reaches (order.remote code seen run c at want a h m r) (x.OnRemote a' h' m' r, ty.Unit) n
  unfolding order.remote
  remote_reaches c want a h m a' h' m' at r i j k u v w s n =
      then_reaches (order.wanting code seen run c ty.Chunk a) (λ p.
      order.wanting code seen run c ty.Host h
      >>= (λ q.
      order.wanting code seen run c ty.Int m
      >>= (λ s. settled_type at want (x.OnRemote p q s r) ty.Unit))) a' (x.OnRemote a' h' m' r, ty.Unit) n (wanting_reaches i u n) (λ n1. two_reach _ _ _ _ _ _ _ _ at ty.Unit (λ q s.
      x.OnRemote a' q s r) j k v w s n1)

  neighbour_reaches : (c : Ctx) (want : Option Ty) (a h m d a' h' m' d' : Expr) (at : ℕ) → Becomes code seen c (Some ty.Chunk) a a' ty.Chunk → Becomes code seen c (Some ty.Host) h h' ty.Host
      → Becomes code seen c (Some ty.Int) m m' ty.Int → Becomes code seen c (Some ty.Dev) d d' ty.Dev → expr_depth a ≤ depth → expr_depth h ≤ depth → expr_depth m ≤ depth → expr_depth d ≤ depth
      → Suits want ty.Unit → (n : ℕ) → Reaches (order.neighbour code seen run c at want a h m d) (x.OnNeighbor a' h' m' d', ty.Unit) n
  unfolding order.neighbour
  neighbour_reaches c want a h m d a' h' m' d' at i j k l u v w y s n =
      then_reaches (order.wanting code seen run c ty.Chunk a) (λ p.
      order.wanting code seen run c ty.Host h
      >>= (λ q.
      order.wanting code seen run c ty.Int m
      >>= (λ s. order.wanting code seen run c ty.Dev d >>= (λ t. settled_type at want (x.OnNeighbor p q s t) ty.Unit)))) a' (x.OnNeighbor a' h' m' d', ty.Unit) n (wanting_reaches i u n)
      (λ n1.
      then_reaches (order.wanting code seen run c ty.Host h) (λ q.
      order.wanting code seen run c ty.Int m
      >>= (λ s.
      order.wanting code seen run c ty.Dev d
      >>= (λ t. settled_type at want (x.OnNeighbor a' q s t) ty.Unit))) h' (x.OnNeighbor a' h' m' d', ty.Unit) n1 (wanting_reaches j v n1) (λ n2. two_reach _ _ _ _ _ _ _ _ at ty.Unit (λ
      s t. x.OnNeighbor a' h' s t) k l w y s n2))

  handling_reaches : {c : Ctx} {want : Option Ty} {a a' : Expr} {t : Ty} {ks hs : List Clause} (at : ℕ) → Becomes code seen c want a a' t → ClausesBecome code seen c t ks hs → expr_depth a ≤ depth
      → fold (λ m k. max m (clause_depth k)) 0 ks ≤ depth → (n : ℕ) → Reaches (order.handling code seen run c at want a ks) (x.Try a' hs, t) n
  unfolding order.handling
  handling_reaches {c = c} {want = want} {a = a} {a' = a'} {t = t} {ks = ks} {hs = hs} at i j u v n =
      else_reaches (list_any (λ k. not (may_catch code k.name)) ks) (refuse (fault.UnknownName (place.Node at)))
      (run c want a >>= (λ r. order.clauses_from code seen run [] c r.1 ks >>= (λ handlers. pure (x.Try r.0 handlers, r.1)))) (x.Try a' hs, t) n (none_unknown j)
      (then_reaches (run c want a) (λ r. order.clauses_from code seen run [] c r.1 ks >>= (λ handlers. pure (x.Try r.0 handlers, r.1))) (a', t) (x.Try a' hs, t) n (go _ _ _ _ _ i u n)
      (λ n1. then_reaches (order.clauses_from code seen run [] c t ks) (λ handlers. pure (x.Try a' handlers, t)) hs (x.Try a' hs, t) n1 (clauses_reach j 0 v [] n1) (λ n2. (n2, refl))))

  calculation_reaches : (c : Ctx) (want : Option Ty) (a b a' b' : Expr) (at : ℕ) (o : Op) → Becomes code seen c (Some ty.Int) a a' ty.Int → Becomes code seen c (Some ty.Int) b b' ty.Int
      → expr_depth a ≤ depth → expr_depth b ≤ depth → Suits want ty.Int → (n : ℕ) → Reaches (order.calculation code seen run c at want o a b) (x.Binary o a' b', ty.Int) n
  unfolding order.calculation
  calculation_reaches _ _ _ _ _ _ at o i j p q s n = two_reach _ _ _ _ _ _ _ _ at ty.Int (λ a b. x.Binary o a b) i j p q s n

  join_reaches : (c : Ctx) (want : Option Ty) (a b a' b' : Expr) (t : Ty) (at : ℕ) (o : Op) → Becomes code seen c None a a' t → is_joined t ≡ true → Becomes code seen c (Some t) b b' t
      → expr_depth a ≤ depth → expr_depth b ≤ depth → Suits want t → (n : ℕ) → Reaches (order.join code seen run c at want o a b) (x.Binary o a' b', t) n
  unfolding order.join
  join_reaches c want a b a' b' t at o i w j u v s n =
      then_reaches (run c None a) (λ r.
      if is_joined r.1 then order.wanting code seen run c r.1 b
      >>= (λ q. settled_type at want (x.Binary o r.0 q) r.1) else refuse (fault.WrongShape (place.Node at))) (a', t) (x.Binary o a' b', t) n (go _ _ _ _ _ i u n)
      (λ k.
      if_reaches (is_joined t) (order.wanting code seen run c t b >>=
      (λ q. settled_type at want (x.Binary o a' q) t)) (refuse (fault.WrongShape (place.Node at))) (x.Binary o a' b', t) k w (last_reaches _ _ _ _ _ at t (λ q. x.Binary o a' q) j v s k))

  comparison_reaches : (c : Ctx) (want : Option Ty) (a b a' b' : Expr) (t : Ty) (at : ℕ) (o : Op) → Becomes code seen c None a a' t → Becomes code seen c (Some t) b b' t → expr_depth a ≤ depth
      → expr_depth b ≤ depth → Suits want ty.Bool → (n : ℕ) → Reaches (order.comparison code seen run c at want o a b) (x.Binary o a' b', ty.Bool) n
  unfolding order.comparison
  comparison_reaches c want a b a' b' t at o i j u v s n =
      then_reaches (run c None a) (λ r.
      order.wanting code seen run c r.1 b
      >>= (λ q. settled_type at want (x.Binary o r.0 q) ty.Bool)) (a', t) (x.Binary o a' b', ty.Bool) n (go _ _ _ _ _ i u n) (λ k. last_reaches _ _ _ _ _ at ty.Bool (λ q. x.Binary o a' q) j v s
      k)

  order_reaches : (c : Ctx) (want : Option Ty) (a b a' b' : Expr) (t : Ty) (at : ℕ) (o : Op) → Becomes code seen c None a a' t → is_ordered t ≡ true → Becomes code seen c (Some t) b b' t
      → expr_depth a ≤ depth → expr_depth b ≤ depth → Suits want ty.Bool → (n : ℕ) → Reaches (order.order code seen run c at want o a b) (x.Binary o a' b', ty.Bool) n
  unfolding order.order
  order_reaches c want a b a' b' t at o i w j u v s n =
      then_reaches (run c None a) (λ r.
      if is_ordered r.1 then order.wanting code seen run c r.1 b
      >>= (λ q. settled_type at want (x.Binary o r.0 q) ty.Bool) else refuse (fault.WrongShape (place.Node at))) (a', t) (x.Binary o a' b', ty.Bool) n (go _ _ _ _ _ i u n)
      (λ k.
      if_reaches (is_ordered t) (order.wanting code seen run c t b >>=
      (λ q. settled_type at want (x.Binary o a' q) ty.Bool)) (refuse (fault.WrongShape (place.Node at))) (x.Binary o a' b', ty.Bool) k w (last_reaches _ _ _ _ _ at ty.Bool (λ q. x.Binary o a' q)
      j v s k))

  prefix_reaches : (c : Ctx) (want : Option Ty) (a b a' b' : Expr) (u : Ty) (at : ℕ) (o : Op) → Becomes code seen c (option_and_then items_of want) a a' u
      → Becomes code seen c (Some (ty.List u)) b b' (ty.List u) → expr_depth a ≤ depth → expr_depth b ≤ depth → IsShallow (ty.List u) → Suits want (ty.List u) → (n : ℕ)
      → Reaches (order.prefix code seen run c at want o a b) (x.Binary o a' b', ty.List u) n
  unfolding order.prefix
  prefix_reaches c want a b a' b' u at o i j p q w s n =
      then_reaches (run c (option_and_then items_of want) a) (λ r. order.wanting code seen run c (ty.List r.1) b >>= (λ q. shallow at want (x.Binary o r.0 q) (ty.List r.1))) (a', u) (x.Binary o a' b', ty.List u) n (go _ _ _ _ _ i p n)
      (λ n1.
      then_reaches (order.wanting code seen run c (ty.List u) b) (λ q. shallow at want (x.Binary o a' q) (ty.List u)) b' (x.Binary o a' b', ty.List u) n1 (wanting_reaches j q n1) (λ n2.
      shallow_reaches at n2 want (x.Binary o a' b') (ty.List u) w s))

  folding_reaches : (at : ℕ) (f : Name) (g : Fun) (t u : Ty) → earlier code seen f ≡ Some g → param_types g.params ≡ t ∷ u ∷ [] → (n : ℕ) → Reaches (order.folding code seen run at f) (t, u, g.result) n
  unfolding order.folding
  folding_reaches at f g t u e p n =
      known_reaches (earlier code seen f) (not_earlier code f at) (λ g. or_refuse (pair_of g.params) (fault.Arity (place.Node at)) >>= (λ p. pure (p.0, p.1, g.result))) g (t, u, g.result) n e
      (known_reaches (pair_of g.params) (fault.Arity (place.Node at)) (λ p. pure (p.0, p.1, g.result)) (t, u) (t, u, g.result) n (pair_params g.params t u p) (n, refl))

  fold_left_reaches : (c : Ctx) (want : Option Ty) (a l a' l' : Expr) (t u : Ty) (at : ℕ) (f : Name) (g : Fun) → earlier code seen f ≡ Some g → param_types g.params ≡ t ∷ u ∷ [] → g.result ≡ t
      → Becomes code seen c (Some t) a a' t → Becomes code seen c (Some (ty.List u)) l l' (ty.List u) → expr_depth a ≤ depth → expr_depth l ≤ depth → Suits want t → (n : ℕ)
      → Reaches (order.fold_left code seen run c at want f a l) (x.Foldl f a' l', t) n
  unfolding order.fold_left
  fold_left_reaches c want a l a' l' t u at f g e p r i j v w s n =
      then_reaches (order.folding code seen run at f) (λ d.
      order.wanting code seen run c d.0 a
      >>= (λ start.
      order.wanting code seen run c (ty.List d.1) l
      >>= (λ items.
      if same_type d.2 d.0 then settled_type at want (x.Foldl f start items) d.0 else refuse
      (fault.WrongShape (place.Node at))))) (t, u, g.result) (x.Foldl f a' l', t) n (folding_reaches at f g t u e p n)
      (λ n1.
      then_reaches (order.wanting code seen run c t a) (λ start.
      order.wanting code seen run c (ty.List u) l
      >>= (λ items.
      if same_type g.result t then settled_type at want (x.Foldl f start items) t else refuse (fault.WrongShape (place.Node at)))) a' (x.Foldl f a' l', t) n1 (wanting_reaches i v n1)
      (λ n2.
      then_reaches (order.wanting code seen run c (ty.List u) l) (λ items.
      if same_type g.result t then settled_type at want (x.Foldl f a' items) t else refuse (fault.WrongShape (place.Node at))) l' (x.Foldl f a' l', t) n2 (wanting_reaches j w n2)
      (λ n3. if_reaches (same_type g.result t) (settled_type at want (x.Foldl f a' l') t) (refuse (fault.WrongShape (place.Node at))) (x.Foldl f a' l', t) n3 (same_type_of g.result t r) (settled_reaches at n3 want (x.Foldl f a' l') t s))))

  fold_right_reaches : (c : Ctx) (want : Option Ty) (a l a' l' : Expr) (t u : Ty) (at : ℕ) (f : Name) (g : Fun) → earlier code seen f ≡ Some g → param_types g.params ≡ u ∷ t ∷ [] → g.result ≡ t
      → Becomes code seen c (Some t) a a' t → Becomes code seen c (Some (ty.List u)) l l' (ty.List u) → expr_depth a ≤ depth → expr_depth l ≤ depth → Suits want t → (n : ℕ)
      → Reaches (order.fold_right code seen run c at want f a l) (x.Foldr f a' l', t) n
  unfolding order.fold_right
  fold_right_reaches c want a l a' l' t u at f g e p r i j v w s n =
      then_reaches (order.folding code seen run at f) (λ d.
      order.wanting code seen run c d.1 a
      >>= (λ start.
      order.wanting code seen run c (ty.List d.0) l
      >>= (λ items.
      if same_type d.2 d.1 then settled_type at want (x.Foldr f start items) d.1 else refuse
      (fault.WrongShape (place.Node at))))) (u, t, g.result) (x.Foldr f a' l', t) n (folding_reaches at f g u t e p n)
      (λ n1.
      then_reaches (order.wanting code seen run c t a) (λ start.
      order.wanting code seen run c (ty.List u) l
      >>= (λ items.
      if same_type g.result t then settled_type at want (x.Foldr f start items) t else refuse (fault.WrongShape (place.Node at)))) a' (x.Foldr f a' l', t) n1 (wanting_reaches i v n1)
      (λ n2.
      then_reaches (order.wanting code seen run c (ty.List u) l) (λ items.
      if same_type g.result t then settled_type at want (x.Foldr f a' items) t else refuse (fault.WrongShape (place.Node at))) l' (x.Foldr f a' l', t) n2 (wanting_reaches j w n2)
      (λ n3. if_reaches (same_type g.result t) (settled_type at want (x.Foldr f a' l') t) (refuse (fault.WrongShape (place.Node at))) (x.Foldr f a' l', t) n3 (same_type_of g.result t r) (settled_reaches at n3 want (x.Foldr f a' l') t s))))

  packing_reaches : (c : Ctx) (want : Option Ty) (ds es : List Expr) (at : ℕ) (f : Name) (g : Fun) → fun_of code f ≡ Some g
      → PartsBecome code seen c (Some (param_types g.params)) 0 ds es (param_types g.params) → fold (λ m d. max m (expr_depth d)) 0 ds ≤ depth → Suits want ty.Chunk → (n : ℕ)
      → Reaches (order.packing code seen run c at want f ds) (x.ChunkOf f es, ty.Chunk) n
  unfolding order.packing
  packing_reaches c want ds es at f g e b h s n =
      known_reaches (fun_of code f) (fault.UnknownName (place.Node at)) (λ g. order.arguments code seen run c at (param_types g.params) ds >>= (λ given. settled_type at want (x.ChunkOf f given) ty.Chunk)) g (x.ChunkOf f es, ty.Chunk) n e
      (then_reaches (order.arguments code seen run c at (param_types g.params) ds) (λ given. settled_type at want (x.ChunkOf f given) ty.Chunk) es (x.ChunkOf f es, ty.Chunk) n
      (arguments_reach at b h n) (λ k. settled_reaches at k want (x.ChunkOf f es) ty.Chunk s))

  literal_reaches : (c : Ctx) (want : Option Ty) (d : Expr) (t : Ty) (at : ℕ) (l : ExprLayer) → literal_type l ≡ Some t → Suits want t → (n : ℕ) → Reaches (order.opened_form code seen run c at want d l) (d, t) n
  literal_reaches c want d t at l h s n = by_layer l h
    where
      as_type : (u : Ty) → Some u ≡ Some t → Reaches (settled_type at want d u) (d, t) n
      as_type u e = let q : u ≡ t = cc in subst (λ z. Reaches (settled_type at want d z) (d, t) n) (sym q) (settled_reaches at n want d t s)

      by_layer : (l : ExprLayer) → literal_type l ≡ Some t → Reaches (order.opened_form code seen run c at want d l) (d, t) n
      by_layer Expr-F.Unit e = as_type ty.Unit e
      by_layer (Expr-F.Bool b) e = as_type ty.Bool e
      by_layer (Expr-F.Int b) e = as_type ty.Int e
      by_layer (Expr-F.Char b) e = as_type ty.Char e
      by_layer (Expr-F.Str b) e = as_type ty.Str e
      by_layer (Expr-F.Blob b) e = as_type ty.Blob e
      by_layer (Expr-F.Host b) e = as_type ty.Host e
      by_layer (Expr-F.Dev b) e = as_type ty.Dev e
      by_layer _ e = absurd (cc)

  empty_reaches : (want : Option Ty) (d : Expr) (at : ℕ) (u : Ty) → IsShallow (ty.List u) → Suits want (ty.List u) → (n : ℕ) → Reaches (order.empty at want d (Some u)) (d, ty.List u) n
  unfolding order.empty
  empty_reaches want d at u w s n = shallow_reaches at n want d (ty.List u) w s

  empty_filled_reaches : (want : Option Ty) (d : Expr) (at : ℕ) (u : Ty) → IsShallow (ty.List u) → want ≡ Some (ty.List u) → (n : ℕ) → Reaches (order.empty at want d None) (x.Nil (Some u), ty.List u) n
  unfolding order.empty
  empty_filled_reaches want d at u w e n =
      known_reaches (option_and_then items_of want) (fault.NeedsType (place.Node at)) (λ u. shallow at want (x.Nil (Some u)) (ty.List u)) u (x.Nil (Some u), ty.List u) n
      (ap (option_and_then items_of) e ∙ ap order.items_of_layer (made.outs-List u)) (shallow_reaches at n want (x.Nil (Some u)) (ty.List u) w (wanted_suits e))

  raising_reaches : (want : Option Ty) (d : Expr) (at : ℕ) (v : Name) (t : Ty) → is_exception code v ≡ true → IsShallow t → Suits want t → (n : ℕ) → Reaches (order.raising code at want d v (Some t)) (d, t) n
  unfolding order.raising
  raising_reaches want d at v t k w s n = if_reaches (is_exception code v) (shallow at want d t) (refuse (fault.UnknownName (place.Node at))) (d, t) n k (shallow_reaches at n want d t w s)

  raising_filled_reaches : (want : Option Ty) (d : Expr) (at : ℕ) (v : Name) (t : Ty) → is_exception code v ≡ true → IsShallow t → want ≡ Some t → (n : ℕ) → Reaches (order.raising code at want d v None) (x.Raise v (Some t), t) n
  unfolding order.raising
  raising_filled_reaches want d at v t k w e n =
      if_reaches (is_exception code v) (or_refuse want (fault.NeedsType (place.Node at)) >>= (λ t. shallow at want (x.Raise v (Some t)) t)) (refuse (fault.UnknownName (place.Node at))) (x.Raise v (Some t), t) n k
      (known_reaches want (fault.NeedsType (place.Node at)) (λ t. shallow at want (x.Raise v (Some t)) t) t (x.Raise v (Some t), t) n e (shallow_reaches at n want (x.Raise v (Some t)) t w (wanted_suits e)))

  variable_reaches : (c : Ctx) (want : Option Ty) (d : Expr) (t : Ty) (at : ℕ) (v : Name) → binding v c ≡ Some t → Suits want t → (n : ℕ) → Reaches (order.variable c at want d v) (d, t) n
  unfolding order.variable
  variable_reaches c want d t at v b s n = known_reaches (binding v c) (fault.UnknownName (place.Node at)) (λ t. settled_type at want d t) t (d, t) n b (settled_reaches at n want d t s)

  function_reaches : (c : Ctx) (want : Option Ty) (ds es : List Expr) (at : ℕ) (f : Name) (g : Fun) → earlier code seen f ≡ Some g
      → PartsBecome code seen c (Some (param_types g.params)) 0 ds es (param_types g.params) → fold (λ m d. max m (expr_depth d)) 0 ds ≤ depth → Suits want g.result → (n : ℕ)
      → Reaches (order.function code seen run c at want f ds) (x.Call f es, g.result) n
  unfolding order.function
  function_reaches c want ds es at f g e b h s n =
      known_reaches (earlier code seen f) (not_earlier code f at) (λ g. order.applied_call code seen run c at want f ds (param_types g.params) g.result) g (x.Call f es, g.result) n e (applied_reaches at want f g.result b h s n)

  call_reaches : (c : Ctx) (want : Option Ty) (ds es : List Expr) (t : Ty) (at : ℕ) (f : Name) (o : Option Primitive) → prim_of f ≡ o → (n : ℕ)
      → Reaches (order.primitive_or code seen run c at want f ds o) (x.Call f es, t) n → Reaches (order.call code seen run c at want f ds) (x.Call f es, t) n
  unfolding order.call
  call_reaches c want ds es t at f o q n r = subst (λ k. Reaches (order.primitive_or code seen run c at want f ds k) (x.Call f es, t) n) (sym q) r

  service_reaches : (c : Ctx) (want : Option Ty) (ds es : List Expr) (t : Ty) (at : ℕ) (f : Name) (o : Option Svc) → service_of f code.svcs ≡ o → (n : ℕ)
      → Reaches (order.service_or code seen run c at want f ds o) (x.Call f es, t) n → Reaches (order.primitive_or code seen run c at want f ds None) (x.Call f es, t) n
  service_reaches c want ds es t at f o q n r = subst (λ k. Reaches (order.service_or code seen run c at want f ds k) (x.Call f es, t) n) (sym q) r

  primitive_reaches : (c : Ctx) (want : Option Ty) (ds es : List Expr) (t : Ty) (at : ℕ) (f : Name) (p : Primitive) (o : Option (List Ty)) → takes p ≡ o → (n : ℕ)
      → Reaches (order.primitive_by code seen run c at want f p ds o) (x.Call f es, t) n → Reaches (order.primitive_or code seen run c at want f ds (Some p)) (x.Call f es, t) n
  unfolding order.primitive
  primitive_reaches c want ds es t at f p o q n r = subst (λ k. Reaches (order.primitive_by code seen run c at want f p ds k) (x.Call f es, t) n) (sym q) r

  operation_reaches : (c : Ctx) (want : Option Ty) (a b e : Expr) (t : Ty) (at : ℕ) (o : Op) (k : OpKind) → kind_of o ≡ k → (n : ℕ)
      → Reaches (order.operation_by code seen run c at want o a b k) (e, t) n → Reaches (order.operation code seen run c at want o a b) (e, t) n
  unfolding order.operation
  operation_reaches c want a b e t at o k q n r = subst (λ z. Reaches (order.operation_by code seen run c at want o a b z) (e, t) n) (sym q) r

  -- a primitive whose result depends on the items takes no types of its own
  no_types : (p : Primitive) (u t : Ty) → of_list p u ≡ Some t → takes p ≡ None
  no_types prim.Hd u t h = refl
  no_types prim.Tl u t h = refl
  no_types prim.Length u t h = refl
  no_types _ u t h = absurd (cc)

  -- from one level of the draft, and the answer that this level gives
  at_level : (c : Ctx) (want : Option Ty) (d e e0 : Expr) (t t0 : Ty) (at n : ℕ) (l : ExprLayer) → out-Expr d ≡ l → e ≡ e0 → t ≡ t0 → Reaches (order.opened_form code seen run c at want d l) (e0, t0) n
      → Reaches (order.opened_form code seen run c at want d (out-Expr d)) (e, t) n
  at_level c want d e e0 t t0 at n l o p q r =
      subst (λ z. Reaches (order.opened_form code seen run c at want d z) (e, t) n) (sym o)
      (subst (λ z. Reaches (order.opened_form code seen run c at want d l) (z, t) n) (sym p)
      (subst (λ z. Reaches (order.opened_form code seen run c at want d l) (e0, z) n) (sym q) r))

  as_wanted : (want : Option Ty) (t t0 : Ty) → t ≡ t0 → Suits want t → Suits want t0
  as_wanted want _ _ q s = subst (λ z. Suits want z) q s

  opened_reaches : {c : Ctx} {want : Option Ty} {d e : Expr} {t : Ty} → Becomes code seen c want d e t → expr_depth d ≤ suc depth → (at n : ℕ) → Reaches (order.opened_form code seen run c at want d (out-Expr d)) (e, t) n
  opened_reaches {d = d} (B.literal h p s) k at n = at_level _ _ _ _ _ _ _ at n (out-Expr d) refl p refl (literal_reaches _ _ _ _ at (out-Expr d) h s n)
  opened_reaches {d = d} (B.variable v o b p s) k at n = at_level _ _ _ _ _ _ _ at n (Expr-F.Var v) o p refl (variable_reaches _ _ _ _ at v b s n)
  opened_reaches {d = d} (B.empty u o q w p s) k at n = at_level _ _ _ _ _ _ _ at n (Expr-F.Nil (Some u)) o p q (empty_reaches _ _ at u (subst IsShallow q w) (as_wanted _ _ _ q s) n)
  opened_reaches {d = d} (B.empty_filled u o q w p e) k at n = at_level _ _ _ _ _ _ _ at n (Expr-F.Nil None) o p q (empty_filled_reaches _ _ at u (subst IsShallow q w) (e ∙ ap Some q) n)
  opened_reaches {d = d} {t = t} (B.raising v o i w p s) k at n = at_level _ _ _ _ _ _ _ at n (Expr-F.Raise v (Some t)) o p refl (raising_reaches _ _ at v t i w s n)
  opened_reaches {d = d} {t = t} (B.raising_filled v o i w p e) k at n = at_level _ _ _ _ _ _ _ at n (Expr-F.Raise v None) o p refl (raising_filled_reaches _ _ at v t i w e n)
  opened_reaches {d = d} (B.tuple ds es ts o b q w p s) k at n =
      let z = level_depth d (Expr-F.Tuple ds) depth o k in at_level _ _ _ _ _ _ _ at n (Expr-F.Tuple ds) o p q (tuple_reaches _ _ _ _ _ at b (omega arith) (subst IsShallow q w) (as_wanted _ _ _ q s) n)
  opened_reaches {d = d} (B.part i a a1 ts o b q p s) k at n =
      let z = level_depth d (Expr-F.Part i a) depth o k in at_level _ _ _ _ _ _ _ at n (Expr-F.Part i a) o p refl (part_reaches _ _ _ _ _ _ at i b (omega arith) q s n)
  opened_reaches {d = d} {t = t} (B.of_items f a a1 p u o q b g r s) k at n =
      let z = level_depth d (Expr-F.Call f (a ∷ [])) depth o k in
      at_level _ _ _ _ _ _ _ at n (Expr-F.Call f (a ∷ [])) o r refl (call_reaches _ _ _ _ _ at f (Some p) q n (primitive_reaches _ _ _ _ _ at f p None (no_types p u t g) n (of_items_reaches _ _ _ _ _ _ at f p b (omega arith) g s n)))
  opened_reaches {d = d} (B.primitive f ds es p ts o q w b g r s) k at n =
      let z = level_depth d (Expr-F.Call f ds) depth o k in
      at_level _ _ _ _ _ _ _ at n (Expr-F.Call f ds) o r g (call_reaches _ _ _ _ _ at f (Some p) q n (primitive_reaches _ _ _ _ _ at f p (Some ts) w n (applied_reaches at _ f (makes p) b (omega arith) (as_wanted _ _ _ g s) n)))
  opened_reaches {d = d} (B.serving f ds es v o q w b g r s) k at n =
      let z = level_depth d (Expr-F.Call f ds) depth o k in
      at_level _ _ _ _ _ _ _ at n (Expr-F.Call f ds) o r g (call_reaches _ _ _ _ _ at f None q n (service_reaches _ _ _ _ _ at f (Some v) w n (applied_reaches at _ f v.result b (omega arith) (as_wanted _ _ _ g s) n)))
  opened_reaches {d = d} (B.call f ds es v o q w i b g r s) k at n =
      let z = level_depth d (Expr-F.Call f ds) depth o k in
      at_level _ _ _ _ _ _ _ at n (Expr-F.Call f ds) o r g (call_reaches _ _ _ _ _ at f None q n (service_reaches _ _ _ _ _ at f None w n (function_reaches _ _ _ _ at f v i b (omega arith) (as_wanted _ _ _ g s) n)))
  opened_reaches {d = d} (B.choice p a b p1 a1 b1 o i j m e) k at n =
      let z = level_depth d (Expr-F.If p a b) depth o k in at_level _ _ _ _ _ _ _ at n (Expr-F.If p a b) o e refl (choice_reaches i j m (omega arith) (omega arith) (omega arith) n)
  opened_reaches {d = d} (B.binder v u a b a1 b1 o i j e) k at n =
      let z = level_depth d (Expr-F.Let v u a b) depth o k in at_level _ _ _ _ _ _ _ at n (Expr-F.Let v u a b) o e refl (binder_reaches v u i j (omega arith) (omega arith) n)
  opened_reaches {d = d} (B.sequence a b a1 b1 o i j e) k at n =
      let z = level_depth d (Expr-F.Then a b) depth o k in at_level _ _ _ _ _ _ _ at n (Expr-F.Then a b) o e refl (sequence_reaches i j (omega arith) (omega arith) n)
  opened_reaches {d = d} (B.both a b a1 b1 o i j q p s) k at n =
      let z = level_depth d (Expr-F.And a b) depth o k in at_level _ _ _ _ _ _ _ at n (Expr-F.And a b) o p q (both_reaches _ _ _ _ _ _ at i j (omega arith) (omega arith) (as_wanted _ _ _ q s) n)
  opened_reaches {d = d} (B.either a b a1 b1 o i j q p s) k at n =
      let z = level_depth d (Expr-F.Or a b) depth o k in at_level _ _ _ _ _ _ _ at n (Expr-F.Or a b) o p q (either_reaches _ _ _ _ _ _ at i j (omega arith) (omega arith) (as_wanted _ _ _ q s) n)
  opened_reaches {d = d} (B.negation a a1 o i q p s) k at n =
      let z = level_depth d (Expr-F.Not a) depth o k in at_level _ _ _ _ _ _ _ at n (Expr-F.Not a) o p q (negation_reaches _ _ _ _ at i (omega arith) (as_wanted _ _ _ q s) n)
  opened_reaches {d = d} (B.calculation v a b a1 b1 o g i j q p s) k at n =
      let z = level_depth d (Expr-F.Binary v a b) depth o k in
      at_level _ _ _ _ _ _ _ at n (Expr-F.Binary v a b) o p q
      (operation_reaches _ _ _ _ _ _ at v arithmetic g n (calculation_reaches _ _ _ _ _ _ at v i j (omega arith) (omega arith) (as_wanted _ _ _ q s) n))
  opened_reaches {d = d} (B.join v a b a1 b1 o g i w j p s) k at n =
      let z = level_depth d (Expr-F.Binary v a b) depth o k in
      at_level _ _ _ _ _ _ _ at n (Expr-F.Binary v a b) o p refl (operation_reaches _ _ _ _ _ _ at v joining g n (join_reaches _ _ _ _ _ _ _ at v i w j (omega arith) (omega arith) s n))
  opened_reaches {d = d} (B.comparison v a b a1 b1 u o g i j q p s) k at n =
      let z = level_depth d (Expr-F.Binary v a b) depth o k in
      at_level _ _ _ _ _ _ _ at n (Expr-F.Binary v a b) o p q
      (operation_reaches _ _ _ _ _ _ at v equality g n (comparison_reaches _ _ _ _ _ _ _ at v i j (omega arith) (omega arith) (as_wanted _ _ _ q s) n))
  opened_reaches {d = d} (B.order v a b a1 b1 u o g i w j q p s) k at n =
      let z = level_depth d (Expr-F.Binary v a b) depth o k in
      at_level _ _ _ _ _ _ _ at n (Expr-F.Binary v a b) o p q
      (operation_reaches _ _ _ _ _ _ at v ordering g n (order_reaches _ _ _ _ _ _ _ at v i w j (omega arith) (omega arith) (as_wanted _ _ _ q s) n))
  opened_reaches {d = d} (B.prefix v a b a1 b1 u o g i j q w p s) k at n =
      let z = level_depth d (Expr-F.Binary v a b) depth o k in
      at_level _ _ _ _ _ _ _ at n (Expr-F.Binary v a b) o p q
      (operation_reaches _ _ _ _ _ _ at v listing g n (prefix_reaches _ _ _ _ _ _ _ at v i j (omega arith) (omega arith) (subst IsShallow q w) (as_wanted _ _ _ q s) n))
  opened_reaches {d = d} (B.handling a a1 ks hs o i j e) k at n =
      let z = level_depth d (Expr-F.Try a ks) depth o k in at_level _ _ _ _ _ _ _ at n (Expr-F.Try a ks) o e refl (handling_reaches at i j (omega arith) (omega arith) n)
  opened_reaches {d = d} (B.fold_left f a l a1 l1 g u o e p r i j q s) k at n =
      let z = level_depth d (Expr-F.Foldl f a l) depth o k in at_level _ _ _ _ _ _ _ at n (Expr-F.Foldl f a l) o q refl (fold_left_reaches _ _ _ _ _ _ _ _ at f g e p r i j (omega arith) (omega arith) s n)
  opened_reaches {d = d} (B.fold_right f a l a1 l1 g u o e p r i j q s) k at n =
      let z = level_depth d (Expr-F.Foldr f a l) depth o k in at_level _ _ _ _ _ _ _ at n (Expr-F.Foldr f a l) o q refl (fold_right_reaches _ _ _ _ _ _ _ _ at f g e p r i j (omega arith) (omega arith) s n)
  opened_reaches {d = d} (B.packing f ds es g o e b q p s) k at n =
      let z = level_depth d (Expr-F.ChunkOf f ds) depth o k in at_level _ _ _ _ _ _ _ at n (Expr-F.ChunkOf f ds) o p q (packing_reaches _ _ _ _ at f g e b (omega arith) (as_wanted _ _ _ q s) n)
  opened_reaches {d = d} (B.evaluation a a1 o i q p s) k at n =
      let z = level_depth d (Expr-F.Eval a) depth o k in at_level _ _ _ _ _ _ _ at n (Expr-F.Eval a) o p q (evaluation_reaches _ _ _ _ at i (omega arith) (as_wanted _ _ _ q s) n)
  opened_reaches {d = d} (B.remote a h m a1 h1 m1 r o i j l q p s) k at n =
      let z = level_depth d (Expr-F.OnRemote a h m r) depth o k in at_level _ _ _ _ _ _ _ at n (Expr-F.OnRemote a h m r) o p q (remote_reaches _ _ _ _ _ _ _ _ at r i j l (omega arith) (omega arith) (omega arith) (as_wanted _ _ _ q s) n)
  opened_reaches {d = d} (B.neighbour a h m v a1 h1 m1 v1 o i j l g q p s) k at n =
      let z = level_depth d (Expr-F.OnNeighbor a h m v) depth o k in
      at_level _ _ _ _ _ _ _ at n (Expr-F.OnNeighbor a h m v) o p q (neighbour_reaches _ _ _ _ _ _ _ _ _ _ at i j l g (omega arith) (omega arith) (omega arith) (omega arith) (as_wanted _ _ _ q s) n)

no_depth : (l : ExprLayer) → expr_depth_level expr_depth clause_depth l ≤ zero → ⊥
no_depth (Expr-F.Tuple es) h = omega arith
no_depth (Expr-F.Call f es) h = omega arith
no_depth (Expr-F.If a b k) h = omega arith
no_depth (Expr-F.Let v u a b) h = omega arith
no_depth (Expr-F.Then a b) h = omega arith
no_depth (Expr-F.And a b) h = omega arith
no_depth (Expr-F.Or a b) h = omega arith
no_depth (Expr-F.Not a) h = omega arith
no_depth (Expr-F.Binary v a b) h = omega arith
no_depth (Expr-F.Part i a) h = omega arith
no_depth (Expr-F.Try a ks) h = omega arith
no_depth (Expr-F.Foldl f a l) h = omega arith
no_depth (Expr-F.Foldr f a l) h = omega arith
no_depth (Expr-F.ChunkOf f es) h = omega arith
no_depth (Expr-F.Eval a) h = omega arith
no_depth (Expr-F.OnRemote a b k r) h = omega arith
no_depth (Expr-F.OnNeighbor a b k d) h = omega arith
no_depth _ h = omega arith

-- the checking to a depth that the draft keeps
pub checked_reaches : (code : Program) (depth seen : ℕ) {c : Ctx} {want : Option Ty} {d e : Expr} {t : Ty} → Becomes code seen c want d e t → expr_depth d ≤ depth → (n : ℕ)
    → Reaches (order.checked_expression code depth seen c want d) (e, t) n
unfolding order.checked_expression order.expression
checked_reaches code zero seen {d = d} b h n = absurd (no_depth (out-Expr d) (rw expr_depth_out at h))
checked_reaches code (suc depth) seen b h n = opened_reaches code seen depth (order.checked_expression code depth seen) (λ c want d e t b h m. checked_reaches code depth seen b h m) b h n (order.next n)
