-- What the answer of a part of the checking says of the conditions that are judged.
use Rattle.std.proofs.Common.{◌≡◌, ℕ, ◌+◌, ◌≤◌, ◌∙◌, sym, refl, subst, Bool, true, false, List, [], ◌∷◌, ◌++◌, length, Option, Some, None, arith}
use Rattle.std.specs.Prelude.{Result, Ok, Err, if◌then◌else◌, ◌==◌, nat_le}
use Rattle.std.specs.List.{sum_by}
use Rattle.std.proofs.lemmas.List.Sums.{sum_by-cons}
use Rattle.plan_base.specs.declared.name.Name.{Name}
use Rattle.plan_base.specs.declared.tree.Ty.{Ty}
use Rattle.plan_base.specs.declared.tree.Expr.{Expr}
use Rattle.plan_base.specs.declared.tree.Clause.{Clause}
use Rattle.plan_base.specs.declared.tree.Fun.{Fun}
use Rattle.plan_base.specs.declared.tree.Program.{Program}
use Rattle.plan_base.specs.declared.tree.Place.TheVariants as place
use Rattle.plan_types_spec.specs.declared.type_fault.TypeFault.{TypeFault}
use Rattle.plan_types_spec.specs.declared.type_fault.TypeFault.TheVariants as fault
use Rattle.plan_base.specs.Sizes.{type_depth, expr_nodes, clause_nodes}
use Rattle.plan_types_spec.specs.Typing.{Ctx}
use Rattle.plan_base.specs.SameTypes.{same_type}
use Rattle.plan_types_spec.specs.TypingOrder.{Checking, Found, pure, refuse, after, ◌>>=◌, or_refuse, want_at, pair_of, earlier, not_earlier, settled_type}
use Rattle.plan_types_spec.specs.TypingOrder as order
use Rattle.plan_types_spec.specs.TypingFills.{Becomes}
use Rattle.plan_base.proofs.SameTypes.{same_type_true, same_type_of}
use Rattle.plan_parser_laws.specs.Judgements.{Judgement, kept, test, same, part, there, stands_earlier, none_earlier, suits, shallow, parts, typed_part, arguments, clauses, behind, FirstFailing}
use Rattle.plan_parser_laws.specs.Judgements.{fails, differ, refuses, passes, agree, becomes, Refused}
use Rattle.plan_parser_laws.proofs.Named.{earlier_is, none_is}

-- one part of the checking after two others
in_turn : {A B C : Type 0} (q : Result (A × ℕ) TypeFault) (f : A → Checking B) (k : B → Checking C) → after q (λ a. f a >>= k) ≡ after (after q f) k
in_turn (Ok r) f k = refl
in_turn (Err e) f k = refl

module _ (code : Program) (seen : ℕ) where
  -- every condition is kept
  unfoldable pub Kept : Judgement → Type 0
  Kept kept = Unit {0}
  Kept (test b f more) = (b ≡ true) × Kept more
  Kept (same t u f more) = (t ≡ u) × Kept more
  Kept (part c want e more) = (d : Expr) × (t : Ty) × Becomes code seen c want e d t × Kept (more t)

  -- the answer to a part of an expression at the place n
  abbrev pub IsPart : Ctx → Option Ty → ℕ → Expr → Result (Found × ℕ) TypeFault → Type 0
  IsPart c want n e (Ok r) = Becomes code seen c want e r.0.0 r.0.1 × (r.1 ≡ behind n (expr_nodes e))
  IsPart c want n e (Err f) = Refused code seen f c want n e

  -- the answer to conditions where the next part stands at the place n, and so many expressions follow
  abbrev pub Stands : {A : Type 0} → ℕ → ℕ → Judgement → Result (A × ℕ) TypeFault → Type 0
  Stands n count j (Ok r) = Kept j × (r.1 ≡ behind n count)
  Stands n count j (Err f) = FirstFailing code seen f n j

  nothing_judged : Kept kept
  unfolding Kept
  nothing_judged = tt

  pub end_stands : {A : Type 0} (a : A) (n : ℕ) → n ≤ 4294967295 → Stands n 0 kept (Ok (a, n))
  end_stands a n low = (nothing_judged, omega (arith, low))

  pub recount : {A : Type 0} (n count k : ℕ) (j : Judgement) (q : Result (A × ℕ) TypeFault) → count ≡ k → Stands n count j q → Stands n k j q
  recount {A} n count k j q e s = subst (λ z. Stands {A = A} n z j q) e s

  -- ---- one condition before others

  true_test_stands : {A : Type 0} (n count : ℕ) (f : TypeFault) (more : Judgement) (q : Result (A × ℕ) TypeFault) → Stands n count more q → Stands n count (test true f more) q
  unfolding Kept
  true_test_stands n count f more (Ok r) s = ((refl, s.0), s.1)
  true_test_stands n count f more (Err g) s = passes refl s

  pub test_stands : {A : Type 0} (n count : ℕ) (b : Bool) (f : TypeFault) (m : Checking A) (more : Judgement) → (b ≡ true → Stands n count more (m n)) → Stands n count (test b f more) ((if b then m else refuse f) n)
  test_stands n count true f m more s = true_test_stands n count f more (m n) (s refl)
  test_stands n count false f m more s = fails refl

  pub there_stands : {A X : Type 0} (n count : ℕ) (o : Option X) (f : TypeFault) (k : X → Checking A) (more : X → Judgement) → ((x : X) → Stands n count (more x) (k x n)) → Stands n count (there o f more) ((or_refuse o f >>= k) n)
  there_stands n count (Some x) f k more s = s x
  there_stands n count None f k more s = fails refl

  equal_types_stand : {A : Type 0} (n count : ℕ) (t u : Ty) (f : TypeFault) (more : Judgement) (q : Result (A × ℕ) TypeFault) → t ≡ u → Stands n count more q → Stands n count (same t u f more) q
  unfolding Kept
  equal_types_stand n count t u f more (Ok r) e s = ((e, s.0), s.1)
  equal_types_stand n count t u f more (Err g) e s = agree e s

  pub same_stands : {A : Type 0} (n count : ℕ) (t u : Ty) (f : TypeFault) (m : Checking A) (more : Judgement) → Stands n count more (m n) → Stands n count (same t u f more) ((if same_type t u then m else refuse f) n)
  same_stands {A} n count t u f m more s = go (same_type t u) refl
    where
      go : (b : Bool) → same_type t u ≡ b → Stands {A = A} n count (same t u f more) ((if b then m else refuse f) n)
      go true e = equal_types_stand n count t u f more (m n) (same_type_true t u e) s
      go false e = differ (λ h. let z : true ≡ false = sym (same_type_of t u h) ∙ e in cc)

  pub suits_stands : (n at : ℕ) (want : Option Ty) (e : Expr) (t : Ty) → n ≤ 4294967295 → Stands n 0 (suits at want t) (settled_type at want e t n)
  unfolding settled_type
  suits_stands n at None e t low = end_stands {A = Found} (e, t) n low
  suits_stands n at (Some w) e t low = same_stands n 0 w t (fault.Mismatch (place.Node at) w t) (pure (e, t)) kept (end_stands {A = Found} (e, t) n low)

  pub shallow_stands : (n at : ℕ) (want : Option Ty) (e : Expr) (t : Ty) → n ≤ 4294967295 → Stands n 0 (shallow at want t) (order.shallow at want e t n)
  unfolding order.shallow
  shallow_stands n at want e t low = test_stands n 0 (nat_le (type_depth t) 8) (fault.TypeTooDeep (place.Node at)) (settled_type at want e t) (suits at want t) (λ _. suits_stands n at want e t low)

  -- ---- one part before others

  becoming_part_stands : {A : Type 0} (n count : ℕ) (c : Ctx) (want : Option Ty) (e d : Expr) (t : Ty) (more : Ty → Judgement) (q : Result (A × ℕ) TypeFault) → Becomes code seen c want e d t
      → Stands (behind n (expr_nodes e)) count (more t) q → Stands n (expr_nodes e + count) (part c want e more) q
  unfolding Kept
  becoming_part_stands n count c want e d t more (Ok r) b s = let k = s.1 in ((d, t, b, s.0), omega (arith, k))
  becoming_part_stands n count c want e d t more (Err f) b s = becomes d t b s

  pub part_stands : {A : Type 0} (n count : ℕ) (c : Ctx) (want : Option Ty) (e : Expr) (q : Result (Found × ℕ) TypeFault) (k : Found → Checking A) (more : Ty → Judgement) → IsPart c want n e q
      → ((r : Found) → Stands (behind n (expr_nodes e)) count (more r.1) (k r (behind n (expr_nodes e)))) → Stands n (expr_nodes e + count) (part c want e more) (after q k)
  part_stands {A} n count c want e (Ok r) k more p s =
      becoming_part_stands n count c want e r.0.0 r.0.1 more (k r.0 r.1) p.0 (subst (λ z. Stands {A = A} (behind n (expr_nodes e)) count (more r.0.1) (k r.0 z)) (sym p.1) (s r.0))
  part_stands n count c want e (Err f) k more p s = refuses p

  module _ (run : Ctx → Option Ty → Expr → Checking Found) where
    -- an expression whose checking stands for its conditions, wherever it is
    abbrev pub Good : Expr → Type 0
    Good e = (c : Ctx) (want : Option Ty) (n : ℕ) → IsPart c want n e (run c want e n)

    unfoldable pub AllGood : List Expr → Type 0
    AllGood [] = Unit {0}
    AllGood (e ∷ es) = Good e × AllGood es

    unfoldable pub ClausesGood : List Clause → Type 0
    ClausesGood [] = Unit {0}
    ClausesGood (k ∷ ks) = Good k.body × ClausesGood ks

    first_good : (e : Expr) (es : List Expr) → AllGood (e ∷ es) → Good e
    unfolding AllGood
    first_good e es g = g.0

    rest_good : (e : Expr) (es : List Expr) → AllGood (e ∷ es) → AllGood es
    unfolding AllGood
    rest_good e es g = g.1

    first_clause : (k : Clause) (ks : List Clause) → ClausesGood (k ∷ ks) → Good k.body
    unfolding ClausesGood
    first_clause k ks g = g.0

    rest_clauses : (k : Clause) (ks : List Clause) → ClausesGood (k ∷ ks) → ClausesGood ks
    unfolding ClausesGood
    rest_clauses k ks g = g.1

    pub run_stands : {A : Type 0} (n count : ℕ) (c : Ctx) (want : Option Ty) (e : Expr) (k : Found → Checking A) (more : Ty → Judgement) → Good e
        → ((r : Found) → Stands (behind n (expr_nodes e)) count (more r.1) (k r (behind n (expr_nodes e)))) → Stands n (expr_nodes e + count) (part c want e more) ((run c want e >>= k) n)
    run_stands n count c want e k more g s = part_stands n count c want e (run c want e n) k more (g c want n) s

    pub typed_stands : {A : Type 0} (n count : ℕ) (c : Ctx) (t : Ty) (e : Expr) (k : Expr → Checking A) (more : Judgement) → Good e
        → ((x : Expr) → Stands (behind n (expr_nodes e)) count more (k x (behind n (expr_nodes e)))) → Stands n (expr_nodes e + count) (typed_part c t e more) ((order.wanting code seen run c t e >>= k) n)
    unfolding order.wanting
    typed_stands {A} n count c t e k more g s =
        subst (λ z. Stands {A = A} n (expr_nodes e + count) (typed_part c t e more) z) (in_turn (run c (Some t) e n) (λ r. pure r.0) k)
        (part_stands n count c (Some t) e (run c (Some t) e n) (λ r. pure r.0 >>= k) (λ _. more) (g c (Some t) n) (λ r. s r.0))

    pub parts_stand : {A : Type 0} (es : List Expr) (n count : ℕ) (done : List Expr) (types : List Ty) (c : Ctx) (wants : Option (List Ty)) (k : List Expr × List Ty → Checking A) (more : List Ty → Judgement)
        → n ≤ 4294967295 → AllGood es → ((r : List Expr × List Ty) (m : ℕ) → m ≤ 4294967295 → Stands m count (more r.1) (k r m))
        → Stands n (sum_by expr_nodes es + count) (parts c wants types es more) ((order.parts_from code seen run done types c wants es >>= k) n)
    unfolding order.parts_from
    parts_stand [] n count done types c wants k more low g s = recount n count (sum_by expr_nodes [] + count) (more types) (k (done, types) n) (omega arith) (s (done, types) n low)
    parts_stand {A} (e ∷ es) n count done types c wants k more low g s =
        let sum = sum_by-cons expr_nodes e es in
        recount n (expr_nodes e + (sum_by expr_nodes es + count)) (sum_by expr_nodes (e ∷ es) + count) (parts c wants types (e ∷ es) more) _ (omega (arith, sum))
        (subst (λ z. Stands {A = A} n (expr_nodes e + (sum_by expr_nodes es + count)) (parts c wants types (e ∷ es) more) z)
        (in_turn (run c (want_at wants (length types)) e n) (λ r. order.parts_from code seen run (done ++ r.0 ∷ []) (types ++ r.1 ∷ []) c wants es) k)
        (part_stands n (sum_by expr_nodes es + count) c (want_at wants (length types)) e (run c (want_at wants (length types)) e n) (λ r. order.parts_from code seen run (done ++ r.0 ∷ []) (types ++ r.1 ∷ []) c wants es >>= k)
        (λ t. parts c wants (types ++ t ∷ []) es more) (first_good e es g c (want_at wants (length types)) n)
        (λ r. parts_stand es (behind n (expr_nodes e)) count (done ++ r.0 ∷ []) (types ++ r.1 ∷ []) c wants k more (omega arith) (rest_good e es g) s)))

    pub arguments_stand : {A : Type 0} (n at count : ℕ) (c : Ctx) (wants : List Ty) (es : List Expr) (k : List Expr → Checking A) (more : Judgement) → n ≤ 4294967295 → AllGood es
        → ((xs : List Expr) (m : ℕ) → m ≤ 4294967295 → Stands m count more (k xs m)) → Stands n (sum_by expr_nodes es + count) (arguments c at wants es more) ((order.arguments code seen run c at wants es >>= k) n)
    unfolding order.arguments
    arguments_stand {A} n at count c wants es k more low g s = go (length es == length wants)
      where
        all : Stands {A = A} n (sum_by expr_nodes es + count) (parts c (Some wants) [] es (λ _. more)) (((order.parts code seen run c (Some wants) es >>= (λ r. pure r.0)) >>= k) n)
        all = subst (λ z. Stands {A = A} n (sum_by expr_nodes es + count) (parts c (Some wants) [] es (λ _. more)) z) (in_turn (order.parts code seen run c (Some wants) es n) (λ r. pure r.0) k)
            (parts_stand es n count [] [] c (Some wants) (λ r. pure r.0 >>= k) (λ _. more) low g (λ r m small. s r.0 m small))

        go : (b : Bool) → Stands {A = A} n (sum_by expr_nodes es + count) (test b (fault.Arity (place.Node at)) (parts c (Some wants) [] es (λ _. more)))
            (((if b then (order.parts code seen run c (Some wants) es >>= (λ r. pure r.0)) else refuse (fault.Arity (place.Node at))) >>= k) n)
        go true = true_test_stands n (sum_by expr_nodes es + count) (fault.Arity (place.Node at)) (parts c (Some wants) [] es (λ _. more)) _ all
        go false = fails refl

    pub clauses_stand : {A : Type 0} (ks : List Clause) (n : ℕ) (done : List Clause) (c : Ctx) (t : Ty) (k : List Clause → A) → n ≤ 4294967295 → ClausesGood ks
        → Stands n (sum_by clause_nodes ks) (clauses c t ks) ((order.clauses_from code seen run done c t ks >>= (λ hs. pure (k hs))) n)
    unfolding order.clauses_from
    clauses_stand [] n done c t k low g = end_stands (k done) n low
    clauses_stand {A} (q ∷ ks) n done c t k low g =
        let sum = sum_by-cons clause_nodes q ks in
        recount n (expr_nodes q.body + sum_by clause_nodes ks) (sum_by clause_nodes (q ∷ ks)) (clauses c t (q ∷ ks)) _ (omega (arith, sum))
        (subst (λ z. Stands {A = A} n (expr_nodes q.body + sum_by clause_nodes ks) (clauses c t (q ∷ ks)) z)
        (in_turn (order.wanting code seen run c t q.body n) (λ b. order.clauses_from code seen run (done ++ record { name = q.name; body = b } ∷ []) c t ks) (λ hs. pure (k hs)))
        (typed_stands n (sum_by clause_nodes ks) c t q.body (λ b. order.clauses_from code seen run (done ++ record { name = q.name; body = b } ∷ []) c t ks >>= (λ hs. pure (k hs))) (clauses c t ks) (first_clause q ks g)
        (λ x. clauses_stand ks (behind n (expr_nodes q.body)) (done ++ record { name = q.name; body = x } ∷ []) c t k (omega arith) (rest_clauses q ks g))))

    pub folding_stands : {A : Type 0} (n at count : ℕ) (f : Name) (k : Ty × Ty × Ty → Checking A) (more : Ty × Ty → Ty → Judgement) → ((p : Ty × Ty) (r : Ty) → Stands n count (more p r) (k (p.0, p.1, r) n))
        → Stands n count (there (stands_earlier code seen f) (none_earlier code f at) (λ d. there (pair_of d.params) (fault.Arity (place.Node at)) (λ p. more p d.result))) ((order.folding code seen run at f >>= k) n)
    unfolding order.folding
    folding_stands {A} n at count f k more s =
        subst (λ o. Stands {A = A} n count (there o (none_earlier code f at) (λ d. there (pair_of d.params) (fault.Arity (place.Node at)) (λ p. more p d.result))) ((order.folding code seen run at f >>= k) n)) (earlier_is code seen f)
        (subst (λ z. Stands {A = A} n count (there (earlier code seen f) z (λ d. there (pair_of d.params) (fault.Arity (place.Node at)) (λ p. more p d.result))) ((order.folding code seen run at f >>= k) n)) (none_is code f at)
        (by_fun (earlier code seen f)))
      where
        by_pair : (d : Fun) (o : Option (Ty × Ty)) → Stands {A = A} n count (there o (fault.Arity (place.Node at)) (λ p. more p d.result)) (((or_refuse o (fault.Arity (place.Node at)) >>= (λ p. pure (p.0, p.1, d.result))) >>= k) n)
        by_pair d (Some p) = s p d.result
        by_pair d None = fails refl

        by_fun : (o : Option Fun) → Stands {A = A} n count (there o (not_earlier code f at) (λ d. there (pair_of d.params) (fault.Arity (place.Node at)) (λ p. more p d.result)))
            (((or_refuse o (not_earlier code f at) >>= (λ d. or_refuse (pair_of d.params) (fault.Arity (place.Node at)) >>= (λ p. pure (p.0, p.1, d.result)))) >>= k) n)
        by_fun (Some d) = by_pair d (pair_of d.params)
        by_fun None = fails refl
