-- All keys, by the place of one.
use Rattle.std.proofs.Common.{◌≡◌, ℕ, zero, suc, ◌≤◌, ◌<◌, Bool, true, false, if◌then◌else◌, List, [], ◌∷◌, ◌++◌, length, Option, Some, None, refl, sym, ap, ◌∙◌, arith, ◌⊎◌, inl, inr}
use Rattle.std.specs.Prelude.{ℤ, slice_set, get_or, nat_le}
use Rattle.std.specs.Option.{option_map}
use Rattle.std.specs.Ordering.{int_eq}
use Rattle.std.proofs.lemmas.Bool.Decides.{nat_tests}
use Rattle.frag_chunks.specs.declared.gather.Added.{Added}
use Rattle.frag_chunks.specs.declared.gather.Added.TheVariants as added
use Rattle.frag_chunks.specs.declared.holding.PartialMessage.{PartialMessage}
use Rattle.frag_chunks.specs.declared.holding.PartialMessage.TheVariants as holding
use Rattle.frag_chunks.specs.declared.holding.Entry.{Entry}
use Rattle.frag_chunks.specs.Places.{position}
use Rattle.frag_chunks.specs.Gathers.{Said, is_part, judged_part, judged_among, judged_all, with_part, holding_after, holding_of, with_holding, after}

none_placed : (o : Option ℕ) (i : ℕ) → option_map (λ j. suc j) o ≡ Some i → (j : ℕ) × (o ≡ Some j) × (i ≡ suc j)
none_placed None i e = absurd cc
none_placed (Some j) i e = (j, refl, cc)

holding_at_place : (k : ℤ) (es : List Entry) (i : ℕ) (d : Entry) → position k es ≡ Some i → holding_of k es ≡ Some (get_or es i d).holding
holding_at_place k [] i d e = absurd cc
holding_at_place k (x ∷ es) i d e = by (int_eq x.key k) refl (λ j. holding_at_place k es j d) e
  where
    by : (t : Bool) → int_eq x.key k ≡ t → ((j : ℕ) → position k es ≡ Some j → holding_of k es ≡ Some (get_or es j d).holding)
        → (if t then Some 0 else option_map (λ j. suc j) (position k es)) ≡ Some i → holding_of k (x ∷ es) ≡ Some (get_or (x ∷ es) i d).holding
    by true q r s = let z : 0 ≡ i = cc in ap (λ t. if t then Some x.holding else holding_of k es) q ∙ ap (λ n. Some (get_or (x ∷ es) n d).holding) z
    by false q r s =
        let n = none_placed (position k es) i s in
        ap (λ t. if t then Some x.holding else holding_of k es) q ∙ r n.0 n.1 ∙ ap (λ n. Some (get_or (x ∷ es) n d).holding) (sym n.2)

written_at_place : (k : ℤ) (h : PartialMessage) (es : List Entry) (i : ℕ) (d : Entry) → position k es ≡ Some i → slice_set es i (record { key = (get_or es i d).key; holding = h }) ≡ with_holding k h es
written_at_place k h [] i d e = absurd cc
written_at_place k h (x ∷ es) i d e = by (int_eq x.key k) refl (λ j. written_at_place k h es j d) e
  where
    by : (t : Bool) → int_eq x.key k ≡ t → ((j : ℕ) → position k es ≡ Some j → slice_set es j (record { key = (get_or es j d).key; holding = h }) ≡ with_holding k h es)
        → (if t then Some 0 else option_map (λ j. suc j) (position k es)) ≡ Some i
        → slice_set (x ∷ es) i (record { key = (get_or (x ∷ es) i d).key; holding = h }) ≡ (if t then record { key = x.key; holding = h } ∷ es else x ∷ with_holding k h es)
    by true q r s = let z : i ≡ 0 = cc in ap (λ n. slice_set (x ∷ es) n (record { key = (get_or (x ∷ es) n d).key; holding = h })) z
    by false q r s =
        let n = none_placed (position k es) i s in
        ap (λ n. slice_set (x ∷ es) n (record { key = (get_or (x ∷ es) n d).key; holding = h })) n.2 ∙ ap (λ ys. x ∷ ys) (r n.0 n.1)

pub unplaced_has_none : (k : ℤ) (es : List Entry) → position k es ≡ None → holding_of k es ≡ None
unplaced_has_none k [] e = refl
unplaced_has_none k (x ∷ es) e = by (int_eq x.key k) refl (unplaced_has_none k es) e
  where
    by : (t : Bool) → int_eq x.key k ≡ t → (position k es ≡ None → holding_of k es ≡ None) → (if t then Some 0 else option_map (λ j. suc j) (position k es)) ≡ None → holding_of k (x ∷ es) ≡ None
    by true q r s = absurd cc
    by false q r s = ap (λ t. if t then Some x.holding else holding_of k es) q ∙ r (no (position k es) s)
      where
        no : (o : Option ℕ) → option_map (λ j. suc j) o ≡ None → o ≡ None
        no None e = refl
        no (Some j) e = absurd cc

unwritten : (k : ℤ) (h : PartialMessage) (es : List Entry) → holding_of k es ≡ None → es ++ record { key = k; holding = h } ∷ [] ≡ with_holding k h es
unwritten k h [] e = refl
unwritten k h (x ∷ es) e = by (int_eq x.key k) refl (unwritten k h es) e
  where
    by : (t : Bool) → int_eq x.key k ≡ t → (holding_of k es ≡ None → es ++ record { key = k; holding = h } ∷ [] ≡ with_holding k h es) → (if t then Some x.holding else holding_of k es) ≡ None
        → x ∷ es ++ record { key = k; holding = h } ∷ [] ≡ (if t then record { key = x.key; holding = h } ∷ es else x ∷ with_holding k h es)
    by true q r s = absurd cc
    by false q r s = ap (λ ys. x ∷ ys) (r s)

-- ---- a key that is kept

pub placed_judged : (g : Said) (es : List Entry) (i : ℕ) (e : Entry) → position g.key es ≡ Some i → e ≡ get_or es i e → judged_part (Some e.holding) g ≡ judged_all g es
placed_judged g es i e p s = sym (ap (λ o. judged_among o g es) (holding_at_place g.key es i e p ∙ ap (λ x. Some x.holding) (sym s)))

same_place : (es : List Entry) (i : ℕ) (e : Entry) → e ≡ get_or es i e → slice_set es i e ≡ es
same_place [] i e s = refl
same_place (x ∷ es) zero e s = ap (λ y. y ∷ es) s
same_place (x ∷ es) (suc i) e s = ap (λ ys. x ∷ ys) (same_place es i e s)

pub placed_after : (a : Added) (g : Said) (es : List Entry) (i : ℕ) (e : Entry) → position g.key es ≡ Some i → e ≡ get_or es i e
    → slice_set es i (record { key = e.key; holding = holding_after a (Some e.holding) g e.holding }) ≡ after a g es
unfolding holding_after
placed_after added.Kept g es i e p s =
    let h : Some e.holding ≡ holding_of g.key es = ap (λ x. Some x.holding) s ∙ sym (holding_at_place g.key es i e p) in
    ap (λ o. slice_set es i (record { key = e.key; holding = with_part o g })) h
    ∙ ap (λ x. slice_set es i (record { key = x.key; holding = with_part (holding_of g.key es) g })) s
    ∙ written_at_place g.key (with_part (holding_of g.key es) g) es i e p
placed_after added.Spoiled g es i e p s =
    ap (λ x. slice_set es i (record { key = x.key; holding = holding.Spoiled })) s ∙ written_at_place g.key holding.Spoiled es i e p
placed_after added.Again g es i e p s = same_place es i e s
placed_after added.Stranger g es i e p s = same_place es i e s
placed_after added.Full g es i e p s = same_place es i e s

-- ---- a new key

pub full_new : (g : Said) (es : List Entry) → holding_of g.key es ≡ None → 64 ≤ length es → added.Full ≡ judged_all g es
full_new g es e l = let t : nat_le 64 (length es) ≡ true = grind (arith, nat_tests) in sym (ap (λ o. judged_among o g es) e ∙ ap (λ c. if c then added.Full else judged_part None g) t)

pub room_new : (g : Said) (es : List Entry) → holding_of g.key es ≡ None → length es < 64 → judged_part None g ≡ judged_all g es
room_new g es e l = let t : nat_le 64 (length es) ≡ false = grind (arith, nat_tests) in sym (ap (λ o. judged_among o g es) e ∙ ap (λ c. if c then added.Full else judged_part None g) t)

pub after_full : (g : Said) (es : List Entry) → es ≡ after added.Full g es
after_full g es = refl

new_answer : (g : Said) → (judged_part None g ≡ added.Kept) ⊎ (judged_part None g ≡ added.Spoiled)
unfolding judged_part
new_answer g = by (is_part g.index g.count (length g.piece))
  where
    by : (t : Bool) → ((if t then added.Kept else added.Spoiled) ≡ added.Kept) ⊎ ((if t then added.Kept else added.Spoiled) ≡ added.Spoiled)
    by true = inl refl
    by false = inr refl

pub after_new : (a : Added) (h : PartialMessage) (g : Said) (es : List Entry) → holding_of g.key es ≡ None → a ≡ judged_part None g → h ≡ holding_after a None g holding.Spoiled
    → es ++ record { key = g.key; holding = h } ∷ [] ≡ after a g es
unfolding holding_after
after_new a h g es e s t = by (new_answer g) s t
  where
    by : (judged_part None g ≡ added.Kept) ⊎ (judged_part None g ≡ added.Spoiled) → a ≡ judged_part None g → h ≡ holding_after a None g holding.Spoiled → es ++ record { key = g.key; holding = h } ∷ [] ≡ after a g es
    by (inl k) s t =
        let q : a ≡ added.Kept = s ∙ k in
        let p : h ≡ with_part (holding_of g.key es) g = t ∙ ap (λ x. holding_after x None g holding.Spoiled) q ∙ ap (λ o. with_part o g) (sym e) in
        ap (λ x. es ++ record { key = g.key; holding = x } ∷ []) p ∙ unwritten g.key (with_part (holding_of g.key es) g) es e ∙ ap (λ x. after x g es) (sym q)
    by (inr k) s t =
        let q : a ≡ added.Spoiled = s ∙ k in
        let p : h ≡ holding.Spoiled = t ∙ ap (λ x. holding_after x None g holding.Spoiled) q in
        ap (λ x. es ++ record { key = g.key; holding = x } ∷ []) p ∙ unwritten g.key holding.Spoiled es e ∙ ap (λ x. after x g es) (sym q)
