-- What is kept of a key beside the others.
use Rattle.std.proofs.Common.{◌≡◌, ◌≤◌, Bool, true, false, if◌then◌else◌, List, [], ◌∷◌, length, Some, None, refl, sym, ap, ◌∙◌, arith, true≢false}
use Rattle.std.specs.Prelude.{ℤ}
use Rattle.std.specs.Ordering.{int_eq}
use Rattle.std.proofs.lemmas.Bool.Decides.{Decides-int_eq}
use Rattle.frag_chunks.specs.declared.holding.PartialMessage.{PartialMessage}
use Rattle.frag_chunks.specs.declared.holding.Entry.{Entry}
use Rattle.frag_chunks.specs.Gathers.{holding_of, with_holding}

pub key_self : (k : ℤ) → int_eq k k ≡ true
key_self k = (Decides-int_eq k k).1 refl

pub key_is : (k l : ℤ) → int_eq k l ≡ true → k ≡ l
key_is k l e = (Decides-int_eq k l).0 e

pub key_not : (k l : ℤ) → int_eq k l ≡ false → k ≡ l → ⊥
key_not k l e s = true≢false (sym ((Decides-int_eq k l).1 s) ∙ e)

pub own_holding : (k : ℤ) (h : PartialMessage) (es : List Entry) → holding_of k (with_holding k h es) ≡ Some h
own_holding k h [] = ap (λ t. if t then Some h else None) (key_self k)
own_holding k h (e ∷ es) = by (int_eq e.key k) refl (own_holding k h es)
  where
    by : (t : Bool) → int_eq e.key k ≡ t → holding_of k (with_holding k h es) ≡ Some h → holding_of k (if t then record { key = e.key; holding = h } ∷ es else e ∷ with_holding k h es) ≡ Some h
    by true q r = ap (λ t. if t then Some h else holding_of k es) q
    by false q r = ap (λ t. if t then Some e.holding else holding_of k (with_holding k h es)) q ∙ r

pub other_holding : (k l : ℤ) (h : PartialMessage) (es : List Entry) → int_eq l k ≡ false → holding_of k (with_holding l h es) ≡ holding_of k es
other_holding k l h [] d = ap (λ t. if t then Some h else None) d
other_holding k l h (e ∷ es) d = by (int_eq e.key l) refl (other_holding k l h es d)
  where
    by : (t : Bool) → int_eq e.key l ≡ t → holding_of k (with_holding l h es) ≡ holding_of k es → holding_of k (if t then record { key = e.key; holding = h } ∷ es else e ∷ with_holding l h es) ≡ holding_of k (e ∷ es)
    by true q r =
        let n : int_eq e.key k ≡ false = ap (λ x. int_eq x k) (key_is e.key l q) ∙ d in
        ap (λ t. if t then Some h else holding_of k es) n ∙ sym (ap (λ t. if t then Some e.holding else holding_of k es) n)
    by false q r = ap (λ o. if int_eq e.key k then Some e.holding else o) r

pub no_fewer : (k : ℤ) (h : PartialMessage) (es : List Entry) → length es ≤ length (with_holding k h es)
no_fewer k h [] = omega arith
no_fewer k h (e ∷ es) = by (int_eq e.key k) (no_fewer k h es)
  where
    by : (t : Bool) → length es ≤ length (with_holding k h es) → length (e ∷ es) ≤ length (if t then record { key = e.key; holding = h } ∷ es else e ∷ with_holding k h es)
    by true r = omega arith
    by false r = omega arith
