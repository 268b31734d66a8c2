-- What stands at the front of bytes: lines, and texts up to a sign.
use Rattle.std.proofs.Common.{◌≡◌, ◌≢◌, ℕ, suc, ◌+◌, ◌<◌, Bool, true, false, not, ◌&&◌, eqb, List, [], ◌∷◌, ◌++◌, length, length-append, refl, sym, subst, ap, ◌∙◌, arith}
use Rattle.std.proofs.lemmas.Bool.{not-true}
use Rattle.std.proofs.lemmas.Bool.Decides.{nat_tests}
use Rattle.containers.proofs.Bools.{both_true, and_both}
use Rattle.trace_chart_picture.specs.Cuts.{before, after}
use Rattle.trace_chart_picture.specs.Reads.{lacks, IsNext, HasNoLine}
use Rattle.trace_chart_picture.specs.Traces.{as_line}

same_of : (b sign : ℕ) → eqb b sign ≡ true → sign ≡ b
same_of b sign e = grind (arith, nat_tests)

-- a text in front of a sign that it lacks
pub before_sign : (sign : ℕ) (text more : List ℕ) → lacks sign text ≡ true → before sign (text ++ sign ∷ more) ≡ text
before_sign sign [] more k = rw (same_test sign) refl
  where
    same_test : (n : ℕ) → eqb n n ≡ true
    same_test n = grind (arith, nat_tests)
before_sign sign (b ∷ bs) more k =
    let both = both_true (not (eqb b sign)) (lacks sign bs) k in
    rw (not-true (eqb b sign) both.0) (ap (λ (z : List ℕ). b ∷ z) (before_sign sign bs more both.1))

pub after_sign : (sign : ℕ) (text more : List ℕ) → lacks sign text ≡ true → after sign (text ++ sign ∷ more) ≡ more
after_sign sign [] more k = rw (same_test sign) refl
  where
    same_test : (n : ℕ) → eqb n n ≡ true
    same_test n = grind (arith, nat_tests)
after_sign sign (b ∷ bs) more k =
    let both = both_true (not (eqb b sign)) (lacks sign bs) k in
    rw (not-true (eqb b sign) both.0) (after_sign sign bs more both.1)

-- a text that lacks the sign
pub before_none : (sign : ℕ) (text : List ℕ) → lacks sign text ≡ true → before sign text ≡ text
before_none sign [] k = refl
before_none sign (b ∷ bs) k =
    let both = both_true (not (eqb b sign)) (lacks sign bs) k in
    rw (not-true (eqb b sign) both.0) (ap (λ (z : List ℕ). b ∷ z) (before_none sign bs both.1))

pub after_none : (sign : ℕ) (text : List ℕ) → lacks sign text ≡ true → after sign text ≡ []
after_none sign [] k = refl
after_none sign (b ∷ bs) k =
    let both = both_true (not (eqb b sign)) (lacks sign bs) k in
    rw (not-true (eqb b sign) both.0) (after_none sign bs both.1)

-- ---- lines

pub line_front : (line more : List ℕ) → as_line line ++ more ≡ line ++ 10 ∷ more
line_front [] more = refl
line_front (b ∷ bs) more = ap (λ (z : List ℕ). b ∷ z) (line_front bs more)

before_here : (sign b : ℕ) (bs : List ℕ) → eqb b sign ≡ true → before sign (b ∷ bs) ≡ []
before_here sign b bs e = rw e refl

before_later : (sign b : ℕ) (bs : List ℕ) → eqb b sign ≡ false → before sign (b ∷ bs) ≡ b ∷ before sign bs
before_later sign b bs e = rw e refl

lacks_more : (sign b : ℕ) (bs : List ℕ) → eqb b sign ≡ false → lacks sign bs ≡ true → lacks sign (b ∷ bs) ≡ true
lacks_more sign b bs e k = and_both (not (eqb b sign)) (lacks sign bs) (rw e refl) k

front_lacks_by : (x : Bool) (sign b : ℕ) (bs : List ℕ) → eqb b sign ≡ x → lacks sign (before sign bs) ≡ true → lacks sign (before sign (b ∷ bs)) ≡ true
front_lacks_by true sign b bs e k = ap (lacks sign) (before_here sign b bs e)
front_lacks_by false sign b bs e k = ap (lacks sign) (before_later sign b bs e) ∙ lacks_more sign b (before sign bs) e k

front_lacks : (sign : ℕ) (text : List ℕ) → lacks sign (before sign text) ≡ true
front_lacks sign [] = refl
front_lacks sign (b ∷ bs) = front_lacks_by (eqb b sign) sign b bs refl (front_lacks sign bs)

whole_lacks_by : (x : Bool) (sign b : ℕ) (bs : List ℕ) → eqb b sign ≡ x
    → (length (before sign bs) ≡ length bs → lacks sign bs ≡ true) → length (before sign (b ∷ bs)) ≡ length (b ∷ bs) → lacks sign (b ∷ bs) ≡ true
whole_lacks_by true sign b bs e k same =
    let none : 0 ≡ suc (length bs) = sym (ap length (before_here sign b bs e)) ∙ same in
    absurd (omega (arith, none))
whole_lacks_by false sign b bs e k same =
    let one : suc (length (before sign bs)) ≡ suc (length bs) = sym (ap length (before_later sign b bs e)) ∙ same in
    lacks_more sign b bs e (k (omega (arith, one)))

whole_lacks : (sign : ℕ) (text : List ℕ) → length (before sign text) ≡ length text → lacks sign text ≡ true
whole_lacks sign [] same = refl
whole_lacks sign (b ∷ bs) same = whole_lacks_by (eqb b sign) sign b bs refl (whole_lacks sign bs) same

split_by : (x : Bool) (sign b : ℕ) (bs : List ℕ) → eqb b sign ≡ x
    → (length (before sign bs) ≢ length bs → before sign bs ++ sign ∷ after sign bs ≡ bs)
    → length (before sign (b ∷ bs)) ≢ length (b ∷ bs) → before sign (b ∷ bs) ++ sign ∷ after sign (b ∷ bs) ≡ b ∷ bs
split_by true sign b bs e k other = rw e (ap (λ (z : ℕ). z ∷ bs) (same_of b sign e))
split_by false sign b bs e k other = rw e (ap (λ (z : List ℕ). b ∷ z) (k (λ h. other (rw e (ap suc h)))))

split : (sign : ℕ) (text : List ℕ) → length (before sign text) ≢ length text → before sign text ++ sign ∷ after sign text ≡ text
split sign [] other = absurd (other refl)
split sign (b ∷ bs) other = split_by (eqb b sign) sign b bs refl (split sign bs) other

found : (line more : List ℕ) → lacks 10 (line ++ 10 ∷ more) ≡ false
found [] more = refl
found (b ∷ bs) more = rw (found bs more) (and_false (not (eqb b 10)))
  where
    and_false : (x : Bool) → (x && false) ≡ false
    and_false true = refl
    and_false false = refl

-- bytes without a line feed begin with no line
pub no_line : (bytes : List ℕ) → length (before 10 bytes) ≡ length bytes → HasNoLine bytes
no_line bytes same line more e =
    let none : lacks 10 bytes ≡ true = whole_lacks 10 bytes same in
    let one : lacks 10 bytes ≡ false = ap (lacks 10) (sym (sym (line_front line more) ∙ e)) ∙ found line more in
    true_not (lacks 10 bytes) none one
  where
    true_not : (x : Bool) → x ≡ true → x ≡ false → ⊥
    true_not true a b = absurd cc
    true_not false a b = absurd cc

-- others begin with the one in front of the first line feed
pub next : (bytes : List ℕ) → length (before 10 bytes) ≢ length bytes → IsNext bytes (before 10 bytes) (after 10 bytes)
next bytes other = record {
  whole = line_front (before 10 bytes) (after 10 bytes) ∙ split 10 bytes other;
  one = front_lacks 10 bytes;
  only = λ l more k e. sym (before_sign 10 l more k) ∙ ap (before 10) (sym (line_front l more) ∙ e);
}

pub next_shorter : (bytes : List ℕ) → length (before 10 bytes) ≢ length bytes → length (after 10 bytes) < length bytes
next_shorter bytes other =
    let e : length (before 10 bytes) + suc (length (after 10 bytes)) ≡ length bytes
    = sym (length-append (before 10 bytes) (10 ∷ after 10 bytes)) ∙ ap length (split 10 bytes other) in
    omega (arith, e)

-- the same of what a function found
pub next_of : (bytes line rest : List ℕ) → line ≡ before 10 bytes → rest ≡ after 10 bytes → length line ≢ length bytes → IsNext bytes line rest
next_of bytes line rest a b other =
    subst (λ (l : List ℕ). IsNext bytes l rest) (sym a) (subst (λ (r : List ℕ). IsNext bytes (before 10 bytes) r) (sym b)
    (next bytes (λ e. other (ap length a ∙ e))))
