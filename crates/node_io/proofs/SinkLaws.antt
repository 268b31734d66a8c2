-- Writings one after the other.
use Rattle.std.proofs.Common.{◌≡◌, ℕ, zero, suc, ◌+◌, ◌-◌, ◌≤◌, List, [], ◌∷◌, ◌++◌, length, take, drop, refl, sym, ap, subst, ◌∙◌, IsTrue, arith, append-nil, append_assoc, length-drop}
use Rattle.std.proofs.Math.Seq.{take-add, take-length, take-append-add}
use Rattle.node_io.specs.Sinks.{SinkState, Writes, WritesPrefix, WritesSome, WritesNone, FailsIn}

-- nothing yet
pub writes_none : (s : SinkState) → Writes s s []
writes_none s = record { same = refl; later = omega arith; taken = λ _. sym (append-nil s.taken) }

-- one after the other
pub writes_both : (a b c : SinkState) (x y : List ℕ) → Writes a b x → Writes b c y → Writes a c (x ++ y)
writes_both a b c x y u v = record {
  same = v.same ∙ u.same;
  later = omega (arith, u.later, v.later);
  taken = λ t. v.taken (subst IsTrue (sym u.same) t) ∙ ap (λ l. l ++ y) (u.taken t) ∙ append_assoc a.taken x y;
}

pub rest_is : (at : ℕ) (bytes : List ℕ) → take (length bytes - at) (drop at bytes) ≡ drop at bytes
rest_is at bytes = ap (λ m. take m (drop at bytes)) (sym (length-drop at bytes)) ∙ take-length (drop at bytes)

-- some more of the bytes
pub writes_more : (a b c : SinkState) (bytes : List ℕ) (at n : ℕ) → Writes a b (take at bytes) → WritesSome b c (take (length bytes - at) (drop at bytes)) n → Writes a c (take (at + n) bytes)
writes_more a b c bytes at n u v =
    subst (Writes a c) (ap (λ l. take at bytes ++ take n l) (rest_is at bytes) ∙ sym (take-add at n bytes)) (writes_both a b c (take at bytes) (take n (take (length bytes - at) (drop at bytes))) u v.is)

-- no more of them
pub fails_at : (a b c : SinkState) (bytes : List ℕ) (at : ℕ) → Writes a b (take at bytes) → WritesNone b c → FailsIn a c bytes
fails_at a b c bytes at u v = record {
  count = at;
  is = subst (Writes a c) (append-nil (take at bytes)) (writes_both a b c (take at bytes) [] u v.is);
  rose = omega (arith, u.later, v.rose);
}

pub some_within : (b c : SinkState) (bytes : List ℕ) (at n : ℕ) → at ≤ length bytes → WritesSome b c (take (length bytes - at) (drop at bytes)) n → at + n ≤ length bytes
some_within b c bytes at n h v = omega (arith, h, subst (λ m. n ≤ m) (ap length (rest_is at bytes) ∙ length-drop at bytes) v.within)

-- these bytes by another name
pub writes_as : (a b : SinkState) (x y : List ℕ) → x ≡ y → Writes a b x → Writes a b y
writes_as a b x y e w = subst (Writes a b) e w

pub fails_as : (a b : SinkState) (x y : List ℕ) → x ≡ y → FailsIn a b x → FailsIn a b y
fails_as a b x y e f = subst (FailsIn a b) e f

-- some bytes, and then a failure in what follows
pub fails_more : (a b c : SinkState) (x y : List ℕ) → Writes a b x → FailsIn b c y → FailsIn a c (x ++ y)
fails_more a b c x y u f = record {
  count = length x + f.count;
  is = subst (Writes a c) (sym (take-append-add x y f.count)) (writes_both a b c x (take f.count y) u f.is);
  rose = omega (arith, u.later, f.rose);
}

-- a prefix of a list is one of every list that goes on from it
pub front_longer : {A : Type 0} (n : ℕ) (xs ys : List A) → (m : ℕ) × (take n xs ≡ take m (xs ++ ys))
front_longer zero xs ys = (0, refl)
front_longer (suc n) [] ys = (0, refl)
front_longer (suc n) (x ∷ xs) ys = let more = front_longer n xs ys in (suc more.0, ap (λ l. x ∷ l) more.1)

pub fails_longer : (a b : SinkState) (x y : List ℕ) → FailsIn a b x → FailsIn a b (x ++ y)
fails_longer a b x y f = let more = front_longer f.count x y in record { count = more.0; is = subst (Writes a b) more.1 f.is; rose = f.rose }

-- ---- prefixes

pub prefix_none : (s : SinkState) (x : List ℕ) → WritesPrefix s s x
prefix_none s x = record { count = 0; is = writes_none s }

pub prefix_as : (a b : SinkState) (x y : List ℕ) → x ≡ y → WritesPrefix a b x → WritesPrefix a b y
prefix_as a b x y e f = subst (WritesPrefix a b) e f

pub prefix_more : (a b c : SinkState) (x y : List ℕ) → Writes a b x → WritesPrefix b c y → WritesPrefix a c (x ++ y)
prefix_more a b c x y u f = record {
  count = length x + f.count;
  is = subst (Writes a c) (sym (take-append-add x y f.count)) (writes_both a b c x (take f.count y) u f.is);
}

pub prefix_longer : (a b : SinkState) (x y : List ℕ) → WritesPrefix a b x → WritesPrefix a b (x ++ y)
prefix_longer a b x y f = let more = front_longer f.count x y in record { count = more.0; is = subst (Writes a b) more.1 f.is }

pub prefix_all : (a b : SinkState) (x : List ℕ) → Writes a b x → WritesPrefix a b x
prefix_all a b x w = record { count = length x; is = subst (Writes a b) (sym (take-length x)) w }
