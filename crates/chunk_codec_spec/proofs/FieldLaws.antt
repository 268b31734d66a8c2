use Rattle.std.proofs.Common.{◌≡◌, ℕ, zero, suc, ◌+◌, ◌^◌, ◌<◌, ◌≤◌, List, [], ◌∷◌, ◌++◌, length, take, drop, length-append, Bool, true, false, Option, Some, None, Ok, Err, ℤ, refl, sym, ◌∙◌, ap, subst, arith, lit≤}
use Rattle.std.specs.Prelude.{nat_lt, if◌then◌else◌, FitsSigned}
use Rattle.std.specs.Int.{Width, w8, w16, w32, w64, byte_len, to_be_bytes, from_be_bytes, cast_signed, cast_unsigned}
use Rattle.std.proofs.lemmas.List.{take-append-drop, length-take-le}
use Rattle.std.proofs.lemmas.Bool.{ltb-false, le-ltb}
use Rattle.std.proofs.lemmas.Nat.{be_bytes_2, be_bytes_4, be_bytes_8, from_be_bytes-to_be_bytes_2, from_be_bytes-to_be_bytes_4, from_be_bytes-to_be_bytes_8}
use Rattle.wire_bytes.specs.Fields.{IsBytes, after}
use Rattle.chunk_codec_spec.specs.declared.fault.SpellFault.{SpellFault}
use Rattle.chunk_codec_spec.specs.Scan.{Scan, Reader, whole, number_field, bytes_field, int_field, known_tag, allowed_or_fault}
use mir.Val.{bits}
use mir.ValLaws as laws
use Rattle.std.proofs.lemmas.Int.{of_z-to_z, to_z-of_z}
use Rattle.containers.proofs.Binds.{ok_inj}
use Rattle.chunk_codec_spec.proofs.Took.{Took, Took-as, scan_is}

pub take-front : (xs ys : List ℕ) → take (length xs) (xs ++ ys) ≡ xs
take-front [] ys = refl
take-front (x ∷ xs) ys = ap (λ l. x ∷ l) (take-front xs ys)

pub drop-front : (xs ys : List ℕ) → drop (length xs) (xs ++ ys) ≡ ys
drop-front [] ys = refl
drop-front (x ∷ xs) ys = drop-front xs ys

pub IsBytes-front : (xs ys : List ℕ) → IsBytes (xs ++ ys) → IsBytes xs
IsBytes-front [] ys h i = lit≤ tt
IsBytes-front (x ∷ xs) ys h zero = h 0
IsBytes-front (x ∷ xs) ys h (suc i) = IsBytes-front xs ys (λ j. h (suc j)) i

-- what is read from the next k bytes
abbrev pub cut : {A : Type 0} → ℕ → (List ℕ → A) → Reader A
cut k make f = whole (if nat_lt (length f.front.rest) k then Err f.front.at else Ok (make (take k f.front.rest), after k f.front)) f

pub record Cut {A : Type 0} (k : ℕ) (make : List ℕ → A) (f : Scan) (x : A) (g : Scan) : Type 0 where
  pub enough : k ≤ length f.front.rest
  pub value : x ≡ make (take k f.front.rest)
  pub took : Took f (take k f.front.rest) 0 g

pub cut_takes : {A : Type 0} (k : ℕ) (make : List ℕ → A) (f g : Scan) (x : A) → cut k make f ≡ Ok (x, g) → Cut k make f x g
cut_takes {A} k make f g x h = by_test (nat_lt (length f.front.rest) k) refl h
  where
    by_test : (b : Bool) → nat_lt (length f.front.rest) k ≡ b → whole (if b then Err f.front.at else Ok (make (take k f.front.rest), after k f.front)) f ≡ Ok (x, g) → Cut k make f x g
    by_test true e h = cc
    by_test false e h =
        let pair = ok_inj h in
        let enough : k ≤ length f.front.rest = ltb-false (length f.front.rest) k e in
        let t : Took f (take k f.front.rest) 0 (record f { front = after k f.front }) = record {
          parts = sym (take-append-drop k f.front.rest);
          place = let l = length-take-le k f.front.rest enough in ap (λ n. f.front.at + n) (sym l);
          count = omega arith;
        } in
        let P : Scan → Type 0 = λ s. Took f (take k f.front.rest) 0 s in
        record { enough = enough; value = sym (ap (λ p. p.0) pair); took = subst P (ap (λ p. p.1) pair) t }

pub cut_again : {A : Type 0} (k : ℕ) (make : List ℕ → A) (f g : Scan) (bs : List ℕ) → length bs ≡ k → Took f bs 0 g → cut k make f ≡ Ok (make bs, g)
cut_again {A} k make f g bs e t =
    let rest : f.front.rest ≡ bs ++ g.front.rest = t.parts in
    let front : take k f.front.rest ≡ bs = (λ i. take (sym e i) (rest i)) ∙ take-front bs g.front.rest in
    let back : drop k f.front.rest ≡ g.front.rest = (λ i. drop (sym e i) (rest i)) ∙ drop-front bs g.front.rest in
    let l = length-append bs g.front.rest in
    let m : length f.front.rest ≡ length (bs ++ g.front.rest) = ap length rest in
    let long : k ≤ length f.front.rest = omega (arith, l, m, e) in
    let test : nat_lt (length f.front.rest) k ≡ false = le-ltb (length f.front.rest) k long in
    let place : g.front.at ≡ f.front.at + k = omega (arith, t.place, e) in
    let count : g.nodes ≡ f.nodes = omega (arith, t.count) in
    let end : record f { front = after k f.front } ≡ g = sym (scan_is g (f.front.at + k) f.nodes (drop k f.front.rest) place (sym back) count) in
    let by_test : cut k make f ≡ whole (Ok (make (take k f.front.rest), after k f.front)) f = (λ i. whole (if test i then Err f.front.at else Ok (make (take k f.front.rest), after k f.front)) f) in
    by_test ∙ (λ i. Ok (make (front i), end i))

-- ---- numbers

pub record Wide (w : Width) : Type 0 where
  pub spelled : (bs : List ℕ) → length bs ≡ byte_len w → IsBytes bs → to_be_bytes w (from_be_bytes w bs) ≡ bs
  pub below : (bs : List ℕ) → length bs ≡ byte_len w → IsBytes bs → from_be_bytes w bs < 2 ^ bits w
  pub read : (n : ℕ) → n < 2 ^ bits w → from_be_bytes w (to_be_bytes w n) ≡ n
  pub long : (n : ℕ) → length (to_be_bytes w n) ≡ byte_len w

pub wide16 : Wide w16
wide16 = record {
  spelled = λ bs e h. be_bytes_2 bs _ e h refl;
  below = λ bs e h. let a = h 0 in let b = h 1 in omega arith;
  read = from_be_bytes-to_be_bytes_2;
  long = λ n. refl;
}

pub wide32 : Wide w32
wide32 = record {
  spelled = λ bs e h. be_bytes_4 bs _ e h refl;
  below = λ bs e h. let a = h 0 in let b = h 1 in let c = h 2 in let d = h 3 in omega arith;
  read = from_be_bytes-to_be_bytes_4;
  long = λ n. refl;
}

pub wide64 : Wide w64
wide64 = record {
  spelled = λ bs e h. be_bytes_8 bs _ e h refl;
  below = λ bs e h. let a0 = h 0 in let a1 = h 1 in let a2 = h 2 in let a3 = h 3 in let a4 = h 4 in let a5 = h 5 in let a6 = h 6 in let a7 = h 7 in omega arith;
  read = from_be_bytes-to_be_bytes_8;
  long = λ n. refl;
}

pub number_takes : (w : Width) → Wide w → (f g : Scan) (n : ℕ) → IsBytes f.front.rest → number_field w f ≡ Ok (n, g) → Took f (to_be_bytes w n) 0 g × (n < 2 ^ bits w)
unfolding number_field
number_takes w law f g n h e =
    let c = cut_takes (byte_len w) (from_be_bytes w) f g n e in
    let bs : List ℕ = take (byte_len w) f.front.rest in
    let long : length bs ≡ byte_len w = length-take-le (byte_len w) f.front.rest c.enough in
    let bytes : IsBytes bs = IsBytes-front bs g.front.rest (subst IsBytes c.took.parts h) in
    let spelled : bs ≡ to_be_bytes w n = sym (law.spelled bs long bytes) ∙ ap (to_be_bytes w) (sym c.value) in
    let P : ℕ → Type 0 = λ m. m < 2 ^ bits w in
    (Took-as spelled refl c.took, subst P (sym c.value) (law.below bs long bytes))

pub number_again : (w : Width) → Wide w → (f g : Scan) (n : ℕ) → n < 2 ^ bits w → Took f (to_be_bytes w n) 0 g → number_field w f ≡ Ok (n, g)
unfolding number_field
number_again w law f g n h t =
    cut_again (byte_len w) (from_be_bytes w) f g (to_be_bytes w n) (law.long n) t ∙ (λ i. Ok (law.read n h i, g))

-- a byte stands for itself
pub byte_takes : (f g : Scan) (n : ℕ) → IsBytes f.front.rest → number_field w8 f ≡ Ok (n, g) → Took f (n ∷ []) 0 g × (n < 256)
unfolding number_field
byte_takes f g n h e =
    let c = cut_takes 1 (from_be_bytes w8) f g n e in
    let one : take 1 f.front.rest ≡ n ∷ [] = single f.front.rest c.enough c.value in
    let bytes : IsBytes (take 1 f.front.rest) = IsBytes-front (take 1 f.front.rest) g.front.rest (subst IsBytes c.took.parts h) in
    (Took-as one refl c.took, let P : ℕ → Type 0 = λ m. m < 256 in subst P (sym c.value) (bytes 0))
  where
    single : (xs : List ℕ) → 1 ≤ length xs → n ≡ from_be_bytes w8 (take 1 xs) → take 1 xs ≡ n ∷ []
    single [] l q = absurd (omega (arith, l))
    single (x ∷ xs) l q = ap (λ y. y ∷ []) (sym q)

pub byte_again : (f g : Scan) (n : ℕ) → Took f (n ∷ []) 0 g → number_field w8 f ≡ Ok (n, g)
unfolding number_field
byte_again f g n t = cut_again 1 (from_be_bytes w8) f g (n ∷ []) refl t

pub int_takes : (f g : Scan) (z : ℤ) → IsBytes f.front.rest → int_field f ≡ Ok (z, g) → Took f (to_be_bytes w64 (cast_unsigned w64 z)) 0 g × FitsSigned w64 z
unfolding int_field
int_takes f g z h e =
    let c = cut_takes 8 (λ bs. cast_signed w64 (from_be_bytes w64 bs)) f g z e in
    let bs : List ℕ = take 8 f.front.rest in
    let long : length bs ≡ 8 = length-take-le 8 f.front.rest c.enough in
    let bytes : IsBytes bs = IsBytes-front bs g.front.rest (subst IsBytes c.took.parts h) in
    let n : ℕ = from_be_bytes w64 bs in
    let small : n < 2 ^ bits w64 = wide64.below bs long bytes in
    let same : n ≡ cast_unsigned w64 z = sym (of_z-to_z w64 n small) ∙ ap (cast_unsigned w64) (sym c.value) in
    let spelled : bs ≡ to_be_bytes w64 (cast_unsigned w64 z) = sym (wide64.spelled bs long bytes) ∙ ap (to_be_bytes w64) same in
    let P : ℤ → Type 0 = FitsSigned w64 in
    (Took-as spelled refl c.took, subst P (sym c.value) (laws.to_z-Fits w64 n (record { fits = small })))

pub int_again : (f g : Scan) (z : ℤ) → FitsSigned w64 z → Took f (to_be_bytes w64 (cast_unsigned w64 z)) 0 g → int_field f ≡ Ok (z, g)
unfolding int_field
int_again f g z h t =
    let n : ℕ = cast_unsigned w64 z in
    cut_again 8 (λ bs. cast_signed w64 (from_be_bytes w64 bs)) f g (to_be_bytes w64 n) (wide64.long n) t
    ∙ (λ i. Ok (cast_signed w64 (wide64.read n (laws.of_z_fits w64 z h).fits i), g)) ∙ (λ i. Ok (to_z-of_z w64 z h i, g))

pub bytes_takes : (k : ℕ) (f g : Scan) (bs : List ℕ) → bytes_field k f ≡ Ok (bs, g) → Took f bs 0 g × (length bs ≡ k)
unfolding bytes_field
bytes_takes k f g bs e =
    let c = cut_takes k (λ xs. xs) f g bs e in
    (Took-as (sym c.value) refl c.took, ap length c.value ∙ length-take-le k f.front.rest c.enough)

pub bytes_again : (f g : Scan) (bs : List ℕ) → Took f bs 0 g → bytes_field (length bs) f ≡ Ok (bs, g)
unfolding bytes_field
bytes_again f g bs t = cut_again (length bs) (λ xs. xs) f g bs refl t

-- ---- judgements

pub known_ok : {T : Type 0} (o : Option T) (at : ℕ) (s g : Scan) (t : T) → known_tag o at s ≡ Ok (t, g) → (o ≡ Some t) × (s ≡ g)
known_ok (Some u) at s g t e = let p = ok_inj e in (ap (λ q. Some q.0) p, ap (λ q. q.1) p)
known_ok None at s g t e = cc

pub known_is : {T : Type 0} (o : Option T) (at : ℕ) (s : Scan) (t : T) → o ≡ Some t → known_tag o at s ≡ Ok (t, s)
known_is o at s t e = ap (λ p. known_tag p at s) e

pub allowed_ok : {A : Type 0} (b : Bool) (e : SpellFault) (x y : A × Scan) → allowed_or_fault b e x ≡ Ok y → (b ≡ true) × (x ≡ y)
allowed_ok true e x y h = (refl, ok_inj h)
allowed_ok false e x y h = cc

pub allowed_is : {A : Type 0} (b : Bool) (e : SpellFault) (x : A × Scan) → b ≡ true → allowed_or_fault b e x ≡ Ok x
allowed_is b e x h = ap (λ c. allowed_or_fault c e x) h
