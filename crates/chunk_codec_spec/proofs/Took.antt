use Rattle.std.proofs.Common.{◌≡◌, ℕ, suc, ◌+◌, List, [], ◌∷◌, ◌++◌, length, refl, sym, ◌∙◌, ap, subst, append_assoc, length-append, arith}
use Rattle.wire_bytes.specs.Fields.{IsBytes}
use Rattle.chunk_codec_spec.specs.Scan.{Scan}

-- from f to g stand these bytes, with so many expressions in them
pub record Took (f : Scan) (bytes : List ℕ) (nodes : ℕ) (g : Scan) : Type 0 where
  pub parts : f.front.rest ≡ bytes ++ g.front.rest
  pub place : g.front.at ≡ f.front.at + length bytes
  pub count : g.nodes ≡ f.nodes + nodes

-- what is behind bytes is bytes
pub IsBytes-behind : (xs ys : List ℕ) → IsBytes (xs ++ ys) → IsBytes ys
IsBytes-behind [] ys h = h
IsBytes-behind (x ∷ xs) ys h = IsBytes-behind xs ys (λ i. h (suc i))

pub Took-bytes : {f g : Scan} {bytes : List ℕ} {n : ℕ} → Took f bytes n g → IsBytes f.front.rest → IsBytes g.front.rest
Took-bytes {f} {g} {bytes} t h = IsBytes-behind bytes g.front.rest (subst IsBytes t.parts h)

pub Took-none : (f : Scan) → Took f [] 0 f
Took-none f = record { parts = refl; place = omega arith; count = omega arith }

-- one after another
pub Took-then : {f m g : Scan} {xs ys : List ℕ} {a b : ℕ} → Took f xs a m → Took m ys b g → Took f (xs ++ ys) (a + b) g
Took-then {f} {m} {g} {xs} {ys} t u = record {
  parts = t.parts ∙ ap (λ l. xs ++ l) u.parts ∙ sym (append_assoc xs ys g.front.rest);
  place = let e = length-append xs ys in omega (arith, t.place, u.place, e);
  count = omega (arith, t.count, u.count);
}

-- where the first bytes end
abbrev pub between : Scan → List ℕ → List ℕ → ℕ → Scan → Scan
between f xs ys a g = record { front = record { at = f.front.at + length xs; rest = ys ++ g.front.rest }; nodes = f.nodes + a }

pub Took-first : (f g : Scan) (xs ys : List ℕ) (a b : ℕ) → Took f (xs ++ ys) (a + b) g → Took f xs a (between f xs ys a g)
Took-first f g xs ys a b t = record { parts = t.parts ∙ append_assoc xs ys g.front.rest; place = refl; count = refl }

pub Took-second : (f g : Scan) (xs ys : List ℕ) (a b : ℕ) → Took f (xs ++ ys) (a + b) g → Took (between f xs ys a g) ys b g
Took-second f g xs ys a b t = record {
  parts = refl;
  place = let e = length-append xs ys in omega (arith, t.place, e);
  count = omega (arith, t.count);
}

-- the same bytes and count under other names
pub Took-as : {f g : Scan} {xs ys : List ℕ} {a b : ℕ} → xs ≡ ys → a ≡ b → Took f xs a g → Took f ys b g
Took-as {f} {g} {xs} {ys} {a} {b} e h t = let P : List ℕ → Type 0 = λ l. Took f l b g in let Q : ℕ → Type 0 = λ n. Took f xs n g in subst P e (subst Q h t)

-- a scan by its parts
pub scan_is : (g : Scan) (at n : ℕ) (rest : List ℕ) → g.front.at ≡ at → g.front.rest ≡ rest → g.nodes ≡ n → g ≡ record { front = record { at = at; rest = rest }; nodes = n }
scan_is g at n rest e h k = λ i. record { front = record { at = e i; rest = h i }; nodes = k i }
