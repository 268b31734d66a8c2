-- The parts in order, and the sum of their bounds.
use Rattle.std.proofs.Common.{◌≡◌, ℕ, zero, suc, ◌+◌, ◌-◌, ◌*◌, ◌/◌, ◌%◌, ◌≤◌, ◌<◌, Bool, true, false, if◌then◌else◌, List, [], ◌∷◌, ◌++◌, length, take, drop, refl, sym, ap, ◌∙◌, arith, append_assoc}
use Rattle.std.specs.Prelude.{min, nat_lt, All, Ok, Some, None, ℤ}
use Rattle.std.proofs.lemmas.List.Elements.{All-nil, All-cons}
use Rattle.std.proofs.lemmas.List.{append-nil, take_all, length-drop}
use Rattle.std.proofs.lemmas.Nat.{div-add-mod'}
use Rattle.std.proofs.lemmas.Nat.{mod_below}
use Rattle.std.proofs.lemmas.Bool.Decides.{nat_tests}
use Rattle.plan_base.specs.declared.ids.Host.{Host}
use Rattle.plan_base.specs.declared.tree.Program.{Program}
use Rattle.plan_meaning.specs.Meaning.{is_paid, bound_of}
use Rattle.program_text.specs.Texts.{program_of}
use Rattle.frag_chunks.specs.declared.cutting.PartId.{PartId}
use Rattle.frag_chunks.specs.declared.cutting.Part.{Part}
use Rattle.frag_chunks.specs.Parts.{IsMessage, parts_in, piece_of, share, part, parts_from, cut_of, bounds, part_text, address, parts_by, parts_for, HasBound}

-- what is still to come from an index on
pub parts_next : (code : Program) (n : ℕ) (a : PartId) (b : List ℕ) (m i : ℕ) → i < m → parts_from code n a b m i (m - i) ≡ part code n a b m i ∷ parts_from code n a b m (i + 1) (m - (i + 1))
parts_next code n a b m i h = by (m - i) (m - (i + 1)) (omega arith)
  where
    by : (k j : ℕ) → k ≡ j + 1 → parts_from code n a b m i k ≡ part code n a b m i ∷ parts_from code n a b m (i + 1) j
    by zero j e = absurd (omega arith)
    by (suc k) j e = let s : k ≡ j = omega arith in ap (λ x. part code n a b m i ∷ parts_from code n a b m (i + 1) x) s

pub parts_none : (code : Program) (n : ℕ) (a : PartId) (b : List ℕ) (m : ℕ) → parts_from code n a b m m (m - m) ≡ []
parts_none code n a b m = let s : m - m ≡ 0 = omega arith in ap (parts_from code n a b m m) s

-- ---- bounds

-- the bounds of k parts from index i on
bounds_from : (code : Program) (n : ℕ) (a : PartId) (b : List ℕ) (m i k : ℕ) → bounds (parts_from code n a b m i k) + min i (n % m) ≡ k * (n / m) + min (i + k) (n % m)
bounds_from code n a b m i zero = let s : i + 0 ≡ i = omega arith in let z : 0 * (n / m) ≡ 0 = omega arith in omega (arith, ap (λ x. min x (n % m)) s, z)
bounds_from code n a b m i (suc k) = by (nat_lt i (n % m)) refl (bounds_from code n a b m (i + 1) k)
  where
    q : ℕ
    q = n / m

    r : ℕ
    r = n % m

    more : suc k * q ≡ k * q + q
    more = omega arith

    by : (t : Bool) → nat_lt i (n % m) ≡ t → bounds (parts_from code n a b m (i + 1) k) + min (i + 1) (n % m) ≡ k * (n / m) + min (i + 1 + k) (n % m)
        → (n / m + (if t then 1 else 0)) + bounds (parts_from code n a b m (i + 1) k) + min i (n % m) ≡ suc k * (n / m) + min (i + suc k) (n % m)
    by true e h = let l : i < n % m = grind (arith, nat_tests) in omega (arith, h, l, more)
    by false e h = let l : n % m ≤ i = grind (arith, nat_tests) in omega (arith, h, l, more)

-- a message's parts share the whole bound
pub bounds_all : (code : Program) (n : ℕ) (a : PartId) (b : List ℕ) → IsMessage b → bounds (cut_of code n a b) ≡ n
unfolding cut_of
bounds_all code n a b m = whole (parts_in (length b)) (omega (arith, m.some))
  where
    whole : (k : ℕ) → 1 ≤ k → bounds (parts_from code n a b k 0 k) ≡ n
    whole k l =
        let s = bounds_from code n a b k 0 k in
        let d = div-add-mod' n k in
        let c : n / k * k ≡ k * (n / k) = omega arith in
        let r : n % k < k = mod_below n k (omega arith) in
        omega (arith, s, d, c, r)

-- no part has more than all of them
pub bounds_small : (n : ℕ) (ps : List Part) → bounds ps ≡ n → n ≤ 65535 → All HasBound ps
bounds_small n [] e h = All-nil HasBound
bounds_small n (p ∷ ps) e h = All-cons HasBound p ps (omega (arith, e, h)) (bounds_small (bounds ps) ps refl (omega (arith, e, h)))

-- a bound that is paid is the one of its number
pub bound_is : (n : ℤ) (holds m : ℕ) → Some m ≡ (if is_paid n holds then Some (bound_of n) else None) → m ≡ bound_of n
bound_is n holds m e = by (is_paid n holds) e
  where
    by : (t : Bool) → Some m ≡ (if t then Some (bound_of n) else None) → m ≡ bound_of n
    by true e = cc
    by false e = absurd cc

-- the program that was read is the one that the text says
pub parts_are : (code : Program) (n : ℤ) (dest : Host) (port : ℕ) (key : ℤ) (b : List ℕ) → program_of part_text ≡ Ok code → cut_of code (bound_of n) (address dest port key) b ≡ parts_for n dest port key b
unfolding parts_for
parts_are code n dest port key b e = sym (ap (λ r. parts_by r (bound_of n) (address dest port key) b) e)

-- ---- the loop

pub last_piece : (b : List ℕ) (i : ℕ) → length b - 8192 * i < 8192 → take (length b - 8192 * i) (drop (8192 * i) b) ≡ piece_of b i
last_piece b i h = take_all (length b - 8192 * i) (drop (8192 * i) b) (omega (arith, length-drop (8192 * i) b)) ∙ sym (take_all 8192 (drop (8192 * i) b) (omega (arith, length-drop (8192 * i) b)))

pub part_step : (code : Program) (n : ℕ) (a : PartId) (b : List ℕ) (m i : ℕ) (ps all : List Part) → ps ++ parts_from code n a b m i (m - i) ≡ all → i < m
    → (ps ++ part code n a b m i ∷ []) ++ parts_from code n a b m (i + 1) (m - (i + 1)) ≡ all
part_step code n a b m i ps all h l = append_assoc ps (part code n a b m i ∷ []) (parts_from code n a b m (i + 1) (m - (i + 1))) ∙ ap (λ xs. ps ++ xs) (sym (parts_next code n a b m i l)) ∙ h

pub part_end : (code : Program) (n : ℕ) (a : PartId) (b : List ℕ) (m i : ℕ) (ps all : List Part) → ps ++ parts_from code n a b m i (m - i) ≡ all → m ≤ i → ps ≡ all
part_end code n a b m i ps all h l = let z : m - i ≡ 0 = omega arith in sym (append-nil ps) ∙ ap (λ k. ps ++ parts_from code n a b m i k) (sym z) ∙ h
