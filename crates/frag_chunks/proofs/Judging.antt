-- A part beside what is kept, by the tests that the code makes.
use Rattle.std.proofs.Common.{◌≡◌, ◌≢◌, ℕ, ◌≤◌, ◌<◌, Bool, true, false, ◌&&◌, if◌then◌else◌, List, length, Option, Some, None, refl, sym, ap, ◌∙◌, arith}
use Rattle.std.specs.Prelude.{ℤ, pos, slice_get, slice_set, replicate, nat_eq, nat_lt, nat_le, negsuc}
use Rattle.std.specs.Str.{bytes_eq}
use Rattle.std.proofs.lemmas.Slice.Eq.{bytes_eq-Decides}
use Rattle.std.proofs.lemmas.Bool.Decides.{nat_tests}
use Rattle.frag_chunks.specs.declared.gather.Added.{Added}
use Rattle.frag_chunks.specs.declared.gather.Added.TheVariants as added
use Rattle.frag_chunks.specs.declared.holding.PartialMessage.{PartialMessage}
use Rattle.frag_chunks.specs.declared.holding.PartialMessage.TheVariants as holding
use Rattle.frag_chunks.specs.Gathers.{Said, is_part, is_sized, place_of, at_place, judged_piece, judged_in, judged_part, with_part, holding_after}

pub piece_new : (slots : List (Option (List ℕ))) (i : ℕ) (d : List ℕ) → slice_get slots i ≡ Some None → added.Kept ≡ judged_piece (at_place (slice_get slots i)) d
piece_new slots i d e = ap (λ o. judged_piece (at_place o) d) (sym e)

pub piece_same : (slots : List (Option (List ℕ))) (i : ℕ) (d e : List ℕ) → slice_get slots i ≡ Some (Some e) → e ≡ d → added.Again ≡ judged_piece (at_place (slice_get slots i)) d
piece_same slots i d e h s = sym (ap (λ o. judged_piece (at_place o) d) h ∙ ap (λ t. if t then added.Again else added.Spoiled) ((bytes_eq-Decides e d).1 s))

pub piece_other : (slots : List (Option (List ℕ))) (i : ℕ) (d e : List ℕ) → slice_get slots i ≡ Some (Some e) → (e ≡ d → ⊥) → added.Spoiled ≡ judged_piece (at_place (slice_get slots i)) d
piece_other slots i d e h s = sym (ap (λ o. judged_piece (at_place o) d) h ∙ ap (λ t. if t then added.Again else added.Spoiled) (no (bytes_eq e d) refl))
  where
    no : (t : Bool) → bytes_eq e d ≡ t → bytes_eq e d ≡ false
    no true q = absurd (s ((bytes_eq-Decides e d).0 q))
    no false q = q

pub open_same : (slots : List (Option (List ℕ))) (i m : ℕ) (d : List ℕ) → length slots ≡ m → judged_in (Some (holding.Open slots)) i m d ≡ judged_piece (at_place (slice_get slots i)) d
open_same slots i m d e = let t : nat_eq (length slots) m ≡ true = grind (arith, nat_tests) in ap (λ c. if c then judged_piece (at_place (slice_get slots i)) d else added.Spoiled) t

pub open_other : (slots : List (Option (List ℕ))) (i m : ℕ) (d : List ℕ) → length slots ≢ m → judged_in (Some (holding.Open slots)) i m d ≡ added.Spoiled
open_other slots i m d e = let t : nat_eq (length slots) m ≡ false = grind (arith, nat_tests) in ap (λ c. if c then judged_piece (at_place (slice_get slots i)) d else added.Spoiled) t

pub new_part : (g : Said) → is_part g.index g.count (length g.piece) ≡ true → judged_part None g ≡ added.Kept
unfolding judged_part
new_part g e = ap (λ c. if c then added.Kept else added.Spoiled) e

pub no_part : (h : Option PartialMessage) (g : Said) → is_part g.index g.count (length g.piece) ≡ false → judged_part h g ≡ added.Spoiled
unfolding judged_part
no_part h g e = ap (λ c. if c then judged_in h (place_of g.index) (place_of g.count) g.piece else added.Spoiled) e

pub spoiled_part : (g : Said) → judged_part (Some holding.Spoiled) g ≡ added.Spoiled
unfolding judged_part
spoiled_part g = by (is_part g.index g.count (length g.piece))
  where
    by : (c : Bool) → (if c then added.Spoiled else added.Spoiled) ≡ added.Spoiled
    by true = refl
    by false = refl

pub open_part : (slots : List (Option (List ℕ))) (g : Said) → is_part g.index g.count (length g.piece) ≡ true → judged_part (Some (holding.Open slots)) g ≡ judged_in (Some (holding.Open slots)) (place_of g.index) (place_of g.count) g.piece
unfolding judged_part
open_part slots g e = ap (λ c. if c then judged_in (Some (holding.Open slots)) (place_of g.index) (place_of g.count) g.piece else added.Spoiled) e

-- ---- a part that is kept

-- the numbers of a right part are within
part_within : (i m : ℤ) (n : ℕ) → is_part i m n ≡ true → place_of i < place_of m
part_within (pos i) (pos m) n e = by (nat_lt i m) refl (all (nat_le 1 m) (nat_le m 32) (nat_lt i m) (is_sized i m n) e)
  where
    all : (a b c d : Bool) → (a && b && c && d) ≡ true → c ≡ true
    all a b true d e = refl
    all true true false d e = e
    all true false false d e = e
    all false b false d e = e

    by : (t : Bool) → nat_lt i m ≡ t → nat_lt i m ≡ true → i < m
    by t q e = grind (arith, nat_tests)
part_within (pos i) (negsuc m) n e = absurd cc
part_within (negsuc i) m n e = absurd cc

kept_part : (h : Option PartialMessage) (g : Said) → judged_part h g ≡ added.Kept → (is_part g.index g.count (length g.piece) ≡ true) × (judged_in h (place_of g.index) (place_of g.count) g.piece ≡ added.Kept)
unfolding judged_part
kept_part h g e = by (is_part g.index g.count (length g.piece)) e
  where
    by : (c : Bool) → (if c then judged_in h (place_of g.index) (place_of g.count) g.piece else added.Spoiled) ≡ added.Kept → (c ≡ true) × (judged_in h (place_of g.index) (place_of g.count) g.piece ≡ added.Kept)
    by true q = (refl, q)
    by false q = absurd cc

pub kept_within : (slots : List (Option (List ℕ))) (g : Said) (i : ℕ) → judged_part (Some (holding.Open slots)) g ≡ added.Kept → i ≡ place_of g.index → i < length slots
kept_within slots g i e s =
    let k = kept_part (Some (holding.Open slots)) g e in
    let w = part_within g.index g.count (length g.piece) k.0 in
    by (nat_eq (length slots) (place_of g.count)) refl k.1 w
  where
    by : (c : Bool) → nat_eq (length slots) (place_of g.count) ≡ c → (if c then judged_piece (at_place (slice_get slots (place_of g.index))) g.piece else added.Spoiled) ≡ added.Kept → place_of g.index < place_of g.count → i < length slots
    by true q r w = let l : length slots ≡ place_of g.count = grind (arith, nat_tests) in omega (arith, s, l, w)
    by false q r w = absurd cc

pub kept_put : (slots : List (Option (List ℕ))) (g : Said) (i : ℕ) → i ≡ place_of g.index → holding.Open (slice_set slots i (Some g.piece)) ≡ with_part (Some (holding.Open slots)) g
unfolding with_part
kept_put slots g i s = ap (λ j. holding.Open (slice_set slots j (Some g.piece))) s

pub kept_not_spoiled : (h : PartialMessage) (g : Said) → h ≡ holding.Spoiled → judged_part (Some h) g ≡ added.Kept → h ≡ with_part (Some h) g
kept_not_spoiled h g s e = let k = sym (ap (λ x. judged_part (Some x) g) s) ∙ e in let q = spoiled_part g in absurd cc

pub new_within : (g : Said) (i m : ℕ) → judged_part None g ≡ added.Kept → i ≡ place_of g.index → m ≡ place_of g.count → i < m
new_within g i m e s t = omega (arith, s, t, part_within g.index g.count (length g.piece) (kept_part None g e).0)

pub new_put : (g : Said) (i m : ℕ) → i ≡ place_of g.index → m ≡ place_of g.count → holding.Open (slice_set (replicate m None) i (Some g.piece)) ≡ with_part None g
unfolding with_part
new_put g i m s t = λ w. holding.Open (slice_set (replicate (t w) None) (s w) (Some g.piece))

pub after_kept : (h : Option PartialMessage) (g : Said) (old : PartialMessage) → with_part h g ≡ holding_after added.Kept h g old
unfolding holding_after
after_kept h g old = refl

pub after_other : (a : Added) (h : Option PartialMessage) (g : Said) → a ≢ added.Kept → holding.Spoiled ≡ holding_after a h g holding.Spoiled
unfolding holding_after
after_other added.Kept h g n = absurd (n refl)
after_other added.Again h g n = refl
after_other added.Stranger h g n = refl
after_other added.Full h g n = refl
after_other added.Spoiled h g n = refl

part_few : (i m : ℤ) (n : ℕ) → is_part i m n ≡ true → place_of m ≤ 32
part_few (pos i) (pos m) n e = by (nat_le m 32) refl (all (nat_le 1 m) (nat_le m 32) (nat_lt i m) (is_sized i m n) e)
  where
    all : (a b c d : Bool) → (a && b && c && d) ≡ true → b ≡ true
    all a true c d e = refl
    all true false c d e = e
    all false false c d e = e

    by : (t : Bool) → nat_le m 32 ≡ t → nat_le m 32 ≡ true → m ≤ 32
    by t q e = grind (arith, nat_tests)
part_few (pos i) (negsuc m) n e = absurd cc
part_few (negsuc i) m n e = absurd cc

pub few_places : (g : Said) → judged_part None g ≡ added.Kept → place_of g.count ≤ 32
few_places g e = part_few g.index g.count (length g.piece) (kept_part None g e).0
