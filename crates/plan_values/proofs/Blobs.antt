-- The part of a blob by natural numbers.
use Rattle.std.proofs.Common.{◌≡◌, ℕ, ◌+◌, ◌≤◌, ◌<◌, List, length, take, drop, refl, arith}
use Rattle.std.specs.Prelude.{ℤ, pos, negsuc, ◌<ℤ◌, ◌≤ℤ◌, unsigned_abs}
use Rattle.std.proofs.Math.Facts.{ltb_yes}
use Rattle.std.proofs.lemmas.Bool.{le-leb, lt-leb}
use Rattle.plan_base.specs.declared.tree.Value.TheVariants as value
use Rattle.plan_types_spec.specs.Rules.{blob_part, raises, gives, bad_index}

pub place_below : (b : List ℕ) (i n : ℤ) → i <ℤ pos 0 → blob_part b i n ≡ raises bad_index
place_below b (pos i) n h = let l : i < 0 = ltb_yes h.lt in absurd (omega arith)
place_below b (negsuc i) n h = refl

pub count_below : (b : List ℕ) (i n : ℤ) → n <ℤ pos 0 → blob_part b i n ≡ raises bad_index
count_below b (pos i) (pos n) h = let l : n < 0 = ltb_yes h.lt in absurd (omega arith)
count_below b (pos i) (negsuc n) h = refl
count_below b (negsuc i) n h = refl

pub part_past : (b : List ℕ) (i n : ℤ) → pos 0 ≤ℤ i → pos 0 ≤ℤ n → length b < unsigned_abs i + unsigned_abs n → blob_part b i n ≡ raises bad_index
part_past b (pos i) (pos n) g h l = rw (lt-leb (i + n) (length b) l) refl
part_past b (pos i) (negsuc n) g h l = refl
part_past b (negsuc i) n g h l = refl

pub part_within : (b : List ℕ) (i n : ℤ) → pos 0 ≤ℤ i → pos 0 ≤ℤ n → unsigned_abs i + unsigned_abs n ≤ length b → blob_part b i n ≡ gives (value.Blob (take (unsigned_abs n) (drop (unsigned_abs i) b)))
part_within b (pos i) (pos n) g h l = rw (le-leb (i + n) (length b) l) refl
part_within b (pos i) (negsuc n) g h l = absurd h.le
part_within b (negsuc i) n g h l = absurd g.le

pub ruleset parts = (place_below, count_below, part_past, part_within)
