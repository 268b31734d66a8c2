-- An index: the places of a list's items in the order of their keys.
use Rattle.std.specs.Prelude.{◌≡◌, ℕ, ◌<◌, ◌≤◌, List, [], length, slice_index, slice_index_or, pos, Result, Ok, Err, nat_lt, if◌then◌else◌, ◌-◌}
use Rattle.std.specs.declared.cmp.Ordering.TheVariants.{Less}
use Rattle.containers.specs.Keys.{Key}
use Rattle.resident_tables.specs.Order.{key_cmp}

-- a key past a list's end
abbrev pub no_key : Key
no_key = record { name = []; number = pos 0 }

-- the key at a place
abbrev pub key_at : List Key → ℕ → Key
key_at ks p = slice_index_or ks p no_key

-- the key that stands at a place of the index
abbrev pub ranked_at : List Key → List ℕ → ℕ → Key
ranked_at ks order j = key_at ks (slice_index order j)

-- each place stands in the index once, by rising keys
pub record IsIndex (ks : List Key) (order : List ℕ) : Type 0 where
  pub same : length order ≡ length ks
  pub within : (j : ℕ) → j < length order → slice_index order j < length ks
  pub sorted : (i j : ℕ) → i < j → j < length order → key_cmp (ranked_at ks order i) (ranked_at ks order j) ≡ Less
  pub complete : (p : ℕ) → p < length ks → (j : ℕ) × (j < length order) × (slice_index order j ≡ p)

-- before `lo` the keys are lesser than k, from `hi` on they are greater
pub record Splits (ks : List Key) (order : List ℕ) (k : Key) (lo hi : ℕ) : Type 0 where
  pub ordered : lo ≤ hi
  pub within : hi ≤ length order
  pub below : (j : ℕ) → j < lo → key_cmp (ranked_at ks order j) k ≡ Less
  pub above : (j : ℕ) → hi ≤ j → j < length order → key_cmp k (ranked_at ks order j) ≡ Less

-- where the key stands in the index, or before which place it would
abbrev pub IsSpot : List Key → List ℕ → Key → Result ℕ ℕ → Type 0
IsSpot ks order k (Ok j) = (j < length order) × (ranked_at ks order j ≡ k)
IsSpot ks order k (Err i) = Splits ks order k i i

-- a place behind the one taken away moves up
abbrev pub place_moved_up : ℕ → ℕ → ℕ
place_moved_up p q = if nat_lt p q then q - 1 else q
