-- The parts of a form: what stands in its spelling behind its tag, one after another.
use Rattle.std.specs.Prelude.{ℕ, ◌+◌, ◌≤◌, ◌<◌, ◌^◌, List, [], ◌∷◌, ◌++◌, length, Option, Some, None, Ok, sum_by}
use Rattle.std.specs.List.{flat_map}
use Rattle.std.specs.Int.{w16, to_be_bytes}
use Rattle.containers.specs.Reading.{◌>>=◌, many}
use Rattle.plan_base.specs.declared.limit.Limit.{Limit}
use Rattle.chunk_codec_spec.specs.Items.{ChunkItem, counted, listed}
use Rattle.chunk_codec_spec.specs.Scan.{Reader, number_field, count_field}

-- a part: how it is read, how it is spelled, what may be spelled, and how many expressions it has
pub record Part (A : Type 0) : Type 1 where
  pub item : ChunkItem
  pub read : Reader A
  pub bytes : A → List ℕ
  pub Fits : A → Type 0
  pub nodes : A → ℕ

-- how a part that contains parts of its kind is read, and what may be spelled
pub record Core (A : Type 0) : Type 1 where
  pub read : Reader A
  pub Fits : A → Type 0

infixr 20 ◌&◌
pub data Parts : Type 1 where
  done : Parts
  ◌&◌ : {A : Type 0} → Part A → Parts → Parts

-- what the parts hold, one by one
abbrev pub PartValues : Parts → Type 0
PartValues done = Unit {0}
PartValues (◌&◌ {A} p ps) = A × PartValues ps

-- the parts read one after another, and what is made of them
abbrev pub reads : {B : Type 0} → (ps : Parts) → (PartValues ps → B) → Reader B
reads done build s = Ok (build tt, s)
reads (p & ps) build s = p.read s >>= λ x. reads ps (λ xs. build (x.0, xs)) x.1

abbrev pub bytes_of_parts : (ps : Parts) → PartValues ps → List ℕ
bytes_of_parts done xs = []
bytes_of_parts (p & ps) xs = p.bytes xs.0 ++ bytes_of_parts ps xs.1

abbrev pub AllFit : (ps : Parts) → PartValues ps → Type 0
AllFit done xs = Unit {0}
AllFit (p & ps) xs = p.Fits xs.0 × AllFit ps xs.1

abbrev pub nodes_of_parts : (ps : Parts) → PartValues ps → ℕ
nodes_of_parts done xs = 0
nodes_of_parts (p & ps) xs = p.nodes xs.0 + nodes_of_parts ps xs.1

-- the parts put before what was still to read
abbrev pub items_of_parts : Parts → List ChunkItem → List ChunkItem
items_of_parts done more = more
items_of_parts (p & ps) more = p.item ∷ items_of_parts ps more

-- each item of a list fits
abbrev pub EachFits : {A : Type 0} → (A → Type 0) → List A → Type 0
EachFits Fits [] = Unit {0}
EachFits Fits (x ∷ xs) = Fits x × EachFits Fits xs

-- a count in one byte within its limits, and so many parts
unfoldable pub counted_at : {A : Type 0} → Limit → ℕ → ℕ → Reader A → Reader (List A)
counted_at limit least most read s = do
  count ← count_field limit least most s
  many read count.0 count.1

abbrev pub several : {A : Type 0} → Limit → ℕ → ℕ → Part A → Part (List A)
several limit least most p = record {
  item = counted limit least most p.item;
  read = counted_at limit least most p.read;
  bytes = λ xs. length xs ∷ flat_map p.bytes xs;
  Fits = λ xs. (least ≤ length xs) × (length xs ≤ most) × EachFits p.Fits xs;
  nodes = sum_by p.nodes;
}

-- a count in two bytes, and so many parts
unfoldable pub listed_at : {A : Type 0} → Reader A → Reader (List A)
listed_at read s = do
  count ← number_field w16 s
  many read count.0 count.1

abbrev pub list_of : {A : Type 0} → Part A → Part (List A)
list_of p = record {
  item = listed p.item;
  read = listed_at p.read;
  bytes = λ xs. to_be_bytes w16 (length xs) ++ flat_map p.bytes xs;
  Fits = λ xs. (length xs < 2 ^ 16) × EachFits p.Fits xs;
  nodes = sum_by p.nodes;
}

-- a tag and the parts of its form
abbrev pub FormFits : {T : Type 0} → (T → Type 0) → (forms : T → Parts) → Option ((t : T) × PartValues (forms t)) → Type 0
FormFits TagFits forms (Some y) = TagFits y.0 × AllFit (forms y.0) y.1
FormFits TagFits forms None = ⊥

unfoldable pub tagged_at : {T A : Type 0} → Reader T → (forms : T → Parts) → ((t : T) → PartValues (forms t) → A) → Reader A
tagged_at tag forms build s = do
  t ← tag s
  reads (forms t.0) (build t.0) t.1

-- a construct: a tag that is allowed there, and the parts of its form
abbrev pub tagged_part : {T A : Type 0} → ChunkItem → Reader T → (T → Type 0) → (forms : T → Parts) → ((t : T) → PartValues (forms t) → A)
    → (A → Option ((t : T) × PartValues (forms t))) → (A → List ℕ) → (A → ℕ) → Part A
tagged_part i tag Allowed forms build parts bytes nodes = record {
  item = i;
  read = tagged_at tag forms build;
  bytes = bytes;
  Fits = λ x. FormFits Allowed forms (parts x);
  nodes = nodes;
}

-- a construct without a tag
abbrev pub untagged_part : {A : Type 0} → ChunkItem → (forms : Parts) → (PartValues forms → A) → (A → PartValues forms) → (A → List ℕ) → (A → ℕ) → Part A
untagged_part i forms build parts bytes nodes = record {
  item = i;
  read = reads forms build;
  bytes = bytes;
  Fits = λ x. AllFit forms (parts x);
  nodes = nodes;
}
