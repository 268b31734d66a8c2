-- Files by name. Where a name stands twice, its first entry is the file.
use Rattle.std.specs.Prelude.{ℕ, Bool, List, [], ◌∷◌, ◌++◌, ◌≡◌, ◌≢◌, ◌⊎◌, if◌then◌else◌, Option, Some, None, IsSome, take, unwrap_or, Result, MatchResult}
use Rattle.std.specs.Str.{bytes_eq}

-- names with their bytes
abbrev pub FileMap : Type 0
FileMap = List (List ℕ × List ℕ)

-- whether an entry has this name
abbrev pub is_named : List ℕ → List ℕ × List ℕ → Bool
is_named name f = bytes_eq f.0 name

-- the bytes of the file of this name
abbrev pub file_at : FileMap → List ℕ → Option (List ℕ)
file_at [] name = None
file_at (f ∷ fs) name = if is_named name f then Some f.1 else file_at fs name

-- the bytes of the file of this name, none where it is missing
abbrev pub contents : FileMap → List ℕ → List ℕ
contents files name = unwrap_or (file_at files name) []

-- the file of this name has these bytes now, and every other file is as before
pub record ChangesOnly (old new : FileMap) (name bytes : List ℕ) : Type 0 where
  pub here : file_at new name ≡ Some bytes
  pub others : (other : List ℕ) → other ≢ name → file_at new other ≡ file_at old other

-- the list of names is as before, or has grown by this one
abbrev pub MayName : List (List ℕ) → List (List ℕ) → List ℕ → Type 0
MayName old new name = (new ≡ old) ⊎ (new ≡ old ++ name ∷ [])

-- the list of names has grown by this one; a failed call may have found no memory for it
abbrev pub Names : {T E : Type 0} → List (List ℕ) → List (List ℕ) → List ℕ → Result T E → Type 0
Names old new name result = MatchResult result (λ _. new ≡ old ++ name ∷ []) (λ _. MayName old new name)

-- no name stands twice
abbrev pub HasDistinctNames : FileMap → Type 0
HasDistinctNames [] = Unit {0}
HasDistinctNames (f ∷ fs) = (file_at fs f.0 ≡ None) × HasDistinctNames fs

-- these bytes were added at the end of the file of this name, and every other file is as before
pub record WritesMore (old new : FileMap) (name bytes : List ℕ) : Type 0 where
  pub here : contents new name ≡ contents old name ++ bytes
  pub there : IsSome (file_at old name) → IsSome (file_at new name)
  pub others : (other : List ℕ) → other ≢ name → file_at new other ≡ file_at old other

-- the files are as before, or the file of this name is a prefix of these bytes and every other one is as before
pub data SavesFront (old new : FileMap) (name bytes : List ℕ) : Type 0 where
  untouched : new ≡ old → SavesFront old new name bytes
  begun : (count : ℕ) → ChangesOnly old new name (take count bytes) → SavesFront old new name bytes
