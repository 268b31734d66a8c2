-- Notes of the parts of one message.
use Rattle.std.specs.Prelude.{◌≡◌, ℕ, zero, suc, ◌+◌, ◌<◌, ◌≤◌, Bool, false, IsTrue, IsSome, if◌then◌else◌, ◌&&◌, nat_eq, ℤ, pos, List, []}
use Rattle.std.specs.Prelude.{length, Option, Some, None, IfSome}
use Rattle.std.specs.List.{list_any, AllByRecursion}
use Rattle.std.specs.Option.{option_map}
use Rattle.std.specs.Ordering.{int_eq}
use Rattle.service_api.specs.declared.answer.Note.{Note}
use Rattle.frag_chunks.specs.declared.holding.Entry.{Entry}
use Rattle.frag_chunks.specs.declared.gather.Held.{Held}
use Rattle.frag_chunks.specs.declared.gather.Held.TheVariants as held
use Rattle.frag_chunks.specs.Parts.{IsMessage, parts_in, piece_of}
use Rattle.frag_chunks.specs.Gathers.{Said, said_in, place_of, holding_of, held_of, gathered_entries}

-- the part of a message with this index, as a note says it
abbrev pub said_of : ℤ → List ℕ → ℕ → Said
said_of k bytes i = record { key = k; index = pos i; count = pos (parts_in (length bytes)); piece = piece_of bytes i }

-- a part of the message
pub record IsPartOf (k : ℤ) (bytes : List ℕ) (g : Said) : Type 0 where
  pub index : ℕ
  pub within : index < parts_in (length bytes)
  pub same : g ≡ said_of k bytes index

-- each note of the key is a part of the message
abbrev pub OnlyParts : ℕ → ℤ → List ℕ → List Note → Type 0
OnlyParts port k bytes notes = AllByRecursion (λ n. IfSome (said_in port n) (λ g. g.key ≡ k → IsPartOf k bytes g)) notes

-- whether a note, if it says a part, says the one of this key with this index
abbrev pub gives : ℤ → ℕ → Option Said → Bool
gives k i None = false
gives k i (Some g) = int_eq g.key k && nat_eq (place_of g.index) i

-- whether the part with this index came
abbrev pub was_given : ℕ → ℤ → List Note → ℕ → Bool
was_given port k notes i = list_any (λ n. gives k i (said_in port n)) notes

-- each note of the key is a part of one message
pub record OfMessage (port : ℕ) (k : ℤ) (bytes : List ℕ) (notes : List Note) : Type 0 where
  pub message : IsMessage bytes
  pub parts : OnlyParts port k bytes notes

-- each part of a message came
abbrev pub AllCame : ℕ → ℤ → List ℕ → List Note → Type 0
AllCame port k bytes notes = (i : ℕ) → i < parts_in (length bytes) → IsTrue (was_given port k notes i)

-- no part came
abbrev pub NoneCame : ℕ → ℤ → List Note → Type 0
NoneCame port k notes = (i : ℕ) → was_given port k notes i ≡ false

-- how many came of the parts with n indexes from i on
abbrev pub given_from : (ℕ → Bool) → ℕ → ℕ → ℕ
given_from f i zero = 0
given_from f i (suc n) = if f i then suc (given_from f (i + 1) n) else given_from f (i + 1) n

-- what is held of a key that is kept
abbrev pub held_now : ℤ → List Entry → Option Held
held_now k es = option_map (held_of k) (holding_of k es)

-- a key is kept after these notes
abbrev pub IsKept : ℕ → ℤ → List Note → Type 0
IsKept port k notes = IsSome (holding_of k (gathered_entries port notes []))

-- 64 keys are kept after these notes
abbrev pub IsFull : ℕ → List Note → Type 0
IsFull port notes = 64 ≤ length (gathered_entries port notes [])

-- what is held of a key after these notes
abbrev pub held_after : ℕ → ℤ → List Note → Option Held
held_after port k notes = held_now k (gathered_entries port notes [])

-- a message of which some parts are missing
abbrev pub missing_of : ℕ → ℤ → List ℕ → List Note → Held
missing_of port k bytes notes =
    held.Missing k (given_from (was_given port k notes) 0 (parts_in (length bytes))) (parts_in (length bytes))
