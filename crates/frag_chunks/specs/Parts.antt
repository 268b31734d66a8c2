-- How a message is cut into parts, and the chunk that carries each.
use Rattle.std.specs.Prelude.{◌≡◌, IsTrue, Result, Ok, Err, ℕ, zero, suc, ◌+◌, ◌*◌, ◌/◌, ◌%◌, ◌≤◌, if◌then◌else◌, nat_lt, ℤ, pos, List, []}
use Rattle.std.specs.Prelude.{◌∷◌, length, take, drop, codes}
use Rattle.plan_base.specs.declared.ids.Host.{Host}
use Rattle.plan_base.specs.declared.tree.Chunk.{Chunk}
use Rattle.plan_base.specs.declared.tree.Program.{Program}
use Rattle.plan_base.specs.declared.tree.Value.{Value}
use Rattle.plan_base.specs.declared.tree.Value.TheVariants as value
use Rattle.plan_meaning.specs.Meaning.{is_paid, bound_of}
use Rattle.program_text.specs.Texts.{program_of}
use Rattle.program_text.specs.declared.fault.TextFault.{TextFault}
use Rattle.frag_chunks.specs.declared.cutting.Part.{Part}
use Rattle.frag_chunks.specs.declared.cutting.PartId.{PartId}

-- the program of a part: it goes to its destination, and is delivered there
unfoldable pub part_text : List ℕ
part_text = codes
    "svc thisHostIs : (host) -> bool\nsvc getRB : () -> int\nsvc deliver : (int, (int * int * int * blob)) -> unit\nfun part(dest : host, port : int, key : int, index : int, count : int, data : blob) : unit =\n  if thisHostIs(dest) then deliver(port, (key, index, count, data))\n  else OnRemote(|part|(dest, port, key, index, count, data), dest, getRB(), defaultRoute)\n"

-- the bounds of parts, added up
abbrev pub bounds : List Part → ℕ
bounds [] = 0
bounds (p ∷ ps) = p.bound + bounds ps

-- a message has 1 to 262,144 bytes
pub record IsMessage (bytes : List ℕ) : Type 0 where
  pub some : 1 ≤ length bytes
  pub few : length bytes ≤ 262144

-- into how many parts a message is cut: 8,192 bytes each, the last one with the rest
abbrev pub parts_in : ℕ → ℕ
parts_in n = (n + 8191) / 8192

-- the piece of the part with this index, from 0
abbrev pub piece_of : List ℕ → ℕ → List ℕ
piece_of bytes i = take 8192 (drop (8192 * i) bytes)

-- the bound of the part with this index, of m that share n
abbrev pub share : ℕ → ℕ → ℕ → ℕ
share n m i = n / m + (if nat_lt i (n % m) then 1 else 0)

-- where the parts go
abbrev pub address : Host → ℕ → ℤ → PartId
address dest port key = record { dest = dest; port = port; key = key }

abbrev pub part_args : PartId → ℕ → ℕ → List ℕ → List Value
part_args a i m piece =
    value.Host a.dest ∷ value.Int (pos a.port) ∷ value.Int a.key ∷ value.Int (pos i) ∷ value.Int (pos m) ∷ value.Blob piece ∷ []

-- the chunk of the part with index i, of m
abbrev pub part_chunk : Program → PartId → ℕ → ℕ → List ℕ → Chunk
part_chunk code a i m piece = record { code = code; entry = codes "part"; args = part_args a i m piece }

-- the part of a message with index i, of m that share n
abbrev pub part : Program → ℕ → PartId → List ℕ → ℕ → ℕ → Part
part code n a bytes m i = record { bound = share n m i; chunk = part_chunk code a i m (piece_of bytes i) }

-- the parts with k indexes from i on
abbrev pub parts_from : Program → ℕ → PartId → List ℕ → ℕ → ℕ → ℕ → List Part
parts_from code n a bytes m i zero = []
parts_from code n a bytes m i (suc k) = part code n a bytes m i ∷ parts_from code n a bytes m (i + 1) k

-- all parts of a message that share n
unfoldable pub cut_of : Program → ℕ → PartId → List ℕ → List Part
cut_of code n a bytes = parts_from code n a bytes (parts_in (length bytes)) 0 (parts_in (length bytes))

-- those by the program that a text says, where it says one
abbrev pub parts_by : Result Program TextFault → ℕ → PartId → List ℕ → List Part
parts_by (Ok code) n a bytes = cut_of code n a bytes
parts_by (Err fault) n a bytes = []

-- the parts of a message that share the bound n, for a host, its port and a key
unfoldable pub parts_for : ℤ → Host → ℕ → ℤ → List ℕ → List Part
parts_for n dest port key bytes = parts_by (program_of part_text) (bound_of n) (address dest port key) bytes

-- a part's bound is one that a frame may have
abbrev pub HasBound : Part → Type 0
HasBound p = p.bound ≤ 65535

-- a purse paid n
abbrev pub Pays : ℤ → ℕ → ℕ → Type 0
Pays n old new = IsTrue (is_paid n old) × (new + bound_of n ≡ old)
