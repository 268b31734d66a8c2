-- The fields of a frame, read one after another, each with the fault of its own rule.
use Rattle.std.specs.Prelude.{ℕ, zero, suc, ◌==◌, List, [], ◌∷◌, Bool, true, false, Option, Some, None, Result, Ok, Err, nat_le, if◌then◌else◌}
use Rattle.std.specs.Int.{Width, w8, w16, w32}
use Rattle.containers.specs.Reading.{◌>>=◌}
use Rattle.plan_base.specs.declared.limit.Limit.{Limit}
use Rattle.plan_base.specs.declared.tree.Chunk.{Chunk}
use Rattle.chunk_codec_spec.specs.declared.fault.SpellFault.{SpellFault}
use Rattle.chunk_codec_spec.specs.Scan.{Scan, number_field, name_field}
use Rattle.chunk_codec_spec.specs.Spelling.{a_whole_chunk}
use Rattle.packet_frame.specs.declared.fault.FrameFault.{FrameFault}
use Rattle.service_api.specs.Adverts.{is_above}
use Rattle.service_api.specs.declared.advert.AdvertRow.{AdvertRow}
use Rattle.packet_frame.specs.declared.kind.Kind.{Kind}
use Rattle.packet_frame.specs.Bytes.{letters}
use Rattle.packet_frame.specs.Faults.{of_spelling, of_number}

-- a reading from some place on: what was read and where it came to, or the fault
abbrev pub Reader : Type 0 → Type 0
Reader A = Scan → Result (A × Scan) FrameFault

-- the same reading, with its fault told otherwise
abbrev pub told_fault : {A : Type 0} → (SpellFault → FrameFault) → Result A SpellFault → Result A FrameFault
told_fault how (Ok x) = Ok x
told_fault how (Err e) = Err (how e)

-- what was read may stand there, or else is the fault
abbrev pub judged_field : {A : Type 0} → Bool → FrameFault → A × Scan → Result (A × Scan) FrameFault
judged_field true e x = Ok x
judged_field false e x = Err e

-- the next number
abbrev pub number : Width → Reader ℕ
number w s = told_fault of_number (number_field w s)

-- the letters PLAN
unfoldable pub magic_at : Reader ℕ
magic_at s = do
  n ← number w32 s
  judged_field (n.0 == letters) FrameFault.BadMagic n

unfoldable pub version_at : Reader ℕ
version_at s = do
  n ← number w8 s
  judged_field (n.0 == 1) FrameFault.BadVersion n

-- the kind with that number
abbrev pub kind_of : ℕ → Option Kind
kind_of n = if n == 1 then Some Kind.Packet else if n == 2 then Some Kind.Advert else if n == 3 then Some Kind.Ask else None

abbrev pub known_kind : Option Kind → Scan → Result (Kind × Scan) FrameFault
known_kind (Some k) s = Ok (k, s)
known_kind None s = Err FrameFault.BadKind

unfoldable pub kind_at : Reader Kind
kind_at s = do
  n ← number w8 s
  known_kind (kind_of n.0) n.1

-- a bound of at most 65,535
unfoldable pub bound_at : Reader ℕ
bound_at s = do
  n ← number w32 s
  judged_field (nat_le n.0 65535) FrameFault.BoundTooLarge n

-- a name, and a chunk
abbrev pub route_at : Reader (List ℕ)
route_at s = told_fault of_spelling (name_field s)

abbrev pub carried_at : Reader Chunk
carried_at s = told_fault of_spelling (a_whole_chunk.read s)

-- how many rows an advert has, at most 32
unfoldable pub count_at : Reader ℕ
count_at s = do
  n ← number w16 s
  judged_field (nat_le n.0 32) (FrameFault.Spell (SpellFault.OverLimit Limit.Hosts s.front.at)) n

-- a host is above the one before
unfoldable pub row_host_at : Option ℕ → Reader ℕ
row_host_at before s = do
  n ← number w32 s
  judged_field (is_above before n.0) (FrameFault.BadOrder s.front.at) n

-- a cost of at most 65,535
unfoldable pub cost_at : Reader ℕ
cost_at s = do
  n ← number w32 s
  judged_field (nat_le n.0 65535) (FrameFault.Spell (SpellFault.OverLimit Limit.Cost s.front.at)) n

-- so many rows, whose hosts ascend
unfoldable pub rows_from : Option ℕ → ℕ → Reader (List AdvertRow)
rows_from before zero s = Ok ([], s)
rows_from before (suc n) s = do
  host ← row_host_at before s
  cost ← cost_at host.1
  others ← rows_from (Some host.0) n cost.1
  Ok (record { host = record { 0 = host.0 }; cost = cost.0 } ∷ others.0, others.1)

unfoldable pub rows_at : Reader (List AdvertRow)
rows_at s = do
  n ← count_at s
  rows_from None n.0 n.1
