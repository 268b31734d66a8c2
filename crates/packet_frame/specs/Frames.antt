-- When bytes are a frame, and the first fault of those that are none.
use Rattle.std.specs.Prelude.{◌≡◌, ℕ, zero, suc, ◌≤◌, ◌<◌, List, [], ◌∷◌, length, Option, Some, None, Result, Ok, Err}
use Rattle.std.specs.Int.{w32, w64}
use Rattle.containers.specs.Reading.{◌>>=◌}
use Rattle.containers.specs.Agenda.{FirstFault}
use Rattle.plan_base.specs.declared.tree.Chunk.{Chunk}
use Rattle.chunk_codec_spec.specs.Scan.{Scan}
use Rattle.packet_frame.specs.declared.fault.FrameFault.{FrameFault}
use Rattle.packet_frame.specs.declared.frame.PlainFrame.{PlainFrame}
use Rattle.packet_frame.specs.Bytes.{frame_bytes}
use Rattle.packet_frame.specs.Fields.{number, magic_at, version_at, kind_at, bound_at, route_at, carried_at, count_at, row_host_at, cost_at}
use Rattle.packet_frame.specs.Forms.{FrameItem, the_magic, the_version, the_kind, a_host, a_serial, a_bound, a_route, a_carried_chunk}
use Rattle.packet_frame.specs.Forms.{some_rows, rows_behind, a_cost, the_end, either_version, the_form, items_of_fields, forms, FrameFits}
use Rattle.packet_frame.specs.Forms.{IsPlain}
use Rattle.packet_frame.specs.Versions.{either_version_at, form_at, stamped_forms}

-- the item was a field of its own
abbrev pub past : {A : Type 0} → List FrameItem → Result (A × Scan) FrameFault → Result (List FrameItem × Scan) FrameFault
past more r = r >>= λ x. Ok (more, x.1)

-- nothing may be left
abbrev pub nothing_left : List ℕ → List FrameItem → Scan → Result (List FrameItem × Scan) FrameFault
nothing_left [] more s = Ok (more, s)
nothing_left (b ∷ bs) more s = Err (FrameFault.Trailing s.front.at)

-- A field is judged alone; a kind is replaced by the fields of its form, and a count of rows by so many.
abbrev pub frame_step : FrameItem → List FrameItem → Scan → Result (List FrameItem × Scan) FrameFault
frame_step the_magic more s = past more (magic_at s)
frame_step the_version more s = past more (version_at s)
frame_step the_kind more s = kind_at s >>= λ k. Ok (items_of_fields (forms k.0) more, k.1)
frame_step a_host more s = past more (number w32 s)
frame_step a_serial more s = past more (number w64 s)
frame_step a_bound more s = past more (bound_at s)
frame_step a_route more s = past more (route_at s)
frame_step a_carried_chunk more s = past more (carried_at s)
frame_step some_rows more s = count_at s >>= λ n. Ok (rows_behind None n.0 ∷ more, n.1)
frame_step (rows_behind before zero) more s = Ok (more, s)
frame_step (rows_behind before (suc n)) more s = row_host_at before s >>= λ h. Ok (a_cost ∷ rows_behind (Some h.0) n ∷ more, h.1)
frame_step a_cost more s = past more (cost_at s)
frame_step the_end more s = nothing_left s.front.rest more s
frame_step either_version more s = either_version_at s >>= λ v. Ok (the_form v.0 ∷ more, v.1)
frame_step (the_form v) more s = form_at v s >>= λ k. Ok (items_of_fields (stamped_forms k.0) more, k.1)

-- what is to read of a frame at first
abbrev pub a_frame : List FrameItem
a_frame = the_magic ∷ the_version ∷ the_kind ∷ the_end ∷ []

-- a reading of these bytes from the first on
abbrev pub begins : List ℕ → Scan
begins bytes = record { front = record { at = 0; rest = bytes }; nodes = 0 }

-- these bytes, at most 16,512, are the spelling of the frame x, which keeps the limits
pub record SpellsFrame (bytes : List ℕ) (x : PlainFrame) : Type 0 where
  pub short : length bytes ≤ 16512
  pub fits : FrameFits x
  pub plain : IsPlain x
  pub is : bytes ≡ frame_bytes x

-- the first fault of bytes that spell no frame
pub data SpellingFault (e : FrameFault) (bytes : List ℕ) : Type 0 where
  too_long : 16512 < length bytes → e ≡ FrameFault.TooLong → SpellingFault e bytes
  misspelled : length bytes ≤ 16512 → FirstFault frame_step e a_frame (begins bytes) → SpellingFault e bytes

-- the chunk that a frame carries
abbrev pub carried_chunk : PlainFrame → Option Chunk
carried_chunk (PlainFrame.Packet p) = Some p.chunk
carried_chunk (PlainFrame.Advert a) = None
carried_chunk (PlainFrame.Ask bound c) = Some c
