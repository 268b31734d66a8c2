-- What a call on a cursor gives.
use Rattle.std.specs.Prelude.{◌≡◌, Result, Ok, Err}
use Rattle.wire_bytes.specs.Fields.{Front}
use Rattle.chunk_codec_spec.specs.Scan.{Scan}
use Rattle.chunk_codec_spec.specs.Spelling.{from_front}
use Rattle.packet_frame.specs.declared.fault.FrameFault.{FrameFault}

-- memory may be wanting at any time; every other fault is the one that the reading has
abbrev pub Fails : {A : Type 0} → FrameFault → Result A FrameFault → Type 0
Fails FrameFault.NoMemory read = Unit {0}
Fails e read = read ≡ Err e

-- a call answers what the reading gives, and stands where the reading came to
abbrev pub Gives : {A : Type 0} → Result A FrameFault → Front → Result (A × Scan) FrameFault → Type 0
Gives (Ok x) new read = read ≡ Ok (x, from_front new)
Gives (Err e) new read = Fails e read
