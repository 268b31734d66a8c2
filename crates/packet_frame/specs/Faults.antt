-- The faults of fields as those of a frame.
use Rattle.chunk_codec_spec.specs.declared.fault.SpellFault.{SpellFault}
use Rattle.packet_frame.specs.declared.fault.FrameFault.{FrameFault}

-- the fault of a name or a chunk, of the whole frame
abbrev pub of_spelling : SpellFault → FrameFault
of_spelling SpellFault.NoMemory = FrameFault.NoMemory
of_spelling e = FrameFault.Spell e

-- the fault of a number of the frame's own, of the whole frame
abbrev pub of_number : SpellFault → FrameFault
of_number (SpellFault.Truncated at) = FrameFault.Truncated at
of_number e = of_spelling e
