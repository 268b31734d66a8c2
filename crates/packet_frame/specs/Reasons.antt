-- Why bytes are no frame, in words: the refusal's name, and then what it names, and its place.
use Rattle.std.specs.Prelude.{ℕ, List, ◌++◌, codes}
use Rattle.std.specs.Fmt.{decimal}
use Rattle.plan_base.specs.Limits.{word_of}
use Rattle.chunk_codec_spec.specs.declared.fault.SpellFault.{SpellFault}
use Rattle.plan_types_chunks.specs.declared.fault.Ill.{Ill}
use Rattle.packet_frame.specs.declared.fault.FrameFault.{FrameFault}

abbrev pub spelling_text : SpellFault → List ℕ
spelling_text (SpellFault.Truncated at) = codes "Truncated " ++ decimal at
spelling_text (SpellFault.BadTag at) = codes "BadTag " ++ decimal at
spelling_text (SpellFault.BadName at) = codes "BadName " ++ decimal at
spelling_text (SpellFault.BadUtf8 at) = codes "BadUtf8 " ++ decimal at
spelling_text (SpellFault.OverLimit l at) = codes "OverLimit " ++ word_of l ++ codes " " ++ decimal at
spelling_text SpellFault.NoMemory = codes "NoMemory"

abbrev pub ill_text : Ill → List ℕ
ill_text (Ill.Code f) = codes "IllTyped Code"
ill_text Ill.Entry = codes "IllTyped Entry"
ill_text Ill.Count = codes "IllTyped Count"
ill_text (Ill.Argument n) = codes "IllTyped Argument " ++ decimal n

unfoldable pub reason_text : FrameFault → List ℕ
reason_text FrameFault.TooLong = codes "TooLong"
reason_text (FrameFault.Truncated at) = codes "Truncated " ++ decimal at
reason_text FrameFault.BadMagic = codes "BadMagic"
reason_text FrameFault.BadVersion = codes "BadVersion"
reason_text FrameFault.BadKind = codes "BadKind"
reason_text (FrameFault.Spell e) = spelling_text e
reason_text FrameFault.BoundTooLarge = codes "BoundTooLarge"
reason_text (FrameFault.BadOrder at) = codes "BadOrder " ++ decimal at
reason_text (FrameFault.Trailing at) = codes "Trailing " ++ decimal at
reason_text (FrameFault.IllTyped i) = ill_text i
reason_text FrameFault.IllHandler = codes "IllTyped Handler"
reason_text FrameFault.NoMemory = codes "NoMemory"
