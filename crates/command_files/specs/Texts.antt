-- What `cut` writes of a message.
use Rattle.std.specs.Prelude.{List, ℕ, pos, ◌++◌, codes}
use Rattle.std.specs.List.{flat_map}
use Rattle.hex.specs.Hex.{encode_lower}
use Rattle.packet_frame.specs.declared.frame.PlainFrame.{PlainFrame}
use Rattle.packet_frame.specs.Bytes.{frame_bytes}
use Rattle.frag_chunks.specs.declared.cutting.Part.{Part}
use Rattle.frag_chunks.specs.Parts.{parts_for}
use Rattle.command_files.specs.declared.cut.CutFile.{CutFile}

-- the ask of a part in hex
abbrev pub part_line : Part → List ℕ
part_line p = codes "control " ++ (encode_lower (frame_bytes (PlainFrame.Ask p.bound p.chunk)) ++ codes "\n")

-- the asks of all parts, which share the bound
unfoldable pub cut_output : CutFile → List ℕ
cut_output m = flat_map part_line (parts_for (pos m.bound) m.dest m.port (pos m.key) m.bytes)
