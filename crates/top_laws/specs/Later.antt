-- What was read where one line more stands behind the first ones: the numbers of lines that it keeps.
use Rattle.std.specs.Prelude.{ℕ}
use Rattle.line_reader.specs.Counting.{moved_line}
use Rattle.line_reader.specs.declared.programs.OpenProgram.{OpenProgram}
use Rattle.node_files.specs.declared.ask.AskReading.{AskReading}
use Rattle.node_files.specs.declared.config.ConfigReading.{ConfigReading}

-- a program that is being read keeps the number of its first line
abbrev pub later_program : ℕ → OpenProgram → OpenProgram
later_program first begun = record begun { line = moved_line first begun.line }

abbrev pub later_config : ℕ → ConfigReading → ConfigReading
later_config first s = record s { program = later_program first s.program }

-- a request keeps that of its entry's line too
abbrev pub later_ask : ℕ → AskReading → AskReading
later_ask first s = record s { entry_line = moved_line first s.entry_line; program = later_program first s.program }

-- other files keep none
abbrev pub unmoved_reading : {S : Type 0} → ℕ → S → S
unmoved_reading first s = s
