-- The lines of a schedule one by one: where those that say nothing may stand, and where programs begin.
use Rattle.std.specs.Prelude.{ℕ, List}
use Rattle.line_reader.specs.Inside.{AreInside}
use Rattle.line_reader.specs.Counting.{moved_line}
use Rattle.schedule_text.specs.declared.reading.BegunProgram.{BegunProgram}
use Rattle.schedule_text.specs.declared.reading.Stage.{Stage}
use Rattle.schedule_text.specs.declared.reading.Stage.TheVariants as stages
use Rattle.schedule_text.specs.declared.reading.ScheduleFile.{ScheduleFile}
use Rattle.schedule_text.specs.Schedules.{schedule_format, nothing_read}

-- a line of the network or an event may come next
abbrev pub IsOutside : Stage → Type 0
IsOutside stages.Header = ⊥
IsOutside stages.Network = Unit {0}
IsOutside (stages.Inside begun) = ⊥
IsOutside stages.Events = Unit {0}

-- these lines end behind the header and outside of programs
pub record EndOutside (ls : List (List ℕ)) : Type 0 where
  pub inside : AreInside schedule_format nothing_read ls
  pub outside : IsOutside inside.state.stage

-- a program where one line more stands behind the first ones
abbrev pub later_program : ℕ → BegunProgram → BegunProgram
later_program first begun = record begun { source = record begun.source { line = moved_line first begun.source.line } }

abbrev pub later_stage : ℕ → Stage → Stage
later_stage first stages.Header = stages.Header
later_stage first stages.Network = stages.Network
later_stage first (stages.Inside begun) = stages.Inside (later_program first begun)
later_stage first stages.Events = stages.Events

-- what was read where one line more stands behind the first ones
abbrev pub later_file : ℕ → ScheduleFile → ScheduleFile
later_file first f = record f { stage = later_stage first f.stage }
