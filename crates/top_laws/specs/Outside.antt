-- Where lines that say nothing may stand: behind the header, and outside of programs.
use Rattle.std.specs.Prelude.{◌≡◌, true}
use Rattle.node_files.specs.declared.ask.AskReading.{AskReading}
use Rattle.node_files.specs.declared.ask.AskStage.{AskStage}
use Rattle.node_files.specs.declared.ask.AskStage.TheVariants as ask
use Rattle.node_files.specs.declared.config.ConfigReading.{ConfigReading}
use Rattle.node_files.specs.declared.config.ConfigStage.{ConfigStage}
use Rattle.node_files.specs.declared.config.ConfigStage.TheVariants as config
use Rattle.node_files.specs.declared.fleet.FleetReading.{FleetReading}
use Rattle.node_files.specs.declared.log.LogReading.{LogReading}
use Rattle.node_files.specs.declared.log.LogStage.{LogStage}
use Rattle.node_files.specs.declared.log.LogStage.TheVariants as log
use Rattle.command_files.specs.declared.cut.CutReading.{CutReading}
use Rattle.command_files.specs.declared.cut.CutStage.{CutStage}
use Rattle.command_files.specs.declared.cut.CutStage.TheVariants as cut
use Rattle.command_files.specs.declared.port.PortReading.{PortReading}
use Rattle.command_files.specs.declared.port.PortStage.{PortStage}
use Rattle.command_files.specs.declared.port.PortStage.TheVariants as port
use Rattle.command_files.specs.declared.audit.AuditReading.{AuditReading}

-- of a configuration
abbrev pub IsConfigOutside : ConfigStage → Type 0
IsConfigOutside config.Header = ⊥
IsConfigOutside config.Inside = ⊥
IsConfigOutside _ = Unit {0}

abbrev pub ConfigOutside : ConfigReading → Type 0
ConfigOutside s = IsConfigOutside s.stage

-- of a request
abbrev pub IsAskOutside : AskStage → Type 0
IsAskOutside ask.Header = ⊥
IsAskOutside ask.Inside = ⊥
IsAskOutside _ = Unit {0}

abbrev pub AskOutside : AskReading → Type 0
AskOutside s = IsAskOutside s.stage

-- of a log
abbrev pub IsLogOutside : LogStage → Type 0
IsLogOutside log.Header = ⊥
IsLogOutside _ = Unit {0}

abbrev pub LogOutside : LogReading → Type 0
LogOutside s = IsLogOutside s.stage

-- of a fleet
abbrev pub FleetOutside : FleetReading → Type 0
FleetOutside s = s.begun ≡ true

-- of a message to be cut
abbrev pub IsCutOutside : CutStage → Type 0
IsCutOutside cut.Header = ⊥
IsCutOutside _ = Unit {0}

abbrev pub CutOutside : CutReading → Type 0
CutOutside s = IsCutOutside s.stage

-- of the two ends of a port
abbrev pub IsPortOutside : PortStage → Type 0
IsPortOutside port.Header = ⊥
IsPortOutside _ = Unit {0}

abbrev pub PortOutside : PortReading → Type 0
PortOutside s = IsPortOutside s.stage

-- of an audit
abbrev pub AuditOutside : AuditReading → Type 0
AuditOutside s = s.begun ≡ true
