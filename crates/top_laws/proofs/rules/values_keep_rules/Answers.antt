use Rattle.std.specs.Prelude.{Ok}
use Rattle.schedule_text.proofs.RuleLaws.{schedule_keeps}
use Rattle.node_files.proofs.ConfigLaws.{config_rules}
use Rattle.node_files.proofs.LogLaws.{log_rules}
use Rattle.node_files.proofs.AskLaws.{ask_rules}
use Rattle.node_files.proofs.FleetLaws.{fleet_rules}
use Rattle.command_files.proofs.AuditLaws.{audit_rules}
use Rattle.command_files.proofs.CutLaws.{cut_rules}
use Rattle.command_files.proofs.PortLaws.{port_rules}
use Rattle.top_laws.proofs.rules.values_keep_rules.Goals as goal

pub returns-clause-schedules : goal.returns-clause-schedules
returns-clause-schedules c = schedule_keeps

pub returns-clause-configurations : goal.returns-clause-configurations
returns-clause-configurations c bytes v e = config_rules bytes (Ok v) e

pub returns-clause-logs : goal.returns-clause-logs
returns-clause-logs c bytes v e = log_rules bytes (Ok v) e

pub returns-clause-requests : goal.returns-clause-requests
returns-clause-requests c bytes v e = ask_rules bytes (Ok v) e

pub returns-clause-fleets : goal.returns-clause-fleets
returns-clause-fleets c bytes v e = fleet_rules bytes (Ok v) e

pub returns-clause-audits : goal.returns-clause-audits
returns-clause-audits c bytes v e = audit_rules bytes (Ok v) e

pub returns-clause-messages : goal.returns-clause-messages
returns-clause-messages c bytes v e = cut_rules bytes (Ok v) e

pub returns-clause-ports : goal.returns-clause-ports
returns-clause-ports c bytes v e = port_rules bytes (Ok v) e
