use Rattle.top_laws.proofs.ConfigCounts as config
use Rattle.top_laws.proofs.AskCounts as ask
use Rattle.top_laws.proofs.LogCounts as log
use Rattle.top_laws.proofs.ListCounts.{fleet_skips, audit_skips}
use Rattle.top_laws.proofs.CutCounts as cut
use Rattle.top_laws.proofs.PortCounts as port
use Rattle.top_laws.proofs.counts.skipped_lines_only_move.Goals as goal

pub returns-clause-configurations : goal.returns-clause-configurations
returns-clause-configurations c = config.skips

pub returns-clause-requests : goal.returns-clause-requests
returns-clause-requests c = ask.skips

pub returns-clause-logs : goal.returns-clause-logs
returns-clause-logs c = log.skips

pub returns-clause-fleets : goal.returns-clause-fleets
returns-clause-fleets c = fleet_skips

pub returns-clause-messages : goal.returns-clause-messages
returns-clause-messages c = cut.skips

pub returns-clause-ports : goal.returns-clause-ports
returns-clause-ports c = port.skips

pub returns-clause-audits : goal.returns-clause-audits
returns-clause-audits c = audit_skips
