use Rattle.node_serve.proofs.Starting.{names_log}
use Rattle.node_serve.proofs.laws.log_is_made.Goals as goal

pub returns : goal.returns
returns c = λ cfg node turns old new result s seen. names_log cfg old.files new.files result s.made seen
