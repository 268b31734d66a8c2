use Rattle.node_serve.specs.Desks.{desk_of}
use Rattle.node_serve.proofs.Starting.{write_fault}
use Rattle.node_serve.proofs.laws.writing_has_failed.Goals as goal

pub returns : goal.returns
returns c = λ cfg node turns old new result s is. write_fault (desk_of old) (desk_of new) result is s.faults
