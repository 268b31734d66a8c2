use Rattle.node_serve.specs.Desks.{desk_of}
use Rattle.node_serve.proofs.Starting.{link_fault}
use Rattle.node_serve.proofs.laws.link_has_failed.Goals as goal

pub returns : goal.returns
returns c = λ cfg node turns old new result s is. link_fault (desk_of old) (desk_of new) result is s.faults
