use Rattle.service_api.proofs.InstanceLaws.{found_is, is_found}
use Rattle.service_api.proofs.laws.instances.Goals as goal

pub returns : goal.returns
returns c = λ scheme svc a. (found_is scheme svc a, is_found scheme svc a)
