-- How an answer follows what a call means.
use Rattle.std.specs.Prelude.{◌≡◌, Result, Ok, Err}
use Rattle.plan_base.specs.declared.memory.NoMemory.{NoMemory}
use Rattle.service_api.specs.declared.answer.Answer.{Answer}
use Rattle.service_api.specs.Services.{Rows, Served}

-- the answer and the rows are those that the call means; the rows stay where an allocation failed
abbrev pub Meets : Served → Rows → Result Answer NoMemory → Rows → Type 0
Meets s old (Ok a) new = s ≡ record { answer = a; rows = new }
Meets s old (Err e) new = new ≡ old

-- the same of a call that leaves the rows, whatever they are
abbrev pub Tells : (Rows → Served) → Result Answer NoMemory → Type 0
Tells f result = (rows : Rows) → Meets (f rows) rows result rows
