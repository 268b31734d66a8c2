-- The words of limits.
use Rattle.std.specs.Prelude.{ℕ, List, codes}
use Rattle.plan_base.specs.declared.limit.Limit.{Limit}
use Rattle.plan_base.specs.declared.limit.Limit.TheVariants as limit

-- the word by which a limit prints
abbrev pub word_of : Limit → List ℕ
word_of limit.Functions = codes "functions"
word_of limit.Services = codes "services"
word_of limit.Exceptions = codes "exceptions"
word_of limit.Parameters = codes "parameters"
word_of limit.Arguments = codes "arguments"
word_of limit.Parts = codes "parts"
word_of limit.Clauses = codes "clauses"
word_of limit.Items = codes "items"
word_of limit.Nodes = codes "nodes"
word_of limit.Depth = codes "depth"
word_of limit.OfType = codes "type"
word_of limit.Nesting = codes "nesting"
word_of limit.Code = codes "code"
word_of limit.Weight = codes "weight"
word_of limit.Hosts = codes "hosts"
word_of limit.Cost = codes "cost"
