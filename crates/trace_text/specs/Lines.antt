-- The lines of acts.
use Rattle.std.specs.Prelude.{ℕ, List, ◌++◌, codes}
use Rattle.std.specs.Fmt.{decimal}
use Rattle.plan_base.specs.declared.ids.Host.{Host}
use Rattle.plan_base.specs.declared.ids.Family.{Family}
use Rattle.node_core_spec.specs.Texts.{head_text, family_text}

-- a line that says some text, with the number of its event
abbrev pub line_of : ℕ → List ℕ → List ℕ
line_of event said = decimal event ++ (codes " " ++ (said ++ codes "\n"))

-- the number of an event, and the head of its line
abbrev pub head_of : ℕ → List ℕ → Host → List ℕ
head_of event word h = decimal event ++ (codes " " ++ head_text word h)

-- the front of a line that goes on with a family, and more behind it
abbrev pub front_of : ℕ → List ℕ → Host → Family → List ℕ
front_of event word h f = head_of event word h ++ (codes " " ++ (family_text f ++ codes " "))
