-- The texts of acts.
use Rattle.std.specs.Prelude.{ℕ, List, ◌++◌, codes}
use Rattle.std.specs.Fmt.{decimal}
use Rattle.plan_base.specs.declared.ids.Host.{Host}
use Rattle.plan_base.specs.declared.ids.Dev.{Dev}
use Rattle.plan_base.specs.declared.ids.Family.{Family}
use Rattle.plan_printer_spec.specs.Printed.{value_text}
use Rattle.packet_frame.specs.Reasons.{reason_text as refusal_text}
use Rattle.service_api.specs.declared.answer.Note.{Note}
use Rattle.service_api.specs.declared.answer.Note.TheVariants.{Print, Port}
use Rattle.plan_meaning.specs.declared.outcome.Outcome.{Outcome}
use Rattle.plan_meaning.specs.declared.outcome.Outcome.TheVariants as outcome
use Rattle.replay_window.specs.declared.window.Took.{Took}
use Rattle.replay_window.specs.declared.window.Took.TheVariants.{Fresh, Repeated, TooOld}
use Rattle.node_core_spec.specs.declared.acts.Act.{Act}
use Rattle.node_core_spec.specs.declared.acts.Act.TheVariants.{Injected, Arrived, Asked, Noted, Ended, Handled, Queued, Dropped, Bad}
use Rattle.node_core_spec.specs.declared.acts.Act.TheVariants.{Misplaced, AdvertQueued, AdvertDropped, AdvertSpent, Stale, Heard, Ticked}
use Rattle.node_core_spec.specs.declared.acts.Act.TheVariants.{Taken, SerialsSpent, NoMemory}
use Rattle.node_core_spec.specs.declared.acts.Reason.{Reason}
use Rattle.node_core_spec.specs.declared.acts.Reason.TheVariants as reason
use Rattle.packet_frame.specs.declared.spelled.What.{What}
use Rattle.packet_frame.specs.declared.spelled.What.TheVariants as what

-- a family: its host and its serial number
abbrev pub family_text : Family → List ℕ
family_text f = decimal f.source.0 ++ (codes "." ++ decimal f.serial)

abbrev pub reason_text : Reason → List ℕ
reason_text reason.NoBound = codes "NoBound"
reason_text reason.NoService = codes "NoService"
reason_text reason.NoRoute = codes "NoRoute"
reason_text reason.QueueFull = codes "QueueFull"
reason_text reason.LinkSpent = codes "LinkSpent"

-- the head of a line, such as `queue @1`
abbrev pub head_text : List ℕ → Host → List ℕ
head_text word h = word ++ (codes " @" ++ decimal h.0)

-- a family with its bound
abbrev pub bound_text : Family → ℕ → List ℕ
bound_text f bound = codes " " ++ (family_text f ++ (codes " bound " ++ decimal bound))

abbrev pub device_text : Dev → List ℕ
device_text d = codes " %" ++ decimal d.0

abbrev pub note_text : Host → Note → List ℕ
note_text h (Print v) = head_text (codes "print") h ++ (codes " " ++ value_text v)
note_text h (Port port v) = head_text (codes "port") h ++ (codes " " ++ (decimal port ++ (codes " " ++ value_text v)))

-- what a visit left
abbrev pub rest_text : ℕ → ℕ → List ℕ
rest_text evals rest = codes " evals " ++ (decimal evals ++ (codes " left " ++ decimal rest))

abbrev pub end_text : Host → Family → Outcome → ℕ → ℕ → List ℕ
end_text h f (outcome.Value v) evals rest =
    head_text (codes "value") h ++ (codes " " ++ (family_text f ++ (codes " " ++ (value_text v ++ rest_text evals rest))))
end_text h f (outcome.Raised x) evals rest = head_text (codes "raised") h ++ (codes " " ++ (family_text f ++ (codes " " ++ (x.0 ++ rest_text evals rest))))
end_text h f outcome.WorkSpent evals rest = head_text (codes "spent") h ++ (codes " " ++ (family_text f ++ (codes " left " ++ decimal rest)))

-- what a stale frame was taken as
abbrev pub took_text : Took → List ℕ
took_text Fresh = codes "Fresh"
took_text Repeated = codes "Repeated"
took_text TooOld = codes "TooOld"

-- what a stale frame held
abbrev pub stale_text : What → List ℕ
stale_text (what.Packet f bound) = bound_text f bound
stale_text what.Advert = codes " advert"

-- what was sent
abbrev pub sent_text : What → List ℕ
sent_text (what.Packet f bound) = family_text f
sent_text what.Advert = codes "advert"

-- the line of an act at a host
unfoldable pub act_text : Host → Act → List ℕ
act_text h (Injected f bound) = head_text (codes "inject") h ++ bound_text f bound
act_text h (Arrived d) = head_text (codes "arrive") h ++ device_text d
act_text h Asked = head_text (codes "arrive") h ++ codes " control"
act_text h (Noted note) = note_text h note
act_text h (Ended f o evals rest) = end_text h f o evals rest
act_text h (Handled f n bound) = head_text (codes "handler") h ++ (codes " " ++ (family_text f ++ (codes " " ++ (n ++ (codes " bound " ++ decimal bound)))))
act_text h (Queued d f bound) = head_text (codes "queue") h ++ (device_text d ++ bound_text f bound)
act_text h (Dropped r f bound) = head_text (codes "drop") h ++ (codes " " ++ (reason_text r ++ bound_text f bound))
act_text h (Bad e) = head_text (codes "drop") h ++ (codes " BadFrame " ++ refusal_text e)
act_text h Misplaced = head_text (codes "drop") h ++ codes " BadFrame Misplaced"
act_text h (AdvertQueued d) = head_text (codes "advert") h ++ device_text d
act_text h (AdvertDropped d) = head_text (codes "drop") h ++ codes " QueueFull advert"
act_text h (AdvertSpent d) = head_text (codes "drop") h ++ codes " LinkSpent advert"
act_text h (Stale t w) = head_text (codes "drop") h ++ (codes " " ++ (took_text t ++ stale_text w))
act_text h (Heard d) = head_text (codes "heard") h ++ device_text d
act_text h (Ticked now) = head_text (codes "tick") h ++ (codes " now " ++ decimal now)
act_text h (Taken d w) = head_text (codes "send") h ++ (device_text d ++ (codes " " ++ sent_text w))
act_text h SerialsSpent = head_text (codes "drop") h ++ codes " SerialsSpent"
act_text h NoMemory = head_text (codes "drop") h ++ codes " NoMemory"

-- the whole line of an act at a host, with the number of its event
unfoldable pub act_line : ℕ → Host → Act → List ℕ
act_line event h act = decimal event ++ (codes " " ++ (act_text h act ++ codes "\n"))
