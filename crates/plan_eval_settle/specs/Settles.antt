-- What is made of a visit's end: the packet's handler goes on with what it sends, and a visit without a value is reported to the
-- source. Names are tested to be names, since trees may have any bytes there; those of a program always are.
use Rattle.std.specs.Prelude.{◌≡◌, ℕ, ◌==◌, if◌then◌else◌, [], ◌∷◌, ◌++◌, map, codes, Option, Some, None}
use Rattle.std.specs.Option.{option_to_list}
use Rattle.plan_base.specs.declared.name.Name.{Name}
use Rattle.plan_base.specs.declared.text.Text.{Text}
use Rattle.plan_base.specs.declared.ids.Dev.{Dev}
use Rattle.plan_base.specs.Words.{is_name}
use Rattle.plan_base.specs.declared.tree.Value.TheVariants as value
use Rattle.plan_base.specs.declared.tree.Chunk.{Chunk}
use Rattle.plan_base.specs.declared.tree.Packet.{Packet}
use Rattle.plan_types_spec.specs.Handlers.{is_handler}
use Rattle.service_api.specs.declared.ctx.Ctx.{Ctx}
use Rattle.service_api.specs.declared.router.Hop.{Hop}
use Rattle.service_api.specs.declared.router.Hop.TheVariants.{To}
use Rattle.service_api.specs.Routes.{hop, default_route}
use Rattle.plan_meaning.specs.declared.sent.Sent.{Sent}
use Rattle.plan_meaning.specs.declared.outcome.Outcome.{Outcome}
use Rattle.plan_meaning.specs.declared.outcome.Outcome.TheVariants as outcome
use Rattle.plan_meaning.specs.declared.outcome.Visit.{Visit}
use Rattle.plan_eval_settle.specs.declared.settling.Settled.{Settled}

-- ---- what goes on

-- a packet that is sent without a handler, as a visit sends all
abbrev pub IsPlain : Sent → Type 0
IsPlain s = s.packet.handler ≡ None

-- the handler that goes on with a packet: where the packet's own code has such a function
abbrev pub handler_for : Option Name → Packet → Option Name
handler_for None p = None
handler_for (Some n) p = if is_handler p.chunk.code n then Some n else None

-- a packet that is sent, with that handler
abbrev pub handed_packet : Option Name → Sent → Sent
handed_packet h s = record s { packet = record s.packet { handler = handler_for h s.packet } }

-- ---- what is reported

-- why a visit gave no value: the exception's name, or that its work was spent
abbrev pub reason_of : Outcome → Option Text
reason_of (outcome.Value v) = None
reason_of (outcome.Raised x) = if is_name x.0 then Some x.0 else None
reason_of outcome.WorkSpent = Some (codes "WorkSpent")

-- the call of a handler with that reason
abbrev pub handler_chunk : Chunk → Name → Text → Chunk
handler_chunk c n text = record { code = c.code; entry = n; args = value.Str text ∷ [] }

-- the packet that reports to the source: it has all that was left
abbrev pub telling : Packet → Name → Text → ℕ → Dev → Sent
telling p n text left dev = record {
  dev = dev;
  packet = record {
    family = p.family;
    dest = p.family.source;
    bound = left;
    route = default_route;
    chunk = handler_chunk p.chunk n text;
    handler = None;
  };
}

-- on that hop
abbrev pub telling_over : Packet → Name → Text → ℕ → Hop → Option Sent
telling_over p n text left (To via dev) = Some (telling p n text left dev)
telling_over p n text left _ = None

-- for that reason, where something is left and the source is this host or has a route
abbrev pub telling_why : Packet → Name → Ctx → ℕ → Option Text → Option Sent
telling_why p n ctx left None = None
telling_why p n ctx left (Some text) =
    if left == 0 then None else telling_over p n text left (hop ctx.router default_route ctx.here p.family.source)

-- by the packet's handler, where it has one
abbrev pub telling_by : Packet → Option Name → Ctx → ℕ → Outcome → Option Sent
telling_by p None ctx left o = None
telling_by p (Some n) ctx left o = if is_name n then telling_why p n ctx left (reason_of o) else None

-- the packet that reports a visit without a value to the source
abbrev pub telling_of : Packet → Ctx → Visit → Option Sent
telling_of p ctx v = telling_by p p.handler ctx v.left v.outcome

-- ---- the visit that is settled

-- what is left beside the packet that reports to the source
abbrev pub left_beside : ℕ → Option Sent → ℕ
left_beside left None = left
left_beside left (Some t) = 0

-- the handler that is called by it
abbrev pub handled_by : Option Name → Option Sent → Option Name
handled_by h None = None
handled_by h (Some t) = h

-- a visit with the packet that reports to the source, if there is one, sent last
abbrev pub with_telling : Option Name → Visit → Option Sent → Settled
with_telling h v told = record {
  visit = record v { left = left_beside v.left told; outbox = map (handed_packet h) v.outbox ++ option_to_list told };
  handled = handled_by h told;
}

-- the visit of a packet in those surroundings, settled
unfoldable pub visit_settled : Packet → Ctx → Visit → Settled
visit_settled p ctx v = with_telling p.handler v (telling_of p ctx v)
