-- What holds of all that a settled visit sends.
use Rattle.std.proofs.Common.{◌≡◌, Bool, true, false, cond, List, [], ◌∷◌, Option, Some, None, refl, sym, ap, ◌∙◌, subst}
use Rattle.std.specs.Prelude.{map, All}
use Rattle.std.specs.Option.{option_to_list}
use Rattle.std.proofs.lemmas.List.{append-nil}
use Rattle.std.proofs.lemmas.List.Elements.{All-nil, All-cons, All-head, All-tail, All-append}
use Rattle.plan_base.specs.declared.name.Name.{Name}
use Rattle.plan_base.specs.declared.tree.Chunk.{Chunk}
use Rattle.plan_base.specs.declared.tree.Packet.{Packet}
use Rattle.plan_types_spec.specs.Handlers.{is_handler, MayHandle}
use Rattle.service_api.specs.declared.ctx.Ctx.{Ctx}
use Rattle.service_api.specs.Services.{IsGoodChunk}
use Rattle.plan_meaning.specs.declared.sent.Sent.{Sent}
use Rattle.plan_meaning.specs.declared.outcome.Visit.{Visit}
use Rattle.plan_meaning.specs.Safe.{IsGoodSent, AreGoodPackets}
use Rattle.plan_eval_settle.specs.declared.settling.Settled.{Settled}
use Rattle.plan_eval_settle.specs.Settles.{IsPlain, handed_packet, telling, telling_by, telling_of, with_telling, visit_settled}
use Rattle.plan_eval_settle.proofs.Handlers.{told_typed, told_formed}
use Rattle.plan_eval_settle.proofs.Tellings.{Tells, tells}

-- what a visit sends has no handler yet
pub sent_plain : (ss : List Sent) → AreGoodPackets ss → All IsPlain ss
sent_plain [] g = All-nil IsPlain
sent_plain (s ∷ ss) g = All-cons IsPlain s ss (All-head IsGoodSent s ss g).1 (sent_plain ss (All-tail IsGoodSent s ss g))

-- whatever holds of what the visit sends with the handler, and of the packet that reports to the source, holds of all
module _ (P : Sent → Type 0) where
  all_handed : (h : Option Name) (ss : List Sent) → All (λ s. P (handed_packet h s)) ss → All P (map (handed_packet h) ss)
  all_handed h [] a = All-nil P
  all_handed h (s ∷ ss) a = All-cons P (handed_packet h s) (map (handed_packet h) ss) (All-head (λ s. P (handed_packet h s)) s ss a) (all_handed h ss (All-tail (λ s. P (handed_packet h s)) s ss a))

  all_told : (o : Option Sent) → ((t : Sent) → o ≡ Some t → P t) → All P (option_to_list o)
  all_told None k = All-nil P
  all_told (Some t) k = All-cons P t [] (k t refl) (All-nil P)

  pub all_settled : (p : Packet) (ctx : Ctx) (v : Visit) → All (λ s. P (handed_packet p.handler s)) v.outbox → ((t : Sent) → Tells p ctx v t → P t) → All P (visit_settled p ctx v).visit.outbox
  unfolding visit_settled
  all_settled p ctx v a k = All-append P (map (handed_packet p.handler) v.outbox) (option_to_list (telling_of p ctx v)) (all_handed p.handler v.outbox a) (all_told (telling_of p ctx v) (λ t e. k t (tells p ctx v t e)))

-- ---- handlers that are there

handler_cases : (t : Bool) (c : Chunk) (n : Name) → is_handler c.code n ≡ t → MayHandle c (cond t (Some n) None)
handler_cases true c n e = e
handler_cases false c n e = tt

-- the handler that goes on with a packet may handle there
pub handed_may : (h : Option Name) (s : Sent) → MayHandle s.packet.chunk (handed_packet h s).packet.handler
handed_may None s = tt
handed_may (Some n) s = handler_cases (is_handler s.packet.chunk.code n) s.packet.chunk n refl

-- a typed chunk, and a handler that may handle, if there is one
pub record IsGoodSettled (s : Sent) : Type 0 where
  pub chunk : IsGoodChunk s.packet.chunk
  pub handler : MayHandle s.packet.chunk s.packet.handler

handed_good : (h : Option Name) (ss : List Sent) → AreGoodPackets ss → All (λ s. IsGoodSettled (handed_packet h s)) ss
handed_good h [] g = All-nil (λ s. IsGoodSettled (handed_packet h s))
handed_good h (s ∷ ss) g = All-cons (λ s. IsGoodSettled (handed_packet h s)) s ss (record { chunk = (All-head IsGoodSent s ss g).0; handler = handed_may h s }) (handed_good h ss (All-tail IsGoodSent s ss g))

tells_good : (p : Packet) (ctx : Ctx) (v : Visit) (t : Sent) → IsGoodChunk p.chunk → MayHandle p.chunk p.handler → Tells p ctx v t → IsGoodSettled t
tells_good p ctx v t g m k =
    let may : is_handler p.chunk.code k.name ≡ true = subst (MayHandle p.chunk) k.handler m in
    let good : IsGoodSettled (telling p k.name k.text v.left t.dev) = record {
      chunk = record {
        typed = told_typed p.chunk k.name k.text k.named may k.short g.typed;
        formed = told_formed p.chunk k.name k.text g.formed k.utf8 k.short;
      };
      handler = tt;
    } in
    subst IsGoodSettled (sym k.is) good

-- all that a settled visit of a typed packet sends is typed, and its handlers may handle
pub settled_good : (p : Packet) (ctx : Ctx) (v : Visit) → IsGoodChunk p.chunk → MayHandle p.chunk p.handler → AreGoodPackets v.outbox → All IsGoodSettled (visit_settled p ctx v).visit.outbox
settled_good p ctx v g m a = all_settled IsGoodSettled p ctx v (handed_good p.handler v.outbox a) (λ t k. tells_good p ctx v t g m k)

-- ---- packets without a handler

handed_plain : (h : Option Name) (s : Sent) → h ≡ None → IsPlain (handed_packet h s)
handed_plain None s e = refl
handed_plain (Some n) s e = cc

all_plain : (h : Option Name) (ss : List Sent) → h ≡ None → All (λ s. IsPlain (handed_packet h s)) ss
all_plain h [] e = All-nil (λ s. IsPlain (handed_packet h s))
all_plain h (s ∷ ss) e = All-cons (λ s. IsPlain (handed_packet h s)) s ss (handed_plain h s e) (all_plain h ss e)

-- the settled visit of a packet without a handler sends none with one
pub settled_plain : (p : Packet) (ctx : Ctx) (v : Visit) → p.handler ≡ None → All IsPlain (visit_settled p ctx v).visit.outbox
settled_plain p ctx v e = all_settled IsPlain p ctx v (all_plain p.handler v.outbox e) (λ t k. ap (λ (x : Sent). x.packet.handler) k.is)

same_plain : (s : Sent) → IsPlain s → s ≡ handed_packet None s
same_plain s e = λ i. record s { packet = record s.packet { handler = e i } }

-- without a handler all that is sent goes on as it is
pub none_handed : (h : Option Name) (ss : List Sent) → h ≡ None → All IsPlain ss → ss ≡ map (handed_packet h) ss
none_handed None [] e a = refl
none_handed None (s ∷ ss) e a = λ i. same_plain s (All-head IsPlain s ss a) i ∷ none_handed None ss e (All-tail IsPlain s ss a) i
none_handed (Some n) ss e a = cc

-- the visit of a packet without a handler is settled as it is
pub settled_alone : (p : Packet) (ctx : Ctx) (v : Visit) → p.handler ≡ None → All IsPlain v.outbox → ◌≡◌ {A = Settled} (record { visit = v; handled = None }) (visit_settled p ctx v)
unfolding visit_settled
settled_alone p ctx v h a =
    let sends = none_handed None v.outbox refl a ∙ sym (append-nil (map (handed_packet None) v.outbox)) in
    let alone : ◌≡◌ {A = Settled} (record { visit = v; handled = None }) (with_telling None v None) = λ i. record { visit = record v { outbox = sends i }; handled = None } in
    alone ∙ ap (λ (o : Option Name). with_telling o v (telling_by p o ctx v.left v.outcome)) (sym h)
