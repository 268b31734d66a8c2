-- What holds of the packet that reports to the source.
use Rattle.std.proofs.Common.{◌≡◌, ℕ, ◌<◌, ◌≤◌, Bool, true, false, cond, length, Option, Some, None, refl, sym, ap, ◌∙◌, subst, arith}
use Rattle.std.specs.Prelude.{◌==◌, codes}
use Rattle.std.specs.Str.{is_utf8}
use Rattle.std.proofs.lemmas.Bool.Decides.{nat_tests}
use Rattle.plan_base.specs.declared.name.Name.{Name}
use Rattle.plan_base.specs.declared.text.Text.{Text}
use Rattle.plan_base.specs.declared.ids.Host.{Host}
use Rattle.plan_base.specs.declared.tree.Packet.{Packet}
use Rattle.plan_base.specs.Words.{is_word, is_reserved, is_name, IsName}
use Rattle.plan_base.proofs.WordLaws.{is_name_within}
use Rattle.service_api.specs.declared.ctx.Ctx.{Ctx}
use Rattle.service_api.specs.declared.router.Hop.{Hop}
use Rattle.service_api.specs.declared.router.Hop.TheVariants.{To, NoService, NoRoute}
use Rattle.service_api.specs.Routes.{hop, default_route}
use Rattle.plan_meaning.specs.declared.sent.Sent.{Sent}
use Rattle.plan_meaning.specs.declared.outcome.Outcome.{Outcome}
use Rattle.plan_meaning.specs.declared.outcome.Outcome.TheVariants as outcome
use Rattle.plan_meaning.specs.declared.outcome.Visit.{Visit}
use Rattle.plan_eval_settle.specs.Settles.{reason_of, telling, telling_over, telling_why, telling_by, telling_of}
use Rattle.plan_eval_settle.proofs.Handlers.{name_utf8}

-- the device is that of the next hop to the source, the handler's name and the reason are texts of at most 32 bytes, and
-- something was left
pub record Tells (p : Packet) (ctx : Ctx) (v : Visit) (t : Sent) : Type 0 where
  pub name : Name
  pub text : Text
  pub via : Host
  pub handler : p.handler ≡ Some name
  pub named : IsName name
  pub utf8 : is_utf8 text ≡ true
  pub short : length text ≤ 32
  pub some : 0 < v.left
  pub way : hop ctx.router default_route ctx.here p.family.source ≡ To via t.dev
  pub is : t ≡ telling p name text v.left t.dev

-- a reason is a text of at most 32 bytes
pub record IsReason (text : Text) : Type 0 where
  pub utf8 : is_utf8 text ≡ true
  pub short : length text ≤ 32

named_reason : (t : Bool) (n s : Text) → is_name n ≡ t → cond t (Some n) None ≡ Some s → IsReason s
named_reason true n s h e =
    let same : n ≡ s = ap (text_or n) e in
    record { utf8 = subst (λ x. is_utf8 x ≡ true) same (name_utf8 n h); short = subst (λ x. length x ≤ 32) same (is_name_within n h) }
  where
    text_or : Text → Option Text → Text
    text_or d None = d
    text_or d (Some x) = x
named_reason false n s h e = cc

spent_named : IsName (codes "WorkSpent")
unfolding is_name is_word is_reserved
spent_named = refl

reason_is : (o : Outcome) (s : Text) → reason_of o ≡ Some s → IsReason s
reason_is (outcome.Value v) s e = cc
reason_is (outcome.Raised x) s e = named_reason (is_name x.0) x.0 s refl e
reason_is outcome.WorkSpent s e = named_reason true (codes "WorkSpent") s spent_named e

left_some : (n : ℕ) → (n == 0) ≡ false → 0 < n
left_some n e = grind (arith, nat_tests)

module _ (p : Packet) (ctx : Ctx) (v : Visit) (t : Sent) where
  abbrev way_home : Hop
  way_home = hop ctx.router default_route ctx.here p.family.source

  abbrev sent_or : Sent → Option Sent → Sent
  sent_or d None = d
  sent_or d (Some s) = s

  over_tells : (n : Name) (s : Text) (o : Hop) → p.handler ≡ Some n → IsName n → IsReason s → 0 < v.left → way_home ≡ o → telling_over p n s v.left o ≡ Some t → Tells p ctx v t
  over_tells n s (To via dev) h k r l w e =
      let is : telling p n s v.left dev ≡ t = ap (sent_or t) e in
      let same = ap (λ (x : Sent). x.dev) is in
      record {
        name = n;
        text = s;
        via = via;
        handler = h;
        named = k;
        utf8 = r.utf8;
        short = r.short;
        some = l;
        way = w ∙ ap (λ d. To via d) same;
        is = sym is ∙ ap (λ d. telling p n s v.left d) same;
      }
  over_tells n s NoService h k r l w e = cc
  over_tells n s NoRoute h k r l w e = cc

  why_tells : (n : Name) (r : Option Text) → p.handler ≡ Some n → IsName n → ((s : Text) → r ≡ Some s → IsReason s) → telling_why p n ctx v.left r ≡ Some t → Tells p ctx v t
  why_tells n None h k r e = cc
  why_tells n (Some s) h k r e = by (v.left == 0) refl e
    where
      by : (b : Bool) → (v.left == 0) ≡ b → cond b None (telling_over p n s v.left way_home) ≡ Some t → Tells p ctx v t
      by true z q = cc
      by false z q = over_tells n s way_home h k (r s refl) (left_some v.left z) refl q

  by_tells : (o : Option Name) → p.handler ≡ o → telling_by p o ctx v.left v.outcome ≡ Some t → Tells p ctx v t
  by_tells None h e = cc
  by_tells (Some n) h e = by (is_name n) refl e
    where
      by : (b : Bool) → is_name n ≡ b → cond b (telling_why p n ctx v.left (reason_of v.outcome)) None ≡ Some t → Tells p ctx v t
      by true k q = why_tells n (reason_of v.outcome) h k (reason_is v.outcome) q
      by false k q = cc

  pub tells : telling_of p ctx v ≡ Some t → Tells p ctx v t
  tells e = by_tells p.handler refl e
