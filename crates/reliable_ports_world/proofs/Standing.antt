-- Two ends that stand for a state, and for the one after each change.
use Rattle.std.proofs.Common.{◌≡◌, ◌≢◌, ℕ, ◌+◌, ◌<◌, ◌≤◌, Bool, true, false, cond, List, [], ◌∷◌, ◌++◌, length, Option, Some, None, take, get_or, refl, sym, ap, ◌∙◌, subst, append_assoc, arith, true≢false}
use Rattle.std.specs.Prelude.{◌==◌, nat_lt, ℤ, Result, Ok, Err, OnOk}
use Rattle.std.proofs.lemmas.Bool.{eqb-true, eqb-false, ltb-true, ltb-false}
use Rattle.std.proofs.lemmas.List.{append-nil, take_all}
use Rattle.plan_base.specs.declared.ids.Host.{Host}
use Rattle.plan_base.specs.declared.tree.Chunk.{Chunk}
use Rattle.plan_base.specs.declared.stamp.Version.TheVariants.{Two}
use Rattle.service_api.specs.declared.answer.Note.{Note}
use Rattle.service_api.specs.Services.{ServiceState}
use Rattle.network_config.specs.declared.event.WorldEvent.{WorldEvent}
use Rattle.network_config.specs.declared.event.WorldEvent.TheVariants as event
use Rattle.net_world_spec.proofs.Fitting.{event_version}
use Rattle.net_world_spec.specs.declared.lines.Line.{Line}
use Rattle.net_world_spec.specs.World.{happens}
use Rattle.net_world_spec.specs.Sound.{event_fits}
use Rattle.net_world.specs.Stands.{WorldStands}
use Rattle.reliable_ports.specs.Ends.{Body, Sending, number_of, is_full, with_offer, held_at, is_held, with_ack, ack_from, with_message, Receiving}
use Rattle.reliable_ports.proofs.Held.{none_not_held, some_held}
use Rattle.reliable_ports_world.specs.Ports.{PortState, first_host, second_host, price, said_to, heard_by, acked_by, makes, first_pays, second_pays, ack_event, message_event, acks, hears_message}
use Rattle.reliable_ports_world.specs.Ports.{hears_ack, hears_note, hears_line, hears, after, offers_one, transmits}
use Rattle.reliable_ports_world.specs.declared.ports.Ports.{Ports}
use Rattle.reliable_ports_world.specs.declared.told.PortLine.TheVariants as told
use Rattle.reliable_ports_world.specs.Told.{told_line, ack_told, message_told, note_told, heard_told, lines_told, wire_told, offer_told, transmit_told}
use Rattle.reliable_ports_world.proofs.Runs.{heard_next, told_next}
use Rattle.reliable_ports_world.specs.Stands.{PortStands, Goes}

pub on_ok : {T E : Type 0} (P Q : Type 0) (r : Result T E) → (P → Q) → OnOk r P → OnOk r Q
on_ok P Q (Ok x) f h = f h
on_ok P Q (Err e) f h = h

module _ {S : Type 0} (stands : S → ServiceState) where
  -- an event of the network
  pub makes_stand : (p q : Ports S) (s : PortState) (e : WorldEvent) → event_fits Two e → PortStands stands p s → WorldStands stands q.world (happens s.world e).world
      → q.sender ≡ p.sender → q.receiver ≡ p.receiver → q.first ≡ p.first → q.second ≡ p.second → PortStands stands q (makes e s)
  makes_stand p q s e f h w a b c d = record {
    world = w;
    version = event_version s.world e (subst (λ v. event_fits v e) (sym h.version) f) h.world.sound ∙ h.version;
    sender = a ∙ h.sender;
    receiver = b ∙ h.receiver;
    first = c ∙ h.first;
    second = d ∙ h.second;
  }

  -- nothing changed, and nothing was appended
  pub goes_still : (q : Ports S) (s : PortState) (old : List ℕ) → PortStands stands q s → Goes stands q s [] old old
  goes_still q s old h = record { is = h; text = sym (append-nil old) }

  -- ---- acks

  -- the second purse after an ack was paid
  pub second_paid : (p q : Ports S) (s : PortState) → PortStands stands p s → q.world ≡ p.world → q.sender ≡ p.sender → q.receiver ≡ p.receiver → q.first ≡ p.first → q.second + 4 ≡ p.second → PortStands stands q (second_pays s)
  second_paid p q s h v a b c d = record {
    world = subst (λ w. WorldStands stands w s.world) (sym v) h.world;
    version = h.version;
    sender = a ∙ h.sender;
    receiver = b ∙ h.receiver;
    first = c ∙ h.first;
    second = (let e = h.second in omega (arith, d, e));
  }

  -- the same ends with another copy of each part
  pub still : (p q : Ports S) (s : PortState) → PortStands stands p s → q.world ≡ p.world → q.sender ≡ p.sender → q.receiver ≡ p.receiver → q.first ≡ p.first → q.second ≡ p.second → PortStands stands q s
  still p q s h v a b c d = record {
    world = subst (λ w. WorldStands stands w s.world) (sym v) h.world;
    version = h.version;
    sender = a ∙ h.sender;
    receiver = b ∙ h.receiver;
    first = c ∙ h.first;
    second = d ∙ h.second;
  }

  -- the ack was made
  pub acks_made : (q : Ports S) (n : ℕ) (s : PortState) (k : Chunk) (x : WorldEvent) (old : List ℕ) → 4 ≤ s.second → k ≡ ack_from first_host s.receiver → x ≡ event.Inject second_host k 4 None
      → PortStands stands q (makes x (second_pays s)) → Goes stands q (acks s) (ack_told n s) old old
  acks_made q n s k x old l e f h = by (nat_lt s.second price) refl
    where
      is : x ≡ ack_event s.receiver
      is = f ∙ ap (λ c. event.Inject second_host c 4 None) e

      by : (t : Bool) → nat_lt s.second price ≡ t → Goes stands q (cond t s (makes (ack_event s.receiver) (second_pays s))) (cond t (told_line n told.NoBound) []) old old
      by true w = let own = ltb-true s.second 4 w in absurd (omega (arith, own, l))
      by false w = goes_still q (makes (ack_event s.receiver) (second_pays s)) old (subst (λ (y : WorldEvent). PortStands stands q (makes y (second_pays s))) is h)

  -- the purse doesn't pay it
  pub acks_unpaid : (q : Ports S) (n : ℕ) (s : PortState) (old new : List ℕ) → s.second < 4 → PortStands stands q s → new ≡ old ++ told_line n told.NoBound → Goes stands q (acks s) (ack_told n s) old new
  acks_unpaid q n s old new l h e = by (nat_lt s.second price) refl
    where
      by : (t : Bool) → nat_lt s.second price ≡ t → Goes stands q (cond t s (makes (ack_event s.receiver) (second_pays s))) (cond t (told_line n told.NoBound) []) old new
      by true w = record { is = h; text = e }
      by false w = let own = ltb-false s.second 4 w in absurd (omega (arith, own, l))

  -- ---- notes

  -- the receiver heard a message, and the sender an ack
  pub heard_stands : (p q : Ports S) (s : PortState) → PortStands stands p s → q.world ≡ p.world → q.sender ≡ p.sender → q.first ≡ p.first → q.second ≡ p.second → PortStands stands q (heard_by q.receiver s)
  heard_stands p q s h v a c d = record {
    world = subst (λ w. WorldStands stands w s.world) (sym v) h.world;
    version = h.version;
    sender = a ∙ h.sender;
    receiver = refl;
    first = c ∙ h.first;
    second = d ∙ h.second;
  }

  pub acked_stands : (p q : Ports S) (s : PortState) → PortStands stands p s → q.world ≡ p.world → q.receiver ≡ p.receiver → q.first ≡ p.first → q.second ≡ p.second → PortStands stands q (acked_by q.sender s)
  acked_stands p q s h v b c d = record {
    world = subst (λ w. WorldStands stands w s.world) (sym v) h.world;
    version = h.version;
    sender = refl;
    receiver = b ∙ h.receiver;
    first = c ∙ h.first;
    second = d ∙ h.second;
  }

  pub message_goes : (q : Ports S) (n : ℕ) (o : Option (ℤ × Body)) (m : ℤ × Body) (r : Receiving) (s : PortState) (old new : List ℕ) → Some m ≡ o → r ≡ with_message (number_of m.0) m.1 s.receiver
      → Goes stands q (acks (heard_by r s)) (ack_told n (heard_by r s)) old new → Goes stands q (hears_message o s) (message_told n o s) old new
  message_goes q n o m r s old new e f h =
      subst (λ (o : Option (ℤ × Body)). Goes stands q (hears_message o s) (message_told n o s) old new) e
      (subst (λ (r : Receiving). Goes stands q (acks (heard_by r s)) (ack_told n (heard_by r s)) old new) f h)

  pub message_none : (q : Ports S) (n : ℕ) (o : Option (ℤ × Body)) (s : PortState) (old : List ℕ) → None ≡ o → PortStands stands q s → Goes stands q (hears_message o s) (message_told n o s) old old
  message_none q n o s old e h = subst (λ (o : Option (ℤ × Body)). Goes stands q (hears_message o s) (message_told n o s) old old) e (goes_still q s old h)

  pub ack_goes : (q : Ports S) (o : Option (ℤ × Body)) (m : ℤ × Body) (x : Sending) (s : PortState) → Some m ≡ o → x ≡ with_ack (number_of m.0) s.sender → PortStands stands q (acked_by x s) → PortStands stands q (hears_ack o s)
  ack_goes q o m x s e f h = subst (λ (o : Option (ℤ × Body)). PortStands stands q (hears_ack o s)) e (subst (λ (x : Sending). PortStands stands q (acked_by x s)) f h)

  pub ack_none : (q : Ports S) (o : Option (ℤ × Body)) (s : PortState) → None ≡ o → PortStands stands q s → PortStands stands q (hears_ack o s)
  ack_none q o s e h = subst (λ (o : Option (ℤ × Body)). PortStands stands q (hears_ack o s)) e h

  module _ (q : Ports S) (n : ℕ) (g : Host) (x : Note) (s : PortState) (old new : List ℕ) where
    abbrev Hears : Bool → Bool → Type 0
    Hears t u = Goes stands q (cond t (hears_message (said_to 1 x) s) (cond u (hears_ack (said_to 2 x) s) s)) (cond t (message_told n (said_to 1 x) s) []) old new

    pub note_second : g.0 ≡ 2 → Goes stands q (hears_message (said_to 1 x) s) (message_told n (said_to 1 x) s) old new → Goes stands q (hears_note g x s) (note_told n g x s) old new
    note_second e h = by (g.0 == 2) refl
      where
        by : (t : Bool) → (g.0 == 2) ≡ t → Hears t (g.0 == 1)
        by true w = h
        by false w = absurd (eqb-false g.0 2 w e)

    pub note_first : g.0 ≢ 2 → g.0 ≡ 1 → new ≡ old → PortStands stands q (hears_ack (said_to 2 x) s) → Goes stands q (hears_note g x s) (note_told n g x s) old new
    note_first differs e same h = by (g.0 == 2) (g.0 == 1) refl refl
      where
        by : (t u : Bool) → (g.0 == 2) ≡ t → (g.0 == 1) ≡ u → Hears t u
        by true u w v = absurd (differs (eqb-true g.0 2 w))
        by false true w v = record { is = h; text = same ∙ sym (append-nil old) }
        by false false w v = absurd (eqb-false g.0 1 v e)

    pub note_other : g.0 ≢ 2 → g.0 ≢ 1 → new ≡ old → PortStands stands q s → Goes stands q (hears_note g x s) (note_told n g x s) old new
    note_other differs none same h = by (g.0 == 2) (g.0 == 1) refl refl
      where
        by : (t u : Bool) → (g.0 == 2) ≡ t → (g.0 == 1) ≡ u → Hears t u
        by true u w v = absurd (differs (eqb-true g.0 2 w))
        by false true w v = absurd (none (eqb-true g.0 1 v))
        by false false w v = record { is = h; text = same ∙ sym (append-nil old) }

  -- ---- offers

  abbrev Offers : Ports S → ℕ → Body → PortState → List ℕ → List ℕ → Bool → Type 0
  Offers q n b s old new t =
      Goes stands q (cond t s (record { offers = s.offers ++ b ∷ []; sender = with_offer b s.sender; receiver = s.receiver; world = s.world; first = s.first; second = s.second; events = s.events }))
      (cond t (told_line n told.Full) []) old new

  pub offer_goes : (p q : Ports S) (n : ℕ) (b : Body) (s : PortState) (old : List ℕ) → is_full s.sender ≡ false → PortStands stands p s
      → q.world ≡ p.world → q.sender ≡ with_offer b p.sender → q.receiver ≡ p.receiver → q.first ≡ p.first → q.second ≡ p.second → Goes stands q (offers_one b s) (offer_told n s) old old
  offer_goes p q n b s old e h v a r c d = by (is_full s.sender) e
    where
      by : (t : Bool) → t ≡ false → Offers q n b s old old t
      by true w = absurd cc
      by false w = record {
        is = record {
          world = subst (λ w. WorldStands stands w s.world) (sym v) h.world;
          version = h.version;
          sender = a ∙ ap (with_offer b) h.sender;
          receiver = r ∙ h.receiver;
          first = c ∙ h.first;
          second = d ∙ h.second;
        };
        text = sym (append-nil old);
      }

  pub offer_full : (q : Ports S) (n : ℕ) (b : Body) (s : PortState) (old new : List ℕ) → is_full s.sender ≡ true → new ≡ old ++ told_line n told.Full → PortStands stands q s → Goes stands q (offers_one b s) (offer_told n s) old new
  offer_full q n b s old new e x h = by (is_full s.sender) e
    where
      by : (t : Bool) → t ≡ true → Offers q n b s old new t
      by true w = record { is = h; text = x }
      by false w = absurd cc

  -- ---- transmissions

  -- the first purse after a message was paid
  pub first_paid : (p q : Ports S) (s : PortState) → PortStands stands p s → q.world ≡ p.world → q.sender ≡ p.sender → q.receiver ≡ p.receiver → q.second ≡ p.second → q.first + 4 ≡ p.first → PortStands stands q (first_pays s)
  first_paid p q s h v a b c d = record {
    world = subst (λ w. WorldStands stands w s.world) (sym v) h.world;
    version = h.version;
    sender = a ∙ h.sender;
    receiver = b ∙ h.receiver;
    first = (let e = h.first in omega (arith, d, e));
    second = c ∙ h.second;
  }

  pub transmit_none : (q : Ports S) (n seq : ℕ) (o : Option Body) (s : PortState) (old new : List ℕ) → o ≡ None → new ≡ old ++ told_line n told.Nothing → PortStands stands q s
      → Goes stands q (transmits seq o s) (transmit_told n seq o s) old new
  transmit_none q n seq o s old new e x h =
      subst (λ (o : Option Body). Goes stands q (transmits seq o s) (transmit_told n seq o s) old new) (sym e) (record { is = h; text = x })

  abbrev Transmits : Ports S → ℕ → ℕ → Body → PortState → List ℕ → List ℕ → Bool → Type 0
  Transmits q n seq b s old new t =
      Goes stands q (cond t s (after (message_event seq b) (first_pays s))) (cond t (told_line n told.NoBound) (wire_told n (message_event seq b) (first_pays s))) old new

  pub transmit_unpaid : (q : Ports S) (n seq : ℕ) (b : Body) (o : Option Body) (s : PortState) (old new : List ℕ) → o ≡ Some b → s.first < 4 → new ≡ old ++ told_line n told.NoBound
      → PortStands stands q s → Goes stands q (transmits seq o s) (transmit_told n seq o s) old new
  transmit_unpaid q n seq b o s old new e l x h = subst (λ (o : Option Body). Goes stands q (transmits seq o s) (transmit_told n seq o s) old new) (sym e) (by (nat_lt s.first price) refl)
    where
      by : (t : Bool) → nat_lt s.first price ≡ t → Transmits q n seq b s old new t
      by true w = record { is = h; text = x }
      by false w = absurd (let own = ltb-false s.first 4 w in omega (arith, own, l))

  pub transmit_goes : (q : Ports S) (n seq : ℕ) (b : Body) (x : WorldEvent) (o : Option Body) (s : PortState) (old new : List ℕ) → o ≡ Some b → 4 ≤ s.first → x ≡ message_event seq b
      → Goes stands q (after x (first_pays s)) (wire_told n x (first_pays s)) old new → Goes stands q (transmits seq o s) (transmit_told n seq o s) old new
  transmit_goes q n seq b x o s old new e l f h =
      subst (λ (o : Option Body). Goes stands q (transmits seq o s) (transmit_told n seq o s) old new) (sym e) (by (nat_lt s.first price) refl)
    where
      by : (t : Bool) → nat_lt s.first price ≡ t → Transmits q n seq b s old new t
      by true w = absurd (let own = ltb-true s.first 4 w in omega (arith, own, l))
      by false w = subst (λ (y : WorldEvent). Goes stands q (after y (first_pays s)) (wire_told n y (first_pays s)) old new) f h

-- ---- what is held

pub not_full : (s : Sending) → (is_full s ≡ true → ⊥) → is_full s ≡ false
not_full s never = by (is_full s) refl
  where
    by : (t : Bool) → is_full s ≡ t → is_full s ≡ false
    by true e = absurd (never e)
    by false e = e

pub held_some : (seq : ℕ) (s : Sending) → (is_held seq s ≡ false → ⊥) → (b : Body) × (held_at seq s ≡ Some b)
held_some seq s never = by (held_at seq s) refl
  where
    by : (o : Option Body) → held_at seq s ≡ o → (b : Body) × (held_at seq s ≡ Some b)
    by None e = absurd (never (none_not_held seq s e))
    by (Some b) e = (b, e)

pub held_none : (seq : ℕ) (s : Sending) → is_held seq s ≡ false → held_at seq s ≡ None
held_none seq s gone = by (held_at seq s) refl
  where
    by : (o : Option Body) → held_at seq s ≡ o → held_at seq s ≡ None
    by None e = e
    by (Some b) e = absurd (true≢false (sym (some_held seq s b e) ∙ gone))

-- ---- lines, one after the other

module _ {S : Type 0} (stands : S → ServiceState) (q : Ports S) (ls : List Line) (i n : ℕ) (s : PortState) (old : List ℕ) where
  abbrev Heard : List Line → List ℕ → Type 0
  Heard ms new = Goes stands q (hears ms s) (lines_told n ms s) old new

  pub lines_none : PortStands stands q s → Heard (take 0 ls) old
  lines_none h = record { is = h; text = sym (append-nil old) }

  pub lines_next : (l : Line) → i < length ls → l ≡ get_or ls i l → (mid new : List ℕ) → mid ≡ old ++ lines_told n (take i ls) s
      → Goes stands q (hears_line l (hears (take i ls) s)) (heard_told n l (hears (take i ls) s)) mid new → Heard (take (i + 1) ls) new
  lines_next l within is mid new e h = record {
    is = subst (PortStands stands q) (sym (heard_next ls i l within is s)) h.is;
    text = h.text ∙ ap (λ x. x ++ heard_told n l (hears (take i ls) s)) e
        ∙ append_assoc old (lines_told n (take i ls) s) (heard_told n l (hears (take i ls) s))
        ∙ ap (λ x. old ++ x) (sym (told_next ls i l within is n s));
  }

  pub lines_all : (new : List ℕ) → length ls ≤ i → Heard (take i ls) new → Heard ls new
  lines_all new done h = subst (λ x. Heard x new) (take_all i ls done) h
