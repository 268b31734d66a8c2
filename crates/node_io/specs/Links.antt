-- Peers of a link, what a link answers, and what it reports of its frames.
use Rattle.std.specs.Prelude.{ℕ, Bool, not, ◌||◌, if◌then◌else◌, List, [], ◌∷◌, ◌++◌, drop, take, length, ◌≡◌, ◌⊎◌, ◌<◌, ◌≤◌, ◌==◌, IsTrue}
use Rattle.std.specs.Prelude.{Option, Some, None, Result, Ok, Err}
use Rattle.std.specs.List.{list_any}
use Rattle.plan_base.specs.declared.ids.Dev.{Dev}
use Rattle.node_io.specs.Causes.{HasRisen}
use Rattle.node_io.specs.declared.link.Peer.{Peer}
use Rattle.node_io.specs.declared.link.Arrival.{Arrival}
use Rattle.node_io.specs.declared.link.Arrival.TheVariants.{Quiet, On}
use Rattle.node_io.specs.declared.link.Got.{Got}
use Rattle.node_io.specs.declared.link.Got.TheVariants.{Frame, Nothing, Failed}

-- whether a peer stands on this device
abbrev pub has_peer : List Peer → Dev → Bool
has_peer peers dev = list_any (λ p. p.dev.0 == dev.0) peers

abbrev pub HasPeer : List Peer → Dev → Type 0
HasPeer peers dev = IsTrue (has_peer peers dev)

-- a frame comes from a peer, and has 1 to 16,513 bytes
abbrev pub IsFrameOfPeer : List Peer → Got → Type 0
IsFrameOfPeer peers (Frame dev n) = HasPeer peers dev × (0 < n) × (n ≤ 16513)
IsFrameOfPeer peers Nothing = Unit {0}
IsFrameOfPeer peers Failed = Unit {0}

-- a frame with the device on which it comes
abbrev pub Heard : Type 0
Heard = Dev × List ℕ

-- what an entry of the script gives: nothing where it is quiet, has no bytes or comes from no peer, else the first 16,513 of its bytes
abbrev pub heard_of : List Peer → Arrival → Option Heard
heard_of peers Quiet = None
heard_of peers (On dev bytes) = if (length bytes == 0) || not (has_peer peers dev) then None else Some (dev, take 16513 bytes)

-- what comes of an entry, at the front of the buffer
abbrev pub IsHeard : List Peer → Arrival → Got → List ℕ → Type 0
IsHeard peers a (Frame dev n) buf = heard_of peers a ≡ Some (dev, take n buf)
IsHeard peers a Nothing buf = heard_of peers a ≡ None
IsHeard peers a Failed buf = ⊥

-- what the script gives next; after its end nothing comes
abbrev pub next_heard : List Peer → List Arrival → Option Heard
next_heard peers [] = None
next_heard peers (a ∷ script) = heard_of peers a

-- a port with peers
abbrev pub Bind : Type 0
Bind = ℕ × List Peer

-- a link, as contracts see it. The arrivals to come, the frames sent and the binds asked are known where it is observable; the
-- peers, none before a successful bind, always
pub record LinkState : Type 0 where
  pub observable : Bool
  pub script : List Arrival
  pub sent : List Heard
  pub binds : List Bind
  pub bound : List Peer
  pub faults : ℕ

-- these peers are bound; a bind that failed leaves none, and may have found no memory for its entry
abbrev pub BindResult : {T E : Type 0} → Bind → LinkState → LinkState → Result T E → Type 0
BindResult bind old new (Ok x) = (new.bound ≡ bind.1) × (IsTrue old.observable → new.binds ≡ old.binds ++ bind ∷ [])
BindResult bind old new (Err e) = (new.bound ≡ []) × ((new.binds ≡ old.binds) ⊎ (new.binds ≡ old.binds ++ bind ∷ [])) × HasRisen old.faults new.faults

pub record Binds {T E : Type 0} (bind : Bind) (old new : LinkState) (result : Result T E) : Type 0 where
  pub observable : new.observable ≡ old.observable
  pub script : new.script ≡ old.script
  pub sent : new.sent ≡ old.sent
  pub later : old.faults ≤ new.faults
  pub did : BindResult bind old new result

-- a receiving gives what the script gives next, at the front of the buffer; only one that failed leaves the script as it was
abbrev pub HearResult : List ℕ → LinkState → LinkState → Got → Type 0
HearResult buf old new (Frame dev n) = IsTrue old.observable → (next_heard old.bound old.script ≡ Some (dev, take n buf)) × (new.script ≡ drop 1 old.script)
HearResult buf old new Nothing = IsTrue old.observable → (next_heard old.bound old.script ≡ None) × (new.script ≡ drop 1 old.script)
HearResult buf old new Failed = (new.script ≡ old.script) × HasRisen old.faults new.faults

pub record Hears (buf : List ℕ) (old new : LinkState) (result : Got) : Type 0 where
  pub observable : new.observable ≡ old.observable
  pub sent : new.sent ≡ old.sent
  pub binds : new.binds ≡ old.binds
  pub bound : new.bound ≡ old.bound
  pub later : old.faults ≤ new.faults
  pub frame : IsFrameOfPeer old.bound result
  pub did : HearResult buf old new result

-- a frame that was sent stands at the end of the frames sent; one that wasn't stands nowhere
abbrev pub SendResult : {T E : Type 0} → Heard → LinkState → LinkState → Result T E → Type 0
SendResult frame old new (Ok x) = IsTrue old.observable → new.sent ≡ old.sent ++ frame ∷ []
SendResult frame old new (Err e) = (new.sent ≡ old.sent) × HasRisen old.faults new.faults

pub record Sends {T E : Type 0} (frame : Heard) (old new : LinkState) (result : Result T E) : Type 0 where
  pub observable : new.observable ≡ old.observable
  pub script : new.script ≡ old.script
  pub binds : new.binds ≡ old.binds
  pub bound : new.bound ≡ old.bound
  pub later : old.faults ≤ new.faults
  pub did : SendResult frame old new result
