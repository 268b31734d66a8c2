-- What the two ends of a port keep, and what each call changes. Messages are numbered from 1.
use Rattle.std.specs.Prelude.{◌≡◌, ◌≤◌, ◌<◌, ℕ, zero, suc, ◌+◌, ◌-◌, Bool, true, ◌&&◌, if◌then◌else◌, List, [], ◌∷◌, ◌++◌, length, drop}
use Rattle.std.specs.Prelude.{slice_get, Option, Some, None, ℤ, pos, negsuc, nat_le, nat_lt, nat_eq, replicate}
use Rattle.std.specs.List.{AllByRecursion}
use Rattle.plan_base.specs.declared.ids.Host.{Host}
use Rattle.plan_base.specs.declared.tree.Chunk.{Chunk}
use Rattle.reliable_ports.specs.Programs.{data_chunk, ack_chunk}
use Rattle.reliable_ports.specs.declared.sender.Ack.{Ack}
use Rattle.reliable_ports.specs.declared.sender.Ack.TheVariants.{Moved, Old, Stranger}
use Rattle.reliable_ports.specs.declared.receiver.Came.{Came}
use Rattle.reliable_ports.specs.declared.receiver.Came.TheVariants as came

-- the bytes of a message
abbrev pub Body : Type 0
Body = List ℕ

-- a body that may be offered has at most 4,096 bytes
abbrev pub IsShort : Body → Type 0
IsShort b = length b ≤ 4096

abbrev pub AllShort : List Body → Type 0
AllShort bs = AllByRecursion IsShort bs

-- the number that an int stands for in a message: 0, which is no message's, for one below 0
abbrev pub number_of : ℤ → ℕ
number_of (pos n) = n
number_of (negsuc n) = 0

-- ---- the sender

-- how many messages are acknowledged, and the bodies of those offered after them
pub record Sending : Type 0 where
  pub acked : ℕ
  pub held : List Body

-- a sender that was offered nothing
abbrev pub no_offers : Sending
no_offers = record { acked = 0; held = [] }

-- how many were offered
abbrev pub offered_count : Sending → ℕ
offered_count s = s.acked + length s.held

-- whether 64 messages are offered and not acknowledged
abbrev pub is_full : Sending → Bool
is_full s = nat_le 64 (length s.held)

-- the sender after a body was offered
abbrev pub with_offer : Body → Sending → Sending
with_offer body s = record { acked = s.acked; held = s.held ++ body ∷ [] }

-- the body of a message that is offered and not acknowledged, by its number
unfoldable pub held_at : ℕ → Sending → Option Body
held_at seq s = if nat_lt s.acked seq then slice_get s.held (seq - suc s.acked) else None

-- whether a message with this number is offered and not acknowledged
unfoldable pub is_held : ℕ → Sending → Bool
is_held seq s = nat_lt s.acked seq && nat_le seq (offered_count s)

-- a message is held, and a purse holds less than the 4 that its sending takes
abbrev pub IsUnpaid : ℕ → ℕ → Sending → Type 0
IsUnpaid seq purse s = (is_held seq s ≡ true) × (purse < 4)

-- the chunk carries the body that is held to a host
abbrev pub Carries : ℕ → Host → Sending → Chunk → Type 0
Carries seq dest s chunk = (body : Body) → held_at seq s ≡ Some body → chunk ≡ data_chunk dest (pos seq) body

-- whether a receiver can await this number: that of an offered message or the one after the last
abbrev pub is_awaited : ℕ → Sending → Bool
is_awaited next s = nat_le 1 next && nat_le next (suc (offered_count s))

-- whether awaiting it acknowledges more than is acknowledged already
abbrev pub is_news : ℕ → Sending → Bool
is_news next s = nat_lt (suc s.acked) next

-- what hearing answers that this number is awaited
unfoldable pub ack_of : ℕ → Sending → Ack
ack_of next s = if is_awaited next s then (if is_news next s then Moved else Old) else Stranger

-- the sender after so many more messages are acknowledged
abbrev pub with_fewer : ℕ → Sending → Sending
with_fewer more s = record { acked = s.acked + more; held = drop more s.held }

-- the sender after it heard that this number is awaited: with news, all messages before it are acknowledged
unfoldable pub with_ack : ℕ → Sending → Sending
with_ack next s =
    if is_awaited next s && is_news next s then record { acked = next - 1; held = drop (next - suc s.acked) s.held }
    else s

-- ---- the receiver

-- the bodies delivered, in order, and those that came early: first what came of the message after the next one, and so on
pub record Receiving : Type 0 where
  pub delivered : List Body
  pub early : List (Option Body)

-- a receiver that heard nothing
abbrev pub no_messages : Receiving
no_messages = record { delivered = []; early = [] }

-- the number that is awaited
abbrev pub next_of : Receiving → ℕ
next_of r = suc (length r.delivered)

-- the chunk that says to a host which number is awaited
abbrev pub ack_from : Host → Receiving → Chunk
ack_from dest r = ack_chunk dest (pos (next_of r))

-- the bodies at the front that came
abbrev pub ready : List (Option Body) → List Body
ready [] = []
ready (None ∷ xs) = []
ready (Some b ∷ xs) = b ∷ ready xs

-- what stands behind those and the one that is missing
abbrev pub behind : List (Option Body) → List (Option Body)
behind [] = []
behind (None ∷ xs) = xs
behind (Some b ∷ xs) = behind xs

-- a body at its place, unless one is there
abbrev pub kept_bodies : ℕ → Body → List (Option Body) → List (Option Body)
kept_bodies zero b [] = Some b ∷ []
kept_bodies zero b (None ∷ xs) = Some b ∷ xs
kept_bodies zero b (Some c ∷ xs) = Some c ∷ xs
kept_bodies (suc i) b [] = None ∷ kept_bodies i b []
kept_bodies (suc i) b (x ∷ xs) = x ∷ kept_bodies i b xs

-- so many places, the last ones without a body
abbrev pub padded_bodies : ℕ → List (Option Body) → List (Option Body)
padded_bodies n xs = xs ++ replicate (n - length xs) None

-- the receiver after the awaited message came
abbrev pub with_next : Body → Receiving → Receiving
with_next body r = record { delivered = r.delivered ++ body ∷ ready r.early; early = behind r.early }

-- the receiver after a message came early, at this place
abbrev pub with_early : ℕ → Body → Receiving → Receiving
with_early i body r = record { delivered = r.delivered; early = kept_bodies i body r.early }

-- what hearing a message answers: it has this number
unfoldable pub came_as : ℕ → Receiving → Came
came_as seq r =
    if nat_lt seq (next_of r) then came.Old
    else if nat_le (next_of r + 64) seq then came.Far
    else if nat_eq seq (next_of r) then came.Delivered (suc (length (ready r.early)))
    else came.Ahead

-- the receiver after it heard the message
unfoldable pub with_message : ℕ → Body → Receiving → Receiving
with_message seq body r =
    if nat_lt seq (next_of r) then r
    else if nat_le (next_of r + 64) seq then r
    else if nat_eq seq (next_of r) then with_next body r
    else with_early (seq - suc (next_of r)) body r

-- the receiver after it heard a message with an int as its number
abbrev pub hears : ℤ → Body → Receiving → Receiving
hears seq body r = with_message (number_of seq) body r
