-- What a gatherer keeps, and what each note does to it.
use Rattle.std.specs.Prelude.{ℕ, suc, ◌+◌, Bool, false, ◌&&◌, if◌then◌else◌, nat_le, nat_lt, nat_eq, ℤ, pos, negsuc, List, [], ◌∷◌, ◌++◌}
use Rattle.std.specs.Prelude.{length, replicate, slice_get, slice_set, Option, Some, None, is_some}
use Rattle.std.specs.List.{list_all}
use Rattle.std.specs.Ordering.{int_eq}
use Rattle.std.specs.Str.{bytes_eq}
use Rattle.plan_base.specs.declared.tree.Value.{Value, out-Value}
use Rattle.plan_base.specs.declared.tree.Value.TheOpen.{Value-F}
use Rattle.plan_base.specs.Trees.{ValueLayer}
use Rattle.service_api.specs.declared.answer.Note.{Note}
use Rattle.service_api.specs.declared.answer.Note.TheVariants.{Print, Port}
use Rattle.frag_chunks.specs.declared.gather.Added.{Added}
use Rattle.frag_chunks.specs.declared.gather.Added.TheVariants as added
use Rattle.frag_chunks.specs.declared.gather.Held.{Held}
use Rattle.frag_chunks.specs.declared.gather.Held.TheVariants as held
use Rattle.frag_chunks.specs.declared.holding.PartialMessage.{PartialMessage}
use Rattle.frag_chunks.specs.declared.holding.PartialMessage.TheVariants as holding
use Rattle.frag_chunks.specs.declared.holding.Entry.{Entry}

-- a part as a note says it
pub record Said : Type 0 where
  pub key : ℤ
  pub index : ℤ
  pub count : ℤ
  pub piece : List ℕ

-- ---- the part that a note is

abbrev pub int_in : ValueLayer → Option ℤ
int_in (Value-F.Int z) = Some z
int_in _ = None

abbrev pub blob_in : ValueLayer → Option (List ℕ)
blob_in (Value-F.Blob d) = Some d
blob_in _ = None

abbrev pub said_with : Option ℤ → Option ℤ → Option ℤ → Option (List ℕ) → Option Said
said_with (Some k) (Some i) (Some m) (Some d) = Some (record { key = k; index = i; count = m; piece = d })
said_with _ _ _ _ = None

abbrev pub of_four : List Value → Option Said
of_four (k ∷ i ∷ m ∷ d ∷ []) = said_with (int_in (out-Value k)) (int_in (out-Value i)) (int_in (out-Value m)) (blob_in (out-Value d))
of_four _ = None

abbrev pub of_value : ValueLayer → Option Said
of_value (Value-F.Tuple vs) = of_four vs
of_value _ = None

-- what a note says of a part, where it is for the port and has the shape of one
unfoldable pub said_in : ℕ → Note → Option Said
said_in port (Print v) = None
said_in port (Port p v) = if nat_eq p port then of_value (out-Value v) else None

-- ---- one key

-- whether the piece of a part has its size: 8,192 bytes, for the last one 1 to 8,192
abbrev pub is_sized : ℕ → ℕ → ℕ → Bool
is_sized i m n = if nat_lt (i + 1) m then nat_eq n 8192 else nat_le 1 n && nat_le n 8192

-- whether the numbers and the size are those of a part
abbrev pub is_part : ℤ → ℤ → ℕ → Bool
is_part (pos i) (pos m) n = nat_le 1 m && nat_le m 32 && nat_lt i m && is_sized i m n
is_part _ _ n = false

abbrev pub place_of : ℤ → ℕ
place_of (pos n) = n
place_of (negsuc n) = 0

-- the piece at a place, where it is there
abbrev pub at_place : Option (Option (List ℕ)) → Option (List ℕ)
at_place None = None
at_place (Some s) = s

-- a part beside what is at its place
abbrev pub judged_piece : Option (List ℕ) → List ℕ → Added
judged_piece None d = added.Kept
judged_piece (Some e) d = if bytes_eq e d then added.Again else added.Spoiled

-- a right part beside what is kept of its key
abbrev pub judged_in : Option PartialMessage → ℕ → ℕ → List ℕ → Added
judged_in None i m d = added.Kept
judged_in (Some holding.Spoiled) i m d = added.Spoiled
judged_in (Some (holding.Open slots)) i m d = if nat_eq (length slots) m then judged_piece (at_place (slice_get slots i)) d else added.Spoiled

-- any part beside what is kept of its key
unfoldable pub judged_part : Option PartialMessage → Said → Added
judged_part h g = if is_part g.index g.count (length g.piece) then judged_in h (place_of g.index) (place_of g.count) g.piece else added.Spoiled

-- the places of a key's parts: for a new key as many as its first note says
abbrev pub places : Option PartialMessage → ℕ → List (Option (List ℕ))
places None m = replicate m None
places (Some holding.Spoiled) m = replicate m None
places (Some (holding.Open slots)) m = slots

-- a key's holding with a part at its place
unfoldable pub with_part : Option PartialMessage → Said → PartialMessage
with_part h g = holding.Open (slice_set (places h (place_of g.count)) (place_of g.index) (Some g.piece))

-- a key's holding after a part that was judged; as it was where nothing changes
unfoldable pub holding_after : Added → Option PartialMessage → Said → PartialMessage → PartialMessage
holding_after added.Kept h g old = with_part h g
holding_after added.Spoiled h g old = holding.Spoiled
holding_after _ h g old = old

-- ---- all keys, in order of first note

abbrev pub holding_of : ℤ → List Entry → Option PartialMessage
holding_of k [] = None
holding_of k (e ∷ es) = if int_eq e.key k then Some e.holding else holding_of k es

abbrev pub with_holding : ℤ → PartialMessage → List Entry → List Entry
with_holding k h [] = record { key = k; holding = h } ∷ []
with_holding k h (e ∷ es) = if int_eq e.key k then record { key = e.key; holding = h } ∷ es else e ∷ with_holding k h es

-- a port, and the keys with what is kept of each
pub record Gathering : Type 0 where
  pub port : ℕ
  pub entries : List Entry

-- a part beside all keys: a new one isn't taken where 64 are kept
abbrev pub judged_among : Option PartialMessage → Said → List Entry → Added
judged_among None g es = if nat_le 64 (length es) then added.Full else judged_part None g
judged_among (Some h) g es = judged_part (Some h) g

abbrev pub judged_all : Said → List Entry → Added
judged_all g es = judged_among (holding_of g.key es) g es

-- what is kept after a part that was judged
abbrev pub after : Added → Said → List Entry → List Entry
after added.Kept g es = with_holding g.key (with_part (holding_of g.key es) g) es
after added.Spoiled g es = with_holding g.key holding.Spoiled es
after _ g es = es

abbrev pub added_or : Option Said → List Entry → Added × List Entry
added_or None es = (added.Stranger, es)
added_or (Some g) es = (judged_all g es, after (judged_all g es) g es)

-- what adding a note answers, and what is kept after it
unfoldable pub added_note : ℕ → Note → List Entry → Added × List Entry
added_note port note es = added_or (said_in port note) es

-- what adding a note to what is gathered answers
abbrev pub answer_of : Note → Gathering → Added
answer_of note g = (added_note g.port note g.entries).0

-- what is gathered after a note
abbrev pub with_note : Note → Gathering → Gathering
with_note note g = record { port = g.port; entries = (added_note g.port note g.entries).1 }

-- what is kept after notes in order
abbrev pub gathered_entries : ℕ → List Note → List Entry → List Entry
gathered_entries port [] es = es
gathered_entries port (note ∷ notes) es = gathered_entries port notes (added_note port note es).1

-- ---- what is held of a key

-- the piece that is there, in order
abbrev pub joined_pieces : List (Option (List ℕ)) → List ℕ
joined_pieces [] = []
joined_pieces (None ∷ xs) = joined_pieces xs
joined_pieces (Some d ∷ xs) = d ++ joined_pieces xs

-- how many parts are there
abbrev pub filled_parts : List (Option (List ℕ)) → ℕ
filled_parts [] = 0
filled_parts (None ∷ xs) = filled_parts xs
filled_parts (Some d ∷ xs) = suc (filled_parts xs)

abbrev pub held_of : ℤ → PartialMessage → Held
held_of k holding.Spoiled = held.Spoiled k
held_of k (holding.Open slots) = if list_all is_some slots then held.Whole k (joined_pieces slots) else held.Missing k (filled_parts slots) (length slots)
