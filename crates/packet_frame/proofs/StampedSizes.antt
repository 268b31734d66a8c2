-- What the writers of version 2 put is a spelling.
use Rattle.std.proofs.Common.{◌≡◌, ℕ, ◌<◌, ◌≤◌, List, ◌∷◌, ◌++◌, length, length-append, None, sym, ap, subst, arith, ◌^◌}
use Rattle.std.specs.List.{flat_map}
use Rattle.std.specs.Int.{w16, w32, w64, to_be_bytes}
use Rattle.plan_base.specs.Words.{IsName}
use Rattle.plan_base.specs.declared.ids.Family.{Family}
use Rattle.plan_base.specs.declared.ids.Host.{Host}
use Rattle.plan_base.specs.declared.tree.Chunk.{Chunk}
use Rattle.plan_base.specs.declared.tree.Packet.{Packet}
use Rattle.chunk_codec_spec.specs.Fields.{name_bytes}
use Rattle.chunk_codec_spec.specs.Values.{chunk_bytes}
use Rattle.chunk_codec_spec.specs.Spelling.{a_whole_chunk}
use Rattle.service_api.specs.declared.advert.Advert.{Advert}
use Rattle.packet_frame.specs.declared.frame.PlainFrame.{PlainFrame}
use Rattle.packet_frame.specs.Bytes.{row_bytes}
use Rattle.packet_frame.specs.Forms.{FrameFits}
use Rattle.std.proofs.Common.{Some, ◌∙◌, append_assoc}
use Rattle.plan_base.specs.declared.name.Name.{Name}
use Rattle.plan_base.specs.declared.stamp.Stamp.{Stamp}
use Rattle.packet_frame.specs.Stamped.{stamped_head, stamped_bytes, StampFits, SpellsStamped}
use Rattle.packet_frame.proofs.Sizes.{rows_size, route_short, chunk_bytes_small}

-- what was put is the spelling under version 2
pub spells_advert2 : (s : Stamp) (a : Advert) (bytes : List ℕ) → StampFits s → FrameFits (PlainFrame.Advert a)
    → bytes ≡ ((stamped_head 2 s ++ to_be_bytes w32 a.host.0) ++ to_be_bytes w16 (length a.rows)) ++ flat_map row_bytes a.rows → SpellsStamped bytes (record { stamp = Some s; frame = PlainFrame.Advert a })
unfolding stamped_bytes
spells_advert2 s a bytes f fits e =
    let is : bytes ≡ stamped_bytes (record { stamp = Some s; frame = PlainFrame.Advert a }) = e in
    let n = ap length is in
    let l = rows_size a.rows in
    let few = fits.1.0.0 in
    record { short = omega (arith, n, l, few); fits = (fits, (tt, f)); is = is }

pub packet2_spelled : (s : Stamp) (p : Packet) (bound : ℕ) (family : Family) (dest : Host) (route : List ℕ) (chunk : Chunk) (bytes : List ℕ) → StampFits s
    → p.handler ≡ None → family ≡ p.family → dest ≡ p.dest → route ≡ p.route → chunk ≡ p.chunk
    → family.source.0 < 2 ^ 32 → family.serial < 2 ^ 64 → dest.0 < 2 ^ 32 → bound ≤ 65535 → IsName route → a_whole_chunk.Fits chunk
    → bytes ≡ (((((stamped_head 1 s ++ to_be_bytes w32 family.source.0) ++ to_be_bytes w64 family.serial) ++ to_be_bytes w32 dest.0) ++ to_be_bytes w32 bound) ++ name_bytes route) ++ chunk_bytes chunk
    → SpellsStamped bytes (record { stamp = Some s; frame = PlainFrame.Packet (record p { bound = bound }) })
unfolding stamped_bytes
packet2_spelled s p bound family dest route chunk bytes f h a d r c source serial to few name fits e =
    let P : PlainFrame → Type 0 = λ x. SpellsStamped bytes (record { stamp = Some s; frame = x }) in
    let q : Packet = record { family = family; dest = dest; bound = bound; route = route; chunk = chunk; handler = None } in
    let is : bytes ≡ stamped_bytes (record { stamp = Some s; frame = PlainFrame.Packet q }) = e in
    let n = ap length is in
    let one = route_short route name in
    let two = chunk_bytes_small chunk fits in
    let l = length-append route (chunk_bytes chunk) in
    subst P (λ i. PlainFrame.Packet (record { family = a i; dest = d i; bound = bound; route = r i; chunk = c i; handler = sym h i }))
    (record { short = omega (arith, n, l, one, two); fits = ((source, (serial, (to, (few, (name, (fits, tt)))))), (tt, f)); is = is })

pub handled_spelled : (s : Stamp) (p : Packet) (n : Name) (bound : ℕ) (family : Family) (dest : Host) (route : List ℕ) (chunk : Chunk) (bytes : List ℕ) → StampFits s
    → p.handler ≡ Some n → IsName n → family ≡ p.family → dest ≡ p.dest → route ≡ p.route → chunk ≡ p.chunk
    → family.source.0 < 2 ^ 32 → family.serial < 2 ^ 64 → dest.0 < 2 ^ 32 → bound ≤ 65535 → IsName route → a_whole_chunk.Fits chunk
    → bytes ≡ ((((((stamped_head 4 s ++ to_be_bytes w32 family.source.0) ++ to_be_bytes w64 family.serial) ++ to_be_bytes w32 dest.0) ++ to_be_bytes w32 bound) ++ name_bytes route) ++ name_bytes n) ++ chunk_bytes chunk
    → SpellsStamped bytes (record { stamp = Some s; frame = PlainFrame.Packet (record p { bound = bound }) })
unfolding stamped_bytes
handled_spelled s p n bound family dest route chunk bytes f h m a d r c source serial to few name fits e =
    let P : PlainFrame → Type 0 = λ x. SpellsStamped bytes (record { stamp = Some s; frame = x }) in
    let q : Packet = record { family = family; dest = dest; bound = bound; route = route; chunk = chunk; handler = Some n } in
    let is : bytes ≡ stamped_bytes (record { stamp = Some s; frame = PlainFrame.Packet q }) =
    e
    ∙ ap (λ l.
    stamped_head 4 s
    ++ (to_be_bytes w32 family.source.0 ++
    (to_be_bytes w64 family.serial ++ (to_be_bytes w32 dest.0 ++ (to_be_bytes w32 bound ++ (length route ∷ l)))))) (append_assoc route (name_bytes n) (chunk_bytes chunk)) in
    let size = ap length is in
    let one = route_short route name in
    let three = route_short n m in
    let two = chunk_bytes_small chunk fits in
    let l = length-append route (name_bytes n ++ chunk_bytes chunk) in
    let k = length-append n (chunk_bytes chunk) in
    subst P (λ i. PlainFrame.Packet (record { family = a i; dest = d i; bound = bound; route = r i; chunk = c i; handler = sym h i }))
    (record { short = omega (arith, size, l, k, one, two, three); fits = ((source, (serial, (to, (few, (name, (fits, tt)))))), (m, f)); is = is })

-- what a head is put in pieces
pub head_joined : (old a b c d e : List ℕ) → ((((old ++ a) ++ b) ++ c) ++ d) ++ e ≡ old ++ ((a ++ (b ++ c)) ++ (d ++ e))
head_joined old a b c d e =
    append_assoc (((old ++ a) ++ b) ++ c) d e
    ∙ ap (λ l. l ++ (d ++ e)) (append_assoc (old ++ a) b c ∙ append_assoc old a (b ++ c))
    ∙ append_assoc old (a ++ (b ++ c)) (d ++ e)
