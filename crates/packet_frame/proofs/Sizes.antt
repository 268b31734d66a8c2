use Rattle.std.proofs.Common.{◌≡◌, ℕ, ◌+◌, ◌*◌, ◌<◌, ◌≤◌, List, [], ◌∷◌, ◌++◌, length, drop, get_or, length-append, true, None, refl, sym, ap, subst, arith, ◌^◌}
use Rattle.std.specs.Prelude.{nat_le}
use Rattle.std.specs.List.{flat_map}
use Rattle.std.specs.Int.{w16, w32, w64, to_be_bytes}
use Rattle.std.proofs.lemmas.Bool.{leb-true}
use Rattle.std.proofs.lemmas.List.{drop_more}
use Rattle.containers.proofs.Bools.{both_true}
use Rattle.plan_base.specs.Words.{is_word, is_name, IsName}
use Rattle.plan_base.specs.Sizes.{chunk_weight}
use Rattle.plan_base.specs.declared.ids.Family.{Family}
use Rattle.plan_base.specs.declared.ids.Host.{Host}
use Rattle.plan_base.specs.declared.tree.Chunk.{Chunk}
use Rattle.plan_base.specs.declared.tree.Packet.{Packet}
use Rattle.chunk_codec_spec.specs.Fields.{name_bytes}
use Rattle.chunk_codec_spec.specs.Values.{chunk_bytes}
use Rattle.chunk_codec_spec.specs.Kept.{chunk_kept}
use Rattle.chunk_codec_spec.specs.Spelling.{a_whole_chunk}
use Rattle.chunk_codec_spec.proofs.FitsLaws.{chunk_fits_kept}
use Rattle.chunk_codec.proofs.Puts.{Written}
use Rattle.chunk_codec_spec.proofs.LengthLaws.{chunk_length}
use Rattle.service_api.specs.declared.advert.AdvertRow.{AdvertRow}
use Rattle.service_api.specs.declared.advert.Advert.{Advert}
use Rattle.packet_frame.specs.declared.frame.PlainFrame.{PlainFrame}
use Rattle.packet_frame.specs.Bytes.{head_bytes, row_bytes, frame_bytes}
use Rattle.packet_frame.specs.Forms.{FrameFits}
use Rattle.packet_frame.specs.Frames.{SpellsFrame}

pub chunk_can : (c : Chunk) → a_whole_chunk.Fits c → chunk_kept c ≡ true
chunk_can = chunk_fits_kept 3

pub chunk_bytes_small : (c : Chunk) → a_whole_chunk.Fits c → length (chunk_bytes c) ≤ 16383
chunk_bytes_small c h = let l = leb-true (length (chunk_bytes c) + 1) 16384 h.weighs in omega (arith, l)

pub chunk_small : (c : Chunk) → a_whole_chunk.Fits c → chunk_weight c ≤ 16383
chunk_small c h = let l = chunk_bytes_small c h in let e = chunk_length c in omega (arith, l, e)

pub route_short : (n : List ℕ) → IsName n → length n ≤ 32
unfolding is_name
route_short n h = leb-true (length n) 32 (both_true (nat_le (length n) 32) _ (both_true (is_word n) _ h).1).0

pub rows_size : (rows : List AdvertRow) → length (flat_map row_bytes rows) ≡ 8 * length rows
rows_size [] = refl
rows_size (r ∷ rs) = let e = rows_size rs in let l = length-append (row_bytes r) (flat_map row_bytes rs) in omega (arith, e, l)

pub spells_packet : (p : Packet) (bytes : List ℕ) → FrameFits (PlainFrame.Packet p) → p.handler ≡ None
    → bytes ≡ (((((head_bytes 1 ++ to_be_bytes w32 p.family.source.0) ++ to_be_bytes w64 p.family.serial) ++ to_be_bytes w32 p.dest.0) ++ to_be_bytes w32 p.bound) ++ name_bytes p.route) ++ chunk_bytes p.chunk
    → SpellsFrame bytes (PlainFrame.Packet p)
unfolding frame_bytes
spells_packet p bytes fits plain e =
    let is : bytes ≡ frame_bytes (PlainFrame.Packet p) = e in
    let route = route_short p.route fits.1.1.1.1.0 in
    let chunk = chunk_bytes_small p.chunk fits.1.1.1.1.1.0 in
    let l = length-append p.route (chunk_bytes p.chunk) in
    let n = ap length is in
    record { short = omega (arith, n, l, route, chunk); fits = fits; plain = plain; is = is }

pub spells_advert : (a : Advert) (bytes : List ℕ) → FrameFits (PlainFrame.Advert a)
    → bytes ≡ ((head_bytes 2 ++ to_be_bytes w32 a.host.0) ++ to_be_bytes w16 (length a.rows)) ++ flat_map row_bytes a.rows → SpellsFrame bytes (PlainFrame.Advert a)
unfolding frame_bytes
spells_advert a bytes fits e =
    let is : bytes ≡ frame_bytes (PlainFrame.Advert a) = e in
    let n = ap length is in
    let l = rows_size a.rows in
    let few = fits.1.0.0 in
    record { short = omega (arith, n, l, few); fits = fits; plain = tt; is = is }

pub spells_ask : (bound : ℕ) (c : Chunk) (bytes : List ℕ) → FrameFits (PlainFrame.Ask bound c) → bytes ≡ (head_bytes 3 ++ to_be_bytes w32 bound) ++ chunk_bytes c → SpellsFrame bytes (PlainFrame.Ask bound c)
unfolding frame_bytes
spells_ask bound c bytes fits e =
    let is : bytes ≡ frame_bytes (PlainFrame.Ask bound c) = e in
    let n = ap length is in
    let chunk = chunk_bytes_small c fits.1.0 in
    record { short = omega (arith, n, chunk); fits = fits; plain = tt; is = is }

-- the same of the parts that were read of a packet and of an ask
pub packet_spelled : (p : Packet) (bound : ℕ) (family : Family) (dest : Host) (route : List ℕ) (chunk : Chunk) (bytes : List ℕ)
    → p.handler ≡ None → family ≡ p.family → dest ≡ p.dest → route ≡ p.route → chunk ≡ p.chunk
    → family.source.0 < 2 ^ 32 → family.serial < 2 ^ 64 → dest.0 < 2 ^ 32 → bound ≤ 65535 → IsName route → a_whole_chunk.Fits chunk
    → bytes ≡ (((((head_bytes 1 ++ to_be_bytes w32 family.source.0) ++ to_be_bytes w64 family.serial) ++ to_be_bytes w32 dest.0) ++ to_be_bytes w32 bound) ++ name_bytes route) ++ chunk_bytes chunk
    → SpellsFrame bytes (PlainFrame.Packet (record p { bound = bound }))
packet_spelled p bound family dest route chunk bytes h f d r c source serial to few name fits e =
    let P : PlainFrame → Type 0 = λ x. SpellsFrame bytes x in
    let q : Packet = record { family = family; dest = dest; bound = bound; route = route; chunk = chunk; handler = None } in
    subst P (λ i. PlainFrame.Packet (record { family = f i; dest = d i; bound = bound; route = r i; chunk = c i; handler = sym h i }))
    (spells_packet q bytes (source, (serial, (to, (few, (name, (fits, tt)))))) refl e)

pub ask_spelled : (bound : ℕ) (c chunk : Chunk) (bytes : List ℕ) → chunk ≡ c → bound ≤ 65535 → a_whole_chunk.Fits chunk
    → bytes ≡ (head_bytes 3 ++ to_be_bytes w32 bound) ++ chunk_bytes chunk → SpellsFrame bytes (PlainFrame.Ask bound c)
ask_spelled bound c chunk bytes same few fits e =
    let P : PlainFrame → Type 0 = λ x. SpellsFrame bytes x in
    subst P (λ i. PlainFrame.Ask bound (same i)) (spells_ask bound chunk bytes (few, (fits, tt)) e)

-- a row that is still to be written has room
pub row_room : (rows : List AdvertRow) (i : ℕ) → i < length rows → {start : List ℕ} {room : ℕ} {now : List ℕ} {left : ℕ} → length (flat_map row_bytes rows) ≤ room
    → Written row_bytes (λ _. true) rows i start room now left → 8 ≤ left
row_room rows i h r w =
    let none : AdvertRow = record { host = record { 0 = 0 }; cost = 0 } in
    let row = get_or rows i none in
    let l = length-append (row_bytes row) (flat_map row_bytes (drop (i + 1) rows)) in
    let m = ap (λ ys. length (flat_map row_bytes ys)) (drop_more rows i none h) in
    let n = w.rooms in
    omega (arith, l, m, n, r)
