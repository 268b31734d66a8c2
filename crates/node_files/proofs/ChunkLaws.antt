-- Typed chunks as words of hex digits: what is read, and that what is spelled is read again.
use Rattle.std.proofs.Common.{◌≡◌, ◌≢◌, ◌⊎◌, inl, inr, ℕ, ◌+◌, ◌<◌, ◌≤◌, Bool, true, false, cond, leb, List, [], ◌∷◌, ◌++◌, length, length-append, append-nil, Option, Some, None, Result, Ok, Err, refl, sym, ap, subst, ◌∙◌, arith}
use Rattle.std.specs.Prelude.{is_some}
use Rattle.std.proofs.lemmas.Bool.{leb-true, le-leb, lt-leb}
use Rattle.plan_base.specs.declared.tree.Chunk.{Chunk}
use Rattle.plan_base.specs.Sizes.{chunk_weight}
use Rattle.plan_types_chunks.specs.declared.fault.Ill.{Ill}
use Rattle.plan_types_chunks.specs.declared.fault.ChunkFault.{ChunkFault}
use Rattle.checked_chunks.specs.Kept.{IsCheckedChunk}
use Rattle.plan_types_chunks.specs.Chunks.{illness, as_fault}
use Rattle.plan_types_chunks.proofs.Values.{chunk_found, chunk_only}
use Rattle.wire_bytes.specs.Fields.{Front, IsBytes}
use Rattle.chunk_codec_spec.specs.declared.fault.SpellFault.{SpellFault}
use Rattle.chunk_codec_spec.specs.declared.fault.SpellFault.TheVariants as spelling
use Rattle.chunk_codec_spec.specs.Items.{a_chunk}
use Rattle.chunk_codec_spec.specs.Scan.{Scan}
use Rattle.chunk_codec_spec.specs.Values.{chunk_bytes}
use Rattle.chunk_codec_spec.specs.Spelling.{Spells, SpelledAt, FirstFaultAt, a_whole_chunk, from_front}
use Rattle.chunk_codec_spec.proofs.ValueLaws.{chunk_part_lawful}
use Rattle.chunk_codec_spec.proofs.WholeLaws.{found_by, only_by, spelled_no_fault}
use Rattle.packet_frame.proofs.Carried.{chunk_is_formed, chunk_is_full, chunk_is_small}
use Rattle.node_files.specs.ChunkWords.{taking_all, spelled_chunk, if_typed, typed_chunk}

abbrev start : List ℕ → Front
start bytes = record { at = 0; rest = bytes }

-- what a cursor over bytes sees
begins : (bytes : List ℕ) (f : Front) → f.at ≡ 0 → f.rest ≡ bytes → f ≡ start bytes
begins bytes f e r = ap (λ (n : ℕ). record { at = n; rest = f.rest }) e ∙ ap (λ (l : List ℕ). record { at = 0; rest = l }) r

no_nodes : (x : Chunk) → a_whole_chunk.nodes x ≡ 0
no_nodes x = refl

-- ---- what the reading of a chunk gives

taken_where_true : (t : Bool) (c : Chunk) → t ≡ true → cond t (Some c) None ≡ Some c
taken_where_true true c e = refl
taken_where_true false c e = absurd cc

not_taken : (t : Bool) (c : Chunk) → t ≡ false → cond t (Some c) None ≡ None
not_taken true c e = absurd cc
not_taken false c e = refl

all_read : (bytes : List ℕ) (c : Chunk) (g : Front) → SpelledAt a_whole_chunk (start bytes) c g → length bytes ≤ g.at → Some c ≡ spelled_chunk bytes
unfolding spelled_chunk
all_read bytes c g h le =
    let r = only_by a_whole_chunk (chunk_part_lawful 3) no_nodes (start bytes) g c h in
    sym (ap (taking_all bytes) r ∙ taken_where_true (leb (length bytes) g.at) c (le-leb (length bytes) g.at le))

left_over : (bytes : List ℕ) (c : Chunk) (g : Front) → SpelledAt a_whole_chunk (start bytes) c g → g.at < length bytes → None ≡ spelled_chunk bytes
unfolding spelled_chunk
left_over bytes c g h lt =
    let r = only_by a_whole_chunk (chunk_part_lawful 3) no_nodes (start bytes) g c h in
    sym (ap (taking_all bytes) r ∙ not_taken (leb (length bytes) g.at) c (lt-leb (length bytes) g.at lt))

none_by : (bytes : List ℕ) (e : SpellFault) (r : Result (Chunk × Scan) SpellFault) → IsBytes bytes → FirstFaultAt e (a_chunk 3) (start bytes) → a_whole_chunk.read (from_front (start bytes)) ≡ r → None ≡ taking_all bytes r
none_by bytes e (Err d) b h q = refl
none_by bytes e (Ok x) b h q = absurd (spelled_no_fault a_whole_chunk (chunk_part_lawful 3) no_nodes (start bytes) x.1.front x.0 e (found_by a_whole_chunk (chunk_part_lawful 3) no_nodes (start bytes) x.0 x.1 b q) h)

none_read : (bytes : List ℕ) (e : SpellFault) → IsBytes bytes → FirstFaultAt e (a_chunk 3) (start bytes) → None ≡ spelled_chunk bytes
unfolding spelled_chunk
none_read bytes e b h = none_by bytes e (a_whole_chunk.read (from_front (start bytes))) b h refl

-- ---- the same from a cursor over the bytes

pub all_from : (bytes : List ℕ) (f g : Front) (c : Chunk) → f.at ≡ 0 → f.rest ≡ bytes → SpelledAt a_whole_chunk f c g → length bytes ≤ g.at → Some c ≡ spelled_chunk bytes
all_from bytes f g c at rest s le = all_read bytes c g (subst (λ (h : Front). SpelledAt a_whole_chunk h c g) (begins bytes f at rest) s) le

pub left_from : (bytes : List ℕ) (f g : Front) (c : Chunk) → f.at ≡ 0 → f.rest ≡ bytes → SpelledAt a_whole_chunk f c g → g.at < length bytes → None ≡ spelled_chunk bytes
left_from bytes f g c at rest s lt = left_over bytes c g (subst (λ (h : Front). SpelledAt a_whole_chunk h c g) (begins bytes f at rest) s) lt

pub none_from : (bytes : List ℕ) (f : Front) (e : SpellFault) → f.at ≡ 0 → f.rest ≡ bytes → IsBytes bytes → e ≢ spelling.NoMemory → (e ≡ spelling.NoMemory) ⊎ FirstFaultAt e (a_chunk 3) f → None ≡ spelled_chunk bytes
none_from bytes f e at rest b other (inl m) = absurd (other m)
none_from bytes f e at rest b other (inr h) = none_read bytes e b (subst (λ (g : Front). FirstFaultAt e (a_chunk 3) g) (begins bytes f at rest) h)

-- ---- typed chunks

typed_by : (o : Option Ill) (c : Chunk) → o ≡ None → Some c ≡ cond (is_some o) None (Some c)
typed_by None c e = refl
typed_by (Some i) c e = absurd cc

pub typed_is : (c : Chunk) → IsCheckedChunk c → Some c ≡ if_typed (Some c)
typed_is c k = typed_by (illness c) c (chunk_only c k.formed k.typed)

ill_by : (o : Option Ill) (c : Chunk) (f : ChunkFault) → as_fault o ≡ Some f → None ≡ cond (is_some o) None (Some c)
ill_by None c f e = absurd cc
ill_by (Some i) c f e = refl

pub ill_is : (c : Chunk) (f : ChunkFault) → as_fault (illness c) ≡ Some f → None ≡ if_typed (Some c)
ill_is c f e = ill_by (illness c) c f e

-- ---- what is read is spelled and typed

abbrev maybe : Chunk → Option Chunk
maybe c = Some c

some_is : (c d : Chunk) → maybe c ≡ maybe d → c ≡ d
some_is c d e = cc

none_not : (c : Chunk) → ◌≡◌ {A = Option Chunk} None (Some c) → ⊥
none_not c e = absurd cc

all_by : (t : Bool) (x c : Chunk) → cond t (Some x) None ≡ Some c → (t ≡ true) × (x ≡ c)
all_by true x c e = (refl, some_is x c e)
all_by false x c e = absurd (none_not c e)

no_rest : (at : ℕ) (xs ys zs : List ℕ) → xs ≡ ys ++ zs → at ≡ length ys → length xs ≤ at → xs ≡ ys
no_rest at xs ys [] e p le = e ∙ append-nil ys
no_rest at xs ys (z ∷ zs) e p le = absurd (omega (arith, ap (λ (l : List ℕ). length l) e, length-append ys (z ∷ zs), p, le))

spelled_by : (bytes : List ℕ) (c : Chunk) (r : Result (Chunk × Scan) SpellFault) → IsBytes bytes → a_whole_chunk.read (from_front (start bytes)) ≡ r → taking_all bytes r ≡ Some c → Spells a_whole_chunk bytes c
spelled_by bytes c (Err e) b q h = absurd (none_not c h)
spelled_by bytes c (Ok x) b q h =
    let a = all_by (leb (length bytes) x.1.front.at) x.0 c h in
    let s = found_by a_whole_chunk (chunk_part_lawful 3) no_nodes (start bytes) x.0 x.1 b q in
    let place : x.1.front.at ≡ 0 + length (chunk_bytes x.0) = s.place in
    subst (λ z. Spells a_whole_chunk bytes z) a.1
    (record { fits = s.fits; is = no_rest x.1.front.at bytes (chunk_bytes x.0) x.1.front.rest s.splits (omega (arith, place)) (leb-true (length bytes) x.1.front.at a.0) })

pub read_is_spelled : (bytes : List ℕ) (c : Chunk) → IsBytes bytes → spelled_chunk bytes ≡ Some c → Spells a_whole_chunk bytes c
unfolding spelled_chunk
read_is_spelled bytes c b h = spelled_by bytes c (a_whole_chunk.read (from_front (start bytes))) b refl h

checked_by : (o : Option Ill) (x c : Chunk) → cond (is_some o) None (Some x) ≡ Some c → (o ≡ None) × (x ≡ c)
checked_by None x c e = (refl, some_is x c e)
checked_by (Some i) x c e = absurd (none_not c e)

-- a chunk that bytes spell, whose types are right
pub record IsSpelled (bytes : List ℕ) (c : Chunk) : Type 0 where
  pub spells : Spells a_whole_chunk bytes c
  pub checked : IsCheckedChunk c

typed_read_by : (bytes : List ℕ) (c : Chunk) (o : Option Chunk) → IsBytes bytes → spelled_chunk bytes ≡ o → if_typed o ≡ Some c → IsSpelled bytes c
typed_read_by bytes c None b q h = absurd (none_not c h)
typed_read_by bytes c (Some x) b q h =
    let k = checked_by (illness x) x c h in
    let s = read_is_spelled bytes x b q in
    subst (IsSpelled bytes) k.1
    (record { spells = s; checked = chunk_found x (chunk_is_formed x s.fits) (chunk_is_full x s.fits) (chunk_is_small x s.fits) k.0 })

pub typed_read : (bytes : List ℕ) (c : Chunk) → IsBytes bytes → typed_chunk bytes ≡ Some c → IsSpelled bytes c
typed_read bytes c b h = typed_read_by bytes c (spelled_chunk bytes) b refl h

-- ---- what is spelled is read again

pub spelled_again : (c : Chunk) → a_whole_chunk.Fits c → spelled_chunk (chunk_bytes c) ≡ Some c
spelled_again c fits =
    sym (all_read (chunk_bytes c) c (record { at = length (chunk_bytes c); rest = [] }) (record { fits = fits; splits = sym (append-nil (chunk_bytes c)); place = omega arith }) (omega arith))

pub typed_again : (c : Chunk) → a_whole_chunk.Fits c → IsCheckedChunk c → typed_chunk (chunk_bytes c) ≡ Some c
typed_again c fits k = ap if_typed (spelled_again c fits) ∙ sym (typed_is c k)

pub chunk_weighs : (c : Chunk) → 1 ≤ chunk_weight c
unfolding chunk_weight
chunk_weighs c = omega arith
