-- The one answer of a reading is the frame that the bytes spell, or the first refusal.
use Rattle.std.proofs.Common.{◌≡◌, ◌⊎◌, inl, inr, subst, Option, Some, ℕ, ◌≤◌, Bool, true, false, List, length, None, Result, Ok, Err, refl, sym, ◌∙◌, ap, arith}
use Rattle.std.specs.Prelude.{nat_le, if◌then◌else◌}
use Rattle.std.proofs.lemmas.Bool.{leb-true, leb-false, le-leb}
use Rattle.plan_base.specs.declared.tree.Chunk.{Chunk}
use Rattle.plan_types_spec.specs.Typing.{IsTypedChunk}
use Rattle.chunk_codec_spec.specs.Spelling.{a_whole_chunk}
use Rattle.plan_types_chunks.specs.declared.fault.Ill.{Ill}
use Rattle.wire_bytes.specs.Fields.{IsBytes}
use Rattle.chunk_codec_spec.specs.Scan.{Scan}
use Rattle.plan_types_chunks.specs.Chunks.{illness}
use Rattle.plan_types_chunks.proofs.Values.{chunk_only, chunk_found}
use Rattle.packet_frame.specs.declared.fault.FrameFault.{FrameFault}
use Rattle.packet_frame.specs.declared.frame.PlainFrame.{PlainFrame}
use Rattle.packet_frame.specs.Bytes.{frame_bytes}
use Rattle.packet_frame.specs.Forms.{FrameFits, frame_at}
use Rattle.packet_frame.specs.Frames.{SpellsFrame, SpellingFault, too_long, begins, carried_chunk}
use Rattle.packet_frame.specs.Typed.{CarriesTyped, Accepts, FrameFirst, misspelled, ill_typed}
use Rattle.packet_frame.proofs.Carried.{chunk_is_formed, chunk_is_full, chunk_is_small}
use Rattle.packet_frame.proofs.FrameLaws.{spelled_read, found_whole, trailing_fault, refused_fault, one_fault_is, either_is, never_both_is}
use Rattle.packet_frame.specs.Decoding.{all_read, spelled_of, or_ill, illness_in, typed_of, frame_of}

-- ---- spellings

spelled_is : (bytes : List ℕ) (x : PlainFrame) → SpellsFrame bytes x → spelled_of bytes ≡ Ok x
spelled_is bytes x h =
    let n = length bytes in
    let l : length bytes ≤ length (frame_bytes x) = (let e = ap length h.is in omega (arith, e)) in
    ap (λ b. if b then all_read n (frame_at (begins bytes)) else Err FrameFault.TooLong) (le-leb (length bytes) 16512 h.short)
    ∙ ap (all_read (length bytes)) (spelled_read bytes x h)
    ∙ ap (λ b. if b then Ok x else Err (FrameFault.Trailing (length (frame_bytes x)))) (le-leb (length bytes) (length (frame_bytes x)) l)

module _ (bytes : List ℕ) (are_bytes : IsBytes bytes) (f : FrameFault) (first : SpellingFault f bytes) where
  by_place : (x : PlainFrame) (s : Scan) → frame_at (begins bytes) ≡ Ok (x, s) → length bytes ≤ 16512 → (b : Bool) → nat_le (length bytes) s.front.at ≡ b
      → (if b then Ok x else Err (FrameFault.Trailing s.front.at)) ≡ Err f
  by_place x s read short true q = absurd (never_both_is bytes x f (found_whole bytes x s read are_bytes short (leb-true (length bytes) s.front.at q)) first)
  by_place x s read short false q = ap Err (one_fault_is bytes (FrameFault.Trailing s.front.at) f (trailing_fault bytes x s read are_bytes short (leb-false (length bytes) s.front.at q)) first)

  by_read : length bytes ≤ 16512 → (r : Result (PlainFrame × Scan) FrameFault) → frame_at (begins bytes) ≡ r → all_read (length bytes) r ≡ Err f
  by_read short (Ok q) e = by_place q.0 q.1 e short (nat_le (length bytes) q.1.front.at) refl
  by_read short (Err d) e = ap Err (one_fault_is bytes d f (refused_fault bytes d short e) first)

  by_length : (b : Bool) → nat_le (length bytes) 16512 ≡ b → (if b then all_read (length bytes) (frame_at (begins bytes)) else Err FrameFault.TooLong) ≡ Err f
  by_length true q = by_read (leb-true (length bytes) 16512 q) (frame_at (begins bytes)) refl
  by_length false q = ap Err (one_fault_is bytes FrameFault.TooLong f (too_long (leb-false (length bytes) 16512 q) refl) first)

  fault_is : spelled_of bytes ≡ Err f
  fault_is = by_length (nat_le (length bytes) 16512) refl

-- ---- types

pub carried_well : (x : PlainFrame) → FrameFits x → CarriesTyped x → illness_in (carried_chunk x) ≡ None
carried_well (PlainFrame.Packet p) fits typed = chunk_only p.chunk (chunk_is_formed p.chunk fits.1.1.1.1.1.0) typed
carried_well (PlainFrame.Advert a) fits typed = refl
carried_well (PlainFrame.Ask bound c) fits typed = chunk_only c (chunk_is_formed c fits.1.0) typed

pub accepts_is : (bytes : List ℕ) (x : PlainFrame) → Accepts bytes x → frame_of bytes ≡ Ok x
unfolding frame_of
accepts_is bytes x h = ap typed_of (spelled_is bytes x h.spells) ∙ ap (or_ill x) (carried_well x h.spells.fits h.typed)

pub first_is : (bytes : List ℕ) (e : FrameFault) → IsBytes bytes → FrameFirst e bytes → frame_of bytes ≡ Err e
unfolding frame_of
first_is bytes e h (misspelled s) = ap typed_of (fault_is bytes h e s)
first_is bytes e h (ill_typed x spells c) = ap typed_of (spelled_is bytes x spells) ∙ ap (or_ill x) (ap illness_in c.is_carried ∙ c.first) ∙ ap Err (sym c.is)

-- ---- and the answer is a frame only where the bytes spell it and its chunk is typed

found_chunk : (c : Chunk) → a_whole_chunk.Fits c → illness c ≡ None → IsTypedChunk c
found_chunk c fits well = (chunk_found c (chunk_is_formed c fits) (chunk_is_full c fits) (chunk_is_small c fits) well).typed

pub found_typed : (x : PlainFrame) → FrameFits x → illness_in (carried_chunk x) ≡ None → CarriesTyped x
found_typed (PlainFrame.Packet p) fits well = found_chunk p.chunk fits.1.1.1.1.1.0 well
found_typed (PlainFrame.Advert a) fits well = tt
found_typed (PlainFrame.Ask bound c) fits well = found_chunk c fits.1.0 well

module _ (bytes : List ℕ) (x : PlainFrame) where
  by_illness : (y : PlainFrame) → SpellsFrame bytes y → (o : Option Ill) → illness_in (carried_chunk y) ≡ o → or_ill y o ≡ Ok x → Accepts bytes x
  by_illness y spells None well e = let same : y ≡ x = cc in subst (Accepts bytes) same (record { spells = spells; typed = found_typed y spells.fits well })
  by_illness y spells (Some i) well e = absurd (cc)

  by_spelling : IsBytes bytes → ((y : PlainFrame) × SpellsFrame bytes y) ⊎ ((f : FrameFault) × SpellingFault f bytes) → typed_of (spelled_of bytes) ≡ Ok x → Accepts bytes x
  by_spelling h (inl (y, spells)) e = by_illness y spells (illness_in (carried_chunk y)) refl (sym (ap typed_of (spelled_is bytes y spells)) ∙ e)
  by_spelling h (inr (f, first)) e = absurd (err_is_no_ok (sym (ap typed_of (fault_is bytes h f first)) ∙ e))
    where
      err_is_no_ok : {r : FrameFault} → Err r ≡ Ok x → ⊥
      err_is_no_ok q = cc

pub found_is : (bytes : List ℕ) (x : PlainFrame) → IsBytes bytes → frame_of bytes ≡ Ok x → Accepts bytes x
unfolding frame_of
found_is bytes x h e = by_spelling bytes x h (either_is bytes h) e
