-- What a node of a version reads of bytes is accepted in that version, and what is accepted is read.
use Rattle.std.proofs.Common.{◌≡◌, ◌⊎◌, inl, inr, ℕ, ◌≤◌, List, length, Bool, true, false, Option, Some, None, Result, Ok, Err, refl, sym, ap, ◌∙◌, subst, arith}
use Rattle.std.specs.Prelude.{nat_le, if◌then◌else◌}
use Rattle.std.proofs.lemmas.Bool.{leb-true, leb-false, le-leb}
use Rattle.wire_bytes.specs.Fields.{IsBytes}
use Rattle.chunk_codec_spec.specs.Scan.{Scan}
use Rattle.plan_base.specs.declared.name.Name.{Name}
use Rattle.plan_base.specs.declared.tree.Chunk.{Chunk}
use Rattle.plan_types_spec.specs.Handlers.{MayHandle}
use Rattle.plan_types_chunks.specs.declared.fault.Ill.{Ill}
use Rattle.plan_base.specs.declared.stamp.Stamp.{Stamp}
use Rattle.plan_base.specs.declared.stamp.Version.{Version}
use Rattle.plan_base.specs.declared.stamp.Version.TheVariants.{One, Two}
use Rattle.packet_frame.specs.declared.fault.FrameFault.{FrameFault}
use Rattle.packet_frame.specs.declared.frame.PlainFrame.{PlainFrame}
use Rattle.packet_frame.specs.declared.frame.PlainStamped.{PlainStamped}
use Rattle.packet_frame.specs.Frames.{begins, carried_chunk}
use Rattle.packet_frame.specs.Versions.{stamped_at}
use Rattle.packet_frame.specs.Stamped.{stamped_bytes, SpellsStamped, StampedFault, AcceptsBy, StampedFirst, spells_none, ill_typed, ill_handled}
use Rattle.packet_frame.specs.Typed.{CarriesTyped, CarriesHandler, Accepts}
use Rattle.packet_frame.proofs.Carried.{plain_carries}
use Rattle.packet_frame.proofs.WholeLaws.{Faulty, spelled_read, found_whole, trailing_fault, refused_fault, one_fault_is, never_both_is}
use Rattle.packet_frame.proofs.WholeLaws as whole
use Rattle.packet_frame.proofs.StampedLaws.{stamped_whole, is_spells, is_faulty, stamped_either}
use Rattle.packet_frame.specs.Decoding.{frame_of, illness_in, unstamped_frame, all_stamped, stamped_spelled, may_handle, carries_handler, stamped_or_ill, stamped_typed, stamped_of, read_by}
use Rattle.packet_frame.proofs.OneAnswer.{accepts_is, found_is, carried_well, found_typed}

by_one : (bytes : List ℕ) (y : PlainFrame) → Accepts bytes y → AcceptsBy One bytes (record { stamp = None; frame = y })
unfolding stamped_bytes
by_one bytes y a = record { short = a.spells.short; fits = a.spells.fits; read = (refl, a.spells.plain); is = a.spells.is; typed = a.typed; handler = plain_carries y a.spells.plain }

-- ---- what version 2 spells

spelled_is : (bytes : List ℕ) (x : PlainStamped) → SpellsStamped bytes x → stamped_spelled bytes ≡ Ok x
spelled_is bytes x h =
    let n = length bytes in
    let l : length bytes ≤ length (stamped_bytes x) = (let e = ap length h.is in omega (arith, e)) in
    ap (λ b. if b then all_stamped n (stamped_at (begins bytes)) else Err FrameFault.TooLong) (le-leb (length bytes) 16512 h.short)
    ∙ ap (all_stamped (length bytes)) (spelled_read stamped_whole bytes x (is_spells bytes x h))
    ∙ ap (λ b. if b then Ok x else Err (FrameFault.Trailing (length (stamped_bytes x)))) (le-leb (length bytes) (length (stamped_bytes x)) l)

module _ (bytes : List ℕ) (are_bytes : IsBytes bytes) (f : FrameFault) (first : Faulty stamped_whole f bytes) where
  by_place : (x : PlainStamped) (s : Scan) → stamped_at (begins bytes) ≡ Ok (x, s) → length bytes ≤ 16512 → (b : Bool) → nat_le (length bytes) s.front.at ≡ b
      → (if b then Ok x else Err (FrameFault.Trailing s.front.at)) ≡ Err f
  by_place x s read short true q = absurd (never_both_is stamped_whole bytes x f (found_whole stamped_whole bytes x s read are_bytes short (leb-true (length bytes) s.front.at q)) first)
  by_place x s read short false q = ap Err (one_fault_is stamped_whole bytes (FrameFault.Trailing s.front.at) f (trailing_fault stamped_whole bytes x s read are_bytes short (leb-false (length bytes) s.front.at q)) first)

  by_read : length bytes ≤ 16512 → (r : Result (PlainStamped × Scan) FrameFault) → stamped_at (begins bytes) ≡ r → all_stamped (length bytes) r ≡ Err f
  by_read short (Ok q) e = by_place q.0 q.1 e short (nat_le (length bytes) q.1.front.at) refl
  by_read short (Err d) e = ap Err (one_fault_is stamped_whole bytes d f (refused_fault stamped_whole bytes d short e) first)

  by_length : (b : Bool) → nat_le (length bytes) 16512 ≡ b → (if b then all_stamped (length bytes) (stamped_at (begins bytes)) else Err FrameFault.TooLong) ≡ Err f
  by_length true q = by_read (leb-true (length bytes) 16512 q) (stamped_at (begins bytes)) refl
  by_length false q = ap Err (one_fault_is stamped_whole bytes FrameFault.TooLong f (whole.too_long (leb-false (length bytes) 16512 q) refl) first)

  fault_is : stamped_spelled bytes ≡ Err f
  fault_is = by_length (nat_le (length bytes) 16512) refl

-- ---- types and handlers

handler_told : (c : Chunk) (h : Option Name) → MayHandle c h → may_handle c h ≡ true
handler_told c None h = refl
handler_told c (Some n) h = h

handler_found : (c : Chunk) (h : Option Name) → may_handle c h ≡ true → MayHandle c h
handler_found c None h = tt
handler_found c (Some n) h = h

carried_told : (x : PlainFrame) → CarriesHandler x → carries_handler x ≡ true
carried_told (PlainFrame.Packet p) h = handler_told p.chunk p.handler h
carried_told (PlainFrame.Advert a) h = refl
carried_told (PlainFrame.Ask bound c) h = refl

carried_found : (x : PlainFrame) → carries_handler x ≡ true → CarriesHandler x
carried_found (PlainFrame.Packet p) h = handler_found p.chunk p.handler h
carried_found (PlainFrame.Advert a) h = tt
carried_found (PlainFrame.Ask bound c) h = tt

carried_refused : (x : PlainFrame) → (CarriesHandler x → ⊥) → carries_handler x ≡ false
carried_refused x h = by_case (carries_handler x) refl
  where
    by_case : (b : Bool) → carries_handler x ≡ b → carries_handler x ≡ false
    by_case true q = absurd (h (carried_found x q))
    by_case false q = q

-- the last judgement, where the types are well
abbrev judged_last : PlainStamped → Bool → Result PlainStamped FrameFault
judged_last y b = if b then Ok y else Err FrameFault.IllHandler

module _ (bytes : List ℕ) (x : PlainStamped) where
  by_handler : (y : PlainStamped) → SpellsStamped bytes y → CarriesTyped y.frame → (b : Bool) → carries_handler y.frame ≡ b → (if b then Ok y else Err FrameFault.IllHandler) ≡ Ok x → AcceptsBy Two bytes x
  by_handler y h t true q e =
      let same : y ≡ x = cc in
      subst (AcceptsBy Two bytes) same (record { short = h.short; fits = h.fits.0; read = h.fits.1; is = h.is; typed = t; handler = carried_found y.frame q })
  by_handler y h t false q e = absurd (cc)

  by_illness : (y : PlainStamped) → SpellsStamped bytes y → (o : Option Ill) → illness_in (carried_chunk y.frame) ≡ o → stamped_or_ill y o ≡ Ok x → AcceptsBy Two bytes x
  by_illness y spells None well e = by_handler y spells (found_typed y.frame spells.fits.0 well) (carries_handler y.frame) refl e
  by_illness y spells (Some i) well e = absurd (cc)

  by_spelling : IsBytes bytes → ((y : PlainStamped) × SpellsStamped bytes y) ⊎ ((f : FrameFault) × StampedFault f bytes) → stamped_typed (stamped_spelled bytes) ≡ Ok x → AcceptsBy Two bytes x
  by_spelling h (inl (y, spells)) e = by_illness y spells (illness_in (carried_chunk y.frame)) refl (sym (ap stamped_typed (spelled_is bytes y spells)) ∙ e)
  by_spelling h (inr (f, first)) e = absurd (err_is_no_ok (sym (ap stamped_typed (fault_is bytes h f (is_faulty f bytes first))) ∙ e))
    where
      err_is_no_ok : {r : FrameFault} → ◌≡◌ {A = Result PlainStamped FrameFault} (Err r) (Ok x) → ⊥
      err_is_no_ok q = cc

found_by_two : (bytes : List ℕ) (x : PlainStamped) → IsBytes bytes → stamped_of bytes ≡ Ok x → AcceptsBy Two bytes x
unfolding stamped_of
found_by_two bytes x h e = by_spelling bytes x h (stamped_either bytes h) e

accepts_by_two : (bytes : List ℕ) (x : PlainStamped) → AcceptsBy Two bytes x → stamped_of bytes ≡ Ok x
unfolding stamped_of
accepts_by_two bytes x h =
    let spells : SpellsStamped bytes x = record { short = h.short; fits = (h.fits, h.read); is = h.is } in
    ap stamped_typed (spelled_is bytes x spells) ∙ ap (stamped_or_ill x) (carried_well x.frame h.fits h.typed)
    ∙ ap (judged_last x) (carried_told x.frame h.handler)

-- bytes that a node of version 2 doesn't read are refused with their first fault
pub refused_by_two : (bytes : List ℕ) (e : FrameFault) → IsBytes bytes → StampedFirst e bytes → stamped_of bytes ≡ Err e
unfolding stamped_of
refused_by_two bytes e h (spells_none f) = ap stamped_typed (fault_is bytes h e (is_faulty e bytes f))
refused_by_two bytes e h (ill_typed x spells c) = ap stamped_typed (spelled_is bytes x spells) ∙ ap (stamped_or_ill x) (ap illness_in c.is_carried ∙ c.first) ∙ ap Err (sym c.is)
refused_by_two bytes e h (ill_handled x spells c) =
    ap stamped_typed (spelled_is bytes x spells) ∙ ap (stamped_or_ill x) (carried_well x.frame spells.fits.0 c.typed)
    ∙ ap (judged_last x) (carried_refused x.frame c.refused) ∙ ap Err (sym c.is)

pub found_by : (v : Version) (bytes : List ℕ) (x : PlainStamped) → IsBytes bytes → read_by v bytes ≡ Ok x → AcceptsBy v bytes x
found_by One bytes x h e = one (frame_of bytes) refl e
  where
    one : (r : Result PlainFrame FrameFault) → frame_of bytes ≡ r → unstamped_frame r ≡ Ok x → AcceptsBy One bytes x
    one (Ok y) q e = let is : ◌≡◌ {A = PlainStamped} (record { stamp = None; frame = y }) x = cc in subst (AcceptsBy One bytes) is (by_one bytes y (found_is bytes y h q))
    one (Err f) q e = cc
found_by Two bytes x h e = found_by_two bytes x h e

accepts_by_one : (bytes : List ℕ) (o : Option Stamp) (y : PlainFrame) → o ≡ None → AcceptsBy One bytes (record { stamp = o; frame = y }) → Accepts bytes y
unfolding stamped_bytes
accepts_by_one bytes None y e a = record { spells = record { short = a.short; fits = a.fits; plain = a.read.1; is = a.is }; typed = a.typed }
accepts_by_one bytes (Some s) y e a = cc

-- what is accepted in a version is what a node of that version reads
pub accepted_by : (v : Version) (bytes : List ℕ) (x : PlainStamped) → AcceptsBy v bytes x → read_by v bytes ≡ Ok x
accepted_by One bytes x a = ap unstamped_frame (accepts_is bytes x.frame (accepts_by_one bytes x.stamp x.frame a.read.0 a)) ∙ (λ i. Ok (record { stamp = sym a.read.0 i; frame = x.frame }))
accepted_by Two bytes x a = accepts_by_two bytes x a
