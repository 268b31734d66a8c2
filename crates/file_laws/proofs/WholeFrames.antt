-- Bytes are a typed frame, or are refused where they first aren't, in either version.
use Rattle.std.proofs.Common.{◌≡◌, ℕ, List, Option, Some, None, Result, Ok, Err, refl, sym, ap, ◌∙◌, subst, ◌⊎◌, inl, inr}
use Rattle.std.specs.Prelude.{◌↔◌}
use Rattle.plan_base.specs.declared.tree.Chunk.{Chunk}
use Rattle.plan_base.specs.declared.stamp.Version.TheVariants.{Two}
use Rattle.wire_bytes.specs.Fields.{IsBytes}
use Rattle.chunk_codec_spec.specs.Spelling.{a_whole_chunk}
use Rattle.plan_types_chunks.specs.declared.fault.Ill.{Ill}
use Rattle.plan_types_chunks.specs.declared.fault.ChunkFault.TheVariants as causes
use Rattle.plan_types_chunks.specs.Chunks.{illness}
use Rattle.plan_parser_laws.specs.ChunkConditions.{conditions, FirstFailing}
use Rattle.plan_parser_laws.proofs.ChunkFirsts.{first_is as first_ill}
use Rattle.plan_parser_laws.proofs.ChunkOwn.{illness_own}
use Rattle.packet_frame.specs.Forms.{FrameFits}
use Rattle.packet_frame.specs.Frames.{SpellsFrame, SpellingFault, carried_chunk}
use Rattle.packet_frame.specs.Typed.{Accepts, CarriesTyped, CarriesIll, CarriesNoHandler, FrameFirst, misspelled, ill_typed}
use Rattle.packet_frame.specs.Stamped.{SpellsStamped, StampedFault, AcceptsBy, StampedFirst, spells_none, ill_typed as ill_stamped, ill_handled}
use Rattle.packet_frame.specs.declared.fault.FrameFault.{FrameFault}
use Rattle.packet_frame.specs.declared.fault.FrameFault.TheVariants as faults
use Rattle.packet_frame.specs.declared.frame.PlainFrame.{PlainFrame}
use Rattle.packet_frame.specs.declared.frame.PlainStamped.{PlainStamped}
use Rattle.packet_frame.proofs.Carried.{chunk_is_formed, chunk_is_full}
use Rattle.packet_frame.proofs.FrameLaws.{either_is}
use Rattle.packet_frame.proofs.StampedLaws.{stamped_either}
use Rattle.packet_frame.proofs.Versions.{refused_by_two, found_by, accepted_by}
use Rattle.file_laws.specs.Flat.{too_long, misspelled as flat}
use Rattle.file_laws.proofs.FlatLaws.{frame_is_flat, stamped_is_flat}
use Rattle.packet_frame.specs.Decoding.{frame_of, illness_in, read_by}
use Rattle.packet_frame.proofs.OneAnswer.{accepts_is, first_is as answered, found_typed}
use Rattle.file_laws.specs.FrameRefusals.{CarriesFailing, FirstRefusal, of_spelling, of_types, FirstStampedRefusal, of_stamped_spelling, of_stamped_types, of_handler, IsFrameOrRefused, IsStampedOrRefused, HoldsNoMemory}
use Rattle.file_laws.proofs.Fields.{flat_own}

-- the chunk of a frame keeps its limits
carried_fits : (x : PlainFrame) (c : Chunk) → FrameFits x → carried_chunk x ≡ Some c → a_whole_chunk.Fits c
carried_fits (PlainFrame.Packet p) c fits e = let same : p.chunk ≡ c = cc in subst a_whole_chunk.Fits same fits.1.1.1.1.1.0
carried_fits (PlainFrame.Advert a) c fits e = absurd (cc)
carried_fits (PlainFrame.Ask bound d) c fits e = let same : d ≡ c = cc in subst a_whole_chunk.Fits same fits.1.0

ill_law : (x : PlainFrame) (c : Chunk) (i : Ill) → FrameFits x → carried_chunk x ≡ Some c → (illness c ≡ Some i) ↔ FirstFailing c (causes.Ill i) (conditions c)
ill_law x c i fits e = let k = carried_fits x c fits e in first_ill c (chunk_is_formed c k) (chunk_is_full c k) i

-- what is wrong with the chunk that a frame carries, reported by its first condition, and back
failing : (x : PlainFrame) (e : FrameFault) → FrameFits x → CarriesIll x e → (i : Ill) × CarriesFailing x i × (e ≡ faults.IllTyped i)
failing x e fits c = (c.ill, record { chunk = c.chunk; is_carried = c.is_carried; fails = (ill_law x c.chunk c.ill fits c.is_carried).0 c.first }, c.is)

ill_of : (x : PlainFrame) (i : Ill) → FrameFits x → CarriesFailing x i → CarriesIll x (faults.IllTyped i)
ill_of x i fits c = record { chunk = c.chunk; ill = i; is_carried = c.is_carried; first = (ill_law x c.chunk i fits c.is_carried).1 c.fails; is = refl }

failing_own : (x : PlainFrame) (i : Ill) → FrameFits x → CarriesFailing x i → HoldsNoMemory (faults.IllTyped i)
failing_own x i fits c = illness_own c.chunk i ((ill_law x c.chunk i fits c.is_carried).1 c.fails)

-- a frame's chunk is typed, or first fails
typed_or_failing : (x : PlainFrame) → FrameFits x → CarriesTyped x ⊎ ((i : Ill) × CarriesFailing x i)
typed_or_failing x fits = by_chunk (carried_chunk x) refl (illness_in (carried_chunk x)) refl
  where
    by_chunk : (c : Option Chunk) → carried_chunk x ≡ c → (o : Option Ill) → illness_in c ≡ o → CarriesTyped x ⊎ ((i : Ill) × CarriesFailing x i)
    by_chunk c q None h = inl (found_typed x fits (ap illness_in q ∙ h))
    by_chunk (Some c) q (Some i) h = inr (i, record { chunk = c; is_carried = q; fails = (ill_law x c i fits q).0 h })
    by_chunk None q (Some i) h = absurd (cc)

module _ (bytes : List ℕ) (are : IsBytes bytes) where
  first_is_told : (e : FrameFault) → FrameFirst e bytes → FirstRefusal bytes e
  first_is_told e (misspelled s) = of_spelling e ((frame_is_flat bytes e are).0 s)
  first_is_told e (ill_typed x s c) = let f = failing x e s.fits c in subst (FirstRefusal bytes) (sym f.2) (of_types x f.0 s f.1)

  back : (e : FrameFault) → FirstRefusal bytes e → FrameFirst e bytes
  back _ (of_spelling e s) = misspelled ((frame_is_flat bytes e are).1 s)
  back _ (of_types x i s c) = ill_typed x s (ill_of x i s.fits c)

  pub first : (e : FrameFault) → FrameFirst e bytes ↔ FirstRefusal bytes e
  first e = (first_is_told e, back e)

  pub some : IsFrameOrRefused bytes
  some = by_spelling (either_is bytes are)
    where
      by_types : (x : PlainFrame) → SpellsFrame bytes x → CarriesTyped x ⊎ ((i : Ill) × CarriesFailing x i) → IsFrameOrRefused bytes
      by_types x s (inl t) = inl (x, record { spells = s; typed = t })
      by_types x s (inr i) = inr (faults.IllTyped i.0, of_types x i.0 s i.1)

      by_spelling : ((x : PlainFrame) × SpellsFrame bytes x) ⊎ ((e : FrameFault) × SpellingFault e bytes) → IsFrameOrRefused bytes
      by_spelling (inl x) = by_types x.0 x.1 (typed_or_failing x.0 x.1.fits)
      by_spelling (inr e) = inr (e.0, of_spelling e.0 ((frame_is_flat bytes e.0 are).0 e.1))

  first_is_refused : (e : FrameFault) → FirstRefusal bytes e → frame_of bytes ≡ Err e
  first_is_refused e r = answered bytes e are (back e r)

  pub apart : (x : PlainFrame) (e : FrameFault) → Accepts bytes x → FirstRefusal bytes e → ⊥
  apart x e a r = let z : ◌≡◌ {A = Result PlainFrame FrameFault} (Ok x) (Err e) = sym (accepts_is bytes x a) ∙ first_is_refused e r in cc

  pub one : (d e : FrameFault) → FirstRefusal bytes d → FirstRefusal bytes e → d ≡ e
  one d e r s = let z : ◌≡◌ {A = Result PlainFrame FrameFault} (Err d) (Err e) = sym (first_is_refused d r) ∙ first_is_refused e s in cc

  pub frame_own : (e : FrameFault) → FrameFirst e bytes → HoldsNoMemory e
  frame_own e h = own e (first_is_told e h)
    where
      own : (e : FrameFault) → FirstRefusal bytes e → HoldsNoMemory e
      own e (of_spelling _ (too_long n q)) = subst HoldsNoMemory (sym q) tt
      own e (of_spelling _ (flat n f)) = flat_own f
      own _ (of_types x i s c) = failing_own x i s.fits c

-- ---- what a node of version 2 reads

module _ (bytes : List ℕ) (are : IsBytes bytes) where
  stamped_told : (e : FrameFault) → StampedFirst e bytes → FirstStampedRefusal bytes e
  stamped_told e (spells_none s) = of_stamped_spelling e ((stamped_is_flat bytes e are).0 s)
  stamped_told e (ill_stamped x s c) = let f = failing x.frame e s.fits.0 c in subst (FirstStampedRefusal bytes) (sym f.2) (of_stamped_types x f.0 s f.1)
  stamped_told e (ill_handled x s c) = of_handler x e s c

  stamped_back : (e : FrameFault) → FirstStampedRefusal bytes e → StampedFirst e bytes
  stamped_back _ (of_stamped_spelling e s) = spells_none ((stamped_is_flat bytes e are).1 s)
  stamped_back _ (of_stamped_types x i s c) = ill_stamped x s (ill_of x.frame i s.fits.0 c)
  stamped_back _ (of_handler x e s c) = ill_handled x s c

  pub stamped_first : (e : FrameFault) → StampedFirst e bytes ↔ FirstStampedRefusal bytes e
  stamped_first e = (stamped_told e, stamped_back e)

  -- a typed frame that isn't read has no handler that may handle
  unread : (x : PlainStamped) (f : FrameFault) → SpellsStamped bytes x → CarriesTyped x.frame → read_by Two bytes ≡ Err f → CarriesNoHandler x.frame faults.IllHandler
  unread x f s t q = record {
    typed = t;
    refused = λ h.
        let a : AcceptsBy Two bytes x = record { short = s.short; fits = s.fits.0; read = s.fits.1; is = s.is; typed = t; handler = h } in
        let z : ◌≡◌ {A = Result PlainStamped FrameFault} (Ok x) (Err f) = sym (accepted_by Two bytes x a) ∙ q in
        cc;
    is = refl;
  }

  pub stamped_some : IsStampedOrRefused bytes
  stamped_some = by_spelling (stamped_either bytes are)
    where
      by_handler : (x : PlainStamped) → SpellsStamped bytes x → CarriesTyped x.frame → (r : Result PlainStamped FrameFault) → read_by Two bytes ≡ r → IsStampedOrRefused bytes
      by_handler x s t (Ok y) q = inl (y, found_by Two bytes y are q)
      by_handler x s t (Err f) q = inr (faults.IllHandler, of_handler x faults.IllHandler s (unread x f s t q))

      by_types : (x : PlainStamped) → SpellsStamped bytes x → CarriesTyped x.frame ⊎ ((i : Ill) × CarriesFailing x.frame i) → IsStampedOrRefused bytes
      by_types x s (inl t) = by_handler x s t (read_by Two bytes) refl
      by_types x s (inr i) = inr (faults.IllTyped i.0, of_stamped_types x i.0 s i.1)

      by_spelling : ((x : PlainStamped) × SpellsStamped bytes x) ⊎ ((e : FrameFault) × StampedFault e bytes) → IsStampedOrRefused bytes
      by_spelling (inl x) = by_types x.0 x.1 (typed_or_failing x.0.frame x.1.fits.0)
      by_spelling (inr e) = inr (e.0, of_stamped_spelling e.0 ((stamped_is_flat bytes e.0 are).0 e.1))

  stamped_refused : (e : FrameFault) → FirstStampedRefusal bytes e → read_by Two bytes ≡ Err e
  stamped_refused e r = refused_by_two bytes e are (stamped_back e r)

  pub stamped_apart : (x : PlainStamped) (e : FrameFault) → AcceptsBy Two bytes x → FirstStampedRefusal bytes e → ⊥
  stamped_apart x e a r = let z : ◌≡◌ {A = Result PlainStamped FrameFault} (Ok x) (Err e) = sym (accepted_by Two bytes x a) ∙ stamped_refused e r in cc

  pub stamped_one : (d e : FrameFault) → FirstStampedRefusal bytes d → FirstStampedRefusal bytes e → d ≡ e
  stamped_one d e r s = let z : ◌≡◌ {A = Result PlainStamped FrameFault} (Err d) (Err e) = sym (stamped_refused d r) ∙ stamped_refused e s in cc

pub stamped_own : (bytes : List ℕ) (e : FrameFault) → IsBytes bytes → StampedFirst e bytes → HoldsNoMemory e
stamped_own bytes e are h = own e (stamped_told bytes are e h)
  where
    own : (e : FrameFault) → FirstStampedRefusal bytes e → HoldsNoMemory e
    own e (of_stamped_spelling _ (too_long n q)) = subst HoldsNoMemory (sym q) tt
    own e (of_stamped_spelling _ (flat n f)) = flat_own f
    own _ (of_stamped_types x i s c) = failing_own x.frame i s.fits.0 c
    own e (of_handler x _ s c) = subst HoldsNoMemory (sym c.is) tt
