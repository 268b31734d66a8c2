use Rattle.std.proofs.Common.{◌≡◌, ◌⊎◌, inl, inr, ℕ, ◌+◌, ◌≤◌, List, Option, Some, None, Result, Ok, Err, sym, ◌∙◌, subst, arith}
use Rattle.std.specs.Prelude.{IfOk, IfErr, MatchResult}
use Rattle.plan_base.specs.Sizes.{chunk_weight}
use Rattle.plan_base.specs.WellFormed.{IsWellFormedChunk, ChunkHasTypes}
use Rattle.plan_base.specs.declared.tree.Chunk.{Chunk}
use Rattle.chunk_codec_spec.specs.Spelling.{a_whole_chunk}
use Rattle.chunk_codec_spec.proofs.SpelledForms.{chunk_is_well}
use Rattle.plan_base.specs.declared.tree.Packet.{Packet}
use Rattle.packet_frame.specs.declared.fault.FrameFault.{FrameFault}
use Rattle.packet_frame.specs.declared.frame.PlainFrame.{PlainFrame}
use Rattle.packet_frame.specs.declared.checked.Frame.{Frame}
use Rattle.plan_base.specs.declared.name.Name.{Name}
use Rattle.plan_types_spec.specs.Handlers.{MayHandle}
use Rattle.packet_frame.specs.Forms.{IsPlain}
use Rattle.packet_frame.specs.Frames.{SpellsFrame, SpellingFault}
use Rattle.packet_frame.specs.Typed.{CarriesTyped, CarriesHandler, CarriesNoHandler, CarriesIll, FrameFirst, misspelled, ill_typed}
use Rattle.packet_frame.specs.declared.frame.PlainStamped.{PlainStamped}
use Rattle.packet_frame.specs.declared.checked.Stamped.{Stamped}
use Rattle.packet_frame.specs.Stamped.{SpellsStamped, StampedFault, AcceptsBy, StampedFirst, spells_none, stamped_plain}
use Rattle.packet_frame.specs.Stamped as stamped
use Rattle.plan_base.specs.declared.stamp.Version.TheVariants.{Two}
use Rattle.packet_frame.proofs.Sizes.{chunk_small}

pub chunk_is_formed : (c : Chunk) → a_whole_chunk.Fits c → IsWellFormedChunk c
chunk_is_formed c h = (chunk_is_well c h).0

pub chunk_is_full : (c : Chunk) → a_whole_chunk.Fits c → ChunkHasTypes c
chunk_is_full c h = (chunk_is_well c h).1

pub chunk_is_small : (c : Chunk) → a_whole_chunk.Fits c → 1 + chunk_weight c ≤ 16384
chunk_is_small c h = let l = chunk_small c h in omega (arith, l)

-- ---- bytes that spell no frame

pub read_fault : (bytes : List ℕ) (f : FrameFault) → (f ≡ FrameFault.NoMemory) ⊎ SpellingFault f bytes → (f ≡ FrameFault.NoMemory) ⊎ FrameFirst f bytes
read_fault bytes f (inl h) = inl h
read_fault bytes f (inr h) = inr (misspelled h)

-- ---- bytes that spell one

no_handler : (c : Chunk) (h : Option Name) → h ≡ None → MayHandle c h
no_handler c None e = tt
no_handler c (Some n) e = cc

-- a frame that version 1 can carry has no handler that is none
pub plain_carries : (x : PlainFrame) → IsPlain x → CarriesHandler x
plain_carries (PlainFrame.Packet p) h = no_handler p.chunk p.handler h
plain_carries (PlainFrame.Advert a) h = tt
plain_carries (PlainFrame.Ask bound c) h = tt

module _ (bytes : List ℕ) (plain : PlainFrame) (spells : SpellsFrame bytes plain) where
  pub whole_fault : (r : Result Frame FrameFault) → IfErr r (λ e. (e ≡ FrameFault.NoMemory) ⊎ (CarriesIll plain e ⊎ CarriesNoHandler plain e)) → IfErr r (λ e. (e ≡ FrameFault.NoMemory) ⊎ FrameFirst e bytes)
  whole_fault (Ok x) h = tt
  whole_fault (Err e) h = by_case h
    where
      by_case : (e ≡ FrameFault.NoMemory) ⊎ (CarriesIll plain e ⊎ CarriesNoHandler plain e) → (e ≡ FrameFault.NoMemory) ⊎ FrameFirst e bytes
      by_case (inl m) = inl m
      by_case (inr (inl i)) = inr (ill_typed plain spells i)
      by_case (inr (inr n)) = absurd (n.refused (plain_carries plain spells.plain))

-- ---- the same under version 2

pub accepted_two : (bytes : List ℕ) (plain x : PlainStamped) → SpellsStamped bytes plain → x ≡ plain → CarriesTyped plain.frame → CarriesHandler plain.frame → AcceptsBy Two bytes x
accepted_two bytes plain x s e t h = subst (AcceptsBy Two bytes) (sym e) (record { short = s.short; fits = s.fits.0; read = s.fits.1; is = s.is; typed = t; handler = h })

pub two_spelled : (bytes : List ℕ) (x : PlainStamped) → AcceptsBy Two bytes x → SpellsStamped bytes x
two_spelled bytes x a = record { short = a.short; fits = (a.fits, a.read); is = a.is }

pub stamped_read_fault : (bytes : List ℕ) (f : FrameFault) → (f ≡ FrameFault.NoMemory) ⊎ StampedFault f bytes → (f ≡ FrameFault.NoMemory) ⊎ StampedFirst f bytes
stamped_read_fault bytes f (inl h) = inl h
stamped_read_fault bytes f (inr h) = inr (spells_none h)

module _ (bytes : List ℕ) (plain : PlainStamped) (spells : SpellsStamped bytes plain) where
  pub two_fault : (r : Result Stamped FrameFault) → IfErr r (λ e. (e ≡ FrameFault.NoMemory) ⊎ (CarriesIll plain.frame e ⊎ CarriesNoHandler plain.frame e)) → IfErr r (λ e. (e ≡ FrameFault.NoMemory) ⊎ StampedFirst e bytes)
  two_fault (Ok x) h = tt
  two_fault (Err e) h = by_case h
    where
      by_case : (e ≡ FrameFault.NoMemory) ⊎ (CarriesIll plain.frame e ⊎ CarriesNoHandler plain.frame e) → (e ≡ FrameFault.NoMemory) ⊎ StampedFirst e bytes
      by_case (inl m) = inl m
      by_case (inr (inl i)) = inr (stamped.ill_typed plain spells i)
      by_case (inr (inr n)) = inr (stamped.ill_handled plain spells n)

  pub two_found : (r : Result Stamped FrameFault) → IfOk r (λ x. (stamped_plain x ≡ plain) × (CarriesTyped plain.frame × CarriesHandler plain.frame)) → IfOk r (λ x. AcceptsBy Two bytes (stamped_plain x))
  two_found (Ok x) h = accepted_two bytes plain (stamped_plain x) spells h.0 h.1.0 h.1.1
  two_found (Err e) h = tt

  pub two_only : (x : PlainStamped) → plain ≡ x → AcceptsBy Two bytes x → (r : Result Stamped FrameFault)
      → (CarriesTyped plain.frame → CarriesHandler plain.frame → MatchResult r (λ y. stamped_plain y ≡ plain) (λ e. e ≡ FrameFault.NoMemory)) → MatchResult r (λ y. stamped_plain y ≡ x) (λ e. e ≡ FrameFault.NoMemory)
  two_only x e a r k = by r (k (subst (λ y. CarriesTyped y.frame) (sym e) a.typed) (subst (λ y. CarriesHandler y.frame) (sym e) a.handler))
    where
      by : (r : Result Stamped FrameFault) → MatchResult r (λ y. stamped_plain y ≡ plain) (λ e. e ≡ FrameFault.NoMemory) → MatchResult r (λ y. stamped_plain y ≡ x) (λ e. e ≡ FrameFault.NoMemory)
      by (Ok y) h = h ∙ e
      by (Err d) h = h
