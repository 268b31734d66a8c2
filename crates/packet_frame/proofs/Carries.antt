use Rattle.std.proofs.Common.{◌≡◌, ◌⊎◌, inl, inr, ℕ, List, [], ◌∷◌, Result, Ok, Err, refl, sym, ◌∙◌, ap, subst}
use Rattle.wire_bytes.specs.Fields.{Front}
use Rattle.containers.proofs.Agendas.{goes_ok, no_fault}
use Rattle.plan_base.specs.declared.tree.Chunk.{Chunk}
use Rattle.chunk_codec_spec.specs.declared.fault.SpellFault.{SpellFault}
use Rattle.chunk_codec_spec.specs.Items.{a_name, a_chunk}
use Rattle.chunk_codec_spec.specs.Scan.{Scan}
use Rattle.chunk_codec_spec.specs.Parts.{Part}
use Rattle.chunk_codec_spec.specs.Fields.{name_part}
use Rattle.chunk_codec_spec.specs.Steps.{step}
use Rattle.chunk_codec_spec.specs.Spelling.{SpelledAt, FirstFaultAt, a_whole_chunk, from_front}
use Rattle.chunk_codec_spec.proofs.PartLaws.{Lawful}
use Rattle.chunk_codec_spec.proofs.LeafLaws.{name_lawful}
use Rattle.chunk_codec_spec.proofs.ValueLaws.{chunk_part_lawful}
use Rattle.chunk_codec_spec.proofs.WholeLaws.{only_by, fault_by, at_most_one}
use Rattle.packet_frame.specs.declared.fault.FrameFault.{FrameFault}
use Rattle.packet_frame.specs.Faults.{of_spelling}
use Rattle.packet_frame.specs.Fields.{told_fault, route_at, carried_at}
use Rattle.packet_frame.specs.Reading.{Fails}

-- a fault that the reading has is one that the call may answer
pub fails_with : {A : Type 0} (e : FrameFault) (r : Result A FrameFault) → r ≡ Err e → Fails e r
fails_with FrameFault.TooLong r h = h
fails_with (FrameFault.Truncated _) r h = h
fails_with FrameFault.BadMagic r h = h
fails_with FrameFault.BadVersion r h = h
fails_with FrameFault.BadKind r h = h
fails_with (FrameFault.Spell _) r h = h
fails_with FrameFault.BoundTooLarge r h = h
fails_with (FrameFault.BadOrder _) r h = h
fails_with (FrameFault.Trailing _) r h = h
fails_with (FrameFault.IllTyped _) r h = h
fails_with FrameFault.IllHandler r h = h
fails_with FrameFault.NoMemory r h = tt

module _ {A : Type 0} (p : Part A) (l : Lawful p) (none : (x : A) → p.nodes x ≡ 0) where
  read_by : (f g : Front) (x : A) → SpelledAt p f x g → told_fault of_spelling (p.read (from_front f)) ≡ Ok (x, from_front g)
  read_by f g x h = ap (told_fault of_spelling) (only_by p l none f g x h)

  refuses : (f : Front) (e : SpellFault) → FirstFaultAt e p.item f → p.read (from_front f) ≡ Err e
  refuses f e h = by_answer (p.read (from_front f)) refl
    where
      by_answer : (r : Result (A × Scan) SpellFault) → p.read (from_front f) ≡ r → p.read (from_front f) ≡ Err e
      by_answer (Ok q) k = absurd (no_fault step (goes_ok step (p.item ∷ []) (from_front f) (λ _. []) (p.read (from_front f)) q k (l.goes [] (from_front f)) e h))
      by_answer (Err d) k = k ∙ ap Err (at_most_one p l none f d e (fault_by p l none f d k) h)

  refused_by : (f : Front) (e : SpellFault) → (e ≡ SpellFault.NoMemory) ⊎ FirstFaultAt e p.item f → Fails (of_spelling e) (told_fault of_spelling (p.read (from_front f)))
  refused_by f e (inl h) = let P : SpellFault → Type 0 = λ d. Fails (of_spelling d) (told_fault of_spelling (p.read (from_front f))) in subst P (sym h) tt
  refused_by f e (inr h) = fails_with (of_spelling e) _ (ap (told_fault of_spelling) (refuses f e h))

pub chunk_read : (f g : Front) (x : Chunk) → SpelledAt a_whole_chunk f x g → carried_at (from_front f) ≡ Ok (x, from_front g)
chunk_read = read_by a_whole_chunk (chunk_part_lawful 3) (λ _. refl)

pub chunk_refused : (f : Front) (e : SpellFault) → (e ≡ SpellFault.NoMemory) ⊎ FirstFaultAt e (a_chunk 3) f → Fails (of_spelling e) (carried_at (from_front f))
chunk_refused = refused_by a_whole_chunk (chunk_part_lawful 3) (λ _. refl)

pub route_read : (f g : Front) (x : List ℕ) → SpelledAt name_part f x g → route_at (from_front f) ≡ Ok (x, from_front g)
route_read = read_by name_part name_lawful (λ _. refl)

pub route_refused : (f : Front) (e : SpellFault) → (e ≡ SpellFault.NoMemory) ⊎ FirstFaultAt e a_name f → Fails (of_spelling e) (route_at (from_front f))
route_refused = refused_by name_part name_lawful (λ _. refl)
