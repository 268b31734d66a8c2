use Rattle.std.proofs.Common.{◌≡◌, ℕ, ◌⊎◌, inl, inr, List, [], ◌∷◌, ◌++◌, length, Result, Ok, Err, refl, sym, ◌∙◌, ap, arith}
use Rattle.wire_bytes.specs.Fields.{Front, IsBytes}
use Rattle.containers.proofs.Binds.{ok_inj}
use Rattle.containers.proofs.Agendas.{one_first_fault, goes_ok, goes_err, no_fault}
use Rattle.chunk_codec_spec.specs.declared.fault.SpellFault.{SpellFault}
use Rattle.chunk_codec_spec.specs.Scan.{Scan}
use Rattle.chunk_codec_spec.specs.Parts.{Part}
use Rattle.chunk_codec_spec.specs.Steps.{step}
use Rattle.chunk_codec_spec.specs.Spelling.{Spells, SpelledAt, from_front, FirstFaultAt}
use Rattle.chunk_codec_spec.proofs.Took.{Took}
use Rattle.chunk_codec_spec.proofs.PartLaws.{Lawful}

module _ {A : Type 0} (p : Part A) (l : Lawful p) (no_nodes : (x : A) → p.nodes x ≡ 0) where
  -- what is read is spelled
  pub found_by : (f : Front) (x : A) (s : Scan) → IsBytes f.rest → p.read (from_front f) ≡ Ok (x, s) → SpelledAt p f x s.front
  found_by f x s h e =
      let t = l.takes (from_front f) s x h (omega arith) e in
      record { fits = t.fits; splits = t.took.parts; place = t.took.place }

  spelled_took : (f g : Front) (x : A) → SpelledAt p f x g → Took (from_front f) (p.bytes x) (p.nodes x) (from_front g)
  spelled_took f g x h = record { parts = h.splits; place = h.place; count = (let n = no_nodes x in omega (arith, n)) }

  -- what is spelled is read
  pub only_by : (f g : Front) (x : A) → SpelledAt p f x g → p.read (from_front f) ≡ Ok (x, from_front g)
  only_by f g x h = l.again (from_front f) (from_front g) x h.fits (spelled_took f g x h) (omega arith)

  -- a reading that refuses does so with the first fault
  pub fault_by : (f : Front) (e : SpellFault) → p.read (from_front f) ≡ Err e → FirstFaultAt e p.item f
  fault_by f e h = goes_err step (p.item ∷ []) (from_front f) (λ _. []) (p.read (from_front f)) e h (l.goes [] (from_front f))

  -- where something is spelled there is no fault
  pub spelled_no_fault : (f g : Front) (x : A) (e : SpellFault) → SpelledAt p f x g → FirstFaultAt e p.item f → ⊥
  spelled_no_fault f g x e h k =
      no_fault step (goes_ok step (p.item ∷ []) (from_front f) (λ _. []) (p.read (from_front f)) (x, from_front g) (only_by f g x h) (l.goes [] (from_front f)) e k)

  -- either something is spelled there, or there is a first fault
  pub spelled_or_fault : (f : Front) → IsBytes f.rest → ((x : A) × (g : Front) × SpelledAt p f x g) ⊎ ((e : SpellFault) × FirstFaultAt e p.item f)
  spelled_or_fault f h = by_answer (p.read (from_front f)) refl
    where
      by_answer : (r : Result (A × Scan) SpellFault) → p.read (from_front f) ≡ r → ((x : A) × (g : Front) × SpelledAt p f x g) ⊎ ((e : SpellFault) × FirstFaultAt e p.item f)
      by_answer (Ok q) e = inl (q.0, q.1.front, found_by f q.0 q.1 h e)
      by_answer (Err d) e = inr (d, fault_by f d e)

  pub at_most_one : (f : Front) (d e : SpellFault) → FirstFaultAt d p.item f → FirstFaultAt e p.item f → d ≡ e
  at_most_one f d e h k = one_first_fault step h k

  -- two spellings that begin the same bytes are one
  pub one_spelling_by : (a b x y : List ℕ) (v w : A) → Spells p a v → Spells p b w → a ++ x ≡ b ++ y → (a ≡ b) × (v ≡ w) × (x ≡ y)
  one_spelling_by a b x y v w h k e =
      let bytes : List ℕ = a ++ x in
      let f : Front = record { at = 0; rest = bytes } in
      let g : Front = record { at = length (p.bytes v); rest = x } in
      let u : Front = record { at = length (p.bytes w); rest = y } in
      let one : SpelledAt p f v g = record { fits = h.fits; splits = ap (λ l. l ++ x) h.is; place = omega arith } in
      let two : SpelledAt p f w u = record { fits = k.fits; splits = e ∙ ap (λ l. l ++ y) k.is; place = omega arith } in
      let same = ok_inj (sym (only_by f g v one) ∙ only_by f u w two) in
      let v_is : v ≡ w = ap (λ q. q.0) same in
      let x_is : x ≡ y = ap (λ q. q.1.front.rest) same in
      (h.is ∙ ap p.bytes v_is ∙ sym k.is, v_is, x_is)
