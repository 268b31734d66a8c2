use Rattle.std.proofs.Common.{◌≡◌, ◌⊎◌, inl, inr, ℕ, ◌+◌, List, ◌++◌, length, Result, Ok, Err, refl, sym, ◌∙◌, ap, subst}
use Rattle.wire_bytes.specs.Fields.{Front, IsBytes}
use Rattle.containers.proofs.Binds.{ok_inj}
use Rattle.chunk_codec_spec.specs.declared.fault.SpellFault.{SpellFault}
use Rattle.chunk_codec_spec.specs.declared.fault.SpellFault.TheVariants.{Truncated, BadTag, BadName, BadUtf8, OverLimit, NoMemory}
use Rattle.chunk_codec_spec.specs.Scan.{Scan}
use Rattle.chunk_codec_spec.specs.Parts.{Part}
use Rattle.chunk_codec_spec.specs.Spelling.{Spells, SpelledAt, from_front, FirstFaultAt}
use Rattle.chunk_codec_spec.proofs.PartLaws.{Lawful}
use Rattle.chunk_codec_spec.proofs.WholeLaws.{found_by, only_by, fault_by}
use Rattle.chunk_codec.specs.Reading.{Fails}

-- what a call refuses is not `NoMemory` only where the reading refuses it
fails_is : {A : Type 0} (e : SpellFault) (r : Result A SpellFault) → Fails e r → (e ≡ NoMemory) ⊎ (r ≡ Err e)
fails_is (Truncated _) r h = inr h
fails_is (BadTag _) r h = inr h
fails_is (BadName _) r h = inr h
fails_is (BadUtf8 _) r h = inr h
fails_is (OverLimit _ _) r h = inr h
fails_is NoMemory r h = inl refl

module _ {A : Type 0} (p : Part A) (l : Lawful p) (no_nodes : (x : A) → p.nodes x ≡ 0) (f : Front) (s : Scan) {fork : Front} (front : s.front ≡ fork) (nodes : s.nodes ≡ 0) (same : fork ≡ f) where
  starts : s ≡ from_front f
  starts = λ i. record { front = (front ∙ same) i; nodes = nodes i }

  pub found_at_ok : IsBytes f.rest → (x : A) (t : Scan) (g : Front) → g ≡ t.front → p.read s ≡ Ok (x, t) → SpelledAt p f x g
  found_at_ok h x t g e r =
      let P : Front → Type 0 = SpelledAt p f x in
      subst P (sym e) (found_by p l no_nodes f x t h (ap p.read (sym starts) ∙ r))

  pub only_at_ok : (x : A) (t : Scan) (g : Front) → g ≡ t.front → p.read s ≡ Ok (x, t) → (y : A) (u : Front) → SpelledAt p f y u → (x ≡ y) × (g ≡ u)
  only_at_ok x t g e r y u h =
      let q = ok_inj (sym r ∙ ap p.read starts ∙ only_by p l no_nodes f u y h) in
      (ap (λ z. z.0) q, e ∙ ap (λ z. z.1.front) q)

  pub only_at_err : (e : SpellFault) → Fails e (p.read s) → (y : A) (u : Front) → SpelledAt p f y u → e ≡ NoMemory
  only_at_err e k y u h = by_case (fails_is e (p.read s) k)
    where
      by_case : (e ≡ NoMemory) ⊎ (p.read s ≡ Err e) → e ≡ NoMemory
      by_case (inl m) = m
      by_case (inr r) = let q : ◌≡◌ {A = Result (A × Scan) SpellFault} (Err e) (Ok (y, from_front u)) = sym r ∙ ap p.read starts ∙ only_by p l no_nodes f u y h in cc

  pub fault_at_err : (e : SpellFault) → Fails e (p.read s) → (e ≡ NoMemory) ⊎ FirstFaultAt e p.item f
  fault_at_err e k = by_case (fails_is e (p.read s) k)
    where
      by_case : (e ≡ NoMemory) ⊎ (p.read s ≡ Err e) → (e ≡ NoMemory) ⊎ FirstFaultAt e p.item f
      by_case (inl m) = inl m
      by_case (inr r) = inr (fault_by p l no_nodes f e (ap p.read (sym starts) ∙ r))

-- a spelling stands in front of whatever follows
pub again_by : {A : Type 0} (p : Part A) (at : ℕ) (a more : List ℕ) (x : A) → Spells p a x → SpelledAt p (record { at = at; rest = a ++ more }) x (record { at = at + length a; rest = more })
again_by p at a more x h = record { fits = h.fits; splits = ap (λ l. l ++ more) h.is; place = ap (λ l. at + length l) h.is }
