-- The laws of a whole frame, in whatever version: it is read exactly where all the bytes spell it.
use Rattle.std.proofs.Common.{◌≡◌, ◌⊎◌, inl, inr, ℕ, ◌<◌, ◌≤◌, List, [], ◌∷◌, ◌++◌, length, length-append, append-nil, Bool, true, false, Result, Ok, Err, refl, sym, ◌∙◌, ap, subst, arith}
use Rattle.std.specs.Prelude.{nat_le}
use Rattle.std.proofs.lemmas.Bool.{leb-true, leb-false}
use Rattle.chunk_codec_spec.specs.Spelling.{from_front}
use Rattle.wire_bytes.specs.Fields.{Front, IsBytes}
use Rattle.containers.specs.Agenda.{FirstFault, here}
use Rattle.containers.proofs.Binds.{ok_inj}
use Rattle.containers.proofs.Agendas.{Goes, one_step, goes_ok, goes_err, no_fault, one_first_fault}
use Rattle.chunk_codec_spec.specs.Scan.{Scan}
use Rattle.chunk_codec_spec.proofs.Took.{Took}
use Rattle.packet_frame.specs.declared.fault.FrameFault.{FrameFault}
use Rattle.packet_frame.specs.Forms.{FrameItem, the_end}
use Rattle.packet_frame.specs.Frames.{frame_step, nothing_left, begins}
use Rattle.packet_frame.specs.Fields.{Reader}
use Rattle.packet_frame.specs.Reading.{Fails}

-- a whole frame: how it is read, what must be read of it, how it is spelled, what may be spelled, and that these agree
pub record Whole (A : Type 0) : Type 1 where
  pub read : Reader A
  pub items : List FrameItem
  pub bytes : A → List ℕ
  pub Fits : A → Type 0
  pub takes : (f g : Scan) (x : A) → IsBytes f.front.rest → f.nodes ≤ 4096 → read f ≡ Ok (x, g) → Took f (bytes x) 0 g × Fits x
  pub again : (f g : Scan) (x : A) → Fits x → Took f (bytes x) 0 g → g.nodes ≤ 4096 → read f ≡ Ok (x, g)
  pub goes : (f : Scan) → Goes frame_step items f (λ _. the_end ∷ []) (read f)

module _ {A : Type 0} (form : Whole A) where
  -- all the bytes, at most 16,512, are the spelling of x
  pub record Spells (bytes : List ℕ) (x : A) : Type 0 where
    pub short : length bytes ≤ 16512
    pub fits : form.Fits x
    pub is : bytes ≡ form.bytes x

  -- the first fault of bytes that spell none
  pub data Faulty (e : FrameFault) (bytes : List ℕ) : Type 0 where
    too_long : 16512 < length bytes → e ≡ FrameFault.TooLong → Faulty e bytes
    misspelled : length bytes ≤ 16512 → FirstFault frame_step e form.items (begins bytes) → Faulty e bytes

  -- ---- all the bytes

  -- where a frame's spelling ends
  abbrev pub ends : ℕ → List ℕ → Scan
  ends at rest = record { front = record { at = at; rest = rest }; nodes = 0 }

  read_whole : (bytes rest : List ℕ) (x : A) → form.Fits x → bytes ≡ form.bytes x ++ rest → form.read (begins bytes) ≡ Ok (x, ends (length (form.bytes x)) rest)
  read_whole bytes rest x fits is = form.again (begins bytes) (ends (length (form.bytes x)) rest) x fits (record { parts = is; place = omega arith; count = omega arith }) (omega arith)

  pub spelled_read : (bytes : List ℕ) (x : A) → Spells bytes x → form.read (begins bytes) ≡ Ok (x, ends (length (form.bytes x)) [])
  spelled_read bytes x h = read_whole bytes [] x h.fits (h.is ∙ sym (append-nil (form.bytes x)))

  module _ (bytes : List ℕ) (x : A) (s : Scan) (read : form.read (begins bytes) ≡ Ok (x, s)) where
    pub found_whole : IsBytes bytes → length bytes ≤ 16512 → length bytes ≤ s.front.at → Spells bytes x
    found_whole h short all =
        let t = form.takes (begins bytes) s x h (omega arith) read in
        let l = ap length t.0.parts in
        let m = length-append (form.bytes x) s.front.rest in
        let none : length s.front.rest ≡ 0 = omega (arith, l, m, t.0.place, all) in
        record { short = short; fits = t.1; is = t.0.parts ∙ ap (λ r. form.bytes x ++ r) (empty s.front.rest none) ∙ append-nil (form.bytes x) }
      where
        empty : (r : List ℕ) → length r ≡ 0 → r ≡ []
        empty [] e = refl
        empty (b ∷ r) e = absurd (omega (arith, e))

    pub only_whole : (y : A) → Spells bytes y → x ≡ y
    only_whole y h = ap (λ q. q.0) (ok_inj (sym read ∙ spelled_read bytes y h))

    pub never_trailing : s.front.at < length bytes → (y : A) → Spells bytes y → ⊥
    never_trailing less y h =
        let e = ap (λ q. q.1.front.at) (ok_inj (sym read ∙ spelled_read bytes y h)) in
        let l = ap length h.is in
        omega (arith, e, l, less)

    pub trailing_fault : IsBytes bytes → length bytes ≤ 16512 → s.front.at < length bytes → Faulty (FrameFault.Trailing s.front.at) bytes
    trailing_fault h short less =
        let t = form.takes (begins bytes) s x h (omega arith) read in
        let l = ap length t.0.parts in
        let m = length-append (form.bytes x) s.front.rest in
        let some : 0 < length s.front.rest = omega (arith, l, m, t.0.place, less) in
        misspelled short (fault_is_reached (form.read (begins bytes)) read (form.goes (begins bytes)) (here the_end [] s (left_is_trailing s.front.rest some)))
      where
        left_is_trailing : (r : List ℕ) → 0 < length r → nothing_left r [] s ≡ Err (FrameFault.Trailing s.front.at)
        left_is_trailing [] k = absurd (omega (arith, k))
        left_is_trailing (b ∷ r) k = refl

        fault_is_reached : (r : Result (A × Scan) FrameFault) → r ≡ Ok (x, s) → Goes frame_step form.items (begins bytes) (λ _. the_end ∷ []) r
            → FirstFault frame_step (FrameFault.Trailing s.front.at) (the_end ∷ []) s → FirstFault frame_step (FrameFault.Trailing s.front.at) form.items (begins bytes)
        fault_is_reached (Ok q) e g f =
            let P : Scan → Type 0 = λ t. FirstFault frame_step (FrameFault.Trailing s.front.at) (the_end ∷ []) t in
            (g (FrameFault.Trailing s.front.at)).0 (subst P (sym (ap (λ p. p.1) (ok_inj e))) f)
        fault_is_reached (Err d) e g f = cc

  pub refused_fault : (bytes : List ℕ) (e : FrameFault) → length bytes ≤ 16512 → form.read (begins bytes) ≡ Err e → Faulty e bytes
  refused_fault bytes e short h = misspelled short (goes_err frame_step form.items (begins bytes) (λ _. the_end ∷ []) (form.read (begins bytes)) e h (form.goes (begins bytes)))

  pub never_refused : (bytes : List ℕ) (e : FrameFault) (y : A) → form.read (begins bytes) ≡ Err e → Spells bytes y → ⊥
  never_refused bytes e y h k = let q : ◌≡◌ {A = Result (A × Scan) FrameFault} (Err e) (Ok (y, ends (length (form.bytes y)) [])) = sym h ∙ spelled_read bytes y k in cc

  -- ---- a call on a cursor at the first of the bytes

  fails_is : {A : Type 0} (e : FrameFault) (r : Result A FrameFault) → Fails e r → (e ≡ FrameFault.NoMemory) ⊎ (r ≡ Err e)
  fails_is FrameFault.TooLong r h = inr h
  fails_is (FrameFault.Truncated _) r h = inr h
  fails_is FrameFault.BadMagic r h = inr h
  fails_is FrameFault.BadVersion r h = inr h
  fails_is FrameFault.BadKind r h = inr h
  fails_is (FrameFault.Spell _) r h = inr h
  fails_is FrameFault.BoundTooLarge r h = inr h
  fails_is (FrameFault.BadOrder _) r h = inr h
  fails_is (FrameFault.Trailing _) r h = inr h
  fails_is (FrameFault.IllTyped _) r h = inr h
  fails_is FrameFault.IllHandler r h = inr h
  fails_is FrameFault.NoMemory r h = inl refl

  module _ (bytes : List ℕ) (f : Front) (first : f.at ≡ 0) (all : f.rest ≡ bytes) where
    starts : begins bytes ≡ from_front f
    starts = λ i. record { front = record { at = sym first i; rest = sym all i }; nodes = 0 }

    ok_read : (x : A) (g : Front) → form.read (from_front f) ≡ Ok (x, from_front g) → form.read (begins bytes) ≡ Ok (x, from_front g)
    ok_read x g h = ap form.read starts ∙ h

    pub call_found : IsBytes bytes → length bytes ≤ 16512 → (x : A) (g : Front) → form.read (from_front f) ≡ Ok (x, from_front g) → length bytes ≤ g.at → Spells bytes x
    call_found h short x g read end = found_whole bytes x (from_front g) (ok_read x g read) h short end

    pub call_only : (x : A) (g : Front) → form.read (from_front f) ≡ Ok (x, from_front g) → (y : A) → Spells bytes y → x ≡ y
    call_only x g read = only_whole bytes x (from_front g) (ok_read x g read)

    pub call_left_only : (x : A) (g : Front) → form.read (from_front f) ≡ Ok (x, from_front g) → g.at < length bytes → (y : A) → Spells bytes y → FrameFault.Trailing g.at ≡ FrameFault.NoMemory
    call_left_only x g read less y h = absurd (never_trailing bytes x (from_front g) (ok_read x g read) less y h)

    pub call_left_fault : IsBytes bytes → length bytes ≤ 16512 → (x : A) (g : Front) → form.read (from_front f) ≡ Ok (x, from_front g) → g.at < length bytes
        → (FrameFault.Trailing g.at ≡ FrameFault.NoMemory) ⊎ Faulty (FrameFault.Trailing g.at) bytes
    call_left_fault h short x g read less = inr (trailing_fault bytes x (from_front g) (ok_read x g read) h short less)

    pub call_err_only : (e : FrameFault) → Fails e (form.read (from_front f)) → (y : A) → Spells bytes y → e ≡ FrameFault.NoMemory
    call_err_only e k y h = by_case (fails_is e (form.read (from_front f)) k)
      where
        by_case : (e ≡ FrameFault.NoMemory) ⊎ (form.read (from_front f) ≡ Err e) → e ≡ FrameFault.NoMemory
        by_case (inl m) = m
        by_case (inr r) = absurd (never_refused bytes e y (ap form.read starts ∙ r) h)

    pub call_err_fault : length bytes ≤ 16512 → (e : FrameFault) → Fails e (form.read (from_front f)) → (e ≡ FrameFault.NoMemory) ⊎ Faulty e bytes
    call_err_fault short e k = by_case (fails_is e (form.read (from_front f)) k)
      where
        by_case : (e ≡ FrameFault.NoMemory) ⊎ (form.read (from_front f) ≡ Err e) → (e ≡ FrameFault.NoMemory) ⊎ Faulty e bytes
        by_case (inl m) = inl m
        by_case (inr r) = inr (refused_fault bytes e short (ap form.read starts ∙ r))

  -- ---- laws

  pub one_spelling_is : (a b x y : List ℕ) (v w : A) → Spells a v → Spells b w → a ++ x ≡ b ++ y → (a ≡ b) × (v ≡ w) × (x ≡ y)
  one_spelling_is a b x y v w h k e =
      let one = read_whole (a ++ x) x v h.fits (ap (λ l. l ++ x) h.is) in
      let two = read_whole (a ++ x) y w k.fits (e ∙ ap (λ l. l ++ y) k.is) in
      let same = ok_inj (sym one ∙ two) in
      let is : v ≡ w = ap (λ q. q.0) same in
      (h.is ∙ ap form.bytes is ∙ sym k.is, is, ap (λ q. q.1.front.rest) same)

  pub one_fault_is : (bytes : List ℕ) (d e : FrameFault) → Faulty d bytes → Faulty e bytes → d ≡ e
  one_fault_is bytes d e (too_long h p) (too_long k q) = p ∙ sym q
  one_fault_is bytes d e (too_long h p) (misspelled k q) = absurd (omega (arith, h, k))
  one_fault_is bytes d e (misspelled h p) (too_long k q) = absurd (omega (arith, h, k))
  one_fault_is bytes d e (misspelled h p) (misspelled k q) = one_first_fault frame_step p q

  pub either_is : (bytes : List ℕ) → IsBytes bytes → ((x : A) × Spells bytes x) ⊎ ((e : FrameFault) × Faulty e bytes)
  either_is bytes h = by_length (nat_le (length bytes) 16512) refl
    where
      by_place : (x : A) (s : Scan) → form.read (begins bytes) ≡ Ok (x, s) → length bytes ≤ 16512 → (all : Bool) → nat_le (length bytes) s.front.at ≡ all
          → ((y : A) × Spells bytes y) ⊎ ((e : FrameFault) × Faulty e bytes)
      by_place x s read short true q = inl (x, found_whole bytes x s read h short (leb-true (length bytes) s.front.at q))
      by_place x s read short false q = inr (FrameFault.Trailing s.front.at, trailing_fault bytes x s read h short (leb-false (length bytes) s.front.at q))

      by_read : length bytes ≤ 16512 → (r : Result (A × Scan) FrameFault) → form.read (begins bytes) ≡ r → ((x : A) × Spells bytes x) ⊎ ((e : FrameFault) × Faulty e bytes)
      by_read short (Ok q) e = by_place q.0 q.1 e short (nat_le (length bytes) q.1.front.at) refl
      by_read short (Err d) e = inr (d, refused_fault bytes d short e)

      by_length : (b : Bool) → nat_le (length bytes) 16512 ≡ b → ((x : A) × Spells bytes x) ⊎ ((e : FrameFault) × Faulty e bytes)
      by_length true q = by_read (leb-true (length bytes) 16512 q) (form.read (begins bytes)) refl
      by_length false q = inr (FrameFault.TooLong, too_long (leb-false (length bytes) 16512 q) refl)

  pub never_both_is : (bytes : List ℕ) (x : A) (e : FrameFault) → Spells bytes x → Faulty e bytes → ⊥
  never_both_is bytes x e h (too_long k p) = let s = h.short in omega (arith, k, s)
  never_both_is bytes x e h (misspelled k p) =
      let end = ends (length (form.bytes x)) [] in
      let q = goes_ok frame_step form.items (begins bytes) (λ _. the_end ∷ []) (form.read (begins bytes)) (x, end) (spelled_read bytes x h) (form.goes (begins bytes)) e p in
      let last = one_step frame_step {A = Unit {0}} the_end [] end (λ _. []) (Ok (tt, end)) refl in
      no_fault frame_step (goes_ok frame_step {A = Unit {0}} (the_end ∷ []) end (λ _. []) (Ok (tt, end)) (tt, end) refl last e q)
