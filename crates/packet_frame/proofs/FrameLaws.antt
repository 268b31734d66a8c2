use Rattle.std.proofs.Common.{◌≡◌, ◌⊎◌, inl, inr, ℕ, ◌+◌, ◌<◌, ◌≤◌, List, [], ◌∷◌, ◌++◌, length, length-append, append-nil, Bool, true, false, Option, Some, None, Result, Ok, Err, refl, sym, ◌∙◌, ap, subst, arith}
use Rattle.std.specs.Prelude.{◌==◌, nat_le, if◌then◌else◌}
use Rattle.std.specs.Int.{w8, w32, w64, to_be_bytes}
use Rattle.std.proofs.lemmas.Bool.{eqb-true, leb-true, leb-false}
use Rattle.chunk_codec_spec.specs.Spelling.{from_front}
use Rattle.wire_bytes.specs.Fields.{Front, IsBytes}
use Rattle.containers.specs.Agenda.{FirstFault, here}
use Rattle.containers.proofs.Binds.{ok_inj, some_inj, bind_ok, bind_is}
use Rattle.containers.proofs.Agendas.{Goes, chain, one_step, goes_ok, goes_err, no_fault, one_first_fault}
use Rattle.chunk_codec_spec.specs.Scan.{Scan, number_field}
use Rattle.chunk_codec_spec.proofs.Took.{Took, Took-bytes, Took-then, Took-first, Took-second, Took-as, between}
use Rattle.chunk_codec_spec.proofs.FieldLaws.{byte_takes, byte_again, number_takes, number_again, wide32}
use Rattle.packet_frame.specs.declared.fault.FrameFault.{FrameFault}
use Rattle.packet_frame.specs.declared.frame.PlainFrame.{PlainFrame}
use Rattle.packet_frame.specs.declared.kind.Kind.{Kind}
use Rattle.packet_frame.specs.Bytes.{letters, head_bytes, frame_bytes}
use Rattle.packet_frame.specs.Faults.{of_number}
use Rattle.packet_frame.specs.Fields.{number, magic_at, version_at, kind_of, known_kind, kind_at}
use Rattle.packet_frame.specs.Forms.{FrameItem, the_magic, the_version, the_kind, the_end, forms, FieldValues, bytes_of_fields, AllFit, items_of_fields, frame_of_fields, fields_of, FrameFits, IsPlain, frame_at}
use Rattle.packet_frame.specs.Frames.{frame_step, nothing_left, a_frame, begins, SpellsFrame, SpellingFault, too_long, misspelled}
use Rattle.packet_frame.specs.Reading.{Fails}
use Rattle.packet_frame.proofs.FieldLaws.{AllKept, told_ok, told_is, judged_ok, judged_is, host_kept, serial_kept, bound_kept, route_kept, chunk_kept, rows_kept, reads_takes, reads_again, reads_go}

pub forms_kept : (k : Kind) → AllKept (forms k)
forms_kept Kind.Packet = (host_kept, (serial_kept, (host_kept, (bound_kept, (route_kept, (chunk_kept, tt))))))
forms_kept Kind.Advert = (host_kept, (rows_kept, tt))
forms_kept Kind.Ask = (bound_kept, (chunk_kept, tt))

-- the number of a kind
abbrev kind_number : Kind → ℕ
kind_number Kind.Packet = 1
kind_number Kind.Advert = 2
kind_number Kind.Ask = 3

kind_known : (k : Kind) → kind_of (kind_number k) ≡ Some k
kind_known Kind.Packet = refl
kind_known Kind.Advert = refl
kind_known Kind.Ask = refl

kind_is : (n : ℕ) (k : Kind) → kind_of n ≡ Some k → n ≡ kind_number k
kind_is n k h = one (n == 1) refl h
  where
    three : (b : Bool) → (n == 3) ≡ b → (if b then Some Kind.Ask else None) ≡ Some k → n ≡ kind_number k
    three true q e = eqb-true n 3 q ∙ ap kind_number (some_inj e)
    three false q e = cc

    two : (b : Bool) → (n == 2) ≡ b → (if b then Some Kind.Advert else if n == 3 then Some Kind.Ask else None) ≡ Some k → n ≡ kind_number k
    two true q e = eqb-true n 2 q ∙ ap kind_number (some_inj e)
    two false q e = three (n == 3) refl e

    one : (b : Bool) → (n == 1) ≡ b → (if b then Some Kind.Packet else if n == 2 then Some Kind.Advert else if n == 3 then Some Kind.Ask else None) ≡ Some k → n ≡ kind_number k
    one true q e = eqb-true n 1 q ∙ ap kind_number (some_inj e)
    one false q e = two (n == 2) refl e

known_ok : (o : Option Kind) (s g : Scan) (k : Kind) → known_kind o s ≡ Ok (k, g) → (o ≡ Some k) × (s ≡ g)
known_ok (Some u) s g k e = let p = ok_inj e in (ap (λ q. Some q.0) p, ap (λ q. q.1) p)
known_ok None s g k e = cc

-- what a frame spells, by its kind
pub frame_is : (k : Kind) (xs : FieldValues (forms k)) → frame_bytes (frame_of_fields k xs) ≡ head_bytes (kind_number k) ++ bytes_of_fields (forms k) xs
unfolding frame_bytes
frame_is Kind.Packet xs = ap (λ l. head_bytes 1 ++ (to_be_bytes w32 xs.0 ++ (to_be_bytes w64 xs.1.0 ++ (to_be_bytes w32 xs.1.1.0 ++ (to_be_bytes w32 xs.1.1.1.0 ++ ((length xs.1.1.1.1.0 ∷ xs.1.1.1.1.0) ++ l)))))) (sym (append-nil _))
frame_is Kind.Advert xs = ap (λ l. head_bytes 2 ++ (to_be_bytes w32 xs.0 ++ l)) (sym (append-nil _))
frame_is Kind.Ask xs = ap (λ l. head_bytes 3 ++ (to_be_bytes w32 xs.0 ++ l)) (sym (append-nil _))

same_frame : (x : PlainFrame) → IsPlain x → frame_of_fields (fields_of x).0 (fields_of x).1 ≡ x
same_frame (PlainFrame.Packet p) h = λ i. PlainFrame.Packet (record p { handler = sym h i })
same_frame (PlainFrame.Advert a) h = refl
same_frame (PlainFrame.Ask bound c) h = refl

plain_held : (k : Kind) (xs : FieldValues (forms k)) → IsPlain (frame_of_fields k xs)
plain_held Kind.Packet xs = refl
plain_held Kind.Advert xs = tt
plain_held Kind.Ask xs = tt

pub fits_held : (k : Kind) (xs : FieldValues (forms k)) → AllFit (forms k) xs → FrameFits (frame_of_fields k xs)
fits_held Kind.Packet xs h = h
fits_held Kind.Advert xs h = h
fits_held Kind.Ask xs h = h

-- ---- the head

pub magic_takes : (f g : Scan) (n : ℕ) → IsBytes f.front.rest → magic_at f ≡ Ok (n, g) → Took f (to_be_bytes w32 letters) 0 g
unfolding magic_at
magic_takes f g n h e =
    let b = bind_ok (number w32 f) _ _ e in
    let j = judged_ok _ FrameFault.BadMagic b.first (n, g) b.then_read in
    let t = number_takes w32 wide32 f b.first.1 b.first.0 h (told_ok of_number (number_field w32 f) b.first b.read) in
    let is : b.first.0 ≡ letters = eqb-true b.first.0 letters j.0 in
    let P : Scan → Type 0 = λ s. Took f (to_be_bytes w32 letters) 0 s in
    subst P (ap (λ q. q.1) j.1) (Took-as (ap (to_be_bytes w32) is) refl t.0)

pub magic_again : (f g : Scan) → Took f (to_be_bytes w32 letters) 0 g → magic_at f ≡ Ok (letters, g)
unfolding magic_at
magic_again f g t = bind_is _ (told_is of_number (number_field w32 f) (letters, g) (number_again w32 wide32 f g letters (omega arith) t)) (judged_is _ FrameFault.BadMagic (letters, g) refl)

version_takes : (f g : Scan) (n : ℕ) → IsBytes f.front.rest → version_at f ≡ Ok (n, g) → Took f (1 ∷ []) 0 g
unfolding version_at
version_takes f g n h e =
    let b = bind_ok (number w8 f) _ _ e in
    let j = judged_ok _ FrameFault.BadVersion b.first (n, g) b.then_read in
    let t = byte_takes f b.first.1 b.first.0 h (told_ok of_number (number_field w8 f) b.first b.read) in
    let is : b.first.0 ≡ 1 = eqb-true b.first.0 1 j.0 in
    let P : Scan → Type 0 = λ s. Took f (1 ∷ []) 0 s in
    subst P (ap (λ q. q.1) j.1) (Took-as (ap (λ m. m ∷ []) is) refl t.0)

version_again : (f g : Scan) → Took f (1 ∷ []) 0 g → version_at f ≡ Ok (1, g)
unfolding version_at
version_again f g t = bind_is _ (told_is of_number (number_field w8 f) (1, g) (byte_again f g 1 t)) (judged_is _ FrameFault.BadVersion (1, g) refl)

kind_takes : (f g : Scan) (k : Kind) → IsBytes f.front.rest → kind_at f ≡ Ok (k, g) → Took f (kind_number k ∷ []) 0 g
unfolding kind_at
kind_takes f g k h e =
    let b = bind_ok (number w8 f) _ _ e in
    let q = known_ok _ _ _ _ b.then_read in
    let t = byte_takes f b.first.1 b.first.0 h (told_ok of_number (number_field w8 f) b.first b.read) in
    let P : Scan → Type 0 = λ s. Took f (kind_number k ∷ []) 0 s in
    subst P q.1 (Took-as (ap (λ m. m ∷ []) (kind_is b.first.0 k q.0)) refl t.0)

kind_again : (f g : Scan) (k : Kind) → Took f (kind_number k ∷ []) 0 g → kind_at f ≡ Ok (k, g)
unfolding kind_at
kind_again f g k t = bind_is _ (told_is of_number (number_field w8 f) (kind_number k, g) (byte_again f g (kind_number k) t)) (ap (λ o. known_kind o g) (kind_known k))

-- ---- the whole

pub frame_takes : (f g : Scan) (x : PlainFrame) → IsBytes f.front.rest → f.nodes ≤ 4096 → frame_at f ≡ Ok (x, g) → Took f (frame_bytes x) 0 g × (FrameFits x × IsPlain x)
unfolding frame_at
frame_takes f g x h small e =
    let b = bind_ok (magic_at f) _ _ e in
    let c = bind_ok (version_at b.first.1) _ _ b.then_read in
    let d = bind_ok (kind_at c.first.1) _ _ c.then_read in
    let k = d.first.0 in
    let m = magic_takes f b.first.1 b.first.0 h b.read in
    let hm = Took-bytes m h in
    let v = version_takes b.first.1 c.first.1 c.first.0 hm c.read in
    let hv = Took-bytes v hm in
    let t = kind_takes c.first.1 d.first.1 k hv d.read in
    let few : d.first.1.nodes ≤ 4096 = omega (arith, m.count, v.count, t.count, small) in
    let r = reads_takes (forms k) (forms_kept k) (frame_of_fields k) d.first.1 g x (Took-bytes t hv) few d.then_read in
    let head : Took f (head_bytes (kind_number k)) 0 d.first.1 = Took-then m (Took-then v t) in
    let whole : Took f (head_bytes (kind_number k) ++ bytes_of_fields (forms k) r.held) 0 g = Took-then head r.all.took in
    let P : PlainFrame → Type 0 = λ y. Took f (frame_bytes y) 0 g × (FrameFits y × IsPlain y) in
    subst P (sym r.is) (Took-as (sym (frame_is k r.held)) refl whole, (fits_held k r.held r.all.fit, plain_held k r.held))

again_by : (k : Kind) (xs : FieldValues (forms k)) (f g : Scan) → AllFit (forms k) xs → Took f (head_bytes (kind_number k) ++ bytes_of_fields (forms k) xs) 0 g → g.nodes ≤ 4096
    → frame_at f ≡ Ok (frame_of_fields k xs, g)
unfolding frame_at
again_by k xs f g fits t small =
    let magic = to_be_bytes w32 letters in
    let tail : List ℕ = 1 ∷ kind_number k ∷ [] in
    let body = bytes_of_fields (forms k) xs in
    let m = between f (magic ++ tail) body 0 g in
    let head : Took f (magic ++ tail) (0 + 0) m = Took-first f g (magic ++ tail) body 0 0 t in
    let behind = Took-second f g (magic ++ tail) body 0 0 t in
    let a = between f magic tail 0 m in
    let one : Took a ((1 ∷ []) ++ (kind_number k ∷ [])) (0 + 0) m = Took-second f m magic tail 0 0 head in
    let v = between a (1 ∷ []) (kind_number k ∷ []) 0 m in
    bind_is _ (magic_again f a (Took-first f m magic tail 0 0 head))
    (bind_is _ (version_again a v (Took-first a m (1 ∷ []) (kind_number k ∷ []) 0 0 one))
    (bind_is _ (kind_again v m k (Took-second a m (1 ∷ []) (kind_number k ∷ []) 0 0 one))
    (reads_again (forms k) (forms_kept k) (frame_of_fields k) m g xs fits behind small)))

pub frame_again : (f g : Scan) (x : PlainFrame) → FrameFits x → IsPlain x → Took f (frame_bytes x) 0 g → g.nodes ≤ 4096 → frame_at f ≡ Ok (x, g)
frame_again f g x fits plain t small =
    let k = (fields_of x).0 in
    let xs = (fields_of x).1 in
    let is : frame_bytes x ≡ head_bytes (kind_number k) ++ bytes_of_fields (forms k) xs = ap frame_bytes (sym (same_frame x plain)) ∙ frame_is k xs in
    again_by k xs f g fits (Took-as is refl t) small ∙ (λ i. Ok (same_frame x plain i, g))

pub frame_goes : (more : List FrameItem) (f : Scan) → Goes frame_step (the_magic ∷ the_version ∷ the_kind ∷ more) f (λ _. more) (frame_at f)
unfolding frame_at
frame_goes more f =
    chain frame_step (the_magic ∷ the_version ∷ the_kind ∷ more) f (λ _. the_version ∷ the_kind ∷ more) (λ _. more) (magic_at f) _
    (one_step frame_step the_magic (the_version ∷ the_kind ∷ more) f (λ _. the_version ∷ the_kind ∷ more) (magic_at f) refl)
    (λ m _. chain frame_step (the_version ∷ the_kind ∷ more) m.1 (λ _. the_kind ∷ more) (λ _. more) (version_at m.1) _
    (one_step frame_step the_version (the_kind ∷ more) m.1 (λ _. the_kind ∷ more) (version_at m.1) refl)
    (λ v _. chain frame_step (the_kind ∷ more) v.1 (λ k. items_of_fields (forms k) more) (λ _. more) (kind_at v.1) _
    (one_step frame_step the_kind more v.1 (λ k. items_of_fields (forms k) more) (kind_at v.1) refl)
    (λ k _. reads_go (forms k.0) (forms_kept k.0) (frame_of_fields k.0) more k.1)))

-- ---- all the bytes

-- where a frame's spelling ends
abbrev pub ends : ℕ → List ℕ → Scan
ends at rest = record { front = record { at = at; rest = rest }; nodes = 0 }

read_whole : (bytes rest : List ℕ) (x : PlainFrame) → FrameFits x → IsPlain x → bytes ≡ frame_bytes x ++ rest → frame_at (begins bytes) ≡ Ok (x, ends (length (frame_bytes x)) rest)
read_whole bytes rest x fits plain is = frame_again (begins bytes) (ends (length (frame_bytes x)) rest) x fits plain (record { parts = is; place = omega arith; count = omega arith }) (omega arith)

pub spelled_read : (bytes : List ℕ) (x : PlainFrame) → SpellsFrame bytes x → frame_at (begins bytes) ≡ Ok (x, ends (length (frame_bytes x)) [])
spelled_read bytes x h = read_whole bytes [] x h.fits h.plain (h.is ∙ sym (append-nil (frame_bytes x)))

module _ (bytes : List ℕ) (x : PlainFrame) (s : Scan) (read : frame_at (begins bytes) ≡ Ok (x, s)) where
  pub found_whole : IsBytes bytes → length bytes ≤ 16512 → length bytes ≤ s.front.at → SpellsFrame bytes x
  found_whole h short all =
      let t = frame_takes (begins bytes) s x h (omega arith) read in
      let l = ap length t.0.parts in
      let m = length-append (frame_bytes x) s.front.rest in
      let none : length s.front.rest ≡ 0 = omega (arith, l, m, t.0.place, all) in
      record { short = short; fits = t.1.0; plain = t.1.1; is = t.0.parts ∙ ap (λ r. frame_bytes x ++ r) (empty s.front.rest none) ∙ append-nil (frame_bytes x) }
    where
      empty : (r : List ℕ) → length r ≡ 0 → r ≡ []
      empty [] e = refl
      empty (b ∷ r) e = absurd (omega (arith, e))

  pub only_whole : (y : PlainFrame) → SpellsFrame bytes y → x ≡ y
  only_whole y h = ap (λ q. q.0) (ok_inj (sym read ∙ spelled_read bytes y h))

  pub never_trailing : s.front.at < length bytes → (y : PlainFrame) → SpellsFrame bytes y → ⊥
  never_trailing less y h =
      let e = ap (λ q. q.1.front.at) (ok_inj (sym read ∙ spelled_read bytes y h)) in
      let l = ap length h.is in
      omega (arith, e, l, less)

  pub trailing_fault : IsBytes bytes → length bytes ≤ 16512 → s.front.at < length bytes → SpellingFault (FrameFault.Trailing s.front.at) bytes
  trailing_fault h short less =
      let t = frame_takes (begins bytes) s x h (omega arith) read in
      let l = ap length t.0.parts in
      let m = length-append (frame_bytes x) s.front.rest in
      let some : 0 < length s.front.rest = omega (arith, l, m, t.0.place, less) in
      misspelled short (fault_is_reached (frame_at (begins bytes)) read (frame_goes (the_end ∷ []) (begins bytes)) (here the_end [] s (left_is_trailing s.front.rest some)))
    where
      left_is_trailing : (r : List ℕ) → 0 < length r → nothing_left r [] s ≡ Err (FrameFault.Trailing s.front.at)
      left_is_trailing [] k = absurd (omega (arith, k))
      left_is_trailing (b ∷ r) k = refl

      fault_is_reached : (r : Result (PlainFrame × Scan) FrameFault) → r ≡ Ok (x, s) → Goes frame_step a_frame (begins bytes) (λ _. the_end ∷ []) r
          → FirstFault frame_step (FrameFault.Trailing s.front.at) (the_end ∷ []) s → FirstFault frame_step (FrameFault.Trailing s.front.at) a_frame (begins bytes)
      fault_is_reached (Ok q) e g f =
          let P : Scan → Type 0 = λ t. FirstFault frame_step (FrameFault.Trailing s.front.at) (the_end ∷ []) t in
          (g (FrameFault.Trailing s.front.at)).0 (subst P (sym (ap (λ p. p.1) (ok_inj e))) f)
      fault_is_reached (Err d) e g f = cc

pub refused_fault : (bytes : List ℕ) (e : FrameFault) → length bytes ≤ 16512 → frame_at (begins bytes) ≡ Err e → SpellingFault e bytes
refused_fault bytes e short h = misspelled short (goes_err frame_step a_frame (begins bytes) (λ _. the_end ∷ []) (frame_at (begins bytes)) e h (frame_goes (the_end ∷ []) (begins bytes)))

pub never_refused : (bytes : List ℕ) (e : FrameFault) (y : PlainFrame) → frame_at (begins bytes) ≡ Err e → SpellsFrame bytes y → ⊥
never_refused bytes e y h k = let q : ◌≡◌ {A = Result (PlainFrame × Scan) FrameFault} (Err e) (Ok (y, ends (length (frame_bytes y)) [])) = sym h ∙ spelled_read bytes y k in cc

-- ---- a call on a cursor at the first of the bytes

fails_is : {A : Type 0} (e : FrameFault) (r : Result A FrameFault) → Fails e r → (e ≡ FrameFault.NoMemory) ⊎ (r ≡ Err e)
fails_is FrameFault.TooLong r h = inr h
fails_is (FrameFault.Truncated _) r h = inr h
fails_is FrameFault.BadMagic r h = inr h
fails_is FrameFault.BadVersion r h = inr h
fails_is FrameFault.BadKind r h = inr h
fails_is (FrameFault.Spell _) r h = inr h
fails_is FrameFault.BoundTooLarge r h = inr h
fails_is (FrameFault.BadOrder _) r h = inr h
fails_is (FrameFault.Trailing _) r h = inr h
fails_is (FrameFault.IllTyped _) r h = inr h
fails_is FrameFault.IllHandler r h = inr h
fails_is FrameFault.NoMemory r h = inl refl

module _ (bytes : List ℕ) (f : Front) (first : f.at ≡ 0) (all : f.rest ≡ bytes) where
  starts : begins bytes ≡ from_front f
  starts = λ i. record { front = record { at = sym first i; rest = sym all i }; nodes = 0 }

  ok_read : (x : PlainFrame) (g : Front) → frame_at (from_front f) ≡ Ok (x, from_front g) → frame_at (begins bytes) ≡ Ok (x, from_front g)
  ok_read x g h = ap frame_at starts ∙ h

  pub call_found : IsBytes bytes → length bytes ≤ 16512 → (x : PlainFrame) (g : Front) → frame_at (from_front f) ≡ Ok (x, from_front g) → length bytes ≤ g.at → SpellsFrame bytes x
  call_found h short x g read end = found_whole bytes x (from_front g) (ok_read x g read) h short end

  pub call_only : (x : PlainFrame) (g : Front) → frame_at (from_front f) ≡ Ok (x, from_front g) → (y : PlainFrame) → SpellsFrame bytes y → x ≡ y
  call_only x g read = only_whole bytes x (from_front g) (ok_read x g read)

  pub call_left_only : (x : PlainFrame) (g : Front) → frame_at (from_front f) ≡ Ok (x, from_front g) → g.at < length bytes → (y : PlainFrame) → SpellsFrame bytes y → FrameFault.Trailing g.at ≡ FrameFault.NoMemory
  call_left_only x g read less y h = absurd (never_trailing bytes x (from_front g) (ok_read x g read) less y h)

  pub call_left_fault : IsBytes bytes → length bytes ≤ 16512 → (x : PlainFrame) (g : Front) → frame_at (from_front f) ≡ Ok (x, from_front g) → g.at < length bytes
      → (FrameFault.Trailing g.at ≡ FrameFault.NoMemory) ⊎ SpellingFault (FrameFault.Trailing g.at) bytes
  call_left_fault h short x g read less = inr (trailing_fault bytes x (from_front g) (ok_read x g read) h short less)

  pub call_err_only : (e : FrameFault) → Fails e (frame_at (from_front f)) → (y : PlainFrame) → SpellsFrame bytes y → e ≡ FrameFault.NoMemory
  call_err_only e k y h = by_case (fails_is e (frame_at (from_front f)) k)
    where
      by_case : (e ≡ FrameFault.NoMemory) ⊎ (frame_at (from_front f) ≡ Err e) → e ≡ FrameFault.NoMemory
      by_case (inl m) = m
      by_case (inr r) = absurd (never_refused bytes e y (ap frame_at starts ∙ r) h)

  pub call_err_fault : length bytes ≤ 16512 → (e : FrameFault) → Fails e (frame_at (from_front f)) → (e ≡ FrameFault.NoMemory) ⊎ SpellingFault e bytes
  call_err_fault short e k = by_case (fails_is e (frame_at (from_front f)) k)
    where
      by_case : (e ≡ FrameFault.NoMemory) ⊎ (frame_at (from_front f) ≡ Err e) → (e ≡ FrameFault.NoMemory) ⊎ SpellingFault e bytes
      by_case (inl m) = inl m
      by_case (inr r) = inr (refused_fault bytes e short (ap frame_at starts ∙ r))

-- ---- laws

pub one_spelling_is : (a b x y : List ℕ) (v w : PlainFrame) → SpellsFrame a v → SpellsFrame b w → a ++ x ≡ b ++ y → (a ≡ b) × (v ≡ w) × (x ≡ y)
one_spelling_is a b x y v w h k e =
    let one = read_whole (a ++ x) x v h.fits h.plain (ap (λ l. l ++ x) h.is) in
    let two = read_whole (a ++ x) y w k.fits k.plain (e ∙ ap (λ l. l ++ y) k.is) in
    let same = ok_inj (sym one ∙ two) in
    let is : v ≡ w = ap (λ q. q.0) same in
    (h.is ∙ ap frame_bytes is ∙ sym k.is, is, ap (λ q. q.1.front.rest) same)

pub one_fault_is : (bytes : List ℕ) (d e : FrameFault) → SpellingFault d bytes → SpellingFault e bytes → d ≡ e
one_fault_is bytes d e (too_long h p) (too_long k q) = p ∙ sym q
one_fault_is bytes d e (too_long h p) (misspelled k q) = absurd (omega (arith, h, k))
one_fault_is bytes d e (misspelled h p) (too_long k q) = absurd (omega (arith, h, k))
one_fault_is bytes d e (misspelled h p) (misspelled k q) = one_first_fault frame_step p q

pub either_is : (bytes : List ℕ) → IsBytes bytes → ((x : PlainFrame) × SpellsFrame bytes x) ⊎ ((e : FrameFault) × SpellingFault e bytes)
either_is bytes h = by_length (nat_le (length bytes) 16512) refl
  where
    by_place : (x : PlainFrame) (s : Scan) → frame_at (begins bytes) ≡ Ok (x, s) → length bytes ≤ 16512 → (all : Bool) → nat_le (length bytes) s.front.at ≡ all
        → ((y : PlainFrame) × SpellsFrame bytes y) ⊎ ((e : FrameFault) × SpellingFault e bytes)
    by_place x s read short true q = inl (x, found_whole bytes x s read h short (leb-true (length bytes) s.front.at q))
    by_place x s read short false q = inr (FrameFault.Trailing s.front.at, trailing_fault bytes x s read h short (leb-false (length bytes) s.front.at q))

    by_read : length bytes ≤ 16512 → (r : Result (PlainFrame × Scan) FrameFault) → frame_at (begins bytes) ≡ r → ((x : PlainFrame) × SpellsFrame bytes x) ⊎ ((e : FrameFault) × SpellingFault e bytes)
    by_read short (Ok q) e = by_place q.0 q.1 e short (nat_le (length bytes) q.1.front.at) refl
    by_read short (Err d) e = inr (d, refused_fault bytes d short e)

    by_length : (b : Bool) → nat_le (length bytes) 16512 ≡ b → ((x : PlainFrame) × SpellsFrame bytes x) ⊎ ((e : FrameFault) × SpellingFault e bytes)
    by_length true q = by_read (leb-true (length bytes) 16512 q) (frame_at (begins bytes)) refl
    by_length false q = inr (FrameFault.TooLong, too_long (leb-false (length bytes) 16512 q) refl)

pub never_both_is : (bytes : List ℕ) (x : PlainFrame) (e : FrameFault) → SpellsFrame bytes x → SpellingFault e bytes → ⊥
never_both_is bytes x e h (too_long k p) = let s = h.short in omega (arith, k, s)
never_both_is bytes x e h (misspelled k p) =
    let end = ends (length (frame_bytes x)) [] in
    let q = goes_ok frame_step a_frame (begins bytes) (λ _. the_end ∷ []) (frame_at (begins bytes)) (x, end) (spelled_read bytes x h) (frame_goes (the_end ∷ []) (begins bytes)) e p in
    let last = one_step frame_step {A = Unit {0}} the_end [] end (λ _. []) (Ok (tt, end)) refl in
    no_fault frame_step (goes_ok frame_step {A = Unit {0}} (the_end ∷ []) end (λ _. []) (Ok (tt, end)) (tt, end) refl last e q)
