-- The laws of a frame of version 2.
use Rattle.std.proofs.Common.{◌≡◌, ◌⊎◌, inl, inr, ℕ, ◌+◌, ◌<◌, ◌≤◌, List, [], ◌∷◌, ◌++◌, length, append-nil, Bool, true, false, Option, Some, None, Ok, refl, sym, ◌∙◌, ap, subst, arith}
use Rattle.std.specs.Prelude.{◌==◌, ◌||◌, if◌then◌else◌}
use Rattle.std.specs.Int.{w8, w32, w64, to_be_bytes}
use Rattle.std.proofs.lemmas.Bool.{eqb-true}
use Rattle.wire_bytes.specs.Fields.{Front, IsBytes}
use Rattle.chunk_codec_spec.specs.Spelling.{from_front}
use Rattle.packet_frame.specs.Reading.{Fails}
use Rattle.containers.proofs.Binds.{ok_inj, some_inj, bind_ok, bind_is}
use Rattle.containers.proofs.Agendas.{Goes, chain, one_step}
use Rattle.chunk_codec_spec.specs.Scan.{Scan, number_field}
use Rattle.chunk_codec_spec.proofs.Took.{Took, Took-bytes, Took-then, Took-first, Took-second, Took-as, between}
use Rattle.chunk_codec_spec.proofs.FieldLaws.{byte_takes, byte_again}
use Rattle.plan_base.specs.declared.stamp.Stamp.{Stamp}
use Rattle.packet_frame.specs.declared.fault.FrameFault.{FrameFault}
use Rattle.packet_frame.specs.declared.frame.PlainFrame.{PlainFrame}
use Rattle.packet_frame.specs.declared.frame.PlainStamped.{PlainStamped}
use Rattle.packet_frame.specs.declared.kind.Kind.{Kind}
use Rattle.packet_frame.specs.declared.kind.Form.{Form}
use Rattle.plan_base.specs.declared.name.Name.{Name}
use Rattle.plan_base.specs.declared.tree.Packet.{Packet}
use Rattle.packet_frame.specs.Bytes.{letters}
use Rattle.packet_frame.specs.Faults.{of_number}
use Rattle.packet_frame.specs.Fields.{number, magic_at}
use Rattle.packet_frame.specs.Forms.{FrameItem, the_magic, the_end, either_version, the_form, FieldValues, bytes_of_fields, AllFit, items_of_fields, fields_of, FrameFits}
use Rattle.packet_frame.specs.Versions.{either_version_at, form_of, known_form, form_at, stamped_forms, stamped_of_fields, stamped_at}
use Rattle.packet_frame.specs.Frames.{frame_step}
use Rattle.packet_frame.specs.Stamped.{stamped_head, stamped_bytes, StampFits, HandlerFits, IsOfTwo, StampedFits}
use Rattle.packet_frame.proofs.FieldLaws.{AllKept, told_ok, told_is, judged_ok, judged_is, host_kept, serial_kept, bound_kept, route_kept, chunk_kept, reads_takes, reads_again, reads_go}
use Rattle.packet_frame.proofs.FrameLaws.{forms_kept, frame_is, magic_takes, magic_again}
use Rattle.packet_frame.specs.Stamped.{SpellsStamped, StampedFault, too_long, misspelled}
use Rattle.packet_frame.proofs.WholeLaws.{Whole, Spells, Faulty, one_spelling_is, one_fault_is, either_is, never_both_is}
use Rattle.packet_frame.proofs.WholeLaws as whole

stamped_kept : (k : Form) → AllKept (stamped_forms k)
stamped_kept Form.Ask = forms_kept Kind.Ask
stamped_kept Form.Packet = (serial_kept, (serial_kept, forms_kept Kind.Packet))
stamped_kept Form.Handled = (serial_kept, (serial_kept, (host_kept, (serial_kept, (host_kept, (bound_kept, (route_kept, (route_kept, (chunk_kept, tt)))))))))
stamped_kept Form.Advert = (serial_kept, (serial_kept, forms_kept Kind.Advert))

-- the version and the kind of a form
abbrev version_number : Form → ℕ
version_number Form.Ask = 1
version_number Form.Packet = 2
version_number Form.Advert = 2
version_number Form.Handled = 2

abbrev form_number : Form → ℕ
form_number Form.Ask = 3
form_number Form.Packet = 1
form_number Form.Advert = 2
form_number Form.Handled = 4

form_known : (k : Form) → form_of (version_number k) (form_number k) ≡ Some k
form_known Form.Ask = refl
form_known Form.Packet = refl
form_known Form.Advert = refl
form_known Form.Handled = refl

-- a form that is known has these numbers, where the version is 1 or 2
form_is : (v n : ℕ) (k : Form) → (v == 1 || v == 2) ≡ true → form_of v n ≡ Some k → (v ≡ version_number k) × (n ≡ form_number k)
form_is v n k either h = first (v == 1) refl h
  where
    two : (v == 1) ≡ false → v ≡ 2
    two q = by (v == 1) (v == 2) q either refl
      where
        by : (a b : Bool) → a ≡ false → (a || b) ≡ true → (v == 2) ≡ b → v ≡ 2
        by true b x y z = cc
        by false true x y z = eqb-true v 2 z
        by false false x y z = cc

    fourth : (v == 1) ≡ false → (b : Bool) → (n == 4) ≡ b → (if b then Some Form.Handled else None) ≡ Some k → (v ≡ version_number k) × (n ≡ form_number k)
    fourth p true q e = let same : Form.Handled ≡ k = some_inj e in subst (λ j. (v ≡ version_number j) × (n ≡ form_number j)) same (two p, eqb-true n 4 q)
    fourth p false q e = cc

    third : (v == 1) ≡ false → (n == 1) ≡ false → (b : Bool) → (n == 2) ≡ b → (if b then Some Form.Advert else if n == 4 then Some Form.Handled else None) ≡ Some k → (v ≡ version_number k) × (n ≡ form_number k)
    third p r true q e = let same : Form.Advert ≡ k = some_inj e in subst (λ j. (v ≡ version_number j) × (n ≡ form_number j)) same (two p, eqb-true n 2 q)
    third p r false q e = fourth p (n == 4) refl e

    second : (v == 1) ≡ false → (b : Bool) → (n == 1) ≡ b → (if b then Some Form.Packet else if n == 2 then Some Form.Advert else if n == 4 then Some Form.Handled else None) ≡ Some k → (v ≡ version_number k) × (n ≡ form_number k)
    second p true q e = let same : Form.Packet ≡ k = some_inj e in subst (λ j. (v ≡ version_number j) × (n ≡ form_number j)) same (two p, eqb-true n 1 q)
    second p false q e = third p q (n == 2) refl e

    ask : (v == 1) ≡ true → (b : Bool) → (n == 3) ≡ b → (if b then Some Form.Ask else None) ≡ Some k → (v ≡ version_number k) × (n ≡ form_number k)
    ask p true q e = let same : Form.Ask ≡ k = some_inj e in subst (λ j. (v ≡ version_number j) × (n ≡ form_number j)) same (eqb-true v 1 p, eqb-true n 3 q)
    ask p false q e = cc

    first : (b : Bool) → (v == 1) ≡ b → (if b then (if n == 3 then Some Form.Ask else None) else if n == 1 then Some Form.Packet else if n == 2 then Some Form.Advert else if n == 4 then Some Form.Handled else None) ≡ Some k
        → (v ≡ version_number k) × (n ≡ form_number k)
    first true q e = ask q (n == 3) refl e
    first false q e = second q (n == 1) refl e

known_form_ok : (o : Option Form) (s g : Scan) (k : Form) → known_form o s ≡ Ok (k, g) → (o ≡ Some k) × (s ≡ g)
known_form_ok (Some u) s g k e = let p = ok_inj e in (ap (λ q. Some q.0) p, ap (λ q. q.1) p)
known_form_ok None s g k e = cc

-- ---- the head

version_takes : (f g : Scan) (n : ℕ) → IsBytes f.front.rest → either_version_at f ≡ Ok (n, g) → Took f (n ∷ []) 0 g × ((n == 1 || n == 2) ≡ true)
unfolding either_version_at
version_takes f g n h e =
    let b = bind_ok (number w8 f) _ _ e in
    let j = judged_ok _ FrameFault.BadVersion b.first (n, g) b.then_read in
    let t = byte_takes f b.first.1 b.first.0 h (told_ok of_number (number_field w8 f) b.first b.read) in
    let P : ℕ × Scan → Type 0 = λ q. Took f (q.0 ∷ []) 0 q.1 × ((q.0 == 1 || q.0 == 2) ≡ true) in
    subst P j.1 (t.0, j.0)

version_again : (f g : Scan) (n : ℕ) → (n == 1 || n == 2) ≡ true → Took f (n ∷ []) 0 g → either_version_at f ≡ Ok (n, g)
unfolding either_version_at
version_again f g n h t = bind_is _ (told_is of_number (number_field w8 f) (n, g) (byte_again f g n t)) (judged_is _ FrameFault.BadVersion (n, g) h)

form_takes : (v : ℕ) (f g : Scan) (k : Form) → IsBytes f.front.rest → (v == 1 || v == 2) ≡ true → form_at v f ≡ Ok (k, g) → Took f (form_number k ∷ []) 0 g × (v ≡ version_number k)
unfolding form_at
form_takes v f g k h either e =
    let b = bind_ok (number w8 f) _ _ e in
    let q = known_form_ok _ _ _ _ b.then_read in
    let t = byte_takes f b.first.1 b.first.0 h (told_ok of_number (number_field w8 f) b.first b.read) in
    let i = form_is v b.first.0 k either q.0 in
    let P : Scan → Type 0 = λ s. Took f (form_number k ∷ []) 0 s in
    (subst P q.1 (Took-as (ap (λ m. m ∷ []) i.1) refl t.0), i.0)

form_again : (f g : Scan) (k : Form) → Took f (form_number k ∷ []) 0 g → form_at (version_number k) f ≡ Ok (k, g)
unfolding form_at
form_again f g k t = bind_is _ (told_is of_number (number_field w8 f) (form_number k, g) (byte_again f g (form_number k) t)) (ap (λ o. known_form o g) (form_known k))

either_known : (k : Form) → (version_number k == 1 || version_number k == 2) ≡ true
either_known Form.Ask = refl
either_known Form.Packet = refl
either_known Form.Advert = refl
either_known Form.Handled = refl

-- ---- the whole

-- a frame by its form
abbrev head_of : Form → List ℕ
head_of k = to_be_bytes w32 letters ++ ((version_number k ∷ []) ++ (form_number k ∷ []))

spelled_is : (k : Form) (xs : FieldValues (stamped_forms k)) → stamped_bytes (stamped_of_fields k xs) ≡ head_of k ++ bytes_of_fields (stamped_forms k) xs
unfolding stamped_bytes
spelled_is Form.Ask xs = frame_is Kind.Ask xs
spelled_is Form.Packet xs =
    let s : Stamp = record { boot = xs.0; link = xs.1.0 } in
    ap (λ l. stamped_head 1 s ++ (to_be_bytes w32 xs.1.1.0 ++ (to_be_bytes w64 xs.1.1.1.0 ++ (to_be_bytes w32 xs.1.1.1.1.0 ++ (to_be_bytes w32 xs.1.1.1.1.1.0 ++ ((length xs.1.1.1.1.1.1.0 ∷ xs.1.1.1.1.1.1.0) ++ l)))))) (sym (append-nil _))
spelled_is Form.Handled xs =
    let s : Stamp = record { boot = xs.0; link = xs.1.0 } in
    let y = xs.1.1 in
    ap (λ l.
    stamped_head 4 s
    ++ (to_be_bytes w32 y.0 ++
    (to_be_bytes w64 y.1.0 ++
    (to_be_bytes w32 y.1.1.0 ++ (to_be_bytes w32 y.1.1.1.0 ++ ((length y.1.1.1.1.0 ∷ y.1.1.1.1.0) ++ ((length y.1.1.1.1.1.0 ∷ y.1.1.1.1.1.0) ++ l))))))) (sym (append-nil _))
spelled_is Form.Advert xs =
    let s : Stamp = record { boot = xs.0; link = xs.1.0 } in
    ap (λ l. stamped_head 2 s ++ (to_be_bytes w32 xs.1.1.0 ++ l)) (sym (append-nil _))

fit_held : (k : Form) (xs : FieldValues (stamped_forms k)) → AllFit (stamped_forms k) xs → StampedFits (stamped_of_fields k xs)
fit_held Form.Ask xs h = (h, tt)
fit_held Form.Packet xs h = (h.1.1, (tt, record { boot = h.0; link = h.1.0 }))
fit_held Form.Handled xs h =
    let y = h.1.1 in
    ((y.0, (y.1.0, (y.1.1.0, (y.1.1.1.0, (y.1.1.1.1.0, (y.1.1.1.1.1.1.0, tt)))))), (y.1.1.1.1.1.0, record { boot = h.0; link = h.1.0 }))
fit_held Form.Advert xs h = (h.1.1, (tt, record { boot = h.0; link = h.1.0 }))

pub stamped_takes : (f g : Scan) (x : PlainStamped) → IsBytes f.front.rest → f.nodes ≤ 4096 → stamped_at f ≡ Ok (x, g) → Took f (stamped_bytes x) 0 g × StampedFits x
unfolding stamped_at
stamped_takes f g x h small e =
    let b = bind_ok (magic_at f) _ _ e in
    let c = bind_ok (either_version_at b.first.1) _ _ b.then_read in
    let d = bind_ok (form_at c.first.0 c.first.1) _ _ c.then_read in
    let k = d.first.0 in
    let m = magic_takes f b.first.1 b.first.0 h b.read in
    let hm = Took-bytes m h in
    let v = version_takes b.first.1 c.first.1 c.first.0 hm c.read in
    let hv = Took-bytes v.0 hm in
    let t = form_takes c.first.0 c.first.1 d.first.1 k hv v.1 d.read in
    let few : d.first.1.nodes ≤ 4096 = omega (arith, m.count, v.0.count, t.0.count, small) in
    let r = reads_takes (stamped_forms k) (stamped_kept k) (stamped_of_fields k) d.first.1 g x (Took-bytes t.0 hv) few d.then_read in
    let version : Took b.first.1 (version_number k ∷ []) 0 c.first.1 = Took-as (ap (λ n. n ∷ []) t.1) refl v.0 in
    let head : Took f (head_of k) 0 d.first.1 = Took-then m (Took-then version t.0) in
    let whole : Took f (head_of k ++ bytes_of_fields (stamped_forms k) r.held) 0 g = Took-then head r.all.took in
    let P : PlainStamped → Type 0 = λ y. Took f (stamped_bytes y) 0 g × StampedFits y in
    subst P (sym r.is) (Took-as (sym (spelled_is k r.held)) refl whole, fit_held k r.held r.all.fit)

again_by : (k : Form) (xs : FieldValues (stamped_forms k)) (f g : Scan) → AllFit (stamped_forms k) xs → Took f (head_of k ++ bytes_of_fields (stamped_forms k) xs) 0 g → g.nodes ≤ 4096
    → stamped_at f ≡ Ok (stamped_of_fields k xs, g)
unfolding stamped_at
again_by k xs f g fits t small =
    let magic = to_be_bytes w32 letters in
    let version : List ℕ = version_number k ∷ [] in
    let kind : List ℕ = form_number k ∷ [] in
    let body = bytes_of_fields (stamped_forms k) xs in
    let m = between f (magic ++ (version ++ kind)) body 0 g in
    let head : Took f (magic ++ (version ++ kind)) (0 + 0) m = Took-first f g (magic ++ (version ++ kind)) body 0 0 t in
    let behind = Took-second f g (magic ++ (version ++ kind)) body 0 0 t in
    let a = between f magic (version ++ kind) 0 m in
    let one : Took a (version ++ kind) (0 + 0) m = Took-second f m magic (version ++ kind) 0 0 head in
    let v = between a version kind 0 m in
    bind_is _ (magic_again f a (Took-first f m magic (version ++ kind) 0 0 head))
    (bind_is _ (version_again a v (version_number k) (either_known k) (Took-first a m version kind 0 0 one))
    (bind_is _ (form_again v m k (Took-second a m version kind 0 0 one))
    (reads_again (stamped_forms k) (stamped_kept k) (stamped_of_fields k) m g xs fits behind small)))

-- the form and the fields of a frame that may be spelled
record Parts (x : PlainStamped) : Type 0 where
  form : Form
  held : FieldValues (stamped_forms form)
  is : stamped_of_fields form held ≡ x
  fit : AllFit (stamped_forms form) held

packet_parts : (s : Stamp) (p : Packet) (o : Option Name) → p.handler ≡ o → FrameFits (PlainFrame.Packet p) → HandlerFits o → StampFits s → Parts (record { stamp = Some s; frame = PlainFrame.Packet p })
packet_parts s p None e h k f = record {
  form = Form.Packet;
  held = (s.boot, (s.link, (fields_of (PlainFrame.Packet p)).1));
  is = λ i. record { stamp = Some s; frame = PlainFrame.Packet (record p { handler = sym e i }) };
  fit = (f.boot, (f.link, h));
}
packet_parts s p (Some n) e h k f = record {
  form = Form.Handled;
  held = (s.boot, (s.link, (p.family.source.0, (p.family.serial, (p.dest.0, (p.bound, (p.route, (n, (p.chunk, tt)))))))));
  is = λ i. record { stamp = Some s; frame = PlainFrame.Packet (record p { handler = sym e i }) };
  fit = (f.boot, (f.link, (h.0, (h.1.0, (h.1.1.0, (h.1.1.1.0, (h.1.1.1.1.0, (k, (h.1.1.1.1.1.0, tt)))))))));
}

parts_of : (o : Option Stamp) (y : PlainFrame) → FrameFits y → IsOfTwo o y → Parts (record { stamp = o; frame = y })
parts_of None (PlainFrame.Packet p) h k = absurd k
parts_of None (PlainFrame.Advert a) h k = absurd k
parts_of None (PlainFrame.Ask bound c) h k = record { form = Form.Ask; held = (fields_of (PlainFrame.Ask bound c)).1; is = refl; fit = h }
parts_of (Some s) (PlainFrame.Packet p) h k = packet_parts s p p.handler refl h k.0 k.1
parts_of (Some s) (PlainFrame.Advert a) h k = record { form = Form.Advert; held = (s.boot, (s.link, (fields_of (PlainFrame.Advert a)).1)); is = refl; fit = (k.1.boot, (k.1.link, h)) }
parts_of (Some s) (PlainFrame.Ask bound c) h k = absurd k.0

pub stamped_again : (f g : Scan) (x : PlainStamped) → StampedFits x → Took f (stamped_bytes x) 0 g → g.nodes ≤ 4096 → stamped_at f ≡ Ok (x, g)
stamped_again f g x fits t small =
    let p = parts_of x.stamp x.frame fits.0 fits.1 in
    let is : stamped_bytes x ≡ head_of p.form ++ bytes_of_fields (stamped_forms p.form) p.held = ap stamped_bytes (sym p.is) ∙ spelled_is p.form p.held in
    again_by p.form p.held f g p.fit (Took-as is refl t) small ∙ (λ i. Ok (p.is i, g))

pub stamped_goes : (f : Scan) → Goes frame_step (the_magic ∷ either_version ∷ the_end ∷ []) f (λ _. the_end ∷ []) (stamped_at f)
unfolding stamped_at
stamped_goes f =
    let more : List FrameItem = the_end ∷ [] in
    chain frame_step (the_magic ∷ either_version ∷ more) f (λ _. either_version ∷ more) (λ _. more) (magic_at f) _
    (one_step frame_step the_magic (either_version ∷ more) f (λ _. either_version ∷ more) (magic_at f) refl)
    (λ m _. chain frame_step (either_version ∷ more) m.1 (λ v. the_form v ∷ more) (λ _. more) (either_version_at m.1) _
    (one_step frame_step either_version more m.1 (λ v. the_form v ∷ more) (either_version_at m.1) refl)
    (λ v _. chain frame_step (the_form v.0 ∷ more) v.1 (λ k. items_of_fields (stamped_forms k) more) (λ _. more) (form_at v.0 v.1) _
    (one_step frame_step (the_form v.0) more v.1 (λ k. items_of_fields (stamped_forms k) more) (form_at v.0 v.1) refl)
    (λ k _. reads_go (stamped_forms k.0) (stamped_kept k.0) (stamped_of_fields k.0) more k.1)))

-- a frame of version 2 is a whole frame
abbrev pub stamped_whole : Whole PlainStamped
stamped_whole = record {
  read = stamped_at;
  items = the_magic ∷ either_version ∷ the_end ∷ [];
  bytes = stamped_bytes;
  Fits = StampedFits;
  takes = stamped_takes;
  again = stamped_again;
  goes = stamped_goes;
}

-- the words of the contracts
pub spells_is : (bytes : List ℕ) (x : PlainStamped) → Spells stamped_whole bytes x → SpellsStamped bytes x
spells_is bytes x h = record { short = h.short; fits = h.fits; is = h.is }

pub is_spells : (bytes : List ℕ) (x : PlainStamped) → SpellsStamped bytes x → Spells stamped_whole bytes x
is_spells bytes x h = record { short = h.short; fits = h.fits; is = h.is }

pub faulty_is : (e : FrameFault) (bytes : List ℕ) → Faulty stamped_whole e bytes → StampedFault e bytes
faulty_is e bytes (whole.too_long h p) = too_long h p
faulty_is e bytes (whole.misspelled h p) = misspelled h p

pub is_faulty : (e : FrameFault) (bytes : List ℕ) → StampedFault e bytes → Faulty stamped_whole e bytes
is_faulty e bytes (too_long h p) = whole.too_long h p
is_faulty e bytes (misspelled h p) = whole.misspelled h p

pub stamped_one_spelling : (a b x y : List ℕ) (v w : PlainStamped) → SpellsStamped a v → SpellsStamped b w → a ++ x ≡ b ++ y → (a ≡ b) × (v ≡ w) × (x ≡ y)
stamped_one_spelling a b x y v w h k e = one_spelling_is stamped_whole a b x y v w (is_spells a v h) (is_spells b w k) e

pub stamped_one_fault : (bytes : List ℕ) (d e : FrameFault) → StampedFault d bytes → StampedFault e bytes → d ≡ e
stamped_one_fault bytes d e h k = one_fault_is stamped_whole bytes d e (is_faulty d bytes h) (is_faulty e bytes k)

pub stamped_either : (bytes : List ℕ) → IsBytes bytes → ((x : PlainStamped) × SpellsStamped bytes x) ⊎ ((e : FrameFault) × StampedFault e bytes)
stamped_either bytes h = by (either_is stamped_whole bytes h)
  where
    by : ((x : PlainStamped) × Spells stamped_whole bytes x) ⊎ ((e : FrameFault) × Faulty stamped_whole e bytes) → ((x : PlainStamped) × SpellsStamped bytes x) ⊎ ((e : FrameFault) × StampedFault e bytes)
    by (inl q) = inl (q.0, spells_is bytes q.0 q.1)
    by (inr q) = inr (q.0, faulty_is q.0 bytes q.1)

pub stamped_never_both : (bytes : List ℕ) (x : PlainStamped) (e : FrameFault) → SpellsStamped bytes x → StampedFault e bytes → ⊥
stamped_never_both bytes x e h k = never_both_is stamped_whole bytes x e (is_spells bytes x h) (is_faulty e bytes k)

-- ---- a call on a cursor at the first of the bytes

module _ (bytes : List ℕ) (f : Front) (first : f.at ≡ 0) (all : f.rest ≡ bytes) where
  pub call_found : IsBytes bytes → length bytes ≤ 16512 → (x : PlainStamped) (g : Front) → stamped_at (from_front f) ≡ Ok (x, from_front g) → length bytes ≤ g.at → SpellsStamped bytes x
  call_found h short x g read end = spells_is bytes x (whole.call_found stamped_whole bytes f first all h short x g read end)

  pub call_only : (x : PlainStamped) (g : Front) → stamped_at (from_front f) ≡ Ok (x, from_front g) → (y : PlainStamped) → SpellsStamped bytes y → x ≡ y
  call_only x g read y h = whole.call_only stamped_whole bytes f first all x g read y (is_spells bytes y h)

  pub call_left_only : (x : PlainStamped) (g : Front) → stamped_at (from_front f) ≡ Ok (x, from_front g) → g.at < length bytes → (y : PlainStamped) → SpellsStamped bytes y → FrameFault.Trailing g.at ≡ FrameFault.NoMemory
  call_left_only x g read less y h = whole.call_left_only stamped_whole bytes f first all x g read less y (is_spells bytes y h)

  abbrev pub Free : FrameFault → Type 0
  Free e = (e ≡ FrameFault.NoMemory) ⊎ StampedFault e bytes

  freely : (e : FrameFault) → (e ≡ FrameFault.NoMemory) ⊎ Faulty stamped_whole e bytes → Free e
  freely e (inl m) = inl m
  freely e (inr r) = inr (faulty_is e bytes r)

  pub call_left_fault : IsBytes bytes → length bytes ≤ 16512 → (x : PlainStamped) (g : Front) → stamped_at (from_front f) ≡ Ok (x, from_front g) → g.at < length bytes → Free (FrameFault.Trailing g.at)
  call_left_fault h short x g read less = freely (FrameFault.Trailing g.at) (whole.call_left_fault stamped_whole bytes f first all h short x g read less)

  pub call_err_only : (e : FrameFault) → Fails e (stamped_at (from_front f)) → (y : PlainStamped) → SpellsStamped bytes y → e ≡ FrameFault.NoMemory
  call_err_only e k y h = whole.call_err_only stamped_whole bytes f first all e k y (is_spells bytes y h)

  pub call_err_fault : length bytes ≤ 16512 → (e : FrameFault) → Fails e (stamped_at (from_front f)) → Free e
  call_err_fault short e k = freely e (whole.call_err_fault stamped_whole bytes f first all short e k)
