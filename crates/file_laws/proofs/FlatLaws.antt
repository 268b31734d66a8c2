-- A frame's first fault is the same by its fields and by their items.
use Rattle.std.proofs.Common.{◌≡◌, ◌⊎◌, inl, inr, ℕ, zero, suc, ◌+◌, ◌<◌, Bool, true, false, List, [], ◌∷◌, length, Option, Some, None, Result, Ok, Err, refl, sym, ◌∙◌, ap, subst, arith, get_or-drop}
use Rattle.std.specs.Prelude.{◌↔◌, nat_lt, nat_le, if◌then◌else◌, take}
use Rattle.std.specs.Int.{Width, w8, w16, w32, w64, byte_len, from_be_bytes}
use Rattle.wire_bytes.specs.Fields.{Front, IsBytes, after}
use Rattle.containers.specs.Reading.{◌>>=◌}
use Rattle.containers.specs.Agenda.{FirstFault, here, later}
use Rattle.containers.proofs.Binds.{ok_inj, bind_ok}
use Rattle.containers.proofs.Agendas.{goes_ok, no_fault}
use Rattle.plan_base.specs.Words.{is_name}
use Rattle.plan_base.specs.declared.tree.Chunk.{Chunk}
use Rattle.chunk_codec_spec.specs.declared.fault.SpellFault.{SpellFault}
use Rattle.chunk_codec_spec.specs.declared.fault.SpellFault.TheVariants.{BadName}
use Rattle.chunk_codec_spec.specs.Scan.{Scan, whole, allowed_or_fault, number_field, bytes_field, name_field}
use Rattle.chunk_codec_spec.specs.Parts.{Part}
use Rattle.chunk_codec_spec.specs.Steps.{step}
use Rattle.chunk_codec_spec.specs.Spelling.{from_front, FirstFaultAt, a_whole_chunk}
use Rattle.chunk_codec_spec.proofs.Took.{Took-bytes}
use Rattle.chunk_codec_spec.proofs.FieldLaws.{allowed_ok}
use Rattle.chunk_codec_spec.proofs.PartLaws.{Lawful}
use Rattle.chunk_codec_spec.proofs.ValueLaws.{chunk_part_lawful}
use Rattle.chunk_codec_spec.proofs.WholeLaws.{found_by, only_by, fault_by, at_most_one}
use Rattle.packet_frame.specs.declared.fault.FrameFault.{FrameFault}
use Rattle.packet_frame.specs.declared.kind.Kind.{Kind}
use Rattle.packet_frame.specs.declared.kind.Form.{Form}
use Rattle.packet_frame.specs.Faults.{of_spelling, of_number}
use Rattle.packet_frame.specs.Fields.{told_fault, number, magic_at, version_at, known_kind, kind_of, kind_at, judged_field, bound_at, route_at, count_at, row_host_at, cost_at}
use Rattle.packet_frame.specs.Forms.{FrameItem, the_magic, the_version, the_kind, a_host, a_serial, a_bound, a_route, a_carried_chunk, some_rows, rows_behind, a_cost, the_end, either_version, the_form}
use Rattle.packet_frame.specs.Versions.{either_version_at, form_of, known_form, form_at}
use Rattle.packet_frame.specs.Frames.{past, nothing_left, frame_step, a_frame, begins, SpellingFault}
use Rattle.packet_frame.specs.Frames as frames
use Rattle.packet_frame.specs.Stamped.{a_stamped_frame, StampedFault}
use Rattle.packet_frame.specs.Stamped as stamped
use Rattle.packet_frame.proofs.FieldLaws.{told_ok, judged_ok}
use Rattle.file_laws.specs.Flat.{is_chunk, FlatFault, at_field, behind_field, in_chunk, behind_chunk, FlatSpellingFault, FlatStampedFault, too_long, misspelled}

-- ---- readings of whole parts

module _ {A : Type 0} (p : Part A) (l : Lawful p) (no_nodes : (x : A) → p.nodes x ≡ 0) where
  -- what has a first fault is refused with it
  refused_by : (f : Front) (e : SpellFault) → FirstFaultAt e p.item f → p.read (from_front f) ≡ Err e
  refused_by f e h = by_answer (p.read (from_front f)) refl
    where
      by_answer : (r : Result (A × Scan) SpellFault) → p.read (from_front f) ≡ r → p.read (from_front f) ≡ Err e
      by_answer (Ok x) q = absurd (no_fault step (goes_ok step (p.item ∷ []) (from_front f) (λ _. []) (p.read (from_front f)) x q (l.goes [] (from_front f)) e h))
      by_answer (Err d) q = q ∙ ap Err (at_most_one p l no_nodes f d e (fault_by p l no_nodes f d q) h)

  pub fails_first : (f : Front) (e : SpellFault) → (p.read (from_front f) ≡ Err e) ↔ FirstFaultAt e p.item f
  fails_first f e = (fault_by p l no_nodes f e, refused_by f e)

-- ---- fields keep the count of expressions, and leave bytes

-- from f on g is reached by a field
record Keeps (f g : Scan) : Type 0 where
  nodes : g.nodes ≡ f.nodes
  bytes : IsBytes f.front.rest → IsBytes g.front.rest

stays : (f : Scan) → Keeps f f
stays f = record { nodes = refl; bytes = λ h. h }

then_keeps : {f m g : Scan} → Keeps f m → Keeps m g → Keeps f g
then_keeps h k = record { nodes = k.nodes ∙ h.nodes; bytes = λ b. k.bytes (h.bytes b) }

-- a field passed over n bytes
skipping_keeps : (n : ℕ) (f g : Scan) → record f { front = after n f.front } ≡ g → Keeps f g
skipping_keeps n f g e = subst (Keeps f) e (record { nodes = refl; bytes = λ b i. subst (λ x. x < 256) (sym (get_or-drop n f.front.rest i 0)) (b (n + i)) })

number_keeps : (w : Width) (f : Scan) (x : ℕ × Scan) → number_field w f ≡ Ok x → Keeps f x.1
unfolding number_field
number_keeps w f x h = by_room (nat_lt (length f.front.rest) (byte_len w)) h
  where
    by_room : (b : Bool) → whole (if b then Err f.front.at else Ok (from_be_bytes w (take (byte_len w) f.front.rest), after (byte_len w) f.front)) f ≡ Ok x → Keeps f x.1
    by_room true q = cc
    by_room false q = skipping_keeps (byte_len w) f x.1 (ap (λ z. z.1) (ok_inj q))

bytes_keep : (n : ℕ) (f : Scan) (x : List ℕ × Scan) → bytes_field n f ≡ Ok x → Keeps f x.1
unfolding bytes_field
bytes_keep n f x h = by_room (nat_lt (length f.front.rest) n) h
  where
    by_room : (b : Bool) → whole (if b then Err f.front.at else Ok (take n f.front.rest, after n f.front)) f ≡ Ok x → Keeps f x.1
    by_room true q = cc
    by_room false q = skipping_keeps n f x.1 (ap (λ z. z.1) (ok_inj q))

name_keeps : (f : Scan) (x : List ℕ × Scan) → name_field f ≡ Ok x → Keeps f x.1
unfolding name_field
name_keeps f x h =
    let a = bind_ok (number_field w8 f) _ x h in
    let b = bind_ok (allowed_or_fault (nat_le 1 a.first.0) (BadName f.front.at) a.first) _ x a.then_read in
    let c = bind_ok (allowed_or_fault (nat_le b.first.0 32) (BadName f.front.at) b.first) _ x b.then_read in
    let d = bind_ok (bytes_field c.first.0 c.first.1) _ x c.then_read in
    let one : a.first ≡ b.first = (allowed_ok (nat_le 1 a.first.0) (BadName f.front.at) a.first b.first b.read).1 in
    let two : b.first ≡ c.first = (allowed_ok (nat_le b.first.0 32) (BadName f.front.at) b.first c.first c.read).1 in
    let three : d.first ≡ x = (allowed_ok (is_name d.first.0) (BadName f.front.at) d.first x d.then_read).1 in
    let start : a.first.1 ≡ c.first.1 = ap (λ z. z.1) one ∙ ap (λ z. z.1) two in
    subst (λ z. Keeps f z.1) three (then_keeps (subst (Keeps f) start (number_keeps w8 f a.first a.read)) (bytes_keep c.first.0 c.first.1 d.first d.read))

own_keeps : (w : Width) (f : Scan) (x : ℕ × Scan) → number w f ≡ Ok x → Keeps f x.1
own_keeps w f x h = number_keeps w f x (told_ok of_number (number_field w f) x h)

-- a number that is judged
judged_keeps : (w : Width) (f : Scan) (x : ℕ × Scan) (test : ℕ → Bool) (e : FrameFault) → (number w f >>= λ n. judged_field (test n.0) e n) ≡ Ok x → Keeps f x.1
judged_keeps w f x test e h =
    let a = bind_ok (number w f) _ _ h in
    subst (Keeps f) (ap (λ z. z.1) (judged_ok _ e a.first x a.then_read).1) (own_keeps w f a.first a.read)

known_is : (o : Option Kind) (s : Scan) (x : Kind × Scan) → known_kind o s ≡ Ok x → s ≡ x.1
known_is (Some k) s x h = ap (λ z. z.1) (ok_inj h)
known_is None s x h = cc

kind_keeps : (f : Scan) (x : Kind × Scan) → kind_at f ≡ Ok x → Keeps f x.1
unfolding kind_at
kind_keeps f x h = let a = bind_ok (number w8 f) _ _ h in subst (Keeps f) (known_is (kind_of a.first.0) a.first.1 x a.then_read) (own_keeps w8 f a.first a.read)

form_known : (o : Option Form) (s : Scan) (x : Form × Scan) → known_form o s ≡ Ok x → s ≡ x.1
form_known (Some k) s x h = ap (λ z. z.1) (ok_inj h)
form_known None s x h = cc

form_keeps : (v : ℕ) (f : Scan) (x : Form × Scan) → form_at v f ≡ Ok x → Keeps f x.1
unfolding form_at
form_keeps v f x h = let a = bind_ok (number w8 f) _ _ h in subst (Keeps f) (form_known (form_of v a.first.0) a.first.1 x a.then_read) (own_keeps w8 f a.first a.read)

-- a step that is a field alone
past_keeps : {A : Type 0} (r : Result (A × Scan) FrameFault) (f : Scan) (more : List FrameItem) (y : List FrameItem × Scan) → ((x : A × Scan) → r ≡ Ok x → Keeps f x.1) → past more r ≡ Ok y → Keeps f y.1
past_keeps r f more y k h = let a = bind_ok r _ _ h in subst (Keeps f) (ap (λ z. z.1) (ok_inj a.then_read)) (k a.first a.read)

left_keeps : (r : List ℕ) (more : List FrameItem) (f : Scan) (y : List FrameItem × Scan) → nothing_left r more f ≡ Ok y → Keeps f y.1
left_keeps [] more f y h = subst (Keeps f) (ap (λ z. z.1) (ok_inj h)) (stays f)
left_keeps (b ∷ bs) more f y h = cc

field_keeps : (i : FrameItem) (more : List FrameItem) (f : Scan) (y : List FrameItem × Scan) → is_chunk i ≡ false → frame_step i more f ≡ Ok y → Keeps f y.1
unfolding magic_at version_at bound_at count_at row_host_at cost_at either_version_at
field_keeps the_magic more f y n h = past_keeps (magic_at f) f more y (λ x q. judged_keeps w32 f x _ _ q) h
field_keeps the_version more f y n h = past_keeps (version_at f) f more y (λ x q. judged_keeps w8 f x _ _ q) h
field_keeps the_kind more f y n h = let a = bind_ok (kind_at f) _ _ h in subst (Keeps f) (ap (λ z. z.1) (ok_inj a.then_read)) (kind_keeps f a.first a.read)
field_keeps a_host more f y n h = past_keeps (number w32 f) f more y (own_keeps w32 f) h
field_keeps a_serial more f y n h = past_keeps (number w64 f) f more y (own_keeps w64 f) h
field_keeps a_bound more f y n h = past_keeps (bound_at f) f more y (λ x q. judged_keeps w32 f x _ _ q) h
field_keeps a_route more f y n h = past_keeps (route_at f) f more y (λ x q. name_keeps f x (told_ok of_spelling (name_field f) x q)) h
field_keeps a_carried_chunk more f y n h = cc
field_keeps some_rows more f y n h = let a = bind_ok (count_at f) _ _ h in subst (Keeps f) (ap (λ z. z.1) (ok_inj a.then_read)) (judged_keeps w16 f a.first _ _ a.read)
field_keeps (rows_behind before zero) more f y n h = subst (Keeps f) (ap (λ z. z.1) (ok_inj h)) (stays f)
field_keeps (rows_behind before (suc m)) more f y n h = let a = bind_ok (row_host_at before f) _ _ h in subst (Keeps f) (ap (λ z. z.1) (ok_inj a.then_read)) (judged_keeps w32 f a.first _ _ a.read)
field_keeps a_cost more f y n h = past_keeps (cost_at f) f more y (λ x q. judged_keeps w32 f x _ _ q) h
field_keeps the_end more f y n h = left_keeps f.front.rest more f y h
field_keeps either_version more f y n h = let a = bind_ok (either_version_at f) _ _ h in subst (Keeps f) (ap (λ z. z.1) (ok_inj a.then_read)) (judged_keeps w8 f a.first _ _ a.read)
field_keeps (the_form v) more f y n h = let a = bind_ok (form_at v f) _ _ h in subst (Keeps f) (ap (λ z. z.1) (ok_inj a.then_read)) (form_keeps v f a.first a.read)

-- ---- a frame

which : (i : FrameItem) → (is_chunk i ≡ false) ⊎ (i ≡ a_carried_chunk)
which a_carried_chunk = inr refl
which the_magic = inl refl
which the_version = inl refl
which the_kind = inl refl
which a_host = inl refl
which a_serial = inl refl
which a_bound = inl refl
which a_route = inl refl
which some_rows = inl refl
which (rows_behind before n) = inl refl
which a_cost = inl refl
which the_end = inl refl
which either_version = inl refl
which (the_form v) = inl refl

abbrev chunk_read : Front → Result (Chunk × Scan) SpellFault
chunk_read f = a_whole_chunk.read (from_front f)

chunk_refused : (more : List FrameItem) (f : Front) (e : FrameFault) → (r : Result (Chunk × Scan) SpellFault) → chunk_read f ≡ r → past more (told_fault of_spelling r) ≡ Err e → FlatFault e (a_carried_chunk ∷ more) f
chunk_refused more f e (Ok x) q h = cc
chunk_refused more f e (Err d) q h = in_chunk d (fault_by a_whole_chunk (chunk_part_lawful 3) (λ _. refl) f d q) (err_inj h)
  where
    err_inj : ◌≡◌ {A = Result (List FrameItem × Scan) FrameFault} (Err (of_spelling d)) (Err e) → e ≡ of_spelling d
    err_inj k = cc

chunk_passed : (more next : List FrameItem) (f : Front) (s : Scan) → past more (told_fault of_spelling (chunk_read f)) ≡ Ok (next, s) → (c : Chunk) × (chunk_read f ≡ Ok (c, s)) × (more ≡ next)
chunk_passed more next f s h =
    let a = bind_ok (told_fault of_spelling (chunk_read f)) _ _ h in
    let r = told_ok of_spelling (chunk_read f) a.first a.read in
    let same = ok_inj a.then_read in
    (a.first.0, r ∙ ap (λ z. Ok (a.first.0, z)) (ap (λ z. z.1) same), ap (λ z. z.0) same)

-- a scan in which no expression is counted
counted_none : (s : Scan) → s.nodes ≡ 0 → s ≡ from_front s.front
counted_none s h = λ i. record { front = s.front; nodes = h i }

here_step : (e : FrameFault) (i : FrameItem) (more : List FrameItem) (f : Front) → frame_step i more (from_front f) ≡ Err e → FlatFault e (i ∷ more) f
here_step e i more f h = by_kind (which i)
  where
    by_kind : (is_chunk i ≡ false) ⊎ (i ≡ a_carried_chunk) → FlatFault e (i ∷ more) f
    by_kind (inl n) = at_field n h
    by_kind (inr c) = subst (λ j. FlatFault e (j ∷ more) f) (sym c) (chunk_refused more f e (chunk_read f) refl (ap (λ j. frame_step j more (from_front f)) (sym c) ∙ h))

later_step : (e : FrameFault) (i : FrameItem) (more next : List FrameItem) (f : Front) (g : Scan) → frame_step i more (from_front f) ≡ Ok (next, g) → IsBytes f.rest
    → ((u : Front) → g ≡ from_front u → IsBytes u.rest → FlatFault e next u) → FlatFault e (i ∷ more) f
later_step e i more next f g h b behind = by_kind (which i)
  where
    by_kind : (is_chunk i ≡ false) ⊎ (i ≡ a_carried_chunk) → FlatFault e (i ∷ more) f
    by_kind (inl n) =
        let k = field_keeps i more (from_front f) (next, g) n h in
        let none = counted_none g k.nodes in
        behind_field n (h ∙ ap (λ z. Ok (next, z)) none) (behind g.front none (k.bytes b))
    by_kind (inr c) =
        let p = chunk_passed more next f g (ap (λ j. frame_step j more (from_front f)) (sym c) ∙ h) in
        let l = (chunk_part_lawful 3).takes (from_front f) g p.0 b (omega arith) p.1 in
        let sp = found_by a_whole_chunk (chunk_part_lawful 3) (λ _. refl) f p.0 g b p.1 in
        let none = counted_none g l.took.count in
        subst (λ j. FlatFault e (j ∷ more) f) (sym c) (behind_chunk p.0 sp (subst (λ m. FlatFault e m g.front) (sym p.2) (behind g.front none (Took-bytes l.took b))))

-- the first fault of any fields to read is the first of flat ones
pub to_flat : {e : FrameFault} {now : List FrameItem} {s : Scan} → FirstFault frame_step e now s → (f : Front) → s ≡ from_front f → IsBytes f.rest → FlatFault e now f
to_flat {e} (here i more s h) f q b = here_step e i more f (ap (frame_step i more) (sym q) ∙ h)
to_flat {e} (later i more s next g h fault) f q b = later_step e i more next f g (ap (frame_step i more) (sym q) ∙ h) b (λ u k c. to_flat fault u k c)

from_flat : {e : FrameFault} {now : List FrameItem} {f : Front} → FlatFault e now f → FirstFault frame_step e now (from_front f)
from_flat (at_field {i} {more} {f} n h) = here i more (from_front f) h
from_flat (behind_field {i} {more} {next} {f} {g} n h k) = later i more (from_front f) next (from_front g) h (from_flat k)
from_flat {e} (in_chunk {more} {f} d h q) =
    here a_carried_chunk more (from_front f) (ap (λ r. past more (told_fault of_spelling r)) (refused_by a_whole_chunk (chunk_part_lawful 3) (λ _. refl) f d h) ∙ ap Err (sym q))
from_flat (behind_chunk {more} {f} {g} c h k) =
    later a_carried_chunk more (from_front f) more (from_front g) (ap (λ r. past more (told_fault of_spelling r)) (only_by a_whole_chunk (chunk_part_lawful 3) (λ _. refl) f g c h)) (from_flat k)

module _ (bytes : List ℕ) (e : FrameFault) (are : IsBytes bytes) where
  -- the fields of a whole frame, whatever they are
  fields_flat : (all : List FrameItem) → FirstFault frame_step e all (begins bytes) → FlatFault e all (record { at = 0; rest = bytes })
  fields_flat all q = to_flat q (record { at = 0; rest = bytes }) refl are

  plain_flat : SpellingFault e bytes → FlatSpellingFault e bytes
  plain_flat (frames.too_long h q) = too_long h q
  plain_flat (frames.misspelled h q) = misspelled h (fields_flat a_frame q)

  plain_from : FlatSpellingFault e bytes → SpellingFault e bytes
  plain_from (too_long h q) = frames.too_long h q
  plain_from (misspelled h q) = frames.misspelled h (from_flat q)

  stamped_flat : StampedFault e bytes → FlatStampedFault e bytes
  stamped_flat (stamped.too_long h q) = too_long h q
  stamped_flat (stamped.misspelled h q) = misspelled h (fields_flat a_stamped_frame q)

  stamped_from : FlatStampedFault e bytes → StampedFault e bytes
  stamped_from (too_long h q) = stamped.too_long h q
  stamped_from (misspelled h q) = stamped.misspelled h (from_flat q)

pub frame_is_flat : (bytes : List ℕ) (e : FrameFault) → IsBytes bytes → SpellingFault e bytes ↔ FlatSpellingFault e bytes
frame_is_flat bytes e are = (plain_flat bytes e are, plain_from bytes e are)

pub stamped_is_flat : (bytes : List ℕ) (e : FrameFault) → IsBytes bytes → StampedFault e bytes ↔ FlatStampedFault e bytes
stamped_is_flat bytes e are = (stamped_flat bytes e are, stamped_from bytes e are)
