-- No field of a frame is refused by running out of memory.
use Rattle.std.proofs.Common.{◌≡◌, ◌≢◌, ℕ, zero, suc, ◌||◌, ◌==◌, Bool, true, false, List, [], ◌∷◌, Option, Some, None, Result, Ok, Err, refl, sym, subst}
use Rattle.std.specs.Prelude.{nat_le}
use Rattle.std.specs.Int.{Width, w8, w16, w32, w64}
use Rattle.containers.specs.Reading.{◌>>=◌}
use Rattle.plan_base.specs.declared.limit.Limit.TheVariants as limits
use Rattle.wire_bytes.specs.Fields.{Front}
use Rattle.chunk_codec_spec.specs.Scan.{Scan, number_field, name_field}
use Rattle.chunk_codec_spec.specs.Spelling.{from_front}
use Rattle.chunk_codec_spec.specs.declared.fault.SpellFault.{SpellFault}
use Rattle.chunk_codec_spec.specs.declared.fault.SpellFault.TheVariants.{Truncated, BadTag, BadName, BadUtf8, OverLimit, NoMemory}
use Rattle.service_api.specs.Adverts.{is_above}
use Rattle.packet_frame.specs.declared.fault.FrameFault.{FrameFault}
use Rattle.packet_frame.specs.declared.fault.FrameFault.TheVariants as faults
use Rattle.packet_frame.specs.declared.kind.Kind.{Kind}
use Rattle.packet_frame.specs.declared.kind.Form.{Form}
use Rattle.packet_frame.specs.Bytes.{letters}
use Rattle.packet_frame.specs.Faults.{of_spelling, of_number}
use Rattle.packet_frame.specs.Fields.{told_fault, judged_field, number, magic_at, version_at, kind_of, known_kind, kind_at, bound_at, count_at, row_host_at, cost_at}
use Rattle.packet_frame.specs.Forms.{FrameItem, the_magic, the_version, the_kind, a_host, a_serial, a_bound, a_route, a_carried_chunk, some_rows, rows_behind, a_cost, the_end, either_version, the_form}
use Rattle.packet_frame.specs.Versions.{either_version_at, form_of, known_form, form_at}
use Rattle.packet_frame.specs.Frames.{past, nothing_left, frame_step}
use Rattle.file_laws.specs.Flat.{is_chunk, FlatFault, at_field, behind_field, in_chunk, behind_chunk}
use Rattle.file_laws.specs.FrameRefusals.{HoldsNoMemory}
use Rattle.file_laws.proofs.Parts.{Own, number_own, name_own, part_own}

-- what is read, or refused for a reason of the bytes' own
OwnFrame : {A : Type 0} → Result A FrameFault → Type 0
OwnFrame (Ok a) = Unit {0}
OwnFrame (Err e) = HoldsNoMemory e

fine : (A : Type 0) (a : A) → OwnFrame (Ok a)
unfolding OwnFrame
fine A a = tt

err_own : {A : Type 0} (r : Result A FrameFault) (e : FrameFault) → r ≡ Err e → OwnFrame r → HoldsNoMemory e
unfolding OwnFrame
err_own r e h o = subst OwnFrame h o

then_own : {A B : Type 0} (r : Result A FrameFault) (k : A → Result B FrameFault) → OwnFrame r → ((a : A) → OwnFrame (k a)) → OwnFrame (r >>= k)
unfolding OwnFrame
then_own (Ok a) k h n = n a
then_own (Err e) k h n = h

spelling_own : (e : SpellFault) → e ≢ NoMemory → HoldsNoMemory (of_spelling e)
spelling_own NoMemory h = absurd (h refl)
spelling_own (Truncated at) h = h
spelling_own (BadTag at) h = h
spelling_own (BadName at) h = h
spelling_own (BadUtf8 at) h = h
spelling_own (OverLimit l at) h = h

cut_own : (e : SpellFault) → e ≢ NoMemory → HoldsNoMemory (of_number e)
cut_own NoMemory h = absurd (h refl)
cut_own (Truncated at) h = tt
cut_own (BadTag at) h = h
cut_own (BadName at) h = h
cut_own (BadUtf8 at) h = h
cut_own (OverLimit l at) h = h

told_own : {A : Type 0} (how : SpellFault → FrameFault) → ((e : SpellFault) → e ≢ NoMemory → HoldsNoMemory (how e)) → (r : Result A SpellFault) → Own r → OwnFrame (told_fault how r)
unfolding Own OwnFrame
told_own how h (Ok x) o = tt
told_own how h (Err e) o = h e o

judged_own : {A : Type 0} (b : Bool) (e : FrameFault) (x : A × Scan) → HoldsNoMemory e → OwnFrame (judged_field b e x)
unfolding OwnFrame
judged_own true e x h = tt
judged_own false e x h = h

size_own : (w : Width) (s : Scan) → OwnFrame (number w s)
size_own w s = told_own of_number cut_own (number_field w s) (number_own w s)

magic_own : (s : Scan) → OwnFrame (magic_at s)
unfolding magic_at
magic_own s = then_own _ _ (size_own w32 s) (λ n. judged_own (n.0 == letters) faults.BadMagic n tt)

version_own : (s : Scan) → OwnFrame (version_at s)
unfolding version_at
version_own s = then_own _ _ (size_own w8 s) (λ n. judged_own (n.0 == 1) faults.BadVersion n tt)

known_kind_own : (o : Option Kind) (s : Scan) → OwnFrame (known_kind o s)
unfolding OwnFrame
known_kind_own (Some k) s = tt
known_kind_own None s = tt

kind_own : (s : Scan) → OwnFrame (kind_at s)
unfolding kind_at
kind_own s = then_own _ _ (size_own w8 s) (λ n. known_kind_own (kind_of n.0) n.1)

bound_own : (s : Scan) → OwnFrame (bound_at s)
unfolding bound_at
bound_own s = then_own _ _ (size_own w32 s) (λ n. judged_own (nat_le n.0 65535) faults.BoundTooLarge n tt)

count_own : (s : Scan) → OwnFrame (count_at s)
unfolding count_at
count_own s = then_own _ _ (size_own w16 s) (λ n. judged_own (nat_le n.0 32) (faults.Spell (OverLimit limits.Hosts s.front.at)) n (λ h. cc))

host_own : (before : Option ℕ) (s : Scan) → OwnFrame (row_host_at before s)
unfolding row_host_at
host_own before s = then_own _ _ (size_own w32 s) (λ n. judged_own (is_above before n.0) (faults.BadOrder s.front.at) n tt)

cost_own : (s : Scan) → OwnFrame (cost_at s)
unfolding cost_at
cost_own s = then_own _ _ (size_own w32 s) (λ n. judged_own (nat_le n.0 65535) (faults.Spell (OverLimit limits.Cost s.front.at)) n (λ h. cc))

either_own : (s : Scan) → OwnFrame (either_version_at s)
unfolding either_version_at
either_own s = then_own _ _ (size_own w8 s) (λ n. judged_own (n.0 == 1 || n.0 == 2) faults.BadVersion n tt)

known_form_own : (o : Option Form) (s : Scan) → OwnFrame (known_form o s)
unfolding OwnFrame
known_form_own (Some k) s = tt
known_form_own None s = tt

form_own : (v : ℕ) (s : Scan) → OwnFrame (form_at v s)
unfolding form_at
form_own v s = then_own _ _ (size_own w8 s) (λ n. known_form_own (form_of v n.0) n.1)

past_own : {A : Type 0} (more : List FrameItem) (r : Result (A × Scan) FrameFault) → OwnFrame r → OwnFrame (past more r)
past_own more r h = then_own r _ h (λ x. fine _ _)

left_own : (bytes : List ℕ) (more : List FrameItem) (s : Scan) → OwnFrame (nothing_left bytes more s)
unfolding OwnFrame
left_own [] more s = tt
left_own (b ∷ bs) more s = tt

field_own : (i : FrameItem) (more : List FrameItem) (s : Scan) → is_chunk i ≡ false → OwnFrame (frame_step i more s)
field_own the_magic more s c = past_own more _ (magic_own s)
field_own the_version more s c = past_own more _ (version_own s)
field_own the_kind more s c = then_own _ _ (kind_own s) (λ k. fine _ _)
field_own a_host more s c = past_own more _ (size_own w32 s)
field_own a_serial more s c = past_own more _ (size_own w64 s)
field_own a_bound more s c = past_own more _ (bound_own s)
field_own a_route more s c = past_own more _ (told_own of_spelling spelling_own (name_field s) (name_own s))
field_own a_carried_chunk more s c = absurd (cc)
field_own some_rows more s c = then_own _ _ (count_own s) (λ n. fine _ _)
field_own (rows_behind before zero) more s c = fine _ _
field_own (rows_behind before (suc n)) more s c = then_own _ _ (host_own before s) (λ h. fine _ _)
field_own a_cost more s c = past_own more _ (cost_own s)
field_own the_end more s c = left_own s.front.rest more s
field_own either_version more s c = then_own _ _ (either_own s) (λ v. fine _ _)
field_own (the_form v) more s c = then_own _ _ (form_own v s) (λ k. fine _ _)

pub flat_own : {e : FrameFault} {is : List FrameItem} {f : Front} → FlatFault e is f → HoldsNoMemory e
flat_own {e = e} (at_field {i = i} {more = more} {f = f} c h) = err_own (frame_step i more (from_front f)) e h (field_own i more (from_front f) c)
flat_own (behind_field c h r) = flat_own r
flat_own (in_chunk d h q) = subst HoldsNoMemory (sym q) (spelling_own d (part_own d _ _ h))
flat_own (behind_chunk c s r) = flat_own r
