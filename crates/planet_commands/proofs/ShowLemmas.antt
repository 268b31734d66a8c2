-- A text without the line feed that it may have at its end, and how long it is; a frame that is refused.
use Rattle.std.proofs.Common.{◌≡◌, ◌≤◌, ◌⊎◌, inl, inr, Ok, subst, ℕ, ◌+◌, ◌-◌, ◌==◌, Bool, true, false, List, [], ◌∷◌, length, take, get_or, refl, sym, ◌∙◌, ap, arith}
use Rattle.std.specs.Prelude.{nat_lt, if◌then◌else◌}
use Rattle.std.proofs.lemmas.Bool.{eq-eqb, ne_eqb, le-ltb}
use Rattle.std.proofs.lemmas.List.{length-take}
use Rattle.hex.specs.Hex.{decode_of, IsBytes}
use Rattle.hex.proofs.HexLemmas.{decode_of-ok}
use Rattle.packet_frame.specs.declared.fault.FrameFault.{FrameFault}
use Rattle.plan_base.specs.declared.stamp.Version.TheVariants.{One, Two}
use Rattle.packet_frame.specs.Typed.{FrameFirst}
use Rattle.packet_frame.specs.Stamped.{StampedFirst}
use Rattle.packet_frame.specs.Decoding.{unstamped_frame, read_by}
use Rattle.packet_frame.proofs.OneAnswer.{first_is}
use Rattle.packet_frame.proofs.Versions.{refused_by_two}
use Rattle.file_laws.specs.FrameRefusals.{HoldsNoMemory}
use Rattle.file_laws.proofs.WholeFrames.{frame_own, stamped_own}
use Rattle.planet_commands.specs.Causes.{frame_cause}
use Rattle.planet_commands.specs.declared.status.Cause.{Cause}
use Rattle.planet_commands.specs.declared.status.Cause.TheVariants.{Refused}
use Rattle.planet_commands.specs.declared.status.Refusal.TheVariants.{Frame}
use Rattle.planet_commands.specs.Said.{Said, outside}
use Rattle.planet_commands.specs.Takes.{Refuses}
use Rattle.planet_commands.specs.Shows.{without_feed, framed_said}

pub no_text : (text : List ℕ) → length text ≡ 0 → text ≡ without_feed text
no_text [] h = refl
no_text (b ∷ bs) h = absurd (omega (arith, h))

-- the text by its last byte
by_last : (text : List ℕ) (last : ℕ) → last + 1 ≡ length text → without_feed text ≡ (if get_or text last 0 == 10 then take last text else text)
by_last text last e = let i : length text - 1 ≡ last = omega (arith, e) in ap (λ k. if get_or text k 0 == 10 then take k text else text) i

pub feed_off : (text : List ℕ) (last : ℕ) → last + 1 ≡ length text → get_or text last 0 ≡ 10 → take last text ≡ without_feed text
feed_off text last e h = sym (by_last text last e ∙ ap (λ b. if b then take last text else text) (eq-eqb (get_or text last 0) 10 h))

pub no_feed : (text : List ℕ) (last : ℕ) → last + 1 ≡ length text → (get_or text last 0 ≡ 10 → ⊥) → text ≡ without_feed text
no_feed text last e h = sym (by_last text last e ∙ ap (λ b. if b then take last text else text) (ne_eqb (get_or text last 0) 10 h))

-- ---- a text in hex that stands for few bytes is short

one_less : (text : List ℕ) (b : Bool) → length text ≤ length (if b then take (length text - 1) text else text) + 1
one_less text true = let e = length-take (length text - 1) text in omega (arith, e)
one_less text false = omega arith

pub short_hex : (text bytes : List ℕ) → decode_of (without_feed text) ≡ Ok bytes → length bytes ≤ 16512 → nat_lt 33025 (length text) ≡ false
short_hex text bytes h short =
    let even = (decode_of-ok (without_feed text) bytes h).2 in
    let more = one_less text (get_or text (length text - 1) 0 == 10) in
    le-ltb 33025 (length text) (omega (arith, even, more))

pub decoded_bytes : (text bytes : List ℕ) → decode_of text ≡ Ok bytes → IsBytes bytes
decoded_bytes text bytes h = (decode_of-ok text bytes h).3

-- ---- a frame that is refused

-- the cause of a refusal that holds no `NoMemory` is the refusal
frame_told : (fault : FrameFault) → HoldsNoMemory fault → frame_cause fault ≡ Refused (Frame fault)
frame_told FrameFault.TooLong own = refl
frame_told (FrameFault.Truncated at) own = refl
frame_told FrameFault.BadMagic own = refl
frame_told FrameFault.BadVersion own = refl
frame_told FrameFault.BadKind own = refl
frame_told (FrameFault.Spell f) own = refl
frame_told FrameFault.BoundTooLarge own = refl
frame_told (FrameFault.BadOrder at) own = refl
frame_told (FrameFault.Trailing at) own = refl
frame_told (FrameFault.IllTyped f) own = refl
frame_told FrameFault.IllHandler own = refl
frame_told FrameFault.NoMemory own = absurd own

-- what a reading of a version gave, of which no first refusal is or holds `NoMemory`
frame_refuses : (said : Said (List ℕ)) (e : FrameFault) (cause : Cause) → HoldsNoMemory e → said ≡ outside (Frame e) → cause ≡ frame_cause e → Refuses said cause
frame_refuses said e cause own first is = subst (Refuses said) (sym (is ∙ frame_told e own)) (own, first)

poor : (said : Said (List ℕ)) (e : FrameFault) (cause : Cause) → e ≡ FrameFault.NoMemory → cause ≡ frame_cause e → Refuses said cause
poor said e cause none is = subst (Refuses said) (sym (is ∙ ap frame_cause none)) tt

pub first_refused : (bytes : List ℕ) (e : FrameFault) (cause : Cause) → IsBytes bytes → (e ≡ FrameFault.NoMemory) ⊎ FrameFirst e bytes → cause ≡ frame_cause e → Refuses (framed_said (read_by One bytes)) cause
first_refused bytes e cause h (inl none) is = poor (framed_said (read_by One bytes)) e cause none is
first_refused bytes e cause h (inr first) is =
    frame_refuses (framed_said (read_by One bytes)) e cause (frame_own bytes h e first) (ap framed_said (ap unstamped_frame (first_is bytes e h first))) is

pub second_refused : (bytes : List ℕ) (e : FrameFault) (cause : Cause) → IsBytes bytes → (e ≡ FrameFault.NoMemory) ⊎ StampedFirst e bytes → cause ≡ frame_cause e → Refuses (framed_said (read_by Two bytes)) cause
second_refused bytes e cause h (inl none) is = poor (framed_said (read_by Two bytes)) e cause none is
second_refused bytes e cause h (inr first) is =
    frame_refuses (framed_said (read_by Two bytes)) e cause (stamped_own bytes e h first) (ap framed_said (refused_by_two bytes e h first)) is
