-- What a node that reads a frame answers.
use Rattle.std.proofs.Common.{◌≡◌, ℕ, List, Option, ap, inl, inr}
use Rattle.std.specs.Prelude.{◌⊎◌, Result, Ok, Err, IfOk, IfErr, None}
use Rattle.plan_base.specs.declared.tree.Packet.{Packet}
use Rattle.wire_bytes.specs.Fields.{IsBytes}
use Rattle.plan_base.specs.declared.stamp.Stamp.{Stamp}
use Rattle.plan_base.specs.declared.stamp.Version.{Version}
use Rattle.plan_base.specs.declared.stamp.Version.TheVariants.{One, Two}
use Rattle.packet_frame.specs.declared.checked.Stamped.{Stamped}
use Rattle.packet_frame.specs.declared.frame.PlainFrame.{PlainFrame}
use Rattle.packet_frame.specs.declared.frame.PlainStamped.{PlainStamped}
use Rattle.packet_frame.specs.declared.fault.FrameFault.{FrameFault}
use Rattle.packet_frame.specs.Forms.{FrameFits}
use Rattle.packet_frame.specs.Typed.{plain_of, Accepts, FrameFirst}
use Rattle.packet_frame.specs.Stamped.{AcceptsBy, StampedFirst, stamped_plain}
use Rattle.packet_frame.specs.Decoding.{unstamped_frame, read_by}
use Rattle.packet_frame.proofs.OneAnswer.{first_is}
use Rattle.packet_frame.proofs.Versions.{accepted_by, refused_by_two}
use Rattle.packet_frame.proofs.Reading.{one_accepted}
use Rattle.service_api.specs.declared.advert.Advert.{Advert}
use Rattle.plan_base.specs.declared.memory.NoMemory.{NoMemory}
use Rattle.node_core_spec.specs.Node.{mark_of}
use Rattle.node_core_parts.specs.Carried.{MayBear, MayGoOn, asks_within}
use Rattle.node_core_parts.specs.Reading.{ComesTo}

-- what is read in a version is what the definition reads
read_found : (v : Version) (bytes : List ℕ) (r : Result Stamped FrameFault) → IfOk r (λ x. AcceptsBy v bytes (stamped_plain x)) → IfOk r (λ x. read_by v bytes ≡ Ok (stamped_plain x))
read_found v bytes (Ok x) h = accepted_by v bytes (stamped_plain x) h
read_found v bytes (Err e) h = h

-- a frame of version 1 is read without a stamp
pub first_accepted : (bytes : List ℕ) (x : PlainFrame) → Accepts bytes x → AcceptsBy One bytes (record { stamp = None; frame = x })
first_accepted bytes x h = one_accepted bytes x h.spells h.typed

pub first_refused : (bytes : List ℕ) (e : FrameFault) → IsBytes bytes → (e ≡ FrameFault.NoMemory) ⊎ FrameFirst e bytes → (e ≡ FrameFault.NoMemory) ⊎ (read_by One bytes ≡ Err e)
first_refused bytes e b (inl h) = inl h
first_refused bytes e b (inr h) = inr (ap unstamped_frame (first_is bytes e b h))

second_so : (bytes : List ℕ) (e : FrameFault) → IsBytes bytes → (e ≡ FrameFault.NoMemory) ⊎ StampedFirst e bytes → (e ≡ FrameFault.NoMemory) ⊎ (read_by Two bytes ≡ Err e)
second_so bytes e b (inl h) = inl h
second_so bytes e b (inr h) = inr (refused_by_two bytes e b h)

pub second_refused : (bytes : List ℕ) (r : Result Stamped FrameFault) → IsBytes bytes → IfErr r (λ e. (e ≡ FrameFault.NoMemory) ⊎ StampedFirst e bytes) → IfErr r (λ e. (e ≡ FrameFault.NoMemory) ⊎ (read_by Two bytes ≡ Err e))
second_refused bytes (Ok x) b h = h
second_refused bytes (Err e) b h = second_so bytes e b h

asked_so : (x : PlainFrame) → FrameFits x → asks_within x
asked_so (PlainFrame.Packet p) h = tt
asked_so (PlainFrame.Advert a) h = tt
asked_so (PlainFrame.Ask bound chunk) h = h.0

read_within : (v : Version) (bytes : List ℕ) (r : Result Stamped FrameFault) → IfOk r (λ x. AcceptsBy v bytes (stamped_plain x)) → IfOk r (λ x. asks_within (plain_of x.frame))
read_within v bytes (Ok x) h = asked_so (plain_of x.frame) h.fits
read_within v bytes (Err e) h = h

-- a frame that is accepted may go on from such a node
pub goes_on : (v : Version) (boot : ℕ) (bytes : List ℕ) (o : Option Stamp) (x : PlainFrame) → AcceptsBy v bytes (record { stamp = o; frame = x }) → MayGoOn (mark_of v boot) x
goes_on One boot bytes o (PlainFrame.Packet p) h = h.read.1
goes_on Two boot bytes o (PlainFrame.Packet p) h = tt
goes_on v boot bytes o (PlainFrame.Advert a) h = tt
goes_on v boot bytes o (PlainFrame.Ask bound chunk) h = tt

-- a packet that was read may go on
read_carried : (v : Version) (bytes : List ℕ) (r : Result Stamped FrameFault) → IfOk r (λ x. AcceptsBy v bytes (stamped_plain x)) → (boot : ℕ) → IfOk r (λ x. MayGoOn (mark_of v boot) (plain_of x.frame))
read_carried v bytes (Ok x) h boot = goes_on v boot bytes x.stamp (plain_of x.frame) h
read_carried v bytes (Err e) h boot = h

-- a frame that is accepted bears what it may
pub is_borne : (v : Version) (bytes : List ℕ) (x : PlainStamped) → AcceptsBy v bytes x → MayBear v x.stamp
is_borne One bytes x h = h.read.0
is_borne Two bytes x h = tt

read_borne : (v : Version) (bytes : List ℕ) (r : Result Stamped FrameFault) → IfOk r (λ x. AcceptsBy v bytes (stamped_plain x)) → IfOk r (λ x. MayBear v x.stamp)
read_borne v bytes (Ok x) h = is_borne v bytes (stamped_plain x) h
read_borne v bytes (Err e) h = h

-- a frame that was read in a version, or refused in it
pub comes_so : (v : Version) (bytes : List ℕ) (r : Result Stamped FrameFault) → IfOk r (λ x. AcceptsBy v bytes (stamped_plain x))
    → IfErr r (λ e. (e ≡ FrameFault.NoMemory) ⊎ (read_by v bytes ≡ Err e)) → ComesTo v bytes r
comes_so v bytes r h e = record {
  found = read_found v bytes r h;
  fault = e;
  within = read_within v bytes r h;
  carried = read_carried v bytes r h;
  borne = read_borne v bytes r h;
}
