-- The bytes of a frame on its way are accepted, and another number changes nothing else.
use Rattle.std.proofs.Common.{◌≡◌, ℕ, List, Option, None, Some, refl}
use Rattle.std.specs.Prelude.{Result, Ok, Err, IfOk}
use Rattle.plan_base.specs.declared.memory.NoMemory.{NoMemory}
use Rattle.plan_base.specs.declared.stamp.Version.TheVariants.{One, Two}
use Rattle.plan_base.specs.declared.stamp.Stamp.{Stamp}
use Rattle.packet_frame.specs.declared.frame.PlainFrame.{PlainFrame}
use Rattle.packet_frame.specs.declared.frame.PlainStamped.{PlainStamped}
use Rattle.packet_frame.specs.Frames.{SpellsFrame}
use Rattle.packet_frame.specs.Typed.{CarriesTyped, CarriesHandler}
use Rattle.packet_frame.specs.Stamped.{stamped_bytes, SpellsStamped, AcceptsBy}
use Rattle.packet_frame.specs.Spelled.{MayLeave, stamp_with, version_of}
use Rattle.packet_frame.proofs.Carried.{plain_carries}

-- a frame of version 1
pub one_accepted : (bytes : List ℕ) (x : PlainFrame) → SpellsFrame bytes x → CarriesTyped x → AcceptsBy One bytes (record { stamp = None; frame = x })
unfolding stamped_bytes
one_accepted bytes x h t = record { short = h.short; fits = h.fits; read = (refl, h.plain); is = h.is; typed = t; handler = plain_carries x h.plain }

pub none_accepted : (m : Option Stamp) (x : PlainFrame) (r : Result (List ℕ) NoMemory) → m ≡ None → CarriesTyped x → IfOk r (λ b. SpellsFrame b x)
    → IfOk r (λ b. AcceptsBy (version_of m) b (record { stamp = m; frame = x }))
none_accepted None x (Ok b) e t h = one_accepted b x h t
none_accepted None x (Err f) e t h = h
none_accepted (Some s) x r e t h = cc

-- a frame of version 2
pub two_accepted : (bytes : List ℕ) (x : PlainStamped) → SpellsStamped bytes x → CarriesTyped x.frame → CarriesHandler x.frame → AcceptsBy Two bytes x
two_accepted bytes x h t k = record { short = h.short; fits = h.fits.0; read = h.fits.1; is = h.is; typed = t; handler = k }

-- with another number it may leave as before
pub numbered_leaves : (n : ℕ) (o : Option Stamp) (x : PlainFrame) → MayLeave o x → MayLeave (stamp_with n o) x
numbered_leaves n None x h = h
numbered_leaves n (Some s) (PlainFrame.Packet p) h = tt
numbered_leaves n (Some s) (PlainFrame.Advert a) h = h
numbered_leaves n (Some s) (PlainFrame.Ask bound chunk) h = h
