use Rattle.std.proofs.Common.{subst}
use Rattle.packet_frame.specs.declared.checked.Frame.{Frame}
use Rattle.packet_frame.specs.Forms.{FrameFits}
use Rattle.packet_frame.specs.Typed.{plain_of}
use Rattle.library_tests.proofs.frames.advert_again.Goals as goal

pub put_advert-requires : goal.put_advert-requires
put_advert-requires c = let P : Frame → Type 0 = λ x. FrameFits (plain_of x) in subst P c.in-Ok-Advert.field-0-is c.in-Ok-Advert.ensures.found.spells.fits
