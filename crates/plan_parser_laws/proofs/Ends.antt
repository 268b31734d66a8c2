-- The reading of a whole text, behind which nothing is left.
use Rattle.std.proofs.Common.{◌≡◌, List, [], Result, Ok, Err, refl}
use Rattle.plan_parser_exprs.specs.declared.fault.ParseFault.{ParseFault}
use Rattle.plan_parser_exprs.specs.Ahead.{Front}

abbrev pub nowhere : Front
nowhere = record { tokens = []; end = 0 }

abbrev pub to_end : {A : Type 0} → Result A ParseFault → Result (A × Front) ParseFault
to_end (Ok x) = Ok (x, nowhere)
to_end (Err e) = Err e

abbrev pub None_left : {I A : Type 0} → A → List I
None_left x = []

pub as_refused : {A : Type 0} (r : Result A ParseFault) (e : ParseFault) → r ≡ Err e → to_end r ≡ Err e
as_refused r e h = rw h refl

pub refused_as : {A : Type 0} (r : Result A ParseFault) (e : ParseFault) → to_end r ≡ Err e → r ≡ Err e
refused_as (Ok x) e h = cc
refused_as (Err d) e h = cc
