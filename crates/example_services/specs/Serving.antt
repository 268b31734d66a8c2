-- What a call of a service means.
use Rattle.std.specs.Prelude.{ℕ, ℤ, List, [], ◌∷◌, codes, Option, Some, None}
use Rattle.plan_base.specs.declared.tree.Value.{Value}
use Rattle.plan_base.specs.declared.tree.Value.TheVariants as value
use Rattle.service_api.specs.Rows.{key_after}
use Rattle.service_api.specs.declared.answer.Note.TheVariants.{Print}
use Rattle.service_api.specs.declared.answer.Answer.TheVariants.{Gives}
use Rattle.service_api.specs.Services.{Rows, Served, Serve, Offer, refused_call}
use Rattle.example_services.specs.declared.service.ExampleService.{ExampleService}
use Rattle.example_services.specs.declared.service.ExampleService.TheVariants.{Count, Greet}
use Rattle.example_services.specs.Offered.{called_service, scheme_of}

-- the number of the count after this one; the last one stays
abbrev pub after : ℤ → ℤ
after number = key_after number

-- a count gives the number, and counts on
abbrev pub counted_answer : List Value → Rows → Served
counted_answer [] rows = record { answer = Gives (value.Int rows.«next») None; rows = record rows { «next» = after rows.«next» } }
counted_answer (_ ∷ _) rows = refused_call rows

abbrev pub hello : List ℕ
hello = codes "hello"

-- a greeting gives its text, and notes whom it greets
abbrev pub greeted_answer : List Value → Rows → Served
greeted_answer (whom ∷ []) rows = record { answer = Gives (value.Str hello) (Some (Print whom)); rows = rows }
greeted_answer _ rows = refused_call rows

abbrev pub serve_as : ExampleService → List Value → Rows → Served
serve_as Count args rows = counted_answer args rows
serve_as Greet args rows = greeted_answer args rows

abbrev pub serve_called : Option ExampleService → List Value → Rows → Served
serve_called (Some s) args rows = serve_as s args rows
serve_called None args rows = refused_call rows

-- what a call means, whatever its context
abbrev pub serve : Serve
serve svc args ctx rows = serve_called (called_service svc) args rows

abbrev pub offer : Offer
offer = record { scheme = scheme_of; serve = serve }
