-- What stands in a line is refused for no `NoMemory`.
use Rattle.std.proofs.Common.{◌≡◌, ℕ, ◌+◌, Bool, true, false, cond, not, List, [], ◌∷◌, ◌++◌, length, Option, Some, None, Result, Ok, Err, refl, ap, subst}
use Rattle.std.specs.Prelude.{nat_le, nat_lt}
use Rattle.plan_types_chunks.specs.Chunks.{refusal_of}
use Rattle.file_laws.specs.Refusals.{ReasonHolds}
use Rattle.hex.specs.Hex.{decode_of}
use Rattle.line_reader.specs.FileNames.{file_name_at}
use Rattle.line_reader.specs.Handlers.{has_handler, named_handler, handler_at}
use Rattle.line_reader.specs.HexWords.{hex_of, within_size, hex_at}
use Rattle.line_reader.specs.HostLists.{is_above, host_more, hosts_from, hosts_with}
use Rattle.line_reader.specs.Injections.{injection_at}
use Rattle.line_reader.specs.Lines.{spaced_words}
use Rattle.line_reader.specs.Numbers.{number_in, number_at}
use Rattle.line_reader.specs.Packages.{package_of, same_package, package_at, one_package, packages_at}
use Rattle.line_reader.specs.Programs.{accepted_program, program_in, named_word, has_name, entry_at, args_at, chunk_with, typed_chunk, call_at, weighed_sum}
use Rattle.line_reader.specs.Reads.{◌>>=◌, word_at, allowed_or_reason, rest_at, end_at}
use Rattle.line_reader.specs.declared.fault.LineReason.{LineReason}
use Rattle.line_reader.specs.declared.fault.LineReason.TheVariants.{BadNumber, BadArgument, BadWord, TwiceNamed, TooMany, ProgramRefused}
use Rattle.plan_base.specs.declared.stamp.Version.{Version}
use Rattle.network_config.specs.FileNames.{is_file_name}
use Rattle.network_config.specs.Hosts.{host_of, is_listed}
use Rattle.plan_base.specs.Sizes.{chunk_weight}
use Rattle.plan_base.specs.Words.{is_name}
use Rattle.plan_base.specs.declared.ids.Host.{Host}
use Rattle.plan_base.specs.declared.tree.Chunk.{Chunk}
use Rattle.plan_base.specs.declared.tree.Fun.{Fun}
use Rattle.plan_base.specs.declared.tree.Program.{Program}
use Rattle.file_laws.proofs.ProgramTexts.{text_own}
use Rattle.program_text.specs.Texts.{program_of, args_of_text}
use Rattle.program_text.specs.declared.fault.TextFault.{TextFault}
use Rattle.service_api.specs.declared.package.PackageName.{PackageName}
use Rattle.std.specs.List.{list_any, find}
use Rattle.std.specs.Option.{ok_or}
use Rattle.std.specs.Prelude.{is_some}
use Rattle.std.specs.Str.{bytes_eq}
use Rattle.plan_types_spec.specs.Handlers.{is_handler}
use lib.Chars.{codes}

-- what holds of a reason
abbrev pub Holds : {A : Type 0} → Result A LineReason → Type 0
Holds r = (e : LineReason) → r ≡ Err e → ReasonHolds e

abbrev line_refusal : {A : Type 0} → LineReason → Result A LineReason
line_refusal e = Err e

reason_is : {A : Type 0} (d e : LineReason) → line_refusal {A = A} d ≡ line_refusal e → d ≡ e
reason_is d e h = cc

pub then_holds : {A B : Type 0} (r : Result A LineReason) (f : A → Result B LineReason) → Holds r → ((x : A) → Holds (f x)) → Holds (r >>= f)
then_holds (Ok x) f h k e q = k x e q
then_holds {A} {B} (Err d) f h k e q = h e (ap line_refusal (reason_is {A = B} d e q))

pub done_holds : {A : Type 0} (x : A) → Holds (Ok x)
done_holds x e q = absurd cc

pub none_holds : {A : Type 0} (r : LineReason) → ReasonHolds r → Holds {A = A} (Err r)
none_holds {A} r h e q = subst ReasonHolds (reason_is {A = A} r e q) h

pub either_holds : {A : Type 0} (t : Bool) (a b : Result A LineReason) → Holds a → Holds b → Holds (cond t a b)
either_holds true a b h k = h
either_holds false a b h k = k

pub allowed_holds : (b : Bool) (r : LineReason) → ReasonHolds r → Holds (allowed_or_reason b r)
allowed_holds true r h = done_holds tt
allowed_holds false r h = none_holds r h

pub ok_or_holds : {A : Type 0} (o : Option A) (r : LineReason) → ReasonHolds r → Holds (ok_or o r)
ok_or_holds (Some x) r h = done_holds x
ok_or_holds None r h = none_holds r h

-- ---- parts of lines

pub word_at_holds : (ws : List (List ℕ)) → Holds (word_at ws)
word_at_holds [] = none_holds BadWord tt
word_at_holds (w ∷ ws) = done_holds (w, ws)

pub end_at_holds : (ws : List (List ℕ)) → Holds (end_at ws)
end_at_holds [] = done_holds tt
end_at_holds (w ∷ ws) = none_holds BadWord tt

pub rest_at_holds : (ws : List (List ℕ)) → Holds (rest_at ws)
rest_at_holds [] = none_holds BadWord tt
rest_at_holds (w ∷ ws) = done_holds (spaced_words (w ∷ ws))

pub named_word_holds : (w : List ℕ) (r : LineReason) → ReasonHolds r → Holds (named_word w r)
named_word_holds w r h = either_holds (is_name w) (Ok w) (Err r) (done_holds w) (none_holds r h)

-- a program is refused for the first thing that is wrong with its text
accepted_by : (text : List ℕ) (r : Result Program TextFault) → program_of text ≡ r → Holds (accepted_program r)
accepted_by text (Ok program) e = done_holds program
accepted_by text (Err why) e = none_holds (ProgramRefused why) (text_own text why e)

pub number_at_holds : (low : ℕ) (high : ℕ) (ws : List (List ℕ)) → Holds (number_at low high ws)
unfolding number_at
number_at_holds low high ws =
    then_holds (word_at ws) _ (word_at_holds ws) (λ w.
    then_holds (ok_or (number_in low high w.0) BadNumber) _ (ok_or_holds (number_in low high w.0) BadNumber tt) (λ n.
    done_holds (n, w.1)))

pub hex_at_holds : (low : ℕ) (high : ℕ) (ws : List (List ℕ)) → Holds (hex_at low high ws)
unfolding hex_at
hex_at_holds low high ws =
    then_holds (word_at ws) _ (word_at_holds ws) (λ w.
    then_holds (ok_or (within_size low high (hex_of (decode_of w.0))) BadArgument) _ (ok_or_holds (within_size low high (hex_of (decode_of w.0))) BadArgument tt) (λ bytes.
    done_holds (bytes, w.1)))

pub package_at_holds : (seen : List PackageName) (ws : List (List ℕ)) → Holds (package_at seen ws)
unfolding package_at
package_at_holds seen ws =
    then_holds (word_at ws) _ (word_at_holds ws) (λ p.
    then_holds (ok_or (package_of p.0) BadWord) _ (ok_or_holds (package_of p.0) BadWord tt) (λ k.
    then_holds (allowed_or_reason (not (list_any (same_package k) seen)) TwiceNamed) _ (allowed_holds (not (list_any (same_package k) seen)) TwiceNamed tt) (λ u2.
    done_holds (seen ++ k ∷ [], p.1))))

pub one_package_holds : (seen : List PackageName) (ws : List (List ℕ)) → Holds (one_package seen ws)
unfolding one_package
one_package_holds seen ws =
    then_holds (word_at ws) _ (word_at_holds ws) (λ w.
    then_holds (allowed_or_reason (bytes_eq w.0 (codes "without")) BadWord) _ (allowed_holds (bytes_eq w.0 (codes "without")) BadWord tt) (λ u1.
    package_at_holds seen w.1))

pub packages_at_holds : (seen : List PackageName) (ws : List (List ℕ)) → Holds (packages_at seen ws)
unfolding packages_at
packages_at_holds seen [] = done_holds seen
packages_at_holds seen (w ∷ []) = none_holds BadWord tt
packages_at_holds seen (w ∷ p ∷ ws) =
    then_holds (one_package seen (w ∷ p ∷ ws)) _ (one_package_holds seen (w ∷ p ∷ ws)) (λ next.
    packages_at_holds next.0 ws)

pub host_more_holds : (seen : List Host) (ws : List (List ℕ)) → Holds (host_more seen ws)
unfolding host_more
host_more_holds seen ws =
    then_holds (number_at 0 4294967295 ws) _ (number_at_holds 0 4294967295 ws) (λ n.
    then_holds (allowed_or_reason (nat_lt (length seen) 32) TooMany) _ (allowed_holds (nat_lt (length seen) 32) TooMany tt) (λ u1.
    then_holds (allowed_or_reason (is_above seen n.0) BadArgument) _ (allowed_holds (is_above seen n.0) BadArgument tt) (λ u2.
    done_holds (seen ++ host_of n.0 ∷ [], n.1))))

pub hosts_from_holds : (seen : List Host) (ws : List (List ℕ)) → Holds (hosts_from seen ws)
unfolding hosts_from
hosts_from_holds seen [] = done_holds seen
hosts_from_holds seen (w ∷ ws) =
    then_holds (host_more seen (w ∷ ws)) _ (host_more_holds seen (w ∷ ws)) (λ next.
    hosts_from_holds next.0 ws)

pub hosts_with_holds : (here : Host) (ws : List (List ℕ)) → Holds (hosts_with here ws)
unfolding hosts_with
hosts_with_holds here ws =
    then_holds (hosts_from [] ws) _ (hosts_from_holds [] ws) (λ hosts.
    then_holds (allowed_or_reason (is_listed here hosts) BadArgument) _ (allowed_holds (is_listed here hosts) BadArgument tt) (λ u1.
    done_holds hosts))

pub file_name_at_holds : (ws : List (List ℕ)) → Holds (file_name_at ws)
unfolding file_name_at
file_name_at_holds ws =
    then_holds (word_at ws) _ (word_at_holds ws) (λ w.
    then_holds (allowed_or_reason (is_file_name w.0) BadWord) _ (allowed_holds (is_file_name w.0) BadWord tt) (λ u1.
    done_holds w))

pub program_in_holds : (text : List ℕ) → Holds (program_in text)
unfolding program_in
program_in_holds text =
    then_holds (allowed_or_reason (nat_le (length text) 65536) TooMany) _ (allowed_holds (nat_le (length text) 65536) TooMany tt) (λ u0.
    accepted_by text (program_of text) refl)

pub entry_at_holds : (funs : List Fun) (ws : List (List ℕ)) → Holds (entry_at funs ws)
unfolding entry_at
entry_at_holds funs ws =
    then_holds (word_at ws) _ (word_at_holds ws) (λ w.
    then_holds (ok_or (find (has_name w.0) funs) BadArgument) _ (ok_or_holds (find (has_name w.0) funs) BadArgument tt) (λ f.
    done_holds (f, w.1)))

pub args_at_holds : (ws : List (List ℕ)) → Holds (args_at ws)
unfolding args_at
args_at_holds ws =
    then_holds (rest_at ws) _ (rest_at_holds ws) (λ text.
    then_holds (allowed_or_reason (nat_le (length text) 65536) BadArgument) _ (allowed_holds (nat_le (length text) 65536) BadArgument tt) (λ u1.
    ok_or_holds (args_of_text text) BadArgument tt))

pub typed_chunk_holds : (chunk : Chunk) → Holds (typed_chunk chunk)
unfolding typed_chunk
typed_chunk_holds chunk =
    then_holds (allowed_or_reason (not (is_some (refusal_of chunk))) BadArgument) _ (allowed_holds (not (is_some (refusal_of chunk))) BadArgument tt) (λ u0.
    done_holds chunk)

pub call_at_holds : (program : Program) (ws : List (List ℕ)) → Holds (call_at program ws)
unfolding call_at
call_at_holds program ws =
    then_holds (entry_at program.funs ws) _ (entry_at_holds program.funs ws) (λ f.
    then_holds (args_at f.1) _ (args_at_holds f.1) (λ args.
    typed_chunk_holds (chunk_with program f.0.name args)))

pub weighed_holds : (sum : ℕ) (chunk : Chunk) → Holds (weighed_sum sum chunk)
unfolding weighed_sum
weighed_holds sum chunk =
    then_holds (allowed_or_reason (nat_le (sum + (1 + chunk_weight chunk)) 16777216) TooMany) _ (allowed_holds (nat_le (sum + (1 + chunk_weight chunk)) 16777216) TooMany tt) (λ u0.
    done_holds (sum + (1 + chunk_weight chunk)))

pub named_handler_holds : (program : Program) (ws : List (List ℕ)) → Holds (named_handler program ws)
unfolding named_handler
named_handler_holds program ws =
    then_holds (word_at ws) _ (word_at_holds ws) (λ first.
    then_holds (word_at first.1) _ (word_at_holds first.1) (λ w.
    then_holds (named_word w.0 BadArgument) _ (named_word_holds w.0 BadArgument tt) (λ name.
    then_holds (allowed_or_reason (is_handler program name) BadArgument) _ (allowed_holds (is_handler program name) BadArgument tt) (λ u3.
    done_holds (Some name, w.1)))))

pub handler_at_holds : (version : Version) (program : Program) (ws : List (List ℕ)) → Holds (handler_at version program ws)
unfolding handler_at
handler_at_holds version program ws = either_holds (has_handler version ws) (named_handler program ws) (Ok (None, ws)) (named_handler_holds program ws) (done_holds (None, ws))

pub injection_at_holds : (version : Version) (program : Program) (ws : List (List ℕ)) → Holds (injection_at version program ws)
unfolding injection_at
injection_at_holds version program ws =
    then_holds (entry_at program.funs ws) _ (entry_at_holds program.funs ws) (λ f.
    then_holds (number_at 0 65535 f.1) _ (number_at_holds 0 65535 f.1) (λ bound.
    then_holds (handler_at version program bound.1) _ (handler_at_holds version program bound.1) (λ handler.
    then_holds (args_at handler.1) _ (args_at_holds handler.1) (λ args.
    then_holds (typed_chunk (chunk_with program f.0.name args)) _ (typed_chunk_holds (chunk_with program f.0.name args)) (λ chunk.
    done_holds (chunk, bound.0, handler.0))))))
