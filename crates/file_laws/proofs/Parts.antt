-- No step of the agenda of bytes refuses by running out of memory.
use Rattle.std.proofs.Common.{◌≡◌, ◌≢◌, ℕ, Bool, true, false, ◌||◌, List, Option, Some, None, Result, Ok, Err, nat_lt, subst}
use Rattle.std.specs.Prelude.{nat_le}
use Rattle.std.specs.Int.{Width, w8, w16, w32}
use Rattle.std.specs.Str.{is_utf8}
use Rattle.containers.specs.Reading.{◌>>=◌}
use Rattle.containers.specs.Agenda.{FirstFault, here, later}
use Rattle.plan_base.specs.declared.limit.Limit.{Limit}
use Rattle.plan_base.specs.declared.limit.Limit.TheVariants as limits
use Rattle.plan_base.specs.Words.{is_name}
use Rattle.wire_bytes.specs.Fields.{Front, bytes_at, number_at, int_at}
use Rattle.chunk_codec_spec.specs.declared.fault.SpellFault.{SpellFault}
use Rattle.chunk_codec_spec.specs.declared.fault.SpellFault.TheVariants.{BadTag, BadName, BadUtf8, OverLimit, NoMemory}
use Rattle.chunk_codec_spec.specs.Items.{ChunkItem, a_flag, an_int, a_word, a_char, a_text, a_blob, a_name, an_operator, a_part_number, a_type, an_expr, several_clauses, a_clause, a_parameter}
use Rattle.chunk_codec_spec.specs.Items.{a_service, a_function, a_program, code_end, a_value, a_chunk, weight_end, counted, listed}
use Rattle.chunk_codec_spec.specs.Scan.{Scan, whole, number_field, int_field, bytes_field, allowed_or_fault, tag_of, known_tag, table_field, flag_field, is_scalar, char_field, blob_field, text_field, count_field, name_field, operator_field}
use Rattle.chunk_codec_spec.specs.Types.{type_tag_at}
use Rattle.chunk_codec_spec.specs.Exprs.{expr_tag_at, clause_tag_at}
use Rattle.chunk_codec_spec.specs.Values.{may_open, opening_limit, value_tag_at}
use Rattle.chunk_codec_spec.specs.Steps.{past, step}
use Rattle.chunk_codec_spec.specs.Spelling.{FirstFaultAt}

-- what is read, or refused for a reason of the bytes' own
unfoldable pub Own : {A : Type 0} → Result A SpellFault → Type 0
Own (Ok a) = Unit {0}
Own (Err e) = e ≢ NoMemory

fine : (A : Type 0) (a : A) → Own (Ok a)
unfolding Own
fine A a = tt

pub err_own : {A : Type 0} (r : Result A SpellFault) (e : SpellFault) → r ≡ Err e → Own r → e ≢ NoMemory
unfolding Own
err_own r e h o = subst Own h o

then_own : {A B : Type 0} (r : Result A SpellFault) (k : A → Result B SpellFault) → Own r → ((a : A) → Own (k a)) → Own (r >>= k)
unfolding Own
then_own (Ok a) k h n = n a
then_own (Err e) k h n = h

whole_own : {A : Type 0} (r : Result (A × Front) ℕ) (s : Scan) → Own (whole r s)
unfolding Own
whole_own (Ok x) s = tt
whole_own (Err at) s = λ h. cc

-- a fault other than `NoMemory` is reported where something may not stand there
allowed_own : {A : Type 0} (b : Bool) (e : SpellFault) (x : A × Scan) → e ≢ NoMemory → Own (allowed_or_fault b e x)
unfolding Own
allowed_own true e x h = tt
allowed_own false e x h = h

known_own : {T : Type 0} (o : Option T) (at : ℕ) (s : Scan) → Own (known_tag o at s)
unfolding Own
known_own (Some t) at s = tt
known_own None at s = λ h. cc

pub number_own : (w : Width) (s : Scan) → Own (number_field w s)
unfolding number_field
number_own w s = whole_own (number_at w s.front) s

int_own : (s : Scan) → Own (int_field s)
unfolding int_field
int_own s = whole_own (int_at s.front) s

bytes_own : (n : ℕ) (s : Scan) → Own (bytes_field n s)
unfolding bytes_field
bytes_own n s = whole_own (bytes_at n s.front) s

table_own : {T : Type 0} (base : ℕ) (tags : List T) (s : Scan) → Own (table_field base tags s)
unfolding table_field
table_own base tags s = then_own (number_field w8 s) _ (number_own w8 s) (λ byte. known_own (tag_of base tags byte.0) s.front.at byte.1)

flag_own : (s : Scan) → Own (flag_field s)
unfolding flag_field
flag_own s = table_own 0 _ s

char_own : (s : Scan) → Own (char_field s)
unfolding char_field
char_own s = then_own (number_field w32 s) _ (number_own w32 s) (λ code. allowed_own (is_scalar code.0) (BadUtf8 s.front.at) code (λ h. cc))

blob_own : (s : Scan) → Own (blob_field s)
unfolding blob_field
blob_own s = then_own (number_field w16 s) _ (number_own w16 s) (λ size. bytes_own size.0 size.1)

text_own : (s : Scan) → Own (text_field s)
unfolding text_field
text_own s =
    then_own (number_field w16 s) _ (number_own w16 s)
    (λ size. then_own (bytes_field size.0 size.1) _ (bytes_own size.0 size.1) (λ text. allowed_own (is_utf8 text.0) (BadUtf8 size.1.front.at) text (λ h. cc)))

count_own : (limit : Limit) (least most : ℕ) (s : Scan) → Own (count_field limit least most s)
unfolding count_field
count_own limit least most s =
    then_own (number_field w8 s) _ (number_own w8 s)
    (λ count. then_own (allowed_or_fault (nat_le least count.0) (BadTag s.front.at) count) _ (allowed_own (nat_le least count.0) (BadTag s.front.at) count (λ h. cc))
    (λ enough. allowed_own (nat_le enough.0 most) (OverLimit limit s.front.at) enough (λ h. cc)))

pub name_own : (s : Scan) → Own (name_field s)
unfolding name_field
name_own s =
    then_own (number_field w8 s) _ (number_own w8 s)
    (λ size. then_own (allowed_or_fault (nat_le 1 size.0) (BadName s.front.at) size) _ (allowed_own (nat_le 1 size.0) (BadName s.front.at) size (λ h. cc))
    (λ longer. then_own (allowed_or_fault (nat_le longer.0 32) (BadName s.front.at) longer) _ (allowed_own (nat_le longer.0 32) (BadName s.front.at) longer (λ h. cc))
    (λ fits. then_own (bytes_field fits.0 fits.1) _ (bytes_own fits.0 fits.1) (λ name. allowed_own (is_name name.0) (BadName s.front.at) name (λ h. cc)))))

operator_own : (s : Scan) → Own (operator_field s)
unfolding operator_field
operator_own s = table_own 0 _ s

type_tag_own : (room : ℕ) (s : Scan) → Own (type_tag_at room s)
unfolding type_tag_at
type_tag_own room s = then_own _ _ (table_own 0 _ s) (λ tag. allowed_own (nat_lt 0 room) (OverLimit limits.OfType s.front.at) tag (λ h. cc))

expr_tag_own : (room : ℕ) (s : Scan) → Own (expr_tag_at room s)
unfolding expr_tag_at
expr_tag_own room s =
    then_own _ _ (table_own 32 _ s)
    (λ tag. then_own _ _ (allowed_own (nat_lt s.nodes 4096) (OverLimit limits.Nodes s.front.at) tag (λ h. cc))
    (λ few. then_own _ _ (allowed_own (nat_lt 0 room) (OverLimit limits.Depth s.front.at) few (λ h. cc)) (λ x. fine _ _)))

clause_tag_own : (last : Bool) (s : Scan) → Own (clause_tag_at last s)
unfolding clause_tag_at
clause_tag_own last s = then_own _ _ (table_own 0 _ s) (λ named. allowed_own (named.0 || last) (BadTag s.front.at) named (λ h. cc))

value_tag_own : (nest room : ℕ) (s : Scan) → Own (value_tag_at nest room s)
unfolding value_tag_at
value_tag_own nest room s = then_own _ _ (table_own 16 _ s) (λ tag. allowed_own (may_open nest room tag.0) (OverLimit (opening_limit tag.0) s.front.at) tag (λ h. cc))

past_own : {A : Type 0} (more : List ChunkItem) (r : Result (A × Scan) SpellFault) → Own r → Own (past more r)
past_own more r h = then_own r _ h (λ x. fine _ _)

step_own : (i : ChunkItem) (more : List ChunkItem) (s : Scan) → Own (step i more s)
step_own a_flag more s = past_own more _ (flag_own s)
step_own an_int more s = past_own more _ (int_own s)
step_own a_word more s = past_own more _ (number_own w32 s)
step_own a_char more s = past_own more _ (char_own s)
step_own a_text more s = past_own more _ (text_own s)
step_own a_blob more s = past_own more _ (blob_own s)
step_own a_name more s = past_own more _ (name_own s)
step_own an_operator more s = past_own more _ (operator_own s)
step_own a_part_number more s = past_own more _ (count_own limits.Parts 1 8 s)
step_own (a_type room) more s = then_own _ _ (type_tag_own room s) (λ tag. fine _ _)
step_own (an_expr room) more s = then_own _ _ (expr_tag_own room s) (λ tag. fine _ _)
step_own (several_clauses room) more s = then_own _ _ (count_own limits.Clauses 1 8 s) (λ n. fine _ _)
step_own (a_clause last room) more s = then_own _ _ (clause_tag_own last s) (λ tag. fine _ _)
step_own a_parameter more s = fine _ _
step_own a_service more s = fine _ _
step_own a_function more s = fine _ _
step_own a_program more s = fine _ _
step_own (code_end start nodes) more s = allowed_own _ (OverLimit limits.Code start) _ (λ h. cc)
step_own (a_value nest room) more s = then_own _ _ (value_tag_own nest room s) (λ tag. fine _ _)
step_own (a_chunk nest) more s = fine _ _
step_own (weight_end nest start) more s = allowed_own _ (OverLimit limits.Weight start) _ (λ h. cc)
step_own (counted limit least most i) more s = then_own _ _ (count_own limit least most s) (λ n. fine _ _)
step_own (listed i) more s = then_own _ _ (number_own w16 s) (λ n. fine _ _)

agenda_own : (e : SpellFault) (is : List ChunkItem) (s : Scan) → FirstFault step e is s → e ≢ NoMemory
agenda_own e _ _ (here i more s h) = err_own (step i more s) e h (step_own i more s)
agenda_own e _ _ (later i more s next g h r) = agenda_own e next g r

pub part_own : (e : SpellFault) (i : ChunkItem) (f : Front) → FirstFaultAt e i f → e ≢ NoMemory
part_own e i f h = agenda_own e _ _ h
