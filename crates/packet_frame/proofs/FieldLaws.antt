use Rattle.std.proofs.Common.{◌≡◌, ℕ, zero, suc, ◌+◌, ◌^◌, ◌<◌, ◌≤◌, List, [], ◌∷◌, ◌++◌, length, Bool, true, false, Option, Some, None, Result, Ok, Err, refl, sym, ap, subst, arith}
use Rattle.std.specs.Prelude.{nat_le, IsTrue}
use Rattle.std.specs.List.{flat_map}
use Rattle.std.specs.Int.{Width, w16, w32, w64, to_be_bytes}
use Rattle.std.proofs.lemmas.Bool.{leb-true, le-leb}
use mir.Val.{bits}
use Rattle.wire_bytes.specs.Fields.{IsBytes}
use Rattle.containers.specs.Reading.{◌>>=◌}
use Rattle.containers.proofs.Binds.{ok_inj, bind_ok, bind_is}
use Rattle.containers.proofs.Agendas.{Goes, chain, one_step, making_goes_on, idle}
use Rattle.plan_base.specs.declared.limit.Limit.{Limit}
use Rattle.chunk_codec_spec.specs.declared.fault.SpellFault.{SpellFault}
use Rattle.chunk_codec_spec.specs.Scan.{Scan, number_field}
use Rattle.chunk_codec_spec.specs.Parts.{Part}
use Rattle.chunk_codec_spec.specs.Fields.{name_part}
use Rattle.chunk_codec_spec.specs.Spelling.{a_whole_chunk}
use Rattle.chunk_codec_spec.proofs.Took.{Took, Took-bytes, Took-none, Took-then, Took-first, Took-second, Took-as, between, scan_is}
use Rattle.chunk_codec_spec.proofs.FieldLaws.{number_takes, number_again, Wide, wide16, wide32, wide64}
use Rattle.chunk_codec_spec.proofs.PartLaws.{Lawful}
use Rattle.chunk_codec_spec.proofs.LeafLaws.{name_lawful}
use Rattle.chunk_codec_spec.proofs.ValueLaws.{chunk_part_lawful}
use Rattle.packet_frame.specs.declared.fault.FrameFault.{FrameFault}
use Rattle.service_api.specs.declared.advert.AdvertRow.{AdvertRow}
use Rattle.packet_frame.specs.Bytes.{row_bytes}
use Rattle.packet_frame.specs.Faults.{of_spelling, of_number}
use Rattle.packet_frame.specs.Fields.{told_fault, judged_field, number, bound_at, route_at, carried_at, count_at, row_host_at, cost_at, rows_from, rows_at}
use Rattle.packet_frame.specs.Forms.{FrameItem, a_host, a_serial, a_bound, a_route, a_carried_chunk, some_rows, rows_behind, a_cost, Field, Fields, done, ◌&◌, FieldValues, reads, bytes_of_fields}
use Rattle.packet_frame.specs.Forms.{AllFit, items_of_fields, host_field, serial_field, bound_field, route_field, chunk_field, rows_field}
use Rattle.service_api.specs.Adverts.{is_above, RowsFit}
use Rattle.packet_frame.specs.Frames.{frame_step}

-- a field is read exactly where it is spelled, and else refused with the first fault
pub record Kept {A : Type 0} (p : Field A) : Type 0 where
  pub takes : (f g : Scan) (x : A) → IsBytes f.front.rest → f.nodes ≤ 4096 → p.read f ≡ Ok (x, g) → Took f (p.bytes x) 0 g × p.Fits x
  pub again : (f g : Scan) (x : A) → p.Fits x → Took f (p.bytes x) 0 g → g.nodes ≤ 4096 → p.read f ≡ Ok (x, g)
  pub goes : (more : List FrameItem) (f : Scan) → Goes frame_step (p.item ∷ more) f (λ _. more) (p.read f)

abbrev pub AllKept : Fields → Type 0
AllKept done = Unit {0}
AllKept (p & ps) = Kept p × AllKept ps

-- ---- one reading

pub told_ok : {A : Type 0} (how : SpellFault → FrameFault) (r : Result A SpellFault) (x : A) → told_fault how r ≡ Ok x → r ≡ Ok x
told_ok how (Ok y) x h = ap Ok (ok_inj h)
told_ok how (Err e) x h = cc

pub told_is : {A : Type 0} (how : SpellFault → FrameFault) (r : Result A SpellFault) (x : A) → r ≡ Ok x → told_fault how r ≡ Ok x
told_is how r x h = ap (told_fault how) h

pub judged_ok : {A : Type 0} (b : Bool) (e : FrameFault) (x y : A × Scan) → judged_field b e x ≡ Ok y → (b ≡ true) × (x ≡ y)
judged_ok true e x y h = (refl, ok_inj h)
judged_ok false e x y h = cc

pub judged_is : {A : Type 0} (b : Bool) (e : FrameFault) (x : A × Scan) → b ≡ true → judged_field b e x ≡ Ok x
judged_is b e x h = ap (λ c. judged_field c e x) h

number_kept : (w : Width) (law : Wide w) (f g : Scan) (n : ℕ) → IsBytes f.front.rest → number w f ≡ Ok (n, g) → Took f (to_be_bytes w n) 0 g × (n < 2 ^ bits w)
number_kept w law f g n h e = number_takes w law f g n h (told_ok of_number (number_field w f) (n, g) e)

number_back : (w : Width) (law : Wide w) (f g : Scan) (n : ℕ) → n < 2 ^ bits w → Took f (to_be_bytes w n) 0 g → number w f ≡ Ok (n, g)
number_back w law f g n h t = told_is of_number (number_field w f) (n, g) (number_again w law f g n h t)

-- ---- fields of their own

pub host_kept : Kept host_field
host_kept = record {
  takes = λ f g x h k e. number_kept w32 wide32 f g x h e;
  again = λ f g x h t k. number_back w32 wide32 f g x h t;
  goes = λ more f. one_step frame_step a_host more f (λ _. more) (number w32 f) refl;
}

pub serial_kept : Kept serial_field
serial_kept = record {
  takes = λ f g x h k e. number_kept w64 wide64 f g x h e;
  again = λ f g x h t k. number_back w64 wide64 f g x h t;
  goes = λ more f. one_step frame_step a_serial more f (λ _. more) (number w64 f) refl;
}

-- a number of four bytes that is judged
judged_takes : (ok : ℕ → Bool) (bad : FrameFault) (f g : Scan) (n : ℕ) → IsBytes f.front.rest → (number w32 f >>= λ q. judged_field (ok q.0) bad q) ≡ Ok (n, g)
    → Took f (to_be_bytes w32 n) 0 g × (n < 2 ^ 32) × (ok n ≡ true)
judged_takes ok bad f g n h e =
    let b = bind_ok (number w32 f) _ _ e in
    let j = judged_ok _ bad b.first (n, g) b.then_read in
    let t = number_kept w32 wide32 f b.first.1 b.first.0 h b.read in
    let P : ℕ × Scan → Type 0 = λ q. Took f (to_be_bytes w32 q.0) 0 q.1 × (q.0 < 2 ^ 32) × (ok q.0 ≡ true) in
    subst P j.1 (t.0, t.1, j.0)

judged_again : (ok : ℕ → Bool) (bad : FrameFault) (f g : Scan) (n : ℕ) → n < 2 ^ 32 → ok n ≡ true → Took f (to_be_bytes w32 n) 0 g → (number w32 f >>= λ q. judged_field (ok q.0) bad q) ≡ Ok (n, g)
judged_again ok bad f g n h k t = bind_is _ (number_back w32 wide32 f g n h t) (judged_is _ bad (n, g) k)

pub bound_kept : Kept bound_field
unfolding bound_at
bound_kept = record {
  takes = λ f g x h k e. let t = judged_takes (λ n. nat_le n 65535) FrameFault.BoundTooLarge f g x h e in (t.0, leb-true x 65535 t.2);
  again = λ f g x h t k. judged_again (λ n. nat_le n 65535) FrameFault.BoundTooLarge f g x (omega (arith, h)) (le-leb x 65535 h) t;
  goes = λ more f. one_step frame_step a_bound more f (λ _. more) (bound_at f) refl;
}

-- a part of a spelling, with its faults reported as those of the frame
part_takes : {A : Type 0} (p : Part A) → Lawful p → ((x : A) → p.nodes x ≡ 0) → (f g : Scan) (x : A) → IsBytes f.front.rest → f.nodes ≤ 4096 → told_fault of_spelling (p.read f) ≡ Ok (x, g)
    → Took f (p.bytes x) 0 g × p.Fits x
part_takes p l none f g x h k e =
    let t = l.takes f g x h k (told_ok of_spelling (p.read f) (x, g) e) in
    (Took-as refl (none x) t.took, t.fits)

part_again : {A : Type 0} (p : Part A) → Lawful p → ((x : A) → p.nodes x ≡ 0) → (f g : Scan) (x : A) → p.Fits x → Took f (p.bytes x) 0 g → g.nodes ≤ 4096
    → told_fault of_spelling (p.read f) ≡ Ok (x, g)
part_again p l none f g x h t k = told_is of_spelling (p.read f) (x, g) (l.again f g x h (Took-as refl (sym (none x)) t) k)

pub route_kept : Kept route_field
route_kept = record {
  takes = part_takes name_part name_lawful (λ _. refl);
  again = part_again name_part name_lawful (λ _. refl);
  goes = λ more f. one_step frame_step a_route more f (λ _. more) (route_at f) refl;
}

pub chunk_kept : Kept chunk_field
chunk_kept = record {
  takes = part_takes a_whole_chunk (chunk_part_lawful 3) (λ _. refl);
  again = part_again a_whole_chunk (chunk_part_lawful 3) (λ _. refl);
  goes = λ more f. one_step frame_step a_carried_chunk more f (λ _. more) (carried_at f) refl;
}

-- ---- the rows of an advert

row_host_takes : (before : Option ℕ) (f g : Scan) (n : ℕ) → IsBytes f.front.rest → row_host_at before f ≡ Ok (n, g) → Took f (to_be_bytes w32 n) 0 g × (n < 2 ^ 32) × IsTrue (is_above before n)
unfolding row_host_at
row_host_takes before f g n h e = judged_takes (is_above before) (FrameFault.BadOrder f.front.at) f g n h e

row_host_again : (before : Option ℕ) (f g : Scan) (n : ℕ) → n < 2 ^ 32 → IsTrue (is_above before n) → Took f (to_be_bytes w32 n) 0 g → row_host_at before f ≡ Ok (n, g)
unfolding row_host_at
row_host_again before f g n h k t = judged_again (is_above before) (FrameFault.BadOrder f.front.at) f g n h k t

cost_takes : (f g : Scan) (n : ℕ) → IsBytes f.front.rest → cost_at f ≡ Ok (n, g) → Took f (to_be_bytes w32 n) 0 g × (n ≤ 65535)
unfolding cost_at
cost_takes f g n h e =
    let t = judged_takes (λ n. nat_le n 65535) (FrameFault.Spell (SpellFault.OverLimit Limit.Cost f.front.at)) f g n h e in
    (t.0, leb-true n 65535 t.2)

cost_again : (f g : Scan) (n : ℕ) → n ≤ 65535 → Took f (to_be_bytes w32 n) 0 g → cost_at f ≡ Ok (n, g)
unfolding cost_at
cost_again f g n h t = judged_again (λ n. nat_le n 65535) (FrameFault.Spell (SpellFault.OverLimit Limit.Cost f.front.at)) f g n (omega (arith, h)) (le-leb n 65535 h) t

abbrev row_of : ℕ → ℕ → AdvertRow
row_of host cost = record { host = record { 0 = host }; cost = cost }

rows_take : (before : Option ℕ) (n : ℕ) (f g : Scan) (rows : List AdvertRow) → IsBytes f.front.rest → rows_from before n f ≡ Ok (rows, g)
    → Took f (flat_map row_bytes rows) 0 g × RowsFit before rows × (length rows ≡ n)
unfolding rows_from
rows_take before zero f g rows h e =
    let P : List AdvertRow × Scan → Type 0 = λ q. Took f (flat_map row_bytes q.0) 0 q.1 × RowsFit before q.0 × (length q.0 ≡ 0) in
    subst P (ok_inj e) (Took-none f, tt, refl)
rows_take before (suc n) f g rows h e =
    let b = bind_ok (row_host_at before f) _ _ e in
    let c = bind_ok (cost_at b.first.1) _ _ b.then_read in
    let d = bind_ok (rows_from (Some b.first.0) n c.first.1) _ _ c.then_read in
    let host = row_host_takes before f b.first.1 b.first.0 h b.read in
    let behind = Took-bytes host.0 h in
    let cost = cost_takes b.first.1 c.first.1 c.first.0 behind c.read in
    let others = rows_take (Some b.first.0) n c.first.1 d.first.1 d.first.0 (Took-bytes cost.0 behind) d.read in
    let P : List AdvertRow × Scan → Type 0 = λ q. Took f (flat_map row_bytes q.0) 0 q.1 × RowsFit before q.0 × (length q.0 ≡ suc n) in
    subst P (ok_inj d.then_read) (Took-then (Took-then host.0 cost.0) others.0, ((host.2, host.1), cost.1, others.1), ap suc others.2)

rows_again : (before : Option ℕ) (rows : List AdvertRow) (f g : Scan) → RowsFit before rows → Took f (flat_map row_bytes rows) 0 g → rows_from before (length rows) f ≡ Ok (rows, g)
unfolding rows_from
rows_again before [] f g fits t =
    let same : f ≡ g = sym (scan_is g f.front.at f.nodes f.front.rest (omega (arith, t.place)) (sym t.parts) (omega (arith, t.count))) in
    ap (λ s. Ok ([], s)) same
rows_again before (r ∷ rs) f g fits t =
    let host = to_be_bytes w32 r.host.0 in
    let cost = to_be_bytes w32 r.cost in
    let cs = flat_map row_bytes rs in
    let u : Took f ((host ++ cost) ++ cs) (0 + 0) g = t in
    let m = between f (host ++ cost) cs 0 g in
    let one : Took f (host ++ cost) (0 + 0) m = Took-first f g (host ++ cost) cs 0 0 u in
    let p = between f host cost 0 m in
    bind_is _ (row_host_again before f p r.host.0 fits.0.1 fits.0.0 (Took-first f m host cost 0 0 one))
    (bind_is _ (cost_again p m r.cost fits.1 (Took-second f m host cost 0 0 one))
    (bind_is _ (rows_again (Some r.host.0) rs m g fits.2 (Took-second f g (host ++ cost) cs 0 0 u)) refl))

rows_go : (before : Option ℕ) (n : ℕ) (more : List FrameItem) (f : Scan) → Goes frame_step (rows_behind before n ∷ more) f (λ _. more) (rows_from before n f)
unfolding rows_from
rows_go before zero more f = one_step frame_step {A = List AdvertRow} (rows_behind before 0) more f (λ _. more) (Ok ([], f)) refl
rows_go before (suc n) more f =
    chain frame_step (rows_behind before (suc n) ∷ more) f (λ h. a_cost ∷ rows_behind (Some h) n ∷ more) (λ _. more) (row_host_at before f) _
    (one_step frame_step (rows_behind before (suc n)) more f (λ h. a_cost ∷ rows_behind (Some h) n ∷ more) (row_host_at before f) refl)
    (λ x _. chain frame_step (a_cost ∷ rows_behind (Some x.0) n ∷ more) x.1 (λ _. rows_behind (Some x.0) n ∷ more) (λ _. more) (cost_at x.1) _
    (one_step frame_step a_cost (rows_behind (Some x.0) n ∷ more) x.1 (λ _. rows_behind (Some x.0) n ∷ more) (cost_at x.1) refl)
    (λ y _. making_goes_on frame_step (λ rs. row_of x.0 y.0 ∷ rs) (rows_behind (Some x.0) n ∷ more) y.1 more (rows_from (Some x.0) n y.1) (rows_go (Some x.0) n more y.1)))

count_takes : (f g : Scan) (n : ℕ) → IsBytes f.front.rest → count_at f ≡ Ok (n, g) → Took f (to_be_bytes w16 n) 0 g × (n ≤ 32)
unfolding count_at
count_takes f g n h e =
    let bad : FrameFault = FrameFault.Spell (SpellFault.OverLimit Limit.Hosts f.front.at) in
    let b = bind_ok (number w16 f) _ _ e in
    let j = judged_ok _ bad b.first (n, g) b.then_read in
    let t = number_kept w16 wide16 f b.first.1 b.first.0 h b.read in
    let P : ℕ × Scan → Type 0 = λ q. Took f (to_be_bytes w16 q.0) 0 q.1 × (q.0 ≤ 32) in
    subst P j.1 (t.0, leb-true b.first.0 32 j.0)

count_again : (f g : Scan) (n : ℕ) → n ≤ 32 → Took f (to_be_bytes w16 n) 0 g → count_at f ≡ Ok (n, g)
unfolding count_at
count_again f g n h t = bind_is _ (number_back w16 wide16 f g n (omega (arith, h)) t) (judged_is _ (FrameFault.Spell (SpellFault.OverLimit Limit.Hosts f.front.at)) (n, g) (le-leb n 32 h))

pub rows_kept : Kept rows_field
unfolding rows_at
rows_kept = record {
  takes = λ f g x h k e.
      let b = bind_ok (count_at f) _ _ e in
      let c = count_takes f b.first.1 b.first.0 h b.read in
      let r = rows_take None b.first.0 b.first.1 g x (Took-bytes c.0 h) b.then_read in
      let P : ℕ → Type 0 = λ n. n ≤ 32 in
      (Took-as (ap (λ n. to_be_bytes w16 n ++ flat_map row_bytes x) (sym r.2)) refl (Took-then c.0 r.0), (subst P (sym r.2) c.1, r.1));
  again = λ f g x h t k.
      let bs = to_be_bytes w16 (length x) in
      let cs = flat_map row_bytes x in
      let u : Took f (bs ++ cs) (0 + 0) g = t in
      let m = between f bs cs 0 g in
      bind_is _ (count_again f m (length x) h.0 (Took-first f g bs cs 0 0 u)) (rows_again None x m g h.1 (Took-second f g bs cs 0 0 u));
  goes = λ more f.
      chain frame_step (some_rows ∷ more) f (λ n. rows_behind None n ∷ more) (λ _. more) (count_at f) _
      (one_step frame_step some_rows more f (λ n. rows_behind None n ∷ more) (count_at f) refl)
      (λ x _. rows_go None x.0 more x.1);
}

-- ---- fields one after another

pub record AllTook (ps : Fields) (f : Scan) (xs : FieldValues ps) (g : Scan) : Type 0 where
  pub took : Took f (bytes_of_fields ps xs) 0 g
  pub fit : AllFit ps xs

pub record FieldsTook {B : Type 0} (ps : Fields) (build : FieldValues ps → B) (f : Scan) (y : B) (g : Scan) : Type 0 where
  pub held : FieldValues ps
  pub is : y ≡ build held
  pub all : AllTook ps f held g

pub reads_takes : {B : Type 0} (ps : Fields) → AllKept ps → (build : FieldValues ps → B) (f g : Scan) (y : B)
    → IsBytes f.front.rest → f.nodes ≤ 4096 → reads ps build f ≡ Ok (y, g) → FieldsTook ps build f y g
reads_takes done l build f g y h k e =
    let p = ok_inj e in
    let P : Scan → Type 0 = λ s. AllTook done f tt s in
    record { held = tt; is = sym (ap (λ q. q.0) p); all = subst P (ap (λ q. q.1) p) (record { took = Took-none f; fit = tt }) }
reads_takes (p & ps) l build f g y h k e =
    let b = bind_ok (p.read f) _ _ e in
    let x = b.first in
    let t = l.0.takes f x.1 x.0 h k b.read in
    let small : x.1.nodes ≤ 4096 = omega (arith, t.0.count, k) in
    let rest = reads_takes ps l.1 (λ xs. build (x.0, xs)) x.1 g y (Took-bytes t.0 h) small b.then_read in
    record { held = (x.0, rest.held); is = rest.is; all = record { took = Took-then t.0 rest.all.took; fit = (t.1, rest.all.fit) } }

pub reads_again : {B : Type 0} (ps : Fields) → AllKept ps → (build : FieldValues ps → B) (f g : Scan) (xs : FieldValues ps)
    → AllFit ps xs → Took f (bytes_of_fields ps xs) 0 g → g.nodes ≤ 4096 → reads ps build f ≡ Ok (build xs, g)
reads_again done l build f g xs h t k =
    let same : f ≡ g = sym (scan_is g f.front.at f.nodes f.front.rest (omega (arith, t.place)) (sym t.parts) (omega (arith, t.count))) in
    ap (λ s. Ok (build tt, s)) same
reads_again (p & ps) l build f g xs h t k =
    let bs = p.bytes xs.0 in
    let cs = bytes_of_fields ps xs.1 in
    let u : Took f (bs ++ cs) (0 + 0) g = t in
    let m = between f bs cs 0 g in
    let first = Took-first f g bs cs 0 0 u in
    let second = Took-second f g bs cs 0 0 u in
    let small : m.nodes ≤ 4096 = omega (arith, second.count, k) in
    bind_is _ (l.0.again f m xs.0 h.0 first small) (reads_again ps l.1 (λ ys. build (xs.0, ys)) m g xs.1 h.1 second k)

pub reads_go : {B : Type 0} (ps : Fields) → AllKept ps → (build : FieldValues ps → B) (more : List FrameItem) (f : Scan)
    → Goes frame_step (items_of_fields ps more) f (λ _. more) (reads ps build f)
reads_go done l build more f = idle frame_step more f (build tt)
reads_go (p & ps) l build more f =
    chain frame_step (p.item ∷ items_of_fields ps more) f (λ _. items_of_fields ps more) (λ _. more) (p.read f) _ (l.0.goes (items_of_fields ps more) f)
    (λ x _. reads_go ps l.1 (λ xs. build (x.0, xs)) more x.1)
