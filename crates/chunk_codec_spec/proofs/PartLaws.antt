use Rattle.std.proofs.Common.{◌≡◌, ℕ, zero, suc, ◌+◌, ◌^◌, ◌<◌, ◌≤◌, List, [], ◌∷◌, ◌++◌, length, Option, Some, None, Result, Ok, sum_by, refl, sym, ◌∙◌, ap, subst, arith}
use Rattle.std.specs.Prelude.{nat_le}
use Rattle.std.specs.List.{flat_map}
use Rattle.std.specs.Int.{w8, w16, to_be_bytes}
use Rattle.std.proofs.lemmas.Bool.{leb-true, le-leb}
use Rattle.std.proofs.lemmas.List.Sums.{sum_by-cons}
use Rattle.wire_bytes.specs.Fields.{IsBytes}
use Rattle.containers.specs.Reading.{◌>>=◌, many}
use Rattle.containers.specs.Agenda.{times}
use Rattle.containers.proofs.Binds.{ok_inj, bind_ok, bind_is}
use Rattle.containers.proofs.Agendas.{Goes, chain, one_step, many_goes, idle}
use Rattle.plan_base.specs.declared.limit.Limit.{Limit}
use Rattle.chunk_codec_spec.specs.declared.fault.SpellFault.{SpellFault}
use Rattle.chunk_codec_spec.specs.declared.fault.SpellFault.TheVariants.{BadTag}
use Rattle.chunk_codec_spec.specs.Items.{ChunkItem, counted, listed}
use Rattle.chunk_codec_spec.specs.Scan.{Scan, Reader, number_field, count_field, allowed_or_fault}
use Rattle.chunk_codec_spec.specs.Parts.{Part, Parts, done, ◌&◌, PartValues, reads, bytes_of_parts, AllFit, nodes_of_parts, items_of_parts, EachFits, counted_at, several, listed_at, list_of, FormFits, tagged_at, tagged_part, untagged_part}
use Rattle.chunk_codec_spec.specs.Steps.{step}
use Rattle.chunk_codec_spec.proofs.Took.{Took, Took-bytes, Took-none, Took-then, Took-first, Took-second, Took-as, between, scan_is}
use Rattle.chunk_codec_spec.proofs.FieldLaws.{byte_takes, byte_again, number_takes, number_again, wide16, allowed_ok, allowed_is}

-- what a reading of a part took
pub record Taken {A : Type 0} (p : Part A) (f : Scan) (x : A) (g : Scan) : Type 0 where
  pub took : Took f (p.bytes x) (p.nodes x) g
  pub fits : p.Fits x
  pub within : g.nodes ≤ 4096

-- a part is read exactly where it is spelled, and else refused with the first fault of its item
pub record Lawful {A : Type 0} (p : Part A) : Type 0 where
  pub takes : (f g : Scan) (x : A) → IsBytes f.front.rest → f.nodes ≤ 4096 → p.read f ≡ Ok (x, g) → Taken p f x g
  pub again : (f g : Scan) (x : A) → p.Fits x → Took f (p.bytes x) (p.nodes x) g → g.nodes ≤ 4096 → p.read f ≡ Ok (x, g)
  pub goes : (more : List ChunkItem) (f : Scan) → Goes step (p.item ∷ more) f (λ _. more) (p.read f)

abbrev pub AllLawful : Parts → Type 0
AllLawful done = Unit {0}
AllLawful (p & ps) = Lawful p × AllLawful ps

-- what a reading of parts took
pub record AllTaken (ps : Parts) (f : Scan) (xs : PartValues ps) (g : Scan) : Type 0 where
  pub took : Took f (bytes_of_parts ps xs) (nodes_of_parts ps xs) g
  pub fit : AllFit ps xs
  pub within : g.nodes ≤ 4096

pub record PartsTaken {B : Type 0} (ps : Parts) (build : PartValues ps → B) (f : Scan) (y : B) (g : Scan) : Type 0 where
  pub held : PartValues ps
  pub is : y ≡ build held
  pub all : AllTaken ps f held g

pub reads_takes : {B : Type 0} (ps : Parts) → AllLawful ps → (build : PartValues ps → B) (f g : Scan) (y : B)
    → IsBytes f.front.rest → f.nodes ≤ 4096 → reads ps build f ≡ Ok (y, g) → PartsTaken ps build f y g
reads_takes done l build f g y h k e =
    let p = ok_inj e in
    let P : Scan → Type 0 = λ s. AllTaken done f tt s in
    record { held = tt; is = sym (ap (λ q. q.0) p); all = subst P (ap (λ q. q.1) p) (record { took = Took-none f; fit = tt; within = k }) }
reads_takes (p & ps) l build f g y h k e =
    let b = bind_ok (p.read f) _ _ e in
    let x = b.first in
    let t = l.0.takes f x.1 x.0 h k b.read in
    let rest = reads_takes ps l.1 (λ xs. build (x.0, xs)) x.1 g y (Took-bytes t.took h) t.within b.then_read in
    record { held = (x.0, rest.held); is = rest.is; all = record { took = Took-then t.took rest.all.took; fit = (t.fits, rest.all.fit); within = rest.all.within } }

pub reads_again : {B : Type 0} (ps : Parts) → AllLawful ps → (build : PartValues ps → B) (f g : Scan) (xs : PartValues ps)
    → AllFit ps xs → Took f (bytes_of_parts ps xs) (nodes_of_parts ps xs) g → g.nodes ≤ 4096 → reads ps build f ≡ Ok (build xs, g)
reads_again done l build f g xs h t k =
    let same : f ≡ g = sym (scan_is g f.front.at f.nodes f.front.rest (omega (arith, t.place)) (sym t.parts) (omega (arith, t.count))) in
    ap (λ s. Ok (build tt, s)) same
reads_again (p & ps) l build f g xs h t k =
    let bs = p.bytes xs.0 in
    let cs = bytes_of_parts ps xs.1 in
    let a = p.nodes xs.0 in
    let b = nodes_of_parts ps xs.1 in
    let m = between f bs cs a g in
    let first = Took-first f g bs cs a b t in
    let second = Took-second f g bs cs a b t in
    let small : m.nodes ≤ 4096 = omega (arith, second.count) in
    bind_is _ (l.0.again f m xs.0 h.0 first small) (reads_again ps l.1 (λ ys. build (xs.0, ys)) m g xs.1 h.1 second k)

pub reads_go : {B : Type 0} (ps : Parts) → AllLawful ps → (build : PartValues ps → B) (more : List ChunkItem) (f : Scan)
    → Goes step (items_of_parts ps more) f (λ _. more) (reads ps build f)
reads_go done l build more f = idle step more f (build tt)
reads_go (p & ps) l build more f =
    chain step (p.item ∷ items_of_parts ps more) f (λ _. items_of_parts ps more) (λ _. more) (p.read f) _ (l.0.goes (items_of_parts ps more) f)
    (λ x _. reads_go ps l.1 (λ xs. build (x.0, xs)) more x.1)

-- ---- a tag and its parts

-- a tag is one byte
pub record Tag {T : Type 0} (read : Reader T) (Allowed : T → Type 0) (byte : T → ℕ) (cost : ℕ) : Type 0 where
  pub may : (f g : Scan) (t : T) → read f ≡ Ok (t, g) → Allowed t
  pub takes : (f g : Scan) (t : T) → IsBytes f.front.rest → f.nodes ≤ 4096 → read f ≡ Ok (t, g) → Took f (byte t ∷ []) cost g × (g.nodes ≤ 4096)
  pub again : (f g : Scan) (t : T) → Allowed t → Took f (byte t ∷ []) cost g → g.nodes ≤ 4096 → read f ≡ Ok (t, g)

-- a tree is its form with its parts, and so are its bytes
abbrev pub FormIs : {T A : Type 0} (byte : T → ℕ) (cost : ℕ) (forms : T → Parts) (build : (t : T) → PartValues (forms t) → A)
    → Option ((t : T) × PartValues (forms t)) → A → List ℕ → ℕ → Type 0
FormIs byte cost forms build None x bytes nodes = Unit {0}
FormIs byte cost forms build (Some y) x bytes nodes =
    (x ≡ build y.0 y.1) × (bytes ≡ byte y.0 ∷ bytes_of_parts (forms y.0) y.1) × (nodes ≡ cost + nodes_of_parts (forms y.0) y.1)

module _ {T A : Type 0} (i : ChunkItem) (tag : Reader T) (Allowed : T → Type 0) (byte : T → ℕ) (cost : ℕ) (forms : T → Parts) (build : (t : T) → PartValues (forms t) → A)
    (parts : A → Option ((t : T) × PartValues (forms t))) (bytes : A → List ℕ) (nodes : A → ℕ)
    (law : Tag tag Allowed byte cost) (lawful : (t : T) → Allowed t → AllLawful (forms t))
    (is_form : (x : A) → FormIs byte cost forms build (parts x) x (bytes x) (nodes x))
    (form_is : (t : T) (xs : PartValues (forms t)) → parts (build t xs) ≡ Some (t, xs))
    (steps : (more : List ChunkItem) (f : Scan) → step i more f ≡ (tag f >>= λ t. Ok (items_of_parts (forms t.0) more, t.1))) where
  abbrev part : Part A
  part = tagged_part i tag Allowed forms build parts bytes nodes

  built_has_form : (t : T) (xs : PartValues (forms t)) → FormIs byte cost forms build (Some (t, xs)) (build t xs) (bytes (build t xs)) (nodes (build t xs))
  built_has_form t xs =
      let P : Option ((u : T) × PartValues (forms u)) → Type 0 = λ o. FormIs byte cost forms build o (build t xs) (bytes (build t xs)) (nodes (build t xs)) in
      subst P (form_is t xs) (is_form (build t xs))

  formed_takes : (f g : Scan) (x : A) → IsBytes f.front.rest → f.nodes ≤ 4096 → part.read f ≡ Ok (x, g) → Taken part f x g
  unfolding tagged_at
  formed_takes f g x h k e =
      let b = bind_ok (tag f) _ _ e in
      let t = b.first.0 in
      let m = b.first.1 in
      let allowed = law.may f m t b.read in
      let took = law.takes f m t h k b.read in
      let r = reads_takes (forms t) (lawful t allowed) (build t) m g x (Took-bytes took.0 h) took.1 b.then_read in
      let whole : Took f (byte t ∷ bytes_of_parts (forms t) r.held) (cost + nodes_of_parts (forms t) r.held) g = Took-then took.0 r.all.took in
      let is = built_has_form t r.held in
      let fits : FormFits Allowed forms (parts (build t r.held)) =
      let P : Option ((u : T) × PartValues (forms u)) → Type 0 = FormFits Allowed forms in subst P (sym (form_is t r.held)) (allowed, r.all.fit) in
      let P : A → Type 0 = λ y. Taken part f y g in
      subst P (sym r.is) (record { took = Took-as (sym is.1) (sym is.2) whole; fits = fits; within = r.all.within })

  again_by : (f g : Scan) (x : A) (o : Option ((t : T) × PartValues (forms t))) → FormIs byte cost forms build o x (bytes x) (nodes x) → FormFits Allowed forms o
      → Took f (bytes x) (nodes x) g → g.nodes ≤ 4096 → tagged_at tag forms build f ≡ Ok (x, g)
  unfolding tagged_at
  again_by f g x None is fits took k = absurd fits
  again_by f g x (Some y) is fits took k =
      let bs = byte y.0 ∷ [] in
      let cs = bytes_of_parts (forms y.0) y.1 in
      let b = nodes_of_parts (forms y.0) y.1 in
      let m = between f bs cs cost g in
      let u : Took f (bs ++ cs) (cost + b) g = Took-as is.1 is.2 took in
      let second = Took-second f g bs cs cost b u in
      let small : m.nodes ≤ 4096 = omega (arith, second.count) in
      bind_is _ (law.again f m y.0 fits.0 (Took-first f g bs cs cost b u) small) (reads_again (forms y.0) (lawful y.0 fits.0) (build y.0) m g y.1 fits.1 second k)
      ∙ (λ j. Ok (sym is.0 j, g))

  formed_goes : (more : List ChunkItem) (f : Scan) → Goes step (i ∷ more) f (λ _. more) (part.read f)
  unfolding tagged_at
  formed_goes more f =
      chain step (i ∷ more) f (λ t. items_of_parts (forms t) more) (λ _. more) (tag f) _
      (one_step step i more f (λ t. items_of_parts (forms t) more) (tag f) (steps more f))
      (λ x h. reads_go (forms x.0) (lawful x.0 (law.may f x.1 x.0 h)) (build x.0) more x.1)

  pub formed_lawful : Lawful part
  formed_lawful = record {
    takes = formed_takes;
    again = λ f g x fits took k. again_by f g x (parts x) (is_form x) fits took k;
    goes = formed_goes;
  }

-- ---- lists with a count

many_takes : {A : Type 0} (p : Part A) → Lawful p → (n : ℕ) (f g : Scan) (xs : List A) → IsBytes f.front.rest → f.nodes ≤ 4096
    → many p.read n f ≡ Ok (xs, g) → Took f (flat_map p.bytes xs) (sum_by p.nodes xs) g × EachFits p.Fits xs × (length xs ≡ n) × (g.nodes ≤ 4096)
unfolding many
many_takes {A} p l zero f g xs h k e =
    let q = ok_inj e in
    let P : List A × Scan → Type 0 = λ r. Took f (flat_map p.bytes r.0) (sum_by p.nodes r.0) r.1 × EachFits p.Fits r.0 × (length r.0 ≡ 0) × (r.1.nodes ≤ 4096) in
    subst P q (Took-none f, tt, refl, k)
many_takes {A} p l (suc n) f g xs h k e =
    let b = bind_ok (p.read f) _ _ e in
    let c = bind_ok (many p.read n b.first.1) _ _ b.then_read in
    let t = l.takes f b.first.1 b.first.0 h k b.read in
    let r = many_takes p l n b.first.1 c.first.1 c.first.0 (Took-bytes t.took h) t.within c.read in
    let q = ok_inj c.then_read in
    let P : List A × Scan → Type 0 = λ r. Took f (flat_map p.bytes r.0) (sum_by p.nodes r.0) r.1 × EachFits p.Fits r.0 × (length r.0 ≡ suc n) × (r.1.nodes ≤ 4096) in
    subst P q (Took-as refl (sym (sum_by-cons p.nodes b.first.0 c.first.0)) (Took-then t.took r.0), (t.fits, r.1), ap suc r.2, r.3)

many_again : {A : Type 0} (p : Part A) → Lawful p → (xs : List A) (f g : Scan) → EachFits p.Fits xs → Took f (flat_map p.bytes xs) (sum_by p.nodes xs) g → g.nodes ≤ 4096
    → many p.read (length xs) f ≡ Ok (xs, g)
unfolding many
many_again p l [] f g h t k =
    let same : f ≡ g = sym (scan_is g f.front.at f.nodes f.front.rest (omega (arith, t.place)) (sym t.parts) (omega (arith, t.count))) in
    ap (λ s. Ok ([], s)) same
many_again p l (x ∷ xs) f g h t k =
    let bs = p.bytes x in
    let cs = flat_map p.bytes xs in
    let a = p.nodes x in
    let b = sum_by p.nodes xs in
    let u : Took f (bs ++ cs) (a + b) g = Took-as refl (sum_by-cons p.nodes x xs) t in
    let m = between f bs cs a g in
    let first = Took-first f g bs cs a b u in
    let second = Took-second f g bs cs a b u in
    let small : m.nodes ≤ 4096 = omega (arith, second.count) in
    bind_is _ (l.again f m x h.0 first small) (bind_is _ (many_again p l xs m g h.1 second k) refl)

pub count_takes : (limit : Limit) (least most : ℕ) (f g : Scan) (n : ℕ) → IsBytes f.front.rest → count_field limit least most f ≡ Ok (n, g)
    → Took f (n ∷ []) 0 g × (least ≤ n) × (n ≤ most)
unfolding count_field
count_takes limit least most f g n h e =
    let b = bind_ok (number_field w8 f) _ _ e in
    let c = bind_ok (allowed_or_fault (nat_le least b.first.0) (BadTag f.front.at) b.first) _ _ b.then_read in
    let x = allowed_ok _ _ b.first c.first c.read in
    let y = allowed_ok _ _ c.first (n, g) c.then_read in
    let same : b.first ≡ (n, g) = x.1 ∙ y.1 in
    let t = byte_takes f b.first.1 b.first.0 h b.read in
    let low : least ≤ b.first.0 = leb-true least b.first.0 x.0 in
    let high : c.first.0 ≤ most = leb-true c.first.0 most y.0 in
    let P : ℕ × Scan → Type 0 = λ q. Took f (q.0 ∷ []) 0 q.1 × (least ≤ q.0) × (q.0 ≤ most) in
    let high_too : b.first.0 ≤ most = let Q : ℕ × Scan → Type 0 = λ q. q.0 ≤ most in subst Q (sym x.1) high in
    subst P same (t.0, low, high_too)

pub count_again : (limit : Limit) (least most : ℕ) (f g : Scan) (n : ℕ) → least ≤ n → n ≤ most → Took f (n ∷ []) 0 g → count_field limit least most f ≡ Ok (n, g)
unfolding count_field
count_again limit least most f g n low high t =
    bind_is _ (byte_again f g n t) (bind_is _ (allowed_is _ _ (n, g) (le-leb least n low)) (allowed_is _ _ (n, g) (le-leb n most high)))

pub several_lawful : {A : Type 0} (limit : Limit) (least most : ℕ) (p : Part A) → Lawful p → Lawful (several limit least most p)
unfolding counted_at
several_lawful limit least most p l = record {
  takes = λ f g xs h k e.
      let b = bind_ok (count_field limit least most f) _ _ e in
      let c = count_takes limit least most f b.first.1 b.first.0 h b.read in
      let small : b.first.1.nodes ≤ 4096 = omega (arith, c.0.count) in
      let m = many_takes p l b.first.0 b.first.1 g xs (Took-bytes c.0 h) small b.then_read in
      record {
        took = Took-as (ap (λ n. n ∷ flat_map p.bytes xs) (sym m.2)) (omega arith) (Took-then c.0 m.0);
        fits = (omega (arith, c.1, m.2), omega (arith, c.2, m.2), m.1);
        within = m.3;
      };
  again = λ f g xs h t k.
      let bs = length xs ∷ [] in
      let cs = flat_map p.bytes xs in
      let b = sum_by p.nodes xs in
      let m = between f bs cs 0 g in
      let u : Took f (bs ++ cs) (0 + b) g = Took-as refl (omega arith) t in
      let second = Took-second f g bs cs 0 b u in
      bind_is _ (count_again limit least most f m (length xs) h.0 h.1 (Took-first f g bs cs 0 b u)) (many_again p l xs m g h.2 second k);
  goes = λ more f.
      chain step (counted limit least most p.item ∷ more) f (λ n. times n p.item more) (λ _. more) (count_field limit least most f) _
      (one_step step (counted limit least most p.item) more f (λ n. times n p.item more) (count_field limit least most f) refl)
      (λ x _. many_goes step p.item p.read l.goes x.0 more x.1);
}

pub list_lawful : {A : Type 0} (p : Part A) → Lawful p → Lawful (list_of p)
unfolding listed_at
list_lawful p l = record {
  takes = λ f g xs h k e.
      let b = bind_ok (number_field w16 f) _ _ e in
      let c = number_takes w16 wide16 f b.first.1 b.first.0 h b.read in
      let small : b.first.1.nodes ≤ 4096 = omega (arith, c.0.count) in
      let m = many_takes p l b.first.0 b.first.1 g xs (Took-bytes c.0 h) small b.then_read in
      record {
        took = Took-as (ap (λ n. to_be_bytes w16 n ++ flat_map p.bytes xs) (sym m.2)) (omega arith) (Took-then c.0 m.0);
        fits = (let P : ℕ → Type 0 = λ n. n < 2 ^ 16 in subst P (sym m.2) c.1, m.1);
        within = m.3;
      };
  again = λ f g xs h t k.
      let bs = to_be_bytes w16 (length xs) in
      let cs = flat_map p.bytes xs in
      let b = sum_by p.nodes xs in
      let m = between f bs cs 0 g in
      let u : Took f (bs ++ cs) (0 + b) g = Took-as refl (omega arith) t in
      let second = Took-second f g bs cs 0 b u in
      bind_is _ (number_again w16 wide16 f m (length xs) h.0 (Took-first f g bs cs 0 b u)) (many_again p l xs m g h.1 second k);
  goes = λ more f.
      chain step (listed p.item ∷ more) f (λ n. times n p.item more) (λ _. more) (number_field w16 f) _
      (one_step step (listed p.item) more f (λ n. times n p.item more) (number_field w16 f) refl)
      (λ x _. many_goes step p.item p.read l.goes x.0 more x.1);
}

-- ---- constructs without a tag

-- a step that reads nothing
pub opens : {B : Type 0} (i : ChunkItem) (more mid : List ChunkItem) (f m : Scan) (r : Scan → Result (B × Scan) SpellFault)
    → step i more f ≡ Ok (mid, m) → Goes step mid m (λ _. more) (r m) → Goes step (i ∷ more) f (λ _. more) (r m)
opens {B} i more mid f m r e k =
    let none : Result (Unit {0} × Scan) SpellFault = Ok (tt, m) in
    chain step {A = Unit {0}} {B = B} (i ∷ more) f (λ _. mid) (λ _. more) none (λ x. r x.1) (one_step step i more f (λ _. mid) none e)
    (λ x h. let same : m ≡ x.1 = ap (λ q. q.1) (ok_inj h) in let P : Scan → Type 0 = λ s. Goes step mid s (λ _. more) (r s) in subst P same k)

module _ {A : Type 0} (i : ChunkItem) (forms : Parts) (build : PartValues forms → A) (parts : A → PartValues forms) (bytes : A → List ℕ) (nodes : A → ℕ)
    (lawful : AllLawful forms) (back : (xs : PartValues forms) → parts (build xs) ≡ xs) (same : (x : A) → build (parts x) ≡ x)
    (bytes_is : (x : A) → bytes x ≡ bytes_of_parts forms (parts x)) (nodes_is : (x : A) → nodes x ≡ nodes_of_parts forms (parts x))
    (steps : (more : List ChunkItem) (f : Scan) → step i more f ≡ Ok (items_of_parts forms more, f)) where
  pub joined_lawful : Lawful (untagged_part i forms build parts bytes nodes)
  joined_lawful = record {
    takes = λ f g x h k e.
        let r = reads_takes forms lawful build f g x h k e in
        let own : parts x ≡ r.held = ap parts r.is ∙ back r.held in
        let P : PartValues forms → Type 0 = λ xs. Took f (bytes_of_parts forms xs) (nodes_of_parts forms xs) g × AllFit forms xs in
        let q : P (parts x) = subst P (sym own) (r.all.took, r.all.fit) in
        record { took = Took-as (sym (bytes_is x)) (sym (nodes_is x)) q.0; fits = q.1; within = r.all.within };
    again = λ f g x fits t k.
        reads_again forms lawful build f g (parts x) fits (Took-as (bytes_is x) (nodes_is x) t) k ∙ (λ j. Ok (same x j, g));
    goes = λ more f. opens i more (items_of_parts forms more) f f (reads forms build) (steps more f) (reads_go forms lawful build more f);
  }
