-- Bytes that are added to a file in pieces.
use Rattle.std.proofs.Common.{ℕ, ◌+◌, ◌-◌, ◌≤◌, List, [], ◌++◌, length, take, drop, refl, sym, ap, ◌∙◌, subst, append_assoc, append-nil, length-drop, IsTrue, Option, IsSome, unwrap_or, arith}
use Rattle.std.proofs.Math.Seq.{take-add}
use Rattle.node_io.specs.FileMaps.{FileMap, contents, ChangesOnly, WritesMore}
use Rattle.node_io.specs.FileStates.{FilesState, OnlyWrites, Adds, AddsSome, AddsNone, FailsAdding}
use Rattle.node_io.proofs.SinkLaws.{rest_is}

-- ---- maps

more_none : (old : FileMap) (name : List ℕ) → WritesMore old old name []
more_none old name = record { here = sym (append-nil (contents old name)); there = λ h. h; others = λ other differs. refl }

more_both : (a b c : FileMap) (name x y : List ℕ) → WritesMore a b name x → WritesMore b c name y → WritesMore a c name (x ++ y)
more_both a b c name x y u v = record {
  here = v.here ∙ ap (λ l. l ++ y) u.here ∙ append_assoc (contents a name) x y;
  there = λ h. v.there (u.there h);
  others = λ other differs. v.others other differs ∙ u.others other differs;
}

-- a file that has these bytes more now
pub more_changed : (old new : FileMap) (name bytes : List ℕ) → ChangesOnly old new name (contents old name ++ bytes) → WritesMore old new name bytes
more_changed old new name bytes c = record {
  here = ap (λ (o : Option (List ℕ)). unwrap_or o []) c.here;
  there = λ h. subst (λ (o : Option (List ℕ)). IsSome o) (sym c.here) refl;
  others = c.others;
}

-- ---- files

pub only_same : (s : FilesState) → OnlyWrites s s
only_same s = record { observable = refl; asked = refl; reading = refl; read_faults = refl; later = omega arith }

pub only_both : (a b c : FilesState) → OnlyWrites a b → OnlyWrites b c → OnlyWrites a c
only_both a b c u v = record {
  observable = v.observable ∙ u.observable;
  asked = v.asked ∙ u.asked;
  reading = v.reading ∙ u.reading;
  read_faults = v.read_faults ∙ u.read_faults;
  later = omega (arith, u.later, v.later);
}

-- nothing yet
pub adds_none : (s : FilesState) → Adds s s []
adds_none s = record { only = only_same s; made = refl; writing = refl; target = refl; held = λ seen. more_none s.held s.target }

-- one after the other
pub adds_both : (a b c : FilesState) (x y : List ℕ) → Adds a b x → Adds b c y → Adds a c (x ++ y)
adds_both a b c x y u v = record {
  only = only_both a b c u.only v.only;
  made = v.made ∙ u.made;
  writing = v.writing ∙ u.writing;
  target = v.target ∙ u.target;
  held = λ seen. more_both a.held b.held c.held a.target x y (u.held seen)
      (subst (λ name. WritesMore b.held c.held name y) u.target (v.held (subst IsTrue (sym u.only.observable) seen)));
}

pub some_added : (b c : FilesState) (bytes : List ℕ) (at n : ℕ) → at ≤ length bytes → AddsSome b c (take (length bytes - at) (drop at bytes)) n → at + n ≤ length bytes
some_added b c bytes at n h v = omega (arith, h, subst (λ l. n ≤ length l) (rest_is at bytes) v.within, length-drop at bytes)

-- some more of the bytes
pub adds_more : (a b c : FilesState) (bytes : List ℕ) (at n : ℕ) → Adds a b (take at bytes) → AddsSome b c (take (length bytes - at) (drop at bytes)) n → Adds a c (take (at + n) bytes)
adds_more a b c bytes at n u v =
    subst (Adds a c) (ap (λ l. take at bytes ++ take n l) (rest_is at bytes) ∙ sym (take-add at n bytes)) (adds_both a b c (take at bytes) (take n (take (length bytes - at) (drop at bytes))) u v.is)

-- no more of them
pub fails_adding_at : (a b c : FilesState) (bytes : List ℕ) (at : ℕ) → Adds a b (take at bytes) → AddsNone b c → FailsAdding a c bytes
fails_adding_at a b c bytes at u v = record {
  count = at;
  is = subst (Adds a c) (append-nil (take at bytes)) (adds_both a b c (take at bytes) [] u v.is);
  rose = omega (arith, u.only.later, v.rose);
}
